-- Each pair is checked after those before it.
use Rattle.std.proofs.Common.{◌*◌, ◌+◌, length, arith}
use Rattle.records.proofs.Words.RecordLaws.{fits_le}
use Rattle.limiter.proofs.States.RecordValidLaws.{word_of}
use Rattle.limiter.proofs.Checking.EachLaws.{reached-none, pairs-burst, reached-ready, reached-next}
use Rattle.limiter.proofs.many_checks.check_pairs.Goals as goal

pub loop-i-init : goal.loop-i-init
loop-i-init c =
    let a = c.args in
    reached-none a.limiter a.keys.now a.list.now a.count a.cluster_size a.out.now c.requires

pub bounds-list-at : goal.bounds-list-at
bounds-list-at c = omega (arith, fits_le (length c.args.list.now) 2 c.args.count c.requires.pairs)

pub bounds-list-at-in-loop-i : goal.bounds-list-at-in-loop-i
bounds-list-at-in-loop-i c = omega (arith, fits_le (length c.args.list.now) 2 c.args.count c.requires.pairs)

pub check_key-checked-requires-clause-ready : goal.check_key-checked-requires-clause-ready
check_key-checked-requires-clause-ready c =
    let a = c.args in
    let l = c.loop-i in
    reached-ready a.limiter a.keys.now a.list.now a.count a.cluster_size a.out.now c.requires l.i l.left l.keys l.out l.invariant

pub check_key-checked-requires-clause-burst_value : goal.check_key-checked-requires-clause-burst_value
check_key-checked-requires-clause-burst_value c =
    let a = c.args in
    pairs-burst a.limiter a.keys.now a.list.now a.count a.cluster_size a.out.now c.requires

pub loop-i-preserved : goal.loop-i-preserved
loop-i-preserved c =
    let a = c.args in
    let l = c.loop-i in
    reached-next a.limiter a.keys.now a.list.now a.count a.cluster_size a.out.now c.requires l.i l.left l.keys l.out l.invariant
    c.check_key-checked.result _ _ c.check_key-checked.ensures c.put_answer.ensures
    (word_of (c.type_inv.list (l.i * 2)).fits) (word_of (c.type_inv.list (l.i * 2 + 1)).fits)
