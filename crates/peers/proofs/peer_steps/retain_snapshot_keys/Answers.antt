-- `retain_snapshot_keys` meets its contract.
use Rattle.std.proofs.Common.{ℕ, Bool, List, map, refl, ap, ◌∙◌, arith}
use Rattle.records.specs.Records.{records}
use Rattle.records.proofs.Words.RecordLaws.{length-records}
use Rattle.records.proofs.Tables.TableLaws.{wide-records}
use Rattle.peers.specs.Peers.Records.{peer_of, snapshot_key_of}
use Rattle.peers.specs.Peers.State.{has_snapshot}
use Rattle.records.proofs.Changes.KeepLaws.{kept-none, kept-first, kept-inside, kept-copied}
use Rattle.peers.proofs.peer_steps.retain_snapshot_keys.Goals as goal

abbrev test : List ℕ → ℕ → List ℕ → Bool
test peers n x = has_snapshot (map peer_of (records 12 n peers)) (snapshot_key_of x).peer

pub loop-i-init : goal.loop-i-init
loop-i-init c =
    let xs : List ℕ = c.args.snapshot_keys.now in
    kept-none (test c.args.peers.now c.args.n) 4 c.args.k (records 4 c.args.k xs) xs (omega arith) c.requires.1
    (wide-records 4 c.args.k xs c.requires.1) (length-records 4 c.args.k xs)

pub keep_record-kept-requires : goal.keep_record-kept-requires
keep_record-kept-requires c =
    let s = c.args in
    let l = c.loop-i in
    let inside = kept-inside (test s.peers.now s.n) 4 s.k (records 4 s.k s.snapshot_keys.now) s.snapshot_keys.now l.snapshot_keys l.i l.kept l.invariant c.loop-i-test.true in
    (omega arith, inside.0, inside.1)

pub loop-i-preserved : goal.loop-i-preserved
unfolding snapshot_key_of
loop-i-preserved c =
    let l = c.loop-i in
    let s = c.args in
    let xs : List ℕ = s.snapshot_keys.now in
    let rs : List (List ℕ) = records 4 s.k xs in
    let p : List ℕ → Bool = test s.peers.now s.n in
    kept-copied p 4 s.k rs xs l.snapshot_keys l.i l.kept l.invariant c.loop-i-test.true
    c.has_snapshot-stays.result c.keep_record-kept.new.t c.keep_record-kept.result refl
    (c.has_snapshot-stays.ensures _ c.place-place.ensures.place
    ∙ ap (has_snapshot (map peer_of (records 12 s.n s.peers.now))) (kept-first p 4 s.k rs xs l.snapshot_keys l.i l.kept l.invariant c.loop-i-test.true))
    c.keep_record-kept.ensures.value
    c.keep_record-kept.ensures.t_after
