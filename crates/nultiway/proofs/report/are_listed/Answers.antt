use Rattle.std.proofs.Common.{ℕ, ◌≡◌, ◌+◌, ◌-◌, ◌*◌, [], get_or, take, drop, sym, ap, ◌∙◌, arith}
use Rattle.records.specs.Records.{records}
use Rattle.records.proofs.Words.RecordLaws.{record-at}
use Rattle.records.proofs.Words.RowLaws.{scan-fails, scan-goes, scan-ends}
use Rattle.nultiway.specs.PeerCalls.{is_listed}
use Rattle.nultiway.proofs.report.are_listed.Goals as goal

pub returns-then-not-is_listed : goal.returns-then-not-is_listed
returns-then-not-is_listed c =
    let s = c.args in
    let i = c.loop-i.i in
    let three : 3 ≡ i * 3 + 3 - i * 3 = omega arith in
    let told : is_listed (get_or (records 3 s.n s.words.now) i []) ≡ c.is_listed.result =
    ap is_listed (record-at 3 s.n s.words.now i c.loop-i-test.true ∙ ap (λ (k : ℕ). take k (drop (i * 3) s.words.now)) three) ∙ sym c.is_listed.ensures in
    scan-fails is_listed 3 s.n s.words.now i c.loop-i.invariant c.loop-i-test.true (told ∙ c.if-not-is_listed.true)

pub loop-i-preserved : goal.loop-i-preserved
loop-i-preserved c =
    let s = c.args in
    let i = c.loop-i.i in
    let three : 3 ≡ i * 3 + 3 - i * 3 = omega arith in
    let told : is_listed (get_or (records 3 s.n s.words.now) i []) ≡ c.is_listed.result =
    ap is_listed (record-at 3 s.n s.words.now i c.loop-i-test.true ∙ ap (λ (k : ℕ). take k (drop (i * 3) s.words.now)) three) ∙ sym c.is_listed.ensures in
    scan-goes is_listed 3 s.n s.words.now i c.loop-i.invariant c.loop-i-test.true (told ∙ c.if-not-is_listed.false)

pub returns : goal.returns
returns c = scan-ends is_listed 3 c.args.n c.args.words.now c.loop-i.i c.loop-i.invariant c.loop-i-test.false
