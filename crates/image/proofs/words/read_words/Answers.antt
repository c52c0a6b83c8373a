use Rattle.std.proofs.Common.{ℕ, ◌≡◌, ◌+◌, ◌*◌, List, take, drop, refl, sym, ap, ◌∙◌, arith}
use lib.ListN.{set}
use lib.Seq.{drop-drop}
use Rattle.records.specs.Records.{records}
use Rattle.image.specs.Reader.{number}
use Rattle.image.proofs.Loading.ReadLaws.{word-stored}
use Rattle.image.proofs.words.read_words.Goals as goal

pub loop-j-init : goal.loop-j-init
unfolding records
loop-j-init c = refl

pub loop-j-preserved : goal.loop-j-preserved
loop-j-preserved c =
    let l = c.loop-j in
    let s = c.args in
    let e : s.at + 8 * l.j ≡ s.at + l.j * 8 = omega arith in
    let there : drop (s.at + 8 * l.j) s.from.now ≡ drop (l.j * 8) (drop s.at s.from.now) =
    ap (λ (m : ℕ). drop m s.from.now) e ∙ sym (drop-drop (l.j * 8) s.at s.from.now) in
    (λ i. set (l.invariant i) l.j ((c.word_at.ensures ∙ ap (λ (bs : List ℕ). number (take 8 bs)) there) i))
    ∙ word-stored (drop s.at s.from.now) l.j s.ws.now c.loop-j-test.true
