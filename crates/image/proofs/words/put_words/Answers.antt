use Rattle.std.proofs.Common.{ℕ, ◌+◌, ◌*◌, ◌≤◌, get_or, take, length, refl, sym, ap, ◌∙◌, arith}
use native.Mathlib.Numerals.{add-one}
use lib.Seq.{take-suc, length-take-le}
use Rattle.records.specs.Words.{paste}
use Rattle.records.specs.Records.{flat}
use Rattle.image.specs.Image.{bytes}
use Rattle.image.proofs.Reading.ByteLaws.{length-words-bytes}
use Rattle.image.proofs.Saving.PutLaws.{paste_none, item-pasted}
use Rattle.image.proofs.words.put_words.Goals as goal

pub loop-j-init : goal.loop-j-init
unfolding flat
loop-j-init c = (refl, sym (paste_none c.args.at c.args.out.now))

pub loop-j-preserved : goal.loop-j-preserved
loop-j-preserved c =
    let p = c.put_word in
    let l = c.loop-j in
    let s = c.args in
    let h : l.j ≤ length s.ws.now = omega (arith, c.loop-j-test.true) in (
      p.auto.out ∙ l.invariant.0,
      p.ensures ∙ ap (paste (s.at + 8 * l.j) (bytes 8 (get_or s.ws.now l.j 0))) l.invariant.1
          ∙ item-pasted (bytes 8) (take l.j s.ws.now) (take (l.j + 1) s.ws.now) (get_or s.ws.now l.j 0)
          (ap (λ (m : ℕ). take m s.ws.now) (add-one l.j) ∙ take-suc s.ws.now l.j 0 c.loop-j-test.true)
          s.at (s.at + 8 * l.j) s.out.now (omega arith)
          (omega (arith, length-words-bytes (take l.j s.ws.now), length-take-le l.j s.ws.now h)),
    )
