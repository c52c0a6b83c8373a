use Rattle.std.proofs.Common.{ℕ, ◌≡◌, ◌+◌, List, length, ap, ◌∙◌, arith}
use Rattle.records.specs.Words.{paste}
use Rattle.image.specs.Image.{bytes}
use Rattle.image.proofs.Reading.ByteLaws.{length-bytes, le-bytes}
use Rattle.image.proofs.Loading.ReadLaws.{part-pasted}
use Rattle.image.proofs.words.put_word.Goals as goal

pub returns : goal.returns
returns c =
    let s = c.args in
    let p = c.copy_from_slice in
    let e : p.new.self ≡ bytes 8 s.w = p.ensures.after ∙ c.to_le_bytes.ensures ∙ le-bytes s.w in
    part-pasted s.at (s.at + 8) s.out.now p.new.self (omega arith) (omega (arith, ap length e, length-bytes 8 s.w)) ∙ ap (λ (r : List ℕ). paste s.at r s.out.now) e
