use Rattle.std.proofs.Common.{ℕ, ◌≡◌, ◌+◌, ◌-◌, take, drop, ap, ◌∙◌, arith}
use Rattle.image.specs.Reader.{number}
use Rattle.image.proofs.Reading.ByteLaws.{le-number}
use Rattle.image.proofs.words.word_at.Goals as goal

pub returns : goal.returns
returns c =
    let s = c.args in
    let p = c.copy_from_slice.ensures in
    let d : s.at + 8 - s.at ≡ 8 = omega arith in
    c.from_le_bytes.ensures ∙ le-number _ p.len ∙ ap number (p.after ∙ ap (λ (n : ℕ). take n (drop s.at s.from.now)) d)
