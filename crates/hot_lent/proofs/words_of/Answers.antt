use Rattle.std.proofs.Common.{◌+◌, ◌-◌, ◌*◌, ◌++◌, List, ℕ, take, drop, length-append, length-drop, length-take, refl, ap, ◌∙◌, arith}
use Rattle.hot_lent.proofs.CopyLaws.{none-copied, copied_more, all-copied}
use Rattle.hot_lent.proofs.words_of.Goals as goal

pub loop-i-init : goal.loop-i-init
loop-i-init c = record { copied = none-copied; long = refl }

pub loop-i-preserved : goal.loop-i-preserved
loop-i-preserved c =
    let l = c.loop-i in
    record {
      copied =
          ap (λ (r : List ℕ). take ((l.i + 1) * 6) (take (l.i * 6) l.words ++ (r ++ drop (l.i * 6 + 6 - l.i * 6) (drop (l.i * 6) l.words)))) (c.copy_from_slice.ensures.after ∙ c.words.ensures)
          ∙ copied_more l.i c.args.entries.now _ l.words _ (omega arith) (omega arith) l.invariant.copied;
      long = simp (length-append, length-take, length-drop) (omega (arith, c.copy_from_slice.ensures.len));
    }

pub returns-clause-front : goal.returns-clause-front
returns-clause-front c = all-copied c.args.entries.now c.loop-i.i c.loop-i.words (omega arith) c.loop-i.invariant.copied
