-- `keep_record` meets its contract.
use Rattle.std.proofs.Common.{◌≡◌, ◌+◌, ◌*◌, sym, ap, ◌∙◌, mul-le-mul_right, arith, ℕ}
use Rattle.records.specs.Words.{copy_within}
use Rattle.records.proofs.Words.WordLaws.{copied_is, copy-here}
use Rattle.peers.proofs.peer_steps.keep_record.Goals.{then-kept-i, else-kept-i}
use Rattle.peers.proofs.peer_steps.keep_record.Goals as goal

pub returns-clause-t_after : goal.returns-clause-t_after
returns-clause-t_after c =
    let a = c.args in
    let r = c.requires in
    let below = mul-le-mul_right a.w r.1 in
    let stays = c.if-not-stays.false in
    rw stays
    (elim c.if-kept-i.branch [
      | then-kept-i w ↦ w.t-is ∙ w.copy_words.ensures.t_after ∙ copied_is _ _ _ _ (omega (arith, below, r.2))
      | else-kept-i w ↦
          let same : a.kept ≡ a.i = omega (arith, r.1, w.if-kept-i.false) in
          w.t-is
          ∙ sym (copy-here (a.i * a.w) (a.i * a.w + a.w) a.t.now (omega arith) r.2)
          ∙ ap (λ (m : ℕ). copy_within (a.i * a.w) (a.i * a.w + a.w) (m * a.w) a.t.now) (sym same)
    ])
