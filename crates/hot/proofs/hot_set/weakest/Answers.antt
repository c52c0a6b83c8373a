use Rattle.std.proofs.Common.{◌+◌, ℕ, subst, sym, ◌∙◌}
use Rattle.hot.proofs.HotSet.Scan.{Weakest, weakest-start, weakest-next, weakest-same, weakest-done}
use Rattle.hot.proofs.hot_set.weakest.Goals as goal
use Rattle.hot.proofs.hot_set.weakest.Goals.{then-total_less, else-total_less}

pub loop-i-init : goal.loop-i-init
loop-i-init c = weakest-start c.args.n c.args.hot.now c.requires.entries_ready c.requires.n_nonzero

pub loop-i-preserved : goal.loop-i-preserved
loop-i-preserved c =
    let i = c.loop-i.i in
    elim c.if-total_less.branch [
      | then-total_less w ↦
          subst (λ (m : ℕ). Weakest c.args.n c.args.hot.now m (i + 1)) (sym w.least-is)
          (weakest-next c.args.n c.args.hot.now c.requires.entries_ready _ i c.loop-i.invariant c.loop-i-test.true (sym c.total_less.ensures ∙ w.if-total_less.true))
      | else-total_less w ↦
          subst (λ (m : ℕ). Weakest c.args.n c.args.hot.now m (i + 1)) (sym w.least-is)
          (weakest-same c.args.n c.args.hot.now c.requires.entries_ready _ i c.loop-i.invariant c.loop-i-test.true (sym c.total_less.ensures ∙ w.if-total_less.false))
    ]

pub returns : goal.returns
returns c =
    weakest-done c.args.n c.args.hot.now c.requires.entries_ready _ _ _ c.loop-i.invariant c.loop-i-test.false c.of_words.ensures
