-- The same quota keeps the meter; another takes the debt along.
use mathlib.Core.Path.{ap, ◌∙◌, sym}
use Rattle.std.specs.declared.option.Option.TheVariants.{Some}
use Rattle.gcra.proofs.Rate.Rates.{same-keeps, other-carries, carried-unset, carried-at}
use Rattle.gcra.proofs.Gcra.changed.Goals as goal

pub returns-then-eq : goal.returns-then-eq
returns-then-eq c = same-keeps _ _ _ (sym c.eq.ensures ∙ c.if-eq.true)

pub returns-in-None : goal.returns-in-None
returns-in-None c =
    let s = c.args in
    other-carries s.self s.quota s.now (sym c.eq.ensures ∙ c.if-eq.false) (carried-unset s.self.tat s.self.quota s.quota s.now c.in-None.is)

pub returns-in-Some : goal.returns-in-Some
returns-in-Some c =
    let s = c.args in
    other-carries s.self s.quota s.now (sym c.eq.ensures ∙ c.if-eq.false)
    (ap Some c.carry_tat.ensures ∙ carried-at s.self.tat c.in-Some.at s.self.quota s.quota s.now c.in-Some.is)
