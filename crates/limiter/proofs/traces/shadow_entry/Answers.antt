-- The shadow found, or a fresh one; a table that passed question 2 is never unfit.
use Rattle.std.proofs.Common.{sym, ap, ◌∙◌, arith}
use Rattle.gcra.specs.declared.Gcra.{Gcra}
use Rattle.gcra.specs.Packed.{valid_quota}
use Rattle.gcra.specs.Rate.{set_quota}
use Rattle.gcra.proofs.Packed.Encoding.{units-accepted}
use Rattle.limiter.specs.Steps.KeySteps.{units}
use Rattle.limiter.proofs.Checking.ShadowTableLaws.{found-shadow, found_word, found-quota, meter-found, meter-fresh, never-unfit-shadow}
use Rattle.limiter.proofs.traces.shadow_entry.Goals as goal

pub overflow_mul-place : goal.overflow_mul-place
overflow_mul-place c =
    omega (arith, (found-shadow units units-accepted c.args.n c.args.shadows.now c.requires.shadows_ready c.args.key c.in-At.place (sym c.in-At.is ∙ c.find.ensures)).1)

pub overflow_add-place : goal.overflow_add-place
overflow_add-place c =
    omega (arith, (found-shadow units units-accepted c.args.n c.args.shadows.now c.requires.shadows_ready c.args.key c.in-At.place (sym c.in-At.is ∙ c.find.ensures)).1)

pub meter_of_words-known-requires : goal.meter_of_words-known-requires
meter_of_words-known-requires c =
    let s = c.args in
    let found = sym c.in-At.is ∙ c.find.ensures in (
      omega (arith, (found-shadow units units-accepted s.n s.shadows.now c.requires.shadows_ready s.key c.in-At.place found).1),
      found_word units units-accepted s.n s.shadows.now c.requires.shadows_ready s.key c.in-At.place found,
    )

pub under_quota-requires : goal.under_quota-requires
under_quota-requires c =
    let s = c.args in (
      ap (λ (g : Gcra). valid_quota units g.quota) c.meter_of_words-known.ensures
          ∙ found-quota units units-accepted s.n s.shadows.now c.requires.shadows_ready s.key c.in-At.place (sym c.in-At.is ∙ c.find.ensures),
      c.requires.wanted_value,
    )

pub returns-in-At : goal.returns-in-At
returns-in-At c =
    let s = c.args in
    let found = sym c.in-At.is ∙ c.find.ensures in
    record {
      meter = c.under_quota.ensures ∙ ap (λ (g : Gcra). set_quota g s.wanted s.reading) c.meter_of_words-known.ensures
          ∙ meter-found units units-accepted s.n s.shadows.now c.requires.shadows_ready s.key c.in-At.place found s.wanted s.reading;
      place = found;
    }

pub returns-in-Gap : goal.returns-in-Gap
returns-in-Gap c =
    let s = c.args in
    let gap = sym c.in-Gap.is ∙ c.find.ensures in
    record {
      meter = meter-fresh units units-accepted s.n s.shadows.now c.requires.shadows_ready s.key c.in-Gap.place gap s.wanted s.reading;
      place = gap;
    }

pub returns-in-Unfit : goal.returns-in-Unfit
returns-in-Unfit c =
    never-unfit-shadow units units-accepted c.args.n c.args.shadows.now c.requires.shadows_ready c.args.key (sym c.in-Unfit.is ∙ c.find.ensures)
