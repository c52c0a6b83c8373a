-- The record goes over the old one, or in at its gap.
use Rattle.std.proofs.Common.{sym, ap, ◌∙◌, refl, ◌||◌, ltb, ℕ}
use borrow.Author.Tests.{ltb-true}
use Rattle.std.specs.Result.{is_ok}
use Rattle.std.specs.declared.result.Result.{Result}
use Rattle.limiter.specs.Steps.KeySteps.{key_record}
use Rattle.limiter.specs.Steps.CheckSteps.{found_as}
use Rattle.limiter.specs.State.{units_for}
use Rattle.limiter.proofs.Checking.KeyTableLaws.{put-over, put_in}
use Rattle.limiter.proofs.checks.put.Goals as goal

pub words-words-requires : goal.words-words-requires
unfolding units_for
words-words-requires c = c.requires.quota_value

pub returns-in-Ok : goal.returns-in-Ok
unfolding units_for
returns-in-Ok c =
    let s = c.args in
    put-over s.limiter s.keys.now c.requires.ready (key_record s.entry.state) c.in-Ok.place
    (sym (ap found_as c.in-Ok.is) ∙ c.requires.placed)
    _ _ _ c.words-words.ensures refl c.overwrite.ensures.t_after

pub returns-in-Err : goal.returns-in-Err
unfolding units_for
returns-in-Err c =
    let s = c.args in
    put_in s.limiter s.keys.now c.requires.ready (key_record s.entry.state) c.in-Err.place
    (sym (ap found_as c.in-Err.is) ∙ c.requires.placed)
    (ltb-true _ _
    (sym (ap (λ (p : Result ℕ ℕ). is_ok p || ltb s.limiter.keys s.limiter.config.table_size) c.in-Err.is) ∙ c.requires.table_size_value))
    _ _ _ c.words-words.ensures refl c.insert.ensures.t_after
