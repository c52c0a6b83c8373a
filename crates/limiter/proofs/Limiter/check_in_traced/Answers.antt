-- A 'no' of the questions, or the check with a shadow or without.
use Rattle.std.specs.declared.option.Option.TheVariants.{None}
use Rattle.limiter.proofs.Calls.CheckValidLaws.{Given}
use Rattle.limiter.proofs.Checking.LiftLaws.{Passed, burst-passed, ready, shadows-ready}
use Rattle.limiter.proofs.Checking.TraceLiftLaws.{bursts-passed, traced-done, traced-passed, traced-refused, traced-room}
use Rattle.limiter.proofs.States.RecordValidLaws.{word_of}
use Rattle.limiter.specs.Checks.{both_limit_questions, cluster_questions}
use Rattle.limiter.specs.State.{tables}
use Rattle.limiter.specs.declared.Limit.{Limit}
use Rattle.questions.specs.Questions.{passes}
use Rattle.std.specs.declared.option.Option.{Option}
use mathlib.Core.Bool.{true}
use mathlib.Core.List.{◌++◌}
use mathlib.Core.Path.{refl, subst, ◌≡◌}
use Rattle.limiter.proofs.Limiter.check_in_traced.Goals as goal

pub returns-in-Err : goal.returns-in-Err
returns-in-Err c =
    let s = c.args in
    rw c.refused.ensures
    (traced-refused s.self (tables s.keys.now s.hot.now s.shadows.now) s.key s.limit s.reading s.cluster_size s.shadow _ c.in-Err.ensures)

pub trace_none-requires : goal.trace_none-requires
trace_none-requires c =
    let s = c.args in
    let p = traced-passed s.self (tables s.keys.now s.hot.now s.shadows.now) s.key s.limit s.reading s.cluster_size s.shadow _ c.in_default.ensures refl in
    let q : passes (both_limit_questions s.limit None ++ cluster_questions s.cluster_size) ≡ true = subst (λ (x : Option Limit). passes (both_limit_questions s.limit x ++ cluster_questions s.cluster_size) ≡ true) c.in-None.is p.rest in
    record {
      ready = ready s.self (tables s.keys.now s.hot.now s.shadows.now) p.room p.ok;
      shadows_ready = shadows-ready s.self (tables s.keys.now s.hot.now s.shadows.now) p.room p.ok;
      burst_value = burst-passed s.limit s.cluster_size q;
    }

pub trace_with-requires : goal.trace_with-requires
trace_with-requires c =
    let s = c.args in
    let p = traced-passed s.self (tables s.keys.now s.hot.now s.shadows.now) s.key s.limit s.reading s.cluster_size s.shadow _ c.in_default.ensures refl in
    let w = subst (λ (x : Option Limit). Passed s.self (tables s.keys.now s.hot.now s.shadows.now) (both_limit_questions s.limit x ++ cluster_questions s.cluster_size)) c.in-Some.is p in
    let g : Given s.key s.limit s.reading = record { key_word = word_of c.ranges.key.fits; rate_f64 = c.well_formed.1.1.1.1.1.0.1.1.0.1; now_word = word_of c.ranges.reading.fits } in
    record {
      ready = ready s.self (tables s.keys.now s.hot.now s.shadows.now) w.room w.ok;
      shadows_ready = shadows-ready s.self (tables s.keys.now s.hot.now s.shadows.now) w.room w.ok;
      burst_value = bursts-passed s.limit c.in-Some.tried s.cluster_size w.rest;
      roomy = traced-room s.self (tables s.keys.now s.hot.now s.shadows.now) s.key s.reading s.limit c.in-Some.tried s.cluster_size w g;
    }

pub returns-in-None : goal.returns-in-None
returns-in-None c =
    let s = c.args in
    let p = traced-passed s.self (tables s.keys.now s.hot.now s.shadows.now) s.key s.limit s.reading s.cluster_size s.shadow _ c.in_default.ensures refl in
    traced-done s.self (tables s.keys.now s.hot.now s.shadows.now) s.key s.limit s.reading s.cluster_size s.shadow _ c.in-None.is p c.trace_none.result _ _ c.trace_none.ensures

pub returns-in-Some : goal.returns-in-Some
returns-in-Some c =
    let s = c.args in
    let p = traced-passed s.self (tables s.keys.now s.hot.now s.shadows.now) s.key s.limit s.reading s.cluster_size s.shadow _ c.in_default.ensures refl in
    traced-done s.self (tables s.keys.now s.hot.now s.shadows.now) s.key s.limit s.reading s.cluster_size s.shadow _ c.in-Some.is p c.trace_with.result _ _ c.trace_with.ensures
