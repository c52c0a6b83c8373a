-- A check is I.371's virtual scheduling, with I = T and L = T * (burst - 1), where what decides it is not held at a limit.
use Prim.Native.Nat.{ℕ, ◌+◌, ◌-◌, ◌*◌, ◌^◌, ◌≤◌, ◌<◌, max}
use mathlib.Core.Path.{◌≡◌, refl, sym, ap, ◌∙◌}
use mathlib.Core.Bool.{true, false}
use native.Mathlib.Omega.{arith}
use lib.Dec.{ltb}
use borrow.Author.Tests.{ltb-true, ltb-false, lt-ltb, le-ltb}
use Rattle.gcra.specs.declared.Gcra.{Gcra}
use Rattle.gcra.specs.declared.Pace.{Pace}
use Rattle.gcra.specs.declared.Stepped.{Stepped}
use Rattle.gcra.specs.Packed.{tau}
use Rattle.gcra.specs.Meter.{is_allow, earliest, decide, moved, attempt, pace_of, tat_at, decision, outcome}
use Rattle.gcra.specs.Schedule.{Cell, arrives, virtual_scheduling}
use Rattle.questions.proofs.Tests.{split}
use Rattle.gcra.proofs.Meter.Checks.{decide-allow, decide-deny, attempt-allow, attempt-deny, check-attempts}
use Rattle.std.specs.declared.option.Option.{Option}
use Rattle.std.specs.declared.option.Option.TheVariants.{None, Some}

-- a check's outcome as a cell's
abbrev pub cell : Stepped → Cell
cell s = record { conforms = is_allow s.decision; tat = s.tat }

-- One attempt is one arrival at a limit L of at least tau: an allowed one where TAT is not held at 2^64 - 1, a denied one where L is tau.
pub attempt-arrives : (p : Pace) (L tat now : ℕ) → p.tau ≤ L
    → (is_allow (decide p tat now) ≡ true → max tat now + p.t < 2 ^ 64)
    → (is_allow (decide p tat now) ≡ false → L ≤ p.tau)
    → cell (attempt p tat now) ≡ arrives p.t L tat now
unfolding arrives
attempt-arrives p L tat now most fits free =
    split (ltb now (earliest p tat))
    (λ e.
    let l = ltb-true now (earliest p tat) e in
    let k = free (ap is_allow (decide-deny p tat now l)) in
    rw (attempt-deny p tat now l, le-ltb tat now (omega arith), lt-ltb (now + L) tat (omega arith)))
    (λ e.
    let l = ltb-false now (earliest p tat) e in
    let k = fits (ap is_allow (decide-allow p tat now l)) in
    split (ltb tat now)
    (λ f.
    let b = ltb-true tat now f in
    let m : moved p tat now ≡ now + p.t = omega arith in
    rw (attempt-allow p tat now l, f, m))
    (λ f.
    let b = ltb-false tat now f in
    let m : moved p tat now ≡ tat + p.t = omega arith in
    rw (attempt-allow p tat now l, f, le-ltb (now + L) tat (omega arith), m)))

-- a TAT as I.371 has it: none before the first cell
abbrev pub theoretical : Option ℕ → Option ℕ
theoretical None = None
theoretical (Some tat) = Some tat

first_cell : (I L : ℕ) (tat : Option ℕ) (now : ℕ) → virtual_scheduling I L (theoretical tat) now ≡ arrives I L (tat_at tat now) now
unfolding virtual_scheduling
first_cell I L None now = refl
first_cell I L (Some t) now = refl

-- A check decides and moves the TAT as virtual scheduling does: an allowed one where TAT is not held at its limit, a denied one where tau is not.
pub check-schedules : (g : Gcra) (now : ℕ) → let q = g.quota in
    (is_allow (decision g now) ≡ true → max (tat_at g.tat now) now + q.interval < 2 ^ 64)
    → (is_allow (decision g now) ≡ false → q.interval * (q.burst - 1) < 2 ^ 63)
    → cell (outcome g now) ≡ virtual_scheduling q.interval (q.interval * (q.burst - 1)) (theoretical g.tat) now
unfolding decision tau
check-schedules g now fits free =
    let q = g.quota in
    let tat = tat_at g.tat now in
    sym (ap cell (check-attempts q g.tat now))
    ∙ attempt-arrives (pace_of q) (q.interval * (q.burst - 1)) tat now (omega arith) fits (λ e. omega (arith, free e))
    ∙ sym (first_cell q.interval (q.interval * (q.burst - 1)) g.tat now)
