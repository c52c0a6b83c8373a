-- One check, by how it was decided.
use Prim.Native.Nat.{ℕ, ◌+◌, ◌-◌, ◌^◌, ◌≤◌, ◌<◌, min, max}
use mathlib.Core.Path.{◌≡◌, refl, sym, ap, ◌∙◌}
use mathlib.Core.Bool.{true, false, true≢false, false≢true}
use mathlib.Core.List.{List, ◌∷◌}
use native.Mathlib.Omega.{arith}
use borrow.Author.Tests.{lt-ltb, le-ltb, ltb-true, ltb-false}
use lib.Dec.{ltb}
use Rattle.gcra.specs.declared.Quota.{Quota}
use Rattle.gcra.specs.declared.Gcra.{Gcra}
use Rattle.gcra.specs.declared.Decision.TheVariants.{Allow, Deny}
use Rattle.gcra.specs.declared.Pace.{Pace}
use Rattle.gcra.specs.declared.Stepped.{Stepped}
use Rattle.gcra.specs.Meter.{is_allow, earliest, decide, moved, attempt, tat_word, pace_of, tat_at, decision, check, has_debt, outcome, checked}
use Rattle.gcra.specs.Run.{allowed}
use Rattle.questions.proofs.Tests.{split}
use Rattle.std.specs.declared.option.Option.{Option}
use Rattle.std.specs.declared.option.Option.TheVariants.{None, Some}
use Rattle.std.specs.declared.result.Result.TheVariants.{Ok}

module _ (p : Pace) (tat now : ℕ) where
  pub decide-deny : now < earliest p tat → decide p tat now ≡ Deny (earliest p tat)
  unfolding decide
  decide-deny h = rw (lt-ltb now (earliest p tat) h)

  pub decide-allow : earliest p tat ≤ now → decide p tat now ≡ Allow
  unfolding decide
  decide-allow h = rw (le-ltb now (earliest p tat) h)

  pub attempt-deny : now < earliest p tat → attempt p tat now ≡ record { decision = Deny (earliest p tat); tat = tat }
  unfolding attempt
  attempt-deny h = rw (decide-deny h)

  pub attempt-allow : earliest p tat ≤ now → attempt p tat now ≡ record { decision = Allow; tat = moved p tat now }
  unfolding attempt
  attempt-allow h = rw (decide-allow h)

  -- an allowed reading is not below TAT - tau
  pub allow-reaches : is_allow (decide p tat now) ≡ true → earliest p tat ≤ now
  allow-reaches h =
      split (ltb now (earliest p tat))
      (λ l. absurd (true≢false (sym h ∙ ap is_allow (decide-deny (ltb-true _ _ l)))))
      (λ l. ltb-false _ _ l)

  -- a denied one is below its retry time, which is TAT - tau
  pub deny-is : {r : ℕ} → decide p tat now ≡ Deny r → (now < r) × (r ≡ earliest p tat)
  deny-is {r} h =
      split (ltb now (earliest p tat))
      (λ l.
      let b : now < earliest p tat = ltb-true _ _ l in
      let e : Deny r ≡ Deny (earliest p tat) = sym h ∙ decide-deny b in
      let z : r ≡ earliest p tat = cc in
      (rw z b, z))
      (λ l.
      let e : Deny r ≡ Allow = sym h ∙ decide-allow (ltb-false _ _ l) in
      absurd (false≢true (ap is_allow e)))

module _ (g : Gcra) (now : ℕ) (s : Stepped) (e : s ≡ attempt (pace_of g.quota) (tat_at g.tat now) now) where
  pub stepped-decision : s.decision ≡ decision g now
  unfolding attempt decision
  stepped-decision = ap (λ (x : Stepped). x.decision) e

  pub checked-allow : is_allow s.decision ≡ true
      → record { answer = Ok s.decision; gcra = record { quota = g.quota; tat = Some s.tat } } ≡ checked g now
  unfolding attempt decision check checked
  checked-allow h = let k : is_allow (decide (pace_of g.quota) (tat_at g.tat now) now) ≡ true = rw e at h in rw (e, k)

  pub checked-deny : is_allow s.decision ≡ false → record { answer = Ok s.decision; gcra = g } ≡ checked g now
  unfolding attempt decision check checked
  checked-deny h = let k : is_allow (decide (pace_of g.quota) (tat_at g.tat now) now) ≡ false = rw e at h in rw (e, k)

-- what a check leaves, by how it was decided
module _ (g : Gcra) (now : ℕ) where
  pub check-allow : is_allow (decision g now) ≡ true
      → check g now ≡ record { quota = g.quota; tat = Some (moved (pace_of g.quota) (tat_at g.tat now) now) }
  unfolding check
  check-allow h = rw h

  pub check-deny : is_allow (decision g now) ≡ false → check g now ≡ g
  unfolding check
  check-deny h = rw h

  -- the quota stays
  pub check-quota : (check g now).quota ≡ g.quota
  check-quota = split (is_allow (decision g now)) (λ h. rw (check-allow h)) (λ h. rw (check-deny h))

  -- a TAT that fits a u64 is followed by one
  pub check-fits : tat_word g.tat < 2 ^ 64 → tat_word (check g now).tat < 2 ^ 64
  check-fits l = split (is_allow (decision g now)) (λ h. rw (check-allow h) (omega arith)) (λ h. rw (check-deny h) l)

-- A missing TAT counts as no less than 0.
pub tat-at-least : (tat : Option ℕ) (now : ℕ) → tat_word tat ≤ tat_at tat now
tat-at-least None now = omega arith
tat-at-least (Some t) now = omega arith

-- A check does not lower a TAT that fits a u64.
pub check-raises : (g : Gcra) (now : ℕ) → tat_word g.tat < 2 ^ 64 → tat_word g.tat ≤ tat_word (check g now).tat
check-raises g now l =
    split (is_allow (decision g now))
    (λ e. rw (check-allow g now e) (omega (arith, tat-at-least g.tat now)))
    (λ e. rw (check-deny g now e) (omega arith))

-- A Gcra without debt has no TAT ahead of the reading.
pub no-debt : (q : Quota) (tat : Option ℕ) (now : ℕ) → has_debt (record { quota = q; tat = tat }) now ≡ false → tat_word tat ≤ now
unfolding has_debt
no-debt q None now e = omega arith
no-debt q (Some t) now e = ltb-false now t e

-- A missing TAT decides and moves as TAT 0 does.
pub unset-is-zero : (p : Pace) (tat : Option ℕ) (now : ℕ) → attempt p (tat_at tat now) now ≡ attempt p (tat_word tat) now
unset-is-zero p None now =
    attempt-allow p now now (omega arith)
    ∙ ap (λ (n : ℕ). record { decision = Allow; tat = min (n + p.t) (2 ^ 64 - 1) }) same
    ∙ sym (attempt-allow p 0 now (omega arith))
  where
    same : max now now ≡ max 0 now
    same = omega arith
unset-is-zero p (Some t) now = refl

-- A check is one attempt on its TAT, a missing one counting as the reading.
pub check-attempts : (q : Quota) (tat : Option ℕ) (now : ℕ) → attempt (pace_of q) (tat_at tat now) now ≡ outcome (record { quota = q; tat = tat }) now
unfolding attempt decision check
check-attempts q None now = let e : decide (pace_of q) now now ≡ Allow = decide-allow (pace_of q) now now (omega arith) in rw e
check-attempts q (Some t) now = split (is_allow (decide (pace_of q) t now)) (λ h. rw h) (λ h. rw h)

-- And so with 0 for none.
pub check-is-attempt : (g : Gcra) (now : ℕ) → attempt (pace_of g.quota) (tat_word g.tat) now ≡ outcome g now
check-is-attempt g now = sym (unset-is-zero (pace_of g.quota) g.tat now) ∙ check-attempts g.quota g.tat now

-- the allowed readings of a list, by how the first check is decided
module _ (g : Gcra) (now : ℕ) (later : List ℕ) where
  pub allowed-first : is_allow (decision g now) ≡ true → allowed g (now ∷ later) ≡ now ∷ allowed (check g now) later
  unfolding allowed
  allowed-first h = rw h

  pub denied-first : is_allow (decision g now) ≡ false → allowed g (now ∷ later) ≡ allowed g later
  unfolding allowed
  denied-first h = rw h (ap (λ (x : Gcra). allowed x later) (check-deny g now h))
