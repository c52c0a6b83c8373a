-- A denied check, asked again at its retry time with no allowed check between, is allowed.
use Prim.Native.Nat.{ℕ}
use mathlib.Core.Path.{◌≡◌, refl, sym, ap, ◌∙◌}
use mathlib.Core.Bool.{true}
use mathlib.Core.List.{List, [], ◌∷◌}
use native.Mathlib.Omega.{arith}
use Rattle.gcra.specs.declared.Quota.{Quota}
use Rattle.gcra.specs.declared.Gcra.{Gcra}
use Rattle.gcra.specs.declared.Decision.TheVariants.{Deny}
use Rattle.gcra.specs.Meter.{is_allow, pace_of, decision}
use Rattle.gcra.specs.Run.{after, allowed}
use Rattle.questions.proofs.Tests.{split}
use Rattle.gcra.proofs.Meter.Checks.{decide-allow, deny-is, check-deny, allowed-first, denied-first}
use Rattle.std.specs.declared.option.Option.{Option}
use Rattle.std.specs.declared.option.Option.TheVariants.{None, Some}

cons-nil : {t : ℕ} {ts : List ℕ} → t ∷ ts ≡ [] → ⊥
cons-nil h = let z : ◌≡◌ {A = ℕ} 0 1 = cc in omega arith

-- Denied checks leave the Gcra as it was.
pub denied-keep : (g : Gcra) (ts : List ℕ) → allowed g ts ≡ [] → after g ts ≡ g
unfolding after
denied-keep g [] h = refl
denied-keep g (t ∷ ts) h =
    split (is_allow (decision g t))
    (λ e. absurd (cons-nil (sym (allowed-first g t ts e) ∙ h)))
    (λ e. rw (check-deny g t e) (denied-keep g ts (sym (denied-first g t ts e) ∙ h)))

-- A check at the retry time is allowed: it reaches TAT - tau.
pub at-retry : (q : Quota) (tat : Option ℕ) (now r : ℕ) → decision (record { quota = q; tat = tat }) now ≡ Deny r
    → is_allow (decision (record { quota = q; tat = tat }) r) ≡ true
unfolding decision
at-retry q None now r h = ap is_allow (decide-allow (pace_of q) r r (omega arith))
at-retry q (Some t) now r h = ap is_allow (decide-allow (pace_of q) t r (omega (arith, (deny-is (pace_of q) t now h).1)))

-- A denied check's retry time, asked again at that time after any list of denied checks, is allowed.
pub retry-allowed : (g : Gcra) (now r : ℕ) (ts : List ℕ) → decision g now ≡ Deny r → allowed g (now ∷ ts) ≡ []
    → is_allow (decision (after g (now ∷ ts)) r) ≡ true
retry-allowed g now r ts h none = rw (denied-keep g (now ∷ ts) none) (at-retry g.quota g.tat now r h)
