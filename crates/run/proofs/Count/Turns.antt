-- What one call may do to one key: at most one shift (its quota changes, it is dropped, it is made), and then at most one check, all by the meter's
-- definitions. And that with the quota the same no TAT is lowered.
use Prim.Native.Nat.{ℕ, ◌^◌, ◌≤◌, ◌<◌}
use mathlib.Core.Path.{◌≡◌, refl, sym, ◌∙◌}
use mathlib.Core.Bool.{true, cond, and-false, false≢true}
use mathlib.Core.List.{List, [], ◌∷◌, ◌++◌}
use native.Mathlib.Omega.{arith}
use borrow.Author.Tests.{le-ltb}
use lib.Dec.{ltb}
use Rattle.gcra.specs.declared.Units.{Units}
use Rattle.gcra.specs.declared.Quota.{Quota}
use Rattle.gcra.specs.declared.Gcra.{Gcra}
use Rattle.gcra.specs.Packed.{valid_quota}
use Rattle.gcra.specs.Rate.{carried, same_quota, set_quota}
use Rattle.gcra.specs.Meter.{is_allow, tat_word, decision, check}
use Rattle.gcra.proofs.Meter.Checks.{check-quota, check-fits, check-raises}
use Rattle.gcra.proofs.Rate.Rates.{by-quota, set-fits}
use Rattle.run.specs.Seen.{Seen, goes_on, lowered, change, NeverLowered}
use Rattle.std.specs.declared.option.Option.{Option}
use Rattle.std.specs.declared.option.Option.TheVariants.{None, Some}

-- ---- turns

-- a meter without a TAT
abbrev pub fresh : Quota → Gcra
fresh q = record { quota = q; tat = None }

-- at most one check at the reading t, which allows so many: 1 or 0
pub data Gate (t : ℕ) : Gcra → ℕ → Gcra → Type 0 where
  unchecked : {g : Gcra} → Gate t g 0 g
  checked : {g : Gcra} → Gate t g (cond (is_allow (decision g t)) 1 0) (check g t)

-- a call at the reading t: of the key's meter before it, how many checks it allows, and the meter after it
pub data Turn (u : Units) (t : ℕ) : Option Gcra → ℕ → Option Gcra → Type 0 where
  absent : Turn u t None 0 None
  drops : {g : Gcra} → Turn u t (Some g) 0 None
  makes : {q : Quota} {a : ℕ} {h : Gcra} → valid_quota u q ≡ true → Gate t (fresh q) a h → Turn u t None a (Some h)
  keeps : {g : Gcra} {a : ℕ} {h : Gcra} → Gate t g a h → Turn u t (Some g) a (Some h)
  sets : {g : Gcra} (q : Quota) {a : ℕ} {h : Gcra} → valid_quota u q ≡ true → Gate t (set_quota g q t) a h → Turn u t (Some g) a (Some h)

-- a list of them, after a call that left m
abbrev pub Turns : Units → Option Gcra → List Seen → Type 0
Turns u m [] = Unit
Turns u m (x ∷ xs) = Turn u x.at m x.allowed x.meter × Turns u x.meter xs

-- what is left of the key by a list of calls
abbrev pub after : Option Gcra → List Seen → Option Gcra
after m [] = m
after m (x ∷ xs) = after x.meter xs

-- Turns one after the other are turns.
pub turns_then : (u : Units) (m : Option Gcra) (xs ys : List Seen) → Turns u m xs → Turns u (after m xs) ys → Turns u m (xs ++ ys)
turns_then u m [] ys first then = then
turns_then u m (x ∷ xs) ys first then = (first.0, turns_then u x.meter xs ys first.1 then)

-- another quota, with the TAT carried over to it
abbrev pub carried_to : Gcra → Quota → ℕ → Gcra
carried_to g q t = record { quota = q; tat = carried g.tat g.quota q t }

-- A check leaves the quota.
pub gate-quota : {t : ℕ} {g : Gcra} {a : ℕ} {h : Gcra} → Gate t g a h → h.quota ≡ g.quota
gate-quota unchecked = refl
gate-quota {t} {g} checked = check-quota g t

-- ---- TATs fit a u64, and with the quota the same none is lowered

-- the TAT fits
abbrev pub Fits : Option Gcra → Type 0
Fits None = Unit
Fits (Some g) = tat_word g.tat < 2 ^ 64

-- A check and a turn leave a TAT that fits.
pub gate-fits : {t : ℕ} {g : Gcra} {a : ℕ} {h : Gcra} → Gate t g a h → Fits (Some g) → Fits (Some h)
gate-fits unchecked l = l
gate-fits {t} {g} checked l = check-fits g t l

pub turn-fits : {u : Units} {t : ℕ} {m : Option Gcra} {a : ℕ} {m' : Option Gcra} → Turn u t m a m' → Fits m → Fits m'
turn-fits absent l = tt
turn-fits drops l = tt
turn-fits (makes v gate) l = gate-fits gate (omega arith)
turn-fits (keeps gate) l = gate-fits gate l
turn-fits {t} (sets {g} q v gate) l = gate-fits gate (set-fits g q t l)

-- A check does not lower a TAT.
gate-raises : {t : ℕ} {g : Gcra} {a : ℕ} {h : Gcra} → Gate t g a h → Fits (Some g) → tat_word g.tat ≤ tat_word h.tat
gate-raises unchecked l = omega arith
gate-raises {t} {g} checked l = check-raises g t l

-- Where the quota stays the same, a turn does not lower the TAT.
turn-raises : {u : Units} {t : ℕ} {g : Gcra} {a : ℕ} {h : Gcra} → Turn u t (Some g) a (Some h) → same_quota h.quota g.quota ≡ true
    → Fits (Some g)
    → tat_word g.tat ≤ tat_word h.tat
turn-raises (keeps gate) e l = gate-raises gate l
turn-raises {t} {g} {a} {h} (sets q v gate) e l =
    by-quota (λ (k : Gcra). Gate t k a h → tat_word g.tat ≤ tat_word h.tat) g q t
    (λ same. gate-raises same l)
    (λ other carries. absurd (false≢true (sym other ∙ (rw (gate-quota carries) at e))))
    gate

-- A TAT that is no lower is not lowered.
not-lowered : (at a b : ℕ) → a ≤ b → lowered at a b ≡ 0
not-lowered at a b l = rw (le-ltb b a l, and-false (ltb at a))

-- A turn in which a spell goes on counts as no change of quota.
pub no_change : {u : Units} {t : ℕ} (m : Option Gcra) {a : ℕ} (m' : Option Gcra) → Turn u t m a m' → Fits m → goes_on m m' ≡ true → change t m m' ≡ 0
no_change None m' turn l e = refl
no_change (Some g) None turn l e = refl
no_change {t} (Some g) (Some h) turn l e = rw e (not-lowered t (tat_word g.tat) (tat_word h.tat) (turn-raises turn e l))

-- 'a tick that by rounding lowers a TAT ahead of its reading, the quota the same': no list of turns has one.
pub never_lowered : (u : Units) (m : Option Gcra) (xs : List Seen) → Turns u m xs → Fits m → NeverLowered m xs
never_lowered u m [] turns l = tt
never_lowered u m (x ∷ xs) turns l = (no_change m x.meter turns.0 l, never_lowered u x.meter xs turns.1 (turn-fits turns.0 l))
