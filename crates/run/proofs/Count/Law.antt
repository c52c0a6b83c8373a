-- The count's law: in a list of turns from an untracked key, under the premises, every stretch keeps to the bound. By induction over the calls, with
-- n slots owed of the spell that began at the reading f: n and the checks still to be allowed are at most the bound of what is left.
use Prim.Native.Nat.{ℕ, zero, suc, ◌+◌, ◌-◌, ◌*◌, ◌/◌, ◌^◌, ◌≤◌, ◌<◌, min, max}
use mathlib.Core.Path.{◌≡◌, refl, subst}
use mathlib.Core.Bool.{true, false, cond}
use mathlib.Core.List.{List, [], ◌∷◌, ◌++◌}
use native.Mathlib.Omega.{arith}
use native.Mathlib.Nat.{mul-le-mul_right, add-zero}
use Rattle.questions.proofs.Tests.{split}
use Rattle.gcra.specs.declared.Units.{Units}
use Rattle.gcra.specs.declared.Quota.{Quota}
use Rattle.gcra.specs.declared.Gcra.{Gcra}
use Rattle.gcra.specs.Packed.{Accepted, max_burst, valid_quota}
use Rattle.gcra.specs.Rate.{carried, same_quota}
use Rattle.gcra.specs.Meter.{is_allow, tat_word, decision, check}
use Rattle.gcra.proofs.Packed.Validity.{valid-quota}
use Rattle.gcra.proofs.Meter.Checks.{check-deny, check-fits}
use Rattle.gcra.proofs.Meter.Count.{full, within, Allowed, allows}
use Rattle.gcra.proofs.Rate.Rates.{equal-same, by-quota, set-fits}
use Rattle.gcra.proofs.Rate.Carry.{carry-keeps}
use Rattle.run.specs.Seen.{Seen, goes_on, change, changes, share, shares, last, allowed_in, burst_of, bound, KeepsToTheBound, Onward, stays, Kept, largest_burst, IsSmall, Small, Premises}
use Rattle.run.proofs.Count.Slots.{Carries, carried-over}
use Rattle.run.proofs.Count.Turns.{Gate, unchecked, checked, Turn, absent, drops, makes, keeps, sets, Turns, carried_to, gate-quota, Fits}
use Rattle.std.specs.declared.option.Option.{Option}
use Rattle.std.specs.declared.option.Option.TheVariants.{None, Some}

module _ (u : Units) (a : Accepted u) (largest : ℕ) where
  -- the most slots that are ahead of a reading
  abbrev B : ℕ
  B = min largest max_burst

  -- ---- what is owed

  -- a meter as turns leave it
  record Sound (g : Gcra) : Type 0 where
    valid : valid_quota u g.quota ≡ true
    few : g.quota.burst ≤ B
    fits : tat_word g.tat < 2 ^ 64

  -- n slots, of the spell that began at f, at the reading t
  record Owes (g : Gcra) (f t n : ℕ) : Type 0 where
    sound : Sound g
    began : f ≤ t
    owed : n * g.quota.interval + f ≤ max (tat_word g.tat) t
    most : n * g.quota.interval + f ≤ B * g.quota.interval + t

  -- an untracked key owes nothing
  abbrev Fair : Option Gcra → (f t n : ℕ) → Type 0
  Fair None f t n = n ≡ 0
  Fair (Some g) f t n = Owes g f t n

  -- after a call that allowed c checks: where it ends a stretch, those owed are at most the burst and the share
  record Counts (m : Option Gcra) (f t n c : ℕ) : Type 0 where
    fair : Fair m f t n
    ends : 0 < c → n ≤ burst_of m + share m f t

  -- An untracked key.
  untracked : {f t : ℕ} → Counts None f t 0 0
  untracked = record { fair = refl; ends = λ l. omega arith }

  -- Every meter owes 0 slots of a spell that begins.
  nothing : {g : Gcra} (t : ℕ) → Sound g → Owes g t t 0
  nothing t s = record { sound = s; began = omega arith; owed = omega arith; most = omega arith }

  -- Time passes.
  waits : (m : Option Gcra) (f s t n : ℕ) → s ≤ t → Fair m f s n → Fair m f t n
  waits None f s t n l o = o
  waits (Some g) f s t n l o = record { sound = o.sound; began = omega arith; owed = omega arith; most = omega arith }

  -- ---- a check

  -- An allowed one: a slot more is owed.
  passed : (g : Gcra) (f t n : ℕ) → Allowed g.quota g.tat t → tat_word (check g t).tat < 2 ^ 64 → Owes g f t n
      → Counts (Some (check g t)) f t (n + 1) 1
  passed g f t n c fits o =
      let v = valid-quota u g.quota o.sound.valid in
      let T = g.quota.interval in
      let e = full T g.quota.burst v.burst.least in
      let m : (n + 1) * T + f ≤ g.quota.burst * T + t = omega (arith, o.owed, c.reached) in
      rw c.left (record {
        fair = record {
          sound = record { valid = o.sound.valid; few = o.sound.few; fits = rw c.left at fits };
          began = o.began;
          owed = omega (arith, o.owed);
          most = omega (arith, mul-le-mul_right T o.sound.few);
        };
        ends = λ l. within (n + 1) T f t g.quota.burst v.least o.began m;
      })

  -- A denied one, or none: nothing changes.
  denied : {g : Gcra} {f t n : ℕ} → Owes g f t n → Counts (Some g) f t (n + 0) 0
  denied o = record { fair = rw add-zero o; ends = λ l. omega arith }

  -- Either: a slot more is owed for each check that is allowed.
  gated : {t : ℕ} {g : Gcra} {c : ℕ} {h : Gcra} (f n : ℕ) → t < 2 ^ 62 → Gate t g c h → Owes g f t n → Counts (Some h) f t (n + c) c
  gated f n early unchecked o = denied o
  gated {t} {g} f n early checked o =
      let v = valid-quota u g.quota o.sound.valid in
      split (is_allow (decision g t))
      (λ e. rw e (passed g f t n (allows g.quota g.tat t (omega (arith, v.most)) early e) (check-fits g t o.sound.fits) o))
      (λ e. rw (e, check-deny g t e) (denied o))

  -- ---- a change of quota

  -- The carry loses less than one slot.
  carries : (old new : Quota) (tat : Option ℕ) (t : ℕ) → valid_quota u old ≡ true → valid_quota u new ≡ true → tat_word tat < 2 ^ 64 → t < 2 ^ 62
      → new.interval * largest ≤ 2 ^ 61
      → Carries B old.interval new.interval t (max (tat_word tat) t) (max (tat_word (carried tat old new t)) t)
  carries old new None t vo vn fits early small zero few owed = omega (arith, (valid-quota u new vn).least)
  carries old new None t vo vn fits early small (suc p) few owed = absurd (omega (arith, (valid-quota u old vo).least))
  carries old new (Some tat) t vo vn fits early small p few owed =
      let l : p ≤ largest = omega arith in
      let m = mul-le-mul_right new.interval l in
      omega (arith, carry-keeps u a old new vo vn tat t p fits early (omega arith) (omega arith) (omega arith))

  -- So all slots that are owed, but the spell's share and two, are owed under the other quota.
  changed : (g : Gcra) (q : Quota) (f t n : ℕ) → t < 2 ^ 62 → q.interval * largest ≤ 2 ^ 61 → Sound (carried_to g q t) → Owes g f t n
      → Owes (carried_to g q t) t t (n - ((t - f) / g.quota.interval + 2))
  changed g q f t n early small s o =
      let T = g.quota.interval in
      let p = (valid-quota u g.quota o.sound.valid).least in
      let l : n - ((t - f) / T + 2) ≤ B = omega (arith, within n T f t B p o.began o.most) in
      record {
        sound = s;
        began = omega arith;
        owed =
            carried-over B n T q.interval f t (max (tat_word g.tat) t) (max (tat_word (carried_to g q t).tat) t) p o.began (omega arith)
            o.owed o.most
            (carries g.quota q g.tat t o.sound.valid s.valid o.sound.fits early small);
        most = omega (arith, mul-le-mul_right q.interval l);
      }

  -- ---- one call

  -- A meter is sound whose quota the key has after the check.
  sound-of : {t : ℕ} {g : Gcra} {c : ℕ} {h : Gcra} → Gate t g c h → valid_quota u g.quota ≡ true → Fits (Some g) → burst_of (Some h) ≤ largest
      → Sound g
  sound-of {g} gate v fits l =
      let w = valid-quota u g.quota v in
      let k : g.quota.burst ≤ largest = rw (gate-quota gate) at l in
      record { valid = v; few = omega (arith, w.burst.most); fits = fits }

  -- Where a stretch begins with the call, what the key owed before counts for nothing.
  begun : {t : ℕ} {m : Option Gcra} {c : ℕ} {m' : Option Gcra} (f s n : ℕ) → Turn u t m c m' → t < 2 ^ 62 → burst_of m' ≤ largest → Fair m f s n
      → Counts m' t t (0 + c) c
  begun f s n absent early l o = untracked
  begun f s n drops early l o = untracked
  begun {t} f s n (makes v gate) early l o = gated t 0 early gate (nothing t (sound-of gate v (omega arith) l))
  begun {t} f s n (keeps gate) early l o = gated t 0 early gate (nothing t o.sound)
  begun {t} {c} f s n (sets {g} q {h} v gate) early l o =
      by-quota (λ (k : Gcra). Gate t k c h → Fits (Some k) → Counts (Some h) t t (0 + c) c) g q t
      (λ same fits. gated t 0 early same (nothing t o.sound))
      (λ other carried fits. gated t 0 early carried (nothing t (sound-of carried v fits l)))
      gate (set-fits g q t o.sound.fits)

  -- what a call in a stretch does: the slots owed and the checks it allows are owed afterwards, or paid by the share of the spell that it ends and by
  -- two for a change. S stands for the shares still to come, by where the spell began
  record Turned (m m' : Option Gcra) (f t n c : ℕ) : Type 0 where
    f' : ℕ
    n' : ℕ
    counts : Counts m' f' t n' c
    enough : (S : ℕ → ℕ) → n + c + S f' ≤ n' + cond (goes_on m m') (S f) (share m f t + S t) + 2 * change t m m'

  -- The spell goes on.
  goes_on_lem : {t : ℕ} {g : Gcra} {c : ℕ} {h : Gcra} (f n : ℕ) → t < 2 ^ 62 → Gate t g c h → Owes g f t n → Turned (Some g) (Some h) f t n c
  goes_on_lem {g} {c} {h} f n early gate o =
      let e : same_quota h.quota g.quota ≡ true = rw (gate-quota gate) (equal-same g.quota g.quota refl) in
      record { f' = f; n' = n + c; counts = gated f n early gate o; enough = λ S. rw e (omega arith) }

  -- Another begins, with another quota.
  changes-quota : {t : ℕ} {g : Gcra} {c : ℕ} {h : Gcra} (q : Quota) (f n : ℕ) → t < 2 ^ 62 → IsSmall largest (Some h) → same_quota q g.quota ≡ false
      → Gate t (carried_to g q t) c h → Sound (carried_to g q t) → Owes g f t n → Turned (Some g) (Some h) f t n c
  changes-quota {t} {g} {c} {h} q f n early small other gate s o =
      let e : same_quota h.quota g.quota ≡ false = rw (gate-quota gate) other in
      let n' = n - ((t - f) / g.quota.interval + 2) in
      record {
        f' = t;
        n' = n' + c;
        counts = gated t n' early gate (changed g q f t n early (rw (gate-quota gate) at small) s o);
        enough = λ S. rw e (omega arith);
      }

  -- Every turn does that.
  turned : {t : ℕ} {m : Option Gcra} {c : ℕ} {m' : Option Gcra} (f n : ℕ) → Turn u t m c m' → t < 2 ^ 62 → stays t m m' → burst_of m' ≤ largest
      → IsSmall largest m' → Fair m f t n → Turned m m' f t n c
  turned f n absent early kept l small o = record { f' = f; n' = 0; counts = untracked; enough = λ S. omega arith }
  turned {t} f n (drops {g}) early kept l small o =
      let p = (valid-quota u g.quota o.sound.valid).least in
      let m = within n g.quota.interval f t 0 p o.began (omega (arith, o.owed)) in
      record { f' = t; n' = 0; counts = untracked; enough = λ S. omega arith }
  turned {t} {c} f n (makes v gate) early kept l small o =
      record { f' = t; n' = 0 + c; counts = begun f t n (makes v gate) early l o; enough = λ S. omega arith }
  turned f n (keeps gate) early kept l small o = goes_on_lem f n early gate o
  turned {t} {c} f n (sets {g} q {h} v gate) early kept l small o =
      by-quota (λ (k : Gcra). Gate t k c h → Fits (Some k) → Turned (Some g) (Some h) f t n c) g q t
      (λ same fits. goes_on_lem f n early same o)
      (λ other carried fits. changes-quota q f n early small other carried (sound-of carried v fits l) o)
      gate (set-fits g q t o.sound.fits)

  -- ---- a list of calls

  -- what a call is and what the premises say of it, after one at the reading `latest` that left m
  record Step (latest : ℕ) (m : Option Gcra) (x : Seen) : Type 0 where
    turn : Turn u x.at m x.allowed x.meter
    onward : latest ≤ x.at
    early : x.at < 2 ^ 62
    kept : stays x.at m x.meter
    burst : burst_of x.meter ≤ largest
    small : IsSmall largest x.meter

  -- of a list
  abbrev Steps : (latest : ℕ) → Option Gcra → List Seen → Type 0
  Steps latest m [] = Unit
  Steps latest m (x ∷ xs) = Step latest m x × Steps x.at x.meter xs

  -- From the premises of the whole.
  steps : (latest : ℕ) (m : Option Gcra) (xs : List Seen) → Turns u m xs → Onward latest xs → Kept m xs → Small largest xs → largest_burst xs ≤ largest
      → Steps latest m xs
  steps latest m [] turns onward kept small l = tt
  steps latest m (x ∷ xs) turns onward kept small l = (
    record { turn = turns.0; onward = onward.0; early = onward.1; kept = kept.0; burst = omega arith; small = small.0 },
    steps x.at x.meter xs turns.1 onward.2 kept.1 small.1 (omega arith),
  )

  -- A list's first calls.
  first-steps : (latest : ℕ) (m : Option Gcra) (xs ys : List Seen) → Steps latest m (xs ++ ys) → Steps latest m xs
  first-steps latest m [] ys all = tt
  first-steps latest m (x ∷ xs) ys all = (all.0, first-steps x.at x.meter xs ys all.1)

  -- After the call x, with n slots owed of the spell that began at f, through xs to an allowed check.
  through : (x : Seen) (xs : List Seen) (f n : ℕ) → Counts x.meter f x.at n x.allowed → Steps x.at x.meter xs → 0 < (last x xs).allowed
      → n + allowed_in xs ≤ burst_of (last x xs).meter + shares x.meter f x.at xs + 2 * changes x.meter xs
  through x [] f n counts all ended = omega (arith, counts.ends ended)
  through x (y ∷ ys) f n counts all ended =
      let s = all.0 in
      let r = turned f n s.turn s.early s.kept s.burst s.small (waits x.meter f x.at y.at n s.onward counts.fair) in
      omega (arith, r.enough (λ (z : ℕ). shares y.meter z y.at ys), through y ys r.f' r.n' r.counts all.1 ended)

  -- A stretch, wherever it stands in the list.
  stretch : (latest f n : ℕ) (m : Option Gcra) (before : List Seen) (first : Seen) (others after : List Seen)
      → Steps latest m (before ++ (first ∷ (others ++ after))) → Fair m f latest n → 0 < (last first others).allowed
      → allowed_in (first ∷ others) ≤ bound first others
  stretch latest f n m [] first others after all fair ended =
      let s = all.0 in
      omega (
        arith,
        through first others first.at (0 + first.allowed) (begun f latest n s.turn s.early s.burst fair)
            (first-steps first.at first.meter others after all.1) ended,
      )
  stretch latest f n m (b ∷ bs) first others after all fair ended =
      let s = all.0 in
      stretch b.at b.at (0 + b.allowed) b.meter bs first others after all.1
      (begun f latest n s.turn s.early s.burst fair).fair ended

-- Any list of turns from an untracked key keeps to the bound.
pub keeps-to-the-bound : (u : Units) → Accepted u → (all : List Seen) → Turns u None all → Premises all → KeepsToTheBound all
keeps-to-the-bound u a all turns p before first others after whole starts ended =
    let b = largest_burst all in
    let s = steps u a b 0 None all turns p.onward p.kept p.small (omega arith) in
    stretch u a b 0 0 0 None before first others after (subst (Steps u a b 0 None) whole s) refl ended
