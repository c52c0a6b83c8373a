-- Packed words: a quota comes back with its interval rounded up to its unit, and so a valid one as itself; `decode` reads its T and tau, and `step` decides as a check does.
-- For every accepted table of units.
use Prim.Native.Nat.{ℕ, ◌+◌, ◌*◌, ◌^◌, ◌≤◌, ◌<◌, min, max}
use mathlib.Core.Path.{◌≡◌, refl, ap, ◌∙◌}
use mathlib.Core.Bool.{true}
use Rattle.gcra.specs.declared.Units.{Units}
use Rattle.gcra.specs.declared.Quota.{Quota}
use Rattle.gcra.specs.declared.Gcra.{Gcra}
use native.Mathlib.Omega.{arith}
use lib.Dec.{ltb, eqb}
use borrow.Author.Tests.{lt-ltb, eq-eqb, ltb-true, eqb-true}
use Rattle.gcra.specs.Packed.{accepted, Accepted, width, encode, rounded, max_interval, with_interval, valid_burst, valid_quota, pack, value_of, unit_of, burst_of, unpacks, unpack, valid_word, decode}
use Rattle.gcra.specs.Meter.{step, tat_word, pace_of, outcome}
use Rattle.questions.proofs.Tests.{both, and_intro}
use Rattle.gcra.proofs.Packed.Encoding.{RoundedUp, accepted-says, encode-takes, rounded-back, rounded-rounded}
use Rattle.gcra.proofs.Packed.Validity.{Valid, valid-burst, valid-quota, quota-valid, made-valid}
use Rattle.gcra.proofs.Meter.Checks.{check-is-attempt}

-- the three fields of a word that is put together from them
field-value : (v k b : ℕ) → k < 3 → b < 2 ^ 22 → value_of (v * 2 ^ 24 + k * 2 ^ 22 + b) ≡ v
field-value v k b h l = omega arith

pub field-unit : (v k b : ℕ) → k < 3 → b < 2 ^ 22 → unit_of (v * 2 ^ 24 + k * 2 ^ 22 + b) ≡ k
field-unit v k b h l = omega arith

field-burst : (v k b : ℕ) → k < 3 → b < 2 ^ 22 → burst_of (v * 2 ^ 24 + k * 2 ^ 22 + b) ≡ b
field-burst v k b h l = omega arith

pub record Fields (u : Units) (q : Quota) (w : ℕ) : Type 0 where
  pub unit : unit_of w < 3
  pub interval : value_of w * width u (unit_of w) ≡ q.interval
  pub burst : burst_of w ≡ q.burst

-- ---- any interval up to the longest

-- what a quota is kept as: its interval rounded up to its unit, and its burst
abbrev pub kept : Units → Quota → Quota
kept u q = record { interval = rounded u q.interval; burst = q.burst }

module _ (u : Units) (a : Accepted u) (q : Quota) (l : q.interval ≤ max_interval u) (b : q.burst < 2 ^ 22) where
  -- its word holds what it is kept as
  kept-fields : Fields u (kept u q) (pack u q)
  unfolding pack rounded
  kept-fields =
      let e = encode u q.interval in
      let t = encode-takes u q.interval a l in
      let ev = field-value e.value e.unit q.burst t.code b in
      let eu = field-unit e.value e.unit q.burst t.code b in
      record { unit = rw eu t.code; interval = rw (ev, eu); burst = field-burst e.value e.unit q.burst t.code b }

  unpack-kept : 1 ≤ q.interval → unpack u (pack u q) ≡ kept u q
  unfolding unpack with_interval
  unpack-kept o =
      let r = rounded-back u a q.interval l in
      let held : min (max (rounded u q.interval) 1) (max_interval u) ≡ rounded u q.interval = omega (arith, r.least, r.most) in
      rw (kept-fields.interval, kept-fields.burst, held, rounded-rounded u a q.interval l)

-- a quota that comes back with its interval rounded up to its unit, and its burst unchanged
pub record ComesBack (u : Units) (q back : Quota) : Type 0 where
  pub interval : RoundedUp u q.interval back.interval
  pub burst : back.burst ≡ q.burst

-- For every accepted table: an interval from 1 up to the longest, packed and unpacked, comes back rounded up to its unit, and the burst unchanged.
pub packed-comes-back : (u : Units) → accepted u ≡ true → (q : Quota) → 1 ≤ q.interval → q.interval ≤ max_interval u → valid_burst q.burst ≡ true
    → ComesBack u q (unpack u (pack u q))
packed-comes-back u h q o l v =
    let a = accepted-says u h in
    let b : q.burst < 2 ^ 22 = omega (arith, (valid-burst q.burst v).most) in
    rw (unpack-kept u a q l b o) record { interval = rounded-back u a q.interval l; burst = refl }

-- ---- a valid quota
module _ (u : Units) (a : Accepted u) (q : Quota) (h : valid_quota u q ≡ true) where
  valid : Valid u q
  valid = valid-quota u q h

  small : q.burst < 2 ^ 22
  small = omega (arith, valid.burst.most)

  -- its word holds its interval and burst
  pub fields : Fields u q (pack u q)
  fields =
      let f = kept-fields u a q valid.most small in
      record { unit = f.unit; interval = f.interval ∙ valid.own; burst = f.burst }

  -- `unpack` of `pack` gives the quota back.
  pub unpack-pack : unpack u (pack u q) ≡ q
  unpack-pack = unpack-kept u a q valid.most small valid.least ∙ ap (λ (n : ℕ). record { interval = n; burst = q.burst }) valid.own

  -- `decode` of `pack` gives T and tau.
  pub decode-pack : decode u (pack u q) ≡ pace_of q
  unfolding decode
  decode-pack = rw (fields.interval, fields.burst)

  -- A packed word is a valid word.
  pub pack-valid : valid_word u (pack u q) ≡ true
  unfolding valid_word
  pack-valid =
      and_intro _ _ (and_intro _ _ (lt-ltb _ 3 fields.unit) (lt-ltb 0 (burst_of (pack u q)) (omega (arith, fields.burst, valid.burst.least))))
      (eq-eqb _ _ (ap (pack u) unpack-pack))

  -- And it fits a u64.
  pub pack-fits : pack u q < 2 ^ 64
  unfolding pack
  pack-fits =
      let t = encode-takes u q.interval a valid.most in
      omega (arith, t.fits, t.code, valid.burst.most)

-- `step` on a packed word decides as a check does, and leaves its TAT; TAT 0 stands for none.
pub step-is-check : (u : Units) → Accepted u → (g : Gcra) → valid_quota u g.quota ≡ true → (now : ℕ)
    → step u (tat_word g.tat) (pack u g.quota) now ≡ outcome g now
step-is-check u a g h now = rw (decode-pack u a g.quota h) (check-is-attempt g now)

-- A valid word is the word of the quota that it unpacks to.
pub word_back : (u : Units) (w : ℕ) → valid_word u w ≡ true → pack u (unpack u w) ≡ w
unfolding valid_word
word_back u w h = eqb-true _ _ (both (unpacks w) (eqb (pack u (unpack u w)) w) h).1

-- What a word that unpacks gives is a valid quota; so is that of a valid word.
pub unpack-valid : (u : Units) → Accepted u → (w : ℕ) → unpacks w ≡ true → valid_quota u (unpack u w) ≡ true
unfolding unpack
unpack-valid u a w h =
    let b : 0 < burst_of w = ltb-true 0 (burst_of w) (both (ltb (unit_of w) 3) (ltb 0 (burst_of w)) h).1 in
    quota-valid u _ (made-valid u a (value_of w * width u (unit_of w)) (burst_of w) (record { least = b; most = omega arith }))

pub word-valid : (u : Units) → Accepted u → (w : ℕ) → valid_word u w ≡ true → valid_quota u (unpack u w) ≡ true
unfolding valid_word
word-valid u a w h = unpack-valid u a w (both (unpacks w) (eqb (pack u (unpack u w)) w) h).0
