-- What question 2 says of a lone quota, as facts.
use Prim.Native.Nat.{ℕ, ◌≤◌, min, max}
use mathlib.Core.Path.{◌≡◌}
use mathlib.Core.Bool.{true}
use native.Mathlib.Omega.{arith}
use borrow.Author.Tests.{leb-true, eqb-true, le-leb, eq-eqb}
use Rattle.gcra.specs.declared.Units.{Units}
use Rattle.gcra.specs.declared.Quota.{Quota}
use Rattle.gcra.specs.Packed.{Accepted, max_burst, rounded, max_interval, with_interval, valid_burst, valid_quota}
use Rattle.questions.proofs.Tests.{both, and_intro}
use Rattle.gcra.proofs.Packed.Encoding.{rounded-back, rounded-rounded}

pub record ValidBurst (b : ℕ) : Type 0 where
  pub least : 1 ≤ b
  pub most : b ≤ max_burst

pub record Valid (u : Units) (q : Quota) : Type 0 where
  pub least : 1 ≤ q.interval
  pub most : q.interval ≤ max_interval u
  pub burst : ValidBurst q.burst
  pub own : rounded u q.interval ≡ q.interval

pub valid-burst : (b : ℕ) → valid_burst b ≡ true → ValidBurst b
valid-burst b h = let p = both _ _ h in record { least = leb-true 1 b p.0; most = leb-true b max_burst p.1 }

pub burst-valid : (b : ℕ) → ValidBurst b → valid_burst b ≡ true
burst-valid b v = and_intro _ _ (le-leb 1 b v.least) (le-leb b max_burst v.most)

pub valid-quota : (u : Units) (q : Quota) → valid_quota u q ≡ true → Valid u q
unfolding valid_quota
valid-quota u q h =
    let p = both _ _ h in
    let i = both _ _ p.0 in
    let r = both _ _ p.1 in
    record {
      least = leb-true 1 q.interval i.0;
      most = leb-true q.interval (max_interval u) i.1;
      burst = valid-burst q.burst r.0;
      own = eqb-true (rounded u q.interval) q.interval r.1;
    }

pub quota-valid : (u : Units) (q : Quota) → Valid u q → valid_quota u q ≡ true
unfolding valid_quota
quota-valid u q v =
    and_intro _ _ (and_intro _ _ (le-leb 1 q.interval v.least) (le-leb q.interval (max_interval u) v.most))
    (and_intro _ _ (burst-valid q.burst v.burst) (eq-eqb (rounded u q.interval) q.interval v.own))

-- A quota made of any interval and a burst that fits is valid.
pub made-valid : (u : Units) → Accepted u → (n b : ℕ) → ValidBurst b → Valid u (with_interval u n b)
unfolding with_interval
made-valid u a n b v =
    let m = min (max n 1) (max_interval u) in
    let l : m ≤ max_interval u = omega arith in
    let r = rounded-back u a m l in
    record { least = omega arith; most = r.most; burst = v; own = rounded-rounded u a m l }

pub with-interval-valid : (u : Units) → Accepted u → (n b : ℕ) → valid_burst b ≡ true → valid_quota u (with_interval u n b) ≡ true
with-interval-valid u a n b h = quota-valid u (with_interval u n b) (made-valid u a n b (valid-burst b h))
