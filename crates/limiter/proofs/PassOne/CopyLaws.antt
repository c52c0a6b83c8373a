-- Laws: the loop that copies those values whose flag is set to the front of another list, and the keys and flags that are left.
use mathlib.Core.Path.{◌≡◌, refl, sym, ap, ◌∙◌}
use mathlib.Core.Bool.{Bool, true, false, cond}
use mathlib.Core.List.{List, [], ◌∷◌, ◌++◌, append-nil}
use Prim.Native.Nat.{ℕ, ◌+◌, ◌≤◌, ◌<◌}
use native.Mathlib.Numerals.{add-one}
use native.Mathlib.Omega.{arith}
use lib.Ieee.{Float}
use lib.ListN.{length, take, get_or, set, length-append, length-set, length-take}
use lib.Seq.{length-take-le, take-suc-set, get_or-take}
use Rattle.records.specs.Records.{records, table}
use Rattle.records.proofs.Words.RecordLaws.{length-records}
use Rattle.records.specs.Typed.{Tabled}
use Rattle.limiter.specs.Steps.TickSteps.{flagged}
use Rattle.limiter.specs.Steps.PassOneSteps.{staying_keys, IdleDropped}
use Rattle.limiter.proofs.Walking.FlagLaws.{flagged-more, flagged-all, flagged-few}
use Rattle.limiter.proofs.PassOne.ListLaws.{flagged-many}
use Rattle.gcra.specs.declared.Units.{Units}

module _ (n : ℕ) (from bs : List Bool) where
  -- those of the first i whose flag is set
  abbrev pub kept_of : ℕ → List Bool
  kept_of i = flagged (take i bs) (take n from)

  -- they were copied to the front of t₀, which is now t
  pub record Copying (t₀ t : List Bool) (i j : ℕ) : Type 0 where
    pub fit : n ≤ length from
    pub flags : n ≤ length bs
    pub room : n ≤ length t
    pub long : length t ≡ length t₀
    pub within : i ≤ n
    pub count : j ≡ length (kept_of i)
    pub front : take j t ≡ kept_of i

  pub copy-none : (t : List Bool) → n ≤ length from → n ≤ length bs → n ≤ length t → Copying t t 0 0
  unfolding flagged
  copy-none t f b r = record { fit = f; flags = b; room = r; long = refl; within = omega arith; count = refl; front = refl }

  module _ (t₀ t : List Bool) (i j : ℕ) (k : Copying t₀ t i j) where
    pub copy-behind : j ≤ i
    copy-behind = omega (arith, k.count, flagged-few (take i bs) (take n from), length-take i bs)

    module _ (h : i < n) where
      one_more : (b : Bool) → get_or bs i false ≡ b → kept_of (i + 1) ≡ kept_of i ++ cond b (get_or from i false ∷ []) []
      one_more b e =
          ap kept_of (add-one i)
          ∙ flagged-more false false bs (take n from) i (omega (arith, k.flags)) (omega (arith, length-take-le n from k.fit))
          ∙ (λ m. kept_of i ++ cond (e m) (get_or-take n from i false h m ∷ []) [])

      -- a value whose flag is not set is passed over
      pub copy-skip : {t' : List Bool} {j' : ℕ} → get_or bs i false ≡ false → t' ≡ t → j' ≡ j → Copying t₀ t' (i + 1) j'
      copy-skip e r q =
          let s : kept_of (i + 1) ≡ kept_of i = one_more false e ∙ append-nil (kept_of i) in
          record {
            fit = k.fit;
            flags = k.flags;
            room = omega (arith, ap length r, k.room);
            long = ap length r ∙ k.long;
            within = omega arith;
            count = q ∙ k.count ∙ ap length (sym s);
            front = (λ m. take (q m) (r m)) ∙ k.front ∙ sym s;
          }

      -- one whose flag is set goes behind those copied
      pub copy-next : {t' : List Bool} {j' : ℕ} → get_or bs i false ≡ true → t' ≡ set t j (get_or from i false) → j' ≡ j + 1 → Copying t₀ t' (i + 1) j'
      copy-next {t'} {j'} e r q =
          let v : Bool = get_or from i false in
          let l : length t' ≡ length t = ap length r ∙ length-set t j v in
          record {
            fit = k.fit;
            flags = k.flags;
            room = omega (arith, k.room);
            long = l ∙ k.long;
            within = omega arith;
            count = omega (arith, q, k.count, ap length (one_more true e), length-append (kept_of i) (v ∷ []));
            front =
                (λ m. take ((q ∙ add-one j) m) (r m))
                ∙ take-suc-set t j v (omega (arith, copy-behind, k.room))
                ∙ ap (λ (zs : List Bool). zs ++ (v ∷ [])) k.front
                ∙ sym (one_more true e);
          }

-- the keys that stay and the flags copied
pub dropped : (u : Units) (silent : Float) (now n : ℕ) (keys : List ℕ) (hots flags stays : List Bool) (r : ℕ) (keys' : List ℕ) (to : List Bool) → n ≤ length flags
    → take n stays ≡ staying_keys u silent now n keys hots
    → take (length (flagged (take n stays) (take n flags))) to ≡ flagged (take n stays) (take n flags)
    → Tabled r (flagged stays (records 22 n keys)) keys keys'
    → IdleDropped u silent now n keys hots flags r keys' to
dropped u silent now n keys hots flags stays r keys' to f s c t =
    let rows : List (List ℕ) = records 22 n keys in
    let e : flagged stays rows ≡ flagged (staying_keys u silent now n keys hots) rows =
    sym (flagged-all stays rows n (omega (arith, length-records 22 n keys))) ∙ ap (λ (bs : List Bool). flagged bs rows) s in
    let m : r ≡ length (flagged (take n stays) (take n flags)) =
    t.count ∙ ap length (e ∙ ap (λ (bs : List Bool). flagged bs rows) (sym s))
    ∙ flagged-many (take n stays) rows (take n flags) (length-records 22 n keys ∙ sym (length-take-le n flags f)) in
    record {
      kept = record { count = t.count ∙ ap length e; words = t.words ∙ ap (λ (rs : List (List ℕ)). table rs keys) e };
      moved = ap (λ (j : ℕ). take j to) m ∙ c ∙ ap (λ (bs : List Bool). flagged bs (take n flags)) s;
    }
