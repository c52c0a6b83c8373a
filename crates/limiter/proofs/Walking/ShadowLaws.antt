-- Laws: the shadows whose key has state.
use mathlib.Core.Path.{◌≡◌, refl, sym, ap, ◌∙◌}
use mathlib.Core.List.{List, [], ◌∷◌}
use Prim.Native.Nat.{ℕ, ◌*◌, ◌<◌}
use lib.Dec.{ltb, eqb, lit≤}
use lib.ListN.{length, take, get_or}
use Rattle.records.specs.declared.Found.{Found}
use Rattle.records.specs.declared.Found.TheVariants.{At, Gap, Unfit}
use Rattle.records.specs.Records.{records, find_in}
use Rattle.records.proofs.Order.OrderLaws.{before-word}
use Rattle.records.proofs.Tables.TableLaws.{wide-records}
use Rattle.questions.specs.Lists.{those}
use Rattle.records.specs.Typed.{first_word}
use Rattle.questions.proofs.ListLaws.{any-map}
use Rattle.records.proofs.Order.RangeLaws.{those-at, those-gap, first-shape}
use Rattle.questions.proofs.OnlyLaws.{any-number}
use Rattle.records.proofs.Words.RowLaws.{find-says, never-unfit, first-at}
use Rattle.limiter.specs.State.{is_tracked, key_of, shadow_of}
use Rattle.limiter.specs.Steps.TickSteps.{key_records, shadow_key, LentKeys}
use Rattle.limiter.proofs.Walking.CapLaws.{is_at}
use Rattle.gcra.specs.declared.Units.{Units}

-- a key is tracked where its word is the first of a record
tracked-first : (u : Units) (n : ℕ) (xs : List ℕ) (key : ℕ) → is_tracked (key_records u n xs) key ≡ ltb 0 (length (those first_word key (records 22 n xs)))
unfolding is_tracked key_of
tracked-first u n xs key = any-map (key_of u) (λ k. eqb k.key key) (records 22 n xs) ∙ any-number first_word key (records 22 n xs)

module _ (u : Units) (n : ℕ) (xs : List ℕ) (k : LentKeys u n xs) (key : ℕ) where
  abbrev rows : List (List ℕ)
  rows = records 22 n xs

  shape : (i : ℕ) → i < length rows → take 1 (get_or rows i []) ≡ first_word (get_or rows i []) ∷ []
  shape = first-shape 22 rows (lit≤ tt) (wide-records 22 n xs k.fit)

  -- the search tells it
  pub tracked-found : (f : Found) → f ≡ find_in 22 1 n key 0 xs → is_at f ≡ is_tracked (key_records u n xs) key
  tracked-found (At i) e =
      sym (tracked-first u n xs key ∙ ap (λ (rs : List (List ℕ)). ltb 0 (length rs)) (those-at 1 first_word (λ (x : ℕ). x ∷ []) rows k.ascends shape before-word key i (find-says 22 1 n key 0 xs (lit≤ tt) (lit≤ tt) (lit≤ tt) k.fit (At i) e)))
  tracked-found (Gap i) e =
      sym (tracked-first u n xs key ∙ ap (λ (rs : List (List ℕ)). ltb 0 (length rs)) (those-gap 1 first_word (λ (x : ℕ). x ∷ []) rows k.ascends shape before-word key i (find-says 22 1 n key 0 xs (lit≤ tt) (lit≤ tt) (lit≤ tt) k.fit (Gap i) e)))
  tracked-found Unfit e = absurd (never-unfit 22 1 n key 0 xs (lit≤ tt) (lit≤ tt) (lit≤ tt) k.fit Unfit e refl)

-- the first word of a shadow's record is its key
pub shadow-key-at : (u : Units) (m : ℕ) (xs : List ℕ) (i : ℕ) → i < m → get_or xs (i * 4) 0 ≡ shadow_key u (get_or (records 4 m xs) i [])
unfolding shadow_of
shadow-key-at u m xs i h = sym (first-at 4 m xs i h (lit≤ tt))
