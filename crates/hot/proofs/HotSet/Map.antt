-- The map of keys to entries: which keys are there, how many, and in their order, by the laws of lists; after `put` and `remove` too.
use mathlib.Core.Path.{◌≡◌, refl, sym, ap, ◌∙◌, subst}
use mathlib.Core.Bool.{true, false, not}
use mathlib.Core.List.{List, [], ◌∷◌, map}
use Prim.Native.Nat.{ℕ, ◌+◌, ◌≤◌}
use native.Mathlib.Omega.{arith}
use borrow.Author.Tests.{ltb-true, ltb-false, eqb-true}
use lib.Dec.{ltb, eqb}
use lib.ListN.{length}
use Rattle.records.specs.Records.{leads, ascending}
use Rattle.questions.specs.Lists.{all, any, first, present, those}
use Rattle.questions.proofs.Tests.{and_intro, eqb-self, eqb-turn}
use Rattle.questions.proofs.ListLaws.{any-only}
use Rattle.questions.proofs.OnlyLaws.{any-number, any-misses, only-passes, only-nothing, all-replaced, first_passes, all-number, those-same, replaced-twice, length-replaced}
use Rattle.records.proofs.Order.AscendingLaws.{asc-numbered}
use Rattle.hot.specs.HotSet.Set.{words, entry_key, get, put, remove, is_hot}
use Rattle.hot.specs.declared.hot_set.HotEntry.{HotEntry}
use Rattle.std.specs.declared.option.Option.TheVariants.{None, Some}

-- the words of the entries ascend
abbrev pub Asc : List HotEntry → Type 0
Asc es = ascending 1 (map words es) ≡ true

-- ---- which keys are there
module _ (k : ℕ) (es : List HotEntry) where
  pub hot-any : is_hot k es ≡ any (λ (e : HotEntry). eqb e.key k) es
  unfolding get those
  hot-any = sym (any-only (λ (e : HotEntry). eqb e.key k) es)

  hot-counts : ltb 0 (length (those entry_key k es)) ≡ is_hot k es
  hot-counts = sym (hot-any ∙ any-number entry_key k es)

  pub some-there : is_hot k es ≡ true → 1 ≤ length (those entry_key k es)
  some-there h = ltb-true 0 (length (those entry_key k es)) (hot-counts ∙ h)

  pub none-there : is_hot k es ≡ false → length (those entry_key k es) ≤ 0
  none-there h = ltb-false 0 (length (those entry_key k es)) (hot-counts ∙ h)

  -- a key that is not hot is no entry's
  no_key : is_hot k es ≡ false → all (λ (e : HotEntry). not (eqb e.key k)) es ≡ true
  no_key h = any-misses (λ (e : HotEntry). eqb e.key k) es (sym hot-any ∙ h)

  pub cold-misses : is_hot k es ≡ false → all (λ (e : HotEntry). not (eqb k e.key)) es ≡ true
  cold-misses h = (λ i. all (λ (e : HotEntry). not (eqb-turn k e.key i)) es) ∙ no_key h

  pub get_key : (e : HotEntry) → get k es ≡ Some e → e.key ≡ k
  unfolding get those
  get_key e h = eqb-true e.key k (first_passes (λ (x : HotEntry). eqb x.key k) (those entry_key k es) (only-passes (λ (x : HotEntry). eqb x.key k) es) e h)

  -- ---- `remove`
  pub get-remove : get k (remove k es) ≡ None
  unfolding get remove all
  get-remove = ap first (those-same entry_key k [] es refl)

  -- what is not there is not there after a removal
  pub none-remove : (j : ℕ) → get k es ≡ None → get k (remove j es) ≡ None
  unfolding get remove those all
  none-remove j h = ap first (only-nothing (λ (e : HotEntry). eqb e.key k) (remove j es) (all-replaced (λ (e : HotEntry). not (eqb e.key k)) entry_key j [] es refl (no_key (ap present h))))

  pub asc-remove : Asc es → Asc (remove k es)
  unfolding remove words ascending all
  asc-remove a = asc-numbered words entry_key (λ e. refl) 0 k [] es refl a refl

  pub remove-count : length (remove k es) + length (those entry_key k es) ≡ length es
  unfolding remove
  remove-count = let c : length (remove k es) + length (those entry_key k es) ≡ 0 + length es = length-replaced entry_key k [] es in omega (arith, c)

-- every entry's key is hot
pub all-hot : (es : List HotEntry) → all (λ (e : HotEntry). is_hot e.key es) es ≡ true
all-hot es = (λ i. all (λ (e : HotEntry). hot-any e.key es i) es) ∙ all-number entry_key es

-- ---- `put`
module _ (x : HotEntry) (es : List HotEntry) where
  own : all (λ (e : HotEntry). eqb e.key x.key) (x ∷ []) ≡ true
  unfolding all
  own = and_intro (eqb x.key x.key) true (eqb-self x.key) refl

  pub get-put : (k : ℕ) → x.key ≡ k → get k (put x es) ≡ Some x
  unfolding get put
  get-put k e = subst (λ (j : ℕ). get j (put x es) ≡ Some x) e (ap first (those-same entry_key x.key (x ∷ []) es own))

  pub remove-put : (k : ℕ) → x.key ≡ k → remove k (put x es) ≡ remove k es
  unfolding put remove
  remove-put k e = subst (λ (j : ℕ). remove j (put x es) ≡ remove j es) e (replaced-twice entry_key x.key (x ∷ []) es own [])

  pub asc-put : Asc es → Asc (put x es)
  unfolding put words ascending leads
  asc-put a = asc-numbered words entry_key (λ e. refl) 0 x.key (x ∷ []) es own a refl

  pub put_count : length (put x es) + length (those entry_key x.key es) ≡ 1 + length es
  unfolding put
  put_count = length-replaced entry_key x.key (x ∷ []) es
