-- What an update of the hot set keeps of every entry: a test that new, renewed and cooled entries pass; and which keys it leaves.
use mathlib.Core.Path.{◌≡◌, refl, sym, ap, ◌∙◌, subst}
use mathlib.Core.Bool.{Bool, true, false, cond, ◌||◌, or-true}
use mathlib.Core.List.{List, [], ◌∷◌}
use Prim.Native.Nat.{ℕ}
use native.Mathlib.Omega.{arith}
use lib.Dec.{ltb, eqb}
use lib.Ieee.{Float, binary64, lt, mul}
use lib.ListN.{length}
use Rattle.questions.proofs.Tests.{both, and_intro, eqb-self}
use Rattle.hot.specs.declared.hot_set.HotEntry.{HotEntry}
use Rattle.hot.specs.declared.hot_set.HotSet.{HotSet}
use Rattle.hot.specs.HotSet.Set.{entry_key, get, put, remove, weaker, weakest_of, weakest, Outcome, new_entry, renewed, evict, admit, promote_from, promote, cooled, cool_from, cool, settle, below_threshold, update_with, is_hot}
use Rattle.questions.specs.Lists.{all, those}
use Rattle.hot.proofs.HotSet.Tests.{cooled-key}
use Rattle.hot.proofs.HotSet.Map.{all-hot}
use Rattle.questions.proofs.OnlyLaws.{all-only, all-replaced, all-imply, first_passes}
use Rattle.std.specs.declared.option.Option.{Option}
use Rattle.std.specs.declared.option.Option.TheVariants.{None, Some}

-- ---- a test that every entry passes
module _ (p : HotEntry → Bool) where
  pub all-put : (x : HotEntry) (es : List HotEntry) → p x ≡ true → all p es ≡ true → all p (put x es) ≡ true
  unfolding put all
  all-put x es h a = all-replaced p entry_key x.key (x ∷ []) es (and_intro (p x) true h refl) a

  pub all_remove : (k : ℕ) (es : List HotEntry) → all p es ≡ true → all p (remove k es) ≡ true
  unfolding remove all
  all_remove k es a = all-replaced p entry_key k [] es refl a

  pub all-get : (k : ℕ) (es : List HotEntry) → all p es ≡ true → (e : HotEntry) → get k es ≡ Some e → p e ≡ true
  unfolding get those
  all-get k es a e h = first_passes p (those entry_key k es) (all-only p (λ (x : HotEntry). eqb x.key k) es a) e h

  -- the weakest is one of them
  weakest-passes : (e : HotEntry) (es : List HotEntry) → p e ≡ true → all p es ≡ true → p (weakest_of e es) ≡ true
  unfolding weakest_of all
  weakest-passes e [] h a = h
  weakest-passes e (x ∷ xs) h a = let b = both (p x) (all p xs) a in weakest-passes (cond (weaker x e) x e) xs (either (weaker x e) b.0) b.1
    where
      either : (t : Bool) → p x ≡ true → p (cond t x e) ≡ true
      either true g = g
      either false g = h

  all-weakest : (es : List HotEntry) (w : HotEntry) → Some w ≡ weakest es → all p es ≡ true → p w ≡ true
  unfolding weakest all
  all-weakest [] w q a = let z : ◌≡◌ {A = ℕ} 0 1 = cc in absurd (omega arith)
  all-weakest (e ∷ es) w q a =
      let r : w ≡ weakest_of e es = cc in
      let b = both (p e) (all p es) a in
      subst (λ (y : HotEntry). p y ≡ true) (sym r) (weakest-passes e es b.0 b.1)

pub weakest-hot : (es : List HotEntry) (w : HotEntry) → Some w ≡ weakest es → is_hot w.key es ≡ true
weakest-hot es w q = all-weakest (λ (e : HotEntry). is_hot e.key es) es w q (all-hot es)

-- ---- an update
module _
    (p : HotEntry → Bool) (margin : Float) (cooldown size key : ℕ) (demand : Float) (now : ℕ)
    (new : (primary : Bool) → p (new_entry key demand primary now) ≡ true)
    (renew : (primary : Bool) (e : HotEntry) → p e ≡ true → p (renewed demand primary e) ≡ true)
    (cools : (e : HotEntry) → p e ≡ true → p (cooled cooldown demand now e) ≡ true)
  where
    either_left : (b : Bool) (x y : Outcome) → all p x.left ≡ true → all p y.left ≡ true → all p (cond b x y).left ≡ true
    either_left true x y f g = f
    either_left false x y f g = g

    all-evict : (primary : Bool) (es : List HotEntry) (o : Option HotEntry) → all p es ≡ true → all p (evict margin (new_entry key demand primary now) es o).left ≡ true
    unfolding evict
    all-evict primary es None a = a
    all-evict primary es (Some e) a =
        either_left (lt (mul binary64 e.demand margin) demand) _ _ (all-put p (new_entry key demand primary now) (remove e.key es) (new primary) (all_remove p e.key es a)) a

    all-promote : (primary : Bool) (es : List HotEntry) → all p es ≡ true → all p (promote margin size key demand primary now es).left ≡ true
    unfolding promote promote_from admit
    all-promote primary es a = by (get key es) refl
      where
        by : (o : Option HotEntry) → get key es ≡ o → all p (promote_from margin size key demand primary now es o).left ≡ true
        by None h = either_left (ltb (length es) size) _ _ (all-put p (new_entry key demand primary now) es (new primary) a) (all-evict primary es (weakest es) a)
        by (Some e) h = all-put p (renewed demand primary e) es (renew primary e (all-get p key es a e h)) a

    -- an entry that cools
    all-cool : (es : List HotEntry) → all p es ≡ true → all p (cool cooldown key demand now es) ≡ true
    unfolding cool
    all-cool es a = by (get key es) refl
      where
        by : (o : Option HotEntry) → get key es ≡ o → all p (cool_from cooldown demand now es o) ≡ true
        by None h = a
        by (Some e) h = all-put p (cooled cooldown demand now e) es (cools e (all-get p key es a e h)) a

    -- what is left not above the threshold
    all-settle : (elsewhere : Bool) (es : List HotEntry) (o : Option HotEntry) → all p es ≡ true → all p (settle margin size key demand now elsewhere es o).left ≡ true
    unfolding settle
    all-settle elsewhere es None a = either_left elsewhere _ _ (all-promote false es a) a
    all-settle elsewhere es (Some e) a = either_left (e.primary || elsewhere) _ _ a (all_remove p key es a)

    -- of every update
    pub all-updated : (s : HotSet) → s.cooldown ≡ cooldown → s.max_size ≡ size → (threshold : Float) (elsewhere : Bool) (es : List HotEntry) → all p es ≡ true → all p (update_with margin s key demand threshold now elsewhere es).left ≡ true
    unfolding update_with below_threshold
    all-updated s ec es' threshold elsewhere es a = rw (ec, es')
        (either_left (lt threshold demand) _ _ (all-promote true es a)
        (all-settle elsewhere (cool cooldown key demand now es) (get key (cool cooldown key demand now es)) (all-cool es a)))

-- the keys that an update leaves are the key or were there
pub updated-keys : (margin : Float) (s : HotSet) (key : ℕ) (demand threshold : Float) (now : ℕ) (elsewhere : Bool) (es : List HotEntry) → all (λ (e : HotEntry). eqb e.key key || is_hot e.key es) (update_with margin s key demand threshold now elsewhere es).left ≡ true
updated-keys margin s key demand threshold now elsewhere es =
    all-updated stood margin s.cooldown s.max_size key demand now
    (λ primary. ap (λ (b : Bool). b || is_hot key es) (eqb-self key))
    (λ primary e h. h)
    (λ e h. ap (λ (k : ℕ). eqb k key || is_hot k es) (cooled-key s.cooldown demand now e) ∙ h)
    s refl refl threshold elsewhere es
    (all-imply (λ (e : HotEntry). is_hot e.key es) stood es (λ e h. ap (λ (b : Bool). eqb e.key key || b) h ∙ or-true (eqb e.key key)) (all-hot es))
  where
    stood : HotEntry → Bool
    stood e = eqb e.key key || is_hot e.key es
