-- What a hot set that passed its questions does: each way through `evict`, `promote`, `cool` and `update_with`.
use mathlib.Core.Path.{◌≡◌, refl, sym, ap, ◌∙◌, subst}
use mathlib.Core.Bool.{Bool, true, false, cond, ◌||◌}
use mathlib.Core.List.{List, map}
use mathlib.Core.Logic.{◌⊎◌, inl, inr}
use Prim.Native.Nat.{ℕ, suc, ◌+◌, ◌-◌, ◌*◌, ◌≤◌, ◌<◌}
use native.Mathlib.Omega.{arith}
use borrow.Author.Tests.{lt-ltb, le-ltb}
use lib.Dec.{ltb}
use lib.Ieee.{Float, binary64, lt, mul}
use lib.ListN.{length}
use Rattle.records.specs.Records.{table}
use Rattle.questions.specs.Questions.{passes}
use Rattle.questions.specs.Lists.{all, present, those}
use Rattle.hot.specs.HotSet.Set.{words, entries, valid_entry, entry_key, get, put, remove, weakest, Outcome, hot_with, cold_with, new_entry, renewed, evict, admit, promote_from, promote, cooled, cool_from, cool, settle, below_threshold, update_with, is_hot}
use Rattle.hot.specs.HotSet.Steps.{EntriesReady, Acted}
use Rattle.hot.specs.HotSet.Calls.{ask_set, entries_of, counted}
use Rattle.hot.specs.declared.hot_set.HotEntry.{HotEntry}
use Rattle.hot.specs.declared.hot_set.HotSet.{HotSet}
use Rattle.hot.specs.declared.hot_set.Updated.{Updated}
use Rattle.hot.proofs.HotSet.Tests.{cooled-key}
use Rattle.hot.proofs.HotSet.Words.{length-entries, entries-table, table-table, length-table}
use Rattle.hot.proofs.HotSet.Map.{Asc, some-there, none-there, get_key, none-remove, asc-remove, remove-count, get-put, remove-put, put_count}
use Rattle.hot.proofs.HotSet.EntryLaws.{all_remove, weakest-hot}
use Rattle.hot.proofs.HotSet.Table.{ready-table, valid-entries, asc-entries, table_same, once}
use Rattle.hot.proofs.HotSet.ValidLaws.{valid-fits}
use Rattle.hot.proofs.HotSet.Answers.{Passed, passed-set}
use Rattle.std.specs.declared.option.Option.{Option}
use Rattle.std.specs.declared.option.Option.TheVariants.{None, Some}

-- an entry that does not cool is as new at the time that it is hot since
pub new-is : (e : HotEntry) → e.cooling_since ≡ None → e ≡ new_entry e.key e.demand e.primary e.since
new-is e c = ap (λ (t : Option ℕ). record { key = e.key; demand = e.demand; primary = e.primary; cooling_since = t; since = e.since }) c

pub acted : (s : HotSet) (xs : List ℕ) (o : Outcome) (b : Bool) (fs : List HotEntry) (n : ℕ) (r : Updated) (ys : List ℕ) → o ≡ record { hot = b; left = fs } → r ≡ counted s b n → n ≡ length fs → ys ≡ table (map words fs) xs → Acted s o xs r ys
acted s xs o b fs n r ys e q l t =
    subst (λ (z : Outcome). Acted s z xs r ys) (sym e) (record { says = q ∙ ap (counted s b) l; left = t })

module _ (s : HotSet) (xs : List ℕ) (p : passes (ask_set s xs) ≡ true) where
  sound : Passed s xs
  sound = passed-set s xs p

  pub ready-now : EntriesReady s.len xs
  ready-now = sound.ready

  count : length (entries_of s xs) ≡ s.len
  count = length-entries s.len xs

  -- the key has an entry: it is put in its place
  module _ (k : ℕ) (e x : HotEntry) (g : get k (entries_of s xs) ≡ Some e) (q : x.key ≡ e.key) where
    same_key : x.key ≡ k
    same_key = q ∙ get_key k (entries_of s xs) e g

    -- it is the only one
    alone : length (those entry_key k (entries_of s xs)) ≡ 1
    alone = omega (arith, once s.len xs ready-now k, some-there k (entries_of s xs) (ap present g))

    pub kept-count : s.len ≡ length (put x (entries_of s xs))
    kept-count = omega (arith, put_count x (entries_of s xs), ap (λ (j : ℕ). length (those entry_key j (entries_of s xs))) same_key, alone, count)

    pub kept-room : length (put x (entries_of s xs)) * 6 ≤ length xs
    kept-room = omega (arith, kept-count, ready-now.fit)

    pub gone-count : suc (length (remove k (entries_of s xs))) ≡ s.len
    gone-count = omega (arith, remove-count k (entries_of s xs), alone, count)

    -- `cool` of it
    pub put-get : get k (put x (entries_of s xs)) ≡ Some x
    put-get = get-put x (entries_of s xs) k same_key

    pub put-remove : remove k (put x (entries_of s xs)) ≡ remove k (entries_of s xs)
    put-remove = remove-put x (entries_of s xs) k same_key

  -- the key has none
  module _ (k : ℕ) (x : HotEntry) (g : get k (entries_of s xs) ≡ None) (q : x.key ≡ k) where
    pub more-count : s.len + 1 ≡ length (put x (entries_of s xs))
    more-count = omega (arith, put_count x (entries_of s xs), none-there x.key (entries_of s xs) (ap (λ (j : ℕ). is_hot j (entries_of s xs)) q ∙ ap present g), count)

    pub more_room : s.len < s.max_size → length (put x (entries_of s xs)) * 6 ≤ length xs
    more_room l = omega (arith, more-count, sound.space)

  -- ---- `evict`
  module _ (x w : HotEntry) (full : s.len ≡ s.max_size) (g : get x.key (entries_of s xs) ≡ None) (m : Some w ≡ weakest (entries_of s xs)) where
    abbrev pub others : List HotEntry
    others = remove w.key (entries_of s xs)

    one_less : suc (length others) ≡ s.len
    one_less = omega (arith, remove-count w.key (entries_of s xs), once s.len xs ready-now w.key, some-there w.key (entries_of s xs) (weakest-hot (entries_of s xs) w m), count)

    fewer : s.len - 1 ≡ length others
    fewer = omega (arith, one_less)

    again : suc (length others) ≡ length (put x others)
    again = omega (arith, put_count x others, none-there x.key others (ap present (none-remove x.key (entries_of s xs) w.key g)))

    asc-others : Asc others
    asc-others = asc-remove w.key (entries_of s xs) (asc-entries s.len xs ready-now)

    valid-others : all valid_entry others ≡ true
    valid-others = all_remove valid_entry w.key (entries_of s xs) (valid-entries s.len xs ready-now)

    module _ (zs : List ℕ) (e : zs ≡ table (map words others) xs) where
      small : length others * 6 ≤ length xs
      small = omega (arith, one_less, ready-now.fit)

      zs-length : length zs ≡ length xs
      zs-length = ap length e ∙ length-table others xs small

      read : entries (s.len - 1) zs ≡ others
      read = (λ i. entries (fewer i) (e i)) ∙ entries-table others xs (valid-fits others valid-others)

      pub evict-ready : EntriesReady (s.len - 1) zs
      evict-ready = subst (λ (n : ℕ). EntriesReady n zs) (sym fewer) (subst (λ (l : List ℕ). EntriesReady (length others) l) (sym e) (ready-table others xs asc-others valid-others small))

      pub evict-room : length (put x (entries (s.len - 1) zs)) * 6 ≤ length zs
      evict-room = rw read (omega (arith, again, one_less, ready-now.fit, zs-length))

      evict-left : (ys : List ℕ) → ys ≡ table (map words (put x (entries (s.len - 1) zs))) zs → ys ≡ table (map words (put x others)) xs
      evict-left ys t = t ∙ (λ i. table (map words (put x (read i))) (e i)) ∙ table-table others (put x others) xs (omega (arith, again))

      pub evicted : (margin : Float) (r : Updated) (ys : List ℕ) → lt (mul binary64 w.demand margin) x.demand ≡ true → r ≡ counted s true s.len → ys ≡ table (map words (put x (entries (s.len - 1) zs))) zs → Acted s (evict margin x (entries_of s xs) (weakest (entries_of s xs))) xs r ys
      unfolding evict
      evicted margin r ys b q t =
          acted s xs (evict margin x (entries_of s xs) (weakest (entries_of s xs))) true (put x others) s.len r ys
          (ap (evict margin x (entries_of s xs)) (sym m) ∙ rw b)
          q
          (omega (arith, again, one_less))
          (evict-left ys t)

    pub not-evicted : (margin : Float) (r : Updated) (ys : List ℕ) → lt (mul binary64 w.demand margin) x.demand ≡ false → r ≡ counted s false s.len → ys ≡ xs → Acted s (evict margin x (entries_of s xs) (weakest (entries_of s xs))) xs r ys
    unfolding evict
    not-evicted margin r ys b q t =
        acted s xs (evict margin x (entries_of s xs) (weakest (entries_of s xs))) false (entries_of s xs) s.len r ys
        (ap (evict margin x (entries_of s xs)) (sym m) ∙ rw b)
        q
        (sym count)
        (t ∙ sym (table_same s.len xs ready-now))

  -- ---- `promote`
  module _ (margin : Float) (k : ℕ) (d : Float) (b : Bool) (now : ℕ) (r : Updated) (ys : List ℕ) where
    -- of an entry that is new
    pub promoted-of : (x : HotEntry) → x ≡ new_entry k d b now → Acted s (promote margin s.max_size x.key x.demand x.primary x.since (entries_of s xs)) xs r ys → Acted s (promote margin s.max_size k d b now (entries_of s xs)) xs r ys
    promoted-of x e = subst (λ (y : HotEntry). Acted s (promote margin s.max_size y.key y.demand y.primary y.since (entries_of s xs)) xs r ys) e

    pub promoted-there : (e x : HotEntry) → get k (entries_of s xs) ≡ Some e → x ≡ renewed d b e → r ≡ counted s true s.len → ys ≡ table (map words (put x (entries_of s xs))) xs → Acted s (promote margin s.max_size k d b now (entries_of s xs)) xs r ys
    unfolding promote promote_from
    promoted-there e x g y q t =
        acted s xs (promote margin s.max_size k d b now (entries_of s xs)) true (put x (entries_of s xs)) s.len r ys
        (ap (promote_from margin s.max_size k d b now (entries_of s xs)) g ∙ ap (λ (z : HotEntry). hot_with (put z (entries_of s xs))) (sym y))
        q
        (kept-count k e x g (ap (λ (z : HotEntry). z.key) y))
        t

    pub promoted-new : (x : HotEntry) → get k (entries_of s xs) ≡ None → x ≡ new_entry k d b now → s.len < s.max_size → r ≡ counted s true (s.len + 1) → ys ≡ table (map words (put x (entries_of s xs))) xs → Acted s (promote margin s.max_size k d b now (entries_of s xs)) xs r ys
    unfolding promote promote_from admit
    promoted-new x g y l q t =
        let size : ltb (length (entries_of s xs)) s.max_size ≡ true = lt-ltb (length (entries_of s xs)) s.max_size (omega (arith, count)) in
        acted s xs (promote margin s.max_size k d b now (entries_of s xs)) true (put x (entries_of s xs)) (s.len + 1) r ys
        (ap (promote_from margin s.max_size k d b now (entries_of s xs)) g
        ∙ ap (λ (c : Bool). cond c (hot_with (put (new_entry k d b now) (entries_of s xs))) (evict margin (new_entry k d b now) (entries_of s xs) (weakest (entries_of s xs)))) size
        ∙ ap (λ (z : HotEntry). hot_with (put z (entries_of s xs))) (sym y))
        q
        (more-count k x g (ap (λ (z : HotEntry). z.key) y))
        t

    pub promoted-full : (x : HotEntry) → get k (entries_of s xs) ≡ None → x ≡ new_entry k d b now → s.max_size ≤ s.len → Acted s (evict margin x (entries_of s xs) (weakest (entries_of s xs))) xs r ys → Acted s (promote margin s.max_size k d b now (entries_of s xs)) xs r ys
    unfolding promote promote_from admit
    promoted-full x g y l a =
        let size : ltb (length (entries_of s xs)) s.max_size ≡ false = le-ltb (length (entries_of s xs)) s.max_size (omega (arith, count)) in
        subst (λ (o : Outcome). Acted s o xs r ys)
        (sym (ap (promote_from margin s.max_size k d b now (entries_of s xs)) g
        ∙ ap (λ (c : Bool). cond c (hot_with (put (new_entry k d b now) (entries_of s xs))) (evict margin (new_entry k d b now) (entries_of s xs) (weakest (entries_of s xs)))) size
        ∙ ap (λ (z : HotEntry). evict margin z (entries_of s xs) (weakest (entries_of s xs))) (sym y)))
        a

  -- ---- not above the threshold
  module _ (margin : Float) (k : ℕ) (d : Float) (now : ℕ) (elsewhere : Bool) (r : Updated) (ys : List ℕ) where
    abbrev pub lower : Outcome
    lower = below_threshold margin s.cooldown s.max_size k d now elsewhere (entries_of s xs)

    module _ (e x : HotEntry) (g : get k (entries_of s xs) ≡ Some e) (y : x ≡ cooled s.cooldown d now e) where
      key-kept : x.key ≡ e.key
      key-kept = ap (λ (z : HotEntry). z.key) y ∙ cooled-key s.cooldown d now e

      cooler : cool s.cooldown k d now (entries_of s xs) ≡ put x (entries_of s xs)
      unfolding cool
      cooler = ap (cool_from s.cooldown d now (entries_of s xs)) g ∙ ap (λ (z : HotEntry). put z (entries_of s xs)) (sym y)

      lower-is : lower ≡ settle margin s.max_size k d now elsewhere (put x (entries_of s xs)) (Some x)
      unfolding below_threshold
      lower-is =
          (λ i. settle margin s.max_size k d now elsewhere (cooler i) (get k (cooler i)))
          ∙ ap (settle margin s.max_size k d now elsewhere (put x (entries_of s xs))) (put-get k e x g key-kept)

      pub cooled-stays : (x.primary || elsewhere) ≡ true → r ≡ counted s true s.len → ys ≡ table (map words (put x (entries_of s xs))) xs → Acted s lower xs r ys
      unfolding settle
      cooled-stays b q t =
          acted s xs lower true (put x (entries_of s xs)) s.len r ys
          (lower-is ∙ ap (λ (c : Bool). cond c (hot_with (put x (entries_of s xs))) (cold_with (remove k (put x (entries_of s xs))))) b)
          q
          (kept-count k e x g key-kept)
          t

      pub cooled-leaves : (x.primary || elsewhere) ≡ false → r ≡ counted s false (s.len - 1) → ys ≡ table (map words (remove k (entries_of s xs))) xs → Acted s lower xs r ys
      unfolding settle
      cooled-leaves b q t =
          acted s xs lower false (remove k (entries_of s xs)) (s.len - 1) r ys
          (lower-is
          ∙ ap (λ (c : Bool). cond c (hot_with (put x (entries_of s xs))) (cold_with (remove k (put x (entries_of s xs))))) b
          ∙ ap cold_with (put-remove k e x g key-kept))
          q
          (omega (arith, gone-count k e x g key-kept))
          t

    module _ (g : get k (entries_of s xs) ≡ None) where
      lower-none : lower ≡ settle margin s.max_size k d now elsewhere (entries_of s xs) None
      unfolding below_threshold cool
      lower-none =
          let e : cool s.cooldown k d now (entries_of s xs) ≡ entries_of s xs = ap (cool_from s.cooldown d now (entries_of s xs)) g in
          (λ i. settle margin s.max_size k d now elsewhere (e i) (get k (e i)))
          ∙ ap (settle margin s.max_size k d now elsewhere (entries_of s xs)) g

      pub absent-elsewhere : elsewhere ≡ true → Acted s (promote margin s.max_size k d false now (entries_of s xs)) xs r ys → Acted s lower xs r ys
      unfolding settle
      absent-elsewhere b a =
          subst (λ (o : Outcome). Acted s o xs r ys)
          (sym (lower-none ∙ ap (λ (c : Bool). cond c (promote margin s.max_size k d false now (entries_of s xs)) (cold_with (entries_of s xs))) b))
          a

      pub absent-stays : elsewhere ≡ false → r ≡ counted s false s.len → ys ≡ xs → Acted s lower xs r ys
      unfolding settle
      absent-stays b q t =
          acted s xs lower false (entries_of s xs) s.len r ys
          (lower-none ∙ ap (λ (c : Bool). cond c (promote margin s.max_size k d false now (entries_of s xs)) (cold_with (entries_of s xs))) b)
          q
          (sym count)
          (t ∙ sym (table_same s.len xs ready-now))

    -- ---- `update_with`
    module _ (threshold : Float) where
      pub above-acted : lt threshold d ≡ true → Acted s (promote margin s.max_size k d true now (entries_of s xs)) xs r ys → Acted s (update_with margin s k d threshold now elsewhere (entries_of s xs)) xs r ys
      unfolding update_with
      above-acted b a = rw b a

      pub below-acted : lt threshold d ≡ false → Acted s lower xs r ys → Acted s (update_with margin s k d threshold now elsewhere (entries_of s xs)) xs r ys
      unfolding update_with
      below-acted b a = rw b a

-- a join of two ways to a test
pub either : (a b : Bool) → (a ≡ true) ⊎ (b ≡ true) → (a || b) ≡ true
either a b (inl p) = rw p
either true b (inr q) = refl
either false b (inr q) = q

pub neither : (a b : Bool) → a ≡ false → b ≡ false → (a || b) ≡ false
neither a b p q = rw (p, q)
