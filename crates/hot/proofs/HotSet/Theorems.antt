-- What an update keeps, whatever its arguments: a hot set that passes its questions passes them again, it never has more keys than its
-- size, and the answer says whether the key is in it.
use mathlib.Core.Path.{◌≡◌, refl, sym, ap, ◌∙◌, subst}
use mathlib.Core.Bool.{Bool, true, false, cond, ◌||◌}
use mathlib.Core.List.{List, [], map}
use Prim.Native.Nat.{ℕ, ◌*◌, ◌≤◌}
use native.Mathlib.Omega.{arith}
use borrow.Author.Tests.{ltb-true, leb-true, le-leb}
use lib.Dec.{ltb, leb}
use lib.Ieee.{Float, binary64, fits, lt, mul}
use lib.ListN.{length}
use Rattle.float.specs.Magnitude.{magnitude}
use Rattle.records.specs.Records.{records, table, ascending}
use Rattle.questions.proofs.Tests.{both, and_intro}
use Rattle.questions.specs.Questions.{given, passes}
use Rattle.questions.proofs.Answers.{given-passed}
use Rattle.questions.specs.Lists.{all, present}
use Rattle.records.specs.Typed.{is_word, exact}
use Rattle.hot.specs.HotSet.Set.{words, entry, entries, valid_entry, valid_entries, valid_size, valid, is_valid, get, put, remove, weakest, Outcome, hot_with, cold_with, new_entry, renewed, evict, admit, promote_from, promote, cooled, cool_from, cool, settle, below_threshold, update_with, is_hot}
use Rattle.hot.specs.HotSet.Steps.{EntriesReady, Acted}
use Rattle.hot.specs.HotSet.Calls.{room, ask_new, ask_set, ask_update, eviction_margin, entries_of, updated, rewritten, MadeNew, UpdatedWith}
use Rattle.hot.specs.declared.hot_set.HotEntry.{HotEntry}
use Rattle.hot.specs.declared.hot_set.HotSet.{HotSet}
use Rattle.hot.specs.declared.hot_set.Updated.{Updated}
use Rattle.hot.proofs.HotSet.Tests.{cooled-key}
use Rattle.hot.proofs.HotSet.Words.{length-entries, fits-entries, entries-table, length-table}
use Rattle.hot.proofs.HotSet.Map.{Asc, some-there, get_key, get-remove, asc-remove, remove-count, get-put, asc-put, put_count}
use Rattle.hot.proofs.HotSet.EntryLaws.{weakest-hot}
use Rattle.hot.proofs.HotSet.Table.{ready-table, valid-entries, asc-entries, exactly}
use Rattle.hot.proofs.HotSet.ValidLaws.{GoodUpdate, updated-valid, updated-fits}
use Rattle.hot.proofs.HotSet.Answers.{Passed, passed-set, update-passed-set}
use Rattle.std.specs.declared.option.Option.{Option}
use Rattle.std.specs.declared.option.Option.TheVariants.{None, Some}
use Rattle.std.specs.declared.result.Result.{Result}
use Rattle.questions.specs.declared.Refusal.{Refusal}
use Rattle.questions.specs.Refusals.{answer_of}

-- ---- what holds of every outcome
pub record Kept (size key : ℕ) (o : Outcome) : Type 0 where
  pub ascends : Asc o.left
  pub bound : length o.left ≤ size
  pub says : is_hot key o.left ≡ o.hot

-- an outcome by a test
by-test : {size key : ℕ} (b : Bool) (x y : Outcome) → (b ≡ true → Kept size key x) → (b ≡ false → Kept size key y) → Kept size key (cond b x y)
by-test true x y f g = f refl
by-test false x y f g = g refl

module _ (margin : Float) (size key : ℕ) (demand : Float) (now : ℕ) (es : List HotEntry) (a : Asc es) (l : length es ≤ size) where
  -- an entry put under the key
  kept_put : (fs : List HotEntry) (x : HotEntry) → Asc fs → x.key ≡ key → length (put x fs) ≤ size → Kept size key (hot_with (put x fs))
  kept_put fs x b k q = record {
    ascends = asc-put x fs b;
    bound = q;
    says = ap present (get-put x fs key k);
  }

  kept_there : (e x : HotEntry) → get key es ≡ Some e → x.key ≡ e.key → Kept size key (hot_with (put x es))
  kept_there e x q k =
      let j : x.key ≡ key = k ∙ get_key key es e q in
      kept_put es x a j (omega (arith, put_count x es, some-there x.key es (subst (λ (i : ℕ). is_hot i es ≡ true) (sym j) (ap present q))))

  kept-cold : get key es ≡ None → Kept size key (cold_with es)
  kept-cold q = record { ascends = a; bound = l; says = ap present q }

  kept-evict : (b : Bool) (o : Option HotEntry) → o ≡ weakest es → get key es ≡ None → Kept size key (evict margin (new_entry key demand b now) es o)
  unfolding evict
  kept-evict b None w q = kept-cold q
  kept-evict b (Some e) w q =
      let x : HotEntry = new_entry key demand b now in
      let gone = some-there e.key es (weakest-hot es e w) in
      by-test (lt (mul binary64 e.demand margin) demand) _ _
      (λ t. kept_put (remove e.key es) x (asc-remove e.key es a) refl (omega (arith, remove-count e.key es, gone, put_count x (remove e.key es))))
      (λ t. kept-cold q)

  kept-admit : (b : Bool) → get key es ≡ None → Kept size key (admit margin size (new_entry key demand b now) es)
  unfolding admit
  kept-admit b q =
      let x : HotEntry = new_entry key demand b now in
      by-test (ltb (length es) size) _ _
      (λ t. kept_put es x a refl (omega (arith, ltb-true (length es) size t, put_count x es)))
      (λ t. kept-evict b (weakest es) refl q)

  kept-promote-from : (b : Bool) (o : Option HotEntry) → get key es ≡ o → Kept size key (promote_from margin size key demand b now es o)
  unfolding promote_from
  kept-promote-from b None q = kept-admit b q
  kept-promote-from b (Some e) q = kept_there e (renewed demand b e) q refl

  pub kept-promote : (b : Bool) → Kept size key (promote margin size key demand b now es)
  unfolding promote
  kept-promote b = kept-promote-from b (get key es) refl

  -- an entry that cools
  module _ (cooldown : ℕ) (elsewhere : Bool) where
    kept-cooled : (e : HotEntry) → get key es ≡ Some e → Kept size key (settle margin size key demand now elsewhere (put (cooled cooldown demand now e) es) (Some (cooled cooldown demand now e)))
    unfolding settle
    kept-cooled e q =
        let x : HotEntry = cooled cooldown demand now e in
        let k : Kept size key (hot_with (put x es)) = kept_there e x q (cooled-key cooldown demand now e) in
        by-test (x.primary || elsewhere) _ _
        (λ t. k)
        (λ t. record {
          ascends = asc-remove key (put x es) k.ascends;
          bound = omega (arith, remove-count key (put x es), k.bound);
          says = ap present (get-remove key (put x es));
        })

    kept-below-from : (o : Option HotEntry) → get key es ≡ o → Kept size key (settle margin size key demand now elsewhere (cool_from cooldown demand now es o) (get key (cool_from cooldown demand now es o)))
    unfolding settle
    kept-below-from None q =
        subst (λ (o : Option HotEntry). Kept size key (settle margin size key demand now elsewhere es o)) (sym q)
        (by-test elsewhere _ _ (λ t. kept-promote false) (λ t. kept-cold q))
    kept-below-from (Some e) q =
        let x : HotEntry = cooled cooldown demand now e in
        let j : x.key ≡ key = cooled-key cooldown demand now e ∙ get_key key es e q in
        subst (λ (o : Option HotEntry). Kept size key (settle margin size key demand now elsewhere (put x es) o))
        (sym (get-put x es key j))
        (kept-cooled e q)

    pub kept-below : Kept size key (below_threshold margin cooldown size key demand now elsewhere es)
    unfolding below_threshold cool
    kept-below = kept-below-from (get key es) refl

-- every update
pub kept-update : (margin : Float) (s : HotSet) (key : ℕ) (demand threshold : Float) (now : ℕ) (elsewhere : Bool) (es : List HotEntry) → Asc es → length es ≤ s.max_size → Kept s.max_size key (update_with margin s key demand threshold now elsewhere es)
unfolding update_with
kept-update margin s key demand threshold now elsewhere es a l = by-test (lt threshold demand) _ _
    (λ t. kept-promote margin s.max_size key demand now es a l true)
    (λ t. kept-below margin s.max_size key demand now es a l s.cooldown elsewhere)

-- ---- the same of the calls

-- question 2 of a set whose entries are ready
pub ready-valid : (s : HotSet) (xs : List ℕ) → valid_size s.max_size ≡ true → s.len ≤ s.max_size → EntriesReady s.len xs → is_valid s xs ≡ true
unfolding is_valid valid
ready-valid s xs z l h =
    and_intro (exact words entry (records 6 s.len xs)) (valid s (entries s.len xs))
    (exactly s.len xs h)
    (and_intro (valid_size s.max_size) _ z (and_intro (leb s.len s.max_size) _ (le-leb s.len s.max_size l) h.good))

-- entries as they should be, written in the words of a set, pass the questions
pub passes-table : (s : HotSet) (xs : List ℕ) (es : List HotEntry) → valid_size s.max_size ≡ true → room s.max_size ≤ length xs → s.len ≡ length es → length es ≤ s.max_size → Asc es → all valid_entry es ≡ true → passes (ask_set s (table (map words es) xs)) ≡ true
unfolding passes valid_size
passes-table s xs es z r n l a v =
    let ys : List ℕ = table (map words es) xs in
    let most = leb-true s.max_size 64 (both (leb 1 s.max_size) _ z).1 in
    let small : length es * 6 ≤ length xs = omega arith in
    let long : leb (room s.max_size) (length ys) ≡ true = le-leb (room s.max_size) _ (omega (arith, length-table es xs small)) in
    let ready : EntriesReady s.len ys = subst (λ (k : ℕ). EntriesReady k ys) (sym n) (ready-table es xs a v small) in
    and_intro _ _ long (and_intro _ _ (ready-valid s ys z (omega arith) ready) refl)

-- what an update leaves of a set that passes its questions
module _ (margin : Float) (s : HotSet) (xs : List ℕ) (p : passes (ask_set s xs) ≡ true) (key : ℕ) (demand threshold : Float) (now : ℕ) (elsewhere : Bool) where
  abbrev outcome : Outcome
  outcome = update_with margin s key demand threshold now elsewhere (entries_of s xs)

  before : Passed s xs
  before = passed-set s xs p

  pub kept : Kept s.max_size key outcome
  kept =
      let n = length-entries s.len xs in
      let k = before.count in
      kept-update margin s key demand threshold now elsewhere (entries_of s xs) (asc-entries s.len xs before.ready) (omega arith)

  sized : valid_size s.max_size ≡ true
  unfolding valid_size
  sized = and_intro (leb 1 s.max_size) _ (le-leb 1 s.max_size before.some_size) (le-leb s.max_size 64 before.most_size)

  module _ (u : Updated) (ys : List ℕ) (a : Acted s outcome xs u ys) where
    -- the words are as many as they were
    pub acted-long : length ys ≡ length xs
    acted-long = ap length a.left ∙ length-table outcome.left xs (omega (arith, kept.bound, before.space))

    -- the set's entries are those of the outcome
    pub acted-read : fits binary64 demand ≡ true → entries_of u.set ys ≡ outcome.left
    acted-read f =
        (λ i. entries (a.says i).set.len (a.left i))
        ∙ entries-table outcome.left xs (updated-fits margin s key demand threshold now elsewhere (entries_of s xs) f (fits-entries s.len xs))

    -- the set passes its questions again: its entries ascend and are valid
    pub acted-again : GoodUpdate key demand now → passes (ask_set u.set ys) ≡ true
    acted-again g =
        let d : room s.max_size ≤ length xs = let p = before.most_size in let q = before.space in omega arith in
        (λ i. passes (ask_set (a.says i).set (a.left i)))
        ∙ passes-table (updated s outcome).set xs outcome.left sized d refl kept.bound kept.ascends
        (updated-valid margin s key demand threshold now elsewhere (entries_of s xs) g (valid-entries s.len xs before.ready))

module _ (s : HotSet) (xs : List ℕ) (key : ℕ) (demand threshold : Float) (now : ℕ) (elsewhere : Bool) (r : Result Updated Refusal) (ys : List ℕ) (c : UpdatedWith s xs key demand threshold now elsewhere r ys) (u : Updated) (e : answer_of r ≡ given u) where
  abbrev updated-to : Outcome
  updated-to = update_with eviction_margin s key demand threshold now elsewhere (entries_of s xs)

  asked : (passes (ask_update s xs demand) ≡ true) × (u ≡ updated s updated-to)
  asked = given-passed (ask_update s xs demand) u (updated s updated-to) (sym e ∙ c.answered)

  set-asked : passes (ask_set s xs) ≡ true
  set-asked = update-passed-set s xs demand asked.0

  number : magnitude demand ≡ true
  unfolding passes
  number = (both (magnitude demand) _ (both (is_valid s xs) _ (both (leb (room s.max_size) (length xs)) _ asked.0).1).1).0

  acted : Acted s updated-to xs u ys
  unfolding passes
  acted = record { says = asked.1; left = c.left ∙ ap (λ (b : Bool). cond b (rewritten updated-to xs) xs) asked.0 }

  update-kept : Kept s.max_size key updated-to
  update-kept = kept eviction_margin s xs set-asked key demand threshold now elsewhere

  -- never more than its size, which stays
  pub size-kept : (u.set.len ≤ s.max_size) × (u.set.max_size ≡ s.max_size) × (u.set.cooldown ≡ s.cooldown)
  size-kept =
      (subst (λ (n : ℕ). n ≤ s.max_size) (sym (ap (λ (v : Updated). v.set.len) asked.1)) update-kept.bound, ap (λ (v : Updated). v.set.max_size) asked.1, ap (λ (v : Updated). v.set.cooldown) asked.1)

  -- the answer says whether the key is in the set
  pub answer-means : fits binary64 demand ≡ true → is_hot key (entries_of u.set ys) ≡ u.is_hot
  answer-means f =
      ap (is_hot key) (acted-read eviction_margin s xs set-asked key demand threshold now elsewhere u ys acted f)
      ∙ update-kept.says
      ∙ sym (ap (λ (v : Updated). v.is_hot) asked.1)

  -- for a key, a demand and a reading that 64 bits hold
  pub passed-again : is_word key ≡ true → fits binary64 demand ≡ true → is_word now ≡ true → passes (ask_set u.set ys) ≡ true
  passed-again hk f hn =
      acted-again eviction_margin s xs set-asked key demand threshold now elsewhere u ys acted
      (record { key_word = hk; demand_f64 = f; finite = number; now_word = hn })

-- what `new` gives passes the questions in the words it was asked with, and holds no key
pub new-passes : (xs : List ℕ) (cooldown size : ℕ) (r : Result HotSet Refusal) (s : HotSet) → MadeNew xs cooldown size r → answer_of r ≡ given s → (passes (ask_set s xs) ≡ true) × (entries_of s xs ≡ [])
unfolding passes is_valid valid valid_entries all ascending records entries
new-passes xs cooldown size r s c e =
    let w = given-passed (ask_new size xs) s (record { cooldown = cooldown; max_size = size; len = 0 }) (sym e ∙ c) in
    let p = both (leb (room size) (length xs)) _ w.0 in
    let q = both (valid_size size) _ p.1 in
    subst (λ (t : HotSet). (passes (ask_set t xs) ≡ true) × (entries_of t xs ≡ [])) (sym w.1)
    (and_intro _ _ p.0 (and_intro _ _ (and_intro _ _ refl (and_intro _ _ q.0 (and_intro _ _ (le-leb 0 size (omega arith)) refl))) refl), refl)
