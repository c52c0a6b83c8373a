-- The questions of a call on the hot set, and what a hot set that passes them is.
use Prim.Native.Nat.{ℕ, ◌*◌, ◌≤◌}
use native.Mathlib.Omega.{arith}
use mathlib.Core.Path.{◌≡◌, refl, sym, ap, ◌∙◌}
use mathlib.Core.Bool.{Bool, true, false, ◌&&◌}
use mathlib.Core.List.{List, [], ◌∷◌}
use borrow.Author.Tests.{leb-true}
use lib.Dec.{leb}
use lib.Ieee.{Float}
use lib.ListN.{length}
use Rattle.float.specs.Magnitude.{magnitude}
use Rattle.records.specs.Records.{records, fits}
use Rattle.questions.proofs.Tests.{both, and_left, and-under, and-skip}
use Rattle.records.proofs.Words.RecordLaws.{fits_intro}
use Rattle.questions.specs.Questions.{Question, ◌asks◌, refused, given, answer, passes, first_no}
use Rattle.questions.specs.declared.Refusal.{Refusal}
use Rattle.questions.specs.Refusals.{number, answer_of}
use Rattle.questions.proofs.Answers.{answer-passed, given-passed, passed_none}
use Rattle.questions.proofs.RefusalLaws.{handed, refused-any}
use Rattle.std.specs.declared.result.Result.{Result}
use Rattle.std.specs.Result.{IsErrAnd}
use Rattle.questions.specs.Lists.{present}
use Rattle.std.specs.Option.{MatchOption, IsSomeAnd, is_some}
use Rattle.std.specs.declared.option.Option.TheVariants.{None, Some}
use Rattle.hot.specs.HotSet.Set.{words, entry, entries, valid_entries, valid_size, valid, is_valid, since_of, primary_of}
use Rattle.records.specs.Typed.{exact}
use Rattle.hot.specs.HotSet.Steps.{EntriesReady}
use Rattle.hot.specs.HotSet.Calls.{room, ask_set, ask_update}
use Rattle.hot.specs.declared.hot_set.HotEntry.{HotEntry}
use Rattle.hot.specs.declared.hot_set.HotSet.{HotSet}
use Rattle.records.proofs.Tables.TypedLaws.{words-of-exact}
use Rattle.std.specs.declared.option.Option.{Option}

-- what is read off an answer
module _ {A B : Type 0} (qs : List Question) (x : A) (y : B) where
  pub read-refused : (e : Refusal) → refused (number e) ≡ answer qs x → (r : Result B Refusal) → IsErrAnd r (λ z. z ≡ e) → answer_of r ≡ answer qs y
  read-refused e f r i = rw (handed e r i) (refused-any qs (number e) x y f)

  pub read-given : (u : A) (v : B) → given u ≡ answer qs x → (u ≡ x → v ≡ y) → given v ≡ answer qs y
  read-given u v f g = let p = given-passed qs u x f in ap given (g p.1) ∙ answer-passed y qs p.0

-- ---- what is read off an entry that may be missing
pub some-present : {A : Type 0} (o : Option A) → is_some o ≡ present o
some-present None = refl
some-present (Some x) = refl

pub since-read : (o : Option HotEntry) (r : Option ℕ) → MatchOption o (r ≡ None) (λ e. IsSomeAnd r (λ t. t ≡ e.since)) → r ≡ since_of o
since-read None r h = h
since-read (Some e) None h = absurd h
since-read (Some e) (Some t) h = ap Some h

pub primary-read : (o : Option HotEntry) (r : Bool) → MatchOption o (r ≡ false) (λ e. r ≡ e.primary) → r ≡ primary_of o
primary-read None r h = h
primary-read (Some e) r h = h

-- ---- the questions of an update
module _ (s : HotSet) (xs : List ℕ) where
  pub set-passed : 0 ≡ first_no (ask_set s xs) → passes (ask_set s xs) ≡ true
  set-passed e = passed_none (ask_set s xs) 0 (omega arith, (omega arith, tt)) e refl

module _ (s : HotSet) (xs : List ℕ) (d : Float) where
  pub update-passed : 0 ≡ first_no (ask_update s xs d) → passes (ask_update s xs d) ≡ true
  update-passed e = passed_none (ask_update s xs d) 0 (omega arith, (omega arith, (omega arith, tt))) e refl

  -- the demand is asked about last
  abbrev pub asks-demand : List Question
  asks-demand = (11 asks magnitude d) ∷ []

  pub update-passed-set : passes (ask_update s xs d) ≡ true → passes (ask_set s xs) ≡ true
  unfolding passes
  update-passed-set e =
      let p = both (leb (room s.max_size) (length xs)) _ e in
      let q = both (is_valid s xs) _ p.1 in
      rw (p.0, q.0)

-- ---- a hot set that passes 1 and 2
pub record Passed (s : HotSet) (xs : List ℕ) : Type 0 where
  pub some_size : 1 ≤ s.max_size
  pub most_size : s.max_size ≤ 64
  pub count : s.len ≤ s.max_size
  pub space : s.max_size * 6 ≤ length xs
  pub ready : EntriesReady s.len xs

pub passed-set : (s : HotSet) (xs : List ℕ) → passes (ask_set s xs) ≡ true → Passed s xs
unfolding passes is_valid valid valid_size entries
passed-set s xs e =
    let p = both (leb (room s.max_size) (length xs)) _ e in
    let x = both (exact words entry (records 6 s.len xs)) (valid s (entries s.len xs)) (both (is_valid s xs) _ p.1).0 in
    let v = both (valid_size s.max_size) _ x.1 in
    let z = both (leb 1 s.max_size) _ v.0 in
    let w = both (leb s.len s.max_size) _ v.1 in
    let a = leb-true 1 s.max_size z.0 in
    let b = leb-true s.max_size 64 z.1 in
    let c = leb-true s.len s.max_size w.0 in
    let d = leb-true (room s.max_size) (length xs) p.0 in
    record {
      some_size = a;
      most_size = b;
      count = c;
      space = omega arith;
      ready = record { fit = omega arith; exact = words-of-exact words entry (records 6 s.len xs) x.0; good = w.1 };
    }

-- ---- the test of question 2
module _ (s : HotSet) (xs : List ℕ) where
  abbrev is_exact : Bool
  is_exact = exact words entry (records 6 s.len xs)

  abbrev es : List HotEntry
  es = entries s.len xs

  -- entries that the size allows are within the words
  within : valid_size s.max_size ≡ true → leb s.len s.max_size ≡ true → room s.max_size ≤ length xs → fits (length xs) 6 s.len ≡ true
  unfolding valid_size
  within e h r =
      let b = leb-true s.max_size 64 (both (leb 1 s.max_size) _ e).1 in
      let c = leb-true s.len s.max_size h in
      fits_intro (length xs) 6 s.len (omega arith) (omega arith)

  pub by_tests : room s.max_size ≤ length xs → is_valid s xs ≡ (valid_size s.max_size && (leb s.len s.max_size && (fits (length xs) 6 s.len && (is_exact && valid_entries es))))
  unfolding is_valid valid
  by_tests r =
      and_left is_exact (valid_size s.max_size) _
      ∙ and-under (valid_size s.max_size) _ _
      (λ e. and_left is_exact (leb s.len s.max_size) (valid_entries es)
      ∙ and-under (leb s.len s.max_size) _ _ (λ h. sym (and-skip (fits (length xs) 6 s.len) _ (within e h r))))
