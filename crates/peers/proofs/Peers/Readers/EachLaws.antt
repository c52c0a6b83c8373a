-- What is told of many keys, one after the other, and its questions.
use Rattle.std.proofs.Common.{subst, ◌≡◌, ℕ, ◌+◌, ◌*◌, ◌<◌, ◌≤◌, true, false, leb, List, [], ◌∷◌, ◌++◌, map, length, get_or, take, drop, set, sym, refl, ap, ◌∙◌, zero-add, add-one, arith, length-set, leb-true}
use lib.ListN.{length-map}
use lib.Seq.{paste, paste-suc, take-length}
use Rattle.records.specs.Records.{records, fits}
use Rattle.questions.proofs.Tests.{both}
use Rattle.records.proofs.Words.RecordLaws.{length-records, row, fits-pos, fits_le}
use Rattle.peers.specs.Peers.State.{PeersState, PeerTables, lengths, have_room, state_of, valid, are_exact, is_valid}
use Rattle.peers.specs.Peers.Readers.{told}
use Rattle.peers.specs.Peers.Calls.{peers_questions, each_questions, TellsEach}
use Rattle.peers.specs.Peers.Steps.Heard.{EachAsked}
use Rattle.peers.specs.declared.peer_state.KeyStarts.{KeyStarts}
use Rattle.peers.specs.declared.peer_demand.PeerDemand.{PeerDemand}
use Rattle.questions.specs.Questions.{◌asks◌, refused, given, answer, passes, first_no}
use Rattle.questions.proofs.Answers.{Numbered, given-passed, answer-passed, kept-no, changed-passed, passed_none, first-no, first-yes, first-none, first_more, first_rest, answer-no}
use Rattle.peers.proofs.Peers.CallLaws.{peers-numbered}
use Rattle.questions.proofs.ListLaws.{map_at}
use Rattle.peers.proofs.Peers.Reports.KeptLaws.{ValidState, valid-says}
use Rattle.records.proofs.Words.RowLaws.{first-at}
use Rattle.std.specs.declared.result.Result.{Result}
use Rattle.std.specs.declared.result.Result.TheVariants.{Ok, Err}
use Rattle.questions.specs.declared.Refusal.{Refusal}
use Rattle.questions.specs.Refusals.{number, asked as starts_no, answer_of}
use Rattle.questions.proofs.RefusalLaws.{number-nonzero, refused-any}

-- the key of a record is within its table
pub key_inside : (w n : ℕ) (keys : List ℕ) → fits (length keys) w n ≡ true → (i : ℕ) → i < n → i * w < length keys
key_inside w n keys fit i h = omega (arith, row w n i h, fits-pos (length keys) w n fit, fits_le (length keys) w n fit)

module _ {A : Type 0} (tell : ℕ → PeersState → A) (s : PeersState) (w n : ℕ) (keys : List ℕ) (out : List A) where
  abbrev each : List A
  each = map (λ (r : List ℕ). tell (get_or r 0 0) s) (records w n keys)

  each-length : length each ≡ n
  each-length = length-map (records w n keys) _ ∙ length-records w n keys

  -- the output once the first i keys are told
  abbrev told_to : ℕ → List A
  told_to i = paste out 0 each i

  told-next : fits (length keys) w n ≡ true → n ≤ length out → (i : ℕ) → i < n → set (told_to i) i (tell (get_or keys (i * w) 0) s) ≡ told_to (i + 1)
  told-next fit room i h =
      ap (set (told_to i) i) (sym here)
      ∙ ap (λ (m : ℕ). set (told_to i) m (get_or each i z)) (sym (zero-add i))
      ∙ paste-suc out 0 each i z (omega arith) (omega (arith, each-length))
      ∙ ap told_to (sym (add-one i))
    where
      z : A
      z = tell 0 s

      here : get_or each i z ≡ tell (get_or keys (i * w) 0) s
      here =
          map_at (λ (r : List ℕ). tell (get_or r 0 0) s) [] z (records w n keys) i (omega (arith, length-records w n keys))
          ∙ ap (λ (k : ℕ). tell k s) (first-at w n keys i h (fits-pos (length keys) w n fit))

  told-all : (i : ℕ) → i ≤ n → n ≤ i → told_to i ≡ told tell s w n keys out
  unfolding told
  told-all i h k =
      ap told_to e
      ∙ ap (λ (m : ℕ). take n each ++ drop m out) (zero-add n)
      ∙ ap (λ (xs : List A). xs ++ drop n out) (ap (λ (m : ℕ). take m each) (sym each-length) ∙ take-length each)
    where
      e : i ≡ n
      e = omega arith

  -- ---- a loop over the keys, before turn i: the first i keys are told
  abbrev pub Telling : List A → ℕ → Type 0
  Telling out' i = (i ≤ n) × (length out' ≡ length out) × (out' ≡ told_to i)

  module _ (fit : fits (length keys) w n ≡ true) (room : n ≤ length out) (i : ℕ) (h : i < n) where
    pub telling-goes : (out' : List A) → Telling out' i → (x : A) → x ≡ tell (get_or keys (i * w) 0) s → Telling (set out' i x) (i + 1)
    telling-goes out' l x e = (
      omega arith,
      length-set out' i x ∙ l.1,
      ap (λ (xs : List A). set xs i x) l.2 ∙ ap (set (told_to i) i) e ∙ told-next fit room i h,
    )

  pub telling-ends : (out' : List A) (i : ℕ) → Telling out' i → n ≤ i → out' ≡ told tell s w n keys out
  telling-ends out' i l h = l.2 ∙ told-all i l.0 h

-- ---- its questions
module _ (p : PeerDemand) (t : PeerTables) (len w n room : ℕ) where
  pub each-numbered : Numbered (each_questions p t len w n room)
  each-numbered = (omega arith, (omega arith, (omega arith, (omega arith, tt))))

  pub each-unfit : fits len w n ≡ false → 1 ≡ first_no (each_questions p t len w n room)
  each-unfit e = first-no 1 _ e

  module _ (fit : fits len w n ≡ true) (m : ℕ) (asked : m ≡ first_no (peers_questions p t)) where
    pub each-not : (m ≡ 0 → ⊥) → m ≡ first_no (each_questions p t len w n room)
    each-not h = first-yes 1 _ fit (first_more (peers_questions p t) _ m asked h)

    each_last : m ≡ 0 → {k : ℕ} → k ≡ first_no ((16 asks leb n room) ∷ []) → k ≡ first_no (each_questions p t len w n room)
    each_last h e = first-yes 1 _ fit (e ∙ first_rest (peers_questions p t) _ (passed_none (peers_questions p t) m (peers-numbered p t) asked h))

    pub each-full : m ≡ 0 → leb n room ≡ false → 16 ≡ first_no (each_questions p t len w n room)
    each-full h e = each_last h (first-no 16 _ e)

    pub each-asked : m ≡ 0 → leb n room ≡ true → 0 ≡ first_no (each_questions p t len w n room)
    each-asked h e = each_last h (first-yes 16 _ e first-none)

  module _ (m : ℕ) (asked : m ≡ first_no (each_questions p t len w n room)) (passed : m ≡ 0) where
    pub each-passed : passes (each_questions p t len w n room) ≡ true
    each-passed = passed_none _ m each-numbered asked passed

    pub each_fits : (fits len w n ≡ true) × (n ≤ room)
    unfolding passes
    each_fits =
        let a = both (fits len w n) _ each-passed in
        let b = both (have_room (lengths t)) _ a.1 in
        let c = both (is_valid p t) _ b.1 in
        (a.0, leb-true n room (both (leb n room) true c.1).0)

    pub each-valid : ValidState (state_of p t)
    unfolding passes is_valid
    each-valid =
        let a = both (fits len w n) _ each-passed in
        let b = both (have_room (lengths t)) _ a.1 in
        let c = both (is_valid p t) _ b.1 in
        valid-says (state_of p t) (both (are_exact p t) (valid (state_of p t)) c.0).1

-- an asker that refuses
pub refuses : (starts : Result KeyStarts Refusal) (len w n room : ℕ) (x : Refusal) → ((p : PeerDemand) (t : PeerTables) → starts_no starts ≡ first_no (peers_questions p t) → number x ≡ first_no (each_questions p t len w n room)) → EachAsked starts len w n room (Err x)
refuses starts len w n room x f = record { first = f; state = λ s e. absurd (number-nonzero x (ap starts_no e)) }

pub hands : (starts : Result KeyStarts Refusal) (len w n room : ℕ) (x : Refusal) {r : Result KeyStarts Refusal} → r ≡ Err x → ((p : PeerDemand) (t : PeerTables) → starts_no starts ≡ first_no (peers_questions p t) → number x ≡ first_no (each_questions p t len w n room)) → EachAsked starts len w n room r
hands starts len w n room x e f = subst (EachAsked starts len w n room) (sym e) (refuses starts len w n room x f)

-- ---- a call, by the number of the first 'no'
module _ {A : Type 0} (tell : ℕ → PeersState → A) (p : PeerDemand) (t : PeerTables) (w n : ℕ) (keys : List ℕ) (out : List A) (m : ℕ) (asked : m ≡ first_no (each_questions p t (length keys) w n (length out))) where
  pub each-refused : (x : Refusal) → m ≡ number x → {r : Result Unit Refusal} → r ≡ Err x → TellsEach tell p t w n keys out r out
  each-refused x i e =
      let first = sym i ∙ asked in
      record { answered = ap answer_of e ∙ answer-no tt _ (number x) first (number-nonzero x); output = kept-no _ out _ (number x) first (number-nonzero x) }

  pub each-done : m ≡ 0 → (out' : List A) → out' ≡ told tell (state_of p t) w n keys out → TellsEach tell p t w n keys out (Ok tt) out'
  each-done h out' e =
      let passed = each-passed p t (length keys) w n (length out) m asked h in
      record { answered = answer-passed tt _ passed; output = e ∙ changed-passed _ out _ passed }

-- ---- one key: the questions are 1 and 2, and what is told is told of it
module _ {A : Type 0} (tell : ℕ → PeersState → A) (p : PeerDemand) (t : PeerTables) (key : ℕ) (x : A) where
  abbrev s : PeersState
  s = state_of p t

  one_answer : {B : Type 0} (v : B) → answer (each_questions p t 1 1 1 1) v ≡ answer (peers_questions p t) v
  unfolding answer fits
  one_answer v = refl

  one_told : told tell s 1 1 (key ∷ []) (x ∷ []) ≡ tell key s ∷ []
  unfolding told records
  one_told = refl

  module _ (r : Result Unit Refusal) (out : List A) (each : TellsEach tell p t 1 1 (key ∷ []) (x ∷ []) r out) where
    pub one-refused : (x : Refusal) → r ≡ Err x → refused (number x) ≡ answer (peers_questions p t) (tell key s)
    one-refused x e = refused-any (peers_questions p t) (number x) tt (tell key s) (sym (ap answer_of e) ∙ each.answered ∙ one_answer tt)

    pub one-given : (d : A) → r ≡ (Ok tt) → given (get_or out 0 d) ≡ answer (peers_questions p t) (tell key s)
    one-given d e =
        let asked : given tt ≡ answer (each_questions p t 1 1 1 1) tt = sym (ap answer_of e) ∙ each.answered in
        let passed = (given-passed (each_questions p t 1 1 1 1) tt tt asked).0 in
        ap (λ (l : List A). given (get_or l 0 d)) (each.output ∙ sym (changed-passed _ (x ∷ []) _ passed) ∙ one_told)
        ∙ answer-passed (tell key s) (each_questions p t 1 1 1 1) passed ∙ one_answer (tell key s)
