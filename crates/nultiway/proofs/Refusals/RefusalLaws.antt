-- A call that answers a number other than 0 has changed no lent word: by its own questions, or by those of the crate's function.
use Prim.Native.Nat.{ℕ}
use mathlib.Core.Path.{◌≡◌, refl, sym, ap, ◌∙◌}
use mathlib.Core.Bool.{Bool, true, false, cond}
use mathlib.Core.List.{List, [], ◌∷◌, ◌++◌}
use lib.Dec.{leb}
use lib.Ieee.{Float}
use lib.ListN.{length}
use Rattle.records.specs.Words.{paste}
use Rattle.records.specs.Records.{fits}
use Rattle.questions.proofs.Tests.{split, contradiction}
use Rattle.questions.specs.Questions.{Question, Answer, refused, given, answer, passes, first_no, changed}
use Rattle.questions.proofs.Answers.{answer-passed}
use Rattle.peers.specs.Peers.State as peer-state
use Rattle.peers.specs.Peers.State.{PeerTables}
use Rattle.limiter.specs.declared.Limit.{Limit}
use Rattle.limiter.specs.declared.Limiter.{Limiter}
use Rattle.limiter.specs.Answered.{Changed}
use Rattle.limiter.specs.declared.Tally.{Tally}
use Rattle.limiter.specs.State.{LimiterState, LimiterTables, Lengths, lengths}
use Rattle.limiter.specs.Calls.{Acts, Ticking, Lists, state_questions, each_asked, output_questions}
use Rattle.nultiway.specs.Values.{limiter_words, limiter_of, limiter_asked, peers_room}
use Rattle.nultiway.specs.Calls.{Called, Tells, number_of, answer_put, decision_words, one_word}
use Rattle.nultiway.specs.LimiterCalls.{traced_words, SetCap, Record, Tick, TickWithShares, CheckEach, Check, CheckIn, CheckInTraced, HotDemand, MostDenied, MostShadowDenied}
use Rattle.nultiway.proofs.Calls.CallLaws.{by-questions, Open, was-open}
use Rattle.nultiway.proofs.Words.ValueLaws.{limiter-back}
use Rattle.std.specs.declared.option.Option.{Option}
use Rattle.std.specs.declared.result.Result.{Result}
use Rattle.questions.specs.declared.Refusal.{Refusal}
use Rattle.questions.specs.Refusals.{answer_of}

-- ---- an answer that is a 'no'

-- questions that are not all passed give the number of the first 'no'
pub no_answer : {A : Type 0} (a : A) (qs : List Question) → passes qs ≡ false → answer qs a ≡ refused (first_no qs)
unfolding answer passes first_no
no_answer a [] e = contradiction e
no_answer a (q ∷ qs) e = split q.passed (λ p. rw p (no_answer a qs (rw p at e))) (λ p. rw p)

-- a number other than 0 says that they are not
pub not-all : {A : Type 0} (a : A) (qs : List Question) (x : Answer A) → x ≡ answer qs a → (number_of x ≡ 0 → ⊥) → passes qs ≡ false
not-all a qs x e h = split (passes qs) (λ p. absurd (h (ap number_of (e ∙ sym (answer-passed a qs p))))) (λ p. p)

-- the buffer for the answer is as it was
pub no_words :
    {A : Type 0} (x : Answer A) (words : A → List ℕ) (out out' : List ℕ)
    → (number_of x ≡ 0 → ⊥)
    → out' ≡ answer_put words x out
    → out' ≡ out
no_words (refused n) words out out' h o = o
no_words (given a) words out out' h o = absurd (h refl)

-- what the questions of a call were to change
pub kept : {S : Type 0} (qs : List Question) (before after x : S) → x ≡ changed qs before after → passes qs ≡ false → x ≡ before
kept qs before after x e p = e ∙ ap (λ (b : Bool). cond b after before) p

-- the limiter's words, written back
words-kept :
    (ws ws' : List ℕ) (n : Lengths) (room : Bool) (l : Limiter)
    → Open ws n room
    → l ≡ limiter_of ws
    → ws' ≡ paste 0 (limiter_words l) ws
    → ws' ≡ ws
words-kept ws ws' n room l o e w = w ∙ ap (λ (x : Limiter). paste 0 (limiter_words x) ws) e ∙ limiter-back ws o.long o.value

-- of a call's own questions, which change nothing, or of the crate's
pub answered-or-not : {U X : Type 0} (qs : List Question) (r : ℕ) → Called qs r U X → (passes qs ≡ true → X → U) → U
answered-or-not qs r c f = by-questions qs r c f (λ u. u)

-- ---- calls of the crate

module _ (ws ws' : List ℕ) (m : Lengths) (room : Bool) (r : ℕ) (p : passes (limiter_asked ws m room) ≡ true) (h : r ≡ 0 → ⊥) where
  -- the limiter's words and the tables
  acts-unmoved :
      {A : Type 0} {said : Answer A} {qs : List Question} {v : A} {after : LimiterState} {t : LimiterTables} {l' : Limiter} {t' : LimiterTables}
      → Acts said qs v after (limiter_of ws) t l' t'
      → r ≡ number_of said
      → ws' ≡ paste 0 (limiter_words l') ws
      → (passes qs ≡ false) × (ws' ≡ ws) × (t' ≡ t)
  acts-unmoved {A} {said} {qs} {v} {after} {t} {l'} {t'} a n w =
      let q : passes qs ≡ false = not-all v qs said a.answered (λ z. h (n ∙ z)) in
      (q, words-kept ws ws' m room l' (was-open ws m room p) (kept qs _ _ l' a.limiter q) w, kept qs _ _ t' a.words q)

  -- and the answer's
  answers-unmoved :
      {A : Type 0} {said : Answer A} {qs : List Question} {v : A} {after : LimiterState} {t : LimiterTables} {l' : Limiter} {t' : LimiterTables}
      (words : A → List ℕ) (out out' : List ℕ)
      → Acts said qs v after (limiter_of ws) t l' t'
      → r ≡ number_of said
      → ws' ≡ paste 0 (limiter_words l') ws
      → out' ≡ answer_put words said out
      → (ws' ≡ ws) × (t' ≡ t) × (out' ≡ out)
  answers-unmoved {A} {said} words out out' a n w o =
      let u = acts-unmoved a n w in (u.1, u.2, no_words said words out out' (λ z. h (n ∙ z)) o)

  -- of a tick
  tick-unmoved :
      {qs : List Question} {after : LimiterState} {t : LimiterTables} {x : Changed} {t' : LimiterTables}
      → Ticking qs after (limiter_of ws) t x t'
      → r ≡ number_of (answer_of x.answer)
      → ws' ≡ paste 0 (limiter_words x.limiter) ws
      → (ws' ≡ ws) × (t' ≡ t)
  tick-unmoved {qs} {after} {t} {x} {t'} a n w =
      let q : passes qs ≡ false = not-all tt qs (answer_of x.answer) a.answered (λ z. h (n ∙ z)) in
      (words-kept ws ws' m room x.limiter (was-open ws m room p) (kept qs _ _ x.limiter a.limiter q) w, a.unmoved q)

-- an output of entries
list-unmoved :
    {l : Limiter} {t : LimiterTables} {entries : List (List ℕ)} {out : List ℕ} {x : Result ℕ Refusal} {out' : List ℕ}
    → Lists l t entries out x out'
    → (number_of (answer_of x) ≡ 0 → ⊥)
    → out' ≡ out
list-unmoved {l} {t} {entries} {out} {x} {out'} c h =
    let qs : List Question = state_questions l t ++ output_questions entries out in
    kept qs _ _ out' c.output (not-all (length entries) qs (answer_of x) c.answered h)

-- ---- the library's

-- `nultiway_limiter_new`, whose answer is the limiter's words, and every call that reads: of any questions and any promise
pub tells-unmoved :
    {B R A : Type 0} {promise : B → R → Type 0} {v : B} {said : R → Answer A} {words : A → List ℕ}
    (qs : List Question) (out out' : List ℕ) (r : ℕ)
    → Called qs r (out' ≡ out) (Tells promise v said words out r out')
    → (r ≡ 0 → ⊥)
    → out' ≡ out
tells-unmoved {said = said} {words = words} qs out out' r c h =
    answered-or-not qs r c (λ p a. no_words (said a.result) words out out' (λ z. h (a.number ∙ z)) a.answer)

-- lists
module _ (ws : List ℕ) (t : LimiterTables) (out answer : List ℕ) (r : ℕ) (out' answer' : List ℕ) (h : r ≡ 0 → ⊥) where
  pub hot-demand-unmoved : HotDemand ws t out answer r out' answer' → (out' ≡ out) × (answer' ≡ answer)
  hot-demand-unmoved c =
      answered-or-not (limiter_asked ws (lengths t) (leb 1 (length answer))) r c
      (λ p a.
      let z : number_of (answer_of a.result) ≡ 0 → ⊥ = λ e. h (a.number ∙ e) in
      (list-unmoved a.kept z, no_words (answer_of a.result) one_word answer answer' z a.answer))

  pub most-denied-unmoved : (k : ℕ) → MostDenied ws t k out answer r out' answer' → (out' ≡ out) × (answer' ≡ answer)
  most-denied-unmoved k c =
      answered-or-not (limiter_asked ws (lengths t) (leb 1 (length answer))) r c
      (λ p a.
      let z : number_of (answer_of a.result) ≡ 0 → ⊥ = λ e. h (a.number ∙ e) in
      (list-unmoved a.kept z, no_words (answer_of a.result) one_word answer answer' z a.answer))

  pub most-shadow-denied-unmoved : (k : ℕ) → MostShadowDenied ws t k out answer r out' answer' → (out' ≡ out) × (answer' ≡ answer)
  most-shadow-denied-unmoved k c =
      answered-or-not (limiter_asked ws (lengths t) (leb 1 (length answer))) r c
      (λ p a.
      let z : number_of (answer_of a.result) ≡ 0 → ⊥ = λ e. h (a.number ∙ e) in
      (list-unmoved a.kept z, no_words (answer_of a.result) one_word answer answer' z a.answer))

-- changes and checks
module _ (ws : List ℕ) (t : LimiterTables) (r : ℕ) (ws' : List ℕ) (h : r ≡ 0 → ⊥) where
  pub set-cap-unmoved : (cap : Option Float) → SetCap ws t cap r ws' → ws' ≡ ws
  set-cap-unmoved cap c =
      answered-or-not (limiter_asked ws (lengths t) true) r c
      (λ p a.
      let x = a.result in
      let qs : List Question = state_questions (limiter_of ws) t in
      let q : passes qs ≡ false = not-all tt qs (answer_of x.answer) a.kept.answered (λ z. h (a.number ∙ z)) in
      words-kept ws ws' (lengths t) true x.limiter (was-open ws (lengths t) true p) (kept qs _ _ x.limiter a.kept.limiter q) a.value)

  module _ (t' : LimiterTables) where
    pub record-unmoved : (key : ℕ) (y : Tally) (k : Limit) (now n : ℕ) → Record ws t key y k now n r ws' t' → (ws' ≡ ws) × (t' ≡ t)
    record-unmoved key y k now n c =
        answered-or-not (limiter_asked ws (lengths t) true) r c
        (λ p a. let u = acts-unmoved ws ws' (lengths t) true r p h a.kept a.number a.value in (u.1, u.2))

    pub tick-call-unmoved : (now n : ℕ) → Tick ws t now n r ws' t' → (ws' ≡ ws) × (t' ≡ t)
    tick-call-unmoved now n c =
        answered-or-not (limiter_asked ws (lengths t) true) r c (λ p a. tick-unmoved ws ws' (lengths t) true r p h a.kept a.number a.value)

    pub tick-with-shares-unmoved :
        (ps : List ℕ) (pt : PeerTables) (now n : ℕ)
        → TickWithShares ws t ps pt now n r ws' t'
        → (ws' ≡ ws) × (t' ≡ t)
    tick-with-shares-unmoved ps pt now n c =
        answered-or-not (limiter_asked ws (lengths t) (peers_room (length ps) (peer-state.lengths pt))) r c
        (λ p a. tick-unmoved ws ws' (lengths t) (peers_room (length ps) (peer-state.lengths pt)) r p h a.kept a.number a.value)

    module _ (out out' : List ℕ) where
      pub check-each-unmoved :
          (list : List ℕ) (count n : ℕ)
          → CheckEach ws t list count n out r ws' t' out'
          → (ws' ≡ ws) × (t' ≡ t) × (out' ≡ out)
      check-each-unmoved list count n c =
          answered-or-not (limiter_asked ws (lengths t) (fits (length list) 2 count)) r c
          (λ p a.
          let u = acts-unmoved ws ws' (lengths t) (fits (length list) 2 count) r p h a.kept.acts a.number a.value in
          (u.1, u.2, kept (each_asked (limiter_of ws) t list count n out) _ _ out' a.kept.output u.0))

      pub check-unmoved : (key now n : ℕ) → Check ws t key now n out r ws' t' out' → (ws' ≡ ws) × (t' ≡ t) × (out' ≡ out)
      check-unmoved key now n c =
          answered-or-not (limiter_asked ws (lengths t) (leb 2 (length out))) r c
          (λ p a. answers-unmoved ws ws' (lengths t) (leb 2 (length out)) r p h decision_words out out' a.kept a.number a.value a.answer)

      pub check-in-unmoved : (key : ℕ) (k : Limit) (now n : ℕ) → CheckIn ws t key k now n out r ws' t' out' → (ws' ≡ ws) × (t' ≡ t) × (out' ≡ out)
      check-in-unmoved key k now n c =
          answered-or-not (limiter_asked ws (lengths t) (leb 2 (length out))) r c
          (λ p a. answers-unmoved ws ws' (lengths t) (leb 2 (length out)) r p h decision_words out out' a.kept a.number a.value a.answer)

      pub check-in-traced-unmoved :
          (key : ℕ) (k : Limit) (shadow : Option Limit) (now n : ℕ)
          → CheckInTraced ws t key k shadow now n out r ws' t' out'
          → (ws' ≡ ws) × (t' ≡ t) × (out' ≡ out)
      check-in-traced-unmoved key k shadow now n c =
          answered-or-not (limiter_asked ws (lengths t) (leb 5 (length out))) r c
          (λ p a. answers-unmoved ws ws' (lengths t) (leb 5 (length out)) r p h traced_words out out' a.kept a.number a.value a.answer)
