-- The count: calls and answers as the caller reads them show of each key what the definitions show, so the bound holds of them.
use Prim.Native.Nat.{ℕ}
use mathlib.Core.Path.{◌≡◌, refl, sym, ap, ◌∙◌, subst}
use mathlib.Core.Bool.{true, false}
use mathlib.Core.List.{List, [], ◌∷◌, ◌++◌}
use lib.Dec.{eqb}
use Rattle.records.specs.Words.{paste}
use Rattle.questions.specs.Questions.{Question, Answer, refused, given, answer, passes, first_no}
use Rattle.std.proofs.lemmas.Bool.{cond-false}
use Rattle.questions.proofs.Tests.{split}
use Rattle.questions.proofs.Answers.{answer-passed, not-zero}
use Rattle.gcra.specs.declared.Decision.{Decision}
use Rattle.gcra.specs.declared.Decision.TheVariants.{Allow, Deny}
use Rattle.limiter.specs.declared.Config.{Config}
use Rattle.limiter.specs.State.{LimiterState}
use Rattle.image.specs.Image.{State}
use Rattle.run.specs.Run as run
use Rattle.run.specs.Run.{Change, What, Reply}
use Rattle.run.specs.Seen.{Seen, KeepsToTheBound, Premises, NeverLowered}
use Rattle.run.specs.Trace.{asked, made, after, Sort, sort, seen_of, seen_in, seen, if_key, trace, new_states, allows, meters}
use Rattle.run.proofs.Standing.Replied.{replied_to, replied}
use Rattle.run.proofs.Standing.Shows as values
use Rattle.run.proofs.Count.TraceTurns as turns
use Rattle.run.proofs.Count.TraceTurns.{taken, done-passed}
use Rattle.nultiway.specs.Calls.{decision_words}
use Rattle.nultiway.proofs.Calls.CallLaws.{number-first}
use Rattle.library_run.specs.Calls.{Call, Said, said}
use Rattle.library_run.specs.Runs.{Move}
use Rattle.library_run.specs.Trace.{reported, what_of, tables_lent, decision_in, reply_of, reply_in, moves_in, shown_in}
use Rattle.library_run.specs.Demand3.{Counted}
use Rattle.library_run.proofs.Calls.OwnQuestions.{change_takes}
use Rattle.library_run.proofs.Calls.Refined.{said_in}
use Rattle.library_run.proofs.Calls.Stepped.{settings, own_in, said_where, next_where, next}
use Rattle.library_run.proofs.Runs.Shows.{shown_by}
use Rattle.library_run.proofs.Count.Refusals.{own-numbered, asked-numbered, own-tables, own-refused}
use Rattle.std.specs.declared.option.Option.TheVariants.{None}
use Rattle.limiter.specs.declared.Traced.{Traced}

-- ---- the definitions' reply to a change, by what is counted of it

data Replies (qs : List Question) : Sort → Reply → Type 0 where
  decides : {k now : ℕ} (d : Decision) → Replies qs (Sort.one_check k now) (Reply.decided (answer qs d))
  traces : {k now : ℕ} (d : Traced) → Replies qs (Sort.one_check k now) (Reply.traced (answer qs d))
  decides_each : {rs : List (List ℕ)} {m : ℕ} {out : List ℕ} → Replies qs (Sort.many_checks rs m) (Reply.decided-each (answer qs tt) out)
  does_at : {now : ℕ} → Replies qs (Sort.timed now) (Reply.done (answer qs tt))
  does : Replies qs Sort.timeless (Reply.done (answer qs tt))

replies : (n : run.Lent) (s : State) (x : Change) → Replies (asked n x s) (sort x) (replied_to n x s)
unfolding replied_to
replies n s (Change.check key now m) = Replies.decides _
replies n s (Change.check-in key x now m) = Replies.decides _
replies n s (Change.check-traced key x y now m) = Replies.traces _
replies n s (Change.check-each list count m out) = Replies.decides_each
replies n s (Change.tally key y x now m) = Replies.does_at
replies n s (Change.set-cap x) = Replies.does
replies n s (Change.tick now m) = Replies.does_at
replies n s (Change.tick-with-shares now m) = Replies.does_at
replies n s (Change.report sender x now) = Replies.does_at
replies n s (Change.forget peer) = Replies.does
replies n s (Change.leave peer now hold) = Replies.does_at
replies n s (Change.expire now max_age) = Replies.does_at

-- its number is that of the first 'no'
said-number : {qs : List Question} {k : Sort} {r : Reply} (a : List ℕ) → Replies qs k r → (said_in r a).number ≡ first_no qs
said-number a (Replies.decides d) = number-first _ d
said-number a (Replies.traces d) = number-first _ d
said-number a Replies.decides_each = number-first _ tt
said-number a Replies.does_at = number-first _ tt
said-number a Replies.does = number-first _ tt

-- a decision is read back from its words
decision-read : (d : Decision) (a : List ℕ) → decision_in (paste 0 (decision_words d) a) ≡ d
unfolding paste
decision-read Allow a = refl
decision-read (Deny t) a = refl

-- with more words after them
front_read : (d : Decision) (ws a : List ℕ) → decision_in (paste 0 (decision_words d ++ ws) a) ≡ d
unfolding paste
front_read Allow ws a = refl
front_read (Deny t) ws a = refl

module _ (key : ℕ) (qs : List Question) (l l' : LimiterState) where
  one_seen : (k now : ℕ) {i j : ℕ} → i ≡ j → ◌≡◌ {A = List Seen} (seen key now (if_key key k i) l' ∷ []) (seen key now (if_key key k j) l' ∷ [])
  one_seen k now e = ap (λ (i : ℕ). seen key now (if_key key k i) l' ∷ []) e

  -- of a change that is answered, its words show of the key what the reply shows
  answered-seen :
      (a : List ℕ) (k : Sort) (r : Reply) → passes qs ≡ true → Replies qs k r
      → seen_of key k (reply_of k (said_in r a)) l l' ≡ seen_of key k r l l'
  answered-seen a (Sort.one_check k now) _ e (Replies.decides d) =
      rw (sym (answer-passed d qs e)) (one_seen k now (ap (λ (x : Decision). allows (given x)) (decision-read d a)))
  answered-seen a (Sort.one_check k now) _ e (Replies.traces d) =
      rw (sym (answer-passed d qs e)) (one_seen k now (ap (λ (x : Decision). allows (given x)) (front_read d.decision _ a)))
  answered-seen a (Sort.many_checks rs m) _ e Replies.decides_each = rw (sym (answer-passed (tt {0}) qs e)) refl
  answered-seen a (Sort.timed now) _ e Replies.does_at = refl
  answered-seen a Sort.timeless _ e Replies.does = refl

  none_allowed : {A : Type 0} (f : Answer A → ℕ) (x : A) → ((i : ℕ) → f (refused i) ≡ 0) → passes qs ≡ false → 0 ≡ f (answer qs x)
  none_allowed f x none_of e = sym (taken f 0 qs x none_of ∙ cond-false (passes qs) (f (given x)) 0 e)

  -- of one that is refused, any number but 0 does
  refused-seen :
      (z : Said) (k : Sort) (r : Reply) → eqb z.number 0 ≡ false → passes qs ≡ false → Replies qs k r
      → seen_of key k (reply_of k z) l l' ≡ seen_of key k r l l'
  refused-seen z (Sort.one_check k now) _ e p (Replies.decides d) = rw e (one_seen k now (none_allowed allows d (λ i. refl) p))
  refused-seen z (Sort.one_check k now) _ e p (Replies.traces d) =
      rw e (one_seen k now (none_allowed (λ (y : Answer Traced). allows (meters y)) d (λ i. refl) p))
  refused-seen z (Sort.many_checks rs m) _ e p Replies.decides_each = rw (e, done-passed qs, p) refl
  refused-seen z (Sort.timed now) _ e p Replies.does_at = refl
  refused-seen z Sort.timeless _ e p Replies.does = refl

-- ---- a call as the caller reads it

module _ (c : Call) (s : State) where
  -- lent the tables n and read from what it said, the call leaves the state t and shows of each key what the definitions' answer shows
  abbrev Reads : run.Lent → What → Said → State → Type 0
  Reads n x z t = (after n x s ≡ t) × ((key : ℕ) → seen_in key n x (reply_in x z) s ≡ seen_in key n x (replied n x s) s)

  refused-reads : (n : run.Lent) (x : Change) (z : Said) → eqb z.number 0 ≡ false → passes (asked n x s) ≡ false → Reads n (What.changes x) z s
  refused-reads n x z e p =
      (cond-false (passes (asked n x s)) (made x s) s p, λ key. refused-seen key (asked n x s) s.limiter _ z (sort x) (replied_to n x s) e p (replies n s x))

  answered-reads :
      (x : Change) → let n = c.lent.tables in passes (asked n x s) ≡ true
      → Reads n (What.changes x) (said_in (replied_to n x s) c.answer) (after n (What.changes x) s)
  answered-reads x e =
      let n = c.lent.tables in
      (refl, λ key. answered-seen key (asked n x s) s.limiter _ c.answer (sort x) (replied_to n x s) e (replies n s x))

  -- past its own questions
  crate-reads :
      (x : Change) → let n = c.lent.tables in
      Reads n (What.changes x) (said_in (replied_to n x s) c.answer) (after n (What.changes x) s)
  crate-reads x =
      let n = c.lent.tables in
      let z = said_in (replied_to n x s) c.answer in
      split (passes (asked n x s))
      (λ e. answered-reads x e)
      (λ e. subst (Reads n (What.changes x) z) (sym (cond-false (passes (asked n x s)) (made x s) s e))
      (refused-reads n x z (not-zero (asked n x s) z.number (asked-numbered n x s) (said-number c.answer (replies n s x)) e) e))

  what-reads :
      (x : What) → let b = passes (own_in c x s) in Reads (tables_lent c x) (what_of c.report x) (said_where c x s b) (next_where c x s b)
  what-reads (What.changes y) =
      let x = reported c.report y in
      let k = change_takes c.answer y in
      let own = own_in c (What.changes y) s in
      let z = said_in (replied_to c.lent.tables x s) c.answer in
      let t = after c.lent.tables (What.changes x) s in
      split (passes own)
      (λ p. rw p (subst (λ (n : run.Lent). Reads n (What.changes x) z t) (sym (own-tables c s y p)) (crate-reads x)))
      (λ p. rw p
      (refused-reads (tables_lent c (What.changes y)) x (said (first_no own) c.answer k.output)
      (not-zero own (first_no own) (own-numbered (settings s) c.lent c.report k.needs) refl p) (own-refused c s y p)))
  what-reads (What.reads y) = (split (passes (own_in c (What.reads y) s)) (λ p. rw p) (λ p. rw p), λ key. refl)

-- ---- a run

pub trace-same :
    (key : ℕ) (s : State) (ms : List Move)
    → trace key s (moves_in ms) (shown_in ms (shown_by s ms)) ≡ trace key s (moves_in ms) (values.shown_by s (moves_in ms))
unfolding trace shown_by moves_in shown_in values.shown_by
trace-same key s [] = refl
trace-same key s (Move.call c ∷ ms) =
    let xs = shown_by (next c s) ms in
    let r = what-reads c s c.what in
    let later =
    subst (λ (t : State). trace key t (moves_in ms) (shown_in ms xs) ≡ trace key t (moves_in ms) (values.shown_by t (moves_in ms))) (sym r.0)
    (trace-same key (next c s) ms) in
    (λ i. r.1 key i ++ later i)
trace-same key s (Move.resume w ∷ ms) = trace-same key s ms

-- what the definitions show in words keeps to the bound
pub counted : (c : Config) (ms : List Move) → Counted c ms (shown_by (new_states c) ms)
counted c ms =
    let known = turns.counted c (moves_in ms) in
    record {
      bound = λ key p. let e = trace-same key (new_states c) ms in subst KeepsToTheBound (sym e) (known.bound key (subst Premises e p));
      never_lowered = λ key. subst (NeverLowered None) (sym (trace-same key (new_states c) ms)) (known.never_lowered key);
    }
