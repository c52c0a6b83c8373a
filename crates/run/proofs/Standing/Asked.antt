-- The questions of a call on what is lent are answered as on the state that the program's holdings stand for: by the lent lengths, and where there is
-- room by the state.
use mathlib.Core.Path.{◌≡◌, refl, sym, ap, ◌∙◌, subst}
use mathlib.Core.Bool.{Bool, true, false, cond, ◌&&◌, and-false}
use mathlib.Core.List.{List, [], ◌∷◌, ◌++◌}
use Rattle.std.proofs.lemmas.Bool.{cond-false}
use Rattle.questions.proofs.Tests.{split, both}
use Rattle.questions.specs.Questions.{Question, ◌asks◌, refused, answer, passes, changed, first_no}
use Rattle.peers.specs.Peers.State as peer-state
use Rattle.limiter.specs.declared.Config.{Config}
use Rattle.limiter.specs.State as limiter-state
use Rattle.limiter.specs.State.{have_room, lengths, units_of}
use Rattle.image.specs.Image.{State, valid}
use Rattle.image.specs.Calls.{here}
use Rattle.run.specs.Run.{Memory, Lent, lend, lent_by}
use Rattle.run.proofs.Standing.Stands.{Stands, same-config, limiter-lent, peers-lent}

-- ---- a call's questions: some on its arguments alone, 1 and 2, and the others on a state
abbrev pub asking : {S : Type 0} → List Question → (S → List Question) → (room valid : Bool) → S → List Question
asking front rest room valid y = front ++ ((1 asks room) ∷ (2 asks valid) ∷ rest y)

-- the same room, and where there is room the same validity and state
pub record Agrees {S : Type 0} (room v : Bool) (y : S) (room' v' : Bool) (y' : S) : Type 0 where
  pub rooms : room ≡ room'
  pub rest : room' ≡ true → (v ≡ v') × (y ≡ y')

-- without room the answer is 1's or one before it
answer-roomless : {A : Type 0} (front qs qs' : List Question) (a a' : A)
    → answer (front ++ ((1 asks false) ∷ qs)) a ≡ answer (front ++ ((1 asks false) ∷ qs')) a'
unfolding answer
answer-roomless [] qs qs' a a' = refl
answer-roomless (q ∷ front) qs qs' a a' = (λ i. cond q.passed (answer-roomless front qs qs' a a' i) (refused q.number))

-- and so is the number of the first 'no'
first-no-roomless : (front qs qs' : List Question) → first_no (front ++ ((1 asks false) ∷ qs)) ≡ first_no (front ++ ((1 asks false) ∷ qs'))
unfolding first_no
first-no-roomless [] qs qs' = refl
first-no-roomless (q ∷ front) qs qs' = (λ i. cond q.passed (first-no-roomless front qs qs' i) q.number)

-- and not every question passes
passes-roomless : (front qs : List Question) → passes (front ++ ((1 asks false) ∷ qs)) ≡ false
unfolding passes
passes-roomless [] qs = refl
passes-roomless (q ∷ front) qs = ap (λ (b : Bool). q.passed && b) (passes-roomless front qs) ∙ and-false q.passed

-- past all questions there is room
pub passes-room : (front : List Question) (b : Bool) (qs : List Question) → passes (front ++ ((1 asks b) ∷ qs)) ≡ true → b ≡ true
unfolding passes
passes-room [] b qs e = (both b _ e).0
passes-room (q ∷ front) b qs e = passes-room front b qs (both q.passed _ e).1

-- and the others pass
pub passes-rest : (front : List Question) (a b : Question) (qs : List Question) → passes (front ++ (a ∷ b ∷ qs)) ≡ true → passes qs ≡ true
unfolding passes
passes-rest [] a b qs e = (both b.passed _ (both a.passed _ e).1).1
passes-rest (q ∷ front) a b qs e = passes-rest front a b qs (both q.passed _ e).1

module _ {S : Type 0} {room v room' v' : Bool} {y y' : S} (g : Agrees room v y room' v' y') (front : List Question) (rest : S → List Question) where
  -- the answer is the same
  pub same_answer : {A : Type 0} (value : S → A) → answer (asking front rest room v y) (value y) ≡ answer (asking front rest room' v' y') (value y')
  same_answer value = split room'
      (λ e. let r = g.rest e in (λ i. answer (asking front rest (g.rooms i) (r.0 i) (r.1 i)) (value (r.1 i))))
      (λ e.
      (λ i. answer (asking front rest ((g.rooms ∙ e) i) v y) (value y)) ∙ answer-roomless front _ _ _ _
      ∙ (λ i. answer (asking front rest (sym e i) v' y') (value y')))

  -- so is the number of the first 'no'
  pub same-first-no : first_no (asking front rest room v y) ≡ first_no (asking front rest room' v' y')
  same-first-no = split room'
      (λ e. let r = g.rest e in (λ i. first_no (asking front rest (g.rooms i) (r.0 i) (r.1 i))))
      (λ e.
      (λ i. first_no (asking front rest ((g.rooms ∙ e) i) v y)) ∙ first-no-roomless front _ _
      ∙ (λ i. first_no (asking front rest (sym e i) v' y')))

  -- all questions pass on both, or on neither
  pub same-passes : passes (asking front rest room v y) ≡ passes (asking front rest room' v' y')
  same-passes = split room'
      (λ e. let r = g.rest e in (λ i. passes (asking front rest (g.rooms i) (r.0 i) (r.1 i))))
      (λ e.
      (λ i. passes (asking front rest ((g.rooms ∙ e) i) v y)) ∙ passes-roomless front _
      ∙ sym ((λ i. passes (asking front rest (e i) v' y')) ∙ passes-roomless front _))

  -- where they pass the states are the same
  pub same-state : passes (asking front rest room' v' y') ≡ true → y ≡ y'
  same-state e = (g.rest (passes-room front room' ((2 asks v') ∷ rest y') e)).1

  -- what is changed is changed to the same
  pub same-changed : {A : Type 0} (x : A) (value : S → A)
      → changed (asking front rest room v y) x (value y) ≡ changed (asking front rest room' v' y') x (value y')
  same-changed x value = split (passes (asking front rest room' v' y'))
      (λ e. (λ i. cond (same-passes i) (value (same-state e i)) x))
      (λ e.
      cond-false _ (value y) x (same-passes ∙ e) ∙ sym (cond-false _ (value y') x e))

-- ---- what is lent of holdings that stand for a state

module _ (h : Memory) (s : State) (n : Lent) where
  -- the first n words, as they answer by the lengths k: of the limiter
  abbrev pub LimiterAgrees : Lent → Type 0
  LimiterAgrees k =
      Agrees (have_room h.limiter.config (lengths (lend n h).tables)) (limiter-state.is_valid (limiter-state.units_in h.limiter) h.limiter (lend n h).tables)
      (limiter-state.state_of (limiter-state.units_in h.limiter) h.limiter (lend n h).tables) (have_room s.limiter.settings.config k.limiter)
      (limiter-state.valid (units_of s.limiter.settings) s.limiter) s.limiter

  -- of the peers
  abbrev pub PeersAgree : Lent → Type 0
  PeersAgree k =
      Agrees (peer-state.have_room (peer-state.lengths (lend n h).peer_tables)) (peer-state.is_valid h.peers (lend n h).peer_tables)
      (peer-state.state_of h.peers (lend n h).peer_tables) (peer-state.have_room k.peers) (peer-state.valid s.peers) s.peers

  -- of both
  abbrev pub BothAgree : Lent → Type 0
  BothAgree k =
      Agrees (have_room h.limiter.config (lengths (lend n h).tables) && peer-state.have_room (peer-state.lengths (lend n h).peer_tables))
      (limiter-state.is_valid (limiter-state.units_in h.limiter) h.limiter (lend n h).tables && peer-state.is_valid h.peers (lend n h).peer_tables)
      (here h.limiter (lend n h).tables h.peers (lend n h).peer_tables)
      (have_room s.limiter.settings.config k.limiter && peer-state.have_room k.peers) (valid s) s

-- by the words that there are
module _ {h : Memory} {s : State} (n : Lent) (st : Stands h s) where
  -- the limiter's
  limiter-agrees-there : LimiterAgrees h s n (lent_by (lend n h))
  unfolding limiter-state.is_valid limiter-state.state_of
  limiter-agrees-there =
      record {
        rooms = ap (λ (k : Config). have_room k (lengths (lend n h).tables)) (same-config st.limiter);
        rest =
            λ room. let x = limiter-lent n.limiter room st.limiter in
            ((λ i. x.exact i && limiter-state.valid (units_of (x.reads i).settings) (x.reads i)), x.reads);
      }

  -- the peers'
  peers-agree-there : PeersAgree h s n (lent_by (lend n h))
  unfolding peer-state.is_valid
  peers-agree-there =
      record {
        rooms = refl;
        rest = λ room. let x = peers-lent n.peers room st.peers in ((λ i. x.exact i && peer-state.valid (x.reads i)), x.reads);
      }

  -- both
  pub both-agree-there : BothAgree h s n (lent_by (lend n h))
  unfolding valid
  both-agree-there =
      record {
        rooms = (λ i. limiter-agrees-there.rooms i && peers-agree-there.rooms i);
        rest = λ room.
            let b = both (have_room s.limiter.settings.config (lengths (lend n h).tables))
            (peer-state.have_room (peer-state.lengths (lend n h).peer_tables)) room in
            let x = limiter-agrees-there.rest b.0 in
            let y = peers-agree-there.rest b.1 in
            ((λ i. x.0 i && y.0 i), (λ i. record { limiter = x.1 i; peers = y.1 i }));
      }

-- by the lent lengths, where there are as many words
module _ {h : Memory} {s : State} (n : Lent) (enough : lent_by (lend n h) ≡ n) (st : Stands h s) where
  -- the limiter's
  pub limiter-agrees : LimiterAgrees h s n n
  limiter-agrees = subst (LimiterAgrees h s n) enough (limiter-agrees-there n st)

  -- the peers'
  pub peers-agree : PeersAgree h s n n
  peers-agree = subst (PeersAgree h s n) enough (peers-agree-there n st)

  -- both
  pub both-agree : BothAgree h s n n
  both-agree = subst (BothAgree h s n) enough (both-agree-there n st)
