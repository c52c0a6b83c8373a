-- Laws: a call's answer by the number of its first 'no'.
use Rattle.std.proofs.Common.{◌≡◌, ℕ, true, List, refl, ap, ◌∙◌, arith}
use Rattle.questions.proofs.Tests.{both, and_intro}
use Rattle.peers.specs.declared.peer_demand.DemandReport.{DemandReport}
use Rattle.peers.specs.declared.peer_demand.PeerDemand.{PeerDemand}
use Rattle.peers.specs.declared.peer_demand.PeersChanged.{PeersChanged}
use Rattle.questions.specs.Questions.{Question, given, answer, passes, changed, first_no}
use Rattle.questions.proofs.Answers.{Numbered, given-passed, answer-no, answer-passed, kept-no, changed-passed, passed_none}
use Rattle.peers.specs.Peers.State.{PeersState, PeerTables, lengths, have_room, state_of, is_valid, with_counts, written}
use Rattle.peers.specs.Peers.Steps.Runs.{Stores, Becomes}
use Rattle.peers.specs.Peers.Calls.{peers_questions, report_questions, Changes}
use Rattle.peers.specs.Peers.Steps.Stays.{Valid, refused_with, done_with}
use Rattle.questions.specs.declared.Refusal.{Refusal}
use Rattle.questions.specs.Refusals.{number, answer_of}
use Rattle.questions.proofs.RefusalLaws.{number-nonzero}

module _ (qs : List Question) (change : PeersState → PeersState) (p : PeerDemand) (t : PeerTables) where
  -- a 'no' changes nothing
  pub changes-not : (x : Refusal) (r : PeersChanged) → number x ≡ first_no qs → r ≡ refused_with x p → Changes qs change p t r t
  changes-not x r e f =
      let n : ℕ = number x in
      let h = number-nonzero x in
      record {
        answered = ap (λ (y : PeersChanged). answer_of y.answer) f ∙ answer-no tt qs n e h;
        value = ap (λ (y : PeersChanged). y.peers) f ∙ kept-no _ p qs n e h;
        words = kept-no _ t qs n e h;
      }

  pub changes-done : (n : ℕ) (r : PeersChanged) (p' : PeerDemand) (t' : PeerTables) → Numbered qs → n ≡ first_no qs → n ≡ 0 → r ≡ done_with p' → Stores (change (state_of p t)) p t p' t' → Changes qs change p t r t'
  changes-done n r p' t' w e h f s =
      let passed : passes qs ≡ true = passed_none qs n w e h in
      record {
        answered = ap (λ (x : PeersChanged). answer_of x.answer) f ∙ answer-passed tt qs passed;
        value = ap (λ (x : PeersChanged). x.peers) f ∙ s.value ∙ changed-passed _ p qs passed;
        words = s.words ∙ changed-passed _ t qs passed;
      }

-- the questions have their numbers
pub peers-numbered : (p : PeerDemand) (t : PeerTables) → Numbered (peers_questions p t)
peers-numbered p t = (omega arith, (omega arith, tt))

pub report-numbered : (p : PeerDemand) (t : PeerTables) (id : ℕ) (r : DemandReport) → Numbered (report_questions p t id r)
report-numbered p t id r = (omega arith, (omega arith, (omega arith, (omega arith, (omega arith, tt)))))

-- the state changed, where questions 1 and 2 are all
pub peers-changed : (change : PeersState → PeersState) (p : PeerDemand) (t : PeerTables) (n : ℕ) (r : PeersChanged) (p' : PeerDemand) (t' : PeerTables) → n ≡ first_no (peers_questions p t) → n ≡ 0 → r ≡ done_with p' → Becomes change p t p' t' → Changes (peers_questions p t) change p t r t'
peers-changed change p t n r p' t' = changes-done (peers_questions p t) change p t n r p' t' (peers-numbered p t)

-- a change by what it makes of the state
pub changes-as : (qs : List Question) (f g : PeersState → PeersState) (p : PeerDemand) (t : PeerTables) (r : PeersChanged) (t' : PeerTables) → f (state_of p t) ≡ g (state_of p t) → Changes qs f p t r t' → Changes qs g p t r t'
changes-as qs f g p t r t' e c = record {
  answered = c.answered;
  value = c.value ∙ ap (λ (x : PeersState). changed qs p (with_counts p x)) e;
  words = c.words ∙ ap (λ (x : PeersState). changed qs t (written x t)) e;
}

-- questions 1 and 2 passed, as one fact and as two
pub valid-passes : (p : PeerDemand) (t : PeerTables) → Valid p t → passes (peers_questions p t) ≡ true
unfolding passes
valid-passes p t v = and_intro (have_room (lengths t)) _ v.room (and_intro (is_valid p t) true v.state refl)

pub passes-valid : (p : PeerDemand) (t : PeerTables) → passes (peers_questions p t) ≡ true → Valid p t
unfolding passes
passes-valid p t e =
    let a = both (have_room (lengths t)) _ e in
    record { room = a.0; state = (both (is_valid p t) true a.1).0 }

-- the same by the number of the first 'no'
pub asked-all : (p : PeerDemand) (t : PeerTables) (n : ℕ) → n ≡ first_no (peers_questions p t) → n ≡ 0 → Valid p t
asked-all p t n e h = passes-valid p t (passed_none (peers_questions p t) n (peers-numbered p t) e h)

-- ---- one call's answer by another's that asks the same: a value is worked out from the other's
pub given_by : {A B : Type 0} (f : A → B) (qs : List Question) (u v : A) → given u ≡ answer qs v → given (f u) ≡ answer qs (f v)
given_by {A} f qs u v e =
    let g = given-passed qs u v e in
    ap (λ (x : A). given (f x)) g.1 ∙ answer-passed (f v) qs g.0
