-- Each call of the library is refused by the questions of its lent words and changes nothing, or it is a call of `run` on the values that they stand
-- for, whose reply it writes in words.
use Prim.Native.Nat.{ℕ}
use mathlib.Core.Path.{◌≡◌, refl, sym, ◌∙◌}
use mathlib.Core.Bool.{true}
use mathlib.Core.List.{List}
use lib.Dec.{lit<}
use Rattle.records.specs.Words.{paste}
use Rattle.records.specs.Fields.{time_words}
use Rattle.questions.specs.Questions.{Question, Answer}
use Rattle.questions.proofs.Answers.{first-front, first_rest}
use Rattle.peers.specs.declared.peer_demand.PeerDemand.{PeerDemand}
use Rattle.peers.specs.declared.peer_demand.PeersChanged.{PeersChanged}
use Rattle.peers.specs.Peers.State.{PeerTables}
use Rattle.limiter.specs.declared.Limiter.{Limiter}
use Rattle.limiter.specs.Answered.{Changed}
use Rattle.limiter.specs.State.{LimiterTables, lengths}
use Rattle.run.specs.Run as run
use Rattle.run.specs.Run.{Change, Query, Told, Reply, Memory}
use Rattle.nultiway.specs.Values.{limiter_words, limiter_of, limiter_asked, peers_words, peers_of}
use Rattle.nultiway.specs.Calls.{Called, Changes, Answers, Tells, number_of, answer_put, one_word, decision_words, quota_words, float_words, flag_words}
use Rattle.nultiway.specs.LimiterCalls.{traced_words, rates_words, key_quota_words, limit_words, config_words}
use Rattle.nultiway.specs.PeerCalls.{heard_words}
use Rattle.library_run.specs.Calls as calls
use Rattle.library_run.specs.Calls.{Buffers, Said, Output, said, values_of, with_limiter, with_peers}
use Rattle.library_run.specs.Trace.{reported}
use Rattle.library_run.proofs.Calls.OwnQuestions.{Part, part, change_takes, query_takes, own}
use Rattle.std.specs.declared.result.Result.{Result}
use Rattle.questions.specs.declared.Refusal.{Refusal}
use Rattle.questions.specs.Refusals.{answer_of}

-- ---- what a reply says in words, beside what the buffer for the answer held

abbrev pub put : {A : Type 0} → (A → List ℕ) → Answer A → Output → List ℕ → Said
put words x out a = said (number_of x) (answer_put words x a) out

abbrev pub told_in : Told → List ℕ → Said
told_in (Told.rates r) a = put rates_words (answer_of r) Output.nothing a
told_in (Told.quota r) a = put key_quota_words (answer_of r) Output.nothing a
told_in (Told.limit r) a = put limit_words (answer_of r) Output.nothing a
told_in (Told.new_quota r) a = put quota_words (answer_of r) Output.nothing a
told_in (Told.factor r) a = put float_words (answer_of r) Output.nothing a
told_in (Told.config r) a = put config_words (answer_of r) Output.nothing a
told_in (Told.since r) a = put time_words (answer_of r) Output.nothing a
told_in (Told.flag r) a = put flag_words (answer_of r) Output.nothing a
told_in (Told.size r) a = put one_word (answer_of r) Output.nothing a
told_in (Told.listed r out) a = put one_word (answer_of r) (Output.words out) a
told_in (Told.heard r) a = put heard_words (answer_of r) Output.nothing a
told_in (Told.total r) a = put float_words (answer_of r) Output.nothing a
told_in (Told.totals r out) a = said (number_of (answer_of r)) a (Output.floats out)
told_in (Told.flags r out) a = said (number_of (answer_of r)) a (Output.flags out)
told_in (Told.number n) a = said n a Output.nothing

abbrev pub said_in : Reply → List ℕ → Said
said_in (Reply.decided r) a = put decision_words r Output.nothing a
said_in (Reply.traced r) a = put traced_words r Output.nothing a
said_in (Reply.decided-each r out) a = said (number_of r) a (Output.words out)
said_in (Reply.done r) a = said (number_of r) a Output.nothing
said_in (Reply.tells r) a = told_in r a

-- ---- a call that its own questions let pass

-- the values that it looks at; the other is any
abbrev pub looks_at : Part → Buffers → Limiter → PeerDemand → Memory
looks_at Part.limiter b l p = record { limiter = limiter_of b.limiter; tables = b.tables; peers = p; peer_tables = b.peer_tables }
looks_at Part.with_peers b l p = values_of b
looks_at Part.peers b l p = record { limiter = l; tables = b.tables; peers = peers_of b.peers; peer_tables = b.peer_tables }

-- what a change of the limiter left; of the peers
abbrev limiter_left : Buffers → Memory → Buffers
limiter_left b m = with_limiter b (paste 0 (limiter_words m.limiter) b.limiter) m.tables

abbrev peers_left : Buffers → Memory → Buffers
peers_left b m = with_peers b (paste 0 (peers_words m.peers) b.peers) m.peer_tables

-- which of them a change writes: one that looks at both writes the limiter
pub data Written : Type 0 where
  limiter peers : Written

abbrev pub written : Part → Written
written Part.limiter = Written.limiter
written Part.with_peers = Written.limiter
written Part.peers = Written.peers

abbrev pub left : Written → Buffers → Memory → Buffers
left Written.limiter b m = limiter_left b m
left Written.peers b m = peers_left b m

-- the other is as it was
abbrev pub Kept : Written → Memory → Memory → Type 0
Kept Written.limiter m m' = m' ≡ run.with_limiter m m'.limiter m'.tables
Kept Written.peers m m' = m' ≡ run.with_peers m m'.peers m'.peer_tables

pub record Changing (q : Written) (m : Memory) (b : Buffers) (a : List ℕ) (x : Change) (s : Said) (b' : Buffers) : Type 0 where
  pub reply : Reply
  pub after : Memory
  pub does : run.Does m x reply after
  pub says : s ≡ said_in reply a
  pub words : b' ≡ left q b after
  pub kept : Kept q m after

pub record Telling (m : Memory) (a : List ℕ) (x : Query) (s : Said) : Type 0 where
  pub told : Told
  pub tells : run.Tells m x told
  pub says : s ≡ told_in told a

-- ---- each call

-- refused by its own questions it says their number and leaves all as it was
abbrev pub Same : Buffers → List ℕ → Output → Said → Buffers → Type 0
Same b a out s b' = (s.answer ≡ a) × (s.output ≡ out) × (b' ≡ b)

through : {U U' X X' : Type 0} {qs : List Question} {r : ℕ} → Called qs r U X → (U → U') → (X → X') → Called qs r U' X'
through c f g = record { refused = λ e. ((c.refused e).0, f (c.refused e).1); answered = λ e. g (c.answered e) }

-- by the kind of its promise
module _ (b : Buffers) (a : List ℕ) {qs : List Question} {r : ℕ} {m : Memory} where
  -- a change of the limiter that answers words
  limiter-answers :
      {x : Change} {B R A : Type 0} {promise : B → R → Type 0} {v : B} {answer_of : R → Answer A} {words : A → List ℕ}
      {ws a' : List ℕ} {t : LimiterTables}
      (reply : R → Reply) (value : R → Limiter)
      → Called qs r ((ws ≡ b.limiter) × (t ≡ b.tables) × (a' ≡ a))
      (Answers promise v answer_of words (λ (y : R). limiter_words (value y)) b.limiter a r ws a')
      → ((y : R) → promise v y → run.Does m x (reply y) (run.with_limiter m (value y) t))
      → ((y : R) → put words (answer_of y) Output.nothing a ≡ said_in (reply y) a)
      → let s = said r a' Output.nothing in
      Called qs r (Same b a Output.nothing s (with_limiter b ws t)) (Changing Written.limiter m b a x s (with_limiter b ws t))
  limiter-answers {t = t} reply value c does says =
      through c (λ u. (u.2, refl, λ i. with_limiter b (u.0 i) (u.1 i)))
      (λ k. record {
        reply = reply k.result;
        after = _;
        does = does k.result k.kept;
        says = (λ i. said (k.number i) (k.answer i) Output.nothing) ∙ says k.result;
        words = λ i. with_limiter b (k.value i) t;
        kept = refl;
      })

  -- one that answers none
  limiter-done :
      {x : Change} {B : Type 0} {promise : B → Changed → Type 0} {v : B} {ws : List ℕ} {t : LimiterTables}
      → Called qs r ((ws ≡ b.limiter) × (t ≡ b.tables))
      (Changes promise v (λ (y : Changed). answer_of y.answer) (λ (y : Changed). limiter_words y.limiter) b.limiter r ws)
      → ((y : Changed) → promise v y → run.Does m x (Reply.done (answer_of y.answer)) (run.with_limiter m y.limiter t))
      → let s = said r a Output.nothing in
      Called qs r (Same b a Output.nothing s (with_limiter b ws t)) (Changing Written.limiter m b a x s (with_limiter b ws t))
  limiter-done {t = t} c does =
      through c (λ u. (refl, refl, λ i. with_limiter b (u.0 i) (u.1 i)))
      (λ k. record {
        reply = Reply.done (answer_of k.result.answer);
        after = _;
        does = does k.result k.kept;
        says = λ i. said (k.number i) a Output.nothing;
        words = λ i. with_limiter b (k.value i) t;
        kept = refl;
      })

  -- of the peers
  peers-done :
      {x : Change} {B : Type 0} {promise : B → PeersChanged → Type 0} {v : B} {ps : List ℕ} {t : PeerTables}
      → Called qs r ((ps ≡ b.peers) × (t ≡ b.peer_tables))
      (Changes promise v (λ (y : PeersChanged). answer_of y.answer) (λ (y : PeersChanged). peers_words y.peers) b.peers r ps)
      → ((y : PeersChanged) → promise v y → run.Does m x (Reply.done (answer_of y.answer)) (run.with_peers m y.peers t))
      → let s = said r a Output.nothing in
      Called qs r (Same b a Output.nothing s (with_peers b ps t)) (Changing Written.peers m b a x s (with_peers b ps t))
  peers-done {t = t} c does =
      through c (λ u. (refl, refl, λ i. with_peers b (u.0 i) (u.1 i)))
      (λ k. record {
        reply = Reply.done (answer_of k.result.answer);
        after = _;
        does = does k.result k.kept;
        says = λ i. said (k.number i) a Output.nothing;
        words = λ i. with_peers b (k.value i) t;
        kept = refl;
      })

  -- a call that reads, and one that lists
  told-as :
      {x : Query} {B R A : Type 0} {promise : B → R → Type 0} {v : B} {answer_of : R → Answer A} {words : A → List ℕ} {a' : List ℕ} (told : R → Told)
      → Called qs r (a' ≡ a) (Tells promise v answer_of words a r a') → ((y : R) → promise v y → run.Tells m x (told y))
      → ((y : R) → put words (answer_of y) Output.nothing a ≡ told_in (told y) a)
      → let s = said r a' Output.nothing in Called qs r ((s.answer ≡ a) × (s.output ≡ Output.nothing)) (Telling m a x s)
  told-as told c tells says =
      through c (λ u. (u, refl))
      (λ k. record {
        told = told k.result;
        tells = tells k.result k.kept;
        says = (λ i. said (k.number i) (k.answer i) Output.nothing) ∙ says k.result;
      })

  listed-as :
      {x : Query} {B : Type 0} {promise : B → Result ℕ Refusal → Type 0} {v : B} {a' out out' : List ℕ}
      → Called qs r ((out' ≡ out) × (a' ≡ a)) (Tells promise v answer_of one_word a r a')
      → ((y : Result ℕ Refusal) → promise v y → run.Tells m x (Told.listed y out'))
      → let s = said r a' (Output.words out') in Called qs r ((s.answer ≡ a) × (s.output ≡ Output.words out)) (Telling m a x s)
  listed-as {out' = out'} c tells =
      through c (λ u. (u.1, λ i. Output.words (u.0 i)))
      (λ k. record {
        told = Told.listed k.result out';
        tells = tells k.result k.kept;
        says = λ i. said (k.number i) (k.answer i) (Output.words out');
      })

module _ (b : Buffers) (a w : List ℕ) (l : Limiter) (p : PeerDemand) where
  pub changes-refined :
      (x : Change) {s : Said} {b' : Buffers} → calls.Does b a w x s b'
      → let k = change_takes a x in
      Called (own b w k.needs) s.number (Same b a k.output s b')
      (Changing (written (part k.needs)) (looks_at (part k.needs) b l p) b a (reported w x) s b')
  changes-refined (Change.check key now n) (calls.Does.check c) =
      limiter-answers b a (λ y. Reply.decided (answer_of y.answer)) (λ y. y.limiter) c (λ y k. run.Does.checks y k) (λ y. refl)
  changes-refined (Change.check-in key x now n) (calls.Does.check-in c) =
      limiter-answers b a (λ y. Reply.decided (answer_of y.answer)) (λ y. y.limiter) c (λ y k. run.Does.checks_in y k) (λ y. refl)
  changes-refined (Change.check-traced key x y now n) (calls.Does.check_in_traced c) =
      limiter-answers b a (λ y. Reply.traced (answer_of y.answer)) (λ y. y.limiter) c (λ y k. run.Does.checks_traced y k) (λ y. refl)
  changes-refined (Change.check-each list count n out) (calls.Does.check-each {out' = out'} {t = t} c) =
      through c (λ u. (refl, (λ i. Output.words (u.2 i)), λ i. with_limiter b (u.0 i) (u.1 i)))
      (λ k. record {
        reply = Reply.decided-each (answer_of k.result.answer) out';
        after = _;
        does = run.Does.checks_each k.result k.kept;
        says = λ i. said (k.number i) a (Output.words out');
        words = λ i. with_limiter b (k.value i) t;
        kept = refl;
      })
  changes-refined (Change.tally key y x now n) (calls.Does.record-tally c) = limiter-done b a c (λ y k. run.Does.tallies y k)
  changes-refined (Change.set-cap x) (calls.Does.set-cap c) =
      limiter-done b a (through c (λ u. (u, refl)) (λ k. k)) (λ y k. run.Does.sets_cap y k)
  changes-refined (Change.tick now n) (calls.Does.tick c) = limiter-done b a c (λ y k. run.Does.ticks y k)
  changes-refined (Change.tick-with-shares now n) (calls.Does.tick-with-shares c) = limiter-done b a c (λ y k. run.Does.ticks_with_shares y k)
  changes-refined (Change.report sender x now) (calls.Does.peers-apply c) = peers-done b a c (λ y k. run.Does.reports y k)
  changes-refined (Change.forget peer) (calls.Does.peers-forget c) = peers-done b a c (λ y k. run.Does.forgets y k)
  changes-refined (Change.leave peer now hold) (calls.Does.peers-leave c) = peers-done b a c (λ y k. run.Does.leaves y k)
  changes-refined (Change.expire now max_age) (calls.Does.peers-expire c) = peers-done b a c (λ y k. run.Does.expires y k)

  pub reads-refined :
      (x : Query) {s : Said} → calls.Tells b a x s
      → let k = query_takes a x in
      Called (own b w k.needs) s.number ((s.answer ≡ a) × (s.output ≡ k.output)) (Telling (looks_at (part k.needs) b l p) a x s)
  reads-refined (Query.key_rates key) (calls.Tells.key_rates c) = told-as b a Told.rates c (λ y k. run.Tells.tells_rates k) (λ y. refl)
  reads-refined (Query.quota key) (calls.Tells.quota c) = told-as b a Told.quota c (λ y k. run.Tells.tells_quota k) (λ y. refl)
  reads-refined (Query.limit key) (calls.Tells.limit c) = told-as b a Told.limit c (λ y k. run.Tells.tells_limit k) (λ y. refl)
  reads-refined (Query.hot_since key) (calls.Tells.hot_since c) = told-as b a Told.since c (λ y k. run.Tells.tells_since k) (λ y. refl)
  reads-refined (Query.is-hot key) (calls.Tells.is-hot c) = told-as b a Told.flag c (λ y k. run.Tells.tells_hot k) (λ y. refl)
  reads-refined (Query.is-tracked key) (calls.Tells.tracked c) = told-as b a Told.flag c (λ y k. run.Tells.tells_tracked k) (λ y. refl)
  reads-refined (Query.new_key_quota x n) (calls.Tells.new_key_quota c) = told-as b a Told.new_quota c (λ y k. run.Tells.tells_new_quota k) (λ y. refl)
  reads-refined (Query.new-key-factor n) (calls.Tells.new-key-factor c) = told-as b a Told.factor c (λ y k. run.Tells.tells_factor k) (λ y. refl)
  reads-refined Query.config (calls.Tells.config c) = told-as b a Told.config c (λ y k. run.Tells.tells_config k) (λ y. refl)
  reads-refined Query.tracked_keys (calls.Tells.tracked_keys c) = told-as b a Told.size c (λ y k. run.Tells.counts_keys k) (λ y. refl)
  reads-refined Query.hot_keys (calls.Tells.hot_keys c) = told-as b a Told.size c (λ y k. run.Tells.counts_hot k) (λ y. refl)
  reads-refined (Query.get peer key) (calls.Tells.peers_get c) = told-as b a Told.heard c (λ y k. run.Tells.gets k) (λ y. refl)
  reads-refined (Query.total key) (calls.Tells.peers_total c) = told-as b a Told.total c (λ y k. run.Tells.tells_total k) (λ y. refl)
  reads-refined (Query.hot-elsewhere key) (calls.Tells.peers_hot_elsewhere c) = told-as b a Told.flag c (λ y k. run.Tells.tells_elsewhere k) (λ y. refl)
  reads-refined Query.peer-keys (calls.Tells.peers_len c) = told-as b a Told.size c (λ y k. run.Tells.counts_peer_keys k) (λ y. refl)
  reads-refined Query.no-peer-keys (calls.Tells.peers_is_empty c) = told-as b a Told.flag c (λ y k. run.Tells.tells_no_peer_keys k) (λ y. refl)
  reads-refined (Query.hot-demand out) (calls.Tells.hot-demand c) = listed-as b a c (λ y k. run.Tells.lists_hot k)
  reads-refined (Query.most-denied k out) (calls.Tells.most-denied c) = listed-as b a c (λ y k. run.Tells.lists_denied k)
  reads-refined (Query.most_shadow_denied k out) (calls.Tells.most_shadow_denied c) = listed-as b a c (λ y k. run.Tells.lists_shadow_denied k)
  reads-refined (Query.save out) (calls.Tells.save c) = listed-as b a c (λ y k. run.Tells.saves k)
  reads-refined (Query.totals v n keys out) (calls.Tells.peers_total_of_each {out' = out'} c) =
      through c (λ u. (refl, λ i. Output.floats (u i)))
      (λ k. record { told = Told.totals k.result out'; tells = run.Tells.tells_totals k.kept; says = λ i. said (k.number i) a (Output.floats out') })
  reads-refined (Query.hot_elsewheres v n keys out) (calls.Tells.peers_hot_elsewhere_of_each {out' = out'} c) =
      through c (λ u. (refl, λ i. Output.flags (u i)))
      (λ k. record { told = Told.flags k.result out'; tells = run.Tells.tells_elsewheres k.kept; says = λ i. said (k.number i) a (Output.flags out') })
  reads-refined Query.ask-limiter (calls.Tells.limiter_ask {r = r} c) =
      record {
        refused = λ e. (c ∙ sym (first-front (limiter_asked b.limiter (lengths b.tables) true) _ (lit< tt, (lit< tt, tt)) e), (refl, refl));
        answered = λ e.
            record { told = Told.number r; tells = run.Tells.asks_limiter (c ∙ sym (first_rest (limiter_asked b.limiter (lengths b.tables) true) _ e)); says = refl };
      }
  reads-refined Query.ask-peers (calls.Tells.peers_ask {r = r} c) =
      through c (λ u. (refl, refl)) (λ k. record { told = Told.number r; tells = run.Tells.asks_peers k; says = refl })
