-- No run through the library is stuck: for a call that is lent no more words than there are, there is what it says and leaves by its promise.
use Prim.Native.Nat.{ℕ}
use mathlib.Core.Path.{◌≡◌, refl, sym, ◌∙◌, subst}
use mathlib.Core.Bool.{true, false}
use mathlib.Core.List.{List}
use Rattle.records.specs.Words.{paste}
use Rattle.questions.proofs.Tests.{split, contradiction}
use Rattle.questions.specs.Questions.{Question, Answer, passes, first_no}
use Rattle.peers.specs.declared.peer_demand.PeerDemand.{PeerDemand}
use Rattle.limiter.specs.declared.Limiter.{Limiter}
use Rattle.image.specs.Image.{State}
use Rattle.run.specs.Run as run
use Rattle.run.specs.Run.{Change, Query, What, Told, Reply, Memory}
use Rattle.run.specs.Typed.{typed_what}
use Rattle.run.proofs.Standing.CanStep.{can-step}
use Rattle.nultiway.specs.Values.{limiter_of, peers_of}
use Rattle.nultiway.specs.Calls.{Called, Changes, Answers, Tells, number_of, answer_put}
use Rattle.nultiway.proofs.Calls.CallLaws.{passed-call}
use Rattle.library_run.specs.Calls as calls
use Rattle.library_run.specs.Calls.{Buffers, Call, Said, values_of}
use Rattle.library_run.specs.Runs.{lend, lent_by, returned}
use Rattle.library_run.specs.Trace.{reported, what_of}
use Rattle.library_run.specs.Demand3.{CanCall}
use Rattle.library_run.proofs.Calls.OwnQuestions.{Needs, part, change_takes, query_takes, own, own-long}
use Rattle.library_run.proofs.Calls.Refined.{looks_at}
use Rattle.library_run.proofs.Calls.Stepped.{Stands, looks-same, run-enough}

-- refused by its own questions
refused-by : (qs : List Question) {U X : Type 0} → passes qs ≡ false → U → Called qs (first_no qs) U X
refused-by qs e u = record { refused = λ p. (refl, u); answered = λ p. contradiction (sym p ∙ e) }

-- answered by the crate's function: a change that answers no words, one that answers words, a call that reads
module _
    {B R A : Type 0} {promise : B → R → Type 0} {v : B} {answer_of : R → Answer A} {qs : List Question} {U : Type 0}
    (e : passes qs ≡ true) (r : R) (kept : promise v r) where
  changes-by :
      {value : R → List ℕ} {ws : List ℕ}
      → Called qs (number_of (answer_of r)) U (Changes promise v answer_of value ws (number_of (answer_of r)) (paste 0 (value r) ws))
  changes-by = passed-call _ _ e (record { result = r; kept = kept; number = refl; value = refl })

  answers_by :
      {words : A → List ℕ} {value : R → List ℕ} {ws a : List ℕ}
      → Called qs (number_of (answer_of r)) U
      (Answers promise v answer_of words value ws a (number_of (answer_of r)) (paste 0 (value r) ws) (answer_put words (answer_of r) a))
  answers_by = passed-call _ _ e (record { result = r; kept = kept; number = refl; value = refl; answer = refl })

  tells-by :
      {words : A → List ℕ} {a : List ℕ}
      → Called qs (number_of (answer_of r)) U (Tells promise v answer_of words a (number_of (answer_of r)) (answer_put words (answer_of r) a))
  tells-by = passed-call _ _ e (record { result = r; kept = kept; number = refl; answer = refl })

module _ (b : Buffers) (a w : List ℕ) (l : Limiter) (p : PeerDemand) where
  -- ---- a change

  abbrev Changed : Change → Type 0
  Changed x = (z : Said) × (b' : Buffers) × calls.Does b a w x z b'

  change-refused : (x : Change) → passes (own b w (change_takes a x).needs) ≡ false → Changed x
  change-refused (Change.check key now n) e = (_, _, calls.Does.check (refused-by _ e (refl, refl, refl)))
  change-refused (Change.check-in key x now n) e = (_, _, calls.Does.check-in (refused-by _ e (refl, refl, refl)))
  change-refused (Change.check-traced key x y now n) e = (_, _, calls.Does.check_in_traced (refused-by _ e (refl, refl, refl)))
  change-refused (Change.check-each list count n out) e = (_, _, calls.Does.check-each (refused-by _ e (refl, refl, refl)))
  change-refused (Change.tally key y x now n) e = (_, _, calls.Does.record-tally (refused-by _ e (refl, refl)))
  change-refused (Change.set-cap x) e = (_, _, calls.Does.set-cap (refused-by _ e refl))
  change-refused (Change.tick now n) e = (_, _, calls.Does.tick (refused-by _ e (refl, refl)))
  change-refused (Change.tick-with-shares now n) e = (_, _, calls.Does.tick-with-shares (refused-by _ e (refl, refl)))
  change-refused (Change.report sender x now) e = (_, _, calls.Does.peers-apply (refused-by _ e (refl, refl)))
  change-refused (Change.forget peer) e = (_, _, calls.Does.peers-forget (refused-by _ e (refl, refl)))
  change-refused (Change.leave peer now hold) e = (_, _, calls.Does.peers-leave (refused-by _ e (refl, refl)))
  change-refused (Change.expire now max_age) e = (_, _, calls.Does.peers-expire (refused-by _ e (refl, refl)))

  change-made :
      (x : Change) {r : Reply} {m : Memory} → passes (own b w (change_takes a x).needs) ≡ true → run.Does (looks_at (part (change_takes a x).needs) b l p) (reported w x) r m
      → Changed x
  change-made (Change.check key now n) e (run.Does.checks r c) = (_, _, calls.Does.check (answers_by e r c))
  change-made (Change.check-in key x now n) e (run.Does.checks_in r c) = (_, _, calls.Does.check-in (answers_by e r c))
  change-made (Change.check-traced key x y now n) e (run.Does.checks_traced r c) = (_, _, calls.Does.check_in_traced (answers_by e r c))
  change-made (Change.check-each list count n out) e (run.Does.checks_each r c) = (_, _, calls.Does.check-each (changes-by e r c))
  change-made (Change.tally key y x now n) e (run.Does.tallies r c) = (_, _, calls.Does.record-tally (changes-by e r c))
  change-made (Change.set-cap x) e (run.Does.sets_cap r c) = (_, _, calls.Does.set-cap (changes-by e r c))
  change-made (Change.tick now n) e (run.Does.ticks r c) = (_, _, calls.Does.tick (changes-by e r c))
  change-made (Change.tick-with-shares now n) e (run.Does.ticks_with_shares r c) = (_, _, calls.Does.tick-with-shares (changes-by e r c))
  change-made (Change.report sender x now) e (run.Does.reports r c) = (_, _, calls.Does.peers-apply (changes-by e r c))
  change-made (Change.forget peer) e (run.Does.forgets r c) = (_, _, calls.Does.peers-forget (changes-by e r c))
  change-made (Change.leave peer now hold) e (run.Does.leaves r c) = (_, _, calls.Does.peers-leave (changes-by e r c))
  change-made (Change.expire now max_age) e (run.Does.expires r c) = (_, _, calls.Does.peers-expire (changes-by e r c))

  -- ---- a call that reads

  abbrev Read : Query → Type 0
  Read x = (z : Said) × calls.Tells b a x z

  read-refused : (x : Query) → passes (own b w (query_takes a x).needs) ≡ false → Read x
  read-refused (Query.key_rates key) e = (_, calls.Tells.key_rates (refused-by _ e refl))
  read-refused (Query.quota key) e = (_, calls.Tells.quota (refused-by _ e refl))
  read-refused (Query.limit key) e = (_, calls.Tells.limit (refused-by _ e refl))
  read-refused (Query.hot_since key) e = (_, calls.Tells.hot_since (refused-by _ e refl))
  read-refused (Query.is-hot key) e = (_, calls.Tells.is-hot (refused-by _ e refl))
  read-refused (Query.is-tracked key) e = (_, calls.Tells.tracked (refused-by _ e refl))
  read-refused (Query.new_key_quota x n) e = (_, calls.Tells.new_key_quota (refused-by _ e refl))
  read-refused (Query.new-key-factor n) e = (_, calls.Tells.new-key-factor (refused-by _ e refl))
  read-refused Query.config e = (_, calls.Tells.config (refused-by _ e refl))
  read-refused Query.tracked_keys e = (_, calls.Tells.tracked_keys (refused-by _ e refl))
  read-refused Query.hot_keys e = (_, calls.Tells.hot_keys (refused-by _ e refl))
  read-refused (Query.hot-demand out) e = (_, calls.Tells.hot-demand (refused-by _ e (refl, refl)))
  read-refused (Query.most-denied k out) e = (_, calls.Tells.most-denied (refused-by _ e (refl, refl)))
  read-refused (Query.most_shadow_denied k out) e = (_, calls.Tells.most_shadow_denied (refused-by _ e (refl, refl)))
  read-refused (Query.get peer key) e = (_, calls.Tells.peers_get (refused-by _ e refl))
  read-refused (Query.total key) e = (_, calls.Tells.peers_total (refused-by _ e refl))
  read-refused (Query.hot-elsewhere key) e = (_, calls.Tells.peers_hot_elsewhere (refused-by _ e refl))
  read-refused (Query.totals v n keys out) e = (_, calls.Tells.peers_total_of_each (refused-by _ e refl))
  read-refused (Query.hot_elsewheres v n keys out) e = (_, calls.Tells.peers_hot_elsewhere_of_each (refused-by _ e refl))
  read-refused Query.peer-keys e = (_, calls.Tells.peers_len (refused-by _ e refl))
  read-refused Query.no-peer-keys e = (_, calls.Tells.peers_is_empty (refused-by _ e refl))
  read-refused Query.ask-limiter e = (_, calls.Tells.limiter_ask refl)
  read-refused Query.ask-peers e = (_, calls.Tells.peers_ask (refused-by _ e tt))
  read-refused (Query.save out) e = (_, calls.Tells.save (refused-by _ e (refl, refl)))

  read_made : (x : Query) {r : Told} → passes (own b w (query_takes a x).needs) ≡ true → run.Tells (looks_at (part (query_takes a x).needs) b l p) x r → Read x
  read_made (Query.key_rates key) e (run.Tells.tells_rates {r = r} c) = (_, calls.Tells.key_rates (tells-by e r c))
  read_made (Query.quota key) e (run.Tells.tells_quota {r = r} c) = (_, calls.Tells.quota (tells-by e r c))
  read_made (Query.limit key) e (run.Tells.tells_limit {r = r} c) = (_, calls.Tells.limit (tells-by e r c))
  read_made (Query.hot_since key) e (run.Tells.tells_since {r = r} c) = (_, calls.Tells.hot_since (tells-by e r c))
  read_made (Query.is-hot key) e (run.Tells.tells_hot {r = r} c) = (_, calls.Tells.is-hot (tells-by e r c))
  read_made (Query.is-tracked key) e (run.Tells.tells_tracked {r = r} c) = (_, calls.Tells.tracked (tells-by e r c))
  read_made (Query.new_key_quota x n) e (run.Tells.tells_new_quota {r = r} c) = (_, calls.Tells.new_key_quota (tells-by e r c))
  read_made (Query.new-key-factor n) e (run.Tells.tells_factor {r = r} c) = (_, calls.Tells.new-key-factor (tells-by e r c))
  read_made Query.config e (run.Tells.tells_config {r = r} c) = (_, calls.Tells.config (tells-by e r c))
  read_made Query.tracked_keys e (run.Tells.counts_keys {r = r} c) = (_, calls.Tells.tracked_keys (tells-by e r c))
  read_made Query.hot_keys e (run.Tells.counts_hot {r = r} c) = (_, calls.Tells.hot_keys (tells-by e r c))
  read_made (Query.hot-demand out) e (run.Tells.lists_hot {r = r} c) = (_, calls.Tells.hot-demand (tells-by e r c))
  read_made (Query.most-denied k out) e (run.Tells.lists_denied {r = r} c) = (_, calls.Tells.most-denied (tells-by e r c))
  read_made (Query.most_shadow_denied k out) e (run.Tells.lists_shadow_denied {r = r} c) = (_, calls.Tells.most_shadow_denied (tells-by e r c))
  read_made (Query.get peer key) e (run.Tells.gets {r = r} c) = (_, calls.Tells.peers_get (tells-by e r c))
  read_made (Query.total key) e (run.Tells.tells_total {r = r} c) = (_, calls.Tells.peers_total (tells-by e r c))
  read_made (Query.hot-elsewhere key) e (run.Tells.tells_elsewhere {r = r} c) = (_, calls.Tells.peers_hot_elsewhere (tells-by e r c))
  read_made (Query.totals v n keys out) e (run.Tells.tells_totals {r = r} c) =
      (_, calls.Tells.peers_total_of_each (passed-call _ _ e (record { result = r; kept = c; number = refl })))
  read_made (Query.hot_elsewheres v n keys out) e (run.Tells.tells_elsewheres {r = r} c) =
      (_, calls.Tells.peers_hot_elsewhere_of_each (passed-call _ _ e (record { result = r; kept = c; number = refl })))
  read_made Query.peer-keys e (run.Tells.counts_peer_keys {r = r} c) = (_, calls.Tells.peers_len (tells-by e r c))
  read_made Query.no-peer-keys e (run.Tells.tells_no_peer_keys {r = r} c) = (_, calls.Tells.peers_is_empty (tells-by e r c))
  read_made Query.ask-limiter e (run.Tells.asks_limiter c) = (_, calls.Tells.limiter_ask refl)
  read_made Query.ask-peers e (run.Tells.asks_peers {r = r} c) = (_, calls.Tells.peers_ask (passed-call _ r e c))
  read_made (Query.save out) e (run.Tells.saves {r = r} c) = (_, calls.Tells.save (tells-by e r c))

-- ---- a call as a whole

module _ {b : Buffers} {s : State} (st : Stands b s) (c : Call) (enough : lent_by (lend c.lent b) ≡ c.lent) where
  abbrev lent : Buffers
  lent = lend c.lent b

  abbrev Acted : What → Type 0
  Acted x = (z : Said) × (b' : Buffers) × calls.Acts lent c.answer c.report x z b'

  -- what it looks at is what is kept
  looks : (k : Needs) → passes (own lent c.report k) ≡ true
      → looks_at (part k) lent (limiter_of b.limiter) (peers_of b.peers) ≡ run.lend c.lent.tables (values_of b)
  looks k e = looks-same c enough st (part k) (own-long lent c.report k e)

  -- what the crate's function does there
  run-acts : (x : What) → typed_what x ≡ true → (r : Reply) × (m : Memory) × run.Acts (run.lend c.lent.tables (values_of b)) x r m
  run-acts x w =
      let z = can-step (values_of b) (record { lent = c.lent.tables; what = x }) w (run-enough c enough st) in
      (z.0, z.2.after, z.2.acts)

  acts-change :
      (x : Change) {r : Reply} {m : Memory} → passes (own lent c.report (change_takes c.answer x).needs) ≡ true
      → run.Acts (run.lend c.lent.tables (values_of b)) (What.changes (reported c.report x)) r m → Acted (What.changes x)
  acts-change x {r} {m} e (run.Acts.does d) =
      let z =
      change-made lent c.answer c.report (limiter_of b.limiter) (peers_of b.peers) x e
      (subst (λ (y : Memory). run.Does y (reported c.report x) r m) (sym (looks (change_takes c.answer x).needs e)) d) in
      (z.0, z.1, calls.Acts.does z.2)

  acts-read :
      (x : Query) {r : Reply} {m : Memory} → passes (own lent c.report (query_takes c.answer x).needs) ≡ true
      → run.Acts (run.lend c.lent.tables (values_of b)) (What.reads x) r m → Acted (What.reads x)
  acts-read x e (run.Acts.does_tell {r = r} d) =
      let z =
      read_made lent c.answer c.report (limiter_of b.limiter) (peers_of b.peers) x e
      (subst (λ (y : Memory). run.Tells y x r) (sym (looks (query_takes c.answer x).needs e)) d) in
      (z.0, lent, calls.Acts.does_tell z.1)

  can-act : (x : What) → typed_what (what_of c.report x) ≡ true → Acted x
  can-act (What.changes x) w =
      split (passes (own lent c.report (change_takes c.answer x).needs))
      (λ e. acts-change x e (run-acts (What.changes (reported c.report x)) w).2)
      (λ e.
      let z = change-refused lent c.answer c.report (limiter_of b.limiter) (peers_of b.peers) x e in
      (z.0, z.1, calls.Acts.does z.2))
  can-act (What.reads x) w =
      split (passes (own lent c.report (query_takes c.answer x).needs))
      (λ e. acts-read x e (run-acts (What.reads x) w).2)
      (λ e.
      let z = read-refused lent c.answer c.report (limiter_of b.limiter) (peers_of b.peers) x e in
      (z.0, lent, calls.Acts.does_tell z.1))

pub can-call : {b : Buffers} {s : State} → Stands b s → CanCall b
can-call {b} st c w enough =
    let z = can-act st c enough c.what w in
    (z.0, returned z.1 b, record { enough = enough; after = z.1; acts = z.2; back = refl })
