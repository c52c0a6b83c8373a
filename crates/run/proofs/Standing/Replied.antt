-- A call's reply is the definitions': it follows from the lent lengths and the state that the program's holdings stand for.
use Prim.Native.Nat.{ℕ}
use mathlib.Core.Path.{◌≡◌, ap, ◌∙◌}
use mathlib.Core.List.{List, [], ◌∷◌, ◌++◌, map}
use lib.Dec.{leb, eqb}
use lib.ListN.{length, drop}
use Rattle.records.specs.Records.{records, table, fits}
use Rattle.gcra.specs.declared.Decision.{Decision}
use Rattle.questions.specs.Questions.{Question, ◌asks◌, Answer, answer, changed, first_no}
use Rattle.hot.specs.HotSet.Set.{get, is_hot, since_of}
use Rattle.peers.specs.Peers.State as peer-state
use Rattle.peers.specs.Peers.State.{PeersState}
use Rattle.peers.specs.Peers.Readers as readers
use Rattle.peers.specs.Peers.Calls.{peers_questions, report_questions_of, TellsEach}
use Rattle.limiter.specs.declared.Limit.{Limit}
use Rattle.limiter.specs.State as limiter-state
use Rattle.limiter.specs.State.{parameters_of, KeyRecord, LimiterState, is_tracked, units_of}
use Rattle.limiter.specs.Checks.{new_key_factor, cold_quota, own_limit, key_decision, shadow_decision, check_each, limit_questions, cluster_questions, check_questions, check_in_questions, traced_questions, record_questions}
use Rattle.limiter.specs.Readers.{told, rates_of, hot_demand, most_denied, denied_rate, shadow_denied_rate}
use Rattle.limiter.specs.Calls.{answer_words, output_questions, each_questions, here, state_questions, Lists}
use Rattle.image.specs.Image.{State, image}
use Rattle.run.specs.Run.{Memory, Lent, Change, Query, What, Call, Told, Reply, Does, Tells, Acts, Step, lend, lent_by}
use Rattle.run.specs.Trace.{parameters_in, on_limiter, on_peers, on_both, asked}
use Rattle.run.proofs.Standing.Stands.{Stands}
use Rattle.run.proofs.Standing.Asked.{same_answer, same-first-no, same-changed, limiter-agrees, peers-agree, both-agree}
use Rattle.questions.proofs.RefusalLaws.{result_of, result-said}
use Rattle.std.specs.declared.result.Result.{Result}
use Rattle.questions.specs.declared.Refusal.{Refusal}

-- ---- the definitions' reply

-- what the definitions decide of one check
abbrev pub decision_of : Lent → (key : ℕ) → Limit → (now m : ℕ) → Change → State → Answer Decision
decision_of n key z now m c s = answer (asked n c s) (key_decision (units_of s.limiter.settings) s.limiter key z now m)

-- of a change
unfoldable pub replied_to : Lent → Change → State → Reply
replied_to n (Change.check key now m) s = Reply.decided (decision_of n key (own_limit s.limiter) now m (Change.check key now m) s)
replied_to n (Change.check-in key z now m) s = Reply.decided (decision_of n key z now m (Change.check-in key z now m) s)
replied_to n (Change.check-traced key z y now m) s =
    Reply.traced
    (answer (asked n (Change.check-traced key z y now m) s)
    (record { decision = key_decision (units_of s.limiter.settings) s.limiter key z now m; shadow = shadow_decision (units_of s.limiter.settings) s.limiter key z y now m }))
replied_to n (Change.check-each list count m out) s =
    Reply.decided-each (answer (asked n (Change.check-each list count m out) s) tt)
    (changed (asked n (Change.check-each list count m out) s) out
    (table (map answer_words (check_each (units_of s.limiter.settings) m (records 2 count list) s.limiter).answers) out))
replied_to n (Change.tally key y z now m) s = Reply.done (answer (asked n (Change.tally key y z now m) s) tt)
replied_to n (Change.set-cap z) s = Reply.done (answer (asked n (Change.set-cap z) s) tt)
replied_to n (Change.tick now m) s = Reply.done (answer (asked n (Change.tick now m) s) tt)
replied_to n (Change.tick-with-shares now m) s = Reply.done (answer (asked n (Change.tick-with-shares now m) s) tt)
replied_to n (Change.report sender z now) s = Reply.done (answer (asked n (Change.report sender z now) s) tt)
replied_to n (Change.forget peer) s = Reply.done (answer (asked n (Change.forget peer) s) tt)
replied_to n (Change.leave peer now hold) s = Reply.done (answer (asked n (Change.leave peer now hold) s) tt)
replied_to n (Change.expire now max_age) s = Reply.done (answer (asked n (Change.expire now max_age) s) tt)

-- a list, and the output with it
abbrev pub listing : Lent → (LimiterState → List (List ℕ)) → List ℕ → State → Told
listing n entries out s =
    let qs = on_limiter n s ++ output_questions (entries s.limiter) out in
    Told.listed (result_of (answer qs (length (entries s.limiter)))) (changed qs out (table (entries s.limiter) out))

-- questions of many keys' totals or flags
abbrev pub each_asked : Lent → (w m : ℕ) (keys : List ℕ) (room : ℕ) → State → List Question
each_asked n w m keys room s = (1 asks fits (length keys) w m) ∷ (on_peers n s ++ ((16 asks leb m room) ∷ []))

-- questions of a save
abbrev pub save_asked : Lent → List ℕ → State → List Question
save_asked n out s = on_both n s ++ ((16 asks leb (length (image s)) (length out)) ∷ [])

-- of a query
unfoldable pub told_to : Lent → Query → State → Told
told_to n (Query.key_rates key) s = Told.rates (result_of (answer (on_limiter n s) (told (rates_of (parameters_in s)) key s.limiter)))
told_to n (Query.quota key) s = Told.quota (result_of (answer (on_limiter n s) (told (λ (k : KeyRecord). k.gcra.quota) key s.limiter)))
told_to n (Query.limit key) s = Told.limit (result_of (answer (on_limiter n s) (told (λ (k : KeyRecord). k.limit) key s.limiter)))
told_to n (Query.hot_since key) s = Told.since (result_of (answer (on_limiter n s) (since_of (get key s.limiter.hot))))
told_to n (Query.is-hot key) s = Told.flag (result_of (answer (on_limiter n s) (is_hot key s.limiter.hot)))
told_to n (Query.is-tracked key) s = Told.flag (result_of (answer (on_limiter n s) (is_tracked s.limiter.keys key)))
told_to n (Query.new_key_quota z m) s =
    Told.new_quota (result_of (answer (on_limiter n s ++ (limit_questions z ++ cluster_questions m)) (cold_quota (units_of s.limiter.settings) s.limiter.settings z m)))
told_to n (Query.new-key-factor m) s = Told.factor (result_of (answer (on_limiter n s ++ cluster_questions m) (new_key_factor s.limiter.settings m)))
told_to n Query.config s = Told.config (result_of (answer (on_limiter n s) s.limiter.settings.config))
told_to n Query.tracked_keys s = Told.size (result_of (answer (on_limiter n s) (length s.limiter.keys)))
told_to n Query.hot_keys s = Told.size (result_of (answer (on_limiter n s) (length s.limiter.hot)))
told_to n (Query.hot-demand out) s = listing n hot_demand out s
told_to n (Query.most-denied k out) s = listing n (λ (y : LimiterState). most_denied (parameters_of y.settings) denied_rate k y) out s
told_to n (Query.most_shadow_denied k out) s = listing n (λ (y : LimiterState). most_denied (parameters_of y.settings) shadow_denied_rate k y) out s
told_to n (Query.get peer key) s = Told.heard (result_of (answer (on_peers n s) (readers.heard peer key s.peers)))
told_to n (Query.total key) s = Told.total (result_of (answer (on_peers n s) (readers.total key s.peers)))
told_to n (Query.hot-elsewhere key) s = Told.flag (result_of (answer (on_peers n s) (readers.hot_elsewhere key s.peers)))
told_to n (Query.totals w m keys out) s =
    let qs = each_asked n w m keys (length out) s in
    Told.totals (result_of (answer qs tt)) (changed qs out (readers.told readers.total s.peers w m keys out))
told_to n (Query.hot_elsewheres w m keys out) s =
    let qs = each_asked n w m keys (length out) s in
    Told.flags (result_of (answer qs tt)) (changed qs out (readers.told readers.hot_elsewhere s.peers w m keys out))
told_to n Query.peer-keys s = Told.size (result_of (answer (on_peers n s) (readers.len s.peers)))
told_to n Query.no-peer-keys s = Told.flag (result_of (answer (on_peers n s) (eqb (readers.len s.peers) 0)))
told_to n Query.ask-limiter s = Told.number (first_no (on_limiter n s))
told_to n Query.ask-peers s = Told.number (first_no (on_peers n s))
told_to n (Query.save out) s =
    Told.listed (result_of (answer (save_asked n out s) (length (image s)))) (changed (save_asked n out s) out (image s ++ drop (length (image s)) out))

-- of a call
abbrev pub replied : Lent → What → State → Reply
replied n (What.changes c) s = replied_to n c s
replied n (What.reads c) s = Reply.tells (told_to n c s)

-- ---- the program's reply is that

module _ {h : Memory} {s : State} (n : Lent) (enough : lent_by (lend n h) ≡ n) (st : Stands h s) where
  -- of each call that changes
  does-reply : (c : Change) {r : Reply} {h' : Memory} → Does (lend n h) c r h' → r ≡ replied_to n c s
  unfolding asked replied_to limiter-state.state_of
  does-reply (Change.check key now m) (Does.checks _ c) =
      ap Reply.decided
      (c.answered
      ∙ same_answer (limiter-agrees n enough st) [] (λ (y : LimiterState). check_questions (units_of y.settings) y key now m)
      (λ (y : LimiterState). key_decision (units_of y.settings) y key (own_limit y) now m))
  does-reply (Change.check-in key z now m) (Does.checks_in _ c) =
      ap Reply.decided
      (c.answered
      ∙ same_answer (limiter-agrees n enough st) [] (λ (y : LimiterState). check_in_questions (units_of y.settings) y key z now m)
      (λ (y : LimiterState). key_decision (units_of y.settings) y key z now m))
  does-reply (Change.check-traced key z y now m) (Does.checks_traced _ c) =
      ap Reply.traced
      (c.answered
      ∙ same_answer (limiter-agrees n enough st) [] (λ (x : LimiterState). traced_questions (units_of x.settings) x key z y now m)
      (λ (x : LimiterState). record { decision = key_decision (units_of x.settings) x key z now m; shadow = shadow_decision (units_of x.settings) x key z y now m }))
  does-reply (Change.check-each list count m out) (Does.checks_each _ c) =
      let front : List Question = (1 asks fits (length list) 2 count) ∷ [] in
      (λ i. Reply.decided-each
      ((c.acts.answered
      ∙ same_answer (limiter-agrees n enough st) front (λ (y : LimiterState). each_questions count m out) (λ (y : LimiterState). tt)) i)
      ((c.output
      ∙ same-changed (limiter-agrees n enough st) front (λ (y : LimiterState). each_questions count m out) out
      (λ (y : LimiterState). table (map answer_words (check_each (units_of y.settings) m (records 2 count list) y).answers) out)) i))
  does-reply (Change.tally key y z now m) (Does.tallies _ c) =
      ap Reply.done
      (c.answered
      ∙ same_answer (limiter-agrees n enough st) [] (λ (x : LimiterState). record_questions (units_of x.settings) x key y z now m) (λ (x : LimiterState). tt))
  does-reply (Change.set-cap z) (Does.sets_cap _ c) =
      ap Reply.done (c.answered ∙ same_answer (limiter-agrees n enough st) [] (λ (x : LimiterState). []) (λ (x : LimiterState). tt))
  does-reply (Change.tick now m) (Does.ticks _ c) =
      ap Reply.done (c.answered ∙ same_answer (limiter-agrees n enough st) [] (λ (x : LimiterState). cluster_questions m) (λ (x : LimiterState). tt))
  does-reply (Change.tick-with-shares now m) (Does.ticks_with_shares _ c) =
      ap Reply.done (c.answered ∙ same_answer (both-agree n enough st) [] (λ (x : State). cluster_questions m) (λ (x : State). tt))
  does-reply (Change.report sender z now) (Does.reports _ c) =
      ap Reply.done
      (c.answered
      ∙ same_answer (peers-agree n enough st) []
      (λ (x : PeersState). report_questions_of x sender z) (λ (x : PeersState). tt))
  does-reply (Change.forget peer) (Does.forgets _ c) =
      ap Reply.done (c.answered ∙ same_answer (peers-agree n enough st) [] (λ (x : PeersState). []) (λ (x : PeersState). tt))
  does-reply (Change.leave peer now hold) (Does.leaves _ c) =
      ap Reply.done (c.answered ∙ same_answer (peers-agree n enough st) [] (λ (x : PeersState). []) (λ (x : PeersState). tt))
  does-reply (Change.expire now max_age) (Does.expires _ c) =
      ap Reply.done (c.answered ∙ same_answer (peers-agree n enough st) [] (λ (x : PeersState). []) (λ (x : PeersState). tt))

  -- what the limiter's state tells
  limiter-tells :
      {A : Type 0} (tell : LimiterState → A)
      → answer (state_questions h.limiter (lend n h).tables) (tell (here h.limiter (lend n h).tables))
      ≡ answer (on_limiter n s) (tell s.limiter)
  limiter-tells tell = same_answer (limiter-agrees n enough st) [] (λ (y : LimiterState). []) tell

  -- what the peers' tells
  peers-tell :
      {A : Type 0} (tell : PeersState → A)
      → answer (peers_questions h.peers (lend n h).peer_tables) (tell (peer-state.state_of h.peers (lend n h).peer_tables))
      ≡ answer (on_peers n s) (tell s.peers)
  peers-tell tell = same_answer (peers-agree n enough st) [] (λ (y : PeersState). []) tell

  -- a list of the limiter's
  lists-same :
      (entries : LimiterState → List (List ℕ)) {out out' : List ℕ} {r : Result ℕ Refusal}
      → Lists h.limiter (lend n h).tables (entries (here h.limiter (lend n h).tables)) out r out'
      → Told.listed r out' ≡ listing n entries out s
  lists-same entries {out} {out'} {r} c =
      let g = limiter-agrees n enough st in
      let rest : LimiterState → List Question = λ y. output_questions (entries y) out in
      (λ i. Told.listed (result-said r (c.answered ∙ same_answer g [] rest (λ (y : LimiterState). length (entries y))) i)
      ((c.output ∙ same-changed g [] rest out (λ (y : LimiterState). table (entries y) out)) i))

  -- many keys of the peers'
  module _ {A : Type 0} (tell : ℕ → PeersState → A) (w m : ℕ) (keys : List ℕ) (out out' : List A) (r : Result Unit Refusal) where
    -- the answer
    each-said : TellsEach tell h.peers (lend n h).peer_tables w m keys out r out'
        → r ≡ result_of (answer (each_asked n w m keys (length out) s) tt)
    each-said c =
        result-said r
        (c.answered
        ∙ same_answer (peers-agree n enough st) ((1 asks fits (length keys) w m) ∷ []) (λ (y : PeersState). (16 asks leb m (length out)) ∷ [])
        (λ (y : PeersState). tt))

    -- the output
    each-written :
        TellsEach tell h.peers (lend n h).peer_tables w m keys out r out'
        → out' ≡ changed (each_asked n w m keys (length out) s) out (readers.told tell s.peers w m keys out)
    each-written c =
        c.output
        ∙ same-changed (peers-agree n enough st) ((1 asks fits (length keys) w m) ∷ []) (λ (y : PeersState). (16 asks leb m (length out)) ∷ []) out
        (λ (y : PeersState). readers.told tell y w m keys out)

  -- of each call that reads
  tells-same : (c : Query) {r : Told} → Tells (lend n h) c r → r ≡ told_to n c s
  unfolding told_to limiter-state.state_of
  tells-same (Query.key_rates key) (Tells.tells_rates {r = r} c) = ap Told.rates (result-said r (c ∙ limiter-tells (λ (y : LimiterState). told (rates_of (parameters_of y.settings)) key y)))
  tells-same (Query.quota key) (Tells.tells_quota {r = r} c) =
      ap Told.quota (result-said r (c ∙ limiter-tells (told (λ (k : KeyRecord). k.gcra.quota) key)))
  tells-same (Query.limit key) (Tells.tells_limit {r = r} c) =
      ap Told.limit (result-said r (c ∙ limiter-tells (told (λ (k : KeyRecord). k.limit) key)))
  tells-same (Query.hot_since key) (Tells.tells_since {r = r} c) =
      ap Told.since (result-said r (c ∙ limiter-tells (λ (y : LimiterState). since_of (get key y.hot))))
  tells-same (Query.is-hot key) (Tells.tells_hot {r = r} c) =
      ap Told.flag (result-said r (c ∙ limiter-tells (λ (y : LimiterState). is_hot key y.hot)))
  tells-same (Query.is-tracked key) (Tells.tells_tracked {r = r} c) =
      ap Told.flag (result-said r (c ∙ limiter-tells (λ (y : LimiterState). is_tracked y.keys key)))
  tells-same (Query.new_key_quota z m) (Tells.tells_new_quota {r = r} c) =
      ap Told.new_quota
      (result-said r
      (c
      ∙ same_answer (limiter-agrees n enough st) [] (λ (y : LimiterState). limit_questions z ++ cluster_questions m)
      (λ (y : LimiterState). cold_quota (units_of y.settings) y.settings z m)))
  tells-same (Query.new-key-factor m) (Tells.tells_factor {r = r} c) =
      ap Told.factor
      (result-said r
      (c
      ∙ same_answer (limiter-agrees n enough st) [] (λ (y : LimiterState). cluster_questions m) (λ (y : LimiterState). new_key_factor y.settings m)))
  tells-same Query.config (Tells.tells_config {r = r} c) =
      ap Told.config (result-said r (c ∙ limiter-tells (λ (y : LimiterState). y.settings.config)))
  tells-same Query.tracked_keys (Tells.counts_keys {r = r} c) = ap Told.size (result-said r (c ∙ limiter-tells (λ (y : LimiterState). length y.keys)))
  tells-same Query.hot_keys (Tells.counts_hot {r = r} c) = ap Told.size (result-said r (c ∙ limiter-tells (λ (y : LimiterState). length y.hot)))
  tells-same (Query.hot-demand out) (Tells.lists_hot c) = lists-same hot_demand c
  tells-same (Query.most-denied k out) (Tells.lists_denied c) = lists-same (λ (y : LimiterState). most_denied (parameters_of y.settings) denied_rate k y) c
  tells-same (Query.most_shadow_denied k out) (Tells.lists_shadow_denied c) = lists-same (λ (y : LimiterState). most_denied (parameters_of y.settings) shadow_denied_rate k y) c
  tells-same (Query.get peer key) (Tells.gets {r = r} c) = ap Told.heard (result-said r (c ∙ peers-tell (readers.heard peer key)))
  tells-same (Query.total key) (Tells.tells_total {r = r} c) = ap Told.total (result-said r (c ∙ peers-tell (readers.total key)))
  tells-same (Query.hot-elsewhere key) (Tells.tells_elsewhere {r = r} c) = ap Told.flag (result-said r (c ∙ peers-tell (readers.hot_elsewhere key)))
  tells-same (Query.totals w m keys out) (Tells.tells_totals {out' = out'} {r = r} c) =
      (λ i. Told.totals (each-said readers.total w m keys out out' r c i) (each-written readers.total w m keys out out' r c i))
  tells-same (Query.hot_elsewheres w m keys out) (Tells.tells_elsewheres {out' = out'} {r = r} c) =
      (λ i. Told.flags (each-said readers.hot_elsewhere w m keys out out' r c i) (each-written readers.hot_elsewhere w m keys out out' r c i))
  tells-same Query.peer-keys (Tells.counts_peer_keys {r = r} c) = ap Told.size (result-said r (c ∙ peers-tell readers.len))
  tells-same Query.no-peer-keys (Tells.tells_no_peer_keys {r = r} c) =
      ap Told.flag (result-said r (c ∙ peers-tell (λ (y : PeersState). eqb (readers.len y) 0)))
  tells-same Query.ask-limiter (Tells.asks_limiter c) = ap Told.number (c ∙ same-first-no (limiter-agrees n enough st) [] (λ (y : LimiterState). []))
  tells-same Query.ask-peers (Tells.asks_peers c) = ap Told.number (c ∙ same-first-no (peers-agree n enough st) [] (λ (y : PeersState). []))
  tells-same (Query.save out) (Tells.saves {r = r} c) =
      let g = both-agree n enough st in
      let rest : State → List Question = λ y. (16 asks leb (length (image y)) (length out)) ∷ [] in
      (λ i. Told.listed (result-said r (c.answered ∙ same_answer g [] rest (λ (y : State). length (image y))) i)
      ((c.output ∙ same-changed g [] rest out (λ (y : State). image y ++ drop (length (image y)) out)) i))

  -- of either
  acts-reply : (c : What) {r : Reply} {h' : Memory} → Acts (lend n h) c r h' → r ≡ replied n c s
  acts-reply (What.changes c) (Acts.does d) = does-reply c d
  acts-reply (What.reads c) (Acts.does_tell d) = ap Reply.tells (tells-same c d)

-- of a call as a whole
pub steps-reply : {h h' : Memory} {s : State} {c : Call} {r : Reply} → Stands h s → Step h c r h' → r ≡ replied c.lent c.what s
steps-reply {c = c} st step = acts-reply c.lent step.enough st c.what step.acts
