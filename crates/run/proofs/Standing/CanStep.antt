-- No run is stuck: whatever the program holds, a call that is lent enough has a reply and leaves holdings that keep its promise.
use mathlib.Core.Path.{◌≡◌, refl, subst}
use mathlib.Core.Bool.{true, ◌&&◌}
use mathlib.Core.List.{List, ◌++◌}
use Rattle.std.proofs.lemmas.Bool.{cond-false}
use Rattle.questions.proofs.Tests.{both}
use Rattle.questions.specs.Questions.{Question, answer, passes, changed}
use Rattle.questions.proofs.Answers.{changed-passed}
use Rattle.peers.specs.Peers.State as peer-state
use Rattle.limiter.specs.declared.Limiter.{Limiter}
use Rattle.limiter.specs.Answered.{Changed}
use Rattle.limiter.specs.State as limiter-state
use Rattle.limiter.specs.State.{parameters_of, settings_of, LimiterState, LimiterTables, lengths, have_room, value_of, units_of, units_in}
use Rattle.limiter.specs.Checks.{both_limit_questions, cluster_questions}
use Rattle.limiter.specs.Ticks.{tick, tick_with, tick_with_shares, no_others, peers_others}
use Rattle.limiter.specs.Calls as limiter
use Rattle.limiter.specs.Calls.{Ticking, state_questions, both_questions, here}
use Rattle.limiter.proofs.Calls.TickValidLaws.{tick-valid}
use Rattle.limiter.proofs.States.WrittenLaws.{written-holds}
use Rattle.limiter.proofs.States.StateValidLaws.{units-of-accepted}
use Rattle.run.specs.Run.{Memory, Change, Query, What, Told, Reply, Does, Tells, Acts, lend, returned}
use Rattle.run.specs.Typed.{typed, typed_what}
use Rattle.run.specs.Demand3.{CanCall}
use Rattle.questions.specs.Refusals.{refusal_of}
use Rattle.questions.proofs.RefusalLaws.{are_known, result_of, tested-back}
use Rattle.limiter.specs.declared.Limit.{Limit}
use Rattle.std.specs.declared.option.Option.{Option}
use Rattle.std.specs.declared.option.Option.TheVariants.{None, Some}

-- ---- a tick: `written after t` is the witness

-- the value and the words of the state afterwards, with the questions' answer
abbrev tick_result : List Question → LimiterState → Limiter → Changed
tick_result qs y l = record { answer = result_of (answer qs tt); limiter = changed qs l (value_of y) }

-- where the questions pass only of a valid state with room for it
can-tick : (qs : List Question) (y : LimiterState) (l : Limiter) (t : LimiterTables) → are_known qs ≡ true
    → (passes qs ≡ true → (limiter-state.valid (units_of y.settings) y ≡ true) × (have_room y.settings.config (lengths t) ≡ true))
    → Ticking qs y l t (tick_result qs y l) (changed qs t (limiter-state.written (units_of y.settings) y t))
can-tick qs y l t known keeps =
    record {
      answered = tested-back qs tt known;
      limiter = refl;
      held =
          λ e. let k = keeps e in subst (limiter.Holds y t) (changed-passed (limiter-state.written (units_of y.settings) y t) t qs e)
          (written-holds y t k.0 k.1);
      unmoved = cond-false (passes qs) (limiter-state.written (units_of y.settings) y t) t;
    }

-- a lent state that passes question 2 is valid
lent-valid : (l : Limiter) (t : LimiterTables) → limiter-state.is_valid (units_in l) l t ≡ true → limiter-state.valid (units_in l) (here l t) ≡ true
unfolding limiter-state.is_valid
lent-valid l t e = (both (limiter-state.are_exact (units_in l) l t) _ e).1

-- ---- each call that changes

-- the questions of a limit and its shadow have refusals of their numbers, and so those with others after them
traced-known : (x : Limit) (y : Option Limit) (rest : List Question) → are_known rest ≡ true → are_known (both_limit_questions x y ++ rest) ≡ true
unfolding refusal_of
traced-known x None rest k = k
traced-known x (Some y) rest k = k

can-do : (p : Memory) (c : Change) → typed c ≡ true → (r : Reply) × (p' : Memory) × Does p c r p'
unfolding typed passes tick_with limiter-state.state_of refusal_of
can-do p (Change.check key now m) w =
    (_, _, Does.checks (record { answer = result_of _; limiter = _ }) (record { answered = tested-back _ _ refl; limiter = refl; words = refl }))
can-do p (Change.check-in key z now m) w =
    (_, _, Does.checks_in (record { answer = result_of _; limiter = _ }) (record { answered = tested-back _ _ refl; limiter = refl; words = refl }))
can-do p (Change.check-traced key z y now m) w =
    (_, _, Does.checks_traced (record { answer = result_of _; limiter = _ }) (record { answered = tested-back _ _ (traced-known z y _ refl); limiter = refl; words = refl }))
can-do p (Change.check-each list count m out) w = (
  _,
  _,
  Does.checks_each (record { answer = result_of _; limiter = _ })
      (record { acts = record { answered = tested-back _ _ refl; limiter = refl; words = refl }; output = refl }),
)
can-do p (Change.tally key y z now m) w =
    (_, _, Does.tallies (record { answer = result_of _; limiter = _ }) (record { answered = tested-back _ _ refl; limiter = refl; words = refl }))
can-do p (Change.set-cap z) w =
    (_, _, Does.sets_cap (record { answer = result_of _; limiter = _ }) (record { answered = tested-back _ _ refl; limiter = refl }))
can-do p (Change.tick now m) w = (
  _,
  _,
  Does.ticks _
      (can-tick (state_questions p.limiter p.tables ++ cluster_questions m) (tick (parameters_of (settings_of p.limiter)) (units_in p.limiter) now m (here p.limiter p.tables)) p.limiter
      p.tables refl
      (λ e.
      let a = both (have_room p.limiter.config (lengths p.tables)) _ e in
      let b = both (limiter-state.is_valid (units_in p.limiter) p.limiter p.tables) _ a.1 in
      (tick-valid (parameters_of (settings_of p.limiter)) (units_in p.limiter) (units-of-accepted (settings_of p.limiter)) (no_others m) now m (here p.limiter p.tables) w (lent-valid p.limiter p.tables b.0), a.0))),
)
can-do p (Change.tick-with-shares now m) w = (
  _,
  _,
  Does.ticks_with_shares _
      (can-tick (both_questions p.limiter p.tables p.peers p.peer_tables ++ cluster_questions m)
      (tick_with_shares (parameters_of (settings_of p.limiter)) (units_in p.limiter) (peer-state.state_of p.peers p.peer_tables) now m (here p.limiter p.tables)) p.limiter p.tables refl
      (λ e.
      let a = both (have_room p.limiter.config (lengths p.tables) && peer-state.have_room (peer-state.lengths p.peer_tables)) _ e in
      let b = both (limiter-state.is_valid (units_in p.limiter) p.limiter p.tables && peer-state.is_valid p.peers p.peer_tables) _ a.1 in (
        tick-valid (parameters_of (settings_of p.limiter)) (units_in p.limiter) (units-of-accepted (settings_of p.limiter)) (peers_others (here p.limiter p.tables).settings (peer-state.state_of p.peers p.peer_tables) m) now m
            (here p.limiter p.tables) w
            (lent-valid p.limiter p.tables (both (limiter-state.is_valid (units_in p.limiter) p.limiter p.tables) _ b.0).0),
        (both (have_room p.limiter.config (lengths p.tables)) _ a.0).0,
      ))),
)
can-do p (Change.report sender z now) w =
    (_, _, Does.reports (record { answer = result_of _; peers = _ }) (record { answered = tested-back _ _ refl; value = refl; words = refl }))
can-do p (Change.forget peer) w =
    (_, _, Does.forgets (record { answer = result_of _; peers = _ }) (record { answered = tested-back _ _ refl; value = refl; words = refl }))
can-do p (Change.leave peer now hold) w =
    (_, _, Does.leaves (record { answer = result_of _; peers = _ }) (record { answered = tested-back _ _ refl; value = refl; words = refl }))
can-do p (Change.expire now max_age) w =
    (_, _, Does.expires (record { answer = result_of _; peers = _ }) (record { answered = tested-back _ _ refl; value = refl; words = refl }))

-- ---- each call that reads

can-tell : (p : Memory) (c : Query) → (r : Told) × Tells p c r
unfolding refusal_of
can-tell p (Query.key_rates key) = (_, Tells.tells_rates {r = result_of _} (tested-back _ _ refl))
can-tell p (Query.quota key) = (_, Tells.tells_quota {r = result_of _} (tested-back _ _ refl))
can-tell p (Query.limit key) = (_, Tells.tells_limit {r = result_of _} (tested-back _ _ refl))
can-tell p (Query.hot_since key) = (_, Tells.tells_since {r = result_of _} (tested-back _ _ refl))
can-tell p (Query.is-hot key) = (_, Tells.tells_hot {r = result_of _} (tested-back _ _ refl))
can-tell p (Query.is-tracked key) = (_, Tells.tells_tracked {r = result_of _} (tested-back _ _ refl))
can-tell p (Query.new_key_quota z m) = (_, Tells.tells_new_quota {r = result_of _} (tested-back _ _ refl))
can-tell p (Query.new-key-factor m) = (_, Tells.tells_factor {r = result_of _} (tested-back _ _ refl))
can-tell p Query.config = (_, Tells.tells_config {r = result_of _} (tested-back _ _ refl))
can-tell p Query.tracked_keys = (_, Tells.counts_keys {r = result_of _} (tested-back _ _ refl))
can-tell p Query.hot_keys = (_, Tells.counts_hot {r = result_of _} (tested-back _ _ refl))
can-tell p (Query.hot-demand out) = (_, Tells.lists_hot {r = result_of _} (record { answered = tested-back _ _ refl; output = refl }))
can-tell p (Query.most-denied k out) = (_, Tells.lists_denied {r = result_of _} (record { answered = tested-back _ _ refl; output = refl }))
can-tell p (Query.most_shadow_denied k out) = (_, Tells.lists_shadow_denied {r = result_of _} (record { answered = tested-back _ _ refl; output = refl }))
can-tell p (Query.get peer key) = (_, Tells.gets {r = result_of _} (tested-back _ _ refl))
can-tell p (Query.total key) = (_, Tells.tells_total {r = result_of _} (tested-back _ _ refl))
can-tell p (Query.hot-elsewhere key) = (_, Tells.tells_elsewhere {r = result_of _} (tested-back _ _ refl))
can-tell p (Query.totals w m keys out) = (_, Tells.tells_totals {r = result_of _} (record { answered = tested-back _ _ refl; output = refl }))
can-tell p (Query.hot_elsewheres w m keys out) = (_, Tells.tells_elsewheres {r = result_of _} (record { answered = tested-back _ _ refl; output = refl }))
can-tell p Query.peer-keys = (_, Tells.counts_peer_keys {r = result_of _} (tested-back _ _ refl))
can-tell p Query.no-peer-keys = (_, Tells.tells_no_peer_keys {r = result_of _} (tested-back _ _ refl))
can-tell p Query.ask-limiter = (_, Tells.asks_limiter refl)
can-tell p Query.ask-peers = (_, Tells.asks_peers refl)
can-tell p (Query.save out) = (_, Tells.saves {r = result_of _} (record { answered = tested-back _ _ refl; output = refl }))

-- ---- a call as a whole

can-act : (p : Memory) (c : What) → typed_what c ≡ true → (r : Reply) × (p' : Memory) × Acts p c r p'
can-act p (What.changes c) w = let z = can-do p c w in (z.0, z.1, Acts.does z.2)
can-act p (What.reads c) w = let z = can-tell p c in (Reply.tells z.0, p, Acts.does_tell z.1)

pub can-step : (h : Memory) → CanCall h
can-step h c w enough =
    let z = can-act (lend c.lent h) c.what w in
    (z.0, returned z.1 h, record { enough = enough; after = z.1; acts = z.2; back = refl })
