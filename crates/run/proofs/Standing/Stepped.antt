-- A call on holdings that stand for a state leaves holdings that stand for the state after the call, refused or not, in tables as long.
use Prim.Native.Nat.{ℕ, ◌^◌}
use mathlib.Core.Path.{◌≡◌, refl, sym, ap, ◌∙◌, subst}
use mathlib.Core.Bool.{Bool, true, false, cond}
use mathlib.Core.List.{List, [], ◌∷◌, ◌++◌}
use borrow.Author.Tests.{leb-true, ltb-true}
use lib.Dec.{leb, ltb}
use lib.ListN.{length}
use Rattle.records.specs.Records.{records, fits}
use Rattle.questions.proofs.Tests.{both}
use Rattle.questions.specs.Questions.{Question, ◌asks◌, passes, changed}
use Rattle.peers.specs.declared.peer_demand.PeerDemand.{PeerDemand}
use Rattle.peers.specs.declared.peer_demand.DemandReport.{DemandReport}
use Rattle.questions.specs.Lists.{all}
use Rattle.peers.specs.Peers.State as peer-state
use Rattle.peers.specs.Peers.State.{PeersState, PeerTables}
use Rattle.records.specs.Typed.{is_word}
use Rattle.peers.specs.Peers.Changes as peer-changes
use Rattle.peers.specs.Peers.Calls.{Widths, fits_widths, has_demands, has_place, report_questions_of}
use Rattle.peers.proofs.Peers.Reports.ReportValidLaws.{apply-valid}
use Rattle.peers.proofs.Peers.Departures.DepartureLaws.{forget-valid, leave-valid, expire-valid}
use Rattle.limiter.specs.declared.Limit.{Limit}
use Rattle.limiter.specs.declared.Limiter.{Limiter}
use Rattle.limiter.specs.State as limiter-state
use Rattle.limiter.specs.State.{parameters_of, Settings, LimiterState, LimiterTables, lengths, have_room, is_f64, value_of, units_of, units_for}
use Rattle.limiter.specs.Checks.{own_limit, key_decision, shadow_decision, check_in, check_traced, record_tally, set_cap, check_each, cluster_questions, check_questions, check_in_questions, traced_questions, record_questions}
use Rattle.limiter.specs.Ticks.{no_others, peers_others, tick_with, tick, tick_with_shares}
use Rattle.limiter.specs.Calls.{each_questions}
use Rattle.limiter.proofs.Calls.CheckValidLaws.{Given, check-valid, check-in-valid, traced-valid, record-valid, check-each-valid, pairs-fit, set-cap-valid}
use Rattle.limiter.proofs.Calls.TickValidLaws.{tick-valid}
use Rattle.limiter.proofs.LimiterTheorems.{each-settings}
use Rattle.limiter.proofs.States.StateValidLaws.{units-of-accepted}
use Rattle.limiter.specs.declared.Config.{Config}
use Rattle.image.specs.Image.{State}
use Rattle.run.specs.Run.{Memory, Lent, Change, What, Call, Reply, Does, Acts, Step, with_limiter, with_peers, lend, lent_by, returned}
use Rattle.run.specs.Typed.{typed_report, typed, typed_what}
use Rattle.run.specs.Trace.{limiter_only, peers_only, on_peers, asked, made, after}
use Rattle.run.proofs.Standing.Stands.{LimiterStands, PeersStand, Stands, put_tables, put_peers, back-same, back_long, limiter-lent}
use Rattle.run.proofs.Standing.Asked.{asking, same-changed, passes-room, passes-rest, limiter-agrees, peers-agree, both-agree}
use Rattle.run.proofs.Standing.Left.{Leaves, left-long, left-stands, Lasting, acts-leave, ticking-leaves, cap-leaves, PeersLasting, changes-leave, acts-there, ticking-there}

-- a limit's rate, with a key and a reading
given : (key : ℕ) (x : Limit) (now : ℕ) → is_word key ≡ true → is_word now ≡ true → is_f64 x.rate ≡ true → Given key x now
given key x now hk hn hx = record { key_word = hk; rate_f64 = hx; now_word = hn }

-- a typed report's widths
widths : (sender now : ℕ) (x : DemandReport) → is_word sender ≡ true → is_word now ≡ true → typed_report x ≡ true
    → (Widths sender now x) × (all fits_widths x.keys ≡ true)
widths sender now x hs hn hx =
    let a = both (ltb x.epoch (2 ^ 32)) _ hx in
    let b = both (ltb x.round (2 ^ 16)) _ a.1 in (
      record {
        peer = ltb-true sender (2 ^ 64) hs;
        time = ltb-true now (2 ^ 64) hn;
        epoch = ltb-true x.epoch (2 ^ 32) a.0;
        round = ltb-true x.round (2 ^ 16) b.0;
      },
      b.1,
    )

-- a state of which one part alone is changed
limiter-alone :
    {h : Memory} (s : State) (y : LimiterState) (b : Bool) → LimiterStands h.limiter h.tables (cond b y s.limiter)
    → PeersStand h.peers h.peer_tables s.peers → Stands h (cond b (limiter_only s y) s)
limiter-alone s y true l p = record { limiter = l; peers = p }
limiter-alone s y false l p = record { limiter = l; peers = p }

-- and likewise the other
peers-alone :
    {h : Memory} (s : State) (y : PeersState) (b : Bool) → LimiterStands h.limiter h.tables s.limiter
    → PeersStand h.peers h.peer_tables (cond b y s.peers) → Stands h (cond b (peers_only s y) s)
peers-alone s y true l p = record { limiter = l; peers = p }
peers-alone s y false l p = record { limiter = l; peers = p }

-- what a call leaves of what it was lent stands for a state, put back, and is as long
record LeftOf (n : Lent) (h part : Memory) (y : State) : Type 0 where
  stands : Stands (returned part h) y
  long : lent_by part ≡ lent_by (lend n h)

module _ {h : Memory} {s : State} (n : Lent) (enough : lent_by (lend n h) ≡ n) (st : Stands h s) where
  -- the lent tables put back as they are
  limiter-still : LimiterStands h.limiter (put_tables h.tables (lend n h).tables) s.limiter
  limiter-still =
      subst (λ (t : LimiterTables). LimiterStands h.limiter t s.limiter)
      (sym
      (λ i. record {
        keys = back-same n.limiter.keys h.tables.keys (ap (λ (k : Lent). k.limiter.keys) enough) i;
        hot = back-same n.limiter.hot h.tables.hot (ap (λ (k : Lent). k.limiter.hot) enough) i;
        shadows = back-same n.limiter.shadows h.tables.shadows (ap (λ (k : Lent). k.limiter.shadows) enough) i;
      }))
      st.limiter

  -- and those of the peers
  peers-still : PeersStand h.peers (put_peers h.peer_tables (lend n h).peer_tables) s.peers
  unfolding peer-state.lengths
  peers-still =
      subst (λ (t : PeerTables). PeersStand h.peers t s.peers)
      (sym
      (λ i. record {
        peers = back-same n.peers.peers h.peer_tables.peers (ap (λ (k : Lent). k.peers.peers) enough) i;
        snapshot_keys = back-same n.peers.snapshot_keys h.peer_tables.snapshot_keys (ap (λ (k : Lent). k.peers.snapshot_keys) enough) i;
        contested = back-same n.peers.contested h.peer_tables.contested (ap (λ (k : Lent). k.peers.contested) enough) i;
      }))
      st.peers

  -- a call that reads leaves what was there
  still : LeftOf n h (lend n h) s
  still = record { stands = record { limiter = limiter-still; peers = peers-still }; long = refl }

  -- a call on the limiter leaves the peers
  limiter-steps :
      {qs : List Question} {y : LimiterState} {l' : Limiter} {t' : LimiterTables}
      → Leaves LimiterStands (put_tables h.tables) lengths qs y h.limiter (lend n h).tables l' t'
      → LeftOf n h (with_limiter (lend n h) l' t') (changed qs s (limiter_only s y))
  limiter-steps {qs} {y} u =
      record {
        stands = limiter-alone s y (passes qs) (left-stands u limiter-still) peers-still;
        long = (λ i. record { limiter = left-long u i; peers = peer-state.lengths (lend n h).peer_tables });
      }

  -- and one on the peers the limiter
  peers-step :
      {qs : List Question} {y : PeersState} {p' : PeerDemand} {t' : PeerTables}
      → Leaves PeersStand (put_peers h.peer_tables) peer-state.lengths qs y h.peers (lend n h).peer_tables p' t'
      → LeftOf n h (with_peers (lend n h) p' t') (changed qs s (peers_only s y))
  peers-step {qs} {y} u =
      record {
        stands = peers-alone s y (passes qs) limiter-still (left-stands u peers-still);
        long = (λ i. record { limiter = lengths (lend n h).tables; peers = left-long u i });
      }

  -- the room that question 1 finds, for a state with the same settings
  lasts : {y : LimiterState} → have_room s.limiter.settings.config n.limiter ≡ true → y.settings.config ≡ s.limiter.settings.config
      → limiter-state.valid (units_of s.limiter.settings) y ≡ true → Lasting y (lend n h).tables
  lasts {y} room e v = record { valid = subst (λ (k : Config). limiter-state.valid (units_for k) y ≡ true) (sym e) v; room = (λ i. have_room (e i) (enough i).limiter) ∙ room }

  -- for any state of the peers
  peers-last : {y : PeersState} → peer-state.have_room n.peers ≡ true → peer-state.valid y ≡ true → PeersLasting y (lend n h).peer_tables
  peers-last room v = record { valid = v; room = ap (λ (k : Lent). peer-state.have_room k.peers) enough ∙ room }

  -- short names: the limiter's state, the peers' value and lent tables
  abbrev x : LimiterState
  x = s.limiter

  abbrev p : PeerDemand
  p = h.peers

  abbrev pt : PeerTables
  pt = (lend n h).peer_tables

  -- the limiter's state is valid
  abbrev x-valid : limiter-state.valid (units_of s.limiter.settings) s.limiter ≡ true
  x-valid = st.limiter.valid

  -- a change of the peers, by its questions past 2
  peers-change :
      (rest : PeersState → List Question) (change : PeersState → PeersState) {p' : PeerDemand} {t' : PeerTables}
      → p' ≡ changed (asking [] rest (peer-state.have_room (peer-state.lengths pt)) (peer-state.is_valid p pt) (peer-state.state_of p pt)) p
      (peer-state.with_counts p (change (peer-state.state_of p pt)))
      → t' ≡ changed (asking [] rest (peer-state.have_room (peer-state.lengths pt)) (peer-state.is_valid p pt) (peer-state.state_of p pt)) pt
      (peer-state.written (change (peer-state.state_of p pt)) pt)
      → (passes (rest s.peers) ≡ true → peer-state.valid (change s.peers) ≡ true)
      → LeftOf n h (with_peers (lend n h) p' t') (changed (on_peers n s ++ rest s.peers) s (peers_only s (change s.peers)))
  peers-change rest change value words keeps =
      let g = peers-agree n enough st in
      peers-step
      (changes-leave h.peer_tables (value ∙ same-changed g [] rest p (λ (y : PeersState). peer-state.with_counts p (change y)))
      (words ∙ same-changed g [] rest pt (λ (y : PeersState). peer-state.written (change y) pt))
      (λ e. peers-last (passes-room [] _ _ e) (keeps (passes-rest [] _ _ (rest s.peers) e))))

  -- a report's questions past 2, and its validity
  reported-valid :
      (jump sender now : ℕ) (z : DemandReport) → Widths sender now z → all fits_widths z.keys ≡ true
      → passes (report_questions_of s.peers sender z) ≡ true
      → peer-state.valid (peer-changes.apply jump sender z now s.peers) ≡ true
  unfolding passes
  reported-valid jump sender now z ws fit e =
      let a = both (leb z.count 64) _ e in
      let b = both (has_demands z) _ a.1 in
      apply-valid jump sender now z s.peers ws fit (leb-true z.count 64 a.0) b.0
      (both (has_place sender s.peers.peers) true b.1).0 st.peers.valid

  -- ---- each call that changes
  does-stand : (c : Change) {r : Reply} {h' : Memory} → typed c ≡ true → Does (lend n h) c r h' → LeftOf n h h' (after n (What.changes c) s)
  unfolding typed asked made check_in check_traced record_tally tick_with limiter-state.state_of
  does-stand (Change.check key now m) w (Does.checks _ c) =
      let b = both (is_word key) (is_word now) w in
      limiter-steps
      (acts-leave h.tables
      (acts-there (limiter-agrees n enough st) [] (λ (y : LimiterState). check_questions (units_of y.settings) y key now m)
      (λ (y : LimiterState). key_decision (units_of y.settings) y key (own_limit y) now m)
      (λ (y : LimiterState). check_in (units_of y.settings) y key (own_limit y) now m) c)
      (λ e. lasts (passes-room [] _ _ e) refl
      (check-valid (units_of x.settings) (units-of-accepted x.settings) x x-valid key now m b.0 b.1 (passes-rest [] _ _ (check_questions (units_of x.settings) x key now m) e))))
  does-stand (Change.check-in key z now m) w (Does.checks_in _ c) =
      let a = both (is_word key) _ w in
      let b = both (is_word now) _ a.1 in
      limiter-steps
      (acts-leave h.tables
      (acts-there (limiter-agrees n enough st) [] (λ (y : LimiterState). check_in_questions (units_of y.settings) y key z now m)
      (λ (y : LimiterState). key_decision (units_of y.settings) y key z now m)
      (λ (y : LimiterState). check_in (units_of y.settings) y key z now m) c)
      (λ e. lasts (passes-room [] _ _ e) refl
      (check-in-valid (units_of x.settings) (units-of-accepted x.settings) x x-valid key z now m (given key z now a.0 b.0 b.1)
      (passes-rest [] _ _ (check_in_questions (units_of x.settings) x key z now m) e))))
  does-stand (Change.check-traced key z y now m) w (Does.checks_traced _ c) =
      let a = both (is_word key) _ w in
      let b = both (is_word now) _ a.1 in
      limiter-steps
      (acts-leave h.tables
      (acts-there (limiter-agrees n enough st) [] (λ (x' : LimiterState). traced_questions (units_of x'.settings) x' key z y now m)
      (λ (x' : LimiterState). record { decision = key_decision (units_of x'.settings) x' key z now m; shadow = shadow_decision (units_of x'.settings) x' key z y now m })
      (λ (x' : LimiterState). check_traced (units_of x'.settings) x' key z y now m) c)
      (λ e.
      lasts (passes-room [] _ _ e) refl
      (traced-valid (units_of x.settings) (units-of-accepted x.settings) x x-valid key z now m (given key z now a.0 b.0 b.1) y
      (passes-rest [] _ _ (traced_questions (units_of x.settings) x key z y now m) e))))
  does-stand (Change.check-each list count m out) w (Does.checks_each _ c) =
      limiter-steps
      (acts-leave h.tables
      (acts-there (limiter-agrees n enough st) ((1 asks fits (length list) 2 count) ∷ []) (λ (y : LimiterState). each_questions count m out)
      (λ (y : LimiterState). tt)
      (λ (y : LimiterState). (check_each (units_of y.settings) m (records 2 count list) y).left) c.acts)
      (λ e.
      lasts (passes-room ((1 asks fits (length list) 2 count) ∷ []) _ _ e)
      (ap (λ (z : Settings). z.config) (each-settings (units_of x.settings) m (records 2 count list) x))
      (check-each-valid (units_of x.settings) (units-of-accepted x.settings) m (records 2 count list) x (pairs-fit count list w) x-valid)))
  does-stand (Change.tally key y z now m) w (Does.tallies _ c) =
      let a = both (is_word key) _ w in
      let b = both (is_word now) _ a.1 in
      limiter-steps
      (acts-leave h.tables
      (acts-there (limiter-agrees n enough st) [] (λ (x' : LimiterState). record_questions (units_of x'.settings) x' key y z now m) (λ (x' : LimiterState). tt)
      (λ (x' : LimiterState). record_tally (units_of x'.settings) x' key y z now m) c)
      (λ e. lasts (passes-room [] _ _ e) refl
      (record-valid (units_of x.settings) (units-of-accepted x.settings) x x-valid key z now m (given key z now a.0 b.0 b.1) y
      (passes-rest [] _ _ (record_questions (units_of x.settings) x key y z now m) e))))
  does-stand (Change.set-cap z) w (Does.sets_cap _ c) =
      limiter-steps
      (cap-leaves h.tables z
      (c.limiter ∙ same-changed (limiter-agrees n enough st) [] (λ (y : LimiterState). []) h.limiter (λ (y : LimiterState). value_of (set_cap z y)))
      (λ e.
      let room = passes-room [] _ _ e in (
        limiter-lent n.limiter ((λ i. have_room x.settings.config (enough i).limiter) ∙ room) st.limiter,
        lasts room refl (set-cap-valid (units_of x.settings) z x w x-valid),
      )))
  does-stand (Change.tick now m) w (Does.ticks _ c) =
      limiter-steps
      (ticking-leaves h.tables
      (ticking-there (limiter-agrees n enough st) [] (λ (y : LimiterState). cluster_questions m) (λ (y : LimiterState). tick (parameters_of y.settings) (units_of y.settings) now m y) c)
      (λ e. lasts (passes-room [] _ _ e) refl (tick-valid (parameters_of x.settings) (units_of x.settings) (units-of-accepted x.settings) (no_others m) now m x w x-valid)))
  does-stand (Change.tick-with-shares now m) w (Does.ticks_with_shares _ c) =
      limiter-steps
      (ticking-leaves h.tables
      (ticking-there (both-agree n enough st) [] (λ (y : State). cluster_questions m)
      (λ (y : State). tick_with_shares (parameters_of y.limiter.settings) (units_of y.limiter.settings) y.peers now m y.limiter) c)
      (λ e.
      lasts (both (have_room x.settings.config n.limiter) (peer-state.have_room n.peers) (passes-room [] _ _ e)).0 refl
      (tick-valid (parameters_of x.settings) (units_of x.settings) (units-of-accepted x.settings) (peers_others x.settings s.peers m) now m x w x-valid)))
  does-stand (Change.report sender z now) w (Does.reports _ c) =
      let a = both (is_word sender) _ w in
      let b = both (is_word now) _ a.1 in
      let ws = widths sender now z a.0 b.0 b.1 in
      peers-change (λ (y : PeersState). report_questions_of y sender z)
      (peer-changes.apply peer-changes.implausible_jump sender z now) c.value c.words
      (λ e. reported-valid peer-changes.implausible_jump sender now z ws.0 ws.1 e)
  does-stand (Change.forget peer) w (Does.forgets _ c) =
      peers-change (λ (y : PeersState). []) (peer-changes.forget peer) c.value c.words (λ e. forget-valid peer s.peers st.peers.valid)
  does-stand (Change.leave peer now hold) w (Does.leaves _ c) =
      peers-change (λ (y : PeersState). []) (peer-changes.leave peer now hold) c.value c.words
      (λ e. leave-valid peer now hold s.peers st.peers.valid)
  does-stand (Change.expire now max_age) w (Does.expires _ c) =
      peers-change (λ (y : PeersState). []) (peer-changes.expire now max_age) c.value c.words
      (λ e. expire-valid now max_age s.peers st.peers.valid)

  -- a call of either kind
  acts-stand : (c : What) {r : Reply} {h' : Memory} → typed_what c ≡ true → Acts (lend n h) c r h' → LeftOf n h h' (after n c s)
  acts-stand (What.changes c) w (Acts.does d) = does-stand c w d
  acts-stand (What.reads c) w (Acts.does_tell d) = still

-- ---- a call as a whole

-- words that come back as many as were lent leave the tables as long as they were
back-as-long : (n : Lent) (h part : Memory) → lent_by part ≡ lent_by (lend n h) → lent_by (returned part h) ≡ lent_by h
unfolding peer-state.lengths
back-as-long n h part e =
    (λ i. record {
      limiter =
          record {
            keys = back_long n.limiter.keys part.tables.keys h.tables.keys (ap (λ (k : Lent). k.limiter.keys) e) i;
            hot = back_long n.limiter.hot part.tables.hot h.tables.hot (ap (λ (k : Lent). k.limiter.hot) e) i;
            shadows = back_long n.limiter.shadows part.tables.shadows h.tables.shadows (ap (λ (k : Lent). k.limiter.shadows) e) i;
          };
      peers =
          record {
            peers = back_long n.peers.peers part.peer_tables.peers h.peer_tables.peers (ap (λ (k : Lent). k.peers.peers) e) i;
            snapshot_keys =
                back_long n.peers.snapshot_keys part.peer_tables.snapshot_keys h.peer_tables.snapshot_keys
                (ap (λ (k : Lent). k.peers.snapshot_keys) e) i;
            contested =
                back_long n.peers.contested part.peer_tables.contested h.peer_tables.contested (ap (λ (k : Lent). k.peers.contested) e) i;
          };
    })

-- what it leaves stands for the state that the definitions leave
pub steps-stand : {h h' : Memory} {s : State} {c : Call} {r : Reply} → Stands h s → typed_what c.what ≡ true → Step h c r h'
    → Stands h' (after c.lent c.what s)
steps-stand {h} {h'} {s} {c} st w step =
    subst (λ (a : Memory). Stands a (after c.lent c.what s)) (sym step.back)
    (acts-stand c.lent step.enough st c.what w step.acts).stands

-- and the tables stay as long
pub steps-long : {h h' : Memory} {s : State} {c : Call} {r : Reply} → Stands h s → typed_what c.what ≡ true → Step h c r h' → lent_by h' ≡ lent_by h
steps-long {h} {h'} {s} {c} st w step =
    ap lent_by step.back ∙ back-as-long c.lent h step.after (acts-stand c.lent step.enough st c.what w step.acts).long
