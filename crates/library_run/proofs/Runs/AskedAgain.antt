-- What the two `ask` functions answer 0 of they answer 0 of again: after every call, refused or not, and after a save and a load; and a new limiter's
-- words and its peers'.
use Prim.Native.Nat.{ℕ}
use mathlib.Core.Path.{◌≡◌, refl, sym, ap, ◌∙◌, subst}
use mathlib.Core.Bool.{true, ◌&&◌}
use mathlib.Core.List.{List}
use borrow.Author.Tests.{leb-true, le-leb}
use lib.Dec.{leb, lit<}
use lib.ListN.{length}
use Rattle.questions.specs.Questions.{Question, passes}
use Rattle.questions.proofs.Tests.{split, both, and_intro}
use Rattle.questions.proofs.Answers.{answer-passed, passed_none, none_passed, passed-both, first_rest}
use Rattle.peers.specs.Peers.State as peer-state
use Rattle.peers.specs.Peers.State.{new_peers}
use Rattle.peers.specs.Peers.Calls.{new_questions, peers_questions}
use Rattle.peers.proofs.Peers.Theorems.{new-passes}
use Rattle.limiter.specs.declared.Config.{Config}
use Rattle.limiter.specs.State as limiter-state
use Rattle.limiter.specs.State.{LimiterState, LimiterTables, lengths, have_room, units_of, units_in}
use Rattle.limiter.specs.Calls.{state_questions}
use Rattle.image.specs.Image.{State}
use Rattle.image.specs.Calls.{here}
use Rattle.run.specs.Run as run
use Rattle.run.specs.Typed.{typed_config}
use Rattle.run.proofs.Count.TraceTurns.{config-stays}
use Rattle.run.proofs.Count.Witness.{held_peers, peers-pass}
use Rattle.run.proofs.Standing.Stands.{same-config}
use Rattle.run.proofs.Standing.ResumedSame.{resumes-roomy}
use Rattle.nultiway.specs.Values.{limiter_of, is_limiter, limiter_asked, peers_words, peers_of, room_asked}
use Rattle.nultiway.specs.LimiterCalls as limiter
use Rattle.nultiway.specs.PeerCalls as peers
use Rattle.nultiway.proofs.Calls.CallLaws.{passed-call, room-passed, room-told, was-open, zero-passed}
use Rattle.library_run.specs.Calls.{Buffers, Call, Said, values_of}
use Rattle.library_run.specs.Runs.{Step, Resume, Resumes, Started}
use Rattle.library_run.specs.Trace.{what_of}
use Rattle.library_run.specs.Demand3.{typed_call, resume_of}
use Rattle.library_run.proofs.Calls.Stepped.{Stands, settings, own_in, next, steps-lead}
use Rattle.library_run.proofs.Runs.Began.{started-stands, started-roomy}
use Rattle.library_run.proofs.Runs.ResumedSame.{resumes-as-run, resumes-stand}
use Rattle.std.specs.declared.result.Result.TheVariants.{Ok}

-- `nultiway_limiter_ask` and `nultiway_peers_ask` answer 0
pub record Asked (b : Buffers) : Type 0 where
  pub limiter : limiter.Ask b.limiter b.tables 0
  pub peers : peers.Ask b.peers b.peer_tables 0

-- the tables have room
abbrev Roomy : State → run.Lent → Type 0
Roomy s n = (have_room (settings s) n.limiter && peer-state.have_room n.peers) ≡ true

-- ---- they stand for a state, in tables with room, where both answer 0

asked-stands : (b : Buffers) → Asked b → let s = here (limiter_of b.limiter) b.tables (peers_of b.peers) b.peer_tables in
    Stands b s × Roomy s (run.lent_by (values_of b))
unfolding passes limiter-state.is_valid peer-state.is_valid limiter-state.state_of
asked-stands b a =
    let l = limiter_of b.limiter in
    let p = peers_of b.peers in
    let t =
    passed-both (limiter_asked b.limiter (lengths b.tables) true) (state_questions l b.tables) (lit< tt, (lit< tt, tt)) (lit< tt, (lit< tt, tt))
    a.limiter in
    let o = was-open b.limiter (lengths b.tables) true t.0 in
    let v = both (have_room l.config (lengths b.tables)) _ t.1 in
    let x = both (limiter-state.are_exact (units_in l) l b.tables) _ (both (limiter-state.is_valid (units_in l) l b.tables) true v.1).0 in
    let k = zero-passed (room_asked (leb 3 (length b.peers))) (lit< tt, tt) a.peers in
    let q = passed_none (peers_questions p b.peer_tables) 0 (lit< tt, (lit< tt, tt)) k.1 refl in
    let w = both (peer-state.have_room (peer-state.lengths b.peer_tables)) _ q in
    let y = both (peer-state.are_exact p b.peer_tables) _ (both (peer-state.is_valid p b.peer_tables) true w.1).0 in (
      record {
        long = o.long;
        value = o.value;
        peers_long = leb-true 3 (length b.peers) (room-told _ k.0);
        values =
            record {
              limiter = record { valid = x.1; reads = refl; exact = x.0 };
              peers = record { valid = y.1; reads = refl; exact = y.0 };
            };
      },
      and_intro _ _ v.0 w.0,
    )

-- what stands passes question 2
limiter-valid : (b : Buffers) {s : State} → Stands b s → limiter-state.is_valid (units_in (limiter_of b.limiter)) (limiter_of b.limiter) b.tables ≡ true
unfolding limiter-state.is_valid limiter-state.state_of
limiter-valid b st =
    let x = st.values.limiter in
    and_intro _ _ x.exact (subst (λ (y : LimiterState). limiter-state.valid (units_of y.settings) y ≡ true) (sym x.reads) x.valid)

peers-valid : (b : Buffers) {s : State} → Stands b s → peer-state.is_valid (peers_of b.peers) b.peer_tables ≡ true
unfolding peer-state.is_valid
peers-valid b st =
    let x = st.values.peers in
    and_intro _ _ x.exact (subst (λ (y : peer-state.PeersState). peer-state.valid y ≡ true) (sym x.reads) x.valid)

stands-asked : (b : Buffers) {s : State} → Stands b s → Roomy s (run.lent_by (values_of b)) → Asked b
unfolding passes
stands-asked b {s} st room =
    let l = limiter_of b.limiter in
    let r = both (have_room (settings s) (lengths b.tables)) _ room in
    let fits : have_room l.config (lengths b.tables) ≡ true =
    ap (λ (g : Config). have_room g (lengths b.tables)) (same-config st.values.limiter) ∙ r.0 in
    let qs : List Question = limiter_asked b.limiter (lengths b.tables) true in
    let own : passes qs ≡ true =
    and_intro _ _
    (and_intro (leb 16 (length b.limiter)) _ (le-leb _ _ st.long) (and_intro (have_room l.config (lengths b.tables)) true fits refl))
    (and_intro (is_limiter b.limiter) true st.value refl) in
    record {
      limiter =
          sym (none_passed (state_questions l b.tables) (and_intro _ _ fits (and_intro _ _ (limiter-valid b st) refl)))
          ∙ first_rest qs (state_questions l b.tables) own;
      peers =
          passed-call _ 0 (room-passed (leb 3 (length b.peers)) (le-leb 3 (length b.peers) st.peers_long))
          (sym
          (none_passed (peers_questions (peers_of b.peers) b.peer_tables) (and_intro _ _ r.1 (and_intro _ _ (peers-valid b st) refl))));
    }

-- ---- so they answer 0 again

next-settings : (c : Call) (s : State) → settings (next c s) ≡ settings s
next-settings c s =
    split (passes (own_in c c.what s)) (λ p. rw p (config-stays c.lent.tables (what_of c.report c.what) s)) (λ p. rw p)

pub asked-again : {b b' : Buffers} (c : Call) {z : Said} → typed_call c ≡ true → Asked b → Step b c z b' → Asked b'
asked-again {b} {b'} c w a step =
    let s = here (limiter_of b.limiter) b.tables (peers_of b.peers) b.peer_tables in
    let st = asked-stands b a in
    let k = steps-lead c w st.0 step in
    stands-asked b' k.stands
    ((λ i. have_room (next-settings c s i) (k.long i).tables.limiter && peer-state.have_room (k.long i).tables.peers) ∙ st.1)

pub asked-resumed : {b b' : Buffers} (w : Resume) → Asked b → Resumes b w b' → Asked b'
asked-resumed {b} {b'} w a d =
    let st = (asked-stands b a).0 in
    stands-asked b' (resumes-stand b b' _ w st d) (resumes-roomy (resume_of w) st.values (resumes-as-run w st d).resumes)

-- with the tables that the two `new` were lent, or others as long
pub asked-new : {c : Config} {into b : Buffers} → typed_config c ≡ true → Started c into b → run.lent_by (values_of b) ≡ run.lent_by (values_of into) → Asked b
unfolding passes
asked-new {c} {into} {b} w d e =
    let r = started-roomy d in
    stands-asked b (started-stands d w) ((λ i. have_room c (e i).limiter && peer-state.have_room (e i).peers) ∙ r)

-- A limiter that is kept without peers is one beside new peers, so the laws above are of it too.
pub alone-asked : (ws : List ℕ) (t : LimiterTables) → limiter.Ask ws t 0
    → Asked (record { limiter = ws; tables = t; peers = peers_words new_peers; peer_tables = held_peers })
unfolding peers_words peers_of
alone-asked ws t a =
    record {
      limiter = a;
      peers =
          passed-call _ 0 (room-passed (leb 3 (length (peers_words new_peers))) refl)
          (sym
          (none_passed (peers_questions new_peers held_peers)
          (new-passes held_peers (Ok new_peers) new_peers (answer-passed new_peers (new_questions held_peers) peers-pass) refl)));
    }
