-- A resumed run shows what the unbroken one does; and where there is room its saves and loads exist and get no 'no'.
use Prim.Native.Nat.{ℕ, ◌≤◌}
use mathlib.Core.Path.{◌≡◌, sym, ap, ◌∙◌, subst}
use mathlib.Core.Bool.{true, ◌&&◌}
use mathlib.Core.List.{List, ◌++◌}
use lib.ListN.{length, take, drop}
use Rattle.questions.proofs.Tests.{both, and_intro}
use Rattle.questions.specs.Lists.{all}
use Rattle.questions.specs.Questions.{passes}
use Rattle.questions.proofs.Answers.{given-passed}
use Rattle.peers.specs.Peers.State as peer-state
use Rattle.peers.specs.Peers.State.{PeerTables, new_peers}
use Rattle.limiter.specs.declared.Config.{Config}
use Rattle.limiter.specs.State as limiter-state
use Rattle.limiter.specs.State.{LimiterTables, lengths, units_of}
use Rattle.image.specs.declared.Loaded.{Loaded}
use Rattle.image.specs.Image.{State, valid, image}
use Rattle.image.specs.Calls.{here, have_room, values_of, load_questions, Loads}
use Rattle.image.proofs.Loading.LoadLaws as images
use Rattle.run.specs.Run.{Memory, Resume, Move, Shown, Resumes, SavesAt, Unbroken, Resumed, lend}
use Rattle.run.specs.Typed.{typed_move}
use Rattle.run.specs.Trace.{state_after}
use Rattle.run.specs.Demand3.{Room, Served}
use Rattle.run.proofs.Standing.Stands.{Stands, same-config}
use Rattle.run.proofs.Standing.Asked.{both-agree-there}
use Rattle.run.proofs.Standing.Left.{written_stands, written-long, peers-written-stand, peers-written-long}
use Rattle.run.proofs.Standing.Shows.{same-image, shown_by, run-shows, unbroken-shows}
use Rattle.std.specs.declared.result.Result.{Result}
use Rattle.std.specs.declared.result.Result.TheVariants.{Ok}
use Rattle.questions.specs.declared.Refusal.{Refusal}

-- what the program holds after a load
abbrev loaded_into : Loaded → LimiterTables → PeerTables → Memory
loaded_into x t pt = record { limiter = x.limiter; tables = t; peers = x.peers; peer_tables = pt }

-- holdings stand for a valid state
stands-valid : {h : Memory} {s : State} → Stands h s → valid s ≡ true
unfolding valid
stands-valid st = and_intro _ _ st.limiter.valid st.peers.valid

-- what a load wrote stands for the state that it read
written-state : (y : State) (t : LimiterTables) (pt : PeerTables) → valid y ≡ true
    → Stands (loaded_into (values_of y) (limiter-state.written (units_of y.limiter.settings) y.limiter t) (peer-state.written y.peers pt)) y
unfolding valid
written-state y t pt v =
    let b = both (limiter-state.valid (units_of y.limiter.settings) y.limiter) (peer-state.valid y.peers) v in
    record { limiter = written_stands y.limiter t b.0; peers = peers-written-stand y.peers pt b.1 new_peers }

module _ {h : Memory} {s : State} (w : Resume) (st : Stands h s) where
  -- what the save is lent
  abbrev part : Memory
  part = lend w.lent h

  -- where it has room it reads the state, and passes question 2
  reads : (limiter-state.have_room h.limiter.config (lengths part.tables) && peer-state.have_room (peer-state.lengths part.peer_tables)) ≡ true
      → ((limiter-state.is_valid (limiter-state.units_in h.limiter) h.limiter part.tables && peer-state.is_valid h.peers part.peer_tables) ≡ valid s) ×
      (here h.limiter part.tables h.peers part.peer_tables ≡ s)
  reads room = let g = both-agree-there w.lent st in g.rest (sym g.rooms ∙ room)

  -- what a save wrote is the state's image
  saved-image : {size : ℕ} {out : List ℕ} → SavesAt h w (Ok size) out → take size out ≡ image s
  saved-image {size} {out} c =
      let v = images.saved h.limiter part.tables h.peers part.peer_tables w.out out size c in
      v.bytes ∙ ap image (reads v.room).1

  -- a load of it
  load_of : {size : ℕ} {out : List ℕ} {r : Result Loaded Refusal} {t : LimiterTables} {pt : PeerTables} → SavesAt h w (Ok size) out
      → Loads (take size out) w.tables w.peer_tables r t pt → Loads (image s) w.tables w.peer_tables r t pt
  load_of {r = r} {t = t} {pt = pt} c l = subst (λ (bs : List ℕ). Loads bs w.tables w.peer_tables r t pt) (saved-image c) l

  -- ---- where there is room
  module _ (room : Room h w) where
    -- the save's question 1
    lent-room :
        (limiter-state.have_room h.limiter.config (lengths part.tables) && peer-state.have_room (peer-state.lengths part.peer_tables)) ≡ true
    lent-room =
        (λ i. limiter-state.have_room h.limiter.config (room.enough i).limiter && peer-state.have_room (room.enough i).peers) ∙ room.lent

    -- question 2 passes
    lent-valid : (limiter-state.is_valid (limiter-state.units_in h.limiter) h.limiter part.tables ≡ true) × (peer-state.is_valid h.peers part.peer_tables ≡ true)
    lent-valid = both (limiter-state.is_valid (limiter-state.units_in h.limiter) h.limiter part.tables) _ ((reads lent-room).0 ∙ stands-valid st)

    -- and 16
    fits : length (image (here h.limiter part.tables h.peers part.peer_tables)) ≤ length w.out
    fits = subst (λ (bs : List ℕ). length bs ≤ length w.out) (same-image st ∙ ap image (sym (reads lent-room).1)) room.output

    -- the load's question 1
    load-room : have_room (image s) w.tables w.peer_tables ≡ true
    load-room =
        images.room-of-image s (stands-valid st) w.tables w.peer_tables
        ∙ ap (λ (k : Config). limiter-state.have_room k (lengths w.tables) && peer-state.have_room (peer-state.lengths w.peer_tables))
        (sym (same-config st.limiter)) ∙ room.tables

    -- a save
    abbrev saved_size : ℕ
    saved_size = length (image (here h.limiter part.tables h.peers part.peer_tables))

    abbrev saved_bytes : List ℕ
    saved_bytes = image (here h.limiter part.tables h.peers part.peer_tables) ++ drop saved_size w.out

    can-save : SavesAt h w (Ok saved_size) saved_bytes
    can-save =
        images.can-save h.limiter part.tables h.peers part.peer_tables w.out saved_bytes lent-room lent-valid.0 lent-valid.1 fits

    -- 'The resumed run's save and load get no "no" where there is room', and there is such a save and load
    pub served : Served h w
    served =
        record {
          saved = λ r out c. (
            saved_size,
            images.save-served h.limiter part.tables h.peers part.peer_tables w.out out lent-room lent-valid.0
                lent-valid.1 fits r c,
          );
          loaded = λ size out c r t pt l. images.load-served s (stands-valid st) w.tables w.peer_tables load-room r (load_of c l);
          resumed = (
            _,
            Resumes.saved_and_loaded can-save
                (subst (λ (bs : List ℕ). Loads bs w.tables w.peer_tables (Ok (values_of s))
                (limiter-state.written (units_of s.limiter.settings) s.limiter w.tables) (peer-state.written s.peers w.peer_tables))
                (sym (saved-image can-save)) (images.can-load s (stands-valid st) w.tables w.peer_tables load-room)),
          );
        }

-- a resumption keeps the state
pub resumes-stand : (h h' : Memory) (s : State) (w : Resume) → Stands h s → Resumes h w h' → Stands h' s
resumes-stand h h' s w st (Resumes.saved_and_loaded {t = t} {pt = pt} saves loads) =
    let z = images.loaded s (stands-valid st) w.tables w.peer_tables (load_of w st saves loads) in
    subst (λ (a : Memory). Stands a s) (sym (λ i. loaded_into (z.0 i) (z.1 i) (z.2 i)))
    (written-state s w.tables w.peer_tables (stands-valid st))

-- and leaves tables with room for it, as long as the load was lent
pub resumes-roomy :
    {h h' : Memory} {s : State} (w : Resume) → Stands h s → Resumes h w h'
    → (limiter-state.have_room s.limiter.settings.config (lengths h'.tables) && peer-state.have_room (peer-state.lengths h'.peer_tables)) ≡ true
unfolding passes
resumes-roomy {s = s} w st (Resumes.saved_and_loaded saves loads) =
    let l = load_of w st saves loads in
    let e = stands-valid st in
    let z = images.loaded s e w.tables w.peer_tables l in
    let asked = (given-passed (load_questions (image s) w.tables w.peer_tables) _ _ l.answered).0 in
    let room =
    both (limiter-state.have_room s.limiter.settings.config (lengths w.tables)) (peer-state.have_room (peer-state.lengths w.peer_tables))
    (sym (images.room-of-image s e w.tables w.peer_tables) ∙ (both (have_room (image s) w.tables w.peer_tables) _ asked).0) in
    let long = ap lengths z.1 ∙ written-long s.limiter w.tables (record { valid = st.limiter.valid; room = room.0 }) in
    let peers-long =
    ap peer-state.lengths z.2 ∙ peers-written-long s.peers w.peer_tables (record { valid = st.peers.valid; room = room.1 }) in
    and_intro _ _ (ap (limiter-state.have_room s.limiter.settings.config) long ∙ room.0) (ap peer-state.have_room peers-long ∙ room.1)

-- the resumed run shows what the definitions do
pub resumed-shows :
    {h last : Memory} {s : State} (ms : List Move) {ys : List Shown} → all typed_move ms ≡ true → Stands h s → Resumed h ms ys last
    → (ys ≡ shown_by s ms) × Stands last (state_after s ms)
resumed-shows ms w st u = run-shows Resumes resumes-stand ms w st u

-- so it shows what the unbroken run does
pub resumed-same :
    {h a b : Memory} {s : State} (ms : List Move) {xs ys : List Shown} → all typed_move ms ≡ true → Stands h s → Unbroken h ms xs a → Resumed h ms ys b
    → ys ≡ xs
resumed-same ms w st u v = (resumed-shows ms w st v).0 ∙ sym (unbroken-shows ms w st u).0
