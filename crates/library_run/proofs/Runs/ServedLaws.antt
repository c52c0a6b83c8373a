-- Where there is room a save and a load of the library answer 0, and there are such a save and a load.
use Prim.Native.Nat.{ℕ, ◌≤◌}
use native.Mathlib.Omega.{arith}
use mathlib.Core.Path.{◌≡◌, refl, sym, ap, ◌∙◌, subst}
use mathlib.Core.Bool.{Bool, true, ◌&&◌}
use mathlib.Core.List.{List}
use borrow.Author.Tests.{le-leb}
use lib.Dec.{leb}
use lib.ListN.{length, take, get_or}
use Rattle.records.specs.Words.{paste}
use Rattle.questions.proofs.Tests.{both, and_intro}
use Rattle.questions.specs.Questions.{passes}
use Rattle.peers.specs.Peers.State as peer-state
use Rattle.limiter.specs.State.{lengths, have_room}
use Rattle.image.specs.declared.Loaded.{Loaded}
use Rattle.image.specs.Image.{State}
use Rattle.image.specs.Calls as images
use Rattle.run.specs.Run as run
use Rattle.run.specs.Run.{Memory}
use Rattle.run.specs.Demand3 as run-demand
use Rattle.run.proofs.Standing.ResumedSame as values
use Rattle.nultiway.specs.Values.{limiter_words, limiter_of, is_limiter, limiter_asked, peers_words, peers_of, peers_room, room_asked}
use Rattle.nultiway.specs.Calls.{number_of, one_word}
use Rattle.nultiway.proofs.Words.ValueLaws.{paste-front}
use Rattle.nultiway.proofs.Calls.CallLaws.{passed-call, room-passed}
use Rattle.library_run.specs.Calls.{Buffers, values_of}
use Rattle.library_run.specs.Runs.{Resume, Resumes, SavesAt, LoadsAt, lend}
use Rattle.library_run.specs.Demand3.{Room, Served, resume_of}
use Rattle.library_run.proofs.Calls.FrontLaws.{limiter-lent, is-limiter-lent, peers-lent}
use Rattle.library_run.proofs.Calls.Stepped.{Stands}
use Rattle.library_run.proofs.Runs.ResumedSame.{save-is}
use Rattle.std.specs.declared.result.Result.{Result}
use Rattle.std.specs.declared.result.Result.TheVariants.{Ok}
use Rattle.questions.specs.declared.Refusal.{Refusal}
use Rattle.questions.specs.Refusals.{answer_of}

module _ {b : Buffers} {s : State} (w : Resume) (st : Stands b s) (room : Room b w) where
  abbrev lent : Buffers
  lent = lend w.lent b

  abbrev others : Bool
  others = leb 1 (length w.answer) && peers_room (length lent.peers) (peer-state.lengths lent.peer_tables)

  long : 16 ≤ length lent.limiter
  long = omega (arith, ap (λ (n : _). n.limiter) room.enough, room.limiter)

  peers-long : 3 ≤ length lent.peers
  peers-long = omega (arith, ap (λ (n : _). n.peers) room.enough, room.peers)

  -- the values that are lent are those that are kept
  lent-values : ◌≡◌ {A = Loaded} (record { limiter = limiter_of lent.limiter; peers = peers_of lent.peers })
      (record { limiter = limiter_of b.limiter; peers = peers_of b.peers })
  lent-values = λ i. record { limiter = limiter-lent w.lent.limiter b.limiter long i; peers = peers-lent w.lent.peers b.peers peers-long i }

  -- the tables have room, by the settings in the lent words
  tables-fit : (have_room (limiter_of lent.limiter).config (lengths lent.tables) && peer-state.have_room (peer-state.lengths lent.peer_tables)) ≡ true
  tables-fit =
      subst (λ (n : run.Lent). (have_room (limiter_of lent.limiter).config n.limiter && peer-state.have_room n.peers) ≡ true)
      (sym (ap (λ (n : _). n.tables) room.enough))
      (ap (λ (v : Loaded). have_room v.limiter.config w.lent.tables.limiter && peer-state.have_room w.lent.tables.peers) lent-values
      ∙ room.values.lent)

  -- the questions of the lent words
  save-passed : passes (limiter_asked lent.limiter (lengths lent.tables) others) ≡ true
  unfolding passes
  save-passed =
      let t = both (have_room (limiter_of lent.limiter).config (lengths lent.tables)) _ tables-fit in
      and_intro _ _
      (and_intro (leb 16 (length lent.limiter)) _ (le-leb _ _ long)
      (and_intro (have_room (limiter_of lent.limiter).config (lengths lent.tables)) others t.0
      (and_intro (leb 1 (length w.answer)) _ (le-leb 1 (length w.answer) room.answer)
      (and_intro (leb 3 (length lent.peers)) _ (le-leb _ _ peers-long) t.1))))
      (and_intro (is_limiter lent.limiter) true (is-limiter-lent w.lent.limiter b.limiter long ∙ st.value) refl)

  load-passed : passes (room_asked (leb 16 (length w.into.limiter) && leb 3 (length w.into.peers))) ≡ true
  load-passed =
      room-passed _ (and_intro (leb 16 (length w.into.limiter)) _ (le-leb _ _ room.limiter_into) (le-leb 3 (length w.into.peers) room.peers_into))

  abbrev Kept : Result ℕ Refusal → List ℕ → Loaded → Type 0
  Kept r out' v = images.Saves v.limiter lent.tables v.peers lent.peer_tables w.out r out'

  -- what `run` says of the values
  by-run : run-demand.Served (values_of b) (resume_of w)
  by-run = values.served (resume_of w) st.values room.values

  saved-zero : (r : ℕ) (out' answer' : List ℕ) → SavesAt b w r out' answer' → r ≡ 0
  saved-zero r out' answer' c =
      let a = c.answered save-passed in
      a.number ∙ ap (λ (x : Result ℕ Refusal). number_of (answer_of x)) (by-run.saved a.result out' (subst (Kept a.result out') lent-values a.kept)).1

  loaded-zero : (out' answer' : List ℕ) → SavesAt b w 0 out' answer' → (r : ℕ) (b' : Buffers) → LoadsAt w out' answer' r b' → r ≡ 0
  loaded-zero out' answer' c r b' d =
      let v = save-is w st c in
      let a = d.answered load-passed in
      a.put.number
      ∙ ap (λ (x : Result Loaded Refusal). number_of (answer_of x))
      (by-run.loaded v.0 out' v.1 a.result b'.tables b'.peer_tables
      (subst (λ (m : ℕ). images.Loads (take m out') w.into.tables w.into.peer_tables a.result b'.tables b'.peer_tables) v.2 a.kept)).1

  -- the words that they write
  in_words : {m : Memory} → run.Resumes (values_of b) (resume_of w) m → (b' : Buffers) × Resumes b w b'
  in_words (run.Resumes.saved_and_loaded {size = size} {out = out} {x = x} {t = t} {pt = pt} c d) = (
    record {
      limiter = paste 0 (limiter_words x.limiter) w.into.limiter;
      tables = t;
      peers = paste 0 (peers_words x.peers) w.into.peers;
      peer_tables = pt;
    },
    Resumes.saved_and_loaded {out' = out} {answer' = paste 0 (one_word size) w.answer}
        (passed-call _ 0 save-passed
        (record { result = Ok size; kept = subst (Kept (Ok size) out) (sym lent-values) c; number = refl; answer = refl }))
        (passed-call _ 0 load-passed
        (record {
          result = Ok x;
          kept =
              subst (λ (m : ℕ). images.Loads (take m out) w.into.tables w.into.peer_tables (Ok x) t pt)
              (sym (ap (λ (ws : List ℕ). get_or ws 0 0) (paste-front (one_word size) w.answer))) d;
          put = record { number = refl; limiter = refl; peers = refl };
        })),
  )

  pub served : Served b w
  served = record { saved = saved-zero; loaded = loaded-zero; resumed = in_words by-run.resumed.1 }
