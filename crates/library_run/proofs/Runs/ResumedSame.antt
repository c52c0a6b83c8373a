-- A save and a load of the library that answer 0 keep the state, so a resumed run shows what the unbroken one does.
use Prim.Native.Nat.{ℕ, ◌≤◌}
use mathlib.Core.Path.{◌≡◌, sym, ap, ◌∙◌, subst}
use mathlib.Core.Bool.{true, ◌&&◌}
use mathlib.Core.List.{List, [], ◌∷◌}
use lib.Dec.{leb, lit<}
use lib.ListN.{length, take, get_or}
use Rattle.records.specs.Words.{paste}
use Rattle.questions.specs.Questions.{Answer, given}
use Rattle.questions.proofs.RefusalLaws.{ok-given}
use Rattle.questions.specs.Lists.{all}
use Rattle.image.specs.declared.Loaded.{Loaded}
use Rattle.image.specs.Image.{State, image}
use Rattle.image.specs.Reader.{state_read}
use Rattle.image.specs.Calls as images
use Rattle.run.specs.Run as run
use Rattle.run.proofs.Standing.ResumedSame as values
use Rattle.nultiway.specs.Values.{limiter_words, limiter_of, peers_words, peers_of, room_asked}
use Rattle.nultiway.specs.Calls.{answer_put, one_word}
use Rattle.nultiway.specs.ImageCalls.{loaded_limiter, loaded_peers}
use Rattle.nultiway.proofs.Words.ValueLaws.{paste-front}
use Rattle.nultiway.proofs.Calls.CallLaws.{room-told, zero-passed, zero-given}
use Rattle.nultiway.proofs.Calls.RoomLaws.{both_long}
use Rattle.library_run.specs.Calls.{Buffers, values_of}
use Rattle.library_run.specs.Runs.{Resume, Move, Shown, Resumes, Unbroken, Resumed, SavesAt, lend}
use Rattle.library_run.specs.Demand3.{resume_of, typed_move}
use Rattle.library_run.proofs.Calls.FrontLaws.{limiter-lent, peers-lent}
use Rattle.library_run.proofs.Calls.OwnQuestions.{Needs, own, own-long}
use Rattle.library_run.proofs.Calls.Stepped.{Stands}
use Rattle.library_run.proofs.Runs.Shows.{shown_by, state_after, run-shows, unbroken-shows}
use Rattle.library_run.proofs.Runs.Began.{words-stand}
use Rattle.std.specs.declared.result.Result.{Result}
use Rattle.std.specs.declared.result.Result.TheVariants.{Ok}
use Rattle.questions.specs.declared.Refusal.{Refusal}
use Rattle.questions.specs.Refusals.{answer_of}

-- ---- a save that answers 0

module _ {b : Buffers} {s : State} (w : Resume) (st : Stands b s) {out' answer' : List ℕ} (saves : SavesAt b w 0 out' answer') where
  abbrev lent : Buffers
  lent = lend w.lent b

  -- its own questions
  abbrev save_needs : Needs
  save_needs = Needs.with_peers (leb 1 (length w.answer))

  -- it is `run`'s, and tells how many bytes
  pub save-is : (size : ℕ) × run.SavesAt (values_of b) (resume_of w) (Ok size) out' × (get_or answer' 0 0 ≡ size)
  save-is =
      let a = zero-passed (own lent [] save_needs) (lit< tt, (lit< tt, tt)) saves in
      let long = own-long lent [] save_needs a.0 in
      let x = a.1 in
      let n : ℕ = length (image (images.here (limiter_of lent.limiter) lent.tables (peers_of lent.peers) lent.peer_tables)) in
      let g : answer_of x.result ≡ given n =
      zero-given n (images.save_questions (limiter_of lent.limiter) lent.tables (peers_of lent.peers) lent.peer_tables w.out)
      (answer_of x.result) (lit< tt, (lit< tt, (lit< tt, tt))) x.kept.answered x.number in (
        n,
        subst (λ (r : Result ℕ Refusal). run.SavesAt (values_of b) (resume_of w) r out') (ok-given x.result n g)
            (subst (λ (v : Loaded). images.Saves v.limiter lent.tables v.peers lent.peer_tables w.out x.result out')
            (λ i. record { limiter = limiter-lent w.lent.limiter b.limiter long.0 i; peers = peers-lent w.lent.peers b.peers long.1 i })
            x.kept),
        ap (λ (ws : List ℕ). get_or ws 0 0)
            (x.answer ∙ ap (λ (y : Answer ℕ). answer_put one_word y w.answer) g ∙ paste-front (n ∷ []) w.answer),
      )

-- ---- and the load after it

-- both are `run`'s, of the value y, whose words the load wrote
pub record AsRun (b : Buffers) (w : Resume) (b' : Buffers) : Type 0 where
  pub y : Loaded
  pub limiter : b'.limiter ≡ paste 0 (limiter_words y.limiter) w.into.limiter
  pub peers : b'.peers ≡ paste 0 (peers_words y.peers) w.into.peers
  pub long : 16 ≤ length w.into.limiter
  pub peers_long : 3 ≤ length w.into.peers
  pub resumes :
      run.Resumes (values_of b) (resume_of w)
      (record { limiter = y.limiter; tables = b'.tables; peers = y.peers; peer_tables = b'.peer_tables })

pub resumes-as-run : {b b' : Buffers} {s : State} (w : Resume) → Stands b s → Resumes b w b' → AsRun b w b'
resumes-as-run {b} {b'} w st (Resumes.saved_and_loaded {out' = out'} {answer' = answer'} saves loads) =
    let v = save-is w st saves in
    let x = w.into in
    let a = zero-passed (room_asked (leb 16 (length x.limiter) && leb 3 (length x.peers))) (lit< tt, tt) loads in
    let n = both_long 16 (length x.limiter) 3 (length x.peers) (room-told _ a.0) in
    let bs : List ℕ = take (get_or answer' 0 0) out' in
    let y : Loaded = images.values_of (state_read bs) in
    let g : answer_of a.1.result ≡ given y =
    zero-given y (images.load_questions bs x.tables x.peer_tables) (answer_of a.1.result) (lit< tt, (lit< tt, tt)) a.1.kept.answered
    a.1.put.number in
    let k : images.Loads (take v.0 out') x.tables x.peer_tables (Ok y) b'.tables b'.peer_tables =
    subst (λ (m : ℕ). images.Loads (take m out') x.tables x.peer_tables (Ok y) b'.tables b'.peer_tables) v.2
    (subst (λ (r : Result Loaded Refusal). images.Loads bs x.tables x.peer_tables r b'.tables b'.peer_tables) (ok-given a.1.result y g) a.1.kept) in
    record {
      y = y;
      limiter = a.1.put.limiter ∙ ap (λ (z : Answer Loaded). answer_put loaded_limiter z x.limiter) g;
      peers = a.1.put.peers ∙ ap (λ (z : Answer Loaded). answer_put loaded_peers z x.peers) g;
      long = n.0;
      peers_long = n.1;
      resumes = run.Resumes.saved_and_loaded v.1 k;
    }

pub resumes-stand : (b b' : Buffers) (s : State) (w : Resume) → Stands b s → Resumes b w b' → Stands b' s
resumes-stand b b' s w st d =
    let z = resumes-as-run w st d in
    words-stand b' z.y.limiter z.y.peers w.into.limiter w.into.peers z.long z.peers_long z.limiter z.peers
    (values.resumes-stand (values_of b) _ s (resume_of w) st.values z.resumes)

-- ---- the runs

pub resumed-shows :
    {b last : Buffers} {s : State} (ms : List Move) {ys : List Shown} → all typed_move ms ≡ true → Stands b s → Resumed b ms ys last
    → (ys ≡ shown_by s ms) × Stands last (state_after s ms)
resumed-shows ms w st u = run-shows Resumes resumes-stand ms w st u

pub resumed-same :
    {b u v : Buffers} {s : State} (ms : List Move) {xs ys : List Shown} → all typed_move ms ≡ true → Stands b s → Unbroken b ms xs u → Resumed b ms ys v
    → ys ≡ xs
resumed-same ms w st u v = (resumed-shows ms w st v).0 ∙ sym (unbroken-shows ms w st u).0
