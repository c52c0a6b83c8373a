-- A valid state is saved and its image is loaded where there is room, as that state, whatever the lent tables held.
use Rattle.records.specs.Records.{records}
use Rattle.records.proofs.Words.RecordLaws.{record-at}
use Prim.Native.Nat.{ℕ, ◌≤◌, ◌+◌, ◌*◌, ◌<◌}
use mathlib.Core.Path.{◌≡◌, refl, sym, ap, ◌∙◌}
use mathlib.Core.Bool.{true, ◌&&◌}
use mathlib.Core.List.{List, [], ◌++◌}
use native.Mathlib.Omega.{arith}
use borrow.Author.Tests.{le-leb}
use lib.Dec.{leb, lit<}
use lib.ListN.{length, take, drop, get_or, get_or-map}
use lib.Seq.{take_at, drop-drop}
use Rattle.questions.proofs.Tests.{both, and_intro}
use Rattle.questions.specs.Questions.{passes, given}
use Rattle.questions.proofs.Answers.{given-passed, answer-passed, changed-passed}
use Rattle.peers.specs.declared.peer_demand.PeerDemand.{PeerDemand}
use Rattle.peers.specs.Peers.State as peer-state
use Rattle.peers.specs.Peers.State.{PeerTables}
use Rattle.limiter.specs.declared.Limiter.{Limiter}
use Rattle.limiter.specs.State as limiter-state
use Rattle.limiter.specs.State.{LimiterTables, lengths, settings_words, units_of}
use Rattle.image.specs.declared.Loaded.{Loaded}
use Rattle.image.specs.Image.{State, valid, sections, image}
use Rattle.image.specs.Calls.{here, have_room, load_questions, values_of, save_questions, Saves, Loads}
use Rattle.image.specs.Reader.{word_at, begins, first_words, sections_first, rows_of, is_image, number, word_count}
use Rattle.image.proofs.Reading.RecordLaws.{first-row}
use Rattle.image.proofs.Reading.ParseLaws.{sections-read, image-passes, state-read}
use Rattle.std.specs.declared.result.Result.{Result}
use Rattle.std.specs.declared.result.Result.TheVariants.{Ok, Err}
use Rattle.questions.specs.declared.Refusal.{Refusal}
use Rattle.questions.specs.Refusals.{answer_of}

-- ---- question 1 of a load

-- word i of the first record
word-at : (kind : ℕ) (bs : List ℕ) (i : ℕ) → i < word_count kind → get_or (first_words kind bs) i 0 ≡ word_at bs i
unfolding first_words number
word-at kind bs i h =
    get_or-map number (records 8 (word_count kind) (drop 3 bs)) i []
    ∙ ap number (record-at 8 (word_count kind) (drop 3 bs) i h ∙ ap (take 8) (drop-drop (i * 8) 3 bs ∙ ap (λ (k : ℕ). drop k bs) (let z : 3 + i * 8 ≡ 3 + 8 * i = omega arith in z)))

module _ (s : State) (e : valid s ≡ true) where
  -- the record of kind 1 comes first, with the words of the settings
  settings-first : (begins 1 (image s) ≡ true) × (first_words 1 (image s) ≡ settings_words s.limiter.settings)
  unfolding sections_first sections
  settings-first = first-row (length (image s)) 1 (image s) (settings_words s.limiter.settings) [] (ap (rows_of 1) (sections-read s e))

  -- so its sizes are read
  sizes-read : (word_at (image s) 8 ≡ s.limiter.settings.config.table_size) × (word_at (image s) 5 ≡ s.limiter.settings.config.hot_set_size)
  unfolding settings_words
  sizes-read = (
    sym (word-at 1 (image s) 8 (lit< tt)) ∙ ap (λ (ws : List ℕ). get_or ws 8 0) settings-first.1,
    sym (word-at 1 (image s) 5 (lit< tt)) ∙ ap (λ (ws : List ℕ). get_or ws 5 0) settings-first.1,
  )

  -- an image's sizes are read, and decide question 1 as the settings' do
  pub room-of-image : (t : LimiterTables) (pt : PeerTables) → have_room (image s) t pt ≡ (limiter-state.have_room s.limiter.settings.config (lengths t) && peer-state.have_room (peer-state.lengths pt))
  unfolding have_room
  room-of-image t pt = rw (settings-first.0, sizes-read.0, sizes-read.1)

-- ---- `load`

module _ (s : State) (e : valid s ≡ true) (t : LimiterTables) (pt : PeerTables) where
  -- a load of its image that is not refused makes that state
  pub loaded :
      {x : Loaded} {t' : LimiterTables} {pt' : PeerTables} → Loads (image s) t pt (Ok x) t' pt'
      → (x ≡ values_of s) × (t' ≡ limiter-state.written (units_of s.limiter.settings) s.limiter t) × (pt' ≡ peer-state.written s.peers pt)
  loaded c =
      let p = given-passed (load_questions (image s) t pt) _ _ c.answered in (
        p.1 ∙ ap values_of (state-read s e),
        c.words ∙ sym (changed-passed _ t (load_questions (image s) t pt) p.0) ∙ ap (λ (x : State). limiter-state.written (units_of x.limiter.settings) x.limiter t) (state-read s e),
        c.peer_words ∙ sym (changed-passed _ pt (load_questions (image s) t pt) p.0) ∙ ap (λ (x : State). peer-state.written x.peers pt) (state-read s e),
      )

  -- where there is room
  module _ (room : have_room (image s) t pt ≡ true) where
    load-passes : passes (load_questions (image s) t pt) ≡ true
    unfolding passes
    load-passes = and_intro (have_room (image s) t pt) _ room (and_intro (is_image (image s)) _ (image-passes s e) refl)

    -- it is not refused
    pub load-served : {t' : LimiterTables} {pt' : PeerTables} (r : Result Loaded Refusal) → Loads (image s) t pt r t' pt' → (x : Loaded) × (r ≡ Ok x)
    load-served r c = by r (c.answered ∙ sym (answer-passed _ (load_questions (image s) t pt) load-passes))
      where
        by : {v : Loaded} (r : Result Loaded Refusal) → answer_of r ≡ given v → (x : Loaded) × (r ≡ Ok x)
        by (Err n) z = let y : ◌≡◌ {A = ℕ} 0 1 = cc in absurd (omega arith)
        by (Ok x) z = (x, refl)

    -- and a load can keep its promise
    pub can-load : Loads (image s) t pt (Ok (values_of s)) (limiter-state.written (units_of s.limiter.settings) s.limiter t) (peer-state.written s.peers pt)
    can-load =
        record {
          answered = ap (λ (x : State). given (values_of x)) (sym (state-read s e)) ∙ answer-passed _ (load_questions (image s) t pt) load-passes;
          words = ap (λ (x : State). limiter-state.written (units_of x.limiter.settings) x.limiter t) (sym (state-read s e)) ∙ changed-passed _ t (load_questions (image s) t pt) load-passes;
          peer_words = ap (λ (x : State). peer-state.written x.peers pt) (sym (state-read s e)) ∙ changed-passed _ pt (load_questions (image s) t pt) load-passes;
        }

-- ---- `save`

-- what a save that is not refused says: there is room, and the bytes written are the state's image
pub record Saved (l : Limiter) (t : LimiterTables) (pt : PeerTables) (s : State) (size : ℕ) (out' : List ℕ) : Type 0 where
  pub room : (limiter-state.have_room l.config (lengths t) && peer-state.have_room (peer-state.lengths pt)) ≡ true
  pub bytes : take size out' ≡ image s

module _ (l : Limiter) (t : LimiterTables) (p : PeerDemand) (pt : PeerTables) (out out' : List ℕ) where
  -- past the questions there was room
  saved-room : passes (save_questions l t p pt out) ≡ true → (limiter-state.have_room l.config (lengths t) && peer-state.have_room (peer-state.lengths pt)) ≡ true
  unfolding passes
  saved-room e = (both (limiter-state.have_room l.config (lengths t) && peer-state.have_room (peer-state.lengths pt)) _ e).0

  -- a save that is not refused wrote the image
  pub saved : (size : ℕ) → Saves l t p pt out (Ok size) out' → Saved l t pt (here l t p pt) size out'
  saved size c =
      let q = given-passed (save_questions l t p pt out) size (length (image (here l t p pt))) c.answered in
      record {
        room = saved-room q.0;
        bytes =
            ap (take size) (c.output ∙ sym (changed-passed _ out (save_questions l t p pt out) q.0))
            ∙ take_at (image (here l t p pt)) _ size (sym q.1);
      }

  -- a valid state is saved where there is room (1, 16)
  module _ (room : (limiter-state.have_room l.config (lengths t) && peer-state.have_room (peer-state.lengths pt)) ≡ true) (a : limiter-state.is_valid (limiter-state.units_in l) l t ≡ true) (b : peer-state.is_valid p pt ≡ true) (h : length (image (here l t p pt)) ≤ length out) where
    abbrev size : ℕ
    size = length (image (here l t p pt))

    save-passes : passes (save_questions l t p pt out) ≡ true
    unfolding passes
    save-passes =
        and_intro (limiter-state.have_room l.config (lengths t) && peer-state.have_room (peer-state.lengths pt)) _ room
        (and_intro (limiter-state.is_valid (limiter-state.units_in l) l t && peer-state.is_valid p pt) _ (and_intro (limiter-state.is_valid (limiter-state.units_in l) l t) _ a b)
        (and_intro (leb size (length out)) _ (le-leb size (length out) h) refl))

    pub save-served : (r : Result ℕ Refusal) → Saves l t p pt out r out' → r ≡ Ok size
    save-served r c = by r (c.answered ∙ sym (answer-passed size (save_questions l t p pt out) save-passes))
      where
        by : (r : Result ℕ Refusal) → answer_of r ≡ given size → r ≡ Ok size
        by (Err n) z = let y : ◌≡◌ {A = ℕ} 0 1 = cc in absurd (omega arith)
        by (Ok n) z = let y : n ≡ size = cc in ap Ok y

    -- so a save can keep its promise
    pub can-save : Saves l t p pt out (Ok size) (image (here l t p pt) ++ drop size out)
    can-save = record { answered = answer-passed size (save_questions l t p pt out) save-passes; output = changed-passed (image (here l t p pt) ++ drop size out) out (save_questions l t p pt out) save-passes }
