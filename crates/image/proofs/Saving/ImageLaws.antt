-- Where questions 1 and 2 are passed, the bytes that `save` writes from the tables are the state's image; and what `save` answers.
use Prim.Native.Nat.{ℕ, ◌+◌, ◌≤◌, ◌<◌}
use mathlib.Core.Path.{◌≡◌, refl, sym, ap, ◌∙◌}
use mathlib.Core.Bool.{true, ◌&&◌}
use mathlib.Core.List.{List, [], ◌∷◌, ◌++◌, map, append_assoc, append-nil}
use native.Mathlib.Nat.{zero-add}
use native.Mathlib.Omega.{arith}
use borrow.Author.Tests.{le-leb, lt-leb}
use lib.Dec.{leb, lit<}
use lib.ListN.{length, drop, length-append, length-map}
use Rattle.records.specs.Words.{paste}
use Rattle.records.specs.Records.{records, flat}
use Rattle.records.proofs.Words.RecordLaws.{length-records}
use Rattle.questions.proofs.Tests.{both}
use Rattle.questions.specs.Questions.{◌asks◌, given, passes, first_no}
use Rattle.questions.proofs.Answers.{first-no, first-yes, first-none, first_more, first_rest, answer-passed, answer-no, changed-passed, kept-no, passed_none}
use Rattle.peers.specs.declared.peer_demand.PeerDemand.{PeerDemand}
use Rattle.hot.specs.HotSet.Set as hot-set
use Rattle.peers.specs.Peers.Records.{peer_of, snapshot_key_of, contested_of}
use Rattle.peers.specs.Peers.State as peer-state
use Rattle.peers.specs.Peers.State.{PeerTables}
use Rattle.records.specs.Typed.{exact}
use Rattle.records.proofs.Tables.TypedLaws.{words-of-exact}
use Rattle.peers.proofs.Peers.Reports.KeptLaws.{few_keys, few-contested}
use Rattle.peers.proofs.Peers.Reports.ApplyLaws.{Tables, tables-of}
use Rattle.limiter.specs.declared.Limiter.{Limiter}
use Rattle.limiter.specs.State as limiter-state
use Rattle.limiter.specs.State.{LimiterTables, lengths, key_words, key_of, shadow_words, shadow_of, settings_words, settings_of}
use Rattle.limiter.specs.Calls.{both_questions}
use Rattle.limiter.proofs.States.StateValidLaws.{valid-says, sizes-say, few-shadows}
use Rattle.limiter.proofs.States.WrittenLaws.{room_says}
use Rattle.image.specs.Image.{image, sections, record_count, record_bytes}
use Rattle.image.specs.Calls.{here, save_questions, Saves}
use Rattle.image.specs.Steps.{table_bytes, limiter_bytes, limiter_length, LimiterReady, peers_bytes, peers_length, PeersReady, Few, count_of, image_length, image_bytes}
use Rattle.image.proofs.Saving.PutLaws.{length-record-bytes}
use Rattle.image.proofs.Saving.SaveLaws.{length-limiter-bytes, length-peers-bytes, still, pasted}
use Rattle.std.specs.declared.result.Result.TheVariants.{Ok, Err}
use Rattle.questions.specs.Refusals.{number}
use Rattle.questions.specs.declared.Refusal.{Refusal}
use Rattle.questions.proofs.RefusalLaws.{number-nonzero}
use Rattle.questions.specs.declared.Refusal.TheVariants.{ShortOutput}

-- ---- the tables' records are the state's

-- the records in use, as the words of what they stand for
pub record LimiterRows (l : Limiter) (t : LimiterTables) : Type 0 where
  pub keys : map (key_words (limiter-state.units_in l)) (limiter-state.state_of (limiter-state.units_in l) l t).keys ≡ records 22 l.keys t.keys
  pub hot : map hot-set.words (limiter-state.state_of (limiter-state.units_in l) l t).hot ≡ records 6 l.hot t.hot
  pub shadows : map (shadow_words (limiter-state.units_in l)) (limiter-state.state_of (limiter-state.units_in l) l t).shadows ≡ records 4 l.shadows t.shadows

limiter-rows : (l : Limiter) (t : LimiterTables) → limiter-state.are_exact (limiter-state.units_in l) l t ≡ true → LimiterRows l t
unfolding limiter-state.are_exact limiter-state.state_of hot-set.entries
limiter-rows l t e =
    let a = both (exact (key_words (limiter-state.units_in l)) (key_of (limiter-state.units_in l)) (records 22 l.keys t.keys)) _ e in
    let b = both (exact hot-set.words hot-set.entry (records 6 l.hot t.hot)) _ a.1 in
    record {
      keys = words-of-exact (key_words (limiter-state.units_in l)) (key_of (limiter-state.units_in l)) (records 22 l.keys t.keys) a.0;
      hot = words-of-exact hot-set.words hot-set.entry (records 6 l.hot t.hot) b.0;
      shadows = words-of-exact (shadow_words (limiter-state.units_in l)) (shadow_of (limiter-state.units_in l)) (records 4 l.shadows t.shadows) b.1;
    }

-- the bytes of seven sections and of the end, the first four and the next three together
flat-sections : (a b c d e f g end : List ℕ) → ((a ++ []) ++ (b ++ (c ++ (d ++ (e ++ (f ++ (g ++ []))))))) ++ end ≡ (a ++ (b ++ (c ++ d))) ++ ((e ++ (f ++ g)) ++ end)
flat-sections a b c d e f g end = simp (append_assoc, append-nil)

-- what holds where questions 1 and 2 are passed
pub record Ready (l : Limiter) (t : LimiterTables) (p : PeerDemand) (pt : PeerTables) : Type 0 where
  pub few : Few l p
  pub limiter : LimiterReady l t
  pub peers : PeersReady p pt
  pub written : image (here l t p pt) ≡ image_bytes l t p pt

module _ (l : Limiter) (t : LimiterTables) (p : PeerDemand) (pt : PeerTables) where
  -- the records that the image counts
  counted : LimiterRows l t → Tables p pt → record_count (sections (here l t p pt)) ≡ count_of l p
  unfolding sections record_count peer-state.state_of limiter-state.state_of
  counted r o =
      omega (
        arith,
        ap length r.keys ∙ length-records 22 l.keys t.keys,
        ap length r.hot ∙ length-records 6 l.hot t.hot,
        ap length r.shadows ∙ length-records 4 l.shadows t.shadows,
        ap length (sym o.peers_exact) ∙ length-records 12 p.peers pt.peers,
        ap length (sym o.keys_exact) ∙ length-records 4 p.snapshot_keys pt.snapshot_keys,
        ap length (sym o.contested_exact) ∙ length-records 6 p.contested pt.contested,
      )

  as_written : LimiterRows l t → Tables p pt → image (here l t p pt) ≡ image_bytes l t p pt
  unfolding image image_bytes limiter_bytes peers_bytes table_bytes sections flat peer-state.state_of limiter-state.state_of
  as_written r o =
      let rows : ℕ → List (List ℕ) → List ℕ = λ kind rs. flat (map (record_bytes kind) rs) in
      let ws = settings_words (settings_of l) in
      (λ i.
      ((record_bytes 1 ws ++ [])
      ++ (rows 2 (r.keys i)
      ++ (rows 3 (r.hot i)
      ++ (rows 4 (r.shadows i)
      ++ (rows 5 (sym o.peers_exact i)
      ++ (rows 6 (sym o.keys_exact i)
      ++ (rows 7 (sym o.contested_exact i)
      ++ [])))))))
      ++ record_bytes 0 (counted r o i ∷ []))
      ∙ flat-sections (record_bytes 1 ws) (table_bytes 2 l.keys t.keys) (table_bytes 3 l.hot t.hot) (table_bytes 4 l.shadows t.shadows) (table_bytes 5 p.peers pt.peers) (table_bytes 6 p.snapshot_keys pt.snapshot_keys) (table_bytes 7 p.contested pt.contested) (record_bytes 0 (count_of l p ∷ []))

  -- the limiter's part of what was asked
  limiter-ready : limiter-state.have_room l.config (lengths t) ≡ true → limiter-state.valid (limiter-state.units_in l) (limiter-state.state_of (limiter-state.units_in l) l t) ≡ true → (l.keys ≤ 4096) × (l.hot ≤ 64) × (l.shadows ≤ 4096) × LimiterReady l t
  unfolding limiter-state.state_of hot-set.entries
  limiter-ready room e =
      let s = limiter-state.state_of (limiter-state.units_in l) l t in
      let v = valid-says (limiter-state.units_in l) s e in
      let z = sizes-say l.config v.settings.config.sizes in
      let r = room_says l.config (lengths t) room in
      let nk : length s.keys ≡ l.keys = length-map (records 22 l.keys t.keys) (key_of (limiter-state.units_in l)) ∙ length-records 22 l.keys t.keys in
      let nh : length s.hot ≡ l.hot = length-map (records 6 l.hot t.hot) hot-set.entry ∙ length-records 6 l.hot t.hot in
      let ns : length s.shadows ≡ l.shadows = length-map (records 4 l.shadows t.shadows) (shadow_of (limiter-state.units_in l)) ∙ length-records 4 l.shadows t.shadows in
      let fk : l.keys ≤ l.config.table_size = omega (arith, nk, v.few) in
      let fh : l.hot ≤ l.config.hot_set_size = omega (arith, nh, v.hot_few) in
      let fs : l.shadows ≤ l.config.table_size = omega (arith, ns, nk, few-shadows (limiter-state.units_in l) s v, v.few) in (
        omega (arith, z.most_held, fk),
        omega (arith, z.most_hot, fh),
        omega (arith, z.most_held, fs),
        record {
          keys = omega (arith, z.most_held, fk, r.for_keys);
          hot = omega (arith, z.most_hot, fh, r.for_hot);
          shadows = omega (arith, z.most_held, fs, r.for_shadows);
        },
      )

  -- and the peers'
  peers-ready : Tables p pt → (p.peers ≤ 32) × (p.snapshot_keys ≤ 2048) × (p.contested ≤ 8192) × PeersReady p pt
  unfolding peer-state.state_of
  peers-ready o =
      let s = peer-state.state_of p pt in
      let np : length s.peers ≡ p.peers = length-map (records 12 p.peers pt.peers) peer_of ∙ length-records 12 p.peers pt.peers in
      let nk : length s.snapshot_keys ≡ p.snapshot_keys = length-map (records 4 p.snapshot_keys pt.snapshot_keys) snapshot_key_of ∙ length-records 4 p.snapshot_keys pt.snapshot_keys in
      let nc : length s.contested ≡ p.contested = length-map (records 6 p.contested pt.contested) contested_of ∙ length-records 6 p.contested pt.contested in
      let fp : p.peers ≤ 32 = omega (arith, np, o.valids.few_peers) in
      let fk : p.snapshot_keys ≤ 2048 = omega (arith, nk, few_keys s o.valids) in
      let fc : p.contested ≤ 8192 = omega (arith, nc, few-contested s o.valids) in
      (fp, fk, fc, record { peers = omega (arith, fp, o.roomy.peers); keys = omega (arith, fk, o.roomy.snapshot_keys); contested = omega (arith, fc, o.roomy.contested) })

  -- questions 1 and 2
  pub ready : first_no (both_questions l t p pt) ≡ 0 → Ready l t p pt
  unfolding passes limiter-state.is_valid
  ready e =
      let q = passed_none (both_questions l t p pt) 0 (lit< tt, (lit< tt, tt)) (sym e) refl in
      let a = both (limiter-state.have_room l.config (lengths t) && peer-state.have_room (peer-state.lengths pt)) _ q in
      let b = (both (limiter-state.is_valid (limiter-state.units_in l) l t && peer-state.is_valid p pt) true a.1).0 in
      let room = both (limiter-state.have_room l.config (lengths t)) _ a.0 in
      let fine = both (limiter-state.is_valid (limiter-state.units_in l) l t) _ b in
      let lv = both (limiter-state.are_exact (limiter-state.units_in l) l t) _ fine.0 in
      let o = tables-of p pt room.1 fine.1 in
      let x = limiter-ready room.0 lv.1 in
      let y = peers-ready o in
      record {
        few = record { keys = x.0; hot = x.1; shadows = x.2; peers = y.0; snapshot-keys = y.1; contested = y.2 };
        limiter = x.3;
        peers = y.3;
        written = as_written (limiter-rows l t lv.0) o;
      }

-- ---- what `save` answers and leaves

module _ (l : Limiter) (t : LimiterTables) (p : PeerDemand) (pt : PeerTables) (out : List ℕ) where
  pub saves-no : (x : Refusal) → number x ≡ first_no (both_questions l t p pt) → Saves l t p pt out (Err x) out
  saves-no x e =
      let n = number x in
      let h = number-nonzero x in
      let k : n ≡ first_no (save_questions l t p pt out) = first_more (both_questions l t p pt) _ n e h in
      record { answered = answer-no _ (save_questions l t p pt out) n k h; output = kept-no _ out (save_questions l t p pt out) n k h }

  -- questions 1 and 2 are passed, so 16 is the first that may be a 'no'
  module _ (asked : first_no (both_questions l t p pt) ≡ 0) where
    last-asked : first_no ((16 asks leb (length (image (here l t p pt))) (length out)) ∷ []) ≡ first_no (save_questions l t p pt out)
    last-asked = first_rest (both_questions l t p pt) _ (passed_none (both_questions l t p pt) 0 (lit< tt, (lit< tt, tt)) (sym asked) refl)

    length-image : length (image (here l t p pt)) ≡ image_length l p
    unfolding image_bytes
    length-image =
        let r = ready l t p pt asked in
        ap length r.written
        ∙ length-append (limiter_bytes l t) _
        ∙ ap (λ (n : ℕ). length (limiter_bytes l t) + n) (length-append (peers_bytes p pt) _)
        ∙ omega (arith, length-limiter-bytes l t r.limiter, length-peers-bytes p pt r.peers, length-record-bytes 0 1 (count_of l p ∷ []) refl)

    pub saves-short : length out < image_length l p → Saves l t p pt out (Err ShortOutput) out
    saves-short h =
        let f = lt-leb (length (image (here l t p pt))) (length out) (omega (arith, length-image)) in
        let k = first-no 16 [] f ∙ last-asked in
        let z : ◌≡◌ {A = ℕ} 16 0 → ⊥ = λ e. omega arith in
        record { answered = answer-no _ (save_questions l t p pt out) 16 k z; output = kept-no _ out (save_questions l t p pt out) 16 k z }

    pub saves-done : (n : ℕ) (out' : List ℕ) → n ≡ image_length l p → image_length l p ≤ length out → out' ≡ paste 0 (image_bytes l t p pt) out → Saves l t p pt out (Ok n) out'
    unfolding paste
    saves-done n out' e h o =
        let f = le-leb (length (image (here l t p pt))) (length out) (omega (arith, length-image)) in
        let q = passed_none (save_questions l t p pt out) 0 (lit< tt, (lit< tt, (lit< tt, tt))) (first-yes 16 [] f first-none ∙ last-asked) refl in
        let x = image_bytes l t p pt in
        record {
          answered = ap given (e ∙ sym length-image) ∙ answer-passed _ (save_questions l t p pt out) q;
          output =
              o
              ∙ ap (λ (k : ℕ). x ++ drop k out) (zero-add (length x))
              ∙ ap (λ (y : List ℕ). y ++ drop (length y) out) (sym (ready l t p pt asked).written)
              ∙ changed-passed _ out (save_questions l t p pt out) q;
        }

    -- the three parts, one after the other
    pub image-pasted :
        (a b : ℕ) (x y z : List ℕ)
        → image_length l p ≤ length out
        → a ≡ limiter_length l
        → b ≡ a + peers_length p
        → x ≡ paste 0 (limiter_bytes l t) out
        → y ≡ paste a (peers_bytes p pt) x
        → z ≡ paste b (record_bytes 0 (count_of l p ∷ [])) y
        → z ≡ paste 0 (image_bytes l t p pt) out
    unfolding image_bytes
    image-pasted a b x y z h ea eb ex ey ez =
        let r = ready l t p pt asked in
        let lx = length-limiter-bytes l t r.limiter in
        let ly = length-peers-bytes p pt r.peers in
        let s = still 0 _ _ out x lx (omega arith) ex in
        pasted 0 a _ _ _ out x z lx (ea ∙ sym (zero-add _)) (omega arith) ex (pasted a b _ _ _ x y z ly eb (omega arith) ey ez)
