-- What `load` answers and leaves: refused for want of room, refused as no image, or stored.
use Prim.Native.Nat.{ℕ}
use mathlib.Core.Path.{◌≡◌, refl, sym, ap, ◌∙◌}
use mathlib.Core.Bool.{Bool, true, false, cond, ◌&&◌}
use mathlib.Core.List.{List, [], ◌∷◌}
use native.Mathlib.Omega.{arith}
use lib.ListN.{length, length-map}
use Rattle.questions.proofs.Tests.{both, and_first, and_second}
use Rattle.questions.specs.Questions.{◌asks◌, refused, given, answer, passes}
use Rattle.questions.proofs.Answers.{no, yes, given-passed}
use Rattle.hot.specs.HotSet.Set as hot-set
use Rattle.peers.specs.Peers.Records.{peer_of, snapshot_key_of, contested_of}
use Rattle.peers.specs.Peers.State as peer-state
use Rattle.peers.specs.Peers.State.{PeerTables}
use Rattle.peers.proofs.Peers.Reports.KeptLaws as peer-laws
use Rattle.peers.proofs.Peers.Validity.ValidLaws as peer-room
use Rattle.limiter.specs.State as limiter-state
use Rattle.limiter.specs.State.{LimiterTables, lengths, key_of, shadow_of, units_of}
use Rattle.limiter.proofs.States.StateValidLaws.{valid-says, sizes-say, few-shadows}
use Rattle.limiter.proofs.States.WrittenLaws.{room_says}
use Rattle.image.specs.declared.Loaded.{Loaded}
use Rattle.image.specs.declared.scan.Sections.{Sections}
use Rattle.image.specs.Image.{valid, record_count, kinds}
use Rattle.image.specs.Reader.{sections_first, rows_of, state_from, state_read, are_exact, is_end, is_byte, is_image, is_image_to, after_sections, units_in}
use Rattle.image.specs.Calls.{have_room, load_questions, values_of, Loads}
use Rattle.image.specs.Steps.{Scans, Fits, Stores}
use Rattle.image.specs.LoadSteps.{image_questions, room_for}
use Rattle.questions.specs.Lists.{all}
use Rattle.image.proofs.Reading.ParseLaws.{passes-image}
use Rattle.image.proofs.Loading.LoadLaws.{room-of-image}
use Rattle.image.proofs.Loading.JudgeLaws.{rows-found, length-rows-at}
use Rattle.image.proofs.Loading.StoredLaws.{stored}
use Rattle.std.specs.declared.result.Result.TheVariants.{Ok, Err}
use Rattle.questions.specs.Refusals.{number}
use Rattle.questions.specs.declared.Refusal.{Refusal}
use Rattle.questions.specs.declared.Refusal.TheVariants.{ShortBuffer}

-- an image's records are exact
image-exact : (bs : List ℕ) → is_image bs ≡ true → are_exact (sections_first kinds bs) ≡ true
unfolding is_image_to
image-exact bs e =
    let a = (both (all is_byte bs) _ e).1 in
    let b = (both (is_end (record_count (sections_first kinds bs)) (after_sections kinds bs)) _ a).1 in
    (both (are_exact (sections_first kinds bs)) _ b).0

module _ (bs : List ℕ) (t : LimiterTables) (pt : PeerTables) where
  -- no room
  pub refused-room : have_room bs t pt ≡ false → Loads bs t pt (Err ShortBuffer) t pt
  unfolding passes
  refused-room e =
      let p : passes (load_questions bs t pt) ≡ false = and_first (have_room bs t pt) _ e in
      record {
        answered = no 1 _ _ e;
        words = sym (ap (λ (b : Bool). cond b (limiter-state.written (units_of (state_read bs).limiter.settings) (state_read bs).limiter t) t) p);
        peer_words = sym (ap (λ (b : Bool). cond b (peer-state.written (state_read bs).peers pt) pt) p);
      }

  module _ (room : have_room bs t pt ≡ true) where
    -- a 'no' to 13 says that it is no image
    no-image : (n : ℕ) → refused n ≡ answer (image_questions bs) (values_of (state_read bs)) → is_image bs ≡ false
    unfolding answer
    no-image n e = by (is_image bs) e
      where
        by : (b : Bool) → refused n ≡ answer ((13 asks b) ∷ []) (values_of (state_read bs)) → b ≡ false
        by true z = let y : ◌≡◌ {A = ℕ} 0 1 = cc in absurd (omega arith)
        by false z = refl

    pub refused-image : (n : Refusal) → refused (number n) ≡ answer (image_questions bs) (values_of (state_read bs)) → Loads bs t pt (Err n) t pt
    unfolding passes
    refused-image n e =
        let p : passes (load_questions bs t pt) ≡ false = and_second (have_room bs t pt) _ (and_first (is_image bs) _ (no-image (number n) e)) in
        record {
          answered = yes 1 _ _ room e;
          words = sym (ap (λ (b : Bool). cond b (limiter-state.written (units_of (state_read bs).limiter.settings) (state_read bs).limiter t) t) p);
          peer_words = sym (ap (λ (b : Bool). cond b (peer-state.written (state_read bs).peers pt) pt) p);
        }

    -- an answer says that it is one
    module _ (x : Loaded) (e : given x ≡ answer (image_questions bs) (values_of (state_read bs))) (f : Sections) (r : Scans bs f) where
      is-image : is_image bs ≡ true
      unfolding passes
      is-image = (both (is_image bs) true (given-passed (image_questions bs) x (values_of (state_read bs)) e).0).0

      -- whose records are within the tables
      pub image-fits : Fits f t pt
      unfolding valid state_from
      image-fits =
          let v = passes-image bs is-image in
          let s = state_from (sections_first kinds bs) in
          let m = sym (room-of-image s v.0 t pt) ∙ ap (λ (b : List ℕ). have_room b t pt) v.1 ∙ room in
          let w = both (limiter-state.have_room s.limiter.settings.config (lengths t)) _ m in
          let o = room_says s.limiter.settings.config (lengths t) w.0 in
          let po = peer-room.room_says pt w.1 in
          let b = both (limiter-state.valid (units_of s.limiter.settings) s.limiter) _ v.0 in
          let l = valid-says (units_of s.limiter.settings) s.limiter b.0 in
          let z = sizes-say s.limiter.settings.config l.settings.config.sizes in
          let p = peer-laws.valid-says s.peers b.1 in
          let n₁ : length s.limiter.keys ≡ f.keys.n = length-map (rows_of 2 (sections_first kinds bs)) (key_of (units_in (sections_first kinds bs))) ∙ ap length (rows-found bs f r 2) ∙ length-rows-at 2 _ _ in
          let n₂ : length s.limiter.hot ≡ f.hot.n = length-map (rows_of 3 (sections_first kinds bs)) hot-set.entry ∙ ap length (rows-found bs f r 3) ∙ length-rows-at 3 _ _ in
          let n₃ : length s.limiter.shadows ≡ f.shadows.n = length-map (rows_of 4 (sections_first kinds bs)) (shadow_of (units_in (sections_first kinds bs))) ∙ ap length (rows-found bs f r 4) ∙ length-rows-at 4 _ _ in
          let n₄ : length s.peers.peers ≡ f.peers.n = length-map (rows_of 5 (sections_first kinds bs)) peer_of ∙ ap length (rows-found bs f r 5) ∙ length-rows-at 5 _ _ in
          let n₅ : length s.peers.snapshot_keys ≡ f.snapshot_keys.n = length-map (rows_of 6 (sections_first kinds bs)) snapshot_key_of ∙ ap length (rows-found bs f r 6) ∙ length-rows-at 6 _ _ in
          let n₆ : length s.peers.contested ≡ f.contested.n = length-map (rows_of 7 (sections_first kinds bs)) contested_of ∙ ap length (rows-found bs f r 7) ∙ length-rows-at 7 _ _ in
          record {
            keys = omega (arith, n₁, l.few, z.most_held, o.for_keys);
            hot = omega (arith, n₂, l.hot_few, z.most_hot, o.for_hot);
            shadows = omega (arith, n₃, few-shadows (units_of s.limiter.settings) s.limiter l, l.few, z.most_held, o.for_shadows);
            peers = omega (arith, n₄, p.few_peers, po.peers);
            snapshot-keys = omega (arith, n₅, peer-laws.few_keys s.peers p, po.snapshot_keys);
            contested = omega (arith, n₆, peer-laws.few-contested s.peers p, po.contested);
          }

      -- stored, the tables hold its state
      pub image-loaded : (t' : LimiterTables) (pt' : PeerTables) → Stores bs f t pt t' pt' → Loads bs t pt (Ok x) t' pt'
      unfolding passes state_read
      image-loaded t' pt' o =
          let w = stored bs f r t t' pt pt' o (image-exact bs is-image) in
          let p : passes (load_questions bs t pt) ≡ true = ap (λ (b : Bool). b && (is_image bs && true)) room ∙ ap (λ (b : Bool). b && true) is-image in
          record {
            answered = yes 1 _ _ room e;
            words = w.0 ∙ sym (ap (λ (b : Bool). cond b (limiter-state.written (units_of (state_read bs).limiter.settings) (state_read bs).limiter t) t) p);
            peer_words = w.1 ∙ sym (ap (λ (b : Bool). cond b (peer-state.written (state_read bs).peers pt) pt) p);
          }

-- question 1 by the tables' lengths
pub room-is :
    (bs : List ℕ) (t : LimiterTables) (pt : PeerTables)
    → have_room bs t pt ≡ room_for bs (length t.keys) (length t.hot) (length t.shadows) (length pt.peers) (length pt.snapshot_keys) (length pt.contested)
unfolding have_room peer-state.lengths
room-is bs t pt = refl
