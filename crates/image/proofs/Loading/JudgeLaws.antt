-- Question 13 as `judge` asks it: the counts, the end, the settings, and then the records of the limiter and of the peers.
use Prim.Native.Nat.{ℕ, zero, suc, ◌^◌, ◌≤◌, ◌<◌}
use mathlib.Core.Path.{◌≡◌, refl, sym, ap, ◌∙◌, subst}
use mathlib.Core.Bool.{Bool, true, false, cond, ◌&&◌}
use mathlib.Core.List.{List, [], ◌∷◌, ◌++◌, append-nil}
use native.Mathlib.Omega.{arith}
use borrow.Author.Tests.{eq-eqb, eqb-true, le-leb, leb-true, lt-ltb}
use lib.Dec.{leb, ltb, eqb}
use lib.ListN.{length, drop, get_or, length-map, drop_of_length-le}
use Rattle.records.specs.Records.{records, flat, table, same}
use Rattle.records.proofs.Words.RecordLaws.{length-records}
use Rattle.records.proofs.Order.OrderLaws.{same-eq}
use Rattle.questions.proofs.Tests.{split, both, and_intro, and_first, and_second, same_truth, contradiction}
use Rattle.gcra.specs.Packed.{valid_burst}
use Rattle.hot.specs.HotSet.Set as hot-set
use Rattle.records.specs.Fields.{time_of}
use Rattle.questions.specs.Lists.{all}
use Rattle.peers.specs.Peers.Records.{peer_words, snapshot_key_words, contested_words, peer_of, snapshot_key_of, contested_of}
use Rattle.peers.specs.Peers.State as peer-state
use Rattle.records.specs.Typed.{exact}
use Rattle.peers.proofs.Peers.Reports.KeptLaws as peer-laws
use Rattle.limiter.specs.declared.Config.{Config}
use Rattle.limiter.specs.declared.Limiter.{Limiter}
use Rattle.limiter.specs.State as limiter-state
use Rattle.limiter.specs.State.{Settings, settings_words, settings_of, key_words, key_of, shadow_words, shadow_of, units_of}
use Rattle.limiter.proofs.States.StateValidLaws.{valid-says, sizes-say, few-shadows}
use Rattle.limiter.proofs.States.RecordValidLaws.{limit-burst}
use Rattle.image.specs.declared.scan.Sections.{Sections}
use Rattle.image.specs.Image.{Section, ◌of◌, valid, record_count, kinds}
use Rattle.image.specs.Reader.{record_size, first_words, rows_first, sections_first, after_sections, is_end, is_byte, is_image, is_image_to, cap_from, settings_from, rows_of, state_from, state_read, are_exact, units_in}
use Rattle.image.specs.Calls.{values_of}
use Rattle.image.specs.Steps.{rows_at, Scans}
use Rattle.image.specs.LoadSteps.{are_few, FewFound, count_in, config_from, Reads, peers_found, limiter_from, limiter_judged, peers_judged}
use Rattle.image.proofs.Reading.RecordLaws.{first-row}
use Rattle.image.proofs.Loading.ReadLaws.{length-first-words}
use Rattle.image.proofs.Loading.ScanLaws.{scans-sections, scans-after}
use Rattle.std.specs.declared.option.Option.TheVariants.{Some}

-- rows read are as many as were counted
pub length-rows-at : (kind n : ℕ) (bs : List ℕ) → length (rows_at kind n bs) ≡ n
unfolding rows_at
length-rows-at kind n bs = length-map (records (record_size kind) n bs) (first_words kind) ∙ length-records (record_size kind) n bs

-- ---- what are_few says

pub few-says : (s : Sections) → are_few s ≡ true → FewFound s
unfolding are_few
few-says s e =
    let a = both (eqb s.settings.n 1) _ e in
    let b = both (leb s.keys.n 4096) _ a.1 in
    let c = both (leb s.hot.n 64) _ b.1 in
    let d = both (leb s.shadows.n 4096) _ c.1 in
    let f = both (leb s.peers.n 32) _ d.1 in
    let g = both (leb s.snapshot_keys.n 2048) _ f.1 in
    record {
      settings = eqb-true _ _ a.0;
      keys = leb-true _ _ b.0;
      hot = leb-true _ _ c.0;
      shadows = leb-true _ _ d.0;
      peers = leb-true _ _ f.0;
      snapshot-keys = leb-true _ _ g.0;
      contested = leb-true _ _ g.1;
    }

pub says-few : (s : Sections) → FewFound s → are_few s ≡ true
unfolding are_few
says-few s f =
    and_intro (eqb s.settings.n 1) _ (eq-eqb _ _ f.settings)
    (and_intro (leb s.keys.n 4096) _ (le-leb _ _ f.keys)
    (and_intro (leb s.hot.n 64) _ (le-leb _ _ f.hot)
    (and_intro (leb s.shadows.n 4096) _ (le-leb _ _ f.shadows)
    (and_intro (leb s.peers.n 32) _ (le-leb _ _ f.peers)
    (and_intro (leb s.snapshot_keys.n 2048) _ (le-leb _ _ f.snapshot-keys) (le-leb _ _ f.contested))))))

-- a test that fails, or the last one
pub not-few : (s : Sections) → (FewFound s → ⊥) → false ≡ are_few s
not-few s h = split (are_few s) (λ e. absurd (h (few-says s e))) (λ e. sym e)

pub last-few : (s : Sections) → (s.contested.n ≤ 8192 → FewFound s) → leb s.contested.n 8192 ≡ are_few s
last-few s h = same_truth _ _ (λ e. says-few s (h (leb-true _ _ e))) (λ e. le-leb _ _ (few-says s e).contested)

-- a flag that is set
pub cap-set : (flag word : ℕ) → (flag ≡ 0 → ⊥) → Some (limiter-state.float_of word) ≡ cap_from flag word
cap-set zero word h = absurd (h refl)
cap-set (suc flag) word h = refl

pub time-set : (flag time : ℕ) → (flag ≡ 0 → ⊥) → Some time ≡ time_of flag time
time-set zero time h = absurd (h refl)
time-set (suc flag) time h = refl

-- a burst that a limit may have is of 32 bits
pub small-burst : (n : ℕ) → valid_burst n ≡ true → ltb n (2 ^ 32) ≡ true
small-burst n v = lt-ltb n (2 ^ 32) (omega (arith, leb-true n 4194303 (both (leb 1 n) _ v).1))

-- the bytes of a slice are bytes
pub all-bytes : (xs : List ℕ) → ((i : ℕ) → get_or xs i 0 < 256) → all is_byte xs ≡ true
unfolding all
all-bytes [] h = refl
all-bytes (x ∷ xs) h = and_intro (is_byte x) _ (lt-ltb x 256 (h 0)) (all-bytes xs (λ i. h (suc i)))

-- a record that fills its table
alone-in : (r zs : List ℕ) → length zs ≤ length r → table (r ∷ []) zs ≡ r
unfolding table flat
alone-in r zs h = ap (λ (l : List ℕ). l ++ drop (length l) zs) (append-nil r) ∙ ap (λ (l : List ℕ). r ++ l) (drop_of_length-le zs {i = length r} h) ∙ append-nil r

-- seven tests and two, in two groups
module _ (o e₁ e₂ e₃ e₄ e₅ e₆ e₇ v w : Bool) (ho : o ≡ true) (h₁ : e₁ ≡ true) where
  regrouped : ((o && (e₁ && (e₂ && (e₃ && (e₄ && (e₅ && (e₆ && e₇))))))) && (v && w)) ≡ (((e₂ && (e₃ && e₄)) && v) && ((e₅ && (e₆ && e₇)) && w))
  regrouped = rw (ho, h₁) (by e₂ e₃ e₄ e₅ v)
    where
      by : (e₂ e₃ e₄ e₅ v : Bool) → ((e₂ && (e₃ && (e₄ && (e₅ && (e₆ && e₇))))) && (v && w)) ≡ (((e₂ && (e₃ && e₄)) && v) && ((e₅ && (e₆ && e₇)) && w))
      by false e₃ e₄ e₅ v = refl
      by true false e₄ e₅ v = refl
      by true true false e₅ v = refl
      by true true true false true = refl
      by true true true false false = refl
      by true true true true false = no_second (e₆ && e₇)
        where
          no_second : (b : Bool) → (b && false) ≡ false
          no_second true = refl
          no_second false = refl
      by true true true true true = refl

module _ (bs : List ℕ) (f : Sections) (r : Scans bs f) where
  abbrev xs : List Section
  xs = sections_first kinds bs

  -- the sections' rows, and how many there are
  pub rows-found : (kind : ℕ) → rows_of kind xs ≡ rows_of kind (
      (1 of rows_at 1 f.settings.n bs)
      ∷ (2 of rows_at 2 f.keys.n (drop f.settings.end bs))
      ∷ (3 of rows_at 3 f.hot.n (drop f.keys.end bs))
      ∷ (4 of rows_at 4 f.shadows.n (drop f.hot.end bs))
      ∷ (5 of rows_at 5 f.peers.n (drop f.shadows.end bs))
      ∷ (6 of rows_at 6 f.snapshot_keys.n (drop f.peers.end bs))
      ∷ (7 of rows_at 7 f.contested.n (drop f.snapshot_keys.end bs))
      ∷ [])
  rows-found kind = ap (rows_of kind) (scans-sections bs f r)

  -- the records before the end
  pub count-found : record_count xs ≡ count_in f
  unfolding record_count
  count-found =
      ap record_count (scans-sections bs f r)
      ∙ omega (
        arith,
        length-rows-at 1 f.settings.n bs,
        length-rows-at 2 f.keys.n (drop f.settings.end bs),
        length-rows-at 3 f.hot.n (drop f.keys.end bs),
        length-rows-at 4 f.shadows.n (drop f.hot.end bs),
        length-rows-at 5 f.peers.n (drop f.shadows.end bs),
        length-rows-at 6 f.snapshot_keys.n (drop f.peers.end bs),
        length-rows-at 7 f.contested.n (drop f.snapshot_keys.end bs),
      )

  -- the end as it is looked for
  pub end-found : is_end (count_in f) (drop f.contested.end bs) ≡ is_end (record_count xs) (after_sections kinds bs)
  end-found = (λ i. is_end (sym count-found i) (sym (scans-after bs f r) i))

  -- an image has few records of each kind
  pub image-few : is_image bs ≡ true → are_few f ≡ true
  unfolding is_image_to are_exact valid state_from
  image-few e =
      let a = (both (all is_byte bs) _ e).1 in
      let b = (both (is_end (record_count xs) (after_sections kinds bs)) _ a).1 in
      let c = both (are_exact xs) (valid (state_from xs)) b in
      let once = eqb-true _ 1 (both (eqb (length (rows_of 1 xs)) 1) _ c.0).0 in
      let d = both (limiter-state.valid (units_in xs) (state_from xs).limiter) _ c.1 in
      let l = valid-says (units_in xs) (state_from xs).limiter d.0 in
      let z = sizes-say (state_from xs).limiter.settings.config l.settings.config.sizes in
      let p = peer-laws.valid-says (state_from xs).peers d.1 in
      let n₀ : length (rows_of 1 xs) ≡ f.settings.n = ap length (rows-found 1) ∙ length-rows-at 1 _ _ in
      let n₁ : length (state_from xs).limiter.keys ≡ f.keys.n = length-map (rows_of 2 xs) (key_of (units_in xs)) ∙ ap length (rows-found 2) ∙ length-rows-at 2 _ _ in
      let n₂ : length (state_from xs).limiter.hot ≡ f.hot.n = length-map (rows_of 3 xs) hot-set.entry ∙ ap length (rows-found 3) ∙ length-rows-at 3 _ _ in
      let n₃ : length (state_from xs).limiter.shadows ≡ f.shadows.n = length-map (rows_of 4 xs) (shadow_of (units_in xs)) ∙ ap length (rows-found 4) ∙ length-rows-at 4 _ _ in
      let n₄ : length (state_from xs).peers.peers ≡ f.peers.n = length-map (rows_of 5 xs) peer_of ∙ ap length (rows-found 5) ∙ length-rows-at 5 _ _ in
      let n₅ : length (state_from xs).peers.snapshot_keys ≡ f.snapshot_keys.n = length-map (rows_of 6 xs) snapshot_key_of ∙ ap length (rows-found 6) ∙ length-rows-at 6 _ _ in
      let n₆ : length (state_from xs).peers.contested ≡ f.contested.n = length-map (rows_of 7 xs) contested_of ∙ ap length (rows-found 7) ∙ length-rows-at 7 _ _ in
      says-few f (record {
        settings = sym n₀ ∙ once;
        keys = omega (arith, n₁, l.few, z.most_held);
        hot = omega (arith, n₂, l.hot_few, z.most_hot);
        shadows = omega (arith, n₃, few-shadows (units_in xs) (state_from xs).limiter l, l.few, z.most_held);
        peers = omega (arith, n₄, p.few_peers);
        snapshot-keys = omega (arith, n₅, peer-laws.few_keys (state_from xs).peers p);
        contested = omega (arith, n₆, peer-laws.few-contested (state_from xs).peers p);
      })

  -- the record of kind 1, where there is one
  module _ (few : FewFound f) where
    pub settings-row : rows_of 1 xs ≡ first_words 1 bs ∷ []
    unfolding sections_first
    settings-row = alone (rows_of 1 xs) (ap length (rows-found 1) ∙ length-rows-at 1 _ _ ∙ few.settings) refl
      where
        alone : (rs : List (List ℕ)) → length rs ≡ 1 → rows_first (length bs) 1 bs ≡ rs → rs ≡ first_words 1 bs ∷ []
        alone [] n e = absurd (omega arith)
        alone (ws ∷ []) n e = ap (λ (x : List ℕ). x ∷ []) (sym (first-row (length bs) 1 bs ws [] e).1)
        alone (ws ∷ (v ∷ rs)) n e = absurd (omega arith)

    -- its words, read into a table that has room for no other
    pub words-read : (zs ws : List ℕ) → length zs ≡ 13 → ws ≡ table (rows_at 1 f.settings.n (drop 0 bs)) zs → ws ≡ first_words 1 bs
    words-read zs ws n e =
        e ∙ ap (λ (rs : List (List ℕ)). table rs zs) (sym (rows-found 1) ∙ settings-row)
        ∙ alone-in (first_words 1 bs) zs (omega (arith, length-first-words 1 bs))

    -- a limiter with the settings of its words
    module _ (l : Limiter) (q : Reads (first_words 1 bs) f l) where
      abbrev ws : List ℕ
      ws = first_words 1 bs

      -- where the burst is of 32 bits
      settings-whole : (config_from ws).limit.burst ≡ get_or ws 1 0 → settings_of l ≡ settings_from ws
      unfolding config_from settings_from
      settings-whole e =
          (λ i. record { config = q.config i; cap = q.cap i; last_tick = q.last-tick i })
          ∙ (λ i. record {
            config =
                record {
                  limit = record { rate = (settings_from ws).config.limit.rate; burst = e i };
                  alpha = (settings_from ws).config.alpha;
                  floor_factor = (settings_from ws).config.floor_factor;
                  cooldown = (settings_from ws).config.cooldown;
                  hot_set_size = (settings_from ws).config.hot_set_size;
                  max_tracked_keys = (settings_from ws).config.max_tracked_keys;
                  demand_time_constant = (settings_from ws).config.demand_time_constant;
                  table_size = (settings_from ws).config.table_size;
                };
            cap = (settings_from ws).cap;
            last_tick = (settings_from ws).last_tick;
          })

      -- the words come back: the settings are those of the words
      pub settings-same : same (settings_words (settings_of l)) ws ≡ true → settings_of l ≡ settings_from ws
      unfolding settings_words
      settings-same e = settings-whole (ap (λ (c : Config). c.limit.burst) (sym q.config) ∙ ap (λ (x : List ℕ). get_or x 1 0) (same-eq (settings_words (settings_of l)) ws e))

      -- so they do of every image
      pub image-same : is_image bs ≡ true → same (settings_words (settings_of l)) ws ≡ true
      unfolding is_image_to are_exact valid state_from settings_from config_from all
      image-same e =
          let a = (both (all is_byte bs) _ e).1 in
          let b = (both (is_end (record_count xs) (after_sections kinds bs)) _ a).1 in
          let c = both (are_exact xs) (valid (state_from xs)) b in
          let d = (both (eqb (length (rows_of 1 xs)) 1) _ c.0).1 in
          let x = (both (exact settings_words settings_from (rows_of 1 xs)) _ d).0 in
          let y = subst (λ (rs : List (List ℕ)). exact settings_words settings_from rs ≡ true) settings-row x in
          let v = valid-says (units_in xs) (state_from xs).limiter (both (limiter-state.valid (units_in xs) (state_from xs).limiter) _ c.1).0 in
          let g = subst (λ (rs : List (List ℕ)). limiter-state.valid_limit (settings_from (get_or rs 0 [])).config.limit ≡ true) settings-row v.settings.config.limit in
          ap (λ (s : Settings). same (settings_words s) ws) (settings-whole (whole-burst g)) ∙ (both (same (settings_words (settings_from ws)) ws) true y).0
        where
          whole-burst : limiter-state.valid_limit (settings_from ws).config.limit ≡ true → cond (ltb (get_or ws 1 0) (2 ^ 32)) (get_or ws 1 0) 0 ≡ get_or ws 1 0
          whole-burst g = rw (small-burst (get_or ws 1 0) (limit-burst (settings_from ws).config.limit g))

      -- and then the rest of the question is the two groups of records
      pub judged-groups : same (settings_words (settings_of l)) ws ≡ true → (are_exact xs && valid (state_from xs)) ≡ (limiter_judged l xs && peers_judged xs)
      unfolding are_exact valid state_from limiter_judged peers_judged all
      judged-groups e =
          let w : settings_from (get_or (rows_of 1 xs) 0 []) ≡ settings_of l = ap (λ (rs : List (List ℕ)). settings_from (get_or rs 0 [])) settings-row ∙ sym (settings-same e) in
          let x : exact settings_words settings_from (rows_of 1 xs) ≡ true =
          ap (exact settings_words settings_from) settings-row
          ∙ and_intro (same (settings_words (settings_from ws)) ws) true (ap (λ (s : Settings). same (settings_words s) ws) (sym (settings-same e)) ∙ e) refl
          in
          regrouped (eqb (length (rows_of 1 xs)) 1) (exact settings_words settings_from (rows_of 1 xs)) (exact (key_words (units_in xs)) (key_of (units_in xs)) (rows_of 2 xs)) (exact hot-set.words hot-set.entry (rows_of 3 xs)) (exact (shadow_words (units_in xs)) (shadow_of (units_in xs)) (rows_of 4 xs)) (exact peer_words peer_of (rows_of 5 xs)) (exact snapshot_key_words snapshot_key_of (rows_of 6 xs)) (exact contested_words contested_of (rows_of 7 xs))
          (limiter-state.valid (units_in xs) (state_from xs).limiter) (peer-state.valid (state_from xs).peers) (eq-eqb _ 1 (ap length (rows-found 1) ∙ length-rows-at 1 _ _ ∙ few.settings)) x
          ∙ ap (λ (s : Settings). ((exact (key_words (units_of s)) (key_of (units_of s)) (rows_of 2 xs) && (exact hot-set.words hot-set.entry (rows_of 3 xs) && exact (shadow_words (units_of s)) (shadow_of (units_of s)) (rows_of 4 xs))) && limiter-state.valid (units_of s) (limiter_from s xs)) && ((exact peer_words peer_of (rows_of 5 xs) && (exact snapshot_key_words snapshot_key_of (rows_of 6 xs) && exact contested_words contested_of (rows_of 7 xs))) && peer-state.valid (state_from xs).peers)) w

      -- what an image makes
      pub values-read : same (settings_words (settings_of l)) ws ≡ true → record { limiter = l; peers = peers_found f } ≡ values_of (state_read bs)
      unfolding state_read state_from
      values-read e =
          let w : settings_of l ≡ settings_from (get_or (rows_of 1 xs) 0 []) = settings-same e ∙ ap (λ (rs : List (List ℕ)). settings_from (get_or rs 0 [])) (sym settings-row) in
          (λ i. record {
            limiter =
                record {
                  config = (w i).config;
                  cap = ap (λ (s : Settings). s.cap) w i;
                  last_tick = ap (λ (s : Settings). s.last_tick) w i;
                  keys = (q.counts.keys ∙ sym (length-map (rows_of 2 xs) (key_of (units_in xs)) ∙ ap length (rows-found 2) ∙ length-rows-at 2 _ _)) i;
                  hot = (q.counts.hot ∙ sym (length-map (rows_of 3 xs) hot-set.entry ∙ ap length (rows-found 3) ∙ length-rows-at 3 _ _)) i;
                  shadows = (q.counts.shadows ∙ sym (length-map (rows_of 4 xs) (shadow_of (units_in xs)) ∙ ap length (rows-found 4) ∙ length-rows-at 4 _ _)) i;
                };
            peers =
                record {
                  peers = sym (length-map (rows_of 5 xs) peer_of ∙ ap length (rows-found 5) ∙ length-rows-at 5 _ _) i;
                  snapshot_keys = sym (length-map (rows_of 6 xs) snapshot_key_of ∙ ap length (rows-found 6) ∙ length-rows-at 6 _ _) i;
                  contested = sym (length-map (rows_of 7 xs) contested_of ∙ ap length (rows-found 7) ∙ length-rows-at 7 _ _) i;
                };
          })

  -- ---- the tests, one after the other

  -- a test that every image passes, and these bytes do not
  refuted : {a : Bool} → (is_image bs ≡ true → a ≡ true) → a ≡ false → is_image bs ≡ false
  refuted f e = split (is_image bs) (λ h. contradiction (sym (f h) ∙ e)) (λ h. h)

  pub no-few : are_few f ≡ false → is_image bs ≡ false
  no-few e = refuted image-few e

  pub no_end : is_end (count_in f) (drop f.contested.end bs) ≡ false → is_image bs ≡ false
  unfolding is_image_to
  no_end e = and_second (all is_byte bs) _ (and_first (is_end (record_count xs) (after_sections kinds bs)) _ (sym end-found ∙ e))

  module _ (few : FewFound f) (l : Limiter) (q : Reads (first_words 1 bs) f l) where
    pub no_same : same (settings_words (settings_of l)) (first_words 1 bs) ≡ false → is_image bs ≡ false
    no_same e = refuted (image-same few l q) e

    -- where the settings come back
    module _ (s : same (settings_words (settings_of l)) (first_words 1 bs) ≡ true) where
      judged : (limiter_judged l xs && peers_judged xs) ≡ false → is_image bs ≡ false
      unfolding is_image_to
      judged e =
          and_second (all is_byte bs) _
          (and_second (is_end (record_count xs) (after_sections kinds bs)) (are_exact xs && valid (state_from xs)) (judged-groups few l q s ∙ e))

      pub no-limiter : limiter_judged l xs ≡ false → is_image bs ≡ false
      no-limiter e = judged (and_first (limiter_judged l xs) _ e)

      pub no-peers : peers_judged xs ≡ false → is_image bs ≡ false
      no-peers e = judged (and_second (limiter_judged l xs) _ e)

      pub is-image : all is_byte bs ≡ true → is_end (count_in f) (drop f.contested.end bs) ≡ true → limiter_judged l xs ≡ true → peers_judged xs ≡ true → is_image bs ≡ true
      unfolding is_image_to
      is-image b e j k =
          and_intro (all is_byte bs) _ b
          (and_intro (is_end (record_count xs) (after_sections kinds bs)) _ (sym end-found ∙ e)
          (judged-groups few l q s ∙ and_intro (limiter_judged l xs) _ j k))
