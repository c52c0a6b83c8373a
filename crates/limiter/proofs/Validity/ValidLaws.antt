-- Question 2 of the limiter's tables is their scan, where they have room.
use Prim.Native.Nat.{ℕ, ◌*◌, ◌^◌, ◌≤◌, ◌<◌, min}
use mathlib.Core.Path.{◌≡◌, refl, sym, ap, ◌∙◌}
use mathlib.Core.Bool.{Bool, true, false, ◌&&◌, and_assoc}
use mathlib.Core.List.{List, map}
use native.Mathlib.Omega.{arith}
use borrow.Author.Tests.{leb-true, le-leb, lt-leb}
use lib.Dec.{leb, eqb}
use lib.ListN.{length, get_or}
use Rattle.records.specs.Records.{records, ascending, fits}
use Rattle.questions.proofs.Tests.{both, and-skip, and_left, stop, and-under}
use Rattle.records.proofs.Words.RecordLaws.{length-records, fits_intro}
use Rattle.gcra.specs.declared.Units.{Units}
use Rattle.gcra.specs.Packed.{Accepted}
use Rattle.hot.specs.declared.hot_set.HotEntry.{HotEntry}
use Rattle.demand.specs.Allocation.{is_floor_factor}
use Rattle.hot.specs.HotSet.Set as hot-set
use Rattle.hot.specs.HotSet.Set.{entry, entries, valid_entry, valid_entries}
use Rattle.hot.specs.HotSet.Steps.{are_entry_words}
use Rattle.questions.specs.Lists.{all}
use Rattle.records.specs.Typed.{is_word, exact, are_records}
use Rattle.hot.proofs.HotSet.Scan.{entry-words-pass, scanned-is-valid as entries-scanned}
use Rattle.questions.proofs.ListLaws.{all_map, any-map}
use Rattle.records.proofs.Tables.ScanLaws.{counted-table, counted-order}
use Rattle.records.proofs.Tables.TypedLaws.{words-of-exact, all_words}
use Rattle.limiter.specs.declared.Config.{Config}
use Rattle.limiter.specs.declared.Limiter.{Limiter}
use Rattle.limiter.specs.State.{Settings, KeyRecord, ShadowRecord, LimiterTables, lengths, is_tracked, key_words, key_of, shadow_words, shadow_of, is_f64, are_sizes, valid_limit, is_alpha, valid_cap, valid_settings, settings_of, settings_words, valid_key, valid_shadow, valid_keys, valid_hot, valid_shadows, valid, within, have_room, state_of, are_exact, is_valid, units_in}
use Rattle.limiter.specs.Steps.Scan.{are_words, is_among, are_among, are_keys, are_of, is_scanned, KeysReady, TableReady, StateReady}
use Rattle.limiter.proofs.Validity.ScanWordLaws.{key-words-pass, shadow-words-pass, four_are, others-are}
use Rattle.limiter.proofs.States.StateValidLaws.{units-of-accepted}

-- ---- a record's key is its first word
entry_key : (r : List ℕ) → (entry r).key ≡ get_or r 0 0
unfolding entry
entry_key r = refl

shadow-key : (u : Units) (r : List ℕ) → (shadow_of u r).key ≡ get_or r 0 0
unfolding shadow_of
shadow-key u r = refl

-- ---- what `hot_set::are_valid` tells
pub entries-told : (n : ℕ) (xs : List ℕ) → n * 6 ≤ length xs → all is_word xs ≡ true → (fits (length xs) 6 n && (exact hot-set.words entry (records 6 n xs) && valid_entries (entries n xs))) ≡ are_records are_entry_words (records 6 n xs)
entries-told n xs h word =
    and-skip (fits (length xs) 6 n) (exact hot-set.words entry (records 6 n xs) && valid_entries (entries n xs)) (fits_intro (length xs) 6 n (omega arith) h)
    ∙ sym (entries-scanned n xs h word)

-- ---- the keys
pub too-many-keys : (u : Units) (size n : ℕ) (xs : List ℕ) → size < n → false ≡ are_keys u size (records 22 n xs)
unfolding are_keys
too-many-keys u size n xs h = stop _ _ (lt-leb (length (records 22 n xs)) size (omega (arith, length-records 22 n xs)))

pub few_keys : (u : Units) (size n : ℕ) (xs : List ℕ) → n ≤ size → are_records (are_words u) (records 22 n xs) ≡ are_keys u size (records 22 n xs)
unfolding are_keys
few_keys u size n xs h = sym (and-skip (leb (length (records 22 n xs)) size) _ (le-leb (length (records 22 n xs)) size (omega (arith, length-records 22 n xs))))

pub keys-ready : (u : Units) (size n : ℕ) (xs : List ℕ) → size * 22 ≤ length xs → are_keys u size (records 22 n xs) ≡ true → KeysReady n xs
unfolding are_keys are_records
keys-ready u size n xs room e =
    let a = both (leb (length (records 22 n xs)) size) _ e in
    let b = both (all (are_words u) (records 22 n xs)) (ascending 1 (records 22 n xs)) a.1 in
    let few : n ≤ size = omega (arith, leb-true (length (records 22 n xs)) size a.0, length-records 22 n xs) in
    record { fit = omega arith; ascend = b.1 }

-- a key is tracked by its first word
tracked-among : (u : Units) (ks : List (List ℕ)) (id : ℕ) → is_tracked (map (key_of u) ks) id ≡ is_among ks id
unfolding is_tracked is_among key_of
tracked-among u ks id = any-map (key_of u) (λ (k : KeyRecord). eqb k.key id) ks

all_among : (u : Units) {A : Type 0} (of : List ℕ → A) (id : A → ℕ) (ks rs : List (List ℕ)) → ((r : List ℕ) → id (of r) ≡ get_or r 0 0) → all (λ (x : A). is_tracked (map (key_of u) ks) (id x)) (map of rs) ≡ are_among ks rs
unfolding are_among
all_among u of id ks rs h =
    all_map of (λ x. is_tracked (map (key_of u) ks) (id x)) rs
    ∙ (λ k. all (λ (r : List ℕ). is_tracked (map (key_of u) ks) (h r k)) rs)
    ∙ (λ k. all (λ (r : List ℕ). tracked-among u ks (get_or r 0 0) k) rs)

-- ---- the three tables
module _ (u : Units) (a : Accepted u) (c : Config) (n : ℕ) (xs : List ℕ) (word : all is_word xs ≡ true) where
  pub keys-scanned : c.table_size * 22 ≤ length xs → (exact (key_words u) (key_of u) (records 22 n xs) && valid_keys u c (map (key_of u) (records 22 n xs))) ≡ are_keys u c.table_size (records 22 n xs)
  unfolding valid_keys are_keys
  keys-scanned room =
      counted-order (key_words u) (key_of u) (valid_key u) (are_words u) 22 n xs word
      (λ r e z. key-words-pass u a r e z ∙ others-are u r (λ f. omega (arith, e, f))) c.table_size room

  module _ (ks : List (List ℕ)) where
    pub hot-scanned : c.hot_set_size * 6 ≤ length xs → (exact hot-set.words entry (records 6 n xs) && valid_hot c (map (key_of u) ks) (entries n xs)) ≡ are_of are_entry_words c.hot_set_size ks (records 6 n xs)
    unfolding valid_hot valid_entries are_of are_records entries
    hot-scanned room =
        let rs : List (List ℕ) = records 6 n xs in
        let es : List HotEntry = map entry rs in
        let tracked : Bool = all (λ (e : HotEntry). is_tracked (map (key_of u) ks) e.key) es in
        ap (λ (b : Bool). exact hot-set.words entry rs && (leb (length es) c.hot_set_size && b)) (and_assoc (all valid_entry es) (ascending 1 (map hot-set.words es)) tracked)
        ∙ counted-table hot-set.words entry valid_entry are_entry_words 6 n xs word entry-words-pass c.hot_set_size
        (ascending 1 (map hot-set.words es) && tracked) (ascending 1 rs && are_among ks rs) room
        (λ e k. ascending 1 (words-of-exact hot-set.words entry rs e k) && all_among u entry (λ (e : HotEntry). e.key) ks rs entry_key k)
        ∙ ap (λ (b : Bool). leb (length rs) c.hot_set_size && b) (sym (and_assoc (all are_entry_words rs) (ascending 1 rs) (are_among ks rs)))

    pub shadows-scanned : c.table_size * 4 ≤ length xs → (exact (shadow_words u) (shadow_of u) (records 4 n xs) && valid_shadows u c (map (key_of u) ks) (map (shadow_of u) (records 4 n xs))) ≡ are_of (are_words u) c.table_size ks (records 4 n xs)
    unfolding valid_shadows are_of are_records
    shadows-scanned room =
        let rs : List (List ℕ) = records 4 n xs in
        counted-table (shadow_words u) (shadow_of u) (valid_shadow u) (are_words u) 4 n xs word (λ r e z. shadow-words-pass u a r e z ∙ four_are u r e) c.table_size
        (ascending 1 (map (shadow_words u) (map (shadow_of u) rs)) && all (λ (s : ShadowRecord). is_tracked (map (key_of u) ks) s.key) (map (shadow_of u) rs)) (ascending 1 rs && are_among ks rs) room
        (λ e k. ascending 1 (words-of-exact (shadow_words u) (shadow_of u) rs e k) && all_among u (shadow_of u) (λ (s : ShadowRecord). s.key) ks rs (shadow-key u) k)
        ∙ ap (λ (b : Bool). leb (length rs) c.table_size && b) (sym (and_assoc (all (are_words u) rs) (ascending 1 rs) (are_among ks rs)))

-- ---- the sizes that room gives
pub record Roomy (c : Config) (t : LimiterTables) : Type 0 where
  pub keys : c.table_size * 22 ≤ length t.keys
  pub hot : c.hot_set_size * 6 ≤ length t.hot
  pub shadows : c.table_size * 4 ≤ length t.shadows

sizes-of : (s : Settings) → valid_settings s ≡ true → are_sizes s.config ≡ true
unfolding valid_settings
sizes-of s v =
    let c = s.config in
    let cap = are_sizes c && valid_cap s.cap in
    let floor = (is_f64 c.floor_factor && is_floor_factor c.floor_factor) && cap in
    let alpha = (is_f64 c.alpha && is_alpha c.alpha) && floor in
    let v₁ = both (all is_word (settings_words s)) (valid_limit c.limit && alpha) v in
    let v₂ = both (valid_limit c.limit) alpha v₁.1 in
    let v₃ = both (is_f64 c.alpha && is_alpha c.alpha) floor v₂.1 in
    let v₄ = both (is_f64 c.floor_factor && is_floor_factor c.floor_factor) cap v₃.1 in
    (both (are_sizes c) (valid_cap s.cap) v₄.1).0

sizes-say : (c : Config) → are_sizes c ≡ true → (c.hot_set_size ≤ 64) × (c.table_size ≤ 4096)
unfolding are_sizes
sizes-say c e =
    let h = c.hot_set_size in
    let m = c.max_tracked_keys in
    let t = c.table_size in
    let a = both (leb 1 h && leb h 64) (leb h m && (leb m t && leb t 4096)) e in
    let b = both (leb h m) (leb m t && leb t 4096) a.1 in
    (leb-true h 64 (both (leb 1 h) (leb h 64) a.0).1, leb-true t 4096 (both (leb m t) (leb t 4096) b.1).1)

pub room_says : (l : Limiter) (t : LimiterTables) → have_room l.config (lengths t) ≡ true → valid_settings (settings_of l) ≡ true → Roomy l.config t
unfolding within
room_says l t e v =
    let c = l.config in
    let z = sizes-say c (sizes-of (settings_of l) v) in
    let k = both (leb (22 * min c.table_size 4096) (length t.keys)) (leb (6 * min c.hot_set_size 64) (length t.hot) && leb (4 * min c.table_size 4096) (length t.shadows)) e in
    let h = both (leb (6 * min c.hot_set_size 64) (length t.hot)) (leb (4 * min c.table_size 4096) (length t.shadows)) k.1 in
    record {
      keys = omega (arith, leb-true (22 * min c.table_size 4096) (length t.keys) k.0);
      hot = omega (arith, leb-true (6 * min c.hot_set_size 64) (length t.hot) h.0);
      shadows = omega (arith, leb-true (4 * min c.table_size 4096) (length t.shadows) h.1);
    }

-- the keys that hot entries and shadows are looked up in
pub keys-lent : (l : Limiter) (t : LimiterTables) → have_room l.config (lengths t) ≡ true → valid_settings (settings_of l) ≡ true
    → are_keys (units_in l) l.config.table_size (records 22 l.keys t.keys) ≡ true → KeysReady l.keys t.keys
keys-lent l t room v e = keys-ready (units_in l) l.config.table_size l.keys t.keys (room_says l t room v).keys e

-- ---- question 2
by-table : (ek eh es s vk vh vs : Bool) → ((ek && (eh && es)) && (s && (vk && (vh && vs)))) ≡ (s && ((ek && vk) && ((eh && vh) && (es && vs))))
by-table ek eh es s vk vh vs = simp (and_assoc, and_left)

pub scanned-is-valid : (u : Units) → Accepted u → (l : Limiter) (t : LimiterTables) → have_room l.config (lengths t) ≡ true → all is_word t.keys ≡ true → all is_word t.hot ≡ true → all is_word t.shadows ≡ true → is_scanned u l t ≡ is_valid u l t
unfolding is_scanned is_valid are_exact valid state_of
scanned-is-valid u a l t room wk wh ws =
    let c = l.config in
    let s = valid_settings (settings_of l) in
    let ks : List (List ℕ) = records 22 l.keys t.keys in
    let hs : List (List ℕ) = records 6 l.hot t.hot in
    let ss : List (List ℕ) = records 4 l.shadows t.shadows in
    let ek = exact (key_words u) (key_of u) ks in
    let eh = exact hot-set.words entry hs in
    let es = exact (shadow_words u) (shadow_of u) ss in
    let vk = valid_keys u c (map (key_of u) ks) in
    let vh = valid_hot c (map (key_of u) ks) (entries l.hot t.hot) in
    let vs = valid_shadows u c (map (key_of u) ks) (map (shadow_of u) ss) in
    sym
    (by-table ek eh es s vk vh vs
    ∙ and-under s ((ek && vk) && ((eh && vh) && (es && vs))) _
    (λ v.
    let r = room_says l t room v in
    (λ k. keys-scanned u a c l.keys t.keys wk r.keys k && (hot-scanned u a c l.hot t.hot wh ks r.hot k && shadows-scanned u a c l.shadows t.shadows ws ks r.shadows k))))

-- ---- what a state that passes gives to the calls
table-ready : (test : List ℕ → Bool) (w size n : ℕ) (xs : List ℕ) → size * w ≤ length xs → leb (length (records w n xs)) size ≡ true → are_records test (records w n xs) ≡ true → TableReady w size n xs × (all test (records w n xs) ≡ true)
unfolding are_records
table-ready test w size n xs room few e =
    let b = both (all test (records w n xs)) (ascending 1 (records w n xs)) e in
    (record { few = omega (arith, leb-true (length (records w n xs)) size few, length-records w n xs); room = room; ascend = b.1 }, b.0)

state-ready : (l : Limiter) (t : LimiterTables) → have_room l.config (lengths t) ≡ true → is_scanned (units_in l) l t ≡ true → StateReady l t
unfolding is_scanned are_keys are_of
state-ready l t room e =
    let u = units_in l in
    let size = l.config.table_size in
    let hot = l.config.hot_set_size in
    let ks : List (List ℕ) = records 22 l.keys t.keys in
    let hs : List (List ℕ) = records 6 l.hot t.hot in
    let ss : List (List ℕ) = records 4 l.shadows t.shadows in
    let a = both (valid_settings (settings_of l)) (are_keys u size ks && (are_of are_entry_words hot ks hs && are_of (are_words u) size ks ss)) e in
    let b = both (are_keys u size ks) (are_of are_entry_words hot ks hs && are_of (are_words u) size ks ss) a.1 in
    let c = both (are_of are_entry_words hot ks hs) (are_of (are_words u) size ks ss) b.1 in
    let k = both (leb (length ks) size) (are_records (are_words u) ks) b.0 in
    let h = both (leb (length hs) hot) (are_records are_entry_words hs && are_among ks hs) c.0 in
    let h' = both (are_records are_entry_words hs) (are_among ks hs) h.1 in
    let s = both (leb (length ss) size) (are_records (are_words u) ss && are_among ks ss) c.1 in
    let s' = both (are_records (are_words u) ss) (are_among ks ss) s.1 in
    let r = room_says l t room a.0 in
    let keys = table-ready (are_words u) 22 size l.keys t.keys r.keys k.0 k.1 in
    let entries = table-ready are_entry_words 6 hot l.hot t.hot r.hot h.0 h'.0 in
    let shadows = table-ready (are_words u) 4 size l.shadows t.shadows r.shadows s.0 s'.0 in
    record {
      settings = a.0;
      keys = keys.0;
      hot = entries.0;
      shadows = shadows.0;
      keys_pass = keys.1;
      hot_pass = entries.1;
      shadows_pass = shadows.1;
      hot_tracked = h'.1;
      shadows_tracked = s'.1;
    }

pub asked-ready : (l : Limiter) (t : LimiterTables) → have_room l.config (lengths t) ≡ true → is_valid (units_in l) l t ≡ true → ((i : ℕ) → get_or t.keys i 0 < 2 ^ 64) → ((i : ℕ) → get_or t.hot i 0 < 2 ^ 64) → ((i : ℕ) → get_or t.shadows i 0 < 2 ^ 64) → StateReady l t
asked-ready l t room valid wk wh ws =
    state-ready l t room (scanned-is-valid (units_in l) (units-of-accepted (settings_of l)) l t room (all_words t.keys wk) (all_words t.hot wh) (all_words t.shadows ws) ∙ valid)
