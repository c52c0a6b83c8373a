-- The records that `judge` reads into tables of its own pass questions 1 and 2 there exactly where they are exact and valid.
use Prim.Native.Nat.{ℕ, ◌*◌, ◌≤◌, min}
use mathlib.Core.Path.{◌≡◌, refl, sym, ap, ◌∙◌}
use mathlib.Core.Bool.{Bool, true, false, ◌&&◌}
use mathlib.Core.List.{List, [], ◌∷◌, map}
use native.Mathlib.Omega.{arith}
use borrow.Author.Tests.{le-leb}
use lib.Dec.{leb, eqb}
use lib.ListN.{length, drop}
use Rattle.records.specs.Records.{records, table}
use Rattle.records.proofs.Tables.TableLaws.{Wide, records-table, length-table, length-flat}
use Rattle.questions.proofs.Tests.{and_intro}
use Rattle.questions.specs.Questions.{◌asks◌, first_no}
use Rattle.peers.specs.declared.peer_demand.PeerDemand.{PeerDemand}
use Rattle.hot.specs.HotSet.Set as hot-set
use Rattle.peers.specs.Peers.Records.{peer_words, snapshot_key_words, contested_words, peer_of, snapshot_key_of, contested_of}
use Rattle.records.specs.Typed.{exact}
use Rattle.peers.specs.Peers.State as peer-state
use Rattle.peers.specs.Peers.State.{PeerTables}
use Rattle.peers.specs.Peers.Calls.{peers_questions}
use Rattle.limiter.specs.declared.Limiter.{Limiter}
use Rattle.limiter.specs.State as limiter-state
use Rattle.limiter.specs.State.{LimiterTables, lengths, within}
use Rattle.limiter.specs.Calls.{state_questions}
use Rattle.image.specs.declared.scan.Sections.{Sections}
use Rattle.image.specs.Image.{kinds}
use Rattle.image.specs.Reader.{word_count, record_size, first_words, sections_first, rows_of, state_from}
use Rattle.image.specs.Steps.{rows_at, Scans}
use Rattle.image.specs.LoadSteps.{FewFound, Counted, peers_found, limiter_judged, peers_judged}
use Rattle.image.proofs.Loading.ReadLaws.{length-first-words}
use Rattle.image.proofs.Loading.JudgeLaws.{length-rows-at, rows-found}

-- rows read have the words of their kind
wide_rows : (kind : ℕ) (rs : List (List ℕ)) → Wide (word_count kind) (map (first_words kind) rs)
wide_rows kind [] = tt
wide_rows kind (r ∷ rs) = (length-first-words kind r, wide_rows kind rs)

module _ (kind n : ℕ) (bs ys : List ℕ) where
  wide_at : Wide (word_count kind) (rows_at kind n bs)
  unfolding rows_at
  wide_at = wide_rows kind (records (record_size kind) n bs)

  -- the records of a table that they were read into
  pub rows_back : records (word_count kind) n (table (rows_at kind n bs) ys) ≡ rows_at kind n bs
  rows_back = records-table (word_count kind) n (rows_at kind n bs) ys wide_at (length-rows-at kind n bs)

  -- which is as long as it was
  pub rows-length : n * word_count kind ≤ length ys → length (table (rows_at kind n bs) ys) ≡ length ys
  rows-length h = length-table (rows_at kind n bs) ys (omega (arith, length-flat (word_count kind) (rows_at kind n bs) wide_at, ap (λ (k : ℕ). k * word_count kind) (length-rows-at kind n bs)))

-- a first question that is passed leaves the second
one_left : (a b : Bool) → a ≡ true → eqb (first_no ((1 asks a) ∷ (2 asks b) ∷ [])) 0 ≡ b
unfolding first_no
one_left true true e = refl
one_left true false e = refl
one_left false b e = absurd (let z : ◌≡◌ {A = ℕ} 0 1 = cc in omega arith)

module _ (bs : List ℕ) (f : Sections) (r : Scans bs f) (few : FewFound f) where
  -- kinds 2 to 4
  module _ (l : Limiter) (n : Counted f l) (t : LimiterTables) (xs ys zs : List ℕ) (ea : t.keys ≡ table (rows_at 2 f.keys.n (drop f.settings.end bs)) xs) (eb : t.hot ≡ table (rows_at 3 f.hot.n (drop f.keys.end bs)) ys) (ec : t.shadows ≡ table (rows_at 4 f.shadows.n (drop f.hot.end bs)) zs) (la : length xs ≡ 90112) (lb : length ys ≡ 384) (lc : length zs ≡ 16384) where
    keys-read : records 22 l.keys t.keys ≡ rows_of 2 (sections_first kinds bs)
    keys-read = (λ i. records 22 (n.keys i) (ea i)) ∙ rows_back 2 f.keys.n (drop f.settings.end bs) xs ∙ sym (rows-found bs f r 2)

    hot-read : records 6 l.hot t.hot ≡ rows_of 3 (sections_first kinds bs)
    hot-read = (λ i. records 6 (n.hot i) (eb i)) ∙ rows_back 3 f.hot.n (drop f.keys.end bs) ys ∙ sym (rows-found bs f r 3)

    shadows-read : records 4 l.shadows t.shadows ≡ rows_of 4 (sections_first kinds bs)
    shadows-read = (λ i. records 4 (n.shadows i) (ec i)) ∙ rows_back 4 f.shadows.n (drop f.hot.end bs) zs ∙ sym (rows-found bs f r 4)

    roomy : limiter-state.have_room l.config (lengths t) ≡ true
    unfolding within
    roomy =
        let a = ap length ea ∙ rows-length 2 f.keys.n (drop f.settings.end bs) xs (omega (arith, few.keys)) in
        let b = ap length eb ∙ rows-length 3 f.hot.n (drop f.keys.end bs) ys (omega (arith, few.hot)) in
        let c = ap length ec ∙ rows-length 4 f.shadows.n (drop f.hot.end bs) zs (omega (arith, few.shadows)) in
        and_intro (leb (22 * min l.config.table_size 4096) (length t.keys)) _ (le-leb (22 * min l.config.table_size 4096) (length t.keys) (omega (arith, a, la)))
        (and_intro (leb (6 * min l.config.hot_set_size 64) (length t.hot)) _ (le-leb (6 * min l.config.hot_set_size 64) (length t.hot) (omega (arith, b, lb)))
        (le-leb (4 * min l.config.table_size 4096) (length t.shadows) (omega (arith, c, lc))))

    valid-read : limiter-state.is_valid (limiter-state.units_in l) l t ≡ limiter_judged l (sections_first kinds bs)
    unfolding limiter-state.is_valid limiter-state.are_exact limiter-state.state_of limiter_judged hot-set.entries
    valid-read = (λ i.
        (exact (limiter-state.key_words (limiter-state.units_in l)) (limiter-state.key_of (limiter-state.units_in l)) (keys-read i)
        && (exact hot-set.words hot-set.entry (hot-read i) && exact (limiter-state.shadow_words (limiter-state.units_in l)) (limiter-state.shadow_of (limiter-state.units_in l)) (shadows-read i)))
        && limiter-state.valid (limiter-state.units_in l) (record {
          settings = limiter-state.settings_of l;
          keys = map (limiter-state.key_of (limiter-state.units_in l)) (keys-read i);
          hot = map hot-set.entry (hot-read i);
          shadows = map (limiter-state.shadow_of (limiter-state.units_in l)) (shadows-read i);
        }))

    pub limiter-asked : eqb (first_no (state_questions l t)) 0 ≡ limiter_judged l (sections_first kinds bs)
    limiter-asked = one_left (limiter-state.have_room l.config (lengths t)) (limiter-state.is_valid (limiter-state.units_in l) l t) roomy ∙ valid-read

  -- kinds 5 to 7
  module _ (t : PeerTables) (xs ys zs : List ℕ) (ea : t.peers ≡ table (rows_at 5 f.peers.n (drop f.shadows.end bs)) xs) (eb : t.snapshot_keys ≡ table (rows_at 6 f.snapshot_keys.n (drop f.peers.end bs)) ys) (ec : t.contested ≡ table (rows_at 7 f.contested.n (drop f.snapshot_keys.end bs)) zs) (la : length xs ≡ 384) (lb : length ys ≡ 8192) (lc : length zs ≡ 49152) where
    peers-read : records 12 f.peers.n t.peers ≡ rows_of 5 (sections_first kinds bs)
    peers-read = ap (records 12 f.peers.n) ea ∙ rows_back 5 f.peers.n (drop f.shadows.end bs) xs ∙ sym (rows-found bs f r 5)

    snapshot-keys-read : records 4 f.snapshot_keys.n t.snapshot_keys ≡ rows_of 6 (sections_first kinds bs)
    snapshot-keys-read = ap (records 4 f.snapshot_keys.n) eb ∙ rows_back 6 f.snapshot_keys.n (drop f.peers.end bs) ys ∙ sym (rows-found bs f r 6)

    contested-read : records 6 f.contested.n t.contested ≡ rows_of 7 (sections_first kinds bs)
    contested-read = ap (records 6 f.contested.n) ec ∙ rows_back 7 f.contested.n (drop f.snapshot_keys.end bs) zs ∙ sym (rows-found bs f r 7)

    peers-roomy : peer-state.have_room (peer-state.lengths t) ≡ true
    unfolding peer-state.lengths peer-state.have_room
    peers-roomy =
        let a = ap length ea ∙ rows-length 5 f.peers.n (drop f.shadows.end bs) xs (omega (arith, few.peers)) in
        let b = ap length eb ∙ rows-length 6 f.snapshot_keys.n (drop f.peers.end bs) ys (omega (arith, few.snapshot-keys)) in
        let c = ap length ec ∙ rows-length 7 f.contested.n (drop f.snapshot_keys.end bs) zs (omega (arith, few.contested)) in
        and_intro (leb peer-state.peers_size (length t.peers)) _ (le-leb peer-state.peers_size (length t.peers) (omega (arith, a, la)))
        (and_intro (leb peer-state.snapshot_keys_size (length t.snapshot_keys)) _ (le-leb peer-state.snapshot_keys_size (length t.snapshot_keys) (omega (arith, b, lb)))
        (le-leb peer-state.contested_size (length t.contested) (omega (arith, c, lc))))

    peers-valid-read : peer-state.is_valid (peers_found f) t ≡ peers_judged (sections_first kinds bs)
    unfolding peer-state.is_valid peer-state.are_exact peer-state.state_of peers_judged state_from
    peers-valid-read = (λ i.
        (exact peer_words peer_of (peers-read i)
        && (exact snapshot_key_words snapshot_key_of (snapshot-keys-read i) && exact contested_words contested_of (contested-read i)))
        && peer-state.valid (record { peers = map peer_of (peers-read i); snapshot_keys = map snapshot_key_of (snapshot-keys-read i); contested = map contested_of (contested-read i) }))

    pub peers-asked : (p : PeerDemand) → p ≡ peers_found f → eqb (first_no (peers_questions p t)) 0 ≡ peers_judged (sections_first kinds bs)
    peers-asked p e =
        ap (λ (q : PeerDemand). eqb (first_no (peers_questions q t)) 0) e
        ∙ one_left (peer-state.have_room (peer-state.lengths t)) (peer-state.is_valid (peers_found f) t) peers-roomy ∙ peers-valid-read
