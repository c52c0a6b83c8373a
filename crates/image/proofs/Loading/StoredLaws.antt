-- What `store` leaves in the tables are the tables of the state that the image stands for, where its records are exact.
use Prim.Native.Nat.{ℕ}
use mathlib.Core.Path.{◌≡◌, sym, ap, ◌∙◌}
use mathlib.Core.Bool.{true}
use mathlib.Core.List.{List, map}
use lib.Dec.{eqb}
use lib.ListN.{length}
use Rattle.records.specs.Records.{table}
use Rattle.questions.proofs.Tests.{both}
use Rattle.hot.specs.HotSet.Set as hot-set
use Rattle.peers.specs.Peers.Records.{peer_words, snapshot_key_words, contested_words, peer_of, snapshot_key_of, contested_of}
use Rattle.peers.specs.Peers.State as peer-state
use Rattle.peers.specs.Peers.State.{PeerTables}
use Rattle.records.specs.Typed.{exact}
use Rattle.records.proofs.Tables.TypedLaws.{words-of-exact}
use Rattle.limiter.specs.State as limiter-state
use Rattle.limiter.specs.State.{LimiterTables, settings_words, key_words, key_of, shadow_words, shadow_of, units_of}
use Rattle.image.specs.declared.scan.Sections.{Sections}
use Rattle.image.specs.Image.{kinds}
use Rattle.image.specs.Reader.{sections_first, rows_of, settings_from, state_from, are_exact, units_in}
use Rattle.image.specs.Steps.{Scans, Stores}
use Rattle.image.proofs.Loading.ScanLaws.{scans-sections}

-- the words of what rows stand for, stored, are the rows stored
stored-rows :
    {A : Type 0} (words : A → List ℕ) (of : List ℕ → A) (rs ss : List (List ℕ)) (xs ys : List ℕ)
    → exact words of rs ≡ true
    → rs ≡ ss
    → ys ≡ table ss xs
    → ys ≡ table (map words (map of rs)) xs
stored-rows words of rs ss xs ys e f o = o ∙ sym (ap (λ (l : List (List ℕ)). table l xs) (words-of-exact words of rs e ∙ f))

module _ (xs : List ℕ) (s : Sections) (r : Scans xs s) (t t' : LimiterTables) (pt pt' : PeerTables) (o : Stores xs s t pt t' pt') (e : are_exact (sections_first kinds xs) ≡ true) where
  pub stored : (t' ≡ limiter-state.written (units_of (state_from (sections_first kinds xs)).limiter.settings) (state_from (sections_first kinds xs)).limiter t) × (pt' ≡ peer-state.written (state_from (sections_first kinds xs)).peers pt)
  unfolding are_exact state_from
  stored =
      let x = sections_first kinds xs in
      let a = (both (eqb (length (rows_of 1 x)) 1) _ e).1 in
      let b = (both (exact settings_words settings_from (rows_of 1 x)) _ a).1 in
      let k = both (exact (key_words (units_in x)) (key_of (units_in x)) (rows_of 2 x)) _ b in
      let h = both (exact hot-set.words hot-set.entry (rows_of 3 x)) _ k.1 in
      let d = both (exact (shadow_words (units_in x)) (shadow_of (units_in x)) (rows_of 4 x)) _ h.1 in
      let p = both (exact peer_words peer_of (rows_of 5 x)) _ d.1 in
      let n = both (exact snapshot_key_words snapshot_key_of (rows_of 6 x)) _ p.1 in (
        (λ i. record {
          keys = stored-rows (key_words (units_in x)) (key_of (units_in x)) (rows_of 2 x) _ t.keys t'.keys k.0 (ap (rows_of 2) (scans-sections xs s r)) o.keys i;
          hot = stored-rows hot-set.words hot-set.entry (rows_of 3 x) _ t.hot t'.hot h.0 (ap (rows_of 3) (scans-sections xs s r)) o.hot i;
          shadows = stored-rows (shadow_words (units_in x)) (shadow_of (units_in x)) (rows_of 4 x) _ t.shadows t'.shadows d.0 (ap (rows_of 4) (scans-sections xs s r)) o.shadows i;
        }),
        (λ i. record {
          peers = stored-rows peer_words peer_of (rows_of 5 x) _ pt.peers pt'.peers p.0 (ap (rows_of 5) (scans-sections xs s r)) o.peers i;
          snapshot_keys = stored-rows snapshot_key_words snapshot_key_of (rows_of 6 x) _ pt.snapshot_keys pt'.snapshot_keys n.0 (ap (rows_of 6) (scans-sections xs s r)) o.snapshot-keys i;
          contested = stored-rows contested_words contested_of (rows_of 7 x) _ pt.contested pt'.contested n.1 (ap (rows_of 7) (scans-sections xs s r)) o.contested i;
        }),
      )
