-- What `save` writes is the image: the pastes of each kind, one after the other, and the tables' records, which are those of the state.
use Prim.Native.Nat.{ℕ, ◌+◌, ◌*◌, ◌≤◌}
use mathlib.Core.Path.{◌≡◌, refl, sym, ap, ◌∙◌}
use mathlib.Core.List.{List, ◌∷◌, ◌++◌, append-nil}
use native.Mathlib.Omega.{arith}
use lib.Ieee.{Float}
use lib.ListN.{length, take, get_or, length-append}
use lib.Seq.{take-length}
use Rattle.records.specs.Words.{paste}
use Rattle.records.specs.Records.{records, flat}
use Rattle.peers.specs.declared.peer_demand.PeerDemand.{PeerDemand}
use Rattle.peers.specs.Peers.State.{PeerTables}
use Rattle.limiter.specs.declared.Limiter.{Limiter}
use Rattle.limiter.specs.State.{LimiterTables, cap_words, settings_words, settings_of}
use Rattle.image.specs.Image.{record_bytes}
use Rattle.image.specs.Reader.{word_count, record_size}
use Rattle.image.specs.Steps.{table_bytes, limiter_bytes, limiter_length, LimiterReady, peers_bytes, peers_length, PeersReady}
use Rattle.image.proofs.Reading.StateWordLaws.{settings-long}
use Rattle.image.proofs.Saving.PutLaws.{length-pasted, paste_more, length-record-bytes, length-rows}
use Rattle.std.specs.declared.option.Option.{Option}
use Rattle.std.specs.declared.option.Option.TheVariants.{None, Some}

-- ---- one paste after another

-- what was pasted in two steps, each as long as it is
pub pasted : (a b n : ℕ) (r s xs ys zs : List ℕ) → length r ≡ n → b ≡ a + n → a + n ≤ length xs → ys ≡ paste a r xs → zs ≡ paste b s ys → zs ≡ paste a (r ++ s) xs
pasted a b n r s xs ys zs l e h p q = q ∙ ap (paste b s) p ∙ paste_more a b r s xs (omega arith) (e ∙ ap (λ (k : ℕ). a + k) (sym l))

pub still : (a n : ℕ) (r xs ys : List ℕ) → length r ≡ n → a + n ≤ length xs → ys ≡ paste a r xs → length ys ≡ length xs
still a n r xs ys l h p = ap length p ∙ length-pasted a r xs (omega arith)

pub length-table-bytes : (kind n : ℕ) (xs : List ℕ) → n * word_count kind ≤ length xs → length (table_bytes kind n xs) ≡ n * record_size kind
unfolding table_bytes
length-table-bytes kind n xs h = length-rows kind (word_count kind) n xs h

-- a table of one record
pub one-row : (kind : ℕ) (ws : List ℕ) → length ws ≡ word_count kind → table_bytes kind 1 ws ≡ record_bytes kind ws
unfolding table_bytes records flat
one-row kind ws e = append-nil (record_bytes kind (take (word_count kind) ws)) ∙ ap (record_bytes kind) (ap (λ (n : ℕ). take n ws) (sym e) ∙ take-length ws)

-- ---- kinds 5 to 7
module _ (p : PeerDemand) (t : PeerTables) (ready : PeersReady p t) where
  pub peers-pasted :
      (a b c : ℕ) (out x y z : List ℕ)
      → a + peers_length p ≤ length out
      → b ≡ a + p.peers * record_size 5
      → c ≡ b + p.snapshot_keys * record_size 6
      → x ≡ paste a (table_bytes 5 p.peers t.peers) out
      → y ≡ paste b (table_bytes 6 p.snapshot_keys t.snapshot_keys) x
      → z ≡ paste c (table_bytes 7 p.contested t.contested) y
      → z ≡ paste a (peers_bytes p t) out
  unfolding peers_bytes
  peers-pasted a b c out x y z h eb ec ex ey ez =
      let l5 = length-table-bytes 5 p.peers t.peers ready.peers in
      let l6 = length-table-bytes 6 p.snapshot_keys t.snapshot_keys ready.keys in
      let s = still a _ _ out x l5 (omega arith) ex in
      pasted a b _ _ _ out x z l5 eb (omega arith) ex (pasted b c _ _ _ x y z l6 ec (omega arith) ey ez)

  pub length-peers-bytes : length (peers_bytes p t) ≡ peers_length p
  unfolding peers_bytes
  length-peers-bytes =
      simp length-append (omega (
        arith,
        length-table-bytes 5 p.peers t.peers ready.peers,
        length-table-bytes 6 p.snapshot_keys t.snapshot_keys ready.keys,
        length-table-bytes 7 p.contested t.contested ready.contested,
      ))

-- ---- kinds 1 to 4

-- the two words of a cap, one by one
pub cap-apart : (x : Option Float) (ys : List ℕ) → get_or (cap_words x) 0 0 ∷ get_or (cap_words x) 1 0 ∷ ys ≡ cap_words x ++ ys
cap-apart None ys = refl
cap-apart (Some x) ys = refl

module _ (l : Limiter) (t : LimiterTables) (ready : LimiterReady l t) where
  settings-sized : (ws : List ℕ) → ws ≡ settings_words (settings_of l) → length (record_bytes 1 ws) ≡ record_size 1
  settings-sized ws e = length-record-bytes 1 13 ws (ap length e ∙ settings-long (settings_of l))

  pub limiter-pasted :
      (a b c : ℕ) (ws out v x y z : List ℕ)
      → ws ≡ settings_words (settings_of l)
      → limiter_length l ≤ length out
      → a ≡ record_size 1
      → b ≡ a + l.keys * record_size 2
      → c ≡ b + l.hot * record_size 3
      → v ≡ paste 0 (table_bytes 1 1 ws) out
      → x ≡ paste a (table_bytes 2 l.keys t.keys) v
      → y ≡ paste b (table_bytes 3 l.hot t.hot) x
      → z ≡ paste c (table_bytes 4 l.shadows t.shadows) y
      → z ≡ paste 0 (limiter_bytes l t) out
  unfolding limiter_bytes
  limiter-pasted a b c ws out v x y z ew h ea eb ec ev ex ey ez =
      let l1 = settings-sized ws ew in
      let l2 = length-table-bytes 2 l.keys t.keys ready.keys in
      let l3 = length-table-bytes 3 l.hot t.hot ready.hot in
      let e1 : v ≡ paste 0 (record_bytes 1 ws) out = ev ∙ ap (λ (r : List ℕ). paste 0 r out) (one-row 1 ws (ap length ew ∙ settings-long (settings_of l))) in
      let s = still 0 _ _ out v l1 (omega arith) e1 in
      let r = still a _ _ v x l2 (omega arith) ex in
      pasted 0 a _ _ _ out v z l1 ea (omega arith) e1
      (pasted a b _ _ _ v x z l2 eb (omega arith) ex
      (pasted b c _ _ _ x y z l3 ec (omega arith) ey ez))
      ∙ ap (λ (us : List ℕ). paste 0 (record_bytes 1 us ++ (table_bytes 2 l.keys t.keys ++ (table_bytes 3 l.hot t.hot ++ table_bytes 4 l.shadows t.shadows))) out) ew

  pub length-limiter-bytes : length (limiter_bytes l t) ≡ limiter_length l
  unfolding limiter_bytes
  length-limiter-bytes =
      simp length-append (omega (
        arith,
        settings-sized (settings_words (settings_of l)) refl,
        length-table-bytes 2 l.keys t.keys ready.keys,
        length-table-bytes 3 l.hot t.hot ready.hot,
        length-table-bytes 4 l.shadows t.shadows ready.shadows,
      ))
