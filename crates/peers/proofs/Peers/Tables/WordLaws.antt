-- The peers' records and their words: there and back, and how many words they are.
use Rattle.std.proofs.Common.{◌≡◌, ℕ, suc, ◌≤◌, Bool, List, [], ◌∷◌, ◌++◌, length, take, refl, ap, arith, length-append, length-take-le}
use Rattle.records.specs.Fields.{time_words}
use Rattle.records.proofs.Words.FieldLaws.{flag-of-word}
use Rattle.peers.specs.Peers.Records.{Snapshot, PeerRecord, SnapshotKey, ContestedKey, snapshot_words, past_words, peer_words, snapshot_key_words, contested_words, peer_of, snapshot_key_of, contested_of}
use Rattle.std.specs.declared.option.Option.{Option}
use Rattle.std.specs.declared.option.Option.TheVariants.{None, Some}

-- the record of a snapshot key's words is the key
pub snapshot-key-of-words : (k : SnapshotKey) → snapshot_key_of (snapshot_key_words k) ≡ k
unfolding snapshot_key_of snapshot_key_words
snapshot-key-of-words k =
    ap (λ (b : Bool). record { peer = k.peer; key = k.key; demand = k.demand; primary = b }) (flag-of-word k.primary)

-- the record of a contested key's words is the key
pub contested-of-words : (c : ContestedKey) → contested_of (contested_words c) ≡ c
unfolding contested_of contested_words
contested-of-words c =
    ap
    (λ (b : Bool).
    record { peer = c.peer; key = c.key; demand = c.demand; primary = b; round = c.round; heard_at = c.heard_at })
    (flag-of-word c.primary)

-- four words, of which the past epochs are those counted
pub past_of-words : (es : List ℕ) → length es ≤ 4 → take (length es) (take 4 (es ++ (0 ∷ 0 ∷ 0 ∷ 0 ∷ []))) ≡ es
past_of-words [] h = refl
past_of-words (a ∷ []) h = refl
past_of-words (a ∷ b ∷ []) h = refl
past_of-words (a ∷ b ∷ c ∷ []) h = refl
past_of-words (a ∷ b ∷ c ∷ d ∷ []) h = refl
past_of-words (a ∷ b ∷ c ∷ d ∷ e ∷ es) h =
    let no : ⊥ = omega (arith, h) in
    elim no [ ]

abbrev peer : ℕ → Option ℕ → Option Snapshot → List ℕ → PeerRecord
peer id held taken past = record { id = id; held_until = held; snapshot = taken; past_epochs = past }

peer-by-parts :
    (id : ℕ) (held : Option ℕ) (taken : Option Snapshot) (past : List ℕ)
    → length past ≤ 4
    → peer_of (peer_words (peer id held taken past)) ≡ peer id held taken past
unfolding peer_of peer_words
peer-by-parts id None None past h = ap (peer id None None) (past_of-words past h)
peer-by-parts id None (Some s) past h = ap (peer id None (Some s)) (past_of-words past h)
peer-by-parts id (Some t) None past h = ap (peer id (Some t) None) (past_of-words past h)
peer-by-parts id (Some t) (Some s) past h = ap (peer id (Some t) (Some s)) (past_of-words past h)

-- the record of a peer's words is the peer, where four past epochs hold it
pub peer-of-words : (p : PeerRecord) → length p.past_epochs ≤ 4 → peer_of (peer_words p) ≡ p
peer-of-words p h = peer-by-parts p.id p.held_until p.snapshot p.past_epochs h

pub peer-long : (p : PeerRecord) → length (peer_words p) ≡ 12
unfolding peer_words
peer-long p = by p.snapshot p.past_epochs
  where
    four : (es : List ℕ) → length (take 4 (es ++ (0 ∷ 0 ∷ 0 ∷ 0 ∷ []))) ≡ 4
    four es = length-take-le 4 (es ++ (0 ∷ 0 ∷ 0 ∷ 0 ∷ [])) (omega (arith, length-append es (0 ∷ 0 ∷ 0 ∷ 0 ∷ []), four-zeros))
      where
        four-zeros : length {A = ℕ} (0 ∷ 0 ∷ 0 ∷ 0 ∷ []) ≡ 4
        four-zeros = refl

    by : (s : Option Snapshot) (es : List ℕ) → length (p.id ∷ (time_words p.held_until ++ (snapshot_words s ++ past_words es))) ≡ 12
    by None es = ap (λ (m : ℕ). suc (suc (suc (suc (suc (suc (suc (suc m)))))))) (four es)
    by (Some s) es = ap (λ (m : ℕ). suc (suc (suc (suc (suc (suc (suc (suc m)))))))) (four es)

pub key-long : (k : SnapshotKey) → length (snapshot_key_words k) ≡ 4
unfolding snapshot_key_words
key-long k = refl

pub contested-long : (c : ContestedKey) → length (contested_words c) ≡ 6
unfolding contested_words
contested-long c = refl
