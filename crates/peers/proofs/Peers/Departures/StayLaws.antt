-- Laws: what stays of the peers' state as time goes, by the words of its records.
use Rattle.std.proofs.Common.{◌≡◌, ℕ, zero, suc, ◌+◌, ◌*◌, ◌<◌, Bool, true, false, cond, not, ◌&&◌, ◌||◌, eqb, ltb, leb, List, [], ◌∷◌, map, get_or, sym, refl, ap, ◌∙◌, arith, ltb-false, ltb-true, le-leb}
use mathlib.Core.Bool.{and_comm, and_assoc}
use borrow.Author.Tests.{lt-leb}
use Rattle.records.specs.declared.Found.TheVariants.{At, Gap}
use Rattle.records.specs.Records.{records, find_in}
use Rattle.questions.proofs.Tests.{contradiction, split}
use Rattle.questions.specs.Lists.{any, present}
use Rattle.records.specs.Fields.{time_of, flag_of}
use Rattle.peers.specs.Peers.Records.{Snapshot, PeerRecord, ContestedKey, snapshot_of, peer_of, peer_words}
use Rattle.peers.specs.Peers.State.{is_known, is_taken, is_held, has_snapshot}
use Rattle.peers.specs.Peers.Changes.{hold_ended, not_ended, is_fresh, is_fresh_snapshot, is_exempt, age_peer}
use Rattle.peers.specs.Peers.Steps.Stays.{place_of, stays_contested, is_stale, stays_peer}
use Rattle.questions.proofs.OnlyLaws.{any_same, any-only}
use Rattle.records.proofs.Words.FieldLaws.{flag_is}
use Rattle.records.proofs.Words.RowLaws.{word-at}
use Rattle.records.proofs.Tables.TabledLaws.{InOrder, any_at, any-gap}
use Rattle.peers.proofs.Peers.Tables.TableLaws.{place_some, place_none}
use Rattle.std.specs.declared.option.Option.{Option}
use Rattle.std.specs.declared.option.Option.TheVariants.{None, Some}

not-le : (a b : ℕ) → ltb a b ≡ not (leb b a)
not-le a b = split (ltb a b)
    (λ e. e ∙ sym (ap not (lt-leb b a (ltb-true a b e))))
    (λ e. e ∙ sym (ap not (le-leb b a (ltb-false a b e))))

-- ---- a contested key, by its peer's record

last-first-of-three : (a b c : Bool) → (a && (b && c)) ≡ (b && (c && a))
last-first-of-three a b c = and_comm a (b && c) ∙ and_assoc b c a

-- does a key stay whose peer is held so?
abbrev pub stays_by : ℕ → Option ℕ → Bool → Bool
stays_by at held fresh = not (hold_ended at held) && ((present held && not (hold_ended at held)) || fresh)

-- the tests of the peers whose hold has not ended
module _ (at id : ℕ) (ps : List PeerRecord) where
  known_is : is_known (not_ended at ps) id ≡ any (λ (p : PeerRecord). eqb p.id id && not (hold_ended at p.held_until)) ps
  unfolding is_known
  known_is =
      any-only (λ (p : PeerRecord). eqb p.id id) (λ (p : PeerRecord). not (hold_ended at p.held_until)) ps
      ∙ any_same (λ (p : PeerRecord). not (hold_ended at p.held_until) && eqb p.id id) (λ (p : PeerRecord). eqb p.id id && not (hold_ended at p.held_until))
      (λ (p : PeerRecord). and_comm (not (hold_ended at p.held_until)) (eqb p.id id)) ps

  held-is : is_exempt is_held (not_ended at ps) id ≡ any (λ (p : PeerRecord). eqb p.id id && (is_held p && not (hold_ended at p.held_until))) ps
  unfolding is_exempt
  held-is =
      any-only (λ (p : PeerRecord). eqb p.id id && is_held p) (λ (p : PeerRecord). not (hold_ended at p.held_until)) ps
      ∙ any_same (λ (p : PeerRecord). not (hold_ended at p.held_until) && (eqb p.id id && is_held p)) (λ (p : PeerRecord). eqb p.id id && (is_held p && not (hold_ended at p.held_until)))
      (λ (p : PeerRecord). last-first-of-three (not (hold_ended at p.held_until)) (eqb p.id id) (is_held p)) ps

module _ (n : ℕ) (xs : List ℕ) (o : InOrder 12 1 n xs) (at age heard : ℕ) where
  abbrev stays : ℕ → Bool
  stays id = stays_contested at age (map peer_of (records 12 n xs)) id heard

  stays_at : (id i : ℕ) → At i ≡ find_in 12 1 n id 0 xs → stays id ≡ stays_by at (peer_of (get_or (records 12 n xs) i [])).held_until (is_fresh at age heard)
  unfolding stays_contested peer_of
  stays_at id i e =
      let ps : List PeerRecord = map peer_of (records 12 n xs) in
      (λ k.
      (known_is at id ps ∙ any_at 12 n id xs o peer_of (λ (p : PeerRecord). p.id) (λ r. refl) (λ (p : PeerRecord). not (hold_ended at p.held_until)) i e) k
      && ((held-is at id ps ∙ any_at 12 n id xs o peer_of (λ (p : PeerRecord). p.id) (λ r. refl) (λ (p : PeerRecord). is_held p && not (hold_ended at p.held_until)) i e) k || is_fresh at age heard))

  stays-gap : (id i : ℕ) → Gap i ≡ find_in 12 1 n id 0 xs → stays id ≡ false
  unfolding stays_contested peer_of
  stays-gap id i e =
      let ps : List PeerRecord = map peer_of (records 12 n xs) in
      ap (λ (b : Bool). b && (is_exempt is_held (not_ended at ps) id || is_fresh at age heard))
      (known_is at id ps ∙ any-gap 12 n id xs o peer_of (λ (p : PeerRecord). p.id) (λ r. refl) (λ (p : PeerRecord). not (hold_ended at p.held_until)) i e)

  -- of the peer at a place, by its words, and where there is none
  pub stays_here : (id i : ℕ) → i < n → Some i ≡ place_of n id xs → stays id ≡ stays_by at (time_of (get_or xs (i * 12 + 1) 0) (get_or xs (i * 12 + 2) 0)) (is_fresh at age heard)
  unfolding peer_of
  stays_here id i h e =
      stays_at id i (place_some n id i xs e)
      ∙ (λ k. stays_by at (time_of (word-at 12 n xs i 1 h (omega arith) k) (word-at 12 n xs i 2 h (omega arith) k)) (is_fresh at age heard))

  pub stays-not : (id : ℕ) → None ≡ place_of n id xs → false ≡ stays id
  stays-not id = place_none n id xs o stays (stays-gap id)

-- by the words of the hold
pub held_stays : (at flag until : ℕ) (fresh : Bool) → (flag ≡ 0 → ⊥) → ltb at until ≡ stays_by at (time_of flag until) fresh
held_stays at zero until fresh h = absurd (h refl)
held_stays at (suc flag) until fresh h = not-le at until ∙ twice (not (leb until at)) fresh
  where
    twice : (b c : Bool) → b ≡ (b && (b || c))
    twice false c = refl
    twice true c = refl

pub free_stays : (at flag until : ℕ) (fresh : Bool) → flag ≡ 0 → fresh ≡ stays_by at (time_of flag until) fresh
free_stays at zero until fresh h = refl
free_stays at (suc flag) until fresh h = let z : ⊥ = omega arith in absurd z

-- ---- a snapshot key, by its peer's record

-- a snapshot is there where its flag is set
pub taken-flag : (w e r h : ℕ) → flag_of w ≡ present (snapshot_of w e r h)
taken-flag zero e r h = refl
taken-flag (suc w) e r h = refl

module _ (n : ℕ) (xs : List ℕ) (o : InOrder 12 1 n xs) where
  abbrev taken : ℕ → Bool
  taken id = has_snapshot (map peer_of (records 12 n xs)) id

  -- of the peer at a place, by its words, and where there is none
  pub taken_here : (id i : ℕ) → i < n → Some i ≡ place_of n id xs → taken id ≡ not (eqb (get_or xs (i * 12 + 3) 0) 0)
  unfolding has_snapshot peer_of
  taken_here id i h e =
      any_at 12 n id xs o peer_of (λ (p : PeerRecord). p.id) (λ r. refl) is_taken i (place_some n id i xs e)
      ∙ sym (flag_is (get_or (get_or (records 12 n xs) i []) 3 0) ∙ taken-flag (get_or (get_or (records 12 n xs) i []) 3 0) _ _ _)
      ∙ ap (λ (w : ℕ). not (eqb w 0)) (word-at 12 n xs i 3 h (omega arith))

  pub taken-not : (id : ℕ) → None ≡ place_of n id xs → false ≡ taken id
  unfolding has_snapshot peer_of
  taken-not id = place_none n id xs o taken (any-gap 12 n id xs o peer_of (λ (p : PeerRecord). p.id) (λ r. refl) is_taken)

-- ---- a peer

module _ (at id held until taken : ℕ) (cs : List ContestedKey) where
  pub held-peer : (held ≡ 0 → ⊥) → ltb at until ≡ stays_peer at cs id (time_of held until) (flag_of taken)
  unfolding stays_peer
  held-peer h = by held h
    where
      by : (flag : ℕ) → (flag ≡ 0 → ⊥) → ltb at until ≡ (not (hold_ended at (time_of flag until)) && (present (time_of flag until) || (flag_of taken || any (λ (c : ContestedKey). eqb c.peer id) cs)))
      by zero k = absurd (k refl)
      by (suc flag) k = not-le at until ∙ ends (not (leb until at))
        where
          ends : (b : Bool) → b ≡ (b && true)
          ends false = refl
          ends true = refl

  pub taken-peer : held ≡ 0 → (taken ≡ 0 → ⊥) → true ≡ stays_peer at cs id (time_of held until) (flag_of taken)
  unfolding stays_peer
  taken-peer h k = by held taken h k
    where
      by : (flag flag' : ℕ) → flag ≡ 0 → (flag' ≡ 0 → ⊥) → true ≡ (not (hold_ended at (time_of flag until)) && (present (time_of flag until) || (flag_of flag' || any (λ (c : ContestedKey). eqb c.peer id) cs)))
      by zero zero e f = absurd (f refl)
      by zero (suc flag') e f = refl
      by (suc flag) flag' e f = let z : ⊥ = omega arith in absurd z

  pub bare-peer : held ≡ 0 → taken ≡ 0 → any (λ (c : ContestedKey). eqb c.peer id) cs ≡ stays_peer at cs id (time_of held until) (flag_of taken)
  unfolding stays_peer
  bare-peer h k = by held taken h k
    where
      by : (flag flag' : ℕ) → flag ≡ 0 → flag' ≡ 0 → any (λ (c : ContestedKey). eqb c.peer id) cs ≡ (not (hold_ended at (time_of flag until)) && (present (time_of flag until) || (flag_of flag' || any (λ (c : ContestedKey). eqb c.peer id) cs)))
      by zero zero e f = refl
      by zero (suc flag') e f = let z : ⊥ = omega arith in absurd z
      by (suc flag) flag' e f = let z : ⊥ = omega arith in absurd z

-- ---- a snapshot that is too old

-- only the flags and the time count
pub stale-same : (at age held until taken epoch round heard : ℕ) → is_stale at age (time_of held 0) (snapshot_of taken 0 0 heard) ≡ is_stale at age (time_of held until) (snapshot_of taken epoch round heard)
unfolding is_stale
stale-same at age zero until zero epoch round heard = refl
stale-same at age zero until (suc taken) epoch round heard = refl
stale-same at age (suc held) until zero epoch round heard = refl
stale-same at age (suc held) until (suc taken) epoch round heard = refl

not_is : (b c : Bool) → not b ≡ c → b ≡ not c
not_is false c e = ap not e
not_is true c e = ap not e

pub aged-not : (at age : ℕ) (p : PeerRecord) → is_stale at age p.held_until p.snapshot ≡ false → age_peer is_held at age p ≡ p
unfolding is_stale
aged-not at age p e =
    ap (λ (b : Bool). cond b p (record { id = p.id; held_until = p.held_until; snapshot = None; past_epochs = [] }))
    (not_is (is_held p || is_fresh_snapshot at age p.snapshot) false e)

pub aged-bare : (at age id : ℕ) (held : Option ℕ) (taken : Option Snapshot) (past : List ℕ) → is_stale at age held taken ≡ true → peer_words (age_peer is_held at age (record { id = id; held_until = held; snapshot = taken; past_epochs = past })) ≡ id ∷ 0 ∷ 0 ∷ 0 ∷ 0 ∷ 0 ∷ 0 ∷ 0 ∷ 0 ∷ 0 ∷ 0 ∷ 0 ∷ []
unfolding is_stale peer_words
aged-bare at age id (Some until) taken past e = contradiction (sym e)
aged-bare at age id None taken past e =
    ap (λ (b : Bool). peer_words (cond b (record { id = id; held_until = None; snapshot = taken; past_epochs = past }) (record { id = id; held_until = None; snapshot = None; past_epochs = [] })))
    (not_is (is_fresh_snapshot at age taken) true e)
