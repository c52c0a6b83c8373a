-- Laws: what a tick is told of the others: nothing where there are no peers, else the peers' flags of its keys and totals of its hot keys.
use mathlib.Core.Path.{◌≡◌, refl, sym, ap, ◌∙◌}
use mathlib.Core.Bool.{Bool, true, false, ◌&&◌}
use mathlib.Core.List.{List, [], ◌∷◌, ◌++◌, map}
use Prim.Native.Nat.{ℕ, zero, suc, ◌*◌, ◌≤◌, ◌<◌}
use native.Mathlib.Nat.{le_of_suc-le-suc, not-suc-le-zero}
use native.Mathlib.Omega.{arith}
use borrow.Author.Tests.{lt-ltb, le-leb}
use lib.Dec.{ltb, leb}
use lib.Ieee.{Float}
use lib.ListN.{length, take, drop, get_or, replicate, length-map}
use lib.Seq.{take_at}
use Rattle.records.specs.Records.{records, fits}
use Rattle.records.proofs.Words.RecordLaws.{length-records}
use Rattle.questions.proofs.Tests.{both, and_intro}
use Rattle.questions.specs.Questions.{passes}
use Rattle.questions.proofs.Answers.{changed-passed}
use Rattle.hot.specs.declared.hot_set.HotEntry.{HotEntry}
use Rattle.peers.specs.declared.peer_demand.PeerDemand.{PeerDemand}
use Rattle.demand.specs.Allocation.{is_cluster_size}
use Rattle.hot.specs.HotSet.Set.{entry, entries}
use Rattle.peers.specs.Peers.State as peer-state
use Rattle.peers.specs.Peers.State.{PeersState, PeerTables}
use Rattle.peers.specs.Peers.Readers.{told, total, hot_elsewhere}
use Rattle.peers.specs.Peers.Calls.{peers_questions, each_questions, TellsEach}
use Rattle.questions.proofs.ListLaws.{map-map}
use Rattle.limiter.specs.declared.Limiter.{Limiter}
use Rattle.limiter.specs.State.{KeyRecord, LimiterTables, lengths, have_room, is_valid, key_of, units_in}
use Rattle.limiter.specs.Checks.{cluster_questions}
use Rattle.limiter.specs.Calls.{both_questions}
use Rattle.limiter.specs.Steps.TickSteps.{key_records}
use Rattle.gcra.specs.declared.Units.{Units}
use Rattle.std.specs.declared.result.Result.{Result}
use Rattle.questions.specs.declared.Refusal.{Refusal}

-- ---- questions that passed

-- 7
pub size-passed : (n : ℕ) → passes (cluster_questions n) ≡ true → is_cluster_size n ≡ true
unfolding passes
size-passed n e = (both (is_cluster_size n) true e).0

-- 1 and 2 of both, and 7
pub record BothPassed (l : Limiter) (t : LimiterTables) (p : PeerDemand) (pt : PeerTables) (n : ℕ) : Type 0 where
  pub room : have_room l.config (lengths t) ≡ true
  pub ok : is_valid (units_in l) l t ≡ true
  pub peers : passes (peers_questions p pt) ≡ true
  pub size : is_cluster_size n ≡ true

pub both-passed :
    (l : Limiter) (t : LimiterTables) (p : PeerDemand) (pt : PeerTables) (n : ℕ) → passes (both_questions l t p pt ++ cluster_questions n) ≡ true
    → BothPassed l t p pt n
unfolding passes
both-passed l t p pt n e =
    let a = both (have_room l.config (lengths t) && peer-state.have_room (peer-state.lengths pt)) _ e in
    let b = both (is_valid (units_in l) l t && peer-state.is_valid p pt) _ a.1 in
    let c = both (have_room l.config (lengths t)) _ a.0 in
    let d = both (is_valid (units_in l) l t) _ b.0 in
    record {
      room = c.0;
      ok = d.0;
      peers = and_intro (peer-state.have_room (peer-state.lengths pt)) _ c.1 (and_intro (peer-state.is_valid p pt) true d.1 refl);
      size = (both (is_cluster_size n) true b.1).0;
    }

-- ---- no peers hold a key
none_of : {A : Type 0} (xs : List A) (m : ℕ) → length xs ≤ m → take (length xs) (replicate m false) ≡ map (λ x. false) xs
none_of [] m h = refl
none_of (x ∷ xs) zero h = absurd (not-suc-le-zero h)
none_of (x ∷ xs) (suc m) h = ap (λ (bs : List Bool). false ∷ bs) (none_of xs m (le_of_suc-le-suc h))

pub none_elsewhere : (u : Units) (n : ℕ) (keys : List ℕ) → n ≤ 4096 → take n (replicate 4096 false) ≡ map (λ (k : KeyRecord). false) (key_records u n keys)
none_elsewhere u n keys h =
    let m : length (key_records u n keys) ≡ n = length-map (records 22 n keys) (key_of u) ∙ length-records 22 n keys in
    ap (λ (i : ℕ). take i (replicate 4096 false)) (sym m) ∙ none_of (key_records u n keys) 4096 (omega (arith, m))

-- ---- what the peers tell
module _ (p : PeerDemand) (pt : PeerTables) (ok : passes (peers_questions p pt) ≡ true) where
  abbrev state : PeersState
  state = peer-state.state_of p pt

  -- of each of n records
  each-told :
      {A :
      Type 0} (tell : ℕ → PeersState → A) (w n : ℕ) (keys : List ℕ) (out : List A) (r : Result Unit Refusal) (out' : List A)
      → TellsEach tell p pt w n keys out r out' → 0 < w → n * w ≤ length keys → n ≤ length out
      → take n out' ≡ map (λ (x : List ℕ). tell (get_or x 0 0) state) (records w n keys)
  unfolding passes fits told
  each-told tell w n keys out r out' e h k g =
      let a = both (peer-state.have_room (peer-state.lengths pt)) _ ok in
      let b = both (peer-state.is_valid p pt) _ a.1 in
      let q = and_intro (fits (length keys) w n) _ (and_intro (ltb 0 w) _ (lt-ltb 0 w h) (le-leb (n * w) (length keys) k))
      (and_intro (peer-state.have_room (peer-state.lengths pt)) _ a.0
      (and_intro (peer-state.is_valid p pt) _ b.0 (and_intro (leb n (length out)) true (le-leb n (length out) g) refl))) in
      ap (take n) (e.output ∙ sym (changed-passed (told tell state w n keys out) out (each_questions p pt (length keys) w n (length out)) q))
      ∙ take_at (map (λ (x : List ℕ). tell (get_or x 0 0) state) (records w n keys)) (drop n out) n
      (length-map (records w n keys) _ ∙ length-records w n keys)

  -- the flags of the keys
  pub told-elsewhere :
      (u : Units) (n : ℕ) (keys : List ℕ) (out : List Bool) (r : Result Unit Refusal) (out' : List Bool) → TellsEach hot_elsewhere p pt 22 n keys out r out'
      → n * 22 ≤ length keys → n ≤ length out → take n out' ≡ map (λ (k : KeyRecord). hot_elsewhere k.key state) (key_records u n keys)
  unfolding key_of
  told-elsewhere u n keys out r out' e h g =
      each-told hot_elsewhere 22 n keys out r out' e (omega arith) h g
      ∙ sym (map-map (λ (k : KeyRecord). hot_elsewhere k.key state) (key_of u) (records 22 n keys))

  -- the totals of the hot keys
  pub told-totals :
      (n : ℕ) (hot : List ℕ) (out : List Float) (r : Result Unit Refusal) (out' : List Float) → TellsEach total p pt 6 n hot out r out'
      → n * 6 ≤ length hot → n ≤ length out → take n out' ≡ map (λ (x : HotEntry). total x.key state) (entries n hot)
  unfolding entry entries
  told-totals n hot out r out' e h g =
      each-told total 6 n hot out r out' e (omega arith) h g ∙ sym (map-map (λ (x : HotEntry). total x.key state) entry (records 6 n hot))

-- the same of entries that are those
pub totals-of :
    (p : PeersState) (n : ℕ) (es es' : List HotEntry) (ts : List Float) → n ≡ length es' → es ≡ es'
    → take n ts ≡ map (λ (x : HotEntry). total x.key p) es
    → take (length es') ts ≡ map (λ (x : HotEntry). total x.key p) es'
totals-of p n es es' ts c q e = ap (λ (m : ℕ). take m ts) (sym c) ∙ e ∙ ap (map (λ (x : HotEntry). total x.key p)) q
