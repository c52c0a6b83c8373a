-- Every list of calls has an unbroken run, where each is lent no more words than the tables have at the start: no call changes how long they are.
use Prim.Native.Nat.{◌≤◌}
use mathlib.Core.Path.{◌≡◌, refl, sym, subst}
use mathlib.Core.Bool.{true}
use mathlib.Core.List.{List, [], ◌∷◌}
use lib.Seq.{length-take-le}
use Rattle.questions.proofs.Tests.{both}
use Rattle.questions.specs.Lists.{all}
use Rattle.peers.specs.Peers.State as peer-state
use Rattle.image.specs.Image.{State}
use Rattle.run.specs.Run.{Memory, Lent, Move, Shown, Runs, Unbroken, lend, lent_by}
use Rattle.run.specs.Typed.{typed_what, typed_move}
use Rattle.run.specs.Trace.{after}
use Rattle.run.proofs.Standing.Stands.{Stands}
use Rattle.run.proofs.Standing.Stepped.{steps-stand, steps-long}
use Rattle.run.proofs.Standing.CanStep.{can-step}

-- so many words are no more than the tables have
pub record Within (n have : Lent) : Type 0 where
  pub keys : n.limiter.keys ≤ have.limiter.keys
  pub hot : n.limiter.hot ≤ have.limiter.hot
  pub shadows : n.limiter.shadows ≤ have.limiter.shadows
  pub peers : n.peers.peers ≤ have.peers.peers
  pub snapshot_keys : n.peers.snapshot_keys ≤ have.peers.snapshot_keys
  pub contested : n.peers.contested ≤ have.peers.contested

-- each call of a list is lent no more
abbrev pub AllWithin : Lent → List Move → Type 0
AllWithin have [] = Unit
AllWithin have (Move.call c ∷ ms) = Within c.lent have × AllWithin have ms
AllWithin have (Move.resume w ∷ ms) = AllWithin have ms

-- so there are as many words as it is lent
pub within-enough : (n : Lent) (h : Memory) → Within n (lent_by h) → lent_by (lend n h) ≡ n
unfolding peer-state.lengths
within-enough n h w =
    (λ i. record {
      limiter =
          record {
            keys = length-take-le n.limiter.keys h.tables.keys w.keys i;
            hot = length-take-le n.limiter.hot h.tables.hot w.hot i;
            shadows = length-take-le n.limiter.shadows h.tables.shadows w.shadows i;
          };
      peers =
          record {
            peers = length-take-le n.peers.peers h.peer_tables.peers w.peers i;
            snapshot_keys = length-take-le n.peers.snapshot_keys h.peer_tables.snapshot_keys w.snapshot_keys i;
            contested = length-take-le n.peers.contested h.peer_tables.contested w.contested i;
          };
    })

-- so there is a run, from whatever stands for a state
pub can-run : {h : Memory} {s : State} (ms : List Move) → all typed_move ms ≡ true → Stands h s → AllWithin (lent_by h) ms
    → (xs : List Shown) × (last : Memory) × Unbroken h ms xs last
unfolding all
can-run {h} [] w st fit = ([], h, Runs.end)
can-run {h} {s} (Move.call c ∷ ms) w st fit =
    let b = both (typed_what c.what) (all typed_move ms) w in
    let z = can-step h c b.0 (within-enough c.lent h fit.0) in
    let rest =
    can-run {h = z.1} {s = after c.lent c.what s} ms b.1 (steps-stand st b.0 z.2)
    (subst (λ (n : Lent). AllWithin n ms) (sym (steps-long st b.0 z.2)) fit.1) in
    (_, rest.1, Runs.calls z.2 rest.2)
can-run {h} {s} (Move.resume m ∷ ms) w st fit =
    let rest = can-run {h = h} {s = s} ms (both true (all typed_move ms) w).1 st fit in
    (_, rest.1, Runs.resumes refl rest.2)
