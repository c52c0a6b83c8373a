-- A run that reaches the bound exists: `Tight`'s calls on a new limiter and its peers, each call by its function's promise, with the answers that are
-- written out there. Demand 3's premises hold of it.
use Prim.Native.Nat.{ℕ}
use native.Mathlib.Nat.{le_refl}
use mathlib.Core.Path.{◌≡◌, refl, sym, ap, subst}
use mathlib.Core.Bool.{true}
use mathlib.Core.List.{List}
use lib.Ieee.{fits, of_int, of_bits, le}
use lib.ListN.{length, replicate, length-replicate}
use Rattle.questions.specs.Lists.{all}
use Rattle.questions.specs.Questions.{passes}
use Rattle.questions.proofs.Tests.{and_intro}
use Rattle.demand.specs.Allocation.{is_rate, is_floor_factor}
use Rattle.peers.specs.Peers.State as peer-state
use Rattle.peers.specs.Peers.State.{PeerTables}
use Rattle.peers.specs.Peers.Calls as peers
use Rattle.limiter.specs.State.{LimiterTables, lengths, have_room, within, is_alpha, are_sizes}
use Rattle.limiter.specs.Calls.{new_questions}
use Rattle.run.specs.Run.{Memory, Lent, Shown, Unbroken, Started, lent_by}
use Rattle.run.specs.Typed.{typed, typed_config, typed_move}
use Rattle.run.specs.Demand3.{Claim}
use Rattle.run.proofs.Standing.Began.{begun, can-start, started-stands}
use Rattle.run.proofs.Standing.Shows.{unbroken-shows}
use Rattle.run.proofs.Standing.CanRun.{Within, AllWithin, can-run}
use Rattle.run.proofs.Demand3Laws.{demand3}
use Rattle.run.proofs.Count.Tight.{settings, enough, moves, Reached, reached}

-- ---- the tables that are held: zeros, as many words as are lent

pub zeros : ℕ → List ℕ
zeros n = replicate n 0

pub length-zeros : (n : ℕ) → length (zeros n) ≡ n
unfolding zeros
length-zeros n = length-replicate n 0

abbrev pub held : LimiterTables
held = record { keys = zeros enough.limiter.keys; hot = zeros enough.limiter.hot; shadows = zeros enough.limiter.shadows }

abbrev pub held_peers : PeerTables
held_peers =
    record {
      peers = zeros enough.peers.peers;
      snapshot_keys = zeros enough.peers.snapshot_keys;
      contested = zeros enough.peers.contested;
    }

abbrev begin : Memory
begin = begun settings held held_peers

pub held-long : lent_by begin ≡ enough
unfolding peer-state.lengths
held-long =
    (λ i. record {
      limiter =
          record {
            keys = length-zeros enough.limiter.keys i;
            hot = length-zeros enough.limiter.hot i;
            shadows = length-zeros enough.limiter.shadows i;
          };
      peers =
          record {
            peers = length-zeros enough.peers.peers i;
            snapshot_keys = length-zeros enough.peers.snapshot_keys i;
            contested = length-zeros enough.peers.contested i;
          };
    })

-- they pass the questions of `new`
pub limiter-passes : passes (new_questions settings held) ≡ true
unfolding passes within is_rate is_alpha is_floor_factor are_sizes of_int of_bits le
limiter-passes = and_intro (have_room settings (lengths held)) _ (ap (λ (n : Lent). have_room settings n.limiter) held-long) refl

pub peers-pass : passes (peers.new_questions held_peers) ≡ true
unfolding passes peer-state.have_room
peers-pass = and_intro (peer-state.have_room (peer-state.lengths held_peers)) _ (ap (λ (n : Lent). peer-state.have_room n.peers) held-long) refl

-- ---- the calls

pub settings-typed : typed_config settings ≡ true
unfolding fits of_bits
settings-typed = refl

moves-typed : all typed_move moves ≡ true
unfolding moves all typed fits of_bits
moves-typed = refl

pub within-itself : (n : Lent) → Within n n
within-itself n =
    record {
      keys = le_refl n.limiter.keys;
      hot = le_refl n.limiter.hot;
      shadows = le_refl n.limiter.shadows;
      peers = le_refl n.peers.peers;
      snapshot_keys = le_refl n.peers.snapshot_keys;
      contested = le_refl n.peers.contested;
    }

moves-within : AllWithin enough moves
unfolding moves
moves-within = let w = within-itself enough in (w, (w, (w, (w, (w, (w, (w, tt)))))))

-- ---- the run

pub record Ran : Type 0 where
  -- what the program holds when `new` has returned
  pub start : Memory
  pub started : Started settings start
  -- what the run shows and leaves
  pub shown : List Shown
  pub left : Memory
  pub run : Unbroken start moves shown left
  -- its answers, the 4 checks that it allows, the bound of 4 and the premises of the count
  pub reached : Reached shown
  -- demand 3 of it, whose own premises are met
  pub typed_settings : typed_config settings ≡ true
  pub typed_moves : all typed_move moves ≡ true
  pub claim : Claim settings start moves

pub ran : Ran
ran =
    let started : Started settings begin = can-start settings held held_peers limiter-passes peers-pass in
    let stands = started-stands settings-typed started in
    let z = can-run moves moves-typed stands (subst (λ (n : Lent). AllWithin n moves) (sym held-long) moves-within) in
    record {
      start = begin;
      started = started;
      shown = z.0;
      left = z.1;
      run = z.2;
      reached = subst Reached (sym (unbroken-shows moves moves-typed stands z.2).0) reached;
      typed_settings = settings-typed;
      typed_moves = moves-typed;
      claim = demand3 settings begin settings-typed started moves moves-typed;
    }
