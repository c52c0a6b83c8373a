-- A run through the library that reaches the bound exists: the calls of `run`'s `Tight` under C names, on the words that the two `new` wrote. Demand 3's
-- premises hold of it, and those of the count.
use native.Mathlib.Omega.{arith}
use mathlib.Core.Path.{◌≡◌, refl, sym, ap, ◌∙◌, subst}
use mathlib.Core.Bool.{true}
use mathlib.Core.List.{List, [], ◌∷◌, map}
use lib.Ieee.{fits, of_bits}
use Rattle.questions.specs.Lists.{all}
use Rattle.image.specs.Image.{State}
use Rattle.run.specs.Run as run
use Rattle.run.specs.Run.{Change, What}
use Rattle.run.specs.Typed.{typed, typed_config}
use Rattle.run.specs.Seen.{Seen, allowed_in, Premises}
use Rattle.run.specs.Trace.{new_states, trace}
use Rattle.run.proofs.Standing.CanRun as values
use Rattle.run.proofs.Standing.Shows.{shown_by}
use Rattle.run.proofs.Count.Tight as tight
use Rattle.run.proofs.Count.Tight.{settings, enough, changes, bound_of, reached}
use Rattle.run.proofs.Count.Witness.{zeros, length-zeros, held, held_peers, held-long, limiter-passes, peers-pass, settings-typed, within-itself}
use Rattle.library_run.specs.Calls.{Buffers}
use Rattle.library_run.specs.Runs.{Move, Shown, Unbroken, Started, lent_by}
use Rattle.library_run.specs.Trace.{moves_in, shown_in}
use Rattle.library_run.specs.Demand3.{typed_move, Fit, Claim}
use Rattle.library_run.proofs.Calls.Stepped.{Stands}
use Rattle.library_run.proofs.Runs.Shows.{unbroken-shows}
use Rattle.library_run.proofs.Runs.Began.{started-stands}
use Rattle.library_run.proofs.Runs.CanRun.{Within, AllWithin, can-run}
use Rattle.library_run.proofs.Count.CountLaws.{trace-same}
use Rattle.library_run.proofs.Demand3Laws.{library-demand3}

-- ---- the buffers: zeros, as many words as are lent

abbrev zeroed : Buffers
zeroed = record { limiter = zeros 16; tables = held; peers = zeros 3; peer_tables = held_peers }

fit : Fit settings zeroed
fit = record { limiter_into = omega (arith, length-zeros 16); peers_into = omega (arith, length-zeros 3); limiter = limiter-passes; peers = peers-pass }

-- ---- the calls, each with two words for its answer, which are 1 before it

abbrev calls : Change → Move
calls x =
    Move.call (record {
      lent = record { limiter = 16; peers = 3; tables = enough };
      what = What.changes x;
      answer = 1 ∷ 1 ∷ [];
      report = [];
    })

unfoldable pub moves : List Move
moves = map calls changes

moves-typed : all typed_move moves ≡ true
unfolding moves all typed fits of_bits
moves-typed = refl

-- they are those of `Tight`
moves-same : moves_in moves ≡ tight.moves
unfolding moves moves_in tight.moves
moves-same = refl

-- what a run of them that showed xs shows of the key
abbrev pub seen-of-key : List Shown → List Seen
seen-of-key xs = trace 1 (new_states settings) (moves_in moves) (shown_in moves xs)

-- and lent no more than there is
moves-within : {b : Buffers} {s : State} → Stands b s → (lent_by b).tables ≡ enough → AllWithin (lent_by b) moves
unfolding moves
moves-within {b} st e =
    let w : Within (record { limiter = 16; peers = 3; tables = enough }) (lent_by b) =
    record {
      limiter = st.long;
      peers = st.peers_long;
      tables = subst (λ (n : run.Lent). values.Within enough n) (sym e) (within-itself enough);
    } in
    (w, (w, (w, (w, (w, (w, (w, tt)))))))

-- ---- the run

pub record Ran : Type 0 where
  -- what is kept when the two `new` have returned
  pub start : Buffers
  pub started : Started settings zeroed start
  -- what the run shows and leaves
  pub shown : List Shown
  pub left : Buffers
  pub run : Unbroken start moves shown left
  -- it allows 4 checks of the key, as the caller reads it, the bound is 4, and the premises of the count are met
  pub four : allowed_in (seen-of-key shown) ≡ 4
  pub at_most_four : bound_of (seen-of-key shown) ≡ 4
  pub premises : Premises (seen-of-key shown)
  -- demand 3 of it, whose own premises are met
  pub typed_settings : typed_config settings ≡ true
  pub typed_moves : all typed_move moves ≡ true
  pub claim : Claim settings start moves

pub ran : Ran
ran =
    let z = (library-demand3.starts settings zeroed fit).started in
    let stands = started-stands z.2 settings-typed in
    let r = can-run moves moves-typed stands (moves-within stands held-long) in
    let e : seen-of-key r.0 ≡ tight.seen-of-key (shown_by (new_states settings) tight.moves) =
    ap seen-of-key (unbroken-shows moves moves-typed stands r.2).0
    ∙ trace-same 1 (new_states settings) moves
    ∙ ap (λ (ms : List run.Move). trace 1 (new_states settings) ms (shown_by (new_states settings) ms)) moves-same in
    record {
      start = _;
      started = z.2;
      shown = r.0;
      left = r.1;
      run = r.2;
      four = ap allowed_in e ∙ reached.four;
      at_most_four = ap bound_of e ∙ reached.at_most_four;
      premises = subst Premises (sym e) reached.premises;
      typed_settings = settings-typed;
      typed_moves = moves-typed;
      claim = library-demand3.claims settings zeroed _ settings-typed z.2 moves moves-typed;
    }
