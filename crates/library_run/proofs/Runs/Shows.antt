-- A run through the library, from words that stand for a state, shows what the definitions say and the images of their states.
use mathlib.Core.Path.{◌≡◌, refl, sym, subst}
use mathlib.Core.Bool.{true}
use mathlib.Core.List.{List, [], ◌∷◌}
use Rattle.questions.proofs.Tests.{both}
use Rattle.questions.specs.Lists.{all}
use Rattle.image.specs.Image.{State, image}
use Rattle.run.proofs.Standing.Shows.{same-image}
use Rattle.library_run.specs.Calls.{Buffers}
use Rattle.library_run.specs.Runs.{Resume, Move, Shown, Runs, GoesOn, Unbroken}
use Rattle.library_run.specs.Demand3.{typed_call, typed_move}
use Rattle.library_run.proofs.Calls.Stepped.{Stands, said_of, next, steps-lead}

-- what the definitions show, and the state after the list
unfoldable pub shown_by : State → List Move → List Shown
shown_by s [] = []
shown_by s (Move.call c ∷ ms) = Shown.answered (said_of c s) (image (next c s)) ∷ shown_by (next c s) ms
shown_by s (Move.resume w ∷ ms) = Shown.resumed (image s) ∷ shown_by s ms

unfoldable pub state_after : State → List Move → State
state_after s [] = s
state_after s (Move.call c ∷ ms) = state_after (next c s) ms
state_after s (Move.resume w ∷ ms) = state_after s ms

-- any run whose resumptions keep the state
module _ (At : Buffers → Resume → Buffers → Type 0) (keeps : (b b' : Buffers) (s : State) (w : Resume) → Stands b s → At b w b' → Stands b' s) where
  pub run-shows :
      {b last : Buffers} {s : State} (ms : List Move) {xs : List Shown} → all typed_move ms ≡ true → Stands b s → Runs At b ms xs last
      → (xs ≡ shown_by s ms) × Stands last (state_after s ms)
  unfolding shown_by state_after all
  run-shows [] w st Runs.end = (refl, st)
  run-shows {b = b} {s = s} (Move.call c ∷ ms) w st (Runs.calls {b' = b'} step rest) =
      let k = both (typed_call c) (all typed_move ms) w in
      let u = steps-lead c k.0 st step in
      let z = run-shows {b = b'} ms k.1 u.stands rest in
      ((λ i. Shown.answered (u.says i) (same-image u.stands.values i) ∷ z.0 i), z.1)
  run-shows {b} {last} {s} (Move.resume w ∷ ms) t st (Runs.resumes {b' = b'} at rest) =
      let k = both true (all typed_move ms) t in
      let st' = keeps b b' s w st at in
      let z = run-shows {b = b'} ms k.1 st' rest in
      ((λ i. Shown.resumed (same-image st'.values i) ∷ z.0 i), z.1)

-- nothing happens there in the unbroken run
pub unbroken-shows :
    {b last : Buffers} {s : State} (ms : List Move) {xs : List Shown} → all typed_move ms ≡ true → Stands b s → Unbroken b ms xs last
    → (xs ≡ shown_by s ms) × Stands last (state_after s ms)
unbroken-shows ms w st u = run-shows GoesOn (λ b b' s x held e. subst (λ (y : Buffers). Stands y s) (sym e) held) ms w st u
