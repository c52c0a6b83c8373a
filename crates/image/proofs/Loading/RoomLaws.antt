-- Question 1 of a load, test by test.
use Prim.Native.Nat.{ℕ}
use mathlib.Core.Path.{◌≡◌, sym, ap, ◌∙◌}
use mathlib.Core.Bool.{Bool, true, false, ◌&&◌}
use mathlib.Core.List.{List}
use Rattle.limiter.specs.State as limiter-state
use Rattle.image.specs.Reader.{word_at, begins}
use Rattle.image.specs.LoadSteps.{peers_fit, room_for}

module _ (bs : List ℕ) (k h s p n c : ℕ) {a b : ℕ} (e : begins 1 bs ≡ true) (ea : a ≡ word_at bs 8) (eb : b ≡ word_at bs 5) where
  sized : {x : Bool} → limiter-state.room_for a b k h s ≡ x → room_for bs k h s p n c ≡ (x && peers_fit p n c)
  sized {x} f =
      rw e (ap (λ (t : Bool). t && peers_fit p n c) ((λ i. limiter-state.room_for (sym ea i) (sym eb i) k h s) ∙ f))

  -- the limiter's tables are too short
  pub room-short : limiter-state.room_for a b k h s ≡ false → false ≡ room_for bs k h s p n c
  room-short f = sym (sized f)

  -- they are long enough: the peers' tables decide
  pub room-peers : limiter-state.room_for a b k h s ≡ true → peers_fit p n c ≡ room_for bs k h s p n c
  room-peers f = sym (sized f)
