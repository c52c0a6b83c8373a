-- A node's share of a limit (005), 'worked in the order 005 writes it, each operation rounded once'.
use Rattle.std.specs.Prelude.{ℕ, Bool, cond, ◌&&◌, [], ◌∷◌, leb, Float}
use Rattle.std.specs.Float.{binary64}
use Rattle.std.specs.Float.Ieee.{add, sub, mul, div, lt, le}
use Rattle.std.specs.Float.Ieee.Scale.{finite}
use Rattle.demand.specs.declared.allocation.View.{View}
use Rattle.questions.specs.Questions.{◌asks◌, Answer, answer}
use Rattle.demand.specs.Estimators.Estimator.{whole}

-- question 3: 'finite and above 0'
unfoldable pub is_rate : Float → Bool
is_rate x = lt (whole 0) x && finite x

-- question 5: 'the floor factor in [0, 1]'; −0 is taken
unfoldable pub is_floor_factor : Float → Bool
is_floor_factor x = le (whole 0) x && le x (whole 1)

-- question 7: 'the cluster size 1 to 65,535'
unfoldable pub is_cluster_size : ℕ → Bool
is_cluster_size n = leb 1 n && leb n 65_535

-- limit × floor factor ÷ n + limit × (1 − floor factor) × (own ÷ total) where the total is above 0, and else limit ÷ n
unfoldable pub shared : View → Float
shared v =
    let n = whole v.cluster_size in
    let total = add binary64 v.own v.others in
    cond (lt (whole 0) total)
    (add binary64
    (div binary64 (mul binary64 v.limit v.floor_factor) n)
    (mul binary64 (mul binary64 v.limit (sub binary64 (whole 1) v.floor_factor)) (div binary64 v.own total)))
    (div binary64 v.limit n)

abbrev pub share : View → Answer Float
share v =
    answer ((3 asks is_rate v.limit) ∷ (5 asks is_floor_factor v.floor_factor) ∷ (7 asks is_cluster_size v.cluster_size) ∷ [])
    (shared v)
