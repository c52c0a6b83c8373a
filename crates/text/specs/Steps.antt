-- While a line is looked for: what the private functions of `lines` promise. No public promise cites these definitions.
use Rattle.std.specs.Prelude.{ℕ, ◌≤◌, ◌<◌, ◌≡◌, ◌⊎◌, Bool, true, false, cond, ◌||◌, List, [], ltb, length, take, Option, Some, None}
use Rattle.std.proofs.Math.Seq.{slice}
use Rattle.text.specs.declared.lines.Kind.TheVariants as kind
use Rattle.text.specs.declared.lines.Line.{Line}
use Rattle.text.specs.declared.lines.Lines.{Lines}
use Rattle.text.specs.declared.lines.Window.{Window}
use Rattle.text.specs.Input.{index_of, feed, in_hand, Placed, FromInput}

-- the bytes in a window of the buffer
abbrev pub seen : Window → List ℕ → List ℕ
seen w xs = slice w.from w.to xs

-- a window on the bytes in hand, of which none is given up yet
pub record Held (s : Lines) (xs : List ℕ) (w : Window) : Type 0 where
  pub ordered : w.from ≤ w.to
  pub inside : w.to ≤ length xs
  pub bytes : seen w xs ≡ in_hand s xs
  pub none_given_up : w.given_up ≡ false
  pub place : ((w.from ≡ s.from) × (w.to ≡ s.to)) ⊎ (in_hand s xs ≡ [])

-- a window in which no line feed is seen, none of whose bytes is given up
pub record NoFeed (w : Window) (xs : List ℕ) : Type 0 where
  pub ordered : w.from ≤ w.to
  pub inside : w.to ≤ length xs
  pub none_seen : length (seen w xs) ≤ index_of feed (seen w xs)
  pub none_given_up : w.given_up ≡ false

-- room was made: the bytes in hand are at the front, or they filled the buffer and are given up
pub record Roomy (w : Window) (xs : List ℕ) (r : Window) (ys : List ℕ) : Type 0 where
  pub front : r.from ≡ 0
  pub inside : r.to ≤ length ys
  pub kept :
      ((r.given_up ≡ w.given_up) × (r.to < length ys) × (seen r ys ≡ seen w xs))
      ⊎ ((r.given_up ≡ true) × (r.to ≡ 0) × (seen w xs ≡ xs))

-- one read into the buffer from `to` on, which then has bytes up to r
pub record More (to r : ℕ) (xs ys : List ℕ) : Type 0 where
  pub least : to ≤ r
  pub inside : r ≤ length xs
  pub kept : take to ys ≡ take to xs

-- a line start..end, too long where its first bytes were given up, with bytes from..to in hand behind it
abbrev pub line_of : (start end : ℕ) → Bool → ℕ → ℕ → Line
line_of start end given_up from to =
    record { start = start; end = end; kind = cond given_up kind.TooLong kind.Whole; rest = record { from = from; to = to } }

-- where the input ends: a last line of what is in hand, or none where nothing is and nothing was given up
abbrev pub last_line : Window → Option Line
last_line w = cond (w.given_up || ltb 0 w.to) (Some (line_of 0 w.to w.given_up 0 0)) None

-- a line that the input was read for
pub record LineRead (hand xs : List ℕ) (l : Option Line) (ys : List ℕ) : Type 0 where
  pub placed : Placed xs l ys
  pub from_input : FromInput hand l ys
