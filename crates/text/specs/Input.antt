-- Lines in a buffer.
use Rattle.std.specs.Prelude.{ℕ, suc, ◌+◌, ◌≤◌, ◌<◌, ◌≡◌, ◌⊎◌, Bool, true, cond, not, ◌&&◌, List, [], ◌∷◌, ◌++◌, eqb, leb, length, Option, Some, None, IfSome}
use Rattle.std.proofs.Math.Seq.{slice}
use Rattle.text.specs.declared.lines.Kind.{Kind}
use Rattle.text.specs.declared.lines.Kind.TheVariants as kind
use Rattle.text.specs.declared.lines.Line.{Line}
use Rattle.text.specs.declared.lines.Lines.{Lines}

-- the index of the first b, or the length where there is none
unfoldable pub index_of : ℕ → List ℕ → ℕ
index_of b [] = 0
index_of b (x ∷ xs) = cond (eqb x b) 0 (suc (index_of b xs))

-- a line feed
abbrev pub feed : ℕ
feed = 10

-- whether no byte is a line feed
unfoldable pub has_no_feed : List ℕ → Bool
has_no_feed [] = true
has_no_feed (x ∷ xs) = not (eqb x feed) && has_no_feed xs

-- the bytes in hand: none where the numbers do not lie within the buffer
unfoldable pub in_hand : Lines → List ℕ → List ℕ
in_hand s xs = cond (leb s.from s.to && leb s.to (length xs)) (slice s.from s.to xs) []

-- what stands behind a line: its line feed and what is in hand then, or nothing where the input ended or was read 2^64 - 1 times
abbrev pub Behind : List ℕ → List ℕ → Type 0
Behind tail rest = (tail ≡ feed ∷ rest) ⊎ ((tail ≡ []) × (rest ≡ []))

-- bytes parted into some that were passed over, a line, and what stands behind it
pub record Parted (bytes passed line rest : List ℕ) : Type 0 where
  pub tail : List ℕ
  pub whole : bytes ≡ passed ++ (line ++ tail)
  pub passed_no_feed : has_no_feed passed ≡ true
  pub line_no_feed : has_no_feed line ≡ true
  pub behind : Behind tail rest

-- a line that is shorter than a buffer of this length
pub record Fits (long : ℕ) (bytes line rest : List ℕ) : Type 0 where
  pub some : 0 < length bytes
  pub short : length line < long
  pub parts : Parted bytes [] line rest

-- a line whose first bytes did not fit a buffer of this length, and were passed over
pub record TooLong (long : ℕ) (bytes line rest : List ℕ) : Type 0 where
  pub passed : List ℕ
  pub many : long ≤ length passed
  pub parts : Parted bytes passed line rest

-- a line by its kind: it is too long where it is not shorter than the buffer
abbrev pub Told : Kind → ℕ → List ℕ → List ℕ → List ℕ → Type 0
Told kind.Whole long bytes line rest = Fits long bytes line rest
Told kind.TooLong long bytes line rest = TooLong long bytes line rest

-- what came: there is no line only where there are no bytes
abbrev pub ToldOf : Option Line → List ℕ → List ℕ → Type 0
ToldOf (Some l) bytes ys = Told l.kind (length ys) bytes (slice l.start l.end ys) (in_hand l.rest ys)
ToldOf None bytes ys = bytes ≡ []

-- the line that is in hand, where a line feed is
abbrev pub line_in_hand : Lines → List ℕ → Line
line_in_hand s xs =
    let end = s.from + index_of feed (in_hand s xs) in
    record { start = s.from; end = end; kind = kind.Whole; rest = record { from = end + 1; to = s.to } }

-- a line and what is in hand behind it lie within the buffer
pub record Within (l : Line) (ys : List ℕ) : Type 0 where
  pub ordered : l.start ≤ l.end
  pub inside : l.end ≤ length ys
  pub rest_ordered : l.rest.from ≤ l.rest.to
  pub rest_inside : l.rest.to ≤ length ys

-- The buffer keeps its length, and where there is a line, it lies within it.
pub record Placed (xs : List ℕ) (o : Option Line) (ys : List ℕ) : Type 0 where
  pub as_long : length ys ≡ length xs
  pub within : IfSome o (λ l. Within l ys)

-- What came of the bytes in hand and of `input`, which the reads gave: the contract of a read leaves open which bytes it brings.
pub record FromInput (hand : List ℕ) (o : Option Line) (ys : List ℕ) : Type 0 where
  pub input : List ℕ
  pub told : ToldOf o (hand ++ input) ys

-- What `next_line` answers, and the buffer afterwards. Where a line feed is in hand, nothing is read and the buffer stays. Else the input is
-- read: the line and what is in hand behind it are told; where they lie in the buffer, and its other bytes, are free.
pub record Came (s : Lines) (xs : List ℕ) (o : Option Line) (ys : List ℕ) : Type 0 where
  pub placed : Placed xs o ys
  pub in-hand : index_of feed (in_hand s xs) < length (in_hand s xs) → (o ≡ Some (line_in_hand s xs)) × (ys ≡ xs)
  pub from_input : length (in_hand s xs) ≤ index_of feed (in_hand s xs) → FromInput (in_hand s xs) o ys
