-- The kinds of records by their kind bytes. Definitions only.
use Rattle.std.specs.Prelude.{ℕ, cond, List, [], ◌∷◌, eqb}
use Rattle.std.specs.declared.option.Option.{Option}
use Rattle.std.specs.declared.option.Option.TheVariants.{None, Some}
use Rattle.image.specs.declared.rows.Kind.{Kind}
use Rattle.image.specs.declared.rows.Kind.TheVariants.{End, Settings, Key, Hot, Shadow, Peer, SnapshotKey, Contested}

-- the kind byte of a kind
abbrev pub kind_number : Kind → ℕ
kind_number End = 0
kind_number Settings = 1
kind_number Key = 2
kind_number Hot = 3
kind_number Shadow = 4
kind_number Peer = 5
kind_number SnapshotKey = 6
kind_number Contested = 7

-- the kind of a byte: none for a byte that is no kind
abbrev pub kind_among : List Kind → ℕ → Option Kind
kind_among [] byte = None
kind_among (k ∷ ks) byte = cond (eqb (kind_number k) byte) (Some k) (kind_among ks byte)

abbrev pub kind_of : ℕ → Option Kind
kind_of byte = kind_among (End ∷ Settings ∷ Key ∷ Hot ∷ Shadow ∷ Peer ∷ SnapshotKey ∷ Contested ∷ []) byte
