-- Words that the records of several kinds share, and back (01, 'The saved image'). Definitions only.
use Rattle.std.specs.Prelude.{ℕ, zero, suc, Bool, true, false, List, [], ◌∷◌, eqb}
use Rattle.std.specs.declared.option.Option.{Option}
use Rattle.std.specs.declared.option.Option.TheVariants.{None, Some}

-- 'flags are 0 or 1'
abbrev pub flag_word : Bool → ℕ
flag_word false = 0
flag_word true = 1

abbrev pub flag_of : ℕ → Bool
flag_of zero = false
flag_of (suc w) = true

-- 'A time that may be missing has a flag word first and is 0 if missing'
abbrev pub time_flag : Option ℕ → ℕ
time_flag None = 0
time_flag (Some t) = 1

abbrev pub time_word : Option ℕ → ℕ
time_word None = 0
time_word (Some t) = t

abbrev pub time_words : Option ℕ → List ℕ
time_words t = time_flag t ∷ time_word t ∷ []

abbrev pub time_of : ℕ → ℕ → Option ℕ
time_of zero t = None
time_of (suc flag) t = Some t

-- the two words are those of such a time
unfoldable pub is_time : ℕ → ℕ → Bool
is_time zero t = eqb t 0
is_time (suc flag) t = eqb (suc flag) 1
