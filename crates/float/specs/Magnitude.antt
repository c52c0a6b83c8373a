-- 01, question 11: 'finite with a clear sign bit'.
use Rattle.std.specs.Prelude.{Bool, false, not, Float}
use Rattle.std.specs.Float.{nan, inf, fin}

abbrev pub magnitude : Float → Bool
magnitude nan = false
magnitude (inf s) = false
magnitude (fin s m e) = not s
