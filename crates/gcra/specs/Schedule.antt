-- I.371's virtual scheduling algorithm, as the Recommendation has it: a cell arrives at `ta`; `I` is the increment, `L` the limit. Definitions only.
use Rattle.std.specs.Prelude.{ℕ, ◌+◌, Bool, true, false, cond, ltb}
use Rattle.std.specs.declared.option.Option.{Option}
use Rattle.std.specs.declared.option.Option.TheVariants.{None, Some}

-- whether the cell conforms, and the theoretical arrival time afterwards
pub record Cell : Type 0 where
  pub conforms : Bool
  pub tat : ℕ

abbrev pub conforming : ℕ → Cell
conforming tat = record { conforms = true; tat = tat }

abbrev pub nonconforming : ℕ → Cell
nonconforming tat = record { conforms = false; tat = tat }

-- TAT < ta: TAT becomes ta, and then ta + I. TAT > ta + L: the cell does not conform, and TAT stays. Otherwise TAT becomes TAT + I.
unfoldable pub arrives : (I L tat ta : ℕ) → Cell
arrives I L tat ta = cond (ltb tat ta) (conforming (ta + I)) (cond (ltb (ta + L) tat) (nonconforming tat) (conforming (tat + I)))

-- at the first cell TAT is its arrival time
unfoldable pub virtual_scheduling : (I L : ℕ) → Option ℕ → ℕ → Cell
virtual_scheduling I L None ta = arrives I L ta ta
virtual_scheduling I L (Some tat) ta = arrives I L tat ta
