-- Flags, and times that may be missing, as words: there and back.
use Prim.Native.Nat.{ℕ, zero, suc}
use mathlib.Core.Path.{◌≡◌, refl, sym, ap, ◌∙◌}
use mathlib.Core.Bool.{Bool, true, false, not, ◌&&◌, ◌||◌, and-true, or-false}
use mathlib.Core.List.{[], ◌∷◌}
use native.Mathlib.Omega.{arith}
use borrow.Author.Tests.{ne_eqb, eqb-true, lt-leb}
use lib.Dec.{leb, eqb, eqb-suc-zero}
use Rattle.records.specs.Records.{same}
use Rattle.questions.proofs.Tests.{eqb-self, eqb-turn}
use Rattle.records.specs.Fields.{flag_word, flag_of, time_flag, time_word, time_words, time_of, is_time}
use Rattle.records.specs.Typed.{is_word}
use Rattle.std.specs.declared.option.Option.{Option}
use Rattle.std.specs.declared.option.Option.TheVariants.{None, Some}

pub flag-of-word : (b : Bool) → flag_of (flag_word b) ≡ b
flag-of-word false = refl
flag-of-word true = refl

-- a flag word is set where it is not 0
pub flag_is : (w : ℕ) → not (eqb w 0) ≡ flag_of w
flag_is zero = refl
flag_is (suc w) = ap not (eqb-suc-zero w)

-- it is a flag's where it is 0 or 1
pub flag_word_lem : (w : ℕ) → eqb (flag_word (flag_of w)) w ≡ leb w 1
flag_word_lem zero = refl
flag_word_lem (suc zero) = refl
flag_word_lem (suc (suc n)) = ne_eqb 1 (suc (suc n)) (λ e. omega (arith, e)) ∙ sym (lt-leb (suc (suc n)) 1 (omega arith))

pub flag-back : (w : ℕ) → leb w 1 ≡ true → flag_word (flag_of w) ≡ w
flag-back w e = eqb-true (flag_word (flag_of w)) w (flag_word_lem w ∙ e)

pub flag_small : (b : Bool) → leb (flag_word b) 1 ≡ true
flag_small true = refl
flag_small false = refl

pub flag-fits : (b : Bool) → is_word (flag_word b) ≡ true
flag-fits true = refl
flag-fits false = refl

-- a time
pub time-of-words : (t : Option ℕ) → time_of (time_flag t) (time_word t) ≡ t
time-of-words None = refl
time-of-words (Some t) = refl

pub time-flag-fits : (t : Option ℕ) → is_word (time_flag t) ≡ true
time-flag-fits None = refl
time-flag-fits (Some t) = refl

pub time-is : (t : Option ℕ) → is_time (time_flag t) (time_word t) ≡ true
unfolding is_time
time-is None = refl
time-is (Some t) = refl

pub time-words : (flag time : ℕ) → same (time_words (time_of flag time)) (flag ∷ time ∷ []) ≡ is_time flag time
unfolding same is_time
time-words zero time = rw (and-true, eqb-turn 0 time)
time-words (suc flag) time = rw (eqb-self time, and-true, eqb-turn 1 (suc flag))

pub time-flag-back : (flag time : ℕ) → is_time flag time ≡ true → time_flag (time_of flag time) ≡ flag
unfolding is_time
time-flag-back zero time e = refl
time-flag-back (suc flag) time e = sym (eqb-true (suc flag) 1 e)

pub time-word-back : (flag time : ℕ) → is_time flag time ≡ true → time_word (time_of flag time) ≡ time
unfolding is_time
time-word-back zero time e = sym (eqb-true time 0 e)
time-word-back (suc flag) time e = refl

-- the same by tests of the words
pub time_is : (flag time : ℕ) → is_time flag time ≡ (eqb flag 1 || (eqb flag 0 && eqb time 0))
unfolding is_time
time_is zero time = refl
time_is (suc flag) time = rw (eqb-suc-zero flag, or-false)
