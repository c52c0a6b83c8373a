-- A call's result, and its answer: a refusal is the number of its question. Definitions only.
use Rattle.std.specs.Prelude.{ℕ, ◌-◌, cond, List, [], ◌∷◌, min, eqb, get_or}
use Rattle.std.specs.declared.result.Result.{Result}
use Rattle.std.specs.declared.result.Result.TheVariants.{Ok, Err}
use Rattle.questions.specs.Questions.{Answer, refused, given}
use Rattle.questions.specs.declared.Refusal.{Refusal}
use Rattle.questions.specs.declared.Refusal.TheVariants.{ShortBuffer, Invalid, Rate, Burst, Factor, Sizes, ClusterSize, TableFull, Counter, LongReport, Demand, PeersFull, Image, Word, Window, ShortOutput}

abbrev pub number : Refusal → ℕ
number ShortBuffer = 1
number Invalid = 2
number Rate = 3
number Burst = 4
number Factor = 5
number Sizes = 6
number ClusterSize = 7
number TableFull = 8
number Counter = 9
number LongReport = 10
number Demand = 11
number PeersFull = 12
number Image = 13
number Word = 14
number Window = 15
number ShortOutput = 16

-- the refusal of a number; of one that no question has, any
abbrev refusals : List Refusal
refusals =
    ShortBuffer ∷ Invalid ∷ Rate ∷ Burst ∷ Factor ∷ Sizes ∷ ClusterSize ∷ TableFull ∷ Counter ∷ LongReport ∷ Demand ∷ PeersFull ∷ Image ∷ Word
    ∷ Window ∷ ShortOutput ∷ []

unfoldable pub refusal_of : ℕ → Refusal
refusal_of n = get_or refusals (n - 1) ShortOutput

-- the answer that a result stands for
abbrev pub answer_of : {A : Type 0} → Result A Refusal → Answer A
answer_of (Ok a) = given a
answer_of (Err e) = refused (number e)

-- the number of a first 'no', 0 where there is none
abbrev pub asked : {A : Type 0} → Result A Refusal → ℕ
asked (Ok a) = 0
asked (Err e) = number e

-- of the numbers of two first 'no's to the same questions, the one that is asked first
unfoldable pub first_of : (a b : ℕ) → ℕ
first_of a b = cond (eqb a 0) b (cond (eqb b 0) a (min a b))
