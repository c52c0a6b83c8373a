-- A hot set alone, in lent words, and the promise of each function of the library on it. Definitions only.
use Rattle.std.specs.Prelude.{ℕ, ◌≡◌, Bool, false, ◌&&◌, List, [], ◌∷◌, leb, Float, length, get_or}
use Rattle.records.specs.Fields.{time_words}
use Rattle.questions.specs.Questions.{Question, Answer}
use Rattle.hot.specs.declared.hot_set.HotSet.{HotSet}
use Rattle.hot.specs.declared.hot_set.Updated.{Updated}
use Rattle.hot.specs.HotSet.Calls as hot
use Rattle.nultiway.specs.Values.{room_asked}
use Rattle.nultiway.specs.Calls.{Called, Answers, Tells, one_word, flag_words}
use Rattle.std.specs.declared.option.Option.{Option}
use Rattle.std.specs.declared.result.Result.{Result}
use Rattle.std.specs.declared.result.Result.TheVariants.{Ok, Err}
use Rattle.questions.specs.declared.Refusal.{Refusal}
use Rattle.questions.specs.Refusals.{answer_of}

-- ---- a hot set in lent words: cooldown, the most entries, how many are in use; any three words are a value

unfoldable pub hot_set_words : HotSet → List ℕ
hot_set_words s = s.cooldown ∷ s.max_size ∷ s.len ∷ []

unfoldable pub hot_set_of : List ℕ → HotSet
hot_set_of ws = record { cooldown = get_or ws 0 0; max_size = get_or ws 1 0; len = get_or ws 2 0 }

-- question 1 of the hot set's words
abbrev pub hot_set_asked : List ℕ → List Question
hot_set_asked ws = room_asked (leb 3 (length ws))

-- the same, and of the buffer for the answer, which takes `size`
abbrev pub hot_set_answer_asked : (ws answer : List ℕ) (size : ℕ) → List Question
hot_set_answer_asked ws answer size = room_asked (leb 3 (length ws) && leb size (length answer))

-- ---- calls that change the set, and its entries in the words xs

-- `nultiway_hot_set_new`: the words of the new set
abbrev pub New : (ws xs : List ℕ) (cooldown size : ℕ) (r : ℕ) (ws' : List ℕ) → Type 0
New ws xs cooldown size r ws' =
    Called (hot_set_asked ws) r (ws' ≡ ws)
    (Tells (λ (ys : List ℕ) (x : Result HotSet Refusal). hot.MadeNew ys cooldown size x) xs answer_of hot_set_words ws r ws')

-- whether the key is hot
abbrev pub updated_words : Updated → List ℕ
updated_words u = flag_words u.is_hot

-- the set that an update leaves: as it was where the answer is 'no'
abbrev pub hot_set_left : HotSet → Result Updated Refusal → HotSet
hot_set_left s (Err n) = s
hot_set_left s (Ok u) = u.set

-- `nultiway_hot_set_update_with`
abbrev pub UpdateWith :
    (ws xs : List ℕ) (key : ℕ) (demand threshold : Float) (now : ℕ) (elsewhere : Bool) (answer : List ℕ) (r : ℕ) (ws' xs' answer' : List ℕ)
    → Type 0
UpdateWith ws xs key demand threshold now elsewhere answer r ws' xs' answer' =
    Called (hot_set_answer_asked ws answer 1) r ((ws' ≡ ws) × (xs' ≡ xs) × (answer' ≡ answer))
    (Answers (λ (s : HotSet) (x : Result Updated Refusal). hot.UpdatedWith s xs key demand threshold now elsewhere x xs') (hot_set_of ws)
    answer_of updated_words (λ (x : Result Updated Refusal). hot_set_words (hot_set_left (hot_set_of ws) x)) ws answer r ws' answer')

-- `nultiway_hot_set_update`: no peer holds the key primary
abbrev pub Update : (ws xs : List ℕ) (key : ℕ) (demand threshold : Float) (now : ℕ) (answer : List ℕ) (r : ℕ) (ws' xs' answer' : List ℕ) → Type 0
Update ws xs key demand threshold now = UpdateWith ws xs key demand threshold now false

-- `nultiway_hot_set_update_each`
abbrev pub UpdateEach :
    (ws xs keys : List ℕ) (width count : ℕ) (demands thresholds : List Float) (elsewhere : List Bool) (now : ℕ) (out : List Bool) (r : ℕ)
    (ws' xs' : List ℕ) (out' : List Bool)
    → Type 0
UpdateEach ws xs keys width count demands thresholds elsewhere now out r ws' xs' out' =
    Called (hot_set_asked ws) r ((ws' ≡ ws) × (xs' ≡ xs) × (out' ≡ out))
    (Tells (λ (s : HotSet) (x : Result HotSet Refusal). hot.UpdatedEach s xs keys width count demands thresholds elsewhere now out x xs' out')
    (hot_set_of ws) answer_of hot_set_words ws r ws')

-- ---- calls that read

-- a call with a buffer of `size` words for its answer, by the promise of the crate's function on the set
abbrev pub TellsHotSet :
    {R A : Type 0}
    → (HotSet → R → Type 0)
    → (R → Answer A)
    → (A → List ℕ)
    → ℕ
    → (ws answer : List ℕ) (r : ℕ) (answer' : List ℕ)
    → Type 0
TellsHotSet promise said words size ws answer r answer' =
    Called (hot_set_answer_asked ws answer size) r (answer' ≡ answer) (Tells promise (hot_set_of ws) said words answer r answer')

-- `nultiway_hot_set_is_hot`
abbrev pub IsHot : (ws xs : List ℕ) (key : ℕ) (answer : List ℕ) (r : ℕ) (answer' : List ℕ) → Type 0
IsHot ws xs key = TellsHotSet (λ (s : HotSet) (x : Result Bool Refusal). hot.SaidHot s xs key x) answer_of flag_words 1 ws

-- `nultiway_hot_set_is_primary`
abbrev pub IsPrimary : (ws xs : List ℕ) (key : ℕ) (answer : List ℕ) (r : ℕ) (answer' : List ℕ) → Type 0
IsPrimary ws xs key = TellsHotSet (λ (s : HotSet) (x : Result Bool Refusal). hot.SaidPrimary s xs key x) answer_of flag_words 1 ws

-- `nultiway_hot_set_hot_since`
abbrev pub HotSince : (ws xs : List ℕ) (key : ℕ) (answer : List ℕ) (r : ℕ) (answer' : List ℕ) → Type 0
HotSince ws xs key = TellsHotSet (λ (s : HotSet) (x : Result (Option ℕ) Refusal). hot.SaidSince s xs key x) answer_of time_words 2 ws

-- `nultiway_hot_set_len`
abbrev pub Len : (ws xs : List ℕ) (answer : List ℕ) (r : ℕ) (answer' : List ℕ) → Type 0
Len ws xs = TellsHotSet (λ (s : HotSet) (x : Result ℕ Refusal). hot.SaidLen s xs x) answer_of one_word 1 ws

-- `nultiway_hot_set_is_empty`
abbrev pub IsEmpty : (ws xs : List ℕ) (answer : List ℕ) (r : ℕ) (answer' : List ℕ) → Type 0
IsEmpty ws xs = TellsHotSet (λ (s : HotSet) (x : Result Bool Refusal). hot.SaidEmpty s xs x) answer_of flag_words 1 ws
