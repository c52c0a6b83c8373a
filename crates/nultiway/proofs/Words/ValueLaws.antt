-- Values in words: how they are written and read, and that they come back.
use Prim.Native.Nat.{ℕ, ◌+◌, ◌^◌, ◌≤◌}
use mathlib.Core.Path.{◌≡◌, refl, sym, ap, ◌∙◌}
use mathlib.Core.Bool.{true}
use mathlib.Core.List.{List, [], ◌∷◌, ◌++◌, append-nil}
use native.Mathlib.Nat.{zero-add}
use native.Mathlib.Omega.{arith}
use lib.Dec.{ltb}
use lib.Ieee.{Float}
use lib.ListN.{length, take, drop, get_or, length-append, take-append-drop, drop_of_length-le}
use lib.Seq.{length-take-le, take_at}
use Rattle.records.specs.Words.{paste}
use Rattle.questions.proofs.Tests.{both}
use Rattle.records.proofs.Order.OrderLaws.{same-eq, eq-same}
use Rattle.peers.specs.declared.peer_demand.PeerDemand.{PeerDemand}
use Rattle.records.specs.Fields.{time_of, time_words}
use Rattle.records.proofs.Words.FieldLaws.{time-of-words}
use Rattle.limiter.specs.declared.Config.{Config}
use Rattle.limiter.specs.declared.Limiter.{Limiter}
use Rattle.limiter.specs.State.{settings_words, settings_of, is_f64, cap_fits, cap_words}
use Rattle.limiter.specs.State.{LimiterTables, valid_cap, state_of, valid, units_of, units_in}
use Rattle.limiter.proofs.States.RecordValidLaws.{limit-rate, limit-burst}
use Rattle.limiter.proofs.States.StateValidLaws.{valid-says}
use Rattle.image.proofs.Loading.JudgeLaws.{small-burst}
use Rattle.image.specs.Reader as reader
use Rattle.image.specs.LoadSteps.{config_from}
use Rattle.image.proofs.Reading.StateWordLaws.{float_of_word, settings-long}
use Rattle.nultiway.specs.Values.{limiter_words, limiter_of, is_limiter, peers_words, peers_of}
use Rattle.nultiway.specs.LimiterCalls.{config_words}
use Rattle.std.specs.declared.option.Option.{Option}
use Rattle.std.specs.declared.option.Option.TheVariants.{None, Some}

-- ---- words at the front

pub paste-front : (r xs : List ℕ) → paste 0 r xs ≡ r ++ drop (length r) xs
unfolding paste
paste-front r xs = ap (λ (k : ℕ). r ++ drop k xs) (zero-add (length r))

-- as many words as there are leave nothing behind them
pub paste-whole : (r xs ys : List ℕ) → ys ≡ paste 0 r xs → length xs ≡ length r → ys ≡ r
paste-whole r xs ys e h =
    e ∙ paste-front r xs ∙ ap (λ (l : List ℕ). r ++ l) (drop_of_length-le xs {i = length r} (omega (arith, h))) ∙ append-nil r

-- words that stand at the front already
pub paste-same : (n : ℕ) (r xs : List ℕ) → r ≡ take n xs → n ≤ length xs → paste 0 r xs ≡ xs
paste-same n r xs e h =
    paste-front r xs
    ∙ (λ i. e i ++ drop (length (e i)) xs)
    ∙ ap (λ (k : ℕ). take n xs ++ drop k xs) (length-take-le n xs h)
    ∙ take-append-drop n xs

-- ---- the limiter

-- what was read is the limiter of the words
pub limiter-read :
    (ws w : List ℕ) (g : Config) (x : Option Float) (t : Option ℕ)
    → w ≡ take 13 ws
    → g ≡ config_from w
    → x ≡ reader.cap_from (get_or w 9 0) (get_or w 10 0)
    → t ≡ time_of (get_or w 11 0) (get_or w 12 0)
    → ◌≡◌ {A = Limiter}
    (record { config = g; cap = x; last_tick = t; keys = get_or ws 13 0; hot = get_or ws 14 0; shadows = get_or ws 15 0 })
    (limiter_of ws)
unfolding limiter_of
limiter-read ws w g x t e a b c = λ i.
    record {
      config = (a ∙ ap config_from e) i;
      cap = (b ∙ ap (λ (l : List ℕ). reader.cap_from (get_or l 9 0) (get_or l 10 0)) e) i;
      last_tick = (c ∙ ap (λ (l : List ℕ). time_of (get_or l 11 0) (get_or l 12 0)) e) i;
      keys = get_or ws 13 0;
      hot = get_or ws 14 0;
      shadows = get_or ws 15 0;
    }

-- the words of a configuration, a cap and a time, one by one, before others
abbrev pub one_by_one : (w c t rest : List ℕ) → List ℕ
one_by_one w c t rest =
    get_or w 0 0 ∷ get_or w 1 0 ∷ get_or w 2 0 ∷ get_or w 3 0 ∷ get_or w 4 0 ∷ get_or w 5 0 ∷ get_or w 6 0 ∷ get_or w 7 0 ∷ get_or w 8 0
    ∷ get_or c 0 0 ∷ get_or c 1 0 ∷ get_or t 0 0 ∷ get_or t 1 0 ∷ rest

apart :
    (c : Config) (x : Option Float) (t : Option ℕ) (rest : List ℕ)
    → one_by_one (config_words c) (cap_words x) (time_words t) rest ≡ settings_words (record { config = c; cap = x; last_tick = t }) ++ rest
unfolding settings_words
apart c None t rest = refl
apart c (Some x) t rest = refl

pub limiter-written :
    (l : Limiter) {w c t : List ℕ}
    → w ≡ config_words l.config
    → c ≡ cap_words l.cap
    → t ≡ time_words l.last_tick
    → one_by_one w c t (l.keys ∷ l.hot ∷ l.shadows ∷ []) ≡ limiter_words l
unfolding limiter_words
limiter-written l e f g =
    let rest : List ℕ = l.keys ∷ l.hot ∷ l.shadows ∷ [] in
    (λ i. one_by_one (e i) (f i) (g i) rest) ∙ apart l.config l.cap l.last_tick rest

-- ---- the limiter comes back

-- what the types of its fields say: floats of 64 bits, a burst of 32
pub record Typed (l : Limiter) : Type 0 where
  pub rate : is_f64 l.config.limit.rate ≡ true
  pub burst : ltb l.config.limit.burst (2 ^ 32) ≡ true
  pub alpha : is_f64 l.config.alpha ≡ true
  pub floor : is_f64 l.config.floor_factor ≡ true
  pub cap : cap_fits l.cap ≡ true

cap-fits : (x : Option Float) → valid_cap x ≡ true → cap_fits x ≡ true
cap-fits None e = refl
cap-fits (Some x) e = (both (is_f64 x) _ e).0

-- a limiter that is valid with its tables is of its types
pub valid-typed : (l : Limiter) (t : LimiterTables) → let x = state_of (units_in l) l t in valid (units_of x.settings) x ≡ true → Typed l
unfolding state_of
valid-typed l t v =
    let g = (valid-says (units_in l) (state_of (units_in l) l t) v).settings in
    record {
      rate = limit-rate l.config.limit g.config.limit;
      burst = small-burst l.config.limit.burst (limit-burst l.config.limit g.config.limit);
      alpha = (both (is_f64 l.config.alpha) _ g.config.alpha).0;
      floor = (both (is_f64 l.config.floor_factor) _ g.config.floor).0;
      cap = cap-fits l.cap g.cap;
    }

by-cap :
    (g : Config) (x : Option Float) (t : Option ℕ) (a b c : ℕ) (rest : List ℕ)
    → is_f64 g.limit.rate ≡ true
    → ltb g.limit.burst (2 ^ 32) ≡ true
    → is_f64 g.alpha ≡ true
    → is_f64 g.floor_factor ≡ true
    → cap_fits x ≡ true
    → limiter_of ((settings_words (record { config = g; cap = x; last_tick = t }) ++ (a ∷ b ∷ c ∷ [])) ++ rest)
    ≡ record { config = g; cap = x; last_tick = t; keys = a; hot = b; shadows = c }
unfolding limiter_of config_from settings_words
by-cap g None t a b c rest r u f h v =
    rw (float_of_word g.limit.rate r, u, float_of_word g.alpha f, float_of_word g.floor_factor h, time-of-words t)
by-cap g (Some x) t a b c rest r u f h v =
    rw (float_of_word g.limit.rate r, u, float_of_word g.alpha f, float_of_word g.floor_factor h, float_of_word x v, time-of-words t)

-- a limiter is read back from its words, whatever comes after them
pub limiter-forth : (l : Limiter) (rest : List ℕ) → Typed l → limiter_of (limiter_words l ++ rest) ≡ l
unfolding limiter_words
limiter-forth l rest y =
    by-cap l.config l.cap l.last_tick l.keys l.hot l.shadows rest
    y.rate y.burst y.alpha y.floor y.cap
    ∙ (λ i.
    record {
      config = l.config;
      cap = l.cap;
      last_tick = l.last_tick;
      keys = l.keys;
      hot = l.hot;
      shadows = l.shadows;
    })

-- so the words at the front of a buffer are read as the limiter that was written there
pub limiter-put : (l : Limiter) (ws : List ℕ) → Typed l → limiter_of (paste 0 (limiter_words l) ws) ≡ l
limiter-put l ws y = ap limiter_of (paste-front (limiter_words l) ws) ∙ limiter-forth l (drop (length (limiter_words l)) ws) y

-- two limiters with the same words are equal
pub limiter-one : (l m : Limiter) → Typed l → Typed m → limiter_words l ≡ limiter_words m → l ≡ m
limiter-one l m y z e = sym (limiter-forth l [] y) ∙ ap (λ (w : List ℕ). limiter_of (w ++ [])) e ∙ limiter-forth m [] z

-- there are sixteen
pub limiter-long : (l : Limiter) → length (limiter_words l) ≡ 16
unfolding limiter_words
limiter-long l =
    length-append (settings_words (settings_of l)) (l.keys ∷ l.hot ∷ l.shadows ∷ []) ∙ ap (λ (n : ℕ). n + 3) (settings-long (settings_of l))

-- words that were written are a limiter's
pub limiter-is : (l : Limiter) (ws : List ℕ) → Typed l → is_limiter (paste 0 (limiter_words l) ws) ≡ true
unfolding is_limiter
limiter-is l ws y =
    let w : List ℕ = limiter_words l in
    eq-same _ _
    (ap limiter_words (limiter-put l ws y)
    ∙ sym (ap (take 16) (paste-front w ws) ∙ take_at w (drop (length w) ws) 16 (limiter-long l)))

-- words that are a limiter's are written back as they were
pub limiter-back : (ws : List ℕ) → 16 ≤ length ws → is_limiter ws ≡ true → paste 0 (limiter_words (limiter_of ws)) ws ≡ ws
unfolding is_limiter
limiter-back ws h e = paste-same 16 _ ws (same-eq _ _ e) h

-- ---- the peers come back

pub peers-put : (p : PeerDemand) (ws : List ℕ) → peers_of (paste 0 (peers_words p) ws) ≡ p
unfolding peers_of peers_words
peers-put p ws = ap peers_of (paste-front (peers_words p) ws)

pub peers-one : (p q : PeerDemand) → peers_words p ≡ peers_words q → p ≡ q
peers-one p q e = sym (peers-put p []) ∙ ap (λ (w : List ℕ). peers_of (paste 0 w [])) e ∙ peers-put q []

pub peers-back : (ws : List ℕ) → 3 ≤ length ws → paste 0 (peers_words (peers_of ws)) ws ≡ ws
unfolding peers_of peers_words
peers-back [] h = absurd (omega (arith, h))
peers-back (a ∷ []) h = absurd (omega (arith, h))
peers-back (a ∷ b ∷ []) h = absurd (omega (arith, h))
peers-back (a ∷ b ∷ c ∷ ws) h = paste-front (a ∷ b ∷ c ∷ []) (a ∷ b ∷ c ∷ ws)
