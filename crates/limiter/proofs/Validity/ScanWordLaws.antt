-- Question 2 of a key and of a shadow, asked word by word, is question 2 of the record.
use Prim.Native.Nat.{ℕ, ◌<◌}
use mathlib.Core.Path.{◌≡◌, refl, sym, ap, ◌∙◌}
use mathlib.Core.Bool.{Bool, true, false, true≢false, cond, ◌&&◌, and-true, and_assoc, and_comm}
use mathlib.Core.List.{List, [], ◌∷◌}
use native.Mathlib.Nat.{pos_of_ne-zero}
use native.Mathlib.Omega.{arith}
use borrow.Author.Tests.{ltb-true, lt-ltb, le-ltb, eq-eqb, ne_eqb}
use lib.Dec.{ltb, eqb}
use lib.ListN.{length}
use lib.Ieee.{Float, nan, inf, fin, binary64, of_bits, of_int, lt}
use lib.Ieee.Scale.{finite}
use lib.Ieee.Bits.{is_true, of_bits-fits}
use Rattle.float.specs.Magnitude.{magnitude}
use Rattle.float.proofs.Formats.Patterns.{magnitude-bits}
use Rattle.float.proofs.Formats.Magnitudes.{magnitudes-order}
use Rattle.records.specs.Records.{same}
use Rattle.questions.proofs.Tests.{split, and_first, and_second, eqb-self, and_left, and-under}
use Rattle.gcra.specs.declared.Units.{Units}
use Rattle.gcra.specs.Packed.{Accepted, valid_burst, valid_quota, pack, unpack}
use Rattle.demand.specs.Allocation.{is_rate}
use Rattle.questions.specs.Lists.{all}
use Rattle.records.specs.Typed.{is_word}
use Rattle.records.specs.Fields.{time_words, time_of, is_time}
use Rattle.demand.proofs.Estimating.Literals.{zero_is}
use Rattle.records.proofs.Words.FieldLaws.{time-words}
use Rattle.records.proofs.Tables.TypedLaws.{exact-words}
use Rattle.hot.proofs.HotSet.Words.{bits_back}
use Rattle.records.proofs.Tables.ScanLaws.{four-words, words-4, words-6, PassIs}
use Rattle.limiter.specs.State.{float_word, float_of, is_f64, key_words, key_of, valid_limit, valid_key, shadow_words, shadow_of, valid_shadow}
use Rattle.limiter.specs.Steps.Scan.{is_limit, are_rates, is_meter, are_key_words, are_shadow_words, are_words}
use Rattle.gcra.proofs.Packed.PackedWords.{word-is}

-- ---- a rate: finite, with a clear sign bit, and not 0
negative-rate : (x : Float) → magnitude x ≡ false → is_rate x ≡ false
unfolding is_rate lt of_int
negative-rate nan h = refl
negative-rate (inf true) h = refl
negative-rate (inf false) h = refl
negative-rate (fin true m e) h = refl
negative-rate (fin false m e) h = absurd (true≢false h)

finite-magnitude : (x : Float) → magnitude x ≡ true → finite x ≡ true
finite-magnitude nan h = h
finite-magnitude (inf s) h = h
finite-magnitude (fin s m e) h = refl

pub rate-bits : (b : ℕ) → is_rate (of_bits binary64 b) ≡ (ltb 0 b && magnitude (of_bits binary64 b))
unfolding is_rate
rate-bits b = split (magnitude (of_bits binary64 b))
    (λ m.
    let k : b < 0x7ff0_0000_0000_0000 = ltb-true b 0x7ff0_0000_0000_0000 (magnitude-bits binary64 b ∙ m) in
    (λ i. (ap (λ (z : Float). lt z (of_bits binary64 b)) (sym zero_is) ∙ magnitudes-order binary64 0 b (omega arith) k) i && (finite-magnitude (of_bits binary64 b) m ∙ sym m) i))
    (λ m. negative-rate (of_bits binary64 b) m ∙ sym (and_second (ltb 0 b) (magnitude (of_bits binary64 b)) m))

pub no-rate : (b : ℕ) → b ≡ 0 → false ≡ is_rate (of_bits binary64 b)
no-rate b e = sym (rate-bits b ∙ and_first (ltb 0 b) _ (le-ltb 0 b (omega (arith, e))))

pub by-magnitude : (b : ℕ) → (b ≡ 0 → ⊥) → magnitude (of_bits binary64 b) ≡ is_rate (of_bits binary64 b)
by-magnitude b h = sym (rate-bits b ∙ ap (λ (z : Bool). z && magnitude (of_bits binary64 b)) (lt-ltb 0 b (pos_of_ne-zero h)))

-- ---- tests
ruleset ands = (and_assoc, and_comm, and_left)

-- ---- floats and times as words
magnitude-word : (w : ℕ) → (eqb (float_word (float_of w)) w && magnitude (float_of w)) ≡ magnitude (float_of w)
magnitude-word w =
    and_comm (eqb (float_word (float_of w)) w) (magnitude (float_of w))
    ∙ and-under (magnitude (float_of w)) (eqb (float_word (float_of w)) w) true (λ m. eq-eqb (float_word (float_of w)) w (bits_back w m))
    ∙ and-true (magnitude (float_of w))

rate-word : (w : ℕ) → (eqb (float_word (float_of w)) w && is_rate (float_of w)) ≡ is_rate (float_of w)
rate-word w =
    let back : Bool = eqb (float_word (float_of w)) w in
    ap (λ (b : Bool). back && b) (rate-bits w)
    ∙ and_left back (ltb 0 w) (magnitude (float_of w))
    ∙ ap (λ (b : Bool). ltb 0 w && b) (magnitude-word w)
    ∙ sym (rate-bits w)

pub word_fits : (w : ℕ) → is_f64 (float_of w) ≡ true
word_fits w = is_true (is_f64 (float_of w)) (of_bits-fits binary64 w)

abbrev tat_words : ℕ → ℕ → List ℕ
tat_words flag tat = time_words (time_of flag tat)

tat-words : (flag tat : ℕ) → same (tat_words flag tat) (flag ∷ tat ∷ []) ≡ is_time flag tat
tat-words flag tat = time-words flag tat

same-words : (u : Units) (key packed flag tat : ℕ) → same (shadow_words u (shadow_of u (key ∷ packed ∷ flag ∷ tat ∷ []))) (key ∷ packed ∷ flag ∷ tat ∷ []) ≡ (eqb (pack u (unpack u packed)) packed && same (tat_words flag tat) (flag ∷ tat ∷ []))
unfolding same shadow_words shadow_of
same-words u key packed flag tat = rw (eqb-self key)

-- ---- which of the two kinds
pub four_are : (u : Units) (r : List ℕ) → length r ≡ 4 → are_shadow_words u r ≡ are_words u r
unfolding are_words
four_are u r e = sym (ap (λ (b : Bool). cond b (are_shadow_words u r) (are_key_words u r)) (eq-eqb (length r) 4 e))

pub others-are : (u : Units) (r : List ℕ) → (length r ≡ 4 → ⊥) → are_key_words u r ≡ are_words u r
unfolding are_words
others-are u r h = sym (ap (λ (b : Bool). cond b (are_shadow_words u r) (are_key_words u r)) (ne_eqb (length r) 4 h))

module _ (u : Units) (a : Accepted u) where
  -- ---- a key
  abbrev pub KeyIs : List ℕ → Type 0
  KeyIs = PassIs (key_words u) (key_of u) (valid_key u) (are_key_words u)

  module _ (key rate burst d e f g h i j k l m n o p q r s packed flag tat : ℕ) where
    abbrev words : List ℕ
    words =
        key ∷ rate ∷ burst ∷ d ∷ e ∷ f ∷ g ∷ h ∷ i ∷ j ∷ k ∷ l ∷ m ∷ n ∷ o ∷ p ∷ q ∷ r ∷ s ∷ packed ∷ flag ∷ tat ∷ []

    abbrev back : ℕ → Bool
    back w = eqb (float_word (float_of w)) w

    same_key : same (key_words u (key_of u words)) words ≡ (back rate && (back d && (back h && (back l && (back p && (eqb (pack u (unpack u packed)) packed && same (tat_words flag tat) (flag ∷ tat ∷ [])))))))
    unfolding same key_words key_of
    same_key = rw (eqb-self key, eqb-self burst, eqb-self e, eqb-self f, eqb-self g, eqb-self i, eqb-self j, eqb-self k, eqb-self m, eqb-self n, eqb-self o, eqb-self q, eqb-self r, eqb-self s)

    abbrev is_words : Bool
    is_words = all is_word (key_words u (key_of u words))

    valid-parts : valid_key u (key_of u words) ≡ (is_words && ((is_rate (float_of rate) && valid_burst burst) && ((magnitude (float_of d) && magnitude (float_of h)) && ((magnitude (float_of l) && magnitude (float_of p)) && valid_quota u (unpack u packed)))))
    unfolding valid_key valid_limit key_of
    valid-parts = (λ z. is_words && ((word_fits rate z && (is_rate (float_of rate) && valid_burst burst)) && (((word_fits d z && magnitude (float_of d)) && (word_fits h z && magnitude (float_of h))) && (((word_fits l z && magnitude (float_of l)) && (word_fits p z && magnitude (float_of p))) && valid_quota u (unpack u packed)))))

    group : (x₀ x₁ x₂ x₃ x₄ x₅ x₆ w y₀ b y₁ y₂ y₃ y₄ y₅ : Bool) → ((x₀ && (x₁ && (x₂ && (x₃ && (x₄ && (x₅ && x₆)))))) ≡ true → w ≡ true) → ((x₀ && (x₁ && (x₂ && (x₃ && (x₄ && (x₅ && x₆)))))) && (w && ((y₀ && b) && ((y₁ && y₂) && ((y₃ && y₄) && y₅))))) ≡ (((x₀ && y₀) && b) && (((x₁ && y₁) && ((x₂ && y₂) && ((x₃ && y₃) && (x₄ && y₄)))) && ((x₅ && y₅) && x₆)))
    group x₀ x₁ x₂ x₃ x₄ x₅ x₆ w y₀ b y₁ y₂ y₃ y₄ y₅ t =
        let rest : Bool = (y₀ && b) && ((y₁ && y₂) && ((y₃ && y₄) && y₅)) in
        and-under (x₀ && (x₁ && (x₂ && (x₃ && (x₄ && (x₅ && x₆)))))) (w && rest) rest (λ z. ap (λ (c : Bool). c && rest) (t z))
        ∙ simp ands

    key-words : KeyIs words
    unfolding is_limit are_rates is_meter
    key-words word =
        (λ z. same_key z && valid-parts z)
        ∙ group (back rate) (back d) (back h) (back l) (back p) (eqb (pack u (unpack u packed)) packed) (same (tat_words flag tat) (flag ∷ tat ∷ [])) is_words (is_rate (float_of rate)) (valid_burst burst) (magnitude (float_of d)) (magnitude (float_of h)) (magnitude (float_of l)) (magnitude (float_of p)) (valid_quota u (unpack u packed))
        (λ z. exact-words (key_words u (key_of u words)) words word (same_key ∙ z))
        ∙ (λ z. (rate-word rate z && valid_burst burst) && ((magnitude-word d z && (magnitude-word h z && (magnitude-word l z && magnitude-word p z))) && (word-is u a packed z && tat-words flag tat z)))

  pub key-words-pass : (r : List ℕ) → length r ≡ 22 → KeyIs r
  key-words-pass =
      four-words KeyIs 18 (λ a b c d. four-words (λ r. KeyIs (a ∷ b ∷ c ∷ d ∷ r)) 14 (λ e f g h. four-words (λ r. KeyIs (a ∷ b ∷ c ∷ d ∷ e ∷ f ∷ g ∷ h ∷ r)) 10 (λ i j k l. four-words (λ r. KeyIs (a ∷ b ∷ c ∷ d ∷ e ∷ f ∷ g ∷ h ∷ i ∷ j ∷ k ∷ l ∷ r)) 6 (λ m n o p. words-6 (λ r. KeyIs (a ∷ b ∷ c ∷ d ∷ e ∷ f ∷ g ∷ h ∷ i ∷ j ∷ k ∷ l ∷ m ∷ n ∷ o ∷ p ∷ r)) (key-words a b c d e f g h i j k l m n o p)))))

  -- ---- a shadow
  abbrev pub ShadowIs : List ℕ → Type 0
  ShadowIs = PassIs (shadow_words u) (shadow_of u) (valid_shadow u) (are_shadow_words u)

  shadow-words : (key packed flag tat : ℕ) → ShadowIs (key ∷ packed ∷ flag ∷ tat ∷ [])
  unfolding valid_shadow shadow_of is_meter
  shadow-words key packed flag tat word =
      let r : List ℕ = key ∷ packed ∷ flag ∷ tat ∷ [] in
      let ws : List ℕ = shadow_words u (shadow_of u r) in
      let x : Bool = eqb (pack u (unpack u packed)) packed in
      let t : Bool = same (tat_words flag tat) (flag ∷ tat ∷ []) in
      let v : Bool = valid_quota u (unpack u packed) in
      ap (λ (b : Bool). b && (all is_word ws && v)) same-shadow
      ∙ and-under (x && t) (all is_word ws && v) v (λ z. ap (λ (b : Bool). b && v) (exact-words ws r word (same-shadow ∙ z)))
      ∙ turned x t v
      ∙ (λ z. word-is u a packed z && tat-words flag tat z)
    where
      same-shadow : same (shadow_words u (shadow_of u (key ∷ packed ∷ flag ∷ tat ∷ []))) (key ∷ packed ∷ flag ∷ tat ∷ []) ≡ (eqb (pack u (unpack u packed)) packed && same (tat_words flag tat) (flag ∷ tat ∷ []))
      same-shadow = same-words u key packed flag tat

      turned : (x t v : Bool) → ((x && t) && v) ≡ ((x && v) && t)
      turned x t v = simp ands

  pub shadow-words-pass : (r : List ℕ) → length r ≡ 4 → ShadowIs r
  shadow-words-pass = words-4 ShadowIs shadow-words
