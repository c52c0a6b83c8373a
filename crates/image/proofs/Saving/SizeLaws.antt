-- How many bytes an image has, by the counts of its records (question 16 of a save), and at most: 1,372,566.
use Prim.Native.Nat.{ℕ, ◌+◌, ◌*◌, ◌≤◌}
use mathlib.Core.Path.{◌≡◌, refl, ap, ◌∙◌}
use mathlib.Core.Bool.{true}
use mathlib.Core.List.{List, [], ◌∷◌, map}
use native.Mathlib.Nat.{suc-mul}
use native.Mathlib.Omega.{arith}
use lib.ListN.{length, length-append}
use Rattle.records.specs.Records.{flat}
use Rattle.questions.proofs.Tests.{both}
use Rattle.hot.specs.HotSet.Set as hot-set
use Rattle.peers.specs.Peers.Records.{peer_words, snapshot_key_words, contested_words}
use Rattle.hot.proofs.HotSet.Words.{length-words}
use Rattle.peers.proofs.Peers.Tables.WordLaws.{peer-long, key-long, contested-long}
use Rattle.peers.proofs.Peers.Reports.KeptLaws.{valid-says, few_keys, few-contested}
use Rattle.limiter.specs.State as limiter-state
use Rattle.limiter.specs.State.{settings_words, key_words, shadow_words, units_of}
use Rattle.limiter.proofs.States.StateValidLaws as limiter-laws
use Rattle.limiter.proofs.States.StateValidLaws.{sizes-say, few-shadows}
use Rattle.image.specs.Image.{State, valid, Section, ◌of◌, record_bytes, sections, section_bytes, record_count, image}
use Rattle.image.specs.Reader.{word_count, record_size}
use Rattle.image.proofs.Reading.RecordLaws.{length-record}
use Rattle.limiter.proofs.States.WrittenLaws as written
use Rattle.image.proofs.Reading.StateWordLaws as words

-- a section has its records' bytes
length-section : {A : Type 0} (kind : ℕ) (words : A → List ℕ) → ((x : A) → length (words x) ≡ word_count kind) → (xs : List A) → length (section_bytes (kind of map words xs)) ≡ length xs * record_size kind
unfolding flat
length-section kind words long [] = omega arith
length-section kind words long (x ∷ xs) =
    length-append (record_bytes kind (words x)) (section_bytes (kind of map words xs))
    ∙ omega (arith, length-record kind (words x) (long x), length-section kind words long xs, suc-mul (length xs) (record_size kind))

-- 107 bytes for the settings, 179 for a key, 51 for a hot entry, 35 for a shadow, 99 for a peer, 35 for a snapshot key, 51 for a contested one, 11 for the end
abbrev pub size_of : State → ℕ
size_of s =
    118
    + length s.limiter.keys * 179
    + length s.limiter.hot * 51
    + length s.limiter.shadows * 35
    + length s.peers.peers * 99
    + length s.peers.snapshot_keys * 35
    + length s.peers.contested * 51

-- sections have their bytes together
abbrev bytes_of : List Section → ℕ
bytes_of [] = 0
bytes_of (x ∷ xs) = length (section_bytes x) + bytes_of xs

-- as many as one after the other
length-sections : (xs : List Section) → length (flat (map section_bytes xs)) ≡ bytes_of xs
unfolding flat
length-sections [] = refl
length-sections (x ∷ xs) = length-append (section_bytes x) (flat (map section_bytes xs)) ∙ ap (λ (n : ℕ). length (section_bytes x) + n) (length-sections xs)

-- the bytes of all but the end
before-end : (s : State) → bytes_of (sections s) + 11 ≡ size_of s
unfolding sections
before-end s =
    omega (
      arith,
      length-section 1 settings_words words.settings-long (s.limiter.settings ∷ []),
      length-section 2 (key_words (units_of s.limiter.settings)) (written.key-long (units_of s.limiter.settings)) s.limiter.keys,
      length-section 3 hot-set.words length-words s.limiter.hot,
      length-section 4 (shadow_words (units_of s.limiter.settings)) (written.shadow-long (units_of s.limiter.settings)) s.limiter.shadows,
      length-section 5 peer_words peer-long s.peers.peers,
      length-section 6 snapshot_key_words key-long s.peers.snapshot_keys,
      length-section 7 contested_words contested-long s.peers.contested,
    )

-- so an image has as many bytes as its counts say
pub length-image : (s : State) → length (image s) ≡ size_of s
unfolding image
length-image s =
    length-append (flat (map section_bytes (sections s))) (record_bytes 0 (record_count (sections s) ∷ []))
    ∙ omega (arith, length-sections (sections s), length-record 0 (record_count (sections s) ∷ []) refl, before-end s)

-- and a valid state's at most 1,372,566
pub largest-image : (s : State) → valid s ≡ true → length (image s) ≤ 1372566
unfolding valid
largest-image s e =
    let b = both (limiter-state.valid (units_of s.limiter.settings) s.limiter) _ e in
    let l = limiter-laws.valid-says (units_of s.limiter.settings) s.limiter b.0 in
    let z = sizes-say s.limiter.settings.config l.settings.config.sizes in
    let p = valid-says s.peers b.1 in
    omega (
      arith,
      length-image s,
      l.few,
      l.hot_few,
      few-shadows (units_of s.limiter.settings) s.limiter l,
      z.most_hot,
      z.most_held,
      p.few_peers,
      few_keys s.peers p,
      few-contested s.peers p,
    )
