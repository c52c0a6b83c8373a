-- Laws of steps over the contested keys: the key heard longest ago.
use Rattle.std.proofs.Common.{◌≡◌, ℕ, ◌+◌, ◌*◌, ◌<◌, ◌≤◌, Bool, true, false, cond, ◌&&◌, ◌||◌, eqb, ltb, List, length, get_or, take, drop, sym, ap, ◌∙◌, arith}
use Rattle.peers.specs.Peers.Records.{ContestedKey, contested_of}
use Rattle.peers.specs.Peers.Changes.{older, oldest}
use Rattle.peers.specs.Peers.Steps.Runs.{contested_in}
use Rattle.records.proofs.Changes.StepLaws.{drop-end, next-record, word_of}

-- ---- the contested key heard longest ago
abbrev pub contested_record : ℕ → List ℕ → ContestedKey
contested_record i xs = contested_of (take 6 (drop (i * 6) xs))

pub older_words : (xs : List ℕ) (i j : ℕ) → older (contested_record i xs) (contested_record j xs) ≡ (ltb (get_or xs (i * 6 + 5) 0) (get_or xs (j * 6 + 5) 0) || (eqb (get_or xs (i * 6 + 5) 0) (get_or xs (j * 6 + 5) 0) && ltb (get_or xs (i * 6 + 1) 0) (get_or xs (j * 6 + 1) 0)))
unfolding contested_of
older_words xs i j = rw (word_of 6 (i * 6) 5 xs (omega arith), word_of 6 (j * 6) 5 xs (omega arith), word_of 6 (i * 6) 1 xs (omega arith), word_of 6 (j * 6) 1 xs (omega arith))

-- the oldest of what was passed, at i, and what is left from j on
abbrev pub oldest_from : List ℕ → ℕ → ℕ → ℕ → ℕ
oldest_from xs n i j = oldest (contested_record i xs) (drop j (contested_in n xs))

module _ (xs : List ℕ) (n i j : ℕ) (h : j < n) where
  pub oldest-next : (k : ℕ) → contested_record k xs ≡ cond (older (contested_record j xs) (contested_record i xs)) (contested_record j xs) (contested_record i xs) → oldest_from xs n k (j + 1) ≡ oldest_from xs n i j
  unfolding oldest
  oldest-next k e = sym (ap (oldest (contested_record i xs)) (next-record contested_of 6 n xs j h) ∙ ap (λ (c : ContestedKey). oldest c (drop (j + 1) (contested_in n xs))) (sym e))

  pub oldest-moves : older (contested_record j xs) (contested_record i xs) ≡ true → oldest_from xs n j (j + 1) ≡ oldest_from xs n i j
  oldest-moves e = oldest-next j (sym (ap (λ (b : Bool). cond b (contested_record j xs) (contested_record i xs)) e))

  pub oldest-stays : older (contested_record j xs) (contested_record i xs) ≡ false → oldest_from xs n i (j + 1) ≡ oldest_from xs n i j
  oldest-stays e = oldest-next i (sym (ap (λ (b : Bool). cond b (contested_record j xs) (contested_record i xs)) e))

pub oldest-end : (xs : List ℕ) (n i j : ℕ) → length (contested_in n xs) ≤ j → (contested_record i xs).key ≡ oldest_from xs n i j
unfolding oldest
oldest-end xs n i j h = sym (ap (oldest (contested_record i xs)) (drop-end (contested_in n xs) j h))
