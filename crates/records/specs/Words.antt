-- Moves of words within a list.
use Rattle.std.specs.Prelude.{ℕ, ◌+◌, ◌-◌, List, ◌++◌, Bool, cond, ◌&&◌, leb, take, drop, length}
use Rattle.std.proofs.Math.Seq.{slice}

-- xs after its words from index f up to t were copied to index d on
unfoldable pub copy_within : (f t d : ℕ) → List ℕ → List ℕ
copy_within f t d xs = take d xs ++ (slice f t xs ++ drop (d + (t - f)) xs)

-- the words from index f up to t, and as many from index d on, are within len words
unfoldable pub copyable : (len f t d : ℕ) → Bool
copyable len f t d = leb f t && (leb t len && leb (d + (t - f)) len)

-- xs after they were copied; as it was where they are not
unfoldable pub copied : (f t d : ℕ) → List ℕ → List ℕ
copied f t d xs = cond (copyable (length xs) f t d) (copy_within f t d xs) xs

-- xs with the words of r at index a on
unfoldable pub paste : ℕ → List ℕ → List ℕ → List ℕ
paste a r xs = take a xs ++ (r ++ drop (a + length r) xs)
