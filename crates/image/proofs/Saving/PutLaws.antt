-- Writing bytes: one paste after another, and the turns of the loops that write.
use Prim.Native.Nat.{ℕ, suc, ◌+◌, ◌-◌, ◌*◌, ◌≤◌, ◌<◌}
use mathlib.Core.Bool.{true}
use mathlib.Core.Path.{◌≡◌, refl, sym, ap, ◌∙◌}
use Rattle.std.specs.Option.{unwrap_or}
use mathlib.Core.List.{List, [], ◌∷◌, ◌++◌, map, append_assoc, append-nil}
use native.Mathlib.Nat.{add-zero}
use native.Mathlib.Omega.{arith}
use borrow.Author.Tests.{leb-true}
use lib.Dec.{leb, eqb}
use lib.ListN.{length, take, drop, set, length-append, length-map, length-drop, take-append-drop}
use lib.Seq.{length-take-le, sets-eq, take_at, drop-append-add, drop-drop}
use Rattle.records.specs.Words.{paste}
use Rattle.records.specs.Records.{records, flat}
use Rattle.records.proofs.Words.RecordLaws.{records-split, length-records, row}
use Rattle.records.proofs.Tables.TableLaws.{Wide, wide-records, length-flat}
use Rattle.questions.proofs.Tests.{split, both}
use Rattle.questions.specs.Lists.{all}
use Rattle.image.specs.Image.{record_bytes, Kind, layout, last_kind}
use Rattle.image.specs.Reader.{words_among, word_count, record_size}
use Rattle.image.proofs.Reading.ByteLaws.{length-words-bytes}

-- ---- pastes

pub paste_none : (a : ℕ) (xs : List ℕ) → paste a [] xs ≡ xs
unfolding paste
paste_none a xs = ap (λ (k : ℕ). take a xs ++ drop k xs) (add-zero a) ∙ take-append-drop a xs

pub length-pasted : (a : ℕ) (r xs : List ℕ) → a + length r ≤ length xs → length (paste a r xs) ≡ length xs
unfolding paste
length-pasted a r xs h = simp length-append (omega (arith, length-take-le a xs (omega arith), length-drop (a + length r) xs))

-- a second paste where the first ends
pub paste_more : (a b : ℕ) (r s xs : List ℕ) → a ≤ length xs → b ≡ a + length r → paste b s (paste a r xs) ≡ paste a (r ++ s) xs
unfolding paste
paste_more a b r s xs h e =
    let p : List ℕ = take a xs ++ r in
    let q : List ℕ = drop (a + length r) xs in
    let joined : take a xs ++ (r ++ q) ≡ p ++ q = sym (append_assoc (take a xs) r q) in
    let size : length p ≡ b = length-append (take a xs) r ∙ omega (arith, length-take-le a xs h) in
    let past : length p + length s ≡ b + length s = omega arith in
    let same : a + length r + length s ≡ a + length (r ++ s) = omega (arith, length-append r s) in
    ap (λ (l : List ℕ). take b l ++ (s ++ drop (b + length s) l)) joined
    ∙ (λ i. take_at p q b size i ++ (s ++ (ap (λ (k : ℕ). drop k (p ++ q)) (sym past) ∙ drop-append-add p q (length s) ∙ drop-drop (length s) (a + length r) xs ∙ ap (λ (k : ℕ). drop k xs) same) i))
    ∙ append_assoc (take a xs) r (s ++ drop (a + length (r ++ s)) xs)
    ∙ ap (λ (l : List ℕ). take a xs ++ l) (sym (append_assoc r s (drop (a + length (r ++ s)) xs)))

-- ---- the bytes of a list's items, one after the other

-- one item more
pub flat-more : {A : Type 0} (f : A → List ℕ) (xs : List A) (x : A) → flat (map f (xs ++ (x ∷ []))) ≡ flat (map f xs) ++ f x
unfolding flat
flat-more f [] x = append-nil (f x)
flat-more f (y ∷ ys) x = ap (λ (l : List ℕ). f y ++ l) (flat-more f ys x) ∙ sym (append_assoc (f y) (flat (map f ys)) (f x))

-- one record more
pub records-more : (w j : ℕ) (xs : List ℕ) → records w (j + 1) xs ≡ records w j xs ++ (take w (drop (j * w) xs) ∷ [])
unfolding records
records-more w j xs = records-split w j 1 xs

-- a turn: the bytes of an item are pasted where those of the items before it end
pub item-pasted : {A : Type 0} (f : A → List ℕ) (xs ys : List A) (x : A) → ys ≡ xs ++ (x ∷ [])
    → (a b : ℕ) (out : List ℕ) → a ≤ length out → b ≡ a + length (flat (map f xs)) → paste b (f x) (paste a (flat (map f xs)) out) ≡ paste a (flat (map f ys)) out
item-pasted f xs ys x e a b out h p =
    paste_more a b (flat (map f xs)) (f x) out h p ∙ ap (λ (r : List ℕ). paste a r out) (sym (ap (λ (l : List _). flat (map f l)) e ∙ flat-more f xs x))

-- ---- records

-- the three bytes before a record's words
pub mark-pasted : (a b c at : ℕ) (out : List ℕ) → at + 3 ≤ length out → set (set (set out at a) (at + 1) b) (at + 2) c ≡ paste at (a ∷ b ∷ c ∷ []) out
unfolding paste
mark-pasted a b c at out h =
    let second : at + 1 ≡ suc at = omega arith in
    let third : at + 2 ≡ suc (suc at) = omega arith in
    (λ i. set (set (set out at a) (second i) b) (third i) c)
    ∙ sets-eq (a ∷ b ∷ c ∷ []) out at h
    ∙ append_assoc (take at out) (a ∷ b ∷ c ∷ []) (drop (at + 3) out)

pub length-record-bytes : (kind w : ℕ) (ws : List ℕ) → length ws ≡ w → length (record_bytes kind ws) ≡ 3 + 8 * w
unfolding record_bytes
length-record-bytes kind w ws e = omega (arith, length-words-bytes ws, e)

wide_rows : (kind w : ℕ) (rs : List (List ℕ)) → Wide w rs → Wide (3 + 8 * w) (map (record_bytes kind) rs)
wide_rows kind w [] p = tt
wide_rows kind w (r ∷ rs) p = (length-record-bytes kind w r p.0, wide_rows kind w rs p.1)

-- the bytes of n records of w words
pub length-rows : (kind w n : ℕ) (xs : List ℕ) → n * w ≤ length xs → length (flat (map (record_bytes kind) (records w n xs))) ≡ n * (3 + 8 * w)
length-rows kind w n xs h =
    let rs : List (List ℕ) = records w n xs in
    length-flat (3 + 8 * w) (map (record_bytes kind) rs) (wide_rows kind w rs (wide-records w n xs h))
    ∙ ap (λ (k : ℕ). k * (3 + 8 * w)) (length-map rs (record_bytes kind) ∙ length-records w n xs)

-- no kind has more than 22 words
pub count-few : (kind : ℕ) → word_count kind ≤ 22
unfolding all
count-few kind = below (last_kind ∷ layout) refl
  where
    below : (xs : List Kind) → all (λ (x : Kind). leb x.words 22) xs ≡ true → unwrap_or (words_among xs kind) 0 ≤ 22
    below [] a = omega arith
    below (x ∷ xs) a =
        let b = both (leb x.words 22) _ a in
        split (eqb x.kind kind) (λ e. rw e (leb-true x.words 22 b.0)) (λ e. rw e (below xs b.1))

-- n records of w words, w as it was answered for the kind, are within so many words, and from a place on within so many bytes
pub record Within (n w at words size : ℕ) : Type 0 where
  pub few : w ≤ 22
  pub in_words : n * w ≤ words
  pub in_bytes : at + n * (3 + 8 * w) ≤ size

pub within : (kind n w at words size : ℕ) → w ≡ word_count kind → n * word_count kind ≤ words → at + n * record_size kind ≤ size → Within n w at words size
within kind n w at words size e h k =
    let p : n * w ≡ n * word_count kind = ap (λ (z : ℕ). n * z) e in
    record { few = omega (arith, count-few kind, e); in_words = omega arith; in_bytes = omega arith }

-- row i, of n, is within both
pub record RowWithin (i n w at words size : ℕ) : Type 0 where
  pub few : w ≤ 22
  pub in_words : i * w + w ≤ words
  pub in_bytes : at + i * (3 + 8 * w) + (3 + 8 * w) ≤ size

pub row_within : (i n w at words size : ℕ) → i < n → Within n w at words size → RowWithin i n w at words size
row_within i n w at words size h p =
    let r = row w n i h in
    record { few = p.few; in_words = omega (arith, p.in_words); in_bytes = omega (arith, p.in_bytes) }

-- the words of row i, as they are lent
pub length-row : (i n w at words size : ℕ) (xs : List ℕ) → RowWithin i n w at words size → words ≡ length xs → length (take (i * w + w - i * w) (drop (i * w) xs)) ≡ w
length-row i n w at words size xs p e =
    let d : i * w + w - i * w ≡ w = omega arith in
    ap (λ (k : ℕ). length (take k (drop (i * w) xs))) d ∙ length-take-le w (drop (i * w) xs) (omega (arith, p.in_words, length-drop (i * w) xs))
