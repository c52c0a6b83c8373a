-- The kind byte: what it decides, the record that stands at a place by it, and that a reader refuses a kind that it doesn't know.
use Prim.Native.Nat.{ℕ, ◌+◌, ◌≤◌, ◌<◌}
use mathlib.Core.Path.{◌≡◌, refl, sym, ap, ◌∙◌, subst}
use mathlib.Core.Bool.{Bool, true, false, cond}
use mathlib.Core.List.{List, [], ◌∷◌}
use Rattle.std.specs.Option.{unwrap_or}
use native.Mathlib.Omega.{arith}
use borrow.Author.Tests.{leb-true, leb-false, le-leb, lt-leb, eqb-true, eq-eqb}
use lib.Dec.{leb, eqb}
use denote.Enum.Declared.{tag_of}
use denote.Enum.Bare.{sameb}
use Rattle.image.specs.contracts.rows.Kind.{the_type}
use lib.ListN.{length, drop, get_or}
use Rattle.questions.proofs.Tests.{split, and_first, and_second, same_truth, contradiction}
use Rattle.questions.specs.Lists.{all}
use Rattle.image.specs.declared.rows.Record.{Record}
use Rattle.image.specs.declared.rows.Kind.{Kind}
use Rattle.image.specs.declared.rows.Kind.TheVariants.{End, Settings, Key, Hot, Shadow, Peer, SnapshotKey, Contested}
use Rattle.image.specs.Kinds.{kind_number, kind_among, kind_of}
use Rattle.image.specs.Reader.{is_there, is_kind, record_size, begins, after_sections, is_end, is_byte, is_image_to}
use Rattle.image.specs.Steps.{kind_found, record_of, record_at}
use Rattle.image.proofs.Loading.ReadLaws.{begins-short, begins-first, begins-second, begins-third, begins-room, begins-kind}
use Rattle.std.specs.declared.option.Option.{Option}
use Rattle.std.specs.declared.option.Option.TheVariants.{None, Some}

-- ---- what stands under a test that it passed

some-under : {A : Type 0} (b : Bool) (x y : A) → cond b (Some x) None ≡ Some y → (b ≡ true) × (x ≡ y)
some-under true x y e = (refl, ap (λ (o : Option _). unwrap_or o x) e)
some-under false x y e = contradiction (sym (ap is_there e))

-- ---- the kinds

-- a kind's number is that of a kind of the layout, and no other number is
pub kinds-known : (byte : ℕ) → is_there (kind_of byte) ≡ is_kind byte
kinds-known byte =
    split (eqb 0 byte) (λ e. rw e) (λ e0. rw e0 (
    split (eqb 1 byte) (λ e. rw e) (λ e1. rw e1 (
    split (eqb 2 byte) (λ e. rw e) (λ e2. rw e2 (
    split (eqb 3 byte) (λ e. rw e) (λ e3. rw e3 (
    split (eqb 4 byte) (λ e. rw e) (λ e4. rw e4 (
    split (eqb 5 byte) (λ e. rw e) (λ e5. rw e5 (
    split (eqb 6 byte) (λ e. rw e) (λ e6. rw e6 (
    split (eqb 7 byte) (λ e. rw e) (λ e7. rw e7)))))))))))))))

-- a kind comes back from its number
pub kind-back : (k : Kind) → kind_of (kind_number k) ≡ Some k
kind-back End = refl
kind-back Settings = refl
kind-back Key = refl
kind-back Hot = refl
kind-back Shadow = refl
kind-back Peer = refl
kind-back SnapshotKey = refl
kind-back Contested = refl

among-byte : (ks : List Kind) (byte : ℕ) (k : Kind) → kind_among ks byte ≡ Some k → kind_number k ≡ byte
among-byte [] byte k e = contradiction (sym (ap is_there e))
among-byte (x ∷ xs) byte k e = split (eqb (kind_number x) byte)
    (λ t. ap kind_number (sym (ap (λ (o : Option Kind). unwrap_or o x) (sym (ap (λ (b : Bool). cond b (Some x) (kind_among xs byte)) t) ∙ e))) ∙ eqb-true (kind_number x) byte t)
    (λ f. among-byte xs byte k (sym (ap (λ (b : Bool). cond b (Some x) (kind_among xs byte)) f) ∙ e))

-- the number of a byte's kind is the byte
pub kind-byte : (byte : ℕ) (k : Kind) → Some k ≡ kind_of byte → kind_number k ≡ byte
kind-byte byte k e = among-byte (End ∷ Settings ∷ Key ∷ Hot ∷ Shadow ∷ Peer ∷ SnapshotKey ∷ Contested ∷ []) byte k (sym e)

-- two kinds are the same where their numbers are
tag-number : (k : Kind) → tag_of the_type k ≡ kind_number k
tag-number End = refl
tag-number Settings = refl
tag-number Key = refl
tag-number Hot = refl
tag-number Shadow = refl
tag-number Peer = refl
tag-number SnapshotKey = refl
tag-number Contested = refl

pub same-kind : (a b : Kind) → sameb the_type a b ≡ eqb (kind_number a) (kind_number b)
same-kind a b = (λ i. eqb (tag-number a i) (tag-number b i))

-- ---- the record of a kind byte

none-found : (at : ℕ) (o : Option Kind) → kind_found false at o ≡ None
none-found at None = refl
none-found at (Some k) = refl

found-under : (b : Bool) (at : ℕ) (o : Option Kind) (x : Record) → kind_found b at o ≡ Some x → (b ≡ true) × (o ≡ Some x.kind) × (at + record_size (kind_number x.kind) ≡ x.end)
found-under b at None x e = contradiction (sym (ap is_there e))
found-under b at (Some k) x e =
    let p = some-under b (record { kind = k; end = at + record_size (kind_number k) }) x e in (
      p.0,
      ap (λ (r : Record). Some r.kind) p.1,
      sym (ap (λ (r : Record). at + record_size (kind_number r.kind)) p.1) ∙ ap (λ (r : Record). r.end) p.1,
    )

module _ (byte at len : ℕ) where
  pub no-record-of : None ≡ kind_of byte → None ≡ record_of byte at len
  unfolding record_of
  no-record-of e = ap (kind_found (leb (at + record_size byte) len) at) e

  module _ (k : Kind) (e : Some k ≡ kind_of byte) (size : ℕ) (z : size ≡ record_size (kind_number k)) where
    whole : at + size ≡ at + record_size byte
    whole = ap (λ (n : ℕ). at + n) z ∙ ap (λ (n : ℕ). at + record_size n) (kind-byte byte k e)

    pub short-record : len < at + size → None ≡ record_of byte at len
    unfolding record_of
    short-record h =
        sym (ap (λ (b : Bool). kind_found b at (kind_of byte)) (lt-leb (at + record_size byte) len (omega (arith, whole))) ∙ none-found at (kind_of byte))

    pub whole-record : at + size ≤ len → Some (record { kind = k; end = at + size }) ≡ record_of byte at len
    unfolding record_of
    whole-record h =
        let t : true ≡ leb (at + record_size byte) len = sym (le-leb (at + record_size byte) len (omega (arith, whole))) in
        ap (λ (n : ℕ). Some (record { kind = k; end = at + n })) z
        ∙ (λ i. kind_found (t i) at (e i))

-- ---- the record that stands at a place

module _ (at : ℕ) (xs : List ℕ) where
  abbrev byte : ℕ
  byte = get_or xs (at + 2) 0

  none-at : begins byte (drop at xs) ≡ false → None ≡ record_at at xs
  unfolding record_at
  none-at e = sym (ap (λ (b : Bool). kind_found b at (kind_of byte)) e ∙ none-found at (kind_of byte))

  -- too few bytes for a mark and a kind
  pub none-short : length xs < at + 3 → None ≡ record_at at xs
  none-short h = none-at (begins-short byte at xs (omega arith))

  -- no mark
  pub none_first : (get_or xs at 0 ≡ 0x52 → ⊥) → None ≡ record_at at xs
  none_first d =
      none-at (split (leb (at + record_size byte) (length xs)) (λ e. begins-first byte at xs (leb-true _ _ e) d) (λ e. begins-short byte at xs (leb-false _ _ e)))

  pub none-second : get_or xs at 0 ≡ 0x52 → (get_or xs (at + 1) 0 ≡ 0x47 → ⊥) → None ≡ record_at at xs
  none-second m d =
      none-at (split (leb (at + record_size byte) (length xs)) (λ e. begins-second byte at xs (leb-true _ _ e) m d) (λ e. begins-short byte at xs (leb-false _ _ e)))

  -- behind a mark the kind byte decides
  pub by_kind : get_or xs at 0 ≡ 0x52 → get_or xs (at + 1) 0 ≡ 0x47 → record_of byte at (length xs) ≡ record_at at xs
  unfolding record_of record_at
  by_kind m n = ap (λ (b : Bool). kind_found b at (kind_of byte)) whole
    where
      whole : leb (at + record_size byte) (length xs) ≡ begins byte (drop at xs)
      whole =
          split (leb (at + record_size byte) (length xs))
          (λ e. e ∙ sym (begins-third byte at xs (leb-true _ _ e) m n ∙ eq-eqb byte byte refl))
          (λ e. e ∙ sym (begins-short byte at xs (leb-false _ _ e)))

  -- a record of a kind stands there where its kind is found
  module _ (kind : Kind) where
    here : begins (kind_number kind) (drop at xs) ≡ true → record_at at xs ≡ Some (record { kind = kind; end = at + record_size (kind_number kind) })
    unfolding record_at
    here b =
        let e = begins-kind (kind_number kind) at xs b in
        (λ i. kind_found (begins (e i) (drop at xs)) at (kind_of (e i)))
        ∙ (λ i. kind_found (b i) at (kind-back kind i))

    pub none-begins : None ≡ record_at at xs → false ≡ begins (kind_number kind) (drop at xs)
    none-begins e = sym (split (begins (kind_number kind) (drop at xs)) (λ b. contradiction (sym (ap is_there (e ∙ here b)))) (λ f. f))

    pub found-begins : (x : Record) → Some x ≡ record_at at xs → eqb (kind_number x.kind) (kind_number kind) ≡ begins (kind_number kind) (drop at xs)
    unfolding record_at
    found-begins x e = same_truth (eqb (kind_number x.kind) (kind_number kind)) (begins (kind_number kind) (drop at xs)) there back
      where
        there : eqb (kind_number x.kind) (kind_number kind) ≡ true → begins (kind_number kind) (drop at xs) ≡ true
        there t =
            let p = found-under (begins byte (drop at xs)) at (kind_of byte) x (sym e) in
            let k : byte ≡ kind_number kind = sym (kind-byte byte x.kind (sym p.1)) ∙ eqb-true (kind_number x.kind) (kind_number kind) t in
            subst (λ (j : ℕ). begins j (drop at xs) ≡ true) k p.0

        back : begins (kind_number kind) (drop at xs) ≡ true → eqb (kind_number x.kind) (kind_number kind) ≡ true
        back b =
            eq-eqb (kind_number x.kind) (kind_number kind)
            (ap (λ (r : Record). kind_number r.kind) (some-under true x (record { kind = kind; end = at + record_size (kind_number kind) }) (e ∙ here b)).1)

  -- it has some bytes, and all of them are there
  pub record-within : (x : Record) → Some x ≡ record_at at xs → (at < x.end) × (x.end ≤ length xs)
  unfolding record_at
  record-within x e =
      let p = found-under (begins byte (drop at xs)) at (kind_of byte) x (sym e) in
      let z : at + record_size byte ≡ x.end = ap (λ (n : ℕ). at + record_size n) (sym (kind-byte byte x.kind (sym p.1))) ∙ p.2 in
      let h = begins-room byte at xs p.0 in
      (omega arith, omega arith)

-- ---- a reader that stops at a record of another kind than those that it knows refuses the image

pub unknown-refused : (known bs : List ℕ) (kind : ℕ) → (kind ≡ 0 → ⊥) → begins kind (after_sections known bs) ≡ true → is_image_to known bs ≡ false
unfolding is_image_to is_end
unknown-refused known bs kind d b =
    and_second (all is_byte bs) _ (and_first _ _ (and_first (begins 0 (after_sections known bs)) _ (split (begins 0 (after_sections known bs)) (λ e. absurd (d (both-kinds e))) (λ e. e))))
  where
    both-kinds : begins 0 (after_sections known bs) ≡ true → kind ≡ 0
    both-kinds e = sym (begins-kind kind 0 (after_sections known bs) b) ∙ begins-kind 0 0 (after_sections known bs) e
