-- Looking for a line in a buffer, read by read.
use Prim.Native.Nat.{ℕ, suc, ◌+◌, ◌-◌, ◌≤◌, ◌<◌}
use mathlib.Core.Path.{◌≡◌, refl, sym, ap, ◌∙◌, subst}
use mathlib.Core.Logic.{inl, inr, ⊎_elim}
use mathlib.Core.Bool.{Bool, true, false, cond, not, ◌&&◌, ◌||◌, true≢false}
use mathlib.Core.List.{List, [], ◌∷◌, ◌++◌, append_assoc, append-nil}
use native.Mathlib.Omega.{arith}
use borrow.Author.Tests.{ltb-true, ltb-false, le-leb, eqb-true}
use lib.Dec.{eqb, ltb}
use lib.ListN.{length, take, drop, get_or, length-append, take-append-drop}
use native.Mathlib.Numerals.{add-one}
use lib.Seq.{take_at, take_all, take-take, drop-append-le, length-take-le, get_or-take, get_or-drop}
use lib.Seq.{slice, slice-cons, length-slice}
use Rattle.std.proofs.Common.{Option, Some, None}
use Rattle.std.specs.List.{copy_within}
use Rattle.std.proofs.lemmas.List.{drop-take}
use Rattle.std.proofs.Common.{length-drop}
use Rattle.text.specs.declared.lines.Kind.TheVariants as kind
use Rattle.text.specs.declared.lines.Line.{Line}
use Rattle.text.specs.declared.lines.Lines.{Lines}
use Rattle.text.specs.declared.lines.Window.{Window}
use Rattle.text.specs.Input.{index_of, feed, has_no_feed, in_hand, Parted, Told, Came}
use Rattle.text.specs.Steps.{seen, NoFeed, Roomy, More, LineRead, line_of, last_line}

split : {P : Type 0} (b : Bool) → (b ≡ true → P) → (b ≡ false → P) → P
split true y n = y refl
split false y n = n refl

both : (a b : Bool) → (a && b) ≡ true → (a ≡ true) × (b ≡ true)
both true b e = (refl, e)
both false b e = absurd (true≢false (sym e))

neither : (a b : Bool) → (a || b) ≡ false → (a ≡ false) × (b ≡ false)
neither true b e = absurd (true≢false e)
neither false b e = (refl, e)

strictly : (a b : ℕ) → a ≤ b → (b ≡ a → ⊥) → a < b
strictly a b h n = omega arith

-- ---- parts of a list
slice-parts : {A : Type 0} (a b c : ℕ) (l : List A) → a ≤ b → b ≤ c → c ≤ length l → slice a c l ≡ slice a b l ++ slice b c l
slice-parts {A = A} a b c l h k m =
    ap (drop a) (sym (take-append-drop b (take c l)))
    ∙ drop-append-le a (take b (take c l)) (drop b (take c l))
    (omega (arith, h, k, length-take-le b (take c l) (omega (arith, k, length-take-le c l m))))
    ∙ ap (λ (z : List A). drop a z ++ slice b c l) (take-take b c l k)

-- ---- line feeds
nil-clear : has_no_feed [] ≡ true
unfolding has_no_feed
nil-clear = refl

no-feed-append : (xs ys : List ℕ) → has_no_feed xs ≡ true → has_no_feed ys ≡ true → has_no_feed (xs ++ ys) ≡ true
unfolding has_no_feed
no-feed-append [] ys h k = k
no-feed-append (x ∷ xs) ys h k =
    let b = both (not (eqb x feed)) (has_no_feed xs) h in
    (λ i. b.0 i && no-feed-append xs ys b.1 k i)

feed-or : (x : ℕ) (xs : List ℕ) {P : Type 0} → (x ≡ feed → index_of feed (x ∷ xs) ≡ 0 → P)
    → (not (eqb x feed) ≡ true → index_of feed (x ∷ xs) ≡ suc (index_of feed xs) → P) → P
unfolding index_of
feed-or x xs f g = split (eqb x feed)
    (λ e. f (eqb-true x feed e) (ap (λ (b : Bool). cond b 0 (suc (index_of feed xs))) e))
    (λ e. g (ap not e) (ap (λ (b : Bool). cond b 0 (suc (index_of feed xs))) e))

-- no line feed before the first one, and one there
no-feed-before : (xs : List ℕ) → has_no_feed (take (index_of feed xs) xs) ≡ true
unfolding has_no_feed index_of
no-feed-before [] = refl
no-feed-before (x ∷ xs) = feed-or x xs
    (λ e h. ap (λ (n : ℕ). has_no_feed (take n (x ∷ xs))) h)
    (λ e h. ap (λ (n : ℕ). has_no_feed (take n (x ∷ xs))) h ∙ (λ i. e i && no-feed-before xs i))

feed-there : (xs : List ℕ) → index_of feed xs < length xs → get_or xs (index_of feed xs) 0 ≡ feed
feed-there [] h = absurd (omega arith)
feed-there (x ∷ xs) h = feed-or x xs
    (λ e k. ap (λ (n : ℕ). get_or (x ∷ xs) n 0) k ∙ e)
    (λ e k. ap (λ (n : ℕ). get_or (x ∷ xs) n 0) k ∙ feed-there xs (omega (arith, h, k)))

-- ---- a line that is looked for: what was in hand and read is what was passed over and what is seen
pub record Looking (h₀ buf : List ℕ) (w : Window) : Type 0 where
  pub ordered : w.from ≤ w.to
  pub inside : w.to ≤ length buf
  pub input : List ℕ
  pub passed : List ℕ
  pub whole : h₀ ++ input ≡ passed ++ seen w buf
  pub no_feed : has_no_feed passed ≡ true
  pub none_passed : w.given_up ≡ false → passed ≡ []
  pub many : w.given_up ≡ true → length buf ≤ length passed

-- ---- the bytes in hand
in-hand : (from to : ℕ) (xs : List ℕ) → from ≤ to → to ≤ length xs → in_hand (record { from = from; to = to }) xs ≡ slice from to xs
unfolding in_hand
in-hand from to xs h k = (λ i. cond (le-leb from to h i && le-leb to (length xs) k i) (slice from to xs) [])

no_bytes : (xs : List ℕ) → in_hand (record { from = 0; to = 0 }) xs ≡ []
no_bytes xs = in-hand 0 0 xs (omega arith) (omega arith)

pub looks : (w : Window) (xs : List ℕ) → NoFeed w xs → Looking (seen w xs) xs w
looks w xs h = record {
  ordered = h.ordered;
  inside = h.inside;
  input = [];
  passed = [];
  whole = append-nil (seen w xs);
  no_feed = nil-clear;
  none_passed = λ e. refl;
  many = λ e. absurd (true≢false (sym e ∙ h.none_given_up));
}

-- ---- what is told of a line
-- by whether its first bytes were given up
told_of : {bytes passed line rest : List ℕ} (long : ℕ) (b : Bool) → (b ≡ false → passed ≡ []) → (b ≡ true → long ≤ length passed)
    → (b ≡ false → (0 < length bytes) × (length line < long)) → Parted bytes passed line rest
    → Told (cond b kind.TooLong kind.Whole) long bytes line rest
told_of {passed = passed} long true none many fits p = record { passed = passed; many = many refl; parts = p }
told_of {bytes = bytes} {line = line} {rest = rest} long false none many fits p =
    record {
      some = (fits refl).0;
      short = (fits refl).1;
      parts = subst (λ (l : List ℕ). Parted bytes l line rest) (none refl) p;
    }

-- the line itself for one that equals it
pub same_line : {hand xs : List ℕ} {l r : Option Line} {ys : List ℕ} → r ≡ l → LineRead hand xs l ys → LineRead hand xs r ys
same_line q k = rw q k

-- ---- a line feed is seen
module _ (h₀ buf : List ℕ) (w : Window) (g : Looking h₀ buf w) (e : ℕ) (at : e ≡ w.from + index_of feed (seen w buf)) (h : e < w.to) where
  long : length (seen w buf) ≡ w.to - w.from
  long = length-slice w.from w.to buf g.inside

  index-less : index_of feed (seen w buf) < length (seen w buf)
  index-less = omega (arith, at, h, long, g.ordered)

  here : get_or buf e 0 ≡ feed
  here =
      ap (λ (n : ℕ). get_or buf n 0) at
      ∙ sym
      (get_or-drop w.from (take w.to buf) (index_of feed (seen w buf)) 0
      ∙ get_or-take w.to buf (w.from + index_of feed (seen w buf)) 0 (omega (arith, at, h)))
      ∙ feed-there (seen w buf) index-less

  cut : seen w buf ≡ slice w.from e buf ++ (feed ∷ slice (suc e) w.to buf)
  cut =
      slice-parts w.from e w.to buf (omega (arith, at)) (omega (arith, h)) g.inside
      ∙ ap (λ (l : List ℕ). slice w.from e buf ++ l)
      (slice-cons e w.to buf 0 h g.inside ∙ ap (λ (b : ℕ). b ∷ slice (suc e) w.to buf) here)

  line_clear : has_no_feed (slice w.from e buf) ≡ true
  line_clear =
      ap has_no_feed
      (sym
      (ap (take (index_of feed (seen w buf))) cut
      ∙ take_at (slice w.from e buf) (feed ∷ slice (suc e) w.to buf) (index_of feed (seen w buf))
      (length-slice w.from e buf (omega (arith, h, g.inside)) ∙ omega (arith, at))))
      ∙ no-feed-before (seen w buf)

  rest-is : in_hand (record { from = e + 1; to = w.to }) buf ≡ slice (suc e) w.to buf
  rest-is = in-hand (e + 1) w.to buf (omega (arith, h)) g.inside ∙ ap (λ (n : ℕ). slice n w.to buf) (add-one e)

  parted : Parted (h₀ ++ g.input) g.passed (slice w.from e buf) (in_hand (record { from = e + 1; to = w.to }) buf)
  parted = record {
    tail = feed ∷ slice (suc e) w.to buf;
    whole = g.whole ∙ ap (λ (l : List ℕ). g.passed ++ l) cut;
    passed_no_feed = g.no_feed;
    line_no_feed = line_clear;
    behind = inl (ap (λ (l : List ℕ). feed ∷ l) (sym rest-is));
  }

  found-fits : (0 < length (h₀ ++ g.input)) × (length (slice w.from e buf) < length buf)
  found-fits = (
    omega (arith, ap length g.whole, length-append g.passed (seen w buf), index-less),
    omega (arith, length-slice w.from e buf (omega (arith, h, g.inside)), h, g.inside),
  )

  pub found : (xs : List ℕ) → length buf ≡ length xs → LineRead h₀ xs (Some (line_of w.from e w.given_up (e + 1) w.to)) buf
  found xs as_long = record {
    placed = record {
      as_long = as_long;
      within = record {
        ordered = omega (arith, at);
        inside = omega (arith, h, g.inside);
        rest_ordered = omega (arith, h);
        rest_inside = g.inside;
      };
    };
    from_input = record { input = g.input; told = told_of (length buf) w.given_up g.none_passed g.many (λ b. found-fits) parted };
  }

-- no line feed is seen
pub none_seen : (ys : List ℕ) → length ys ≤ index_of feed ys → has_no_feed ys ≡ true
none_seen ys h = ap has_no_feed (sym (take_all (index_of feed ys) ys h)) ∙ no-feed-before ys

-- bytes that `copy_within` moves to the front
moved : (from to : ℕ) (xs : List ℕ) → from ≤ to → to ≤ length xs → take (to - from) (copy_within xs from to 0) ≡ slice from to xs
moved from to xs h k =
    let n : from + (to - from) ≡ to = omega (arith, h) in
    let part : take (to - from) (drop from xs) ≡ slice from to xs = sym (drop-take from (to - from) xs) ∙ ap (λ (m : ℕ). drop from (take m xs)) n in
    take_at (take (to - from) (drop from xs)) (drop (0 + (to - from)) xs) (to - from) (length-take-le (to - from) (drop from xs) (omega (arith, length-drop from xs, h, k))) ∙ part

pub moved-roomy : (w : Window) (xs ys : List ℕ) → 0 < w.from → w.from ≤ w.to → w.to ≤ length xs → ys ≡ copy_within xs w.from w.to 0 → length ys ≡ length xs
    → Roomy w xs (record { from = 0; to = w.to - w.from; given_up = w.given_up }) ys
moved-roomy w xs ys f o h e l = record {
  front = refl;
  inside = omega (arith, h, l);
  kept = inl (refl, omega (arith, f, o, h, l), ap (take (w.to - w.from)) e ∙ moved w.from w.to xs o h);
}

-- where nothing is given up, there is room
pub has_room : {w : Window} {xs : List ℕ} {r : Window} {ys : List ℕ} → Roomy w xs r ys → r.given_up ≡ false → r.to < length ys
has_room k e = ⊎_elim (λ q. q.1) (λ q. absurd (true≢false (sym q.0 ∙ e))) k.kept

-- ---- room is made, and more is read
module _ (h₀ buf : List ℕ) (w : Window) (g : Looking h₀ buf w) (clear : has_no_feed (seen w buf) ≡ true) where
  pub roomed : (r : Window) (ys : List ℕ) → Roomy w buf r ys → length ys ≡ length buf → Looking h₀ ys r × (has_no_feed (seen r ys) ≡ true)
  roomed r ys k l = ⊎_elim
      (λ q. (
        record {
          ordered = omega (arith, k.front);
          inside = k.inside;
          input = g.input;
          passed = g.passed;
          whole = g.whole ∙ ap (λ (z : List ℕ). g.passed ++ z) (sym q.2);
          no_feed = g.no_feed;
          none_passed = λ e. g.none_passed (sym q.0 ∙ e);
          many = λ e. omega (arith, l, g.many (sym q.0 ∙ e));
        },
        ap has_no_feed q.2 ∙ clear,
      ))
      (λ q.
      let nothing : seen r ys ≡ [] = (λ i. slice (k.front i) (q.1 i) ys) in (
        record {
          ordered = omega (arith, k.front, q.1);
          inside = k.inside;
          input = g.input;
          passed = g.passed ++ seen w buf;
          whole = g.whole ∙ sym (ap (λ (z : List ℕ). (g.passed ++ seen w buf) ++ z) nothing ∙ append-nil (g.passed ++ seen w buf));
          no_feed = no-feed-append g.passed (seen w buf) g.no_feed clear;
          none_passed = λ e. absurd (true≢false (sym q.0 ∙ e));
          many = λ e. omega (arith, l, length-append g.passed (seen w buf), ap length q.2);
        },
        ap has_no_feed nothing ∙ nil-clear,
      ))
      k.kept

module _ (h₀ ys zs : List ℕ) (r : Window) (g : Looking h₀ ys r) (same_length : length zs ≡ length ys) (same : take r.to zs ≡ take r.to ys) where
  pub more-read : (more : ℕ) → r.to < more → more ≤ length zs → Looking h₀ zs (record { from = r.from; to = more; given_up = r.given_up })
  more-read more h k =
      let new : List ℕ = slice r.to more zs in
      record {
        ordered = omega (arith, h, g.ordered);
        inside = k;
        input = g.input ++ new;
        passed = g.passed;
        whole =
            sym (append_assoc (h₀) g.input new)
            ∙ ap (λ (l : List ℕ). l ++ new) g.whole
            ∙ append_assoc g.passed (seen r ys) new
            ∙ ap (λ (l : List ℕ). g.passed ++ l)
            (ap (λ (l : List ℕ). drop r.from l ++ new) (sym same)
            ∙ sym (slice-parts r.from r.to more zs g.ordered (omega (arith, h)) k));
        no_feed = g.no_feed;
        none_passed = g.none_passed;
        many = λ e. omega (arith, same_length, g.many e);
      }

  -- the input ended
  module _ (front : r.from ≡ 0) (clear : has_no_feed (seen r ys) ≡ true) (has_room : r.given_up ≡ false → r.to < length ys) where
    line-is : seen r ys ≡ slice 0 r.to zs
    line-is = (λ i. drop (front i) (sym same i))

    last-parted : Parted (h₀ ++ g.input) g.passed (slice 0 r.to zs) (in_hand (record { from = 0; to = 0 }) zs)
    last-parted = record {
      tail = [];
      whole = g.whole ∙ ap (λ (l : List ℕ). g.passed ++ l) (line-is ∙ sym (append-nil (slice 0 r.to zs)));
      passed_no_feed = g.no_feed;
      line_no_feed = ap has_no_feed (sym line-is) ∙ clear;
      behind = inr (refl, no_bytes zs);
    }

    -- nothing was given up, so something is in hand
    last_fits : (r.given_up || ltb 0 r.to) ≡ true → r.given_up ≡ false
        → (0 < length (h₀ ++ g.input)) × (length (slice 0 r.to zs) < length zs)
    last_fits e b =
        let some : 0 < r.to = ltb-true 0 r.to (sym (λ i. b i || ltb 0 r.to) ∙ e) in
        let n = length-slice r.from r.to ys g.inside in (
          omega (arith, some, front, n, ap length g.whole, length-append g.passed (seen r ys)),
          omega (arith, length-slice 0 r.to zs (omega (arith, same_length, g.inside)), has_room b, same_length),
        )

    pub ended : (xs : List ℕ) → length zs ≡ length xs → LineRead h₀ xs (last_line r) zs
    ended xs as_long = by (r.given_up || ltb 0 r.to) refl
      where
        by : (b : Bool) → (r.given_up || ltb 0 r.to) ≡ b → LineRead h₀ xs (cond b (Some (line_of 0 r.to r.given_up 0 0)) None) zs
        by true e = record {
          placed = record {
            as_long = as_long;
            within = record {
              ordered = omega arith;
              inside = omega (arith, same_length, g.inside);
              rest_ordered = omega arith;
              rest_inside = omega arith;
            };
          };
          from_input = record {
            input = g.input;
            told = told_of (length zs) r.given_up g.none_passed (λ t. omega (arith, same_length, g.many t)) (last_fits e) last-parted;
          };
        }
        by false e =
            let n = neither r.given_up (ltb 0 r.to) e in
            let z : r.to ≡ 0 = omega (arith, ltb-false 0 r.to n.1) in
            record {
              placed = record { as_long = as_long; within = tt };
              from_input = record {
                input = g.input;
                told = g.whole ∙ (λ i. g.none_passed n.0 i ++ (line-is ∙ ap (λ (m : ℕ). slice 0 m zs) z) i);
              };
            }

-- ---- a turn of the loop: room is made, and a read brings more bytes, or none
module _ {h₀ buf ys zs : List ℕ} {w r : Window} (g : Looking h₀ buf w) (clear : has_no_feed (seen w buf) ≡ true) (room : Roomy w buf r ys) (s : length ys ≡ length buf) (t : length zs ≡ length ys) where
  pub read-on : {n : ℕ} → More r.to n ys zs → (n ≡ r.to → ⊥) → Looking h₀ zs (record { from = r.from; to = n; given_up = r.given_up })
  read-on {n = n} d some = more-read h₀ ys zs r (roomed h₀ buf w g clear r ys room s).0 t d.kept n (strictly r.to n d.least some) (omega (arith, d.inside, t))

  pub read-none : take r.to zs ≡ take r.to ys → (xs : List ℕ) → length zs ≡ length xs → LineRead h₀ xs (last_line r) zs
  read-none kept xs e = let l = roomed h₀ buf w g clear r ys room s in ended h₀ ys zs r l.0 t kept room.front l.1 (has_room room) xs e

-- ---- what the promise rules out
-- With bytes in hand the end is never told.
pub not-ended : (s : Lines) (xs : List ℕ) (ys : List ℕ) → Came s xs None ys → 0 < length (in_hand s xs) → ⊥
not-ended s xs ys c some =
    split (ltb (index_of feed (in_hand s xs)) (length (in_hand s xs)))
    (λ h.
    let e = (c.in-hand (ltb-true _ _ h)).0 in
    cc)
    (λ h.
    let f = c.from_input (ltb-false _ _ h) in
    omega (arith, ap length f.told, length-append (in_hand s xs) f.input, some))
