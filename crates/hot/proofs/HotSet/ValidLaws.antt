-- Valid entries of the hot set: what they say, that new, renewed and cooled entries are valid, and that an update keeps every entry valid.
use mathlib.Core.Path.{◌≡◌, refl, sym, ap, ◌∙◌, subst}
use mathlib.Core.Bool.{Bool, true, false, cond}
use mathlib.Core.List.{List}
use Prim.Native.Nat.{ℕ, ◌-◌, ◌^◌}
use borrow.Author.Tests.{lt-ltb}
use lib.Dec.{T, leb}
use lib.Ieee.{Float, binary64, to_bits, fits}
use lib.Ieee.Bits.{to_bits-lt}
use Rattle.float.specs.Magnitude.{magnitude}
use Rattle.questions.proofs.Tests.{both, and_intro}
use Rattle.records.specs.Fields.{flag_word, time_flag, time_word}
use Rattle.questions.specs.Lists.{all}
use Rattle.records.specs.Typed.{is_word}
use Rattle.hot.specs.HotSet.Set.{words, entry, valid_entry, new_entry, renewed, count_down, cooled, update_with}
use Rattle.hot.specs.declared.hot_set.HotEntry.{HotEntry}
use Rattle.hot.specs.declared.hot_set.HotSet.{HotSet}
use Rattle.hot.proofs.HotSet.Tests.{cooled-demand}
use Rattle.hot.proofs.HotSet.Words.{demand_fits, Fits, entry-words}
use Rattle.hot.proofs.HotSet.EntryLaws.{all-updated}
use Rattle.records.proofs.Words.FieldLaws.{flag-fits, time-flag-fits}
use Rattle.questions.proofs.OnlyLaws.{all-imply}
use Rattle.std.specs.declared.option.Option.{Option}
use Rattle.std.specs.declared.option.Option.TheVariants.{None, Some}

-- ---- a valid entry
pub record GoodEntry (e : HotEntry) : Type 0 where
  pub key_word : is_word e.key ≡ true
  pub demand_f64 : demand_fits e ≡ true
  pub finite : magnitude e.demand ≡ true
  pub cooling_word : is_word (time_word e.cooling_since) ≡ true
  pub since_word : is_word e.since ≡ true

-- what a valid entry says
pub entry-says : (e : HotEntry) → valid_entry e ≡ true → GoodEntry e
unfolding valid_entry words all
entry-says e h =
    let v = both (all is_word (words e)) _ h in
    let d = both (fits binary64 e.demand) (magnitude e.demand) v.1 in
    let k = both (is_word e.key) _ v.0 in
    let p = both (is_word (flag_word e.primary)) _ (both (is_word (to_bits binary64 e.demand)) _ k.1).1 in
    let t = both (is_word (time_word e.cooling_since)) _ (both (is_word (time_flag e.cooling_since)) _ p.1).1 in
    record {
      key_word = k.0;
      demand_f64 = d.0;
      finite = d.1;
      cooling_word = t.0;
      since_word = (both (is_word e.since) true t.1).0;
    }

-- an f64's bits are a word
float_word : (x : Float) → fits binary64 x ≡ true → is_word (to_bits binary64 x) ≡ true
float_word x e = lt-ltb (to_bits binary64 x) (2 ^ 64) (to_bits-lt binary64 x (subst T (sym e) tt))

-- what suffices for a valid entry
entry-valid : (e : HotEntry) → GoodEntry e → valid_entry e ≡ true
unfolding valid_entry words all
entry-valid e g =
    and_intro (all is_word (words e)) _
    (and_intro (is_word e.key) _ g.key_word
    (and_intro (is_word (to_bits binary64 e.demand)) _ (float_word e.demand g.demand_f64)
    (and_intro (is_word (flag_word e.primary)) _ (flag-fits e.primary)
    (and_intro (is_word (time_flag e.cooling_since)) _ (time-flag-fits e.cooling_since)
    (and_intro (is_word (time_word e.cooling_since)) _ g.cooling_word (and_intro (is_word e.since) true g.since_word refl))))))
    (and_intro (fits binary64 e.demand) _ g.demand_f64 g.finite)

-- its words stand for it
pub entry-back : (e : HotEntry) → valid_entry e ≡ true → entry (words e) ≡ e
entry-back e v = entry-words e (entry-says e v).demand_f64

pub valid-fits : (es : List HotEntry) → all valid_entry es ≡ true → Fits es
valid-fits es v = all-imply valid_entry demand_fits es (λ e h. (entry-says e h).demand_f64) v

-- ---- an update

-- what it is given: a key and a reading of 64 bits, and a demand that is finite with a clear sign bit
pub record GoodUpdate (key : ℕ) (demand : Float) (now : ℕ) : Type 0 where
  pub key_word : is_word key ≡ true
  pub demand_f64 : fits binary64 demand ≡ true
  pub finite : magnitude demand ≡ true
  pub now_word : is_word now ≡ true

module _ (key : ℕ) (demand : Float) (now : ℕ) (u : GoodUpdate key demand now) where
  new-entry-valid : (primary : Bool) → valid_entry (new_entry key demand primary now) ≡ true
  new-entry-valid primary =
      entry-valid (new_entry key demand primary now) (record { key_word = u.key_word; demand_f64 = u.demand_f64; finite = u.finite; cooling_word = refl; since_word = u.now_word })

  -- an entry with the key and the start of one that is there
  like-valid : (e : HotEntry) → valid_entry e ≡ true → (primary : Bool) (c : Option ℕ) → is_word (time_word c) ≡ true → valid_entry (record { key = e.key; demand = demand; primary = primary; cooling_since = c; since = e.since }) ≡ true
  like-valid e v primary c t =
      let g = entry-says e v in
      entry-valid (record { key = e.key; demand = demand; primary = primary; cooling_since = c; since = e.since }) (record { key_word = g.key_word; demand_f64 = u.demand_f64; finite = u.finite; cooling_word = t; since_word = g.since_word })

  renewed-valid : (primary : Bool) (e : HotEntry) → valid_entry e ≡ true → valid_entry (renewed demand primary e) ≡ true
  renewed-valid primary e v = like-valid e v primary None refl

  -- one that cools, from a reading that is a word
  cooled-valid : (cooldown : ℕ) (e : HotEntry) → valid_entry e ≡ true → valid_entry (cooled cooldown demand now e) ≡ true
  unfolding cooled
  cooled-valid cooldown e v = either-valid e.primary _ _ (counts e.cooling_since old) (like-valid e v false e.cooling_since old)
    where
      old : is_word (time_word e.cooling_since) ≡ true
      old = (entry-says e v).cooling_word

      either-valid : (b : Bool) (x y : HotEntry) → valid_entry x ≡ true → valid_entry y ≡ true → valid_entry (cond b x y) ≡ true
      either-valid true x y h k = h
      either-valid false x y h k = k

      counts : (c : Option ℕ) → is_word (time_word c) ≡ true → valid_entry (count_down cooldown demand now e c) ≡ true
      counts None t = like-valid e v true (Some now) u.now_word
      counts (Some s) t = either-valid (leb cooldown (now - s)) _ _ (like-valid e v false None refl) (like-valid e v true (Some s) t)

module _ (margin : Float) (s : HotSet) (key : ℕ) (demand threshold : Float) (now : ℕ) (elsewhere : Bool) (es : List HotEntry) where
  -- every entry stays valid
  pub updated-valid : GoodUpdate key demand now → all valid_entry es ≡ true → all valid_entry (update_with margin s key demand threshold now elsewhere es).left ≡ true
  updated-valid u =
      all-updated valid_entry margin s.cooldown s.max_size key demand now
      (new-entry-valid key demand now u)
      (renewed-valid key demand now u)
      (cooled-valid key demand now u s.cooldown)
      s refl refl threshold elsewhere es

  -- and has a demand that the format holds
  pub updated-fits : fits binary64 demand ≡ true → Fits es → Fits (update_with margin s key demand threshold now elsewhere es).left
  updated-fits f =
      all-updated demand_fits margin s.cooldown s.max_size key demand now
      (λ primary. f)
      (λ primary e h. f)
      (λ e h. ap (fits binary64) (cooled-demand s.cooldown demand now e) ∙ f)
      s refl refl threshold elsewhere es
