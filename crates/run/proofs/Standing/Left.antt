-- What a call that changes the limiter or the peers leaves stands for the state changed, in tables as long; a refused one leaves what was there. One
-- lemma for each shape of promise.
use Prim.Native.Nat.{ℕ}
use native.Mathlib.Omega.{arith}
use mathlib.Core.Path.{◌≡◌, refl, sym, ap, ◌∙◌, subst}
use mathlib.Core.Bool.{Bool, true, false, ◌&&◌}
use mathlib.Core.List.{List, map}
use lib.Ieee.{Float}
use Rattle.records.specs.Records.{records}
use Rattle.std.proofs.lemmas.Bool.{cond-false}
use Rattle.questions.proofs.Tests.{split, both}
use Rattle.questions.specs.Questions.{Question, Answer, passes, changed}
use Rattle.questions.proofs.Answers.{changed-passed}
use Rattle.peers.specs.declared.peer_demand.PeerDemand.{PeerDemand}
use Rattle.hot.specs.HotSet.Set as hot-set
use Rattle.peers.specs.Peers.Records.{peer_words, snapshot_key_words, contested_words}
use Rattle.peers.specs.Peers.State as peer-state
use Rattle.peers.specs.Peers.State.{PeersState, PeerTables, with_counts}
use Rattle.records.specs.Typed.{exact}
use Rattle.limiter.specs.declared.Limiter.{Limiter}
use Rattle.limiter.specs.Answered.{Changed}
use Rattle.limiter.specs.State as limiter-state
use Rattle.limiter.specs.State.{Settings, LimiterState, LimiterTables, lengths, have_room, key_words, key_of, shadow_words, shadow_of, value_of, units_of, units_for, units_in}
use Rattle.limiter.specs.Calls.{Acts, Holds, Ticking}
use Rattle.limiter.specs.Checks.{set_cap}
use Rattle.limiter.proofs.States.WrittenLaws.{read_back, written-valid, lengths-written}
use Rattle.records.proofs.Tables.TypedLaws.{length-written}
use Rattle.peers.proofs.Peers.Tables.WordLaws.{peer-long, key-long, contested-long}
use Rattle.peers.proofs.Peers.Reports.KeptLaws as peers-kept
use Rattle.peers.proofs.Peers.Validity.ValidLaws.{room_says}
use Rattle.peers.proofs.Peers.Theorems as peer-laws
use Rattle.run.proofs.Standing.Stands.{LimiterStands, PeersStand, put_tables, put_peers, limiter-back, peers-back, keys-counted, hot-counted, shadows-counted, same-config}
use Rattle.limiter.proofs.States.StateValidLaws.{units-of-accepted}
use Rattle.run.proofs.Standing.Asked.{asking, Agrees, same_answer, same-passes, same-state, same-changed}
use Rattle.std.specs.declared.option.Option.{Option}

-- ---- any change

-- a value and tables that come back: they stand for y and are as long where every question is answered 'yes', and are as they were where one is not
pub record Leaves {Value Tables S Long : Type 0} (Stand : Value → Tables → S → Type 0) (put : Tables → Tables) (long : Tables → Long)
    (qs : List Question) (y : S) (v : Value) (t : Tables) (v' : Value) (t' : Tables) : Type 0 where
  pub done : passes qs ≡ true → Stand v' (put t') y
  pub as_long : passes qs ≡ true → long t' ≡ long t
  pub kept : passes qs ≡ false → (v' ≡ v) × (t' ≡ t)

module _ {Value Tables S Long : Type 0} {Stand : Value → Tables → S → Type 0} {put : Tables → Tables} {long : Tables → Long}
    {qs : List Question} {y : S} {v v' : Value} {t t' : Tables} where
  -- so they are as long
  pub left-long : Leaves Stand put long qs y v t v' t' → long t' ≡ long t
  left-long u = split (passes qs) u.as_long (λ e. ap long (u.kept e).1)

  -- and stand for the state changed
  pub left-stands : {x : S} → Leaves Stand put long qs y v t v' t' → Stand v (put t) x → Stand v' (put t') (changed qs x y)
  left-stands {x} u s = split (passes qs)
      (λ e. subst (Stand v' (put t')) (changed-passed y x qs e) (u.done e))
      (λ e.
      let k = u.kept e in
      subst (Stand v' (put t')) (sym (cond-false (passes qs) y x e))
      (subst (λ (a : Value). Stand a (put t') x) (sym k.0) (subst (λ (b : Tables). Stand v (put b) x) (sym k.1) s)))

-- ---- the limiter

-- a state that can be written: it is valid and there is room for it
pub record Lasting (y : LimiterState) (t : LimiterTables) : Type 0 where
  pub valid : limiter-state.valid (units_of y.settings) y ≡ true
  pub room : have_room y.settings.config (lengths t) ≡ true

-- what is written stands for it
pub written_stands : (y : LimiterState) (t : LimiterTables) → limiter-state.valid (units_of y.settings) y ≡ true
    → LimiterStands (value_of y) (limiter-state.written (units_of y.settings) y t) y
unfolding limiter-state.is_valid
written_stands y t v =
    record {
      valid = v;
      reads = read_back (units_of y.settings) (units-of-accepted y.settings) y t v;
      exact =
          (both (limiter-state.are_exact (units_of y.settings) (value_of y) (limiter-state.written (units_of y.settings) y t)) _
          (written-valid (units_of y.settings) (units-of-accepted y.settings) y t v)).0;
    }

-- in tables as long
pub written-long : (y : LimiterState) (t : LimiterTables) → Lasting y t → lengths (limiter-state.written (units_of y.settings) y t) ≡ lengths t
written-long y t k = lengths-written (units_of y.settings) (units-of-accepted y.settings) y t k.valid k.room

module _ {A : Type 0} {said : Answer A} {qs : List Question} {value : A} {y : LimiterState} {l l' : Limiter} {t t' : LimiterTables} where
  -- by `Acts`
  pub acts-leave : (whole : LimiterTables) → Acts said qs value y l t l' t' → (passes qs ≡ true → Lasting y t)
      → Leaves LimiterStands (put_tables whole) lengths qs y l t l' t'
  acts-leave whole c keeps =
      record {
        done = λ e.
            let k = keeps e in
            let w = limiter-state.written (units_of y.settings) y t in
            subst (λ (a : Limiter). LimiterStands a (put_tables whole t') y) (changed-passed (value_of y) l qs e ∙ sym c.limiter)
            (subst (λ (b : LimiterTables). LimiterStands (value_of y) (put_tables whole b) y) (changed-passed w t qs e ∙ sym c.words)
            (limiter-back whole (ap (have_room y.settings.config) (written-long y t k) ∙ k.room) (written_stands y t k.valid)));
        as_long = λ e.
            ap lengths (c.words ∙ sym (changed-passed (limiter-state.written (units_of y.settings) y t) t qs e)) ∙ written-long y t (keeps e);
        kept = λ e.
            (c.limiter ∙ cond-false (passes qs) (value_of y) l e, c.words ∙ cond-false (passes qs) (limiter-state.written (units_of y.settings) y t) t e);
      }

module _ {qs : List Question} {y : LimiterState} {l : Limiter} {r : Changed} {t t' : LimiterTables} where
  -- by `Ticking`
  pub ticking-leaves : (whole : LimiterTables) → Ticking qs y l t r t' → (passes qs ≡ true → Lasting y t)
      → Leaves LimiterStands (put_tables whole) lengths qs y l t r.limiter t'
  ticking-leaves whole c keeps =
      record {
        done = λ e.
            let k = keeps e in
            let h = c.held e in
            subst (λ (a : Limiter). LimiterStands a (put_tables whole t') y) (changed-passed (value_of y) l qs e ∙ sym c.limiter)
            (limiter-back whole (ap (have_room y.settings.config) h.long ∙ k.room)
            (subst (λ (b : LimiterTables). LimiterStands (value_of y) b y) (sym h.front) (written_stands y t' k.valid)));
        as_long = λ e. (c.held e).long;
        kept = λ e. (c.limiter ∙ cond-false (passes qs) (value_of y) l e, c.unmoved e);
      }

-- other settings over the same tables
abbrev with_settings : Settings → LimiterState → LimiterState
with_settings z x = record { settings = z; keys = x.keys; hot = x.hot; shadows = x.shadows }

-- stand for the state with those settings
settings-stand :
    {l : Limiter} {t : LimiterTables} {x : LimiterState} (z : Settings) → limiter-state.valid (units_of z) (with_settings z x) ≡ true
    → z.config ≡ x.settings.config → LimiterStands l t x
    → LimiterStands (value_of (with_settings z x)) t (with_settings z x)
unfolding limiter-state.state_of limiter-state.are_exact hot-set.entries
settings-stand {l} {t} {x} z v c s =
    -- the units are those that the tables stand under
    let u : units_of z ≡ units_in l = ap units_for (c ∙ sym (same-config s)) in
    record {
      valid = v;
      reads =
          (λ i. record {
            settings = record { config = z.config; cap = z.cap; last_tick = z.last_tick };
            keys =
                ((λ j. map (key_of (u j)) (records 22 (keys-counted s j) t.keys)) ∙ ap (λ (y : LimiterState). y.keys) s.reads) i;
            hot = (ap (λ (m : ℕ). map hot-set.entry (records 6 m t.hot)) (hot-counted s) ∙ ap (λ (y : LimiterState). y.hot) s.reads) i;
            shadows =
                ((λ j. map (shadow_of (u j)) (records 4 (shadows-counted s j) t.shadows))
                ∙ ap (λ (y : LimiterState). y.shadows) s.reads) i;
          });
      exact =
          (λ i. exact (key_words (u i)) (key_of (u i)) (records 22 (keys-counted s i) t.keys)
          && (exact hot-set.words hot-set.entry (records 6 (hot-counted s i) t.hot)
          && exact (shadow_words (u i)) (shadow_of (u i)) (records 4 (shadows-counted s i) t.shadows)))
          ∙ s.exact;
    }

-- by `SetsCap`, which leaves the tables
pub cap-leaves :
    {qs : List Question} {l l' : Limiter} {t : LimiterTables} {y : LimiterState} (whole : LimiterTables) (x : Option Float)
    → l' ≡ changed qs l (value_of (set_cap x y)) → (passes qs ≡ true → (LimiterStands l t y) × Lasting (set_cap x y) t)
    → Leaves LimiterStands (put_tables whole) lengths qs (set_cap x y) l t l' t
cap-leaves {qs} {l} {l'} {t} {y} whole x c keeps =
    record {
      done = λ e.
          let k = keeps e in
          subst (λ (a : Limiter). LimiterStands a (put_tables whole t) (set_cap x y)) (changed-passed (value_of (set_cap x y)) l qs e ∙ sym c)
          (limiter-back whole k.1.room (settings-stand (set_cap x y).settings k.1.valid refl k.0));
      as_long = λ e. refl;
      kept = λ e. (c ∙ cond-false (passes qs) (value_of (set_cap x y)) l e, refl);
    }

-- ---- the peers

module _ (y : PeersState) (t : PeerTables) (e : peer-state.valid y ≡ true) where
  -- what is written stands for the state
  pub peers-written-stand : (p : PeerDemand) → PeersStand (with_counts p y) (peer-state.written y t) y
  peers-written-stand p = record { valid = e; reads = peer-laws.read_back p y t e; exact = peer-laws.written-exact p y t e }

-- a state that can be written
pub record PeersLasting (y : PeersState) (t : PeerTables) : Type 0 where
  pub valid : peer-state.valid y ≡ true
  pub room : peer-state.have_room (peer-state.lengths t) ≡ true

-- it is written in tables as long
pub peers-written-long : (y : PeersState) (t : PeerTables) → PeersLasting y t → peer-state.lengths (peer-state.written y t) ≡ peer-state.lengths t
unfolding peer-state.lengths
peers-written-long y t k =
    let v = peers-kept.valid-says y k.valid in
    let r = room_says t k.room in
    (λ i. record {
      peers = length-written peer_words 12 peer-long y.peers t.peers (omega (arith, v.few_peers, r.peers)) i;
      snapshot_keys =
          length-written snapshot_key_words 4 key-long y.snapshot_keys t.snapshot_keys (omega (arith, peers-kept.few_keys y v, r.snapshot_keys)) i;
      contested =
          length-written contested_words 6 contested-long y.contested t.contested (omega (arith, peers-kept.few-contested y v, r.contested)) i;
    })

-- by `Changes`, whose value and words are of the state y
pub changes-leave :
    {qs : List Question} {y : PeersState} {p p' : PeerDemand} {t t' : PeerTables} (whole : PeerTables) → p' ≡ changed qs p (with_counts p y)
    → t' ≡ changed qs t (peer-state.written y t) → (passes qs ≡ true → PeersLasting y t)
    → Leaves PeersStand (put_peers whole) peer-state.lengths qs y p t p' t'
changes-leave {qs} {y} {p} {p'} {t} {t'} whole value words keeps =
    record {
      done = λ e.
          let k = keeps e in
          subst (λ (a : PeerDemand). PeersStand a (put_peers whole t') y) (changed-passed (with_counts p y) p qs e ∙ sym value)
          (subst (λ (b : PeerTables). PeersStand (with_counts p y) (put_peers whole b) y) (changed-passed (peer-state.written y t) t qs e ∙ sym words)
          (peers-back whole (ap peer-state.have_room (peers-written-long y t k) ∙ k.room) (peers-written-stand y t k.valid p)));
      as_long = λ e. ap peer-state.lengths (words ∙ sym (changed-passed (peer-state.written y t) t qs e)) ∙ peers-written-long y t (keeps e);
      kept = λ e. (value ∙ cond-false (passes qs) (with_counts p y) p e, words ∙ cond-false (passes qs) (peer-state.written y t) t e);
    }

-- ---- a promise on what is lent is one on the state that it stands for

module _ {S : Type 0} {room v room' v' : Bool} {y y' : S} (g : Agrees room v y room' v' y') (front : List Question) (rest : S → List Question) where
  -- `Acts`
  pub acts-there :
      {A : Type 0} {said : Answer A} {l l' : Limiter} {t t' : LimiterTables} (value : S → A) (after : S → LimiterState)
      → Acts said (asking front rest room v y) (value y) (after y) l t l' t'
      → Acts said (asking front rest room' v' y') (value y') (after y') l t l' t'
  acts-there {l = l} {t = t} value after c =
      record {
        answered = c.answered ∙ same_answer g front rest value;
        limiter = c.limiter ∙ same-changed g front rest l (λ (x : S). value_of (after x));
        words = c.words ∙ same-changed g front rest t (λ (x : S). limiter-state.written (units_of (after x).settings) (after x) t);
      }

  -- `Ticking`
  pub ticking-there :
      {l : Limiter} {r : Changed} {t t' : LimiterTables} (after : S → LimiterState)
      → Ticking (asking front rest room v y) (after y) l t r t' → Ticking (asking front rest room' v' y') (after y') l t r t'
  ticking-there {l = l} {t = t} {t' = t'} after c =
      record {
        answered = c.answered ∙ same_answer g front rest (λ (x : S). tt);
        limiter = c.limiter ∙ same-changed g front rest l (λ (x : S). value_of (after x));
        held = λ e. subst (λ (x : S). Holds (after x) t t') (same-state g front rest e) (c.held (same-passes g front rest ∙ e));
        unmoved = λ e. c.unmoved (same-passes g front rest ∙ e);
      }
