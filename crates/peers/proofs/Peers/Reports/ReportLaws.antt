-- Laws: a peer by its words, and what a report does to it.
use Rattle.std.proofs.Common.{◌≡◌, ℕ, zero, suc, ◌+◌, ◌-◌, ◌^◌, ◌<◌, ◌≤◌, min, Bool, true, false, cond, not, ◌&&◌, ◌||◌, eqb, ltb, leb, List, [], ◌∷◌, ◌++◌, map, length, get_or, take, drop, sym, refl, ap, ◌∙◌, subst, le_of_suc-le-suc, not-suc-le-zero, arith, get_or-drop, take_all, ltb-true, lt-ltb, eq-eqb, ne_eqb, leb-true}
use lib.ListN.{length-map}
use Rattle.records.specs.Records.{records}
use Rattle.questions.proofs.Tests.{both, and_intro}
use Rattle.records.proofs.Words.RecordLaws.{fits_intro, length-records}
use Rattle.records.proofs.Order.PlaceLaws.{find_cases}
use Rattle.records.proofs.Order.OrderLaws.{key_at, before-word}
use Rattle.records.proofs.Tables.TableLaws.{wide-records}
use Rattle.peers.specs.declared.peer_report.Verdict.{Verdict}
use Rattle.peers.specs.declared.peer_report.Verdict.TheVariants as verdict
use Rattle.questions.specs.Lists.{all, any, first, those}
use Rattle.records.specs.Fields.{time_words}
use Rattle.peers.specs.Peers.Records.{Snapshot, PeerRecord, snapshot_of, snapshot_words, past_words, peer_words, peer_of}
use Rattle.records.specs.Typed.{is_word, word, Replaceable, Front, first_word}
use Rattle.peers.specs.Peers.State.{is_known, peer_with, valid_snapshot, valid_past, valid_peer}
use Rattle.peers.specs.Peers.Changes as changes
use Rattle.peers.specs.Peers.Steps.Runs.{peers_in, Known, or_new, next_past, verdict_with, past_after}
use Rattle.questions.proofs.ListLaws.{any-map}
use Rattle.records.proofs.Order.RangeLaws.{those-at, those-gap, first-shape}
use Rattle.questions.proofs.OnlyLaws.{those-words, length-replaced}
use Rattle.std.specs.declared.option.Option.{Option}
use Rattle.std.specs.declared.option.Option.TheVariants.{None, Some}

-- ---- a peer among the known ones

-- a peer is known where a record has its id
pub known_is : (n id : ℕ) (xs : List ℕ) → any (λ (r : List ℕ). eqb (word 0 r) id) (records 12 n xs) ≡ is_known (peers_in n xs) id
unfolding is_known peer_of
known_is n id xs = sym (any-map peer_of (λ (p : PeerRecord). eqb p.id id) (records 12 n xs))

module _ (n id : ℕ) (xs : List ℕ) (k : Known n xs) where
  those-peers : those (word 0) id (records 12 n xs) ≡ map peer_words (those (λ (p : PeerRecord). p.id) id (peers_in n xs))
  unfolding peer_words
  those-peers = ap (those (word 0) id) k.exact ∙ sym (those-words (λ (p : PeerRecord). p.id) peer_words (word 0) (λ x. refl) id (peers_in n xs))

  pub one-peer : length (those (word 0) id (records 12 n xs)) ≤ 1
  one-peer = find_cases 1 (id ∷ []) (records 12 n xs)
      (λ i e. few (those (word 0) id (records 12 n xs)) _ (those-at 1 first_word (λ (x : ℕ). x ∷ []) (records 12 n xs) k.ascends shape before-word id i e))
      (λ i e. none_of (those (word 0) id (records 12 n xs)) (those-gap 1 first_word (λ (x : ℕ). x ∷ []) (records 12 n xs) k.ascends shape before-word id i e))
    where
      shape : (i : ℕ) → i < length (records 12 n xs) → key_at 1 (records 12 n xs) i ≡ first_word (get_or (records 12 n xs) i []) ∷ []
      shape = first-shape 12 (records 12 n xs) (omega arith) (wide-records 12 n xs k.fit)

      few : (l : List (List ℕ)) (r : List ℕ) → l ≡ r ∷ [] → length l ≤ 1
      few l r e = subst (λ (m : List (List ℕ)). length m ≤ 1) (sym e) (omega arith)

      none_of : (l : List (List ℕ)) → l ≡ [] → length l ≤ 1
      none_of l e = subst (λ (m : List (List ℕ)). length m ≤ 1) (sym e) (omega arith)

  pub read_fits : Replaceable 12 n id [] xs
  unfolding records
  read_fits = record {
    fit = fits_intro (length xs) 12 n (omega arith) k.fit;
    depth = 1;
    some_words = omega arith;
    ascends = k.ascends;
    whole = refl;
    room = omega (arith, k.fit, length-replaced (word 0) id [] (records 12 n xs), length-records 12 n xs, empty-length);
  }
    where
      empty-length : length {A = List ℕ} [] ≡ 0
      empty-length = refl

  peers-length : length (those (word 0) id (records 12 n xs)) ≡ length (those (λ (p : PeerRecord). p.id) id (peers_in n xs))
  peers-length = ap length those-peers ∙ length-map (those (λ (p : PeerRecord). p.id) id (peers_in n xs)) peer_words

  -- read into twelve words
  module _ (m : ℕ) (ws : List ℕ) (f : Front 12 m (those (word 0) id (records 12 n xs)) ws) where
    pub read_none : m ≡ 0 → id ∷ 0 ∷ 0 ∷ 0 ∷ 0 ∷ 0 ∷ 0 ∷ 0 ∷ 0 ∷ 0 ∷ 0 ∷ 0 ∷ [] ≡ peer_words (or_new id (peer_with id (peers_in n xs)))
    unfolding peer_words
    read_none e = nobody (those (λ (p : PeerRecord). p.id) id (peers_in n xs)) (omega (arith, f.count, peers-length))
      where
        nobody : (ps : List PeerRecord) → length ps ≡ 0 → id ∷ 0 ∷ 0 ∷ 0 ∷ 0 ∷ 0 ∷ 0 ∷ 0 ∷ 0 ∷ 0 ∷ 0 ∷ 0 ∷ [] ≡ peer_words (or_new id (first ps))
        nobody [] z = refl
        nobody (p ∷ ps) z = absurd (absurd-suc (length ps) z)
          where
            absurd-suc : (n : ℕ) → suc n ≡ 0 → ⊥
            absurd-suc n z = omega arith

    pub read_one : length ws ≡ 12 → (m ≡ 0 → ⊥) → ws ≡ peer_words (or_new id (peer_with id (peers_in n xs)))
    unfolding records
    read_one l h = somebody m (those (λ (p : PeerRecord). p.id) id (peers_in n xs)) (f.front ∙ those-peers) h
      where
        somebody : (m : ℕ) (ps : List PeerRecord) → records 12 m ws ≡ map peer_words ps → (m ≡ 0 → ⊥) → ws ≡ peer_words (or_new id (first ps))
        somebody zero ps e g = absurd (g refl)
        somebody (suc m) [] e g = let z : ◌≡◌ {A = ℕ} 0 1 = cc in absurd (omega arith)
        somebody (suc m) (p ∷ ps) e g = sym (take_all 12 ws (omega arith)) ∙ cc

-- a valid peer's words, or those of one that is not known, stand for it
pub no-peer-valid : (id : ℕ) → id < 2 ^ 64 → valid_peer (or_new id None) ≡ true
unfolding valid_peer peer_words all
no-peer-valid id h = and_intro (is_word id && true) _ (and_intro (is_word id) true (lt-ltb id (2 ^ 64) h) refl) refl

-- ---- the words of a peer

pub past-count : (p : PeerRecord) → word 7 (peer_words p) ≡ length p.past_epochs
unfolding peer_words
past-count p = by p.snapshot
  where
    by : (s : Option Snapshot) → word 7 (p.id ∷ (time_words p.held_until ++ (snapshot_words s ++ past_words p.past_epochs))) ≡ length p.past_epochs
    by None = refl
    by (Some s) = refl

pub past_words_lem : (p : PeerRecord) → drop 7 (peer_words p) ≡ past_words p.past_epochs
unfolding peer_words
past_words_lem p = by p.snapshot
  where
    by : (s : Option Snapshot) → drop 7 (p.id ∷ (time_words p.held_until ++ (snapshot_words s ++ past_words p.past_epochs))) ≡ past_words p.past_epochs
    by None = refl
    by (Some s) = refl

-- the snapshot of a peer that has one
abbrev pub old_snapshot : List ℕ → Snapshot
old_snapshot old = record { epoch = word 4 old; round = word 5 old; heard_at = word 6 old }

pub record PeerFacts (old : List ℕ) : Type 0 where
  pub valid : valid_peer (peer_of old) ≡ true
  pub exact : old ≡ peer_words (peer_of old)

module _ (old : List ℕ) (f : PeerFacts old) where
  parts : (valid_snapshot (peer_of old).snapshot ≡ true) × (valid_past (peer_of old).past_epochs ≡ true)
  unfolding valid_peer
  parts =
      let a = both (all is_word (peer_words (peer_of old))) _ f.valid in
      let b = both (valid_snapshot (peer_of old).snapshot) _ a.1 in
      (b.0, (both (valid_past (peer_of old).past_epochs) _ b.1).0)

  pub few_past : length (peer_of old).past_epochs ≤ 4
  few_past = leb-true (length (peer_of old).past_epochs) 4 (both (leb (length (peer_of old).past_epochs) 4) _ parts.1).0

  pub past_is : word 7 old ≡ length (peer_of old).past_epochs
  past_is = ap (word 7) f.exact ∙ past-count (peer_of old)

  pub few_words : word 7 old ≤ 4
  few_words = omega (arith, past_is, few_past)

  pub snapshot-none : word 3 old ≡ 0 → (peer_of old).snapshot ≡ None
  unfolding peer_of
  snapshot-none e = ap (λ (flag : ℕ). snapshot_of flag (word 4 old) (word 5 old) (word 6 old)) e

  pub snapshot-some : (word 3 old ≡ 0 → ⊥) → (peer_of old).snapshot ≡ Some (record { epoch = word 4 old; round = word 5 old; heard_at = word 6 old })
  unfolding peer_of
  snapshot-some h = flagged (word 3 old) h
    where
      flagged : (flag : ℕ) → (flag ≡ 0 → ⊥) → snapshot_of flag (word 4 old) (word 5 old) (word 6 old) ≡ Some (record { epoch = word 4 old; round = word 5 old; heard_at = word 6 old })
      flagged zero h = absurd (h refl)
      flagged (suc flag) h = refl

  pub round-small : (word 3 old ≡ 0 → ⊥) → word 5 old < 2 ^ 16
  round-small h =
      let v : valid_snapshot (Some (record { epoch = word 4 old; round = word 5 old; heard_at = word 6 old })) ≡ true = ap valid_snapshot (sym (snapshot-some h)) ∙ parts.0 in
      ltb-true (word 5 old) (2 ^ 16) (both (ltb (word 4 old) (2 ^ 32)) (ltb (word 5 old) (2 ^ 16)) v).1

  pub past-part : (e : ℕ) → e ≡ 8 + word 7 old → take (e - 8) (drop 8 old) ≡ (peer_of old).past_epochs
  unfolding peer_of
  past-part e q =
      let z : e - 8 ≡ word 7 old = omega (arith, q) in
      ap (λ (m : ℕ). take m (drop 8 old)) z

-- ---- the verdict
not_taken_lem : (past : List ℕ) (b : Bool) (v : Verdict) → v ≡ cond b verdict.Duplicates verdict.Contests → verdict_with past v ≡ cond b changes.duplicates changes.contests
not_taken_lem past true v e = ap (verdict_with past) e
not_taken_lem past false v e = ap (verdict_with past) e

module _ (jump epoch round : ℕ) (past : List ℕ) (alike : Bool) where
  pub judge-none : (s : Option Snapshot) → s ≡ None → verdict_with (next_past epoch s past) (verdict.Takes false) ≡ changes.verdict_on jump epoch round s past alike
  judge-none None e = refl
  judge-none (Some s) e = let z : ◌≡◌ {A = ℕ} 0 1 = cc in absurd (omega arith)

  module _ (o : Snapshot) where
    news : changes.is_news epoch round o past ≡ true → (v : changes.Verdict) → v ≡ changes.taken jump epoch round o past → v ≡ changes.verdict_on jump epoch round (Some o) past alike
    news e v q = q ∙ sym (ap (λ (b : Bool). cond b (changes.taken jump epoch round o past) (changes.not_taken epoch round o alike)) e)

    no-news : changes.is_news epoch round o past ≡ false → (v : Verdict) → v ≡ cond (eqb o.epoch epoch && (eqb o.round round && alike)) verdict.Duplicates verdict.Contests → (ps : List ℕ) → verdict_with ps v ≡ changes.verdict_on jump epoch round (Some o) past alike
    no-news e v q ps =
        not_taken_lem ps (eqb o.epoch epoch && (eqb o.round round && alike)) v q
        ∙ sym (ap (λ (b : Bool). cond b (changes.taken jump epoch round o past) (changes.not_taken epoch round o alike)) e)

    pub judge-past : any (λ (e : ℕ). eqb e epoch) past ≡ true → (v : Verdict) → v ≡ cond (eqb o.epoch epoch && (eqb o.round round && alike)) verdict.Duplicates verdict.Contests → verdict_with (next_past epoch (Some o) past) v ≡ changes.verdict_on jump epoch round (Some o) past alike
    judge-past e v q = no-news (ap (λ (b : Bool). not b && (not (eqb o.epoch epoch) || changes.newer round o.round)) e) v q (next_past epoch (Some o) past)

    pub judge-epoch : any (λ (e : ℕ). eqb e epoch) past ≡ false → (o.epoch ≡ epoch → ⊥) → verdict_with (next_past epoch (Some o) past) (verdict.Takes true) ≡ changes.verdict_on jump epoch round (Some o) past alike
    judge-epoch e h =
        let d : eqb o.epoch epoch ≡ false = ne_eqb o.epoch epoch h in
        news (λ i. not (e i) && (not (d i) || changes.newer round o.round)) _
        ((λ i. verdict_with (cond (d i) past (o.epoch ∷ take 3 past)) (verdict.Takes true)) ∙ sym (ap (λ (b : Bool). cond b (changes.takes past (changes.implausible jump round o.round)) (changes.takes (o.epoch ∷ take 3 past) true)) d))

    pub judge-newer : any (λ (e : ℕ). eqb e epoch) past ≡ false → o.epoch ≡ epoch → changes.newer round o.round ≡ true → (b : Bool) → b ≡ changes.implausible jump round o.round → verdict_with (next_past epoch (Some o) past) (verdict.Takes b) ≡ changes.verdict_on jump epoch round (Some o) past alike
    judge-newer e h w b q =
        let d : eqb o.epoch epoch ≡ true = eq-eqb o.epoch epoch h in
        news (λ i. not (e i) && (not (d i) || w i)) _
        ((λ i. changes.takes (cond (d i) past (o.epoch ∷ take 3 past)) (q i)) ∙ sym (ap (λ (t : Bool). cond t (changes.takes past (changes.implausible jump round o.round)) (changes.takes (o.epoch ∷ take 3 past) true)) d))

    pub judge-old : any (λ (e : ℕ). eqb e epoch) past ≡ false → o.epoch ≡ epoch → changes.newer round o.round ≡ false → (v : Verdict) → v ≡ cond (eqb o.epoch epoch && (eqb o.round round && alike)) verdict.Duplicates verdict.Contests → verdict_with (next_past epoch (Some o) past) v ≡ changes.verdict_on jump epoch round (Some o) past alike
    judge-old e h w v q =
        let d : eqb o.epoch epoch ≡ true = eq-eqb o.epoch epoch h in
        no-news (λ i. not (e i) && (not (d i) || w i)) v q (next_past epoch (Some o) past)

-- with the snapshot named
pub judge-as : (jump epoch round : ℕ) (s t : Option Snapshot) (past : List ℕ) (alike : Bool) (v : Verdict) → s ≡ t → verdict_with (next_past epoch t past) v ≡ changes.verdict_on jump epoch round t past alike → verdict_with (next_past epoch s past) v ≡ changes.verdict_on jump epoch round s past alike
judge-as jump epoch round s t past alike v e q = subst (λ (x : Option Snapshot). verdict_with (next_past epoch x past) v ≡ changes.verdict_on jump epoch round x past alike) (sym e) q

-- ---- the words of a peer once a report is taken
at-seven : (l : List ℕ) (k : ℕ) → word (7 + k) l ≡ word k (drop 7 l)
at-seven l k = sym (get_or-drop 7 l k 0)

seven-more : (l : List ℕ) → word 7 l ∷ word 8 l ∷ word 9 l ∷ word 10 l ∷ word 11 l ∷ [] ≡ word 0 (drop 7 l) ∷ word 1 (drop 7 l) ∷ word 2 (drop 7 l) ∷ word 3 (drop 7 l) ∷ word 4 (drop 7 l) ∷ []
seven-more l = (λ i. at-seven l 0 i ∷ at-seven l 1 i ∷ at-seven l 2 i ∷ at-seven l 3 i ∷ at-seven l 4 i ∷ [])

seven-shift : (e : ℕ) (l : List ℕ) → min (word 7 l + 1) 4 ∷ e ∷ word 8 l ∷ word 9 l ∷ word 10 l ∷ [] ≡ min (word 0 (drop 7 l) + 1) 4 ∷ e ∷ word 1 (drop 7 l) ∷ word 2 (drop 7 l) ∷ word 3 (drop 7 l) ∷ []
seven-shift e l = (λ i. min (at-seven l 0 i + 1) 4 ∷ e ∷ at-seven l 1 i ∷ at-seven l 2 i ∷ at-seven l 3 i ∷ [])

too_many : {P : Type 0} (a b c d e : ℕ) (es : List ℕ) → length (a ∷ b ∷ c ∷ d ∷ e ∷ es) ≤ 4 → P
too_many a b c d e es h = absurd (not-suc-le-zero (le_of_suc-le-suc (le_of_suc-le-suc (le_of_suc-le-suc (le_of_suc-le-suc h)))))

five-words : (past : List ℕ) → word 0 (past_words past) ∷ word 1 (past_words past) ∷ word 2 (past_words past) ∷ word 3 (past_words past) ∷ word 4 (past_words past) ∷ [] ≡ past_words past
five-words [] = refl
five-words (a ∷ []) = refl
five-words (a ∷ b ∷ []) = refl
five-words (a ∷ b ∷ c ∷ []) = refl
five-words (a ∷ b ∷ c ∷ d ∷ es) = refl

one-more-past : (x : ℕ) (past : List ℕ) → length past ≤ 4 → min (word 0 (past_words past) + 1) 4 ∷ x ∷ word 1 (past_words past) ∷ word 2 (past_words past) ∷ word 3 (past_words past) ∷ [] ≡ past_words (x ∷ take 3 past)
one-more-past x [] h = refl
one-more-past x (a ∷ []) h = refl
one-more-past x (a ∷ b ∷ []) h = refl
one-more-past x (a ∷ b ∷ c ∷ []) h = refl
one-more-past x (a ∷ b ∷ c ∷ d ∷ []) h = refl
one-more-past x (a ∷ b ∷ c ∷ d ∷ e ∷ es) h = too_many a b c d e es h

module _ (epoch : ℕ) (old : List ℕ) (f : PeerFacts old) where
  after-some : (word 3 old ≡ 0 → ⊥) → past_after epoch old ≡ cond (eqb (word 4 old) epoch) (peer_of old).past_epochs (word 4 old ∷ take 3 (peer_of old).past_epochs)
  after-some h = ap (λ (s : Option Snapshot). next_past epoch s (peer_of old).past_epochs) (snapshot-some old f h)

  five : drop 7 old ≡ past_words (peer_of old).past_epochs
  five = ap (drop 7) f.exact ∙ past_words_lem (peer_of old)

  pub past_first : word 3 old ≡ 0 → 0 ∷ 0 ∷ 0 ∷ 0 ∷ 0 ∷ [] ≡ past_words (past_after epoch old)
  past_first e = sym (ap (λ (s : Option Snapshot). past_words (next_past epoch s (peer_of old).past_epochs)) (snapshot-none old f e))

  pub past-again : (word 3 old ≡ 0 → ⊥) → word 4 old ≡ epoch → word 7 old ∷ word 8 old ∷ word 9 old ∷ word 10 old ∷ word 11 old ∷ [] ≡ past_words (past_after epoch old)
  past-again h e =
      let q : past_after epoch old ≡ (peer_of old).past_epochs = after-some h ∙ ap (λ (b : Bool). cond b (peer_of old).past_epochs (word 4 old ∷ take 3 (peer_of old).past_epochs)) (eq-eqb (word 4 old) epoch e) in
      seven-more old
      ∙ ap (λ (z : List ℕ). word 0 z ∷ word 1 z ∷ word 2 z ∷ word 3 z ∷ word 4 z ∷ []) five
      ∙ five-words (peer_of old).past_epochs
      ∙ sym (ap past_words q)

  pub past-anew : (word 3 old ≡ 0 → ⊥) → (word 4 old ≡ epoch → ⊥) → (count : ℕ) → count ≡ min (word 7 old + 1) 4 → count ∷ word 4 old ∷ word 8 old ∷ word 9 old ∷ word 10 old ∷ [] ≡ past_words (past_after epoch old)
  past-anew h e count ec =
      let q : past_after epoch old ≡ word 4 old ∷ take 3 (peer_of old).past_epochs = after-some h ∙ ap (λ (b : Bool). cond b (peer_of old).past_epochs (word 4 old ∷ take 3 (peer_of old).past_epochs)) (ne_eqb (word 4 old) epoch e) in
      ap (λ (z : ℕ). z ∷ word 4 old ∷ word 8 old ∷ word 9 old ∷ word 10 old ∷ []) ec
      ∙ seven-shift (word 4 old) old
      ∙ ap (λ (z : List ℕ). min (word 0 z + 1) 4 ∷ word 4 old ∷ word 1 z ∷ word 2 z ∷ word 3 z ∷ []) five
      ∙ one-more-past (word 4 old) (peer_of old).past_epochs (few_past old f)
      ∙ sym (ap past_words q)

-- the words of the peer with these past epochs
pub taken-with : (id epoch round at : ℕ) (past ws : List ℕ) → ws ≡ past_words past → id ∷ 0 ∷ 0 ∷ 1 ∷ epoch ∷ round ∷ at ∷ word 0 ws ∷ word 1 ws ∷ word 2 ws ∷ word 3 ws ∷ word 4 ws ∷ [] ≡ peer_words (changes.taken_peer id epoch round at past)
unfolding peer_words
taken-with id epoch round at past ws e =
    ap (λ (z : List ℕ). id ∷ 0 ∷ 0 ∷ 1 ∷ epoch ∷ round ∷ at ∷ word 0 z ∷ word 1 z ∷ word 2 z ∷ word 3 z ∷ word 4 z ∷ []) e
    ∙ ap (λ (z : List ℕ). id ∷ 0 ∷ 0 ∷ 1 ∷ epoch ∷ round ∷ at ∷ z) (five-words past)
