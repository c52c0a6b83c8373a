-- Question 2 of a peer's records, asked word by word, is question 2 of what they stand for.
use Rattle.std.proofs.Common.{◌≡◌, ℕ, zero, suc, ◌^◌, Bool, true, false, ◌&&◌, ◌||◌, eqb, ltb, leb, List, [], ◌∷◌, ◌++◌, length, take, sym, refl, ap, ◌∙◌, arith, lt-ltb, ne_eqb}
use mathlib.Core.Bool.{and-true, and-false, and_assoc, and_comm}
use borrow.Author.Tests.{lt-leb}
use lib.Dec.{eqb-suc-zero}
use Rattle.records.specs.Records.{same}
use Rattle.questions.proofs.Tests.{eqb-self, eqb-turn, and_left}
use Rattle.records.proofs.Order.OrderLaws.{same-append}
use Rattle.questions.specs.Lists.{all, present}
use Rattle.records.specs.Fields.{time_words, time_of}
use Rattle.records.proofs.Words.FieldLaws.{flag_word_lem, time-words}
use Rattle.peers.specs.Peers.Records.{snapshot_words, snapshot_of, past_words, peer_words, snapshot_key_words, contested_words, peer_of, snapshot_key_of, contested_of}
use Rattle.records.specs.Typed.{is_word, word}
use Rattle.peers.specs.Peers.State.{is_demand, valid_snapshot, valid_past, past_has_snapshot, valid_peer, valid_snapshot_key, valid_contested}
use Rattle.peers.specs.Peers.Steps.Scan.{is_snapshot, is_past_epoch, is_past, is_peer, are_peer_words, are_key_words}
use Rattle.records.proofs.Tables.TypedLaws.{exact-words}
use Rattle.records.proofs.Tables.ScanLaws.{PassIs, words-4, words-6, words-12}

ruleset ands = (and-true, and_assoc, and_comm, and_left)

-- ---- the parts of a peer
snapshot-words : (flag epoch round at : ℕ) → (same (snapshot_words (snapshot_of flag epoch round at)) (flag ∷ epoch ∷ round ∷ at ∷ []) && valid_snapshot (snapshot_of flag epoch round at)) ≡ is_snapshot flag epoch round at
unfolding same is_snapshot
snapshot-words zero epoch round at = rw (eqb-turn 0 epoch, eqb-turn 0 round, eqb-turn 0 at) (simp ands)
snapshot-words (suc flag) epoch round at = rw (eqb-self epoch, eqb-self round, eqb-self at, eqb-turn 1 (suc flag)) (simp ands)

counted-1 : (a b c d : Bool) → ((b && (c && (d && true))) && (a && true)) ≡ (a && (b && (c && d)))
counted-1 a b c d = simp ands

counted-2 : (a b c d : Bool) → ((c && (d && true)) && (a && (b && true))) ≡ (a && (b && (c && d)))
counted-2 a b c d = simp ands

counted-3 : (a b c d : Bool) → ((d && true) && (a && (b && (c && true)))) ≡ (a && (b && (c && d)))
counted-3 a b c d = simp ands

counted-4 : (a b c d : Bool) → (a && (b && (c && (d && true)))) ≡ (a && (b && (c && d)))
counted-4 a b c d = simp ands

past_words_lem : (count a b c d : ℕ) → (same (past_words (take count (a ∷ b ∷ c ∷ d ∷ []))) (count ∷ a ∷ b ∷ c ∷ d ∷ []) && valid_past (take count (a ∷ b ∷ c ∷ d ∷ []))) ≡ is_past count a b c d
unfolding same all is_past is_past_epoch
past_words_lem zero a b c d = rw (eqb-turn 0 a, eqb-turn 0 b, eqb-turn 0 c, eqb-turn 0 d) (simp ands)
past_words_lem (suc zero) a b c d = rw (eqb-self a, eqb-turn 0 b, eqb-turn 0 c, eqb-turn 0 d) (counted-1 (ltb a (2 ^ 32)) (eqb b 0) (eqb c 0) (eqb d 0))
past_words_lem (suc (suc zero)) a b c d = rw (eqb-self a, eqb-self b, eqb-turn 0 c, eqb-turn 0 d) (counted-2 (ltb a (2 ^ 32)) (ltb b (2 ^ 32)) (eqb c 0) (eqb d 0))
past_words_lem (suc (suc (suc zero))) a b c d = rw (eqb-self a, eqb-self b, eqb-self c, eqb-turn 0 d) (counted-3 (ltb a (2 ^ 32)) (ltb b (2 ^ 32)) (ltb c (2 ^ 32)) (eqb d 0))
past_words_lem (suc (suc (suc (suc zero)))) a b c d = rw (eqb-self a, eqb-self b, eqb-self c, eqb-self d) (counted-4 (ltb a (2 ^ 32)) (ltb b (2 ^ 32)) (ltb c (2 ^ 32)) (ltb d (2 ^ 32)))
past_words_lem (suc (suc (suc (suc (suc n))))) a b c d = rw (ne_eqb 4 (suc (suc (suc (suc (suc n))))) (λ e. omega (arith, e)), lt-leb (suc (suc (suc (suc (suc n))))) 4 (omega arith))

past-snapshot : (flag epoch round at count a b c d : ℕ) → (present (snapshot_of flag epoch round at) || eqb (length (take count (a ∷ b ∷ c ∷ d ∷ []))) 0) ≡ (ltb 0 flag || eqb count 0)
past-snapshot flag epoch round at count a b c d = (λ k. shown flag k || as_many count k)
  where
    shown : (flag : ℕ) → present (snapshot_of flag epoch round at) ≡ ltb 0 flag
    shown zero = refl
    shown (suc flag) = sym (lt-ltb 0 (suc flag) (omega arith))

    as_many : (count : ℕ) → eqb (length (take count (a ∷ b ∷ c ∷ d ∷ []))) 0 ≡ eqb count 0
    as_many zero = refl
    as_many (suc n) = eqb-suc-zero (length (take n (b ∷ c ∷ d ∷ []))) ∙ sym (eqb-suc-zero n)

-- ---- a record is exact and valid where its words pass
regroup : (a b c w v p s : Bool) → ((a && (b && c)) ≡ true → w ≡ true) → ((a && (b && c)) && (w && (v && (p && s)))) ≡ (a && ((b && v) && ((c && p) && s)))
regroup false b c w v p s h = refl
regroup true false c w v p s h = refl
regroup true true false w true p s h = refl
regroup true true false w false p s h = refl
regroup true true true w v p s h = ap (λ (z : Bool). z && (v && (p && s))) (h refl)

-- a record is exact and valid where its words pass its test
abbrev pub PeerIs : List ℕ → Type 0
PeerIs = PassIs peer_words peer_of valid_peer are_peer_words

abbrev pub KeyIs : List ℕ → Type 0
KeyIs = PassIs snapshot_key_words snapshot_key_of valid_snapshot_key (are_key_words 4)

abbrev pub ContestedIs : List ℕ → Type 0
ContestedIs = PassIs contested_words contested_of valid_contested (are_key_words 6)

same-peer : (a b c d e f g h i j k l : ℕ) → same (peer_words (peer_of (a ∷ b ∷ c ∷ d ∷ e ∷ f ∷ g ∷ h ∷ i ∷ j ∷ k ∷ l ∷ []))) (a ∷ b ∷ c ∷ d ∷ e ∷ f ∷ g ∷ h ∷ i ∷ j ∷ k ∷ l ∷ []) ≡ (same (time_words (time_of b c)) (b ∷ c ∷ []) && (same (snapshot_words (snapshot_of d e f g)) (d ∷ e ∷ f ∷ g ∷ []) && same (past_words (take h (i ∷ j ∷ k ∷ l ∷ []))) (h ∷ i ∷ j ∷ k ∷ l ∷ [])))
unfolding same peer_words peer_of
same-peer a b c d e f g h i j k l =
    let past : List ℕ = past_words (take h (i ∷ j ∷ k ∷ l ∷ [])) in
    let rest : List ℕ = snapshot_words (snapshot_of d e f g) ++ past in
    ap (λ (z : Bool). z && same (time_words (time_of b c) ++ rest) (b ∷ c ∷ d ∷ e ∷ f ∷ g ∷ h ∷ i ∷ j ∷ k ∷ l ∷ [])) (eqb-self a)
    ∙ same-append (time_words (time_of b c)) (b ∷ c ∷ []) rest (d ∷ e ∷ f ∷ g ∷ h ∷ i ∷ j ∷ k ∷ l ∷ []) refl
    ∙ ap (λ (z : Bool). same (time_words (time_of b c)) (b ∷ c ∷ []) && z) (same-append (snapshot_words (snapshot_of d e f g)) (d ∷ e ∷ f ∷ g ∷ []) past (h ∷ i ∷ j ∷ k ∷ l ∷ []) (four d))
  where
    four : (d : ℕ) → length (snapshot_words (snapshot_of d e f g)) ≡ 4
    four zero = refl
    four (suc d) = refl

-- a peer's record is exact and valid where its words pass
peer-words : (a b c d e f g h i j k l : ℕ) → PeerIs (a ∷ b ∷ c ∷ d ∷ e ∷ f ∷ g ∷ h ∷ i ∷ j ∷ k ∷ l ∷ [])
unfolding valid_peer peer_of is_peer
peer-words a b c d e f g h i j k l word =
    let r : List ℕ = a ∷ b ∷ c ∷ d ∷ e ∷ f ∷ g ∷ h ∷ i ∷ j ∷ k ∷ l ∷ [] in
    let es : List ℕ = take h (i ∷ j ∷ k ∷ l ∷ []) in
    let time : Bool = same (time_words (time_of b c)) (b ∷ c ∷ []) in
    let taken : Bool = same (snapshot_words (snapshot_of d e f g)) (d ∷ e ∷ f ∷ g ∷ []) in
    let past : Bool = same (past_words es) (h ∷ i ∷ j ∷ k ∷ l ∷ []) in
    let words : Bool = all is_word (peer_words (peer_of r)) in
    ap (λ (z : Bool). z && valid_peer (peer_of r)) (same-peer a b c d e f g h i j k l)
    ∙ regroup time taken past words (valid_snapshot (snapshot_of d e f g)) (valid_past es) (past_has_snapshot (peer_of r))
    (λ z. exact-words (peer_words (peer_of r)) r word (same-peer a b c d e f g h i j k l ∙ z))
    ∙ (λ n. time-words b c n && (snapshot-words d e f g n && (past_words_lem h i j k l n && past-snapshot d e f g h i j k l n)))

pub peer-words-pass : (r : List ℕ) → length r ≡ 12 → PeerIs r
peer-words-pass = words-12 PeerIs peer-words

key-group : (f w d : Bool) → (f ≡ true → w ≡ true) → (f && (w && d)) ≡ (d && (f && true))
key-group true w d h = ap (λ (z : Bool). z && d) (h refl) ∙ sym (and-true d)
key-group false w d h = sym (and-false d)

same_key : (a b c d : ℕ) → same (snapshot_key_words (snapshot_key_of (a ∷ b ∷ c ∷ d ∷ []))) (a ∷ b ∷ c ∷ d ∷ []) ≡ leb d 1
unfolding same snapshot_key_words snapshot_key_of
same_key a b c d = rw (eqb-self a, eqb-self b, eqb-self c, flag_word_lem d, and-true)

key-words : (a b c d : ℕ) → KeyIs (a ∷ b ∷ c ∷ d ∷ [])
unfolding valid_snapshot_key are_key_words snapshot_key_of
key-words a b c d word =
    let r : List ℕ = a ∷ b ∷ c ∷ d ∷ [] in
    ap (λ (z : Bool). z && valid_snapshot_key (snapshot_key_of r)) (same_key a b c d)
    ∙ key-group (leb d 1) (all is_word (snapshot_key_words (snapshot_key_of r))) (is_demand c) (λ z. exact-words (snapshot_key_words (snapshot_key_of r)) r word (same_key a b c d ∙ z))

pub key-words-pass : (r : List ℕ) → length r ≡ 4 → KeyIs r
key-words-pass = words-4 KeyIs key-words

contested-group : (f w d n : Bool) → (f ≡ true → w ≡ true) → (f && (w && (d && n))) ≡ (d && (f && n))
contested-group true w d n h = ap (λ (z : Bool). z && (d && n)) (h refl)
contested-group false w d n h = sym (and-false d)

same-contested : (a b c d e f : ℕ) → same (contested_words (contested_of (a ∷ b ∷ c ∷ d ∷ e ∷ f ∷ []))) (a ∷ b ∷ c ∷ d ∷ e ∷ f ∷ []) ≡ leb d 1
unfolding same contested_words contested_of
same-contested a b c d e f = rw (eqb-self a, eqb-self b, eqb-self c, flag_word_lem d, eqb-self e, eqb-self f, and-true)

contested-words : (a b c d e f : ℕ) → ContestedIs (a ∷ b ∷ c ∷ d ∷ e ∷ f ∷ [])
unfolding valid_contested are_key_words contested_of
contested-words a b c d e f word =
    let r : List ℕ = a ∷ b ∷ c ∷ d ∷ e ∷ f ∷ [] in
    ap (λ (z : Bool). z && valid_contested (contested_of r)) (same-contested a b c d e f)
    ∙ contested-group (leb d 1) (all is_word (contested_words (contested_of r))) (is_demand c) (ltb e (2 ^ 16)) (λ z. exact-words (contested_words (contested_of r)) r word (same-contested a b c d e f ∙ z))

pub contested-words-pass : (r : List ℕ) → length r ≡ 6 → ContestedIs r
contested-words-pass = words-6 ContestedIs contested-words
