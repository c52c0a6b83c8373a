-- Laws: a report in lent words.
use Prim.Native.Nat.{ℕ, suc, ◌+◌, ◌-◌, ◌*◌, ◌%◌, ◌^◌, ◌≤◌, ◌<◌, min}
use mathlib.Core.Path.{◌≡◌, sym, ap, ◌∙◌}
use mathlib.Core.Bool.{Bool, true, false, not, ◌&&◌}
use mathlib.Core.List.{List, [], ◌∷◌, ◌++◌, map, append_assoc, map-append}
use native.Mathlib.Omega.{arith}
use borrow.Author.Tests.{leb-true}
use lib.Dec.{leb, eqb}
use lib.Ieee.{Float, binary32, of_bits}
use lib.ListN.{length, get_or, set, take, drop, replicate, length-map}
use lib.Seq.{set_at}
use Rattle.records.specs.Records.{records}
use Rattle.records.proofs.Words.RecordLaws.{length-records, records-split}
use Rattle.questions.specs.Questions.{passes, first_no}
use Rattle.questions.proofs.Tests.{both}
use Rattle.questions.proofs.Answers.{first-no, first-yes, first-none, passed_none}
use Rattle.peers.specs.declared.peer_demand.KeyDemand.{KeyDemand}
use Rattle.peers.specs.declared.peer_demand.DemandReport.{DemandReport}
use Rattle.peers.specs.declared.peer_demand.PeerDemand.{PeerDemand}
use Rattle.questions.specs.Lists.{all}
use Rattle.records.proofs.Words.FieldLaws.{flag_is}
use Rattle.nultiway.specs.PeerCalls.{is_listed, listed_of, blank_key, keys_of, report_of, report_asked, Sent}

-- ---- a key

pub listed-read :
    (w : List ℕ) {x : Float}
    → x ≡ of_bits binary32 (get_or w 1 0 % 2 ^ 32)
    → ◌≡◌ {A = KeyDemand} (record { key_hash = get_or w 0 0; demand = x; primary = not (eqb (get_or w 2 0) 0) }) (listed_of w)
unfolding listed_of
listed-read w e = λ i. record { key_hash = get_or w 0 0; demand = e i; primary = flag_is (get_or w 2 0) i }

pub blank-read : {x : Float} → x ≡ of_bits binary32 0 → ◌≡◌ {A = KeyDemand} (record { key_hash = 0; demand = x; primary = false }) blank_key
blank-read e = λ i. record { key_hash = 0; demand = e i; primary = false }

-- ---- the 64 places

pub keys-start : (ws : List ℕ) {b : KeyDemand} → b ≡ blank_key → replicate 64 b ≡ keys_of 0 ws
unfolding keys_of records
keys-start ws e = ap (λ (b : KeyDemand). replicate 64 b) e

-- one more is read
pub keys_step : (ws : List ℕ) (i : ℕ) → i < 64 → set (keys_of i ws) i (listed_of (take 3 (drop (i * 3) ws))) ≡ keys_of (i + 1) ws
unfolding keys_of records
keys_step ws i h =
    let rs : List KeyDemand = map listed_of (records 3 i ws) in
    let w : List ℕ = take 3 (drop (i * 3) ws) in
    let rest : List KeyDemand = replicate (64 - (i + 1)) blank_key in
    let n : 64 - i ≡ suc (64 - (i + 1)) = omega arith in
    ap (λ (k : ℕ). set (rs ++ replicate k blank_key) i (listed_of w)) n
    ∙ set_at rs blank_key rest (listed_of w) i (length-map (records 3 i ws) listed_of ∙ length-records 3 i ws)
    ∙ sym (append_assoc rs (listed_of w ∷ []) rest)
    ∙ ap (λ (xs : List KeyDemand). xs ++ rest) (sym (map-append listed_of (records 3 i ws) (w ∷ [])))
    ∙ ap (λ (xs : List (List ℕ)). map listed_of xs ++ rest) (sym (records-split 3 i 1 ws))

-- ---- the report

module _ (origin epoch round : ℕ) (ws : List ℕ) (count : ℕ) where
  pub report-read :
      {n : ℕ} {keys : List KeyDemand}
      → n ≡ min count 64
      → keys ≡ keys_of n ws
      → ◌≡◌ {A = DemandReport} (record { origin = origin; epoch = epoch; round = round; count = count; keys = keys })
      (report_of origin epoch round ws count)
  report-read e k =
      ap (λ (keys : List KeyDemand). record { origin = origin; epoch = epoch; round = round; count = count; keys = keys })
      (k ∙ ap (λ (n : ℕ). keys_of n ws) e)

-- ---- questions 1 and 2

module _ (room : Bool) (ws : List ℕ) (count : ℕ) where
  fits :
      {m : ℕ} {b : Bool}
      → m ≡ min count 65
      → (room && leb (m * 3) (length ws)) ≡ b
      → (room && leb (min count 65 * 3) (length ws)) ≡ b
  fits e k = ap (λ (m : ℕ). room && leb (m * 3) (length ws)) (sym e) ∙ k

  listed : {n : ℕ} {b : Bool} → n ≡ min count 64 → all is_listed (records 3 n ws) ≡ b → all is_listed (records 3 (min count 64) ws) ≡ b
  listed e k = ap (λ (n : ℕ). all is_listed (records 3 n ws)) (sym e) ∙ k

  pub report-short : {m : ℕ} → m ≡ min count 65 → (room && leb (m * 3) (length ws)) ≡ false → 1 ≡ first_no (report_asked room ws count)
  report-short e k = first-no 1 _ (fits e k)

  pub report-other :
      {m n : ℕ}
      → m ≡ min count 65
      → (room && leb (m * 3) (length ws)) ≡ true
      → n ≡ min count 64
      → all is_listed (records 3 n ws) ≡ false
      → 2 ≡ first_no (report_asked room ws count)
  report-other e k f l = first-yes 1 _ (fits e k) (first-no 2 [] (listed f l))

  pub report-fit :
      {m n : ℕ}
      → m ≡ min count 65
      → (room && leb (m * 3) (length ws)) ≡ true
      → n ≡ min count 64
      → all is_listed (records 3 n ws) ≡ true
      → 0 ≡ first_no (report_asked room ws count)
  report-fit e k f l = first-yes 1 _ (fits e k) (first-yes 2 [] (listed f l) first-none)

  -- what holds where both are passed
  pub record Taken : Type 0 where
    pub all_passed : passes (report_asked room ws count) ≡ true
    pub others : room ≡ true
    pub long : min count 65 * 3 ≤ length ws

  pub report-all : passes (report_asked room ws count) ≡ true → Taken
  unfolding passes
  report-all p =
      let a = both (room && leb (min count 65 * 3) (length ws)) _ p in
      let b = both room (leb (min count 65 * 3) (length ws)) a.0 in
      record { all_passed = p; others = b.0; long = leb-true (min count 65 * 3) (length ws) b.1 }

  -- the questions with a test that the code worked out
  pub report-with : {k : ℕ} {b : Bool} → k ≡ first_no (report_asked b ws count) → b ≡ room → k ≡ first_no (report_asked room ws count)
  report-with e h = e ∙ ap (λ (t : Bool). first_no (report_asked t ws count)) h

  pub report-passed : {n : ℕ} → n ≡ first_no (report_asked room ws count) → n ≡ 0 → Taken
  report-passed {n} e z = report-all (passed_none (report_asked room ws count) n (omega arith, omega arith) e z)

-- what was read, and the id that was made
pub sent :
    {p p₀ : PeerDemand} {n n₀ : ℕ} {s s₀ : DemandReport}
    → p ≡ p₀
    → n ≡ n₀
    → s ≡ s₀
    → ◌≡◌ {A = Sent} (record { peers = p; peer = n; report = s }) (record { peers = p₀; peer = n₀; report = s₀ })
sent e k h = λ i. record { peers = e i; peer = k i; report = h i }
