-- A report that is read from 64-bit words is of its types, so what a C caller lends always is.
use Prim.Native.Nat.{ℕ, zero, suc, ◌-◌, ◌%◌, ◌^◌, min}
use mathlib.Core.Path.{◌≡◌, refl, ◌∙◌}
use mathlib.Core.Bool.{true, ◌&&◌}
use mathlib.Core.List.{List, [], ◌∷◌}
use lib.Dec.{ltb}
use lib.Ieee.{binary32, of_bits, fits}
use lib.Ieee.Bits.{is_true, of_bits-fits}
use lib.ListN.{get_or, take, drop, replicate}
use Rattle.questions.specs.Lists.{all}
use Rattle.questions.proofs.Tests.{both, and_intro}
use Rattle.questions.proofs.ListLaws.{all_map, all_take, all_drop}
use Rattle.questions.proofs.OnlyLaws.{all_append}
use Rattle.records.specs.Records.{records}
use Rattle.records.specs.Typed.{is_word}
use Rattle.peers.specs.declared.peer_demand.DemandReport.{DemandReport}
use Rattle.peers.specs.Peers.Calls.{fits_widths}
use Rattle.run.specs.Run.{Change}
use Rattle.run.specs.Typed.{typed}
use Rattle.nultiway.specs.PeerCalls.{listed_of, blank_key, keys_of}
use Rattle.library_run.specs.Trace.{listed_in}

-- the first word of each three is a word
first-word : (xs : List ℕ) → all is_word xs ≡ true → is_word (get_or xs 0 0) ≡ true
unfolding all
first-word [] a = refl
first-word (x ∷ xs) a = (both (is_word x) _ a).0

listed-fits : (n : ℕ) (ws : List ℕ) → all is_word ws ≡ true → all (λ (w : List ℕ). fits_widths (listed_of w)) (records 3 n ws) ≡ true
unfolding all records listed_of
listed-fits zero ws a = refl
listed-fits (suc n) ws a =
    let w = take 3 ws in
    let x = of_bits binary32 (get_or w 1 0 % 2 ^ 32) in
    and_intro (is_word (get_or w 0 0) && fits binary32 x) _
    (and_intro (is_word (get_or w 0 0)) (fits binary32 x) (first-word w (all_take is_word 3 ws a)) (is_true (fits binary32 x) (of_bits-fits binary32 (get_or w 1 0 % 2 ^ 32))))
    (listed-fits n (drop 3 ws) (all_drop is_word 3 ws a))

blank-fits : (n : ℕ) → all fits_widths (replicate n blank_key) ≡ true
unfolding all
blank-fits zero = refl
blank-fits (suc n) = and_intro (fits_widths blank_key) _ (is_true (fits binary32 (of_bits binary32 0)) (of_bits-fits binary32 0)) (blank-fits n)

keys_fit : (n : ℕ) (ws : List ℕ) → all is_word ws ≡ true → all fits_widths (keys_of n ws) ≡ true
unfolding keys_of
keys_fit n ws a = all_append fits_widths _ _ (all_map listed_of fits_widths (records 3 n ws) ∙ listed-fits n ws a) (blank-fits (64 - n))

pub report-typed :
    (sender now : ℕ) (x : DemandReport) (ws : List ℕ) → is_word sender ≡ true → is_word now ≡ true → ltb x.epoch (2 ^ 32) ≡ true
    → ltb x.round (2 ^ 16) ≡ true → all is_word ws ≡ true → typed (Change.report sender (listed_in ws x) now) ≡ true
unfolding typed
report-typed sender now x ws s n e r a =
    and_intro (is_word sender) _ s
    (and_intro (is_word now) _ n
    (and_intro (ltb x.epoch (2 ^ 32)) _ e (and_intro (ltb x.round (2 ^ 16)) _ r (keys_fit (min x.count 64) ws a))))
