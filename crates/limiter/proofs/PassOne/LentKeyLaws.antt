-- Laws: a table with the words of valid keys, in the order of their numbers, holds them.
use mathlib.Core.Path.{◌≡◌, sym, ap, ◌∙◌}
use mathlib.Core.Bool.{true}
use mathlib.Core.List.{List, map}
use Prim.Native.Nat.{ℕ, ◌*◌, ◌≤◌}
use lib.ListN.{length}
use Rattle.records.specs.Records.{records, ascending}
use Rattle.gcra.specs.Packed.{Accepted}
use Rattle.gcra.specs.declared.Units.{Units}
use Rattle.questions.specs.Lists.{all}
use Rattle.limiter.specs.State.{KeyRecord, key_words, key_of, valid_key}
use Rattle.limiter.specs.Steps.TickSteps.{key_records, LentKeys}
use Rattle.limiter.proofs.States.KeyListLaws.{rising, rising-says, rising-ascends}
use Rattle.limiter.proofs.States.StateValidLaws.{key_of_key}
use Rattle.records.proofs.Tables.TypedLaws.{all_back}
use Rattle.limiter.proofs.States.WrittenLaws.{key_back}
use Rattle.limiter.proofs.Walking.CapLaws.{first-word}

-- the lent keys rise
pub lent-rise : (u : Units) (n : ℕ) (xs : List ℕ) → LentKeys u n xs → rising key_of_key (key_records u n xs) ≡ true
lent-rise u n xs k = rising-says key_of_key (key_words u) (first-word u) (key_records u n xs) (ap (ascending 1) (sym k.exact) ∙ k.ascends)

module _ (u : Units) (a : Accepted u) (n : ℕ) (vs : List KeyRecord) (ys : List ℕ)
    (e : records 22 n ys ≡ map (key_words u) vs) (v : all (valid_key u) vs ≡ true)
  where
    pub lent-are : key_records u n ys ≡ vs
    lent-are = ap (map (key_of u)) e ∙ all_back (key_words u) (key_of u) (valid_key u) (key_back u a) vs v

    pub lent_of : n * 22 ≤ length ys → rising key_of_key vs ≡ true → LentKeys u n ys
    lent_of fit r = record {
      fit = fit;
      exact = e ∙ ap (map (key_words u)) (sym lent-are);
      valids = ap (all (valid_key u)) lent-are ∙ v;
      ascends = ap (ascending 1) e ∙ rising-ascends key_of_key (key_words u) (first-word u) vs r;
    }
