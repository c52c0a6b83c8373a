-- `gcra::Gcra::set_quota` meets its contract.
use Prim.Native.Nat.{ℕ}
use mathlib.Core.Path.{◌≡◌, ◌∙◌}
use mathlib.Core.Bool.{true, false, ◌&&◌, and-false}
use Rattle.gcra.specs.declared.Quota.{Quota}
use Rattle.gcra.specs.declared.Gcra.{Gcra}
use Rattle.gcra.specs.Packed.{unit_nanos, valid_quota}
use Rattle.gcra.specs.Rate.{set_quota}
use Rattle.gcra.specs.Calls.{GcraSets}
use Rattle.questions.proofs.Tests.{told-no, told-yes, and_intro}
use Rattle.questions.proofs.Answers.{alone-no, alone-yes, alone-kept, alone-changed}
use Rattle.gcra.proofs.Gcra.set_quota.Goals as goal
use Rattle.gcra.proofs.Gcra.set_quota.Goals.{then-not-is_valid-via-then-not-is_valid, then-not-is_valid-via-else-not-is_valid+then-not-is_valid-2}
use Rattle.questions.specs.declared.Refusal.TheVariants.{Invalid}
use Rattle.std.specs.declared.result.Result.TheVariants.{Ok, Err}

module _ (g : Gcra) (q : Quota) (now : ℕ) where
  refuses : (valid_quota unit_nanos g.quota && valid_quota unit_nanos q) ≡ false → GcraSets g q now (record { answer = Err Invalid; gcra = g })
  refuses n = record { set = alone-no 2 tt n; left = alone-kept 2 g (set_quota g q now) n }

  refuses-new : valid_quota unit_nanos q ≡ false → GcraSets g q now (record { answer = Err Invalid; gcra = g })
  refuses-new n = refuses (rw n (and-false (valid_quota unit_nanos g.quota)))

  sets : {h : Gcra} → (valid_quota unit_nanos g.quota && valid_quota unit_nanos q) ≡ true → h ≡ set_quota g q now → GcraSets g q now (record { answer = (Ok tt); gcra = h })
  sets y e = record { set = alone-yes 2 tt y; left = e ∙ alone-changed 2 g (set_quota g q now) y }

pub returns-then-not-is_valid : goal.returns-then-not-is_valid
returns-then-not-is_valid c =
    elim c.then-not-is_valid.branch [
      | then-not-is_valid-via-then-not-is_valid w ↦ refuses _ _ _ (rw (told-no c.is_valid.ensures w.if-not-is_valid.true))
      | then-not-is_valid-via-else-not-is_valid+then-not-is_valid-2 w ↦ refuses-new _ _ _ (told-no w.is_valid-else-not-is_valid.ensures w.if-not-is_valid-2.true)
    ]

pub returns : goal.returns
returns c =
    let o = told-yes c.is_valid.ensures c.if-not-is_valid.false in
    let n = told-yes c.is_valid-else-not-is_valid.ensures c.if-not-is_valid-2.false in
    sets _ _ _ (and_intro _ _ o n) c.changed.ensures
