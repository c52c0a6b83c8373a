-- `allocation::share` meets its contract.
use Rattle.questions.proofs.Tests.{told-no, told-yes}
use Rattle.questions.proofs.Answers.{no, yes, value}
use Rattle.demand.proofs.allocation.share.Goals as goal

pub returns-then-not-is_rate : goal.returns-then-not-is_rate
returns-then-not-is_rate c = no 3 _ _ (told-no c.is_rate.ensures c.if-not-is_rate.true)

pub returns-then-not-is_floor_factor : goal.returns-then-not-is_floor_factor
returns-then-not-is_floor_factor c = yes 3 _ _ (told-yes c.is_rate.ensures c.if-not-is_rate.false) (no 5 _ _ (told-no c.is_floor_factor.ensures c.if-not-is_floor_factor.true))

pub returns-then-not-is_cluster_size : goal.returns-then-not-is_cluster_size
returns-then-not-is_cluster_size c =
    yes 3 _ _ (told-yes c.is_rate.ensures c.if-not-is_rate.false)
    (yes 5 _ _ (told-yes c.is_floor_factor.ensures c.if-not-is_floor_factor.false) (no 7 _ _ (told-no c.is_cluster_size.ensures c.if-not-is_cluster_size.true)))

pub returns : goal.returns
returns c =
    let b = c.before in
    yes 3 _ _ (told-yes b.is_rate.ensures b.if-not-is_rate.false)
    (yes 5 _ _ (told-yes b.is_floor_factor.ensures b.if-not-is_floor_factor.false)
    (yes 7 _ _ (told-yes b.is_cluster_size.ensures b.if-not-is_cluster_size.false) (value c.shared.ensures)))
