-- `Config::ask` meets its contract.
use Rattle.questions.proofs.Tests.{told-no, told-yes}
use Rattle.questions.proofs.Answers.{first-no, first-yes, first-none}
use Rattle.limiter.proofs.Config.ask.Goals as goal

pub returns-then-not-has_room : goal.returns-then-not-has_room
returns-then-not-has_room c = first-no 1 _ (told-no c.has_room.ensures c.if-not-has_room.true)

pub returns-then-not-is_rate : goal.returns-then-not-is_rate
returns-then-not-is_rate c =
    first-yes 1 _ (told-yes c.has_room.ensures c.if-not-has_room.false) (first-no 3 _ (told-no c.is_rate.ensures c.if-not-is_rate.true))

pub returns-then-not-burst_fits : goal.returns-then-not-burst_fits
returns-then-not-burst_fits c =
    first-yes 1 _ (told-yes c.has_room.ensures c.if-not-has_room.false)
    (first-yes 3 _ (told-yes c.is_rate.ensures c.if-not-is_rate.false) (first-no 4 _ (told-no c.burst_fits.ensures c.if-not-burst_fits.true)))

pub returns-then-not-has_factors : goal.returns-then-not-has_factors
returns-then-not-has_factors c =
    first-yes 1 _ (told-yes c.has_room.ensures c.if-not-has_room.false)
    (first-yes 3 _ (told-yes c.is_rate.ensures c.if-not-is_rate.false)
    (first-yes 4 _ (told-yes c.burst_fits.ensures c.if-not-burst_fits.false) (first-no 5 _ (told-no c.has_factors.ensures c.if-not-has_factors.true))))

pub returns-then-not-has_sizes : goal.returns-then-not-has_sizes
returns-then-not-has_sizes c =
    first-yes 1 _ (told-yes c.has_room.ensures c.if-not-has_room.false)
    (first-yes 3 _ (told-yes c.is_rate.ensures c.if-not-is_rate.false)
    (first-yes 4 _ (told-yes c.burst_fits.ensures c.if-not-burst_fits.false)
    (first-yes 5 _ (told-yes c.has_factors.ensures c.if-not-has_factors.false) (first-no 6 _ (told-no c.has_sizes.ensures c.if-not-has_sizes.true)))))

pub returns : goal.returns
returns c =
    first-yes 1 _ (told-yes c.has_room.ensures c.if-not-has_room.false)
    (first-yes 3 _ (told-yes c.is_rate.ensures c.if-not-is_rate.false)
    (first-yes 4 _ (told-yes c.burst_fits.ensures c.if-not-burst_fits.false)
    (first-yes 5 _ (told-yes c.has_factors.ensures c.if-not-has_factors.false)
    (first-yes 6 _ (told-yes c.has_sizes.ensures c.if-not-has_sizes.false) first-none))))
