-- Question by question.
use Rattle.std.proofs.Common.{refl}
use borrow.Author.Tests.{le-leb, lt-leb}
use Rattle.questions.proofs.Tests.{and_intro, and_first, and_second, told-no, told-yes}
use Rattle.questions.proofs.Answers.{first-no}
use Rattle.nultiway.proofs.Words.ReportLaws.{report-short, report-other, report-fit}
use Rattle.nultiway.proofs.report.ask_report.Goals as goal

pub returns-then-not-room : goal.returns-then-not-room
returns-then-not-room c = first-no 1 _ (and_first c.args.room _ (told-no refl c.if-not-room.true))

pub returns-then-words-least : goal.returns-then-words-least
returns-then-words-least c =
    let a = c.args in
    report-short a.room a.words.now a.count c.min.ensures (and_second a.room _ (lt-leb _ _ c.if-words-least.true))

pub returns-then-not-are_listed : goal.returns-then-not-are_listed
returns-then-not-are_listed c =
    let a = c.args in
    report-other a.room a.words.now a.count c.min.ensures
    (and_intro a.room _ (told-yes refl c.if-not-room.false) (le-leb _ _ c.if-words-least.false))
    c.min-2.ensures (told-no c.are_listed.ensures c.if-not-are_listed.true)

pub returns : goal.returns
returns c =
    let a = c.args in
    report-fit a.room a.words.now a.count c.min.ensures
    (and_intro a.room _ (told-yes refl c.if-not-room.false) (le-leb _ _ c.if-words-least.false))
    c.min-2.ensures (told-yes c.are_listed.ensures c.if-not-are_listed.false)
