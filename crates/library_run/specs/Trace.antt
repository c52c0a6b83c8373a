-- The calls of a run through the library, and its answers as the caller reads them, number and words: a list of `run`, of which the checks of each key
-- are counted. Definitions only.
use Rattle.std.specs.Prelude.{ℕ, Bool, true, cond, ◌&&◌, List, [], ◌∷◌, leb, eqb, length, get_or}
use Rattle.questions.specs.Questions.{Answer, refused, given, passes}
use Rattle.gcra.specs.declared.Decision.{Decision}
use Rattle.gcra.specs.declared.Decision.TheVariants.{Allow, Deny}
use Rattle.peers.specs.declared.peer_demand.DemandReport.{DemandReport}
use Rattle.run.specs.Run as run
use Rattle.run.specs.Run.{Change, What, Reply}
use Rattle.run.specs.Trace.{Sort, sort}
use Rattle.nultiway.specs.Values.{limiter_width, peers_width}
use Rattle.nultiway.specs.PeerCalls.{report_of, report_asked}
use Rattle.library_run.specs.Calls.{Lent, Call, Said, Output}
use Rattle.library_run.specs.Runs.{Move, Shown}

-- ---- the call

-- a report's keys are those that its words list
abbrev pub listed_in : List ℕ → DemandReport → DemandReport
listed_in ws x = report_of x.origin x.epoch x.round ws x.count

abbrev pub reported : List ℕ → Change → Change
reported ws (Change.check key now n) = Change.check key now n
reported ws (Change.check-in key x now n) = Change.check-in key x now n
reported ws (Change.check-traced key x y now n) = Change.check-traced key x y now n
reported ws (Change.check-each list count n out) = Change.check-each list count n out
reported ws (Change.tally key y x now n) = Change.tally key y x now n
reported ws (Change.set-cap x) = Change.set-cap x
reported ws (Change.tick now n) = Change.tick now n
reported ws (Change.tick-with-shares now n) = Change.tick-with-shares now n
reported ws (Change.report sender x now) = Change.report sender (listed_in ws x) now
reported ws (Change.forget peer) = Change.forget peer
reported ws (Change.leave peer now hold) = Change.leave peer now hold
reported ws (Change.expire now max_age) = Change.expire now max_age

abbrev pub what_of : List ℕ → What → What
what_of ws (What.changes x) = What.changes (reported ws x)
what_of ws (What.reads x) = What.reads x

-- whether a change is lent the words that it takes beside tables, list and output: those of its values, of its answer, and of the keys of a report,
-- which pass its questions
module _ (n : Lent) (answer report : List ℕ) where
  abbrev limiter_lent : Bool
  limiter_lent = leb limiter_width n.limiter

  abbrev peers_lent : Bool
  peers_lent = leb peers_width n.peers

  abbrev pub words_lent : Change → Bool
  words_lent (Change.check key now m) = limiter_lent && leb 2 (length answer)
  words_lent (Change.check-in key x now m) = limiter_lent && leb 2 (length answer)
  words_lent (Change.check-traced key x y now m) = limiter_lent && leb 5 (length answer)
  words_lent (Change.check-each list count m out) = limiter_lent
  words_lent (Change.tally key y x now m) = limiter_lent
  words_lent (Change.set-cap x) = limiter_lent
  words_lent (Change.tick now m) = limiter_lent
  words_lent (Change.tick-with-shares now m) = limiter_lent && peers_lent
  words_lent (Change.report sender x now) = peers_lent && passes (report_asked true report x.count)
  words_lent (Change.forget peer) = peers_lent
  words_lent (Change.leave peer now hold) = peers_lent
  words_lent (Change.expire now max_age) = peers_lent

abbrev pub no_tables : run.Lent
no_tables = record { limiter = record { keys = 0; hot = 0; shadows = 0 }; peers = record { peers = 0; snapshot_keys = 0; contested = 0 } }

-- Where it is not, the call is `run`'s with no table lent, which question 1 refuses: it leaves the state. So the calls that are refused are those that
-- the definitions refuse, whatever the program answered.
abbrev pub tables_lent : Call → What → run.Lent
tables_lent c (What.changes x) = cond (words_lent c.lent c.answer c.report x) c.lent.tables no_tables
tables_lent c (What.reads x) = c.lent.tables

abbrev pub call_in : Call → run.Call
call_in c = record { lent = tables_lent c c.what; what = what_of c.report c.what }

-- ---- the answer

-- the decision of a check whose number is 0 is the first two words of `answer`: 0 for allowed, or another word and the retry time
abbrev pub decision_in : List ℕ → Decision
decision_in ws = cond (eqb (get_or ws 0 0) 0) Allow (Deny (get_or ws 1 0))

abbrev pub change_in : ℕ → Answer Unit
change_in r = cond (eqb r 0) (given tt) (refused r)

-- the words of an output: a `nultiway_check_each` that answers 0 has written three for each check
abbrev pub words_in : Output → List ℕ
words_in Output.nothing = []
words_in (Output.words ws) = ws
words_in (Output.floats xs) = []
words_in (Output.flags bs) = []

-- the number, and where it is 0 the decision of a check, or the output of many checks
abbrev pub reply_of : Sort → Said → Reply
reply_of (Sort.one_check key now) s =
    Reply.decided (cond (eqb s.number 0) (given (decision_in s.answer)) (refused s.number))
reply_of (Sort.many_checks list n) s = Reply.decided-each (change_in s.number) (words_in s.output)
reply_of (Sort.timed now) s = Reply.done (change_in s.number)
reply_of Sort.timeless s = Reply.done (change_in s.number)

-- of a call that only reads nothing is counted
abbrev pub reply_in : What → Said → Reply
reply_in (What.changes x) s = reply_of (sort x) s
reply_in (What.reads x) s = Reply.done (change_in s.number)

-- ---- the whole list, without the places of resumption

unfoldable pub moves_in : List Move → List run.Move
moves_in [] = []
moves_in (Move.call c ∷ ms) = run.Move.call (call_in c) ∷ moves_in ms
moves_in (Move.resume w ∷ ms) = moves_in ms

unfoldable pub shown_in : List Move → List Shown → List run.Shown
shown_in [] xs = []
shown_in (m ∷ ms) [] = []
shown_in (Move.call c ∷ ms) (Shown.answered s i ∷ xs) = run.Shown.answered (reply_in (call_in c).what s) i ∷ shown_in ms xs
shown_in (Move.call c ∷ ms) (Shown.resumed i ∷ xs) = []
shown_in (Move.resume w ∷ ms) (x ∷ xs) = shown_in ms xs
