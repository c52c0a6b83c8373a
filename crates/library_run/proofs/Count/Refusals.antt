-- Refused calls in the count: a 'no' never has the number 0, and a call that is lent no table is refused.
use Prim.Native.Nat.{ℕ, ◌*◌, min}
use native.Mathlib.Omega.{arith}
use mathlib.Core.Path.{◌≡◌, refl, sym, ap, ◌∙◌}
use mathlib.Core.Bool.{Bool, true, false, ◌&&◌, and-false}
use mathlib.Core.List.{List, [], ◌∷◌, ◌++◌}
use borrow.Author.Tests.{leb-true}
use lib.Dec.{leb}
use lib.ListN.{length}
use Rattle.records.specs.Records.{records, fits}
use Rattle.questions.specs.Lists.{all}
use Rattle.questions.specs.Questions.{Question, ◌asks◌, passes}
use Rattle.std.proofs.lemmas.Bool.{cond-true}
use Rattle.questions.proofs.Tests.{split, both, and_intro, and_second, contradiction}
use Rattle.questions.proofs.Answers.{Numbered}
use Rattle.peers.specs.Peers.State as peer-state
use Rattle.limiter.specs.declared.Config.{Config}
use Rattle.limiter.specs.State.{within, have_room, valid}
use Rattle.limiter.proofs.States.StateValidLaws.{valid-says, sizes-say}
use Rattle.image.specs.Image.{State}
use Rattle.image.specs.Image as image
use Rattle.run.specs.Run as run
use Rattle.run.specs.Run.{Change, What}
use Rattle.run.specs.Trace.{on_limiter, on_peers, on_both, asked, units_in}
use Rattle.nultiway.specs.PeerCalls.{is_listed, report_asked}
use Rattle.library_run.specs.Calls.{Lent, Call}
use Rattle.library_run.specs.Trace.{reported, words_lent, no_tables, tables_lent}
use Rattle.library_run.proofs.Calls.OwnQuestions.{Needs, own_of}
use Rattle.library_run.proofs.Calls.Stepped.{settings, own_in}
use Rattle.std.specs.declared.option.Option.TheVariants.{None, Some}

-- ---- a 'no' never has the number 0

pub own-numbered : (g : Config) (n : Lent) (w : List ℕ) (k : Needs) → Numbered (own_of g n w k)
own-numbered g n w (Needs.limiter others) = omega arith
own-numbered g n w (Needs.with_peers others) = omega arith
own-numbered g n w (Needs.peers_and others) = omega arith
own-numbered g n w Needs.peers = omega arith
own-numbered g n w (Needs.reports count) = omega arith

pub asked-numbered : (n : run.Lent) (x : Change) (s : State) → Numbered (asked n x s)
unfolding asked
asked-numbered n (Change.check key now m) s = omega arith
asked-numbered n (Change.check-in key x now m) s = omega arith
asked-numbered n (Change.check-traced key x None now m) s = omega arith
asked-numbered n (Change.check-traced key x (Some y) now m) s = omega arith
asked-numbered n (Change.check-each list count m out) s = omega arith
asked-numbered n (Change.tally key y x now m) s = omega arith
asked-numbered n (Change.set-cap x) s = omega arith
asked-numbered n (Change.tick now m) s = omega arith
asked-numbered n (Change.tick-with-shares now m) s = omega arith
asked-numbered n (Change.report sender x now) s = omega arith
asked-numbered n (Change.forget peer) s = omega arith
asked-numbered n (Change.leave peer now hold) s = omega arith
asked-numbered n (Change.expire now max_age) s = omega arith

-- ---- a call that is lent no table is refused

-- a valid limiter has a place for a key, so it needs words
limiter-refused : (s : State) (qs : List Question) → passes (on_limiter no_tables s ++ qs) ≡ false
unfolding passes within
limiter-refused s qs =
    let c = s.limiter.settings.config in
    let size = 22 * min c.table_size 4096 in
    split (passes (on_limiter no_tables s ++ qs))
    (λ e.
    let a = both (have_room c no_tables.limiter) _ e in
    let v = valid-says (units_in s) s.limiter (both (valid (units_in s) s.limiter) _ a.1).0 in
    let z = sizes-say c v.settings.config.sizes in
    absurd (omega (arith, leb-true size 0 (both (leb size 0) _ a.0).0, z.some_hot, z.hot-tracked, z.tracked_lent)))
    (λ e. e)

-- the peers have tables of one size
peers-refused : (s : State) (qs : List Question) → passes (on_peers no_tables s ++ qs) ≡ false
unfolding passes peer-state.have_room
peers-refused s qs = refl

both-refused : (s : State) (qs : List Question) → passes (on_both no_tables s ++ qs) ≡ false
unfolding passes peer-state.have_room
both-refused s qs =
    ap (λ (b : Bool). b && (image.valid s && passes qs)) (and-false (have_room s.limiter.settings.config no_tables.limiter))

-- whatever is asked before
later-refused : (b : Bool) (qs : List Question) → passes qs ≡ false → passes ((1 asks b) ∷ qs) ≡ false
unfolding passes
later-refused b qs e = and_second b (passes qs) e

pub lent_nothing : (x : Change) (s : State) → passes (asked no_tables x s) ≡ false
unfolding asked
lent_nothing (Change.check key now m) s = limiter-refused s _
lent_nothing (Change.check-in key x now m) s = limiter-refused s _
lent_nothing (Change.check-traced key x y now m) s = limiter-refused s _
lent_nothing (Change.check-each list count m out) s = later-refused (fits (length list) 2 count) _ (limiter-refused s _)
lent_nothing (Change.tally key y x now m) s = limiter-refused s _
lent_nothing (Change.set-cap x) s = limiter-refused s []
lent_nothing (Change.tick now m) s = limiter-refused s _
lent_nothing (Change.tick-with-shares now m) s = both-refused s _
lent_nothing (Change.report sender x now) s = peers-refused s _
lent_nothing (Change.forget peer) s = peers-refused s []
lent_nothing (Change.leave peer now hold) s = peers-refused s []
lent_nothing (Change.expire now max_age) s = peers-refused s []

-- ---- the call as it is counted is refused where the library's is

-- of the test of its words, of its own questions and of those of the crate's function
record Agree (words own crate : Bool) : Type 0 where
  to : own ≡ true → words ≡ true
  from : words ≡ true → crate ≡ true → own ≡ true

module _ (c : Call) (s : State) where
  abbrev n : Lent
  n = c.lent

  abbrev own_for : Needs → Bool
  own_for k = passes (own_of (settings s) n c.report k)

  -- a call on the limiter: question 1 of its tables is the crate's too
  limiter-agrees :
      (words others crate : Bool) → (leb 16 n.limiter ≡ true → others ≡ true → words ≡ true)
      → (words ≡ true → leb 16 n.limiter ≡ true) → (words ≡ true → crate ≡ true → have_room (settings s) n.tables.limiter ≡ true)
      → (words ≡ true → crate ≡ true → others ≡ true) → Agree words (own_for (Needs.limiter others)) crate
  unfolding passes
  limiter-agrees words others crate f long room rest =
      let t = have_room (settings s) n.tables.limiter in
      record {
        to = λ e.
            let a = both (leb 16 n.limiter) (t && others) (both (leb 16 n.limiter && (t && others)) true e).0 in
            f a.0 (both t others a.1).1;
        from = λ e k.
            and_intro (leb 16 n.limiter && (t && others)) true
            (and_intro (leb 16 n.limiter) (t && others) (long e) (and_intro t others (room e k) (rest e k))) refl;
      }

  -- one that answers words
  answers_agree :
      (size : ℕ) (qs : List Question)
      → Agree (leb 16 n.limiter && leb size (length c.answer)) (own_for (Needs.limiter (leb size (length c.answer))))
      (passes (on_limiter n.tables s ++ qs))
  unfolding passes
  answers_agree size qs =
      let others = leb size (length c.answer) in
      limiter-agrees (leb 16 n.limiter && others) others (passes (on_limiter n.tables s ++ qs))
      (λ e k. and_intro (leb 16 n.limiter) others e k) (λ e. (both (leb 16 n.limiter) others e).0)
      (λ e k. (both (have_room (settings s) n.tables.limiter) _ k).0) (λ e k. (both (leb 16 n.limiter) others e).1)

  -- one that answers none
  plain-agrees : (qs : List Question) → Agree (leb 16 n.limiter) (own_for (Needs.limiter true)) (passes (on_limiter n.tables s ++ qs))
  unfolding passes
  plain-agrees qs =
      limiter-agrees (leb 16 n.limiter) true (passes (on_limiter n.tables s ++ qs)) (λ e k. e) (λ e. e)
      (λ e k. (both (have_room (settings s) n.tables.limiter) _ k).0) (λ e k. refl)

  -- one on a list
  each-agrees :
      (room : Bool) (qs : List Question)
      → Agree (leb 16 n.limiter) (own_for (Needs.limiter room)) (passes ((1 asks room) ∷ (on_limiter n.tables s ++ qs)))
  unfolding passes
  each-agrees room qs =
      limiter-agrees (leb 16 n.limiter) room (passes ((1 asks room) ∷ (on_limiter n.tables s ++ qs))) (λ e k. e) (λ e. e)
      (λ e k. (both (have_room (settings s) n.tables.limiter) _ (both room _ k).1).0) (λ e k. (both room _ k).0)

  -- a call on both
  shares-agree :
      (qs : List Question)
      → Agree (leb 16 n.limiter && leb 3 n.peers) (own_for (Needs.with_peers true)) (passes (on_both n.tables s ++ qs))
  unfolding passes
  shares-agree qs =
      let a = leb 16 n.limiter in
      let t = have_room (settings s) n.tables.limiter in
      let p = leb 3 n.peers in
      let pt = peer-state.have_room n.tables.peers in
      record {
        to = λ e.
            let x = both a (t && (p && pt)) (both (a && (t && (p && pt))) true e).0 in
            and_intro a p x.0 (both p pt (both t (p && pt) x.1).1).0;
        from = λ e k.
            let x = both a p e in
            let y = both t pt (both (t && pt) _ k).0 in
            and_intro (a && (t && (p && pt))) true
            (and_intro a (t && (p && pt)) x.0 (and_intro t (p && pt) y.0 (and_intro p pt x.1 y.1))) refl;
      }

  -- a call on the peers
  peers-agree : (qs : List Question) → Agree (leb 3 n.peers) (own_for Needs.peers) (passes (on_peers n.tables s ++ qs))
  unfolding passes
  peers-agree qs = record { to = λ e. (both (leb 3 n.peers) true e).0; from = λ e k. and_intro (leb 3 n.peers) true e refl }

  -- a report
  report-agrees :
      (count : ℕ) (qs : List Question)
      → Agree (leb 3 n.peers && passes (report_asked true c.report count)) (own_for (Needs.reports count)) (passes (on_peers n.tables s ++ qs))
  unfolding passes
  report-agrees count qs =
      let p = leb 3 n.peers in
      let pt = peer-state.have_room n.tables.peers in
      let long = leb (min count 65 * 3) (length c.report) in
      let listed = all is_listed (records 3 (min count 64) c.report) in
      record {
        to = λ e.
            let x = both ((p && pt) && long) (listed && true) e in
            let y = both (p && pt) long x.0 in
            and_intro p (long && (listed && true)) (both p pt y.0).0 (and_intro long (listed && true) y.1 x.1);
        from = λ e k.
            let x = both p (long && (listed && true)) e in
            let y = both long (listed && true) x.1 in
            and_intro ((p && pt) && long) (listed && true) (and_intro (p && pt) long (and_intro p pt x.0 (both pt _ k).0) y.0) y.1;
      }

  agrees :
      (x : Change)
      → Agree (words_lent n c.answer c.report x) (passes (own_in c (What.changes x) s)) (passes (asked n.tables (reported c.report x) s))
  unfolding asked
  agrees (Change.check key now m) = answers_agree 2 _
  agrees (Change.check-in key x now m) = answers_agree 2 _
  agrees (Change.check-traced key x y now m) = answers_agree 5 _
  agrees (Change.check-each list count m out) = each-agrees (fits (length list) 2 count) _
  agrees (Change.tally key y x now m) = plain-agrees _
  agrees (Change.set-cap x) = plain-agrees []
  agrees (Change.tick now m) = plain-agrees _
  agrees (Change.tick-with-shares now m) = shares-agree _
  agrees (Change.report sender x now) = report-agrees x.count _
  agrees (Change.forget peer) = peers-agree []
  agrees (Change.leave peer now hold) = peers-agree []
  agrees (Change.expire now max_age) = peers-agree []

  -- lent its tables, where its own questions are passed
  pub own-tables : (x : Change) → passes (own_in c (What.changes x) s) ≡ true → tables_lent c (What.changes x) ≡ n.tables
  own-tables x e = cond-true _ n.tables no_tables ((agrees x).to e)

  -- and refused, where they are not
  pub own-refused :
      (x : Change) → passes (own_in c (What.changes x) s) ≡ false → passes (asked (tables_lent c (What.changes x)) (reported c.report x) s) ≡ false
  own-refused x e =
      let y = reported c.report x in
      split (words_lent n c.answer c.report x)
      (λ w. rw w
      (split (passes (asked n.tables y s)) (λ k. contradiction (sym ((agrees x).from w k) ∙ e)) (λ k. k)))
      (λ w. rw w (lent_nothing y s))
