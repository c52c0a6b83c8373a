-- `retain_peers` meets its contract.
use Rattle.std.proofs.Common.{◌≡◌, ℕ, ◌+◌, ◌-◌, ◌*◌, Bool, List, [], map, length, get_or, take, drop, sym, ap, ◌∙◌, arith}
use lib.ListN.{length-map}
use Rattle.records.specs.Records.{records}
use Rattle.records.proofs.Words.RecordLaws.{length-records}
use Rattle.records.specs.Fields.{time_of, flag_of}
use Rattle.peers.specs.Peers.Records.{ContestedKey, peer_of, peer_words, contested_of}
use Rattle.peers.specs.Peers.State.{is_taken, is_held}
use Rattle.peers.specs.Peers.Changes.{age_peer}
use Rattle.peers.specs.Peers.Steps.Stays.{stays_peer}
use Rattle.peers.proofs.Peers.Departures.StayLaws.{taken-flag}
use Rattle.records.proofs.Tables.TypedLaws.{wide-map, exact-record}
use Rattle.peers.proofs.Peers.Tables.WordLaws.{peer-long}
use Rattle.questions.proofs.ListLaws.{map_at}
use Rattle.records.proofs.Changes.KeepLaws.{kept-none, kept-long, kept-inside, kept_here, kept-written}
use Rattle.peers.proofs.peer_steps.retain_peers.Goals as goal

abbrev test : List ℕ → ℕ → ℕ → List ℕ → Bool
test contested c at x = stays_peer at (map contested_of (records 6 c contested)) (peer_of x).id (peer_of x).held_until (is_taken (peer_of x))

abbrev aged : ℕ → ℕ → List ℕ → List ℕ
aged at age x = peer_words (age_peer is_held at age (peer_of x))

pub loop-i-init : goal.loop-i-init
loop-i-init c =
    let rs : List (List ℕ) = records 12 c.args.n c.args.peers.now in
    let f : List ℕ → List ℕ = aged c.args.reading c.args.max_age in
    kept-none (test c.args.contested.now c.args.c c.args.reading) 12 c.args.n (map f rs) c.args.peers.now (omega arith) c.requires.1
    (wide-map f 12 (λ x. peer-long (age_peer is_held c.args.reading c.args.max_age (peer_of x))) rs)
    (length-map rs f ∙ length-records 12 c.args.n c.args.peers.now)

pub slice_bounds-copy_from_slice-end-in-loop-i : goal.slice_bounds-copy_from_slice-end-in-loop-i
slice_bounds-copy_from_slice-end-in-loop-i c =
    let s = c.args in
    let l = c.loop-i in
    let made = map (aged s.reading s.max_age) (records 12 s.n s.peers.now) in
    let p : List ℕ → Bool = test s.contested.now s.c s.reading in
    let h = c.loop-i-test.true in
    omega (arith, kept-inside p 12 s.n made s.peers.now l.peers l.i l.kept l.invariant h)

pub aged_words-words-requires : goal.aged_words-words-requires
aged_words-words-requires c =
    let s = c.args in
    let l = c.loop-i in
    let made = map (aged s.reading s.max_age) (records 12 s.n s.peers.now) in
    let p : List ℕ → Bool = test s.contested.now s.c s.reading in
    let h = c.loop-i-test.true in
    let twelve : l.i * 12 + 12 - l.i * 12 ≡ 12 = omega arith in
    let lent_is = c.copy_from_slice.ensures.after ∙ ap (λ (m : ℕ). take m (drop (l.i * 12) l.peers)) twelve ∙ kept_here p 12 s.n made s.peers.now l.peers l.i l.kept l.invariant h in
    let e = exact-record peer_words peer_of (records 12 s.n s.peers.now) c.requires.2 l.i (omega (arith, h, length-records 12 s.n s.peers.now)) in
    ap (λ (x : List ℕ). peer_words (peer_of x)) lent_is ∙ e ∙ sym lent_is

pub keep_peer-kept-requires : goal.keep_peer-kept-requires
keep_peer-kept-requires c =
    let s = c.args in
    let l = c.loop-i in
    let made = map (aged s.reading s.max_age) (records 12 s.n s.peers.now) in
    let p : List ℕ → Bool = test s.contested.now s.c s.reading in
    let h = c.loop-i-test.true in
    let long = kept-long p 12 s.n made s.peers.now l.peers l.i l.kept l.invariant in
    (omega (arith, kept-inside p 12 s.n made s.peers.now l.peers l.i l.kept l.invariant h), omega (arith, long, c.requires.1), ap length c.aged_words-words.ensures ∙ peer-long (age_peer is_held s.reading s.max_age (peer_of c.copy_from_slice.new.self)))

pub loop-i-preserved : goal.loop-i-preserved
unfolding peer_of
loop-i-preserved c =
    let s = c.args in
    let l = c.loop-i in
    let made = map (aged s.reading s.max_age) (records 12 s.n s.peers.now) in
    let p : List ℕ → Bool = test s.contested.now s.c s.reading in
    let h = c.loop-i-test.true in
    let twelve : l.i * 12 + 12 - l.i * 12 ≡ 12 = omega arith in
    let lent_is = c.copy_from_slice.ensures.after ∙ ap (λ (m : ℕ). take m (drop (l.i * 12) l.peers)) twelve ∙ kept_here p 12 s.n made s.peers.now l.peers l.i l.kept l.invariant h in
    let cs : List ContestedKey = map contested_of (records 6 s.c s.contested.now) in
    let x : List ℕ = get_or made l.i [] in
    let aged-is = c.aged_words-words.ensures ∙ ap (aged s.reading s.max_age) lent_is
    ∙ sym (map_at (aged s.reading s.max_age) [] [] (records 12 s.n s.peers.now) l.i (omega (arith, h, length-records 12 s.n s.peers.now))) in
    kept-written p 12 s.n made s.peers.now l.peers l.i l.kept l.invariant h
    c.stays_peer-stays.result c.aged_words-words.result c.keep_peer-kept.new.peers c.keep_peer-kept.result (ap length c.aged_words-words.ensures ∙ peer-long (age_peer is_held s.reading s.max_age (peer_of c.copy_from_slice.new.self))) aged-is
    (c.stays_peer-stays.ensures
    ∙ ap (λ (y : List ℕ). stays_peer s.reading cs (get_or y 0 0) (time_of (get_or y 1 0) (get_or y 2 0)) (flag_of (get_or y 3 0))) aged-is
    ∙ ap (stays_peer s.reading cs (get_or x 0 0) (time_of (get_or x 1 0) (get_or x 2 0))) (taken-flag (get_or x 3 0) (get_or x 4 0) (get_or x 5 0) (get_or x 6 0)))
    c.keep_peer-kept.ensures.value
    c.keep_peer-kept.ensures.peers_after

pub shape_of-peers : goal.shape_of-peers
shape_of-peers c =
    let s = c.args in
    let l = c.loop-i in
    kept-long (test s.contested.now s.c s.reading) 12 s.n (map (aged s.reading s.max_age) (records 12 s.n s.peers.now)) s.peers.now l.peers l.i l.kept l.invariant
