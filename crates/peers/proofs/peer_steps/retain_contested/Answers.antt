-- `retain_contested` meets its contract.
use Rattle.std.proofs.Common.{ℕ, Bool, List, map, refl, ◌∙◌, arith}
use Rattle.records.specs.Records.{records}
use Rattle.records.proofs.Words.RecordLaws.{length-records}
use Rattle.records.proofs.Tables.TableLaws.{wide-records}
use Rattle.peers.specs.Peers.Records.{peer_of, contested_of}
use Rattle.peers.specs.Peers.Steps.Stays.{stays_contested}
use Rattle.records.proofs.Changes.KeepLaws.{kept-none, kept-first, kept_word, kept-inside, kept-copied}
use Rattle.peers.proofs.peer_steps.retain_contested.Goals as goal

abbrev test : List ℕ → ℕ → ℕ → ℕ → List ℕ → Bool
test peers n at age x = stays_contested at age (map peer_of (records 12 n peers)) (contested_of x).peer (contested_of x).heard_at

pub loop-i-init : goal.loop-i-init
loop-i-init c =
    let xs : List ℕ = c.args.contested.now in
    kept-none (test c.args.peers.now c.args.n c.args.reading c.args.max_age) 6 c.args.c (records 6 c.args.c xs) xs (omega arith) c.requires.1
    (wide-records 6 c.args.c xs c.requires.1) (length-records 6 c.args.c xs)

pub keep_record-kept-requires : goal.keep_record-kept-requires
keep_record-kept-requires c =
    let s = c.args in
    let l = c.loop-i in
    let inside = kept-inside (test s.peers.now s.n s.reading s.max_age) 6 s.c (records 6 s.c s.contested.now) s.contested.now l.contested l.i l.kept l.invariant c.loop-i-test.true in
    (omega arith, inside.0, inside.1)

pub loop-i-preserved : goal.loop-i-preserved
unfolding contested_of
loop-i-preserved c =
    let l = c.loop-i in
    let s = c.args in
    let xs : List ℕ = s.contested.now in
    let rs : List (List ℕ) = records 6 s.c xs in
    let p : List ℕ → Bool = test s.peers.now s.n s.reading s.max_age in
    kept-copied p 6 s.c rs xs l.contested l.i l.kept l.invariant c.loop-i-test.true
    c.stays_contested-stays.result c.keep_record-kept.new.t c.keep_record-kept.result refl
    (c.stays_contested-stays.ensures _ c.place-place.ensures.place
    ∙ (λ k. stays_contested s.reading s.max_age (map peer_of (records 12 s.n s.peers.now))
    (kept-first p 6 s.c rs xs l.contested l.i l.kept l.invariant c.loop-i-test.true k)
    (kept_word p 6 s.c rs xs l.contested l.i l.kept l.invariant c.loop-i-test.true 5 (omega arith) k)))
    c.keep_record-kept.ensures.value
    c.keep_record-kept.ensures.t_after
