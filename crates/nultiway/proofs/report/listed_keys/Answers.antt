use Rattle.std.proofs.Common.{ℕ, ◌≡◌, ◌+◌, ◌-◌, ◌*◌, List, take, drop, ap, ◌∙◌, arith}
use lib.ListN.{set}
use Rattle.peers.specs.declared.peer_demand.KeyDemand.{KeyDemand}
use Rattle.nultiway.specs.PeerCalls.{listed_of, keys_of}
use Rattle.nultiway.proofs.Words.ReportLaws.{keys-start, keys_step}
use Rattle.nultiway.proofs.report.listed_keys.Goals as goal

pub loop-i-init : goal.loop-i-init
loop-i-init c = keys-start c.args.words.now c.blank_key-keys.ensures

pub loop-i-preserved : goal.loop-i-preserved
loop-i-preserved c =
    let ws = c.args.words.now in
    let l = c.loop-i in
    let three : l.i * 3 + 3 - l.i * 3 ≡ 3 = omega arith in
    let key : c.listed_of.result ≡ listed_of (take 3 (drop (l.i * 3) ws)) =
    c.listed_of.ensures ∙ ap (λ (k : ℕ). listed_of (take k (drop (l.i * 3) ws))) three in
    ap (λ (ks : List KeyDemand). set ks l.i c.listed_of.result) l.invariant
    ∙ ap (λ (k : KeyDemand). set (keys_of l.i ws) l.i k) key
    ∙ keys_step ws l.i (omega (arith, c.loop-i-test.true, c.requires.0))
