-- `heard_taken` meets its contract.
use Rattle.std.proofs.Common.{ap, ◌∙◌, arith}
use Rattle.std.specs.declared.option.Option.TheVariants.{Some}
use Rattle.peers.proofs.Peers.Readers.HeardLaws.{demand-fits, taken-absent, taken-found, taken-missing}
use Rattle.peers.proofs.peer_heard.heard_taken.Goals as goal

pub returns-then-flag-eq0 : goal.returns-then-flag-eq0
returns-then-flag-eq0 c = taken-absent _ _ _ c.args.flag c.args.round c.args.heard_at c.if-flag-eq0.true

pub key_heard-requires : goal.key_heard-requires
key_heard-requires c = (omega (arith, c.in_ok-r.ensures.length_is), omega (arith, demand-fits _ c.in_ok-r.ensures), c.requires.round_bound)

pub returns-in_err-r : goal.returns-in_err-r
returns-in_err-r c = c.from_residual.ensures ∙ taken-missing _ _ _ c.args.flag c.args.round c.args.heard_at c.if-flag-eq0.false c.in_err-r.ensures

pub returns : goal.returns
returns c = ap Some c.key_heard.ensures ∙ taken-found _ _ _ c.args.flag c.args.round c.args.heard_at c.if-flag-eq0.false _ c.in_ok-r.ensures
