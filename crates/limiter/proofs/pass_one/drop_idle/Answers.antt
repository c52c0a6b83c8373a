use Rattle.limiter.specs.Steps.KeySteps.{units}
use Rattle.limiter.proofs.PassOne.CopyLaws.{dropped}
use Rattle.limiter.proofs.pass_one.drop_idle.Goals as goal

pub returns : goal.returns
returns c =
    let a = c.args in
    dropped units a.silent a.reading a.n a.keys.now a.hots.now a.flags.now _ c.keep_flagged.result _ _
    c.requires.n_in_bounds.0 c.mark_busy.ensures c.copy_flagged.ensures c.keep_flagged.ensures
