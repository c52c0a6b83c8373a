-- The key's entry, and its record after the call.
use mathlib.Core.Path.{refl}
use Rattle.limiter.proofs.Checking.CheckLaws.{entry-quota, entry-placed, record-acts, result-answered}
use Rattle.limiter.proofs.checks.record_key.Goals as goal

pub raise-requires-clause-placed : goal.raise-requires-clause-placed
raise-requires-clause-placed c = let s = c.args in entry-placed s.limiter s.keys.now c.requires.ready s.key s.limit s.reading s.cluster_size c.requires.burst_value _ c.entry-found.ensures

pub raise-requires-clause-quota_value : goal.raise-requires-clause-quota_value
raise-requires-clause-quota_value c = let s = c.args in entry-quota s.limiter s.keys.now c.requires.ready s.key s.limit s.reading s.cluster_size c.requires.burst_value _ c.entry-found.ensures

pub returns : goal.returns
returns c =
    let s = c.args in
    record-acts s.limiter s.keys.now c.requires.ready s.key s.limit s.reading s.cluster_size c.requires.burst_value _ c.entry-found.ensures s.tally _ _ _ _ (result-answered c.raise.result.answer) refl c.raise.ensures
