-- `from` gives the record of a clustering: after a refusal every number is 0.
use Rattle.scope.specs.Limits.{circle_cap}
use Rattle.scope.specs.Runs.{filled}
use Rattle.rundhefja.proofs.answers.ClustersFromResultClusteringClustersRefusal.from.Goals as goal

pub returns-in-Err : goal.returns-in-Err
unfolding filled circle_cap
returns-in-Err c = rw (c.in-Err.is, c.number.ensures)
