-- `looked_at` meets its contract: what is not too many fits.
use Rattle.std.proofs.Common.{sym, ◌∙◌}
use Rattle.scope.specs.Limits.{circle_cap}
use Rattle.laws.proofs.Counted.{few}
use Rattle.packing.proofs.looked_at.Goals as goal

pub returns-else-too_many-clause-few : goal.returns-else-too_many-clause-few
unfolding circle_cap
returns-else-too_many-clause-few c = few _ (sym c.too_many.ensures ∙ c.if-too_many.false)
