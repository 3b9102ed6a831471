-- `at` meets its contract.
use mathlib.Core.Path.{sym}
use Rattle.intake.proofs.Columns.{shown_at}
use Rattle.layout.proofs.offset.Discs.at.Goals as goal

pub returns : goal.returns
returns c =
    let d = c.args.self.now in
    sym (shown_at d.xs.now d.ys.now d.radii.now c.args.i c.requires)
