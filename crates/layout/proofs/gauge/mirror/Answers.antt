-- `mirror` meets its contract.
use mathlib.Core.Path.{ap, ◌∙◌}
use Rattle.layout.specs.Ranges.{middle_of}
use Rattle.layout.specs.Turns.{mirrored_at, mirrored}
use Rattle.layout.proofs.gauge.mirror.Goals as goal

pub returns-then-m-coords : goal.returns-then-m-coords
unfolding mirrored mirrored_at
returns-then-m-coords c =
    let line = c.middle-m.ensures ∙ ap middle_of c.centres_range-r.ensures in
    rw (c.all_mirrored.ensures, ← line, c.if-m-coords.true)

pub returns-else-m-coords : goal.returns-else-m-coords
unfolding mirrored mirrored_at
returns-else-m-coords c =
    let line = c.middle-m.ensures ∙ ap middle_of c.centres_range-r.ensures in
    rw (← line, c.if-m-coords.false)
