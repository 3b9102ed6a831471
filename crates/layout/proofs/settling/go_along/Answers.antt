-- `go_along` meets its contract: both axes moved, or none.
use mathlib.Core.Path.{sym, ◌∙◌}
use Rattle.layout.specs.Settling.{along}
use Rattle.layout.proofs.settling.go_along.Goals as goal

pub returns-then-is_off : goal.returns-then-is_off
unfolding along
returns-then-is_off c =
    let off = sym c.is_off.ensures ∙ c.if-is_off.true in
    record { xs = rw (c.translate.ensures, off); ys = rw (c.translate-then-is_off.ensures, off) }

pub returns-else-is_off : goal.returns-else-is_off
unfolding along
returns-else-is_off c =
    let there = sym c.is_off.ensures ∙ c.if-is_off.false in
    record { xs = rw there; ys = rw there }
