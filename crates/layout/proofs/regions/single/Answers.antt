-- `single` meets its contract: the only bit of a mask stands above as many zeros as its number.
use native.Mathlib.Omega.{arith}
use mathlib.Core.Path.{sym, ◌∙◌}
use Rattle.layout.proofs.ChildParents.{alone_at, alone_past, alone_other}
use Rattle.intake.proofs.TrailingZeros.{few_zeros}
use Rattle.layout.proofs.regions.single.Goals as goal
use Rattle.layout.proofs.regions.single.Goals.{else-q-n-via-then-q-n+else-only-mask, else-q-n-via-else-q-n}

pub overflow_cast-q : goal.overflow_cast-q
overflow_cast-q c = omega (arith, few_zeros 64 c.args.mask)

pub returns-then-only-mask : goal.returns-then-only-mask
returns-then-only-mask c =
    record { is = alone_at _ _ _ c.if-q-n.true (sym c.only.ensures ∙ c.if-only-mask.true); below = c.if-q-n.true }

pub returns-else-q-n : goal.returns-else-q-n
returns-else-q-n c =
    elim c.else-q-n.branch [
      | else-q-n-via-then-q-n+else-only-mask w ↦ record { is = alone_other _ _ c.requires (λ e. w.if-only-mask.false (w.only.ensures ∙ e)); below = tt }
      | else-q-n-via-else-q-n w ↦ record { is = alone_past _ _ c.requires w.if-q-n.false; below = tt }
    ]
