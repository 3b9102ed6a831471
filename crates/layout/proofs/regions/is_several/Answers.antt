-- `is_several` meets its contract: a mask of one bit has nothing in common with the number before it.
use mathlib.Core.Path.{ap, ◌∙◌}
use lib.Bits.{bit_and}
use borrow.Author.Tests.{not-true, eqb-false}
use Prim.Native.Nat.{ℕ, ◌-◌}
use Rattle.layout.proofs.LoneBits.{nothing_in_common}
use Rattle.layout.proofs.regions.is_several.Goals as goal

pub returns-then-mask-ne0 : goal.returns-then-mask-ne0
returns-then-mask-ne0 c =
    λ e. (c.if-mask-ne0.true, λ q h. eqb-false _ 0 (not-true _ e) (ap (λ (m : ℕ). bit_and m (m - 1)) h ∙ nothing_in_common q))
