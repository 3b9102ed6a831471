-- `put_circles` meets its contract: after i turns the fields of the first i circles are put.
use Prim.Native.Nat.{ℕ, ◌<◌}
use lib.ListN.{take}
use Rattle.scope.specs.Links.{circle}
use Rattle.scope.specs.Saving.{circle_fields}
use Rattle.card_output.specs.Puts.{Put}
use Rattle.card_output.specs.Typed.{IsTyped}
use Rattle.card_output.proofs.writing.put_circles.Given as goal

abbrev pub invariant-loop-c : goal.invariant-loop-c
invariant-loop-c l =
    Put (circle_fields (take l.c-index l.circles)) l.at l.initial.out l.next l.out
    × ((i : ℕ) → i < l.c-index → IsTyped (circle l.circles i))
