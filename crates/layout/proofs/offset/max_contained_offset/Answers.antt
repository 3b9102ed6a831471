-- `max_contained_offset` meets its contract: each way out knows how the tests went.
use mathlib.Core.Path.{sym, ◌∙◌}
use lib.Ieee.{of_bits}
use Rattle.scope.specs.Offset.{max_contained_offset}
use Rattle.layout.proofs.offset.max_contained_offset.Goals as goal
use Rattle.layout.proofs.offset.max_contained_offset.Goals.{
  then-not-contains_at-via-then-not-contains_at,
  then-not-contains_at-via-else-not-contains_at+then-hi,
}

pub returns-then-not-contains_at : goal.returns-then-not-contains_at
unfolding max_contained_offset of_bits
returns-then-not-contains_at c =
    let inside = sym c.contains_at.ensures in
    elim c.then-not-contains_at.branch [
      | then-not-contains_at-via-then-not-contains_at w ↦ rw (inside ∙ w.if-not-contains_at.true)
      | then-not-contains_at-via-else-not-contains_at+then-hi w ↦
          rw (inside ∙ w.if-not-contains_at.false, ← c.diagonal-hi.ensures, w.if-hi.true)
    ]

pub returns : goal.returns
unfolding max_contained_offset of_bits
returns c =
    rw (sym c.contains_at.ensures ∙ c.if-not-contains_at.false, ← c.diagonal-hi.ensures, c.if-hi.false, c.halved.ensures, c.doubled.ensures)
