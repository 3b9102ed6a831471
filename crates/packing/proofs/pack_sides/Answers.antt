-- `pack_sides` meets its contract: refused and nothing written, or the grid of the first n boxes.
use Rattle.std.proofs.Common.{◌≤◌, length, sym, arith, rules}
use Rattle.intake.specs.Limits.{max_circles}
use Rattle.packing.proofs.Packings.{front_xs, front_ys}
use Rattle.packing.proofs.PackedBoxes.{accepted_few, accepted_proportion}
use Rattle.packing.proofs.pack_sides.Goals as goal

pub shared_ref_as_front-in_grid : goal.shared_ref_as_front-in_grid
shared_ref_as_front-in_grid c =
    let few : c.args.n ≤ max_circles = accepted_few _ _ _ _ _ (sym c.in_ok-check_sides.ensures) in
    search rules

pub in_grid-requires : goal.in_grid-requires
in_grid-requires c =
    let none = sym c.in_ok-check_sides.ensures in
    let few : c.args.n ≤ max_circles = accepted_few _ _ _ _ _ none in
    (search rules, search rules, search rules, search rules, accepted_proportion _ _ _ _ _ none)

pub returns : goal.returns
returns c =
    let a = c.args in
    let g = c.in_grid.ensures in
    let few = accepted_few _ _ _ _ _ (sym c.in_ok-check_sides.ensures) in
    let w : a.n ≤ length a.widths.now = omega arith in
    let h : a.n ≤ length a.heights.now = omega arith in
    record {
      number = c.in_ok-check_sides.ensures;
      x = front_xs a.n a.widths.now a.heights.now w h a.padding a.proportion a.xs.now _ g.x;
      y = front_ys a.n a.widths.now a.heights.now w h a.padding a.proportion a.ys.now _ g.y;
    }
