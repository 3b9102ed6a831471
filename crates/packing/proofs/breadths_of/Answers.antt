-- `breadths_of` meets its contract: after i boxes each line has the breadth of the first i.
use Rattle.std.proofs.Common.{◌<◌, length, get_or, length-append}
use lib.Ieee.{nan}
use Rattle.std.proofs.lemmas.Slice.Zip.{zip_turn}
use Rattle.packing.proofs.Grid.{breadths_none, breadths_next}
use Rattle.packing.proofs.breadths_of.Goals as goal

pub loop-line-init : goal.loop-line-init
loop-line-init c = breadths_none _ _ _ _ _ (rw c.requires.1 at c.clear.ensures)

pub loop-line-preserved : goal.loop-line-preserved
loop-line-preserved c =
    let l = c.loop-line in
    let i = length l.yielded in
    let pair = zip_turn c.args.lines.now c.args.sides.now _ c.into_iter-line-iterator.result
    _ c.next.new.self _ (cc) (cc) l.yielded_by _ c.in-Some.is c.next.ensures.steps in
    let inside : get_or c.args.lines.now i 0 < length c.args.sides.now = c.requires.2 i pair.1 in
    rw (c.maximum.ensures, pair.2 0, pair.3 nan, length-append) (breadths_next _ _ _ _ i l.breadths inside l.invariant)
