-- `put_regions` meets its contract: with the fields of the regions that are left, all are put.
use Rattle.scope.specs.Saving.{region_fields}
use Rattle.card_output.proofs.PutFields.{Left}
use Rattle.card_output.proofs.writing.put_regions.Given as goal

abbrev pub invariant-loop-mask : goal.invariant-loop-mask
invariant-loop-mask l =
    Left (region_fields l.masks l.patterns) l.at l.initial.out l.mask-iterator.a.rest.now l.mask-iterator.b.rest.now l.next l.out
