-- The answer of packing as document 01's.
use Rattle.std.specs.Prelude.{List, Result, Ok, Err}
use Rattle.shapes.specs.declared.rectangle.Rectangle.{Rectangle}
use Rattle.scope.specs.Packing.{Packing, refused_packing}
use Rattle.refusals.specs.declared.Refusal.{Refusal}
use Rattle.refusals.specs.Numbers.{number}

abbrev pub packed_boxes : Result (List Rectangle) Refusal → Packing
packed_boxes (Ok rects) = record { refusal = 0; rectangles = rects }
packed_boxes (Err r) = refused_packing (number r)
