-- A sheet that is not too large to charge.
use Rattle.std.specs.Prelude.{◌*◌, ◌≤◌, List}
use Rattle.shapes.specs.declared.circle.Circle.{Circle}
use Rattle.scope.specs.CardStock.{wide, tall}
use Rattle.promises.specs.CardStock.{SheetFits, lines_most, line_most, area_most}

-- as that of every accepted layout with a circle
abbrev pub SheetSmall : List Circle → Type 0
SheetSmall cs = SheetFits lines_most line_most cs × (wide cs * tall cs ≤ area_most)
