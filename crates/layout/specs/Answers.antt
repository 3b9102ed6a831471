-- The answers of the calls as document 01's records.
use Rattle.std.specs.Prelude.{List, [], Result, Ok, Err}
use Rattle.shapes.specs.declared.circle.Circle.{Circle}
use Rattle.shapes.specs.declared.rectangle.Rectangle.{Rectangle}
use Rattle.refusals.specs.declared.Refusal.{Refusal}
use Rattle.refusals.specs.Numbers.{number}
use Rattle.scope.specs.Container.{Contained, refused_container}
use Rattle.scope.specs.Layout.{Result as Outcome, Layout, refused_layout}
use Rattle.layout.specs.declared.normalize.Arrangement.{Arrangement}
use Rattle.layout.specs.declared.normalize.Layout.{Layout as Laid}
use Rattle.layout.specs.declared.container.InContainer.{InContainer}

-- the container given, what comes back for it, and the lent run as it then is; after a refusal the container as it was given
abbrev pub contained_of : Rectangle → Result Rectangle Refusal → List Circle → Contained
contained_of container (Ok placed) cs = record { refusal = 0; container = placed; circles = cs }
contained_of container (Err r) cs = refused_container cs container (number r)

abbrev pub outcome_of : Arrangement → Outcome
outcome_of a = record { refusal = 0; count = a.count; numbers = a.numbers; moved = a.moved; padding = a.padding }

-- what comes back for a layout; and the lent run as it then is beside it
abbrev pub result_of : Result Arrangement Refusal → Outcome
result_of (Ok a) = outcome_of a
result_of (Err r) = (refused_layout (number r) []).result

abbrev pub laid_out : Result Arrangement Refusal → List Circle → Layout
laid_out r cs = record { result = result_of r; circles = cs }

-- what comes back for an array of circles that is handed over: after a refusal the array as it was given
abbrev pub first_laid : List Circle → Result Laid Refusal → Layout
first_laid cs (Ok l) = record { result = outcome_of l.arrangement; circles = l.circles }
first_laid cs (Err r) = refused_layout (number r) cs

abbrev pub first_settled : List Circle → Rectangle → Result InContainer Refusal → Contained
first_settled cs container (Ok l) = record { refusal = 0; container = l.container; circles = l.circles }
first_settled cs container (Err r) = refused_container cs container (number r)
