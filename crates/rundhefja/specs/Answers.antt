-- Answers that are a value or a refusal, as records: the refusal's number, 0 for a value; and the value, 0 for a refusal.
use Rattle.std.specs.Prelude.{ℕ, ◌≡◌, Bool, true, false, Float, List, take, Option, Some, None, Result, Ok, Err}
use Rattle.shapes.specs.declared.bounds.Bounds.{Bounds}
use Rattle.shapes.specs.declared.circle.Circle.{Circle}
use Rattle.shapes.specs.Records.{box_of, circle_of}
use Rattle.scope.specs.Numbers.{nought}
use Rattle.scope.specs.Refusals.{Answer, refused, given}
use Rattle.scope.specs.Groups.{Grouping}
use Rattle.scope.specs.Packing.{Packing}
use Rattle.scope.specs.Container.{Contained}
use Rattle.scope.specs.Layout.{Result as Outcome}
use Rattle.scope.specs.CardStock.{Charge as Amount}
use Rattle.scope.specs.CardFile.{Card, Field, factor_field, circle_field, region_field, read_card}
use Rattle.scope.specs.Saving.{Saved}
use Rattle.refusals.specs.declared.Refusal.{Refusal}
use Rattle.refusals.specs.Numbers.{number}
use Rattle.rundhefja.specs.declared.answers.Length.{Length}
use Rattle.rundhefja.specs.declared.answers.Test.{Test}
use Rattle.rundhefja.specs.declared.answers.Count.{Count}
use Rattle.rundhefja.specs.declared.answers.Shared.{Shared}
use Rattle.rundhefja.specs.declared.answers.Clusters.{Clusters}
use Rattle.rundhefja.specs.declared.answers.Packed.{Packed}
use Rattle.rundhefja.specs.declared.answers.Placed.{Placed}
use Rattle.rundhefja.specs.declared.answers.Laid.{Laid}
use Rattle.rundhefja.specs.declared.answers.Charge.{Charge}
use Rattle.rundhefja.specs.declared.answers.Written.{Written}
use Rattle.rundhefja.specs.declared.answers.FieldRead.{FieldRead}

abbrev pub length_of : Answer Float → Length
length_of (refused k) = record { refusal = k; value = nought }
length_of (given x) = record { refusal = 0; value = x }

abbrev pub test_of : Answer Bool → Test
test_of (refused k) = record { refusal = k; value = false }
test_of (given b) = record { refusal = 0; value = b }

abbrev pub count_of : Answer ℕ → Count
count_of (refused k) = record { refusal = k; value = 0 }
count_of (given n) = record { refusal = 0; value = n }

-- an intersection: the box, or that there is none
abbrev pub shared_of : Option Bounds → Shared
shared_of (Some b) = record { empty = false; bounds = b }
shared_of None = record { empty = true; bounds = box_of nought nought nought nought }

-- ---- the records of the calls on lists, as document 01's and 02's

abbrev pub grouping_of : Clusters → Grouping
grouping_of r = record { refusal = r.refusal; count = r.count; numbers = r.numbers }

abbrev pub packing_of : Packed → Packing
packing_of r = record { refusal = r.refusal; rectangles = r.rectangles }

abbrev pub placed_of : Contained → Placed
placed_of r = record { refusal = r.refusal; container = r.container }

abbrev pub outcome_of : Laid → Outcome
outcome_of r = record { refusal = r.refusal; count = r.count; numbers = r.numbers; moved = r.moved; padding = r.padding }

abbrev pub amount_of : Charge → Amount
amount_of r = record { refusal = r.refusal; amount = r.amount }

-- ---- what is written to a lent list

abbrev pub written_of : Result ℕ Refusal → Written
written_of (Ok n) = record { refusal = 0; length = n }
written_of (Err r) = record { refusal = number r; length = 0 }

-- the answer, and the lent list as it then is
abbrev pub saved_of : Written → List ℕ → Saved
saved_of r out = record { refusal = r.refusal; written = r.length; output = out }

-- what was written reads back to the card
abbrev pub ReadsBack : Card → Written → List ℕ → Type 0
ReadsBack card r out = r.refusal ≡ 0 → read_card (take r.length out) ≡ given card

-- ---- a field, its body's place and length beside it

abbrev pub no_circle : Circle
no_circle = circle_of nought nought nought 0

abbrev pub field_read : Answer Field → ℕ → ℕ → FieldRead
field_read (refused k) start length =
    record { refusal = k; tag = 0; factor = nought; circle = no_circle; mask = 0; area = nought; body_start = start; body_length = length }
field_read (given (factor_field x)) start length =
    record { refusal = 0; tag = 1; factor = x; circle = no_circle; mask = 0; area = nought; body_start = start; body_length = length }
field_read (given (circle_field c)) start length =
    record { refusal = 0; tag = 2; factor = nought; circle = c; mask = 0; area = nought; body_start = start; body_length = length }
field_read (given (region_field mask area)) start length =
    record { refusal = 0; tag = 3; factor = nought; circle = no_circle; mask = mask; area = area; body_start = start; body_length = length }
