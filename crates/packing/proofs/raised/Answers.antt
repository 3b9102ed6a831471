-- `raised` meets its contract, a case for each way through it. The numbers that x is held against are powers of two once their patterns are read.
use Rattle.std.proofs.Common.{◌≡◌, ◌^◌, ◌<◌, Bool, true, false, T, sym, subst, arith, le→leb}
use lib.Ieee.{of_bits, div, in_float}
use Rattle.packing.proofs.RaisedWord.{above_minus_one, IsCut, whole_part_small, next_is_raised, whole_part_is_raised, large_is_raised, largest_is_raised, none_is_raised, infinite_is_raised}
use Rattle.packing.proofs.raised.Goals as goal
use Rattle.packing.proofs.raised.Goals.{else-x-3-via-then-x-3+else-whole-x, else-x-3-via-else-x-3}

holds : {b : Bool} → b ≡ true → T b
holds h = subst T (sym h) tt

fails : {b : Bool} → b ≡ false → ¬ T b
fails h t = subst T h t

pub truncating_f64_to_u64-whole-requires : goal.truncating_f64_to_u64-whole-requires
unfolding of_bits
truncating_f64_to_u64-whole-requires c = record { lower_bound = above_minus_one c.args.x (holds c.if-x.true); upper_bound = holds c.if-x-2.true }

pub int_to_float-whole : goal.int_to_float-whole
unfolding in_float of_bits
int_to_float-whole c =
    let held : IsCut c.args.x c.truncating_f64_to_u64-whole.result = record { held = holds c.well_formed.0.1; above = holds c.if-x.true; below = holds c.if-x-2.true; is = c.truncating_f64_to_u64-whole.ensures } in
    let small : c.truncating_f64_to_u64-whole.result < 2 ^ 53 = whole_part_small c.args.x c.truncating_f64_to_u64-whole.result held (holds c.if-x-3.true) in
    le→leb c.truncating_f64_to_u64-whole.result (2 ^ 53) (omega arith)

pub overflow_add-result : goal.overflow_add-result
unfolding of_bits
overflow_add-result c =
    let held : IsCut c.args.x c.truncating_f64_to_u64-whole.result = record { held = holds c.well_formed.0.1; above = holds c.if-x.true; below = holds c.if-x-2.true; is = c.truncating_f64_to_u64-whole.ensures } in
    let small : c.truncating_f64_to_u64-whole.result < 2 ^ 53 = whole_part_small c.args.x c.truncating_f64_to_u64-whole.result held (holds c.if-x-3.true) in
    omega arith

pub returns-then-whole-x : goal.returns-then-whole-x
unfolding of_bits
returns-then-whole-x c =
    let held : IsCut c.args.x c.truncating_f64_to_u64-whole.result = record { held = holds c.well_formed.0.1; above = holds c.if-x.true; below = holds c.if-x-2.true; is = c.truncating_f64_to_u64-whole.ensures } in
    next_is_raised c.args.x c.truncating_f64_to_u64-whole.result held (holds c.if-x-3.true) (holds c.if-whole-x.true)

pub returns-then-x-2 : goal.returns-then-x-2
unfolding of_bits
returns-then-x-2 c =
    let x = c.args.x in
    let t = c.truncating_f64_to_u64-whole.result in
    let held : IsCut c.args.x c.truncating_f64_to_u64-whole.result = record { held = holds c.well_formed.0.1; above = holds c.if-x.true; below = holds c.if-x-2.true; is = c.truncating_f64_to_u64-whole.ensures } in
    elim c.else-x-3.branch [ else-x-3-via-then-x-3+else-whole-x h ↦ whole_part_is_raised x t held (holds h.if-x-3.true) (fails h.if-whole-x.false) | else-x-3-via-else-x-3 h ↦ large_is_raised x t held (fails h.if-x-3.false) ]

pub returns-then-x-4 : goal.returns-then-x-4
unfolding of_bits div
returns-then-x-4 c = largest_is_raised c.args.x (holds c.if-x.true) (fails c.if-x-2.false) (holds c.if-x-4.true)

pub returns-else-x-4 : goal.returns-else-x-4
unfolding of_bits div
returns-else-x-4 c = infinite_is_raised c.args.x (fails c.if-x-4.false)

pub returns-else-x : goal.returns-else-x
unfolding of_bits
returns-else-x c = none_is_raised c.args.x (fails c.if-x.false)
