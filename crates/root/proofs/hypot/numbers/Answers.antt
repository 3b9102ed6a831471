-- `root::hypot::numbers` meets its contract: the sizes alone decide, in either order.
use mathlib.Core.Logic.{inl, inr}
use native.Mathlib.Omega.{arith}
use Rattle.root.proofs.OperandLaws.{either_order, larger-finite, larger_infinite, nearest_is_hypot}
use Rattle.root.proofs.PatternLaws.{no_nan_up_to_infinity}
use Rattle.root.proofs.hypot.numbers.Goals as goal
use Rattle.root.proofs.hypot.numbers.Goals.{then-p-q, else-p-q}

pub float_from_bits-result : goal.float_from_bits-result
float_from_bits-result c = no_nan_up_to_infinity _ (omega arith)

pub returns-then-a-eq-INFINITY : goal.returns-then-a-eq-INFINITY
returns-then-a-eq-INFINITY c =
    let s = c.if-p-q in
    let w = either_order _ _ s.a s.b (elim s.branch [ then-p-q w ↦ inl (w.if-p-q.true, w.a-is, w.b-is) | else-p-q w ↦ inr (w.if-p-q.false, w.a-is, w.b-is) ]) in
    larger_infinite c.args.x c.args.y c.well_formed.0.1 c.well_formed.1.0.1 c.requires s.a s.b w c.if-a-eq-INFINITY.true

pub ordered-requires : goal.ordered-requires
ordered-requires c =
    let s = c.if-p-q in
    let w = either_order _ _ s.a s.b (elim s.branch [ then-p-q w ↦ inl (w.if-p-q.true, w.a-is, w.b-is) | else-p-q w ↦ inr (w.if-p-q.false, w.a-is, w.b-is) ]) in
    (w.order, larger-finite c.args.x c.args.y c.well_formed.0.1 c.well_formed.1.0.1 c.requires s.a s.b w c.if-a-eq-INFINITY.false)

pub float_from_bits-result-2 : goal.float_from_bits-result-2
float_from_bits-result-2 c = no_nan_up_to_infinity c.ordered.result c.ordered.ensures.number

pub returns : goal.returns
returns c =
    let s = c.if-p-q in
    let w = either_order _ _ s.a s.b (elim s.branch [ then-p-q w ↦ inl (w.if-p-q.true, w.a-is, w.b-is) | else-p-q w ↦ inr (w.if-p-q.false, w.a-is, w.b-is) ]) in
    nearest_is_hypot c.args.x c.args.y c.well_formed.0.1 c.well_formed.1.0.1 c.requires s.a s.b w c.ordered.result (larger-finite c.args.x c.args.y c.well_formed.0.1 c.well_formed.1.0.1 c.requires s.a s.b w c.if-a-eq-INFINITY.false) c.ordered.ensures
