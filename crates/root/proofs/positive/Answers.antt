-- `root::positive` meets its contract.
use mathlib.Core.Path.{◌∙◌, ap, subst}
use mathlib.Core.Bool.{not}
use Prim.Native.Nat.{ℕ}
use native.Mathlib.Omega.{arith}
use lib.Dec.{T}
use lib.Ieee.{binary64, nan_bits, of_bits}
use Rattle.root.proofs.WholeLaws.{nothing_behind}
use Rattle.root.proofs.NearestLaws.{root-fits, result_no_nan, result_is_root}
use Rattle.root.proofs.positive.Goals as goal

pub overflow_add-result-2 : goal.overflow_add-result-2
overflow_add-result-2 c =
    let p = c.split-p in
    let w = c.root-w in
    let h = root-fits c.args.b p.result.digits p.result.half w.result.root w.result.left p.ensures (nothing_behind _ _ _ w.ensures) in
    omega arith

pub float_from_bits-result : goal.float_from_bits-result
float_from_bits-result c =
    let p = c.split-p in
    let w = c.root-w in
    subst (λ (r : ℕ). T (not (nan_bits binary64 r))) (omega arith)
    (result_no_nan c.args.b p.result.digits p.result.half w.result.root w.result.left p.ensures (nothing_behind _ _ _ w.ensures))

pub returns : goal.returns
returns c =
    let p = c.split-p in
    let w = c.root-w in
    ap (of_bits binary64) (omega arith)
    ∙ result_is_root c.args.b p.result.digits p.result.half w.result.root w.result.left p.ensures (nothing_behind _ _ _ w.ensures) c.requires.1
