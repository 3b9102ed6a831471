-- `only_child` meets its contract.
use Prim.Native.Nat.{ℕ}
use mathlib.Core.Path.{◌≡◌, ap, ◌∙◌}
use lib.Dec.{eqb}
use Rattle.std.proofs.Common.{rules}
use Rattle.std.specs.List.{count_by}
use Rattle.layout.proofs.ChildParents.{children_counted}
use Rattle.layout.proofs.offset.only_child.Goals as goal

pub returns : goal.returns
returns c =
    let counted : c.count.result ≡ count_by (λ q. eqb q c.args.p) c.args.parents.now = search rules in
    ap (λ (n : ℕ). eqb n 1) (counted ∙ children_counted c.args.p c.args.parents.now c.requires)
