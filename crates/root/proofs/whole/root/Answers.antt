-- `root::whole::root` meets its contract.
use Prim.Native.Nat.{◌^◌}
use Rattle.root.proofs.WholeLaws.{le-root, root-lt}
use Rattle.root.proofs.whole.root.Goals as goal

pub widen-requires : goal.widen-requires
widen-requires c =
    let w = c.settle-w in (
      le-root c.args.hi w.result.root w.result.left (2 ^ 26) w.ensures c.requires.0,
      root-lt c.args.hi w.result.root w.result.left (2 ^ 27) w.ensures c.requires.1,
      c.requires.2,
      w.ensures,
    )
