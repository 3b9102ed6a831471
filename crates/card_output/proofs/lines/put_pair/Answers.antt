-- `put_pair` meets its contract.
use native.Mathlib.Omega.{arith}
use Rattle.scope.specs.Text.{bytes}
use Rattle.laws.proofs.Decimal.{decimal_one_length, decimal-length}
use Rattle.card_output.proofs.Putting.{put_both}
use Rattle.card_output.proofs.lines.put_pair.Goals as goal

pub put_decimal-first-requires : goal.put_decimal-first-requires
put_decimal-first-requires c = omega (arith, decimal-length 1 c.args.a c.requires.0)

pub put_byte-space-requires : goal.put_byte-space-requires
put_byte-space-requires c =
    omega (arith, decimal-length 1 c.args.a c.requires.0, c.put_decimal-first.ensures.place)

pub put_decimal-requires : goal.put_decimal-requires
put_decimal-requires c =
    omega (
      arith,
      decimal-length 1 c.args.a c.requires.0,
      decimal-length 1 c.args.b (omega arith),
      c.put_decimal-first.ensures.place,
      c.put_byte-space.ensures.place,
    )

pub returns : goal.returns
unfolding bytes
returns c =
    let first = c.put_decimal-first.ensures in
    let space = c.put_byte-space.ensures in
    let second = c.put_decimal.ensures in (
      put_both (put_both first space) second,
      omega (arith, decimal-length 1 c.args.a c.requires.0, decimal-length 1 c.args.b (omega arith), first.place, space.place, second.place),
      λ h. omega (arith, decimal_one_length c.args.a h, decimal_one_length c.args.b (omega arith), first.place, space.place, second.place),
    )
