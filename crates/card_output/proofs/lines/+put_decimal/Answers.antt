-- `put_decimal` meets its contract: the last digit alone, or behind the digits before it.
use native.Mathlib.Omega.{arith}
use Rattle.laws.proofs.Decimal.{decimal-one, decimal_more, decimal_one_length, decimal_more_length}
use Rattle.card_output.proofs.Putting.{put_only, put_last}
use Rattle.card_output.proofs.lines.+put_decimal.Goals as goal

pub put_byte-requires : goal.put_byte-requires
put_byte-requires t c = omega (arith, c.requires, decimal_one_length c.args.n c.if-n-lt10.true)

pub returns-then-n-lt10 : goal.returns-then-n-lt10
returns-then-n-lt10 t c = put_only (decimal-one c.args.n c.if-n-lt10.true) c.decimal_digit-digit.ensures c.put_byte.ensures

pub put_decimal-next-requires : goal.put_decimal-next-requires
put_decimal-next-requires t c = (omega (arith, c.decreases, c.if-n-lt10.false), omega (arith, c.requires, decimal_more_length c.args.n c.if-n-lt10.false))

pub put_byte-requires-2 : goal.put_byte-requires-2
put_byte-requires-2 t c = omega (arith, c.requires, decimal_more_length c.args.n c.if-n-lt10.false, c.put_decimal-next.ensures.place)

pub returns : goal.returns
returns t c = put_last (decimal_more c.args.n c.if-n-lt10.false) c.decimal_digit-digit.ensures c.put_decimal-next.ensures c.put_byte-2.ensures
