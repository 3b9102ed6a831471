-- `put_decimal` ends by a measure of the number itself.
use Rattle.card_output.proofs.lines.+put_decimal.Given as goal

abbrev pub decreases-put_decimal : goal.decreases-put_decimal
decreases-put_decimal l = l.n
