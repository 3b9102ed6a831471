-- `put_sixteen` meets its contract: with k digits to come, those before them are put.
use native.Mathlib.Omega.{arith}
use mathlib.Core.Path.{◌≡◌, sym, ap, ◌∙◌}
use Rattle.card_output.proofs.Putting.{put_none, put_equal, put_last}
use Prim.Native.Nat.{◌-◌}
use Rattle.card_output.proofs.Digits.{first_digits, no_digits, next_digit_down, all_digits, digits_length}
use Rattle.card_output.proofs.lines.put_sixteen.Goals as goal

pub loop-k-init : goal.loop-k-init
loop-k-init c = put_equal (sym (no_digits c.args.n)) (put_none _ _)

pub put_byte-next-requires : goal.put_byte-next-requires
put_byte-next-requires c =
    let l = c.loop-k in
    omega (arith, l.invariant.place, digits_length c.args.n (16 - l.k))

pub loop-k-preserved : goal.loop-k-preserved
loop-k-preserved c =
    let l = c.loop-k in
    put_last (next_digit_down c.args.n l.k (omega arith) (omega arith)) c.digit_at.ensures l.invariant c.put_byte-next.ensures

pub returns : goal.returns
returns c =
    let l = c.loop-k in
    let n = c.args.n in
    let all : 16 - l.k ≡ 16 = omega arith in (
      put_equal (ap (first_digits n) all ∙ all_digits n) l.invariant,
      omega (arith, l.invariant.place, digits_length n (16 - l.k)),
    )
