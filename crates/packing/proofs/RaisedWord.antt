-- The cases of `raised`: below 2^53 the comparison with the whole part tells whether there is a fraction, and from there on there is none.
-- Where the raised number is a word, it is the one that comes back.
use Rattle.std.proofs.Common.{◌≡◌, ℕ, ◌+◌, ◌-◌, ◌*◌, ◌^◌, ◌<◌, true, false, T, pos, sym, ◌∙◌, arith, lt→ltb}
use lib.Ieee.{Float, nan, inf, fin, binary64, up, down, lt, fits, of_int, to_unsigned}
use lib.Ieee.Fits.{down_pos}
use Rattle.algebra.specs.Integer.{nat, ◌≼◌}
use Rattle.rounding.specs.Value.{Fin}
use Rattle.rounding.proofs.Value.{fin_both}
use Rattle.rounding.proofs.Order.{lt_is}
use Rattle.scope.specs.Numbers.{◌<ᶠ◌, ◌≤ᶠ◌, nought, whole, raised}
use Rattle.scope.specs.Limits.{within}
use Rattle.scope.specs.Promises.{units}
use Rattle.laws.proofs.Cases.{and_iff}
use Rattle.promises.proofs.numbers.Bounded.{nought_upto}
use Rattle.promises.proofs.packing.Raised.{below_raised, raised_not_above, above_nought_finite, raised_of_none, raised_of_infinite, raised_up_to_power, raised_from_power, whole_part_below_power, raised_from_whole_part, raised_up_to_next, raised_is_whole_part}
use Rattle.packing.specs.Raised.{raised_word}

-- ---- for callers: where the raised number is a word, as that of any number from 0 to 2^53 is
pub raised_word_is : (x : Float) → raised x < 2 ^ 64 → raised_word x ≡ raised x
raised_word_is x h = omega arith

pub raised_is_word : (x : Float) → T (within nought (whole (2 ^ 53)) x) → raised x < 2 ^ 64
unfolding within of_int
raised_is_word x t = let few = raised_up_to_power 53 x ((and_iff (nought ≤ᶠ x) (x ≤ᶠ whole (2 ^ 53))).0 t).1 in omega arith

-- ---- what is above 0 is above -1
pub above_minus_one : (x : Float) → T (nought <ᶠ x) → T (fin true 1 (pos 0) <ᶠ x)
unfolding lt
above_minus_one nan h = absurd h
above_minus_one (inf true) h = absurd h
above_minus_one (inf false) h = tt
above_minus_one (fin true m e) h = absurd h
above_minus_one (fin false m e) h = lt→ltb 0 (1 * 1 * down e + m * up e * 1) (omega (arith, down_pos e))

-- ---- t is the whole part of an x from 0 to 2^64
pub record IsCut (x : Float) (t : ℕ) : Type 0 where
  pub held : T (fits binary64 x)
  pub above : T (nought <ᶠ x)
  pub below : T (x <ᶠ fin false 1 (pos 64))
  pub is : t ≡ to_unsigned 64 x

module _ (x : Float) (t : ℕ) (cut : IsCut x t) where
  finite-float : Fin binary64 x
  finite-float = fin_both binary64 x (above_nought_finite x (fin false 1 (pos 64)) cut.above cut.below) cut.held

  -- below 2^53, where t is a float
  module _ (small : T (x <ᶠ fin false 1 (pos 53))) where
    pub whole_part_small : t < 2 ^ 53
    whole_part_small = omega (arith, whole_part_below_power 53 64 x small)

    pub next_is_raised : T (whole t <ᶠ x) → t + 1 ≡ raised_word x
    next_is_raised h = omega (arith, whole_part_small, raised_up_to_next 64 x cut.below, below_raised x finite-float t (omega (arith, whole_part_small)) h)

    pub whole_part_is_raised : ¬ T (whole t <ᶠ x) → t ≡ raised_word x
    whole_part_is_raised h = omega (arith, whole_part_small, raised_from_whole_part 64 x cut.below, raised_not_above x finite-float t (omega (arith, whole_part_small)) not_negative h)
      where
        not_negative : nat 0 ≼ units x
        not_negative = let z = nought_upto 0 in omega (arith, z.within, (lt_is binary64 nought x z.fin finite-float).0 cut.above)

  pub large_is_raised : ¬ T (x <ᶠ fin false 1 (pos 53)) → t ≡ raised_word x
  large_is_raised h = cut.is ∙ sym (raised_is_whole_part 64 x finite-float h)

-- ---- past 2^64
pub largest_is_raised : (x : Float) → T (nought <ᶠ x) → ¬ T (x <ᶠ fin false 1 (pos 64)) → T (x <ᶠ inf false) → 2 ^ 64 - 1 ≡ raised_word x
largest_is_raised x above h k = omega (arith, raised_from_power 64 x above (above_nought_finite x (inf false) above k) h)

-- ---- and what gives 0
pub none_is_raised : (x : Float) → ¬ T (nought <ᶠ x) → 0 ≡ raised_word x
none_is_raised x h = omega (arith, raised_of_none x h)

pub infinite_is_raised : (x : Float) → ¬ T (x <ᶠ inf false) → 0 ≡ raised_word x
infinite_is_raised x h = omega (arith, raised_of_infinite x h)
