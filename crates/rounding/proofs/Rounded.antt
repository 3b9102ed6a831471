-- One rounding, as every operation uses it. Each operation says once of which fraction its result is the rounding (`RoundOf`); what follows from that, near,
-- relative, exact and of which sign, is shown here for all of them.
use mathlib.Core.Path.{◌≡◌, refl, sym, ap, ◌∙◌, subst}
use Prim.Native.Nat.{ℕ, zero, suc, ◌+◌, ◌*◌, ◌^◌, ◌≤◌, ◌<◌}
use native.Mathlib.Nat.{mul-le-mul_right, le_of_mul-le-mul_right, eq_of_mul-eq-mul_right, pow-succ'}
use native.Mathlib.Omega.{arith}
use mathlib.Core.Bool.{Bool, true, false, cond}
use lib.Dec.{T, ltb}
use lib.Ieee.{Float, inf, Format, prec, emax, low, odd, units, round}
use lib.Ieee.Fits.{two, two-le_pos, round_is}
use lib.Ieee.Order.{drop, kept}
use lib.Ieee.Scale.{finite}
use Rattle.algebra.specs.Integer.{Z, nat, Within, Near, ◌⊕◌, ◌⊗◌, ◌≈◌}
use Rattle.rounding.specs.Value.{mag, signed, negative, val, Fin}
use Rattle.rounding.proofs.Value.{mag_of, val_of, fin_of, fin-finite}
use Rattle.rounding.proofs.Round.{rnd, rnd_near, rnd_relative, rnd_exact, round-units, round-finite, no_overflow}
use Rattle.rounding.proofs.Closest.{Half}

-- z is the rounding, with the sign s, of the fraction num / den, which is a / d units
pub record RoundOf (f : Format) (z : Float) (s : Bool) (a d : ℕ) : Type 0 where
  pub num : ℕ
  pub den : ℕ
  pub den_pos : 0 < den
  pub d-pos : 0 < d
  pub is : z ≡ round f s num den
  pub units : num * 2 ^ low f * d ≡ a * den

-- z is finite, within 2 ^ k / 2 units of the exact value v / d, and at most 2 ^ (prec + k) units in size
pub record Rounded (f : Format) (z : Float) (v : Z) (d k : ℕ) : Type 0 where
  pub fin : Fin f z
  pub near : Near ((val f z ⊕ val f z) ⊗ nat d) (v ⊕ v) (2 ^ k * d)
  pub within : Within (val f z) (2 ^ (prec f + k))

-- z is finite, and its size is a / d units but for one part in 2 ^ prec, or half of a unit
pub record Relative (f : Format) (z : Float) (a d : ℕ) : Type 0 where
  pub fin : Fin f z
  pub above : 2 * (2 ^ prec f * (mag f z * d)) ≤ 2 * (2 ^ prec f * a) + (2 * a + 2 ^ prec f * d)
  pub below : 2 * (2 ^ prec f * a) ≤ 2 * (2 ^ prec f * (mag f z * d)) + (2 * a + 2 ^ prec f * d)

-- z is q * 2 ^ j units in size, exactly
pub record Exact (f : Format) (z : Float) (s : Bool) (q j : ℕ) : Type 0 where
  pub fin : Fin f z
  pub value : val f z ≡ signed s (q * 2 ^ j)
  pub grid : mag f z ≡ q * 2 ^ j

-- the exact value may be written in any way
pub recast : {f : Format} {z : Float} {v w : Z} {d k : ℕ} → v ≈ w → Rounded f z v d k → Rounded f z w d k
recast {f} {z} {v} {w} {d} {k} h r = record { fin = r.fin; near = let x = r.near in omega arith; within = r.within }

-- with one place more to round at, the error is a whole number of units
pub whole_error : {f : Format} {z : Float} {v : Z} {d : ℕ} (j : ℕ) → Rounded f z v d (suc j) → Near (val f z ⊗ nat d) v (2 ^ j * d)
whole_error {f} {z} {v} {d} j r = halve (val f z) v d (2 ^ j) (2 ^ suc j) (pow-succ' 2 j) r.near
  where
    halve : (a v : Z) (d e k : ℕ) → k ≡ 2 * e → Near ((a ⊕ a) ⊗ nat d) (v ⊕ v) (k * d) → Near (a ⊗ nat d) v (e * d)
    halve a v d e k h r = omega (arith, ap (λ (z : ℕ). z * d) h)

signed-near : (s : Bool) (g a d e : ℕ) → Half (g * d) a e → Near ((signed s g ⊕ signed s g) ⊗ nat d) (signed s a ⊕ signed s a) e
signed-near false g a d e h = omega arith
signed-near true g a d e h = omega arith

pub signed-within : (s : Bool) (g b : ℕ) → g ≤ b → Within (signed s g) b
signed-within false g b h = omega arith
signed-within true g b h = omega arith

-- `round` keeps the sign that it is handed
odd_sign : (s : Bool) (d q k l : ℕ) → negative (odd d s q k l) ≡ s
unfolding odd negative
odd_sign s d zero k l = refl
odd_sign s d (suc q) k l = refl

pub sign_kept : (f : Format) (s : Bool) (num den : ℕ) → negative (round f s num den) ≡ s
unfolding units negative
sign_kept f s num den = ap negative (round_is f s num den) ∙ go (kept (prec f) (num * 2 ^ low f) den) (drop (prec f) (num * 2 ^ low f) den)
  where
    pick : (b : Bool) (q k : ℕ) → negative (cond b (odd (suc (prec f)) s q k (low f)) (inf s)) ≡ s
    pick true q k = odd_sign s (suc (prec f)) q k (low f)
    pick false q k = refl

    go : (q k : ℕ) → negative (units f s q k) ≡ s
    go q k = pick (ltb (q * 2 ^ k) (2 ^ (low f + suc (emax f)))) q k

module _ {f : Format} {z : Float} {s : Bool} {a d : ℕ} (r : RoundOf f z s a d) where
  -- finite below a bound, with an error of at most half a last place there
  pub round-near : (k : ℕ) → a ≤ 2 ^ (prec f + k) * d → prec f + k ≤ low f + emax f → Rounded f z (signed s a) d k
  round-near k h o =
      let den = r.den in
      let n = r.num * 2 ^ low f in
      let g = rnd (prec f) n den in
      let x : n ≤ 2 ^ (prec f + k) * den = le_of_mul-le-mul_right {k = d} (omega (arith, r.units, mul-le-mul_right den h)) r.d-pos in
      let w = rnd_near (prec f) n den k (two-le_pos (prec f) (two f)) r.den_pos x in
      let v = round-units f s r.num den (no_overflow f k g o w.0) in
      let e = sym (val_of f (round f s r.num den) s g v) in
      let half : Half (g * d) a (2 ^ k * d) = (
        le_of_mul-le-mul_right {k = den} (omega (arith, r.units, mul-le-mul_right d w.1.0)) r.den_pos,
        le_of_mul-le-mul_right {k = den} (omega (arith, r.units, mul-le-mul_right d w.1.1)) r.den_pos,
      ) in
      rw r.is
      (record {
        fin = fin_of f s s r.num den g (2 ^ low f) v;
        near = subst (λ (z : Z). Near ((z ⊕ z) ⊗ nat d) (signed s a ⊕ signed s a) (2 ^ k * d)) e (signed-near s g a d (2 ^ k * d) half);
        within = subst (λ (z : Z). Within z (2 ^ (prec f + k))) e (signed-within s g (2 ^ (prec f + k)) w.0);
      })

  -- no range asked: the result is finite
  pub round_relative : T (finite z) → Relative f z a d
  round_relative t =
      let den = r.den in
      let n = r.num * 2 ^ low f in
      let v = round-finite f s r.num den (subst (λ (z : Float). T (finite z)) r.is t) in
      let h = rnd_relative (prec f) n den (two-le_pos (prec f) (two f)) r.den_pos in
      let m = mag_of f (round f s r.num den) s (rnd (prec f) n den) v in
      let e = ap (λ (y : ℕ). y * 2 ^ prec f) r.units in
      rw r.is
      (record {
        fin = fin_of f s s r.num den (rnd (prec f) n den) (2 ^ low f) v;
        above = rw m (le_of_mul-le-mul_right {k = den} (omega (arith, mul-le-mul_right d h.0)) r.den_pos);
        below = rw m (le_of_mul-le-mul_right {k = den} (omega (arith, mul-le-mul_right d h.1)) r.den_pos);
      })

  -- below a bound it is
  pub round-below : (k : ℕ) → a ≤ 2 ^ (prec f + k) * d → prec f + k ≤ low f + emax f → Relative f z a d
  round-below k h o = round_relative (fin-finite f z (round-near k h o).fin)

  -- a fraction that is q * 2 ^ j units, q at most 2 ^ prec, is kept
  pub round_exact : (q j : ℕ) → a ≡ q * 2 ^ j * d → q ≤ 2 ^ prec f → q * 2 ^ j < 2 ^ (low f + suc (emax f)) → Exact f z s q j
  round_exact q j A Q o =
      let den = r.den in
      let n = r.num * 2 ^ low f in
      let N : n ≡ q * 2 ^ j * den = eq_of_mul-eq-mul_right d r.d-pos n (q * 2 ^ j * den) (r.units ∙ ap (λ (z : ℕ). z * den) A ∙ swap (q * 2 ^ j) d den) in
      let x : rnd (prec f) n den ≡ q * 2 ^ j = rnd_exact (prec f) n den q j (two-le_pos (prec f) (two f)) r.den_pos Q N in
      let v = round-units f s r.num den (subst (λ (t : ℕ). t < 2 ^ (low f + suc (emax f))) (sym x) o) in
      rw r.is
      (record {
        fin = fin_of f s s r.num den (rnd (prec f) n den) (2 ^ low f) v;
        value = val_of f (round f s r.num den) s (rnd (prec f) n den) v ∙ ap (signed s) x;
        grid = mag_of f (round f s r.num den) s (rnd (prec f) n den) v ∙ x;
      })
    where
      swap : (a b c : ℕ) → a * b * c ≡ a * c * b
      swap a b c = omega arith

  pub round-sign : negative z ≡ s
  round-sign = ap negative r.is ∙ sign_kept f s r.num r.den
