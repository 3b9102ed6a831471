-- Two finite values of a format that have the same sign and the same size are equal as data: an odd number times a power of two is so in one way.
use mathlib.Core.Path.{◌≡◌, refl, sym, ap, ◌∙◌}
use Prim.Native.Nat.{ℕ, zero, suc, ◌*◌, ◌%◌, ◌^◌, ◌≤◌}
use native.Mathlib.Nat.{mul-pos, zero-lt-suc, pow-succ'}
use native.Mathlib.Omega.{arith}
use mathlib.Core.Bool.{Bool}
use lib.IntN.{ℤ, pos, negsuc}
use lib.Dec.{T}
use lib.Pow.{pow_pos}
use lib.Ieee.{Float, nan, inf, fin, Format, low, up, down, fits}
use Rattle.rounding.specs.Value.{mag, negative, Fin}
use Rattle.rounding.proofs.Value.{pow_le, fits-odd, fits-zero, fits-down, place, mag_is}

place_inj : (l : ℕ) (e d : ℤ) → down e ≤ 2 ^ l → down d ≤ 2 ^ l → place l e ≡ place l d → e ≡ d
unfolding place
place_inj l (pos k) (pos j) h g q = ap pos (omega arith)
place_inj l (pos k) (negsuc j) h g q = let x = pow_le (suc j) l g in absurd (omega arith)
place_inj l (negsuc k) (pos j) h g q = let x = pow_le (suc k) l h in absurd (omega arith)
place_inj l (negsuc k) (negsuc j) h g q = let x = pow_le (suc k) l h in let y = pow_le (suc j) l g in ap negsuc (omega arith)

even_odd : (m t : ℕ) → m % 2 ≡ 1 → m ≡ 2 * t → ⊥
even_odd m t o h = omega arith

odd_pow : (m n a b : ℕ) → m % 2 ≡ 1 → n % 2 ≡ 1 → m * 2 ^ a ≡ n * 2 ^ b → (m ≡ n) × (a ≡ b)
odd_pow m n zero zero o p h = (omega arith, refl)
odd_pow m n zero (suc b) o p h = let g = rw pow-succ' at h in absurd (even_odd m (n * 2 ^ b) o (omega arith))
odd_pow m n (suc a) zero o p h = let g = rw pow-succ' at h in absurd (even_odd n (m * 2 ^ a) p (omega arith))
odd_pow m n (suc a) (suc b) o p h =
    let g = rw (pow-succ' 2 a, pow-succ' 2 b) at h in
    let r = odd_pow m n a b o p (omega arith) in
    (r.0, ap suc r.1)

-- zero is written with the exponent 0
flat : (e : ℤ) → up e * down e ≡ 1 → e ≡ pos 0
flat (pos zero) h = refl
flat (pos (suc k)) h = let g = rw pow-succ' at h in absurd (omega (arith, pow_pos k))
flat (negsuc k) h = let g = rw pow-succ' at h in absurd (omega (arith, pow_pos k))

zero_exponent : (f : Format) (s : Bool) (e : ℤ) → T (fits f (fin s zero e)) → e ≡ pos 0
zero_exponent f s e t = flat e (fits-zero f s e t)

clash : (m a b : ℕ) → zero * 2 ^ b ≡ suc m * 2 ^ a → ⊥
clash m a b h = omega (arith, mul-pos (zero-lt-suc m) (pow_pos a))

pub val_unique : (f : Format) (x y : Float) → Fin f x → Fin f y → negative x ≡ negative y → mag f x ≡ mag f y → x ≡ y
unfolding Fin negative
val_unique f nan y p q s h = absurd p
val_unique f (inf t) y p q s h = absurd p
val_unique f (fin t m e) nan p q s h = absurd q
val_unique f (fin t m e) (inf u) p q s h = absurd q
val_unique f (fin t zero e) (fin u zero d) p q s h = λ i. fin (s i) zero ((zero_exponent f t e p ∙ sym (zero_exponent f u d q)) i)
val_unique f (fin t zero e) (fin u (suc n) d) p q s h = absurd (clash n (place (low f) d) (place (low f) e) (sym (mag_is f t zero e p) ∙ h ∙ mag_is f u (suc n) d q))
val_unique f (fin t (suc m) e) (fin u zero d) p q s h = absurd (clash m (place (low f) e) (place (low f) d) (sym (mag_is f u zero d q) ∙ sym h ∙ mag_is f t (suc m) e p))
val_unique f (fin t (suc m) e) (fin u (suc n) d) p q s h =
    let r = odd_pow (suc m) (suc n) (place (low f) e) (place (low f) d) (fits-odd f t m e p) (fits-odd f u n d q) (sym (mag_is f t (suc m) e p) ∙ h ∙ mag_is f u (suc n) d q) in
    λ i. fin (s i) (r.0 i) (place_inj (low f) e d (fits-down f t (suc m) e p) (fits-down f u (suc n) d q) r.1 i)
