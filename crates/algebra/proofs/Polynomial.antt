-- Polynomials over natural coefficients as data: monomials in order, each so many times. Nothing here has a meaning yet; `Ring` gives it one.
-- Two polynomials are compared by a Bool test, which is computed and not unified.
use mathlib.Core.Path.{◌≡◌, refl, ap₂}
use mathlib.Core.List.{List, [], ◌∷◌}
use mathlib.Core.Bool.{Bool, true, false, ◌&&◌}
use Prim.Native.Nat.{ℕ, zero, suc, ◌+◌, ◌*◌, compare, Ordering}
use lib.Dec.{T, compare_is_eq, eqb, eqb→eq}
use lib.Ieee.Fits.{and_l, and_r}

-- ---- a monomial: the exponents of the atoms in their order
abbrev pub times : List ℕ → List ℕ → List ℕ
times [] n = n
times (e ∷ m) [] = e ∷ m
times (e ∷ m) (d ∷ n) = (e + d) ∷ times m n

abbrev pub atom : ℕ → List ℕ
atom zero = 1 ∷ []
atom (suc i) = 0 ∷ atom i

abbrev pub order : List ℕ → List ℕ → Ordering
order [] [] = Ordering.eq
order [] (d ∷ n) = Ordering.lt
order (e ∷ m) [] = Ordering.gt
order (e ∷ m) (d ∷ n) = let r = order m n in elim (compare e d) [ Ordering.lt ↦ Ordering.lt | Ordering.eq ↦ r | Ordering.gt ↦ Ordering.gt ]

pub order_eq : (m n : List ℕ) → T (compare_is_eq (order m n)) → m ≡ n
order_eq [] [] t = refl
order_eq [] (d ∷ n) t = absurd t
order_eq (e ∷ m) [] t = absurd t
order_eq (e ∷ m) (d ∷ n) t = go (compare e d) (eqb→eq e d) (order_eq m n) t
  where
    go : (o : Ordering) → (T (compare_is_eq o) → e ≡ d) → (T (compare_is_eq (order m n)) → m ≡ n)
        → T (compare_is_eq (elim o as (λ _. Ordering) [ Ordering.lt ↦ Ordering.lt | Ordering.eq ↦ order m n | Ordering.gt ↦ Ordering.gt ])) → e ∷ m ≡ d ∷ n
    go Ordering.lt h ih u = absurd u
    go Ordering.eq h ih u = ap₂ ◌∷◌ (h tt) (ih u)
    go Ordering.gt h ih u = absurd u

-- ---- a polynomial
pub data Poly : Type 0 where
  nil : Poly
  term : ℕ → List ℕ → Poly → Poly

abbrev pub place : Ordering → ℕ → List ℕ → ℕ → List ℕ → Poly → Poly → Poly
place Ordering.lt c m d n q r = term c m (term d n q)
place Ordering.eq c m d n q r = term (c + d) n q
place Ordering.gt c m d n q r = term d n r

abbrev pub insert : ℕ → List ℕ → Poly → Poly
insert c m nil = term c m nil
insert c m (term d n q) = let r = insert c m q in place (order m n) c m d n q r

abbrev pub plus : Poly → Poly → Poly
plus nil q = q
plus (term c m p) q = insert c m (plus p q)

abbrev pub scale : ℕ → List ℕ → Poly → Poly
scale c m nil = nil
scale c m (term d n q) = term (c * d) (times m n) (scale c m q)

abbrev pub product : Poly → Poly → Poly
product nil q = nil
product (term c m p) q = plus (scale c m q) (product p q)

-- ---- the test
abbrev pub same_mono : List ℕ → List ℕ → Bool
same_mono [] [] = true
same_mono [] (d ∷ n) = false
same_mono (e ∷ m) [] = false
same_mono (e ∷ m) (d ∷ n) = let r = same_mono m n in eqb e d && r

abbrev pub same : Poly → Poly → Bool
same nil nil = true
same nil (term d n q) = false
same (term c m p) nil = false
same (term c m p) (term d n q) = let r = same p q in eqb c d && same_mono m n && r

same_mono_is : (m n : List ℕ) → T (same_mono m n) → m ≡ n
same_mono_is [] [] t = refl
same_mono_is [] (d ∷ n) t = absurd t
same_mono_is (e ∷ m) [] t = absurd t
same_mono_is (e ∷ m) (d ∷ n) t = ap₂ ◌∷◌ (eqb→eq e d (and_l (eqb e d) (same_mono m n) t)) (same_mono_is m n (and_r (eqb e d) (same_mono m n) t))

pub same_is : (p q : Poly) → T (same p q) → p ≡ q
same_is nil nil t = refl
same_is nil (term d n q) t = absurd t
same_is (term c m p) nil t = absurd t
same_is (term c m p) (term d n q) t =
    let a = and_l (eqb c d && same_mono m n) (same p q) t in
    let x = eqb→eq c d (and_l (eqb c d) (same_mono m n) a) in
    let y = same_mono_is m n (and_r (eqb c d) (same_mono m n) a) in
    let z = same_is p q (and_r (eqb c d && same_mono m n) (same p q) t) in
    λ i. term (x i) (y i) (z i)
