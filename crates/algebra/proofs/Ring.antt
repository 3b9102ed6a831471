-- Identities between sums, differences and products of whole numbers, by computation: an expression as data, its normal form as a pair of polynomials (the one
-- less the other), and the theorem that the normal form has the expression's value. `ring ρ a b tt : meaning ρ a ≈ meaning ρ b` wherever the normal forms agree.
use mathlib.Core.Path.{◌≡◌, refl, sym, ap, subst}
use mathlib.Core.List.{List, [], ◌∷◌}
use Prim.Native.Nat.{ℕ, zero, suc, ◌+◌, ◌*◌, Ordering}
use native.Mathlib.Nat.{zero-add, suc-add}
use native.Mathlib.Omega.{arith}
use lib.Dec.{T, compare_is_eq}
use Rattle.algebra.specs.Integer.{Z, ◌⊕◌, ◌⊖◌, ◌⊗◌, ◌≈◌, nat}
use Rattle.algebra.proofs.Polynomial.{Poly, nil, term, times, atom, order, order_eq, place, insert, plus, scale, product, same, same_is}

infixl 6 ◌:+◌
infixl 6 ◌:-◌
infixl 7 ◌:*◌
-- `var i` is the i-th of a list of whole numbers
pub data Expression : Type 0 where
  var : ℕ → Expression
  lit : ℕ → Expression
  ◌:+◌ : Expression → Expression → Expression
  ◌:-◌ : Expression → Expression → Expression
  ◌:*◌ : Expression → Expression → Expression

abbrev pub nth : List Z → ℕ → Z
nth [] i = nat 1
nth (r ∷ ρ) zero = r
nth (r ∷ ρ) (suc i) = nth ρ i

abbrev pub meaning : List Z → Expression → Z
meaning ρ (var i) = nth ρ i
meaning ρ (lit c) = nat c
meaning ρ (a :+ b) = meaning ρ a ⊕ meaning ρ b
meaning ρ (a :- b) = meaning ρ a ⊖ meaning ρ b
meaning ρ (a :* b) = meaning ρ a ⊗ meaning ρ b

-- ---- the value of a polynomial
power : Z → ℕ → Z
power z zero = nat 1
power z (suc k) = z ⊗ power z k

mono : List Z → List ℕ → Z
mono ρ [] = nat 1
mono [] (e ∷ m) = nat 1
mono (r ∷ ρ) (e ∷ m) = power r e ⊗ mono ρ m

value : List Z → Poly → Z
value ρ nil = nat 0
value ρ (term c m p) = nat c ⊗ mono ρ m ⊕ value ρ p

-- ---- laws of ≈, with all whole numbers as variables
trans : (a b c : Z) → a ≈ b → b ≈ c → a ≈ c
trans a b c h k = omega arith

one_left : (x : Z) → x ≈ nat 1 ⊗ x
one_left x = omega arith

one_right : (x : Z) → x ≈ x ⊗ nat 1
one_right x = omega arith

mul_assoc : (r x y xy : Z) → xy ≈ x ⊗ y → r ⊗ xy ≈ (r ⊗ x) ⊗ y
mul_assoc r x y xy h = omega (arith, ap (λ (z : ℕ). r.p * z) h, ap (λ (z : ℕ). r.n * z) h)

mul_cong : (a a' b b' : Z) → a ≈ a' → b ≈ b' → a ⊗ b ≈ a' ⊗ b'
mul_cong a a' b b' h k = omega (arith, ap (λ (z : ℕ). z * b.p) h, ap (λ (z : ℕ). z * b.n) h, ap (λ (z : ℕ). a'.p * z) k, ap (λ (z : ℕ). a'.n * z) k)

mul_swap : (a b c d : Z) → (a ⊗ b) ⊗ (c ⊗ d) ≈ (a ⊗ c) ⊗ (b ⊗ d)
mul_swap a b c d = omega arith

-- ---- each operation on polynomials has the value of the operation on whole numbers
power_add : (r : Z) (e d : ℕ) → power r (e + d) ≈ power r e ⊗ power r d
unfolding power
power_add r zero d = subst (λ (k : ℕ). power r k ≈ nat 1 ⊗ power r d) (sym (zero-add d)) (one_left (power r d))
power_add r (suc e) d = subst (λ (k : ℕ). power r k ≈ (r ⊗ power r e) ⊗ power r d) (sym (suc-add e d)) (mul_assoc r (power r e) (power r d) (power r (e + d)) (power_add r e d))

times_is : (ρ : List Z) (m n : List ℕ) → mono ρ (times m n) ≈ mono ρ m ⊗ mono ρ n
unfolding mono
times_is ρ [] n = one_left (mono ρ n)
times_is ρ (e ∷ m) [] = one_right (mono ρ (e ∷ m))
times_is [] (e ∷ m) (d ∷ n) = refl
times_is (r ∷ ρ) (e ∷ m) (d ∷ n) =
    trans (power r (e + d) ⊗ mono ρ (times m n)) ((power r e ⊗ power r d) ⊗ (mono ρ m ⊗ mono ρ n)) ((power r e ⊗ mono ρ m) ⊗ (power r d ⊗ mono ρ n))
    (mul_cong (power r (e + d)) (power r e ⊗ power r d) (mono ρ (times m n)) (mono ρ m ⊗ mono ρ n) (power_add r e d) (times_is ρ m n))
    (mul_swap (power r e) (power r d) (mono ρ m) (mono ρ n))

atom_is : (ρ : List Z) (i : ℕ) → mono ρ (atom i) ≈ nth ρ i
unfolding mono power
atom_is [] zero = refl
atom_is [] (suc i) = refl
atom_is (r ∷ ρ) zero = omega arith
atom_is (r ∷ ρ) (suc i) = let h = atom_is ρ i in omega arith

place_is : (ρ : List Z) (o : Ordering) (c : ℕ) (m : List ℕ) (d : ℕ) (n : List ℕ) (q r : Poly) → (T (compare_is_eq o) → m ≡ n) → value ρ r ≈ nat c ⊗ mono ρ m ⊕ value ρ q
    → value ρ (place o c m d n q r) ≈ nat c ⊗ mono ρ m ⊕ (nat d ⊗ mono ρ n ⊕ value ρ q)
unfolding value
place_is ρ Ordering.lt c m d n q r h ih = refl
place_is ρ Ordering.eq c m d n q r h ih = rw (h tt) (omega arith)
place_is ρ Ordering.gt c m d n q r h ih = omega arith

insert_is : (ρ : List Z) (c : ℕ) (m : List ℕ) (q : Poly) → value ρ (insert c m q) ≈ nat c ⊗ mono ρ m ⊕ value ρ q
unfolding value
insert_is ρ c m nil = refl
insert_is ρ c m (term d n q) = place_is ρ (order m n) c m d n q (insert c m q) (order_eq m n) (insert_is ρ c m q)

plus_is : (ρ : List Z) (p q : Poly) → value ρ (plus p q) ≈ value ρ p ⊕ value ρ q
unfolding value
plus_is ρ nil q = omega arith
plus_is ρ (term c m p) q = let h = plus_is ρ p q in let g = insert_is ρ c m (plus p q) in omega arith

scale_step : (c d : ℕ) (M N MN Q S : Z) → MN ≈ M ⊗ N → S ≈ (nat c ⊗ M) ⊗ Q → nat (c * d) ⊗ MN ⊕ S ≈ (nat c ⊗ M) ⊗ (nat d ⊗ N ⊕ Q)
scale_step c d M N MN Q S h k = omega (arith, ap (λ (z : ℕ). c * d * z) h)

scale_is : (ρ : List Z) (c : ℕ) (m : List ℕ) (q : Poly) → value ρ (scale c m q) ≈ (nat c ⊗ mono ρ m) ⊗ value ρ q
unfolding value
scale_is ρ c m nil = omega arith
scale_is ρ c m (term d n q) = scale_step c d (mono ρ m) (mono ρ n) (mono ρ (times m n)) (value ρ q) (value ρ (scale c m q)) (times_is ρ m n) (scale_is ρ c m q)

product_is : (ρ : List Z) (p q : Poly) → value ρ (product p q) ≈ value ρ p ⊗ value ρ q
unfolding value
product_is ρ nil q = omega arith
product_is ρ (term c m p) q = let a = plus_is ρ (scale c m q) (product p q) in let b = scale_is ρ c m q in let d = product_is ρ p q in omega arith

-- ---- the normal form of an expression
abbrev pub normal : Expression → Poly × Poly
normal (var i) = (term 1 (atom i) nil, nil)
normal (lit c) = (term c [] nil, nil)
normal (a :+ b) = let u = normal a in let v = normal b in (plus u.0 v.0, plus u.1 v.1)
normal (a :- b) = let u = normal a in let v = normal b in (plus u.0 v.1, plus u.1 v.0)
normal (a :* b) = let u = normal a in let v = normal b in (plus (product u.0 v.0) (product u.1 v.1), plus (product u.0 v.1) (product u.1 v.0))

difference : List Z → Poly × Poly → Z
difference ρ u = value ρ u.0 ⊖ value ρ u.1

mul_difference : (A B a0 a1 b0 b1 : Z) → A ≈ a0 ⊖ a1 → B ≈ b0 ⊖ b1 → A ⊗ B ≈ (a0 ⊗ b0 ⊕ a1 ⊗ b1) ⊖ (a0 ⊗ b1 ⊕ a1 ⊗ b0)
mul_difference A B a0 a1 b0 b1 h k = trans (A ⊗ B) ((a0 ⊖ a1) ⊗ (b0 ⊖ b1)) ((a0 ⊗ b0 ⊕ a1 ⊗ b1) ⊖ (a0 ⊗ b1 ⊕ a1 ⊗ b0)) (mul_cong A (a0 ⊖ a1) B (b0 ⊖ b1) h k) (omega arith)

normal_is : (ρ : List Z) (a : Expression) → meaning ρ a ≈ difference ρ (normal a)
unfolding value difference mono
normal_is ρ (var i) = let h = atom_is ρ i in omega arith
normal_is ρ (lit c) = omega arith
normal_is ρ (a :+ b) =
    let u = normal a in let v = normal b in
    omega (arith, normal_is ρ a, normal_is ρ b, plus_is ρ u.0 v.0, plus_is ρ u.1 v.1)
normal_is ρ (a :- b) =
    let u = normal a in let v = normal b in
    omega (arith, normal_is ρ a, normal_is ρ b, plus_is ρ u.0 v.1, plus_is ρ u.1 v.0)
normal_is ρ (a :* b) =
    let u = normal a in let v = normal b in
    let h = mul_difference (meaning ρ a) (meaning ρ b) (value ρ u.0) (value ρ u.1) (value ρ v.0) (value ρ v.1) (normal_is ρ a) (normal_is ρ b) in
    omega (
      arith,
      h,
      plus_is ρ (product u.0 v.0) (product u.1 v.1),
      plus_is ρ (product u.0 v.1) (product u.1 v.0),
      product_is ρ u.0 v.0,
      product_is ρ u.1 v.1,
      product_is ρ u.0 v.1,
      product_is ρ u.1 v.0,
    )

crossed : (ρ : List Z) (p q r s : Poly) → plus p s ≡ plus r q → value ρ p ⊖ value ρ q ≈ value ρ r ⊖ value ρ s
crossed ρ p q r s h =
    let e : value ρ (plus p s) ≡ value ρ (plus r q) = ap (value ρ) h in
    let a : (value ρ (plus p s)).p ≡ (value ρ (plus r q)).p = ap (λ (z : Z). z.p) e in
    let b : (value ρ (plus p s)).n ≡ (value ρ (plus r q)).n = ap (λ (z : Z). z.n) e in
    omega (arith, plus_is ρ p s, plus_is ρ r q)

pub ring : (ρ : List Z) (a b : Expression) → T (same (plus (normal a).0 (normal b).1) (plus (normal b).0 (normal a).1)) → meaning ρ a ≈ meaning ρ b
unfolding difference
ring ρ a b h =
    omega (arith, normal_is ρ a, normal_is ρ b, crossed ρ (normal a).0 (normal a).1 (normal b).0 (normal b).1 (same_is (plus (normal a).0 (normal b).1) (plus (normal b).0 (normal a).1) h))
