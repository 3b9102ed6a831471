-- Each dud breaks its clause: two clusters stand in one another, two circles in one cluster have no chain, a circle that counts as moved has no parent; the box of
-- one circle has its middle elsewhere, the first of two centres lies beyond the second, the second above the first. The numbers on both sides are computed.
use Prim.Native.Nat.{ℕ, ◌*◌, ◌≤◌, ◌<◌}
use native.Mathlib.Nat.{not-le_of_lt, le_of_eq}
use native.Mathlib.Omega.{arith}
use native.Mathlib.Decide.{dec_lt}
use mathlib.Core.Path.{◌≡◌, refl, sym, subst}
use mathlib.Core.Logic.{◌⊎◌, inl, inr, ⊎_elim}
use mathlib.Core.List.Memᴰ
use mathlib.Core.List.{List}
use mathlib.Core.Option.{IsSome}
use lib.Dec.{T, ltb, lit<}
use lib.Ieee.{Float}
use Rattle.algebra.specs.Integer.{Z, nat, Within, ◌⊕◌, ◌⊗◌, ◌≼◌, ◌≺◌}
use Rattle.rounding.specs.Value.{val, mag, negative}
use Rattle.rounding.specs.Scale.{pow2}
use Rattle.shapes.specs.declared.point.Point.{Point}
use Rattle.shapes.specs.declared.circle.Circle.{Circle}
use Rattle.scope.specs.Computing.{computing}
use Rattle.scope.specs.Links.{circle}
use Rattle.scope.specs.Layout.{Result}
use Rattle.scope.specs.Promises.{units, lower, upper, gap_on, larger, Each, number_of, Centred, NotPast}
use Rattle.laws.proofs.FirstTwo.{first_two_of}
use Rattle.promises.specs.Duds.{Duds}

past : {m n : ℕ} → T (ltb n m) → m ≤ n → ⊥
past t h = not-le_of_lt (lit< t) h

differ : {m n : ℕ} → T (ltb m n) → m ≡ n → ⊥
differ t e = past t (le_of_eq (sym e))

-- on neither axis
neither : {a b c d : ℕ} → T (ltb b a) → T (ltb d c) → (a ≤ b) ⊎ (c ≤ d) → ⊥
neither x y h = ⊎_elim (past x) (past y) h

-- ---- of one circle: its own ends are those of the box
off-middle : {t : ℕ} {axis : Point → Float} {cs : List Circle} → nat (2 * t) ≺ lower axis (circle cs 0) ⊕ upper axis (circle cs 0) → Centred t axis 1 cs → ⊥
off-middle {t} {axis} {cs} far h =
    let k = h.box.lo_taken in
    let e : k.0 ≡ 0 = omega (arith, k.1) in
    go (lower axis (circle cs 0)) (upper axis (circle cs 0)) h.box.lo h.box.hi (rw e at k.2) (h.box.hi_bounds 0 (lit< tt)) h.near far
  where
    go : (l u lo hi : Z) → l ≼ lo → u ≼ hi → Within (lo ⊕ hi) (2 * t) → nat (2 * t) ≺ l ⊕ u → ⊥
    go l u lo hi a b w far = omega arith

-- ---- of two circles in one cluster: its range goes from one to the other
far_side : {t : ℕ} {axis : Point → Float} {result : Result} {cs : List Circle} → number_of result 1 ≡ number_of result 0
    → units (axis (circle cs 1).center) ⊕ nat (2 * t) ≺ units (axis (circle cs 0).center) → NotPast t axis 2 result cs 0 → ⊥
far_side {t} {axis} {result} {cs} same beyond h =
    let k = h.range.hi_taken in
    go (units (axis (circle cs 0).center)) (units (axis (circle cs 1).center)) h.range.lo h.range.hi (h.range.lo_bounds 1 (lit< tt, same)) (upper_end k.0 k.1.0 k.2) h.not_past beyond
  where
    upper_end : (k : ℕ) → k < 2 → h.range.hi ≼ units (axis (circle cs k).center) → (h.range.hi ≼ units (axis (circle cs 0).center)) ⊎ (h.range.hi ≼ units (axis (circle cs 1).center))
    upper_end k l m = elim (dec_lt k 1) [ yes z ↦ let e : k ≡ 0 = omega arith in inl (rw e at m) | no z ↦ let e : k ≡ 1 = omega arith in inr (rw e at m) ]

    go : (a b lo hi : Z) → lo ≼ b → (hi ≼ a) ⊎ (hi ≼ b) → nat 2 ⊗ a ≼ lo ⊕ hi ⊕ nat (2 * t) → b ⊕ nat (2 * t) ≺ a → ⊥
    go a b lo hi l (inl u) h far = omega arith
    go a b lo hi l (inr u) h far = omega arith

pub duds_break_promises : Duds
unfolding computing val mag negative pow2 gap_on larger Each
duds_break_promises =
    record {
      untouched = record { accepted = refl; broken = λ p. neither tt tt (p.gap 0 1 (lit< tt) (lit< tt) (λ e. differ tt e)) };
      one_cluster = λ returned. record {
        accepted = refl;
        broken = λ p. ⊎_elim (λ e. differ tt e) (λ c. Memᴰ.not-nil c.good.0.0) ((p.chain 0 1 (lit< tt) (lit< tt)).0 refl);
      };
      all_moved = λ returned. record { accepted = refl; broken = λ p. subst IsSome (sym (p.reach 0 (lit< tt) tt).1) tt };
      first-packed = λ first. record { accepted = refl; broken = λ p. neither tt tt (p.gap 1 2 (lit< tt) (lit< tt) (λ e. differ tt e)) };
      not_centred = record { accepted = refl; broken = λ p. off-middle (lit< tt) (p.middle (lit< tt)).0 };
      other_side = λ y z. record { accepted = refl; broken = λ p. far_side refl (lit< tt) (p.first 0 1 (first_two_of 2 (lit< tt) _ refl)).0 };
      turned_on = λ x z. record { accepted = refl; broken = λ p. past tt (p.level 0 1 (first_two_of 2 (lit< tt) _ refl)).above };
    }
