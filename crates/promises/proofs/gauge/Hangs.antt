-- How a cluster hangs: on each axis its first centre is not past the middle of the centres, and its second is level with the first. The mirror sees to the one
-- and keeps the other, and so does what shifts all centres alike.
use mathlib.Core.Path.{◌≡◌, refl}
use mathlib.Core.Logic.{inl, inr}
use mathlib.Core.Bool.{Bool, true, false, cond}
use Prim.Native.Nat.{ℕ, ◌+◌, ◌*◌, ◌<◌}
use native.Mathlib.Omega.{arith}
use lib.Dec.{T}
use lib.Ieee.{Float, inf, binary64}
use Rattle.algebra.specs.Integer.{Z, nat, Within, Near, ◌⊕◌, ◌⊖◌, ◌⊗◌, ◌≼◌, ◌≺◌}
use Rattle.algebra.proofs.Size.{either}
use Rattle.rounding.specs.Scale.{pow2}
use Rattle.rounding.specs.Extremes.{minimum, maximum}
use Rattle.rounding.proofs.Order.{lt_is}
use Rattle.scope.specs.Numbers.{◌-ᶠ◌, ◌*ᶠ◌, ◌<ᶠ◌, two}
use Rattle.scope.specs.Runs.{gather}
use Rattle.scope.specs.Promises.{units, Range}
use Rattle.laws.proofs.Cases.{tested, is_true, is_false}
use Rattle.promises.proofs.numbers.Bounded.{Bounded}
use Rattle.promises.proofs.numbers.RangeOf.{Members}
use Rattle.promises.proofs.gauge.Centres.{middle_of, lowest, highest, middle-near, middle-inside}
use Rattle.promises.proofs.gauge.Mirror.{reflected}
use Rattle.promises.proofs.packing.Folds.{Up, Down, Extreme}

-- Of the numbers x of which P holds, the one at i is at most s/2 past the middle of their range: the inequality holds with one of them as the upper end and with
-- any of them as the lower.
pub record NotBeyond (s : ℕ) (P : ℕ → Type 0) (x : ℕ → Z) (i : ℕ) : Type 0 where
  pub upper : ℕ
  pub upper_in : P upper
  pub most : (a : ℕ) → P a → nat 2 ⊗ x i ≼ x a ⊕ x upper ⊕ nat s

-- so with the ends of their range
pub not_past_range : {P : ℕ → Type 0} {x : ℕ → Z} {s i : ℕ} → NotBeyond s P x i → (r : Range P x x) → nat 2 ⊗ x i ≼ r.lo ⊕ r.hi ⊕ nat s
not_past_range {x = x} {s = s} {i = i} h r =
    let a = r.lo_taken in
    go (x i) (x a.0) (x h.upper) r.lo r.hi (h.most a.0 a.1) a.2 (r.hi_bounds h.upper h.upper_in)
  where
    go : (u v w lo hi : Z) → nat 2 ⊗ u ≼ v ⊕ w ⊕ nat s → v ≼ lo → w ≼ hi → nat 2 ⊗ u ≼ lo ⊕ hi ⊕ nat s
    go u v w lo hi h k l = omega arith

-- centres x, y of a cluster P, whose first two are i and j
pub record Hung (s v : ℕ) (P : ℕ → Type 0) (x y : ℕ → Z) (i j : ℕ) : Type 0 where
  pub first_in : P i
  pub second_in : P j
  pub across : NotBeyond s P x i
  pub up : NotBeyond s P y i
  pub level : Within (y j ⊖ y i) v

-- ---- the same centres
module _ {P : ℕ → Type 0} (x x' : ℕ → Z) (same : (k : ℕ) → P k → x' k ≡ x k) where
  not_beyond_same : {s i : ℕ} → P i → NotBeyond s P x i → NotBeyond s P x' i
  not_beyond_same {i = i} p h =
      let b = h.upper in
      record { upper = b; upper_in = h.upper_in; most = λ a q. rw (same i p, same a q, same b h.upper_in) (h.most a q) }

pub hung_same : {P : ℕ → Type 0} {x y x' y' : ℕ → Z} {s v i j : ℕ} → ((k : ℕ) → P k → x' k ≡ x k) → ((k : ℕ) → P k → y' k ≡ y k) → Hung s v P x y i j → Hung s v P x' y' i j
hung_same {x = x} {y = y} {x' = x'} {y' = y'} {i = i} {j = j} same-x same-y h = record {
  first_in = h.first_in;
  second_in = h.second_in;
  across = not_beyond_same x x' same-x h.first_in h.across;
  up = not_beyond_same y y' same-y h.first_in h.up;
  level = rw (same-y i h.first_in, same-y j h.second_in) h.level;
}

-- ---- a shift
module _ {P : ℕ → Type 0} (x x' : ℕ → Z) (K : Z) (e : ℕ) (near : (k : ℕ) → P k → Near (x' k) (x k ⊕ K) e) where
  not_beyond_shifted : {s i : ℕ} → P i → NotBeyond s P x i → NotBeyond (s + 4 * e) P x' i
  not_beyond_shifted {s} {i} p h =
      let b = h.upper in
      record { upper = b; upper_in = h.upper_in; most = λ a q. go (x i) (x a) (x b) (x' i) (x' a) (x' b) (near i p) (near a q) (near b h.upper_in) (h.most a q) }
    where
      go : (u v w u' v' w' : Z) → Near u' (u ⊕ K) e → Near v' (v ⊕ K) e → Near w' (w ⊕ K) e → nat 2 ⊗ u ≼ v ⊕ w ⊕ nat s → nat 2 ⊗ u' ≼ v' ⊕ w' ⊕ nat (s + 4 * e)
      go u v w u' v' w' a b c h = omega arith

  difference_shifted : {v i j : ℕ} → P i → P j → Within (x j ⊖ x i) v → Within (x' j ⊖ x' i) (v + 2 * e)
  difference_shifted {v} {i} {j} p q h = go (x i) (x j) (x' i) (x' j) (near i p) (near j q) h
    where
      go : (a b a' b' : Z) → Near a' (a ⊕ K) e → Near b' (b ⊕ K) e → Within (b ⊖ a) v → Within (b' ⊖ a') (v + 2 * e)
      go a b a' b' h k w = omega arith

pub hung_shifted : {P : ℕ → Type 0} {x y x' y' : ℕ → Z} {s v i j : ℕ} (K L : Z) (e : ℕ) → ((k : ℕ) → P k → Near (x' k) (x k ⊕ K) e) → ((k : ℕ) → P k → Near (y' k) (y k ⊕ L) e)
    → Hung s v P x y i j → Hung (s + 4 * e) (v + 2 * e) P x' y' i j
hung_shifted {x = x} {y = y} {x' = x'} {y' = y'} K L e near-x near-y h = record {
  first_in = h.first_in;
  second_in = h.second_in;
  across = not_beyond_shifted x x' K e near-x h.first_in h.across;
  up = not_beyond_shifted y y' L e near-y h.first_in h.up;
  level = difference_shifted y y' L e near-y h.first_in h.second_in h.level;
}

-- ---- the mirror, on one axis
-- twice what the first centre may be past the middle: three mirrored centres, one of them twice, and the middle itself are rounded
abbrev pub mirror_slack : ℕ
mirror_slack = 4 * pow2 33 + 2 * pow2 32

abbrev pub mirrored_at : (ℕ → Bool) → ℕ → (ℕ → Float) → ℕ → ℕ → Float
mirrored_at member n x i k = cond (middle_of member n x <ᶠ x i) (two *ᶠ middle_of member n x -ᶠ x k) (x k)

module _ (member : ℕ → Bool) (n : ℕ) (x : ℕ → Float) (inside : (k : ℕ) → k < n → T (member k) → Bounded (pow2 85) (x k)) (i : ℕ) (l : i < n) (t : T (member i)) where
  abbrev m : Float
  m = middle_of member n x

  least : Extreme Down member n x (gather minimum (inf false) member n x)
  least = lowest member n x inside i l t

  greatest : Extreme Up member n x (gather maximum (inf true) member n x)
  greatest = highest member n x inside i l t

  m_bounded : Bounded (pow2 85) m
  m_bounded = middle-inside member n x inside i l t

  flipped : (k : ℕ) → k < n → T (member k) → Near (units (two *ᶠ m -ᶠ x k)) (units m ⊕ units m ⊖ units (x k)) (pow2 33)
  flipped k h u = reflected m m_bounded.fin m_bounded.within (x k) (inside k h u)

  pub mirror_not_beyond : NotBeyond mirror_slack (Members member n) (λ k. units (mirrored_at member n x i k)) i
  mirror_not_beyond =
      let lo = gather minimum (inf false) member n x in
      let hi = gather maximum (inf true) member n x in
      let near = middle-near member n x inside i l t in
      elim (tested (m <ᶠ x i)) [
        | yes h ↦
            let b = least.attained in
            let past = (lt_is binary64 m (x i) m_bounded.fin (inside i l t).fin).0 h in
            rw (is_true (m <ᶠ x i) h)
            (record {
              upper = b.at;
              upper_in = (b.below, b.takes);
              most = λ a q.
                  over (units m) (units lo) (units hi) (units (x i)) (units (x a)) (units (x b.at)) (units (two *ᶠ m -ᶠ x i)) (units (two *ᶠ m -ᶠ x a)) (units (two *ᶠ m -ᶠ x b.at))
                  near past (greatest.bounds a q.0 q.1) (rw b.is refl) (flipped i l t) (flipped a q.0 q.1) (flipped b.at b.below b.takes);
            })
        | no h ↦
            let b = greatest.attained in
            let before = not_past (units m) (units (x i)) (λ p. h ((lt_is binary64 m (x i) m_bounded.fin (inside i l t).fin).1 p)) in
            rw (is_false (m <ᶠ x i) h)
            (record { upper = b.at; upper_in = (b.below, b.takes); most = λ a q. under (units m) (units lo) (units hi) (units (x i)) (units (x a)) (units (x b.at)) near before (least.bounds a q.0 q.1) (rw b.is refl) })
      ]
    where
      over : (m lo hi u v w u' v' w' : Z) → Near (m ⊕ m) (lo ⊕ hi) (2 * pow2 32) → m ≺ u → v ≼ hi → lo ≡ w → Near u' (m ⊕ m ⊖ u) (pow2 33) → Near v' (m ⊕ m ⊖ v) (pow2 33) → Near w' (m ⊕ m ⊖ w) (pow2 33)
          → nat 2 ⊗ u' ≼ v' ⊕ w' ⊕ nat mirror_slack
      over m lo hi u v w u' v' w' h k b e a c d = let r = rw e at h in omega arith

      under : (m lo hi u v w : Z) → Near (m ⊕ m) (lo ⊕ hi) (2 * pow2 32) → u ≼ m → lo ≼ v → hi ≡ w → nat 2 ⊗ u ≼ v ⊕ w ⊕ nat mirror_slack
      under m lo hi u v w h k b e = let r = rw e at h in omega arith

      not_past : (m u : Z) → (m ≺ u → ⊥) → u ≼ m
      not_past m u h = elim (either (m.p + u.n) (u.p + m.n)) [ inl l ↦ absurd (h l) | inr l ↦ l ]

  -- two centres that are level stay so
  pub mirror_keeps_level : (j : ℕ) → j < n → T (member j) → {v : ℕ} → Within (units (x j) ⊖ units (x i)) v → Within (units (mirrored_at member n x i j) ⊖ units (mirrored_at member n x i i)) (v + 2 * pow2 33)
  mirror_keeps_level j h u {v} w = elim (tested (m <ᶠ x i)) [
    | yes g ↦ rw (is_true (m <ᶠ x i) g) (turned (units m) (units (x i)) (units (x j)) (units (two *ᶠ m -ᶠ x i)) (units (two *ᶠ m -ᶠ x j)) (flipped i l t) (flipped j h u) w)
    | no g ↦ rw (is_false (m <ᶠ x i) g) (wider (units (x j) ⊖ units (x i)) w)
  ]
    where
      turned : (m a b a' b' : Z) → Near a' (m ⊕ m ⊖ a) (pow2 33) → Near b' (m ⊕ m ⊖ b) (pow2 33) → Within (b ⊖ a) v → Within (b' ⊖ a') (v + 2 * pow2 33)
      turned m a b a' b' h k w = omega arith

      wider : (d : Z) → Within d v → Within d (v + 2 * pow2 33)
      wider d w = omega arith
