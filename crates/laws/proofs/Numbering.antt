-- Clusters numbered from 0 by smallest member, stated of any numbers; which circles go together decides them.
use Prim.Native.Nat.{ℕ, zero, suc, ◌≤◌, ◌<◌}
use native.Mathlib.Omega.{arith}
use mathlib.Core.Path.{◌≡◌, refl, sym, ◌∙◌}
use mathlib.Core.Logic.Iff
use mathlib.Core.Logic.{◌↔◌}
use lib.ListN.{get_or, length}
use lib.Seq.{ext_get_or}
use Rattle.scope.specs.Groups.{Clusters}

-- a is the smallest of 0 .. n - 1 with the number v
pub record Smallest (n : ℕ) (number : ℕ → ℕ) (v a : ℕ) : Type 0 where
  pub below : a < n
  pub has : number a ≡ v
  pub small : (i : ℕ) → i < n → number i ≡ v → a ≤ i

pub smallest_equal : (n : ℕ) (f g : ℕ → ℕ) (v a : ℕ) → ((i : ℕ) → i < n → f i ≡ g i) → Smallest n f v a → Smallest n g v a
smallest_equal n f g v a e s =
    record { below = s.below; has = sym (e a s.below) ∙ s.has; small = λ i hi h. s.small i hi (e i hi ∙ h) }

-- the number of circle i
abbrev pub number_in : Clusters → ℕ → ℕ
number_in g i = get_or g.numbers i 0

-- the clusters of n circles, numbered from 0 by smallest member
pub record Numbering (n : ℕ) (g : Clusters) : Type 0 where
  pub sized : length g.numbers ≡ n
  pub few : g.count ≤ n
  pub inside : (i : ℕ) → i < n → number_in g i < g.count
  pub at_most : (i : ℕ) → i < n → number_in g i ≤ i
  pub used : (v : ℕ) → v < g.count → (a : ℕ) × Smallest n (number_in g) v a
  pub rising : (u v a b : ℕ) → Smallest n (number_in g) u a → Smallest n (number_in g) v b → u < v → a < b

-- the same circles go together
abbrev pub SameClusters : ℕ → Clusters → Clusters → Type 0
SameClusters n g h = (i j : ℕ) → i < n → j < n → (number_in g i ≡ number_in g j) ↔ (number_in h i ≡ number_in h j)

alike_turned : (n : ℕ) (g h : Clusters) → SameClusters n g h → SameClusters n h g
alike_turned n g h e i j hi hj = Iff.symm (e i j hi hj)

module _ (n : ℕ) (g h : Clusters) (p : Numbering n g) (q : Numbering n h) (alike : SameClusters n g h) where
  -- a smaller number in g than in h would be that of an earlier circle, whose numbers are equal
  not_smaller : (i : ℕ) → i < n → ((b : ℕ) → b < i → number_in g b ≡ number_in h b) → ¬ (number_in g i < number_in h i)
  not_smaller i hi earlier l =
      let e = q.used (number_in g i) (omega (arith, q.inside i hi)) in
      let s = q.used (number_in h i) (q.inside i hi) in
      let b = e.0 in
      let hb : b < i = omega (arith, q.rising (number_in g i) (number_in h i) b s.0 e.1 s.1 l, s.1.small i hi refl) in
      omega (arith, (alike b i e.1.below hi).0 (earlier b hb ∙ e.1.has), e.1.has)

  not_fewer : ((i : ℕ) → i < n → number_in g i ≡ number_in h i) → ¬ (g.count < h.count)
  not_fewer equal l =
      let e = q.used g.count l in
      omega (arith, p.inside e.0 e.1.below, equal e.0 e.1.below, e.1.has)

module _ (n : ℕ) (g h : Clusters) (p : Numbering n g) (q : Numbering n h) (alike : SameClusters n g h) where
  equal_below : (m i : ℕ) → i < m → i < n → number_in g i ≡ number_in h i
  equal_below zero i hm hi = absurd (omega arith)
  equal_below (suc m) i hm hi =
      let earlier : (b : ℕ) → b < i → number_in g b ≡ number_in h b = λ b hb. equal_below m b (omega arith) (omega arith) in
      omega (arith, not_smaller n g h p q alike i hi earlier, not_smaller n h g q p (alike_turned n g h alike) i hi (λ b hb. sym (earlier b hb)))

  -- (for request 10 of document 02: the wanted numbers are those of a clustering)
  pub alike_equal : g ≡ h
  alike_equal =
      let equal : (i : ℕ) → i < n → number_in g i ≡ number_in h i = λ i. equal_below (suc i) i (omega arith) in
      let counts : g.count ≡ h.count = omega (arith, not_fewer n g h p q alike equal, not_fewer n h g q p (alike_turned n g h alike) (λ i hi. sym (equal i hi))) in
      let lists : g.numbers ≡ h.numbers = ext_get_or 0 g.numbers h.numbers (p.sized ∙ sym q.sized) (λ i hi. equal i (omega (arith, p.sized))) in
      λ k. record { count = counts k; numbers = lists k }
