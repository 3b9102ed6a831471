-- Cluster numbers, circle by circle: a circle that has not been seen is the smallest of the next cluster, and all circles of its row take that number.
use Prim.Native.Nat.{ℕ, zero, suc, ◌+◌, ◌≤◌, ◌<◌}
use native.Mathlib.Omega.{arith}
use native.Mathlib.Numerals.{add-one}
use native.Mathlib.Decide.{dec_lt, ℕ_discrete}
use mathlib.Core.Path.{◌≡◌, refl, sym, ap, ◌∙◌, subst}
use mathlib.Core.Logic.{◌↔◌}
use mathlib.Core.Bool.{Bool, not, cond}
use mathlib.Core.List.{List}
use lib.ListN.{length, get_or, set, replicate, length-set}
use lib.Seq.{get_or-set_same, get_or-set_other, ext_get_or}
use lib.Dec.{T, eqb}
use Rattle.scope.specs.Runs.{many, tab, filled}
use Rattle.scope.specs.Limits.{circle_cap}
use Rattle.scope.specs.Closure.{Marks, at}
use Rattle.scope.specs.Groups.{leader, leads, number, clusters_of, Grouping, accepted_grouping}
use Rattle.laws.proofs.Cases.{tested, is_true, is_false}
use Rattle.laws.proofs.Runs.{many-takes, many-leaves, length-tab, get_or_tab, get_or_tab_past, length-filled, get_or_filled_any}
use Rattle.laws.proofs.Closure.{Equivalence}
use Rattle.laws.proofs.Numbers.{leads_iff, leader_at_most, leader-leads, same_leader_iff_marked}
use Rattle.clustering.specs.Table.{Row, Given}
use Rattle.clustering.proofs.Linking.{test_of_mark}

-- ---- a value stored where a row is marked, place by place

pub row_test : (n : ℕ) (row : List ℕ) (p : ℕ → Bool) (j : ℕ) → j < n → Row n row p → not (eqb (get_or row j 0) 0) ≡ p j
row_test n row p j hj r = rw (r j hj) (test_of_mark (p j))

module _ {p : ℕ → Bool} {v : ℕ} {old new : List ℕ} where
  pub given_next : (j x : ℕ) (b : Bool) → b ≡ p j → x ≡ cond b v (get_or new j 0) → Given j p v old new → Given (j + 1) p v old (set new j x)
  given_next j x b t e g =
      record {
        long = rw (length-set new j x) g.long;
        inside = λ k l h.
            elim (ℕ_discrete k j) [
              | yes d ↦ rw (d, get_or-set_same new j x 0 (omega (arith, g.long)), ← t, ← g.outside j (omega arith)) e
              | no d ↦ rw (get_or-set_other new j k x 0 d) (g.inside k (omega arith) h)
            ];
        outside = λ k l. rw (get_or-set_other new j k x 0 (λ d. omega arith)) (g.outside k (omega arith));
      }

  given_taken : {n : ℕ} → Given n p v old new → (j : ℕ) → j < n → n ≤ length old → T (p j) → get_or new j 0 ≡ v
  given_taken g j h k t = rw (is_true (p j) t) at (g.inside j h (omega arith))

  given_left : {n : ℕ} → Given n p v old new → (j : ℕ) → j < n → n ≤ length old → ¬ T (p j) → get_or new j 0 ≡ get_or old j 0
  given_left g j h k t = rw (is_false (p j) t) at (g.inside j h (omega arith))

pub given_all : (n j : ℕ) {p : ℕ → Bool} {v : ℕ} {old new : List ℕ} → j ≤ n → n ≤ j → Given j p v old new → Given n p v old new
given_all n j {p} {v} {old} {new} a b g = let e : j ≡ n = omega arith in subst (λ (k : ℕ). Given k p v old new) e g

-- ---- the clusters whose smallest circle comes before i: how many there are, and their circles, which are marked as seen and have their numbers

pub record Numbered (n : ℕ) (t : Marks) (i c : ℕ) (l s : List ℕ) : Type 0 where
  pub begun : c ≡ many i (leads n t)
  pub seen : (b : ℕ) → b < n → leader n t b < i → get_or s b 0 ≡ 1
  pub unseen : (b : ℕ) → b < n → i ≤ leader n t b → get_or s b 0 ≡ 0
  pub each : (b : ℕ) → b < n → leader n t b < i → get_or l b 0 ≡ number n t b
  pub rest : (b : ℕ) → n ≤ b → get_or l b 0 ≡ 0

zeros : (r b : ℕ) → ◌≡◌ {A = ℕ} (get_or (replicate r 0) b 0) 0
zeros zero b = refl
zeros (suc r) zero = refl
zeros (suc r) (suc b) = zeros r b

pub numbered-none : (n r : ℕ) (t : Marks) → Numbered n t 0 0 (replicate r 0) (replicate r 0)
unfolding many
numbered-none n r t =
    record { begun = refl; seen = λ b h k. absurd (omega arith); unseen = λ b h k. zeros r b; each = λ b h k. absurd (omega arith); rest = λ b h. zeros r b }

module _ (n : ℕ) (t : Marks) (q : Equivalence n t) (i : ℕ) (hi : i < n) where
  -- the circles of i's row are those that i leads
  row_led : leader n t i ≡ i → (b : ℕ) → b < n → T (at t i b) ↔ (leader n t b ≡ i)
  row_led e b hb = let same = same_leader_iff_marked n t q i b hi hb in (λ h. sym (same.1 h) ∙ e, λ d. same.0 (e ∙ sym d))

  none_led : leader n t i < i → (b : ℕ) → b < n → leader n t b ≡ i → ⊥
  none_led h b hb e = omega (arith, rw e at ((leads_iff n t (leader n t b)).0 (leader-leads n t q b hb)))

  module _ {c : ℕ} {l s : List ℕ} (g : Numbered n t i c l s) where
    unseen_leads : get_or s i 0 ≡ 0 → leader n t i ≡ i
    unseen_leads z = elim (dec_lt (leader n t i) i) [ yes h ↦ absurd (omega (arith, g.seen i hi h)) | no h ↦ omega (arith, leader_at_most n t q i hi) ]

    seen_led : (get_or s i 0 ≡ 0 → ⊥) → leader n t i < i
    seen_led z = elim (dec_lt (leader n t i) i) [ yes h ↦ h | no h ↦ absurd (z (g.unseen i hi (omega arith))) ]

    pub numbered_new : {k r : List ℕ} → n ≤ length l → n ≤ length s → get_or s i 0 ≡ 0 → Given n (at t i) c l k → Given n (at t i) 1 s r → Numbered n t (i + 1) (c + 1) k r
    unfolding number
    numbered_new {k} {r} hl hs z u w =
        record {
          begun = rw (add-one c, add-one i) (ap suc g.begun ∙ sym (many-takes i (leads n t) ((leads_iff n t i).1 itself)));
          seen = λ b hb h.
              elim (tested (at t i b)) [
                | yes m ↦ given_taken w b hb hs m
                | no m ↦ given_left w b hb hs m ∙ g.seen b hb (before b hb m h)
              ];
          unseen = λ b hb h. given_left w b hb hs (λ m. omega (arith, (led b hb).0 m)) ∙ g.unseen b hb (omega arith);
          each = λ b hb h.
              elim (tested (at t i b)) [
                | yes m ↦ given_taken u b hb hl m ∙ g.begun ∙ ap (λ (x : ℕ). many x (leads n t)) (sym ((led b hb).0 m))
                | no m ↦ given_left u b hb hl m ∙ g.each b hb (before b hb m h)
              ];
          rest = λ b hb. u.outside b hb ∙ g.rest b hb;
        }
      where
        itself : leader n t i ≡ i
        itself = unseen_leads z

        led : (b : ℕ) → b < n → T (at t i b) ↔ (leader n t b ≡ i)
        led = row_led itself

        before : (b : ℕ) → b < n → ¬ T (at t i b) → leader n t b < i + 1 → leader n t b < i
        before b hb m h = let other : leader n t b ≡ i → ⊥ = λ e. m ((led b hb).1 e) in omega arith

    pub numbered_old : (get_or s i 0 ≡ 0 → ⊥) → Numbered n t (i + 1) c l s
    numbered_old z =
        record {
          begun = g.begun ∙ rw add-one (sym (many-leaves i (leads n t) (λ k. none i hi ((leads_iff n t i).0 k))));
          seen = λ b hb k. g.seen b hb (before b hb k);
          unseen = λ b hb k. g.unseen b hb (omega arith);
          each = λ b hb k. g.each b hb (before b hb k);
          rest = g.rest;
        }
      where
        none : (b : ℕ) → b < n → leader n t b ≡ i → ⊥
        none = none_led (seen_led z)

        before : (b : ℕ) → b < n → leader n t b < i + 1 → leader n t b < i
        before b hb k = let other = none b hb in omega arith

pub numbered_all : (n : ℕ) (t : Marks) (q : Equivalence n t) (i c : ℕ) (l s : List ℕ) → n ≤ circle_cap → i ≤ n → n ≤ i → length l ≡ circle_cap → Numbered n t i c l s
    → ◌≡◌ {A = Grouping} (record { refusal = 0; count = c; numbers = l }) (accepted_grouping (clusters_of n t))
unfolding clusters_of
numbered_all n t q i c l s hn h e hl g = rw (counted, listed)
  where
    counted : c ≡ many n (leads n t)
    counted = let e : i ≡ n = omega arith in g.begun ∙ ap (λ (x : ℕ). many x (leads n t)) e

    ends : (b : ℕ) → Dec (b < n) → get_or l b 0 ≡ get_or (tab n (number n t)) b 0
    ends b (yes p) = g.each b p (omega (arith, leader_at_most n t q b p)) ∙ sym (get_or_tab n (number n t) b 0 p)
    ends b (no p) = g.rest b (omega arith) ∙ sym (get_or_tab_past n (number n t) b 0 (omega arith))

    listed : l ≡ filled circle_cap 0 (tab n (number n t))
    listed =
        ext_get_or 0 l (filled circle_cap 0 (tab n (number n t))) (hl ∙ sym (length-filled circle_cap 0 (tab n (number n t)) (rw (length-tab n (number n t)) hn)))
        (λ b hb. ends b (dec_lt b n) ∙ sym (get_or_filled_any circle_cap 0 (tab n (number n t)) b))
