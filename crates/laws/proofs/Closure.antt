-- Warshall's closure is reachability, for any n and any relation: after the passes below k the marks are transitive through each place below k.
use Prim.Native.Nat.{ℕ, zero, suc, ◌≤◌, ◌<◌}
use native.Mathlib.Omega.{arith}
use native.Mathlib.Decide.{dec_lt}
use mathlib.Core.Path.{◌≡◌, refl, sym, ◌∙◌}
use mathlib.Core.Logic.Iff
use mathlib.Core.Logic.{◌↔◌, ◌⊎◌, inl, inr, ⊎_elim}
use mathlib.Core.Bool.{Bool, ◌&&◌, ◌||◌}
use lib.Dec.{T, eqb}
use Rattle.scope.specs.Closure.{Marks, marked, at, pass, passes, closure}
use Rattle.laws.proofs.Cases.{or_iff, sum_iff, eqb_iff}
use Rattle.laws.proofs.Marks.{at_marked, marked_iff, pass_iff, passes_iff, pass_keeps_column, pass_keeps_row}

-- one link of f after another, all places below n
pub data Walk (n : ℕ) (f : ℕ → ℕ → Bool) : ℕ → ℕ → Type 0 where
  last : {i j : ℕ} → i < n → j < n → T (f i j) → Walk n f i j
  then : {i j k : ℕ} → i < n → T (f i j) → Walk n f j k → Walk n f i k

module _ {n : ℕ} {f : ℕ → ℕ → Bool} where
  pub walk_start : {i j : ℕ} → Walk n f i j → i < n
  walk_start (last hi hj l) = hi
  walk_start (then hi l w) = hi

  pub walk_end : {i j : ℕ} → Walk n f i j → j < n
  walk_end (last hi hj l) = hj
  walk_end (then hi l w) = walk_end w

  pub walk_on : {i j k : ℕ} → Walk n f i j → Walk n f j k → Walk n f i k
  walk_on (last hi hj l) v = then hi l v
  walk_on (then hi l w) v = then hi l (walk_on w v)

  pub walk_grows : {g : ℕ → ℕ → Bool} → ((i j : ℕ) → i < n → j < n → T (f i j) → T (g i j)) → {i j : ℕ} → Walk n f i j → Walk n g i j
  walk_grows more (last {i = i} {j = j} hi hj l) = last hi hj (more i j hi hj l)
  walk_grows more (then {i = i} {j = j} hi l w) = then hi (more i j hi (walk_start w) l) (walk_grows more w)

  pub walk_back : ((i j : ℕ) → i < n → j < n → T (f i j) → T (f j i)) → {i j : ℕ} → Walk n f i j → Walk n f j i
  walk_back turn (last {i = i} {j = j} hi hj l) = last hj hi (turn i j hi hj l)
  walk_back turn (then {i = i} {j = j} hi l w) =
      let hj = walk_start w in
      walk_on (walk_back turn w) (last hj hi (turn i j hi hj l))

-- the links of 0 .. n - 1, closed
abbrev pub closed : ℕ → (ℕ → ℕ → Bool) → Marks
closed n f = closure n (marked n f)

-- ---- the marks after the passes below k

module _ (n : ℕ) (f : ℕ → ℕ → Bool) where
  after : ℕ → Marks
  after k = passes n k (marked n f)

  after_walks : (k i j : ℕ) → T (at (after k) i j) → Walk n f i j
  unfolding after passes
  after_walks zero i j h = let m = (marked_iff n f i j).0 h in last m.0 m.1 m.2
  after_walks (suc k) i j h =
      ⊎_elim (after_walks k i j) (λ b. walk_on (after_walks k i k b.0) (after_walks k k j b.1)) ((passes_iff n k (marked n f) i j).0 h).2

  after_links : (k i j : ℕ) → i < n → j < n → T (f i j) → T (at (after k) i j)
  unfolding after passes
  after_links zero i j hi hj h = (marked_iff n f i j).1 (hi, hj, h)
  after_links (suc k) i j hi hj h = (passes_iff n k (marked n f) i j).1 (hi, hj, inl (after_links k i j hi hj h))

abbrev Through : Marks → ℕ → Type 0
Through t m = (i j : ℕ) → T (at t i m) → T (at t m j) → T (at t i j)

module _ (n k : ℕ) (t : Marks) where
  through_k : Through (pass n k t) k
  through_k i j a b =
      let p = (pass_iff n k t i k).0 a in
      let q = (pass_iff n k t k j).0 b in
      (pass_iff n k t i j).1 (p.0, q.1, inr ((pass_keeps_column n k t i p.0 p.1).0 a, (pass_keeps_row n k t j q.1 q.0).0 b))

  through_kept : (m : ℕ) → Through t m → Through (pass n k t) m
  through_kept m th i j a b =
      let p = (pass_iff n k t i m).0 a in
      let q = (pass_iff n k t m j).0 b in
      (pass_iff n k t i j).1 (p.0, q.1, four p.2 q.2)
    where
      four : T (at t i m) ⊎ (T (at t i k) × T (at t k m)) → T (at t m j) ⊎ (T (at t m k) × T (at t k j)) → T (at t i j) ⊎ (T (at t i k) × T (at t k j))
      four (inl x) (inl y) = inl (th i j x y)
      four (inl x) (inr y) = inr (th i k x y.0, y.1)
      four (inr x) (inl y) = inr (x.0, th k j x.1 y)
      four (inr x) (inr y) = inr (x.0, y.1)

module _ (n : ℕ) (f : ℕ → ℕ → Bool) where
  after_through : (k m : ℕ) → m < k → Through (after n f k) m
  unfolding after passes
  after_through zero m h = absurd (omega arith)
  after_through (suc k) m h =
      elim (dec_lt m k) [
        | yes l ↦ through_kept n k (after n f k) m (after_through k m l)
        | no g ↦ let e : m ≡ k = omega arith in rw e (through_k n k (after n f k))
      ]

  walks_after : {i j : ℕ} → Walk n f i j → T (at (after n f n) i j)
  walks_after (last {i = i} {j = j} hi hj l) = after_links n f n i j hi hj l
  walks_after {j = k} (then {i = i} {j = j} hi l w) =
      let hj = walk_start w in
      after_through n j hj i k (after_links n f n i j hi hj l) (walks_after w)

  -- ---- the closure

  pub closure_iff_walk : (i j : ℕ) → T (at (closed n f) i j) ↔ Walk n f i j
  unfolding closure after
  closure_iff_walk i j = (after_walks n f n i j, walks_after)

  pub closure_links : (i j : ℕ) → i < n → j < n → T (f i j) → T (at (closed n f) i j)
  closure_links i j hi hj h = (closure_iff_walk i j).1 (last hi hj h)

  pub closure_joins : (i j k : ℕ) → T (at (closed n f) i j) → T (at (closed n f) j k) → T (at (closed n f) i k)
  closure_joins i j k p q = (closure_iff_walk i k).1 (walk_on ((closure_iff_walk i j).0 p) ((closure_iff_walk j k).0 q))

  -- every transitive relation of 0 .. n - 1 that holds the links holds the closure
  pub closure-least : (R : ℕ → ℕ → Type 0) → ((i j : ℕ) → i < n → j < n → T (f i j) → R i j)
      → ((i j k : ℕ) → i < n → j < n → k < n → R i j → R j k → R i k) → (i j : ℕ) → T (at (closed n f) i j) → R i j
  closure-least R link join i j h = along ((closure_iff_walk i j).0 h)
    where
      along : {a b : ℕ} → Walk n f a b → R a b
      along (last {i = a} {j = b} ha hb l) = link a b ha hb l
      along {b = c} (then {i = a} {j = b} ha l w) = let hb = walk_start w in join a b c ha hb (walk_end w) (link a b ha hb l) (along w)

-- ---- the closure of any marks reads the first n rows and columns only, and is reachability there

module _ (n : ℕ) (t : Marks) where
  passes-inside : (k : ℕ) → k ≤ n → (i j : ℕ) → i < n → j < n → at (passes n k t) i j ≡ at (passes n k (marked n (at t))) i j
  unfolding passes pass
  passes-inside zero h i j hi hj = sym (at_marked n (at t) i j hi hj)
  passes-inside (suc k) h i j hi hj =
      let hk : k < n = omega arith in
      let same = passes-inside k (omega arith) in
      let u = passes n k t in
      let v = passes n k (marked n (at t)) in
      at_marked n (λ a b. at u a b || (at u a k && at u k b)) i j hi hj
      ∙ rw (same i j hi hj, same i k hi hk, same k j hk hj)
      (sym (at_marked n (λ a b. at v a b || (at v a k && at v k b)) i j hi hj))

  pub marks_iff_walk : (i j : ℕ) → i < n → j < n → T (at (closure n t) i j) ↔ Walk n (at t) i j
  unfolding closure
  marks_iff_walk i j hi hj = rw (passes-inside n (omega arith) i j hi hj) (closure_iff_walk n (at t) i j)

  pub marks_link : (i j : ℕ) → i < n → j < n → T (at t i j) → T (at (closure n t) i j)
  marks_link i j hi hj h = (marks_iff_walk i j hi hj).1 (last hi hj h)

  pub marks_join : (i j k : ℕ) → i < n → j < n → k < n → T (at (closure n t) i j) → T (at (closure n t) j k) → T (at (closure n t) i k)
  marks_join i j k hi hj hk p q = (marks_iff_walk i k hi hk).1 (walk_on ((marks_iff_walk i j hi hj).0 p) ((marks_iff_walk j k hj hk).0 q))

-- more links, more marks
pub closure_grows : (n : ℕ) (f g : ℕ → ℕ → Bool) → ((i j : ℕ) → i < n → j < n → T (f i j) → T (g i j))
    → (i j : ℕ) → T (at (closed n f) i j) → T (at (closed n g) i j)
closure_grows n f g more i j h = (closure_iff_walk n g i j).1 (walk_grows more ((closure_iff_walk n f i j).0 h))

-- ---- the closure of a reflexive and symmetric relation is an equivalence

pub record Equivalence (n : ℕ) (t : Marks) : Type 0 where
  pub self : (i : ℕ) → i < n → T (at t i i)
  pub turned : (i j : ℕ) → i < n → j < n → T (at t i j) → T (at t j i)
  pub joined : (i j k : ℕ) → i < n → j < n → k < n → T (at t i j) → T (at t j k) → T (at t i k)

pub closure_equivalence : (n : ℕ) (f : ℕ → ℕ → Bool) → ((i : ℕ) → i < n → T (f i i)) → ((i j : ℕ) → i < n → j < n → T (f i j) → T (f j i))
    → Equivalence n (closed n f)
closure_equivalence n f same turn =
    record {
      self = λ i hi. closure_links n f i i hi hi (same i hi);
      turned = λ i j hi hj h. (closure_iff_walk n f j i).1 (walk_back turn ((closure_iff_walk n f i j).0 h));
      joined = λ i j k hi hj hk. closure_joins n f i j k;
    }

-- ---- where each place is linked to itself as well: the same place, or a walk of the other links

abbrev pub or_same : (ℕ → ℕ → Bool) → ℕ → ℕ → Bool
or_same f i j = eqb i j || f i j

module _ (n : ℕ) (f : ℕ → ℕ → Bool) where
  or_same_iff : (i j : ℕ) → T (or_same f i j) ↔ ((i ≡ j) ⊎ T (f i j))
  or_same_iff i j = Iff.trans (or_iff (eqb i j) (f i j)) (sum_iff (eqb_iff i j) Iff.rfl)

  pub or_same_equivalence : ((i j : ℕ) → i < n → j < n → T (f i j) → T (f j i)) → Equivalence n (closed n (or_same f))
  or_same_equivalence turn =
      closure_equivalence n (or_same f) (λ i hi. (or_same_iff i i).1 (inl refl))
      (λ i j hi hj h. (or_same_iff j i).1 (⊎_elim (λ e. inl (sym e)) (λ l. inr (turn i j hi hj l)) ((or_same_iff i j).0 h)))

  pub closure_iff_same_or_walk : (i j : ℕ) → i < n → j < n → T (at (closed n (or_same f)) i j) ↔ ((i ≡ j) ⊎ Walk n f i j)
  closure_iff_same_or_walk i j hi hj = (
    closure-least n (or_same f) (λ i j. (i ≡ j) ⊎ Walk n f i j) (λ a b ha hb l. ⊎_elim (λ e. inl e) (λ k. inr (last ha hb k)) ((or_same_iff a b).0 l)) (λ a b c ha hb hc. join a b c) i j,
    ⊎_elim (λ e. closure_links n (or_same f) i j hi hj ((or_same_iff i j).1 (inl e)))
        (λ w. (closure_iff_walk n (or_same f) i j).1 (walk_grows (λ a b ha hb l. (or_same_iff a b).1 (inr l)) w)),
  )
    where
      join : (a b c : ℕ) → (a ≡ b) ⊎ Walk n f a b → (b ≡ c) ⊎ Walk n f b c → (a ≡ c) ⊎ Walk n f a c
      join a b c (inl e) w = rw e w
      join a b c (inr v) (inl e) = inr (rw e at v)
      join a b c (inr v) (inr w) = inr (walk_on v w)
