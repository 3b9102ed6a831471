-- A packed row that takes in the rows of its places, until each of them has been taken in and it is closed. One law for each step.
use Prim.Native.Nat.{ℕ, ◌+◌, ◌-◌, ◌^◌, ◌≤◌, ◌<◌}
use native.Mathlib.Omega.{arith}
use native.Mathlib.Decide.{dec_lt}
use mathlib.Core.Path.{◌≡◌, refl, sym}
use mathlib.Core.Logic.{◌↔◌, ◌⊎◌, inl, inr, ⊎_elim}
use mathlib.Core.Bool.{Bool, true, not, ◌&&◌}
use mathlib.Core.List.{List}
use lib.ListN.{get_or, set}
use lib.Bits.{bit_or}
use lib.Pow.{pow_pos}
use lib.Dec.{T, ltb, ltb→lt, lt→ltb}
use borrow.Author.Tests.{lt-ltb, le-ltb}
use Rattle.scope.specs.Runs.{bit, many}
use Rattle.scope.specs.Closure.{Marks, at, closure}
use Rattle.laws.proofs.Cases.{ltb_more, or_iff, and_iff, not_iff, eqb_iff, tested, same_test}
use Rattle.laws.proofs.Runs.{many_at_most, many_weaker_once}
use Rattle.laws.proofs.Closure.{Walk, last, then, walk_start, marks_iff_walk, marks_link, marks_join}
use Rattle.laws.proofs.MaskBits.{bit_past, bit-joined}
use Rattle.laws.proofs.PackedRows.{bit_single}
use Rattle.clustering.specs.Table.{Holds, closed_to}
use Rattle.clustering.proofs.Rows.{holds_same, holds-set}

-- ---- words

-- a bit of two words joined is a bit of either
union_iff : (a b j : ℕ) → T (bit (bit_or a b) j) ↔ (T (bit a j) ⊎ T (bit b j))
union_iff a b j = rw (bit-joined a b j) (or_iff (bit a j) (bit b j))

single_iff : (i j : ℕ) → T (bit (2 ^ i) j) ↔ (j ≡ i)
single_iff i j = let e = eqb_iff i j in rw (bit_single i j) (λ t. sym (e.0 t), λ q. e.1 (sym q))

-- rest holds what is in all and not in joined
abbrev pub Left : ℕ → ℕ → ℕ → Type 0
Left all joined rest = (j : ℕ) → bit rest j ≡ (bit all j && not (bit joined j))

module _ (all joined rest : ℕ) (left : Left all joined rest) where
  left_iff : (k : ℕ) → T (bit rest k) ↔ (T (bit all k) × T (not (bit joined k)))
  left_iff k = rw (left k) (and_iff (bit all k) (not (bit joined k)))

  pub left_all : (k : ℕ) → bit rest k ≡ true → T (bit all k)
  left_all k e = ((left_iff k).0 (rw e tt)).0

  pub left_new : (k : ℕ) → bit rest k ≡ true → ¬ T (bit joined k)
  left_new k e = (not_iff (bit joined k)).0 ((left_iff k).0 (rw e tt)).1

  none_left : rest ≡ 0 → (k : ℕ) → T (bit all k) → T (bit joined k)
  none_left e k h =
      elim (tested (bit joined k)) [
        | yes p ↦ p
        | no p ↦ absurd (bit_past 0 k (pow_pos k) (rw e at ((left_iff k).1 (h, (not_iff (bit joined k)).1 p))))
      ]

-- ---- the places that have not been joined become fewer

abbrev pub places_left : ℕ → ℕ → ℕ
places_left room joined = room - many room (bit joined)

module _ (room k joined : ℕ) (hk : k < room) (new : ¬ T (bit joined k)) where
  fewer : (now : ℕ) → ((j : ℕ) → T (bit (bit_or joined (2 ^ k)) j) → T (bit now j)) → places_left room now < places_left room joined
  fewer now h =
      omega (
        arith,
        many_weaker_once (bit joined) (bit now) room (λ j l p. h j ((union_iff joined (2 ^ k) j).1 (inl p))) k hk new (h k ((union_iff joined (2 ^ k) k).1 (inr ((single_iff k k).1 refl)))),
        many_at_most room (bit now),
      )

  pub fewer_left : places_left room (bit_or joined (2 ^ k)) < places_left room joined
  fewer_left = fewer (bit_or joined (2 ^ k)) (λ j p. p)

  pub fewer_left_still : (row : ℕ) → places_left room (bit_or (bit_or joined (2 ^ k)) row) < places_left room joined
  fewer_left_still row = fewer (bit_or (bit_or joined (2 ^ k)) row) (λ j p. (union_iff (bit_or joined (2 ^ k)) row j).1 (inl p))

-- ---- the rows: row k holds what is reached from place k where k is before i, and its links elsewhere

inside_iff : (j n : ℕ) (b : Bool) → T (ltb j n && b) ↔ ((j < n) × T b)
inside_iff j n b = (λ h. let p = (and_iff (ltb j n) b).0 h in (ltb→lt j n p.0, p.1), λ p. (and_iff (ltb j n) b).1 (lt→ltb j n p.0, p.1))

module _ (n : ℕ) (t : Marks) (i : ℕ) (rows : List ℕ) (s : Holds n rows (closed_to i n t)) where
  closed_row : (k j : ℕ) → k < n → k < i → T (bit (get_or rows k 0) j) ↔ ((j < n) × T (at (closure n t) k j))
  closed_row k j hk h = rw (s.places k j hk, lt-ltb k i h) (inside_iff j n (at (closure n t) k j))

  open_row : (k j : ℕ) → k < n → i ≤ k → T (bit (get_or rows k 0) j) ↔ ((j < n) × T (at t k j))
  open_row k j hk h = rw (s.places k j hk, le-ltb k i h) (inside_iff j n (at t k j))

  row_reached : (k j : ℕ) → k < n → T (bit (get_or rows k 0) j) → (j < n) × T (at (closure n t) k j)
  row_reached k j hk h = elim (dec_lt k i) [
    | yes l ↦ (closed_row k j hk l).0 h
    | no g ↦ let p = (open_row k j hk (omega arith)).0 h in (p.0, marks_link n t k j hk p.0 p.1)
  ]

  row_links : (k j : ℕ) → k < n → j < n → T (at t k j) → T (bit (get_or rows k 0) j)
  row_links k j hk hj h = elim (dec_lt k i) [
    | yes l ↦ (closed_row k j hk l).1 (hj, marks_link n t k j hk hj h)
    | no g ↦ (open_row k j hk (omega arith)).1 (hj, h)
  ]

-- ---- the row of place i: all that it holds is reached from i, and it holds the links of each place that has been joined to it

pub record Growing (n : ℕ) (t : Marks) (i all joined : ℕ) : Type 0 where
  pub reached : (j : ℕ) → T (bit all j) → (j < n) × T (at (closure n t) i j)
  pub self : T (bit joined i)
  pub links : (k j : ℕ) → T (bit joined k) → j < n → T (at t k j) → T (bit all j)

module _ (n : ℕ) (t : Marks) (i : ℕ) (rows : List ℕ) (hi : i < n) (s : Holds n rows (closed_to i n t)) where
  pub grown-start : Growing n t i (get_or rows i 0) (2 ^ i)
  grown-start =
      record {
        reached = λ j h. row_reached n t i rows s i j hi h;
        self = (single_iff i i).1 refl;
        links = λ k j b hj h. row_links n t i rows s i j hi hj (rw ((single_iff i k).0 b) at h);
      }

  module _ (k all joined : ℕ) (held : T (bit all k)) (g : Growing n t i all joined) where
    inside : k < n
    inside = (g.reached k held).0

    -- row k is joined
    pub grown-row : Growing n t i (bit_or all (get_or rows k 0)) (bit_or joined (2 ^ k))
    grown-row =
        record {
          reached = λ j h. ⊎_elim (λ a. g.reached j a) (λ b. on j (row_reached n t i rows s k j inside b)) ((union_iff all (get_or rows k 0) j).0 h);
          self = (union_iff joined (2 ^ k) i).1 (inl g.self);
          links = λ m j b hj h. (union_iff all (get_or rows k 0) j).1 (⊎_elim
              (λ a. inl (g.links m j a hj h))
              (λ a. inr (row_links n t i rows s k j inside hj (rw ((single_iff k m).0 a) at h)))
              ((union_iff joined (2 ^ k) m).0 b));
        }
      where
        on : (j : ℕ) → (j < n) × T (at (closure n t) k j) → (j < n) × T (at (closure n t) i j)
        on j p = (p.0, marks_join n t i k j hi inside p.0 (g.reached k held).1 p.1)

    -- it is closed: what its places link is in it, so they count as joined
    pub grown_closed : k < i → Growing n t i (bit_or all (get_or rows k 0)) (bit_or (bit_or joined (2 ^ k)) (get_or rows k 0))
    grown_closed l =
        record {
          reached = grown-row.reached;
          self = (union_iff (bit_or joined (2 ^ k)) (get_or rows k 0) i).1 (inl grown-row.self);
          links = λ m j b hj h. ⊎_elim
              (λ a. grown-row.links m j a hj h)
              (λ a. (union_iff all (get_or rows k 0) j).1 (inr (on m j a hj h)))
              ((union_iff (bit_or joined (2 ^ k)) (get_or rows k 0) m).0 b);
        }
      where
        on : (m j : ℕ) → T (bit (get_or rows k 0) m) → j < n → T (at t m j) → T (bit (get_or rows k 0) j)
        on m j b hj h =
            let p = (closed_row n t i rows s k m inside l).0 b in
            (closed_row n t i rows s k j inside l).1 (hj, marks_join n t k m j inside p.0 hj p.1 (marks_link n t m j p.0 hj h))

-- all that is held has been joined: every walk from i stays in the row
module _ (n : ℕ) (t : Marks) (i all joined rest : ℕ) (hi : i < n) (left : Left all joined rest) (e : rest ≡ 0) (g : Growing n t i all joined) where
  walks_held : {k j : ℕ} → Walk n (at t) k j → T (bit joined k) → T (bit all j)
  walks_held (last {i = k} {j = j} hk hj l) b = g.links k j b hj l
  walks_held (then {i = k} {j = m} hk l w) b = walks_held w (none_left all joined rest left e m (g.links k m b (walk_start w) l))

  pub grown_end : (j : ℕ) → bit all j ≡ (ltb j n && at (closure n t) i j)
  grown_end j =
      let both = inside_iff j n (at (closure n t) i j) in
      same_test (bit all j) (ltb j n && at (closure n t) i j) (
        λ h. both.1 (g.reached j h),
        λ h. let p = both.0 h in walks_held ((marks_iff_walk n t i j hi p.0).0 p.1) g.self,
      )

-- ---- rows closed in turn

module _ (n : ℕ) (t : Marks) {rows : List ℕ} where
  pub row_closed : (i row : ℕ) → ((j : ℕ) → bit row j ≡ (ltb j n && at (closure n t) i j)) → Holds n rows (closed_to i n t) → Holds n (set rows i row) (closed_to (i + 1) n t)
  row_closed i row e s = holds-set i row (closed_to (i + 1) n t) (λ hi j. rw (lt-ltb i (i + 1) (omega arith)) (e j)) (λ a b ha hb p. rw (ltb_more a i p)) s

  pub all_closed : (i : ℕ) → n ≤ i → Holds n rows (closed_to i n t) → Holds n rows (at (closure n t))
  all_closed i h s = holds_same (at (closure n t)) (λ a b ha hb. rw (lt-ltb a i (omega arith))) s
