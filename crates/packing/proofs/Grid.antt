-- One axis of the grid: widths of lines box by box, where lines start, and where a box's centre comes to stand.
use Rattle.std.proofs.Common.{◌≡◌, ℕ, zero, suc, ◌+◌, ◌<◌, eqb, List, get_or, set, sym, refl, ◌∙◌, add-one, arith, length-set, get_or-set_other, get_or-set_same}
use native.Mathlib.Decide.{ℕ_discrete}
use lib.Ieee.{Float, nan}
use Rattle.rounding.specs.Extremes.{maximum}
use Rattle.scope.specs.Numbers.{◌+ᶠ◌, nought}
use Rattle.scope.specs.Runs.{gather}
use Rattle.scope.specs.Packing.{breadth, start, centred, placed}
use Rattle.laws.proofs.Cases.{eqb_iff}
use Rattle.laws.proofs.Runs.{gather-takes, gather-leaves, gather_equal}
use Rattle.packing.specs.Lists.{At}

-- ---- where lines start

pub start_equal : (v w : ℕ → Float) (j : ℕ) → ((i : ℕ) → i < j → v i ≡ w i) → start v j ≡ start w j
unfolding start
start_equal v w zero e = refl
start_equal v w (suc j) e = rw (start_equal v w j (λ i h. e i (omega arith)), e j (omega arith))

-- the widths of one line more, summed
pub start_next : (w : ℕ → Float) (j : ℕ) {sum : Float} → sum ≡ start w j → sum +ᶠ w j ≡ start w (j + 1)
unfolding start
start_next w j e = rw (e, add-one j)

-- ---- widths of lines

module _ (line : ℕ → ℕ) (side : ℕ → Float) (padding : Float) where
  pub breadths_none : (n : ℕ) (l : List Float) → At n l nan (λ _. nought) → At n l nan (breadth 0 line side padding)
  unfolding breadth gather
  breadths_none n l r = record { fits = r.fits; is = r.is }

  -- one box more widens its line, and no other
  pub breadths_next : (n i : ℕ) (l : List Float) → line i < n → At n l nan (breadth i line side padding)
      → At n (set l (line i) (maximum (get_or l (line i) nan) (side i +ᶠ padding))) nan (breadth (i + 1) line side padding)
  unfolding breadth
  breadths_next n i l h r =
      record {
        fits = rw length-set r.fits;
        is = λ j k.
            elim (ℕ_discrete j (line i)) [
              | yes q ↦ rw (q, get_or-set_same l (line i) _ nan (omega (arith, r.fits)), add-one i, r.is (line i) h)
                  (sym (gather-takes maximum nought (λ b. eqb (line b) (line i)) i (λ b. side b +ᶠ padding) ((eqb_iff (line i) (line i)).1 refl)))
              | no q ↦ rw (get_or-set_other l (line i) j _ nan q, add-one i)
                  (r.is j k ∙ sym (gather-leaves maximum nought (λ b. eqb (line b) j) i (λ b. side b +ᶠ padding) (λ t. q (sym ((eqb_iff (line i) j).0 t)))))
            ];
      }

  -- ---- the middle of a cell

  pub placed_at : (k n i : ℕ) (widths cells : List Float) → line i < n → At n widths nan (breadth k line side padding)
      → At n cells nan (start (λ j. get_or widths j nan))
      → centred (get_or cells (line i) nan) (get_or widths (line i) nan) (side i) ≡ placed k line side padding i
  unfolding placed
  placed_at k n i widths cells h w s =
      rw (s.is (line i) h, start_equal (λ j. get_or widths j nan) (breadth k line side padding) (line i) (λ j g. w.is j (omega arith)), w.is (line i) h)

-- ---- boxes at or past k do not matter

module _ (k : ℕ) (line row : ℕ → ℕ) (side edge : ℕ → Float) (padding : Float) (l : (b : ℕ) → b < k → line b ≡ row b) (s : (b : ℕ) → b < k → side b ≡ edge b) where
  breadth_equal : (j : ℕ) → breadth k line side padding j ≡ breadth k row edge padding j
  unfolding breadth
  breadth_equal j = gather_equal maximum nought (λ b. eqb (line b) j) (λ b. eqb (row b) j) k _ _ (λ b g. rw (l b g)) (λ b g. rw (s b g))

  pub placed_equal : (i : ℕ) → i < k → placed k line side padding i ≡ placed k row edge padding i
  unfolding placed
  placed_equal i h =
      rw (l i h, s i h, start_equal (breadth k line side padding) (breadth k row edge padding) (row i) (λ j g. breadth_equal j), breadth_equal (row i))
