-- Packed rows, of any width: a packed row unpacks to the same marks, and two joined hold exactly the marks of either.
use Prim.Native.Nat.{ℕ, zero, suc, ◌+◌, ◌-◌, ◌*◌, ◌/◌, ◌%◌, ◌^◌, ◌<◌}
use native.Mathlib.Omega.{arith}
use native.Mathlib.Nat.{pow-succ', div-lt_iff_lt-mul, div-add-mod', mod-lt, mod-eq_of_lt}
use native.Mathlib.Decide.{ℕ_discrete}
use native.Mathlib.Numerals.{add-one}
use mathlib.Core.Path.{◌≡◌, refl, sym, ap, ◌∙◌, subst}
use mathlib.Core.Bool.{Bool, true, false, not, ◌&&◌, ◌||◌, and-true, and-false}
use mathlib.Core.List.{List}
use lib.Bits.{bit_or}
use lib.Dec.{T, eqb, ltb}
use lib.ListN.{length, get_or}
use lib.Pow.{pow-lt, pow_pos}
use lib.Seq.{ext_get_or}
use borrow.Author.Tests.{lt-ltb, le-ltb, eq-eqb, ne_eqb}
use Rattle.scope.specs.Runs.{tab, gather, bit}
use Rattle.scope.specs.PackedRows.{packed_row, unpacked_row, packed_words, mark_of, joined_words}
use Rattle.laws.proofs.Cases.{ltb_more, eqb_iff, tested, is_true, is_false, same_test}
use Rattle.laws.proofs.Runs.{length-tab, get_or_tab, tab_equal}
use Rattle.laws.proofs.MaskBits.{bit-joined, bit_put, bit_put_other, bit_taken, bit_left, bit_past, bit_of_power, power_has_one_bit}

-- ---- no place and a single place

pub bit-none : (j : ℕ) → bit 0 j ≡ false
bit-none j = is_false (bit 0 j) (bit_past 0 j (pow_pos j))

-- in a word of w places
pub single_shifted : (w i : ℕ) → i < w → (1 * 2 ^ i) % 2 ^ w ≡ 2 ^ i
single_shifted w i h = let e : 1 * 2 ^ i ≡ 2 ^ i = omega arith in rw e (mod-eq_of_lt (pow-lt h))

pub bit_single : (i j : ℕ) → bit (2 ^ i) j ≡ eqb i j
bit_single i j = same_test (bit (2 ^ i) j) (eqb i j) (
  λ t. (eqb_iff i j).1 (power_has_one_bit i j t),
  λ t. subst (λ (k : ℕ). T (bit (2 ^ i) k)) ((eqb_iff i j).0 t) (bit_of_power i),
)

-- a place taken out of a row that holds it
pub bit_without : (m i j : ℕ) → T (bit m i) → bit (m - 2 ^ i) j ≡ (bit m j && not (eqb j i))
bit_without m i j h = elim (ℕ_discrete j i) [
  | yes e ↦ rw (e, eq-eqb i i refl, and-false (bit m i)) (is_false (bit (m - 2 ^ i) i) (λ t. (bit_taken m i h i t).0 refl))
  | no f ↦ rw (ne_eqb j i f, and-true (bit m j)) (same_test (bit (m - 2 ^ i) j) (bit m j) (λ t. (bit_taken m i h j t).1, bit_left m i h j (λ e. f (sym e))))
]

-- ---- packed

pub packed-small : (w : ℕ) (p : ℕ → Bool) → packed_row w p < 2 ^ w
unfolding packed_row gather
packed-small zero p = omega arith
packed-small (suc w) p = elim (tested (p w)) [
  | yes h ↦ rw (is_true (p w) h, pow-succ' 2 w) (omega (arith, packed-small w p))
  | no h ↦ rw (is_false (p w) h, pow-succ' 2 w) (omega (arith, packed-small w p))
]

one_more : (j w : ℕ) → (j ≡ w → ⊥) → ltb j w ≡ ltb j (suc w)
one_more j w f = ltb_more j w f ∙ ap (ltb j) (add-one w)

-- place w of a row of w places is not marked
none-there : (w : ℕ) (p : ℕ → Bool) → ¬ T (bit (packed_row w p) w)
none-there w p = bit_past (packed_row w p) w (packed-small w p)

pub bit-packed : (w : ℕ) (p : ℕ → Bool) (j : ℕ) → bit (packed_row w p) j ≡ (ltb j w && p j)
unfolding packed_row gather
bit-packed zero p j = rw (le-ltb j 0 (omega arith)) (bit-none j)
bit-packed (suc w) p j = elim (ℕ_discrete j w) [
  | yes e ↦ rw (e, lt-ltb w (suc w) (omega arith)) (last (tested (p w)))
  | no f ↦ rw (← one_more j w f, ← bit-packed w p j) (below f (tested (p w)))
]
  where
    last : Dec (T (p w)) → bit (packed_row (suc w) p) w ≡ p w
    last (yes h) = rw (is_true (p w) h) (is_true (bit (packed_row w p + 2 ^ w) w) (bit_put (packed_row w p) w (none-there w p)))
    last (no h) = rw (is_false (p w) h) (is_false (bit (packed_row w p) w) (none-there w p))

    below : (j ≡ w → ⊥) → Dec (T (p w)) → bit (packed_row (suc w) p) j ≡ bit (packed_row w p) j
    below f (yes h) = rw (is_true (p w) h) (same_test (bit (packed_row w p + 2 ^ w) j) (bit (packed_row w p) j) (bit_put_other (packed_row w p) w j (none-there w p) (λ e. f (sym e))))
    below f (no h) = rw (is_false (p w) h)

-- a row with every place marked
pub all_marked : (w : ℕ) → packed_row w (λ j. true) ≡ 2 ^ w - 1
unfolding packed_row gather
all_marked zero = refl
all_marked (suc w) = rw (all_marked w, pow-succ' 2 w) (omega (arith, pow_pos w))

-- ---- as rows of marks: what document 02, 4/14, asks to be shown

pub packed_unpacks : (r : List Bool) → unpacked_row (length r) (packed_row (length r) (λ j. get_or r j false)) ≡ r
unfolding unpacked_row
packed_unpacks r =
    let w = length r in
    let x = packed_row w (λ j. get_or r j false) in
    ext_get_or false (tab w (bit x)) r (length-tab w (bit x))
    (λ j h.
    let l : j < w = rw (length-tab w (bit x)) at h in
    get_or_tab w (bit x) j false l ∙ bit-packed w (λ i. get_or r i false) j ∙ rw (lt-ltb j w l))

pub joined_unpack : (w a b : ℕ) → unpacked_row w (bit_or a b) ≡ tab w (λ j. bit a j || bit b j)
unfolding unpacked_row
joined_unpack w a b = tab_equal w _ _ (λ j h. bit-joined a b j)

-- ---- a row of k words of w places

module _ (w k : ℕ) (j : ℕ) (hw : 0 < w) (hj : j < k * w) where
  word : j / w < k
  word = (div-lt_iff_lt-mul hw).1 hj

  place : j % w < w
  place = mod-lt j hw

  pub words_unpack : (p : ℕ → Bool) → mark_of w (packed_words w k p) j ≡ p j
  unfolding packed_words
  words_unpack p =
      rw (get_or_tab k (λ q. packed_row w (λ i. p (q * w + i))) (j / w) 0 word, bit-packed w (λ i. p (j / w * w + i)) (j % w), lt-ltb (j % w) w place) (ap p (div-add-mod' j w))

  pub words-joined : (x y : List ℕ) → mark_of w (joined_words k x y) j ≡ (mark_of w x j || mark_of w y j)
  unfolding joined_words
  words-joined x y = rw (get_or_tab k (λ q. bit_or (get_or x q 0) (get_or y q 0)) (j / w) 0 word) (bit-joined (get_or x (j / w) 0) (get_or y (j / w) 0) (j % w))
