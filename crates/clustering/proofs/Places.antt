-- The places of a packed row: the first, the row without it, and the row of all places below n.
use Prim.Native.Nat.{ℕ, ◌-◌, ◌^◌, ◌<◌}
use native.Mathlib.Omega.{arith}
use native.Mathlib.Decide.{dec_lt}
use mathlib.Core.Path.{◌≡◌, refl, sym, ◌∙◌}
use mathlib.Core.Bool.{Bool, true, false, not, ◌&&◌, and-true, false≢true}
use lib.Bits.{bit_and, and_le_r}
use lib.Count.{count_trailing_zeros}
use lib.Dec.{eqb, ltb}
use Rattle.scope.specs.Runs.{bit}
use Rattle.laws.proofs.PackedRows.{bit-none, bit_without, bit-packed, all_marked}
use Rattle.intake.specs.Firsts.{FirstFrom}
use Rattle.intake.proofs.Beyond.{no_bit_beyond}
use Rattle.intake.proofs.TrailingZeros.{lowest_there, none-lower, lowest_cleared}

-- ---- the first

pub first-there : (m : ℕ) → m < 2 ^ 64 → (m ≡ 0 → ⊥) → bit m (count_trailing_zeros 64 m) ≡ true
first-there m f h = lowest_there 64 m f h

pub first-inside : (m : ℕ) → m < 2 ^ 64 → (m ≡ 0 → ⊥) → count_trailing_zeros 64 m < 64
first-inside m f h = elim (dec_lt (count_trailing_zeros 64 m) 64) [ yes l ↦ l | no g ↦ absurd (false≢true (no_bit_beyond m (count_trailing_zeros 64 m) f (omega arith) ∙ first-there m f h)) ]

pub first_found : (m : ℕ) → m < 2 ^ 64 → (m ≡ 0 → ⊥) → FirstFrom (bit m) 0 64 (count_trailing_zeros 64 m)
first_found m f h = record {
  beyond = omega arith;
  within = omega (arith, first-inside m f h);
  passed = λ k a b. none-lower 64 m k b;
  found = λ g. first-there m f h;
}

pub first-none : FirstFrom (bit 0) 0 64 64
first-none = record { beyond = omega arith; within = omega arith; passed = λ k a b. bit-none k; found = λ g. absurd (omega arith) }

pub first-only : {p : ℕ → Bool} {n i k : ℕ} → FirstFrom p 0 n i → FirstFrom p 0 n k → i ≡ k
first-only {p} {n} {i} {k} a b = elim (dec_lt i k) [
  | yes l ↦ absurd (false≢true (sym (b.passed i (omega arith) l) ∙ a.found (omega (arith, b.within))))
  | no g ↦ elim (dec_lt k i) [ yes l ↦ absurd (false≢true (sym (a.passed k (omega arith) l) ∙ b.found (omega (arith, a.within)))) | no f ↦ omega arith ]
]

-- ---- the row of all places below n

pub bit_below : (n j : ℕ) → bit (2 ^ n - 1) j ≡ ltb j n
bit_below n j = rw (← all_marked n) (bit-packed n (λ i. true) j ∙ and-true (ltb j n))

-- ---- a row without its first place

pub without_first : (m i j : ℕ) → m < 2 ^ 64 → (m ≡ 0 → ⊥) → FirstFrom (bit m) 0 64 i → bit (bit_and m (m - 1)) j ≡ (bit m j && not (eqb j i))
without_first m i j f h s =
    let e = first-only s (first_found m f h) in
    rw (lowest_cleared 64 m h f, ← e) (bit_without m i j (rw e (rw (first-there m f h) tt)))

pub smaller_without : (m : ℕ) → (m ≡ 0 → ⊥) → bit_and m (m - 1) < m
smaller_without m h = omega (arith, and_le_r m (m - 1))

-- the places that are left are places of the row still
pub still_places : (row rest left j : ℕ) → ((b : ℕ) → bit rest b ≡ true → bit row b ≡ true) → ((b : ℕ) → bit left b ≡ (bit rest b && not (eqb b j)))
    → (b : ℕ) → bit left b ≡ true → bit row b ≡ true
still_places row rest left j h t b e = h b (first_of_both (bit rest b) (not (eqb b j)) (sym (t b) ∙ e))
  where
    first_of_both : (x y : Bool) → (x && y) ≡ true → x ≡ true
    first_of_both true y e = refl
    first_of_both false y e = absurd (false≢true e)
