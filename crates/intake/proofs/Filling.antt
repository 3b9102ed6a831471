-- A loop over a run that writes one number of each record into an array: what stands there after i turns, and in its front at the end.
use Prim.Native.Nat.{ℕ, ◌+◌, ◌-◌, ◌≤◌, ◌<◌, min}
use native.Mathlib.Decide.{dec_lt}
use native.Mathlib.Numerals.{add-one}
use native.Mathlib.Omega.{arith}
use mathlib.Core.Path.{◌≡◌, sym, subst, ◌∙◌}
use mathlib.Core.List.{List, ◌++◌}
use lib.ListN.{length, get_or, set, take, drop, replicate, length-take}
use lib.Seq.{take_all, take_at, drop-append_seam}
use Rattle.std.proofs.lemmas.List.{get_or_default}
use Rattle.intake.proofs.Overwriting.{over, over_next}
use lib.Ieee.{Float, nan}
use Rattle.scope.specs.Links.{nowhere}
use Rattle.scope.specs.Packing.{no_rectangle}
use Rattle.scope.specs.Refusals.{inks}
use Rattle.laws.proofs.Accepted.{ink_at_lem, length-inks}
use Rattle.laws.proofs.Runs.{drop-replicate}
use Rattle.intake.specs.Limits.{max_circles}
use Rattle.intake.specs.Columns.{xs_of, ys_of, radii_of, widths_of, heights_of}
use Rattle.intake.proofs.Columns.{length_xs, x_at, length_ys, y_at, length-radii, radius_at, length_widths, width_at_lem, length_heights, height_at_lem}

-- one number of each record: of a record, of each record of a run as their column, and what is read past the ends
pub record Field {A : Type 0} (d : A) (B : Type 0) : Type 0 where
  pub of : A → B
  pub none : B
  pub column : List A → List B
  pub long : (cs : List A) → length (column cs) ≡ length cs
  pub same : (cs : List A) (i : ℕ) → i < length cs → get_or (column cs) i none ≡ of (get_or cs i d)

-- ---- those of a circle and of a box
abbrev pub the_x : Field nowhere Float
the_x = record { of = λ c. c.center.x; none = nan; column = xs_of; long = length_xs; same = x_at }

abbrev pub the_y : Field nowhere Float
the_y = record { of = λ c. c.center.y; none = nan; column = ys_of; long = length_ys; same = y_at }

abbrev pub the_radius : Field nowhere Float
the_radius = record { of = λ c. c.radius; none = nan; column = radii_of; long = length-radii; same = radius_at }

abbrev pub the_ink : Field nowhere ℕ
the_ink = record { of = λ c. c.ink; none = 0; column = inks; long = length-inks; same = λ cs i h. ink_at_lem cs i }

abbrev pub the_width : Field no_rectangle Float
the_width = record { of = λ r. r.width; none = nan; column = widths_of; long = length_widths; same = width_at_lem }

abbrev pub the_height : Field no_rectangle Float
the_height = record { of = λ r. r.height; none = nan; column = heights_of; long = length_heights; same = height_at_lem }

-- ---- the loop

-- as many as there is room for
pub front_of_all : {A : Type 0} (all : List A) (n : ℕ) → n ≡ min (length all) max_circles → take n all ≡ take max_circles all
front_of_all all n e = elim (dec_lt (length all) max_circles) [
  | yes h ↦ take_all n all (omega arith) ∙ sym (take_all max_circles all (omega arith))
  | no h ↦ let same : n ≡ max_circles = omega arith in rw same
]

module _ {A B : Type 0} {d : A} (k : Field d B) (cs : List A) (zs : List B) (room : length cs ≤ length zs) where
  pub one_filled : (i : ℕ) (d' : A) {m : List B} → i < length cs → m ≡ over i (k.column cs) zs → set m i (k.of (get_or cs i d')) ≡ over (i + 1) (k.column cs) zs
  one_filled i d' {m} h e =
      rw (e, add-one, get_or_default cs i d' d h, ← k.same cs i h)
      (over_next i (k.column cs) zs k.none (rw (k.long cs) h) (omega arith))

  pub all_filled : (i : ℕ) {m : List B} → i ≤ length cs → length cs ≤ i → m ≡ over i (k.column cs) zs → take (length cs) m ≡ k.column cs
  all_filled i {m} low high e =
      let same : i ≡ length cs = omega arith in
      let whole : take i (k.column cs) ≡ k.column cs = take_all i (k.column cs) (rw (k.long cs) high) in
      rw (e, whole) (take_at (k.column cs) (drop i zs) (length cs) (k.long cs))

-- of the first 64 records at most
module _ {A B : Type 0} {d : A} (k : Field d B) (all : List A) (n : ℕ) (few : n ≡ min (length all) max_circles) (zs : List B) (wide : length zs ≡ max_circles) where
  long : length (take n all) ≡ n
  long = rw length-take (omega arith)

  room : length (take n all) ≤ length zs
  room = rw (long, wide) (omega arith)

  pub front_next_filled : (i : ℕ) (d' : A) {m : List B} → i < n → m ≡ over i (k.column (take n all)) zs
      → set m i (k.of (get_or (take n all) i d')) ≡ over (i + 1) (k.column (take n all)) zs
  front_next_filled i d' h e = one_filled k (take n all) zs room i d' (rw long h) e

  pub front_filled : (i : ℕ) {m : List B} → i ≤ n → n ≤ i → m ≡ over i (k.column (take n all)) zs → take n m ≡ k.column (take max_circles all)
  front_filled i {m} low high e =
      rw (← front_of_all all n few)
      (rw long at (all_filled k (take n all) zs room i {m = m} (rw long low) (rw long high) e))

  -- behind them, what the array was made of
  pub behind : (i : ℕ) {m : List B} (z : B) → zs ≡ replicate max_circles z → i ≤ n → n ≤ i → m ≡ over i (k.column (take n all)) zs
      → drop n m ≡ replicate (max_circles - n) z
  behind i {m} z made low high e =
      let col = k.column (take n all) in
      let same : i ≡ n = omega arith in
      let width : length col ≡ n = k.long (take n all) ∙ long in
      let seam : drop n (col ++ drop n (replicate max_circles z)) ≡ drop n (replicate max_circles z) =
      subst (λ (j : ℕ). drop j (col ++ drop n (replicate max_circles z)) ≡ drop n (replicate max_circles z)) width (drop-append_seam col (drop n (replicate max_circles z))) in
      rw (e, same, made, take_all n col (omega (arith, width))) (seam ∙ drop-replicate n max_circles z)
