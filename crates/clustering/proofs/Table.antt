-- Tables that show a relation: reading, and storing marks row by row, one law for each step.
use Prim.Native.Nat.{ℕ, ◌+◌, ◌≤◌, ◌<◌}
use native.Mathlib.Omega.{arith}
use native.Mathlib.Decide.{ℕ_discrete}
use mathlib.Core.Path.{◌≡◌, refl, sym, ap, ◌∙◌}
use mathlib.Core.Bool.{Bool, true, false, ◌&&◌, ◌||◌, or-true, or-false, and-false}
use mathlib.Core.List.{List, []}
use lib.ListN.{length, get_or, set, replicate, length-set, length-replicate, get_or-replicate}
use lib.Seq.{get_or-set_same, get_or-set_other}
use lib.Dec.{eqb, ltb}
use borrow.Author.Tests.{lt-ltb, le-ltb, eq-eqb, ne_eqb}
use Rattle.scope.specs.Closure.{at, marked}
use Rattle.laws.proofs.Cases.{ltb_more}
use Rattle.laws.proofs.Marks.{at_marked}
use Rattle.clustering.specs.Table.{cell, mark, Shows}

-- ---- reading

-- a relation that agrees is shown as well
pub shows_same : {n : ℕ} {m : List (List ℕ)} {f : ℕ → ℕ → Bool} (g : ℕ → ℕ → Bool) → ((a b : ℕ) → a < n → b < n → f a b ≡ g a b) → Shows n m f → Shows n m g
shows_same g e s = record { rows = s.rows; columns = s.columns; cells = λ a b ha hb. s.cells a b ha hb ∙ ap mark (e a b ha hb) }

pub shows-marked : {n : ℕ} {m : List (List ℕ)} (f : ℕ → ℕ → Bool) → Shows n m f → Shows n m (at (marked n f))
shows-marked {n} f s = shows_same (at (marked n f)) (λ a b ha hb. sym (at_marked n f a b ha hb)) s

pub shows-none : (n r c : ℕ) → n ≤ r → n ≤ c → Shows n (replicate r (replicate c 0)) (λ a b. false)
shows-none n r c hr hc =
    let z : ℕ = 0 in
    record {
      rows = rw (length-replicate r (replicate c z)) hr;
      columns = λ i hi. rw (get_or-replicate r i (replicate c z) [] (omega arith), length-replicate c z) hc;
      cells = λ i j hi hj. rw (get_or-replicate r i (replicate c z) [] (omega arith), get_or-replicate c j z z (omega arith));
    }

-- ---- storing a mark

abbrev pub put : List (List ℕ) → ℕ → ℕ → ℕ → List (List ℕ)
put m i j v = set m i (set (get_or m i []) j v)

-- past the first n columns it does not matter what is stored
pub shows_put : {n : ℕ} {m : List (List ℕ)} {f : ℕ → ℕ → Bool} (i j v : ℕ) (g : ℕ → ℕ → Bool) → i < n → (j < n → v ≡ mark (g i j))
    → ((a b : ℕ) → a < n → b < n → (a ≡ i → b ≡ j → ⊥) → f a b ≡ g a b) → Shows n m f → Shows n (put m i j v) g
shows_put {n} {m} {f} i j v g hi t e s =
    record {
      rows = rw (length-set m i (set (get_or m i []) j v)) s.rows;
      columns = λ a ha. wide a ha (ℕ_discrete a i);
      cells = λ a b ha hb. at_cell a b ha hb (ℕ_discrete a i) (ℕ_discrete b j);
    }
  where
    here : i < length m
    here = omega (arith, s.rows)

    wide : (a : ℕ) → a < n → Dec (a ≡ i) → n ≤ length (get_or (put m i j v) a [])
    wide a ha (yes p) = rw (p, get_or-set_same m i (set (get_or m i []) j v) [] here, length-set (get_or m i []) j v) (s.columns i hi)
    wide a ha (no p) = rw (get_or-set_other m i a (set (get_or m i []) j v) [] p) (s.columns a ha)

    at_cell : (a b : ℕ) → a < n → b < n → Dec (a ≡ i) → Dec (b ≡ j) → cell (put m i j v) a b ≡ mark (g a b)
    at_cell a b ha hb (yes p) (yes q) =
        let there : j < length (get_or m i []) = omega (arith, s.columns i hi) in
        rw (p, q, get_or-set_same m i (set (get_or m i []) j v) [] here, get_or-set_same (get_or m i []) j v 0 there) (t (omega arith))
    at_cell a b ha hb (yes p) (no q) =
        rw (p, get_or-set_same m i (set (get_or m i []) j v) [] here, get_or-set_other (get_or m i []) j b v 0 q)
        (s.cells i b hi hb ∙ ap mark (e i b hi hb (λ x y. q y)))
    at_cell a b ha hb (no p) q =
        rw (get_or-set_other m i a (set (get_or m i []) j v) [] p) (s.cells a b ha hb ∙ ap mark (e a b ha hb (λ x y. p x)))

-- ---- marks added row by row: in row i up to column j where p passes, and in the rows before i where g does

abbrev pub along : (ℕ → ℕ → Bool) → (ℕ → Bool) → ℕ → ℕ → ℕ → ℕ → Bool
along f p i j a b = f a b || (eqb a i && (ltb b j && p b))

abbrev pub down : (ℕ → ℕ → Bool) → (ℕ → ℕ → Bool) → ℕ → ℕ → ℕ → Bool
down f g i a b = f a b || (ltb a i && g a b)

module _ (n : ℕ) (f : ℕ → ℕ → Bool) (p : ℕ → Bool) where
  along_other : (i j a b : ℕ) → (a ≡ i → b ≡ j → ⊥) → along f p i j a b ≡ along f p i (j + 1) a b
  along_other i j a b h = elim (ℕ_discrete a i) [ yes e ↦ rw (ltb_more b j (λ g. h e g)) | no e ↦ rw (ne_eqb a i e) ]

  along_skip : (i j a b : ℕ) → p j ≡ false → along f p i j a b ≡ along f p i (j + 1) a b
  along_skip i j a b t = elim (ℕ_discrete b j) [ yes e ↦ rw (e, t, and-false (ltb j j), and-false (ltb j (j + 1))) | no e ↦ rw (ltb_more b j e) ]

  pub along_taken : (i j : ℕ) {m : List (List ℕ)} → i < n → p j ≡ true → Shows n m (along f p i j) → Shows n (put m i j 1) (along f p i (j + 1))
  along_taken i j hi t s =
      shows_put i j 1 (along f p i (j + 1)) hi (λ hj. rw (eq-eqb i i refl, lt-ltb j (j + 1) (omega arith), t, or-true (f i j))) (λ a b ha hb d. along_other i j a b d) s

  pub along_left : (i j : ℕ) {m : List (List ℕ)} → p j ≡ false → Shows n m (along f p i j) → Shows n m (along f p i (j + 1))
  along_left i j t s = shows_same (along f p i (j + 1)) (λ a b ha hb. along_skip i j a b t) s

module _ (n : ℕ) (f g : ℕ → ℕ → Bool) where
  down-take : (i j a b : ℕ) → b < j → along (down f g i) (g i) i j a b ≡ down f g (i + 1) a b
  down-take i j a b h =
      elim (ℕ_discrete a i) [
        | yes e ↦ rw (e, eq-eqb i i refl, lt-ltb b j h, le-ltb i i (omega arith), lt-ltb i (i + 1) (omega arith), or-false (f i b))
        | no e ↦ rw (ne_eqb a i e, or-false (down f g i a b)) (rw (ltb_more a i e))
      ]

  -- row i has been passed whole
  pub down_taken : (i j : ℕ) {m : List (List ℕ)} → n ≤ j → Shows n m (along (down f g i) (g i) i j) → Shows n m (down f g (i + 1))
  down_taken i j hj s = shows_same (down f g (i + 1)) (λ a b ha hb. down-take i j a b (omega arith)) s

  pub down_end : (i : ℕ) {m : List (List ℕ)} → n ≤ i → Shows n m (down f g i) → Shows n m (λ a b. f a b || g a b)
  down_end i h s = shows_same (λ a b. f a b || g a b) (λ a b ha hb. rw (lt-ltb a i (omega arith))) s
