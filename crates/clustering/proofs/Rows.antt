-- Packed rows that hold a relation: storing a row, and the rows of a mask joined with it.
use Prim.Native.Nat.{ℕ, ◌≤◌, ◌<◌}
use native.Mathlib.Omega.{arith}
use native.Mathlib.Decide.{dec_lt, ℕ_discrete}
use mathlib.Core.Path.{◌≡◌, refl, sym, ◌∙◌}
use mathlib.Core.Bool.{Bool, true, false, not, ◌&&◌, ◌||◌, and-true, and-false, or-false}
use mathlib.Core.List.{List}
use lib.Bits.{bit_or}
use lib.Dec.{eqb, ltb}
use lib.ListN.{get_or, set, replicate, length-set, length-replicate, get_or-replicate}
use lib.Seq.{get_or-set_same, get_or-set_other}
use borrow.Author.Tests.{lt-ltb, le-ltb, eq-eqb, ne_eqb}
use Rattle.scope.specs.Runs.{bit}
use Rattle.scope.specs.Closure.{marked, at}
use Rattle.laws.proofs.Marks.{at_marked}
use Rattle.laws.proofs.MaskBits.{bit-joined}
use Rattle.laws.proofs.PackedRows.{bit-none}
use Rattle.clustering.specs.Table.{Holds}

-- a relation that agrees is held as well
pub holds_same : {n : ℕ} {rows : List ℕ} {f : ℕ → ℕ → Bool} (g : ℕ → ℕ → Bool) → ((a b : ℕ) → a < n → b < n → f a b ≡ g a b) → Holds n rows f → Holds n rows g
holds_same {n} {rows} {f} g e s = record { words = s.words; places = λ a b ha. s.places a b ha ∙ within a b ha }
  where
    within : (a b : ℕ) → a < n → (ltb b n && f a b) ≡ (ltb b n && g a b)
    within a b ha = elim (dec_lt b n) [ yes hb ↦ rw (lt-ltb b n hb) (e a b ha hb) | no hb ↦ rw (le-ltb b n (omega arith)) ]

pub holds-marked : {n : ℕ} {rows : List ℕ} (f : ℕ → ℕ → Bool) → Holds n rows f → Holds n rows (at (marked n f))
holds-marked {n} f s = holds_same (at (marked n f)) (λ a b ha hb. sym (at_marked n f a b ha hb)) s

pub holds-none : (n w : ℕ) → n ≤ w → Holds n (replicate w 0) (λ a b. false)
holds-none n w h = record {
  words = let z : ℕ = 0 in rw (length-replicate w z) h;
  places = λ a b ha. let z : ℕ = 0 in rw (get_or-replicate w a z z (omega arith), and-false (ltb b n)) (bit-none b);
}

-- ---- storing a row; past the first n it does not matter what is stored
pub holds-set : {n : ℕ} {rows : List ℕ} {f : ℕ → ℕ → Bool} (i x : ℕ) (g : ℕ → ℕ → Bool) → (i < n → (j : ℕ) → bit x j ≡ (ltb j n && g i j))
    → ((a b : ℕ) → a < n → b < n → (a ≡ i → ⊥) → f a b ≡ g a b) → Holds n rows f → Holds n (set rows i x) g
holds-set {n} {rows} {f} i x g t e s = record { words = rw (length-set rows i x) s.words; places = λ a b ha. stored a b ha (ℕ_discrete a i) }
  where
    other : (a b : ℕ) → a < n → (a ≡ i → ⊥) → (ltb b n && f a b) ≡ (ltb b n && g a b)
    other a b ha p = elim (dec_lt b n) [ yes hb ↦ rw (lt-ltb b n hb) (e a b ha hb p) | no hb ↦ rw (le-ltb b n (omega arith)) ]

    stored : (a b : ℕ) → a < n → Dec (a ≡ i) → bit (get_or (set rows i x) a 0) b ≡ (ltb b n && g a b)
    stored a b ha (yes p) = let hi : i < n = omega arith in rw (p, get_or-set_same rows i x 0 (omega (arith, s.words))) (t hi b)
    stored a b ha (no p) = rw (get_or-set_other rows i a x 0 p) (s.places a b ha ∙ other a b ha p)

-- ---- a mask joined to the row of each of its circles but those of `rest`
abbrev pub joined_but : ℕ → ℕ → (ℕ → ℕ → Bool) → ℕ → ℕ → Bool
joined_but mask rest f a b = f a b || ((bit mask a && not (bit rest a)) && bit mask b)

pub mask_step : (n mask rest after i : ℕ) (f : ℕ → ℕ → Bool) {rows : List ℕ} → bit mask i ≡ true → bit rest i ≡ true
    → ((j : ℕ) → bit after j ≡ (bit rest j && not (eqb j i))) → ((j : ℕ) → n ≤ j → bit mask j ≡ false)
    → Holds n rows (joined_but mask rest f) → Holds n (set rows i (bit_or (get_or rows i 0) mask)) (joined_but mask after f)
mask_step n mask rest after i f {rows} hm hr ha out s =
    holds-set i (bit_or (get_or rows i 0) mask) (joined_but mask after f)
    (λ hi j. bit-joined (get_or rows i 0) mask j ∙ rw (s.places i j hi, ha i, hm, hr, eq-eqb i i refl, or-false (f i j)) (inside j))
    (λ a b la lb p. rw (ha a, ne_eqb a i p, and-true (bit rest a)))
    s
  where
    inside : (j : ℕ) → ((ltb j n && f i j) || bit mask j) ≡ (ltb j n && (f i j || bit mask j))
    inside j = elim (dec_lt j n) [ yes l ↦ rw (lt-ltb j n l) | no g ↦ rw (le-ltb j n (omega arith), out j (omega arith)) ]

pub mask_end : (n mask : ℕ) (f : ℕ → ℕ → Bool) {rows : List ℕ} → Holds n rows (joined_but mask 0 f) → Holds n rows (λ a b. f a b || (bit mask a && bit mask b))
mask_end n mask f s = holds_same (λ a b. f a b || (bit mask a && bit mask b)) (λ a b ha hb. rw (bit-none a, and-true (bit mask a))) s
