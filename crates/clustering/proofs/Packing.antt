-- Rows of marks as words and words as rows of marks: one law for each step, whatever the width.
use Prim.Native.Nat.{ℕ, ◌+◌, ◌*◌, ◌%◌, ◌^◌, ◌≤◌, ◌<◌}
use native.Mathlib.Omega.{arith}
use native.Mathlib.Numerals.{add-one}
use native.Mathlib.Decide.{dec_lt, ℕ_discrete}
use native.Mathlib.Nat.{zero-mul}
use mathlib.Core.Path.{◌≡◌, refl, sym, ap, ◌∙◌}
use mathlib.Core.Bool.{Bool, true, false, not, cond, ◌&&◌, and-true, and-false, and-not_self}
use mathlib.Core.List.{List, []}
use lib.ListN.{length, get_or, set, replicate, length-set, length-replicate, get_or-replicate}
use lib.Bits.{bit_or, or_zero_r, or_shifted_r}
use lib.Pow.{shl_exact}
use lib.Seq.{get_or-set_same, get_or-set_other}
use lib.Dec.{eqb, ltb}
use borrow.Author.Tests.{lt-ltb, eq-eqb, ne_eqb}
use Rattle.scope.specs.Runs.{bit, gather}
use Rattle.scope.specs.PackedRows.{packed_row}
use Rattle.laws.proofs.Cases.{ltb_more}
use Rattle.laws.proofs.PackedRows.{bit-none, bit-packed, packed-small}
use Rattle.clustering.specs.Table.{mark, Shows, Row, Holds}
use Rattle.clustering.proofs.Table.{put, shows_same, shows_put}

-- ---- a row of marks as a word

pub none-packed : (p : ℕ → Bool) → 0 ≡ packed_row 0 p
unfolding packed_row gather
none-packed p = refl

one_more-mark : (b : Bool) (x j : ℕ) → x < 2 ^ j → cond b (x + 2 ^ j) x ≡ bit_or x (mark b * 2 ^ j)
one_more-mark true x j h = omega (arith, or_shifted_r 1 j x h)
one_more-mark false x j h = rw (zero-mul (2 ^ j), or_zero_r x)

packed_more : (j : ℕ) (p : ℕ → Bool) → packed_row (j + 1) p ≡ bit_or (packed_row j p) (mark (p j) * 2 ^ j)
unfolding packed_row gather
packed_more j p = rw add-one (one_more-mark (p j) (packed_row j p) j (packed-small j p))

mark-small : (b : Bool) → mark b < 2 ^ 1
mark-small true = omega arith
mark-small false = omega arith

-- a mark moved to its place in a word of w places, and joined
pub packed_step : (w j x c : ℕ) (p : ℕ → Bool) → j < w → c ≡ mark (p j) → x ≡ packed_row j p → bit_or x (c * 2 ^ j % 2 ^ w) ≡ packed_row (j + 1) p
packed_step w j x c p h e g = rw (e, g, shl_exact 1 j w (mark-small (p j)) (omega arith)) (sym (packed_more j p))

-- ---- a table of marks as words, row by row

-- the rows before i are held; the words from i on are free
pub record HeldTo (n i : ℕ) (rows : List ℕ) (f : ℕ → ℕ → Bool) : Type 0 where
  pub words : n ≤ length rows
  pub places : (a j : ℕ) → a < i → bit (get_or rows a 0) j ≡ (ltb j n && f a j)

module _ (n : ℕ) (f : ℕ → ℕ → Bool) where
  pub held_more : (i w : ℕ) {rows : List ℕ} → i < n → w ≡ packed_row n (f i) → HeldTo n i rows f → HeldTo n (i + 1) (set rows i w) f
  held_more i w {rows} hi e s =
      record {
        words = rw (length-set rows i w) s.words;
        places = λ a j l.
            elim (ℕ_discrete a i) [
              | yes q ↦ rw (q, get_or-set_same rows i w 0 (omega (arith, s.words)), e) (bit-packed n (f i) j)
              | no q ↦ rw (get_or-set_other rows i a w 0 q) (s.places a j (omega arith))
            ];
      }

  pub held_end : (i : ℕ) {rows : List ℕ} → n ≤ i → HeldTo n i rows f → Holds n rows f
  held_end i h s = record { words = s.words; places = λ a j l. s.places a j (omega arith) }

-- ---- storing a row

-- a row past the first n is not shown
pub shows-row : {n : ℕ} {m : List (List ℕ)} {f : ℕ → ℕ → Bool} (i : ℕ) (row : List ℕ) (g : ℕ → ℕ → Bool) → (i < n → n ≤ length row) → (i < n → Row n row (g i))
    → ((a b : ℕ) → a < n → b < n → (a ≡ i → ⊥) → f a b ≡ g a b) → Shows n m f → Shows n (set m i row) g
shows-row {n} {m} {f} i row g long t e s =
    record {
      rows = rw (length-set m i row) s.rows;
      columns = λ a ha.
          elim (ℕ_discrete a i) [
            | yes p ↦ rw (p, get_or-set_same m i row [] (omega (arith, s.rows))) (long (omega arith))
            | no p ↦ rw (get_or-set_other m i a row [] p) (s.columns a ha)
          ];
      cells = λ a b ha hb.
          elim (ℕ_discrete a i) [
            | yes p ↦ rw (p, get_or-set_same m i row [] (omega (arith, s.rows))) (t (omega arith) b hb)
            | no p ↦ rw (get_or-set_other m i a row [] p) (s.cells a b ha hb ∙ ap mark (e a b ha hb p))
          ];
    }

-- ---- a word as a row of marks, place by place

-- row i shows the places of a word, the other rows what they did
abbrev pub with_row : (ℕ → ℕ → Bool) → ℕ → ℕ → ℕ → ℕ → Bool
with_row f i row a b = cond (eqb a i) (bit row b) (f a b)

-- the same without the places that are left
abbrev pub with_places : (ℕ → ℕ → Bool) → ℕ → ℕ → ℕ → ℕ → ℕ → Bool
with_places f i row rest a b = cond (eqb a i) (bit row b && not (bit rest b)) (f a b)

module _ (n : ℕ) (f : ℕ → ℕ → Bool) (i row : ℕ) where
  pub places-start : (room : ℕ) {m : List (List ℕ)} → n ≤ room → Shows n m f → Shows n (set m i (replicate room 0)) (with_places f i row row)
  places-start room {m} h s =
      let z : ℕ = 0 in
      shows-row i (replicate room z) (with_places f i row row) (λ hi. rw (length-replicate room z) h)
      (λ hi b hb. rw (get_or-replicate room b z z (omega arith), eq-eqb i i refl, and-not_self (bit row b)))
      (λ a b ha hb d. rw (ne_eqb a i d)) s

  module _ (j rest left : ℕ) (there : bit row j ≡ true) (taken : (b : ℕ) → bit left b ≡ (bit rest b && not (eqb b j))) where
    place_shown : with_places f i row left i j ≡ true
    place_shown = rw (eq-eqb i i refl, there, taken j, eq-eqb j j refl, and-false (bit rest j))

    others-kept : (a b : ℕ) → (a ≡ i → b ≡ j → ⊥) → with_places f i row rest a b ≡ with_places f i row left a b
    others-kept a b d = elim (ℕ_discrete a i) [ yes e ↦ rw (taken b, ne_eqb b j (d e), and-true (bit rest b)) | no e ↦ rw (ne_eqb a i e) ]

    pub places_more : {m : List (List ℕ)} → Shows n m (with_places f i row rest) → Shows n (put m i j 1) (with_places f i row left)
    places_more {m} s =
        elim (dec_lt i n) [
          | yes h ↦ shows_put i j 1 (with_places f i row left) h (λ hj. rw place_shown) (λ a b ha hb d. others-kept a b d) s
          | no h ↦ shows-row i (set (get_or m i []) j 1) (with_places f i row left) (λ k. absurd (omega arith)) (λ k. absurd (omega arith))
              (λ a b ha hb d. others-kept a b (λ e. absurd (d e))) s
        ]

  pub places_end : (rest : ℕ) {m : List (List ℕ)} → rest ≡ 0 → Shows n m (with_places f i row rest) → Shows n m (with_row f i row)
  places_end rest e s = shows_same (with_row f i row) (λ a b ha hb. rw (e, bit-none b, and-true (bit row b))) s

-- ---- words as rows of marks, row by row

-- the rows before i show f, the others g
abbrev pub shown_to : (ℕ → ℕ → Bool) → (ℕ → ℕ → Bool) → ℕ → ℕ → ℕ → Bool
shown_to f g i a b = cond (ltb a i) (f a b) (g a b)

module _ (n : ℕ) (f g : ℕ → ℕ → Bool) where
  pub shown_end : (i : ℕ) {m : List (List ℕ)} → n ≤ i → Shows n m (shown_to f g i) → Shows n m f
  shown_end i h s = shows_same f (λ a b ha hb. rw (lt-ltb a i (omega arith))) s

  other_rows : (i a b : ℕ) → (a ≡ i → ⊥) → shown_to f g i a b ≡ shown_to f g (i + 1) a b
  other_rows i a b d = rw (ltb_more a i d)

  module _ (rows : List ℕ) (h : Holds n rows f) where
    held : (a b : ℕ) → a < n → b < n → bit (get_or rows a 0) b ≡ f a b
    held a b ha hb = h.places a b ha ∙ rw (lt-ltb b n hb)

    pub row_unpacked : (i : ℕ) {m : List (List ℕ)} → i < n → Shows n m (with_row (shown_to f g i) i (get_or rows i 0)) → Shows n m (shown_to f g (i + 1))
    row_unpacked i hi s =
        shows_same (shown_to f g (i + 1))
        (λ a b ha hb.
        elim (ℕ_discrete a i) [
          | yes e ↦ rw (e, eq-eqb i i refl, lt-ltb i (i + 1) (omega arith)) (held i b hi hb)
          | no e ↦ rw (ne_eqb a i e) (other_rows i a b e)
        ])
        s

    -- equal words have equal rows
    pub row_copied : (i k : ℕ) {m : List (List ℕ)} → i < n → k < i → get_or rows k 0 ≡ get_or rows i 0 → Shows n m (shown_to f g i)
        → Shows n (set m i (get_or m k [])) (shown_to f g (i + 1))
    row_copied i k {m} hi hk e s =
        shows-row i (get_or m k []) (shown_to f g (i + 1)) (λ l. s.columns k (omega arith)) (λ l b hb. s.cells k b (omega arith) hb ∙ ap mark (same b hb))
        (λ a b ha hb d. other_rows i a b d) s
      where
        same : (b : ℕ) → b < n → shown_to f g i k b ≡ shown_to f g (i + 1) i b
        same b hb = rw (lt-ltb k i hk, lt-ltb i (i + 1) (omega arith)) (sym (held k b (omega arith) hb) ∙ ap (λ (w : ℕ). bit w b) e ∙ held i b hi hb)
