-- A word of eight bytes is two halves of four, each by Horner's rule, and a word of two is two bytes; a byte past the end counts as 0.
use Prim.Native.Nat.{ℕ, zero, suc, ◌+◌, ◌*◌, ◌≤◌}
use mathlib.Core.Path.{◌≡◌, refl, ◌∙◌}
use mathlib.Core.List.{List, [], ◌∷◌}
use native.Mathlib.Omega.{arith}
use native.Mathlib.Nat.{add-zero}
use lib.ListN.{get_or, take, drop, length, get_or-eq_default}
use lib.Seq.{get_or-drop}
use Rattle.scope.specs.CardFile.{little_endian, word, short_word}

-- the rest of a list after its first element, and nothing after nothing
rest : List ℕ → List ℕ
rest [] = []
rest (b ∷ bs) = bs

get_or_rest : (l : List ℕ) (i : ℕ) → get_or (rest l) i 0 ≡ get_or l (suc i) 0
unfolding rest
get_or_rest [] i = refl
get_or_rest (b ∷ bs) i = refl

first_byte : (n : ℕ) (l : List ℕ) → little_endian (take (suc n) l) ≡ get_or l 0 0 + 256 * little_endian (take n (rest l))
unfolding little_endian rest
first_byte zero [] = refl
first_byte (suc n) [] = refl
first_byte n (b ∷ bs) = refl

abbrev pub four_bytes : List ℕ → ℕ → ℕ
four_bytes l k = get_or l k 0 + 256 * (get_or l (k + 1) 0 + 256 * (get_or l (k + 2) 0 + 256 * get_or l (k + 3) 0))

none : (l : List ℕ) → little_endian (take 0 l) ≡ 0
unfolding little_endian
none [] = refl
none (b ∷ bs) = refl

pub eight-bytes : (l : List ℕ) → little_endian (take 8 l) ≡ four_bytes l 0 + four_bytes l 4 * 4294967296
eight-bytes l =
    let l1 = rest l in let l2 = rest l1 in let l3 = rest l2 in let l4 = rest l3 in let l5 = rest l4 in let l6 = rest l5 in let l7 = rest l6 in
    let a0 = first_byte 7 l in let a1 = first_byte 6 l1 in let a2 = first_byte 5 l2 in let a3 = first_byte 4 l3 in
    let a4 = first_byte 3 l4 in let a5 = first_byte 2 l5 in let a6 = first_byte 1 l6 in let a7 = first_byte 0 l7 in
    let b1 : get_or l1 0 0 ≡ get_or l 1 0 = get_or_rest l 0 in
    let b2 : get_or l2 0 0 ≡ get_or l 2 0 = get_or_rest l1 0 ∙ get_or_rest l 1 in
    let b3 : get_or l3 0 0 ≡ get_or l 3 0 = get_or_rest l2 0 ∙ get_or_rest l1 1 ∙ get_or_rest l 2 in
    let b4 : get_or l4 0 0 ≡ get_or l 4 0 = get_or_rest l3 0 ∙ get_or_rest l2 1 ∙ get_or_rest l1 2 ∙ get_or_rest l 3 in
    let b5 : get_or l5 0 0 ≡ get_or l 5 0 = get_or_rest l4 0 ∙ get_or_rest l3 1 ∙ get_or_rest l2 2 ∙ get_or_rest l1 3 ∙ get_or_rest l 4 in
    let b6 : get_or l6 0 0 ≡ get_or l 6 0 = get_or_rest l5 0 ∙ get_or_rest l4 1 ∙ get_or_rest l3 2 ∙ get_or_rest l2 3 ∙ get_or_rest l1 4 ∙ get_or_rest l 5 in
    let b7 : get_or l7 0 0 ≡ get_or l 7 0 = get_or_rest l6 0 ∙ get_or_rest l5 1 ∙ get_or_rest l4 2 ∙ get_or_rest l3 3 ∙ get_or_rest l2 4 ∙ get_or_rest l1 5 ∙ get_or_rest l 6 in
    omega (arith, none (rest l7))

pub word_is : (l : List ℕ) (at : ℕ) → word l at ≡ four_bytes (drop at l) 0 + four_bytes (drop at l) 4 * 4294967296
unfolding word
word_is l at = eight-bytes (drop at l)

two_bytes : (l : List ℕ) → little_endian (take 2 l) ≡ get_or l 0 0 + 256 * get_or l 1 0
two_bytes l =
    let l1 = rest l in
    let a0 = first_byte 1 l in let a1 = first_byte 0 l1 in
    let b1 : get_or l1 0 0 ≡ get_or l 1 0 = get_or_rest l 0 in
    omega (arith, none (rest l1))

pub short_word_is : (l : List ℕ) (k : ℕ) → short_word l k ≡ get_or l k 0 + 256 * get_or l (k + 1) 0
unfolding short_word
short_word_is l k =
    let first : get_or (drop k l) 0 0 ≡ get_or l k 0 = rw add-zero at (get_or-drop k l 0 0) in
    omega (arith, two_bytes (drop k l), get_or-drop k l 1 0)

pub past_end : (l : List ℕ) (at k : ℕ) → length l ≤ at + k → get_or (drop at l) k 0 ≡ 0
past_end l at k h = get_or-drop at l k 0 ∙ get_or-eq_default l 0 h
