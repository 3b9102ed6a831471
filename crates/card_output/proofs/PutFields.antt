-- Fields put one after the other: a head and its body, the circles' fields and the regions' up to a place.
use Prim.Native.Nat.{ℕ, ◌+◌, ◌*◌, ◌≤◌, ◌<◌}
use native.Mathlib.Decide.{dec_lt}
use native.Mathlib.Omega.{arith}
use native.Mathlib.Numerals.{add-one}
use mathlib.Core.Path.{◌≡◌, refl, sym, ap}
use mathlib.Core.List.{List, ◌∷◌, append-nil}
use lib.ListN.{length, get_or, take}
use lib.Seq.{take-suc, take_all, length-take-le}
use Rattle.shapes.specs.declared.circle.Circle.{Circle}
use Rattle.scope.specs.Links.{circle, nowhere}
use Rattle.scope.specs.CardFile.{length_of_body}
use Rattle.scope.specs.Saving.{low_bytes, field, circle_body, region_body, circle_fields, region_fields}
use Rattle.std.proofs.lemmas.List.{nil_from_length, get_or_default}
use Rattle.laws.proofs.Saving.{field_is, field-length, region_body-length, circle_fields_append, circle_fields-length}
use Rattle.card_output.specs.Puts.{Put}
use Rattle.card_output.specs.Typed.{IsTyped}
use Rattle.card_output.proofs.Putting.{put_none, put_both, put_equal}

-- a tag and its body's length, then the body
pub put_field : (t : ℕ) {bs k l m : List ℕ} {p q r : ℕ} → length bs ≡ length_of_body t → Put (t ∷ low_bytes 2 (length_of_body t)) p k q l → Put bs q l r m → Put (field t bs) p k r m
put_field t {bs} e x y = put_equal (sym (field_is t (length_of_body t) bs e)) (put_both x y)

-- ---- circles

module _ (cs : List Circle) where
  pub circles-none : (at : ℕ) (l : List ℕ) → Put (circle_fields (take 0 cs)) at l at l
  unfolding circle_fields
  circles-none at l = put_none at l

  pub circles_next : (i : ℕ) (d : Circle) {k l m : List ℕ} {p q r : ℕ} → i < length cs → Put (circle_fields (take i cs)) p k q l
      → Put (field 2 (circle_body (get_or cs i d))) q l r m → Put (circle_fields (take (i + 1) cs)) p k r m
  unfolding circle_fields
  circles_next i d h x y = rw (add-one i, take-suc cs i d h, circle_fields_append, append-nil) (put_both x y)

  pub circles-place : (i : ℕ) {k l : List ℕ} {p q : ℕ} → i ≤ length cs → Put (circle_fields (take i cs)) p k q l → q ≡ p + 29 * i
  circles-place i h x = omega (arith, x.place, circle_fields-length (take i cs), length-take-le i cs h)

  pub circles_all : (i : ℕ) {k l : List ℕ} {p q : ℕ} → length cs ≤ i → Put (circle_fields (take i cs)) p k q l → Put (circle_fields cs) p k q l
  circles_all i h x = put_equal (ap circle_fields (take_all i cs h)) x

  -- the circles before a place were read, so their numbers are known to be such as a caller's are
  pub typed_next : (i : ℕ) (d : Circle) → i < length cs → ((j : ℕ) → j < i → IsTyped (circle cs j)) → IsTyped (get_or cs i d)
      → (j : ℕ) → j < i + 1 → IsTyped (circle cs j)
  typed_next i d h before it j g = elim (dec_lt j i) [
    | yes l ↦ before j l
    | no l ↦ let same : j ≡ i = omega arith in rw (same, get_or_default cs i nowhere d h) it
  ]

-- ---- regions

-- what is still to be put behind `list`, so that all is
pub record Left (all : List ℕ) (at : ℕ) (before masks patterns : List ℕ) (next : ℕ) (list : List ℕ) : Type 0 where
  pub even : length patterns ≡ length masks
  pub room : next + 19 * length masks ≤ length list
  pub rest : (end : ℕ) (after : List ℕ) → Put (region_fields masks patterns) next list end after → Put all at before end after

region-length : (mask pattern : ℕ) → length (field 3 (region_body mask pattern)) ≡ 19
region-length mask pattern = rw (field-length, region_body-length) refl

pub regions_begin : {masks patterns : List ℕ} (left areas list : List ℕ) (at : ℕ) → left ≡ masks → areas ≡ patterns
    → length patterns ≡ length masks → at + 19 * length masks ≤ length list
    → Left (region_fields masks patterns) at list left areas at list
regions_begin left areas list at d e even room = rw (d, e) (record { even = even; room = room; rest = λ end after x. x })

module _ {all before masks patterns list : List ℕ} {at next : ℕ} (left : Left all at before masks patterns next list) where
  pub region_next : {mask pattern end : ℕ} {others areas after : List ℕ} → masks ≡ mask ∷ others → patterns ≡ pattern ∷ areas
      → Put (field 3 (region_body mask pattern)) next list end after → length after ≡ length list
      → Left all at before others areas end after
  unfolding region_fields
  region_next {mask} {pattern} d e x long =
      record {
        even = let h = rw (d, e) at left.even in omega (arith, h);
        room = let h = rw d at left.room in omega (arith, h, x.place, region-length mask pattern, long);
        rest = λ end after y. left.rest end after (rw (d, e) (put_both x y));
      }

  pub regions_end : length masks ≡ 0 → Put all at before next list
  unfolding region_fields
  regions_end h = left.rest next list (rw (nil_from_length masks h) (put_none next list))
