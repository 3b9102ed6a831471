-- The reader at a field that starts what is left: the first gives the factor, a circle or a region is added to the card; and after a field that was accepted
-- the card is that.
use Prim.Native.Nat.{ℕ, suc, ◌<◌}
use native.Mathlib.Omega.{arith}
use mathlib.Core.Path.{◌≡◌, refl, ap, ◌∙◌}
use mathlib.Core.Logic.Iff
use mathlib.Core.Logic.{◌↔◌, ◌⊎◌, inl, inr, ⊎_elim}
use mathlib.Core.Bool.{◌&&◌, ◌||◌}
use mathlib.Core.List.{List}
use lib.Dec.{T, eqb}
use lib.ListN.{length, drop}
use Rattle.scope.specs.Limits.{circle_cap, region_cap}
use Rattle.scope.specs.CardFile.{Card, tag, body, word, float_of, circle_from, started, with_field, misplaced, first_refusal, next_refusal, fields, read_file, length_of_body}
use Rattle.laws.specs.CardFiles.{after_field}
use Rattle.laws.specs.Fields.{Whole, Starts, with_circle, with_region}
use Rattle.laws.proofs.Cases.{or_iff, sum_iff, and_iff, not_not_iff, eqb_iff}
use Rattle.laws.proofs.Accepted.{not_too_many_iff, not_too_many_regions_iff}
use Rattle.laws.proofs.CardFiles.{next_field, goes_on, after_factor}
use Rattle.laws.proofs.Fields.{head_there, first_accepted_iff, next_accepted_iff}

-- a circle stands before all regions, and a region anywhere
in_place_iff : (card : Card) (t : ℕ) → (¬ T (misplaced card t)) ↔ (((t ≡ 2) × (length card.masks ≡ 0)) ⊎ (t ≡ 3))
unfolding misplaced
in_place_iff card t =
    let none = eqb_iff (length card.masks) 0 in
    let both = and_iff (eqb t 2) (eqb (length card.masks) 0) in
    Iff.trans (not_not_iff (eqb t 2 && eqb (length card.masks) 0 || eqb t 3))
    (Iff.trans (or_iff (eqb t 2 && eqb (length card.masks) 0) (eqb t 3))
    (sum_iff (λ h. ((eqb_iff t 2).0 (both.0 h).0, none.0 (both.0 h).1), λ h. both.1 ((eqb_iff t 2).1 h.0, none.1 h.1)) (eqb_iff t 3)))

-- ---- what a field adds

module _ (card : Card) (rest bs more : List ℕ) where
  adds_circle : Starts rest 2 bs more → with_field card rest ≡ with_circle card (circle_from bs)
  unfolding with_field
  adds_circle s = rw (s.tagged, s.holds)

  adds_region : Starts rest 3 bs more → with_field card rest ≡ with_region card (word bs 0) (word bs 8)
  unfolding with_field
  adds_region s = rw (s.tagged, s.holds)

-- ---- forth

module _ (card : Card) (rest bs more : List ℕ) where
  read_on_lem : {t : ℕ} → Starts rest t bs more → next_refusal card rest ≡ 0 → fields 0 card rest ≡ fields 0 (with_field card rest) more
  read_on_lem s e =
      next_field card rest (omega (arith, head_there rest s.whole)) ∙ goes_on (next_refusal card rest) _ e ∙ ap (fields 0 (with_field card rest)) s.leaves

  pub circle_next : Starts rest 2 bs more → length card.masks ≡ 0 → length card.circles < circle_cap
      → fields 0 card rest ≡ fields 0 (with_circle card (circle_from bs)) more
  circle_next s first room =
      let fewer = (not_too_many_iff (suc (length card.circles))).1 room in
      read_on_lem s ((next_accepted_iff card rest 2 s.tagged).1 (s.whole, (in_place_iff card 2).1 (inl (refl, first)), fewer, λ h. h))
      ∙ ap (λ next. fields 0 next more) (adds_circle card rest bs more s)

  pub region_next : Starts rest 3 bs more → length card.masks < region_cap → fields 0 card rest ≡ fields 0 (with_region card (word bs 0) (word bs 8)) more
  region_next s room =
      let fewer = (not_too_many_regions_iff (suc (length card.masks))).1 room in
      read_on_lem s ((next_accepted_iff card rest 3 s.tagged).1 (s.whole, (in_place_iff card 3).1 (inr refl), (λ h. h), fewer))
      ∙ ap (λ next. fields 0 next more) (adds_region card rest bs more s)

pub factor-first : (file bs more : List ℕ) → Starts file 1 bs more → read_file file ≡ fields 0 (started (float_of (word bs 0))) more
unfolding length_of_body
factor-first file bs more s =
    let past : drop 11 file ≡ more = rw s.tagged at s.leaves in
    after_factor file ((first_accepted_iff file).1 (s.whole, s.tagged)) ∙ rw (s.holds, past)

-- ---- back

-- a first field that was accepted is a factor
pub first_is : (file : List ℕ) → first_refusal file ≡ 0 → Starts file 1 (body file) (after_field file)
first_is file e = let h = (first_accepted_iff file).0 e in record { whole = h.0; tagged = h.1; holds = refl; leaves = refl }

-- a field that was accepted is a circle, with no region before it, or a region
pub next_is : (card : Card) (rest : List ℕ) → next_refusal card rest ≡ 0
    → ((length card.masks ≡ 0) × Starts rest 2 (body rest) (after_field rest) × (with_field card rest ≡ with_circle card (circle_from (body rest))))
    ⊎ (Starts rest 3 (body rest) (after_field rest) × (with_field card rest ≡ with_region card (word (body rest) 0) (word (body rest) 8)))
next_is card rest e =
    let h = (next_accepted_iff card rest (tag rest) refl).0 e in
    ⊎_elim
    (λ m. let s = starts h.0 2 m.0 in inl (m.1, s, adds_circle card rest (body rest) (after_field rest) s))
    (λ m. let s = starts h.0 3 m in inr (s, adds_region card rest (body rest) (after_field rest) s))
    ((in_place_iff card (tag rest)).0 h.1)
  where
    starts : Whole rest → (t : ℕ) → tag rest ≡ t → Starts rest t (body rest) (after_field rest)
    starts w t is = record { whole = w; tagged = is; holds = refl; leaves = refl }
