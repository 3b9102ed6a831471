-- Field after field: a field that is not refused adds a circle or a region, and reading goes on behind it.
use Prim.Native.Nat.{ℕ, suc, ◌+◌, ◌<◌, ◌≤◌}
use native.Mathlib.Omega.{arith}
use mathlib.Core.Path.{◌≡◌, refl, ◌∙◌}
use mathlib.Core.Logic.{⊎_elim}
use mathlib.Core.Bool.{false}
use mathlib.Core.List.{List}
use lib.ListN.{length, drop, set, replicate, length-drop, drop_of_length-le}
use lib.Seq.{drop-drop}
use lib.Ieee.{Float}
use borrow.Author.Tests.{eq-eqb}
use Rattle.shapes.specs.declared.circle.Circle.{Circle}
use Rattle.scope.specs.Numbers.{nought}
use Rattle.scope.specs.Limits.{circle_cap, region_cap}
use Rattle.scope.specs.Refusals.{given}
use Rattle.scope.specs.CardFile.{Card, tag, body, length_of_body, head_length, body_cut, word, float_of, circle_from, started, with_field, first_refusal, next_refusal, or_refused, fields, read_file}
use Rattle.laws.proofs.Cases.{is_false}
use Rattle.laws.proofs.Accepted.{not_too_many_iff, not_too_many_regions_iff}
use Rattle.laws.proofs.CardFiles.{next_field, no_field, goes_on, after_factor}
use Rattle.laws.proofs.Fields.{first_accepted_iff, next_accepted_iff}
use Rattle.laws.proofs.NextFields.{next_is}
use Rattle.intake.specs.Blanks.{blank}
use Rattle.intake.specs.Limits.{max_circles, max_regions}
use Rattle.card_file.specs.Answers.{listed}
use Rattle.card_file.specs.Unused.{Uses}
use Rattle.card_file.proofs.Filling.{none_used, one_more_used, used_next, used_length}

-- ---- the first field

pub first_is_whole : (file : List ℕ) → first_refusal file ≡ 0 → body_cut file ≡ false
first_is_whole file e = is_false (body_cut file) ((first_accepted_iff file).0 e).0.body-whole

-- ---- what a field that is not refused is

module _ (card : Card) (rest : List ℕ) (accepted : next_refusal card rest ≡ 0) where
  pub next_is_whole : body_cut rest ≡ false
  next_is_whole = is_false (body_cut rest) ((next_accepted_iff card rest (tag rest) refl).0 accepted).0.body-whole

  pub room_for_circle : tag rest ≡ 2 → length card.circles < max_circles
  unfolding circle_cap
  room_for_circle t = (not_too_many_iff (suc (length card.circles))).0 ((next_accepted_iff card rest 2 t).0 accepted).2

  pub no_factor : tag rest ≡ 1 → ⊥
  no_factor t = ⊎_elim (λ m. omega (arith, t, m.1.tagged)) (λ m. omega (arith, t, m.0.tagged)) (next_is card rest accepted)

  pub room_for_region : tag rest ≡ 3 → length card.masks < max_regions
  unfolding region_cap
  room_for_region t = (not_too_many_regions_iff (suc (length card.masks))).0 ((next_accepted_iff card rest 3 t).0 accepted).3

-- ---- what it adds

module _ (factor : Float) (n : ℕ) (circles : List Circle) (m : ℕ) (masks patterns : List ℕ) (areas : List Float) (rest : List ℕ) where
  pub circle_added : tag rest ≡ 2 → n < max_circles → Uses max_circles blank n circles
      → with_field (listed factor n circles m masks patterns areas) rest ≡ listed factor (n + 1) (set circles n (circle_from (body rest))) m masks patterns areas
  unfolding with_field
  circle_added t h u = rw (eq-eqb (tag rest) 2 t, used_next (circle_from (body rest)) h u)

  pub region_added : tag rest ≡ 3 → m < max_regions
      → Uses max_regions 0 m masks → Uses max_regions 0 m patterns → Uses max_regions nought m areas
      → with_field (listed factor n circles m masks patterns areas) rest
      ≡ listed factor n circles (m + 1) (set masks m (word (body rest) 0)) (set patterns m (word (body rest) 8)) (set areas m (float_of (word (body rest) 8)))
  unfolding with_field
  region_added t h um up ua =
      rw (
        t,
        used_next (word (body rest) 0) h um,
        used_next (word (body rest) 8) h up,
        used_next (float_of (word (body rest) 8)) h ua,
      )

-- ---- what has been read so far

-- the arrays hold what stands before the place, and reading on from there gives what reading from the start gives
pub record SoFar (file : List ℕ) (start : ℕ) (factor : Float) (n : ℕ) (circles : List Circle) (m : ℕ) (masks patterns : List ℕ) (areas : List Float) (at : ℕ) : Type 0 where
  pub circles_used : Uses max_circles blank n circles
  pub masks_used : Uses max_regions 0 m masks
  pub patterns_used : Uses max_regions 0 m patterns
  pub areas_used : Uses max_regions nought m areas
  pub same : fields 0 (started factor) (drop start file) ≡ fields 0 (listed factor n circles m masks patterns areas) (drop at file)

pub nothing_yet : (file : List ℕ) (start : ℕ) (factor : Float)
    → SoFar file start factor 0 (replicate max_circles blank) 0 (replicate max_regions 0) (replicate max_regions 0) (replicate max_regions nought) start
nothing_yet file start factor = record {
  circles_used = none_used max_circles blank;
  masks_used = none_used max_regions 0;
  patterns_used = none_used max_regions 0;
  areas_used = none_used max_regions nought;
  same = refl;
}

module _ {file : List ℕ} {start : ℕ} {factor : Float} {n : ℕ} {circles : List Circle} {m : ℕ} {masks patterns : List ℕ} {areas : List Float} {at : ℕ}
    (before : SoFar file start factor n circles m masks patterns areas at) where
  pub all_read : length file ≤ at → fields 0 (started factor) (drop start file) ≡ given (listed factor n circles m masks patterns areas)
  all_read h = before.same ∙ rw (drop_of_length-le file {i = at} h) (no_field _)

  -- the check knows the card's counts alone
  pub refusal_is : {k : ℕ} → ((card : Card) → length card.circles ≡ n → length card.masks ≡ m → k ≡ next_refusal card (drop at file))
      → k ≡ next_refusal (listed factor n circles m masks patterns areas) (drop at file)
  refusal_is e = e (listed factor n circles m masks patterns areas) (used_length before.circles_used) (used_length before.masks_used)

  module _ (accepted : next_refusal (listed factor n circles m masks patterns areas) (drop at file) ≡ 0) where
    pub circle-fits : tag (drop at file) ≡ 2 → n < max_circles
    circle-fits t = omega (arith, room_for_circle _ (drop at file) accepted t, used_length before.circles_used)

    pub region-fits : tag (drop at file) ≡ 3 → m < max_regions
    region-fits t = omega (arith, room_for_region _ (drop at file) accepted t, used_length before.masks_used)

  module _ (inside : at < length file) where
    pub turn : fields 0 (started factor) (drop start file)
        ≡ or_refused (next_refusal (listed factor n circles m masks patterns areas) (drop at file))
        (fields 0 (with_field (listed factor n circles m masks patterns areas) (drop at file)) (drop (at + (head_length + length_of_body (tag (drop at file)))) file))
    turn = before.same ∙ next_field _ (drop at file) (omega (arith, length-drop at file)) ∙ rw drop-drop

    module _ (accepted : next_refusal (listed factor n circles m masks patterns areas) (drop at file) ≡ 0) where
      pub with_circle_lem : tag (drop at file) ≡ 2
          → SoFar file start factor (n + 1) (set circles n (circle_from (body (drop at file)))) m masks patterns areas (at + (head_length + length_of_body (tag (drop at file))))
      with_circle_lem t =
          let room = circle-fits accepted t in
          record {
            circles_used = one_more_used _ room before.circles_used;
            masks_used = before.masks_used;
            patterns_used = before.patterns_used;
            areas_used = before.areas_used;
            same = turn ∙ goes_on _ _ accepted ∙ rw (circle_added factor n circles m masks patterns areas (drop at file) t room before.circles_used);
          }

      pub with_region_lem : tag (drop at file) ≡ 3
          → SoFar file start factor n circles (m + 1) (set masks m (word (body (drop at file)) 0)) (set patterns m (word (body (drop at file)) 8))
          (set areas m (float_of (word (body (drop at file)) 8))) (at + (head_length + length_of_body (tag (drop at file))))
      with_region_lem t =
          let room = region-fits accepted t in
          record {
            circles_used = before.circles_used;
            masks_used = one_more_used _ room before.masks_used;
            patterns_used = one_more_used _ room before.patterns_used;
            areas_used = one_more_used _ room before.areas_used;
            same =
                turn ∙ goes_on _ _ accepted
                ∙ rw (region_added factor n circles m masks patterns areas (drop at file) t room before.masks_used before.patterns_used before.areas_used);
          }

-- ---- from the factor on

pub factor_read : (file : List ℕ) (x : Float) → first_refusal file ≡ 0 → x ≡ float_of (word (body file) 0) → read_file file ≡ fields 0 (started x) (drop 11 file)
factor_read file x e is = after_factor file e ∙ rw is
