-- The parent of a contained child: the one circle of a mask, if the child has no region of its own and is smaller by total. The list of all parents' numbers.
use Prim.Native.Nat.{ℕ, zero, suc, ◌+◌, ◌^◌, ◌≤◌, ◌<◌}
use native.Mathlib.Omega.{arith}
use native.Mathlib.Numerals.{add-one}
use native.Mathlib.Decide.{ℕ_discrete}
use mathlib.Core.Path.{◌≡◌, refl, sym, ap, ◌∙◌}
use mathlib.Core.Logic.{inr, ⊎_elim}
use mathlib.Core.Bool.{Bool, true, false, not, ◌&&◌, ◌||◌, cond, false≢true}
use mathlib.Core.List.{List}
use mathlib.Core.Option.{Option, none, some}
use lib.Count.{count_trailing_zeros}
use lib.Dec.{eqb, ltb}
use lib.Ieee.{Float}
use lib.ListN.{length, get_or, set, take}
use lib.Pow.{pow-lt}
use lib.Seq.{get_or-set_same, get_or-set_other, take-length}
use Rattle.std.specs.List.{count_by}
use Rattle.std.proofs.lemmas.List.Sums.{count_by_more_yes, count_by_more_no}
use borrow.Author.Tests.{lt-ltb, le-ltb, eq-eqb, ne_eqb}
use Rattle.scope.specs.Numbers.{◌<ᶠ◌}
use Rattle.scope.specs.Runs.{least, many}
use Rattle.scope.specs.Links.{Region, regions}
use Rattle.scope.specs.Tolerance.{tolerance}
use Rattle.scope.specs.Offset.{area_with_mask, other_bits, contained_child_parent, smaller, if_smaller, parent_of, is_parent, parents, only_child}
use Rattle.laws.proofs.Cases.{eqb_iff}
use Rattle.laws.proofs.Regions.{length-regions}
use Rattle.laws.proofs.Runs.{least_at, least-none, length-tab, get_or_tab, many_equal}
use Rattle.std.specs.Prelude as prelude
use Rattle.std.specs.Prelude.{IfSome, is_some}
use Rattle.std.specs.Option.{unwrap_or}
use Rattle.layout.specs.Offsets.{numbered, maybe, parent_at, ParentsOf}
use Rattle.intake.proofs.TrailingZeros.{zeros_below}
use Rattle.layout.proofs.LoneBits.{never_more}
use Rattle.layout.proofs.RegionFolds.{gathered, join_others}

-- ---- the one circle of a mask

-- the first circle below n that is alone in a mask
abbrev pub alone : ℕ → ℕ → ℕ
alone n m = least n (λ q. eqb (2 ^ q) m)

pub alone_at : (n m q : ℕ) → q < n → 2 ^ q ≡ m → q ≡ alone n m
alone_at n m q h e = sym (least_at n (λ p. eqb (2 ^ p) m) q h ((eqb_iff (2 ^ q) m).1 e) (λ p l t. let same = (eqb_iff (2 ^ p) m).0 t in omega (arith, pow-lt l)))

none-alone : (n m : ℕ) → ((q : ℕ) → q < n → 2 ^ q ≡ m → ⊥) → n ≡ alone n m
none-alone n m f = sym ((least-none n (λ q. eqb (2 ^ q) m)).1 (λ q h t. f q h ((eqb_iff (2 ^ q) m).0 t)))

-- its place is the count of the zeros below it
module _ (n m : ℕ) (inside : n ≤ 64) where
  zeros_are : (q : ℕ) → q < n → 2 ^ q ≡ m → count_trailing_zeros 64 m ≡ q
  zeros_are q h e = rw (← e) (zeros_below 64 q (omega arith))

  pub alone_past : n ≤ count_trailing_zeros 64 m → n ≡ alone n m
  alone_past h = none-alone n m (λ q l e. let z = zeros_are q l e in omega arith)

  pub alone_other : (2 ^ count_trailing_zeros 64 m ≡ m → ⊥) → n ≡ alone n m
  alone_other f = none-alone n m (λ q l e. f (ap (λ (z : ℕ). 2 ^ z) (zeros_are q l e) ∙ e))

-- two partners are one too many, whatever regions follow
pub several_partners : (n i : ℕ) (tol : Float) (ms : List ℕ) (xs : List Float) (k m : ℕ) → length ms ≡ length xs → k ≤ length ms → m ≡ gathered (join_others i) 0 i tol ms xs k
    → (m ≡ 0 → ⊥) × ((q : ℕ) → m ≡ 2 ^ q → ⊥) → n ≡ alone n (other_bits tol (regions ms xs) i)
unfolding other_bits
several_partners n i tol ms xs k m even h e f =
    none-alone n _ (λ q l d. ⊎_elim (λ z. f.0 (e ∙ z)) (λ z. f.1 q (e ∙ z))
    (never_more _ _ _ q (length (regions ms xs)) k (rw (length-regions ms xs even) h) (inr (sym d))))

-- ---- numbers of parents

pub numbered_below : (n p : ℕ) → p < n → numbered n p ≡ some p
unfolding numbered
numbered_below n p h = rw (lt-ltb p n h)

pub numbered_past : (n p : ℕ) → n ≤ p → numbered n p ≡ none
unfolding numbered
numbered_past n p h = rw (le-ltb p n h)

-- the answers say whose number stands for them in a list
pub numbered_maybe : (n : ℕ) (p : prelude.Option ℕ) → IfSome p (λ q. q < n) → numbered n (unwrap_or p n) ≡ maybe p
numbered_maybe n (prelude.Some q) h = numbered_below n q h
numbered_maybe n prelude.None h = numbered_past n n (omega arith)

pub no-answer : (p : prelude.Option ℕ) → is_some p ≡ false → maybe p ≡ none
no-answer (prelude.Some q) e = absurd (false≢true (sym e))
no-answer prelude.None e = refl

module _ (n : ℕ) (rs : List Region) (tol : Float) (i p : ℕ) (is : p ≡ alone n (other_bits tol rs i)) where
  pub no_partner : n ≤ p → none ≡ contained_child_parent n rs tol i
  unfolding contained_child_parent
  no_partner h = rw (← is, le-ltb p n h) (either_way (not (tol <ᶠ area_with_mask (2 ^ i) rs)))
    where
      either_way : (b : Bool) → none ≡ cond (b && false) (some p) none
      either_way true = refl
      either_way false = refl

  pub own_region : tol <ᶠ area_with_mask (2 ^ i) rs ≡ true → none ≡ contained_child_parent n rs tol i
  unfolding contained_child_parent
  own_region h = rw h

  pub partner_is_parent : p < n → tol <ᶠ area_with_mask (2 ^ i) rs ≡ false → some p ≡ contained_child_parent n rs tol i
  unfolding contained_child_parent
  partner_is_parent l h = rw (h, ← is, lt-ltb p n l)

-- of two circles, the smaller is the child
pub none-smaller : (rs : List Region) (i : ℕ) (o : Option ℕ) → none ≡ o → none ≡ if_smaller rs i o
unfolding if_smaller
none-smaller rs i o is = rw (← is)

module _ (rs : List Region) (i p : ℕ) (o : Option ℕ) (is : some p ≡ o) where
  pub child-smaller : smaller rs i p ≡ true → some p ≡ if_smaller rs i o
  unfolding if_smaller
  child-smaller h = rw (← is, h)

  pub child_not_smaller : smaller rs i p ≡ false → none ≡ if_smaller rs i o
  unfolding if_smaller
  child_not_smaller h = rw (← is, h)

pub at_tolerance : (n : ℕ) (rs : List Region) (tol : Float) (i : ℕ) → tol ≡ tolerance rs → if_smaller rs i (contained_child_parent n rs tol i) ≡ parent_of n rs i
unfolding parent_of
at_tolerance n rs tol i e = rw e

-- ---- the list of parents' numbers

-- neither of two tests holds
pub neither : (b d : Bool) → b || d ≡ false → (b ≡ false) × (d ≡ false)
neither false d e = (refl, e)
neither true d e = absurd (false≢true (sym e))

-- what holds of the numbers below i, and of the one that is put at i, holds below i + 1
pub one_more-number : (P : ℕ → ℕ → Type 0) (ps : List ℕ) (i p : ℕ) → i < length ps → ((j : ℕ) → j < i → P j (get_or ps j 0)) → P i p
    → (j : ℕ) → j < i + 1 → P j (get_or (set ps i p) j 0)
one_more-number P ps i p h before here j l = elim (ℕ_discrete j i) [
  | yes e ↦ rw (e, get_or-set_same ps i p 0 h) here
  | no e ↦ rw (get_or-set_other ps i j p 0 e) (before j (omega arith))
]

-- whether a number is p's
module _ (n p q : ℕ) (inside : p < n) where
  pub is_its_parent : q ≡ p → is_parent p (numbered n q) ≡ true
  unfolding is_parent
  is_its_parent e = rw (e, numbered_below n p inside) (eq-eqb p p refl)

  pub is_not_its_parent : (q ≡ p → ⊥) → is_parent p (numbered n q) ≡ false
  unfolding is_parent numbered
  is_not_its_parent f = go (ltb q n)
    where
      go : (b : Bool) → is_parent p (cond b (some q) none) ≡ false
      go true = ne_eqb p q (λ e. f (sym e))
      go false = refl

  -- either way
  parent_test : eqb q p ≡ is_parent p (numbered n q)
  parent_test =
      elim (ℕ_discrete q p) [
        | yes e ↦ eq-eqb q p e ∙ sym (is_its_parent e)
        | no e ↦ ne_eqb q p e ∙ sym (is_not_its_parent e)
      ]

-- the numbers of a list's front that pass, counted
counted : (f : ℕ → Bool) (ps : List ℕ) (i : ℕ) → i ≤ length ps → count_by f (take i ps) ≡ many i (λ j. f (get_or ps j 0))
unfolding many
counted f ps zero h = refl
counted f ps (suc i) h = one_more (f (get_or ps i 0)) refl (counted f ps i (omega arith))
  where
    one_more : (b : Bool) → f (get_or ps i 0) ≡ b → count_by f (take i ps) ≡ many i (λ j. f (get_or ps j 0))
        → count_by f (take (suc i) ps) ≡ cond b (suc (many i (λ j. f (get_or ps j 0)))) (many i (λ j. f (get_or ps j 0)))
    one_more true e before = let more = rw (add-one i) at (count_by_more_yes f ps i 0 (omega arith) e) in omega (arith, more, before)
    one_more false e before = rw (add-one i) at (count_by_more_no f ps i 0 (omega arith) e) ∙ before

pub children_counted : (p : ℕ) (ps : List ℕ) → p < length ps
    → count_by (λ q. eqb q p) ps ≡ many (length ps) (λ i. is_parent p (parent_at (length ps) ps i))
children_counted p ps h =
    rw (take-length ps) at (counted (λ q. eqb q p) ps (length ps) (omega arith))
    ∙ many_equal (length ps) _ _ (λ i b. parent_test (length ps) p (get_or ps i 0) h)

pub only_child_lem : (n : ℕ) (rs : List Region) (ps : List ℕ) → ParentsOf n rs ps → (p : ℕ) → eqb (many n (λ i. is_parent p (parent_at n ps i))) 1 ≡ only_child (parents n rs) p
unfolding only_child parents
only_child_lem n rs ps shows p =
    rw (length-tab n (parent_of n rs))
    (ap (λ (m : ℕ). eqb m 1) (many_equal n _ _ (λ i h. ap (is_parent p) (shows i h ∙ sym (get_or_tab n (parent_of n rs) i none h)))))
