-- Finitely many numbers, one of them at least, have a range, and only one: its ends are the least and the greatest of them, found one by one.
use Prim.Native.Nat.{ℕ, zero, suc, ◌+◌, ◌<◌}
use native.Mathlib.Omega.{arith}
use native.Mathlib.Decide.{dec_lt}
use mathlib.Core.Path.{◌≡◌}
use mathlib.Core.Logic.{◌⊎◌, inl, inr}
use mathlib.Core.Bool.{Bool}
use lib.Dec.{T}
use Rattle.algebra.specs.Integer.{Z, opp, ◌≈◌, ◌≼◌}
use Rattle.algebra.proofs.Size.{either}
use Rattle.scope.specs.Promises.{Range}
use Rattle.laws.proofs.Cases.{tested}
use Rattle.laws.proofs.Runs.{NoneBelow}
use Rattle.promises.proofs.numbers.Bounded.{joined}

-- those of the first n that `member` takes
abbrev pub Members : (ℕ → Bool) → ℕ → ℕ → Type 0
Members member n k = (k < n) × T (member k)

record Least (P : ℕ → Type 0) (f : ℕ → Z) : Type 0 where
  at : ℕ
  taken : P at
  bounds : (k : ℕ) → P k → f at ≼ f k

module _ (member : ℕ → Bool) (f : ℕ → Z) where
  -- one more that is taken: it is the least, or the one before stays so
  next : (n : ℕ) → T (member n) → NoneBelow n member ⊎ Least (Members member n) f → Least (Members member (suc n)) f
  next n t (inl none) = record { at = n; taken = (omega arith, t); bounds = λ k p. elim (dec_lt k n) [ yes l ↦ absurd (none k l p.1) | no l ↦ let e : k ≡ n = omega (arith, p.0) in rw e (omega arith) ] }
  next n t (inr c) = elim (either ((f n).p + (f c.at).n) ((f c.at).p + (f n).n)) [
    | inl h ↦ record {
      at = n;
      taken = (omega arith, t);
      bounds = λ k p. elim (dec_lt k n) [
        | yes l ↦ joined (f n) (f c.at) (f k) (omega arith) (c.bounds k (l, p.1))
        | no l ↦ let e : k ≡ n = omega (arith, p.0) in rw e (omega arith)
      ];
    }
    | inr h ↦ record {
      at = c.at;
      taken = (omega (arith, c.taken.0), c.taken.1);
      bounds = λ k p. elim (dec_lt k n) [
        | yes l ↦ c.bounds k (l, p.1)
        | no l ↦ let e : k ≡ n = omega (arith, p.0) in rw e h
      ];
    }
  ]

  none_or_least : (n : ℕ) → NoneBelow n member ⊎ Least (Members member n) f
  none_or_least zero = inl (λ k l. absurd (omega arith))
  none_or_least (suc n) = elim (tested (member n)) [ yes t ↦ inr (next n t (none_or_least n)) | no t ↦ without t (none_or_least n) ]
    where
      without : ¬ T (member n) → NoneBelow n member ⊎ Least (Members member n) f → NoneBelow (suc n) member ⊎ Least (Members member (suc n)) f
      without t (inl none) = inl (λ k l. elim (dec_lt k n) [ yes m ↦ none k m | no m ↦ let e : k ≡ n = omega arith in rw e t ])
      without t (inr c) = inr (record {
        at = c.at;
        taken = (omega (arith, c.taken.0), c.taken.1);
        bounds = λ k p. elim (dec_lt k n) [
          | yes l ↦ c.bounds k (l, p.1)
          | no l ↦ let e : k ≡ n = omega (arith, p.0) in absurd (t (rw e at p.1))
        ];
      })

  least_of : (n k : ℕ) → Members member n k → Least (Members member n) f
  least_of n k p = elim (none_or_least n) [ inl none ↦ absurd (none k p.0 p.1) | inr c ↦ c ]

pub range_of_lem : (member : ℕ → Bool) (n : ℕ) (lowerEnd upperEnd : ℕ → Z) (k : ℕ) → Members member n k → Range (Members member n) lowerEnd upperEnd
range_of_lem member n lowerEnd upperEnd k p =
    let a = least_of member lowerEnd n k p in
    let b = least_of member (λ i. opp (upperEnd i)) n k p in
    record {
      lo = lowerEnd a.at;
      hi = upperEnd b.at;
      lo_bounds = a.bounds;
      lo_taken = (a.at, a.taken, omega arith);
      hi_bounds = λ i q. turned (upperEnd b.at) (upperEnd i) (b.bounds i q);
      hi_taken = (b.at, b.taken, omega arith);
    }
  where
    turned : (a b : Z) → opp a ≼ opp b → b ≼ a
    turned a b h = omega arith

-- and only one: a promise about some ends of a range is one about all
pub ends_unique : {P : ℕ → Type 0} {lowerEnd upperEnd : ℕ → Z} → (r s : Range P lowerEnd upperEnd) → (r.lo ≈ s.lo) × (r.hi ≈ s.hi)
ends_unique {lowerEnd = f} {upperEnd = g} r s =
    let a = r.lo_taken in
    let b = s.lo_taken in
    let c = r.hi_taken in
    let d = s.hi_taken in (
      same_low r.lo s.lo (f a.0) (f b.0) a.2 b.2 (r.lo_bounds b.0 b.1) (s.lo_bounds a.0 a.1),
      same_high r.hi s.hi (g c.0) (g d.0) c.2 d.2 (r.hi_bounds d.0 d.1) (s.hi_bounds c.0 c.1),
    )
  where
    same_low : (lo lo' x x' : Z) → x ≼ lo → x' ≼ lo' → lo ≼ x' → lo' ≼ x → lo ≈ lo'
    same_low lo lo' x x' a b c d = omega arith

    same_high : (hi hi' x x' : Z) → hi ≼ x → hi' ≼ x' → x' ≼ hi → x ≼ hi' → hi ≈ hi'
    same_high hi hi' x x' a b c d = omega arith

-- the same numbers, named otherwise
abbrev pub range_for : {P Q : ℕ → Type 0} {lowerEnd upperEnd : ℕ → Z} → ((k : ℕ) → P k → Q k) → ((k : ℕ) → Q k → P k) → Range P lowerEnd upperEnd → Range Q lowerEnd upperEnd
range_for to from r = record {
  lo = r.lo;
  hi = r.hi;
  lo_bounds = λ k q. r.lo_bounds k (from k q);
  lo_taken = (r.lo_taken.0, to r.lo_taken.0 r.lo_taken.1, r.lo_taken.2);
  hi_bounds = λ k q. r.hi_bounds k (from k q);
  hi_taken = (r.hi_taken.0, to r.hi_taken.0 r.hi_taken.1, r.hi_taken.2);
}
