-- Causes looked at one after the other, from place i on.
use Prim.Native.Nat.{ℕ, ◌+◌, ◌≤◌, ◌<◌}
use native.Mathlib.Numerals.{add-one}
use native.Mathlib.Omega.{arith}
use mathlib.Core.Path.{◌≡◌, refl, ◌∙◌}
use mathlib.Core.Bool.{Bool, true, false, cond}
use mathlib.Core.List.{List}
use lib.ListN.{length, get_or, drop}
use lib.Seq.{drop-cons}
use Rattle.std.proofs.lemmas.List.{drop_all}
use Rattle.scope.specs.Refusals.{front_to_back}
use Rattle.refusals.specs.declared.Refusal.{Refusal}
use Rattle.refusals.specs.Numbers.{number, checks_of}

-- what the causes from place i on come to
abbrev pub from : List (Bool × Refusal) → ℕ → ℕ
from cs i = front_to_back (checks_of (drop i cs))

next : (cs : List (Bool × Refusal)) (i : ℕ) (d : Bool × Refusal) → i < length cs
    → from cs i ≡ cond (get_or cs i d).0 (number (get_or cs i d).1) (from cs (i + 1))
unfolding front_to_back
next cs i d h = rw (drop-cons cs i d h, add-one)

-- the cause there holds, or it does not
pub from_one_that_holds : (cs : List (Bool × Refusal)) (i : ℕ) (d : Bool × Refusal) → i < length cs → (get_or cs i d).0 ≡ true
    → from cs i ≡ number (get_or cs i d).1
from_one_that_holds cs i d h holds = next cs i d h ∙ rw holds

pub from_one_that_does_not : (cs : List (Bool × Refusal)) (i : ℕ) (d : Bool × Refusal) → i < length cs → (get_or cs i d).0 ≡ false
    → from cs i ≡ from cs (i + 1)
from_one_that_does_not cs i d h fails = next cs i d h ∙ rw fails

pub from_end : (cs : List (Bool × Refusal)) (i : ℕ) → length cs ≤ i → from cs i ≡ 0
unfolding front_to_back
from_end cs i h = rw (drop_all i cs h)
