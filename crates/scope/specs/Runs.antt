-- Runs over 0 .. n - 1 by rising index, and bits of a mask.
use Rattle.std.specs.Prelude.{ℕ, zero, suc, ◌-◌, ◌/◌, ◌%◌, ◌^◌, Bool, true, false, cond, ◌||◌, List, [], ◌∷◌, ◌++◌, eqb, length, replicate}

-- f 0, f 1, .. f (n - 1)
unfoldable pub tab {ℓ} : {A : Type ℓ} → ℕ → (ℕ → A) → List A
tab zero f = []
tab (suc n) f = f 0 ∷ tab n (λ i. f (suc i))

-- op (.. (op (op z (f 0)) (f 1)) ..) (f (n - 1)), where an index that does not pass p is left out
unfoldable pub gather {ℓ κ} : {A : Type ℓ} {B : Type κ} → (A → B → A) → A → (ℕ → Bool) → ℕ → (ℕ → B) → A
gather op z p zero f = z
gather op z p (suc n) f = let a = gather op z p n f in cond (p n) (op a (f n)) a

-- step (n - 1) (.. (step 1 (step 0 z)) ..)
unfoldable pub in_turn {ℓ} : {A : Type ℓ} → ℕ → (ℕ → A → A) → A → A
in_turn zero step z = z
in_turn (suc n) step z = step n (in_turn n step z)

-- every index
abbrev pub always : ℕ → Bool
always i = true

-- how many of 0 .. n - 1 pass
unfoldable pub many : ℕ → (ℕ → Bool) → ℕ
many zero p = 0
many (suc n) p = let m = many n p in cond (p n) (suc m) m

-- the first of 0 .. n - 1 that passes, and n if none does
unfoldable pub least : ℕ → (ℕ → Bool) → ℕ
least zero p = 0
least (suc n) p = let next = suc (least n (λ i. p (suc i))) in cond (p 0) 0 next

-- whether some index below n passes
unfoldable pub some_below : ℕ → (ℕ → Bool) → Bool
some_below zero p = false
some_below (suc n) p = some_below n p || p n

-- whether some element passes
unfoldable pub any {ℓ} : {A : Type ℓ} → (A → Bool) → List A → Bool
any p [] = false
any p (a ∷ l) = p a || any p l

-- bit i of a mask
unfoldable pub bit : ℕ → ℕ → Bool
bit m i = eqb (m / 2 ^ i % 2) 1

-- a list as an array of c entries: what is not used is z
unfoldable pub filled {ℓ} : {A : Type ℓ} → ℕ → A → List A → List A
filled c z l = l ++ replicate (c - length l) z
