-- Laws of scope's runs: tables, folds, counts, first places, tests of lists and filled lists.
use Prim.Native.Nat.{ℕ, zero, suc, ◌+◌, ◌-◌, ◌≤◌, ◌<◌}
use native.Mathlib.Omega.{arith}
use native.Mathlib.Decide.{dec_le, dec_lt}
use mathlib.Core.Path.{◌≡◌, refl, ap, ◌∙◌, subst}
use mathlib.Core.Logic.{◌↔◌, ◌⊎◌, inl, inr, ⊎_elim}
use mathlib.Core.Bool.{Bool, true, false, cond}
use mathlib.Core.List.{List, [], ◌∷◌, ◌++◌}
use lib.ListN.{length, get_or, drop, replicate, length-append, length-replicate, get_or-append, get_or-eq_default, get_or-replicate}
use lib.Seq.{get_or-append-add}
use lib.Dec.{T}
use Rattle.scope.specs.Runs.{tab, gather, many, least, some_below, any, filled}
use Rattle.laws.proofs.Cases.{or_iff, tested, is_true, is_false}

-- ---- equal entries

pub drop-replicate : {A : Type 0} (n w : ℕ) (z : A) → drop n (replicate w z) ≡ replicate (w - n) z
drop-replicate zero w z = let e : w ≡ w - 0 = omega arith in ap (λ (k : ℕ). replicate k z) e
drop-replicate (suc n) zero z = let e : 0 ≡ zero - suc n = omega arith in ap (λ (k : ℕ). replicate k z) e
drop-replicate (suc n) (suc w) z = let e : w - n ≡ suc w - suc n = omega arith in drop-replicate n w z ∙ ap (λ (k : ℕ). replicate k z) e

-- ---- tab

module _ {ℓ} {A : Type ℓ} where
  pub length-tab : (n : ℕ) (f : ℕ → A) → length (tab n f) ≡ n
  unfolding tab
  length-tab zero f = refl
  length-tab (suc n) f = ap suc (length-tab n (λ i. f (suc i)))

  pub get_or_tab : (n : ℕ) (f : ℕ → A) (i : ℕ) (d : A) → i < n → get_or (tab n f) i d ≡ f i
  unfolding tab
  get_or_tab zero f i d h = absurd (omega arith)
  get_or_tab (suc n) f zero d h = refl
  get_or_tab (suc n) f (suc i) d h = get_or_tab n (λ k. f (suc k)) i d (omega arith)

  pub get_or_tab_past : (n : ℕ) (f : ℕ → A) (i : ℕ) (d : A) → n ≤ i → get_or (tab n f) i d ≡ d
  get_or_tab_past n f i d h = get_or-eq_default (tab n f) d (rw (length-tab n f) h)

  pub tab_equal : (n : ℕ) (f g : ℕ → A) → ((i : ℕ) → i < n → f i ≡ g i) → tab n f ≡ tab n g
  unfolding tab
  tab_equal zero f g e = refl
  tab_equal (suc n) f g e = rw (e 0 (omega arith), tab_equal n (λ i. f (suc i)) (λ i. g (suc i)) (λ i h. e (suc i) (omega arith)))

  pub tab_last : (n : ℕ) (f : ℕ → A) → tab (suc n) f ≡ tab n f ++ (f n ∷ [])
  unfolding tab
  tab_last zero f = refl
  tab_last (suc n) f = ap (λ l. f 0 ∷ l) (tab_last n (λ i. f (suc i)))

-- ---- gather and in_turn: index n is taken last

module _ {ℓ κ} {A : Type ℓ} {B : Type κ} (op : A → B → A) (z : A) where
  pub gather-takes : (p : ℕ → Bool) (n : ℕ) (f : ℕ → B) → T (p n) → gather op z p (suc n) f ≡ op (gather op z p n f) (f n)
  unfolding gather
  gather-takes p n f h = rw (is_true (p n) h)

  pub gather-leaves : (p : ℕ → Bool) (n : ℕ) (f : ℕ → B) → ¬ T (p n) → gather op z p (suc n) f ≡ gather op z p n f
  unfolding gather
  gather-leaves p n f h = rw (is_false (p n) h)

  pub gather_equal : (p q : ℕ → Bool) (n : ℕ) (f g : ℕ → B) → ((i : ℕ) → i < n → p i ≡ q i) → ((i : ℕ) → i < n → f i ≡ g i)
      → gather op z p n f ≡ gather op z q n g
  unfolding gather
  gather_equal p q zero f g d e = refl
  gather_equal p q (suc n) f g d e =
      rw (d n (omega arith), e n (omega arith), gather_equal p q n f g (λ i h. d i (omega arith)) (λ i h. e i (omega arith)))

  -- what holds at the start and is kept by each index that is taken holds at the end
  pub gather_keeps : (P : A → Type 0) (p : ℕ → Bool) (n : ℕ) (f : ℕ → B) → P z → ((i : ℕ) (a : A) → i < n → T (p i) → P a → P (op a (f i))) → P (gather op z p n f)
  unfolding gather
  gather_keeps P p zero f s k = s
  gather_keeps P p (suc n) f s k =
      let before : P (gather op z p n f) = gather_keeps P p n f s (λ i a h. k i a (omega arith)) in
      elim (tested (p n)) [ yes h ↦ rw (is_true (p n) h) (k n (gather op z p n f) (omega arith) h before) | no h ↦ rw (is_false (p n) h) before ]

-- ---- many

pub many-takes : (n : ℕ) (p : ℕ → Bool) → T (p n) → many (suc n) p ≡ suc (many n p)
unfolding many
many-takes n p h = rw (is_true (p n) h)

pub many-leaves : (n : ℕ) (p : ℕ → Bool) → ¬ T (p n) → many (suc n) p ≡ many n p
unfolding many
many-leaves n p h = rw (is_false (p n) h)

-- the two cases of one more index
many_next : (R : ℕ → Type 0) (n : ℕ) (p : ℕ → Bool) → (T (p n) → R (suc (many n p))) → (¬ T (p n) → R (many n p)) → R (many (suc n) p)
many_next R n p f g = elim (tested (p n)) [ yes h ↦ rw (many-takes n p h) (f h) | no h ↦ rw (many-leaves n p h) (g h) ]

pub many_rises : (a b : ℕ) (p : ℕ → Bool) → a ≤ b → many a p ≤ many b p
many_rises a zero p h = let e : a ≡ 0 = omega arith in rw e (omega arith)
many_rises a (suc b) p h =
    elim (dec_le a b) [
      | yes l ↦ let below : many a p ≤ many b p = many_rises a b p l in many_next (λ m. many a p ≤ m) b p (λ t. omega arith) (λ t. below)
      | no g ↦ let e : a ≡ suc b = omega arith in rw e (omega arith)
    ]

pub many-passes : (a b : ℕ) (p : ℕ → Bool) → a < b → T (p a) → many a p < many b p
many-passes a b p h t = rw (many-takes a p t) at (many_rises (suc a) b p h)

pub many_at_most : (n : ℕ) (p : ℕ → Bool) → many n p ≤ n
unfolding many
many_at_most zero p = omega arith
many_at_most (suc n) p = let below : many n p ≤ n = many_at_most n p in many_next (λ m. m ≤ suc n) n p (λ t. omega arith) (λ t. omega arith)

pub many_equal : (n : ℕ) (p q : ℕ → Bool) → ((i : ℕ) → i < n → p i ≡ q i) → many n p ≡ many n q
unfolding many
many_equal zero p q e = refl
many_equal (suc n) p q e = rw (e n (omega arith), many_equal n p q (λ i h. e i (omega arith)))

-- each number below the count is that of an index that passes
pub many_reaches : (n : ℕ) (p : ℕ → Bool) (v : ℕ) → v < many n p → (i : ℕ) × (i < n) × T (p i) × (many i p ≡ v)
unfolding many
many_reaches zero p v h = absurd (omega arith)
many_reaches (suc n) p v h =
    elim (dec_lt v (many n p)) [
      | yes l ↦ let e = many_reaches n p v l in (e.0, omega (arith, e.1), e.2, e.3)
      | no g ↦ elim (tested (p n)) [ yes t ↦ (n, omega arith, t, omega (arith, many-takes n p t)) | no t ↦ absurd (omega (arith, many-leaves n p t)) ]
    ]

-- ---- least

abbrev pub NoneBelow : ℕ → (ℕ → Bool) → Type 0
NoneBelow n p = (i : ℕ) → i < n → ¬ T (p i)

none_from_0 : (n : ℕ) (p : ℕ → Bool) → ¬ T (p 0) → NoneBelow n (λ i. p (suc i)) → NoneBelow (suc n) p
none_from_0 n p h f zero l = h
none_from_0 n p h f (suc i) l = f i (omega arith)

pub least_at_most : (n : ℕ) (p : ℕ → Bool) → least n p ≤ n
unfolding least
least_at_most zero p = omega arith
least_at_most (suc n) p =
    let next = least_at_most n (λ i. p (suc i)) in
    elim (tested (p 0)) [ yes h ↦ rw (is_true (p 0) h) (omega arith) | no h ↦ rw (is_false (p 0) h) (omega arith) ]

pub none_before_least : (n : ℕ) (p : ℕ → Bool) → NoneBelow (least n p) p
unfolding least
none_before_least zero p = λ i l. absurd (omega arith)
none_before_least (suc n) p =
    elim (tested (p 0)) [
      | yes h ↦ rw (is_true (p 0) h) (λ i l. absurd (omega arith))
      | no h ↦ rw (is_false (p 0) h) (none_from_0 (least n (λ i. p (suc i))) p h (none_before_least n (λ i. p (suc i))))
    ]

pub least-passes : (n : ℕ) (p : ℕ → Bool) → least n p < n → T (p (least n p))
unfolding least
least-passes zero p l = absurd (omega arith)
least-passes (suc n) p l =
    elim (tested (p 0)) [
      | yes h ↦ rw (is_true (p 0) h) h
      | no h ↦ rw (is_false (p 0) h) (least-passes n (λ i. p (suc i)) (omega (arith, rw (is_false (p 0) h) at l)))
    ]

-- no index that passes is smaller
pub least-below : (n : ℕ) (p : ℕ → Bool) (i : ℕ) → T (p i) → least n p ≤ i
least-below n p i h = elim (dec_lt i (least n p)) [ yes l ↦ absurd (none_before_least n p i l h) | no g ↦ omega arith ]

-- the first that passes is the least
pub least_at : (n : ℕ) (p : ℕ → Bool) (i : ℕ) → i < n → T (p i) → NoneBelow i p → least n p ≡ i
least_at n p i hi h f =
    let bound = least-below n p i h in
    elim (dec_lt (least n p) i) [ yes l ↦ absurd (f (least n p) l (least-passes n p (omega arith))) | no g ↦ omega arith ]

pub least-none : (n : ℕ) (p : ℕ → Bool) → (least n p ≡ n) ↔ NoneBelow n p
least-none n p =
    let bound = least_at_most n p in (
      λ e. rw e at (none_before_least n p),
      λ f. elim (dec_lt (least n p) n) [ yes l ↦ absurd (f (least n p) l (least-passes n p l)) | no g ↦ omega arith ],
    )

-- ---- some index, some element

pub passes-below : (n : ℕ) (p : ℕ → Bool) (i : ℕ) → i < n → T (p i) → T (some_below n p)
unfolding some_below
passes-below zero p i l h = absurd (omega arith)
passes-below (suc n) p i l h =
    (or_iff (some_below n p) (p n)).1 (
    elim (dec_lt i n) [ yes m ↦ inl (passes-below n p i m h) | no g ↦ let e : i ≡ n = omega arith in inr (rw e at h) ]
    )

pub some_below_iff : (n : ℕ) (p : ℕ → Bool) → T (some_below n p) ↔ ((i : ℕ) × (i < n) × T (p i))
unfolding some_below
some_below_iff n p = (found n, λ e. passes-below n p e.0 e.1 e.2)
  where
    found : (m : ℕ) → T (some_below m p) → (i : ℕ) × (i < m) × T (p i)
    found zero h = absurd h
    found (suc m) h = ⊎_elim (λ t. let e = found m t in (e.0, omega (arith, e.1), e.2)) (λ t. (m, omega arith, t)) ((or_iff (some_below m p) (p m)).0 h)

pub some_below_equal : (n : ℕ) (p q : ℕ → Bool) → ((i : ℕ) → p i ≡ q i) → some_below n p ≡ some_below n q
unfolding some_below
some_below_equal zero p q e = refl
some_below_equal (suc n) p q e = rw (some_below_equal n p q e, e n)

module _ {ℓ} {A : Type ℓ} (p : A → Bool) where
  -- by a place
  pub any_at : (l : List A) (d : A) → T (any p l) ↔ ((i : ℕ) × (i < length l) × T (p (get_or l i d)))
  unfolding any
  any_at [] d = (λ h. absurd h, λ e. absurd (omega (arith, e.1)))
  any_at (a ∷ l) d =
      let rest = any_at l d in (
        λ h. ⊎_elim (λ t. (0, omega arith, t)) (λ t. let e = rest.0 t in (suc e.0, omega (arith, e.1), e.2)) ((or_iff (p a) (any p l)).0 h),
        λ e. (or_iff (p a) (any p l)).1 (split rest.1 e.0 e.1 e.2),
      )
    where
      split : ((i : ℕ) × (i < length l) × T (p (get_or l i d)) → T (any p l)) → (i : ℕ) → i < length (a ∷ l) → T (p (get_or (a ∷ l) i d)) → T (p a) ⊎ T (any p l)
      split f zero h t = inl t
      split f (suc i) h t = inr (f (i, omega arith, t))

  pub none_at : (l : List A) (d : A) → (¬ T (any p l)) ↔ ((i : ℕ) → i < length l → ¬ T (p (get_or l i d)))
  none_at l d = (λ f i h t. f ((any_at l d).1 (i, h, t)), λ f t. let e = (any_at l d).0 t in f e.0 e.1 e.2)

-- ---- one of two lists of a length

pub either-length : {A : Type 0} (b : Bool) (n : ℕ) (xs ys : List A) → length xs ≡ n → length ys ≡ n → length (cond b xs ys) ≡ n
either-length true n xs ys e f = e
either-length false n xs ys e f = f

-- ---- filled

module _ {ℓ} {A : Type ℓ} (c : ℕ) (z : A) where
  pub length-filled : (l : List A) → length l ≤ c → length (filled c z l) ≡ c
  unfolding filled
  length-filled l h = simp (length-append, length-replicate) (omega arith)

  pub get_or_filled : (l : List A) (i : ℕ) (d : A) → i < length l → get_or (filled c z l) i d ≡ get_or l i d
  unfolding filled
  get_or_filled l i d h = get_or-append l (replicate (c - length l) z) d i h

  pub get_or_filled_past : (l : List A) (i : ℕ) (d : A) → length l ≤ i → i < c → get_or (filled c z l) i d ≡ z
  unfolding filled
  get_or_filled_past l i d h g =
      let e : i ≡ length l + (i - length l) = omega arith in
      rw e (rw get_or-append-add (get_or-replicate (c - length l) (i - length l) z d (omega arith)))

  -- with z for what is past the end, filling changes nothing
  pub get_or_filled_any : (l : List A) (i : ℕ) → get_or (filled c z l) i z ≡ get_or l i z
  unfolding filled
  get_or_filled_any l i =
      elim (dec_lt i (length l)) [
        | yes h ↦ get_or_filled l i z h
        | no h ↦ rw (get_or-eq_default l z {n = i} (omega arith)) (
            elim (dec_lt i c) [ yes g ↦ get_or_filled_past l i z (omega arith) g | no g ↦ get_or-eq_default (filled c z l) z (past (omega arith) (omega arith)) ]
            )
      ]
    where
      past : length l ≤ i → c ≤ i → length (filled c z l) ≤ i
      past a b = simp (length-append, length-replicate) (omega arith)

-- ---- counts of a test p that implies a test q
module _ (p q : ℕ → Bool) where
  -- a lead of q's count stays
  lead_stays : (d n : ℕ) → (T (p n) → T (q n)) → many n p + d ≤ many n q → many (suc n) p + d ≤ many (suc n) q
  lead_stays d n h l = elim (tested (p n)) [
    | yes t ↦ omega (arith, many-takes n p t, many-takes n q (h t))
    | no t ↦ elim (tested (q n)) [ yes u ↦ omega (arith, many-leaves n p t, many-takes n q u) | no u ↦ omega (arith, many-leaves n p t, many-leaves n q u) ]
  ]

  many_weaker : (n : ℕ) → ((j : ℕ) → j < n → T (p j) → T (q j)) → many n p + 0 ≤ many n q
  unfolding many
  many_weaker zero h = omega arith
  many_weaker (suc n) h = lead_stays 0 n (h n (omega arith)) (many_weaker n (λ j l. h j (omega arith)))

  -- q passes once where p does not
  pub many_weaker_once : (n : ℕ) → ((j : ℕ) → j < n → T (p j) → T (q j)) → (a : ℕ) → a < n → ¬ T (p a) → T (q a) → many n p + 1 ≤ many n q
  unfolding many
  many_weaker_once zero h a l g k = absurd (omega arith)
  many_weaker_once (suc n) h a l g k = elim (dec_lt a n) [
    | yes m ↦ lead_stays 1 n (h n (omega arith)) (many_weaker_once n (λ j l. h j (omega arith)) a m g k)
    | no m ↦
        let e : a ≡ n = omega arith in
        omega (arith, many_weaker n (λ j l. h j (omega arith)), many-leaves n p (subst (λ (j : ℕ). ¬ T (p j)) e g), many-takes n q (subst (λ (j : ℕ). T (q j)) e k))
  ]
