-- One more region at the end of the list joins the clusters that its circles are in, and changes nothing else: for any n, list, region and tolerance.
use Prim.Native.Nat.{ℕ, ◌<◌}
use mathlib.Core.Path.{◌≡◌, refl, sym, ap, ◌∙◌}
use mathlib.Core.Logic.Iff
use mathlib.Core.Logic.{◌↔◌, ◌⊎◌, inl, inr, ⊎_elim}
use mathlib.Core.Bool.{Bool, ◌&&◌, ◌||◌, or_assoc, or-false}
use mathlib.Core.List.Memᴰ
use mathlib.Core.List.{List, [], ◌∷◌, ◌++◌}
use lib.ListN.{get_or}
use lib.Dec.{T, eqb}
use lib.Ieee.{Float}
use Rattle.scope.specs.Links.{Region, holds, counts, share, linked_by_regions}
use Rattle.scope.specs.Closure.{at}
use Rattle.scope.specs.Groups.{clusters}
use Rattle.scope.specs.Promises.{Each}
use Rattle.laws.proofs.Cases.{or_iff, sum_iff}
use Rattle.laws.proofs.Closure.{closed, closure_links, closure_joins, closure-least, closure_grows}
use Rattle.laws.proofs.Chains.{Both, both_iff, regions_equivalence}
use Rattle.laws.proofs.Clusters.{same_number_iff_closure, same_number_iff_chain}

-- r counts, and holds a circle of i's cluster and one of j's; R is "in one cluster"
pub record Bridged (n : ℕ) (R : ℕ → ℕ → Type 0) (tol : Float) (r : Region) (i j : ℕ) : Type 0 where
  pub a : ℕ
  pub b : ℕ
  pub a_below : a < n
  pub b-below : b < n
  pub both : Both tol r a b
  pub near : R i a
  pub far : R b j

-- other circles at the two ends, or another relation
bridged_map : {n : ℕ} {R S : ℕ → ℕ → Type 0} {tol : Float} {r : Region} {i j k l : ℕ}
    → ((a : ℕ) → a < n → R i a → S k a) → ((b : ℕ) → b < n → R b j → S b l) → Bridged n R tol r i j → Bridged n S tol r k l
bridged_map f g c =
    record { a = c.a; b = c.b; a_below = c.a_below; b-below = c.b-below; both = c.both; near = f c.a c.a_below c.near; far = g c.b c.b-below c.far }

pub share_append : (tol : Float) (rs ss : List Region) (i j : ℕ) → share tol (rs ++ ss) i j ≡ share tol rs i j || share tol ss i j
unfolding share
share_append tol [] ss i j = refl
share_append tol (r ∷ rs) ss i j =
    let b : Bool = counts tol r && (holds r i && holds r j) in
    ap (λ (s : Bool). b || s) (share_append tol rs ss i j) ∙ sym (or_assoc b (share tol rs i j) (share tol ss i j))

linked_one_more : (tol : Float) (rs : List Region) (r : Region) (i j : ℕ)
    → T (linked_by_regions tol (rs ++ (r ∷ [])) i j) ↔ (T (linked_by_regions tol rs i j) ⊎ Both tol r i j)
unfolding linked_by_regions share
linked_one_more tol rs r i j =
    rw (share_append tol rs (r ∷ []) i j, or-false (counts tol r && (holds r i && holds r j)), ← or_assoc (eqb i j) (share tol rs i j) (counts tol r && (holds r i && holds r j)))
    (Iff.trans (or_iff (eqb i j || share tol rs i j) (counts tol r && (holds r i && holds r j))) (sum_iff Iff.rfl (both_iff tol r i j)))

-- equal cluster numbers
abbrev pub Same : ℕ → Float → List Region → ℕ → ℕ → Type 0
Same n tol rs i j = get_or (clusters n rs tol).numbers i 0 ≡ get_or (clusters n rs tol).numbers j 0

module _ (n : ℕ) (tol : Float) (rs : List Region) (r : Region) where
  abbrev old : ℕ → ℕ → Bool
  old = linked_by_regions tol rs

  abbrev new : ℕ → ℕ → Bool
  new = linked_by_regions tol (rs ++ (r ∷ []))

  abbrev Old : ℕ → ℕ → Type 0
  Old i j = T (at (closed n old) i j)

  abbrev New : ℕ → ℕ → Type 0
  New i j = T (at (closed n new) i j)

  linked : (i j : ℕ) → i < n → j < n → T (new i j) → Old i j ⊎ Bridged n Old tol r i j
  linked i j hi hj h =
      let self = (regions_equivalence n tol rs).self in
      ⊎_elim (λ l. inl (closure_links n old i j hi hj l)) (λ c. inr (record { a = i; b = j; a_below = hi; b-below = hj; both = c; near = self i hi; far = self j hj }))
      ((linked_one_more tol rs r i j).0 h)

  joined : (i j k : ℕ) → Old i j ⊎ Bridged n Old tol r i j → Old j k ⊎ Bridged n Old tol r j k → Old i k ⊎ Bridged n Old tol r i k
  joined i j k (inl p) (inl q) = inl (closure_joins n old i j k p q)
  joined i j k (inl p) (inr q) = inr (bridged_map (λ a ha. closure_joins n old i j a p) (λ b hb t. t) q)
  joined i j k (inr p) (inl q) = inr (bridged_map (λ a ha t. t) (λ b hb t. closure_joins n old b j k t q) p)
  joined i j k (inr p) (inr q) =
      inr (record { a = p.a; b = q.b; a_below = p.a_below; b-below = q.b-below; both = (p.both.0, p.both.1, q.both.2); near = p.near; far = q.far })

  kept : (i j : ℕ) → Old i j → New i j
  kept = closure_grows n old new (λ i j hi hj h. (linked_one_more tol rs r i j).1 (inl h))

  bridged : (i j : ℕ) → Bridged n Old tol r i j → New i j
  bridged i j c =
      let across : New c.a c.b = closure_links n new c.a c.b c.a_below c.b-below ((linked_one_more tol rs r c.a c.b).1 (inr c.both)) in
      closure_joins n new i c.a j (kept i c.a c.near) (closure_joins n new c.a c.b j across (kept c.b j c.far))

  pub one_more-region : (i j : ℕ) → New i j ↔ (Old i j ⊎ Bridged n Old tol r i j)
  one_more-region i j =
      (closure-least n new (λ i j. Old i j ⊎ Bridged n Old tol r i j) linked (λ i j k hi hj hk. joined i j k) i j, ⊎_elim (kept i j) (bridged i j))

  -- the new numbers are equal where the old ones were, or where r bridges two old ones (for request 11 of document 02, as is the next)
  pub one_more_region_numbers : (i j : ℕ) → i < n → j < n → Same n tol (rs ++ (r ∷ [])) i j ↔ (Same n tol rs i j ⊎ Bridged n (Same n tol rs) tol r i j)
  one_more_region_numbers i j hi hj =
      let bridge = bridged_map (λ a ha. (marks i a hi ha).1) (λ b hb. (marks b j hb hj).1) in
      let back = bridged_map (λ a ha. (marks i a hi ha).0) (λ b hb. (marks b j hb hj).0) in
      let joins = Iff.trans (one_more-region i j) (sum_iff (Iff.symm (marks i j hi hj)) (bridge, back)) in
      Iff.trans (same_number_iff_closure n (rs ++ (r ∷ [])) tol i j hi hj) joins
    where
      marks : (i j : ℕ) → i < n → j < n → Same n tol rs i j ↔ Old i j
      marks = same_number_iff_closure n rs tol

-- before the first region each circle is alone
pub no_regions_numbers : (n : ℕ) (tol : Float) (i j : ℕ) → i < n → j < n → Same n tol [] i j ↔ (i ≡ j)
unfolding Each
no_regions_numbers n tol i j hi hj =
    Iff.trans (same_number_iff_chain n [] tol i j hi hj) (⊎_elim (λ e. e) (λ c. absurd (Memᴰ.not-nil c.good.0.0)), λ e. inl e)
