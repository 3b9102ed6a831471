-- A child's one partner is its parent: some region of finite area above the tolerance holds both, so a chain joins them; and a parent is no child, because the two totals would each be below the other.
use mathlib.Core.Path.{◌≡◌, refl, sym, subst}
use mathlib.Core.Logic.{◌↔◌}
use mathlib.Core.Bool.{Bool, true, false, not, ◌&&◌, cond}
use mathlib.Core.List.{List, [], ◌∷◌, Memᴰ}
use mathlib.Core.Option.{Option, none, some}
use Prim.Native.Nat.{ℕ, zero, suc, ◌-◌, ◌^◌, ◌<◌}
use native.Mathlib.Omega.{arith}
use native.Mathlib.Decide.{dec_lt}
use lib.Bits.{bit_or}
use lib.Dec.{T, eqb, ltb, ltb→lt}
use lib.Pow.{pow_pos}
use lib.ListN.{get_or, length}
use lib.Ieee.{Float, nan, inf, fin, le, lt, eq}
use lib.Ieee.Scale.{finite}
use Rattle.scope.specs.Numbers.{◌≤ᶠ◌, ◌<ᶠ◌, nought}
use Rattle.scope.specs.Runs.{gather, bit, least}
use Rattle.scope.specs.Links.{Region, holds, counts}
use Rattle.scope.specs.Tolerance.{region, no_region, tolerance}
use Rattle.scope.specs.Offset.{other_bits, area_with_mask, contained_child_parent, smaller, if_smaller, parent_of}
use Rattle.scope.specs.Promises.{last_of, Each, Joined, Chain}
use Rattle.laws.proofs.Cases.{and_iff, not_iff, eqb_iff, tested}
use Rattle.laws.proofs.Runs.{gather-takes, gather-leaves, least-passes}
use Rattle.laws.proofs.MaskBits.{bit_of_union, union_left, union_right, bit_taken, bit_left, bit_past, bit_of_power, power_has_one_bit}
use Rattle.promises.proofs.offset.Tolerance.{minus_infinity_at_most}
use Rattle.promises.proofs.offset.Totals.{finite-areas, smaller-finite, smaller_one_way}

-- ---- the partners of circle i, and the regions that they come from
module _ (tol : Float) (rs : List Region) (i : ℕ) where
  abbrev large : ℕ → Bool
  large k = holds (region rs k) i && not ((region rs k).area ≤ᶠ tol)

  large_iff : (k : ℕ) → T (large k) ↔ (T (holds (region rs k) i) × (¬ T ((region rs k).area ≤ᶠ tol)))
  large_iff k = (
    λ h. let both = (and_iff (holds (region rs k) i) (not ((region rs k).area ≤ᶠ tol))).0 h in (both.0, (not_iff ((region rs k).area ≤ᶠ tol)).0 both.1),
    λ h. (and_iff (holds (region rs k) i) (not ((region rs k).area ≤ᶠ tol))).1 (h.0, (not_iff ((region rs k).area ≤ᶠ tol)).1 h.1),
  )

  abbrev join : ℕ → Region → ℕ
  join m r = bit_or m (r.mask - 2 ^ i)

  abbrev bits_to : ℕ → ℕ
  bits_to n = gather join 0 large n (region rs)

  -- region k makes q a partner of i
  record Partner (n q : ℕ) : Type 0 where
    place : ℕ
    place-below : place < n
    holds-i : T (holds (region rs place) i)
    holds_q : T (holds (region rs place) q)
    not_small : ¬ T ((region rs place).area ≤ᶠ tol)
    apart : i ≡ q → ⊥

  further : {n q : ℕ} → Partner n q → Partner (suc n) q
  further p = record { place = p.place; place-below = (let h = p.place-below in omega arith); holds-i = p.holds-i; holds_q = p.holds_q; not_small = p.not_small; apart = p.apart }

  partner_to : (n q : ℕ) → T (bit (bits_to n) q) → Partner n q
  unfolding gather
  partner_to zero q t = absurd (bit_past 0 q (pow_pos q) t)
  partner_to (suc n) q t = elim (tested (large n)) [
    | no h ↦ further (partner_to n q (rw (gather-leaves join 0 large n (region rs) h) at t))
    | yes h ↦
        let u : T (bit (bit_or (bits_to n) ((region rs n).mask - 2 ^ i)) q) = rw (gather-takes join 0 large n (region rs) h) at t in
        elim (tested (bit (bits_to n) q)) [
          | yes b ↦ further (partner_to n q b)
          | no b ↦
              let l = (large_iff n).0 h in
              let r = bit_taken (region rs n).mask i l.0 q (bit_of_union (bits_to n) ((region rs n).mask - 2 ^ i) q u b) in
              record { place = n; place-below = omega arith; holds-i = l.0; holds_q = r.1; not_small = l.1; apart = r.0 }
        ]
  ]

  to_partner : (n q k : ℕ) → k < n → T (holds (region rs k) i) → T (holds (region rs k) q) → ¬ T ((region rs k).area ≤ᶠ tol) → (i ≡ q → ⊥) → T (bit (bits_to n) q)
  to_partner zero q k l a b c d = absurd (omega arith)
  to_partner (suc n) q k l a b c d = elim (tested (large n)) [
    | no h ↦ elim (dec_lt k n) [
      | yes j ↦ rw (gather-leaves join 0 large n (region rs) h) (to_partner n q k j a b c d)
      | no j ↦ let e : k ≡ n = omega arith in absurd (h (subst (λ (z : ℕ). T (large z)) e ((large_iff k).1 (a, c))))
    ]
    | yes h ↦ rw (gather-takes join 0 large n (region rs) h) (elim (dec_lt k n) [
      | yes j ↦ union_left (bits_to n) ((region rs n).mask - 2 ^ i) q (to_partner n q k j a b c d)
      | no j ↦
          let e : k ≡ n = omega arith in
          union_right (bits_to n) ((region rs n).mask - 2 ^ i) q (bit_left (region rs n).mask i ((large_iff n).0 h).0 q d (subst (λ (z : ℕ). T (holds (region rs z) q)) e b))
    ])
  ]

-- ---- what a parent is
pub record ParentIs (n : ℕ) (rs : List Region) (i p : ℕ) : Type 0 where
  pub below : p < n
  pub partner : 2 ^ p ≡ other_bits (tolerance rs) rs i
  pub less : T (smaller rs i p)

some_same : (b : Bool) (q p : ℕ) → cond b (some q) none ≡ some p → T b × (q ≡ p)
some_same true q p e = (tt, cc)
some_same false q p e = let z : ◌≡◌ {A = ℕ} 0 1 = cc in absurd (omega arith)

abbrev first_partner : ℕ → List Region → ℕ → ℕ
first_partner n rs i = least n (λ q. eqb (2 ^ q) (other_bits (tolerance rs) rs i))

found_partner : (n : ℕ) (rs : List Region) (i q : ℕ) → contained_child_parent n rs (tolerance rs) i ≡ some q → (q < n) × (2 ^ q ≡ other_bits (tolerance rs) rs i)
unfolding contained_child_parent
found_partner n rs i q h =
    let first = first_partner n rs i in
    let r = some_same (not (tolerance rs <ᶠ area_with_mask (2 ^ i) rs) && ltb first n) first q h in
    let l = ltb→lt first n ((and_iff (not (tolerance rs <ᶠ area_with_mask (2 ^ i) rs)) (ltb first n)).0 r.0).1 in
    rw (← r.1) (l, (eqb_iff (2 ^ first) (other_bits (tolerance rs) rs i)).0 (least-passes n (λ k. eqb (2 ^ k) (other_bits (tolerance rs) rs i)) l))

pub parent_is : (n : ℕ) (rs : List Region) (i p : ℕ) → parent_of n rs i ≡ some p → ParentIs n rs i p
unfolding parent_of if_smaller
parent_is n rs i p e = go (contained_child_parent n rs (tolerance rs) i) refl e
  where
    go : (o : Option ℕ) → contained_child_parent n rs (tolerance rs) i ≡ o → if_smaller rs i o ≡ some p → ParentIs n rs i p
    go none h k = let z : ◌≡◌ {A = ℕ} 0 1 = cc in absurd (omega arith)
    go (some q) h k =
        let r = some_same (smaller rs i q) q p k in
        let f = found_partner n rs i q h in
        rw (← r.1) (record { below = f.0; partner = f.1; less = r.0 })

module _ (n : ℕ) (rs : List Region) (i p : ℕ) (e : parent_of n rs i ≡ some p) where
  shared_region : Partner (tolerance rs) rs i (length rs) p
  unfolding other_bits
  shared_region = partner_to (tolerance rs) rs i (length rs) p (rw (← (parent_is n rs i p e).partner) (bit_of_power p))

  -- its parent would be i again
  pub parent_is_no_child : (q : ℕ) → parent_of n rs p ≡ some q → ⊥
  unfolding other_bits
  parent_is_no_child q k =
      let s = shared_region in
      let back = parent_is n rs p q k in
      let t = to_partner (tolerance rs) rs p (length rs) i s.place s.place-below s.holds_q s.holds-i s.not_small (λ h. s.apart (sym h)) in
      let same = power_has_one_bit q i (rw back.partner t) in
      smaller_one_way rs i p (parent_is n rs i p e).less (subst (λ (z : ℕ). T (smaller rs p z)) same back.less)

  -- a NaN or infinite area would make the child's total no number below another
  shared_area_finite : T (finite (region rs shared_region.place).area)
  shared_area_finite = go (region rs shared_region.place).area refl
    where
      from_total : ¬ T ((region rs shared_region.place).area ≤ᶠ nought) → T (finite (region rs shared_region.place).area)
      from_total = finite-areas rs i (smaller-finite rs i p (parent_is n rs i p e).less) shared_region.place shared_region.place-below shared_region.holds-i

      go : (x : Float) → (region rs shared_region.place).area ≡ x → T (finite x)
      go nan h = rw h at (from_total (rw h (λ t. unfold le lt eq in t)))
      go (inf true) h = absurd (shared_region.not_small (rw h (minus_infinity_at_most rs)))
      go (inf false) h = rw h at (from_total (rw h (λ t. unfold le lt eq in t)))
      go (fin s m d) h = tt

  pub child_chained_to_parent : Chain n (tolerance rs) rs i p
  unfolding counts Each Joined last_of
  child_chained_to_parent =
      let s = shared_region in
      let r = region rs s.place in
      record {
        first = r;
        others = [];
        good = ((member rs s.place s.place-below, (and_iff (finite r.area) (not (r.area ≤ᶠ tolerance rs))).1 (shared_area_finite, (not_iff (r.area ≤ᶠ tolerance rs)).1 s.not_small)), tt);
        starts = s.holds-i;
        ends = s.holds_q;
        joined = tt;
      }
    where
      member : (l : List Region) (k : ℕ) → k < length l → Memᴰ (get_or l k no_region) l
      member [] k h = absurd (omega arith)
      member (r ∷ l) zero h = Memᴰ.head refl
      member (r ∷ l) (suc k) h = Memᴰ.tail (member l k (omega arith))
