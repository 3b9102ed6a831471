-- Bytes put one after the other behind what a lent list holds.
use Prim.Native.Nat.{ℕ, suc, ◌+◌, ◌-◌, ◌≤◌, ◌<◌}
use mathlib.Core.Path.{◌≡◌, refl, sym, ap, subst, ◌∙◌}
use mathlib.Core.List.{List, [], ◌∷◌, ◌++◌, append_assoc, append-nil}
use native.Mathlib.Omega.{arith}
use native.Mathlib.Numerals.{add-one}
use lib.ListN.{length, set, replicate, length-append, length-drop, take, drop, get_or}
use lib.Seq.{set_at, drop-cons, take-suc, take_all, take_at, length-take-le}
use Rattle.scope.specs.Runs.{filled}
use Rattle.laws.proofs.Runs.{drop-replicate, length-filled}
use Rattle.card_output.specs.Puts.{Holds, Put}
use Rattle.card_output.specs.Texts.{max_text}

pub put_none : (at : ℕ) (l : List ℕ) → Put [] at l at l
put_none at l = record { place = omega arith; holds = λ lent held h. rw append-nil h }

-- ---- one byte

-- what holds something is as long as what was lent
length_held : {lent held l : List ℕ} {at : ℕ} → Holds lent held at l → length l ≡ length lent
length_held {lent} {held} {l} {at} h = rw (h.is, length-append, length-drop) (omega (arith, h.place, h.fits))

-- a store behind what is held is one byte more
held_next : (lent held : List ℕ) (b : ℕ) → length held < length lent
    → set (held ++ drop (length held) lent) (length held) b ≡ (held ++ (b ∷ [])) ++ drop (length (held ++ (b ∷ []))) lent
held_next lent held b h =
    let more : length (held ++ (b ∷ [])) ≡ suc (length held) = rw length-append (omega arith) in
    rw (more, append_assoc, drop-cons lent (length held) 0 h) (set_at held (get_or lent (length held) 0) (drop (suc (length held)) lent) b (length held) refl)

pub put_one : (at b : ℕ) (l : List ℕ) → at < length l → Put (b ∷ []) at l (at + 1) (set l at b)
put_one at b l h =
    record {
      place = refl;
      holds = λ lent held k.
          let inside : at < length lent = omega (arith, length_held k) in
          record {
            place = rw length-append (omega (arith, k.place));
            fits = omega arith;
            is = rw (k.is, k.place) (held_next lent held b (omega (arith, k.place)));
          };
    }

-- ---- one after the other

-- first a, then b
pub put_both : {a b k l m : List ℕ} {p q r : ℕ} → Put a p k q l → Put b q l r m → Put (a ++ b) p k r m
put_both {a} {b} x y =
    record {
      place = rw length-append (omega (arith, x.place, y.place));
      holds = λ lent held h. rw (← append_assoc) (y.holds lent (held ++ a) (x.holds lent held h));
    }

-- ---- the first bytes of several

pub put_next : (bytes : List ℕ) (i : ℕ) {k l m : List ℕ} {p q r : ℕ} → i < length bytes → Put (take i bytes) p k q l → Put (get_or bytes i 0 ∷ []) q l r m → Put (take (i + 1) bytes) p k r m
put_next bytes i {k} {l} {m} {p} {q} {r} h x y = subst (λ (z : List ℕ). Put z p k r m) (sym (ap (λ (j : ℕ). take j bytes) (add-one i) ∙ take-suc bytes i 0 h)) (put_both x y)

pub put_all : (bytes : List ℕ) (i : ℕ) {k l : List ℕ} {p q : ℕ} → length bytes ≤ i → Put (take i bytes) p k q l → Put bytes p k q l
put_all bytes i h x = rw (take_all i bytes h) at x

pub place_of : (bytes : List ℕ) (i : ℕ) {k l : List ℕ} {p q : ℕ} → i ≤ length bytes → Put (take i bytes) p k q l → q ≡ p + i
place_of bytes i h x = omega (arith, x.place, length-take-le i bytes h)

pub put_equal : {a b k l : List ℕ} {p q : ℕ} → a ≡ b → Put a p k q l → Put b p k q l
put_equal {a} {b} {k} {l} {p} {q} e x = subst (λ (z : List ℕ). Put z p k q l) e x

-- the bytes before the last, then the last
pub put_last : {a whole k l m : List ℕ} {b c p q r : ℕ} → whole ≡ a ++ (c ∷ []) → b ≡ c → Put a p k q l → Put (b ∷ []) q l r m → Put whole p k r m
put_last {a} {whole} e d x y = put_equal (ap (λ (z : ℕ). a ++ (z ∷ [])) d ∙ sym e) (put_both x y)

pub put_only : {whole k l : List ℕ} {b c p q : ℕ} → whole ≡ c ∷ [] → b ≡ c → Put (b ∷ []) p k q l → Put whole p k q l
put_only e d x = put_equal (ap (λ (z : ℕ). z ∷ []) d ∙ sym e) x

-- ---- the whole

-- bytes put from the start of a lent list
pub put_front : {bytes out after : List ℕ} {r : ℕ} → Put bytes 0 out r after → (r ≡ length bytes) × (after ≡ bytes ++ drop (length bytes) out)
put_front {bytes} {out} x = let h = x.holds out [] (record { place = refl; fits = omega arith; is = refl }) in (h.place, h.is)

-- a text put into an empty array
pub put_first : {text l : List ℕ} {r : ℕ} → Put text 0 (replicate max_text 0) r l → (r ≡ length text) × (l ≡ filled max_text 0 text)
unfolding filled
put_first {text} x = let h = put_front x in (h.0, h.1 ∙ ap (λ (z : List ℕ). text ++ z) (drop-replicate (length text) max_text 0))

-- what a text says of its array: there is room for it, so it can be handed on as a part, which is the text
module _ (text : List ℕ) (n : ℕ) (l : List ℕ) (h : (n ≡ length text) × (l ≡ filled max_text 0 text) × (n ≤ max_text)) where
  pub text-fits : (n ≤ length l) × (n ≡ length (take n l))
  text-fits =
      let long : length l ≡ max_text = rw h.1 (length-filled max_text 0 text (omega (arith, h.0, h.2))) in
      let fits : n ≤ length l = omega (arith, long, h.2) in
      (fits, sym (length-take-le n l fits))

  pub text_part : take n l ≡ text
  unfolding filled
  text_part = rw h.1 (take_at text (replicate (max_text - length text) 0) n (sym h.0))
