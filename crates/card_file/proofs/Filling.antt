-- An array is filled from its start, entry after entry: what is used grows by one, and the rest stays as it was.
use Prim.Native.Nat.{ℕ, ◌+◌, ◌-◌, ◌<◌}
use native.Mathlib.Omega.{arith}
use native.Mathlib.Numerals.{add-one}
use mathlib.Core.Path.{◌≡◌, sym, ap, ◌∙◌}
use mathlib.Core.List.{List, [], ◌∷◌, ◌++◌}
use lib.ListN.{length, take, drop, set, replicate, length-set, length-replicate}
use lib.Seq.{drop-drop, drop-set-lt, take-suc-set, length-take-le}
use Rattle.laws.proofs.Runs.{drop-replicate}
use Rattle.intake.specs.Blanks.{blank}
use Rattle.intake.specs.Limits.{max_circles, max_regions}
use Rattle.scope.specs.Numbers.{nought}
use Rattle.card_file.specs.declared.card.Card.{Card}
use Rattle.card_file.specs.Unused.{Uses, RestIsBlank, IsBlank}

module _ {A : Type 0} where
  pub none_used : (room : ℕ) (z : A) → Uses room z 0 (replicate room z)
  none_used room z =
      let all : room ≡ room - 0 = omega arith in
      record { long = length-replicate room z; fits = omega arith; unused = ap (λ (k : ℕ). replicate k z) all }

  pub one_more_used : {room : ℕ} {z : A} {n : ℕ} {l : List A} (a : A) → n < room → Uses room z n l → Uses room z (n + 1) (set l n a)
  one_more_used {room} {z} {n} {l} a h u =
      let one_less : room - n - 1 ≡ room - (n + 1) = omega arith in
      record {
        long = length-set l n a ∙ u.long;
        fits = omega arith;
        unused =
            drop-set-lt (n + 1) l n a (omega arith) ∙ sym (drop-drop 1 n l) ∙ ap (drop 1) u.unused ∙ drop-replicate 1 (room - n) z
            ∙ ap (λ (k : ℕ). replicate k z) one_less;
      }

  pub used_next : {room : ℕ} {z : A} {n : ℕ} {l : List A} (a : A) → n < room → Uses room z n l → take (n + 1) (set l n a) ≡ take n l ++ a ∷ []
  used_next {room} {z} {n} {l} a h u = rw add-one (take-suc-set l n a (omega arith))

  pub used_length : {room : ℕ} {z : A} {n : ℕ} {l : List A} → Uses room z n l → length (take n l) ≡ n
  used_length {room} {z} {n} {l} u = length-take-le n l (omega arith)

pub refused_is_blank : (r : Card) → IsBlank r → RestIsBlank r
refused_is_blank r b = record {
  circles = rw (b.no_circles, b.circles) (none_used max_circles blank);
  masks = rw (b.no_regions, b.masks) (none_used max_regions 0);
  patterns = rw (b.no_regions, b.patterns) (none_used max_regions 0);
  areas = rw (b.no_regions, b.areas) (none_used max_regions nought);
  nothing = λ e h. b;
}
