-- The lines put one after the other are those of the definition, and the parts put one after the other are the whole text.
use Prim.Native.Nat.{ℕ, ◌+◌, ◌<◌}
use mathlib.Core.Path.{◌≡◌}
use mathlib.Core.List.{List, ◌++◌, append_assoc}
use native.Mathlib.Numerals.{add-one}
use lib.ListN.{length, get_or}
use Rattle.std.proofs.lemmas.List.{get_or_default}
use Rattle.shapes.specs.declared.circle.Circle.{Circle}
use Rattle.scope.specs.Runs.{in_turn}
use Rattle.scope.specs.Links.{nowhere}
use Rattle.scope.specs.Text.{bytes}
use Rattle.scope.specs.Print.{decimal, sixteen_digits, bits_of, float, line, printed}
use Rattle.layout.specs.declared.normalize.Arrangement.{Arrangement}
use Rattle.card_output.specs.Puts.{Put}
use Rattle.card_output.specs.Texts.{lines_of, layout_of}
use Rattle.card_output.proofs.Putting.{put_none, put_both}

module _ (circles : List Circle) (numbers : List ℕ) where
  pub lines_none : (at : ℕ) (l : List ℕ) → Put (lines_of circles numbers 0) at l at l
  unfolding in_turn
  lines_none at l = put_none at l

  pub lines_next : (i : ℕ) (d : Circle) {k l m : List ℕ} {p q r : ℕ} → i < length circles → Put (lines_of circles numbers i) p k q l
      → Put (line i (get_or numbers i 0) (get_or circles i d)) q l r m → Put (lines_of circles numbers (i + 1)) p k r m
  unfolding in_turn
  lines_next i d h x y = rw (add-one i, get_or_default circles i nowhere d h) (put_both x y)

pub printed_is : (circles : List Circle) (a : Arrangement) (pattern : ℕ) → pattern ≡ bits_of a.padding
    → bytes "circles " ++ decimal (length circles) ++ (bytes " clusters " ++ decimal a.count) ++ (bytes " moved " ++ sixteen_digits a.moved) ++ (bytes " padding " ++ sixteen_digits pattern) ++ bytes "\n" ++ lines_of circles a.numbers (length circles)
    ≡ printed (layout_of a circles)
unfolding printed float
printed_is circles a pattern d = rw d (simp append_assoc)
