-- Document 02, 1/14: "Every move, turn and mirror carries it through", and "the layout otherwise comes out as before". Both at once: whatever inks are put on
-- circles before a step, the step gives what it gives without them, with the same inks put on.
use Rattle.std.specs.Prelude.{ℕ, ◌≡◌, List, length, get_or}
use Rattle.shapes.specs.declared.circle.Circle.{Circle}
use Rattle.scope.specs.Runs.{tab}
use Rattle.scope.specs.Links.{circle}

-- the circle with another ink
abbrev pub with_ink : ℕ → Circle → Circle
with_ink k c = record { center = c.center; radius = c.radius; ink = k }

-- circles with these inks, in order; 0 where there is none
unfoldable pub inked : List ℕ → List Circle → List Circle
inked is cs = tab (length cs) (λ i. with_ink (get_or is i 0) (circle cs i))

-- a change of one circle, and of a layout, that carries the inks through
abbrev pub Carries : (Circle → Circle) → Type 0
Carries f = (k : ℕ) (c : Circle) → f (with_ink k c) ≡ with_ink k (f c)

abbrev pub CarriesAll : (List Circle → List Circle) → Type 0
CarriesAll f = (is : List ℕ) (cs : List Circle) → f (inked is cs) ≡ inked is (f cs)

-- what does not look at the inks
abbrev pub Blind : {A : Type 0} → (List Circle → A) → Type 0
Blind f = (is : List ℕ) (cs : List Circle) → f (inked is cs) ≡ f cs
