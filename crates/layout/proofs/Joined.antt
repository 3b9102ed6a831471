-- Centres written back into a lent run, and what an accepted run knows of its columns.
use Prim.Native.Nat.{ℕ, ◌≤◌, ◌<◌}
use mathlib.Core.Path.{◌≡◌, sym, ap, subst, ◌∙◌}
use mathlib.Core.Bool.{true}
use mathlib.Core.List.{List}
use lib.Dec.{T}
use lib.Ieee.{Float, binary64, fits}
use lib.ListN.{length, get_or}
use Rattle.shapes.specs.declared.circle.Circle.{Circle}
use Rattle.shapes.specs.declared.rectangle.Rectangle.{Rectangle}
use Rattle.shapes.specs.Records.{circle_of}
use Rattle.scope.specs.Limits.{circle_cap, radius_ok, proportion_ok}
use Rattle.scope.specs.Links.{circle, nowhere, regions}
use Rattle.scope.specs.Refusals.{bad_radius, inks, container_refusal, layout_refusal}
use Rattle.scope.specs.Container.{Contained, settled, contained}
use Rattle.scope.specs.Layout.{Result as Outcome, Layout, arranged, layout}
use Rattle.scope.specs.Promises.{Promises}
use Rattle.promises.specs.Demand3.{bound, AreDoubles, Demand3}
use Rattle.promises.proofs.whole.Demand3.{layout-promises}
use Rattle.laws.specs.Limits.{WithinLimits}
use Rattle.laws.specs.Inks.{with_ink, inked}
use Rattle.laws.proofs.Accepted.{ink_at_lem, not_too_many_iff, within_limits, layout_accepted_iff}
use Rattle.laws.proofs.AfterRefusal.{container-answers, layout-answers}
use Rattle.laws.proofs.Cases.{not_not_iff}
use Rattle.laws.proofs.EntryPoints.{container_reads}
use Rattle.laws.proofs.Inks.{length-inked, inked_at, settled_carries, bare_within, arranged_carries}
use Rattle.laws.proofs.Runs.{any_at, tab_equal}
use Rattle.intake.specs.Limits.{max_circles}
use Rattle.intake.specs.Columns.{at, circles_of, xs_of, ys_of, radii_of, Lifted}
use Rattle.intake.proofs.Columns.{length_shown, shown_at, shown_back, length_xs, length-radii, radius_at}
use Rattle.intake.proofs.InPlace.{rewritten}
use Rattle.layout.specs.Settling.{placed}
use Rattle.layout.proofs.WholeSteps.{radii_lifted}

-- a circle at the centre of place i
abbrev pub recentred : List Float → List Float → ℕ → Circle → Circle
recentred xs ys i c = circle_of (at xs i) (at ys i) c.radius c.ink

-- all of them: the circles that the lists show, with the run's radii and inks
pub joined_shown : (xs ys : List Float) (cs : List Circle) → length xs ≡ length cs
    → rewritten (recentred xs ys) nowhere cs ≡ inked (inks cs) (circles_of xs ys (radii_of cs))
unfolding inked
joined_shown xs ys cs long =
    let shown = circles_of xs ys (radii_of cs) in
    rw (length_shown xs ys (radii_of cs), long)
    (tab_equal (length cs) (λ i. recentred xs ys i (circle cs i)) (λ i. with_ink (get_or (inks cs) i 0) (circle shown i))
    (λ i h. rw (shown_at xs ys (radii_of cs) i (rw long h), radius_at cs i h, ink_at_lem cs i)))

-- ---- numbers of lists are numbers of the circles that they show, whatever their inks
pub shown_doubles : (xs ys rs : List Float) (factor : Float) → ((i : ℕ) → T (fits binary64 (at xs i)))
    → ((i : ℕ) → T (fits binary64 (at ys i)))
    → ((i : ℕ) → T (fits binary64 (at rs i))) → fits binary64 factor ≡ true → AreDoubles (circles_of xs ys rs) factor
shown_doubles xs ys rs factor x y r f =
    record {
      x = λ i l. rw (shown_at xs ys rs i (below i l)) (x i);
      y = λ i l. rw (shown_at xs ys rs i (below i l)) (y i);
      radius = λ i l. rw (shown_at xs ys rs i (below i l)) (r i);
      factor = rw f tt;
    }
  where
    below : (i : ℕ) → i < length (circles_of xs ys rs) → i < length xs
    below i l = rw (length_shown xs ys rs) at l

inked-doubles : (is : List ℕ) (cs : List Circle) (factor : Float) → AreDoubles cs factor → AreDoubles (inked is cs) factor
inked-doubles is cs factor d =
    record {
      x = λ i l. let h = inside i l in rw (inked_at is cs i h) (d.x i h);
      y = λ i l. let h = inside i l in rw (inked_at is cs i h) (d.y i h);
      radius = λ i l. let h = inside i l in rw (inked_at is cs i h) (d.radius i h);
      factor = d.factor;
    }
  where
    inside : (i : ℕ) → i < length (inked is cs) → i < length cs
    inside i l = rw (length-inked is cs) at l

module _ (cs : List Circle) where
  -- the run as the steps see it
  abbrev pub bare : List Circle
  bare = circles_of (xs_of cs) (ys_of cs) (radii_of cs)

  pub run-doubles : (factor : Float) → AreDoubles bare factor → AreDoubles cs factor
  run-doubles factor doubles = subst (λ (l : List Circle). AreDoubles l factor) (shown_back cs) (inked-doubles (inks cs) bare factor doubles)

  pub run_lifted : ((i : ℕ) → i < length cs → T (radius_ok (circle cs i).radius)) → Lifted (radii_of cs)
  run_lifted ok =
      radii_lifted (xs_of cs) (ys_of cs) (radii_of cs) (length-radii cs ∙ sym (length_xs cs))
      (λ i l.
      let below : i < length cs = rw (length_xs cs) at l in
      rw (shown_at (xs_of cs) (ys_of cs) (radii_of cs) i l, radius_at cs i below) (ok i below))

  -- ---- a run in its container
  module _ (container : Rectangle) (h : container_refusal cs container ≡ 0) where
    pub few_contained : length cs ≤ max_circles
    unfolding circle_cap
    few_contained = (not_too_many_iff (length cs)).0 ((container_reads cs container).accepted.0 h).0

    pub contained_lifted : Lifted (radii_of cs)
    unfolding bad_radius
    contained_lifted =
        run_lifted (λ i l. (not_not_iff (radius_ok (circle cs i).radius)).0 (λ t.
        ((container_reads cs container).accepted.0 h).1.1.0 ((any_at bad_radius cs nowhere).1 (i, l, t))))

    abbrev settled_at : List Circle → Contained
    settled_at after = record { refusal = 0; container = placed container; circles = after }

    pub settled_back : (xs ys : List Float) → circles_of xs ys (radii_of cs) ≡ (settled container bare).circles
        → settled_at (inked (inks cs) (circles_of xs ys (radii_of cs))) ≡ contained cs container
    unfolding settled placed
    settled_back xs ys e =
        let after : inked (inks cs) (circles_of xs ys (radii_of cs)) ≡ (settled container cs).circles =
        ap (inked (inks cs)) e ∙ sym (settled_carries container (inks cs) bare)
        ∙ ap (λ (l : List Circle). (settled container l).circles) (shown_back cs) in
        ap settled_at after ∙ sym ((container-answers cs container).on_acceptance h)

  -- ---- a run laid out
  module _ (factor : Float) (masks : List ℕ) (areas : List Float) (proportion : Float)
      (h : layout_refusal cs factor masks areas proportion ≡ 0) where
    abbrev made : Layout
    made = arranged proportion bare factor (regions masks areas)

    accepted : WithinLimits cs factor masks areas
    accepted = within_limits cs factor masks areas ((layout_accepted_iff cs factor masks areas proportion).0 h).0

    pub few_laid : length cs ≤ max_circles
    unfolding circle_cap
    few_laid = accepted.few_circles

    pub bare_accepted : WithinLimits bare factor masks areas
    bare_accepted = bare_within (inks cs) bare factor masks areas (rw (shown_back cs) accepted)

    pub proportion-inside : T (proportion_ok proportion)
    proportion-inside = ((layout_accepted_iff cs factor masks areas proportion).0 h).1

    -- the steps' arrangement, written back, is the answer's
    pub laid_back : (r : Outcome) (xs ys : List Float) → r ≡ made.result → circles_of xs ys (radii_of cs) ≡ made.circles
        → ◌≡◌ {A = Layout} (record { result = r; circles = inked (inks cs) (circles_of xs ys (radii_of cs)) })
        (layout cs factor masks areas proportion)
    laid_back r xs ys e f =
        let carried = arranged_carries proportion factor (regions masks areas) (inks cs) bare in
        rw (e, f) (sym carried ∙ ap (λ (l : List Circle). arranged proportion l factor (regions masks areas)) (shown_back cs)
        ∙ sym ((layout-answers cs factor masks areas proportion).on_acceptance h))

    -- and keeps the promises
    kept : AreDoubles cs factor → T (fits binary64 proportion)
        → Promises bound cs (regions masks areas) (layout cs factor masks areas proportion).result
        (layout cs factor masks areas proportion).circles
    kept doubles fit = unfold Demand3 in layout-promises cs factor masks areas proportion doubles fit h

    pub promises_kept : AreDoubles bare factor → fits binary64 proportion ≡ true → (r : Outcome) (after : List Circle)
        → ◌≡◌ {A = Layout} (record { result = r; circles = after }) (layout cs factor masks areas proportion)
        → Promises bound cs (regions masks areas) r after
    promises_kept doubles fit r after e =
        subst (λ (l : Layout). Promises bound cs (regions masks areas) l.result l.circles) (sym e)
        (kept (run-doubles factor doubles) (rw fit tt))
