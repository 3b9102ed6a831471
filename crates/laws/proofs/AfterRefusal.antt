-- What a call answers: on a refusal the number, the rest 0 and everything lent as it was; on acceptance the number 0 and the value.
use Prim.Native.Nat.{ℕ, zero, suc}
use native.Mathlib.Omega.{arith}
use mathlib.Core.Path.{◌≡◌, refl}
use mathlib.Core.Logic.{◌≢◌}
use mathlib.Core.List.{List, []}
use lib.ListN.{length, get_or, drop}
use lib.Ieee.{Float, binary64}
use borrow.Author.Tests.{eq-eqb, ne_eqb}
use Rattle.rounding.specs.Root.{root}
use Rattle.shapes.specs.declared.point.Point.{Point}
use Rattle.shapes.specs.declared.circle.Circle.{Circle}
use Rattle.shapes.specs.declared.rectangle.Rectangle.{Rectangle}
use Rattle.scope.specs.Runs.{filled}
use Rattle.scope.specs.Refusals.{refused, given, answer, points_refusal, pair_refusal, circle_point_refusal, circles_refusal, regions_refusal, columns_refusal, pack_refusal, container_refusal, layout_refusal, stock_refusal, touch_refusal, writer_refusal, text_refusal}
use Rattle.scope.specs.Distance.{root_refusal, root_answer, distance, distance_answer, circle_distance, circle_distance_answer, contains, contains_answer, contains_point, contains_point_answer, intersects, intersects_answer}
use Rattle.scope.specs.Links.{regions}
use Rattle.scope.specs.Groups.{Clusters, Grouping, clusters, plain_clusters, refused_grouping, accepted_grouping, grouping, area_grouping, plain_grouping}
use Rattle.scope.specs.Packing.{Packing, columns, columns_answer, packed, refused_packing, accepted_packing, packing, skyline_pack}
use Rattle.scope.specs.Container.{Contained, settled, refused_container, contained_answer, contained}
use Rattle.scope.specs.Layout.{Layout, arranged, refused_layout, if_accepted, layout}
use Rattle.scope.specs.CardStock.{Charge, refused_charge, stock_for, charged, card_stock}
use Rattle.scope.specs.Touch.{Touched, refused_touch, accepted_touch, touching, counted_touch, touched}
use Rattle.scope.specs.CardFile.{tag, body, field_of, field_refusal, read_field, field_body, Card}
use Rattle.scope.specs.Print.{card_text}
use Rattle.scope.specs.Saving.{Saved, refused_saving, accepted_saving, saving, file_of, write_card, write_text}
use Rattle.laws.specs.Answers.{Answers, refusal_of}
use Rattle.laws.proofs.Runs.{get_or_filled_any}

by_number : {A : Type 0} (number_of : A → ℕ) (refuse call : ℕ → A) → number_of (call 0) ≡ 0 → ((k : ℕ) → call (suc k) ≡ refuse (suc k)) → ((k : ℕ) → number_of (refuse k) ≡ k)
    → (number : ℕ) → Answers number_of number (call number) refuse (call 0)
by_number number_of refuse call none some named zero = record { says = none; at_refusal = λ h. absurd (h refl); on_acceptance = λ h. refl }
by_number number_of refuse call none some named (suc k) =
    record { says = rw (some k) (named (suc k)); at_refusal = λ h. some k; on_acceptance = λ (h : suc k ≡ 0). absurd (omega arith) }

-- "rest 0": an array filled up from nothing
pub filled_from_nothing {ℓ} : {A : Type ℓ} (c : ℕ) (z : A) (i : ℕ) → get_or (filled c z []) i z ≡ z
filled_from_nothing c z i = get_or_filled_any c z [] i

-- ---- answers that are a value or a refusal

pub answer-answers : {A : Type 0} (number : ℕ) (a : A) → Answers refusal_of number (answer number a) refused (given a)
unfolding answer
answer-answers number a = by_number refusal_of refused (λ k. answer k a) refl (λ k. refl) (λ k. refl) number

pub root-answers : (x : Float) → Answers refusal_of (root_refusal x) (root_answer x) refused (given (root binary64 x))
unfolding root_answer
root-answers x = answer-answers _ _

pub distance-answers : (p q : Point) → Answers refusal_of (points_refusal p q) (distance_answer p q) refused (given (distance p q))
unfolding distance_answer
distance-answers p q = answer-answers _ _

pub circle_distance-answers : (a b : Circle) → Answers refusal_of (pair_refusal a b) (circle_distance_answer a b) refused (given (circle_distance a b))
unfolding circle_distance_answer
circle_distance-answers a b = answer-answers _ _

pub contains-answers : (a b : Circle) → Answers refusal_of (pair_refusal a b) (contains_answer a b) refused (given (contains a b))
unfolding contains_answer
contains-answers a b = answer-answers _ _

pub contains_point-answers : (c : Circle) (p : Point) → Answers refusal_of (circle_point_refusal c p) (contains_point_answer c p) refused (given (contains_point c p))
unfolding contains_point_answer
contains_point-answers c p = answer-answers _ _

pub intersects-answers : (a b : Circle) → Answers refusal_of (pair_refusal a b) (intersects_answer a b) refused (given (intersects a b))
unfolding intersects_answer
intersects-answers a b = answer-answers _ _

pub columns-answers : (k : ℕ) (proportion : Float)
    → Answers refusal_of (columns_refusal k proportion) (columns_answer k proportion) refused (given (columns k proportion))
unfolding columns_answer
columns-answers k proportion = answer-answers _ _

pub read_field-answers : (file : List ℕ) (at : ℕ)
    → Answers refusal_of (field_refusal (drop at file)) (read_field file at) refused (given (field_of (tag (drop at file)) (body (drop at file))))
unfolding read_field
read_field-answers file at = answer-answers _ _

-- the body alone, which comes without a number
pub field_body-answers : (file : List ℕ) (at : ℕ)
    → (field_refusal (drop at file) ≢ 0 → field_body file at ≡ []) × (field_refusal (drop at file) ≡ 0 → field_body file at ≡ body (drop at file))
unfolding field_body
field_body-answers file at = (λ h. rw (ne_eqb (field_refusal (drop at file)) 0 h), λ h. rw (eq-eqb (field_refusal (drop at file)) 0 h))

-- ---- clustering: no clusters, all numbers 0

grouping-answers : (number : ℕ) (g : Clusters) → Answers (λ (a : Grouping). a.refusal) number (grouping number g) refused_grouping (accepted_grouping g)
unfolding grouping
grouping-answers number g = by_number (λ a. a.refusal) refused_grouping (λ k. grouping k g) refl (λ k. refl) (λ k. refl) number

pub area_grouping-answers : (n : ℕ) (masks : List ℕ) (areas : List Float) (tol : Float)
    → Answers (λ (a : Grouping). a.refusal) (regions_refusal n masks areas) (area_grouping n masks areas tol) refused_grouping (accepted_grouping (clusters n (regions masks areas) tol))
unfolding area_grouping
area_grouping-answers n masks areas tol = grouping-answers (regions_refusal n masks areas) (clusters n (regions masks areas) tol)

pub plain_grouping-answers : (cs : List Circle)
    → Answers (λ (a : Grouping). a.refusal) (circles_refusal cs) (plain_grouping cs) refused_grouping (accepted_grouping (plain_clusters cs))
unfolding plain_grouping
plain_grouping-answers cs = grouping-answers (circles_refusal cs) (plain_clusters cs)

-- ---- packing: all rectangles 0

pub packing-answers : (rects : List Rectangle) (padding proportion : Float)
    → Answers (λ (a : Packing). a.refusal) (pack_refusal rects padding proportion) (skyline_pack rects padding proportion) refused_packing
    (accepted_packing (packed proportion rects padding))
unfolding skyline_pack packing
packing-answers rects padding proportion =
    by_number (λ a. a.refusal) refused_packing (λ k. packing k (packed proportion rects padding)) refl (λ k. refl) (λ k. refl) (pack_refusal rects padding proportion)

-- ---- container: it and the circles as given

pub container-answers : (cs : List Circle) (container : Rectangle)
    → Answers (λ (a : Contained). a.refusal) (container_refusal cs container) (contained cs container) (refused_container cs container) (settled container cs)
unfolding contained contained_answer settled
container-answers cs container =
    by_number (λ a. a.refusal) (refused_container cs container) (λ k. contained_answer k container cs (settled container cs)) refl (λ k. refl) (λ k. refl)
    (container_refusal cs container)

-- ---- whole layout: no clusters, nothing moved, padding 0, the circles as given

pub layout-answers : (cs : List Circle) (factor : Float) (masks : List ℕ) (areas : List Float) (proportion : Float)
    → Answers (λ (l : Layout). l.result.refusal) (layout_refusal cs factor masks areas proportion) (layout cs factor masks areas proportion)
    (λ k. refused_layout k cs) (arranged proportion cs factor (regions masks areas))
unfolding layout if_accepted arranged refused_layout
layout-answers cs factor masks areas proportion =
    by_number (λ l. l.result.refusal) (λ k. refused_layout k cs) (λ k. if_accepted k cs (arranged proportion cs factor (regions masks areas))) refl (λ k. refl) (λ k. refl)
    (layout_refusal cs factor masks areas proportion)

-- ---- a batch: the lent answers as they were

pub counted_touch-answers : (m : ℕ) (cs : List Circle) (ps : List Point) (out : List ℕ)
    → Answers (λ (t : Touched). t.refusal) (touch_refusal cs ps m (length out)) (counted_touch m cs ps out) (refused_touch out) (accepted_touch cs ps out)
unfolding counted_touch touching
counted_touch-answers m cs ps out =
    by_number (λ t. t.refusal) (refused_touch out) (λ k. touching k cs ps out) refl (λ k. refl) (λ k. refl) (touch_refusal cs ps m (length out))

pub touch_answers : (cs : List Circle) (ps : List Point) (out : List ℕ)
    → Answers (λ (t : Touched). t.refusal) (touch_refusal cs ps (length ps) (length out)) (touched cs ps out) (refused_touch out) (accepted_touch cs ps out)
unfolding touched
touch_answers cs ps out = counted_touch-answers (length ps) cs ps out

-- ---- card stock: an amount of 0

pub stock_answers : (cs : List Circle) (factor : Float) (masks : List ℕ) (areas : List Float) (proportion : Float) (cents : ℕ)
    → Answers (λ (a : Charge). a.refusal) (stock_refusal cs factor masks areas proportion cents) (card_stock cs factor masks areas proportion cents)
    refused_charge (record { refusal = 0; amount = stock_for (layout cs factor masks areas proportion).circles cents })
unfolding card_stock charged
stock_answers cs factor masks areas proportion cents =
    by_number (λ a. a.refusal) refused_charge (λ k. charged k (stock_for (layout cs factor masks areas proportion).circles cents)) refl (λ k. refl) (λ k. refl)
    (stock_refusal cs factor masks areas proportion cents)

-- ---- saved: nothing written, the lent list as it was

pub saving-answers : (number : ℕ) (bytes out : List ℕ)
    → Answers (λ (s : Saved). s.refusal) number (saving number bytes out) (refused_saving out) (accepted_saving bytes out)
unfolding saving
saving-answers number bytes out = by_number (λ s. s.refusal) (refused_saving out) (λ k. saving k bytes out) refl (λ k. refl) (λ k. refl) number

pub write_card-answers : (card : Card) (out : List ℕ)
    → Answers (λ (s : Saved). s.refusal)
    (writer_refusal card.circles card.factor card.masks card.areas (length out) (length (file_of card))) (write_card card out)
    (refused_saving out) (accepted_saving (file_of card) out)
unfolding write_card
write_card-answers card out = saving-answers _ (file_of card) out

pub write_text-answers : (input out : List ℕ)
    → Answers (λ (s : Saved). s.refusal) (text_refusal (length out) (length (card_text input))) (write_text input out) (refused_saving out)
    (accepted_saving (card_text input) out)
unfolding write_text
write_text-answers input out = saving-answers _ (card_text input) out
