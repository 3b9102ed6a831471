-- Each call by value, its number read off its checks both ways and its answer as a whole: the first n records are no more than n, so the call on them finds
-- too many exactly if the count is too large.
use Prim.Native.Nat.{ℕ, ◌≤◌}
use native.Mathlib.Nat.{min-le_left}
use native.Mathlib.Omega.{arith}
use mathlib.Core.Path.{◌≡◌, refl, ap, ◌∙◌}
use mathlib.Core.Bool.{Bool, true, false, cond}
use mathlib.Core.List.{List, ◌∷◌, map}
use lib.ListN.{take, length, length-take, take-append-drop}
use lib.Ieee.{Float}
use Rattle.shapes.specs.declared.point.Point.{Point}
use Rattle.shapes.specs.declared.circle.Circle.{Circle}
use Rattle.shapes.specs.declared.rectangle.Rectangle.{Rectangle}
use Rattle.scope.specs.Refusals.{Checks, front_to_back, too_many}
use Rattle.scope.specs.Links.{regions}
use Rattle.scope.specs.Groups.{Grouping, plain_clusters, refused_grouping, accepted_grouping}
use Rattle.scope.specs.Packing.{Packing, packed, refused_packing, accepted_packing}
use Rattle.scope.specs.Container.{Contained, settled, refused_container}
use Rattle.scope.specs.Layout.{Layout, arranged, refused_layout, layout}
use Rattle.scope.specs.CardStock.{Charge, refused_charge, stock_for}
use Rattle.scope.specs.Touch.{Touched, refused_touch, accepted_touch}
use Rattle.scope.specs.CardFile.{float_of}
use Rattle.scope.specs.Saving.{Saved, refused_saving, accepted_saving, file_of, card_of}
use Rattle.scope.specs.Twins.{counted_grouping, first_grouping, first_packing, with_others, first_layout, with_rest, first_contained, first_written, first_stock, first_touched}
use Rattle.laws.specs.BothWays.{Reads}
use Rattle.laws.specs.Answers.{Answers}
use Rattle.laws.specs.ByValue.{first_circles_checks, first_pack_checks, first_container_checks, first_layout_checks, first_stock_checks, first_touch_checks, first_writer_checks}
use Rattle.laws.proofs.Cases.{is_false}
use Rattle.laws.proofs.Accepted.{not_too_many_iff}
use Rattle.laws.proofs.Counted.{few, by_many}
use Rattle.laws.proofs.FrontToBack.{front_to_back_reads}
use Rattle.laws.proofs.EntryPoints.{circles_reads, pack_reads, container_reads, layout_reads, stock_reads, touch_reads, writer_reads}
use Rattle.laws.proofs.AfterRefusal.{plain_grouping-answers, packing-answers, container-answers, layout-answers, stock_answers, counted_touch-answers, write_card-answers}

module _ {A : Type 0} {number_of : A → ℕ} {refuse : ℕ → A} where
  -- a count that is too large before a call
  pub unless-many : {number : ℕ} {answer value : A} (many : Bool) → ((k : ℕ) → number_of (refuse k) ≡ k) → Answers number_of number answer refuse value
      → Answers number_of (cond many 1 number) (cond many (refuse 1) answer) refuse value
  unless-many true named inner = record { says = named 1; at_refusal = λ z. refl; on_acceptance = λ z. absurd (omega arith) }
  unless-many false named inner = inner

  -- and before the call on the first n records, which are m
  counted : {answer value : A} (n m : ℕ) (cs : Checks) → m ≤ n → ((k : ℕ) → number_of (refuse k) ≡ k)
      → Answers number_of (front_to_back ((1, too_many m) ∷ cs)) answer refuse value
      → Answers number_of (front_to_back ((1, too_many n) ∷ cs)) (cond (too_many n) (refuse 1) answer) refuse value
  unfolding front_to_back
  counted n m cs fewer named inner = by_many n (λ h. rw h (unless-many true named inner)) (λ h.
      let room = few n h in
      rw h (rw (is_false (too_many m) ((not_too_many_iff m).1 (omega arith))) at inner))

  -- an answer put into another
  inside : {B : Type 0} {numberOf' : B → ℕ} {refuse' : ℕ → B} {number : ℕ} {answer value : A} (put : A → B) → ((a : A) → numberOf' (put a) ≡ number_of a)
      → ((k : ℕ) → put (refuse k) ≡ refuse' k) → Answers number_of number answer refuse value → Answers numberOf' number (put answer) refuse' (put value)
  inside put same refused inner = record {
    says = same _ ∙ inner.says;
    at_refusal = λ z. ap put (inner.at_refusal z) ∙ refused _;
    on_acceptance = λ z. ap put (inner.on_acceptance z);
  }

first_few : {A : Type 0} (n : ℕ) (l : List A) → length (take n l) ≤ n
first_few n l = rw length-take (min-le_left n (length l))

-- ---- `find_clusters`

module _ (n : ℕ) (cs : List Circle) where
  pub first_grouping-answers :
      Answers (λ (a : Grouping). a.refusal) (front_to_back (first_circles_checks n cs)) (first_grouping n cs) refused_grouping
      (accepted_grouping (plain_clusters (take n cs)))
  unfolding counted_grouping
  first_grouping-answers = counted n _ _ (first_few n cs) (λ k. refl) (rw (circles_reads (take n cs)).runs at (plain_grouping-answers (take n cs)))

  pub first_grouping_reads : Reads (first_grouping n cs).refusal (first_circles_checks n cs)
  first_grouping_reads = rw first_grouping-answers.says (front_to_back_reads _ tt)

-- ---- packing

module _ (n : ℕ) (rects : List Rectangle) (padding proportion : Float) where
  pub first_packing-answers :
      Answers (λ (a : Packing). a.refusal) (front_to_back (first_pack_checks n rects padding proportion)) (first_packing n rects padding proportion) refused_packing
      (accepted_packing (packed proportion (take n rects) padding))
  unfolding first_packing
  first_packing-answers =
      counted n _ _ (first_few n rects) (λ k. refl) (rw (pack_reads (take n rects) padding proportion).runs at (packing-answers (take n rects) padding proportion))

  pub first_packing_reads : Reads (first_packing n rects padding proportion).refusal (first_pack_checks n rects padding proportion)
  first_packing_reads = rw first_packing-answers.says (front_to_back_reads _ tt)

-- ---- container: it and all circles of the array as given

module _ (n : ℕ) (cs : List Circle) (container : Rectangle) where
  pub first_contained-answers :
      Answers (λ (a : Contained). a.refusal) (front_to_back (first_container_checks n cs container)) (first_contained n cs container)
      (refused_container cs container) (with_rest n cs (settled container (take n cs)))
  unfolding first_contained
  first_contained-answers =
      counted n _ _ (first_few n cs) (λ k. refl)
      (inside (with_rest n cs) (λ a. refl) (λ k. rw (take-append-drop n cs))
      (rw (container_reads (take n cs) container).runs at (container-answers (take n cs) container)))

  pub first_contained_reads : Reads (first_contained n cs container).refusal (first_container_checks n cs container)
  first_contained_reads = rw first_contained-answers.says (front_to_back_reads _ tt)

-- ---- whole layout: nothing but the number, and all circles of the array as given

module _ (n : ℕ) (cs : List Circle) (factor : Float) (masks : List ℕ) (areas : List Float) (proportion : Float) where
  pub first_layout-answers :
      Answers (λ (l : Layout). l.result.refusal) (front_to_back (first_layout_checks n cs factor masks areas proportion)) (first_layout n cs factor masks areas proportion)
      (λ k. refused_layout k cs) (with_others n cs (arranged proportion (take n cs) factor (regions masks areas)))
  unfolding first_layout refused_layout
  first_layout-answers =
      counted n _ _ (first_few n cs) (λ k. refl)
      (inside (with_others n cs) (λ a. refl) (λ k. rw (take-append-drop n cs))
      (rw (layout_reads (take n cs) factor masks areas proportion).runs at (layout-answers (take n cs) factor masks areas proportion)))

  pub first_layout_reads : Reads (first_layout n cs factor masks areas proportion).result.refusal (first_layout_checks n cs factor masks areas proportion)
  first_layout_reads = rw first_layout-answers.says (front_to_back_reads _ tt)

-- ---- card stock: an amount of 0

module _ (n : ℕ) (cs : List Circle) (factor : Float) (masks : List ℕ) (areas : List Float) (proportion : Float) (cents : ℕ) where
  pub first_stock-answers :
      Answers (λ (a : Charge). a.refusal) (front_to_back (first_stock_checks n cs factor masks areas proportion cents)) (first_stock n cs factor masks areas proportion cents)
      refused_charge (record { refusal = 0; amount = stock_for (layout (take n cs) factor masks areas proportion).circles cents })
  unfolding first_stock
  first_stock-answers =
      counted n _ _ (first_few n cs) (λ k. refl)
      (rw (stock_reads (take n cs) factor masks areas proportion cents).runs at (stock_answers (take n cs) factor masks areas proportion cents))

  pub first_stock_reads : Reads (first_stock n cs factor masks areas proportion cents).refusal (first_stock_checks n cs factor masks areas proportion cents)
  first_stock_reads = rw first_stock-answers.says (front_to_back_reads _ tt)

-- ---- a batch: the lent answers as they were

module _ (n : ℕ) (cs : List Circle) (m : ℕ) (ps : List Point) (out : List ℕ) where
  pub first_touch_answers :
      Answers (λ (t : Touched). t.refusal) (front_to_back (first_touch_checks n cs m ps (length out))) (first_touched n cs m ps out) (refused_touch out)
      (accepted_touch (take n cs) (take m ps) out)
  unfolding first_touched
  first_touch_answers =
      counted n _ _ (first_few n cs) (λ k. refl)
      (rw (touch_reads (take n cs) (take m ps) m (length out)).runs at (counted_touch-answers m (take n cs) (take m ps) out))

  pub first_touch_reads : Reads (first_touched n cs m ps out).refusal (first_touch_checks n cs m ps (length out))
  first_touch_reads = rw first_touch_answers.says (front_to_back_reads _ tt)

-- ---- saved: nothing written, the lent list as it was

module _ (n : ℕ) (cs : List Circle) (factor : Float) (masks patterns out : List ℕ) where
  pub first_written-answers :
      Answers (λ (s : Saved). s.refusal) (front_to_back (first_writer_checks n cs factor masks patterns out)) (first_written n cs factor masks patterns out)
      (refused_saving out) (accepted_saving (file_of (card_of factor (take n cs) masks patterns)) out)
  unfolding first_written
  first_written-answers =
      let card = card_of factor (take n cs) masks patterns in
      counted n _ _ (first_few n cs) (λ k. refl)
      (rw (writer_reads (take n cs) factor masks (map float_of patterns) (length out) (length (file_of card))).runs at (write_card-answers card out))

  pub first_written_reads : Reads (first_written n cs factor masks patterns out).refusal (first_writer_checks n cs factor masks patterns out)
  first_written_reads = rw first_written-answers.says (front_to_back_reads _ tt)
