-- Document 02, 2/14, of every card and every file: what is written reads back, what is read is written again, and how long a file is.
use Rattle.std.specs.Prelude.{ℕ, ◌+◌, ◌*◌, ◌^◌, ◌≤◌, ◌<◌, ◌≡◌, cond, List, eqb, length, get_or, take, Float}
use Rattle.shapes.specs.declared.circle.Circle.{Circle}
use Rattle.scope.specs.Numbers.{golden}
use Rattle.scope.specs.Refusals.{given, too_short, writer_refusal}
use Rattle.scope.specs.Links.{circle}
use Rattle.scope.specs.Layout.{layout}
use Rattle.scope.specs.CardFile.{Card, values_refusal, read_card}
use Rattle.scope.specs.Print.{printed, card_text}
use Rattle.scope.specs.Saving.{card_of, file_of, accepted_saving, write_card}
use Rattle.laws.specs.Bytes.{AreBytes}
use Rattle.promises.specs.Demand3.{AreDoubles}

-- the numbers are such as a caller's are: f64, inks of two bytes, masks and patterns of eight
pub record AreTyped (card : Card) : Type 0 where
  pub doubles : AreDoubles card.circles card.factor
  pub inks : (i : ℕ) → i < length card.circles → (circle card.circles i).ink < 2 ^ 16
  pub masks : (i : ℕ) → i < length card.masks → get_or card.masks i 0 < 2 ^ 64
  pub patterns : (i : ℕ) → i < length card.patterns → get_or card.patterns i 0 < 2 ^ 64

pub record CardsSaved : Type 0 where
  -- "its bytes read back to the same circles, regions and factor, all bits kept": of the file, and of an output that was written to
  pub reads_back : (factor : Float) (cs : List Circle) (masks patterns : List ℕ) → AreTyped (card_of factor cs masks patterns)
      → values_refusal (card_of factor cs masks patterns) ≡ 0 → read_card (file_of (card_of factor cs masks patterns)) ≡ given (card_of factor cs masks patterns)
  pub output_reads_back : (factor : Float) (cs : List Circle) (masks patterns out : List ℕ) → AreTyped (card_of factor cs masks patterns)
      → (write_card (card_of factor cs masks patterns) out).refusal ≡ 0
      → read_card (take (write_card (card_of factor cs masks patterns) out).written (write_card (card_of factor cs masks patterns) out).output)
      ≡ given (card_of factor cs masks patterns)
  -- "Any file the reader accepts is written again as the same bytes": the file, and the writer's answer where there is room
  pub same_bytes : (file : List ℕ) (card : Card) → AreBytes file → read_card file ≡ given card → file_of card ≡ file
  pub written-again : (file out : List ℕ) (card : Card) → AreBytes file → read_card file ≡ given card → length file ≤ length out
      → write_card card out ≡ accepted_saving file out
  -- what was read is a card by its values, so that both speak of the same cards
  pub read-by_values : (file : List ℕ) (card : Card) → read_card file ≡ given card
      → card ≡ card_of card.factor card.circles card.masks card.patterns
  -- "The writer takes exactly the values that the reader takes", and 15 comes "after all value checks"
  pub takes : (card : Card) (room size : ℕ)
      → writer_refusal card.circles card.factor card.masks card.areas room size
      ≡ cond (eqb (values_refusal card) 0) (cond (too_short room size) 15 0) (values_refusal card)
  -- how long the file is, and that it is no longer than the program takes
  pub size : (factor : Float) (cs : List Circle) (masks patterns : List ℕ) → length masks ≡ length patterns
      → length (file_of (card_of factor cs masks patterns)) ≡ 11 + 29 * length cs + 19 * length masks
  pub longest : (factor : Float) (cs : List Circle) (masks patterns : List ℕ) → values_refusal (card_of factor cs masks patterns) ≡ 0
      → length (file_of (card_of factor cs masks patterns)) ≤ 40779
  -- "The card is shown again next morning from the saved file"
  pub shown_again_lem : (factor : Float) (cs : List Circle) (masks patterns : List ℕ) → AreTyped (card_of factor cs masks patterns)
      → values_refusal (card_of factor cs masks patterns) ≡ 0
      → card_text (file_of (card_of factor cs masks patterns)) ≡ printed (layout cs factor masks (card_of factor cs masks patterns).areas golden)
