-- Document 01, "Card file and program": what `card` prints, as bytes.
use Rattle.std.specs.Prelude.{ℕ, suc, ◌+◌, ◌-◌, ◌/◌, ◌%◌, ◌^◌, cond, List, [], ◌++◌, ltb, get_or, length, Float}
use Rattle.std.specs.Float.Ieee.{eq}
use Rattle.shapes.specs.declared.circle.Circle.{Circle}
use Rattle.scope.specs.Numbers.{nought, golden}
use Rattle.scope.specs.Runs.{tab, least, in_turn}
use Rattle.scope.specs.Limits.{input_cap}
use Rattle.scope.specs.Refusals.{Answer, refused, given}
use Rattle.scope.specs.Links.{circle}
use Rattle.scope.specs.Layout.{Layout, layout}
use Rattle.scope.specs.CardFile.{Card, pattern_of, read_card}
use Rattle.scope.specs.Text.{bytes}

-- a number in decimal: no zeros in front
unfoldable pub decimal : ℕ → List ℕ
decimal n =
    let d = least n (λ k. ltb n (10 ^ suc k)) in
    tab (suc d) (λ i. 48 + n / 10 ^ (d - i) % 10)

-- 0 to 9, a to f
unfoldable pub hex_digit : ℕ → ℕ
hex_digit d = cond (ltb d 10) (48 + d) (87 + d)

-- the lowest d + 1 hexadecimal digits of a number
unfoldable pub hexadecimal : ℕ → ℕ → List ℕ
hexadecimal d n = tab (suc d) (λ i. hex_digit (n / 16 ^ (d - i) % 16))

-- "16 hexadecimal digits"
unfoldable pub sixteen_digits : ℕ → List ℕ
sixteen_digits n = hexadecimal 15 n

-- "Either zero prints as sixteen 0s."
unfoldable pub bits_of : Float → ℕ
bits_of x = cond (eq x nought) 0 (pattern_of x)

unfoldable pub float : Float → List ℕ
float x = sixteen_digits (bits_of x)

-- "circle, cluster (both in decimal), then the f64 bits of x, y, radius"; document 02, 1/14: the ink number "in decimal after the radius"
unfoldable pub line : ℕ → ℕ → Circle → List ℕ
line i a c =
    decimal i ++ bytes " " ++ decimal a ++ bytes " " ++ float c.center.x ++ bytes " " ++ float c.center.y ++ bytes " " ++ float c.radius
    ++ bytes " " ++ decimal c.ink ++ bytes "\n"

unfoldable pub printed : Layout → List ℕ
printed l =
    bytes "circles " ++ decimal (length l.circles) ++ bytes " clusters " ++ decimal l.result.count ++ bytes " moved " ++ sixteen_digits l.result.moved
    ++ bytes " padding " ++ float l.result.padding ++ bytes "\n"
    ++ in_turn (length l.circles) (λ i text. text ++ line i (get_or l.result.numbers i 0) (circle l.circles i)) []

-- "any refusal prints `refused` and the number"
unfoldable pub refused_text : ℕ → List ℕ
refused_text k = bytes "refused " ++ decimal k ++ bytes "\n"

unfoldable pub answer_text : Answer Card → List ℕ
answer_text (refused k) = refused_text k
answer_text (given card) = printed (layout card.circles card.factor card.masks card.areas golden)

-- "Program `card` reads a file of at most 65,536 bytes on standard input. Longer input prints `refused 2`"
unfoldable pub card_text : List ℕ → List ℕ
card_text input =
    let text = answer_text (read_card input) in
    cond (ltb input_cap (length input)) (refused_text 2) text
