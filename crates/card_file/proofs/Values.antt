-- The answer of a card that was read: a refusal stays, and a card is looked at for its values.
use mathlib.Core.Path.{◌≡◌, refl, sym}
use mathlib.Core.Bool.{true, false, true≢false}
use Rattle.std.specs.Prelude.{Option, Some, None, is_some}
use Rattle.scope.specs.Refusals.{Answer, answer, refused, given}
use Rattle.scope.specs.CardFile.{valued, values_refusal}
use Rattle.refusals.specs.declared.Refusal.{Refusal}
use Rattle.refusals.specs.Numbers.{number}
use Rattle.card_file.specs.Answers.{ReadCard, read_or_refused}

pub stays-refused : (r : Option Refusal) (card : ReadCard) (a : Answer ReadCard) → read_or_refused r card ≡ a → is_some r ≡ true → read_or_refused r card ≡ valued a
unfolding valued
stays-refused (Some e) card a same is = rw (← same)
stays-refused None card a same is = absurd (true≢false (sym is))

pub with_values : (r : Option Refusal) (card : ReadCard) (a : Answer ReadCard) → read_or_refused r card ≡ a → r ≡ None → valued a ≡ answer (values_refusal card) card
unfolding valued
with_values r card a same is = rw (← same, is)

pub none_refused : (r : Option Refusal) → is_some r ≡ false → r ≡ None
none_refused None is = refl
none_refused (Some e) is = absurd (true≢false is)

pub given_card : (r : Option Refusal) (card : ReadCard) → r ≡ None → read_or_refused r card ≡ given card
given_card r card is = rw is

pub refused_card : (r : Option Refusal) (card : ReadCard) (e : Refusal) → r ≡ Some e → read_or_refused r card ≡ refused (number e)
refused_card r card e is = rw is
