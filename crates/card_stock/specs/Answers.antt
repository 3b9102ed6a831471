-- The answer of the call as document 02's record.
use Rattle.std.specs.Prelude.{ℕ, Result, Ok, Err}
use Rattle.refusals.specs.declared.Refusal.{Refusal}
use Rattle.refusals.specs.Numbers.{number}
use Rattle.scope.specs.CardStock.{Charge, refused_charge}

abbrev pub charge_of : Result ℕ Refusal → Charge
charge_of (Ok amount) = record { refusal = 0; amount = amount }
charge_of (Err r) = refused_charge (number r)
