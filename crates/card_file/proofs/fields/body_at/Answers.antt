-- `body_at` meets its contract.
use Prim.Native.Nat.{◌-◌, ◌+◌}
use native.Mathlib.Omega.{arith}
use mathlib.Core.Path.{◌≡◌, sym, ap, ◌∙◌}
use Rattle.scope.specs.CardFile.{tag, length_of_body, head_length, body}
use lib.ListN.{drop}
use lib.Seq.{drop-drop}
use Rattle.card_file.proofs.fields.body_at.Goals as goal

pub returns-clause-body : goal.returns-clause-body
unfolding body
returns-clause-body c =
    let a = c.args in
    let long = c.body_length.ensures.0 ∙ ap length_of_body (sym c.requires.0) in
    let e : a.at + head_length + c.body_length.result - (a.at + head_length) ≡ length_of_body (tag (drop a.at a.file.now)) = omega (arith, long) in
    rw (e, drop-drop)
