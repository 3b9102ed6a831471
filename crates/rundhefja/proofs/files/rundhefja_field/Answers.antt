-- `rundhefja_field` meets its contract: the length of the body tells where it lies.
use mathlib.Core.Path.{◌≡◌, sym, ◌∙◌}
use native.Mathlib.Omega.{arith}
use Rattle.card_file.specs.Parts.{body_place}
use Rattle.rundhefja.proofs.Bodies.{lies, read_with_body}
use Rattle.rundhefja.proofs.files.rundhefja_field.Goals as goal
use Rattle.rundhefja.proofs.files.rundhefja_field.Goals.{then-length-eq0, else-length-eq0}

pub overflow_add-start : goal.overflow_add-start
overflow_add-start c =
    let a = c.args in
    omega (arith, ((lies a.file.now a.at).somewhere (λ e. c.if-length-eq0.false (c.body_length-length.ensures ∙ e))).1)

pub returns : goal.returns
returns c =
    let a = c.args in
    let l = lies a.file.now a.at in
    let length-is = c.body_length-length.ensures in
    let start_is : c.if-length-eq0.start ≡ body_place a.file.now a.at =
    elim c.if-length-eq0.branch [ then-length-eq0 w ↦ w.start-is ∙ sym (l.nowhere (sym length-is ∙ w.if-length-eq0.true)) | else-length-eq0 w ↦ w.start-is ∙ sym (l.somewhere (λ e. w.if-length-eq0.false (length-is ∙ e))).0 ]
    in
    let both = read_with_body a.file.now a.at _ _ _ _ c.field_read.ensures c.read_field.ensures start_is length-is in
    record { answer = both.0; body = both.1 }
