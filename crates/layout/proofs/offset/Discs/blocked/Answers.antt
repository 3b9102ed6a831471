-- `blocked` meets its contract: a circle is in the way exactly if the closure says so of its place.
use native.Mathlib.Omega.{arith}
use mathlib.Core.Path.{◌≡◌, refl, sym, ◌∙◌}
use lib.ListN.{length}
use borrow.Author.Tests.{tests}
use Rattle.std.proofs.Common.{rules}
use Rattle.std.proofs.lemmas.Iterator.{YieldsList-from_range}
use Rattle.std.proofs.lemmas.Iterator.Search.{any_from_yields_List}
use Rattle.std.specs.List.{list_any, range_with_len}
use Rattle.intake.specs.Columns.{circles_of}
use Rattle.intake.proofs.Columns.{length_shown}
use Rattle.layout.proofs.OffsetMoves.{barred, any_barred}
use Rattle.layout.proofs.offset.Discs.blocked.Goals as goal

pub returns : goal.returns
returns c =
    let a = c.args in
    let d = a.self.now in
    let cs = circles_of d.xs.now d.ys.now d.radii.now in
    let n = length d.xs.now in
    let found : c.any.result ≡ list_any (barred cs a.p a.i a.c) (range_with_len 0 n) =
    any_from_yields_List (barred cs a.p a.i a.c) _ _ c.any.result c.any.ensures.ran (YieldsList-from_range 0 n n refl (omega arith))
    (λ x b q k. search (rules, tests)) in
    found ∙ any_barred cs a.p a.i a.c n (sym (length_shown d.xs.now d.ys.now d.radii.now))
