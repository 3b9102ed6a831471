-- `root::pattern::normal` meets its contract.
use Rattle.root.proofs.ScaleLaws.{field_is_normal}
use Rattle.root.proofs.pattern.normal.Goals as goal

pub returns-else-field-eq0 : goal.returns-else-field-eq0
returns-else-field-eq0 c = field_is_normal c.args.b c.requires.1 c.if-field-eq0.false
