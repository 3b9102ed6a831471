-- `Circle::moved_to` meets its contract, by those of `Point::new` and `lift`.
use Rattle.shapes.proofs.circle.Circle.moved_to.Goals as goal

pub returns : goal.returns
returns c = rw (c.lift.ensures, c.new-self.ensures)
