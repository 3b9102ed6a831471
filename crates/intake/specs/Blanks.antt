-- What stands in an array where there is no circle: every number is 0.
use Rattle.shapes.specs.Records.{circle_of}
use Rattle.shapes.specs.declared.circle.Circle.{Circle}
use Rattle.scope.specs.Numbers.{nought}

abbrev pub blank : Circle
blank = circle_of nought nought nought 0
