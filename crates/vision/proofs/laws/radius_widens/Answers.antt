-- The laws of the radius.
use Rattle.vision.proofs.Radius.{widens, widening_takes}
use Rattle.vision.proofs.Held.{held_widens}
use Rattle.vision.proofs.laws.radius_widens.Goals as goal

pub returns : goal.returns
returns c = record { radius = widens; gate = widening_takes; vision = held_widens }
