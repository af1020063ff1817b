-- The laws of the clamps.
use Rattle.control_context.proofs.ClampedLaws.{twist_bounded, accel_bounded, unmarked_same}
use Rattle.control_context.proofs.tracking_laws.clamps_bound_every_entry.Goals as goal

pub returns : goal.returns
returns c = record { twist = twist_bounded; accel = accel_bounded; unmarked = unmarked_same }
