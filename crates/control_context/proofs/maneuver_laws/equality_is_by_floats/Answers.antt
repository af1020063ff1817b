-- The laws of equality.
use Rattle.control_context.proofs.EqualityLaws.{equal_symmetric, equal_itself, zeros_equal}
use Rattle.control_context.proofs.maneuver_laws.equality_is_by_floats.Goals as goal

pub returns : goal.returns
returns c = record { symmetric = equal_symmetric; itself = equal_itself; zeros = zeros_equal }
