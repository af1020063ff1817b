-- Each by computation.
use Rattle.params.proofs.DecimalLaws.{body_vel_clamp_angular_lem, vision_gate_base_radius, vision_clock_start, brake_least_current, tracking_as_written, limits_as_written}
use Rattle.params.proofs.decimals.constants_are_written.Goals as goal

pub returns : goal.returns
returns c = record {
  angular_clamp = body_vel_clamp_angular_lem;
  base_radius = vision_gate_base_radius;
  clock_start = vision_clock_start;
  brake_least_current = brake_least_current;
  tracking = tracking_as_written;
  limits = limits_as_written;
}
