-- What a controller puts out in a tick.
use Rattle.linear.specs.Vector.{zeros3, zeros4}
use Rattle.tick.specs.declared.outputs.Outputs.{Outputs}

-- the outputs of a new or reset controller
unfoldable pub no_outputs : Outputs
no_outputs = record {
  body_twist_out = zeros3;
  body_accel_out = zeros3;
  body_accel_out_fric_comp = zeros3;
  wheel_vel_out = zeros4;
  wheel_torque_out = zeros4;
}
