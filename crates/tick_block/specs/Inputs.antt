-- What the four calls of a tick take, in a block (docs/RULES.md, 'The tick block').
use Rattle.std.specs.Prelude.{ℕ, ◌+◌, ◌*◌, if◌then◌else◌, List, map, nat_lt, Float}
use Rattle.std.specs.List.{range_with_len}
use Rattle.std.specs.Option.{unwrap_or}
use Rattle.linear.specs.declared.matrix.Matrix.{Matrix}
use Rattle.linear.specs.Vector.{zero_float}
use Rattle.tick.specs.Mode.{words_used}
use Rattle.tick.specs.declared.inputs.FinishInput.{FinishInput}
use Rattle.tick.specs.declared.inputs.PlanInput.{PlanInput}
use Rattle.tick.specs.declared.inputs.SightInput.{SightInput}
use Rattle.tick.specs.declared.inputs.SteerInput.{SteerInput}
use Rattle.tick.specs.declared.inputs.TickInput.{TickInput}
use Rattle.tick.specs.declared.sample.Sample.{Sample}
use Rattle.tick_block.specs.Words.{word_at}
use Rattle.tick_block.specs.Floats.{float_at, floats_at, vector3_at, vector4_at, vector6_at}
use Rattle.tick_block.specs.Flags.{seen, halt, stop, estimator_failed, planner_failed}
use Rattle.tick_block.specs.Layout as at

-- ---- the command's words

-- command word i where it is among the first n, else 0.0
abbrev pub word_below : List ℕ → ℕ → ℕ → Float
word_below s n i = if nat_lt i n then float_at s (at.command + i) else zero_float

-- the 13 command words, of which the first n are read
unfoldable pub first_words : List ℕ → ℕ → List Float
first_words s n = map (word_below s n) (range_with_len 0 13)

-- of which those are read that the mode uses: none where it is no mode
unfoldable pub command_words : List ℕ → ℕ → List Float
command_words s mode = first_words s (unwrap_or (words_used mode) 0)

-- ---- parts

-- a matrix of R by C, row by row
unfoldable pub matrix_at : {R C : ℕ} → List ℕ → ℕ → Matrix R C
matrix_at {R} {C} s at = record { rows = map (λ i. floats_at s (at + i * C) C) (range_with_len 0 R) }

-- a sample: six words of state, three of acceleration
unfoldable pub sample_at : List ℕ → ℕ → Sample
sample_at s at = record { state = vector6_at s at; accel = vector3_at s (at + 6) }

-- ---- the inputs

unfoldable pub sight_input : List ℕ → SightInput
sight_input s = record {
  vision_pose_meas = vector3_at s at.sighting;
  vision_update = seen s;
  wheel_vel_meas = vector4_at s at.wheels;
  imu_gyro_theta_meas = float_at s at.gyro;
  predicted_state = vector6_at s at.predicted;
  wheel2twist = matrix_at s at.wheel_to_twist;
}

unfoldable pub plan_input : List ℕ → PlanInput
plan_input s = record {
  state_estimate = vector6_at s at.estimate;
  halt = halt s;
  mode = word_at s at.mode;
  words = command_words s (word_at s at.mode);
  estimator_failed = estimator_failed s;
}

unfoldable pub steer_input : List ℕ → SteerInput
steer_input s = record {
  fresh = sample_at s at.fresh;
  next = sample_at s at.next;
  wheel_vel_meas = vector4_at s at.wheels;
  heading = record { cos = float_at s at.cosine; sin = float_at s at.sine };
  stop = stop s;
  planner_failed = planner_failed s;
}

unfoldable pub finish_input : List ℕ → FinishInput
finish_input s = record {
  i_inv = matrix_at s at.inverse_inertia;
  twist2wheel = matrix_at s at.twist_to_wheel;
  accel2wheel = matrix_at s at.accel_to_wheel;
  friction_force_local = vector3_at s at.friction;
}

abbrev pub tick_input : List ℕ → TickInput
tick_input s = record { sight = sight_input s; plan = plan_input s; steer = steer_input s; finish = finish_input s }
