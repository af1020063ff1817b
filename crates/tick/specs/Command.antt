-- The commands, the words that they are read from, and their fields (docs/RULES.md, 'Commands and modes').
use Rattle.std.specs.Prelude.{ℕ, if◌then◌else◌, List, [], ◌∷◌, ◌==◌, Float, Result, Ok, Err}
use Rattle.tick.specs.declared.refusal.Refusal.{Refusal}
use Rattle.tick.specs.declared.refusal.Refusal.TheVariants as Why
use Rattle.tick.specs.Mode.{is_mode}
use Rattle.linear.specs.Vector.{entry}
use Rattle.tick.specs.declared.command.GlobalPosition.{GlobalPosition}
use Rattle.tick.specs.declared.command.HeadingLine.{HeadingLine}
use Rattle.tick.specs.declared.command.ManeuverCommand.{ManeuverCommand}
use Rattle.tick.specs.declared.command.ManeuverCommand.TheVariants as Cmd

-- a command's mode number: 0 off, 1 brake, 2 position, 3 line
abbrev pub mode_of : ManeuverCommand → ℕ
mode_of Cmd.Off = 0
mode_of Cmd.Brake = 1
mode_of (Cmd.GlobalPosition p) = 2
mode_of (Cmd.HeadingLine l) = 3

-- ---- a command from its 13 words, as floats

-- a position with 7 floats: target, then linear and angular speed and acceleration limits
unfoldable pub position_from : List Float → GlobalPosition
position_from w = record {
  target_pose = record { x = entry w 0; y = entry w 1; z = entry w 2 };
  max_linear_vel = entry w 3;
  max_angular_vel = entry w 4;
  max_linear_acc = entry w 5;
  max_angular_acc = entry w 6;
}

-- a line with 13: heading, start, direction, line speed, six limits, threshold
unfoldable pub line_from : List Float → HeadingLine
line_from w = record {
  global_theta = entry w 0;
  start_x = entry w 1;
  start_y = entry w 2;
  dir_x = entry w 3;
  dir_y = entry w 4;
  line_velocity = entry w 5;
  max_vel_colinear = entry w 6;
  max_vel_perp = entry w 7;
  max_vel_angular = entry w 8;
  max_accel_colinear = entry w 9;
  max_accel_perp = entry w 10;
  max_accel_angular = entry w 11;
  colinear_start_thresh = entry w 12;
}

-- the command of a mode number and its words
unfoldable pub command_from : ℕ → List Float → Result ManeuverCommand Refusal
command_from mode w =
    if mode == 0 then Ok Cmd.Off
    else (if mode == 1 then Ok Cmd.Brake
    else (if mode == 2 then Ok (Cmd.GlobalPosition (position_from w))
    else (if mode == 3 then Ok (Cmd.HeadingLine (line_from w)) else Err Why.Mode)))

-- the refusal's number for a mode number, 0 where it is none
abbrev pub refusal_of : ℕ → ℕ
refusal_of mode = if is_mode mode then 0 else 4

-- ---- fields

-- the 7 floats of a position, and the 13 of a line, in the words' order
abbrev pub position_fields : GlobalPosition → List Float
position_fields p =
    p.target_pose.x ∷ p.target_pose.y ∷ p.target_pose.z ∷ p.max_linear_vel ∷ p.max_angular_vel
    ∷ p.max_linear_acc ∷ p.max_angular_acc ∷ []

abbrev pub line_fields : HeadingLine → List Float
line_fields l =
    l.global_theta ∷ l.start_x ∷ l.start_y ∷ l.dir_x ∷ l.dir_y ∷ l.line_velocity
    ∷ l.max_vel_colinear ∷ l.max_vel_perp ∷ l.max_vel_angular ∷ l.max_accel_colinear ∷ l.max_accel_perp ∷ l.max_accel_angular
    ∷ l.colinear_start_thresh ∷ []

-- a command's fields
abbrev pub fields_of : ManeuverCommand → List Float
fields_of Cmd.Off = []
fields_of Cmd.Brake = []
fields_of (Cmd.GlobalPosition p) = position_fields p
fields_of (Cmd.HeadingLine l) = line_fields l
