-- The held sample and the previous command, and what is dropped of them (docs/RULES.md, 'Plan' and 'Steer').
use Rattle.std.specs.Prelude.{None, Some}
use Rattle.tick.specs.declared.command.ManeuverCommand.{ManeuverCommand}
use Rattle.tick.specs.declared.sample.Sample.{Sample}
use Rattle.control_context.specs.declared.memory.Memory.{Memory}

-- trajectory and previous command dropped
abbrev pub empty_memory : Memory
empty_memory = record { held = None; prev_cmd = None }

-- a planner failure drops the trajectory, and leaves the previous command
abbrev pub trajectory_dropped : Memory → Memory
trajectory_dropped m = record m { held = None }

-- after tracking, the next sample is held and the command is the previous one
abbrev pub after_tracking : Sample → ManeuverCommand → Memory
after_tracking next cmd = record { held = Some next; prev_cmd = Some cmd }
