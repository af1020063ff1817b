-- Steer's work on a context: tracking and recovery (docs/RULES.md, 'Steer').
use Rattle.std.specs.Prelude.{if◌then◌else◌, Option, None, Some, option_map, unwrap_or}
use Rattle.linear.specs.declared.Vector4f.{Vector4f}
use Rattle.linear.specs.declared.Vector6f.{Vector6f}
use Rattle.tick.specs.declared.command.ManeuverCommand.{ManeuverCommand}
use Rattle.tick.specs.declared.sample.Sample.{Sample}
use Rattle.tick.specs.Start.{dt_of}
use Rattle.control_context.specs.declared.memory.Memory.{Memory}
use Rattle.control_context.specs.declared.maneuvers.PlanAnswer.{PlanAnswer}
use Rattle.control_context.specs.declared.maneuvers.PlanAnswer.TheVariants.{Hold, NoVision, Keep, NewPlan}
use Rattle.control_context.specs.Memory.{after_tracking}
use Rattle.control_context.specs.declared.tracking.ManeuverSetpoints.{ManeuverSetpoints}
use Rattle.control_context.specs.Setpoints.{zero_setpoints, tracking_setpoints}
use Rattle.control_context.specs.Recovery.{RecoveryAnswer, recovery}
use Rattle.control_context.specs.declared.context.ControlContext.{ControlContext}
use Rattle.control_context.specs.declared.context.Planned.{Planned}
use Rattle.control_context.specs.Context.{context_reset}

-- setpoints, and the context that they leave
pub record Tracked : Type 0 where
  pub setpoints : ManeuverSetpoints
  pub context : ControlContext

-- ---- tracking

-- the state of the sample that is held, if one is
abbrev pub held_state : Option Sample → Option Vector6f
held_state held = option_map (λ (s : Sample). s.state) held

-- a sample is tracked; after it, the next sample is held and the command is the previous one
abbrev pub tracked : ControlContext → Sample → Sample → ManeuverCommand → Tracked
tracked c sample next cmd =
    let t = tracking_setpoints c.pose_pid c.state_estimate sample.state (dt_of c.start) in
    record { setpoints = t.setpoints; context = record c { memory = after_tracking next cmd; pose_pid = t.pid } }

-- hold and no vision give zeros; keep tracks the held sample, and a new plan the fresh one
abbrev pub followed_by : PlanAnswer → ControlContext → ManeuverCommand → Sample → Sample → Tracked
followed_by Hold c cmd fresh next = record { setpoints = zero_setpoints; context = c }
followed_by NoVision c cmd fresh next = record { setpoints = zero_setpoints; context = c }
followed_by Keep c cmd fresh next = tracked c (unwrap_or c.memory.held fresh) next cmd
followed_by (NewPlan seed) c cmd fresh next = tracked c fresh next cmd

abbrev pub followed : ControlContext → Planned → Sample → Sample → Tracked
followed c p fresh next = followed_by p.answer c p.cmd fresh next

-- the sample that an answer tracks, if it tracks one. A keep with none held, which plan never answers, tracks the fresh one
abbrev pub sample_by : PlanAnswer → Option Sample → Sample → Option Sample
sample_by Hold held fresh = None
sample_by NoVision held fresh = None
sample_by Keep held fresh = Some (unwrap_or held fresh)
sample_by (NewPlan seed) held fresh = Some fresh

abbrev pub tracked_sample : Planned → Memory → Sample → Option Sample
tracked_sample p m fresh = sample_by p.answer m.held fresh

-- ---- recovery

-- what recovery says of the sample held by now
abbrev pub recovery_of : ControlContext → Vector4f → RecoveryAnswer
recovery_of c wheels = recovery c.divergence (held_state c.memory.held) c.state_estimate wheels

abbrev pub recovered : ControlContext → Vector4f → ControlContext
recovered c wheels = if (recovery_of c wheels).reset then context_reset c else record c { divergence = (recovery_of c wheels).state }

-- ---- both

-- setpoints, then recovery
unfoldable pub steered : ControlContext → Planned → Sample → Sample → Vector4f → Tracked
steered c p fresh next wheels =
    let t = followed c p fresh next in
    record { setpoints = t.setpoints; context = recovered t.context wheels }
