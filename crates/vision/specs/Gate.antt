-- The gate: seeding, tracking, and a tick without a sighting (docs/RULES.md, 'The gate'). Every step is rounded to binary32.
use Rattle.std.specs.Prelude.{Bool, if◌then◌else◌, nat_lt, Float, Option, None, Some}
use Rattle.std.specs.Float.{binary32}
use Rattle.std.specs.Float.Ieee.{add, sub, mul, lt, le, eq}
use Rattle.ieee754.specs.Hypot.{hypotenuse}
use Rattle.linear.specs.declared.Vector3f.{Vector3f}
use Rattle.linear.specs.declared.Vector6f.{Vector6f}
use Rattle.linear.specs.Vector.{zero_float}
use Rattle.params.specs.declared.TheConstants.{VISION_SEED_SAMPLES, VISION_GATE_BASE_RADIUS_M, VISION_GATE_EXPAND_RATE_M_PER_S}
use Rattle.vision.specs.declared.gate.VisionGateState.{VisionGateState}
use Rattle.vision.specs.declared.gate.VisionGateState.TheVariants as Gate
use Rattle.tick.specs.declared.start.Start.{Start}
use Rattle.tick.specs.Start.{dt_of}
use Rattle.tick.specs.declared.action.GateAction.{GateAction}
use Rattle.tick.specs.declared.action.GateAction.TheVariants.{NoVision, Accumulate, SeedComplete, SeedReset, Accept, AcceptJump, FirstReject, Reject}
use Rattle.vision.specs.Seeding.{Seeding, fresh_seeding, gathered, steady}

-- what a tick answers, and the gate that it leaves
pub record Judgement : Type 0 where
  pub action : GateAction
  pub gate : VisionGateState

-- ---- seeding

-- below the 20th sighting it gathers on; at the 20th it tracks from 0.0 if both deviations are small, and else starts anew
abbrev pub seeding_judged : Seeding → Judgement
seeding_judged s =
    if nat_lt s.n VISION_SEED_SAMPLES then record { action = Accumulate; gate = Gate.Seeding s }
    else if steady s then record { action = SeedComplete; gate = Gate.Tracking zero_float }
    else record { action = SeedReset; gate = Gate.Seeding fresh_seeding }

-- ---- tracking

-- from the predicted place, in x and y
abbrev pub distance : Vector3f → Vector6f → Float
distance v p = hypotenuse (sub binary32 v.x p.pose.x) (sub binary32 v.y p.pose.y)

-- the base, and 2.0 m more for each second of t
abbrev pub radius : Float → Float
radius t = add binary32 VISION_GATE_BASE_RADIUS_M (mul binary32 VISION_GATE_EXPAND_RATE_M_PER_S t)

-- strictly inside the radius the sighting is taken, beyond the base as a jump, and t is 0.0 again; else it is refused, first
-- where t is 0.0, and t grows by dt. A NaN distance is not inside.
abbrev pub tracking_judged : Float → Float → Float → Judgement
tracking_judged t d dt =
    if lt d (radius t) then record { action = if le VISION_GATE_BASE_RADIUS_M d then AcceptJump else Accept; gate = Gate.Tracking zero_float }
    else record { action = if eq t zero_float then FirstReject else Reject; gate = Gate.Tracking (add binary32 t dt) }

-- ---- one tick

-- a sighting v, with the predicted state p
abbrev pub sighting_judged : VisionGateState → Vector3f → Vector6f → Float → Judgement
sighting_judged (Gate.Seeding s) v p dt = seeding_judged (gathered s v)
sighting_judged (Gate.Tracking t) v p dt = tracking_judged t (distance v p) dt

-- no sighting: only a tracking gate's t grows
abbrev pub quiet : VisionGateState → Float → VisionGateState
quiet (Gate.Seeding s) dt = Gate.Seeding s
quiet (Gate.Tracking t) dt = Gate.Tracking (add binary32 t dt)

-- the sighting, if there is one
abbrev pub sighting_of : Bool → Vector3f → Option Vector3f
sighting_of is_seen v = if is_seen then Some v else None

-- a tick's answer and the gate after it
unfoldable pub judged : VisionGateState → Option Vector3f → Vector6f → Start → Judgement
judged g None p start = record { action = NoVision; gate = quiet g (dt_of start) }
judged g (Some v) p start = sighting_judged g v p (dt_of start)
