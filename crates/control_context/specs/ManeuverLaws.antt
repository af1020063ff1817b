-- What holds of plan's decision and of equality of commands: each statement is a clause of a function of src/maneuver_laws.rt.
use Rattle.std.specs.Prelude.{◌≡◌, ℕ, Bool, true, false, not, ◌&&◌, ◌==◌, List, [], ◌∷◌, Float, Some}
use Rattle.std.specs.Float.{binary32}
use Rattle.std.specs.Float.Ieee.{is_nan, of_bits}
use Rattle.linear.specs.declared.Vector6f.{Vector6f}
use Rattle.tick.specs.declared.command.ManeuverCommand.{ManeuverCommand}
use Rattle.tick.specs.Command.{fields_of}
use Rattle.tick.specs.declared.sample.Sample.{Sample}
use Rattle.control_context.specs.declared.memory.Memory.{Memory}
use Rattle.control_context.specs.Memory.{empty_memory}
use Rattle.control_context.specs.declared.maneuvers.PlanAnswer.TheVariants.{Hold, NoVision, NewPlan}
use Rattle.control_context.specs.Equality.{fields_equal, equal}
use Rattle.control_context.specs.Plan.{holds, in_mode, decided}

-- ---- equality of commands

abbrev pub EqualityIsSymmetric : Type 0
EqualityIsSymmetric = (a b : ManeuverCommand) → equal a b ≡ equal b a

abbrev pub no_nan : List Float → Bool
no_nan [] = true
no_nan (x ∷ xs) = not (is_nan x) && no_nan xs

-- a command equals itself exactly where no field is NaN
abbrev pub EqualsItselfWithoutNan : Type 0
EqualsItselfWithoutNan = (a : ManeuverCommand) → equal a a ≡ no_nan (fields_of a)

-- -0.0 equals 0.0
abbrev pub ZerosAreEqual : Type 0
ZerosAreEqual = fields_equal (of_bits binary32 0x8000_0000 ∷ []) (of_bits binary32 0 ∷ []) ≡ true

-- ---- the decision

-- hold forgets everything
abbrev pub HoldForgets : Type 0
HoldForgets =
    (mode : ℕ) (halt recovering vision : Bool) (cmd : ManeuverCommand) (m : Memory) (prev : ℕ) (estimate : Vector6f)
    → holds mode halt recovering ≡ true
    → decided mode halt recovering vision cmd m prev estimate ≡ record { answer = Hold; memory = empty_memory; prev_mode = 0 }

-- a changed mode plans anew from the estimate, whatever was held
abbrev pub ChangedModePlansAnew : Type 0
ChangedModePlansAnew =
    (mode : ℕ) (halt recovering : Bool) (cmd : ManeuverCommand) (m : Memory) (prev : ℕ) (estimate : Vector6f)
    → holds mode halt recovering ≡ false
    → (mode == prev) ≡ false
    → decided mode halt recovering true cmd m prev estimate
    ≡ record { answer = NewPlan estimate; memory = empty_memory; prev_mode = mode }

-- no vision in an unchanged mode changes nothing that is remembered
abbrev pub NoVisionKeeps : Type 0
NoVisionKeeps =
    (mode : ℕ) (halt recovering : Bool) (cmd : ManeuverCommand) (m : Memory) (estimate : Vector6f)
    → holds mode halt recovering ≡ false
    → decided mode halt recovering false cmd m mode estimate ≡ record { answer = NoVision; memory = m; prev_mode = mode }

-- while a sample is held, no new plan starts from the estimate: the seed is the sample's state
abbrev pub SeedIsHeldState : Type 0
SeedIsHeldState =
    (mode : ℕ) (halt recovering vision : Bool) (cmd : ManeuverCommand) (m : Memory) (prev : ℕ) (estimate : Vector6f)
    (s : Sample) (seed : Vector6f)
    → (in_mode m mode prev).held ≡ Some s
    → (decided mode halt recovering vision cmd m prev estimate).answer ≡ NewPlan seed
    → seed ≡ s.state
