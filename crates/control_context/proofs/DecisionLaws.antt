-- What plan's decision forgets and what it keeps, and where a new plan's seed comes from.
use Prim.Native.Nat.{ℕ}
use mathlib.Core.Path.{◌≡◌, refl}
use mathlib.Core.Bool.{Bool, true, false, cond}
use borrow.Author.Tests.{eq-eqb}
use lib.Dec.{eqb}
use Rattle.linear.specs.declared.Vector6f.{Vector6f}
use Rattle.tick.specs.declared.command.ManeuverCommand.{ManeuverCommand}
use Rattle.tick.specs.declared.sample.Sample.{Sample}
use Rattle.std.specs.Prelude.{Some}
use Rattle.control_context.specs.declared.memory.Memory.{Memory}
use Rattle.control_context.specs.declared.maneuvers.PlanAnswer.TheVariants.{Hold, NoVision, Keep, NewPlan}
use Rattle.control_context.specs.Memory.{empty_memory}
use Rattle.control_context.specs.Plan.{holds, hold, in_mode, plans_anew, seed_of, decided}

module _ (mode : ℕ) (halt recovering vision : Bool) (cmd : ManeuverCommand) (m : Memory) (prev : ℕ) (estimate : Vector6f) where
  -- hold forgets everything
  pub hold_forgets : holds mode halt recovering ≡ true
      → decided mode halt recovering vision cmd m prev estimate ≡ record { answer = Hold; memory = empty_memory; prev_mode = 0 }
  unfolding decided
  hold_forgets h = rw h

  -- a changed mode plans anew from the estimate, whatever was held
  pub changed_mode : holds mode halt recovering ≡ false
      → eqb mode prev ≡ false
      → decided mode halt recovering true cmd m prev estimate ≡ record { answer = NewPlan estimate; memory = empty_memory; prev_mode = mode }
  unfolding decided
  changed_mode h changed = rw (h, changed)

  -- no vision in an unchanged mode changes nothing that is remembered
  pub no_vision_keeps : holds mode halt recovering ≡ false
      → decided mode halt recovering false cmd m mode estimate ≡ record { answer = NoVision; memory = m; prev_mode = mode }
  unfolding decided
  no_vision_keeps h = rw (h, eq-eqb mode mode refl)

  -- while a sample is held, no new plan starts from the estimate: the seed is the sample's state
  pub seed_held : (s : Sample) (seed : Vector6f)
      → (in_mode m mode prev).held ≡ Some s
      → (decided mode halt recovering vision cmd m prev estimate).answer ≡ NewPlan seed
      → seed ≡ s.state
  unfolding decided
  seed_held s seed here new = go (holds mode halt recovering) vision (plans_anew (in_mode m mode prev) cmd) new
    where
      go : (b v anew : Bool)
          → (cond b hold (record { answer = cond v (cond anew (NewPlan (seed_of (in_mode m mode prev).held estimate)) Keep) NoVision; memory = in_mode m mode prev; prev_mode = mode })).answer ≡ NewPlan seed
          → seed ≡ s.state
      go true v anew e = cc
      go false false anew e = cc
      go false true false e = cc
      go false true true e = cc
