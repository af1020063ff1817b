-- Plan's four answers: their numbers, and what each asks for (docs/RULES.md, 'Plan').
use Rattle.std.specs.Prelude.{ℕ, Bool, true, false}
use Rattle.control_context.specs.declared.maneuvers.PlanAnswer.{PlanAnswer}
use Rattle.control_context.specs.declared.maneuvers.PlanAnswer.TheVariants.{Hold, NoVision, Keep, NewPlan}

abbrev pub answer_number : PlanAnswer → ℕ
answer_number Hold = 0
answer_number NoVision = 1
answer_number Keep = 2
answer_number (NewPlan seed) = 3

-- without active vision modes 2 and 3 disable the wheels
abbrev pub disables_wheels : PlanAnswer → Bool
disables_wheels Hold = false
disables_wheels NoVision = true
disables_wheels Keep = false
disables_wheels (NewPlan seed) = false

-- plan answered that a new plan is needed
abbrev pub needs_plan : PlanAnswer → Bool
needs_plan Hold = false
needs_plan NoVision = false
needs_plan Keep = false
needs_plan (NewPlan seed) = true
