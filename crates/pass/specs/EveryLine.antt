-- What each printed V says, by the lines alone: the letters C, T and J, and the marks V and B (docs/RULES.md, 'Every line'). Lists have the latest line
-- first. Proved in proofs/EveryLine.antt.
use Rattle.std.specs.Prelude.{ℕ, ◌-◌, ◌/◌, ◌≡◌, Bool, false, not, ◌&&◌, ◌||◌, List, [], ◌∷◌, ◌++◌, reverse, nat_le, Option}
use Rattle.linear.specs.declared.Vector4f.{Vector4f}
use Rattle.linear.specs.declared.Vector6f.{Vector6f}
use Rattle.tick.specs.declared.start.Start.{Start}
use Rattle.tick.specs.Outcome.{takes}
use Rattle.control_context.specs.declared.recovery.TrackingDivergenceState.{TrackingDivergenceState}
use Rattle.control_context.specs.Divergence.{is_recovering}
use Rattle.control_context.specs.Recovery.{recovery}
use Rattle.body_controller.specs.declared.BodyController.{BodyController}
use Rattle.line_text.specs.declared.line.TickLine.{TickLine}
use Rattle.line_text.specs.declared.line.Line.{Line}
use Rattle.line_text.specs.declared.line.Line.TheVariants.{Tick, Refused}
use Rattle.pass.specs.declared.pass.Pass.{Pass}
use Rattle.pass.specs.declared.pass.Pass.TheVariants.{Empty, Driving}
use Rattle.pass.specs.Pass.{driven}
use Rattle.pass.specs.PlainPass.{Passed}
use Rattle.pass.specs.Batch.{batch_of}

-- ---- read off the lines

-- B in the latest tick line; none where there is no tick line
unfoldable pub was_recovering : List Line → Bool
was_recovering [] = false
was_recovering (Tick t ∷ lines) = t.recovering
was_recovering (Refused r ∷ lines) = was_recovering lines

-- recovery reset in this tick: B in the tick line before it, and none in its own
abbrev pub resets_at : TickLine → List Line → Bool
resets_at t older = was_recovering older && not t.recovering

-- the latest tick line or one of the n before it has C, T or J, and no reset came since. In a tick recovery comes after the sighting, so that a reset
-- undoes the tick's own sighting, too
unfoldable pub seen_within : ℕ → List Line → Bool
seen_within n [] = false
seen_within n (Tick t ∷ lines) = not (resets_at t lines) && (takes t.action || (nat_le 1 n && seen_within (n - 1) lines))
seen_within n (Refused r ∷ lines) = seen_within n lines

-- ---- every line

-- every tick line of these, with the lines before it, is so
abbrev pub EachTick : (TickLine → List Line → Type 0) → List Line → Type 0
EachTick P lines = (newer older : List Line) (t : TickLine) → lines ≡ newer ++ Tick t ∷ older → P t older

-- V exactly if the tick line or one of the 2048/k before it took a sighting and no reset came since, where a tick lasts k/4096 s
abbrev pub ActiveIsSeen : ℕ → TickLine → List Line → Type 0
ActiveIsSeen k t older = t.active ≡ seen_within (2048 / k) (Tick t ∷ older)

-- so it is of each tick line, k being the tick length of the pass behind these lines; before its first accepted block there is no tick line
abbrev pub LinesHold : List Line → Pass → Type 0
LinesHold lines Empty = EachTick (λ t older. ⊥) lines
LinesHold lines (Driving c) = EachTick (ActiveIsSeen c.context.start.tick_length) lines

abbrev pub EveryLine : Type 0
EveryLine = (blocks : List (List ℕ)) (lines : List Line) (q : Pass) → Passed blocks lines q → LinesHold lines q

-- and so of the lines of every batch that begins a pass
abbrev pub EveryBatchLine : Type 0
EveryBatchLine = (n : ℕ) (bytes : List ℕ) → LinesHold (reverse (batch_of n Empty bytes).lines) (batch_of n Empty bytes).pass

-- ---- its companions

-- a pass that drives on with this start
abbrev pub DrivesWith : Start → Pass → Type 0
DrivesWith start Empty = ⊥
DrivesWith start (Driving c) = c.context.start ≡ start

-- one pass has one k: no block changes the start that the first accepted one chose
abbrev pub OneStart : Type 0
OneStart = (c : BodyController) (block : List ℕ) → DrivesWith c.context.start (driven (Driving c) block).pass

-- recovery resets exactly where it turns from recovering to Normal
abbrev pub ResetIsSeen : Type 0
ResetIsSeen =
    (before : TrackingDivergenceState) (held : Option Vector6f) (estimate : Vector6f) (wheels : Vector4f)
    → (let r = recovery before held estimate wheels in r.reset ≡ is_recovering before && not (is_recovering r.state))
