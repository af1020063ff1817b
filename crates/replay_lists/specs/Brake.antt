-- The list of the active brake: the answer to a call, and what is compared after it.
use Rattle.std.specs.Prelude.{ℕ, List}
use Rattle.linear.specs.Vector.{zeros4, entries4, vector4_of}
use Rattle.controllers.specs.declared.active_brake.ActiveBrakeController.{ActiveBrakeController}
use Rattle.controllers.specs.Brake.{BrakeAnswer, computed, reset_brake, memory_of}
use Rattle.tick_block.specs.Words.{word_at}
use Rattle.tick_block.specs.Floats.{floats_at}
use Rattle.replay_lists.specs.Words.{Told, words_of}
use Rattle.replay_lists.specs.Kinds.{by_kind2}

-- a call: its kind (0 `compute`, 1 `reset`) and the wheel speeds. A reset's currents are zero.
unfoldable pub answer : ActiveBrakeController → List ℕ → BrakeAnswer
answer b s =
    by_kind2 (word_at s 0)
    (computed b (vector4_of (floats_at s 1 4)))
    (record { currents = zeros4; controller = reset_brake b })

unfoldable pub stepped : ActiveBrakeController → List ℕ → Told ActiveBrakeController
stepped b s =
    let a = answer b s in
    record { words = words_of (entries4 a.currents) (memory_of a.controller); controller = a.controller }
