-- What a run drives, and what is compared after a call of it.
use Rattle.std.specs.Prelude.{ℕ, List, Option, Some, option_map}
use Rattle.std.specs.Result.{result_ok}
use Rattle.controllers.specs.Brake.{brake_of}
use Rattle.tick_block.specs.Words.{word_at}
use Rattle.replay_lists.specs.declared.runs.layout.ListOf.{ListOf}
use Rattle.replay_lists.specs.declared.runs.layout.ListOf.TheVariants as list
use Rattle.replay_lists.specs.declared.runs.subject.Subject.{Subject}
use Rattle.replay_lists.specs.declared.runs.subject.Subject.TheVariants.{Pid1, Pid3, Pid4, Brake, Lag}
use Rattle.replay_lists.specs.Words.{Told}
use Rattle.replay_lists.specs.Pids as pids
use Rattle.replay_lists.specs.Brake as brake
use Rattle.replay_lists.specs.Lag as lag

-- what a run's header describes; nothing where it makes no brake or lag
unfoldable pub subject_of : ListOf → List ℕ → Option Subject
subject_of list.Pid1 h = Some (Pid1 (pids.pid_of h))
subject_of list.Pid3 h = Some (Pid3 (pids.pid_of h))
subject_of list.Pid4 h = Some (Pid4 (pids.pid_of h))
subject_of list.Brake h = option_map Brake (result_ok (brake_of (word_at h 0)))
subject_of list.Lag h = option_map Lag (lag.lag_at h)

-- the same subject after a call
abbrev pub told_as : {A : Type 0} → (A → Subject) → Told A → Told Subject
told_as f t = record { words = t.words; controller = f t.controller }

unfoldable pub stepped : Subject → List ℕ → Told Subject
stepped (Pid1 p) s = told_as Pid1 (pids.stepped p s)
stepped (Pid3 p) s = told_as Pid3 (pids.stepped p s)
stepped (Pid4 p) s = told_as Pid4 (pids.stepped p s)
stepped (Brake b) s = told_as Brake (brake.stepped b s)
stepped (Lag l) s = told_as Lag (lag.stepped l s)
