-- Each clause by its lemma.
use Rattle.plain_drive.proofs.EveryList.{follows_plain_drive, new_is_started, every_list_runs, nothing_wraps, active_means_seen}
use Rattle.plain_drive.proofs.Starts.{only_started_is_new}
use Rattle.plain_drive.proofs.every_list.every_list_of_calls.Goals as goal

pub returns : goal.returns
returns c = record {
  follows = follows_plain_drive;
  new = new_is_started;
  only = only_started_is_new;
  runs = every_list_runs;
  unwrapped = nothing_wraps;
  seen = active_means_seen;
}
