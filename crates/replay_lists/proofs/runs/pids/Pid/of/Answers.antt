-- `from_fn` calls the closure at each index.
use Rattle.std.proofs.Common.{rules, tests}
use Rattle.linear.proofs.Arrays.{made}
use Rattle.replay_lists.specs.Pids.{settings_at, pid_of}
use Rattle.replay_lists.proofs.runs.pids.Pid.of.Goals as goal

pub returns : goal.returns
unfolding pid_of
returns g c =
    let h = c.args.header.now in
    let made_settings = made _ (settings_at h g.row.N) _ (λ i x q called. search (rules, tests)) c.from_fn-settings.result g.row.N (settings_at h g.row.N 0) c.from_fn-settings.ensures.items in
    λ j. record { settings = made_settings j; memory = c.new.ensures j }
