-- At a tick length the horizon over the lag's dt can be cast.
use Rattle.controllers.proofs.LagRange.{horizon_castable}
use Rattle.controllers.proofs.first_order_lag.encoder.lag_of.Goals as goal

pub n_steps_of-requires : goal.n_steps_of-requires
n_steps_of-requires c = rw (c.duration_to_secs-dt.ensures, c.micros.ensures.value) (horizon_castable c.args.t c.micros.ensures.valid)
