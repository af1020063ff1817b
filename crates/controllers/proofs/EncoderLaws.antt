-- A reset leaves a new lag's state.
use Rattle.std.proofs.Common.{◌≡◌, ℕ, refl}
use Rattle.controllers.specs.declared.first_order_lag.FirstOrderLag.{FirstOrderLag}
use Rattle.controllers.specs.FirstOrderLag.{reset_of}
use Rattle.controllers.specs.EncoderLag.{new_lag}

pub reset_state : (l : FirstOrderLag) (k : ℕ) → (reset_of l).state ≡ (new_lag k).state
unfolding reset_of new_lag
reset_state l k = refl

-- so a new lag, stepped and reset, is a new one
pub reset_new : (k : ℕ) → reset_of (new_lag k) ≡ new_lag k
unfolding reset_of new_lag
reset_new k = refl
