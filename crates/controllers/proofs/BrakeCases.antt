-- Worked values of the brake's k (docs/RULES.md, 'Worked values').
use Rattle.std.proofs.Common.{◌≡◌, ℕ, Bool, if◌then◌else◌, refl, ap, Ok, Err}
use Rattle.std.specs.Result.{result_map_both}
use Rattle.tick.specs.declared.refusal.Refusal.TheVariants as Why
use Rattle.tick.specs.TickLength.{IsTickLength}
use Rattle.tick.proofs.TickLengthExact.{bounds_tick_length}
use Rattle.controllers.specs.Brake.{new_brake, brake_of}

-- k 0 and 65 are refused with 1
pub zero_refused : brake_of 0 ≡ Err Why.TickLength
unfolding brake_of
zero_refused = refl

pub sixty_five_refused : brake_of 65 ≡ Err Why.TickLength
unfolding brake_of
sixty_five_refused = refl

-- each k from 1 to 64 makes a brake
pub made : (k : ℕ) → IsTickLength k → brake_of k ≡ Ok (new_brake k)
unfolding brake_of
made k h = ap (λ (b : Bool). result_map_both new_brake (λ r. r) (if b then Ok k else Err Why.TickLength)) (bounds_tick_length k h)
