-- Worked values of the encoder lag (docs/RULES.md, 'Worked values'), and the steps at further tick lengths, each by computation.
use Rattle.std.proofs.Common.{◌≡◌, [], ◌∷◌, map, refl}
use lib.Ieee.{of_int, of_bits, to_unsigned, add, mul, div}
use Rattle.tick.specs.TickLength.{micros_of}
use Rattle.std.specs.Prelude.{Ok}
use Rattle.tick.specs.Refusal.{number_of}
use Rattle.controllers.specs.EncoderLag.{duration_to_secs, horizon_over, n_steps_of, new_lag, lag_of}

-- k 0 and 65: 1
pub zero_refused : number_of (lag_of 0) ≡ 1
unfolding lag_of
zero_refused = refl

pub sixty_five_refused : number_of (lag_of 65) ≡ 1
unfolding lag_of
sixty_five_refused = refl

-- k 1 and 64 accepted
pub one_made : lag_of 1 ≡ Ok (new_lag 1)
unfolding lag_of
one_made = refl

pub sixty_four_made : lag_of 64 ≡ Ok (new_lag 64)
unfolding lag_of
sixty_four_made = refl

-- k 4: the lag's dt is 976 µs, and it has 10 steps
pub four_dt : (new_lag 4).dt ≡ duration_to_secs 976
unfolding new_lag micros_of
four_dt = refl

pub four_steps : (new_lag 4).n_steps ≡ 10
unfolding new_lag n_steps_of horizon_over duration_to_secs micros_of of_int of_bits to_unsigned add mul div
four_steps = refl

-- k 1, 2, 3, 5, 27 and 28
pub further_steps : map (λ k. (new_lag k).n_steps) (1 ∷ 2 ∷ 3 ∷ 5 ∷ 27 ∷ 28 ∷ []) ≡ 41 ∷ 20 ∷ 14 ∷ 8 ∷ 2 ∷ 1 ∷ []
unfolding new_lag n_steps_of horizon_over duration_to_secs micros_of of_int of_bits to_unsigned add mul div
further_steps = refl
