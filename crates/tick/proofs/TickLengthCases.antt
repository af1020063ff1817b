-- Worked values of the tick length, each by computation.
use mathlib.Core.Path.{◌≡◌, refl}
use Rattle.std.specs.Prelude.{Ok}
use Rattle.tick.specs.Refusal.{number_of}
use Rattle.tick.specs.TickLength.{tick_length_of, micros_of}

-- k 0 and 65: 1
pub zero_refused : number_of (tick_length_of 0) ≡ 1
zero_refused = refl

pub sixty_five_refused : number_of (tick_length_of 65) ≡ 1
sixty_five_refused = refl

-- k 1 and 64 accepted
pub one_made : tick_length_of 1 ≡ Ok 1
one_made = refl

pub sixty_four_made : tick_length_of 64 ≡ Ok 64
sixty_four_made = refl

-- k 4: the lag's dt is 976 µs
pub four_micros : micros_of 4 ≡ 976
unfolding micros_of
four_micros = refl
