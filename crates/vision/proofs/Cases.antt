-- Worked values of the active mark, from the law of the clock, and closed cases of the gate by computation.
use mathlib.Core.Path.{◌≡◌, refl}
use Prim.Native.Nat.{ℕ, zero, suc}
use mathlib.Core.Bool.{true, false}
use lib.Dec.{lit≤}
use lib.Ieee.{Float, binary32, add, sub, mul, div, lt, le, eq, is_nan, of_int, to_bits, of_bits}
use Rattle.std.specs.Prelude.{Option, None, Some, option_map}
use Rattle.ieee754.specs.Hypot.{hypotenuse, hypot_of, outweighs, larger, smaller, root_of_squares, scaled_root}
use Rattle.ieee754.specs.Magnitude.{magnitude}
use Rattle.ieee754.specs.Root.{square_root, root_of, whole_root, root_digits, sticky}
use Rattle.params.specs.declared.TheConstants.{VISION_GATE_BASE_RADIUS_M}
use Rattle.linear.specs.Vector.{zero_float, zeros2, zeros3, zeros6}
use Rattle.tick.specs.TickLength.{seconds_of}
use Rattle.tick.specs.declared.action.GateAction.TheVariants.{Accumulate, SeedComplete, SeedReset, AcceptJump, FirstReject, Reject}
use Rattle.vision.specs.declared.gate.VisionGateState.{VisionGateState}
use Rattle.vision.specs.declared.gate.VisionGateState.TheVariants.{Seeding, Tracking}
use Rattle.vision.specs.Gate.{Judgement}
use Rattle.vision.specs.Seeding.{fresh_seeding}
use Rattle.vision.specs.Gate.{judged}
use Rattle.vision.specs.Vision.{active}
use Rattle.vision.specs.Since.{clock_since}
use Rattle.vision.proofs.Clock.{since_taken_lem}

-- k 4: active at m 512, not 513
pub four_512 : active (clock_since zero_float (seconds_of 4) 512) ≡ true
four_512 = (since_taken_lem 4 512 (lit≤ tt)).mark

pub four_513 : active (clock_since zero_float (seconds_of 4) 513) ≡ false
four_513 = (since_taken_lem 4 513 (lit≤ tt)).mark

-- k 3: 682 yes, 683 no
pub three_682 : active (clock_since zero_float (seconds_of 3) 682) ≡ true
three_682 = (since_taken_lem 3 682 (lit≤ tt)).mark

pub three_683 : active (clock_since zero_float (seconds_of 3) 683) ≡ false
three_683 = (since_taken_lem 3 683 (lit≤ tt)).mark

-- k 64: 32 yes, 33 no
pub sixty_four_32 : active (clock_since zero_float (seconds_of 64) 32) ≡ true
sixty_four_32 = (since_taken_lem 64 32 (lit≤ tt)).mark

pub sixty_four_33 : active (clock_since zero_float (seconds_of 64) 33) ≡ false
sixty_four_33 = (since_taken_lem 64 33 (lit≤ tt)).mark

-- ---- ticks of k 4 at the predicted place (0.0, 0.0), with a sighting at (x, 0.0), if with one

unfoldable pub tick : VisionGateState → Option Float → Judgement
unfolding judged zeros2 zeros3 zeros6 hypotenuse hypot_of outweighs larger smaller root_of_squares scaled_root magnitude square_root root_of whole_root root_digits sticky seconds_of add sub mul div lt le eq is_nan of_int to_bits of_bits
tick gate x = judged gate (option_map (λ (x : Float). record { x = x; y = zero_float; z = zero_float }) x) zeros6 (record { tick_length = 4 })

-- a new gate that sees one place again and again: the judgement after m others
unfoldable pub again : Float → ℕ → Judgement
unfolding tick
again x zero = tick (Seeding fresh_seeding) (Some x)
again x (suc m) = tick (again x m).gate (Some x)

-- at x = 1.0 the 19th is gathered and the 20th completes the seeding
pub nineteenth : (again (of_bits binary32 0x3f80_0000) 18).action ≡ Accumulate
unfolding again
nineteenth = refl

pub twentieth : (again (of_bits binary32 0x3f80_0000) 19).action ≡ SeedComplete
unfolding again
twentieth = refl

-- at x = 1.1 the 20th computes a variance below zero, whose root is NaN
pub below_zero : (again (of_bits binary32 0x3f8c_cccd) 19).action ≡ SeedReset
unfolding again
below_zero = refl

-- 5.0 m off, right after a taken sighting: a first refusal
pub right_after : (tick (Tracking zero_float) (Some (of_bits binary32 0x40a0_0000))).action ≡ FirstReject
unfolding tick
right_after = refl

-- a quiet tick later it is none
pub quiet_later : (tick (tick (Tracking zero_float) None).gate (Some (of_bits binary32 0x40a0_0000))).action ≡ Reject
unfolding tick
quiet_later = refl

-- at the base itself, with the radius beyond it: a jump
pub base_jumps : (tick (tick (Tracking zero_float) None).gate (Some VISION_GATE_BASE_RADIUS_M)).action ≡ AcceptJump
unfolding tick
base_jumps = refl

-- at the radius itself: refused
pub radius_refused : (tick (Tracking zero_float) (Some VISION_GATE_BASE_RADIUS_M)).action ≡ FirstReject
unfolding tick
radius_refused = refl
