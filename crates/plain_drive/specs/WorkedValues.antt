-- Worked values of the rules, each shown of the definition itself (docs/RULES.md, 'Worked values').
use Rattle.std.specs.Prelude.{◌≡◌, ℕ, Bool, true, false, Float, IsOkAnd}
use Rattle.std.specs.Float.{nan, binary32}
use Rattle.std.specs.Float.Ieee.{of_bits}
use Rattle.ieee754.specs.Root.{square_root}
use Rattle.ieee754.specs.Remainder.{remainder_by, tau}
use Rattle.ieee754.specs.Hypot.{hypotenuse}
use Rattle.linear.specs.declared.Vector3f.{Vector3f}
use Rattle.linear.specs.declared.Vector4f.{Vector4f}
use Rattle.linear.specs.Vector.{zero_float}
use Rattle.tick.specs.TickLength.{IsTickLength, seconds_of, micros_of}
use Rattle.controllers.specs.declared.active_brake.ActiveBrakeController.{ActiveBrakeController}
use Rattle.controllers.specs.Brake.{brake_of, computed}
use Rattle.controllers.specs.EncoderLag.{duration_to_secs, lag_of}
use Rattle.vision.specs.Vision.{active}
use Rattle.vision.specs.Since.{clock_since}
use Rattle.control_context.specs.Clamped.{twist_clamped}
use Rattle.tick.specs.Refusal.{number_of}
use Rattle.body_controller.specs.Controller.{new_of}

-- the float with these bits
abbrev pub float : ℕ → Float
float w = of_bits binary32 w

-- whether the cameras are active m ticks of k/4096 s after a taken sighting
abbrev pub active_at : ℕ → ℕ → Bool
active_at k m = active (clock_since zero_float (seconds_of k) m)

-- the brake gives a wheel of this speed this current, whatever the other three speeds are
abbrev pub EachWheelGets : Float → Float → ActiveBrakeController → Type 0
EachWheelGets speed current b =
    (speeds : Vector4f)
    → let currents = (computed b speeds).currents in
    (speeds.x ≡ speed → currents.x ≡ current)
    × (speeds.y ≡ speed → currents.y ≡ current)
    × (speeds.z ≡ speed → currents.z ≡ current)
    × (speeds.w ≡ speed → currents.w ≡ current)

-- so does the fresh brake that each tick length gives
abbrev pub FreshBrakeGives : Float → Float → Type 0
FreshBrakeGives speed current = (k : ℕ) → IsTickLength k → IsOkAnd (brake_of k) (EachWheelGets speed current)

-- a twist of 10.0 along x and y, and of 5.0·TAU
abbrev pub at_bounds : Vector3f
at_bounds = record { x = float 0x4120_0000; y = float 0x4120_0000; z = float 0x41fb_53d2 }

-- a twist whose x is NaN
abbrev pub nan_twist : Vector3f
nan_twist = record { x = nan; y = zero_float; z = zero_float }

-- the number for a k: of a controller, of a brake and of a lag
abbrev pub NumberFor : ℕ → ℕ → Type 0
NumberFor k n = (number_of (new_of k) ≡ n) × (number_of (brake_of k) ≡ n) × (number_of (lag_of k) ≡ n)

pub record WorkedValues : Type 0 where
  -- k 0 and 65: refused with 1
  pub k_0 : NumberFor 0 1
  pub k_65 : NumberFor 65 1
  -- k 1 and 64: accepted
  pub k_1 : NumberFor 1 0
  pub k_64 : NumberFor 64 0
  -- k 4: the lag's tick is 976 µs, and it has 10 steps
  pub lag_micros : micros_of 4 ≡ 976
  pub lag_4 : IsOkAnd (lag_of 4) (λ l. (l.dt ≡ duration_to_secs 976) × (l.n_steps ≡ 10))
  -- k 4: active after 512 ticks, not after 513
  pub four_512 : active_at 4 512 ≡ true
  pub four_513 : active_at 4 513 ≡ false
  -- k 3: after 682, not after 683
  pub three_682 : active_at 3 682 ≡ true
  pub three_683 : active_at 3 683 ≡ false
  -- k 64: after 32, not after 33
  pub sixty_four_32 : active_at 64 32 ≡ true
  pub sixty_four_33 : active_at 64 33 ≡ false
  -- the root of 2.0 is 3fb504f3, of -0.0 itself
  pub root_2 : square_root binary32 (float 0x4000_0000) ≡ float 0x3fb5_04f3
  pub root_minus_zero : square_root binary32 (float 0x8000_0000) ≡ float 0x8000_0000
  -- the remainder of 40490fdb is itself, of 40490fdc c0490fda
  pub remainder_pi : remainder_by binary32 (float 0x4049_0fdb) tau ≡ float 0x4049_0fdb
  pub remainder_past_pi : remainder_by binary32 (float 0x4049_0fdc) tau ≡ float 0xc049_0fda
  -- `hypotf` of 3 and 4 is 5, of infinity and NaN infinity
  pub hypot_3_4 : hypotenuse (float 0x4040_0000) (float 0x4080_0000) ≡ float 0x40a0_0000
  pub hypot_infinity : hypotenuse (float 0x7f80_0000) (float 0x7fc0_0000) ≡ float 0x7f80_0000
  -- a fresh brake gives -1.0 at 500.0, 1.0 at -500.0, and -1.0 at NaN and at -infinity, at each wheel and every tick length
  pub brake_500 : FreshBrakeGives (float 0x43fa_0000) (float 0xbf80_0000)
  pub brake_minus_500 : FreshBrakeGives (float 0xc3fa_0000) (float 0x3f80_0000)
  pub brake_nan : FreshBrakeGives nan (float 0xbf80_0000)
  pub brake_minus_infinity : FreshBrakeGives (float 0xff80_0000) (float 0xbf80_0000)
  -- a twist at its bounds is unclamped; NaN stays NaN and is marked clamped
  pub twist_10 : twist_clamped at_bounds ≡ record { value = at_bounds; clamped = false }
  pub twist_nan : twist_clamped nan_twist ≡ record { value = nan_twist; clamped = true }
