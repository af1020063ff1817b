-- The constants are what binary32 gives from the decimals that the Rust writes, and where it writes a term, from the term in its order: each
-- statement is a clause of a function of src/decimals.rt.
use Rattle.std.specs.Prelude.{◌≡◌, ℕ, ◌^◌, false, [], ◌∷◌, pos, Float}
use Rattle.std.specs.Float.{binary32}
use Rattle.std.specs.Float.Ieee.{round, add, mul, div, neg, of_int, of_bits}
use Rattle.params.specs.Params.{tracking_values, limit_values}
use Rattle.params.specs.declared.TheConstants.{BODY_VEL_CLAMP_ANGULAR, BRAKE_MAX_CURRENT_A, VISION_GATE_BASE_RADIUS_M, VISION_ACTIVE_TIMEOUT_S, VISION_CLOCK_START_S}

-- what a decimal literal stands for: the float nearest to num / den
unfoldable pub decimal : ℕ → ℕ → Float
decimal num den = round binary32 false num den

-- 5.0 * TAU, of the decimals of core::f32::consts::TAU
abbrev pub AngularClampIsWritten : Type 0
AngularClampIsWritten = BODY_VEL_CLAMP_ANGULAR ≡ mul binary32 (decimal 5 1) (decimal 628318530717958647692528676655900577 (10 ^ 35))

-- V_MAX * (N_MISS as f32 * T_VISION + T_LATENCY) + SLACK
abbrev pub BaseRadiusIsWritten : Type 0
BaseRadiusIsWritten =
    VISION_GATE_BASE_RADIUS_M
    ≡ add binary32
    (mul binary32 (decimal 3 1)
    (add binary32 (mul binary32 (of_int binary32 (pos 3)) (div binary32 (decimal 1 1) (decimal 60 1))) (decimal 150 1000)))
    (decimal 5 1000)

-- VISION_ACTIVE_TIMEOUT_S + 1.0
abbrev pub ClockStartIsWritten : Type 0
ClockStartIsWritten = VISION_CLOCK_START_S ≡ add binary32 VISION_ACTIVE_TIMEOUT_S (decimal 1 1)

-- -BRAKE_MAX_CURRENT_A is -1.0
abbrev pub BrakeLeastCurrentIsWritten : Type 0
BrakeLeastCurrentIsWritten = neg BRAKE_MAX_CURRENT_A ≡ of_bits binary32 0xbf80_0000

-- all others, as controller_params.rs and control_context.rs write them
abbrev pub TrackingIsWritten : Type 0
TrackingIsWritten =
    tracking_values
    ≡ decimal 300 1 ∷ decimal 0 1 ∷ decimal 7 1 ∷ decimal 0 1 ∷ decimal 0 1
    ∷ decimal 400 1 ∷ decimal 0 1 ∷ decimal 30 1 ∷ decimal 0 1 ∷ decimal 0 1
    ∷ decimal 1 1000 ∷ decimal 1 1000 ∷ decimal 1 100 ∷ decimal 1 1 ∷ decimal 1 1
    ∷ decimal 1 1 ∷ decimal 157 100 ∷ decimal 5 1 ∷ decimal 10 1
    ∷ decimal 1 10 ∷ decimal 5 10 ∷ decimal 5 10 ∷ decimal 1 1 ∷ []

abbrev pub LimitsAreWritten : Type 0
LimitsAreWritten =
    limit_values
    ≡ decimal 20 1 ∷ decimal 100 1 ∷ decimal 10 1 ∷ BODY_VEL_CLAMP_ANGULAR ∷ decimal 125 100
    ∷ decimal 1 100 ∷ decimal 5 1 ∷ decimal 1 1 ∷ decimal 50 1
    ∷ decimal 3 100 ∷ VISION_GATE_BASE_RADIUS_M ∷ decimal 2 1 ∷ decimal 95 100 ∷ decimal 95 1000
    ∷ decimal 5 10 ∷ VISION_CLOCK_START_S ∷ []
