-- The constants of controller_params.rs by their bits, in the order of src/lib.rt. Rules cite a constant by its Rust name, and the contracts of
-- src/values.rt tie it to its bits here.
use Rattle.std.specs.Prelude.{ℕ, List, [], ◌∷◌, map, Float}
use Rattle.std.specs.Float.{binary32}
use Rattle.std.specs.Float.Ieee.{of_bits}

-- gains, thresholds and gates
abbrev pub tracking_values : List Float
tracking_values =
    map (of_bits binary32)
    (0x4396_0000 ∷ 0x0000_0000 ∷ 0x40e0_0000 ∷ 0x0000_0000 ∷ 0x0000_0000  -- LINEAR_POSE_PID_GAINS
    ∷ 0x43c8_0000 ∷ 0x0000_0000 ∷ 0x41f0_0000 ∷ 0x0000_0000 ∷ 0x0000_0000  -- ANGULAR_POSE_PID_GAINS
    ∷ 0x3a83_126f ∷ 0x3a83_126f ∷ 0x3c23_d70a  -- POSE_PID_ANTI_JITTER_THRESH
    ∷ 0x3f80_0000  -- POSE_ACCEL_FEEDBACK_GAIN
    ∷ 0x3f80_0000  -- POSE_VEL_FEEDFORWARD_GAIN
    ∷ 0x3f80_0000 ∷ 0x3fc8_f5c3 ∷ 0x40a0_0000 ∷ 0x4120_0000  -- TRACKING_ERROR_THRESHOLD
    ∷ 0x3dcc_cccd ∷ 0x3f00_0000 ∷ 0x3f00_0000 ∷ 0x3f80_0000  -- FRICTION_COMP_GATING
    ∷ [])

-- clamps, and the numbers of brake, recovery, vision and encoder lag
abbrev pub limit_values : List Float
limit_values =
    map (of_bits binary32)
    (0x41a0_0000  -- BODY_ACCEL_CLAMP_LINEAR
    ∷ 0x42c8_0000  -- BODY_ACCEL_CLAMP_ANGULAR
    ∷ 0x4120_0000  -- BODY_VEL_CLAMP_LINEAR
    ∷ 0x41fb_53d2  -- BODY_VEL_CLAMP_ANGULAR
    ∷ 0x3fa0_0000  -- STOP_STATE_LINEAR_SPEED_LIMIT
    ∷ 0x3c23_d70a  -- BRAKE_KP
    ∷ 0x40a0_0000  -- BRAKE_ANTI_JITTER_RADS
    ∷ 0x3f80_0000  -- BRAKE_MAX_CURRENT_A
    ∷ 0x4248_0000  -- TRACKING_DIVERGENCE_RECOVERY_REST_WHEEL_VEL
    ∷ 0x3cf5_c28f  -- VISION_SEED_POS_STD_THRESH_M
    ∷ 0x3f1a_e148  -- VISION_GATE_BASE_RADIUS_M
    ∷ 0x4000_0000  -- VISION_GATE_EXPAND_RATE_M_PER_S
    ∷ 0x3f73_3333  -- ENC_LAG_K
    ∷ 0x3dc2_8f5c  -- ENC_LAG_T_SLOPE
    ∷ 0x3f00_0000  -- VISION_ACTIVE_TIMEOUT_S
    ∷ 0x3fc0_0000  -- VISION_CLOCK_START_S
    ∷ [])

-- counts and durations: TRACKING_DIVERGENCE_RECOVERY_REST_TICKS, VISION_SEED_SAMPLES, ENC_LAG_T_HORIZON, T_MIN_DEFAULT
abbrev pub count_values : List ℕ
count_values = 1 ∷ 20 ∷ 10000 ∷ 1000 ∷ []
