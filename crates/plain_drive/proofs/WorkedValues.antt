-- The worked values hold: each crate computed its own.
use Rattle.std.proofs.Common.{◌≡◌, ◌∙◌, ap, refl, Float, IsOkAnd}
use Rattle.ieee754.proofs.RootCases as Root
use Rattle.ieee754.proofs.RemainderCases as Remainder
use Rattle.ieee754.proofs.HypotCases as Hypot
use Rattle.linear.specs.Vector.{vector4_of}
use Rattle.controllers.specs.Axes.{answers}
use Rattle.controllers.specs.PidAxes.{calculated, joined, new_memory}
use Rattle.controllers.specs.Brake.{new_brake, brake_of, computed}
use Rattle.controllers.proofs.BrakeCases as Brake
use Rattle.controllers.proofs.WheelCases.{fresh_current, AlwaysGiven, worked_out}
use Rattle.tick.proofs.TickLengthCases as Length
use Rattle.controllers.specs.EncoderLag.{duration_to_secs, lag_of}
use Rattle.controllers.proofs.EncoderCases as Lag
use Rattle.vision.proofs.Cases as Gate
use Rattle.control_context.proofs.ClampedCases as Limits
use Rattle.plain_drive.specs.WorkedValues.{FreshBrakeGives, NumberFor, WorkedValues}

-- each wheel of a fresh brake gets what one wheel does by itself
fresh_brake : (speed current : Float) → AlwaysGiven speed current → FreshBrakeGives speed current
unfolding computed new_brake calculated joined answers new_memory vector4_of fresh_current
fresh_brake speed current given k h =
    let at : (s : Float) → s ≡ speed → fresh_current k s ≡ current = λ s e. ap (fresh_current k) e ∙ given k h in
    rw (Brake.made k h) (λ v. (at v.x, at v.y, at v.z, at v.w))

lag : IsOkAnd (lag_of 4) (λ l. (l.dt ≡ duration_to_secs 976) × (l.n_steps ≡ 10))
unfolding lag_of
lag = (Lag.four_dt, Lag.four_steps)

refused_0 : NumberFor 0 1
unfolding brake_of lag_of
refused_0 = (refl, refl, refl)

refused_65 : NumberFor 65 1
unfolding brake_of lag_of
refused_65 = (refl, refl, refl)

accepted_1 : NumberFor 1 0
unfolding brake_of lag_of
accepted_1 = (refl, refl, refl)

accepted_64 : NumberFor 64 0
unfolding brake_of lag_of
accepted_64 = (refl, refl, refl)

pub worked_values : WorkedValues
worked_values = record {
  k_0 = refused_0;
  k_65 = refused_65;
  k_1 = accepted_1;
  k_64 = accepted_64;
  lag_micros = Length.four_micros;
  lag_4 = lag;
  four_512 = Gate.four_512;
  four_513 = Gate.four_513;
  three_682 = Gate.three_682;
  three_683 = Gate.three_683;
  sixty_four_32 = Gate.sixty_four_32;
  sixty_four_33 = Gate.sixty_four_33;
  root_2 = Root.two;
  root_minus_zero = Root.minus_zero_lem;
  remainder_pi = Remainder.pi_stays;
  remainder_past_pi = Remainder.past_pi;
  hypot_3_4 = Hypot.hypotenuse_three_four;
  hypot_infinity = Hypot.hypotenuse_infinity_nan;
  brake_500 = fresh_brake _ _ worked_out.0;
  brake_minus_500 = fresh_brake _ _ worked_out.1;
  brake_nan = fresh_brake _ _ worked_out.2;
  brake_minus_infinity = fresh_brake _ _ worked_out.3;
  twist_10 = Limits.ten_unclamped;
  twist_nan = (Limits.nan_marked).0;
}
