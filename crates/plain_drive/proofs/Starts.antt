-- A controller that `new` answers is the started one of a tick length.
use mathlib.Core.Path.{◌≡◌, refl}
use mathlib.Core.Bool.{Bool, true, false, cond}
use Prim.Native.Nat.{ℕ}
use native.Mathlib.Omega.{arith}
use Rattle.std.specs.Prelude.{Result, Ok, Err}
use Rattle.std.specs.Result.{result_map_both}
use Rattle.tick.specs.declared.refusal.Refusal.{Refusal}
use Rattle.tick.specs.declared.refusal.Refusal.TheVariants as Why
use Rattle.tick.specs.declared.start.Start.{Start}
use Rattle.tick.specs.TickLength.{is_tick_length}
use Rattle.tick.specs.Start.{IsStart}
use Rattle.tick.proofs.TickLengthExact.{tick_length_bounds}
use Rattle.body_controller.specs.Controller.{started}
use Rattle.plain_drive.specs.EveryList.{OnlyStartedIsNew}

pub only_started_is_new : OnlyStartedIsNew
only_started_is_new k c h = go (is_tick_length k) refl h
  where
    go : (b : Bool)
        → is_tick_length k ≡ b
        → result_map_both started (λ r. r) (cond {A = Result Start Refusal} b (Ok (record { tick_length = k })) (Err Why.TickLength)) ≡ Ok c
        → (start : Start) × IsStart start × (start.tick_length ≡ k) × (c ≡ started start)
    go true e g = let same : c ≡ started (record { tick_length = k }) = cc in (record { tick_length = k }, tick_length_bounds k e, refl, same)
    go false e g = let z : ◌≡◌ {A = ℕ} 0 1 = cc in absurd (omega arith)
