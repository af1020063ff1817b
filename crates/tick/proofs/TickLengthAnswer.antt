-- What the answer to a k tells of it.
use mathlib.Core.Path.{◌≡◌, refl, ap, ◌∙◌}
use mathlib.Core.Bool.{Bool, true, false, cond}
use Prim.Native.Nat.{ℕ}
use native.Mathlib.Omega.{arith}
use Rattle.std.specs.Prelude.{Result, Ok, Err}
use Rattle.tick.specs.declared.refusal.Refusal.{Refusal}
use Rattle.tick.specs.declared.refusal.Refusal.TheVariants as Why
use Rattle.tick.specs.TickLength.{is_tick_length, tick_length_of}

pub made_is : (k t : ℕ) → tick_length_of k ≡ Ok t → (is_tick_length t ≡ true) × (t ≡ k)
made_is k t h = go (is_tick_length k) refl h
  where
    go : (b : Bool) → is_tick_length k ≡ b → cond {A = Result ℕ Refusal} b (Ok k) (Err Why.TickLength) ≡ Ok t → (is_tick_length t ≡ true) × (t ≡ k)
    go true e g = let same : t ≡ k = cc in (ap is_tick_length same ∙ e, same)
    go false e g = let z : ◌≡◌ {A = ℕ} 0 1 = cc in absurd (omega arith)
