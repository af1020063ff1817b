-- A test that is computed over every k from 1 to 64 passes at each tick length (`at_tick_length`).
use mathlib.Core.Path.{◌≡◌, refl, subst}
use mathlib.Core.Bool.{Bool, true, false, ◌&&◌}
use Prim.Native.Nat.{ℕ, zero, suc, ◌≤◌}
use native.Mathlib.Omega.{arith}
use lib.Dec.{T, leb}
use lib.Ieee.Fits.{and_l, and_r}
use borrow.Author.Tests.{leb-true, leb-false}
use Rattle.tick.specs.TickLength.{is_tick_length}
use Rattle.tick.proofs.TickLengthExact.{tick_length_bounds}

-- the test f passes at each number from 1 to n
abbrev pub every_to : (ℕ → Bool) → ℕ → Bool
every_to f zero = true
every_to f (suc n) = f (suc n) && every_to f n

-- so it passes at one of them
at : (f : ℕ → Bool) (n : ℕ) → T (every_to f n) → (k : ℕ) → 1 ≤ k → k ≤ n → T (f k)
at f zero t k p q = absurd (omega arith)
at f (suc n) t k p q = go (leb k n) refl (λ (h : k ≤ n). at f n (and_r (f (suc n)) (every_to f n) t) k p h)
  where
    go : (b : Bool) → leb k n ≡ b → (k ≤ n → T (f k)) → T (f k)
    go true e r = r (leb-true k n e)
    go false e r = subst (λ (m : ℕ). T (f m)) (omega (arith, leb-false k n e)) (and_l (f (suc n)) (every_to f n) t)

pub at_tick_length : (f : ℕ → Bool) → T (every_to f 64) → (k : ℕ) → is_tick_length k ≡ true → T (f k)
at_tick_length f t k h = let w = tick_length_bounds k h in at f 64 t k w.0 w.1
