-- A tick length in seconds is k/4096 exactly, in microseconds the same rounded down, and its k is from 1 to 64.
use Prim.Native.Nat.{ℕ, ◌+◌, ◌*◌, ◌^◌, ◌<◌, ◌≤◌}
use mathlib.Core.Path.{◌≡◌, refl, sym, ap, ◌∙◌, subst}
use mathlib.Core.Bool.{Bool, true, false, ◌&&◌}
use native.Mathlib.Nat.{le_of_lt, lt_trans, mul_comm, mul_assoc, mul-pos}
use native.Mathlib.Omega.{arith}
use borrow.Author.Tests.{leb-true, leb-false}
use lib.Dec.{lit<, leb}
use lib.Pow.{shl_lt}
use lib.Ieee.{Float, nan, inf, fin, binary32, up, down, round, div, of_int, of_bits}
use lib.Ieee.Fits.{down_pos}
use lib.Ieee.Exact.{HasValue, round_exact}
use lib.Ieee.Back.{round_whole}
use lib.Ieee.Scale.{round_same}
use Rattle.tick.specs.TickLength.{IsTickLength, is_tick_length, seconds_of, micros_of}

-- a float that is the whole number k, divided by 4096.0, is k/4096 rounded once
quotient : (x : Float) (k : ℕ) → HasValue x false k 1 → div binary32 x (of_bits binary32 0x4580_0000) ≡ round binary32 false k 4096
unfolding div of_bits
quotient nan k v = absurd v
quotient (inf t) k v = absurd v
quotient (fin t m e) k v =
    rw v.0
    (round_same binary32 false (m * up e * 1) (4096 * down e) k 4096 (mul-pos (lit< tt) (down_pos e)) (lit< tt)
    (ap (λ (z : ℕ). z * 4096) v.1 ∙ mul_assoc k (down e) 4096 ∙ ap (λ (z : ℕ). k * z) (mul_comm (down e) 4096)))

pub seconds_rounded : (k : ℕ) → k < 2 ^ 24 → seconds_of k ≡ round binary32 false k 4096
unfolding seconds_of of_int
seconds_rounded k h = quotient (round binary32 false k 1) k (round_whole binary32 false k (le_of_lt h))

pub seconds_exact : (k : ℕ) → k < 2 ^ 24 → HasValue (seconds_of k) false k 4096
seconds_exact k h =
    subst (λ (x : Float). HasValue x false k 4096) (sym (seconds_rounded k h))
    (round_exact binary32 false k 4096 k 137 (lit< tt) h (lt_trans (shl_lt 24 137 h) (lit< tt)) (sym (mul_assoc k (2 ^ 137) 4096)))

-- The microseconds are those of k/4096 s, rounded down.
pub micros_floor : (k : ℕ) → (micros_of k * 4096 ≤ 1000000 * k) × (1000000 * k < (micros_of k + 1) * 4096)
unfolding micros_of
micros_floor k = omega arith

-- The test of a tick length is the fact, both ways.
pub tick_length_bounds : (k : ℕ) → is_tick_length k ≡ true → IsTickLength k
tick_length_bounds k h = go (leb 1 k) (leb k 64) refl refl h
  where
    go : (a b : Bool) → leb 1 k ≡ a → leb k 64 ≡ b → a && b ≡ true → IsTickLength k
    go true true d e g = (leb-true 1 k d, leb-true k 64 e)
    go true false d e g = let z : ◌≡◌ {A = ℕ} 0 1 = cc in absurd (omega arith)
    go false b d e g = let z : ◌≡◌ {A = ℕ} 0 1 = cc in absurd (omega arith)

pub bounds_tick_length : (k : ℕ) → IsTickLength k → is_tick_length k ≡ true
bounds_tick_length k h = go (leb 1 k) (leb k 64) refl refl
  where
    go : (a b : Bool) → leb 1 k ≡ a → leb k 64 ≡ b → a && b ≡ true
    go true true d e = refl
    go true false d e = absurd (omega (arith, leb-false k 64 e, h.1))
    go false b d e = absurd (omega (arith, leb-false 1 k d, h.0))
