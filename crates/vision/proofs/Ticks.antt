-- The sum of m tick lengths of k/4096 s in binary32: exactly m * k / 4096 up to 2 ^ 24 / 4096 = 4096 s, and never below that from there on.
use mathlib.Core.Path.{◌≡◌, refl, sym, subst}
use Prim.Native.Nat.{ℕ, zero, suc, ◌+◌, ◌*◌, ◌^◌, ◌≤◌, ◌<◌}
use native.Mathlib.Nat.{le_refl, lt_trans, zero-mul, suc-mul, mul_assoc}
use native.Mathlib.Omega.{arith}
use mathlib.Core.Bool.{Bool, true, false}
use borrow.Author.Tests.{ltb-true, ltb-false, leb-true, leb-false}
use lib.Dec.{lit<, ltb, leb}
use lib.Pow.{shl_lt}
use lib.Ieee.{Float, binary32, round, add, of_bits}
use lib.Ieee.Exact.{HasValue, round_exact}
use Rattle.tick.specs.TickLength.{seconds_of}
use Rattle.tick.proofs.TickLengthExact.{seconds_exact}
use Rattle.vision.specs.Since.{since_taken}
use Rattle.vision.specs.Laws.{AtLeast}
use Rattle.vision.proofs.Least.{value_least, add_values, add_least}

-- n / 4096 is a value of the format up to n = 2 ^ 24
pub exact_at : (n : ℕ) → n ≤ 2 ^ 24 → HasValue (round binary32 false n 4096) false n 4096
exact_at n h = go (ltb n (2 ^ 24)) refl
  where
    go : (b : Bool) → ltb n (2 ^ 24) ≡ b → HasValue (round binary32 false n 4096) false n 4096
    go true e =
        let l : n < 2 ^ 24 = ltb-true n (2 ^ 24) e in
        round_exact binary32 false n 4096 n 137 (lit< tt) l (lt_trans (shl_lt 24 137 l) (lit< tt)) (sym (mul_assoc n (2 ^ 137) 4096))
    go false e =
        let z : 2 ^ 24 ≡ n = omega (arith, ltb-false n (2 ^ 24) e) in
        subst (λ (x : ℕ). HasValue (round binary32 false x 4096) false x 4096) z
        (round_exact binary32 false (2 ^ 24) 4096 1 161 (lit< tt) (lit< tt) (lit< tt) refl)

-- one tick more
pub tick_exact : (k a : ℕ) (x : Float) → k ≤ 64 → a + k ≤ 2 ^ 24 → HasValue x false a 4096 → HasValue (add binary32 x (seconds_of k)) false (a + k) 4096
tick_exact k a x K h v =
    subst (λ (z : Float). HasValue z false (a + k) 4096) (sym (add_values x (seconds_of k) a k 4096 (lit< tt) v (seconds_exact k (omega arith)))) (exact_at (a + k) h)

-- 0.0
pub zero_value : (k : ℕ) → HasValue (of_bits binary32 0) false (0 * k) 4096
unfolding of_bits
zero_value k = (refl, simp zero-mul)

-- the sum of m tick lengths is exact up to 4096 s
pub sum_exact : (k m : ℕ) → k ≤ 64 → m * k ≤ 2 ^ 24 → HasValue (since_taken (seconds_of k) m) false (m * k) 4096
unfolding since_taken
sum_exact k zero K h = zero_value k
sum_exact k (suc m) K h =
    rw suc-mul (tick_exact k (m * k) (since_taken (seconds_of k) m) K (omega (arith, suc-mul m k)) (sum_exact k m K (omega (arith, suc-mul m k))))

-- and reaches each n / 4096 up to there, and stays
pub sum_reaches : (k m n : ℕ) → k ≤ 64 → 0 < n → n ≤ 2 ^ 24 → n ≤ m * k → AtLeast (since_taken (seconds_of k) m) n 4096
unfolding since_taken
sum_reaches k zero n K N H h = absurd (omega (arith, zero-mul k))
sum_reaches k (suc m) n K N H h = go (leb n (m * k)) refl (sum_reaches k m n K N H)
  where
    dt : (b : ℕ) → b ≤ k → AtLeast (seconds_of k) b 4096
    dt b l = value_least (seconds_of k) k b 4096 (seconds_exact k (omega arith)) l

    go : (b : Bool) → leb n (m * k) ≡ b → (n ≤ m * k → AtLeast (since_taken (seconds_of k) m) n 4096) → AtLeast (add binary32 (since_taken (seconds_of k) m) (seconds_of k)) n 4096
    go true e before =
        add_least (since_taken (seconds_of k) m) (seconds_of k) n 0 n 4096 N (lit< tt) (exact_at n H) (omega arith) (before (leb-true n (m * k) e)) (dt 0 (omega arith))
    go false e before =
        let l : m * k < n = leb-false n (m * k) e in
        add_least (since_taken (seconds_of k) m) (seconds_of k) (m * k) k n 4096 N (lit< tt) (exact_at n H) (omega (arith, suc-mul m k))
        (value_least (since_taken (seconds_of k) m) (m * k) (m * k) 4096 (sum_exact k m K (omega arith)) (le_refl (m * k))) (dt k (le_refl k))

-- 4096 s and more
pub sum_beyond : (k m : ℕ) → k ≤ 64 → 2 ^ 24 ≤ m * k → AtLeast (since_taken (seconds_of k) m) (2 ^ 24) 4096
sum_beyond k m K h = sum_reaches k m (2 ^ 24) K (lit< tt) (le_refl (2 ^ 24)) h
