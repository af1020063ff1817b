-- A 32-bit number's decimal digits are those that the library writes, at most ten.
use Prim.Native.Nat.{ℕ, zero, suc, ◌+◌, ◌/◌, ◌%◌, ◌^◌, ◌≤◌, ◌<◌}
use mathlib.Core.Bool.{Bool, true, false}
use mathlib.Core.Path.{◌≡◌, refl, ap, sym, ◌∙◌}
use mathlib.Core.List.{List, [], ◌∷◌, ◌++◌}
use native.Mathlib.Nat.{div-lt_iff_lt-mul, pow-suc}
use native.Mathlib.Omega.{arith}
use Rattle.std.specs.Prelude.{if◌then◌else◌, nat_lt}
use lib.ListN.{length, length-append}
use borrow.Author.Tests.{lt-ltb, ltb-true, ltb-false}
use Rattle.std.specs.Fmt.{decimal as written}
use Rattle.std.proofs.lemmas.Fmt.{decimal_digit, decimal_step}
use Rattle.line_text.specs.Pieces.{decimal_in, decimal}

same_in : (k n : ℕ) → n < 10 ^ suc k → n < 2 ^ 64 → decimal_in (suc k) n ≡ written n
unfolding decimal_in
same_in zero n h m = let few : n < 10 = omega (arith, h) in rw (lt-ltb n 10 few) (sym (decimal_digit n few))
same_in (suc k) n h m =
    let tenth : n / 10 < 10 ^ suc k = (div-lt_iff_lt-mul {k = 10} (omega arith)).1 (rw (← pow-suc) h) in
    go (nat_lt n 10) refl (same_in k (n / 10) tenth (omega (arith, m)))
  where
    go : (b : Bool) → nat_lt n 10 ≡ b → decimal_in (suc k) (n / 10) ≡ written (n / 10) → (if b then (48 + n) ∷ [] else decimal_in (suc k) (n / 10) ++ ((48 + n % 10) ∷ [])) ≡ written n
    go true e same = sym (decimal_digit n (ltb-true n 10 e))
    go false e same = ap (λ (l : List ℕ). l ++ ((48 + n % 10) ∷ [])) same ∙ sym (decimal_step n (ltb-false n 10 e) m)

pub same : (n : ℕ) → n < 2 ^ 32 → written n ≡ decimal n
unfolding decimal
same n h = sym (same_in 9 n (omega (arith, h)) (omega (arith, h)))

-- no more digits than allowed
short : (k n : ℕ) → length (decimal_in k n) ≤ k
unfolding decimal_in
short zero n = omega arith
short (suc k) n = go (nat_lt n 10) (short k (n / 10)) where
  go : (b : Bool) → length (decimal_in k (n / 10)) ≤ k → length (if b then (48 + n) ∷ [] else decimal_in k (n / 10) ++ ((48 + n % 10) ∷ [])) ≤ suc k
  go true h = omega arith
  go false h = simp length-append (omega arith)

pub at_most_ten : (n : ℕ) → length (decimal n) ≤ 10
unfolding decimal
at_most_ten n = short 10 n
