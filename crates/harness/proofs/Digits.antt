-- A 64-bit number's digits, as std writes them: no more than it needs, at most twenty.
use Rattle.std.proofs.Common.{◌≡◌, ap, ℕ, zero, suc, ◌+◌, ◌-◌, ◌/◌, ◌%◌, ◌^◌, ◌≤◌, ◌<◌, List, [], ◌∷◌, ◌++◌, length, decimal, arith, sym, subst, pow-suc}
use Rattle.std.proofs.lemmas.Fmt.{decimal_by_steps, length-decimal-le}
use Rattle.harness.specs.Digits.{IsDigitCount, IsDecimal}

longer : (n k : ℕ) → 10 ≤ n → IsDigitCount (n / 10) k → IsDigitCount n (suc k)
longer n zero h few = absurd (omega (arith, few.0))
longer n (suc zero) h few = (omega arith, omega (arith, few.1), λ more. omega (arith, h))
longer n (suc (suc k)) h few =
    let before : suc (suc k) - 1 ≡ suc k = omega arith in
    let here : suc (suc (suc k)) - 1 ≡ suc (suc k) = omega arith in
    let least : 10 ^ suc k ≤ n / 10 = subst (λ m. 10 ^ m ≤ n / 10) before (few.2 (omega arith)) in
    let most : n / 10 < 10 ^ suc (suc k) = few.1 in
    let from : 10 ^ suc (suc k) ≤ n = omega (arith, pow-suc 10 (suc k), least) in
    (omega arith, omega (arith, pow-suc 10 (suc (suc k)), most), λ more. subst (λ m. 10 ^ m ≤ n) (sym here) from)

one : (n : ℕ) → n < 10 → IsDecimal n ((48 + n) ∷ [])
one n h =
    let same : n ≡ n % 10 = omega (arith, h) in
    record { count = 1; fewest = (omega arith, omega (arith, h), λ more. omega (arith, more)); is = ap (λ d. (48 + d) ∷ []) same }

more : (n : ℕ) (ds : List ℕ) → 10 ≤ n → IsDecimal (n / 10) ds → IsDecimal n (ds ++ ((48 + n % 10) ∷ []))
more n ds h front =
    record { count = suc front.count; fewest = longer n front.count h front.fewest; is = ap (λ l. l ++ ((48 + n % 10) ∷ [])) front.is }

pub is_decimal : (n : ℕ) → n < 2 ^ 64 → IsDecimal n (decimal n)
is_decimal = decimal_by_steps IsDecimal one more

pub at_most_20 : (n : ℕ) → n < 2 ^ 64 → length (decimal n) ≤ 20
at_most_20 n h = length-decimal-le 20 n (omega arith) (omega (arith, h)) h
