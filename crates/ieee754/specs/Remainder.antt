-- IEEE 754 remainder: x - n * y exactly, n the whole number nearest to x / y, the even one at a tie; a zero result has x's sign.
-- Written for any format, as std's `rem` is (docs/RULES.md, 'The remainder').
use Rattle.std.specs.Prelude.{ℕ, ◌-◌, ◌*◌, Bool, not, if◌then◌else◌, nat_le, ◌==◌, Float}
use Rattle.std.specs.Float.{nan, inf, fin, Format, binary32}
use Rattle.std.specs.Float.Ieee.{up, down, round, of_bits}
use Rattle.std.specs.Float.Ieee.Nearest.{closest}

-- x - n * y for x = ±a / c and |y| = b / c. It is a value of the format (`remainder_exact`), so `round` only writes it down.
unfoldable pub least_rest : Format → Bool → ℕ → ℕ → ℕ → Float
unfolding round
least_rest f s a b c =
    let n = closest a b in
    if nat_le (n * b) a then round f s (a - n * b) c else round f (not s) (n * b - a) c

-- NaN where x is no number or infinite, or y is no number or zero; x itself where y is infinite.
unfoldable pub remainder_by : Format → Float → Float → Float
unfolding least_rest
remainder_by f nan y = nan
remainder_by f (inf s) y = nan
remainder_by f (fin s m e) nan = nan
remainder_by f (fin s m e) (inf t) = fin s m e
remainder_by f (fin s m e) (fin t n d) =
    if n == 0 then nan else least_rest f s (m * up e * down d) (n * up d * down e) (down e * down d)

-- 2.0 * PI
abbrev pub tau : Float
tau = of_bits binary32 0x40c9_0fdb
