-- IEEE 754 squareRoot: the exact root, rounded once to the format. Written for any format, as std's `add` and `mul` are.
use Rattle.std.specs.Prelude.{ℕ, zero, suc, ◌+◌, ◌*◌, ◌/◌, ◌^◌, true, false, if◌then◌else◌, nat_le, nat_lt, Float}
use Rattle.std.specs.Float.{nan, inf, fin, Format}
use Rattle.std.specs.Float.Ieee.{low, up, down, size, round}

-- The largest s with s * s ≤ n, for an n below 4 ^ d: from the root of n / 4, one binary digit more.
unfoldable pub root_digits : ℕ → ℕ → ℕ
root_digits zero n = 0
root_digits (suc d) n = let s = 2 * root_digits d (n / 4) in if nat_le ((s + 1) * (s + 1)) n then s + 1 else s

-- The largest s with s * s ≤ n.
unfoldable pub whole_root : ℕ → ℕ
whole_root n = root_digits (size n) n

-- 1 where n is no square, so that its root has digits beyond the whole ones, and 0 where it is one.
unfoldable pub sticky : ℕ → ℕ
sticky n = if nat_lt (whole_root n * whole_root n) n then 1 else 0

-- The root of w / 4 ^ low, which is √w / 2 ^ low, rounded once. The fraction handed to `round` is √w cut to whole numbers, with one
-- half more where something was cut: it lies on the same side of every value of the format, and of every midpoint between two, as √w does.
unfoldable pub root_of : Format → ℕ → Float
root_of f w = round f false (2 * whole_root w + sticky w) (2 * 2 ^ low f)

-- NaN and every value below zero give NaN, +infinity and each zero give themselves. x * 4 ^ low is whole for every x of the format.
unfoldable pub square_root : Format → Float → Float
square_root f nan = nan
square_root f (inf s) = if s then nan else inf false
square_root f (fin s zero e) = fin s zero e
square_root f (fin true (suc m) e) = nan
square_root f (fin false (suc m) e) = root_of f (suc m * up e * 4 ^ low f / down e)
