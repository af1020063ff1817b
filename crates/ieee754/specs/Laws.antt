-- What holds of the definitions of `ieee754`, in the words of IEEE 754: each statement is a clause of a function of src/laws.rt.
use Rattle.std.specs.Prelude.{◌≡◌, ◌⊎◌, ℕ, ◌+◌, ◌-◌, ◌*◌, ◌%◌, ◌^◌, ◌<◌, ◌≤◌, Bool, false, not, if◌then◌else◌, T, Float}
use Rattle.std.specs.Float.{nan, Format, binary32}
use Rattle.std.specs.Float.Ieee.{rem, le, neg, fits, nan_bits, of_bits, to_bits}
use Rattle.std.specs.Float.Ieee.Exact.{HasValue}
use Rattle.std.specs.Float.Ieee.Nearest.{closest}
use Rattle.std.specs.Float.Ieee.Positive.{num, den, positive}
use Rattle.ieee754.specs.Clamp.{clamp_between, clamp_within}
use Rattle.ieee754.specs.Root.{square_root}
use Rattle.ieee754.specs.Remainder.{remainder_by}
use Rattle.ieee754.specs.Hypot.{hypotenuse}

-- `HasValue x s a c` says that x is finite, negative where s is true, and a / c in size.

-- ---- the root

-- r is a value of binary32, not negative: a units of 2 ^ -149, the smallest value above zero
abbrev pub InUnits : Float → ℕ → Type 0
InUnits r a = T (fits binary32 r) × HasValue r false a (2 ^ 149)

-- r is the float nearest to the root of x: beside every other float, of b units, the root lies on r's side of the point midway between the two. That point is
-- a + b units of 2 ^ -150, and its square is compared with x, which is num x / den x. (A float below zero is farther off than 0.0, and left out.)
pub record NearestRoot (x r : Float) : Type 0 where
  pub a : ℕ
  pub value : InUnits r a
  pub above : (w : Float) (b : ℕ) → InUnits w b → a < b → num x * 4 ^ 150 < (a + b) * (a + b) * den x
  pub below : (w : Float) (b : ℕ) → InUnits w b → b < a → (a + b) * (a + b) * den x < num x * 4 ^ 150

-- so it is for every finite x above zero that binary32 holds
abbrev pub RootIsNearest : Type 0
RootIsNearest = (x : Float) → T (positive x) → T (fits binary32 x) → NearestRoot x (square_root binary32 x)

-- ---- the remainder, and Rust's `%`

-- x and y are values of the format f. x is a / c, negative where s is true, and y is b / c, negative where t is true. y is not zero.
pub record Operands (f : Format) (x y : Float) (s t : Bool) (a b c : ℕ) : Type 0 where
  pub x_fits : T (fits f x)
  pub y_fits : T (fits f y)
  pub x_value : HasValue x s a c
  pub y_value : HasValue y t b c
  pub y_not_zero : 0 < b
  pub c_not_zero : 0 < c

-- r is x - k / c for x = ±a / c, exactly: it has x's sign up to zero, zero included, and the other sign beyond
abbrev pub Minus : Float → Bool → ℕ → ℕ → ℕ → Type 0
Minus r s a k c = (k ≤ a → HasValue r s (a - k) c) × (a < k → HasValue r (not s) (k - a) c)

-- the remainder is x - n * y exactly, n the whole number closest to x / y
abbrev pub RemainderIsExact : Type 0
RemainderIsExact =
    (f : Format) (x y : Float) (s t : Bool) (a b c : ℕ)
    → Operands f x y s t a b c → Minus (remainder_by f x y) s a (closest a b * b) c

-- it is at most half of y in size
abbrev pub RemainderIsSmall : Type 0
RemainderIsSmall =
    (f : Format) (x y : Float) (s t : Bool) (a b c : ℕ)
    → Operands f x y s t a b c → (u : Bool) (r : ℕ) → HasValue (remainder_by f x y) u r c → r * 2 ≤ b

-- where it is half of y, n is even
abbrev pub RemainderIsEven : Type 0
RemainderIsEven =
    (f : Format) (x y : Float) (s t : Bool) (a b c : ℕ)
    → Operands f x y s t a b c → (u : Bool) (r : ℕ) → HasValue (remainder_by f x y) u r c → r * 2 ≡ b → closest a b % 2 ≡ 0

-- a zero has x's sign
abbrev pub RemainderZeroHasSign : Type 0
RemainderZeroHasSign =
    (f : Format) (x y : Float) (s t : Bool) (a b c : ℕ)
    → Operands f x y s t a b c → (u : Bool) → HasValue (remainder_by f x y) u 0 c → u ≡ s

-- `%` is x - n * y exactly, n the quotient cut to a whole number, and has x's sign
abbrev pub RemIsExact : Type 0
RemIsExact =
    (f : Format) (x y : Float) (s t : Bool) (a b c : ℕ) → Operands f x y s t a b c → HasValue (rem f x y) s (a % b) c

-- ---- the hypotenuse

-- the order of the two sides does not matter
abbrev pub HypotIsSymmetric : Type 0
HypotIsSymmetric = (x y : Float) → T (fits binary32 x) → T (fits binary32 y) → hypotenuse x y ≡ hypotenuse y x

-- ---- words

-- a float that binary32 holds is read from the word that is written for it
abbrev pub WrittenWordIsRead : Type 0
WrittenWordIsRead = (x : Float) → T (fits binary32 x) → of_bits binary32 (to_bits binary32 x) ≡ x

-- a word is written for the float that is read from it, and 7fc00000 for every NaN
abbrev pub ReadWordIsWritten : Type 0
ReadWordIsWritten =
    (w : ℕ) → w < 2 ^ 32 → to_bits binary32 (of_bits binary32 w) ≡ if nan_bits binary32 w then 0x7fc0_0000 else w

-- ---- the two clamps

-- the clamp of pid.rs lies between its bounds, whatever it is given
abbrev pub ClampIsBetween : Type 0
ClampIsBetween = (v lo hi : Float) → T (le lo hi) → T (le lo (clamp_between v lo hi)) × T (le (clamp_between v lo hi) hi)

-- it gives its lower bound at NaN
abbrev pub ClampIsLowerAtNan : Type 0
ClampIsLowerAtNan = (lo hi : Float) → clamp_between nan lo hi ≡ lo

-- f32's clamp is NaN, or it lies between -bound and bound
abbrev pub ClampWithinIsBetween : Type 0
ClampWithinIsBetween =
    (v bound : Float)
    → T (le (neg bound) bound)
    → (clamp_within v bound ≡ nan) ⊎ (T (le (neg bound) (clamp_within v bound)) × T (le (clamp_within v bound) bound))

-- it keeps NaN
abbrev pub ClampWithinKeepsNan : Type 0
ClampWithinKeepsNan = (bound : Float) → clamp_within nan bound ≡ nan
