-- Cases of IEEE 754 remainder, each worked out by computing with the definition, and what it gives for operands that are no numbers, infinite or zero.
use mathlib.Core.Path.{◌≡◌, refl}
use mathlib.Core.Bool.{Bool}
use Prim.Native.Nat.{ℕ, zero}
use lib.IntN.{ℤ}
use lib.Ieee.{Float, nan, inf, fin, Format, binary32, of_bits}
use Rattle.ieee754.specs.Remainder.{remainder_by, tau}

-- the float with the bits x, by y, leaves the float with the bits r
abbrev pub Leaves : ℕ → Float → ℕ → Type 0
Leaves x y r = remainder_by binary32 (of_bits binary32 x) y ≡ of_bits binary32 r

-- ---- by 2.0 * PI

-- PI is halfway between 0 and 2.0 * PI, and 0 is the even multiple: it stays
pub pi_stays : Leaves 0x4049_0fdb tau 0x4049_0fdb
unfolding remainder_by of_bits
pi_stays = refl

-- the next float above PI is nearer to 2.0 * PI
pub past_pi : Leaves 0x4049_0fdc tau 0xc049_0fda
unfolding remainder_by of_bits
past_pi = refl

-- the same on the other side of zero
pub minus_pi_stays : Leaves 0xc049_0fdb tau 0xc049_0fdb
unfolding remainder_by of_bits
minus_pi_stays = refl

pub past_minus_pi : Leaves 0xc049_0fdc tau 0x4049_0fda
unfolding remainder_by of_bits
past_minus_pi = refl

-- a zero result has x's sign
pub minus_zero_stays : Leaves 0x8000_0000 tau 0x8000_0000
unfolding remainder_by of_bits
minus_zero_stays = refl

pub minus_tau : Leaves 0xc0c9_0fdb tau 0x8000_0000
unfolding remainder_by of_bits
minus_tau = refl

-- the largest float
pub largest : Leaves 0x7f7f_ffff tau 0x3fdd_b0f8
unfolding remainder_by of_bits
largest = refl

-- ---- by 2.0, where more than one tie is a value of the format: 3.0 - 2 * 2.0 and 5.0 - 2 * 2.0

pub three_by_two : Leaves 0x4040_0000 (of_bits binary32 0x4000_0000) 0xbf80_0000
unfolding remainder_by of_bits
three_by_two = refl

pub five_by_two : Leaves 0x40a0_0000 (of_bits binary32 0x4000_0000) 0x3f80_0000
unfolding remainder_by of_bits
five_by_two = refl

-- ---- operands that are no numbers, infinite or zero, in any format

pub nan_gives_nan : (f : Format) (y : Float) → remainder_by f nan y ≡ nan
unfolding remainder_by
nan_gives_nan f y = refl

pub infinity_gives_nan : (f : Format) (s : Bool) (y : Float) → remainder_by f (inf s) y ≡ nan
unfolding remainder_by
infinity_gives_nan f s y = refl

pub by_nan_gives_nan : (f : Format) (s : Bool) (m : ℕ) (e : ℤ) → remainder_by f (fin s m e) nan ≡ nan
unfolding remainder_by
by_nan_gives_nan f s m e = refl

pub by_zero_gives_nan : (f : Format) (s : Bool) (m : ℕ) (e : ℤ) (t : Bool) (d : ℤ) → remainder_by f (fin s m e) (fin t zero d) ≡ nan
unfolding remainder_by
by_zero_gives_nan f s m e t d = refl

pub by_infinity_stays : (f : Format) (s : Bool) (m : ℕ) (e : ℤ) (t : Bool) → remainder_by f (fin s m e) (inf t) ≡ fin s m e
unfolding remainder_by
by_infinity_stays f s m e t = refl
