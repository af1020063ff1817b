-- The library writes a word's bytes as the word's eight hexadecimal digits.
use Rattle.std.proofs.Common.{◌≡◌, ℕ, zero, suc, ◌/◌, ◌%◌, ◌^◌, ◌<◌, ◌==◌, Bool, true, ◌&&◌, inl, inr, [], ◌∷◌, slice_index, refl, ap, ◌∙◌, arith}
use Rattle.std.proofs.lemmas.Bool.{and_parts, cases_lt, eqb-true}
use Rattle.std.specs.Int.{w32, to_be_bytes}
use Rattle.hex.specs.Hex.{lower_digits, encode_with, encode_lower}
use Rattle.line_text.specs.Wheels.{hex_digit, hex_digits}

-- the test of the first n digits of the library's table
all_same : ℕ → Bool
all_same zero = true
all_same (suc n) = (slice_index lower_digits n == hex_digit n) && all_same n

-- so they are the digits of their places
same_at : (n d : ℕ) → all_same n ≡ true → d < n → slice_index lower_digits d ≡ hex_digit d
unfolding all_same
same_at zero d h lt = absurd (omega arith)
same_at (suc n) d h lt =
    let parts = and_parts (slice_index lower_digits n == hex_digit n) (all_same n) h in
    elim (cases_lt d n) [
      | inl below ↦ same_at n d parts.1 below
      | inr top ↦
          let e : d ≡ n = omega arith in
          rw e (eqb-true (slice_index lower_digits n) (hex_digit n) parts.0)
    ]

one : (d n : ℕ) → d ≡ n % 16 → slice_index lower_digits d ≡ hex_digit (n % 16)
unfolding all_same
one d n e = same_at 16 d refl (omega (arith, e)) ∙ ap hex_digit e

pub same : (w : ℕ) → w < 2 ^ 32 → encode_lower (to_be_bytes w32 w) ≡ hex_digits 8 w
unfolding encode_with
same w h =
    λ i. one (w / 0x100_0000 % 256 / 16) (w / 16 / 16 / 16 / 16 / 16 / 16 / 16) (omega arith) i
    ∷ one (w / 0x100_0000 % 256 % 16) (w / 16 / 16 / 16 / 16 / 16 / 16) (omega arith) i
    ∷ one (w / 0x1_0000 % 256 / 16) (w / 16 / 16 / 16 / 16 / 16) (omega arith) i
    ∷ one (w / 0x1_0000 % 256 % 16) (w / 16 / 16 / 16 / 16) (omega arith) i
    ∷ one (w / 0x100 % 256 / 16) (w / 16 / 16 / 16) (omega arith) i
    ∷ one (w / 0x100 % 256 % 16) (w / 16 / 16) (omega arith) i
    ∷ one (w % 256 / 16) (w / 16) (omega arith) i
    ∷ one (w % 256 % 16) w (omega arith) i
    ∷ []
