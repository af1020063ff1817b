-- The remainder by y in three steps of the format's own: r = x % y, r against half of y, and y taken off or added once. It holds for a y = n * 2 ^ d whose odd n has so many
-- digits that 3 * n has more than the format keeps: then x lies halfway between two multiples of y only where they are 0 and ±y.
use mathlib.Core.Path.{◌≡◌, refl, sym, ap, ◌∙◌, subst}
use Prim.Native.Nat.{ℕ, zero, suc, ◌+◌, ◌-◌, ◌*◌, ◌/◌, ◌%◌, ◌^◌, ◌≤◌, ◌<◌}
use native.Mathlib.Nat.{le_of_suc-le-suc, mul_assoc, mul_right_comm, mul-mul-mul_comm, mul-pos, add-mul, suc-mul, le-mul_of_pos_right, eq_of_mul-eq-mul_right, div-add-mod', mod-lt, pow-suc}
use native.Mathlib.Omega.{arith}
use mathlib.Core.Bool.{Bool, true, false, not, beq, true≢false}
use lib.IntN.{ℤ}
use lib.Dec.{T, leb, ltb, leb→le, nleb→lt, lt→ltb, lit<}
use borrow.Author.Tests.{ltb-true, ltb-false}
use lib.Pow.{pow_pos}
use lib.Ieee.{Float, nan, inf, fin, Format, prec, low, up, down, round, neg, sum, add, rem, lt, fits}
use lib.Ieee.Bits.{is_true}
use lib.Ieee.Exact.{HasValue}
use lib.Ieee.Scale.{round_same}
use Rattle.ieee754.specs.Remainder.{remainder_by}
use Rattle.ieee754.proofs.Fractions.{same_mul, same_twice, same_add, same_sub, same_le, same_lt}
use Rattle.ieee754.proofs.Grid.{Placed, placed, cut, count, over_units, other_units, over, over-pos, both_pos}
use Rattle.ieee754.proofs.RemainderLaws.{operands, rem_exact}
use Rattle.ieee754.proofs.Least.{least_beyond, least_within, rem_is, remainder_is}
use Rattle.ieee754.proofs.Values.{over_value, other_value}

-- ---- the tie

factor : (q n P : ℕ) → q * (n * P) * 2 + n * P ≡ (q * n * 2 + n) * P
factor q n P = sym (add-mul (q * n * 2) n P ∙ ap (λ (z : ℕ). z + n * P) (mul_right_comm (q * n) 2 P ∙ ap (λ (z : ℕ). z * 2) (mul_assoc q n P)))

-- three times n is too long for m, and an odd n is no difference of even numbers
too_long : (q m n N p : ℕ) → m < p → p ≤ 3 * n → n ≤ N → m ≡ q * N * 2 + N → q ≡ 0
too_long zero m n N p a b c e = refl
too_long (suc q) m n N p a b c e = absurd (omega (arith, suc-mul q N))

no_half : (m q n : ℕ) → n % 2 ≡ 1 → m * 2 ≡ q * 2 + n → ⊥
no_half m q n o e = omega arith

-- x = m * 2 ^ i is halfway between q * y and (q + 1) * y for y = n * 2 ^ j
halfway : (p m i n j q : ℕ) → m < 2 ^ p → 2 ^ p ≤ 3 * n → n % 2 ≡ 1 → m * 2 ^ i * 2 ≡ q * (n * 2 ^ j) * 2 + n * 2 ^ j → q ≡ 0
halfway p m i n j q M N o e = go (leb (suc i) j) (leb→le (suc i) j) (nleb→lt (suc i) j)
  where
    -- the smaller power of two taken off both sides
    go : (t : Bool) → (T t → suc i ≤ j) → (T (not t) → j < suc i) → q ≡ 0
    go true h k =
        let N' = n * 2 ^ (j - suc i) in
        too_long q m n N' (2 ^ p) M N (le-mul_of_pos_right n (pow_pos (j - suc i)))
        (eq_of_mul-eq-mul_right (2 ^ suc i) (pow_pos (suc i)) m (q * N' * 2 + N')
        (ap (λ (z : ℕ). m * z) (pow-suc 2 i) ∙ sym (mul_assoc m (2 ^ i) 2) ∙ e ∙ ap (λ (z : ℕ). q * z * 2 + z) (cut n j (suc i) (h tt)) ∙ factor q N' (2 ^ suc i)))
    go false h k =
        let M' = m * 2 ^ (i - j) in
        absurd (no_half M' (q * n) n o
        (eq_of_mul-eq-mul_right (2 ^ j) (pow_pos j) (M' * 2) (q * n * 2 + n)
        (mul_right_comm M' 2 (2 ^ j) ∙ ap (λ (z : ℕ). z * 2) (sym (cut m i j (le_of_suc-le-suc (k tt)))) ∙ e ∙ factor q n (2 ^ j))))

-- ---- the steps

-- r lies beyond h, on the side s of zero
abbrev pub beyond : Bool → Float → Float → Bool
beyond false h r = lt h r
beyond true h r = lt r (neg h)

beyond_is : (s : Bool) (n : ℕ) (d : ℤ) (p : ℕ) (g : ℤ) → beyond s (fin false n d) (fin s p g) ≡ ltb (over n d g) (over p g d)
unfolding lt neg
beyond_is false n d p g = refl
beyond_is true n d p g = refl

-- r is k / c in size, and h is half of b / c
beyond_says : (s : Bool) (n : ℕ) (d : ℤ) (r : Float) (k b c : ℕ) → 0 < c → HasValue r s k c → HasValue (fin false n d) false b (c * 2)
    → (beyond s (fin false n d) r ≡ true → b < k * 2) × (beyond s (fin false n d) r ≡ false → k * 2 ≤ b)
beyond_says s n d nan k b c C P Q = elim P [ ]
beyond_says s n d (inf _) k b c C P Q = elim P [ ]
beyond_says s n d (fin u p g) k b c C P Q =
    let A = over p g d in
    let B = over n d g in
    let K = down g * down d in
    let x : A * (c * 2) ≡ k * 2 * K = sym (mul_assoc A c 2) ∙ ap (λ (z : ℕ). z * 2) (over_value p g d k c P.1) ∙ mul_right_comm k K 2 in
    let y : B * (c * 2) ≡ b * K = other_value n d g b (c * 2) Q.1 in
    let test : beyond s (fin false n d) (fin u p g) ≡ ltb B A = ap (λ (z : Bool). beyond s (fin false n d) (fin z p g)) P.0 ∙ beyond_is s n d p g in (
      λ t. same_lt B A b (k * 2) K (c * 2) y x (mul-pos C (lit< tt)) (ltb-true B A (sym test ∙ t)),
      λ t. same_le A B (k * 2) b K (c * 2) x y (both_pos g d) (ltb-false B A (sym test ∙ t)),
    )

-- what has a sign is beyond h on its own side only, and what is no number on neither
own_side : (s u : Bool) (n : ℕ) (d : ℤ) (r : Float) (k c : ℕ) → HasValue r u k c → beyond s (fin false n d) r ≡ true → u ≡ s
unfolding lt neg
own_side true true n d r k c P t = refl
own_side false false n d r k c P t = refl
own_side true false n d nan k c P t = elim P [ ]
own_side true false n d (inf _) k c P t = elim P [ ]
own_side false true n d nan k c P t = elim P [ ]
own_side false true n d (inf _) k c P t = elim P [ ]
own_side true false n d (fin v p g) k c P t = absurd (true≢false (sym t ∙ rw P.0))
own_side false true n d (fin v p g) k c P t = absurd (true≢false (sym t ∙ rw P.0))

no_side : (s : Bool) (n : ℕ) (d : ℤ) → beyond s (fin false n d) nan ≡ false
unfolding lt neg
no_side true n d = refl
no_side false n d = refl

not_same : (s : Bool) → beq s (not s) ≡ false
not_same true = refl
not_same false = refl

-- r and y have unlike signs, and y is the larger in size
add_opposite : (f : Format) (s : Bool) (r y : Float) (k b c : ℕ) → 0 < c → HasValue r s k c → HasValue y (not s) b c → k < b → add f r y ≡ round f (not s) (b - k) c
unfolding add sum
add_opposite f s nan y k b c C P Q h = elim P [ ]
add_opposite f s (inf _) y k b c C P Q h = elim P [ ]
add_opposite f s (fin u p g) nan k b c C P Q h = elim Q [ ]
add_opposite f s (fin u p g) (inf _) k b c C P Q h = elim Q [ ]
add_opposite f s (fin u p g) (fin v n d) k b c C P Q h =
    let A = over p g d in
    let B = over n d g in
    let K = down g * down d in
    let x : A * c ≡ k * K = over_value p g d k c P.1 in
    let y : B * c ≡ b * K = other_value n d g b c Q.1 in
    let l : A < B = same_lt k b A B c K (sym x) (sym y) (both_pos g d) h in
    rw (P.0, Q.0, not_same s, is_true (ltb A B) (lt→ltb A B l))
    (round_same f (not s) (B - A) K (b - k) c (both_pos g d) C (same_sub B A b k K c y x))

-- ---- y = n * 2 ^ d, and its half n * 2 ^ d'

half_of : (n u D E w W : ℕ) → u * D * 2 ≡ w * W → n * u * (E * D * 2) ≡ n * w * E * W
half_of n u D E w W h =
    ap (λ (z : ℕ). n * u * z) (mul_assoc E D 2)
    ∙ mul-mul-mul_comm n u E (D * 2)
    ∙ ap (λ (z : ℕ). n * E * z) (sym (mul_assoc u D 2) ∙ h)
    ∙ mul-mul-mul_comm n E w W
    ∙ sym (mul_assoc (n * w) E W)

double : (a q b r : ℕ) → q + r ≡ a → r * 2 ≡ b → a * 2 ≡ q * 2 + b
double a q b r e t = omega arith

odd_pos : (n : ℕ) → n % 2 ≡ 1 → 0 < n
odd_pos n h = omega arith

-- y is a value of the format, n is odd, three times n has more digits than the format keeps, and 2 ^ d' is half of 2 ^ d
pub record Divisor (f : Format) (n : ℕ) (d d' : ℤ) : Type 0 where
  pub fit : T (fits f (fin false n d))
  pub odd : n % 2 ≡ 1
  pub long : 2 ^ prec f ≤ 3 * n
  pub half : up d' * down d * 2 ≡ up d * down d'

module _ {f : Format} {n : ℕ} {d d' : ℤ} (y : Divisor f n d d') where
  n_pos : 0 < n
  n_pos = odd_pos n y.odd

  half_value : (e : ℤ) → HasValue (fin false n d') false (over n d e) (down e * down d * 2)
  half_value e = (refl, half_of n (up d') (down d) (down e) (up d) (down d') y.half)

  rem_value : (s : Bool) (m : ℕ) (e : ℤ) → T (fits f (fin s m e)) → HasValue (rem f (fin s m e) (fin false n d)) s (over m e d % over n d e) (down e * down d)
  rem_value s m e X = rem_exact (operands X y.fit n_pos)

  -- a tie is only between 0 and ±y
  lone_tie : (m : ℕ) (e : ℤ) → Placed f m e → over m e d % over n d e * 2 ≡ over n d e → over m e d / over n d e ≡ 0
  lone_tie m e x t =
      let a = over m e d in
      let b = over n d e in
      let c = down e * down d in
      let q = a / b in
      let L = 2 ^ low f in
      let y' = placed f false n d y.fit in
      let N = count y' in
      let Y = other_units f n d e y' in
      halfway (prec f) m x.place n y'.place q x.digits y.long y.odd
      (eq_of_mul-eq-mul_right c (both_pos e d) (count x * 2) (q * N * 2 + N)
      (sym (same_twice a (count x) c L (over_units f m e d x))
      ∙ ap (λ (z : ℕ). z * L) (double a (q * b) b (a % b) (div-add-mod' a b) t)
      ∙ same_add (q * b * 2) b (q * N * 2) N c L (same_twice (q * b) (q * N) c L (same_mul q b N c L Y)) Y))

  -- for a finite x of sign s
  steps : (s : Bool) (m : ℕ) (e : ℤ) → T (fits f (fin s m e))
      → (beyond s (fin false n d') (rem f (fin s m e) (fin false n d)) ≡ true → add f (rem f (fin s m e) (fin false n d)) (fin (not s) n d) ≡ remainder_by f (fin s m e) (fin false n d))
      × (beyond s (fin false n d') (rem f (fin s m e) (fin false n d)) ≡ false → rem f (fin s m e) (fin false n d) ≡ remainder_by f (fin s m e) (fin false n d))
  steps s m e X =
      let a = over m e d in
      let b = over n d e in
      let c = down e * down d in
      let r = rem f (fin s m e) (fin false n d) in
      let B = over-pos n d e n_pos in
      let value = rem_value s m e X in
      let says = beyond_says s n d' r (a % b) b c (both_pos e d) value (half_value e) in
      let is = remainder_is f s m e false n d n_pos in (
        λ t. add_opposite f s r (fin (not s) n d) (a % b) b c (both_pos e d) value (refl, sym (mul_assoc (n * up d) (down e) (down d))) (mod-lt a B) ∙ sym (is ∙ least_beyond f s a b c B (says.0 t)),
        λ t. rem_is f s m e false n d n_pos ∙ sym (is ∙ least_within f s a b c B (says.1 t) (lone_tie m e (placed f s m e X))),
      )

  -- where r = x % y lies beyond half of y on the side s, y goes off once more
  pub beyond_half : (s : Bool) (x : Float) → T (fits f x) → beyond s (fin false n d') (rem f x (fin false n d)) ≡ true → add f (rem f x (fin false n d)) (fin (not s) n d) ≡ remainder_by f x (fin false n d)
  beyond_half s nan X t = absurd (true≢false (sym t ∙ unfold rem in no_side s n d'))
  beyond_half s (inf u) X t = absurd (true≢false (sym t ∙ unfold rem in no_side s n d'))
  beyond_half s (fin u m e) X t =
      let r = rem f (fin u m e) (fin false n d) in
      let side : u ≡ s = own_side s u n d' r (over m e d % over n d e) (down e * down d) (rem_value u m e X) t in
      subst (λ (v : Bool). beyond v (fin false n d') r ≡ true → add f r (fin (not v) n d) ≡ remainder_by f (fin u m e) (fin false n d)) side (steps u m e X).0 t

  -- where it does so on neither side, it is the answer
  pub within_half : (x : Float) → T (fits f x) → beyond false (fin false n d') (rem f x (fin false n d)) ≡ false → beyond true (fin false n d') (rem f x (fin false n d)) ≡ false
      → rem f x (fin false n d) ≡ remainder_by f x (fin false n d)
  within_half nan X p q = unfold rem remainder_by in refl
  within_half (inf u) X p q = unfold rem remainder_by in refl
  within_half (fin true m e) X p q = (steps true m e X).1 q
  within_half (fin false m e) X p q = (steps false m e X).1 p
