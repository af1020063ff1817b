-- What `%` and remainder leave of two values of a format is a value of the format: it is a multiple of the smaller of the two units in the last place, and
-- no larger than either value. Values are counted in units of the format's smallest one, 2 ^ -low.
use mathlib.Core.Path.{◌≡◌, refl, sym, ap, ◌∙◌, subst}
use mathlib.Core.Logic.{◌⊎◌, inl, inr, ⊎_elim}
use Prim.Native.Nat.{ℕ, zero, suc, ◌+◌, ◌-◌, ◌*◌, ◌/◌, ◌%◌, ◌^◌, ◌≤◌, ◌<◌, ◌∣◌}
use native.Mathlib.Nat.{le_refl, le_trans, le_of_eq, le_of_lt, sub-le, le_of_suc-le-suc, lt_of_lt_of_le, lt_of_le_of_lt, lt_of_not-le, lt_irrefl, zero-mul, one-mul, mul-one, mul_comm, mul_assoc, mul_right_comm, mul-pos, mul-lt-mul_of_pos_right, lt_of_mul-lt-mul_right, le-mul_of_pos_right, mod-lt, mod-le, div-lt_iff_lt-mul, div-mul_cancel, dvd-mul_left, dvd-mod_iff, dvd-sub}
use native.Mathlib.Omega.{arith}
use mathlib.Core.Bool.{Bool, true, false, not, ◌&&◌}
use lib.IntN.{ℤ, pos, negsuc}
use lib.Dec.{T, leb, ltb, eqb, leb→le, nleb→lt, ltb→lt, eqb→eq}
use lib.Pow.{pow-add, pow_pos, pow-lt}
use lib.Ieee.{fin, Format, prec, emax, low, up, down, round, fits}
use lib.Ieee.Digits.{back}
use lib.Ieee.Fits.{and_l, and_r, up_pos, down_pos}
use lib.Ieee.Exact.{HasValue, round_exact}
use Rattle.ieee754.proofs.Fractions.{same_twice, same_sub, same_le, same_rest}

-- ---- a value that fits, in units

-- m * 2 ^ e is m * 2 ^ place units, of which m has at most prec digits, and it does not overflow
pub record Placed (f : Format) (m : ℕ) (e : ℤ) : Type 0 where
  pub place : ℕ
  pub units : up e * 2 ^ low f ≡ 2 ^ place * down e
  pub digits : m < 2 ^ prec f
  pub range : m * 2 ^ place < 2 ^ (low f + suc (emax f))

pow_le_back : (a l : ℕ) → 2 ^ a ≤ 2 ^ l → a ≤ l
pow_le_back a l h = le_of_suc-le-suc (lt_of_not-le (λ (g : suc l ≤ a). lt_irrefl (2 ^ l) (lt_of_lt_of_le (pow-lt g) h)))

place_of : (l : ℕ) (e : ℤ) → down e ≤ 2 ^ l → (j : ℕ) × (up e * 2 ^ l ≡ 2 ^ j * down e)
place_of l (pos a) h = (a + l, sym (pow-add 2 a l) ∙ sym (mul-one (2 ^ (a + l))))
place_of l (negsuc a) h = (l - suc a, one-mul (2 ^ l) ∙ ap (λ (x : ℕ). 2 ^ x) (sym (back l (suc a) (pow_le_back (suc a) l h))) ∙ pow-add 2 (l - suc a) (suc a))

-- what `fits` says of a finite value, zero or not
fits_says : (f : Format) (s : Bool) (m : ℕ) (e : ℤ) → T (fits f (fin s m e)) → (m < 2 ^ prec f) × (down e ≤ 2 ^ low f) × (m * up e < 2 ^ suc (emax f) * down e)
unfolding fits
fits_says f s zero e t = (
  pow_pos (prec f),
  le_trans (le-mul_of_pos_right (down e) (up_pos e)) (le_trans (le_of_eq (mul_comm (down e) (up e) ∙ eqb→eq (up e * down e) 1 t)) (pow_pos (low f))),
  subst (λ (x : ℕ). x < 2 ^ suc (emax f) * down e) (sym (zero-mul (up e))) (mul-pos (pow_pos (suc (emax f))) (down_pos e)),
)
fits_says f s (suc m) e t =
    let o = eqb (suc m % 2) 1 in
    let a = ltb (suc m) (2 ^ prec f) in
    let b = leb (down e) (2 ^ low f) in
    let c = ltb (suc m * up e) (2 ^ suc (emax f) * down e) in
    (ltb→lt (suc m) (2 ^ prec f) (and_r o a (and_l (o && a) b (and_l (o && a && b) c t))), leb→le (down e) (2 ^ low f) (and_r (o && a) b (and_l (o && a && b) c t)), ltb→lt (suc m * up e) (2 ^ suc (emax f) * down e) (and_r (o && a && b) c t))

pub placed : (f : Format) (s : Bool) (m : ℕ) (e : ℤ) → T (fits f (fin s m e)) → Placed f m e
placed f s m e t =
    let h = fits_says f s m e t in
    let p = place_of (low f) e h.1 in
    let same : m * up e * 2 ^ low f ≡ m * 2 ^ p.0 * down e = mul_assoc m (up e) (2 ^ low f) ∙ ap (λ (x : ℕ). m * x) p.1 ∙ sym (mul_assoc m (2 ^ p.0) (down e)) in
    let wide : 2 ^ suc (emax f) * down e * 2 ^ low f ≡ 2 ^ (low f + suc (emax f)) * down e =
    mul_right_comm (2 ^ suc (emax f)) (down e) (2 ^ low f) ∙ ap (λ (x : ℕ). x * down e) (mul_comm (2 ^ suc (emax f)) (2 ^ low f) ∙ sym (pow-add 2 (low f) (suc (emax f)))) in
    record {
      place = p.0;
      units = p.1;
      digits = h.0;
      range = lt_of_mul-lt-mul_right (down e) (lt_of_le_of_lt (le_of_eq (sym same)) (lt_of_lt_of_le (mul-lt-mul_of_pos_right h.2 (pow_pos (low f))) (le_of_eq wide)));
    }

-- ---- a fraction that is a value of the format

-- R units, a multiple of 2 ^ l units with at most prec digits before those l
on_grid : (f : Format) (s : Bool) (num den R l : ℕ) → 0 < den → 2 ^ l ∣ R → R < 2 ^ prec f * 2 ^ l → R < 2 ^ (low f + suc (emax f)) → num * 2 ^ low f ≡ R * den → HasValue (round f s num den) s num den
on_grid f s num den R l D h small fine e =
    let whole : R / 2 ^ l * 2 ^ l ≡ R = div-mul_cancel (2 ^ l) h in
    round_exact f s num den (R / 2 ^ l) l D ((div-lt_iff_lt-mul (pow_pos l)).1 small) (lt_of_le_of_lt (le_of_eq whole) fine) (e ∙ ap (λ (x : ℕ). x * den) (sym whole))

-- the smaller of i and j
lower : (i j : ℕ) → (l : ℕ) × (l ≤ i) × (l ≤ j) × ((l ≡ i) ⊎ (l ≡ j))
lower i j = go (leb i j) (leb→le i j) (nleb→lt i j)
  where
    go : (t : Bool) → (T t → i ≤ j) → (T (not t) → j < i) → (l : ℕ) × (l ≤ i) × (l ≤ j) × ((l ≡ i) ⊎ (l ≡ j))
    go true h k = (i, le_refl i, h tt, inl refl)
    go false h k = (j, le_of_lt (k tt), le_refl j, inr refl)

-- m * 2 ^ i with l of its places taken off
pub cut : (m i l : ℕ) → l ≤ i → m * 2 ^ i ≡ m * 2 ^ (i - l) * 2 ^ l
cut m i l h = ap (λ (z : ℕ). m * z) (ap (λ (z : ℕ). 2 ^ z) (sym (back i l h)) ∙ pow-add 2 (i - l) l) ∙ sym (mul_assoc m (2 ^ (i - l)) (2 ^ l))

multiple : (m i l : ℕ) → l ≤ i → 2 ^ l ∣ m * 2 ^ i
multiple m i l h = rw (cut m i l h) (dvd-mul_left (2 ^ l) (m * 2 ^ (i - l)))

-- one of the two has l places, and prec digits before them
few_digits : (p m i R l : ℕ) → m < 2 ^ p → R ≤ m * 2 ^ i → l ≡ i → R < 2 ^ p * 2 ^ l
few_digits p m i R l h k e = lt_of_le_of_lt k (subst (λ (x : ℕ). m * 2 ^ i < 2 ^ p * 2 ^ x) (sym e) (mul-lt-mul_of_pos_right h (pow_pos i)))

-- ---- x = ± m * 2 ^ e is a / c in size, and y = ± n * 2 ^ d is b / c, for a = over m e d, b = over n d e and c = down e * down d
abbrev pub over : ℕ → ℤ → ℤ → ℕ
over m e d = m * up e * down d

pub over-pos : (m : ℕ) (e d : ℤ) → 0 < m → 0 < over m e d
over-pos m e d h = mul-pos (mul-pos h (up_pos e)) (down_pos d)

pub both_pos : (e d : ℤ) → 0 < down e * down d
both_pos e d = mul-pos (down_pos e) (down_pos d)

-- m * 2 ^ e, counted in units
abbrev pub count : {f : Format} {m : ℕ} {e : ℤ} → Placed f m e → ℕ
count {m = m} x = m * 2 ^ x.place

pub over_units : (f : Format) (m : ℕ) (e d : ℤ) (x : Placed f m e) → over m e d * 2 ^ low f ≡ count x * (down e * down d)
over_units f m e d x =
    mul_right_comm (m * up e) (down d) (2 ^ low f)
    ∙ ap (λ (z : ℕ). z * down d) (mul_assoc m (up e) (2 ^ low f) ∙ ap (λ (z : ℕ). m * z) x.units ∙ sym (mul_assoc m (2 ^ x.place) (down e)))
    ∙ mul_assoc (m * 2 ^ x.place) (down e) (down d)

-- the same of y, whose fraction has the denominators the other way round
pub other_units : (f : Format) (n : ℕ) (d e : ℤ) (y : Placed f n d) → over n d e * 2 ^ low f ≡ count y * (down e * down d)
other_units f n d e y = over_units f n d e y ∙ ap (λ (z : ℕ). count y * z) (mul_comm (down d) (down e))

within : (N r : ℕ) → N ≤ r * 2 → N - r ≤ r
within N r h = omega arith

module _ (f : Format) (m : ℕ) (e : ℤ) (n : ℕ) (d : ℤ) (x : Placed f m e) (y : Placed f n d) (N : 0 < n) where
  count-pos : 0 < count y
  count-pos = mul-pos N (pow_pos y.place)

  rest_units : over m e d % over n d e * 2 ^ low f ≡ count x % count y * (down e * down d)
  rest_units = same_rest (over m e d) (over n d e) (count x) (count y) (down e * down d) (2 ^ low f) (over_units f m e d x) (other_units f n d e y) (over-pos n d e N) count-pos (both_pos e d) (pow_pos (low f))

  -- R units, a multiple of whatever divides both, and no more than either
  common : (s : Bool) (num R : ℕ) → num * 2 ^ low f ≡ R * (down e * down d) → ((k : ℕ) → k ∣ count x → k ∣ count y → k ∣ R) → R ≤ count x → R ≤ count y
      → HasValue (round f s num (down e * down d)) s num (down e * down d)
  common s num R p h u v =
      let l = lower x.place y.place in
      on_grid f s num (down e * down d) R l.0 (both_pos e d)
      (h (2 ^ l.0) (multiple m x.place l.0 l.1) (multiple n y.place l.0 l.2))
      (⊎_elim (few_digits (prec f) m x.place R l.0 x.digits u) (few_digits (prec f) n y.place R l.0 y.digits v) l.3)
      (lt_of_le_of_lt u x.range) p

  pub rest_exact : (s : Bool) → HasValue (round f s (over m e d % over n d e) (down e * down d)) s (over m e d % over n d e) (down e * down d)
  rest_exact s =
      common s (over m e d % over n d e) (count x % count y) rest_units (λ k u v. (dvd-mod_iff k v).1 u) (mod-le (count x) (count y)) (le_of_lt (mod-lt (count x) count-pos))

  -- where the rest is at least half of y, what is missing to the next multiple of y
  pub gap_exact : (s : Bool) → over n d e ≤ over m e d % over n d e * 2
      → HasValue (round f s (over n d e - over m e d % over n d e) (down e * down d)) s (over n d e - over m e d % over n d e) (down e * down d)
  gap_exact s h =
      let c = down e * down d in
      let b = over n d e in
      let r = over m e d % b in
      let R = count x % count y in
      let half : count y ≤ R * 2 = same_le b (r * 2) (count y) (R * 2) c (2 ^ low f) (other_units f n d e y) (same_twice r R c (2 ^ low f) rest_units) (both_pos e d) h in
      common s (b - r) (count y - R) (same_sub b r (count y) R c (2 ^ low f) (other_units f n d e y) rest_units)
      (λ k u v. dvd-sub k v ((dvd-mod_iff k v).1 u)) (le_trans (within (count y) R half) (mod-le (count x) (count y))) (sub-le (count y) R)
