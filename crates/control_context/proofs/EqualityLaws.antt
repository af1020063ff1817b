-- What equality as floats means for commands.
use Prim.Native.Nat.{ℕ, ◌*◌}
use mathlib.Core.Path.{◌≡◌, refl, sym, ap, ◌∙◌, subst}
use mathlib.Core.Bool.{Bool, true, false, not, ◌&&◌, ◌||◌, beq}
use mathlib.Core.List.{List, [], ◌∷◌}
use borrow.Author.Tests.{eqb-true, eqb-false, eq-eqb, ne_eqb}
use lib.Dec.{eqb}
use lib.Ieee.{Float, nan, inf, fin, binary32, up, down, level, eq, is_nan, of_bits}
use Rattle.tick.specs.declared.command.ManeuverCommand.{ManeuverCommand}
use Rattle.tick.specs.Command.{mode_of, fields_of}
use Rattle.control_context.specs.Equality.{fields_equal, equal}
use Rattle.control_context.specs.ManeuverLaws.{no_nan}

-- ---- equality is symmetric

eqb-sym : (a b : ℕ) → eqb a b ≡ eqb b a
eqb-sym a b = go (eqb a b) refl
  where
    go : (t : Bool) → eqb a b ≡ t → eqb a b ≡ eqb b a
    go true h = h ∙ sym (eq-eqb b a (sym (eqb-true a b h)))
    go false h = h ∙ sym (ne_eqb b a (λ e. eqb-false a b h (sym e)))

beq-sym : (s t : Bool) → beq s t ≡ beq t s
beq-sym true true = refl
beq-sym true false = refl
beq-sym false true = refl
beq-sym false false = refl

level-sym : (s : Bool) (a : ℕ) (t : Bool) (b : ℕ) → level s a t b ≡ level t b s a
level-sym s a t b = go (eqb a b) refl
  where
    go : (same : Bool) → eqb a b ≡ same → level s a t b ≡ level t b s a
    go true h = subst (λ (x : ℕ). level s a t x ≡ level t x s a) (eqb-true a b h) (ap (λ (z : Bool). eqb a a && (z || eqb a 0)) (beq-sym s t))
    go false h = rw (h, eqb-sym b a ∙ h)

eq-sym : (x y : Float) → eq x y ≡ eq y x
unfolding eq
eq-sym nan nan = refl
eq-sym nan (inf t) = refl
eq-sym nan (fin t n d) = refl
eq-sym (inf s) nan = refl
eq-sym (inf s) (inf t) = beq-sym s t
eq-sym (inf s) (fin t n d) = refl
eq-sym (fin s m e) nan = refl
eq-sym (fin s m e) (inf t) = refl
eq-sym (fin s m e) (fin t n d) = level-sym s (m * up e * down d) t (n * up d * down e)

fields_sym : (xs ys : List Float) → fields_equal xs ys ≡ fields_equal ys xs
unfolding fields_equal
fields_sym [] [] = refl
fields_sym [] (y ∷ ys) = refl
fields_sym (x ∷ xs) [] = refl
fields_sym (x ∷ xs) (y ∷ ys) = rw (eq-sym x y, fields_sym xs ys)

pub equal_symmetric : (a b : ManeuverCommand) → equal a b ≡ equal b a
equal_symmetric a b = rw (eqb-sym (mode_of a) (mode_of b), fields_sym (fields_of a) (fields_of b))

-- ---- a command equals itself exactly where no field is NaN

eq_self : (x : Float) → eq x x ≡ not (is_nan x)
unfolding eq is_nan
eq_self nan = refl
eq_self (inf true) = refl
eq_self (inf false) = refl
eq_self (fin true m e) = rw (eq-eqb (m * up e * down e) (m * up e * down e) refl)
eq_self (fin false m e) = rw (eq-eqb (m * up e * down e) (m * up e * down e) refl)

fields_self : (xs : List Float) → fields_equal xs xs ≡ no_nan xs
unfolding fields_equal
fields_self [] = refl
fields_self (x ∷ xs) = rw (eq_self x, fields_self xs)

pub equal_itself : (a : ManeuverCommand) → equal a a ≡ no_nan (fields_of a)
equal_itself a = rw (eq-eqb (mode_of a) (mode_of a) refl, fields_self (fields_of a))

-- -0.0 equals 0.0
pub zeros_equal : fields_equal (of_bits binary32 0x8000_0000 ∷ []) (of_bits binary32 0 ∷ []) ≡ true
unfolding fields_equal eq of_bits
zeros_equal = refl
