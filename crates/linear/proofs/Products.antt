-- The dot product as std's `reduce` of the products.
use Rattle.std.proofs.Common.{◌≡◌, refl, sym, ap, subst, ◌∙◌, List, [], ◌∷◌, map, Float, Option, Some, None}
use mathlib.Core.List.{map-id}
use denote.Param.Members.{Mut, Called}
use Rattle.std.specs.Iterator.{ReducesItems, FoldTurn}
use Rattle.std.specs.List.{FoldsTo, zip, fold, reduce}
use Rattle.std.specs.Option.{unwrap_or}
use Rattle.std.proofs.lemmas.Iterator.{YieldsList, items_from_drains}
use lib.Ieee.{binary32, add, mul}
use Rattle.linear.specs.Vector.{zero_float, add_products, dot_of}

-- ---- a chain that ends in `reduce`, whose closure computes h

module _ {A F : Type 0} (g : Mut F (A × (A × Unit {0})) A) (h : A → A → A) (f : F) (k : (a x b : A) (q : F) → Called g f (a, (x, tt)) b q → (q ≡ f) × (b ≡ h a x)) where
  folded : (xs : List A) (p q : F × A) → p.0 ≡ f → FoldsTo {P = F × A} (FoldTurn g) p xs q → q.1 ≡ fold h p.1 xs
  folded [] p q a c = ap (λ w. w.1) (sym c)
  folded (x ∷ xs) p q a c = let m = k p.1 x c.0.1 c.0.0 (subst (λ w. Called g w (p.1, (x, tt)) c.0.1 c.0.0) a c.1) in folded xs c.0 q m.0 c.2 ∙ ap (λ b. fold h b xs) m.1

  pub reduced : {S : Type 0} {steps : S → Option A → S → Type 0} {all : List A} (s : S) (r : Option A) → ReducesItems steps g s f r → YieldsList steps (λ x. x) s all → r ≡ reduce h all
  reduced s None (u, (t, ys, end)) d = ap (reduce h) (items_from_drains [] (t, ys, λ _. (u, end)) d)
  reduced s (Some y) (x, xs, q, (u, (t, ys, end)), turns) d =
      ap Some (folded xs (f, x) (q, y) refl turns) ∙ ap (reduce h) (sym (map-id (x ∷ xs)) ∙ items_from_drains (x ∷ xs) (t, ys, λ _. (u, end)) d)

-- ---- the dot product

-- of a pair of entries
abbrev pub product : Float × Float → Float
product p = mul binary32 p.0 p.1

abbrev pub products : List Float → List Float → List Float
products xs ys = map product (zip xs ys)

products_added : (s : Float) (xs ys : List Float) → fold (add binary32) s (products xs ys) ≡ add_products s xs ys
unfolding add_products
products_added s [] ys = refl
products_added s (x ∷ xs) [] = refl
products_added s (x ∷ xs) (y ∷ ys) = products_added (add binary32 s (mul binary32 x y)) xs ys

pub dot_reduced : (xs ys : List Float) → unwrap_or (reduce (add binary32) (products xs ys)) zero_float ≡ dot_of xs ys
unfolding dot_of
dot_reduced [] ys = refl
dot_reduced (x ∷ xs) [] = refl
dot_reduced (x ∷ xs) (y ∷ ys) = products_added (mul binary32 x y) xs ys
