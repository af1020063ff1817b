-- A list whose every entry is f of another list's, by the law of `na`, which asks for an element where there is none.
use Rattle.std.proofs.Common.{◌≡◌, refl, ℕ, ◌<◌, List, [], ◌∷◌, length, get_or, map, arith}
use Rattle.std.proofs.lemmas.List.{nil_from_length}
use Rattle.linear.proofs.Arrays.{filled_from}

pub mapped : {A B : Type 0} (f : A → B) (xs : List A) (ys : List B)
    → length ys ≡ length xs → ((k : ℕ) (d : A) (e : B) → k < length xs → get_or ys k e ≡ f (get_or xs k d)) → ys ≡ map f xs
mapped f [] ys long each = nil_from_length ys long
mapped f (x ∷ xs) ys long each = filled_from {i = length (x ∷ xs)} f x (f x) (x ∷ xs) refl long (λ k lt. each k x (f x) lt) (omega arith)
