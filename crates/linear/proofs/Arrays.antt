-- Arrays that `from_fn` makes by a closure that computes h of the index, or that a loop writes.
use Rattle.std.proofs.Common.{◌≡◌, refl, sym, subst, ◌∙◌, ℕ, zero, suc, ◌+◌, ◌<◌, ◌≤◌, inl, inr, List, map, length, get_or, arith}
use denote.Param.Members.{Mut, Called}
use Rattle.std.specs.Array.{IsFromFnResult, IsFromFnResultFrom}
use Rattle.std.specs.List.{range_with_len}
use Rattle.std.proofs.Math.Nat.{eq-or-lt_of_le}
use Rattle.std.proofs.lemmas.List.{get_or-map, length-map}
use Rattle.std.proofs.lemmas.List.FromFn.{fill_by_all}

module _ {F X : Type 0} (g : Mut F (ℕ × Unit {0}) X) (h : ℕ → X) (f : F) (k : (i : ℕ) (x : X) (q : F) → Called g f (i, tt) x q → (q ≡ f) × (x ≡ h i)) where
  at_each : (p : F) (xs : List X) (i n : ℕ) (d : X) → p ≡ f → IsFromFnResultFrom g p xs i n → (j : ℕ) → i ≤ j → j < i + n → get_or xs j d ≡ h j
  at_each p xs i zero d e calls j low high = absurd (omega (arith, low, high))
  at_each p xs i (suc n) d e (q, x, is, call, calls) j low high =
      let here = k i x q (subst (λ w. Called g w (i, tt) x q) e call) in
      elim (eq-or-lt_of_le low) [
        | inl same ↦ subst (λ m. get_or xs m d ≡ h m) same (is.1 d ∙ here.1)
        | inr above ↦ at_each q xs (i + 1) n d here.0 calls j (omega (arith, above)) (omega (arith, high))
      ]

  -- element i is h of i
  pub made : (xs : List X) (n : ℕ) (d : X) → IsFromFnResult g f xs n → xs ≡ map h (range_with_len 0 n)
  made xs n d calls = fill_by_all h xs n d calls.long (λ i below. at_each f xs 0 n d refl calls.each i (omega arith) (omega (arith, below)))

-- the elements of xs in turn
pub mapped : {X Y : Type 0} (f : X → Y) (d : X) (xs : List X) (n : ℕ) → length xs ≡ n → map (λ i. f (get_or xs i d)) (range_with_len 0 n) ≡ map f xs
mapped f d xs n long =
    sym (fill_by_all (λ i. f (get_or xs i d)) (map f xs) n (f d) (length-map xs f ∙ long) (λ i below. get_or-map f xs i d (f d) (omega (arith, below, long))))

-- what a loop leaves that has written h of each of n indices
pub filled : {X : Type 0} {h : ℕ → X} {xs : List X} {n i : ℕ} (d : X) → length xs ≡ n → ((k : ℕ) → k < i → get_or xs k d ≡ h k) → n ≤ i → xs ≡ map h (range_with_len 0 n)
filled {h = h} {xs = xs} {n = n} d long each end = fill_by_all h xs n d long (λ k lt. each k (omega (arith, lt, end)))

-- and one that has written f of each element of xs
pub filled_from : {X Y : Type 0} {ys : List Y} {n i : ℕ} (f : X → Y) (d : X) (e : Y) (xs : List X) → length xs ≡ n → length ys ≡ n → ((k : ℕ) → k < i → get_or ys k e ≡ f (get_or xs k d)) → n ≤ i → ys ≡ map f xs
filled_from {n = n} f d e xs long long_too each end = filled e long_too each end ∙ mapped f d xs n long
