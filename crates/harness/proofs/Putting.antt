-- What is put into an array.
use Prim.Native.Nat.{ℕ, ◌+◌, ◌-◌, ◌≤◌}
use mathlib.Core.Path.{◌≡◌, refl, sym, ap, ◌∙◌}
use mathlib.Core.List.{List, ◌++◌, append_assoc}
use native.Mathlib.Omega.{arith}
use lib.ListN.{length, take, drop, length-append}
use lib.Seq.{drop-drop}
use borrow.Rule.Slice.PartMut.{put_mid}
use Rattle.std.proofs.lemmas.List.{take-append-drop}
use Rattle.std.proofs.lemmas.Slice.{take-put_mid, drop-put_mid}
use Rattle.harness.specs.Puts.{Puts}

-- k bytes written from `at` on
pub put_is : (before t part : List ℕ) (at k : ℕ) → at + k ≤ length before → part ≡ t → k ≡ length t → Puts before at t (put_mid at (at + k - at) before part) (at + k)
put_is before t part at k room same size =
    let size_too : length part ≡ k = ap length same ∙ sym size in
    record {
      long = ap (λ (n : ℕ). at + n) size;
      front = take-put_mid at (at + k - at) before part (at + k) (omega (arith, size_too)) (omega (arith, room)) ∙ ap (λ (l : List ℕ). take at before ++ l) same;
      behind = drop-put_mid at (at + k - at) before part (at + k) (omega arith) (omega (arith, room)) (omega (arith, size_too));
    }

-- two texts put one behind the other are put as their `++`
module _ {before between after : List ℕ} {at mid end : ℕ} {s t : List ℕ} where
  pub and_then : Puts before at s between mid → Puts between mid t after end → Puts before at (s ++ t) after end
  and_then p q =
      let cut : (xs : List ℕ) → drop end xs ≡ drop (length t) (drop mid xs) = λ xs. ap (λ (k : ℕ). drop k xs) q.long ∙ sym (drop-drop (length t) mid xs) in
      record {
        long = simp length-append (omega (arith, p.long, q.long));
        front = q.front ∙ ap (λ (l : List ℕ). l ++ t) p.front ∙ append_assoc (take at before) s t;
        behind = q.behind ∙ cut between ∙ ap (drop (length t)) p.behind ∙ sym (cut before);
      }

-- a text at the start
pub whole : (before after : List ℕ) (end : ℕ) (t : List ℕ) → Puts before 0 t after end → after ≡ t ++ drop (length t) before
whole before after end t p =
    let long : end ≡ length t = omega (arith, p.long) in
    sym (take-append-drop end after) ∙ rw (p.front, p.behind, long) refl
