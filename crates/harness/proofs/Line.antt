-- What is put in pieces, one behind the other, is the line, and it is the line by its digits too.
use Rattle.std.proofs.Common.{◌≡◌, refl, sym, subst, ◌∙◌, ap, ℕ, ◌^◌, ◌<◌, Bool, List, [], ◌∷◌, ◌++◌, length, take, decimal, append_assoc, take_at}
use Rattle.harness.specs.declared.tally.Tally.{Tally}
use Rattle.harness.specs.Line.{IsLine, line_text, space, mismatches_word, ending}
use Rattle.harness.specs.Puts.{Puts}
use Rattle.harness.proofs.Digits.{is_decimal}
use Rattle.harness.proofs.Putting.{and_then}

module _ {s s₁ s₂ s₃ s₄ s₅ : List ℕ} {r₁ r₂ r₃ r₄ r₅ : ℕ} where
  pub pieces :
      (t : Tally) (cut : Bool) →
      t.cut_short ≡ cut →
      Puts s 0 space s₁ r₁ →
      Puts s₁ r₁ (decimal t.records) s₂ r₂ →
      Puts s₂ r₂ mismatches_word s₃ r₃ →
      Puts s₃ r₃ (decimal t.mismatches) s₄ r₄ →
      Puts s₄ r₄ (ending cut ++ (10 ∷ [])) s₅ r₅ →
      Puts s 0 (line_text t) s₅ r₅
  unfolding line_text
  pieces t cut is blank records words mismatches end =
      let before = and_then (and_then (and_then blank records) words) mismatches in
      let front = space ++ decimal t.records ++ mismatches_word ++ decimal t.mismatches in
      rw is (subst (λ l. Puts s 0 l s₅ r₅) (sym (append_assoc front (ending cut) (10 ∷ []))) (and_then before end))

is_line : (t : Tally) → t.records < 2 ^ 64 → t.mismatches < 2 ^ 64 → IsLine t (line_text t)
unfolding line_text
is_line t r m =
    record { first = decimal t.records; second = decimal t.mismatches; records = is_decimal t.records r; mismatches = is_decimal t.mismatches m; is = refl }

pub line_put : (t : Tally) (before after : List ℕ) (end : ℕ) → t.records < 2 ^ 64 → t.mismatches < 2 ^ 64 → Puts before 0 (line_text t) after end → IsLine t (take end after)
line_put t before after end r m p = subst (IsLine t) (sym p.front) (is_line t r m)

-- the first bytes, as many as the text has, are the text
pub front : (text rest out : List ℕ) (n : ℕ) → out ≡ text ++ rest → n ≡ length text → take n out ≡ text
front text rest out n is long = ap (take n) is ∙ take_at text rest n (sym long)
