-- What holds at each turn of the loop of `drive_batch`: some blocks are driven, and what is left of the bytes is the rest of the batch.
use Prim.Native.Nat.{ℕ, zero, suc, ◌+◌, ◌*◌, ◌/◌, ◌≤◌, ◌<◌, min}
use mathlib.Core.Path.{◌≡◌, refl, sym, ap, ◌∙◌}
use mathlib.Core.Bool.{Bool, true, false}
use mathlib.Core.List.{List, ◌++◌, append-nil}
use native.Mathlib.Omega.{arith}
use lib.ListN.{length, take, drop, length-append}
use lib.Seq.{take-append_seam, drop-append_seam, drop-append-add, drop-drop}
use Rattle.std.proofs.lemmas.List.{take_min, drop_min, nil_from_length}
use Rattle.line_text.specs.Text.{line_text}
use Rattle.pass.specs.declared.pass.Pass.{Pass}
use Rattle.pass.specs.Pass.{driven}
use Rattle.pass.specs.declared.batch.Written.{Written}
use Rattle.pass.specs.Batch.{is_refused, first_block, behind_first, Batched, nothing, one_block, followed_by, batch_of, batch_into, text_of, answer_of}
use Rattle.pass.proofs.Batches.{followed_by-nothing, followed_by_assoc, step, text_of_append}

-- q, w and out are pass, answer and text of the blocks so far; up to n blocks more, of the bytes that are left, make the batch
pub record Going (p : Pass) (bytes out₀ : List ℕ) (n : ℕ) (left : List ℕ) (q : Pass) (w : Written) (out : List ℕ) : Type 0 where
  pub so_far : Batched
  pub stands : q ≡ so_far.pass
  pub answer : w ≡ answer_of so_far
  pub text : out ≡ text_of so_far.lines ++ drop w.len out₀
  pub whole : batch_into out₀ p bytes ≡ followed_by so_far (batch_of n so_far.pass left)
  pub room : w.len + n * 128 ≤ length out₀
  pub same : length out ≡ length out₀

pub begin : (p : Pass) (bytes out : List ℕ) → Going p bytes out (length out / 128) bytes p (record { len = 0; refused = false }) out
unfolding text_of
begin p bytes out = record { so_far = nothing p; stands = refl; answer = refl; text = refl; whole = refl; room = omega arith; same = refl }

-- ---- a turn

-- the piece that is cut off the front is the first block
module _ (block others : List ℕ) (e : length block ≡ min 512 (length (block ++ others))) where
  first_is : first_block (block ++ others) ≡ block
  first_is = sym (take_min 512 (block ++ others)) ∙ rw (← e) (take-append_seam block others)

  behind_is : behind_first (block ++ others) ≡ others
  behind_is = sym (drop_min 512 (block ++ others)) ∙ rw (← e) (drop-append_seam block others)

-- the text of a block's line, and the answer with it behind n bytes
unfoldable block_text : Pass → List ℕ → List ℕ
block_text p block = line_text (driven p block).line

unfoldable next_of : Pass → ℕ → List ℕ → Written
next_of p n block = record { len = n + length (block_text p block); refused = is_refused (driven p block).line }

-- after an accepted block, one more
module _ (t : Batched) (block out out₀ : List ℕ) (o : t.over ≡ false) where
  text_more : text_of (followed_by t (one_block t.pass block)).lines ≡ text_of t.lines ++ block_text t.pass block
  unfolding text_of block_text
  text_more = rw o (text_of_append t.lines (one_block t.pass block).lines ∙ rw append-nil refl)

  answer_more : next_of t.pass (answer_of t).len block ≡ answer_of (followed_by t (one_block t.pass block))
  unfolding next_of
  answer_more = rw (text_more, o, length-append) refl

  out_more : out ≡ text_of t.lines ++ drop (answer_of t).len out₀
      → take (answer_of t).len out ++ block_text t.pass block ++ drop (next_of t.pass (answer_of t).len block).len out
      ≡ text_of (followed_by t (one_block t.pass block)).lines ++ drop (next_of t.pass (answer_of t).len block).len out₀
  unfolding next_of
  out_more e =
      let s = text_of t.lines in
      let n = length (block_text t.pass block) in
      rw (text_more, e, take-append_seam s (drop (length s) out₀), drop-append-add s (drop (length s) out₀) n, drop-drop n (length s) out₀) refl

over_pass : (t : Batched) (block : List ℕ) → t.over ≡ false → (driven t.pass block).pass ≡ (followed_by t (one_block t.pass block)).pass
over_pass t block o = rw o refl

none : (n : ℕ) (p : Pass) (bytes : List ℕ) → (0 < n → length bytes ≡ 0) → batch_of n p bytes ≡ nothing p
unfolding batch_of
none zero p bytes h = refl
none (suc n) p bytes h = rw (nil_from_length bytes (h (omega arith))) refl

module _ {p : Pass} {bytes out₀ out left : List ℕ} {n : ℕ} {q : Pass} {w : Written} (g : Going p bytes out₀ n left q w out) where
  -- the blocks so far are over where the answer says so
  over_is : (o : Bool) → w.refused ≡ o → g.so_far.over ≡ o
  over_is o e = sym (ap (λ (a : Written). a.refused) g.answer) ∙ e

  pub turn : (m : ℕ) (block others : List ℕ) (d : Pass) (r : Written) (after : List ℕ) → w.refused ≡ false
      → m + 1 ≡ n → left ≡ block ++ others → length block ≡ min 512 (length left) → 0 < length left
      → d ≡ (driven q block).pass → r ≡ record { len = w.len + length (line_text (driven q block).line); refused = is_refused (driven q block).line }
      → after ≡ take w.len out ++ line_text (driven q block).line ++ drop (w.len + length (line_text (driven q block).line)) out
      → r.len ≤ w.len + 128 → length after ≡ length out → Going p bytes out₀ m others d r after
  turn m block others d r after f k l e some is_d a u s z =
      let t = g.so_far in
      let o = over_is false f in
      let count : n ≡ suc m = omega arith in
      let more : r ≡ next_of q w.len block = unfold next_of block_text in a in
      let first : first_block left ≡ block = rw l (first_is block others (rw l at e)) in
      let others_are : behind_first left ≡ others = rw l (behind_is block others (rw l at e)) in
      let answer : r ≡ answer_of (followed_by t (one_block t.pass block)) =
      more ∙ ap (λ (v : Pass). next_of v w.len block) g.stands ∙ ap (λ (v : Written). next_of t.pass v.len block) g.answer ∙ answer_more t block out out₀ o in
      let next : batch_of n t.pass left ≡ followed_by (one_block t.pass block) (batch_of m (one_block t.pass block).pass others) =
      ap (λ (j : ℕ). batch_of j t.pass left) count ∙ step m t.pass left some ∙ rw (first, others_are) refl in
      let put : after ≡ take w.len out ++ block_text q block ++ drop (next_of q w.len block).len out = unfold next_of block_text in u in
      record {
        so_far = followed_by t (one_block t.pass block);
        stands = is_d ∙ ap (λ (v : Pass). (driven v block).pass) g.stands ∙ over_pass t block o;
        answer = answer;
        text = put ∙ rw (more, g.stands, g.answer) (out_more t block out out₀ o (g.text ∙ rw g.answer refl));
        whole = g.whole ∙ ap (followed_by t) next ∙ followed_by_assoc t (one_block t.pass block) (λ (v : Pass). batch_of m v others);
        room = omega arith;
        same = z ∙ g.same;
      }

  -- ---- the end

  abbrev pub Ended : Type 0
  Ended = (w ≡ answer_of (batch_into out₀ p bytes)) × (q ≡ (batch_into out₀ p bytes).pass) × (out ≡ text_of (batch_into out₀ p bytes).lines ++ drop w.len out₀)

  ended : batch_into out₀ p bytes ≡ g.so_far → Ended
  ended e = rw e (g.answer, g.stands, g.text)

  -- a refusal
  pub stopped : w.refused ≡ true → Ended
  stopped o = ended (g.whole ∙ rw (over_is true o) refl)

  -- no room or no bytes left
  pub emptied : (0 < n → length left ≡ 0) → Ended
  emptied e = ended (g.whole ∙ ap (followed_by g.so_far) (none n g.so_far.pass left e) ∙ followed_by-nothing g.so_far)
