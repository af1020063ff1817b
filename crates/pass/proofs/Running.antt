-- What holds at each turn of the loop of `drive_all`, what a batch makes of it, and how the run ends.
use Prim.Native.Nat.{ℕ, ◌*◌, ◌+◌, ◌-◌, ◌/◌, ◌≤◌, ◌<◌}
use mathlib.Core.Path.{◌≡◌, refl, sym, ap, ◌∙◌, subst}
use mathlib.Core.Bool.{Bool, true, false}
use mathlib.Core.Logic.{◌⊎◌, inl, inr}
use Rattle.std.proofs.Math.Logic.{⊎_map}
use Rattle.std.proofs.Math.Nat.{eq-or-lt_of_le}
use mathlib.Core.List.{List, [], ◌++◌, append_assoc, append-nil}
use native.Mathlib.Omega.{arith}
use lib.Seq.{take-append_seam}
use lib.ListN.{length, take, drop, length-append, length-drop}
use Rattle.std.proofs.lemmas.List.{take-append-drop, length-take-le}
use Rattle.std.specs.Prelude.{Option, Some, None, IfSome}
use Rattle.std.specs.Io.KnownBytes.{Appends, Consumes, IsAtEnd}
use Rattle.std.proofs.KnownBytes.{Appends-nil, Appends-trans, Consumes-nil, Consumes-trans}
use Rattle.std.proofs.Transfers.{starts_with_of_append}
use Rattle.full_io.specs.Failed.{AppendsNotAll}
use Rattle.line_text.specs.Totals.{totals_text}
use Rattle.tick.specs.declared.tally.Totals.{Totals}
use Rattle.tick.specs.Tally.{tick_limit}
use Rattle.pass.specs.declared.pass.Pass.{Pass}
use Rattle.pass.specs.declared.pass.Pass.TheVariants.{Empty}
use Rattle.pass.specs.declared.batch.Written.{Written}
use Rattle.pass.specs.Pass.{totals_of, next_number}
use Rattle.pass.specs.Batch.{Batched, followed_by, batch_of, batch_into, whole_of, text_of, answer_of}
use Rattle.pass.specs.Run.{blocks_text, run_text, BreaksOff}
use Rattle.pass.proofs.Batches.{room_is_enough, batches_join, texts_join}
use Rattle.pass.proofs.Ticks.{left_less}

-- whole batches were read, none of their blocks is refused, p is the pass after them, and their lines are written
pub record Running (r₀ r w₀ w : Option (List ℕ)) (p : Pass) : Type 0 where
  pub bytes : List ℕ
  pub batches : ℕ
  pub whole : length bytes ≡ batches * 65536
  pub taken : Consumes r₀ r bytes
  pub stands : p ≡ (whole_of Empty bytes).pass
  pub accepted : (whole_of Empty bytes).over ≡ false
  pub put : Appends w₀ w (blocks_text bytes)

pub begin : (r w : Option (List ℕ)) → Running r r w w Empty
unfolding text_of batch_of
begin r w = record { bytes = []; batches = 0; whole = refl; taken = Consumes-nil r; stands = refl; accepted = refl; put = Appends-nil w }

-- a batch of bytes that was read and driven in pass p; it fills the buffer or ends the input
pub record ReadBatch (r r' : Option (List ℕ)) (p : Pass) (bytes : List ℕ) (q : Pass) (text : List ℕ) (refused : Bool) : Type 0 where
  pub took : Consumes r r' bytes
  pub few : length bytes ≤ 65536
  pub full : (length bytes ≡ 65536) ⊎ IsAtEnd r'
  pub stands : q ≡ (whole_of p bytes).pass
  pub lines : text ≡ text_of (whole_of p bytes).lines
  pub over : (whole_of p bytes).over ≡ refused

-- what `read_full` and `drive_batch` ensure: there is room for the lines of all 128 blocks
pub read_batch : {r r' : Option (List ℕ)} {p q : Pass} {w : Written} (n : ℕ) (buf before after : List ℕ)
    → length buf ≡ 65536 → 16384 ≤ length before → n ≤ length buf → Consumes r r' (take n buf) → (n < length buf → IsAtEnd r')
    → (w ≡ answer_of (batch_into before p (take n buf))) × (q ≡ (batch_into before p (take n buf)).pass)
    → after ≡ text_of (batch_into before p (take n buf)).lines ++ drop w.len before
    → ReadBatch r r' p (take n buf) q (take w.len after) w.refused
read_batch {r' = r'} {p = p} {w = w} n buf before after size room within took end value put =
    let bytes = take n buf in
    let long : length bytes ≡ n = length-take-le n buf within in
    let few : length bytes ≤ 65536 = omega arith in
    let all : batch_into before p bytes ≡ whole_of p bytes = room_is_enough (length before / 128) p bytes (omega arith) in
    let lines = text_of (batch_into before p bytes).lines in
    record {
      took = took;
      few = few;
      full = ⊎_map (λ (e : n ≡ length buf). long ∙ e ∙ size) end (eq-or-lt_of_le within);
      stands = value.1 ∙ ap (λ (t : Batched). t.pass) all;
      lines = rw (put, ap (λ (a : Written). a.len) value.0) (take-append_seam lines (drop (length lines) before)) ∙ ap (λ (t : Batched). text_of t.lines) all;
      over = ap (λ (t : Batched). t.over) (sym all) ∙ sym (ap (λ (a : Written). a.refused) value.0);
    }

-- ---- lines and last line

abbrev last_of : Pass → List ℕ → List ℕ
last_of p bytes = totals_text (totals_of (whole_of p bytes).pass)

-- the text of the bytes that a pass is still to drive
abbrev rest_of : Pass → List ℕ → List ℕ
rest_of p bytes = text_of (whole_of p bytes).lines ++ last_of p bytes

last_long : (t : Totals) → 0 < length (totals_text t)
last_long t = simp length-append (omega arith)

over_stays : (t rest : Batched) → t.over ≡ true → followed_by t rest ≡ t
over_stays t rest o = rw o refl

-- the lines of full or last bytes are a beginning, whatever is left behind them
lines_begin : (p : Pass) (bytes left : List ℕ) → (length bytes ≡ 65536) ⊎ (left ≡ [])
    → (more : List ℕ) × (text_of (whole_of p (bytes ++ left)).lines ≡ text_of (whole_of p bytes).lines ++ more)
lines_begin p bytes left (inl e) = go (whole_of p bytes).over refl
  where
    go : (o : Bool) → (whole_of p bytes).over ≡ o → (more : List ℕ) × (text_of (whole_of p (bytes ++ left)).lines ≡ text_of (whole_of p bytes).lines ++ more)
    go true o = ([], ap (λ (t : Batched). text_of t.lines) (sym (batches_join 128 p bytes left e) ∙ over_stays (whole_of p bytes) _ o) ∙ sym (append-nil _))
    go false o = (_, sym (texts_join 128 p bytes left e o))
lines_begin p bytes left (inr e) = ([], rw (e, append-nil, append-nil) refl)

-- where they end the run, what is left changes nothing
nothing_more : (p : Pass) (bytes left : List ℕ) → ((length bytes ≡ 65536) × ((whole_of p bytes).over ≡ true)) ⊎ (left ≡ [])
    → whole_of p (bytes ++ left) ≡ whole_of p bytes
nothing_more p bytes left (inl e) = sym (batches_join 128 p bytes left e.0) ∙ over_stays (whole_of p bytes) _ e.1
nothing_more p bytes left (inr e) = rw (e, append-nil) refl

-- a text cut within its front
cut_in : (k : ℕ) (all front more tail : List ℕ) → all ≡ front ++ more → all ++ tail ≡ take k front ++ (drop k front ++ (more ++ tail))
cut_in k all front more tail e =
    ap (λ (l : List ℕ). l ++ tail) e
    ∙ append_assoc front more tail
    ∙ ap (λ (l : List ℕ). l ++ (more ++ tail)) (sym (take-append-drop k front))
    ∙ append_assoc (take k front) (drop k front) (more ++ tail)

-- ---- the input, where it is known

-- what holds of the bytes that were taken and those that are left holds of the input
known : (r₀ r r' : Option (List ℕ)) (a b : List ℕ) (P : List ℕ → Type 0) → Consumes r₀ r a → Consumes r r' b
    → ((left : List ℕ) → r' ≡ Some left → P (a ++ (b ++ left))) → IfSome r₀ P
known None r r' a b P c d k = tt
known (Some x) None r' a b P c d k = absurd c
known (Some x) (Some y) None a b P c d k = absurd d
known (Some x) (Some y) (Some z) a b P c d k = rw (c, d) (k z refl)

none_left : (r : Option (List ℕ)) (left : List ℕ) → r ≡ Some left → IsAtEnd r → left ≡ []
none_left r left e h = subst IsAtEnd e h

module _ {r₀ r w₀ w : Option (List ℕ)} {p : Pass} (g : Running r₀ r w₀ w p) where
  whole_blocks : length g.bytes ≡ g.batches * 128 * 512
  whole_blocks = omega (arith, g.whole)

  -- what follows the bytes so far, in the pass after them
  joined : (c : List ℕ) → followed_by (whole_of Empty g.bytes) (whole_of p c) ≡ whole_of Empty (g.bytes ++ c)
  joined c = rw g.stands (batches_join (g.batches * 128) Empty g.bytes c whole_blocks)

  pass_from : (c : List ℕ) → (whole_of Empty (g.bytes ++ c)).pass ≡ (whole_of p c).pass
  pass_from c = ap (λ (t : Batched). t.pass) (sym (joined c)) ∙ rw g.accepted refl

  over_from : (c : List ℕ) → (whole_of Empty (g.bytes ++ c)).over ≡ (whole_of p c).over
  over_from c = ap (λ (t : Batched). t.over) (sym (joined c)) ∙ rw g.accepted refl

  lines_from : (c : List ℕ) → blocks_text (g.bytes ++ c) ≡ blocks_text g.bytes ++ text_of (whole_of p c).lines
  lines_from c = sym (texts_join (g.batches * 128) Empty g.bytes c whole_blocks g.accepted) ∙ rw g.stands refl

  run_from : (c : List ℕ) → run_text (g.bytes ++ c) ≡ blocks_text g.bytes ++ rest_of p c
  run_from c = rw (pass_from c, lines_from c) (append_assoc (blocks_text g.bytes) (text_of (whole_of p c).lines) (last_of p c))

  -- a run that breaks off: what was written behind the lines so far, and what is missing
  broken : (r' w' : Option (List ℕ)) (b left more missing : List ℕ) → r' ≡ Some left → Consumes r r' b → length b ≤ 65536
      → Appends w w' more → rest_of p (b ++ left) ≡ more ++ missing → 0 < length missing → BreaksOff (g.bytes ++ (b ++ left)) r' w₀ w'
  broken r' w' b left more missing e took few put cut some =
      let lines = blocks_text g.bytes in
      let whole : run_text (g.bytes ++ (b ++ left)) ≡ (lines ++ more) ++ missing =
      run_from (b ++ left) ∙ ap (λ (l : List ℕ). lines ++ l) cut ∙ sym (append_assoc lines more missing) in
      record {
        earlier = g.bytes;
        batches = g.batches;
        whole = g.whole;
        last = b;
        taken = rw e (sym (append_assoc g.bytes b left));
        few = few;
        text = lines ++ more;
        wrote = Appends-trans _ _ _ _ _ g.put put;
        beginning = starts_with_of_append _ (lines ++ more) missing whole;
        not_all = rw (whole, length-append (lines ++ more) missing) (omega arith);
        at_least = starts_with_of_append _ lines more refl;
      }

  -- the read failed
  pub read_failed : (r' : Option (List ℕ)) (b : List ℕ) → Consumes r r' b → length b ≤ 65536 → IfSome r₀ (λ input. BreaksOff input r' w₀ w)
  read_failed r' b took few =
      known r₀ r r' g.bytes b _ g.taken took (λ left e.
      let some : 0 < length (rest_of p (b ++ left)) = rw length-append (omega (arith, last_long (totals_of (whole_of p (b ++ left)).pass))) in
      broken r' w b left [] (rest_of p (b ++ left)) e took few (Appends-nil w) refl some)

  module _ {r' : Option (List ℕ)} {b : List ℕ} {q : Pass} {text : List ℕ} {refused : Bool} (t : ReadBatch r r' p b q text refused) (w' : Option (List ℕ)) where
    -- the write of the batch's lines failed
    pub write_failed : AppendsNotAll w w' text → IfSome r₀ (λ input. BreaksOff input r' w₀ w')
    write_failed f =
        known r₀ r r' g.bytes b _ g.taken t.took (λ left e.
        let begun = lines_begin p b left (⊎_map (λ (x : length b ≡ 65536). x) (none_left r' left e) t.full) in
        let some : 0 < length (drop f.0 text ++ (begun.0 ++ last_of p (b ++ left))) = rw (length-append, length-drop) (omega (arith, f.1)) in
        broken r' w' b left (take f.0 text) _ e t.took t.few f.2 (cut_in f.0 _ text begun.0 (last_of p (b ++ left)) (rw t.lines begun.1)) some)

    module _ (put : Appends w w' text) where
      -- the run goes on
      pub goes_on : length b ≡ 65536 → refused ≡ false → Running r₀ r' w₀ w' q
      goes_on full o = record {
        bytes = g.bytes ++ b;
        batches = g.batches + 1;
        whole = simp length-append (omega (arith, g.whole, full));
        taken = Consumes-trans _ _ _ _ _ g.taken t.took;
        stands = t.stands ∙ sym (pass_from b);
        accepted = over_from b ∙ t.over ∙ o;
        put = subst (Appends w₀ w') (rw t.lines (sym (lines_from b))) (Appends-trans _ _ _ _ _ g.put put);
      }

      pub fewer_left : length b ≡ 65536 → refused ≡ false → tick_limit - next_number q < tick_limit - next_number p
      fewer_left full o = rw t.stands (left_less p b (omega (arith, full)) (t.over ∙ o))

      -- the run ends, by a refusal or with the input
      module _ (end : (refused ≡ true) ⊎ IsAtEnd r') where
        ended : (left : List ℕ) → r' ≡ Some left → whole_of p (b ++ left) ≡ whole_of p b
        ended left e = nothing_more p b left (go t.full end)
          where
            go : (length b ≡ 65536) ⊎ IsAtEnd r' → (refused ≡ true) ⊎ IsAtEnd r' → ((length b ≡ 65536) × ((whole_of p b).over ≡ true)) ⊎ (left ≡ [])
            go (inl full) (inl o) = inl (full, t.over ∙ o)
            go (inl full) (inr h) = inr (none_left r' left e h)
            go (inr h) o = inr (none_left r' left e h)

        all_of : (left : List ℕ) → r' ≡ Some left → rest_of p (b ++ left) ≡ text ++ totals_text (totals_of q)
        all_of left e = ap (λ (s : Batched). text_of s.lines ++ totals_text (totals_of s.pass)) (ended left e) ∙ rw (t.lines, t.stands) refl

        -- the write of the last line failed
        pub last_failed : (w'' : Option (List ℕ)) → AppendsNotAll w' w'' (totals_text (totals_of q)) → IfSome r₀ (λ input. BreaksOff input r' w₀ w'')
        last_failed w'' f =
            known r₀ r r' g.bytes b _ g.taken t.took (λ left e.
            let last = totals_text (totals_of q) in
            let cut = all_of left e ∙ ap (λ (l : List ℕ). text ++ l) (sym (take-append-drop f.0 last)) ∙ sym (append_assoc text (take f.0 last) (drop f.0 last)) in
            let some : 0 < length (drop f.0 last) = rw length-drop (omega (arith, f.1)) in
            broken r' w'' b left (text ++ take f.0 last) (drop f.0 last) e t.took t.few (Appends-trans _ _ _ _ _ put f.2) cut some)

        pub wrote_all : (w'' : Option (List ℕ)) → Appends w' w'' (totals_text (totals_of q)) → IfSome r₀ (λ input. Appends w₀ w'' (run_text input))
        wrote_all w'' put_last =
            known r₀ r r' g.bytes b _ g.taken t.took (λ left e.
            subst (Appends w₀ w'') (sym (run_from (b ++ left) ∙ ap (λ (l : List ℕ). blocks_text g.bytes ++ l) (all_of left e)))
            (Appends-trans _ _ _ _ _ g.put (Appends-trans _ _ _ _ _ put put_last)))

        pub read_all : IfSome r₀ (λ input. (whole_of Empty input).over ≡ false → IsAtEnd r')
        read_all = known r₀ r r' g.bytes b _ g.taken t.took (λ left e o. go left e o end)
          where
            go : (left : List ℕ) → r' ≡ Some left → (whole_of Empty (g.bytes ++ (b ++ left))).over ≡ false → (refused ≡ true) ⊎ IsAtEnd r' → IsAtEnd r'
            go left e o (inl h) =
                let z : true ≡ false = sym (over_from (b ++ left) ∙ ap (λ (s : Batched). s.over) (ended left e) ∙ t.over ∙ h) ∙ o in
                cc
            go left e o (inr h) = h

-- the last line, as `write_last` put it
pub last_text : (p : Pass) (n : ℕ) (before after : List ℕ) → n ≡ length (totals_text (totals_of p))
    → after ≡ totals_text (totals_of p) ++ drop (length (totals_text (totals_of p))) before → take n after ≡ totals_text (totals_of p)
last_text p n before after e put = rw (e, put) (take-append_seam (totals_text (totals_of p)) _)
