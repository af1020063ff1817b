-- What `specs/BatchLaws.antt` states of batches.
use Prim.Native.Nat.{ℕ, zero, suc, ◌+◌, ◌*◌, ◌≤◌, ◌<◌}
use mathlib.Core.Path.{◌≡◌, refl, sym, ap, ◌∙◌}
use mathlib.Core.Bool.{Bool, true, false}
use Rattle.std.specs.Prelude.{if◌then◌else◌}
use mathlib.Core.List.{List, [], ◌∷◌, ◌++◌, append_assoc, append-nil, flatten}
use native.Mathlib.Nat.{zero-add, suc-add, add_comm, not-suc-le-zero}
use native.Mathlib.Omega.{arith}
use lib.ListN.{length, take, drop, length-append, length-drop, drop_of_length-le}
use lib.Seq.{take-nil, take_all, take-add, drop-nil, drop-drop, drop_at, take-append-le, drop-append-le}
use Rattle.line_text.specs.declared.line.Line.{Line}
use Rattle.line_text.specs.Text.{line_text}
use Rattle.pass.specs.declared.pass.Pass.{Pass}
use Rattle.pass.specs.Pass.{driven}
use Rattle.pass.specs.Batch.{is_refused}
use Rattle.pass.specs.Batch.{first_block, behind_first, Batched, nothing, one_block, followed_by, batch_of, whole_of, text_of}
use Rattle.pass.specs.BatchLaws.{RoomIsEnough, BatchesJoin, TextsJoin, NoByteLost}

-- ---- one behind the other

pub followed_by-nothing : (t : Batched) → followed_by t (nothing t.pass) ≡ t
followed_by-nothing t = go t.blocks t.lines t.over
  where
    go : (bs : List (List ℕ)) (ls : List Line) (o : Bool)
        → followed_by (record { blocks = bs; lines = ls; pass = t.pass; over = o }) (nothing t.pass) ≡ record { blocks = bs; lines = ls; pass = t.pass; over = o }
    go bs ls true = refl
    go bs ls false = rw (append-nil bs, append-nil ls)

pub followed_by_assoc : (s t : Batched) (f : Pass → Batched) → followed_by s (followed_by t (f t.pass)) ≡ followed_by (followed_by s t) (f (followed_by s t).pass)
followed_by_assoc s t f = go s.over t.over
  where
    go : (o u : Bool)
        → (let s' : Batched = record { blocks = s.blocks; lines = s.lines; pass = s.pass; over = o } in
        let t' : Batched = record { blocks = t.blocks; lines = t.lines; pass = t.pass; over = u } in
        followed_by s' (followed_by t' (f t.pass)) ≡ followed_by (followed_by s' t') (f (followed_by s' t').pass))
    go true u = refl
    go false true = refl
    go false false = rw (append_assoc s.blocks t.blocks (f t.pass).blocks, append_assoc s.lines t.lines (f t.pass).lines)

-- ---- batches

pub none_left : (m : ℕ) (p : Pass) → batch_of m p [] ≡ nothing p
unfolding batch_of
none_left zero p = refl
none_left (suc m) p = refl

pub step : (n : ℕ) (p : Pass) (bytes : List ℕ) → 0 < length bytes
    → batch_of (suc n) p bytes ≡ followed_by (one_block p (first_block bytes)) (batch_of n (driven p (first_block bytes)).pass (behind_first bytes))
unfolding batch_of
step n p [] h = absurd (not-suc-le-zero h)
step n p (b ∷ bytes) h = refl

behind : (n : ℕ) (bytes : List ℕ) → drop (n * 512) (behind_first bytes) ≡ drop (suc n * 512) bytes
behind n bytes = let e : 512 + n * 512 ≡ suc n * 512 = omega arith in drop-drop (n * 512) 512 bytes ∙ ap (λ (k : ℕ). drop k bytes) e

-- n blocks, and then m of the bytes that are left
split : (n m : ℕ) (p : Pass) (bytes : List ℕ) → batch_of (n + m) p bytes ≡ followed_by (batch_of n p bytes) (batch_of m (batch_of n p bytes).pass (drop (n * 512) bytes))
unfolding batch_of
split zero m p bytes = ap (λ (k : ℕ). batch_of k p bytes) (zero-add m)
split (suc n) m p [] = ap (λ (k : ℕ). batch_of k p []) (suc-add n m) ∙ sym (ap (λ (l : List ℕ). followed_by (nothing p) (batch_of m p l)) (drop-nil (suc n * 512)) ∙ ap (followed_by (nothing p)) (none_left m p))
split (suc n) m p (b ∷ bytes) =
    let l : List ℕ = b ∷ bytes in
    let q : Pass = (driven p (first_block l)).pass in
    let t : Batched = batch_of n q (behind_first l) in
    ap (λ (k : ℕ). batch_of k p l) (suc-add n m)
    ∙ ap (followed_by (one_block p (first_block l))) (split n m q (behind_first l))
    ∙ followed_by_assoc (one_block p (first_block l)) t (λ (s : Pass). batch_of m s (drop (n * 512) (behind_first l)))
    ∙ ap (λ (r : List ℕ). followed_by (batch_of (suc n) p l) (batch_of m (batch_of (suc n) p l).pass r)) (behind n l)

-- with no bytes left, room for more blocks changes nothing
stays : (n m : ℕ) (p : Pass) (bytes : List ℕ) → drop (n * 512) bytes ≡ [] → batch_of (n + m) p bytes ≡ batch_of n p bytes
stays n m p bytes e = split n m p bytes ∙ rw (e, none_left) (followed_by-nothing (batch_of n p bytes))

-- the bytes behind n whole blocks are not seen by n blocks
prefix : (n : ℕ) (p : Pass) (a b : List ℕ) → n * 512 ≤ length a → batch_of n p (a ++ b) ≡ batch_of n p a
prefix zero p a b h = unfold batch_of in refl
prefix (suc n) p a b h =
    let first : first_block (a ++ b) ≡ first_block a = take-append-le 512 a b (omega arith) in
    let others : behind_first (a ++ b) ≡ behind_first a ++ b = drop-append-le 512 a b (omega arith) in
    let left : n * 512 ≤ length (behind_first a) = simp length-drop (omega arith) in
    let some : 0 < length (a ++ b) = simp length-append (omega arith) in
    step n p (a ++ b) some
    ∙ rw (first, others) (ap (followed_by (one_block p (first_block a))) (prefix n (driven p (first_block a)).pass (behind_first a) b left))
    ∙ sym (step n p a (omega arith))

pub room_is_enough : RoomIsEnough
room_is_enough n p bytes h =
    let all : length bytes ≤ length bytes * 512 = omega arith in
    sym (stays n (length bytes) p bytes (drop_of_length-le bytes h))
    ∙ ap (λ (k : ℕ). batch_of k p bytes) (add_comm n (length bytes))
    ∙ stays (length bytes) n p bytes (drop_of_length-le bytes all)

pub batches_join : BatchesJoin
batches_join n p a b e = sym (
    sym (room_is_enough (n + length b) p (a ++ b) (simp length-append (omega (arith, e))))
    ∙ split n (length b) p (a ++ b)
    ∙ rw (drop_at a b (n * 512) e, prefix n p a b (omega (arith, e)), room_is_enough n p a (omega (arith, e)))
    (ap (followed_by (whole_of p a)) (room_is_enough (length b) (whole_of p a).pass b (omega arith)))
    )

-- ---- text

pub text_of_append : (a b : List Line) → text_of (a ++ b) ≡ text_of a ++ text_of b
unfolding text_of
text_of_append [] b = refl
text_of_append (l ∷ ls) b = ap (λ (t : List ℕ). line_text l ++ t) (text_of_append ls b) ∙ sym (append_assoc (line_text l) (text_of ls) (text_of b))

followed_by_lines : (t rest : Batched) → t.over ≡ false → (followed_by t rest).lines ≡ t.lines ++ rest.lines
followed_by_lines t rest o = rw o refl

pub texts_join : TextsJoin
texts_join n p a b e o =
    let t = whole_of p a in
    let rest = whole_of t.pass b in
    sym (text_of_append t.lines rest.lines) ∙ ap text_of (sym (followed_by_lines t rest o) ∙ ap (λ (u : Batched). u.lines) (batches_join n p a b e))

-- ---- the bytes

-- a block that was not refused, and what follows it
flatten_on : (p : Pass) (block others : List ℕ) (rest : Batched) → (rest.over ≡ false → flatten rest.blocks ≡ others)
    → (followed_by (one_block p block) rest).over ≡ false → flatten (followed_by (one_block p block) rest).blocks ≡ block ++ others
flatten_on p block others rest k = go (is_refused (driven p block).line) refl
  where
    go : (o : Bool) → is_refused (driven p block).line ≡ o
        → (let t : Batched = if o then one_block p block else record rest { blocks = block ∷ rest.blocks; lines = (driven p block).line ∷ rest.lines } in
        t.over ≡ false → flatten t.blocks ≡ block ++ others)
    go true e f = let z : true ≡ false = sym e ∙ f in cc
    go false e f = unfold flatten in ap (λ (l : List ℕ). block ++ l) (k f)

front : (n : ℕ) (bytes : List ℕ) → first_block bytes ++ take (n * 512) (behind_first bytes) ≡ take (suc n * 512) bytes
front n bytes = let e : 512 + n * 512 ≡ suc n * 512 = omega arith in sym (take-add 512 (n * 512) bytes) ∙ ap (λ (k : ℕ). take k bytes) e

all_driven : (n : ℕ) (p : Pass) (bytes : List ℕ) → (batch_of n p bytes).over ≡ false → flatten (batch_of n p bytes).blocks ≡ take (n * 512) bytes
unfolding batch_of flatten
all_driven zero p bytes f = refl
all_driven (suc n) p [] f = sym (take-nil (suc n * 512))
all_driven (suc n) p (b ∷ bytes) f =
    let l : List ℕ = b ∷ bytes in
    flatten_on p (first_block l) (take (n * 512) (behind_first l)) _ (all_driven n (driven p (first_block l)).pass (behind_first l)) f ∙ front n l

pub no_byte_lost : NoByteLost
no_byte_lost p bytes f =
    let all : length bytes ≤ length bytes * 512 = omega arith in
    all_driven (length bytes) p bytes f ∙ take_all (length bytes * 512) bytes all
