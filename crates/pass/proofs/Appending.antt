-- A line put into the room behind other text.
use Rattle.std.proofs.Common.{◌≡◌, sym, ap, ◌∙◌, ℕ, ◌+◌, ◌-◌, ◌≤◌, List, [], ◌++◌, length, take, drop, arith}
use borrow.Rule.Slice.PartMut.{put_mid}
use Rattle.std.proofs.lemmas.List.{take_all, take-append-drop, length-take-le, length-drop, drop-append-le}
use Rattle.std.proofs.Math.ListN.{drop_of_length-le}
use lib.Seq.{drop-drop}
use mathlib.Core.List.{append_assoc, append-nil}

-- the room is the first n bytes of what is lent behind `at`; a text that it holds is put at its start
pub appended : (out text room part : List ℕ) (at n : ℕ) → at + n ≤ length out → length text ≤ n
    → room ≡ take n (take (length out - at) (drop at out))
    → part ≡ (text ++ drop (length text) room) ++ drop n (take (length out - at) (drop at out))
    → put_mid at (length out - at) out part ≡ take at out ++ text ++ drop (at + length text) out
appended out text room part at n fits short is_room is_part =
    let size : length (drop at out) ≡ length out - at = length-drop at out in
    let all : take (length out - at) (drop at out) ≡ drop at out = take_all (length out - at) (drop at out) (omega (arith, size)) in
    let in_room : length (take n (drop at out)) ≡ n = length-take-le n (drop at out) (omega (arith, size, fits)) in
    let rest : drop (length text) (take n (drop at out)) ++ drop n (drop at out) ≡ drop (length text) (drop at out) =
    sym (drop-append-le (length text) (take n (drop at out)) (drop n (drop at out)) (omega (arith, in_room, short))) ∙ ap (drop (length text)) (take-append-drop n (drop at out)) in
    let none : drop (length out - at) (drop at out) ≡ [] = drop_of_length-le (drop at out) (omega (arith, size)) in
    let behind : part ≡ text ++ drop (at + length text) out =
    is_part ∙ rw (is_room, all) (append_assoc text (drop (length text) (take n (drop at out))) (drop n (drop at out)) ∙ rw rest (ap (λ (l : List ℕ). text ++ l) (drop-drop (length text) at out))) in
    rw (none, append-nil, behind) (sym (append_assoc (take at out) text (drop (at + length text) out)))
