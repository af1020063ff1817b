-- The loop over the axes: what is put of those from axis i on.
use Rattle.std.proofs.Common.{◌≡◌, refl, ℕ, ◌+◌, ◌<◌, ◌≤◌, List, length, get_or, drop, add-one}
use Rattle.std.proofs.Math.Seq.{drop-cons}
use Rattle.std.proofs.lemmas.List.{drop_all}
use lib.Ieee.{Float}
use Rattle.controllers.specs.declared.pid.AxisMemory.{AxisMemory}
use Rattle.replay_lists.specs.Words.{axis_put, axes_put}

pub put_next : (n i : ℕ) (os : List Float) (cs : List AxisMemory) (ws : List ℕ) (o : Float) (c : AxisMemory) → i < length os → i < length cs
    → axes_put n (i + 1) (drop (i + 1) os) (drop (i + 1) cs) (axis_put ws n i (get_or os i o) (get_or cs i c)) ≡ axes_put n i (drop i os) (drop i cs) ws
put_next n i os cs ws o c h k = rw (add-one, drop-cons os i o h, drop-cons cs i c k) refl

pub put_done : (n i : ℕ) (os : List Float) (cs : List AxisMemory) (ws : List ℕ) → length os ≤ i → axes_put n i (drop i os) cs ws ≡ ws
put_done n i os cs ws h = rw (drop_all i os h) refl
