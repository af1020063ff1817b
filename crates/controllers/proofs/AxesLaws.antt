-- The controller of any number of axes: what an axis of it answers and remembers, of one call and of any list of them.
use Rattle.std.proofs.Common.{◌≡◌, ◌∙◌, sym, ap, subst, refl, ℕ, zero, suc, ◌<◌, List, [], ◌∷◌, map, replicate, Some, arith}
use Rattle.std.specs.Prelude.{slice_get, IfSome}
use Rattle.std.specs.Option.{option_map}
use Rattle.std.proofs.lemmas.Option.{none-some, same_Some, slice_get-get_or, slice_get-map}
use Rattle.std.proofs.lemmas.List.{get_or-replicate, length-replicate}
use Rattle.std.proofs.lemmas.List.Elements.{All-head, All-tail}
use lib.Ieee.{Float, nan}
use Rattle.linear.specs.Vector.{zero_float}
use Rattle.controllers.specs.declared.pid.PidSettings.{PidSettings}
use Rattle.controllers.specs.declared.pid.AxisMemory.{AxisMemory}
use Rattle.controllers.specs.declared.pid.PidMemory.{PidMemory}
use Rattle.controllers.specs.Axis.{AxisAnswer, anti_jitter, limited, no_memory}
use Rattle.controllers.specs.Axes.{Ask, calculate, calculate_with_derivative, answer, asks, asks_with_derivative, answers, ask, reset}
use Rattle.controllers.specs.PidAxes.{PidAnswer, joined, calculated, calculated_with_derivative, new_memory, answered, called, after_calls}
use Rattle.controllers.specs.PidLaws.{HasEntries, own_ask, AxesRememberApart, AxesAnswerApart, EnclosesZero, Bounded, CallBoundsIntegral, IntegralIsBounded, NewIntegralIsBounded, Inside, OutputsAreLimited, without_limits, NanIsLowerLimit, ResetIsNew, error_of, gains_only, OutputIsScaledBelow, OutputStaysFrom}
use Rattle.controllers.proofs.Entries.{answer_own, ask_at, asks_length, derivative_at, derivatives_length}
use Rattle.controllers.proofs.AxisLaws.{answer_bounded, answer_inside, answer_limited, answer_gains, anti_jitter_below, anti_jitter_from}
use Rattle.ieee754.proofs.ClampLaws.{clamp_nan}

-- ---- one call

-- the parts of the axes
abbrev parts_of : Ask (List Float) → List (Ask Float)
parts_of (calculate s v dt) = asks s v dt
parts_of (calculate_with_derivative s v d dt) = asks_with_derivative s v d dt

answered_joined : {n : ℕ} (asked : Ask (List Float)) (cs : List PidSettings) (m : PidMemory n) → answered asked cs m ≡ joined (answers (parts_of asked) cs m.axes)
unfolding calculated calculated_with_derivative
answered_joined (calculate s v dt) cs m = refl
answered_joined (calculate_with_derivative s v d dt) cs m = refl

-- the part at i is the axis's own
own_at : (n : ℕ) (asked : Ask (List Float)) (i : ℕ) → HasEntries n (ask asked) → i < n → slice_get (parts_of asked) i ≡ Some (own_ask i asked)
own_at n (calculate s v dt) i h lt =
    let none = calculate zero_float zero_float dt in
    slice_get-get_or (asks s v dt) i none (omega (arith, asks_length s v dt (h.1 ∙ sym h.0)))
    ∙ ap Some (ask_at s v dt i none zero_float zero_float (omega arith) (omega arith))
own_at n (calculate_with_derivative s v d dt) i h lt =
    let none = calculate zero_float zero_float dt in
    slice_get-get_or (asks_with_derivative s v d dt) i none (omega (arith, derivatives_length s v d dt (h.1 ∙ sym h.0) (h.2 ∙ sym h.0)))
    ∙ ap Some (derivative_at s v d dt i none zero_float zero_float zero_float (omega arith) (omega arith) (omega arith))

-- and the controller's answer at i is the axis's to it
told : (n : ℕ) (asked : Ask (List Float)) (cs : List PidSettings) (m : PidMemory n) (i : ℕ) (c : PidSettings) (a : AxisMemory)
    → HasEntries n (ask asked) → i < n → slice_get cs i ≡ Some c → slice_get m.axes i ≡ Some a
    → (slice_get (answered asked cs m).output i ≡ Some (answer (own_ask i asked) c a).output)
    × (slice_get (answered asked cs m).memory.axes i ≡ Some (answer (own_ask i asked) c a).memory)
unfolding joined
told n asked cs m i c a h lt f g = rw (answered_joined asked cs m) (side (λ b. b.output), side (λ b. b.memory))
  where
    side : {B : Type 0} (s : AxisAnswer → B) → slice_get (map s (answers (parts_of asked) cs m.axes)) i ≡ Some (s (answer (own_ask i asked) c a))
    side s = slice_get-map s _ i ∙ ap (option_map s) (answer_own (parts_of asked) cs m.axes i _ c a (own_at n asked i h lt) f g)

-- ---- the axes do not touch each other

pub remember_apart : AxesRememberApart
unfolding new_memory
remember_apart n [] cs m i c a h lt f g = g
remember_apart n (ask asked ∷ calls) cs m i c a h lt f g =
    (told n asked cs (after_calls calls cs m) i c _ (All-head (HasEntries n) (ask asked) calls h) lt f (remember_apart n calls cs m i c a (All-tail (HasEntries n) (ask asked) calls h) lt f g)).1
remember_apart n (reset ∷ calls) cs m i c a h lt f g =
    slice_get-get_or (replicate n no_memory) i no_memory (omega (arith, length-replicate n no_memory)) ∙ ap Some (get_or-replicate n i no_memory no_memory lt)

pub answer_apart : AxesAnswerApart
answer_apart n asked calls cs m i c a h lt f g =
    (told n asked cs (after_calls calls cs m) i c _ (All-head (HasEntries n) (ask asked) calls h) lt f (remember_apart n calls cs m i c a (All-tail (HasEntries n) (ask asked) calls h) lt f g)).0

-- ---- what holds of each answer

each_answer : {B : Type 0} (f : AxisAnswer → B) (P : B → Type 0) (parts : List (Ask Float)) (cs : List PidSettings) (ms : List AxisMemory) (i : ℕ) (c : PidSettings)
    → slice_get cs i ≡ Some c → ((p : Ask Float) (m : AxisMemory) → P (f (answer p c m))) → IfSome (slice_get (map f (answers parts cs ms)) i) P
unfolding answers
each_answer f P [] cs ms i c e h = tt
each_answer f P (p ∷ parts) [] ms i c e h = tt
each_answer f P (p ∷ parts) (d ∷ cs) [] i c e h = tt
each_answer f P (p ∷ parts) (d ∷ cs) (m ∷ ms) zero c e h = rw (same_Some d c e) (h p m)
each_answer f P (p ∷ parts) (d ∷ cs) (m ∷ ms) (suc i) c e h = each_answer f P parts cs ms i c e h

new_bounded : (n i : ℕ) (c : PidSettings) → EnclosesZero c → IfSome (slice_get (new_memory {n = n}).axes i) (Bounded c)
unfolding new_memory no_memory
new_bounded n i c z = go n i
  where
    go : (n i : ℕ) → IfSome (slice_get (replicate n no_memory) i) (Bounded c)
    go zero i = tt
    go (suc n) zero = record { least = z.below; most = z.above }
    go (suc n) (suc i) = go n i

pub call_bounded : CallBoundsIntegral
unfolding joined
call_bounded n (ask asked) cs m i c e z =
    subst (λ (x : PidAnswer n). IfSome (slice_get x.memory.axes i) (Bounded c)) (sym (answered_joined asked cs m))
    (each_answer (λ x. x.memory) (Bounded c) (parts_of asked) cs m.axes i c e (λ p a. answer_bounded p c a z))
call_bounded n reset cs m i c e z = new_bounded n i c z

pub integral_bounded : IntegralIsBounded
integral_bounded n [] cs m i c e z b = b
integral_bounded n (call ∷ calls) cs m i c e z b = call_bounded n call cs (after_calls calls cs m) i c e z

pub new_integral_bounded : NewIntegralIsBounded
new_integral_bounded n calls cs i c e z = integral_bounded n calls cs new_memory i c e z (new_bounded n i c z)

pub outputs_limited : OutputsAreLimited
unfolding joined
outputs_limited n asked cs m i c e o =
    rw (answered_joined asked cs m) (each_answer (λ x. x.output) (Inside c.output_limits) (parts_of asked) cs m.axes i c e (λ p a. answer_inside p c a o))

-- ---- what a change of settings makes of each output

-- f is the change of settings, g what it makes of the output
altered : {n : ℕ} (f : PidSettings → PidSettings) (g : Float → Float) (asked : Ask (List Float)) (cs : List PidSettings) (m : PidMemory n) (i : ℕ) (c : PidSettings) (out : Float)
    → slice_get cs i ≡ Some c
    → ((p : Ask Float) (a : AxisMemory) → slice_get (parts_of asked) i ≡ Some p → (answer p c a).output ≡ g (answer p (f c) a).output)
    → slice_get (answered asked (map f cs) m).output i ≡ Some out
    → slice_get (answered asked cs m).output i ≡ Some (g out)
unfolding joined answers
altered f g asked cs m i c out e h o = rw (answered_joined asked cs m) (go (parts_of asked) cs m.axes i e h (rw (answered_joined asked (map f cs) m) at o))
  where
    go : (parts : List (Ask Float)) (cs : List PidSettings) (ms : List AxisMemory) (i : ℕ)
        → slice_get cs i ≡ Some c
        → ((p : Ask Float) (a : AxisMemory) → slice_get parts i ≡ Some p → (answer p c a).output ≡ g (answer p (f c) a).output)
        → slice_get (map (λ x. x.output) (answers parts (map f cs) ms)) i ≡ Some out
        → slice_get (map (λ x. x.output) (answers parts cs ms)) i ≡ Some (g out)
    go [] cs ms i e h o = absurd (none-some out o)
    go (p ∷ parts) [] ms i e h o = absurd (none-some c e)
    go (p ∷ parts) (d ∷ cs) [] i e h o = absurd (none-some out o)
    go (p ∷ parts) (d ∷ cs) (m ∷ ms) zero e h o = rw (same_Some d c e) (ap Some (h p m refl ∙ ap g (same_Some _ _ (rw (same_Some d c e) at o))))
    go (p ∷ parts) (d ∷ cs) (m ∷ ms) (suc i) e h o = go parts cs ms i e h o

pub nan_lower : NanIsLowerLimit
unfolding limited
nan_lower n asked cs m i c lo hi e l o =
    altered without_limits (limited c.output_limits) asked cs m i c nan e (λ p a q. answer_limited p c a) o ∙ ap Some (rw l (clamp_nan lo hi))

-- by the threshold, and then by the limits
by_threshold : (n : ℕ) (asked : Ask (List Float)) (cs : List PidSettings) (m : PidMemory n) (i : ℕ) (c : PidSettings) (out : Float)
    → HasEntries n (ask asked) → i < n → slice_get cs i ≡ Some c → slice_get (answered asked (map gains_only cs) m).output i ≡ Some out
    → slice_get (answered asked cs m).output i ≡ Some (limited c.output_limits (anti_jitter c.anti_jitter_thresh out (error_of (own_ask i asked))))
by_threshold n asked cs m i c out h lt e o =
    altered gains_only (λ x. limited c.output_limits (anti_jitter c.anti_jitter_thresh x (error_of (own_ask i asked)))) asked cs m i c out e
    (λ p a q. rw (same_Some (own_ask i asked) p (sym (own_at n asked i h lt) ∙ q)) (answer_gains p c a)) o

pub scaled_below : OutputIsScaledBelow
scaled_below n asked cs m i c t out h lt e s above below o =
    by_threshold n asked cs m i c out h lt e o ∙ ap (λ x. Some (limited c.output_limits x)) (rw s (anti_jitter_below t out (error_of (own_ask i asked)) above below))

pub stays_from : OutputStaysFrom
stays_from n asked cs m i c t out h lt e s from o =
    by_threshold n asked cs m i c out h lt e o ∙ ap (λ x. Some (limited c.output_limits x)) (rw s (anti_jitter_from t out (error_of (own_ask i asked)) from))

-- ---- reset

pub reset_new : ResetIsNew
reset_new n [] earlier cs m = refl
reset_new n (call ∷ later) earlier cs m = ap (called call cs) (reset_new n later earlier cs m)
