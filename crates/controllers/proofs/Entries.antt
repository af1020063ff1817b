-- The entries and the length of the lists that the definitions of specs/Axes.antt make.
use Rattle.std.proofs.Common.{◌≡◌, ◌∙◌, sym, ℕ, zero, suc, ◌<◌, List, [], ◌∷◌, length, get_or, refl, ap, arith, not-suc-le-zero, le_of_suc-le-suc}
use lib.Ieee.{Float, nan}
use Rattle.std.specs.Prelude.{None, Some, slice_get}
use Rattle.std.proofs.lemmas.Option.{none-some, slice_get-get_or, get_or_from_slice_get}
use Rattle.controllers.specs.declared.pid.PidSettings.{PidSettings}
use Rattle.controllers.specs.declared.pid.AxisMemory.{AxisMemory}
use Rattle.controllers.specs.declared.pid.PidMemory.{PidMemory}
use Rattle.controllers.specs.Axis.{AxisAnswer, one_calculated, one_with_derivative}
use Rattle.controllers.specs.Axes.{Ask, calculate, calculate_with_derivative, answer, answers, asks, asks_with_derivative}
use Rattle.controllers.specs.PidAxes.{joined, calculated, calculated_with_derivative}
use Rattle.controllers.proofs.Mapped.{mapped}

-- the answer at i is that of the axis i
pub answer_own : (parts : List (Ask Float)) (cs : List PidSettings) (ms : List AxisMemory) (i : ℕ) (p : Ask Float) (c : PidSettings) (a : AxisMemory)
    → slice_get parts i ≡ Some p → slice_get cs i ≡ Some c → slice_get ms i ≡ Some a → slice_get (answers parts cs ms) i ≡ Some (answer p c a)
unfolding answers
answer_own [] cs ms i p c a e f g = absurd (none-some p e)
answer_own (q ∷ parts) [] ms i p c a e f g = absurd (none-some c f)
answer_own (q ∷ parts) (d ∷ cs) [] i p c a e f g = absurd (none-some a g)
answer_own (q ∷ parts) (d ∷ cs) (b ∷ ms) zero p c a e f g = cc
answer_own (q ∷ parts) (d ∷ cs) (b ∷ ms) (suc i) p c a e f g = answer_own parts cs ms i p c a e f g

answer_at : (parts : List (Ask Float)) (cs : List PidSettings) (ms : List AxisMemory) (i : ℕ) (part : Ask Float) (c : PidSettings) (m : AxisMemory) (d : AxisAnswer)
    → i < length parts → i < length cs → i < length ms → get_or (answers parts cs ms) i d ≡ answer (get_or parts i part) (get_or cs i c) (get_or ms i m)
answer_at parts cs ms i part c m d h k l =
    get_or_from_slice_get (answers parts cs ms) i _ d (answer_own parts cs ms i _ _ _ (slice_get-get_or parts i part h) (slice_get-get_or cs i c k) (slice_get-get_or ms i m l))

answers_length : (parts : List (Ask Float)) (cs : List PidSettings) (ms : List AxisMemory) → length parts ≡ length ms → length cs ≡ length ms → length (answers parts cs ms) ≡ length ms
unfolding answers
answers_length [] cs [] h k = refl
answers_length [] cs (m ∷ ms) h k = absurd (omega arith)
answers_length (a ∷ parts) [] [] h k = refl
answers_length (a ∷ parts) [] (m ∷ ms) h k = absurd (omega arith)
answers_length (a ∷ parts) (c ∷ cs) [] h k = refl
answers_length (a ∷ parts) (c ∷ cs) (m ∷ ms) h k = ap suc (answers_length parts cs ms (omega arith) (omega arith))

pub ask_at : (ss vs : List Float) (dt : Float) (i : ℕ) (part : Ask Float) (s v : Float) → i < length ss → i < length vs → get_or (asks ss vs dt) i part ≡ calculate (get_or ss i s) (get_or vs i v) dt
ask_at [] vs dt i part s v h k = absurd (not-suc-le-zero h)
ask_at (x ∷ ss) [] dt i part s v h k = absurd (not-suc-le-zero k)
ask_at (x ∷ ss) (y ∷ vs) dt zero part s v h k = refl
ask_at (x ∷ ss) (y ∷ vs) dt (suc i) part s v h k = ask_at ss vs dt i part s v (le_of_suc-le-suc h) (le_of_suc-le-suc k)

pub asks_length : (ss vs : List Float) (dt : Float) → length vs ≡ length ss → length (asks ss vs dt) ≡ length ss
asks_length [] vs dt h = refl
asks_length (x ∷ ss) [] dt h = absurd (omega arith)
asks_length (x ∷ ss) (y ∷ vs) dt h = ap suc (asks_length ss vs dt (omega arith))

pub derivative_at : (ss vs ds : List Float) (dt : Float) (i : ℕ) (part : Ask Float) (s v d : Float) → i < length ss → i < length vs → i < length ds
    → get_or (asks_with_derivative ss vs ds dt) i part ≡ calculate_with_derivative (get_or ss i s) (get_or vs i v) (get_or ds i d) dt
derivative_at [] vs ds dt i part s v d h k l = absurd (not-suc-le-zero h)
derivative_at (x ∷ ss) [] ds dt i part s v d h k l = absurd (not-suc-le-zero k)
derivative_at (x ∷ ss) (y ∷ vs) [] dt i part s v d h k l = absurd (not-suc-le-zero l)
derivative_at (x ∷ ss) (y ∷ vs) (z ∷ ds) dt zero part s v d h k l = refl
derivative_at (x ∷ ss) (y ∷ vs) (z ∷ ds) dt (suc i) part s v d h k l = derivative_at ss vs ds dt i part s v d (le_of_suc-le-suc h) (le_of_suc-le-suc k) (le_of_suc-le-suc l)

pub derivatives_length : (ss vs ds : List Float) (dt : Float) → length vs ≡ length ss → length ds ≡ length ss → length (asks_with_derivative ss vs ds dt) ≡ length ss
derivatives_length [] vs ds dt h k = refl
derivatives_length (x ∷ ss) [] ds dt h k = absurd (omega arith)
derivatives_length (x ∷ ss) (y ∷ vs) [] dt h k = absurd (omega arith)
derivatives_length (x ∷ ss) (y ∷ vs) (z ∷ ds) dt h k = ap suc (derivatives_length ss vs ds dt (omega arith) (omega arith))

-- ---- an answer whose every entry is an axis's

-- the first n entries are axes' answers, to what R says at each
abbrev pub EachIs : ℕ → List PidSettings → List AxisMemory → List Float → List AxisMemory → (ℕ → PidSettings → AxisMemory → AxisAnswer) → Type 0
EachIs n cs ms os es f =
    (i : ℕ) (c : PidSettings) (m e : AxisMemory) (x : Float) → i < n → record { output = get_or os i x; memory = get_or es i e } ≡ f i (get_or cs i c) (get_or ms i m)

-- settings to stand where none are asked for
settings_of : Float → PidSettings
settings_of x = record { gain = record { kp = x; ki = x; kd = x; ki_err_min = x; ki_err_max = x }; anti_jitter_thresh = None; output_limits = None }

joined_is : {n : ℕ} (parts : List (Ask Float)) (cs : List PidSettings) (ms : List AxisMemory) (os : List Float) (es : List AxisMemory)
    → length parts ≡ n → length cs ≡ n → length ms ≡ n → length os ≡ n → length es ≡ n
    → ((part : Ask Float) → EachIs n cs ms os es (λ i. answer (get_or parts i part)))
    → record { output = os; memory = record { axes = es } } ≡ joined {n = n} (answers parts cs ms)
unfolding joined
joined_is {n} parts cs ms os es lp lc lm lo le each =
    let long : length (answers parts cs ms) ≡ length ms = answers_length parts cs ms (lp ∙ sym lm) (lc ∙ sym lm) in
    let at : (i : ℕ) (d : AxisAnswer) (e : AxisMemory) (x : Float) → i < n → record { output = get_or os i x; memory = get_or es i e } ≡ get_or (answers parts cs ms) i d
    = λ i d e x lt. each (calculate x x x) i (settings_of x) e e x lt ∙ sym (answer_at parts cs ms i (calculate x x x) (settings_of x) e d (omega (arith, lt, lp)) (omega (arith, lt, lc)) (omega (arith, lt, lm))) in
    let outputs = mapped (λ b. b.output) (answers parts cs ms) os (omega (arith, long, lm, lo)) (λ k d x lt. ap (λ b. b.output) (at k d d.memory x (omega (arith, lt, long, lm)))) in
    let memories = mapped (λ b. b.memory) (answers parts cs ms) es (omega (arith, long, lm, le)) (λ k d e lt. ap (λ b. b.memory) (at k d e d.output (omega (arith, lt, long, lm)))) in
    λ j. record { output = outputs j; memory = record { axes = memories j } }

pub calculated_is : {n : ℕ} (cs : List PidSettings) (m : PidMemory n) (s v : List Float) (dt : Float) (os : List Float) (es : List AxisMemory)
    → length s ≡ n → length v ≡ n → length cs ≡ n → length m.axes ≡ n → length os ≡ n → length es ≡ n
    → EachIs n cs m.axes os es (λ i c m. one_calculated c m (get_or s i nan) (get_or v i nan) dt)
    → record { output = os; memory = record { axes = es } } ≡ calculated cs m s v dt
unfolding calculated
calculated_is cs m s v dt os es ls lv lc lm lo le each =
    joined_is (asks s v dt) cs m.axes os es (asks_length s v dt (lv ∙ sym ls) ∙ ls) lc lm lo le
    (λ p i d f e x lt. each i d f e x lt ∙ ap (λ q. answer q (get_or cs i d) (get_or m.axes i f)) (sym (ask_at s v dt i p nan nan (omega (arith, lt, ls)) (omega (arith, lt, lv)))))

pub with_derivative_is : {n : ℕ} (cs : List PidSettings) (m : PidMemory n) (s v w : List Float) (dt : Float) (os : List Float) (es : List AxisMemory)
    → length s ≡ n → length v ≡ n → length w ≡ n → length cs ≡ n → length m.axes ≡ n → length os ≡ n → length es ≡ n
    → EachIs n cs m.axes os es (λ i c m. one_with_derivative c m (get_or s i nan) (get_or v i nan) (get_or w i nan) dt)
    → record { output = os; memory = record { axes = es } } ≡ calculated_with_derivative cs m s v w dt
unfolding calculated_with_derivative
with_derivative_is cs m s v w dt os es ls lv lw lc lm lo le each =
    joined_is (asks_with_derivative s v w dt) cs m.axes os es (derivatives_length s v w dt (lv ∙ sym ls) (lw ∙ sym ls) ∙ ls) lc lm lo le
    (λ p i d f e x lt. each i d f e x lt ∙ ap (λ q. answer q (get_or cs i d) (get_or m.axes i f)) (sym (derivative_at s v w dt i p nan nan nan (omega (arith, lt, ls)) (omega (arith, lt, lv)) (omega (arith, lt, lw)))))
