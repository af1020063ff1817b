-- The controller follows the plain drive call by call, and what is read off the list is what the plain
-- drive's gate, clock, ticks and counts are.
use mathlib.Core.Path.{◌≡◌, refl, sym, ap, ◌∙◌, subst}
use Prim.Native.Nat.{ℕ, ◌+◌, ◌-◌, ◌*◌, ◌/◌, ◌≤◌, ◌<◌}
use native.Mathlib.Nat.{le-div_iff_mul-le}
use native.Mathlib.Omega.{arith}
use mathlib.Core.Bool.{Bool, true, false, cond, not, ◌&&◌, ◌||◌, true≢false}
use mathlib.Core.List.{List, [], ◌∷◌}
use borrow.Author.Tests.{leb-true, le-leb}
use lib.Dec.{T, lit≤, leb, ltb}
use lib.IntN.{pos}
use lib.Ieee.{Float, binary32, le, of_int}
use Rattle.std.specs.Prelude.{All, sum}
use Rattle.std.proofs.lemmas.List.Sums.{get_or-le-sum_by}
use Rattle.tick.specs.declared.start.Start.{Start}
use Rattle.tick.specs.TickLength.{IsTickLength}
use Rattle.tick.specs.Start.{IsStart}
use Rattle.tick.specs.Tally.{count_list, tick_limit}
use Rattle.tick.specs.declared.inputs.SightInput.{SightInput}
use Rattle.tick.specs.declared.refusal.Refusal.TheVariants as Why
use Rattle.tick.specs.Outcome.{takes}
use Rattle.tick.proofs.TickLengthExact.{bounds_tick_length}
use Rattle.vision.specs.declared.gate.VisionGateState.{VisionGateState}
use Rattle.vision.specs.declared.gate.VisionGateState.TheVariants.{Seeding, Tracking}
use Rattle.vision.specs.Gate.{sighting_of, distance}
use Rattle.vision.specs.Vision.{active}
use Rattle.vision.proofs.Outcomes.{Small}
use Rattle.vision.proofs.Held.{Held, held_active, unheld_inactive, held_widens}
use Rattle.control_context.specs.StateEstimate as ContextSight
use Rattle.body_controller.specs.declared.BodyController.{BodyController}
use Rattle.body_controller.specs.declared.Called.{Called}
use Rattle.body_controller.specs.declared.sight.Sighted.{Sighted}
use Rattle.body_controller.specs.Turn.{is_sight}
use Rattle.body_controller.specs.Controller.{started, new_of, reset_of}
use Rattle.body_controller.specs.Controller as Controller
use Rattle.body_controller.specs.Sight.{sighted, sight_of}
use Rattle.body_controller.specs.Plan.{plan_of}
use Rattle.body_controller.specs.Steer.{steer_of}
use Rattle.body_controller.specs.Finish.{finish_of}
use Rattle.plain_drive.specs.Calls.{Call, sight, plan, steer, finish, reset, Reply, outcome, answer, accepted, refused, is_tick, took}
use Rattle.plain_drive.specs.PlainDrive.{DriveState, step, driven, driven_replies, resets_after}
use Rattle.plain_drive.specs.EveryList.{sight_reply, plan_reply, steer_reply, finish_reply, Meets, Entry, Made, calls_of, replies_of, ticks_in, since, holding, took_within, drive_of, gathered_in, FollowsPlainDrive, NewIsStarted, EveryListRuns, NothingWraps, ActiveMeansSeen}
use Rattle.plain_drive.proofs.Simulation.{Follows, sight_follows, plan_follows, steer_follows, finish_follows, reset_follows}
use Rattle.plain_drive.proofs.Watched.{vision_of, Seen, Watched, drive_watched}

-- ---- the start

-- all that is used here of a start's facts
tick_length_of_start : (start : Start) → IsStart start → IsTickLength start.tick_length
tick_length_of_start start valid = valid

-- after the calls of h, the controller is where the plain drive is, and answered as it did
pub record Followed (start : Start) (h : List Entry) (c : BodyController) : Type 0 where
  pub chosen : c.context.start ≡ start
  pub state : drive_of c ≡ driven start (calls_of h)
  pub replies : replies_of h ≡ driven_replies start (calls_of h)

begun : (start : Start) → Followed start [] (started start)
begun start = record {
  chosen = refl;
  state = unfold driven calls_of in refl;
  replies = unfold replies_of driven_replies calls_of in refl;
}

pub new_is_started : NewIsStarted
new_is_started k l g = (record { tick_length = k }, (l, g), refl, rw (bounds_tick_length k (l, g)) refl)

-- ---- a call

meets-follows : (c : BodyController) (call : Call) (reply : Reply) (d : BodyController) → Meets c call reply d → Follows c (step c.context.start (drive_of c) call) reply d
meets-follows c (sight i) reply d x = rw (x.2, x.3, x.1) (sight_follows c i)
meets-follows c (plan i) reply d x = rw (x.2, x.3, x.1) (plan_follows c i c.context.start)
meets-follows c (steer i) reply d x = rw (x.2, x.3, x.1) (steer_follows c i c.context.start)
meets-follows c (finish i) reply d x = rw (x.2, x.3, x.1) (finish_follows c i c.context.start)
meets-follows c reset reply d x = rw (x.2, x.3, x.1) (reset_follows c c.context.start)

-- ---- any list

watched_of : (start : Start) (h : List Entry) (c : BodyController) → Followed start h c → Watched start.tick_length (ticks_in h) (since h) (holding start h) (drive_of c)
watched_of start h c f = rw f.state (drive_watched start h f.replies)

followed : (start : Start) (h : List Entry) (c : BodyController) → Made start h c → Followed start h c
unfolding Made calls_of replies_of driven driven_replies
followed start [] c m = rw m (begun start)
followed start (e ∷ h) d m = go (followed start h m.0 m.1)
  where
    go : Followed start h m.0 → Followed start (e ∷ h) d
    go f =
        let t : Follows m.0 (step start (driven start (calls_of h)) e.call) e.reply d =
        subst (λ (s : DriveState). Follows m.0 (step start s e.call) e.reply d) f.state
        (subst (λ (x : Start). Follows m.0 (step x (drive_of m.0) e.call) e.reply d) f.chosen (meets-follows m.0 e.call e.reply d m.2)) in
        record {
          chosen = t.start ∙ f.chosen;
          state = t.state;
          replies = rw (t.reply, f.replies);
        }

-- ---- the sentences

-- the active mark
cameras : (k m : ℕ) (holds : Bool) (s : DriveState) → k ≤ 64 → Seen k holds m (vision_of s) → active s.clock ≡ holds && leb (m * k) 2048
cameras k m true s K v = held_active k m (vision_of s) K v
cameras k m false s K v = unheld_inactive (vision_of s) v.0

-- a tracking gate holds
tracking-held : (k m : ℕ) (holds : Bool) (s : DriveState) (t : Float) → s.gate ≡ Tracking t → Seen k holds m (vision_of s) → Held k m (vision_of s)
tracking-held k m true s t e v = v
tracking-held k m false s t e v = absurd (rw e at v.1)

-- whether the gate takes this sighting
abbrev taking : BodyController → SightInput → Bool
taking c i = takes (ContextSight.seen c.context (sighting_of i.vision_update i.vision_pose_meas) i.predicted_state).action

-- a sight call that is accepted answers the gate's outcome
accepted-outcome : (c : BodyController) (i : SightInput) → is_tick (sight_reply (sight_of c i).answer) ≡ true → took (sight_reply (sight_of c i).answer) ≡ taking c i
unfolding sight_of
accepted-outcome c i = go (not (is_sight c.turn)) (not (ltb c.tally.ticks tick_limit))
  where
    go : (s t : Bool)
        → is_tick (sight_reply (cond s (Controller.refused Why.OutOfTurn c) (cond t (Controller.refused Why.TickLimit c) (sighted c i))).answer) ≡ true
        → took (sight_reply (cond s (Controller.refused Why.OutOfTurn c) (cond t (Controller.refused Why.TickLimit c) (sighted c i))).answer) ≡ taking c i
    go false false e = refl
    go false true e = absurd (true≢false (sym e))
    go true t e = absurd (true≢false (sym e))

-- the widening gate
widened : (start : Start) (h : List Entry) (c : BodyController) → IsStart start → Followed start h c → (D : ℕ) (t : Float) (i : SightInput)
    → 1 ≤ D
    → D ≤ 64
    → 2048 * D ≤ since h * start.tick_length
    → c.context.vision.gate ≡ Tracking t
    → i.vision_update ≡ true
    → T (le (distance i.vision_pose_meas i.predicted_state) (of_int binary32 (pos D)))
    → taking c i ≡ true
unfolding ContextSight.seen
widened start h c valid f D t i l g r e seen near =
    rw (seen, f.chosen)
    (held_widens start (since h) D c.context.vision (tick_length_of_start start valid).1 l g r (tracking-held start.tick_length (since h) (holding start h) (drive_of c) t e (watched_of start h c f).vision) i.vision_pose_meas i.predicted_state near)

pub follows_plain_drive : FollowsPlainDrive
follows_plain_drive start h c valid m =
    let f = followed start h c m in
    let w = watched_of start h c f in
    record {
      chosen = f.chosen;
      ticks = w.ticks;
      counts = w.counted;
      state = f.state;
      mark = ap (λ (s : DriveState). active s.clock) f.state;
      replies = f.replies;
      cameras = cameras start.tick_length (since h) (holding start h) (drive_of c) (tick_length_of_start start valid).1 w.vision;
      widens = λ D t i reply d l g r e seen near x tick.
          let same : reply ≡ sight_reply (sight_of c i).answer = x.2 ∙ ap (λ (y : Called Sighted). sight_reply y.answer) x.1 in
          ap took same ∙ accepted-outcome c i (ap is_tick (sym same) ∙ tick) ∙ widened start h c valid f D t i l g r e seen near;
    }

-- ---- every list runs

-- what a call answers, and the controller after it
reply_of : BodyController → Call → Reply
reply_of c (sight i) = sight_reply (sight_of c i).answer
reply_of c (plan i) = plan_reply (plan_of c i).answer
reply_of c (steer i) = steer_reply (steer_of c i).answer
reply_of c (finish i) = finish_reply (finish_of c i).answer
reply_of c reset = accepted

next_of : BodyController → Call → BodyController
next_of c (sight i) = (sight_of c i).controller
next_of c (plan i) = (plan_of c i).controller
next_of c (steer i) = (steer_of c i).controller
next_of c (finish i) = (finish_of c i).controller
next_of c reset = reset_of c

meets : (c : BodyController) (call : Call) → Meets c call (reply_of c call) (next_of c call)
unfolding reply_of next_of
meets c (sight i) = (sight_of c i, refl, refl, refl)
meets c (plan i) = (plan_of c i, refl, refl, refl)
meets c (steer i) = (steer_of c i, refl, refl, refl)
meets c (finish i) = (finish_of c i, refl, refl, refl)
meets c reset = (reset_of c, refl, refl, refl)

pub every_list_runs : EveryListRuns
unfolding calls_of Made
every_list_runs start [] valid = ([], started start, refl, refl)
every_list_runs start (call ∷ calls) valid =
    let r = every_list_runs start calls valid in
    (record { call = call; reply = reply_of r.1 call } ∷ r.0, next_of r.1 call, ap (λ (cs : List Call). call ∷ cs) r.2, (r.1, r.3, meets r.1 call))

-- ---- nothing wraps

gathered_few : (g : VisionGateState) → Small g → gathered_in g ≤ 19
gathered_few (Seeding s) h = omega (arith, h)
gathered_few (Tracking t) h = lit≤ tt

within_sum : (n : ℕ) (ns : List ℕ) → sum ns ≤ n → All (λ (x : ℕ). x ≤ n) ns
within_sum n ns h i d l = let each = get_or-le-sum_by (λ (x : ℕ). x) ns i d l in omega (arith, each, h)

pub nothing_wraps : NothingWraps
nothing_wraps start h c valid m =
    let w = watched_of start h c (followed start h c m) in
    (w.limit, within_sum 16777216 (count_list c.tally.counts) (rw (← w.counted) w.limit), gathered_few c.context.vision.gate w.small)

-- ---- active means seen

positive : (n m : ℕ) → m < n → leb 1 n ≡ true
positive n m h = le-leb 1 n (omega arith)

both : (a b : Bool) → a && b ≡ true → (a ≡ true) × (b ≡ true)
both true b e = (refl, e)
both false b e = absurd (true≢false (sym e))

module _ (h : List Entry) (held resetting : Bool) (m : ℕ) (before : (n : ℕ) → held ≡ true → m < n → took_within n h ≡ true) where
  -- one call more
  one_more : (r : Reply) (n : ℕ)
      → took r || (not resetting && held) ≡ true
      → cond (took r) 0 (cond (is_tick r) (m + 1) m) < n
      → cond (is_tick r) (leb 1 n && (took r || took_within (n - 1) h)) (took_within n h) ≡ true
  one_more (outcome a) n e l = go (takes a) e l
    where
      go : (t : Bool) → t || (not resetting && held) ≡ true → cond t 0 (m + 1) < n → leb 1 n && (t || took_within (n - 1) h) ≡ true
      go true e l = rw (positive n 0 l)
      go false e l = rw (positive n (m + 1) l) (before (n - 1) (both (not resetting) held e).1 (omega arith))
  one_more (answer a) n e l = before n (both (not resetting) held e).1 l
  one_more accepted n e l = before n (both (not resetting) held e).1 l
  one_more (refused x) n e l = before n (both (not resetting) held e).1 l

-- a sighting that is held was taken in one of the latest ticks, one more than came since
held_taken : (start : Start) (h : List Entry) (n : ℕ) → holding start h ≡ true → since h < n → took_within n h ≡ true
unfolding holding since took_within
held_taken start [] n e l = absurd (true≢false (sym e))
held_taken start (x ∷ h) n e l = one_more h (holding start h) (resets_after start (calls_of h) x.call) (since h) (held_taken start h) x.reply n e l

pub active_means_seen : ActiveMeansSeen
active_means_seen start h c valid m e =
    let k = start.tick_length in
    let marks = both (holding start h) (leb (since h * k) 2048) (sym (follows_plain_drive start h c valid m).cameras ∙ e) in
    let few : since h ≤ 2048 / k = (le-div_iff_mul-le (tick_length_of_start start valid).0).1 (leb-true (since h * k) 2048 marks.1) in
    held_taken start h (2048 / k + 1) marks.0 (omega (arith, few))
