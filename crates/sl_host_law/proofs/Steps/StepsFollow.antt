-- The whole of a step follows what is due, part after part.
use Rattle.sl_due_facts.proofs.Acts.StepsKeep.{Fixed, due_is_of, expected_there}
use Rattle.sl_due_facts.proofs.Acts.TracesKeep.{due_is_seen}
use Rattle.sl_due.specs.Due.{IsDue, after_input, before_input, due, due_step}
use Rattle.sl_due.specs.DueInputs.{take_input}
use Rattle.sl_due.specs.DueWake.{is_wake, on_wake}
use Rattle.sl_due.specs.Steps.{Step, begin_step, when}
use Rattle.sl_host_state.proofs.StepsAreOver.{steps_are_over}
use Rattle.sl_host_state.specs.HeardInputs.{begun, rested}
use Rattle.sl_host_state.specs.KeptState.{HostState}
use Rattle.sl_host_state.specs.StepsAreOver.{entry_of}
use Rattle.sl_host_state.specs.HostStands.{HostStands, Stands}
use Rattle.sl_host_law.proofs.Steps.BeginningsFollow.{beginnings_follow}
use Rattle.sl_host_law.proofs.Steps.EndingsFollow.{endings_follow}
use Rattle.sl_host_law.proofs.Steps.InputsFollow.{inputs_are_sound, inputs_follow, same_members}
use Rattle.sl_host_law.proofs.Steps.LinesAreSound.{lines_are_sound}
use Rattle.sl_host_law.proofs.Steps.LinesFollow.{lines_follow}
use Rattle.sl_host_law.proofs.Steps.SettlingsWake.{wakes_follow}
use Rattle.sl_host_law.proofs.Steps.SoundBefore.{before_sound}
use Rattle.sl_host_law.proofs.Steps.AnswersAreSound.{answers_are_sound}
use Rattle.sl_host_law.specs.Steps.Inputs.{taking}
use Rattle.sl_host_law.specs.Steps.SoundHosts.{IsEarly, IsSound}
use Rattle.sl_host_law.specs.Steps.StepFunction.{before_taking, stepped, stepping}
use Rattle.sl_host_law.specs.Steps.WakePasses.{waking}
use Rattle.sl_host_law.specs.Steps.StepsFollow.{StepComes, StepsFollow, entry_at}
use Rattle.sl_words.proofs.Lists.{head_is, tail_is}
use Rattle.sl_trace.specs.Traces.{FollowsTrace, Setting, Trace, is_expected}
use Rattle.sl_trace.specs.declared.effects.Entry.{Entry}
use Rattle.sl_trace.specs.declared.input.Input.TheVariants.{Answer as Told, Exit, Line, Number, Spawned, Wake}
use Rattle.sl_trace.specs.declared.input.Input.{Input}
use Rattle.std.proofs.Common.{refl, subst, sym}
use Rattle.std.specs.Prelude.{Bool, cond, true, ℕ, ◌∷◌, ◌≡◌, ◌≤◌}

-- ---- part after part

module _ (now : ℕ) (i : Input) (h : HostState) (st : Setting) (es : Trace) (comes : StepComes now i h st es) where
  later : h.reading ≤ now
  later = subst (λ n. n ≤ now) comes.stands.reading comes.follows.time

  ready : HostState
  ready = before_taking (begun now h)

  at_input : Stands Wake (before_taking (begun now h)) (before_input (begin_step st es now))
  at_input = beginnings_follow.stands h st es now later comes.sound.names comes.stands

  early : IsEarly (before_taking (begun now h))
  early = beginnings_follow.early h st es now later comes.sound.names comes.stands

  sound : IsSound (before_taking (begun now h))
  sound = before_sound now h comes.sound

expected_at : (p : ℕ) (ok : Bool) (now : ℕ) (h : HostState) (st : Setting) (es : Trace) → StepComes now (Spawned p ok) h st es
    → is_expected (before_input (begin_step st es now)).setting (before_input (begin_step st es now)).past (Spawned p ok) ≡ true
unfolding before_input
expected_at p ok now h st es c = expected_there st es now (Spawned p ok) c.follows.expected

taken : (i : Input) (now : ℕ) (h : HostState) (st : Setting) (es : Trace) → StepComes now i h st es
    → Stands i (taking i (before_taking (begun now h))) (take_input i (before_input (begin_step st es now))) × IsSound (taking i (before_taking (begun now h)))
unfolding take_input
taken (Line text) now h st es c =
    (lines_follow (before_taking (begun now h)) (before_input (begin_step st es now)) text (early now (Line text) h st es c) (sound now (Line text) h st es c) c.may (at_input now (Line text) h st es c), lines_are_sound (before_taking (begun now h)) (before_input (begin_step st es now)) text (at_input now (Line text) h st es c) (sound now (Line text) h st es c) (λ d says. (c.may d says).last))
taken (Number text) now h st es c =
    (inputs_follow.number (before_taking (begun now h)) (before_input (begin_step st es now)) text (at_input now (Number text) h st es c), inputs_are_sound.number (before_taking (begun now h)) text (sound now (Number text) h st es c))
taken (Told n a) now h st es c = (
  inputs_follow.answer n c.may.0 a (before_taking (begun now h)) (before_input (begin_step st es now))
      (record {
        stands = at_input now (Told n a) h st es c;
        early = early now (Told n a) h st es c;
        sound = sound now (Told n a) h st es c;
        theirs = c.may.3;
        is_open = c.may.1;
        fits = c.may.2;
      }) c.may.4,
  answers_are_sound n a (before_taking (begun now h)) (sound now (Told n a) h st es c),
)
taken (Exit p) now h st es c = (
  inputs_follow.exit (before_taking (begun now h)) (before_input (begin_step st es now)) p (early now (Exit p) h st es c) (at_input now (Exit p) h st es c),
  inputs_are_sound.exit (before_taking (begun now h)) p (sound now (Exit p) h st es c),
)
taken (Spawned p ok) now h st es c = (
  inputs_follow.start (before_taking (begun now h)) (before_input (begin_step st es now)) p ok (expected_at p ok now h st es c) (early now (Spawned p ok) h st es c) (at_input now (Spawned p ok) h st es c),
  inputs_are_sound.start (before_taking (begun now h)) p ok (sound now (Spawned p ok) h st es c),
)
taken Wake now h st es c = (at_input now Wake h st es c, sound now Wake h st es c)

-- On a wake the passes are made.
woken : (i : Input) (h : HostState) (x : Step) → IsSound h → Stands i h x → Stands i (cond (is_wake i) (waking h) h) (when (is_wake i) on_wake x) × IsSound (cond (is_wake i) (waking h) h)
woken Wake h x k s = (wakes_follow.stands h x k s, wakes_follow.sound h x k s)
woken (Line text) h x k s = (s, k)
woken (Number text) h x k s = (s, k)
woken (Told n a) h x k s = (s, k)
woken (Exit p) h x k s = (s, k)
woken (Spawned p ok) h x k s = (s, k)

whole : (now : ℕ) (i : Input) (h : HostState) (st : Setting) (es : Trace) → StepComes now i h st es → Stands i (stepping now i h) (due_step st es now i) × IsSound (stepping now i h)
unfolding due_step after_input
whole now i h st es c =
    let one = taken i now h st es c in
    let two = woken i (taking i (before_taking (begun now h))) (take_input i (before_input (begin_step st es now))) one.1 one.0 in
    let y : Step = when (is_wake i) on_wake (take_input i (before_input (begin_step st es now))) in
    let g : HostState = cond (is_wake i) (waking (taking i (before_taking (begun now h)))) (taking i (before_taking (begun now h))) in
    (endings_follow.finish i g y two.1 two.0, endings_follow.sound i g y two.1 two.0)

over_now : (now : ℕ) (i : Input) (h : HostState) (st : Setting) (es : Trace) → StepComes now i h st es → HostStands (stepped now i h) st (entry_at st es now i ∷ es)
unfolding due
over_now now i h st es c =
    let x : Step = due_step st es now i in
    let f : Fixed st es now x = due_is_of st es now i in
    let e : Entry = entry_at st es now i in
    let is : entry_of x ∷ x.past ≡ e ∷ es = due_is_seen st es e refl in
    let same : entry_of x ≡ e = head_is (entry_of x) e x.past es is in
    let past : x.past ≡ es = tail_is (entry_of x) e x.past es is in
    subst (λ z. HostStands (stepped now i h) st z) is
    (subst (λ z. HostStands (stepped now i h) z (entry_of x ∷ x.past)) f.setting
    (steps_are_over i (stepping now i h) x
    (subst (λ z. FollowsTrace z x.past (entry_of x)) (sym f.setting) (subst (λ z. FollowsTrace st z (entry_of x)) (sym past) (subst (FollowsTrace st es) (sym same) c.follows)))
    (subst (λ z. IsDue z x.past (entry_of x)) (sym f.setting)
    (subst (λ z. IsDue st z (entry_of x)) (sym past) (subst (IsDue st es) (sym same) refl)))
    (whole now i h st es c).0))

rested_sound : (h : HostState) → IsSound h → IsSound (rested h)
rested_sound h k = same_members h (rested h) refl refl refl k

pub steps_follow : StepsFollow
unfolding due
steps_follow =
    record {
      effects = λ now i h st es c. sym (whole now i h st es c).0.made;
      stands = over_now;
      sound = λ now i h st es c. rested_sound (stepping now i h) (whole now i h st es c).1;
    }
