-- The moments of a step: up to each the host follows it, and all that each act keeps is kept.
use Rattle.sl_due_facts.proofs.Acts.InputsKeep.{answer_keeps, other_acts, others_keep}
use Rattle.sl_due_facts.proofs.Acts.StepsKeep.{arrives_as_expected, at_input, bare_at_input, expected_there, head_keeps, step_keeps}
use Rattle.sl_due_facts.proofs.Acts.WakesKeep.{wake_keeps}
use Rattle.sl_due_facts.specs.Acts.Acts.{Expects}
use Rattle.sl_due.specs.Due.{after_input, before_input, due_step}
use Rattle.sl_due.specs.DueRecovery.{begin_recoveries}
use Rattle.sl_due.specs.DueInputs.{take_input}
use Rattle.sl_due.specs.DueWake.{is_wake, on_wake}
use Rattle.sl_due.specs.Steps.{Step, begin_step, when, with_input}
use Rattle.sl_host_law.proofs.Replies.Answers.AnswersAreHeard.{answers_are_heard}
use Rattle.sl_host_law.proofs.Steps.AnswersAreSound.{answers_are_sound}
use Rattle.sl_host_law.proofs.Steps.EndingsFollow.{endings_follow}
use Rattle.sl_host_law.proofs.Steps.InputsFollow.{inputs_are_sound, inputs_follow}
use Rattle.sl_host_law.proofs.Steps.LinesAreSound.{lines_are_sound}
use Rattle.sl_host_law.proofs.Steps.LinesFollow.{lines_follow}
use Rattle.sl_host_law.proofs.Steps.SettlingsWake.{wakes_follow}
use Rattle.sl_host_law.proofs.Steps.SoundParts.{IsCut, Was, sound_cut}
use Rattle.sl_host_law.specs.Replies.Answers.{IsOpen}
use Rattle.sl_host_law.specs.Steps.Inputs.{taking}
use Rattle.sl_host_law.specs.Steps.SoundHosts.{IsSound}
use Rattle.sl_host_law.specs.Steps.StepFunction.{before_taking, stepping}
use Rattle.sl_host_law.specs.Steps.WakePasses.{waking}
use Rattle.sl_host_law.specs.Steps.StepsFollow.{MayTake, entry_at}
use Rattle.sl_host_state.specs.HeardInputs.{begun, heard_answer, hearing, is_over_with, member_hearing}
use Rattle.sl_host_state.specs.KeptState.{HostState, MemberState}
use Rattle.sl_host_state.specs.HostStands.{Stands}
use Rattle.sl_host_state.specs.declared.kept_parts.OpenCall.{OpenCall}
use Rattle.sl_words.proofs.Lists.{in_map, kept_inside}
use Rattle.sl_step_law.proofs.CallsAreStanding.{begun_known, known_is_kept, ready_stand, traces_stand}
use Rattle.sl_step_law.proofs.HostsAreReady.{hosts_are_ready}
use Rattle.sl_step_law.proofs.LeasesStandOn.{Known}
use Rattle.sl_step_law.proofs.StepsAreTaken.{steps_are_taken}
use Rattle.sl_step_law.specs.Moments.{IsMoment, MomentsAreKnown, taken_host, taken_step}
use Rattle.sl_step_law.specs.ReadyHosts.{InputComes, IsReady}
use Rattle.sl_step_law.specs.StepsAreTaken.{MayCome}
use Rattle.sl_trace.specs.Traces.{Setting, Trace, is_expected}
use Rattle.sl_trace.specs.declared.effects.Effects.{Effects}
use Rattle.sl_trace.specs.declared.input.Answer.{Answer}
use Rattle.sl_trace.specs.declared.input.Input.TheVariants.{Answer as Told, Exit, Line, Number, Spawned, Wake}
use Rattle.sl_trace.specs.declared.input.Input.{Input}
use Rattle.std.proofs.Common.{ap, refl, subst, sym, ◌∙◌}
use Rattle.std.specs.Prelude.{Bool, Contains, None, Some, cond, false, map, not, true, ℕ, ◌==◌, ◌≡◌}

-- ---- all that each act keeps

module _ (now : ℕ) (h : HostState) (st : Setting) (es : Trace) where
  first : (i : Input) → InputComes now i h st es → Known (begin_recoveries (begin_step st es now))
  first i c = begun_known st es (entry_at st es now i) c.setting c.follows c.stands.past (traces_stand st es c.setting c.stands.past)

  known_ready : (i : Input) → InputComes now i h st es → Known (at_input st es now)
  known_ready i c = (head_keeps Known (other_acts Known known_is_kept) st es now (first i c)).kept

  there : (i : Input) → InputComes now i h st es → Expects (at_input st es now) i
  there i c = expected_there st es now i c.follows.expected

  answered : (i : Input) → InputComes now i h st es → (number : ℕ) (answer : Answer) → i ≡ Told number answer → Known (take_input i (at_input st es now))
  answered i c number answer is =
      let bare = bare_at_input st es now in
      subst (λ z. Known (take_input z (at_input st es now))) (sym is)
      (answer_keeps Known known_is_kept (at_input st es now) number answer bare.0 bare.1
      (known_is_kept.hears (at_input st es now) number answer bare.0 bare.1.0 (subst (λ z. Expects (at_input st es now) z) is (there i c)) (known_ready i c)))

  taken_one : (i : Input) → InputComes now i h st es → Known (take_input i (at_input st es now))
  taken_one i c =
      let bare = bare_at_input st es now in
      others_keep Known (other_acts Known known_is_kept) (at_input st es now) i bare.0 bare.1.0 (answered i c)
      (arrives_as_expected Known (other_acts Known known_is_kept) (at_input st es now) i bare.0 bare.1.0 (there i c) (known_ready i c)) (known_ready i c)

  known_arrived : (i : Input) → InputComes now i h st es → Known (before_input (begin_step st es now))
  unfolding before_input
  known_arrived i c = known_ready i c

  known_taken : (i : Input) → InputComes now i h st es → Known (taken_step now i st es)
  unfolding before_input
  known_taken i c = taken_one i c

  known_woken : (i : Input) → InputComes now i h st es → Known (when (is_wake i) on_wake (taken_step now i st es))
  unfolding before_input take_input
  known_woken Wake c = wake_keeps Known (other_acts Known known_is_kept) (at_input st es now) (bare_at_input st es now).0 (known_ready Wake c)
  known_woken (Line text) c = known_taken (Line text) c
  known_woken (Number text) c = known_taken (Number text) c
  known_woken (Told n a) c = known_taken (Told n a) c
  known_woken (Exit p) c = known_taken (Exit p) c
  known_woken (Spawned p ok) c = known_taken (Spawned p ok) c

  known_ended : (i : Input) → InputComes now i h st es → Known (due_step st es now i)
  known_ended i c = step_keeps Known known_is_kept st es now i c.follows.expected (first i c)

-- ---- an answer is heard

heard_cut : (h : HostState) (c : OpenCall) (a : Answer) → IsCut h (hearing c a h)
heard_cut h c a = record { from = from; calls = λ d there. (kept_inside (λ (e : OpenCall). not (e.number == c.number)) h.unanswered d there).0; config = refl } where
  who : (m : MemberState) (b : Bool) → m.who ≡ (cond b (member_hearing h c a m) m).who
  who m true = refl
  who m false = refl

  leaving : (m : MemberState) (b : Bool) → m.known.leaving ≡ (cond b (member_hearing h c a m) m).known.leaving
  leaving m true = refl
  leaving m false = refl

  from : (z : MemberState) → Contains (hearing c a h).members z → Was h z
  from z inside_it =
      let inside = kept_inside (λ (m : MemberState). not (is_over_with c.number h m)) (map (λ (m : MemberState). cond (c.session == m.who.number) (member_hearing h c a m) m) h.members) z inside_it in
      let m = in_map (λ (m : MemberState). cond (c.session == m.who.number) (member_hearing h c a m) m) h.members z inside.0 in
      record {
        old = m.0;
        there = m.1;
        who = who m.0 (c.session == m.0.who.number) ∙ ap (λ (y : MemberState). y.who) m.2;
        leaving = leaving m.0 (c.session == m.0.who.number) ∙ ap (λ (y : MemberState). y.known.leaving) m.2;
      }

heard_sound : (h : HostState) (number : ℕ) (c : OpenCall) (a : Answer) → IsSound h → IsOpen h number c → IsSound (heard_answer number a h)
heard_sound h number c a k opens =
    subst IsSound (sym (ap (λ o. elim o as (λ z. HostState) [ None ↦ h | Some d ↦ hearing d a h ]) opens)) (sound_cut h (hearing c a h) (heard_cut h c a) k)

heard_known : (h : HostState) (x : Step) (number : ℕ) (a : Answer) → IsReady h x → is_expected x.setting x.past (Told number a) ≡ true → Known (with_input (Told number a) x)
heard_known h x number a r expected =
    known_is_kept.hears x number a r.stands.input (ap (λ (fx : Effects). fx.calls) r.stands.made ∙ r.early.at.calls) expected (r.kept, ready_stand h x r)

-- ---- a host follows

expected_at : (p : ℕ) (ok : Bool) (now : ℕ) (h : HostState) (st : Setting) (es : Trace) → InputComes now (Spawned p ok) h st es
    → is_expected (before_input (begin_step st es now)).setting (before_input (begin_step st es now)).past (Spawned p ok) ≡ true
unfolding before_input
expected_at p ok now h st es c = expected_there st es now (Spawned p ok) c.follows.expected

followed : (i : Input) (now : ℕ) (h : HostState) (st : Setting) (es : Trace) (g : HostState) (x : Step) → g ≡ before_taking (begun now h) → x ≡ before_input (begin_step st es now)
    → InputComes now i h st es → IsReady g x → MayTake i g x → Stands i (taking i g) (take_input i x) × IsSound (taking i g)
unfolding take_input
followed (Line text) now h st es g x is_g is_x c r may =
    (lines_follow g x text r.early r.sound may r.stands, lines_are_sound g x text r.stands r.sound (λ d says. (may d says).last))
followed (Number text) now h st es g x is_g is_x c r may = (inputs_follow.number g x text r.stands, inputs_are_sound.number g text r.sound)
followed (Told n a) now h st es g x is_g is_x c r may = (
  inputs_follow.answer n may.0 a g x (record { stands = r.stands; early = r.early; sound = r.sound; theirs = may.3; is_open = may.1; fits = may.2 }) may.4,
  answers_are_sound n a g r.sound,
)
followed (Exit p) now h st es g x is_g is_x c r may = (inputs_follow.exit g x p r.early r.stands, inputs_are_sound.exit g p r.sound)
followed (Spawned p ok) now h st es g x is_g is_x c r may = (
  inputs_follow.start g x p ok (subst (λ (y : Step). is_expected y.setting y.past (Spawned p ok) ≡ true) (sym is_x) (expected_at p ok now h st es c)) r.early r.stands,
  inputs_are_sound.start g p ok r.sound,
)
followed Wake now h st es g x is_g is_x c r may = (r.stands, r.sound)

moment : (i : Input) (h : HostState) (x : Step) → Stands i h x → IsSound h → Known x → IsMoment i h x
moment i h x s k known = record { stands = s; sound = k; kept = known.0; calls = known.1 }

taken : (now : ℕ) (i : Input) (h : HostState) (st : Setting) (es : Trace) → MayCome now i h st es → IsMoment i (taken_host now i h) (taken_step now i st es)
taken now i h st es c =
    let f = followed i now h st es (before_taking (begun now h)) (before_input (begin_step st es now)) refl refl c.0 (hosts_are_ready now i h st es c.0) (steps_are_taken.comes now i h st es c).may in
    moment i (taken_host now i h) (taken_step now i st es) f.0 f.1 (known_taken now h st es i c.0)

wakes : (h : HostState) (x : Step) → IsMoment Wake h x → Known (on_wake x) → IsMoment Wake (waking h) (on_wake x)
wakes h x m known = moment Wake (waking h) (on_wake x) (wakes_follow.stands h x m.sound m.stands) (wakes_follow.sound h x m.sound m.stands) known

woken_by : (i : Input) (h : HostState) (x : Step) → IsMoment i h x → Known (when (is_wake i) on_wake x) → IsMoment i (cond (is_wake i) (waking h) h) (when (is_wake i) on_wake x)
woken_by Wake h x m known = wakes h x m known
woken_by (Line text) h x m known = m
woken_by (Number text) h x m known = m
woken_by (Told n a) h x m known = m
woken_by (Exit p) h x m known = m
woken_by (Spawned p ok) h x m known = m

woken : (now : ℕ) (i : Input) (h : HostState) (st : Setting) (es : Trace) → MayCome now i h st es
    → IsMoment i (cond (is_wake i) (waking (taken_host now i h)) (taken_host now i h)) (when (is_wake i) on_wake (taken_step now i st es))
woken now i h st es c = woken_by i (taken_host now i h) (taken_step now i st es) (taken now i h st es c) (known_woken now h st es i c.0)

ended : (now : ℕ) (i : Input) (h : HostState) (st : Setting) (es : Trace) → MayCome now i h st es → IsMoment i (stepping now i h) (due_step st es now i)
unfolding due_step after_input
ended now i h st es c =
    let w = woken now i h st es c in
    let y : Step = when (is_wake i) on_wake (taken_step now i st es) in
    let g : HostState = cond (is_wake i) (waking (taken_host now i h)) (taken_host now i h) in
    moment i (stepping now i h) (due_step st es now i) (endings_follow.finish i g y w.sound w.stands) (endings_follow.sound i g y w.sound w.stands) (known_ended now h st es i c.0)

arrived : (now : ℕ) (i : Input) (h : HostState) (st : Setting) (es : Trace) → InputComes now i h st es → IsMoment Wake (before_taking (begun now h)) (before_input (begin_step st es now))
arrived now i h st es c =
    let r = hosts_are_ready now i h st es c in moment Wake (before_taking (begun now h)) (before_input (begin_step st es now)) r.stands r.sound (known_arrived now h st es i c)

pub moments_are_known : MomentsAreKnown
moments_are_known =
    record {
      ready = λ h x r. moment Wake h x r.stands r.sound (r.kept, ready_stand h x r);
      arrived = arrived;
      heard = λ h x number c a r expected opens fits.
          moment (Told number a) (heard_answer number a h) (with_input (Told number a) x) (answers_are_heard.heard number c a h x r.stands opens fits r.early.at) (heard_sound h number c a r.sound opens) (heard_known h x number a r expected);
      taken = taken;
      woken = woken;
      wakes = λ now h st es c. wakes (taken_host now Wake h) (taken_step now Wake st es) (taken now Wake h st es c) (known_woken now h st es Wake c.0);
      ended = ended;
    }
