-- What comes before an input leaves a host sound.
use Rattle.sl_host_law.specs.Answers.RefusalsFollow.{refusing, timing_out}
use Rattle.sl_host_state.specs.StepQuestions.{begins_in, is_kill_due_in, stopper_in}
use Rattle.sl_host_state.specs.HeardInputs.{beginning, begun, counted, is_late, member_begun, with_renewing}
use Rattle.sl_host_state.specs.KeptState.{HostState, MemberState}
use Rattle.sl_host_state.specs.MadeEffects.{with_reply, with_signal, with_start}
use Rattle.sl_host_state.specs.declared.kept_parts.JobState.{JobState}
use Rattle.sl_host_state.specs.declared.kept_parts.WaitingCall.{WaitingCall}
use Rattle.sl_host_law.proofs.Steps.EarlyParts.{over_keeps}
use Rattle.sl_host_law.proofs.Steps.InputsFollow.{same_members}
use Rattle.sl_host_law.proofs.Steps.JoiningsWake.{refusing_sound}
use Rattle.sl_host_law.proofs.Steps.SoundParts.{Was, sound_cut, sound_reply}
use Rattle.sl_host_law.specs.Steps.Passes.{at_job, at_member, for_members, job_with, member_numbered}
use Rattle.sl_host_law.specs.Steps.SoundHosts.{IsSound}
use Rattle.sl_host_law.specs.Steps.StepFunction.{before_taking}
use Rattle.sl_host_law.specs.StepParts.Recoveries.{killing, recovering_in}
use Rattle.sl_host_law.specs.StepParts.Refusals.{jobs_but, numbers_of, signalling_and_refusing}
use Rattle.sl_host_law.specs.StepParts.Signals.{over, sending, signalling}
use Rattle.sl_words.proofs.Lists.{in_map}
use Rattle.sl_host_law.specs.Questions.Jobs.{is_overdue_in}
use Rattle.sl_host_law.specs.Questions.Members.{holders_in}
use Rattle.sl_trace.specs.Traces.{first_child}
use Rattle.sl_trace.specs.declared.effects.Signal.TheVariants.{Kill, Term}
use Rattle.sl_trace.specs.declared.effects.Signal.{Signal}
use Rattle.sl_trace.specs.declared.reply.Reply.TheVariants.{IoTimeout, Recovering}
use Rattle.std.proofs.Common.{ap, refl, ◌∙◌}
use Rattle.std.specs.Prelude.{Bool, Contains, List, None, Option, Some, cond, false, map, true, ℕ, ◌+◌, ◌-◌, ◌&&◌, ◌≡◌, ◌||◌}

begun_sound : (now : ℕ) (h : HostState) → IsSound h → IsSound (begun now h)
begun_sound now h k = sound_cut h (begun now h) (record { from = λ m there. from m (in_map (member_begun (counted now h)) h.members m there); calls = λ c there. there; config = refl }) k where
  who : (m : MemberState) (b : Bool) → m.who ≡ (cond b (with_renewing (beginning (counted now h) ((counted now h).entries - 1) m.renewing) m) m).who
  who m true = refl
  who m false = refl

  leaving : (m : MemberState) (b : Bool) → m.known.leaving ≡ (cond b (with_renewing (beginning (counted now h) ((counted now h).entries - 1) m.renewing) m) m).known.leaving
  leaving m true = refl
  leaving m false = refl

  from : (m : MemberState) → (z : MemberState) × Contains h.members z × (member_begun (counted now h) z ≡ m) → Was h m
  from m z =
      record {
        old = z.0;
        there = z.1;
        who = who z.0 (is_late (counted now h) z.0) ∙ ap (λ (y : MemberState). y.who) z.2;
        leaving = leaving z.0 (is_late (counted now h) z.0) ∙ ap (λ (y : MemberState). y.known.leaving) z.2;
      }

pub sending_sound : (p : ℕ) (s : Signal) (h : HostState) → IsSound h → IsSound (sending p s h)
sending_sound p Kill h k = same_members h (with_signal p Kill h) refl refl refl k
sending_sound p Term h k = by (stopper_in h p) where
  by : (o : Option (List ℕ)) → IsSound (elim o as (λ z. HostState) [
    | None ↦ with_signal p Term h
    | Some program ↦ with_start (record { process = first_child + h.started; program = program; job = None; stands_for = Some p }) h
  ])
  by None = same_members h (with_signal p Term h) refl refl refl k
  by (Some program) = same_members h (with_start (record { process = first_child + h.started; program = program; job = None; stands_for = Some p }) h) refl refl refl k

pub signalling_sound : (s : Signal) (m : MemberState) (h : HostState) → IsSound h → IsSound (signalling s m h)
signalling_sound s m h k = over_keeps IsSound (holders_in h m) (λ p. sending p s) h (λ p g z. sending_sound p s g z) k

pub stopping_sound : (m : MemberState) (kept : Option ℕ) (h : HostState) → IsSound h → IsSound (signalling_and_refusing m kept h)
stopping_sound m kept h k =
    over_keeps IsSound (numbers_of (jobs_but kept (signalling Term m h) m)) (λ n. with_reply n (Recovering m.renewing.last)) (signalling Term m h)
    (λ n g z. sound_reply g n (Recovering m.renewing.last) z) (signalling_sound Term m h k)

pub recovering_sound : (m : MemberState) (h : HostState) → IsSound h → IsSound (recovering_in m h)
recovering_sound m h k = by (begins_in h m.renewing.recovery) where
  by : (b : Bool) → IsSound (cond b (signalling_and_refusing m None h) h)
  by true =
      over_keeps IsSound (numbers_of (jobs_but None (signalling Term m h) m)) (λ n. with_reply n (Recovering m.renewing.last)) (signalling Term m h)
      (λ n g z. sound_reply g n (Recovering m.renewing.last) z) (signalling_sound Term m h k)
  by false = k

killing_sound : (m : MemberState) (h : HostState) → IsSound h → IsSound (killing m h)
killing_sound m h k = by (m.joined && (is_kill_due_in h m.renewing.recovery || is_kill_due_in h m.leaving)) where
  by : (b : Bool) → IsSound (cond b (signalling Kill m h) h)
  by true = signalling_sound Kill m h k
  by false = k

timing_sound : (j : JobState) (h : HostState) → IsSound h → IsSound (timing_out j h)
timing_sound j h k = by j.waits where
  one : (c : WaitingCall) (b : Bool) → IsSound (cond b (refusing j.number (IoTimeout c.number c.reading h.reading) h) h)
  one c true = refusing_sound j.number (IoTimeout c.number c.reading h.reading) h k
  one c false = k

  by : (o : Option WaitingCall) → IsSound (elim o as (λ z. HostState) [ None ↦ h | Some c ↦ cond (is_overdue_in h c) (refusing j.number (IoTimeout c.number c.reading h.reading) h) h ])
  by None = k
  by (Some c) = one c (is_overdue_in h c)

for_members_keeps : (f : MemberState → HostState → HostState) (h : HostState) → ((m : MemberState) (g : HostState) → IsSound g → IsSound (f m g)) → IsSound h → IsSound (for_members f h)
for_members_keeps f h keeps k = over_keeps IsSound (map (λ m. m.who.number) h.members) (λ n. at_member n f) h (λ n g z. by (member_numbered g n) g z) k where
  by : (o : Option MemberState) (g : HostState) → IsSound g → IsSound (elim o as (λ z. HostState) [ None ↦ g | Some m ↦ f m g ])
  by None g z = z
  by (Some m) g z = keeps m g z

pub before_sound : (now : ℕ) (h : HostState) → IsSound h → IsSound (before_taking (begun now h))
before_sound now h k =
    let g : HostState = for_members recovering_in (begun now h) in
    let one : IsSound g = for_members_keeps recovering_in (begun now h) recovering_sound (begun_sound now h k) in
    let two : IsSound (over g.members killing g) = over_keeps IsSound g.members killing g killing_sound one in
    over_keeps IsSound (map (λ j. j.number) (over g.members killing g).jobs) (λ n. at_job n timing_out) (over g.members killing g) (λ n f z. by (job_with f n) f z) two where
      by : (o : Option JobState) (f : HostState) → IsSound f → IsSound (elim o as (λ z. HostState) [ None ↦ f | Some j ↦ timing_out j f ])
      by None f z = z
      by (Some j) f z = timing_sound j f z
