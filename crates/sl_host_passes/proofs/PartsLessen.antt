-- What is due before an input takes jobs and members away, and adds none.
use Rattle.sl_host_law.specs.Answers.RefusalsFollow.{refusing, timing_out}
use Rattle.sl_host_law.specs.StepParts.Ends.{removing}
use Rattle.sl_host_law.specs.StepParts.Recoveries.{killing, recovering_in}
use Rattle.sl_host_law.specs.StepParts.Refusals.{signalling_and_refusing, jobs_but, numbers_of}
use Rattle.sl_host_law.specs.StepParts.Signals.{over, sending, signalling, telling}
use Rattle.sl_host_law.specs.Questions.Jobs.{is_overdue_in, joining_in}
use Rattle.sl_host_law.specs.Questions.Members.{holders_in}
use Rattle.sl_host_law.specs.Steps.Passes.{at_job, at_member, for_jobs, for_members, job_with, member_numbered}
use Rattle.sl_host_law.specs.Steps.StepFunction.{before_taking}
use Rattle.sl_host_passes.proofs.LessIsLeft.{IsMemberOf, Lessens, by_move, by_reply, by_signal, by_start, leases_same, less_by, lessens_not, lessens_on, lessens_over, lessens_some, lessens_where, member_same}
use Rattle.sl_host_state.specs.StepQuestions.{begins_in, is_kill_due_in, stopper_in}
use Rattle.sl_host_state.specs.HeardInputs.{beginning, begun, counted, is_late, member_begun, with_renewing}
use Rattle.sl_host_state.specs.KeptState.{HostState, MemberState}
use Rattle.sl_host_state.specs.MadeEffects.{has_write_open, with_move, with_reply, with_signal, with_start}
use Rattle.sl_host_state.specs.declared.kept_parts.JobState.{JobState}
use Rattle.sl_host_state.specs.declared.kept_parts.WaitingCall.{WaitingCall}
use Rattle.sl_words.proofs.Numbers.{refl_le}
use Rattle.sl_trace.specs.Traces.{first_child}
use Rattle.sl_trace.specs.declared.effects.Move.TheVariants.{Unregister}
use Rattle.sl_trace.specs.declared.effects.Signal.TheVariants.{Kill, Term}
use Rattle.sl_trace.specs.declared.effects.Signal.{Signal}
use Rattle.sl_trace.specs.declared.reply.Reply.TheVariants.{IoTimeout, Recovering}
use Rattle.sl_trace.specs.declared.reply.Reply.{Reply}
use Rattle.std.proofs.Common.{refl}
use Rattle.std.specs.List.{list_any}
use Rattle.std.specs.Prelude.{Bool, List, None, Option, Some, bytes_eq, cond, false, length, map, not, true, ℕ, ◌&&◌, ◌+◌, ◌-◌, ◌||◌}

told : (p : ℕ) (h : HostState) → Lessens h (telling p h)
told p h = by (stopper_in h p) where
  by : (o : Option (List ℕ)) → Lessens h (elim o as (λ z. HostState) [
    | None ↦ with_signal p Term h
    | Some program ↦ with_start (record { process = first_child + h.started; program = program; job = None; stands_for = Some p }) h
  ])
  by None = by_signal p Term h
  by (Some program) = by_start (record { process = first_child + h.started; program = program; job = None; stands_for = Some p }) h

sent : (s : Signal) (p : ℕ) (h : HostState) → Lessens h (sending p s h)
sent Term p h = told p h
sent Kill p h = by_signal p Kill h

signalled : (s : Signal) (m : MemberState) (h : HostState) → Lessens h (signalling s m h)
signalled s m h = lessens_over (λ p. sending p s) (λ p g. sent s p g) (holders_in h m) h

pub replied_all : (ns : List ℕ) (r : Reply) (h : HostState) → Lessens h (over ns (λ n. with_reply n r) h)
replied_all ns r h = lessens_over (λ n. with_reply n r) (λ n g. by_reply n r g) ns h

pub by_removing : (name : List ℕ) (h : HostState) → Lessens h (removing name h)
by_removing name h = lessens_where (list_any (λ n. bytes_eq n name) h.connected) h (with_move (Unregister name) h) h (by_move (Unregister name) h) (lessens_not h)

pub by_refusing : (job : ℕ) (r : Reply) (h : HostState) → Lessens h (refusing job r h)
by_refusing job r h = by (joining_in h job) where
  by : (o : Option MemberState) → Lessens h (elim o as (λ z. HostState) [
    | None ↦ with_reply job r h
    | Some m ↦ cond (not (has_write_open h m.who.number)) (removing m.who.lockspace (with_reply job r h)) (with_reply job r h)
  ])
  by None = by_reply job r h
  by (Some m) =
      lessens_where (not (has_write_open h m.who.number)) h (removing m.who.lockspace (with_reply job r h)) (with_reply job r h)
      (lessens_on h (with_reply job r h) (removing m.who.lockspace (with_reply job r h)) (by_reply job r h) (by_removing m.who.lockspace (with_reply job r h))) (by_reply job r h)

pub by_recovering : (m : MemberState) (h : HostState) → Lessens h (recovering_in m h)
by_recovering m h =
    lessens_where (begins_in h m.renewing.recovery) h (signalling_and_refusing m None h) h
    (lessens_on h (signalling Term m h) (signalling_and_refusing m None h) (signalled Term m h)
    (replied_all (numbers_of (jobs_but None (signalling Term m h) m)) (Recovering m.renewing.last) (signalling Term m h))) (lessens_not h)

pub by_killing : (m : MemberState) (h : HostState) → Lessens h (killing m h)
by_killing m h =
    lessens_where (m.joined && (is_kill_due_in h m.renewing.recovery || is_kill_due_in h m.leaving)) h (signalling Kill m h) h (signalled Kill m h) (lessens_not h)

pub by_timing : (j : JobState) (h : HostState) → Lessens h (timing_out j h)
by_timing j h =
    lessens_some j.waits (λ (c : WaitingCall). cond (is_overdue_in h c) (refusing j.number (IoTimeout c.number c.reading h.reading) h) h) h
    (λ c is. lessens_where (is_overdue_in h c) h (refusing j.number (IoTimeout c.number c.reading h.reading) h) h (by_refusing j.number (IoTimeout c.number c.reading h.reading) h) (lessens_not h))

-- ---- passes

pub at_one : (f : MemberState → HostState → HostState) → ((m : MemberState) (h : HostState) → Lessens h (f m h)) → (n : ℕ) (h : HostState) → Lessens h (at_member n f h)
at_one f each n h = lessens_some (member_numbered h n) (λ m. f m h) h (λ m is. each m h)

pub at_its : (f : JobState → HostState → HostState) → ((j : JobState) (h : HostState) → Lessens h (f j h)) → (n : ℕ) (h : HostState) → Lessens h (at_job n f h)
at_its f each n h = lessens_some (job_with h n) (λ j. f j h) h (λ j is. each j h)

pub for_all : (f : MemberState → HostState → HostState) → ((m : MemberState) (h : HostState) → Lessens h (f m h)) → (h : HostState) → Lessens h (for_members f h)
for_all f each h = lessens_over (λ n. at_member n f) (λ n g. at_one f each n g) (map (λ (m : MemberState). m.who.number) h.members) h

pub for_every : (f : JobState → HostState → HostState) → ((j : JobState) (h : HostState) → Lessens h (f j h)) → (h : HostState) → Lessens h (for_jobs f h)
for_every f each h = lessens_over (λ n. at_job n f) (λ n g. at_its f each n g) (map (λ (j : JobState). j.number) h.jobs) h

pub before_lessens : (h : HostState) → Lessens h (before_taking h)
before_lessens h =
    let a : HostState = for_members recovering_in h in
    let b : HostState = over a.members killing a in
    lessens_on h a (for_jobs timing_out b) (for_all recovering_in by_recovering h) (lessens_on a b (for_jobs timing_out b) (lessens_over killing by_killing a.members a) (for_every timing_out by_timing b))

-- ---- a step begins

member_is_begun : (g : HostState) (m : MemberState) → IsMemberOf m (member_begun g m)
member_is_begun g m = by (is_late g m) where
  by : (b : Bool) → IsMemberOf m (cond b (with_renewing (beginning g (g.entries - 1) m.renewing) m) m)
  by true = record { who = refl; leases = leases_same m.leases }
  by false = member_same m

pub begun_lessens : (now : ℕ) (h : HostState) → Lessens h (begun now h)
begun_lessens now h = record { holdings = refl; jobs = refl_le (length h.jobs); members = less_by (member_begun (counted now h)) (member_is_begun (counted now h)) h.members; born = refl; lines = refl }
