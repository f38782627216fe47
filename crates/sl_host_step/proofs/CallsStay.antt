-- Nothing that is due before an input makes a call, or answers one: the open calls stay, and what the host is made of.
use Rattle.sl_host_law.specs.Answers.RefusalsFollow.{refusing, timing_out}
use Rattle.sl_host_law.specs.StepParts.Ends.{removing}
use Rattle.sl_host_law.specs.StepParts.Recoveries.{killing, recovering_in}
use Rattle.sl_host_law.specs.StepParts.Refusals.{jobs_but, numbers_of, signalling_and_refusing}
use Rattle.sl_host_law.specs.StepParts.Signals.{over, sending, signalling, telling}
use Rattle.sl_host_law.specs.Questions.Jobs.{is_overdue_in, joining_in}
use Rattle.sl_host_law.specs.Questions.Members.{holders_in}
use Rattle.sl_host_law.specs.Steps.Passes.{at_job, at_member, for_jobs, for_members, job_with, member_numbered}
use Rattle.sl_host_law.specs.Steps.StepFunction.{before_taking}
use Rattle.sl_host_state.specs.StepQuestions.{begins_in, is_kill_due_in, stopper_in}
use Rattle.sl_host_state.specs.HeardInputs.{begun}
use Rattle.sl_host_state.specs.KeptState.{HostState, MemberState}
use Rattle.sl_host_state.specs.MadeEffects.{has_write_open, with_move, with_reply, with_signal, with_start}
use Rattle.sl_host_state.specs.declared.kept_parts.JobState.{JobState}
use Rattle.sl_host_state.specs.declared.kept_parts.WaitingCall.{WaitingCall}
use Rattle.sl_trace.specs.Traces.{first_child}
use Rattle.sl_trace.specs.declared.effects.Move.TheVariants.{Unregister}
use Rattle.sl_trace.specs.declared.effects.Signal.TheVariants.{Kill, Term}
use Rattle.sl_trace.specs.declared.effects.Signal.{Signal}
use Rattle.sl_trace.specs.declared.reply.Reply.TheVariants.{IoTimeout, Recovering}
use Rattle.sl_trace.specs.declared.reply.Reply.{Reply}
use Rattle.std.proofs.Common.{refl, ◌∙◌}
use Rattle.std.specs.List.{list_any}
use Rattle.std.specs.Prelude.{Bool, List, None, Option, Some, bytes_eq, cond, false, map, not, true, [], ℕ, ◌&&◌, ◌+◌, ◌∷◌, ◌||◌, ◌≡◌}

abbrev SameCalls : HostState → HostState → Type 0
SameCalls a b = (b.unanswered ≡ a.unanswered) × (b.config ≡ a.config)

same_on : (a b c : HostState) → SameCalls a b → SameCalls b c → SameCalls a c
same_on a b c x y = (y.0 ∙ x.0, y.1 ∙ x.1)

same_where : (b : Bool) (h f g : HostState) → SameCalls h f → SameCalls h g → SameCalls h (cond b f g)
same_where true h f g x y = x
same_where false h f g x y = y

same_some : {A : Type 0} (o : Option A) (f : A → HostState) (h : HostState) → ((x : A) → SameCalls h (f x)) → SameCalls h (elim o as (λ z. HostState) [ None ↦ h | Some x ↦ f x ])
same_some None f h each = (refl, refl)
same_some (Some x) f h each = each x

same_over : {A : Type 0} (f : A → HostState → HostState) → ((x : A) (h : HostState) → SameCalls h (f x h)) → (xs : List A) (h : HostState) → SameCalls h (over xs f h)
same_over f each [] h = (refl, refl)
same_over f each (x ∷ xs) h = same_on h (f x h) (over xs f (f x h)) (each x h) (same_over f each xs (f x h))

told : (p : ℕ) (h : HostState) → SameCalls h (telling p h)
told p h = by (stopper_in h p) where
  by : (o : Option (List ℕ)) → SameCalls h (elim o as (λ z. HostState) [
    | None ↦ with_signal p Term h
    | Some program ↦ with_start (record { process = first_child + h.started; program = program; job = None; stands_for = Some p }) h
  ])
  by None = (refl, refl)
  by (Some program) = (refl, refl)

sent : (s : Signal) (p : ℕ) (h : HostState) → SameCalls h (sending p s h)
sent Term p h = told p h
sent Kill p h = (refl, refl)

signalled : (s : Signal) (m : MemberState) (h : HostState) → SameCalls h (signalling s m h)
signalled s m h = same_over (λ p. sending p s) (λ p g. sent s p g) (holders_in h m) h

replied_all : (ns : List ℕ) (r : Reply) (h : HostState) → SameCalls h (over ns (λ n. with_reply n r) h)
replied_all ns r h = same_over (λ n. with_reply n r) (λ n g. (refl, refl)) ns h

by_removing : (name : List ℕ) (h : HostState) → SameCalls h (removing name h)
by_removing name h = same_where (list_any (λ n. bytes_eq n name) h.connected) h (with_move (Unregister name) h) h (refl, refl) (refl, refl)

by_refusing : (job : ℕ) (r : Reply) (h : HostState) → SameCalls h (refusing job r h)
by_refusing job r h = by (joining_in h job) where
  by : (o : Option MemberState) → SameCalls h (elim o as (λ z. HostState) [
    | None ↦ with_reply job r h
    | Some m ↦ cond (not (has_write_open h m.who.number)) (removing m.who.lockspace (with_reply job r h)) (with_reply job r h)
  ])
  by None = (refl, refl)
  by (Some m) =
      same_where (not (has_write_open h m.who.number)) h (removing m.who.lockspace (with_reply job r h)) (with_reply job r h)
      (same_on h (with_reply job r h) (removing m.who.lockspace (with_reply job r h)) (refl, refl) (by_removing m.who.lockspace (with_reply job r h))) (refl, refl)

by_recovering : (m : MemberState) (h : HostState) → SameCalls h (recovering_in m h)
by_recovering m h =
    same_where (begins_in h m.renewing.recovery) h (signalling_and_refusing m None h) h
    (same_on h (signalling Term m h) (signalling_and_refusing m None h) (signalled Term m h)
    (replied_all (numbers_of (jobs_but None (signalling Term m h) m)) (Recovering m.renewing.last) (signalling Term m h))) (refl, refl)

by_killing : (m : MemberState) (h : HostState) → SameCalls h (killing m h)
by_killing m h = same_where (m.joined && (is_kill_due_in h m.renewing.recovery || is_kill_due_in h m.leaving)) h (signalling Kill m h) h (signalled Kill m h) (refl, refl)

by_timing : (j : JobState) (h : HostState) → SameCalls h (timing_out j h)
by_timing j h =
    same_some j.waits (λ (c : WaitingCall). cond (is_overdue_in h c) (refusing j.number (IoTimeout c.number c.reading h.reading) h) h) h
    (λ c. same_where (is_overdue_in h c) h (refusing j.number (IoTimeout c.number c.reading h.reading) h) h (by_refusing j.number (IoTimeout c.number c.reading h.reading) h) (refl, refl))

at_one : (f : MemberState → HostState → HostState) → ((m : MemberState) (h : HostState) → SameCalls h (f m h)) → (n : ℕ) (h : HostState) → SameCalls h (at_member n f h)
at_one f each n h = same_some (member_numbered h n) (λ m. f m h) h (λ m. each m h)

at_its : (f : JobState → HostState → HostState) → ((j : JobState) (h : HostState) → SameCalls h (f j h)) → (n : ℕ) (h : HostState) → SameCalls h (at_job n f h)
at_its f each n h = same_some (job_with h n) (λ j. f j h) h (λ j. each j h)

before_same : (h : HostState) → SameCalls h (before_taking h)
before_same h =
    let a : HostState = for_members recovering_in h in
    let b : HostState = over a.members killing a in
    same_on h a (for_jobs timing_out b)
    (same_over (λ n. at_member n recovering_in) (λ n g. at_one recovering_in by_recovering n g) (map (λ (m : MemberState). m.who.number) h.members) h)
    (same_on a b (for_jobs timing_out b) (same_over killing by_killing a.members a)
    (same_over (λ n. at_job n timing_out) (λ n g. at_its timing_out by_timing n g) (map (λ (j : JobState). j.number) b.jobs) b))

pub calls_stay : (now : ℕ) (h : HostState) → (before_taking (begun now h)).unanswered ≡ h.unanswered
calls_stay now h = (before_same (begun now h)).0

pub config_stays : (now : ℕ) (h : HostState) → (before_taking (begun now h)).config ≡ h.config
config_stays now h = (before_same (begun now h)).1
