-- Recoveries that begin, jobs that are refused, calls that are overdue: as the state functions say.
use Rattle.sl_host_law.specs.Answers.RefusalsFollow.{refusing, timing_out}
use Rattle.sl_host_law.specs.StepParts.Ends.{removing}
use Rattle.sl_host_law.specs.StepParts.Recoveries.{recovering_in}
use Rattle.sl_host_law.specs.StepParts.Refusals.{replying_to, signalling_and_refusing}
use Rattle.sl_host_law.specs.StepParts.Signals.{signalling}
use Rattle.sl_host_law.specs.Questions.Jobs.{is_overdue_in, joining_in}
use Rattle.sl_host_law.specs.Steps.Passes.{at_job, at_member, job_with, member_numbered}
use Rattle.sl_host_state.specs.StepQuestions.{begins_in}
use Rattle.sl_host_state.specs.KeptState.{HostKept, HostState, MemberState}
use Rattle.sl_host_state.specs.MadeEffects.{has_write_open, with_reply}
use Rattle.sl_host_state.specs.declared.kept_parts.JobState.{JobState}
use Rattle.sl_host_state.specs.declared.kept_parts.WaitingCall.{WaitingCall}
use Rattle.sl_host_work.specs.Stops.{overdue_of, parted_with, recovering_of, stopped_of, stopping, stopping_cost}
use Rattle.sl_host_work.specs.declared.recoveries.Stopped.{Stopped}
use Rattle.sl_trace.specs.Jobs.{lockspace_named}
use Rattle.sl_words.proofs.Lists.{filter_both, find_inside}
use Rattle.sl_trace.specs.declared.effects.Signal.TheVariants.{Term}
use Rattle.sl_trace.specs.declared.reply.Reply.TheVariants.{IoTimeout, Recovering}
use Rattle.sl_trace.specs.declared.reply.Reply.{Reply}
use Rattle.sl_words.proofs.CaseLaws.{none_some, some_value}
use Rattle.sl_words.specs.Words.{choose, some_is}
use Rattle.std.proofs.Common.{ap, refl, sym, ◌∙◌}
use Rattle.std.proofs.lemmas.Bool.{eqb-true}
use Rattle.std.specs.Prelude.{Bool, List, None, Option, Some, bytes_eq, cond, false, find, map, not, option_and_then, true, ℕ, ◌==◌, ◌≡◌}

-- ---- what code finds

pub recovering_some : (h : HostState) (m : MemberState) (o : Option MemberState) (r : Option Stopped) → Some m ≡ o → r ≡ recovering_of h (Some m) → r ≡ recovering_of h o
recovering_some h m o r is it = it ∙ ap (λ z. recovering_of h z) is

pub recovering_none : (h : HostState) (o : Option MemberState) → None ≡ o → None ≡ recovering_of h o
recovering_none h o is = ap (λ z. recovering_of h z) is

pub overdue_some : (h : HostState) (j : JobState) (o : Option JobState) (r : Option WaitingCall) → Some j ≡ o → r ≡ overdue_of h (Some j) → r ≡ overdue_of h o
overdue_some h j o r is it = it ∙ ap (λ z. overdue_of h z) is

pub overdue_none : (h : HostState) (o : Option JobState) → None ≡ o → None ≡ overdue_of h o
overdue_none h o is = ap (λ z. overdue_of h z) is

pub parted_some : (h : HostState) (m : MemberState) (o : Option MemberState) (r : Option (List ℕ)) → Some m ≡ o → r ≡ parted_with h (Some m) → r ≡ parted_with h o
parted_some h m o r is it = it ∙ ap (λ z. parted_with h z) is

pub parted_none : (h : HostState) (o : Option MemberState) → None ≡ o → None ≡ parted_with h o
parted_none h o is = ap (λ z. parted_with h z) is

-- ---- a recovery or a leaving begins

-- Whether a job names the member's lockspace, and is not the one that is kept.
abbrev names_it : MemberState → JobState → Bool
names_it m j = some_is (λ c. some_is (λ n. bytes_eq n m.who.lockspace) (lockspace_named c)) j.command

abbrev not_kept : Option ℕ → JobState → Bool
not_kept but j = not (some_is (λ k. k == j.number) but)

pub stopping_is : (m : MemberState) (but : Option ℕ) (h : HostState) → stopping (stopped_of m) but h ≡ signalling_and_refusing m but h
stopping_is m but h =
    ap (λ (js : List JobState). replying_to (map (λ j. j.number) js) (Recovering m.renewing.last) (signalling Term m h)) (filter_both (names_it m) (not_kept but) (signalling Term m h).jobs)

recovered : (h : HostState) (m : MemberState) (b : Bool) (s : Stopped) → begins_in h m.renewing.recovery ≡ b → Some s ≡ choose b (stopped_of m) → stopping s None h ≡ recovering_in m h
recovered h m true s begins is =
    ap (λ z. stopping z None h) (some_value s (stopped_of m) is) ∙ (stopping_is m None h ∙ sym (ap (λ b. cond b (signalling_and_refusing m None h) h) begins))
recovered h m false s begins is = absurd (none_some s (sym is))

spared : (h : HostState) (m : MemberState) (b : Bool) → begins_in h m.renewing.recovery ≡ b → None ≡ choose b (stopped_of m) → h ≡ recovering_in m h
spared h m true begins is = absurd (none_some (stopped_of m) is)
spared h m false begins is = sym (ap (λ b. cond b (signalling_and_refusing m None h) h) begins)

-- Of the member that was looked up.
abbrev at_found : Option MemberState → HostState → HostState
at_found o h = elim o as (λ z. HostState) [ None ↦ h | Some m ↦ recovering_in m h ]

recovered_found : (h : HostState) (o : Option MemberState) (s : Stopped) → Some s ≡ recovering_of h o → stopping s None h ≡ at_found o h
recovered_found h None s is = absurd (none_some s (sym is))
recovered_found h (Some m) s is = recovered h m (begins_in h m.renewing.recovery) s refl is

spared_found : (h : HostState) (o : Option MemberState) → None ≡ recovering_of h o → h ≡ at_found o h
spared_found h None is = refl
spared_found h (Some m) is = spared h m (begins_in h m.renewing.recovery) refl is

pub recovery_is : (n : ℕ) (h : HostState) (s : Stopped) → Some s ≡ recovering_of h (member_numbered h n) → stopping s None h ≡ at_member n recovering_in h
recovery_is n h s is = recovered_found h (member_numbered h n) s is

pub no_recovery_is : (n : ℕ) (h : HostState) → None ≡ recovering_of h (member_numbered h n) → h ≡ at_member n recovering_in h
no_recovery_is n h is = spared_found h (member_numbered h n) is

-- ---- a job is refused

abbrev refused_so : Option MemberState → ℕ → Reply → HostState → HostState
refused_so o job r h =
    elim o as (λ z. HostState) [
      | None ↦ with_reply job r h
      | Some m ↦ cond (not (has_write_open h m.who.number)) (removing m.who.lockspace (with_reply job r h)) (with_reply job r h)
    ]

parts : (h : HostState) (m : MemberState) (job : ℕ) (r : Reply) (name : List ℕ) (b : Bool) → not (has_write_open h m.who.number) ≡ b → Some name ≡ choose b m.who.lockspace
    → removing name (with_reply job r h) ≡ cond (not (has_write_open h m.who.number)) (removing m.who.lockspace (with_reply job r h)) (with_reply job r h)
parts h m job r name true writes is =
    ap (λ z. removing z (with_reply job r h)) (some_value name m.who.lockspace is) ∙ sym (ap (λ b. cond b (removing m.who.lockspace (with_reply job r h)) (with_reply job r h)) writes)
parts h m job r name false writes is = absurd (none_some name (sym is))

parts_not : (h : HostState) (m : MemberState) (job : ℕ) (r : Reply) (b : Bool) → not (has_write_open h m.who.number) ≡ b → None ≡ choose b m.who.lockspace
    → with_reply job r h ≡ cond (not (has_write_open h m.who.number)) (removing m.who.lockspace (with_reply job r h)) (with_reply job r h)
parts_not h m job r true writes is = absurd (none_some m.who.lockspace is)
parts_not h m job r false writes is = sym (ap (λ b. cond b (removing m.who.lockspace (with_reply job r h)) (with_reply job r h)) writes)

parts_found : (h : HostState) (o : Option MemberState) (job : ℕ) (r : Reply) (name : List ℕ) → Some name ≡ parted_with h o → removing name (with_reply job r h) ≡ refused_so o job r h
parts_found h None job r name is = absurd (none_some name (sym is))
parts_found h (Some m) job r name is = parts h m job r name (not (has_write_open h m.who.number)) refl is

stays_found : (h : HostState) (o : Option MemberState) (job : ℕ) (r : Reply) → None ≡ parted_with h o → with_reply job r h ≡ refused_so o job r h
stays_found h None job r is = refl
stays_found h (Some m) job r is = parts_not h m job r (not (has_write_open h m.who.number)) refl is

pub refusal_parts : (job : ℕ) (r : Reply) (h : HostState) (name : List ℕ) → Some name ≡ parted_with h (joining_in h job) → removing name (with_reply job r h) ≡ refusing job r h
refusal_parts job r h name is = parts_found h (joining_in h job) job r name is

pub refusal_stays : (job : ℕ) (r : Reply) (h : HostState) → None ≡ parted_with h (joining_in h job) → with_reply job r h ≡ refusing job r h
refusal_stays job r h is = stays_found h (joining_in h job) job r is

pub cost_is : (k : HostKept) (o : Option Stopped) (s : Stopped) → Some s ≡ o → stopping_cost k (Some s) ≡ stopping_cost k o
cost_is k o s is = ap (λ z. stopping_cost k z) is

-- ---- a call is overdue

-- The job's reply.
abbrev pub timed_out : WaitingCall → HostState → Reply
timed_out c h = IoTimeout c.number c.reading h.reading

abbrev timing_so : Option WaitingCall → ℕ → HostState → HostState
timing_so o n h = elim o as (λ z. HostState) [ None ↦ h | Some c ↦ cond (is_overdue_in h c) (refusing n (timed_out c h) h) h ]

chosen_late : (h : HostState) (c d : WaitingCall) (n : ℕ) (b : Bool) → is_overdue_in h c ≡ b → Some d ≡ choose b c → refusing n (timed_out d h) h ≡ cond (is_overdue_in h c) (refusing n (timed_out c h) h) h
chosen_late h c d n true late is = ap (λ z. refusing n (timed_out z h) h) (some_value d c is) ∙ sym (ap (λ b. cond b (refusing n (timed_out c h) h) h) late)
chosen_late h c d n false late is = absurd (none_some d (sym is))

chosen_soon : (h : HostState) (c : WaitingCall) (n : ℕ) (b : Bool) → is_overdue_in h c ≡ b → None ≡ choose b c → h ≡ cond (is_overdue_in h c) (refusing n (timed_out c h) h) h
chosen_soon h c n true late is = absurd (none_some c is)
chosen_soon h c n false late is = sym (ap (λ b. cond b (refusing n (timed_out c h) h) h) late)

late_waits : (h : HostState) (o : Option WaitingCall) (d : WaitingCall) (n : ℕ) → Some d ≡ option_and_then (λ c. choose (is_overdue_in h c) c) o → refusing n (timed_out d h) h ≡ timing_so o n h
late_waits h None d n is = absurd (none_some d (sym is))
late_waits h (Some c) d n is = chosen_late h c d n (is_overdue_in h c) refl is

soon_waits : (h : HostState) (o : Option WaitingCall) (n : ℕ) → None ≡ option_and_then (λ c. choose (is_overdue_in h c) c) o → h ≡ timing_so o n h
soon_waits h None n is = refl
soon_waits h (Some c) n is = chosen_soon h c n (is_overdue_in h c) refl is

abbrev timing_found : Option JobState → HostState → HostState
timing_found o h = elim o as (λ z. HostState) [ None ↦ h | Some j ↦ timing_out j h ]

late_found : (h : HostState) (o : Option JobState) (d : WaitingCall) (n : ℕ) → ((j : JobState) → o ≡ Some j → j.number ≡ n) → Some d ≡ overdue_of h o → refusing n (timed_out d h) h ≡ timing_found o h
late_found h None d n its is = absurd (none_some d (sym is))
late_found h (Some j) d n its is = late_waits h j.waits d n is ∙ ap (λ k. timing_so j.waits k h) (sym (its j refl))

soon_found : (h : HostState) (o : Option JobState) → None ≡ overdue_of h o → h ≡ timing_found o h
soon_found h None is = refl
soon_found h (Some j) is = soon_waits h j.waits j.number is

its_number : (js : List JobState) (n : ℕ) (j : JobState) → find (λ j. j.number == n) js ≡ Some j → j.number ≡ n
its_number js n j is = eqb-true j.number n (find_inside (λ j. j.number == n) js j is).1

pub timed_out_is : (n : ℕ) (h : HostState) (d : WaitingCall) → Some d ≡ overdue_of h (job_with h n) → refusing n (timed_out d h) h ≡ at_job n timing_out h
timed_out_is n h d is = late_found h (job_with h n) d n (λ j found. its_number h.jobs n j found) is

pub not_timed_out_is : (n : ℕ) (h : HostState) → None ≡ overdue_of h (job_with h n) → h ≡ at_job n timing_out h
not_timed_out_is n h is = soon_found h (job_with h n) is
