-- A joining goes on by time: its job waits for no call, and no call on its sector is open.
use Rattle.sl_due_facts.proofs.Acts.LoopsKeep.{when_keeps, with_some_keeps}
use Rattle.sl_due_facts.proofs.Acts.SessionsStay.{Stays, delta_stays}
use Rattle.sl_due_facts.specs.Acts.Acts.{Has}
use Rattle.sl_host_law.proofs.Answers.WakingsFollow.{IsTimeDecision, time_decides, wakings_follow}
use Rattle.sl_host_law.specs.Answers.CarriedDecisions.{carrying, own_sector, reading_own, registering}
use Rattle.sl_host_law.specs.Answers.RefusalsFollow.{refusing}
use Rattle.sl_host_law.specs.Answers.WakingsFollow.{joining_by_time}
use Rattle.sl_host_law.specs.Calls.MemberCalls.{is_idle_job}
use Rattle.sl_due.specs.CarriedDelta.{carry_delta}
use Rattle.sl_due.specs.DueWake.{join_on_wake}
use Rattle.sl_due.specs.Steps.{Step, seen, when}
use Rattle.sl_host_law.proofs.SharedFacts.IdleJobs.{open_of_job}
use Rattle.sl_host_law.proofs.SharedFacts.KeptJobs.{running_there}
use Rattle.sl_host_law.proofs.SharedFacts.PlainLists.{each_of, none_any}
use Rattle.sl_host_state.specs.KeptState.{HostState, MemberState}
use Rattle.sl_host_state.specs.MadeEffects.{has_write_open, next_submitted, with_call, with_reply}
use Rattle.sl_host_state.specs.HostStands.{AreInTurn, MemberStands, Stands, is_kept_of, kept_job, kept_waiting, newest_of}
use Rattle.sl_host_state.specs.declared.kept_parts.JobState.{JobState}
use Rattle.sl_host_state.specs.declared.kept_parts.JoinCall.{JoinCall}
use Rattle.sl_host_state.specs.declared.kept_parts.OpenCall.{OpenCall}
use Rattle.sl_host_law.proofs.Steps.JoiningNamesApart.{alone, not_joined}
use Rattle.sl_host_law.proofs.Steps.PassesFollow.{IsPass}
use Rattle.sl_host_law.proofs.Steps.SoundParts.{IsCut, cut_move, cut_same, sound_call, sound_cut, sound_removing, sound_reply}
use Rattle.sl_host_law.specs.Steps.SoundHosts.{IsSound, JoiningsOwn}
use Rattle.sl_host_law.proofs.StepParts.GoneDoNothing.{gone_do_nothing}
use Rattle.sl_host_law.specs.StepParts.Ends.{removing}
use Rattle.sl_host_law.specs.StepParts.Wakes.{delta_in, next_by_newest}
use Rattle.sl_words.proofs.Lists.{any_found, any_of, contains_cases, find_inside, got_inside, in_map, kept, kept_inside}
use Rattle.sl_words.proofs.Options.{none_is}
use Rattle.sl_host_law.specs.Questions.Jobs.{joining_in, running_in}
use Rattle.sl_host_law.specs.Questions.Members.{IsMemberAt}
use Rattle.sl_host_law.proofs.Replies.OpenCallsAreKept.{open_delta_is}
use Rattle.sl_trace.specs.DeltaDecisions.{DeltaLease, delta_of_session, join_step_of, next_by_time, next_on_wake}
use Rattle.sl_trace.specs.Sessions.{calls_of, has_open_delta, is_delta_purpose, is_join_done, open_calls_of}
use Rattle.sl_trace.specs.declared.delta.DeltaKnown.{DeltaKnown}
use Rattle.sl_trace.specs.declared.delta.DeltaNext.TheVariants.{Disconnect, EndLeaving, Join, MoveConnection, Nothing, ReadOwn, RefuseJoin, RegisterAndRead, WriteClaim, WriteFirst, WriteFree, WriteRenewal}
use Rattle.sl_trace.specs.declared.delta.DeltaNext.{DeltaNext}
use Rattle.sl_trace.specs.declared.session.Session.{Session}
use Rattle.sl_time.specs.Times.{fail}
use Rattle.sl_trace.specs.Traces.{Answered, Replied, Setting, Submitted, Trace, is_of_job, is_running, outstanding, reply_to, running_jobs, waiting_call}
use Rattle.sl_trace.specs.declared.effects.JoinStep.{JoinStep}
use Rattle.sl_trace.specs.declared.effects.Move.TheVariants.{Register}
use Rattle.sl_trace.specs.declared.effects.Op.TheVariants.{ReadSectors}
use Rattle.sl_trace.specs.declared.effects.Op.{Op}
use Rattle.sl_trace.specs.declared.effects.Purpose.TheVariants.{Joining, Lease, Leaving, Renewal, RequestRead, RequestWrite, SeeRequest, Survey, ValueRead, ValueWrite}
use Rattle.sl_trace.specs.declared.effects.Purpose.{Purpose}
use Rattle.sl_trace.specs.declared.input.Input.TheVariants.{Wake}
use Rattle.sl_trace.specs.declared.input.Input.{Input}
use Rattle.sl_trace.specs.declared.reply.Reply.{Reply}
use Rattle.sl_words.proofs.CaseLaws.{is_false, none_some, some_value, true_is_false}
use Rattle.sl_words.specs.Words.{choose}
use Rattle.std.proofs.Common.{ap, inl, inr, refl, subst, sym, ◌∙◌}
use Rattle.std.proofs.lemmas.Bool.Decides.{Decides-eqb}
use Rattle.std.specs.List.{AllByRecursion, list_any}
use Rattle.std.specs.Prelude.{Bool, Contains, IsTrue, List, None, Option, Some, cond, false, filter, find, is_none, is_some, not, option_and_then, option_map, slice_get, true, [], ℕ, ◌+◌, ◌&&◌, ◌==◌, ◌∷◌, ◌≡◌}

-- ---- the newest call is answered, so all are

step_is_delta : (p : Purpose) (step : JoinStep) → join_step_of p ≡ Some step → is_delta_purpose p ≡ true
step_is_delta (Joining j s) step is = refl
step_is_delta Renewal step is = absurd (none_some step is)
step_is_delta Survey step is = absurd (none_some step is)
step_is_delta (Leaving j) step is = absurd (none_some step is)
step_is_delta (Lease work s) step is = absurd (none_some step is)
step_is_delta (RequestRead j) step is = absurd (none_some step is)
step_is_delta (RequestWrite j owner) step is = absurd (none_some step is)
step_is_delta SeeRequest step is = absurd (none_some step is)
step_is_delta (ValueWrite j) step is = absurd (none_some step is)
step_is_delta (ValueRead j) step is = absurd (none_some step is)

all_answered : (cs : List Submitted) (n : JoinCall) → newest_of cs ≡ Some n → is_some n.answered ≡ true → AreInTurn (filter (λ c. is_delta_purpose c.call.purpose) cs)
    → (d : Submitted) → Contains cs d → is_delta_purpose d.call.purpose ≡ true → is_some d.answer ≡ true
all_answered [] n newest answered turn d there delta = absurd (none_some n newest)
all_answered (c ∷ cs) n newest answered turn d there delta = by (join_step_of c.call.purpose) refl newest where
  some_stays : {A B : Type 0} (f : A → B) (o : Option A) → is_some (option_map f o) ≡ is_some o
  some_stays f None = refl
  some_stays f (Some a) = refl

  by : (o : Option JoinStep) → join_step_of c.call.purpose ≡ o → option_map (λ step. record { step = step; made = c.reading; answered = option_map (λ (a : Answered). a.reading) c.answer }) o ≡ Some n
      → is_some d.answer ≡ true
  by None is newest = absurd (none_some n newest)
  by (Some step) is newest =
      let kept_of : JoinCall = record { step = step; made = c.reading; answered = option_map (λ (a : Answered). a.reading) c.answer } in
      let own : is_some c.answer ≡ true = sym (some_stays (λ (a : Answered). a.reading) c.answer) ∙ ap (λ (z : JoinCall). is_some z.answered) (some_value kept_of n newest) ∙ answered in
      let rest : AllByRecursion (λ m. IsTrue (is_some m.answer)) (filter (λ m. is_delta_purpose m.call.purpose) cs) =
      subst (λ b. AreInTurn (cond b (c ∷ filter (λ m. is_delta_purpose m.call.purpose) cs) (filter (λ m. is_delta_purpose m.call.purpose) cs))) (step_is_delta c.call.purpose step is) turn
      in
      elim (contains_cases c cs d there) [
        | inl same ↦ ap (λ (z : Submitted). is_some z.answer) (sym same) ∙ own
        | inr later ↦ each_of (λ m. IsTrue (is_some m.answer)) (filter (λ m. is_delta_purpose m.call.purpose) cs) d rest (kept (λ m. is_delta_purpose m.call.purpose) cs d delta later)
      ]

pub not_refused : (st : Setting) (es : Trace) (m : MemberState) (n : ℕ) → MemberStands st es m → m.who.job ≡ Some n → is_running es n ≡ true → m.refused ≡ false
not_refused st es m n stands job runs =
    sym stands.refused
    ∙ ap (λ o. is_some (elim o as (λ z. Option ℕ) [ None ↦ None | Some j ↦ option_and_then (λ a. choose (not (is_join_done a.reply)) (a.at + 1)) (reply_to es j) ])) job
    ∙ ap (λ o. is_some (option_and_then (λ (a : Replied). choose (not (is_join_done a.reply)) (a.at + 1)) o)) (none_is (reply_to es n) runs)

idle_sector : (i : Input) (h : HostState) (x : Step) (k : ℕ) (m : MemberState) (j : ℕ) (n : JoinCall) → IsMemberAt i h x k m → m.who.job ≡ Some j → running_in h j ≡ true → m.joining.newest ≡ Some n
    → is_some n.answered ≡ true → m.known.busy ≡ false
idle_sector i h x k m j n at job runs newest answered =
    let stands : MemberStands x.setting (seen x) m = at.stands.keeps.members k m at.there in
    let of_trace = running_there h x.setting (seen x) j at.stands.keeps runs in
    let still : (not m.joined && not m.refused) ≡ true =
    ap (λ b. not b && not m.refused) (not_joined x.setting (seen x) m j stands job of_trace.3) ∙ ap not (not_refused x.setting (seen x) m j stands job of_trace.3)
    in
    sym (ap (λ (d : DeltaKnown). d.busy) stands.known)
    ∙ is_false (has_open_delta (seen x) m.who) (λ busy.
    (let d = any_found (λ (c : Submitted). is_delta_purpose c.call.purpose) (open_calls_of (seen x) m.who) busy in
    let inside = kept_inside (λ (c : Submitted). is_none c.answer) (calls_of (seen x) m.who) d.0 d.1 in
    let is : is_some d.0.answer ≡ true = all_answered (calls_of (seen x) m.who) n ((stands.joining still).newest ∙ newest) answered stands.turn d.0 inside.0 d.2 in
    none_some_both d.0.answer inside.1 is)) where
      none_some_both : {A : Type 0} (o : Option A) → is_none o ≡ true → is_some o ≡ true → ⊥
      none_some_both None a b = true_is_false (sym b)
      none_some_both (Some z) a b = true_is_false (sym a)

idle_job : (i : Input) (h : HostState) (x : Step) (k : ℕ) (m : MemberState) (j : ℕ) → IsMemberAt i h x k m → JoiningsOwn h → m.who.job ≡ Some j → running_in h j ≡ true → m.known.busy ≡ false
    → is_idle_job h j ≡ true
idle_job i h x k m j at own job runs busy =
    let keeps = at.stands.keeps in
    let stands : MemberStands x.setting (seen x) m = keeps.members k m at.there in
    let none : list_any (is_kept_of j) h.unanswered ≡ false =
    is_false (list_any (is_kept_of j) h.unanswered) (λ some.
    (let c = any_found (is_kept_of j) h.unanswered some in
    let its = own.calls m c.0 j (got_inside h.members k m at.there) c.1 job c.2 in
    let open_delta : has_open_delta (seen x) m.who ≡ true =
    open_delta_is (seen x) m.who h.unanswered keeps.unanswered
    ∙ any_of (λ (d : OpenCall). d.session == m.who.number && is_delta_purpose d.purpose) h.unanswered c.0 (both (c.0.session == m.who.number) (is_delta_purpose c.0.purpose) its.0 its.1) c.1
    in
    true_is_false (sym open_delta ∙ ap (λ (d : DeltaKnown). d.busy) stands.known ∙ busy)))
    in
    let z = any_found (λ (s : JobState). s.number == j) h.jobs runs in
    let number : z.0.number ≡ j = (Decides-eqb z.0.number j).0 z.2 in
    let jb = in_map (kept_job (seen x)) (running_jobs x.setting (seen x)) z.0 (subst (λ js. Contains js z.0) (sym keeps.jobs) z.1) in
    let job_number : jb.0.number ≡ j = ap (λ (s : JobState). s.number) jb.2 ∙ number in
    let unwaited : waiting_call (seen x) jb.0.number ≡ None =
    subst (λ n. waiting_call (seen x) n ≡ None) (sym job_number) (nowhere (is_of_job j) (outstanding (seen x)) (sym (open_of_job h x.setting (seen x) j keeps) ∙ none))
    in
    let waits : z.0.waits ≡ None = sym (ap (λ (s : JobState). s.waits) jb.2) ∙ ap (option_map kept_waiting) unwaited in
    any_of (λ (s : JobState). s.number == j && is_none s.waits) h.jobs z.0 (both (z.0.number == j) (is_none z.0.waits) z.2 (ap (λ o. is_none o) waits)) z.1 where
      both : (a b : Bool) → a ≡ true → b ≡ true → (a && b) ≡ true
      both true b p q = q
      both false b p q = absurd (true_is_false (sym p))

      nowhere : {A : Type 0} (p : A → Bool) (xs : List A) → list_any p xs ≡ false → find p xs ≡ None
      nowhere p xs none = by (find p xs) refl where
        by : (o : Option _) → find p xs ≡ o → o ≡ None
        by None is = refl
        by (Some y) is = (let f = find_inside p xs y is in absurd (true_is_false (sym f.1 ∙ none_any p xs y none f.0)))

-- ---- the pass

taken : (h : HostState) (x : Step) (k : ℕ) (m : MemberState) → IsSound h → IsMemberAt Wake h x k m → Stands Wake (joining_by_time m h) (join_on_wake m.who x)
taken h x k m p at =
    wakings_follow.joins h x k m at (λ j job runs.
    record {
      idle = λ n newest answered.
          (let sector : m.known.busy ≡ false = idle_sector Wake h x k m j n at job runs newest answered in
          record { job = idle_job Wake h x k m j at p.joinings job runs sector; sector = sector });
      alone = alone Wake h x j at.stands p.names runs;
    })

-- A joining's call is its own.
pub joining_call : (h g : HostState) (m : MemberState) (j : ℕ) (step : JoinStep) (path : List ℕ) (offset : ℕ) (op : Op) → IsCut h g → IsSound h → Contains h.members m → m.who.job ≡ Some j
    → IsSound (with_call m.who.number path (Joining j step) offset op g)
joining_call h g m j step path offset op cut k inside job =
    sound_call g (next_submitted g m.who.number path (Joining j step) offset op)
    (record {
      leaving = λ z n there leaves of.
          (let w = cut.from z there in absurd (k.leavings.others m w.old n inside w.there (job ∙ ap (λ y. Some y) ((Decides-eqb j n).0 of)) (w.leaving ∙ leaves)));
      joining = λ z n there is of.
          (let w = cut.from z there in (
            (Decides-eqb m.who.number z.who.number).1
                (ap (λ (t : Session). t.number)
                (k.joinings.apart m w.old n inside w.there (job ∙ ap (λ y. Some y) ((Decides-eqb j n).0 of)) (ap (λ (t : Session). t.job) w.who ∙ is) ∙ w.who)),
            refl,
          ));
    }) (sound_cut h g cut k)

pub refusing_sound : (n : ℕ) (r : Reply) (h : HostState) → IsSound h → IsSound (refusing n r h)
refusing_sound n r h p = by (joining_in h n) where
  one : (m : MemberState) (b : Bool) → IsSound (cond b (removing m.who.lockspace (with_reply n r h)) (with_reply n r h))
  one m true = sound_removing m.who.lockspace (with_reply n r h) (sound_reply h n r p)
  one m false = sound_reply h n r p

  by : (o : Option MemberState) → IsSound (elim o as (λ z. HostState) [
    | None ↦ with_reply n r h
    | Some m ↦ cond (not (has_write_open h m.who.number)) (removing m.who.lockspace (with_reply n r h)) (with_reply n r h)
  ])
  by None = sound_reply h n r p
  by (Some m) = one m (not (has_write_open h m.who.number))

decided_sound : (h : HostState) (k : ℕ) (m : MemberState) (j : ℕ) (next : DeltaNext) → slice_get h.members k ≡ Some m → m.who.job ≡ Some j → IsTimeDecision next → IsSound h → IsSound (carrying m.who next h)
decided_sound h k m j Nothing there job is p = p
decided_sound h k m j (RefuseJoin r) there job is p = by m.who.job where
  by : (o : Option ℕ) → IsSound (elim o as (λ z. HostState) [ None ↦ h | Some n ↦ refusing n r h ])
  by None = p
  by (Some n) = refusing_sound n r h p
decided_sound h k m j (ReadOwn step) there job is p =
    subst (λ o. IsSound (elim o as (λ z. HostState) [ None ↦ h | Some n ↦ reading_own m.who (Joining n step) h ])) (sym job)
    (joining_call h h m j step m.who.path (own_sector h m.who) (ReadSectors 1) (cut_same h) p (got_inside h.members k m there) job)
decided_sound h k m j (RegisterAndRead step) there job is p =
    subst (λ o. IsSound (elim o as (λ z. HostState) [ None ↦ h | Some n ↦ reading_own m.who (Joining n step) (registering m.who h) ])) (sym job)
    (joining_call h (registering m.who h) m j step m.who.path (own_sector (registering m.who h) m.who) (ReadSectors 1) (cut_move h (Register m.who.lockspace (h.reading + fail h.config.timing))) p (got_inside h.members k m there) job)
decided_sound h k m j (WriteClaim d) there job is p = absurd is
decided_sound h k m j Disconnect there job is p = absurd is
decided_sound h k m j (WriteFirst d) there job is p = absurd is
decided_sound h k m j (Join g r) there job is p = absurd is
decided_sound h k m j (MoveConnection r) there job is p = absurd is
decided_sound h k m j (WriteRenewal d) there job is p = absurd is
decided_sound h k m j (WriteFree n d) there job is p = absurd is
decided_sound h k m j (EndLeaving n r) there job is p = absurd is

kept_sound : (h : HostState) (x : Step) (k : ℕ) (m : MemberState) → IsSound h → IsMemberAt Wake h x k m → IsSound (joining_by_time m h)
kept_sound h x k m p at = by m.who.job refl where
  by_answer : (l : DeltaLease) (n : JoinCall) (o : Option ℕ) → IsTimeDecision (elim o as (λ z. DeltaNext) [ None ↦ Nothing | Some a ↦ next_by_time l h.reading n.made a n.step ])
  by_answer l n None = tt
  by_answer l n (Some a) = time_decides l h.reading n.made a n.step

  decides : (l : DeltaLease) (o : Option JoinCall) → IsTimeDecision (next_by_newest l h.reading o)
  decides l None = tt
  decides l (Some n) = by_answer l n n.answered

  one : (j : ℕ) → m.who.job ≡ Some j → (b : Bool) → IsSound (cond b (carrying m.who (next_by_newest (delta_in h m) h.reading m.joining.newest) h) h)
  one j is true = decided_sound h k m j (next_by_newest (delta_in h m) h.reading m.joining.newest) at.there is (decides (delta_in h m) m.joining.newest) p
  one j is false = p

  by : (o : Option ℕ) → m.who.job ≡ o
      → IsSound (elim o as (λ z. HostState) [ None ↦ h | Some j ↦ cond (running_in h j) (carrying m.who (next_by_newest (delta_in h m) h.reading m.joining.newest) h) h ])
  by None is = p
  by (Some j) is = one j is (running_in h j)

join_stays : (x y : Step) (s : Session) → Has x s → Stays x y → Stays x (join_on_wake s y)
unfolding join_on_wake
join_stays x y s has is =
    with_some_keeps (Stays x) s.job (λ j z. when (is_running (seen z) j) (carry_delta s (next_on_wake (delta_of_session z.setting s) z.reading (calls_of (seen z) s))) z) y
    (λ j its k.
    when_keeps (Stays x) (is_running (seen y) j) (carry_delta s (next_on_wake (delta_of_session y.setting s) y.reading (calls_of (seen y) s))) y
    (λ b f. delta_stays x y s (next_on_wake (delta_of_session y.setting s) y.reading (calls_of (seen y) s)) f) k) is

pub joins : IsPass Wake IsSound joining_by_time join_on_wake
joins =
    record {
      takes = λ h x k m p at. taken h x k m p at;
      keeps = λ h x k m p at. kept_sound h x k m p at;
      gone = λ h x s p gone. gone_do_nothing.joins Wake h x s gone;
      stays = join_stays;
    }
