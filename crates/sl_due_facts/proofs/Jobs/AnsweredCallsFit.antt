-- Where an answer or the end of a step makes due what is done for a job, it is allowed.
use Rattle.sl_due_facts.proofs.Acts.InputsKeep.{has_heard}
use Rattle.sl_due_facts.specs.Acts.Acts.{Has, Hears}
use Rattle.sl_due_facts.specs.Acts.TraceSoFar.{SoFar}
use Rattle.sl_area.specs.AreaLayout.{request_offset}
use Rattle.sl_due.specs.DueRequests.{owner_read}
use Rattle.sl_due.specs.Steps.{Step, seen}
use Rattle.sl_due_facts.proofs.Jobs.CallsOfJobsFit.{no_job}
use Rattle.sl_due_facts.proofs.Jobs.CallsStandInAreas.{Roomy, roomy, spot_whole, stands_in}
use Rattle.sl_due_facts.proofs.Jobs.CallsStay.{late}
use Rattle.sl_due_facts.proofs.Jobs.EffectsAreAllowed.{DeltaAllowed, LeaseAllowed, RequestAllowed}
use Rattle.sl_due_facts.proofs.Jobs.JobFactsGrow.{Both, CallFits, IsFree, IsNumbered, itself as from_itself}
use Rattle.sl_due_facts.proofs.Jobs.JobsAreAllowed.{MayCall, MayMove, MayReply, MayStart, Meanwhile, caller_numbered, free_when_heard}
use Rattle.sl_due_facts.proofs.Jobs.LeaseCallsFit.{Works, asks_from, session_host, settling_allowed, work_allowed}
use Rattle.sl_due_facts.proofs.Jobs.RepliesComeAfter.{IsApartFrom, IsLateLease, late_from, on_bool, request_late}
use Rattle.sl_due_facts.proofs.Jobs.SessionsArePresent.{joined_present, present_inside, session_has}
use Rattle.sl_due_facts.proofs.Jobs.SessionsHaveJobs.{LeftBy, joined_by, left_by}
use Rattle.sl_run.specs.LawfulDelta.{LawfulDeltaCall, LawfulFree}
use Rattle.sl_trace.specs.Jobs.{aim_of, aim_of_command, command_numbered, command_of, resource_named}
use Rattle.sl_trace.specs.Leases.{spot_of, spot_of_call}
use Rattle.sl_trace.specs.declared.lease.Aim.{Aim}
use Rattle.sl_trace.specs.declared.lease.LeaseNext.{LeaseNext}
use Rattle.sl_words.proofs.Lists.{any_of, contains_none, find_inside, got_inside, kept}
use Rattle.sl_words.proofs.Numbers.{number_itself}
use Rattle.sl_words.proofs.Options.{mapped_value, some_of, some_there, then_value}
use Rattle.sl_sector.specs.Bitmaps.{no_bits}
use Rattle.sl_sector.specs.declared.sector.DeltaRec.{DeltaRec}
use Rattle.sl_sector.specs.declared.sector.DeltaState.TheVariants.{Free, Live}
use Rattle.sl_sector.specs.declared.sector.Rec.{Rec}
use Rattle.sl_sector.specs.declared.sector.Rec.TheVariants.{DeltaIs}
use Rattle.sl_trace.specs.DeltaDecisions.{DeltaLease, delta_of_session, delta_record, is_renewal_due, next_after_free, next_after_renewal, next_free, next_renewal, own_offset}
use Rattle.sl_trace.specs.Sessions.{calls_of, delta_of_record, generation_of, has_open_write, is_call_of, is_joined, is_session_arg, joined_after, last_seq, leaving_job, open_calls_of, removed_after, session_numbered, sessions}
use Rattle.sl_trace.specs.declared.delta.DeltaKnown.{DeltaKnown}
use Rattle.sl_trace.specs.declared.delta.DeltaNext.{DeltaNext}
use Rattle.sl_trace.specs.declared.delta.DeltaNext.TheVariants.{MoveConnection, Nothing, WriteFree, WriteRenewal}
use Rattle.sl_trace.specs.declared.session.Session.{Session}
use Rattle.sl_due_facts.specs.Facts.JobFacts.{FitsCommand, IsOfResource, SeeksResource}
use Rattle.sl_due_facts.specs.Facts.AllFacts.{Whole}
use Rattle.sl_trace.specs.Traces.{Job, Submitted, is_write, job_of, record_of, same_place, submitted}
use Rattle.sl_trace.specs.declared.command.Command.{Command}
use Rattle.sl_trace.specs.declared.command.Command.TheVariants.{Acquire, AddLockspace, Convert, GetLvb, HostStatus, InqLockspace, Release, ReleaseOrphan, RemLockspace, Request, RunProgram, SetKillpath, SetLvb, Status, TakeOver}
use Rattle.sl_trace.specs.declared.command.LockspaceArg.{LockspaceArg}
use Rattle.sl_trace.specs.declared.command.ResourceArg.{ResourceArg}
use Rattle.sl_trace.specs.declared.effects.LeaseStep.{LeaseStep}
use Rattle.sl_trace.specs.declared.effects.Op.{Op}
use Rattle.sl_trace.specs.declared.effects.Op.TheVariants.{ReadSectors, WriteRecord}
use Rattle.sl_trace.specs.declared.effects.Purpose.{Purpose}
use Rattle.sl_trace.specs.declared.effects.Purpose.TheVariants.{Joining, Lease, Leaving, Renewal, RequestRead, RequestWrite, SeeRequest, Survey, ValueRead, ValueWrite}
use Rattle.sl_trace.specs.declared.effects.Spot.{Spot}
use Rattle.sl_trace.specs.declared.effects.Work.{Work}
use Rattle.sl_trace.specs.declared.effects.Work.TheVariants.{ForJob, Settling}
use Rattle.sl_trace.specs.declared.input.Answer.{Answer}
use Rattle.sl_trace.specs.declared.input.Answer.TheVariants.{Failed, Read, Written}
use Rattle.sl_trace.specs.declared.reply.Reply.TheVariants.{Done, IoFault}
use Rattle.sl_run_law.proofs.Leases.NumberLaws.{number_is_place}
use Rattle.sl_run_law.proofs.Sessions.NamesAreApart.{writers_stay}
use Rattle.sl_run_law.proofs.Sessions.CallOwners.{calls_were_lawful}
use Rattle.sl_run_law.proofs.Sessions.MarksStay.{marks_stay}
use Rattle.sl_run_law.specs.Sessions.SessionLaws.{IsMade, WasLawful, front_of, made_as}
use Rattle.sl_words.proofs.CaseLaws.{none_some, one_value, some_value, true_is_false}
use Rattle.sl_words.proofs.WordLaws.{and_true}
use Rattle.std.proofs.Common.{ap, ap₂, refl, subst, sym, ◌∙◌}
use Rattle.std.proofs.lemmas.Slice.Eq.{bytes_eq-Decides}
use Rattle.std.specs.Prelude.{Bool, Contains, List, None, Option, Result, Some, [], bytes_eq, false, is_none, is_some, option_and_then, option_map, true, ℕ, ◌%◌, ◌&&◌, ◌+◌, ◌==◌, ◌∷◌, ◌≡◌}

pub both_of : (x : Step) → Whole x → Both x
both_of x h = (h.facts.calls, h.facts.jobs)

pub at : (x : Step) → Both x → Meanwhile x x
at x h = (h, from_itself x)

-- ---- a heard call of a lease

pub heard_works : (x : Step) (s : Session) (m : Submitted) (answer : Answer) (j : ℕ) (step : LeaseStep) (aim : Aim) → Whole x → Hears x s m answer → m.call.purpose ≡ Lease (ForJob j) step
    → aim_of x.setting (seen x) (ForJob j) ≡ Some aim → (w : Works x s (spot_of_call x.setting.layout m) j) × SeeksResource w.resource step
heard_works x s m answer j step aim h hears is aims =
    let b : Both x = both_of x h in
    let of : job_of m.call.purpose ≡ Some j = ap (λ p. job_of p) is in
    let there = (find_inside (λ (z : Submitted). z.call.number == hears.number) (submitted (seen x)) m hears.call).0 in
    let command = then_value aim_of_command (command_numbered x.setting (seen x) j) aim aims in
    let fits : FitsCommand x.setting s m command.0 (Lease (ForJob j) step) = subst (λ (p : Purpose). FitsCommand x.setting s m command.0 p) is (b.1.fits m j s command.0 there of hears.session command.1) in
    let room : Roomy x.setting.layout = roomy x.setting h.setting in
    let has : Has x s = has_heard x s m answer hears in (
      record {
        has = has;
        free = free_when_heard x s m answer j b hears of;
        command = command.0;
        reads = command.1;
        resource = fits.0;
        names = fits.1;
        aims = fits.2;
        lockspace = fits.3.0;
        spot = fits.3.1;
        whole = spot_whole x.setting.layout m room.whole;
        room = room;
        host = session_host x.setting (seen x) s h.setting (got_inside (sessions x.setting (seen x)) s.number s has);
      },
      fits.4,
    )

pub lease_allowed : (x : Step) (s : Session) (m : Submitted) (answer : Answer) (work : Work) (step : LeaseStep) (aim : Aim) (n : LeaseNext) → Whole x → Hears x s m answer → m.call.purpose ≡ Lease work step
    → aim_of x.setting (seen x) work ≡ Some aim → IsApartFrom step n → LeaseAllowed (MayReply x) (MayCall x) (MayStart x) x s (spot_of_call x.setting.layout m) work n
lease_allowed x s m answer Settling step aim n h hears is aims after = settling_allowed x s (spot_of_call x.setting.layout m) n (has_heard x s m answer hears)
lease_allowed x s m answer (ForJob j) step aim n h hears is aims after =
    let works = heard_works x s m answer j step aim h hears is aims in
    work_allowed x x s (spot_of_call x.setting.layout m) j n refl (λ i c reads. reads) works.0 (asks_from works.0.resource step n works.1 after) (λ r eq. late x r (subst (λ k. IsLateLease k) eq (late_from step n after)))

-- ---- a heard read of a request

pub request_allowed : (x : Step) (s : Session) (m : Submitted) (j : ℕ) (bytes : List ℕ) (c : Command) → Whole x → Hears x s m (Read bytes) → m.call.purpose ≡ RequestRead j → command_numbered x.setting (seen x) j ≡ Some c
    → RequestAllowed (MayReply x) (MayCall x) x s j bytes c
request_allowed x s m j bytes c h hears is reads = by c (b.1.fits m j s c there of hears.session reads) reads where
  b : Both x
  b = both_of x h

  of : job_of m.call.purpose ≡ Some j
  of = ap (λ p. job_of p) is

  there : Contains (submitted (seen x)) m
  there = (find_inside (λ (z : Submitted). z.call.number == hears.number) (submitted (seen x)) m hears.call).0

  allowed : (r q : ResourceArg) (asked force lver how : ℕ) → Request r asked force ≡ Request q lver how → IsOfResource x.setting s m q → command_numbered x.setting (seen x) j ≡ Some (Request r asked force) → RequestAllowed (MayReply x) (MayCall x) x s j bytes (Request r asked force)
  allowed r q asked force lver how same its command =
      let one : q ≡ r = some_value q r (ap (λ z. resource_named z) (sym same)) in
      let mine : IsOfResource x.setting s m r = subst (λ (z : ResourceArg). IsOfResource x.setting s m z) one its in
      let room : Roomy x.setting.layout = roomy x.setting h.setting in
      let whole : r.offset % x.setting.layout.area ≡ 0 = ap (λ (z : Spot). z.base % x.setting.layout.area) (sym mine.1) ∙ spot_whole x.setting.layout m room.whole in (
        λ why refused. (caller_numbered x m j (both_of x h) there of, late x why (request_late x.setting.layout s.lockspace r asked force bytes why refused)),
        (
          has_heard x s m (Read bytes) hears,
          λ i its_job. subst (λ n. CallFits x s r.path (RequestWrite j (owner_read x.setting.layout bytes)) (request_offset x.setting.layout r.offset) n) (some_value j i its_job) (record {
            command = Request r asked force;
            reads = command;
            free = free_when_heard x s m (Read bytes) j (both_of x h) hears of;
            fits = λ n path at. (r, asked, force, refl, (mine.0, stands_in x.setting.layout n (spot_of r) x.setting.layout.sector whole room.two path at));
          }),
        ),
      )

  by : (d : Command) → FitsCommand x.setting s m d m.call.purpose → command_numbered x.setting (seen x) j ≡ Some d → RequestAllowed (MayReply x) (MayCall x) x s j bytes d
  by (Request r asked force) fits command =
      let its : FitsCommand x.setting s m (Request r asked force) (RequestRead j) = subst (λ (p : Purpose). FitsCommand x.setting s m (Request r asked force) p) is fits in
      allowed r its.0 asked force its.1 its.2 its.3 its.4 command
  by (AddLockspace a) fits command = tt
  by (RemLockspace a) fits command = tt
  by (InqLockspace a) fits command = tt
  by (HostStatus a) fits command = tt
  by (Acquire r shared p persistent) fits command = tt
  by (TakeOver r shared p persistent) fits command = tt
  by (Release r p) fits command = tt
  by (ReleaseOrphan r) fits command = tt
  by (Convert r shared p) fits command = tt
  by (RunProgram r shared path) fits command = tt
  by (GetLvb r p) fits command = tt
  by (SetLvb r p bytes2) fits command = tt
  by (SetKillpath p path) fits command = tt
  by Status fits command = tt

-- ---- a leaving

pub freed_allowed : (x : Step) (s : Session) (m : Submitted) (j call : ℕ) (answer : Answer) → IsNumbered x j → DeltaAllowed (MayReply x) (MayCall x) MayMove x s (next_after_free j call answer)
freed_allowed x s m j call Written its = (tt, (its, late x Done refl))
freed_allowed x s m j call Failed its = (tt, (its, late x (IoFault call) refl))
freed_allowed x s m j call (Read bytes) its = tt

pub renewed_allowed : (x : Step) (s : Session) (recovering : Bool) (made : ℕ) (answer : Answer) → Has x s → DeltaAllowed (MayReply x) (MayCall x) MayMove x s (next_after_renewal recovering made answer)
renewed_allowed x s recovering made Written has = on_bool (DeltaAllowed (MayReply x) (MayCall x) MayMove x s) recovering (MoveConnection made) Nothing (tt, (has, λ i of. no_job refl i of)) tt
renewed_allowed x s recovering made Failed has = tt
renewed_allowed x s recovering made (Read bytes) has = tt

pub renewal_allowed : (x : Step) (s : Session) (l : DeltaLease) (now : ℕ) (k : DeltaKnown) (bits : List ℕ) → Has x s → DeltaAllowed (MayReply x) (MayCall x) MayMove x s (next_renewal l now k bits)
unfolding next_renewal
renewal_allowed x s l now k bits has =
    on_bool (DeltaAllowed (MayReply x) (MayCall x) MayMove x s) (is_renewal_due l now k) Nothing (WriteRenewal (delta_record l Live k.generation (k.seq + 1) now bits)) tt (has, λ i of. no_job refl i of)

pub free_allowed : (x : Step) (s : Session) (l : DeltaLease) (now : ℕ) (k : DeltaKnown) → ((j : ℕ) → k.leaving ≡ Some j → (d : DeltaRec) → MayCall x s s.path (Leaving j) (own_offset x.setting s) (WriteRecord (DeltaIs d)))
    → DeltaAllowed (MayReply x) (MayCall x) MayMove x s (next_free l now k)
free_allowed x s l now k may = by k.leaving refl where
  by : (o : Option ℕ) → k.leaving ≡ o
      → DeltaAllowed (MayReply x) (MayCall x) MayMove x s (elim o as (λ z. DeltaNext) [ None ↦ Nothing | Some j ↦ elim k.freed as (λ z. DeltaNext) [ true ↦ Nothing | false ↦ WriteFree j (delta_record l Free k.generation (k.seq + 1) now no_bits) ] ])
  by None is = tt
  by (Some j) is =
      on_bool (DeltaAllowed (MayReply x) (MayCall x) MayMove x s) k.freed (WriteFree j (delta_record l Free k.generation (k.seq + 1) now no_bits)) Nothing (may j is (delta_record l Free k.generation (k.seq + 1) now no_bits)) tt

-- The commands that leave.
abbrev pub leaves_lockspace : Command → Bool
leaves_lockspace (RemLockspace a) = true
leaves_lockspace c = false

not_leaving : {c d : Command} → leaves_lockspace c ≡ true → leaves_lockspace d ≡ false → c ≡ d → ⊥
not_leaving yes_one no_other is = true_is_false (sym yes_one ∙ (ap (λ z. leaves_lockspace z) is ∙ no_other))

pub record_writes : (o : Op) (r : Rec) → record_of o ≡ Some r → is_write o ≡ true
record_writes (ReadSectors n) r is = absurd (none_some r is)
record_writes (WriteRecord w) r is = refl

-- A call of the job of a leaving is the free of a session of that name.
abbrev pub left_by_command : Command → Option LockspaceArg
left_by_command (RemLockspace a) = Some a
left_by_command c = None

leaving_is : (x : Step) (k : Job) (arg : LockspaceArg) (m : Submitted) (z : Session) → Both x → Contains (submitted (seen x)) m → session_numbered x.setting (seen x) m.call.session ≡ Some z
    → command_numbered x.setting (seen x) k.number ≡ Some (RemLockspace arg) → (p : Purpose) → job_of p ≡ Some k.number → FitsCommand x.setting z m (RemLockspace arg) p → (i : ℕ) × (p ≡ Leaving i) × (is_session_arg z arg ≡ true)
leaving_is x k arg m z h there its reads (Leaving i) of fits = (i, refl, subst (λ (a : LockspaceArg). is_session_arg z a ≡ true) (sym (some_value arg fits.0 (ap (λ c. left_by_command c) fits.1))) fits.2)
leaving_is x k arg m z h there its reads (Joining i step) of fits =
    let b = joined_by x.setting (seen x) z i (got_inside (sessions x.setting (seen x)) m.call.session z its) fits in
    absurd (not_leaving refl refl (one_value (RemLockspace arg) (AddLockspace b.arg) (command_numbered x.setting (seen x) k.number) reads (subst (λ n. command_numbered x.setting (seen x) n ≡ Some (AddLockspace b.arg)) (some_value i k.number of) b.command)))
leaving_is x k arg m z h there its reads (Lease work step) of fits = absurd (none_some fits.0 fits.1)
leaving_is x k arg m z h there its reads (RequestRead i) of fits = absurd (not_leaving refl refl fits.3)
leaving_is x k arg m z h there its reads (RequestWrite i owner) of fits = absurd (not_leaving refl refl fits.3)
leaving_is x k arg m z h there its reads (ValueRead i) of fits = absurd (not_leaving refl refl fits.2)
leaving_is x k arg m z h there its reads (ValueWrite i) of fits = absurd (not_leaving refl refl fits.3)
leaving_is x k arg m z h there its reads Renewal of fits = absurd (none_some k.number of)
leaving_is x k arg m z h there its reads Survey of fits = absurd (none_some k.number of)
leaving_is x k arg m z h there its reads SeeRequest of fits = absurd (none_some k.number of)

pub arg_name : (s : Session) (a : LockspaceArg) → is_session_arg s a ≡ true → a.name ≡ s.lockspace
arg_name s a is = (bytes_eq-Decides a.name s.lockspace).0 (and_true (bytes_eq a.name s.lockspace) (a.id == s.id) (and_true (bytes_eq a.name s.lockspace && a.id == s.id) (same_place a.path a.offset s.path s.offset) is).0).0

-- A session whose free is unanswered is joined.
freeing_joined : (x : Step) (m : Submitted) (z : Session) (i : ℕ) → SoFar x → Has x z → Contains (submitted (seen x)) m → m.call.session ≡ z.number → m.answer ≡ None → m.call.purpose ≡ Leaving i → is_joined (seen x) z ≡ true
freeing_joined x m z i orderly has there its none is =
    let was : WasLawful x.setting (seen x) z m = calls_were_lawful x.setting (seen x) z m orderly has there its in
    let d : IsMade (seen x) m = was.made in
    let free : LawfulFree x.setting (front_of d) z (made_as d) = subst (λ (p : Purpose). LawfulDeltaCall x.setting (front_of d) z (made_as d) p) is was.lawful in
    let then = and_true (is_joined (front_of d) z) (is_some (leaving_job x.setting (front_of d) z)) free.leaving in
    let joined = some_there (joined_after (d.entry ∷ d.past) z) (and_true (is_some (joined_after (front_of d) z)) (is_none (removed_after (front_of d) z)) then.0).0 in
    let now : joined_after (seen x) z ≡ Some joined.0 = subst (λ es. joined_after es z ≡ Some joined.0) (sym d.whole) (marks_stay.joined d.later (d.entry ∷ d.past) z joined.0 joined.1) in
    let wrote = then_value delta_of_record (record_of m.call.op) (delta_record (delta_of_session x.setting z) Free (generation_of (front_of d) z) (last_seq (front_of d) z + 1) (made_as d).reading no_bits) free.written in
    let writes : is_write m.call.op ≡ true = record_writes m.call.op wrote.0 wrote.1 in
    let mine : Contains (calls_of (seen x) z) m = kept (is_call_of z) (submitted (seen x)) m (ap (λ n. n == z.number) its ∙ number_itself z.number) there in
    let unmet : Contains (open_calls_of (seen x) z) m = kept (λ (n : Submitted). is_none n.answer) (calls_of (seen x) z) m (ap (λ o. is_none o) none) mine in
    let open_write : has_open_write (seen x) z ≡ true = any_of (λ (n : Submitted). is_write n.call.op) (open_calls_of (seen x) z) m writes unmet in
    let stays : removed_after (seen x) z ≡ None = writers_stay x.setting (seen x) z orderly has open_write in
    ap₂ (λ j r. is_some j && is_none r) now stays

-- So it is the session's own, and there is none.
pub leaving_free : (x : Step) (s : Session) (k : Job) (arg : LockspaceArg) → Whole x → Has x s → is_joined (seen x) s ≡ true → is_session_arg s arg ≡ true → command_numbered x.setting (seen x) k.number ≡ Some (RemLockspace arg)
    → open_calls_of (seen x) s ≡ [] → IsFree x k.number
leaving_free x s k arg h has joined names reads quiet m there none of =
    let z = some_of (session_numbered x.setting (seen x) m.call.session) (h.facts.calls.owned m there) in
    let inside : Contains (sessions x.setting (seen x)) z.0 = got_inside (sessions x.setting (seen x)) m.call.session z.0 z.1 in
    let is = leaving_is x k arg m z.0 (both_of x h) there z.1 reads m.call.purpose of (h.facts.jobs.fits m k.number z.0 (RemLockspace arg) there of z.1 reads) in
    let its : m.call.session ≡ z.0.number = sym (number_is_place x.setting (seen x) m.call.session z.0 z.1) in
    let also : is_joined (seen x) z.0 ≡ true = freeing_joined x m z.0 is.0 h.orderly (session_has x.setting (seen x) z.0 inside) there its none is.1 in
    let mine : Contains (sessions x.setting (seen x)) s = got_inside (sessions x.setting (seen x)) s.number s has in
    let one : z.0 ≡ s =
    h.facts.names.apart z.0 s (present_inside x.setting (seen x) z.0 inside (joined_present (seen x) z.0 also)) (present_inside x.setting (seen x) s mine (joined_present (seen x) s joined)) (sym (arg_name z.0 arg is.2) ∙ arg_name s arg names)
    in
    let of_s : Contains (calls_of (seen x) s) m = kept (is_call_of s) (submitted (seen x)) m (ap (λ n. n == s.number) (its ∙ ap (λ (q : Session). q.number) one) ∙ number_itself s.number) there in
    contains_none m (subst (λ ms. Contains ms m) quiet (kept (λ (n : Submitted). is_none n.answer) (calls_of (seen x) s) m (ap (λ o. is_none o) none) of_s))

pub leaving_call : (x : Step) (s : Session) → Whole x → Has x s → is_joined (seen x) s ≡ true → open_calls_of (seen x) s ≡ [] → (j : ℕ) → option_map (λ (k : Job). k.number) (leaving_job x.setting (seen x) s) ≡ Some j → (d : DeltaRec)
    → MayCall x s s.path (Leaving j) (own_offset x.setting s) (WriteRecord (DeltaIs d))
leaving_call x s h has joined quiet j leaves d =
    let k = mapped_value (λ (z : Job). z.number) (leaving_job x.setting (seen x) s) j leaves in
    let by : LeftBy x.setting (seen x) s k.0 = left_by x.setting (seen x) s k.0 k.1 in
    let reads : command_numbered x.setting (seen x) k.0.number ≡ Some (RemLockspace by.arg) =
    ap (λ o. option_and_then command_of o) by.job ∙ ap (λ (o : Result Command ℕ). command_of (record { number = k.0.number; at = k.0.at; reading = k.0.reading; command = o })) by.command
    in (
      has,
      λ i of. subst (λ n. CallFits x s s.path (Leaving j) (own_offset x.setting s) n) (some_value j i of)
          (subst (λ n. CallFits x s s.path (Leaving j) (own_offset x.setting s) n) k.2 (record { command = RemLockspace by.arg; reads = reads; free = leaving_free x s k.0 by.arg h has joined by.names reads quiet; fits = λ m path at. (by.arg, refl, by.names) })),
    )
