-- An answer leaves a host sound, whatever it makes due.
use Rattle.sl_host_law.specs.Answers.CarriedDecisions.{carrying, connecting, reading_own, registering, surveying, writing_own}
use Rattle.sl_host_law.specs.Answers.LeaseAnswers.{area_of}
use Rattle.sl_host_law.specs.Answers.LeaseDecisions.{carrying_lease, converted, converting, converting_for, granting_for}
use Rattle.sl_host_law.specs.Answers.RefusalsFollow.{refusing}
use Rattle.sl_host_law.specs.StepParts.Signals.{sending}
use Rattle.sl_host_law.specs.StepParts.Refusals.{signalling_and_refusing}
use Rattle.sl_host_law.specs.Answers.Requests.{answering_job, on_given, requesting, requesting_for, seeing_request, writing_request}
use Rattle.sl_host_law.specs.Answers.Surveys.{exclusive_of, is_asked_by, reading_request, reading_request_on, reading_requests, recovering_by_read, surveyed_in}
use Rattle.sl_delta.specs.DeltaDecisions.{after_join, claim_next, is_over_since, verified}
use Rattle.sl_delta.specs.OwnSector.{OwnState, lease_of}
use Rattle.sl_due.specs.DueRequests.{owner_read, request_refusal, signal_of_request, value_reply}
use Rattle.sl_host_state.specs.HeardInputs.{heard_answer, hearing, is_over_with, member_hearing, renewing_hearing}
use Rattle.sl_host_state.specs.KeptState.{HostState, MemberState}
use Rattle.sl_host_state.specs.MadeEffects.{has_write_open, next_submitted, with_call, with_reply}
use Rattle.sl_host_state.specs.declared.kept_parts.OpenCall.{OpenCall}
use Rattle.sl_host_law.proofs.Steps.EarlyParts.{over_keeps}
use Rattle.sl_host_law.proofs.Steps.InputsFollow.{same_members}
use Rattle.sl_host_law.proofs.Steps.JoiningsWake.{joining_call, refusing_sound}
use Rattle.sl_host_law.proofs.Steps.SettlingsWake.{unowned}
use Rattle.sl_host_law.proofs.Steps.SoundBefore.{sending_sound, stopping_sound}
use Rattle.sl_host_law.proofs.Steps.SoundParts.{IsCut, Was, cut_more, cut_move, sound_call, sound_cut, sound_move, sound_removing, sound_reply}
use Rattle.sl_host_law.specs.Steps.Answers.{answering, answering_by, answering_for, joining_next, own_of}
use Rattle.sl_host_law.specs.Steps.Leases.{answered_next}
use Rattle.sl_host_law.specs.Steps.Passes.{member_numbered}
use Rattle.sl_host_law.specs.Steps.SoundHosts.{IsSound}
use Rattle.sl_area.specs.AreaSizes.{record_in}
use Rattle.sl_trace.specs.Jobs.{process_named}
use Rattle.sl_trace.specs.declared.lease.Aim.{Aim}
use Rattle.sl_trace.specs.declared.lease.LeaseNext.TheVariants.{AnswerJob, BecomeExclusive, BecomeShared, GrantJob, Nothing as NoLease, ReadFor, WriteBlock, WriteLeader}
use Rattle.sl_trace.specs.declared.lease.LeaseNext.{LeaseNext}
use Rattle.sl_host_law.specs.StepParts.Ends.{removing}
use Rattle.sl_words.proofs.Lists.{find_inside, in_map, kept_inside}
use Rattle.sl_host_law.specs.Questions.Answers.{set_reply_in, spot_in}
use Rattle.sl_host_law.specs.Questions.Jobs.{aim_in, command_in, goes_on_in, running_in}
use Rattle.sl_host_law.specs.Questions.Members.{begins_by_read_in, exclusive_at, otherwise_at}
use Rattle.sl_sector.specs.SectorLayouts.{delta_in}
use Rattle.sl_sector.specs.declared.sector.DeltaRec.{DeltaRec}
use Rattle.sl_trace.specs.DeltaDecisions.{next_after_first, next_after_free, next_after_renewal}
use Rattle.sl_trace.specs.Sessions.{is_delta_purpose}
use Rattle.sl_trace.specs.Sightings.{is_free_state}
use Rattle.sl_trace.specs.declared.delta.DeltaNext.TheVariants.{Disconnect, EndLeaving, Join, MoveConnection, Nothing, ReadOwn, RefuseJoin, RegisterAndRead, WriteClaim, WriteFirst, WriteFree, WriteRenewal}
use Rattle.sl_trace.specs.declared.delta.DeltaNext.{DeltaNext}
use Rattle.sl_trace.specs.declared.session.Session.{Session}
use Rattle.sl_time.specs.Times.{fail}
use Rattle.sl_trace.specs.Traces.{bytes_given, is_orphan, job_of, work_job}
use Rattle.sl_trace.specs.declared.command.Command.TheVariants.{Acquire, AddLockspace, Convert, GetLvb, HostStatus, InqLockspace, Release, ReleaseOrphan, RemLockspace, Request, RunProgram, SetKillpath, SetLvb, Status, TakeOver}
use Rattle.sl_trace.specs.declared.command.Command.{Command}
use Rattle.sl_trace.specs.declared.effects.Grant.{Grant}
use Rattle.sl_trace.specs.declared.effects.JoinStep.TheVariants.{ClaimWrite, DecidingRead, FirstRead, FirstRenewal, VerifyRead, WatchRead}
use Rattle.sl_trace.specs.declared.effects.JoinStep.{JoinStep}
use Rattle.sl_trace.specs.declared.effects.LeaseStep.TheVariants.{ClearMode, FreeLeader}
use Rattle.sl_trace.specs.declared.effects.LeaseStep.{LeaseStep}
use Rattle.sl_trace.specs.declared.effects.Mode.TheVariants.{Exclusive, Shared}
use Rattle.sl_trace.specs.declared.effects.Mode.{Mode}
use Rattle.sl_trace.specs.declared.effects.Move.TheVariants.{Register, Renew}
use Rattle.sl_trace.specs.declared.effects.Op.{Op}
use Rattle.sl_trace.specs.declared.effects.Purpose.TheVariants.{Joining, Lease, Leaving, Renewal, RequestRead, RequestWrite, SeeRequest, Survey, ValueRead, ValueWrite}
use Rattle.sl_trace.specs.declared.effects.Purpose.{Purpose}
use Rattle.sl_trace.specs.declared.effects.Signal.{Signal}
use Rattle.sl_trace.specs.declared.effects.Spot.{Spot}
use Rattle.sl_trace.specs.declared.effects.Work.TheVariants.{ForJob, Settling}
use Rattle.sl_trace.specs.declared.effects.Work.{Work}
use Rattle.sl_trace.specs.declared.input.Answer.TheVariants.{Failed, Read, Written}
use Rattle.sl_trace.specs.declared.input.Answer.{Answer}
use Rattle.sl_trace.specs.declared.reply.Reply.TheVariants.{Done, Generation, Granted, IoFault, TornDelta, WrongDelta}
use Rattle.sl_trace.specs.declared.reply.Reply.{Reply}
use Rattle.sl_words.proofs.CaseLaws.{true_is_false}
use Rattle.sl_words.specs.Bounds.{is_number}
use Rattle.sl_words.specs.Words.{some_is}
use Rattle.std.proofs.Common.{ap, refl, subst, sym, ◌∙◌}
use Rattle.std.proofs.lemmas.Bool.Decides.{Decides-eqb}
use Rattle.std.specs.Prelude.{Bool, Contains, List, None, Option, Some, bytes_eq, cond, false, find, is_some, map, not, true, ℕ, ◌+◌, ◌&&◌, ◌==◌, ◌≡◌}

-- ---- what a joining decides is no free

abbrev IsNoFree : DeltaNext → Type 0
IsNoFree (WriteFree j d) = ⊥
IsNoFree next = Unit {0}

first_no_free : (o : OwnState) (bytes : List ℕ) → IsNoFree (next_after_first (lease_of o) bytes)
unfolding next_after_first
first_no_free o bytes = by (delta_in (record_in (lease_of o).layout bytes)) where
  inner : (b : Bool) → IsNoFree (elim b as (λ z. DeltaNext) [ true ↦ RegisterAndRead DecidingRead | false ↦ Nothing ])
  inner true = tt
  inner false = tt

  named : (d : DeltaRec) (b : Bool) → IsNoFree (elim b as (λ z. DeltaNext) [
    | false ↦ RefuseJoin (WrongDelta d.lockspace d.id)
    | true ↦ elim (is_free_state d.state) [ true ↦ RegisterAndRead DecidingRead | false ↦ Nothing ]
  ])
  named d false = tt
  named d true = inner (is_free_state d.state)

  by : (q : Option DeltaRec) → IsNoFree (elim q as (λ z. DeltaNext) [
    | None ↦ RefuseJoin TornDelta
    | Some d ↦ elim (bytes_eq d.lockspace (lease_of o).lockspace && d.id == (lease_of o).id) [
      | false ↦ RefuseJoin (WrongDelta d.lockspace d.id)
      | true ↦ elim (is_free_state d.state) [ true ↦ RegisterAndRead DecidingRead | false ↦ Nothing ]
    ]
  ])
  by None = tt
  by (Some d) = named d (bytes_eq d.lockspace (lease_of o).lockspace && d.id == (lease_of o).id)

either : (r : Reply) (next : DeltaNext) → IsNoFree next → (b : Bool) → IsNoFree (elim b as (λ z. DeltaNext) [ false ↦ RefuseJoin r | true ↦ next ])
either r next is false = tt
either r next is true = is

waits : (b : Bool) → IsNoFree (elim b as (λ z. DeltaNext) [ true ↦ RegisterAndRead DecidingRead | false ↦ Nothing ])
waits true = tt
waits false = tt

claims : (o : OwnState) (now : ℕ) (q : Option DeltaRec) → IsNoFree (claim_next o now q)
claims o now None = tt
claims o now (Some d) = either _ _ (either _ _ tt (is_number (d.seq + 1))) (is_number (d.generation + 1))

verifies : (o : OwnState) (now : ℕ) (bytes : List ℕ) (q : Option DeltaRec) → IsNoFree (elim q as (λ z. DeltaNext) [ None ↦ Nothing | Some claim ↦ verified o now bytes claim ])
verifies o now bytes None = tt
verifies o now bytes (Some claim) = either _ _ (either _ _ tt (is_number (claim.seq + 1))) _

no_free : (o : OwnState) (now call made : ℕ) (step : JoinStep) (a : Answer) → IsNoFree (after_join o now call made step a)
no_free o now call made FirstRead (Read bytes) = first_no_free o bytes
no_free o now call made WatchRead (Read bytes) = either _ _ (waits (is_over_since o.timing o.joining.since made)) _
no_free o now call made DecidingRead (Read bytes) = either _ _ (claims o now (delta_in (record_in (lease_of o).layout bytes))) _
no_free o now call made ClaimWrite (Read bytes) = tt
no_free o now call made VerifyRead (Read bytes) = verifies o now bytes o.joining.claim
no_free o now call made FirstRenewal (Read bytes) = tt
no_free o now call made FirstRead Written = tt
no_free o now call made WatchRead Written = tt
no_free o now call made DecidingRead Written = tt
no_free o now call made ClaimWrite Written = tt
no_free o now call made VerifyRead Written = tt
no_free o now call made FirstRenewal Written = tt
no_free o now call made step Failed = tt

-- ---- an answer is heard

heard_cut : (h : HostState) (c : OpenCall) (a : Answer) → IsCut h (hearing c a h)
heard_cut h c a = record { from = from; calls = λ d there. (kept_inside (λ (e : OpenCall). not (e.number == c.number)) h.unanswered d there).0; config = refl } where
  who : (m : MemberState) (b : Bool) → m.who ≡ (cond b (member_hearing h c a m) m).who
  who m true = refl
  who m false = refl

  leaving : (m : MemberState) (b : Bool) → m.known.leaving ≡ (cond b (member_hearing h c a m) m).known.leaving
  leaving m true = refl
  leaving m false = refl

  from : (z : MemberState) → Contains (hearing c a h).members z → Was h z
  from z there =
      let inside = kept_inside (λ (m : MemberState). not (is_over_with c.number h m)) (map (λ (m : MemberState). cond (c.session == m.who.number) (member_hearing h c a m) m) h.members) z there in
      let m = in_map (λ (m : MemberState). cond (c.session == m.who.number) (member_hearing h c a m) m) h.members z inside.0 in
      record {
        old = m.0;
        there = m.1;
        who = who m.0 (c.session == m.0.who.number) ∙ ap (λ (y : MemberState). y.who) m.2;
        leaving = leaving m.0 (c.session == m.0.who.number) ∙ ap (λ (y : MemberState). y.known.leaving) m.2;
      }

-- ---- a lease

pub granted : (s : Session) (j : ℕ) (d : Command) (mode : Mode) (lver : ℕ) (g : HostState) → IsSound g → IsSound (granting_for s j d mode lver g)
granted s j (Acquire r shared p persistent) mode lver g z = sound_reply _ j (Granted lver) (same_members g _ refl refl refl z)
granted s j (TakeOver r shared p persistent) mode lver g z = sound_reply _ j (Granted lver) (same_members g _ refl refl refl z)
granted s j (RunProgram r shared path) mode lver g z = same_members g _ refl refl refl z
granted s j (AddLockspace a) mode lver g z = z
granted s j (RemLockspace a) mode lver g z = z
granted s j (InqLockspace a) mode lver g z = z
granted s j (HostStatus a) mode lver g z = z
granted s j (Release r p) mode lver g z = z
granted s j (ReleaseOrphan r) mode lver g z = z
granted s j (Convert r shared p) mode lver g z = z
granted s j (Request r asked how) mode lver g z = z
granted s j (GetLvb r p) mode lver g z = z
granted s j (SetLvb r p bytes) mode lver g z = z
granted s j (SetKillpath p path) mode lver g z = z
granted s j Status mode lver g z = z

by_work : (work : Work) (f : ℕ → HostState → HostState) (g : HostState) → IsSound g → ((j : ℕ) → IsSound (f j g)) → IsSound (elim (work_job work) as (λ z. HostState) [ None ↦ g | Some j ↦ f j g ])
by_work (ForJob j) f g z one = one j
by_work Settling f g z one = z

by_command : (j : ℕ) (f : Command → HostState → HostState) (g : HostState) → IsSound g → ((d : Command) → IsSound (f d g)) → IsSound (elim (command_in g j) as (λ z. HostState) [ None ↦ g | Some d ↦ f d g ])
by_command j f g z one = by (command_in g j) where
  by : (o : Option Command) → IsSound (elim o as (λ z. HostState) [ None ↦ g | Some d ↦ f d g ])
  by None = z
  by (Some d) = one d

convert_sound : (q : MemberState) (at : Spot) (work : Work) (mode : Mode) (lver : ℕ) (g : HostState) → IsSound g → IsSound (converted q at work mode lver g)
convert_sound q at work mode lver g z =
    by_work work (λ j f. elim (command_in f j) [ None ↦ f | Some d ↦ converting_for q at j d mode lver f ]) g z
    (λ j. by_command j (λ d. converting_for q at j d mode lver) g z (λ d. named j d (process_named d))) where
      one : (j p : ℕ) (o : Option Grant) → IsSound (elim o as (λ z. HostState) [ None ↦ g | Some e ↦ converting j mode lver e g ])
      one j p None = z
      one j p (Some e) = sound_reply _ j (Granted lver) (same_members g _ refl refl refl z)

      named : (j : ℕ) (d : Command) (o : Option ℕ) → IsSound (elim o as (λ z. HostState) [ None ↦ g | Some p ↦ elim (otherwise_at g q at p mode) as (λ z. HostState) [ None ↦ g | Some e ↦ converting j mode lver e g ] ])
      named j d None = z
      named j d (Some p) = one j p (otherwise_at g q at p mode)

-- What a lease does next leaves it sound, where its calls do.
pub leased : (q : MemberState) (at : Spot) (work : Work) (next : LeaseNext) (g : HostState) → IsSound g
    → ((path : List ℕ) (s : LeaseStep) (offset : ℕ) (op : Op) → IsSound (with_call q.who.number path (Lease work s) offset op g)) → IsSound (carrying_lease q at work next g)
leased q at work NoLease g z calls = z
leased q at work (ReadFor s) g z calls = calls _ s _ _
leased q at work (WriteBlock s b) g z calls = calls _ s _ _
leased q at work (WriteLeader s l) g z calls = calls _ s _ _
leased q at work (AnswerJob r) g z calls = by_work work (λ j. with_reply j r) g z (λ j. sound_reply g j r z)
leased q at work (GrantJob mode lver) g z calls =
    by_work work (λ j f. elim (command_in f j) [ None ↦ f | Some d ↦ granting_for q.who j d mode lver f ]) g z
    (λ j. by_command j (λ d. granting_for q.who j d mode lver) g z (λ d. granted q.who j d mode lver g z))
leased q at work (BecomeShared lver l) g z calls = unowned _ q.who.number _ (Lease Settling FreeLeader) _ _ refl (convert_sound q at work Shared lver g z)
leased q at work (BecomeExclusive lver b) g z calls = unowned _ q.who.number _ (Lease Settling ClearMode) _ _ refl (convert_sound q at work Exclusive lver g z)

-- ---- what is done for the member m by the call c of the host h

module _ (h : HostState) (c : OpenCall) (m : MemberState) (k : IsSound h) (open_c : Contains h.unanswered c) (inside : Contains h.members m) (its : (c.session == m.who.number) ≡ true) where
  -- A call for the job of the answered one, which isn't on a sector of an id, is its job's.
  followed : (g : HostState) (path : List ℕ) (p : Purpose) (offset : ℕ) (op : Op) → IsCut h g → is_delta_purpose c.purpose ≡ false → job_of p ≡ job_of c.purpose → IsSound (with_call m.who.number path p offset op g)
  followed g path p offset op cut none same =
      sound_call g (next_submitted g m.who.number path p offset op)
      (record {
        leaving = λ z n there leaves of.
            (let w = cut.from z there in
            let own = k.leavings.calls w.old c n w.there open_c (w.leaving ∙ leaves) (sym (ap (λ o. some_is (λ i. i == n) o) same) ∙ of) in
            (Decides-eqb m.who.number z.who.number).1 (sym ((Decides-eqb c.session m.who.number).0 its) ∙ (Decides-eqb c.session w.old.who.number).0 own ∙ ap (λ (t : Session). t.number) w.who));
        joining = λ z n there is of.
            (let w = cut.from z there in
            let own = k.joinings.calls w.old c n w.there open_c (ap (λ (t : Session). t.job) w.who ∙ is) (sym (ap (λ o. some_is (λ i. i == n) o) same) ∙ of) in
            absurd (true_is_false (sym own.1 ∙ none)));
      }) (sound_cut h g cut k)

  for_job : (g : HostState) (f : ℕ → HostState → HostState) → IsSound g → ((j : ℕ) → m.who.job ≡ Some j → IsSound (f j g)) → IsSound (elim m.who.job as (λ z. HostState) [ None ↦ g | Some j ↦ f j g ])
  for_job g f z one = by m.who.job refl where
    by : (o : Option ℕ) → m.who.job ≡ o → IsSound (elim o as (λ z. HostState) [ None ↦ g | Some j ↦ f j g ])
    by None is = z
    by (Some j) is = one j is

  carried : (g : HostState) (next : DeltaNext) → IsCut h g → IsNoFree next → IsSound (carrying m.who next g)
  carried g Nothing cut is = sound_cut h g cut k
  carried g (RefuseJoin r) cut is = for_job g (λ j. refusing j r) (sound_cut h g cut k) (λ j job. refusing_sound j r g (sound_cut h g cut k))
  carried g (ReadOwn step) cut is = for_job g (λ j. reading_own m.who (Joining j step)) (sound_cut h g cut k) (λ j job. joining_call h g m j step m.who.path _ _ cut k inside job)
  carried g (RegisterAndRead step) cut is =
      for_job g (λ j f. reading_own m.who (Joining j step) (registering m.who f)) (sound_cut h g cut k)
      (λ j job. joining_call h (registering m.who g) m j step m.who.path _ _ (cut_more h g (registering m.who g) cut (cut_move g (Register m.who.lockspace (g.reading + fail g.config.timing)))) k inside job)
  carried g (WriteClaim d) cut is = for_job g (λ j. writing_own m.who (Joining j ClaimWrite) d) (sound_cut h g cut k) (λ j job. joining_call h g m j ClaimWrite m.who.path _ _ cut k inside job)
  carried g Disconnect cut is = sound_removing m.who.lockspace g (sound_cut h g cut k)
  carried g (WriteFirst d) cut is = for_job g (λ j. writing_own m.who (Joining j FirstRenewal) d) (sound_cut h g cut k) (λ j job. joining_call h g m j FirstRenewal m.who.path _ _ cut k inside job)
  carried g (Join generation renewed) cut is =
      for_job g (λ j f. surveying m.who (with_reply j (Generation generation) (connecting m.who renewed f))) (sound_cut h g cut k)
      (λ j job. unowned (with_reply j (Generation generation) (connecting m.who renewed g)) m.who.number m.who.path Survey m.who.offset _ refl
      (sound_reply (connecting m.who renewed g) j (Generation generation) (sound_move g (Renew m.who.lockspace (renewed + fail g.config.timing)) (sound_cut h g cut k))))
  carried g (MoveConnection renewed) cut is =
      unowned (connecting m.who renewed g) m.who.number m.who.path Survey m.who.offset _ refl (sound_move g (Renew m.who.lockspace (renewed + fail g.config.timing)) (sound_cut h g cut k))
  carried g (WriteRenewal d) cut is = unowned g m.who.number m.who.path Renewal _ _ refl (sound_cut h g cut k)
  carried g (WriteFree j d) cut is = absurd is
  carried g (EndLeaving j r) cut is = by (running_in g j) where
    by : (b : Bool) → IsSound (cond b (with_reply j r (removing m.who.lockspace g)) (removing m.who.lockspace g))
    by true = sound_reply (removing m.who.lockspace g) j r (sound_removing m.who.lockspace g (sound_cut h g cut k))
    by false = sound_removing m.who.lockspace g (sound_cut h g cut k)

  worked : (q : MemberState) (at : Spot) (work : Work) (step : LeaseStep) (next : LeaseNext) (g : HostState) → IsCut h g → q.who ≡ m.who → c.purpose ≡ Lease work step → IsSound (carrying_lease q at work next g)
  worked q at work step next g cut who is = leased q at work next g (sound_cut h g cut k) calls where
    calls : (path : List ℕ) (next_step : LeaseStep) (offset : ℕ) (op : Op) → IsSound (with_call q.who.number path (Lease work next_step) offset op g)
    calls path next_step offset op =
        subst (λ (t : Session). IsSound (with_call t.number path (Lease work next_step) offset op g)) (sym who) (followed g path (Lease work next_step) offset op cut (ap is_delta_purpose is) (sym (ap job_of is)))

  -- ---- requests

  for_running : (j : ℕ) (a : Answer) (on_bytes : List ℕ → HostState → HostState) (on_done : HostState → HostState) (g : HostState) → IsSound g → ((bytes : List ℕ) → IsSound (on_bytes bytes g)) → IsSound (on_done g)
      → IsSound (answering_job j c a on_bytes on_done g)
  for_running j a on_bytes on_done g z bytes_sound done_sound = by (running_in g j) a where
    by : (b : Bool) (q : Answer) → IsSound (elim b as (λ z. HostState) [
      | false ↦ g
      | true ↦ elim q as (λ z. HostState) [ Read bytes ↦ on_bytes bytes g | Written ↦ on_done g | Failed ↦ with_reply j (IoFault c.number) g ]
    ])
    by false q = z
    by true (Read bytes) = bytes_sound bytes
    by true Written = done_sound
    by true Failed = sound_reply g j (IoFault c.number) z

  requested : (j : ℕ) (bytes : List ℕ) (d : Command) (g : HostState) → IsCut h g → c.purpose ≡ RequestRead j → IsSound (requesting m.who j bytes d g)
  requested j bytes (Request r asked force) g cut is = by (request_refusal g.config.layout m.who.lockspace r asked force bytes) where
    by : (o : Option Reply) → IsSound (elim o as (λ z. HostState) [ Some why ↦ with_reply j why g | None ↦ writing_request m.who j (owner_read g.config.layout bytes) r asked force g ])
    by (Some why) = sound_reply g j why (sound_cut h g cut k)
    by None = followed g r.path (RequestWrite j (owner_read g.config.layout bytes)) _ _ cut (ap is_delta_purpose is) (sym (ap job_of is))
  requested j bytes (Acquire r shared p persistent) g cut is = sound_cut h g cut k
  requested j bytes (TakeOver r shared p persistent) g cut is = sound_cut h g cut k
  requested j bytes (RunProgram r shared path) g cut is = sound_cut h g cut k
  requested j bytes (AddLockspace a) g cut is = sound_cut h g cut k
  requested j bytes (RemLockspace a) g cut is = sound_cut h g cut k
  requested j bytes (InqLockspace a) g cut is = sound_cut h g cut k
  requested j bytes (HostStatus a) g cut is = sound_cut h g cut k
  requested j bytes (Release r p) g cut is = sound_cut h g cut k
  requested j bytes (ReleaseOrphan r) g cut is = sound_cut h g cut k
  requested j bytes (Convert r shared p) g cut is = sound_cut h g cut k
  requested j bytes (GetLvb r p) g cut is = sound_cut h g cut k
  requested j bytes (SetLvb r p b) g cut is = sound_cut h g cut k
  requested j bytes (SetKillpath p path) g cut is = sound_cut h g cut k
  requested j bytes Status g cut is = sound_cut h g cut k

  given : (a : Answer) (f : List ℕ → HostState → HostState) (g : HostState) → IsSound g → ((bytes : List ℕ) → IsSound (f bytes g)) → IsSound (on_given a f g)
  given a f g z one = by (bytes_given a) where
    by : (o : Option (List ℕ)) → IsSound (elim o as (λ z. HostState) [ None ↦ g | Some bytes ↦ f bytes g ])
    by None = z
    by (Some bytes) = one bytes

  seen_sound : (q : MemberState) (bytes : List ℕ) (g : HostState) → IsSound g → IsSound (seeing_request q c bytes g)
  seen_sound q bytes g z = held (exclusive_at g q (spot_in g.config.layout c)) where
    sent : (e : Grant) (o : Option Signal) → IsSound (elim o as (λ z. HostState) [ None ↦ g | Some s ↦ sending e.process s g ])
    sent e None = z
    sent e (Some s) = sending_sound e.process s g z

    told : (e : Grant) (b : Bool) → IsSound (cond b (elim (signal_of_request g.config.layout bytes e) as (λ z. HostState) [ None ↦ g | Some s ↦ sending e.process s g ]) g)
    told e true = sent e (signal_of_request g.config.layout bytes e)
    told e false = z

    held : (o : Option Grant) → IsSound (elim o as (λ z. HostState) [
      | None ↦ g
      | Some e ↦ cond (not (is_orphan e)) (elim (signal_of_request g.config.layout bytes e) as (λ z. HostState) [ None ↦ g | Some s ↦ sending e.process s g ]) g
    ])
    held None = z
    held (Some e) = told e (not (is_orphan e))

  surveyed_sound : (q : MemberState) (bytes : List ℕ) (g : HostState) → IsSound g → IsSound (surveyed_in q bytes g)
  surveyed_sound q bytes g z = by q.joined (is_asked_by g.config.layout q.who bytes) (stopped (begins_by_read_in g q.renewing.recovery)) where
    stopped : (b : Bool) → IsSound (cond b (signalling_and_refusing q None g) g)
    stopped true = stopping_sound q None g z
    stopped false = z

    asked : (f : HostState) (at : Spot) (o : Option Grant) → IsSound f → IsSound (elim o as (λ z. HostState) [ None ↦ f | Some e ↦ reading_request q.who e f ])
    asked f at None y = y
    asked f at (Some e) y = unowned f q.who.number e.path SeeRequest _ _ refl y

    by : (a b : Bool) → IsSound (recovering_by_read q g) → IsSound (cond a (cond b (reading_requests q (recovering_by_read q g)) (recovering_by_read q g)) g)
    by true true y = over_keeps IsSound (map (λ l. l.spot) q.leases) (reading_request_on q.who) (recovering_by_read q g) (λ at f w. asked f at (exclusive_of f q.who at) w) y
    by true false y = y
    by false b y = z

  -- ---- by the purpose of the call

  done_sound : (p : Purpose) (a : Answer) (g : HostState) → c.purpose ≡ p → IsCut h g → IsSound (answering_for p h m c a g)
  done_sound (Joining j step) a g is cut = by (running_in g j) (m.refused && not (has_write_open g m.who.number)) where
    by : (b d : Bool) → IsSound (cond b (carrying m.who (joining_next h m c step a) g) (cond d (removing m.who.lockspace g) g))
    by true d = carried g (joining_next h m c step a) cut (no_free (own_of h m) h.reading c.number c.reading step a)
    by false true = sound_removing m.who.lockspace g (sound_cut h g cut k)
    by false false = sound_cut h g cut k
  done_sound Renewal a g is cut = carried g (next_after_renewal (is_some (renewing_hearing h c a m).recovery) c.reading a) cut (by a (is_some (renewing_hearing h c a m).recovery)) where
    by : (q : Answer) (b : Bool) → IsNoFree (next_after_renewal b c.reading q)
    by Written true = tt
    by Written false = tt
    by (Read bytes) b = tt
    by Failed b = tt
  done_sound Survey a g is cut = given a (surveyed_in (member_hearing h c a m)) g (sound_cut h g cut k) (λ bytes. surveyed_sound (member_hearing h c a m) bytes g (sound_cut h g cut k))
  done_sound (Leaving j) a g is cut = carried g (next_after_free j c.number a) cut (by a) where
    by : (q : Answer) → IsNoFree (next_after_free j c.number q)
    by Written = tt
    by (Read bytes) = tt
    by Failed = tt
  done_sound (Lease work step) a g is cut = by (goes_on_in g (member_hearing h c a m) work) (aim_in g work) where
    by : (b : Bool) (o : Option Aim)
        → IsSound (cond b (elim o as (λ z. HostState) [ None ↦ g | Some aim ↦ carrying_lease (member_hearing h c a m) (area_of g c) work (answered_next g (member_hearing h c a m) (area_of g c) c aim step a) g ]) g)
    by true None = sound_cut h g cut k
    by true (Some aim) = worked (member_hearing h c a m) (area_of g c) work step (answered_next g (member_hearing h c a m) (area_of g c) c aim step a) g cut refl is
    by false o = sound_cut h g cut k
  done_sound (RequestRead j) a g is cut =
      for_running j a (requesting_for m.who j) (λ x. x) g (sound_cut h g cut k)
      (λ bytes. by_command j (λ d. requesting m.who j bytes d) g (sound_cut h g cut k) (λ d. requested j bytes d g cut is)) (sound_cut h g cut k)
  done_sound (RequestWrite j owner) a g is cut = for_running j a (λ bytes x. x) (with_reply j Done) g (sound_cut h g cut k) (λ bytes. sound_cut h g cut k) (sound_reply g j Done (sound_cut h g cut k))
  done_sound SeeRequest a g is cut = given a (seeing_request (member_hearing h c a m) c) g (sound_cut h g cut k) (λ bytes. seen_sound (member_hearing h c a m) bytes g (sound_cut h g cut k))
  done_sound (ValueWrite j) a g is cut =
      for_running j a (λ bytes x. x) (with_reply j (set_reply_in c)) g (sound_cut h g cut k) (λ bytes. sound_cut h g cut k) (sound_reply g j (set_reply_in c) (sound_cut h g cut k))
  done_sound (ValueRead j) a g is cut =
      for_running j a (λ bytes x. with_reply j (value_reply x.config.layout bytes) x) (λ x. x) g (sound_cut h g cut k) (λ bytes. sound_reply g j (value_reply g.config.layout bytes) (sound_cut h g cut k)) (sound_cut h g cut k)

pub answers_are_sound : (n : ℕ) (a : Answer) (h : HostState) → IsSound h → IsSound (answering n a h)
answers_are_sound n a h k = by (find (λ c. c.number == n) h.unanswered) refl where
  cut_as : (c : OpenCall) → find (λ c. c.number == n) h.unanswered ≡ Some c → IsCut h (heard_answer n a h)
  cut_as c is = subst (IsCut h) (sym (ap (λ o. elim o as (λ z. HostState) [ None ↦ h | Some d ↦ hearing d a h ]) is)) (heard_cut h c a)

  made : (c : OpenCall) → find (λ c. c.number == n) h.unanswered ≡ Some c → (o : Option MemberState) → member_numbered h c.session ≡ o → IsSound (answering_by o n c a h)
  made c is None none = sound_cut h (heard_answer n a h) (cut_as c is) k
  made c is (Some m) some =
      let f = find_inside (λ (z : MemberState). z.who.number == c.session) h.members m some in
      done_sound h c m k (find_inside (λ (d : OpenCall). d.number == n) h.unanswered c is).0 f.0 ((Decides-eqb c.session m.who.number).1 (sym ((Decides-eqb m.who.number c.session).0 f.1))) c.purpose a (heard_answer n a h) refl (cut_as c is)

  by : (o : Option OpenCall) → find (λ c. c.number == n) h.unanswered ≡ o
      → IsSound (elim o as (λ z. HostState) [ None ↦ h | Some c ↦ answering_by (member_numbered h c.session) n c a h ])
  by None is = k
  by (Some c) is = made c is (member_numbered h c.session) refl
