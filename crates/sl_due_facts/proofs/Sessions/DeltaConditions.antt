-- What each act decides is allowed of delta records: a session that wrote its free makes no call.
use Rattle.sl_due.specs.CarriedLease.{name_on, next_turn}
use Rattle.sl_due_facts.proofs.Acts.AddedAtEnd.{not_is}
use Rattle.sl_due_facts.proofs.Acts.InputsKeep.{has_heard}
use Rattle.sl_due_facts.specs.Acts.Acts.{Has, Hears}
use Rattle.sl_due_facts.specs.Acts.TraceSoFar.{SoFar, entry_of}
use Rattle.sl_area.specs.AreaLayout.{area_sectors, block_offset, block_place, block_sectors, leader_offset, request_offset}
use Rattle.sl_area.specs.AreaRecords.{block_record, leader_record}
use Rattle.sl_due.specs.DueRequests.{owner_read}
use Rattle.sl_due.specs.Steps.{Step, seen}
use Rattle.sl_due_facts.proofs.Jobs.CallsHaveFacts.{timely}
use Rattle.sl_due_facts.proofs.Jobs.CallsStay.{is_special, late}
use Rattle.sl_due_facts.proofs.Jobs.EffectsAreAllowed.{DeltaAllowed, GrantAllowed, LeaseAllowed, ReadAllowed, RequestAllowed, block_no_delta, leader_no_delta}
use Rattle.sl_due_facts.proofs.Jobs.JobsAreAllowed.{calls_heard}
use Rattle.sl_due_facts.proofs.Jobs.NearlyPlainActs.{AnyMove, AnyStart}
use Rattle.sl_due_facts.proofs.Jobs.QuietLines.{active_parts}
use Rattle.sl_due_facts.proofs.Jobs.RepliesComeAfter.{on_bool, request_late}
use Rattle.sl_trace.specs.Leases.{holdings_on}
use Rattle.sl_trace.specs.declared.lease.LeaseNext.{LeaseNext}
use Rattle.sl_trace.specs.declared.lease.LeaseNext.TheVariants.{AnswerJob, BecomeExclusive, BecomeShared, GrantJob, Nothing as No_lease, ReadFor, WriteBlock, WriteLeader}
use Rattle.sl_words.proofs.Lists.{any_found, contains_map, contains_none, find_inside, got_inside, in_map, kept_inside}
use Rattle.sl_words.proofs.Options.{none_is, not_some, some_of}
use Rattle.sl_sector.specs.declared.sector.DeltaRec.{DeltaRec}
use Rattle.sl_sector.specs.declared.sector.DeltaState.TheVariants.{Live}
use Rattle.sl_sector.specs.declared.sector.Rec.TheVariants.{RequestIs}
use Rattle.sl_due_facts.proofs.Sessions.DeltaGrow.{DeltaCall, DeltaPart, DeltaReply, FreedBefore, GoodDelta}
use Rattle.sl_due_facts.proofs.Sessions.NamesAreAllowed.{caller_joined, heard_mine}
use Rattle.sl_trace.specs.DeltaDecisions.{DeltaLease, delta_known, delta_of_session, delta_record, has_seq_left, is_renewal_due, next_after_free, next_after_renewal, next_renewal}
use Rattle.sl_trace.specs.Sessions.{calls_of, delta_of_record, free_write, generation_of, holdings_of, is_active, is_call_of, is_free_purpose, is_join_call, is_join_done, is_joined, joined_after, last_seq, leaves, leaving_in, leaving_job, sessions}
use Rattle.sl_trace.specs.declared.delta.DeltaKnown.{DeltaKnown}
use Rattle.sl_trace.specs.declared.delta.DeltaNext.{DeltaNext}
use Rattle.sl_trace.specs.declared.delta.DeltaNext.TheVariants.{MoveConnection, Nothing, WriteRenewal}
use Rattle.sl_trace.specs.declared.session.Session.{Session}
use Rattle.sl_due_facts.specs.Facts.SessionFacts.{DeltaFacts}
use Rattle.sl_due_facts.specs.Facts.AllFacts.{Whole}
use Rattle.sl_time.specs.Times.{renew}
use Rattle.sl_trace.specs.Traces.{Answered, Job, Setting, Submitted, Trace, answer_of, answered_in, call_numbered, is_answer_for, is_before_input, is_expected, line_in, next_job, outstanding, record_of, same_place, submitted}
use Rattle.sl_trace.specs.declared.command.Command.{Command}
use Rattle.sl_trace.specs.declared.command.Command.TheVariants.{Acquire, AddLockspace, Convert, GetLvb, HostStatus, InqLockspace, Release, ReleaseOrphan, RemLockspace, Request, RunProgram, SetKillpath, SetLvb, Status, TakeOver}
use Rattle.sl_trace.specs.declared.effects.Call.{Call}
use Rattle.sl_trace.specs.declared.effects.Grant.{Grant}
use Rattle.sl_trace.specs.declared.effects.JobReply.{JobReply}
use Rattle.sl_trace.specs.declared.effects.JoinStep.TheVariants.{FirstRead}
use Rattle.sl_trace.specs.declared.effects.LeaseStep.{LeaseStep}
use Rattle.sl_trace.specs.declared.effects.LeaseRead.TheVariants.{OfArea, OfBlock, OfFree, OfPhase1, OfPhase2}
use Rattle.sl_trace.specs.declared.effects.LeaseStep.TheVariants.{ClearMode, FreeLeader, Phase1Read, Phase1Write, Phase2Read, Phase2Write, ReadAgain, ReadArea, ReadBeforeBlock, ReadBeforeFree, SetMode, TakeLeader}
use Rattle.sl_trace.specs.declared.effects.Op.{Op}
use Rattle.sl_trace.specs.declared.effects.Op.TheVariants.{ReadSectors, WriteRecord}
use Rattle.sl_trace.specs.declared.effects.Purpose.{Purpose}
use Rattle.sl_trace.specs.declared.effects.Purpose.TheVariants.{Lease, RequestWrite, Survey}
use Rattle.sl_trace.specs.declared.effects.Spot.{Spot}
use Rattle.sl_trace.specs.declared.effects.Work.{Work}
use Rattle.sl_trace.specs.declared.effects.Work.TheVariants.{Settling}
use Rattle.sl_trace.specs.declared.input.Answer.{Answer}
use Rattle.sl_trace.specs.declared.input.Answer.TheVariants.{Failed, Read, Written}
use Rattle.sl_trace.specs.declared.input.Input.TheVariants.{Answer as Told}
use Rattle.sl_trace.specs.declared.reply.Reply.{Reply}
use Rattle.sl_trace.specs.declared.reply.Reply.TheVariants.{Done, Granted, IoFault}
use Rattle.sl_run_law.proofs.Sessions.CallsAreMade.{same_answered}
use Rattle.sl_words.proofs.CaseLaws.{false_is_true, none_some, not_both, one_value, some_value, true_is_false}
use Rattle.sl_words.proofs.WordLaws.{and_true}
use Rattle.sl_words.specs.Bounds.{is_number, record_numbers}
use Rattle.sl_words.specs.Words.{choose}
use Rattle.std.proofs.Common.{ap, arith, inl, inr, refl, subst, sym, ◌∙◌}
use Rattle.std.proofs.lemmas.Bool.{eqb-true, lt-ltb, ltb-true}
use Rattle.std.specs.List.{list_any}
use Rattle.std.specs.Option.{option_or}
use Rattle.std.specs.Prelude.{Bool, Contains, IsSome, IsTrue, List, None, Option, Some, false, if◌then◌else◌, is_none, is_some, length, nat_le, not, option_and_then, option_map, true, ℕ, ◌&&◌, ◌+◌, ◌<◌, ◌==◌, ◌||◌, ◌≡◌, ◌≤◌, ◌⊎◌}

-- ---- sessions that have not written their free

-- The facts but those of holdings.
pub part_of : (st : Setting) (t : Trace) → DeltaFacts st t → DeltaPart st t
part_of st t h =
    record {
      frees = λ s m there is. let f = h.frees s m there is in (f.0, f.2);
      before = h.before;
      numbers = h.numbers;
      left = h.left;
    }

unfreed_by : (o : Option Submitted) → ((m : Submitted) → o ≡ Some m → ⊥) → o ≡ None
unfreed_by None h = refl
unfreed_by (Some m) h = absurd (h m refl)

pub active_unfreed : (st : Setting) (t : Trace) (s : Session) → DeltaPart st t → Contains (sessions st t) s → is_active st t s ≡ true → free_write (calls_of t s) ≡ None
active_unfreed st t s h there active =
    unfreed_by (free_write (calls_of t s)) (λ m is.
    let k = some_of (leaving_job st t s) (h.frees s m there is).0 in none_some k.0 (sym (active_parts st t s active).1 ∙ k.1))

pub unjoined_unfreed : (x : Step) (s : Session) → SoFar x → Has x s → joined_after (seen x) s ≡ None → free_write (calls_of (seen x) s) ≡ None
unjoined_unfreed x s orderly has unjoined =
    unfreed_by (free_write (calls_of (seen x) s)) (λ m is.
    let found = find_inside (λ (z : Submitted). is_free_purpose z.call.purpose) (calls_of (seen x) s) m is in
    let joined : is_some (joined_after (seen x) s) ≡ true = caller_joined x.setting (seen x) s m orderly has found.0 (λ j step joins. true_is_false (sym found.1 ∙ ap (λ p. is_free_purpose p) joins)) in
    false_is_true (sym (ap (λ o. is_some o) unjoined) ∙ joined))

-- Its calls but the free were answered before, so none is heard.
pub heard_at : (x : Step) (s : Session) (m : Submitted) (answer : Answer) (a : Answered) → Whole x → Hears x s m answer → m.answer ≡ Some a → a.at ≡ length x.past
heard_at x s m answer a h hears is =
    let n : ℕ = hears.number in
    let expected : IsTrue (is_expected x.setting x.past (Told n answer)) = subst (λ i. IsTrue (is_expected x.setting x.past i)) hears.heard h.orderly.is_trace.0.expected in
    let open_one = any_found (λ (d : Submitted). d.call.number == n && is_answer_for x.setting answer d.call.op) (outstanding x.past) expected in
    let d : Submitted = open_one.0 in
    let its = and_true (d.call.number == n) (is_answer_for x.setting answer d.call.op) open_one.2 in
    let inside = kept_inside (λ (z : Submitted). is_none z.answer) (submitted x.past) d open_one.1 in
    let k : Submitted = answered_in x.past (entry_of x) n answer d in
    let there : Contains (submitted (seen x)) k =
    subst (λ ms. Contains ms k) (sym (calls_heard x n answer hears.heard hears.bare)) (contains_map (answered_in x.past (entry_of x) n answer) (submitted x.past) d inside.0)
    in
    let number : k.call.number ≡ n = ap (λ (c : Call). c.number) (same_answered x.past (entry_of x) n answer d).call ∙ eqb-true d.call.number n its.0 in
    let one : k ≡ m = one_value k m (call_numbered (seen x) n) (subst (λ q. call_numbered (seen x) q ≡ Some k) number (h.facts.calls.found k there)) hears.call in
    by d (d.call.number == n) its.0 (none_is d.answer inside.1) (ap (λ (z : Submitted). z.answer) one ∙ is)
  where
    made : Submitted → Answered
    made d = answer_of x.past (entry_of x) answer d.call

    by : (d : Submitted) (t : Bool) → t ≡ true → d.answer ≡ None
        → (elim t as (λ z. Submitted) [ false ↦ d | true ↦ record d { answer = option_or d.answer (Some (answer_of x.past (entry_of x) answer d.call)) } ]).answer ≡ Some a → a.at ≡ length x.past
    by d false mine none same = absurd (false_is_true mine)
    by d true mine none same = ap (λ (z : Answered). z.at) (sym (some_value (made d) a (sym (ap (λ o. option_or o (Some (made d))) none) ∙ same)))

pub heard_unfreed : (x : Step) (s : Session) (m : Submitted) (answer : Answer) → Whole x → Hears x s m answer → is_free_purpose m.call.purpose ≡ false → free_write (calls_of (seen x) s) ≡ None
heard_unfreed x s m answer h hears other =
    unfreed_by (free_write (calls_of (seen x) s)) (λ f is.
    let there : Contains (sessions x.setting (seen x)) s = got_inside (sessions x.setting (seen x)) s.number s (has_heard x s m answer hears) in
    let found = find_inside (λ (z : Submitted). is_free_purpose z.call.purpose) (calls_of (seen x) s) f is in
    by f found.0 found.1 (h.facts.delta.before s f m there is (heard_mine x s m answer hears)))
  where
    by : (f : Submitted) → Contains (calls_of (seen x) s) f → is_free_purpose f.call.purpose ≡ true → (m ≡ f) ⊎ ((a : Answered) × (m.answer ≡ Some a) × (a.at ≤ f.at)) → ⊥
    by f inside free_one (inl same) = not_both (is_free_purpose m.call.purpose) (ap (λ (z : Submitted). is_free_purpose z.call.purpose) same ∙ free_one) other
    by f inside free_one (inr answered) =
        let now : answered.0.at ≡ length x.past = heard_at x s m answer answered.0 h hears answered.1 in
        let mine = kept_inside (is_call_of s) (submitted (seen x)) f inside in
        let was = in_map (answered_in x.past (entry_of x) hears.number answer) (submitted x.past) f (subst (λ ms. Contains ms f) (calls_heard x hears.number answer hears.heard hears.bare) mine.0) in
        let at : f.at ≡ was.0.at = ap (λ (z : Submitted). z.at) (sym was.2) ∙ (same_answered x.past (entry_of x) hears.number answer was.0).at in
        let low : was.0.at < length x.past = (timely x.past was.0 was.1).0 in
        let most : answered.0.at ≤ f.at = answered.2 in omega (arith, now, at, low, most)

pub holder_unfreed : (x : Step) (s : Session) (spot : Spot) (g : Grant) → Whole x → Has x s → Contains (holdings_on (seen x) s spot) g → free_write (calls_of (seen x) s) ≡ None
holder_unfreed x s spot g h has there =
    unfreed_by (free_write (calls_of (seen x) s)) (λ m is.
    let inside : Contains (sessions x.setting (seen x)) s = got_inside (sessions x.setting (seen x)) s.number s has in
    let under = (kept_inside (λ (z : Grant). same_place z.path z.offset spot.path spot.base) (holdings_of (seen x) s) g there).0 in
    contains_none g (subst (λ gs. Contains gs g) (h.facts.delta.frees s m inside is).1 under))

-- ---- whoever wrote its free was leaving before

pub freed_before : (x : Step) → line_in x.input ≡ None → DeltaPart x.setting (seen x) → FreedBefore x
freed_before x none h s m there is = by (leaving_job x.setting x.past s) (h.frees s m there is).0 where
  no_line : leaving_in x.setting x.past s (entry_of x) ≡ None
  no_line = ap (λ (o : Option (List ℕ)). elim o as (λ z. Option Job) [ None ↦ None | Some text ↦ elim (leaves s (x.setting.read text)) as (λ z. Option Job) [ false ↦ None | true ↦ choose (is_joined x.past s && not (list_any (λ (a : JobReply). a.job == next_job x.setting x.past) x.effects.replies)) (record { number = next_job x.setting x.past; at = length x.past; reading = x.reading; command = x.setting.read text }) ] ]) none

  by : (o : Option Job) → IsSome (elim o as (λ z. Option Job) [ Some a ↦ Some a | None ↦ leaving_in x.setting x.past s (entry_of x) ]) → IsSome o
  by (Some a) is_one = refl
  by None is_one = subst (λ o. IsSome o) no_line is_one

-- ---- calls and replies

pub plain_call : (x : Step) (s : Session) (path : List ℕ) (p : Purpose) (o : ℕ) (op : Op) → Has x s → free_write (calls_of (seen x) s) ≡ None → is_join_call FirstRead p ≡ false → is_free_purpose p ≡ false → option_and_then delta_of_record (record_of op) ≡ None
    → DeltaCall x s path p o op
plain_call x s path p o op has unfreed no_look no_free no_delta =
    record { has = has; no_look = no_look; no_free = no_free; unfreed = unfreed; delta = λ d is. absurd (none_some d (sym no_delta ∙ is)) }

right_is_false : (a b : Bool) → (a || b) ≡ false → b ≡ false
right_is_false true b h = absurd (true_is_false h)
right_is_false false b h = h

pub plain_reply : (x : Step) (j : ℕ) (r : Reply) → is_special r ≡ false → DeltaReply x j r
plain_reply x j r after = (late x r after, inl (right_is_false (is_before_input r) (is_join_done r) after))

-- ---- what a lease decides

reads_delta : (x y : Step) (s : Session) (at : Spot) (work : Work) (step : LeaseStep) → Has x s → free_write (calls_of (seen x) s) ≡ None → ReadAllowed (DeltaCall x) y s at work step
reads_delta x y s at work (ReadArea name) has free = plain_call x s at.path (Lease work (ReadArea name)) at.base (ReadSectors (area_sectors y.setting.layout)) has free refl refl refl
reads_delta x y s at work ReadBeforeFree has free = plain_call x s at.path (Lease work ReadBeforeFree) at.base (ReadSectors (area_sectors y.setting.layout)) has free refl refl refl
reads_delta x y s at work ReadBeforeBlock has free = plain_call x s at.path (Lease work ReadBeforeBlock) (block_offset y.setting.layout at.base 1) (ReadSectors (block_sectors y.setting.layout)) has free refl refl refl
reads_delta x y s at work (ReadAgain (OfArea name)) has free = plain_call x s at.path (Lease work (ReadAgain (OfArea name))) at.base (ReadSectors (area_sectors y.setting.layout)) has free refl refl refl
reads_delta x y s at work (ReadAgain OfFree) has free = plain_call x s at.path (Lease work (ReadAgain OfFree)) at.base (ReadSectors (area_sectors y.setting.layout)) has free refl refl refl
reads_delta x y s at work (ReadAgain OfBlock) has free = plain_call x s at.path (Lease work (ReadAgain OfBlock)) (block_offset y.setting.layout at.base 1) (ReadSectors (block_sectors y.setting.layout)) has free refl refl refl
reads_delta x y s at work (ReadAgain OfPhase1) has free = plain_call x s at.path (Lease work (ReadAgain OfPhase1)) (block_offset y.setting.layout at.base 1) (ReadSectors (block_sectors y.setting.layout)) has free refl refl refl
reads_delta x y s at work (ReadAgain OfPhase2) has free = plain_call x s at.path (Lease work (ReadAgain OfPhase2)) (block_offset y.setting.layout at.base 1) (ReadSectors (block_sectors y.setting.layout)) has free refl refl refl
reads_delta x y s at work Phase1Write has free = plain_call x s at.path (Lease work Phase1Write) (block_offset y.setting.layout at.base 1) (ReadSectors (block_sectors y.setting.layout)) has free refl refl refl
reads_delta x y s at work Phase1Read has free = plain_call x s at.path (Lease work Phase1Read) (block_offset y.setting.layout at.base 1) (ReadSectors (block_sectors y.setting.layout)) has free refl refl refl
reads_delta x y s at work Phase2Write has free = plain_call x s at.path (Lease work Phase2Write) (block_offset y.setting.layout at.base 1) (ReadSectors (block_sectors y.setting.layout)) has free refl refl refl
reads_delta x y s at work Phase2Read has free = plain_call x s at.path (Lease work Phase2Read) (block_offset y.setting.layout at.base 1) (ReadSectors (block_sectors y.setting.layout)) has free refl refl refl
reads_delta x y s at work TakeLeader has free = plain_call x s at.path (Lease work TakeLeader) (block_offset y.setting.layout at.base 1) (ReadSectors (block_sectors y.setting.layout)) has free refl refl refl
reads_delta x y s at work SetMode has free = plain_call x s at.path (Lease work SetMode) (block_offset y.setting.layout at.base 1) (ReadSectors (block_sectors y.setting.layout)) has free refl refl refl
reads_delta x y s at work FreeLeader has free = plain_call x s at.path (Lease work FreeLeader) (block_offset y.setting.layout at.base 1) (ReadSectors (block_sectors y.setting.layout)) has free refl refl refl
reads_delta x y s at work ClearMode has free = plain_call x s at.path (Lease work ClearMode) (block_offset y.setting.layout at.base 1) (ReadSectors (block_sectors y.setting.layout)) has free refl refl refl

pub grant_delta : (x : Step) (j lver : ℕ) (c : Command) → GrantAllowed (DeltaReply x) AnyStart j lver c
grant_delta x j lver (Acquire r shared q persistent) = plain_reply x j (Granted lver) refl
grant_delta x j lver (TakeOver r shared q persistent) = plain_reply x j (Granted lver) refl
grant_delta x j lver (RunProgram r shared path) = tt
grant_delta x j lver (Release r q) = tt
grant_delta x j lver (ReleaseOrphan r) = tt
grant_delta x j lver (Convert r shared q) = tt
grant_delta x j lver (Request r n force) = tt
grant_delta x j lver (GetLvb r q) = tt
grant_delta x j lver (SetLvb r q bytes) = tt
grant_delta x j lver (AddLockspace a) = tt
grant_delta x j lver (RemLockspace a) = tt
grant_delta x j lver (InqLockspace a) = tt
grant_delta x j lver (HostStatus a) = tt
grant_delta x j lver (SetKillpath q path) = tt
grant_delta x j lver Status = tt

pub lease_delta : (x y : Step) (s : Session) (at : Spot) (work : Work) (n : LeaseNext) → Has x s → free_write (calls_of (seen x) s) ≡ None → ((j : ℕ) (r : Reply) → n ≡ AnswerJob r → DeltaReply x j r)
    → LeaseAllowed (DeltaReply x) (DeltaCall x) AnyStart y s at work n
lease_delta x y s at work No_lease has free after = tt
lease_delta x y s at work (ReadFor step) has free after = reads_delta x y s at work step has free
lease_delta x y s at work (WriteBlock step b) has free after = plain_call x s at.path (Lease work step) (block_place y.setting.layout at.base s.id (next_turn y.setting (seen y) s at))
    (WriteRecord (block_record y.setting.layout (next_turn y.setting (seen y) s at) s.lockspace (name_on y.setting (seen y) s at) b)) has free refl refl
    (block_no_delta y.setting.layout (next_turn y.setting (seen y) s at) s.lockspace (name_on y.setting (seen y) s at) b)
lease_delta x y s at work (WriteLeader step l) has free after = plain_call x s at.path (Lease work step) (leader_offset at.base) (WriteRecord (leader_record y.setting.layout l)) has free refl refl (leader_no_delta y.setting.layout l)
lease_delta x y s at work (AnswerJob r) has free after = λ j is. after j r refl
lease_delta x y s at work (GrantJob mode lver) has free after = λ j c is reads_one. grant_delta x j lver c
lease_delta x y s at work (BecomeShared lver l) has free after =
    ((λ j is. plain_reply x j (Granted lver) refl), plain_call x s at.path (Lease Settling FreeLeader) (leader_offset at.base) (WriteRecord (leader_record y.setting.layout l)) has free refl refl (leader_no_delta y.setting.layout l))
lease_delta x y s at work (BecomeExclusive lver b) has free after = (
  (λ j is. plain_reply x j (Granted lver) refl),
  λ z same. plain_call x s at.path (Lease Settling ClearMode) (block_place z.setting.layout at.base s.id (next_turn z.setting (seen z) s at))
      (WriteRecord (block_record z.setting.layout (next_turn z.setting (seen z) s at) s.lockspace (name_on z.setting (seen z) s at) b)) has free refl refl
      (block_no_delta z.setting.layout (next_turn z.setting (seen z) s at) s.lockspace (name_on z.setting (seen z) s at) b),
)

pub request_delta : (x : Step) (s : Session) (j : ℕ) (bytes : List ℕ) (c : Command) → Has x s → free_write (calls_of (seen x) s) ≡ None → RequestAllowed (DeltaReply x) (DeltaCall x) x s j bytes c
request_delta x s j bytes (Request r asked force) has free = (
  (λ why is. plain_reply x j why (request_late x.setting.layout s.lockspace r asked force bytes why is)),
  plain_call x s r.path (RequestWrite j (owner_read x.setting.layout bytes)) (request_offset x.setting.layout r.offset) (WriteRecord (RequestIs (record { force = force; host = (if asked == 0 then 0 else s.id); lver = asked }))) has free refl refl refl,
)
request_delta x s j bytes (AddLockspace a) has free = tt
request_delta x s j bytes (RemLockspace a) has free = tt
request_delta x s j bytes (InqLockspace a) has free = tt
request_delta x s j bytes (HostStatus a) has free = tt
request_delta x s j bytes (Acquire r shared p persistent) has free = tt
request_delta x s j bytes (TakeOver r shared p persistent) has free = tt
request_delta x s j bytes (Release r p) has free = tt
request_delta x s j bytes (ReleaseOrphan r) has free = tt
request_delta x s j bytes (Convert r shared p) has free = tt
request_delta x s j bytes (RunProgram r shared path) has free = tt
request_delta x s j bytes (GetLvb r p) has free = tt
request_delta x s j bytes (SetLvb r p other) has free = tt
request_delta x s j bytes (SetKillpath p path) has free = tt
request_delta x s j bytes Status has free = tt

-- ---- what a delta lease decides of a joined session

pub renewed_delta : (x : Step) (s : Session) (recovering : Bool) (made : ℕ) (answer : Answer) → Has x s → free_write (calls_of (seen x) s) ≡ None → DeltaAllowed (DeltaReply x) (DeltaCall x) AnyMove x s (next_after_renewal recovering made answer)
renewed_delta x s recovering made Written has free =
    on_bool (DeltaAllowed (DeltaReply x) (DeltaCall x) AnyMove x s) recovering (MoveConnection made) Nothing (tt, plain_call x s s.path Survey s.offset (ReadSectors x.setting.layout.hosts) has free refl refl refl) tt
renewed_delta x s recovering made Failed has free = tt
renewed_delta x s recovering made (Read bytes) has free = tt

pub freed_delta : (x : Step) (s : Session) (j call : ℕ) (answer : Answer) → DeltaAllowed (DeltaReply x) (DeltaCall x) AnyMove x s (next_after_free j call answer)
freed_delta x s j call Written = (tt, plain_reply x j Done refl)
freed_delta x s j call Failed = (tt, plain_reply x j (IoFault call) refl)
freed_delta x s j call (Read bytes) = tt

pub nat_low : (n : ℕ) → n < record_numbers → is_number n ≡ true
nat_low n low = lt-ltb n record_numbers low

-- A renewal: its seq is one more, and in a leaving one is left.
pub renewal_delta : (x : Step) (s : Session) (bits : List ℕ) → Has x s → DeltaPart x.setting (seen x) → DeltaAllowed (DeltaReply x) (DeltaCall x) AnyMove x s (next_renewal (delta_of_session x.setting s) x.reading (delta_known x.setting (seen x) s) bits)
unfolding next_renewal
renewal_delta x s bits has h = by (is_renewal_due l x.reading k) refl where
  l : DeltaLease
  l = delta_of_session x.setting s

  k : DeltaKnown
  k = delta_known x.setting (seen x) s

  inside : Contains (sessions x.setting (seen x)) s
  inside = got_inside (sessions x.setting (seen x)) s.number s has

  seq_left : (o : Option Job) → leaving_job x.setting (seen x) s ≡ o
      → (elim (option_map (λ (j : Job). j.number) o) as (λ z. Bool) [ None ↦ is_number (last_seq (seen x) s + 1) | Some j ↦ not (is_some (free_write (calls_of (seen x) s))) && is_number (last_seq (seen x) s + 2) ]) ≡ true
      → (free_write (calls_of (seen x) s) ≡ None) × (is_number (last_seq (seen x) s + 1) ≡ true) × ((i : Job) → leaving_job x.setting (seen x) s ≡ Some i → is_number (last_seq (seen x) s + 1 + 1) ≡ true)
  seq_left None none is = (
    unfreed_by (free_write (calls_of (seen x) s)) (λ m freed. let i = some_of (leaving_job x.setting (seen x) s) (h.frees s m inside freed).0 in none_some i.0 (sym none ∙ i.1)),
    is,
    λ i leaves_s. absurd (none_some i (sym none ∙ leaves_s)),
  )
  seq_left (Some i) leaves_s is =
      let both = and_true (not (is_some (free_write (calls_of (seen x) s)))) (is_number (last_seq (seen x) s + 2)) is in
      let low : last_seq (seen x) s + 2 < record_numbers = ltb-true (last_seq (seen x) s + 2) record_numbers both.1 in
      (not_some (free_write (calls_of (seen x) s)) (not_is (is_some (free_write (calls_of (seen x) s))) both.0), nat_low (last_seq (seen x) s + 1) (omega (arith, low)), λ q so. nat_low (last_seq (seen x) s + 1 + 1) (omega (arith, low)))

  by : (b : Bool) → is_renewal_due (delta_of_session x.setting s) x.reading (delta_known x.setting (seen x) s) ≡ b
      → DeltaAllowed (DeltaReply x) (DeltaCall x) AnyMove x s (elim b as (λ z. DeltaNext) [ false ↦ Nothing | true ↦ WriteRenewal (delta_record (delta_of_session x.setting s) Live (generation_of (seen x) s) (last_seq (seen x) s + 1) x.reading bits) ])
  by false due = tt
  by true due =
      let seq = seq_left (leaving_job x.setting (seen x) s) refl (and_true (not k.recovering && nat_le (k.renewed + renew l.timing) x.reading && not k.busy) (has_seq_left k) due).1 in
      record {
        has = has;
        no_look = refl;
        no_free = refl;
        unfreed = seq.0;
        delta = λ d is.
            let same : delta_record (delta_of_session x.setting s) Live (generation_of (seen x) s) (last_seq (seen x) s + 1) x.reading bits ≡ d = some_value (delta_record (delta_of_session x.setting s) Live (generation_of (seen x) s) (last_seq (seen x) s + 1) x.reading bits) d is in
            subst (λ (z : DeltaRec). GoodDelta x s z) same (record { same = refl; seq = seq.1; left = λ i leaves_s. seq.2 i leaves_s });
      }
