-- What stands behind a verify read; and that delta records are written one after the other.
use Rattle.sl_words.proofs.Lists.{any_of, find_inside, kept, kept_inside}
use Rattle.sl_run_law.proofs.Place.TracesOnMachines.{header_is}
use Rattle.sl_run_law.specs.Course.CallStamps.{AnswersAgree, IsAnsweredAs, IsCourseOf}
use Rattle.sl_id_safety.proofs.State.TraceBridge.{Grounds, known}
use Rattle.sl_id_safety.proofs.State.CallLaws.{IsOwnCall, own_call, step_law}
use Rattle.sl_run_law.proofs.Place.FoundInLists.{partner}
use Rattle.sl_id_safety.proofs.State.JoiningSteps.{answered_before, only, reading_made}
use Rattle.sl_id_safety.proofs.State.Tails.{IsLater, front_at}
use Rattle.sl_id_safety.proofs.State.TracesInTime.{stamps_order}
use Rattle.sl_id_safety.specs.State.Facts.{DeltaWritesComeInTurn, HasClaimed, VerifyReadsHaveClaimed}
use Rattle.sl_run.specs.LawfulDelta.{LawfulDeltaCall, LawfulJoinStep}
use Rattle.sl_run.specs.Runs.{Happening}
use Rattle.sl_run.specs.Safety.{Found, LawfulRun, SessionId, is_course_of, setting_in, world_at}
use Rattle.sl_run.specs.Worlds.{Course, Program, Stamp, World}
use Rattle.sl_run.specs.declared.header.Header.{Header}
use Rattle.sl_sector.specs.Bitmaps.{no_bits}
use Rattle.sl_sector.specs.declared.sector.DeltaRec.{DeltaRec}
use Rattle.sl_sector.specs.declared.sector.DeltaState.TheVariants.{Claimed}
use Rattle.sl_trace.specs.DeltaDecisions.{delta_of_session, delta_record}
use Rattle.sl_sector.specs.declared.sector.Rec.TheVariants.{DeltaIs}
use Rattle.sl_sector.specs.declared.sector.Rec.{Rec}
use Rattle.sl_trace.specs.Sessions.{calls_of, delta_of_record, delta_written, has_open_delta, is_call_of, is_delta_purpose, is_join_call}
use Rattle.sl_trace.specs.declared.session.Session.{Session}
use Rattle.sl_time.specs.Times.{dead, join_max}
use Rattle.sl_trace.specs.Traces.{Answered, Setting, Submitted, Trace, is_write, new_call, record_of, submitted, unanswered}
use Rattle.sl_trace.specs.declared.effects.Call.{Call}
use Rattle.sl_trace.specs.declared.effects.JoinStep.TheVariants.{ClaimWrite, VerifyRead}
use Rattle.sl_trace.specs.declared.effects.Op.TheVariants.{ReadSectors, WriteRecord}
use Rattle.sl_trace.specs.declared.effects.Op.{Op}
use Rattle.sl_trace.specs.declared.effects.Purpose.TheVariants.{Joining, Leaving, Renewal, Survey}
use Rattle.sl_trace.specs.declared.effects.Purpose.{Purpose}
use Rattle.sl_run_law.proofs.Watchdog.Joins.{answered_within}
use Rattle.sl_words.proofs.CaseLaws.{no_value, none_some, true_is_false}
use Rattle.std.proofs.Common.{ap, arith, refl, subst, sym, ◌∙◌}
use Rattle.std.specs.Prelude.{Contains, List, None, Option, Some, false, is_none, length, option_and_then, suc, true, ◌+◌, ◌<◌, ◌≡◌, ◌≤◌}

-- ---- the verify read

pub writes_by : (op : Op) (r : Rec) → record_of op ≡ Some r → is_write op ≡ true
writes_by (ReadSectors n) r h = absurd (none_some r h)
writes_by (WriteRecord x) r h = refl

writes_any : (c : Call) (o : Option Rec) (d : DeltaRec) → record_of c.op ≡ o → option_and_then delta_of_record o ≡ Some d → is_write c.op ≡ true
writes_any c None d is h = absurd (none_some d h)
writes_any c (Some r) d is h = writes_by c.op r is

claim_writes : (st : Setting) (t : Trace) (s : Session) (n : Submitted) → LawfulJoinStep st t s n ClaimWrite → is_write n.call.op ≡ true
claim_writes st t s n law =
    writes_any n.call (record_of n.call.op) (delta_record (delta_of_session st s) Claimed (law.found.generation + 1) (law.found.seq + 1) n.reading no_bits) refl law.written

has_claimed : Grounds → (p : Program) (h : Header) (xs : List Happening) → LawfulRun p h xs → (i : SessionId) (f : Found) (c : Course) (o : IsOwnCall (world_at p h xs) i f c)
    → is_join_call VerifyRead c.call.purpose ≡ true → HasClaimed h (world_at p h xs) i f c
has_claimed g p h xs run i f c o is =
    let w : World = world_at p h xs in
    let law = step_law w i f c o VerifyRead is in
    let there = find_inside (λ (m : Submitted). is_join_call ClaimWrite m.call.purpose) (calls_of (front_at o.placed.made) f.session) law.claim law.claimed in
    let b = answered_before w i f c o law.claim law.answer there.0 law.answered.0 in
    let oc = own_call w i f b.course o.known b.own in
    let claims : is_join_call ClaimWrite b.course.call.purpose ≡ true = ap (λ (x : Call). is_join_call ClaimWrite x.purpose) (sym b.is.call) ∙ there.1 in
    let writes : is_write b.course.call.op ≡ true =
    ap (λ (x : Call). is_write x.op) (sym oc.placed.pairs.this.call)
    ∙ claim_writes (setting_in f) (front_at oc.placed.made) f.session (new_call (length oc.placed.made.past) oc.placed.made.entry.reading oc.placed.pairs.here.call)
    (step_law w i f b.course oc ClaimWrite claims) in
    let same = o.known.of_world.timing ∙ ap (λ (x : Header). x.timing) (header_is p h xs) in
    let made = reading_made w i f c o in
    let long : dead (setting_in f).timing ≡ dead h.timing = ap (λ t. dead t) same in
    let most : join_max (setting_in f).timing ≡ join_max h.timing = ap (λ t. join_max t) same in
    record {
      only = only w i f c o VerifyRead (λ e. omega (arith, e)) is;
      claim = b.course;
      claimed = only w i f b.course oc ClaimWrite (λ e. omega (arith, e)) claims;
      landed = g.landed p h xs run i.machine f.machine b.course o.known.there.at (kept_inside (is_course_of i) f.machine.calls b.course b.own).0
          (b.told.done ∙ law.answered.1) writes;
      answer = b.told.stamp;
      answered = (b.told.answered, b.before);
      waited = omega (arith, law.waited, made, b.told.reading, long);
      in_time = omega (arith, law.in_time, made, b.is.reading, most);
    }

-- Behind a verify read stands its claim.
pub verify_reads_have_claimed_given : Grounds → VerifyReadsHaveClaimed
verify_reads_have_claimed_given g p h xs run i f c its there is = has_claimed g p h xs run i f c (own_call (world_at p h xs) i f c (known g p h xs run i f its) there) is

-- ---- one after the other

delta_by : (st : Setting) (t : Trace) (s : Session) (n : Submitted) (d : DeltaRec) (p : Purpose) → LawfulDeltaCall st t s n p → delta_written n ≡ Some d → is_delta_purpose p ≡ true
delta_by st t s n d (Joining j step) law is = refl
delta_by st t s n d Renewal law is = refl
delta_by st t s n d Survey law is = refl
delta_by st t s n d (Leaving j) law is = refl
delta_by st t s n d p law is = absurd (no_value d (delta_written n) is law)

written_by : (c : Call) (op : Op) (d : DeltaRec) → c.op ≡ op → record_of op ≡ Some (DeltaIs d) → option_and_then delta_of_record (record_of c.op) ≡ Some d
written_by c op d same is = ap (λ x. option_and_then delta_of_record (record_of x)) same ∙ ap (λ q. option_and_then delta_of_record q) is

-- What a call writes is what its submission writes.
pub written_there : (w : World) (i : SessionId) (f : Found) (c : Course) (o : IsOwnCall w i f c) (d : DeltaRec) → record_of c.call.op ≡ Some (DeltaIs d)
    → delta_written o.placed.pairs.here ≡ Some d
written_there w i f c o d is = written_by o.placed.pairs.here.call c.call.op d (ap (λ (x : Call). x.op) o.placed.pairs.this.call) is

pub delta_purpose : (w : World) (i : SessionId) (f : Found) (c : Course) (o : IsOwnCall w i f c) (d : DeltaRec) → record_of c.call.op ≡ Some (DeltaIs d)
    → is_delta_purpose o.placed.pairs.here.call.purpose ≡ true
delta_purpose w i f c o d is =
    delta_by (setting_in f) (front_at o.placed.made) f.session (new_call (length o.placed.made.past) o.placed.made.entry.reading o.placed.pairs.here.call) d o.placed.pairs.here.call.purpose
    o.lawful.law (written_there w i f c o d is)

-- Where no call on a delta sector is open, each is answered.
closed : (t : Trace) (s : Session) (r : Submitted) → has_open_delta t s ≡ false → Contains (calls_of t s) r → is_delta_purpose r.call.purpose ≡ true
    → (o : Option Answered) → r.answer ≡ o → (a : Answered) × (r.answer ≡ Some a)
closed t s r none there is (Some a) its = (a, its)
closed t s r none there is None its =
    absurd (true_is_false (sym (any_of (λ (m : Submitted). is_delta_purpose m.call.purpose) (unanswered (calls_of t s)) r is
    (kept (λ (m : Submitted). is_none m.answer) (calls_of t s) r (ap (λ q. is_none q) its) there)) ∙ none))

-- An earlier call on a delta sector was answered where a later one was made.
pub answered_in_turn : (w : World) (i : SessionId) (f : Found) (c k : Course) (o : IsOwnCall w i f c) → is_delta_purpose o.placed.pairs.here.call.purpose ≡ true
    → Contains o.placed.older k → is_delta_purpose k.call.purpose ≡ true → (s : Stamp) × (k.answered ≡ Some s) × (s.step ≤ c.made.step)
answered_in_turn w i f c k o mine there its =
    let x = o.placed in
    let d = x.made in
    let one = partner (IsCourseOf f.daemon) x.older x.pairs.rest k x.pairs.rests there in
    let two = partner IsLater x.pairs.rest (calls_of (front_at d) f.session) one.0 d.prior one.1 in
    let purpose : is_delta_purpose two.0.call.purpose ≡ true = ap (λ (y : Call). is_delta_purpose y.purpose) (sym two.2.same.call ∙ one.2.call) ∙ its in
    let answer = closed (front_at d) f.session two.0 (o.lawful.alone mine) two.1 purpose two.0.answer refl in
    let same : one.0.answer ≡ Some answer.0 = ap (λ (y : Submitted). y.answer) (two.2.stays answer.0 answer.1) ∙ answer.1 in
    let told : IsAnsweredAs f.daemon k answer.0 = subst (λ q. AnswersAgree f.daemon k q) same one.2.answers in
    let past : answer.0.at < suc (length d.past) =
    answered_within (front_at d) two.0 answer.0 (kept_inside (is_call_of f.session) (submitted (front_at d)) two.0 two.1).0 answer.1 in
    let le : answer.0.at ≤ x.pairs.here.at = omega (arith, past, d.place) in
    (told.stamp, told.answered, stamps_order w.step f.daemon.stamps answer.0.at x.pairs.here.at told.stamp c.made o.known.stamps told.entry x.pairs.this.made le)

-- A session's delta records are written one after the other.
pub delta_writes_come_in_turn_given : Grounds → DeltaWritesComeInTurn
delta_writes_come_in_turn_given g p h xs run i f c its there d e k writes has wrote lt =
    let w : World = world_at p h xs in
    let kn = known g p h xs run i f its in
    let o = own_call w i f c kn there in
    let ok = own_call w i f k kn has in
    answered_in_turn w i f c k o (delta_purpose w i f c o d writes) (o.placed.order k has lt)
    (ap (λ (x : Call). is_delta_purpose x.purpose) (sym ok.placed.pairs.this.call) ∙ delta_purpose w i f k ok e wrote)
