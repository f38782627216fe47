-- The causes of what calls of requests, values and leavings are answered with, and of faults.
use Rattle.sl_due_facts.specs.Acts.Acts.{Hears, lone_job}
use Rattle.sl_area.specs.AreaSizes.{record_in}
use Rattle.sl_area.specs.AreaLayout.{leader_of, read_at}
use Rattle.sl_due_law.proofs.Causes.AnsweredJobs.{AnswersHere, answers_here, number_is, its_command, with_command, with_spot}
use Rattle.sl_due_law.proofs.Causes.LaterSteps.{AnyMove, MayAnswer, MayCall, by_effects}
use Rattle.sl_due_law.proofs.Causes.Leases.GivenBlocks.{leader_spelled}
use Rattle.sl_due_law.specs.Causes.CauseLaws.{LeavingsAreCaused}
use Rattle.sl_due_law.specs.Causes.CausedSoFar.{StaysCaused, answering}
use Rattle.sl_due.specs.DueRequests.{request_refusal, value_reply}
use Rattle.sl_due.specs.Steps.{Step, seen, with_effects}
use Rattle.sl_due_leases.proofs.Holdings.LeaseCallers.{heard_call}
use Rattle.sl_due_leases.specs.Holdings.Moments.{Known}
use Rattle.sl_due_facts.proofs.Jobs.CallsHaveFacts.{find_mapped}
use Rattle.sl_due_facts.proofs.Jobs.CallsStay.{late}
use Rattle.sl_due_facts.proofs.Jobs.JobsAreNumbered.{found_before}
use Rattle.sl_due_facts.proofs.Jobs.EffectsAreAllowed.{DeltaAllowed}
use Rattle.sl_run.specs.Caused.{Answering, AnswersRead, CausedBy, GivesLeader, IsDoneFor}
use Rattle.sl_trace.specs.Jobs.{command_numbered, job_of_start}
use Rattle.sl_trace.specs.Leases.{Area_read, is_at, is_leader_of, kind_of_step, lease_step, same_kind}
use Rattle.sl_request.specs.Requests.{check_request}
use Rattle.sl_sector.specs.SectorLayouts.{request_in, value_in}
use Rattle.sl_sector.specs.declared.sector.Leader.{Leader}
use Rattle.sl_sector.specs.declared.sector.Request.{Request as RequestRec}
use Rattle.sl_sector.specs.declared.sector.ValueRec.{ValueRec}
use Rattle.sl_trace.specs.DeltaDecisions.{next_after_free}
use Rattle.sl_trace.specs.declared.session.Session.{Session}
use Rattle.sl_due_facts.specs.Facts.JobFacts.{FitsCommand}
use Rattle.sl_trace.specs.Traces.{Child, Submitted, child_after, child_numbered, children, is_expected, is_starting, job_of, new_child, submitted}
use Rattle.sl_trace.specs.declared.command.Command.TheVariants.{RemLockspace, Request}
use Rattle.sl_trace.specs.declared.command.Command.{Command}
use Rattle.sl_trace.specs.declared.command.ResourceArg.{ResourceArg}
use Rattle.sl_trace.specs.declared.effects.Purpose.TheVariants.{Leaving, RequestRead, RequestWrite, ValueRead, ValueWrite}
use Rattle.sl_trace.specs.declared.effects.Purpose.{Purpose}
use Rattle.sl_trace.specs.declared.input.Answer.TheVariants.{Failed, Read, Written}
use Rattle.sl_trace.specs.declared.input.Answer.{Answer}
use Rattle.sl_trace.specs.declared.input.Input.TheVariants.{Spawned, Wake}
use Rattle.sl_trace.specs.declared.input.Input.{Input}
use Rattle.sl_trace.specs.declared.reply.Reply.TheVariants.{Done, IoFault, RequestOld, SpawnFault, TornLeader, Value, ValueTorn, WrongArea}
use Rattle.sl_trace.specs.declared.reply.Reply.{Reply}
use Rattle.sl_words.proofs.CaseLaws.{none_some, not_both, some_value}
use Rattle.sl_words.proofs.Options.{some_of}
use Rattle.sl_words.proofs.WordLaws.{choose_some, some_is_true}
use Rattle.sl_words.specs.Words.{choose, some_is}
use Rattle.std.proofs.Common.{ap, inr, refl, subst, sym, ◌∙◌}
use Rattle.std.specs.Option.{option_or}
use Rattle.std.specs.Prelude.{Bool, Contains, IsFalse, IsTrue, List, None, Ok, Option, Some, false, find, is_none, map, not, option_and_then, option_map, true, ℕ, ◌++◌, ◌==◌, ◌≡◌, ◌≢◌}

-- ---- faults

-- A call of the job that failed.
pub fault_caused : (x : Step) (s : Session) (m : Submitted) (n : ℕ) → Known x → Hears x s m Failed → job_of m.call.purpose ≡ Some n → StaysCaused x (record { job = n; reply = IoFault m.call.number })
fault_caused x s m n k hears of z later j is = (m, (answers_here x s m Failed n k hears of z later j is).call, refl)

pub lone_of : (p : Purpose) (j : ℕ) → lone_job p ≡ Some j → job_of p ≡ Some j
lone_of (RequestRead i) j is = is
lone_of (RequestWrite i owner) j is = is
lone_of (ValueWrite i) j is = is
lone_of (ValueRead i) j is = is
lone_of p j is = absurd (none_some j is)

-- ---- the read of a value

pub told_caused : (x : Step) (s : Session) (m : Submitted) (n : ℕ) (bytes : List ℕ) → Known x → Hears x s m (Read bytes) → m.call.purpose ≡ ValueRead n
    → StaysCaused x (record { job = n; reply = value_reply x.setting.layout bytes })
told_caused x s m n bytes k hears purpose z later j is =
    by (value_in (record_in x.setting.layout bytes)) refl (answers_here x s m (Read bytes) n k hears (ap (λ p. job_of p) purpose) z later j is)
  where
    there : (o : Option ValueRec) → value_in (record_in x.setting.layout bytes) ≡ o → value_in (record_in z.setting.layout bytes) ≡ o
    there o at = ap (λ st. value_in (record_in st.layout bytes)) later.setting ∙ at

    by : (o : Option ValueRec) → value_in (record_in x.setting.layout bytes) ≡ o → AnswersHere x m (Read bytes) n z j
        → CausedBy (answering z j) (elim o as (λ q. Reply) [ None ↦ ValueTorn | Some v ↦ Value v.lver v.seq v.bytes ])
    by None at h = (m, bytes, h.call, (purpose ∙ ap (λ i. ValueRead i) (sym h.number), there None at))
    by (Some v) at h = (m, bytes, h.call, (purpose ∙ ap (λ i. ValueRead i) (sym h.number), (v, there (Some v) at, refl, refl, refl)))

-- ---- the read of leader and request

asked_some : (b : Bool) → not b ≡ true → b ≡ true → ⊥
asked_some b other is = not_both b is (by b other) where
  by : (b : Bool) → not b ≡ true → b ≡ false
  by false h = refl
  by true h = absurd (not_both true refl (sym h))

not_true : (b : Bool) → not b ≡ true → b ≡ false
not_true false h = refl
not_true true h = absurd (not_both true refl (sym h))

zero_is : (n : ℕ) → n ≡ 0 → (n == 0) ≡ true
zero_is n is = ap (λ k. k == 0) is

pub request_caused : (x : Step) (s : Session) (m : Submitted) (n : ℕ) (bytes : List ℕ) (r : ResourceArg) (asked force : ℕ) → Known x → Hears x s m (Read bytes) → m.call.purpose ≡ RequestRead n
    → command_numbered x.setting (seen x) n ≡ Some (Request r asked force) → r.lockspace ≡ s.lockspace
    → (why : Reply) → request_refusal x.setting.layout s.lockspace r asked force bytes ≡ Some why → StaysCaused x (record { job = n; reply = why })
unfolding request_refusal
request_caused x s m n bytes r asked force k hears purpose says space why refused z later j is =
    by_leader (answers_here x s m (Read bytes) n k hears (ap (λ p. job_of p) purpose) z later j is) (leader_of x.setting.layout bytes) refl refused
  where
    y : Answering
    y = answering z j

    layout : z.setting.layout ≡ x.setting.layout
    layout = ap (λ st. st.layout) later.setting

    of_request : is_at Area_read m ≡ false
    of_request = ap (λ p. some_is (λ q. same_kind (kind_of_step q.1) Area_read) (lease_step p)) purpose

    command : AnswersHere x m (Read bytes) n z j → y.job.command ≡ Ok (Request r asked force)
    command h = its_command x.setting (seen x) n j (Request r asked force) h.found says

    old : AnswersHere x m (Read bytes) n z j → (l : Leader) → leader_of x.setting.layout bytes ≡ Some l → (stored : Option ℕ)
        → option_map (λ (q : RequestRec). q.lver) (request_in (read_at x.setting.layout bytes 1)) ≡ stored
        → elim stored as (λ q. Type 0) [ None ↦ asked ≢ 0 | Some i ↦ IsFalse (check_request l.lver i asked force) ] → CausedBy y (RequestOld l.lver stored)
    old h l there stored at below =
        with_command y (Request r asked force)
        (λ c. (q : ResourceArg) × (a : ℕ) × (f : ℕ) × (c ≡ Request q a f)
        × AnswersRead y (λ d bs. (b : Leader) × (leader_of y.setting.layout bs ≡ Some b) × (b.lver ≡ l.lver)
        × (option_map (λ (w : RequestRec). w.lver) (request_in (read_at y.setting.layout bs 1)) ≡ stored)
        × elim stored as (λ w. Type 0) [ None ↦ a ≢ 0 | Some i ↦ IsFalse (check_request l.lver i a f) ]))
        (command h)
        (r, asked, force, refl, (m, bytes, h.call, (l, ap (λ g. leader_of g bytes) layout ∙ there, refl, ap (λ g. option_map (λ (w : RequestRec). w.lver) (request_in (read_at g bytes 1))) layout ∙ at, below)))

    by_record : AnswersHere x m (Read bytes) n z j → (l : Leader) → leader_of x.setting.layout bytes ≡ Some l → (o : Option RequestRec) → request_in (read_at x.setting.layout bytes 1) ≡ o
        → elim o as (λ q. Option Reply) [ None ↦ choose (not (asked == 0)) (RequestOld l.lver None) | Some q ↦ choose (not (check_request l.lver q.lver asked force)) (RequestOld l.lver (Some q.lver)) ] ≡ Some why
        → CausedBy y why
    by_record h l there None at says_why =
        let v = choose_some (not (asked == 0)) (RequestOld l.lver None) why says_why in
        subst (λ w. CausedBy y w) v.1 (old h l there None (ap (λ o. option_map (λ (w : RequestRec). w.lver) o) at) (λ none. asked_some (asked == 0) v.0 (zero_is asked none)))
    by_record h l there (Some q) at says_why =
        let v = choose_some (not (check_request l.lver q.lver asked force)) (RequestOld l.lver (Some q.lver)) why says_why in
        subst (λ w. CausedBy y w) v.1 (old h l there (Some q.lver) (ap (λ o. option_map (λ (w : RequestRec). w.lver) o) at) (not_true (check_request l.lver q.lver asked force) v.0))

    by_name : AnswersHere x m (Read bytes) n z j → (l : Leader) → leader_of x.setting.layout bytes ≡ Some l → (b : Bool) → is_leader_of x.setting.layout s.lockspace r.name l ≡ b
        → elim b as (λ q. Option Reply) [
          | false ↦ Some (WrongArea l.lockspace l.resource l.num_hosts)
          | true ↦ elim (request_in (read_at x.setting.layout bytes 1)) as (λ q. Option Reply) [
            | None ↦ choose (not (asked == 0)) (RequestOld l.lver None)
            | Some q ↦ choose (not (check_request l.lver q.lver asked force)) (RequestOld l.lver (Some q.lver))
          ]
        ] ≡ Some why
        → CausedBy y why
    by_name h l there false other says_why =
        subst (λ w. CausedBy y w) (some_value (WrongArea l.lockspace l.resource l.num_hosts) why says_why)
        (with_spot y (Request r asked force) r
        (λ q at. AnswersRead y (λ c bs. (b : Leader) × GivesLeader y c bs (Some b) × (b.lockspace ≡ l.lockspace) × (b.resource ≡ l.resource) × (b.num_hosts ≡ l.num_hosts)
        × IsFalse (is_leader_of y.setting.layout q.lockspace q.name b)))
        (command h) refl
        (m, bytes, h.call, (l, leader_spelled y m bytes (Some l) of_request (ap (λ g. leader_of g bytes) layout ∙ there), refl, refl, refl, ap (λ g. is_leader_of g r.lockspace r.name l) layout ∙ (ap (λ name. is_leader_of x.setting.layout name r.name l) space ∙ other))))
    by_name h l there true right says_why = by_record h l there (request_in (read_at x.setting.layout bytes 1)) refl says_why

    by_leader : AnswersHere x m (Read bytes) n z j → (o : Option Leader) → leader_of x.setting.layout bytes ≡ o
        → elim o as (λ q. Option Reply) [
          | None ↦ Some TornLeader
          | Some l ↦ elim (is_leader_of x.setting.layout s.lockspace r.name l) as (λ q. Option Reply) [
            | false ↦ Some (WrongArea l.lockspace l.resource l.num_hosts)
            | true ↦ elim (request_in (read_at x.setting.layout bytes 1)) as (λ q. Option Reply) [
              | None ↦ choose (not (asked == 0)) (RequestOld l.lver None)
              | Some q ↦ choose (not (check_request l.lver q.lver asked force)) (RequestOld l.lver (Some q.lver))
            ]
          ]
        ] ≡ Some why
        → CausedBy y why
    by_leader h None torn says_why =
        subst (λ w. CausedBy y w) (some_value TornLeader why says_why)
        (m, bytes, h.call, (inr (purpose ∙ ap (λ i. RequestRead i) (sym h.number)), leader_spelled y m bytes None of_request (ap (λ g. leader_of g bytes) layout ∙ torn)))
    by_leader h (Some l) there says_why = by_name h l there (is_leader_of x.setting.layout s.lockspace r.name l) refl says_why

-- ---- the free of a leaving

pub done_caused : LeavingsAreCaused
done_caused x s m n k hears purpose z later j is =
    by (some_of (command_numbered x.setting (seen x) n) (k.0.facts.jobs.called m n there of)) (answers_here x s m Written n k hears of z later j is)
  where
    of : job_of m.call.purpose ≡ Some n
    of = ap (λ p. job_of p) purpose

    there : Contains (submitted (seen x)) m
    there = (heard_call x s m Written hears).0

    by : (c : Command) × (command_numbered x.setting (seen x) n ≡ Some c) → AnswersHere x m Written n z j → CausedBy (answering z j) Done
    by f h =
        let fits : FitsCommand x.setting s m f.0 (Leaving n) = subst (λ (p : Purpose). FitsCommand x.setting s m f.0 p) purpose (k.0.facts.jobs.fits m n s f.0 there of hears.session f.1) in
        with_command (answering z j) (RemLockspace fits.0) (IsDoneFor (answering z j)) (its_command x.setting (seen x) n j f.0 h.found f.1 ∙ ap (λ c. Ok c) fits.1)
        (m, h.call, purpose ∙ ap (λ i. Leaving i) (sym h.number))

pub freed_may : (these : Reply → Bool) (x : Step) (s : Session) (m : Submitted) (n : ℕ) (answer : Answer) → Known x → Hears x s m answer → m.call.purpose ≡ Leaving n
    → DeltaAllowed (MayAnswer these x) (MayCall x) AnyMove x s (next_after_free n m.call.number answer)
freed_may these x s m n Written k hears purpose = (tt, (late x Done refl, λ shown. done_caused x s m n k hears purpose))
freed_may these x s m n Failed k hears purpose = (tt, (late x (IoFault m.call.number) refl, λ shown. fault_caused x s m n k hears (ap (λ p. job_of p) purpose)))
freed_may these x s m n (Read bytes) k hears purpose = tt

-- ---- a start that failed

child_same : (p : ℕ) (ok : Bool) (k : Child) → ((child_after (Spawned p ok) k).process ≡ k.process) × ((child_after (Spawned p ok) k).job ≡ k.job)
child_same p ok k = by (p == k.process) where
  after : Bool → Child
  after b = elim b as (λ z. Child) [ false ↦ k | true ↦ record k { answer = option_or k.answer (Some ok) } ]

  by : (b : Bool) → ((after b).process ≡ k.process) × ((after b).job ≡ k.job)
  by false = (refl, refl)
  by true = (refl, refl)

-- The child of a start that is answered was there before.
pub started_before : (x : Step) (p : ℕ) (ok : Bool) (j : ℕ) → Known x → x.input ≡ Spawned p ok → job_of_start (seen x) p ≡ Some j → job_of_start x.past p ≡ Some j
started_before x p ok j k input is = by (some_is_true (λ (c : Child). is_none c.answer) (child_numbered x.past p) expected) where
  expected : is_starting x.past p ≡ true
  expected = subst (λ i. IsTrue (is_expected x.setting x.past i)) input k.0.orderly.is_trace.0.expected

  named : Child → Bool
  named c = c.process == p

  by : (c : Child) × (child_numbered x.past p ≡ Some c) × (is_none c.answer ≡ true) → job_of_start x.past p ≡ Some j
  by f =
      let mapped : find named (map (child_after (Spawned p ok)) (children x.past)) ≡ Some (child_after (Spawned p ok) f.0) =
      find_mapped named (child_after (Spawned p ok)) (children x.past) (λ c. ap (λ n. n == p) (child_same p ok c).0) ∙ ap (λ o. option_map (child_after (Spawned p ok)) o) f.1 in
      let now : child_numbered (seen x) p ≡ Some (child_after (Spawned p ok) f.0) =
      ap (λ i. find named (map (child_after i) (children x.past) ++ map new_child x.effects.starts)) input
      ∙ found_before named (map (child_after (Spawned p ok)) (children x.past)) (map new_child x.effects.starts) (child_after (Spawned p ok) f.0) mapped in
      ap (λ o. option_and_then (λ (c : Child). c.job) o) f.1
      ∙ (sym (child_same p ok f.0).1 ∙ (sym (ap (λ o. option_and_then (λ (c : Child). c.job) o) now) ∙ is))

pub spawn_caused : (x : Step) (p j : ℕ) → Known x → x.input ≡ Spawned p false → job_of_start (seen x) p ≡ Some j → StaysCaused x (record { job = j; reply = SpawnFault })
spawn_caused x p j k input is =
    by_effects x (record { job = j; reply = SpawnFault }) (λ wake. apart x.input input wake)
    (λ fx carried job found. (p, input, started_before x p false j k input is ∙ ap (λ n. Some n) (sym (number_is x.setting (seen (with_effects x fx)) j job found)))) where
      apart : (i : Input) → i ≡ Spawned p false → i ≡ Wake → ⊥
      apart i spawned wake = cc
