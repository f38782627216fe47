-- The whole of an answer to a call on a request or a value is followed by the state that it makes.
use Rattle.sl_host_law.proofs.Answers.AnswersFollow.{call, idle_job, place, stands, theirs}
use Rattle.sl_host_law.proofs.Answers.DecisionsAreCarried.{called, layout_is}
use Rattle.sl_host_law.specs.Answers.AnswersFollow.{IsAnswerTo}
use Rattle.sl_host_law.specs.Answers.Requests.{Follows, RequestsFollow, answering_job, on_given, requesting, requesting_for, seeing_request, writing_request}
use Rattle.sl_area.specs.AreaSizes.{Layout, record_in}
use Rattle.sl_area.specs.AreaLayout.{leader_of, read_at, request_offset}
use Rattle.sl_host_law.specs.Calls.MemberCalls.{is_leaving_alone}
use Rattle.sl_due.specs.DueAnswers.{after_answer_of}
use Rattle.sl_due.specs.DueRequests.{after_request_read, after_see_request, after_value_read, owner_read, request_refusal, signal_of_request, value_reply, write_request}
use Rattle.sl_due.specs.DueRecovery.{send}
use Rattle.sl_due.specs.Steps.{Step, add_call_of, add_reply, when, with_input, with_some}
use Rattle.sl_host_state.specs.HeardInputs.{heard_answer, member_hearing}
use Rattle.sl_host_state.specs.KeptState.{HostState, MemberState}
use Rattle.sl_host_state.specs.MadeEffects.{with_reply}
use Rattle.sl_host_state.specs.HostStands.{Stands}
use Rattle.sl_host_state.specs.declared.kept_parts.OpenCall.{OpenCall}
use Rattle.sl_host_state.specs.declared.kept_parts.ValuePair.{ValuePair}
use Rattle.sl_trace.specs.Leases.{is_leader_of}
use Rattle.sl_host_law.proofs.StepParts.SignalsAreTaken.{signals_are_taken}
use Rattle.sl_host_law.specs.StepParts.Signals.{sending}
use Rattle.sl_words.proofs.Numbers.{number_itself}
use Rattle.sl_host_law.proofs.Questions.AnswersDecide.{answers_decide}
use Rattle.sl_host_law.specs.Questions.Answers.{AnswerDecides, for_job_in, seen_request_in, set_reply_in, spot_in}
use Rattle.sl_host_law.specs.Questions.Jobs.{command_in, running_in}
use Rattle.sl_host_law.specs.Questions.Members.{exclusive_at}
use Rattle.sl_host_law.proofs.Replies.RepliesAreTaken.RepliesKeepHosts.{replies_are_taken}
use Rattle.sl_host_law.specs.Replies.RepliesAreTaken.{MayReply}
use Rattle.sl_request.specs.Requests.{check_request}
use Rattle.sl_sector.specs.SectorLayouts.{request_in, value_in}
use Rattle.sl_sector.specs.declared.sector.Leader.{Leader}
use Rattle.sl_sector.specs.declared.sector.Rec.TheVariants.{RequestIs}
use Rattle.sl_sector.specs.declared.sector.Request.{Request as RequestRec}
use Rattle.sl_sector.specs.declared.sector.ValueRec.{ValueRec}
use Rattle.sl_trace.specs.Traces.{bytes_given, is_before_input, is_orphan, job_of}
use Rattle.sl_trace.specs.declared.command.Command.TheVariants.{Request}
use Rattle.sl_trace.specs.declared.command.Command.{Command}
use Rattle.sl_trace.specs.declared.command.ResourceArg.{ResourceArg}
use Rattle.sl_trace.specs.declared.effects.Grant.{Grant}
use Rattle.sl_trace.specs.declared.effects.Op.TheVariants.{WriteRecord}
use Rattle.sl_trace.specs.declared.effects.Purpose.TheVariants.{RequestRead, RequestWrite, SeeRequest, ValueRead, ValueWrite}
use Rattle.sl_trace.specs.declared.effects.Purpose.{Purpose}
use Rattle.sl_trace.specs.declared.effects.Signal.{Signal}
use Rattle.sl_trace.specs.declared.input.Answer.TheVariants.{Failed, Read, Written}
use Rattle.sl_trace.specs.declared.input.Answer.{Answer}
use Rattle.sl_trace.specs.declared.input.Input.TheVariants.{Answer as Told}
use Rattle.sl_trace.specs.declared.reply.Reply.TheVariants.{Done, IoFault, RequestOld, TornLeader, Value, ValueSet, ValueTorn, WrongArea}
use Rattle.sl_trace.specs.declared.reply.Reply.{Reply}
use Rattle.sl_words.proofs.CaseLaws.{none_some, some_value}
use Rattle.sl_words.specs.Words.{choose, some_is}
use Rattle.std.proofs.Common.{ap, inl, refl, subst, sym, ◌∙◌}
use Rattle.std.specs.Option.{option_map_or}
use Rattle.std.specs.Prelude.{Bool, List, None, Option, Some, cond, false, if◌then◌else◌, not, true, ℕ, ◌==◌, ◌||◌, ◌≡◌}

-- ---- replies to a read come with it

refusal_late : (g : Layout) (lockspace : List ℕ) (r : ResourceArg) (asked force : ℕ) (bytes : List ℕ) (why : Reply) → request_refusal g lockspace r asked force bytes ≡ Some why → is_before_input why ≡ false
unfolding request_refusal
refusal_late g lockspace r asked force bytes why = by_leader (leader_of g bytes) where
  chosen : (b : Bool) (w : Reply) → is_before_input w ≡ false → choose b w ≡ Some why → is_before_input why ≡ false
  chosen true w late is = subst (λ z. is_before_input z ≡ false) (some_value w why is) late
  chosen false w late is = absurd (none_some why is)

  by_request : (l : Leader) (o : Option RequestRec)
      → elim o as (λ z. Option Reply) [ None ↦ choose (not (asked == 0)) (RequestOld l.lver None) | Some q ↦ choose (not (check_request l.lver q.lver asked force)) (RequestOld l.lver (Some q.lver)) ] ≡ Some why
      → is_before_input why ≡ false
  by_request l None is = chosen (not (asked == 0)) (RequestOld l.lver None) refl is
  by_request l (Some q) is = chosen (not (check_request l.lver q.lver asked force)) (RequestOld l.lver (Some q.lver)) refl is

  by_names : (l : Leader) (named : Bool)
      → elim named as (λ z. Option Reply) [
        | false ↦ Some (WrongArea l.lockspace l.resource l.num_hosts)
        | true ↦ elim (request_in (read_at g bytes 1)) as (λ z. Option Reply) [
          | None ↦ choose (not (asked == 0)) (RequestOld l.lver None)
          | Some q ↦ choose (not (check_request l.lver q.lver asked force)) (RequestOld l.lver (Some q.lver))
        ]
      ] ≡ Some why → is_before_input why ≡ false
  by_names l false is = subst (λ z. is_before_input z ≡ false) (some_value (WrongArea l.lockspace l.resource l.num_hosts) why is) refl
  by_names l true is = by_request l (request_in (read_at g bytes 1)) is

  by_leader : (o : Option Leader)
      → elim o as (λ z. Option Reply) [
        | None ↦ Some TornLeader
        | Some l ↦ elim (is_leader_of g lockspace r.name l) as (λ z. Option Reply) [
          | false ↦ Some (WrongArea l.lockspace l.resource l.num_hosts)
          | true ↦ elim (request_in (read_at g bytes 1)) as (λ z. Option Reply) [
            | None ↦ choose (not (asked == 0)) (RequestOld l.lver None)
            | Some q ↦ choose (not (check_request l.lver q.lver asked force)) (RequestOld l.lver (Some q.lver))
          ]
        ]
      ] ≡ Some why → is_before_input why ≡ false
  by_leader None is = subst (λ z. is_before_input z ≡ false) (some_value TornLeader why is) refl
  by_leader (Some l) is = by_names l (is_leader_of g lockspace r.name l) is

value_late : (g : Layout) (bytes : List ℕ) → is_before_input (value_reply g bytes) ≡ false
value_late g bytes = by (value_in (record_in g bytes)) where
  by : (o : Option ValueRec) → is_before_input (elim o as (λ z. Reply) [ None ↦ ValueTorn | Some v ↦ Value v.lver v.seq v.bytes ]) ≡ false
  by None = refl
  by (Some v) = refl

set_late : (c : OpenCall) → is_before_input (set_reply_in c) ≡ false
set_late c = by c.value where
  by : (o : Option ValuePair) → is_before_input (option_map_or (λ v. ValueSet v.lver v.seq) o Done) ≡ false
  by None = refl
  by (Some v) = refl

module _ (number : ℕ) (c : OpenCall) (a : Answer) (h : HostState) (x : Step) (k : ℕ) (m : MemberState) (to : IsAnswerTo number c a h x k m) (not_refused : m.refused ≡ false) where
  decides : AnswerDecides (heard_answer number a h) (with_input (Told number a) x) (member_hearing h c a m) (theirs number c a h x k m to not_refused).0 c a
  decides =
      answers_decide (Told number a) (heard_answer number a h) (with_input (Told number a) x) (place number c a h x k m to not_refused).0 (member_hearing h c a m) (theirs number c a h x k m to not_refused).0 c a
      (call number c a h x k m to not_refused)

  after : Stands (Told number a) (heard_answer number a h) (with_input (Told number a) x)
  after = stands number c a h x k m to not_refused

  -- Where this is what is done of the purpose, that is what follows.
  pub follows : (p : Purpose) → c.purpose ≡ p → (new : HostState) → Stands (Told number a) new (after_answer_of m.who (theirs number c a h x k m to not_refused).0 p a (with_input (Told number a) x)) → Follows number a h x new
  follows p is new done =
      subst (λ (y : Step). Stands (Told number a) new y)
      (sym ((theirs number c a h x k m to not_refused).3 ∙ ap (λ (q : Purpose). after_answer_of m.who (theirs number c a h x k m to not_refused).0 q a (with_input (Told number a) x)) is)) done

  pub may : (j : ℕ) (r : Reply) → is_before_input r ≡ false → running_in (heard_answer number a h) j ≡ true → MayReply (Told number a) (heard_answer number a h) (with_input (Told number a) x) j r
  may j r late goes = record { runs = goes; heed = inl late; line = tt }

  said : (j : ℕ) (r : Reply) → is_before_input r ≡ false → running_in (heard_answer number a h) j ≡ true → Stands (Told number a) (with_reply j r (heard_answer number a h)) (add_reply j r (with_input (Told number a) x))
  said j r late goes = replies_are_taken j r (Told number a) (heard_answer number a h) (with_input (Told number a) x) after (may j r late goes)

  -- For a job that runs.
  for_one : (j : ℕ) (f : List ℕ → HostState → HostState) (g : List ℕ → Step → Step) (done_f : HostState → HostState) (done_g : Step → Step)
      → (running_in (heard_answer number a h) j ≡ true → (bytes : List ℕ) → Stands (Told number a) (f bytes (heard_answer number a h)) (g bytes (with_input (Told number a) x)))
      → (running_in (heard_answer number a h) j ≡ true → Stands (Told number a) (done_f (heard_answer number a h)) (done_g (with_input (Told number a) x)))
      → Stands (Told number a) (answering_job j c a f done_f (heard_answer number a h)) (for_job_in (heard_answer number a h) j c a g done_g (with_input (Told number a) x))
  for_one j f g done_f done_g reads writes = by (running_in (heard_answer number a h) j) refl a where
    new : HostState
    new = heard_answer number a h

    by : (b : Bool) → running_in (heard_answer number a h) j ≡ b → (z : Answer)
        → Stands (Told number a)
        (elim b as (λ w. HostState) [
          | false ↦ heard_answer number a h
          | true ↦ elim z as (λ w. HostState) [ Read bytes ↦ f bytes (heard_answer number a h) | Written ↦ done_f (heard_answer number a h) | Failed ↦ with_reply j (IoFault c.number) (heard_answer number a h) ]
        ])
        (elim b as (λ w. Step) [
          | false ↦ with_input (Told number a) x
          | true ↦ elim z as (λ w. Step) [ Read bytes ↦ g bytes (with_input (Told number a) x) | Written ↦ done_g (with_input (Told number a) x) | Failed ↦ add_reply j (IoFault c.number) (with_input (Told number a) x) ]
        ])
    by false goes z = after
    by true goes (Read bytes) = reads goes bytes
    by true goes Written = writes goes
    by true goes Failed = said j (IoFault c.number) refl goes

  -- ---- requests

  request_fits : (j : ℕ) (owner : Option ℕ) (r : ResourceArg) (asked force : ℕ) → c.purpose ≡ RequestRead j → running_in (heard_answer number a h) j ≡ true
      → Stands (Told number a) (writing_request m.who j owner r asked force (heard_answer number a h)) (write_request m.who j owner r asked force (with_input (Told number a) x))
  request_fits j owner r asked force is goes =
      let new : HostState = heard_answer number a h in
      let op = WriteRecord (RequestIs (record { force = force; host = (if asked == 0 then 0 else m.who.id); lver = asked })) in
      subst (λ (g : Layout). Stands (Told number a) (writing_request m.who j owner r asked force new) (add_call_of m.who.number r.path (RequestWrite j owner) (request_offset g r.offset) op (with_input (Told number a) x)))
      (layout_is (Told number a) new (with_input (Told number a) x) after)
      (called (Told number a) new (with_input (Told number a) x) m.who r.path (RequestWrite j owner) (request_offset new.config.layout r.offset) op after
      (record {
        place = (place number c a h x k m to not_refused).0;
        member = member_hearing h c a m;
        there = (place number c a h x k m to not_refused).1;
        its = refl;
        fits = record {
          later = refl;
          job = ap (λ b. b || is_leaving_alone new (member_hearing h c a m) j) (idle_job number c a h x k m to not_refused j (ap (λ p. some_is (λ q. q == j) (job_of p)) is ∙ number_itself j) goes);
          turn = refl;
          generation = refl;
          value = refl;
          again = refl;
          lease = refl;
        };
      }))

  requested : (j : ℕ) (bytes : List ℕ) (command : Command) → c.purpose ≡ RequestRead j → running_in (heard_answer number a h) j ≡ true
      → Stands (Told number a) (requesting m.who j bytes command (heard_answer number a h)) (after_request_read m.who j bytes command (with_input (Told number a) x))
  unfolding after_request_read
  requested j bytes (Request r asked force) is goes =
      subst
      (λ (g : Layout). Stands (Told number a) (requesting m.who j bytes (Request r asked force) (heard_answer number a h))
      (elim (request_refusal g m.who.lockspace r asked force bytes) as (λ z. Step) [
        | Some why ↦ add_reply j why (with_input (Told number a) x)
        | None ↦ write_request m.who j (owner_read g bytes) r asked force (with_input (Told number a) x)
      ])) (layout_is (Told number a) (heard_answer number a h) (with_input (Told number a) x) after)
      (by (request_refusal (heard_answer number a h).config.layout m.who.lockspace r asked force bytes) refl) where
        by : (o : Option Reply) → request_refusal (heard_answer number a h).config.layout m.who.lockspace r asked force bytes ≡ o
            → Stands (Told number a)
            (elim o as (λ z. HostState) [
              | Some why ↦ with_reply j why (heard_answer number a h)
              | None ↦ writing_request m.who j (owner_read (heard_answer number a h).config.layout bytes) r asked force (heard_answer number a h)
            ])
            (elim o as (λ z. Step) [
              | Some why ↦ add_reply j why (with_input (Told number a) x)
              | None ↦ write_request m.who j (owner_read (heard_answer number a h).config.layout bytes) r asked force (with_input (Told number a) x)
            ])
        by (Some why) refuses = said j why (refusal_late (heard_answer number a h).config.layout m.who.lockspace r asked force bytes why refuses) goes
        by None refuses = request_fits j (owner_read (heard_answer number a h).config.layout bytes) r asked force is goes
  requested j bytes command is goes = after

  requested_for : (j : ℕ) (bytes : List ℕ) → c.purpose ≡ RequestRead j → running_in (heard_answer number a h) j ≡ true
      → Stands (Told number a) (requesting_for m.who j bytes (heard_answer number a h)) (with_some (command_in (heard_answer number a h) j) (after_request_read m.who j bytes) (with_input (Told number a) x))
  requested_for j bytes is goes = by (command_in (heard_answer number a h) j) where
    by : (o : Option Command)
        → Stands (Told number a) (elim o as (λ z. HostState) [ None ↦ heard_answer number a h | Some q ↦ requesting m.who j bytes q (heard_answer number a h) ])
        (with_some o (after_request_read m.who j bytes) (with_input (Told number a) x))
    by None = after
    by (Some q) = requested j bytes q is goes

  read : (j : ℕ) → c.purpose ≡ RequestRead j → Follows number a h x (answering_job j c a (requesting_for m.who j) (λ g. g) (heard_answer number a h))
  unfolding after_answer_of
  read j is =
      follows (RequestRead j) is (answering_job j c a (requesting_for m.who j) (λ g. g) (heard_answer number a h))
      (subst (λ (y : Step). Stands (Told number a) (answering_job j c a (requesting_for m.who j) (λ g. g) (heard_answer number a h)) y) (sym (decides.request_read j (ap job_of is)))
      (for_one j (requesting_for m.who j) (λ bytes. with_some (command_in (heard_answer number a h) j) (after_request_read m.who j bytes)) (λ g. g) (λ y. y) (λ goes bytes. requested_for j bytes is goes) (λ goes. after)))

  written : (j : ℕ) (owner : Option ℕ) → c.purpose ≡ RequestWrite j owner → Follows number a h x (answering_job j c a (λ bytes g. g) (with_reply j Done) (heard_answer number a h))
  unfolding after_answer_of
  written j owner is =
      follows (RequestWrite j owner) is (answering_job j c a (λ bytes g. g) (with_reply j Done) (heard_answer number a h))
      (subst (λ (y : Step). Stands (Told number a) (answering_job j c a (λ bytes g. g) (with_reply j Done) (heard_answer number a h)) y) (sym (decides.request_write j (ap job_of is)))
      (for_one j (λ bytes g. g) (λ bytes y. y) (with_reply j Done) (add_reply j Done) (λ goes bytes. after) (λ goes. said j Done refl goes)))

  told_of : (bytes : List ℕ) → Stands (Told number a) (seeing_request (member_hearing h c a m) c bytes (heard_answer number a h)) (seen_request_in (heard_answer number a h) (member_hearing h c a m) c bytes (with_input (Told number a) x))
  told_of bytes = by (exclusive_at (heard_answer number a h) (member_hearing h c a m) (spot_in (heard_answer number a h).config.layout c)) where
    by_signal : (g : Grant) (o : Option Signal)
        → Stands (Told number a) (elim o as (λ z. HostState) [ None ↦ heard_answer number a h | Some s ↦ sending g.process s (heard_answer number a h) ]) (with_some o (send g.process) (with_input (Told number a) x))
    by_signal g None = after
    by_signal g (Some s) = signals_are_taken.sent g.process s (heard_answer number a h) (Told number a) (with_input (Told number a) x) after

    by_orphan : (g : Grant) (b : Bool)
        → Stands (Told number a)
        (cond b (elim (signal_of_request (heard_answer number a h).config.layout bytes g) as (λ z. HostState) [ None ↦ heard_answer number a h | Some s ↦ sending g.process s (heard_answer number a h) ]) (heard_answer number a h))
        (when b (with_some (signal_of_request (heard_answer number a h).config.layout bytes g) (send g.process)) (with_input (Told number a) x))
    by_orphan g true = by_signal g (signal_of_request (heard_answer number a h).config.layout bytes g)
    by_orphan g false = after

    by : (o : Option Grant)
        → Stands (Told number a)
        (elim o as (λ z. HostState) [
          | None ↦ heard_answer number a h
          | Some g ↦ cond (not (is_orphan g)) (elim (signal_of_request (heard_answer number a h).config.layout bytes g) as (λ z. HostState) [ None ↦ heard_answer number a h | Some s ↦ sending g.process s (heard_answer number a h) ]) (heard_answer number a h)
        ])
        (with_some o (λ g. when (not (is_orphan g)) (with_some (signal_of_request (heard_answer number a h).config.layout bytes g) (send g.process))) (with_input (Told number a) x))
    by None = after
    by (Some g) = by_orphan g (not (is_orphan g))

  seen_one : c.purpose ≡ SeeRequest → Follows number a h x (on_given a (seeing_request (member_hearing h c a m) c) (heard_answer number a h))
  unfolding after_answer_of
  seen_one is = follows SeeRequest is (on_given a (seeing_request (member_hearing h c a m) c) (heard_answer number a h)) (by (bytes_given a)) where
    by : (o : Option (List ℕ))
        → Stands (Told number a) (elim o as (λ z. HostState) [ None ↦ heard_answer number a h | Some bytes ↦ seeing_request (member_hearing h c a m) c bytes (heard_answer number a h) ])
        (with_some o (after_see_request m.who (theirs number c a h x k m to not_refused).0) (with_input (Told number a) x))
    by None = after
    by (Some bytes) = subst (λ (y : Step). Stands (Told number a) (seeing_request (member_hearing h c a m) c bytes (heard_answer number a h)) y) (sym (decides.see_request bytes)) (told_of bytes)

  -- ---- values

  value_set : (j : ℕ) → c.purpose ≡ ValueWrite j → Follows number a h x (answering_job j c a (λ bytes g. g) (with_reply j (set_reply_in c)) (heard_answer number a h))
  unfolding after_answer_of
  value_set j is =
      follows (ValueWrite j) is (answering_job j c a (λ bytes g. g) (with_reply j (set_reply_in c)) (heard_answer number a h))
      (subst (λ (y : Step). Stands (Told number a) (answering_job j c a (λ bytes g. g) (with_reply j (set_reply_in c)) (heard_answer number a h)) y) (sym (decides.value_write j (ap job_of is)))
      (for_one j (λ bytes g. g) (λ bytes y. y) (with_reply j (set_reply_in c)) (add_reply j (set_reply_in c)) (λ goes bytes. after) (λ goes. said j (set_reply_in c) (set_late c) goes)))

  value_given : (j : ℕ) (bytes : List ℕ) → running_in (heard_answer number a h) j ≡ true
      → Stands (Told number a) (with_reply j (value_reply (heard_answer number a h).config.layout bytes) (heard_answer number a h)) (after_value_read j bytes (with_input (Told number a) x))
  unfolding after_value_read
  value_given j bytes goes =
      subst (λ (g : Layout). Stands (Told number a) (with_reply j (value_reply (heard_answer number a h).config.layout bytes) (heard_answer number a h)) (add_reply j (value_reply g bytes) (with_input (Told number a) x)))
      (layout_is (Told number a) (heard_answer number a h) (with_input (Told number a) x) after)
      (said j (value_reply (heard_answer number a h).config.layout bytes) (value_late (heard_answer number a h).config.layout bytes) goes)

  value_read : (j : ℕ) → c.purpose ≡ ValueRead j → Follows number a h x (answering_job j c a (λ bytes g. with_reply j (value_reply g.config.layout bytes) g) (λ g. g) (heard_answer number a h))
  unfolding after_answer_of
  value_read j is =
      follows (ValueRead j) is (answering_job j c a (λ bytes g. with_reply j (value_reply g.config.layout bytes) g) (λ g. g) (heard_answer number a h))
      (subst (λ (y : Step). Stands (Told number a) (answering_job j c a (λ bytes g. with_reply j (value_reply g.config.layout bytes) g) (λ g. g) (heard_answer number a h)) y) (sym (decides.value_read j (ap job_of is)))
      (for_one j (λ bytes g. with_reply j (value_reply g.config.layout bytes) g) (λ bytes. after_value_read j bytes) (λ g. g) (λ y. y) (λ goes bytes. value_given j bytes goes) (λ goes. after)))

pub requests_follow : RequestsFollow
requests_follow =
    record {
      read = λ number c a h x k m j to not_refused is. read number c a h x k m to not_refused j is;
      written = λ number c a h x k m j owner to not_refused is. written number c a h x k m to not_refused j owner is;
      seen_one = λ number c a h x k m to not_refused is. seen_one number c a h x k m to not_refused is;
      value_set = λ number c a h x k m j to not_refused is. value_set number c a h x k m to not_refused j is;
      value_read = λ number c a h x k m j to not_refused is. value_read number c a h x k m to not_refused j is;
    }
