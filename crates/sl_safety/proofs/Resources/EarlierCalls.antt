-- A call of a session on an area before another of the same session.
use Rattle.sl_trace.specs.Leases.{is_lease_call, is_on, spot_of_call}
use Rattle.sl_trace.specs.Traces.{Answered, Setting, Submitted, is_answered_ok, is_ok_answer, new_call}
use Rattle.std.proofs.Common.{ap, refl, sym, ◌∙◌}
use Rattle.std.specs.Prelude.{Contains, List, Some, true, ◌&&◌, ◌≡◌, ◌≤◌}
use Rattle.sl_safety.proofs.Resources.Calls.{IsWork}
use Rattle.sl_safety.proofs.Resources.LastBlock.{of_lease}
use Rattle.sl_safety.proofs.Resources.OwnBlocks.{is_behind, layout_at, number_at, session_as, works}
use Rattle.sl_safety.proofs.Resources.CallParts.{Standing, sent_there}
use Rattle.sl_safety.specs.Resources.HistoryLaws.{spot_of_line}
use Rattle.sl_safety.specs.Resources.SentCalls.{Sent, all_sent, reads_blocks, sender_of, step_of}
use Rattle.sl_run.specs.Runs.{Happening}
use Rattle.sl_run.specs.Safety.{LawfulRun, world_at}
use Rattle.sl_run.specs.Worlds.{Course, Daemon, Program, World}
use Rattle.sl_run.specs.declared.header.Header.{Header}
use Rattle.sl_run.specs.declared.header.ResourceLine.{ResourceLine}
use Rattle.sl_run_law.specs.Course.CallStamps.{IsAnsweredAs, IsCourseOf}
use Rattle.std.proofs.lemmas.Bool.{and_from, eq-eqb, eqb-true}
use Rattle.sl_words.proofs.WordLaws.{and_true, some_is_true}
use Rattle.sl_safety.proofs.Resources.BlockOrigins.{IsAmong, answer_step, answered_before}
use Rattle.sl_safety.proofs.Resources.Looks.{read_is_lease}
use Rattle.sl_trace.specs.Sessions.{is_call_of}
use Rattle.sl_safety.proofs.Resources.GivenBlocks.{heard_as}
use Rattle.sl_area.specs.AreaSizes.{Layout}
use Rattle.sl_trace.specs.declared.effects.Call.{Call}
use Rattle.sl_trace.specs.declared.effects.Spot.{Spot}

pub record IsEarlier (w : World) (r : ResourceLine) (x z : Sent) : Type 0 where
  pub has : Contains (all_sent w) z
  pub sender : sender_of z ≡ sender_of x
  pub on : is_on w.layout (spot_of_line r) z.course.call ≡ true

abbrev pub sent_with : Sent → Course → Sent
sent_with x c = record { machine = x.machine; course = c }

pub is_earlier : (p : Program) (h : Header) (xs : List Happening) → LawfulRun p h xs → (r : ResourceLine) (x : Sent) (s : Standing (world_at p h xs) x) (c : Course) → Contains s.before c
    → of_lease s.daemon.setting s.session (spot_of_line r) c.call ≡ true → IsEarlier (world_at p h xs) r x (sent_with x c)
is_earlier p h xs run r x s c there passes =
    let w : World = world_at p h xs in
    let i = is_behind w x s c there in
    let one = and_true (is_call_of s.session (new_call 0 0 c.call)) (is_lease_call (new_call 0 0 c.call) && is_on s.daemon.setting.layout (spot_of_line r) c.call) passes in
    let two = and_true (is_lease_call (new_call 0 0 c.call)) (is_on s.daemon.setting.layout (spot_of_line r) c.call) one.1 in
    record {
      has = sent_there w x.machine s.machine c s.at i.0;
      sender = session_as x.machine c.daemon c.call.session x.machine x.course.daemon x.course.call.session refl i.1 (eqb-true c.call.session s.session.number one.0 ∙ number_at w x s);
      on = ap (λ (g : Layout). is_on g (spot_of_line r) c.call) (sym (layout_at p h xs run x s)) ∙ two.1;
    }

-- When it was answered, where it shows a turn.
pub record WasShown (x : Sent) (c : Course) (d : Daemon) (m : Submitted) : Type 0 where
  pub answer : Answered
  pub is : m.answer ≡ Some answer
  pub told : IsAnsweredAs d c answer
  pub done : c.done ≡ true
  pub early : told.stamp.step ≤ step_of x

-- A work of the lease that was answered ok, was so by then.
pub was_answered : (p : Program) (h : Header) (xs : List Happening) → LawfulRun p h xs → (r : ResourceLine) (x : Sent) → IsWork (world_at p h xs) r x → (s : Standing (world_at p h xs) x)
    → spot_of_call s.daemon.setting.layout s.told.one ≡ spot_of_line r → (c : Course) (m : Submitted) → Contains s.told.older m → IsCourseOf s.daemon c m
    → of_lease s.daemon.setting s.session (spot_of_line r) c.call ≡ true → works m.call ≡ true → is_answered_ok m ≡ true → WasShown x c s.daemon m
was_answered p h xs run r x work s spot c m inside pair passes other ok =
    let st : Setting = s.daemon.setting in
    let a = some_is_true (λ (y : Answered). is_ok_answer y.answer) m.answer ok in
    let told : IsAnsweredAs s.daemon c a.0 = heard_as s.daemon c m.answer a.0 pair.answers a.1 in
    let test = ap (λ (y : Call). of_lease st s.session (spot_of_line r) y) pair.call ∙ passes in
    let one = and_true (is_call_of s.session (new_call 0 0 m.call)) (is_lease_call (new_call 0 0 m.call) && is_on st.layout (spot_of_line r) m.call) test in
    let two = and_true (is_lease_call (new_call 0 0 m.call)) (is_on st.layout (spot_of_line r) m.call) one.1 in
    let among : IsAmong st s.session (spot_of_call st.layout s.told.one) s.told.older m =
    record {
      has = inside;
      session = eqb-true m.call.session s.session.number one.0;
      lease = two.0;
      on = ap (λ (at : Spot). is_on st.layout at m.call) spot ∙ two.1;
    } in
    record {
      answer = a.0;
      is = a.1;
      told = told;
      done = told.done ∙ a.2;
      early = answer_step p h xs run x s m (answered_before p h xs run x s work.work work.area m among other) a.0 a.1 told.stamp told.entry;
    }

-- A read of the session on the area passes the lease's test.
pub read_passes : (p : Program) (h : Header) (xs : List Happening) → LawfulRun p h xs → (at : Spot) (x : Sent) (s : Standing (world_at p h xs) x) (z : Sent)
    → is_on (world_at p h xs).layout at z.course.call ≡ true → reads_blocks z.course ≡ true → sender_of z ≡ sender_of x → of_lease s.daemon.setting s.session at z.course.call ≡ true
read_passes p h xs run at x s z on reads same =
    let w : World = world_at p h xs in
    and_from _ _ (eq-eqb z.course.call.session s.session.number (ap (λ i. i.number) same ∙ sym (number_at w x s)))
    (and_from _ _ (read_is_lease (new_call 0 0 z.course.call) reads) (ap (λ (g : Layout). is_on g at z.course.call) (layout_at p h xs run x s) ∙ on))
