-- A reader's call, with what the law says of its answer: what it was told is what it sampled, its session held the resource from the call
-- to the answer, and wrote nothing there meanwhile.
use Rattle.sl_area.specs.AreaSizes.{Layout, record_in}
use Rattle.sl_area.specs.AreaLayout.{value_offset}
use Rattle.sl_run_law.proofs.Course.CallsAreDistinct.{each_distinct}
use Rattle.sl_run_law.proofs.Course.CoursesAreCalls.{courses_are_calls}
use Rattle.sl_run_law.specs.Course.CallStamps.{AnswersAgree, IsAnsweredAs, IsCourseOf, courses_of, stamp_in}
use Rattle.sl_run_law.proofs.Landing.CallLists.{one_call}
use Rattle.sl_run.proofs.LawFacts.{orderly-front}
use Rattle.sl_run.specs.Lawful.{Orderly}
use Rattle.sl_run.specs.LawfulValue.{held_since, writes_since}
use Rattle.sl_trace.specs.Leases.{spot_of_call}
use Rattle.sl_run_law.proofs.Place.FoundInLists.{partner_of, place_is}
use Rattle.sl_words.proofs.Lists.{find_inside, kept_inside}
use Rattle.sl_safety.proofs.Resources.Calls.{found_of, owned, owner_found, there_sent}
use Rattle.sl_safety.proofs.Resources.StepsNameEntries.{one_entry}
use Rattle.sl_safety.specs.Resources.SentCalls.{Sent, sender_of}
use Rattle.sl_run.specs.Runs.{Happening}
use Rattle.sl_run.specs.Safety.{Found, LawfulRun, SessionId, is_course_of, setting_in, trace_of, world_at}
use Rattle.sl_run.specs.Values.{IsGivenValue}
use Rattle.sl_run.specs.Worlds.{Course, Daemon, Program, Stamp, World, daemon_numbered, machine_at}
use Rattle.sl_run.specs.declared.header.Header.{Header}
use Rattle.sl_sector.specs.SectorLayouts.{value_in}
use Rattle.sl_sector.specs.declared.sector.ValueRec.{ValueRec}
use Rattle.sl_run_law.proofs.Sessions.CallsAreMade.{answers_stay}
use Rattle.sl_run_law.proofs.Sessions.CallOwners.{sessions_stay}
use Rattle.sl_trace.specs.Sessions.{is_active, is_call_of, session_numbered}
use Rattle.sl_trace.specs.declared.session.Session.{Session}
use Rattle.sl_trace.specs.Traces.{Answered, Setting, Submitted, Trace, call_numbered, is_ok_answer, reply_to, submitted}
use Rattle.sl_trace.specs.declared.effects.Call.{Call}
use Rattle.sl_trace.specs.declared.effects.Entry.{Entry}
use Rattle.sl_trace.specs.declared.effects.Op.TheVariants.{ReadSectors}
use Rattle.sl_trace.specs.declared.effects.Purpose.TheVariants.{ValueRead}
use Rattle.sl_trace.specs.declared.effects.Spot.{Spot}
use Rattle.sl_trace.specs.declared.reply.Reply.TheVariants.{Value}
use Rattle.sl_safety.proofs.Value.WritersHold.{area_of}
use Rattle.sl_safety.proofs.Value.OneValueWrite.{meant_by, spot_there}
use Rattle.sl_safety.proofs.Value.OwnCalls.{OwnCall, own_call}
use Rattle.sl_safety.proofs.Value.ReplyEntries.{AnsweredBy, answered_by, one_answered, replied_by}
use Rattle.sl_words.proofs.CaseLaws.{one_value}
use Rattle.std.proofs.Common.{ap, refl, subst, sym, ◌∙◌}
use Rattle.std.proofs.lemmas.Bool.{and_from, eq-eqb, eqb-true}
use Rattle.std.specs.Prelude.{Contains, IsSomeAnd, List, None, Option, Some, false, length, true, ℕ, ◌++◌, ◌==◌, ◌∷◌, ◌≡◌}

pub record Reader (p : Program) (h : Header) (xs : List Happening) (at : Spot) (i : SessionId) (f : Found) (c : Course) (v : ValueRec) (stamp : Stamp) : Type 0 where
  pub own : OwnCall p h xs i f c
  pub later : Trace
  pub entry : Entry
  pub past : Trace
  pub whole : trace_of f ≡ later ++ entry ∷ past
  pub lawful : Orderly (setting_in f) (entry ∷ past)
  pub its : session_numbered (setting_in f) (entry ∷ past) f.session.number ≡ Some f.session
  pub answered : c.answered ≡ Some stamp
  pub stamped : stamp_in f.daemon.stamps (length past) ≡ Some stamp
  pub done : c.done ≡ true
  pub job : ℕ
  pub purpose : c.call.purpose ≡ ValueRead job
  pub active : is_active (setting_in f) (entry ∷ past) f.session ≡ true
  pub held : held_since own.call.at (entry ∷ past) f.session at ≡ true
  pub calm : writes_since (setting_in f) own.call.at (entry ∷ past) f.session at ≡ false
  pub value : ValueRec
  pub told : value_in (record_in (world_at p h xs).layout c.sampled) ≡ Some value
  pub same : (value.lver ≡ v.lver) × (value.seq ≡ v.seq) × (value.bytes ≡ v.bytes)
  pub read : c.call.op ≡ ReadSectors 1
  pub area : area_of own ≡ at

-- A call that is found by its number, and was answered by this entry.
found_told : (es : Trace) (n at : ℕ) (m : Submitted) → Contains (submitted es) m → m.call.number ≡ n → (o : Option Answered) → m.answer ≡ o → IsSomeAnd o (λ b. b.at ≡ at)
    → AnsweredBy es n at
found_told es n at m there number None was is = absurd is
found_told es n at m there number (Some b) was is =
    subst (λ k. AnsweredBy es k at) number (subst (λ k. AnsweredBy es m.call.number k) is (answered_by es m b there was))

numbered_told : (es : Trace) (n at : ℕ) (o : Option Submitted) → call_numbered es n ≡ o → IsSomeAnd o (λ m. IsSomeAnd m.answer (λ b. b.at ≡ at)) → AnsweredBy es n at
numbered_told es n at None was is = absurd is
numbered_told es n at (Some m) was is =
    let f = find_inside (λ (x : Submitted). x.call.number == n) (submitted es) m was in
    found_told es n at m f.0 (eqb-true m.call.number n f.1) m.answer refl is

pub is_own : (c : Course) (m : ℕ) → is_course_of (sender_of (record { machine = m; course = c })) c ≡ true
is_own c m = and_from (c.daemon == c.daemon) (c.call.session == c.call.session) (eq-eqb c.daemon c.daemon refl) (eq-eqb c.call.session c.call.session refl)

-- The law of a reply, of the call that it is of.
reader_by : (p : Program) (h : Header) (xs : List Happening) (at : Spot) (i : SessionId) (f : Found) (c : Course) (v : ValueRec) → (o : OwnCall p h xs i f c) → (job n : ℕ)
    → c.call.purpose ≡ ValueRead job → reply_to (trace_of f) job ≡ Some (record { at = n; reply = Value v.lver v.seq v.bytes })
    → AnsweredBy (trace_of f) c.call.number n → c.call.path ≡ at.path → c.call.offset ≡ value_offset (world_at p h xs).layout at.base → (stamp : Stamp) × Reader p h xs at i f c v stamp
reader_by p h xs at i f c v o job n purpose reply answered path offset =
    let w : World = world_at p h xs in
    let st : Setting = setting_in f in
    let es : Trace = trace_of f in
    let R = replied_by es job (record { at = n; reply = Value v.lver v.seq v.bytes }) reply in
    let law : Orderly st (R.entry ∷ R.past) = orderly-front st R.later (R.entry ∷ R.past) (subst (λ t. Orderly st t) R.whole o.known.lawful) in
    let lr = law.values.0.replies R.reply v.lver v.seq v.bytes R.given R.says in
    let call : Submitted = lr.call in
    let f1 = kept_inside (is_call_of lr.session) (submitted (R.entry ∷ R.past)) call lr.of_session.0 in
    let a : Answered = lr.told.0.0 in
    let inside : Contains (submitted es) call = subst (λ t. Contains (submitted t) call) (sym R.whole) (answers_stay R.later (R.entry ∷ R.past) call a f1.0 lr.told.0.1) in
    let number : call.call.number ≡ c.call.number =
    one_answered es call.call.number c.call.number (length R.past) (subst (λ k. AnsweredBy es call.call.number k) lr.told.0.2 (answered_by es call a inside lr.told.0.1))
    (subst (λ k. AnsweredBy es c.call.number k) R.place answered) in
    let pair = partner_of (IsCourseOf f.daemon) (courses_of f.machine f.daemon.number) (submitted es) call
    (courses_are_calls p h xs o.run i.machine f.machine f.daemon o.known.there.at o.known.there.has) inside in
    let course = kept_inside (λ (x : Course). x.daemon == f.daemon.number) f.machine.calls pair.0 pair.1 in
    let one : pair.0 ≡ c =
    one_call f.machine.calls pair.0 c (each_distinct p h xs o.run i.machine f.machine o.known.there.at) course.0 o.there
    (eq-eqb pair.0.call.number c.call.number (ap (λ (y : Call). y.number) (sym pair.2.call) ∙ number)) in
    let k : IsCourseOf f.daemon c call = subst (λ (y : Course). IsCourseOf f.daemon y call) one pair.2 in
    let ans : IsAnsweredAs f.daemon c a = subst (λ q. AnswersAgree f.daemon c q) lr.told.0.1 k.answers in
    let place : call.at ≡ o.call.at = one_entry w.step f.daemon.stamps call.at o.call.at c.made c.made o.known.stamps k.made o.is.made refl in
    let same : call.call ≡ o.call.call = k.call ∙ sym o.is.call in
    let session_there : session_numbered st es call.call.session ≡ Some lr.session =
    subst (λ t. session_numbered st t call.call.session ≡ Some lr.session) (sym R.whole) (sessions_stay st R.later (R.entry ∷ R.past) call.call.session lr.session lr.known) in
    let session : lr.session ≡ f.session =
    one_value lr.session f.session (session_numbered st es call.call.session) session_there
    (ap (λ z. session_numbered st es z) (ap (λ (y : Call). y.session) same ∙ o.mine) ∙ o.known.its) in
    let reads = o.lawful.values.0.reads o.made.index o.call.call f.session o.made.call o.its job (ap (λ (y : Call). y.purpose) o.is.call ∙ purpose) in
    let area : area_of o ≡ at = meant_by p h xs i f at c o (sym reads.whole.0 ∙ ap (λ (y : Call). y.offset) o.is.call) path offset in
    let spot : spot_of_call st.layout call ≡ at = ap (λ (y : Call). spot_there st.layout y.path y.offset) same ∙ area in
    let held : held_since o.call.at (R.entry ∷ R.past) f.session at ≡ true =
    subst (λ (s : Session). held_since o.call.at (R.entry ∷ R.past) s at ≡ true) session
    (subst (λ z. held_since o.call.at (R.entry ∷ R.past) lr.session z ≡ true) spot
    (subst (λ z. held_since z (R.entry ∷ R.past) lr.session (spot_of_call st.layout call) ≡ true) place lr.held)) in
    let calm : writes_since st o.call.at (R.entry ∷ R.past) f.session at ≡ false =
    subst (λ (s : Session). writes_since st o.call.at (R.entry ∷ R.past) s at ≡ false) session
    (subst (λ z. writes_since st o.call.at (R.entry ∷ R.past) lr.session z ≡ false) spot
    (subst (λ z. writes_since st z (R.entry ∷ R.past) lr.session (spot_of_call st.layout call) ≡ false) place lr.calm)) in (
      ans.stamp,
      record {
        own = o;
        later = R.later;
        entry = R.entry;
        past = R.past;
        whole = R.whole;
        lawful = law;
        its = ap (λ z. session_numbered st (R.entry ∷ R.past) z) (sym (ap (λ (y : Call). y.session) same ∙ o.mine)) ∙ lr.known ∙ ap (λ s. Some s) session;
        answered = ans.answered;
        stamped = ap (λ z. stamp_in f.daemon.stamps z) (sym lr.told.0.2) ∙ ans.entry;
        done = ans.done ∙ ap (λ z. is_ok_answer z) lr.told.0.3;
        job = job;
        purpose = purpose;
        active = ap (λ (s : Session). is_active st (R.entry ∷ R.past) s) (sym session) ∙ lr.active;
        held = held;
        calm = calm;
        value = lr.value;
        told = ap (λ (g : Layout). value_in (record_in g c.sampled)) (sym o.known.of_world.layout)
            ∙ ap (λ z. value_in (record_in st.layout z)) (sym (ans.gives lr.sector lr.told.0.3)) ∙ lr.told.1;
        same = (lr.told.2, lr.told.3, lr.told.4);
        read = ap (λ (y : Call). y.op) (sym o.is.call) ∙ reads.whole.1;
        area = area;
      },
    )

-- Who is given a value is such a reader.
pub record GivenTo (p : Program) (h : Header) (xs : List Happening) (at : Spot) (c : Course) (step : ℕ) (v : ValueRec) : Type 0 where
  pub session : SessionId
  pub found : Found
  pub stamp : Stamp
  pub reader : Reader p h xs at session found c v stamp
  pub when : stamp.step ≡ step

when_by : (o : Option Stamp) (s : Stamp) (step : ℕ) → o ≡ Some s → IsSomeAnd o (λ a. a.step ≡ step) → s.step ≡ step
when_by o s step is h = subst (λ q. IsSomeAnd q (λ a. a.step ≡ step)) is h

pub given_to : (p : Program) (h : Header) (xs : List Happening) → LawfulRun p h xs → (at : Spot) (c : Course) (step : ℕ) (v : ValueRec) → IsGivenValue (world_at p h xs) at c step v
    → GivenTo p h xs at c step v
given_to p h xs run at c step v g =
    let w : World = world_at p h xs in
    let q = g.daemon in
    let x : Sent = record { machine = q.0; course = c } in
    let k = owned p h xs run x (there_sent w q.0 q.1 c q.5 q.6) in
    let f : Found = found_of k in
    let machine : q.1 ≡ f.machine = one_value q.1 f.machine (machine_at w q.0) q.5 k.there.at in
    let daemon : q.2 ≡ f.daemon = one_value q.2 f.daemon (daemon_numbered f.machine c.daemon) (ap (λ y. daemon_numbered y c.daemon) (sym machine) ∙ q.7) k.trace.numbered in
    let o = own_call p h xs run (sender_of x) f (owner_found w x k) c k.there.has (is_own c q.0) in
    let place = place_is c.call.path c.call.offset at.path (value_offset w.layout at.base) g.place in
    let told : IsSomeAnd (call_numbered (trace_of f) c.call.number) (λ m. IsSomeAnd m.answer (λ b. b.at ≡ q.4)) =
    subst (λ (d : Daemon). IsSomeAnd (call_numbered d.trace c.call.number) (λ m. IsSomeAnd m.answer (λ b. b.at ≡ q.4))) daemon q.10 in
    let r = reader_by p h xs at (sender_of x) f c v o q.3 q.4 q.8 (ap (λ (d : Daemon). reply_to d.trace q.3) (sym daemon) ∙ q.9)
    (numbered_told (trace_of f) c.call.number q.4 (call_numbered (trace_of f) c.call.number) refl told) place.0 place.1 in
    record { session = sender_of x; found = f; stamp = r.0; reader = r.1; when = when_by c.answered r.0 step r.1.answered g.answered }
