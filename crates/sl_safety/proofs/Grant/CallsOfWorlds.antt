-- A call at a front of a session's trace is one of the world's, with its stamps.
use Rattle.sl_area.specs.AreaSizes.{Layout}
use Rattle.sl_run_law.proofs.Course.CoursesAreCalls.{courses_are_calls}
use Rattle.sl_run_law.specs.Course.CallStamps.{AnswersAgree, IsAnsweredAs, IsCourseOf, courses_of, stamp_in}
use Rattle.sl_safety.proofs.Grant.CallsOfFronts.{Grown, calls_grow, calls_were}
use Rattle.sl_run.specs.Lawful.{Orderly}
use Rattle.sl_trace.specs.Leases.{block_of_record, block_written, is_lease_call, is_on, lease_calls}
use Rattle.sl_run_law.proofs.Moment.MachinesInOrder.{entries_ordered, fall_front, fall_step}
use Rattle.sl_run_law.proofs.Place.Daemons.{daemons_are_fine, stamp_order}
use Rattle.sl_run_law.proofs.Place.FoundInLists.{partner_of}
use Rattle.sl_run_law.proofs.Place.PlaceLaws.{promised}
use Rattle.sl_run_law.proofs.Place.TracesOnMachines.{lawful_daemon, session_inside}
use Rattle.sl_words.proofs.Lists.{kept, kept_inside}
use Rattle.sl_words.proofs.Numbers.{never_below}
use Rattle.sl_safety.proofs.Resources.Calls.{there_sent}
use Rattle.sl_safety.proofs.Resources.StepsNameCalls.{numbers_meant}
use Rattle.sl_safety.proofs.Resources.OwnBlocks.{session_as}
use Rattle.sl_safety.specs.Resources.SentCalls.{Sent, all_sent, block_of_course, sender_of, writes_block}
use Rattle.sl_run.specs.Runs.{Happening}
use Rattle.sl_run.specs.Safety.{Found, IsSession, LawfulRun, SessionId, setting_in, trace_of, world_at}
use Rattle.sl_run.specs.Worlds.{Course, Program, Stamp, World, daemons_on, machine_at}
use Rattle.sl_run.specs.declared.header.Header.{Header}
use Rattle.sl_sector.specs.declared.sector.Block.{Block}
use Rattle.sl_trace.specs.Sessions.{calls_of, is_call_of, session_numbered}
use Rattle.sl_trace.specs.declared.session.Session.{Session}
use Rattle.sl_trace.specs.Traces.{Answered, Setting, Submitted, Trace, new_call, record_of, submitted}
use Rattle.sl_trace.specs.declared.effects.Call.{Call}
use Rattle.sl_trace.specs.declared.effects.Spot.{Spot}
use Rattle.sl_run_law.proofs.Watchdog.Stamps.{stamp_there}
use Rattle.sl_words.proofs.WordLaws.{and_true}
use Rattle.std.proofs.Common.{ap, inl, inr, refl, subst, sym, ◌∙◌}
use Rattle.std.proofs.lemmas.Bool.{and_from, cases_lt, eq-eqb, eqb-true}
use Rattle.std.specs.Prelude.{Contains, List, Option, Some, is_some, length, option_and_then, true, [], ℕ, ◌&&◌, ◌++◌, ◌<◌, ◌==◌, ◌∷◌, ◌≡◌, ◌≤◌}

-- A session of a lawful run, at a front of its trace.
pub record IsFront (p : Program) (h : Header) (xs : List Happening) (i : SessionId) (f : Found) (front : Trace) : Type 0 where
  pub run : LawfulRun p h xs
  pub its : IsSession (world_at p h xs) i f
  pub later : Trace
  pub whole : trace_of f ≡ later ++ front

-- What the whole trace of a session is.
pub record IsWhole (p : Program) (h : Header) (xs : List Happening) (i : SessionId) (f : Found) : Type 0 where
  pub at : machine_at (world_at p h xs) i.machine ≡ Some f.machine
  pub has : Contains (daemons_on f.machine) f.daemon
  pub lawful : Orderly (setting_in f) (trace_of f)
  pub layout : (setting_in f).layout ≡ (world_at p h xs).layout
  pub daemon : f.daemon.number ≡ i.daemon
  pub number : f.session.number ≡ i.number
  pub known : session_numbered (setting_in f) (trace_of f) f.session.number ≡ Some f.session

pub whole_of : (p : Program) (h : Header) (xs : List Happening) → LawfulRun p h xs → (i : SessionId) (f : Found) → IsSession (world_at p h xs) i f → IsWhole p h xs i f
whole_of p h xs run i f its =
    let w : World = world_at p h xs in
    let k = session_inside w i f its in
    let n = numbers_meant w i f its in
    record {
      at = k.at;
      has = k.has;
      lawful = lawful_daemon p h xs run i.machine f.machine f.daemon k.at k.has;
      layout = (promised.of_world p h xs run i.machine f.machine f.daemon k.at k.has).layout;
      daemon = n.0;
      number = n.1;
      known = ap (λ m. session_numbered (setting_in f) (trace_of f) m) n.1 ∙ k.its;
    }

-- ---- a call

-- A call of the front, sent in the world.
pub record IsTold (p : Program) (h : Header) (xs : List Happening) (i : SessionId) (f : Found) (c : Submitted) : Type 0 where
  pub sent : Sent
  pub has : Contains (all_sent (world_at p h xs)) sent
  pub sender : sender_of sent ≡ i
  pub now : Submitted
  pub inside : Contains (submitted (trace_of f)) now
  pub is : IsCourseOf f.daemon sent.course now
  pub call : now.call ≡ c.call
  pub at : now.at ≡ c.at
  pub told : (a : Answered) → c.answer ≡ Some a → now.answer ≡ Some a
  pub there : Contains f.machine.calls sent.course

pub told : (p : Program) (h : Header) (xs : List Happening) (i : SessionId) (f : Found) (front : Trace) → IsFront p h xs i f front → (c : Submitted)
    → Contains (submitted front) c → c.call.session ≡ f.session.number → IsTold p h xs i f c
told p h xs i f front k c has mine =
    let w : World = world_at p h xs in
    let run = k.run in
    let all = whole_of p h xs run i f k.its in
    let g : Grown (submitted (trace_of f)) c = subst (λ t. Grown (submitted t) c) (sym k.whole) (calls_grow k.later front c has) in
    let own = partner_of (IsCourseOf f.daemon) (courses_of f.machine f.daemon.number) (submitted (trace_of f)) g.now
    (courses_are_calls p h xs run i.machine f.machine f.daemon all.at all.has) g.inside in
    let of_daemon = kept_inside (λ (x : Course). x.daemon == f.daemon.number) f.machine.calls own.0 own.1 in
    record {
      sent = record { machine = i.machine; course = own.0 };
      has = there_sent w i.machine f.machine own.0 all.at of_daemon.0;
      sender = session_as i.machine own.0.daemon own.0.call.session i.machine i.daemon i.number refl
          (eqb-true own.0.daemon f.daemon.number of_daemon.1 ∙ all.daemon)
          (ap (λ (x : Call). x.session) (sym own.2.call ∙ g.call) ∙ mine ∙ all.number);
      now = g.now;
      inside = g.inside;
      is = own.2;
      call = g.call;
      at = g.at;
      told = g.told;
      there = of_daemon.0;
    }

-- ---- its stamps

-- When it was made.
pub told_made : (p : Program) (h : Header) (xs : List Happening) (i : SessionId) (f : Found) (c : Submitted) → (t : IsTold p h xs i f c)
    → stamp_in f.daemon.stamps c.at ≡ Some t.sent.course.made
told_made p h xs i f c t = ap (λ n. stamp_in f.daemon.stamps n) (sym t.at) ∙ t.is.made

-- When it was answered.
pub told_answer : (p : Program) (h : Header) (xs : List Happening) (i : SessionId) (f : Found) (c : Submitted) → (t : IsTold p h xs i f c) → (a : Answered) → c.answer ≡ Some a
    → IsAnsweredAs f.daemon t.sent.course a
told_answer p h xs i f c t a is = subst (λ o. AnswersAgree f.daemon t.sent.course o) (t.told a is) t.is.answers

-- Entries in order are steps in order.
pub in_order : (p : Program) (h : Header) (xs : List Happening) → LawfulRun p h xs → (i : SessionId) (f : Found) → IsSession (world_at p h xs) i f → (m n : ℕ) (s t : Stamp)
    → stamp_in f.daemon.stamps m ≡ Some s → stamp_in f.daemon.stamps n ≡ Some t → m ≤ n → s.step ≤ t.step
in_order p h xs run i f its m n s t one two le =
    let all = whole_of p h xs run i f its in
    stamp_order (world_at p h xs).step f.daemon.stamps m n s t (daemons_are_fine p h xs run i.machine f.machine f.daemon all.at all.has).stamps one two le

pub by_cases : (m n : ℕ) (P : Type 0) → (m ≤ n → P) → (n < m → P) → P
by_cases m n P yes_so otherwise = elim (cases_lt n m) as (λ z. P) [ inl less ↦ otherwise less | inr most ↦ yes_so most ]

-- Steps in order are entries in order.
pub before_in : (p : Program) (h : Header) (xs : List Happening) → LawfulRun p h xs → (i : SessionId) (f : Found) → IsSession (world_at p h xs) i f → (m n : ℕ) (s t : Stamp)
    → stamp_in f.daemon.stamps m ≡ Some s → stamp_in f.daemon.stamps n ≡ Some t → s.step < t.step → m < n
before_in p h xs run i f its m n s t one two less =
    by_cases n m (m < n) (λ le. absurd (never_below t.step s.step (in_order p h xs run i f its n m t s two one le) less)) (λ it. it)

-- Entries come before the world's step.
pub entry_past : (p : Program) (h : Header) (xs : List Happening) → LawfulRun p h xs → (i : SessionId) (f : Found) → IsSession (world_at p h xs) i f → (n : ℕ) (t : Stamp)
    → stamp_in f.daemon.stamps n ≡ Some t → t.step < (world_at p h xs).step
entry_past p h xs run i f its n t is =
    let all = whole_of p h xs run i f its in
    fall_step (world_at p h xs).step f.daemon.stamps t
    (fall_front (world_at p h xs).step f.daemon.stamps (f.daemon.begun ∷ []) (entries_ordered p h xs run i.machine f.machine f.daemon all.at all.has))
    (stamp_there f.daemon.stamps n t is)

-- ---- of a lease

-- A call of the lease.
pub record OfLease (st : Setting) (front : Trace) (s : Session) (at : Spot) (c : Submitted) : Type 0 where
  pub inside : Contains (submitted front) c
  pub mine : c.call.session ≡ s.number
  pub lease : is_lease_call c ≡ true
  pub on : is_on st.layout at c.call ≡ true

pub of_lease : (st : Setting) (front : Trace) (s : Session) (at : Spot) (c : Submitted) → Contains (lease_calls st front s at) c → OfLease st front s at c
of_lease st front s at c has =
    let f = kept_inside (λ (m : Submitted). is_lease_call m && is_on st.layout at m.call) (calls_of front s) c has in
    let g = kept_inside (is_call_of s) (submitted front) c f.0 in
    let both = and_true (is_lease_call c) (is_on st.layout at c.call) f.1 in
    record { inside = g.0; mine = eqb-true c.call.session s.number g.1; lease = both.0; on = both.1 }

pub in_lease : (st : Setting) (front : Trace) (s : Session) (at : Spot) (c : Submitted) → OfLease st front s at c → Contains (lease_calls st front s at) c
in_lease st front s at c o =
    kept (λ (m : Submitted). is_lease_call m && is_on st.layout at m.call) (calls_of front s) c (and_from _ _ o.lease o.on)
    (kept (is_call_of s) (submitted front) c (eq-eqb c.call.session s.number o.mine) o.inside)

-- It is on the area in the world too.
pub told_on : (p : Program) (h : Header) (xs : List Happening) (i : SessionId) (f : Found) (front : Trace) → IsFront p h xs i f front → (c : Submitted) → (t : IsTold p h xs i f c)
    → (at : Spot) → is_on (setting_in f).layout at c.call ≡ true → is_on (world_at p h xs).layout at t.sent.course.call ≡ true
told_on p h xs i f front k c t at on =
    ap (λ (x : Call). is_on (world_at p h xs).layout at x) (sym t.is.call ∙ t.call)
    ∙ ap (λ (g : Layout). is_on g at c.call) (sym (whole_of p h xs k.run i f k.its).layout) ∙ on

abbrev block_by : Call → Option Block
block_by c = option_and_then block_of_record (record_of c.op)

-- A block that it writes.
pub told_wrote : (p : Program) (h : Header) (xs : List Happening) (i : SessionId) (f : Found) (c : Submitted) → (t : IsTold p h xs i f c) → (b : Block) → block_written c ≡ Some b
    → block_of_course t.sent.course ≡ Some b
told_wrote p h xs i f c t b wrote = ap (λ (x : Call). block_by x) (sym t.is.call ∙ t.call) ∙ wrote

pub told_block : (p : Program) (h : Header) (xs : List Happening) (i : SessionId) (f : Found) (c : Submitted) → (t : IsTold p h xs i f c) → (b : Block) → block_written c ≡ Some b
    → writes_block t.sent.course ≡ true
told_block p h xs i f c t b wrote = ap (λ o. is_some o) (told_wrote p h xs i f c t b wrote)

-- ---- back to a front

-- A call of the lease that an entry of the front made is one of the lease there.
pub record LeaseWas (st : Setting) (front : Trace) (s : Session) (at : Spot) (c : Submitted) : Type 0 where
  pub was : Submitted
  pub lease : OfLease st front s at was
  pub call : was.call ≡ c.call
  pub place : was.at ≡ c.at

pub lease_was : (st : Setting) (later front : Trace) (s : Session) (at : Spot) (c : Submitted) → OfLease st (later ++ front) s at c → c.at < length front → LeaseWas st front s at c
lease_was st later front s at c o early =
    let w = calls_were later front c o.inside early in
    record {
      was = w.was;
      lease = record {
        inside = w.inside;
        mine = ap (λ (x : Call). x.session) w.call ∙ o.mine;
        lease = ap (λ (x : Call). is_lease_call (new_call 0 0 x)) w.call ∙ o.lease;
        on = ap (λ (x : Call). is_on st.layout at x) w.call ∙ o.on;
      };
      call = w.call;
      place = w.at;
    }
