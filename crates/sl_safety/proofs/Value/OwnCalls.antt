-- A call of a session beside its trace: which call it is there, and the front at which it was made.
use Rattle.sl_run_law.specs.Course.CallStamps.{AnswersAgree, IsCourseOf}
use Rattle.sl_id_safety.proofs.State.TraceBridge.{IsKnown, known}
use Rattle.sl_id_safety.proofs.State.SessionFacts.{grounds}
use Rattle.sl_id_safety.specs.State.IdStates.{own_courses}
use Rattle.sl_run.specs.Lawful.{Orderly}
use Rattle.sl_run_law.proofs.Place.FoundInLists.{partner}
use Rattle.sl_run_law.proofs.Place.TracesOnMachines.{call_law}
use Rattle.sl_words.proofs.Lists.{kept, kept_inside}
use Rattle.sl_run.specs.Runs.{Happening}
use Rattle.sl_run.specs.Safety.{Found, IsSession, LawfulRun, SessionId, is_course_of, setting_in, trace_of, world_at}
use Rattle.sl_run.specs.Worlds.{Course, Program}
use Rattle.sl_run.specs.declared.header.Header.{Header}
use Rattle.sl_run_law.proofs.Sessions.CallsAreMade.{calls_are_made}
use Rattle.sl_run_law.specs.Sessions.SessionLaws.{IsMade}
use Rattle.sl_trace.specs.Sessions.{calls_of, is_call_of, session_numbered}
use Rattle.sl_trace.specs.Traces.{Answered, Submitted, submitted}
use Rattle.sl_words.proofs.CaseLaws.{no_value, none_some}
use Rattle.std.proofs.lemmas.Bool.{eqb-true}
use Rattle.std.specs.Prelude.{Contains, List, None, Option, Some, true, ◌∷◌, ◌≡◌}

pub record OwnCall (p : Program) (h : Header) (xs : List Happening) (i : SessionId) (f : Found) (c : Course) : Type 0 where
  pub run : LawfulRun p h xs
  pub is_session : IsSession (world_at p h xs) i f
  pub known : IsKnown (world_at p h xs) i f
  pub there : Contains f.machine.calls c
  pub own : is_course_of i c ≡ true
  pub call : Submitted
  pub of : Contains (calls_of (trace_of f) f.session) call
  pub inside : Contains (submitted (trace_of f)) call
  pub mine : call.call.session ≡ f.session.number
  pub is : IsCourseOf f.daemon c call
  pub made : IsMade (trace_of f) call
  pub lawful : Orderly (setting_in f) (made.entry ∷ made.past)
  pub its : session_numbered (setting_in f) (made.entry ∷ made.past) call.call.session ≡ Some f.session

pub own_call : (p : Program) (h : Header) (xs : List Happening) → LawfulRun p h xs → (i : SessionId) (f : Found) → IsSession (world_at p h xs) i f → (c : Course)
    → Contains f.machine.calls c → is_course_of i c ≡ true → OwnCall p h xs i f c
own_call p h xs run i f its c there own =
    let kn = known grounds p h xs run i f its in
    let m = partner (IsCourseOf f.daemon) (own_courses i f.machine) (calls_of (trace_of f) f.session) c kn.pairs (kept (is_course_of i) f.machine.calls c own there) in
    let g = kept_inside (is_call_of f.session) (submitted (trace_of f)) m.0 m.1 in
    let mine = eqb-true m.0.call.session f.session.number g.1 in
    let d = calls_are_made (trace_of f) m.0 g.0 in
    let law = call_law (setting_in f) (trace_of f) f.session m.0 d kn.lawful kn.its mine in
    record {
      run = run;
      is_session = its;
      known = kn;
      there = there;
      own = own;
      call = m.0;
      of = m.1;
      inside = g.0;
      mine = mine;
      is = m.2;
      made = d;
      lawful = law.0;
      its = law.1;
    }

-- One that has no answer in the world has none in the trace.
pub unanswered : (p : Program) (h : Header) (xs : List Happening) (i : SessionId) (f : Found) (c : Course) → (o : OwnCall p h xs i f c) → c.answered ≡ None
    → (a : Answered) → o.call.answer ≡ Some a → ⊥
unanswered p h xs i f c o waits a = by o.call.answer o.is.answers where
  by : (q : Option Answered) → AnswersAgree f.daemon c q → q ≡ Some a → ⊥
  by None agrees is = none_some a is
  by (Some b) agrees is = no_value agrees.stamp c.answered agrees.answered waits
