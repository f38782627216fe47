-- The call at which an acquire is, in its daemon's trace.
use Rattle.sl_trace.specs.Leases.{is_lease_call, is_on, spot_of}
use Rattle.sl_words.proofs.Lists.{contains_first, contains_map, kept_inside}
use Rattle.sl_words.proofs.Numbers.{number_itself}
use Rattle.sl_headline.proofs.Quiet.Leases.CallsStay.{left_alone, lease_is_work}
use Rattle.sl_headline.specs.Quiet.Leases.CallsStay.{IsOfOthers}
use Rattle.sl_headline.specs.Quiet.Events.CarriedStages.{Asked, DaemonOnCourse, IsCallAt, Stage}
use Rattle.sl_run.specs.LawfulArea.{is_area_work}
use Rattle.sl_trace.specs.Sessions.{calls_of, is_call_of}
use Rattle.sl_trace.specs.Traces.{Setting, Submitted, Trace, answered_in, is_of_job, job_of, mark, submitted}
use Rattle.sl_trace.specs.declared.effects.Entry.{Entry}
use Rattle.sl_trace.specs.declared.input.Input.TheVariants.{Answer as Told, Exit, Line, Number, Spawned, Wake}
use Rattle.sl_trace.specs.declared.input.Input.{Input}
use Rattle.sl_run_law.proofs.Sessions.CallsAreMade.{old_stays}
use Rattle.sl_words.proofs.WordLaws.{and_true}
use Rattle.sl_words.specs.Words.{some_is}
use Rattle.std.proofs.Common.{ap, refl, subst, sym, ◌∙◌}
use Rattle.std.proofs.lemmas.Bool.{eqb-true}
use Rattle.std.specs.Prelude.{Contains, length, ◌&&◌, ◌++◌, ◌==◌, ◌∷◌, ◌≡◌, true}

pub record CallThere (st : Setting) (es : Trace) (q : Asked) (m : Submitted) : Type 0 where
  pub there : Contains (submitted es) m
  pub session : m.call.session ≡ q.session.number
  pub lease : is_lease_call m ≡ true
  pub on : is_on st.layout (spot_of q.resource) m.call ≡ true
  pub works : is_area_work m.call.purpose ≡ true

pub call_there : (st : Setting) (es : Trace) (q : Asked) (stage : Stage) (c : DaemonOnCourse st es q stage) → CallThere st es q c.call
call_there st es q stage c =
    let one = kept_inside (λ (x : Submitted). is_lease_call x && is_on st.layout (spot_of q.resource) x.call) (calls_of es q.session) c.call
    (subst (λ ms. Contains ms c.call) (sym c.lease) (contains_first c.call (c.older ++ q.before))) in
    let two = kept_inside (is_call_of q.session) (submitted es) c.call one.0 in
    let both = and_true (is_lease_call c.call) (is_on st.layout (spot_of q.resource) (c.call).call) one.1 in
    record {
      there = two.0;
      session = eqb-true (c.call).call.session q.session.number two.1;
      lease = both.0;
      on = both.1;
      works = lease_is_work (c.call).call.purpose both.0;
    }

-- Each call of the course is the job's.
pub of_the_job : (q : Asked) (stage : Stage) (m : Submitted) → IsCallAt q stage m → is_of_job q.job m ≡ true
of_the_job q stage m is = ap (λ p. some_is (λ j. j == q.job) (job_of p)) is.purpose ∙ number_itself q.job

-- A call that the entry doesn't answer is there as it was.
pub still_there : (past : Trace) (e : Entry) (d : Submitted) → Contains (submitted past) d → IsOfOthers e d.call.number → Contains (submitted (e ∷ past)) d
still_there past e d has others = old_stays (length past) e.reading e.effects.calls (mark past e e.input (submitted past)) d (in_mark e.input refl) where
  in_mark : (i : Input) → e.input ≡ i → Contains (mark past e i (submitted past)) d
  in_mark (Told n a) is =
      subst (λ z. Contains (mark past e (Told n a) (submitted past)) z) (left_alone past e n a d (λ same none. others n a is (sym same))) (contains_map (answered_in past e n a) (submitted past) d has)
  in_mark (Line text) is = has
  in_mark (Number text) is = has
  in_mark (Exit p) is = has
  in_mark (Spawned p ok) is = has
  in_mark Wake is = has
