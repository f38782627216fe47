-- What is known of connections is kept by the effects of an act that moves no connection and replies to no joining: its calls are of joined
-- sessions.
use Rattle.sl_due_facts.specs.Acts.Acts.{Has}
use Rattle.sl_due.specs.Steps.{Step, add_call_of, add_reply, seen}
use Rattle.sl_due_facts.proofs.Jobs.CallsStay.{IsLate, calls_stay}
use Rattle.sl_due_facts.proofs.Jobs.EffectsAreAllowed.{Allows}
use Rattle.sl_due_facts.proofs.Jobs.NearlyPlainActs.{AnyStart}
use Rattle.sl_due_facts.proofs.Jobs.SessionsArePresent.{joined_present, present_inside}
use Rattle.sl_due_facts.proofs.Jobs.SessionsStand.{joined_then, running_before}
use Rattle.sl_run.specs.LawfulConnections.{is_covered}
use Rattle.sl_due_facts.proofs.AddedEffects.JoinedCallsKeepOrder.{joined_is_covered}
use Rattle.sl_words.proofs.Lists.{got_inside}
use Rattle.sl_words.proofs.Options.{some_there}
use Rattle.sl_due_facts.proofs.Connections.ConnectionEffects.{IsOtherJob, alters_call, alters_nothing, reply_connections}
use Rattle.sl_due_facts.proofs.Connections.ConnectionsChange.{IsAlone, altered_still}
use Rattle.sl_due_facts.specs.Connections.ConnectionLaws.{HasConnectionFacts}
use Rattle.sl_due_facts.proofs.Sessions.NameEffects.{reply_joins_more, reply_present}
use Rattle.sl_due_facts.proofs.Sessions.NamesAreAllowed.{is_joining, joined_unrefused}
use Rattle.sl_trace.specs.Sessions.{is_join_call, is_joined, is_present, joined_after, removed_after, sessions}
use Rattle.sl_trace.specs.declared.session.Session.{Session}
use Rattle.sl_due_facts.specs.Facts.HeardCall.{heard_by}
use Rattle.sl_due_facts.specs.Facts.SessionFacts.{ConnectionFacts, NameFacts}
use Rattle.sl_trace.specs.Traces.{Submitted, is_before_input, is_running, job_of, jobs, submitted}
use Rattle.sl_trace.specs.declared.effects.JoinStep.TheVariants.{FirstRead}
use Rattle.sl_trace.specs.declared.effects.JoinStep.{JoinStep}
use Rattle.sl_trace.specs.declared.effects.Move.{Move}
use Rattle.sl_trace.specs.declared.effects.Op.{Op}
use Rattle.sl_trace.specs.declared.effects.Purpose.TheVariants.{Joining, Lease, Leaving, Renewal, RequestRead, RequestWrite, SeeRequest, Survey, ValueRead, ValueWrite}
use Rattle.sl_trace.specs.declared.effects.Purpose.{Purpose}
use Rattle.sl_trace.specs.declared.reply.Reply.{Reply}
use Rattle.sl_words.proofs.CaseLaws.{true_is_false}
use Rattle.sl_words.proofs.WordLaws.{and_true}
use Rattle.std.proofs.Common.{ap, ap₂, inl, inr, refl, subst, sym, ◌∙◌}
use Rattle.std.specs.Prelude.{Contains, List, None, Option, Some, false, is_none, is_some, slice_get, true, ℕ, ◌&&◌, ◌==◌, ◌≡◌, ◌⊎◌}

-- What stays from an act's beginning to its last call.
pub record During (x y : Step) : Type 0 where
  pub part : HasConnectionFacts y
  pub setting : y.setting ≡ x.setting
  pub before : y.past ≡ x.past
  pub input : y.input ≡ x.input
  pub all : sessions y.setting (seen y) ≡ sessions x.setting (seen x)
  pub jobs : jobs y.setting (seen y) ≡ jobs x.setting (seen x)
  pub running : (n : ℕ) → is_running (seen y) n ≡ true → is_running (seen x) n ≡ true
  pub less : (z : Session) → is_present (seen y) z ≡ true → is_present (seen x) z ≡ true
  pub joined : (z : Session) → is_joined (seen x) z ≡ true → is_joined (seen y) z ≡ true

pub during_itself : (x : Step) → HasConnectionFacts x → During x x
during_itself x h = record { part = h; setting = refl; before = refl; input = refl; all = refl; jobs = refl; running = λ n is. is; less = λ z is. is; joined = λ z is. is }

abbrev pub PlainReply : Step → ℕ → Reply → Type 0
PlainReply x j r = IsLate x r × IsOtherJob x j

abbrev pub PlainCall : Step → Session → List ℕ → Purpose → ℕ → Op → Type 0
PlainCall x s path p o op = Has x s × (is_joined (seen x) s ≡ true) × (is_joining p ≡ false)

-- It is no step of a joining.
pub no_step : (p : Purpose) (step : JoinStep) → is_joining p ≡ false → is_join_call step p ≡ false
no_step (Joining j at) step is = absurd (true_is_false is)
no_step Renewal step is = refl
no_step Survey step is = refl
no_step (Leaving j) step is = refl
no_step (Lease work at) step is = refl
no_step (RequestRead j) step is = refl
no_step (RequestWrite j owner) step is = refl
no_step SeeRequest step is = refl
no_step (ValueWrite j) step is = refl
no_step (ValueRead j) step is = refl

abbrev pub NoMove : Move → Type 0
NoMove m = ⊥

late_during : (x y : Step) (r : Reply) → During x y → IsLate x r → IsLate y r
late_during x y r h may n a is = by (may n a (sym h.input ∙ is)) where
  by : (is_before_input r ≡ false) ⊎ ((m : Submitted) → Contains (submitted x.past) m → (m.call.number == n) ≡ true → job_of m.call.purpose ≡ None)
      → (is_before_input r ≡ false) ⊎ ((m : Submitted) → Contains (submitted y.past) m → (m.call.number == n) ≡ true → job_of m.call.purpose ≡ None)
  by (inl after) = inl after
  by (inr none) = inr (λ m there its. none m (subst (λ es. Contains (submitted es) m) h.before there) its)

-- A call of a joined session that alone has its name.
pub joined_call : (heard : Option ℕ) (y : Step) (s : Session) (path : List ℕ) (p : Purpose) (o : ℕ) (op : Op) → Has y s → is_joined (seen y) s ≡ true → is_join_call FirstRead p ≡ false → IsAlone y.setting (seen y) s
    → ConnectionFacts y.setting (seen y) heard → ConnectionFacts y.setting (seen (add_call_of s.number path p o op y)) heard
joined_call heard y s path p o op has joined no_look alone h =
    altered_still y.setting (seen y) (seen (add_call_of s.number path p o op y)) heard s (got_inside (sessions y.setting (seen y)) s.number s has)
    (alters_call (seen y) heard s y path p o op has no_look (joined_unrefused (seen y) s (joined_then (seen y) s joined)) (alters_nothing y.setting (seen y) heard s)) alone refl refl
    (covered ∙ sym (joined_is_covered (seen y) s joined)) (inl covered) (λ is. is) h
  where
    covered : is_covered (seen (add_call_of s.number path p o op y)) s ≡ true
    covered = joined_is_covered (seen (add_call_of s.number path p o op y)) s joined

alone_during : (x y : Step) (s : Session) → During x y → IsAlone x.setting (seen x) s → IsAlone y.setting (seen y) s
alone_during x y s h alone z there is same = alone z (subst (λ ss. Contains ss z) h.all there) (h.less z is) same

pub alone_of : (x : Step) (s : Session) → NameFacts x.setting (seen x) (heard_by x.input) → Contains (sessions x.setting (seen x)) s → is_present (seen x) s ≡ true → IsAlone x.setting (seen x) s
alone_of x s h mine present z there is same = h.apart z s (present_inside x.setting (seen x) z there is) (present_inside x.setting (seen x) s mine present) same

reply_is_joined_more : (y : Step) (j : ℕ) (r : Reply) (z : Session) → is_joined (seen y) z ≡ true → is_joined (seen (add_reply j r y)) z ≡ true
reply_is_joined_more y j r z is =
    let both = and_true (is_some (joined_after (seen y) z)) (is_none (removed_after (seen y) z)) is in
    let was = some_there (joined_after (seen y) z) both.0 in
    ap₂ (λ a b. a && b) (ap (λ o. is_some o) (reply_joins_more y j r z was.0 was.1)) both.1

pub connections_allow : (x : Step) → NameFacts x.setting (seen x) (heard_by x.input) → Allows (During x) HasConnectionFacts (PlainReply x) (PlainCall x) AnyStart NoMove
connections_allow x names =
    record {
      ends = λ y e h. record { part = record { covers = h.part.covers; needed = h.part.needed; joined = h.part.joined; joining = h.part.joining; writers = h.part.writers }; setting = h.setting; before = h.before; input = h.input; all = h.all; jobs = h.jobs; running = h.running; less = h.less; joined = h.joined };
      signals = λ y q signal h. record { part = record { covers = h.part.covers; needed = h.part.needed; joined = h.part.joined; joining = h.part.joining; writers = h.part.writers }; setting = h.setting; before = h.before; input = h.input; all = h.all; jobs = h.jobs; running = h.running; less = h.less; joined = h.joined };
      moves = λ y m may h. absurd may;
      grants = λ y g h. record { part = record { covers = h.part.covers; needed = h.part.needed; joined = h.part.joined; joining = h.part.joining; writers = h.part.writers }; setting = h.setting; before = h.before; input = h.input; all = h.all; jobs = h.jobs; running = h.running; less = h.less; joined = h.joined };
      starts = λ y k may h. record { part = record { covers = h.part.covers; needed = h.part.needed; joined = h.part.joined; joining = h.part.joining; writers = h.part.writers }; setting = h.setting; before = h.before; input = h.input; all = h.all; jobs = h.jobs; running = h.running; less = h.less; joined = h.joined };
      replies = λ y j r may h. record {
        part = reply_connections (heard_by y.input) y j r (late_during x y r h may.0) (λ z there. may.1 z (subst (λ ss. Contains ss z) h.all there)) h.part;
        setting = h.setting;
        before = h.before;
        input = h.input;
        all = h.all;
        jobs = h.jobs;
        running = λ n is. h.running n (running_before y j r n is);
        less = λ z is. h.less z (reply_present y j r z (calls_stay y j r (late_during x y r h may.0)) is);
        joined = λ z is. reply_is_joined_more y j r z (h.joined z is);
      };
      calls = λ y s path p o op may h.
          let has : Has y s = subst (λ ss. slice_get ss s.number ≡ Some s) (sym h.all) may.0 in
          let mine : Contains (sessions x.setting (seen x)) s = got_inside (sessions x.setting (seen x)) s.number s may.0 in
          joined_call (heard_by y.input) y s path p o op has (h.joined s may.1) (no_step p FirstRead may.2) (alone_during x y s h (alone_of x s names mine (joined_present (seen x) s may.1))) h.part;
      rest = λ y h. h.part;
    }
