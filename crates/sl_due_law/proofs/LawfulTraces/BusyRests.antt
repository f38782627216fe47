-- Each act leaves every running job waiting: those that are left alone by what the act does, and the act's own.
use Rattle.sl_due_facts.specs.Acts.Acts.{Has, Hears}
use Rattle.sl_due_facts.specs.Acts.TraceSoFar.{entry_of}
use Rattle.sl_area.specs.AreaLayout.{request_offset}
use Rattle.sl_due.specs.DueRequests.{after_request_read, owner_read, request_refusal, write_request}
use Rattle.sl_due.specs.Steps.{Step, add_call_of, add_reply, seen}
use Rattle.sl_due_law.proofs.LawfulTraces.BusyActs.{Busy, BusyHeard, all_of}
use Rattle.sl_due_law.proofs.LawfulTraces.WaitsStay.{AllButWait, waits_effects}
use Rattle.sl_due_law.specs.LawfulTraces.Busy.{AllWait, For_call, For_child, For_leaving, For_session, Waits, told_by}
use Rattle.sl_due_facts.proofs.Jobs.NearlyPlainActs.{Nearly}
use Rattle.sl_due_facts.proofs.Jobs.SessionsStand.{reply_stops}
use Rattle.sl_words.proofs.Lists.{contains_first, got_inside}
use Rattle.sl_sector.specs.declared.sector.Rec.TheVariants.{RequestIs}
use Rattle.sl_trace.specs.Sessions.{is_join_call, sessions}
use Rattle.sl_trace.specs.declared.session.Session.{Session}
use Rattle.sl_due_facts.specs.Facts.HeardCall.{heard_by}
use Rattle.sl_due_facts.specs.Facts.AllFacts.{Whole}
use Rattle.sl_trace.proofs.TraceFacts.{submitted-push}
use Rattle.sl_trace.specs.Traces.{Job, Submitted, call_numbered, is_running, job_of, new_call, next_call, submitted}
use Rattle.sl_trace.specs.declared.command.Command.TheVariants.{Request}
use Rattle.sl_trace.specs.declared.command.ResourceArg.{ResourceArg}
use Rattle.sl_trace.specs.declared.effects.Call.{Call}
use Rattle.sl_trace.specs.declared.effects.JoinStep.TheVariants.{FirstRead}
use Rattle.sl_trace.specs.declared.effects.Op.{Op}
use Rattle.sl_trace.specs.declared.effects.Op.TheVariants.{WriteRecord}
use Rattle.sl_trace.specs.declared.effects.Purpose.{Purpose}
use Rattle.sl_trace.specs.declared.effects.Purpose.TheVariants.{RequestWrite}
use Rattle.sl_trace.specs.declared.input.Answer.{Answer}
use Rattle.sl_trace.specs.declared.input.Input.{Input}
use Rattle.sl_trace.specs.declared.input.Input.TheVariants.{Answer as Told}
use Rattle.sl_trace.specs.declared.reply.Reply.{Reply}
use Rattle.sl_words.proofs.CaseLaws.{none_some, not_both, one_value, some_value}
use Rattle.std.proofs.Common.{ap, inl, inr, refl, subst, sym, ◌∙◌}
use Rattle.std.specs.Prelude.{Contains, List, None, Option, Some, false, if◌then◌else◌, length, true, ℕ, ◌==◌, ◌≡◌}

-- ---- the walk, with the input

abbrev pub Walks : Input → Option ℕ → Step → Type 0
Walks i new z = (z.input ≡ i) × AllButWait (told_by i) new z

pub walk : (i : Input) (new : Option ℕ) → Nearly (Walks i new)
walk i new =
    let p : Nearly (AllButWait (told_by i) new) = waits_effects (told_by i) new in
    record {
      ends = λ y e h. (h.0, p.ends y e h.1);
      signals = λ y q signal h. (h.0, p.signals y q signal h.1);
      moves = λ y m may h. (h.0, p.moves y m may h.1);
      grants = λ y g h. (h.0, p.grants y g h.1);
      starts = λ y k may h. (h.0, p.starts y k may h.1);
      replies = λ y j r may h. (h.0, p.replies y j r may h.1);
      calls = λ y s path q o op no_look h. (h.0, p.calls y s path q o op no_look h.1);
      rest = λ y h. h;
    }

-- The act's own job besides.
pub walked : (y : Step) (i : Input) (new : Option ℕ) → Walks i new y → ((j : ℕ) → new ≡ Some j → is_running (seen y) j ≡ true → Waits y.setting (seen y) None (told_by i) j) → Busy y
walked y i new h one = subst (λ k. AllWait y.setting (seen y) None (told_by k)) (sym h.0) (all_of y (told_by i) new h.1 one)

none_new : {P : Type 0} (j : ℕ) → None ≡ Some j → P
none_new j is = absurd (none_some j is)

-- From a step where all wait.
pub from_busy : (x : Step) → Busy x → Walks x.input None x
from_busy x h = (refl, λ j there runs other. h j there runs)

pub alone : (y : Step) (i : Input) → Walks i None y → Busy y
alone y i h = walked y i None h (λ j is runs. none_new j is)

-- ---- an answer that was heard

pub heard_alone : (x : Step) (s : Session) (m : Submitted) (answer : Answer) (o : Option ℕ) → Whole x → (hears : Hears x s m answer) → job_of m.call.purpose ≡ o → BusyHeard x → Walks (Told hears.number answer) o x
heard_alone x s m answer o h hears of busy = (hears.heard, λ j there runs other. by j (busy j there runs) other) where
  the_call : (d : Submitted) → Contains (submitted (seen x)) d → heard_by x.input ≡ Some d.call.number → d ≡ m
  the_call d there heard =
      let number : d.call.number ≡ hears.number = some_value d.call.number hears.number (sym heard ∙ ap (λ i. heard_by i) hears.heard) in
      one_value d m (call_numbered (seen x) hears.number) (subst (λ n. call_numbered (seen x) n ≡ Some d) number (h.facts.calls.found d there)) hears.call

  untold_one : told_by x.input ≡ None
  untold_one = ap (λ i. told_by i) hears.heard

  by : (j : Job) → Waits x.setting (seen x) (heard_by x.input) (told_by x.input) j.number → (Some j.number ≡ o → ⊥) → Waits x.setting (seen x) None None j.number
  by j (For_session z there its) other = For_session z there its
  by j (For_call d there (inl opens) its) other = For_call d there (inl opens) its
  by j (For_call d there (inr heard) its) other = absurd (other (sym its ∙ (ap (λ (c : Submitted). job_of c.call.purpose) (the_call d there heard) ∙ of)))
  by j (For_child k there its (inl opens)) other = For_child k there its (inl opens)
  by j (For_child k there its (inr told)) other = absurd (none_some k.process (sym untold_one ∙ told))
  by j (For_leaving z k there is number) other = For_leaving z k there is number

-- The same where the call isn't found, so that none is its job's.
pub unfound_alone : (x : Step) (n : ℕ) (answer : Answer) → Whole x → x.input ≡ Told n answer → call_numbered (seen x) n ≡ None → BusyHeard x → Busy x
unfound_alone x n answer h told none busy = λ j there runs. by j (busy j there runs) where
  by : (j : Job) → Waits x.setting (seen x) (heard_by x.input) (told_by x.input) j.number → Waits x.setting (seen x) None (told_by x.input) j.number
  by j (For_session z there its) = For_session z there its
  by j (For_call d there (inl opens) its) = For_call d there (inl opens) its
  by j (For_call d there (inr heard) its) =
      let number : d.call.number ≡ n = some_value d.call.number n (sym heard ∙ ap (λ i. heard_by i) told) in
      absurd (none_some d (sym none ∙ subst (λ k. call_numbered (seen x) k ≡ Some d) number (h.facts.calls.found d there)))
  by j (For_child k there its opens) = For_child k there its opens
  by j (For_leaving z k there is number) = For_leaving z k there is number

-- One whose session isn't present.
pub late_alone : (x : Step) (n : ℕ) (answer : Answer) (m : Submitted) → Whole x → x.input ≡ Told n answer → call_numbered (seen x) n ≡ Some m → BusyHeard x
    → ((j : ℕ) → job_of m.call.purpose ≡ Some j → is_running (seen x) j ≡ true → Waits x.setting (seen x) None None j) → Busy x
late_alone x n answer m h told found busy own = walked x (Told n answer) (job_of m.call.purpose) (told, λ j there runs other. by j (busy j there runs) other) own where
  untold_one : told_by x.input ≡ None
  untold_one = ap (λ i. told_by i) told

  by : (j : Job) → Waits x.setting (seen x) (heard_by x.input) (told_by x.input) j.number → (Some j.number ≡ job_of m.call.purpose → ⊥) → Waits x.setting (seen x) None None j.number
  by j (For_session z there its) other = For_session z there its
  by j (For_call d there (inl opens) its) other = For_call d there (inl opens) its
  by j (For_call d there (inr heard) its) other =
      let number : d.call.number ≡ n = some_value d.call.number n (sym heard ∙ ap (λ i. heard_by i) told) in
      let one : d ≡ m = one_value d m (call_numbered (seen x) n) (subst (λ k. call_numbered (seen x) k ≡ Some d) number (h.facts.calls.found d there)) found in
      absurd (other (sym its ∙ ap (λ (c : Submitted). job_of c.call.purpose) one))
  by j (For_child k there its (inl opens)) other = For_child k there its (inl opens)
  by j (For_child k there its (inr told_one)) other = absurd (none_some k.process (sym untold_one ∙ told_one))
  by j (For_leaving z k there is number) other = For_leaving z k there is number

-- ---- the jobs of answers

-- A job that is answered.
pub replied_busy : (x : Step) (i : Input) (j : ℕ) (r : Reply) → Walks i (Some j) x → Busy (add_reply j r x)
replied_busy x i j r h =
    walked (add_reply j r x) i (Some j) ((walk i (Some j)).replies x j r tt h)
    (λ n is runs. absurd (not_both (is_running (seen (add_reply j r x)) n) runs (subst (λ k. is_running (seen (add_reply j r x)) k ≡ false) (some_value j n is) (reply_stops x j r))))

-- A call that a job makes.
called_busy : (x : Step) (i : Input) (j : ℕ) (s : Session) (path : List ℕ) (p : Purpose) (o : ℕ) (op : Op) → is_join_call FirstRead p ≡ false → job_of p ≡ Some j → Walks i (Some j) x → Busy (add_call_of s.number path p o op x)
called_busy x i j s path p o op no_look of h =
    let c : Call = record { number = next_call x.setting (seen x); session = s.number; purpose = p; path = path; offset = o; op = op } in
    walked (add_call_of s.number path p o op x) i (Some j) ((walk i (Some j)).calls x s path p o op no_look h)
    (λ n is runs. For_call (new_call (length x.past) x.reading c)
    (subst (λ ms. Contains ms (new_call (length x.past) x.reading c)) (sym (submitted-push x.past (entry_of x) c)) (contains_first (new_call (length x.past) x.reading c) (submitted (seen x)))) (inl refl) (of ∙ is))

-- A joining waits for its session.
pub joined_busy : (x y : Step) (i : Input) (s : Session) (j : ℕ) → Walks i (Some j) y → Has y s → s.job ≡ Some j → Busy y
joined_busy x y i s j h has its = walked y i (Some j) h (λ n is runs. For_session s (got_inside (sessions y.setting (seen y)) s.number s has) (its ∙ is))

-- A request.
pub asked_busy : (x : Step) (i : Input) (s : Session) (j : ℕ) (bytes : List ℕ) (r : ResourceArg) (asked force : ℕ) → Walks i (Some j) x → Busy (after_request_read s j bytes (Request r asked force) x)
unfolding after_request_read
asked_busy x i s j bytes r asked force h = by (request_refusal x.setting.layout s.lockspace r asked force bytes) where
  by : (o : Option Reply) → Busy (elim o as (λ z. Step) [ Some why ↦ add_reply j why x | None ↦ write_request s j (owner_read x.setting.layout bytes) r asked force x ])
  by (Some why) = replied_busy x i j why h
  by None =
      called_busy x i j s r.path (RequestWrite j (owner_read x.setting.layout bytes)) (request_offset x.setting.layout r.offset)
      (WriteRecord (RequestIs (record { force = force; host = (if asked == 0 then 0 else s.id); lver = asked }))) refl refl h
