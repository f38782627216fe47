-- What single effects leave of the facts of a job's work.
use Rattle.sl_due_facts.proofs.Acts.SessionsStay.{numbered_more}
use Rattle.sl_due_facts.specs.Acts.TraceSoFar.{entry_of}
use Rattle.sl_due.specs.Steps.{Step, add_call_of, add_end, add_move, add_reply, add_signal, add_start, seen}
use Rattle.sl_due_leases.proofs.Holdings.HoldingsByCalls.{call_added, not_last}
use Rattle.sl_due_leases.proofs.Holdings.HoldingsByEffects.{SameCalls, end_inside, next_less, reply_stays}
use Rattle.sl_run.specs.LawfulModes.{shared_since}
use Rattle.sl_trace.specs.Jobs.{aim_of_command, command_numbered, process_named}
use Rattle.sl_trace.specs.Leases.{spot_of_call}
use Rattle.sl_trace.specs.declared.lease.Aim.TheVariants.{Acquires, Converts, Releases, Settles}
use Rattle.sl_trace.specs.declared.lease.Aim.{Aim}
use Rattle.sl_due_facts.specs.AddedEffects.OneMoreEffect.{with_reply}
use Rattle.sl_words.proofs.Lists.{contains_cases}
use Rattle.sl_words.proofs.Numbers.{less_is_most, lt_then_le, refl_le}
use Rattle.sl_words.proofs.Options.{none_is, some_of}
use Rattle.sl_trace.specs.Sessions.{session_numbered}
use Rattle.sl_trace.specs.declared.session.Session.{Session}
use Rattle.sl_due_facts.specs.Facts.HeardCall.{heard_by}
use Rattle.sl_due_facts.specs.Facts.WorkFacts.{IsAtWork, IsWaiting, MayBeHeld, WorkFacts}
use Rattle.sl_trace.proofs.TraceFacts.{submitted-push}
use Rattle.sl_trace.specs.TraceLaws.{with_call}
use Rattle.sl_trace.specs.Traces.{Replied, Setting, Submitted, Trace, holdings, is_running, next_child, new_call, reply_to, same_place, submitted}
use Rattle.sl_trace.specs.declared.command.Command.{Command}
use Rattle.sl_trace.specs.declared.effects.Call.{Call}
use Rattle.sl_trace.specs.declared.effects.End.{End}
use Rattle.sl_trace.specs.declared.effects.Entry.{Entry}
use Rattle.sl_trace.specs.declared.effects.Grant.{Grant}
use Rattle.sl_trace.specs.declared.effects.JobReply.{JobReply}
use Rattle.sl_trace.specs.declared.effects.LeaseStep.TheVariants.{SetMode}
use Rattle.sl_trace.specs.declared.effects.LeaseStep.{LeaseStep}
use Rattle.sl_trace.specs.declared.effects.Mode.TheVariants.{Shared}
use Rattle.sl_trace.specs.declared.effects.Mode.{Mode}
use Rattle.sl_trace.specs.declared.effects.Move.{Move}
use Rattle.sl_trace.specs.declared.effects.Op.{Op}
use Rattle.sl_trace.specs.declared.effects.Purpose.TheVariants.{Lease}
use Rattle.sl_trace.specs.declared.effects.Purpose.{Purpose}
use Rattle.sl_trace.specs.declared.effects.Signal.{Signal}
use Rattle.sl_trace.specs.declared.effects.Spot.{Spot}
use Rattle.sl_trace.specs.declared.effects.Start.{Start}
use Rattle.sl_trace.specs.declared.effects.Work.TheVariants.{ForJob}
use Rattle.sl_trace.specs.declared.reply.Reply.{Reply}
use Rattle.sl_words.proofs.CaseLaws.{no_value, one_value}
use Rattle.std.proofs.Common.{ap, inl, inr, refl, subst, sym, ◌∙◌}
use Rattle.std.specs.Prelude.{Contains, IsSome, IsTrue, List, None, Option, Some, false, is_none, length, true, ℕ, ◌<◌, ◌∷◌, ◌≡◌, ◌≤◌, ◌⊎◌}

-- ---- works go on

-- The call of a work, as it stood before.
pub record WasAtWork (st : Setting) (t : Trace) (heard : Option ℕ) (m : Submitted) (j : ℕ) (step : LeaseStep) (c : Command) : Type 0 where
  pub before : Submitted
  pub same : before.call ≡ m.call
  pub work : IsAtWork st t heard before j step c

-- Of a later trace: each work was one, no more is held, and what was made is as it was.
pub record WorksOn (st : Setting) (t u : Trace) (heard now : Option ℕ) : Type 0 where
  pub back : (m : Submitted) (j : ℕ) (step : LeaseStep) (c : Command) → IsAtWork st u now m j step c → WasAtWork st t heard m j step c
  pub held : (g : Grant) → Contains (holdings u) g → Contains (holdings t) g
  pub further : next_child t ≤ next_child u
  pub sessions : (n : ℕ) (s : Session) → (m : Submitted) → Contains (submitted t) m → m.call.session ≡ n → session_numbered st u n ≡ Some s → session_numbered st t n ≡ Some s
  pub made : (d : Submitted) → Contains (submitted u) d → (b : Submitted) × Contains (submitted t) b × (b.call ≡ d.call) × (b.at ≡ d.at)
  pub unshared : (since : ℕ) (s : Session) (at : Spot) → shared_since since t s at ≡ false → shared_since since u s at ≡ false

same_held : (st : Setting) (m n : Submitted) (c : Command) (aim : Aim) (h : Grant) → m.call ≡ n.call → MayBeHeld m c aim h → MayBeHeld n c aim h
same_held st m n c (Acquires mode) h same k = (k.0, k.1, λ is. k.2 (is ∙ ap (λ (z : Call). z.session) (sym same)), k.3)
same_held st m n c (Converts mode) h same k = k
same_held st m n c Releases h same k = λ is. k (is ∙ ap (λ (z : Call). z.session) (sym same))
same_held st m n c Settles h same k = tt

spot_same : (st : Setting) (m n : Submitted) → m.call ≡ n.call → spot_of_call st.layout m ≡ spot_of_call st.layout n
spot_same st m n same = ap (λ c. spot_of_call st.layout (record { at = 0; reading = 0; call = c; answer = None })) same

pub works_on : (st : Setting) (t u : Trace) (heard now : Option ℕ) → WorksOn st t u heard now → WorkFacts st t heard → WorkFacts st u now
works_on st t u heard now w h =
    record {
      beside = λ m j step c aim g k aimed there same.
          let b = w.back m j step c k in
          same_held st b.before m c aim g b.same
          (h.beside b.before j step c aim g b.work aimed (w.held g there) (subst (λ (z : Spot). IsTrue (same_place g.path g.offset z.path z.base)) (sym (spot_same st b.before m b.same)) same));
      modes = λ m j step c k aimed. (let b = w.back m j step c k in h.modes b.before j step c b.work aimed);
      acts = λ m j step c p k named. (let b = w.back m j step c k in lt_then_le p (next_child t) (next_child u) (h.acts b.before j step c p b.work named) w.further);
      unshared = λ m d j step earlier c mode s k aimed its there purpose.
          let b = w.back m j step c k in
          let e = w.made d there in
          let old : session_numbered st t b.before.call.session ≡ Some s =
          w.sessions b.before.call.session s b.before b.work.there refl (ap (λ (z : Call). session_numbered st u z.session) b.same ∙ its) in
          subst (λ z. shared_since d.at u s z ≡ false) (spot_same st b.before m b.same)
          (w.unshared d.at s (spot_of_call st.layout b.before)
          (subst (λ n. shared_since n t s (spot_of_call st.layout b.before) ≡ false) e.3
          (h.unshared b.before e.0 j step earlier c mode s b.work aimed old e.1 (ap (λ (z : Call). z.purpose) e.2 ∙ purpose))));
    }

-- ---- effects

abbrev pub WorksAt : Step → Type 0
WorksAt x = WorkFacts x.setting (seen x) (heard_by x.input)

itself : (x : Step) (d : Submitted) → Contains (submitted (seen x)) d → (b : Submitted) × Contains (submitted (seen x)) b × (b.call ≡ d.call) × (b.at ≡ d.at)
itself x d there = (d, there, refl, refl)

pub signal_works : (x : Step) (p : ℕ) (signal : Signal) → WorksAt x → WorksAt (add_signal p signal x)
signal_works x p signal h =
    works_on x.setting (seen x) (seen (add_signal p signal x)) (heard_by x.input) (heard_by x.input) (record {
      back = λ m j step c k. record { before = m; same = refl; work = record { there = k.there; opens = k.opens; purpose = k.purpose; runs = k.runs; command = k.command } };
      held = λ g there. there;
      further = refl_le (next_child (seen x));
      sessions = λ n s m there is its. its;
      made = λ d there. itself x d there;
      unshared = λ since s at none. none;
    }) h

pub start_works : (x : Step) (start : Start) → WorksAt x → WorksAt (add_start start x)
start_works x start h =
    works_on x.setting (seen x) (seen (add_start start x)) (heard_by x.input) (heard_by x.input) (record {
      back = λ m j step c k. record { before = m; same = refl; work = record { there = k.there; opens = k.opens; purpose = k.purpose; runs = k.runs; command = k.command } };
      held = λ g there. there;
      further = less_is_most (next_child (seen x)) (next_child (seen (add_start start x))) (next_less x.past (entry_of x) start);
      sessions = λ n s m there is its. its;
      made = λ d there. itself x d there;
      unshared = λ since s at none. none;
    }) h

pub move_works : (x : Step) (m : Move) → WorksAt x → WorksAt (add_move m x)
move_works x move h =
    works_on x.setting (seen x) (seen (add_move move x)) (heard_by x.input) (heard_by x.input) (record {
      back = λ m j step c k. record { before = m; same = refl; work = record { there = k.there; opens = k.opens; purpose = k.purpose; runs = k.runs; command = k.command } };
      held = λ g there. there;
      further = refl_le (next_child (seen x));
      sessions = λ n s m there is its. its;
      made = λ d there. itself x d there;
      unshared = λ since s at none. none;
    }) h

pub end_works : (x : Step) (e : End) → WorksAt x → WorksAt (add_end e x)
end_works x e h =
    works_on x.setting (seen x) (seen (add_end e x)) (heard_by x.input) (heard_by x.input) (record {
      back = λ m j step c k. record { before = m; same = refl; work = record { there = k.there; opens = k.opens; purpose = k.purpose; runs = k.runs; command = k.command } };
      held = λ g there. end_inside x.past (entry_of x) e g there;
      further = refl_le (next_child (seen x));
      sessions = λ n s m there is its. its;
      made = λ d there. itself x d there;
      unshared = λ since s at none. none;
    }) h

-- What runs after a reply ran before it.
pub ran_before : (past : Trace) (e : Entry) (a : JobReply) (j : ℕ) → is_running (with_reply a e ∷ past) j ≡ true → is_running (e ∷ past) j ≡ true
ran_before past e a j runs = by (reply_to (e ∷ past) j) refl where
  by : (o : Option Replied) → reply_to (e ∷ past) j ≡ o → is_running (e ∷ past) j ≡ true
  by None is = ap (λ o. is_none o) is
  by (Some r) is = absurd (no_value r (reply_to (with_reply a e ∷ past) j) (reply_stays past e a j r is) (none_is (reply_to (with_reply a e ∷ past) j) runs))

pub reply_works : (x : Step) (j : ℕ) (r : Reply) → SameCalls x.past (entry_of x) (record { job = j; reply = r }) → WorksAt x → WorksAt (add_reply j r x)
reply_works x job r same h =
    let a : JobReply = record { job = job; reply = r } in
    works_on x.setting (seen x) (seen (add_reply job r x)) (heard_by x.input) (heard_by x.input) (record {
      back = λ m j step c k. record {
        before = m;
        same = refl;
        work = record { there = subst (λ ms. Contains ms m) same k.there; opens = k.opens; purpose = k.purpose; runs = ran_before x.past (entry_of x) a j k.runs; command = k.command };
      };
      held = λ g there. there;
      further = refl_le (next_child (seen x));
      sessions = λ n s m there is its. its;
      made = λ d there. itself x d (subst (λ ms. Contains ms d) same there);
      unshared = λ since s at none. none;
    }) h

-- ---- calls

-- One more call: of the works before, each goes on; and where it is a job's lease call itself, what is asked of it.
pub record IsNewWork (x : Step) (c : Call) : Type 0 where
  pub beside : (j : ℕ) (step : LeaseStep) (d : Command) (aim : Aim) (h : Grant) → c.purpose ≡ Lease (ForJob j) step → is_running (seen x) j ≡ true → command_numbered x.setting (seen x) j ≡ Some d → aim_of_command d ≡ Some aim
      → Contains (holdings (seen x)) h → same_place h.path h.offset (spot_of_call x.setting.layout (new_call (length x.past) x.reading c)).path (spot_of_call x.setting.layout (new_call (length x.past) x.reading c)).base ≡ true
      → MayBeHeld (new_call (length x.past) x.reading c) d aim h
  pub modes : (j : ℕ) (step : LeaseStep) (d : Command) → c.purpose ≡ Lease (ForJob j) step → is_running (seen x) j ≡ true → command_numbered x.setting (seen x) j ≡ Some d → aim_of_command d ≡ Some (Converts Shared) → step ≡ SetMode
  pub acts : (j : ℕ) (step : LeaseStep) (d : Command) (p : ℕ) → c.purpose ≡ Lease (ForJob j) step → is_running (seen x) j ≡ true → command_numbered x.setting (seen x) j ≡ Some d → process_named d ≡ Some p → p < next_child (seen x)
  -- before it and since, where the job had calls before
  pub unshared : (j : ℕ) (step : LeaseStep) (d : Command) (mode : Mode) (s : Session) → c.purpose ≡ Lease (ForJob j) step → is_running (seen x) j ≡ true → command_numbered x.setting (seen x) j ≡ Some d → aim_of_command d ≡ Some (Acquires mode)
      → session_numbered x.setting (seen x) c.session ≡ Some s
      → (shared_since (length x.past) (seen x) s (spot_of_call x.setting.layout (new_call (length x.past) x.reading c)) ≡ false)
      × ((e : Submitted) (earlier : LeaseStep) → Contains (submitted (seen x)) e → e.call.purpose ≡ Lease (ForJob j) earlier → shared_since e.at (seen x) s (spot_of_call x.setting.layout (new_call (length x.past) x.reading c)) ≡ false)
  -- a further call of a job whose call still waits would be none of these; so it has none
  pub known : (j : ℕ) (step : LeaseStep) → c.purpose ≡ Lease (ForJob j) step → IsSome (session_numbered x.setting (seen x) c.session)
  pub lone : (j : ℕ) (step : LeaseStep) (m : Submitted) (earlier : LeaseStep) → c.purpose ≡ Lease (ForJob j) step → Contains (submitted (seen x)) m → m.answer ≡ None → m.call.purpose ≡ Lease (ForJob j) earlier → ⊥

pub not_work : (x : Step) (c : Call) → ((j : ℕ) (step : LeaseStep) → c.purpose ≡ Lease (ForJob j) step → ⊥) → IsNewWork x c
not_work x c none =
    record {
      beside = λ j step d aim h is runs named aimed there same. absurd (none j step is);
      modes = λ j step d is runs named aimed. absurd (none j step is);
      acts = λ j step d p is runs named process. absurd (none j step is);
      unshared = λ j step d mode s is runs named aimed its. absurd (none j step is);
      known = λ j step is. absurd (none j step is);
      lone = λ j step m earlier is there open_m purpose. absurd (none j step is);
    }

-- Each call is of a session.
abbrev pub CallsOwned : Step → Type 0
CallsOwned x = (m : Submitted) → Contains (submitted (seen x)) m → IsSome (session_numbered x.setting (seen x) m.call.session)

-- A session that a call names before and after is one.
pub same_session : (x : Step) (c : Call) (n : ℕ) (s : Session) → IsSome (session_numbered x.setting (seen x) n) → session_numbered x.setting (with_call c (entry_of x) ∷ x.past) n ≡ Some s → session_numbered x.setting (seen x) n ≡ Some s
same_session x c n s there its =
    let v = some_of (session_numbered x.setting (seen x) n) there in
    v.1 ∙ ap (λ k. Some k) (one_value v.0 s (session_numbered x.setting (with_call c (entry_of x) ∷ x.past) n) (numbered_more x.setting x.past (entry_of x) c n v.0 v.1) its)

pub call_works : (x : Step) (n : ℕ) (path : List ℕ) (p : Purpose) (o : ℕ) (op : Op) → CallsOwned x → IsNewWork x (call_added n path p o op x) → WorksAt x → WorksAt (add_call_of n path p o op x)
call_works x n path p o op owned new h =
    record {
      beside = λ m j step d aim g k aimed there same. beside m j step d aim g k aimed there same (which m k.there);
      modes = λ m j step d k aimed. modes m j step d k aimed (which m k.there);
      acts = λ m j step d q k named. acts m j step d q k named (which m k.there);
      unshared = λ m e j step earlier d mode s k aimed its there purpose. unshared m e j step earlier d mode s k aimed its purpose (which m k.there) (which e there);
    } where
      c : Call
      c = call_added n path p o op x

      u : Trace
      u = with_call c (entry_of x) ∷ x.past

      v : Submitted
      v = new_call (length x.past) x.reading c

      which : (m : Submitted) → Contains (submitted u) m → (v ≡ m) ⊎ Contains (submitted (seen x)) m
      which m there = contains_cases v (submitted (seen x)) m (subst (λ ms. Contains ms m) (submitted-push x.past (entry_of x) c) there)

      waits : (m : Submitted) → IsWaiting u (heard_by x.input) m → m.answer ≡ None
      waits m (inl none) = none
      waits m (inr k) = absurd (not_last x.effects.calls c k.1)

      old : (m : Submitted) (j : ℕ) (step : LeaseStep) (d : Command) → IsAtWork x.setting u (heard_by x.input) m j step d → Contains (submitted (seen x)) m → IsAtWork x.setting (seen x) (heard_by x.input) m j step d
      old m j step d k there = record { there = there; opens = inl (waits m k.opens); purpose = k.purpose; runs = k.runs; command = k.command }

      its_purpose : (m : Submitted) (j : ℕ) (step : LeaseStep) → v ≡ m → m.call.purpose ≡ Lease (ForJob j) step → c.purpose ≡ Lease (ForJob j) step
      its_purpose m j step is at = ap (λ (z : Submitted). z.call.purpose) is ∙ at

      beside : (m : Submitted) (j : ℕ) (step : LeaseStep) (d : Command) (aim : Aim) (g : Grant) → IsAtWork x.setting u (heard_by x.input) m j step d → aim_of_command d ≡ Some aim → Contains (holdings (seen x)) g
          → IsTrue (same_place g.path g.offset (spot_of_call x.setting.layout m).path (spot_of_call x.setting.layout m).base) → (v ≡ m) ⊎ Contains (submitted (seen x)) m → MayBeHeld m d aim g
      beside m j step d aim g k aimed there same (inr was) = h.beside m j step d aim g (old m j step d k was) aimed there same
      beside m j step d aim g k aimed there same (inl is) =
          same_held x.setting v m d aim g (ap (λ (z : Submitted). z.call) is)
          (new.beside j step d aim g (its_purpose m j step is k.purpose) k.runs k.command aimed there (subst (λ (z : Submitted). same_place g.path g.offset (spot_of_call x.setting.layout z).path (spot_of_call x.setting.layout z).base ≡ true) (sym is) same))

      modes : (m : Submitted) (j : ℕ) (step : LeaseStep) (d : Command) → IsAtWork x.setting u (heard_by x.input) m j step d → aim_of_command d ≡ Some (Converts Shared) → (v ≡ m) ⊎ Contains (submitted (seen x)) m → step ≡ SetMode
      modes m j step d k aimed (inr was) = h.modes m j step d (old m j step d k was) aimed
      modes m j step d k aimed (inl is) = new.modes j step d (its_purpose m j step is k.purpose) k.runs k.command aimed

      acts : (m : Submitted) (j : ℕ) (step : LeaseStep) (d : Command) (q : ℕ) → IsAtWork x.setting u (heard_by x.input) m j step d → process_named d ≡ Some q → (v ≡ m) ⊎ Contains (submitted (seen x)) m → q < next_child (seen x)
      acts m j step d q k named (inr was) = h.acts m j step d q (old m j step d k was) named
      acts m j step d q k named (inl is) = new.acts j step d q (its_purpose m j step is k.purpose) k.runs k.command named

      unshared : (m e : Submitted) (j : ℕ) (step earlier : LeaseStep) (d : Command) (mode : Mode) (s : Session) → IsAtWork x.setting u (heard_by x.input) m j step d → aim_of_command d ≡ Some (Acquires mode)
          → session_numbered x.setting u m.call.session ≡ Some s → e.call.purpose ≡ Lease (ForJob j) earlier → (v ≡ m) ⊎ Contains (submitted (seen x)) m → (v ≡ e) ⊎ Contains (submitted (seen x)) e
          → shared_since e.at u s (spot_of_call x.setting.layout m) ≡ false
      unshared m e j step earlier d mode s k aimed its purpose (inr was) (inr there) =
          h.unshared m e j step earlier d mode s (old m j step d k was) aimed (same_session x c m.call.session s (owned m was) its) there purpose
      unshared m e j step earlier d mode s k aimed its purpose (inr was) (inl is) = absurd (new.lone j earlier m step (its_purpose e j earlier is purpose) was (waits m k.opens) k.purpose)
      unshared m e j step earlier d mode s k aimed its purpose (inl is) (inr there) =
          let of = its_purpose m j step is k.purpose in
          let session : session_numbered x.setting (seen x) c.session ≡ Some s =
          same_session x c c.session s (new.known j step of) (ap (λ (z : Submitted). session_numbered x.setting u z.call.session) is ∙ its) in
          subst (λ (z : Submitted). shared_since e.at u s (spot_of_call x.setting.layout z) ≡ false) is ((new.unshared j step d mode s of k.runs k.command aimed session).1 e earlier there purpose)
      unshared m e j step earlier d mode s k aimed its purpose (inl is) (inl same) =
          let of = its_purpose m j step is k.purpose in
          let session : session_numbered x.setting (seen x) c.session ≡ Some s =
          same_session x c c.session s (new.known j step of) (ap (λ (z : Submitted). session_numbered x.setting u z.call.session) is ∙ its) in
          subst (λ i. shared_since i u s (spot_of_call x.setting.layout m) ≡ false) (ap (λ (z : Submitted). z.at) same)
          (subst (λ (z : Submitted). shared_since (length x.past) u s (spot_of_call x.setting.layout z) ≡ false) is (new.unshared j step d mode s of k.runs k.command aimed session).0)
