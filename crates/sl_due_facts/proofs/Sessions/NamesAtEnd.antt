-- Where all that an answer makes due is done, a joining that runs has had no call refused, and where its newest call is answered it waits.
use Rattle.sl_due_facts.specs.Acts.Acts.{Has, Hears}
use Rattle.sl_due_facts.specs.Acts.TraceSoFar.{entry_of}
use Rattle.sl_due.specs.IdleJobs.{is_waiting_step}
use Rattle.sl_due.specs.Steps.{Step, add_call_of, seen}
use Rattle.sl_due_facts.proofs.Jobs.CallsStay.{IsLate, calls_stay, is_special, late_join}
use Rattle.sl_due_facts.proofs.Jobs.EffectsAreAllowed.{Allows, DeltaAllowed}
use Rattle.sl_due_facts.proofs.Jobs.NearlyPlainActs.{AnyMove, AnyStart}
use Rattle.sl_due_facts.proofs.Jobs.RepliesComeAfter.{IsLateDelta}
use Rattle.sl_due_facts.proofs.Jobs.SessionsArePresent.{session_has}
use Rattle.sl_due_facts.proofs.Jobs.SessionsStand.{running_before}
use Rattle.sl_due_facts.specs.Jobs.JobLaws.{HasCallFacts}
use Rattle.sl_due_facts.proofs.AddedEffects.CallsGrow.{same_sessions}
use Rattle.sl_words.proofs.Lists.{contains_cases, contains_first, find_inside, kept, kept_inside}
use Rattle.sl_words.proofs.Numbers.{number_itself}
use Rattle.sl_words.proofs.Options.{none_is}
use Rattle.sl_due_facts.proofs.Sessions.NameEffects.{joined_of}
use Rattle.sl_due_facts.proofs.Sessions.NamesAreAllowed.{NameCall, NameReply, caller_joined, is_joining}
use Rattle.sl_due_facts.specs.Sessions.SessionLaws.{HasNameFacts, HasNamesPlainly}
use Rattle.sl_trace.specs.Sessions.{calls_of, is_call_of, is_join_call, is_join_done, joined_after, sessions}
use Rattle.sl_trace.specs.declared.delta.DeltaNext.{DeltaNext}
use Rattle.sl_trace.specs.declared.delta.DeltaNext.TheVariants.{Disconnect, EndLeaving, Join, MoveConnection, Nothing, ReadOwn, RefuseJoin, RegisterAndRead, WriteClaim, WriteFirst, WriteFree, WriteRenewal}
use Rattle.sl_trace.specs.declared.session.Session.{Session}
use Rattle.sl_due_facts.specs.Facts.HeardCall.{heard_by}
use Rattle.sl_due_facts.specs.Facts.AllFacts.{Whole}
use Rattle.sl_trace.proofs.TraceFacts.{submitted-push}
use Rattle.sl_trace.specs.Traces.{Answered, Replied, Setting, Submitted, Trace, call_numbered, is_before_input, is_ok_answer, is_running, job_of, new_call, next_call, reply_to, submitted}
use Rattle.sl_trace.specs.declared.effects.Call.{Call}
use Rattle.sl_trace.specs.declared.effects.JoinStep.TheVariants.{FirstRead}
use Rattle.sl_trace.specs.declared.effects.Op.{Op}
use Rattle.sl_trace.specs.declared.effects.Purpose.{Purpose}
use Rattle.sl_trace.specs.declared.input.Answer.{Answer}
use Rattle.sl_trace.specs.declared.input.Input.TheVariants.{Answer as Told}
use Rattle.sl_trace.specs.declared.reply.Reply.{Reply}
use Rattle.sl_words.proofs.CaseLaws.{false_is_true, not_both, one_value, some_value, true_is_false}
use Rattle.sl_words.specs.Words.{choose}
use Rattle.std.proofs.Common.{ap, ap₂, arith, inl, inr, refl, subst, sym, ◌∙◌}
use Rattle.std.proofs.lemmas.Bool.{eqb-true}
use Rattle.std.specs.Prelude.{Bool, Contains, IsTrue, List, None, Some, false, is_some, length, option_and_then, true, ℕ, ◌+◌, ◌<◌, ◌==◌, ◌∷◌, ◌≡◌, ◌⊎◌}

-- ---- what an act leaves of calls and jobs

-- Before a call, and after it.
pub record Growing (x y : Step) : Type 0 where
  pub setting : y.setting ≡ x.setting
  pub before : y.past ≡ x.past
  pub input : y.input ≡ x.input
  pub sessions : sessions y.setting (seen y) ≡ sessions x.setting (seen x)
  pub calls : submitted (seen y) ≡ submitted (seen x)
  pub running : (n : ℕ) → is_running (seen y) n ≡ true → is_running (seen x) n ≡ true

pub record Grown (x y : Step) : Type 0 where
  pub setting : y.setting ≡ x.setting
  pub input : y.input ≡ x.input
  pub sessions : sessions y.setting (seen y) ≡ sessions x.setting (seen x)
  pub calls : (m : Submitted) → Contains (submitted (seen y)) m → m.call.number < next_call x.setting (seen x) → Contains (submitted (seen x)) m
  pub running : (n : ℕ) → is_running (seen y) n ≡ true → is_running (seen x) n ≡ true

grows_late : (x y : Step) (r : Reply) → Growing x y → IsLate x r → IsLate y r
grows_late x y r h may n a is = by (may n a (sym h.input ∙ is)) where
  by : (is_before_input r ≡ false) ⊎ ((m : Submitted) → Contains (submitted x.past) m → (m.call.number == n) ≡ true → job_of m.call.purpose ≡ None)
      → (is_before_input r ≡ false) ⊎ ((m : Submitted) → Contains (submitted y.past) m → (m.call.number == n) ≡ true → job_of m.call.purpose ≡ None)
  by (inl after) = inl after
  by (inr none) = inr (λ m there its. none m (subst (λ es. Contains (submitted es) m) h.before there) its)

pub grown : (x y : Step) → Growing x y → Grown x y
grown x y h = record { setting = h.setting; input = h.input; sessions = h.sessions; calls = λ m there below. subst (λ ms. Contains ms m) h.calls there; running = h.running }

pub growing_itself : (x : Step) → Growing x x
growing_itself x = record { setting = refl; before = refl; input = refl; sessions = refl; calls = refl; running = λ n is. is }

-- A call has a number that none had.
pub call_grown : (x y : Step) (s : Session) (path : List ℕ) (p : Purpose) (o : ℕ) (op : Op) → is_join_call FirstRead p ≡ false → Growing x y → Grown x (add_call_of s.number path p o op y)
call_grown x y s path p o op no_look h =
    record {
      setting = h.setting;
      input = h.input;
      sessions = same_sessions y.setting (entry_of y) y.past made no_look ∙ h.sessions;
      calls = λ m there below. by m below (contains_cases new (submitted (seen y)) m (subst (λ ms. Contains ms m) (submitted-push y.past (entry_of y) made) there));
      running = h.running;
    } where
      made : Call
      made = record { number = next_call y.setting (seen y); session = s.number; purpose = p; path = path; offset = o; op = op }

      new : Submitted
      new = new_call (length y.past) y.reading made

      by : (m : Submitted) → m.call.number < next_call x.setting (seen x) → (new ≡ m) ⊎ Contains (submitted (seen y)) m → Contains (submitted (seen x)) m
      by m below (inr old) = subst (λ ms. Contains ms m) h.calls old
      by m below (inl is) =
          let next : next_call y.setting (seen y) ≡ next_call x.setting (seen x) = ap₂ (λ (st : Setting) ms. st.first.call + length ms) h.setting h.calls in
          let same : next_call y.setting (seen y) ≡ m.call.number = ap (λ (k : Submitted). k.call.number) is in absurd (omega (arith, below, next, same))

abbrev pub AnyCall : Step → Session → List ℕ → Purpose → ℕ → Op → Type 0
AnyCall x s path p o op = is_join_call FirstRead p ≡ false

pub grows : (x : Step) (C : Session → List ℕ → Purpose → ℕ → Op → Type 0) → ((s : Session) (path : List ℕ) (p : Purpose) (o : ℕ) (op : Op) → C s path p o op → is_join_call FirstRead p ≡ false)
    → Allows (Growing x) (Grown x) (NameReply x) C AnyStart AnyMove
grows x C c =
    record {
      ends = λ y e h. record { setting = h.setting; before = h.before; input = h.input; sessions = h.sessions; calls = h.calls; running = h.running };
      signals = λ y q signal h. record { setting = h.setting; before = h.before; input = h.input; sessions = h.sessions; calls = h.calls; running = h.running };
      moves = λ y m may h. record { setting = h.setting; before = h.before; input = h.input; sessions = h.sessions; calls = h.calls; running = h.running };
      grants = λ y g h. record { setting = h.setting; before = h.before; input = h.input; sessions = h.sessions; calls = h.calls; running = h.running };
      starts = λ y k may h. record { setting = h.setting; before = h.before; input = h.input; sessions = h.sessions; calls = h.calls; running = h.running };
      replies = λ y j r may h. record {
        setting = h.setting;
        before = h.before;
        input = h.input;
        sessions = h.sessions;
        calls = calls_stay y j r (grows_late x y r h may) ∙ h.calls;
        running = λ n is. h.running n (running_before y j r n is);
      };
      calls = λ y s path p o op may h. call_grown x y s path p o op (c s path p o op may) h;
      rest = λ y h. grown x y h;
    }

pub grows_named : (x : Step) → Allows (Growing x) (Grown x) (NameReply x) (NameCall x) AnyStart AnyMove
grows_named x = grows x (NameCall x) (λ s path p o op may. may.2)

pub grows_joining : (x : Step) (s : Session) (n : DeltaNext) → ((r : Reply) → is_special r ≡ false → IsLate x r) → IsLateDelta n → DeltaAllowed (NameReply x) (AnyCall x) AnyMove x s n
grows_joining x s Nothing after k = tt
grows_joining x s (RefuseJoin r) after k = λ j its. (after r k, λ z is. tt)
grows_joining x s (ReadOwn step) after k = λ j its. k
grows_joining x s (RegisterAndRead step) after k = λ j its. (tt, k)
grows_joining x s (WriteClaim d) after k = λ j its. refl
grows_joining x s Disconnect after k = tt
grows_joining x s (WriteFirst d) after k = λ j its. refl
grows_joining x s (Join generation renewed) after k = λ j its. (tt, late_join x generation, refl)
grows_joining x s (MoveConnection renewed) after k = (tt, refl)
grows_joining x s (WriteRenewal d) after k = refl
grows_joining x s (WriteFree j d) after k = absurd k
grows_joining x s (EndLeaving j r) after k = absurd k

-- ---- plain where the heard call is well, or of no joining at work

-- The call that was heard, of a joining that runs on.
pub record HeardJoining (x y : Step) (n : ℕ) (s : Session) (i : ℕ) (m : Submitted) : Type 0 where
  pub inside : Contains (sessions x.setting (seen x)) s
  pub its : s.job ≡ Some i
  pub runs : is_running (seen x) i ≡ true
  pub runs_on : is_running (seen y) i ≡ true
  pub there : Contains (calls_of (seen x) s) m
  pub number : m.call.number ≡ n

pub plain_names : (x y : Step) (n : ℕ) (answer : Answer) → x.input ≡ Told n answer → n < next_call x.setting (seen x) → HasNameFacts y → Grown x y
    → ((s : Session) (i : ℕ) (m : Submitted) → HeardJoining x y n s i m → ((a : Answered) → m.answer ≡ Some a → IsTrue (is_ok_answer a.answer)) × ((ms : List Submitted) → calls_of (seen y) s ≡ m ∷ ms → IsTrue (is_waiting_step m.call.purpose)))
    → HasNamesPlainly y
plain_names x y n answer told below h g well =
    record {
      apart = h.apart;
      begun = h.begun;
      done = λ s i m a there its runs inside is other. done s i m a there its runs inside is (m.call.number == n) refl;
      waits = λ s i m ms there its runs are answered other. waits s i m ms there its runs are answered (m.call.number == n) refl;
    } where
      heard : heard_by y.input ≡ Some n
      heard = ap (λ i. heard_by i) (g.input ∙ told)

      other_call : (m : Submitted) → (m.call.number == n) ≡ false → heard_by y.input ≡ Some m.call.number → ⊥
      other_call m other is =
          let same : n ≡ m.call.number = some_value n m.call.number (sym heard ∙ is) in not_both (m.call.number == n) (ap (λ k. m.call.number == k) same ∙ number_itself m.call.number) other

      joining : (s : Session) (i : ℕ) (m : Submitted) → Contains (sessions y.setting (seen y)) s → s.job ≡ Some i → is_running (seen y) i ≡ true → Contains (calls_of (seen y) s) m → (m.call.number == n) ≡ true → HeardJoining x y n s i m
      joining s i m there its runs inside is =
          let number : m.call.number ≡ n = eqb-true m.call.number n is in
          let mine = kept_inside (is_call_of s) (submitted (seen y)) m inside in
          record {
            inside = subst (λ ss. Contains ss s) g.sessions there;
            its = its;
            runs = g.running i runs;
            runs_on = runs;
            there = kept (is_call_of s) (submitted (seen x)) m mine.1 (g.calls m mine.0 (subst (λ k. k < next_call x.setting (seen x)) (sym number) below));
            number = number;
          }

      done : (s : Session) (i : ℕ) (m : Submitted) (a : Answered) → Contains (sessions y.setting (seen y)) s → s.job ≡ Some i → is_running (seen y) i ≡ true → Contains (calls_of (seen y) s) m → m.answer ≡ Some a → (b : Bool) → (m.call.number == n) ≡ b → IsTrue (is_ok_answer a.answer)
      done s i m a there its runs inside is false other = h.done s i m a there its runs inside is (other_call m other)
      done s i m a there its runs inside is true same = (well s i m (joining s i m there its runs inside same)).0 a is

      waits : (s : Session) (i : ℕ) (m : Submitted) (ms : List Submitted) → Contains (sessions y.setting (seen y)) s → s.job ≡ Some i → is_running (seen y) i ≡ true → calls_of (seen y) s ≡ m ∷ ms → is_some m.answer ≡ true → (b : Bool) → (m.call.number == n) ≡ b
          → IsTrue (is_waiting_step m.call.purpose)
      waits s i m ms there its runs are answered false other = h.waits s i m ms there its runs are answered (other_call m other)
      waits s i m ms there its runs are answered true same =
          (well s i m (joining s i m there its runs (subst (λ ks. Contains ks m) (sym are) (contains_first m ms)) same)).1 ms are

-- The session of a joining that runs has not joined.
pub running_unjoined : (t : Trace) (s : Session) (j : ℕ) → s.job ≡ Some j → is_running t j ≡ true → joined_after t s ≡ None
running_unjoined t s j its runs = joined_of t s j its ∙ ap (λ o. option_and_then (λ (r : Replied). choose (is_join_done r.reply) (r.at + 1)) o) (none_is (reply_to t j) runs)

-- The heard call is the one that is found, and its session too.
pub heard_is : (x y : Step) (n : ℕ) (s : Session) (i : ℕ) (m k : Submitted) → HasCallFacts x → HeardJoining x y n s i m → call_numbered (seen x) n ≡ Some k → m ≡ k
heard_is x y n s i m k f h found =
    let mine = kept_inside (is_call_of s) (submitted (seen x)) m h.there in
    one_value m k (call_numbered (seen x) n) (subst (λ q. call_numbered (seen x) q ≡ Some m) h.number (f.found m mine.0)) found

pub below_of : (x : Step) (n : ℕ) (k : Submitted) → HasCallFacts x → call_numbered (seen x) n ≡ Some k → n < next_call x.setting (seen x)
below_of x n k f found =
    let its = find_inside (λ (z : Submitted). z.call.number == n) (submitted (seen x)) k found in subst (λ q. q < next_call x.setting (seen x)) (eqb-true k.call.number n its.1) (f.below k its.0)

-- A heard call that is none of a joining.
pub plain_other : (x y : Step) (s0 : Session) (k : Submitted) (answer : Answer) → Whole x → Hears x s0 k answer → is_joining k.call.purpose ≡ false → HasNameFacts y → Grown x y → HasNamesPlainly y
plain_other x y s0 k answer h hears other names g =
    plain_names x y hears.number answer hears.heard (below_of x hears.number k h.facts.calls hears.call) names g (λ s i m j. absurd (never s i m j)) where
      never : (s : Session) (i : ℕ) (m : Submitted) → HeardJoining x y hears.number s i m → ⊥
      never s i m j =
          let same : m ≡ k = heard_is x y hears.number s i m k h.facts.calls j hears.call in
          let has : Has x s = session_has x.setting (seen x) s j.inside in
          let joined : is_some (joined_after (seen x) s) ≡ true =
          caller_joined x.setting (seen x) s m h.orderly has j.there (λ q step is. true_is_false (ap (λ p. is_joining p) (sym is ∙ ap (λ (z : Submitted). z.call.purpose) same) ∙ other))
          in
          false_is_true (sym (ap (λ o. is_some o) (running_unjoined (seen x) s i j.its j.runs)) ∙ joined)
