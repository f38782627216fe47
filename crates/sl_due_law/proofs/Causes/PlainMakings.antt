-- What all acts keep of what a step makes for a job, where they make no call of a job's lease, of a request or of a value, start no program
-- for a job, and grant nothing.
use Rattle.sl_due_facts.proofs.Acts.AddedAtEnd.{contains_last}
use Rattle.sl_due.specs.CarriedLease.{grant_of}
use Rattle.sl_due.specs.Steps.{Step, add_call_of, add_end, add_grant, add_move, add_reply, add_signal, add_start, seen, with_input}
use Rattle.sl_due_law.proofs.Causes.LaterSteps.{wake_no_line}
use Rattle.sl_due_facts.proofs.Jobs.EffectsAreAllowed.{Allows, DeltaAllowed, LeaseAllowed, ReadAllowed}
use Rattle.sl_due_facts.proofs.Jobs.NearlyPlainActs.{AnyMove, Anything}
use Rattle.sl_due_law.specs.Causes.Makings.{By_answer, By_line, FromJob, GivenTo, MadeFor, MadeSoFar, StartedFor}
use Rattle.sl_due_facts.specs.Facts.HeardCall.{heard_by}
use Rattle.sl_trace.specs.declared.lease.LeaseNext.{LeaseNext}
use Rattle.sl_trace.specs.declared.lease.LeaseNext.TheVariants.{AnswerJob, BecomeExclusive, BecomeShared, GrantJob, Nothing as No_lease, ReadFor, WriteBlock, WriteLeader}
use Rattle.sl_words.proofs.Lists.{contains_first, contains_none}
use Rattle.sl_trace.specs.declared.delta.DeltaNext.{DeltaNext}
use Rattle.sl_trace.specs.declared.delta.DeltaNext.TheVariants.{Disconnect, EndLeaving, Join, MoveConnection, Nothing, ReadOwn, RefuseJoin, RegisterAndRead, WriteClaim, WriteFirst, WriteFree, WriteRenewal}
use Rattle.sl_trace.specs.declared.session.Session.{Session}
use Rattle.sl_trace.specs.Traces.{Setting, Trace, next_call}
use Rattle.sl_trace.specs.declared.effects.Call.{Call}
use Rattle.sl_trace.specs.declared.effects.Grant.{Grant}
use Rattle.sl_trace.specs.declared.effects.LeaseStep.{LeaseStep}
use Rattle.sl_trace.specs.declared.effects.LeaseStep.TheVariants.{ClearMode, FreeLeader, Phase1Read, Phase1Write, Phase2Read, Phase2Write, ReadAgain, ReadArea, ReadBeforeBlock, ReadBeforeFree, SetMode, TakeLeader}
use Rattle.sl_trace.specs.declared.effects.Op.{Op}
use Rattle.sl_trace.specs.declared.effects.Purpose.{Purpose}
use Rattle.sl_trace.specs.declared.effects.Purpose.TheVariants.{Joining, Lease, Leaving, Renewal, RequestRead, RequestWrite, SeeRequest, Survey, ValueRead, ValueWrite}
use Rattle.sl_trace.specs.declared.effects.Spot.{Spot}
use Rattle.sl_trace.specs.declared.effects.Start.{Start}
use Rattle.sl_trace.specs.declared.effects.Work.TheVariants.{ForJob, Settling}
use Rattle.sl_trace.specs.declared.input.Input.{Input}
use Rattle.sl_trace.specs.declared.input.Input.TheVariants.{Wake}
use Rattle.sl_words.proofs.CaseLaws.{none_some, true_is_false}
use Rattle.sl_trace.specs.declared.effects.LeaseRead.TheVariants.{OfArea, OfBlock, OfFree, OfPhase1, OfPhase2}
use Rattle.std.proofs.Common.{ap, inl, inr, refl, subst, sym, ◌∙◌}
use Rattle.std.specs.Prelude.{Bool, Contains, List, None, Option, Some, [], false, true, ℕ, ◌≡◌, ◌⊎◌}

-- Whether something must stand behind the call.
abbrev pub is_special_call : Purpose → Bool
is_special_call (Lease (ForJob j) step) = true
is_special_call (RequestWrite j owner) = true
is_special_call (ValueWrite j) = true
is_special_call p = false

abbrev pub PlainCall : Session → List ℕ → Purpose → ℕ → Op → Type 0
PlainCall s path p o op = is_special_call p ≡ false

abbrev pub NoStart : Option ℕ → Type 0
NoStart o = o ≡ None

-- ---- what is decided of sessions, and settled

pub delta_plain : (y : Step) (s : Session) (n : DeltaNext) → DeltaAllowed Anything PlainCall AnyMove y s n
delta_plain y s Nothing = tt
delta_plain y s (RefuseJoin r) = λ j its. (tt, λ z is. tt)
delta_plain y s (ReadOwn step) = λ j its. refl
delta_plain y s (RegisterAndRead step) = λ j its. (tt, refl)
delta_plain y s (WriteClaim d) = λ j its. refl
delta_plain y s Disconnect = tt
delta_plain y s (WriteFirst d) = λ j its. refl
delta_plain y s (Join generation renewed) = λ j its. (tt, tt, refl)
delta_plain y s (MoveConnection renewed) = (tt, refl)
delta_plain y s (WriteRenewal d) = refl
delta_plain y s (WriteFree j d) = refl
delta_plain y s (EndLeaving j r) = (tt, tt)

settling_reads : (y : Step) (s : Session) (at : Spot) (step : LeaseStep) → ReadAllowed PlainCall y s at Settling step
settling_reads y s at (ReadArea name) = refl
settling_reads y s at ReadBeforeFree = refl
settling_reads y s at ReadBeforeBlock = refl
settling_reads y s at (ReadAgain (OfArea name)) = refl
settling_reads y s at (ReadAgain OfFree) = refl
settling_reads y s at (ReadAgain OfBlock) = refl
settling_reads y s at (ReadAgain OfPhase1) = refl
settling_reads y s at (ReadAgain OfPhase2) = refl
settling_reads y s at Phase1Write = refl
settling_reads y s at Phase1Read = refl
settling_reads y s at Phase2Write = refl
settling_reads y s at Phase2Read = refl
settling_reads y s at TakeLeader = refl
settling_reads y s at SetMode = refl
settling_reads y s at FreeLeader = refl
settling_reads y s at ClearMode = refl

pub settling_plain : (y : Step) (s : Session) (at : Spot) (n : LeaseNext) → LeaseAllowed Anything PlainCall NoStart y s at Settling n
settling_plain y s at No_lease = tt
settling_plain y s at (ReadFor step) = settling_reads y s at step
settling_plain y s at (WriteBlock step b) = refl
settling_plain y s at (WriteLeader step l) = refl
settling_plain y s at (AnswerJob r) = λ j is. tt
settling_plain y s at (GrantJob mode lver) = λ j c is reads. absurd (none_some j is)
settling_plain y s at (BecomeShared lver l) = ((λ j is. tt), refl)
settling_plain y s at (BecomeExclusive lver b) = ((λ j is. tt), λ z same. refl)

-- ---- what an act adds

pub record Adds (x z : Step) : Type 0 where
  pub setting : z.setting ≡ x.setting
  pub before : z.past ≡ x.past
  pub input : z.input ≡ x.input
  pub calls : (c : Call) → Contains z.effects.calls c → Contains x.effects.calls c ⊎ (is_special_call c.purpose ≡ false)
  pub starts : (k : Start) → Contains z.effects.starts k → Contains x.effects.starts k ⊎ (k.job ≡ None)

pub adds_nothing : (x : Step) → Adds x x
adds_nothing x = record { setting = refl; before = refl; input = refl; calls = λ c there. inl there; starts = λ k there. inl there }

more_calls : (x y : Step) (s : Session) (path : List ℕ) (p : Purpose) (o : ℕ) (op : Op) → is_special_call p ≡ false → Adds x y → Adds x (add_call_of s.number path p o op y)
more_calls x y s path p o op may a =
    record { setting = a.setting; before = a.before; input = a.input; calls = λ c there. by c (contains_last y.effects.calls made c there); starts = a.starts } where
      made : Call
      made = record { number = next_call y.setting (seen y); session = s.number; purpose = p; path = path; offset = o; op = op }

      by : (c : Call) → Contains y.effects.calls c ⊎ (made ≡ c) → Contains x.effects.calls c ⊎ (is_special_call c.purpose ≡ false)
      by c (inl old) = a.calls c old
      by c (inr new) = inr (ap (λ (d : Call). is_special_call d.purpose) (sym new) ∙ may)

more_starts : (x y : Step) (k : Start) → k.job ≡ None → Adds x y → Adds x (add_start k y)
more_starts x y k may a =
    record { setting = a.setting; before = a.before; input = a.input; calls = a.calls; starts = λ q there. by q (contains_last y.effects.starts k q there) } where
      by : (q : Start) → Contains y.effects.starts q ⊎ (k ≡ q) → Contains x.effects.starts q ⊎ (q.job ≡ None)
      by q (inl old) = a.starts q old
      by q (inr new) = inr (ap (λ (z : Start). z.job) (sym new) ∙ may)

same_lists : (x y z : Step) → Adds x y → z.setting ≡ y.setting → z.past ≡ y.past → z.input ≡ y.input → z.effects.calls ≡ y.effects.calls → z.effects.starts ≡ y.effects.starts → Adds x z
same_lists x y z a setting before input calls starts =
    record {
      setting = setting ∙ a.setting;
      before = before ∙ a.before;
      input = input ∙ a.input;
      calls = λ c there. a.calls c (subst (λ cs. Contains cs c) calls there);
      starts = λ k there. a.starts k (subst (λ ks. Contains ks k) starts there);
    }

pub adds : (x : Step) → Allows (Adds x) (Adds x) Anything PlainCall NoStart AnyMove
adds x =
    record {
      ends = λ y e a. same_lists x y (add_end e y) a refl refl refl refl refl;
      signals = λ y p signal a. same_lists x y (add_signal p signal y) a refl refl refl refl refl;
      moves = λ y m may a. same_lists x y (add_move m y) a refl refl refl refl refl;
      grants = λ y g a. same_lists x y (add_grant g y) a refl refl refl refl refl;
      starts = λ y k may a. more_starts x y k may a;
      replies = λ y j r may a. same_lists x y (add_reply j r y) a refl refl refl refl refl;
      calls = λ y s path p o op may a. more_calls x y s path p o op may a;
      rest = λ y a. a;
    }

-- ---- what is made stays made

pub made_plain : (st : Setting) (past : Trace) (i : Input) (gs : List Grant) (op : Op) (p : Purpose) → is_special_call p ≡ false → MadeFor st past i gs op p
made_plain st past i gs op (Lease (ForJob j) step) plain = absurd (true_is_false plain)
made_plain st past i gs op (Lease Settling step) plain = tt
made_plain st past i gs op (RequestWrite j owner) plain = absurd (true_is_false plain)
made_plain st past i gs op (ValueWrite j) plain = absurd (true_is_false plain)
made_plain st past i gs op (Joining j step) plain = tt
made_plain st past i gs op Renewal plain = tt
made_plain st past i gs op Survey plain = tt
made_plain st past i gs op (Leaving j) plain = tt
made_plain st past i gs op (RequestRead j) plain = tt
made_plain st past i gs op SeeRequest plain = tt
made_plain st past i gs op (ValueRead j) plain = tt

-- What is said by setting, past, input and grants.
moved : (P : Setting → Trace → Input → List Grant → Type 0) (x z : Step) → z.setting ≡ x.setting → z.past ≡ x.past → z.input ≡ x.input → z.effects.grants ≡ x.effects.grants
    → P x.setting x.past x.input x.effects.grants → P z.setting z.past z.input z.effects.grants
moved P x z setting before input grants h =
    subst (λ st. P st z.past z.input z.effects.grants) (sym setting)
    (subst (λ t. P x.setting t z.input z.effects.grants) (sym before)
    (subst (λ i. P x.setting x.past i z.effects.grants) (sym input) (subst (λ gs. P x.setting x.past x.input gs) (sym grants) h)))

pub still_made : (x z : Step) → Adds x z → z.effects.grants ≡ x.effects.grants → MadeSoFar x → MadeSoFar z
still_made x z a same h =
    record {
      calls = λ c there. by_call c (a.calls c there);
      starts = λ k j there its. by_start k j its (a.starts k there);
      grants = λ g there. subst (λ t. GivenTo t g.process) (sym a.before) (h.grants g (subst (λ gs. Contains gs g) same there));
    } where
      by_call : (c : Call) → Contains x.effects.calls c ⊎ (is_special_call c.purpose ≡ false) → MadeFor z.setting z.past z.input z.effects.grants c.op c.purpose
      by_call c (inl old) = moved (λ st t i gs. MadeFor st t i gs c.op c.purpose) x z a.setting a.before a.input same (h.calls c old)
      by_call c (inr plain) = made_plain z.setting z.past z.input z.effects.grants c.op c.purpose plain

      by_start : (k : Start) (j : ℕ) → k.job ≡ Some j → Contains x.effects.starts k ⊎ (k.job ≡ None) → StartedFor z.setting z.past z.input z.effects.grants k.process j
      by_start k j its (inl old) = moved (λ st t i gs. StartedFor st t i gs k.process j) x z a.setting a.before a.input same (h.starts k j old its)
      by_start k j its (inr none) = absurd (none_some j (sym none ∙ its))

-- Before an input is seen no program is started for a job.
pub jobless_awake : (x : Step) → x.input ≡ Wake → MadeSoFar x → (k : Start) (j : ℕ) → Contains x.effects.starts k → k.job ≡ Some j → ⊥
jobless_awake x wake h k j there its = by (h.starts k j there its).from where
  by : FromJob x.setting x.past x.input j → ⊥
  by (By_line text c line own says told) = wake_no_line x.input text wake line
  by (By_answer m waits heard) = none_some m.call.number (ap (λ i. heard_by i) (sym wake) ∙ heard)

-- So what is made holds as the input is seen.
pub seen_made : (x : Step) (i : Input) → x.input ≡ Wake → x.effects.calls ≡ [] → x.effects.grants ≡ [] → MadeSoFar x → MadeSoFar (with_input i x)
seen_made x i wake bare none h =
    record {
      calls = λ c there. absurd (contains_none c (subst (λ cs. Contains cs c) bare there));
      starts = λ k j there its. absurd (jobless_awake x wake h k j there its);
      grants = λ g there. absurd (contains_none g (subst (λ gs. Contains gs g) none there));
    }

-- Where nothing is granted no program was started for a job.
pub jobless_ungranted : (x : Step) → x.effects.grants ≡ [] → MadeSoFar x → (k : Start) (j : ℕ) → Contains x.effects.starts k → k.job ≡ Some j → ⊥
jobless_ungranted x none h k j there its =
    let s = h.starts k j there its in contains_none (grant_of s.session s.resource k.process s.mode s.lver false) (subst (λ gs. Contains gs (grant_of s.session s.resource k.process s.mode s.lver false)) (sym s.grants ∙ none) (contains_first (grant_of s.session s.resource k.process s.mode s.lver false) []))
