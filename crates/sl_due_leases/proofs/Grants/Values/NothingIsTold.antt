-- Before an answer to a value's call is heard nothing is told of values, and no other act tells anything of them.
use Rattle.sl_run_law.proofs.Leases.AnswerLaws.{answers_within}
use Rattle.sl_run_law.proofs.Leases.HavingLaws.{Has as Having, has_one_more}
use Rattle.sl_due_facts.specs.Acts.Acts.{Hears, next_of_conversion, next_of_release}
use Rattle.sl_due_facts.specs.Acts.TraceSoFar.{entry_of}
use Rattle.sl_due.specs.Steps.{Step, add_end, seen}
use Rattle.sl_due.specs.declared.decision.Decision.{Decision}
use Rattle.sl_due.specs.declared.decision.Decision.TheVariants.{ConvertsTo, GetsValue, GivesUp, Joins, Leaves, ReadsArea, Replies, Requests, SetsValue, Shares, TakesOver}
use Rattle.sl_due_leases.proofs.Grants.EndsAreLawful.{last_or}
use Rattle.sl_due_leases.proofs.Grants.Values.ReadsByLines.{SaysTurn, conversion_says, release_says}
use Rattle.sl_due_leases.specs.Holdings.Moments.{Known}
use Rattle.sl_due_facts.proofs.Jobs.CallsStay.{is_special}
use Rattle.sl_due_facts.proofs.Jobs.EffectsAreAllowed.{Allows, DecisionAllowed, DeltaAllowed, GrantAllowed, LeaseAllowed, ReadAllowed, RequestAllowed}
use Rattle.sl_due_facts.proofs.Jobs.RepliesComeAfter.{IsApartDelta, request_apart, second_off, tells_value}
use Rattle.sl_run.specs.LawfulValue.{LawfulSetReply, LawfulValueReply}
use Rattle.sl_run.specs.LawForms.{IsAnsweredAt}
use Rattle.sl_trace.specs.Leases.{spot_of}
use Rattle.sl_trace.specs.declared.lease.LeaseNext.{LeaseNext}
use Rattle.sl_trace.specs.declared.lease.LeaseNext.TheVariants.{AnswerJob, BecomeExclusive, BecomeShared, GrantJob, Nothing as No_lease, ReadFor, WriteBlock, WriteLeader}
use Rattle.sl_words.proofs.Lists.{contains_cases, contains_none, find_fails, in_map, kept_inside}
use Rattle.sl_words.proofs.Numbers.{number_itself}
use Rattle.sl_trace.specs.DeltaDecisions.{next_after_free, next_after_renewal}
use Rattle.sl_trace.specs.Sessions.{calls_of, is_call_of}
use Rattle.sl_trace.specs.declared.delta.DeltaNext.{DeltaNext}
use Rattle.sl_trace.specs.declared.delta.DeltaNext.TheVariants.{Disconnect, EndLeaving, Join, MoveConnection, Nothing as No_delta, ReadOwn, RefuseJoin, RegisterAndRead, WriteClaim, WriteFirst, WriteFree, WriteRenewal}
use Rattle.sl_trace.specs.declared.session.Session.{Session}
use Rattle.sl_due_facts.specs.Facts.HeardCall.{heard_by}
use Rattle.sl_trace.specs.Traces.{Answered, Replied, Submitted, Trace, answer_of, answered_in, call_numbered, end_of, is_running, mark, new_call, reply_in, reply_to, spot_of_grant, submitted}
use Rattle.sl_trace.specs.declared.command.Command.{Command}
use Rattle.sl_trace.specs.declared.command.Command.TheVariants.{Acquire, Request, RunProgram, TakeOver}
use Rattle.sl_trace.specs.declared.effects.Call.{Call}
use Rattle.sl_trace.specs.declared.effects.Entry.{Entry}
use Rattle.sl_trace.specs.declared.effects.JobReply.{JobReply}
use Rattle.sl_trace.specs.declared.effects.LeaseRead.TheVariants.{OfArea, OfFree}
use Rattle.sl_trace.specs.declared.effects.LeaseStep.{LeaseStep}
use Rattle.sl_trace.specs.declared.effects.LeaseStep.TheVariants.{ReadAgain, ReadArea, ReadBeforeFree}
use Rattle.sl_trace.specs.declared.effects.Move.{Move}
use Rattle.sl_trace.specs.declared.effects.Op.{Op}
use Rattle.sl_trace.specs.declared.effects.Purpose.{Purpose}
use Rattle.sl_trace.specs.declared.effects.Purpose.TheVariants.{ValueRead, ValueWrite}
use Rattle.sl_trace.specs.declared.effects.Spot.{Spot}
use Rattle.sl_trace.specs.declared.effects.Work.{Work}
use Rattle.sl_trace.specs.declared.effects.Work.TheVariants.{ForJob}
use Rattle.sl_trace.specs.declared.input.Answer.{Answer}
use Rattle.sl_trace.specs.declared.input.Answer.TheVariants.{Failed, Read, Written}
use Rattle.sl_trace.specs.declared.input.Input.{Input}
use Rattle.sl_trace.specs.declared.input.Input.TheVariants.{Answer as Told, Exit, Line, Number, Spawned, Wake}
use Rattle.sl_trace.specs.declared.reply.Reply.{Reply}
use Rattle.sl_trace.specs.declared.reply.Reply.TheVariants.{Value, ValueSet}
use Rattle.sl_run_law.proofs.Sessions.CallsAreMade.{same_answered}
use Rattle.sl_words.proofs.CaseLaws.{no_value, none_some, not_both, one_value, some_value, true_is_false}
use Rattle.std.proofs.Common.{ap, arith, inl, inr, refl, subst, sym, ◌∙◌}
use Rattle.std.proofs.lemmas.Bool.{eqb-true}
use Rattle.std.specs.Option.{option_or}
use Rattle.std.specs.Prelude.{Bool, Contains, List, None, Option, Some, [], false, find, fold, is_none, length, map, option_map, true, ℕ, ◌<◌, ◌==◌, ◌∷◌, ◌≡◌, ◌⊎◌}

-- What is lawful of the values that are told so far.
pub record TellingSoFar (x : Step) : Type 0 where
  pub replies : (a : JobReply) (lver seq : ℕ) (bytes : List ℕ) → Contains x.effects.replies a → a.reply ≡ Value lver seq bytes → LawfulValueReply x.setting x.past (entry_of x) a.job lver seq bytes
  pub sets : (a : JobReply) (lver seq : ℕ) → Contains x.effects.replies a → a.reply ≡ ValueSet lver seq → LawfulSetReply x.past (entry_of x) a.job lver seq

pub telling_so_far : (x : Step) → Known x → TellingSoFar x
telling_so_far x k = record { replies = k.0.orderly.values.0.replies; sets = k.0.orderly.values.0.sets }

-- ---- where nothing is told

abbrev pub NoneTold : Step → Type 0
NoneTold x = (a : JobReply) → Contains x.effects.replies a → tells_value a.reply ≡ false

pub untold_lawful : (z : Step) → NoneTold z → TellingSoFar z
untold_lawful z none =
    record {
      replies = λ a lver seq bytes there is. absurd (true_is_false (sym (ap (λ r. tells_value r) is) ∙ none a there));
      sets = λ a lver seq there is. absurd (true_is_false (sym (ap (λ r. tells_value r) is) ∙ none a there));
    }

-- What is allowed.
abbrev pub May : ℕ → Reply → Type 0
May j r = tells_value r ≡ false

abbrev pub AnyCall : Session → List ℕ → Purpose → ℕ → Op → Type 0
AnyCall s path p o op = Unit {0}

abbrev pub AnyStart : Option ℕ → Type 0
AnyStart o = Unit {0}

abbrev pub AnyMove : Move → Type 0
AnyMove m = Unit {0}

pub allows : Allows NoneTold NoneTold May AnyCall AnyStart AnyMove
allows =
    record {
      ends = λ y e h. h;
      signals = λ y p g h. h;
      moves = λ y m may h. h;
      grants = λ y g h. h;
      starts = λ y s may h. h;
      replies = λ y j r may h a there. by y j r may h a (last_or y.effects.replies (record { job = j; reply = r }) a there);
      calls = λ y s path p o op may h. h;
      rest = λ y h. h;
    }
  where
    by : (y : Step) (j : ℕ) (r : Reply) → tells_value r ≡ false → NoneTold y → (a : JobReply) → Contains y.effects.replies a ⊎ (record { job = j; reply = r } ≡ a) → tells_value a.reply ≡ false
    by y j r may h a (inl old) = h a old
    by y j r may h a (inr new) = subst (λ (b : JobReply). tells_value b.reply ≡ false) new may

grants_allowed : (j lver : ℕ) (c : Command) → GrantAllowed May AnyStart j lver c
grants_allowed j lver (Acquire r shared p persistent) = refl
grants_allowed j lver (TakeOver r shared p persistent) = refl
grants_allowed j lver (RunProgram r shared path) = tt
grants_allowed j lver c = tt

pub lease_allowed : (y : Step) (s : Session) (at : Spot) (work : Work) (n : LeaseNext) → ((r : Reply) → n ≡ AnswerJob r → tells_value r ≡ false) → LeaseAllowed May AnyCall AnyStart y s at work n
lease_allowed y s at work No_lease h = tt
lease_allowed y s at work (ReadFor step) h = by step where
  by : (step : LeaseStep) → ReadAllowed AnyCall y s at work step
  by (ReadArea name) = tt
  by ReadBeforeFree = tt
  by (ReadAgain (OfArea name)) = tt
  by (ReadAgain OfFree) = tt
  by step = tt
lease_allowed y s at work (WriteBlock step b) h = tt
lease_allowed y s at work (WriteLeader step l) h = tt
lease_allowed y s at work (AnswerJob r) h = λ j is. h r refl
lease_allowed y s at work (GrantJob mode lver) h = λ j c is named. grants_allowed j lver c
lease_allowed y s at work (BecomeShared lver l) h = (λ j is. refl, tt)
lease_allowed y s at work (BecomeExclusive lver b) h = (λ j is. refl, λ z same. tt)

pub delta_allowed : (y : Step) (s : Session) (n : DeltaNext) → IsApartDelta n → DeltaAllowed May AnyCall AnyMove y s n
delta_allowed y s No_delta h = tt
delta_allowed y s (RefuseJoin r) h = λ j its. (second_off (is_special r) (tells_value r) h, λ z is. tt)
delta_allowed y s (ReadOwn step) h = λ j its. tt
delta_allowed y s (RegisterAndRead step) h = λ j its. (tt, tt)
delta_allowed y s (WriteClaim d) h = λ j its. tt
delta_allowed y s Disconnect h = tt
delta_allowed y s (WriteFirst d) h = λ j its. tt
delta_allowed y s (Join generation renewed) h = λ j its. (tt, refl, tt)
delta_allowed y s (MoveConnection renewed) h = (tt, tt)
delta_allowed y s (WriteRenewal d) h = tt
delta_allowed y s (WriteFree j d) h = absurd h
delta_allowed y s (EndLeaving j r) h = absurd h

pub renewal_allowed : (y : Step) (s : Session) (recovering : Bool) (made : ℕ) (answer : Answer) → DeltaAllowed May AnyCall AnyMove y s (next_after_renewal recovering made answer)
renewal_allowed y s true made Written = tt
renewal_allowed y s false made Written = (tt, tt)
renewal_allowed y s recovering made (Read bytes) = tt
renewal_allowed y s recovering made Failed = tt

pub freed_allowed : (y : Step) (s : Session) (j call : ℕ) (answer : Answer) → DeltaAllowed May AnyCall AnyMove y s (next_after_free j call answer)
freed_allowed y s j call Written = (tt, refl)
freed_allowed y s j call Failed = (tt, refl)
freed_allowed y s j call (Read bytes) = tt

pub decision_allowed : (y : Step) (j : ℕ) (c : Command) (d : Decision) → DecisionAllowed NoneTold May AnyCall AnyStart y j c d
decision_allowed y j c (Replies r) = tt
decision_allowed y j c (Joins n a) = λ z is. tt
decision_allowed y j c (Leaves s) = (tt, λ z h k there. refl)
decision_allowed y j c (ReadsArea s r) = tt
decision_allowed y j c (Shares s lver) = grants_allowed j lver c
decision_allowed y j c (GivesUp s g) =
    let z : Step = add_end (end_of g) y in (
      refl,
      lease_allowed z s (spot_of_grant g) (ForJob j) (next_of_release y.setting (seen z) s (spot_of_grant g) g)
          (λ r is. ap (λ q. tells_value q) (subst (λ n. SaysTurn n) is (release_says y.setting (seen z) s (spot_of_grant g) g))),
    )
decision_allowed y j c (TakesOver s g) = grants_allowed j g.lver c
decision_allowed y j c (ConvertsTo s r mode) =
    lease_allowed y s (spot_of r) (ForJob j) (next_of_conversion y.setting (seen y) s (spot_of r) mode r.name)
    (λ q is. ap (λ a. tells_value a) (subst (λ n. SaysTurn n) is (conversion_says y.setting (seen y) s (spot_of r) mode r.name)))
decision_allowed y j c (Requests s r) = tt
decision_allowed y j c (SetsValue s at v) = tt
decision_allowed y j c (GetsValue s at) = tt

pub request_allowed : (x : Step) (s : Session) (j : ℕ) (bytes : List ℕ) (c : Command) → RequestAllowed May AnyCall x s j bytes c
request_allowed x s j bytes (Request r asked force) = (λ why is. second_off (is_special why) (tells_value why) (request_apart x.setting.layout s.lockspace r asked force bytes why is), tt)
request_allowed x s j bytes c = tt

-- ---- what was told was answered in this entry

new_or_marked : (cs : List Call) (k reading : ℕ) (ms : List Submitted) (m : Submitted) → Contains (fold (λ ns c. new_call k reading c ∷ ns) ms cs) m → (m.answer ≡ None) ⊎ Contains ms m
new_or_marked [] k reading ms m there = inr there
new_or_marked (c ∷ cs) k reading ms m there = by (new_or_marked cs k reading (new_call k reading c ∷ ms) m there) where
  by : (m.answer ≡ None) ⊎ Contains (new_call k reading c ∷ ms) m → (m.answer ≡ None) ⊎ Contains ms m
  by (inl none) = inl none
  by (inr inside) = first (contains_cases (new_call k reading c) ms m inside) where
    first : (new_call k reading c ≡ m) ⊎ Contains ms m → (m.answer ≡ None) ⊎ Contains ms m
    first (inl is) = inl (ap (λ (d : Submitted). d.answer) (sym is))
    first (inr old) = inr old

-- What an answered call was before.
record Marked (past : Trace) (e : Entry) (n : ℕ) (w : Answer) (m : Submitted) : Type 0 where
  before : Submitted
  there : Contains (submitted past) before
  same : (before.answer ≡ m.answer) ⊎ ((before.answer ≡ None) × (m.call.number ≡ n) × (m.answer ≡ Some (answer_of past e w before.call)))

marked : (past : Trace) (e : Entry) (n : ℕ) (w : Answer) (m : Submitted) → Contains (map (answered_in past e n w) (submitted past)) m → Marked past e n w m
marked past e n w m there = (let v = in_map (answered_in past e n w) (submitted past) m there in record { before = v.0; there = v.1; same = turned v.0 v.2 (v.0.call.number == n) refl v.0.answer refl }) where
  turned : (d : Submitted) → answered_in past e n w d ≡ m → (b : Bool) → (d.call.number == n) ≡ b → (o : Option Answered) → d.answer ≡ o
      → (d.answer ≡ m.answer) ⊎ ((d.answer ≡ None) × (m.call.number ≡ n) × (m.answer ≡ Some (answer_of past e w d.call)))
  turned d is false at o was =
      inl (sym (ap (λ b. (elim b as (λ z. Submitted) [ false ↦ d | true ↦ record d { answer = option_or d.answer (Some (answer_of past e w d.call)) } ]).answer) at) ∙ ap (λ (k : Submitted). k.answer) is)
  turned d is true at (Some a) was =
      inl (was ∙ (ap (λ o. option_or o (Some (answer_of past e w d.call))) (sym was)
      ∙ (sym (ap (λ b. (elim b as (λ z. Submitted) [ false ↦ d | true ↦ record d { answer = option_or d.answer (Some (answer_of past e w d.call)) } ]).answer) at) ∙ ap (λ (k : Submitted). k.answer) is)))
  turned d is true at None was =
      inr (
        was,
        ap (λ (k : Submitted). k.call.number) (sym is) ∙ (ap (λ (c : Call). c.number) (same_answered past e n w d).call ∙ eqb-true d.call.number n at),
        ap (λ (k : Submitted). k.answer) (sym is)
            ∙ (ap (λ b. (elim b as (λ z. Submitted) [ false ↦ d | true ↦ record d { answer = option_or d.answer (Some (answer_of past e w d.call)) } ]).answer) at ∙ ap (λ o. option_or o (Some (answer_of past e w d.call))) was),
      )

having : {A : Type 0} (xs : List A) (x : A) → Contains xs x → Having xs x
having [] x there = absurd (contains_none x there)
having {A} (y ∷ ys) x there = by (contains_cases y ys x there) (λ inside. having ys x inside) where
  by : (y ≡ x) ⊎ Contains ys x → (Contains ys x → Having ys x) → Having (y ∷ ys) x
  by (inl is) rest = record { newer = []; older = ys; is = ap (λ z. z ∷ ys) is }
  by (inr inside) rest = has_one_more y ys x (rest inside)

-- So a call that was answered in this entry is that which the input answers.
answered_now : (x : Step) (m : Submitted) (w : Answer) → Contains (submitted (seen x)) m → IsAnsweredAt (length x.past) m w → (n : ℕ) × (v : Answer) × (x.input ≡ Told n v) × (m.call.number ≡ n)
answered_now x m w there told = by (new_or_marked x.effects.calls (length x.past) x.reading (mark x.past (entry_of x) x.input (submitted x.past)) m there) where
  never : (d : Submitted) → Contains (submitted x.past) d → d.answer ≡ m.answer → ⊥
  never d inside was = same told.0.at (length x.past) (answers_within x.past d (having (submitted x.past) d inside) told.0 (was ∙ told.1)) told.2 where
    same : (i n : ℕ) → i < n → i ≡ n → ⊥
    same i n less is = omega (arith, less, is)

  by_input : (i : Input) → x.input ≡ i → Contains (mark x.past (entry_of x) i (submitted x.past)) m → (n : ℕ) × (v : Answer) × (x.input ≡ Told n v) × (m.call.number ≡ n)
  by_input (Told n v) is inside = at_answer (marked x.past (entry_of x) n v m inside) where
    at_answer : Marked x.past (entry_of x) n v m → (n : ℕ) × (v : Answer) × (x.input ≡ Told n v) × (m.call.number ≡ n)
    at_answer k = same k k.same where
      same : (k : Marked x.past (entry_of x) n v m) → (k.before.answer ≡ m.answer) ⊎ ((k.before.answer ≡ None) × (m.call.number ≡ n) × (m.answer ≡ Some (answer_of x.past (entry_of x) v k.before.call)))
          → (n : ℕ) × (v : Answer) × (x.input ≡ Told n v) × (m.call.number ≡ n)
      same k (inl was) = absurd (never k.before k.there was)
      same k (inr new) = (n, v, is, new.1)
  by_input (Line text) is inside = absurd (never m inside refl)
  by_input (Number text) is inside = absurd (never m inside refl)
  by_input (Exit p) is inside = absurd (never m inside refl)
  by_input (Spawned p ok) is inside = absurd (never m inside refl)
  by_input Wake is inside = absurd (never m inside refl)

  by : (m.answer ≡ None) ⊎ Contains (mark x.past (entry_of x) x.input (submitted x.past)) m → (n : ℕ) × (v : Answer) × (x.input ≡ Told n v) × (m.call.number ≡ n)
  by (inl none) = absurd (no_value told.0 m.answer told.1 none)
  by (inr inside) = by_input x.input refl inside

-- Who was replied to runs no more.
pub replied_stops : (past : Trace) (e : Entry) (a : JobReply) → Contains e.effects.replies a → is_running (e ∷ past) a.job ≡ false
replied_stops past e a there = by (reply_to past a.job) where
  found : (o : Option JobReply) → find (λ (b : JobReply). b.job == a.job) e.effects.replies ≡ o → is_none (option_map (λ (b : JobReply). let r : Replied = record { at = length past; reply = b.reply } in r) o) ≡ false
  found (Some b) is = refl
  found None is = absurd (not_both (a.job == a.job) (number_itself a.job) (find_fails (λ (b : JobReply). b.job == a.job) e.effects.replies a is there))

  by : (o : Option Replied) → is_none (elim o as (λ z. Option Replied) [ Some r ↦ Some r | None ↦ reply_in a.job past e ]) ≡ false
  by (Some r) = refl
  by None = found (find (λ (b : JobReply). b.job == a.job) e.effects.replies) refl

-- ---- nothing is told before

untold_unless : (x : Step) → Known x
    → ((n : ℕ) (w : Answer) (m : Submitted) (j : ℕ) → x.input ≡ Told n w → call_numbered (seen x) n ≡ Some m → (m.call.purpose ≡ ValueRead j) ⊎ (m.call.purpose ≡ ValueWrite j) → is_running (seen x) j ≡ true) → NoneTold x
untold_unless x k runs a there = by a.reply refl where
  told : TellingSoFar x
  told = telling_so_far x k

  stops : (c : Submitted) (s : Session) (w : Answer) → Contains (calls_of (seen x) s) c → IsAnsweredAt (length x.past) c w → (c.call.purpose ≡ ValueRead a.job) ⊎ (c.call.purpose ≡ ValueWrite a.job) → ⊥
  stops c s w inside at purpose =
      let here : Contains (submitted (seen x)) c = (kept_inside (is_call_of s) (submitted (seen x)) c inside).0 in
      let now = answered_now x c w here at in
      not_both (is_running (seen x) a.job) (runs now.0 now.1 c a.job now.2 (subst (λ n. call_numbered (seen x) n ≡ Some c) now.3 (k.0.facts.calls.found c here)) purpose) (replied_stops x.past (entry_of x) a there)

  by : (r : Reply) → a.reply ≡ r → tells_value a.reply ≡ false
  by (Value lver seq bytes) is =
      let v = told.replies a lver seq bytes there is in
      absurd (stops v.call v.session (Read v.sector) v.of_session.0 v.told.0 (inl v.of_session.1))
  by (ValueSet lver seq) is =
      let v = told.sets a lver seq there is in
      absurd (stops v.call v.session Written v.of_session.0 v.told.0 (inr v.of_session.1))
  by r is = ap (λ q. tells_value q) is

-- Where the input is no answer.
pub woken_untold : (x : Step) → Known x → heard_by x.input ≡ None → NoneTold x
woken_untold x k none = untold_unless x k (λ n w m j is found purpose. absurd (none_some n (sym none ∙ ap (λ i. heard_by i) is)))

-- Where an answer is heard: of a value's job that still runs, or of another call.
pub heard_untold : (x : Step) (s : Session) (m : Submitted) (a : Answer) → Hears x s m a → Known x → ((j : ℕ) → (m.call.purpose ≡ ValueRead j) ⊎ (m.call.purpose ≡ ValueWrite j) → is_running (seen x) j ≡ true) → NoneTold x
heard_untold x s m a h k runs =
    untold_unless x k (λ n w d j is found purpose.
    let same : n ≡ h.number = some_value n h.number (ap (λ i. heard_by i) (sym is ∙ h.heard)) in
    let call : d ≡ m = one_value d m (call_numbered (seen x) h.number) (subst (λ i. call_numbered (seen x) i ≡ Some d) same found) h.call in
    runs j (subst (λ (v : Submitted). (v.call.purpose ≡ ValueRead j) ⊎ (v.call.purpose ≡ ValueWrite j)) call purpose))

abbrev pub is_values : Purpose → Bool
is_values (ValueRead j) = true
is_values (ValueWrite j) = true
is_values p = false

pub other_untold : (x : Step) (s : Session) (m : Submitted) (a : Answer) → Hears x s m a → Known x → is_values m.call.purpose ≡ false → NoneTold x
other_untold x s m a h k other = heard_untold x s m a h k (λ j purpose. absurd (by j purpose)) where
  by : (j : ℕ) → (m.call.purpose ≡ ValueRead j) ⊎ (m.call.purpose ≡ ValueWrite j) → ⊥
  by j (inl is) = true_is_false (sym (ap (λ p. is_values p) is) ∙ other)
  by j (inr is) = true_is_false (sym (ap (λ p. is_values p) is) ∙ other)
