-- What is known of names and joinings is kept by each act: no call is made by a session that was refused.
use Rattle.sl_due_facts.proofs.Acts.DecisionsAreTheirs.{Of}
use Rattle.sl_due_facts.proofs.Acts.InputsKeep.{has_heard}
use Rattle.sl_due_facts.specs.Acts.Acts.{Has, Hears, next_of_conversion, next_of_release}
use Rattle.sl_due.specs.Steps.{Step, add_end, add_reply, seen, with_input}
use Rattle.sl_due.specs.declared.decision.Decision.{Decision}
use Rattle.sl_due.specs.declared.decision.Decision.TheVariants.{ConvertsTo, GetsValue, GivesUp, Joins, Leaves, ReadsArea, Replies, Requests, SetsValue, Shares, TakesOver}
use Rattle.sl_due_facts.proofs.Jobs.CallsOfJobsFit.{list_all_inside}
use Rattle.sl_due_facts.proofs.Jobs.CallsStay.{IsLate, late}
use Rattle.sl_due_facts.proofs.Jobs.DecisionsFit.{DecisionFits}
use Rattle.sl_due_facts.proofs.Jobs.EffectsAreAllowed.{Allows, DecisionAllowed, DeltaAllowed, GrantAllowed, LeaseAllowed, ReadAllowed, RequestAllowed}
use Rattle.sl_due_facts.proofs.Jobs.LinesAreAllowed.{IsBegun, late_on_line}
use Rattle.sl_due_facts.proofs.Jobs.NearlyPlainActs.{AnyMove, AnyStart}
use Rattle.sl_due_facts.proofs.Jobs.RepliesComeAfter.{on_bool, on_option, request_late}
use Rattle.sl_due_facts.proofs.Jobs.SessionsStand.{joined_then}
use Rattle.sl_run.specs.Lawful.{Orderly}
use Rattle.sl_trace.specs.Leases.{spot_of}
use Rattle.sl_trace.specs.declared.lease.LeaseNext.{LeaseNext}
use Rattle.sl_trace.specs.declared.lease.LeaseNext.TheVariants.{AnswerJob, BecomeExclusive, BecomeShared, GrantJob, Nothing as No_lease, ReadFor, WriteBlock, WriteLeader}
use Rattle.sl_words.proofs.Lists.{contains_cases, contains_none, find_inside, kept}
use Rattle.sl_words.proofs.Numbers.{number_itself}
use Rattle.sl_words.proofs.Options.{some_there}
use Rattle.sl_sector.specs.Bitmaps.{no_bits}
use Rattle.sl_sector.specs.declared.sector.DeltaState.TheVariants.{Free, Live}
use Rattle.sl_due_facts.proofs.Sessions.NameEffects.{reply_joins_more}
use Rattle.sl_due_facts.proofs.Sessions.NamesGrow.{call_names, move_names, reply_names}
use Rattle.sl_due_facts.specs.Sessions.SessionLaws.{HasNameFacts}
use Rattle.sl_trace.specs.DeltaDecisions.{DeltaLease, delta_record, is_renewal_due, next_after_free, next_after_renewal, next_free, next_renewal}
use Rattle.sl_trace.specs.Sessions.{calls_of, is_active, is_call_of, is_join_call, is_joined, joined_after, last_renewal, leaving_job, recovery_of, refused_after, session_numbered}
use Rattle.sl_trace.specs.declared.delta.DeltaKnown.{DeltaKnown}
use Rattle.sl_trace.specs.declared.delta.DeltaNext.TheVariants.{Nothing, MoveConnection, WriteFree, WriteRenewal}
use Rattle.sl_trace.specs.declared.session.Session.{Session}
use Rattle.sl_due_facts.specs.Facts.HeardCall.{heard_by}
use Rattle.sl_due_facts.specs.Facts.AllFacts.{Whole}
use Rattle.sl_trace.specs.Traces.{Setting, Submitted, Trace, end_of, is_before_input, is_write, job_of, next_job, spot_of_grant, submitted}
use Rattle.sl_trace.specs.declared.command.Command.{Command}
use Rattle.sl_trace.specs.declared.command.Command.TheVariants.{Acquire, AddLockspace, Convert, GetLvb, HostStatus, InqLockspace, Release, ReleaseOrphan, RemLockspace, Request, RunProgram, SetKillpath, SetLvb, Status, TakeOver}
use Rattle.sl_trace.specs.declared.effects.JoinStep.{JoinStep}
use Rattle.sl_trace.specs.declared.effects.JoinStep.TheVariants.{FirstRead}
use Rattle.sl_trace.specs.declared.effects.LeaseStep.{LeaseStep}
use Rattle.sl_trace.specs.declared.effects.LeaseRead.TheVariants.{OfArea, OfBlock, OfFree, OfPhase1, OfPhase2}
use Rattle.sl_trace.specs.declared.effects.LeaseStep.TheVariants.{ClearMode, FreeLeader, Phase1Read, Phase1Write, Phase2Read, Phase2Write, ReadAgain, ReadArea, ReadBeforeBlock, ReadBeforeFree, SetMode, TakeLeader}
use Rattle.sl_trace.specs.declared.effects.Op.{Op}
use Rattle.sl_trace.specs.declared.effects.Purpose.{Purpose}
use Rattle.sl_trace.specs.declared.effects.Purpose.TheVariants.{Joining, Lease, Leaving, Renewal, RequestRead, RequestWrite, SeeRequest, Survey, ValueRead, ValueWrite}
use Rattle.sl_trace.specs.declared.effects.Spot.{Spot}
use Rattle.sl_trace.specs.declared.effects.Work.{Work}
use Rattle.sl_trace.specs.declared.effects.Work.TheVariants.{ForJob}
use Rattle.sl_trace.specs.declared.input.Answer.{Answer}
use Rattle.sl_trace.specs.declared.input.Answer.TheVariants.{Failed, Read, Written}
use Rattle.sl_trace.specs.declared.input.Input.TheVariants.{Line}
use Rattle.sl_trace.specs.declared.reply.Reply.{Reply}
use Rattle.sl_trace.specs.declared.reply.Reply.TheVariants.{Done, Granted, IoFault, Recovering}
use Rattle.sl_run_law.proofs.Leases.NumberLaws.{number_is_place}
use Rattle.sl_run_law.proofs.Sessions.WritesAreCovered.{joinings_are_in_turn}
use Rattle.sl_run_law.proofs.Sessions.MarksStay.{refused_apart}
use Rattle.sl_run_law.specs.Sessions.SessionLaws.{all_done, fits, fits_as, has_reply, is_in_turn}
use Rattle.sl_words.proofs.CaseLaws.{false_is_true, true_is_false}
use Rattle.sl_words.proofs.WordLaws.{and_true}
use Rattle.std.proofs.Common.{ap, inl, inr, refl, subst, sym, ◌∙◌}
use Rattle.std.specs.Prelude.{Bool, Contains, List, None, Option, Some, [], false, is_none, is_some, true, ℕ, ◌&&◌, ◌+◌, ◌==◌, ◌∷◌, ◌≡◌, ◌⊎◌}

-- ---- what an act allows

-- What stays from an act's beginning to its last call.
pub record Holds (x y : Step) : Type 0 where
  pub names : HasNameFacts y
  pub before : y.past ≡ x.past
  pub input : y.input ≡ x.input
  pub sessions : (s : Session) → Has x s → Has y s
  pub joined : (s : Session) → is_some (joined_after (seen x) s) ≡ true → is_some (joined_after (seen y) s) ≡ true

abbrev pub NameReply : Step → ℕ → Reply → Type 0
NameReply x j r = IsLate x r

abbrev pub NameCall : Step → Session → List ℕ → Purpose → ℕ → Op → Type 0
NameCall x s path p o op = Has x s × (is_some (joined_after (seen x) s) ≡ true) × (is_join_call FirstRead p ≡ false)

-- A joined session was not refused.
pub joined_unrefused : (t : Trace) (s : Session) → is_some (joined_after t s) ≡ true → refused_after t s ≡ None
joined_unrefused t s is = by (refused_after t s) refl where
  by : (o : Option ℕ) → refused_after t s ≡ o → refused_after t s ≡ None
  by None refused = refused
  by (Some k) refused = absurd (true_is_false (sym is ∙ ap (λ o. is_some o) (refused_apart t s k refused)))

late_there : (x y : Step) (r : Reply) → Holds x y → IsLate x r → IsLate y r
late_there x y r h may n a is = by (may n a (sym h.input ∙ is)) where
  by : (is_before_input r ≡ false) ⊎ ((m : Submitted) → Contains (submitted x.past) m → (m.call.number == n) ≡ true → job_of m.call.purpose ≡ None)
      → (is_before_input r ≡ false) ⊎ ((m : Submitted) → Contains (submitted y.past) m → (m.call.number == n) ≡ true → job_of m.call.purpose ≡ None)
  by (inl after) = inl after
  by (inr none) = inr (λ m there its. none m (subst (λ es. Contains (submitted es) m) h.before there) its)

joined_more : (y : Step) (j : ℕ) (r : Reply) (s : Session) → is_some (joined_after (seen y) s) ≡ true → is_some (joined_after (seen (add_reply j r y)) s) ≡ true
joined_more y j r s is =
    let was = some_there (joined_after (seen y) s) is in ap (λ o. is_some o) (reply_joins_more y j r s was.0 was.1)

pub names_allow : (x : Step) → Allows (Holds x) HasNameFacts (NameReply x) (NameCall x) AnyStart AnyMove
names_allow x =
    record {
      ends = λ y e h. record { names = record { apart = h.names.apart; begun = h.names.begun; done = h.names.done; waits = h.names.waits }; before = h.before; input = h.input; sessions = h.sessions; joined = h.joined };
      signals = λ y q signal h. record { names = record { apart = h.names.apart; begun = h.names.begun; done = h.names.done; waits = h.names.waits }; before = h.before; input = h.input; sessions = h.sessions; joined = h.joined };
      moves = λ y m may h. record { names = move_names (heard_by y.input) y m h.names; before = h.before; input = h.input; sessions = h.sessions; joined = h.joined };
      grants = λ y g h. record { names = record { apart = h.names.apart; begun = h.names.begun; done = h.names.done; waits = h.names.waits }; before = h.before; input = h.input; sessions = h.sessions; joined = h.joined };
      starts = λ y k may h. record { names = record { apart = h.names.apart; begun = h.names.begun; done = h.names.done; waits = h.names.waits }; before = h.before; input = h.input; sessions = h.sessions; joined = h.joined };
      replies = λ y j r may h. record {
        names = reply_names (heard_by y.input) y j r (late_there x y r h may) h.names;
        before = h.before;
        input = h.input;
        sessions = h.sessions;
        joined = λ s is. joined_more y j r s (h.joined s is);
      };
      calls = λ y s path p o op may h. call_names (heard_by y.input) y s path p o op (h.sessions s may.0) may.2 (joined_unrefused (seen y) s (h.joined s may.1)) h.names;
      rest = λ y h. h.names;
    }

pub begin_at : (x : Step) → HasNameFacts x → Holds x x
begin_at x h = record { names = h; before = refl; input = refl; sessions = λ s has. has; joined = λ s is. is }

-- ---- sessions that call

-- A call that is none of a joining is of a joined session.
pub caller_joined : (st : Setting) (t : Trace) (s : Session) (m : Submitted) → Orderly st t → session_numbered st t s.number ≡ Some s → Contains (calls_of t s) m → ((j : ℕ) (step : JoinStep) → m.call.purpose ≡ Joining j step → ⊥)
    → is_some (joined_after t s) ≡ true
caller_joined st t s m orderly has there other = by (joined_after t s) refl where
  in_list : (ms : List Submitted) → is_in_turn ms ≡ true → Contains ms m → fits m ≡ true
  in_list [] turn inside = absurd (contains_none m inside)
  in_list (k ∷ ms) turn inside =
      let both = and_true (fits k) (all_done ms) turn in
      elim (contains_cases k ms m inside) [ inl is ↦ ap (λ q. fits q) (sym is) ∙ both.0 | inr old ↦ (and_true (fits m) (has_reply m) (list_all_inside (λ z. fits z && has_reply z) ms m both.1 old)).0 ]

  no_fit : (p : Purpose) (w : Bool) → m.call.purpose ≡ p → fits_as p w ≡ true → ⊥
  no_fit (Joining j step) w is fit = other j step is
  no_fit Renewal w is fit = false_is_true fit
  no_fit Survey w is fit = false_is_true fit
  no_fit (Leaving j) w is fit = false_is_true fit
  no_fit (Lease work step) w is fit = false_is_true fit
  no_fit (RequestRead j) w is fit = false_is_true fit
  no_fit (RequestWrite j owner) w is fit = false_is_true fit
  no_fit SeeRequest w is fit = false_is_true fit
  no_fit (ValueWrite j) w is fit = false_is_true fit
  no_fit (ValueRead j) w is fit = false_is_true fit

  by : (o : Option ℕ) → joined_after t s ≡ o → is_some (joined_after t s) ≡ true
  by (Some k) is = ap (λ o. is_some o) is
  by None is = absurd (no_fit m.call.purpose (is_write m.call.op) refl (in_list (calls_of t s) (joinings_are_in_turn st t s orderly has is) there))

pub heard_mine : (x : Step) (s : Session) (m : Submitted) (answer : Answer) → Hears x s m answer → Contains (calls_of (seen x) s) m
heard_mine x s m answer hears =
    let found = find_inside (λ (z : Submitted). z.call.number == hears.number) (submitted (seen x)) m hears.call in
    let its : m.call.session ≡ s.number = sym (number_is_place x.setting (seen x) m.call.session s hears.session) in
    kept (is_call_of s) (submitted (seen x)) m (ap (λ n. n == s.number) its ∙ number_itself s.number) found.0

-- Whether it is a joining's.
abbrev pub is_joining : Purpose → Bool
is_joining (Joining j step) = true
is_joining p = false

pub heard_joined : (x : Step) (s : Session) (m : Submitted) (answer : Answer) (p : Purpose) → Whole x → Hears x s m answer → m.call.purpose ≡ p → is_joining p ≡ false → is_some (joined_after (seen x) s) ≡ true
heard_joined x s m answer p h hears is other =
    caller_joined x.setting (seen x) s m h.orderly (has_heard x s m answer hears) (heard_mine x s m answer hears) (λ j step joins. true_is_false (ap (λ q. is_joining q) (sym joins ∙ is) ∙ other))

pub active_joined : (st : Setting) (t : Trace) (s : Session) → is_active st t s ≡ true → is_some (joined_after t s) ≡ true
active_joined st t s is =
    joined_then t s (and_true (is_joined t s) (is_none (recovery_of st t s)) (and_true (is_joined t s && is_none (recovery_of st t s)) (is_none (leaving_job st t s)) is).0).0

-- ---- what is decided of a joined session

pub renewed_named : (x : Step) (s : Session) (recovering : Bool) (made : ℕ) (answer : Answer) → Has x s → is_some (joined_after (seen x) s) ≡ true → DeltaAllowed (NameReply x) (NameCall x) AnyMove x s (next_after_renewal recovering made answer)
renewed_named x s recovering made Written has joined = on_bool (DeltaAllowed (NameReply x) (NameCall x) AnyMove x s) recovering (MoveConnection made) Nothing (tt, (has, joined, refl)) tt
renewed_named x s recovering made Failed has joined = tt
renewed_named x s recovering made (Read bytes) has joined = tt

pub freed_named : (x : Step) (s : Session) (j call : ℕ) (answer : Answer) → DeltaAllowed (NameReply x) (NameCall x) AnyMove x s (next_after_free j call answer)
freed_named x s j call Written = (tt, late x Done refl)
freed_named x s j call Failed = (tt, late x (IoFault call) refl)
freed_named x s j call (Read bytes) = tt

pub renewal_named : (x : Step) (s : Session) (l : DeltaLease) (now : ℕ) (k : DeltaKnown) (bits : List ℕ) → Has x s → is_some (joined_after (seen x) s) ≡ true → DeltaAllowed (NameReply x) (NameCall x) AnyMove x s (next_renewal l now k bits)
unfolding next_renewal
renewal_named x s l now k bits has joined =
    on_bool (DeltaAllowed (NameReply x) (NameCall x) AnyMove x s) (is_renewal_due l now k) Nothing (WriteRenewal (delta_record l Live k.generation (k.seq + 1) now bits)) tt (has, joined, refl)

pub free_named : (x : Step) (s : Session) (l : DeltaLease) (now : ℕ) (k : DeltaKnown) → Has x s → is_some (joined_after (seen x) s) ≡ true → DeltaAllowed (NameReply x) (NameCall x) AnyMove x s (next_free l now k)
free_named x s l now k has joined =
    on_option (DeltaAllowed (NameReply x) (NameCall x) AnyMove x s) k.leaving Nothing (λ j. elim k.freed [ true ↦ Nothing | false ↦ WriteFree j (delta_record l Free k.generation (k.seq + 1) now no_bits) ]) tt
    (λ j. on_bool (DeltaAllowed (NameReply x) (NameCall x) AnyMove x s) k.freed (WriteFree j (delta_record l Free k.generation (k.seq + 1) now no_bits)) Nothing (has, joined, refl) tt)

-- Of a lease, whatever it decides, where its replies come late.
reads_named : (x y : Step) (s : Session) (at : Spot) (work : Work) (step : LeaseStep) → Has x s → is_some (joined_after (seen x) s) ≡ true → ReadAllowed (NameCall x) y s at work step
reads_named x y s at work (ReadArea name) has joined = (has, joined, refl)
reads_named x y s at work ReadBeforeFree has joined = (has, joined, refl)
reads_named x y s at work ReadBeforeBlock has joined = (has, joined, refl)
reads_named x y s at work (ReadAgain (OfArea name)) has joined = (has, joined, refl)
reads_named x y s at work (ReadAgain OfFree) has joined = (has, joined, refl)
reads_named x y s at work (ReadAgain OfBlock) has joined = (has, joined, refl)
reads_named x y s at work (ReadAgain OfPhase1) has joined = (has, joined, refl)
reads_named x y s at work (ReadAgain OfPhase2) has joined = (has, joined, refl)
reads_named x y s at work Phase1Write has joined = (has, joined, refl)
reads_named x y s at work Phase1Read has joined = (has, joined, refl)
reads_named x y s at work Phase2Write has joined = (has, joined, refl)
reads_named x y s at work Phase2Read has joined = (has, joined, refl)
reads_named x y s at work TakeLeader has joined = (has, joined, refl)
reads_named x y s at work SetMode has joined = (has, joined, refl)
reads_named x y s at work FreeLeader has joined = (has, joined, refl)
reads_named x y s at work ClearMode has joined = (has, joined, refl)

grant_named : (x : Step) (j lver : ℕ) (c : Command) → GrantAllowed (NameReply x) AnyStart j lver c
grant_named x j lver (Acquire r shared q persistent) = late x (Granted lver) refl
grant_named x j lver (TakeOver r shared q persistent) = late x (Granted lver) refl
grant_named x j lver (RunProgram r shared path) = tt
grant_named x j lver (Release r q) = tt
grant_named x j lver (ReleaseOrphan r) = tt
grant_named x j lver (Convert r shared q) = tt
grant_named x j lver (Request r n force) = tt
grant_named x j lver (GetLvb r q) = tt
grant_named x j lver (SetLvb r q bytes) = tt
grant_named x j lver (AddLockspace a) = tt
grant_named x j lver (RemLockspace a) = tt
grant_named x j lver (InqLockspace a) = tt
grant_named x j lver (HostStatus a) = tt
grant_named x j lver (SetKillpath q path) = tt
grant_named x j lver Status = tt

pub lease_named : (x y : Step) (s : Session) (at : Spot) (work : Work) (n : LeaseNext) → Has x s → is_some (joined_after (seen x) s) ≡ true → ((r : Reply) → n ≡ AnswerJob r → IsLate x r)
    → LeaseAllowed (NameReply x) (NameCall x) AnyStart y s at work n
lease_named x y s at work No_lease has joined after = tt
lease_named x y s at work (ReadFor step) has joined after = reads_named x y s at work step has joined
lease_named x y s at work (WriteBlock step b) has joined after = (has, joined, refl)
lease_named x y s at work (WriteLeader step l) has joined after = (has, joined, refl)
lease_named x y s at work (AnswerJob r) has joined after = λ j is. after r refl
lease_named x y s at work (GrantJob mode lver) has joined after = λ j c is reads_one. grant_named x j lver c
lease_named x y s at work (BecomeShared lver l) has joined after = ((λ j is. late x (Granted lver) refl), (has, joined, refl))
lease_named x y s at work (BecomeExclusive lver b) has joined after = ((λ j is. late x (Granted lver) refl), λ z same. (has, joined, refl))

pub request_named : (x : Step) (s : Session) (j : ℕ) (bytes : List ℕ) (c : Command) → Has x s → is_some (joined_after (seen x) s) ≡ true → RequestAllowed (NameReply x) (NameCall x) x s j bytes c
request_named x s j bytes (Request r asked force) has joined = ((λ why is. late x why (request_late x.setting.layout s.lockspace r asked force bytes why is)), (has, joined, refl))
request_named x s j bytes (AddLockspace a) has joined = tt
request_named x s j bytes (RemLockspace a) has joined = tt
request_named x s j bytes (InqLockspace a) has joined = tt
request_named x s j bytes (HostStatus a) has joined = tt
request_named x s j bytes (Acquire r shared p persistent) has joined = tt
request_named x s j bytes (TakeOver r shared p persistent) has joined = tt
request_named x s j bytes (Release r p) has joined = tt
request_named x s j bytes (ReleaseOrphan r) has joined = tt
request_named x s j bytes (Convert r shared p) has joined = tt
request_named x s j bytes (RunProgram r shared path) has joined = tt
request_named x s j bytes (GetLvb r p) has joined = tt
request_named x s j bytes (SetLvb r p other) has joined = tt
request_named x s j bytes (SetKillpath p path) has joined = tt
request_named x s j bytes Status has joined = tt

-- A command's decision is of an active session.
pub decision_named : (x : Step) (text : List ℕ) (c : Command) (d : Decision) → Of (Has (with_input (Line text) x)) d → DecisionFits x.setting (seen x) c d
    → IsBegun d ⊎ DecisionAllowed (Holds (with_input (Line text) x)) (NameReply (with_input (Line text) x)) (NameCall (with_input (Line text) x)) AnyStart (with_input (Line text) x) (next_job x.setting (seen x)) c d
decision_named x text c (Replies r) has f = inr tt
decision_named x text c (Joins n a) has f = inl tt
decision_named x text c (Leaves s) has f = inr (tt, λ z k i there. late_on_line x text (Recovering (last_renewal z.setting (seen z) s)))
decision_named x text c (ReadsArea s r) has f = inr (has, active_joined x.setting (seen x) s f.0, refl)
decision_named x text c (Shares s lver) has f = inr (grant_named (with_input (Line text) x) (next_job x.setting (seen x)) lver c)
decision_named x text c (GivesUp s g) has f =
    let w : Step = with_input (Line text) x in
    inr (
      late_on_line x text Done,
      lease_named w (add_end (end_of g) w) s (spot_of_grant g) (ForJob (next_job x.setting (seen x)))
          (next_of_release x.setting (seen (add_end (end_of g) w)) s (spot_of_grant g) g) has (active_joined x.setting (seen x) s f.0) (λ r is. late_on_line x text r),
    )
decision_named x text c (TakesOver s g) has f = inr (grant_named (with_input (Line text) x) (next_job x.setting (seen x)) g.lver c)
decision_named x text c (ConvertsTo s r mode) has f =
    let w : Step = with_input (Line text) x in
    inr (lease_named w w s (spot_of r) (ForJob (next_job x.setting (seen x))) (next_of_conversion x.setting (seen w) s (spot_of r) mode r.name) has (active_joined x.setting (seen x) s f.0) (λ q is. late_on_line x text q))
decision_named x text c (Requests s r) has f = inr (has, active_joined x.setting (seen x) s f.0, refl)
decision_named x text c (SetsValue s at v) has f = inr (has, active_joined x.setting (seen x) s f.0, refl)
decision_named x text c (GetsValue s at) has f = inr (has, active_joined x.setting (seen x) s f.0, refl)
