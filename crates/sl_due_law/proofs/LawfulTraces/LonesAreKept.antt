-- A first read is of a joining that runs, and a look at a request of a session that holds something, as long as the entry lasts: so such
-- sessions may call.
use Rattle.sl_due_facts.proofs.Acts.AddedAtEnd.{contains_last}
use Rattle.sl_due_facts.proofs.Acts.LoopsKeep.{for_each_keeps, when_keeps}
use Rattle.sl_due_facts.specs.Acts.Acts.{Acts, next_of_conversion, next_of_release, next_of_settling}
use Rattle.sl_area.specs.AreaLayout.{delta_offset, request_offset}
use Rattle.sl_due.specs.DueAnswers.{set_reply}
use Rattle.sl_due.specs.DueCommands.{answer_line, carry_decision}
use Rattle.sl_due.specs.CarriedDelta.{carry_delta, see_request}
use Rattle.sl_due.specs.DueTimeOuts.{remove_connection}
use Rattle.sl_due.specs.DueRecovery.{send, signal_holders}
use Rattle.sl_due.specs.DueInputs.{end_holdings, leave_holdings, started_reply}
use Rattle.sl_due.specs.CarriedLease.{next_of_lease}
use Rattle.sl_due.specs.DueRequests.{after_value_read, bits_due, value_reply}
use Rattle.sl_due.specs.Steps.{Step, add_call_of, add_end, add_move, add_signal, seen, with_input}
use Rattle.sl_due.specs.declared.decision.Decision.{Decision}
use Rattle.sl_due.specs.declared.decision.Decision.TheVariants.{ConvertsTo, GetsValue, GivesUp, Joins, Leaves, ReadsArea, Replies, Requests, SetsValue, Shares, TakesOver}
use Rattle.sl_due_law.specs.LawfulTraces.LoneCalls.{LoneCall, Lones, Looks_first, Plain_call, Sees_request, sees_request}
use Rattle.sl_due_facts.proofs.Jobs.EffectsAreAllowed.{Allows, DecisionAllowed, DeltaAllowed, LeaseAllowed, ReadAllowed, RequestAllowed, decision, delta, ended, exited, lease, left, refusal, removal_of_refused, requested, said, sent, stopped}
use Rattle.sl_due_facts.proofs.Jobs.JobsAreNumbered.{next_is_new}
use Rattle.sl_due_facts.proofs.Jobs.LinesAreAllowed.{IsBegun}
use Rattle.sl_due_facts.proofs.Jobs.NearlyPlainActs.{AnyMove, AnyStart, Anything, grant_plain}
use Rattle.sl_due_facts.proofs.Jobs.RepliesComeAfter.{IsLateDelta, joining_late, on_bool, on_option, wake_late}
use Rattle.sl_trace.specs.Jobs.{job_of_start}
use Rattle.sl_trace.specs.Leases.{exclusive_on, holdings_on, spot_of, spot_of_call}
use Rattle.sl_trace.specs.declared.lease.LeaseNext.{LeaseNext}
use Rattle.sl_trace.specs.declared.lease.LeaseNext.TheVariants.{AnswerJob, BecomeExclusive, BecomeShared, GrantJob, Nothing as No_lease, ReadFor, WriteBlock, WriteLeader}
use Rattle.sl_words.proofs.Lists.{contains_none, find_inside, kept_inside}
use Rattle.sl_words.proofs.Options.{some_of}
use Rattle.sl_sector.specs.Bitmaps.{no_bits}
use Rattle.sl_sector.specs.declared.sector.DeltaState.TheVariants.{Free, Live}
use Rattle.sl_sector.specs.declared.sector.Rec.TheVariants.{DeltaIs}
use Rattle.sl_trace.specs.DeltaDecisions.{DeltaLease, delta_known, delta_of_session, delta_record, is_renewal_due, next_after_free, next_after_renewal, next_free, next_in_joining, next_on_wake, next_renewal, own_offset}
use Rattle.sl_trace.specs.Sessions.{calls_of, generation_of, holders_of, holdings_of, is_join_call, recovery_of}
use Rattle.sl_trace.specs.declared.delta.DeltaKnown.{DeltaKnown}
use Rattle.sl_trace.specs.declared.delta.DeltaNext.{DeltaNext}
use Rattle.sl_trace.specs.declared.delta.DeltaNext.TheVariants.{Disconnect, EndLeaving, Join, MoveConnection, Nothing, ReadOwn, RefuseJoin, RegisterAndRead, WriteClaim, WriteFirst, WriteFree, WriteRenewal}
use Rattle.sl_trace.specs.declared.session.Session.{Session}
use Rattle.sl_due_facts.specs.Facts.HeardCall.{heard_by}
use Rattle.sl_due_facts.specs.Facts.AllFacts.{Whole}
use Rattle.sl_trace.specs.WatchdogConnections.{is_registered}
use Rattle.sl_trace.specs.Traces.{end_of, holdings, is_running, is_shared, job_numbered, line_in, next_call, next_job, same_place, spot_of_grant}
use Rattle.sl_trace.specs.declared.command.Command.{Command}
use Rattle.sl_trace.specs.declared.command.Command.TheVariants.{Acquire, AddLockspace, Convert, GetLvb, HostStatus, InqLockspace, Release, ReleaseOrphan, RemLockspace, Request, RunProgram, SetKillpath, SetLvb, Status, TakeOver}
use Rattle.sl_trace.specs.declared.effects.Call.{Call}
use Rattle.sl_trace.specs.declared.effects.Grant.{Grant}
use Rattle.sl_trace.specs.declared.effects.JoinStep.TheVariants.{FirstRead}
use Rattle.sl_trace.specs.declared.effects.LeaseStep.{LeaseStep}
use Rattle.sl_trace.specs.declared.effects.LeaseStep.TheVariants.{ClearMode, FreeLeader, Phase1Read, Phase1Write, Phase2Read, Phase2Write, ReadAgain, ReadArea, ReadBeforeBlock, ReadBeforeFree, SetMode, TakeLeader}
use Rattle.sl_trace.specs.declared.effects.Move.{Move}
use Rattle.sl_trace.specs.declared.effects.Move.TheVariants.{Unregister}
use Rattle.sl_trace.specs.declared.effects.Op.{Op}
use Rattle.sl_trace.specs.declared.effects.Op.TheVariants.{ReadSectors, WriteRecord}
use Rattle.sl_trace.specs.declared.effects.Purpose.{Purpose}
use Rattle.sl_trace.specs.declared.effects.Purpose.TheVariants.{Joining, Leaving, SeeRequest}
use Rattle.sl_trace.specs.declared.effects.Signal.{Signal}
use Rattle.sl_trace.specs.declared.effects.Signal.TheVariants.{Kill, Term}
use Rattle.sl_trace.specs.declared.effects.Spot.{Spot}
use Rattle.sl_trace.specs.declared.effects.Work.{Work}
use Rattle.sl_trace.specs.declared.effects.Work.TheVariants.{ForJob, Settling}
use Rattle.sl_trace.specs.declared.input.Answer.{Answer}
use Rattle.sl_trace.specs.declared.input.Answer.TheVariants.{Failed, Read, Written}
use Rattle.sl_trace.specs.declared.input.Input.TheVariants.{Answer as Told, Exit, Line, Number, Spawned, Wake}
use Rattle.sl_trace.specs.declared.reply.Reply.{Reply}
use Rattle.sl_trace.specs.declared.reply.Reply.TheVariants.{BadCommand as Misread, Done, IoFault, IoTimeout, SpawnFault}
use Rattle.sl_words.proofs.CaseLaws.{none_some, true_is_false}
use Rattle.sl_trace.specs.declared.effects.LeaseRead.TheVariants.{OfArea, OfBlock, OfFree, OfPhase1, OfPhase2}
use Rattle.std.proofs.Common.{ap, inl, inr, refl, subst, sym, ◌∙◌}
use Rattle.std.proofs.lemmas.Bool.{eqb-true}
use Rattle.std.specs.Prelude.{Bool, Contains, List, None, Option, Some, [], false, is_some, not, true, ℕ, ◌+◌, ◌==◌, ◌≡◌, ◌⊎◌}

-- ---- calls that are neither

abbrev NoLone : Session → List ℕ → Purpose → ℕ → Op → Type 0
NoLone s path p o op = (is_join_call FirstRead p ≡ false) × (sees_request p ≡ false)

abbrev is_joins : Decision → Bool
is_joins (Joins n a) = true
is_joins d = false

joining_plain : (y : Step) (s : Session) (n : DeltaNext) → IsLateDelta n → DeltaAllowed Anything NoLone AnyMove y s n
joining_plain y s Nothing k = tt
joining_plain y s (RefuseJoin r) k = λ j its. (tt, λ z is. tt)
joining_plain y s (ReadOwn step) k = λ j its. (k, refl)
joining_plain y s (RegisterAndRead step) k = λ j its. (tt, (k, refl))
joining_plain y s (WriteClaim d) k = λ j its. (refl, refl)
joining_plain y s Disconnect k = tt
joining_plain y s (WriteFirst d) k = λ j its. (refl, refl)
joining_plain y s (Join generation renewed) k = λ j its. (tt, tt, (refl, refl))
joining_plain y s (MoveConnection renewed) k = (tt, (refl, refl))
joining_plain y s (WriteRenewal d) k = (refl, refl)
joining_plain y s (WriteFree j d) k = absurd k
joining_plain y s (EndLeaving j r) k = absurd k

renewed_plain : (y : Step) (s : Session) (recovering : Bool) (made : ℕ) (answer : Answer) → DeltaAllowed Anything NoLone AnyMove y s (next_after_renewal recovering made answer)
renewed_plain y s recovering made Written = on_bool (DeltaAllowed Anything NoLone AnyMove y s) recovering (MoveConnection made) Nothing (tt, (refl, refl)) tt
renewed_plain y s recovering made Failed = tt
renewed_plain y s recovering made (Read bytes) = tt

freed_plain : (y : Step) (s : Session) (j call : ℕ) (answer : Answer) → DeltaAllowed Anything NoLone AnyMove y s (next_after_free j call answer)
freed_plain y s j call Written = (tt, tt)
freed_plain y s j call Failed = (tt, tt)
freed_plain y s j call (Read bytes) = tt

renewal_plain : (y : Step) (s : Session) (l : DeltaLease) (now : ℕ) (k : DeltaKnown) (bits : List ℕ) → DeltaAllowed Anything NoLone AnyMove y s (next_renewal l now k bits)
unfolding next_renewal
renewal_plain y s l now k bits =
    on_bool (DeltaAllowed Anything NoLone AnyMove y s) (is_renewal_due l now k) Nothing (WriteRenewal (delta_record l Live k.generation (k.seq + 1) now bits)) tt (refl, refl)

free_plain : (y : Step) (s : Session) (l : DeltaLease) (now : ℕ) (k : DeltaKnown) → DeltaAllowed Anything NoLone AnyMove y s (next_free l now k)
free_plain y s l now k =
    on_option (DeltaAllowed Anything NoLone AnyMove y s) k.leaving Nothing (λ j. elim k.freed [ true ↦ Nothing | false ↦ WriteFree j (delta_record l Free k.generation (k.seq + 1) now no_bits) ]) tt
    (λ j. on_bool (DeltaAllowed Anything NoLone AnyMove y s) k.freed (WriteFree j (delta_record l Free k.generation (k.seq + 1) now no_bits)) Nothing (refl, refl) tt)

reads_plain : (y : Step) (s : Session) (at : Spot) (work : Work) (step : LeaseStep) → ReadAllowed NoLone y s at work step
reads_plain y s at work (ReadArea name) = (refl, refl)
reads_plain y s at work ReadBeforeFree = (refl, refl)
reads_plain y s at work ReadBeforeBlock = (refl, refl)
reads_plain y s at work (ReadAgain (OfArea name)) = (refl, refl)
reads_plain y s at work (ReadAgain OfFree) = (refl, refl)
reads_plain y s at work (ReadAgain OfBlock) = (refl, refl)
reads_plain y s at work (ReadAgain OfPhase1) = (refl, refl)
reads_plain y s at work (ReadAgain OfPhase2) = (refl, refl)
reads_plain y s at work Phase1Write = (refl, refl)
reads_plain y s at work Phase1Read = (refl, refl)
reads_plain y s at work Phase2Write = (refl, refl)
reads_plain y s at work Phase2Read = (refl, refl)
reads_plain y s at work TakeLeader = (refl, refl)
reads_plain y s at work SetMode = (refl, refl)
reads_plain y s at work FreeLeader = (refl, refl)
reads_plain y s at work ClearMode = (refl, refl)

lease_plain : (y : Step) (s : Session) (at : Spot) (work : Work) (n : LeaseNext) → LeaseAllowed Anything NoLone AnyStart y s at work n
lease_plain y s at work No_lease = tt
lease_plain y s at work (ReadFor step) = reads_plain y s at work step
lease_plain y s at work (WriteBlock step b) = (refl, refl)
lease_plain y s at work (WriteLeader step l) = (refl, refl)
lease_plain y s at work (AnswerJob r) = λ j is. tt
lease_plain y s at work (GrantJob mode lver) = λ j c is reads. grant_plain j lver c
lease_plain y s at work (BecomeShared lver l) = ((λ j is. tt), (refl, refl))
lease_plain y s at work (BecomeExclusive lver b) = ((λ j is. tt), λ z same. (refl, refl))

request_plain : (x : Step) (s : Session) (j : ℕ) (bytes : List ℕ) (c : Command) → RequestAllowed Anything NoLone x s j bytes c
request_plain x s j bytes (Request r asked force) = ((λ why is. tt), (refl, refl))
request_plain x s j bytes (AddLockspace a) = tt
request_plain x s j bytes (RemLockspace a) = tt
request_plain x s j bytes (InqLockspace a) = tt
request_plain x s j bytes (HostStatus a) = tt
request_plain x s j bytes (Acquire r shared p persistent) = tt
request_plain x s j bytes (TakeOver r shared p persistent) = tt
request_plain x s j bytes (Release r p) = tt
request_plain x s j bytes (ReleaseOrphan r) = tt
request_plain x s j bytes (Convert r shared p) = tt
request_plain x s j bytes (RunProgram r shared path) = tt
request_plain x s j bytes (GetLvb r p) = tt
request_plain x s j bytes (SetLvb r p other) = tt
request_plain x s j bytes (SetKillpath p path) = tt
request_plain x s j bytes Status = tt

-- All decisions but one that begins a session.
decision_plain : (K : Step → Type 0) (y : Step) (j : ℕ) (c : Command) (d : Decision) → IsBegun d ⊎ ((is_joins d ≡ false) × DecisionAllowed K Anything NoLone AnyStart y j c d)
decision_plain K y j c (Replies r) = inr (refl, tt)
decision_plain K y j c (Joins n a) = inl tt
decision_plain K y j c (Leaves s) = inr (refl, (tt, λ z k i there. tt))
decision_plain K y j c (ReadsArea s r) = inr (refl, (refl, refl))
decision_plain K y j c (Shares s lver) = inr (refl, (grant_plain j lver c))
decision_plain K y j c (GivesUp s g) = inr (refl, (tt, lease_plain (add_end (end_of g) y) s (spot_of_grant g) (ForJob j) (next_of_release y.setting (seen (add_end (end_of g) y)) s (spot_of_grant g) g)))
decision_plain K y j c (TakesOver s g) = inr (refl, (grant_plain j g.lver c))
decision_plain K y j c (ConvertsTo s r mode) = inr (refl, (lease_plain y s (spot_of r) (ForJob j) (next_of_conversion y.setting (seen y) s (spot_of r) mode r.name)))
decision_plain K y j c (Requests s r) = inr (refl, (refl, refl))
decision_plain K y j c (SetsValue s at v) = inr (refl, (refl, refl))
decision_plain K y j c (GetsValue s at) = inr (refl, (refl, refl))

-- ---- an entry without any

abbrev AllPlain : Step → Type 0
AllPlain x = (c : Call) → Contains x.effects.calls c → (is_join_call FirstRead c.purpose ≡ false) × (sees_request c.purpose ≡ false)

plain_effects : Allows AllPlain AllPlain Anything NoLone AnyStart AnyMove
plain_effects =
    record {
      ends = λ y e h. h;
      signals = λ y q signal h. h;
      moves = λ y m may h. h;
      grants = λ y g h. h;
      starts = λ y k may h. h;
      replies = λ y j r may h. h;
      calls = λ y s path p o op may h c there. by y c p h may (contains_last y.effects.calls (record { number = next_call y.setting (seen y); session = s.number; purpose = p; path = path; offset = o; op = op }) c there);
      rest = λ y h. h;
    } where
      by : {d : Call} (y : Step) (c : Call) (p : Purpose) → AllPlain y → (is_join_call FirstRead d.purpose ≡ false) × (sees_request d.purpose ≡ false) → Contains y.effects.calls c ⊎ (d ≡ c) → (is_join_call FirstRead c.purpose ≡ false) × (sees_request c.purpose ≡ false)
      by y c p h may (inl old) = h c old
      by y c p h may (inr is) = subst (λ (z : Call). (is_join_call FirstRead z.purpose ≡ false) × (sees_request z.purpose ≡ false)) is may

bare_plain : (x : Step) → x.effects.calls ≡ [] → AllPlain x
bare_plain x bare c there = absurd (contains_none c (subst (λ cs. Contains cs c) bare there))

other_plain : (x : Step) → line_in x.input ≡ None → heard_by x.input ≡ None → Lones x → AllPlain x
other_plain x untyped untold h c there = by (h c there) where
  by : LoneCall x c → (is_join_call FirstRead c.purpose ≡ false) × (sees_request c.purpose ≡ false)
  by (Plain_call a b) = (a, b)
  by (Looks_first j is typed runs) = absurd (true_is_false (sym typed ∙ ap (λ o. is_some o) untyped))
  by (Sees_request g is told held its) = absurd (true_is_false (sym told ∙ ap (λ o. is_some o) untold))

lones_of : (y : Step) → AllPlain y → Lones y
lones_of y h c there = Plain_call (h c there).0 (h c there).1

-- ---- acts after which others of the entry may come

abbrev NoReply : ℕ → Reply → Type 0
NoReply j r = ⊥

signal_lones : (x : Step) (p : ℕ) (g : Signal) → Lones x → Lones (add_signal p g x)
signal_lones x p g h c there = by (h c there) where
  by : LoneCall x c → LoneCall (add_signal p g x) c
  by (Plain_call a b) = Plain_call a b
  by (Looks_first j is typed runs) = Looks_first j is typed runs
  by (Sees_request k is told held its) = Sees_request k is told held its

kills_lones : (x : Step) (s : Session) → Lones x → Lones (signal_holders Kill s x)
kills_lones x s h = for_each_keeps Lones (holders_of (seen x) s) (λ p. send p Kill) x (λ p there y k. signal_lones y p Kill k) h

move_lones : (x : Step) (m : Move) → Lones x → Lones (add_move m x)
move_lones x m h c there = by (h c there) where
  by : LoneCall x c → LoneCall (add_move m x) c
  by (Plain_call a b) = Plain_call a b
  by (Looks_first j is typed runs) = Looks_first j is typed runs
  by (Sees_request k is told held its) = Sees_request k is told held its

parts_lones : (x : Step) (name : List ℕ) → Lones x → Lones (remove_connection name x)
parts_lones x name h = when_keeps Lones (is_registered x.setting (seen x) name) (add_move (Unregister name)) x (λ is k. move_lones x (Unregister name) k) h

call_lones : (x : Step) (n : ℕ) (path : List ℕ) (p : Purpose) (o : ℕ) (op : Op) → LoneCall (add_call_of n path p o op x) (record { number = next_call x.setting (seen x); session = n; purpose = p; path = path; offset = o; op = op })
    → Lones x → Lones (add_call_of n path p o op x)
call_lones x n path p o op new h c there = by (contains_last x.effects.calls (record { number = next_call x.setting (seen x); session = n; purpose = p; path = path; offset = o; op = op }) c there) where
  again : LoneCall x c → LoneCall (add_call_of n path p o op x) c
  again (Plain_call a b) = Plain_call a b
  again (Looks_first j is typed runs) = Looks_first j is typed runs
  again (Sees_request k is told held its) = Sees_request k is told held its

  by : Contains x.effects.calls c ⊎ (record { number = next_call x.setting (seen x); session = n; purpose = p; path = path; offset = o; op = op } ≡ c) → LoneCall (add_call_of n path p o op x) c
  by (inl old) = again (h c old)
  by (inr is) = subst (λ d. LoneCall (add_call_of n path p o op x) d) is new

frees_lones : (x : Step) (s : Session) → Lones x → Lones (carry_delta s (next_free (delta_of_session x.setting s) x.reading (delta_known x.setting (seen x) s)) x)
unfolding carry_delta
frees_lones x s h = by (delta_known x.setting (seen x) s).leaving (delta_known x.setting (seen x) s).freed where
  by : (o : Option ℕ) (b : Bool)
      → Lones (carry_delta s (elim o as (λ z. DeltaNext) [ None ↦ Nothing | Some j ↦ elim b as (λ z. DeltaNext) [ true ↦ Nothing | false ↦ WriteFree j (delta_record (delta_of_session x.setting s) Free (delta_known x.setting (seen x) s).generation ((delta_known x.setting (seen x) s).seq + 1) x.reading no_bits) ] ]) x)
  by None b = h
  by (Some j) true = h
  by (Some j) false =
      call_lones x s.number s.path (Leaving j) (own_offset x.setting s) (WriteRecord (DeltaIs (delta_record (delta_of_session x.setting s) Free (delta_known x.setting (seen x) s).generation ((delta_known x.setting (seen x) s).seq + 1) x.reading no_bits)))
      (Plain_call refl refl) h

sees_lones : (x : Step) (s : Session) (at : Spot) (g : Grant) (n : ℕ) (bytes : List ℕ) → x.input ≡ Told n (Read bytes) → exclusive_on (seen x) s at ≡ Some g → Lones x → Lones (see_request s g x)
sees_lones x s at g n bytes input held h =
    let found = find_inside (λ (z : Grant). not (is_shared z.mode)) (holdings_on (seen x) s at) g held in
    let on = kept_inside (λ (z : Grant). same_place z.path z.offset at.path at.base) (holdings_of (seen x) s) g found.0 in
    let mine = kept_inside (λ (z : Grant). z.session == s.number) (holdings (seen x)) g on.0 in
    call_lones x s.number g.path SeeRequest (request_offset x.setting.layout g.offset) (ReadSectors 1)
    (Sees_request g refl (ap (λ i. is_some (heard_by i)) input) mine.0 (eqb-true g.session s.number mine.1)) h

-- ---- lines

carried_lones : (x : Step) (text : List ℕ) (c : Command) (d : Decision) → Whole x → x.input ≡ Wake → x.effects.calls ≡ [] → Lones (carry_decision (next_job x.setting (seen x)) c d (with_input (Line text) x))
unfolding carry_decision
carried_lones x text c d w wake bare = by (decision_plain AllPlain (with_input (Line text) x) (next_job x.setting (seen x)) c d) where
  runs : is_running (seen x) (next_job x.setting (seen x)) ≡ true
  runs = told (is_running (seen x) (next_job x.setting (seen x))) refl where
    told : (b : Bool) → is_running (seen x) (next_job x.setting (seen x)) ≡ b → b ≡ true
    told true is = refl
    told false is =
        let j = some_of (job_numbered x.setting (seen x) (next_job x.setting (seen x))) (w.facts.jobs.replied (next_job x.setting (seen x)) is) in absurd (none_some j.0 (sym (next_is_new x.setting (seen x)) ∙ j.1))

  begun : (z : Decision) → IsBegun z → Lones (carry_decision (next_job x.setting (seen x)) c z (with_input (Line text) x))
  begun (Joins n a) k =
      call_lones (with_input (Line text) x) n a.path (Joining (next_job x.setting (seen x)) FirstRead) (delta_offset x.setting.layout a.offset a.id) (ReadSectors 1)
      (Looks_first (next_job x.setting (seen x)) refl refl runs) (lones_of (with_input (Line text) x) (bare_plain (with_input (Line text) x) bare))
  begun (Leaves s) k = absurd k
  begun (Replies r) k = absurd k
  begun (ReadsArea s r) k = absurd k
  begun (Shares s lver) k = absurd k
  begun (GivesUp s g) k = absurd k
  begun (TakesOver s g) k = absurd k
  begun (ConvertsTo s r mode) k = absurd k
  begun (Requests s r) k = absurd k
  begun (SetsValue s spot v) k = absurd k
  begun (GetsValue s spot) k = absurd k

  by : IsBegun d ⊎ ((is_joins d ≡ false) × DecisionAllowed AllPlain Anything NoLone AnyStart (with_input (Line text) x) (next_job x.setting (seen x)) c d) → Lones (carry_decision (next_job x.setting (seen x)) c d (with_input (Line text) x))
  by (inl k) = begun d k
  by (inr may) =
      lones_of (carry_decision (next_job x.setting (seen x)) c d (with_input (Line text) x)) (decision AllPlain AllPlain Anything NoLone AnyStart AnyMove plain_effects (with_input (Line text) x) (next_job x.setting (seen x)) c d may.1
      (λ n a joins. absurd (true_is_false (sym (ap (λ z. is_joins z) joins) ∙ may.0))) (bare_plain (with_input (Line text) x) bare))

-- ---- all acts

pub lones_are_kept : Acts (λ x. Whole x × Lones x) Lones
unfolding after_value_read
lones_are_kept =
    record {
      kills = λ x s has due h. kills_lones x s h.1;
      hears = λ x number answer wake bare expected h. lones_of _ (bare_plain (with_input (Told number answer) x) bare);
      counts = λ x text wake bare h. lones_of _ (bare_plain (with_input (Number text) x) bare);
      exits_as_none = λ x n wake bare none h. lones_of _ (bare_plain (with_input (Exit n) x) bare);
      starts = λ x n ok wake bare expected h. lones_of _ (bare_plain (with_input (Spawned n ok) x) bare);
      misreads = λ x text column wake bare says h. lones_of _ (bare_plain (answer_line text (next_job x.setting (seen x)) (Misread column) x) bare);
      answers = λ x text c r wake bare says is h. lones_of _ (bare_plain (answer_line text (next_job x.setting (seen x)) r x) bare);
      carries = λ x text c d wake bare says is more h. carried_lones x text c d h.0 wake bare;
      sees = λ x s number bytes at g has input held h. sees_lones x s at g number bytes input held h.1;
      parts = λ x s has joined recovers_one free quiet h. parts_lones x s.lockspace h.1;
      frees = λ x s has joined well free quiet h. frees_lones x s h.1;
      times_out = λ x j m wake bare runs waits late_one h.
          lones_of _ (refusal AllPlain AllPlain Anything NoLone AnyStart AnyMove plain_effects x j (IoTimeout m.call.number m.reading x.reading) tt (λ z is. tt) (bare_plain x bare));
      exits = λ x n wake bare one h.
          let w : Step = with_input (Exit n) x in
          lones_of _ (exited AllPlain AllPlain Anything NoLone AnyStart AnyMove plain_effects (leave_holdings n w) n (λ j there. tt) (left AllPlain AllPlain Anything NoLone AnyStart AnyMove plain_effects w n (bare_plain (with_input (Exit n) x) bare)));
      fails_to_start = λ x n input h.
          lones_of _ (said AllPlain AllPlain Anything NoLone AnyStart AnyMove plain_effects (end_holdings n x) (job_of_start (seen x) n) SpawnFault (λ j is. tt) (ended AllPlain AllPlain Anything NoLone AnyStart AnyMove plain_effects x n (other_plain x (ap (λ i. line_in i) input) (ap (λ i. heard_by i) input) h.1)));
      signals_instead = λ x n o input stood h.
          lones_of _ (plain_effects.signals x o Term (other_plain x (ap (λ i. line_in i) input) (ap (λ i. heard_by i) input) h.1));
      says_started = λ x n j input is runs h.
          lones_of _ (plain_effects.replies x j (started_reply (seen x) n) tt (other_plain x (ap (λ i. line_in i) input) (ap (λ i. heard_by i) input) h.1));
      joins_on = λ x s j step m answer hears is runs h.
          lones_of _ (delta AllPlain AllPlain Anything NoLone AnyStart AnyMove plain_effects x s (next_in_joining (delta_of_session x.setting s) (generation_of (seen x) s) (calls_of (seen x) s) x.reading m step answer)
          (joining_plain x s (next_in_joining (delta_of_session x.setting s) (generation_of (seen x) s) (calls_of (seen x) s) x.reading m step answer)
          (joining_late (delta_of_session x.setting s) (generation_of (seen x) s) (calls_of (seen x) s) x.reading m step answer)) (bare_plain x hears.bare));
      ends_joining = λ x s j step m answer hears is stops h.
          lones_of _ (removal_of_refused AllPlain AllPlain Anything NoLone AnyStart AnyMove plain_effects x s tt (bare_plain x hears.bare));
      renewed = λ x s m answer hears is h.
          lones_of _ (delta AllPlain AllPlain Anything NoLone AnyStart AnyMove plain_effects x s (next_after_renewal (is_some (recovery_of x.setting (seen x) s)) m.reading answer)
          (renewed_plain x s (is_some (recovery_of x.setting (seen x) s)) m.reading answer) (bare_plain x hears.bare));
      freed = λ x s j m answer hears is h.
          lones_of _ (delta AllPlain AllPlain Anything NoLone AnyStart AnyMove plain_effects x s (next_after_free j m.call.number answer) (freed_plain x s j m.call.number answer) (bare_plain x hears.bare));
      shown = λ x s m bytes hears is joined begins h.
          lones_of _ (stopped AllPlain AllPlain Anything NoLone AnyStart AnyMove plain_effects tt x s None (λ z k j there. tt) (bare_plain x hears.bare));
      leads_on = λ x s work step m answer aim hears is on aims h.
          lones_of _ (lease AllPlain AllPlain Anything NoLone AnyStart AnyMove plain_effects x s (spot_of_call x.setting.layout m) work (next_of_lease x.setting (seen x) s (spot_of_call x.setting.layout m) aim m step answer)
          (lease_plain x s (spot_of_call x.setting.layout m) work (next_of_lease x.setting (seen x) s (spot_of_call x.setting.layout m) aim m step answer)) (bare_plain x hears.bare));
      fails = λ x s m j hears lone runs h.
          lones_of _ (plain_effects.replies x j (IoFault m.call.number) tt (bare_plain x hears.bare));
      has_asked = λ x s m j owner hears is runs h.
          lones_of _ (plain_effects.replies x j Done tt (bare_plain x hears.bare));
      has_set = λ x s m j hears is runs h.
          lones_of _ (plain_effects.replies x j (set_reply m) tt (bare_plain x hears.bare));
      asks = λ x s m j bytes c hears is runs reads_one h.
          lones_of _ (requested AllPlain AllPlain Anything NoLone AnyStart AnyMove plain_effects x s j bytes c (request_plain x s j bytes c) (bare_plain x hears.bare));
      tells = λ x s m j bytes hears is runs h.
          lones_of _ (plain_effects.replies x j (value_reply x.setting.layout bytes) tt (bare_plain x hears.bare));
      warns = λ x s m bytes g signal hears is held own says h.
          lones_of _ (sent AllPlain AllPlain Anything NoLone AnyStart AnyMove plain_effects tt x g.process signal (bare_plain x hears.bare));
      joins_in_time = λ x s j has wake is runs h.
          lones_of _ (delta AllPlain AllPlain Anything NoLone AnyStart AnyMove plain_effects x s (next_on_wake (delta_of_session x.setting s) x.reading (calls_of (seen x) s))
          (joining_plain x s (next_on_wake (delta_of_session x.setting s) x.reading (calls_of (seen x) s)) (wake_late (delta_of_session x.setting s) x.reading (calls_of (seen x) s))) (other_plain x (ap (λ i. line_in i) wake) (ap (λ i. heard_by i) wake) h.1));
      renews = λ x s has wake joined h.
          lones_of _ (delta AllPlain AllPlain Anything NoLone AnyStart AnyMove plain_effects x s (next_renewal (delta_of_session x.setting s) x.reading (delta_known x.setting (seen x) s) (bits_due x.setting (calls_of (seen x) s) x.reading))
          (renewal_plain x s (delta_of_session x.setting s) x.reading (delta_known x.setting (seen x) s) (bits_due x.setting (calls_of (seen x) s) x.reading)) (other_plain x (ap (λ i. line_in i) wake) (ap (λ i. heard_by i) wake) h.1));
      settles = λ x s spot has wake active whole none h.
          lones_of _ (lease AllPlain AllPlain Anything NoLone AnyStart AnyMove plain_effects x s spot Settling (next_of_settling x.setting (seen x) s spot)
          (lease_plain x s spot Settling (next_of_settling x.setting (seen x) s spot)) (other_plain x (ap (λ i. line_in i) wake) (ap (λ i. heard_by i) wake) h.1));
    }
