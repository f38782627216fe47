-- The session of each process that is granted a resource is active, so the grants are lawful.
use Rattle.sl_trace.specs.declared.effects.LeaseRead.TheVariants.{OfArea, OfFree}
use Rattle.sl_due_facts.proofs.Acts.ActsTogether.{both}
use Rattle.sl_due_facts.proofs.Acts.DecisionsAreTheirs.{Of}
use Rattle.sl_due_facts.proofs.Acts.LoopsKeep.{for_each_keeps}
use Rattle.sl_due_facts.proofs.Acts.PlainActs.{line_has}
use Rattle.sl_due_facts.specs.Acts.Acts.{Has, Hears}
use Rattle.sl_due_facts.specs.Acts.TraceSoFar.{entry_of}
use Rattle.sl_area.specs.AreaLayout.{block_place, leader_offset, request_offset}
use Rattle.sl_area.specs.AreaRecords.{block_record, leader_record}
use Rattle.sl_due.specs.DueCommands.{after_end, carry_decision}
use Rattle.sl_due.specs.DueRecovery.{begin_recoveries, send, signal_and_refuse}
use Rattle.sl_due.specs.DueTimeOuts.{remove_connection}
use Rattle.sl_due.specs.DueInputs.{leave_holdings, refuse_jobs_of}
use Rattle.sl_due.specs.CarriedLease.{carry_lease, convert_for, convert_holding, for_work, goes_on, grant_for, grant_of, name_on, next_of_lease, next_turn, with_command}
use Rattle.sl_due.specs.Steps.{Step, add_call_at, add_end, add_move, add_reply, begin_step, seen, when, with_input, with_some}
use Rattle.sl_due.specs.declared.decision.Decision.{Decision}
use Rattle.sl_due.specs.declared.decision.Decision.TheVariants.{ConvertsTo, GetsValue, GivesUp, Joins, Leaves, ReadsArea, Replies, Requests, SetsValue, Shares, TakesOver}
use Rattle.sl_due_facts.proofs.Jobs.LessIsKept.{to_less}
use Rattle.sl_due_leases.proofs.Grants.DeltasKeep.{free_keeps}
use Rattle.sl_due_leases.proofs.Grants.EndsAreLawful.{last_or}
use Rattle.sl_due_leases.proofs.Grants.GrantlessLines.{converting_grants, released_grants}
use Rattle.sl_due_leases.proofs.Grants.GrantsStand.{grants_are_lawful}
use Rattle.sl_due_leases.proofs.Grants.NothingGranted.{GrantingActs, by_granting, none_begin, stopped_grants}
use Rattle.sl_due_leases.proofs.Grants.OrphansAreLawful.{left_orphans, orphans_are_lawful, orphans_begin}
use Rattle.sl_due_leases.specs.Grants.GrantLaws.{ActiveSoFar, ActivesAreKept, ActivesBegin, GrantingBegins, GrantingIsLawful, GrantingSoFar, OrphansSoFar}
use Rattle.sl_due_leases.proofs.Holdings.DecisionsHaveGrounds.{decisions_have_grounds}
use Rattle.sl_due_leases.proofs.Holdings.HoldingFactsAreKept.{holding_facts_are_kept}
use Rattle.sl_due_leases.proofs.Holdings.HoldingFactsBegin.{holding_facts_begin}
use Rattle.sl_due_leases.proofs.Holdings.HoldingsByLines.{active_joined}
use Rattle.sl_due_leases.proofs.Holdings.LeaseConversions.{converted, otherwise}
use Rattle.sl_due_leases.proofs.Holdings.MomentsAreKept.{same}
use Rattle.sl_due_leases.specs.Holdings.DecisionGrounds.{AsksLease, HasGrounds}
use Rattle.sl_due_leases.specs.Holdings.Moments.{Known}
use Rattle.sl_due_leases.specs.Holdings.HoldingLaws.{HasHoldingFacts}
use Rattle.sl_due_facts.proofs.Jobs.QuietLines.{active_parts}
use Rattle.sl_due_facts.proofs.Jobs.SessionsArePresent.{joined_present, present_inside}
use Rattle.sl_run.specs.LawfulArea.{is_area_work}
use Rattle.sl_due_leases.proofs.Leases.LawsStay.{joined_more, moves_carry, three}
use Rattle.sl_due_leases.proofs.Leases.TurnsStay.{replied_active, turned_by}
use Rattle.sl_due_leases.proofs.Leases.WorkIsActive.{work_is_active}
use Rattle.sl_due_leases.proofs.Ways.WayFactsHeld.EffectsLeave.{made_call, there_has}
use Rattle.sl_due_leases.proofs.Ways.WayFactsHeld.HeardStands.{heard_has}
use Rattle.sl_trace.specs.Jobs.{command_numbered}
use Rattle.sl_trace.specs.Leases.{spot_of, spot_of_call}
use Rattle.sl_trace.specs.declared.lease.LeaseNext.{LeaseNext}
use Rattle.sl_trace.specs.declared.lease.LeaseNext.TheVariants.{AnswerJob, BecomeExclusive, BecomeShared, GrantJob, Nothing, ReadFor, WriteBlock, WriteLeader}
use Rattle.sl_due_facts.proofs.AddedEffects.CallsGrow.{same_sessions}
use Rattle.sl_due_facts.specs.AddedEffects.OneMoreEffect.{with_reply}
use Rattle.sl_words.proofs.Lists.{contains_none}
use Rattle.sl_sector.specs.declared.sector.Rec.TheVariants.{DeltaIs}
use Rattle.sl_trace.specs.DeltaDecisions.{own_offset}
use Rattle.sl_trace.specs.Sessions.{holders_of, is_active, is_join_call, is_joined, joined_after, leaves, leaving_job, recovery_of, removed_after, session_numbered, sessions}
use Rattle.sl_trace.specs.declared.session.Session.{Session}
use Rattle.sl_trace.specs.WatchdogConnections.{is_registered, unregisters}
use Rattle.sl_trace.specs.Traces.{Job, Setting, Submitted, Trace, end_of, holdings, is_orphan, job_of, leaves_orphan, next_child, next_job, orphan_of, spot_of_grant, work_job}
use Rattle.sl_trace.specs.declared.command.Command.{Command}
use Rattle.sl_trace.specs.declared.command.Command.TheVariants.{Acquire, AddLockspace, Convert, GetLvb, HostStatus, InqLockspace, Release, ReleaseOrphan, RemLockspace, Request, RunProgram, SetKillpath, SetLvb, Status, TakeOver}
use Rattle.sl_trace.specs.declared.command.ResourceArg.{ResourceArg}
use Rattle.sl_trace.specs.declared.effects.Entry.{Entry}
use Rattle.sl_trace.specs.declared.effects.Grant.{Grant}
use Rattle.sl_trace.specs.declared.effects.JobReply.{JobReply}
use Rattle.sl_trace.specs.declared.effects.JoinStep.TheVariants.{FirstRead}
use Rattle.sl_trace.specs.declared.effects.LeaseStep.TheVariants.{ClearMode, FreeLeader, ReadAgain, ReadArea, ReadBeforeFree}
use Rattle.sl_trace.specs.declared.effects.Mode.{Mode}
use Rattle.sl_trace.specs.declared.effects.Mode.TheVariants.{Exclusive, Shared}
use Rattle.sl_trace.specs.declared.effects.Move.TheVariants.{Unregister}
use Rattle.sl_trace.specs.declared.effects.Op.{Op}
use Rattle.sl_trace.specs.declared.effects.Op.TheVariants.{ReadSectors, WriteRecord}
use Rattle.sl_trace.specs.declared.effects.Purpose.{Purpose}
use Rattle.sl_trace.specs.declared.effects.Purpose.TheVariants.{Lease, Leaving, SeeRequest}
use Rattle.sl_trace.specs.declared.effects.Signal.TheVariants.{Kill}
use Rattle.sl_trace.specs.declared.effects.Spot.{Spot}
use Rattle.sl_trace.specs.declared.effects.Work.{Work}
use Rattle.sl_trace.specs.declared.effects.Work.TheVariants.{ForJob, Settling}
use Rattle.sl_trace.specs.declared.input.Answer.{Answer}
use Rattle.sl_trace.specs.declared.input.Input.{Input}
use Rattle.sl_trace.specs.declared.input.Input.TheVariants.{Exit, Line, Wake}
use Rattle.sl_trace.specs.declared.reply.Reply.{Reply}
use Rattle.sl_trace.specs.declared.reply.Reply.TheVariants.{Granted}
use Rattle.sl_words.proofs.CaseLaws.{is_false, one_value, true_is_false}
use Rattle.sl_words.specs.Words.{choose}
use Rattle.std.proofs.Common.{ap, inl, inr, refl, subst, sym, ◌∙◌}
use Rattle.std.proofs.lemmas.Slice.Eq.{bytes_eq-Decides}
use Rattle.std.specs.List.{list_any}
use Rattle.std.specs.Prelude.{Bool, Contains, List, None, Ok, Option, Some, [], bytes_eq, false, is_none, is_some, length, not, slice_get, true, ℕ, ◌&&◌, ◌++◌, ◌==◌, ◌∷◌, ◌≡◌, ◌⊎◌}

-- ---- none, or of one session

none_active : (z : Step) → z.effects.grants ≡ [] → ActiveSoFar z
none_active z none g s there is own = absurd (contains_none g (subst (λ gs. Contains gs g) none there))

so_far : (x : Step) → Known x → ActiveSoFar x
so_far x k g s there is own = (k.0.orderly.granting.0.each g s there is).active own

one_active : (w : Step) (old : List Grant) (g : Grant) (s : Session) → old ≡ [] → w.effects.grants ≡ old ++ g ∷ [] → session_numbered w.setting (seen w) g.session ≡ Some s → is_active w.setting (seen w) s ≡ true → ActiveSoFar w
one_active w old g s none grants its active h z there is own = by (last_or old g h (subst (λ gs. Contains gs h) grants there)) where
  by : Contains old h ⊎ (g ≡ h) → is_active w.setting (seen w) z ≡ true
  by (inl was) = absurd (contains_none h (subst (λ gs. Contains gs h) none was))
  by (inr same) =
      subst (λ k. is_active w.setting (seen w) k ≡ true)
      (one_value s z (session_numbered w.setting (seen w) g.session) its (subst (λ (k : Grant). session_numbered w.setting (seen w) k.session ≡ Some z) (sym same) is)) active

-- ---- later effects

call_active : (x : Step) (s : Session) (path : List ℕ) (p : Purpose) (o : ℕ) (op : Op) → is_join_call FirstRead p ≡ false → ActiveSoFar x → ActiveSoFar (add_call_at s path p o op x)
call_active x s path p o op later h g z there is own =
    h g z there (ap (λ ss. slice_get ss g.session) (sym (same_sessions x.setting (entry_of x) x.past (made_call x s.number path p o op) later)) ∙ is) own

-- The removal of a session in recovery leaves the others active: names of present sessions are apart.
pub parted_active : (x : Step) (s : Session) → Has x s → is_joined (seen x) s ≡ true → is_some (recovery_of x.setting (seen x) s) ≡ true → Known x → (z : Session) → Contains (sessions x.setting (seen x)) z
    → is_active x.setting (seen x) z ≡ true → is_active x.setting (seen (add_move (Unregister s.lockspace) x)) z ≡ true
parted_active x s has joined recovers k z there active = (moves_carry x.setting (entry_of x) x.past (Unregister s.lockspace) z apart).active active where
  apart : unregisters z.lockspace (Unregister s.lockspace) ≡ false
  apart = is_false (bytes_eq s.lockspace z.lockspace) (λ is.
      let same : s ≡ z =
      k.0.facts.names.apart s z (present_inside x.setting (seen x) s (there_has x.setting (seen x) s.number s has) (joined_present (seen x) s joined))
      (present_inside x.setting (seen x) z there (joined_present (seen x) z (active_joined x.setting (seen x) z active))) ((bytes_eq-Decides s.lockspace z.lockspace).0 is)
      in
      true_is_false (sym recovers ∙ ap (λ o. is_some o) (subst (λ y. recovery_of x.setting (seen x) y ≡ None) (sym same) (active_parts x.setting (seen x) z active).0)))

removed_active : (x : Step) (s : Session) → Has x s → is_joined (seen x) s ≡ true → is_some (recovery_of x.setting (seen x) s) ≡ true → Known x → ActiveSoFar (remove_connection s.lockspace x)
removed_active x s has joined recovers k = by (is_registered x.setting (seen x) s.lockspace) where
  by : (b : Bool) → ActiveSoFar (when b (add_move (Unregister s.lockspace)) x)
  by false = so_far x k
  by true = λ g z there is own. parted_active x s has joined recovers k z (there_has x.setting (seen x) g.session z is) (so_far x k g z there is own)

-- ---- what is granted

-- The session stays active as its job is answered.
abbrev pub StaysActive : Step → Session → Type 0
StaysActive x s = (j : ℕ) (r : Reply) → is_active x.setting (seen (add_reply j r x)) s ≡ true

granted_active : (x : Step) (s : Session) (j : ℕ) (c : Command) (mode : Mode) (lver : ℕ) → Has x s → x.effects.grants ≡ [] → is_active x.setting (seen x) s ≡ true → StaysActive x s → ActiveSoFar (grant_for s j c mode lver x)
granted_active x s j (Acquire r shared p persistent) mode lver has none active stays =
    one_active (grant_for s j (Acquire r shared p persistent) mode lver x) x.effects.grants (grant_of s r p mode lver persistent) s none refl has (stays j (Granted lver))
granted_active x s j (TakeOver r shared p persistent) mode lver has none active stays =
    one_active (grant_for s j (TakeOver r shared p persistent) mode lver x) x.effects.grants (grant_of s r p mode lver persistent) s none refl has (stays j (Granted lver))
granted_active x s j (RunProgram r shared path) mode lver has none active stays =
    one_active (grant_for s j (RunProgram r shared path) mode lver x) x.effects.grants (grant_of s r (next_child (seen x)) mode lver false) s none refl has active
granted_active x s j (AddLockspace a) mode lver has none active stays = none_active x none
granted_active x s j (RemLockspace a) mode lver has none active stays = none_active x none
granted_active x s j (InqLockspace a) mode lver has none active stays = none_active x none
granted_active x s j (HostStatus a) mode lver has none active stays = none_active x none
granted_active x s j (Release r p) mode lver has none active stays = none_active x none
granted_active x s j (ReleaseOrphan r) mode lver has none active stays = none_active x none
granted_active x s j (Convert r shared p) mode lver has none active stays = none_active x none
granted_active x s j (Request r v how) mode lver has none active stays = none_active x none
granted_active x s j (GetLvb r p) mode lver has none active stays = none_active x none
granted_active x s j (SetLvb r p bytes) mode lver has none active stays = none_active x none
granted_active x s j (SetKillpath p path) mode lver has none active stays = none_active x none
granted_active x s j Status mode lver has none active stays = none_active x none

became_active : (x : Step) (s : Session) (at : Spot) (j : ℕ) (mode : Mode) (lver : ℕ) → Has x s → x.effects.grants ≡ [] → StaysActive x s → ActiveSoFar (for_work (ForJob j) (λ k. with_command k (λ c. convert_for s at k c mode lver)) x)
became_active x s at j mode lver has none stays =
    turned_by ActiveSoFar x s at j mode lver
    (λ c p g command process found.
    one_active (convert_holding j mode lver g x) x.effects.grants (converted g mode lver) s none refl
    (subst (λ n. session_numbered x.setting (seen x) n ≡ Some s) (sym (otherwise x s at p mode g found).1) has) (stays j (Granted lver)))
    (λ no. none_active x none)

led_active : (x : Step) (s : Session) (at : Spot) (work : Work) (n : LeaseNext) → Has x s → x.effects.grants ≡ [] → ((j : ℕ) → work ≡ ForJob j → is_active x.setting (seen x) s ≡ true) → (is_active x.setting (seen x) s ≡ true → StaysActive x s)
    → ActiveSoFar (carry_lease s at work n x)
unfolding carry_lease
led_active x s at work Nothing has none active stays = none_active x none
led_active x s at work (ReadFor (ReadArea name)) has none active stays = none_active (carry_lease s at work (ReadFor (ReadArea name)) x) none
led_active x s at work (ReadFor ReadBeforeFree) has none active stays = none_active (carry_lease s at work (ReadFor ReadBeforeFree) x) none
led_active x s at work (ReadFor (ReadAgain (OfArea name))) has none active stays = none_active (carry_lease s at work (ReadFor (ReadAgain (OfArea name))) x) none
led_active x s at work (ReadFor (ReadAgain OfFree)) has none active stays = none_active (carry_lease s at work (ReadFor (ReadAgain OfFree)) x) none
led_active x s at work (ReadFor step) has none active stays = none_active (carry_lease s at work (ReadFor step) x) none
led_active x s at work (WriteBlock step b) has none active stays = none_active (carry_lease s at work (WriteBlock step b) x) none
led_active x s at work (WriteLeader step l) has none active stays = none_active (carry_lease s at work (WriteLeader step l) x) none
led_active x s at Settling (AnswerJob r) has none active stays = none_active x none
led_active x s at (ForJob j) (AnswerJob r) has none active stays = none_active (add_reply j r x) none
led_active x s at Settling (GrantJob mode lver) has none active stays = none_active x none
led_active x s at (ForJob j) (GrantJob mode lver) has none active stays = by (command_numbered x.setting (seen x) j) where
  by : (o : Option Command) → ActiveSoFar (with_some o (λ c. grant_for s j c mode lver) x)
  by None = none_active x none
  by (Some c) = granted_active x s j c mode lver has none (active j refl) (stays (active j refl))
led_active x s at Settling (BecomeShared lver l) has none active stays = none_active (carry_lease s at Settling (BecomeShared lver l) x) none
led_active x s at (ForJob j) (BecomeShared lver l) has none active stays =
    let z : Step = for_work (ForJob j) (λ k. with_command k (λ c. convert_for s at k c Shared lver)) x in
    call_active z s at.path (Lease Settling FreeLeader) (leader_offset at.base) (WriteRecord (leader_record z.setting.layout l)) refl (became_active x s at j Shared lver has none (stays (active j refl)))
led_active x s at Settling (BecomeExclusive lver b) has none active stays = none_active (carry_lease s at Settling (BecomeExclusive lver b) x) none
led_active x s at (ForJob j) (BecomeExclusive lver b) has none active stays =
    let z : Step = for_work (ForJob j) (λ k. with_command k (λ c. convert_for s at k c Exclusive lver)) x in
    call_active z s at.path (Lease Settling ClearMode) (block_place z.setting.layout at.base s.id (next_turn z.setting (seen z) s at))
    (WriteRecord (block_record z.setting.layout (next_turn z.setting (seen z) s at) s.lockspace (name_on z.setting (seen z) s at) b)) refl (became_active x s at j Exclusive lver has none (stays (active j refl)))

-- ---- a line

abbrev with_i : Input → Entry → Entry
with_i i e = record e { input = i }

-- A session stays active as a line is seen that doesn't leave it, and as its job is answered.
lined_active : (st : Setting) (past : Trace) (s : Session) (e : Entry) (text : List ℕ) → leaves s (st.read text) ≡ false → is_active st (with_i Wake e ∷ past) s ≡ true → is_active st (with_i (Line text) e ∷ past) s ≡ true
lined_active st past s e text none is =
    ap (λ b. is_some (joined_after (with_i Wake e ∷ past) s) && is_none (removed_after (with_i Wake e ∷ past) s) && is_none (recovery_of st (with_i Wake e ∷ past) s)
    && is_none (elim (leaving_job st past s) as (λ z. Option Job) [
      | Some j ↦ Some j
      | None ↦ elim b as (λ z. Option Job) [
        | false ↦ None
        | true ↦ choose (is_joined past s && not (list_any (λ (a : JobReply). a.job == next_job st past) e.effects.replies)) (record { number = next_job st past; at = length past; reading = e.reading; command = st.read text })
      ]
    ])) none ∙ is

-- With one more reply.
answered_active : (st : Setting) (past : Trace) (s : Session) (e : Entry) (a : JobReply) → is_active st (with_i Wake e ∷ past) s ≡ true → is_active st (with_i Wake (with_reply a e) ∷ past) s ≡ true
answered_active st past s e a is =
    three (is_some (joined_after (with_i Wake e ∷ past) s)) (is_some (joined_after (with_i Wake (with_reply a e) ∷ past) s)) (is_none (removed_after (with_i Wake e ∷ past) s)) (is_none (recovery_of st (with_i Wake e ∷ past) s)) (is_none (leaving_job st (with_i Wake e ∷ past) s))
    (joined_more (with_i Wake e) past a s) is

stays_lined : (x : Step) (text : List ℕ) (s : Session) → x.input ≡ Wake → leaves s (x.setting.read text) ≡ false → is_active x.setting (seen x) s ≡ true
    → (is_active x.setting (seen (with_input (Line text) x)) s ≡ true) × StaysActive (with_input (Line text) x) s
stays_lined x text s wake none active =
    let woken : is_active x.setting (with_i Wake (entry_of x) ∷ x.past) s ≡ true = subst (λ i. is_active x.setting (with_i i (entry_of x) ∷ x.past) s ≡ true) wake active in (
      lined_active x.setting x.past s (entry_of x) text none woken,
      λ j r. lined_active x.setting x.past s (with_reply (record { job = j; reply = r }) (entry_of x)) text none (answered_active x.setting x.past s (entry_of x) (record { job = j; reply = r }) woken),
    )

unleft : (s : Session) (c : Command) (r : ResourceArg) → AsksLease c r → leaves s (Ok c) ≡ false
unleft s c r (inl a) = ap (λ k. leaves s (Ok k)) a.3
unleft s c r (inr a) = ap (λ k. leaves s (Ok k)) a.2

lines_active : (x : Step) (text : List ℕ) (c : Command) (j : ℕ) (d : Decision) → Known x → x.input ≡ Wake → x.effects.calls ≡ [] → x.setting.read text ≡ Ok c → HasGrounds x.setting (seen x) c d
    → Of (Has (with_input (Line text) x)) d → ActiveSoFar (carry_decision j c d (with_input (Line text) x))
unfolding carry_decision
lines_active x text c j d k wake bare says = by d where
  y : Step
  y = with_input (Line text) x

  none : y.effects.grants ≡ []
  none = (k.1.waking wake).1

  by : (d : Decision) → HasGrounds x.setting (seen x) c d → Of (Has y) d → ActiveSoFar (carry_decision j c d y)
  by (Replies r) grounds has = none_active y none
  by (Joins n a) grounds has = none_active (carry_decision j c (Joins n a) y) none
  by (Leaves s) grounds has = none_active (signal_and_refuse s (Some j) y) (stopped_grants y s (Some j) ∙ none)
  by (ReadsArea s r) grounds has = none_active (carry_decision j c (ReadsArea s r) y) none
  by (Shares s lver) grounds has =
      let a = stays_lined x text s wake (ap (λ q. leaves s q) says ∙ unleft s c grounds.resource grounds.acquires.asks) grounds.acquires.ready.active in
      granted_active y s j c Shared lver has none a.0 a.1
  by (GivesUp s e) grounds has = none_active (after_end s (spot_of_grant e) j e (add_end (end_of e) y)) (released_grants (add_end (end_of e) y) j s e ∙ none)
  by (TakesOver s e) grounds has =
      let a = stays_lined x text s wake (ap (λ q. leaves s q) says ∙ ap (λ q. leaves s (Ok q)) grounds.command) grounds.ready.active in
      granted_active (add_end (end_of e) y) s j c e.mode e.lver has none a.0 a.1
  by (ConvertsTo s r mode) grounds has = none_active (carry_decision j c (ConvertsTo s r mode) y) (converting_grants y s (spot_of r) j mode r.name ∙ none)
  by (Requests s r) grounds has = none_active (carry_decision j c (Requests s r) y) none
  by (SetsValue s spot v) grounds has = none_active (carry_decision j c (SetsValue s spot v) y) none
  by (GetsValue s spot) grounds has = none_active (carry_decision j c (GetsValue s spot) y) none

-- ---- the whole

exited_active : (y : Step) (p : ℕ) → y.effects.grants ≡ [] → ActiveSoFar (refuse_jobs_of p (leave_holdings p y))
exited_active y p none g s there is own = by ((left_orphans y p).grants g there) where
  u : Step
  u = refuse_jobs_of p (leave_holdings p y)

  by : Contains y.effects.grants g ⊎ ((l : Grant) × Contains (holdings (seen y)) l × (leaves_orphan (holdings (seen y)) p l ≡ true) × (orphan_of l ≡ g)) → is_active u.setting (seen u) s ≡ true
  by (inl was) = absurd (contains_none g (subst (λ gs. Contains gs g) none was))
  by (inr f) = absurd (true_is_false (ap (λ (k : Grant). is_orphan k) f.3 ∙ own))

pub told_active : (x : Step) (s : Session) (m : Submitted) (answer : Answer) → (h : Hears x s m answer) → is_active x.setting (seen x) s ≡ true → StaysActive x s
told_active x s m answer h active j r = replied_active x.setting (entry_of x) x.past (record { job = j; reply = r }) s h.number answer h.heard active

pub actives_are_kept : ActivesAreKept
actives_are_kept = by_granting ActiveSoFar none_active actives where
  actives : GrantingActs ActiveSoFar
  actives =
      record {
        kills = λ x s has due k. for_each_keeps ActiveSoFar (holders_of (seen x) s) (λ p. send p Kill) x (λ p there z h. h) (so_far x k);
        exits = λ x p wake bare one k. exited_active (with_input (Exit p) x) p (k.1.waking wake).1;
        carries = λ x text c d wake bare says is more k.
            lines_active x text c (next_job x.setting (seen x)) d k wake bare says (subst (λ z. HasGrounds x.setting (seen x) c z) is (decisions_have_grounds x.setting (seen x) x.reading c))
            (subst (λ z. Of (Has (with_input (Line text) x)) z) is (line_has x text c bare));
        sees = λ x s number bytes at g has input held k. call_active x s g.path SeeRequest (request_offset x.setting.layout g.offset) (ReadSectors 1) refl (so_far x k);
        leads_on = λ x s work step m answer aim hears is on at k.
            led_active x s (spot_of_call x.setting.layout m) work (next_of_lease x.setting (seen x) s (spot_of_call x.setting.layout m) aim m step answer) (heard_has x s m answer hears) hears.ungranted
            (λ j job. (work_is_active x k.0).each s m answer j hears (ap (λ p. is_area_work p) is) (ap (λ p. job_of p) is ∙ ap (λ w. work_job w) job) (subst (λ w. goes_on x.setting (seen x) s w ≡ true) job on)) (told_active x s m answer hears);
        parts = λ x s has joined recovers free quiet k. removed_active x s has joined recovers k;
        frees = λ x s has joined well free quiet k.
            free_keeps ActiveSoFar x s (λ j d. call_active x s s.path (Leaving j) (own_offset x.setting s) (WriteRecord (DeltaIs d)) refl (so_far x k)) (so_far x k);
      }

pub actives_begin : ActivesBegin
actives_begin = none_begin ActiveSoFar none_active

-- ---- so the grants are lawful

pub granting_is_lawful : GrantingIsLawful
granting_is_lawful =
    to_less Known (λ x. HasHoldingFacts x × (OrphansSoFar x × ActiveSoFar x)) GrantingSoFar (λ x h. grants_are_lawful x h.0 h.1.0 h.1.1)
    (both Known HasHoldingFacts (λ x. OrphansSoFar x × ActiveSoFar x) holding_facts_are_kept (both Known OrphansSoFar ActiveSoFar orphans_are_lawful actives_are_kept))

pub granting_begins : GrantingBegins
granting_begins st past e follows whole =
    grants_are_lawful (begin_recoveries (begin_step st past e.reading)) (holding_facts_begin st past e follows whole) (orphans_begin st past e follows whole) (actives_begin st past e follows whole)
