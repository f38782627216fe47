-- What ends is lawful: only an exit, a failed start, a release, a take-over and a conversion end holdings, and each was held before.
use Rattle.sl_due_facts.proofs.Acts.Pairs.Decisions.{release_is}
use Rattle.sl_due_facts.specs.Acts.Acts.{next_of_conversion, next_of_release, next_of_settling}
use Rattle.sl_trace.specs.declared.effects.LeaseRead.TheVariants.{OfArea, OfFree}
use Rattle.sl_due_facts.proofs.Acts.EffectsKeep.{delta, removal, signalled}
use Rattle.sl_due_facts.proofs.Acts.LoopsKeep.{for_each_keeps, when_keeps}
use Rattle.sl_due_facts.specs.Acts.KeptByEffects.{ByEffects}
use Rattle.sl_due_facts.specs.Acts.TraceSoFar.{entry_of}
use Rattle.sl_due.specs.DueAnswers.{set_reply}
use Rattle.sl_due.specs.DueCommands.{after_end, answer_line, carry_decision, decided}
use Rattle.sl_due.specs.CarriedDelta.{carry_delta, see_request}
use Rattle.sl_due.specs.DueRecovery.{begin_recoveries, begin_recovery, begins_now, send, signal_and_refuse, signal_holders}
use Rattle.sl_due.specs.DueTimeOuts.{refuse, remove_connection, remove_of_refused}
use Rattle.sl_due.specs.DueInputs.{end_holdings, leave_holdings, refuse_jobs_of, when_running}
use Rattle.sl_due.specs.CarriedLease.{carry_lease, convert_for, convert_holding, for_work, grant_for, grant_of, held_otherwise, next_of_lease, with_command}
use Rattle.sl_due.specs.DueRequests.{after_request_read, after_value_read, bits_due, owner_read, request_refusal, write_request}
use Rattle.sl_due.specs.Steps.{Step, add_end, add_grant, add_reply, add_signal, begin_step, seen, when, with_input, with_some}
use Rattle.sl_due.specs.declared.decision.Decision.TheVariants.{ConvertsTo, GetsValue, GivesUp, Joins, Leaves, ReadsArea, Replies, Requests, SetsValue, Shares, TakesOver}
use Rattle.sl_due.specs.declared.decision.Decision.{Decision}
use Rattle.sl_due_leases.specs.Grants.GrantLaws.{EndsAreLawful, EndsBegin, EndsSoFar}
use Rattle.sl_due_leases.proofs.Holdings.DecisionsHaveGrounds.{decisions_have_grounds}
use Rattle.sl_due_leases.proofs.Holdings.LeaseConversions.{converted, otherwise}
use Rattle.sl_due_leases.proofs.Holdings.MomentsAreKept.{delta_ungranting, refused_alike, removal_alike, same, sent_alike, signalled_alike}
use Rattle.sl_due_leases.proofs.Holdings.PlainPlaces.{one_place, place_turned}
use Rattle.sl_due_leases.specs.Holdings.DecisionGrounds.{GiveUpGrounds, HasGrounds, Releases, TakeOverGrounds}
use Rattle.sl_due_leases.specs.Holdings.Moments.{Known}
use Rattle.sl_run.specs.LawfulEnd.{Converted, EndReason, Exited, Given_up, LawfulEnding, Not_started, Taken_over, gives_up, takes_over}
use Rattle.sl_trace.specs.Ballots.{moded_block}
use Rattle.sl_trace.specs.Jobs.{command_numbered, is_job_of_process, job_of_start, jobs_of_session, process_named}
use Rattle.sl_trace.specs.LeaseDecisions.{lease_place}
use Rattle.sl_trace.specs.Releases.{release_next}
use Rattle.sl_trace.specs.Leases.{holdings_on, known, spot_of, spot_of_call}
use Rattle.sl_trace.specs.declared.lease.LeaseNext.TheVariants.{AnswerJob, BecomeExclusive, BecomeShared, GrantJob, Nothing, ReadFor, WriteBlock, WriteLeader}
use Rattle.sl_trace.specs.declared.lease.LeaseNext.{LeaseNext}
use Rattle.sl_words.proofs.Lists.{contains_cases, contains_first, contains_none, find_inside, kept_inside}
use Rattle.sl_words.proofs.Numbers.{number_itself}
use Rattle.sl_sector.specs.declared.sector.Block.{Block}
use Rattle.sl_trace.specs.DeltaDecisions.{delta_known, delta_of_session, next_after_free, next_after_renewal, next_free, next_in_joining, next_on_wake, next_renewal}
use Rattle.sl_trace.specs.Sessions.{calls_of, generation_of, holdings_of, last_renewal, present_sessions, recovery_of, refused_after, has_open_write}
use Rattle.sl_trace.specs.declared.delta.DeltaNext.{DeltaNext}
use Rattle.sl_trace.specs.declared.reply.Limited.TheVariants.{Turn as TurnLimit}
use Rattle.sl_trace.specs.declared.session.Session.{Session}
use Rattle.sl_trace.specs.Traces.{Job, Setting, end_of, holdings, is_ended_by, is_orphan, is_running, next_job, no_process, orphans_left, running_jobs, same_place, spot_of_grant, line_in}
use Rattle.sl_trace.specs.declared.command.Command.TheVariants.{Acquire, AddLockspace, Convert, GetLvb, HostStatus, InqLockspace, Release, ReleaseOrphan, RemLockspace, Request, RunProgram, SetKillpath, SetLvb, Status, TakeOver}
use Rattle.sl_trace.specs.declared.command.Command.{Command}
use Rattle.sl_trace.specs.declared.effects.End.{End}
use Rattle.sl_trace.specs.declared.effects.Grant.{Grant}
use Rattle.sl_trace.specs.declared.effects.LeaseStep.TheVariants.{ClearMode, ReadAgain, ReadArea, ReadBeforeFree}
use Rattle.sl_trace.specs.declared.effects.Mode.TheVariants.{Exclusive, Shared}
use Rattle.sl_trace.specs.declared.effects.Mode.{Mode}
use Rattle.sl_trace.specs.declared.effects.Signal.TheVariants.{Kill, Term}
use Rattle.sl_trace.specs.declared.effects.Spot.{Spot}
use Rattle.sl_trace.specs.declared.effects.Work.TheVariants.{ForJob, Settling}
use Rattle.sl_trace.specs.declared.effects.Work.{Work}
use Rattle.sl_trace.specs.declared.input.Input.TheVariants.{Answer as Told, Exit, Line, Number, Spawned}
use Rattle.sl_trace.specs.declared.reply.Reply.TheVariants.{BadCommand as Misread, Done, IoFault, IoTimeout, Limit as LimitReached, NoProcess, Recovering, SpawnFault}
use Rattle.sl_trace.specs.declared.reply.Reply.{Reply}
use Rattle.sl_words.specs.Words.{same_truth, some_is}
use Rattle.std.proofs.Common.{ap, append-nil, inl, inr, refl, subst, sym, ◌∙◌}
use Rattle.std.proofs.lemmas.Bool.{eqb-true}
use Rattle.std.proofs.lemmas.List.Elements.{Contains-append_cases, Contains-append_left, Contains-append_right}
use Rattle.std.specs.Option.{option_map_or}
use Rattle.std.specs.Prelude.{Bool, Contains, List, None, Ok, Option, Some, [], false, filter, is_some, not, true, ℕ, ◌&&◌, ◌++◌, ◌==◌, ◌∷◌, ◌≡◌, ◌⊎◌}

-- ---- none, or as before

none_yet : (z : Step) → z.effects.ends ≡ [] → EndsSoFar z
none_yet z none = record { each = λ e there. absurd (contains_none e (subst (λ es. Contains es e) none there)) }

-- The same ends and grants, at the same input.
pub record Going (x z : Step) : Type 0 where
  pub setting : z.setting ≡ x.setting
  pub past : z.past ≡ x.past
  pub input : z.input ≡ x.input
  pub ends : z.effects.ends ≡ x.effects.ends
  pub grants : z.effects.grants ≡ x.effects.grants

reason_on : (x z : Step) → Going x z → (g : Grant) → EndReason x.setting (entry_of x) g → EndReason z.setting (entry_of z) g
reason_on x z k g (Exited own is) = Exited own (k.input ∙ is)
reason_on x z k g (Not_started is) = Not_started (k.input ∙ is)
reason_on x z k g (Given_up text is gives) = Given_up text (ap (λ i. line_in i) k.input ∙ is) (subst (λ (st : Setting). gives_up g (st.read text) ≡ true) (sym k.setting) gives)
reason_on x z k g (Converted h there place process persistent) = Converted h (subst (λ gs. Contains gs h) (sym k.grants) there) place process persistent
reason_on x z k g (Taken_over h there place text is takes) =
    Taken_over h (subst (λ gs. Contains gs h) (sym k.grants) there) place text (ap (λ i. line_in i) k.input ∙ is) (subst (λ (st : Setting). takes_over g h (st.read text) ≡ true) (sym k.setting) takes)

going : (x z : Step) → Going x z → EndsSoFar x → EndsSoFar z
going x z k h =
    record {
      each = λ e there.
          let l = h.each e (subst (λ es. Contains es e) k.ends there) in
          record { holding = l.holding; held = subst (λ t. Contains (holdings t) l.holding) (sym k.past) l.held; told = l.told; reason = reason_on x z k l.holding l.reason };
    }

so_far : (x : Step) → Known x → EndsSoFar x
so_far x k = k.0.orderly.ends.0

-- Where a step stands.
abbrev pub StandsAt : Step → Step → Type 0
StandsAt x z = (z.setting ≡ x.setting) × (z.past ≡ x.past) × (z.input ≡ x.input)

pub stand_effects : (x : Step) → ByEffects (λ z. StandsAt x z)
stand_effects x =
    record {
      ends = λ z e h. h;
      signals = λ z p s h. h;
      moves = λ z m h. h;
      grants = λ z g h. h;
      starts = λ z s h. h;
      replies = λ z j r h. h;
      calls = λ z s path p o op has h. h;
    }

pub stands : (x z : Step) → StandsAt x z → z.effects.ends ≡ x.effects.ends → z.effects.grants ≡ x.effects.grants → Going x z
stands x z k ends grants = record { setting = k.0; past = k.1; input = k.2; ends = ends; grants = grants }

-- ---- what is ended

-- What is held before anything is granted was held before the step.
held_past : (x : Step) (g : Grant) → x.effects.grants ≡ [] → Contains (holdings (seen x)) g → Contains (holdings x.past) g
held_past x g none there =
    let left : List Grant = filter (λ h. not (is_ended_by x.effects.ends h)) (holdings x.past) in
    (kept_inside (λ h. not (is_ended_by x.effects.ends h)) (holdings x.past) g (subst (λ gs. Contains gs g) (append-nil left) (subst (λ gs. Contains (left ++ gs) g) none there))).0

pub last_or : {A : Type 0} (xs : List A) (a b : A) → Contains (xs ++ a ∷ []) b → Contains xs b ⊎ (a ≡ b)
last_or xs a b there = by (Contains-append_cases xs (a ∷ []) b there) where
  only : (a ≡ b) ⊎ Contains [] b → Contains xs b ⊎ (a ≡ b)
  only (inl is) = inr is
  only (inr none) = absurd (contains_none b none)

  by : Contains xs b ⊎ Contains (a ∷ []) b → Contains xs b ⊎ (a ≡ b)
  by (inl old) = inl old
  by (inr new) = only (contains_cases a [] b new)

pub last_there : {A : Type 0} (xs : List A) (a : A) → Contains (xs ++ a ∷ []) a
last_there xs a = Contains-append_right xs (a ∷ []) a (contains_first a [])

-- One end, where there was none.
lawful_one : (w : Step) (old : List End) (g : Grant) → old ≡ [] → w.effects.ends ≡ old ++ end_of g ∷ [] → Contains (holdings w.past) g → EndReason w.setting (entry_of w) g → EndsSoFar w
lawful_one w old g none ends held reason = record { each = λ e there. by e (last_or old (end_of g) e (subst (λ es. Contains es e) ends there)) } where
  by : (e : End) → Contains old e ⊎ (end_of g ≡ e) → LawfulEnding w.setting w.past (entry_of w) e
  by e (inl was) = absurd (contains_none e (subst (λ es. Contains es e) none was))
  by e (inr is) = record { holding = g; held = held; told = is; reason = reason }

-- ---- the end of a process

-- What ended is as before, or of the process.
pub record Ending (x : Step) (p : ℕ) (z : Step) : Type 0 where
  pub stand : StandsAt x z
  pub grants : (g : Grant) → Contains x.effects.grants g → Contains z.effects.grants g
  pub ends : (e : End) → Contains z.effects.ends e → Contains x.effects.ends e ⊎ ((l : Grant) × Contains (holdings (seen x)) l × (l.process ≡ p) × (end_of l ≡ e))

ends_all : (x : Step) (p : ℕ) → Ending x p (end_holdings p x)
ends_all x p =
    for_each_keeps (λ z. Ending x p z) (filter (λ g. g.process == p) (holdings (seen x))) (λ g. add_end (end_of g)) x
    (λ g there z k. record { stand = k.stand; grants = k.grants; ends = λ e inside. one z g e there k (last_or z.effects.ends (end_of g) e inside) })
    (record { stand = (refl, refl, refl); grants = λ g there. there; ends = λ e there. inl there }) where
      one : (z : Step) (g : Grant) (e : End) → Contains (filter (λ (k : Grant). k.process == p) (holdings (seen x))) g → Ending x p z → Contains z.effects.ends e ⊎ (end_of g ≡ e)
          → Contains x.effects.ends e ⊎ ((l : Grant) × Contains (holdings (seen x)) l × (l.process ≡ p) × (end_of l ≡ e))
      one z g e there k (inl was) = k.ends e was
      one z g e there k (inr is) = (let f = kept_inside (λ (h : Grant). h.process == p) (holdings (seen x)) g there in inr (g, f.0, eqb-true g.process p f.1, is))

pub more_granted : {A : Type 0} (xs : List A) (a b : A) → Contains xs b → Contains (xs ++ a ∷ []) b
more_granted xs a b there = Contains-append_left xs (a ∷ []) b there

-- What the exit of a process leaves.
pub left_ending : (x : Step) (p : ℕ) → Ending x p (refuse_jobs_of p (leave_holdings p x))
unfolding leave_holdings
left_ending x p = refused (leave_holdings p x) left where
  left : Ending x p (leave_holdings p x)
  left =
      for_each_keeps (λ z. Ending x p z) (orphans_left p (holdings (seen x))) add_grant (end_holdings p x)
      (λ g there z k. record { stand = k.stand; grants = λ h inside. more_granted z.effects.grants g h (k.grants h inside); ends = k.ends }) (ends_all x p)

  refused : (z : Step) → Ending x p z → Ending x p (refuse_jobs_of p z)
  refused z h =
      for_each_keeps (λ w. Ending x p w) (filter (is_job_of_process (seen z) p) (running_jobs z.setting (seen z))) (λ j. add_reply j.number (NoProcess p)) z
      (λ j there w k. record { stand = k.stand; grants = k.grants; ends = k.ends }) h

exit_ends : (x : Step) (p : ℕ) → (p == no_process) ≡ false → x.input ≡ Exit p → x.effects.ends ≡ [] → x.effects.grants ≡ [] → EndsSoFar (refuse_jobs_of p (leave_holdings p x))
exit_ends x p one input ended ungranted = record { each = λ e there. by e (all.ends e there) } where
  u : Step
  u = refuse_jobs_of p (leave_holdings p x)

  all : Ending x p u
  all = left_ending x p

  by : (e : End) → Contains x.effects.ends e ⊎ ((l : Grant) × Contains (holdings (seen x)) l × (l.process ≡ p) × (end_of l ≡ e)) → LawfulEnding u.setting u.past (entry_of u) e
  by e (inl was) = absurd (contains_none e (subst (λ es. Contains es e) ended was))
  by e (inr f) =
      record {
        holding = f.0;
        held = subst (λ t. Contains (holdings t) f.0) (sym all.stand.1) (held_past x f.0 ungranted f.1);
        told = f.3;
        reason = Exited (ap (λ n. n == no_process) f.2 ∙ one) (all.stand.2 ∙ (input ∙ ap (λ n. Exit n) (sym f.2)));
      }

failed_ends : (x : Step) (p : ℕ) → x.input ≡ Spawned p false → x.effects.grants ≡ [] → EndsSoFar x → EndsSoFar (when_running (job_of_start (seen x) p) SpawnFault (end_holdings p x))
failed_ends x p input ungranted h = record { each = λ e there. by e (all.ends e there) } where
  u : Step
  u = when_running (job_of_start (seen x) p) SpawnFault (end_holdings p x)

  said : (y : Step) (o : Option ℕ) → Ending x p y → Ending x p (when_running o SpawnFault y)
  said y None k = k
  said y (Some j) k = when_keeps (λ z. Ending x p z) (is_running (seen y) j) (add_reply j SpawnFault) y (λ runs w. record { stand = w.stand; grants = w.grants; ends = w.ends }) k

  all : Ending x p u
  all = said (end_holdings p x) (job_of_start (seen x) p) (ends_all x p)

  was_so : (g : Grant) → EndReason x.setting (entry_of x) g → EndReason u.setting (entry_of u) g
  was_so g (Exited own is) = Exited own (all.stand.2 ∙ is)
  was_so g (Not_started is) = Not_started (all.stand.2 ∙ is)
  was_so g (Given_up text is gives) = Given_up text (ap (λ i. line_in i) all.stand.2 ∙ is) (subst (λ (st : Setting). gives_up g (st.read text) ≡ true) (sym all.stand.0) gives)
  was_so g (Converted k there place process persistent) = Converted k (all.grants k there) place process persistent
  was_so g (Taken_over k there place text is takes) =
      Taken_over k (all.grants k there) place text (ap (λ i. line_in i) all.stand.2 ∙ is) (subst (λ (st : Setting). takes_over g k (st.read text) ≡ true) (sym all.stand.0) takes)

  by : (e : End) → Contains x.effects.ends e ⊎ ((l : Grant) × Contains (holdings (seen x)) l × (l.process ≡ p) × (end_of l ≡ e)) → LawfulEnding u.setting u.past (entry_of u) e
  by e (inl was) =
      let l = h.each e was in
      record { holding = l.holding; held = subst (λ t. Contains (holdings t) l.holding) (sym all.stand.1) l.held; told = l.told; reason = was_so l.holding l.reason }
  by e (inr f) =
      record {
        holding = f.0;
        held = subst (λ t. Contains (holdings t) f.0) (sym all.stand.1) (held_past x f.0 ungranted f.1);
        told = f.3;
        reason = Not_started (all.stand.2 ∙ (input ∙ ap (λ n. Spawned n false) (sym f.2)));
      }

-- ---- what ends nothing

stopped_ends : (y : Step) (s : Session) (kept : Option ℕ) → (signal_and_refuse s kept y).effects.ends ≡ y.effects.ends
unfolding signal_and_refuse
stopped_ends y s kept =
    let z : Step = signal_holders Term s y in
    for_each_keeps (λ w. w.effects.ends ≡ y.effects.ends) (filter (λ (j : Job). not (some_is (λ n. n == j.number) kept)) (jobs_of_session z.setting (seen z) s)) (λ j. add_reply j.number (Recovering (last_renewal z.setting (seen z) s))) z
    (λ j there w k. k) (signalled_alike y Term s).ends

granted_ends : (x : Step) (s : Session) (j : ℕ) (c : Command) (mode : Mode) (lver : ℕ) → (grant_for s j c mode lver x).effects.ends ≡ x.effects.ends
granted_ends x s j (Acquire r shared p persistent) mode lver = refl
granted_ends x s j (TakeOver r shared p persistent) mode lver = refl
granted_ends x s j (RunProgram r shared path) mode lver = refl
granted_ends x s j (AddLockspace a) mode lver = refl
granted_ends x s j (RemLockspace a) mode lver = refl
granted_ends x s j (InqLockspace a) mode lver = refl
granted_ends x s j (HostStatus a) mode lver = refl
granted_ends x s j (Release r p) mode lver = refl
granted_ends x s j (ReleaseOrphan r) mode lver = refl
granted_ends x s j (Convert r shared p) mode lver = refl
granted_ends x s j (Request r v how) mode lver = refl
granted_ends x s j (GetLvb r p) mode lver = refl
granted_ends x s j (SetLvb r p bytes) mode lver = refl
granted_ends x s j (SetKillpath p path) mode lver = refl
granted_ends x s j Status mode lver = refl

asked_ends : (x : Step) (s : Session) (j : ℕ) (bytes : List ℕ) (c : Command) → (after_request_read s j bytes c x).effects.ends ≡ x.effects.ends
unfolding after_request_read
asked_ends x s j bytes (Request r number force) = by (request_refusal x.setting.layout s.lockspace r number force bytes) where
  by : (o : Option Reply) → (let z : Step = elim o as (λ z. Step) [ Some why ↦ add_reply j why x | None ↦ write_request s j (owner_read x.setting.layout bytes) r number force x ] in z.effects.ends ≡ x.effects.ends)
  by (Some why) = refl
  by None = refl
asked_ends x s j bytes (AddLockspace a) = refl
asked_ends x s j bytes (RemLockspace a) = refl
asked_ends x s j bytes (InqLockspace a) = refl
asked_ends x s j bytes (HostStatus a) = refl
asked_ends x s j bytes (Acquire r shared p persistent) = refl
asked_ends x s j bytes (TakeOver r shared p persistent) = refl
asked_ends x s j bytes (RunProgram r shared path) = refl
asked_ends x s j bytes (Release r p) = refl
asked_ends x s j bytes (ReleaseOrphan r) = refl
asked_ends x s j bytes (Convert r shared p) = refl
asked_ends x s j bytes (GetLvb r p) = refl
asked_ends x s j bytes (SetLvb r p set) = refl
asked_ends x s j bytes (SetKillpath p path) = refl
asked_ends x s j bytes Status = refl

-- ---- the release

released_ends : (x : Step) (text : List ℕ) (c : Command) (j : ℕ) (s : Session) (g : Grant) → x.effects.ends ≡ [] → x.effects.grants ≡ [] → x.setting.read text ≡ Ok c → GiveUpGrounds x.setting (seen x) c s g
    → EndsSoFar (after_end s (spot_of_grant g) j g (add_end (end_of g) (with_input (Line text) x)))
unfolding after_end carry_lease
released_ends x text c j s g ended ungranted says u = by (holdings_on (seen z) s at) where
  at : Spot
  at = spot_of_grant g

  z : Step
  z = add_end (end_of g) (with_input (Line text) x)

  on : Contains (holdings_of (seen x) s) g × (same_place g.path g.offset u.resource.path u.resource.offset ≡ true)
  on = kept_inside (λ (e : Grant). same_place e.path e.offset u.resource.path u.resource.offset) (holdings_of (seen x) s) g u.held

  held : Contains (holdings x.past) g
  held = held_past x g ungranted (kept_inside (λ (k : Grant). k.session == s.number) (holdings (seen x)) g on.0).0

  place : same_place u.resource.path u.resource.offset g.path g.offset ≡ true
  place = place_turned g.path u.resource.path g.offset u.resource.offset on.1

  gives : (c : Command) → Releases c u.resource g → gives_up g (Ok c) ≡ true
  gives c (inl a) =
      subst (λ d. gives_up g (Ok d) ≡ true) (sym a.1)
      (ap (λ b. b && same_place u.resource.path u.resource.offset g.path g.offset) (subst (λ n. (n == g.process) ≡ true) a.2 (number_itself g.process)) ∙ place)
  gives c (inr a) = subst (λ d. gives_up g (Ok d) ≡ true) (sym a.0) (ap (λ b. b && same_place u.resource.path u.resource.offset g.path g.offset) a.1 ∙ place)

  so : (w : Step) → w.setting ≡ x.setting → w.past ≡ x.past → w.input ≡ Line text → w.effects.ends ≡ x.effects.ends ++ end_of g ∷ [] → EndsSoFar w
  so w setting past input ends =
      lawful_one w x.effects.ends g ended ends (subst (λ t. Contains (holdings t) g) (sym past) held)
      (Given_up text (ap (λ i. line_in i) input) (subst (λ (st : Setting). gives_up g (st.read text) ≡ true) (sym setting) (ap (λ o. gives_up g o) says ∙ gives c u.releases)))

  next : (mode : Mode) → EndsSoFar (carry_lease s at (ForJob j) (release_next (lease_place z.setting s) (known z.setting (seen z) s at) mode g.lver) z)
  next Exclusive = so (carry_lease s at (ForJob j) (release_next (lease_place z.setting s) (known z.setting (seen z) s at) Exclusive g.lver) z) refl refl refl refl
  next Shared = block (known z.setting (seen z) s at).own where
    block : (o : Option Block) → EndsSoFar (carry_lease s at (ForJob j) (option_map_or (λ own. WriteBlock ClearMode (moded_block own false 0)) o Nothing) z)
    block None = so z refl refl refl refl
    block (Some own) = so (carry_lease s at (ForJob j) (WriteBlock ClearMode (moded_block own false 0)) z) refl refl refl refl

  by : (hs : List Grant)
      → EndsSoFar (elim hs as (λ v. Step) [
        | e ∷ es ↦ add_reply j Done z
        | [] ↦ carry_lease s at (ForJob j) (next_of_release z.setting (seen z) s at g) z
      ])
  by (e ∷ es) = so (add_reply j Done z) refl refl refl refl
  by [] =
      release_is (λ n. EndsSoFar (carry_lease s at (ForJob j) n z)) z.setting (seen z) s at g (λ fits. next g.mode) (λ paired over writes. so (add_reply j (LimitReached TurnLimit) z) refl refl refl refl)

-- ---- the take-over

same_itself : (b : Bool) → same_truth b b ≡ true
same_itself true = refl
same_itself false = refl

taken_ends : (x : Step) (text : List ℕ) (c : Command) (j : ℕ) (s : Session) (g : Grant) → x.effects.ends ≡ [] → x.effects.grants ≡ [] → x.setting.read text ≡ Ok c → TakeOverGrounds x.setting (seen x) c s g
    → EndsSoFar (grant_for s j c g.mode g.lver (add_end (end_of g) (with_input (Line text) x)))
taken_ends x text c j s g ended ungranted says t = subst (λ d. EndsSoFar (grant_for s j d g.mode g.lver z)) (sym t.command) one where
  z : Step
  z = add_end (end_of g) (with_input (Line text) x)

  h : Grant
  h = grant_of s t.resource t.process g.mode g.lver t.persistent

  f : Contains (holdings_on (seen x) s (spot_of t.resource)) g × (is_orphan g ≡ true)
  f = find_inside is_orphan (holdings_on (seen x) s (spot_of t.resource)) g t.orphan

  on : Contains (holdings_of (seen x) s) g × (same_place g.path g.offset t.resource.path t.resource.offset ≡ true)
  on = kept_inside (λ (e : Grant). same_place e.path e.offset t.resource.path t.resource.offset) (holdings_of (seen x) s) g f.0

  place : same_place t.resource.path t.resource.offset g.path g.offset ≡ true
  place = place_turned g.path t.resource.path g.offset t.resource.offset on.1

  takes : takes_over g h (x.setting.read text) ≡ true
  takes =
      ap (λ o. takes_over g h o) (says ∙ ap (λ d. Ok d) t.command)
      ∙ (ap (λ b. ((b && same_place t.resource.path t.resource.offset g.path g.offset) && h.process == t.process) && same_truth h.persistent t.persistent) f.1
      ∙ (ap (λ b. (b && h.process == t.process) && same_truth h.persistent t.persistent) place
      ∙ (ap (λ b. b && same_truth h.persistent t.persistent) (number_itself t.process) ∙ same_itself t.persistent)))

  one : EndsSoFar (grant_for s j (TakeOver t.resource t.shared t.process t.persistent) g.mode g.lver z)
  one =
      lawful_one (grant_for s j (TakeOver t.resource t.shared t.process t.persistent) g.mode g.lver z) x.effects.ends g ended refl
      (held_past x g ungranted (kept_inside (λ (k : Grant). k.session == s.number) (holdings (seen x)) g on.0).0) (Taken_over h (last_there x.effects.grants h) place text refl takes)

-- ---- conversions

became_ends : (x : Step) (s : Session) (at : Spot) (j : ℕ) (mode : Mode) (lver : ℕ) → x.effects.ends ≡ [] → x.effects.grants ≡ [] → EndsSoFar (for_work (ForJob j) (λ k. with_command k (λ c. convert_for s at k c mode lver)) x)
became_ends x s at j mode lver ended ungranted = by_command (command_numbered x.setting (seen x) j) where
  found : (p : ℕ) (o : Option Grant) → held_otherwise (seen x) s at p mode ≡ o → EndsSoFar (with_some o (convert_holding j mode lver) x)
  found p None is = none_yet x ended
  found p (Some g) is =
      lawful_one (convert_holding j mode lver g x) x.effects.ends g ended refl (held_past x g ungranted (otherwise x s at p mode g is).0)
      (Converted (converted g mode lver) (last_there x.effects.grants (converted g mode lver)) (one_place g.path g.offset) refl refl)

  by_process : (o : Option ℕ) → EndsSoFar (with_some o (λ p y. with_some (held_otherwise (seen y) s at p mode) (convert_holding j mode lver) y) x)
  by_process None = none_yet x ended
  by_process (Some p) = found p (held_otherwise (seen x) s at p mode) refl

  by_command : (o : Option Command) → EndsSoFar (with_some o (λ c. convert_for s at j c mode lver) x)
  by_command None = none_yet x ended
  by_command (Some c) = by_process (process_named c)

led_ends : (x : Step) (s : Session) (at : Spot) (work : Work) (n : LeaseNext) → x.effects.ends ≡ [] → x.effects.grants ≡ [] → EndsSoFar (carry_lease s at work n x)
unfolding carry_lease
led_ends x s at work Nothing ended ungranted = none_yet x ended
led_ends x s at work (ReadFor (ReadArea name)) ended ungranted = none_yet (carry_lease s at work (ReadFor (ReadArea name)) x) ended
led_ends x s at work (ReadFor ReadBeforeFree) ended ungranted = none_yet (carry_lease s at work (ReadFor ReadBeforeFree) x) ended
led_ends x s at work (ReadFor (ReadAgain (OfArea name))) ended ungranted = none_yet (carry_lease s at work (ReadFor (ReadAgain (OfArea name))) x) ended
led_ends x s at work (ReadFor (ReadAgain OfFree)) ended ungranted = none_yet (carry_lease s at work (ReadFor (ReadAgain OfFree)) x) ended
led_ends x s at work (ReadFor step) ended ungranted = none_yet (carry_lease s at work (ReadFor step) x) ended
led_ends x s at work (WriteBlock step b) ended ungranted = none_yet (carry_lease s at work (WriteBlock step b) x) ended
led_ends x s at work (WriteLeader step l) ended ungranted = none_yet (carry_lease s at work (WriteLeader step l) x) ended
led_ends x s at Settling (AnswerJob r) ended ungranted = none_yet x ended
led_ends x s at (ForJob j) (AnswerJob r) ended ungranted = none_yet (add_reply j r x) ended
led_ends x s at Settling (GrantJob mode lver) ended ungranted = none_yet x ended
led_ends x s at (ForJob j) (GrantJob mode lver) ended ungranted = by (command_numbered x.setting (seen x) j) where
  by : (o : Option Command) → EndsSoFar (with_some o (λ c. grant_for s j c mode lver) x)
  by None = none_yet x ended
  by (Some c) = none_yet (grant_for s j c mode lver x) (granted_ends x s j c mode lver ∙ ended)
led_ends x s at Settling (BecomeShared lver l) ended ungranted = none_yet (carry_lease s at Settling (BecomeShared lver l) x) ended
led_ends x s at (ForJob j) (BecomeShared lver l) ended ungranted =
    let z : Step = for_work (ForJob j) (λ k. with_command k (λ c. convert_for s at k c Shared lver)) x in
    going z (carry_lease s at (ForJob j) (BecomeShared lver l) x) (record { setting = refl; past = refl; input = refl; ends = refl; grants = refl }) (became_ends x s at j Shared lver ended ungranted)
led_ends x s at Settling (BecomeExclusive lver b) ended ungranted = none_yet (carry_lease s at Settling (BecomeExclusive lver b) x) ended
led_ends x s at (ForJob j) (BecomeExclusive lver b) ended ungranted =
    let z : Step = for_work (ForJob j) (λ k. with_command k (λ c. convert_for s at k c Exclusive lver)) x in
    going z (carry_lease s at (ForJob j) (BecomeExclusive lver b) x) (record { setting = refl; past = refl; input = refl; ends = refl; grants = refl }) (became_ends x s at j Exclusive lver ended ungranted)

-- ---- commands

lines_end : (x : Step) (text : List ℕ) (c : Command) (j : ℕ) (d : Decision) → x.effects.ends ≡ [] → x.effects.grants ≡ [] → x.setting.read text ≡ Ok c → decided x.setting (seen x) x.reading c ≡ d
    → EndsSoFar (carry_decision j c d (with_input (Line text) x))
unfolding carry_decision
lines_end x text c j d ended ungranted says at = by d (subst (λ z. HasGrounds x.setting (seen x) c z) at (decisions_have_grounds x.setting (seen x) x.reading c)) where
  y : Step
  y = with_input (Line text) x

  by : (d : Decision) → HasGrounds x.setting (seen x) c d → EndsSoFar (carry_decision j c d y)
  by (Replies r) g = none_yet y ended
  by (Joins n a) g = none_yet (carry_decision j c (Joins n a) y) ended
  by (Leaves s) g = none_yet (signal_and_refuse s (Some j) y) (stopped_ends y s (Some j) ∙ ended)
  by (ReadsArea s r) g = none_yet (carry_decision j c (ReadsArea s r) y) ended
  by (Shares s lver) g = none_yet (grant_for s j c Shared lver y) (granted_ends y s j c Shared lver ∙ ended)
  by (GivesUp s e) g = released_ends x text c j s e ended ungranted says g
  by (TakesOver s e) g = taken_ends x text c j s e ended ungranted says g
  by (ConvertsTo s r mode) g = led_ends y s (spot_of r) (ForJob j) (next_of_conversion x.setting (seen y) s (spot_of r) mode r.name) ended ungranted
  by (Requests s r) g = none_yet (carry_decision j c (Requests s r) y) ended
  by (SetsValue s spot v) g = none_yet (carry_decision j c (SetsValue s spot v) y) ended
  by (GetsValue s spot) g = none_yet (carry_decision j c (GetsValue s spot) y) ended

-- ---- the whole

delta_ends : (x : Step) (s : Session) (n : DeltaNext) → x.effects.ends ≡ [] → EndsSoFar (carry_delta s n x)
delta_ends x s n ended = none_yet (carry_delta s n x) ((delta_ungranting x s n).ends ∙ ended)

removed_ends : (x : Step) (s : Session) → (remove_of_refused s x).effects.ends ≡ x.effects.ends
removed_ends x s = by (is_some (refused_after (seen x) s) && not (has_open_write (seen x) s)) where
  by : (b : Bool) → (when b (remove_connection s.lockspace) x).effects.ends ≡ x.effects.ends
  by true = (removal_alike x x s.lockspace (same x)).ends
  by false = refl

pub ends_are_lawful : EndsAreLawful
unfolding after_value_read
ends_are_lawful =
    record {
      kills = λ x s has due k.
          going x (signal_holders Kill s x)
          (stands x (signal_holders Kill s x) (signalled (λ z. StandsAt x z) (stand_effects x) x Kill s (refl, refl, refl)) (signalled_alike x Kill s).ends (signalled_alike x Kill s).grants) (so_far x k);
      times_out = λ x j m wake bare runs waits late k.
          none_yet (refuse j (IoTimeout m.call.number m.reading x.reading) x) ((refused_alike x x j (IoTimeout m.call.number m.reading x.reading) (same x)).ends ∙ (k.1.waking wake).0);
      hears = λ x number answer wake bare expected k. none_yet (with_input (Told number answer) x) (k.1.waking wake).0;
      counts = λ x text wake bare k. none_yet (with_input (Number text) x) (k.1.waking wake).0;
      exits = λ x p wake bare one k. exit_ends (with_input (Exit p) x) p one refl (k.1.waking wake).0 (k.1.waking wake).1;
      exits_as_none = λ x p wake bare none k. none_yet (with_input (Exit p) x) (k.1.waking wake).0;
      starts = λ x p ok wake bare expected k. none_yet (with_input (Spawned p ok) x) (k.1.waking wake).0;
      fails_to_start = λ x p input k. failed_ends x p input (k.1.ungranted p false input) (so_far x k);
      signals_instead = λ x p q input stood k. going x (add_signal q Term x) (record { setting = refl; past = refl; input = refl; ends = refl; grants = refl }) (so_far x k);
      says_started = λ x p j input is runs k. going x _ (record { setting = refl; past = refl; input = refl; ends = refl; grants = refl }) (so_far x k);
      misreads = λ x text column wake bare says k. none_yet (answer_line text (next_job x.setting (seen x)) (Misread column) x) (k.1.waking wake).0;
      answers = λ x text c r wake bare says is k. none_yet (answer_line text (next_job x.setting (seen x)) r x) (k.1.waking wake).0;
      carries = λ x text c d wake bare says is more k. lines_end x text c (next_job x.setting (seen x)) d (k.1.waking wake).0 (k.1.waking wake).1 says is;
      joins_on = λ x s j step m answer hears is runs k.
          delta_ends x s (next_in_joining (delta_of_session x.setting s) (generation_of (seen x) s) (calls_of (seen x) s) x.reading m step answer) hears.unended;
      ends_joining = λ x s j step m answer hears is stops k. none_yet (remove_of_refused s x) (removed_ends x s ∙ hears.unended);
      renewed = λ x s m answer hears is k. delta_ends x s (next_after_renewal (is_some (recovery_of x.setting (seen x) s)) m.reading answer) hears.unended;
      freed = λ x s j m answer hears is k. delta_ends x s (next_after_free j m.call.number answer) hears.unended;
      shown = λ x s m bytes hears is joined begins k. none_yet (signal_and_refuse s None x) (stopped_ends x s None ∙ hears.unended);
      sees = λ x s number bytes at g has input held k. going x (see_request s g x) (record { setting = refl; past = refl; input = refl; ends = refl; grants = refl }) (so_far x k);
      leads_on = λ x s work step m answer aim hears is on at k.
          led_ends x s (spot_of_call x.setting.layout m) work (next_of_lease x.setting (seen x) s (spot_of_call x.setting.layout m) aim m step answer) hears.unended hears.ungranted;
      fails = λ x s m j hears lone runs k. none_yet (add_reply j (IoFault m.call.number) x) hears.unended;
      has_asked = λ x s m j owner hears is runs k. none_yet (add_reply j Done x) hears.unended;
      has_set = λ x s m j hears is runs k. none_yet (add_reply j (set_reply m) x) hears.unended;
      asks = λ x s m j bytes c hears is runs at k. none_yet (after_request_read s j bytes c x) (asked_ends x s j bytes c ∙ hears.unended);
      tells = λ x s m j bytes hears is runs k. none_yet (after_value_read j bytes x) hears.unended;
      warns = λ x s m bytes g signal hears is held own says k. none_yet (send g.process signal x) ((sent_alike x x g.process signal (same x)).ends ∙ hears.unended);
      joins_in_time = λ x s j has wake is runs k. delta_ends x s (next_on_wake (delta_of_session x.setting s) x.reading (calls_of (seen x) s)) (k.1.waking wake).0;
      renews = λ x s has wake joined k.
          delta_ends x s (next_renewal (delta_of_session x.setting s) x.reading (delta_known x.setting (seen x) s) (bits_due x.setting (calls_of (seen x) s) x.reading)) (k.1.waking wake).0;
      settles = λ x s at has wake active aligned none k.
          led_ends x s at Settling (next_of_settling x.setting (seen x) s at) (k.1.waking wake).0 (k.1.waking wake).1;
      parts = λ x s has joined recovers free quiet k.
          let a = removal_alike x x s.lockspace (same x) in
          going x (remove_connection s.lockspace x) (stands x (remove_connection s.lockspace x) (removal (λ z. StandsAt x z) (stand_effects x) x s.lockspace (refl, refl, refl)) a.ends a.grants) (so_far x k);
      frees = λ x s has joined well free quiet k.
          let n : DeltaNext = next_free (delta_of_session x.setting s) x.reading (delta_known x.setting (seen x) s) in
          let u = delta_ungranting x s n in
          going x (carry_delta s n x) (stands x (carry_delta s n x) (delta (λ z. StandsAt x z) (stand_effects x) x s has n (refl, refl, refl)) u.ends u.grants) (so_far x k);
    }

pub ends_begin : EndsBegin
unfolding begin_recoveries begin_recovery
ends_begin st past e follows whole =
    none_yet (begin_recoveries (begin_step st past e.reading))
    (for_each_keeps (λ z. z.effects.ends ≡ []) (present_sessions st (seen (begin_step st past e.reading))) begin_recovery (begin_step st past e.reading)
    (λ s there y h. when_keeps (λ z. z.effects.ends ≡ []) (begins_now (seen y) (recovery_of y.setting (seen y) s)) (signal_and_refuse s None) y (λ begins k. stopped_ends y s None ∙ k) h) refl)
