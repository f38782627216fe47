-- The answer of a lease's call keeps the facts of holdings.
use Rattle.sl_due_facts.proofs.Acts.InputsKeep.{has_heard}
use Rattle.sl_due_facts.proofs.Acts.Pairs.Decisions.{asked_is, bytes_are, next_is}
use Rattle.sl_due_facts.specs.Acts.Acts.{Has, Hears}
use Rattle.sl_area.specs.AreaLayout.{is_base}
use Rattle.sl_due.specs.CarriedLease.{carry_lease, goes_on, grant_for, next_of_lease}
use Rattle.sl_due.specs.Steps.{Step, seen, with_some}
use Rattle.sl_due_leases.proofs.Holdings.HoldingsByEffects.{HoldsAt}
use Rattle.sl_due_leases.proofs.Holdings.HoldingsByLeases.{IsNoGrant, OfExclusive, ballot_is, carried_held}
use Rattle.sl_due_leases.proofs.Holdings.LeaseBeside.{DoesBeside, is_ballot_step, leads_beside}
use Rattle.sl_due_leases.proofs.Holdings.LeaseCallers.{caller_joined, commands_fit, heard_answered, heard_call, heard_opens, heard_session, heard_waits, lease_heard, spot_aligned}
use Rattle.sl_due_leases.proofs.Holdings.LeaseConversions.{become_exclusive_held, become_shared_held}
use Rattle.sl_due_leases.proofs.Holdings.LeaseGrants.{IsNewThere, PlaceFor, granted_held}
use Rattle.sl_due_leases.proofs.Holdings.LeaseNexts.{IsFitNext, IsGrantOf, next_fits}
use Rattle.sl_due_leases.proofs.Holdings.PlainPlaces.{one_place}
use Rattle.sl_due_leases.specs.Holdings.Moments.{Known}
use Rattle.sl_trace.specs.Ballots.{moded_block}
use Rattle.sl_trace.specs.Jobs.{aim_of, aim_of_command, command_numbered, process_named, resource_named}
use Rattle.sl_trace.specs.LeaseDecisions.{LeasePlace, leader_for, lease_next, lease_place}
use Rattle.sl_trace.specs.Leases.{LeaseKnown, block_submitted, exclusive_on, holdings_on, known, lease_calls, lver_written, spot_of, spot_of_call}
use Rattle.sl_trace.specs.declared.lease.Aim.TheVariants.{Acquires, Converts, Releases, Settles}
use Rattle.sl_trace.specs.declared.lease.Aim.{Aim}
use Rattle.sl_trace.specs.declared.lease.LeaseNext.TheVariants.{AnswerJob, BecomeExclusive, BecomeShared, GrantJob, Nothing, ReadFor, WriteBlock, WriteLeader}
use Rattle.sl_trace.specs.declared.lease.LeaseNext.{LeaseNext}
use Rattle.sl_words.proofs.Lists.{find_inside, kept_inside}
use Rattle.sl_words.proofs.Options.{mapped_value, then_value}
use Rattle.sl_sector.specs.declared.sector.Block.{Block}
use Rattle.sl_sector.specs.declared.sector.Leader.{Leader}
use Rattle.sl_trace.specs.Sessions.{holdings_of}
use Rattle.sl_trace.specs.declared.session.Session.{Session}
use Rattle.sl_due_facts.specs.Facts.GrantGrounds.{IsDoneWork}
use Rattle.sl_due_facts.specs.Facts.HeardCall.{heard_by}
use Rattle.sl_due_facts.specs.Facts.HoldingFacts.{StandsExclusive}
use Rattle.sl_due_facts.specs.Facts.JobFacts.{FitsCommand}
use Rattle.sl_due_facts.specs.Facts.WorkFacts.{IsAtWork, MayBeHeld}
use Rattle.sl_trace.specs.CommandForms.{IsCommand}
use Rattle.sl_trace.specs.Traces.{Setting, Submitted, holdings, is_shared, job_of, same_place, spot_of_grant}
use Rattle.sl_trace.specs.declared.command.Command.TheVariants.{Acquire, AddLockspace, Convert, GetLvb, HostStatus, InqLockspace, Release, ReleaseOrphan, RemLockspace, Request, RunProgram, SetKillpath, SetLvb, Status, TakeOver}
use Rattle.sl_trace.specs.declared.command.Command.{Command}
use Rattle.sl_trace.specs.declared.command.ResourceArg.{ResourceArg}
use Rattle.sl_trace.specs.declared.effects.Grant.{Grant}
use Rattle.sl_trace.specs.declared.effects.LeaseStep.TheVariants.{SetMode, TakeLeader}
use Rattle.sl_trace.specs.declared.effects.LeaseStep.{LeaseStep}
use Rattle.sl_trace.specs.declared.effects.Mode.TheVariants.{Exclusive, Shared}
use Rattle.sl_trace.specs.declared.effects.Mode.{Mode}
use Rattle.sl_trace.specs.declared.effects.Purpose.TheVariants.{Lease}
use Rattle.sl_trace.specs.declared.effects.Spot.{Spot}
use Rattle.sl_trace.specs.declared.effects.Work.TheVariants.{ForJob, Settling}
use Rattle.sl_trace.specs.declared.effects.Work.{Work}
use Rattle.sl_trace.specs.declared.input.Answer.TheVariants.{Failed, Read, Written}
use Rattle.sl_trace.specs.declared.input.Answer.{Answer}
use Rattle.sl_words.proofs.CaseLaws.{false_is_true, none_some, not_both, one_value, some_value, true_is_false}
use Rattle.sl_words.specs.Words.{same_truth}
use Rattle.std.proofs.Common.{ap, inl, inr, refl, subst, sym, ◌∙◌}
use Rattle.std.specs.Option.{option_map_or}
use Rattle.std.specs.Prelude.{Bool, Contains, IsTrue, None, Option, Some, false, not, true, ℕ, ◌==◌, ◌≡◌}

-- ---- what is known where a lease's call is answered

-- The call, its session, its work and what it aims at.
pub record Led (x : Step) (s : Session) (work : Work) (step : LeaseStep) (m : Submitted) (answer : Answer) (aim : Aim) : Type 0 where
  pub whole : Known x
  pub hears : Hears x s m answer
  pub purpose : m.call.purpose ≡ Lease work step
  pub on : goes_on x.setting (seen x) s work ≡ true
  pub aimed : aim_of x.setting (seen x) work ≡ Some aim

abbrev pub spot_at : Step → Submitted → Spot
spot_at x m = spot_of_call x.setting.layout m

-- A settling settles.
settles_only : {x : Step} {s : Session} {step : LeaseStep} {m : Submitted} {answer : Answer} {aim : Aim} → Led x s Settling step m answer aim → Settles ≡ aim
settles_only {x} {s} {step} {m} {answer} {aim} l = some_value Settles aim l.aimed

-- A job's command is known, and its work.
pub record JobLed (x : Step) (m : Submitted) (j : ℕ) (step : LeaseStep) (aim : Aim) : Type 0 where
  pub command : Command
  pub named : command_numbered x.setting (seen x) j ≡ Some command
  pub aimed : aim_of_command command ≡ Some aim
  pub work : IsAtWork x.setting (seen x) (heard_by x.input) m j step command

pub job_led : (x : Step) (s : Session) (j : ℕ) (step : LeaseStep) (m : Submitted) (answer : Answer) (aim : Aim) → Led x s (ForJob j) step m answer aim → JobLed x m j step aim
job_led x s j step m answer aim l =
    let v = then_value aim_of_command (command_numbered x.setting (seen x) j) aim l.aimed in
    record {
      command = v.0;
      named = v.1;
      aimed = v.2;
      work = record {
        there = (heard_call x s m answer l.hears).0;
        opens = heard_waits x s m answer l.hears;
        purpose = l.purpose;
        runs = l.on;
        command = v.1;
      };
    }

-- What is held there may be held beside the job.
pub beside_job : (x : Step) (s : Session) (j : ℕ) (step : LeaseStep) (m : Submitted) (answer : Answer) (aim : Aim) → (l : Led x s (ForJob j) step m answer aim) → (k : JobLed x m j step aim) → (g : Grant)
    → Contains (holdings (seen x)) g → same_place g.path g.offset (spot_at x m).path (spot_at x m).base ≡ true → MayBeHeld m k.command aim g
beside_job x s j step m answer aim l k g there same = l.whole.0.facts.works.beside m j step k.command aim g k.work k.aimed there same

at_spot : (x : Step) (m : Submitted) (g : Grant) → spot_of_grant g ≡ spot_at x m → same_place g.path g.offset (spot_at x m).path (spot_at x m).base ≡ true
at_spot x m g is = subst (λ (z : Spot). same_place g.path g.offset z.path z.base ≡ true) is (one_place g.path g.offset)

-- ---- what neither grants nor converts

-- A conversion that set its mode.
moding_beside : (p : LeasePlace) (k : LeaseKnown) (mode : Mode) (call n i : ℕ) (own : Block) (answer : Answer) → IsNoGrant (lease_next p k (Converts mode) call i SetMode answer)
    → DoesBeside own n (lease_next p k (Converts mode) call i SetMode answer)
unfolding lease_next
moding_beside p k mode call n i own (Read bytes) plain =
    bytes_are (λ z. DoesBeside own n z) p k (Converts mode) bytes SetMode (λ read is. absurd (none_some read (asked_is p.layout bytes SetMode read is).first)) (λ once. tt)
moding_beside p k mode call n i own Failed plain = tt
moding_beside p k mode call n i own Written plain = by k.exclusive plain where
  by : (o : Option ℕ) → IsNoGrant (option_map_or (λ e. BecomeShared e (leader_for p k false e)) o Nothing) → DoesBeside own n (option_map_or (λ e. BecomeShared e (leader_for p k false e)) o Nothing)
  by None at = tt
  by (Some e) at = absurd at

led_beside : (x : Step) (s : Session) (work : Work) (step : LeaseStep) (m : Submitted) (answer : Answer) (aim : Aim) → (l : Led x s work step m answer aim) → (next : LeaseNext)
    → next_of_lease x.setting (seen x) s (spot_at x m) aim m step answer ≡ next → IsNoGrant next → OfExclusive x s (spot_at x m) (λ own n. DoesBeside own n next)
led_beside x s work step m answer aim l next is plain g there mine exclusive spot stands = by work l (aim) refl where
  settled : Settles ≡ aim → DoesBeside stands.own g.lver next
  settled settles =
      let inside : Contains (lease_calls x.setting (seen x) s (spot_of_grant g)) m =
      subst (λ z. Contains (lease_calls x.setting (seen x) s z) m) (sym spot) (lease_heard x s m answer work step l.whole.0.setting l.hears l.purpose) in
      let other : is_ballot_step step ≡ false = sym (ballot_is m work step l.purpose) ∙ stands.idle m inside (heard_opens x s m answer l.hears) in
      subst (λ z. DoesBeside stands.own g.lver z)
      (ap (λ z. next_of_lease x.setting (seen x) s z Settles m step answer) spot ∙ (ap (λ z. next_of_lease x.setting (seen x) s (spot_at x m) z m step answer) settles ∙ is))
      (next_is (λ z. DoesBeside stands.own g.lver z) x.setting (seen x) s (spot_of_grant g) Settles m step answer
      (λ fits. leads_beside x s (lease_place x.setting s) g m.call.number (lver_written m) step answer l.whole.0.facts.holdings there mine exclusive stands other) (λ paired over writes. tt))

  of_job : (j : ℕ) → (k : Led x s (ForJob j) step m answer aim) → (b : Aim) → aim ≡ b → MayBeHeld m (job_led x s j step m answer aim k).command b g → DoesBeside stands.own g.lver next
  of_job j k (Acquires mode) at may = absurd (may.2 (mine ∙ sym (heard_session x s m answer l.hears)))
  of_job j k Releases at may = absurd (may (mine ∙ sym (heard_session x s m answer l.hears)))
  of_job j k Settles at may = settled (sym at)
  of_job j k (Converts Exclusive) at may = absurd (true_is_false (sym (ap (λ b. same_truth b false) exclusive) ∙ may.1))
  of_job j k (Converts Shared) at may =
      let q = job_led x s j step m answer aim k in
      let step_is : step ≡ SetMode = l.whole.0.facts.works.modes m j step q.command q.work (q.aimed ∙ ap (λ z. Some z) at) in
      subst (λ z. IsNoGrant z → DoesBeside stands.own g.lver z)
      (ap (λ z. next_of_lease x.setting (seen x) s (spot_at x m) (Converts Shared) m z answer) (sym step_is)
      ∙ (ap (λ z. next_of_lease x.setting (seen x) s (spot_at x m) z m step answer) (sym at) ∙ is))
      (next_is (λ z. IsNoGrant z → DoesBeside stands.own g.lver z) x.setting (seen x) s (spot_at x m) (Converts Shared) m SetMode answer
      (λ fits. moding_beside (lease_place x.setting s) (known x.setting (seen x) s (spot_at x m)) Shared m.call.number g.lver (lver_written m) stands.own answer) (λ paired over writes none. tt)) plain

  by : (w : Work) → Led x s w step m answer aim → (b : Aim) → aim ≡ b → DoesBeside stands.own g.lver next
  by Settling k b at = settled (settles_only k)
  by (ForJob j) k b at =
      of_job j k b at (subst (λ z. MayBeHeld m (job_led x s j step m answer aim k).command z g) at (beside_job x s j step m answer aim k (job_led x s j step m answer aim k) g there (at_spot x m g spot)))

-- ---- what grants

-- The work whose write is done.
done_work : (x : Step) (s : Session) (j : ℕ) (step : LeaseStep) (m : Submitted) (aim : Aim) → (l : Led x s (ForJob j) step m Written aim) → IsDoneWork x.setting (seen x) (heard_by x.input) s m j step (job_led x s j step m Written aim l).command
done_work x s j step m aim l =
    let a = heard_answered x s m Written l.whole.0.facts.calls l.whole.0.orderly l.hears in
    record {
      work = (job_led x s j step m Written aim l).work;
      session = l.hears.session;
      bare = l.hears.bare;
      heard_it = (heard_call x s m Written l.hears).1;
      answer = a.0;
      done = (a.1, a.3);
    }

-- The resource of the job's command is on the call's area, in the session's lockspace.
pub record OnResource (x : Step) (s : Session) (m : Submitted) (c : Command) : Type 0 where
  pub resource : ResourceArg
  pub named : resource_named c ≡ Some resource
  pub lockspace : resource.lockspace ≡ s.lockspace
  pub spot : spot_of_call x.setting.layout m ≡ spot_of resource

pub on_resource : (x : Step) (s : Session) (j : ℕ) (step : LeaseStep) (m : Submitted) (answer : Answer) (aim : Aim) → (l : Led x s (ForJob j) step m answer aim) → OnResource x s m (job_led x s j step m answer aim l).command
on_resource x s j step m answer aim l =
    let k = job_led x s j step m answer aim l in
    let f : FitsCommand x.setting s m k.command m.call.purpose =
    l.whole.0.facts.jobs.fits m j s k.command k.work.there (ap (λ p. job_of p) l.purpose) l.hears.session k.named in
    let g : FitsCommand x.setting s m k.command (Lease (ForJob j) step) = subst (λ p. FitsCommand x.setting s m k.command p) l.purpose f in
    record { resource = g.0; named = g.1; lockspace = g.3.0; spot = g.3.1 }

-- Whose place it is, and what stands behind it.
place_for : (x : Step) (s : Session) (j : ℕ) (step : LeaseStep) (m : Submitted) (mode wanted : Mode) (lver : ℕ) → (l : Led x s (ForJob j) step m Written (Acquires wanted))
    → (is_shared mode ≡ false → StandsExclusive x.setting (seen x) (heard_by x.input) s (spot_at x m) lver)
    → ((h : Grant) → Contains (holdings (seen x)) h → same_place h.path h.offset (spot_at x m).path (spot_at x m).base ≡ true → is_shared mode ≡ true)
    → (r : ResourceArg) → resource_named (job_led x s j step m Written (Acquires wanted) l).command ≡ Some r → PlaceFor x s r mode lver
place_for x s j step m mode wanted lver l stands shared r named =
    let k = job_led x s j step m Written (Acquires wanted) l in
    let o = on_resource x s j step m Written (Acquires wanted) l in
    let same : o.resource ≡ r = one_value o.resource r (resource_named k.command) o.named named in
    let spot : spot_at x m ≡ spot_of r = o.spot ∙ ap (λ z. spot_of z) same in
    let has : Has x s = has_heard x s m Written l.hears in
    record {
      has = has;
      joined = caller_joined x s m Written (ForJob j) step l.whole.0.orderly has l.hears l.purpose;
      lockspace = subst (λ (z : ResourceArg). z.lockspace ≡ s.lockspace) same o.lockspace;
      placed = based x.setting k.command r (commands_fit x.setting (seen x) j k.command l.whole.0.setting k.named) named;
      shared = λ h there at.
          let here : same_place h.path h.offset (spot_at x m).path (spot_at x m).base ≡ true = subst (λ (z : Spot). same_place h.path h.offset z.path z.base ≡ true) (sym spot) at in
          let may = beside_job x s j step m Written (Acquires wanted) l k h there here in
          (may.1, shared h there here);
      stands = λ exclusive. subst (λ z. StandsExclusive x.setting (seen x) (heard_by x.input) s z lver) spot (stands exclusive);
    } where
      based : (st : Setting) (c : Command) (r : ResourceArg) → IsCommand st.layout c → resource_named c ≡ Some r → IsTrue (is_base st.layout r.offset)
      based st (Acquire q shared p persistent) r is at = subst (λ (z : ResourceArg). IsTrue (is_base st.layout z.offset)) (some_value q r at) is.0.base
      based st (TakeOver q shared p persistent) r is at = subst (λ (z : ResourceArg). IsTrue (is_base st.layout z.offset)) (some_value q r at) is.0.base
      based st (Release q p) r is at = subst (λ (z : ResourceArg). IsTrue (is_base st.layout z.offset)) (some_value q r at) is.0.base
      based st (ReleaseOrphan q) r is at = subst (λ (z : ResourceArg). IsTrue (is_base st.layout z.offset)) (some_value q r at) is.base
      based st (Convert q shared p) r is at = subst (λ (z : ResourceArg). IsTrue (is_base st.layout z.offset)) (some_value q r at) is.0.base
      based st (RunProgram q shared path) r is at = subst (λ (z : ResourceArg). IsTrue (is_base st.layout z.offset)) (some_value q r at) is.0.base
      based st (Request q lver force) r is at = subst (λ (z : ResourceArg). IsTrue (is_base st.layout z.offset)) (some_value q r at) is.0.base
      based st (GetLvb q p) r is at = subst (λ (z : ResourceArg). IsTrue (is_base st.layout z.offset)) (some_value q r at) is.0.base
      based st (SetLvb q p bytes) r is at = subst (λ (z : ResourceArg). IsTrue (is_base st.layout z.offset)) (some_value q r at) is.0.base
      based st (AddLockspace a) r is at = absurd (none_some r at)
      based st (RemLockspace a) r is at = absurd (none_some r at)
      based st (InqLockspace a) r is at = absurd (none_some r at)
      based st (HostStatus a) r is at = absurd (none_some r at)
      based st (SetKillpath p path) r is at = absurd (none_some r at)
      based st Status r is at = absurd (none_some r at)

-- Its process holds nothing there.
new_there : (x : Step) (s : Session) (j : ℕ) (step : LeaseStep) (m : Submitted) (wanted : Mode) → (l : Led x s (ForJob j) step m Written (Acquires wanted)) → (r : ResourceArg) (p : ℕ)
    → resource_named (job_led x s j step m Written (Acquires wanted) l).command ≡ Some r → process_named (job_led x s j step m Written (Acquires wanted) l).command ≡ Some p → IsNewThere x r p
new_there x s j step m wanted l r p named process =
    let k = job_led x s j step m Written (Acquires wanted) l in
    let o = on_resource x s j step m Written (Acquires wanted) l in
    let same : o.resource ≡ r = one_value o.resource r (resource_named k.command) o.named named in
    let spot : spot_at x m ≡ spot_of r = o.spot ∙ ap (λ z. spot_of z) same in
    record {
      apart = λ h there at is.
          let may = beside_job x s j step m Written (Acquires wanted) l k h there (subst (λ (z : Spot). same_place h.path h.offset z.path z.base ≡ true) (sym spot) at) in
          may.3 (process ∙ ap (λ n. Some n) (sym is));
      born = l.whole.0.facts.works.acts m j step k.command p k.work process;
    }

granted_by : (x : Step) (s : Session) (j : ℕ) (step : LeaseStep) (m : Submitted) (mode wanted : Mode) (lver : ℕ) → Led x s (ForJob j) step m Written (Acquires wanted)
    → (is_shared mode ≡ false → StandsExclusive x.setting (seen x) (heard_by x.input) s (spot_at x m) lver)
    → ((h : Grant) → Contains (holdings (seen x)) h → same_place h.path h.offset (spot_at x m).path (spot_at x m).base ≡ true → is_shared mode ≡ true)
    → HoldsAt (carry_lease s (spot_at x m) (ForJob j) (GrantJob mode lver) x)
unfolding carry_lease
granted_by x s j step m mode wanted lver l stands shared =
    let k = job_led x s j step m Written (Acquires wanted) l in
    subst (λ o. HoldsAt (with_some o (λ c. grant_for s j c mode lver) x)) (sym k.named)
    (granted_held x s j k.command mode lver (place_for x s j step m mode wanted lver l stands shared) (new_there x s j step m wanted l) l.whole.0.facts.holdings)

granted : (x : Step) (s : Session) (j : ℕ) (step : LeaseStep) (m : Submitted) (aim : Aim) (mode : Mode) (lver : ℕ) → Led x s (ForJob j) step m Written aim → lver ≡ lver_written m → IsGrantOf aim step mode
    → HoldsAt (carry_lease s (spot_at x m) (ForJob j) (GrantJob mode lver) x)
granted x s j step m aim mode lver l under (inl t) = exclusive (subst (λ a. Led x s (ForJob j) step m Written a) t.2 l) t.0 t.1 where
  exclusive : Led x s (ForJob j) step m Written (Acquires Exclusive) → step ≡ TakeLeader → mode ≡ Exclusive → HoldsAt (carry_lease s (spot_at x m) (ForJob j) (GrantJob mode lver) x)
  exclusive k at is =
      let q = job_led x s j step m Written (Acquires Exclusive) k in
      let d : IsDoneWork x.setting (seen x) (heard_by x.input) s m j TakeLeader q.command = subst (λ z. IsDoneWork x.setting (seen x) (heard_by x.input) s m j z q.command) at (done_work x s j step m (Acquires Exclusive) k) in
      granted_by x s j step m mode Exclusive lver k
      (λ no_mode. subst (λ n. StandsExclusive x.setting (seen x) (heard_by x.input) s (spot_at x m) n) (sym under) (l.whole.0.facts.grounds.acquired s m j q.command d q.aimed))
      (λ h there same. absurd (false_is_true (beside_job x s j step m Written (Acquires Exclusive) k q h there same).0))
granted x s j step m aim mode lver l under (inr t) = shared (subst (λ a. Led x s (ForJob j) step m Written a) t.2.1 l) where
  is_mode : is_shared mode ≡ true
  is_mode = ap (λ z. is_shared z) t.1

  shared : Led x s (ForJob j) step m Written (Acquires t.2.0) → HoldsAt (carry_lease s (spot_at x m) (ForJob j) (GrantJob mode lver) x)
  shared k = granted_by x s j step m mode t.2.0 lver k (λ no_mode. absurd (not_both (is_shared mode) is_mode no_mode)) (λ h there same. is_mode)

-- ---- what converts

-- The holding of which the lease knows that it is exclusive.
known_exclusive : (x : Step) (s : Session) (at : Spot) (lver : ℕ) → (known x.setting (seen x) s at).exclusive ≡ Some lver → (g : Grant) × (exclusive_on (seen x) s at ≡ Some g)
unfolding known
known_exclusive x s at lver is = let v = mapped_value (λ (g : Grant). g.lver) (exclusive_on (seen x) s at) lver is in (v.0, v.1)

known_own : (x : Step) (s : Session) (at : Spot) (own : Block) → (known x.setting (seen x) s at).own ≡ Some own → block_submitted (lease_calls x.setting (seen x) s at) ≡ Some own
unfolding known
known_own x s at own is = is

-- Of a job that converts, what is held there.
converting_beside : (x : Step) (s : Session) (j : ℕ) (step : LeaseStep) (m : Submitted) (mode : Mode) → (l : Led x s (ForJob j) step m Written (Converts mode)) → (h : Grant) → Contains (holdings (seen x)) h
    → same_place h.path h.offset (spot_at x m).path (spot_at x m).base ≡ true
    → (process_named (job_led x s j step m Written (Converts mode) l).command ≡ Some h.process) × (same_truth (is_shared h.mode) (is_shared mode) ≡ false)
converting_beside x s j step m mode l h there same = beside_job x s j step m Written (Converts mode) l (job_led x s j step m Written (Converts mode) l) h there same

become_shared : (x : Step) (s : Session) (j : ℕ) (step : LeaseStep) (m : Submitted) (mode : Mode) (lver : ℕ) (w : Leader) → Led x s (ForJob j) step m Written (Converts mode)
    → (known x.setting (seen x) s (spot_at x m)).exclusive ≡ Some lver → HoldsAt (carry_lease s (spot_at x m) (ForJob j) (BecomeShared lver w) x)
become_shared x s j step m mode lver w l exclusive =
    let k = job_led x s j step m Written (Converts mode) l in
    let g = known_exclusive x s (spot_at x m) lver exclusive in
    let f = find_inside (λ (e : Grant). not (is_shared e.mode)) (holdings_on (seen x) s (spot_at x m)) g.0 g.1 in
    let on = kept_inside (λ (e : Grant). same_place e.path e.offset (spot_at x m).path (spot_at x m).base) (holdings_of (seen x) s) g.0 f.0 in
    let of = kept_inside (λ (e : Grant). e.session == s.number) (holdings (seen x)) g.0 on.0 in
    become_shared_held x s (spot_at x m) j k.command w lver g.0 l.whole.0.facts.holdings l.whole.0.setting (has_heard x s m Written l.hears) (spot_aligned x.setting.layout m) l.hears.ungranted k.named
    (converting_beside x s j step m mode l g.0 of.0 on.1).0 g.1

become_exclusive : (x : Step) (s : Session) (j : ℕ) (m : Submitted) (lver : ℕ) (b own : Block) → Led x s (ForJob j) TakeLeader m Written (Converts Exclusive) → lver ≡ lver_written m
    → (known x.setting (seen x) s (spot_at x m)).own ≡ Some own → b ≡ moded_block own false 0 → HoldsAt (carry_lease s (spot_at x m) (ForJob j) (BecomeExclusive lver b) x)
become_exclusive x s j m lver b own l under known_is written = by (process_named k.command) refl where
  k : JobLed x m j TakeLeader (Converts Exclusive)
  k = job_led x s j TakeLeader m Written (Converts Exclusive) l

  stands : StandsExclusive x.setting (seen x) (heard_by x.input) s (spot_at x m) lver
  stands =
      subst (λ n. StandsExclusive x.setting (seen x) (heard_by x.input) s (spot_at x m) n) (sym under)
      (l.whole.0.facts.grounds.converted s m j k.command (done_work x s j TakeLeader m (Converts Exclusive) l) k.aimed)

  is_mode : (b : Bool) → same_truth b false ≡ false → b ≡ true
  is_mode true h = refl
  is_mode false h = absurd (true_is_false h)

  process_of : (c : Command) → aim_of_command c ≡ Some (Converts Exclusive) → process_named c ≡ None → ⊥
  process_of (Convert r shared p) aim none = none_some p (sym none)
  process_of (Acquire r shared p persistent) aim none = none_some p (sym none)
  process_of (TakeOver r shared p persistent) aim none = none_some p (sym none)
  process_of (Release r p) aim none = none_some p (sym none)
  process_of (GetLvb r p) aim none = none_some p (sym none)
  process_of (SetLvb r p bytes) aim none = none_some p (sym none)
  process_of (SetKillpath p path) aim none = none_some p (sym none)
  process_of (RunProgram r shared path) aim none = false_is_true (ap (λ o. is_conversion o) aim) where
    is_conversion : Option Aim → Bool
    is_conversion (Some (Converts mode)) = true
    is_conversion o = false
  process_of (ReleaseOrphan r) aim none = false_is_true (ap (λ o. is_conversion o) aim) where
    is_conversion : Option Aim → Bool
    is_conversion (Some (Converts mode)) = true
    is_conversion o = false
  process_of (Request r lver force) aim none = none_some (Converts Exclusive) aim
  process_of (AddLockspace a) aim none = none_some (Converts Exclusive) aim
  process_of (RemLockspace a) aim none = none_some (Converts Exclusive) aim
  process_of (InqLockspace a) aim none = none_some (Converts Exclusive) aim
  process_of (HostStatus a) aim none = none_some (Converts Exclusive) aim
  process_of Status aim none = none_some (Converts Exclusive) aim

  by : (o : Option ℕ) → process_named k.command ≡ o → HoldsAt (carry_lease s (spot_at x m) (ForJob j) (BecomeExclusive lver b) x)
  by None none = absurd (process_of k.command k.aimed none)
  by (Some p) named =
      become_exclusive_held x s (spot_at x m) j k.command p b own lver l.whole.0.facts.holdings l.whole.0.setting (has_heard x s m Written l.hears) (spot_aligned x.setting.layout m) l.hears.ungranted k.named named
      (λ h there same. (
      let may = converting_beside x s j TakeLeader m Exclusive l h there same in
      (some_value h.process p (sym may.0 ∙ named), is_mode (is_shared h.mode) may.1)
      )) stands (known_own x s (spot_at x m) own known_is) written

-- ---- the whole

pub led_held : (x : Step) (s : Session) (work : Work) (step : LeaseStep) (m : Submitted) (answer : Answer) (aim : Aim) → Led x s work step m answer aim
    → HoldsAt (carry_lease s (spot_at x m) work (next_of_lease x.setting (seen x) s (spot_at x m) aim m step answer) x)
led_held x s work step m answer aim l =
    by work l (next_of_lease x.setting (seen x) s (spot_at x m) aim m step answer) refl (next_fits (lease_place x.setting s) (known x.setting (seen x) s (spot_at x m)) aim m.call.number (lver_written m) step answer) where
      plainly : (w : Work) → Led x s w step m answer aim → (next : LeaseNext) → next_of_lease x.setting (seen x) s (spot_at x m) aim m step answer ≡ next → IsNoGrant next → HoldsAt (carry_lease s (spot_at x m) w next x)
      plainly w k next is plain =
          carried_held x s (spot_at x m) w next k.whole.0.facts.holdings k.whole.0.setting (has_heard x s m answer k.hears) (spot_aligned x.setting.layout m) (led_beside x s w step m answer aim k next is plain) plain

      no_job : {a : Aim} → Led x s Settling step m answer aim → aim ≡ a → (Settles ≡ a → ⊥) → ⊥
      no_job {a} k is never = never (settles_only k ∙ is)

      settles : Aim → Bool
      settles Settles = true
      settles a = false

      by : (w : Work) → Led x s w step m answer aim → (next : LeaseNext) → next_of_lease x.setting (seen x) s (spot_at x m) aim m step answer ≡ next
          → IsFitNext (known x.setting (seen x) s (spot_at x m)) aim (lver_written m) step answer (next_of_lease x.setting (seen x) s (spot_at x m) aim m step answer) → HoldsAt (carry_lease s (spot_at x m) w next x)
      by w k Nothing is fit = plainly w k Nothing is tt
      by w k (ReadFor at) is fit = plainly w k (ReadFor at) is tt
      by w k (WriteBlock at b) is fit = plainly w k (WriteBlock at b) is tt
      by w k (WriteLeader at v) is fit = plainly w k (WriteLeader at v) is tt
      by w k (AnswerJob r) is fit = plainly w k (AnswerJob r) is (subst (λ z. IsFitNext (known x.setting (seen x) s (spot_at x m)) aim (lver_written m) step answer z) is fit)
      by (ForJob j) k (GrantJob mode lver) is fit =
          let f = subst (λ z. IsFitNext (known x.setting (seen x) s (spot_at x m)) aim (lver_written m) step answer z) is fit in
          granted x s j step m aim mode lver (subst (λ a. Led x s (ForJob j) step m a aim) f.0 k) f.1 f.2
      by (ForJob j) k (BecomeShared lver v) is fit =
          let f = subst (λ z. IsFitNext (known x.setting (seen x) s (spot_at x m)) aim (lver_written m) step answer z) is fit in
          become_shared x s j step m f.2.0 lver v (subst (λ a. Led x s (ForJob j) step m Written a) f.2.1 (subst (λ a. Led x s (ForJob j) step m a aim) f.0 k)) f.3
      by (ForJob j) k (BecomeExclusive lver b) is fit =
          let f = subst (λ z. IsFitNext (known x.setting (seen x) s (spot_at x m)) aim (lver_written m) step answer z) is fit in
          become_exclusive x s j m lver b f.4.0
          (subst (λ z. Led x s (ForJob j) z m Written (Converts Exclusive)) f.1 (subst (λ a. Led x s (ForJob j) step m Written a) f.2 (subst (λ a. Led x s (ForJob j) step m a aim) f.0 k))) f.3 f.4.1 f.4.2
      by Settling k (GrantJob mode lver) is fit =
          let f = subst (λ z. IsFitNext (known x.setting (seen x) s (spot_at x m)) aim (lver_written m) step answer z) is fit in
          absurd (granted_aim f.2) where
            granted_aim : IsGrantOf aim step mode → ⊥
            granted_aim (inl t) = no_job k t.2 (λ same. true_is_false (ap (λ a. settles a) same))
            granted_aim (inr t) = no_job k t.2.1 (λ same. true_is_false (ap (λ a. settles a) same))
      by Settling k (BecomeShared lver v) is fit =
          let f = subst (λ z. IsFitNext (known x.setting (seen x) s (spot_at x m)) aim (lver_written m) step answer z) is fit in
          absurd (no_job k f.2.1 (λ same. true_is_false (ap (λ a. settles a) same)))
      by Settling k (BecomeExclusive lver b) is fit =
          let f = subst (λ z. IsFitNext (known x.setting (seen x) s (spot_at x m)) aim (lver_written m) step answer z) is fit in
          absurd (no_job k f.2 (λ same. true_is_false (ap (λ a. settles a) same)))
