-- The answer of a lease's call keeps the facts of a job's work: the next call is of the same work, and where it is granted nobody else
-- works there.
use Rattle.sl_due_facts.proofs.Acts.InputsKeep.{has_heard}
use Rattle.sl_due_facts.proofs.Acts.Pairs.Decisions.{asked_is, bytes_are, next_is}
use Rattle.sl_due_facts.specs.Acts.TraceSoFar.{entry_of}
use Rattle.sl_area.specs.AreaLayout.{area_sectors, block_offset, block_place, block_sectors, leader_offset}
use Rattle.sl_area.specs.AreaRecords.{block_record, leader_record}
use Rattle.sl_due.specs.CarriedLease.{carry_lease, convert_for, convert_holding, for_work, grant_for, grant_of, held_otherwise, lease_call, name_on, next_of_lease, next_turn, read_for, with_command}
use Rattle.sl_due.specs.Steps.{Step, add_end, add_grant, add_reply, seen, with_some}
use Rattle.sl_due_leases.proofs.Grants.WorksByEffects.{CallsOwned, IsNewWork, WorksAt, call_works, end_works, not_work, reply_works, start_works}
use Rattle.sl_due_leases.proofs.Grants.WorksByGrants.{NobodyWorksAt, grant_works}
use Rattle.sl_due_leases.proofs.Holdings.HoldingsByAnswers.{JobLed, Led, beside_job, job_led, on_resource, spot_at}
use Rattle.sl_due_leases.proofs.Holdings.HoldingsByCalls.{call_added}
use Rattle.sl_due_leases.proofs.Holdings.HoldingsByEffects.{later_same}
use Rattle.sl_due_leases.proofs.Holdings.LeaseCallers.{heard_answered, heard_call, heard_opens, heard_session, on_own_area, spot_aligned}
use Rattle.sl_due_leases.proofs.Holdings.LeaseConversions.{converted, otherwise, spot_is}
use Rattle.sl_due_leases.proofs.Holdings.LeaseNexts.{IsFitNext, next_fits}
use Rattle.sl_due_leases.proofs.Holdings.LeasePlaces.{base_on, blocks_on, one_area, own_on}
use Rattle.sl_due_leases.proofs.Ways.WayFactsHeld.PlacesStand.{id_in_range}
use Rattle.sl_run.specs.Lawful.{IsSetting}
use Rattle.sl_run.specs.LawfulArea.{is_area_work}
use Rattle.sl_run.specs.LawfulModes.{shared_since}
use Rattle.sl_trace.specs.Jobs.{aim_of_command, command_numbered, process_named, resource_named}
use Rattle.sl_trace.specs.LeaseDecisions.{LeasePlace, leader_for, lease_next, lease_place}
use Rattle.sl_trace.specs.Leases.{LeaseKnown, has_shared_on, is_on, known, lver_written, spot_of, spot_of_call}
use Rattle.sl_trace.specs.declared.lease.Aim.TheVariants.{Acquires, Converts, Releases, Settles}
use Rattle.sl_trace.specs.declared.lease.Aim.{Aim}
use Rattle.sl_trace.specs.declared.lease.LeaseNext.TheVariants.{AnswerJob, BecomeExclusive, BecomeShared, GrantJob, Nothing, ReadFor, WriteBlock, WriteLeader}
use Rattle.sl_trace.specs.declared.lease.LeaseNext.{LeaseNext}
use Rattle.sl_words.proofs.Lists.{got_inside}
use Rattle.sl_words.proofs.Numbers.{below_suc, trans_le}
use Rattle.sl_sector.specs.declared.sector.Block.{Block}
use Rattle.sl_trace.specs.Sessions.{session_numbered, sessions}
use Rattle.sl_trace.specs.declared.session.Session.{Session}
use Rattle.sl_due_facts.specs.Facts.WorkFacts.{MayBeHeld}
use Rattle.sl_trace.specs.Traces.{Setting, Submitted, Trace, end_of, is_before_input, job_of, new_call, next_child, same_place, spot_of_grant, submitted, work_job}
use Rattle.sl_trace.specs.declared.command.Command.TheVariants.{Acquire, AddLockspace, Convert, GetLvb, HostStatus, InqLockspace, Release, ReleaseOrphan, RemLockspace, Request, RunProgram, SetKillpath, SetLvb, Status, TakeOver}
use Rattle.sl_trace.specs.declared.command.Command.{Command}
use Rattle.sl_trace.specs.declared.command.ResourceArg.{ResourceArg}
use Rattle.sl_trace.specs.declared.effects.Call.{Call}
use Rattle.sl_trace.specs.declared.effects.Grant.{Grant}
use Rattle.sl_trace.specs.declared.effects.LeaseRead.TheVariants.{OfArea, OfBlock, OfFree, OfPhase1, OfPhase2}
use Rattle.sl_trace.specs.declared.effects.LeaseStep.TheVariants.{ClearMode, FreeLeader, Phase1Read, Phase1Write, Phase2Read, Phase2Write, ReadAgain, ReadArea, ReadBeforeBlock, ReadBeforeFree, SetMode, TakeLeader}
use Rattle.sl_trace.specs.declared.effects.LeaseStep.{LeaseStep}
use Rattle.sl_trace.specs.declared.effects.Mode.TheVariants.{Exclusive, Shared}
use Rattle.sl_trace.specs.declared.effects.Mode.{Mode}
use Rattle.sl_trace.specs.declared.effects.Op.TheVariants.{ReadSectors, WriteRecord}
use Rattle.sl_trace.specs.declared.effects.Op.{Op}
use Rattle.sl_trace.specs.declared.effects.Purpose.TheVariants.{Lease}
use Rattle.sl_trace.specs.declared.effects.Purpose.{Purpose}
use Rattle.sl_trace.specs.declared.effects.Spot.{Spot}
use Rattle.sl_trace.specs.declared.effects.Work.TheVariants.{ForJob, Settling}
use Rattle.sl_trace.specs.declared.effects.Work.{Work}
use Rattle.sl_trace.specs.declared.input.Answer.TheVariants.{Failed, Read, Written}
use Rattle.sl_trace.specs.declared.input.Answer.{Answer}
use Rattle.sl_trace.specs.declared.reply.Reply.TheVariants.{Granted}
use Rattle.sl_trace.specs.declared.reply.Reply.{Reply}
use Rattle.sl_words.proofs.CaseLaws.{none_some, no_value, not_both, one_value, some_value, true_is_false}
use Rattle.std.proofs.Common.{ap, inl, refl, subst, sym, ◌∙◌}
use Rattle.std.proofs.lemmas.Bool.{le-leb, leb-true}
use Rattle.std.specs.Option.{option_map_or}
use Rattle.std.specs.Prelude.{Bool, Contains, IsSome, None, Option, Some, [], false, length, nat_le, true, ℕ, ◌%◌, ◌&&◌, ◌||◌, ◌∷◌, ◌≡◌, ◌≤◌}

-- ---- what a purpose says

abbrev step_in : LeaseStep → Purpose → LeaseStep
step_in d (Lease work step) = step
step_in d p = d

pub one_job : (i j : ℕ) (a b : LeaseStep) → Lease (ForJob i) a ≡ Lease (ForJob j) b → (i ≡ j) × (a ≡ b)
one_job i j a b is = (some_value i j (ap (λ p. job_of p) is), ap (λ p. step_in b p) is)

pub settling_no_job : (j : ℕ) (a b : LeaseStep) → Lease Settling a ≡ Lease (ForJob j) b → ⊥
settling_no_job j a b is = none_some j (ap (λ p. job_of p) is)

pub held_as : (m n : Submitted) (c : Command) (aim : Aim) (h : Grant) → m.call.session ≡ n.call.session → MayBeHeld m c aim h → MayBeHeld n c aim h
held_as m n c (Acquires mode) h same k = (k.0, k.1, λ is. k.2 (is ∙ sym same), k.3)
held_as m n c (Converts mode) h same k = k
held_as m n c Releases h same k = λ is. k (is ∙ sym same)
held_as m n c Settles h same k = tt

-- ---- where a call stands

pub new_spot : (st : Setting) (at : Spot) (c : Call) → IsSetting st → at.base % st.layout.area ≡ 0 → is_on st.layout at c ≡ true → spot_of_call st.layout (new_call 0 0 c) ≡ at
new_spot st at c is aligned on = one_area st.layout (spot_of_call st.layout (new_call 0 0 c)) at (new_call 0 0 c) (spot_aligned st.layout (new_call 0 0 c)) aligned (on_own_area st (new_call 0 0 c) is) on

-- ---- since

since_more : (a b : ℕ) (t : Trace) (s : Session) (at : Spot) → a ≤ b → shared_since a t s at ≡ false → shared_since b t s at ≡ false
since_more a b [] s at le none = refl
since_more a b (e ∷ es) s at le none =
    by (nat_le b (length es)) refl (since_more a b es s at le (right (nat_le a (length es) && has_shared_on es s at) (shared_since a es s at) none)) where
      right : (x y : Bool) → (x || y) ≡ false → y ≡ false
      right true y h = absurd (true_is_false h)
      right false y h = h

      left : (x y z : Bool) → ((x && y) || z) ≡ false → x ≡ true → y ≡ false
      left true true z h is = absurd (true_is_false h)
      left true false z h is = refl
      left false y z h is = absurd (true_is_false (sym is))

      none_left : (x y : Bool) → ((x && false) || y) ≡ y
      none_left true y = refl
      none_left false y = refl

      by : (x : Bool) → nat_le b (length es) ≡ x → shared_since b es s at ≡ false → ((nat_le b (length es) && has_shared_on es s at) || shared_since b es s at) ≡ false
      by false is rest = ap (λ x. (x && has_shared_on es s at) || shared_since b es s at) is ∙ rest
      by true is rest =
          let low : nat_le a (length es) ≡ true = le-leb a (length es) (trans_le a b (length es) le (leb-true b (length es) is)) in
          ap (λ y. (nat_le b (length es) && y) || shared_since b es s at) (left (nat_le a (length es)) (has_shared_on es s at) (shared_since a es s at) none low)
          ∙ (none_left (nat_le b (length es)) (shared_since b es s at) ∙ rest)

-- ---- one more call of the same work

owned : (x : Step) (s : Session) (work : Work) (step : LeaseStep) (m : Submitted) (answer : Answer) (aim : Aim) → Led x s work step m answer aim → CallsOwned x
owned x s work step m answer aim l n there = l.whole.0.facts.calls.owned n there

-- No other call of the job waits.
lone : (x : Step) (s : Session) (j : ℕ) (step : LeaseStep) (m : Submitted) (answer : Answer) (aim : Aim) → Led x s (ForJob j) step m answer aim → (n : Submitted) (earlier : LeaseStep) → Contains (submitted (seen x)) n → n.answer ≡ None
    → n.call.purpose ≡ Lease (ForJob j) earlier → ⊥
lone x s j step m answer aim l n earlier there none purpose =
    let same : m ≡ n =
    l.whole.0.facts.jobs.one m n j (heard_call x s m answer l.hears).0 there (heard_opens x s m answer l.hears) (inl none) (ap (λ p. job_of p) l.purpose) (ap (λ p. job_of p) purpose) in
    let a = heard_answered x s m answer l.whole.0.facts.calls l.whole.0.orderly l.hears in
    no_value a.0 n.answer (ap (λ (d : Submitted). d.answer) (sym same) ∙ a.1) none

-- A conversion to shared makes no further call for its job.
abbrev is_call : LeaseNext → Bool
is_call (ReadFor step) = true
is_call (WriteBlock step b) = true
is_call (WriteLeader step l) = true
is_call n = false

moding_calls_none : (p : LeasePlace) (k : LeaseKnown) (mode : Mode) (call i : ℕ) (answer : Answer) → is_call (lease_next p k (Converts mode) call i SetMode answer) ≡ false
unfolding lease_next
moding_calls_none p k mode call i (Read bytes) =
    bytes_are (λ z. is_call z ≡ false) p k (Converts mode) bytes SetMode (λ read is. absurd (none_some read (asked_is p.layout bytes SetMode read is).first)) (λ once. refl)
moding_calls_none p k mode call i Failed = refl
moding_calls_none p k mode call i Written = by k.exclusive where
  by : (o : Option ℕ) → is_call (option_map_or (λ e. BecomeShared e (leader_for p k false e)) o Nothing) ≡ false
  by None = refl
  by (Some e) = refl

new_work : (x : Step) (s : Session) (j : ℕ) (step : LeaseStep) (m : Submitted) (answer : Answer) (aim : Aim) → Led x s (ForJob j) step m answer aim → (next : LeaseNext)
    → next_of_lease x.setting (seen x) s (spot_at x m) aim m step answer ≡ next → is_call next ≡ true → (c : Call) (further : LeaseStep) → c.purpose ≡ Lease (ForJob j) further → c.session ≡ s.number
    → is_on x.setting.layout (spot_at x m) c ≡ true → IsNewWork x c
new_work x s j step m answer aim l next is calls c further purpose session on =
    record {
      beside = λ i at d b h its runs named aimed there same.
          let o = one_job j i further at (sym purpose ∙ its) in
          let same_d : k.command ≡ d = known_command i d o.0 named in
          let same_aim : aim ≡ b = some_value aim b (sym k.aimed ∙ (ap (λ z. aim_of_command z) same_d ∙ aimed)) in
          subst (λ z. MayBeHeld v z b h) same_d (subst (λ z. MayBeHeld v k.command z h) same_aim
          (held_as m v k.command aim h (heard_session x s m answer l.hears ∙ sym session)
          (beside_job x s j step m answer aim l k h there (subst (λ (z : Spot). same_place h.path h.offset z.path z.base ≡ true) spot same))));
      modes = λ i at d its runs named aimed.
          let o = one_job j i further at (sym purpose ∙ its) in
          let same_d : k.command ≡ d = known_command i d o.0 named in
          let to_shared : aim ≡ Converts Shared = some_value aim (Converts Shared) (sym k.aimed ∙ (ap (λ z. aim_of_command z) same_d ∙ aimed)) in
          let moding : step ≡ SetMode = l.whole.0.facts.works.modes m j step k.command k.work (k.aimed ∙ ap (λ z. Some z) to_shared) in
          absurd (not_both (is_call next) calls (ap (λ z. is_call z) (sym is)
          ∙ (ap (λ z. is_call (next_of_lease x.setting (seen x) s (spot_at x m) z m step answer)) to_shared
          ∙ (ap (λ z. is_call (next_of_lease x.setting (seen x) s (spot_at x m) (Converts Shared) m z answer)) moding
          ∙ next_is (λ z. is_call z ≡ false) x.setting (seen x) s (spot_at x m) (Converts Shared) m SetMode answer
          (λ fits. moding_calls_none (lease_place x.setting s) (known x.setting (seen x) s (spot_at x m)) Shared m.call.number (lver_written m) answer) (λ paired over writes. refl)))));
      acts = λ i at d p its runs named process.
          let o = one_job j i further at (sym purpose ∙ its) in
          l.whole.0.facts.works.acts m j step k.command p k.work (ap (λ z. process_named z) (known_command i d o.0 named) ∙ process);
      unshared = λ i at d mode q its runs named aimed session_is.
          let o = one_job j i further at (sym purpose ∙ its) in
          let same_d : k.command ≡ d = known_command i d o.0 named in
          let aim_is : aim_of_command k.command ≡ Some (Acquires mode) = ap (λ z. aim_of_command z) same_d ∙ aimed in
          let m_session : session_numbered x.setting (seen x) m.call.session ≡ Some q =
          ap (λ n. session_numbered x.setting (seen x) n) (heard_session x s m answer l.hears ∙ sym session) ∙ session_is in (
            subst (λ z. shared_since (length x.past) (seen x) q z ≡ false) (sym spot)
                (since_more m.at (length x.past) (seen x) q (spot_at x m) (below_suc m.at (length x.past) (l.whole.0.facts.calls.made m (heard_call x s m answer l.hears).0))
                (l.whole.0.facts.works.unshared m m j step step k.command mode q k.work aim_is m_session (heard_call x s m answer l.hears).0 l.purpose)),
            λ e earlier there of.
                subst (λ z. shared_since e.at (seen x) q z ≡ false) (sym spot)
                (l.whole.0.facts.works.unshared m e j step earlier k.command mode q k.work aim_is m_session there (of ∙ ap (λ n. Lease (ForJob n) earlier) (sym o.0))),
          );
      known = λ i at its. subst (λ n. IsSome (session_numbered x.setting (seen x) n)) (sym session) (subst (λ o. IsSome o) (sym (has_heard x s m answer l.hears)) refl);
      lone = λ i at n earlier its there none of.
          let o = one_job j i further at (sym purpose ∙ its) in
          lone x s j step m answer aim l n earlier there none (of ∙ ap (λ z. Lease (ForJob z) earlier) (sym o.0));
    } where
      k : JobLed x m j step aim
      k = job_led x s j step m answer aim l

      v : Submitted
      v = new_call (length x.past) x.reading c

      spot : spot_of_call x.setting.layout v ≡ spot_at x m
      spot = new_spot x.setting (spot_at x m) c l.whole.0.setting (spot_aligned x.setting.layout m) on

      known_command : (i : ℕ) (d : Command) → j ≡ i → command_numbered x.setting (seen x) i ≡ Some d → k.command ≡ d
      known_command i d same named = one_value k.command d (command_numbered x.setting (seen x) i) (subst (λ n. command_numbered x.setting (seen x) n ≡ Some k.command) same k.named) named

-- ---- what is called next

call_next : (x : Step) (s : Session) (work : Work) (step : LeaseStep) (m : Submitted) (answer : Answer) (aim : Aim) → Led x s work step m answer aim → (next : LeaseNext)
    → next_of_lease x.setting (seen x) s (spot_at x m) aim m step answer ≡ next → is_call next ≡ true → (further : LeaseStep) (o : ℕ) (op : Op)
    → is_on x.setting.layout (spot_at x m) (call_added s.number (spot_at x m).path (Lease work further) o op x) ≡ true → WorksAt (lease_call s (spot_at x m) work further o op x)
call_next x s Settling step m answer aim l next is calls further o op on =
    call_works x s.number (spot_at x m).path (Lease Settling further) o op (owned x s Settling step m answer aim l)
    (not_work x (call_added s.number (spot_at x m).path (Lease Settling further) o op x) (λ j b same. settling_no_job j further b same)) l.whole.0.facts.works
call_next x s (ForJob j) step m answer aim l next is calls further o op on =
    call_works x s.number (spot_at x m).path (Lease (ForJob j) further) o op (owned x s (ForJob j) step m answer aim l)
    (new_work x s j step m answer aim l next is calls (call_added s.number (spot_at x m).path (Lease (ForJob j) further) o op x) further refl refl on) l.whole.0.facts.works

-- ---- what is granted

-- Nobody else works where the call was answered.
pub nobody_there : (x : Step) (s : Session) (work : Work) (step : LeaseStep) (m : Submitted) (answer : Answer) (aim : Aim) → Led x s work step m answer aim → (g : Grant)
    → spot_of_grant g ≡ spot_at x m → NobodyWorksAt x g
nobody_there x s work step m answer aim l g at n j b there none purpose same =
    let spot : spot_of_grant g ≡ spot_of_call x.setting.layout n = spot_is g (spot_of_call x.setting.layout n) same in
    let one : m ≡ n =
    l.whole.0.facts.turns.one m n (heard_call x s m answer l.hears).0 there (heard_opens x s m answer l.hears) (inl none) (ap (λ p. is_area_work p) l.purpose) (ap (λ p. is_area_work p) purpose) (sym at ∙ spot) in
    let a = heard_answered x s m answer l.whole.0.facts.calls l.whole.0.orderly l.hears in
    no_value a.0 n.answer (ap (λ (d : Submitted). d.answer) (sym one) ∙ a.1) none

process_works : (x : Step) (j : ℕ) (g : Grant) (lver : ℕ) → NobodyWorksAt x g → WorksAt x → WorksAt (add_reply j (Granted lver) (add_grant g x))
process_works x j g lver nobody h =
    let y : Step = add_grant g x in
    reply_works y j (Granted lver) (later_same y.past (entry_of y) (record { job = j; reply = Granted lver }) refl) (grant_works x g nobody h)

pub granted_works : (x : Step) (s : Session) (j : ℕ) (c : Command) (mode : Mode) (lver : ℕ) → ((r : ResourceArg) (p : ℕ) (persistent : Bool) → resource_named c ≡ Some r → NobodyWorksAt x (grant_of s r p mode lver persistent))
    → WorksAt x → WorksAt (grant_for s j c mode lver x)
granted_works x s j (Acquire r shared p persistent) mode lver nobody h = process_works x j (grant_of s r p mode lver persistent) lver (nobody r p persistent refl) h
granted_works x s j (TakeOver r shared p persistent) mode lver nobody h = process_works x j (grant_of s r p mode lver persistent) lver (nobody r p persistent refl) h
granted_works x s j (RunProgram r shared path) mode lver nobody h =
    start_works (add_grant (grant_of s r (next_child (seen x)) mode lver false) x) (record { process = next_child (seen x); program = path; job = Some j; stands_for = None })
    (grant_works x (grant_of s r (next_child (seen x)) mode lver false) (nobody r (next_child (seen x)) false refl) h)
granted_works x s j (AddLockspace a) mode lver nobody h = h
granted_works x s j (RemLockspace a) mode lver nobody h = h
granted_works x s j (InqLockspace a) mode lver nobody h = h
granted_works x s j (HostStatus a) mode lver nobody h = h
granted_works x s j (Release r p) mode lver nobody h = h
granted_works x s j (ReleaseOrphan r) mode lver nobody h = h
granted_works x s j (Convert r shared p) mode lver nobody h = h
granted_works x s j (Request r v how) mode lver nobody h = h
granted_works x s j (GetLvb r p) mode lver nobody h = h
granted_works x s j (SetLvb r p bytes) mode lver nobody h = h
granted_works x s j (SetKillpath p path) mode lver nobody h = h
granted_works x s j Status mode lver nobody h = h

-- ---- what is converted

converting_works : (x : Step) (j : ℕ) (g : Grant) (mode : Mode) (lver : ℕ) → NobodyWorksAt x (converted g mode lver) → WorksAt x → WorksAt (convert_holding j mode lver g x)
converting_works x j g mode lver nobody h = process_works (add_end (end_of g) x) j (converted g mode lver) lver nobody (end_works x (end_of g) h)

abbrev Both : Step → Type 0
Both z = WorksAt z × CallsOwned z

become_works : (x : Step) (s : Session) (j : ℕ) (step : LeaseStep) (m : Submitted) (answer : Answer) (aim : Aim) → Led x s (ForJob j) step m answer aim → (mode : Mode) (lver : ℕ)
    → Both (for_work (ForJob j) (λ k. with_command k (λ c. convert_for s (spot_at x m) k c mode lver)) x)
become_works x s j step m answer aim l mode lver = by_command (command_numbered x.setting (seen x) j) where
  first : Both x
  first = (l.whole.0.facts.works, owned x s (ForJob j) step m answer aim l)

  found : (p : ℕ) (o : Option Grant) → held_otherwise (seen x) s (spot_at x m) p mode ≡ o → Both (with_some o (convert_holding j mode lver) x)
  found p None is = first
  found p (Some g) is =
      let w = otherwise x s (spot_at x m) p mode g is in
      let y : Step = add_grant (converted g mode lver) (add_end (end_of g) x) in (
        converting_works x j g mode lver (nobody_there x s (ForJob j) step m answer aim l (converted g mode lver) (spot_is g (spot_at x m) w.2)) l.whole.0.facts.works,
        λ n there. first.1 n (subst (λ ms. Contains ms n) (later_same y.past (entry_of y) (record { job = j; reply = Granted lver }) refl) there),
      )

  by_process : (o : Option ℕ) → Both (with_some o (λ p y. with_some (held_otherwise (seen y) s (spot_at x m) p mode) (convert_holding j mode lver) y) x)
  by_process None = first
  by_process (Some p) = found p (held_otherwise (seen x) s (spot_at x m) p mode) refl

  by_command : (o : Option Command) → Both (with_some o (λ c. convert_for s (spot_at x m) j c mode lver) x)
  by_command None = first
  by_command (Some c) = by_process (process_named c)

-- ---- the whole

pub led_works : (x : Step) (s : Session) (work : Work) (step : LeaseStep) (m : Submitted) (answer : Answer) (aim : Aim) → Led x s work step m answer aim
    → WorksAt (carry_lease s (spot_at x m) work (next_of_lease x.setting (seen x) s (spot_at x m) aim m step answer) x)
unfolding carry_lease
led_works x s work step m answer aim l =
    by work l (next_of_lease x.setting (seen x) s (spot_at x m) aim m step answer) refl (next_fits (lease_place x.setting s) (known x.setting (seen x) s (spot_at x m)) aim m.call.number (lver_written m) step answer) where
      st : Setting
      st = x.setting

      id : (1 ≤ s.id) × (s.id ≤ st.layout.hosts)
      id = id_in_range st l.whole.0.setting (seen x) s (got_inside (sessions st (seen x)) s.number s (has_heard x s m answer l.hears))

      h : WorksAt x
      h = l.whole.0.facts.works

      place : Step → ℕ
      place y = block_place y.setting.layout (spot_at x m).base s.id (next_turn y.setting (seen y) s (spot_at x m))

      writes : Step → Block → Op
      writes y b = WriteRecord (block_record y.setting.layout (next_turn y.setting (seen y) s (spot_at x m)) s.lockspace (name_on y.setting (seen y) s (spot_at x m)) b)

      blocks : (w : Work) → Led x s w step m answer aim → (at : LeaseStep) → next_of_lease x.setting (seen x) s (spot_at x m) aim m step answer ≡ ReadFor at
          → WorksAt (lease_call s (spot_at x m) w at (block_offset st.layout (spot_at x m).base 1) (ReadSectors (block_sectors st.layout)) x)
      blocks w k at is =
          call_next x s w step m answer aim k (ReadFor at) is refl at (block_offset st.layout (spot_at x m).base 1) (ReadSectors (block_sectors st.layout))
          (blocks_on st (spot_at x m) s.id (call_added s.number (spot_at x m).path (Lease w at) (block_offset st.layout (spot_at x m).base 1) (ReadSectors (block_sectors st.layout)) x) k.whole.0.setting id refl refl)

      area : (w : Work) → Led x s w step m answer aim → (at : LeaseStep) → next_of_lease x.setting (seen x) s (spot_at x m) aim m step answer ≡ ReadFor at
          → WorksAt (lease_call s (spot_at x m) w at (spot_at x m).base (ReadSectors (area_sectors st.layout)) x)
      area w k at is =
          call_next x s w step m answer aim k (ReadFor at) is refl at (spot_at x m).base (ReadSectors (area_sectors st.layout))
          (base_on st (spot_at x m) (call_added s.number (spot_at x m).path (Lease w at) (spot_at x m).base (ReadSectors (area_sectors st.layout)) x) k.whole.0.setting refl refl)

      reads : (w : Work) → Led x s w step m answer aim → (at : LeaseStep) → next_of_lease x.setting (seen x) s (spot_at x m) aim m step answer ≡ ReadFor at → WorksAt (read_for s (spot_at x m) w at x)
      reads w k (ReadArea name) is = area w k (ReadArea name) is
      reads w k ReadBeforeFree is = area w k ReadBeforeFree is
      reads w k (ReadAgain (OfArea name)) is = area w k (ReadAgain (OfArea name)) is
      reads w k (ReadAgain OfFree) is = area w k (ReadAgain OfFree) is
      reads w k (ReadAgain OfBlock) is = blocks w k (ReadAgain OfBlock) is
      reads w k (ReadAgain OfPhase1) is = blocks w k (ReadAgain OfPhase1) is
      reads w k (ReadAgain OfPhase2) is = blocks w k (ReadAgain OfPhase2) is
      reads w k ReadBeforeBlock is = blocks w k ReadBeforeBlock is
      reads w k Phase1Write is = blocks w k Phase1Write is
      reads w k Phase1Read is = blocks w k Phase1Read is
      reads w k Phase2Write is = blocks w k Phase2Write is
      reads w k Phase2Read is = blocks w k Phase2Read is
      reads w k TakeLeader is = blocks w k TakeLeader is
      reads w k SetMode is = blocks w k SetMode is
      reads w k FreeLeader is = blocks w k FreeLeader is
      reads w k ClearMode is = blocks w k ClearMode is

      told : (o : Option ℕ) (r : Reply) → is_before_input r ≡ false → WorksAt (with_some o (λ j. add_reply j r) x)
      told None r late = h
      told (Some j) r late = reply_works x j r (later_same x.past (entry_of x) (record { job = j; reply = r }) late) h

      granted : (j : ℕ) → Led x s (ForJob j) step m answer aim → (mode : Mode) (lver : ℕ) → WorksAt (for_work (ForJob j) (λ i. with_command i (λ c. grant_for s i c mode lver)) x)
      granted j k mode lver =
          let q = job_led x s j step m answer aim k in
          let r = on_resource x s j step m answer aim k in
          subst (λ o. WorksAt (with_some o (λ c. grant_for s j c mode lver) x)) (sym q.named)
          (granted_works x s j q.command mode lver
          (λ e p persistent named.
          nobody_there x s (ForJob j) step m answer aim k (grant_of s e p mode lver persistent)
          (ap (λ z. spot_of z) (sym (one_value r.resource e (resource_named q.command) r.named named)) ∙ sym r.spot)) h)

      by : (w : Work) → Led x s w step m answer aim → (next : LeaseNext) → next_of_lease x.setting (seen x) s (spot_at x m) aim m step answer ≡ next
          → IsFitNext (known x.setting (seen x) s (spot_at x m)) aim (lver_written m) step answer (next_of_lease x.setting (seen x) s (spot_at x m) aim m step answer) → WorksAt (carry_lease s (spot_at x m) w next x)
      by w k Nothing is fit = h
      by w k (ReadFor at) is fit = reads w k at is
      by w k (WriteBlock at b) is fit =
          call_next x s w step m answer aim k (WriteBlock at b) is refl at (place x) (writes x b)
          (own_on st (spot_at x m) s.id (next_turn st (seen x) s (spot_at x m)) (call_added s.number (spot_at x m).path (Lease w at) (place x) (writes x b) x) k.whole.0.setting id refl refl)
      by w k (WriteLeader at v) is fit =
          call_next x s w step m answer aim k (WriteLeader at v) is refl at (leader_offset (spot_at x m).base) (WriteRecord (leader_record st.layout v))
          (base_on st (spot_at x m) (call_added s.number (spot_at x m).path (Lease w at) (leader_offset (spot_at x m).base) (WriteRecord (leader_record st.layout v)) x) k.whole.0.setting refl refl)
      by w k (AnswerJob r) is fit = told (work_job w) r (subst (λ z. IsFitNext (known x.setting (seen x) s (spot_at x m)) aim (lver_written m) step answer z) is fit)
      by (ForJob j) k (GrantJob mode lver) is fit = granted j k mode lver
      by Settling k (GrantJob mode lver) is fit = h
      by (ForJob j) k (BecomeShared lver v) is fit =
          let z = become_works x s j step m answer aim k Shared lver in
          let y : Step = for_work (ForJob j) (λ i. with_command i (λ c. convert_for s (spot_at x m) i c Shared lver)) x in
          call_works y s.number (spot_at x m).path (Lease Settling FreeLeader) (leader_offset (spot_at x m).base) (WriteRecord (leader_record y.setting.layout v)) z.1
          (not_work y (call_added s.number (spot_at x m).path (Lease Settling FreeLeader) (leader_offset (spot_at x m).base) (WriteRecord (leader_record y.setting.layout v)) y) (λ i b same. settling_no_job i FreeLeader b same)) z.0
      by Settling k (BecomeShared lver v) is fit =
          call_works x s.number (spot_at x m).path (Lease Settling FreeLeader) (leader_offset (spot_at x m).base) (WriteRecord (leader_record st.layout v)) (owned x s Settling step m answer aim k)
          (not_work x (call_added s.number (spot_at x m).path (Lease Settling FreeLeader) (leader_offset (spot_at x m).base) (WriteRecord (leader_record st.layout v)) x) (λ i b same. settling_no_job i FreeLeader b same)) h
      by (ForJob j) k (BecomeExclusive lver b) is fit =
          let z = become_works x s j step m answer aim k Exclusive lver in
          let y : Step = for_work (ForJob j) (λ i. with_command i (λ c. convert_for s (spot_at x m) i c Exclusive lver)) x in
          call_works y s.number (spot_at x m).path (Lease Settling ClearMode) (place y) (writes y b) z.1
          (not_work y (call_added s.number (spot_at x m).path (Lease Settling ClearMode) (place y) (writes y b) y) (λ i c same. settling_no_job i ClearMode c same)) z.0
      by Settling k (BecomeExclusive lver b) is fit =
          call_works x s.number (spot_at x m).path (Lease Settling ClearMode) (place x) (writes x b) (owned x s Settling step m answer aim k)
          (not_work x (call_added s.number (spot_at x m).path (Lease Settling ClearMode) (place x) (writes x b) x) (λ i c same. settling_no_job i ClearMode c same)) h
