-- Where an answer to a job's lease was heard its job waits for the next call or a child's start, or is answered.
use Rattle.sl_due_facts.proofs.Acts.Pairs.Decisions.{next_is}
use Rattle.sl_due_facts.specs.Acts.Acts.{Hears}
use Rattle.sl_due_facts.specs.Acts.TraceSoFar.{entry_of}
use Rattle.sl_due.specs.CarriedLease.{carry_lease, convert_holding, goes_on, grant_for, grant_of, next_of_lease, read_for, write_block, write_leader, held_otherwise}
use Rattle.sl_due.specs.Steps.{Step, add_call_of, add_end, add_grant, add_reply, add_start, seen, with_some}
use Rattle.sl_due_leases.proofs.Holdings.HoldingsByAnswers.{JobLed, Led, beside_job, job_led}
use Rattle.sl_due_leases.proofs.Holdings.LeaseConversions.{after_converting, by_found}
use Rattle.sl_due_leases.proofs.Grants.WorksByLines.{held_before}
use Rattle.sl_due_leases.proofs.Grants.Values.ReadsByInputs.{has_number}
use Rattle.sl_due_facts.proofs.Jobs.JobsAreNumbered.{finds_none, found_after}
use Rattle.sl_due_facts.proofs.Jobs.SessionsStand.{reply_stops}
use Rattle.sl_due_facts.proofs.AddedEffects.EffectsAreTold.{effects_are_told}
use Rattle.sl_area.specs.Pairs.{BlocksRead, blocks_of}
use Rattle.sl_due_leases.proofs.Ways.GivenReads.{heard_by_lease}
use Rattle.sl_due_leases.proofs.Ways.WayFactsHeld.HeardStands.{HeardCall, heard_call}
use Rattle.sl_due_law.proofs.Causes.Leases.NewestWays.{NewestWays, newest_told, newest_ways}
use Rattle.sl_due_law.proofs.LawfulTraces.CallsSuit.{heard_suits}
use Rattle.sl_due_law.proofs.LawfulTraces.HeardBefore.{HeardBefore, heard_before, ran_past}
use Rattle.sl_due_law.proofs.LawfulTraces.LeasesGoOn.{GoesOn, LeaseGrounds, lease_goes_on, reads_at, refusal_goes}
use Rattle.sl_due_law.proofs.LawfulTraces.OwnBlocks.{own_behind, own_in_area}
use Rattle.sl_due_facts.specs.Facts.WayFacts.{After_take, In_conversion, ModeReason, PurposeWay, StepWay, WayContext, way_context}
use Rattle.sl_due_facts.specs.Facts.WorkFacts.{MayBeHeld}
use Rattle.sl_due_law.specs.LawfulTraces.Busy.{For_call, For_child}
use Rattle.sl_due_law.specs.LawfulTraces.JobLore.{HoldsThere, JobLore}
use Rattle.sl_due_law.specs.LawfulTraces.CarriedFacts.{Kept}
use Rattle.sl_due_law.specs.LawfulTraces.TraceLaws.{MayRest}
use Rattle.sl_trace.specs.Jobs.{aim_of, aim_of_command, process_named}
use Rattle.sl_sector.specs.declared.sector.PairBlock.{PairBlock}
use Rattle.sl_trace.specs.LeaseDecisions.{first_step, heard, lease_place, part_read, read_of_step}
use Rattle.sl_trace.specs.Leases.{exclusive_on, first_kept, holdings_on, known, lver_written, spot_of_call}
use Rattle.sl_trace.specs.declared.lease.Aim.TheVariants.{Acquires, Converts, Settles}
use Rattle.sl_trace.specs.declared.lease.Aim.{Aim}
use Rattle.sl_trace.specs.declared.lease.LeaseNext.TheVariants.{AnswerJob, BecomeExclusive, BecomeShared, GrantJob, Nothing, ReadFor, WriteBlock, WriteLeader}
use Rattle.sl_trace.specs.declared.lease.LeaseNext.{LeaseNext}
use Rattle.sl_words.proofs.Lists.{contains_first, find_fails, kept}
use Rattle.sl_words.proofs.Numbers.{number_itself}
use Rattle.sl_sector.specs.declared.sector.Block.{Block}
use Rattle.sl_due_leases.proofs.Holdings.LeaseCallers.{heard_session}
use Rattle.sl_trace.specs.Sessions.{holdings_of}
use Rattle.sl_trace.specs.declared.session.Session.{Session}
use Rattle.sl_trace.proofs.TraceFacts.{submitted-push}
use Rattle.sl_trace.specs.Traces.{Answered, Child, Setting, Submitted, bytes_given, children, end_of, gave, holdings, is_answer_for, is_running, is_shared, is_write, job_of, new_call, new_child, next_call, next_child, same_place, submitted, work_job}
use Rattle.sl_trace.specs.declared.command.Command.TheVariants.{Acquire, AddLockspace, Convert, GetLvb, HostStatus, InqLockspace, Release, ReleaseOrphan, RemLockspace, Request, RunProgram, SetKillpath, SetLvb, Status, TakeOver}
use Rattle.sl_trace.specs.declared.command.Command.{Command}
use Rattle.sl_trace.specs.declared.command.ResourceArg.{ResourceArg}
use Rattle.sl_trace.specs.declared.effects.Call.{Call}
use Rattle.sl_trace.specs.declared.effects.Grant.{Grant}
use Rattle.sl_trace.specs.declared.effects.LeaseRead.TheVariants.{OfArea, OfBlock, OfFree, OfPhase1, OfPhase2}
use Rattle.sl_trace.specs.declared.effects.LeaseStep.TheVariants.{ClearMode, FreeLeader, Phase1Read, Phase1Write, Phase2Read, Phase2Write, ReadAgain, ReadArea, ReadBeforeBlock, ReadBeforeFree, SetMode, TakeLeader}
use Rattle.sl_trace.specs.declared.effects.LeaseStep.{LeaseStep}
use Rattle.sl_trace.specs.declared.effects.Mode.TheVariants.{Exclusive, Shared}
use Rattle.sl_trace.specs.declared.effects.Mode.{Mode}
use Rattle.sl_trace.specs.declared.effects.Op.TheVariants.{ReadSectors, WriteRecord}
use Rattle.sl_trace.specs.declared.effects.Op.{Op}
use Rattle.sl_trace.specs.declared.effects.Purpose.TheVariants.{Lease}
use Rattle.sl_trace.specs.declared.effects.Purpose.{Purpose}
use Rattle.sl_trace.specs.declared.effects.Spot.{Spot}
use Rattle.sl_trace.specs.declared.effects.Start.{Start}
use Rattle.sl_trace.specs.declared.effects.Work.TheVariants.{ForJob, Settling}
use Rattle.sl_trace.specs.declared.effects.Work.{Work}
use Rattle.sl_trace.specs.declared.input.Answer.TheVariants.{Read, Written}
use Rattle.sl_trace.specs.declared.input.Answer.{Answer}
use Rattle.sl_trace.specs.declared.reply.Limited.TheVariants.{Turn as TurnLimit}
use Rattle.sl_trace.specs.declared.reply.Reply.TheVariants.{Granted, Limit as LimitReached}
use Rattle.sl_trace.specs.declared.reply.Reply.{Reply}
use Rattle.sl_words.proofs.CaseLaws.{false_is_true, is_false, none_some, not_both, some_value, true_is_false}
use Rattle.sl_words.specs.Words.{same_truth}
use Rattle.std.proofs.Common.{ap, arith, inl, refl, subst, sym, ◌∙◌}
use Rattle.std.proofs.lemmas.Bool.{eqb-true}
use Rattle.std.specs.Prelude.{Bool, Contains, IsTrue, List, None, Option, Some, [], cond, false, find, is_none, is_some, length, not, option_and_then, option_map, position, true, ℕ, ◌&&◌, ◌<◌, ◌==◌, ◌∷◌, ◌≡◌}

-- ---- what a job waits for next

-- A call of its own.
pub called_rests : (x : Step) (n : ℕ) (path : List ℕ) (p : Purpose) (o : ℕ) (op : Op) (j : ℕ) → job_of p ≡ Some j → MayRest (add_call_of n path p o op x) j
called_rests x n path p o op j of runs =
    let c : Call = record { number = next_call x.setting (seen x); session = n; purpose = p; path = path; offset = o; op = op } in
    For_call (new_call (length x.past) x.reading c)
    (subst (λ ms. Contains ms (new_call (length x.past) x.reading c)) (sym (submitted-push x.past (entry_of x) c)) (contains_first (new_call (length x.past) x.reading c) (submitted (seen x)))) (inl refl) of

pub replied_rests : (x : Step) (j : ℕ) (r : Reply) → MayRest (add_reply j r x) j
replied_rests x j r runs = absurd (not_both (is_running (seen (add_reply j r x)) j) runs (reply_stops x j r))

lower : (a b : ℕ) → a < b → a ≡ b → ⊥
lower a b less is = omega (arith, less, is)

-- Its child's start.
pub started_rests : (x : Step) (path : List ℕ) (j : ℕ) → ((k : Child) → Contains (children (seen x)) k → k.process < next_child (seen x))
    → MayRest (add_start (record { process = next_child (seen x); program = path; job = Some j; stands_for = None }) x) j
started_rests x path j given runs = For_child (new_child v) found refl (inl refl) where
  v : Start
  v = record { process = next_child (seen x); program = path; job = Some j; stands_for = None }

  n : ℕ
  n = next_child (seen x)

  found : find (has_number (next_child (seen x))) (children (seen (add_start (record { process = next_child (seen x); program = path; job = Some j; stands_for = None }) x)))
      ≡ Some (new_child (record { process = next_child (seen x); program = path; job = Some j; stands_for = None }))
  found =
      ap (λ ks. find (has_number n) ks) (effects_are_told.starts v (entry_of x) x.past)
      ∙ (found_after (has_number n) (children (seen x)) (new_child v ∷ []) (finds_none (has_number n) (children (seen x)) (λ k there. is_false (k.process == n) (λ same. lower k.process n (given k there) (eqb-true k.process n same))))
      ∙ ap (λ b. cond b (Some (new_child v)) None) (number_itself n))

-- Whether a command is granted a holding, or starts its program with it.
abbrev pub is_granting : Command → Bool
is_granting (Acquire r shared p persistent) = true
is_granting (TakeOver r shared p persistent) = true
is_granting (RunProgram r shared path) = true
is_granting c = false

pub granted_rests : (x : Step) (s : Session) (j : ℕ) (c : Command) (mode : Mode) (lver : ℕ) → is_granting c ≡ true → ((k : Child) → Contains (children (seen x)) k → k.process < next_child (seen x)) → MayRest (grant_for s j c mode lver x) j
granted_rests x s j (Acquire r shared p persistent) mode lver is given = replied_rests (add_grant (grant_of s r p mode lver persistent) x) j (Granted lver)
granted_rests x s j (TakeOver r shared p persistent) mode lver is given = replied_rests (add_grant (grant_of s r p mode lver persistent) x) j (Granted lver)
granted_rests x s j (RunProgram r shared path) mode lver is given = started_rests (add_grant (grant_of s r (next_child (seen x)) mode lver false) x) path j given
granted_rests x s j (AddLockspace a) mode lver is given = absurd (false_is_true is)
granted_rests x s j (RemLockspace a) mode lver is given = absurd (false_is_true is)
granted_rests x s j (InqLockspace a) mode lver is given = absurd (false_is_true is)
granted_rests x s j (HostStatus a) mode lver is given = absurd (false_is_true is)
granted_rests x s j (Release r p) mode lver is given = absurd (false_is_true is)
granted_rests x s j (ReleaseOrphan r) mode lver is given = absurd (false_is_true is)
granted_rests x s j (Convert r shared p) mode lver is given = absurd (false_is_true is)
granted_rests x s j (Request r n force) mode lver is given = absurd (false_is_true is)
granted_rests x s j (GetLvb r p) mode lver is given = absurd (false_is_true is)
granted_rests x s j (SetLvb r p bytes) mode lver is given = absurd (false_is_true is)
granted_rests x s j (SetKillpath p path) mode lver is given = absurd (false_is_true is)
granted_rests x s j Status mode lver is given = absurd (false_is_true is)

-- ---- commands by their aims

abbrev is_acquiring : Option Aim → Bool
is_acquiring (Some (Acquires mode)) = true
is_acquiring o = false

abbrev is_converting : Option Aim → Bool
is_converting (Some (Converts mode)) = true
is_converting o = false

abbrev is_settling : Option Aim → Bool
is_settling (Some Settles) = true
is_settling o = false

acquires_granting : (c : Command) → is_acquiring (aim_of_command c) ≡ true → is_granting c ≡ true
acquires_granting (Acquire r shared p persistent) is = refl
acquires_granting (RunProgram r shared path) is = refl
acquires_granting (TakeOver r shared p persistent) is = refl
acquires_granting (AddLockspace a) is = is
acquires_granting (RemLockspace a) is = is
acquires_granting (InqLockspace a) is = is
acquires_granting (HostStatus a) is = is
acquires_granting (Release r p) is = is
acquires_granting (ReleaseOrphan r) is = is
acquires_granting (Convert r shared p) is = is
acquires_granting (Request r n force) is = is
acquires_granting (GetLvb r p) is = is
acquires_granting (SetLvb r p bytes) is = is
acquires_granting (SetKillpath p path) is = is
acquires_granting Status is = is

-- Its resource and its process.
record IsConvert (c : Command) : Type 0 where
  resource : ResourceArg
  shared : Bool
  process : ℕ
  is : c ≡ Convert resource shared process

converts_only : (c : Command) → is_converting (aim_of_command c) ≡ true → IsConvert c
converts_only (Convert r shared p) is = record { resource = r; shared = shared; process = p; is = refl }
converts_only (Acquire r shared p persistent) is = absurd (false_is_true is)
converts_only (RunProgram r shared path) is = absurd (false_is_true is)
converts_only (TakeOver r shared p persistent) is = absurd (false_is_true is)
converts_only (AddLockspace a) is = absurd (false_is_true is)
converts_only (RemLockspace a) is = absurd (false_is_true is)
converts_only (InqLockspace a) is = absurd (false_is_true is)
converts_only (HostStatus a) is = absurd (false_is_true is)
converts_only (Release r p) is = absurd (false_is_true is)
converts_only (ReleaseOrphan r) is = absurd (false_is_true is)
converts_only (Request r n force) is = absurd (false_is_true is)
converts_only (GetLvb r p) is = absurd (false_is_true is)
converts_only (SetLvb r p bytes) is = absurd (false_is_true is)
converts_only (SetKillpath p path) is = absurd (false_is_true is)
converts_only Status is = absurd (false_is_true is)

never_settles : (c : Command) → is_settling (aim_of_command c) ≡ false
never_settles (Acquire r shared p persistent) = refl
never_settles (TakeOver r shared p persistent) = refl
never_settles (RunProgram r shared path) = refl
never_settles (AddLockspace a) = refl
never_settles (RemLockspace a) = refl
never_settles (InqLockspace a) = refl
never_settles (HostStatus a) = refl
never_settles (Release r p) = refl
never_settles (ReleaseOrphan r) = refl
never_settles (Convert r shared p) = refl
never_settles (Request r n force) = refl
never_settles (GetLvb r p) = refl
never_settles (SetLvb r p bytes) = refl
never_settles (SetKillpath p path) = refl
never_settles Status = refl

-- ---- answers fit what a step does

pub written_fits : (st : Setting) (op : Op) → IsTrue (is_answer_for st Written op) → is_write op ≡ true
written_fits st (ReadSectors n) fits = fits
written_fits st (WriteRecord r) fits = refl

pub read_fits : (st : Setting) (bytes : List ℕ) (op : Op) → IsTrue (is_answer_for st (Read bytes) op) → is_write op ≡ false
read_fits st bytes (ReadSectors n) fits = refl
read_fits st bytes (WriteRecord r) fits = absurd (false_is_true fits)

-- Whether a call writes is said by its step.
step_op : (w : WayContext) (work : Work) (at : ℕ) (c : Call) (ms : List Submitted) (step : LeaseStep) → StepWay w work at c ms step → is_write c.op ≡ not (reads_at step)
step_op w work at c ms (ReadArea name) h = ap (λ o. is_write o) h
step_op w work at c ms ReadBeforeFree h = ap (λ o. is_write o) h.reads
step_op w work at c ms ReadBeforeBlock h = ap (λ o. is_write o) h.reads
step_op w work at c ms (ReadAgain read) h = ap (λ o. is_write o) h.reads
step_op w work at c ms Phase1Write h = ap (λ o. is_write o) h.wrote
step_op w work at c ms Phase1Read h = ap (λ o. is_write o) h.reads
step_op w work at c ms Phase2Write h = ap (λ o. is_write o) h.wrote
step_op w work at c ms Phase2Read h = ap (λ o. is_write o) h.reads
step_op w work at c ms TakeLeader h = ap (λ o. is_write o) h.wrote
step_op w work at c ms SetMode h = ap (λ o. is_write o) h.wrote
step_op w work at c ms FreeLeader h = ap (λ o. is_write o) h.wrote
step_op w work at c ms ClearMode h = ap (λ o. is_write o) h.wrote

-- ---- a job that is at work

record AtWork (x : Step) (s : Session) (j : ℕ) (step : LeaseStep) (m : Submitted) (answer : Answer) (aim : Aim) : Type 0 where
  kept : Kept x
  lore : JobLore x.setting x.past
  led : Led x s (ForJob j) step m answer aim

-- The holding that a conversion converts.
record ConvertsThis (x : Step) (s : Session) (m : Submitted) (c : Command) (mode : Mode) : Type 0 where
  process : ℕ
  named : process_named c ≡ Some process
  holding : Grant
  on : Contains (holdings_on (seen x) s (spot_of_call x.setting.layout m)) holding
  its : holding.process ≡ process
  other : same_truth (is_shared holding.mode) (is_shared mode) ≡ false

converts_this : (x : Step) (s : Session) (j : ℕ) (step : LeaseStep) (m : Submitted) (answer : Answer) (aim : Aim) (mode : Mode) → (a : AtWork x s j step m answer aim) → aim ≡ Converts mode
    → ConvertsThis x s m (job_led x s j step m answer aim a.led).command mode
converts_this x s j step m answer aim mode a is =
    record {
      process = c.process;
      named = ap (λ z. process_named z) c.is;
      holding = g;
      on = on;
      its = h.its;
      other = (subst (λ z. MayBeHeld m q.command z g) is (beside_job x s j step m answer aim a.led q g held place)).1;
    } where
      q : JobLed x m j step aim
      q = job_led x s j step m answer aim a.led

      c : IsConvert (job_led x s j step m answer aim a.led).command
      c = converts_only q.command (ap (λ o. is_converting o) (q.aimed ∙ ap (λ z. Some z) is))

      b : HeardBefore x m
      b = heard_before x s m answer a.kept a.led.hears

      purpose : b.before.call.purpose ≡ Lease (ForJob j) step
      purpose = ap (λ (d : Call). d.purpose) b.same ∙ a.led.purpose

      h : HoldsThere x.setting x.past b.before c.process
      h =
          a.lore.converting b.before j step c.resource c.shared c.process b.there b.unmet purpose (ran_past x.past (entry_of x) j a.led.on)
          (b.command j (Convert c.resource c.shared c.process) (ap (λ p. job_of p) a.led.purpose) (q.named ∙ ap (λ z. Some z) c.is))

      g : Grant
      g = h.holding

      held : Contains (holdings (seen x)) g
      held = subst (λ gs. Contains gs g) (sym (held_before x a.led.hears.unended a.led.hears.ungranted)) h.held

      place : same_place g.path g.offset (spot_of_call x.setting.layout m).path (spot_of_call x.setting.layout m).base ≡ true
      place =
          subst (λ (d : Call). same_place g.path g.offset (spot_of_call x.setting.layout (new_call 0 0 d)).path (spot_of_call x.setting.layout (new_call 0 0 d)).base ≡ true) b.same h.there

      mine : (g.session == s.number) ≡ true
      mine =
          subst (λ n. (g.session == n) ≡ true) (h.mine ∙ (ap (λ (d : Call). d.session) b.same ∙ heard_session x s m answer a.led.hears)) (number_itself g.session)

      on : Contains (holdings_on (seen x) s (spot_of_call x.setting.layout m)) g
      on =
          kept (λ (k : Grant). same_place k.path k.offset (spot_of_call x.setting.layout m).path (spot_of_call x.setting.layout m).base) (holdings_of (seen x) s) g place
          (kept (λ (k : Grant). k.session == s.number) (holdings (seen x)) g mine held)

-- So there is one to convert.
exclusive_known : (x : Step) (s : Session) (at : Spot) (g : Grant) → Contains (holdings_on (seen x) s at) g → is_shared g.mode ≡ false → (e : ℕ) × ((known x.setting (seen x) s at).exclusive ≡ Some e)
unfolding known
exclusive_known x s at g on alone = by (exclusive_on (seen x) s at) refl where
  by : (o : Option Grant) → exclusive_on (seen x) s at ≡ o → (e : ℕ) × (option_map (λ (g : Grant). g.lver) (exclusive_on (seen x) s at) ≡ Some e)
  by (Some k) is = (k.lver, ap (λ o. option_map (λ (g : Grant). g.lver) o) is)
  by None is = absurd (not_both (not (is_shared g.mode)) (ap (λ b. not b) alone) (find_fails (λ (k : Grant). not (is_shared k.mode)) (holdings_on (seen x) s at) g is on))

unshared : (b : Bool) → same_truth b true ≡ false → b ≡ false
unshared true is = absurd (true_is_false is)
unshared false is = refl

grounds : (x : Step) (s : Session) (j : ℕ) (step : LeaseStep) (m : Submitted) (answer : Answer) (aim : Aim) → AtWork x s j step m answer aim
    → LeaseGrounds (lease_place x.setting s) (known x.setting (seen x) s (spot_of_call x.setting.layout m)) aim step answer
unfolding known
grounds x s j step m answer aim a =
    record {
      suit = (heard_suits x s m answer a.kept a.lore.suit a.led.hears).step j step q.command aim a.led.purpose q.named q.aimed;
      job = λ is. true_is_false (ap (λ o. is_settling o) (sym (q.aimed ∙ ap (λ z. Some z) is)) ∙ never_settles q.command);
      read = λ reads is. not_both (is_write m.call.op) (written_fits x.setting m.call.op (subst (λ z. IsTrue (is_answer_for x.setting z m.call.op)) is fits)) (op ∙ ap (λ b. not b) reads);
      wrote = λ writes bytes is. not_both (is_write m.call.op) (op ∙ ap (λ b. not b) writes) (read_fits x.setting bytes m.call.op (subst (λ z. IsTrue (is_answer_for x.setting z m.call.op)) is fits));
      own = λ behind. own_behind x s (ForJob j) step m answer a.led.whole.0 a.led.hears a.led.purpose behind;
      area = λ name bytes is gives once whole.
          own_in_area x s m answer a.led.whole.0 a.led.hears n (heard_by_lease x.setting.layout m n.rest bytes step)
          (newest_told x s (ForJob j) step m n a.led.purpose bytes (gives_it bytes gives) (ap (λ z. is_some (read_of_step z)) is) once)
          (subst (λ r. position is_none (blocks_of x.setting.layout r) ≡ None) (heard_is bytes) whole);
      single = λ is. a.led.whole.0.facts.works.modes m j step q.command q.work (q.aimed ∙ ap (λ z. Some z) is);
      sets = λ mode is converts.
          let shared : aim ≡ Converts Shared = set_shared mode is converts in
          let h = converts_this x s j step m answer aim Shared a shared in
          (shared, exclusive_known x s (spot_of_call x.setting.layout m) h.holding h.on (unshared (is_shared h.holding.mode) h.other));
    } where
      q : JobLed x m j step aim
      q = job_led x s j step m answer aim a.led

      n : NewestWays x s m
      n = newest_ways x s (ForJob j) step m answer a.led.whole.0 a.led.hears a.led.purpose

      way : StepWay (way_context x.setting (seen x) s) (ForJob j) m.at m.call n.rest step
      way = subst (λ p. PurposeWay (way_context x.setting (seen x) s) m.at m.call n.rest p) a.led.purpose n.ways.0.way

      op : is_write m.call.op ≡ not (reads_at step)
      op = step_op (way_context x.setting (seen x) s) (ForJob j) m.at m.call n.rest step way

      heard_it : HeardCall x answer m
      heard_it = heard_call x s m answer a.led.hears a.led.whole.0

      gives_it : (bytes : List ℕ) → answer ≡ Read bytes → gave m ≡ Some bytes
      gives_it bytes is = ap (λ o. option_and_then (λ (a : Answered). bytes_given a.answer) o) heard_it.told ∙ ap (λ a. bytes_given a) is

      heard_is : (bytes : List ℕ) → heard x.setting.layout (known x.setting (seen x) s (spot_of_call x.setting.layout m)) bytes step ≡ heard_by_lease x.setting.layout m n.rest bytes step
      heard_is bytes = ap (λ ms. kept_with (first_kept x.setting.layout ms) (part_read x.setting.layout bytes (first_step step))) n.newest where
        kept_with : List (Option PairBlock) → List ℕ → BlocksRead
        kept_with kept last = record { kept = kept; last = last }

      fits : IsTrue (is_answer_for x.setting answer m.call.op)
      fits = a.led.whole.0.facts.calls.fits m _ heard_it.there heard_it.told

      set_shared : (mode : Mode) → step ≡ SetMode → aim ≡ Converts mode → aim ≡ Converts Shared
      set_shared mode is converts = by (subst (λ z. StepWay (way_context x.setting (seen x) s) (ForJob j) m.at m.call n.rest z) is way).why where
        by : {own : Block} → ModeReason (way_context x.setting (seen x) s) (ForJob j) m.at own n.rest → aim ≡ Converts Shared
        by (After_take after aimed written same) = absurd (true_is_false (ap (λ o. is_converting o) (sym (ap (λ z. Some z) converts) ∙ (sym a.led.aimed ∙ aimed))))
        by (In_conversion aimed) = some_value aim (Converts Shared) (sym a.led.aimed ∙ aimed)

-- ---- the job

-- A conversion answers its job.
converted_stops : (Q : Step → Type 0) (x : Step) (s : Session) (j : ℕ) (step : LeaseStep) (m : Submitted) (answer : Answer) (aim : Aim) (mode : Mode) (lver : ℕ) → (a : AtWork x s j step m answer aim) → aim ≡ Converts mode
    → ((z : Step) → Q (add_reply j (Granted lver) z)) → Q (after_converting x s (spot_of_call x.setting.layout m) j mode lver)
converted_stops Q x s j step m answer aim mode lver a is answered =
    by_found Q x s at j q.command h.process mode lver q.named h.named (held_otherwise (seen x) s at h.process mode) refl (found (held_otherwise (seen x) s at h.process mode) refl) where
      q : JobLed x m j step aim
      q = job_led x s j step m answer aim a.led

      h : ConvertsThis x s m (job_led x s j step m answer aim a.led).command mode
      h = converts_this x s j step m answer aim mode a is

      at : Spot
      at = spot_of_call x.setting.layout m

      found : (o : Option Grant) → held_otherwise (seen x) s (spot_of_call x.setting.layout m) h.process mode ≡ o → Q (with_some o (convert_holding j mode lver) x)
      found (Some g) there = answered (add_grant (record g { mode = mode; lver = lver }) (add_end (end_of g) x))
      found None there =
          absurd (not_both (h.holding.process == h.process && not (same_truth (is_shared h.holding.mode) (is_shared mode)))
          (ap (λ b. b && not (same_truth (is_shared h.holding.mode) (is_shared mode))) (ap (λ n. n == h.process) h.its ∙ number_itself h.process) ∙ ap (λ b. not b) h.other)
          (find_fails (λ (k : Grant). k.process == h.process && not (same_truth (is_shared k.mode) (is_shared mode))) (holdings_on (seen x) s at) h.holding there h.on))

job_rests : (x : Step) (s : Session) (j : ℕ) (step : LeaseStep) (m : Submitted) (answer : Answer) (aim : Aim) → AtWork x s j step m answer aim → (n : LeaseNext)
    → GoesOn (known x.setting (seen x) s (spot_of_call x.setting.layout m)) aim n → MayRest (carry_lease s (spot_of_call x.setting.layout m) (ForJob j) n x) j
unfolding carry_lease
job_rests x s j step m answer aim a Nothing goes = absurd goes
job_rests x s j step m answer aim a (ReadFor further) goes = by further where
  at : Spot
  at = spot_of_call x.setting.layout m

  by : (further : LeaseStep) → MayRest (read_for s (spot_of_call x.setting.layout m) (ForJob j) further x) j
  by (ReadArea name) = called_rests x s.number at.path (Lease (ForJob j) (ReadArea name)) _ _ j refl
  by ReadBeforeFree = called_rests x s.number at.path (Lease (ForJob j) ReadBeforeFree) _ _ j refl
  by ReadBeforeBlock = called_rests x s.number at.path (Lease (ForJob j) ReadBeforeBlock) _ _ j refl
  by (ReadAgain (OfArea name)) = called_rests x s.number at.path (Lease (ForJob j) (ReadAgain (OfArea name))) _ _ j refl
  by (ReadAgain OfFree) = called_rests x s.number at.path (Lease (ForJob j) (ReadAgain OfFree)) _ _ j refl
  by (ReadAgain OfBlock) = called_rests x s.number at.path (Lease (ForJob j) (ReadAgain OfBlock)) _ _ j refl
  by (ReadAgain OfPhase1) = called_rests x s.number at.path (Lease (ForJob j) (ReadAgain OfPhase1)) _ _ j refl
  by (ReadAgain OfPhase2) = called_rests x s.number at.path (Lease (ForJob j) (ReadAgain OfPhase2)) _ _ j refl
  by Phase1Write = called_rests x s.number at.path (Lease (ForJob j) Phase1Write) _ _ j refl
  by Phase1Read = called_rests x s.number at.path (Lease (ForJob j) Phase1Read) _ _ j refl
  by Phase2Write = called_rests x s.number at.path (Lease (ForJob j) Phase2Write) _ _ j refl
  by Phase2Read = called_rests x s.number at.path (Lease (ForJob j) Phase2Read) _ _ j refl
  by TakeLeader = called_rests x s.number at.path (Lease (ForJob j) TakeLeader) _ _ j refl
  by SetMode = called_rests x s.number at.path (Lease (ForJob j) SetMode) _ _ j refl
  by FreeLeader = called_rests x s.number at.path (Lease (ForJob j) FreeLeader) _ _ j refl
  by ClearMode = called_rests x s.number at.path (Lease (ForJob j) ClearMode) _ _ j refl
job_rests x s j step m answer aim a (WriteBlock further b) goes = called_rests x s.number (spot_of_call x.setting.layout m).path (Lease (ForJob j) further) _ _ j refl
job_rests x s j step m answer aim a (WriteLeader further l) goes = called_rests x s.number (spot_of_call x.setting.layout m).path (Lease (ForJob j) further) _ _ j refl
job_rests x s j step m answer aim a (AnswerJob r) goes = replied_rests x j r
job_rests x s j step m answer aim a (GrantJob mode lver) goes =
    let q = job_led x s j step m answer aim a.led in
    subst (λ o. MayRest (with_some o (λ c. grant_for s j c mode lver) x) j) (sym q.named)
    (granted_rests x s j q.command mode lver (acquires_granting q.command (ap (λ o. is_acquiring o) (q.aimed ∙ ap (λ z. Some z) goes.1))) a.led.whole.0.facts.holdings.given)
job_rests x s j step m answer aim a (BecomeShared lver l) goes = λ runs.
    absurd (converted_stops (λ z. is_running (seen (write_leader s (spot_of_call x.setting.layout m) Settling FreeLeader l z)) j ≡ true → ⊥) x s j step m answer aim Shared lver a goes.0
    (λ z on. not_both (is_running (seen (add_reply j (Granted lver) z)) j) on (reply_stops z j (Granted lver))) runs)
job_rests x s j step m answer aim a (BecomeExclusive lver b) goes = λ runs.
    absurd (converted_stops (λ z. is_running (seen (write_block s (spot_of_call x.setting.layout m) Settling ClearMode b z)) j ≡ true → ⊥) x s j step m answer aim Exclusive lver a goes
    (λ z on. not_both (is_running (seen (add_reply j (Granted lver) z)) j) on (reply_stops z j (Granted lver))) runs)

pub leases_rest : (x : Step) (s : Session) (work : Work) (step : LeaseStep) (m : Submitted) (answer : Answer) (aim : Aim) (j : ℕ) → Kept x → JobLore x.setting x.past → Hears x s m answer → m.call.purpose ≡ Lease work step
    → goes_on x.setting (seen x) s work ≡ true → aim_of x.setting (seen x) work ≡ Some aim → work_job work ≡ Some j
    → MayRest (carry_lease s (spot_of_call x.setting.layout m) work (next_of_lease x.setting (seen x) s (spot_of_call x.setting.layout m) aim m step answer) x) j
leases_rest x s Settling step m answer aim j k lore hears is on aimed its = absurd (none_some j its)
leases_rest x s (ForJob i) step m answer aim j k lore hears is on aimed its =
    let a : AtWork x s i step m answer aim = record { kept = k; lore = lore; led = record { whole = k.known; hears = hears; purpose = is; on = on; aimed = aimed } } in
    let at : Spot = spot_of_call x.setting.layout m in
    let n : LeaseNext = next_of_lease x.setting (seen x) s at aim m step answer in
    subst (λ z. MayRest (carry_lease s at (ForJob i) n x) z) (some_value i j its)
    (job_rests x s i step m answer aim a n
    (next_is (λ z. GoesOn (known x.setting (seen x) s at) aim z) x.setting (seen x) s at aim m step answer
    (λ fits. lease_goes_on (lease_place x.setting s) (known x.setting (seen x) s at) aim m.call.number (lver_written m) step answer (grounds x s i step m answer aim a))
    (λ paired over writes. refusal_goes (known x.setting (seen x) s at) aim (LimitReached TurnLimit) (grounds x s i step m answer aim a).job)))
