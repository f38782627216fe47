-- Where a call on a resource's area is made for a job it is of the command's resource, and the job has no other call unanswered.
use Rattle.sl_due.specs.CarriedLease.{next_turn}
use Rattle.sl_due_facts.specs.Acts.Acts.{Has}
use Rattle.sl_area.specs.AreaLayout.{block_offset, block_place, block_sectors}
use Rattle.sl_due.specs.Steps.{Step, seen}
use Rattle.sl_due_facts.proofs.Jobs.CallsOfJobsFit.{no_job}
use Rattle.sl_due_facts.proofs.Jobs.CallsStandInAreas.{IsWithin, Roomy, stands_in}
use Rattle.sl_due_facts.proofs.Jobs.CallsStay.{IsLate, late}
use Rattle.sl_due_facts.proofs.Jobs.EffectsAreAllowed.{GrantAllowed, LeaseAllowed, ReadAllowed}
use Rattle.sl_due_facts.proofs.Jobs.JobFactsGrow.{CallFits, IsFree, IsNumbered}
use Rattle.sl_due_facts.proofs.Jobs.JobsAreAllowed.{MayCall, MayReply, MayStart, numbered_of}
use Rattle.sl_due_facts.proofs.Jobs.JobsAreNumbered.{command_is_read}
use Rattle.sl_due_facts.proofs.Jobs.RepliesComeAfter.{IsApartFrom, IsApartLease, IsNoSearch}
use Rattle.sl_due_facts.proofs.Jobs.SessionsHaveJobs.{given_one, joined_by}
use Rattle.sl_run.specs.Lawful.{IsGiven, IsSetting}
use Rattle.sl_trace.specs.Jobs.{aim_of_command, command_numbered, resource_named}
use Rattle.sl_trace.specs.LeaseDecisions.{read_of_step}
use Rattle.sl_trace.specs.Leases.{spot_of}
use Rattle.sl_trace.specs.declared.lease.LeaseNext.{LeaseNext}
use Rattle.sl_trace.specs.declared.lease.LeaseNext.TheVariants.{AnswerJob, BecomeExclusive, BecomeShared, GrantJob, Nothing as No_lease, ReadFor, WriteBlock, WriteLeader}
use Rattle.sl_words.proofs.Lists.{contains_cases, contains_none}
use Rattle.sl_words.proofs.Numbers.{plus_zero}
use Rattle.sl_trace.specs.Sessions.{sessions}
use Rattle.sl_trace.specs.declared.session.Session.{Session}
use Rattle.sl_due_facts.specs.Facts.JobFacts.{SeeksResource}
use Rattle.sl_trace.specs.CommandForms.{IsLockspaceArg}
use Rattle.sl_trace.specs.Traces.{Setting, Trace, job_of}
use Rattle.sl_trace.specs.declared.command.Command.{Command}
use Rattle.sl_trace.specs.declared.command.Command.TheVariants.{Acquire, AddLockspace, Convert, GetLvb, HostStatus, InqLockspace, Release, ReleaseOrphan, RemLockspace, Request, RunProgram, SetKillpath, SetLvb, Status, TakeOver}
use Rattle.sl_trace.specs.declared.command.ResourceArg.{ResourceArg}
use Rattle.sl_trace.specs.declared.effects.LeaseStep.{LeaseStep}
use Rattle.sl_trace.specs.declared.effects.LeaseRead.{LeaseRead}
use Rattle.sl_trace.specs.declared.effects.LeaseRead.TheVariants.{OfArea, OfBlock, OfFree, OfPhase1, OfPhase2}
use Rattle.sl_trace.specs.declared.effects.LeaseStep.TheVariants.{ClearMode, FreeLeader, Phase1Read, Phase1Write, Phase2Read, Phase2Write, ReadAgain, ReadArea, ReadBeforeBlock, ReadBeforeFree, SetMode, TakeLeader}
use Rattle.sl_trace.specs.declared.effects.Op.TheVariants.{ReadSectors}
use Rattle.sl_trace.specs.declared.effects.Purpose.TheVariants.{Lease}
use Rattle.sl_trace.specs.declared.effects.Spot.{Spot}
use Rattle.sl_trace.specs.declared.effects.Work.TheVariants.{ForJob, Settling}
use Rattle.sl_trace.specs.declared.reply.Reply.{Reply}
use Rattle.sl_trace.specs.declared.reply.Reply.TheVariants.{Granted}
use Rattle.sl_words.proofs.CaseLaws.{none_some, some_value, true_is_false}
use Rattle.sl_words.proofs.WordLaws.{and_true}
use Rattle.std.proofs.Common.{ap, inl, inr, refl, subst, sym, ◌∙◌}
use Rattle.std.proofs.lemmas.Bool.{leb-true}
use Rattle.std.specs.List.{AllByRecursion}
use Rattle.std.specs.Prelude.{Bool, Contains, IsSome, List, None, Option, Some, [], false, nat_le, true, ℕ, ◌%◌, ◌*◌, ◌+◌, ◌<◌, ◌∷◌, ◌≡◌, ◌≤◌, ◌⊎◌}

-- A job's work on a resource.
pub record Works (x : Step) (s : Session) (at : Spot) (j : ℕ) : Type 0 where
  pub has : Has x s
  pub free : IsFree x j
  pub command : Command
  pub reads : command_numbered x.setting (seen x) j ≡ Some command
  pub resource : ResourceArg
  pub names : resource_named command ≡ Some resource
  pub aims : IsSome (aim_of_command command)
  pub lockspace : resource.lockspace ≡ s.lockspace
  pub spot : at ≡ spot_of resource
  pub whole : at.base % x.setting.layout.area ≡ 0
  pub room : Roomy x.setting.layout
  pub host : s.id ≤ x.setting.layout.hosts

abbrev pub AsksFor : ResourceArg → LeaseNext → Type 0
AsksFor r (AnswerJob reply) = Unit {0}
AsksFor r (ReadFor step) = SeeksResource r step
AsksFor r (WriteBlock step b) = SeeksResource r step
AsksFor r (WriteLeader step l) = SeeksResource r step
AsksFor r n = Unit {0}

seeks_none : (r : ResourceArg) (step : LeaseStep) → IsNoSearch step → SeeksResource r step
seeks_none r (ReadArea name) h = absurd h
seeks_none r ReadBeforeFree h = tt
seeks_none r ReadBeforeBlock h = tt
seeks_none r (ReadAgain read) h = absurd h
seeks_none r Phase1Write h = tt
seeks_none r Phase1Read h = tt
seeks_none r Phase2Write h = tt
seeks_none r Phase2Read h = tt
seeks_none r TakeLeader h = tt
seeks_none r SetMode h = tt
seeks_none r FreeLeader h = tt
seeks_none r ClearMode h = tt

pub asks_apart : (r : ResourceArg) (n : LeaseNext) → IsApartLease n → AsksFor r n
asks_apart r (AnswerJob reply) h = tt
asks_apart r (ReadFor step) h = seeks_none r step h
asks_apart r (WriteBlock step b) h = seeks_none r step h
asks_apart r (WriteLeader step l) h = seeks_none r step h
asks_apart r No_lease h = tt
asks_apart r (GrantJob mode lver) h = tt
asks_apart r (BecomeShared lver l) h = tt
asks_apart r (BecomeExclusive lver b) h = tt

-- A read that is made once more seeks what the first one did.
abbrev sought : List ℕ → Option LeaseRead → List ℕ
sought other (Some (OfArea name)) = name
sought other o = other

seeks_again : (r : ResourceArg) (step : LeaseStep) (read : LeaseRead) → read_of_step step ≡ Some read → SeeksResource r step → SeeksResource r (ReadAgain read)
seeks_again r step OfFree is seeks = tt
seeks_again r step OfBlock is seeks = tt
seeks_again r step OfPhase1 is seeks = tt
seeks_again r step OfPhase2 is seeks = tt
seeks_again r step (OfArea name) is seeks = by step is seeks where
  is_area : Option LeaseRead → Bool
  is_area (Some (OfArea other)) = true
  is_area o = false

  none : {A : Type 0} (o : Option LeaseRead) → is_area o ≡ false → o ≡ Some (OfArea name) → A
  none o other same = absurd (true_is_false (sym (ap (λ z. is_area z) same) ∙ other))

  by : (q : LeaseStep) → read_of_step q ≡ Some (OfArea name) → SeeksResource r q → name ≡ r.name
  by (ReadArea other) same its = sym (ap (λ o. sought name o) same) ∙ its
  by ReadBeforeFree same its = none (Some OfFree) refl same
  by ReadBeforeBlock same its = none (Some OfBlock) refl same
  by (ReadAgain other) same its = none None refl same
  by Phase1Write same its = none None refl same
  by Phase1Read same its = none (Some OfPhase1) refl same
  by Phase2Write same its = none None refl same
  by Phase2Read same its = none (Some OfPhase2) refl same
  by TakeLeader same its = none None refl same
  by SetMode same its = none None refl same
  by FreeLeader same its = none None refl same
  by ClearMode same its = none None refl same

pub asks_from : (r : ResourceArg) (step : LeaseStep) (n : LeaseNext) → SeeksResource r step → IsApartFrom step n → AsksFor r n
asks_from r step (ReadFor (ReadAgain read)) seeks h = seeks_again r step read h seeks
asks_from r step n seeks h = asks_apart r n h

-- A call some bytes above the base.
work_fits : (x : Step) (s : Session) (at : Spot) (j : ℕ) (step : LeaseStep) (o d i : ℕ) → (w : Works x s at j) → SeeksResource w.resource step → d < x.setting.layout.area → o ≡ at.base + d
    → job_of (Lease (ForJob j) step) ≡ Some i → CallFits x s at.path (Lease (ForJob j) step) o i
work_fits x s at j step o d i w seeks less stands of =
    subst (λ n. CallFits x s at.path (Lease (ForJob j) step) o n) (some_value j i of) (record {
      command = w.command;
      reads = w.reads;
      free = w.free;
      fits = λ m path by. (w.resource, w.names, w.aims, (w.lockspace, stands_in x.setting.layout m at d w.whole less path (by ∙ stands) ∙ w.spot), seeks);
    })

host_one : (x : Step) (s : Session) (at : Spot) (j : ℕ) → Works x s at j → x.setting.layout.sector * (1 + 1) < x.setting.layout.area
host_one x s at j w = w.room.first

blocks_fit : (x y : Step) (s : Session) (at : Spot) (j : ℕ) (step : LeaseStep) → y.setting.layout ≡ x.setting.layout → (w : Works x s at j) → SeeksResource w.resource step
    → MayCall x s at.path (Lease (ForJob j) step) (block_offset y.setting.layout at.base 1) (ReadSectors (block_sectors y.setting.layout))
blocks_fit x y s at j step same w seeks =
    (w.has, λ i of. work_fits x s at j step (block_offset y.setting.layout at.base 1) (x.setting.layout.sector * (1 + 1)) i w seeks (host_one x s at j w) (ap (λ g. block_offset g at.base 1) same) of)

work_numbered : (x : Step) (s : Session) (at : Spot) (j : ℕ) → Works x s at j → IsNumbered x j
work_numbered x s at j w = numbered_of x j (subst (λ o. IsSome o) (sym w.reads) refl)

reads_allowed : (x y : Step) (s : Session) (at : Spot) (j : ℕ) (step : LeaseStep) → y.setting.layout ≡ x.setting.layout → (w : Works x s at j) → SeeksResource w.resource step → ReadAllowed (MayCall x) y s at (ForJob j) step
reads_allowed x y s at j (ReadArea name) same w seeks = (w.has, λ i of. work_fits x s at j (ReadArea name) at.base 0 i w seeks w.room.whole (plus_zero at.base) of)
reads_allowed x y s at j ReadBeforeFree same w seeks = (w.has, λ i of. work_fits x s at j ReadBeforeFree at.base 0 i w seeks w.room.whole (plus_zero at.base) of)
reads_allowed x y s at j ReadBeforeBlock same w seeks = blocks_fit x y s at j ReadBeforeBlock same w seeks
reads_allowed x y s at j (ReadAgain (OfArea name)) same w seeks = (w.has, λ i of. work_fits x s at j (ReadAgain (OfArea name)) at.base 0 i w seeks w.room.whole (plus_zero at.base) of)
reads_allowed x y s at j (ReadAgain OfFree) same w seeks = (w.has, λ i of. work_fits x s at j (ReadAgain OfFree) at.base 0 i w seeks w.room.whole (plus_zero at.base) of)
reads_allowed x y s at j (ReadAgain OfBlock) same w seeks = blocks_fit x y s at j (ReadAgain OfBlock) same w seeks
reads_allowed x y s at j (ReadAgain OfPhase1) same w seeks = blocks_fit x y s at j (ReadAgain OfPhase1) same w seeks
reads_allowed x y s at j (ReadAgain OfPhase2) same w seeks = blocks_fit x y s at j (ReadAgain OfPhase2) same w seeks
reads_allowed x y s at j Phase1Write same w seeks = blocks_fit x y s at j Phase1Write same w seeks
reads_allowed x y s at j Phase1Read same w seeks = blocks_fit x y s at j Phase1Read same w seeks
reads_allowed x y s at j Phase2Write same w seeks = blocks_fit x y s at j Phase2Write same w seeks
reads_allowed x y s at j Phase2Read same w seeks = blocks_fit x y s at j Phase2Read same w seeks
reads_allowed x y s at j TakeLeader same w seeks = blocks_fit x y s at j TakeLeader same w seeks
reads_allowed x y s at j SetMode same w seeks = blocks_fit x y s at j SetMode same w seeks
reads_allowed x y s at j FreeLeader same w seeks = blocks_fit x y s at j FreeLeader same w seeks
reads_allowed x y s at j ClearMode same w seeks = blocks_fit x y s at j ClearMode same w seeks

pub grant_allowed : (x : Step) (j lver : ℕ) (c : Command) → MayReply x j (Granted lver) → command_numbered x.setting (seen x) j ≡ Some c → GrantAllowed (MayReply x) (MayStart x) j lver c
grant_allowed x j lver (Acquire r shared q persistent) may reads = may
grant_allowed x j lver (TakeOver r shared q persistent) may reads = may
grant_allowed x j lver (RunProgram r shared path) may reads = λ i is. (r, shared, path, subst (λ n. command_numbered x.setting (seen x) n ≡ Some (RunProgram r shared path)) (some_value j i is) reads)
grant_allowed x j lver (Release r q) may reads = tt
grant_allowed x j lver (ReleaseOrphan r) may reads = tt
grant_allowed x j lver (Convert r shared q) may reads = tt
grant_allowed x j lver (Request r n force) may reads = tt
grant_allowed x j lver (GetLvb r q) may reads = tt
grant_allowed x j lver (SetLvb r q bytes) may reads = tt
grant_allowed x j lver (AddLockspace a) may reads = tt
grant_allowed x j lver (RemLockspace a) may reads = tt
grant_allowed x j lver (InqLockspace a) may reads = tt
grant_allowed x j lver (HostStatus a) may reads = tt
grant_allowed x j lver (SetKillpath q path) may reads = tt
grant_allowed x j lver Status may reads = tt

-- What a lease decides for a job is allowed.
pub work_allowed : (x y : Step) (s : Session) (at : Spot) (j : ℕ) (n : LeaseNext) → y.setting.layout ≡ x.setting.layout
    → ((i : ℕ) (c : Command) → command_numbered y.setting (seen y) i ≡ Some c → command_numbered x.setting (seen x) i ≡ Some c) → (w : Works x s at j) → AsksFor w.resource n
    → ((r : Reply) → n ≡ AnswerJob r → IsLate x r) → LeaseAllowed (MayReply x) (MayCall x) (MayStart x) y s at (ForJob j) n
work_allowed x y s at j No_lease same back w asks after = tt
work_allowed x y s at j (ReadFor step) same back w asks after = reads_allowed x y s at j step same w asks
work_allowed x y s at j (WriteBlock step b) same back w asks after =
    let turn : ℕ = next_turn y.setting (seen y) s at in
    let place : IsWithin x.setting.layout at.base (block_place x.setting.layout at.base s.id turn) = w.room.blocks at.base s.id turn w.host in
    (w.has, λ i of. work_fits x s at j step (block_place y.setting.layout at.base s.id turn) place.above i w asks place.less (ap (λ g. block_place g at.base s.id turn) same ∙ place.is) of)
work_allowed x y s at j (WriteLeader step l) same back w asks after = (w.has, λ i of. work_fits x s at j step at.base 0 i w asks w.room.whole (plus_zero at.base) of)
work_allowed x y s at j (AnswerJob r) same back w asks after = λ i is. (subst (λ n. IsNumbered x n) (some_value j i is) (work_numbered x s at j w), after r refl)
work_allowed x y s at j (GrantJob mode lver) same back w asks after =
    λ i c is reads. grant_allowed x i lver c (subst (λ n. IsNumbered x n) (some_value j i is) (work_numbered x s at j w), late x (Granted lver) refl) (back i c reads)
work_allowed x y s at j (BecomeShared lver l) same back w asks after =
    ((λ i is. (subst (λ n. IsNumbered x n) (some_value j i is) (work_numbered x s at j w), late x (Granted lver) refl)), (w.has, λ i of. no_job refl i of))
work_allowed x y s at j (BecomeExclusive lver b) same back w asks after =
    ((λ i is. (subst (λ n. IsNumbered x n) (some_value j i is) (work_numbered x s at j w), late x (Granted lver) refl)), λ z other. (w.has, λ i of. no_job refl i of))

-- ---- a settling is of no job

settling_reads : (x y : Step) (s : Session) (at : Spot) (step : LeaseStep) → Has x s → ReadAllowed (MayCall x) y s at Settling step
settling_reads x y s at (ReadArea name) has = (has, λ i of. no_job refl i of)
settling_reads x y s at ReadBeforeFree has = (has, λ i of. no_job refl i of)
settling_reads x y s at ReadBeforeBlock has = (has, λ i of. no_job refl i of)
settling_reads x y s at (ReadAgain (OfArea name)) has = (has, λ i of. no_job refl i of)
settling_reads x y s at (ReadAgain OfFree) has = (has, λ i of. no_job refl i of)
settling_reads x y s at (ReadAgain OfBlock) has = (has, λ i of. no_job refl i of)
settling_reads x y s at (ReadAgain OfPhase1) has = (has, λ i of. no_job refl i of)
settling_reads x y s at (ReadAgain OfPhase2) has = (has, λ i of. no_job refl i of)
settling_reads x y s at Phase1Write has = (has, λ i of. no_job refl i of)
settling_reads x y s at Phase1Read has = (has, λ i of. no_job refl i of)
settling_reads x y s at Phase2Write has = (has, λ i of. no_job refl i of)
settling_reads x y s at Phase2Read has = (has, λ i of. no_job refl i of)
settling_reads x y s at TakeLeader has = (has, λ i of. no_job refl i of)
settling_reads x y s at SetMode has = (has, λ i of. no_job refl i of)
settling_reads x y s at FreeLeader has = (has, λ i of. no_job refl i of)
settling_reads x y s at ClearMode has = (has, λ i of. no_job refl i of)

pub settling_allowed : (x : Step) (s : Session) (at : Spot) (n : LeaseNext) → Has x s → LeaseAllowed (MayReply x) (MayCall x) (MayStart x) x s at Settling n
settling_allowed x s at No_lease has = tt
settling_allowed x s at (ReadFor step) has = settling_reads x x s at step has
settling_allowed x s at (WriteBlock step b) has = (has, λ i of. no_job refl i of)
settling_allowed x s at (WriteLeader step l) has = (has, λ i of. no_job refl i of)
settling_allowed x s at (AnswerJob r) has = λ i is. absurd (none_some i is)
settling_allowed x s at (GrantJob mode lver) has = λ i c is reads. absurd (none_some i is)
settling_allowed x s at (BecomeShared lver l) has = ((λ i is. absurd (none_some i is)), (has, λ i of. no_job refl i of))
settling_allowed x s at (BecomeExclusive lver b) has = ((λ i is. absurd (none_some i is)), λ z same. (has, λ i of. no_job refl i of))

-- ---- the id of a session is a host's

all_inside : {A : Type 0} (P : A → Type 0) (xs : List A) (d : A) → AllByRecursion P xs → Contains xs d → P d
all_inside P [] d all there = absurd (contains_none d there)
all_inside {A} P (x ∷ xs) d all there = by (contains_cases x xs d there) (λ old. all_inside P xs d all.1 old) where
  by : (x ≡ d) ⊎ Contains xs d → (Contains xs d → P d) → P d
  by (inl is) more = subst (λ z. P z) is all.0
  by (inr old) more = more old

pub session_host : (st : Setting) (es : Trace) (s : Session) → IsSetting st → Contains (sessions st es) s → s.id ≤ st.layout.hosts
session_host st es s setting there = by s.job refl where
  by : (o : Option ℕ) → s.job ≡ o → s.id ≤ st.layout.hosts
  by (Some j) its =
      let b = joined_by st es s j there its in
      let text = command_is_read st es j (AddLockspace b.arg) b.command in
      let arg : IsLockspaceArg st.layout b.arg = setting.reads text.0 (AddLockspace b.arg) text.1 in
      let most : b.arg.id ≤ st.layout.hosts = leb-true b.arg.id st.layout.hosts (and_true (nat_le 1 b.arg.id) (nat_le b.arg.id st.layout.hosts) arg.host).1 in
      subst (λ (z : Session). z.id ≤ st.layout.hosts) (sym b.session) most
  by None its =
      let g = given_one st es s there its in
      let is : IsGiven st g.0 = all_inside (IsGiven st) st.given g.0 setting.each g.2 in
      subst (λ (z : Session). z.id ≤ st.layout.hosts) g.3 is.id.1
