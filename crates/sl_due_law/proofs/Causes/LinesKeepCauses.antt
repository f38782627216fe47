-- What an act is made of, and what it may do while nothing is concluded; an act on a line gives its replies with their causes.
use Rattle.sl_due_facts.proofs.Acts.AddedAtEnd.{contains_last}
use Rattle.sl_due_facts.proofs.Acts.LoopsKeep.{for_each_keeps}
use Rattle.sl_due_facts.specs.Acts.Acts.{Hears, next_of_conversion, next_of_release}
use Rattle.sl_due_law.proofs.Causes.LaterSteps.{AnyMove, Going, MayAnswer, MayCall, MayStart, after_that, before_later, begins, by_effects, facts_later, going, no_line, still_caused, told_no_line, wake_no_line}
use Rattle.sl_due_law.proofs.Causes.ExitCauses.{exit_caused}
use Rattle.sl_due_law.specs.Causes.CausedSoFar.{CausedSoFar, IsAtOnce, IsConcluded, IsLater, StaysCaused, answering, is_explained, is_line}
use Rattle.sl_due.specs.DueCommands.{answer_line}
use Rattle.sl_due.specs.DueInputs.{leave_holdings, refuse_jobs_of}
use Rattle.sl_due.specs.Steps.{Step, add_end, add_reply, seen, with_effects, with_input}
use Rattle.sl_due.specs.declared.decision.Decision.TheVariants.{ConvertsTo, GetsValue, GivesUp, Joins, Leaves, ReadsArea, Replies, Requests, SetsValue, Shares, TakesOver}
use Rattle.sl_due.specs.declared.decision.Decision.{Decision}
use Rattle.sl_due_leases.proofs.Holdings.MomentsAreKept.{same}
use Rattle.sl_due_leases.specs.Holdings.Moments.{Known}
use Rattle.sl_due_facts.proofs.Jobs.CallsStay.{IsLate, late}
use Rattle.sl_due_facts.proofs.Jobs.EffectsAreAllowed.{DecisionAllowed, GrantAllowed, LeaseAllowed, ReadAllowed, left}
use Rattle.sl_due_facts.proofs.Jobs.JobsAreAllowed.{is_told, late_unless_told}
use Rattle.sl_due_facts.proofs.Jobs.RepliesComeAfter.{mapped_or}
use Rattle.sl_trace.specs.Jobs.{is_job_of_process}
use Rattle.sl_trace.specs.LeaseDecisions.{LeasePlace, lease_place}
use Rattle.sl_trace.specs.Conversions.{convert_next}
use Rattle.sl_trace.specs.Releases.{release_next}
use Rattle.sl_trace.specs.Leases.{LeaseKnown, known, spot_of}
use Rattle.sl_trace.specs.declared.lease.LeaseNext.TheVariants.{AnswerJob, BecomeExclusive, BecomeShared, GrantJob, Nothing as No_lease, ReadFor, WriteBlock, WriteLeader}
use Rattle.sl_trace.specs.declared.lease.LeaseNext.{LeaseNext}
use Rattle.sl_due_facts.proofs.Jobs.JobsAreNumbered.{line_is, next_before}
use Rattle.sl_run.specs.Caused.{CausedBy}
use Rattle.sl_trace.specs.declared.effects.Effects.{Effects}
use Rattle.sl_trace.specs.Sessions.{last_renewal}
use Rattle.sl_trace.specs.declared.session.Session.{Session}
use Rattle.sl_due_facts.specs.Facts.HeardCall.{heard_by}
use Rattle.sl_trace.specs.Traces.{Job, Setting, Submitted, job_numbered, running_jobs, end_of, next_job, spot_of_grant, work_job}
use Rattle.sl_trace.specs.declared.command.Command.TheVariants.{Acquire, AddLockspace, Convert, GetLvb, HostStatus, InqLockspace, Release, ReleaseOrphan, RemLockspace, Request, RunProgram, SetKillpath, SetLvb, Status, TakeOver}
use Rattle.sl_trace.specs.declared.command.Command.{Command}
use Rattle.sl_trace.specs.declared.effects.JobReply.{JobReply}
use Rattle.sl_trace.specs.declared.effects.LeaseStep.TheVariants.{ReadAgain, ReadArea, ReadBeforeFree}
use Rattle.sl_trace.specs.declared.effects.LeaseStep.{LeaseStep}
use Rattle.sl_trace.specs.declared.effects.Mode.TheVariants.{Exclusive, Shared}
use Rattle.sl_trace.specs.declared.effects.Mode.{Mode}
use Rattle.sl_trace.specs.declared.effects.Spot.{Spot}
use Rattle.sl_trace.specs.declared.effects.Work.TheVariants.{ForJob}
use Rattle.sl_trace.specs.declared.effects.Work.{Work}
use Rattle.sl_trace.specs.declared.input.Answer.{Answer}
use Rattle.sl_trace.specs.declared.input.Input.TheVariants.{Answer as Told, Exit, Line, Number, Spawned, Wake}
use Rattle.sl_trace.specs.declared.input.Input.{Input}
use Rattle.sl_trace.specs.declared.reply.Reply.TheVariants.{BadCommand as Misread, Done, Granted, Limit as LimitReached, NoProcess, Recovering}
use Rattle.sl_trace.specs.declared.reply.Limited.TheVariants.{Turn as TurnLimit}
use Rattle.sl_trace.specs.declared.reply.Limited.{Limited}
use Rattle.sl_trace.specs.declared.reply.Reply.{Reply}
use Rattle.sl_words.proofs.CaseLaws.{false_is_true, none_some, one_value}
use Rattle.sl_due_facts.proofs.Acts.Pairs.Decisions.{conversion_is, release_is}
use Rattle.sl_trace.specs.declared.effects.LeaseRead.TheVariants.{OfArea, OfBlock, OfFree, OfPhase1, OfPhase2}
use Rattle.std.proofs.Common.{ap, inl, inr, refl, subst, sym, ◌∙◌}
use Rattle.std.specs.Prelude.{Bool, Contains, Err, List, Ok, Some, false, filter, length, not, true, ℕ, ◌≡◌, ◌⊎◌}

-- ---- what an act is made of

abbrev pub Keeps : Step → Type 0
Keeps x = Known x × CausedSoFar is_explained x

-- What is answered at once stays that.
pub once_by : (x z : Step) → IsLater x z → z.input ≡ x.input → z.effects.grants ≡ x.effects.grants → z.effects.ends ≡ x.effects.ends → (a : JobReply) → IsAtOnce x a → IsAtOnce z a
once_by x z later input grants ends a o =
    record {
      text = o.text;
      line = input ∙ o.line;
      command = o.command;
      says = ap (λ (st : Setting). st.read o.text) later.setting ∙ o.says;
      own = o.own ∙ (ap (λ st. next_job st x.past) (sym later.setting) ∙ ap (λ t. next_job z.setting t) (sym later.before));
      ungranted = grants ∙ o.ungranted;
      unended = ends ∙ o.unended;
    }

-- An act that answers nobody's line.
pub by_act : (x z : Step) → ((text : List ℕ) → x.input ≡ Line text → ⊥) → Going (is_explained x.input) x z → CausedSoFar is_explained x → CausedSoFar is_explained z
by_act x z none g h = still_caused is_explained x z (no_line x z none) g h

pub no_line_heard : (x : Step) (s : Session) (m : Submitted) (answer : Answer) → Hears x s m answer → (text : List ℕ) → x.input ≡ Line text → ⊥
no_line_heard x s m answer hears text line = told_no_line x.input hears.number answer text hears.heard line

pub no_line_awake : (x : Step) → x.input ≡ Wake → (text : List ℕ) → x.input ≡ Line text → ⊥
no_line_awake x wake text line = wake_no_line x.input text wake line

pub spawned_no_line : (i : Input) (p : ℕ) (ok : Bool) (text : List ℕ) → i ≡ Spawned p ok → i ≡ Line text → ⊥
spawned_no_line i p ok text spawned line = cc

-- Only an answer concludes anything.
pub open_unless_told : (x : Step) → is_told x.input ≡ false → IsConcluded x → ⊥
open_unless_told x other c = by x.input other c.heard where
  by : (i : Input) → is_told i ≡ false → heard_by i ≡ Some c.call.call.number → ⊥
  by (Told n a) h heard = false_is_true (sym h)
  by Wake h heard = none_some c.call.call.number heard
  by (Line text) h heard = none_some c.call.call.number heard
  by (Number text) h heard = none_some c.call.call.number heard
  by (Exit p) h heard = none_some c.call.call.number heard
  by (Spawned p ok) h heard = none_some c.call.call.number heard

pub open_awake : (x : Step) → x.input ≡ Wake → IsConcluded x → ⊥
open_awake x wake c = open_unless_told x (ap (λ i. is_told i) wake) c

-- ---- what may be done while nothing is concluded

reads_may : (x y : Step) (s : Session) (at : Spot) (work : Work) (step : LeaseStep) → (IsConcluded x → ⊥) → ReadAllowed (MayCall x) y s at work step
reads_may x y s at work (ReadArea name) going = λ c. absurd (going c)
reads_may x y s at work ReadBeforeFree going = λ c. absurd (going c)
reads_may x y s at work (ReadAgain (OfArea name)) going = λ c. absurd (going c)
reads_may x y s at work (ReadAgain OfFree) going = λ c. absurd (going c)
reads_may x y s at work (ReadAgain OfBlock) going = λ c. absurd (going c)
reads_may x y s at work (ReadAgain OfPhase1) going = λ c. absurd (going c)
reads_may x y s at work (ReadAgain OfPhase2) going = λ c. absurd (going c)
reads_may x y s at work step going = λ c. absurd (going c)

-- Of what a line is granted nothing is said.
granted_may : (x : Step) (j lver : ℕ) → is_line x.input ≡ true → MayAnswer (is_explained x.input) x j (Granted lver)
granted_may x j lver on = (late x (Granted lver) refl, λ shown. absurd (false_is_true (sym (ap (λ b. not b) on) ∙ shown)))

granting_may : (x : Step) (j lver : ℕ) (c : Command) → MayAnswer (is_explained x.input) x j (Granted lver) → (x.input ≡ Wake → ⊥) → GrantAllowed (MayAnswer (is_explained x.input) x) (MayStart x) j lver c
granting_may x j lver (Acquire r shared p persistent) may told = may
granting_may x j lver (TakeOver r shared p persistent) may told = may
granting_may x j lver (RunProgram r shared path) may told = λ wake. absurd (told wake)
granting_may x j lver (AddLockspace a) may told = tt
granting_may x j lver (RemLockspace a) may told = tt
granting_may x j lver (InqLockspace a) may told = tt
granting_may x j lver (HostStatus a) may told = tt
granting_may x j lver (Release r p) may told = tt
granting_may x j lver (ReleaseOrphan r) may told = tt
granting_may x j lver (Convert r shared p) may told = tt
granting_may x j lver (Request r v how) may told = tt
granting_may x j lver (GetLvb r p) may told = tt
granting_may x j lver (SetLvb r p bytes) may told = tt
granting_may x j lver (SetKillpath p path) may told = tt
granting_may x j lver Status may told = tt

-- A job is granted.
abbrev pub Gives : LeaseNext → Type 0
Gives (GrantJob mode lver) = Unit {0}
Gives (BecomeShared lver l) = Unit {0}
Gives (BecomeExclusive lver b) = Unit {0}
Gives n = ⊥

pub lease_may : (x y : Step) (s : Session) (at : Spot) (work : Work) (n : LeaseNext) → (IsConcluded x → ⊥) → ((r : Reply) → n ≡ AnswerJob r → (j : ℕ) → work_job work ≡ Some j → MayAnswer (is_explained x.input) x j r)
    → (Gives n → (j lver : ℕ) → work_job work ≡ Some j → MayAnswer (is_explained x.input) x j (Granted lver)) → ((j : ℕ) → work_job work ≡ Some j → x.input ≡ Wake → ⊥)
    → LeaseAllowed (MayAnswer (is_explained x.input) x) (MayCall x) (MayStart x) y s at work n
lease_may x y s at work No_lease going none may told = tt
lease_may x y s at work (ReadFor step) going none may told = reads_may x y s at work step going
lease_may x y s at work (WriteBlock step b) going none may told = λ c. absurd (going c)
lease_may x y s at work (WriteLeader step l) going none may told = λ c. absurd (going c)
lease_may x y s at work (AnswerJob r) going none may told = λ j is. none r refl j is
lease_may x y s at work (GrantJob mode lver) going none may told = λ j c is reads. granting_may x j lver c (may tt j lver is) (told j is)
lease_may x y s at work (BecomeShared lver l) going none may told = ((λ j is. may tt j lver is), λ c. absurd (going c))
lease_may x y s at work (BecomeExclusive lver b) going none may told = ((λ j is. may tt j lver is), λ z same c. absurd (going c))

-- What answers nobody.
abbrev pub AnswersNobody : LeaseNext → Type 0
AnswersNobody (AnswerJob r) = ⊥
AnswersNobody n = Unit {0}

pub nobody : (x : Step) (n : LeaseNext) (work : Work) → AnswersNobody n → (r : Reply) → n ≡ AnswerJob r → (j : ℕ) → work_job work ≡ Some j → MayAnswer (is_explained x.input) x j r
nobody x n work h r is j its = absurd (subst (λ k. AnswersNobody k) is h)

-- What a line begins answers nobody, unless a turn would pass its limit.
abbrev LimitsAlone : LeaseNext → Type 0
LimitsAlone (AnswerJob r) = r ≡ LimitReached TurnLimit
LimitsAlone n = Unit {0}

nobody_alone : (n : LeaseNext) → AnswersNobody n → LimitsAlone n
nobody_alone (AnswerJob r) h = absurd h
nobody_alone No_lease h = tt
nobody_alone (ReadFor step) h = tt
nobody_alone (WriteBlock step b) h = tt
nobody_alone (WriteLeader step l) h = tt
nobody_alone (GrantJob mode lver) h = tt
nobody_alone (BecomeShared lver l) h = tt
nobody_alone (BecomeExclusive lver b) h = tt

-- Of which nothing is said at a line.
limited_may : (x : Step) (n : LeaseNext) (work : Work) → is_line x.input ≡ true → ((r : Reply) → IsLate x r) → LimitsAlone n → (r : Reply) → n ≡ AnswerJob r → (j : ℕ) → work_job work ≡ Some j
    → MayAnswer (is_explained x.input) x j r
limited_may x n work on after h r is j its =
    let same : r ≡ LimitReached TurnLimit = subst (λ k. LimitsAlone k) is h in
    (after r, λ shown. absurd (false_is_true (sym (ap (λ b. not b) on) ∙ subst (λ q. is_explained x.input q ≡ true) same shown)))

release_nobody : (p : LeasePlace) (k : LeaseKnown) (mode : Mode) (n : ℕ) → AnswersNobody (release_next p k mode n)
release_nobody p k Exclusive n = tt
release_nobody p k Shared n = mapped_or AnswersNobody _ k.own No_lease (λ b. tt) tt

convert_nobody : (k : LeaseKnown) (mode : Mode) (name : List ℕ) → AnswersNobody (convert_next k mode name)
convert_nobody k Exclusive name = tt
convert_nobody k Shared name = mapped_or AnswersNobody _ k.own No_lease (λ b. tt) tt

-- ---- lines

-- A line is no wake.
on_line : (x : Step) → is_line x.input ≡ true → x.input ≡ Wake → ⊥
on_line x on wake = false_is_true (sym (ap (λ i. is_line i) wake) ∙ on)

-- What was decided on a line.
pub line_may : (x : Step) (j : ℕ) (c : Command) (d : Decision) → (is_line x.input ≡ true) → (IsConcluded x → ⊥) → ((r : Reply) → IsLate x r) → DecisionAllowed (Going (is_explained x.input) x) (MayAnswer (is_explained x.input) x) (MayCall x) (MayStart x) x j c d
line_may x j c (Replies r) on going after = tt
line_may x j c (Joins n a) on going after = λ z is q. absurd (going q)
line_may x j c (Leaves s) on going after =
    ((λ wake. refl), λ z k i there. (after (Recovering (last_renewal z.setting (seen z) s)), λ shown. absurd (false_is_true (sym (ap (λ b. not b) on) ∙ shown))))
line_may x j c (ReadsArea s r) on going after = λ q. absurd (going q)
line_may x j c (Shares s lver) on going after = granting_may x j lver c (granted_may x j lver on) (on_line x on)
line_may x j c (GivesUp s g) on going after =
    let y : Step = add_end (end_of g) x in (
      (after Done, λ shown. absurd (false_is_true (sym (ap (λ b. not b) on) ∙ shown))),
      lease_may x y s (spot_of_grant g) (ForJob j) (next_of_release x.setting (seen y) s (spot_of_grant g) g) going
          (limited_may x (next_of_release x.setting (seen y) s (spot_of_grant g) g) (ForJob j) on after
          (release_is LimitsAlone x.setting (seen y) s (spot_of_grant g) g
          (λ fits. nobody_alone (release_next (lease_place x.setting s) (known x.setting (seen y) s (spot_of_grant g)) g.mode g.lver)
          (release_nobody (lease_place x.setting s) (known x.setting (seen y) s (spot_of_grant g)) g.mode g.lver)) (λ paired over writes. refl))) (λ gives i n is. granted_may x i n on) (λ i is. on_line x on),
    )
line_may x j c (TakesOver s g) on going after = granting_may x j g.lver c (granted_may x j g.lver on) (on_line x on)
line_may x j c (ConvertsTo s r mode) on going after =
    lease_may x x s (spot_of r) (ForJob j) (next_of_conversion x.setting (seen x) s (spot_of r) mode r.name) going
    (limited_may x (next_of_conversion x.setting (seen x) s (spot_of r) mode r.name) (ForJob j) on after
    (conversion_is LimitsAlone x.setting (seen x) s (spot_of r) mode r.name
    (λ fits. nobody_alone (convert_next (known x.setting (seen x) s (spot_of r)) mode r.name) (convert_nobody (known x.setting (seen x) s (spot_of r)) mode r.name)) (λ paired over writes. refl))) (λ gives i n is. granted_may x i n on) (λ i is. on_line x on)
line_may x j c (Requests s r) on going after = λ q. absurd (going q)
line_may x j c (SetsValue s at v) on going after = λ q. absurd (going q)
line_may x j c (GetsValue s at) on going after = λ q. absurd (going q)

-- What is explained in some entry is so on a wake.
pub explained_awake : (i : Input) (r : Reply) → is_explained i r ≡ true → is_explained Wake r ≡ true
explained_awake i (Recovering t) is = refl
explained_awake i Done is = refl
explained_awake i (Granted n) is = refl
explained_awake i (LimitReached which) is = by which where
  by : (l : Limited) → is_explained Wake (LimitReached l) ≡ true
  by TurnLimit = refl
  by l = refl
explained_awake i r is = refl

-- What an act does after the input is seen.
pub from_wake : (x z : Step) (i : Input) → (i ≡ Wake → ⊥) → x.input ≡ Wake → Going (is_explained i) (with_input i x) z → CausedSoFar is_explained x → CausedSoFar is_explained z
from_wake x z i other wake g h =
    record {
      before = before_later x z first h.before;
      facts = facts_later x z first h.facts;
      causes = λ a there shown apart. let here : is_explained i a.reply ≡ true = ap (λ k. is_explained k a.reply) (sym g.input) ∙ shown in by a here (g.replies a there here);
      jobless = λ is. absurd (other (sym g.input ∙ is));
    } where
      w : Step
      w = with_input i x

      first : IsLater x z
      first = record { setting = g.later.setting; before = g.later.before; reading = g.later.reading; carried = λ told. absurd (told wake) }

      by : (a : JobReply) → is_explained i a.reply ≡ true → Contains w.effects.replies a ⊎ StaysCaused w a → StaysCaused z a
      by a shown (inl old) = λ u later.
          h.causes a old (ap (λ k. is_explained k a.reply) wake ∙ explained_awake i a.reply shown) (λ o. wake_no_line x.input o.text wake o.line) u (after_that x z u first later)
      by a shown (inr new) = λ u later. new u (after_that w z u g.later later)

pub line_no_wake : (i : Input) (text : List ℕ) → i ≡ Line text → i ≡ Wake → ⊥
line_no_wake i text is wake = cc

pub told_no_wake : (i : Input) (n : ℕ) (a : Answer) → i ≡ Told n a → i ≡ Wake → ⊥
told_no_wake i n a is wake = cc

pub number_no_wake : (i : Input) (text : List ℕ) → i ≡ Number text → i ≡ Wake → ⊥
number_no_wake i text is wake = cc

pub exit_no_wake : (i : Input) (p : ℕ) → i ≡ Exit p → i ≡ Wake → ⊥
exit_no_wake i p is wake = cc

pub spawned_no_wake : (i : Input) (p : ℕ) (ok : Bool) → i ≡ Spawned p ok → i ≡ Wake → ⊥
spawned_no_wake i p ok is wake = cc

-- A line that is answered at once.
pub at_once : (x : Step) (text : List ℕ) (r : Reply) → Keeps x → x.input ≡ Wake → let z : Step = answer_line text (next_job x.setting (seen x)) r x in
    (is_explained (Line text) r ≡ true → (IsAtOnce z (record { job = next_job x.setting (seen x); reply = r }) → ⊥) → StaysCaused z (record { job = next_job x.setting (seen x); reply = r })) → CausedSoFar is_explained z
at_once x text r k wake cause =
    record {
      before = k.1.before;
      facts = k.1.facts;
      causes = λ a there shown apart. by a shown apart (contains_last x.effects.replies (record { job = j; reply = r }) a there);
      jobless = λ is. absurd (line_no_wake z.input text refl is);
    } where
      j : ℕ
      j = next_job x.setting (seen x)

      z : Step
      z = answer_line text (next_job x.setting (seen x)) r x

      first : IsLater x z
      first = record { setting = refl; before = refl; reading = refl; carried = λ told. absurd (told wake) }

      by : (a : JobReply) → is_explained (Line text) a.reply ≡ true → (IsAtOnce z a → ⊥) → Contains x.effects.replies a ⊎ (record { job = j; reply = r } ≡ a) → StaysCaused z a
      by a shown apart (inl old) = λ u later.
          k.1.causes a old (ap (λ i. is_explained i a.reply) wake ∙ explained_awake (Line text) a.reply shown) (λ o. wake_no_line x.input o.text wake o.line) u (after_that x z u first later)
      by a shown apart (inr new) =
          subst (λ b. StaysCaused z b) new
          (cause (subst (λ (b : JobReply). is_explained (Line text) b.reply ≡ true) (sym new) shown) (λ o. apart (subst (λ b. IsAtOnce z b) new o)))

-- .. with a command.
pub commanded : (x : Step) (text : List ℕ) (c : Command) (r : Reply) → Keeps x → x.input ≡ Wake → x.setting.read text ≡ Ok c → CausedSoFar is_explained (answer_line text (next_job x.setting (seen x)) r x)
commanded x text c r k wake says =
    at_once x text r k wake
    (λ shown apart. absurd (apart (record { text = text; line = refl; command = c; says = says; own = next_before x wake; ungranted = (k.0.1.waking wake).1; unended = (k.0.1.waking wake).0 })))

-- .. without one.
pub misread_caused : (x : Step) (text : List ℕ) (column : ℕ) → x.input ≡ Wake → x.setting.read text ≡ Err column
    → StaysCaused (answer_line text (next_job x.setting (seen x)) (Misread column) x) (record { job = next_job x.setting (seen x); reply = Misread column })
misread_caused x text column wake says =
    by_effects z (record { job = j; reply = Misread column }) (λ is. line_no_wake z.input text refl is)
    (λ fx carried job found. by fx job (sym (ap (λ n. job_numbered x.setting (seen (with_effects z fx)) n) (next_before x wake)) ∙ found)) where
      j : ℕ
      j = next_job x.setting (seen x)

      z : Step
      z = answer_line text j (Misread column) x

      made : Job
      made = record { number = next_job x.setting x.past; at = length x.past; reading = x.reading; command = x.setting.read text }

      its : (fx : Effects) → job_numbered x.setting (seen (with_effects z fx)) (next_job x.setting x.past) ≡ Some made
      its fx = line_is x.setting x.past x.reading text fx

      by : (fx : Effects) (job : Job) → job_numbered x.setting (seen (with_effects z fx)) (next_job x.setting x.past) ≡ Some job → CausedBy (answering (with_effects z fx) job) (Misread column)
      by fx job found =
          let same : made ≡ job = one_value made job (job_numbered x.setting (seen (with_effects z fx)) (next_job x.setting x.past)) (its fx) found in
          (ap (λ (k : Job). k.at) (sym same), ap (λ (k : Job). k.command) (sym same) ∙ says)

-- A process exits, and its jobs are refused.
pub exit_done : (x : Step) (p : ℕ) → Keeps x → x.input ≡ Wake → CausedSoFar is_explained (refuse_jobs_of p (leave_holdings p (with_input (Exit p) x)))
exit_done x p k wake =
    from_wake x (refuse_jobs_of p y) (Exit p) (λ is. exit_no_wake (Exit p) p refl is) wake
    (for_each_keeps (Going (is_explained w.input) w) (filter (is_job_of_process (seen y) p) (running_jobs y.setting (seen y))) (λ j. add_reply j.number (NoProcess p)) y
    (λ j there z g. (going (is_explained w.input) w).replies z j.number (NoProcess p) (late_unless_told w (NoProcess p) refl, λ shown. exit_caused x p (k.1.jobless wake) j there) g)
    (left (Going (is_explained w.input) w) (Going (is_explained w.input) w) (MayAnswer (is_explained w.input) w) (MayCall w) (MayStart w) AnyMove (going (is_explained w.input) w) w p (begins (is_explained w.input) w))) k.1
  where
    w : Step
    w = with_input (Exit p) x

    y : Step
    y = leave_holdings p w
