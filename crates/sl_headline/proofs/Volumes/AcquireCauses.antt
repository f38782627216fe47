-- What an ok reply to an acquire tells, by its cause: the lock was granted in its entry.
use Rattle.sl_run.specs.Caused.{Answering, CausedBy, GrantsTo, IsGrantedFor, after_entry, job_command}
use Rattle.sl_trace.specs.EffectTexts.{is_ok_reply}
use Rattle.sl_trace.specs.Traces.{Job, Setting, Trace, job_numbered}
use Rattle.sl_trace.specs.declared.command.Command.TheVariants.{Acquire, AddLockspace, GetLvb, HostStatus, InqLockspace, RunProgram, SetLvb, Status}
use Rattle.sl_trace.specs.declared.command.Command.{Command}
use Rattle.sl_trace.specs.declared.command.LockspaceArg.{LockspaceArg}
use Rattle.sl_trace.specs.declared.command.ResourceArg.{ResourceArg}
use Rattle.sl_trace.specs.declared.effects.Purpose.TheVariants.{ValueRead}
use Rattle.sl_trace.specs.declared.effects.Purpose.{Purpose}
use Rattle.sl_trace.specs.declared.reply.Reply.TheVariants.{Ahead, BadCommand as Misread, Busy, Done, Generation, Granted, Held, Hosts, IdHeld, IdLate, IdLost, IoFault, IoTimeout, Joined, Joining as StillJoining, Limit, NoOrphan, NoProcess, NoSession, NotHeld, Pending, Recovering, RequestOld, Rival, Sessions, Shared, SpawnFault, Started, TornBlock, TornDelta, TornLeader, Value, ValueSet, ValueTorn, WrongArea, WrongDelta}
use Rattle.sl_trace.specs.declared.reply.Reply.{Reply}
use Rattle.sl_headline.proofs.Volumes.JobNumbers.{numbered_stays}
use Rattle.sl_headline.proofs.Volumes.JoinJobs.{job_joins}
use Rattle.sl_headline.specs.Volumes.FittingRuns.{FitsValue, IsJobOf, ValueCallsFit}
use Rattle.sl_words.proofs.CaseLaws.{false_is_true, one_value}
use Rattle.std.proofs.Common.{ap, inl, inr, subst, sym, ◌∙◌}
use Rattle.std.specs.Prelude.{Bool, Err, List, Ok, Result, Some, false, true, ℕ, ◌≡◌}

-- ---- commands

-- What is said of a job's command, where it is known.
pub of_command : (x : Answering) (P : Command → Type 0) (c : Command) → x.job.command ≡ Ok c → job_command x P → P c
of_command x P c is h = subst (λ (o : Result Command ℕ). elim o as (λ y. Type 0) [ Ok d ↦ P d | Err e ↦ ⊥ ]) is h

abbrev as_read : Command → Result Command ℕ
as_read c = Ok c

ok_value : (c d : Command) → as_read c ≡ as_read d → c ≡ d
ok_value c d h = cc

no_inquiry : (r : ResourceArg) (shared : Bool) (p : ℕ) (a : LockspaceArg) → Acquire r shared p false ≡ InqLockspace a → ⊥
no_inquiry r shared p a h = cc

no_status : (r : ResourceArg) (shared : Bool) (p : ℕ) (a : LockspaceArg) → Acquire r shared p false ≡ HostStatus a → ⊥
no_status r shared p a h = cc

no_sessions : (r : ResourceArg) (shared : Bool) (p : ℕ) → Acquire r shared p false ≡ Status → ⊥
no_sessions r shared p h = cc

no_program : (r q : ResourceArg) (shared other : Bool) (p : ℕ) (path : List ℕ) → Acquire r shared p false ≡ RunProgram q other path → ⊥
no_program r q shared other p path h = cc

no_set : (r q : ResourceArg) (shared : Bool) (p k : ℕ) (bytes : List ℕ) → Acquire r shared p false ≡ SetLvb q k bytes → ⊥
no_set r q shared p k bytes h = cc

no_get : (r q : ResourceArg) (shared : Bool) (p k : ℕ) → Acquire r shared p false ≡ GetLvb q k → ⊥
no_get r q shared p k h = cc

no_join : (r : ResourceArg) (shared : Bool) (p : ℕ) (a : LockspaceArg) → Acquire r shared p false ≡ AddLockspace a → ⊥
no_join r shared p a h = cc

-- A job has one command.
one_command : (st : Setting) (es : Trace) (j : Job) (c d : Command) → job_numbered st es j.number ≡ Some j → j.command ≡ Ok c → IsJobOf st es j.number d → c ≡ d
one_command st es j c d is command (k, at, its) =
    ok_value c d (sym command ∙ ap (λ (y : Job). y.command) (one_value j k (job_numbered st es j.number) is at) ∙ its)

-- ---- the grant

granted_for : (x : Answering) (n : ℕ) (r : ResourceArg) (shared : Bool) (p : ℕ) → IsGrantedFor x n (Acquire r shared p false) → GrantsTo x r p shared false n
granted_for x n r true p h = h.0
granted_for x n r false p h = h.0

abbrev IsGranted : Answering → ResourceArg → Bool → ℕ → Type 0
IsGranted x r shared p = (n : ℕ) × GrantsTo x r p shared false n

-- No lockspace is told of, and none is joined.
tells_none : (x : Answering) (r : ResourceArg) (shared : Bool) (p : ℕ) (g : ℕ) → x.job.command ≡ Ok (Acquire r shared p false)
    → job_numbered x.setting (after_entry x) x.job.number ≡ Some x.job → CausedBy x (Generation g) → ⊥
tells_none x r shared p g command is (inl h) = no_inquiry r shared p h.1.0 (of_command x _ (Acquire r shared p false) command h.1.1)
tells_none x r shared p g command is (inr h) =
    let j = job_joins x.setting x.past h.0 x.job.number h.1 in
    no_join r shared p j.0
    (one_command x.setting (after_entry x) x.job (Acquire r shared p false) (AddLockspace j.0) is command
    (j.1.0, numbered_stays x.setting x.entry x.past x.job.number j.1.0 j.1.1, j.1.2))

-- No value is told.
reads_none : (x : Answering) (r : ResourceArg) (shared : Bool) (p lver seq : ℕ) (bytes : List ℕ) → x.job.command ≡ Ok (Acquire r shared p false)
    → job_numbered x.setting (after_entry x) x.job.number ≡ Some x.job → ValueCallsFit x.setting (after_entry x) → CausedBy x (Value lver seq bytes) → ⊥
reads_none x r shared p lver seq bytes command is fits h =
    let fit : FitsValue x.setting (after_entry x) h.0 (ValueRead x.job.number) =
    subst (λ (y : Purpose). FitsValue x.setting (after_entry x) h.0 y) h.3.0 (fits h.0 h.2.submitted_before) in
    no_get r fit.0 shared p fit.1 (one_command x.setting (after_entry x) x.job (Acquire r shared p false) (GetLvb fit.0 fit.1) is command fit.2)

sets_none : (x : Answering) (r : ResourceArg) (shared : Bool) (p lver seq : ℕ) → x.job.command ≡ Ok (Acquire r shared p false) → CausedBy x (ValueSet lver seq) → ⊥
sets_none x r shared p lver seq command (c, answers, (purpose, (v, writes, one, two, (q, k, sets)))) =
    no_set r q shared p k v.bytes (of_command x _ (Acquire r shared p false) command sets)

-- The cause of an ok reply to an acquire is its grant.
pub acquire_granted : (x : Answering) (r : ResourceArg) (shared : Bool) (p : ℕ) → x.job.command ≡ Ok (Acquire r shared p false)
    → job_numbered x.setting (after_entry x) x.job.number ≡ Some x.job → ValueCallsFit x.setting (after_entry x) → (v : Reply) → is_ok_reply v ≡ true → CausedBy x v
    → IsGranted x r shared p
acquire_granted x r shared p command is fits Done ok h = absurd (of_command x _ (Acquire r shared p false) command h)
acquire_granted x r shared p command is fits (Generation g) ok h = absurd (tells_none x r shared p g command is h)
acquire_granted x r shared p command is fits (Granted lver) ok h = (lver, granted_for x lver r shared p (of_command x _ (Acquire r shared p false) command h))
acquire_granted x r shared p command is fits (Started lver q) ok h = absurd (no_program r h.2.0 shared h.2.1 p h.2.2 (of_command x _ (Acquire r shared p false) command h.2.3))
acquire_granted x r shared p command is fits (Value lver seq bytes) ok h = absurd (reads_none x r shared p lver seq bytes command is fits h)
acquire_granted x r shared p command is fits (ValueSet lver seq) ok h = absurd (sets_none x r shared p lver seq command h)
acquire_granted x r shared p command is fits (Hosts all) ok h = absurd (no_status r shared p h.1.0 (of_command x _ (Acquire r shared p false) command h.1.1))
acquire_granted x r shared p command is fits (Sessions all) ok h = absurd (no_sessions r shared p (of_command x _ (Acquire r shared p false) command h.1))
acquire_granted x r shared p command is fits NoSession ok h = absurd (false_is_true ok)
acquire_granted x r shared p command is fits StillJoining ok h = absurd (false_is_true ok)
acquire_granted x r shared p command is fits (Recovering renewed) ok h = absurd (false_is_true ok)
acquire_granted x r shared p command is fits (IdHeld first later) ok h = absurd (false_is_true ok)
acquire_granted x r shared p command is fits (IdLost own found) ok h = absurd (false_is_true ok)
acquire_granted x r shared p command is fits (IdLate claimed now) ok h = absurd (false_is_true ok)
acquire_granted x r shared p command is fits TornDelta ok h = absurd (false_is_true ok)
acquire_granted x r shared p command is fits TornLeader ok h = absurd (false_is_true ok)
acquire_granted x r shared p command is fits (TornBlock host) ok h = absurd (false_is_true ok)
acquire_granted x r shared p command is fits (Held lver owner) ok h = absurd (false_is_true ok)
acquire_granted x r shared p command is fits (Shared owner) ok h = absurd (false_is_true ok)
acquire_granted x r shared p command is fits (Rival host mbal) ok h = absurd (false_is_true ok)
acquire_granted x r shared p command is fits (Ahead host lver) ok h = absurd (false_is_true ok)
acquire_granted x r shared p command is fits (IoTimeout call from to) ok h = absurd (false_is_true ok)
acquire_granted x r shared p command is fits (IoFault call) ok h = absurd (false_is_true ok)
acquire_granted x r shared p command is fits (Pending call) ok h = absurd (false_is_true ok)
acquire_granted x r shared p command is fits (Busy process) ok h = absurd (false_is_true ok)
acquire_granted x r shared p command is fits NoOrphan ok h = absurd (false_is_true ok)
acquire_granted x r shared p command is fits NotHeld ok h = absurd (false_is_true ok)
acquire_granted x r shared p command is fits SpawnFault ok h = absurd (false_is_true ok)
acquire_granted x r shared p command is fits ValueTorn ok h = absurd (false_is_true ok)
acquire_granted x r shared p command is fits (Misread column) ok h = absurd (false_is_true ok)
acquire_granted x r shared p command is fits (Limit which) ok h = absurd (false_is_true ok)
acquire_granted x r shared p command is fits (RequestOld held stored) ok h = absurd (false_is_true ok)
acquire_granted x r shared p command is fits (WrongArea lockspace resource hosts) ok h = absurd (false_is_true ok)
acquire_granted x r shared p command is fits (WrongDelta lockspace id) ok h = absurd (false_is_true ok)
acquire_granted x r shared p command is fits (NoProcess process) ok h = absurd (false_is_true ok)
acquire_granted x r shared p command is fits (Joined generation) ok h = absurd (false_is_true ok)
