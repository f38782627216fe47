-- What an ok reply to the read of a value tells, by its cause: a value.
use Rattle.sl_run.specs.Caused.{Answering, CausedBy, after_entry}
use Rattle.sl_trace.specs.EffectTexts.{is_ok_reply}
use Rattle.sl_trace.specs.Traces.{job_numbered}
use Rattle.sl_trace.specs.declared.command.Command.TheVariants.{AddLockspace, GetLvb, HostStatus, InqLockspace, RunProgram, SetLvb, Status}
use Rattle.sl_trace.specs.declared.command.LockspaceArg.{LockspaceArg}
use Rattle.sl_trace.specs.declared.command.ResourceArg.{ResourceArg}
use Rattle.sl_trace.specs.declared.reply.Reply.TheVariants.{Ahead, BadCommand as Misread, Busy, Done, Generation, Granted, Held, Hosts, IdHeld, IdLate, IdLost, IoFault, IoTimeout, Joined, Joining as StillJoining, Limit, NoOrphan, NoProcess, NoSession, NotHeld, Pending, Recovering, RequestOld, Rival, Sessions, Shared, SpawnFault, Started, TornBlock, TornDelta, TornLeader, Value, ValueSet, ValueTorn, WrongArea, WrongDelta}
use Rattle.sl_trace.specs.declared.reply.Reply.{Reply}
use Rattle.sl_headline.proofs.Volumes.AcquireCauses.{of_command}
use Rattle.sl_headline.proofs.Volumes.JobNumbers.{numbered_stays}
use Rattle.sl_headline.proofs.Volumes.JoinJobs.{job_joins}
use Rattle.sl_headline.proofs.Volumes.SameValue.ToldVersions.{one_command}
use Rattle.sl_words.proofs.CaseLaws.{false_is_true}
use Rattle.std.proofs.Common.{inl, inr, refl}
use Rattle.std.specs.Prelude.{Bool, List, Ok, Some, true, ℕ, ◌≡◌}

-- The reply tells a value.
abbrev pub TellsValue : Reply → Type 0
TellsValue v = (lver : ℕ) × (seq : ℕ) × (bytes : List ℕ) × (v ≡ Value lver seq bytes)

no_inquiry : (r : ResourceArg) (p : ℕ) (a : LockspaceArg) → GetLvb r p ≡ InqLockspace a → ⊥
no_inquiry r p a h = cc

no_status : (r : ResourceArg) (p : ℕ) (a : LockspaceArg) → GetLvb r p ≡ HostStatus a → ⊥
no_status r p a h = cc

no_sessions : (r : ResourceArg) (p : ℕ) → GetLvb r p ≡ Status → ⊥
no_sessions r p h = cc

no_program : (r q : ResourceArg) (other : Bool) (p : ℕ) (path : List ℕ) → GetLvb r p ≡ RunProgram q other path → ⊥
no_program r q other p path h = cc

no_set : (r q : ResourceArg) (p k : ℕ) (bytes : List ℕ) → GetLvb r p ≡ SetLvb q k bytes → ⊥
no_set r q p k bytes h = cc

no_join : (r : ResourceArg) (p : ℕ) (a : LockspaceArg) → GetLvb r p ≡ AddLockspace a → ⊥
no_join r p a h = cc

-- No lockspace is told of, and none is joined.
tells_none : (x : Answering) (r : ResourceArg) (p : ℕ) (g : ℕ) → x.job.command ≡ Ok (GetLvb r p) → job_numbered x.setting (after_entry x) x.job.number ≡ Some x.job → CausedBy x (Generation g) → ⊥
tells_none x r p g command is (inl h) = no_inquiry r p h.1.0 (of_command x _ (GetLvb r p) command h.1.1)
tells_none x r p g command is (inr h) =
    let j = job_joins x.setting x.past h.0 x.job.number h.1 in
    no_join r p j.0
    (one_command x.setting (after_entry x) x.job.number (GetLvb r p) (AddLockspace j.0) (x.job, is, command)
    (j.1.0, numbered_stays x.setting x.entry x.past x.job.number j.1.0 j.1.1, j.1.2))

sets_none : (x : Answering) (r : ResourceArg) (p lver seq : ℕ) → x.job.command ≡ Ok (GetLvb r p) → CausedBy x (ValueSet lver seq) → ⊥
sets_none x r p lver seq command (c, answers, (purpose, (v, writes, one, two, (q, k, sets)))) = no_set r q p k v.bytes (of_command x _ (GetLvb r p) command sets)

pub value_told : (x : Answering) (r : ResourceArg) (p : ℕ) → x.job.command ≡ Ok (GetLvb r p) → job_numbered x.setting (after_entry x) x.job.number ≡ Some x.job → (v : Reply)
    → is_ok_reply v ≡ true → CausedBy x v → TellsValue v
value_told x r p command is Done ok h = absurd (of_command x _ (GetLvb r p) command h)
value_told x r p command is (Generation g) ok h = absurd (tells_none x r p g command is h)
value_told x r p command is (Granted lver) ok h = absurd (of_command x _ (GetLvb r p) command h)
value_told x r p command is (Started lver q) ok h = absurd (no_program r h.2.0 h.2.1 p h.2.2 (of_command x _ (GetLvb r p) command h.2.3))
value_told x r p command is (Value lver seq bytes) ok h = (lver, seq, bytes, refl)
value_told x r p command is (ValueSet lver seq) ok h = absurd (sets_none x r p lver seq command h)
value_told x r p command is (Hosts all) ok h = absurd (no_status r p h.1.0 (of_command x _ (GetLvb r p) command h.1.1))
value_told x r p command is (Sessions all) ok h = absurd (no_sessions r p (of_command x _ (GetLvb r p) command h.1))
value_told x r p command is NoSession ok h = absurd (false_is_true ok)
value_told x r p command is StillJoining ok h = absurd (false_is_true ok)
value_told x r p command is (Recovering renewed) ok h = absurd (false_is_true ok)
value_told x r p command is (IdHeld first later) ok h = absurd (false_is_true ok)
value_told x r p command is (IdLost own found) ok h = absurd (false_is_true ok)
value_told x r p command is (IdLate claimed now) ok h = absurd (false_is_true ok)
value_told x r p command is TornDelta ok h = absurd (false_is_true ok)
value_told x r p command is TornLeader ok h = absurd (false_is_true ok)
value_told x r p command is (TornBlock host) ok h = absurd (false_is_true ok)
value_told x r p command is (Held lver owner) ok h = absurd (false_is_true ok)
value_told x r p command is (Shared owner) ok h = absurd (false_is_true ok)
value_told x r p command is (Rival host mbal) ok h = absurd (false_is_true ok)
value_told x r p command is (Ahead host lver) ok h = absurd (false_is_true ok)
value_told x r p command is (IoTimeout call from to) ok h = absurd (false_is_true ok)
value_told x r p command is (IoFault call) ok h = absurd (false_is_true ok)
value_told x r p command is (Pending call) ok h = absurd (false_is_true ok)
value_told x r p command is (Busy process) ok h = absurd (false_is_true ok)
value_told x r p command is NoOrphan ok h = absurd (false_is_true ok)
value_told x r p command is NotHeld ok h = absurd (false_is_true ok)
value_told x r p command is SpawnFault ok h = absurd (false_is_true ok)
value_told x r p command is ValueTorn ok h = absurd (false_is_true ok)
value_told x r p command is (Misread column) ok h = absurd (false_is_true ok)
value_told x r p command is (Limit which) ok h = absurd (false_is_true ok)
value_told x r p command is (RequestOld held stored) ok h = absurd (false_is_true ok)
value_told x r p command is (WrongArea lockspace resource hosts) ok h = absurd (false_is_true ok)
value_told x r p command is (WrongDelta lockspace id) ok h = absurd (false_is_true ok)
value_told x r p command is (NoProcess process) ok h = absurd (false_is_true ok)
value_told x r p command is (Joined generation) ok h = absurd (false_is_true ok)
