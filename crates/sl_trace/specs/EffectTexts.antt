-- What is printed of replies and effects, without line feeds.
use Rattle.sl_sector.specs.RecordTexts.{dash_for_none, record_words}
use Rattle.sl_text.specs.Forms.{coloned, spaced}
use Rattle.sl_text.specs.Numbers.{hex_text}
use Rattle.sl_trace.specs.CountLimits.{most_children, most_holders, most_killpaths, most_lockspaces, most_resources}
use Rattle.sl_trace.specs.declared.effects.Call.{Call}
use Rattle.sl_trace.specs.declared.effects.Effects.{Effects}
use Rattle.sl_trace.specs.declared.effects.End.{End}
use Rattle.sl_trace.specs.declared.effects.Grant.{Grant}
use Rattle.sl_trace.specs.declared.effects.JobReply.{JobReply}
use Rattle.sl_trace.specs.declared.effects.Mode.TheVariants.{Exclusive, Shared}
use Rattle.sl_trace.specs.declared.effects.Mode.{Mode}
use Rattle.sl_trace.specs.declared.effects.Move.TheVariants.{Register, Renew, Unregister}
use Rattle.sl_trace.specs.declared.effects.Move.{Move}
use Rattle.sl_trace.specs.declared.effects.Op.TheVariants.{ReadSectors, WriteRecord}
use Rattle.sl_trace.specs.declared.effects.Op.{Op}
use Rattle.sl_trace.specs.declared.effects.Sent.{Sent}
use Rattle.sl_trace.specs.declared.effects.Signal.TheVariants.{Kill, Term}
use Rattle.sl_trace.specs.declared.effects.Signal.{Signal}
use Rattle.sl_trace.specs.declared.effects.Start.{Start}
use Rattle.sl_trace.specs.declared.reply.DeltaOwner.{DeltaOwner}
use Rattle.sl_trace.specs.declared.reply.DeltaVersion.{DeltaVersion}
use Rattle.sl_trace.specs.declared.reply.HostState.TheVariants.{Dead, Failing, Free as LooksFree, Live as LooksLive, Unknown}
use Rattle.sl_trace.specs.declared.reply.HostState.{HostState}
use Rattle.sl_trace.specs.declared.reply.Limited.TheVariants.{Children, Gen as GenLimit, Holders, Killpaths, Lockspaces, Lver as LverLimit, Mbal as MbalLimit, Resources, Seq as SeqLimit, Turn as TurnLimit}
use Rattle.sl_trace.specs.declared.reply.Limited.{Limited}
use Rattle.sl_trace.specs.declared.reply.Reply.TheVariants.{Ahead, BadCommand as Misread, Busy, Done, Generation, Granted, Held as HeldBy, Hosts, IdHeld, IdLate, IdLost, IoFault, IoTimeout, Joined, Joining as StillJoining, Limit as LimitReached, NoOrphan, NoProcess, NoSession, NotHeld, Pending, Recovering, RequestOld, Rival, Sessions, Shared as SharedBy, SpawnFault, Started, TornBlock, TornDelta, TornLeader, Value, ValueSet, ValueTorn, WrongArea, WrongDelta}
use Rattle.sl_trace.specs.declared.reply.Reply.{Reply}
use Rattle.sl_words.specs.Bounds.{record_numbers}
use Rattle.std.specs.Prelude.{Bool, List, None, Option, Some, codes, decimal, false, filter, map, not, true, [], ℕ, ◌++◌, ◌-◌, ◌∷◌}

-- ---- replies

-- The word of a host's state.
abbrev pub state_word : HostState → List ℕ
state_word Unknown = codes "UNKN"
state_word LooksFree = codes "FREE"
state_word Dead = codes "DEAD"
state_word Failing = codes "FAIL"
state_word LooksLive = codes "LIVE"

-- Whether the id is free; such an id isn't told.
abbrev pub is_free_host : HostState → Bool
is_free_host LooksFree = true
is_free_host s = false

-- The greatest number that a record may carry.
abbrev pub greatest_number : List ℕ
greatest_number = decimal (record_numbers - 1)

-- What was counted, and its limit.
abbrev pub limit_words : Limited → List (List ℕ)
limit_words Lockspaces = codes "lockspaces" ∷ decimal most_lockspaces ∷ []
limit_words Resources = codes "resources" ∷ decimal most_resources ∷ []
limit_words Holders = codes "holders" ∷ decimal most_holders ∷ []
limit_words Children = codes "children" ∷ decimal most_children ∷ []
limit_words Killpaths = codes "killpaths" ∷ decimal most_killpaths ∷ []
limit_words GenLimit = codes "gen" ∷ greatest_number ∷ []
limit_words SeqLimit = codes "seq" ∷ greatest_number ∷ []
limit_words LverLimit = codes "lver" ∷ greatest_number ∷ []
limit_words MbalLimit = codes "mbal" ∷ greatest_number ∷ []
limit_words TurnLimit = codes "turn" ∷ greatest_number ∷ []

-- Generation and seq.
abbrev pub version_words : DeltaVersion → List (List ℕ)
version_words v = decimal v.generation ∷ decimal v.seq ∷ []

-- Generation and name.
abbrev pub owner_words : DeltaOwner → List (List ℕ)
owner_words o = decimal o.generation ∷ o.name ∷ []

-- What a later read spells, or `torn`.
abbrev pub or_torn : {A : Type 0} → (A → List (List ℕ)) → Option A → List (List ℕ)
or_torn words None = codes "torn" ∷ []
or_torn words (Some a) = words a

-- A number, or `torn`.
abbrev pub number_word : Option ℕ → List ℕ
number_word None = codes "torn"
number_word (Some n) = decimal n

-- The words of a reply.
unfoldable pub reply_words : Reply → List (List ℕ)
reply_words Done = codes "ok" ∷ []
reply_words (Generation g) = codes "ok" ∷ decimal g ∷ []
reply_words (Granted lver) = codes "ok" ∷ decimal lver ∷ []
reply_words (Started lver process) = codes "ok" ∷ decimal lver ∷ decimal process ∷ []
reply_words (Value lver seq bytes) = codes "ok" ∷ decimal lver ∷ decimal seq ∷ dash_for_none (hex_text bytes) ∷ []
reply_words (ValueSet lver seq) = codes "ok" ∷ []
reply_words (Hosts states) =
    codes "ok" ∷ map (λ s. coloned (decimal s.id ∷ state_word s.state ∷ [])) (filter (λ s. not (is_free_host s.state)) states)
reply_words (Sessions sessions) =
    codes "ok" ∷ map (λ s. coloned (s.lockspace ∷ decimal s.id ∷ decimal s.generation ∷ [])) sessions
reply_words NoSession = codes "NoSession" ∷ []
reply_words StillJoining = codes "Joining" ∷ []
reply_words (Recovering t) = codes "Recovering" ∷ decimal t ∷ []
reply_words (IdHeld first later) = codes "IdHeld" ∷ version_words first ++ or_torn version_words later
reply_words (IdLost own found) = codes "IdLost" ∷ owner_words own ++ or_torn owner_words found
reply_words (IdLate claimed now) = codes "IdLate" ∷ decimal claimed ∷ decimal now ∷ []
reply_words TornDelta = codes "TornDelta" ∷ []
reply_words TornLeader = codes "TornLeader" ∷ []
reply_words (TornBlock host) = codes "TornBlock" ∷ decimal host ∷ []
reply_words (HeldBy lver owner) = codes "Held" ∷ decimal lver ∷ decimal owner.id ∷ decimal owner.generation ∷ []
reply_words (SharedBy owner) = codes "Shared" ∷ decimal owner.id ∷ decimal owner.generation ∷ []
reply_words (Rival host mbal) = codes "Rival" ∷ decimal host ∷ decimal mbal ∷ []
reply_words (Ahead host lver) = codes "Ahead" ∷ decimal host ∷ decimal lver ∷ []
reply_words (IoTimeout call from to) = codes "IoTimeout" ∷ decimal call ∷ decimal from ∷ decimal to ∷ []
reply_words (IoFault call) = codes "IoFault" ∷ decimal call ∷ []
reply_words (Pending call) = codes "Pending" ∷ decimal call ∷ []
reply_words (Busy process) = codes "Busy" ∷ decimal process ∷ []
reply_words NoOrphan = codes "NoOrphan" ∷ []
reply_words NotHeld = codes "NotHeld" ∷ []
reply_words SpawnFault = codes "SpawnFault" ∷ []
reply_words ValueTorn = codes "ValueTorn" ∷ []
reply_words (Misread column) = codes "BadCommand" ∷ decimal column ∷ []
reply_words (LimitReached which) = codes "Limit" ∷ limit_words which
reply_words (RequestOld held stored) = codes "RequestOld" ∷ decimal held ∷ number_word stored ∷ []
reply_words (WrongArea lockspace resource hosts) = codes "WrongArea" ∷ lockspace ∷ resource ∷ decimal hosts ∷ []
reply_words (WrongDelta lockspace id) = codes "WrongArea" ∷ lockspace ∷ decimal id ∷ []
reply_words (NoProcess process) = codes "NoProcess" ∷ decimal process ∷ []
reply_words (Joined generation) = codes "Joined" ∷ decimal generation ∷ []

-- The text of a reply.
abbrev pub reply_text : Reply → List ℕ
reply_text r = spaced (reply_words r)

-- The reply's text begins with "ok".
abbrev pub is_ok_reply : Reply → Bool
is_ok_reply Done = true
is_ok_reply (Generation g) = true
is_ok_reply (Granted lver) = true
is_ok_reply (Started lver process) = true
is_ok_reply (Value lver seq bytes) = true
is_ok_reply (ValueSet lver seq) = true
is_ok_reply (Hosts states) = true
is_ok_reply (Sessions sessions) = true
is_ok_reply r = false

-- ---- report lines

-- A resource as grants and ends tell it.
abbrev pub of_resource : List ℕ → List ℕ → List ℕ
of_resource lockspace resource = coloned (lockspace ∷ resource ∷ [])

-- The words of an end.
abbrev pub end_words : End → List (List ℕ)
end_words e = codes "end" ∷ decimal e.process ∷ of_resource e.lockspace e.resource ∷ []

-- The word of a signal.
abbrev pub signal_word : Signal → List ℕ
signal_word Term = codes "term"
signal_word Kill = codes "kill"

-- The words of a signal with its process.
abbrev pub sent_words : Sent → List (List ℕ)
sent_words s = codes "signal" ∷ decimal s.process ∷ signal_word s.signal ∷ []

-- The words of a connection's move.
abbrev pub move_words : Move → List (List ℕ)
move_words (Register lockspace expiry) = codes "wdmd" ∷ codes "register" ∷ lockspace ∷ decimal expiry ∷ []
move_words (Renew lockspace expiry) = codes "wdmd" ∷ codes "renew" ∷ lockspace ∷ decimal expiry ∷ []
move_words (Unregister lockspace) = codes "wdmd" ∷ codes "unregister" ∷ lockspace ∷ []

-- The word of a mode.
abbrev pub mode_word : Mode → List ℕ
mode_word Exclusive = codes "ex"
mode_word Shared = codes "sh"

-- The words of a grant.
abbrev pub grant_words : Grant → List (List ℕ)
grant_words g = codes "grant" ∷ decimal g.process ∷ of_resource g.lockspace g.resource ∷ mode_word g.mode ∷ decimal g.lver ∷ []

-- The words of a start.
abbrev pub start_words : Start → List (List ℕ)
start_words s = codes "start" ∷ decimal s.process ∷ s.program ∷ []

-- The words of a reply with its job.
abbrev pub answer_words : JobReply → List (List ℕ)
answer_words a = codes "reply" ∷ decimal a.job ∷ reply_words a.reply

-- The words of a read or a write.
abbrev pub op_words : List ℕ → ℕ → Op → List (List ℕ)
op_words path offset (ReadSectors sectors) = codes "read" ∷ path ∷ decimal offset ∷ decimal sectors ∷ []
op_words path offset (WriteRecord r) = codes "write" ∷ path ∷ decimal offset ∷ record_words r

-- The words of a call.
abbrev pub call_words : Call → List (List ℕ)
call_words c = codes "call" ∷ decimal c.number ∷ op_words c.path c.offset c.op

-- The lines of one step, in the order of their classes.
abbrev pub effect_words : Effects → List (List (List ℕ))
effect_words fx =
    map end_words fx.ends ++ map sent_words fx.signals ++ map move_words fx.moves ++ map grant_words fx.grants
    ++ map start_words fx.starts ++ map answer_words fx.replies ++ map call_words fx.calls

-- A line with its machine.
abbrev pub machine_line : ℕ → List (List ℕ) → List ℕ
machine_line machine ws = spaced (decimal machine ∷ ws)

-- The lines of one step of a machine.
abbrev pub effect_lines : ℕ → Effects → List (List ℕ)
effect_lines machine fx = map (machine_line machine) (effect_words fx)
