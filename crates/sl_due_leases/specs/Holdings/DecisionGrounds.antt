-- What a command found that came to more than a reply: its refusals don't hold.
use Rattle.sl_due.specs.DueCommands.{decided, holding_of}
use Rattle.sl_due.specs.declared.decision.Decision.TheVariants.{ConvertsTo, GetsValue, GivesUp, Joins, Leaves, ReadsArea, Replies, Requests, SetsValue, Shares, TakesOver}
use Rattle.sl_due.specs.declared.decision.Decision.{Decision}
use Rattle.sl_trace.specs.Counts.{held_here, holds_already, may_act, next_value_seq, other_holder}
use Rattle.sl_trace.specs.Jobs.{process_named, wanted_mode, wants_shared}
use Rattle.sl_trace.specs.Leases.{holdings_on, open_on, orphan_on, shared_on, spot_of}
use Rattle.sl_sector.specs.declared.sector.ValueRec.{ValueRec}
use Rattle.sl_trace.specs.Sessions.{holdings_of, is_active, session_named}
use Rattle.sl_trace.specs.declared.session.Session.{Session}
use Rattle.sl_trace.specs.Traces.{Setting, Trace, is_orphan, is_shared}
use Rattle.sl_trace.specs.declared.command.Command.TheVariants.{Acquire, Convert, GetLvb, Release, ReleaseOrphan, RemLockspace, RunProgram, SetLvb, TakeOver}
use Rattle.sl_trace.specs.declared.command.Command.{Command}
use Rattle.sl_trace.specs.declared.command.LockspaceArg.{LockspaceArg}
use Rattle.sl_trace.specs.declared.command.ResourceArg.{ResourceArg}
use Rattle.sl_trace.specs.declared.effects.Grant.{Grant}
use Rattle.sl_trace.specs.declared.effects.Mode.{Mode}
use Rattle.sl_trace.specs.declared.effects.Spot.{Spot}
use Rattle.sl_words.specs.Words.{same_truth}
use Rattle.std.specs.List.{list_any}
use Rattle.std.specs.Prelude.{Bool, Contains, List, None, Option, Some, [], false, not, true, ℕ, ◌≡◌, ◌⊎◌}

-- The session of the resource's lockspace is active, and no call waits on the area.
pub record IsReady (st : Setting) (es : Trace) (s : Session) (r : ResourceArg) : Type 0 where
  pub named : session_named st es r.lockspace ≡ Some s
  pub active : is_active st es s ≡ true
  pub calm : open_on st es (spot_of r) ≡ []

-- Nothing held there is in the way of an acquire.
abbrev pub IsFreeFor : Trace → Spot → Option ℕ → Bool → Type 0
IsFreeFor es at asking shared = (h : Grant) → Contains (held_here es at) h → (is_shared h.mode ≡ true) × (shared ≡ true) × (asking ≡ Some h.process → ⊥)

-- An acquire, or a program that is to hold.
abbrev pub AsksLease : Command → ResourceArg → Type 0
AsksLease c r =
    ((shared : Bool) × (p : ℕ) × (persistent : Bool) × (c ≡ Acquire r shared p persistent)) ⊎ ((shared : Bool) × (path : List ℕ) × (c ≡ RunProgram r shared path))

pub record AcquireGrounds (st : Setting) (es : Trace) (c : Command) (s : Session) (r : ResourceArg) : Type 0 where
  pub ready : IsReady st es s r
  pub asks : AsksLease c r
  pub free : IsFreeFor es (spot_of r) (process_named c) (wants_shared c)
  pub acts : (p : ℕ) → process_named c ≡ Some p → may_act es p ≡ true

-- Where it begins with a read of the area its session holds nothing shared there, beside which it would be granted at once.
pub record ReadGrounds (st : Setting) (es : Trace) (c : Command) (s : Session) (r : ResourceArg) : Type 0 where
  pub acquires : AcquireGrounds st es c s r
  pub unshared : wants_shared c ≡ true → shared_on es s (spot_of r) ≡ None

pub record SharesGrounds (st : Setting) (es : Trace) (c : Command) (s : Session) (lver : ℕ) : Type 0 where
  pub resource : ResourceArg
  pub acquires : AcquireGrounds st es c s resource
  pub shared : wants_shared c ≡ true
  pub beside : Grant
  pub held : shared_on es s (spot_of resource) ≡ Some beside
  pub under : beside.lver ≡ lver

-- Its process gives it up, or it is an orphan that is released.
abbrev pub Releases : Command → ResourceArg → Grant → Type 0
Releases c r g = ((p : ℕ) × (c ≡ Release r p) × (g.process ≡ p)) ⊎ ((c ≡ ReleaseOrphan r) × (is_orphan g ≡ true))

pub record GiveUpGrounds (st : Setting) (es : Trace) (c : Command) (s : Session) (g : Grant) : Type 0 where
  pub resource : ResourceArg
  pub ready : IsReady st es s resource
  pub releases : Releases c resource g
  pub held : Contains (holdings_on es s (spot_of resource)) g

pub record TakeOverGrounds (st : Setting) (es : Trace) (c : Command) (s : Session) (g : Grant) : Type 0 where
  pub resource : ResourceArg
  pub shared : Bool
  pub process : ℕ
  pub persistent : Bool
  pub command : c ≡ TakeOver resource shared process persistent
  pub ready : IsReady st es s resource
  pub orphan : orphan_on es s (spot_of resource) ≡ Some g
  pub acts : may_act es process ≡ true
  pub none_yet : holds_already es (spot_of resource) process ≡ None

pub record ConvertGrounds (st : Setting) (es : Trace) (c : Command) (s : Session) (r : ResourceArg) (mode : Mode) : Type 0 where
  pub shared : Bool
  pub process : ℕ
  pub command : c ≡ Convert r shared process
  pub wanted : mode ≡ wanted_mode c
  pub ready : IsReady st es s r
  pub acts : may_act es process ≡ true
  pub holding : Grant
  pub held : holding_of es s (spot_of r) process (λ g. true) ≡ Some holding
  pub other : same_truth (is_shared mode) (is_shared holding.mode) ≡ false
  pub lone : is_shared mode ≡ false → other_holder es (spot_of r) process ≡ None

pub record SetGrounds (st : Setting) (es : Trace) (c : Command) (s : Session) (at : Spot) (v : ValueRec) : Type 0 where
  pub resource : ResourceArg
  pub process : ℕ
  pub bytes : List ℕ
  pub command : c ≡ SetLvb resource process bytes
  pub spot : at ≡ spot_of resource
  pub ready : IsReady st es s resource
  pub holding : Grant
  pub held : holding_of es s at process (λ g. not (is_shared g.mode)) ≡ Some holding
  pub version : (v.host ≡ s.id) × (v.lver ≡ holding.lver) × (v.seq ≡ next_value_seq st es s at holding.lver)

pub record GetGrounds (st : Setting) (es : Trace) (c : Command) (s : Session) (at : Spot) : Type 0 where
  pub resource : ResourceArg
  pub process : ℕ
  pub command : c ≡ GetLvb resource process
  pub spot : at ≡ spot_of resource
  pub ready : IsReady st es s resource
  pub acts : may_act es process ≡ true
  pub holding : Grant
  pub held : holding_of es s at process (λ g. true) ≡ Some holding

pub record LeaveGrounds (st : Setting) (es : Trace) (c : Command) (s : Session) : Type 0 where
  pub lockspace : LockspaceArg
  pub command : c ≡ RemLockspace lockspace
  pub active : is_active st es s ≡ true
  pub no_orphan : list_any is_orphan (holdings_of es s) ≡ false

-- By what it came to. (Requests are no matter of holdings.)
abbrev pub HasGrounds : Setting → Trace → Command → Decision → Type 0
HasGrounds st es c (Replies r) = Unit {0}
HasGrounds st es c (Joins n a) = Unit {0}
HasGrounds st es c (Leaves s) = LeaveGrounds st es c s
HasGrounds st es c (ReadsArea s r) = ReadGrounds st es c s r
HasGrounds st es c (Shares s lver) = SharesGrounds st es c s lver
HasGrounds st es c (GivesUp s g) = GiveUpGrounds st es c s g
HasGrounds st es c (TakesOver s g) = TakeOverGrounds st es c s g
HasGrounds st es c (ConvertsTo s r mode) = ConvertGrounds st es c s r mode
HasGrounds st es c (Requests s r) = IsReady st es s r
HasGrounds st es c (SetsValue s at v) = SetGrounds st es c s at v
HasGrounds st es c (GetsValue s at) = GetGrounds st es c s at

abbrev pub DecisionsHaveGrounds : Type 0
DecisionsHaveGrounds = (st : Setting) (es : Trace) (now : ℕ) (c : Command) → HasGrounds st es c (decided st es now c)
