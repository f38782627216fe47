-- What reads give of a resource's blocks: all that the argument above takes of disks.
--
-- A read is named as the history names it: by the step at which it began; it ends with its last answer, and its trace has the blocks that
-- it gave. Of each host it gave one block, or nothing. A block is named by the call that sent it, or by none, where it stood there at first.
-- Nothing is said of sectors: how many keep a host's block, how often they are read, and what a torn one costs, is the affair of the
-- proof of this record.
use Rattle.sl_run.specs.Runs.{Happening}
use Rattle.sl_run.specs.Safety.{LawfulRun, block_there, world_at}
use Rattle.sl_run.specs.Worlds.{Daemon, Machine, Program, Stamp, World, daemons_on, machine_at}
use Rattle.sl_run.specs.declared.header.Header.{Header}
use Rattle.sl_run.specs.declared.header.ResourceLine.{ResourceLine}
use Rattle.sl_run_law.specs.Course.CallStamps.{IsCourseOf}
use Rattle.sl_safety.specs.Resources.Histories.{counts_own, history_block, is_host, no_block, own_before}
use Rattle.sl_safety.specs.Resources.Orders.{BlockSent, Follows}
use Rattle.sl_safety.specs.Resources.HistoryLaws.{history_of_line, spot_of_line}
use Rattle.sl_safety.specs.Resources.SentCalls.{Sent, block_of_course, read_at, sender_of, step_of}
use Rattle.sl_sector.specs.declared.sector.Block.{Block}
use Rattle.sl_trace.specs.Leases.{blocks_given}
use Rattle.sl_trace.specs.Sessions.{session_numbered}
use Rattle.sl_trace.specs.Traces.{Submitted, submitted}
use Rattle.sl_trace.specs.declared.session.Session.{Session}
use Rattle.sl_run_law.specs.Leases.Ways.{lease_among}
use Rattle.std.specs.Option.{option_map_or}
use Rattle.std.specs.Prelude.{Bool, Contains, List, None, Option, Some, false, if◌then◌else◌, is_some, slice_get, true, ℕ, ◌++◌, ◌-◌, ◌<◌, ◌∷◌, ◌≡◌, ◌≤◌}

-- ---- blocks by their senders

-- When it was submitted; 0 for what stood there at first.
abbrev pub step_given : Option Sent → ℕ
step_given from = option_map_or step_of from 0

-- What it says: what its call wrote; at first, nothing of a ballot.
abbrev pub Says : Option Sent → Block → Type 0
Says None b = history_block b ≡ no_block
Says (Some x) b = block_of_course x.course ≡ Some b

-- ---- a read in its trace

-- The read of the history that began at a step, and the call of its trace that gave its blocks.
pub record ReadBlocks (w : World) (r : ResourceLine) (n : ℕ) (bs : List (Option Block)) : Type 0 where
  -- the call with which it ended
  pub sent : Sent
  pub found : read_at w (spot_of_line r) r.lockspace n ≡ Some sent
  pub machine : Machine
  pub at : machine_at w sent.machine ≡ Some machine
  pub inside : Contains machine.calls sent.course
  pub daemon : Daemon
  pub has : Contains (daemons_on machine) daemon
  -- the same in its trace, with the calls before it
  pub newer : List Submitted
  pub call : Submitted
  pub older : List Submitted
  pub told : submitted daemon.trace ≡ newer ++ call ∷ older
  pub pair : IsCourseOf daemon sent.course call
  -- what it gave to its session, with the calls of this on the area before it
  pub session : Session
  pub known : session_numbered daemon.setting daemon.trace call.call.session ≡ Some session
  pub given : blocks_given daemon.setting.layout call (lease_among daemon.setting session (spot_of_line r) older) ≡ Some bs

-- Of a host the trace has a block where one was given, and that names the host; and it has nothing where nothing was given.
pub data AgreesOn (k : ℕ) (bs : List (Option Block)) (given : Option (Option Sent)) : Type 0 where
  Nothing : slice_get bs (k - 1) ≡ Some None → given ≡ None → AgreesOn k bs given
  Block_of : (b : Block) (from : Option Sent) → slice_get bs (k - 1) ≡ Some (Some b) → given ≡ Some from → Says from b → b.host ≡ k → AgreesOn k bs given

-- ---- a read in the history

-- What the history shows of a host by what the read gave of it: where that is nothing, the block that the reader submitted last, if the
-- host is its own.
abbrev pub shows_given : World → ResourceLine → ℕ → Sent → Option (Option Sent) → Bool
shows_given w r k z given = if is_some given then true else counts_own w (spot_of_line r) z k

abbrev pub shown_given : World → ResourceLine → Sent → Option (Option Sent) → ℕ
shown_given w r z given = elim given as (λ o. ℕ) [ Some from ↦ step_given from | None ↦ option_map_or step_of (own_before w (spot_of_line r) z) 0 ]

-- ---- what stands

-- Blocks of one host were sent by sessions that follow one another.
abbrev pub BlocksFollow : World → ResourceLine → ℕ → Type 0
BlocksFollow w r k = (x y : Sent) → BlockSent w r k x → BlockSent w r k y → Follows w r k (sender_of x) (sender_of y)

-- This block was sent by a session of the host, and not before that one.
pub record SentSince (w : World) (r : ResourceLine) (k : ℕ) (b : Block) (x : Sent) : Type 0 where
  pub sent : Sent
  pub block : BlockSent w r k sent
  pub says : block_of_course sent.course ≡ Some b
  pub since : step_of x ≤ step_of sent

-- Once a block of host k was answered ok, its place spells that one, or one that was submitted later, or nothing: at each front of the
-- run that the answer has come before.
abbrev pub StandsSince : Program → Header → List Happening → ResourceLine → List Happening → Type 0
StandsSince p h xs r now = (k : ℕ) → is_host (world_at p h xs) k ≡ true → BlocksFollow (world_at p h xs) r k → (x : Sent) → BlockSent (world_at p h xs) r k x
    → x.course.done ≡ true → (s : Stamp) → x.course.answered ≡ Some s → s.step ≤ (world_at p h now).step → (b : Block)
    → block_there (world_at p h now) (spot_of_line r) k ≡ Some b → SentSince (world_at p h xs) r k b x

-- ---- all of it

pub record ReadsGive (p : Program) (h : Header) (xs : List Happening) (r : ResourceLine) : Type 0 where
  -- what the read at step n gave of host k
  pub given : ℕ → ℕ → Option (Option Sent)
  -- submitted: such a block was sent by a session of the host,
  pub submitted : (n k : ℕ) → (history_of_line p h xs r).reads n ≡ true → is_host (world_at p h xs) k ≡ true → (x : Sent) → given n k ≡ Some (Some x)
      → BlockSent (world_at p h xs) r k x
  -- earlier: before the read was answered
  pub earlier : (n k : ℕ) → (history_of_line p h xs r).reads n ≡ true → is_host (world_at p h xs) k ≡ true → (x : Sent) → given n k ≡ Some (Some x)
      → step_of x < (history_of_line p h xs r).answer n
  -- newest: it is no older than a block of the host that was answered ok when the read began, where the host's sessions follow one another
  pub newest : (n k : ℕ) → (history_of_line p h xs r).reads n ≡ true → is_host (world_at p h xs) k ≡ true → (from : Option Sent) → given n k ≡ Some from
      → (x : Sent) → BlockSent (world_at p h xs) r k x → x.course.done ≡ true → (s : Stamp) → x.course.answered ≡ Some s → s.step ≤ n
      → ((y : Sent) → BlockSent (world_at p h xs) r k y → Follows (world_at p h xs) r k (sender_of x) (sender_of y)) → step_of x ≤ step_given from
  -- its trace has the same
  pub agrees : (n k : ℕ) → is_host (world_at p h xs) k ≡ true → (bs : List (Option Block)) → ReadBlocks (world_at p h xs) r n bs → AgreesOn k bs (given n k)
  -- and so has the history
  pub shows : (n k : ℕ) → is_host (world_at p h xs) k ≡ true → (z : Sent) → read_at (world_at p h xs) (spot_of_line r) r.lockspace n ≡ Some z
      → (history_of_line p h xs r).shows n k ≡ shows_given (world_at p h xs) r k z (given n k)
  pub shown : (n k : ℕ) → is_host (world_at p h xs) k ≡ true → (z : Sent) → read_at (world_at p h xs) (spot_of_line r) r.lockspace n ≡ Some z
      → (history_of_line p h xs r).shown n k ≡ shown_given (world_at p h xs) r z (given n k)
  -- .. which shows of no host what stood there at first
  pub others : (n k : ℕ) → (history_of_line p h xs r).reads n ≡ true → is_host (world_at p h xs) k ≡ false
      → ((history_of_line p h xs r).shows n k ≡ true) × ((history_of_line p h xs r).shown n k ≡ 0)
  -- what stands at a host's place
  pub stands : (now rest : List Happening) → xs ≡ now ++ rest → StandsSince p h xs r now

-- Each resource of a lawful run is read so.
abbrev pub ReadsAreGiven : Type 0
ReadsAreGiven = (p : Program) (h : Header) (xs : List Happening) (r : ResourceLine) → LawfulRun p h xs → Contains h.resources r → ReadsGive p h xs r
