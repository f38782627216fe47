-- What hosts did with the blocks and the leader of one resource, as functions of step numbers.
--
-- A step is a step of a run. In one step a daemon takes an answer, and then submits calls: so an answer comes before what is submitted at
-- its step, and a read that is submitted at the step of an answer comes after it. On one resource at most one write, one read, one
-- leader and one grant in each mode come at a step: so the step is the name of each. Step 0 is what the disk held at first: the block
-- of step 0 is every host's block of zeros.
use Rattle.std.specs.Prelude.{Bool, Option, ℕ}

-- A joined session, by its id, which is the number of its host, and its generation.
pub record Owner : Type 0 where
  pub id : ℕ
  pub generation : ℕ

-- A host's block. In the words of *Disk Paxos*: the number of the ballot that the host has begun, that of the ballot whose value it has
-- accepted, and that value. `lver` is the instance of all three. `shared` tells that the session `mode_gen` of the host holds shared.
pub record Block : Type 0 where
  pub lver : ℕ
  pub mbal : ℕ
  pub bal : ℕ
  pub inp : Owner
  pub shared : Bool
  pub mode_gen : ℕ

-- The leader of the resource: an instance, who won it, and whether he gave it up.
pub record Leader : Type 0 where
  pub lver : ℕ
  pub owner : Owner
  pub held : Bool

-- All that happened on the resource's area.
pub record History : Type 0 where
  -- the entry of this step submits a block: its session, what it says, and the step of the session's own block, of which it was made
  pub writes : ℕ → Bool
  pub writer : ℕ → Owner
  pub block : ℕ → Block
  pub base : ℕ → ℕ
  -- the step of the entry that takes the answer ok to this write, if one does
  pub ok : ℕ → Option ℕ
  -- the entry of this step submits a read of all blocks, for a session of the resource's lockspace, which is answered ok: the session,
  -- and the step of the entry that takes the answer
  pub reads : ℕ → Bool
  pub reader : ℕ → Owner
  pub answer : ℕ → ℕ
  -- what the read shows of this host is a block, and was not torn when it was sampled; and the step at which that block was submitted.
  -- (The reader's own block, where it is torn, may count as the one that the session last submitted. A number that is no host's is shown
  -- the block of step 0.)
  pub shows : ℕ → ℕ → Bool
  pub shown : ℕ → ℕ → ℕ
  -- the entry of this step submits a leader, and what it says
  pub leads : ℕ → Bool
  pub leader : ℕ → Leader
  -- of the lockspace's sessions: the step at which this one joined, if it did; whether it is over after a step; and whether one of them
  -- has had evidence against another by a step
  pub joined : Owner → Option ℕ
  pub over : Owner → ℕ → Bool
  pub evidence : Owner → Owner → ℕ → Bool
  -- the host whose ballots have this number: the one that has its remainder
  pub host_of : ℕ → ℕ
