-- Records as areas of each kind have them, and those of an area in which nothing was written yet.
use Rattle.sl_area.specs.AreaSizes.{Layout}
use Rattle.sl_sector.specs.declared.sector.Block.{Block}
use Rattle.sl_sector.specs.declared.sector.DeltaRec.{DeltaRec}
use Rattle.sl_sector.specs.declared.sector.DeltaState.TheVariants.{Free}
use Rattle.sl_sector.specs.declared.sector.Leader.{Leader}
use Rattle.sl_sector.specs.declared.sector.PairBlock.{PairBlock}
use Rattle.sl_sector.specs.declared.sector.Rec.TheVariants.{BlockIs, LeaderIs, PairIs, PairLeaderIs}
use Rattle.sl_sector.specs.declared.sector.Rec.{Rec}
use Rattle.sl_sector.specs.declared.sector.Request.{Request}
use Rattle.sl_sector.specs.declared.sector.ValueRec.{ValueRec}
use Rattle.std.specs.Prelude.{List, None, false, replicate, true, [], ℕ, ◌%◌, ◌+◌, ◌-◌, ◌/◌}

-- A leader that was never held.
abbrev pub fresh_leader : Layout → List ℕ → List ℕ → Leader
fresh_leader g lockspace resource =
    record { held = false; num_hosts = g.hosts; lver = 0; generation = 0; owner = 0; lockspace = lockspace; resource = resource }

-- ---- records

-- The record of a leader, and that of a block with its turn and the names of its resource.
abbrev pub leader_record : Layout → Leader → Rec
leader_record g l = elim g.paired [ false ↦ LeaderIs l | true ↦ PairLeaderIs l ]

abbrev pub block_record : Layout → ℕ → List ℕ → List ℕ → Block → Rec
block_record g turn lockspace resource b =
    elim g.paired [ false ↦ BlockIs b | true ↦ PairIs (record { block = b; turn = turn; lockspace = lockspace; resource = resource }) ]

-- A host's block that was never written.
abbrev pub fresh_block : ℕ → Block
fresh_block host = record { host = host; shared = false; lver = 0; mbal = 0; bal = 0; inp_gen = 0; mode_gen = 0; inp = 0 }

-- The same in its pair, which has such a block of turn 1 and one of turn 2.
abbrev pub fresh_pair : ℕ → ℕ → List ℕ → List ℕ → PairBlock
fresh_pair host turn lockspace resource = record { block = fresh_block host; turn = turn; lockspace = lockspace; resource = resource }

-- Sector k of a resource's area, of those that the blocks have, before any was written: with pairs there are two for each host.
abbrev pub fresh_block_at : Layout → List ℕ → List ℕ → ℕ → Rec
fresh_block_at g lockspace resource k =
    elim g.paired [ false ↦ BlockIs (fresh_block (k - 1)) | true ↦ PairIs (fresh_pair (k / 2) (1 + k % 2) lockspace resource) ]

-- An id's record that was never claimed.
abbrev pub fresh_delta : List ℕ → ℕ → DeltaRec
fresh_delta lockspace id =
    record { state = Free; id = id; generation = 0; seq = 0; stamp = 0; lockspace = lockspace; host = None; bitmap = replicate 250 0 }

-- The cleared request.
abbrev pub no_request : Request
no_request = record { force = 0; host = 0; lver = 0 }

-- The value at first.
abbrev pub no_value : ValueRec
no_value = record { host = 0; lver = 0; seq = 0; bytes = [] }
