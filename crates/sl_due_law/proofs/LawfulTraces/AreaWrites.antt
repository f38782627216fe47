-- What a lease writes after the read of an area is a record: the block of the ballot that begins.
use Rattle.sl_due_facts.proofs.Acts.Pairs.DecodedRecords.{AreBlocks}
use Rattle.sl_due_facts.proofs.Acts.Pairs.GivenByReads.{host_is_block}
use Rattle.sl_due_law.proofs.LawfulTraces.SettleWrites.{MayWrite, OwnWell, begins_well}
use Rattle.sl_due_law.specs.LawfulTraces.Writes.{LeaseWrites}
use Rattle.sl_trace.specs.LeaseDecisions.{LeasePlace, area_next, begin_or_refuse, named_area_next, whole_area_next}
use Rattle.sl_trace.specs.Leases.{LeaseKnown, instance_for, is_leader_of, is_over_owner, own_known, own_or_read, top_lver}
use Rattle.sl_trace.specs.declared.lease.Aim.{Aim}
use Rattle.sl_trace.specs.declared.lease.Instance.TheVariants.{Begins, HeldAlready}
use Rattle.sl_trace.specs.declared.lease.Instance.{Instance}
use Rattle.sl_trace.specs.declared.lease.LeaseNext.TheVariants.{AnswerJob, Nothing}
use Rattle.sl_trace.specs.declared.lease.LeaseNext.{LeaseNext}
use Rattle.sl_lease.proofs.RecordFacts.{instance_least}
use Rattle.sl_sector.specs.Records.{IsBlock, IsLeader}
use Rattle.sl_sector.specs.declared.sector.Block.{Block}
use Rattle.sl_sector.specs.declared.sector.Leader.{Leader}
use Rattle.sl_trace.specs.declared.reply.Reply.TheVariants.{TornBlock, TornLeader, WrongArea}
use Rattle.std.proofs.Common.{refl}
use Rattle.std.specs.Option.{option_map_or}
use Rattle.std.specs.Prelude.{Bool, List, None, Option, Some, false, is_none, position, true, ℕ, ◌+◌, ◌≡◌}

-- The own block that is known, submitted or read.
pub own_known_well : (k : LeaseKnown) (b : Block) → OwnWell k → AreBlocks k.read → own_known k ≡ Some b → IsBlock b
own_known_well k b well all is = by k.own well.own is where
  by : (o : Option Block) → ((z : Block) → o ≡ Some z → IsBlock z) → own_or_read k.self.id o k.read ≡ Some b → IsBlock b
  by (Some z) own h = own b h
  by None own h = host_is_block k.read k.self.id b all h

-- ---- the ballot that begins

begun_well : (p : LeasePlace) (k : LeaseKnown) (aim : Aim) (l : Leader) (own : Block) (read : List (Option Block)) (i : Instance) → instance_for k l own read ≡ i → IsLeader l → MayWrite p k → OwnWell k → AreBlocks k.read
    → LeaseWrites (begin_or_refuse p k aim i)
begun_well p k aim l own read (Begins n) is leader may well all =
    begins_well p k aim n may (instance_least (is_over_owner k l) k.self l k.freed (top_lver own read) n leader is) (λ b known. own_known_well k b well all known)
begun_well p k aim l own read (HeldAlready lver owner) is leader may well all = tt

whole_well : (p : LeasePlace) (k : LeaseKnown) (aim : Aim) (l : Leader) (read : List (Option Block)) → IsLeader l → MayWrite p k → OwnWell k → AreBlocks k.read → LeaseWrites (whole_area_next p k aim l read)
whole_well p k aim l read leader may well all = by (own_known k) where
  by : (o : Option Block) → LeaseWrites (option_map_or (λ own. begin_or_refuse p k aim (instance_for k l own read)) o Nothing)
  by None = tt
  by (Some own) = begun_well p k aim l own read (instance_for k l own read) refl leader may well all

named_area_well : (p : LeasePlace) (k : LeaseKnown) (aim : Aim) (l : Leader) (read : List (Option Block)) → IsLeader l → MayWrite p k → OwnWell k → AreBlocks k.read → LeaseWrites (named_area_next p k aim l read)
named_area_well p k aim l read leader may well all = by (position is_none read) where
  by : (o : Option ℕ) → LeaseWrites (elim o as (λ z. LeaseNext) [ Some i ↦ AnswerJob (TornBlock (i + 1)) | None ↦ whole_area_next p k aim l read ])
  by (Some i) = tt
  by None = whole_well p k aim l read leader may well all

-- After the read of the area.
pub areas_well : (p : LeasePlace) (k : LeaseKnown) (aim : Aim) (name : List ℕ) (leader : Option Leader) (read : List (Option Block)) → ((l : Leader) → leader ≡ Some l → IsLeader l) → MayWrite p k → OwnWell k → AreBlocks k.read
    → LeaseWrites (area_next p k aim name leader read)
unfolding area_next
areas_well p k aim name leader read each may well all = by leader each where
  right : (l : Leader) (b : Bool) → IsLeader l → LeaseWrites (elim b as (λ z. LeaseNext) [ false ↦ AnswerJob (WrongArea l.lockspace l.resource l.num_hosts) | true ↦ named_area_next p k aim l read ])
  right l false good = tt
  right l true good = named_area_well p k aim l read good may well all

  by : (o : Option Leader) → ((l : Leader) → o ≡ Some l → IsLeader l) → LeaseWrites (elim o as (λ z. LeaseNext) [
    | None ↦ AnswerJob TornLeader
    | Some l ↦ elim (is_leader_of p.layout p.lockspace name l) as (λ z. LeaseNext) [
      | false ↦ AnswerJob (WrongArea l.lockspace l.resource l.num_hosts)
      | true ↦ named_area_next p k aim l read
    ]
  ])
  by None each = tt
  by (Some l) each = right l (is_leader_of p.layout p.lockspace name l) (each l refl)
