-- What a joining decides after an answer: it refuses with a reply of that step, registers and reads another time than at first, writes its
-- claim or first renewal, disconnects or is joined.
use Rattle.sl_sector.specs.SectorLayouts.{delta_in}
use Rattle.sl_area.specs.AreaSizes.{record_in, sector_with}
use Rattle.sl_sector.specs.declared.sector.DeltaRec.{DeltaRec}
use Rattle.sl_sector.specs.declared.sector.Rec.TheVariants.{DeltaIs}
use Rattle.sl_trace.specs.DeltaDecisions.{DeltaLease, claim_of, claim_on, delta_record, id_held, id_lost, is_watched_out, next_after_deciding, next_after_first, next_after_join_read, next_after_join_write, next_after_verify, next_after_watch, next_in_joining, watched, where_watched}
use Rattle.sl_trace.specs.Sessions.{is_join_done, same_join_step}
use Rattle.sl_trace.specs.Sightings.{is_free_state}
use Rattle.sl_trace.specs.declared.delta.DeltaNext.TheVariants.{Disconnect, Join, EndLeaving, MoveConnection, ReadOwn, RegisterAndRead, RefuseJoin, Nothing, WriteClaim, WriteFirst, WriteFree, WriteRenewal}
use Rattle.sl_trace.specs.declared.delta.DeltaNext.{DeltaNext}
use Rattle.sl_trace.specs.Traces.{Submitted, is_before_input}
use Rattle.sl_trace.specs.declared.effects.JoinStep.TheVariants.{ClaimWrite, DecidingRead, FirstRead, FirstRenewal, VerifyRead, WatchRead}
use Rattle.sl_trace.specs.declared.effects.JoinStep.{JoinStep}
use Rattle.sl_trace.specs.declared.input.Answer.TheVariants.{Failed, Read, Written}
use Rattle.sl_trace.specs.declared.input.Answer.{Answer}
use Rattle.sl_sector.specs.Bitmaps.{no_bits}
use Rattle.sl_sector.specs.declared.sector.DeltaState.TheVariants.{Claimed, Live}
use Rattle.sl_trace.specs.declared.reply.Limited.TheVariants.{Gen as GenLimit, Seq as SeqLimit}
use Rattle.sl_trace.specs.declared.reply.Reply.TheVariants.{Limit as LimitReached, TornDelta, WrongDelta}
use Rattle.sl_words.specs.Bounds.{is_number}
use Rattle.std.proofs.Common.{refl}
use Rattle.std.specs.Prelude.{Bool, List, None, Option, Some, bytes_eq, false, true, ℕ, ◌&&◌, ◌+◌, ◌==◌, ◌≡◌}

-- The decision is one of these.
abbrev pub IsJoinDecision : DeltaNext → Type 0
IsJoinDecision Nothing = Unit {0}
IsJoinDecision (RefuseJoin r) = (is_join_done r ≡ false) × (is_before_input r ≡ false)
IsJoinDecision (RegisterAndRead step) = same_join_step FirstRead step ≡ false
IsJoinDecision (WriteClaim d) = Unit {0}
IsJoinDecision Disconnect = Unit {0}
IsJoinDecision (WriteFirst d) = Unit {0}
IsJoinDecision (Join generation renewed) = Unit {0}
IsJoinDecision (ReadOwn step) = ⊥
IsJoinDecision (MoveConnection renewed) = ⊥
IsJoinDecision (WriteRenewal d) = ⊥
IsJoinDecision (WriteFree j d) = ⊥
IsJoinDecision (EndLeaving j r) = ⊥

after_first : (l : DeltaLease) (bytes : List ℕ) → IsJoinDecision (next_after_first l bytes)
unfolding next_after_first
after_first l bytes = by (delta_in (record_in l.layout bytes)) where
  by_state : (free : Bool) → IsJoinDecision (elim free as (λ z. DeltaNext) [ true ↦ RegisterAndRead DecidingRead | false ↦ Nothing ])
  by_state true = refl
  by_state false = tt

  by_name : (d : DeltaRec) (named : Bool)
      → IsJoinDecision (elim named as (λ z. DeltaNext) [ false ↦ RefuseJoin (WrongDelta d.lockspace d.id) | true ↦ elim (is_free_state d.state) as (λ z. DeltaNext) [ true ↦ RegisterAndRead DecidingRead | false ↦ Nothing ] ])
  by_name d false = (refl, refl)
  by_name d true = by_state (is_free_state d.state)

  by : (o : Option DeltaRec)
      → IsJoinDecision (elim o as (λ z. DeltaNext) [
        | None ↦ RefuseJoin TornDelta
        | Some d ↦ elim (bytes_eq d.lockspace l.lockspace && d.id == l.id) as (λ z. DeltaNext) [
          | false ↦ RefuseJoin (WrongDelta d.lockspace d.id)
          | true ↦ elim (is_free_state d.state) as (λ z. DeltaNext) [ true ↦ RegisterAndRead DecidingRead | false ↦ Nothing ]
        ]
      ])
  by None = (refl, refl)
  by (Some d) = by_name d (bytes_eq d.lockspace l.lockspace && d.id == l.id)

-- Where a further read equals the watched bytes.
watched_same : (l : DeltaLease) (first bytes : List ℕ) (next : DeltaNext) → IsJoinDecision next → IsJoinDecision (where_watched l first bytes next)
watched_same l first bytes next is = by (bytes_eq first bytes) where
  by : (same : Bool) → IsJoinDecision (elim same as (λ z. DeltaNext) [ false ↦ RefuseJoin (id_held l.layout first bytes) | true ↦ next ])
  by false = (refl, refl)
  by true = is

after_watch : (l : DeltaLease) (ms : List Submitted) (at : ℕ) (bytes : List ℕ) → IsJoinDecision (next_after_watch l ms at bytes)
unfolding next_after_watch
after_watch l ms at bytes = watched_same l (watched ms) bytes (elim (is_watched_out l.timing ms at) as (λ z. DeltaNext) [ true ↦ RegisterAndRead DecidingRead | false ↦ Nothing ]) (by (is_watched_out l.timing ms at)) where
  by : (over : Bool) → IsJoinDecision (elim over as (λ z. DeltaNext) [ true ↦ RegisterAndRead DecidingRead | false ↦ Nothing ])
  by true = refl
  by false = tt

claims : (l : DeltaLease) (now : ℕ) (d : DeltaRec) → IsJoinDecision (claim_on l now d)
claims l now d = by (is_number (d.generation + 1)) (is_number (d.seq + 1)) where
  by : (a b : Bool)
      → IsJoinDecision (elim a as (λ z. DeltaNext) [
        | false ↦ RefuseJoin (LimitReached GenLimit)
        | true ↦ elim b as (λ z. DeltaNext) [ false ↦ RefuseJoin (LimitReached SeqLimit) | true ↦ WriteClaim (delta_record l Claimed (d.generation + 1) (d.seq + 1) now no_bits) ]
      ])
  by false b = (refl, refl)
  by true false = (refl, refl)
  by true true = tt

after_deciding : (l : DeltaLease) (ms : List Submitted) (now : ℕ) (bytes : List ℕ) → IsJoinDecision (next_after_deciding l ms now bytes)
unfolding next_after_deciding
after_deciding l ms now bytes =
    watched_same l (watched ms) bytes (elim (delta_in (record_in l.layout bytes)) as (λ z. DeltaNext) [ None ↦ Nothing | Some d ↦ claim_on l now d ]) (by (delta_in (record_in l.layout bytes))) where
      by : (o : Option DeltaRec) → IsJoinDecision (elim o as (λ z. DeltaNext) [ None ↦ Nothing | Some d ↦ claim_on l now d ])
      by None = tt
      by (Some d) = claims l now d

after_verify : (l : DeltaLease) (ms : List Submitted) (now : ℕ) (bytes : List ℕ) → IsJoinDecision (next_after_verify l ms now bytes)
unfolding next_after_verify
after_verify l ms now bytes = by (claim_of ms) where
  by_bytes : (claim : DeltaRec) (same fits : Bool)
      → IsJoinDecision (elim same as (λ z. DeltaNext) [
        | false ↦ RefuseJoin (id_lost l claim bytes)
        | true ↦ elim fits as (λ z. DeltaNext) [ false ↦ RefuseJoin (LimitReached SeqLimit) | true ↦ WriteFirst (delta_record l Live claim.generation (claim.seq + 1) now no_bits) ]
      ])
  by_bytes claim false fits = (refl, refl)
  by_bytes claim true false = (refl, refl)
  by_bytes claim true true = tt

  by : (o : Option DeltaRec)
      → IsJoinDecision (elim o as (λ z. DeltaNext) [
        | None ↦ Nothing
        | Some claim ↦ elim (bytes_eq bytes (sector_with l.layout (DeltaIs claim))) as (λ z. DeltaNext) [
          | false ↦ RefuseJoin (id_lost l claim bytes)
          | true ↦ elim (is_number (claim.seq + 1)) as (λ z. DeltaNext) [
            | false ↦ RefuseJoin (LimitReached SeqLimit)
            | true ↦ WriteFirst (delta_record l Live claim.generation (claim.seq + 1) now no_bits)
          ]
        ]
      ])
  by None = tt
  by (Some claim) = by_bytes claim (bytes_eq bytes (sector_with l.layout (DeltaIs claim))) (is_number (claim.seq + 1))

pub join_decides : (l : DeltaLease) (generation : ℕ) (ms : List Submitted) (now : ℕ) (m : Submitted) (step : JoinStep) (a : Answer) → IsJoinDecision (next_in_joining l generation ms now m step a)
unfolding next_in_joining
join_decides l generation ms now m step (Read bytes) = by step where
  by : (z : JoinStep) → IsJoinDecision (next_after_join_read l ms now m bytes z)
  by FirstRead = after_first l bytes
  by WatchRead = after_watch l ms m.reading bytes
  by DecidingRead = after_deciding l ms now bytes
  by VerifyRead = after_verify l ms now bytes
  by ClaimWrite = tt
  by FirstRenewal = tt
join_decides l generation ms now m step Written = by step where
  by : (z : JoinStep) → IsJoinDecision (next_after_join_write generation m z)
  by ClaimWrite = tt
  by FirstRenewal = tt
  by z = tt
join_decides l generation ms now m step Failed = (refl, refl)
