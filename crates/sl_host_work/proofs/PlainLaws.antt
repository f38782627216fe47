-- No joining is refused, and no leaving ends, by a reply that a joining is done.
use Rattle.sl_delta.specs.DeltaDecisions.{after_join, after_join_read, after_join_write, claim_next, first_renewal, is_over_since, on_wake, time_next, verified, watched_in}
use Rattle.sl_delta.specs.OwnSector.{OwnState, lease_of}
use Rattle.sl_area.specs.AreaSizes.{record_in, sector_with}
use Rattle.sl_host_state.specs.declared.kept_parts.JoinCall.{JoinCall}
use Rattle.sl_host_work.specs.NextDecisions.{DeltasArePlain, IsPlain}
use Rattle.sl_sector.specs.Bitmaps.{no_bits}
use Rattle.sl_sector.specs.SectorLayouts.{delta_in}
use Rattle.sl_sector.specs.declared.sector.DeltaRec.{DeltaRec}
use Rattle.sl_sector.specs.declared.sector.DeltaState.TheVariants.{Claimed, Live}
use Rattle.sl_sector.specs.declared.sector.Rec.TheVariants.{DeltaIs}
use Rattle.sl_trace.specs.DeltaDecisions.{DeltaLease, claim_on, delta_record, id_held, id_lost, next_after_first, next_after_free, next_after_renewal, where_watched}
use Rattle.sl_trace.specs.Sightings.{is_free_state}
use Rattle.sl_trace.specs.declared.delta.DeltaNext.TheVariants.{Nothing, ReadOwn, RefuseJoin, RegisterAndRead, WriteClaim, WriteFirst}
use Rattle.sl_trace.specs.declared.delta.DeltaNext.{DeltaNext}
use Rattle.sl_time.specs.Times.{TimingNumbers, dead, join_max, renew}
use Rattle.sl_trace.specs.declared.effects.JoinStep.TheVariants.{ClaimWrite, DecidingRead, FirstRead, FirstRenewal, VerifyRead, WatchRead}
use Rattle.sl_trace.specs.declared.effects.JoinStep.{JoinStep}
use Rattle.sl_trace.specs.declared.input.Answer.TheVariants.{Failed, Read, Written}
use Rattle.sl_trace.specs.declared.input.Answer.{Answer}
use Rattle.sl_trace.specs.declared.reply.Limited.TheVariants.{Gen as GenLimit, Seq as SeqLimit}
use Rattle.sl_trace.specs.declared.reply.Reply.TheVariants.{IdLate, Limit as LimitReached, TornDelta, WrongDelta}
use Rattle.sl_words.specs.Bounds.{is_number}
use Rattle.std.proofs.Common.{refl}
use Rattle.std.specs.Prelude.{Bool, List, None, Option, Some, bytes_eq, false, nat_le, nat_lt, true, ℕ, ◌&&◌, ◌+◌, ◌==◌}

-- One of two, by a test.
chosen : (b : Bool) (x y : DeltaNext) → IsPlain x → IsPlain y → IsPlain (elim b as (λ z. DeltaNext) [ true ↦ x | false ↦ y ])
chosen true x y one other = one
chosen false x y one other = other

first : (l : DeltaLease) (bytes : List ℕ) → IsPlain (next_after_first l bytes)
unfolding next_after_first
first l bytes = by (delta_in (record_in l.layout bytes))
  where
    by : (o : Option DeltaRec)
        → IsPlain (elim o as (λ z. DeltaNext) [
          | None ↦ RefuseJoin TornDelta
          | Some d ↦ elim (bytes_eq d.lockspace l.lockspace && d.id == l.id) [
            | false ↦ RefuseJoin (WrongDelta d.lockspace d.id)
            | true ↦ elim (is_free_state d.state) [ true ↦ RegisterAndRead DecidingRead | false ↦ Nothing ]
          ]
        ])
    by None = refl
    by (Some d) =
        chosen (bytes_eq d.lockspace l.lockspace && d.id == l.id) (elim (is_free_state d.state) [ true ↦ RegisterAndRead DecidingRead | false ↦ Nothing ]) (RefuseJoin (WrongDelta d.lockspace d.id))
        (chosen (is_free_state d.state) (RegisterAndRead DecidingRead) Nothing tt tt) refl

watched : (l : DeltaLease) (one other : List ℕ) (next : DeltaNext) → IsPlain next → IsPlain (where_watched l one other next)
watched l one other next plain = chosen (bytes_eq one other) next (RefuseJoin (id_held l.layout one other)) plain refl

claimed : (l : DeltaLease) (now : ℕ) (d : DeltaRec) → IsPlain (claim_on l now d)
claimed l now d =
    chosen (is_number (d.generation + 1))
    (elim (is_number (d.seq + 1)) [ false ↦ RefuseJoin (LimitReached SeqLimit) | true ↦ WriteClaim (delta_record l Claimed (d.generation + 1) (d.seq + 1) now no_bits) ])
    (RefuseJoin (LimitReached GenLimit))
    (chosen (is_number (d.seq + 1)) (WriteClaim (delta_record l Claimed (d.generation + 1) (d.seq + 1) now no_bits)) (RefuseJoin (LimitReached SeqLimit)) tt refl) refl

decided : (o : OwnState) (now : ℕ) (d : Option DeltaRec) → IsPlain (claim_next o now d)
decided o now None = tt
decided o now (Some d) = claimed (lease_of o) now d

proved : (o : OwnState) (now : ℕ) (bytes : List ℕ) (d : Option DeltaRec) → IsPlain (elim d as (λ z. DeltaNext) [ None ↦ Nothing | Some claim ↦ verified o now bytes claim ])
proved o now bytes None = tt
proved o now bytes (Some d) =
    chosen (bytes_eq bytes (sector_with (lease_of o).layout (DeltaIs d))) (first_renewal o now d) (RefuseJoin (id_lost (lease_of o) d bytes))
    (chosen (is_number (d.seq + 1)) (WriteFirst (delta_record (lease_of o) Live d.generation (d.seq + 1) now no_bits)) (RefuseJoin (LimitReached SeqLimit)) tt refl) refl

read : (o : OwnState) (now made : ℕ) (bytes : List ℕ) (step : JoinStep) → IsPlain (after_join_read o now made bytes step)
read o now made bytes FirstRead = first (lease_of o) bytes
read o now made bytes WatchRead =
    watched (lease_of o) (watched_in o) bytes (elim (is_over_since o.timing o.joining.since made) [ true ↦ RegisterAndRead DecidingRead | false ↦ Nothing ])
    (chosen (is_over_since o.timing o.joining.since made) (RegisterAndRead DecidingRead) Nothing tt tt)
read o now made bytes DecidingRead =
    watched (lease_of o) (watched_in o) bytes (claim_next o now (delta_in (record_in (lease_of o).layout bytes))) (decided o now (delta_in (record_in (lease_of o).layout bytes)))
read o now made bytes ClaimWrite = tt
read o now made bytes VerifyRead = proved o now bytes o.joining.claim
read o now made bytes FirstRenewal = tt

written : (o : OwnState) (made : ℕ) (step : JoinStep) → IsPlain (after_join_write o made step)
written o made FirstRead = tt
written o made WatchRead = tt
written o made DecidingRead = tt
written o made ClaimWrite = tt
written o made VerifyRead = tt
written o made FirstRenewal = tt

joined : (o : OwnState) (now call made : ℕ) (step : JoinStep) (a : Answer) → IsPlain (after_join o now call made step a)
joined o now call made step (Read bytes) = read o now made bytes step
joined o now call made step Written = written o made step
joined o now call made step Failed = refl

by_time : (tm : TimingNumbers) (now made answered : ℕ) (step : JoinStep) → IsPlain (time_next tm now made answered step)
by_time tm now made answered FirstRead = chosen (nat_le (answered + renew tm) now) (ReadOwn WatchRead) Nothing tt tt
by_time tm now made answered WatchRead = chosen (nat_le (answered + renew tm) now) (ReadOwn WatchRead) Nothing tt tt
by_time tm now made answered DecidingRead = tt
by_time tm now made answered ClaimWrite =
    chosen (nat_le (answered + dead tm) now) (elim (nat_lt (made + join_max tm) now) [ true ↦ RefuseJoin (IdLate made now) | false ↦ RegisterAndRead VerifyRead ]) Nothing
    (chosen (nat_lt (made + join_max tm) now) (RefuseJoin (IdLate made now)) (RegisterAndRead VerifyRead) refl tt) tt
by_time tm now made answered VerifyRead = tt
by_time tm now made answered FirstRenewal = tt

woken : (o : OwnState) (now : ℕ) → IsPlain (on_wake o now)
woken o now = by o.joining.newest
  where
    answered : (n : JoinCall) (a : Option ℕ) → IsPlain (elim a as (λ z. DeltaNext) [ None ↦ Nothing | Some at ↦ time_next o.timing now n.made at n.step ])
    answered n None = tt
    answered n (Some at) = by_time o.timing now n.made at n.step

    by : (n : Option JoinCall) → IsPlain (elim n as (λ z. DeltaNext) [ None ↦ Nothing | Some c ↦ elim c.answered [ None ↦ Nothing | Some at ↦ time_next o.timing now c.made at c.step ] ])
    by None = tt
    by (Some c) = answered c c.answered

freed : (job call : ℕ) (a : Answer) → IsPlain (next_after_free job call a)
freed job call (Read bytes) = tt
freed job call Written = refl
freed job call Failed = refl

renewed : (recovering : Bool) (made : ℕ) (a : Answer) → IsPlain (next_after_renewal recovering made a)
renewed recovering made (Read bytes) = tt
renewed true made Written = tt
renewed false made Written = tt
renewed recovering made Failed = tt

pub deltas_are_plain : DeltasArePlain
deltas_are_plain = record { joins = joined; wakes = woken; frees = freed; renews = renewed }
