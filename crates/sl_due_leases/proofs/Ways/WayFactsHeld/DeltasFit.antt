-- What a delta lease decides refuses no job before an input, begins with no first read, and keeps a session's generation.
use Rattle.sl_due_leases.proofs.Ways.WayFactsHeld.EffectsLeave.{KeepsGeneration}
use Rattle.sl_due_leases.proofs.Ways.WayFactsHeld.PlainWalks.{DeltaFits}
use Rattle.sl_due.specs.Steps.{Step, seen}
use Rattle.sl_sector.specs.declared.sector.DeltaRec.{DeltaRec}
use Rattle.sl_sector.specs.declared.sector.Rec.TheVariants.{DeltaIs}
use Rattle.sl_trace.specs.DeltaDecisions.{DeltaLease, claim_of, claim_on, delta_known, delta_of_session, delta_record, id_held, id_lost, is_renewal_due, is_watched_out, join_step_of, next_after_deciding, next_after_first, next_after_free, next_after_renewal, next_after_verify, next_after_watch, next_by_time, next_free, next_in_joining, next_on_wake, next_renewal, where_watched, watched}
use Rattle.sl_trace.specs.Sessions.{generation_of, last_seq}
use Rattle.sl_trace.specs.declared.delta.DeltaNext.TheVariants.{Nothing, ReadOwn, RefuseJoin, RegisterAndRead, WriteClaim, WriteFirst, WriteFree, WriteRenewal}
use Rattle.sl_trace.specs.declared.delta.DeltaNext.{DeltaNext}
use Rattle.sl_trace.specs.declared.session.Session.{Session}
use Rattle.sl_trace.specs.Traces.{Answered, Submitted, is_before_input}
use Rattle.sl_trace.specs.declared.effects.JoinStep.TheVariants.{ClaimWrite, DecidingRead, FirstRead, FirstRenewal, VerifyRead, WatchRead}
use Rattle.sl_trace.specs.declared.effects.JoinStep.{JoinStep}
use Rattle.sl_trace.specs.declared.effects.Op.TheVariants.{WriteRecord}
use Rattle.sl_trace.specs.declared.input.Answer.TheVariants.{Failed, Read, Written}
use Rattle.sl_trace.specs.declared.input.Answer.{Answer}
use Rattle.sl_trace.specs.declared.reply.Reply.TheVariants.{Done, IdLate, IoFault, Limit as LimitReached, TornDelta, WrongDelta}
use Rattle.sl_trace.specs.declared.reply.Reply.{Reply}
use Rattle.sl_area.specs.AreaSizes.{record_in, sector_with}
use Rattle.sl_sector.specs.SectorLayouts.{delta_in}
use Rattle.sl_trace.specs.Sightings.{is_free_state}
use Rattle.sl_sector.specs.Bitmaps.{no_bits}
use Rattle.sl_sector.specs.declared.sector.DeltaState.TheVariants.{Claimed, Live, Free}
use Rattle.sl_trace.specs.declared.reply.Limited.TheVariants.{Gen as GenLimit, Seq as SeqLimit}
use Rattle.sl_words.specs.Bounds.{is_number}
use Rattle.sl_time.specs.Times.{renew, join_max, dead}
use Rattle.sl_words.proofs.CaseLaws.{some_value}
use Rattle.std.proofs.Common.{ap, inl, refl, sym, ◌∙◌}
use Rattle.std.specs.Prelude.{Bool, List, None, Option, Some, [], bytes_eq, false, nat_le, nat_lt, true, ℕ, ◌&&◌, ◌+◌, ◌==◌, ◌∷◌, ◌≡◌}

-- What is allowed of a session that isn't joined: any record, for it has no leases.
pub record IsJoining (A : Reply → Type 0) (y : Step) (s : Session) : Type 0 where
  pub late : (r : Reply) → is_before_input r ≡ false → A r
  pub free : (d : DeltaRec) → KeepsGeneration y s (WriteRecord (DeltaIs d))

-- ---- after an answer

first_fits : (A : Reply → Type 0) (y : Step) (s : Session) → IsJoining A y s → (l : DeltaLease) (bytes : List ℕ) → DeltaFits A y s (next_after_first l bytes)
unfolding next_after_first
first_fits A y s j l bytes = by (delta_in (record_in l.layout bytes)) where
  free_by : (b : Bool) → DeltaFits A y s (elim b as (λ z. DeltaNext) [ true ↦ RegisterAndRead DecidingRead | false ↦ Nothing ])
  free_by true = refl
  free_by false = tt

  right_by : (d : DeltaRec) (b : Bool) → DeltaFits A y s (elim b as (λ z. DeltaNext) [
    | false ↦ RefuseJoin (WrongDelta d.lockspace d.id)
    | true ↦ elim (is_free_state d.state) as (λ z. DeltaNext) [ true ↦ RegisterAndRead DecidingRead | false ↦ Nothing ]
  ])
  right_by d false = j.late (WrongDelta d.lockspace d.id) refl
  right_by d true = free_by (is_free_state d.state)

  by : (o : Option DeltaRec) → DeltaFits A y s (elim o as (λ z. DeltaNext) [
    | None ↦ RefuseJoin TornDelta
    | Some d ↦ elim (bytes_eq d.lockspace l.lockspace && d.id == l.id) as (λ z. DeltaNext) [
      | false ↦ RefuseJoin (WrongDelta d.lockspace d.id)
      | true ↦ elim (is_free_state d.state) as (λ z. DeltaNext) [ true ↦ RegisterAndRead DecidingRead | false ↦ Nothing ]
    ]
  ])
  by None = j.late TornDelta refl
  by (Some d) = right_by d (bytes_eq d.lockspace l.lockspace && d.id == l.id)

watched_fits : (A : Reply → Type 0) (y : Step) (s : Session) → IsJoining A y s → (l : DeltaLease) (first bytes : List ℕ) (next : DeltaNext) → DeltaFits A y s next → DeltaFits A y s (where_watched l first bytes next)
watched_fits A y s j l first bytes next h = by (bytes_eq first bytes) where
  by : (b : Bool) → DeltaFits A y s (elim b as (λ z. DeltaNext) [ false ↦ RefuseJoin (id_held l.layout first bytes) | true ↦ next ])
  by false = j.late (id_held l.layout first bytes) refl
  by true = h

out_fits : (A : Reply → Type 0) (y : Step) (s : Session) (b : Bool) → DeltaFits A y s (elim b as (λ z. DeltaNext) [ true ↦ RegisterAndRead DecidingRead | false ↦ Nothing ])
out_fits A y s true = refl
out_fits A y s false = tt

watch_fits : (A : Reply → Type 0) (y : Step) (s : Session) → IsJoining A y s → (l : DeltaLease) (ms : List Submitted) (at : ℕ) (bytes : List ℕ) → DeltaFits A y s (next_after_watch l ms at bytes)
unfolding next_after_watch
watch_fits A y s j l ms at bytes =
    watched_fits A y s j l (watched ms) bytes (elim (is_watched_out l.timing ms at) as (λ z. DeltaNext) [ true ↦ RegisterAndRead DecidingRead | false ↦ Nothing ]) (out_fits A y s (is_watched_out l.timing ms at))

claim_fits : (A : Reply → Type 0) (y : Step) (s : Session) → IsJoining A y s → (l : DeltaLease) (now : ℕ) (d : DeltaRec) → DeltaFits A y s (claim_on l now d)
claim_fits A y s j l now d = by (is_number (d.generation + 1)) (is_number (d.seq + 1)) where
  by : (b c : Bool) → DeltaFits A y s (elim b as (λ z. DeltaNext) [
    | false ↦ RefuseJoin (LimitReached GenLimit)
    | true ↦ elim c as (λ z. DeltaNext) [
      | false ↦ RefuseJoin (LimitReached SeqLimit)
      | true ↦ WriteClaim (delta_record l Claimed (d.generation + 1) (d.seq + 1) now no_bits)
    ]
  ])
  by false c = j.late (LimitReached GenLimit) refl
  by true false = j.late (LimitReached SeqLimit) refl
  by true true = j.free (delta_record l Claimed (d.generation + 1) (d.seq + 1) now no_bits)

deciding_fits : (A : Reply → Type 0) (y : Step) (s : Session) → IsJoining A y s → (l : DeltaLease) (ms : List Submitted) (now : ℕ) (bytes : List ℕ) → DeltaFits A y s (next_after_deciding l ms now bytes)
unfolding next_after_deciding
deciding_fits A y s j l ms now bytes =
    watched_fits A y s j l (watched ms) bytes (elim (delta_in (record_in l.layout bytes)) as (λ z. DeltaNext) [ None ↦ Nothing | Some d ↦ claim_on l now d ]) (by (delta_in (record_in l.layout bytes))) where
      by : (o : Option DeltaRec) → DeltaFits A y s (elim o as (λ z. DeltaNext) [ None ↦ Nothing | Some d ↦ claim_on l now d ])
      by None = tt
      by (Some d) = claim_fits A y s j l now d

verify_fits : (A : Reply → Type 0) (y : Step) (s : Session) → IsJoining A y s → (l : DeltaLease) (ms : List Submitted) (now : ℕ) (bytes : List ℕ) → DeltaFits A y s (next_after_verify l ms now bytes)
unfolding next_after_verify
verify_fits A y s j l ms now bytes = by (claim_of ms) where
  seq_by : (claim : DeltaRec) (b : Bool) → DeltaFits A y s (elim b as (λ z. DeltaNext) [
    | false ↦ RefuseJoin (LimitReached SeqLimit)
    | true ↦ WriteFirst (delta_record l Live claim.generation (claim.seq + 1) now no_bits)
  ])
  seq_by claim false = j.late (LimitReached SeqLimit) refl
  seq_by claim true = j.free (delta_record l Live claim.generation (claim.seq + 1) now no_bits)

  own_by : (claim : DeltaRec) (b : Bool) → DeltaFits A y s (elim b as (λ z. DeltaNext) [
    | false ↦ RefuseJoin (id_lost l claim bytes)
    | true ↦ elim (is_number (claim.seq + 1)) as (λ z. DeltaNext) [
      | false ↦ RefuseJoin (LimitReached SeqLimit)
      | true ↦ WriteFirst (delta_record l Live claim.generation (claim.seq + 1) now no_bits)
    ]
  ])
  own_by claim false = j.late (id_lost l claim bytes) refl
  own_by claim true = seq_by claim (is_number (claim.seq + 1))

  by : (o : Option DeltaRec) → DeltaFits A y s (elim o as (λ z. DeltaNext) [
    | None ↦ Nothing
    | Some claim ↦ elim (bytes_eq bytes (sector_with l.layout (DeltaIs claim))) as (λ z. DeltaNext) [
      | false ↦ RefuseJoin (id_lost l claim bytes)
      | true ↦ elim (is_number (claim.seq + 1)) as (λ z. DeltaNext) [
        | false ↦ RefuseJoin (LimitReached SeqLimit)
        | true ↦ WriteFirst (delta_record l Live claim.generation (claim.seq + 1) now no_bits)
      ]
    ]
  ])
  by None = tt
  by (Some claim) = own_by claim (bytes_eq bytes (sector_with l.layout (DeltaIs claim)))

pub joining_fits : (A : Reply → Type 0) (y : Step) (s : Session) → IsJoining A y s → (l : DeltaLease) (generation : ℕ) (ms : List Submitted) (now : ℕ) (m : Submitted) (step : JoinStep) (answer : Answer)
    → DeltaFits A y s (next_in_joining l generation ms now m step answer)
unfolding next_in_joining
joining_fits A y s j l generation ms now m FirstRead (Read bytes) = first_fits A y s j l bytes
joining_fits A y s j l generation ms now m WatchRead (Read bytes) = watch_fits A y s j l ms m.reading bytes
joining_fits A y s j l generation ms now m DecidingRead (Read bytes) = deciding_fits A y s j l ms now bytes
joining_fits A y s j l generation ms now m VerifyRead (Read bytes) = verify_fits A y s j l ms now bytes
joining_fits A y s j l generation ms now m ClaimWrite (Read bytes) = tt
joining_fits A y s j l generation ms now m FirstRenewal (Read bytes) = tt
joining_fits A y s j l generation ms now m FirstRead Written = tt
joining_fits A y s j l generation ms now m WatchRead Written = tt
joining_fits A y s j l generation ms now m DecidingRead Written = tt
joining_fits A y s j l generation ms now m VerifyRead Written = tt
joining_fits A y s j l generation ms now m ClaimWrite Written = tt
joining_fits A y s j l generation ms now m FirstRenewal Written = tt
joining_fits A y s j l generation ms now m step Failed = j.late (IoFault m.call.number) refl

-- ---- by time

in_watch_fits : (A : Reply → Type 0) (y : Step) (s : Session) (b : Bool) → DeltaFits A y s (elim b as (λ z. DeltaNext) [ true ↦ ReadOwn WatchRead | false ↦ Nothing ])
in_watch_fits A y s true = refl
in_watch_fits A y s false = tt

claimed_fits : (A : Reply → Type 0) (y : Step) (s : Session) → IsJoining A y s → (claimed now : ℕ) (b c : Bool) → DeltaFits A y s (elim b as (λ z. DeltaNext) [
  | false ↦ Nothing
  | true ↦ elim c as (λ z. DeltaNext) [ true ↦ RefuseJoin (IdLate claimed now) | false ↦ RegisterAndRead VerifyRead ]
])
claimed_fits A y s j claimed now false c = tt
claimed_fits A y s j claimed now true true = j.late (IdLate claimed now) refl
claimed_fits A y s j claimed now true false = refl

time_fits : (A : Reply → Type 0) (y : Step) (s : Session) → IsJoining A y s → (l : DeltaLease) (now made answered : ℕ) (step : JoinStep) → DeltaFits A y s (next_by_time l now made answered step)
time_fits A y s j l now made answered FirstRead = in_watch_fits A y s (nat_le (answered + renew l.timing) now)
time_fits A y s j l now made answered WatchRead = in_watch_fits A y s (nat_le (answered + renew l.timing) now)
time_fits A y s j l now made answered ClaimWrite = claimed_fits A y s j made now (nat_le (answered + dead l.timing) now) (nat_lt (made + join_max l.timing) now)
time_fits A y s j l now made answered DecidingRead = tt
time_fits A y s j l now made answered VerifyRead = tt
time_fits A y s j l now made answered FirstRenewal = tt

pub wake_fits : (A : Reply → Type 0) (y : Step) (s : Session) → IsJoining A y s → (l : DeltaLease) (now : ℕ) (ms : List Submitted) → DeltaFits A y s (next_on_wake l now ms)
unfolding next_on_wake
wake_fits A y s j l now [] = tt
wake_fits A y s j l now (m ∷ ms) = by m.answer where
  step_by : (a : Answered) (o : Option JoinStep) → DeltaFits A y s (elim o as (λ z. DeltaNext) [ None ↦ Nothing | Some step ↦ next_by_time l now m.reading a.reading step ])
  step_by a None = tt
  step_by a (Some step) = time_fits A y s j l now m.reading a.reading step

  by : (o : Option Answered) → DeltaFits A y s (elim o as (λ z. DeltaNext) [
    | None ↦ Nothing
    | Some a ↦ elim (join_step_of m.call.purpose) as (λ z. DeltaNext) [ None ↦ Nothing | Some step ↦ next_by_time l now m.reading a.reading step ]
  ])
  by None = tt
  by (Some a) = step_by a (join_step_of m.call.purpose)

-- ---- of a session that is joined

pub renewed_fits : (A : Reply → Type 0) (y : Step) (s : Session) (recovering : Bool) (made : ℕ) (answer : Answer) → DeltaFits A y s (next_after_renewal recovering made answer)
renewed_fits A y s true made Written = tt
renewed_fits A y s false made Written = tt
renewed_fits A y s recovering made (Read bytes) = tt
renewed_fits A y s recovering made Failed = tt

pub freed_fits : (A : Reply → Type 0) (y : Step) (s : Session) → ((r : Reply) → is_before_input r ≡ false → A r) → (job call : ℕ) (answer : Answer) → DeltaFits A y s (next_after_free job call answer)
freed_fits A y s late job call Written = late Done refl
freed_fits A y s late job call Failed = late (IoFault call) refl
freed_fits A y s late job call (Read bytes) = tt

-- A record of the session's generation keeps it.
own_keeps : (y : Step) (s : Session) (d : DeltaRec) → d.generation ≡ generation_of (seen y) s → KeepsGeneration y s (WriteRecord (DeltaIs d))
own_keeps y s d is k at = inl (ap (λ (z : DeltaRec). z.generation) (sym (some_value d k at)) ∙ is)

pub renewal_fits : (A : Reply → Type 0) (y : Step) (s : Session) (now : ℕ) (bits : List ℕ) → DeltaFits A y s (next_renewal (delta_of_session y.setting s) now (delta_known y.setting (seen y) s) bits)
unfolding next_renewal
renewal_fits A y s now bits = by (is_renewal_due (delta_of_session y.setting s) now (delta_known y.setting (seen y) s)) where
  by : (b : Bool) → DeltaFits A y s (elim b as (λ z. DeltaNext) [
    | false ↦ Nothing
    | true ↦ WriteRenewal (delta_record (delta_of_session y.setting s) Live (generation_of (seen y) s) (last_seq (seen y) s + 1) now bits)
  ])
  by false = tt
  by true = own_keeps y s (delta_record (delta_of_session y.setting s) Live (generation_of (seen y) s) (last_seq (seen y) s + 1) now bits) refl

pub free_fits : (A : Reply → Type 0) (y : Step) (s : Session) (now : ℕ) → DeltaFits A y s (next_free (delta_of_session y.setting s) now (delta_known y.setting (seen y) s))
free_fits A y s now = by (delta_known y.setting (seen y) s).leaving (delta_known y.setting (seen y) s).freed where
  by : (o : Option ℕ) (b : Bool) → DeltaFits A y s (elim o as (λ z. DeltaNext) [
    | None ↦ Nothing
    | Some j ↦ elim b as (λ z. DeltaNext) [
      | true ↦ Nothing
      | false ↦ WriteFree j (delta_record (delta_of_session y.setting s) Free (generation_of (seen y) s) (last_seq (seen y) s + 1) now no_bits)
    ]
  ])
  by None b = tt
  by (Some j) true = tt
  by (Some j) false = own_keeps y s (delta_record (delta_of_session y.setting s) Free (generation_of (seen y) s) (last_seq (seen y) s + 1) now no_bits) refl
