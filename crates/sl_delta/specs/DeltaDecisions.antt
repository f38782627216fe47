-- What comes next on the own sector, by what is kept of it: the definitions' decisions, asked of the kept answers in place of the calls.
use Rattle.sl_area.specs.AreaSizes.{record_in, sector_with}
use Rattle.sl_delta.specs.OwnSector.{IsOwnRecord, OwnState, lease_of}
use Rattle.sl_sector.specs.Bitmaps.{no_bits}
use Rattle.sl_sector.specs.SectorLayouts.{delta_in}
use Rattle.sl_sector.specs.declared.sector.DeltaRec.{DeltaRec}
use Rattle.sl_sector.specs.declared.sector.DeltaState.TheVariants.{Live}
use Rattle.sl_sector.specs.declared.sector.Rec.TheVariants.{DeltaIs}
use Rattle.sl_trace.specs.DeltaDecisions.{claim_on, delta_record, id_lost, next_after_first, where_watched}
use Rattle.sl_trace.specs.Sightings.{is_free_state}
use Rattle.sl_trace.specs.declared.delta.DeltaNext.TheVariants.{Disconnect, Join, MoveConnection, Nothing, ReadOwn, RefuseJoin, RegisterAndRead, WriteClaim, WriteFirst, WriteFree, WriteRenewal}
use Rattle.sl_trace.specs.declared.delta.DeltaNext.{DeltaNext}
use Rattle.sl_time.specs.Times.{TimingNumbers, dead, join_max, renew, take_over}
use Rattle.sl_trace.specs.declared.effects.JoinStep.TheVariants.{ClaimWrite, DecidingRead, FirstRead, FirstRenewal, VerifyRead, WatchRead}
use Rattle.sl_trace.specs.declared.effects.JoinStep.{JoinStep}
use Rattle.sl_trace.specs.declared.input.Answer.TheVariants.{Failed, Read, Written}
use Rattle.sl_trace.specs.declared.input.Answer.{Answer}
use Rattle.sl_trace.specs.declared.reply.Limited.TheVariants.{Seq as SeqLimit}
use Rattle.sl_trace.specs.declared.reply.Reply.TheVariants.{IdLate, IoFault, Limit as LimitReached, WrongDelta}
use Rattle.sl_words.specs.Bounds.{is_number, moments}
use Rattle.sl_words.specs.Words.{some_is}
use Rattle.std.specs.Prelude.{Bool, List, None, Option, Some, bytes_eq, false, nat_le, nat_lt, true, unwrap_or, [], ℕ, ◌&&◌, ◌+◌, ◌<◌, ◌==◌}

-- After the first read, where it spells this record.
abbrev pub first_spelled : List ℕ → ℕ → DeltaRec → DeltaNext
first_spelled lockspace id d =
    elim (bytes_eq d.lockspace lockspace && d.id == id) [
      | false ↦ RefuseJoin (WrongDelta d.lockspace d.id)
      | true ↦ elim (is_free_state d.state) [ true ↦ RegisterAndRead DecidingRead | false ↦ Nothing ]
    ]

-- What the joining watches.
abbrev pub watched_in : OwnState → List ℕ
watched_in o = unwrap_or o.joining.watched []

-- Whether a read submitted at this reading was submitted `take_over` after the first one's answer.
abbrev pub is_over_since : TimingNumbers → Option ℕ → ℕ → Bool
is_over_since tm since read_at = some_is (λ a. nat_le (a + take_over tm) read_at) since

-- After a further read, submitted at this reading.
abbrev pub after_watch : OwnState → ℕ → List ℕ → DeltaNext
after_watch o read_at bytes =
    where_watched (lease_of o) (watched_in o) bytes
    (elim (is_over_since o.timing o.joining.since read_at) [ true ↦ RegisterAndRead DecidingRead | false ↦ Nothing ])

-- The claim on what a sector spells, if it spells a delta record.
abbrev pub claim_next : OwnState → ℕ → Option DeltaRec → DeltaNext
claim_next o now None = Nothing
claim_next o now (Some d) = claim_on (lease_of o) now d

-- After the deciding read.
abbrev pub after_deciding : OwnState → ℕ → List ℕ → DeltaNext
after_deciding o now bytes = where_watched (lease_of o) (watched_in o) bytes (claim_next o now (delta_in (record_in (lease_of o).layout bytes)))

-- The first renewal of this claim, unless a number would pass its limit.
abbrev pub first_renewal : OwnState → ℕ → DeltaRec → DeltaNext
first_renewal o now claim =
    elim (is_number (claim.seq + 1)) [
      | false ↦ RefuseJoin (LimitReached SeqLimit)
      | true ↦ WriteFirst (delta_record (lease_of o) Live claim.generation (claim.seq + 1) now no_bits)
    ]

-- After the verify read, where this was claimed.
abbrev pub verified : OwnState → ℕ → List ℕ → DeltaRec → DeltaNext
verified o now bytes claim =
    elim (bytes_eq bytes (sector_with (lease_of o).layout (DeltaIs claim))) [
      | false ↦ RefuseJoin (id_lost (lease_of o) claim bytes)
      | true ↦ first_renewal o now claim
    ]

-- After the verify read.
abbrev pub after_verify : OwnState → ℕ → List ℕ → DeltaNext
after_verify o now bytes = elim o.joining.claim [ None ↦ Nothing | Some claim ↦ verified o now bytes claim ]

-- After a read of the joining at this step, submitted at this reading.
abbrev pub after_join_read : OwnState → ℕ → ℕ → List ℕ → JoinStep → DeltaNext
after_join_read o now made bytes FirstRead = next_after_first (lease_of o) bytes
after_join_read o now made bytes WatchRead = after_watch o made bytes
after_join_read o now made bytes DecidingRead = after_deciding o now bytes
after_join_read o now made bytes ClaimWrite = Nothing
after_join_read o now made bytes VerifyRead = after_verify o now bytes
after_join_read o now made bytes FirstRenewal = Nothing

-- After a write of the joining at this step, submitted at this reading.
abbrev pub after_join_write : OwnState → ℕ → JoinStep → DeltaNext
after_join_write o made FirstRead = Nothing
after_join_write o made WatchRead = Nothing
after_join_write o made DecidingRead = Nothing
after_join_write o made ClaimWrite = Disconnect
after_join_write o made VerifyRead = Nothing
after_join_write o made FirstRenewal = Join o.generation made

-- After an answer of a joining that goes on: of the call with this number, at this step, submitted at this reading.
abbrev pub after_join : OwnState → ℕ → ℕ → ℕ → JoinStep → Answer → DeltaNext
after_join o now call made step (Read bytes) = after_join_read o now made bytes step
after_join o now call made step Written = after_join_write o made step
after_join o now call made step Failed = RefuseJoin (IoFault call)

-- After a read of a watch: it is read again once `renew` has passed.
abbrev pub watch_next : TimingNumbers → ℕ → ℕ → DeltaNext
watch_next tm now answered = elim (nat_le (answered + renew tm) now) [ true ↦ ReadOwn WatchRead | false ↦ Nothing ]

-- After the claim's answer: the verify read once `dead` has passed, unless more than `join_max` has since the claim.
abbrev pub claim_waited : TimingNumbers → ℕ → ℕ → ℕ → DeltaNext
claim_waited tm now claimed answered =
    elim (nat_le (answered + dead tm) now) [
      | false ↦ Nothing
      | true ↦ elim (nat_lt (claimed + join_max tm) now) [ true ↦ RefuseJoin (IdLate claimed now) | false ↦ RegisterAndRead VerifyRead ]
    ]

-- By the step of the newest call, submitted and answered at these readings.
abbrev pub time_next : TimingNumbers → ℕ → ℕ → ℕ → JoinStep → DeltaNext
time_next tm now made answered FirstRead = watch_next tm now answered
time_next tm now made answered WatchRead = watch_next tm now answered
time_next tm now made answered DecidingRead = Nothing
time_next tm now made answered ClaimWrite = claim_waited tm now made answered
time_next tm now made answered VerifyRead = Nothing
time_next tm now made answered FirstRenewal = Nothing

-- What is due of a joining on a wake.
abbrev pub on_wake : OwnState → ℕ → DeltaNext
on_wake o now =
    elim o.joining.newest [ None ↦ Nothing | Some n ↦ elim n.answered [ None ↦ Nothing | Some at ↦ time_next o.timing now n.made at n.step ] ]

-- What is written is a record, and a renewal that counts was submitted at a moment.
abbrev pub IsFitNext : DeltaNext → Type 0
IsFitNext (WriteClaim d) = IsOwnRecord d
IsFitNext (WriteFirst d) = IsOwnRecord d
IsFitNext (WriteRenewal d) = IsOwnRecord d
IsFitNext (WriteFree j d) = IsOwnRecord d
IsFitNext (Join generation renewed) = renewed < moments
IsFitNext (MoveConnection renewed) = renewed < moments
IsFitNext n = Unit {0}
