-- The life of an id's sector: watch, register, deciding read, claim, unregister, wait, register, verify read, first renewal; then
-- renewals; at last one free (Chockler and Malkhi, on one disk). What comes next is a decision on the session's own calls, the newest
-- first, and on the answer of the newest; carrying it out is another matter.
use Rattle.sl_area.specs.AreaSizes.{Layout, record_in, sector_with}
use Rattle.sl_area.specs.AreaLayout.{delta_offset}
use Rattle.sl_sector.specs.Bitmaps.{no_bits}
use Rattle.sl_sector.specs.SectorLayouts.{delta_in}
use Rattle.sl_sector.specs.declared.sector.DeltaRec.{DeltaRec}
use Rattle.sl_sector.specs.declared.sector.DeltaState.TheVariants.{Claimed, Free, Live}
use Rattle.sl_sector.specs.declared.sector.DeltaState.{DeltaState}
use Rattle.sl_sector.specs.declared.sector.Rec.TheVariants.{DeltaIs}
use Rattle.sl_trace.specs.Sessions.{calls_of, delta_written, free_write, generation_of, has_open_delta, join_call, last_renewal_submitted, last_seq, leaving_job, recovery_of}
use Rattle.sl_trace.specs.Sightings.{is_free_state}
use Rattle.sl_trace.specs.declared.delta.DeltaKnown.{DeltaKnown}
use Rattle.sl_trace.specs.declared.delta.DeltaNext.TheVariants.{Disconnect, Join, EndLeaving, MoveConnection, ReadOwn, RegisterAndRead, RefuseJoin, Nothing, WriteClaim, WriteFirst, WriteFree, WriteRenewal}
use Rattle.sl_trace.specs.declared.delta.DeltaNext.{DeltaNext}
use Rattle.sl_trace.specs.declared.session.Session.{Session}
use Rattle.sl_time.specs.Times.{TimingNumbers, dead, join_max, renew, take_over}
use Rattle.sl_trace.specs.Traces.{Setting, Submitted, Trace, gave}
use Rattle.sl_trace.specs.declared.effects.JoinStep.TheVariants.{ClaimWrite, DecidingRead, FirstRead, FirstRenewal, VerifyRead, WatchRead}
use Rattle.sl_trace.specs.declared.effects.JoinStep.{JoinStep}
use Rattle.sl_trace.specs.declared.effects.Purpose.TheVariants.{Joining}
use Rattle.sl_trace.specs.declared.effects.Purpose.{Purpose}
use Rattle.sl_trace.specs.declared.input.Answer.TheVariants.{Failed, Read, Written}
use Rattle.sl_trace.specs.declared.input.Answer.{Answer}
use Rattle.sl_trace.specs.declared.reply.DeltaOwner.{DeltaOwner}
use Rattle.sl_trace.specs.declared.reply.DeltaVersion.{DeltaVersion}
use Rattle.sl_trace.specs.declared.reply.Limited.TheVariants.{Gen as GenLimit, Seq as SeqLimit}
use Rattle.sl_trace.specs.declared.reply.Reply.TheVariants.{Done, IdHeld, IdLate, IdLost, IoFault, Limit as LimitReached, TornDelta, WrongDelta}
use Rattle.sl_trace.specs.declared.reply.Reply.{Reply}
use Rattle.sl_words.specs.Bounds.{is_number}
use Rattle.sl_words.specs.Words.{some_is}
use Rattle.std.specs.Prelude.{Bool, List, None, Option, Some, [], bytes_eq, codes, false, is_some, nat_le, nat_lt, not, option_and_then, option_map, true, unwrap_or, ℕ, ◌&&◌, ◌+◌, ◌==◌, ◌∷◌}

-- What a delta lease is made of.
pub record DeltaLease : Type 0 where
  pub timing : TimingNumbers
  pub layout : Layout
  -- the daemon's name
  pub host : List ℕ
  pub lockspace : List ℕ
  pub id : ℕ

-- The delta lease of a session.
abbrev pub delta_of_session : Setting → Session → DeltaLease
delta_of_session st s = record { timing = st.timing; layout = st.layout; host = st.name; lockspace = s.lockspace; id = s.id }

-- Where the session's sector stands.
abbrev pub own_offset : Setting → Session → ℕ
own_offset st s = delta_offset st.layout s.offset s.id

-- A delta record of the lease.
abbrev pub delta_record : DeltaLease → DeltaState → ℕ → ℕ → ℕ → List ℕ → DeltaRec
delta_record l state generation seq now bitmap =
    record { state = state; id = l.id; generation = generation; seq = seq; stamp = now; lockspace = l.lockspace; host = Some l.host; bitmap = bitmap }

-- What the first read of the joining gave.
abbrev pub first_bytes : List Submitted → Option (List ℕ)
first_bytes ms = option_and_then gave (join_call ms FirstRead)

-- The reading of its answer.
abbrev pub first_answered : List Submitted → Option ℕ
first_answered ms = option_and_then (λ m. option_map (λ a. a.reading) m.answer) (join_call ms FirstRead)

-- The claim that was submitted.
abbrev pub claim_of : List Submitted → Option DeltaRec
claim_of ms = option_and_then delta_written (join_call ms ClaimWrite)

-- Generation and seq of a delta record.
abbrev pub version_of : DeltaRec → DeltaVersion
version_of d = record { generation = d.generation; seq = d.seq }

-- Those of the delta record that the bytes spell, whatever lockspace and id it has.
abbrev pub version_in : Layout → List ℕ → Option DeltaVersion
version_in g bytes = option_map version_of (delta_in (record_in g bytes))

-- Generation and host name of a delta record; an absent name is `-`.
abbrev pub host_of_delta : DeltaRec → DeltaOwner
host_of_delta d = record { generation = d.generation; name = unwrap_or d.host (codes "-") }

-- The refusal by two reads that differ.
abbrev pub id_held : Layout → List ℕ → List ℕ → Reply
id_held g first later = IdHeld (unwrap_or (version_in g first) (record { generation = 0; seq = 0 })) (version_in g later)

-- The refusal by a read that isn't the own claim.
abbrev pub id_lost : DeltaLease → DeltaRec → List ℕ → Reply
id_lost l claim bytes =
    IdLost (record { generation = claim.generation; name = l.host }) (option_map host_of_delta (delta_in (record_in l.layout bytes)))

-- ---- joining: what comes after an answer

-- After the first read: a torn sector or another lockspace's refuses; a free record needs no watch.
unfoldable pub next_after_first : DeltaLease → List ℕ → DeltaNext
next_after_first l bytes =
    elim (delta_in (record_in l.layout bytes)) [
      | None ↦ RefuseJoin TornDelta
      | Some d ↦ elim (bytes_eq d.lockspace l.lockspace && d.id == l.id) [
        | false ↦ RefuseJoin (WrongDelta d.lockspace d.id)
        | true ↦ elim (is_free_state d.state) [ true ↦ RegisterAndRead DecidingRead | false ↦ Nothing ]
      ]
    ]

-- What the joining watches: what its first read gave.
abbrev pub watched : List Submitted → List ℕ
watched ms = unwrap_or (first_bytes ms) []

-- Where a further read equals the watched bytes it goes on; another record refuses.
abbrev pub where_watched : DeltaLease → List ℕ → List ℕ → DeltaNext → DeltaNext
where_watched l first bytes next = elim (bytes_eq first bytes) [ false ↦ RefuseJoin (id_held l.layout first bytes) | true ↦ next ]

-- Whether a read submitted at this reading was submitted `take_over` after the first one's answer.
abbrev pub is_watched_out : TimingNumbers → List Submitted → ℕ → Bool
is_watched_out tm ms read_at = some_is (λ a. nat_le (a + take_over tm) read_at) (first_answered ms)

-- After a further read, submitted at this reading: an equal one ends the watch once it was submitted `take_over` after the first
-- one's answer.
unfoldable pub next_after_watch : DeltaLease → List Submitted → ℕ → List ℕ → DeltaNext
next_after_watch l ms read_at bytes =
    where_watched l (watched ms) bytes (elim (is_watched_out l.timing ms read_at) [ true ↦ RegisterAndRead DecidingRead | false ↦ Nothing ])

-- The claim on a watched record: one generation and one seq higher, unless a number would pass its limit.
abbrev pub claim_on : DeltaLease → ℕ → DeltaRec → DeltaNext
claim_on l now d =
    elim (is_number (d.generation + 1)) [
      | false ↦ RefuseJoin (LimitReached GenLimit)
      | true ↦ elim (is_number (d.seq + 1)) [
        | false ↦ RefuseJoin (LimitReached SeqLimit)
        | true ↦ WriteClaim (delta_record l Claimed (d.generation + 1) (d.seq + 1) now no_bits)
      ]
    ]

-- After the deciding read: it must equal the watched bytes.
unfoldable pub next_after_deciding : DeltaLease → List Submitted → ℕ → List ℕ → DeltaNext
next_after_deciding l ms now bytes =
    where_watched l (watched ms) bytes (elim (delta_in (record_in l.layout bytes)) [ None ↦ Nothing | Some d ↦ claim_on l now d ])

-- After the verify read: it must be the own claim.
unfoldable pub next_after_verify : DeltaLease → List Submitted → ℕ → List ℕ → DeltaNext
next_after_verify l ms now bytes =
    elim (claim_of ms) [
      | None ↦ Nothing
      | Some claim ↦ elim (bytes_eq bytes (sector_with l.layout (DeltaIs claim))) [
        | false ↦ RefuseJoin (id_lost l claim bytes)
        | true ↦ elim (is_number (claim.seq + 1)) [
          | false ↦ RefuseJoin (LimitReached SeqLimit)
          | true ↦ WriteFirst (delta_record l Live claim.generation (claim.seq + 1) now no_bits)
        ]
      ]
    ]

-- After a read of the joining, by its step; ms are the session's calls, m the one that is answered.
abbrev pub next_after_join_read : DeltaLease → List Submitted → ℕ → Submitted → List ℕ → JoinStep → DeltaNext
next_after_join_read l ms now m bytes FirstRead = next_after_first l bytes
next_after_join_read l ms now m bytes WatchRead = next_after_watch l ms m.reading bytes
next_after_join_read l ms now m bytes DecidingRead = next_after_deciding l ms now bytes
next_after_join_read l ms now m bytes VerifyRead = next_after_verify l ms now bytes
next_after_join_read l ms now m bytes ClaimWrite = Nothing
next_after_join_read l ms now m bytes FirstRenewal = Nothing

-- After a write of the joining, by its step; a generation is that of the session.
abbrev pub next_after_join_write : ℕ → Submitted → JoinStep → DeltaNext
next_after_join_write generation m ClaimWrite = Disconnect
next_after_join_write generation m FirstRenewal = Join generation m.reading
next_after_join_write generation m step = Nothing

-- After an answer of a joining that goes on.
unfoldable pub next_in_joining : DeltaLease → ℕ → List Submitted → ℕ → Submitted → JoinStep → Answer → DeltaNext
next_in_joining l generation ms now m step (Read bytes) = next_after_join_read l ms now m bytes step
next_in_joining l generation ms now m step Written = next_after_join_write generation m step
next_in_joining l generation ms now m step Failed = RefuseJoin (IoFault m.call.number)

-- ---- joining: what comes by time

-- After the claim's answer at this reading: the verify read once `dead` has passed, unless more than `join_max` has since the claim.
abbrev pub next_after_claim : DeltaLease → ℕ → ℕ → ℕ → DeltaNext
next_after_claim l now claimed answered =
    elim (nat_le (answered + dead l.timing) now) [
      | false ↦ Nothing
      | true ↦ elim (nat_lt (claimed + join_max l.timing) now) [ true ↦ RefuseJoin (IdLate claimed now) | false ↦ RegisterAndRead VerifyRead ]
    ]

-- After a read of a watch: it is read again once `renew` has passed.
abbrev pub next_in_watch : DeltaLease → ℕ → ℕ → DeltaNext
next_in_watch l now answered = elim (nat_le (answered + renew l.timing) now) [ true ↦ ReadOwn WatchRead | false ↦ Nothing ]

-- By the step of the newest call, submitted and answered at these readings.
abbrev pub next_by_time : DeltaLease → ℕ → ℕ → ℕ → JoinStep → DeltaNext
next_by_time l now made answered FirstRead = next_in_watch l now answered
next_by_time l now made answered WatchRead = next_in_watch l now answered
next_by_time l now made answered ClaimWrite = next_after_claim l now made answered
next_by_time l now made answered step = Nothing

-- The step of a joining's call.
abbrev pub join_step_of : Purpose → Option JoinStep
join_step_of (Joining j step) = Some step
join_step_of p = None

-- What is due of a joining on a wake, by its newest call once that is answered.
unfoldable pub next_on_wake : DeltaLease → ℕ → List Submitted → DeltaNext
next_on_wake l now [] = Nothing
next_on_wake l now (m ∷ ms) =
    elim m.answer [ None ↦ Nothing | Some a ↦ elim (join_step_of m.call.purpose) [ None ↦ Nothing | Some step ↦ next_by_time l now m.reading a.reading step ] ]

-- ---- renewal and free

-- In a leaving a seq is left for the free, which ends renewals.
abbrev pub has_seq_left : DeltaKnown → Bool
has_seq_left k = elim k.leaving [ None ↦ is_number (k.seq + 1) | Some j ↦ not k.freed && is_number (k.seq + 2) ]

-- Whether a renewal is due: `renew` has passed since the last one's submission, no delta call is unanswered, and the session isn't in
-- recovery.
abbrev pub is_renewal_due : DeltaLease → ℕ → DeltaKnown → Bool
is_renewal_due l now k = not k.recovering && nat_le (k.renewed + renew l.timing) now && not k.busy && has_seq_left k

-- The renewal that is due on a wake of a joined session, with these bits.
unfoldable pub next_renewal : DeltaLease → ℕ → DeltaKnown → List ℕ → DeltaNext
next_renewal l now k bits =
    elim (is_renewal_due l now k) [ false ↦ Nothing | true ↦ WriteRenewal (delta_record l Live k.generation (k.seq + 1) now bits) ]

-- After a renewal's answer: in recovery neither the connection moves nor are ids read.
abbrev pub next_after_renewal : Bool → ℕ → Answer → DeltaNext
next_after_renewal recovering made Written = elim recovering [ true ↦ Nothing | false ↦ MoveConnection made ]
next_after_renewal recovering made (Read bytes) = Nothing
next_after_renewal recovering made Failed = Nothing

-- The free that a leaving writes once nothing is held and no call is unanswered.
abbrev pub next_free : DeltaLease → ℕ → DeltaKnown → DeltaNext
next_free l now k =
    elim k.leaving [
      | None ↦ Nothing
      | Some j ↦ elim k.freed [ true ↦ Nothing | false ↦ WriteFree j (delta_record l Free k.generation (k.seq + 1) now no_bits) ]
    ]

-- After the free's answer, of either kind, for the job that leaves.
abbrev pub next_after_free : ℕ → ℕ → Answer → DeltaNext
next_after_free job call Written = EndLeaving job Done
next_after_free job call Failed = EndLeaving job (IoFault call)
next_after_free job call (Read bytes) = Nothing

-- What is known of a session.
abbrev pub delta_known : Setting → Trace → Session → DeltaKnown
delta_known st es s =
    record {
      generation = generation_of es s;
      seq = last_seq es s;
      renewed = last_renewal_submitted es s;
      busy = has_open_delta es s;
      recovering = is_some (recovery_of st es s);
      leaving = option_map (λ j. j.number) (leaving_job st es s);
      freed = is_some (free_write (calls_of es s));
    }
