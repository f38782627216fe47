-- What a lawful run knows of one session and its own sector: what stands behind its claim, its verify read, each renewal and its free.
use Rattle.sl_area.specs.AreaSizes.{record_in}
use Rattle.sl_ids.specs.Clocks.Points.{reading}
use Rattle.sl_id_safety.specs.State.IdStates.{deciding_sample, generation_by, is_sector_of, join_course, own_courses, verifying_sample}
use Rattle.sl_run_law.specs.Moment.MomentsFollowSteps.{point_of}
use Rattle.sl_run.specs.Runs.{Happening}
use Rattle.sl_run.specs.Safety.{Found, IsSession, LawfulRun, SessionId, is_over, world_at}
use Rattle.sl_run.specs.Worlds.{Course, Program, Sampling, Stamp, World, is_landed}
use Rattle.sl_run.specs.declared.header.Header.{Header}
use Rattle.sl_sector.specs.SectorLayouts.{delta_in}
use Rattle.sl_sector.specs.declared.sector.DeltaRec.{DeltaRec}
use Rattle.sl_sector.specs.declared.sector.DeltaState.TheVariants.{Claimed, Free, Live}
use Rattle.sl_sector.specs.declared.sector.Rec.TheVariants.{DeltaIs}
use Rattle.sl_trace.specs.Sessions.{is_free_purpose, is_join_call}
use Rattle.sl_time.specs.Times.{dead, join_max, take_over}
use Rattle.sl_trace.specs.Traces.{record_of}
use Rattle.sl_trace.specs.declared.effects.JoinStep.TheVariants.{ClaimWrite, DecidingRead, FirstRead, FirstRenewal, VerifyRead}
use Rattle.sl_trace.specs.declared.effects.JoinStep.{JoinStep}
use Rattle.sl_trace.specs.declared.effects.Op.TheVariants.{ReadSectors}
use Rattle.sl_trace.specs.declared.effects.Purpose.TheVariants.{Joining}
use Rattle.std.specs.Prelude.{Bool, Contains, IsTrue, List, None, Some, false, true, ℕ, ◌+◌, ◌<◌, ◌≡◌, ◌≤◌, ◌⊎◌}

-- What is said of each call of each session of a lawful run.
abbrev pub OfEachCall : (Program → Header → World → SessionId → Found → Course → Type 0) → Type 0
OfEachCall P = (p : Program) (h : Header) (xs : List Happening) → LawfulRun p h xs → (i : SessionId) (f : Found) (c : Course)
    → IsSession (world_at p h xs) i f → Contains (own_courses i f.machine) c → P p h (world_at p h xs) i f c

-- A delta record of the session, at its own sector.
pub record WritesOwn (w : World) (f : Found) (c : Course) (d : DeltaRec) : Type 0 where
  pub writes : record_of c.call.op ≡ Some (DeltaIs d)
  pub place : is_sector_of w.layout c.call.path c.call.offset f.session ≡ true
  pub names : (d.lockspace ≡ f.session.lockspace) × (d.id ≡ f.session.id) × (d.host ≡ Some f.daemon.setting.name)

-- Behind a claim: it is the session's one claim; the deciding read was answered before it was made and showed what was watched; and its
-- generation is one above that of the record that it showed.
pub record HasDecided (w : World) (i : SessionId) (f : Found) (c : Course) : Type 0 where
  pub record_written : DeltaRec
  pub own : WritesOwn w f c record_written
  pub claim : record_written.state ≡ Claimed
  pub only : join_course i ClaimWrite f.machine ≡ Some c
  pub sample : Sampling
  pub decided : deciding_sample i f ≡ Some sample
  pub before : sample.step < c.made.step
  pub generation : record_written.generation ≡ generation_by w c.call.path c.call.offset (Some sample)
  -- the session has written nothing before
  pub first : (d : Course) → Contains (own_courses i f.machine) d → d.made.step < c.made.step → record_of d.call.op ≡ None

abbrev pub ClaimsHaveDecided : Type 0
ClaimsHaveDecided = OfEachCall (λ p h w i f c. IsTrue (is_join_call ClaimWrite c.call.purpose) → HasDecided w i f c)

-- Behind a verify read: the claim was answered ok, `dead` before it was made; and it was made within `join_max` after the claim was.
pub record HasClaimed (h : Header) (w : World) (i : SessionId) (f : Found) (c : Course) : Type 0 where
  pub only : join_course i VerifyRead f.machine ≡ Some c
  pub claim : Course
  pub claimed : join_course i ClaimWrite f.machine ≡ Some claim
  pub landed : IsTrue (is_landed claim.fate)
  pub answer : Stamp
  pub answered : (claim.answered ≡ Some answer) × (answer.step ≤ c.made.step)
  pub waited : reading (point_of answer) + dead h.timing ≤ reading (point_of c.made)
  pub in_time : reading (point_of c.made) ≤ reading (point_of claim.made) + join_max h.timing

abbrev pub VerifyReadsHaveClaimed : Type 0
VerifyReadsHaveClaimed = OfEachCall (λ p h w i f c. IsTrue (is_join_call VerifyRead c.call.purpose) → HasClaimed h w i f c)

-- Behind any other delta record that a session writes: it was joined at first, or its verify read showed its claim before; each seq is
-- above all before; and it is free just where it is the session's free, the last that it writes.
pub record HasVerified (w : World) (i : SessionId) (f : Found) (c : Course) (d : DeltaRec) : Type 0 where
  pub own : WritesOwn w f c d
  pub verified : (f.session.job ≡ None) ⊎ ((x : Sampling) × (verifying_sample w i f ≡ Some x) × (x.step < c.made.step))
  pub generation : d.generation ≡ generation_by w c.call.path c.call.offset (deciding_sample i f)
  pub state : (d.state ≡ Live) ⊎ ((d.state ≡ Free) × (is_free_purpose c.call.purpose ≡ true))
  pub live : is_free_purpose c.call.purpose ≡ false → d.state ≡ Live
  pub rises : (k : Course) (e : DeltaRec) → Contains (own_courses i f.machine) k → record_of k.call.op ≡ Some (DeltaIs e) → k.made.step < c.made.step
      → e.seq < d.seq

abbrev pub RenewalsHaveVerified : Type 0
RenewalsHaveVerified = OfEachCall (λ p h w i f c. (d : DeltaRec) → record_of c.call.op ≡ Some (DeltaIs d)
    → is_join_call ClaimWrite c.call.purpose ≡ false → HasVerified w i f c d)

-- A session's writes of delta records come one after the other: each was answered before a later one was made.
abbrev pub DeltaWritesComeInTurn : Type 0
DeltaWritesComeInTurn = OfEachCall (λ p h w i f c. (d e : DeltaRec) (k : Course) → record_of c.call.op ≡ Some (DeltaIs d)
    → Contains (own_courses i f.machine) k → record_of k.call.op ≡ Some (DeltaIs e) → k.made.step < c.made.step
    → (s : Stamp) × (k.answered ≡ Some s) × (s.step ≤ c.made.step))

-- Behind a deciding read: the first read was answered before it, and gave a record of the session's lockspace and id; that is free, or
-- the deciding read was made `take_over` after that answer.
pub record HasWatched (h : Header) (w : World) (i : SessionId) (f : Found) (c : Course) : Type 0 where
  pub only : join_course i DecidingRead f.machine ≡ Some c
  pub first : Course
  pub looked : join_course i FirstRead f.machine ≡ Some first
  pub answer : Stamp
  pub answered : (first.answered ≡ Some answer) × (first.done ≡ true) × (answer.step ≤ c.made.step)
  pub found : DeltaRec
  pub spelled : delta_in (record_in w.layout first.sampled) ≡ Some found
  pub names : (found.lockspace ≡ f.session.lockspace) × (found.id ≡ f.session.id)
  pub watched : (found.state ≡ Free) ⊎ (reading (point_of answer) + take_over h.timing ≤ reading (point_of c.made))

abbrev pub DecidingReadsHaveWatched : Type 0
DecidingReadsHaveWatched = OfEachCall (λ p h w i f c. IsTrue (is_join_call DecidingRead c.call.purpose) → HasWatched h w i f c)

-- A read of a joining reads the session's own sector.
pub record ReadsOwn (w : World) (f : Found) (c : Course) : Type 0 where
  pub reads : c.call.op ≡ ReadSectors 1
  pub place : is_sector_of w.layout c.call.path c.call.offset f.session ≡ true

-- Whether a step of a joining reads.
abbrev pub is_reading_step : JoinStep → Bool
is_reading_step ClaimWrite = false
is_reading_step FirstRenewal = false
is_reading_step step = true

abbrev pub JoinReadsAreOwn : Type 0
JoinReadsAreOwn = OfEachCall (λ p h w i f c. (j : ℕ) (step : JoinStep) → c.call.purpose ≡ Joining j step → is_reading_step step ≡ true → ReadsOwn w f c)

-- Of a daemon's sessions of one lockspace each ended before the next made its first read, with no write in flight.
abbrev pub SessionsFollow : Type 0
SessionsFollow = (p : Program) (h : Header) (xs : List Happening) → LawfulRun p h xs → (i k : SessionId) (f g : Found)
    → IsSession (world_at p h xs) i f → IsSession (world_at p h xs) k g → i.machine ≡ k.machine → i.daemon ≡ k.daemon → i.number < k.number
    → f.session.lockspace ≡ g.session.lockspace → (is_over i f ≡ true) × ((c d : Course) → Contains (own_courses i f.machine) c
    → Contains (own_courses k g.machine) d → c.made.step < d.made.step)
