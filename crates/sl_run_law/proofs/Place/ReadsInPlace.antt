-- A read of blocks is at its place, by the law of reads, whether it is made once more or not.
use Rattle.sl_run.specs.Lawful.{Orderly}
use Rattle.sl_run.specs.LawfulArea.{IsAreaRead, IsBlockRead, IsLeaseRead, IsRightRead}
use Rattle.sl_run_law.proofs.Place.TracesOnMachines.{call_law}
use Rattle.sl_trace.specs.Leases.{is_area_read, is_block_read, spot_of_call}
use Rattle.sl_trace.specs.Traces.{Setting, Submitted, Trace, new_call, submitted}
use Rattle.sl_trace.specs.declared.effects.LeaseRead.TheVariants.{OfArea, OfBlock, OfFree, OfPhase1, OfPhase2}
use Rattle.sl_trace.specs.declared.effects.LeaseStep.TheVariants.{ClearMode, FreeLeader, Phase1Read, Phase1Write, Phase2Read, Phase2Write, ReadAgain, ReadArea, ReadBeforeBlock, ReadBeforeFree, SetMode, TakeLeader}
use Rattle.sl_trace.specs.declared.effects.LeaseStep.{LeaseStep}
use Rattle.sl_trace.specs.declared.effects.Op.TheVariants.{ReadSectors}
use Rattle.sl_trace.specs.declared.effects.Purpose.TheVariants.{Joining, Lease, Leaving, Renewal, RequestRead, RequestWrite, SeeRequest, Survey, ValueRead, ValueWrite}
use Rattle.sl_trace.specs.declared.effects.Purpose.{Purpose}
use Rattle.sl_trace.specs.declared.effects.Spot.{Spot}
use Rattle.sl_trace.specs.declared.effects.Work.{Work}
use Rattle.sl_trace.specs.declared.session.Session.{Session}
use Rattle.sl_run_law.proofs.Sessions.CallsAreMade.{calls_are_made}
use Rattle.sl_run_law.specs.Sessions.SessionLaws.{IsSession, made_as}
use Rattle.sl_words.proofs.CaseLaws.{false_is_true, true_is_false}
use Rattle.std.specs.Prelude.{Contains, [], false, true, ◌≡◌}

-- A call with this purpose.
abbrev pub purposed : Purpose → Submitted
purposed p = new_call 0 0 (record { number = 0; session = 0; path = []; offset = 0; op = ReadSectors 0; purpose = p })

area_step : (st : Setting) (at : Spot) (c : Submitted) (work : Work) (step : LeaseStep) → is_area_read (purposed (Lease work step)) ≡ true → IsLeaseRead st at c step → IsAreaRead st at c
area_step st at c work (ReadArea name) h law = law
area_step st at c work ReadBeforeFree h law = law
area_step st at c work ReadBeforeBlock h law = absurd (false_is_true h)
area_step st at c work (ReadAgain (OfArea name)) h law = law.1
area_step st at c work (ReadAgain OfFree) h law = law.1
area_step st at c work (ReadAgain OfBlock) h law = absurd (false_is_true h)
area_step st at c work (ReadAgain OfPhase1) h law = absurd (false_is_true h)
area_step st at c work (ReadAgain OfPhase2) h law = absurd (false_is_true h)
area_step st at c work Phase1Write h law = absurd (false_is_true h)
area_step st at c work Phase1Read h law = absurd (false_is_true h)
area_step st at c work Phase2Write h law = absurd (false_is_true h)
area_step st at c work Phase2Read h law = absurd (false_is_true h)
area_step st at c work TakeLeader h law = absurd (false_is_true h)
area_step st at c work SetMode h law = absurd (false_is_true h)
area_step st at c work FreeLeader h law = absurd (false_is_true h)
area_step st at c work ClearMode h law = absurd (false_is_true h)

pub area_right : (st : Setting) (at : Spot) (c : Submitted) (p : Purpose) → is_area_read (purposed p) ≡ true → IsRightRead st at c p → IsAreaRead st at c
area_right st at c (Lease work step) h law = area_step st at c work step h law
area_right st at c (Joining j step) h law = absurd (false_is_true h)
area_right st at c Renewal h law = absurd (false_is_true h)
area_right st at c Survey h law = absurd (false_is_true h)
area_right st at c (Leaving j) h law = absurd (false_is_true h)
area_right st at c (RequestRead j) h law = absurd (false_is_true h)
area_right st at c (RequestWrite j o) h law = absurd (false_is_true h)
area_right st at c SeeRequest h law = absurd (false_is_true h)
area_right st at c (ValueWrite j) h law = absurd (false_is_true h)
area_right st at c (ValueRead j) h law = absurd (false_is_true h)

phase_step : (st : Setting) (at : Spot) (c : Submitted) (work : Work) (step : LeaseStep) → is_area_read (purposed (Lease work step)) ≡ false → is_block_read (purposed (Lease work step)) ≡ true → IsLeaseRead st at c step → IsBlockRead st at c
phase_step st at c work (ReadArea name) a h law = absurd (true_is_false a)
phase_step st at c work ReadBeforeFree a h law = absurd (true_is_false a)
phase_step st at c work ReadBeforeBlock a h law = law.1
phase_step st at c work (ReadAgain (OfArea name)) a h law = absurd (true_is_false a)
phase_step st at c work (ReadAgain OfFree) a h law = absurd (true_is_false a)
phase_step st at c work (ReadAgain OfBlock) a h law = law.1
phase_step st at c work (ReadAgain OfPhase1) a h law = law.1
phase_step st at c work (ReadAgain OfPhase2) a h law = law.1
phase_step st at c work Phase1Write a h law = absurd (false_is_true h)
phase_step st at c work Phase1Read a h law = law
phase_step st at c work Phase2Write a h law = absurd (false_is_true h)
phase_step st at c work Phase2Read a h law = law
phase_step st at c work TakeLeader a h law = absurd (false_is_true h)
phase_step st at c work SetMode a h law = absurd (false_is_true h)
phase_step st at c work FreeLeader a h law = absurd (false_is_true h)
phase_step st at c work ClearMode a h law = absurd (false_is_true h)

pub phase_right : (st : Setting) (at : Spot) (c : Submitted) (p : Purpose) → is_area_read (purposed p) ≡ false → is_block_read (purposed p) ≡ true → IsRightRead st at c p → IsBlockRead st at c
phase_right st at c (Lease work step) a h law = phase_step st at c work step a h law
phase_right st at c (Joining j step) a h law = absurd (false_is_true h)
phase_right st at c Renewal a h law = absurd (false_is_true h)
phase_right st at c Survey a h law = absurd (false_is_true h)
phase_right st at c (Leaving j) a h law = absurd (false_is_true h)
phase_right st at c (RequestRead j) a h law = absurd (false_is_true h)
phase_right st at c (RequestWrite j o) a h law = absurd (false_is_true h)
phase_right st at c SeeRequest a h law = absurd (false_is_true h)
phase_right st at c (ValueWrite j) a h law = absurd (false_is_true h)
phase_right st at c (ValueRead j) a h law = absurd (false_is_true h)

-- A read of the area on a trace is at its place, and so is another read of blocks.
pub area_place : (st : Setting) (es : Trace) (s : Session) (q : Submitted) → Orderly st es → IsSession st es s → Contains (submitted es) q → q.call.session ≡ s.number
    → is_area_read q ≡ true → IsAreaRead st (spot_of_call st.layout q) q
area_place st es s q h its there mine is =
    let made = calls_are_made es q there in
    let law = call_law st es s q made h its mine in
    let right = area_right st (spot_of_call st.layout q) (made_as made) q.call.purpose is (law.0.area.0.reads made.index q.call s made.call law.1) in
    (right.0, right.1)

pub phase_place : (st : Setting) (es : Trace) (s : Session) (q : Submitted) → Orderly st es → IsSession st es s → Contains (submitted es) q → q.call.session ≡ s.number
    → is_area_read q ≡ false → is_block_read q ≡ true → IsBlockRead st (spot_of_call st.layout q) q
phase_place st es s q h its there mine alone is =
    let made = calls_are_made es q there in
    let law = call_law st es s q made h its mine in
    let right = phase_right st (spot_of_call st.layout q) (made_as made) q.call.purpose alone is (law.0.area.0.reads made.index q.call s made.call law.1) in
    (right.0, right.1)
