-- With pairs a block's record has a spelling where its turn is within its limit and its names are ones: so what a lease decides to write has one,
-- for a decision is bounded by its turn, and whoever writes a block has verified the name.
use Rattle.sl_due_facts.proofs.Acts.Pairs.Decisions.{TurnFits, within_cases, writes_own_block}
use Rattle.sl_due_facts.proofs.Acts.Pairs.Records.{block_recorded, block_spelled, leader_no_block}
use Rattle.sl_due_facts.specs.Acts.Acts.{Hears, next_of_conversion, next_of_release, next_of_settling}
use Rattle.sl_area.specs.AreaRecords.{leader_record}
use Rattle.sl_due.specs.CarriedLease.{goes_on, name_on, next_of_lease, next_turn}
use Rattle.sl_due.specs.Steps.{Step, add_end, seen, with_input}
use Rattle.sl_due_facts.proofs.Jobs.SessionsArePresent.{present_is}
use Rattle.sl_due_facts.proofs.Sessions.DeltaLines.{calls_lined}
use Rattle.sl_due_facts.specs.Facts.WayFacts.{IsAligned, IsVerified, Ways, way_context}
use Rattle.sl_due_facts.specs.Facts.AllFacts.{Whole}
use Rattle.sl_due_law.proofs.LawfulTraces.LeaderWrites.{named_well}
use Rattle.sl_due_law.proofs.LawfulTraces.OwnRecords.{fits_it, session_named_well}
use Rattle.sl_due_leases.proofs.Holdings.HoldingsByLeases.{base_aligned}
use Rattle.sl_due_leases.proofs.Holdings.LeaseConversions.{spot_is}
use Rattle.sl_due_leases.proofs.Leases.NamesVerified.{has_verified}
use Rattle.sl_due_leases.proofs.Ways.WayFactsHeld.DecidedFits.{heard_fits, settling_fits}
use Rattle.sl_due_leases.proofs.Ways.WayFactsHeld.EffectsLeave.{there_has}
use Rattle.sl_due_leases.proofs.Ways.WayFactsHeld.HeardStands.{heard_has}
use Rattle.sl_due_leases.proofs.Ways.WayFactsHeld.LeaseNextsLeave.{moment_of}
use Rattle.sl_due_leases.proofs.Ways.AreasAligned.{spot_aligned}
use Rattle.sl_due_leases.proofs.Ways.WayNumbers.{is_verified}
use Rattle.sl_due_leases.proofs.Ways.WayStages.{clear_own}
use Rattle.sl_due_leases.specs.Holdings.DecisionGrounds.{ConvertGrounds, GiveUpGrounds, IsReady}
use Rattle.sl_due_leases.specs.Ways.Nexts.{BlockIsNext, Moment, NextIs, calls_at, context_at, next_record, record_at}
use Rattle.sl_words.proofs.Lists.{find_inside, kept_inside}
use Rattle.sl_run.specs.Lawful.{IsSetting}
use Rattle.sl_sector.specs.Records.{IsBlock, IsRecord}
use Rattle.sl_sector.specs.declared.sector.Block.{Block}
use Rattle.sl_sector.specs.declared.sector.Leader.{Leader}
use Rattle.sl_text.specs.Names.{is_name}
use Rattle.sl_trace.specs.Jobs.{aim_of}
use Rattle.sl_trace.specs.LeaseDecisions.{LeasePlace, lease_place, refuses, within_turn}
use Rattle.sl_trace.specs.Conversions.{convert_next}
use Rattle.sl_trace.specs.Releases.{release_next}
use Rattle.sl_trace.specs.Leases.{LeaseKnown, base_turn, block_of_record, block_submitted, holdings_on, is_lease_call, is_on, known, lease_calls, spot_of, spot_of_call, verified_name}
use Rattle.sl_trace.specs.Sessions.{holdings_of, is_call_of, present_sessions, sessions}
use Rattle.sl_trace.specs.Traces.{Setting, Submitted, Trace, end_of, holdings, record_of, same_place, spot_of_grant, submitted}
use Rattle.sl_trace.specs.declared.command.Command.{Command}
use Rattle.sl_trace.specs.declared.command.ResourceArg.{ResourceArg}
use Rattle.sl_trace.specs.declared.effects.Call.{Call}
use Rattle.sl_trace.specs.declared.effects.Grant.{Grant}
use Rattle.sl_trace.specs.declared.effects.LeaseStep.TheVariants.{ClearMode, FreeLeader, Phase1Read, Phase1Write, Phase2Read, Phase2Write, ReadAgain, ReadArea, ReadBeforeBlock, ReadBeforeFree, SetMode, TakeLeader}
use Rattle.sl_trace.specs.declared.effects.LeaseStep.{LeaseStep}
use Rattle.sl_trace.specs.declared.effects.Mode.TheVariants.{Exclusive, Shared}
use Rattle.sl_trace.specs.declared.effects.Mode.{Mode}
use Rattle.sl_trace.specs.declared.effects.Op.TheVariants.{ReadSectors, WriteRecord}
use Rattle.sl_trace.specs.declared.effects.Purpose.TheVariants.{Lease}
use Rattle.sl_trace.specs.declared.effects.Spot.{Spot}
use Rattle.sl_trace.specs.declared.effects.Work.TheVariants.{Settling}
use Rattle.sl_trace.specs.declared.effects.Work.{Work}
use Rattle.sl_trace.specs.declared.input.Answer.{Answer}
use Rattle.sl_trace.specs.declared.lease.Aim.TheVariants.{Acquires, Converts, Releases, Settles}
use Rattle.sl_trace.specs.declared.lease.Aim.{Aim}
use Rattle.sl_trace.specs.declared.lease.LeaseNext.TheVariants.{AnswerJob, BecomeExclusive, BecomeShared, GrantJob, Nothing, ReadFor, WriteBlock, WriteLeader}
use Rattle.sl_trace.specs.declared.lease.LeaseNext.{LeaseNext}
use Rattle.sl_trace.specs.declared.input.Input.TheVariants.{Line, Wake}
use Rattle.sl_trace.specs.declared.reply.Limited.TheVariants.{Turn as TurnLimit}
use Rattle.sl_trace.specs.declared.reply.Reply.TheVariants.{Limit as LimitReached}
use Rattle.sl_trace.specs.declared.reply.Reply.{Reply}
use Rattle.sl_trace.specs.declared.session.Session.{Session}
use Rattle.sl_words.proofs.CaseLaws.{false_is_true, none_some, true_is_false}
use Rattle.std.proofs.Common.{ap, arith, refl, subst, sym, ◌∙◌}
use Rattle.std.specs.Option.{option_map_or}
use Rattle.std.specs.Prelude.{Contains, IsTrue, List, None, Option, Some, [], bytes_eq, false, filter, option_and_then, true, ℕ, ◌&&◌, ◌+◌, ◌==◌, ◌≡◌, ◌≤◌}

-- Where the session's lease writes a block next, the block's record there has a spelling.
abbrev pub RecordsFit : Setting → Trace → Session → Spot → LeaseNext → Type 0
RecordsFit st t s at n = writes_own_block n ≡ true → (b : Block) → IsBlock b → IsRecord (next_record st t s at b)

-- ---- turns

-- A block that is still written after the limit of turns was looked at has its turn within it.
turn_fits : (p : LeasePlace) (k : LeaseKnown) (aim : Aim) (n : LeaseNext) → writes_own_block (within_turn p k aim n) ≡ true → TurnFits p k
turn_fits p k aim n =
    within_cases (λ z. writes_own_block z ≡ true → TurnFits p k) p k aim n (λ fits. fits) (λ paired over writes. refused aim) where
      refused : (a : Aim) → writes_own_block (refuses a (LimitReached TurnLimit)) ≡ true → TurnFits p k
      refused (Acquires mode) is = absurd (false_is_true is)
      refused (Converts mode) is = absurd (false_is_true is)
      refused Releases is = absurd (false_is_true is)
      refused Settles is = absurd (false_is_true is)

one_more : (n : ℕ) → 1 ≤ n + 1
one_more n = omega arith

-- ---- records

record_fits : (st : Setting) (t : Trace) (s : Session) (at : Spot) → IsTrue (is_name s.lockspace) → IsTrue (is_name (name_on st t s at)) → TurnFits (lease_place st s) (known st t s at) → (b : Block) → IsBlock b
    → IsRecord (next_record st t s at b)
unfolding known
record_fits st t s at space name fits b good =
    block_spelled st.layout (next_turn st t s at) s.lockspace (name_on st t s at) b good
    (λ paired. record { block = good; turn = (one_more (base_turn st.layout s.id (lease_calls st t s at)), fits_it (next_turn st t s at) (fits paired)); lockspace = space; resource = name })

-- The name that a lease writes.
name_fits : (st : Setting) (t : Trace) (s : Session) (at : Spot) → IsSetting st → Contains (sessions st t) s → Ways (way_context st t s) (lease_calls st t s at) → IsVerified (way_context st t s) (lease_calls st t s at)
    → IsTrue (is_name (name_on st t s at))
name_fits st t s at setting there ways verified = named_well st t s at (name_on st t s at) setting there (has_verified st t s at ways verified)

-- ---- who writes a block has verified the name

no_record : (x : Moment) (b : Block) (n : ℕ) → WriteRecord (record_at x b) ≡ ReadSectors n → ⊥
no_record x b n is = none_some (record_at x b) (sym (ap (λ o. record_of o) is))

no_leader : (x : Moment) (b : Block) (l : Leader) → WriteRecord (record_at x b) ≡ WriteRecord (leader_record x.setting.layout l) → ⊥
no_leader x b l is =
    none_some b (sym (leader_no_block x.setting.layout l) ∙ (ap (λ o. option_and_then block_of_record (record_of o)) (sym is)
    ∙ block_recorded x.setting.layout (next_turn x.setting x.trace x.session x.at) x.session.lockspace (name_on x.setting x.trace x.session x.at) b))

verified_next : (x : Moment) (b : Block) (step : LeaseStep) → Ways (context_at x) (calls_at x) → BlockIsNext x b step → IsVerified (context_at x) (calls_at x)
verified_next x b step ways next = by step next where
  made : LeaseStep → Call
  made q = record { number = 0; session = 0; purpose = Lease x.work q; path = []; offset = 0; op = WriteRecord (record_at x b) }

  own : (o : Block) → block_submitted (calls_at x) ≡ Some o → IsVerified (context_at x) (calls_at x)
  own o is = is_verified (context_at x) (calls_at x) ways o is

  by : (q : LeaseStep) → BlockIsNext x b q → IsVerified (context_at x) (calls_at x)
  by Phase1Write n = n.1
  by Phase2Write n = let way = n (made Phase2Write) refl in own way.own (clear_own (context_at x) x.work (made Phase2Write) (calls_at x) ways way)
  by SetMode n = let way = n (made SetMode) refl in own way.own way.known
  by ClearMode n = let way = n (made ClearMode) refl in own way.own way.known
  by (ReadArea name) n = absurd (no_record x b _ (n (made (ReadArea name)) refl))
  by ReadBeforeFree n = absurd (no_record x b _ (n (made ReadBeforeFree) refl).reads)
  by ReadBeforeBlock n = absurd (no_record x b _ (n (made ReadBeforeBlock) refl).reads)
  by (ReadAgain read) n = absurd (no_record x b _ (n (made (ReadAgain read)) refl).reads)
  by Phase1Read n = absurd (no_record x b _ (n (made Phase1Read) refl).reads)
  by Phase2Read n = absurd (no_record x b _ (n (made Phase2Read) refl).reads)
  by TakeLeader n = let way = n (made TakeLeader) refl in absurd (no_leader x b way.leader way.wrote)
  by FreeLeader n = let way = n (made FreeLeader) refl in absurd (no_leader x b way.leader way.wrote)

next_verified : (x : Moment) (n : LeaseNext) → Ways (context_at x) (calls_at x) → NextIs x n → writes_own_block n ≡ true → IsVerified (context_at x) (calls_at x)
next_verified x (WriteBlock step b) ways next writes = verified_next x b step ways next.0
next_verified x (BecomeExclusive lver b) ways next writes = is_verified (context_at x) (calls_at x) ways next.0 next.1
next_verified x Nothing ways next writes = absurd (false_is_true writes)
next_verified x (ReadFor step) ways next writes = absurd (false_is_true writes)
next_verified x (WriteLeader step l) ways next writes = absurd (false_is_true writes)
next_verified x (AnswerJob r) ways next writes = absurd (false_is_true writes)
next_verified x (GrantJob mode lver) ways next writes = absurd (false_is_true writes)
next_verified x (BecomeShared lver l) ways next writes = absurd (false_is_true writes)

-- ---- after an answer, and on a wake

decided_fits : (x : Step) (s : Session) (at : Spot) (work : Work) (aim : Aim) (n : LeaseNext) → Whole x → Contains (sessions x.setting (seen x)) s → Ways (way_context x.setting (seen x) s) (lease_calls x.setting (seen x) s at)
    → NextIs (moment_of x s at work) (within_turn (lease_place x.setting s) (known x.setting (seen x) s at) aim n)
    → RecordsFit x.setting (seen x) s at (within_turn (lease_place x.setting s) (known x.setting (seen x) s at) aim n)
decided_fits x s at work aim n w inside ways next = λ writes b good.
    let verified : IsVerified (way_context x.setting (seen x) s) (lease_calls x.setting (seen x) s at) =
    next_verified (moment_of x s at work) (within_turn (lease_place x.setting s) (known x.setting (seen x) s at) aim n) ways next writes
    in
    record_fits x.setting (seen x) s at (session_named_well x.setting (seen x) s w.setting inside) (name_fits x.setting (seen x) s at w.setting inside ways verified)
    (turn_fits (lease_place x.setting s) (known x.setting (seen x) s at) aim n writes) b good

pub answers_fit : (x : Step) (s : Session) (work : Work) (step : LeaseStep) (m : Submitted) (answer : Answer) (aim : Aim) → Whole x → Hears x s m answer → m.call.purpose ≡ Lease work step
    → goes_on x.setting (seen x) s work ≡ true → aim_of x.setting (seen x) work ≡ Some aim
    → RecordsFit x.setting (seen x) s (spot_of_call x.setting.layout m) (next_of_lease x.setting (seen x) s (spot_of_call x.setting.layout m) aim m step answer)
answers_fit x s work step m answer aim w h is on aimed =
    let inside = there_has x.setting (seen x) s.number s (heard_has x s m answer h) in
    decided_fits x s (spot_of_call x.setting.layout m) work aim _ w inside (w.facts.ways.each s (spot_of_call x.setting.layout m) inside (spot_aligned x.setting.layout.area m.call.offset))
    (heard_fits x s work step m answer aim h is on aimed w)

pub settlings_fit : (x : Step) (s : Session) (at : Spot) → Whole x → Contains (sessions x.setting (seen x)) s → IsAligned x.setting at → RecordsFit x.setting (seen x) s at (next_of_settling x.setting (seen x) s at)
settlings_fit x s at w inside aligned =
    let ways = w.facts.ways.each s at inside aligned in decided_fits x s at Settling Settles _ w inside ways (settling_fits x s at ways)

-- ---- at a line

-- At a line a block is written only where one was submitted before.
lined_fits : (x z : Step) (s : Session) (at : Spot) (aim : Aim) (n : LeaseNext) → Whole x → Contains (sessions x.setting (seen x)) s → IsAligned x.setting at → z.setting ≡ x.setting → submitted (seen z) ≡ submitted (seen x)
    → (writes_own_block (within_turn (lease_place z.setting s) (known z.setting (seen z) s at) aim n) ≡ true → (own : Block) × (block_submitted (lease_calls z.setting (seen z) s at) ≡ Some own))
    → RecordsFit z.setting (seen z) s at (within_turn (lease_place z.setting s) (known z.setting (seen z) s at) aim n)
lined_fits x z s at aim n w inside aligned setting same written = λ writes b good.
    record_fits z.setting (seen z) s at (session_named_well x.setting (seen x) s w.setting inside) (named (written writes)) (turn_fits (lease_place z.setting s) (known z.setting (seen z) s at) aim n writes) b good
  where
    calls_by : Setting → List Submitted → List Submitted
    calls_by st ms = filter (λ (m : Submitted). is_lease_call m && is_on st.layout at m.call) (filter (is_call_of s) ms)

    calls : lease_calls z.setting (seen z) s at ≡ lease_calls x.setting (seen x) s at
    calls = ap (λ st. calls_by st (submitted (seen z))) setting ∙ ap (λ ms. calls_by x.setting ms) same

    ways : Ways (way_context x.setting (seen x) s) (lease_calls x.setting (seen x) s at)
    ways = w.facts.ways.each s at inside aligned

    named : (own : Block) × (block_submitted (lease_calls z.setting (seen z) s at) ≡ Some own) → IsTrue (is_name (name_on z.setting (seen z) s at))
    named o =
        subst (λ name. IsTrue (is_name name))
        (sym (ap (λ (st : Setting). verified_name st.layout s.lockspace (lease_calls z.setting (seen z) s at)) setting ∙ ap (λ ms. verified_name x.setting.layout s.lockspace ms) calls))
        (name_fits x.setting (seen x) s at w.setting inside ways (is_verified (way_context x.setting (seen x) s) (lease_calls x.setting (seen x) s at) ways o.0 (ap (λ ms. block_submitted ms) (sym calls) ∙ o.1)))

own_of : (o : Option Block) (f : Block → LeaseNext) → writes_own_block (option_map_or f o Nothing) ≡ true → (own : Block) × (o ≡ Some own)
own_of None f writes = absurd (false_is_true writes)
own_of (Some own) f writes = (own, refl)

refused_none : (aim : Aim) (r : Reply) → writes_own_block (refuses aim r) ≡ false
refused_none (Acquires mode) r = refl
refused_none (Converts mode) r = refl
refused_none Releases r = refl
refused_none Settles r = refl

-- A session that a command found, and where it holds something.
ready_inside : (x : Step) (s : Session) (r : ResourceArg) → IsReady x.setting (seen x) s r → Contains (sessions x.setting (seen x)) s
ready_inside x s r ready =
    (present_is x.setting (seen x) s (find_inside (λ (z : Session). bytes_eq z.lockspace r.lockspace) (present_sessions x.setting (seen x)) s ready.named).0).0

held_aligned : (x : Step) (s : Session) (at : Spot) (g : Grant) → Whole x → Contains (holdings_on (seen x) s at) g → IsAligned x.setting (spot_of_grant g) × (spot_of_grant g ≡ at)
held_aligned x s at g w held =
    let on = kept_inside (λ (z : Grant). same_place z.path z.offset at.path at.base) (holdings_of (seen x) s) g held in
    let mine = kept_inside (λ (z : Grant). z.session == s.number) (holdings (seen x)) g on.0 in
    (base_aligned x g (w.facts.holdings.owned g mine.0).4, spot_is g at on.1)

-- The own block that a release clears.
pub releases_fit : (x : Step) (text : List ℕ) (s : Session) (g : Grant) → (c : Command) → x.input ≡ Wake → x.effects.calls ≡ [] → Whole x → GiveUpGrounds x.setting (seen x) c s g
    → let z : Step = add_end (end_of g) (with_input (Line text) x) in RecordsFit z.setting (seen z) s (spot_of_grant g) (next_of_release z.setting (seen z) s (spot_of_grant g) g)
unfolding known
releases_fit x text s g c wake bare w u =
    lined_fits x z s (spot_of_grant g) Releases (release_next (lease_place z.setting s) (known z.setting (seen z) s (spot_of_grant g)) g.mode g.lver) w (ready_inside x s u.resource u.ready) (held_aligned x s (spot_of u.resource) g w u.held).0 refl (calls_lined x text wake bare)
    (within_cases (λ n. writes_own_block n ≡ true → (own : Block) × (block_submitted (lease_calls z.setting (seen z) s (spot_of_grant g)) ≡ Some own)) (lease_place z.setting s) (known z.setting (seen z) s (spot_of_grant g)) Releases _
    (λ fits writes. by g.mode writes) (λ paired over before writes. absurd (true_is_false (sym writes ∙ refused_none Releases (LimitReached TurnLimit)))))
  where
    z : Step
    z = add_end (end_of g) (with_input (Line text) x)

    by : (mode : Mode) → writes_own_block (release_next (lease_place z.setting s) (known z.setting (seen z) s (spot_of_grant g)) mode g.lver) ≡ true
        → (own : Block) × (block_submitted (lease_calls z.setting (seen z) s (spot_of_grant g)) ≡ Some own)
    by Exclusive writes = absurd (false_is_true writes)
    by Shared writes = own_of (block_submitted (lease_calls z.setting (seen z) s (spot_of_grant g))) _ writes

-- The own block that a conversion gives the shared mode.
pub conversions_fit : (x : Step) (text : List ℕ) (s : Session) (r : ResourceArg) (mode : Mode) (c : Command) → x.input ≡ Wake → x.effects.calls ≡ [] → Whole x → ConvertGrounds x.setting (seen x) c s r mode
    → let z : Step = with_input (Line text) x in RecordsFit z.setting (seen z) s (spot_of r) (next_of_conversion z.setting (seen z) s (spot_of r) mode r.name)
unfolding known
conversions_fit x text s r mode c wake bare w u =
    lined_fits x z s at (Converts mode) (convert_next (known z.setting (seen z) s at) mode r.name) w (ready_inside x s r u.ready) (subst (λ q. IsAligned x.setting q) place.1 place.0) refl (calls_lined x text wake bare)
    (within_cases (λ n. writes_own_block n ≡ true → (own : Block) × (block_submitted (lease_calls z.setting (seen z) s at) ≡ Some own)) (lease_place z.setting s) (known z.setting (seen z) s at) (Converts mode) _
    (λ fits writes. by mode writes) (λ paired over before writes. absurd (true_is_false (sym writes ∙ refused_none (Converts mode) (LimitReached TurnLimit)))))
  where
    z : Step
    z = with_input (Line text) x

    at : Spot
    at = spot_of r

    place : IsAligned x.setting (spot_of_grant u.holding) × (spot_of_grant u.holding ≡ at)
    place = held_aligned x s at u.holding w (find_inside (λ (q : Grant). q.process == u.process && true) (holdings_on (seen x) s at) u.holding u.held).0

    by : (mode : Mode) → writes_own_block (convert_next (known z.setting (seen z) s at) mode r.name) ≡ true → (own : Block) × (block_submitted (lease_calls z.setting (seen z) s at) ≡ Some own)
    by Exclusive writes = absurd (false_is_true writes)
    by Shared writes = own_of (block_submitted (lease_calls z.setting (seen z) s at)) _ writes
