-- Each open call asks as many sectors as its purpose says: by the laws, and of those that no law speaks of by what each act keeps.
use Rattle.sl_due_facts.proofs.Acts.StepsKeep.{begun_bare, step_keeps}
use Rattle.sl_due.specs.Due.{IsHostTrace, due}
use Rattle.sl_due.specs.DueRecovery.{begin_recoveries}
use Rattle.sl_due.specs.Steps.{begin_step, seen}
use Rattle.sl_host_law.proofs.Answers.AnswersSetFree.{of_trace}
use Rattle.sl_host_law.proofs.SharedFacts.SessionNumbers.{placed_by_number}
use Rattle.sl_host_state.specs.KeptState.{Config}
use Rattle.sl_host_state.specs.HostStands.{sectors_of}
use Rattle.sl_host_state.specs.declared.kept_parts.OpenCall.{OpenCall}
use Rattle.sl_run.specs.LawfulArea.{IsRightRead, LawfulArea}
use Rattle.sl_run.specs.LawfulCalls.{LawfulCalls}
use Rattle.sl_run.specs.LawfulDelta.{LawfulDeltaCall}
use Rattle.sl_run.specs.Lawful.{Orderly}
use Rattle.sl_trace.specs.Leases.{spot_of_call}
use Rattle.sl_words.proofs.Lists.{got_inside, kept_inside}
use Rattle.sl_words.proofs.Options.{some_of}
use Rattle.sl_sector.specs.declared.sector.DeltaRec.{DeltaRec}
use Rattle.sl_trace.specs.Sessions.{delta_written, session_numbered}
use Rattle.sl_trace.specs.declared.session.Session.{Session}
use Rattle.sl_step_law.proofs.AsksAreKept.{AllAsk, asks_are_kept, bare_ask}
use Rattle.sl_step_law.specs.SectorsAsked.{AsksLone, CallsAsk, sectors_asked}
use Rattle.sl_trace.specs.Traces.{EachEntry, Setting, Submitted, Trace, is_write, new_call, submitted}
use Rattle.sl_trace.specs.declared.effects.Call.{Call}
use Rattle.sl_trace.specs.declared.effects.Effects.{Effects}
use Rattle.sl_trace.specs.declared.effects.Entry.{Entry}
use Rattle.sl_trace.specs.declared.effects.JoinStep.TheVariants.{ClaimWrite, DecidingRead, FirstRead, FirstRenewal, VerifyRead, WatchRead}
use Rattle.sl_trace.specs.declared.effects.LeaseRead.TheVariants.{OfArea, OfBlock, OfFree, OfPhase1, OfPhase2}
use Rattle.sl_trace.specs.declared.effects.LeaseStep.TheVariants.{ClearMode, FreeLeader, Phase1Read, Phase1Write, Phase2Read, Phase2Write, ReadAgain, ReadArea, ReadBeforeBlock, ReadBeforeFree, SetMode, TakeLeader}
use Rattle.sl_trace.specs.declared.effects.Op.TheVariants.{ReadSectors, WriteRecord}
use Rattle.sl_trace.specs.declared.effects.Op.{Op}
use Rattle.sl_trace.specs.declared.effects.Purpose.TheVariants.{Joining, Lease, Leaving, Renewal, RequestRead, RequestWrite, SeeRequest, Survey, ValueRead, ValueWrite}
use Rattle.sl_trace.specs.declared.effects.Purpose.{Purpose}
use Rattle.sl_run_law.proofs.Sessions.CallsAreMade.{calls_are_made}
use Rattle.sl_run_law.proofs.Sessions.CallOwners.{calls_were_lawful}
use Rattle.sl_run_law.specs.Sessions.SessionLaws.{IsMade, front_of, made_as}
use Rattle.sl_words.proofs.CaseLaws.{false_is_true, none_some}
use Rattle.std.proofs.Common.{ap, refl, subst, sym, ◌∙◌}
use Rattle.std.specs.Prelude.{Contains, IsSome, IsTrue, None, Some, is_none, length, [], ◌++◌, ◌∷◌, ◌≡◌}

-- ---- of each trace

-- The entry's calls ask as they do.
abbrev pub Asks : Trace → Entry → Type 0
Asks past e = (c : Call) → Contains e.effects.calls c → AsksLone c.purpose c.op

entry_asks : (st : Setting) (past : Trace) (e : Entry) → IsHostTrace st (e ∷ past) → Asks past e
unfolding due
entry_asks st past e h c there =
    step_keeps AllAsk asks_are_kept st past e.reading e.input h.0.0.expected (bare_ask (begin_recoveries (begin_step st past e.reading)) (begun_bare st past e.reading).1.0) c
    (subst (λ (fx : Effects). Contains fx.calls c) h.1.0 there)

pub traces_ask : (st : Setting) (es : Trace) → IsHostTrace st es → EachEntry Asks es
traces_ask st [] h = tt
traces_ask st (e ∷ past) h = (entry_asks st past e h, traces_ask st past (h.0.1, h.1.1))

-- What is said of each entry is said of the one that made a call.
pub made_by : (P : Trace → Entry → Type 0) (later : Trace) (e : Entry) (past : Trace) → EachEntry P (later ++ e ∷ past) → P past e
made_by P [] e past h = h.0
made_by P (f ∷ later) e past h = made_by P later e past h.1

-- ---- what writes reads no sectors

-- The call with this for what it does.
abbrev with_op : Submitted → Op → Submitted
with_op e o = let q : Call = e.call in record e { call = record q { op = o } }

writes_delta : (m : Submitted) (op : Op) (d : DeltaRec) → m.call.op ≡ op → delta_written m ≡ Some d → sectors_of op ≡ None
writes_delta m (ReadSectors n) d is wrote = absurd (none_some d (sym (ap (λ o. delta_written (with_op m o)) is) ∙ wrote))
writes_delta m (WriteRecord r) d is wrote = refl

writes_none : (op : Op) → IsTrue (is_write op) → sectors_of op ≡ None
writes_none (ReadSectors n) is = absurd (false_is_true is)
writes_none (WriteRecord r) is = refl

-- ---- an open call

module _ (st : Setting) (t : Trace) (s : Session) (m : Submitted) (order : Orderly st t) (asks : EachEntry Asks t) (there : Contains (submitted t) m) (its : session_numbered st t s.number ≡ Some s) (mine : m.call.session ≡ s.number) where
  made : IsMade t m
  made = calls_are_made t m there

  lone : AsksLone m.call.purpose m.call.op
  lone = made_by Asks made.later made.entry made.past (subst (EachEntry Asks) made.whole asks) m.call (got_inside made.entry.effects.calls made.index m.call made.call)

  delta : (p : Purpose) → m.call.purpose ≡ p → LawfulDeltaCall st (front_of (calls_were_lawful st t s m order its there mine).made) s (made_as (calls_were_lawful st t s m order its there mine).made) p
  delta p is =
      let was = calls_were_lawful st t s m order its there mine in
      subst (λ q. LawfulDeltaCall st (front_of was.made) s (made_as was.made) q) is was.lawful

  wrote : (d : DeltaRec) → delta_written (made_as (calls_were_lawful st t s m order its there mine).made) ≡ Some d → sectors_of m.call.op ≡ None
  wrote d is = writes_delta (made_as (calls_were_lawful st t s m order its there mine).made) m.call.op d refl is

  area : (p : Purpose) → m.call.purpose ≡ p → IsRightRead st (spot_of_call st.layout (new_call (length made.past) made.entry.reading m.call)) (new_call (length made.past) made.entry.reading m.call) p
  area p is =
      let law = made_by (LawfulArea st) made.later made.entry made.past (subst (EachEntry (LawfulArea st)) made.whole order.area) in
      subst (λ q. IsRightRead st (spot_of_call st.layout (new_call (length made.past) made.entry.reading m.call)) (new_call (length made.past) made.entry.reading m.call) q) is
      (law.reads made.index m.call owner.0 made.call owner.1) where
        owner : (z : Session) × (session_numbered st (made.entry ∷ made.past) m.call.session ≡ Some z)
        owner =
            let calls = made_by (LawfulCalls st) made.later made.entry made.past (subst (EachEntry (LawfulCalls st)) made.whole order.calls) in
            some_of (session_numbered st (made.entry ∷ made.past) m.call.session) (calls.owned m.call (got_inside made.entry.effects.calls made.index m.call made.call))

  asked : (p : Purpose) → m.call.purpose ≡ p → sectors_of m.call.op ≡ sectors_asked st.layout p
  asked (Joining j FirstRead) is = ap sectors_of (delta (Joining j FirstRead) is).reads
  asked (Joining j WatchRead) is = ap sectors_of (delta (Joining j WatchRead) is).reads
  asked (Joining j DecidingRead) is = ap sectors_of (delta (Joining j DecidingRead) is).reads
  asked (Joining j ClaimWrite) is = wrote _ (delta (Joining j ClaimWrite) is).written
  asked (Joining j VerifyRead) is = ap sectors_of (delta (Joining j VerifyRead) is).reads
  asked (Joining j FirstRenewal) is = wrote _ (delta (Joining j FirstRenewal) is).written
  asked Renewal is = wrote _ (delta Renewal is).written
  asked Survey is = ap sectors_of (delta Survey is).whole.2
  asked (Leaving j) is = wrote _ (delta (Leaving j) is).written
  asked (Lease work (ReadArea name)) is = ap sectors_of (area (Lease work (ReadArea name)) is).1
  asked (Lease work Phase1Write) is = writes_none m.call.op (area (Lease work Phase1Write) is)
  asked (Lease work Phase1Read) is = ap sectors_of (area (Lease work Phase1Read) is).1
  asked (Lease work Phase2Write) is = writes_none m.call.op (area (Lease work Phase2Write) is)
  asked (Lease work Phase2Read) is = ap sectors_of (area (Lease work Phase2Read) is).1
  asked (Lease work TakeLeader) is = writes_none m.call.op (area (Lease work TakeLeader) is)
  asked (Lease work SetMode) is = writes_none m.call.op (area (Lease work SetMode) is)
  asked (Lease work FreeLeader) is = writes_none m.call.op (area (Lease work FreeLeader) is)
  asked (Lease work ClearMode) is = writes_none m.call.op (area (Lease work ClearMode) is)
  asked (Lease work ReadBeforeFree) is = ap sectors_of (area (Lease work ReadBeforeFree) is).1
  asked (Lease work ReadBeforeBlock) is = ap sectors_of (area (Lease work ReadBeforeBlock) is).1.1
  asked (Lease work (ReadAgain (OfArea name))) is = ap sectors_of (area (Lease work (ReadAgain (OfArea name))) is).1.1
  asked (Lease work (ReadAgain OfFree)) is = ap sectors_of (area (Lease work (ReadAgain OfFree)) is).1.1
  asked (Lease work (ReadAgain OfBlock)) is = ap sectors_of (area (Lease work (ReadAgain OfBlock)) is).1.1
  asked (Lease work (ReadAgain OfPhase1)) is = ap sectors_of (area (Lease work (ReadAgain OfPhase1)) is).1.1
  asked (Lease work (ReadAgain OfPhase2)) is = ap sectors_of (area (Lease work (ReadAgain OfPhase2)) is).1.1
  asked (RequestRead j) is = ap sectors_of (area (RequestRead j) is).1
  asked (RequestWrite j owner) is = subst (λ p. AsksLone p m.call.op) is lone
  asked SeeRequest is = subst (λ p. AsksLone p m.call.op) is lone
  asked (ValueWrite j) is = subst (λ p. AsksLone p m.call.op) is lone
  asked (ValueRead j) is = subst (λ p. AsksLone p m.call.op) is lone

-- Each call of a trace.
pub trace_asks : (st : Setting) (t : Trace) (m : Submitted) → Orderly st t → EachEntry Asks t → Contains (submitted t) m → IsSome (session_numbered st t m.call.session) → sectors_of m.call.op ≡ sectors_asked st.layout m.call.purpose
trace_asks st t m order asks there owned =
    let s = some_of (session_numbered st t m.call.session) owned in
    let number : s.0.number ≡ m.call.session = placed_by_number st t m.call.session s.0 s.1 in
    asked st t s.0 m order asks there (ap (session_numbered st t) number ∙ s.1) (sym number) m.call.purpose refl

pub calls_ask : CallsAsk
calls_ask h x c r open_c =
    let d = of_trace h x.setting (seen x) c r.stands.keeps open_c in
    let inside = kept_inside (λ (z : Submitted). is_none z.answer) (submitted (seen x)) d.0 d.1 in
    let bare : x.effects.calls ≡ [] = ap (λ (fx : Effects). fx.calls) r.stands.made ∙ r.early.at.calls in
    let asks : EachEntry Asks (seen x) = (bare_ask x bare, traces_ask x.setting x.past r.stands.past) in
    ap (λ (z : OpenCall). z.sectors) (sym d.2)
    ∙ trace_asks x.setting (seen x) d.0 r.kept.known.0.orderly asks inside.0 (r.kept.known.0.facts.calls.owned d.0 inside.0)
    ∙ ap (λ (g : Config). sectors_asked g.layout d.0.call.purpose) r.stands.keeps.config
    ∙ ap (λ (z : OpenCall). sectors_asked h.config.layout z.purpose) d.2
