-- The whole of an answer to a read of all ids: a recovery may begin by it, and requests are read where the session is asked.
use Rattle.sl_host_law.specs.Answers.AnswersFollow.{IsAnswerTo}
use Rattle.sl_host_law.specs.Answers.Requests.{Follows, on_given}
use Rattle.sl_area.specs.AreaSizes.{Layout}
use Rattle.sl_area.specs.AreaLayout.{delta_of, request_offset}
use Rattle.sl_host_state.specs.HeardInputs.{heard_answer, member_hearing}
use Rattle.sl_host_state.specs.KeptState.{HostState, MemberState}
use Rattle.sl_host_state.specs.MadeEffects.{with_call}
use Rattle.sl_host_state.specs.declared.kept_parts.OpenCall.{OpenCall}
use Rattle.sl_host_law.specs.StepParts.Refusals.{signalling_and_refusing}
use Rattle.sl_host_law.specs.StepParts.Signals.{over}
use Rattle.sl_due.specs.Steps.{Step}
use Rattle.sl_host_law.specs.Questions.Members.{begins_by_read_in}
use Rattle.sl_sector.specs.Bitmaps.{is_bit_set}
use Rattle.sl_trace.specs.declared.session.Session.{Session}
use Rattle.sl_trace.specs.Traces.{is_shared, same_place}
use Rattle.sl_trace.specs.declared.effects.Grant.{Grant}
use Rattle.sl_trace.specs.declared.effects.Op.TheVariants.{ReadSectors}
use Rattle.sl_trace.specs.declared.effects.Purpose.TheVariants.{SeeRequest, Survey}
use Rattle.sl_trace.specs.declared.effects.Spot.{Spot}
use Rattle.sl_trace.specs.declared.input.Answer.{Answer}
use Rattle.sl_words.specs.Words.{some_is}
use Rattle.std.specs.List.{list_any, range_with_len}
use Rattle.std.specs.Prelude.{Bool, List, None, Option, Some, cond, false, filter, find, map, not, ℕ, ◌==◌, ◌≡◌}

-- Whether some id's record has the session's bit.
abbrev pub is_asked_by : Layout → Session → List ℕ → Bool
is_asked_by g s bytes = list_any (λ id. some_is (λ d. is_bit_set d.bitmap s.id) (delta_of g bytes id)) (range_with_len 1 g.hosts)

-- The exclusive holding of the session's lease on this area.
abbrev pub exclusive_of : HostState → Session → Spot → Option Grant
exclusive_of h s at =
    find (λ g. not (is_shared g.mode)) (filter (λ g. same_place g.path g.offset at.path at.base) (filter (λ g. g.session == s.number) h.holdings))

-- The request sector under it is read.
abbrev pub reading_request : Session → Grant → HostState → HostState
reading_request s g h = with_call s.number g.path SeeRequest (request_offset h.config.layout g.offset) (ReadSectors 1) h

abbrev pub reading_request_on : Session → Spot → HostState → HostState
reading_request_on s at h = elim (exclusive_of h s at) [ None ↦ h | Some g ↦ reading_request s g h ]

-- Under each of its leases.
abbrev pub reading_requests : MemberState → HostState → HostState
reading_requests m h = over (map (λ l. l.spot) m.leases) (reading_request_on m.who) h

-- Where recovery begins by what the read showed.
abbrev pub recovering_by_read : MemberState → HostState → HostState
recovering_by_read m h = cond (begins_by_read_in h m.renewing.recovery) (signalling_and_refusing m None h) h

-- After a read of all ids.
abbrev pub surveyed_in : MemberState → List ℕ → HostState → HostState
surveyed_in m bytes h =
    cond m.joined (cond (is_asked_by h.config.layout m.who bytes) (reading_requests m (recovering_by_read m h)) (recovering_by_read m h)) h

abbrev pub SurveysFollow : Type 0
SurveysFollow =
    (number : ℕ) (c : OpenCall) (a : Answer) (h : HostState) (x : Step) (k : ℕ) (m : MemberState) → IsAnswerTo number c a h x k m → m.refused ≡ false → c.purpose ≡ Survey
    → Follows number a h x (on_given a (surveyed_in (member_hearing h c a m)) (heard_answer number a h))
