-- What the calls on requests and values make due.
use Rattle.sl_area.specs.AreaSizes.{Layout, record_in}
use Rattle.sl_area.specs.AreaLayout.{leader_of, read_at, request_offset}
use Rattle.sl_due.specs.DueRecovery.{send}
use Rattle.sl_due.specs.Steps.{Step, add_call_at, add_reply, seen, when, with_some}
use Rattle.sl_trace.specs.Leases.{exclusive_on, is_leader_of, spot_of_call}
use Rattle.sl_request.specs.Requests.{check_request}
use Rattle.sl_sector.specs.Bitmaps.{bitmap_of}
use Rattle.sl_sector.specs.SectorLayouts.{request_in, value_in}
use Rattle.sl_sector.specs.declared.sector.Rec.TheVariants.{RequestIs}
use Rattle.sl_trace.specs.declared.session.Session.{Session}
use Rattle.sl_time.specs.Times.{fail}
use Rattle.sl_trace.specs.Traces.{Setting, Submitted, is_ok_answer, is_orphan}
use Rattle.sl_trace.specs.declared.command.Command.TheVariants.{Request}
use Rattle.sl_trace.specs.declared.command.Command.{Command}
use Rattle.sl_trace.specs.declared.command.ResourceArg.{ResourceArg}
use Rattle.sl_trace.specs.declared.effects.Grant.{Grant}
use Rattle.sl_trace.specs.declared.effects.Op.TheVariants.{WriteRecord}
use Rattle.sl_trace.specs.declared.effects.Purpose.TheVariants.{RequestWrite}
use Rattle.sl_trace.specs.declared.effects.Purpose.{Purpose}
use Rattle.sl_trace.specs.declared.effects.Signal.TheVariants.{Kill, Term}
use Rattle.sl_trace.specs.declared.effects.Signal.{Signal}
use Rattle.sl_trace.specs.declared.reply.Reply.TheVariants.{RequestOld, TornLeader, Value, ValueTorn, WrongArea}
use Rattle.sl_trace.specs.declared.reply.Reply.{Reply}
use Rattle.sl_words.specs.Words.{choose, some_is}
use Rattle.std.specs.List.{list_any, range_with_len}
use Rattle.std.specs.Prelude.{Bool, List, None, Option, Some, false, filter, if◌then◌else◌, nat_lt, not, option_and_then, true, ℕ, ◌&&◌, ◌+◌, ◌==◌}

-- ---- requests that set bits: those answered ok less than fail ago, where the leader that they read was held

-- Whether the write was answered ok less than `fail` ago.
abbrev pub is_fresh : Setting → ℕ → Submitted → Bool
is_fresh st now m = some_is (λ a. is_ok_answer a.answer && nat_lt now (a.reading + fail st.timing)) m.answer

-- The owner that this write of a request asks, if it is one.
abbrev pub owner_asked : Purpose → Option ℕ
owner_asked (RequestWrite j owner) = owner
owner_asked p = None

-- Whether a request to this owner was answered ok less than `fail` ago.
abbrev pub is_asked : Setting → List Submitted → ℕ → ℕ → Bool
is_asked st ms now owner = list_any (λ m. some_is (λ o. o == owner) (owner_asked m.call.purpose) && is_fresh st now m) ms

-- The bits that a renewal of a session with these calls has now.
abbrev pub bits_due : Setting → List Submitted → ℕ → List ℕ
bits_due st ms now = bitmap_of (filter (is_asked st ms now) (range_with_len 1 st.layout.hosts))

-- ---- requests and values

-- The owner of the leader that was read, where it is held.
abbrev pub owner_read : Layout → List ℕ → Option ℕ
owner_read g bytes = option_and_then (λ l. choose l.held l.owner) (leader_of g bytes)

-- The request is written, to this owner; the cleared one names no host.
abbrev pub write_request : Session → ℕ → Option ℕ → ResourceArg → ℕ → ℕ → Step → Step
write_request s j owner r asked force x =
    add_call_at s r.path (RequestWrite j owner) (request_offset x.setting.layout r.offset)
    (WriteRecord (RequestIs (record { force = force; host = (if asked == 0 then 0 else s.id); lver = asked }))) x

-- What a request is refused for by the read of leader and request, if it is: a torn leader, other names, a held lver or a record that
-- is not below it. Clearing overwrites a torn record.
unfoldable pub request_refusal : Layout → List ℕ → ResourceArg → ℕ → ℕ → List ℕ → Option Reply
request_refusal g lockspace r asked force bytes =
    elim (leader_of g bytes) [
      | None ↦ Some TornLeader
      | Some l ↦ elim (is_leader_of g lockspace r.name l) [
        | false ↦ Some (WrongArea l.lockspace l.resource l.num_hosts)
        | true ↦ elim (request_in (read_at g bytes 1)) [
          | None ↦ choose (not (asked == 0)) (RequestOld l.lver None)
          | Some q ↦ choose (not (check_request l.lver q.lver asked force)) (RequestOld l.lver (Some q.lver))
        ]
      ]
    ]

-- After the read of leader and request: the request is written, or refused.
unfoldable pub after_request_read : Session → ℕ → List ℕ → Command → Step → Step
after_request_read s j bytes (Request r asked force) x =
    elim (request_refusal x.setting.layout s.lockspace r asked force bytes) [ Some why ↦ add_reply j why x | None ↦ write_request s j (owner_read x.setting.layout bytes) r asked force x ]
after_request_read s j bytes c x = x

-- The signal of a request's force.
abbrev pub signal_of_force : ℕ → Signal
signal_of_force force = if force == 1 then Kill else Term

-- The signal that the request which was read sends to this holding's process.
abbrev pub signal_of_request : Layout → List ℕ → Grant → Option Signal
signal_of_request g bytes held =
    option_and_then (λ q. choose (nat_lt held.lver q.lver) (signal_of_force q.force)) (request_in (record_in g bytes))

-- After the read of a request under an exclusive holding: its holder is signalled, or told to stop, where it asks for more. It does nothing to an orphan.
unfoldable pub after_see_request : Session → Submitted → List ℕ → Step → Step
after_see_request s m bytes x =
    with_some (exclusive_on (seen x) s (spot_of_call x.setting.layout m)) (λ g.
    when (not (is_orphan g)) (with_some (signal_of_request x.setting.layout bytes g) (send g.process))) x

-- The reply by a value's sector.
abbrev pub value_reply : Layout → List ℕ → Reply
value_reply g bytes = elim (value_in (record_in g bytes)) [ None ↦ ValueTorn | Some v ↦ Value v.lver v.seq v.bytes ]

-- After the read of a value.
unfoldable pub after_value_read : ℕ → List ℕ → Step → Step
after_value_read j bytes x = add_reply j (value_reply x.setting.layout bytes) x
