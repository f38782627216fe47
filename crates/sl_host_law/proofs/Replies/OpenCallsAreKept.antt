-- What is asked of a session's calls without an answer, where these are kept: any list that they are kept in, the oldest first, answers it.
use Rattle.sl_host_law.proofs.SharedFacts.PlainLists.{any_as, any_mapped}
use Rattle.sl_host_state.specs.HostStands.{kept_call, sectors_of}
use Rattle.sl_host_state.specs.declared.kept_parts.OpenCall.{OpenCall}
use Rattle.sl_host_law.proofs.Replies.PlainFilters.{any_kept, any_reversed, filters_turned}
use Rattle.sl_trace.specs.Sessions.{has_open_delta, has_open_write, is_call_of, is_delta_purpose}
use Rattle.sl_trace.specs.declared.session.Session.{Session}
use Rattle.sl_trace.specs.Traces.{Submitted, Trace, is_write, outstanding, submitted}
use Rattle.sl_trace.specs.declared.effects.Op.TheVariants.{ReadSectors, WriteRecord}
use Rattle.sl_trace.specs.declared.effects.Op.{Op}
use Rattle.std.proofs.Common.{ap, refl, sym, ◌∙◌}
use Rattle.std.specs.List.{list_any}
use Rattle.std.specs.Prelude.{Bool, List, filter, is_none, map, reverse, ◌&&◌, ◌==◌, ◌≡◌}

-- What is asked of the kept calls is asked of the calls.
pub open_is : (p : OpenCall → Bool) (es : Trace) (cs : List OpenCall) → map kept_call (outstanding es) ≡ reverse cs → list_any (λ m. p (kept_call m)) (outstanding es) ≡ list_any p cs
open_is p es cs kept = sym (any_mapped p kept_call (outstanding es)) ∙ ap (list_any p) kept ∙ any_reversed p cs

-- Of a session's.
pub own_open : (p : Submitted → Bool) (es : Trace) (s : Session) → list_any p (filter (λ m. is_none m.answer) (filter (is_call_of s) (submitted es))) ≡ list_any (λ m. is_call_of s m && p m) (outstanding es)
own_open p es s = ap (list_any p) (filters_turned (λ (m : Submitted). is_none m.answer) (is_call_of s) (submitted es)) ∙ any_kept p (is_call_of s) (outstanding es)

pub open_delta_is : (es : Trace) (s : Session) (cs : List OpenCall) → map kept_call (outstanding es) ≡ reverse cs
    → has_open_delta es s ≡ list_any (λ c. c.session == s.number && is_delta_purpose c.purpose) cs
open_delta_is es s cs kept =
    own_open (λ m. is_delta_purpose m.call.purpose) es s ∙ open_is (λ c. c.session == s.number && is_delta_purpose c.purpose) es cs kept

reads_or_writes : (op : Op) → is_write op ≡ is_none (sectors_of op)
reads_or_writes (ReadSectors n) = refl
reads_or_writes (WriteRecord r) = refl

pub open_write_is : (es : Trace) (s : Session) (cs : List OpenCall) → map kept_call (outstanding es) ≡ reverse cs
    → has_open_write es s ≡ list_any (λ c. c.session == s.number && is_none c.sectors) cs
open_write_is es s cs kept =
    own_open (λ m. is_write m.call.op) es s
    ∙ any_as (λ m. is_call_of s m && is_write m.call.op) (λ m. is_call_of s m && is_none (sectors_of m.call.op)) (outstanding es) (λ m. ap (λ b. is_call_of s m && b) (reads_or_writes m.call.op))
    ∙ open_is (λ c. c.session == s.number && is_none c.sectors) es cs kept
