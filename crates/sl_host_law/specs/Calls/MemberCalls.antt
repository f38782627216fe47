-- One more call of a member: what is asked of it by what is kept. Each is a test of one kind of call; of all others it says nothing.
use Rattle.sl_area.specs.AreaSizes.{Layout}
use Rattle.sl_due.specs.Steps.{add_call_of}
use Rattle.sl_host_state.specs.KeptState.{HostState, LeaseState, MemberState}
use Rattle.sl_host_state.specs.MadeEffects.{is_lease_on, next_submitted, with_call}
use Rattle.sl_host_state.specs.HostStands.{Takes, is_kept_of}
use Rattle.sl_trace.specs.Leases.{Phase2_write, block_written, is_again, is_at, is_lease_call, is_on, spot_of_call, value_written}
use Rattle.sl_trace.specs.Sessions.{delta_written, is_delta_purpose, is_join_call}
use Rattle.sl_trace.specs.Traces.{Submitted, job_of}
use Rattle.sl_trace.specs.declared.effects.JoinStep.TheVariants.{FirstRead}
use Rattle.sl_trace.specs.declared.effects.Op.{Op}
use Rattle.sl_trace.specs.declared.effects.Purpose.{Purpose}
use Rattle.sl_words.specs.Words.{is_empty, some_is}
use Rattle.std.specs.List.{list_any}
use Rattle.std.specs.Option.{option_map_or}
use Rattle.std.specs.Prelude.{Bool, IsTrue, List, Some, false, find, is_none, is_some, nat_lt, not, slice_get, true, ℕ, ◌&&◌, ◌==◌, ◌||◌, ◌≡◌}

-- Whether the job runs, and waits for no call.
abbrev pub is_idle_job : HostState → ℕ → Bool
is_idle_job h job = list_any (λ j. j.number == job && is_none j.waits) h.jobs

-- Whether the job is that of the member's leaving, and has no call open.
abbrev pub is_leaving_alone : HostState → MemberState → ℕ → Bool
is_leaving_alone h s job = some_is (λ j. j == job) s.known.leaving && not (list_any (is_kept_of job) h.unanswered)

-- A call is for a job that waits for none.
abbrev pub fits_job : HostState → MemberState → Submitted → Bool
fits_job h s c = option_map_or (λ j. is_idle_job h j || is_leaving_alone h s j) (job_of c.call.purpose) true

-- A call on the id's sector comes after the answer of the last one.
abbrev pub fits_turn : MemberState → Submitted → Bool
fits_turn s c = not (is_delta_purpose c.call.purpose && s.known.busy)

-- A session with leases keeps its generation.
abbrev pub fits_generation : MemberState → Submitted → Bool
fits_generation s c = option_map_or (λ d. d.generation == s.known.generation || is_empty s.leases) (delta_written c) true

-- A value is written on the area of a lease, and not as work on it.
abbrev pub fits_value : Layout → MemberState → Submitted → Bool
fits_value g s c = option_map_or (λ v. not (is_lease_call c) && list_any (λ l. is_on g l.spot c.call) s.leases) (value_written c) true

-- Whether phase 2 is in the instance whose greatest number is known.
abbrev pub follows_read : Submitted → LeaseState → Bool
follows_read c l =
    not (is_at Phase2_write c) || option_map_or (λ b. some_is (λ t. t.instance == b.lver) l.top) (block_written c) true

-- Of a lease the last call is answered, and phase 2 follows a read; its first call is not of phase 2.
abbrev pub fits_lease : Layout → MemberState → Submitted → Bool
fits_lease g s c =
    not (is_lease_call c)
    || nat_lt 0 g.area
    && option_map_or (λ l. is_none l.waiting && follows_read c l) (find (is_lease_on (spot_of_call g c)) s.leases) (not (is_at Phase2_write c))

-- A read is made once more only where something is kept of the answer of the first, and once.
abbrev pub fits_again : Layout → MemberState → Submitted → Bool
fits_again g s c = not (is_again c) || option_map_or (λ l. is_some l.pair.first && not l.pair.again) (find (is_lease_on (spot_of_call g c)) s.leases) false

-- The member may make the call, as far as what is kept shows.
pub record CallFits (h : HostState) (s : MemberState) (c : Submitted) : Type 0 where
  -- a session begins with its first read, which is another's
  pub later : is_join_call FirstRead c.call.purpose ≡ false
  pub job : IsTrue (fits_job h s c)
  pub turn : IsTrue (fits_turn s c)
  pub generation : IsTrue (fits_generation s c)
  pub value : IsTrue (fits_value h.config.layout s c)
  pub lease : IsTrue (fits_lease h.config.layout s c)
  pub again : IsTrue (fits_again h.config.layout s c)

-- A call that a member may make is taken.
abbrev pub CallsAreTaken : Type 0
CallsAreTaken =
    (h : HostState) (k : ℕ) (s : MemberState) (path : List ℕ) (purpose : Purpose) (offset : ℕ) (op : Op) → slice_get h.members k ≡ Some s
    → CallFits h s (next_submitted h s.who.number path purpose offset op) → Takes h (with_call s.who.number path purpose offset op h) (add_call_of s.who.number path purpose offset op)
