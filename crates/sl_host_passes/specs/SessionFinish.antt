-- What comes last of a session, as it is found before it is done.
use Rattle.sl_host_law.specs.Answers.CarriedDecisions.{carrying}
use Rattle.sl_host_law.specs.Decisions.CommandDecisions.{held_of}
use Rattle.sl_host_law.specs.StepParts.Wakes.{delta_in}
use Rattle.sl_host_law.specs.Questions.Members.{has_call_open}
use Rattle.sl_host_state.specs.KeptState.{HostState, MemberState}
use Rattle.sl_host_state.specs.MadeEffects.{has_write_open}
use Rattle.sl_trace.specs.DeltaDecisions.{next_free}
use Rattle.sl_trace.specs.declared.delta.DeltaNext.TheVariants.{Disconnect, Nothing, WriteFree}
use Rattle.sl_trace.specs.declared.delta.DeltaNext.{DeltaNext}
use Rattle.sl_trace.specs.declared.session.Session.{Session}
use Rattle.sl_words.specs.Words.{is_empty}
use Rattle.std.specs.Prelude.{Bool, None, Option, Some, cond, false, is_some, not, ◌&&◌, ◌||◌}

-- In recovery: its connection goes, once it holds nothing and no write of it is unanswered.
abbrev pub ending_next : HostState → MemberState → DeltaNext
ending_next h m = cond (is_empty (held_of h m) && not (has_write_open h m.who.number)) Disconnect Nothing

-- Leaving: its free is written, once it holds nothing and no call of it is unanswered.
abbrev pub freeing_next : HostState → MemberState → DeltaNext
freeing_next h m = cond (is_empty (held_of h m) && not (has_call_open h m.who.number)) (next_free (delta_in h m) h.reading m.known) Nothing

-- Whether anything may come last of a member: it is in recovery, or it is left.
abbrev pub may_end : MemberState → Bool
may_end m = m.joined && (is_some m.renewing.recovery || is_some m.known.leaving)

abbrev pub may_end_at : Option MemberState → Bool
may_end_at None = false
may_end_at (Some m) = may_end m

abbrev pub last_next : HostState → MemberState → DeltaNext
last_next h m = cond m.joined (cond (is_some m.renewing.recovery) (ending_next h m) (freeing_next h m)) Nothing

-- The same with its session.
abbrev pub last_of : HostState → Option MemberState → Option (Session × DeltaNext)
last_of h None = None
last_of h (Some m) = Some (m.who, last_next h m)

abbrev pub lasting_on : Option (Session × DeltaNext) → HostState → HostState
lasting_on None h = h
lasting_on (Some r) h = carrying r.0 r.1 h

-- It is nothing else.
abbrev pub IsLast : DeltaNext → Type 0
IsLast Nothing = Unit {0}
IsLast Disconnect = Unit {0}
IsLast (WriteFree j d) = Unit {0}
IsLast next = ⊥
