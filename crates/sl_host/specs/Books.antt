-- What a host keeps besides its members, and what its effects make of that.
use Rattle.sl_host_state.specs.KeptState.{HostKept, HostState, Made, MemberState, state_of}
use Rattle.sl_host_state.specs.declared.kept_parts.JobState.{JobState}
use Rattle.sl_host_state.specs.declared.kept_parts.OpenCall.{OpenCall}
use Rattle.sl_host_state.specs.HeardInputs.{children_after, job_hearing, new_job}
use Rattle.sl_host_state.specs.MadeEffects.{job_calling, job_starting, names_moved}
use Rattle.sl_host_state.specs.HostStands.{kept_call}
use Rattle.sl_host_state.specs.declared.kept_parts.ValuePair.{ValuePair}
use Rattle.sl_sector.specs.declared.sector.Rec.TheVariants.{BlockIs, LeaderIs, PairIs, PairLeaderIs, ValueIs}
use Rattle.sl_tables.specs.declared.holdings.Holder.TheVariants.{Is}
use Rattle.sl_tables.specs.declared.holdings.Sought.{Sought}
use Rattle.sl_trace.specs.Traces.{Child, Submitted, job_of, new_call, new_child, no_effects, same_place}
use Rattle.sl_trace.specs.KillPrograms.{KillProgram, with_program, without_program}
use Rattle.sl_trace.specs.declared.command.Command.{Command}
use Rattle.sl_trace.specs.declared.effects.Call.{Call}
use Rattle.sl_trace.specs.declared.effects.Effects.{Effects}
use Rattle.sl_trace.specs.declared.effects.End.{End}
use Rattle.sl_trace.specs.declared.effects.Grant.{Grant}
use Rattle.sl_trace.specs.declared.effects.Move.{Move}
use Rattle.sl_trace.specs.declared.effects.Op.TheVariants.{ReadSectors, WriteRecord}
use Rattle.sl_trace.specs.declared.effects.Op.{Op}
use Rattle.sl_trace.specs.declared.effects.Sent.{Sent}
use Rattle.sl_trace.specs.declared.effects.Start.{Start}
use Rattle.sl_trace.specs.declared.input.Input.TheVariants.{Exit, Spawned}
use Rattle.sl_trace.specs.declared.reply.Reply.{Reply}
use Rattle.std.specs.List.{list_any}
use Rattle.std.specs.Prelude.{Bool, List, None, Option, Result, Some, [], cond, filter, is_some, length, map, min, not, ℕ, ◌&&◌, ◌+◌, ◌++◌, ◌-◌, ◌==◌, ◌∷◌, ◌≤◌}

-- The effects of a step so far; for how many more calls there is memory, and how many more of each other class; how many of each other class
-- the step makes at most, and how many calls.
pub record BuffersState : Type 0 where
  pub made : Effects
  pub left : ℕ
  pub calls : ℕ
  pub most : ℕ
  pub most_calls : ℕ

-- No effects, and none that may be made.
abbrev pub no_buffers : BuffersState
no_buffers = record { made = no_effects; left = 0; calls = 0; most = 0; most_calls = 0 }

-- No class of these effects but calls has more than so many, and calls no more than so many.
pub record AreFew (most most_calls : ℕ) (fx : Effects) : Type 0 where
  pub of_ends : length fx.ends ≤ most
  pub of_signals : length fx.signals ≤ most
  pub of_moves : length fx.moves ≤ most
  pub of_grants : length fx.grants ≤ most
  pub of_starts : length fx.starts ≤ most
  pub of_replies : length fx.replies ≤ most
  pub of_calls : length fx.calls ≤ most_calls

-- All that a host keeps but its members; how many more calls it may make, and how many more other effects; how many of each class of these it
-- makes at most in the step, and how many calls.
pub record BooksState : Type 0 where
  pub config : Made
  pub reading : ℕ
  pub before : ℕ
  pub entries : ℕ
  pub quiet_until : ℕ
  pub first_call : ℕ
  pub next_job : ℕ
  pub started : ℕ
  pub born : ℕ
  pub connected : List (List ℕ)
  pub unanswered : List OpenCall
  pub jobs : List JobState
  pub holdings : List Grant
  pub children : List Child
  pub programs : List KillProgram
  pub made : Effects
  pub left : ℕ
  pub calls : ℕ
  pub most : ℕ
  pub most_calls : ℕ

-- The host of these members and books.
abbrev pub kept_of : List MemberState → BooksState → HostKept
kept_of ms b =
    record {
      config = b.config;
      reading = b.reading;
      before = b.before;
      entries = b.entries;
      quiet_until = b.quiet_until;
      first_call = b.first_call;
      next_job = b.next_job;
      started = b.started;
      born = b.born;
      members = ms;
      connected = b.connected;
      unanswered = b.unanswered;
      jobs = b.jobs;
      holdings = b.holdings;
      children = b.children;
      programs = b.programs;
      made = b.made;
    }

-- Its state, where lines are read so.
abbrev pub host_of : (List ℕ → Result Command ℕ) → List MemberState → BooksState → HostState
host_of read ms b = state_of read (kept_of ms b)

-- ---- effects

abbrev pub books_ending : End → BooksState → BooksState
books_ending e b =
    let fx : Effects = b.made in
    record b {
      made = record fx { ends = fx.ends ++ e ∷ [] };
      holdings = filter (λ g. not (e.process == g.process && same_place e.path e.offset g.path g.offset)) b.holdings;
      left = b.left - 1;
    }

abbrev pub books_granting : Grant → BooksState → BooksState
books_granting g b = let fx : Effects = b.made in record b { made = record fx { grants = fx.grants ++ g ∷ [] }; holdings = b.holdings ++ g ∷ []; left = b.left - 1 }

abbrev pub books_signalling : Sent → BooksState → BooksState
books_signalling s b = let fx : Effects = b.made in record b { made = record fx { signals = fx.signals ++ s ∷ [] }; left = b.left - 1 }

abbrev pub books_starting : Start → BooksState → BooksState
books_starting s b =
    let fx : Effects = b.made in
    record b {
      made = record fx { starts = fx.starts ++ s ∷ [] };
      started = b.started + 1;
      children = b.children ++ new_child s ∷ [];
      jobs = map (job_starting s) b.jobs;
      left = b.left - 1;
    }

-- Of a move, but for the sessions that it ends.
abbrev pub books_moving : Move → BooksState → BooksState
books_moving m b = let fx : Effects = b.made in record b { made = record fx { moves = fx.moves ++ m ∷ [] }; connected = names_moved m b.connected; left = b.left - 1 }

-- Of a call, but for the session that makes it.
abbrev pub books_calling : Submitted → BooksState → BooksState
books_calling m b =
    let fx : Effects = b.made in
    record b {
      made = record fx { calls = fx.calls ++ m.call ∷ [] };
      unanswered = b.unanswered ++ kept_call m ∷ [];
      jobs = map (job_calling m) b.jobs;
      quiet_until = cond (is_some (job_of m.call.purpose)) (min b.quiet_until (m.reading + b.config.timing.io)) b.quiet_until;
      calls = b.calls - 1;
    }

-- The call as it is submitted in the step.
abbrev pub submitted_in : BooksState → Call → Submitted
submitted_in b c = new_call (b.entries - 1) b.reading c

-- Of a reply, but for the sessions that it joins or refuses.
abbrev pub books_replying : ℕ → Reply → BooksState → BooksState
books_replying job r b =
    let fx : Effects = b.made in
    record b { made = record fx { replies = fx.replies ++ record { job = job; reply = r } ∷ [] }; jobs = filter (λ j. not (j.number == job)) b.jobs; left = b.left - 1 }

-- ---- inputs

-- Of a line that is carried out, but for the sessions that it leaves.
abbrev pub books_lining : Command → BooksState → BooksState
books_lining c b = record b { next_job = b.next_job + 1; jobs = b.jobs ++ new_job b.next_job (Some c) ∷ []; left = b.left - 1 }

-- Of one that is answered at once.
abbrev pub books_answering : Reply → Option KillProgram → BooksState → BooksState
books_answering r program b =
    let fx : Effects = b.made in
    record b {
      next_job = b.next_job + 1;
      made = record fx { replies = fx.replies ++ record { job = b.next_job; reply = r } ∷ [] };
      programs = with_program program b.programs;
      left = b.left - 1;
    }

-- Of one that is no command.
abbrev pub books_numbering : BooksState → BooksState
books_numbering b = record b { next_job = b.next_job + 1; left = b.left - 1 }

-- Whether a child of this number is started by the step.
abbrev pub starts_now : ℕ → BooksState → Bool
starts_now p b = let fx : Effects = b.made in list_any (λ s. s.process == p) fx.starts

-- Of an exit, and of a start's answer: children that the step starts are none of theirs.
abbrev pub books_exiting : ℕ → BooksState → BooksState
books_exiting p b = record b { children = cond (starts_now p b) b.children (children_after (Exit p) b.children); programs = without_program (Some p) b.programs }

abbrev pub books_spawning : ℕ → Bool → BooksState → BooksState
books_spawning p ok b = record b { children = cond (starts_now p b) b.children (children_after (Spawned p ok) b.children) }

-- Of an answer to the call of this number.
abbrev pub books_hearing : ℕ → BooksState → BooksState
books_hearing number b = record b { unanswered = filter (λ c. not (c.number == number)) b.unanswered; jobs = map (job_hearing number) b.jobs }

-- ---- a step's beginning and end

-- One more step, at this reading.
abbrev pub books_counting : ℕ → BooksState → BooksState
books_counting now b = record b { before = b.reading; reading = now; entries = b.entries + 1 }

-- Nothing is due before an input below this reading, or below the one that was known.
abbrev pub books_lowering : ℕ → BooksState → BooksState
books_lowering moment b = record b { quiet_until = min b.quiet_until moment }

-- The holdings that an end ends.
abbrev pub ended_by : End → Sought
ended_by e = record { holder = Is e.process; session = None; spot = Some (record { path = e.path; base = e.offset }); mode = None }

-- The instance of the leader or block that is written, and 0.
abbrev pub lver_in : Op → ℕ
lver_in (ReadSectors n) = 0
lver_in (WriteRecord (LeaderIs l)) = l.lver
lver_in (WriteRecord (BlockIs b)) = b.lver
lver_in (WriteRecord (PairLeaderIs l)) = l.lver
lver_in (WriteRecord (PairIs p)) = p.block.lver
lver_in (WriteRecord r) = 0

-- Version and seq of the value that is written.
abbrev pub value_in : Op → Option ValuePair
value_in (ReadSectors n) = None
value_in (WriteRecord (ValueIs v)) = Some (record { lver = v.lver; seq = v.seq })
value_in (WriteRecord r) = None
