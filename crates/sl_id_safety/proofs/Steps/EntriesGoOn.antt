-- An entry of a daemon is one step of an id, by what it is to each of the daemon's sessions.
use Rattle.sl_run_law.specs.Course.CourseLaws.{MachinesMirror}
use Rattle.sl_run_law.proofs.Front.RunsFromFronts.{last_event}
use Rattle.sl_id_safety.proofs.State.LandingFrames.{same_landings}
use Rattle.sl_id_safety.specs.State.IdStates.{id_state, session_at, session_named_so}
use Rattle.sl_id_safety.specs.State.StateLaws.{IsIdPlace}
use Rattle.sl_ids.specs.Guards.{terms_of}
use Rattle.sl_ids.specs.Invariant.{Invariant}
use Rattle.sl_ids.proofs.DerivedLaws.{watchdogs}
use Rattle.sl_ids.proofs.WholeRuns.{reached_kept}
use Rattle.sl_ids.specs.Runs.{Reached}
use Rattle.sl_ids.specs.State.{Session as IdSession, SessionId as IdName, State}
use Rattle.sl_id_safety.proofs.Steps.EndingSteps.{few_begun, one_name, sessions_of}
use Rattle.sl_id_safety.proofs.Steps.EventFrames.{StayDistinct, after_event, step_rest, step_sector}
use Rattle.sl_id_safety.proofs.Steps.OtherSessions.{IsOfEntry, other_session_stays}
use Rattle.sl_id_safety.proofs.Steps.QuietEvents.{LeavesRest}
use Rattle.sl_id_safety.proofs.Steps.StepFrames.{IsEntry, entry_is}
use Rattle.sl_id_safety.proofs.Steps.OneSessionTurns.{Acts, OneMay, one_acts}
use Rattle.sl_id_safety.specs.Steps.EventParts.{EntriesGoOn, between, state_between}
use Rattle.sl_run_law.specs.Landing.Landings.{LandingsAreWritten}
use Rattle.sl_words.proofs.Options.{some_of}
use Rattle.sl_run.specs.Inputs.{input_of, machine_of}
use Rattle.sl_run.specs.EventChanges.{take_step}
use Rattle.sl_run.specs.Runs.{Happening}
use Rattle.sl_run.specs.Safety.{LawfulRun, world_at}
use Rattle.sl_run.specs.Worlds.{Program, World, daemon_numbered}
use Rattle.sl_run.specs.declared.header.Header.{Header}
use Rattle.std.proofs.Common.{ap, arith, sym, tests, ◌∙◌}
use Rattle.std.specs.Prelude.{List, false, true, [], ℕ, ◌++◌, ◌==◌, ◌∷◌, ◌≡◌}

-- What an entry is to a session of the daemon that takes it.
pub record EntryActs (w : State) (s t : IdSession) : Type 0 where
  pub blank : s.begun ≡ false → t ≡ s
  pub over : s.begun ≡ true → s.over ≡ true → t ≡ s
  pub acts : s.begun ≡ true → s.over ≡ false → Acts w s t

-- What is said of each session of that daemon.
abbrev pub OwnSessionsAct : Type 0
OwnSessionsAct = (p : Program) (h : Header) (now : List Happening) (x : Happening) (path : List ℕ) (offset : ℕ) → LawfulRun p h (now ++ x ∷ [])
    → IsIdPlace p h path offset → Reached (terms_of h.timing) (state_between p h now x.0 path offset) → (e : IsEntry p h now x) → (n : IdName)
    → IsOfEntry e (session_named_so n) → EntryActs (state_between p h now x.0 path offset) (session_at (between (world_at p h now) x.0) path offset n)
    (session_at (after_event p h now x) path offset n)

numbers_same : (m n : ℕ) → m ≡ n → (n == m) ≡ true
numbers_same m n h = grind (arith, tests)

same_numbers : (m n : ℕ) → (n == m) ≡ true → m ≡ n
same_numbers m n h = grind (arith, tests)

entry_turns : StayDistinct → MachinesMirror → LandingsAreWritten → OwnSessionsAct → (p : Program) (h : Header) (now : List Happening) (x : Happening)
    (path : List ℕ) (offset : ℕ) → LawfulRun p h (now ++ x ∷ []) → IsIdPlace p h path offset
    → Reached (terms_of h.timing) (state_between p h now x.0 path offset) → (e : IsEntry p h now x)
    → OneMay (Acts (state_between p h now x.0 path offset)) (state_between p h now x.0 path offset) (id_state (after_event p h now x) path offset)
    (machine_of x.0) e.daemon.number
entry_turns distinct mirror written act p h now x path offset run place reached e =
    let last = last_event p h now x run in
    let u : World = between (world_at p h now) x.0 in
    let s = step_sector distinct mirror written p h now x run path offset in
    let r : LeavesRest u (take_step (machine_of x.0) (input_of (world_at p h now) x.0) last.effects u) =
    step_rest (machine_of x.0) (input_of (world_at p h now) x.0) last.effects u in
    let inv : Invariant (terms_of h.timing) (state_between p h now x.0 path offset) =
    (reached_kept (terms_of h.timing) (state_between p h now x.0 path offset) (watchdogs.long h.timing run.header.timing) reached).0 in
    record {
      now = ap (λ v. v.moment) last.after ∙ r.moment;
      same = same_landings u (after_event p h now x) path offset s;
      others = λ j other. other_session_stays distinct mirror written p h now x run path offset e j (λ is.
          other (is.0, same_numbers j.daemon e.daemon.number is.1));
      blank = λ j is. (act p h now x path offset run place reached e j (is.0, numbers_same j.daemon e.daemon.number is.1)).blank;
      over = λ j is. (act p h now x path offset run place reached e j (is.0, numbers_same j.daemon e.daemon.number is.1)).over;
      turns = λ j is. (act p h now x path offset run place reached e j (is.0, numbers_same j.daemon e.daemon.number is.1)).acts;
      count = sessions_of (daemon_numbered e.machine e.daemon.number);
      few = few_begun u path offset (machine_of x.0) e.daemon.number e.machine e.at;
      solo = λ j k isj isk apart bj bk. (inv.two j k apart).solo
          (one_name u path offset j k (isj.0 ∙ sym isk.0) (isj.1 ∙ sym isk.1) bj bk) bj bk;
    }

-- So entries are steps of an id, where each session of the daemon acts so.
pub entries_go_on_by : StayDistinct → MachinesMirror → LandingsAreWritten → OwnSessionsAct → EntriesGoOn
entries_go_on_by distinct mirror written act p h now x path offset run place some reached bounded =
    let j = some_of (input_of (world_at p h now) x.0) some in
    let e : IsEntry p h now x = entry_is p h now x run j.0 j.1 in
    one_acts (terms_of h.timing) (state_between p h now x.0 path offset) (id_state (after_event p h now x) path offset) (machine_of x.0) e.daemon.number
    (entry_turns distinct mirror written act p h now x path offset run place reached e) bounded
