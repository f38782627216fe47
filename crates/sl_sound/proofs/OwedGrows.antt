-- What is owed grows with what is promised: so what is owed of made runs is owed of sound ones.
use Rattle.sl_report.specs.OwedReports.{FrontOf, HeadersAreGood, Promise, ReplayOf, SoundRun, In_events, In_header, MayHaveBeen, Of_events, Of_nothing, Of_report, is_whole_status}
use Rattle.sl_report.specs.Languages.{Language}
use Rattle.sl_run.specs.Headers.{IsHeader}
use Rattle.sl_run.specs.Runs.{Happening}
use Rattle.sl_run.specs.declared.header.Header.{Header}
use Rattle.sl_sound.proofs.Soundness.{made_runs_are_sound}
use Rattle.sl_sound.specs.MadeRuns.{MadeRun}
use Rattle.sl_sound.specs.SoundLaws.{MadeReplaysAreSound}
use Rattle.sl_trace.specs.Traces.{Setting, Trace}
use Rattle.std.specs.Int.{is_in_range}
use Rattle.std.specs.Prelude.{Bool, IsTrue, List, MatchBool, false, true, ℕ}

-- Each run of which the one is promised has the other too, for headers that a world may begin with.
abbrev pub Grows : Promise → Promise → Language → Type 0
Grows less more lang = (h : Header) (xs : List Happening) → IsHeader h → less lang.program h xs → more lang.program h xs

pub replay_grows : (less more : Promise) (lang : Language) → HeadersAreGood lang → Grows less more lang → (source written : List ℕ) (status : ℕ)
    → ReplayOf less lang source written status → ReplayOf more lang source written status
replay_grows less more lang good grows source written status (In_header number why read is) = In_header number why read is
replay_grows less more lang good grows source written status (In_events h rest xs end read follows promised is told) =
    In_events h rest xs end read follows (grows h xs (good source h rest read) promised) is told

front_grows : (less more : Promise) (lang : Language) → HeadersAreGood lang → Grows less more lang → (source written : List ℕ)
    → FrontOf less lang source written → FrontOf more lang source written
front_grows less more lang good grows source written (Of_nothing is) = Of_nothing is
front_grows less more lang good grows source written (Of_events h rest xs read follows promised is) =
    Of_events h rest xs read follows (grows h xs (good source h rest read) promised) is
front_grows less more lang good grows source written (Of_report report status replay is) =
    Of_report report status (replay_grows less more lang good grows source report status replay) is

pub owed_by : (less more : Promise) (lang : Language) → HeadersAreGood lang → Grows less more lang → (ended : Bool) (read written : List ℕ) (status : ℕ) (whole : Bool)
    → MatchBool whole ((source : List ℕ) → MayHaveBeen ended read source → ReplayOf less lang source written status)
    (IsTrue (is_in_range 3 5 status) × ((source : List ℕ) → MayHaveBeen ended read source → FrontOf less lang source written))
    → MatchBool whole ((source : List ℕ) → MayHaveBeen ended read source → ReplayOf more lang source written status)
    (IsTrue (is_in_range 3 5 status) × ((source : List ℕ) → MayHaveBeen ended read source → FrontOf more lang source written))
owed_by less more lang good grows ended read written status true owed = λ source may. replay_grows less more lang good grows source written status (owed source may)
owed_by less more lang good grows ended read written status false owed = (owed.0, λ source may. front_grows less more lang good grows source written (owed.1 source may))

pub made_replays_are_sound : {D : Type 0} (stands : D → Setting → Trace → Type 0) → MadeReplaysAreSound stands
made_replays_are_sound {D} stands does lawful lang good digest ended read written status owed =
    owed_by (λ p h xs. MadeRun stands p h xs) SoundRun lang good (λ h xs header made. made_runs_are_sound stands does lawful lang.program h xs header digest made)
    ended read written status (is_whole_status status) owed
