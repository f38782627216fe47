-- A session that is over submits nothing.
use Rattle.sl_run.specs.LawfulCalls.{may_submit}
use Rattle.sl_run.specs.LawForms.{cut_at}
use Rattle.sl_run_law.proofs.Sessions.MarksStay.{ended_more}
use Rattle.sl_run_law.specs.Sessions.SessionLaws.{EndedAreSilent}
use Rattle.sl_trace.specs.Sessions.{calls_of, ended_after, free_write, joined_after, refused_after, removed_after, session_numbered, stage_in, stage_of}
use Rattle.sl_trace.specs.declared.session.Session.{Session}
use Rattle.sl_trace.specs.declared.stage.Stage.TheVariants.{Ended, Freeing, Refused, Standing}
use Rattle.sl_trace.specs.declared.stage.Stage.{Stage}
use Rattle.sl_trace.specs.Traces.{Submitted, Trace}
use Rattle.sl_words.proofs.CaseLaws.{none_some, true_is_false}
use Rattle.std.proofs.Common.{ap, refl, sym, ◌∙◌}
use Rattle.std.specs.Prelude.{None, Option, Some, false, ℕ, ◌∷◌, ◌≡◌}

abbrev pub stage_by : Option ℕ → Option ℕ → Option ℕ → Option Submitted → Stage → Stage
stage_by joined removed refused free joining =
    elim joined [
      | Some k ↦ elim removed [ Some i ↦ Ended | None ↦ elim free [ Some m ↦ Freeing | None ↦ Standing ] ]
      | None ↦ elim refused [ Some k ↦ Refused | None ↦ joining ]
    ]

no_more_by : (joined removed refused : Option ℕ) (free : Option Submitted) (joining : Stage) (k : ℕ)
    → elim joined as (λ x. Option ℕ) [ Some j ↦ removed | None ↦ refused ] ≡ Some k → may_submit (stage_by joined removed refused free joining) ≡ false
no_more_by (Some j) (Some i) refused free joining k is = refl
no_more_by (Some j) None refused free joining k is = absurd (none_some k is)
no_more_by None removed (Some i) free joining k is = refl
no_more_by None removed None free joining k is = absurd (none_some k is)

pub no_more : (es : Trace) (s : Session) (k : ℕ) → ended_after es s ≡ Some k → may_submit (stage_of es s) ≡ false
no_more es s k is = no_more_by (joined_after es s) (removed_after es s) (refused_after es s) (free_write (calls_of es s)) (stage_in (calls_of es s)) k is

pub ended_are_silent : EndedAreSilent
ended_are_silent st e past s h its k is i c at mine =
    true_is_false (sym (h.calls.0.alive i c s at (ap (λ n. session_numbered st (e ∷ past) n) mine ∙ its)) ∙ no_more (cut_at i e ∷ past) s k (ended_more (cut_at i e) past s k is))
