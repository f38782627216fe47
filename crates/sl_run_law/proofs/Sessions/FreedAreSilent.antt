-- After its free a session submits nothing more; a request seen in a joining sets it back.
use Rattle.sl_run.specs.LawfulCalls.{may_submit}
use Rattle.sl_run.specs.LawForms.{cut_at}
use Rattle.sl_run_law.proofs.Sessions.TraceGrowth.{mine_marked, mine_next, other_next, to_cut}
use Rattle.sl_run_law.proofs.Sessions.JoiningsInTurn.{stage_for}
use Rattle.sl_run_law.proofs.Sessions.CallsAreMade.{same_answered}
use Rattle.sl_run_law.proofs.Sessions.JoiningsAreOrdered.{open_stage}
use Rattle.sl_run_law.proofs.Sessions.EndedAreSilent.{stage_by}
use Rattle.sl_run_law.proofs.Sessions.MarksStay.{joined_more}
use Rattle.sl_run_law.specs.Sessions.SessionLaws.{FreedAreSilent, SeeingSetsBack}
use Rattle.sl_trace.specs.Sessions.{calls_of, free_write, is_call_of, is_free_purpose, joined_after, refused_after, removed_after, session_numbered, stage_in}
use Rattle.sl_trace.specs.declared.session.Session.{Session}
use Rattle.sl_trace.specs.declared.stage.Stage.{Stage}
use Rattle.sl_trace.proofs.TraceFacts.{submitted-push}
use Rattle.sl_trace.specs.TraceLaws.{with_call}
use Rattle.sl_trace.specs.Traces.{Submitted, Trace, answered_in, mark, new_call}
use Rattle.sl_trace.specs.declared.effects.Call.{Call}
use Rattle.sl_trace.specs.declared.effects.Entry.{Entry}
use Rattle.sl_trace.specs.declared.input.Answer.{Answer}
use Rattle.sl_trace.specs.declared.input.Input.TheVariants.{Answer as Told, Exit, Line, Number, Spawned, Wake}
use Rattle.sl_trace.specs.declared.input.Input.{Input}
use Rattle.sl_words.proofs.CaseLaws.{false_is_true, none_some, true_is_false}
use Rattle.std.proofs.Common.{ap, refl, sym, ◌∙◌}
use Rattle.std.proofs.lemmas.Bool.{eq-eqb}
use Rattle.std.specs.Prelude.{Bool, List, None, Option, Some, [], cond, false, filter, is_some, length, map, slice_get, suc, true, ℕ, ◌==◌, ◌∷◌, ◌≡◌}

found_by : (b c : Bool) (x y : Submitted) (o p : Option Submitted) → c ≡ b → is_some o ≡ is_some p → is_some (cond c (Some x) o) ≡ is_some (cond b (Some y) p)
found_by true c x y o p same rest = ap (λ t. is_some (cond t (Some x) o)) same
found_by false c x y o p same rest = ap (λ t. is_some (cond t (Some x) o)) same ∙ rest

freed_told : (es : Trace) (e : Entry) (n : ℕ) (a : Answer) (ms : List Submitted) → is_some (free_write (map (answered_in es e n a) ms)) ≡ is_some (free_write ms)
freed_told es e n a [] = refl
freed_told es e n a (m ∷ ms) =
    found_by (is_free_purpose m.call.purpose) (is_free_purpose (answered_in es e n a m).call.purpose) (answered_in es e n a m) m (free_write (map (answered_in es e n a) ms)) (free_write ms)
    (ap (λ c. is_free_purpose c.purpose) (same_answered es e n a m).call) (freed_told es e n a ms)

freed_marked : (es : Trace) (e : Entry) (i : Input) (ms : List Submitted) → is_some (free_write (mark es e i ms)) ≡ is_some (free_write ms)
freed_marked es e (Told n a) ms = freed_told es e n a ms
freed_marked es e (Line text) ms = refl
freed_marked es e (Number text) ms = refl
freed_marked es e (Exit p) ms = refl
freed_marked es e (Spawned p ok) ms = refl
freed_marked es e Wake ms = refl

still_found : (b : Bool) (x : Submitted) (o : Option Submitted) → is_some o ≡ true → is_some (cond b (Some x) o) ≡ true
still_found true x o h = refl
still_found false x o h = h

abbrev IsFreed : Session → Trace → Type 0
IsFreed s t = is_some (free_write (calls_of t s)) ≡ true

freed_call : (e : Entry) (past : Trace) (s : Session) (k : ℕ) (c : Call) → slice_get e.effects.calls k ≡ Some c → (b : Bool) → (c.session == s.number) ≡ b
    → IsFreed s (cut_at k e ∷ past) → IsFreed s (cut_at (suc k) e ∷ past)
freed_call e past s k c at true mine h =
    ap (λ ms. is_some (free_write ms)) (mine_next past e s k c at mine)
    ∙ still_found (is_free_purpose c.purpose) (new_call (length past) e.reading c) (free_write (calls_of (cut_at k e ∷ past) s)) h
freed_call e past s k c at false other h = ap (λ ms. is_some (free_write ms)) (other_next past e s k c at other) ∙ h

freed_cut : (e : Entry) (past : Trace) (s : Session) (k : ℕ) → IsFreed s past → IsFreed s (cut_at k e ∷ past)
freed_cut e past s k h =
    to_cut (IsFreed s) e past
    (ap (λ ms. is_some (free_write ms)) (mine_marked past e s) ∙ freed_marked past (cut_at 0 e) e.input (calls_of past s) ∙ h)
    (λ j c at before. freed_call e past s j c at (c.session == s.number) refl before) k

pub no_more_by : (joined removed refused : Option ℕ) (free : Option Submitted) (joining : Stage) (k : ℕ) → joined ≡ Some k → is_some free ≡ true
    → may_submit (stage_by joined removed refused free joining) ≡ false
no_more_by None removed refused free joining k is h = absurd (none_some k is)
no_more_by (Some j) (Some i) refused free joining k is h = refl
no_more_by (Some j) None refused (Some m) joining k is h = refl
no_more_by (Some j) None refused None joining k is h = absurd (false_is_true h)

pub freed_are_silent : FreedAreSilent
freed_are_silent st e past s h its k joined m freed i c at mine =
    let t : Trace = cut_at i e ∷ past in
    true_is_false (sym (h.calls.0.alive i c s at (ap (λ n. session_numbered st (e ∷ past) n) mine ∙ its))
    ∙ no_more_by (joined_after t s) (removed_after t s) (refused_after t s) (free_write (calls_of t s)) (stage_in (calls_of t s)) k
    (joined_more (cut_at i e) past s k joined) (freed_cut e past s i (ap (λ o. is_some o) freed)))

-- ---- a request that is seen in a joining

pub seeing_sets_back : SeeingSetsBack
seeing_sets_back es e c s joined refused sees mine =
    let t : Trace = with_call c e ∷ es in
    open_stage (joined_after t s) (removed_after t s) (refused_after t s) (free_write (calls_of t s)) (stage_in (calls_of t s)) joined refused
    ∙ ap (λ ms. stage_in (filter (is_call_of s) ms)) (submitted-push es e c)
    ∙ ap (λ b. stage_in (cond b (new_call (length es) e.reading c ∷ calls_of (e ∷ es) s) (calls_of (e ∷ es) s))) (eq-eqb c.session s.number mine)
    ∙ ap (λ p. stage_for p false) sees
