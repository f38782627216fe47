-- The jobs that a host keeps are jobs of the trace, and run; so is that of a leaving one of the trace's.
use Rattle.sl_host_law.proofs.SharedFacts.PlainLists.{any_mapped}
use Rattle.sl_host_law.proofs.SharedFacts.SessionNumbers.{job_there, leaving_there}
use Rattle.sl_host_state.specs.KeptState.{HostState, MemberState}
use Rattle.sl_host_state.specs.HostStands.{Keeps, MemberStands, kept_job}
use Rattle.sl_host_state.specs.declared.kept_parts.JobState.{JobState}
use Rattle.sl_words.proofs.Lists.{any_found, kept_inside}
use Rattle.sl_words.proofs.Options.{mapped_value}
use Rattle.sl_trace.specs.Sessions.{leaving_job}
use Rattle.sl_trace.specs.declared.delta.DeltaKnown.{DeltaKnown}
use Rattle.sl_trace.specs.Traces.{Job, Setting, Trace, is_running, job_numbered, jobs, running_jobs}
use Rattle.sl_words.proofs.WordLaws.{some_is_true}
use Rattle.sl_words.specs.Words.{some_is}
use Rattle.std.proofs.Common.{ap, subst, sym, ◌∙◌}
use Rattle.std.proofs.lemmas.Bool.Decides.{Decides-eqb}
use Rattle.std.specs.List.{list_any}
use Rattle.std.specs.Prelude.{Contains, is_some, true, ℕ, ◌==◌, ◌≡◌}

-- Whether a job of this number runs is whether it is kept.
pub kept_is_running : (h : HostState) (st : Setting) (es : Trace) (n : ℕ) → Keeps h st es → list_any (λ j. j.number == n) h.jobs ≡ list_any (λ j. j.number == n) (running_jobs st es)
kept_is_running h st es n k =
    ap (list_any (λ (j : JobState). j.number == n)) (sym k.jobs) ∙ any_mapped (λ (j : JobState). j.number == n) (kept_job es) (running_jobs st es)

-- A job that is kept is one of the trace's, without a reply.
pub running_there : (h : HostState) (st : Setting) (es : Trace) (n : ℕ) → Keeps h st es → list_any (λ j. j.number == n) h.jobs ≡ true
    → (j : Job) × Contains (jobs st es) j × (j.number ≡ n) × (is_running es n ≡ true)
running_there h st es n k is =
    let f = any_found (λ (j : Job). j.number == n) (running_jobs st es) (sym (kept_is_running h st es n k) ∙ is) in
    let same : f.0.number ≡ n = (Decides-eqb f.0.number n).0 f.2 in
    let in_it = kept_inside (λ (j : Job). is_running es j.number) (jobs st es) f.0 f.1 in
    (f.0, in_it.0, same, subst (λ m. is_running es m ≡ true) same in_it.1)

pub kept_numbered : (h : HostState) (st : Setting) (es : Trace) (n : ℕ) → Keeps h st es → list_any (λ j. j.number == n) h.jobs ≡ true → is_some (job_numbered st es n) ≡ true
kept_numbered h st es n k is = let r = running_there h st es n k is in subst (λ m. is_some (job_numbered st es m) ≡ true) r.2 (job_there st es r.0 r.1)

-- The job of a member's leaving is one of the trace's.
pub leaving_numbered : (st : Setting) (es : Trace) (m : MemberState) (n : ℕ) → MemberStands st es m → some_is (λ j. j == n) m.known.leaving ≡ true → is_some (job_numbered st es n) ≡ true
leaving_numbered st es m n k is =
    let l = some_is_true (λ (j : ℕ). j == n) m.known.leaving is in
    let j = mapped_value (λ (z : Job). z.number) (leaving_job st es m.who) l.0 (ap (λ (d : DeltaKnown). d.leaving) k.known ∙ l.1) in
    subst (λ z. is_some (job_numbered st es z) ≡ true) (j.2 ∙ (Decides-eqb l.0 n).0 l.2) (job_there st es j.0 (leaving_there st es m.who j.0 j.1))
