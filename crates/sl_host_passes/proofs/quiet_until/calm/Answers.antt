use Rattle.sl_host_passes.proofs.WholePasses.{all_chosen}
use Rattle.sl_host_passes.proofs.Moments.{all_looked_up, is_calm, least_all}
use Rattle.sl_host_passes.proofs.quiet_until.calm.Goals as goal
use Rattle.sl_host_passes.specs.NextMoment.{found_moments, least_by, next_moment}
use Rattle.sl_host_passes.specs.PassPremises.{JobsApart}
use Rattle.sl_host_state.specs.HeardInputs.{quiet_to}
use Rattle.sl_host_state.specs.KeptState.{HostState, state_of}
use Rattle.sl_host_state.specs.HostStands.{IsQuiet, job_moments, member_moments}
use Rattle.sl_host_work.specs.KilledMembers.{unread}
use Rattle.sl_host.specs.ChosenJobs.{chosen_among}
use Rattle.sl_host.specs.Host.{HostView}
use Rattle.sl_host.specs.declared.passes.Chosen.TheVariants.{All}
use Rattle.std.proofs.Common.{ap, subst, sym, ◌∙◌}
use Rattle.std.specs.Prelude.{Err, List, find, flat_map, ℕ, ◌-◌, ◌==◌, ◌^◌, ◌≡◌}

-- What was found is the next moment.
found : (old noted : HostView) (ns : List ℕ) (members next : ℕ) → JobsApart old.kept → noted ≡ old → ns ≡ chosen_among All old.kept.jobs
    → members ≡ least_by (2 ^ 64 - 1) (flat_map (member_moments (unread noted.kept)) noted.kept.members)
    → next ≡ least_by members (flat_map (λ n. found_moments (unread noted.kept) (find (λ j. j.number == n) noted.kept.jobs)) ns) → next ≡ next_moment (unread old.kept)
found old noted ns members next apart same notes first all =
    let h : HostState = unread old.kept in
    all
    ∙ (ap (λ (v : HostView). least_by members (flat_map (λ n. found_moments (unread v.kept) (find (λ j. j.number == n) v.kept.jobs)) ns)) same
    ∙ (ap (λ ms. least_by members (flat_map (λ n. found_moments h (find (λ j. j.number == n) old.kept.jobs)) ms)) (notes ∙ all_chosen old.kept.jobs)
    ∙ (ap (λ ts. least_by members ts) (all_looked_up h old.kept.jobs apart)
    ∙ (ap (λ q. least_by q (flat_map (job_moments h) h.jobs)) (first ∙ ap (λ (v : HostView). least_by (2 ^ 64 - 1) (flat_map (member_moments (unread v.kept)) v.kept.members)) same) ∙ least_all h))))

pub returns-clause-state : goal.returns-clause-state
returns-clause-state c read =
    let old = c.args.host.now in
    let is = found old c.note_jobs.new.self c.note_jobs.new.notes.items c.before_members-next.result c.before_jobs-next.result c.requires.apart c.note_jobs.ensures.same
    (ap (λ v. v.items) c.note_jobs.ensures.notes) c.before_members-next.ensures c.before_jobs-next.ensures in
    c.quiet_to.ensures.state read ∙ (ap (λ q. quiet_to q (state_of read c.note_jobs.new.self.kept)) is ∙ ap (λ v. quiet_to (next_moment (unread old.kept)) (state_of read v.kept)) c.note_jobs.ensures.same)

pub returns-clause-quiet : goal.returns-clause-quiet
returns-clause-quiet c =
    let old = c.args.host.now in
    let is = returns-clause-state c (λ text. Err 0) in
    subst IsQuiet (sym is) (is_calm (unread old.kept))
