-- A leaving that begins is what the state function says, and makes no more effects than there are holdings and jobs.
use Rattle.sl_host_law.specs.Steps.Passes.{at_member, member_numbered}
use Rattle.sl_host_lines.specs.LeavingsBegin.{leaving_cost, leaving_for}
use Rattle.sl_host_state.specs.HeardInputs.{heard_line, new_job}
use Rattle.sl_host_state.specs.KeptState.{HostKept, HostState, MemberState}
use Rattle.sl_host_state.specs.declared.kept_parts.JobState.{JobState}
use Rattle.sl_host_work.proofs.HoldersFew.{holders_are_few}
use Rattle.sl_host_work.proofs.RefusalsStand.{stopping_is}
use Rattle.sl_host_work.specs.Holders.{holders_under}
use Rattle.sl_host_work.specs.KilledMembers.{holders_of_all}
use Rattle.sl_host_work.specs.Stops.{stopped_of, stopping}
use Rattle.sl_host_work.specs.declared.recoveries.Stopped.{Stopped}
use Rattle.sl_trace.specs.declared.command.Command.{Command}
use Rattle.sl_trace.specs.declared.effects.Grant.{Grant}
use Rattle.sl_host.specs.ChosenJobs.{chosen_among, is_chosen}
use Rattle.sl_host.specs.declared.passes.Chosen.TheVariants.{OfLockspace}
use Rattle.sl_host.specs.declared.passes.Chosen.{Chosen}
use Rattle.sl_host.specs.Host.{Becomes, HostView}
use Rattle.sl_words.proofs.CaseLaws.{none_some, some_value}
use Rattle.std.proofs.Common.{ap, arith, length-append, refl, sym, ◌∙◌}
use Rattle.std.proofs.lemmas.List.Filters.{length-filter_both}
use Rattle.std.proofs.lemmas.List.{length-map}
use Rattle.std.specs.Prelude.{Err, List, None, Option, Some, [], filter, length, not, option_map, ℕ, ◌++◌, ◌+◌, ◌∷◌, ◌≡◌, ◌≤◌}

chosen_few : (w : Chosen) (js : List JobState) → length (chosen_among w js) ≤ length js
chosen_few w js =
    let all : length (filter (is_chosen w) js) + length (filter (λ j. not (is_chosen w j)) js) ≡ length js = length-filter_both (is_chosen w) (λ j. not (is_chosen w j)) (λ j. refl) js in
    let same : length (chosen_among w js) ≡ length (filter (is_chosen w) js) = length-map (filter (is_chosen w) js) (λ j. j.number) in
    omega (arith, all, same)

holders_few : (m : MemberState) (held : List Grant) → length (holders_under m.who.number held) ≤ length held
holders_few m held =
    let few : holders_of_all (m ∷ []) held ≤ length held = holders_are_few (m ∷ []) held (tt, tt) in
    let one : holders_of_all (m ∷ []) held ≡ length (holders_under m.who.number held) + 0 = refl in
    omega (arith, few, one)

-- What is stopped costs no more than all.
pub few_stopped : (k : HostKept) (o : Option MemberState) (s : Stopped) (but : Option ℕ) → (let z : Option Stopped = Some s in z) ≡ option_map stopped_of o
    → length (holders_under s.session k.holdings) + length (chosen_among (OfLockspace s.lockspace but) k.jobs) ≤ leaving_cost k
few_stopped k None s but is = absurd (none_some s (sym is))
few_stopped k (Some m) s but is =
    let e : s ≡ stopped_of m = some_value s (stopped_of m) is in
    let jobs : length (chosen_among (OfLockspace s.lockspace but) k.jobs) ≤ length k.jobs = chosen_few (OfLockspace s.lockspace but) k.jobs in
    let one : length (holders_under m.who.number k.holdings) ≤ length k.holdings = holders_few m k.holdings in
    let same : length (holders_under s.session k.holdings) ≡ length (holders_under m.who.number k.holdings) = ap (λ (z : Stopped). length (holders_under z.session k.holdings)) e in
    omega (arith, jobs, one, same)

pub stopped_on : (h : HostState) (n job : ℕ) (s : Stopped) → (let z : Option Stopped = Some s in z) ≡ option_map stopped_of (member_numbered h n) → stopping s (Some job) h ≡ at_member n (leaving_for job) h
stopped_on h n job s is = by (member_numbered h n) is where
  by : (o : Option MemberState) → (let z : Option Stopped = Some s in z) ≡ option_map stopped_of o → stopping s (Some job) h ≡ elim o as (λ z. HostState) [ None ↦ h | Some m ↦ leaving_for job m h ]
  by None is = absurd (none_some s (sym is))
  by (Some m) is = ap (λ z. stopping z (Some job) h) (some_value s (stopped_of m) is) ∙ stopping_is m (Some job) h

pub stopped_none : (h : HostState) (n job : ℕ) → (let z : Option Stopped = None in z) ≡ option_map stopped_of (member_numbered h n) → h ≡ at_member n (leaving_for job) h
stopped_none h n job is = by (member_numbered h n) is where
  by : (o : Option MemberState) → (let z : Option Stopped = None in z) ≡ option_map stopped_of o → h ≡ elim o as (λ z. HostState) [ None ↦ h | Some m ↦ leaving_for job m h ]
  by None is = refl
  by (Some m) is = absurd (none_some (stopped_of m) is)

-- A line that is heard adds a job.
pub heard_cost : (c : Command) (old new : HostView) → Becomes old new (heard_line c) → (length new.kept.jobs ≡ length old.kept.jobs + 1) × (leaving_cost new.kept ≡ leaving_cost old.kept + 1)
heard_cost c old new becomes =
    let is = becomes (λ text. Err 0) in
    let holdings : length new.kept.holdings ≡ length old.kept.holdings = ap (λ (h : HostState). length h.holdings) is in
    let more : length new.kept.jobs ≡ length (old.kept.jobs ++ new_job old.kept.next_job (Some c) ∷ []) = ap (λ (h : HostState). length h.jobs) is in
    let one : length (old.kept.jobs ++ new_job old.kept.next_job (Some c) ∷ []) ≡ length old.kept.jobs + 1 = length-append old.kept.jobs (new_job old.kept.next_job (Some c) ∷ []) in
    (omega (arith, more, one), omega (arith, more, one, holdings))
