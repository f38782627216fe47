-- The causes of what is refused as a process exits: its own jobs, and those that wait for it.
use Rattle.sl_due_facts.proofs.Acts.LoopsKeep.{for_each_keeps}
use Rattle.sl_due_facts.specs.Acts.TraceSoFar.{entry_of}
use Rattle.sl_due_law.proofs.Causes.LaterSteps.{by_effects}
use Rattle.sl_due_law.proofs.Causes.RecoveryCauses.{jobs_past, numbered_is}
use Rattle.sl_due_law.specs.Causes.CausedSoFar.{StaysCaused}
use Rattle.sl_due.specs.DueInputs.{end_holdings, leave_holdings}
use Rattle.sl_due.specs.Steps.{Step, add_end, add_grant, seen, with_effects, with_input}
use Rattle.sl_due_facts.proofs.Jobs.CallsHaveFacts.{find_mapped}
use Rattle.sl_due_facts.proofs.Jobs.JobsAreNumbered.{finds_none, numbered_stays}
use Rattle.sl_trace.specs.Jobs.{child_of_job, is_command_that, is_job_of_process, process_named}
use Rattle.sl_words.proofs.Lists.{in_map, kept_inside}
use Rattle.sl_trace.specs.Traces.{Child, Job, Trace, line_in, child_after, children, end_of, holdings, is_running, job_numbered, jobs, new_child, orphans_left, running_jobs}
use Rattle.sl_trace.specs.declared.effects.Effects.{Effects}
use Rattle.sl_trace.specs.declared.effects.Start.{Start}
use Rattle.sl_trace.specs.declared.input.Input.TheVariants.{Answer as Told, Exit, Line, Number, Spawned, Wake}
use Rattle.sl_trace.specs.declared.input.Input.{Input}
use Rattle.sl_trace.specs.declared.reply.Reply.TheVariants.{NoProcess}
use Rattle.sl_words.proofs.CaseLaws.{one_value}
use Rattle.sl_words.specs.Words.{some_is}
use Rattle.std.proofs.Common.{ap, inl, refl, subst, sym, ◌∙◌}
use Rattle.std.proofs.lemmas.List.Folds.{find-append}
use Rattle.std.specs.Option.{option_or}
use Rattle.std.specs.Prelude.{Bool, Contains, None, Option, Some, false, filter, find, map, option_map, true, ℕ, ◌==◌, ◌≡◌, ◌||◌}

-- ---- children

child_kept : (i : Input) (k : Child) → ((child_after i k).process ≡ k.process) × ((child_after i k).job ≡ k.job)
child_kept (Spawned p ok) k = by (p == k.process) where
  after : Bool → Child
  after b = elim b as (λ z. Child) [ false ↦ k | true ↦ record k { answer = option_or k.answer (Some ok) } ]

  by : (b : Bool) → ((after b).process ≡ k.process) × ((after b).job ≡ k.job)
  by false = (refl, refl)
  by true = (refl, refl)
child_kept (Exit p) k = by (p == k.process) where
  after : Bool → Child
  after b = elim b as (λ z. Child) [ false ↦ k | true ↦ record k { exited = true } ]

  by : (b : Bool) → ((after b).process ≡ k.process) × ((after b).job ≡ k.job)
  by false = (refl, refl)
  by true = (refl, refl)
child_kept (Told n a) k = (refl, refl)
child_kept (Line text) k = (refl, refl)
child_kept (Number text) k = (refl, refl)
child_kept Wake k = (refl, refl)

-- Where no start is a job's, the jobs have the children that they had.
same_child : (past : Trace) (now : ℕ) (i : Input) (z : Step) (n : ℕ) → z.past ≡ past → z.input ≡ i → ((k : Start) → Contains z.effects.starts k → k.job ≡ None) → child_of_job (seen z) n ≡ child_of_job past n
same_child past now i z n before input none =
    ap (λ o. option_map (λ (k : Child). k.process) o) found ∙ (turned (find mine (children z.past)) ∙ ap (λ t. child_of_job t n) before)
  where
    mine : Child → Bool
    mine k = some_is (λ j. j == n) k.job

    new_none : find mine (map new_child z.effects.starts) ≡ None
    new_none =
        finds_none mine (map new_child z.effects.starts)
        (λ k there.
        let v = in_map new_child z.effects.starts k there in
        ap (λ (c : Child). mine c) (sym v.2) ∙ ap (λ o. some_is (λ j. j == n) o) (none v.0 v.1))

    plain : (o : Option Child) → option_or o None ≡ o
    plain None = refl
    plain (Some k) = refl

    found : find mine (children (seen z)) ≡ option_map (child_after z.input) (find mine (children z.past))
    found =
        find-append mine (map (child_after z.input) (children z.past)) (map new_child z.effects.starts)
        ∙ (ap (λ o. option_or (find mine (map (child_after z.input) (children z.past))) o) new_none
        ∙ (plain (find mine (map (child_after z.input) (children z.past)))
        ∙ find_mapped mine (child_after z.input) (children z.past) (λ k. ap (λ o. some_is (λ j. j == n) o) (child_kept z.input k).1)))

    turned : (o : Option Child) → option_map (λ (k : Child). k.process) (option_map (child_after z.input) o) ≡ option_map (λ (k : Child). k.process) o
    turned None = refl
    turned (Some k) = ap (λ m. Some m) (child_kept z.input k).0

-- ---- what an exit leaves of the step

record Leaving (w z : Step) : Type 0 where
  setting : z.setting ≡ w.setting
  before : z.past ≡ w.past
  input : z.input ≡ w.input
  starts : z.effects.starts ≡ w.effects.starts

left_alike : (w : Step) (p : ℕ) → Leaving w (leave_holdings p w)
unfolding leave_holdings
left_alike w p =
    for_each_keeps (Leaving w) (orphans_left p (holdings (seen w))) add_grant (end_holdings p w) (λ g there z k. record { setting = k.setting; before = k.before; input = k.input; starts = k.starts })
    (for_each_keeps (Leaving w) (filter (λ g. g.process == p) (holdings (seen w))) (λ g. add_end (end_of g)) w (λ g there z k. record { setting = k.setting; before = k.before; input = k.input; starts = k.starts })
    (record { setting = refl; before = refl; input = refl; starts = refl }))

exit_no_wake : (i : Input) (p : ℕ) → i ≡ Exit p → i ≡ Wake → ⊥
exit_no_wake i p is wake = cc

-- A job of the process that exits.
pub exit_caused : (x : Step) (p : ℕ) → ((k : Start) → Contains x.effects.starts k → k.job ≡ None) → (j : Job)
    → Contains (filter (is_job_of_process (seen (leave_holdings p (with_input (Exit p) x))) p) (running_jobs (leave_holdings p (with_input (Exit p) x)).setting (seen (leave_holdings p (with_input (Exit p) x))))) j
    → StaysCaused (with_input (Exit p) x) (record { job = j.number; reply = NoProcess p })
exit_caused x p jobless j there =
    by_effects w (record { job = j.number; reply = NoProcess p }) (λ wake. exit_no_wake w.input p refl wake)
    (λ fx carried jb found. inl (refl, subst (λ (k : Job). is_job_of_process x.past p k ≡ true) (same jb fx found) its))
  where
    w : Step
    w = with_input (Exit p) x

    y : Step
    y = leave_holdings p w

    alike : Leaving w y
    alike = left_alike w p

    member : Contains (running_jobs y.setting (seen y)) j × (is_job_of_process (seen y) p j ≡ true)
    member = kept_inside (is_job_of_process (seen y) p) (running_jobs y.setting (seen y)) j there

    its : is_job_of_process x.past p j ≡ true
    its =
        ap (λ o. is_command_that (λ c. some_is (λ q. q == p) (process_named c)) j || some_is (λ q. q == p) o)
        (sym (same_child x.past x.reading (Exit p) y j.number alike.before alike.input (λ k inside. jobless k (subst (λ ks. Contains ks k) alike.starts inside)))) ∙ member.1

    before : Contains (jobs x.setting x.past) j
    before =
        subst (λ t. Contains (jobs x.setting t) j) alike.before (subst (λ st. Contains (jobs st y.past) j) alike.setting
        (subst (λ js. Contains js j) (jobs_past y.setting y.past (entry_of y) (ap (λ i. line_in i) alike.input)) (kept_inside (λ (k : Job). is_running (seen y) k.number) (jobs y.setting (seen y)) j member.0).0))

    same : (jb : Job) (fx : Effects) → job_numbered x.setting (seen (with_effects w fx)) j.number ≡ Some jb → j ≡ jb
    same jb fx found =
        one_value j jb (job_numbered x.setting (seen (with_effects w fx)) j.number) (numbered_stays x.setting (entry_of (with_effects w fx)) x.past j.number j (numbered_is x.setting x.past j before)) found
