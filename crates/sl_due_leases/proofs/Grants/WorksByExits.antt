-- The exit of a process keeps the facts of a job's work: what it held is held as before, by nobody, and its own jobs are refused.
use Rattle.sl_due_facts.proofs.Acts.LoopsKeep.{for_each_keeps}
use Rattle.sl_due_facts.specs.Acts.TraceSoFar.{entry_of}
use Rattle.sl_due.specs.DueInputs.{end_holdings, leave_holdings, refuse_jobs_of}
use Rattle.sl_due.specs.Steps.{Step, add_end, add_grant, add_reply, seen}
use Rattle.sl_due_leases.proofs.Grants.WorksByEffects.{WorksAt, ran_before}
use Rattle.sl_due_leases.proofs.Holdings.HoldingsByEffects.{end_inside, is_told, unanswered_same}
use Rattle.sl_due_leases.proofs.Holdings.HoldingsByGrants.{old_or_granted}
use Rattle.sl_due_leases.proofs.Holdings.LeaseCallers.{commands_fit}
use Rattle.sl_due_facts.proofs.Jobs.QuietFactsAreKept.{loop_stops}
use Rattle.sl_run.specs.Lawful.{IsSetting}
use Rattle.sl_run.specs.LawfulModes.{shared_since}
use Rattle.sl_trace.specs.Jobs.{aim_of_command, child_of_job, command_numbered, command_of, is_job_of_process, process_named}
use Rattle.sl_trace.specs.Leases.{spot_of_call}
use Rattle.sl_trace.specs.declared.lease.Aim.TheVariants.{Acquires, Converts, Releases, Settles}
use Rattle.sl_trace.specs.declared.lease.Aim.{Aim}
use Rattle.sl_words.proofs.Lists.{find_inside, in_map, kept, kept_inside}
use Rattle.sl_words.proofs.Numbers.{lt_then_le, number_itself, refl_le}
use Rattle.sl_words.proofs.Options.{then_value}
use Rattle.sl_sector.proofs.RuleLaws.{in_range}
use Rattle.sl_trace.specs.Sessions.{session_numbered}
use Rattle.sl_trace.specs.declared.session.Session.{Session}
use Rattle.sl_due_facts.specs.Facts.HeardCall.{heard_by}
use Rattle.sl_due_facts.specs.Facts.WorkFacts.{IsAtWork, IsWaiting, MayBeHeld, WorkFacts}
use Rattle.sl_trace.specs.CommandForms.{IsCommand}
use Rattle.sl_trace.specs.CountLimits.{most_children, most_processes}
use Rattle.sl_trace.specs.Traces.{Job, Setting, Submitted, end_of, holdings, is_running, job_numbered, jobs, leaves_orphan, next_child, no_process, orphan_of, orphans_left, running_jobs, same_place, submitted}
use Rattle.sl_trace.specs.declared.command.Command.TheVariants.{Acquire, AddLockspace, Convert, GetLvb, HostStatus, InqLockspace, Release, ReleaseOrphan, RemLockspace, Request, RunProgram, SetKillpath, SetLvb, Status, TakeOver}
use Rattle.sl_trace.specs.declared.command.Command.{Command}
use Rattle.sl_trace.specs.declared.effects.Grant.{Grant}
use Rattle.sl_trace.specs.declared.effects.LeaseStep.{LeaseStep}
use Rattle.sl_trace.specs.declared.effects.Mode.{Mode}
use Rattle.sl_trace.specs.declared.effects.Spot.{Spot}
use Rattle.sl_trace.specs.declared.input.Input.TheVariants.{Exit}
use Rattle.sl_trace.specs.declared.reply.Reply.TheVariants.{NoProcess}
use Rattle.sl_words.proofs.CaseLaws.{none_some, not_both, some_value, true_is_false}
use Rattle.sl_words.proofs.WordLaws.{and_true}
use Rattle.sl_words.specs.Words.{some_is}
use Rattle.std.proofs.Common.{ap, arith, inl, inr, refl, subst, sym, ◌∙◌}
use Rattle.std.proofs.lemmas.Bool.{eqb-true}
use Rattle.std.specs.Prelude.{Bool, Contains, IsTrue, None, Option, Some, false, filter, true, ℕ, ◌&&◌, ◌+◌, ◌==◌, ◌||◌, ◌≡◌, ◌≤◌, ◌⊎◌}

-- ---- what an exit leaves

-- It was held, or is the orphan of what the process held.
abbrev pub OldOrOrphan : Step → ℕ → Grant → Type 0
OldOrOrphan y p h = Contains (holdings (seen y)) h ⊎ ((l : Grant) × Contains (holdings (seen y)) l × (l.process ≡ p) × (orphan_of l ≡ h))

pub record Leaving (y : Step) (p : ℕ) (z : Step) : Type 0 where
  pub setting : z.setting ≡ y.setting
  pub input : z.input ≡ Exit p
  pub calls : submitted (seen z) ≡ submitted (seen y)
  pub held : (h : Grant) → Contains (holdings (seen z)) h → OldOrOrphan y p h
  pub ran : (j : ℕ) → is_running (seen z) j ≡ true → is_running (seen y) j ≡ true
  pub commands : (j : ℕ) → command_numbered y.setting (seen z) j ≡ command_numbered y.setting (seen y) j
  pub further : next_child (seen y) ≤ next_child (seen z)
  pub sessions : (n : ℕ) → session_numbered y.setting (seen z) n ≡ session_numbered y.setting (seen y) n
  pub unshared : (since : ℕ) (s : Session) (at : Spot) → shared_since since (seen z) s at ≡ shared_since since (seen y) s at

ends_on : (y : Step) (p : ℕ) (g : Grant) (z : Step) → Leaving y p z → Leaving y p (add_end (end_of g) z)
ends_on y p g z k =
    record { setting = k.setting; input = k.input; calls = k.calls; held = λ h there. k.held h (end_inside z.past (entry_of z) (end_of g) h there); ran = k.ran; commands = k.commands; further = k.further; sessions = k.sessions; unshared = k.unshared }

grants_on : (y : Step) (p : ℕ) (g : Grant) (z : Step) → OldOrOrphan y p g → Leaving y p z → Leaving y p (add_grant g z)
grants_on y p g z orphan k =
    record { setting = k.setting; input = k.input; calls = k.calls; held = λ h there. by h (old_or_granted z g h there); ran = k.ran; commands = k.commands; further = k.further; sessions = k.sessions; unshared = k.unshared } where
      by : (h : Grant) → Contains (holdings (seen z)) h ⊎ (g ≡ h) → OldOrOrphan y p h
      by h (inl old) = k.held h old
      by h (inr new) = subst (λ e. OldOrOrphan y p e) new orphan

replies_on : (y : Step) (p j : ℕ) (z : Step) → Leaving y p z → Leaving y p (add_reply j (NoProcess p) z)
replies_on y p j z k =
    record {
      setting = k.setting;
      input = k.input;
      calls = unanswered_same z.past (entry_of z) (record { job = j; reply = NoProcess p }) (ap (λ i. is_told i) k.input) ∙ k.calls;
      held = k.held;
      ran = λ i runs. k.ran i (ran_before z.past (entry_of z) (record { job = j; reply = NoProcess p }) i runs);
      commands = k.commands;
      further = k.further;
      sessions = k.sessions;
      unshared = k.unshared;
    }

pub left_so : (y : Step) (p : ℕ) → y.input ≡ Exit p → Leaving y p (leave_holdings p y)
unfolding leave_holdings
left_so y p input =
    for_each_keeps (λ z. Leaving y p z) (orphans_left p (holdings (seen y))) add_grant (end_holdings p y)
    (λ g there z k. grants_on y p g z (orphan g there) k)
    (for_each_keeps (λ z. Leaving y p z) (filter (λ (g : Grant). g.process == p) (holdings (seen y))) (λ g. add_end (end_of g)) y (λ g there z k. ends_on y p g z k)
    (record { setting = refl; input = input; calls = refl; held = λ h there. inl there; ran = λ j runs. runs; commands = λ j. refl; further = refl_le (next_child (seen y)); sessions = λ n. refl; unshared = λ since s at. refl })) where
      orphan : (g : Grant) → Contains (orphans_left p (holdings (seen y))) g → OldOrOrphan y p g
      orphan g there =
          let v = in_map orphan_of (filter (leaves_orphan (holdings (seen y)) p) (holdings (seen y))) g there in
          let f = kept_inside (leaves_orphan (holdings (seen y)) p) (holdings (seen y)) v.0 v.1 in
          let a = and_true (v.0.process == p && v.0.persistent) _ f.1 in
          inr (v.0, f.0, eqb-true v.0.process p (and_true (v.0.process == p) v.0.persistent a.0).0, v.2)

pub refused_so : (y : Step) (p : ℕ) (z : Step) → Leaving y p z → Leaving y p (refuse_jobs_of p z)
refused_so y p z k =
    for_each_keeps (λ w. Leaving y p w) (filter (is_job_of_process (seen z) p) (running_jobs z.setting (seen z))) (λ j. add_reply j.number (NoProcess p)) z (λ j there w h. replies_on y p j.number w h) k

-- ---- jobs of the process are refused

pub ran_on : (z : Step) (p : ℕ) (j : ℕ) → is_running (seen (refuse_jobs_of p z)) j ≡ true → is_running (seen z) j ≡ true
ran_on z p j =
    for_each_keeps (λ w. is_running (seen w) j ≡ true → is_running (seen z) j ≡ true) (filter (is_job_of_process (seen z) p) (running_jobs z.setting (seen z))) (λ i. add_reply i.number (NoProcess p)) z
    (λ i there w k runs. k (ran_before w.past (entry_of w) (record { job = i.number; reply = NoProcess p }) j runs)) (λ runs. runs)

-- A job of the process runs no more.
pub refused_there : (z : Step) (p j : ℕ) (c : Command) → is_running (seen (refuse_jobs_of p z)) j ≡ true → command_numbered z.setting (seen z) j ≡ Some c → process_named c ≡ Some p → ⊥
refused_there z p j c runs named process =
    let v = then_value command_of (job_numbered z.setting (seen z) j) c named in
    let i : Job = v.0 in
    let f = find_inside (λ (k : Job). k.number == j) (jobs z.setting (seen z)) i v.1 in
    let number : i.number ≡ j = eqb-true i.number j f.1 in
    let running : Contains (running_jobs z.setting (seen z)) i = kept (λ (k : Job). is_running (seen z) k.number) (jobs z.setting (seen z)) i (subst (λ n. is_running (seen z) n ≡ true) (sym number) (ran_on z p j runs)) f.0 in
    let its : is_job_of_process (seen z) p i ≡ true =
    ap (λ b. b || some_is (λ q. q == p) (child_of_job (seen z) i.number)) (ap (λ o. some_is (λ d. some_is (λ q. q == p) (process_named d)) o) v.2 ∙ (ap (λ o. some_is (λ q. q == p) o) process ∙ number_itself p)) in
    let there : Contains (filter (is_job_of_process (seen z) p) (running_jobs z.setting (seen z))) i = kept (is_job_of_process (seen z) p) (running_jobs z.setting (seen z)) i its running in
    not_both (is_running (seen (refuse_jobs_of p z)) j) runs
    (subst (λ n. is_running (seen (refuse_jobs_of p z)) n ≡ false) number (loop_stops (filter (is_job_of_process (seen z) p) (running_jobs z.setting (seen z))) (NoProcess p) z i there))

-- ---- the whole

no_zero : (st : Setting) (c : Command) (mode : Mode) → IsCommand st.layout c → aim_of_command c ≡ Some (Acquires mode) → process_named c ≡ Some no_process → ⊥
no_zero st (Acquire r shared p persistent) mode is aimed none =
    let low = in_range 1 (most_processes + most_children) p is.1 in
    never p low.0 (some_value p no_process none) where
      never : (p : ℕ) → 1 ≤ p → p ≡ 0 → ⊥
      never p low is = omega (arith, low, is)
no_zero st (RunProgram r shared path) mode is aimed none = none_some no_process none
no_zero st (Convert r shared p) mode is aimed none = true_is_false (sym (ap (λ o. acquires o) aimed)) where
  acquires : Option Aim → Bool
  acquires (Some (Acquires m)) = true
  acquires o = false
no_zero st (Release r p) mode is aimed none = true_is_false (sym (ap (λ o. acquires o) aimed)) where
  acquires : Option Aim → Bool
  acquires (Some (Acquires m)) = true
  acquires o = false
no_zero st (ReleaseOrphan r) mode is aimed none = none_some no_process none
no_zero st (AddLockspace a) mode is aimed none = none_some no_process none
no_zero st (RemLockspace a) mode is aimed none = none_some no_process none
no_zero st (InqLockspace a) mode is aimed none = none_some no_process none
no_zero st (HostStatus a) mode is aimed none = none_some no_process none
no_zero st (TakeOver r shared p persistent) mode is aimed none = none_some (Acquires mode) aimed
no_zero st (Request r lver force) mode is aimed none = none_some no_process none
no_zero st (GetLvb r p) mode is aimed none = none_some (Acquires mode) aimed
no_zero st (SetLvb r p bytes) mode is aimed none = none_some (Acquires mode) aimed
no_zero st (SetKillpath p path) mode is aimed none = none_some (Acquires mode) aimed
no_zero st Status mode is aimed none = none_some no_process none

pub exit_works : (y : Step) (p : ℕ) → IsSetting y.setting → y.input ≡ Exit p → WorksAt y → WorksAt (refuse_jobs_of p (leave_holdings p y))
exit_works y p is input h = subst (λ st. WorkFacts st (seen u) (heard_by u.input)) (sym all.setting) facts where
  z : Step
  z = leave_holdings p y

  u : Step
  u = refuse_jobs_of p z

  mid : Leaving y p z
  mid = left_so y p input

  all : Leaving y p u
  all = refused_so y p z mid

  waits : (m : Submitted) → IsWaiting (seen u) (heard_by u.input) m → m.answer ≡ None
  waits m (inl none) = none
  waits m (inr k) = absurd (none_some m.call.number (sym (ap (λ i. heard_by i) all.input) ∙ k.0))

  old : (m : Submitted) (j : ℕ) (step : LeaseStep) (c : Command) → IsAtWork y.setting (seen u) (heard_by u.input) m j step c → IsAtWork y.setting (seen y) (heard_by y.input) m j step c
  old m j step c k =
      record { there = subst (λ ms. Contains ms m) all.calls k.there; opens = inl (waits m k.opens); purpose = k.purpose; runs = all.ran j k.runs; command = sym (all.commands j) ∙ k.command }

  orphaned : (m : Submitted) (j : ℕ) (step : LeaseStep) (c : Command) (aim : Aim) (l : Grant) → IsAtWork y.setting (seen u) (heard_by u.input) m j step c → aim_of_command c ≡ Some aim → l.process ≡ p → MayBeHeld m c aim l → MayBeHeld m c aim (orphan_of l)
  orphaned m j step c (Acquires mode) l k aimed its may =
      (may.0, may.1, may.2, λ none. no_zero y.setting c mode (commands_fit y.setting (seen y) j c is (sym (all.commands j) ∙ k.command)) aimed none)
  orphaned m j step c (Converts mode) l k aimed its may =
      absurd (refused_there z p j c k.runs
      (subst (λ st. command_numbered st (seen z) j ≡ Some c) (sym mid.setting) (mid.commands j ∙ (sym (all.commands j) ∙ k.command))) (may.0 ∙ ap (λ n. Some n) its))
  orphaned m j step c Releases l k aimed its may = may
  orphaned m j step c Settles l k aimed its may = tt

  by : (m : Submitted) (j : ℕ) (step : LeaseStep) (c : Command) (aim : Aim) (g : Grant) → IsAtWork y.setting (seen u) (heard_by u.input) m j step c → aim_of_command c ≡ Some aim → OldOrOrphan y p g
      → IsTrue (same_place g.path g.offset (spot_of_call y.setting.layout m).path (spot_of_call y.setting.layout m).base) → MayBeHeld m c aim g
  by m j step c aim g k aimed (inl was) same = h.beside m j step c aim g (old m j step c k) aimed was same
  by m j step c aim g k aimed (inr o) same =
      subst (λ e. MayBeHeld m c aim e) o.3
      (orphaned m j step c aim o.0 k aimed o.2
      (h.beside m j step c aim o.0 (old m j step c k) aimed o.1 (subst (λ (e : Grant). IsTrue (same_place e.path e.offset (spot_of_call y.setting.layout m).path (spot_of_call y.setting.layout m).base)) (sym o.3) same)))

  facts : WorkFacts y.setting (seen u) (heard_by u.input)
  facts =
      record {
        beside = λ m j step c aim g k aimed there same. by m j step c aim g k aimed (all.held g there) same;
        modes = λ m j step c k aimed. h.modes m j step c (old m j step c k) aimed;
        acts = λ m j step c q k named. lt_then_le q (next_child (seen y)) (next_child (seen u)) (h.acts m j step c q (old m j step c k) named) all.further;
        unshared = λ m d j step earlier c mode s k aimed its there purpose.
            all.unshared d.at s (spot_of_call y.setting.layout m)
            ∙ h.unshared m d j step earlier c mode s (old m j step c k) aimed (sym (all.sessions m.call.session) ∙ its) (subst (λ ms. Contains ms d) all.calls there) purpose;
      }
