-- The orphans among the grants are lawful: an exit alone makes some, each of a persistent holding where there is none yet, and no process
-- that is granted a resource is none.
use Rattle.sl_due_facts.specs.Acts.Acts.{next_of_conversion, next_of_release}
use Rattle.sl_trace.specs.declared.effects.LeaseRead.TheVariants.{OfArea, OfFree}
use Rattle.sl_due_facts.proofs.Acts.EffectsKeep.{delta, removal, signalled}
use Rattle.sl_due_facts.proofs.Acts.LoopsKeep.{for_each_keeps}
use Rattle.sl_due_facts.specs.Acts.TraceSoFar.{entry_of}
use Rattle.sl_due.specs.DueCommands.{after_end, carry_decision}
use Rattle.sl_due.specs.CarriedDelta.{carry_delta, see_request}
use Rattle.sl_due.specs.DueTimeOuts.{remove_connection}
use Rattle.sl_due.specs.DueRecovery.{signal_and_refuse, signal_holders}
use Rattle.sl_due.specs.DueInputs.{end_holdings, leave_holdings, refuse_jobs_of}
use Rattle.sl_due.specs.CarriedLease.{carry_lease, convert_for, convert_holding, for_work, grant_for, grant_of, held_otherwise, next_of_lease, with_command}
use Rattle.sl_due.specs.Steps.{Step, add_end, add_grant, add_reply, seen, with_input, with_some}
use Rattle.sl_due.specs.declared.decision.Decision.TheVariants.{ConvertsTo, GetsValue, GivesUp, Joins, Leaves, ReadsArea, Replies, Requests, SetsValue, Shares, TakesOver}
use Rattle.sl_due.specs.declared.decision.Decision.{Decision}
use Rattle.sl_due_leases.proofs.Grants.NothingGranted.{GrantingActs, by_granting, none_begin, stopped_grants}
use Rattle.sl_due_leases.proofs.Grants.EndsAreLawful.{Going, StandsAt, last_or, stand_effects, stands}
use Rattle.sl_due_leases.proofs.Grants.WorksByLines.{held_before}
use Rattle.sl_due_leases.specs.Grants.GrantLaws.{OrphansAreLawful, OrphansBegin, OrphansSoFar}
use Rattle.sl_due_leases.proofs.Holdings.LeaseCallers.{commands_fit}
use Rattle.sl_due_leases.proofs.Holdings.LeaseConversions.{converted, otherwise}
use Rattle.sl_due_leases.proofs.Holdings.MomentsAreKept.{delta_ungranting, removal_alike, same, signalled_alike}
use Rattle.sl_due_leases.specs.Holdings.Moments.{Known}
use Rattle.sl_run.specs.Lawful.{IsSetting}
use Rattle.sl_run.specs.LawfulGrant.{LawfulOrphan}
use Rattle.sl_trace.specs.Jobs.{command_numbered, is_job_of_process, process_named}
use Rattle.sl_trace.specs.Leases.{holdings_on, spot_of, spot_of_call}
use Rattle.sl_trace.specs.declared.lease.LeaseNext.TheVariants.{AnswerJob, BecomeExclusive, BecomeShared, GrantJob, Nothing, ReadFor, WriteBlock, WriteLeader}
use Rattle.sl_trace.specs.declared.lease.LeaseNext.{LeaseNext}
use Rattle.sl_words.proofs.Lists.{contains_none, in_map, kept_inside}
use Rattle.sl_sector.proofs.RuleLaws.{in_range}
use Rattle.sl_trace.specs.DeltaDecisions.{delta_known, delta_of_session, next_free}
use Rattle.sl_trace.specs.declared.delta.DeltaNext.{DeltaNext}
use Rattle.sl_trace.specs.declared.session.Session.{Session}
use Rattle.sl_trace.specs.CommandForms.{IsCommand}
use Rattle.sl_trace.specs.CountLimits.{most_children, most_processes}
use Rattle.sl_trace.specs.Traces.{children, end_of, first_child, has_orphan_of, holdings, is_orphan, leaves_orphan, next_child, next_job, no_process, orphan_of, orphans_left, running_jobs, spot_of_grant}
use Rattle.sl_trace.specs.declared.command.Command.TheVariants.{Acquire, AddLockspace, Convert, GetLvb, HostStatus, InqLockspace, Release, ReleaseOrphan, RemLockspace, Request, RunProgram, SetKillpath, SetLvb, Status, TakeOver}
use Rattle.sl_trace.specs.declared.command.Command.{Command}
use Rattle.sl_trace.specs.declared.effects.Grant.{Grant}
use Rattle.sl_trace.specs.declared.effects.LeaseStep.TheVariants.{ReadAgain, ReadArea, ReadBeforeFree}
use Rattle.sl_trace.specs.declared.effects.Mode.TheVariants.{Exclusive, Shared}
use Rattle.sl_trace.specs.declared.effects.Mode.{Mode}
use Rattle.sl_trace.specs.declared.effects.Signal.TheVariants.{Kill}
use Rattle.sl_trace.specs.declared.effects.Spot.{Spot}
use Rattle.sl_trace.specs.declared.effects.Work.TheVariants.{ForJob, Settling}
use Rattle.sl_trace.specs.declared.effects.Work.{Work}
use Rattle.sl_trace.specs.declared.input.Input.TheVariants.{Exit, Line}
use Rattle.sl_trace.specs.declared.reply.Reply.TheVariants.{Done, NoProcess}
use Rattle.sl_words.proofs.CaseLaws.{is_false, none_some, not_both, some_value, true_is_false}
use Rattle.sl_words.proofs.WordLaws.{and_true}
use Rattle.std.proofs.Common.{ap, arith, inl, inr, refl, subst, sym, ◌∙◌}
use Rattle.std.proofs.lemmas.Bool.{eqb-true}
use Rattle.std.specs.Prelude.{Bool, Contains, List, None, Ok, Option, Some, [], false, filter, length, not, true, ℕ, ◌&&◌, ◌+◌, ◌++◌, ◌==◌, ◌∷◌, ◌≡◌, ◌≤◌, ◌⊎◌}

-- ---- none, as before, or one of a process

none_granted : (z : Step) → z.effects.grants ≡ [] → OrphansSoFar z
none_granted z none g there orphan = absurd (contains_none g (subst (λ gs. Contains gs g) none there))

going : (x z : Step) → Going x z → OrphansSoFar x → OrphansSoFar z
going x z k h g there orphan =
    let o = h g (subst (λ gs. Contains gs g) k.grants there) orphan in
    record {
      left = o.left;
      held = subst (λ t. Contains (holdings t) o.left) (sym k.past) o.held;
      exits = k.input ∙ o.exits;
      persistent = o.persistent;
      becomes = o.becomes;
      first = subst (λ t. has_orphan_of (holdings t) g ≡ false) (sym k.past) o.first;
    }

so_far : (x : Step) → Known x → OrphansSoFar x
so_far x k = k.0.orderly.granting.0.orphans

own_granted : (w : Step) (old : List Grant) (g : Grant) → old ≡ [] → w.effects.grants ≡ old ++ g ∷ [] → is_orphan g ≡ false → OrphansSoFar w
own_granted w old g none grants own h there orphan = by (last_or old g h (subst (λ gs. Contains gs h) grants there)) where
  by : Contains old h ⊎ (g ≡ h) → LawfulOrphan w.past (entry_of w) h
  by (inl was) = absurd (contains_none h (subst (λ gs. Contains gs h) none was))
  by (inr is) = absurd (not_both (is_orphan h) orphan (subst (λ k. is_orphan k ≡ false) is own))

-- ---- the exit

pub record Orphaning (x : Step) (p : ℕ) (z : Step) : Type 0 where
  pub stand : StandsAt x z
  pub grants : (g : Grant) → Contains z.effects.grants g → Contains x.effects.grants g ⊎ ((l : Grant) × Contains (holdings (seen x)) l × (leaves_orphan (holdings (seen x)) p l ≡ true) × (orphan_of l ≡ g))

pub left_orphans : (x : Step) (p : ℕ) → Orphaning x p (refuse_jobs_of p (leave_holdings p x))
unfolding leave_holdings
left_orphans x p = refused (leave_holdings p x) left where
  one : (z : Step) (g e : Grant) → Contains (orphans_left p (holdings (seen x))) g → Orphaning x p z → Contains z.effects.grants e ⊎ (g ≡ e)
      → Contains x.effects.grants e ⊎ ((l : Grant) × Contains (holdings (seen x)) l × (leaves_orphan (holdings (seen x)) p l ≡ true) × (orphan_of l ≡ e))
  one z g e there k (inl was) = k.grants e was
  one z g e there k (inr is) =
      let v = in_map orphan_of (filter (leaves_orphan (holdings (seen x)) p) (holdings (seen x))) g there in
      let f = kept_inside (leaves_orphan (holdings (seen x)) p) (holdings (seen x)) v.0 v.1 in
      inr (v.0, f.0, f.1, v.2 ∙ is)

  begun : Orphaning x p (end_holdings p x)
  begun =
      for_each_keeps (λ z. Orphaning x p z) (filter (λ g. g.process == p) (holdings (seen x))) (λ g. add_end (end_of g)) x (λ g there z k. record { stand = k.stand; grants = k.grants })
      (record { stand = (refl, refl, refl); grants = λ g there. inl there })

  left : Orphaning x p (leave_holdings p x)
  left =
      for_each_keeps (λ z. Orphaning x p z) (orphans_left p (holdings (seen x))) add_grant (end_holdings p x)
      (λ g there z k. record { stand = k.stand; grants = λ e inside. one z g e there k (last_or z.effects.grants g e inside) }) begun

  refused : (z : Step) → Orphaning x p z → Orphaning x p (refuse_jobs_of p z)
  refused z h =
      for_each_keeps (λ w. Orphaning x p w) (filter (is_job_of_process (seen z) p) (running_jobs z.setting (seen z))) (λ j. add_reply j.number (NoProcess p)) z
      (λ j there w k. record { stand = k.stand; grants = k.grants }) h

not_so : (b : Bool) → not b ≡ true → b ≡ false
not_so false is = refl
not_so true is = absurd (true_is_false (sym is))

exit_orphans : (y : Step) (p : ℕ) → y.input ≡ Exit p → y.effects.ends ≡ [] → y.effects.grants ≡ [] → OrphansSoFar (refuse_jobs_of p (leave_holdings p y))
exit_orphans y p input unended ungranted g there orphan = by (all.grants g there) where
  u : Step
  u = refuse_jobs_of p (leave_holdings p y)

  all : Orphaning y p u
  all = left_orphans y p

  by : Contains y.effects.grants g ⊎ ((l : Grant) × Contains (holdings (seen y)) l × (leaves_orphan (holdings (seen y)) p l ≡ true) × (orphan_of l ≡ g)) → LawfulOrphan u.past (entry_of u) g
  by (inl was) = absurd (contains_none g (subst (λ gs. Contains gs g) ungranted was))
  by (inr f) =
      let a = and_true (f.0.process == p && f.0.persistent) (not (has_orphan_of (holdings (seen y)) f.0)) f.2 in
      let b = and_true (f.0.process == p) f.0.persistent a.0 in
      record {
        left = f.0;
        held = subst (λ t. Contains (holdings t) f.0) (sym all.stand.1) (subst (λ hs. Contains hs f.0) (held_before y unended ungranted) f.1);
        exits = all.stand.2 ∙ (input ∙ ap (λ n. Exit n) (sym (eqb-true f.0.process p b.0)));
        persistent = b.1;
        becomes = sym f.3;
        first = subst (λ t. has_orphan_of (holdings t) g ≡ false) (sym all.stand.1)
            (subst (λ hs. has_orphan_of hs g ≡ false) (held_before y unended ungranted) (subst (λ k. has_orphan_of (holdings (seen y)) k ≡ false) f.3 (not_so (has_orphan_of (holdings (seen y)) f.0) a.1)));
      }

-- ---- what is granted to a process

some_process : (p : ℕ) → 1 ≤ p → (p == no_process) ≡ false
some_process p low = is_false (p == no_process) (λ is. never p low (eqb-true p no_process is)) where
  never : (p : ℕ) → 1 ≤ p → p ≡ 0 → ⊥
  never p low is = omega (arith, low, is)

child_process : (n : ℕ) → (first_child + n == no_process) ≡ false
child_process n = some_process (first_child + n) (omega arith)

granted_orphans : (x : Step) (s : Session) (j : ℕ) (c : Command) (mode : Mode) (lver : ℕ) → IsCommand x.setting.layout c → x.effects.grants ≡ [] → OrphansSoFar (grant_for s j c mode lver x)
granted_orphans x s j (Acquire r shared p persistent) mode lver is none =
    own_granted (grant_for s j (Acquire r shared p persistent) mode lver x) x.effects.grants (grant_of s r p mode lver persistent) none refl (some_process p (in_range 1 (most_processes + most_children) p is.1).0)
granted_orphans x s j (TakeOver r shared p persistent) mode lver is none =
    own_granted (grant_for s j (TakeOver r shared p persistent) mode lver x) x.effects.grants (grant_of s r p mode lver persistent) none refl (some_process p (in_range 1 (most_processes + most_children) p is.1).0)
granted_orphans x s j (RunProgram r shared path) mode lver is none =
    own_granted (grant_for s j (RunProgram r shared path) mode lver x) x.effects.grants (grant_of s r (next_child (seen x)) mode lver false) none refl (child_process (length (children (seen x))))
granted_orphans x s j (AddLockspace a) mode lver is none = none_granted x none
granted_orphans x s j (RemLockspace a) mode lver is none = none_granted x none
granted_orphans x s j (InqLockspace a) mode lver is none = none_granted x none
granted_orphans x s j (HostStatus a) mode lver is none = none_granted x none
granted_orphans x s j (Release r p) mode lver is none = none_granted x none
granted_orphans x s j (ReleaseOrphan r) mode lver is none = none_granted x none
granted_orphans x s j (Convert r shared p) mode lver is none = none_granted x none
granted_orphans x s j (Request r v how) mode lver is none = none_granted x none
granted_orphans x s j (GetLvb r p) mode lver is none = none_granted x none
granted_orphans x s j (SetLvb r p bytes) mode lver is none = none_granted x none
granted_orphans x s j (SetKillpath p path) mode lver is none = none_granted x none
granted_orphans x s j Status mode lver is none = none_granted x none

-- A command names no orphan's process.
named_process : (x : Step) (c : Command) (p : ℕ) → IsCommand x.setting.layout c → process_named c ≡ Some p → (p == no_process) ≡ false
named_process x (Acquire r shared q persistent) p is named = some_process p (subst (λ n. 1 ≤ n) (some_value q p named) (in_range 1 (most_processes + most_children) q is.1).0)
named_process x (TakeOver r shared q persistent) p is named = some_process p (subst (λ n. 1 ≤ n) (some_value q p named) (in_range 1 (most_processes + most_children) q is.1).0)
named_process x (Release r q) p is named = some_process p (subst (λ n. 1 ≤ n) (some_value q p named) (in_range 1 (most_processes + most_children) q is.1).0)
named_process x (Convert r shared q) p is named = some_process p (subst (λ n. 1 ≤ n) (some_value q p named) (in_range 1 (most_processes + most_children) q is.1).0)
named_process x (GetLvb r q) p is named = some_process p (subst (λ n. 1 ≤ n) (some_value q p named) (in_range 1 (most_processes + most_children) q is.1).0)
named_process x (SetLvb r q bytes) p is named = some_process p (subst (λ n. 1 ≤ n) (some_value q p named) (in_range 1 (most_processes + most_children) q is.1).0)
named_process x (SetKillpath q path) p is named = some_process p (subst (λ n. 1 ≤ n) (some_value q p named) (in_range 1 (most_processes + most_children) q is.0).0)
named_process x (AddLockspace a) p is named = absurd (none_some p named)
named_process x (RemLockspace a) p is named = absurd (none_some p named)
named_process x (InqLockspace a) p is named = absurd (none_some p named)
named_process x (HostStatus a) p is named = absurd (none_some p named)
named_process x (ReleaseOrphan r) p is named = absurd (none_some p named)
named_process x (RunProgram r shared path) p is named = absurd (none_some p named)
named_process x (Request r v how) p is named = absurd (none_some p named)
named_process x Status p is named = absurd (none_some p named)

became_orphans : (x : Step) (s : Session) (at : Spot) (j : ℕ) (mode : Mode) (lver : ℕ) → IsSetting x.setting → x.effects.grants ≡ [] → OrphansSoFar (for_work (ForJob j) (λ k. with_command k (λ c. convert_for s at k c mode lver)) x)
became_orphans x s at j mode lver is none = by_command (command_numbered x.setting (seen x) j) refl where
  found : (p : ℕ) → (p == no_process) ≡ false → (o : Option Grant) → held_otherwise (seen x) s at p mode ≡ o → OrphansSoFar (with_some o (convert_holding j mode lver) x)
  found p own None at_p = none_granted x none
  found p own (Some g) at_p =
      own_granted (convert_holding j mode lver g x) x.effects.grants (converted g mode lver) none refl (subst (λ n. (n == no_process) ≡ false) (sym (otherwise x s at p mode g at_p).3) own)

  by_process : (c : Command) → IsCommand x.setting.layout c → (o : Option ℕ) → process_named c ≡ o → OrphansSoFar (with_some o (λ p y. with_some (held_otherwise (seen y) s at p mode) (convert_holding j mode lver) y) x)
  by_process c fits None named = none_granted x none
  by_process c fits (Some p) named = found p (named_process x c p fits named) (held_otherwise (seen x) s at p mode) refl

  by_command : (o : Option Command) → command_numbered x.setting (seen x) j ≡ o → OrphansSoFar (with_some o (λ c. convert_for s at j c mode lver) x)
  by_command None named = none_granted x none
  by_command (Some c) named = by_process c (commands_fit x.setting (seen x) j c is named) (process_named c) refl

led_orphans : (x : Step) (s : Session) (at : Spot) (work : Work) (n : LeaseNext) → IsSetting x.setting → x.effects.grants ≡ [] → OrphansSoFar (carry_lease s at work n x)
unfolding carry_lease
led_orphans x s at work Nothing is none = none_granted x none
led_orphans x s at work (ReadFor (ReadArea name)) is none = none_granted (carry_lease s at work (ReadFor (ReadArea name)) x) none
led_orphans x s at work (ReadFor ReadBeforeFree) is none = none_granted (carry_lease s at work (ReadFor ReadBeforeFree) x) none
led_orphans x s at work (ReadFor (ReadAgain (OfArea name))) is none = none_granted (carry_lease s at work (ReadFor (ReadAgain (OfArea name))) x) none
led_orphans x s at work (ReadFor (ReadAgain OfFree)) is none = none_granted (carry_lease s at work (ReadFor (ReadAgain OfFree)) x) none
led_orphans x s at work (ReadFor step) is none = none_granted (carry_lease s at work (ReadFor step) x) none
led_orphans x s at work (WriteBlock step b) is none = none_granted (carry_lease s at work (WriteBlock step b) x) none
led_orphans x s at work (WriteLeader step l) is none = none_granted (carry_lease s at work (WriteLeader step l) x) none
led_orphans x s at Settling (AnswerJob r) is none = none_granted x none
led_orphans x s at (ForJob j) (AnswerJob r) is none = none_granted (add_reply j r x) none
led_orphans x s at Settling (GrantJob mode lver) is none = none_granted x none
led_orphans x s at (ForJob j) (GrantJob mode lver) is none = by (command_numbered x.setting (seen x) j) refl where
  by : (o : Option Command) → command_numbered x.setting (seen x) j ≡ o → OrphansSoFar (with_some o (λ c. grant_for s j c mode lver) x)
  by None named = none_granted x none
  by (Some c) named = granted_orphans x s j c mode lver (commands_fit x.setting (seen x) j c is named) none
led_orphans x s at Settling (BecomeShared lver l) is none = none_granted (carry_lease s at Settling (BecomeShared lver l) x) none
led_orphans x s at (ForJob j) (BecomeShared lver l) is none =
    let z : Step = for_work (ForJob j) (λ k. with_command k (λ c. convert_for s at k c Shared lver)) x in
    going z (carry_lease s at (ForJob j) (BecomeShared lver l) x) (record { setting = refl; past = refl; input = refl; ends = refl; grants = refl }) (became_orphans x s at j Shared lver is none)
led_orphans x s at Settling (BecomeExclusive lver b) is none = none_granted (carry_lease s at Settling (BecomeExclusive lver b) x) none
led_orphans x s at (ForJob j) (BecomeExclusive lver b) is none =
    let z : Step = for_work (ForJob j) (λ k. with_command k (λ c. convert_for s at k c Exclusive lver)) x in
    going z (carry_lease s at (ForJob j) (BecomeExclusive lver b) x) (record { setting = refl; past = refl; input = refl; ends = refl; grants = refl }) (became_orphans x s at j Exclusive lver is none)

-- ---- commands

released_orphans : (z : Step) (j : ℕ) (s : Session) (g : Grant) → IsSetting z.setting → z.effects.grants ≡ [] → OrphansSoFar (after_end s (spot_of_grant g) j g z)
unfolding after_end
released_orphans z j s g is none = by (holdings_on (seen z) s (spot_of_grant g)) where
  by : (hs : List Grant)
      → OrphansSoFar (elim hs as (λ v. Step) [
        | e ∷ es ↦ add_reply j Done z
        | [] ↦ carry_lease s (spot_of_grant g) (ForJob j) (next_of_release z.setting (seen z) s (spot_of_grant g) g) z
      ])
  by (e ∷ es) = none_granted (add_reply j Done z) none
  by [] = led_orphans z s (spot_of_grant g) (ForJob j) (next_of_release z.setting (seen z) s (spot_of_grant g) g) is none

lines_orphan : (x : Step) (text : List ℕ) (c : Command) (j : ℕ) (d : Decision) → IsSetting x.setting → x.effects.grants ≡ [] → x.setting.read text ≡ Ok c → OrphansSoFar (carry_decision j c d (with_input (Line text) x))
unfolding carry_decision
lines_orphan x text c j d is none says = by d where
  y : Step
  y = with_input (Line text) x

  command : IsCommand x.setting.layout c
  command = is.reads text c says

  by : (d : Decision) → OrphansSoFar (carry_decision j c d y)
  by (Replies r) = none_granted y none
  by (Joins n a) = none_granted (carry_decision j c (Joins n a) y) none
  by (Leaves s) = none_granted (signal_and_refuse s (Some j) y) (stopped_grants y s (Some j) ∙ none)
  by (ReadsArea s r) = none_granted (carry_decision j c (ReadsArea s r) y) none
  by (Shares s lver) = granted_orphans y s j c Shared lver command none
  by (GivesUp s e) = released_orphans (add_end (end_of e) y) j s e is none
  by (TakesOver s e) = granted_orphans (add_end (end_of e) y) s j c e.mode e.lver command none
  by (ConvertsTo s r mode) = led_orphans y s (spot_of r) (ForJob j) (next_of_conversion x.setting (seen y) s (spot_of r) mode r.name) is none
  by (Requests s r) = none_granted (carry_decision j c (Requests s r) y) none
  by (SetsValue s spot v) = none_granted (carry_decision j c (SetsValue s spot v) y) none
  by (GetsValue s spot) = none_granted (carry_decision j c (GetsValue s spot) y) none

-- ---- the whole

pub orphans_are_lawful : OrphansAreLawful
orphans_are_lawful = by_granting OrphansSoFar none_granted orphans where
  orphans : GrantingActs OrphansSoFar
  orphans =
      record {
        kills = λ x s has due k.
            let a = signalled_alike x Kill s in
            going x (signal_holders Kill s x) (stands x (signal_holders Kill s x) (signalled (λ z. StandsAt x z) (stand_effects x) x Kill s (refl, refl, refl)) a.ends a.grants) (so_far x k);
        exits = λ x p wake bare one k. exit_orphans (with_input (Exit p) x) p refl (k.1.waking wake).0 (k.1.waking wake).1;
        carries = λ x text c d wake bare says is more k. lines_orphan x text c (next_job x.setting (seen x)) d k.0.setting (k.1.waking wake).1 says;
        sees = λ x s number bytes at g has input held k. going x (see_request s g x) (record { setting = refl; past = refl; input = refl; ends = refl; grants = refl }) (so_far x k);
        leads_on = λ x s work step m answer aim hears is on at k.
            led_orphans x s (spot_of_call x.setting.layout m) work (next_of_lease x.setting (seen x) s (spot_of_call x.setting.layout m) aim m step answer) k.0.setting hears.ungranted;
        parts = λ x s has joined recovers free quiet k.
            let a = removal_alike x x s.lockspace (same x) in
            going x (remove_connection s.lockspace x) (stands x (remove_connection s.lockspace x) (removal (λ z. StandsAt x z) (stand_effects x) x s.lockspace (refl, refl, refl)) a.ends a.grants) (so_far x k);
        frees = λ x s has joined well free quiet k.
            let n : DeltaNext = next_free (delta_of_session x.setting s) x.reading (delta_known x.setting (seen x) s) in
            let a = delta_ungranting x s n in
            going x (carry_delta s n x) (stands x (carry_delta s n x) (delta (λ z. StandsAt x z) (stand_effects x) x s has n (refl, refl, refl)) a.ends a.grants) (so_far x k);
      }

pub orphans_begin : OrphansBegin
orphans_begin = none_begin OrphansSoFar none_granted
