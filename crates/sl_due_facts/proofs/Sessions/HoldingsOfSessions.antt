-- Whose the holdings are that an act leaves: of sessions that held before, or of the act's own.
use Rattle.sl_due_facts.proofs.Acts.AddedAtEnd.{contains_last}
use Rattle.sl_due_facts.proofs.Acts.LoopsKeep.{for_each_keeps, when_keeps, with_some_keeps}
use Rattle.sl_due_facts.specs.Acts.TraceSoFar.{entry_of}
use Rattle.sl_due.specs.CarriedDelta.{carry_delta, for_joining, move_connection, read_own_sector, register, survey, write_own_sector}
use Rattle.sl_due.specs.DueTimeOuts.{refuse, remove_connection, remove_of_refused}
use Rattle.sl_due.specs.DueRecovery.{send, signal_and_refuse, signal_holders}
use Rattle.sl_due.specs.DueInputs.{end_holdings, leave_holdings}
use Rattle.sl_due.specs.CarriedLease.{carry_lease, convert_for, convert_holding, for_work, grant_for, grant_of, held_otherwise, read_for, with_command}
use Rattle.sl_due.specs.Steps.{Step, add_end, add_grant, add_move, add_reply, add_signal, add_start, seen, with_some}
use Rattle.sl_due_facts.proofs.Jobs.JobFactsGrow.{contains_left, contains_right}
use Rattle.sl_due_facts.proofs.Jobs.SessionsHaveJobs.{contains_either}
use Rattle.sl_trace.specs.KillPrograms.{stopper_of}
use Rattle.sl_trace.specs.Jobs.{command_numbered, jobs_of_session, process_named}
use Rattle.sl_trace.specs.Leases.{holdings_on}
use Rattle.sl_trace.specs.declared.lease.LeaseNext.{LeaseNext}
use Rattle.sl_trace.specs.declared.lease.LeaseNext.TheVariants.{AnswerJob, BecomeExclusive, BecomeShared, GrantJob, Nothing as No_lease, ReadFor, WriteBlock, WriteLeader}
use Rattle.sl_due_facts.proofs.AddedEffects.EffectsAreTold.{effects_are_told}
use Rattle.sl_words.proofs.Lists.{find_inside, in_map, kept_inside}
use Rattle.sl_trace.specs.Sessions.{has_open_write, holders_of, holdings_of, last_renewal, refused_after, session_of_job}
use Rattle.sl_trace.specs.declared.delta.DeltaNext.{DeltaNext}
use Rattle.sl_trace.specs.declared.delta.DeltaNext.TheVariants.{Disconnect, EndLeaving, Join, MoveConnection, Nothing, ReadOwn, RefuseJoin, RegisterAndRead, WriteClaim, WriteFirst, WriteFree, WriteRenewal}
use Rattle.sl_trace.specs.declared.session.Session.{Session}
use Rattle.sl_trace.specs.WatchdogConnections.{is_registered}
use Rattle.sl_trace.specs.Traces.{Job, end_of, holdings, is_ended_by, is_running, is_shared, leaves_orphan, next_child, orphan_of, orphans_left, same_place, work_job}
use Rattle.sl_trace.specs.declared.command.Command.{Command}
use Rattle.sl_trace.specs.declared.command.Command.TheVariants.{Acquire, RunProgram, TakeOver}
use Rattle.sl_trace.specs.declared.effects.End.{End}
use Rattle.sl_trace.specs.declared.effects.Grant.{Grant}
use Rattle.sl_trace.specs.declared.effects.JoinStep.TheVariants.{ClaimWrite, FirstRenewal}
use Rattle.sl_trace.specs.declared.effects.LeaseStep.{LeaseStep}
use Rattle.sl_trace.specs.declared.effects.LeaseRead.TheVariants.{OfArea, OfBlock, OfFree, OfPhase1, OfPhase2}
use Rattle.sl_trace.specs.declared.effects.LeaseStep.TheVariants.{ClearMode, FreeLeader, Phase1Read, Phase1Write, Phase2Read, Phase2Write, ReadAgain, ReadArea, ReadBeforeBlock, ReadBeforeFree, SetMode, TakeLeader}
use Rattle.sl_trace.specs.declared.effects.Mode.{Mode}
use Rattle.sl_trace.specs.declared.effects.Mode.TheVariants.{Exclusive, Shared}
use Rattle.sl_trace.specs.declared.effects.Move.TheVariants.{Unregister}
use Rattle.sl_trace.specs.declared.effects.Purpose.TheVariants.{Joining}
use Rattle.sl_trace.specs.declared.effects.Signal.{Signal}
use Rattle.sl_trace.specs.declared.effects.Signal.TheVariants.{Kill, Term}
use Rattle.sl_trace.specs.declared.effects.Spot.{Spot}
use Rattle.sl_trace.specs.declared.effects.Work.{Work}
use Rattle.sl_trace.specs.declared.reply.Reply.{Reply}
use Rattle.sl_trace.specs.declared.reply.Reply.TheVariants.{Generation, Recovering}
use Rattle.sl_words.specs.Words.{same_truth, some_is}
use Rattle.std.proofs.Common.{ap, inl, inr, refl, subst}
use Rattle.std.proofs.lemmas.Bool.{eqb-true}
use Rattle.std.specs.Prelude.{Contains, List, None, Option, Some, [], false, filter, is_some, not, ℕ, ◌&&◌, ◌==◌, ◌∷◌, ◌≡◌, ◌⊎◌}

abbrev pub HeldBy : Step → ℕ → Step → Type 0
HeldBy x n y = (g : Grant) → Contains (holdings (seen y)) g → ((h : Grant) × Contains (holdings (seen x)) h × (h.session ≡ g.session)) ⊎ (g.session ≡ n)

pub held_itself : (x : Step) (n : ℕ) → HeldBy x n x
held_itself x n g there = inl (g, there, refl)

pub end_held : (x : Step) (n : ℕ) (y : Step) (e : End) → HeldBy x n y → HeldBy x n (add_end e y)
end_held x n y e h g there = by (contains_either (filter (λ (k : Grant). not (is_ended_by (e ∷ []) k)) (filter (λ (k : Grant). not (is_ended_by y.effects.ends k)) (holdings y.past))) y.effects.grants g (subst (λ gs. Contains gs g) (effects_are_told.ends e (entry_of y) y.past) there)) where
  by : Contains (filter (λ (k : Grant). not (is_ended_by (e ∷ []) k)) (filter (λ (k : Grant). not (is_ended_by y.effects.ends k)) (holdings y.past))) g ⊎ Contains y.effects.grants g → ((k : Grant) × Contains (holdings (seen x)) k × (k.session ≡ g.session)) ⊎ (g.session ≡ n)
  by (inl was) =
      let inside = (kept_inside (λ (k : Grant). not (is_ended_by (e ∷ []) k)) (filter (λ (k : Grant). not (is_ended_by y.effects.ends k)) (holdings y.past)) g was).0 in
      h g (contains_left (filter (λ (k : Grant). not (is_ended_by y.effects.ends k)) (holdings y.past)) y.effects.grants g inside)
  by (inr new) = h g (contains_right (filter (λ (k : Grant). not (is_ended_by y.effects.ends k)) (holdings y.past)) y.effects.grants g new)

grant_held : (x : Step) (n : ℕ) (y : Step) (g : Grant) → ((k : Grant) × Contains (holdings (seen x)) k × (k.session ≡ g.session)) ⊎ (g.session ≡ n) → HeldBy x n y → HeldBy x n (add_grant g y)
grant_held x n y g its h k there = by (contains_last (holdings (seen y)) g k (subst (λ gs. Contains gs k) (effects_are_told.grants g (entry_of y) y.past) there)) where
  by : Contains (holdings (seen y)) k ⊎ (g ≡ k) → ((q : Grant) × Contains (holdings (seen x)) q × (q.session ≡ k.session)) ⊎ (k.session ≡ n)
  by (inl old) = h k old
  by (inr is) = subst (λ (z : Grant). ((q : Grant) × Contains (holdings (seen x)) q × (q.session ≡ z.session)) ⊎ (z.session ≡ n)) is its

-- ---- what holds through all that grants nothing

pub held_sent : (x : Step) (n : ℕ) (y : Step) (q : ℕ) (signal : Signal) → HeldBy x n y → HeldBy x n (send q signal y)
held_sent x n y q Kill h = h
held_sent x n y q Term h = by (stopper_of y.setting (seen y) q) where
  by : (o : Option (List ℕ))
      → HeldBy x n (elim o as (λ z. Step) [ None ↦ add_signal q Term y | Some program ↦ add_start (record { process = next_child (seen y); program = program; job = None; stands_for = Some q }) y ])
  by None = h
  by (Some program) = h

pub held_signals : (x : Step) (n : ℕ) (y : Step) (signal : Signal) (s : Session) → HeldBy x n y → HeldBy x n (signal_holders signal s y)
held_signals x n y signal s h = for_each_keeps (HeldBy x n) (holders_of (seen y) s) (λ q. send q signal) y (λ q there z k. held_sent x n z q signal k) h

pub held_stop : (x : Step) (n : ℕ) (y : Step) (s : Session) (kept_one : Option ℕ) → HeldBy x n y → HeldBy x n (signal_and_refuse s kept_one y)
unfolding signal_and_refuse
held_stop x n y s kept_one h =
    let z : Step = signal_holders Term s y in
    for_each_keeps (HeldBy x n) (filter (λ (j : Job). not (some_is (λ i. i == j.number) kept_one)) (jobs_of_session z.setting (seen z) s)) (λ j. add_reply j.number (Recovering (last_renewal z.setting (seen z) s))) z
    (λ j there w k. k) (held_signals x n y Term s h)

pub held_removal : (x : Step) (n : ℕ) (y : Step) (name : List ℕ) → HeldBy x n y → HeldBy x n (remove_connection name y)
held_removal x n y name h = when_keeps (HeldBy x n) (is_registered y.setting (seen y) name) (add_move (Unregister name)) y (λ is k. k) h

pub held_refused : (x : Step) (n : ℕ) (y : Step) (s : Session) → HeldBy x n y → HeldBy x n (remove_of_refused s y)
held_refused x n y s h = when_keeps (HeldBy x n) (is_some (refused_after (seen y) s) && not (has_open_write (seen y) s)) (remove_connection s.lockspace) y (λ is k. held_removal x n y s.lockspace k) h

pub held_refusal : (x : Step) (n : ℕ) (y : Step) (j : ℕ) (r : Reply) → HeldBy x n y → HeldBy x n (refuse j r y)
unfolding refuse
held_refusal x n y j r h = with_some_keeps (HeldBy x n) (session_of_job y.setting (seen y) j) remove_of_refused (add_reply j r y) (λ s is k. held_refused x n (add_reply j r y) s k) h

held_joining : (x : Step) (n : ℕ) (y : Step) (s : Session) (f : ℕ → Step → Step) → ((j : ℕ) → HeldBy x n y → HeldBy x n (f j y)) → HeldBy x n y → HeldBy x n (for_joining s f y)
held_joining x n y s f keeps h = with_some_keeps (HeldBy x n) s.job f y (λ j is k. keeps j k) h

pub held_delta : (x : Step) (n : ℕ) (y : Step) (s : Session) (d : DeltaNext) → HeldBy x n y → HeldBy x n (carry_delta s d y)
unfolding carry_delta
held_delta x n y s Nothing h = h
held_delta x n y s (RefuseJoin r) h = held_joining x n y s (λ j. refuse j r) (λ j k. held_refusal x n y j r k) h
held_delta x n y s (ReadOwn step) h = held_joining x n y s (λ j. read_own_sector s (Joining j step)) (λ j k. k) h
held_delta x n y s (RegisterAndRead step) h = held_joining x n y s (λ j z. read_own_sector s (Joining j step) (register s z)) (λ j k. k) h
held_delta x n y s (WriteClaim d) h = held_joining x n y s (λ j. write_own_sector s (Joining j ClaimWrite) d) (λ j k. k) h
held_delta x n y s Disconnect h = held_removal x n y s.lockspace h
held_delta x n y s (WriteFirst d) h = held_joining x n y s (λ j. write_own_sector s (Joining j FirstRenewal) d) (λ j k. k) h
held_delta x n y s (Join generation renewed) h = held_joining x n y s (λ j z. survey s (add_reply j (Generation generation) (move_connection s renewed z))) (λ j k. k) h
held_delta x n y s (MoveConnection renewed) h = h
held_delta x n y s (WriteRenewal d) h = h
held_delta x n y s (WriteFree j d) h = h
held_delta x n y s (EndLeaving j r) h =
    when_keeps (HeldBy x n) (is_running (seen y) j) (add_reply j r) (remove_connection s.lockspace y) (λ is k. k) (held_removal x n y s.lockspace h)

-- ---- grants

pub held_grant : (x y : Step) (s : Session) (j : ℕ) (c : Command) (mode : Mode) (lver : ℕ) → HeldBy x s.number y → HeldBy x s.number (grant_for s j c mode lver y)
held_grant x y s j (Acquire r shared p persistent) mode lver h = grant_held x s.number y (grant_of s r p mode lver persistent) (inr refl) h
held_grant x y s j (TakeOver r shared p persistent) mode lver h = grant_held x s.number y (grant_of s r p mode lver persistent) (inr refl) h
held_grant x y s j (RunProgram r shared path) mode lver h = grant_held x s.number y (grant_of s r (next_child (seen y)) mode lver false) (inr refl) h
held_grant x y s j c mode lver h = h

held_convert : (x y : Step) (s : Session) (at : Spot) (work : Work) (mode : Mode) (lver : ℕ) → HeldBy x s.number y → HeldBy x s.number (for_work work (λ j. with_command j (λ c. convert_for s at j c mode lver)) y)
held_convert x y s at work mode lver h =
    with_some_keeps (HeldBy x s.number) (work_job work) (λ j. with_command j (λ c. convert_for s at j c mode lver)) y
    (λ j is k. with_some_keeps (HeldBy x s.number) (command_numbered y.setting (seen y) j) (λ c. convert_for s at j c mode lver) y
    (λ c found f. with_some_keeps (HeldBy x s.number) (process_named c) (λ q z. with_some (held_otherwise (seen z) s at q mode) (convert_holding j mode lver) z) y
    (λ q named d. with_some_keeps (HeldBy x s.number) (held_otherwise (seen y) s at q mode) (convert_holding j mode lver) y
    (λ g held b.
    let on = (find_inside (λ (z : Grant). z.process == q && not (same_truth (is_shared z.mode) (is_shared mode))) (holdings_on (seen y) s at) g held).0 in
    let under = (kept_inside (λ (z : Grant). same_place z.path z.offset at.path at.base) (holdings_of (seen y) s) g on).0 in
    let its : g.session ≡ s.number = eqb-true g.session s.number (kept_inside (λ (z : Grant). z.session == s.number) (holdings (seen y)) g under).1 in
    grant_held x s.number (add_end (end_of g) y) (record g { mode = mode; lver = lver }) (inr its) (end_held x s.number y (end_of g) b)) d) f) k) h

held_reads : (x : Step) (n : ℕ) (y : Step) (s : Session) (at : Spot) (work : Work) (step : LeaseStep) → HeldBy x n y → HeldBy x n (read_for s at work step y)
held_reads x n y s at work (ReadArea name) h = h
held_reads x n y s at work ReadBeforeFree h = h
held_reads x n y s at work ReadBeforeBlock h = h
held_reads x n y s at work (ReadAgain (OfArea name)) h = h
held_reads x n y s at work (ReadAgain OfFree) h = h
held_reads x n y s at work (ReadAgain OfBlock) h = h
held_reads x n y s at work (ReadAgain OfPhase1) h = h
held_reads x n y s at work (ReadAgain OfPhase2) h = h
held_reads x n y s at work Phase1Write h = h
held_reads x n y s at work Phase1Read h = h
held_reads x n y s at work Phase2Write h = h
held_reads x n y s at work Phase2Read h = h
held_reads x n y s at work TakeLeader h = h
held_reads x n y s at work SetMode h = h
held_reads x n y s at work FreeLeader h = h
held_reads x n y s at work ClearMode h = h

pub held_lease : (x y : Step) (s : Session) (at : Spot) (work : Work) (n : LeaseNext) → HeldBy x s.number y → HeldBy x s.number (carry_lease s at work n y)
unfolding carry_lease
held_lease x y s at work No_lease h = h
held_lease x y s at work (ReadFor step) h = held_reads x s.number y s at work step h
held_lease x y s at work (WriteBlock step b) h = h
held_lease x y s at work (WriteLeader step l) h = h
held_lease x y s at work (AnswerJob r) h = with_some_keeps (HeldBy x s.number) (work_job work) (λ j. add_reply j r) y (λ j is k. k) h
held_lease x y s at work (GrantJob mode lver) h =
    with_some_keeps (HeldBy x s.number) (work_job work) (λ j. with_command j (λ c. grant_for s j c mode lver)) y
    (λ j is k. with_some_keeps (HeldBy x s.number) (command_numbered y.setting (seen y) j) (λ c. grant_for s j c mode lver) y (λ c found f. held_grant x y s j c mode lver f) k) h
held_lease x y s at work (BecomeShared lver l) h = held_convert x y s at work Shared lver h
held_lease x y s at work (BecomeExclusive lver b) h = held_convert x y s at work Exclusive lver h

-- ---- a command, an exit

pub held_end : (x : Step) (n p : ℕ) (y : Step) → HeldBy x n y → HeldBy x n (end_holdings p y)
held_end x n p y h = for_each_keeps (HeldBy x n) (filter (λ (g : Grant). g.process == p) (holdings (seen y))) (λ g. add_end (end_of g)) y (λ g there z k. end_held x n z (end_of g) k) h

pub held_exit : (x : Step) (n p : ℕ) → HeldBy x n (leave_holdings p x)
unfolding leave_holdings
held_exit x n p =
    for_each_keeps (HeldBy x n) (orphans_left p (holdings (seen x))) add_grant (end_holdings p x)
    (λ g there y k.
    let was = in_map orphan_of (filter (leaves_orphan (holdings (seen x)) p) (holdings (seen x))) g there in
    let inside = (kept_inside (leaves_orphan (holdings (seen x)) p) (holdings (seen x)) was.0 was.1).0 in
    grant_held x n y g (inl (was.0, inside, ap (λ (z : Grant). z.session) was.2)) k)
    (held_end x n p x (held_itself x n))
