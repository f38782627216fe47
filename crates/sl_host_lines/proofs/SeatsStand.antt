-- A joining has its place, and the member that was made for it.
use Rattle.sl_due.specs.DueCommands.{unless_refused}
use Rattle.sl_due.specs.declared.decision.Decision.TheVariants.{Joins}
use Rattle.sl_host_law.specs.Decisions.CommandDecisions.{decision_of, joined_refused, member_named}
use Rattle.sl_host_lines.proofs.HeardKnown.{born_heard}
use Rattle.sl_host_lines.specs.Seats.{IsSeat}
use Rattle.sl_host_state.specs.HeardInputs.{heard_line}
use Rattle.sl_host_state.specs.KeptState.{HostState, Made}
use Rattle.sl_member.specs.Members.{MemberKept, blank_member}
use Rattle.sl_trace.specs.Sessions.{joining_session}
use Rattle.sl_trace.specs.CountLimits.{most_lockspaces}
use Rattle.sl_trace.specs.declared.command.Command.TheVariants.{AddLockspace}
use Rattle.sl_trace.specs.declared.command.Command.{Command}
use Rattle.sl_trace.specs.declared.command.LockspaceArg.{LockspaceArg}
use Rattle.sl_trace.specs.declared.reply.Limited.TheVariants.{Lockspaces}
use Rattle.sl_trace.specs.declared.reply.Reply.TheVariants.{Limit as LimitReached}
use Rattle.sl_trace.specs.declared.reply.Reply.{Reply}
use Rattle.sl_host.specs.Host.{Becomes, HostView, SameRun}
use Rattle.sl_host.specs.MemberRun.{run_in}
use Rattle.sl_words.specs.Words.{choose}
use Rattle.std.proofs.Common.{ap, arith, refl, subst, sym, ◌∙◌}
use Rattle.std.proofs.lemmas.Bool.Decides.{nat_tests}
use Rattle.std.specs.Prelude.{Bool, None, Option, Some, [], false, length, nat_le, true, ℕ, ◌<◌, ◌∷◌, ◌≡◌, ◌≤◌}

-- A joining is decided only where there are fewer members than a machine has lockspaces.
pub free_to_join : (h : HostState) (a b : LockspaceArg) (n : ℕ) → decision_of h (AddLockspace a) ≡ Joins n b → length h.members < most_lockspaces
unfolding decision_of
free_to_join h a b n is = by (joined_refused (member_named h a.name)) is where
  full : (f : Bool) → nat_le most_lockspaces (length h.members) ≡ f → unless_refused (choose f (LimitReached Lockspaces) ∷ []) (Joins h.born a) ≡ Joins n b → length h.members < most_lockspaces
  full true e is = absurd cc
  full false e is = grind (arith, nat_tests, e)

  by : (o : Option Reply) → unless_refused (o ∷ choose (nat_le most_lockspaces (length h.members)) (LimitReached Lockspaces) ∷ []) (Joins h.born a) ≡ Joins n b → length h.members < most_lockspaces
  by (Some r) is = absurd cc
  by None is = full (nat_le most_lockspaces (length h.members)) refl is

-- The member that was made before the line was heard is that of the line's job.
pub seat_heard : (c : Command) (old new : HostView) → Becomes old new (heard_line c) → SameRun old new → new.calls ≡ old.calls → (job : ℕ) → job ≡ old.kept.next_job → (a : LockspaceArg) (m : MemberKept)
    → IsSeat old old.kept.next_job a m → IsSeat new job a m
seat_heard c old new becomes run calls job its a m seat =
    record {
      run = seat.run ∙ ap run_in (sym run.0);
      blank = seat.blank
          ∙ (ap (λ (z : Made). blank_member (run_in z) (joining_session old.kept.born old.kept.next_job a)) (sym run.0)
          ∙ (ap (λ (b : ℕ). blank_member (run_in new.kept.config) (joining_session b old.kept.next_job a)) (sym (born_heard c old new becomes))
          ∙ ap (λ (j : ℕ). blank_member (run_in new.kept.config) (joining_session new.kept.born j a)) (sym its)));
      room = subst (λ (k : ℕ). k ≤ m.room) (sym calls) seat.room;
    }
