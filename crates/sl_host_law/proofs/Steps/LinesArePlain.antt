-- A line that grants, ends or converts a holding does nothing else by its reply.
use Rattle.sl_host_law.specs.Decisions.CommandDecisions.{decision_of, held_of, killpath_decision, leave_decision, member_of, member_refusal, process_refused, with_member}
use Rattle.sl_due.specs.DueCommands.{unless_refused}
use Rattle.sl_due.specs.declared.decision.Decision.TheVariants.{Leaves, Replies}
use Rattle.sl_due.specs.declared.decision.Decision.{Decision}
use Rattle.sl_host_state.specs.KeptState.{HostState, MemberState}
use Rattle.sl_host_law.specs.Replies.RepliesAreTaken.{is_plain_line}
use Rattle.sl_trace.specs.declared.command.Command.TheVariants.{Acquire, AddLockspace, Convert, GetLvb, HostStatus, InqLockspace, Release, ReleaseOrphan, RemLockspace, Request, RunProgram, SetKillpath, SetLvb, Status, TakeOver}
use Rattle.sl_trace.specs.declared.command.Command.{Command}
use Rattle.sl_trace.specs.declared.command.LockspaceArg.{LockspaceArg}
use Rattle.sl_trace.specs.CountLimits.{most_killpaths}
use Rattle.sl_trace.specs.KillPrograms.{KillProgram}
use Rattle.sl_trace.specs.Traces.{is_orphan, no_process}
use Rattle.sl_trace.specs.declared.reply.Limited.TheVariants.{Killpaths, Seq as SeqLimit}
use Rattle.sl_trace.specs.declared.reply.Reply.TheVariants.{Busy, Done, Limit as LimitReached}
use Rattle.sl_trace.specs.declared.reply.Reply.{Reply}
use Rattle.sl_words.specs.Bounds.{is_number}
use Rattle.sl_words.specs.Words.{choose}
use Rattle.std.specs.List.{list_any}
use Rattle.sl_words.proofs.CaseLaws.{true_is_false}
use Rattle.std.proofs.Common.{ap, refl, sym, ◌∙◌}
use Rattle.std.specs.Prelude.{Bool, List, None, Ok, Option, Some, false, find, is_none, length, nat_le, not, option_map, true, [], ℕ, ◌+◌, ◌&&◌, ◌==◌, ◌∷◌, ◌≡◌}

-- Whether the decision is a reply, or that a session is left.
abbrev pub is_of_line : Decision → Bool
is_of_line (Replies r) = true
is_of_line (Leaves s) = true
is_of_line d = false

refused_or : (rs : List (Option Reply)) (d : Decision) → is_of_line d ≡ true → is_of_line (unless_refused rs d) ≡ true
refused_or [] d is = is
refused_or (None ∷ rs) d is = refused_or rs d is
refused_or (Some r ∷ rs) d is = refl

leaves_line : (h : HostState) (a : LockspaceArg) → is_of_line (leave_decision h a) ≡ true
leaves_line h a = by (member_of h a) where
  by : (o : Option MemberState)
      → is_of_line (with_member o (λ m. unless_refused (member_refusal m ∷ choose (list_any is_orphan (held_of h m)) (Busy no_process)
      ∷ choose (not (is_number (m.known.seq + 1))) (LimitReached SeqLimit) ∷ []) (Leaves m.who))) ≡ true
  by None = refl
  by (Some m) =
      refused_or (member_refusal m ∷ choose (list_any is_orphan (held_of h m)) (Busy no_process) ∷ choose (not (is_number (m.known.seq + 1))) (LimitReached SeqLimit) ∷ [])
      (Leaves m.who) refl

sets_line : (h : HostState) (p : ℕ) → is_of_line (killpath_decision h p) ≡ true
sets_line h p =
    refused_or
    (process_refused h p
    ∷ choose (is_none (option_map (λ (k : KillProgram). k.program) (find (λ (k : KillProgram). k.process == p) h.programs)) && nat_le most_killpaths (length h.programs)) (LimitReached Killpaths) ∷ [])
    (Replies Done) refl

pub plain_by : (h : HostState) (c : Command) (d : Decision) → decision_of h c ≡ d → is_of_line d ≡ false → is_plain_line (Ok c) ≡ true
unfolding decision_of
plain_by h (RemLockspace a) d is other = absurd (true_is_false (sym (leaves_line h a) ∙ ap is_of_line is ∙ other))
plain_by h (SetKillpath p path) d is other = absurd (true_is_false (sym (sets_line h p) ∙ ap is_of_line is ∙ other))
plain_by h (AddLockspace a) d is other = refl
plain_by h (InqLockspace a) d is other = refl
plain_by h (HostStatus a) d is other = refl
plain_by h (Acquire r shared p persistent) d is other = refl
plain_by h (TakeOver r shared p persistent) d is other = refl
plain_by h (RunProgram r shared path) d is other = refl
plain_by h (Release r p) d is other = refl
plain_by h (ReleaseOrphan r) d is other = refl
plain_by h (Convert r shared p) d is other = refl
plain_by h (Request r lver how) d is other = refl
plain_by h (GetLvb r p) d is other = refl
plain_by h (SetLvb r p bytes) d is other = refl
plain_by h Status d is other = refl
