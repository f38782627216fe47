-- What is decided of each command is its decision.
use Rattle.sl_host_lines.proofs.DecisionsAre.{acquire_is, add_is, convert_is, get_is, leave_is, release_is, release_orphan_is, report_is, request_is, set_is, take_over_is}
use Rattle.sl_host_lines.specs.CommandRefusals.{acquire_in, add_in, convert_in, get_in, leave_in, release_in, release_orphan_in, report_in, request_in, set_in, take_over_in}
use Rattle.sl_due.specs.declared.decision.Decision.TheVariants.{Replies}
use Rattle.sl_due.specs.declared.decision.Decision.{Decision}
use Rattle.sl_host_law.specs.Decisions.CommandDecisions.{decision_of, killpath_decision, member_named, member_of, sessions_told, states_told, with_member}
use Rattle.sl_host_state.specs.KeptState.{HostState}
use Rattle.sl_trace.specs.declared.command.Command.TheVariants.{Acquire, AddLockspace, Convert, GetLvb, HostStatus, InqLockspace, Release, ReleaseOrphan, RemLockspace, Request, RunProgram, SetKillpath, SetLvb, Status, TakeOver}
use Rattle.sl_trace.specs.declared.command.Command.{Command}
use Rattle.sl_trace.specs.declared.command.LockspaceArg.{LockspaceArg}
use Rattle.sl_trace.specs.declared.command.ResourceArg.{ResourceArg}
use Rattle.sl_trace.specs.declared.effects.Mode.TheVariants.{Exclusive, Shared}
use Rattle.sl_trace.specs.declared.effects.Mode.{Mode}
use Rattle.sl_trace.specs.declared.reply.Reply.TheVariants.{Generation, Hosts, Sessions}
use Rattle.std.proofs.Common.{ap, sym, ◌∙◌}
use Rattle.std.specs.Prelude.{Bool, List, None, Some, cond, false, true, ℕ, ◌≡◌}

pub add_decided : (h : HostState) (c : Command) (d : Decision) (a : LockspaceArg) → c ≡ AddLockspace a → d ≡ add_in h a → d ≡ decision_of h c
unfolding decision_of
add_decided h c d a is own = own ∙ (add_is h a ∙ sym (ap (decision_of h) is))

pub leave_decided : (h : HostState) (c : Command) (d : Decision) (a : LockspaceArg) → c ≡ RemLockspace a → d ≡ with_member (member_of h a) (λ m. leave_in h m) → d ≡ decision_of h c
unfolding decision_of
leave_decided h c d a is own = own ∙ (leave_is h a ∙ sym (ap (decision_of h) is))

pub inquiry_decided : (h : HostState) (c : Command) (d : Decision) (a : LockspaceArg) → c ≡ InqLockspace a → d ≡ with_member (member_of h a) (λ m. report_in m (Generation m.known.generation)) → d ≡ decision_of h c
unfolding decision_of
inquiry_decided h c d a is own = own ∙ (report_is h a (λ m. Generation m.known.generation) ∙ sym (ap (decision_of h) is))

pub states_decided : (h : HostState) (c : Command) (d : Decision) (a : LockspaceArg) → c ≡ HostStatus a → d ≡ with_member (member_of h a) (λ m. report_in m (Hosts (states_told h m))) → d ≡ decision_of h c
unfolding decision_of
states_decided h c d a is own = own ∙ (report_is h a (λ m. Hosts (states_told h m)) ∙ sym (ap (decision_of h) is))

pub acquire_decided : (h : HostState) (c : Command) (d : Decision) (r : ResourceArg) (shared : Bool) (p : ℕ) (persistent : Bool) → c ≡ Acquire r shared p persistent → d ≡ with_member (member_named h r.lockspace) (λ m. acquire_in h m r (Some p) shared) → d ≡ decision_of h c
unfolding decision_of
acquire_decided h c d r shared p persistent is own = own ∙ (acquire_is h r (Some p) shared ∙ sym (ap (decision_of h) is))

pub take_over_decided : (h : HostState) (c : Command) (d : Decision) (r : ResourceArg) (shared : Bool) (p : ℕ) (persistent : Bool) → c ≡ TakeOver r shared p persistent → d ≡ with_member (member_named h r.lockspace) (λ m. take_over_in h m r p shared) → d ≡ decision_of h c
unfolding decision_of
take_over_decided h c d r shared p persistent is own = own ∙ (take_over_is h r p shared ∙ sym (ap (decision_of h) is))

pub release_decided : (h : HostState) (c : Command) (d : Decision) (r : ResourceArg) (p : ℕ) → c ≡ Release r p → d ≡ with_member (member_named h r.lockspace) (λ m. release_in h m r p) → d ≡ decision_of h c
unfolding decision_of
release_decided h c d r p is own = own ∙ (release_is h r p ∙ sym (ap (decision_of h) is))

pub release_orphan_decided : (h : HostState) (c : Command) (d : Decision) (r : ResourceArg) → c ≡ ReleaseOrphan r → d ≡ with_member (member_named h r.lockspace) (λ m. release_orphan_in h m r) → d ≡ decision_of h c
unfolding decision_of
release_orphan_decided h c d r is own = own ∙ (release_orphan_is h r ∙ sym (ap (decision_of h) is))

pub run_decided : (h : HostState) (c : Command) (d : Decision) (r : ResourceArg) (shared : Bool) (path : List ℕ) → c ≡ RunProgram r shared path → d ≡ with_member (member_named h r.lockspace) (λ m. acquire_in h m r None shared) → d ≡ decision_of h c
unfolding decision_of
run_decided h c d r shared path is own = own ∙ (acquire_is h r None shared ∙ sym (ap (decision_of h) is))

pub request_decided : (h : HostState) (c : Command) (d : Decision) (r : ResourceArg) (lver how : ℕ) → c ≡ Request r lver how → d ≡ with_member (member_named h r.lockspace) (λ m. request_in h m r) → d ≡ decision_of h c
unfolding decision_of
request_decided h c d r lver how is own = own ∙ (request_is h r ∙ sym (ap (decision_of h) is))

pub get_decided : (h : HostState) (c : Command) (d : Decision) (r : ResourceArg) (p : ℕ) → c ≡ GetLvb r p → d ≡ with_member (member_named h r.lockspace) (λ m. get_in h m r p) → d ≡ decision_of h c
unfolding decision_of
get_decided h c d r p is own = own ∙ (get_is h r p ∙ sym (ap (decision_of h) is))

pub set_decided : (h : HostState) (c : Command) (d : Decision) (r : ResourceArg) (p : ℕ) (bytes : List ℕ) → c ≡ SetLvb r p bytes → d ≡ with_member (member_named h r.lockspace) (λ m. set_in h m r p bytes) → d ≡ decision_of h c
unfolding decision_of
set_decided h c d r p bytes is own = own ∙ (set_is h r p bytes ∙ sym (ap (decision_of h) is))

pub killpath_decided : (h : HostState) (c : Command) (d : Decision) (p : ℕ) (path : List ℕ) → c ≡ SetKillpath p path → d ≡ killpath_decision h p → d ≡ decision_of h c
unfolding decision_of
killpath_decided h c d p path is own = own ∙ sym (ap (decision_of h) is)

pub status_decided : (h : HostState) (c : Command) (d : Decision) → c ≡ Status → d ≡ Replies (Sessions (sessions_told h)) → d ≡ decision_of h c
unfolding decision_of
status_decided h c d is own = own ∙ sym (ap (decision_of h) is)

-- The mode that a conversion means.
mode_is : (h : HostState) (r : ResourceArg) (p : ℕ) (shared : Bool) → with_member (member_named h r.lockspace) (λ m. convert_in h m r p (cond shared Shared Exclusive)) ≡ decision_of h (Convert r shared p)
unfolding decision_of
mode_is h r p true = convert_is h r p Shared
mode_is h r p false = convert_is h r p Exclusive

pub convert_decided : (h : HostState) (c : Command) (d : Decision) (r : ResourceArg) (shared : Bool) (p : ℕ) (mode : Mode) → c ≡ Convert r shared p → mode ≡ cond shared Shared Exclusive
    → d ≡ with_member (member_named h r.lockspace) (λ m. convert_in h m r p mode) → d ≡ decision_of h c
convert_decided h c d r shared p mode is meant own =
    own ∙ (ap (λ k. with_member (member_named h r.lockspace) (λ m. convert_in h m r p k)) meant ∙ (mode_is h r p shared ∙ sym (ap (decision_of h) is)))
