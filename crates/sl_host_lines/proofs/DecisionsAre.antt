-- Each command comes to what the member decides that has the lockspace.
use Rattle.sl_host_lines.specs.CommandRefusals.{acquire_in, add_in, convert_in, converting, first_refusal, get_in, getting, giving_up, leave_in, refused_or, release_in, release_orphan_in, releasing_orphan, report_in, request_in, set_in, setting, take_over_in, taking_over}
use Rattle.sl_area.specs.AreaSizes.{Sizes, layout_of}
use Rattle.sl_due.specs.DueCommands.{unless_refused}
use Rattle.sl_due.specs.declared.decision.Decision.TheVariants.{GetsValue, GivesUp, Joins, Leaves, Replies, Requests}
use Rattle.sl_due.specs.declared.decision.Decision.{Decision}
use Rattle.sl_host_law.specs.Decisions.CommandDecisions.{acquire_decision, add_decision, busy_refused, convert_decision, decision_of, held_of, holder_decision, holds_there, joined_refused, leave_decision, limit_refused, member_acquires, member_named, member_of, member_refusal, member_sets, orphan_at, orphan_decision, other_at, pending_refused, process_refused, report_decision, request_decision, serving_holding, take_over_decision, value_seq, with_member}
use Rattle.sl_host_state.specs.KeptState.{HostKept, HostState, MemberState, state_of}
use Rattle.sl_trace.specs.Leases.{spot_of}
use Rattle.sl_trace.specs.CommandForms.{IsResourceArg}
use Rattle.sl_trace.specs.CountLimits.{most_lockspaces}
use Rattle.sl_trace.specs.Traces.{is_orphan, is_shared, no_process}
use Rattle.sl_trace.specs.declared.command.Command.TheVariants.{Acquire, AddLockspace, Convert, GetLvb, HostStatus, InqLockspace, Release, ReleaseOrphan, RemLockspace, Request, RunProgram, SetKillpath, SetLvb, Status, TakeOver}
use Rattle.sl_trace.specs.declared.command.Command.{Command}
use Rattle.sl_trace.specs.declared.command.LockspaceArg.{LockspaceArg}
use Rattle.sl_trace.specs.declared.command.ResourceArg.{ResourceArg}
use Rattle.sl_trace.specs.declared.effects.Grant.{Grant}
use Rattle.sl_trace.specs.declared.effects.Mode.{Mode}
use Rattle.sl_trace.specs.declared.reply.Limited.TheVariants.{Lockspaces, Seq as SeqLimit}
use Rattle.sl_trace.specs.declared.reply.Reply.TheVariants.{Busy, Limit as LimitReached, NoOrphan, NotHeld}
use Rattle.sl_trace.specs.declared.reply.Reply.{Reply}
use Rattle.sl_host.specs.BookQuestions.{state_in}
use Rattle.sl_words.proofs.WordLaws.{and_true}
use Rattle.sl_words.specs.Bounds.{is_number}
use Rattle.sl_words.specs.Words.{choose, same_truth}
use Rattle.std.proofs.Common.{ap, refl, ◌∙◌}
use Rattle.std.specs.List.{list_any}
use Rattle.std.proofs.lemmas.Bool.Decides.{Decides-eqb}
use Rattle.std.specs.Prelude.{Bool, List, None, Option, Result, Some, [], is_none, is_some, length, nat_le, nat_lt, not, option_and_then, option_map, true, ℕ, ◌%◌, ◌+◌, ◌==◌, ◌^◌, ◌∷◌, ◌≡◌}

-- The first refusal decides, or what is begun.
refused_first : (rs : List (Option Reply)) (d : Decision) → refused_or (first_refusal rs) d ≡ unless_refused rs d
refused_first [] d = refl
refused_first (None ∷ rs) d = refused_first rs d
refused_first (Some why ∷ rs) d = refl

missing_is : (o : Option Grant) → not (is_some o) ≡ is_none o
missing_is None = refl
missing_is (Some g) = refl

-- A list of refusals with a test of what is held, said the other way.
swapped : (rest : List (Option Reply)) (join : List (Option Reply) → List (Option Reply)) (o : Option Grant) (why : Reply) (d : Decision)
    → refused_or (first_refusal (join (choose (not (is_some o)) why ∷ rest))) d ≡ unless_refused (join (choose (is_none o) why ∷ rest)) d
swapped rest join o why d =
    refused_first (join (choose (not (is_some o)) why ∷ rest)) d ∙ ap (λ (c : Bool). unless_refused (join (choose c why ∷ rest)) d) (missing_is o)

by_member : (o : Option MemberState) (f g : MemberState → Decision) → ((m : MemberState) → f m ≡ g m) → with_member o f ≡ with_member o g
by_member None f g same = refl
by_member (Some m) f g same = same m

-- Where there is a member, what he decides is decided.
pub at_member : (o : Option MemberState) (m : MemberState) (f : MemberState → Decision) → Some m ≡ o → f m ≡ with_member o f
at_member o m f is = ap (λ p. with_member p f) is

-- ---- acquires

pub acquire_is : (h : HostState) (r : ResourceArg) (asking : Option ℕ) (shared : Bool)
    → with_member (member_named h r.lockspace) (λ m. acquire_in h m r asking shared) ≡ acquire_decision h r asking shared (is_none asking)
acquire_is h r asking shared =
    by_member (member_named h r.lockspace) _ _
    (λ m.
    refused_first (member_refusal m
    ∷ option_and_then (process_refused h) asking
    ∷ busy_refused h (spot_of r) asking shared
    ∷ pending_refused h (spot_of r)
    ∷ limit_refused h m (spot_of r) (is_none asking) ∷ []) (member_acquires h m r shared))

-- ---- holders

pub release_is : (h : HostState) (r : ResourceArg) (p : ℕ)
    → with_member (member_named h r.lockspace) (λ m. release_in h m r p) ≡ holder_decision h r p (λ g. true) (λ m g. GivesUp m.who g)
release_is h r p =
    by_member (member_named h r.lockspace) _ _
    (λ m.
    swapped (pending_refused h (spot_of r) ∷ []) (λ rs. member_refusal m ∷ process_refused h p ∷ rs) (serving_holding h m (spot_of r) p (λ g. true)) NotHeld
    (giving_up m (serving_holding h m (spot_of r) p (λ g. true))))

pub convert_is : (h : HostState) (r : ResourceArg) (p : ℕ) (mode : Mode)
    → with_member (member_named h r.lockspace) (λ m. convert_in h m r p mode) ≡ convert_decision h r p mode
convert_is h r p mode =
    by_member (member_named h r.lockspace) _ _
    (λ m.
    swapped (option_and_then (λ q. choose (not (is_shared mode)) (Busy q)) (other_at h (spot_of r) p) ∷ pending_refused h (spot_of r) ∷ [])
    (λ rs. member_refusal m ∷ process_refused h p ∷ rs) (serving_holding h m (spot_of r) p (λ g. true)) NotHeld
    (converting m r mode (serving_holding h m (spot_of r) p (λ g. true))))

pub request_is : (h : HostState) (r : ResourceArg) → with_member (member_named h r.lockspace) (λ m. request_in h m r) ≡ request_decision h r
request_is h r =
    by_member (member_named h r.lockspace) _ _ (λ m. refused_first (member_refusal m ∷ pending_refused h (spot_of r) ∷ []) (Requests m.who r))

-- ---- orphans

pub take_over_is : (h : HostState) (r : ResourceArg) (p : ℕ) (shared : Bool)
    → with_member (member_named h r.lockspace) (λ m. take_over_in h m r p shared) ≡ take_over_decision h r p shared
take_over_is h r p shared =
    by_member (member_named h r.lockspace) _ _
    (λ m.
    swapped (option_map (λ q. Busy q) (holds_there h (spot_of r) p) ∷ pending_refused h (spot_of r) ∷ [])
    (λ rs. member_refusal m ∷ process_refused h p ∷ rs) (orphan_at h m (spot_of r) (λ g. same_truth shared (is_shared g.mode))) NoOrphan
    (taking_over m (orphan_at h m (spot_of r) (λ g. same_truth shared (is_shared g.mode)))))

pub release_orphan_is : (h : HostState) (r : ResourceArg)
    → with_member (member_named h r.lockspace) (λ m. release_orphan_in h m r) ≡ orphan_decision h r None (λ g. true) [] (λ m g. GivesUp m.who g)
release_orphan_is h r =
    by_member (member_named h r.lockspace) _ _
    (λ m.
    swapped (pending_refused h (spot_of r) ∷ []) (λ rs. member_refusal m ∷ None ∷ rs) (orphan_at h m (spot_of r) (λ g. true)) NoOrphan
    (releasing_orphan m (orphan_at h m (spot_of r) (λ g. true))))

-- ---- values

pub get_is : (h : HostState) (r : ResourceArg) (p : ℕ)
    → with_member (member_named h r.lockspace) (λ m. get_in h m r p) ≡ holder_decision h r p (λ g. true) (λ m g. GetsValue m.who (spot_of r))
get_is h r p =
    by_member (member_named h r.lockspace) _ _
    (λ m.
    swapped (pending_refused h (spot_of r) ∷ []) (λ rs. member_refusal m ∷ process_refused h p ∷ rs) (serving_holding h m (spot_of r) p (λ g. true)) NotHeld
    (getting m (spot_of r) (serving_holding h m (spot_of r) p (λ g. true))))

pub set_is : (h : HostState) (r : ResourceArg) (p : ℕ) (bytes : List ℕ)
    → with_member (member_named h r.lockspace) (λ m. set_in h m r p bytes)
    ≡ holder_decision h r p (λ g. not (is_shared g.mode)) (λ m g. member_sets m (spot_of r) g (value_seq m (spot_of r) g.lver) bytes)
set_is h r p bytes =
    by_member (member_named h r.lockspace) _ _
    (λ m.
    swapped (pending_refused h (spot_of r) ∷ []) (λ rs. member_refusal m ∷ process_refused h p ∷ rs) (serving_holding h m (spot_of r) p (λ g. not (is_shared g.mode)))
    NotHeld (setting m (spot_of r) (serving_holding h m (spot_of r) p (λ g. not (is_shared g.mode))) bytes))

-- ---- lockspaces

pub add_is : (h : HostState) (a : LockspaceArg) → add_in h a ≡ add_decision h a
add_is h a =
    refused_first (joined_refused (member_named h a.name) ∷ choose (nat_le most_lockspaces (length h.members)) (LimitReached Lockspaces) ∷ []) (Joins h.born a)

pub leave_is : (h : HostState) (a : LockspaceArg) → with_member (member_of h a) (λ m. leave_in h m) ≡ leave_decision h a
leave_is h a =
    by_member (member_of h a) _ _
    (λ m.
    refused_first (member_refusal m
    ∷ choose (list_any is_orphan (held_of h m)) (Busy no_process)
    ∷ choose (not (is_number (m.known.seq + 1))) (LimitReached SeqLimit) ∷ []) (Leaves m.who))

pub report_is : (h : HostState) (a : LockspaceArg) (answer : MemberState → Reply) → with_member (member_of h a) (λ m. report_in m (answer m)) ≡ report_decision h a answer
report_is h a answer = by_member (member_of h a) _ _ (λ m. alone (member_refusal m) (Replies (answer m)))
  where
    alone : (o : Option Reply) (d : Decision) → refused_or o d ≡ unless_refused (o ∷ []) d
    alone None d = refl
    alone (Some why) d = refl

-- ---- all commands

-- What is decided asks nothing of how lines are read.
pub reads_nothing : (read : List ℕ → Result Command ℕ) (k : HostKept) (c : Command) → decision_of (state_in k) c ≡ decision_of (state_of read k) c
unfolding decision_of
reads_nothing read k (AddLockspace a) = refl
reads_nothing read k (RemLockspace a) = refl
reads_nothing read k (InqLockspace a) = refl
reads_nothing read k (HostStatus a) = refl
reads_nothing read k (Acquire r shared p persistent) = refl
reads_nothing read k (TakeOver r shared p persistent) = refl
reads_nothing read k (RunProgram r shared path) = refl
reads_nothing read k (Release r p) = refl
reads_nothing read k (ReleaseOrphan r) = refl
reads_nothing read k (Convert r shared p) = refl
reads_nothing read k (Request r lver how) = refl
reads_nothing read k (GetLvb r p) = refl
reads_nothing read k (SetLvb r p bytes) = refl
reads_nothing read k (SetKillpath p path) = refl
reads_nothing read k Status = refl

-- A resource that a command may name stands at a multiple of the size of areas.
pub base_is : (z : Sizes) (r : ResourceArg) → IsResourceArg (layout_of z) r → r.offset % z.area ≡ 0
base_is z r may = (Decides-eqb (r.offset % z.area) 0).0 ((and_true (r.offset % z.area == 0) (nat_lt r.offset (10 ^ 12)) may.base).0)
