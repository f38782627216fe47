-- Whose a decision is: of a session that is present, or of one that begins with it.
use Rattle.sl_due_facts.specs.Acts.DueDaemons.{IsDecidedFor, IsPresent}
use Rattle.sl_due.specs.DueCommands.{acquiring, busy_refusal, converting, decide_acquire, decide_convert, decide_holder, decide_orphan, decide_report, decided, holding_of, joined_refusal, leave_refusal, limit_refusal, matching_session, orphan_refusal, pending_refusal, process_refusal, serving_orphan, session_refusal, setting_value, unless_refused, with_session}
use Rattle.sl_due.specs.declared.decision.Decision.TheVariants.{ConvertsTo, GetsValue, GivesUp, Joins, Leaves, ReadsArea, Replies, Requests, SetsValue, Shares, TakesOver}
use Rattle.sl_due.specs.declared.decision.Decision.{Decision}
use Rattle.sl_trace.specs.Counts.{holds_already, next_value_seq, other_holder}
use Rattle.sl_trace.specs.KillPrograms.{is_killpath_limit}
use Rattle.sl_trace.specs.Jobs.{wanted_mode}
use Rattle.sl_trace.specs.Leases.{shared_on, spot_of}
use Rattle.sl_words.proofs.Lists.{find_inside}
use Rattle.sl_words.proofs.Options.{then_value}
use Rattle.sl_trace.specs.Sessions.{generation_of, is_session_arg, present_sessions, session_named, sessions}
use Rattle.sl_trace.specs.Sightings.{states_seen}
use Rattle.sl_trace.specs.declared.session.Session.{Session}
use Rattle.sl_trace.specs.CountLimits.{most_lockspaces}
use Rattle.sl_trace.specs.Traces.{Setting, Trace, is_shared}
use Rattle.sl_trace.specs.declared.command.Command.TheVariants.{Acquire, AddLockspace, Convert, GetLvb, HostStatus, InqLockspace, Release, ReleaseOrphan, RemLockspace, Request, RunProgram, SetKillpath, SetLvb, Status, TakeOver}
use Rattle.sl_trace.specs.declared.command.Command.{Command}
use Rattle.sl_trace.specs.declared.command.LockspaceArg.{LockspaceArg}
use Rattle.sl_trace.specs.declared.command.ResourceArg.{ResourceArg}
use Rattle.sl_trace.specs.declared.effects.Grant.{Grant}
use Rattle.sl_trace.specs.declared.effects.Mode.{Mode}
use Rattle.sl_trace.specs.declared.reply.Limited.TheVariants.{Killpaths, Lockspaces, Seq as SeqLimit}
use Rattle.sl_trace.specs.declared.reply.Reply.TheVariants.{Busy, Done, Generation, Granted, Hosts, Limit as LimitReached, NoOrphan, NoSession, NotHeld}
use Rattle.sl_trace.specs.declared.reply.Reply.{Reply}
use Rattle.sl_words.proofs.WordLaws.{choose_some}
use Rattle.sl_words.specs.Bounds.{is_number}
use Rattle.sl_words.specs.Words.{choose, same_truth}
use Rattle.std.proofs.Common.{refl, subst}
use Rattle.std.specs.Option.{option_map_or}
use Rattle.std.specs.Prelude.{Bool, Contains, List, None, Option, Some, bytes_eq, false, is_none, length, nat_le, not, option_and_then, option_map, true, [], ℕ, ◌++◌, ◌∷◌, ◌≡◌}

-- ---- what is found on the way

by_refusal : (Q : Decision → Type 0) → ((r : Reply) → Q (Replies r)) → (o : Option Reply) (d : Decision) → Q d → Q (elim o as (λ z. Decision) [ Some why ↦ Replies why | None ↦ d ])
by_refusal Q q (Some why) d h = q why
by_refusal Q q None d h = h

unless : (Q : Decision → Type 0) → ((r : Reply) → Q (Replies r)) → (rs : List (Option Reply)) (d : Decision) → Q d → Q (unless_refused rs d)
unless Q q [] d h = h
unless Q q (r ∷ rs) d h = by_refusal Q q r (unless_refused rs d) (unless Q q rs d h)

where_found : (Q : Decision → Type 0) → ((r : Reply) → Q (Replies r)) → (o : Option Session) (rs : Session → List (Option Reply)) (f : Session → Decision)
    → ((s : Session) → o ≡ Some s → Q (f s)) → Q (with_session o (λ s. unless_refused (rs s) (f s)))
where_found Q q None rs f h = q NoSession
where_found Q q (Some s) rs f h = unless Q q (rs s) (f s) (h s refl)

where_held : (Q : Decision → Type 0) → ((r : Reply) → Q (Replies r)) → (o : Option Grant) (f : Grant → Decision) (r : Reply) → ((g : Grant) → o ≡ Some g → Q (f g)) → Q (option_map_or f o (Replies r))
where_held Q q None f r h = q r
where_held Q q (Some g) f r h = h g refl

beside : (Q : Decision → Type 0) (s : Session) (r : ResourceArg) (shared : Bool) (o : Option Grant) → Q (ReadsArea s r) → ((lver : ℕ) → Q (Shares s lver))
    → Q (elim shared as (λ z. Decision) [ false ↦ ReadsArea s r | true ↦ elim o as (λ z. Decision) [ None ↦ ReadsArea s r | Some g ↦ Shares s g.lver ] ])
beside Q s r false o h k = h
beside Q s r true None h k = h
beside Q s r true (Some g) h k = k g.lver

chosen : (Q : Decision → Type 0) (b : Bool) (d e : Decision) → Q d → Q e → Q (elim b as (λ z. Decision) [ false ↦ d | true ↦ e ])
chosen Q false d e h k = h
chosen Q true d e h k = k

named_there : (st : Setting) (es : Trace) (name : List ℕ) (s : Session) → session_named st es name ≡ Some s → IsPresent st es s
named_there st es name s is = (find_inside (λ (x : Session). bytes_eq x.lockspace name) (present_sessions st es) s is).0

matched_there : (st : Setting) (es : Trace) (a : LockspaceArg) (s : Session) → matching_session st es a ≡ Some s → IsPresent st es s
matched_there st es a s is =
    let v = then_value (λ (x : Session). choose (is_session_arg x a) x) (session_named st es a.name) s is in
    subst (λ z. Contains (present_sessions st es) z) (choose_some (is_session_arg v.0 a) v.0 s v.2).1 (named_there st es a.name v.0 v.1)

-- ---- forms of commands

acquires : (st : Setting) (es : Trace) (c : Command) (r : ResourceArg) (asking : Option ℕ) (shared program : Bool) → IsDecidedFor st es c (decide_acquire st es r asking shared program)
acquires st es c r asking shared program =
    where_found (IsDecidedFor st es c) (λ w. tt) (session_named st es r.lockspace)
    (λ s. session_refusal st es s ∷ option_and_then (process_refusal es) asking ∷ busy_refusal es (spot_of r) asking shared ∷ pending_refusal st es (spot_of r) ∷ limit_refusal st es s (spot_of r) program ∷ [])
    (λ s. acquiring es s r shared)
    (λ s is. beside (IsDecidedFor st es c) s r shared (shared_on es s (spot_of r)) (named_there st es r.lockspace s is) (λ lver. named_there st es r.lockspace s is))

holds : (st : Setting) (es : Trace) (c : Command) (r : ResourceArg) (p : ℕ) (serves : Grant → Bool) (f : Session → Grant → Decision)
    → ((s : Session) (g : Grant) → IsPresent st es s → IsDecidedFor st es c (f s g)) → IsDecidedFor st es c (decide_holder st es r p serves f)
holds st es c r p serves f h =
    where_found (IsDecidedFor st es c) (λ w. tt) (session_named st es r.lockspace)
    (λ s. session_refusal st es s ∷ process_refusal es p ∷ choose (is_none (holding_of es s (spot_of r) p serves)) NotHeld ∷ pending_refusal st es (spot_of r) ∷ [])
    (λ s. option_map_or (f s) (holding_of es s (spot_of r) p serves) (Replies NotHeld))
    (λ s is. where_held (IsDecidedFor st es c) (λ w. tt) (holding_of es s (spot_of r) p serves) (f s) NotHeld (λ g held. h s g (named_there st es r.lockspace s is)))

orphaned : (st : Setting) (es : Trace) (c : Command) (r : ResourceArg) (asking : Option ℕ) (serves : Grant → Bool) (refusals : List (Option Reply)) (f : Session → Grant → Decision)
    → ((s : Session) (g : Grant) → IsPresent st es s → IsDecidedFor st es c (f s g)) → IsDecidedFor st es c (decide_orphan st es r asking serves refusals f)
orphaned st es c r asking serves refusals f h =
    where_found (IsDecidedFor st es c) (λ w. tt) (session_named st es r.lockspace)
    (λ s. session_refusal st es s ∷ option_and_then (process_refusal es) asking ∷ choose (is_none (serving_orphan es s (spot_of r) serves)) NoOrphan ∷ (refusals ++ pending_refusal st es (spot_of r) ∷ []))
    (λ s. option_map_or (f s) (serving_orphan es s (spot_of r) serves) (Replies NoOrphan))
    (λ s is. where_held (IsDecidedFor st es c) (λ w. tt) (serving_orphan es s (spot_of r) serves) (f s) NoOrphan (λ g held. h s g (named_there st es r.lockspace s is)))

converts : (st : Setting) (es : Trace) (c : Command) (r : ResourceArg) (p : ℕ) (mode : Mode) → IsDecidedFor st es c (decide_convert st es r p mode)
converts st es c r p mode =
    where_found (IsDecidedFor st es c) (λ w. tt) (session_named st es r.lockspace)
    (λ s. session_refusal st es s ∷ process_refusal es p ∷ choose (is_none (holding_of es s (spot_of r) p (λ g. true))) NotHeld
    ∷ option_and_then (λ q. choose (not (is_shared mode)) (Busy q)) (other_holder es (spot_of r) p) ∷ pending_refusal st es (spot_of r) ∷ [])
    (λ s. option_map_or (converting s r mode) (holding_of es s (spot_of r) p (λ g. true)) (Replies NotHeld))
    (λ s is. where_held (IsDecidedFor st es c) (λ w. tt) (holding_of es s (spot_of r) p (λ g. true)) (converting s r mode) NotHeld
    (λ g held. chosen (IsDecidedFor st es c) (same_truth (is_shared mode) (is_shared g.mode)) (ConvertsTo s r mode) (Replies (Granted g.lver)) (named_there st es r.lockspace s is) tt))

reports : (st : Setting) (es : Trace) (c : Command) (a : LockspaceArg) (answer : Session → Reply) → IsDecidedFor st es c (decide_report st es a answer)
reports st es c a answer =
    where_found (IsDecidedFor st es c) (λ w. tt) (matching_session st es a) (λ s. session_refusal st es s ∷ []) (λ s. Replies (answer s)) (λ s is. tt)

-- ---- all commands

pub decisions_are_theirs : (st : Setting) (es : Trace) (now : ℕ) (c : Command) → IsDecidedFor st es c (decided st es now c)
unfolding decided
decisions_are_theirs st es now (AddLockspace a) =
    unless (IsDecidedFor st es (AddLockspace a)) (λ w. tt)
    (joined_refusal st es (session_named st es a.name) ∷ choose (nat_le most_lockspaces (length (present_sessions st es))) (LimitReached Lockspaces) ∷ []) (Joins (length (sessions st es)) a) (refl, refl)
decisions_are_theirs st es now (RemLockspace a) =
    where_found (IsDecidedFor st es (RemLockspace a)) (λ w. tt) (matching_session st es a) (λ s. session_refusal st es s ∷ orphan_refusal es s ∷ leave_refusal es s ∷ []) (λ s. Leaves s)
    (λ s is. matched_there st es a s is)
decisions_are_theirs st es now (InqLockspace a) = reports st es (InqLockspace a) a (λ s. Generation (generation_of es s))
decisions_are_theirs st es now (HostStatus a) = reports st es (HostStatus a) a (λ s. Hosts (states_seen st es s now))
decisions_are_theirs st es now (Acquire r shared p persistent) = acquires st es (Acquire r shared p persistent) r (Some p) shared false
decisions_are_theirs st es now (TakeOver r shared p persistent) =
    orphaned st es (TakeOver r shared p persistent) r (Some p) (λ g. same_truth shared (is_shared g.mode)) (option_map (λ q. Busy q) (holds_already es (spot_of r) p) ∷ []) (λ s g. TakesOver s g) (λ s g there. there)
decisions_are_theirs st es now (RunProgram r shared path) = acquires st es (RunProgram r shared path) r None shared true
decisions_are_theirs st es now (Release r p) = holds st es (Release r p) r p (λ g. true) (λ s g. GivesUp s g) (λ s g there. there)
decisions_are_theirs st es now (ReleaseOrphan r) = orphaned st es (ReleaseOrphan r) r None (λ g. true) [] (λ s g. GivesUp s g) (λ s g there. there)
decisions_are_theirs st es now (Convert r shared p) = converts st es (Convert r shared p) r p (wanted_mode (Convert r shared p))
decisions_are_theirs st es now (Request r lver how) =
    where_found (IsDecidedFor st es (Request r lver how)) (λ w. tt) (session_named st es r.lockspace) (λ s. session_refusal st es s ∷ pending_refusal st es (spot_of r) ∷ []) (λ s. Requests s r)
    (λ s is. named_there st es r.lockspace s is)
decisions_are_theirs st es now (GetLvb r p) = holds st es (GetLvb r p) r p (λ g. true) (λ s g. GetsValue s (spot_of r)) (λ s g there. there)
decisions_are_theirs st es now (SetLvb r p bytes) =
    holds st es (SetLvb r p bytes) r p (λ g. not (is_shared g.mode)) (λ s g. setting_value s (spot_of r) g (next_value_seq st es s (spot_of r) g.lver) bytes)
    (λ s g there. chosen (IsDecidedFor st es (SetLvb r p bytes)) (is_number (next_value_seq st es s (spot_of r) g.lver)) (Replies (LimitReached SeqLimit))
    (SetsValue s (spot_of r) (record { host = s.id; lver = g.lver; seq = next_value_seq st es s (spot_of r) g.lver; bytes = bytes })) tt there)
decisions_are_theirs st es now (SetKillpath p path) =
    unless (IsDecidedFor st es (SetKillpath p path)) (λ w. tt) (process_refusal es p ∷ choose (is_killpath_limit st es p) (LimitReached Killpaths) ∷ []) (Replies Done) tt
decisions_are_theirs st es now Status = tt

-- ---- of its session alone

-- Of the decision's session this is true.
abbrev pub Of : (Session → Type 0) → Decision → Type 0
Of P (Replies r) = Unit {0}
Of P (Joins n a) = Unit {0}
Of P (Leaves s) = P s
Of P (ReadsArea s r) = P s
Of P (Shares s lver) = P s
Of P (GivesUp s g) = P s
Of P (TakesOver s g) = P s
Of P (ConvertsTo s r mode) = P s
Of P (Requests s r) = P s
Of P (SetsValue s at v) = P s
Of P (GetsValue s at) = P s

of_present : (st : Setting) (es : Trace) (c : Command) (P : Session → Type 0) → ((s : Session) → IsPresent st es s → P s) → (d : Decision) → IsDecidedFor st es c d → Of P d
of_present st es c P f (Replies r) h = tt
of_present st es c P f (Joins n a) h = tt
of_present st es c P f (Leaves s) h = f s h
of_present st es c P f (ReadsArea s r) h = f s h
of_present st es c P f (Shares s lver) h = f s h
of_present st es c P f (GivesUp s g) h = f s h
of_present st es c P f (TakesOver s g) h = f s h
of_present st es c P f (ConvertsTo s r mode) h = f s h
of_present st es c P f (Requests s r) h = f s h
of_present st es c P f (SetsValue s at v) h = f s h
of_present st es c P f (GetsValue s at) h = f s h

-- What is true of each session that is present is true of the session that a command's decision is of.
pub decided_there : (st : Setting) (es : Trace) (now : ℕ) (c : Command) (P : Session → Type 0) → ((s : Session) → IsPresent st es s → P s) → Of P (decided st es now c)
decided_there st es now c P f = of_present st es c P f (decided st es now c) (decisions_are_theirs st es now c)
