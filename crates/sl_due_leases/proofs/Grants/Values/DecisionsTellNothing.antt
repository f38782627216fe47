-- What a command comes to is no reply that tells a value.
use Rattle.sl_due.specs.DueCommands.{acquiring, busy_refusal, converting, decide_acquire, decide_convert, decide_holder, decide_orphan, decide_report, decided, holding_of, joined_refusal, leave_refusal, limit_refusal, matching_session, orphan_refusal, pending_refusal, process_refusal, serving_orphan, session_refusal, setting_value, unless_refused, with_session}
use Rattle.sl_due.specs.declared.decision.Decision.{Decision}
use Rattle.sl_due.specs.declared.decision.Decision.TheVariants.{ConvertsTo, GetsValue, GivesUp, Joins, Leaves, ReadsArea, Replies, Requests, SetsValue, Shares, TakesOver}
use Rattle.sl_due_facts.proofs.Jobs.RepliesComeAfter.{mapped_or, tells_value}
use Rattle.sl_trace.specs.Counts.{busy_process, holds_already, limit_met, may_act, next_value_seq, other_holder, pending_call}
use Rattle.sl_trace.specs.KillPrograms.{is_killpath_limit}
use Rattle.sl_trace.specs.Jobs.{wanted_mode}
use Rattle.sl_trace.specs.Leases.{shared_on, spot_of}
use Rattle.sl_trace.specs.Sessions.{generation_of, holdings_of, is_active, is_joined, last_renewal, last_seq, present_sessions, session_named, sessions}
use Rattle.sl_trace.specs.Sightings.{states_seen}
use Rattle.sl_trace.specs.declared.session.Session.{Session}
use Rattle.sl_trace.specs.CountLimits.{most_lockspaces}
use Rattle.sl_trace.specs.Traces.{Setting, Trace, is_orphan, is_shared, no_process}
use Rattle.sl_trace.specs.declared.command.Command.{Command}
use Rattle.sl_trace.specs.declared.command.Command.TheVariants.{Acquire, AddLockspace, Convert, GetLvb, HostStatus, InqLockspace, Release, ReleaseOrphan, RemLockspace, Request, RunProgram, SetKillpath, SetLvb, Status, TakeOver}
use Rattle.sl_trace.specs.declared.command.LockspaceArg.{LockspaceArg}
use Rattle.sl_trace.specs.declared.command.ResourceArg.{ResourceArg}
use Rattle.sl_trace.specs.declared.effects.Grant.{Grant}
use Rattle.sl_trace.specs.declared.effects.Mode.{Mode}
use Rattle.sl_trace.specs.declared.effects.Spot.{Spot}
use Rattle.sl_trace.specs.declared.reply.Limited.TheVariants.{Killpaths, Lockspaces, Seq as SeqLimit}
use Rattle.sl_trace.specs.declared.reply.Reply.{Reply}
use Rattle.sl_trace.specs.declared.reply.Reply.TheVariants.{Busy, Done, Generation, Granted, Hosts, Joined, Joining as StillJoining, Limit as LimitReached, NoOrphan, NoProcess, NotHeld, Pending, Recovering}
use Rattle.sl_words.proofs.CaseLaws.{none_some, some_value}
use Rattle.sl_words.proofs.WordLaws.{choose_some}
use Rattle.sl_words.specs.Bounds.{is_number}
use Rattle.sl_words.specs.Words.{choose, same_truth}
use Rattle.std.proofs.Common.{refl, subst, ◌∙◌}
use Rattle.std.specs.List.{list_any}
use Rattle.std.specs.Option.{option_map_or, option_or}
use Rattle.std.specs.Prelude.{Bool, List, None, Option, Some, [], false, if◌then◌else◌, is_none, length, nat_le, not, option_and_then, option_map, true, ℕ, ◌++◌, ◌+◌, ◌∷◌, ◌≡◌}

-- Its reply, where it is one.
abbrev pub IsUntold : Decision → Type 0
IsUntold (Replies r) = tells_value r ≡ false
IsUntold d = Unit {0}

-- No refusal of these.
abbrev TellNothing : List (Option Reply) → Type 0
TellNothing [] = Unit {0}
TellNothing (o ∷ os) = ((r : Reply) → o ≡ Some r → tells_value r ≡ false) × TellNothing os

unless : (rs : List (Option Reply)) (d : Decision) → TellNothing rs → IsUntold d → IsUntold (unless_refused rs d)
unless [] d none h = h
unless (o ∷ os) d none h = by o none.0 (unless os d none.1 h) where
  by : (o : Option Reply) → ((r : Reply) → o ≡ Some r → tells_value r ≡ false) → IsUntold (unless_refused os d) → IsUntold (elim o as (λ z. Decision) [ Some why ↦ Replies why | None ↦ unless_refused os d ])
  by (Some why) refuses rest = refuses why refl
  by None refuses rest = rest

more_refusals : (rs os : List (Option Reply)) → TellNothing rs → TellNothing os → TellNothing (rs ++ os)
more_refusals [] os none h = h
more_refusals (r ∷ rs) os none h = (none.0, more_refusals rs os none.1 h)

in_session : (o : Option Session) (f : Session → Decision) → ((s : Session) → IsUntold (f s)) → IsUntold (with_session o f)
in_session None f h = refl
in_session (Some s) f h = h s

-- ---- refusals

chosen : (b : Bool) (why r : Reply) → tells_value why ≡ false → choose b why ≡ Some r → tells_value r ≡ false
chosen b why r none is = subst (λ z. tells_value z ≡ false) (choose_some b why r is).1 none

mapped : {A : Type 0} (f : A → Reply) (o : Option A) (r : Reply) → ((a : A) → tells_value (f a) ≡ false) → option_map f o ≡ Some r → tells_value r ≡ false
mapped f None r h is = absurd (none_some r is)
mapped f (Some a) r h is = subst (λ z. tells_value z ≡ false) (some_value (f a) r is) (h a)

of_session : (st : Setting) (es : Trace) (s : Session) (r : Reply) → session_refusal st es s ≡ Some r → tells_value r ≡ false
of_session st es s r is = by (is_joined es s) is where
  by : (b : Bool) → (if not b then Some StillJoining else choose (not (is_active st es s)) (Recovering (last_renewal st es s))) ≡ Some r → tells_value r ≡ false
  by true h = chosen (not (is_active st es s)) (Recovering (last_renewal st es s)) r refl h
  by false h = subst (λ z. tells_value z ≡ false) (some_value StillJoining r h) refl

of_process : (es : Trace) (p : ℕ) (r : Reply) → process_refusal es p ≡ Some r → tells_value r ≡ false
of_process es p r is = chosen (not (may_act es p)) (NoProcess p) r refl is

of_asking : (es : Trace) (asking : Option ℕ) (r : Reply) → option_and_then (process_refusal es) asking ≡ Some r → tells_value r ≡ false
of_asking es None r is = absurd (none_some r is)
of_asking es (Some p) r is = of_process es p r is

of_busy : (es : Trace) (at : Spot) (asking : Option ℕ) (shared : Bool) (r : Reply) → busy_refusal es at asking shared ≡ Some r → tells_value r ≡ false
of_busy es at asking shared r is = mapped (λ p. Busy p) (busy_process es at asking shared) r (λ p. refl) is

of_pending : (st : Setting) (es : Trace) (at : Spot) (r : Reply) → pending_refusal st es at ≡ Some r → tells_value r ≡ false
of_pending st es at r is = mapped (λ n. Pending n) (pending_call st es at) r (λ n. refl) is

of_limit : (st : Setting) (es : Trace) (s : Session) (at : Spot) (program : Bool) (r : Reply) → limit_refusal st es s at program ≡ Some r → tells_value r ≡ false
of_limit st es s at program r is = mapped (λ l. LimitReached l) (limit_met st es s at program) r (λ l. refl) is

-- ---- commands

acquires : (st : Setting) (es : Trace) (r : ResourceArg) (asking : Option ℕ) (shared program : Bool) → IsUntold (decide_acquire st es r asking shared program)
acquires st es r asking shared program =
    in_session (session_named st es r.lockspace) (λ s. unless_refused (session_refusal st es s ∷ option_and_then (process_refusal es) asking ∷ busy_refusal es (spot_of r) asking shared ∷ pending_refusal st es (spot_of r) ∷ limit_refusal st es s (spot_of r) program ∷ []) (acquiring es s r shared)) (λ s. unless (session_refusal st es s ∷ option_and_then (process_refusal es) asking ∷ busy_refusal es (spot_of r) asking shared ∷ pending_refusal st es (spot_of r) ∷ limit_refusal st es s (spot_of r) program ∷ []) (acquiring es s r shared)
    (λ w is. of_session st es s w is, (λ w is. of_asking es asking w is, (λ w is. of_busy es (spot_of r) asking shared w is, (λ w is. of_pending st es (spot_of r) w is, (λ w is. of_limit st es s (spot_of r) program w is, tt)))))
    (by s shared)) where
      found : (s : Session) (o : Option Grant) → IsUntold (elim o as (λ z. Decision) [ None ↦ ReadsArea s r | Some g ↦ Shares s g.lver ])
      found s None = tt
      found s (Some g) = tt

      by : (s : Session) (b : Bool) → IsUntold (acquiring es s r b)
      by s false = tt
      by s true = found s (shared_on es s (spot_of r))

holds : (st : Setting) (es : Trace) (r : ResourceArg) (p : ℕ) (serves : Grant → Bool) (f : Session → Grant → Decision) → ((s : Session) (g : Grant) → IsUntold (f s g)) → IsUntold (decide_holder st es r p serves f)
holds st es r p serves f h =
    in_session (session_named st es r.lockspace) (λ s. unless_refused (session_refusal st es s ∷ process_refusal es p ∷ choose (is_none (holding_of es s (spot_of r) p serves)) NotHeld ∷ pending_refusal st es (spot_of r) ∷ []) (option_map_or (f s) (holding_of es s (spot_of r) p serves) (Replies NotHeld))) (λ s. unless (session_refusal st es s ∷ process_refusal es p ∷ choose (is_none (holding_of es s (spot_of r) p serves)) NotHeld ∷ pending_refusal st es (spot_of r) ∷ []) (option_map_or (f s) (holding_of es s (spot_of r) p serves) (Replies NotHeld))
    (λ w is. of_session st es s w is, (λ w is. of_process es p w is, (λ w is. chosen (is_none (holding_of es s (spot_of r) p serves)) NotHeld w refl is, (λ w is. of_pending st es (spot_of r) w is, tt))))
    (mapped_or IsUntold (f s) (holding_of es s (spot_of r) p serves) (Replies NotHeld) (λ g. h s g) refl))

converts : (st : Setting) (es : Trace) (r : ResourceArg) (p : ℕ) (mode : Mode) → IsUntold (decide_convert st es r p mode)
converts st es r p mode =
    in_session (session_named st es r.lockspace) (λ s. unless_refused (session_refusal st es s ∷ process_refusal es p ∷ choose (is_none (holding_of es s (spot_of r) p (λ g. true))) NotHeld ∷ option_and_then (λ q. choose (not (is_shared mode)) (Busy q)) (other_holder es (spot_of r) p) ∷ pending_refusal st es (spot_of r) ∷ []) (option_map_or (converting s r mode) (holding_of es s (spot_of r) p (λ g. true)) (Replies NotHeld))) (λ s. unless (session_refusal st es s ∷ process_refusal es p ∷ choose (is_none (holding_of es s (spot_of r) p (λ g. true))) NotHeld ∷ option_and_then (λ q. choose (not (is_shared mode)) (Busy q)) (other_holder es (spot_of r) p) ∷ pending_refusal st es (spot_of r) ∷ []) (option_map_or (converting s r mode) (holding_of es s (spot_of r) p (λ g. true)) (Replies NotHeld))
    (λ w is. of_session st es s w is, (λ w is. of_process es p w is, (λ w is. chosen (is_none (holding_of es s (spot_of r) p (λ g. true))) NotHeld w refl is, (λ w is. other (other_holder es (spot_of r) p) w is, (λ w is. of_pending st es (spot_of r) w is, tt)))))
    (mapped_or IsUntold (converting s r mode) (holding_of es s (spot_of r) p (λ g. true)) (Replies NotHeld) (λ g. by s g (same_truth (is_shared mode) (is_shared g.mode))) refl)) where
      other : (o : Option ℕ) (w : Reply) → option_and_then (λ q. choose (not (is_shared mode)) (Busy q)) o ≡ Some w → tells_value w ≡ false
      other None w is = absurd (none_some w is)
      other (Some q) w is = chosen (not (is_shared mode)) (Busy q) w refl is

      by : (s : Session) (g : Grant) (b : Bool) → IsUntold (elim b as (λ z. Decision) [ true ↦ Replies (Granted g.lver) | false ↦ ConvertsTo s r mode ])
      by s g true = refl
      by s g false = tt

orphans : (st : Setting) (es : Trace) (r : ResourceArg) (asking : Option ℕ) (serves : Grant → Bool) (refusals : List (Option Reply)) (f : Session → Grant → Decision) → TellNothing refusals → ((s : Session) (g : Grant) → IsUntold (f s g))
    → IsUntold (decide_orphan st es r asking serves refusals f)
orphans st es r asking serves refusals f none h =
    in_session (session_named st es r.lockspace) (λ s. unless_refused (session_refusal st es s ∷ option_and_then (process_refusal es) asking ∷ choose (is_none (serving_orphan es s (spot_of r) serves)) NoOrphan ∷ (refusals ++ pending_refusal st es (spot_of r) ∷ [])) (option_map_or (f s) (serving_orphan es s (spot_of r) serves) (Replies NoOrphan))) (λ s. unless (session_refusal st es s ∷ option_and_then (process_refusal es) asking ∷ choose (is_none (serving_orphan es s (spot_of r) serves)) NoOrphan ∷ (refusals ++ pending_refusal st es (spot_of r) ∷ [])) (option_map_or (f s) (serving_orphan es s (spot_of r) serves) (Replies NoOrphan))
    (λ w is. of_session st es s w is, (λ w is. of_asking es asking w is, (λ w is. chosen (is_none (serving_orphan es s (spot_of r) serves)) NoOrphan w refl is, more_refusals refusals (pending_refusal st es (spot_of r) ∷ []) none (λ w is. of_pending st es (spot_of r) w is, tt))))
    (mapped_or IsUntold (f s) (serving_orphan es s (spot_of r) serves) (Replies NoOrphan) (λ g. h s g) refl))

reports : (st : Setting) (es : Trace) (a : LockspaceArg) (answer : Session → Reply) → ((s : Session) → tells_value (answer s) ≡ false) → IsUntold (decide_report st es a answer)
reports st es a answer h = in_session (matching_session st es a) (λ s. unless_refused (session_refusal st es s ∷ []) (Replies (answer s))) (λ s. unless (session_refusal st es s ∷ []) (Replies (answer s)) (λ w is. of_session st es s w is, tt) (h s))

joined : (st : Setting) (es : Trace) (o : Option Session) (r : Reply) → joined_refusal st es o ≡ Some r → tells_value r ≡ false
joined st es None r is = absurd (none_some r is)
joined st es (Some s) r is = by (session_refusal st es s) refl is where
  by : (o : Option Reply) → session_refusal st es s ≡ o → option_or o (Some (Joined (generation_of es s))) ≡ Some r → tells_value r ≡ false
  by (Some w) at h = of_session st es s r (at ∙ h)
  by None at h = subst (λ z. tells_value z ≡ false) (some_value (Joined (generation_of es s)) r h) refl

setting : (s : Session) (at : Spot) (g : Grant) (seq : ℕ) (bytes : List ℕ) → IsUntold (setting_value s at g seq bytes)
setting s at g seq bytes = by (is_number seq) where
  by : (b : Bool) → IsUntold (elim b as (λ z. Decision) [ false ↦ Replies (LimitReached SeqLimit) | true ↦ SetsValue s at (record { host = s.id; lver = g.lver; seq = seq; bytes = bytes }) ])
  by true = tt
  by false = refl

-- No command is answered at once by a value.
pub decisions_tell_nothing : (st : Setting) (es : Trace) (now : ℕ) (c : Command) → IsUntold (decided st es now c)
unfolding decided
decisions_tell_nothing st es now (AddLockspace a) =
    unless (joined_refusal st es (session_named st es a.name) ∷ choose (nat_le most_lockspaces (length (present_sessions st es))) (LimitReached Lockspaces) ∷ []) (Joins (length (sessions st es)) a)
    (λ w is. joined st es (session_named st es a.name) w is, (λ w is. chosen (nat_le most_lockspaces (length (present_sessions st es))) (LimitReached Lockspaces) w refl is, tt)) tt
decisions_tell_nothing st es now (RemLockspace a) =
    in_session (matching_session st es a) (λ s. unless_refused (session_refusal st es s ∷ orphan_refusal es s ∷ leave_refusal es s ∷ []) (Leaves s)) (λ s. unless (session_refusal st es s ∷ orphan_refusal es s ∷ leave_refusal es s ∷ []) (Leaves s)
    (λ w is. of_session st es s w is, (λ w is. chosen (list_any is_orphan (holdings_of es s)) (Busy no_process) w refl is, (λ w is. chosen (not (is_number (last_seq es s + 1))) (LimitReached SeqLimit) w refl is, tt))) tt)
decisions_tell_nothing st es now (InqLockspace a) = reports st es a (λ s. Generation (generation_of es s)) (λ s. refl)
decisions_tell_nothing st es now (HostStatus a) = reports st es a (λ s. Hosts (states_seen st es s now)) (λ s. refl)
decisions_tell_nothing st es now (Acquire r shared p persistent) = acquires st es r (Some p) shared false
decisions_tell_nothing st es now (TakeOver r shared p persistent) =
    orphans st es r (Some p) (λ g. same_truth shared (is_shared g.mode)) (option_map (λ q. Busy q) (holds_already es (spot_of r) p) ∷ []) (λ s g. TakesOver s g)
    (λ w is. mapped (λ q. Busy q) (holds_already es (spot_of r) p) w (λ q. refl) is, tt) (λ s g. tt)
decisions_tell_nothing st es now (RunProgram r shared path) = acquires st es r None shared true
decisions_tell_nothing st es now (Release r p) = holds st es r p (λ g. true) (λ s g. GivesUp s g) (λ s g. tt)
decisions_tell_nothing st es now (ReleaseOrphan r) = orphans st es r None (λ g. true) [] (λ s g. GivesUp s g) tt (λ s g. tt)
decisions_tell_nothing st es now (Convert r shared p) = converts st es r p (wanted_mode (Convert r shared p))
decisions_tell_nothing st es now (Request r lver how) =
    in_session (session_named st es r.lockspace) (λ s. unless_refused (session_refusal st es s ∷ pending_refusal st es (spot_of r) ∷ []) (Requests s r)) (λ s. unless (session_refusal st es s ∷ pending_refusal st es (spot_of r) ∷ []) (Requests s r) (λ w is. of_session st es s w is, (λ w is. of_pending st es (spot_of r) w is, tt)) tt)
decisions_tell_nothing st es now (GetLvb r p) = holds st es r p (λ g. true) (λ s g. GetsValue s (spot_of r)) (λ s g. tt)
decisions_tell_nothing st es now (SetLvb r p bytes) =
    holds st es r p (λ g. not (is_shared g.mode)) (λ s g. setting_value s (spot_of r) g (next_value_seq st es s (spot_of r) g.lver) bytes)
    (λ s g. setting s (spot_of r) g (next_value_seq st es s (spot_of r) g.lver) bytes)
decisions_tell_nothing st es now (SetKillpath p path) =
    unless (process_refusal es p ∷ choose (is_killpath_limit st es p) (LimitReached Killpaths) ∷ []) (Replies Done) (λ w is. of_process es p w is, (λ w is. chosen (is_killpath_limit st es p) (LimitReached Killpaths) w refl is, tt)) refl
decisions_tell_nothing st es now Status = refl
