-- What a decision has found: its session is active, has the lockspace that the command names, and it is on the command's resource.
use Rattle.sl_due.specs.DueCommands.{acquiring, busy_refusal, converting, decide_acquire, decide_holder, decide_orphan, decide_report, decided, holding_of, joined_refusal, leave_refusal, limit_refusal, matching_session, orphan_refusal, pending_refusal, process_refusal, serving_orphan, session_refusal, setting_value, unless_refused, with_session}
use Rattle.sl_due.specs.declared.decision.Decision.{Decision}
use Rattle.sl_due.specs.declared.decision.Decision.TheVariants.{ConvertsTo, GetsValue, GivesUp, Joins, Leaves, ReadsArea, Replies, Requests, SetsValue, Shares, TakesOver}
use Rattle.sl_trace.specs.Counts.{holds_already, next_value_seq, other_holder}
use Rattle.sl_trace.specs.KillPrograms.{is_killpath_limit}
use Rattle.sl_trace.specs.Jobs.{aim_of_command, resource_named, wanted_mode}
use Rattle.sl_trace.specs.Leases.{holdings_on, orphan_on, shared_on, spot_of}
use Rattle.sl_words.proofs.Lists.{find_inside}
use Rattle.sl_words.proofs.Options.{then_value}
use Rattle.sl_trace.specs.Sessions.{generation_of, is_active, is_joined, is_session_arg, last_renewal, last_seq, present_sessions, session_named, sessions}
use Rattle.sl_trace.specs.Sightings.{states_seen}
use Rattle.sl_trace.specs.declared.session.Session.{Session}
use Rattle.sl_trace.specs.CountLimits.{most_lockspaces}
use Rattle.sl_trace.specs.Traces.{Setting, Trace, is_orphan, is_shared}
use Rattle.sl_trace.specs.declared.command.Command.{Command}
use Rattle.sl_trace.specs.declared.command.Command.TheVariants.{Acquire, AddLockspace, Convert, GetLvb, HostStatus, InqLockspace, Release, ReleaseOrphan, RemLockspace, Request, RunProgram, SetKillpath, SetLvb, Status, TakeOver}
use Rattle.sl_trace.specs.declared.command.LockspaceArg.{LockspaceArg}
use Rattle.sl_trace.specs.declared.command.ResourceArg.{ResourceArg}
use Rattle.sl_trace.specs.declared.effects.Grant.{Grant}
use Rattle.sl_trace.specs.declared.effects.Mode.{Mode}
use Rattle.sl_trace.specs.declared.reply.Limited.TheVariants.{Killpaths, Lockspaces, Seq as SeqLimit}
use Rattle.sl_trace.specs.declared.reply.Reply.{Reply}
use Rattle.sl_trace.specs.declared.reply.Reply.TheVariants.{Busy, Done, Generation, Granted, Hosts, Joined, Joining as StillJoining, Limit as LimitReached, NoOrphan, NoSession, NotHeld, Recovering}
use Rattle.sl_words.proofs.CaseLaws.{none_some, true_is_false}
use Rattle.sl_words.proofs.OptionLaws.{choose_none}
use Rattle.sl_words.proofs.WordLaws.{choose_some}
use Rattle.sl_words.specs.Bounds.{is_number}
use Rattle.sl_words.specs.Words.{choose, same_truth}
use Rattle.std.proofs.Common.{ap, refl, subst, sym, ◌∙◌}
use Rattle.std.specs.Option.{option_map_or, option_or}
use Rattle.std.specs.Prelude.{Bool, Contains, IsSome, IsTrue, List, None, Option, Some, [], false, if◌then◌else◌, is_none, length, nat_le, not, option_and_then, option_map, true, ℕ, ◌&&◌, ◌++◌, ◌+◌, ◌==◌, ◌∷◌, ◌≡◌}

abbrev pub IsActive : Setting → Trace → Session → Type 0
IsActive st es s = is_active st es s ≡ true

-- The command is about this resource, of the session's lockspace.
abbrev pub IsOnResource : Setting → Trace → Session → ResourceArg → Command → Type 0
IsOnResource st es s r c = (resource_named c ≡ Some r) × (session_named st es r.lockspace ≡ Some s)

-- What is known of a decision that is more than a reply.
abbrev pub DecisionFits : Setting → Trace → Command → Decision → Type 0
DecisionFits st es c (Replies r) = Unit {0}
DecisionFits st es c (Joins n a) = (c ≡ AddLockspace a) × (n ≡ length (sessions st es)) × (session_named st es a.name ≡ None)
DecisionFits st es c (Leaves s) = IsActive st es s × ((a : LockspaceArg) × (c ≡ RemLockspace a) × (session_named st es a.name ≡ Some s) × (is_session_arg s a ≡ true) × IsTrue (is_number (last_seq es s + 1)))
DecisionFits st es c (ReadsArea s r) = IsActive st es s × IsOnResource st es s r c × IsSome (aim_of_command c)
DecisionFits st es c (Shares s lver) = IsActive st es s × ((r : ResourceArg) × IsOnResource st es s r c)
DecisionFits st es c (GivesUp s g) = IsActive st es s × ((r : ResourceArg) × IsOnResource st es s r c × IsSome (aim_of_command c) × Contains (holdings_on es s (spot_of r)) g)
DecisionFits st es c (TakesOver s g) = IsActive st es s × ((r : ResourceArg) × IsOnResource st es s r c × Contains (holdings_on es s (spot_of r)) g)
DecisionFits st es c (ConvertsTo s r mode) = IsActive st es s × IsOnResource st es s r c × IsSome (aim_of_command c)
DecisionFits st es c (Requests s r) = IsActive st es s × IsOnResource st es s r c × ((lver force : ℕ) × (c ≡ Request r lver force))
DecisionFits st es c (SetsValue s at v) = IsActive st es s × ((r : ResourceArg) × IsOnResource st es s r c × (at ≡ spot_of r) × ((p : ℕ) × (bytes : List ℕ) × (c ≡ SetLvb r p bytes)))
DecisionFits st es c (GetsValue s at) = IsActive st es s × ((r : ResourceArg) × IsOnResource st es s r c × (at ≡ spot_of r) × ((p : ℕ) × (c ≡ GetLvb r p)))

-- ---- what is found on the way

refused_or : (Q : Decision → Type 0) → ((r : Reply) → Q (Replies r)) → (o : Option Reply) (d : Decision) → (o ≡ None → Q d) → Q (elim o as (λ z. Decision) [ Some why ↦ Replies why | None ↦ d ])
refused_or Q q (Some why) d h = q why
refused_or Q q None d h = h refl

unless : (Q : Decision → Type 0) → ((r : Reply) → Q (Replies r)) → (rs : List (Option Reply)) (d : Decision) → Q d → Q (unless_refused rs d)
unless Q q [] d h = h
unless Q q (r ∷ rs) d h = refused_or Q q r (unless_refused rs d) (λ none. unless Q q rs d h)

active_if : (st : Setting) (es : Trace) (s : Session) → session_refusal st es s ≡ None → IsActive st es s
active_if st es s none = by (is_joined es s) none where
  by : (b : Bool) → (if not b then Some StillJoining else choose (not (is_active st es s)) (Recovering (last_renewal st es s))) ≡ None → is_active st es s ≡ true
  by false h = absurd (none_some StillJoining (sym h))
  by true h = was (is_active st es s) (choose_none (not (is_active st es s)) (Recovering (last_renewal st es s)) h) where
    was : (b : Bool) → not b ≡ false → b ≡ true
    was true n = refl
    was false n = absurd (true_is_false n)

-- Of an active session that is found, where the first refusal is by its state.
where_active : (Q : Decision → Type 0) → ((r : Reply) → Q (Replies r)) → (st : Setting) (es : Trace) (o : Option Session) (rs : Session → List (Option Reply)) (f : Session → Decision)
    → ((s : Session) → o ≡ Some s → IsActive st es s → Q (f s)) → Q (with_session o (λ s. unless_refused (session_refusal st es s ∷ rs s) (f s)))
where_active Q q st es None rs f h = q NoSession
where_active Q q st es (Some s) rs f h =
    refused_or Q q (session_refusal st es s) (unless_refused (rs s) (f s)) (λ none. unless Q q (rs s) (f s) (h s refl (active_if st es s none)))

where_held : (Q : Decision → Type 0) → ((r : Reply) → Q (Replies r)) → (o : Option Grant) (f : Grant → Decision) (r : Reply) → ((g : Grant) → o ≡ Some g → Q (f g)) → Q (option_map_or f o (Replies r))
where_held Q q None f r h = q r
where_held Q q (Some g) f r h = h g refl

beside : (Q : Decision → Type 0) (s : Session) (r : ResourceArg) (shared : Bool) (o : Option Grant) → Q (ReadsArea s r) → ((lver : ℕ) → Q (Shares s lver))
    → Q (elim shared as (λ z. Decision) [ false ↦ ReadsArea s r | true ↦ elim o as (λ z. Decision) [ None ↦ ReadsArea s r | Some g ↦ Shares s g.lver ] ])
beside Q s r false o h k = h
beside Q s r true None h k = h
beside Q s r true (Some g) h k = k g.lver

chosen : (Q : Decision → Type 0) (b : Bool) (d e : Decision) → Q d → Q e → Q (elim b as (λ z. Decision) [ false ↦ d | true ↦ e ])
chosen Q false d e h k = h
chosen Q true d e h k = k

-- ---- forms of commands

acquires : (st : Setting) (es : Trace) (c : Command) (r : ResourceArg) (asking : Option ℕ) (shared program : Bool) → resource_named c ≡ Some r → IsSome (aim_of_command c)
    → DecisionFits st es c (decide_acquire st es r asking shared program)
acquires st es c r asking shared program names aims =
    where_active (DecisionFits st es c) (λ w. tt) st es (session_named st es r.lockspace)
    (λ s. option_and_then (process_refusal es) asking ∷ busy_refusal es (spot_of r) asking shared ∷ pending_refusal st es (spot_of r) ∷ limit_refusal st es s (spot_of r) program ∷ [])
    (λ s. acquiring es s r shared)
    (λ s is active. beside (DecisionFits st es c) s r shared (shared_on es s (spot_of r)) (active, (names, is), aims) (λ lver. (active, (r, (names, is)))))

holds : (st : Setting) (es : Trace) (c : Command) (r : ResourceArg) (p : ℕ) (serves : Grant → Bool) (f : Session → Grant → Decision)
    → ((s : Session) (g : Grant) → session_named st es r.lockspace ≡ Some s → IsActive st es s → Contains (holdings_on es s (spot_of r)) g → DecisionFits st es c (f s g)) → DecisionFits st es c (decide_holder st es r p serves f)
holds st es c r p serves f h =
    where_active (DecisionFits st es c) (λ w. tt) st es (session_named st es r.lockspace)
    (λ s. process_refusal es p ∷ choose (is_none (holding_of es s (spot_of r) p serves)) NotHeld ∷ pending_refusal st es (spot_of r) ∷ [])
    (λ s. option_map_or (f s) (holding_of es s (spot_of r) p serves) (Replies NotHeld))
    (λ s is active. where_held (DecisionFits st es c) (λ w. tt) (holding_of es s (spot_of r) p serves) (f s) NotHeld
    (λ g held. h s g is active (find_inside (λ (z : Grant). z.process == p && serves z) (holdings_on es s (spot_of r)) g held).0))

orphaned : (st : Setting) (es : Trace) (c : Command) (r : ResourceArg) (asking : Option ℕ) (serves : Grant → Bool) (refusals : List (Option Reply)) (f : Session → Grant → Decision)
    → ((s : Session) (g : Grant) → session_named st es r.lockspace ≡ Some s → IsActive st es s → Contains (holdings_on es s (spot_of r)) g → DecisionFits st es c (f s g))
    → DecisionFits st es c (decide_orphan st es r asking serves refusals f)
orphaned st es c r asking serves refusals f h =
    where_active (DecisionFits st es c) (λ w. tt) st es (session_named st es r.lockspace)
    (λ s. option_and_then (process_refusal es) asking ∷ choose (is_none (serving_orphan es s (spot_of r) serves)) NoOrphan ∷ refusals ++ pending_refusal st es (spot_of r) ∷ [])
    (λ s. option_map_or (f s) (serving_orphan es s (spot_of r) serves) (Replies NoOrphan))
    (λ s is active. where_held (DecisionFits st es c) (λ w. tt) (serving_orphan es s (spot_of r) serves) (f s) NoOrphan
    (λ g held. h s g is active (orphan_there s g held)))
  where
    orphan_there : (s : Session) (g : Grant) → serving_orphan es s (spot_of r) serves ≡ Some g → Contains (holdings_on es s (spot_of r)) g
    orphan_there s g held =
        let v = then_value (λ (x : Grant). choose (serves x) x) (orphan_on es s (spot_of r)) g held in
        subst (λ z. Contains (holdings_on es s (spot_of r)) z) (choose_some (serves v.0) v.0 g v.2).1 (find_inside is_orphan (holdings_on es s (spot_of r)) v.0 v.1).0

reports : (st : Setting) (es : Trace) (c : Command) (a : LockspaceArg) (answer : Session → Reply) → DecisionFits st es c (decide_report st es a answer)
reports st es c a answer = where_active (DecisionFits st es c) (λ w. tt) st es (matching_session st es a) (λ s. []) (λ s. Replies (answer s)) (λ s is active. tt)

converts : (st : Setting) (es : Trace) (c : Command) (s : Session) (r : ResourceArg) (mode : Mode) (g : Grant) → IsActive st es s → IsOnResource st es s r c → IsSome (aim_of_command c) → DecisionFits st es c (converting s r mode g)
converts st es c s r mode g active on aims =
    chosen (DecisionFits st es c) (same_truth (is_shared mode) (is_shared g.mode)) (ConvertsTo s r mode) (Replies (Granted g.lver)) (active, on, aims) tt

-- Each decision fits its command.
pub decisions_fit : (st : Setting) (es : Trace) (now : ℕ) (c : Command) → DecisionFits st es c (decided st es now c)
unfolding decided
decisions_fit st es now (AddLockspace a) =
    joins (session_named st es a.name) refl where
      joins : (o : Option Session) → session_named st es a.name ≡ o
          → DecisionFits st es (AddLockspace a) (unless_refused (joined_refusal st es o ∷ choose (nat_le most_lockspaces (length (present_sessions st es))) (LimitReached Lockspaces) ∷ []) (Joins (length (sessions st es)) a))
      joins None is = unless (DecisionFits st es (AddLockspace a)) (λ w. tt) (choose (nat_le most_lockspaces (length (present_sessions st es))) (LimitReached Lockspaces) ∷ []) (Joins (length (sessions st es)) a) (refl, refl, is)
      joins (Some s) is = refused_or (DecisionFits st es (AddLockspace a)) (λ w. tt) (joined_refusal st es (Some s)) (unless_refused (choose (nat_le most_lockspaces (length (present_sessions st es))) (LimitReached Lockspaces) ∷ []) (Joins (length (sessions st es)) a))
          (λ none. absurd (never (session_refusal st es s) none)) where
            never : (o : Option Reply) → option_or o (Some (Joined (generation_of es s))) ≡ None → ⊥
            never None h = none_some (Joined (generation_of es s)) (sym h)
            never (Some w) h = none_some w (sym h)
decisions_fit st es now (RemLockspace a) = by (matching_session st es a) refl where
  left_over : (s : Session) → leave_refusal es s ≡ None → is_number (last_seq es s + 1) ≡ true
  left_over s none = was (is_number (last_seq es s + 1)) (choose_none (not (is_number (last_seq es s + 1))) (LimitReached SeqLimit) none) where
    was : (b : Bool) → not b ≡ false → b ≡ true
    was true n = refl
    was false n = absurd (true_is_false n)

  matched : (s : Session) → matching_session st es a ≡ Some s → (session_named st es a.name ≡ Some s) × (is_session_arg s a ≡ true)
  matched s is =
      let v = then_value (λ (x : Session). choose (is_session_arg x a) x) (session_named st es a.name) s is in
      let both = choose_some (is_session_arg v.0 a) v.0 s v.2 in
      (v.1 ∙ ap (λ z. Some z) both.1, subst (λ (z : Session). is_session_arg z a ≡ true) both.1 both.0)

  by : (o : Option Session) → matching_session st es a ≡ o
      → DecisionFits st es (RemLockspace a) (with_session o (λ s. unless_refused (session_refusal st es s ∷ orphan_refusal es s ∷ leave_refusal es s ∷ []) (Leaves s)))
  by None is = tt
  by (Some s) is =
      let m = matched s is in
      refused_or (DecisionFits st es (RemLockspace a)) (λ w. tt) (session_refusal st es s) (unless_refused (orphan_refusal es s ∷ leave_refusal es s ∷ []) (Leaves s)) (λ first.
      refused_or (DecisionFits st es (RemLockspace a)) (λ w. tt) (orphan_refusal es s) (unless_refused (leave_refusal es s ∷ []) (Leaves s)) (λ second.
      refused_or (DecisionFits st es (RemLockspace a)) (λ w. tt) (leave_refusal es s) (Leaves s) (λ third.
      (active_if st es s first, (a, refl, m.0, m.1, left_over s third)))))
decisions_fit st es now (InqLockspace a) = reports st es (InqLockspace a) a (λ s. Generation (generation_of es s))
decisions_fit st es now (HostStatus a) = reports st es (HostStatus a) a (λ s. Hosts (states_seen st es s now))
decisions_fit st es now (Acquire r shared p persistent) = acquires st es (Acquire r shared p persistent) r (Some p) shared false refl refl
decisions_fit st es now (RunProgram r shared path) = acquires st es (RunProgram r shared path) r None shared true refl refl
decisions_fit st es now (TakeOver r shared p persistent) =
    orphaned st es (TakeOver r shared p persistent) r (Some p) (λ g. same_truth shared (is_shared g.mode)) (option_map (λ q. Busy q) (holds_already es (spot_of r) p) ∷ []) (λ s g. TakesOver s g)
    (λ s g is active there. (active, (r, (refl, is), there)))
decisions_fit st es now (Release r p) = holds st es (Release r p) r p (λ g. true) (λ s g. GivesUp s g) (λ s g is active there. (active, (r, (refl, is), refl, there)))
decisions_fit st es now (ReleaseOrphan r) = orphaned st es (ReleaseOrphan r) r None (λ g. true) [] (λ s g. GivesUp s g) (λ s g is active there. (active, (r, (refl, is), refl, there)))
decisions_fit st es now (Convert r shared p) =
    where_active (DecisionFits st es (Convert r shared p)) (λ w. tt) st es (session_named st es r.lockspace)
    (λ s. process_refusal es p ∷ choose (is_none (holding_of es s (spot_of r) p (λ g. true))) NotHeld
    ∷ option_and_then (λ q. choose (not (is_shared (wanted_mode (Convert r shared p)))) (Busy q)) (other_holder es (spot_of r) p) ∷ pending_refusal st es (spot_of r) ∷ [])
    (λ s. option_map_or (converting s r (wanted_mode (Convert r shared p))) (holding_of es s (spot_of r) p (λ g. true)) (Replies NotHeld))
    (λ s is active. where_held (DecisionFits st es (Convert r shared p)) (λ w. tt) (holding_of es s (spot_of r) p (λ g. true)) (converting s r (wanted_mode (Convert r shared p))) NotHeld
    (λ g held. converts st es (Convert r shared p) s r (wanted_mode (Convert r shared p)) g active (refl, is) refl))
decisions_fit st es now (Request r lver force) =
    where_active (DecisionFits st es (Request r lver force)) (λ w. tt) st es (session_named st es r.lockspace) (λ s. pending_refusal st es (spot_of r) ∷ []) (λ s. Requests s r)
    (λ s is active. (active, (refl, is), (lver, force, refl)))
decisions_fit st es now (GetLvb r p) = holds st es (GetLvb r p) r p (λ g. true) (λ s g. GetsValue s (spot_of r)) (λ s g is active there. (active, (r, (refl, is), refl, (p, refl))))
decisions_fit st es now (SetLvb r p bytes) =
    holds st es (SetLvb r p bytes) r p (λ g. not (is_shared g.mode)) (λ s g. setting_value s (spot_of r) g (next_value_seq st es s (spot_of r) g.lver) bytes)
    (λ s g is active there. chosen (DecisionFits st es (SetLvb r p bytes)) (is_number (next_value_seq st es s (spot_of r) g.lver)) (Replies (LimitReached SeqLimit))
    (SetsValue s (spot_of r) (record { host = s.id; lver = g.lver; seq = next_value_seq st es s (spot_of r) g.lver; bytes = bytes })) tt (active, (r, (refl, is), refl, (p, bytes, refl))))
decisions_fit st es now (SetKillpath p path) =
    unless (DecisionFits st es (SetKillpath p path)) (λ w. tt) (process_refusal es p ∷ choose (is_killpath_limit st es p) (LimitReached Killpaths) ∷ []) (Replies Done) tt
decisions_fit st es now Status = tt
