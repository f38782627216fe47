-- What a command to work on an area has found before it is decided: an active session, and no call that is open on the area.
use Rattle.sl_due.specs.DueCommands.{acquiring, busy_refusal, converting, decide_acquire, decide_convert, decide_holder, decide_orphan, decide_report, decide_request, decide_take_over, decided, holding_of, joined_refusal, leave_refusal, limit_refusal, matching_session, orphan_refusal, pending_refusal, process_refusal, serving_orphan, session_refusal, setting_value, unless_refused, with_session}
use Rattle.sl_due.specs.declared.decision.Decision.TheVariants.{ConvertsTo, GetsValue, GivesUp, Joins, Leaves, ReadsArea, Replies, Requests, SetsValue, Shares, TakesOver}
use Rattle.sl_due.specs.declared.decision.Decision.{Decision}
use Rattle.sl_trace.specs.Counts.{holds_already, next_value_seq, other_holder, pending_call}
use Rattle.sl_trace.specs.KillPrograms.{is_killpath_limit}
use Rattle.sl_trace.specs.declared.lease.Aim.TheVariants.{Converts, Releases}
use Rattle.sl_trace.specs.Jobs.{aim_of_command, resource_named, wanted_mode}
use Rattle.sl_trace.specs.Leases.{holdings_on, orphan_on, shared_on, spot_of}
use Rattle.sl_words.proofs.Lists.{contains_cases, contains_first, contains_more, contains_none, find_inside}
use Rattle.sl_words.proofs.Options.{then_value}
use Rattle.sl_trace.specs.Sessions.{generation_of, is_active, is_joined, last_renewal, present_sessions, session_named, sessions}
use Rattle.sl_trace.specs.Sightings.{states_seen}
use Rattle.sl_trace.specs.declared.session.Session.{Session}
use Rattle.sl_trace.specs.CountLimits.{most_lockspaces}
use Rattle.sl_trace.specs.Traces.{Setting, Trace, is_orphan, is_shared}
use Rattle.sl_trace.specs.declared.command.Command.TheVariants.{Acquire, AddLockspace, Convert, GetLvb, HostStatus, InqLockspace, Release, ReleaseOrphan, RemLockspace, Request, RunProgram, SetKillpath, SetLvb, Status, TakeOver}
use Rattle.sl_trace.specs.declared.command.Command.{Command}
use Rattle.sl_trace.specs.declared.command.LockspaceArg.{LockspaceArg}
use Rattle.sl_trace.specs.declared.command.ResourceArg.{ResourceArg}
use Rattle.sl_trace.specs.declared.effects.Grant.{Grant}
use Rattle.sl_trace.specs.declared.effects.Mode.{Mode}
use Rattle.sl_trace.specs.declared.effects.Spot.{Spot}
use Rattle.sl_trace.specs.declared.reply.Limited.TheVariants.{Killpaths, Lockspaces, Seq as SeqLimit}
use Rattle.sl_trace.specs.declared.reply.Reply.TheVariants.{Busy, Done, Generation, Granted, Hosts, Limit as LimitReached, NoOrphan, NoSession, NotHeld, Pending, Joining as StillJoining, Recovering}
use Rattle.sl_trace.specs.declared.reply.Reply.{Reply}
use Rattle.sl_words.proofs.CaseLaws.{false_is_true, none_some}
use Rattle.sl_words.proofs.WordLaws.{and_true, choose_some}
use Rattle.sl_words.specs.Bounds.{is_number}
use Rattle.sl_words.specs.Words.{choose, same_truth}
use Rattle.std.proofs.Common.{inl, inr, refl, subst, sym, ◌∙◌}
use Rattle.std.specs.Option.{option_map_or}
use Rattle.std.specs.Prelude.{Bool, Contains, List, None, Option, Some, false, if◌then◌else◌, is_none, length, nat_le, not, option_and_then, option_map, true, [], ℕ, ◌&&◌, ◌==◌, ◌∷◌, ◌≡◌, ◌⊎◌}

-- What a decision to work on an area has before it: the command's resource, an active session, and no call that is open there.
pub record IsAsked (st : Setting) (es : Trace) (c : Command) (s : Session) (r : ResourceArg) : Type 0 where
  pub named : resource_named c ≡ Some r
  pub active : is_active st es s ≡ true
  pub clear : pending_call st es (spot_of r) ≡ None

-- By what the command came to.
abbrev pub DecidedOn : Setting → Trace → Command → Decision → Type 0
DecidedOn st es c (Replies r) = Unit {0}
DecidedOn st es c (Joins n a) = Unit {0}
DecidedOn st es c (Leaves s) = Unit {0}
DecidedOn st es c (ReadsArea s r) = IsAsked st es c s r
DecidedOn st es c (Shares s lver) = Unit {0}
DecidedOn st es c (GivesUp s g) =
    (r : ResourceArg) × IsAsked st es c s r × (aim_of_command c ≡ Some Releases) × Contains (holdings_on es s (spot_of r)) g
DecidedOn st es c (TakesOver s g) = Unit {0}
DecidedOn st es c (ConvertsTo s r mode) = IsAsked st es c s r × (aim_of_command c ≡ Some (Converts mode))
DecidedOn st es c (Requests s r) = IsAsked st es c s r
DecidedOn st es c (SetsValue s at v) =
    (r : ResourceArg) × IsAsked st es c s r × (at ≡ spot_of r) × (g : Grant) × Contains (holdings_on es s (spot_of r)) g × (is_shared g.mode ≡ false)
DecidedOn st es c (GetsValue s at) = (r : ResourceArg) × IsAsked st es c s r × (at ≡ spot_of r)

-- ---- what is found on the way

by_refusal : (Q : Decision → Type 0) → ((r : Reply) → Q (Replies r)) → (o : Option Reply) (d : Decision) → (o ≡ None → Q d) → Q (elim o as (λ z. Decision) [ Some why ↦ Replies why | None ↦ d ])
by_refusal Q q (Some why) d h = q why
by_refusal Q q None d h = h refl

-- Where none of the refusals holds.
unless : (Q : Decision → Type 0) → ((r : Reply) → Q (Replies r)) → (rs : List (Option Reply)) (d : Decision) → (((o : Option Reply) → Contains rs o → o ≡ None) → Q d) → Q (unless_refused rs d)
unless Q q [] d h = h (λ o there. absurd (contains_none o there))
unless Q q (r ∷ rs) d h =
    by_refusal Q q r (unless_refused rs d) (λ none. unless Q q rs d (λ others. h (λ o there. by none others o (contains_cases r rs o there)))) where
      by : r ≡ None → ((o : Option Reply) → Contains rs o → o ≡ None) → (o : Option Reply) → (r ≡ o) ⊎ Contains rs o → o ≡ None
      by none others o (inl is) = sym is ∙ none
      by none others o (inr inside) = others o inside

where_found : (Q : Decision → Type 0) → ((r : Reply) → Q (Replies r)) → (o : Option Session) (rs : Session → List (Option Reply)) (f : Session → Decision)
    → ((s : Session) → o ≡ Some s → ((k : Option Reply) → Contains (rs s) k → k ≡ None) → Q (f s)) → Q (with_session o (λ s. unless_refused (rs s) (f s)))
where_found Q q None rs f h = q NoSession
where_found Q q (Some s) rs f h = unless Q q (rs s) (f s) (h s refl)

where_held : (Q : Decision → Type 0) → ((r : Reply) → Q (Replies r)) → (o : Option Grant) (f : Grant → Decision) (r : Reply) → ((g : Grant) → o ≡ Some g → Q (f g)) → Q (option_map_or f o (Replies r))
where_held Q q None f r h = q r
where_held Q q (Some g) f r h = h g refl

beside : (Q : Decision → Type 0) (s : Session) (r : ResourceArg) (shared : Bool) (o : Option Grant) → Q (ReadsArea s r) → ((lver : ℕ) → Q (Shares s lver))
    → Q (elim shared as (λ z. Decision) [ false ↦ ReadsArea s r | true ↦ elim o as (λ z. Decision) [ None ↦ ReadsArea s r | Some g ↦ Shares s g.lver ] ])
beside Q s r false o h k = h
beside Q s r true None h k = h
beside Q s r true (Some g) h k = k g.lver

chosen : (Q : Decision → Type 0) (b : Bool) (d e : Decision) → Q d → Q e → Q (elim b as (λ z. Decision) [ false ↦ d | true ↦ e ])
chosen Q false d e h k = h
chosen Q true d e h k = k

refusal_active : (joined active : Bool) (a b : Reply) → (if not joined then Some a else choose (not active) b) ≡ None → active ≡ true
refusal_active true true a b is = refl
refusal_active true false a b is = absurd (none_some b (sym is))
refusal_active false active a b is = absurd (none_some a (sym is))

session_active : (st : Setting) (es : Trace) (s : Session) → session_refusal st es s ≡ None → is_active st es s ≡ true
session_active st es s is = refusal_active (is_joined es s) (is_active st es s) StillJoining (Recovering (last_renewal st es s)) is

unmapped : (o : Option ℕ) → option_map (λ n. Pending n) o ≡ None → o ≡ None
unmapped None is = refl
unmapped (Some n) is = absurd (none_some (Pending n) (sym is))

second : {A : Type 0} (a : A) (rs : List A) (b : A) → Contains rs b → Contains (a ∷ rs) b
second a rs b there = contains_more a rs b there

asked : (st : Setting) (es : Trace) (c : Command) (s : Session) (r : ResourceArg) → resource_named c ≡ Some r → session_refusal st es s ≡ None → pending_refusal st es (spot_of r) ≡ None → IsAsked st es c s r
asked st es c s r named active clear = record { named = named; active = session_active st es s active; clear = unmapped (pending_call st es (spot_of r)) clear }

-- ---- forms of commands

acquires : (st : Setting) (es : Trace) (c : Command) (r : ResourceArg) (asking : Option ℕ) (shared program : Bool) → resource_named c ≡ Some r → DecidedOn st es c (decide_acquire st es r asking shared program)
acquires st es c r asking shared program named =
    where_found (DecidedOn st es c) (λ w. tt) (session_named st es r.lockspace)
    (λ s. session_refusal st es s ∷ option_and_then (process_refusal es) asking ∷ busy_refusal es (spot_of r) asking shared ∷ pending_refusal st es (spot_of r) ∷ limit_refusal st es s (spot_of r) program ∷ [])
    (λ s. acquiring es s r shared)
    (λ s is none. beside (DecidedOn st es c) s r shared (shared_on es s (spot_of r))
    (asked st es c s r named (none (session_refusal st es s) (contains_first (session_refusal st es s) (option_and_then (process_refusal es) asking ∷ busy_refusal es (spot_of r) asking shared ∷ pending_refusal st es (spot_of r) ∷ limit_refusal st es s (spot_of r) program ∷ [])))
    (none (pending_refusal st es (spot_of r))
    (second (session_refusal st es s) (option_and_then (process_refusal es) asking ∷ busy_refusal es (spot_of r) asking shared ∷ pending_refusal st es (spot_of r) ∷ limit_refusal st es s (spot_of r) program ∷ []) (pending_refusal st es (spot_of r))
    (second (option_and_then (process_refusal es) asking) (busy_refusal es (spot_of r) asking shared ∷ pending_refusal st es (spot_of r) ∷ limit_refusal st es s (spot_of r) program ∷ []) (pending_refusal st es (spot_of r))
    (second (busy_refusal es (spot_of r) asking shared) (pending_refusal st es (spot_of r) ∷ limit_refusal st es s (spot_of r) program ∷ []) (pending_refusal st es (spot_of r))
    (contains_first (pending_refusal st es (spot_of r)) (limit_refusal st es s (spot_of r) program ∷ []))))))) (λ lver. tt))

not_shared : (b : Bool) → not b ≡ true → b ≡ false
not_shared false is = refl
not_shared true is = absurd (false_is_true is)

holds : (st : Setting) (es : Trace) (c : Command) (r : ResourceArg) (p : ℕ) (serves : Grant → Bool) (f : Session → Grant → Decision) → resource_named c ≡ Some r
    → ((s : Session) (g : Grant) → IsAsked st es c s r → Contains (holdings_on es s (spot_of r)) g → serves g ≡ true → DecidedOn st es c (f s g)) → DecidedOn st es c (decide_holder st es r p serves f)
holds st es c r p serves f named h =
    where_found (DecidedOn st es c) (λ w. tt) (session_named st es r.lockspace)
    (λ s. session_refusal st es s ∷ process_refusal es p ∷ choose (is_none (holding_of es s (spot_of r) p serves)) NotHeld ∷ pending_refusal st es (spot_of r) ∷ [])
    (λ s. option_map_or (f s) (holding_of es s (spot_of r) p serves) (Replies NotHeld))
    (λ s is none. where_held (DecidedOn st es c) (λ w. tt) (holding_of es s (spot_of r) p serves) (f s) NotHeld
    (λ g held. h s g
    (asked st es c s r named (none (session_refusal st es s) (contains_first (session_refusal st es s) (process_refusal es p ∷ choose (is_none (holding_of es s (spot_of r) p serves)) NotHeld ∷ pending_refusal st es (spot_of r) ∷ [])))
    (none (pending_refusal st es (spot_of r))
    (second (session_refusal st es s) (process_refusal es p ∷ choose (is_none (holding_of es s (spot_of r) p serves)) NotHeld ∷ pending_refusal st es (spot_of r) ∷ []) (pending_refusal st es (spot_of r))
    (second (process_refusal es p) (choose (is_none (holding_of es s (spot_of r) p serves)) NotHeld ∷ pending_refusal st es (spot_of r) ∷ []) (pending_refusal st es (spot_of r))
    (second (choose (is_none (holding_of es s (spot_of r) p serves)) NotHeld) (pending_refusal st es (spot_of r) ∷ []) (pending_refusal st es (spot_of r))
    (contains_first (pending_refusal st es (spot_of r)) []))))))
    (find_inside (λ (k : Grant). k.process == p && serves k) (holdings_on es s (spot_of r)) g held).0
    (and_true (g.process == p) (serves g) (find_inside (λ (k : Grant). k.process == p && serves k) (holdings_on es s (spot_of r)) g held).1).1))

serving_inside : (es : Trace) (s : Session) (at : Spot) (serves : Grant → Bool) (g : Grant) → serving_orphan es s at serves ≡ Some g → Contains (holdings_on es s at) g
serving_inside es s at serves g is =
    let v = then_value (λ (k : Grant). choose (serves k) k) (orphan_on es s at) g is in
    let same : v.0 ≡ g = (choose_some (serves v.0) v.0 g v.2).1 in
    subst (λ k. Contains (holdings_on es s at) k) same (find_inside is_orphan (holdings_on es s at) v.0 v.1).0

gives_orphan : (st : Setting) (es : Trace) (c : Command) (r : ResourceArg) → resource_named c ≡ Some r → aim_of_command c ≡ Some Releases
    → DecidedOn st es c (decide_orphan st es r None (λ g. true) [] (λ s g. GivesUp s g))
gives_orphan st es c r named aim =
    where_found (DecidedOn st es c) (λ w. tt) (session_named st es r.lockspace)
    (λ s. session_refusal st es s ∷ None ∷ choose (is_none (serving_orphan es s (spot_of r) (λ g. true))) NoOrphan ∷ (pending_refusal st es (spot_of r) ∷ []))
    (λ s. option_map_or (λ g. GivesUp s g) (serving_orphan es s (spot_of r) (λ g. true)) (Replies NoOrphan))
    (λ s is none. where_held (DecidedOn st es c) (λ w. tt) (serving_orphan es s (spot_of r) (λ g. true)) (λ g. GivesUp s g) NoOrphan
    (λ g held. (
      r,
      asked st es c s r named (none (session_refusal st es s) (contains_first (session_refusal st es s) (None ∷ choose (is_none (serving_orphan es s (spot_of r) (λ g. true))) NoOrphan ∷ pending_refusal st es (spot_of r) ∷ [])))
          (none (pending_refusal st es (spot_of r))
          (second (session_refusal st es s) (None ∷ choose (is_none (serving_orphan es s (spot_of r) (λ g. true))) NoOrphan ∷ pending_refusal st es (spot_of r) ∷ []) (pending_refusal st es (spot_of r))
          (second None (choose (is_none (serving_orphan es s (spot_of r) (λ g. true))) NoOrphan ∷ pending_refusal st es (spot_of r) ∷ []) (pending_refusal st es (spot_of r))
          (second (choose (is_none (serving_orphan es s (spot_of r) (λ g. true))) NoOrphan) (pending_refusal st es (spot_of r) ∷ []) (pending_refusal st es (spot_of r))
          (contains_first (pending_refusal st es (spot_of r)) []))))),
      aim,
      serving_inside es s (spot_of r) (λ g. true) g held,
    )))

takes_orphan : (st : Setting) (es : Trace) (c : Command) (r : ResourceArg) (p : ℕ) (shared : Bool) → DecidedOn st es c (decide_take_over st es r p shared)
takes_orphan st es c r p shared =
    where_found (DecidedOn st es c) (λ w. tt) (session_named st es r.lockspace)
    (λ s. session_refusal st es s ∷ process_refusal es p ∷ choose (is_none (serving_orphan es s (spot_of r) (λ g. same_truth shared (is_shared g.mode)))) NoOrphan
    ∷ (option_map (λ q. Busy q) (holds_already es (spot_of r) p) ∷ pending_refusal st es (spot_of r) ∷ []))
    (λ s. option_map_or (λ g. TakesOver s g) (serving_orphan es s (spot_of r) (λ g. same_truth shared (is_shared g.mode))) (Replies NoOrphan))
    (λ s is none. where_held (DecidedOn st es c) (λ w. tt) (serving_orphan es s (spot_of r) (λ g. same_truth shared (is_shared g.mode))) (λ g. TakesOver s g) NoOrphan (λ g held. tt))

converts : (st : Setting) (es : Trace) (c : Command) (r : ResourceArg) (p : ℕ) (mode : Mode) → resource_named c ≡ Some r → aim_of_command c ≡ Some (Converts mode) → DecidedOn st es c (decide_convert st es r p mode)
converts st es c r p mode named aim =
    where_found (DecidedOn st es c) (λ w. tt) (session_named st es r.lockspace)
    (λ s. session_refusal st es s ∷ process_refusal es p ∷ choose (is_none (holding_of es s (spot_of r) p (λ g. true))) NotHeld
    ∷ option_and_then (λ q. choose (not (is_shared mode)) (Busy q)) (other_holder es (spot_of r) p) ∷ pending_refusal st es (spot_of r) ∷ [])
    (λ s. option_map_or (converting s r mode) (holding_of es s (spot_of r) p (λ g. true)) (Replies NotHeld))
    (λ s is none. where_held (DecidedOn st es c) (λ w. tt) (holding_of es s (spot_of r) p (λ g. true)) (converting s r mode) NotHeld
    (λ g held. chosen (DecidedOn st es c) (same_truth (is_shared mode) (is_shared g.mode)) (ConvertsTo s r mode) (Replies (Granted g.lver)) (
      asked st es c s r named
          (none (session_refusal st es s) (contains_first (session_refusal st es s) (process_refusal es p ∷ choose (is_none (holding_of es s (spot_of r) p (λ g. true))) NotHeld ∷ option_and_then (λ q. choose (not (is_shared mode)) (Busy q)) (other_holder es (spot_of r) p) ∷ pending_refusal st es (spot_of r) ∷ [])))
          (none (pending_refusal st es (spot_of r))
          (second (session_refusal st es s) (process_refusal es p ∷ choose (is_none (holding_of es s (spot_of r) p (λ g. true))) NotHeld ∷ option_and_then (λ q. choose (not (is_shared mode)) (Busy q)) (other_holder es (spot_of r) p) ∷ pending_refusal st es (spot_of r) ∷ []) (pending_refusal st es (spot_of r))
          (second (process_refusal es p) (choose (is_none (holding_of es s (spot_of r) p (λ g. true))) NotHeld ∷ option_and_then (λ q. choose (not (is_shared mode)) (Busy q)) (other_holder es (spot_of r) p) ∷ pending_refusal st es (spot_of r) ∷ []) (pending_refusal st es (spot_of r))
          (second (choose (is_none (holding_of es s (spot_of r) p (λ g. true))) NotHeld) (option_and_then (λ q. choose (not (is_shared mode)) (Busy q)) (other_holder es (spot_of r) p) ∷ pending_refusal st es (spot_of r) ∷ []) (pending_refusal st es (spot_of r))
          (second (option_and_then (λ q. choose (not (is_shared mode)) (Busy q)) (other_holder es (spot_of r) p)) (pending_refusal st es (spot_of r) ∷ []) (pending_refusal st es (spot_of r))
          (contains_first (pending_refusal st es (spot_of r)) [])))))),
      aim,
    ) tt))

requests : (st : Setting) (es : Trace) (c : Command) (r : ResourceArg) → resource_named c ≡ Some r → DecidedOn st es c (decide_request st es r)
requests st es c r named =
    where_found (DecidedOn st es c) (λ w. tt) (session_named st es r.lockspace) (λ s. session_refusal st es s ∷ pending_refusal st es (spot_of r) ∷ []) (λ s. Requests s r)
    (λ s is none. asked st es c s r named (none (session_refusal st es s) (contains_first (session_refusal st es s) (pending_refusal st es (spot_of r) ∷ [])))
    (none (pending_refusal st es (spot_of r)) (second (session_refusal st es s) (pending_refusal st es (spot_of r) ∷ []) (pending_refusal st es (spot_of r)) (contains_first (pending_refusal st es (spot_of r)) []))))

reports : (st : Setting) (es : Trace) (c : Command) (a : LockspaceArg) (answer : Session → Reply) → DecidedOn st es c (decide_report st es a answer)
reports st es c a answer = where_found (DecidedOn st es c) (λ w. tt) (matching_session st es a) (λ s. session_refusal st es s ∷ []) (λ s. Replies (answer s)) (λ s is none. tt)

sets_value : (st : Setting) (es : Trace) (c : Command) (s : Session) (r : ResourceArg) (g : Grant) (seq : ℕ) (bytes : List ℕ) → IsAsked st es c s r → Contains (holdings_on es s (spot_of r)) g → is_shared g.mode ≡ false
    → DecidedOn st es c (setting_value s (spot_of r) g seq bytes)
sets_value st es c s r g seq bytes h there exclusive = by (is_number seq) where
  by : (b : Bool) → DecidedOn st es c (elim b as (λ z. Decision) [ false ↦ Replies (LimitReached SeqLimit) | true ↦ SetsValue s (spot_of r) (record { host = s.id; lver = g.lver; seq = seq; bytes = bytes }) ])
  by false = tt
  by true = (r, h, refl, g, there, exclusive)

-- ---- all commands

pub decisions_are_clear : (st : Setting) (es : Trace) (now : ℕ) (c : Command) → DecidedOn st es c (decided st es now c)
unfolding decided
decisions_are_clear st es now (AddLockspace a) =
    unless (DecidedOn st es (AddLockspace a)) (λ w. tt)
    (joined_refusal st es (session_named st es a.name) ∷ choose (nat_le most_lockspaces (length (present_sessions st es))) (LimitReached Lockspaces) ∷ []) (Joins (length (sessions st es)) a) (λ none. tt)
decisions_are_clear st es now (RemLockspace a) =
    where_found (DecidedOn st es (RemLockspace a)) (λ w. tt) (matching_session st es a) (λ s. session_refusal st es s ∷ orphan_refusal es s ∷ leave_refusal es s ∷ []) (λ s. Leaves s) (λ s is none. tt)
decisions_are_clear st es now (InqLockspace a) = reports st es (InqLockspace a) a (λ s. Generation (generation_of es s))
decisions_are_clear st es now (HostStatus a) = reports st es (HostStatus a) a (λ s. Hosts (states_seen st es s now))
decisions_are_clear st es now (Acquire r shared p persistent) = acquires st es (Acquire r shared p persistent) r (Some p) shared false refl
decisions_are_clear st es now (TakeOver r shared p persistent) = takes_orphan st es (TakeOver r shared p persistent) r p shared
decisions_are_clear st es now (RunProgram r shared path) = acquires st es (RunProgram r shared path) r None shared true refl
decisions_are_clear st es now (Release r p) = holds st es (Release r p) r p (λ g. true) (λ s g. GivesUp s g) refl (λ s g h there serves. (r, h, refl, there))
decisions_are_clear st es now (ReleaseOrphan r) = gives_orphan st es (ReleaseOrphan r) r refl refl
decisions_are_clear st es now (Convert r shared p) = converts st es (Convert r shared p) r p (wanted_mode (Convert r shared p)) refl refl
decisions_are_clear st es now (Request r lver how) = requests st es (Request r lver how) r refl
decisions_are_clear st es now (GetLvb r p) = holds st es (GetLvb r p) r p (λ g. true) (λ s g. GetsValue s (spot_of r)) refl (λ s g h there serves. (r, h, refl))
decisions_are_clear st es now (SetLvb r p bytes) =
    holds st es (SetLvb r p bytes) r p (λ g. not (is_shared g.mode)) (λ s g. setting_value s (spot_of r) g (next_value_seq st es s (spot_of r) g.lver) bytes) refl
    (λ s g h there serves. sets_value st es (SetLvb r p bytes) s r g (next_value_seq st es s (spot_of r) g.lver) bytes h there (not_shared (is_shared g.mode) serves))
decisions_are_clear st es now (SetKillpath p path) =
    unless (DecidedOn st es (SetKillpath p path)) (λ w. tt) (process_refusal es p ∷ choose (is_killpath_limit st es p) (LimitReached Killpaths) ∷ []) (Replies Done) (λ none. tt)
decisions_are_clear st es now Status = tt
