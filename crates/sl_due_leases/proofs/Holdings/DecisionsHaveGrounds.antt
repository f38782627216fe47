-- What a command came to has its grounds: none of its refusals held.
use Rattle.sl_due.specs.DueCommands.{acquiring, busy_refusal, converting, decide_acquire, decide_convert, decide_holder, decide_orphan, decided, holding_of, joined_refusal, leave_refusal, limit_refusal, matching_session, orphan_refusal, pending_refusal, process_refusal, serving_orphan, session_refusal, setting_value, unless_refused, with_session}
use Rattle.sl_due.specs.declared.decision.Decision.TheVariants.{ConvertsTo, GetsValue, GivesUp, Joins, Leaves, ReadsArea, Replies, Requests, SetsValue, Shares, TakesOver}
use Rattle.sl_due.specs.declared.decision.Decision.{Decision}
use Rattle.sl_due_leases.specs.Holdings.DecisionGrounds.{AcquireGrounds, AsksLease, DecisionsHaveGrounds, HasGrounds, IsFreeFor, IsReady}
use Rattle.sl_trace.specs.Counts.{busy_process, held_here, holds_already, may_act, next_value_seq, other_holder, pending_call}
use Rattle.sl_trace.specs.KillPrograms.{is_killpath_limit}
use Rattle.sl_trace.specs.Jobs.{process_named, wanted_mode, wants_shared}
use Rattle.sl_trace.specs.Leases.{holdings_on, open_on, orphan_on, shared_on, spot_of}
use Rattle.sl_words.proofs.Lists.{any_of, contains_none, find_inside, kept}
use Rattle.sl_words.proofs.Numbers.{number_itself}
use Rattle.sl_words.proofs.Options.{then_value}
use Rattle.sl_trace.specs.Sessions.{generation_of, holdings_of, is_active, is_joined, last_renewal, present_sessions, session_named, sessions}
use Rattle.sl_trace.specs.Sightings.{states_seen}
use Rattle.sl_trace.specs.declared.session.Session.{Session}
use Rattle.sl_trace.specs.CountLimits.{most_lockspaces}
use Rattle.sl_trace.specs.Traces.{Setting, Submitted, Trace, is_orphan, is_shared}
use Rattle.sl_trace.specs.declared.command.Command.TheVariants.{Acquire, AddLockspace, Convert, GetLvb, HostStatus, InqLockspace, Release, ReleaseOrphan, RemLockspace, Request, RunProgram, SetKillpath, SetLvb, Status, TakeOver}
use Rattle.sl_trace.specs.declared.command.Command.{Command}
use Rattle.sl_trace.specs.declared.command.LockspaceArg.{LockspaceArg}
use Rattle.sl_trace.specs.declared.command.ResourceArg.{ResourceArg}
use Rattle.sl_trace.specs.declared.effects.Grant.{Grant}
use Rattle.sl_trace.specs.declared.effects.Spot.{Spot}
use Rattle.sl_trace.specs.declared.reply.Limited.TheVariants.{Killpaths, Lockspaces, Seq as SeqLimit}
use Rattle.sl_trace.specs.declared.reply.Reply.TheVariants.{Busy, Done, Generation, Granted, Hosts, Joining as StillJoining, Limit as LimitReached, NoOrphan, NoProcess, NoSession, NotHeld, Pending, Recovering}
use Rattle.sl_trace.specs.declared.reply.Reply.{Reply}
use Rattle.sl_words.proofs.CaseLaws.{false_is_true, is_false, none_some, not_both, true_is_false}
use Rattle.sl_words.proofs.OptionLaws.{choose_none}
use Rattle.sl_words.proofs.WordLaws.{and_true, choose_some}
use Rattle.sl_words.specs.Bounds.{is_number}
use Rattle.sl_words.specs.Words.{choose, least, same_truth}
use Rattle.std.proofs.Common.{ap, inl, inr, refl, subst, sym, ◌∙◌}
use Rattle.std.proofs.lemmas.Bool.{eqb-true}
use Rattle.std.specs.List.{list_any}
use Rattle.std.specs.Option.{option_map_or, option_or}
use Rattle.std.specs.Prelude.{Bool, Contains, List, None, Option, Some, [], cond, false, filter, is_none, length, map, min, nat_le, not, option_and_then, option_map, true, ℕ, ◌&&◌, ◌++◌, ◌==◌, ◌∷◌, ◌≡◌}

-- ---- refusals that don't hold

abbrev NoneOf : List (Option Reply) → Type 0
NoneOf [] = Unit {0}
NoneOf (r ∷ rs) = (r ≡ None) × NoneOf rs

by_refusal : (Q : Decision → Type 0) → ((r : Reply) → Q (Replies r)) → (o : Option Reply) (d : Decision) → (o ≡ None → Q d) → Q (elim o as (λ z. Decision) [ Some why ↦ Replies why | None ↦ d ])
by_refusal Q q (Some why) d h = q why
by_refusal Q q None d h = h refl

unless : (Q : Decision → Type 0) → ((r : Reply) → Q (Replies r)) → (rs : List (Option Reply)) (d : Decision) → (NoneOf rs → Q d) → Q (unless_refused rs d)
unless Q q [] d h = h tt
unless Q q (r ∷ rs) d h = by_refusal Q q r (unless_refused rs d) (λ none. unless Q q rs d (λ rest. h (none, rest)))

where_found : (Q : Decision → Type 0) → ((r : Reply) → Q (Replies r)) → (o : Option Session) (rs : Session → List (Option Reply)) (f : Session → Decision)
    → ((s : Session) → o ≡ Some s → NoneOf (rs s) → Q (f s)) → Q (with_session o (λ s. unless_refused (rs s) (f s)))
where_found Q q None rs f h = q NoSession
where_found Q q (Some s) rs f h = unless Q q (rs s) (f s) (h s refl)

where_held : (Q : Decision → Type 0) → ((r : Reply) → Q (Replies r)) → (o : Option Grant) (f : Grant → Decision) (r : Reply) → ((g : Grant) → o ≡ Some g → Q (f g)) → Q (option_map_or f o (Replies r))
where_held Q q None f r h = q r
where_held Q q (Some g) f r h = h g refl

beside : (Q : Decision → Type 0) (s : Session) (r : ResourceArg) (shared : Bool) (o : Option Grant) → ((shared ≡ true → o ≡ None) → Q (ReadsArea s r))
    → ((g : Grant) → shared ≡ true → o ≡ Some g → Q (Shares s g.lver))
    → Q (elim shared as (λ z. Decision) [ false ↦ ReadsArea s r | true ↦ elim o as (λ z. Decision) [ None ↦ ReadsArea s r | Some g ↦ Shares s g.lver ] ])
beside Q s r false o h k = h (λ shared. absurd (false_is_true shared))
beside Q s r true None h k = h (λ shared. refl)
beside Q s r true (Some g) h k = k g refl refl

chosen : (Q : Decision → Type 0) (b : Bool) (d e : Decision) → (b ≡ false → Q d) → (b ≡ true → Q e) → Q (elim b as (λ z. Decision) [ false ↦ d | true ↦ e ])
chosen Q false d e h k = h refl
chosen Q true d e h k = k refl

-- ---- what each says

unmapped : {A B : Type 0} (f : A → B) (o : Option A) → option_map f o ≡ None → o ≡ None
unmapped f None is = refl
unmapped f (Some a) is = absurd (none_some (f a) (sym is))

not_true : (b : Bool) → not b ≡ false → b ≡ true
not_true true is = refl
not_true false is = absurd (true_is_false is)

session_active : (st : Setting) (es : Trace) (s : Session) → session_refusal st es s ≡ None → is_active st es s ≡ true
session_active st es s none = by (is_joined es s) none where
  by : (b : Bool) → cond (not b) (Some StillJoining) (choose (not (is_active st es s)) (Recovering (last_renewal st es s))) ≡ None → is_active st es s ≡ true
  by true is = not_true (is_active st es s) (choose_none (not (is_active st es s)) (Recovering (last_renewal st es s)) is)
  by false is = absurd (none_some StillJoining (sym is))

pub none_least : (xs : List ℕ) → least xs ≡ None → xs ≡ []
none_least [] is = refl
none_least (x ∷ xs) is = absurd (by (least xs) is) where
  by : (o : Option ℕ) → (elim o as (λ z. Option ℕ) [ None ↦ Some x | Some y ↦ Some (min x y) ]) ≡ None → ⊥
  by None h = none_some x (sym h)
  by (Some y) h = none_some (min x y) (sym h)

pub none_mapped : {A B : Type 0} (f : A → B) (xs : List A) → map f xs ≡ [] → xs ≡ []
none_mapped f [] is = refl
none_mapped f (x ∷ xs) is = absurd (true_is_false (sym (ap (λ ys. starts ys) is))) where
  starts : {B : Type 0} → List B → Bool
  starts [] = true
  starts (y ∷ ys) = false

calm : (st : Setting) (es : Trace) (at : Spot) → pending_refusal st es at ≡ None → open_on st es at ≡ []
calm st es at none = none_mapped (λ (m : Submitted). m.call.number) (open_on st es at) (none_least (map (λ (m : Submitted). m.call.number) (open_on st es at)) (unmapped (λ n. Pending n) (pending_call st es at) none))

ready : (st : Setting) (es : Trace) (s : Session) (r : ResourceArg) → session_named st es r.lockspace ≡ Some s → session_refusal st es s ≡ None → pending_refusal st es (spot_of r) ≡ None → IsReady st es s r
ready st es s r named active pending = record { named = named; active = session_active st es s active; calm = calm st es (spot_of r) pending }

pub acts : (es : Trace) (p : ℕ) → process_refusal es p ≡ None → may_act es p ≡ true
acts es p none = not_true (may_act es p) (choose_none (not (may_act es p)) (NoProcess p) none)

neither : {A : Type 0} (o p : Option A) → option_or o p ≡ None → (o ≡ None) × (p ≡ None)
neither None p is = (refl, is)
neither (Some a) p is = absurd (none_some a (sym is))

pub nothing_left : {A : Type 0} (p : A → Bool) (xs : List A) (x : A) → filter p xs ≡ [] → Contains xs x → p x ≡ false
nothing_left p xs x none there =
    is_false (p x) (λ is. contains_none x (subst (λ ys. Contains ys x) none (kept p xs x is there)))

-- Nothing is in the way.
free_for : (es : Trace) (at : Spot) (asking : Option ℕ) (shared : Bool) → busy_refusal es at asking shared ≡ None → IsFreeFor es at asking shared
free_for es at asking shared none h there =
    let parts = neither (option_and_then (λ p. choose (list_any (λ (g : Grant). g.process == p) (held_here es at)) p) asking)
    (least (map (λ (g : Grant). g.process) (filter (λ (g : Grant). not (shared && is_shared g.mode)) (held_here es at))))
    (unmapped (λ p. Busy p) (busy_process es at asking shared) none) in
    let left = none_mapped (λ (g : Grant). g.process) (filter (λ (g : Grant). not (shared && is_shared g.mode)) (held_here es at)) (none_least _ parts.1) in
    let both = and_true shared (is_shared h.mode) (not_true (shared && is_shared h.mode) (nothing_left (λ (g : Grant). not (shared && is_shared g.mode)) (held_here es at) h left there)) in
    (both.1, both.0, λ is. other is parts.0) where
      other : asking ≡ Some h.process → option_and_then (λ p. choose (list_any (λ (g : Grant). g.process == p) (held_here es at)) p) asking ≡ None → ⊥
      other is none =
          let at_p : choose (list_any (λ (g : Grant). g.process == h.process) (held_here es at)) h.process ≡ None =
          ap (λ o. option_and_then (λ p. choose (list_any (λ (g : Grant). g.process == p) (held_here es at)) p) o) (sym is) ∙ none in
          not_both (list_any (λ (g : Grant). g.process == h.process) (held_here es at))
          (any_of (λ (g : Grant). g.process == h.process) (held_here es at) h (number_itself h.process) there)
          (choose_none (list_any (λ (g : Grant). g.process == h.process) (held_here es at)) h.process at_p)

-- ---- forms of commands

acquires : (st : Setting) (es : Trace) (c : Command) (r : ResourceArg) (program : Bool) → AsksLease c r → (asking : Option ℕ) → process_named c ≡ asking
    → HasGrounds st es c (decide_acquire st es r asking (wants_shared c) program)
acquires st es c r program asks asking names =
    where_found (HasGrounds st es c) (λ w. tt) (session_named st es r.lockspace)
    (λ s. session_refusal st es s ∷ option_and_then (process_refusal es) asking ∷ busy_refusal es (spot_of r) asking (wants_shared c) ∷ pending_refusal st es (spot_of r) ∷ limit_refusal st es s (spot_of r) program ∷ [])
    (λ s. acquiring es s r (wants_shared c))
    (λ s is none.
    let g : AcquireGrounds st es c s r = record {
      ready = ready st es s r is none.0 none.1.1.1.0;
      asks = asks;
      free = subst (λ o. IsFreeFor es (spot_of r) o (wants_shared c)) (sym names) (free_for es (spot_of r) asking (wants_shared c) none.1.1.0);
      acts = λ p named. acts es p (ap (λ o. option_and_then (process_refusal es) o) (sym (sym names ∙ named)) ∙ none.1.0);
    } in
    beside (HasGrounds st es c) s r (wants_shared c) (shared_on es s (spot_of r)) (λ none. record { acquires = g; unshared = none })
    (λ h shared held. record { resource = r; acquires = g; shared = shared; beside = h; held = held; under = refl }))

holds : (st : Setting) (es : Trace) (c : Command) (r : ResourceArg) (p : ℕ) (serves : Grant → Bool) (f : Session → Grant → Decision)
    → ((s : Session) (g : Grant) → IsReady st es s r → holding_of es s (spot_of r) p serves ≡ Some g → may_act es p ≡ true → HasGrounds st es c (f s g)) → HasGrounds st es c (decide_holder st es r p serves f)
holds st es c r p serves f h =
    where_found (HasGrounds st es c) (λ w. tt) (session_named st es r.lockspace)
    (λ s. session_refusal st es s ∷ process_refusal es p ∷ choose (is_none (holding_of es s (spot_of r) p serves)) NotHeld ∷ pending_refusal st es (spot_of r) ∷ [])
    (λ s. option_map_or (f s) (holding_of es s (spot_of r) p serves) (Replies NotHeld))
    (λ s is none. where_held (HasGrounds st es c) (λ w. tt) (holding_of es s (spot_of r) p serves) (f s) NotHeld (λ g held. h s g (ready st es s r is none.0 none.1.1.1.0) held (acts es p none.1.0)))

-- Of refusals that stand before others.
first_none : (rs ss : List (Option Reply)) → NoneOf (rs ++ ss) → NoneOf rs × NoneOf ss
first_none [] ss h = (tt, h)
first_none (r ∷ rs) ss h = let rest = first_none rs ss h.1 in ((h.0, rest.0), rest.1)

orphaned : (st : Setting) (es : Trace) (c : Command) (r : ResourceArg) (asking : Option ℕ) (serves : Grant → Bool) (refusals : List (Option Reply)) (f : Session → Grant → Decision)
    → ((s : Session) (g : Grant) → IsReady st es s r → serving_orphan es s (spot_of r) serves ≡ Some g → option_and_then (process_refusal es) asking ≡ None → NoneOf refusals → HasGrounds st es c (f s g))
    → HasGrounds st es c (decide_orphan st es r asking serves refusals f)
orphaned st es c r asking serves refusals f h =
    where_found (HasGrounds st es c) (λ w. tt) (session_named st es r.lockspace)
    (λ s. session_refusal st es s ∷ option_and_then (process_refusal es) asking ∷ choose (is_none (serving_orphan es s (spot_of r) serves)) NoOrphan ∷ (refusals ++ pending_refusal st es (spot_of r) ∷ []))
    (λ s. option_map_or (f s) (serving_orphan es s (spot_of r) serves) (Replies NoOrphan))
    (λ s is none.
    let rest = first_none refusals (pending_refusal st es (spot_of r) ∷ []) none.1.1.1 in
    where_held (HasGrounds st es c) (λ w. tt) (serving_orphan es s (spot_of r) serves) (f s) NoOrphan
    (λ g held. h s g (ready st es s r is none.0 rest.1.0) held none.1.0 rest.0))

orphan_there : (es : Trace) (s : Session) (at : Spot) (serves : Grant → Bool) (g : Grant) → serving_orphan es s at serves ≡ Some g → orphan_on es s at ≡ Some g
orphan_there es s at serves g is =
    let v = then_value (λ (h : Grant). choose (serves h) h) (orphan_on es s at) g is in
    subst (λ h. orphan_on es s at ≡ Some h) (choose_some (serves v.0) v.0 g v.2).1 v.1

-- The process's holding.
of_process : (es : Trace) (s : Session) (at : Spot) (p : ℕ) (serves : Grant → Bool) (g : Grant) → holding_of es s at p serves ≡ Some g → Contains (holdings_on es s at) g × (g.process ≡ p)
of_process es s at p serves g is =
    let f = find_inside (λ (h : Grant). h.process == p && serves h) (holdings_on es s at) g is in
    (f.0, eqb-true g.process p (and_true (g.process == p) (serves g) f.1).0)

converts : (st : Setting) (es : Trace) (c : Command) (r : ResourceArg) (shared : Bool) (p : ℕ) → c ≡ Convert r shared p → HasGrounds st es c (decide_convert st es r p (wanted_mode c))
converts st es c r shared p is_c =
    where_found (HasGrounds st es c) (λ w. tt) (session_named st es r.lockspace)
    (λ s. session_refusal st es s ∷ process_refusal es p ∷ choose (is_none (holding_of es s (spot_of r) p (λ g. true))) NotHeld
    ∷ option_and_then (λ q. choose (not (is_shared (wanted_mode c))) (Busy q)) (other_holder es (spot_of r) p) ∷ pending_refusal st es (spot_of r) ∷ [])
    (λ s. option_map_or (converting s r (wanted_mode c)) (holding_of es s (spot_of r) p (λ g. true)) (Replies NotHeld))
    (λ s is none. where_held (HasGrounds st es c) (λ w. tt) (holding_of es s (spot_of r) p (λ g. true)) (converting s r (wanted_mode c)) NotHeld
    (λ g held. chosen (HasGrounds st es c) (same_truth (is_shared (wanted_mode c)) (is_shared g.mode)) (ConvertsTo s r (wanted_mode c)) (Replies (Granted g.lver))
    (λ other. record {
      shared = shared;
      process = p;
      command = is_c;
      wanted = refl;
      ready = ready st es s r is none.0 none.1.1.1.1.0;
      acts = acts es p none.1.0;
      holding = g;
      held = held;
      other = other;
      lone = λ exclusive. lone (other_holder es (spot_of r) p) exclusive none.1.1.1.0;
    }) (λ same. tt))) where
      lone : (o : Option ℕ) → is_shared (wanted_mode c) ≡ false → option_and_then (λ q. choose (not (is_shared (wanted_mode c))) (Busy q)) o ≡ None → o ≡ None
      lone None exclusive is = refl
      lone (Some q) exclusive is =
          absurd (none_some (Busy q) (sym (ap (λ b. choose (not b) (Busy q)) (sym exclusive) ∙ is)))

reports : (st : Setting) (es : Trace) (c : Command) (a : LockspaceArg) (answer : Session → Reply) → HasGrounds st es c (with_session (matching_session st es a) (λ s. unless_refused (session_refusal st es s ∷ []) (Replies (answer s))))
reports st es c a answer = where_found (HasGrounds st es c) (λ w. tt) (matching_session st es a) (λ s. session_refusal st es s ∷ []) (λ s. Replies (answer s)) (λ s is none. tt)

-- ---- all commands

pub decisions_have_grounds : DecisionsHaveGrounds
unfolding decided
decisions_have_grounds st es now (AddLockspace a) =
    unless (HasGrounds st es (AddLockspace a)) (λ w. tt)
    (joined_refusal st es (session_named st es a.name) ∷ choose (nat_le most_lockspaces (length (present_sessions st es))) (LimitReached Lockspaces) ∷ []) (Joins (length (sessions st es)) a) (λ none. tt)
decisions_have_grounds st es now (RemLockspace a) =
    where_found (HasGrounds st es (RemLockspace a)) (λ w. tt) (matching_session st es a) (λ s. session_refusal st es s ∷ orphan_refusal es s ∷ leave_refusal es s ∷ []) (λ s. Leaves s)
    (λ s is none. record { lockspace = a; command = refl; active = session_active st es s none.0; no_orphan = choose_none (list_any is_orphan (holdings_of es s)) (Busy 0) none.1.0 })
decisions_have_grounds st es now (InqLockspace a) = reports st es (InqLockspace a) a (λ s. Generation (generation_of es s))
decisions_have_grounds st es now (HostStatus a) = reports st es (HostStatus a) a (λ s. Hosts (states_seen st es s now))
decisions_have_grounds st es now (Acquire r shared p persistent) = acquires st es (Acquire r shared p persistent) r false (inl (shared, p, persistent, refl)) (Some p) refl
decisions_have_grounds st es now (TakeOver r shared p persistent) =
    orphaned st es (TakeOver r shared p persistent) r (Some p) (λ g. same_truth shared (is_shared g.mode)) (option_map (λ q. Busy q) (holds_already es (spot_of r) p) ∷ []) (λ s g. TakesOver s g)
    (λ s g is held asking none. record {
      resource = r;
      shared = shared;
      process = p;
      persistent = persistent;
      command = refl;
      ready = is;
      orphan = orphan_there es s (spot_of r) (λ h. same_truth shared (is_shared h.mode)) g held;
      acts = acts es p asking;
      none_yet = unmapped (λ q. Busy q) (holds_already es (spot_of r) p) none.0;
    })
decisions_have_grounds st es now (RunProgram r shared path) = acquires st es (RunProgram r shared path) r true (inr (shared, path, refl)) None refl
decisions_have_grounds st es now (Release r p) =
    holds st es (Release r p) r p (λ g. true) (λ s g. GivesUp s g)
    (λ s g is held may. let f = of_process es s (spot_of r) p (λ h. true) g held in record { resource = r; ready = is; releases = inl (p, refl, f.1); held = f.0 })
decisions_have_grounds st es now (ReleaseOrphan r) =
    orphaned st es (ReleaseOrphan r) r None (λ g. true) [] (λ s g. GivesUp s g)
    (λ s g is held asking none.
    let f = find_inside is_orphan (holdings_on es s (spot_of r)) g (orphan_there es s (spot_of r) (λ h. true) g held) in
    record { resource = r; ready = is; releases = inr (refl, f.1); held = f.0 })
decisions_have_grounds st es now (Convert r shared p) = converts st es (Convert r shared p) r shared p refl
decisions_have_grounds st es now (Request r lver how) =
    where_found (HasGrounds st es (Request r lver how)) (λ w. tt) (session_named st es r.lockspace) (λ s. session_refusal st es s ∷ pending_refusal st es (spot_of r) ∷ []) (λ s. Requests s r)
    (λ s is none. ready st es s r is none.0 none.1.0)
decisions_have_grounds st es now (GetLvb r p) =
    holds st es (GetLvb r p) r p (λ g. true) (λ s g. GetsValue s (spot_of r)) (λ s g is held may. record { resource = r; process = p; command = refl; spot = refl; ready = is; acts = may; holding = g; held = held })
decisions_have_grounds st es now (SetLvb r p bytes) =
    holds st es (SetLvb r p bytes) r p (λ g. not (is_shared g.mode)) (λ s g. setting_value s (spot_of r) g (next_value_seq st es s (spot_of r) g.lver) bytes)
    (λ s g is held may. chosen (HasGrounds st es (SetLvb r p bytes)) (is_number (next_value_seq st es s (spot_of r) g.lver)) (Replies (LimitReached SeqLimit))
    (SetsValue s (spot_of r) (record { host = s.id; lver = g.lver; seq = next_value_seq st es s (spot_of r) g.lver; bytes = bytes })) (λ over. tt)
    (λ within. record { resource = r; process = p; bytes = bytes; command = refl; spot = refl; ready = is; holding = g; held = held; version = (refl, refl, refl) }))
decisions_have_grounds st es now (SetKillpath p path) =
    unless (HasGrounds st es (SetKillpath p path)) (λ w. tt) (process_refusal es p ∷ choose (is_killpath_limit st es p) (LimitReached Killpaths) ∷ []) (Replies Done) (λ none. tt)
decisions_have_grounds st es now Status = tt
