-- What a step does before its input leaves what a command comes to, where it removes no connection of a joined session: decisions see
-- whose jobs were refused and what programs were started, neither moves nor signals.
use Rattle.sl_due_law.proofs.Causes.NamesBefore.{early_entry, present_as, removed_then}
use Rattle.sl_due_law.specs.Causes.LineCauses.{DecisionsOverlook, stirred_entry}
use Rattle.sl_due.specs.DueCommands.{acquiring, busy_refusal, converting, decided, holding_of, joined_refusal, leave_refusal, limit_refusal, orphan_refusal, pending_refusal, process_refusal, serving_orphan, session_refusal, setting_value, unless_refused, with_session as where_session}
use Rattle.sl_due.specs.declared.decision.Decision.TheVariants.{GetsValue, GivesUp, Joins, Leaves, Replies, Requests, TakesOver}
use Rattle.sl_due.specs.declared.decision.Decision.{Decision}
use Rattle.sl_due_facts.proofs.Jobs.SessionsArePresent.{present_is}
use Rattle.sl_trace.specs.Counts.{child_count, holder_count, holds_already, next_value_seq, other_holder, resource_count}
use Rattle.sl_trace.specs.Jobs.{wanted_mode}
use Rattle.sl_trace.specs.Leases.{lease_spots, spot_of}
use Rattle.sl_words.proofs.Lists.{contains_first, contains_more, find_inside}
use Rattle.sl_trace.specs.Sessions.{generation_of, has_open_write, is_joined, is_present, is_session_arg, joined_after, last_renewal, leaving_job, present_sessions, recovery_of, refused_after, removed_after, session_named, sessions}
use Rattle.sl_trace.specs.Sightings.{states_seen}
use Rattle.sl_trace.specs.declared.session.Session.{Session}
use Rattle.sl_trace.specs.WatchdogConnections.{unregisters}
use Rattle.sl_trace.specs.CountLimits.{most_children, most_holders, most_lockspaces, most_resources}
use Rattle.sl_trace.specs.Traces.{Trace, is_shared, same_spot}
use Rattle.sl_trace.specs.declared.command.Command.TheVariants.{Acquire, AddLockspace, Convert, GetLvb, HostStatus, InqLockspace, Release, ReleaseOrphan, RemLockspace, Request, RunProgram, SetKillpath, SetLvb, Status, TakeOver}
use Rattle.sl_trace.specs.declared.command.Command.{Command}
use Rattle.sl_trace.specs.declared.command.LockspaceArg.{LockspaceArg}
use Rattle.sl_trace.specs.declared.command.ResourceArg.{ResourceArg}
use Rattle.sl_trace.specs.declared.reply.Limited.TheVariants.{Children, Holders, Lockspaces, Resources}
use Rattle.sl_trace.specs.declared.reply.Reply.TheVariants.{Busy, Generation, Hosts, Joined, Joining as StillJoining, Limit as LimitReached, NoOrphan, NotHeld, Recovering, Sessions}
use Rattle.sl_trace.specs.declared.reply.Reply.{Reply}
use Rattle.sl_words.specs.Orders.{in_order, is_text_before}
use Rattle.sl_words.specs.Words.{choose, same_truth}
use Rattle.std.proofs.Common.{ap, ap₂, refl, subst, sym, ◌∙◌}
use Rattle.std.proofs.lemmas.List.{append-nil}
use Rattle.std.specs.List.{list_any}
use Rattle.std.specs.Option.{option_map_or, option_or}
use Rattle.std.specs.Prelude.{Bool, Contains, List, None, Option, Some, [], cond, false, filter, find, bytes_eq, is_none, is_some, length, map, nat_le, not, option_and_then, option_map, sum_by, true, ℕ, ◌&&◌, ◌+◌, ◌∷◌, ◌≡◌}

filter_same : {A : Type 0} (p q : A → Bool) (xs : List A) → ((a : A) → Contains xs a → p a ≡ q a) → filter p xs ≡ filter q xs
filter_same p q [] same = refl
filter_same p q (x ∷ xs) same = ap₂ (λ b ys. cond b (x ∷ ys) ys) (same x (contains_first x xs)) (filter_same p q xs (λ a there. same a (contains_more x xs a there)))

pub decisions_overlook : DecisionsOverlook
unfolding decided
decisions_overlook st past now ks rs ms gs quiet reading = by where
  t : Trace
  t = stirred_entry now ks rs ms gs ∷ past

  u : Trace
  u = early_entry now ks rs ∷ past

  -- ---- whose lockspaces are in use

  before : (s : Session) → Contains (sessions st u) s → Contains (sessions st past) s
  before s there = subst (λ ss. Contains ss s) (append-nil (sessions st past)) there

  removed : (s : Session) → Contains (sessions st u) s → removed_after t s ≡ removed_after u s
  removed s there = go (removed_after past s) refl (is_some (joined_after past s)) refl ∙ sym (removed_then past now ks rs s) where
    go : (o : Option ℕ) → removed_after past s ≡ o → (b : Bool) → is_some (joined_after past s) ≡ b
        → removed_after t s ≡ removed_after past s
    go (Some k) is b joins = ap (λ o. elim o as (λ z. Option ℕ) [ Some i ↦ Some i | None ↦ choose (is_some (joined_after past s) && list_any (unregisters s.lockspace) ms) (length past + 1) ]) is ∙ sym is
    go None is false joins =
        ap₂ (λ o b. elim o as (λ z. Option ℕ) [ Some i ↦ Some i | None ↦ choose (b && list_any (unregisters s.lockspace) ms) (length past + 1) ]) is joins ∙ sym is
    go None is true joins =
        ap₂ (λ o b. elim o as (λ z. Option ℕ) [ Some i ↦ Some i | None ↦ choose (b && list_any (unregisters s.lockspace) ms) (length past + 1) ]) is joins
        ∙ (ap (λ b. choose b (length past + 1)) (quiet s (before s there) (ap₂ (λ b o. b && is_none o) joins is)) ∙ sym is)

  joined : (s : Session) → Contains (sessions st u) s → is_joined t s ≡ is_joined u s
  joined s there = ap (λ o. is_some (joined_after u s) && is_none o) (removed s there)

  present : present_sessions st t ≡ present_sessions st u
  present =
      ap (λ (ss : List Session). in_order (λ (a b : Session). is_text_before a.lockspace b.lockspace) ss)
      (filter_same (is_present t) (is_present u) (sessions st u) (λ s there. ap (λ o. present_as (joined_after u s) o (refused_after u s) (has_open_write u s)) (removed s there)))

  refusal : (s : Session) → Contains (sessions st u) s → session_refusal st t s ≡ session_refusal st u s
  refusal s there =
      ap (λ b. cond (not b) (Some StillJoining) (choose (not (b && is_none (recovery_of st u s) && is_none (leaving_job st u s))) (Recovering (last_renewal st u s)))) (joined s there)

  -- ---- on the session of a name

  named : (f g : Session → Decision) (name : List ℕ) → ((s : Session) → Contains (sessions st u) s → f s ≡ g s) → where_session (session_named st t name) f ≡ where_session (session_named st u name) g
  named f g name same = ap (λ ss. where_session (find (λ (s : Session). bytes_eq s.lockspace name) ss) f) present ∙ go (session_named st u name) refl where
    go : (o : Option Session) → session_named st u name ≡ o → where_session o f ≡ where_session o g
    go None is = refl
    go (Some s) is = same s (present_is st u s (find_inside (λ (z : Session). bytes_eq z.lockspace name) (present_sessions st u) s is).0).0

  matched : (f g : Session → Decision) (a : LockspaceArg) → ((s : Session) → Contains (sessions st u) s → f s ≡ g s)
      → where_session (option_and_then (λ s. choose (is_session_arg s a) s) (session_named st t a.name)) f ≡ where_session (option_and_then (λ s. choose (is_session_arg s a) s) (session_named st u a.name)) g
  matched f g a same = ap (λ ss. where_session (option_and_then (λ s. choose (is_session_arg s a) s) (find (λ (s : Session). bytes_eq s.lockspace a.name) ss)) f) present ∙ go (session_named st u a.name) refl where
    fits : (s : Session) → f s ≡ g s → (b : Bool) → where_session (choose b s) f ≡ where_session (choose b s) g
    fits s is true = is
    fits s is false = refl

    go : (o : Option Session) → session_named st u a.name ≡ o → where_session (option_and_then (λ s. choose (is_session_arg s a) s) o) f ≡ where_session (option_and_then (λ s. choose (is_session_arg s a) s) o) g
    go None is = refl
    go (Some s) is = fits s (same s (present_is st u s (find_inside (λ (z : Session). bytes_eq z.lockspace a.name) (present_sessions st u) s is).0).0) (is_session_arg s a)

  counted : resource_count st t ≡ resource_count st u
  counted = ap (λ ss. sum_by (λ s. length (lease_spots st u s)) ss) (filter_same (is_joined t) (is_joined u) (sessions st u) joined)

  acquires : (r : ResourceArg) (asking : Option ℕ) (shared program : Bool) (s : Session) → Contains (sessions st u) s
      → unless_refused (session_refusal st t s ∷ option_and_then (process_refusal t) asking ∷ busy_refusal t (spot_of r) asking shared ∷ pending_refusal st t (spot_of r) ∷ limit_refusal st t s (spot_of r) program ∷ []) (acquiring t s r shared)
      ≡ unless_refused (session_refusal st u s ∷ option_and_then (process_refusal u) asking ∷ busy_refusal u (spot_of r) asking shared ∷ pending_refusal st u (spot_of r) ∷ limit_refusal st u s (spot_of r) program ∷ []) (acquiring u s r shared)
  acquires r asking shared program s there =
      ap₂ (λ o n. unless_refused (o ∷ option_and_then (process_refusal u) asking ∷ busy_refusal u (spot_of r) asking shared ∷ pending_refusal st u (spot_of r)
      ∷ option_map (λ l. LimitReached l) (option_or (choose (not (list_any (same_spot (spot_of r)) (lease_spots st u s)) && nat_le most_resources n) Resources)
      (option_or (choose (nat_le most_holders (holder_count st u)) Holders) (choose (program && nat_le most_children (child_count st u)) Children))) ∷ []) (acquiring u s r shared)) (refusal s there) counted

  first : (os : List (Option Reply)) (d : Decision) (s : Session) → Contains (sessions st u) s → unless_refused (session_refusal st t s ∷ os) d ≡ unless_refused (session_refusal st u s ∷ os) d
  first os d s there = ap (λ o. unless_refused (o ∷ os) d) (refusal s there)

  adds : (a : LockspaceArg) (o : Option Session) → session_named st u a.name ≡ o → joined_refusal st t o ≡ joined_refusal st u o
  adds a None is = refl
  adds a (Some s) is =
      ap (λ q. option_or q (Some (Joined (generation_of u s)))) (refusal s (present_is st u s (find_inside (λ (z : Session). bytes_eq z.lockspace a.name) (present_sessions st u) s is).0).0)

  by : (c : Command) → decided st t reading c ≡ decided st u reading c
  by (AddLockspace a) =
      ap (λ ss. unless_refused (joined_refusal st t (find (λ (s : Session). bytes_eq s.lockspace a.name) ss) ∷ choose (nat_le most_lockspaces (length ss)) (LimitReached Lockspaces) ∷ []) (Joins (length (sessions st u)) a)) present
      ∙ ap (λ o. unless_refused (o ∷ choose (nat_le most_lockspaces (length (present_sessions st u))) (LimitReached Lockspaces) ∷ []) (Joins (length (sessions st u)) a)) (adds a (session_named st u a.name) refl)
  by (RemLockspace a) = matched _ _ a (λ s there. first (orphan_refusal u s ∷ leave_refusal u s ∷ []) (Leaves s) s there)
  by (InqLockspace a) = matched _ _ a (λ s there. first [] (Replies (Generation (generation_of u s))) s there)
  by (HostStatus a) = matched _ _ a (λ s there. first [] (Replies (Hosts (states_seen st u s reading))) s there)
  by (Acquire r shared p persistent) = named _ _ r.lockspace (λ s there. acquires r (Some p) shared false s there)
  by (TakeOver r shared p persistent) =
      named _ _ r.lockspace (λ s there. first
      (option_and_then (process_refusal u) (Some p) ∷ choose (is_none (serving_orphan u s (spot_of r) (λ g. same_truth shared (is_shared g.mode)))) NoOrphan ∷ option_map (λ q. Busy q) (holds_already u (spot_of r) p) ∷ pending_refusal st u (spot_of r) ∷ [])
      (option_map_or (λ g. TakesOver s g) (serving_orphan u s (spot_of r) (λ g. same_truth shared (is_shared g.mode))) (Replies NoOrphan)) s there)
  by (RunProgram r shared path) = named _ _ r.lockspace (λ s there. acquires r None shared true s there)
  by (Release r p) =
      named _ _ r.lockspace (λ s there. first (process_refusal u p ∷ choose (is_none (holding_of u s (spot_of r) p (λ g. true))) NotHeld ∷ pending_refusal st u (spot_of r) ∷ [])
      (option_map_or (λ g. GivesUp s g) (holding_of u s (spot_of r) p (λ g. true)) (Replies NotHeld)) s there)
  by (ReleaseOrphan r) =
      named _ _ r.lockspace (λ s there. first (option_and_then (process_refusal u) None ∷ choose (is_none (serving_orphan u s (spot_of r) (λ g. true))) NoOrphan ∷ pending_refusal st u (spot_of r) ∷ [])
      (option_map_or (λ g. GivesUp s g) (serving_orphan u s (spot_of r) (λ g. true)) (Replies NoOrphan)) s there)
  by (Convert r shared p) =
      named _ _ r.lockspace (λ s there. first
      (process_refusal u p ∷ choose (is_none (holding_of u s (spot_of r) p (λ g. true))) NotHeld
      ∷ option_and_then (λ q. choose (not (is_shared (wanted_mode (Convert r shared p)))) (Busy q)) (other_holder u (spot_of r) p) ∷ pending_refusal st u (spot_of r) ∷ [])
      (option_map_or (converting s r (wanted_mode (Convert r shared p))) (holding_of u s (spot_of r) p (λ g. true)) (Replies NotHeld)) s there)
  by (Request r lver how) = named _ _ r.lockspace (λ s there. first (pending_refusal st u (spot_of r) ∷ []) (Requests s r) s there)
  by (GetLvb r p) =
      named _ _ r.lockspace (λ s there. first (process_refusal u p ∷ choose (is_none (holding_of u s (spot_of r) p (λ g. true))) NotHeld ∷ pending_refusal st u (spot_of r) ∷ [])
      (option_map_or (λ g. GetsValue s (spot_of r)) (holding_of u s (spot_of r) p (λ g. true)) (Replies NotHeld)) s there)
  by (SetLvb r p bytes) =
      named _ _ r.lockspace (λ s there. first (process_refusal u p ∷ choose (is_none (holding_of u s (spot_of r) p (λ g. not (is_shared g.mode)))) NotHeld ∷ pending_refusal st u (spot_of r) ∷ [])
      (option_map_or (λ g. setting_value s (spot_of r) g (next_value_seq st u s (spot_of r) g.lver) bytes) (holding_of u s (spot_of r) p (λ g. not (is_shared g.mode))) (Replies NotHeld)) s there)
  by (SetKillpath p path) = refl
  by Status =
      ap (λ ss. Replies (Sessions (map (λ (s : Session). record { lockspace = s.lockspace; id = s.id; generation = generation_of u s }) (filter (is_joined t) ss)))) present
      ∙ ap (λ ss. Replies (Sessions (map (λ (s : Session). record { lockspace = s.lockspace; id = s.id; generation = generation_of u s }) ss)))
      (filter_same (is_joined t) (is_joined u) (present_sessions st u) (λ s there. joined s (present_is st u s there).0))
