-- A shared grant stays lawful over what follows in its step; one beside a shared holding is lawful.
use Rattle.sl_due_facts.proofs.Acts.DecisionsAreTheirs.{Of}
use Rattle.sl_due_facts.specs.Acts.Acts.{Has}
use Rattle.sl_due_facts.specs.Acts.TraceSoFar.{entry_of}
use Rattle.sl_due.specs.DueCommands.{after_end, carry_decision}
use Rattle.sl_due.specs.DueRecovery.{signal_and_refuse}
use Rattle.sl_due.specs.DueInputs.{leave_holdings, refuse_jobs_of}
use Rattle.sl_due.specs.CarriedLease.{grant_for, grant_of}
use Rattle.sl_due.specs.Steps.{Step, add_call_of, add_end, add_grant, add_move, add_reply, add_signal, add_start, seen, with_input}
use Rattle.sl_due.specs.declared.decision.Decision.{Decision}
use Rattle.sl_due.specs.declared.decision.Decision.TheVariants.{ConvertsTo, GetsValue, GivesUp, Joins, Leaves, ReadsArea, Replies, Requests, SetsValue, Shares, TakesOver}
use Rattle.sl_due_leases.proofs.Grants.EndsAreLawful.{last_or}
use Rattle.sl_due_leases.proofs.Grants.GrantlessLines.{converting_grants, released_grants}
use Rattle.sl_due_leases.proofs.Grants.NothingGranted.{stopped_grants}
use Rattle.sl_due_leases.proofs.Grants.OrphansAreLawful.{Orphaning, left_orphans}
use Rattle.sl_due_leases.proofs.Grants.WorksByLines.{held_before}
use Rattle.sl_due_leases.proofs.Holdings.HoldingsByLines.{asked_resource}
use Rattle.sl_due_leases.proofs.Holdings.MomentsAreKept.{same}
use Rattle.sl_due_leases.proofs.Holdings.PlainPlaces.{one_place}
use Rattle.sl_due_leases.specs.Holdings.DecisionGrounds.{HasGrounds}
use Rattle.sl_due_leases.specs.Holdings.Moments.{Known}
use Rattle.sl_run.specs.LawfulModes.{AllShared, HoldsSharedUnder, LawfulExclusiveGrant, LawfulSharedGrant, SharedByBallot, SharedByConversion}
use Rattle.sl_due_leases.proofs.Ways.WayFactsHeld.CallsSame.{reply_leaves}
use Rattle.sl_due_leases.proofs.Ways.WayFactsHeld.EffectsLeave.{made_call}
use Rattle.sl_trace.specs.Jobs.{resource_named}
use Rattle.sl_trace.specs.Leases.{exclusive_on, holdings_on, is_lease_call, is_on, lease_calls, lease_step, spot_of}
use Rattle.sl_due_facts.proofs.AddedEffects.CallsGrow.{mine_more, others_stay, same_sessions}
use Rattle.sl_words.proofs.Lists.{contains_none, find_inside, kept}
use Rattle.sl_words.proofs.Numbers.{number_itself}
use Rattle.sl_sector.specs.declared.sector.DeltaRec.{DeltaRec}
use Rattle.sl_sector.specs.declared.sector.Owner.{Owner}
use Rattle.sl_trace.specs.Sessions.{calls_of, delta_of_record, generation_in, generation_of, given_number, holdings_of, is_call_of, is_join_call, last_delta, session_numbered}
use Rattle.sl_trace.specs.declared.session.Session.{Session}
use Rattle.sl_trace.specs.Traces.{Setting, Submitted, Trace, end_of, holdings, is_orphan, is_shared, leaves_orphan, new_call, next_child, orphan_of, record_of, same_place, spot_of_grant, submitted}
use Rattle.sl_trace.specs.declared.command.Command.{Command}
use Rattle.sl_trace.specs.declared.command.Command.TheVariants.{Acquire, AddLockspace, Convert, GetLvb, HostStatus, InqLockspace, Release, ReleaseOrphan, RemLockspace, Request, RunProgram, SetKillpath, SetLvb, Status, TakeOver}
use Rattle.sl_trace.specs.declared.command.ResourceArg.{ResourceArg}
use Rattle.sl_trace.specs.declared.effects.Call.{Call}
use Rattle.sl_trace.specs.declared.effects.Entry.{Entry}
use Rattle.sl_trace.specs.declared.effects.Grant.{Grant}
use Rattle.sl_trace.specs.declared.effects.JoinStep.TheVariants.{FirstRead}
use Rattle.sl_trace.specs.declared.effects.Mode.{Mode}
use Rattle.sl_trace.specs.declared.effects.Mode.TheVariants.{Shared}
use Rattle.sl_trace.specs.declared.effects.Move.{Move}
use Rattle.sl_trace.specs.declared.effects.Op.{Op}
use Rattle.sl_trace.specs.declared.effects.Purpose.{Purpose}
use Rattle.sl_trace.specs.declared.effects.Signal.TheVariants.{Kill}
use Rattle.sl_trace.specs.declared.effects.Spot.{Spot}
use Rattle.sl_trace.specs.declared.effects.Start.{Start}
use Rattle.sl_trace.specs.declared.input.Input.TheVariants.{Line, Wake}
use Rattle.sl_trace.specs.declared.reply.Reply.TheVariants.{Granted}
use Rattle.sl_run_law.proofs.Leases.NumberLaws.{number_is_place}
use Rattle.sl_words.proofs.CaseLaws.{one_value, some_value}
use Rattle.std.proofs.Common.{ap, inl, inr, refl, subst, sym, ◌∙◌}
use Rattle.std.proofs.lemmas.Bool.{eqb-true}
use Rattle.std.specs.Option.{option_map_or}
use Rattle.std.specs.Prelude.{Bool, Contains, List, MatchBool, None, Ok, Option, Some, [], cond, false, filter, is_some, length, option_and_then, slice_get, true, ℕ, ◌&&◌, ◌++◌, ◌==◌, ◌∷◌, ◌≡◌, ◌⊎◌}

-- What is lawful of the shared grants so far.
abbrev pub SharedSoFar : Step → Type 0
SharedSoFar x =
    (g : Grant) (s : Session) → Contains x.effects.grants g → session_numbered x.setting (seen x) g.session ≡ Some s → is_shared g.mode ≡ true → LawfulSharedGrant x.setting x.past (seen x) s (spot_of_grant g) g.lver

pub shared_so_far : (x : Step) → Known x → SharedSoFar x
shared_so_far x k g s there its shared =
    subst (λ b. MatchBool b (LawfulSharedGrant x.setting x.past (seen x) s (spot_of_grant g) g.lver) (LawfulExclusiveGrant x.setting (seen x) s (spot_of_grant g) g.lver)) shared (k.0.orderly.modes.0.grants g s there its)

pub none_shared : (z : Step) → z.effects.grants ≡ [] → SharedSoFar z
none_shared z none g s there its shared = absurd (contains_none g (subst (λ gs. Contains gs g) none there))

pub one_shared : (w : Step) (old : List Grant) (g : Grant) (s : Session) → old ≡ [] → w.effects.grants ≡ old ++ g ∷ [] → session_numbered w.setting (seen w) g.session ≡ Some s
    → (is_shared g.mode ≡ true → LawfulSharedGrant w.setting w.past (seen w) s (spot_of_grant g) g.lver) → SharedSoFar w
one_shared w old g s none grants its lawful h z there is shared = by (last_or old g h (subst (λ gs. Contains gs h) grants there)) where
  by : Contains old h ⊎ (g ≡ h) → LawfulSharedGrant w.setting w.past (seen w) z (spot_of_grant h) h.lver
  by (inl was) = absurd (contains_none h (subst (λ gs. Contains gs h) none was))
  by (inr same) =
      subst (λ k. LawfulSharedGrant w.setting w.past (seen w) k (spot_of_grant h) h.lver)
      (one_value s z (session_numbered w.setting (seen w) g.session) its (subst (λ (k : Grant). session_numbered w.setting (seen w) k.session ≡ Some z) (sym same) is))
      (subst (λ (k : Grant). LawfulSharedGrant w.setting w.past (seen w) s (spot_of_grant k) k.lver) same (lawful (subst (λ (k : Grant). is_shared k.mode ≡ true) (sym same) shared)))

-- ---- what later effects leave

abbrev owner_by : Session → ℕ → Owner
owner_by s n = record { id = s.id; generation = n }

-- The lease's calls and the session's generation are the same.
pub record SameLease (st : Setting) (t u : Trace) (s : Session) (at : Spot) : Type 0 where
  pub lease : lease_calls st u s at ≡ lease_calls st t s at
  pub generation : generation_of u s ≡ generation_of t s

kept_carried : (st : Setting) (t u : Trace) (s : Session) (at : Spot) (m : Submitted) → SameLease st t u s at → AllShared st t s at m → AllShared st u s at m
kept_carried st t u s at m k h d b there after is = let r = h d b (subst (λ ms. Contains ms d) k.lease there) after is in (r.0, r.1 ∙ sym k.generation)

ballot_carried : (st : Setting) (past : Trace) (e f : Entry) (s : Session) (at : Spot) (n : ℕ) → SameLease st (e ∷ past) (f ∷ past) s at → SharedByBallot st (e ∷ past) s at n → SharedByBallot st (f ∷ past) s at n
ballot_carried st past e f s at n k b =
    record {
      since = b.since;
      none_shared = b.none_shared;
      read = b.read;
      mode = b.mode;
      free = b.free;
      block = b.block;
      read_answer = b.read_answer;
      mode_answer = b.mode_answer;
      free_answer = b.free_answer;
      of_lease = (subst (λ ms. Contains ms b.mode) (sym k.lease) b.of_lease.0, subst (λ ms. Contains ms b.free) (sym k.lease) b.of_lease.1);
      after = b.after;
      before = b.before;
      split = k.lease ∙ b.split;
      won = (b.won.0, b.won.1 ∙ ap (λ i. let p : Option (ℕ × Owner) = Some (n, owner_by s i) in p) (sym k.generation));
      first_since = b.first_since;
      moded = (b.moded.0, b.moded.1, b.moded.2, b.moded.3, b.moded.4 ∙ sym k.generation, b.moded.5, b.moded.6);
      freed = b.freed;
      first = λ d there free. b.first d (subst (λ ms. Contains ms d) k.lease there) free;
      kept = kept_carried st (e ∷ past) (f ∷ past) s at b.mode k b.kept;
    }

conversion_carried : (st : Setting) (past : Trace) (e f : Entry) (s : Session) (at : Spot) (n : ℕ) → SameLease st (e ∷ past) (f ∷ past) s at → exclusive_on (f ∷ past) s at ≡ exclusive_on (e ∷ past) s at
    → SharedByConversion st past (e ∷ past) s at n → SharedByConversion st past (f ∷ past) s at n
conversion_carried st past e f s at n k exclusive b =
    record {
      held = b.held;
      mode = b.mode;
      block = b.block;
      was_exclusive = b.was_exclusive;
      ends = exclusive ∙ b.ends;
      of_lease = subst (λ ms. Contains ms b.mode) (sym k.lease) b.of_lease;
      moded = (b.moded.0, b.moded.1, b.moded.2 ∙ sym k.generation, b.moded.3);
      done = b.done;
      kept = kept_carried st (e ∷ past) (f ∷ past) s at b.mode k b.kept;
    }

shared_carried : (st : Setting) (past : Trace) (e f : Entry) (s : Session) (at : Spot) (n : ℕ) → SameLease st (e ∷ past) (f ∷ past) s at → exclusive_on (f ∷ past) s at ≡ exclusive_on (e ∷ past) s at
    → LawfulSharedGrant st past (e ∷ past) s at n → LawfulSharedGrant st past (f ∷ past) s at n
shared_carried st past e f s at n k exclusive (inl holds) = inl holds
shared_carried st past e f s at n k exclusive (inr (inl ballot)) = inr (inl (ballot_carried st past e f s at n k ballot))
shared_carried st past e f s at n k exclusive (inr (inr conversion)) = inr (inr (conversion_carried st past e f s at n k exclusive conversion))

pub kill_shared : (x : Step) (q : ℕ) → SharedSoFar x → SharedSoFar (add_signal q Kill x)
kill_shared x q h g s there its shared =
    shared_carried x.setting x.past (entry_of x) (entry_of (add_signal q Kill x)) s (spot_of_grant g) g.lver (record { lease = refl; generation = refl }) refl (h g s there its shared)

pub move_shared : (x : Step) (m : Move) → SharedSoFar x → SharedSoFar (add_move m x)
move_shared x m h g s there its shared =
    shared_carried x.setting x.past (entry_of x) (entry_of (add_move m x)) s (spot_of_grant g) g.lver (record { lease = refl; generation = refl }) refl (h g s there its shared)

-- One more call that works on no lease; the session's own writes no delta record.
lease_apart : (x : Step) (s : Session) (path : List ℕ) (p : Purpose) (o : ℕ) (op : Op) → is_some (lease_step p) ≡ false → (z : Session) → ((s.number == z.number) ≡ true → option_and_then delta_of_record (record_of op) ≡ None) → (at : Spot)
    → SameLease x.setting (seen x) (seen (add_call_of s.number path p o op x)) z at
lease_apart x s path p o op plain z keeps at = by (s.number == z.number) refl where
  c : Call
  c = made_call x s.number path p o op

  new : Submitted
  new = new_call (length x.past) x.reading c

  on : Submitted → Bool
  on m = is_lease_call m && is_on x.setting.layout at m.call

  by : (b : Bool) → (s.number == z.number) ≡ b → SameLease x.setting (seen x) (seen (add_call_of s.number path p o op x)) z at
  by false other =
      let calls : calls_of (seen (add_call_of s.number path p o op x)) z ≡ calls_of (seen x) z = others_stay (entry_of x) x.past c z other in
      record { lease = ap (λ ms. filter (λ (m : Submitted). is_lease_call m && is_on x.setting.layout at m.call) ms) calls; generation = ap (λ ms. generation_in z ms) calls }
  by true mine =
      let calls : calls_of (seen (add_call_of s.number path p o op x)) z ≡ new ∷ calls_of (seen x) z = mine_more (entry_of x) x.past c z mine in
      record {
        lease = ap (λ ms. filter (λ (m : Submitted). is_lease_call m && is_on x.setting.layout at m.call) ms) calls
            ∙ ap (λ b. cond (b && is_on x.setting.layout at c) (new ∷ lease_calls x.setting (seen x) z at) (lease_calls x.setting (seen x) z at)) plain;
        generation = ap (λ ms. generation_in z ms) calls
            ∙ ap (λ d. option_map_or (λ (r : DeltaRec). r.generation) (elim d as (λ v. Option DeltaRec) [ Some r ↦ Some r | None ↦ last_delta (calls_of (seen x) z) ]) (given_number z)) (keeps mine);
      }

pub call_shared : (x : Step) (s : Session) (path : List ℕ) (p : Purpose) (o : ℕ) (op : Op) → is_join_call FirstRead p ≡ false → is_some (lease_step p) ≡ false
    → ((g : Grant) → Contains x.effects.grants g → g.session ≡ s.number → option_and_then delta_of_record (record_of op) ≡ None) → SharedSoFar x → SharedSoFar (add_call_of s.number path p o op x)
call_shared x s path p o op later plain keeps h g z there its shared =
    let before : session_numbered x.setting (seen x) g.session ≡ Some z =
    ap (λ ss. slice_get ss g.session) (sym (same_sessions x.setting (entry_of x) x.past (made_call x s.number path p o op) later)) ∙ its
    in
    shared_carried x.setting x.past (entry_of x) (entry_of (add_call_of s.number path p o op x)) z (spot_of_grant g) g.lver
    (lease_apart x s path p o op plain z
    (λ mine. keeps g there (sym (number_is_place x.setting (seen x) g.session z before) ∙ sym (eqb-true s.number z.number mine))) (spot_of_grant g)) refl (h g z there before shared)

-- ---- an exit

pub exited_shared : (y : Step) (p : ℕ) → y.effects.ends ≡ [] → y.effects.grants ≡ [] → SharedSoFar (refuse_jobs_of p (leave_holdings p y))
exited_shared y p unended none g s there its shared = by ((left_orphans y p).grants g there) where
  u : Step
  u = refuse_jobs_of p (leave_holdings p y)

  all : Orphaning y p u
  all = left_orphans y p

  by : Contains y.effects.grants g ⊎ ((l : Grant) × Contains (holdings (seen y)) l × (leaves_orphan (holdings (seen y)) p l ≡ true) × (orphan_of l ≡ g)) → LawfulSharedGrant u.setting u.past (seen u) s (spot_of_grant g) g.lver
  by (inl was) = absurd (contains_none g (subst (λ gs. Contains gs g) none was))
  by (inr f) =
      let l : Grant = f.0 in
      let held : Contains (holdings u.past) l = subst (λ t. Contains (holdings t) l) (sym all.stand.1) (subst (λ hs. Contains hs l) (held_before y unended none) f.1) in
      let mine : (l.session == s.number) ≡ true =
      subst (λ n. (n == s.number) ≡ true) (number_is_place u.setting (seen u) g.session s its ∙ ap (λ (k : Grant). k.session) (sym f.3)) (number_itself s.number)
      in
      let at : Spot = spot_of_grant g in
      inl (
        l,
        kept (λ (k : Grant). same_place k.path k.offset at.path at.base) (holdings_of u.past s) l (subst (λ (k : Grant). same_place l.path l.offset k.path k.offset ≡ true) f.3 (one_place l.path l.offset))
            (kept (λ (k : Grant). k.session == s.number) (holdings u.past) l mine held),
        ap (λ (k : Grant). is_shared k.mode) f.3 ∙ shared,
        ap (λ (k : Grant). k.lver) f.3,
      )

-- ---- what is granted to a job

-- What stands behind a shared grant before it is made.
abbrev StandsShared : Step → Session → Spot → ℕ → Type 0
StandsShared x s at n = HoldsSharedUnder x.past s at n ⊎ SharedByBallot x.setting (seen x) s at n

abbrev given_to : Grant → Step → Step
given_to g x = add_grant g x

replied_lease : (z : Step) (j : ℕ) (n : ℕ) (s : Session) (at : Spot) → SameLease z.setting (seen z) (seen (add_reply j (Granted n) z)) s at
replied_lease z j n s at =
    let calls : submitted (seen (add_reply j (Granted n) z)) ≡ submitted (seen z) = reply_leaves z j (Granted n) (inl refl) in
    record {
      lease = ap (λ ms. filter (λ (m : Submitted). is_lease_call m && is_on z.setting.layout at m.call) (filter (is_call_of s) ms)) calls;
      generation = ap (λ ms. generation_in s (filter (is_call_of s) ms)) calls;
    }

-- Its answer leaves that.
replied_stands : (x : Step) (g : Grant) (j : ℕ) (s : Session) (at : Spot) (n : ℕ) → StandsShared x s at n → LawfulSharedGrant x.setting x.past (seen (add_reply j (Granted n) (add_grant g x))) s at n
replied_stands x g j s at n (inl holds) = inl holds
replied_stands x g j s at n (inr ballot) =
    let l : SameLease x.setting (seen (add_grant g x)) (seen (add_reply j (Granted n) (add_grant g x))) s at = replied_lease (add_grant g x) j n s at in
    inr (inl (ballot_carried x.setting x.past (entry_of x) (entry_of (add_reply j (Granted n) (add_grant g x))) s at n (record { lease = l.lease; generation = l.generation }) ballot))

started_stands : (x : Step) (g : Grant) (start : Start) (s : Session) (at : Spot) (n : ℕ) → StandsShared x s at n → LawfulSharedGrant x.setting x.past (seen (add_start start (add_grant g x))) s at n
started_stands x g start s at n (inl holds) = inl holds
started_stands x g start s at n (inr ballot) = inr (inl (ballot_carried x.setting x.past (entry_of x) (entry_of (add_start start (add_grant g x))) s at n (record { lease = refl; generation = refl }) ballot))

pub granted_shared : (x : Step) (s : Session) (j : ℕ) (c : Command) (mode : Mode) (lver : ℕ) → Has x s → x.effects.grants ≡ [] → ((r : ResourceArg) → resource_named c ≡ Some r → is_shared mode ≡ true → StandsShared x s (spot_of r) lver)
    → SharedSoFar (grant_for s j c mode lver x)
granted_shared x s j (Acquire r shared p persistent) mode lver has none stands =
    one_shared (grant_for s j (Acquire r shared p persistent) mode lver x) x.effects.grants (grant_of s r p mode lver persistent) s none refl has
    (λ is. replied_stands x (grant_of s r p mode lver persistent) j s (spot_of r) lver (stands r refl is))
granted_shared x s j (TakeOver r shared p persistent) mode lver has none stands =
    one_shared (grant_for s j (TakeOver r shared p persistent) mode lver x) x.effects.grants (grant_of s r p mode lver persistent) s none refl has
    (λ is. replied_stands x (grant_of s r p mode lver persistent) j s (spot_of r) lver (stands r refl is))
granted_shared x s j (RunProgram r shared path) mode lver has none stands =
    one_shared (grant_for s j (RunProgram r shared path) mode lver x) x.effects.grants (grant_of s r (next_child (seen x)) mode lver false) s none refl has
    (λ is. started_stands x (grant_of s r (next_child (seen x)) mode lver false) (record { process = next_child (seen x); program = path; job = Some j; stands_for = None }) s (spot_of r) lver (stands r refl is))
granted_shared x s j (AddLockspace a) mode lver has none stands = none_shared x none
granted_shared x s j (RemLockspace a) mode lver has none stands = none_shared x none
granted_shared x s j (InqLockspace a) mode lver has none stands = none_shared x none
granted_shared x s j (HostStatus a) mode lver has none stands = none_shared x none
granted_shared x s j (Release r p) mode lver has none stands = none_shared x none
granted_shared x s j (ReleaseOrphan r) mode lver has none stands = none_shared x none
granted_shared x s j (Convert r shared p) mode lver has none stands = none_shared x none
granted_shared x s j (Request r v how) mode lver has none stands = none_shared x none
granted_shared x s j (GetLvb r p) mode lver has none stands = none_shared x none
granted_shared x s j (SetLvb r p bytes) mode lver has none stands = none_shared x none
granted_shared x s j (SetKillpath p path) mode lver has none stands = none_shared x none
granted_shared x s j Status mode lver has none stands = none_shared x none

-- ---- a line

pub same_resource : (c : Command) (a b : ResourceArg) → resource_named c ≡ Some a → resource_named c ≡ Some b → a ≡ b
same_resource c a b first second = some_value a b (sym first ∙ second)

held_shared : (x : Step) (s : Session) (at : Spot) (g : Grant) (n : ℕ) → x.effects.ends ≡ [] → x.effects.grants ≡ [] → Contains (holdings_on (seen x) s at) g → is_shared g.mode ≡ true → g.lver ≡ n → HoldsSharedUnder x.past s at n
held_shared x s at g n unended ungranted there shared under =
    (g, subst (λ hs. Contains (filter (λ (k : Grant). same_place k.path k.offset at.path at.base) (filter (λ (k : Grant). k.session == s.number) hs)) g) (held_before x unended ungranted) there, shared, under)

pub lines_shared : (x : Step) (text : List ℕ) (c : Command) (j : ℕ) (d : Decision) → Known x → x.input ≡ Wake → x.setting.read text ≡ Ok c → HasGrounds x.setting (seen x) c d → Of (Has (with_input (Line text) x)) d
    → SharedSoFar (carry_decision j c d (with_input (Line text) x))
unfolding carry_decision
lines_shared x text c j d k wake says = by d where
  y : Step
  y = with_input (Line text) x

  none : (x.effects.ends ≡ []) × (x.effects.grants ≡ [])
  none = k.1.waking wake

  by : (d : Decision) → HasGrounds x.setting (seen x) c d → Of (Has y) d → SharedSoFar (carry_decision j c d y)
  by (Replies r) grounds has = none_shared y none.1
  by (Joins n a) grounds has = none_shared (carry_decision j c (Joins n a) y) none.1
  by (Leaves s) grounds has = none_shared (signal_and_refuse s (Some j) y) (stopped_grants y s (Some j) ∙ none.1)
  by (ReadsArea s r) grounds has = none_shared (carry_decision j c (ReadsArea s r) y) none.1
  by (Shares s lver) grounds has =
      let f = find_inside (λ (g : Grant). is_shared g.mode) (holdings_on (seen x) s (spot_of grounds.resource)) grounds.beside grounds.held in
      granted_shared y s j c Shared lver has none.1 (λ r named is.
      inl (subst (λ z. HoldsSharedUnder x.past s (spot_of z) lver)
      (same_resource c grounds.resource r (asked_resource x.setting c grounds.resource (k.0.setting.reads text c says) grounds.acquires.asks).1 named)
      (held_shared x s (spot_of grounds.resource) grounds.beside lver none.0 none.1 f.0 f.1 grounds.under)))
  by (GivesUp s e) grounds has = none_shared (after_end s (spot_of_grant e) j e (add_end (end_of e) y)) (released_grants (add_end (end_of e) y) j s e ∙ none.1)
  by (TakesOver s e) grounds has =
      let f = find_inside is_orphan (holdings_on (seen x) s (spot_of grounds.resource)) e grounds.orphan in
      granted_shared (add_end (end_of e) y) s j c e.mode e.lver has none.1 (λ r named is.
      inl (subst (λ z. HoldsSharedUnder x.past s (spot_of z) e.lver) (same_resource c grounds.resource r (ap (λ z. resource_named z) grounds.command) named)
      (held_shared x s (spot_of grounds.resource) e e.lver none.0 none.1 f.0 is refl)))
  by (ConvertsTo s r mode) grounds has = none_shared (carry_decision j c (ConvertsTo s r mode) y) (converting_grants y s (spot_of r) j mode r.name ∙ none.1)
  by (Requests s r) grounds has = none_shared (carry_decision j c (Requests s r) y) none.1
  by (SetsValue s spot v) grounds has = none_shared (carry_decision j c (SetsValue s spot v) y) none.1
  by (GetsValue s spot) grounds has = none_shared (carry_decision j c (GetsValue s spot) y) none.1
