-- What an effect that comes after calls of the entry leaves of what the laws ask of them.
use Rattle.sl_due_facts.proofs.Acts.LoopsKeep.{for_each_keeps, when_keeps}
use Rattle.sl_due_facts.proofs.Acts.AddedAtEnd.{any_stays}
use Rattle.sl_due_facts.specs.Acts.Acts.{Has}
use Rattle.sl_due_facts.specs.Acts.TraceSoFar.{entry_of}
use Rattle.sl_due.specs.DueRecovery.{send, signal_holders}
use Rattle.sl_due.specs.DueInputs.{end_holdings, when_running}
use Rattle.sl_due.specs.Steps.{Step, add_call_of, add_end, add_move, add_reply, add_signal, seen}
use Rattle.sl_run.specs.LawfulArea.{is_area_work, is_block_work, is_delta_record}
use Rattle.sl_run.specs.LawfulLeader.{holds_under}
use Rattle.sl_run.specs.LawForms.{cut_at}
use Rattle.sl_due_leases.proofs.Leases.CallsCarried.{Carried, lawful_carried}
use Rattle.sl_due_leases.proofs.Leases.OthersKeep.{LawfulSoFar, plain_again, plain_at}
use Rattle.sl_due_leases.specs.Leases.LeaseLawful.{LeaseLawful}
use Rattle.sl_due_leases.proofs.Ways.WayFactsHeld.CallsSame.{counted_more, counts_more, joined_stays, reply_stays}
use Rattle.sl_due_leases.proofs.Ways.WayFactsHeld.EffectsLeave.{made_call}
use Rattle.sl_due_leases.proofs.Ways.WayFactsHeld.PlacesStand.{either_list}
use Rattle.sl_sector.specs.declared.sector.Rec.TheVariants.{BlockIs, DeltaIs, LeaderIs, PairIs, PairLeaderIs, RequestIs, ValueIs}
use Rattle.sl_sector.specs.declared.sector.Rec.{Rec}
use Rattle.sl_trace.specs.Leases.{holdings_on, leader_of_record, lease_step, spot_of_call, turn_of_record}
use Rattle.sl_run.specs.LawfulBlock.{LawfulBlockStep}
use Rattle.sl_due_facts.proofs.AddedEffects.CallsGrow.{any_more, each_more}
use Rattle.sl_due_facts.specs.AddedEffects.OneMoreEffect.{with_end, with_move, with_reply}
use Rattle.sl_sector.specs.declared.sector.Block.{Block}
use Rattle.sl_sector.specs.declared.sector.Leader.{Leader}
use Rattle.sl_trace.specs.Sessions.{holders_of, holdings_of, is_join_call, joined_after, leaving_job, recovery_of, removed_after, session_numbered}
use Rattle.sl_trace.specs.declared.session.Session.{Session}
use Rattle.sl_trace.specs.WatchdogConnections.{unregisters}
use Rattle.sl_trace.specs.Traces.{Setting, Submitted, Trace, end_of, holdings, is_ended_by, is_running, is_shared, new_call, record_of, same_place}
use Rattle.sl_trace.specs.declared.effects.Call.{Call}
use Rattle.sl_trace.specs.declared.effects.End.{End}
use Rattle.sl_trace.specs.declared.effects.Entry.{Entry}
use Rattle.sl_trace.specs.declared.effects.Grant.{Grant}
use Rattle.sl_trace.specs.declared.effects.JobReply.{JobReply}
use Rattle.sl_trace.specs.declared.effects.JoinStep.TheVariants.{FirstRead}
use Rattle.sl_trace.specs.declared.effects.Move.{Move}
use Rattle.sl_trace.specs.declared.effects.Op.{Op}
use Rattle.sl_trace.specs.declared.effects.Purpose.TheVariants.{Joining, Lease, Leaving, Renewal, RequestRead, RequestWrite, SeeRequest, Survey, ValueRead, ValueWrite}
use Rattle.sl_trace.specs.declared.effects.Purpose.{Purpose}
use Rattle.sl_trace.specs.declared.effects.Signal.TheVariants.{Kill}
use Rattle.sl_trace.specs.declared.effects.Signal.{Signal}
use Rattle.sl_trace.specs.declared.effects.Spot.{Spot}
use Rattle.sl_trace.specs.declared.input.Input.TheVariants.{Spawned, Wake}
use Rattle.sl_trace.specs.declared.input.Input.{Input}
use Rattle.sl_trace.specs.declared.reply.Reply.{Reply}
use Rattle.sl_words.proofs.Lists.{any_found, any_of, contains_cases, contains_first, contains_more, contains_none, got_inside, kept, kept_inside}
use Rattle.sl_words.proofs.CaseLaws.{false_is_true, is_false, none_some, one_value, true_is_false}
use Rattle.sl_words.proofs.WordLaws.{and_true}
use Rattle.sl_words.specs.Words.{choose}
use Rattle.std.proofs.Common.{ap, inl, inr, refl, subst, sym, ◌∙◌}
use Rattle.std.specs.Prelude.{Bool, Contains, List, None, Option, Some, [], false, filter, is_none, is_some, length, not, option_and_then, true, ℕ, ◌&&◌, ◌++◌, ◌+◌, ◌==◌, ◌∷◌, ◌≡◌, ◌⊎◌}

pub three : (a b p q r : Bool) → (a ≡ true → b ≡ true) → (a && p && q && r) ≡ true → (b && p && q && r) ≡ true
three true b p q r grows is = ap (λ z. z && p && q && r) (grows refl) ∙ is
three false b true q r grows is = absurd (false_is_true is)
three false b false q r grows is = absurd (false_is_true is)

-- ---- signals

signal_carries : (x : Step) (p : ℕ) (g : Signal) (k : ℕ) (s : Session) → Carried x.setting (cut_at k (entry_of x) ∷ x.past) (cut_at k (entry_of (add_signal p g x)) ∷ x.past) s
signal_carries x p g k s = record { calls = refl; active = λ h. h; joined = λ h. h; over = λ a b h. h; unheld = λ at n h. h }

pub signals_stay : (x : Step) (p : ℕ) (g : Signal) → LawfulSoFar x → LawfulSoFar (add_signal p g x)
signals_stay x p g h k c s at its = lawful_carried x.setting (cut_at k (entry_of x) ∷ x.past) (cut_at k (entry_of (add_signal p g x)) ∷ x.past) s (signal_carries x p g k s) _ (h k c s at its)

pub kills_stay : (x : Step) (s : Session) → LawfulSoFar x → LawfulSoFar (signal_holders Kill s x)
kills_stay x s h = for_each_keeps LawfulSoFar (holders_of (seen x) s) (λ q. send q Kill) x (λ q there z k. signals_stay z q Kill k) h

-- ---- ends

abbrev is_under : ℕ → Grant → Bool
is_under n g = not (is_shared g.mode) && g.lver == n

-- Who holds no more than before.
pub unheld_by : (t u : Trace) (s : Session) (at : Spot) (n : ℕ) → ((g : Grant) → Contains (holdings u) g → Contains (holdings t) g) → holds_under t s at n ≡ false → holds_under u s at n ≡ false
unheld_by t u s at n less none = is_false (holds_under u s at n) (λ is.
    let found = any_found (is_under n) (holdings_on u s at) is in
    let placed = kept_inside (λ (g : Grant). same_place g.path g.offset at.path at.base) (holdings_of u s) found.0 found.1 in
    let owned = kept_inside (λ (g : Grant). g.session == s.number) (holdings u) found.0 placed.0 in
    let old : Contains (holdings_on t s at) found.0 =
    kept (λ (g : Grant). same_place g.path g.offset at.path at.base) (holdings_of t s) found.0 placed.1
    (kept (λ (g : Grant). g.session == s.number) (holdings t) found.0 owned.1 (less found.0 owned.0))
    in
    true_is_false (sym (any_of (is_under n) (holdings_on t s at) found.0 found.2 old) ∙ none))

not_ended : (xs : List End) (y : End) (g : Grant) → not (is_ended_by (xs ++ y ∷ []) g) ≡ true → not (is_ended_by xs g) ≡ true
not_ended xs y g is = by (is_ended_by xs g) refl where
  by : (b : Bool) → is_ended_by xs g ≡ b → not b ≡ true
  by false ended = refl
  by true ended = absurd (true_is_false (sym is ∙ ap (λ b. not b) (any_stays (λ (z : End). z.process == g.process && same_place z.path z.offset g.path g.offset) xs y ended)))

first_list : {A : Type 0} (xs ys : List A) (d : A) → Contains xs d → Contains (xs ++ ys) d
first_list [] ys d there = absurd (contains_none d there)
first_list {A} (x ∷ xs) ys d there = by (contains_cases x xs d there) (λ inside. first_list xs ys d inside) where
  by : (x ≡ d) ⊎ Contains xs d → (Contains xs d → Contains (xs ++ ys) d) → Contains (x ∷ xs ++ ys) d
  by (inl is) rest = subst (λ z. Contains (x ∷ xs ++ ys) z) is (contains_first x (xs ++ ys))
  by (inr inside) rest = contains_more x (xs ++ ys) d (rest inside)

second_list : {A : Type 0} (xs ys : List A) (d : A) → Contains ys d → Contains (xs ++ ys) d
second_list [] ys d there = there
second_list (x ∷ xs) ys d there = contains_more x (xs ++ ys) d (second_list xs ys d there)

ends_less : (e : Entry) (past : Trace) (y : End) (g : Grant) → Contains (holdings (with_end y e ∷ past)) g → Contains (holdings (e ∷ past)) g
ends_less e past y g there = by (either_list (filter (λ (k : Grant). not (is_ended_by (e.effects.ends ++ y ∷ []) k)) (holdings past)) e.effects.grants g there) where
  by : Contains (filter (λ (k : Grant). not (is_ended_by (e.effects.ends ++ y ∷ []) k)) (holdings past)) g ⊎ Contains e.effects.grants g → Contains (holdings (e ∷ past)) g
  by (inl old) =
      let k = kept_inside (λ (k : Grant). not (is_ended_by (e.effects.ends ++ y ∷ []) k)) (holdings past) g old in
      first_list (filter (λ (k : Grant). not (is_ended_by e.effects.ends k)) (holdings past)) e.effects.grants g
      (kept (λ (k : Grant). not (is_ended_by e.effects.ends k)) (holdings past) g (not_ended e.effects.ends y g k.1) k.0)
  by (inr new) = second_list (filter (λ (k : Grant). not (is_ended_by e.effects.ends k)) (holdings past)) e.effects.grants g new

pub ends_carry : (st : Setting) (e : Entry) (past : Trace) (y : End) (s : Session) → Carried st (e ∷ past) (with_end y e ∷ past) s
ends_carry st e past y s = record { calls = refl; active = λ h. h; joined = λ h. h; over = λ a b h. h; unheld = λ at n none. unheld_by (e ∷ past) (with_end y e ∷ past) s at n (ends_less e past y) none }

pub ends_stay : (x : Step) (y : End) → LawfulSoFar x → LawfulSoFar (add_end y x)
ends_stay x y h k c s at its = lawful_carried x.setting (cut_at k (entry_of x) ∷ x.past) (cut_at k (entry_of (add_end y x)) ∷ x.past) s (ends_carry x.setting (cut_at k (entry_of x)) x.past y s) _ (h k c s at its)

pub all_ends_stay : (x : Step) (q : ℕ) → LawfulSoFar x → LawfulSoFar (end_holdings q x)
all_ends_stay x q h = for_each_keeps LawfulSoFar (filter (λ (g : Grant). g.process == q) (holdings (seen x))) (λ g. add_end (end_of g)) x (λ g there y k. ends_stay y (end_of g) k) h

-- ---- replies, where no answer is heard

-- An input that brings no line and no answer.
pub data IsPlainInput (i : Input) : Type 0 where
  A_wake : i ≡ Wake → IsPlainInput i
  A_start : (p : ℕ) (ok : Bool) → i ≡ Spawned p ok → IsPlainInput i

abbrev with_i : Input → Entry → Entry
with_i i e = record e { input = i }

pub joined_more : (e : Entry) (past : Trace) (a : JobReply) (s : Session) → is_some (joined_after (e ∷ past) s) ≡ true → is_some (joined_after (with_reply a e ∷ past) s) ≡ true
joined_more e past a s is = joined_stays (e ∷ past) (with_reply a e ∷ past) (λ job q h. reply_stays e past a job q h) s is

active_more : (a b more : Bool) → (a ≡ true → b ≡ true) → (a && more) ≡ true → (b && more) ≡ true
active_more true b more grows is = ap (λ z. z && more) (grows refl) ∙ is
active_more false b more grows is = absurd (false_is_true is)

joined_and : (o p : Option ℕ) (more : Bool) → (is_some o ≡ true → is_some p ≡ true) → (is_some o && more) ≡ true → (is_some p && more) ≡ true
joined_and o p more grows is = active_more (is_some o) (is_some p) more grows is

woken_carries : (st : Setting) (e : Entry) (past : Trace) (a : JobReply) (s : Session) → Carried st (with_i Wake e ∷ past) (with_reply a (with_i Wake e) ∷ past) s
woken_carries st e past a s =
    record {
      calls = refl;
      active = λ is. three (is_some (joined_after (with_i Wake e ∷ past) s)) (is_some (joined_after (with_reply a (with_i Wake e) ∷ past) s)) (is_none (removed_after (with_i Wake e ∷ past) s)) (is_none (recovery_of st (with_i Wake e ∷ past) s)) (is_none (leaving_job st (with_i Wake e ∷ past) s)) (joined_more (with_i Wake e) past a s) is;
      joined = joined_more (with_i Wake e) past a s;
      over = λ b c is. counted_more st (with_i Wake e) (with_reply a (with_i Wake e)) past s b c (counts_more st (with_i Wake e ∷ past) (with_reply a (with_i Wake e) ∷ past) s refl (joined_more (with_i Wake e) past a s) b c) is;
      unheld = λ at n h. h;
    }

started_carries : (st : Setting) (e : Entry) (past : Trace) (a : JobReply) (s : Session) (p : ℕ) (ok : Bool) → Carried st (with_i (Spawned p ok) e ∷ past) (with_reply a (with_i (Spawned p ok) e) ∷ past) s
started_carries st e past a s p ok =
    record {
      calls = refl;
      active = λ is. three (is_some (joined_after (with_i (Spawned p ok) e ∷ past) s)) (is_some (joined_after (with_reply a (with_i (Spawned p ok) e) ∷ past) s)) (is_none (removed_after (with_i (Spawned p ok) e ∷ past) s)) (is_none (recovery_of st (with_i (Spawned p ok) e ∷ past) s)) (is_none (leaving_job st (with_i (Spawned p ok) e ∷ past) s)) (joined_more (with_i (Spawned p ok) e) past a s) is;
      joined = joined_more (with_i (Spawned p ok) e) past a s;
      over = λ b c is. counted_more st (with_i (Spawned p ok) e) (with_reply a (with_i (Spawned p ok) e)) past s b c (counts_more st (with_i (Spawned p ok) e ∷ past) (with_reply a (with_i (Spawned p ok) e) ∷ past) s refl (joined_more (with_i (Spawned p ok) e) past a s) b c) is;
      unheld = λ at n h. h;
    }

pub replies_carry : (st : Setting) (e : Entry) (past : Trace) (a : JobReply) (s : Session) → IsPlainInput e.input → Carried st (e ∷ past) (with_reply a e ∷ past) s
replies_carry st e past a s (A_wake is) = subst (λ i. Carried st (with_i i e ∷ past) (with_reply a (with_i i e) ∷ past) s) (sym is) (woken_carries st e past a s)
replies_carry st e past a s (A_start p ok is) = subst (λ i. Carried st (with_i i e ∷ past) (with_reply a (with_i i e) ∷ past) s) (sym is) (started_carries st e past a s p ok)

pub replies_stay : (x : Step) (j : ℕ) (r : Reply) → IsPlainInput x.input → LawfulSoFar x → LawfulSoFar (add_reply j r x)
replies_stay x j r plain h k c s at its =
    lawful_carried x.setting (cut_at k (entry_of x) ∷ x.past) (cut_at k (entry_of (add_reply j r x)) ∷ x.past) s
    (replies_carry x.setting (cut_at k (entry_of x)) x.past (record { job = j; reply = r }) s plain) _ (h k c s at its)

pub said_stays : (x : Step) (o : Option ℕ) (r : Reply) → IsPlainInput x.input → LawfulSoFar x → LawfulSoFar (when_running o r x)
said_stays x None r plain h = h
said_stays x (Some j) r plain h = when_keeps LawfulSoFar (is_running (seen x) j) (add_reply j r) x (λ runs k. replies_stay x j r plain k) h

-- ---- moves

same_removed : (m : Move) (e : Entry) (past : Trace) (s : Session) → unregisters s.lockspace m ≡ false → removed_after (with_move m e ∷ past) s ≡ removed_after (e ∷ past) s
same_removed m e past s other =
    ap (λ b. elim (removed_after past s) as (λ z. Option ℕ) [ Some k ↦ Some k | None ↦ choose (is_some (joined_after past s) && b) (length past + 1) ]) (any_more (unregisters s.lockspace) e.effects.moves m other)

pub moves_carry : (st : Setting) (e : Entry) (past : Trace) (m : Move) (s : Session) → unregisters s.lockspace m ≡ false → Carried st (e ∷ past) (with_move m e ∷ past) s
moves_carry st e past m s other =
    record {
      calls = refl;
      active = λ is. ap (λ o. is_some (joined_after (e ∷ past) s) && is_none o && is_none (recovery_of st (e ∷ past) s) && is_none (leaving_job st (e ∷ past) s)) (same_removed m e past s other) ∙ is;
      joined = λ h. h;
      over = λ a b h. h;
      unheld = λ at n h. h;
    }

-- A call that is no work on an area asks only that its session has joined.
plain_stays : (st : Setting) (t u : Trace) (s : Session) (c : Submitted) → is_area_work c.call.purpose ≡ false → (is_some (joined_after t s) ≡ true → is_some (joined_after u s) ≡ true)
    → LeaseLawful st t s c → LeaseLawful st u s c
plain_stays st t u s c none joined h =
    record {
      active = λ area. absurd (true_is_false (sym area ∙ none));
      writes = λ r is plain. absurd (true_is_false (sym (h.writes r is plain).0 ∙ none));
      alone = λ works. absurd (true_is_false (sym (and_true (is_block_work c) (is_area_work c.call.purpose) works).1 ∙ none));
      reads = h.reads;
      sees = λ is. joined (h.sees is);
      again = λ is. absurd (plain_again c.call.purpose none is);
      turn = λ turn is. absurd (true_is_false (sym (of_turn turn (record_of c.call.op) refl is (λ r at plain. (h.writes r at plain).0)) ∙ none));
      block = λ b is. absurd (no_block b c.call.purpose none (h.block b is));
      phase2 = λ at. absurd (plain_at c.call.purpose none at);
      leader = λ l is. absurd (true_is_false (sym (of_leader l (record_of c.call.op) refl is (λ r at plain. (h.writes r at plain).0)) ∙ none));
    }
  where
    no_block : (b : Block) (p : Purpose) → is_area_work p ≡ false → elim (lease_step p) as (λ z. Type 0) [ None ↦ ⊥ | Some q ↦ LawfulBlockStep st t s (spot_of_call st.layout c) c b q.1 ] → ⊥
    no_block b (Lease work step) none h = true_is_false none
    no_block b (RequestRead j) none h = h
    no_block b (RequestWrite j o) none h = h
    no_block b (ValueWrite j) none h = h
    no_block b (ValueRead j) none h = h
    no_block b (Joining j step) none h = h
    no_block b Renewal none h = h
    no_block b Survey none h = h
    no_block b (Leaving j) none h = h
    no_block b SeeRequest none h = h

    of_leader : (l : Leader) (o : Option Rec) → record_of c.call.op ≡ o → option_and_then leader_of_record o ≡ Some l → ((r : Rec) → record_of c.call.op ≡ Some r → is_delta_record r ≡ false → is_area_work c.call.purpose ≡ true)
        → is_area_work c.call.purpose ≡ true
    of_leader l None at is h = absurd (none_some l is)
    of_leader l (Some (LeaderIs k)) at is h = h (LeaderIs k) at refl
    of_leader l (Some (BlockIs k)) at is h = absurd (none_some l is)
    of_leader l (Some (DeltaIs k)) at is h = absurd (none_some l is)
    of_leader l (Some (RequestIs k)) at is h = absurd (none_some l is)
    of_leader l (Some (ValueIs k)) at is h = absurd (none_some l is)
    of_leader l (Some (PairIs k)) at is h = absurd (none_some l is)
    of_leader l (Some (PairLeaderIs k)) at is h = h (PairLeaderIs k) at refl

    of_turn : (turn : ℕ) (o : Option Rec) → record_of c.call.op ≡ o → option_and_then turn_of_record o ≡ Some turn → ((r : Rec) → record_of c.call.op ≡ Some r → is_delta_record r ≡ false → is_area_work c.call.purpose ≡ true)
        → is_area_work c.call.purpose ≡ true
    of_turn turn None at is h = absurd (none_some turn is)
    of_turn turn (Some (LeaderIs k)) at is h = absurd (none_some turn is)
    of_turn turn (Some (BlockIs k)) at is h = absurd (none_some turn is)
    of_turn turn (Some (DeltaIs k)) at is h = absurd (none_some turn is)
    of_turn turn (Some (RequestIs k)) at is h = absurd (none_some turn is)
    of_turn turn (Some (ValueIs k)) at is h = absurd (none_some turn is)
    of_turn turn (Some (PairIs k)) at is h = h (PairIs k) at refl
    of_turn turn (Some (PairLeaderIs k)) at is h = absurd (none_some turn is)

-- No session whose work on an area the entry calls loses its connection by the move.
abbrev pub Spares : Step → Move → Type 0
Spares x m = (c : Call) (s : Session) → Contains x.effects.calls c → is_area_work c.purpose ≡ true → session_numbered x.setting (seen x) c.session ≡ Some s → unregisters s.lockspace m ≡ false

pub moves_stay : (x : Step) (m : Move) → Spares x m → LawfulSoFar x → LawfulSoFar (add_move m x)
moves_stay x m spares h k c s at its = by (is_area_work c.purpose) refl where
  by : (b : Bool) → is_area_work c.purpose ≡ b → LeaseLawful x.setting (cut_at k (entry_of (add_move m x)) ∷ x.past) s (new_call (length x.past) x.reading c)
  by true is =
      lawful_carried x.setting (cut_at k (entry_of x) ∷ x.past) (cut_at k (entry_of (add_move m x)) ∷ x.past) s
      (moves_carry x.setting (cut_at k (entry_of x)) x.past m s (spares c s (got_inside x.effects.calls k c at) is its)) _ (h k c s at its)
  by false is = plain_stays x.setting (cut_at k (entry_of x) ∷ x.past) (cut_at k (entry_of (add_move m x)) ∷ x.past) s _ is (λ j. j) (h k c s at its)

-- ---- one more call

pub calls_stay : (x : Step) (s : Session) (path : List ℕ) (p : Purpose) (o : ℕ) (op : Op) → Has x s → is_join_call FirstRead p ≡ false
    → LeaseLawful x.setting (seen x) s (new_call (length x.past) x.reading (made_call x s.number path p o op)) → LawfulSoFar x → LawfulSoFar (add_call_of s.number path p o op x)
calls_stay x s path p o op has later lawful h =
    each_more x.setting (LeaseLawful x.setting) (entry_of x) x.past (made_call x s.number path p o op) later h
    (λ z its. subst (λ y. LeaseLawful x.setting (seen x) y (new_call (length x.past) x.reading (made_call x s.number path p o op)))
    (one_value s z (session_numbered x.setting (seen x) s.number) has its) lawful)
