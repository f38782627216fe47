-- What comes last ends each session in recovery with nothing left.
use Rattle.sl_due_facts.proofs.Acts.AddedAtEnd.{any_last}
use Rattle.sl_due_facts.proofs.Acts.LoopsKeep.{for_each_keeps, when_keeps}
use Rattle.sl_due_facts.specs.Acts.KeptByEffects.{Plainly}
use Rattle.sl_due_facts.specs.Acts.TraceSoFar.{entry_of}
use Rattle.sl_due.specs.DueCommands.{carry_decision}
use Rattle.sl_due.specs.CarriedDelta.{carry_delta}
use Rattle.sl_due.specs.DueTimeOuts.{remove_connection}
use Rattle.sl_due.specs.DueWake.{end_if_done, finish, finish_session, free_if_done}
use Rattle.sl_due.specs.Steps.{Step, add_call_of, add_move, add_reply, for_each, seen, when}
use Rattle.sl_due_facts.proofs.Jobs.CallsHaveFacts.{find_mapped}
use Rattle.sl_due_facts.proofs.Jobs.JobsAreNumbered.{found_before}
use Rattle.sl_due_facts.proofs.Jobs.RepliesComeAfter.{on_bool, on_option}
use Rattle.sl_due_facts.proofs.Jobs.SessionsArePresent.{joined_present, present_inside}
use Rattle.sl_due_facts.proofs.Jobs.SessionsStand.{joined_then, move_joined, reply_joined}
use Rattle.sl_due_facts.proofs.AddedEffects.EffectsAreTold.{effects_are_told}
use Rattle.sl_due_facts.proofs.AddedEffects.JoinedCallsKeepOrder.{joined_is_covered}
use Rattle.sl_words.proofs.Lists.{contains_cases, contains_none, find_fails, find_inside, kept}
use Rattle.sl_words.proofs.Options.{some_there}
use Rattle.sl_due_law.proofs.Recovery.RecoveriesStart.{removed_is_not}
use Rattle.sl_due_law.proofs.Recovery.StopsConclude.{old_session}
use Rattle.sl_sector.specs.Bitmaps.{no_bits}
use Rattle.sl_sector.specs.declared.sector.DeltaState.TheVariants.{Free}
use Rattle.sl_sector.specs.declared.sector.Rec.TheVariants.{DeltaIs}
use Rattle.sl_trace.specs.DeltaDecisions.{DeltaLease, delta_known, delta_of_session, delta_record, next_free, own_offset}
use Rattle.sl_trace.specs.Sessions.{has_open_write, holdings_of, is_joined, open_calls_of, present_sessions, recovery_of, sessions}
use Rattle.sl_trace.specs.declared.delta.DeltaKnown.{DeltaKnown}
use Rattle.sl_trace.specs.declared.delta.DeltaNext.{DeltaNext}
use Rattle.sl_trace.specs.declared.delta.DeltaNext.TheVariants.{Disconnect, EndLeaving, Join, MoveConnection, Nothing, ReadOwn, RefuseJoin, RegisterAndRead, WriteClaim, WriteFirst, WriteFree, WriteRenewal}
use Rattle.sl_trace.specs.declared.session.Session.{Session}
use Rattle.sl_due_facts.specs.Facts.SessionFacts.{ConnectionFacts}
use Rattle.sl_trace.specs.WatchdogConnections.{Connection, after_move, connection_named, connections, is_registered, renewed_connection, unregisters}
use Rattle.sl_trace.specs.Traces.{Setting, Submitted, Trace, is_write, next_call, unanswered}
use Rattle.sl_trace.specs.declared.effects.Call.{Call}
use Rattle.sl_trace.specs.declared.effects.Move.{Move}
use Rattle.sl_trace.specs.declared.effects.Move.TheVariants.{Register, Renew, Unregister}
use Rattle.sl_trace.specs.declared.effects.Op.{Op}
use Rattle.sl_trace.specs.declared.effects.Op.TheVariants.{WriteRecord}
use Rattle.sl_trace.specs.declared.effects.Purpose.{Purpose}
use Rattle.sl_trace.specs.declared.effects.Purpose.TheVariants.{Leaving}
use Rattle.sl_trace.specs.declared.reply.Reply.{Reply}
use Rattle.sl_words.proofs.CaseLaws.{is_false, not_both}
use Rattle.sl_words.specs.Words.{is_empty}
use Rattle.std.proofs.Common.{ap, ap₂, inl, inr, refl, subst, sym, ◌∙◌}
use Rattle.std.proofs.lemmas.Slice.Eq.{bytes_eq-Decides}
use Rattle.std.specs.List.{list_any}
use Rattle.std.specs.Prelude.{Bool, Contains, List, None, Option, Some, [], bytes_eq, false, filter, find, if◌then◌else◌, is_some, not, option_map, true, ℕ, ◌&&◌, ◌+◌, ◌==◌, ◌||◌, ◌∷◌, ◌≡◌, ◌⊎◌}

-- ---- what comes last only removes connections and writes frees

-- A free, or nothing.
abbrev IsFreeOrNothing : DeltaNext → Type 0
IsFreeOrNothing (WriteFree j d) = Unit {0}
IsFreeOrNothing Nothing = Unit {0}
IsFreeOrNothing n = ⊥

free_only : (l : DeltaLease) (now : ℕ) (k : DeltaKnown) → IsFreeOrNothing (next_free l now k)
free_only l now k =
    on_option IsFreeOrNothing k.leaving Nothing (λ j. elim k.freed [ true ↦ Nothing | false ↦ WriteFree j (delta_record l Free k.generation (k.seq + 1) now no_bits) ]) tt
    (λ j. on_bool IsFreeOrNothing k.freed (WriteFree j (delta_record l Free k.generation (k.seq + 1) now no_bits)) Nothing tt tt)

finish_one : (K : Step → Type 0) → ((y : Step) (m : Move) → K y → K (add_move m y)) → ((y : Step) (n : ℕ) (path : List ℕ) (p : Purpose) (o : ℕ) (op : Op) → K y → K (add_call_of n path p o op y))
    → (s : Session) (z : Step) → K z → K (finish_session s z)
unfolding finish_session carry_delta
finish_one K moves calls s z h =
    when_keeps K (is_joined (seen z) s) (λ y. elim (is_some (recovery_of y.setting (seen y) s)) [ true ↦ end_if_done s y | false ↦ free_if_done s y ]) z (λ joined k. by (is_some (recovery_of z.setting (seen z) s)) k) h where
      free_by : (n : DeltaNext) → IsFreeOrNothing n → K z → K (carry_delta s n z)
      free_by (WriteFree j d) f k = calls z s.number s.path (Leaving j) (own_offset z.setting s) (WriteRecord (DeltaIs d)) k
      free_by Nothing f k = k
      free_by (RefuseJoin r) f k = absurd f
      free_by (ReadOwn step) f k = absurd f
      free_by (RegisterAndRead step) f k = absurd f
      free_by (WriteClaim d) f k = absurd f
      free_by Disconnect f k = absurd f
      free_by (WriteFirst d) f k = absurd f
      free_by (Join generation made) f k = absurd f
      free_by (MoveConnection made) f k = absurd f
      free_by (WriteRenewal d) f k = absurd f
      free_by (EndLeaving j r) f k = absurd f

      by : (b : Bool) → K z → K (elim b as (λ w. Step) [ true ↦ end_if_done s z | false ↦ free_if_done s z ])
      by true k =
          when_keeps K (is_empty (holdings_of (seen z) s) && not (has_open_write (seen z) s)) (remove_connection s.lockspace) z
          (λ done g. when_keeps K (is_registered z.setting (seen z) s.lockspace) (add_move (Unregister s.lockspace)) z (λ there f. moves z (Unregister s.lockspace) f) g) k
      by false k =
          when_keeps K (is_empty (holdings_of (seen z) s) && is_empty (open_calls_of (seen z) s)) (λ y. carry_delta s (next_free (delta_of_session y.setting s) y.reading (delta_known y.setting (seen y) s)) y) z
          (λ done g. free_by (next_free (delta_of_session z.setting s) z.reading (delta_known z.setting (seen z) s)) (free_only (delta_of_session z.setting s) z.reading (delta_known z.setting (seen z) s)) g) k

finish_all : (K : Step → Type 0) → ((y : Step) (m : Move) → K y → K (add_move m y)) → ((y : Step) (n : ℕ) (path : List ℕ) (p : Purpose) (o : ℕ) (op : Op) → K y → K (add_call_of n path p o op y))
    → (ss : List Session) (z : Step) → K z → K (for_each ss finish_session z)
finish_all K moves calls ss z h = for_each_keeps K ss finish_session z (λ s there y k. finish_one K moves calls s y k) h

-- ---- what it leaves of a session

-- A joined session's name is registered.
pub joined_registered : (st : Setting) (t : Trace) (heard : Option ℕ) (s : Session) → ConnectionFacts st t heard → Contains (sessions st t) s → is_joined t s ≡ true → is_registered st t s.lockspace ≡ true
joined_registered st t heard s h there joined = h.covers s there (joined_is_covered t s joined)

-- A joined session of before that isn't joined any more stays so.
pub gone_stays : (s : Session) (y : Step) (m : Move) → is_joined (seen y) s ≡ false → is_joined (seen (add_move m y)) s ≡ false
gone_stays s y m gone = is_false (is_joined (seen (add_move m y)) s) (λ is. not_both (is_joined (seen y) s) (move_joined y m s is) gone)

-- A write that is open stays open.
open_stays : (s : Session) (y : Step) (n : ℕ) (path : List ℕ) (p : Purpose) (o : ℕ) (op : Op) → has_open_write (seen y) s ≡ true → has_open_write (seen (add_call_of n path p o op y)) s ≡ true
open_stays s y n path p o op h = by (n == s.number) refl where
  c : Call
  c = record { number = next_call y.setting (seen y); session = n; purpose = p; path = path; offset = o; op = op }

  by : (b : Bool) → (n == s.number) ≡ b → has_open_write (seen (add_call_of n path p o op y)) s ≡ true
  by false other = ap (λ ms. list_any (λ (m : Submitted). is_write m.call.op) (unanswered ms)) (effects_are_told.other_calls c (entry_of y) y.past s other) ∙ h
  by true mine =
      ap (λ ms. list_any (λ (m : Submitted). is_write m.call.op) (unanswered ms)) (effects_are_told.calls c (entry_of y) y.past s mine) ∙ (ap (λ b. is_write op || b) h ∙ over (is_write op))
    where
      over : (b : Bool) → (b || true) ≡ true
      over true = refl
      over false = refl

-- Registered as long as it is joined.
abbrev pub StaysRegistered : Session → Step → Type 0
StaysRegistered s z = (is_joined z.past s ≡ true) × ((is_registered z.setting (seen z) s.lockspace ≡ true) ⊎ (is_joined (seen z) s ≡ false))

named_after : (cs : List Connection) (name : List ℕ) (m : Move) → unregisters name m ≡ false → is_some (connection_named cs name) ≡ true → is_some (connection_named (after_move cs m) name) ≡ true
named_after cs name (Register other expiry) none h =
    let c = some_there (connection_named cs name) h in
    ap (λ o. is_some o) (found_before (λ (d : Connection). bytes_eq d.name name) cs (record { name = other; expiry = expiry } ∷ []) c.0 c.1)
named_after cs name (Renew other expiry) none h =
    ap (λ o. is_some o) (find_mapped (λ (d : Connection). bytes_eq d.name name) (renewed_connection other expiry) cs (λ d. same d)) ∙ mapped (connection_named cs name) h
  where
    same : (d : Connection) → bytes_eq (renewed_connection other expiry d).name name ≡ bytes_eq d.name name
    same d = by (bytes_eq d.name other) where
      by : (b : Bool) → bytes_eq (if b then record d { expiry = expiry } else d).name name ≡ bytes_eq d.name name
      by true = refl
      by false = refl

    mapped : (o : Option Connection) → is_some o ≡ true → is_some (option_map (renewed_connection other expiry) o) ≡ true
    mapped (Some d) k = refl
    mapped None k = k
named_after cs name (Unregister other) none h =
    let c = some_there (connection_named cs name) h in
    let found = find_inside (λ (d : Connection). bytes_eq d.name name) cs c.0 c.1 in
    let stays : Contains (filter (λ (d : Connection). not (bytes_eq d.name other)) cs) c.0 = kept (λ (d : Connection). not (bytes_eq d.name other)) cs c.0 (apart c.0 found.1) found.0 in
    by (find (λ (d : Connection). bytes_eq d.name name) (filter (λ (d : Connection). not (bytes_eq d.name other)) cs)) refl c.0 found.1 stays
  where
    apart : (d : Connection) → bytes_eq d.name name ≡ true → not (bytes_eq d.name other) ≡ true
    apart d is =
        ap (λ b. not b) (is_false (bytes_eq d.name other) (λ same.
        let one : d.name ≡ name = (bytes_eq-Decides d.name name).0 is in
        let two : d.name ≡ other = (bytes_eq-Decides d.name other).0 same in
        not_both (bytes_eq other name) ((bytes_eq-Decides other name).1 (sym two ∙ one)) none))

    by : (o : Option Connection) → find (λ (d : Connection). bytes_eq d.name name) (filter (λ (d : Connection). not (bytes_eq d.name other)) cs) ≡ o → (d : Connection) → bytes_eq d.name name ≡ true
        → Contains (filter (λ (k : Connection). not (bytes_eq k.name other)) cs) d → is_some (find (λ (k : Connection). bytes_eq k.name name) (filter (λ (k : Connection). not (bytes_eq k.name other)) cs)) ≡ true
    by (Some e) found d is there = ap (λ o. is_some o) found
    by None found d is there = absurd (not_both (bytes_eq d.name name) is (find_fails (λ (k : Connection). bytes_eq k.name name) (filter (λ (k : Connection). not (bytes_eq k.name other)) cs) d found there))

registered_move : (s : Session) (y : Step) (m : Move) → StaysRegistered s y → StaysRegistered s (add_move m y)
registered_move s y m h = (h.0, by h.1 (unregisters s.lockspace m) refl) where
  by : (is_registered y.setting (seen y) s.lockspace ≡ true) ⊎ (is_joined (seen y) s ≡ false) → (b : Bool) → unregisters s.lockspace m ≡ b
      → (is_registered y.setting (seen (add_move m y)) s.lockspace ≡ true) ⊎ (is_joined (seen (add_move m y)) s ≡ false)
  by (inr gone) b is = inr (gone_stays s y m gone)
  by (inl there) false is =
      inl (ap (λ cs. is_some (connection_named cs s.lockspace)) (effects_are_told.moves y.setting m (entry_of y) y.past) ∙ named_after (connections y.setting (seen y)) s.lockspace m is there)
  by (inl there) true is = inr (removed_is_not (entry_of (add_move m y)) y.past s h.0 (any_last (unregisters s.lockspace) y.effects.moves m is))

pub registered_plainly : (s : Session) → Plainly (StaysRegistered s)
unfolding carry_decision
registered_plainly s =
    record {
      effects = record {
        ends = λ x e h. h;
        signals = λ x q g h. h;
        moves = λ x m h. registered_move s x m h;
        grants = λ x k h. h;
        starts = λ x k h. h;
        replies = λ x j r h. (h.0, by x j r h);
        calls = λ x z path q o op has h. h;
      };
      inputs = λ x i wake bare h. h;
      begins = λ x text k n a wake bare says is h. h;
    } where
      by : (x : Step) (j : ℕ) (r : Reply) → StaysRegistered s x → (is_registered x.setting (seen (add_reply j r x)) s.lockspace ≡ true) ⊎ (is_joined (seen (add_reply j r x)) s ≡ false)
      by x j r h = elim h.1 [ inl there ↦ inl there | inr gone ↦ inr (reply_joined x j r s (joined_then x.past s h.0) ∙ gone) ]

-- ---- a session with nothing left ends

-- What is asked of it at the end.
record NothingLeft (y : Step) (s : Session) : Type 0 where
  recovers : is_some (recovery_of y.setting (seen y) s) ≡ true
  empty : holdings_of (seen y) s ≡ []
  written : has_open_write (seen y) s ≡ false

-- It had nothing left before either.
left_before : (ss : List Session) (z : Step) (s : Session) → NothingLeft (for_each ss finish_session z) s → NothingLeft z s
left_before ss z s h =
    record {
      recovers = ap (λ o. is_some o) (sym (finish_all (λ y. recovery_of y.setting (seen y) s ≡ recovery_of z.setting (seen z) s) (λ y m k. k) (λ y n path p o op k. k) ss z refl)) ∙ h.recovers;
      empty = sym (finish_all (λ y. holdings_of (seen y) s ≡ holdings_of (seen z) s) (λ y m k. k) (λ y n path p o op k. k) ss z refl) ∙ h.empty;
      written = is_false (has_open_write (seen z) s) (λ is. not_both (has_open_write (seen (for_each ss finish_session z)) s) (finish_all (λ y. has_open_write (seen y) s ≡ true) (λ y m k. k) (λ y n path p o op k. open_stays s y n path p o op k) ss z is) h.written);
    }

ended_here : (z : Step) (s : Session) → StaysRegistered s z → NothingLeft z s → is_joined (seen (finish_session s z)) s ≡ false
unfolding finish_session
ended_here z s r h = by (is_joined (seen z) s) refl where
  done : (is_empty (holdings_of (seen z) s) && not (has_open_write (seen z) s)) ≡ true
  done = ap₂ (λ gs b. is_empty gs && not b) h.empty h.written

  gone : is_registered z.setting (seen z) s.lockspace ≡ true → is_joined (seen (when (is_registered z.setting (seen z) s.lockspace) (add_move (Unregister s.lockspace)) z)) s ≡ false
  gone there =
      subst (λ b. is_joined (seen (when b (add_move (Unregister s.lockspace)) z)) s ≡ false) (sym there)
      (removed_is_not (entry_of (add_move (Unregister s.lockspace) z)) z.past s r.0 (any_last (unregisters s.lockspace) z.effects.moves (Unregister s.lockspace) ((bytes_eq-Decides s.lockspace s.lockspace).1 refl)))

  by : (b : Bool) → is_joined (seen z) s ≡ b → is_joined (seen (when b (λ y. elim (is_some (recovery_of y.setting (seen y) s)) [ true ↦ end_if_done s y | false ↦ free_if_done s y ]) z)) s ≡ false
  by false is = is
  by true is =
      subst (λ b. is_joined (seen (elim b as (λ w. Step) [ true ↦ end_if_done s z | false ↦ free_if_done s z ])) s ≡ false) (sym h.recovers)
      (subst (λ b. is_joined (seen (when b (remove_connection s.lockspace) z)) s ≡ false) (sym done)
      (elim r.1 [ inl there ↦ gone there | inr over ↦ absurd (not_both (is_joined (seen z) s) is over) ]))

each_ended : (ss : List Session) (z : Step) (s : Session) → Contains ss s → StaysRegistered s z → NothingLeft (for_each ss finish_session z) s → is_joined (seen (for_each ss finish_session z)) s ≡ false
each_ended [] z s there r h = absurd (contains_none s there)
each_ended (t ∷ ss) z s there r h =
    by (contains_cases t ss s there) (λ old. each_ended ss (finish_session t z) s old (finish_one (StaysRegistered s) (λ y m k. registered_move s y m k) (λ y n path p o op k. k) t z r) h) where
      by : (t ≡ s) ⊎ Contains ss s → (Contains ss s → is_joined (seen (for_each ss finish_session (finish_session t z))) s ≡ false) → is_joined (seen (for_each ss finish_session (finish_session t z))) s ≡ false
      by (inr old) more = more old
      by (inl is) more =
          finish_all (λ y. is_joined (seen y) s ≡ false) (λ y m k. gone_stays s y m k) (λ y n path p o op k. k) ss (finish_session t z)
          (subst (λ q. is_joined (seen (finish_session q z)) s ≡ false) (sym is) (ended_here z s r (left_before (s ∷ ss) z s (subst (λ q. NothingLeft (for_each ss finish_session (finish_session q z)) s) is h))))

-- So at the end of a step no session in recovery with nothing left is joined.
pub finish_ends : (x : Step) (s : Session) → Contains (sessions x.setting x.past) s → StaysRegistered s x → is_some (recovery_of (finish x).setting (seen (finish x)) s) ≡ true → holdings_of (seen (finish x)) s ≡ []
    → has_open_write (seen (finish x)) s ≡ false → is_joined (seen (finish x)) s ≡ false
unfolding finish
finish_ends x s there r recovers_one empty written = by (is_joined (seen x) s) refl where
  by : (b : Bool) → is_joined (seen x) s ≡ b → is_joined (seen (for_each (present_sessions x.setting (seen x)) finish_session x)) s ≡ false
  by false is = finish_all (λ y. is_joined (seen y) s ≡ false) (λ y m k. gone_stays s y m k) (λ y n path p o op k. k) (present_sessions x.setting (seen x)) x is
  by true is =
      each_ended (present_sessions x.setting (seen x)) x s (present_inside x.setting (seen x) s (old_session x s there) (joined_present (seen x) s is)) r
      (record { recovers = recovers_one; empty = empty; written = written })
