-- What a delta lease decides leaves what the laws of areas, blocks and leaders ask of the calls before.
use Rattle.sl_run_law.proofs.Place.FoundInLists.{same_text}
use Rattle.sl_due_facts.proofs.Acts.AddedAtEnd.{contains_at}
use Rattle.sl_due_facts.proofs.Acts.LoopsKeep.{when_keeps, with_some_keeps}
use Rattle.sl_due_facts.specs.Acts.Acts.{Has}
use Rattle.sl_due_facts.specs.Acts.TraceSoFar.{entry_of}
use Rattle.sl_due.specs.CarriedDelta.{carry_delta, for_joining, move_connection, read_own_sector, register, survey, write_own_sector}
use Rattle.sl_due.specs.DueTimeOuts.{refuse, remove_connection, remove_of_refused}
use Rattle.sl_due.specs.Steps.{Step, add_call_of, add_move, add_reply, seen}
use Rattle.sl_run.specs.LawfulArea.{is_area_work, is_delta_record}
use Rattle.sl_run.specs.LawForms.{cut_at}
use Rattle.sl_due_leases.proofs.Leases.LawsStay.{A_wake, Spares, calls_stay, moves_stay, replies_stay}
use Rattle.sl_due_leases.proofs.Leases.OthersKeep.{IsOther, LawfulSoFar, Others, other_is_lawful, other_more}
use Rattle.sl_due_leases.proofs.Ways.WayFactsHeld.EffectsLeave.{made_call, there_has}
use Rattle.sl_due_leases.proofs.Ways.WayFactsHeld.LeaseNextsLeave.{IsLate}
use Rattle.sl_due_leases.proofs.Ways.WayFactsHeld.PlainWalks.{DeltaFits}
use Rattle.sl_due_facts.proofs.AddedEffects.CallsGrow.{same_sessions}
use Rattle.sl_sector.specs.declared.sector.DeltaRec.{DeltaRec}
use Rattle.sl_sector.specs.declared.sector.Rec.TheVariants.{DeltaIs}
use Rattle.sl_sector.specs.declared.sector.Rec.{Rec}
use Rattle.sl_trace.specs.DeltaDecisions.{DeltaLease, delta_record, is_renewal_due, next_free, next_renewal, own_offset}
use Rattle.sl_trace.specs.Sessions.{has_open_write, is_join_call, is_join_done, leaving_job, is_joined, is_present, joined_after, present_sessions, recovery_of, refused_after, removed_after, session_numbered, session_of_job, sessions}
use Rattle.sl_trace.specs.declared.delta.DeltaNext.TheVariants.{Disconnect, EndLeaving, Join, MoveConnection, Nothing, ReadOwn, RefuseJoin, RegisterAndRead, WriteClaim, WriteFirst, WriteFree, WriteRenewal}
use Rattle.sl_trace.specs.declared.delta.DeltaNext.{DeltaNext}
use Rattle.sl_sector.specs.Bitmaps.{no_bits}
use Rattle.sl_trace.specs.declared.session.Begun.{Begun}
use Rattle.sl_trace.specs.declared.session.Session.{Session}
use Rattle.sl_trace.specs.declared.delta.DeltaKnown.{DeltaKnown}
use Rattle.sl_due_facts.specs.Facts.SessionFacts.{NameFacts}
use Rattle.sl_due_facts.specs.Facts.HeardCall.{heard_by}
use Rattle.sl_time.specs.Times.{fail}
use Rattle.sl_trace.specs.WatchdogConnections.{is_registered, unregisters}
use Rattle.sl_trace.specs.Traces.{Replied, Setting, Trace, is_running, reply_to}
use Rattle.sl_trace.specs.declared.effects.Call.{Call}
use Rattle.sl_trace.specs.declared.effects.JoinStep.TheVariants.{ClaimWrite, FirstRead, FirstRenewal}
use Rattle.sl_trace.specs.declared.effects.Move.TheVariants.{Register, Renew, Unregister}
use Rattle.sl_trace.specs.declared.effects.Move.{Move}
use Rattle.sl_trace.specs.declared.effects.Op.TheVariants.{ReadSectors, WriteRecord}
use Rattle.sl_trace.specs.declared.effects.Op.{Op}
use Rattle.sl_trace.specs.declared.effects.Purpose.TheVariants.{Joining, Leaving, Renewal, SeeRequest, Survey}
use Rattle.sl_trace.specs.declared.effects.Purpose.{Purpose}
use Rattle.sl_trace.specs.declared.input.Input.TheVariants.{Wake}
use Rattle.sl_trace.specs.declared.reply.Reply.TheVariants.{Generation}
use Rattle.sl_trace.specs.declared.reply.Reply.{Reply}
use Rattle.sl_words.proofs.Lists.{contains_cases, contains_first, contains_more, contains_none, find_inside, kept}
use Rattle.sl_words.proofs.CaseLaws.{false_is_true, is_false, none_some, some_value, true_is_false}
use Rattle.sl_words.specs.Orders.{is_text_before, put_in}
use Rattle.sl_words.proofs.Options.{none_is}
use Rattle.sl_words.specs.Words.{choose, some_is}
use Rattle.sl_sector.specs.declared.sector.DeltaState.TheVariants.{Free, Live}
use Rattle.std.proofs.Common.{ap, eqb-true, inl, inr, refl, subst, sym, ◌∙◌}
use Rattle.std.proofs.lemmas.List.Elements.{Contains-push_cases}
use Rattle.std.specs.Prelude.{Bool, Contains, List, None, Option, Some, [], bytes_eq, false, filter, fold, if◌then◌else◌, is_none, is_some, not, option_and_then, slice_get, true, ℕ, ◌&&◌, ◌+◌, ◌==◌, ◌||◌, ◌∷◌, ◌≡◌, ◌⊎◌}

-- ---- such calls

is_see : Purpose → Bool
is_see SeeRequest = true
is_see p = false

unseen_by : (p : Purpose) → is_see p ≡ false → p ≡ SeeRequest → ⊥
unfolding is_see
unseen_by p unseen is = true_is_false (sym (ap (λ q. is_see q) is) ∙ unseen)

read_other : (p : Purpose) (n : ℕ) → is_area_work p ≡ false → is_see p ≡ false → IsOther p (ReadSectors n)
read_other p n plain unseen = record { plain = plain; unseen = unseen_by p unseen; delta = λ r is. absurd (none_some r is) }

write_other : (p : Purpose) (d : DeltaRec) → is_area_work p ≡ false → is_see p ≡ false → IsOther p (WriteRecord (DeltaIs d))
write_other p d plain unseen = record { plain = plain; unseen = unseen_by p unseen; delta = λ r is. subst (λ (z : Rec). is_delta_record z ≡ true) (some_value (DeltaIs d) r is) refl }

pub first_other : (j : ℕ) → IsOther (Joining j FirstRead) (ReadSectors 1)
unfolding is_see
first_other j = read_other (Joining j FirstRead) 1 refl refl

-- A session whose joining is the same job's.
abbrev pub SharesJob : Step → Session → Session → Type 0
SharesJob x s z = (z.job ≡ s.job) × Contains (sessions x.setting (seen x)) z

-- What such effects keep.
pub record ByDelta (K : Step → Type 0) (s : Session) : Type 0 where
  pub calls : (x : Step) (path : List ℕ) (p : Purpose) (o : ℕ) (op : Op) → Has x s → is_join_call FirstRead p ≡ false → IsOther p op → K x → K (add_call_of s.number path p o op x)
  pub moves : (x : Step) (m : Move) → ((name : List ℕ) → unregisters name m ≡ false) → K x → K (add_move m x)
  pub removes : (x : Step) (z : Session) → SharesJob x s z → K x → K (add_move (Unregister z.lockspace) x)
  pub replies : (x : Step) (j : ℕ) (r : Reply) → K x → K (add_reply j r x)

removal_by : (K : Step → Type 0) (s : Session) → ByDelta K s → (y : Step) (z : Session) → SharesJob y s z → K y → K (remove_connection z.lockspace y)
removal_by K s p y z shares h = when_keeps K (is_registered y.setting (seen y) z.lockspace) (add_move (Unregister z.lockspace)) y (λ is k. p.removes y z shares k) h

removal_of_refused_by : (K : Step → Type 0) (s : Session) → ByDelta K s → (y : Step) (z : Session) → SharesJob y s z → K y → K (remove_of_refused z y)
removal_of_refused_by K s p y z shares h =
    when_keeps K (is_some (refused_after (seen y) z) && not (has_open_write (seen y) z)) (remove_connection z.lockspace) y (λ is k. removal_by K s p y z shares k) h

of_job : (o : Option ℕ) (j : ℕ) → some_is (λ n. n == j) o ≡ true → o ≡ Some j
of_job None j is = absurd (false_is_true is)
of_job (Some n) j is = ap (λ k. Some k) (eqb-true n j is)

refusal_by : (K : Step → Type 0) (s : Session) → ByDelta K s → (y : Step) (j : ℕ) (r : Reply) → s.job ≡ Some j → K y → K (refuse j r y)
unfolding refuse
refusal_by K s p y j r its h =
    with_some_keeps K (session_of_job y.setting (seen y) j) remove_of_refused (add_reply j r y)
    (λ z is k.
    let found = find_inside (λ (z : Session). some_is (λ n. n == j) z.job) (sessions y.setting (seen y)) z is in
    removal_of_refused_by K s p (add_reply j r y) z (of_job z.job j found.1 ∙ sym its, found.0) k) (p.replies y j r h)

joining : (K : Step → Type 0) (y : Step) (s : Session) (f : ℕ → Step → Step) → ((j : ℕ) → s.job ≡ Some j → K y → K (f j y)) → K y → K (for_joining s f y)
joining K y s f keeps h = with_some_keeps K s.job f y (λ j is k. keeps j is k) h

pub delta_by : (K : Step → Type 0) (s : Session) → ByDelta K s → (y : Step) → Has y s → (n : DeltaNext) → DeltaFits IsLate y s n → K y → K (carry_delta s n y)
unfolding carry_delta is_see
delta_by K s p y has Nothing fits h = h
delta_by K s p y has (RefuseJoin r) fits h = joining K y s (λ j. refuse j r) (λ j its k. refusal_by K s p y j r its k) h
delta_by K s p y has (ReadOwn step) fits h =
    joining K y s (λ j. read_own_sector s (Joining j step)) (λ j its k. p.calls y s.path (Joining j step) (own_offset y.setting s) (ReadSectors 1) has fits (read_other (Joining j step) 1 refl refl) k) h
delta_by K s p y has (RegisterAndRead step) fits h =
    joining K y s (λ j z. read_own_sector s (Joining j step) (register s z))
    (λ j its k. p.calls (register s y) s.path (Joining j step) (own_offset y.setting s) (ReadSectors 1) has fits (read_other (Joining j step) 1 refl refl) (p.moves y (Register s.lockspace (y.reading + fail y.setting.timing)) (λ name. refl) k)) h
delta_by K s p y has (WriteClaim d) fits h =
    joining K y s (λ j. write_own_sector s (Joining j ClaimWrite) d) (λ j its k. p.calls y s.path (Joining j ClaimWrite) (own_offset y.setting s) (WriteRecord (DeltaIs d)) has refl (write_other (Joining j ClaimWrite) d refl refl) k) h
delta_by K s p y has Disconnect fits h = removal_by K s p y s (refl, there_has y.setting (seen y) s.number s has) h
delta_by K s p y has (WriteFirst d) fits h =
    joining K y s (λ j. write_own_sector s (Joining j FirstRenewal) d) (λ j its k. p.calls y s.path (Joining j FirstRenewal) (own_offset y.setting s) (WriteRecord (DeltaIs d)) has refl (write_other (Joining j FirstRenewal) d refl refl) k) h
delta_by K s p y has (Join generation renewed) fits h =
    joining K y s (λ j z. survey s (add_reply j (Generation generation) (move_connection s renewed z)))
    (λ j its k. p.calls (add_reply j (Generation generation) (move_connection s renewed y)) s.path Survey s.offset (ReadSectors y.setting.layout.hosts) has refl
    (read_other Survey y.setting.layout.hosts refl refl)
    (p.replies (move_connection s renewed y) j (Generation generation) (p.moves y (Renew s.lockspace (renewed + fail y.setting.timing)) (λ name. refl) k))) h
delta_by K s p y has (MoveConnection renewed) fits h =
    p.calls (move_connection s renewed y) s.path Survey s.offset (ReadSectors y.setting.layout.hosts) has refl (read_other Survey y.setting.layout.hosts refl refl)
    (p.moves y (Renew s.lockspace (renewed + fail y.setting.timing)) (λ name. refl) h)
delta_by K s p y has (WriteRenewal d) fits h = p.calls y s.path Renewal (own_offset y.setting s) (WriteRecord (DeltaIs d)) has refl (write_other Renewal d refl refl) h
delta_by K s p y has (WriteFree j d) fits h = p.calls y s.path (Leaving j) (own_offset y.setting s) (WriteRecord (DeltaIs d)) has refl (write_other (Leaving j) d refl refl) h
delta_by K s p y has (EndLeaving j r) fits h =
    when_keeps K (is_running (seen y) j) (add_reply j r) (remove_connection s.lockspace y) (λ is k. p.replies (remove_connection s.lockspace y) j r k) (removal_by K s p y s (refl, there_has y.setting (seen y) s.number s has) h)

-- Where all calls of the entry are such others, what it decides leaves that.
pub others_by_delta : (s : Session) → ByDelta Others s
others_by_delta s =
    record {
      calls = λ x path p o op has later other h. other_more x s.number path p o op other h;
      moves = λ x m spares h. h;
      removes = λ x z shares h. h;
      replies = λ x j r h. h;
    }

-- ---- on a wake

pub other_stays : (x : Step) (s : Session) (path : List ℕ) (p : Purpose) (o : ℕ) (op : Op) → Has x s → is_join_call FirstRead p ≡ false → IsOther p op → LawfulSoFar x → LawfulSoFar (add_call_of s.number path p o op x)
other_stays x s path p o op has later other h = calls_stay x s path p o op has later (other_is_lawful x.setting (seen x) s _ other) h

pub renewals_stay : (x : Step) (s : Session) → Has x s → (l : DeltaLease) (now : ℕ) (k : DeltaKnown) (bits : List ℕ) → LawfulSoFar x → LawfulSoFar (carry_delta s (next_renewal l now k bits) x)
unfolding carry_delta next_renewal is_see
renewals_stay x s has l now k bits h = by (is_renewal_due l now k) where
  by : (b : Bool) → LawfulSoFar (carry_delta s (elim b as (λ z. DeltaNext) [ false ↦ Nothing | true ↦ WriteRenewal (delta_record l Live k.generation (k.seq + 1) now bits) ]) x)
  by false = h
  by true = other_stays x s s.path Renewal (own_offset x.setting s) (WriteRecord (DeltaIs (delta_record l Live k.generation (k.seq + 1) now bits))) has refl (write_other Renewal _ refl refl) h

pub frees_stay : (x : Step) (s : Session) → Has x s → (l : DeltaLease) (now : ℕ) (k : DeltaKnown) → LawfulSoFar x → LawfulSoFar (carry_delta s (next_free l now k) x)
unfolding carry_delta is_see
frees_stay x s has l now k h = by k.leaving k.freed where
  by : (o : Option ℕ) (b : Bool) → LawfulSoFar (carry_delta s (elim o as (λ z. DeltaNext) [ None ↦ Nothing | Some j ↦ elim b as (λ z. DeltaNext) [ true ↦ Nothing | false ↦ WriteFree j (delta_record l Free k.generation (k.seq + 1) now no_bits) ] ]) x)
  by None b = h
  by (Some j) true = h
  by (Some j) false = other_stays x s s.path (Leaving j) (own_offset x.setting s) (WriteRecord (DeltaIs (delta_record l Free k.generation (k.seq + 1) now no_bits))) has refl (write_other (Leaving j) _ refl refl) h

-- What a joining's wake keeps: none that works on an area loses its connection by the refusal.
pub record IsSpared (s : Session) (x : Step) : Type 0 where
  pub lawful : LawfulSoFar x
  pub wake : x.input ≡ Wake
  pub spares : (z : Session) → SharesJob x s z → Spares x (Unregister z.lockspace)

spared_call : (x : Step) (s : Session) (path : List ℕ) (p : Purpose) (o : ℕ) (op : Op) → is_join_call FirstRead p ≡ false → is_area_work p ≡ false → (m : Move) → Spares x m → Spares (add_call_of s.number path p o op x) m
spared_call x s path p o op later plain m spares c z there area its =
    by (Contains-push_cases x.effects.calls (made_call x s.number path p o op) c there) where
      same : session_numbered x.setting (seen (add_call_of s.number path p o op x)) c.session ≡ session_numbered x.setting (seen x) c.session
      same = ap (λ ss. slice_get ss c.session) (same_sessions x.setting (entry_of x) x.past (made_call x s.number path p o op) later)

      by : Contains x.effects.calls c ⊎ (made_call x s.number path p o op ≡ c) → unregisters z.lockspace m ≡ false
      by (inl old) = spares c z old area (sym same ∙ its)
      by (inr new) = absurd (true_is_false (sym area ∙ (ap (λ (d : Call). is_area_work d.purpose) (sym new) ∙ plain)))

pub spared_by_delta : (s : Session) → ByDelta (IsSpared s) s
spared_by_delta s =
    record {
      calls = λ x path p o op has later other h. record {
        lawful = other_stays x s path p o op has later other h.lawful;
        wake = h.wake;
        spares = λ z shares. spared_call x s path p o op later other.plain (Unregister z.lockspace)
            (h.spares z (shares.0, subst (λ ss. Contains ss z) (same_sessions x.setting (entry_of x) x.past (made_call x s.number path p o op) later) shares.1));
      };
      moves = λ x m none h. record { lawful = moves_stay x m (λ c z there area its. none z.lockspace) h.lawful; wake = h.wake; spares = h.spares };
      removes = λ x z shares h. record { lawful = moves_stay x (Unregister z.lockspace) (h.spares z shares) h.lawful; wake = h.wake; spares = h.spares };
      replies = λ x j r h. record { lawful = replies_stay x j r (A_wake h.wake) h.lawful; wake = h.wake; spares = h.spares };
    }

-- ---- whom a removal spares

put_inside : {A : Type 0} (before : A → A → Bool) (x : A) (ys : List A) (d : A) → (x ≡ d) ⊎ Contains ys d → Contains (put_in before x ys) d
put_inside before x [] d (inl is) = subst (λ z. Contains (x ∷ []) z) is (contains_first x [])
put_inside before x [] d (inr there) = absurd (contains_none d there)
put_inside {A} before x (y ∷ ys) d there = by (before x y) (λ k. put_inside before x ys d k) there where
  deeper : ((x ≡ d) ⊎ Contains ys d → Contains (put_in before x ys) d) → (x ≡ d) ⊎ Contains (y ∷ ys) d → Contains (y ∷ put_in before x ys) d
  deeper more (inl is) = contains_more y (put_in before x ys) d (more (inl is))
  deeper more (inr old) = elim (contains_cases y ys d old) [
    | inl is ↦ subst (λ z. Contains (y ∷ put_in before x ys) z) is (contains_first y (put_in before x ys))
    | inr rest ↦ contains_more y (put_in before x ys) d (more (inr rest))
  ]

  by : (b : Bool) → ((x ≡ d) ⊎ Contains ys d → Contains (put_in before x ys) d) → (x ≡ d) ⊎ Contains (y ∷ ys) d → Contains (if b then x ∷ y ∷ ys else y ∷ put_in before x ys) d
  by true more (inl is) = subst (λ z. Contains (x ∷ y ∷ ys) z) is (contains_first x (y ∷ ys))
  by true more (inr old) = contains_more x (y ∷ ys) d old
  by false more where_is = deeper more where_is

order_inside : {A : Type 0} (before : A → A → Bool) (xs sorted : List A) (d : A) → Contains xs d ⊎ Contains sorted d → Contains (fold (λ ys x. put_in before x ys) sorted xs) d
order_inside before [] sorted d (inl none) = absurd (contains_none d none)
order_inside before [] sorted d (inr there) = there
order_inside {A} before (x ∷ xs) sorted d there = order_inside before xs (put_in before x sorted) d (by there) where
  by : Contains (x ∷ xs) d ⊎ Contains sorted d → Contains xs d ⊎ Contains (put_in before x sorted) d
  by (inr old) = inr (put_inside before x sorted d (inr old))
  by (inl new) = elim (contains_cases x xs d new) [ inl is ↦ inr (put_inside before x sorted d (inl is)) | inr rest ↦ inl rest ]

abbrev named_before : Session → Session → Bool
named_before a b = is_text_before a.lockspace b.lockspace

present_inside : (st : Setting) (t : Trace) (s : Session) → Contains (sessions st t) s → is_present t s ≡ true → Contains (present_sessions st t) s
present_inside st t s there is = order_inside named_before (filter (is_present t) (sessions st t)) [] s (inl (kept (is_present t) (sessions st t) s is there))

-- A joined session is present.
joined_present : (t : Trace) (s : Session) → is_joined t s ≡ true → is_present t s ≡ true
joined_present t s is = by (joined_after t s) (removed_after t s) (refused_after t s) is where
  by : (joined removed refused : Option ℕ) → (is_some joined && is_none removed) ≡ true
      → (is_none (elim joined as (λ z. Option ℕ) [ Some k ↦ removed | None ↦ refused ]) || is_none joined && has_open_write t s) ≡ true
  by (Some k) None refused h = refl
  by (Some k) (Some i) refused h = absurd (false_is_true h)
  by None removed refused h = absurd (false_is_true h)

parts_of : (a b c d : Bool) → ((a && b) && c && d) ≡ true → ((a && b) ≡ true) × (c ≡ true)
parts_of true true true true is = (refl, refl)
parts_of true true true false is = absurd (false_is_true is)
parts_of true true false d is = absurd (false_is_true is)
parts_of true false c d is = absurd (false_is_true is)
parts_of false b c d is = absurd (false_is_true is)

-- Who calls work on an area in the entry has joined, and isn't in recovery.
pub caller_stands : (x : Step) → LawfulSoFar x → (c : Call) (z : Session) → Contains x.effects.calls c → is_area_work c.purpose ≡ true → session_numbered x.setting (seen x) c.session ≡ Some z
    → (is_joined (seen x) z ≡ true) × (is_none (recovery_of x.setting (seen x) z) ≡ true)
caller_stands x h c z there area its =
    let k = contains_at x.effects.calls c there in
    let active = (h k.0 c z k.1 its).active area in
    parts_of (is_some (joined_after (seen x) z)) (is_none (removed_after (seen x) z)) (is_none (recovery_of x.setting (seen x) z)) (is_none (leaving_job x.setting (cut_at k.0 (entry_of x) ∷ x.past) z)) active

-- The removal of another present session spares them.
pub spares_by : (x : Step) (s : Session) → LawfulSoFar x → NameFacts x.setting (seen x) (heard_by x.input) → Contains (sessions x.setting (seen x)) s → is_present (seen x) s ≡ true
    → ((is_joined (seen x) s ≡ true) → (is_none (recovery_of x.setting (seen x) s) ≡ true) → ⊥) → Spares x (Unregister s.lockspace)
spares_by x s h names inside present other c z there area its = is_false (bytes_eq s.lockspace z.lockspace) (λ is.
    let stands = caller_stands x h c z there area its in
    let same : s ≡ z =
    names.apart s z (present_inside x.setting (seen x) s inside present)
    (present_inside x.setting (seen x) z (there_has x.setting (seen x) c.session z its) (joined_present (seen x) z stands.0)) (same_text s.lockspace z.lockspace is)
    in
    other (subst (λ y. is_joined (seen x) y ≡ true) (sym same) stands.0) (subst (λ y. is_none (recovery_of x.setting (seen x) y) ≡ true) (sym same) stands.1))

-- A joining that runs has neither joined nor been refused.
running_joins : (t : Trace) (s : Session) (j : ℕ) → s.job ≡ Some j → is_running t j ≡ true → (joined_after t s ≡ None) × (refused_after t s ≡ None)
running_joins t s j its runs =
    let none : reply_to t j ≡ None = none_is (reply_to t j) runs in (
      ap (λ o. elim o as (λ z. Option ℕ) [ None ↦ Some 0 | Some k ↦ option_and_then (λ (r : Replied). choose (is_join_done r.reply) (r.at + 1)) (reply_to t k) ]) its
          ∙ ap (λ o. option_and_then (λ (r : Replied). choose (is_join_done r.reply) (r.at + 1)) o) none,
      ap (λ o. elim o as (λ z. Option ℕ) [ None ↦ None | Some k ↦ option_and_then (λ (r : Replied). choose (not (is_join_done r.reply)) (r.at + 1)) (reply_to t k) ]) its
          ∙ ap (λ o. option_and_then (λ (r : Replied). choose (not (is_join_done r.reply)) (r.at + 1)) o) none,
    )

unjoined_present : (t : Trace) (s : Session) → joined_after t s ≡ None → refused_after t s ≡ None → is_present t s ≡ true
unjoined_present t s none unrefused = by (joined_after t s) (refused_after t s) none unrefused where
  by : (joined refused : Option ℕ) → joined ≡ None → refused ≡ None → (is_none (elim joined as (λ z. Option ℕ) [ Some k ↦ removed_after t s | None ↦ refused ]) || is_none joined && has_open_write t s) ≡ true
  by None None j r = refl
  by None (Some k) j r = absurd (none_some k (sym r))
  by (Some k) refused j r = absurd (none_some k (sym j))

unjoined : (t : Trace) (s : Session) → joined_after t s ≡ None → is_joined t s ≡ true → ⊥
unjoined t s none is = false_is_true (sym (ap (λ o. is_some o && is_none (removed_after t s)) none) ∙ is)

-- A joining that wakes spares them.
pub joining_spares : (x : Step) (s : Session) (j : ℕ) → LawfulSoFar x → NameFacts x.setting (seen x) (heard_by x.input) → x.input ≡ Wake → s.job ≡ Some j → is_running (seen x) j ≡ true → IsSpared s x
joining_spares x s j h names wake its runs =
    record {
      lawful = h;
      wake = wake;
      spares = λ z shares.
          let stands = running_joins (seen x) z j (shares.0 ∙ its) runs in
          spares_by x z h names shares.1 (unjoined_present (seen x) z stands.0 stands.1) (λ joined well. unjoined (seen x) z stands.0 joined);
    }

-- So does a session in recovery that parts.
pub parting_stays : (x : Step) (s : Session) → Has x s → is_joined (seen x) s ≡ true → is_some (recovery_of x.setting (seen x) s) ≡ true → NameFacts x.setting (seen x) (heard_by x.input) → LawfulSoFar x
    → LawfulSoFar (remove_connection s.lockspace x)
parting_stays x s has joined recovers names h =
    when_keeps LawfulSoFar (is_registered x.setting (seen x) s.lockspace) (add_move (Unregister s.lockspace)) x
    (λ is k. moves_stay x (Unregister s.lockspace)
    (spares_by x s h names (there_has x.setting (seen x) s.number s has) (joined_present (seen x) s joined) (λ j well. some_none (recovery_of x.setting (seen x) s) recovers well)) k) h
  where
    some_none : (o : Option Begun) → is_some o ≡ true → is_none o ≡ true → ⊥
    some_none None some none = false_is_true some
    some_none (Some b) some none = false_is_true none
