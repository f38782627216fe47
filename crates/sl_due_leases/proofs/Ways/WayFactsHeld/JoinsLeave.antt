-- A session that begins has no leases.
use Rattle.sl_due_facts.proofs.Acts.SessionsStay.{numbered_more}
use Rattle.sl_due_facts.specs.Acts.TraceSoFar.{entry_of}
use Rattle.sl_due.specs.Steps.{Step, add_call_of, seen, with_input}
use Rattle.sl_run.specs.LawfulArea.{is_area_work}
use Rattle.sl_due_leases.proofs.Ways.WayFactsHeld.EffectsLeave.{calls_left, has_there, made_call, old_call, other_grows, still_open}
use Rattle.sl_due_leases.proofs.Ways.WayFactsHeld.InputsLeave.{input_sessions, quiet_inputs_leave, quiet_same}
use Rattle.sl_due_leases.proofs.Ways.WayFactsHeld.PlacesStand.{either_list}
use Rattle.sl_due_leases.proofs.Ways.WayFactsHeld.WaysGrow.{ways_grow}
use Rattle.sl_due_leases.specs.Ways.WayFactsHeld.{LeasesStand}
use Rattle.sl_trace.specs.Leases.{is_lease_call, is_on, lease_calls, lease_step, spot_of_call}
use Rattle.sl_trace.specs.Sessions.{added_by, begun_in, is_call_of, is_join_call, joining_session, session_numbered, sessions}
use Rattle.sl_trace.specs.declared.session.Session.{Session}
use Rattle.sl_due_facts.specs.Facts.CallFacts.{CallFacts}
use Rattle.sl_due_facts.specs.Facts.HeardCall.{IsOpen}
use Rattle.sl_due_facts.specs.Facts.WayFacts.{IsAligned, Ways, way_context}
use Rattle.sl_trace.specs.Traces.{Submitted, next_job, submitted}
use Rattle.sl_trace.specs.TraceLaws.{with_call}
use Rattle.sl_trace.specs.declared.command.LockspaceArg.{LockspaceArg}
use Rattle.sl_trace.specs.declared.effects.Call.{Call}
use Rattle.sl_trace.specs.declared.effects.Entry.{Entry}
use Rattle.sl_trace.specs.declared.effects.JoinStep.TheVariants.{FirstRead}
use Rattle.sl_trace.specs.declared.effects.Op.{Op}
use Rattle.sl_trace.specs.declared.effects.Purpose.TheVariants.{Joining}
use Rattle.sl_trace.specs.declared.effects.Purpose.{Purpose}
use Rattle.sl_trace.specs.declared.effects.Spot.{Spot}
use Rattle.sl_trace.specs.declared.input.Input.TheVariants.{Line, Wake}
use Rattle.sl_words.proofs.Lists.{contains_cases, contains_first, contains_more, contains_none}
use Rattle.sl_words.proofs.Numbers.{less_is_other}
use Rattle.sl_words.proofs.Options.{some_of}
use Rattle.sl_words.proofs.CaseLaws.{none_some, one_value}
use Rattle.std.proofs.Common.{ap, append-nil, arith, inl, inr, refl, subst, sym, tests, ◌∙◌}
use Rattle.std.specs.List.{list_any}
use Rattle.std.specs.Prelude.{Bool, Contains, IsTrue, List, None, Option, Some, [], cond, false, filter, is_some, length, slice_get, suc, true, zero, ℕ, ◌&&◌, ◌++◌, ◌<◌, ◌==◌, ◌∷◌, ◌≡◌, ◌⊎◌}

-- ---- places in a list

below_length : {A : Type 0} (xs : List A) (k : ℕ) (x : A) → slice_get xs k ≡ Some x → k < length xs
below_length [] k x is = absurd (none_some x is)
below_length (y ∷ xs) zero x is = omega arith
below_length (y ∷ xs) (suc k) x is = let rest : k < length xs = below_length xs k x is in omega (arith, rest)

filter_none : (p : Submitted → Bool) (ms : List Submitted) → ((m : Submitted) → Contains ms m → p m ≡ false) → filter p ms ≡ []
filter_none p [] none = refl
filter_none p (m ∷ ms) none =
    ap (λ b. cond b (m ∷ filter p ms) (filter p ms)) (none m (contains_first m ms)) ∙ filter_none p ms (λ d there. none d (contains_more m ms d there))

-- ---- numbers of sessions

-- A session of the trace before is numbered below their count.
old_number : (x : Step) (z : Session) → Contains (sessions x.setting (seen x)) z → z.number < length (sessions x.setting (seen x))
old_number x z there = below_length (sessions x.setting (seen x)) z.number z (has_there x.setting (seen x) z there)

-- One that begins has their count as its number.
new_number : (x : Step) (n : ℕ) (e : Entry) (z : Session) → Contains (begun_in x.setting x.past n e) z → z.number ≡ n
new_number x n e z there = by (list_any (λ (c : Call). is_join_call FirstRead c.purpose) e.effects.calls) (added_by x.setting e.input) there where
  by : (b : Bool) (o : Option LockspaceArg)
      → Contains (elim b as (λ w. List Session) [ false ↦ [] | true ↦ elim o as (λ w. List Session) [ None ↦ [] | Some a ↦ joining_session n (next_job x.setting x.past) a ∷ [] ] ]) z → z.number ≡ n
  by false o inside = absurd (contains_none z inside)
  by true None inside = absurd (contains_none z inside)
  by true (Some a) inside =
      elim (contains_cases (joining_session n (next_job x.setting x.past) a) [] z inside) [ inl same ↦ ap (λ (w : Session). w.number) (sym same) | inr none ↦ absurd (contains_none z none) ]

-- Before any call the sessions are those before the entry.
bare_sessions : (x : Step) → x.effects.calls ≡ [] → sessions x.setting (seen x) ≡ sessions x.setting x.past
bare_sessions x bare =
    let ss : List Session = sessions x.setting x.past in
    ap (λ b. ss ++ elim b as (λ w. List Session) [ false ↦ [] | true ↦ elim (added_by x.setting x.input) as (λ w. List Session) [ None ↦ [] | Some a ↦ joining_session (length ss) (next_job x.setting x.past) a ∷ [] ] ])
    (ap (λ cs. list_any (λ (c : Call). is_join_call FirstRead c.purpose) cs) bare)
    ∙ append-nil ss

lower : (a b c : ℕ) → a < b → c ≡ b → a < c
lower a b c lt is = omega (arith, lt, is)

apart : (a b : ℕ) → a < b → (b == a) ≡ false
apart a b lt = grind (arith, tests)

-- ---- the first read

pub joins_leave : (x : Step) (text : List ℕ) (n : ℕ) (path : List ℕ) (j o : ℕ) (op : Op) → x.input ≡ Wake → x.effects.calls ≡ [] → CallFacts x.setting (seen x) → n ≡ length (sessions x.setting (seen x)) → LeasesStand x
    → LeasesStand (add_call_of n path (Joining j FirstRead) o op (with_input (Line text) x))
joins_leave x text n path j o op wake bare calls next h =
    record {
      ways = record { each = λ z at there aligned. each z at aligned (either_list (sessions x.setting x.past) (begun_in x.setting x.past (length (sessions x.setting x.past)) (with_call (made_call y n path p o op) (entry_of y))) z there) };
      turns = record {
        one = λ a b a_there b_there a_open b_open a_work b_work spots.
            k.turns.one a b (old_call y n path p o op is_area_work refl a a_there a_work) (old_call y n path p o op is_area_work refl b b_there b_work)
            (still_open y n path p o op None a a_open) (still_open y n path p o op None b b_open) a_work b_work spots;
        newest = λ z m its there opens lease. newest z m its (old_call y n path p o op (λ q. is_some (lease_step q)) refl m there lease) (still_open y n path p o op None m opens) lease;
      };
    }
  where
    y : Step
    y = with_input (Line text) x

    p : Purpose
    p = Joining j FirstRead

    k : LeasesStand (with_input (Line text) x)
    k = quiet_inputs_leave x (Line text) wake bare refl h

    unowned : (z : Session) → z.number ≡ length (sessions x.setting (seen x)) → (m : Submitted) → Contains (submitted (seen x)) m → (m.call.session == z.number) ≡ false
    unowned z number m there =
        let s = some_of (session_numbered x.setting (seen x) m.call.session) (calls.owned m there) in
        less_is_other m.call.session z.number (lower m.call.session (length (sessions x.setting (seen x))) z.number (below_length (sessions x.setting (seen x)) m.call.session s.0 s.1) number)

    each : (z : Session) (at : Spot) → IsAligned x.setting at → Contains (sessions x.setting x.past) z ⊎ Contains (begun_in x.setting x.past (length (sessions x.setting x.past)) (with_call (made_call (with_input (Line text) x) n path (Joining j FirstRead) o op) (entry_of (with_input (Line text) x)))) z
        → Ways (way_context x.setting (seen (add_call_of n path (Joining j FirstRead) o op (with_input (Line text) x))) z) (lease_calls x.setting (seen (add_call_of n path (Joining j FirstRead) o op (with_input (Line text) x))) z at)
    each z at aligned (inl old) =
        let in_x : Contains (sessions x.setting (seen x)) z = subst (λ ss. Contains ss z) (sym (bare_sessions x bare)) old in
        let other : (n == z.number) ≡ false = apart z.number n (lower z.number (length (sessions x.setting (seen x))) n (old_number x z in_x) next) in
        let in_y : Contains (sessions x.setting (seen (with_input (Line text) x))) z = subst (λ ss. Contains ss z) (sym (input_sessions x (Line text) bare)) in_x in
        subst (λ ms. Ways (way_context x.setting (seen (add_call_of n path (Joining j FirstRead) o op (with_input (Line text) x))) z) ms) (sym (calls_left (with_input (Line text) x) n path (Joining j FirstRead) o op refl z at))
        (ways_grow (way_context x.setting (seen (with_input (Line text) x)) z) (way_context x.setting (seen (add_call_of n path (Joining j FirstRead) o op (with_input (Line text) x))) z)
        (other_grows (with_input (Line text) x) n path (Joining j FirstRead) o op z other) (lease_calls x.setting (seen (with_input (Line text) x)) z at) (k.ways.each z at in_y aligned))
    each z at aligned (inr new) =
        let number : z.number ≡ length (sessions x.setting (seen x)) =
        new_number x (length (sessions x.setting x.past)) (with_call (made_call (with_input (Line text) x) n path (Joining j FirstRead) o op) (entry_of (with_input (Line text) x))) z new
        ∙ sym (ap (λ ss. length ss) (bare_sessions x bare))
        in
        let empty : lease_calls x.setting (seen (add_call_of n path (Joining j FirstRead) o op (with_input (Line text) x))) z at ≡ [] =
        calls_left (with_input (Line text) x) n path (Joining j FirstRead) o op refl z at
        ∙ ap (λ ms. filter (λ (m : Submitted). is_lease_call m && is_on x.setting.layout at m.call) ms)
        (filter_none (is_call_of z) (submitted (seen (with_input (Line text) x)))
        (λ m there. unowned z number m (subst (λ ms. Contains ms m) (quiet_same x (Line text) wake refl) there)))
        in
        subst (λ ms. Ways (way_context x.setting (seen (add_call_of n path (Joining j FirstRead) o op (with_input (Line text) x))) z) ms) (sym empty) tt

    newest : (z : Session) (m : Submitted) → session_numbered x.setting (seen (add_call_of n path (Joining j FirstRead) o op (with_input (Line text) x))) m.call.session ≡ Some z → Contains (submitted (seen (with_input (Line text) x))) m
        → IsOpen (seen (with_input (Line text) x)) None m → IsTrue (is_lease_call m)
        → (ms : List Submitted) × (lease_calls x.setting (seen (add_call_of n path (Joining j FirstRead) o op (with_input (Line text) x))) z (spot_of_call x.setting.layout m) ≡ m ∷ ms)
    newest z m its there opens lease =
        let s = some_of (session_numbered x.setting (seen x) m.call.session) (calls.owned m (subst (λ ms. Contains ms m) (quiet_same x (Line text) wake refl) there)) in
        let in_y : session_numbered x.setting (seen (with_input (Line text) x)) m.call.session ≡ Some s.0 = ap (λ ss. slice_get ss m.call.session) (input_sessions x (Line text) bare) ∙ s.1 in
        let same : s.0 ≡ z =
        one_value s.0 z (session_numbered x.setting (seen (add_call_of n path (Joining j FirstRead) o op (with_input (Line text) x))) m.call.session)
        (numbered_more x.setting x.past (entry_of (with_input (Line text) x)) (made_call (with_input (Line text) x) n path (Joining j FirstRead) o op) m.call.session s.0 in_y) its
        in
        let was = k.turns.newest z m (in_y ∙ ap (λ (w : Session). Some w) same) there opens lease in
        (was.0, calls_left (with_input (Line text) x) n path (Joining j FirstRead) o op refl z (spot_of_call x.setting.layout m) ∙ was.1)
