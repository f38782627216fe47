-- Each effect but a call that is work on an area leaves ways and turns.
use Rattle.sl_due_facts.specs.Acts.Acts.{Has}
use Rattle.sl_due_facts.specs.Acts.TraceSoFar.{entry_of}
use Rattle.sl_due.specs.Steps.{Step, add_call_of, add_end, add_grant, add_move, add_reply, add_signal, add_start, seen}
use Rattle.sl_run.specs.LawfulArea.{is_area_work}
use Rattle.sl_due_leases.proofs.Ways.WayFactsHeld.CallsSame.{Leaves, counted_more, counts_more, joined_stays, reply_leaves, reply_stays}
use Rattle.sl_due_leases.proofs.Ways.WayFactsHeld.WaysGrow.{Grows, ways_grow}
use Rattle.sl_due_leases.specs.Ways.WayFactsHeld.{LeasesStand}
use Rattle.sl_trace.specs.Jobs.{aim_of}
use Rattle.sl_trace.specs.Leases.{is_lease_call, is_on, lease_calls, lease_step, spot_of_call}
use Rattle.sl_trace.specs.declared.lease.Aim.{Aim}
use Rattle.sl_due_facts.proofs.AddedEffects.CallsGrow.{mine_more, others_stay, same_sessions}
use Rattle.sl_due_facts.specs.AddedEffects.OneMoreEffect.{with_reply}
use Rattle.sl_trace.specs.Sessions.{calls_of, delta_of_record, generation_in, generation_of, given_number, is_call_of, is_join_call, is_survey_purpose, joined_after, last_delta, session_numbered, sessions}
use Rattle.sl_area.specs.AreaLayout.{sector_of}
use Rattle.sl_trace.specs.Sightings.{evidence, look_of, sightings}
use Rattle.sl_trace.specs.declared.sighting.Sighting.{Sighting}
use Rattle.sl_trace.specs.declared.session.Session.{Session}
use Rattle.sl_sector.specs.declared.sector.DeltaRec.{DeltaRec}
use Rattle.sl_due_facts.specs.Facts.HeardCall.{IsOpen, heard_by}
use Rattle.sl_due_facts.specs.Facts.WayFacts.{WayFacts, Ways, way_context}
use Rattle.sl_trace.proofs.TraceFacts.{submitted-push}
use Rattle.sl_trace.specs.TraceLaws.{with_call}
use Rattle.sl_trace.specs.Traces.{Answered, bytes_given, Setting, Submitted, Trace, new_call, next_call, record_of, submitted}
use Rattle.sl_trace.specs.declared.effects.Call.{Call}
use Rattle.sl_trace.specs.declared.effects.End.{End}
use Rattle.sl_trace.specs.declared.effects.Entry.{Entry}
use Rattle.sl_trace.specs.declared.effects.Grant.{Grant}
use Rattle.sl_trace.specs.declared.effects.JoinStep.TheVariants.{FirstRead}
use Rattle.sl_trace.specs.declared.effects.Move.{Move}
use Rattle.sl_trace.specs.declared.effects.Op.{Op}
use Rattle.sl_trace.specs.declared.effects.Purpose.{Purpose}
use Rattle.sl_trace.specs.declared.effects.Signal.{Signal}
use Rattle.sl_trace.specs.declared.effects.Spot.{Spot}
use Rattle.sl_trace.specs.declared.effects.Start.{Start}
use Rattle.sl_trace.specs.declared.reply.Reply.{Reply}
use Rattle.sl_due_facts.proofs.Acts.AddedAtEnd.{contains_at}
use Rattle.sl_words.proofs.Lists.{contains_cases, got_inside}
use Rattle.sl_words.proofs.Numbers.{number_itself}
use Rattle.sl_run_law.proofs.Leases.NumberLaws.{number_is_place}
use Rattle.sl_trace.specs.declared.effects.Work.{Work}
use Rattle.sl_words.proofs.CaseLaws.{none_some, one_value, some_value, true_is_false}
use Rattle.sl_sector.specs.declared.sector.Owner.{Owner}
use Rattle.std.specs.List.{cons_option}
use Rattle.std.specs.Option.{option_map_or}
use Rattle.sl_trace.specs.declared.effects.Purpose.TheVariants.{Joining, Lease, Leaving, Renewal, RequestRead, RequestWrite, SeeRequest, Survey, ValueRead, ValueWrite}
use Rattle.std.proofs.Common.{ap, eqb-true, inl, inr, refl, subst, sym, ◌∙◌}
use Rattle.std.specs.Prelude.{Bool, Contains, List, None, Option, Some, [], cond, false, filter, is_some, length, nat_lt, option_and_then, option_map, slice_get, true, ℕ, ◌&&◌, ◌++◌, ◌-◌, ◌==◌, ◌∷◌, ◌≡◌, ◌⊎◌}

-- ---- what is carried from trace to trace

-- The leases' calls are the same; what ways ask beside them goes on, where there are calls.
abbrev all_sessions : Setting → Trace → List Session
all_sessions st t = sessions st t

pub record Carries (st : Setting) (t u : Trace) : Type 0 where
  pub sessions : sessions st u ≡ sessions st t
  pub calls : (s : Session) (at : Spot) → lease_calls st u s at ≡ lease_calls st t s at
  pub grows : (s : Session) (at : Spot) → Contains (all_sessions st t) s → Grows (way_context st t s) (way_context st u s) ⊎ (lease_calls st t s at ≡ [])

pub ways_carried : (st : Setting) (t u : Trace) → Carries st t u → WayFacts st t → WayFacts st u
ways_carried st t u c h =
    record {
      each = λ s at there aligned.
          let was : Contains (sessions st t) s = subst (λ ss. Contains ss s) c.sessions there in
          subst (λ ms. Ways (way_context st u s) ms) (sym (c.calls s at)) (by s at (c.grows s at was) (h.each s at was aligned));
    }
  where
    by : (s : Session) (at : Spot) → Grows (way_context st t s) (way_context st u s) ⊎ (lease_calls st t s at ≡ []) → Ways (way_context st t s) (lease_calls st t s at)
        → Ways (way_context st u s) (lease_calls st t s at)
    by s at (inl grows) k = ways_grow (way_context st t s) (way_context st u s) grows (lease_calls st t s at) k
    by s at (inr none) k = subst (λ ms. Ways (way_context st u s) ms) (sym none) tt

-- ---- ends, signals, moves, grants, starts

pub ends_leave : (x : Step) (e : End) → LeasesStand x → LeasesStand (add_end e x)
ends_leave x e h = record { ways = record { each = h.ways.each }; turns = record { one = h.turns.one; newest = h.turns.newest } }

pub signals_leave : (x : Step) (p : ℕ) (s : Signal) → LeasesStand x → LeasesStand (add_signal p s x)
signals_leave x p s h = record { ways = record { each = h.ways.each }; turns = record { one = h.turns.one; newest = h.turns.newest } }

pub moves_leave : (x : Step) (m : Move) → LeasesStand x → LeasesStand (add_move m x)
moves_leave x m h = record { ways = record { each = h.ways.each }; turns = record { one = h.turns.one; newest = h.turns.newest } }

pub grants_leave : (x : Step) (g : Grant) → LeasesStand x → LeasesStand (add_grant g x)
grants_leave x g h = record { ways = record { each = h.ways.each }; turns = record { one = h.turns.one; newest = h.turns.newest } }

pub starts_leave : (x : Step) (s : Start) → LeasesStand x → LeasesStand (add_start s x)
starts_leave x s h = record { ways = record { each = h.ways.each }; turns = record { one = h.turns.one; newest = h.turns.newest } }

-- ---- replies

with_generation : Session → ℕ → Owner
with_generation s n = record { id = s.id; generation = n }

-- A trace with the same calls, in which who had joined has.
pub same_grows : (st : Setting) (d e : Entry) (past : Trace) (s : Session) → calls_of (e ∷ past) s ≡ calls_of (d ∷ past) s
    → (is_some (joined_after (d ∷ past) s) ≡ true → is_some (joined_after (e ∷ past) s) ≡ true)
    → ((work : Work) (aim : Aim) → aim_of st (d ∷ past) work ≡ Some aim → aim_of st (e ∷ past) work ≡ Some aim)
    → Grows (way_context st (d ∷ past) s) (way_context st (e ∷ past) s)
unfolding with_generation
same_grows st d e past s same joined aims =
    record {
      layout = refl;
      lockspace = refl;
      self = ap (λ ms. with_generation s (generation_in s ms)) (sym same);
      aims = aims;
      over = λ a b is. counted_more st d e past s a b (counts_more st (d ∷ past) (e ∷ past) s same joined a b) is;
    }

pub reply_grows : (x : Step) (j : ℕ) (r : Reply) → Leaves x r → (s : Session) → Grows (way_context x.setting (seen x) s) (way_context x.setting (seen (add_reply j r x)) s)
reply_grows x j r leaves s =
    same_grows x.setting (entry_of x) (with_reply (record { job = j; reply = r }) (entry_of x)) x.past s (ap (λ ms. filter (is_call_of s) ms) (reply_leaves x j r leaves))
    (joined_stays (seen x) (seen (add_reply j r x)) (λ job q is. reply_stays (entry_of x) x.past (record { job = j; reply = r }) job q is) s) (λ work aim is. is)

pub reply_carries : (x : Step) (j : ℕ) (r : Reply) → Leaves x r → Carries x.setting (seen x) (seen (add_reply j r x))
reply_carries x j r leaves =
    record {
      sessions = refl;
      calls = λ s at. ap (λ ms. filter (λ (m : Submitted). is_lease_call m && is_on x.setting.layout at m.call) (filter (is_call_of s) ms)) (reply_leaves x j r leaves);
      grows = λ s at there. inl (reply_grows x j r leaves s);
    }

pub replies_leave : (x : Step) (j : ℕ) (r : Reply) → Leaves x r → LeasesStand x → LeasesStand (add_reply j r x)
replies_leave x j r leaves h =
    let same : submitted (seen (add_reply j r x)) ≡ submitted (seen x) = reply_leaves x j r leaves in
    let c : Carries x.setting (seen x) (seen (add_reply j r x)) = reply_carries x j r leaves in
    record {
      ways = ways_carried x.setting (seen x) (seen (add_reply j r x)) c h.ways;
      turns = record {
        one = λ m n m_there n_there m_open n_open m_work n_work spots.
            h.turns.one m n (subst (λ ms. Contains ms m) same m_there) (subst (λ ms. Contains ms n) same n_there) m_open n_open m_work n_work spots;
        newest = λ s m its there opens lease.
            let was = h.turns.newest s m its (subst (λ ms. Contains ms m) same there) opens lease in
            (was.0, c.calls s (spot_of_call x.setting.layout m) ∙ was.1);
      };
    }

-- ---- a call that is no work on an area

-- The generation of the call's session stays, or it has no leases.
abbrev pub KeepsGeneration : Step → Session → Op → Type 0
KeepsGeneration x s op =
    (d : DeltaRec) → option_and_then delta_of_record (record_of op) ≡ Some d → (d.generation ≡ generation_of (seen x) s) ⊎ ((at : Spot) → lease_calls x.setting (seen x) s at ≡ [])

abbrev pub made_call : Step → ℕ → List ℕ → Purpose → ℕ → Op → Call
made_call x n path p o op = record { number = next_call x.setting (seen x); session = n; purpose = p; path = path; offset = o; op = op }

no_lease : (c : Call) (p : Purpose) → c.purpose ≡ p → is_area_work p ≡ false → (at reading : ℕ) → is_lease_call (new_call at reading c) ≡ false
no_lease c p is none at reading = ap (λ q. is_some (lease_step q)) is ∙ by p none where
  by : (q : Purpose) → is_area_work q ≡ false → is_some (lease_step q) ≡ false
  by (Lease work step) none = absurd (true_is_false none)
  by (Joining j step) none = refl
  by Renewal none = refl
  by Survey none = refl
  by (Leaving j) none = refl
  by (RequestRead j) none = refl
  by (RequestWrite j owner) none = refl
  by SeeRequest none = refl
  by (ValueWrite j) none = refl
  by (ValueRead j) none = refl

-- A session of the trace is found by its number.
pub has_there : (st : Setting) (t : Trace) (z : Session) → Contains (sessions st t) z → session_numbered st t z.number ≡ Some z
has_there st t z there =
    let at = contains_at (sessions st t) z there in
    ap (λ n. session_numbered st t n) (number_is_place st t at.0 z at.1) ∙ at.1

pub there_has : (st : Setting) (t : Trace) (n : ℕ) (z : Session) → session_numbered st t n ≡ Some z → Contains (sessions st t) z
there_has st t n z is = got_inside (sessions st t) n z is

pub one_session : (st : Setting) (t : Trace) (s z : Session) → session_numbered st t s.number ≡ Some s → Contains (sessions st t) z → z.number ≡ s.number → s ≡ z
one_session st t s z has there same = one_value s z (session_numbered st t z.number) (ap (λ n. session_numbered st t n) same ∙ has) (has_there st t z there)

unlooked : (st : Setting) (id at reading : ℕ) (c : Call) → look_of st.layout id (new_call at reading c) ≡ None
unlooked st id at reading c = by (is_survey_purpose c.purpose) where
  by : (b : Bool) → elim b as (λ z. Option Sighting) [
    | false ↦ None
    | true ↦ option_and_then (λ (a : Answered). option_map (λ bytes. record { before = reading; after = a.reading; bytes = sector_of st.layout bytes (id - 1) }) (bytes_given a.answer)) None
  ] ≡ None
  by false = refl
  by true = refl

same_sightings : (st : Setting) (id at reading : ℕ) (c : Call) (ms : List Submitted) → sightings st.layout id (new_call at reading c ∷ ms) ≡ sightings st.layout id ms
same_sightings st id at reading c ms = ap (λ (o : Option Sighting). cons_option o (sightings st.layout id ms)) (unlooked st id at reading c)

by_generation : (at reading : ℕ) (c : Call) (s : Session) (ms : List Submitted)
    → ((d : DeltaRec) → option_and_then delta_of_record (record_of c.op) ≡ Some d → d.generation ≡ generation_in s ms) → generation_in s (new_call at reading c ∷ ms) ≡ generation_in s ms
by_generation at reading c s ms same = by (option_and_then delta_of_record (record_of c.op)) refl where
  by : (o : Option DeltaRec) → option_and_then delta_of_record (record_of c.op) ≡ o
      → option_map_or (λ (d : DeltaRec). d.generation) (elim o as (λ z. Option DeltaRec) [ Some d ↦ Some d | None ↦ last_delta ms ]) (given_number s) ≡ generation_in s ms
  by None is = refl
  by (Some d) is = same d is

-- What a further call of the session leaves of its context.
pub further_grows : (x : Step) (s : Session) (path : List ℕ) (p : Purpose) (o : ℕ) (op : Op)
    → ((d : DeltaRec) → option_and_then delta_of_record (record_of op) ≡ Some d → d.generation ≡ generation_of (seen x) s)
    → Grows (way_context x.setting (seen x) s) (way_context x.setting (seen (add_call_of s.number path p o op x)) s)
unfolding with_generation
further_grows x s path p o op same =
    let t : Trace = seen x in
    let c : Call = made_call x s.number path p o op in
    let u : Trace = seen (add_call_of s.number path p o op x) in
    let calls : calls_of u s ≡ new_call (length x.past) x.reading c ∷ calls_of t s = mine_more (entry_of x) x.past c s (number_itself s.number) in
    let generation : generation_of u s ≡ generation_of t s = ap (λ ms. generation_in s ms) calls ∙ by_generation (length x.past) x.reading c s (calls_of t s) same in
    let shown : (a : ℕ) → sightings x.setting.layout a (calls_of u s) ≡ sightings x.setting.layout a (calls_of t s) =
    λ a. ap (λ ms. sightings x.setting.layout a ms) calls ∙ same_sightings x.setting a (length x.past) x.reading c (calls_of t s)
    in
    record {
      layout = refl;
      lockspace = refl;
      self = ap (λ n. with_generation s n) (sym generation);
      aims = λ work aim is. is;
      over = λ a b is. counted_more x.setting (entry_of x) (with_call c (entry_of x)) x.past s a b
          (λ k. subst (λ n. (elim (is_some (evidence x.setting.timing x.setting.layout a b (sightings x.setting.layout a (calls_of u s)))) as (λ z. Bool) [ true ↦ true | false ↦ a == s.id && nat_lt b n && is_some (joined_after t s) ]) ≡ true) (sym generation)
          (subst (λ ss. (elim (is_some (evidence x.setting.timing x.setting.layout a b ss)) as (λ z. Bool) [ true ↦ true | false ↦ a == s.id && nat_lt b (generation_of t s) && is_some (joined_after t s) ]) ≡ true) (sym (shown a)) k)) is;
    }

-- Nor does it touch another's.
pub other_grows : (x : Step) (n : ℕ) (path : List ℕ) (p : Purpose) (o : ℕ) (op : Op) (z : Session) → (n == z.number) ≡ false
    → Grows (way_context x.setting (seen x) z) (way_context x.setting (seen (add_call_of n path p o op x)) z)
other_grows x n path p o op z other =
    same_grows x.setting (entry_of x) (with_call (made_call x n path p o op) (entry_of x)) x.past z (others_stay (entry_of x) x.past (made_call x n path p o op) z other) (λ is. is) (λ work aim is. is)

-- A call that is no lease's leaves the leases' calls.
pub calls_left : (x : Step) (n : ℕ) (path : List ℕ) (p : Purpose) (o : ℕ) (op : Op) → is_area_work p ≡ false → (z : Session) (at : Spot)
    → lease_calls x.setting (seen (add_call_of n path p o op x)) z at ≡ lease_calls x.setting (seen x) z at
calls_left x n path p o op none z at = by (n == z.number) refl where
  c : Call
  c = made_call x n path p o op

  here : Submitted → Bool
  here = λ m. is_lease_call m && is_on x.setting.layout at m.call

  by : (b : Bool) → (n == z.number) ≡ b → filter here (calls_of (seen (add_call_of n path p o op x)) z) ≡ filter here (calls_of (seen x) z)
  by false is = ap (λ ms. filter here ms) (others_stay (entry_of x) x.past c z is)
  by true is =
      ap (λ ms. filter here ms) (mine_more (entry_of x) x.past c z is)
      ∙ ap (λ b. cond (b && is_on x.setting.layout at c) (new_call (length x.past) x.reading c ∷ filter here (calls_of (seen x) z)) (filter here (calls_of (seen x) z))) (no_lease c p refl none (length x.past) x.reading)

other_carries : (x : Step) (s : Session) (path : List ℕ) (p : Purpose) (o : ℕ) (op : Op) → Has x s → is_area_work p ≡ false → is_join_call FirstRead p ≡ false → KeepsGeneration x s op
    → Carries x.setting (seen x) (seen (add_call_of s.number path p o op x))
other_carries x s path p o op has none later same =
    record {
      sessions = same_sessions x.setting (entry_of x) x.past (made_call x s.number path p o op) later;
      calls = calls_left x s.number path p o op none;
      grows = λ z at there. by z at there (s.number == z.number) refl;
    }
  where
    own : (at : Spot) → (written : Option DeltaRec) → option_and_then delta_of_record (record_of op) ≡ written
        → Grows (way_context x.setting (seen x) s) (way_context x.setting (seen (add_call_of s.number path p o op x)) s) ⊎ (lease_calls x.setting (seen x) s at ≡ [])
    own at None is = inl (further_grows x s path p o op (λ d at. absurd (none_some d (sym is ∙ at))))
    own at (Some d) is = with_record (same d is) where
      with_record : (d.generation ≡ generation_of (seen x) s) ⊎ ((at : Spot) → lease_calls x.setting (seen x) s at ≡ [])
          → Grows (way_context x.setting (seen x) s) (way_context x.setting (seen (add_call_of s.number path p o op x)) s) ⊎ (lease_calls x.setting (seen x) s at ≡ [])
      with_record (inl generation) = inl (further_grows x s path p o op (λ k at. ap (λ (z : DeltaRec). z.generation) (some_value k d (sym at ∙ is)) ∙ generation))
      with_record (inr empty) = inr (empty at)

    by : (z : Session) (at : Spot) → Contains (sessions x.setting (seen x)) z → (b : Bool) → (s.number == z.number) ≡ b
        → Grows (way_context x.setting (seen x) z) (way_context x.setting (seen (add_call_of s.number path p o op x)) z) ⊎ (lease_calls x.setting (seen x) z at ≡ [])
    by z at there false is = inl (other_grows x s.number path p o op z is)
    by z at there true is =
        subst (λ (y : Session). Grows (way_context x.setting (seen x) y) (way_context x.setting (seen (add_call_of s.number path p o op x)) y) ⊎ (lease_calls x.setting (seen x) y at ≡ []))
        (one_session x.setting (seen x) s z has there (sym (eqb-true s.number z.number is))) (own at (option_and_then delta_of_record (record_of op)) refl)

-- ---- turns

abbrev is_cons : {A : Type 0} → List A → Bool
is_cons [] = false
is_cons (x ∷ xs) = true

pub not_empty : {A : Type 0} (xs : List A) (y : A) → xs ++ y ∷ [] ≡ [] → ⊥
not_empty [] y is = true_is_false (ap (λ zs. is_cons zs) is)
not_empty (x ∷ xs) y is = true_is_false (ap (λ zs. is_cons zs) is)

-- Once a call is made, only unanswered calls are open.
pub still_open : (x : Step) (n : ℕ) (path : List ℕ) (p : Purpose) (o : ℕ) (op : Op) (h : Option ℕ) (m : Submitted) → IsOpen (seen (add_call_of n path p o op x)) h m → IsOpen (seen x) h m
still_open x n path p o op h m (inl none) = inl none
still_open x n path p o op h m (inr heard) = absurd (not_empty x.effects.calls (made_call x n path p o op) heard.1)

-- Of the calls with one more of another kind.
pub old_call : (x : Step) (n : ℕ) (path : List ℕ) (p : Purpose) (o : ℕ) (op : Op) (q : Purpose → Bool) → q p ≡ false → (m : Submitted) → Contains (submitted (seen (add_call_of n path p o op x))) m
    → q m.call.purpose ≡ true → Contains (submitted (seen x)) m
old_call x n path p o op q none m there is =
    by (contains_cases (new_call (length x.past) x.reading (made_call x n path p o op)) (submitted (seen x)) m (subst (λ ms. Contains ms m) (submitted-push x.past (entry_of x) (made_call x n path p o op)) there)) where
      by : (new_call (length x.past) x.reading (made_call x n path p o op) ≡ m) ⊎ Contains (submitted (seen x)) m → Contains (submitted (seen x)) m
      by (inl new) = absurd (true_is_false (sym is ∙ (ap (λ (z : Submitted). q z.call.purpose) (sym new) ∙ none)))
      by (inr old) = old

is_lease_purpose : Purpose → Bool
is_lease_purpose p = is_some (lease_step p)

pub other_calls_leave : (x : Step) (s : Session) (path : List ℕ) (p : Purpose) (o : ℕ) (op : Op) → Has x s → is_area_work p ≡ false → is_join_call FirstRead p ≡ false → KeepsGeneration x s op
    → LeasesStand x → LeasesStand (add_call_of s.number path p o op x)
unfolding is_lease_purpose
other_calls_leave x s path p o op has none later same h =
    let c : Carries x.setting (seen x) (seen (add_call_of s.number path p o op x)) = other_carries x s path p o op has none later same in
    record {
      ways = ways_carried x.setting (seen x) (seen (add_call_of s.number path p o op x)) c h.ways;
      turns = record {
        one = λ m n m_there n_there m_open n_open m_work n_work spots.
            h.turns.one m n (old_call x s.number path p o op is_area_work none m m_there m_work) (old_call x s.number path p o op is_area_work none n n_there n_work)
            (still_open x s.number path p o op (heard_by x.input) m m_open) (still_open x s.number path p o op (heard_by x.input) n n_open) m_work n_work spots;
        newest = λ z m its there opens lease.
            let was = h.turns.newest z m (sym (ap (λ ss. slice_get ss m.call.session) c.sessions) ∙ its)
            (old_call x s.number path p o op is_lease_purpose (no_lease (made_call x s.number path p o op) p refl none 0 0) m there lease)
            (still_open x s.number path p o op (heard_by x.input) m opens) lease in
            (was.0, c.calls z (spot_of_call x.setting.layout m) ∙ was.1);
      };
    }
