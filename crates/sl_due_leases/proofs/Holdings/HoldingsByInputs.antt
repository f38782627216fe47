-- Facts of holdings go on when the input is seen: an answer may end no ballot of a holder, for none of its calls that are open is a step
-- of one.
use Rattle.sl_due_facts.proofs.Acts.AddedAtEnd.{begun_by}
use Rattle.sl_due_facts.specs.Acts.Acts.{Expects}
use Rattle.sl_due_facts.specs.Acts.TraceSoFar.{entry_of}
use Rattle.sl_due.specs.Steps.{Step, seen, with_input}
use Rattle.sl_due_leases.proofs.Holdings.HoldingsByEffects.{HoldsAt, counted_now, counted_on, upheld}
use Rattle.sl_due_leases.proofs.Holdings.StandsGrow.{InTurn, in_turn, stands_marked, stands_same}
use Rattle.sl_trace.specs.Leases.{is_lease_call, is_on, lease_calls}
use Rattle.sl_words.proofs.Lists.{any_found, contains_map, got_inside, in_map, kept_inside}
use Rattle.sl_words.proofs.Numbers.{lt_then_le, refl_le}
use Rattle.sl_words.proofs.Options.{none_is}
use Rattle.sl_sector.specs.declared.sector.DeltaRec.{DeltaRec}
use Rattle.sl_trace.specs.Sessions.{calls_of, delta_written, generation_in, generation_of, given_number, is_call_of, is_join_call, joined_after, last_delta, session_numbered, sessions}
use Rattle.sl_trace.specs.Sightings.{counted_over, counts_over, evidence_in}
use Rattle.sl_trace.specs.declared.session.Session.{Session}
use Rattle.sl_due_facts.specs.Facts.CallFacts.{CallFacts}
use Rattle.sl_due_facts.specs.Facts.HeardCall.{IsOpen, heard_by}
use Rattle.sl_due_facts.specs.Facts.HoldingFacts.{StandsExclusive}
use Rattle.sl_due_facts.specs.Facts.WayFacts.{WayFacts, way_context}
use Rattle.sl_trace.specs.Traces.{Answered, Child, Setting, Submitted, Trace, answer_of, answered_in, call_numbered, child_after, children, first_child, held_by, holdings, is_answer_for, mark, new_call, new_child, next_child, outstanding, spot_of_grant, submitted}
use Rattle.sl_trace.specs.declared.effects.Call.{Call}
use Rattle.sl_trace.specs.declared.effects.Entry.{Entry}
use Rattle.sl_trace.specs.declared.effects.Grant.{Grant}
use Rattle.sl_trace.specs.declared.effects.JoinStep.TheVariants.{FirstRead}
use Rattle.sl_trace.specs.declared.effects.Spot.{Spot}
use Rattle.sl_trace.specs.declared.input.Answer.{Answer}
use Rattle.sl_trace.specs.declared.input.Input.TheVariants.{Answer as Told, Exit, Line, Number, Spawned, Wake}
use Rattle.sl_trace.specs.declared.input.Input.{Input}
use Rattle.sl_run_law.proofs.Sessions.CallsAreMade.{same_answered}
use Rattle.sl_words.proofs.CaseLaws.{no_value, one_value, some_value, true_is_false}
use Rattle.sl_words.proofs.WordLaws.{and_true}
use Rattle.std.proofs.Common.{ap, inl, inr, refl, subst, sym, ◌∙◌}
use Rattle.std.proofs.lemmas.Bool.{eqb-true}
use Rattle.std.proofs.lemmas.List.{length-append, length-map}
use Rattle.std.proofs.lemmas.List.Elements.{Contains-append_cases, Contains-append_left, Contains-append_right}
use Rattle.std.specs.List.{list_any}
use Rattle.std.specs.Option.{option_map_or, option_or}
use Rattle.std.specs.Prelude.{Bool, Contains, List, None, Option, Some, cond, false, filter, fold, is_none, is_some, length, map, nat_lt, slice_get, true, [], ℕ, ◌%◌, ◌&&◌, ◌++◌, ◌+◌, ◌<◌, ◌==◌, ◌^◌, ◌∷◌, ◌≡◌, ◌≤◌, ◌⊎◌}

-- ---- the calls

abbrev made_by : ℕ → ℕ → List Call → List Submitted → List Submitted
made_by at reading cs ms = fold (λ ns c. new_call at reading c ∷ ns) ms cs

-- Before any call those of the entries before, marked by its input.
pub calls_marked : (x : Step) → x.effects.calls ≡ [] → submitted (seen x) ≡ mark x.past (entry_of x) x.input (submitted x.past)
calls_marked x bare = ap (λ cs. made_by (length x.past) x.reading cs (mark x.past (entry_of x) x.input (submitted x.past))) bare

mark_by : (past : Trace) (e : Entry) (i : Input) (ms : List Submitted) → i ≡ Wake → mark past e i ms ≡ ms
mark_by past e i ms wake = ap (λ k. mark past e k ms) wake

pub calls_before : (x : Step) → x.input ≡ Wake → x.effects.calls ≡ [] → submitted (seen x) ≡ submitted x.past
calls_before x wake bare = calls_marked x bare ∙ mark_by x.past (entry_of x) x.input (submitted x.past) wake

-- Whether an input answers no call.
abbrev pub is_no_answer : Input → Bool
is_no_answer (Told n w) = false
is_no_answer i = true

unmarked : (past : Trace) (e : Entry) (i : Input) (ms : List Submitted) → is_no_answer i ≡ true → mark past e i ms ≡ ms
unmarked past e (Told n w) ms other = absurd (true_is_false (sym other))
unmarked past e (Line text) ms other = refl
unmarked past e (Number text) ms other = refl
unmarked past e (Exit p) ms other = refl
unmarked past e (Spawned p ok) ms other = refl
unmarked past e Wake ms other = refl

pub calls_stay : (x : Step) (i : Input) → x.input ≡ Wake → x.effects.calls ≡ [] → is_no_answer i ≡ true → submitted (seen (with_input i x)) ≡ submitted (seen x)
calls_stay x i wake bare other =
    calls_marked (with_input i x) bare ∙ (unmarked x.past (entry_of (with_input i x)) i (submitted x.past) other ∙ sym (calls_before x wake bare))

pub calls_told : (x : Step) (n : ℕ) (w : Answer) → x.input ≡ Wake → x.effects.calls ≡ []
    → submitted (seen (with_input (Told n w) x)) ≡ map (answered_in x.past (entry_of (with_input (Told n w) x)) n w) (submitted (seen x))
calls_told x n w wake bare =
    calls_marked (with_input (Told n w) x) bare ∙ ap (λ ms. map (answered_in x.past (entry_of (with_input (Told n w) x)) n w) ms) (sym (calls_before x wake bare))

-- A test of the call alone.
pub filter_told : (f : Submitted → Submitted) (p : Submitted → Bool) → ((m : Submitted) → p (f m) ≡ p m) → (ms : List Submitted) → filter p (map f ms) ≡ map f (filter p ms)
filter_told f p same [] = refl
filter_told f p same (m ∷ ms) = ap (λ b. cond b (f m ∷ filter p (map f ms)) (filter p (map f ms))) (same m) ∙ by (p m) (filter_told f p same ms) where
  by : (b : Bool) → filter p (map f ms) ≡ map f (filter p ms) → cond b (f m ∷ filter p (map f ms)) (filter p (map f ms)) ≡ map f (cond b (m ∷ filter p ms) (filter p ms))
  by true rest = ap (λ xs. f m ∷ xs) rest
  by false rest = rest

same_test : (p : Call → Bool) (past : Trace) (e : Entry) (n : ℕ) (w : Answer) (m : Submitted) → p (answered_in past e n w m).call ≡ p m.call
same_test p past e n w m = ap p (same_answered past e n w m).call

pub mine_told : (x : Step) (n : ℕ) (w : Answer) (s : Session) → x.input ≡ Wake → x.effects.calls ≡ []
    → calls_of (seen (with_input (Told n w) x)) s ≡ map (answered_in x.past (entry_of (with_input (Told n w) x)) n w) (calls_of (seen x) s)
mine_told x n w s wake bare =
    ap (λ ms. filter (is_call_of s) ms) (calls_told x n w wake bare)
    ∙ filter_told (answered_in x.past (entry_of (with_input (Told n w) x)) n w) (is_call_of s)
    (λ m. same_test (λ c. c.session == s.number) x.past (entry_of (with_input (Told n w) x)) n w m) (submitted (seen x))

pub lease_told : (st : Setting) (x : Step) (n : ℕ) (w : Answer) (s : Session) (at : Spot) → x.input ≡ Wake → x.effects.calls ≡ []
    → lease_calls st (seen (with_input (Told n w) x)) s at ≡ map (answered_in x.past (entry_of (with_input (Told n w) x)) n w) (lease_calls st (seen x) s at)
lease_told st x n w s at wake bare =
    ap (λ ms. filter (λ m. is_lease_call m && is_on st.layout at m.call) ms) (mine_told x n w s wake bare)
    ∙ filter_told (answered_in x.past (entry_of (with_input (Told n w) x)) n w) (λ m. is_lease_call m && is_on st.layout at m.call)
    (λ m. same_test (λ c. is_lease_call (new_call 0 0 c) && is_on st.layout at c) x.past (entry_of (with_input (Told n w) x)) n w m) (calls_of (seen x) s)

last_told : (past : Trace) (e : Entry) (n : ℕ) (w : Answer) (ms : List Submitted) → last_delta (map (answered_in past e n w) ms) ≡ last_delta ms
last_told past e n w [] = refl
last_told past e n w (m ∷ ms) =
    ap (λ c. elim (delta_written (new_call 0 0 c)) as (λ z. Option DeltaRec) [ Some d ↦ Some d | None ↦ last_delta (map (answered_in past e n w) ms) ]) (same_answered past e n w m).call
    ∙ ap (λ o. elim (delta_written m) as (λ z. Option DeltaRec) [ Some d ↦ Some d | None ↦ o ]) (last_told past e n w ms)

pub generation_told : (x : Step) (n : ℕ) (w : Answer) (s : Session) → x.input ≡ Wake → x.effects.calls ≡ [] → generation_of (seen (with_input (Told n w) x)) s ≡ generation_of (seen x) s
generation_told x n w s wake bare =
    ap (λ ms. generation_in s ms) (mine_told x n w s wake bare)
    ∙ ap (λ o. option_map_or (λ (d : DeltaRec). d.generation) o (given_number s)) (last_told x.past (entry_of (with_input (Told n w) x)) n w (calls_of (seen x) s))

-- ---- sessions, and whom they count as over

pub sessions_seen_still : (x : Step) (i : Input) (n : ℕ) → x.effects.calls ≡ [] → session_numbered x.setting (seen (with_input i x)) n ≡ session_numbered x.setting (seen x) n
sessions_seen_still x i n bare =
    let ss : List Session = sessions x.setting x.past in
    let none : list_any (λ (c : Call). is_join_call FirstRead c.purpose) x.effects.calls ≡ false = ap (λ cs. list_any (λ (c : Call). is_join_call FirstRead c.purpose) cs) bare in
    ap (λ b. slice_get (ss ++ begun_by x.setting x.past (length ss) (entry_of (with_input i x)) b) n) none
    ∙ sym (ap (λ b. slice_get (ss ++ begun_by x.setting x.past (length ss) (entry_of x) b) n) none)

-- What counted as over when the input came had counted before it, or is older than the session itself.
pub counted_seen : (x : Step) (i : Input) (s : Session) (j n : ℕ) → x.input ≡ Wake → x.effects.calls ≡ [] → generation_of (seen (with_input i x)) s ≡ generation_of (seen x) s
    → counted_over x.setting (seen x) s j n ≡ true → counted_over x.setting (seen (with_input i x)) s j n ≡ true
counted_seen x i s j n wake bare same is = counted_on x.setting x.past (entry_of x) (entry_of (with_input i x)) s j n now is where
  st : Setting
  st = x.setting

  mine : calls_of (seen x) s ≡ calls_of x.past s
  mine = ap (λ ms. filter (is_call_of s) ms) (calls_before x wake bare)

  at_past : is_some (evidence_in st (calls_of (seen x) s) j n) ≡ true → counted_over st x.past s j n ≡ true
  at_past shown = counted_now st x.past s j n (ap (λ b. elim b as (λ z. Bool) [ true ↦ true | false ↦ (j == s.id && nat_lt n (generation_of x.past s)) && is_some (joined_after x.past s) ])
      (ap (λ ms. is_some (evidence_in st ms j n)) (sym mine) ∙ shown))

  from_past : (b : Bool) → counted_over st x.past s j n ≡ true → (elim b as (λ z. Bool) [ true ↦ true | false ↦ counted_over st x.past s j n ]) ≡ true
  from_past true old = refl
  from_past false old = old

  enough : (b c : Bool) → c ≡ true → (elim b as (λ z. Bool) [ true ↦ true | false ↦ c ]) ≡ true
  enough true c is = refl
  enough false c is = is

  older : ℕ → Bool
  older generation = (j == s.id && nat_lt n generation) && is_some (joined_after (seen x) s)

  by : (b : Bool) → is_some (evidence_in st (calls_of (seen x) s) j n) ≡ b → (elim b as (λ z. Bool) [ true ↦ true | false ↦ older (generation_of (seen x) s) ]) ≡ true
      → counted_over st (seen (with_input i x)) s j n ≡ true
  by true shown h = from_past (counts_over st (seen (with_input i x)) s j n) (at_past shown)
  by false none h =
      counted_now st (seen (with_input i x)) s j n
      (enough (is_some (evidence_in st (calls_of (seen (with_input i x)) s) j n)) (older (generation_of (seen (with_input i x)) s)) (ap (λ k. older k) same ∙ h))

  now : counts_over st (seen x) s j n ≡ true → counted_over st (seen (with_input i x)) s j n ≡ true
  now h = by (is_some (evidence_in st (calls_of (seen x) s) j n)) refl h

-- ---- children

pub children_seen : (x : Step) (i : Input) → next_child (seen x) ≤ next_child (seen (with_input i x))
children_seen x i =
    let ks : List Child = children x.past in
    let new : List Child = map new_child x.effects.starts in
    let a : length (map (child_after x.input) ks ++ new) ≡ length (map (child_after x.input) ks) + length new = length-append (map (child_after x.input) ks) new in
    let b : length (map (child_after i) ks ++ new) ≡ length (map (child_after i) ks) + length new = length-append (map (child_after i) ks) new in
    let c : length (map (child_after x.input) ks) ≡ length ks = length-map ks (child_after x.input) in
    let d : length (map (child_after i) ks) ≡ length ks = length-map ks (child_after i) in
    by (length (map (child_after x.input) ks ++ new)) (length (map (child_after i) ks ++ new)) (a ∙ (ap (λ n. n + length new) c ∙ sym (b ∙ ap (λ n. n + length new) d))) where
      by : (m n : ℕ) → m ≡ n → first_child + m ≤ first_child + n
      by m n is = subst (λ k. first_child + m ≤ first_child + k) is (refl_le (first_child + m))

same_number : (i : Input) (k : Child) → (child_after i k).process ≡ k.process
same_number (Line text) k = refl
same_number (Number text) k = refl
same_number (Told n w) k = refl
same_number (Exit p) k = by (p == k.process) where
  by : (b : Bool) → (elim b as (λ z. Child) [ false ↦ k | true ↦ record k { exited = true } ]).process ≡ k.process
  by true = refl
  by false = refl
same_number (Spawned p ok) k = by (p == k.process) where
  by : (b : Bool) → (elim b as (λ z. Child) [ false ↦ k | true ↦ record k { answer = option_or k.answer (Some ok) } ]).process ≡ k.process
  by true = refl
  by false = refl
same_number Wake k = refl

pub given_seen : (x : Step) (i : Input) → x.input ≡ Wake → ((k : Child) → Contains (children (seen x)) k → k.process < next_child (seen x))
    → (k : Child) → Contains (children (seen (with_input i x))) k → k.process < next_child (seen (with_input i x))
given_seen x i wake old k there = lt_then_le k.process (next_child (seen x)) (next_child (seen (with_input i x))) (by (Contains-append_cases (map (child_after i) (children x.past)) (map new_child x.effects.starts) k there)) (children_seen x i) where
  by : Contains (map (child_after i) (children x.past)) k ⊎ Contains (map new_child x.effects.starts) k → k.process < next_child (seen x)
  by (inr new) = old k (Contains-append_right (map (child_after x.input) (children x.past)) (map new_child x.effects.starts) k new)
  by (inl was) =
      let v = in_map (child_after i) (children x.past) k was in
      let before : Contains (children (seen x)) (child_after x.input v.0) =
      Contains-append_left (map (child_after x.input) (children x.past)) (map new_child x.effects.starts) (child_after x.input v.0) (contains_map (child_after x.input) (children x.past) v.0 v.1) in
      subst (λ n. n < next_child (seen x)) (same_number x.input v.0 ∙ (sym (same_number i v.0) ∙ ap (λ (z : Child). z.process) v.2)) (old (child_after x.input v.0) before)

-- ---- which calls are open

-- The call that an answer may come to has none yet, and its number is its own.
pub answers_open : (x : Step) (n : ℕ) (w : Answer) → x.input ≡ Wake → x.effects.calls ≡ [] → CallFacts x.setting (seen x) → Expects x (Told n w) → (m : Submitted) → Contains (submitted (seen x)) m
    → m.call.number ≡ n → m.answer ≡ None
answers_open x n w wake bare f expected m there is =
    let found = any_found (λ (k : Submitted). k.call.number == n && is_answer_for x.setting w k.call.op) (outstanding x.past) expected in
    let k : Submitted = found.0 in
    let its = and_true (k.call.number == n) (is_answer_for x.setting w k.call.op) found.2 in
    let inside = kept_inside (λ (d : Submitted). is_none d.answer) (submitted x.past) k found.1 in
    let here : Contains (submitted (seen x)) k = subst (λ ms. Contains ms k) (sym (calls_before x wake bare)) inside.0 in
    let same : k ≡ m = one_value k m (call_numbered (seen x) n) (subst (λ j. call_numbered (seen x) j ≡ Some k) (eqb-true k.call.number n its.0) (f.found k here)) (subst (λ j. call_numbered (seen x) j ≡ Some m) is (f.found m there)) in
    ap (λ (d : Submitted). d.answer) (sym same) ∙ none_is k.answer inside.1

unmet : (past : Trace) (e : Entry) (n : ℕ) (w : Answer) (m : Submitted) → (answered_in past e n w m).answer ≡ None → m.answer ≡ None
unmet past e n w m none = by (m.call.number == n) m.answer refl none where
  by : (b : Bool) (o : Option Answered) → m.answer ≡ o
      → (elim b as (λ z. Submitted) [ false ↦ m | true ↦ record m { answer = option_or m.answer (Some (answer_of past e w m.call)) } ]).answer ≡ None → m.answer ≡ None
  by false o is none = none
  by true None is none = is
  by true (Some a) is none = absurd (no_value a (option_or (Some a) (Some (answer_of past e w m.call))) refl (ap (λ q. option_or q (Some (answer_of past e w m.call))) (sym is) ∙ none))

-- What is open once an answer was heard was open before.
pub opens_told : (x : Step) (n : ℕ) (w : Answer) → x.input ≡ Wake → x.effects.calls ≡ [] → CallFacts x.setting (seen x) → Expects x (Told n w) → (m : Submitted) → Contains (submitted (seen x)) m
    → IsOpen (seen (with_input (Told n w) x)) (Some n) (answered_in x.past (entry_of (with_input (Told n w) x)) n w m) → m.answer ≡ None
opens_told x n w wake bare f expected m there (inl none) = unmet x.past (entry_of (with_input (Told n w) x)) n w m none
opens_told x n w wake bare f expected m there (inr h) =
    answers_open x n w wake bare f expected m there
    (ap (λ (c : Call). c.number) (sym (same_answered x.past (entry_of (with_input (Told n w) x)) n w m).call) ∙ sym (some_value n (answered_in x.past (entry_of (with_input (Told n w) x)) n w m).call.number h.0))

-- ---- the whole

unheard : (x : Step) → x.input ≡ Wake → heard_by x.input ≡ None
unheard x wake = ap (λ i. heard_by i) wake

quiet_heard : (i : Input) → is_no_answer i ≡ true → heard_by i ≡ None
quiet_heard (Told n w) other = absurd (true_is_false (sym other))
quiet_heard (Line text) other = refl
quiet_heard (Number text) other = refl
quiet_heard (Exit p) other = refl
quiet_heard (Spawned p ok) other = refl
quiet_heard Wake other = refl

no_open : (t : Trace) (heard : Option ℕ) (m : Submitted) → heard ≡ None → IsOpen t heard m → m.answer ≡ None
no_open t heard m none (inl h) = h
no_open t heard m none (inr h) = absurd (no_value m.call.number heard h.0 none)

-- Another input than an answer.
pub input_held : (x : Step) (i : Input) → x.input ≡ Wake → x.effects.calls ≡ [] → is_no_answer i ≡ true → HoldsAt x → HoldsAt (with_input i x)
input_held x i wake bare other h =
    let same : submitted (seen (with_input i x)) ≡ submitted (seen x) = calls_stay x i wake bare other in
    upheld x.setting (seen x) (seen (with_input i x)) (heard_by x.input) (heard_by i) (record {
      inside = λ g there. there;
      fewer = λ q path offset. refl_le (length (held_by (holdings (seen x)) q path offset));
      sessions = λ n s its. sessions_seen_still x i n bare ∙ its;
      joined = λ g s there its name joined. joined;
      further = children_seen x i;
      given = given_seen x i wake;
      stands = λ g s there its exclusive stands.
          let gen : generation_of (seen (with_input i x)) s ≡ generation_of (seen x) s = ap (λ ms. generation_in s (filter (is_call_of s) ms)) same in
          stands_same x.setting (seen x) (seen (with_input i x)) (heard_by x.input) (heard_by i) s (spot_of_grant g) g.lver
          (ap (λ ms. filter (λ m. is_lease_call m && is_on x.setting.layout (spot_of_grant g) m.call) (filter (is_call_of s) ms)) same) gen
          (λ j n is. counted_seen x i s j n wake bare gen is) (λ m inside opens. inl (no_open (seen (with_input i x)) (heard_by i) m (quiet_heard i other) opens)) stands;
    }) h

-- An answer is heard.
pub answer_held : (x : Step) (n : ℕ) (w : Answer) → x.input ≡ Wake → x.effects.calls ≡ [] → CallFacts x.setting (seen x) → WayFacts x.setting (seen x) → Expects x (Told n w) → HoldsAt x
    → HoldsAt (with_input (Told n w) x)
answer_held x n w wake bare f ways expected h =
    upheld x.setting (seen x) (seen (with_input (Told n w) x)) (heard_by x.input) (Some n) (record {
      inside = λ g there. there;
      fewer = λ q path offset. refl_le (length (held_by (holdings (seen x)) q path offset));
      sessions = λ k s its. sessions_seen_still x (Told n w) k bare ∙ its;
      joined = λ g s there its name joined. joined;
      further = children_seen x (Told n w);
      given = given_seen x (Told n w) wake;
      stands = λ g s there its exclusive stands.
          let gen : generation_of (seen (with_input (Told n w) x)) s ≡ generation_of (seen x) s = generation_told x n w s wake bare in
          stands_marked x.setting (seen x) (seen (with_input (Told n w) x)) (Some n) s (spot_of_grant g) g.lver x.past (entry_of (with_input (Told n w) x)) n w
          (subst (λ o. StandsExclusive x.setting (seen x) o s (spot_of_grant g) g.lver) (unheard x wake) stands) (turn g s there its) (lease_told x.setting x n w s (spot_of_grant g) wake bare) gen
          (λ j k is. counted_seen x (Told n w) s j k wake bare gen is)
          (λ m inside opens. opens_told x n w wake bare f expected m (inside_all x s (spot_of_grant g) m inside) opens);
    }) h where
      turn : (g : Grant) (s : Session) → Contains (holdings (seen x)) g → session_numbered x.setting (seen x) g.session ≡ Some s → InTurn (lease_calls x.setting (seen x) s (spot_of_grant g))
      turn g s there its =
          let o = h.owned g there in
          in_turn (way_context x.setting (seen x) s) (lease_calls x.setting (seen x) s (spot_of_grant g))
          (ways.each s (spot_of_grant g) (got_inside (sessions x.setting (seen x)) g.session s its)
          (eqb-true (g.offset % x.setting.layout.area) 0 (and_true (g.offset % x.setting.layout.area == 0) (nat_lt g.offset (10 ^ 12)) o.4).0))

      inside_all : (x : Step) (s : Session) (at : Spot) (m : Submitted) → Contains (lease_calls x.setting (seen x) s at) m → Contains (submitted (seen x)) m
      inside_all x s at m there =
          (kept_inside (is_call_of s) (submitted (seen x)) m (kept_inside (λ d. is_lease_call d && is_on x.setting.layout at d.call) (calls_of (seen x) s) m there).0).0
