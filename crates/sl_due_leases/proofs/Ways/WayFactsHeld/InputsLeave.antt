-- Ways and turns stand when the input is seen: an answer is that of one call, and changes nothing else.
use Rattle.sl_due_facts.proofs.Acts.AddedAtEnd.{begun_by}
use Rattle.sl_due_facts.specs.Acts.Acts.{Expects}
use Rattle.sl_due_facts.specs.Acts.TraceSoFar.{entry_of}
use Rattle.sl_due.specs.Steps.{Step, seen, with_input}
use Rattle.sl_due_leases.proofs.Ways.WayFactsHeld.EffectsLeave.{Carries, same_grows, ways_carried}
use Rattle.sl_due_leases.proofs.Ways.WayFactsHeld.WaysGrow.{Grows, ways_answered, ways_grow}
use Rattle.sl_due_leases.proofs.Ways.WaysAreLawful.BallotsBegin.{counted_now}
use Rattle.sl_due_leases.specs.Ways.WayFactsHeld.{LeasesStand}
use Rattle.sl_trace.specs.Jobs.{aim_of, aim_of_command, command_numbered, command_of}
use Rattle.sl_run.specs.LawfulArea.{is_area_work}
use Rattle.sl_trace.specs.Leases.{is_lease_call, is_on, lease_calls, lease_step, spot_of_call}
use Rattle.sl_trace.specs.declared.lease.Aim.{Aim}
use Rattle.sl_sector.specs.declared.sector.DeltaRec.{DeltaRec}
use Rattle.sl_sector.specs.declared.sector.Owner.{Owner}
use Rattle.sl_trace.specs.Sessions.{calls_of, delta_of_record, delta_written, generation_in, generation_of, given_number, is_call_of, is_join_call, joined_after, last_delta, session_numbered, sessions}
use Rattle.sl_trace.specs.Sightings.{counted_over, counts_over, evidence_in}
use Rattle.sl_trace.specs.declared.session.Session.{Session}
use Rattle.sl_due_facts.specs.Facts.CallFacts.{CallFacts}
use Rattle.sl_due_facts.specs.Facts.HeardCall.{IsOpen, heard_by}
use Rattle.sl_due_facts.specs.Facts.WayFacts.{Ways, way_context}
use Rattle.sl_trace.specs.Traces.{Answered, Job, Setting, Submitted, Trace, answer_of, answered_in, call_numbered, is_answer_for, job_in, job_numbered, jobs, line_in, mark, new_call, next_job, outstanding, record_of, submitted}
use Rattle.sl_trace.specs.declared.effects.Call.{Call}
use Rattle.sl_trace.specs.declared.effects.Entry.{Entry}
use Rattle.sl_trace.specs.declared.effects.JoinStep.TheVariants.{FirstRead}
use Rattle.sl_trace.specs.declared.effects.Spot.{Spot}
use Rattle.sl_trace.specs.declared.effects.Work.TheVariants.{ForJob, Settling}
use Rattle.sl_trace.specs.declared.effects.Work.{Work}
use Rattle.sl_trace.specs.declared.input.Answer.{Answer}
use Rattle.sl_trace.specs.declared.input.Input.TheVariants.{Answer as Told, Exit, Line, Number, Spawned, Wake}
use Rattle.sl_trace.specs.declared.input.Input.{Input}
use Rattle.sl_words.proofs.Lists.{any_found, in_map, kept_inside}
use Rattle.sl_words.proofs.Options.{none_is, then_value}
use Rattle.sl_words.proofs.CaseLaws.{none_some, one_value, some_value, true_is_false}
use Rattle.sl_words.proofs.WordLaws.{and_true}
use Rattle.std.proofs.Common.{ap, append-nil, eqb-true, inl, inr, refl, subst, sym, ◌∙◌}
use Rattle.std.specs.List.{list_any}
use Rattle.std.specs.Option.{option_map_or, option_or}
use Rattle.std.specs.Prelude.{Bool, Contains, IsTrue, List, None, Option, Some, [], cond, false, filter, find, fold, is_none, is_some, length, map, nat_lt, option_and_then, slice_get, true, ℕ, ◌&&◌, ◌++◌, ◌==◌, ◌∷◌, ◌≡◌}

-- ---- what an input leaves of sessions and aims

first_reads : (x : Step) → x.effects.calls ≡ [] → list_any (λ (c : Call). is_join_call FirstRead c.purpose) x.effects.calls ≡ false
first_reads x bare = ap (λ cs. list_any (λ (c : Call). is_join_call FirstRead c.purpose) cs) bare

-- Before any call an input begins no session.
pub input_sessions : (x : Step) (i : Input) → x.effects.calls ≡ [] → sessions x.setting (seen (with_input i x)) ≡ sessions x.setting (seen x)
input_sessions x i bare =
    let ss : List Session = sessions x.setting x.past in
    ap (λ b. ss ++ begun_by x.setting x.past (length ss) (entry_of (with_input i x)) b) (first_reads x bare)
    ∙ sym (ap (λ b. ss ++ begun_by x.setting x.past (length ss) (entry_of x) b) (first_reads x bare))

find_more : {A : Type 0} (p : A → Bool) (xs ys : List A) (v : A) → find p xs ≡ Some v → find p (xs ++ ys) ≡ Some v
find_more p [] ys v is = absurd (none_some v is)
find_more {A} p (x ∷ xs) ys v is = by (p x) is (λ rest. find_more p xs ys v rest) where
  by : (b : Bool) → cond b (Some x) (find p xs) ≡ Some v → (find p xs ≡ Some v → find p (xs ++ ys) ≡ Some v) → cond b (Some x) (find p (xs ++ ys)) ≡ Some v
  by true at rest = at
  by false at rest = rest at

-- A job that a trace knows stays known.
pub jobs_stay : (x : Step) (i : Input) → x.input ≡ Wake → (j : ℕ) (q : Job) → job_numbered x.setting (seen x) j ≡ Some q → job_numbered x.setting (seen (with_input i x)) j ≡ Some q
jobs_stay x i wake j q is =
    let js : List Job = jobs x.setting x.past in
    let none : job_in x.setting x.past (next_job x.setting x.past) (entry_of x) ≡ [] =
    ap (λ k. elim (line_in k) as (λ z. List Job) [ None ↦ [] | Some text ↦ record { number = next_job x.setting x.past; at = length x.past; reading = x.reading; command = x.setting.read text } ∷ [] ]) wake
    in
    find_more (λ (k : Job). k.number == j) js (job_in x.setting x.past (next_job x.setting x.past) (entry_of (with_input i x))) q
    (sym (ap (λ zs. find (λ (k : Job). k.number == j) (js ++ zs)) none ∙ ap (λ zs. find (λ (k : Job). k.number == j) zs) (append-nil js)) ∙ is)

pub aims_stay : (x : Step) (i : Input) → x.input ≡ Wake → (work : Work) (aim : Aim) → aim_of x.setting (seen x) work ≡ Some aim → aim_of x.setting (seen (with_input i x)) work ≡ Some aim
aims_stay x i wake Settling aim is = is
aims_stay x i wake (ForJob j) aim is =
    let c = then_value aim_of_command (command_numbered x.setting (seen x) j) aim is in
    let q = then_value command_of (job_numbered x.setting (seen x) j) c.0 c.1 in
    ap (λ o. option_and_then aim_of_command (option_and_then command_of o)) (jobs_stay x i wake j q.0 q.1) ∙ (ap (λ o. option_and_then aim_of_command o) q.2 ∙ c.2)

-- ---- an input that answers nothing

abbrev pub answers : Input → Bool
answers (Told n a) = true
answers i = false

pub quiet_same : (x : Step) (i : Input) → x.input ≡ Wake → answers i ≡ false → submitted (seen (with_input i x)) ≡ submitted (seen x)
quiet_same x i wake quiet = quiet_by i quiet ∙ sym (ap (λ k. fold made (mark x.past (entry_of x) k (submitted x.past)) x.effects.calls) wake) where
  made : List Submitted → Call → List Submitted
  made = λ ms c. new_call (length x.past) x.reading c ∷ ms

  quiet_by : (k : Input) → answers k ≡ false → submitted (seen (with_input k x)) ≡ fold made (submitted x.past) x.effects.calls
  quiet_by (Told n a) is = absurd (true_is_false is)
  quiet_by (Line text) is = refl
  quiet_by (Number text) is = refl
  quiet_by (Exit p) is = refl
  quiet_by (Spawned p ok) is = refl
  quiet_by Wake is = refl

pub unheard : (i : Input) → answers i ≡ false → heard_by i ≡ None
unheard (Told n a) is = absurd (true_is_false is)
unheard (Line text) is = refl
unheard (Number text) is = refl
unheard (Exit p) is = refl
unheard (Spawned p ok) is = refl
unheard Wake is = refl

quiet_open : (x : Step) (i : Input) → x.input ≡ Wake → answers i ≡ false → (m : Submitted) → IsOpen (seen (with_input i x)) (heard_by i) m → IsOpen (seen x) (heard_by x.input) m
quiet_open x i wake quiet m (inl none) = inl none
quiet_open x i wake quiet m (inr heard) = absurd (none_some m.call.number (sym (unheard i quiet) ∙ heard.0))

pub quiet_inputs_leave : (x : Step) (i : Input) → x.input ≡ Wake → x.effects.calls ≡ [] → answers i ≡ false → LeasesStand x → LeasesStand (with_input i x)
quiet_inputs_leave x i wake bare quiet h =
    let same : submitted (seen (with_input i x)) ≡ submitted (seen x) = quiet_same x i wake quiet in
    let c : Carries x.setting (seen x) (seen (with_input i x)) =
    record {
      sessions = input_sessions x i bare;
      calls = λ s at. ap (λ ms. filter (λ (m : Submitted). is_lease_call m && is_on x.setting.layout at m.call) (filter (is_call_of s) ms)) same;
      grows = λ s at there. inl (same_grows x.setting (entry_of x) (entry_of (with_input i x)) x.past s (ap (λ ms. filter (is_call_of s) ms) same) (λ is. is) (aims_stay x i wake));
    }
    in
    record {
      ways = ways_carried x.setting (seen x) (seen (with_input i x)) c h.ways;
      turns = record {
        one = λ m n m_there n_there m_open n_open m_work n_work spots.
            h.turns.one m n (subst (λ ms. Contains ms m) same m_there) (subst (λ ms. Contains ms n) same n_there) (quiet_open x i wake quiet m m_open) (quiet_open x i wake quiet n n_open) m_work n_work spots;
        newest = λ s m its there opens lease.
            let was = h.turns.newest s m (sym (ap (λ ss. slice_get ss m.call.session) c.sessions) ∙ its) (subst (λ ms. Contains ms m) same there) (quiet_open x i wake quiet m opens) lease in
            (was.0, c.calls s (spot_of_call x.setting.layout m) ∙ was.1);
      };
    }

-- ---- an answer

-- All calls with the answer.
pub told_calls : (x : Step) (n : ℕ) (a : Answer) → x.input ≡ Wake → x.effects.calls ≡ []
    → submitted (seen (with_input (Told n a) x)) ≡ map (answered_in x.past (entry_of (with_input (Told n a) x)) n a) (submitted (seen x))
told_calls x n a wake bare =
    ap (λ cs. fold made (map (answered_in x.past (entry_of (with_input (Told n a) x)) n a) (submitted x.past)) cs) bare
    ∙ ap (λ ms. map (answered_in x.past (entry_of (with_input (Told n a) x)) n a) ms)
    (sym (ap (λ cs. fold made (mark x.past (entry_of x) x.input (submitted x.past)) cs) bare ∙ ap (λ k. mark x.past (entry_of x) k (submitted x.past)) wake))
  where
    made : List Submitted → Call → List Submitted
    made = λ ms c. new_call (length x.past) x.reading c ∷ ms

-- The answer changes nothing of a call but its answer.
pub same_call : (es : Trace) (e : Entry) (n : ℕ) (a : Answer) (m : Submitted) → ((answered_in es e n a m).call ≡ m.call) × ((answered_in es e n a m).at ≡ m.at)
same_call es e n a m = by (m.call.number == n) where
  by : (b : Bool) → ((elim b as (λ z. Submitted) [ false ↦ m | true ↦ record m { answer = option_or m.answer (Some (answer_of es e a m.call)) } ]).call ≡ m.call)
      × ((elim b as (λ z. Submitted) [ false ↦ m | true ↦ record m { answer = option_or m.answer (Some (answer_of es e a m.call)) } ]).at ≡ m.at)
  by false = (refl, refl)
  by true = (refl, refl)

filter_told : (f : Submitted → Submitted) (p : Submitted → Bool) → ((m : Submitted) → p (f m) ≡ p m) → (ms : List Submitted) → filter p (map f ms) ≡ map f (filter p ms)
filter_told f p same [] = refl
filter_told f p same (m ∷ ms) = ap (λ b. cond b (f m ∷ filter p (map f ms)) (filter p (map f ms))) (same m) ∙ by (p m) (filter_told f p same ms) where
  by : (b : Bool) → filter p (map f ms) ≡ map f (filter p ms) → cond b (f m ∷ filter p (map f ms)) (filter p (map f ms)) ≡ map f (cond b (m ∷ filter p ms) (filter p ms))
  by true rest = ap (λ zs. f m ∷ zs) rest
  by false rest = rest

pub told_mine : (x : Step) (n : ℕ) (a : Answer) → x.input ≡ Wake → x.effects.calls ≡ [] → (s : Session)
    → calls_of (seen (with_input (Told n a) x)) s ≡ map (answered_in x.past (entry_of (with_input (Told n a) x)) n a) (calls_of (seen x) s)
told_mine x n a wake bare s =
    ap (λ ms. filter (is_call_of s) ms) (told_calls x n a wake bare)
    ∙ filter_told (answered_in x.past (entry_of (with_input (Told n a) x)) n a) (is_call_of s)
    (λ m. ap (λ (c : Call). c.session == s.number) (same_call x.past (entry_of (with_input (Told n a) x)) n a m).0) (submitted (seen x))

pub told_lease : (x : Step) (n : ℕ) (a : Answer) → x.input ≡ Wake → x.effects.calls ≡ [] → (s : Session) (at : Spot)
    → lease_calls x.setting (seen (with_input (Told n a) x)) s at ≡ map (answered_in x.past (entry_of (with_input (Told n a) x)) n a) (lease_calls x.setting (seen x) s at)
told_lease x n a wake bare s at =
    ap (λ ms. filter (λ (m : Submitted). is_lease_call m && is_on x.setting.layout at m.call) ms) (told_mine x n a wake bare s)
    ∙ filter_told (answered_in x.past (entry_of (with_input (Told n a) x)) n a) (λ m. is_lease_call m && is_on x.setting.layout at m.call)
    (λ m. ap (λ (c : Call). is_some (lease_step c.purpose) && is_on x.setting.layout at c) (same_call x.past (entry_of (with_input (Told n a) x)) n a m).0) (calls_of (seen x) s)

told_delta : (f : Submitted → Submitted) → ((m : Submitted) → (f m).call ≡ m.call) → (ms : List Submitted) → last_delta (map f ms) ≡ last_delta ms
told_delta f same [] = refl
told_delta f same (m ∷ ms) =
    ap (λ (c : Call). elim (option_and_then delta_of_record (record_of c.op)) as (λ z. Option DeltaRec) [ Some d ↦ Some d | None ↦ last_delta (map f ms) ]) (same m)
    ∙ ap (λ o. elim (delta_written m) as (λ z. Option DeltaRec) [ Some d ↦ Some d | None ↦ o ]) (told_delta f same ms)

told_generation : (x : Step) (n : ℕ) (a : Answer) → x.input ≡ Wake → x.effects.calls ≡ [] → (s : Session) → generation_of (seen (with_input (Told n a) x)) s ≡ generation_of (seen x) s
told_generation x n a wake bare s =
    ap (λ ms. generation_in s ms) (told_mine x n a wake bare s)
    ∙ ap (λ o. option_map_or (λ (d : DeltaRec). d.generation) o (given_number s))
    (told_delta (answered_in x.past (entry_of (with_input (Told n a) x)) n a) (λ m. (same_call x.past (entry_of (with_input (Told n a) x)) n a m).0) (calls_of (seen x) s))

-- Before any call and answer an entry shows nothing more.
before_entry : (x : Step) → x.input ≡ Wake → x.effects.calls ≡ [] → submitted (seen x) ≡ submitted x.past
before_entry x wake bare =
    ap (λ cs. fold made (mark x.past (entry_of x) x.input (submitted x.past)) cs) bare ∙ ap (λ k. mark x.past (entry_of x) k (submitted x.past)) wake
  where
    made : List Submitted → Call → List Submitted
    made = λ ms c. new_call (length x.past) x.reading c ∷ ms

abbrev counts_with : Bool → Bool → Bool
counts_with p q = elim p as (λ z. Bool) [ true ↦ true | false ↦ q ]

by_evidence : (p q : Bool) (Goal : Type 0) → counts_with p q ≡ true → (p ≡ true → Goal) → (q ≡ true → Goal) → Goal
by_evidence true q Goal is first second = first refl
by_evidence false q Goal is first second = second is

counts_second : (p q : Bool) → q ≡ true → counts_with p q ≡ true
counts_second true q is = refl
counts_second false q is = is

pub counted_then : (st : Setting) (e : Entry) (past : Trace) (s : Session) (a b : ℕ) → counted_over st past s a b ≡ true → counted_over st (e ∷ past) s a b ≡ true
counted_then st e past s a b is = counts_second (counts_over st (e ∷ past) s a b) (counted_over st past s a b) is

told_counts : (x : Step) (n : ℕ) (answer : Answer) → x.input ≡ Wake → x.effects.calls ≡ [] → (s : Session) (a b : ℕ)
    → counted_over x.setting (seen x) s a b ≡ true → counted_over x.setting (seen (with_input (Told n answer) x)) s a b ≡ true
told_counts x n answer wake bare s a b is =
    by_evidence (counts_over x.setting (seen x) s a b) (counted_over x.setting x.past s a b) (counted_over x.setting (seen (with_input (Told n answer) x)) s a b ≡ true) is now
    (λ k. counted_then x.setting (entry_of (with_input (Told n answer) x)) x.past s a b k)
  where
    shown : is_some (evidence_in x.setting (calls_of (seen x) s) a b) ≡ true → counted_over x.setting (seen (with_input (Told n answer) x)) s a b ≡ true
    shown k =
        counted_then x.setting (entry_of (with_input (Told n answer) x)) x.past s a b
        (counted_now x.setting x.past s a b
        (ap (λ t. counts_with t (a == s.id && nat_lt b (generation_of x.past s) && is_some (joined_after x.past s)))
        (ap (λ ms. is_some (evidence_in x.setting (filter (is_call_of s) ms) a b)) (sym (before_entry x wake bare)) ∙ k)))

    older : (a == s.id && nat_lt b (generation_of (seen x) s) && is_some (joined_after (seen x) s)) ≡ true → counted_over x.setting (seen (with_input (Told n answer) x)) s a b ≡ true
    older k =
        counted_now x.setting (seen (with_input (Told n answer) x)) s a b
        (counts_second (is_some (evidence_in x.setting (calls_of (seen (with_input (Told n answer) x)) s) a b)) (a == s.id && nat_lt b (generation_of (seen (with_input (Told n answer) x)) s) && is_some (joined_after (seen x) s))
        (ap (λ g. a == s.id && nat_lt b g && is_some (joined_after (seen x) s)) (told_generation x n answer wake bare s) ∙ k))

    now : counts_over x.setting (seen x) s a b ≡ true → counted_over x.setting (seen (with_input (Told n answer) x)) s a b ≡ true
    now k =
        by_evidence (is_some (evidence_in x.setting (calls_of (seen x) s) a b)) (a == s.id && nat_lt b (generation_of (seen x) s) && is_some (joined_after (seen x) s))
        (counted_over x.setting (seen (with_input (Told n answer) x)) s a b ≡ true) k shown older

with_generation : Session → ℕ → Owner
with_generation s n = record { id = s.id; generation = n }

told_grows : (x : Step) (n : ℕ) (a : Answer) → x.input ≡ Wake → x.effects.calls ≡ [] → (s : Session) → Grows (way_context x.setting (seen x) s) (way_context x.setting (seen (with_input (Told n a) x)) s)
unfolding with_generation
told_grows x n a wake bare s =
    record {
      layout = refl;
      lockspace = refl;
      self = ap (λ g. with_generation s g) (sym (told_generation x n a wake bare s));
      aims = aims_stay x (Told n a) wake;
      over = λ i g is. told_counts x n a wake bare s i g is;
    }

-- ---- whose answer it is

-- The call as it was, and that it was open.
record WasOpen (x : Step) (n : ℕ) (a : Answer) (m : Submitted) : Type 0 where
  was : Submitted
  there : Contains (submitted (seen x)) was
  is : answered_in x.past (entry_of (with_input (Told n a) x)) n a was ≡ m
  none : was.answer ≡ None

told_none : (es : Trace) (e : Entry) (n : ℕ) (a : Answer) (m : Submitted) → (answered_in es e n a m).answer ≡ None → m.answer ≡ None
told_none es e n a m none = by (m.call.number == n) none where
  inner : (o : Option Answered) → option_or o (Some (answer_of es e a m.call)) ≡ None → o ≡ None
  inner None is = refl
  inner (Some b) is = absurd (none_some b (sym is))

  by : (b : Bool) → (elim b as (λ z. Submitted) [ false ↦ m | true ↦ record m { answer = option_or m.answer (Some (answer_of es e a m.call)) } ]).answer ≡ None → m.answer ≡ None
  by false is = is
  by true is = inner m.answer is

-- What was to be answered is unanswered.
awaited : (x : Step) (n : ℕ) (a : Answer) → x.input ≡ Wake → x.effects.calls ≡ [] → Expects x (Told n a) → CallFacts x.setting (seen x) → (m : Submitted) → Contains (submitted (seen x)) m → m.call.number ≡ n → m.answer ≡ None
awaited x n a wake bare expects calls m there number =
    let found = any_found (λ (d : Submitted). d.call.number == n && is_answer_for x.setting a d.call.op) (outstanding x.past) expects in
    let d : Submitted = found.0 in
    let both = and_true (d.call.number == n) (is_answer_for x.setting a d.call.op) found.2 in
    let inside = kept_inside (λ (k : Submitted). is_none k.answer) (submitted x.past) d found.1 in
    let d_there : Contains (submitted (seen x)) d = subst (λ ms. Contains ms d) (sym (before_entry x wake bare)) inside.0 in
    let same : m ≡ d =
    one_value m d (call_numbered (seen x) n) (ap (λ k. call_numbered (seen x) k) (sym number) ∙ calls.found m there)
    (ap (λ k. call_numbered (seen x) k) (sym (eqb-true d.call.number n both.0)) ∙ calls.found d d_there)
    in
    ap (λ (z : Submitted). z.answer) same ∙ none_is d.answer inside.1

was_open : (x : Step) (n : ℕ) (a : Answer) → x.input ≡ Wake → x.effects.calls ≡ [] → Expects x (Told n a) → CallFacts x.setting (seen x) → (m : Submitted) → Contains (submitted (seen (with_input (Told n a) x))) m
    → IsOpen (seen (with_input (Told n a) x)) (Some n) m → WasOpen x n a m
was_open x n a wake bare expects calls m there opens =
    let was = in_map (answered_in x.past (entry_of (with_input (Told n a) x)) n a) (submitted (seen x)) m (subst (λ ms. Contains ms m) (told_calls x n a wake bare) there) in
    record { was = was.0; there = was.1; is = was.2; none = by was.0 was.1 was.2 opens }
  where
    by : (d : Submitted) → Contains (submitted (seen x)) d → answered_in x.past (entry_of (with_input (Told n a) x)) n a d ≡ m → IsOpen (seen (with_input (Told n a) x)) (Some n) m → d.answer ≡ None
    by d inside is (inl none) = told_none x.past (entry_of (with_input (Told n a) x)) n a d (ap (λ (z : Submitted). z.answer) is ∙ none)
    by d inside is (inr heard) =
        awaited x n a wake bare expects calls d inside
        (ap (λ (c : Call). c.number) (sym (same_call x.past (entry_of (with_input (Told n a) x)) n a d).0) ∙ (ap (λ (z : Submitted). z.call.number) is ∙ sym (some_value n m.call.number heard.0)))

called_as : (x : Step) (n : ℕ) (a : Answer) (m : Submitted) → (w : WasOpen x n a m) → w.was.call ≡ m.call
called_as x n a m w = sym (same_call x.past (entry_of (with_input (Told n a) x)) n a w.was).0 ∙ ap (λ (z : Submitted). z.call) w.is

spot_by : (x : Step) (c d : Call) → c ≡ d → spot_of_call x.setting.layout (new_call 0 0 c) ≡ spot_of_call x.setting.layout (new_call 0 0 d)
spot_by x c d is = ap (λ z. spot_of_call x.setting.layout (new_call 0 0 z)) is

pub answers_leave : (x : Step) (n : ℕ) (a : Answer) → x.input ≡ Wake → x.effects.calls ≡ [] → Expects x (Told n a) → CallFacts x.setting (seen x) → LeasesStand x → LeasesStand (with_input (Told n a) x)
answers_leave x n a wake bare expects calls h =
    record {
      ways = record {
        each = λ s at there aligned.
            ways_grow (way_context x.setting (seen x) s) (way_context x.setting (seen (with_input (Told n a) x)) s) (told_grows x n a wake bare s) (lease_calls x.setting (seen (with_input (Told n a) x)) s at)
            (subst (λ ms. Ways (way_context x.setting (seen x) s) ms) (sym (told_lease x n a wake bare s at))
            (ways_answered (way_context x.setting (seen x) s) x.past (entry_of (with_input (Told n a) x)) n a (lease_calls x.setting (seen x) s at)
            (h.ways.each s at (subst (λ ss. Contains ss s) same there) aligned)));
      };
      turns = record {
        one = λ m k m_there k_there m_open k_open m_work k_work spots.
            pair m k (was_open x n a wake bare expects calls m m_there m_open) (was_open x n a wake bare expects calls k k_there k_open) m_work k_work spots;
        newest = λ s m its there opens lease. first s m (was_open x n a wake bare expects calls m there opens) (sym (ap (λ ss. slice_get ss m.call.session) same) ∙ its) lease;
      };
    }
  where
    same : sessions x.setting (seen (with_input (Told n a) x)) ≡ sessions x.setting (seen x)
    same = input_sessions x (Told n a) bare

    pair : (m k : Submitted) → WasOpen x n a m → WasOpen x n a k → IsTrue (is_area_work m.call.purpose) → IsTrue (is_area_work k.call.purpose) → spot_of_call x.setting.layout m ≡ spot_of_call x.setting.layout k → m ≡ k
    pair m k v w m_work k_work spots =
        let one : v.was ≡ w.was =
        h.turns.one v.was w.was v.there w.there (inl v.none) (inl w.none) (ap (λ (c : Call). is_area_work c.purpose) (called_as x n a m v) ∙ m_work)
        (ap (λ (c : Call). is_area_work c.purpose) (called_as x n a k w) ∙ k_work)
        (spot_by x v.was.call m.call (called_as x n a m v) ∙ (spots ∙ sym (spot_by x w.was.call k.call (called_as x n a k w))))
        in
        sym v.is ∙ (ap (λ z. answered_in x.past (entry_of (with_input (Told n a) x)) n a z) one ∙ w.is)

    first : (s : Session) (m : Submitted) → WasOpen x n a m → session_numbered x.setting (seen x) m.call.session ≡ Some s → IsTrue (is_lease_call m)
        → (ms : List Submitted) × (lease_calls x.setting (seen (with_input (Told n a) x)) s (spot_of_call x.setting.layout m) ≡ m ∷ ms)
    first s m w its lease =
        let f : Submitted → Submitted = answered_in x.past (entry_of (with_input (Told n a) x)) n a in
        let was = h.turns.newest s w.was (ap (λ (c : Call). session_numbered x.setting (seen x) c.session) (called_as x n a m w) ∙ its) w.there (inl w.none)
        (ap (λ (c : Call). is_some (lease_step c.purpose)) (called_as x n a m w) ∙ lease) in
        let spot : spot_of_call x.setting.layout w.was ≡ spot_of_call x.setting.layout m = spot_by x w.was.call m.call (called_as x n a m w) in (
          map f was.0,
          told_lease x n a wake bare s (spot_of_call x.setting.layout m)
              ∙ (ap (λ z. map f (lease_calls x.setting (seen x) s z)) (sym spot) ∙ (ap (λ zs. map f zs) was.1 ∙ ap (λ z. z ∷ map f was.0) w.is)),
        )
