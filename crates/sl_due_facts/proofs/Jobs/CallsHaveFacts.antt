-- What is known of calls is kept by each act: a call's number finds it, its answer is later than it and fits it.
use Rattle.sl_due_facts.proofs.Acts.AddedAtEnd.{begun_by}
use Rattle.sl_due_facts.specs.Acts.Acts.{Expects}
use Rattle.sl_due_facts.specs.Acts.TraceSoFar.{entry_of}
use Rattle.sl_due.specs.Steps.{Step, add_call_of, seen, with_input}
use Rattle.sl_due_facts.specs.Jobs.JobLaws.{HasCallFacts}
use Rattle.sl_words.proofs.Lists.{any_found, contains_cases, contains_none, in_map, kept_inside}
use Rattle.sl_words.proofs.Numbers.{below_itself_suc, less_than_suc, number_itself}
use Rattle.sl_words.proofs.Options.{some_of}
use Rattle.sl_trace.specs.Sessions.{is_join_call, session_numbered, sessions}
use Rattle.sl_trace.specs.declared.session.Session.{Session}
use Rattle.sl_trace.proofs.TraceFacts.{submitted-push}
use Rattle.sl_trace.specs.Traces.{Answered, Setting, Submitted, Trace, answer_of, answered_in, call_numbered, is_answer_for, is_expected, mark, new_call, next_call, outstanding, submitted}
use Rattle.sl_trace.specs.declared.effects.Call.{Call}
use Rattle.sl_trace.specs.declared.effects.Entry.{Entry}
use Rattle.sl_trace.specs.declared.effects.JoinStep.TheVariants.{FirstRead}
use Rattle.sl_trace.specs.declared.effects.Op.{Op}
use Rattle.sl_trace.specs.declared.effects.Purpose.{Purpose}
use Rattle.sl_trace.specs.declared.input.Answer.{Answer}
use Rattle.sl_trace.specs.declared.input.Input.{Input}
use Rattle.sl_trace.specs.declared.input.Input.TheVariants.{Answer as Told, Wake}
use Rattle.sl_run_law.proofs.Sessions.CallsAreMade.{IsNewCall, SameCall, WasOpen, old_or_new, same_answered, was_marked}
use Rattle.sl_words.proofs.CaseLaws.{is_false, no_value, one_value, some_value}
use Rattle.sl_words.proofs.WordLaws.{and_true}
use Rattle.std.proofs.Common.{ap, ap₂, arith, inl, inr, refl, subst, sym, ◌∙◌}
use Rattle.std.proofs.lemmas.Bool.{eqb-true}
use Rattle.std.proofs.lemmas.List.{append-nil}
use Rattle.std.specs.List.{list_any}
use Rattle.std.specs.Option.{option_or}
use Rattle.std.specs.Prelude.{Bool, Contains, IsSome, IsTrue, List, None, Option, Some, [], cond, false, find, fold, is_none, length, map, option_map, slice_get, suc, true, ℕ, ◌&&◌, ◌++◌, ◌+◌, ◌<◌, ◌==◌, ◌∷◌, ◌≡◌, ◌⊎◌}

-- ---- of any trace: answers come later

abbrev called : ℕ → ℕ → List Submitted → Call → List Submitted
called at reading ms c = new_call at reading c ∷ ms

abbrev pub IsTimely : ℕ → Submitted → Type 0
IsTimely n m = (m.at < n) × ((a : Answered) → m.answer ≡ Some a → (m.at < a.at) × (a.at < n))

timely_more : (n : ℕ) (m : Submitted) → IsTimely n m → IsTimely (suc n) m
timely_more n m h = (less_than_suc m.at n h.0, λ a is. let in_time = h.1 a is in (in_time.0, less_than_suc a.at n in_time.1))

answered_timely : (n : ℕ) (m : Submitted) (a : Answered) (b : Bool) (o : Option Answered) → m.answer ≡ o → a.at ≡ n → IsTimely n m
    → IsTimely (suc n) (elim b as (λ z. Submitted) [ false ↦ m | true ↦ record m { answer = option_or m.answer (Some a) } ])
answered_timely n m a false o is at h = timely_more n m h
answered_timely n m a true (Some c) is at h =
    (less_than_suc m.at n h.0, λ d its. let in_time = h.1 d (is ∙ (sym (ap (λ q. option_or q (Some a)) is) ∙ its)) in (in_time.0, less_than_suc d.at n in_time.1))
answered_timely n m a true None is at h = (
  less_than_suc m.at n h.0,
  λ d its.
      let one : a ≡ d = some_value a d (sym (ap (λ q. option_or q (Some a)) is) ∙ its) in
      let there : d.at ≡ n = ap (λ (z : Answered). z.at) (sym one) ∙ at in
      (subst (λ k. m.at < k) (sym there) h.0, subst (λ k. k < suc n) (sym there) (below_itself_suc n)),
)

told_timely : (es : Trace) (e : Entry) (n : ℕ) (a : Answer) (ms : List Submitted) → ((m : Submitted) → Contains ms m → IsTimely (length es) m) → (m : Submitted) → Contains (map (answered_in es e n a) ms) m → IsTimely (suc (length es)) m
told_timely es e n a ms all m there =
    let was = in_map (answered_in es e n a) ms m there in
    subst (λ (z : Submitted). IsTimely (suc (length es)) z) was.2 (answered_timely (length es) was.0 (answer_of es e a was.0.call) (was.0.call.number == n) was.0.answer refl refl (all was.0 was.1))

marked_timely : (es : Trace) (e : Entry) (i : Input) (ms : List Submitted) → ((m : Submitted) → Contains ms m → IsTimely (length es) m) → (m : Submitted) → Contains (mark es e i ms) m → IsTimely (suc (length es)) m
marked_timely es e (Told n a) ms all m there = told_timely es e n a ms all m there
marked_timely es e i ms all m there = timely_more (length es) m (all m there)

pub timely : (es : Trace) (m : Submitted) → Contains (submitted es) m → IsTimely (length es) m
timely [] m there = absurd (contains_none m there)
timely (e ∷ es) m there = by (old_or_new (length es) e.reading e.effects.calls (mark es e e.input (submitted es)) m there) (λ k inside. timely es k inside) where
  by : Contains (mark es e e.input (submitted es)) m ⊎ IsNewCall (length es) e.reading e.effects.calls m → ((k : Submitted) → Contains (submitted es) k → IsTimely (length es) k) → IsTimely (suc (length es)) m
  by (inl old) all = marked_timely es e e.input (submitted es) all m old
  by (inr new) all = (subst (λ k. k < suc (length es)) (sym new.place) (below_itself_suc (length es)), λ a is. absurd (no_value a m.answer is new.unmet))

-- ---- kept by each effect

-- More is another number.
pub more_is_other : (a b : ℕ) → a < b → (b == a) ≡ false
more_is_other a b less = is_false (b == a) (λ is. let same : b ≡ a = eqb-true b a is in omega (arith, less, same))

pub one_more : (x : Step) (s : Session) (path : List ℕ) (p : Purpose) (o : ℕ) (op : Op) → IsSome (session_numbered x.setting (seen (add_call_of s.number path p o op x)) s.number)
    → ((n : ℕ) (z : Session) → session_numbered x.setting (seen x) n ≡ Some z → session_numbered x.setting (seen (add_call_of s.number path p o op x)) n ≡ Some z)
    → HasCallFacts x → HasCallFacts (add_call_of s.number path p o op x)
one_more x s path p o op its stays h =
    record {
      owned = λ m there. owned m (among m there);
      found = λ m there. found m (among m there);
      below = λ m there. below m (among m there);
      made = λ m there. (timely (seen y) m there).0;
      later = λ m a there is. (timely (seen y) m there).1 a is;
      fits = λ m a there is. fits m a is (among m there);
    } where
      y : Step
      y = add_call_of s.number path p o op x

      made : Call
      made = record { number = next_call x.setting (seen x); session = s.number; purpose = p; path = path; offset = o; op = op }

      new : Submitted
      new = new_call (length x.past) x.reading made

      grown : submitted (seen (add_call_of s.number path p o op x)) ≡ new ∷ submitted (seen x)
      grown = submitted-push x.past (entry_of x) made

      among : (m : Submitted) → Contains (submitted (seen (add_call_of s.number path p o op x))) m → (new ≡ m) ⊎ Contains (submitted (seen x)) m
      among m there = contains_cases new (submitted (seen x)) m (subst (λ ms. Contains ms m) grown there)

      owned : (m : Submitted) → (new ≡ m) ⊎ Contains (submitted (seen x)) m → IsSome (session_numbered x.setting (seen (add_call_of s.number path p o op x)) m.call.session)
      owned m (inl is) = subst (λ (z : Submitted). IsSome (session_numbered x.setting (seen (add_call_of s.number path p o op x)) z.call.session)) is its
      owned m (inr old) = let was = some_of (session_numbered x.setting (seen x) m.call.session) (h.owned m old) in subst (λ q. IsSome q) (sym (stays m.call.session was.0 was.1)) refl

      found : (m : Submitted) → (new ≡ m) ⊎ Contains (submitted (seen x)) m → call_numbered (seen (add_call_of s.number path p o op x)) m.call.number ≡ Some m
      found m (inl is) =
          subst (λ (z : Submitted). call_numbered (seen (add_call_of s.number path p o op x)) z.call.number ≡ Some z) is
          (ap (λ ms. find (λ (z : Submitted). z.call.number == next_call x.setting (seen x)) ms) grown ∙ ap (λ b. cond b (Some new) (find (λ (z : Submitted). z.call.number == next_call x.setting (seen x)) (submitted (seen x)))) (number_itself (next_call x.setting (seen x))))
      found m (inr old) =
          ap (λ ms. find (λ (z : Submitted). z.call.number == m.call.number) ms) grown
          ∙ (ap (λ b. cond b (Some new) (call_numbered (seen x) m.call.number)) (more_is_other m.call.number (next_call x.setting (seen x)) (h.below m old)) ∙ h.found m old)

      below : (m : Submitted) → (new ≡ m) ⊎ Contains (submitted (seen x)) m → m.call.number < next_call x.setting (seen (add_call_of s.number path p o op x))
      below m old =
          let more : next_call x.setting (seen (add_call_of s.number path p o op x)) ≡ x.setting.first.call + suc (length (submitted (seen x))) = ap (λ ms. x.setting.first.call + length ms) grown in
          subst (λ k. m.call.number < k) (sym more) (by old) where
            by : (new ≡ m) ⊎ Contains (submitted (seen x)) m → m.call.number < x.setting.first.call + suc (length (submitted (seen x)))
            by (inl is) = let its : x.setting.first.call + length (submitted (seen x)) ≡ m.call.number = ap (λ (z : Submitted). z.call.number) is in omega (arith, its)
            by (inr was) = let less : m.call.number < x.setting.first.call + length (submitted (seen x)) = h.below m was in omega (arith, less)

      fits : (m : Submitted) (a : Answered) → m.answer ≡ Some a → (new ≡ m) ⊎ Contains (submitted (seen x)) m → IsTrue (is_answer_for x.setting a.answer m.call.op)
      fits m a is (inl new_one) = absurd (no_value a m.answer is (ap (λ (z : Submitted). z.answer) (sym new_one)))
      fits m a is (inr old) = h.fits m a old is

-- ---- kept by the input

pub calls_before : (x : Step) → x.input ≡ Wake → x.effects.calls ≡ [] → submitted (seen x) ≡ submitted x.past
calls_before x wake bare =
    ap (λ cs. fold (called (length x.past) x.reading) (mark x.past (entry_of x) x.input (submitted x.past)) cs) bare ∙ ap (λ i. mark x.past (entry_of x) i (submitted x.past)) wake

pub calls_told : (x : Step) (i : Input) → x.effects.calls ≡ [] → submitted (seen (with_input i x)) ≡ mark x.past (entry_of (with_input i x)) i (submitted x.past)
calls_told x i bare = ap (λ cs. fold (called (length x.past) x.reading) (mark x.past (entry_of (with_input i x)) i (submitted x.past)) cs) bare

pub sessions_bare : (x : Step) → x.effects.calls ≡ [] → sessions x.setting (seen x) ≡ sessions x.setting x.past
sessions_bare x bare =
    let ss : List Session = sessions x.setting x.past in
    ap (λ cs. ss ++ begun_by x.setting x.past (length ss) (entry_of x) (list_any (λ (c : Call). is_join_call FirstRead c.purpose) cs)) bare ∙ append-nil ss

pub sessions_told : (x : Step) (i : Input) → x.effects.calls ≡ [] → sessions x.setting (seen (with_input i x)) ≡ sessions x.setting (seen x)
sessions_told x i bare = sessions_bare (with_input i x) bare ∙ sym (sessions_bare x bare)

mapped_length : {A B : Type 0} (f : A → B) (xs : List A) → length (map f xs) ≡ length xs
mapped_length f [] = refl
mapped_length f (x ∷ xs) = ap (λ n. suc n) (mapped_length f xs)

pub find_mapped : {A : Type 0} (p : A → Bool) (f : A → A) (xs : List A) → ((a : A) → p (f a) ≡ p a) → find p (map f xs) ≡ option_map f (find p xs)
find_mapped p f [] same = refl
find_mapped {A} p f (x ∷ xs) same = ap₂ (λ b o. cond b (Some (f x)) o) (same x) (find_mapped p f xs same) ∙ turned (p x) where
  turned : (b : Bool) → cond b (Some (f x)) (option_map f (find p xs)) ≡ option_map f (cond b (Some x) (find p xs))
  turned true = refl
  turned false = refl

marked_found : (es : Trace) (e : Entry) (i : Input) (ms : List Submitted) (n : ℕ) (b : Submitted) → find (λ (m : Submitted). m.call.number == n) ms ≡ Some b
    → (m : Submitted) × (find (λ (z : Submitted). z.call.number == n) (mark es e i ms) ≡ Some m) × SameCall m b
marked_found es e (Told k a) ms n b is = (
  answered_in es e k a b,
  find_mapped (λ (m : Submitted). m.call.number == n) (answered_in es e k a) ms (λ m. ap (λ (c : Call). c.number == n) (same_answered es e k a m).call) ∙ ap (λ o. option_map (answered_in es e k a) o) is,
  same_answered es e k a b,
)
marked_found es e i ms n b is = (b, is, record { at = refl; reading = refl; call = refl })

-- Each marked call is the one that its number finds.
itself_found : (es : Trace) (e : Entry) (i : Input) (ms : List Submitted) → ((b : Submitted) → Contains ms b → find (λ (z : Submitted). z.call.number == b.call.number) ms ≡ Some b)
    → (m : Submitted) → Contains (mark es e i ms) m → find (λ (z : Submitted). z.call.number == m.call.number) (mark es e i ms) ≡ Some m
itself_found es e (Told k a) ms all m there =
    let was = in_map (answered_in es e k a) ms m there in
    let found : find (λ (z : Submitted). z.call.number == was.0.call.number) (map (answered_in es e k a) ms) ≡ Some (answered_in es e k a was.0) =
    find_mapped (λ (z : Submitted). z.call.number == was.0.call.number) (answered_in es e k a) ms (λ z. ap (λ (c : Call). c.number == was.0.call.number) (same_answered es e k a z).call)
    ∙ ap (λ o. option_map (answered_in es e k a) o) (all was.0 was.1)
    in
    subst (λ (z : Submitted). find (λ (y : Submitted). y.call.number == z.call.number) (map (answered_in es e k a) ms) ≡ Some z) was.2
    (subst (λ (c : Call). find (λ (y : Submitted). y.call.number == c.number) (map (answered_in es e k a) ms) ≡ Some (answered_in es e k a was.0)) (sym (same_answered es e k a was.0).call) found)
itself_found es e i ms all m there = all m there

-- What answers a call fits it.
answer_fits : (st : Setting) (es : Trace) (e : Entry) (i : Input) → IsTrue (is_expected st es i)
    → ((b : Submitted) → Contains (submitted es) b → call_numbered es b.call.number ≡ Some b)
    → ((b : Submitted) (a : Answered) → Contains (submitted es) b → b.answer ≡ Some a → IsTrue (is_answer_for st a.answer b.call.op))
    → (m : Submitted) (a : Answered) → Contains (mark es e i (submitted es)) m → m.answer ≡ Some a → IsTrue (is_answer_for st a.answer m.call.op)
answer_fits st es e (Told k ans) expected found fits m a there is =
    let was = in_map (answered_in es e k ans) (submitted es) m there in
    let its = by was.0 was.1 (was.0.call.number == k) refl was.0.answer refl a (ap (λ (z : Submitted). z.answer) was.2 ∙ is) in
    subst (λ (c : Call). IsTrue (is_answer_for st a.answer c.op)) (sym (same_answered es e k ans was.0).call ∙ ap (λ (z : Submitted). z.call) was.2) its
  where
    asked : (b : Submitted) → Contains (submitted es) b → (b.call.number == k) ≡ true → IsTrue (is_answer_for st ans b.call.op)
    asked b inside its =
        let open_one = any_found (λ (d : Submitted). d.call.number == k && is_answer_for st ans d.call.op) (outstanding es) expected in
        let d : Submitted = open_one.0 in
        let both = and_true (d.call.number == k) (is_answer_for st ans d.call.op) open_one.2 in
        let there_too : Contains (submitted es) d = (kept_inside (λ (z : Submitted). is_none z.answer) (submitted es) d open_one.1).0 in
        let numbers : d.call.number ≡ b.call.number = eqb-true d.call.number k both.0 ∙ sym (eqb-true b.call.number k its) in
        let one : d ≡ b = one_value d b (call_numbered es b.call.number) (subst (λ n. call_numbered es n ≡ Some d) numbers (found d there_too)) (found b inside) in
        subst (λ (z : Submitted). IsTrue (is_answer_for st ans z.call.op)) one both.1

    by : (b : Submitted) → Contains (submitted es) b → (t : Bool) → (b.call.number == k) ≡ t → (o : Option Answered) → b.answer ≡ o → (d : Answered)
        → (elim t as (λ z. Submitted) [ false ↦ b | true ↦ record b { answer = option_or b.answer (Some (answer_of es e ans b.call)) } ]).answer ≡ Some d → IsTrue (is_answer_for st d.answer b.call.op)
    by b inside false other o before d its = fits b d inside its
    by b inside true mine (Some c) before d its = fits b d inside (before ∙ (sym (ap (λ q. option_or q (Some (answer_of es e ans b.call))) before) ∙ its))
    by b inside true mine None before d its =
        let new : answer_of es e ans b.call ≡ d = some_value (answer_of es e ans b.call) d (sym (ap (λ q. option_or q (Some (answer_of es e ans b.call))) before) ∙ its) in
        subst (λ (z : Answered). IsTrue (is_answer_for st z.answer b.call.op)) new (asked b inside mine)
answer_fits st es e i expected found fits m a there is = fits m a there is

pub input_kept : (x : Step) (i : Input) → x.input ≡ Wake → x.effects.calls ≡ [] → Expects x i → HasCallFacts x → HasCallFacts (with_input i x)
input_kept x i wake bare expected h =
    record {
      owned = λ m there. let was = before m there in subst (λ o. IsSome o) (ap (λ (c : Call). session_numbered x.setting (seen x) c.session) (sym was.same.call) ∙ ap (λ ss. slice_get ss m.call.session) (sym (sessions_told x i bare))) (h.owned was.before (now was.before was.inside));
      found = λ m there. ap (λ ms. find (λ (z : Submitted). z.call.number == m.call.number) ms) told ∙ itself_found x.past e i (submitted x.past) finds m (subst (λ ms. Contains ms m) told there);
      below = λ m there. let was = before m there in
          subst (λ (c : Call). c.number < next_call x.setting (seen (with_input i x))) (sym was.same.call)
          (subst (λ k. was.before.call.number < k) (sym (numbers i)) (h.below was.before (now was.before was.inside)));
      made = λ m there. (timely (seen (with_input i x)) m there).0;
      later = λ m a there is. (timely (seen (with_input i x)) m there).1 a is;
      fits = λ m a there is. answer_fits x.setting x.past e i expected finds (λ b d inside its. h.fits b d (now b inside) its) m a (subst (λ ms. Contains ms m) told there) is;
    } where
      e : Entry
      e = entry_of (with_input i x)

      told : submitted (seen (with_input i x)) ≡ mark x.past (entry_of (with_input i x)) i (submitted x.past)
      told = calls_told x i bare

      now : (b : Submitted) → Contains (submitted x.past) b → Contains (submitted (seen x)) b
      now b there = subst (λ ms. Contains ms b) (sym (calls_before x wake bare)) there

      before : (m : Submitted) → Contains (submitted (seen (with_input i x))) m → WasOpen (submitted x.past) m
      before m there = was_marked x.past (entry_of (with_input i x)) i (submitted x.past) m (subst (λ ms. Contains ms m) (calls_told x i bare) there)

      finds : (b : Submitted) → Contains (submitted x.past) b → call_numbered x.past b.call.number ≡ Some b
      finds b there = ap (λ ms. find (λ (z : Submitted). z.call.number == b.call.number) ms) (sym (calls_before x wake bare)) ∙ h.found b (now b there)

      marked_length : (k : Input) (ms : List Submitted) → length (mark x.past (entry_of (with_input i x)) k ms) ≡ length ms
      marked_length (Told n a) ms = mapped_length (answered_in x.past (entry_of (with_input i x)) n a) ms
      marked_length k ms = refl

      numbers : (k : Input) → next_call x.setting (seen (with_input i x)) ≡ next_call x.setting (seen x)
      numbers k = ap (λ ms. x.setting.first.call + length ms) (calls_told x i bare) ∙ (ap (λ n. x.setting.first.call + n) (marked_length i (submitted x.past)) ∙ ap (λ ms. x.setting.first.call + length ms) (sym (calls_before x wake bare)))
