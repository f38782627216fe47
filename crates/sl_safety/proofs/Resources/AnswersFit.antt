-- Answers fit their calls: a read is answered ok by bytes.
use Rattle.sl_run_law.proofs.Course.CallsAreDistinct.{mark_length}
use Rattle.sl_run.specs.Lawful.{Orderly}
use Rattle.sl_run.proofs.LawFacts.{orderly-front}
use Rattle.sl_words.proofs.Lists.{any_found, contains_cases, contains_none, in_map, kept_inside}
use Rattle.sl_run_law.proofs.Sessions.CallsAreMade.{old_or_new, same_answered}
use Rattle.sl_trace.specs.Traces.{Answered, Setting, Submitted, Trace, answer_of, answered_in, is_answer_for, is_expected, mark, new_call, outstanding, submitted}
use Rattle.sl_trace.specs.declared.effects.Call.{Call}
use Rattle.sl_trace.specs.declared.effects.Entry.{Entry}
use Rattle.sl_trace.specs.declared.input.Answer.{Answer}
use Rattle.sl_trace.specs.declared.input.Input.TheVariants.{Answer as Told, Exit, Line, Number, Spawned, Wake}
use Rattle.sl_trace.specs.declared.input.Input.{Input}
use Rattle.sl_words.proofs.CaseLaws.{no_value, some_value}
use Rattle.sl_words.proofs.WordLaws.{and_true}
use Rattle.std.proofs.Common.{ap, arith, inl, inr, refl, subst, sym, ◌∙◌}
use Rattle.std.proofs.lemmas.Bool.{eqb-true}
use Rattle.std.specs.List.{range_with_len}
use Rattle.std.specs.Option.{option_or}
use Rattle.std.specs.Prelude.{Bool, Contains, List, None, Option, Some, [], false, fold, is_none, length, map, suc, true, ℕ, ◌&&◌, ◌+◌, ◌<◌, ◌==◌, ◌∷◌, ◌≡◌, ◌⊎◌}

-- ---- a number names one call

-- Calls are numbered on from n, the oldest first.
abbrev AreNumbered : ℕ → List Submitted → Type 0
AreNumbered n [] = Unit {0}
AreNumbered n (m ∷ ms) = (m.call.number ≡ n + length ms) × AreNumbered n ms

marked_length : (es : Trace) (e : Entry) (n : ℕ) (a : Answer) (ms : List Submitted) → length (map (answered_in es e n a) ms) ≡ length ms
marked_length es e n a [] = refl
marked_length es e n a (m ∷ ms) = ap (λ k. suc k) (marked_length es e n a ms)

numbers_marked : (k : ℕ) (es : Trace) (e : Entry) (n : ℕ) (a : Answer) (ms : List Submitted) → AreNumbered k ms → AreNumbered k (map (answered_in es e n a) ms)
numbers_marked k es e n a [] h = tt
numbers_marked k es e n a (m ∷ ms) h =
    (ap (λ (c : Call). c.number) (same_answered es e n a m).call ∙ h.0 ∙ ap (λ j. k + j) (sym (marked_length es e n a ms)), numbers_marked k es e n a ms h.1)

abbrev adds : ℕ → ℕ → List Submitted → Call → List Submitted
adds at reading ms c = new_call at reading c ∷ ms

head_same : (x y : ℕ) (xs ys : List ℕ) → x ∷ xs ≡ y ∷ ys → (x ≡ y) × (xs ≡ ys)
head_same x y xs ys h = (cc, cc)

one_further : (k l : ℕ) → k + l + 1 ≡ k + suc l
one_further k l = omega arith

numbers_added : (k at reading : ℕ) (cs : List Call) (ms : List Submitted) → map (λ c. c.number) cs ≡ range_with_len (k + length ms) (length cs) → AreNumbered k ms
    → AreNumbered k (fold (adds at reading) ms cs)
numbers_added k at reading [] ms is h = h
numbers_added k at reading (c ∷ cs) ms is h =
    let s = head_same c.number (k + length ms) (map (λ c. c.number) cs) (range_with_len (k + length ms + 1) (length cs)) is in
    numbers_added k at reading cs (new_call at reading c ∷ ms)
    (s.1 ∙ ap (λ n. range_with_len n (length cs)) (one_further k (length ms))) (s.0, h)

numbers_input : (k : ℕ) (es : Trace) (e : Entry) (i : Input) (ms : List Submitted) → AreNumbered k ms → AreNumbered k (mark es e i ms)
numbers_input k es e (Told n a) ms h = numbers_marked k es e n a ms h
numbers_input k es e (Line text) ms h = h
numbers_input k es e (Number text) ms h = h
numbers_input k es e (Exit p) ms h = h
numbers_input k es e (Spawned p ok) ms h = h
numbers_input k es e Wake ms h = h

are_numbered : (st : Setting) (es : Trace) → Orderly st es → AreNumbered st.first.call (submitted es)
are_numbered st [] h = tt
are_numbered st (e ∷ es) h =
    numbers_added st.first.call (length es) e.reading e.effects.calls (mark es e e.input (submitted es))
    (h.is_trace.0.numbered ∙ ap (λ n. range_with_len (st.first.call + n) (length e.effects.calls)) (sym (mark_length es e e.input (submitted es))))
    (numbers_input st.first.call es e e.input (submitted es) (are_numbered st es (orderly-front st (e ∷ []) es h)))

below_all : (k : ℕ) (ms : List Submitted) (m : Submitted) → AreNumbered k ms → Contains ms m → m.call.number < k + length ms
below_all k [] m h has = absurd (contains_none m has)
below_all k (x ∷ ms) m h has =
    elim (contains_cases x ms m has) as (λ z. m.call.number < k + suc (length ms)) [
      | inl e ↦ let at : m.call.number ≡ k + length ms = ap (λ (y : Submitted). y.call.number) (sym e) ∙ h.0 in omega (arith, at)
      | inr more ↦ let lt : m.call.number < k + length ms = below_all k ms m h.1 more in omega (arith, lt)
    ]

apart : (a b c : ℕ) → a ≡ c → b < c → a ≡ b → ⊥
apart a b c p q r = omega (arith, p, q, r)

one_call : (k : ℕ) (ms : List Submitted) (m n : Submitted) → AreNumbered k ms → Contains ms m → Contains ms n → m.call.number ≡ n.call.number → m ≡ n
one_call k [] m n h has too same = absurd (contains_none m has)
one_call k (x ∷ ms) m n h has too same = by (λ p q. one_call k ms m n h.1 p q same) (contains_cases x ms m has) (contains_cases x ms n too) where
  by : (Contains ms m → Contains ms n → m ≡ n) → (x ≡ m) ⊎ Contains ms m → (x ≡ n) ⊎ Contains ms n → m ≡ n
  by rest (inl p) (inl q) = sym p ∙ q
  by rest (inl p) (inr q) =
      absurd (apart m.call.number n.call.number (k + length ms) (ap (λ (y : Submitted). y.call.number) (sym p) ∙ h.0) (below_all k ms n h.1 q) same)
  by rest (inr p) (inl q) =
      absurd (apart n.call.number m.call.number (k + length ms) (ap (λ (y : Submitted). y.call.number) (sym q) ∙ h.0) (below_all k ms m h.1 p) (sym same))
  by rest (inr p) (inr q) = rest p q

-- ---- an answer fits

abbrev Fits : Setting → Trace → Type 0
Fits st es = (q : Submitted) → Contains (submitted es) q → (a : Answered) → q.answer ≡ Some a → is_answer_for st a.answer q.call.op ≡ true

fit_by : (st : Setting) (es : Trace) (e : Entry) (n : ℕ) (w : Answer) (m : Submitted) (a : Answered) (b : Bool) (o : Option Answered) → (m.call.number == n) ≡ b → m.answer ≡ o
    → elim b as (λ z. Option Answered) [ false ↦ o | true ↦ option_or o (Some (answer_of es e w m.call)) ] ≡ Some a
    → (m.answer ≡ Some a → is_answer_for st a.answer m.call.op ≡ true) → (m.call.number ≡ n → is_answer_for st w m.call.op ≡ true) → is_answer_for st a.answer m.call.op ≡ true
fit_by st es e n w m a false o is told h old new = old (told ∙ h)
fit_by st es e n w m a true (Some c) is told h old new = old (told ∙ h)
fit_by st es e n w m a true None is told h old new =
    subst (λ (y : Answered). is_answer_for st y.answer m.call.op ≡ true) (some_value (answer_of es e w m.call) a h) (new (eqb-true m.call.number n is))

answer_in : (es : Trace) (e : Entry) (n : ℕ) (w : Answer) (m : Submitted) (b : Bool)
    → (elim b as (λ z. Submitted) [ false ↦ m | true ↦ record m { answer = option_or m.answer (Some (answer_of es e w m.call)) } ]).answer
    ≡ elim b as (λ z. Option Answered) [ false ↦ m.answer | true ↦ option_or m.answer (Some (answer_of es e w m.call)) ]
answer_in es e n w m true = refl
answer_in es e n w m false = refl

fits_told : (st : Setting) (es : Trace) (e : Entry) (n : ℕ) (w : Answer) → Orderly st es → Fits st es → is_expected st es (Told n w) ≡ true → (q : Submitted)
    → Contains (map (answered_in es e n w) (submitted es)) q → (a : Answered) → q.answer ≡ Some a → is_answer_for st a.answer q.call.op ≡ true
fits_told st es e n w law old expected q has a told =
    let m = in_map (answered_in es e n w) (submitted es) q has in
    let call : q.call ≡ m.0.call = ap (λ (y : Submitted). y.call) (sym m.2) ∙ (same_answered es e n w m.0).call in
    let x = any_found (λ (y : Submitted). y.call.number == n && is_answer_for st w y.call.op) (outstanding es) expected in
    let xin = (kept_inside (λ (y : Submitted). is_none y.answer) (submitted es) x.0 x.1).0 in
    let both = and_true (x.0.call.number == n) (is_answer_for st w x.0.call.op) x.2 in
    subst (λ c. is_answer_for st a.answer c.op ≡ true) (sym call)
    (fit_by st es e n w m.0 a (m.0.call.number == n) m.0.answer refl refl
    (sym (answer_in es e n w m.0 (m.0.call.number == n)) ∙ ap (λ (y : Submitted). y.answer) m.2 ∙ told) (λ k. old m.0 m.1 a k)
    (λ k. subst (λ (y : Submitted). is_answer_for st w y.call.op ≡ true)
    (one_call st.first.call (submitted es) x.0 m.0 (are_numbered st es law) xin m.1 (eqb-true x.0.call.number n both.0 ∙ sym k)) both.1))

fits_input : (st : Setting) (es : Trace) (e : Entry) (i : Input) → Orderly st es → Fits st es → is_expected st es i ≡ true → (q : Submitted)
    → Contains (mark es e i (submitted es)) q → (a : Answered) → q.answer ≡ Some a → is_answer_for st a.answer q.call.op ≡ true
fits_input st es e (Told n w) law old expected q has a told = fits_told st es e n w law old expected q has a told
fits_input st es e (Line text) law old expected q has a told = old q has a told
fits_input st es e (Number text) law old expected q has a told = old q has a told
fits_input st es e (Exit p) law old expected q has a told = old q has a told
fits_input st es e (Spawned p ok) law old expected q has a told = old q has a told
fits_input st es e Wake law old expected q has a told = old q has a told

-- Each answer is one for its call.
pub answers_fit : (st : Setting) (es : Trace) → Orderly st es → Fits st es
answers_fit st [] law q has a told = absurd (contains_none q has)
answers_fit st (e ∷ es) law q has a told =
    let front = orderly-front st (e ∷ []) es law in
    elim (old_or_new (length es) e.reading e.effects.calls (mark es e e.input (submitted es)) q has) as (λ z. is_answer_for st a.answer q.call.op ≡ true) [
      | inl old ↦ fits_input st es e e.input front (answers_fit st es front) law.is_trace.0.expected q old a told
      | inr new ↦ absurd (no_value a q.answer told new.unmet)
    ]
