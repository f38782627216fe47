-- Where calls were made, and that their answers stay.
use Rattle.sl_words.proofs.Lists.{contains_cases, contains_first, contains_more, contains_none}
use Rattle.sl_run_law.specs.Sessions.SessionLaws.{AnswersStay, CallsAreMade, IsMade}
use Rattle.sl_trace.specs.Traces.{Answered, Submitted, Trace, answer_of, answered_in, mark, new_call, submitted}
use Rattle.sl_trace.specs.declared.effects.Call.{Call}
use Rattle.sl_trace.specs.declared.effects.Entry.{Entry}
use Rattle.sl_trace.specs.declared.input.Answer.{Answer}
use Rattle.sl_trace.specs.declared.input.Input.TheVariants.{Answer as Told, Exit, Line, Number, Spawned, Wake}
use Rattle.sl_trace.specs.declared.input.Input.{Input}
use Rattle.sl_words.proofs.CaseLaws.{no_value}
use Rattle.std.proofs.Common.{ap, inl, inr, refl, subst, sym, ◌∙◌}
use Rattle.std.specs.Option.{option_or}
use Rattle.std.specs.Prelude.{Bool, Contains, List, None, Option, Some, [], false, fold, length, map, slice_get, suc, true, zero, ℕ, ◌++◌, ◌==◌, ◌∷◌, ◌≡◌, ◌⊎◌}

-- ---- lists

-- ---- the calls of an entry

abbrev called : ℕ → ℕ → List Submitted → Call → List Submitted
called at reading ms c = new_call at reading c ∷ ms

pub record IsNewCall (at reading : ℕ) (cs : List Call) (m : Submitted) : Type 0 where
  pub index : ℕ
  pub call : slice_get cs index ≡ Some m.call
  pub place : m.at ≡ at
  pub reading_is : m.reading ≡ reading
  pub unmet : m.answer ≡ None

next_call_is : (at reading : ℕ) (c : Call) (cs : List Call) (m : Submitted) → IsNewCall at reading cs m → IsNewCall at reading (c ∷ cs) m
next_call_is at reading c cs m n = record { index = suc n.index; call = n.call; place = n.place; reading_is = n.reading_is; unmet = n.unmet }

first_call_is : (at reading : ℕ) (c : Call) (cs : List Call) (m : Submitted) → new_call at reading c ≡ m → IsNewCall at reading (c ∷ cs) m
first_call_is at reading c cs m is =
    subst (λ (x : Submitted). IsNewCall at reading (c ∷ cs) x) is (record { index = zero; call = refl; place = refl; reading_is = refl; unmet = refl })

either_new : (at reading : ℕ) (c : Call) (cs : List Call) (ms : List Submitted) (m : Submitted)
    → Contains (new_call at reading c ∷ ms) m ⊎ IsNewCall at reading cs m → Contains ms m ⊎ IsNewCall at reading (c ∷ cs) m
either_new at reading c cs ms m (inr n) = inr (next_call_is at reading c cs m n)
either_new at reading c cs ms m (inl there) = first_or_old (contains_cases (new_call at reading c) ms m there) where
  first_or_old : (new_call at reading c ≡ m) ⊎ Contains ms m → Contains ms m ⊎ IsNewCall at reading (c ∷ cs) m
  first_or_old (inl is) = inr (first_call_is at reading c cs m is)
  first_or_old (inr old) = inl old

pub old_or_new : (at reading : ℕ) (cs : List Call) (ms : List Submitted) (m : Submitted) → Contains (fold (called at reading) ms cs) m → Contains ms m ⊎ IsNewCall at reading cs m
old_or_new at reading [] ms m there = inl there
old_or_new at reading (c ∷ cs) ms m there = either_new at reading c cs ms m (old_or_new at reading cs (new_call at reading c ∷ ms) m there)

pub old_stays : (at reading : ℕ) (cs : List Call) (ms : List Submitted) (m : Submitted) → Contains ms m → Contains (fold (called at reading) ms cs) m
old_stays at reading [] ms m there = there
old_stays at reading (c ∷ cs) ms m there = old_stays at reading cs (new_call at reading c ∷ ms) m (contains_more (new_call at reading c) ms m there)

-- ---- answers

pub record SameCall (m n : Submitted) : Type 0 where
  pub at : m.at ≡ n.at
  pub reading : m.reading ≡ n.reading
  pub call : m.call ≡ n.call

same_by : (m : Submitted) (a : Answered) (b : Bool) → SameCall (elim b as (λ x. Submitted) [ false ↦ m | true ↦ record m { answer = option_or m.answer (Some a) } ]) m
same_by m a false = record { at = refl; reading = refl; call = refl }
same_by m a true = record { at = refl; reading = refl; call = refl }

pub same_answered : (es : Trace) (e : Entry) (n : ℕ) (a : Answer) (m : Submitted) → SameCall (answered_in es e n a m) m
same_answered es e n a m = same_by m (answer_of es e a m.call) (m.call.number == n)

pub record WasOpen (ms : List Submitted) (m : Submitted) : Type 0 where
  pub before : Submitted
  pub inside : Contains ms before
  pub same : SameCall m before
  pub unmet : m.answer ≡ None → before.answer ≡ None

unmet_by : (m : Submitted) (a : Answered) (b : Bool) (o : Option Answered) → m.answer ≡ o
    → (elim b as (λ x. Submitted) [ false ↦ m | true ↦ record m { answer = option_or m.answer (Some a) } ]).answer ≡ None → m.answer ≡ None
unmet_by m a false o is none = none
unmet_by m a true None is none = is
unmet_by m a true (Some c) is none = absurd (no_value c (option_or (Some c) (Some a)) refl (ap (λ q. option_or q (Some a)) (sym is) ∙ none))

was_more : (x : Submitted) (ms : List Submitted) (m : Submitted) → WasOpen ms m → WasOpen (x ∷ ms) m
was_more x ms m w = record { before = w.before; inside = contains_more x ms w.before w.inside; same = w.same; unmet = w.unmet }

was_told : (es : Trace) (e : Entry) (n : ℕ) (a : Answer) (ms : List Submitted) (m : Submitted) → Contains (map (answered_in es e n a) ms) m → WasOpen ms m
was_told es e n a [] m there = absurd (contains_none m there)
was_told es e n a (x ∷ ms) m there = by (λ rest. was_told es e n a ms m rest) (contains_cases (answered_in es e n a x) (map (answered_in es e n a) ms) m there) where
  by : (Contains (map (answered_in es e n a) ms) m → WasOpen ms m) → (answered_in es e n a x ≡ m) ⊎ Contains (map (answered_in es e n a) ms) m → WasOpen (x ∷ ms) m
  by more (inl is) =
      record {
        before = x;
        inside = contains_first x ms;
        same = subst (λ (y : Submitted). SameCall y x) is (same_answered es e n a x);
        unmet = subst (λ (y : Submitted). y.answer ≡ None → x.answer ≡ None) is (unmet_by x (answer_of es e a x.call) (x.call.number == n) x.answer refl);
      }
  by more (inr rest) = was_more x ms m (more rest)

itself : (ms : List Submitted) (m : Submitted) → Contains ms m → WasOpen ms m
itself ms m there = record { before = m; inside = there; same = record { at = refl; reading = refl; call = refl }; unmet = λ is. is }

pub was_marked : (es : Trace) (e : Entry) (i : Input) (ms : List Submitted) (m : Submitted) → Contains (mark es e i ms) m → WasOpen ms m
was_marked es e (Told n a) ms m there = was_told es e n a ms m there
was_marked es e (Line text) ms m there = itself ms m there
was_marked es e (Number text) ms m there = itself ms m there
was_marked es e (Exit p) ms m there = itself ms m there
was_marked es e (Spawned p ok) ms m there = itself ms m there
was_marked es e Wake ms m there = itself ms m there

-- ---- each call was made

made_new : (e : Entry) (es : Trace) (m : Submitted) → IsNewCall (length es) e.reading e.effects.calls m → IsMade (e ∷ es) m
made_new e es m n = record { later = []; entry = e; past = es; whole = refl; index = n.index; call = n.call; place = n.place; reading = n.reading_is }

made_old : (e : Entry) (es : Trace) (m b : Submitted) → SameCall m b → IsMade es b → IsMade (e ∷ es) m
made_old e es m b same d =
    record {
      later = e ∷ d.later;
      entry = d.entry;
      past = d.past;
      whole = ap (λ t. e ∷ t) d.whole;
      index = d.index;
      call = d.call ∙ ap (λ x. Some x) (sym same.call);
      place = same.at ∙ d.place;
      reading = same.reading ∙ d.reading;
    }

pub calls_are_made : CallsAreMade
calls_are_made [] m there = absurd (contains_none m there)
calls_are_made (e ∷ es) m there = by (λ b inside. calls_are_made es b inside) (old_or_new (length es) e.reading e.effects.calls (mark es e e.input (submitted es)) m there) where
  by : ((b : Submitted) → Contains (submitted es) b → IsMade es b) → Contains (mark es e e.input (submitted es)) m ⊎ IsNewCall (length es) e.reading e.effects.calls m → IsMade (e ∷ es) m
  by more (inl old) = let w = was_marked es e e.input (submitted es) m old in made_old e es m w.before w.same (more w.before w.inside)
  by more (inr new) = made_new e es m new

-- ---- answered calls stay

pub kept_by : (m : Submitted) (a b : Answered) (t : Bool) → m.answer ≡ Some a → elim t as (λ x. Submitted) [ false ↦ m | true ↦ record m { answer = option_or m.answer (Some b) } ] ≡ m
kept_by m a b false is = refl
kept_by m a b true is = rw is refl

told_stays : (es : Trace) (e : Entry) (n : ℕ) (w : Answer) (ms : List Submitted) (m : Submitted) (a : Answered) → Contains ms m → m.answer ≡ Some a → Contains (map (answered_in es e n w) ms) m
told_stays es e n w [] m a there is = absurd (contains_none m there)
told_stays es e n w (x ∷ ms) m a there is = by (λ rest. told_stays es e n w ms m a rest is) (contains_cases x ms m there) where
  by : (Contains ms m → Contains (map (answered_in es e n w) ms) m) → (x ≡ m) ⊎ Contains ms m → Contains (map (answered_in es e n w) (x ∷ ms)) m
  by more (inl here) =
      subst (λ (y : Submitted). Contains (answered_in es e n w x ∷ map (answered_in es e n w) ms) y)
      (ap (λ (y : Submitted). answered_in es e n w y) here ∙ kept_by m a (answer_of es e w m.call) (m.call.number == n) is)
      (contains_first (answered_in es e n w x) (map (answered_in es e n w) ms))
  by more (inr rest) = contains_more (answered_in es e n w x) (map (answered_in es e n w) ms) m (more rest)

marked_stays : (es : Trace) (e : Entry) (i : Input) (ms : List Submitted) (m : Submitted) (a : Answered) → Contains ms m → m.answer ≡ Some a → Contains (mark es e i ms) m
marked_stays es e (Told n w) ms m a there is = told_stays es e n w ms m a there is
marked_stays es e (Line text) ms m a there is = there
marked_stays es e (Number text) ms m a there is = there
marked_stays es e (Exit p) ms m a there is = there
marked_stays es e (Spawned p ok) ms m a there is = there
marked_stays es e Wake ms m a there is = there

pub answers_stay : AnswersStay
answers_stay [] es m a there is = there
answers_stay (e ∷ later) es m a there is =
    old_stays (length (later ++ es)) e.reading e.effects.calls (mark (later ++ es) e e.input (submitted (later ++ es))) m
    (marked_stays (later ++ es) e e.input (submitted (later ++ es)) m a (answers_stay later es m a there is) is)
