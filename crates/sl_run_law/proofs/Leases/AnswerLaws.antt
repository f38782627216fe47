-- Each answer stands in an entry of the trace.
use Rattle.sl_run_law.proofs.Leases.FrontLaws.{pushed}
use Rattle.sl_run_law.proofs.Leases.HavingLaws.{Has}
use Rattle.sl_trace.specs.Traces.{Answered, Submitted, Trace, answer_of, answered_in, mark, new_call, submitted}
use Rattle.sl_trace.specs.declared.effects.Call.{Call}
use Rattle.sl_trace.specs.declared.effects.Entry.{Entry}
use Rattle.sl_trace.specs.declared.input.Answer.{Answer}
use Rattle.sl_trace.specs.declared.input.Input.TheVariants.{Answer as Told, Exit, Line, Number, Spawned, Wake}
use Rattle.sl_trace.specs.declared.input.Input.{Input}
use Rattle.sl_words.proofs.CaseLaws.{none_some, some_value}
use Rattle.std.proofs.Common.{arith, refl, subst}
use Rattle.std.specs.Option.{option_or}
use Rattle.std.specs.Prelude.{Bool, List, None, Option, Some, false, length, map, suc, true, [], ℕ, ◌++◌, ◌<◌, ◌==◌, ◌∷◌, ◌≡◌}

-- The call's answer, if it has one, came in one of the first n entries.
abbrev Within : ℕ → Submitted → Type 0
Within n m = (a : Answered) → m.answer ≡ Some a → a.at < n

abbrev AllWithin : ℕ → List Submitted → Type 0
AllWithin n [] = Unit {0}
AllWithin n (m ∷ ms) = Within n m × AllWithin n ms

wider : (n : ℕ) (ms : List Submitted) → AllWithin n ms → AllWithin (suc n) ms
wider n [] h = tt
wider n (m ∷ ms) h = ((λ a is. let less : a.at < n = h.0 a is in omega (arith, less)), wider n ms h.1)

or_new : (n : ℕ) (new : Answered) → new.at ≡ n → (o : Option Answered) → ((a : Answered) → o ≡ Some a → a.at < n) → (a : Answered) → option_or o (Some new) ≡ Some a → a.at < suc n
or_new n new at None h a is = subst (λ (x : Answered). x.at < suc n) (some_value new a is) (omega (arith, at))
or_new n new at (Some b) h a is = let less : a.at < n = h a is in omega (arith, less)

marked_within : (es : Trace) (e : Entry) (number : ℕ) (a : Answer) (m : Submitted) → Within (length es) m → (b : Bool)
    → Within (suc (length es)) (elim b as (λ y. Submitted) [ false ↦ m | true ↦ record m { answer = option_or m.answer (Some (answer_of es e a m.call)) } ])
marked_within es e number a m h true = or_new (length es) (answer_of es e a m.call) refl m.answer h
marked_within es e number a m h false = λ x is. let less : x.at < length es = h x is in omega (arith, less)

all_marked_within : (es : Trace) (e : Entry) (number : ℕ) (a : Answer) (ms : List Submitted) → AllWithin (length es) ms → AllWithin (suc (length es)) (map (answered_in es e number a) ms)
all_marked_within es e number a [] h = tt
all_marked_within es e number a (m ∷ ms) h = (marked_within es e number a m h.0 (m.call.number == number), all_marked_within es e number a ms h.1)

mark_within : (es : Trace) (e : Entry) (i : Input) (ms : List Submitted) → AllWithin (length es) ms → AllWithin (suc (length es)) (mark es e i ms)
mark_within es e (Told number a) ms h = all_marked_within es e number a ms h
mark_within es e (Line text) ms h = wider (length es) ms h
mark_within es e (Number text) ms h = wider (length es) ms h
mark_within es e (Exit p) ms h = wider (length es) ms h
mark_within es e (Spawned p ok) ms h = wider (length es) ms h
mark_within es e Wake ms h = wider (length es) ms h

pushed_within : (n k reading : ℕ) (ms : List Submitted) (cs : List Call) → AllWithin n ms → AllWithin n (pushed k reading ms cs)
pushed_within n k reading ms [] h = h
pushed_within n k reading ms (c ∷ cs) h = pushed_within n k reading (new_call k reading c ∷ ms) cs ((λ a is. absurd (none_some a is)), h)

all_within : (es : Trace) → AllWithin (length es) (submitted es)
all_within [] = tt
all_within (e ∷ es) =
    pushed_within (suc (length es)) (length es) e.reading (mark es e e.input (submitted es)) e.effects.calls (mark_within es e e.input (submitted es) (all_within es))

within_at : (n : ℕ) (newer : List Submitted) (m : Submitted) (older : List Submitted) → AllWithin n (newer ++ m ∷ older) → Within n m
within_at n [] m older h = h.0
within_at n (y ∷ ys) m older h = within_at n ys m older h.1

pub answers_within : (es : Trace) (m : Submitted) → Has (submitted es) m → (a : Answered) → m.answer ≡ Some a → a.at < length es
answers_within es m h = within_at (length es) h.newer m h.older (subst (λ ms. AllWithin (length es) ms) h.is (all_within es))
