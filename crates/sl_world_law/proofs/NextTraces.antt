-- What a step leaves in a trace: the calls that have no answer, and the children.
use Rattle.sl_world_law.proofs.NextNumbers.{process_stays}
use Rattle.sl_world_law.proofs.PlainLists.{all_stay, let_go, range_append}
use Rattle.sl_trace.specs.Traces.{Answered, Child, Submitted, Trace, answer_of, answered_in, child_after, children, first_child, mark, new_call, new_child, next_child, outstanding, submitted, unanswered}
use Rattle.sl_trace.specs.declared.effects.Call.{Call}
use Rattle.sl_trace.specs.declared.effects.Entry.{Entry}
use Rattle.sl_trace.specs.declared.effects.Start.{Start}
use Rattle.sl_trace.specs.declared.input.Answer.{Answer}
use Rattle.sl_trace.specs.declared.input.Input.TheVariants.{Answer as Told, Exit, Line, Number, Spawned, Wake}
use Rattle.sl_trace.specs.declared.input.Input.{Input}
use Rattle.std.proofs.Common.{ap, ap₂, refl, sym, ◌∙◌}
use Rattle.std.proofs.lemmas.List.{length-append, length-map, map-append}
use Rattle.std.specs.List.{range_with_len}
use Rattle.std.specs.Option.{option_or}
use Rattle.std.specs.Prelude.{Bool, List, None, Option, Some, false, filter, fold, is_none, length, map, not, true, [], ℕ, ◌++◌, ◌+◌, ◌==◌, ◌∷◌, ◌≡◌}

-- ---- calls

-- Whether the input answers the call.
abbrev pub answers : Input → Call → Bool
answers (Told number answer) c = c.number == number
answers i c = false

-- Those of these calls that have no answer.
abbrev open_of : List Submitted → List Call
open_of ms = map (λ (m : Submitted). m.call) (unanswered ms)

answered_now : (o : Option Answered) (b : Answered) → is_none (option_or o (Some b)) ≡ false
answered_now None b = refl
answered_now (Some a) b = refl

marks_one : (es : Trace) (e : Entry) (n : ℕ) (a : Answer) (ms : List Submitted) → open_of (map (answered_in es e n a) ms) ≡ filter (λ c. not (c.number == n)) (open_of ms)
marks_one es e n a ms =
    let_go (λ (m : Submitted). is_none m.answer) (λ (m : Submitted). m.call) (λ (c : Call). c.number == n) (answered_in es e n a) ms gone same
  where
    by : Submitted → Bool → Submitted
    by m b = elim b [ false ↦ m | true ↦ record m { answer = option_or m.answer (Some (answer_of es e a m.call)) } ]

    gone : (m : Submitted) → (m.call.number == n) ≡ true → is_none (answered_in es e n a m).answer ≡ false
    gone m is = ap (λ b. is_none (by m b).answer) is ∙ answered_now m.answer (answer_of es e a m.call)

    same : (m : Submitted) → (m.call.number == n) ≡ false → answered_in es e n a m ≡ m
    same m is = ap (by m) is

marks : (es : Trace) (e : Entry) (i : Input) (ms : List Submitted) → open_of (mark es e i ms) ≡ filter (λ c. not (answers i c)) (open_of ms)
marks es e (Told n a) ms = marks_one es e n a ms
marks es e (Line text) ms = sym (all_stay (open_of ms))
marks es e (Number text) ms = sym (all_stay (open_of ms))
marks es e Wake ms = sym (all_stay (open_of ms))
marks es e (Exit p) ms = sym (all_stay (open_of ms))
marks es e (Spawned p ok) ms = sym (all_stay (open_of ms))

piled : (at reading : ℕ) (xs : List Call) (ms : List Submitted) → open_of (fold (λ ns c. new_call at reading c ∷ ns) ms xs) ≡ fold (λ cs c. c ∷ cs) (open_of ms) xs
piled at reading [] ms = refl
piled at reading (x ∷ xs) ms = piled at reading xs (new_call at reading x ∷ ms)

-- The call that is answered goes, new ones stand in front.
pub open_next : (es : Trace) (e : Entry) → map (λ m. m.call) (outstanding (e ∷ es))
    ≡ fold (λ cs c. c ∷ cs) (filter (λ c. not (answers e.input c)) (map (λ m. m.call) (outstanding es))) e.effects.calls
open_next es e =
    piled (length es) e.reading e.effects.calls (mark es e e.input (submitted es))
    ∙ ap (λ cs. fold (λ ds c. c ∷ ds) cs e.effects.calls) (marks es e e.input (submitted es))

-- ---- children

abbrev processes : List Child → List ℕ
processes ks = map (λ (k : Child). k.process) ks

processes_stay : (i : Input) (ks : List Child) → processes (map (child_after i) ks) ≡ processes ks
processes_stay i [] = refl
processes_stay i (k ∷ ks) = ap₂ (λ p ps. p ∷ ps) (process_stays i k) (processes_stay i ks)

started : (ss : List Start) → processes (map new_child ss) ≡ map (λ (s : Start). s.process) ss
started [] = refl
started (s ∷ ss) = ap (λ ps. s.process ∷ ps) (started ss)

-- Children that are numbered on are numbered in order.
pub numbered_next : (es : Trace) (e : Entry) → map (λ k. k.process) (children es) ≡ range_with_len first_child (length (children es))
    → map (λ s. s.process) e.effects.starts ≡ range_with_len (next_child es) (length e.effects.starts)
    → map (λ k. k.process) (children (e ∷ es)) ≡ range_with_len first_child (length (children (e ∷ es)))
numbered_next es e old new =
    map-append (λ (k : Child). k.process) (map (child_after e.input) (children es)) (map new_child e.effects.starts)
    ∙ ap₂ (λ xs ys. xs ++ ys) (processes_stay e.input (children es) ∙ old) (started e.effects.starts ∙ new)
    ∙ range_append first_child (length (children es)) (length e.effects.starts)
    ∙ ap (range_with_len first_child) (sym (length-append (map (child_after e.input) (children es)) (map new_child e.effects.starts)
    ∙ ap₂ (λ a b. a + b) (length-map (children es) (child_after e.input)) (length-map e.effects.starts new_child)))
