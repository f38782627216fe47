-- The calls of a front of a trace, in the whole of it: they stand at its end, in the same order, each with the answer that it had, if it
-- had one.
use Rattle.sl_run_law.specs.Course.CallStamps.{Pairwise}
use Rattle.sl_trace.specs.Leases.{block_submitted, block_written}
use Rattle.sl_run_law.proofs.Sessions.CallsAreMade.{same_answered}
use Rattle.sl_trace.specs.Traces.{Answered, Submitted, Trace, answer_of, answered_in, mark, new_call, submitted}
use Rattle.sl_trace.specs.declared.effects.Call.{Call}
use Rattle.sl_trace.specs.declared.effects.Entry.{Entry}
use Rattle.sl_trace.specs.declared.input.Answer.{Answer}
use Rattle.sl_trace.specs.declared.input.Input.TheVariants.{Answer as Told, Exit, Line, Number, Spawned, Wake}
use Rattle.sl_trace.specs.declared.input.Input.{Input}
use Rattle.sl_sector.specs.declared.sector.Block.{Block}
use Rattle.sl_words.proofs.CaseLaws.{none_some, some_value}
use Rattle.std.proofs.Common.{ap, append_assoc, arith, inl, inr, refl, sym, ◌∙◌}
use Rattle.std.proofs.lemmas.List.{map-append}
use Rattle.std.specs.Option.{option_or}
use Rattle.std.specs.Prelude.{Bool, List, None, Option, Some, cond, false, find, fold, is_some, length, map, true, [], ℕ, ◌++◌, ◌==◌, ◌∷◌, ◌≡◌, ◌≤◌, ◌⊎◌}
use Rattle.sl_run_law.specs.Leases.CallFronts.{Aged, AllAged}

-- ---- a call and what became of it

zero_below : (n : ℕ) → 0 ≤ n
zero_below n = omega arith

pub record Alike (was is : Submitted) : Type 0 where
  pub call : is.call ≡ was.call
  pub at : is.at ≡ was.at
  pub reading : is.reading ≡ was.reading
  pub told : (a : Answered) → was.answer ≡ Some a → is.answer ≡ Some a

all_alike : (ms : List Submitted) → Pairwise Alike ms ms
all_alike [] = tt
all_alike (m ∷ ms) = (record { call = refl; at = refl; reading = refl; told = λ a is. is }, all_alike ms)

told_kept : (m : Submitted) (b : Answered) (t : Bool) (a : Answered) → m.answer ≡ Some a
    → (elim t as (λ x. Submitted) [ false ↦ m | true ↦ record m { answer = option_or m.answer (Some b) } ]).answer ≡ Some a
told_kept m b false a is = is
told_kept m b true a is = ap (λ o. option_or o (Some b)) is

alike_told : (es : Trace) (e : Entry) (n : ℕ) (w : Answer) (x m : Submitted) → Alike x m → Alike x (answered_in es e n w m)
alike_told es e n w x m k =
    let same = same_answered es e n w m in
    record { call = same.call ∙ k.call; at = same.at ∙ k.at; reading = same.reading ∙ k.reading; told = λ a is. told_kept m (answer_of es e w m.call) (m.call.number == n) a (k.told a is) }

all_told : (es : Trace) (e : Entry) (n : ℕ) (w : Answer) (xs ms : List Submitted) → Pairwise Alike xs ms → Pairwise Alike xs (map (answered_in es e n w) ms)
all_told es e n w [] [] h = tt
all_told es e n w [] (m ∷ ms) h = h
all_told es e n w (x ∷ xs) [] h = h
all_told es e n w (x ∷ xs) (m ∷ ms) h = (alike_told es e n w x m h.0, all_told es e n w xs ms h.1)

all_marked : (es : Trace) (e : Entry) (i : Input) (xs ms : List Submitted) → Pairwise Alike xs ms → Pairwise Alike xs (mark es e i ms)
all_marked es e (Told n w) xs ms h = all_told es e n w xs ms h
all_marked es e (Line text) xs ms h = h
all_marked es e (Number text) xs ms h = h
all_marked es e (Exit p) xs ms h = h
all_marked es e (Spawned p ok) xs ms h = h
all_marked es e Wake xs ms h = h

marked_parts : (es : Trace) (e : Entry) (i : Input) (xs ys : List Submitted) → mark es e i (xs ++ ys) ≡ mark es e i xs ++ mark es e i ys
marked_parts es e (Told n w) xs ys = map-append (answered_in es e n w) xs ys
marked_parts es e (Line text) xs ys = refl
marked_parts es e (Number text) xs ys = refl
marked_parts es e (Exit p) xs ys = refl
marked_parts es e (Spawned p ok) xs ys = refl
marked_parts es e Wake xs ys = refl

abbrev pushes : ℕ → ℕ → List Submitted → Call → List Submitted
pushes at reading ms c = new_call at reading c ∷ ms

pushed_on : (at reading : ℕ) (cs : List Call) (ms : List Submitted) → (newer : List Submitted) × (fold (pushes at reading) ms cs ≡ newer ++ ms)
pushed_on at reading [] ms = ([], refl)
pushed_on at reading (c ∷ cs) ms =
    let r = pushed_on at reading cs (new_call at reading c ∷ ms) in
    (r.0 ++ new_call at reading c ∷ [], r.1 ∙ sym (append_assoc r.0 (new_call at reading c ∷ []) ms))

-- The calls of a front stand at the end of the whole's.
pub record GrownTo (later es : Trace) : Type 0 where
  pub newer : List Submitted
  pub now : List Submitted
  pub is : submitted (later ++ es) ≡ newer ++ now
  pub alike : Pairwise Alike (submitted es) now

pub grown_to : (later es : Trace) → GrownTo later es
grown_to [] es = record { newer = []; now = submitted es; is = refl; alike = all_alike (submitted es) }
grown_to (e ∷ later) es =
    let front : Trace = later ++ es in
    let g = grown_to later es in
    let new = pushed_on (length front) e.reading e.effects.calls (mark front e e.input (submitted front)) in
    record {
      newer = new.0 ++ mark front e e.input g.newer;
      now = mark front e e.input g.now;
      is = new.1 ∙ ap (λ ms. new.0 ++ mark front e e.input ms) g.is ∙ ap (λ ms. new.0 ++ ms) (marked_parts front e e.input g.newer g.now)
          ∙ sym (append_assoc new.0 (mark front e e.input g.newer) (mark front e e.input g.now));
      alike = all_marked front e e.input (submitted es) g.now g.alike;
    }

-- ---- what stays

-- It is the call with its answer, or with one that came since.
answer_by : (was is o : Option Answered) → ((a : Answered) → was ≡ Some a → is ≡ Some a) → was ≡ o → (q : Option Answered) → is ≡ q
    → (is ≡ was) ⊎ ((was ≡ None) × (a : Answered) × (is ≡ Some a) × (0 ≤ a.at))
answer_by was is (Some a) told before q now = inl (told a before ∙ sym before)
answer_by was is None told before None now = inl (now ∙ sym before)
answer_by was is None told before (Some a) now = inr (before, a, now, zero_below a.at)

pub aged : (was is : Submitted) → Alike was is → Aged 0 was is
aged was is k = record { at = k.at; reading = k.reading; call = k.call; answer = answer_by was.answer is.answer was.answer k.told refl is.answer refl }

pub all_aged : (xs ys : List Submitted) → Pairwise Alike xs ys → AllAged 0 xs ys
all_aged [] [] h = tt
all_aged [] (y ∷ ys) h = h
all_aged (x ∷ xs) [] h = h
all_aged (x ∷ xs) (y ∷ ys) h = (aged x y h.0, all_aged xs ys h.1)

-- The block that was last submitted is that of the last that writes one.
found_by : (m : Submitted) (ms : List Submitted) (write : Submitted) (o : Option Block) → block_written m ≡ o
    → cond (is_some o) (Some m) (find (λ d. is_some (block_written d)) ms) ≡ Some write
    → (find (λ d. is_some (block_written d)) ms ≡ Some write → block_submitted ms ≡ block_written write)
    → elim o as (λ z. Option Block) [ Some b ↦ Some b | None ↦ block_submitted ms ] ≡ block_written write
found_by m ms write None is found later = later found
found_by m ms write (Some b) is found later = sym is ∙ ap (λ d. block_written d) (some_value m write found)

pub found_block : (ms : List Submitted) (write : Submitted) → find (λ d. is_some (block_written d)) ms ≡ Some write → block_submitted ms ≡ block_written write
found_block [] write found = absurd (none_some write found)
found_block (m ∷ ms) write found = found_by m ms write (block_written m) refl found (λ f. found_block ms write f)
