-- A scripted daemon stands for its trace: at each step, and in what it expects.
use Rattle.sl_world_state.specs.Daemons.{IsNumbered, IsSoundCall, IsStep, entry_of}
use Rattle.sl_world_law.proofs.NumberedLists.{any_map}
use Rattle.sl_run_law.proofs.Course.CallsAreDistinct.{next_more}
use Rattle.sl_world_law.proofs.NextTraces.{answers, open_next}
use Rattle.sl_world_law.proofs.PlainLists.{same_filter}
use Rattle.sl_script.specs.MadeSteps.{AreMade}
use Rattle.sl_script.specs.ScriptStates.{Follows, ScriptState, after_step, are_open, child_next, heard_in, is_due, is_heard, most_of, new_seen, seen_after, seen_of, starts_wait}
use Rattle.sl_script.specs.declared.answered_inputs.Heard.{Heard}
use Rattle.sl_script.specs.declared.answered_inputs.SeenChild.{SeenChild}
use Rattle.sl_trace.specs.Traces.{Child, Setting, Submitted, Trace, child_after, children, first_child, is_answer_for, is_expected, is_starting, new_child, next_child, outstanding}
use Rattle.sl_trace.specs.declared.effects.Call.{Call}
use Rattle.sl_trace.specs.declared.effects.Effects.{Effects}
use Rattle.sl_trace.specs.declared.effects.Op.TheVariants.{ReadSectors, WriteRecord}
use Rattle.sl_trace.specs.declared.effects.Op.{Op}
use Rattle.sl_trace.specs.declared.effects.Start.{Start}
use Rattle.sl_trace.specs.declared.input.Answer.TheVariants.{Failed, Read, Written}
use Rattle.sl_trace.specs.declared.input.Answer.{Answer}
use Rattle.sl_trace.specs.declared.input.Input.TheVariants.{Answer as Told, Exit, Line, Number, Spawned, Wake}
use Rattle.sl_trace.specs.declared.input.Input.{Input}
use Rattle.sl_words.specs.Words.{some_is}
use Rattle.std.proofs.Common.{Bool, List, None, Option, Some, [], ap, ap₂, arith, cond, false, length, map, not, refl, subst, sym, true, ℕ, ◌&&◌, ◌++◌, ◌+◌, ◌∙◌, ◌∷◌, ◌≡◌}
use Rattle.std.proofs.lemmas.List.Elements.{All-contains, filter-append}
use Rattle.std.proofs.lemmas.List.Folds.{list_any-append}
use Rattle.std.proofs.lemmas.List.{append_assoc, append-nil, length-map, map-append, reverse-append}
use Rattle.std.specs.List.{filter, find, fold, list_any, range_with_len}
use Rattle.std.specs.Option.{option_or}
use Rattle.std.specs.Prelude.{Err, IfOk, Ok, Result, is_none, is_some, reverse, ◌==◌, ◌||◌}

-- ---- lists turned round

turned_more : {A : Type 0} (x : A) (xs : List A) → reverse (x ∷ xs) ≡ reverse xs ++ x ∷ []
turned_more x xs = reverse-append (x ∷ []) xs

piled_is_turned : {A : Type 0} (xs ys : List A) → fold (λ zs x. x ∷ zs) ys xs ≡ reverse xs ++ ys
piled_is_turned [] ys = refl
piled_is_turned (x ∷ xs) ys =
    piled_is_turned xs (x ∷ ys) ∙ sym (append_assoc (reverse xs) (x ∷ []) ys) ∙ ap (λ zs. zs ++ ys) (sym (turned_more x xs))

one_kept : {A : Type 0} (p : A → Bool) (x : A) (xs : List A) (b : Bool) → p x ≡ b → filter p (reverse xs) ≡ reverse (filter p xs)
    → filter p (reverse xs) ++ filter p (x ∷ []) ≡ reverse (filter p (x ∷ xs))
one_kept p x xs true is rest =
    ap (λ zs. zs ++ filter p (x ∷ [])) rest ∙ ap (λ b. reverse (filter p xs) ++ cond b (x ∷ []) []) is ∙ sym (turned_more x (filter p xs))
    ∙ ap (λ b. reverse (cond b (x ∷ filter p xs) (filter p xs))) (sym is)
one_kept p x xs false is rest =
    ap (λ zs. zs ++ filter p (x ∷ [])) rest ∙ ap (λ b. reverse (filter p xs) ++ cond b (x ∷ []) []) is ∙ append-nil (reverse (filter p xs))
    ∙ ap (λ b. reverse (cond b (x ∷ filter p xs) (filter p xs))) (sym is)

kept_turned : {A : Type 0} (p : A → Bool) (xs : List A) → filter p (reverse xs) ≡ reverse (filter p xs)
kept_turned p [] = refl
kept_turned p (x ∷ xs) = ap (filter p) (turned_more x xs) ∙ filter-append p (reverse xs) (x ∷ []) ∙ one_kept p x xs (p x) refl (kept_turned p xs)

either_way : (a b : Bool) → (a || (b || false)) ≡ (b || a)
either_way true true = refl
either_way true false = refl
either_way false true = refl
either_way false false = refl

any_turned : {A : Type 0} (p : A → Bool) (xs : List A) → list_any p (reverse xs) ≡ list_any p xs
any_turned p [] = refl
any_turned p (x ∷ xs) =
    ap (list_any p) (turned_more x xs) ∙ list_any-append p (reverse xs) (x ∷ []) ∙ ap (λ b. b || (p x || false)) (any_turned p xs) ∙ either_way (list_any p xs) (p x)

-- ---- what is heard

same_heard : (i : Input) (c : Call) → answers i c ≡ is_heard (heard_in i) c
same_heard (Told number answer) c = refl
same_heard (Line text) c = refl
same_heard (Number text) c = refl
same_heard Wake c = refl
same_heard (Exit process) c = refl
same_heard (Spawned process ok) c = refl

told_once : (o : Option Bool) (ok : Bool) → is_some (option_or o (Some ok)) ≡ true
told_once None ok = refl
told_once (Some b) ok = refl

seen_spawned : (p : ℕ) (ok : Bool) (k : Child) (b : Bool) → (p == k.process) ≡ b
    → seen_of (elim b as (λ x. Child) [ false ↦ k | true ↦ record k { answer = option_or k.answer (Some ok) } ])
    ≡ record { process = k.process; answered = b || is_some k.answer }
seen_spawned p ok k true is = ap (λ a. record { process = k.process; answered = a }) (told_once k.answer ok)
seen_spawned p ok k false is = refl

seen_exited : (p : ℕ) (k : Child) (b : Bool) → seen_of (elim b as (λ x. Child) [ false ↦ k | true ↦ record k { exited = true } ]) ≡ seen_of k
seen_exited p k true = refl
seen_exited p k false = refl

seen_then : (i : Input) (k : Child) → seen_of (child_after i k) ≡ seen_after (heard_in i) (seen_of k)
seen_then (Told number answer) k = refl
seen_then (Line text) k = refl
seen_then (Number text) k = refl
seen_then Wake k = refl
seen_then (Exit process) k = seen_exited process k (process == k.process)
seen_then (Spawned process ok) k = seen_spawned process ok k (process == k.process) refl

all_seen : (i : Input) (ks : List Child) → map seen_of (map (child_after i) ks) ≡ map (seen_after (heard_in i)) (map seen_of ks)
all_seen i [] = refl
all_seen i (k ∷ ks) = ap₂ (λ x xs. x ∷ xs) (seen_then i k) (all_seen i ks)

new_seen_all : (ss : List Start) → map seen_of (map new_child ss) ≡ map new_seen ss
new_seen_all [] = refl
new_seen_all (s ∷ ss) = ap (λ xs. new_seen s ∷ xs) (new_seen_all ss)

-- ---- a step

open_then : (s : ScriptState) (st : Setting) (es : Trace) (now : ℕ) (i : Input) (fx : Effects) → Follows s st es
    → map (λ m. m.call) (outstanding (entry_of now i fx ∷ es)) ≡ reverse (filter (λ c. not (is_heard (heard_in i) c)) s.open_calls ++ fx.calls)
open_then s st es now i fx f =
    open_next es (entry_of now i fx)
    ∙ ap (λ cs. fold (λ ds c. c ∷ ds) (filter (λ c. not (answers i c)) cs) fx.calls) f.open_calls
    ∙ ap (λ cs. fold (λ ds c. c ∷ ds) cs fx.calls) (same_filter (λ c. not (answers i c)) (λ c. not (is_heard (heard_in i) c)) (reverse s.open_calls) (λ c. ap not (same_heard i c))
    ∙ kept_turned (λ c. not (is_heard (heard_in i) c)) s.open_calls)
    ∙ piled_is_turned fx.calls (reverse (filter (λ c. not (is_heard (heard_in i) c)) s.open_calls))
    ∙ sym (reverse-append (filter (λ c. not (is_heard (heard_in i) c)) s.open_calls) fx.calls)

pub follows_on : (s : ScriptState) (st : Setting) (es : Trace) (now : ℕ) (i : Input) (fx : Effects) → Follows s st es
    → Follows (after_step (heard_in i) fx s) st (entry_of now i fx ∷ es)
follows_on s st es now i fx f =
    record {
      sector = f.sector;
      next = ap (λ n. n + length fx.calls) f.next ∙ sym (next_more st (entry_of now i fx) es);
      open_calls = open_then s st es now i fx f;
      children =
          map-append seen_of (map (child_after i) (children es)) (map new_child fx.starts)
          ∙ ap₂ (λ xs ys. xs ++ ys) (all_seen i (children es) ∙ ap (map (seen_after (heard_in i))) f.children) (new_seen_all fx.starts);
    }

child_is : (s : ScriptState) (st : Setting) (es : Trace) → Follows s st es → child_next s ≡ next_child es
child_is s st es f = ap (λ ks. first_child + length ks) (sym f.children) ∙ ap (λ n. first_child + n) (length-map (children es) seen_of)

pub is_numbered : (s : ScriptState) (st : Setting) (es : Trace) (fx : Effects) → Follows s st es → AreMade s.next s.sector (child_next s) fx → IsNumbered st es fx
is_numbered s st es fx f made =
    record {
      calls = made.calls.numbered ∙ ap (λ n. range_with_len n (length fx.calls)) f.next;
      starts = made.starts.numbered ∙ ap (λ n. range_with_len n (length fx.starts)) (child_is s st es f);
    }

pub is_step : (s : ScriptState) (st : Setting) (es : Trace) (fx : Effects) → Follows s st es → AreMade s.next s.sector (child_next s) fx → IsStep st most_of fx
is_step s st es fx f made =
    record {
      ends = made.few.ends;
      signals = made.few.signals;
      moves = made.few.moves;
      grants = made.few.grants;
      starts = made.starts.few;
      replies = made.few.replies;
      few = made.calls.few;
      calls = λ c has. subst (λ n. IsSoundCall n c) f.sector (All-contains (IsSoundCall s.sector) fx.calls c made.calls.sound has);
    }

-- What a step made and left is what its trace goes on with.
pub step_stays : {E : Type 0} (s new : ScriptState) (st : Setting) (es : Trace) (now : ℕ) (i : Input) (h : Heard) (r : Result Effects E) → h ≡ heard_in i
    → IfOk r (λ fx. (new ≡ after_step h fx s) × AreMade s.next s.sector (child_next s) fx) → Follows s st es
    → IfOk r (λ fx. Follows new st (entry_of now i fx ∷ es) × IsNumbered st es fx)
step_stays s new st es now i h (Err e) is made f = tt
step_stays s new st es now i h (Ok fx) is made f = (
  subst (λ t. Follows t st (entry_of now i fx ∷ es)) (sym (made.0 ∙ ap (λ k. after_step k fx s) is)) (follows_on s st es now i fx f),
  is_numbered s st es fx f made.1,
)

pub step_is_sound : {E : Type 0} (s new : ScriptState) (st : Setting) (es : Trace) (h : Heard) (r : Result Effects E)
    → IfOk r (λ fx. (new ≡ after_step h fx s) × AreMade s.next s.sector (child_next s) fx) → Follows s st es → IfOk r (IsStep st most_of)
step_is_sound s new st es h (Err e) made f = tt
step_is_sound s new st es h (Ok fx) made f = is_step s st es fx f made.1

-- ---- what it expects

same_due : (st : Setting) (answer : Answer) (op : Op) → is_answer_for st answer op ≡ is_due st.layout.sector answer op
same_due st (Read bytes) (ReadSectors n) = refl
same_due st (Read bytes) (WriteRecord r) = refl
same_due st Written (ReadSectors n) = refl
same_due st Written (WriteRecord r) = refl
same_due st Failed op = refl

pub expects_answer : (s : ScriptState) (st : Setting) (es : Trace) → Follows s st es → (number : ℕ) (answer : Answer)
    → are_open s.sector number answer s.open_calls ≡ is_expected st es (Told number answer)
expects_answer s st es f number answer =
    let p : Call → Bool = λ c. c.number == number && is_due st.layout.sector answer c.op in
    sym (any_map (λ (m : Submitted). m.call) (λ m. m.call.number == number && is_answer_for st answer m.call.op) p (outstanding es) (λ m. ap (λ b. m.call.number == number && b) (same_due st answer m.call.op))
    ∙ ap (list_any p) f.open_calls ∙ any_turned p s.open_calls ∙ ap (λ n. are_open n number answer s.open_calls) (sym f.sector))

not_yet : (o : Option Bool) → not (is_some o) ≡ is_none o
not_yet None = refl
not_yet (Some b) = refl

waits_so : (p : ℕ) (ks : List Child) → starts_wait p (map seen_of ks) ≡ some_is (λ k. is_none k.answer) (find (λ k. k.process == p) ks)
waits_so p [] = refl
waits_so p (k ∷ ks) = by (k.process == p) (waits_so p ks)
  where
    by : (b : Bool) → starts_wait p (map seen_of ks) ≡ some_is (λ k. is_none k.answer) (find (λ k. k.process == p) ks)
        → some_is (λ s. not s.answered) (cond b (Some (seen_of k)) (find (λ (s : SeenChild). s.process == p) (map seen_of ks)))
        ≡ some_is (λ (k : Child). is_none k.answer) (cond b (Some k) (find (λ (k : Child). k.process == p) ks))
    by true rest = not_yet k.answer
    by false rest = rest

pub expects_start : (s : ScriptState) (st : Setting) (es : Trace) → Follows s st es → (process : ℕ) → starts_wait process s.children ≡ is_starting es process
expects_start s st es f process = ap (starts_wait process) (sym f.children) ∙ waits_so process (children es)

pub follows_first : (sector next : ℕ) (st : Setting) → sector ≡ st.layout.sector → next ≡ st.first.call
    → Follows (record { sector = sector; next = next; open_calls = []; children = [] }) st []
follows_first sector next st is first = record { sector = is; next = first ∙ sym (plus_none st.first.call); open_calls = refl; children = refl }
  where
    plus_none : (n : ℕ) → n + 0 ≡ n
    plus_none n = omega arith
