-- What a step adds to the numbers of a trace, and to the children that wait.
use Rattle.sl_world_state.specs.Steps.{is_spawned_by}
use Rattle.sl_trace.specs.Traces.{Child, Setting, Submitted, Trace, child_after, children, mark, new_call, new_child, next_call, next_job, numbers_taken, submitted, takes_number}
use Rattle.sl_trace.specs.declared.effects.Call.{Call}
use Rattle.sl_trace.specs.declared.effects.Entry.{Entry}
use Rattle.sl_trace.specs.declared.effects.Start.{Start}
use Rattle.sl_trace.specs.declared.input.Input.TheVariants.{Answer as Told, Exit, Line, Number, Spawned, Wake}
use Rattle.sl_trace.specs.declared.input.Input.{Input}
use Rattle.std.proofs.Common.{ap, ap₂, arith, refl, sym, ◌∙◌}
use Rattle.std.proofs.lemmas.List.Elements.{filter-append}
use Rattle.std.proofs.lemmas.List.{length-map, map-append}
use Rattle.std.specs.Option.{option_or}
use Rattle.std.specs.Prelude.{Bool, List, None, Option, Some, cond, false, filter, fold, if◌then◌else◌, is_none, length, map, not, true, [], ℕ, ◌&&◌, ◌++◌, ◌+◌, ◌==◌, ◌∷◌, ◌≡◌}

-- ---- calls

marked : (es : Trace) (e : Entry) (i : Input) (ms : List Submitted) → length (mark es e i ms) ≡ length ms
marked es e (Told number answer) ms = length-map ms _
marked es e (Line text) ms = refl
marked es e (Number text) ms = refl
marked es e Wake ms = refl
marked es e (Exit p) ms = refl
marked es e (Spawned p ok) ms = refl

piled : (at reading : ℕ) (xs : List Call) (ms : List Submitted) → length (fold (λ ns c. new_call at reading c ∷ ns) ms xs) ≡ length ms + length xs
piled at reading [] ms = no_more (length ms)
  where
    no_more : (n : ℕ) → n ≡ n + 0
    no_more n = omega arith
piled at reading (x ∷ xs) ms = let rest = piled at reading xs (new_call at reading x ∷ ms) in omega (arith, rest)

pub calls_next : (st : Setting) (es : Trace) (e : Entry) → next_call st (e ∷ es) ≡ next_call st es + length e.effects.calls
calls_next st es e =
    let all = piled (length es) e.reading e.effects.calls (mark es e e.input (submitted es)) in
    let before = marked es e e.input (submitted es) in
    omega (arith, all, before)

-- ---- jobs

pub jobs_next : (st : Setting) (es : Trace) (e : Entry) → next_job st (e ∷ es) ≡ (if takes_number e.input then next_job st es + 1 else next_job st es)
jobs_next st es e = go (takes_number e.input) refl
  where
    go : (b : Bool) → takes_number e.input ≡ b → next_job st (e ∷ es) ≡ (if takes_number e.input then next_job st es + 1 else next_job st es)
    go true is =
        ap (λ z. st.first.job + elim z as (λ x. ℕ) [ true ↦ numbers_taken es + 1 | false ↦ numbers_taken es ]) is ∙ one_more st.first.job (numbers_taken es)
        ∙ sym (ap (λ z. if z then next_job st es + 1 else next_job st es) is)
      where
        one_more : (a b : ℕ) → a + (b + 1) ≡ a + b + 1
        one_more a b = omega arith
    go false is =
        ap (λ z. st.first.job + elim z as (λ x. ℕ) [ true ↦ numbers_taken es + 1 | false ↦ numbers_taken es ]) is
        ∙ sym (ap (λ z. if z then next_job st es + 1 else next_job st es) is)

-- ---- children

-- Those of these children that wait.
abbrev waiting : List Child → List ℕ
waiting ks = map (λ (k : Child). k.process) (filter (λ (k : Child). is_none k.answer) ks)

new_wait : (ss : List Start) → waiting (map new_child ss) ≡ map (λ (s : Start). s.process) ss
new_wait [] = refl
new_wait (s ∷ ss) = ap (λ ps. s.process ∷ ps) (new_wait ss)

some_or : (o : Option Bool) (b : Bool) → is_none (option_or o (Some b)) ≡ false
some_or None b = refl
some_or (Some a) b = refl

and_none : (b : Bool) → (b && false) ≡ false
and_none true = refl
and_none false = refl

and_all : (b : Bool) → (b && true) ≡ b
and_all true = refl
and_all false = refl

pub process_stays : (i : Input) (k : Child) → (child_after i k).process ≡ k.process
process_stays (Told number answer) k = refl
process_stays (Line text) k = refl
process_stays (Number text) k = refl
process_stays Wake k = refl
process_stays (Exit p) k = go (p == k.process)
  where
    go : (b : Bool) → (elim b as (λ x. Child) [ false ↦ k | true ↦ record k { exited = true } ]).process ≡ k.process
    go true = refl
    go false = refl
process_stays (Spawned p ok) k = go (p == k.process)
  where
    go : (b : Bool) → (elim b as (λ x. Child) [ false ↦ k | true ↦ record k { answer = option_or k.answer (Some ok) } ]).process ≡ k.process
    go true = refl
    go false = refl

-- A child waits still, unless its start is answered.
wait_stays : (i : Input) (k : Child) → is_none (child_after i k).answer ≡ (is_none k.answer && not (is_spawned_by i k.process))
wait_stays (Told number answer) k = sym (and_all (is_none k.answer))
wait_stays (Line text) k = sym (and_all (is_none k.answer))
wait_stays (Number text) k = sym (and_all (is_none k.answer))
wait_stays Wake k = sym (and_all (is_none k.answer))
wait_stays (Exit p) k = go (p == k.process) ∙ sym (and_all (is_none k.answer))
  where
    go : (b : Bool) → is_none (elim b as (λ x. Child) [ false ↦ k | true ↦ record k { exited = true } ]).answer ≡ is_none k.answer
    go true = refl
    go false = refl
wait_stays (Spawned p ok) k = go (p == k.process)
  where
    go : (b : Bool) → is_none (elim b as (λ x. Child) [ false ↦ k | true ↦ record k { answer = option_or k.answer (Some ok) } ]).answer ≡ (is_none k.answer && not b)
    go true = some_or k.answer ok ∙ sym (and_none (is_none k.answer))
    go false = sym (and_all (is_none k.answer))

map_cond : {A B : Type 0} (f : A → B) (b : Bool) (x : A) (xs : List A) → map f (cond b (x ∷ xs) xs) ≡ cond b (f x ∷ map f xs) (map f xs)
map_cond f true x xs = refl
map_cond f false x xs = refl

waiting_first : (k : Child) (ks : List Child) → waiting (k ∷ ks) ≡ cond (is_none k.answer) (k.process ∷ waiting ks) (waiting ks)
waiting_first k ks = map_cond (λ (x : Child). x.process) (is_none k.answer) k (filter (λ (x : Child). is_none x.answer) ks)

filter_first : {A : Type 0} (q : A → Bool) (b : Bool) (x : A) (xs : List A) → filter q (cond b (x ∷ xs) xs) ≡ cond (b && q x) (x ∷ filter q xs) (filter q xs)
filter_first q true x xs = refl
filter_first q false x xs = refl

waits_after : (i : Input) (ks : List Child) → waiting (map (child_after i) ks) ≡ filter (λ p. not (is_spawned_by i p)) (waiting ks)
waits_after i [] = refl
waits_after i (k ∷ ks) =
    waiting_first (child_after i k) (map (child_after i) ks)
    ∙ ap₂ (λ b p. cond b (p ∷ waiting (map (child_after i) ks)) (waiting (map (child_after i) ks))) (wait_stays i k) (process_stays i k)
    ∙ ap (λ ps. cond (is_none k.answer && not (is_spawned_by i k.process)) (k.process ∷ ps) ps) (waits_after i ks)
    ∙ sym (filter_first (λ p. not (is_spawned_by i p)) (is_none k.answer) k.process (waiting ks))
    ∙ sym (ap (filter (λ p. not (is_spawned_by i p))) (waiting_first k ks))

pub starting_next : (es : Trace) (e : Entry) → waiting (children (e ∷ es)) ≡ filter (λ p. not (is_spawned_by e.input p)) (waiting (children es)) ++ map (λ (s : Start). s.process) e.effects.starts
starting_next es e =
    ap (map (λ (k : Child). k.process)) (filter-append (λ (k : Child). is_none k.answer) (map (child_after e.input) (children es)) (map new_child e.effects.starts))
    ∙ map-append (λ (k : Child). k.process) (filter (λ (k : Child). is_none k.answer) (map (child_after e.input) (children es))) (filter (λ (k : Child). is_none k.answer) (map new_child e.effects.starts))
    ∙ ap₂ (λ xs ys. xs ++ ys) (waits_after e.input (children es)) (new_wait e.effects.starts)
