-- What is open, one entry longer at a time.
use Rattle.sl_live_lines.specs.AuditedHistory.{IsAnswered, Keeps, MadeAt, after_entry, answered_by, calls_made, has, open_calls, open_starts, opened_at, starting, starts_made, told_by}
use Rattle.sl_live_lines.specs.declared.open_numbers.Open.{Open}
use Rattle.sl_trace.specs.Traces.{Answered, Child, Submitted, Trace, answer_of, answered_in, child_after, children, mark, new_call, new_child, outstanding, submitted}
use Rattle.sl_trace.specs.declared.effects.Call.{Call}
use Rattle.sl_trace.specs.declared.effects.Entry.{Entry}
use Rattle.sl_trace.specs.declared.effects.Start.{Start}
use Rattle.sl_trace.specs.declared.input.Answer.{Answer}
use Rattle.sl_trace.specs.declared.input.Input.TheVariants.{Answer as Told, Exit, Line, Number, Spawned, Wake}
use Rattle.sl_trace.specs.declared.input.Input.{Input}
use Rattle.sl_words.proofs.CaseLaws.{none_some, some_value}
use Rattle.sl_words.specs.Words.{some_is}
use Rattle.std.proofs.Common.{ap, ap₂, arith, cond, length, refl, reverse, rules, slice_index_or, subst, suc, sym, take, zero, ◌++◌, ◌+◌, ◌-◌, ◌<◌, ◌∙◌, ◌∷◌, ◌≡◌, [], ℕ}
use Rattle.std.proofs.lemmas.List.Folds.{list_any-append}
use Rattle.std.proofs.lemmas.List.{map-append, reverse-append, take_more}
use Rattle.std.specs.List.{list_any}
use Rattle.std.specs.Option.{option_or}
use Rattle.std.specs.Prelude.{Bool, List, None, Option, Some, false, filter, fold, is_none, map, not, slice_get, true, ◌&&◌, ◌==◌, ◌||◌}

-- ---- truths and lists

or_false : (b : Bool) → (b || false) ≡ b
or_false true = refl
or_false false = refl

and_true_is : (b : Bool) → (b && true) ≡ b
and_true_is true = refl
and_true_is false = refl

and_false_is : (b : Bool) → (b && false) ≡ false
and_false_is true = refl
and_false_is false = refl

turned : (a b : Bool) → (a || b) ≡ (b || a)
turned true true = refl
turned true false = refl
turned false true = refl
turned false false = refl

-- The entry behind a history, and those of the history, where one more comes.
got_behind : (h : List Entry) (e : Entry) → slice_get (h ++ e ∷ []) (length h) ≡ Some e
got_behind [] e = refl
got_behind (x ∷ h) e = got_behind h e

got_before : (h more : List Entry) (k : ℕ) (x : Entry) → slice_get h k ≡ Some x → slice_get (h ++ more) k ≡ Some x
got_before [] more k x at = absurd (none_some x at)
got_before (y ∷ h) more zero x at = at
got_before (y ∷ h) more (suc k) x at = got_before h more k x at

none_has : (ns : List ℕ) → ((n : ℕ) → has ns n ≡ false) → ns ≡ []
none_has [] none = refl
none_has (k ∷ ns) none = absurd (let never = none k in grind (arith, never))

none_of : {A : Type 0} (f : A → ℕ) (xs : List A) → map f xs ≡ [] → xs ≡ []
none_of f [] none = refl
none_of f (x ∷ xs) none = absurd (search rules)

-- ---- numbers that are opened one after another

-- One more of a list is open.
pub opened_more : {A : Type 0} (f : A → ℕ) (xs : List A) (k : ℕ) (x : A) (number : ℕ) (was before now : ℕ → Option ℕ) → k < length xs → x ≡ slice_index_or xs k x
    → ((n : ℕ) → before n ≡ cond (has (map f (take k xs)) n) (Some number) (was n)) → ((n : ℕ) → now n ≡ cond (f x == n) (Some number) (before n))
    → (n : ℕ) → now n ≡ cond (has (map f (take (k + 1) xs)) n) (Some number) (was n)
opened_more f xs k x number was before now lt here had more n =
    more n ∙ ap (λ o. cond (f x == n) (Some number) o) (had n) ∙ joined (f x == n) (has (map f (take k xs)) n)
    ∙ ap (λ b. cond b (Some number) (was n)) (sym longer)
  where
    joined : (a b : Bool) → cond a (Some number) (cond b (Some number) (was n)) ≡ cond (b || a) (Some number) (was n)
    joined true true = refl
    joined true false = refl
    joined false true = refl
    joined false false = refl

    longer : has (map f (take (k + 1) xs)) n ≡ (has (map f (take k xs)) n || f x == n)
    longer =
        ap (λ ys. has (map f ys) n) (take_more xs k x lt) ∙ ap (λ ns. has ns n) (map-append f (take k xs) (slice_index_or xs k x ∷ []))
        ∙ list_any-append (λ j. j == n) (map f (take k xs)) (f (slice_index_or xs k x) ∷ [])
        ∙ ap (λ b. has (map f (take k xs)) n || b) (or_false (f (slice_index_or xs k x) == n)) ∙ ap (λ y. has (map f (take k xs)) n || f y == n) (sym here)

-- ---- the calls

-- Whether a call of this number is open.
abbrev is_open : ℕ → Submitted → Bool
is_open n m = is_none m.answer && m.call.number == n

open_is : (n : ℕ) (ms : List Submitted) → has (map (λ (m : Submitted). m.call.number) (filter (λ (m : Submitted). is_none m.answer) ms)) n ≡ list_any (is_open n) ms
open_is n [] = refl
open_is n (m ∷ ms) = go (is_none m.answer) ∙ ap (λ b. is_open n m || b) (open_is n ms)
  where
    rest : List Submitted
    rest = filter (λ (x : Submitted). is_none x.answer) ms

    go : (b : Bool) → has (map (λ (x : Submitted). x.call.number) (cond b (m ∷ rest) rest)) n ≡ ((b && m.call.number == n) || has (map (λ (x : Submitted). x.call.number) rest) n)
    go true = refl
    go false = refl

some_or : (o : Option Answered) (x : Answered) → is_none (option_or o (Some x)) ≡ false
some_or None x = refl
some_or (Some y) x = refl

-- One number is closed: k; j is the call's, n the one that is looked for.
one_closed : (j k n : ℕ) (free : Bool) → cond (j == k) false (free && j == n) ≡ ((free && j == n) && not (k == n))
one_closed j k n free = go (j == k) (j == n) (k == n) refl refl refl
  where
    go : (x y z : Bool) → (j == k) ≡ x → (j == n) ≡ y → (k == n) ≡ z → cond x false (free && y) ≡ ((free && y) && not z)
    go true true true p q r = sym (and_false_is (free && true))
    go true true false p q r = absurd (grind (arith, p, q, r))
    go true false true p q r = absurd (grind (arith, p, q, r))
    go true false false p q r = sym (and_true_is (free && false) ∙ and_false_is free)
    go false true true p q r = absurd (grind (arith, p, q, r))
    go false true false p q r = sym (and_true_is (free && true))
    go false false true p q r = and_false_is free ∙ sym (and_false_is (free && false))
    go false false false p q r = sym (and_true_is (free && false))

answered_open : (n : ℕ) (es : Trace) (e : Entry) (k : ℕ) (a : Answer) (m : Submitted) → is_open n (answered_in es e k a m) ≡ (is_open n m && not (k == n))
answered_open n es e k a m = go (m.call.number == k) ∙ one_closed m.call.number k n (is_none m.answer)
  where
    go : (x : Bool)
        → is_open n (elim x as (λ y. Submitted) [ false ↦ m | true ↦ record m { answer = option_or m.answer (Some (answer_of es e a m.call)) } ])
        ≡ cond x false (is_open n m)
    go true = ap (λ y. y && m.call.number == n) (some_or m.answer (answer_of es e a m.call))
    go false = refl

-- Those of a list, where each is tested as well.
any_both : {A B : Type 0} (p : B → Bool) (q : A → Bool) (f : A → B) (b : Bool) → ((x : A) → p (f x) ≡ (q x && b)) → (xs : List A) → list_any p (map f xs) ≡ (list_any q xs && b)
any_both p q f b same [] = refl
any_both p q f b same (x ∷ xs) = ap₂ (λ x y. x || y) (same x) (any_both p q f b same xs) ∙ spread (q x) (list_any q xs) b
  where
    spread : (u v w : Bool) → ((u && w) || (v && w)) ≡ ((u || v) && w)
    spread true v true = refl
    spread true true false = refl
    spread true false false = refl
    spread false v w = refl

marked_open : (n : ℕ) (es : Trace) (e : Entry) (i : Input) (ms : List Submitted)
    → list_any (is_open n) (mark es e i ms) ≡ (list_any (is_open n) ms && not (some_is (λ k. k == n) (answered_by i)))
marked_open n es e (Told k a) ms = any_both (is_open n) (is_open n) (answered_in es e k a) (not (k == n)) (answered_open n es e k a) ms
marked_open n es e (Line text) ms = sym (and_true_is (list_any (is_open n) ms))
marked_open n es e (Number text) ms = sym (and_true_is (list_any (is_open n) ms))
marked_open n es e Wake ms = sym (and_true_is (list_any (is_open n) ms))
marked_open n es e (Exit p) ms = sym (and_true_is (list_any (is_open n) ms))
marked_open n es e (Spawned p ok) ms = sym (and_true_is (list_any (is_open n) ms))

piled_open : (n at reading : ℕ) (cs : List Call) (ms : List Submitted)
    → list_any (is_open n) (fold (λ ns c. new_call at reading c ∷ ns) ms cs) ≡ (has (map (λ (c : Call). c.number) cs) n || list_any (is_open n) ms)
piled_open n at reading [] ms = refl
piled_open n at reading (c ∷ cs) ms =
    piled_open n at reading cs (new_call at reading c ∷ ms) ∙ swap (c.number == n) (has (map (λ (x : Call). x.number) cs) n) (list_any (is_open n) ms)
  where
    swap : (a b d : Bool) → (b || (a || d)) ≡ ((a || b) || d)
    swap true true d = refl
    swap true false d = refl
    swap false true d = refl
    swap false false d = refl

-- What an entry leaves of the open calls.
calls_next : (n : ℕ) (es : Trace) (e : Entry)
    → has (open_calls (e ∷ es)) n ≡ (has (calls_made e) n || (has (open_calls es) n && not (some_is (λ k. k == n) (answered_by e.input))))
calls_next n es e =
    open_is n (submitted (e ∷ es)) ∙ piled_open n (length es) e.reading e.effects.calls (mark es e e.input (submitted es))
    ∙ ap (λ b. has (calls_made e) n || b) (marked_open n es e e.input (submitted es) ∙ ap (λ b. b && not (some_is (λ k. k == n) (answered_by e.input))) (sym (open_is n (submitted es))))

-- ---- the starts

abbrev is_waiting : ℕ → Child → Bool
is_waiting n k = is_none k.answer && k.process == n

waiting_is : (n : ℕ) (ks : List Child) → has (map (λ (k : Child). k.process) (filter (λ (k : Child). is_none k.answer) ks)) n ≡ list_any (is_waiting n) ks
waiting_is n [] = refl
waiting_is n (k ∷ ks) = go (is_none k.answer) ∙ ap (λ b. is_waiting n k || b) (waiting_is n ks)
  where
    rest : List Child
    rest = filter (λ (x : Child). is_none x.answer) ks

    go : (b : Bool) → has (map (λ (x : Child). x.process) (cond b (k ∷ rest) rest)) n ≡ ((b && k.process == n) || has (map (λ (x : Child). x.process) rest) n)
    go true = refl
    go false = refl

some_told : (o : Option Bool) (b : Bool) → is_none (option_or o (Some b)) ≡ false
some_told None b = refl
some_told (Some a) b = refl

told_open : (n p : ℕ) (ok : Bool) (k : Child) → is_waiting n (child_after (Spawned p ok) k) ≡ (is_waiting n k && not (p == n))
told_open n p ok k = go (p == k.process) ∙ ap (λ b. cond b false (is_waiting n k)) (same_test p k.process) ∙ one_closed k.process p n (is_none k.answer)
  where
    same_test : (a b : ℕ) → (a == b) ≡ (b == a)
    same_test a b = flip (a == b) (b == a) refl refl
      where
        flip : (x y : Bool) → (a == b) ≡ x → (b == a) ≡ y → x ≡ y
        flip true true p q = refl
        flip true false p q = absurd (grind (arith, p, q))
        flip false true p q = absurd (grind (arith, p, q))
        flip false false p q = refl

    go : (x : Bool)
        → is_waiting n (elim x as (λ y. Child) [ false ↦ k | true ↦ record k { answer = option_or k.answer (Some ok) } ]) ≡ cond x false (is_waiting n k)
    go true = ap (λ y. y && k.process == n) (some_told k.answer ok)
    go false = refl

exit_open : (n p : ℕ) (k : Child) → is_waiting n (child_after (Exit p) k) ≡ (is_waiting n k && true)
exit_open n p k = go (p == k.process) ∙ sym (and_true_is (is_waiting n k))
  where
    go : (x : Bool) → is_waiting n (elim x as (λ y. Child) [ false ↦ k | true ↦ record k { exited = true } ]) ≡ is_waiting n k
    go true = refl
    go false = refl

same_open : (n : ℕ) (k : Child) → is_waiting n k ≡ (is_waiting n k && true)
same_open n k = sym (and_true_is (is_waiting n k))

after_open : (n : ℕ) (i : Input) (ks : List Child) → list_any (is_waiting n) (map (child_after i) ks) ≡ (list_any (is_waiting n) ks && not (some_is (λ k. k == n) (told_by i)))
after_open n (Spawned p ok) ks = any_both (is_waiting n) (is_waiting n) (child_after (Spawned p ok)) (not (p == n)) (told_open n p ok) ks
after_open n (Exit p) ks = any_both (is_waiting n) (is_waiting n) (child_after (Exit p)) true (exit_open n p) ks
after_open n (Line text) ks = any_both (is_waiting n) (is_waiting n) (child_after (Line text)) true (same_open n) ks
after_open n (Number text) ks = any_both (is_waiting n) (is_waiting n) (child_after (Number text)) true (same_open n) ks
after_open n Wake ks = any_both (is_waiting n) (is_waiting n) (child_after Wake) true (same_open n) ks
after_open n (Told number a) ks = any_both (is_waiting n) (is_waiting n) (child_after (Told number a)) true (same_open n) ks

new_open : (n : ℕ) (ss : List Start) → list_any (is_waiting n) (map new_child ss) ≡ has (map (λ (s : Start). s.process) ss) n
new_open n [] = refl
new_open n (s ∷ ss) = ap (λ b. s.process == n || b) (new_open n ss)

-- What an entry leaves of the open starts.
starts_next : (n : ℕ) (es : Trace) (e : Entry)
    → has (open_starts (e ∷ es)) n ≡ (has (starts_made e) n || (has (open_starts es) n && not (some_is (λ k. k == n) (told_by e.input))))
starts_next n es e =
    waiting_is n (children (e ∷ es)) ∙ list_any-append (is_waiting n) (map (child_after e.input) (children es)) (map new_child e.effects.starts)
    ∙ turned (list_any (is_waiting n) (map (child_after e.input) (children es))) (list_any (is_waiting n) (map new_child e.effects.starts))
    ∙ ap₂ (λ x y. x || y) (new_open n e.effects.starts)
    (after_open n e.input (children es) ∙ ap (λ b. b && not (some_is (λ k. k == n) (told_by e.input))) (sym (waiting_is n (children es))))

-- ---- one entry more

-- Nothing is open before the first.
pub keeps_none : (made : Entry → List ℕ) (h : List Entry) (o : Open) → ((n : ℕ) → opened_at o n ≡ None) → Keeps made h [] o
keeps_none made h o none = record {
  marked = λ n. ap (some_is (λ k. true)) (none n);
  where_from = λ n number is. absurd (none_some number (sym (none n) ∙ is));
}

made_on : (made : Entry → List ℕ) (h : List Entry) (e : Entry) (number n : ℕ) → MadeAt made h number n → MadeAt made (h ++ e ∷ []) number n
made_on made h e number n so = record {
  entry = so.entry;
  numbered = so.numbered;
  stands = got_before h (e ∷ []) (number - 1) so.entry so.stands;
  is_made = so.is_made;
}

-- What is open behind an entry, of which each number is opened by it or was open and is not closed.
keeps_more : (made : Entry → List ℕ) (closed : Option ℕ) (h : List Entry) (e : Entry) (m : ℕ) (was now : List ℕ) (o o' : Open) → m ≡ length h + 1
    → ((n : ℕ) → has now n ≡ (has (made e) n || (has was n && not (some_is (λ j. j == n) closed))))
    → ((n : ℕ) → opened_at o' n ≡ after_entry (made e) closed m n (opened_at o n)) → Keeps made h was o → Keeps made (h ++ e ∷ []) now o'
keeps_more made closed h e m was now o o' behind next after so = record {
  marked = λ n. ap (some_is (λ j. true)) (after n) ∙ test n (has (made e) n) (some_is (λ j. j == n) closed) ∙ ap (λ b. has (made e) n || (b && not (some_is (λ j. j == n) closed))) (so.marked n) ∙ sym (next n);
  where_from = λ n number is. from n number (has (made e) n) refl (some_is (λ j. j == n) closed) (sym (after n) ∙ is);
}
  where
    test : (n : ℕ) (a b : Bool) → some_is (λ j. true) (cond a (Some m) (cond b None (opened_at o n))) ≡ (a || (some_is (λ j. true) (opened_at o n) && not b))
    test n true b = refl
    test n false true = sym (and_false_is (some_is (λ j. true) (opened_at o n)))
    test n false false = sym (and_true_is (some_is (λ j. true) (opened_at o n)))

    from : (n number : ℕ) (a : Bool) → has (made e) n ≡ a → (b : Bool) → cond a (Some m) (cond b None (opened_at o n)) ≡ Some number
        → MadeAt made (h ++ e ∷ []) number n
    from n number true is_made b is =
        let at : number ≡ length h + 1 = sym (some_value m number is) ∙ behind in
        let back : length h ≡ number - 1 = omega (arith, at) in
        record {
          entry = e;
          numbered = omega (arith, at);
          stands = subst (λ k. slice_get (h ++ e ∷ []) k ≡ Some e) back (got_behind h e);
          is_made = is_made;
        }
    from n number false is_made true is = absurd (none_some number is)
    from n number false is_made false is = made_on made h e number n (so.where_from n number is)

newest : (h : List Entry) (e : Entry) → reverse (h ++ e ∷ []) ≡ e ∷ reverse h
newest h e = reverse-append h (e ∷ [])

pub calls_more : (h : List Entry) (e : Entry) (m : ℕ) (o o' : Open) → m ≡ length h + 1
    → ((n : ℕ) → opened_at o' n ≡ after_entry (calls_made e) (answered_by e.input) m n (opened_at o n)) → Keeps calls_made h (open_calls (reverse h)) o
    → Keeps calls_made (h ++ e ∷ []) (open_calls (reverse (h ++ e ∷ []))) o'
calls_more h e m o o' behind after so =
    subst (λ es. Keeps calls_made (h ++ e ∷ []) (open_calls es) o') (sym (newest h e))
    (keeps_more calls_made (answered_by e.input) h e m (open_calls (reverse h)) (open_calls (e ∷ reverse h)) o o' behind (λ n. calls_next n (reverse h) e) after so)

pub starts_more : (h : List Entry) (e : Entry) (m : ℕ) (o o' : Open) → m ≡ length h + 1
    → ((n : ℕ) → opened_at o' n ≡ after_entry (starts_made e) (told_by e.input) m n (opened_at o n)) → Keeps starts_made h (open_starts (reverse h)) o
    → Keeps starts_made (h ++ e ∷ []) (open_starts (reverse (h ++ e ∷ []))) o'
starts_more h e m o o' behind after so =
    subst (λ es. Keeps starts_made (h ++ e ∷ []) (open_starts es) o') (sym (newest h e))
    (keeps_more starts_made (told_by e.input) h e m (open_starts (reverse h)) (open_starts (e ∷ reverse h)) o o' behind (λ n. starts_next n (reverse h) e) after so)

-- ---- the end

keeps_nothing : (made : Entry → List ℕ) (h : List Entry) (now : List ℕ) (o : Open) → Keeps made h now o → ((n : ℕ) → opened_at o n ≡ None) → now ≡ []
keeps_nothing made h now o so none = none_has now (λ n. sym (so.marked n) ∙ ap (some_is (λ k. true)) (none n))

-- Nothing is open.
pub all_answered : (h : List Entry) (calls starts : Open) → Keeps calls_made h (open_calls (reverse h)) calls → Keeps starts_made h (open_starts (reverse h)) starts
    → ((n : ℕ) → opened_at calls n ≡ None) → ((n : ℕ) → opened_at starts n ≡ None) → IsAnswered h
all_answered h calls starts cs ss no_call no_start = record {
  calls = none_of (λ (m : Submitted). m.call.number) (outstanding (reverse h)) (keeps_nothing calls_made h (open_calls (reverse h)) calls cs no_call);
  starts = none_of (λ (k : Child). k.process) (starting (reverse h)) (keeps_nothing starts_made h (open_starts (reverse h)) starts ss no_start);
}

-- One that is open was made, and is not answered.
pub is_left_open : (made : Entry → List ℕ) (h : List Entry) (now : List ℕ) (o : Open) (number n : ℕ) → Keeps made h now o → opened_at o n ≡ Some number
    → MadeAt made h number n × (has now n ≡ true)
is_left_open made h now o number n so is = (so.where_from n number is, sym (so.marked n) ∙ ap (some_is (λ k. true)) is)
