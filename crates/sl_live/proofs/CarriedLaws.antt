-- One moment more: what was signalled, and which starts are awaited.
use Rattle.sl_book.proofs.Fronts.{prefix_shorter, prefix_whole}
use Rattle.sl_book.proofs.Givens.{entries_last}
use Rattle.sl_book.proofs.SeatLaws.{seen_told}
use Rattle.sl_book.specs.Logs.{entries}
use Rattle.sl_cell.specs.Histories.{Signed}
use Rattle.sl_cell.specs.Seats.{SeatState}
use Rattle.sl_cell.specs.Told.{Gave}
use Rattle.sl_outside.proofs.ActLaws.{grows_none, grows_on}
use Rattle.sl_live.specs.CarriedOut.{AreCarried, AreMarked, HasSignalled, IsLet, IsQueue, Kept, TookStart, acts_along, acts_at, after_all, after_moment, as_moment, entries_in, is_childless, is_for, is_named, is_next, kept_in, late_kill, no_children, start_of, starts_of, with_effects, with_told}
use Rattle.sl_live.specs.Turns.{Carries, ChildrenState, Does, Guards, IsQuiet, TellsExit, TellsStart, MakesTurn, doomed, is_lapsed, kill_of, marked, names, number_of, ordered, sent_by, told_off, without}
use Rattle.sl_live.specs.declared.children.Awaited.{Awaited}
use Rattle.sl_outside.specs.Acts.{Grows, Tells}
use Rattle.sl_outside.specs.declared.act.Act.{Act}
use Rattle.sl_trace.specs.Traces.{Setting}
use Rattle.sl_trace.specs.declared.effects.Effects.{Effects}
use Rattle.sl_trace.specs.declared.effects.Entry.{Entry}
use Rattle.sl_trace.specs.declared.effects.Start.{Start}
use Rattle.sl_trace.specs.declared.input.Input.TheVariants.{Answer as Told, Exit, Line, Number, Spawned, Wake}
use Rattle.sl_trace.specs.declared.input.Input.{Input}
use Rattle.std.proofs.Common.{append_assoc, append-nil, ap, arith, inl, inr, length-append, refl, subst, suc, sym, zero, ◌∙◌}
use Rattle.sl_words.proofs.Numbers.{number_itself}
use Rattle.std.proofs.lemmas.Bool.Decides.{nat_tests}
use Rattle.std.proofs.lemmas.List.{map-append}
use Rattle.std.specs.List.{position, remove}
use Rattle.std.specs.Prelude.{Bool, IsSomeAnd, List, None, Option, Some, cond, drop, false, if◌then◌else◌, is_some, length, map, nat_lt, not, slice_get, true, [], ℕ, ◌&&◌, ◌++◌, ◌+◌, ◌==◌, ◌||◌, ◌∷◌, ◌≡◌, ◌≤◌, ◌⊎◌}
use mathlib.Core.List.{IsPrefix}

-- ---- counts and numbers that were compared

pub one_more : {X : Type 0} (before now : List X) (next : Bool) → next ≡ is_next before now → next ≡ true → length now ≡ length before + 1
one_more before now next is so = grind (arith, nat_tests)

pub for_some : (process : ℕ) (o : Option Awaited) (first : Bool) → first ≡ is_for process o → first ≡ true → IsSomeAnd o (λ w. w.start.process ≡ process)
for_some process None first is so = absurd cc
for_some process (Some w) first is so = grind (arith, nat_tests)

pub counted_more : (before now : ℕ) (counted : Bool) → counted ≡ (now == before + 1) → counted ≡ true → now ≡ before + 1
counted_more before now counted is so = grind (arith, nat_tests)

-- ---- what a spawner tells

pub tells_on : (a b : Option (List Act)) (xs ys : List Act) → Tells a xs → Grows a b ys → Tells b (xs ++ ys)
tells_on None None xs ys so grows = tt
tells_on None (Some b) xs ys so grows = absurd cc
tells_on (Some a) None xs ys so grows = tt
tells_on (Some a) (Some b) xs ys so grows = grows ∙ ap (λ zs. zs ++ ys) so

tells_same : (a b : Option (List Act)) (xs : List Act) → Tells a xs → b ≡ a → Tells b xs
tells_same a b xs so same = subst (λ x. Tells x xs) (sym same) so

tells_none : (a b : Option (List Act)) (xs : List Act) → Tells a xs → Grows a b [] → Tells b xs
tells_none a b xs so grows = subst (Tells b) (append-nil xs) (tells_on a b xs [] so grows)

-- ---- moments

entries_more : (ms ns : List (Option Entry)) → entries_in (ms ++ ns) ≡ entries_in ms ++ entries_in ns
entries_more [] ns = refl
entries_more (Some e ∷ ms) ns = ap (λ es. e ∷ es) (entries_more ms ns)
entries_more (None ∷ ms) ns = entries_more ms ns

after_more : (k : Kept) (ms : List (Option Entry)) (m : Option Entry) → after_all k (ms ++ m ∷ []) ≡ after_moment (after_all k ms) m
after_more k [] m = refl
after_more k (x ∷ ms) m = after_more (after_moment k x) ms m

acts_more : (k : Kept) (ms : List (Option Entry)) (m : Option Entry) → acts_along k (ms ++ m ∷ []) ≡ acts_along k ms ++ acts_at (after_all k ms) m
acts_more k [] m = append-nil (acts_at k m)
acts_more k (x ∷ ms) m =
    ap (λ more. acts_at k x ++ more) (acts_more (after_moment k x) ms m) ∙ sym (append_assoc (acts_at k x) (acts_along (after_moment k x) ms) (acts_at (after_all (after_moment k x) ms) m))

-- an entry more
signalled_entry : (h : List Entry) (killed : Bool) (told told' : Option (List Act)) (e : Entry) (k : Kept) (s : HasSignalled h killed told) → k ≡ after_all no_children s.moments
    → Grows told told' (acts_at k (Some e)) → HasSignalled (h ++ e ∷ []) killed told'
signalled_entry h killed told told' e k s kept grows = record {
  moments = s.moments ++ Some e ∷ [];
  entries_are = entries_more s.moments (Some e ∷ []) ∙ ap (λ es. es ++ e ∷ []) s.entries_are;
  alone = λ not_killed. ap (λ ms. ms ++ Some e ∷ []) (s.alone not_killed) ∙ sym (map-append as_moment h (e ∷ []));
  tells = subst (Tells told') (sym (acts_more no_children s.moments (Some e)))
      (tells_on told told' (acts_along no_children s.moments) (acts_at (after_all no_children s.moments) (Some e)) s.tells
      (subst (λ x. Grows told told' (acts_at x (Some e))) kept grows));
}

-- a kill of all
signalled_kill : (h : List Entry) (killed : Bool) (told told' : Option (List Act)) (k : Kept) (s : HasSignalled h killed told) → k ≡ after_all no_children s.moments
    → Grows told told' (map kill_of k.numbers) → HasSignalled h true told'
signalled_kill h killed told told' k s kept grows = record {
  moments = s.moments ++ None ∷ [];
  entries_are = entries_more s.moments (None ∷ []) ∙ append-nil (entries_in s.moments) ∙ s.entries_are;
  alone = λ not_killed. absurd cc;
  tells = subst (Tells told') (sym (acts_more no_children s.moments None))
      (tells_on told told' (acts_along no_children s.moments) (acts_at (after_all no_children s.moments) None) s.tells
      (subst (λ (x : Kept). Grows told told' (map kill_of x.numbers)) kept grows));
}

-- ---- starts

pub starts_more : (xs ys : List Entry) → starts_of (xs ++ ys) ≡ starts_of xs ++ starts_of ys
starts_more [] ys = refl
starts_more (x ∷ xs) ys = ap (λ ss. x.effects.starts ++ ss) (starts_more xs ys) ∙ sym (append_assoc x.effects.starts (starts_of xs) (starts_of ys))

starts_last : (h : List Entry) (e : Entry) → starts_of (h ++ e ∷ []) ≡ starts_of h ++ e.effects.starts
starts_last h e = starts_more h (e ∷ []) ∙ ap (λ ss. starts_of h ++ ss) (append-nil e.effects.starts)

or_left : (a b : Bool) → a ≡ true → (a || b) ≡ true
or_left true b is = refl
or_left false b is = absurd cc

or_right : (a b : Bool) → b ≡ true → (a || b) ≡ true
or_right true b is = refl
or_right false b is = is

or_cases : (a b : Bool) → (a || b) ≡ true → (a ≡ true) ⊎ (b ≡ true)
or_cases true b is = inl refl
or_cases false b is = inr is

or_on : (a b c : Bool) → (b ≡ true → c ≡ true) → (a || b) ≡ true → (a || c) ≡ true
or_on true b c f is = refl
or_on false b c f is = f is

pub named_more : (process : ℕ) (xs ys : List Entry) → is_named process xs ≡ true → is_named process (xs ++ ys) ≡ true
named_more process [] ys is = absurd cc
named_more process (x ∷ xs) ys is =
    or_on (names x.effects.signals process) (is_named process xs) (is_named process (xs ++ ys)) (λ so. named_more process xs ys so) is

named_last : (process : ℕ) (h : List Entry) (e : Entry) → names e.effects.signals process ≡ true → is_named process (h ++ e ∷ []) ≡ true
named_last process [] e is = or_left (names e.effects.signals process) false is
named_last process (x ∷ h) e is = or_right (names x.effects.signals process) (is_named process (h ++ e ∷ [])) (named_last process h e is)

-- what need not be made needs not later
pub let_more : (xs ys : List Entry) (killed killed' : Bool) (process : ℕ) → (killed ≡ true → killed' ≡ true) → IsLet xs killed process → IsLet (xs ++ ys) killed' process
let_more xs ys killed killed' process later (inl named) = inl (named_more process xs ys named)
let_more xs ys killed killed' process later (inr is) = inr (later is)

marks_more : (xs ys : List Entry) (killed killed' : Bool) (ws : List Awaited) → (killed ≡ true → killed' ≡ true) → AreMarked xs killed ws → AreMarked (xs ++ ys) killed' ws
marks_more xs ys killed killed' [] later so = tt
marks_more xs ys killed killed' (w ∷ ws) later so =
    ((λ is. let_more xs ys killed killed' w.start.process later (so.0 is)), marks_more xs ys killed killed' ws later so.1)

marks_append : (h : List Entry) (killed : Bool) (ws vs : List Awaited) → AreMarked h killed ws → AreMarked h killed vs → AreMarked h killed (ws ++ vs)
marks_append h killed [] vs first last = last
marks_append h killed (w ∷ ws) vs first last = (first.0, marks_append h killed ws vs first.1 last)

marks_ordered : (h : List Entry) (killed : Bool) (ss : List Start) → AreMarked h killed (map ordered ss)
marks_ordered h killed [] = tt
marks_ordered h killed (s ∷ ss) = ((λ is. absurd cc), marks_ordered h killed ss)

marks_signals : (h : List Entry) (killed : Bool) (e : Entry) (ws : List Awaited) → AreMarked h killed ws → AreMarked (h ++ e ∷ []) killed (map (marked e.effects.signals) ws)
marks_signals h killed e [] so = tt
marks_signals h killed e (w ∷ ws) so = ((λ is. mark_so (or_cases w.signalled (names e.effects.signals w.start.process) is)), marks_signals h killed e ws so.1) where
  mark_so : (w.signalled ≡ true) ⊎ (names e.effects.signals w.start.process ≡ true) → IsLet (h ++ e ∷ []) killed w.start.process
  mark_so (inl before) = let_more h (e ∷ []) killed killed w.start.process (λ x. x) (so.0 before)
  mark_so (inr now) = inl (named_last w.start.process h e now)

marks_killed : (h : List Entry) (ws : List Awaited) → AreMarked h true ws
marks_killed h [] = tt
marks_killed h (w ∷ ws) = ((λ is. inr refl), marks_killed h ws)

-- ---- starts that are awaited

same_starts : (f : Awaited → Awaited) → ((w : Awaited) → start_of (f w) ≡ start_of w) → (ws : List Awaited) → map start_of (map f ws) ≡ map start_of ws
same_starts f same [] = refl
same_starts f same (w ∷ ws) = let rest = same_starts f same ws in let first = same w in cc (first, rest)

ordered_starts : (ss : List Start) → map start_of (map ordered ss) ≡ ss
ordered_starts [] = refl
ordered_starts (s ∷ ss) = ap (λ xs. s ∷ xs) (ordered_starts ss)

drop_append : {A : Type 0} (n : ℕ) (xs ys : List A) → n ≤ length xs → drop n (xs ++ ys) ≡ drop n xs ++ ys
drop_append zero xs ys le = refl
drop_append (suc n) [] ys le = absurd (omega (arith, le))
drop_append (suc n) (x ∷ xs) ys le = drop_append n xs ys (omega (arith, le))

drop_one : {A : Type 0} (n : ℕ) (xs : List A) (y : A) (ys : List A) → y ∷ ys ≡ drop n xs → (n + 1 ≤ length xs) × (ys ≡ drop (n + 1) xs)
drop_one n [] y ys is = absurd (drop_nil n is) where
  drop_nil : (m : ℕ) → y ∷ ys ≡ drop m [] → ⊥
  drop_nil zero at = absurd cc
  drop_nil (suc m) at = absurd cc
drop_one zero (x ∷ xs) y ys is = (omega arith, cc is)
drop_one (suc n) (x ∷ xs) y ys is =
    let rest = drop_one n xs y ys is in
    let e : suc (n + 1) ≡ suc n + 1 = omega arith in
    (omega (arith, rest.0), subst (λ m. ys ≡ drop m (x ∷ xs)) e rest.1)

queue_effects : (h : List Entry) (taken : ℕ) (killed : Bool) (e : Entry) (ws : List Awaited) → IsQueue h taken killed ws
    → IsQueue (h ++ e ∷ []) taken killed (map (marked e.effects.signals) ws ++ map ordered e.effects.starts)
queue_effects h taken killed e ws q =
    let more = starts_last h e in
    let len : length (starts_of h ++ e.effects.starts) ≡ length (starts_of h) + length e.effects.starts = length-append (starts_of h) e.effects.starts in
    let most = q.most in record {
      most = subst (λ ss. taken ≤ length ss) (sym more) (omega (arith, most, len));
      left = map-append start_of (map (marked e.effects.signals) ws) (map ordered e.effects.starts)
          ∙ ap (λ xs. xs ++ map start_of (map ordered e.effects.starts)) (same_starts (marked e.effects.signals) (λ w. refl) ws ∙ q.left)
          ∙ ap (λ xs. drop taken (starts_of h) ++ xs) (ordered_starts e.effects.starts) ∙ sym (drop_append taken (starts_of h) e.effects.starts q.most) ∙ ap (drop taken) (sym more);
      marks = marks_append (h ++ e ∷ []) killed (map (marked e.effects.signals) ws) (map ordered e.effects.starts) (marks_signals h killed e ws q.marks)
          (marks_ordered (h ++ e ∷ []) killed e.effects.starts);
    }

first_by : (b : Bool) (n m : ℕ) → b ≡ true → cond (nat_lt (cond (not b) (1 + n) 0) (suc m)) (Some (cond (not b) (1 + n) 0)) None ≡ Some 0
first_by true n m is = let e : nat_lt 0 (suc m) ≡ true = grind (arith, nat_tests) in ap (λ t. cond t (Some 0) None) e
first_by false n m is = absurd cc

position_first : {X : Type 0} (p : X → Bool) (x : X) (xs : List X) → p x ≡ true → position p (x ∷ xs) ≡ Some 0
position_first p x xs is = first_by (p x) _ (length xs) is

off_first : (process : ℕ) (w : Awaited) (ws : List Awaited) → w.start.process ≡ process → told_off process (w ∷ ws) ≡ ws
off_first process w ws is =
    let first : position (λ (v : Awaited). v.start.process == process) (w ∷ ws) ≡ Some 0
    = position_first (λ (v : Awaited). v.start.process == process) w ws (subst (λ n. (w.start.process == n) ≡ true) is (number_itself w.start.process)) in
    subst (λ (o : Option ℕ). elim o [ None ↦ w ∷ ws | Some place ↦ remove (w ∷ ws) place ] ≡ ws) (sym first) refl

-- the first of them is dealt with
queue_off : (h : List Entry) (taken : ℕ) (killed : Bool) (process : ℕ) (ws : List Awaited) → IsSomeAnd (slice_get ws 0) (λ (w : Awaited). w.start.process ≡ process)
    → IsQueue h taken killed ws → IsQueue h (taken + 1) killed (told_off process ws)
queue_off h taken killed process [] first q = absurd first
queue_off h taken killed process (w ∷ ws) first q =
    let one = drop_one taken (starts_of h) w.start (map start_of ws) q.left in
    subst (IsQueue h (taken + 1) killed) (sym (off_first process w ws first)) (record { most = one.0; left = one.1; marks = q.marks.1 })

queue_killed : (h : List Entry) (taken : ℕ) (killed : Bool) (ws : List Awaited) → IsQueue h taken killed ws → IsQueue h taken true (map doomed ws)
queue_killed h taken killed ws q = record { most = q.most; left = same_starts doomed (λ w. refl) ws ∙ q.left; marks = marks_killed h (map doomed ws) }

-- ---- a turn

childless_told : (k : Kept) (i : Input) → is_childless i ≡ true → with_told k i ≡ k
childless_told k (Line text) is = refl
childless_told k (Number text) is = refl
childless_told k (Told call answer) is = refl
childless_told k Wake is = refl
childless_told k (Exit process) is = absurd cc
childless_told k (Spawned process ok) is = absurd cc

childless_kill : (k : Kept) (i : Input) → is_childless i ≡ true → late_kill k i ≡ []
childless_kill k (Line text) is = refl
childless_kill k (Number text) is = refl
childless_kill k (Told call answer) is = refl
childless_kill k Wake is = refl
childless_kill k (Exit process) is = absurd cc
childless_kill k (Spawned process ok) is = absurd cc

-- the entry of a step stands next behind this front
pub next_entry : (front : List Signed) (s s' : SeatState) (now : ℕ) (i : Input) (fx : Effects) → (gave : Gave s s' now i fx) → IsPrefix front s'.front
    → length s'.front ≡ length front + 1 → entries s'.front ≡ entries front ++ gave.entry.entry ∷ []
next_entry front s s' now i fx gave behind one =
    let all : List Signed = gave.past ++ gave.entry ∷ [] in
    let len : length all ≡ length gave.past + 1 = length-append gave.past (gave.entry ∷ []) in
    let same : length s'.front ≡ length all = ap length gave.front in
    let p : IsPrefix front all = subst (IsPrefix front) gave.front behind in
    let q : IsPrefix gave.past all = (gave.entry ∷ [], refl) in
    let le : length front ≤ length gave.past = omega (arith, len, same, one) in
    let ge : length gave.past ≤ length front = omega (arith, len, same, one) in
    let is : front ≡ gave.past = prefix_whole front gave.past (prefix_shorter front gave.past all p q le) ge in
    ap entries gave.front ∙ entries_last gave.past gave.entry ∙ ap (λ (l : List Signed). entries l ++ gave.entry.entry ∷ []) (sym is)

abbrev kept_of : List ℕ → List Awaited → Kept
kept_of ns ws = record { numbers = ns; awaited = ws }

same_kept : (ns ns' : List ℕ) (ws ws' : List Awaited) → ns ≡ ns' → ws ≡ ws' → kept_of ns ws ≡ kept_of ns' ws'
same_kept ns ns' ws ws' n w = cc (n, w)

module _ {P : Type 0} (told : P → Option (List Act)) (faults : P → ℕ) (running : P → List ℕ) where
  -- an input told of the children, and its step was carried out
  carried_turn : (h : List Entry) (taken taken' : ℕ) (killed : Bool) (c mid c' : ChildrenState P) (e : Entry) → AreCarried told h taken killed c
      → Grows (told c.spawner) (told mid.spawner) (late_kill (kept_in c) e.input) → kept_in mid ≡ with_told (kept_in c) e.input → IsQueue h taken' killed mid.awaited
      → Carries told faults running e.effects mid c' → AreCarried told (h ++ e ∷ []) taken' killed c'
  unfolding signalled_entry
  carried_turn h taken taken' killed c mid c' e so grows tells queue carries =
      let s = so.signalled in
      let k : Kept = kept_in c in
      let now : kept_in c' ≡ after_moment k (Some e)
      = same_kept c'.numbers (mid.numbers ++ map number_of e.effects.starts) c'.awaited (map (marked e.effects.signals) mid.awaited ++ map ordered e.effects.starts) carries.numbers carries.awaited
      ∙ ap (with_effects e.effects) tells in
      let all : Grows (told c.spawner) (told c'.spawner) (acts_at k (Some e))
      = grows_on (told c.spawner) (told mid.spawner) (told c'.spawner) (late_kill k e.input) (map sent_by e.effects.signals) grows carries.does.grows in
      record {
        signalled = signalled_entry h killed (told c.spawner) (told c'.spawner) e k s so.kept all;
        kept = now ∙ ap (λ x. after_moment x (Some e)) so.kept ∙ sym (after_more no_children s.moments (Some e));
        queue = subst (IsQueue (h ++ e ∷ []) taken' killed) (sym carries.awaited) (queue_effects h taken' killed e mid.awaited queue);
      }

  -- .. by an input that tells nothing of a child
  pub give_carried : (st : Setting) (now : ℕ) (i : Input) (fx : Effects) (front : List Signed) (taken : ℕ) (killed : Bool) (c c' : ChildrenState P) (s s' : SeatState)
      → is_childless i ≡ true → MakesTurn told faults running st now (Some fx) i c c' s s' → IsPrefix front s'.front → length s'.front ≡ length front + 1
      → AreCarried told (entries front) taken killed c → AreCarried told (entries s'.front) taken killed c'
  give_carried st now i fx front taken killed c c' s s' childless turn behind one so =
      let gave = turn.0 in
      let e : Entry = gave.entry.entry in
      let none : is_childless e.input ≡ true = subst (λ x. is_childless x ≡ true) (sym gave.is.same) childless in
      subst (λ es. AreCarried told es taken killed c') (sym (next_entry front s s' now i fx gave behind one))
      (carried_turn (entries front) taken taken killed c c c' e so
      (subst (Grows (told c.spawner) (told c.spawner)) (sym (childless_kill (kept_in c) e.input none)) (grows_none (told c.spawner) (told c.spawner) refl))
      (sym (childless_told (kept_in c) e.input none)) so.queue (subst (λ f. Carries told faults running f c c') (sym gave.told) turn.1))

  -- .. by an exit
  pub exit_carried : (st : Setting) (now process : ℕ) (fx : Effects) (front : List Signed) (taken : ℕ) (killed : Bool) (c c' : ChildrenState P) (s s' : SeatState)
      → TellsExit told faults running process (MakesTurn told faults running st now (Some fx)) c c' s s' → IsPrefix front s'.front → length s'.front ≡ length front + 1
      → AreCarried told (entries front) taken killed c → AreCarried told (entries s'.front) taken killed c'
  exit_carried st now process fx front taken killed c c' s s' tells behind one so =
      let gave = tells.turn.0 in
      let e : Entry = gave.entry.entry in
      let mid = tells.polled in
      let k : Kept = kept_in c in
      let same : Exit process ≡ e.input = sym gave.is.same in
      let kept : kept_in mid ≡ with_told k (Exit process)
      = same_kept mid.numbers (without process c.numbers) mid.awaited c.awaited tells.gone tells.awaited in
      subst (λ es. AreCarried told es taken killed c') (sym (next_entry front s s' now (Exit process) fx gave behind one))
      (carried_turn (entries front) taken taken killed c mid c' e so
      (subst (λ i. Grows (told c.spawner) (told mid.spawner) (late_kill k i)) same (grows_none (told c.spawner) (told mid.spawner) tells.quiet.same))
      (subst (λ i. kept_in mid ≡ with_told k i) same kept) (subst (IsQueue (entries front) taken killed) (sym tells.awaited) so.queue)
      (subst (λ f. Carries told faults running f mid c') (sym gave.told) tells.turn.1))

  -- .. by what the first awaited start came to
  pub start_carried : {C : Type 0} (st : Setting) (now process : ℕ) (child : Option C) (ok : Bool) (fx : Effects) (front : List Signed) (taken taken' : ℕ) (killed : Bool)
      (c c' : ChildrenState P) (s s' : SeatState) → IsSomeAnd (slice_get c.awaited 0) (λ (w : Awaited). w.start.process ≡ process) → taken' ≡ taken + 1
      → TellsStart told faults running process child ok (MakesTurn told faults running st now (Some fx)) c c' s s' → IsPrefix front s'.front → length s'.front ≡ length front + 1
      → AreCarried told (entries front) taken killed c → AreCarried told (entries s'.front) taken' killed c'
  start_carried st now process child ok fx front taken taken' killed c c' s s' first next tells behind one so =
      let gave = tells.turn.0 in
      let e : Entry = gave.entry.entry in
      let mid = tells.taken in
      let takes = tells.takes in
      let k : Kept = kept_in c in
      let same : Spawned process ok ≡ e.input = sym gave.is.same in
      let kept : kept_in mid ≡ with_told k (Spawned process ok)
      = same_kept mid.numbers (if ok then c.numbers else without process c.numbers) mid.awaited (told_off process c.awaited) takes.numbers takes.awaited in
      let queue : IsQueue (entries front) taken' killed (told_off process c.awaited)
      = subst (λ n. IsQueue (entries front) n killed (told_off process c.awaited)) (sym next) (queue_off (entries front) taken killed process c.awaited first so.queue) in
      subst (λ es. AreCarried told es taken' killed c') (sym (next_entry front s s' now (Spawned process ok) fx gave behind one))
      (carried_turn (entries front) taken taken' killed c mid c' e so
      (subst (λ i. Grows (told c.spawner) (told mid.spawner) (late_kill k i)) same takes.grows)
      (subst (λ i. kept_in mid ≡ with_told k i) same kept) (subst (IsQueue (entries front) taken' killed) (sym takes.awaited) queue)
      (subst (λ f. Carries told faults running f mid c') (sym gave.told) tells.turn.1))

  -- .. where a step was made
  pub exit_made : (st : Setting) (now process : ℕ) (o : Option Effects) (front : List Signed) (taken : ℕ) (killed : Bool) (c c' : ChildrenState P) (s s' : SeatState)
      → is_some o ≡ true → TellsExit told faults running process (MakesTurn told faults running st now o) c c' s s' → IsPrefix front s'.front
      → length s'.front ≡ length front + 1 → AreCarried told (entries front) taken killed c → AreCarried told (entries s'.front) taken killed c'
  exit_made st now process (Some fx) front taken killed c c' s s' made tells behind one so =
      exit_carried st now process fx front taken killed c c' s s' tells behind one so
  exit_made st now process None front taken killed c c' s s' made tells behind one so = absurd cc

  pub start_made : {C : Type 0} (st : Setting) (now process : ℕ) (child : Option C) (ok : Bool) (o : Option Effects) (front : List Signed) (taken taken' : ℕ) (killed : Bool)
      (c c' : ChildrenState P) (s s' : SeatState) → is_some o ≡ true → IsSomeAnd (slice_get c.awaited 0) (λ (w : Awaited). w.start.process ≡ process) → taken' ≡ taken + 1
      → TellsStart told faults running process child ok (MakesTurn told faults running st now o) c c' s s' → IsPrefix front s'.front → length s'.front ≡ length front + 1
      → AreCarried told (entries front) taken killed c → AreCarried told (entries s'.front) taken' killed c'
  start_made st now process child ok (Some fx) front taken taken' killed c c' s s' made first next tells behind one so =
      start_carried st now process child ok fx front taken taken' killed c c' s s' first next tells behind one so
  start_made st now process child ok None front taken taken' killed c c' s s' made first next tells behind one so = absurd cc

  -- nothing was done
  pub carried_same : (h : List Entry) (taken : ℕ) (killed : Bool) (c c' : ChildrenState P) → Grows (told c.spawner) (told c'.spawner) [] → c'.numbers ≡ c.numbers
      → c'.awaited ≡ c.awaited → AreCarried told h taken killed c → AreCarried told h taken killed c'
  carried_same h taken killed c c' grows numbers awaited so =
      let s = so.signalled in record {
        signalled = record {
          moments = s.moments;
          entries_are = s.entries_are;
          alone = s.alone;
          tells = tells_none (told c.spawner) (told c'.spawner) (acts_along no_children s.moments) s.tells grows;
        };
        kept = same_kept c'.numbers c.numbers c'.awaited c.awaited numbers awaited ∙ so.kept;
        queue = subst (IsQueue h taken killed) (sym awaited) so.queue;
      }

  pub quiet_grows : (a b : P) → IsQuiet told faults a b → Grows (told a) (told b) []
  quiet_grows a b quiet = grows_none (told a) (told b) quiet.same

  -- all were killed
  pub carried_kill : (h : List Entry) (taken : ℕ) (killed : Bool) (c c' : ChildrenState P) → Does told faults running c.spawner c'.spawner (map kill_of c.numbers)
      → c'.numbers ≡ c.numbers → c'.awaited ≡ map doomed c.awaited → AreCarried told h taken killed c → AreCarried told h taken true c'
  unfolding signalled_kill
  carried_kill h taken killed c c' does numbers awaited so =
      let s = so.signalled in record {
        signalled = signalled_kill h killed (told c.spawner) (told c'.spawner) (kept_in c) s so.kept does.grows;
        kept = same_kept c'.numbers c.numbers c'.awaited (map doomed c.awaited) numbers awaited ∙ ap (λ (x : Kept). after_moment x None) so.kept
            ∙ sym (after_more no_children s.moments None);
        queue = subst (IsQueue h taken true) (sym awaited) (queue_killed h taken killed c.awaited so.queue);
      }

  -- a test, whether it killed all or not
  test_carried : (lapsed : Bool) (h : List Entry) (taken : ℕ) (killed : Bool) (c c' : ChildrenState P)
      → Does told faults running c.spawner c'.spawner (if lapsed then map kill_of c.numbers else []) → c'.numbers ≡ c.numbers
      → c'.awaited ≡ (if lapsed then map doomed c.awaited else c.awaited) → AreCarried told h taken killed c → AreCarried told h taken (killed || lapsed) c'
  test_carried true h taken killed c c' does numbers awaited so =
      subst (λ b. AreCarried told h taken b c') (sym (or_right killed true refl)) (carried_kill h taken killed c c' does numbers awaited so)
  test_carried false h taken killed c c' does numbers awaited so =
      subst (λ b. AreCarried told h taken b c') (sym (or_false killed)) (carried_same h taken killed c c' does.grows numbers awaited so) where
        or_false : (b : Bool) → (b || false) ≡ b
        or_false true = refl
        or_false false = refl

  pub guard_carried : (now last last' fire : ℕ) (answer lapsed : Bool) (h : List Entry) (taken : ℕ) (killed : Bool) (c c' : ChildrenState P) → lapsed ≡ is_lapsed last' fire now
      → Guards told faults running now last last' fire c c' answer → AreCarried told h taken killed c → AreCarried told h taken (killed || lapsed) c'
  guard_carried now last last' fire answer lapsed h taken killed c c' is guards so =
      test_carried lapsed h taken killed c c'
      (subst (λ b. Does told faults running c.spawner c'.spawner (if b then map kill_of c.numbers else [])) (sym is) guards.kills) guards.numbers
      (subst (λ b. c'.awaited ≡ (if b then map doomed c.awaited else c.awaited)) (sym is) guards.awaited) so

  -- nothing yet
  pub new_carried : (h : List Entry) (c : ChildrenState P) → h ≡ [] → Tells (told c.spawner) [] → c.numbers ≡ [] → c.awaited ≡ [] → AreCarried told h 0 false c
  new_carried h c none tells numbers awaited = subst (λ es. AreCarried told es 0 false c) (sym none) (record {
    signalled = record { moments = []; entries_are = refl; alone = λ not_killed. refl; tells = tells };
    kept = same_kept c.numbers [] c.awaited [] numbers awaited;
    queue = subst (IsQueue [] 0 false) (sym awaited) (record { most = omega arith; left = refl; marks = tt });
  })

-- ---- the next start

get_drop : {A : Type 0} (n : ℕ) (xs : List A) (y : A) (ys : List A) → y ∷ ys ≡ drop n xs → slice_get xs n ≡ Some y
get_drop zero [] y ys is = absurd cc
get_drop (suc n) [] y ys is = absurd cc
get_drop zero (x ∷ xs) y ys is = let same : y ≡ x = cc is in ap Some (sym same)
get_drop (suc n) (x ∷ xs) y ys is = get_drop n xs y ys is

pub take_first : (h : List Entry) (taken : ℕ) (killed : Bool) (ws : List Awaited) (w : Awaited) → Some w ≡ slice_get ws 0 → IsQueue h taken killed ws
    → (slice_get (starts_of h) taken ≡ Some w.start) × (w.signalled ≡ true → IsLet h killed w.start.process)
take_first h taken killed [] w is q = absurd cc
take_first h taken killed (v ∷ vs) w is q =
    let same : w ≡ v = cc is in
    subst (λ (x : Awaited). (slice_get (starts_of h) taken ≡ Some x.start) × (x.signalled ≡ true → IsLet h killed x.start.process)) (sym same)
    (get_drop taken (starts_of h) v.start (map start_of vs) q.left, q.marks.0)

pub took_start : (s s' : SeatState) (h : List Signed) (n taken : ℕ) (killed : Bool) (ws : List Awaited) (w : Awaited) → IsPrefix s.front h
    → s' ≡ record { by = s.by; count = s.count; taken = n + 1; front = h } → n ≡ s.taken → s.taken ≡ taken → Some w ≡ slice_get ws 0 → IsQueue (entries h) taken killed ws
    → TookStart s s' w killed
took_start s s' h n taken killed ws w before is same count at q =
    let first = take_first (entries h) taken killed ws w at q in
    let front : s'.front ≡ h = ap (λ (x : SeatState). x.front) is in record {
      seen = seen_told s s' (n + 1) h before is;
      there = subst (λ k. slice_get (starts_of (entries s'.front)) k ≡ Some w.start) (sym count)
          (subst (λ (l : List Signed). slice_get (starts_of (entries l)) taken ≡ Some w.start) (sym front) first.0);
      taken = ap (λ (x : SeatState). x.taken) is ∙ ap (λ k. k + 1) same;
      let_ = subst (λ (l : List Signed). w.signalled ≡ true → IsLet (entries l) killed w.start.process) (sym front) first.1;
    }

pub both_true : (a b : Bool) → (a && b) ≡ true → (a ≡ true) × (b ≡ true)
both_true true b is = (refl, is)
both_true false b is = absurd cc
