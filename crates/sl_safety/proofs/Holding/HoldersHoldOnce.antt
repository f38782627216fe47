-- No process of a machine holds a place twice. While a daemon runs the machine's holdings are those of its trace, where each grant leaves
-- its process one of its place; after the daemon's end holdings end, and an exit leaves one orphan of a place at most.
use Rattle.sl_area.specs.AreaSizes.{Layout, layout_with}
use Rattle.sl_run_law.proofs.Course.OrphansOfExits.{Exits, GrantsOrphans, Grants_nothing, own_grants}
use Rattle.sl_run_law.proofs.Course.MachinesKeep.{Goes_on, lawful_on, machines_keep}
use Rattle.sl_run_law.proofs.Course.MachinesMirror.{machines_mirror}
use Rattle.sl_run_law.proofs.Course.DaemonRuns.{runs_then}
use Rattle.sl_run_law.proofs.Course.MachineTurns.{Alone, Began, Called, Came_up, Clocked, Crashed, Elsewhere, Stays, Stepped, Tested, Took, Turned, Went_down}
use Rattle.sl_run_law.proofs.Course.Daemons.{daemons_are, entry_of, step_daemon}
use Rattle.sl_run_law.specs.Course.Mirrors.{Mirrors}
use Rattle.sl_run_law.proofs.Front.JoinedLists.{contains_append}
use Rattle.sl_safety.proofs.Holding.Places.{is_place, place_is}
use Rattle.sl_run.proofs.LawFacts.{orderly-front}
use Rattle.sl_run.specs.Lawful.{Orderly}
use Rattle.sl_words.proofs.Lists.{any_of, contains_cases, contains_first, contains_more, contains_none, in_map, kept_inside, next_before}
use Rattle.sl_words.proofs.Options.{some_of}
use Rattle.sl_run.specs.EventChanges.{first_change, next_step, own_effects, with_entry}
use Rattle.sl_run.specs.HeldOverTime.{HoldersHoldOnce}
use Rattle.sl_run.specs.Runs.{Happening, own_effects_of}
use Rattle.sl_run.specs.Safety.{LawfulRun, world_at}
use Rattle.sl_run.specs.Worlds.{Daemon, Machine, Program, World, daemons_on, machine_at, machine_of_header, stamp_now}
use Rattle.sl_run.specs.declared.event.Event.{Event}
use Rattle.sl_run.specs.declared.header.Header.{Header}
use Rattle.sl_trace.specs.Sessions.{session_numbered}
use Rattle.sl_trace.specs.Traces.{Setting, Trace, has_orphan_of, held_after, holdings, is_ended_by, is_orphan, leaves_orphan, no_effects, no_process, orphan_of, orphans_left, same_place}
use Rattle.sl_trace.specs.declared.effects.Effects.{Effects}
use Rattle.sl_trace.specs.declared.effects.Entry.{Entry}
use Rattle.sl_trace.specs.declared.effects.Grant.{Grant}
use Rattle.sl_words.proofs.CaseLaws.{is_false, true_is_false}
use Rattle.sl_words.proofs.WordLaws.{and_true}
use Rattle.std.proofs.Common.{ap, arith, inl, inr, refl, subst, sym, ◌∙◌}
use Rattle.std.proofs.lemmas.Bool.{and_from, eq-eqb, eqb-true, not-true}
use Rattle.std.proofs.lemmas.List.{append-nil, length-append}
use Rattle.std.proofs.lemmas.List.Elements.{filter-append}
use Rattle.std.specs.Option.{option_map_or}
use Rattle.std.specs.Prelude.{Bool, Contains, List, Some, [], cond, false, filter, length, map, not, option_map, suc, true, zero, ℕ, ◌&&◌, ◌++◌, ◌+◌, ◌==◌, ◌∷◌, ◌≡◌, ◌≤◌, ◌⊎◌}

-- ---- no two of one process and one place

-- Whether a holding is of the process and the place of another.
abbrev pub is_like : Grant → Grant → Bool
is_like g h = h.process == g.process && same_place h.path h.offset g.path g.offset

like_itself : (g : Grant) → is_like g g ≡ true
like_itself g = and_from (g.process == g.process) (same_place g.path g.offset g.path g.offset) (eq-eqb g.process g.process refl) (is_place g.path g.offset g.path g.offset refl refl)

like_turned : (g h : Grant) → is_like g h ≡ true → is_like h g ≡ true
like_turned g h is =
    let both = and_true (h.process == g.process) (same_place h.path h.offset g.path g.offset) is in
    let place = place_is h.path h.offset g.path g.offset both.1 in
    and_from (g.process == h.process) (same_place g.path g.offset h.path h.offset) (eq-eqb g.process h.process (sym (eqb-true h.process g.process both.0)))
    (is_place g.path g.offset h.path h.offset (sym place.0) (sym place.1))

abbrev pub Once : List Grant → Type 0
Once [] = Unit {0}
Once (g ∷ gs) = ((h : Grant) → Contains gs h → is_like g h ≡ true → ⊥) × Once gs

-- ---- how many there are

abbrev count : List Grant → Grant → ℕ
count gs g = length (filter (is_like g) gs)

none_like : (gs : List Grant) (g : Grant) → ((h : Grant) → Contains gs h → is_like g h ≡ true → ⊥) → filter (is_like g) gs ≡ []
none_like [] g none = refl
none_like (h ∷ gs) g none =
    ap (λ b. cond b (h ∷ filter (is_like g) gs) (filter (is_like g) gs)) (is_false (is_like g h) (none h (contains_first h gs)))
    ∙ none_like gs g (λ k has. none k (contains_more h gs k has))

-- Where no two are alike there is one of each.
count_once : (gs : List Grant) (g : Grant) → Once gs → Contains gs g → count gs g ≡ 1
count_once [] g once has = absurd (contains_none g has)
count_once (h ∷ gs) g once has = by (λ more. count_once gs g once.1 more) (contains_cases h gs g has) where
  by : (Contains gs g → count gs g ≡ 1) → (h ≡ g) ⊎ Contains gs g → count (h ∷ gs) g ≡ 1
  by rest (inl here) =
      ap (λ b. length (cond b (h ∷ filter (is_like g) gs) (filter (is_like g) gs))) (subst (λ (x : Grant). is_like g x ≡ true) (sym here) (like_itself g))
      ∙ ap (λ (xs : List Grant). length (h ∷ xs)) (none_like gs g (λ k there is. once.0 k there (subst (λ (x : Grant). is_like x k ≡ true) (sym here) is)))
  by rest (inr more) =
      ap (λ b. length (cond b (h ∷ filter (is_like g) gs) (filter (is_like g) gs))) (is_false (is_like g h) (λ is. once.0 g more (like_turned g h is))) ∙ rest more

count_append : (xs ys : List Grant) (g : Grant) → count (xs ++ ys) g ≡ count xs g + count ys g
count_append xs ys g = ap (λ (zs : List Grant). length zs) (filter-append (is_like g) xs ys) ∙ length-append (filter (is_like g) xs) (filter (is_like g) ys)

counted : (gs : List Grant) (k g : Grant) (b : Bool) → is_like g k ≡ b → count (k ∷ gs) g ≡ length (cond b (k ∷ filter (is_like g) gs) (filter (is_like g) gs))
counted gs k g b is = ap (λ x. length (cond x (k ∷ filter (is_like g) gs) (filter (is_like g) gs))) is

some_counted : (gs : List Grant) (k g : Grant) → is_like g k ≡ true → count (k ∷ gs) g ≡ 1 + count gs g
some_counted gs k g is = let same : length (k ∷ filter (is_like g) gs) ≡ 1 + count gs g = omega arith in counted gs k g true is ∙ same

-- What is counted isn't there where there is none.
not_there : (gs : List Grant) (g h : Grant) → count gs g ≡ 0 → Contains gs h → is_like g h ≡ true → ⊥
not_there [] g h none has is = contains_none h has
not_there (k ∷ gs) g h none has is = by (is_like g k) refl (λ fewer more. not_there gs g h fewer more is) (contains_cases k gs h has) where
  by : (b : Bool) → is_like g k ≡ b → (count gs g ≡ 0 → Contains gs h → ⊥) → (k ≡ h) ⊎ Contains gs h → ⊥
  by true like rest there = let more : count (k ∷ gs) g ≡ 1 + count gs g = some_counted gs k g like in omega (arith, more, none)
  by false like rest (inl here) = true_is_false (sym (subst (λ (x : Grant). is_like g x ≡ true) (sym here) is) ∙ like)
  by false like rest (inr more) = rest (sym (counted gs k g false like) ∙ none) more

above_zero : (n : ℕ) → (n ≡ 0 → ⊥) → 1 ≤ n
above_zero zero h = absurd (h refl)
above_zero (suc n) h = omega arith

one_there : (gs : List Grant) (g : Grant) → Contains gs g → 1 ≤ count gs g
one_there gs g has = above_zero (count gs g) (λ none. not_there gs g g none has (like_itself g))

-- ---- lists of one each

none_left : (a b c d : ℕ) → c ≡ 1 → c ≡ a + b → b ≡ 1 + d → d ≡ 0
none_left a b c d one sum more = omega (arith, one, sum, more)

none_before : (a b c : ℕ) → c ≡ 1 → c ≡ a + b → 1 ≤ b → a ≡ 0
none_before a b c one sum some = omega (arith, one, sum, some)

abbrev CountsOne : List Grant → List Grant → Type 0
CountsOne xs ys = (y : Grant) → Contains ys y → count (xs ++ ys) y ≡ 1

once_given : (xs ys : List Grant) → CountsOne xs ys → Once ys
once_given xs [] each = tt
once_given xs (y ∷ ys) each =
    let none : count ys y ≡ 0 =
    none_left (count xs y) (count (y ∷ ys) y) (count (xs ++ y ∷ ys) y) (count ys y) (each y (contains_first y ys)) (count_append xs (y ∷ ys) y) (some_counted ys y y (like_itself y)) in (
      λ h has is. not_there ys y h none has is,
      once_given (xs ++ y ∷ []) ys (λ k has. subst (λ (zs : List Grant). count zs k ≡ 1) (sym (next_before xs y ys)) (each k (contains_more y ys k has))),
    )

apart_given : (xs ys : List Grant) → CountsOne xs ys → (x y : Grant) → Contains xs x → Contains ys y → is_like x y ≡ true → ⊥
apart_given xs ys each x y has there is =
    not_there xs y x (none_before (count xs y) (count ys y) (count (xs ++ ys) y) (each y there) (count_append xs ys y) (one_there ys y there)) has (like_turned x y is)

once_append : (xs ys : List Grant) → Once xs → Once ys → ((x y : Grant) → Contains xs x → Contains ys y → is_like x y ≡ true → ⊥) → Once (xs ++ ys)
once_append [] ys one two apart = two
once_append (x ∷ xs) ys one two apart = (
  λ h has is. elim (contains_append xs ys h has) as (λ z. ⊥) [ inl old ↦ one.0 h old is | inr new ↦ apart x h (contains_first x xs) new is ],
  once_append xs ys one.1 two (λ k h has there is. apart k h (contains_more x xs k has) there is),
)

once_filter : (q : Grant → Bool) (gs : List Grant) → Once gs → Once (filter q gs)
once_filter q [] once = tt
once_filter q (g ∷ gs) once = by (q g) (once_filter q gs once.1) where
  by : (b : Bool) → Once (filter q gs) → Once (cond b (g ∷ filter q gs) (filter q gs))
  by true rest = (λ h has is. once.0 h (kept_inside q gs h has).0 is, rest)
  by false rest = rest

-- ---- in a trace

abbrev stays : Effects → Grant → Bool
stays fx g = not (is_ended_by fx.ends g)

granted_once : (st : Setting) (e : Entry) (past : Trace) → Orderly st (e ∷ past) → CountsOne (filter (stays e.effects) (holdings past)) e.effects.grants
granted_once st e past law y given =
    let owner = some_of (session_numbered st (e ∷ past) y.session) (law.granting.0.owned y given) in (law.granting.0.each y owner.0 given owner.1).single

pub trace_once : (st : Setting) (es : Trace) → Orderly st es → Once (holdings es)
trace_once st [] law = tt
trace_once st (e ∷ past) law =
    let old : List Grant = filter (stays e.effects) (holdings past) in
    let each = granted_once st e past law in
    once_append old e.effects.grants (once_filter (stays e.effects) (holdings past) (trace_once st past (orderly-front st (e ∷ []) past law)))
    (once_given old e.effects.grants each) (apart_given old e.effects.grants each)

-- ---- what the machine itself does

once_orphans : (xs : List Grant) (p : ℕ) → Once xs → ((k : Grant) → Contains xs k → k.process ≡ p) → Once (map orphan_of xs)
once_orphans [] p once own = tt
once_orphans (x ∷ xs) p once own = (
  λ h has is.
      let q = in_map orphan_of xs h has in
      let place = and_true (h.process == no_process) (same_place h.path h.offset x.path x.offset) is in
      let same : same_place q.0.path q.0.offset x.path x.offset ≡ true =
      ap (λ (g : Grant). same_place g.path g.offset x.path x.offset) q.2 ∙ place.1 in
      once.0 q.0 q.1
      (and_from (q.0.process == x.process) (same_place q.0.path q.0.offset x.path x.offset)
      (eq-eqb q.0.process x.process (own q.0 (contains_more x xs q.0 q.1) ∙ sym (own x (contains_first x xs)))) same),
  once_orphans xs p once.1 (λ k has. own k (contains_more x xs k has)),
)

record IsLeaving (p : ℕ) (held : List Grant) (k : Grant) : Type 0 where
  there : Contains held k
  own : k.process ≡ p
  first : has_orphan_of held k ≡ false

leaving : (p : ℕ) (held : List Grant) (k : Grant) → Contains (filter (leaves_orphan held p) held) k → IsLeaving p held k
leaving p held k has =
    let q = kept_inside (leaves_orphan held p) held k has in
    let one = and_true (k.process == p && k.persistent) (not (has_orphan_of held k)) q.1 in
    let two = and_true (k.process == p) k.persistent one.0 in
    record { there = q.0; own = eqb-true k.process p two.0; first = not-true (has_orphan_of held k) one.1 }

-- An orphan that is left is the only one of its place.
orphan_apart : (p : ℕ) (held : List Grant) (x y : Grant) → Contains held x → Contains (orphans_left p held) y → is_like x y ≡ true → ⊥
orphan_apart p held x y has there is =
    let q = in_map orphan_of (filter (leaves_orphan held p) held) y there in
    let k = leaving p held q.0 q.1 in
    let both = and_true (y.process == x.process) (same_place y.path y.offset x.path x.offset) is in
    let process : x.process ≡ no_process = sym (eqb-true y.process x.process both.0) ∙ ap (λ (g : Grant). g.process) (sym q.2) in
    let place = place_is y.path y.offset x.path x.offset both.1 in
    let one : same_place x.path x.offset q.0.path q.0.offset ≡ true =
    is_place x.path x.offset q.0.path q.0.offset (sym place.0 ∙ ap (λ (g : Grant). g.path) (sym q.2)) (sym place.1 ∙ ap (λ (g : Grant). g.offset) (sym q.2)) in
    true_is_false
    (sym (any_of (λ (h : Grant). is_orphan h && same_place h.path h.offset q.0.path q.0.offset) held x
    (and_from (is_orphan x) (same_place x.path x.offset q.0.path q.0.offset) (eq-eqb x.process no_process process) one) has) ∙ k.first)

own_once : (held : List Grant) (fx : Effects) → GrantsOrphans held fx → Once held → Once (held_after fx held)
own_once held fx (Grants_nothing is) once =
    subst (λ (gs : List Grant). Once (filter (stays fx) held ++ gs)) (sym is) (subst Once (sym (append-nil (filter (stays fx) held))) (once_filter (stays fx) held once))
own_once held fx (Exits p ends grants) once =
    subst (λ (gs : List Grant). Once (filter (stays fx) held ++ gs)) (sym grants)
    (once_append (filter (stays fx) held) (orphans_left p held) (once_filter (stays fx) held once)
    (once_orphans (filter (leaves_orphan held p) held) p (once_filter (leaves_orphan held p) held once) (λ k has. (leaving p held k has).own))
    (λ x y has there is. orphan_apart p held x y (kept_inside (stays fx) held x has).0 there is))

-- ---- on a machine

turned_once : (w : World) (e : Event) (m : ℕ) (a b : Machine) → Turned w e m a b → Once a.holdings → Once b.holdings
turned_once w e m a b (Stays is) once = subst (λ (x : Machine). Once x.holdings) (sym is) once
turned_once w e m a b (Clocked n is) once = subst (λ (x : Machine). Once x.holdings) (sym is) once
turned_once w e m a b (Called n f g flight keeps is) once = subst (λ (x : Machine). Once x.holdings) (sym is) once
turned_once w e m a b (Tested t is) once = subst (λ (x : Machine). Once x.holdings) (sym is) once
turned_once w e m a b (Began name event up used fresh is) once = subst (λ (x : Machine). Once x.holdings) (sym is) once
turned_once w e m a b (Crashed event is) once = subst (λ (x : Machine). Once x.holdings) (sym is) once
turned_once w e m a b (Went_down event up is) once = subst (λ (x : Machine). Once x.holdings) (sym is) tt
turned_once w e m a b (Came_up event down is) once = subst (λ (x : Machine). Once x.holdings) (sym is) once

running_once : (p : Program) (h : Header) (xs : List Happening) → LawfulRun p h xs → (m : ℕ) (c : Machine) → machine_at (world_at p h xs) m ≡ Some c → (d : Daemon)
    → c.daemon ≡ Some d → Once c.holdings
running_once p h xs run m c at d runs =
    let mirrors : Mirrors c = machines_mirror p h xs run m c at in
    let has : Contains (daemons_on c) d = subst (λ (ds : List Daemon). Contains ds d) (sym (daemons_are c d runs)) (contains_first d c.ended) in
    subst Once (sym (mirrors.held d runs)) (trace_once d.setting d.trace (lawful_on (world_at p h xs) m c d run.lawful at has))

stepped_once : (p : Program) (h : Header) (now : List Happening) (x : Happening) (m : ℕ) (a c : Machine) (g : Goes_on p h now x m a c) (b : Machine)
    → Turned (world_at p h now) x.0 m a b → Stepped (world_at p h now) x.0 g.effects m b c → Once b.holdings → Once c.holdings
stepped_once p h now x m a c g b t (Elsewhere is) once = subst (λ (y : Machine). Once y.holdings) (sym is) once
stepped_once p h now x m a c g b t (Alone none same is) once =
    let w : World = world_at p h now in
    let itself : own_effects_of w x.0 ≡ own_effects w x.0 a = ap (λ o. option_map_or (own_effects w x.0) o no_effects) (subst (λ n. machine_at w n ≡ Some a) same g.at) in
    let grants : GrantsOrphans b.holdings g.effects = subst (GrantsOrphans b.holdings) (sym (g.own none ∙ itself)) (own_grants w x.0 m a b t) in
    subst (λ (y : Machine). Once y.holdings) (sym is) (own_once b.holdings g.effects grants once)
stepped_once p h now x m a c g b t (Took i has same is) once =
    let w : World = world_at p h now in
    let now_stamp = stamp_now (next_step (first_change x.0 w)) b in
    let d = runs_then w x.0 m a b i g.may g.at same has t in
    let runs : c.daemon ≡ Some (with_entry (entry_of i g.effects b) now_stamp d.0) =
    ap (λ (y : Machine). y.daemon) is ∙ step_daemon now_stamp i g.effects b ∙ ap (option_map (with_entry (entry_of i g.effects b) now_stamp)) d.1 in
    running_once p h (now ++ x ∷ []) g.run m c g.later (with_entry (entry_of i g.effects b) now_stamp d.0) runs

first_once : (p : Program) (g : Layout) (h : Header) (m : ℕ) → Once (machine_of_header p g h m).holdings
unfolding machine_of_header
first_once p g h m = tt

pub holders_hold_once : HoldersHoldOnce
holders_hold_once p h xs run m a g at has =
    count_once a.holdings g
    (machines_keep p h (λ w n b. Once b.holdings) (λ n. first_once p (layout_with p.digest h.geometry) h n)
    (λ now x n b c goes once. stepped_once p h now x n b c goes goes.becomes.middle goes.becomes.turned goes.becomes.stepped
    (turned_once (world_at p h now) x.0 n b goes.becomes.middle goes.becomes.turned once)) xs run m a at) has
