-- Steps name entries: calls that were made at one step are of one entry of one daemon of one machine.
use Rattle.sl_run_law.specs.Course.CallStamps.{stamp_in}
use Rattle.sl_run_law.proofs.Front.RunsFromFronts.{IsLast}
use Rattle.sl_run_law.proofs.Front.JoinedLists.{contains_left, in_flat}
use Rattle.sl_run_law.proofs.Landing.CallsMadeBefore.{run_made_before}
use Rattle.sl_run_law.proofs.Landing.OneEvent.{first_later, world_first, world_keeps, world_then}
use Rattle.sl_run_law.proofs.Landing.CallsOfStep.{came}
use Rattle.sl_run_law.proofs.Moment.MachinesInOrder.{fall_rest, fall_step, machines_ordered}
use Rattle.sl_run_law.specs.Moment.Orders.{Fall, IsTimed, life_of}
use Rattle.sl_words.proofs.Lists.{contains_cases, contains_none}
use Rattle.sl_safety.proofs.Resources.OwnBlocks.{timed_in}
use Rattle.sl_run.specs.Inputs.{machine_of}
use Rattle.sl_run.specs.Refusals.{may_happen}
use Rattle.sl_run.specs.Runs.{Happening}
use Rattle.sl_run.specs.Safety.{LawfulRun, world_at}
use Rattle.sl_run.specs.Worlds.{Course, Daemon, Machine, Program, Stamp, World, daemons_on, machine_at}
use Rattle.sl_run.specs.declared.event.Event.{Event}
use Rattle.sl_run.specs.declared.header.Header.{Header}
use Rattle.sl_run_law.proofs.Beginnings.{begins_new}
use Rattle.sl_trace.specs.declared.effects.Effects.{Effects}
use Rattle.sl_run_law.proofs.Watchdog.Stamps.{stamp_there}
use Rattle.sl_words.proofs.CaseLaws.{none_some, some_value}
use Rattle.std.proofs.Common.{ap, arith, inl, inr, refl, subst, sym, tests, ◌∙◌}
use Rattle.std.specs.Prelude.{Bool, Contains, List, Option, Some, [], false, flat_map, length, true, ℕ, ◌++◌, ◌<◌, ◌==◌, ◌∷◌, ◌≡◌, ◌⊎◌}

-- ---- machines

-- Two calls that were made at one step are of one machine.
abbrev CallsApart : World → Type 0
CallsApart w = (m n : ℕ) (a b : Machine) (c d : Course) → machine_at w m ≡ Some a → machine_at w n ≡ Some b → Contains a.calls c → Contains b.calls d
    → c.made.step ≡ d.made.step → m ≡ n

-- A call is one of before, made at its step, or was made now by machine k.
data OldOrNow (w : World) (k now m : ℕ) (c : Course) : Type 0 where
  Old : (a : Machine) (d : Course) → machine_at w m ≡ Some a → Contains a.calls d → c.made.step ≡ d.made.step → OldOrNow w k now m c
  Now : m ≡ k → c.made.step ≡ now → OldOrNow w k now m c

old_or_now : (w : World) (e : Event) (fx : Effects) → may_happen w e ≡ true → (m : ℕ) (b : Machine) (c : Course) → machine_at (world_then w e fx) m ≡ Some b → Contains b.calls c
    → OldOrNow w (machine_of e) (world_first w e).step m c
old_or_now w e fx may m b c at has =
    let from = came w e fx m b may at in
    let p = from.passage in
    elim (p.stepped.back c has) as (λ z. OldOrNow w (machine_of e) (world_first w e).step m c) [
      | inl s ↦ let t = p.turned.back s.0 s.1 in Old from.before t.0 from.at t.1 (ap (λ (x : Stamp). x.step) (s.2.made ∙ t.2.made))
      | inr made ↦ Now made.here (ap (λ (x : Course). x.made.step) (sym made.is))
    ]

never_now : (s t n now : ℕ) → s < n → n < now → s ≡ t → t ≡ now → ⊥
never_now s t n now p q e f = omega (arith, p, q, e, f)

one_of_both : (w : World) (k now m n : ℕ) (c d : Course) → CallsApart w → ((j : ℕ) (a : Machine) (x : Course) → machine_at w j ≡ Some a → Contains a.calls x → x.made.step < w.step)
    → w.step < now → c.made.step ≡ d.made.step → OldOrNow w k now m c → OldOrNow w k now n d → m ≡ n
one_of_both w k now m n c d apart before later same (Old a x at has is) (Old b y there too it) = apart m n a b x y at there has too (sym is ∙ same ∙ it)
one_of_both w k now m n c d apart before later same (Old a x at has is) (Now here it) =
    absurd (never_now x.made.step d.made.step w.step now (before m a x at has) later (sym is ∙ same) it)
one_of_both w k now m n c d apart before later same (Now here is) (Old b y there too it) =
    absurd (never_now y.made.step c.made.step w.step now (before n b y there too) later (sym it ∙ sym same) is)
one_of_both w k now m n c d apart before later same (Now here is) (Now hence it) = here ∙ sym hence

apart_next : (p : Program) (h : Header) (now : List Happening) (x : Happening) (l : IsLast p h now x) → CallsApart (world_at p h now)
    → CallsApart (world_then (world_at p h now) x.0 l.effects)
apart_next p h now x l apart m n a b c d at there has too same =
    let w : World = world_at p h now in
    one_of_both w (machine_of x.0) (world_first w x.0).step m n c d apart (λ j e y on inside. (run_made_before p h now l.before j e y on inside).0)
    (first_later w x.0).step same (old_or_now w x.0 l.effects l.may m a c at has) (old_or_now w x.0 l.effects l.may n b d there too)

pub calls_apart : (p : Program) (h : Header) (xs : List Happening) → LawfulRun p h xs → CallsApart (world_at p h xs)
calls_apart p h xs run =
    world_keeps CallsApart p h (λ m n a b c d at there has too same. absurd (contains_none c (subst (λ cs. Contains cs c) (begins_new p h m a at).calls has)))
    (λ now x law l so. apart_next p h now x l so) xs run

-- ---- daemons

-- Of two lists in one that falls the first is later.
pub fall_apart : (n : ℕ) (ss ts : List Stamp) (s t : Stamp) → Fall n (ss ++ ts) → Contains ss s → Contains ts t → t.step < s.step
fall_apart n [] ts s t h has too = absurd (contains_none s has)
fall_apart n (x ∷ ss) ts s t h has too =
    elim (contains_cases x ss s has) as (λ z. t.step < s.step) [
      | inl e ↦ subst (λ (y : Stamp). t.step < y.step) e (fall_step x.step ts t (fall_rest x.step ss ts h.1) too)
      | inr more ↦ fall_apart x.step ss ts s t h.1 more too
    ]

abbrev IsOf : Daemon → Stamp → Type 0
IsOf d s = Contains (life_of d) s

less_same : (s t : ℕ) → t < s → s ≡ t → ⊥
less_same s t p q = omega (arith, p, q)

-- Stamps of one step are of one daemon.
one_life : (n : ℕ) (ds : List Daemon) (d e : Daemon) (s t : Stamp) → Fall n (flat_map life_of ds) → Contains ds d → Contains ds e → IsOf d s → IsOf e t → s.step ≡ t.step → d ≡ e
one_life n [] d e s t h has too p q same = absurd (contains_none d has)
one_life n (x ∷ ds) d e s t h has too p q same = by (λ here there. one_life n ds d e s t (fall_rest n (life_of x) (flat_map life_of ds) h) here there p q same) (contains_cases x ds d has) (contains_cases x ds e too)
  where
    by : (Contains ds d → Contains ds e → d ≡ e) → (x ≡ d) ⊎ Contains ds d → (x ≡ e) ⊎ Contains ds e → d ≡ e
    by rest (inl here) (inl hence) = sym here ∙ hence
    by rest (inl here) (inr more) =
        absurd (less_same s.step t.step
        (fall_apart n (life_of x) (flat_map life_of ds) s t h (subst (λ y. IsOf y s) (sym here) p) (in_flat life_of ds e t more q)) same)
    by rest (inr more) (inl hence) =
        absurd (less_same t.step s.step
        (fall_apart n (life_of x) (flat_map life_of ds) t s h (subst (λ y. IsOf y t) (sym hence) q) (in_flat life_of ds d s more p)) (sym same))
    by rest (inr more) (inr other) = rest more other

-- ---- entries

same_index : (x : Stamp) (ss : List Stamp) (i j : ℕ) (s t : Stamp) (b c : Bool) → (i == length ss) ≡ b → (j == length ss) ≡ c → Fall x.step ss
    → elim b as (λ z. Option Stamp) [ true ↦ Some x | false ↦ stamp_in ss i ] ≡ Some s
    → elim c as (λ z. Option Stamp) [ true ↦ Some x | false ↦ stamp_in ss j ] ≡ Some t → s.step ≡ t.step
    → (stamp_in ss i ≡ Some s → stamp_in ss j ≡ Some t → i ≡ j) → i ≡ j
same_index x ss i j s t true true k l fall at there same rest = grind (arith, tests)
same_index x ss i j s t true false k l fall at there same rest =
    absurd (less_same s.step t.step (subst (λ (y : Stamp). t.step < y.step) (some_value x s at) (fall_step x.step ss t fall (stamp_there ss j t there))) same)
same_index x ss i j s t false true k l fall at there same rest =
    absurd (less_same t.step s.step (subst (λ (y : Stamp). s.step < y.step) (some_value x t there) (fall_step x.step ss s fall (stamp_there ss i s at))) (sym same))
same_index x ss i j s t false false k l fall at there same rest = rest at there

-- Entries of one step are one.
pub one_entry : (n : ℕ) (ss : List Stamp) (i j : ℕ) (s t : Stamp) → Fall n ss → stamp_in ss i ≡ Some s → stamp_in ss j ≡ Some t → s.step ≡ t.step → i ≡ j
one_entry n [] i j s t h at there same = absurd (none_some s at)
one_entry n (x ∷ ss) i j s t h at there same =
    same_index x ss i j s t (i == length ss) (j == length ss) refl refl h.1 at there same (λ p q. one_entry x.step ss i j s t h.1 p q same)

-- Stamps of one step, of two entries of a machine, are of one daemon and one entry.
pub one_daemon : (p : Program) (h : Header) (xs : List Happening) → LawfulRun p h xs → (m : ℕ) (a : Machine) (d e : Daemon) → machine_at (world_at p h xs) m ≡ Some a
    → Contains (daemons_on a) d → Contains (daemons_on a) e → (i j : ℕ) (s t : Stamp) → stamp_in d.stamps i ≡ Some s → stamp_in e.stamps j ≡ Some t → s.step ≡ t.step → d ≡ e
one_daemon p h xs run m a d e at has too i j s t one two same =
    one_life (world_at p h xs).step (daemons_on a) d e s t (machines_ordered p h xs run m a at).daemons has too
    (contains_left d.stamps (d.begun ∷ []) s (stamp_there d.stamps i s one)) (contains_left e.stamps (e.begun ∷ []) t (stamp_there e.stamps j t two)) same

-- ---- calls are timed

-- A call is sampled and answered after it was made.
pub call_timed : (p : Program) (h : Header) (xs : List Happening) → LawfulRun p h xs → (m : ℕ) (a : Machine) (c : Course) → machine_at (world_at p h xs) m ≡ Some a
    → Contains a.calls c → IsTimed c
call_timed p h xs run m a c at has = timed_in (world_at p h xs).step a.calls c (machines_ordered p h xs run m a at).calls has
