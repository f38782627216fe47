-- What becomes of a machine's holdings where no daemon takes the event: those of a process that exits end, and each persistent one leaves
-- an orphan, if there is none of its place yet.
use Rattle.sl_run_law.proofs.Course.MachineTurns.{Began, Called, Came_up, Clocked, Crashed, Stays, Tested, Turned, Went_down}
use Rattle.sl_run_law.specs.Course.Mirrors.{Held_on, IsLeft, Orphaned}
use Rattle.sl_run_law.proofs.Front.JoinedLists.{contains_append}
use Rattle.sl_words.proofs.Lists.{any_of, contains_map, contains_none, in_map, kept, kept_inside}
use Rattle.sl_run.specs.EventChanges.{own_effects}
use Rattle.sl_run.specs.Worlds.{Machine, World}
use Rattle.sl_run.specs.declared.event.Event.TheVariants.{AnswerCall, Crash, Do, DropWrite, ExitOf, GiveAsk, GiveCommand, GiveLvm, Land, Pass, Reset, Restart, Sample, SpawnedOf, StartDaemon, Tear, Test, WakeUp}
use Rattle.sl_run.specs.declared.event.Event.{Event}
use Rattle.sl_trace.specs.Traces.{end_of, has_orphan_of, held_after, is_ended_by, is_orphan, leaves_orphan, orphan_of, orphans_left, same_place}
use Rattle.sl_trace.specs.declared.effects.Effects.{Effects}
use Rattle.sl_trace.specs.declared.effects.End.{End}
use Rattle.sl_trace.specs.declared.effects.Grant.{Grant}
use Rattle.sl_words.proofs.CaseLaws.{true_is_false}
use Rattle.sl_words.proofs.WordLaws.{and_true}
use Rattle.std.proofs.Common.{ap, inl, inr, refl, subst, sym, ◌∙◌}
use Rattle.std.proofs.lemmas.Bool.Decides.{Decides-eqb}
use Rattle.std.proofs.lemmas.Bool.{and_from, eq-eqb, eqb-true, not-true}
use Rattle.std.proofs.lemmas.Slice.Eq.{bytes_eq-Decides}
use Rattle.std.specs.Prelude.{Contains, List, bytes_eq, false, filter, map, not, true, [], ℕ, ◌&&◌, ◌==◌, ◌≡◌, ◌⊎◌}

-- The holdings of a process.
abbrev of_process : ℕ → List Grant → List Grant
of_process p held = filter (λ g. g.process == p) held

-- What the machine itself does to these holdings: nothing is granted, or a process exits.
pub data GrantsOrphans (held : List Grant) (fx : Effects) : Type 0 where
  Grants_nothing : fx.grants ≡ [] → GrantsOrphans held fx
  Exits : (p : ℕ) → fx.ends ≡ map end_of (of_process p held) → fx.grants ≡ orphans_left p held → GrantsOrphans held fx

-- ---- at each event

exit_keeps : (w : World) (n p m : ℕ) (a b : Machine) → Turned w (ExitOf n p) m a b → b.holdings ≡ a.holdings
exit_keeps w n p m a b (Stays is) = ap (λ (x : Machine). x.holdings) is
exit_keeps w n p m a b (Clocked k is) = ap (λ (x : Machine). x.holdings) is
exit_keeps w n p m a b (Called k f g flight keeps is) = ap (λ (x : Machine). x.holdings) is
exit_keeps w n p m a b (Tested t is) = ap (λ (x : Machine). x.holdings) is
exit_keeps w n p m a b (Began name event up used fresh is) = ap (λ (x : Machine). x.holdings) is
exit_keeps w n p m a b (Crashed event is) = ap (λ (x : Machine). x.holdings) is
exit_keeps w n p m a b (Went_down event up is) = absurd cc
exit_keeps w n p m a b (Came_up event down is) = ap (λ (x : Machine). x.holdings) is

exit_grants : (w : World) (n p : ℕ) (a b : Machine) → b.holdings ≡ a.holdings → GrantsOrphans b.holdings (own_effects w (ExitOf n p) a)
exit_grants w n p a b same =
    Exits p (ap (λ (gs : List Grant). map end_of (of_process p gs)) (sym same)) (ap (λ (gs : List Grant). orphans_left p gs) (sym same))

pub own_grants : (w : World) (e : Event) (m : ℕ) (a b : Machine) → Turned w e m a b → GrantsOrphans b.holdings (own_effects w e a)
own_grants w (ExitOf n p) m a b t = exit_grants w n p a b (exit_keeps w n p m a b t)
own_grants w (Pass d growths) m a b t = Grants_nothing refl
own_grants w (WakeUp n) m a b t = Grants_nothing refl
own_grants w (GiveCommand n text) m a b t = Grants_nothing refl
own_grants w (GiveLvm n line) m a b t = Grants_nothing refl
own_grants w (GiveAsk n) m a b t = Grants_nothing refl
own_grants w (Sample n c k) m a b t = Grants_nothing refl
own_grants w (Land n c) m a b t = Grants_nothing refl
own_grants w (Tear n c k bytes) m a b t = Grants_nothing refl
own_grants w (AnswerCall n c ok) m a b t = Grants_nothing refl
own_grants w (Do n c) m a b t = Grants_nothing refl
own_grants w (DropWrite n c) m a b t = Grants_nothing refl
own_grants w (Test n) m a b t = Grants_nothing refl
own_grants w (SpawnedOf n p ok) m a b t = Grants_nothing refl
own_grants w (StartDaemon n name) m a b t = Grants_nothing refl
own_grants w (Crash n) m a b t = Grants_nothing refl
own_grants w (Reset n) m a b t = Grants_nothing refl
own_grants w (Restart n) m a b t = Grants_nothing refl

-- ---- where nothing is held

nothing_granted : (held : List Grant) (fx : Effects) → held ≡ [] → GrantsOrphans held fx → fx.grants ≡ []
nothing_granted held fx none (Grants_nothing is) = is
nothing_granted held fx none (Exits p ends grants) = grants ∙ ap (λ (gs : List Grant). orphans_left p gs) none

pub still_nothing : (held : List Grant) (fx : Effects) → held ≡ [] → GrantsOrphans held fx → held_after fx held ≡ []
still_nothing held fx none own = ap (held_after fx) none ∙ nothing_granted held fx none own

-- ---- what is left

place_itself : (path : List ℕ) (offset : ℕ) → same_place path offset path offset ≡ true
place_itself path offset = and_from (offset == offset) (bytes_eq path path) ((Decides-eqb offset offset).1 refl) ((bytes_eq-Decides path path).1 refl)

has_itself : (held : List Grant) (g : Grant) → Contains held g → is_orphan g ≡ true → has_orphan_of held g ≡ true
has_itself held g there orphan =
    any_of (λ (h : Grant). is_orphan h && same_place h.path h.offset g.path g.offset) held g
    (and_from (is_orphan g) (same_place g.path g.offset g.path g.offset) orphan (place_itself g.path g.offset)) there

-- What stands at a moment after it: it stood before, or is an orphan.
old_or_orphan : (held : List Grant) (fx : Effects) (k : Grant) → GrantsOrphans held fx → Contains (held_after fx held) k
    → (Contains held k × (is_ended_by fx.ends k ≡ false)) ⊎ Contains fx.grants k
old_or_orphan held fx k own there = by (contains_append (filter (λ (x : Grant). not (is_ended_by fx.ends x)) held) fx.grants k there) where
  by : Contains (filter (λ (x : Grant). not (is_ended_by fx.ends x)) held) k ⊎ Contains fx.grants k → (Contains held k × (is_ended_by fx.ends k ≡ false)) ⊎ Contains fx.grants k
  by (inl old) = let q = kept_inside (λ (x : Grant). not (is_ended_by fx.ends x)) held k old in inl (q.0, not-true (is_ended_by fx.ends k) q.1)
  by (inr new) = inr new

-- The holding that leaves an orphan.
record LeavesIt (p : ℕ) (held : List Grant) (g : Grant) : Type 0 where
  before : Grant
  there : Contains held before
  own : before.process ≡ p
  persistent : before.persistent ≡ true
  first : has_orphan_of held before ≡ false
  becomes : g ≡ orphan_of before

leaves_it : (p : ℕ) (held : List Grant) (g : Grant) → Contains (orphans_left p held) g → LeavesIt p held g
leaves_it p held g there =
    let x = in_map orphan_of (filter (leaves_orphan held p) held) g there in
    let q = kept_inside (leaves_orphan held p) held x.0 x.1 in
    let one = and_true (x.0.process == p && x.0.persistent) (not (has_orphan_of held x.0)) q.1 in
    let two = and_true (x.0.process == p) x.0.persistent one.0 in
    record {
      before = x.0;
      there = q.0;
      own = eqb-true x.0.process p two.0;
      persistent = two.1;
      first = not-true (has_orphan_of held x.0) one.1;
      becomes = sym x.2;
    }

is_orphan_granted : (held : List Grant) (fx : Effects) (g : Grant) → GrantsOrphans held fx → Contains fx.grants g → is_orphan g ≡ true
is_orphan_granted held fx g (Grants_nothing is) there = absurd (contains_none g (subst (λ (gs : List Grant). Contains gs g) is there))
is_orphan_granted held fx g (Exits p ends grants) there =
    ap (λ (x : Grant). is_orphan x) (leaves_it p held g (subst (λ (gs : List Grant). Contains gs g) grants there)).becomes

-- The process that exits holds nothing any more.
is_gone : (held : List Grant) (fx : Effects) (p : ℕ) (k : Grant) → fx.ends ≡ map end_of (of_process p held) → Contains held k → k.process ≡ p → is_ended_by fx.ends k ≡ true
is_gone held fx p k ends there own =
    any_of (λ (e : End). e.process == k.process && same_place e.path e.offset k.path k.offset) fx.ends (end_of k)
    (and_from (k.process == k.process) (same_place k.path k.offset k.path k.offset) (eq-eqb k.process k.process refl) (place_itself k.path k.offset))
    (subst (λ (es : List End). Contains es (end_of k)) (sym ends)
    (contains_map end_of (of_process p held) k (kept (λ (g : Grant). g.process == p) held k (eq-eqb k.process p own) there)))

new_left : (first held : List Grant) (fx : Effects) (p : ℕ) (g : Grant) (x : LeavesIt p held g) → fx.ends ≡ map end_of (of_process p held)
    → GrantsOrphans held fx → IsLeft first held x.before → IsLeft first (held_after fx held) g
new_left first held fx p g x ends own (Orphaned h there persistent is gone) =
    absurd (true_is_false (sym (has_itself held x.before x.there (ap (λ (y : Grant). is_orphan y) is)) ∙ x.first))
new_left first held fx p g x ends own (Held_on there) = Orphaned x.before there x.persistent x.becomes gone where
  gone : (k : Grant) → Contains (held_after fx held) k → k.process ≡ x.before.process → is_orphan k ≡ true
  gone k now is = by (old_or_orphan held fx k own now) where
    by : (Contains held k × (is_ended_by fx.ends k ≡ false)) ⊎ Contains fx.grants k → is_orphan k ≡ true
    by (inl old) = absurd (true_is_false (sym (is_gone held fx p k ends old.0 (is ∙ x.own)) ∙ old.1))
    by (inr new) = is_orphan_granted held fx k own new

old_left : (first held : List Grant) (fx : Effects) (g : Grant) → GrantsOrphans held fx → IsLeft first held g → IsLeft first (held_after fx held) g
old_left first held fx g own (Held_on there) = Held_on there
old_left first held fx g own (Orphaned h there persistent is gone) = Orphaned h there persistent is later where
  later : (k : Grant) → Contains (held_after fx held) k → k.process ≡ h.process → is_orphan k ≡ true
  later k now same = by (old_or_orphan held fx k own now) where
    by : (Contains held k × (is_ended_by fx.ends k ≡ false)) ⊎ Contains fx.grants k → is_orphan k ≡ true
    by (inl old) = gone k old.0 same
    by (inr new) = is_orphan_granted held fx k own new

given_left : (first held : List Grant) (fx : Effects) (g : Grant) → ((k : Grant) → Contains held k → IsLeft first held k) → GrantsOrphans held fx → Contains fx.grants g
    → IsLeft first (held_after fx held) g
given_left first held fx g each (Grants_nothing is) there = absurd (contains_none g (subst (λ (gs : List Grant). Contains gs g) is there))
given_left first held fx g each (Exits p ends grants) there =
    let x : LeavesIt p held g = leaves_it p held g (subst (λ (gs : List Grant). Contains gs g) grants there) in
    new_left first held fx p g x ends (Exits p ends grants) (each x.before x.there)

-- What is left is still so after it.
pub still_left : (first held : List Grant) (fx : Effects) (g : Grant) → ((k : Grant) → Contains held k → IsLeft first held k) → GrantsOrphans held fx
    → Contains (held_after fx held) g → IsLeft first (held_after fx held) g
still_left first held fx g each own there = by (old_or_orphan held fx g own there) where
  by : (Contains held g × (is_ended_by fx.ends g ≡ false)) ⊎ Contains fx.grants g → IsLeft first (held_after fx held) g
  by (inl old) = old_left first held fx g own (each g old.0)
  by (inr new) = given_left first held fx g each own new
