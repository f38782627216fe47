-- What is used in the world after an event: what other machines held, what lingers of it, and what the event's machine holds after its step.
use Rattle.sl_safety.proofs.Resources.Calls.{numbered_at}
use Rattle.sl_words.proofs.Lists.{any_found, any_of, contains_map}
use Rattle.sl_run.specs.Conflicts.{Holding, conflicts, has_conflict, holding, lingering_holding, world_holdings, world_lingering, world_uses}
use Rattle.sl_run.specs.EventChanges.{after_effects, after_step, happens, take_step}
use Rattle.sl_run.specs.Inputs.{machine_of}
use Rattle.sl_run.specs.Refusals.{may_happen}
use Rattle.sl_run.specs.Worlds.{Lingering, Machine, Stamp, World, lingering_now, machine_at, stamp_now}
use Rattle.sl_run.specs.declared.event.Event.TheVariants.{Reset}
use Rattle.sl_run.specs.declared.event.Event.{Event}
use Rattle.sl_run_law.proofs.Course.OneMachineChanges.{changed_here}
use Rattle.sl_run_law.proofs.Course.MachineTurns.{Alone, Began, Called, Came_up, Clocked, Crashed, Elsewhere, Stays, Stepped, Tested, Took, Turned, Went_down, becomes}
use Rattle.sl_run_law.proofs.Front.JoinedLists.{contains_left, contains_right, in_flat}
use Rattle.sl_run_law.proofs.MachineWalk.{index, number_within}
use Rattle.sl_trace.specs.Traces.{held_after}
use Rattle.sl_trace.specs.declared.effects.Effects.{Effects}
use Rattle.sl_trace.specs.declared.effects.Grant.{Grant}
use Rattle.sl_trace.specs.declared.input.Input.TheVariants.{Answer as Told, Exit, Line, Number, Spawned, Wake}
use Rattle.sl_trace.specs.declared.input.Input.{Input}
use Rattle.sl_words.proofs.CaseLaws.{is_false, true_is_false}
use Rattle.std.proofs.Common.{ap, inl, inr, refl, subst, sym, ◌∙◌}
use Rattle.std.specs.List.{enumerate_from, list_any}
use Rattle.std.specs.Prelude.{Contains, List, None, Option, Some, false, map, true, [], ℕ, ◌-◌, ◌∷◌, ◌≡◌, ◌⊎◌}

-- ---- a machine before the step

-- What it holds and what lingers stay, but at a reset.
pub record Keeps (a b : Machine) : Type 0 where
  pub holdings : b.holdings ≡ a.holdings
  pub lingering : b.lingering ≡ a.lingering

abbrev pub KeepsHoldings : Event → ℕ → Machine → Machine → Type 0
KeepsHoldings e m a b = Keeps a b ⊎ (e ≡ Reset m)

keeps_as : (a b c : Machine) → b ≡ c → Keeps a c → Keeps a b
keeps_as a b c is k = subst (Keeps a) (sym is) k

pub turned_holdings : (w : World) (e : Event) (m : ℕ) (a b : Machine) → Turned w e m a b → KeepsHoldings e m a b
turned_holdings w e m a b (Stays is) = inl (keeps_as a b _ is (record { holdings = refl; lingering = refl }))
turned_holdings w e m a b (Clocked n is) = inl (keeps_as a b _ is (record { holdings = refl; lingering = refl }))
turned_holdings w e m a b (Called n f g flight keeps is) = inl (keeps_as a b _ is (record { holdings = refl; lingering = refl }))
turned_holdings w e m a b (Tested s is) = inl (keeps_as a b _ is (record { holdings = refl; lingering = refl }))
turned_holdings w e m a b (Began name event up used fresh is) = inl (keeps_as a b _ is (record { holdings = refl; lingering = refl }))
turned_holdings w e m a b (Crashed event is) = inl (keeps_as a b _ is (record { holdings = refl; lingering = refl }))
turned_holdings w e m a b (Went_down event up is) = inr event
turned_holdings w e m a b (Came_up event down is) = inl (keeps_as a b _ is (record { holdings = refl; lingering = refl }))

-- ---- the machine of the event, after its step

step_holdings : (now : Stamp) (i : Input) (fx : Effects) (b : Machine) → (after_step now i fx b).holdings ≡ held_after fx b.holdings
step_holdings now (Line text) fx b = refl
step_holdings now (Number line) fx b = refl
step_holdings now (Told n answer) fx b = refl
step_holdings now Wake fx b = refl
step_holdings now (Exit p) fx b = refl
step_holdings now (Spawned p ok) fx b = refl

step_lingering : (now : Stamp) (i : Input) (fx : Effects) (b : Machine) → (after_step now i fx b).lingering ≡ b.lingering
step_lingering now (Line text) fx b = refl
step_lingering now (Number line) fx b = refl
step_lingering now (Told n answer) fx b = refl
step_lingering now Wake fx b = refl
step_lingering now (Exit p) fx b = refl
step_lingering now (Spawned p ok) fx b = refl

-- It is there after the step, with these holdings.
abbrev pub IsHeldAfter : World → ℕ → List Grant → Type 0
IsHeldAfter v m gs = (c : Machine) × (machine_at v m ≡ Some c) × (c.holdings ≡ gs)

pub taken : (m : ℕ) (o : Option Input) (fx : Effects) (v : World) (b : Machine) → machine_at v m ≡ Some b → IsHeldAfter (take_step m o fx v) m (held_after fx b.holdings)
taken m None fx v b at = (after_effects (stamp_now v b) fx b, changed_here v m (λ a. after_effects (stamp_now v a) fx a) b at, refl)
taken m (Some i) fx v b at =
    (after_step (stamp_now v b) i fx b, changed_here v m (λ a. after_step (stamp_now v a) i fx a) b at, step_holdings (stamp_now v b) i fx b)

-- ---- another machine

stepped_elsewhere : (w : World) (e : Event) (fx : Effects) (n : ℕ) (b c : Machine) → (n ≡ machine_of e → ⊥) → Stepped w e fx n b c → c ≡ b
stepped_elsewhere w e fx n b c other (Elsewhere is) = is
stepped_elsewhere w e fx n b c other (Alone none here is) = absurd (other here)
stepped_elsewhere w e fx n b c other (Took i has here is) = absurd (other here)

kept_elsewhere : (e : Event) (n : ℕ) (a b : Machine) → (n ≡ machine_of e → ⊥) → KeepsHoldings e n a b → Keeps a b
kept_elsewhere e n a b other (inl same) = same
kept_elsewhere e n a b other (inr is) = absurd (other (ap machine_of (sym is)))

-- It is there after the event, with the same holdings, and the same lingers.
pub elsewhere : (w : World) (e : Event) (fx : Effects) → may_happen w e ≡ true → (n : ℕ) (a : Machine) → machine_at w n ≡ Some a → (n ≡ machine_of e → ⊥)
    → (c : Machine) × (machine_at (happens w e (fx ∷ [])) n ≡ Some c) × Keeps a c
elsewhere w e fx may n a at other =
    let q = becomes w e fx may n a at in
    let b : Machine = q.2.middle in
    (q.0, q.1, keeps_as a q.0 b (stepped_elsewhere w e fx n b q.0 other q.2.stepped) (kept_elsewhere e n a b other (turned_holdings w e n a b q.2.turned)))

-- ---- all uses

numbered_machine : (v : World) (m : ℕ) (c : Machine) → machine_at v m ≡ Some c → Contains (enumerate_from 1 v.machines) (m, c)
numbered_machine v m c at =
    subst (λ n. Contains (enumerate_from 1 v.machines) (n, c)) (number_within v m c at).1 (numbered_at 1 v.machines (m - 1) c (index v m c at).1)

-- A grant that a machine holds is one of the world's.
pub in_world : (v : World) (m : ℕ) (c : Machine) (g : Grant) → machine_at v m ≡ Some c → Contains c.holdings g → Contains (world_uses v) (holding m g)
in_world v m c g at has =
    contains_left (world_holdings v) (world_lingering v) (holding m g)
    (in_flat (λ (p : ℕ × Machine). map (holding p.0) p.1.holdings) (enumerate_from 1 v.machines) (m, c) (holding m g) (numbered_machine v m c at)
    (contains_map (holding m) c.holdings g has))

-- .. and so is what lingers there.
pub lingers_in_world : (v : World) (m : ℕ) (c : Machine) (l : Lingering) → machine_at v m ≡ Some c → Contains (lingering_now v c) l
    → Contains (world_uses v) (lingering_holding m l)
lingers_in_world v m c l at has =
    contains_right (world_holdings v) (world_lingering v) (lingering_holding m l)
    (in_flat (λ (p : ℕ × Machine). map (lingering_holding p.0) (lingering_now v p.1)) (enumerate_from 1 v.machines) (m, c) (lingering_holding m l) (numbered_machine v m c at)
    (contains_map (lingering_holding m) (lingering_now v c) l has))

-- ---- conflicts among some of the uses

abbrev pub AreAmong : List Holding → List Holding → Type 0
AreAmong few all = (h : Holding) → Contains few h → Contains all h

pub none_among : (few all : List Holding) → AreAmong few all → has_conflict all ≡ false → has_conflict few ≡ false
none_among few all among none =
    is_false (has_conflict few) (λ h.
    let a = any_found (λ a. list_any (conflicts a) few) few h in
    let b = any_found (conflicts a.0) few a.2 in
    let inner : list_any (conflicts a.0) all ≡ true = any_of (conflicts a.0) all b.0 b.2 (among b.0 b.1) in
    true_is_false (sym (any_of (λ a. list_any (conflicts a) all) all a.0 inner (among a.0 a.1)) ∙ none))
