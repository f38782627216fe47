-- How many grants of a step leave a conflict, by what is held after it and what lingers then.
use Rattle.sl_world_state.specs.KeptWorld.{KeptState, MachineState, machine_in}
use Rattle.sl_machine.specs.declared.kept_world.Kept.{Kept}
use Rattle.sl_machine.specs.declared.machine.Machine.{Machine}
use Rattle.sl_report.specs.Reports.{conflicts_after}
use Rattle.sl_run.specs.Conflicts.{Holding, conflicts, has_conflict, holding, lingering_holding}
use Rattle.sl_run.specs.Worlds.{Lingering, lingers}
use Rattle.sl_trace.specs.declared.effects.Grant.{Grant}
use Rattle.sl_world_law.specs.ToldEvents.{held_in, holdings_from, lingering_from, others_in}
use Rattle.std.specs.List.{enumerate_from, list_any}
use Rattle.std.specs.Option.{option_map_or}
use Rattle.std.specs.Prelude.{Bool, List, drop, false, filter, flat_map, length, map, not, take, true, [], ℕ, ◌&&◌, ◌++◌, ◌+◌, ◌-◌, ◌==◌, ◌≡◌, ◌||◌}

-- The uses of the machines but machine m, at this moment.
abbrev pub others_from : ℕ → ℕ → ℕ → List MachineState → List Holding
others_from land moment m ss = filter (λ h. not (h.machine == m)) (holdings_from 1 ss ++ lingering_from land moment 1 ss)

-- Those, and what machine m holds.
abbrev pub all_with : ℕ → ℕ → ℕ → List MachineState → List Grant → List Holding
all_with land moment m ss mine = others_from land moment m ss ++ map (holding m) mine

-- Whether it holds of one of these holdings of machine m.
abbrev pub any_held : (Holding → Bool) → ℕ → List Grant → Bool
any_held p m gs = list_any (λ g. p (holding m g)) gs

-- Whether it holds of one of those of these that linger there.
abbrev pub any_lingering : (Holding → Bool) → ℕ → ℕ → ℕ → List Lingering → Bool
any_lingering p land moment m ls = list_any (λ l. lingers land moment l && p (lingering_holding m l)) ls

-- Whether it holds of one of the uses of a machine that is machine m.
abbrev pub any_there : {L : Type 0} → (Holding → Bool) → ℕ → ℕ → ℕ → Machine L → Bool
any_there p land moment m a = any_held p m a.held.items || any_lingering p land moment m a.lingering.items

-- Whether it holds of one of another machine than machine m.
abbrev pub any_beside : {L : Type 0} → (Holding → Bool) → ℕ → ℕ → ℕ → List (Machine L) → Bool
any_beside p land moment m machines = list_any (λ q. not (q.0 + 1 == m) && any_there p land moment (q.0 + 1) q.1) (enumerate_from 0 machines)

-- Whether a use conflicts with one of all.
abbrev pub conflicts_with : ℕ → ℕ → ℕ → List MachineState → List Grant → Holding → Bool
conflicts_with land moment m ss mine a = list_any (conflicts a) (all_with land moment m ss mine)

-- Where the last of what machine m holds was granted in turn, how many of these left a conflict.
abbrev pub conflicts_left : KeptState → ℕ → ℕ → ℕ
conflicts_left k m granted =
    let held : List Grant = held_in k m in
    conflicts_after (others_in k m) m (take (length held - granted) held) (drop (length held - granted) held)

-- What machine m held when it was reset.
abbrev pub lingering_in : KeptState → ℕ → List Lingering
lingering_in k m = option_map_or (λ s. s.lingering) (machine_in k m) []

-- The uses of the other machines, and what lingers on machine m.
abbrev pub uses_beside : KeptState → ℕ → List Holding
uses_beside k m = others_in k m ++ map (lingering_holding m) (filter (lingers k.header.timing.land k.moment) (lingering_in k m))

-- All uses before these were granted.
abbrev pub uses_before : KeptState → ℕ → ℕ → List Holding
uses_before k m granted = uses_beside k m ++ map (holding m) (take (length (held_in k m) - granted) (held_in k m))

-- All uses, with what machine m holds last.
abbrev pub uses_with : KeptState → ℕ → List Holding
uses_with k m = uses_beside k m ++ map (holding m) (held_in k m)

-- All uses of what is kept.
abbrev pub all_used : {L : Type 0} → Kept L → List Holding
all_used k =
    flat_map (λ p. map (holding p.0) p.1.held.items) (enumerate_from 1 k.machines.items)
    ++ flat_map (λ p. map (lingering_holding p.0) (filter (lingers k.disks.header.timing.land k.moment) p.1.lingering.items)) (enumerate_from 1 k.machines.items)

-- No two of them conflict, where that is known.
abbrev pub IsCalm : {L : Type 0} → Bool → Kept L → Type 0
IsCalm calm k = calm ≡ true → has_conflict (all_used k) ≡ false
