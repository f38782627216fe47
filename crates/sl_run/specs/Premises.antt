-- The premises `drift`, `watchdog`, `landing` and `torn`, as guards: time that may not pass so, and what a torn sector may not spell. (That
-- of `name` is a test of a start.)
use Rattle.sl_area.specs.AreaSizes.{record_in, sector_with}
use Rattle.sl_run.specs.Worlds.{Course, Machine, World, content, machine_at, may_land, resets_after}
use Rattle.sl_run.specs.declared.event.Refusal.TheVariants.{LimitMoment, PremiseDrift, PremiseLanding, PremiseWatchdog}
use Rattle.sl_run.specs.declared.event.Refusal.{Refusal}
use Rattle.sl_run.specs.declared.header.Header.{Header}
use Rattle.sl_time.specs.Times.{reading_of}
use Rattle.sl_trace.specs.declared.effects.Call.{Call}
use Rattle.sl_trace.specs.declared.effects.Op.TheVariants.{ReadSectors, WriteRecord}
use Rattle.sl_words.specs.Bounds.{moments}
use Rattle.std.specs.List.{list_any, range_with_len}
use Rattle.std.specs.Prelude.{Bool, List, None, Option, Some, drop, false, is_ok, length, nat_le, nat_lt, not, slice_index, take, true, [], ℕ, ◌&&◌, ◌*◌, ◌++◌, ◌+◌, ◌-◌, ◌||◌, ◌∷◌}

-- What a write leaves: its first bytes, then the given ones, then what was there.
abbrev pub torn_bytes : World → Call → ℕ → List ℕ → List ℕ
torn_bytes w c k bytes =
    elim c.op [
      | ReadSectors n ↦ []
      | WriteRecord r ↦ take k (sector_with w.layout r) ++ bytes ++ drop (k + length bytes) (content w c.path c.offset)
    ]

-- Whether the bytes spell a record.
abbrev pub spells_something : World → List ℕ → Bool
spells_something w bytes = is_ok (record_in w.layout bytes)

-- By how much machine m's clock grows.
abbrev pub growth_of : ℕ → Option (List ℕ) → ℕ → ℕ
growth_of d None m = 1000 * d
growth_of d (Some growths) m = slice_index growths (m - 1)

-- Machine m's clock after a time of d milliseconds.
abbrev pub clock_after : World → ℕ → Option (List ℕ) → ℕ → ℕ
clock_after w d growths m = elim (machine_at w m) [ None ↦ 0 | Some a ↦ a.clock + growth_of d growths m ]

-- Whether a clock may grow so.
abbrev pub drifts : ℕ → ℕ → ℕ → Bool
drifts rho d growth = nat_le ((1000 - rho) * d) growth && nat_le growth ((1000 + rho) * d)

-- Whether a write of before a reset of the machine could still land above the bound.
abbrev pub is_late_landing : ℕ → ℕ → Machine → Course → Bool
is_late_landing land moment a c =
    elim (may_land c) [ false ↦ false | true ↦ list_any (λ r. nat_lt (r.moment + land) moment) (resets_after a c.made.step) ]

-- Why time may not pass so, in order.
unfoldable pub pass_tests : World → ℕ → Option (List ℕ) → List (Bool × Refusal)
pass_tests w d growths =
    let h : Header = w.header in
    let ms : List ℕ = range_with_len 1 h.machines in
    (nat_le moments (w.moment + d) || list_any (λ m. nat_le moments (reading_of (clock_after w d growths m))) ms, LimitMoment)
    ∷ (list_any (λ m. not (drifts h.timing.rho d (growth_of d growths m))) ms, PremiseDrift)
    ∷ (list_any (λ a. a.up && nat_lt (a.kept.moment + h.timing.fire) (w.moment + d)) w.machines, PremiseWatchdog)
    ∷ (list_any (λ a. list_any (is_late_landing h.timing.land (w.moment + d) a) a.calls) w.machines, PremiseLanding) ∷ []
