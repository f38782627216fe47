-- The conflicts of an event are counted by what is held after it.
use Rattle.sl_world_state.specs.KeptWorld.{KeptState}
use Rattle.sl_world_state.specs.SaneWorlds.{IsSane}
use Rattle.sl_world_state.specs.ShownWorlds.{Tells}
use Rattle.sl_run.specs.Conflicts.{has_conflict}
use Rattle.sl_run.specs.EventChanges.{happens}
use Rattle.sl_run.specs.Inputs.{machine_of}
use Rattle.sl_run.specs.Refusals.{may_happen}
use Rattle.sl_run.specs.Runs.{HasSteps}
use Rattle.sl_run.specs.Worlds.{World}
use Rattle.sl_run.specs.declared.event.Event.{Event}
use Rattle.sl_run.specs.declared.header.Header.{Header}
use Rattle.sl_text.specs.Forms.{Form}
use Rattle.sl_trace.specs.declared.command.Command.{Command}
use Rattle.sl_trace.specs.declared.effects.Effects.{Effects}
use Rattle.sl_world.specs.ConflictCounts.{conflicts_left, uses_before, uses_with}
use Rattle.sl_world_law.specs.ToldEvents.{conflicts_in, uses_in}
use Rattle.std.specs.Prelude.{Bool, List, false, if◌then◌else◌, length, not, true, [], ℕ, ◌==◌, ◌∷◌, ◌≡◌}

-- What is granted at an event stands last among what its machine holds then, and the other machines' uses are what they were.
abbrev pub ConflictsAreLeft : Type 0
ConflictsAreLeft =
    (commands : Header → List (Form Command)) (k : KeptState) (w : World) → Tells k w → IsSane commands w → (e : Event) → may_happen w e ≡ true
    → (fx : Effects) → HasSteps w e (fx ∷ []) → (after : KeptState) → Tells after (happens w e (fx ∷ []))
    → conflicts_in k e fx ≡ conflicts_left after (machine_of e) (length fx.grants)

-- Where no two uses conflict before an event, no two conflict of those that stand before its grants: at a reset what was held lingers, and as
-- time passes less lingers.
abbrev pub CalmBefore : Type 0
CalmBefore =
    (commands : Header → List (Form Command)) (k : KeptState) (w : World) → Tells k w → IsSane commands w → (e : Event) → may_happen w e ≡ true
    → (fx : Effects) → HasSteps w e (fx ∷ []) → (after : KeptState) → Tells after (happens w e (fx ∷ []))
    → has_conflict (uses_in k) ≡ false → has_conflict (uses_before after (machine_of e) (length fx.grants)) ≡ false

-- What is known then of those, and said of all where something is granted, is so of all.
abbrev pub CalmAfter : Type 0
CalmAfter =
    (k : KeptState) (m granted : ℕ) (calm left : Bool) → (calm ≡ true → has_conflict (uses_before k m granted) ≡ false)
    → left ≡ (if granted == 0 then calm else not (has_conflict (uses_with k m))) → left ≡ true → has_conflict (uses_in k) ≡ false
