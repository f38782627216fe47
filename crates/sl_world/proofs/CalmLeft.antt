-- Where no two uses conflict before an event, no two that stand before its grants do; and what is known of all behind them.
use Rattle.sl_world_state.specs.Changes.{first_kept, reset_machine}
use Rattle.sl_world_state.specs.Inputs.{input_in}
use Rattle.sl_world_state.specs.KeptWorld.{KeptState, MachineState, machine_in}
use Rattle.sl_world_state.specs.ShownWorlds.{Tells, shown}
use Rattle.sl_world_state.specs.Steps.{owned_machine, stepped_kept, stepped_machine, taken_kept}
use Rattle.sl_world_law.proofs.Lookups.{machine_shown}
use Rattle.sl_world_law.proofs.WholeEvents.{events_are_kept}
use Rattle.sl_machine.specs.KeptParts.{kept_state}
use Rattle.sl_machine.specs.Machines.{machine_state}
use Rattle.sl_machine.specs.declared.kept_world.Kept.{Kept}
use Rattle.sl_machine.specs.declared.machine.Machine.{Machine as KeptMachine}
use Rattle.sl_words.proofs.Lists.{set_here}
use Rattle.sl_run.specs.Conflicts.{Holding, has_conflict, holding, lingering_holding}
use Rattle.sl_run.specs.Inputs.{machine_of}
use Rattle.sl_run.specs.Locks.{Locks}
use Rattle.sl_run.specs.Runs.{HasSteps}
use Rattle.sl_run.specs.Worlds.{Lingering, Machine, World, lingers, machine_at}
use Rattle.sl_run.specs.declared.event.Event.TheVariants.{Reset}
use Rattle.sl_run.specs.declared.event.Event.{Event}
use Rattle.sl_run_law.specs.WorldsGoOn.{time_of}
use Rattle.sl_trace.specs.Traces.{is_ended_by}
use Rattle.sl_trace.specs.declared.effects.Effects.{Effects}
use Rattle.sl_trace.specs.declared.effects.Grant.{Grant}
use Rattle.sl_trace.specs.declared.input.Input.{Input}
use Rattle.sl_words.proofs.CaseLaws.{false_is_true}
use Rattle.sl_world.proofs.FewerConflicts.{Within, all_within, but_from, conflict_within, each_from, fewer_within, held_within, here_within, kept_within, nothing_within, within_both, within_filter, within_left, within_on, within_right, within_same}
use Rattle.sl_world.proofs.LeftGrants.{Part, at_if, changed, first_parts, front_of, held_by, held_is, held_its, held_on, if_open, is_one_reset, is_reset, left_its, left_on, lingering_by, lingering_is, nowhere, number_there, others_are, others_by, others_set, part_by, part_of, parts, stepped_part, stepped_parts, taken_parts, used_by, used_parts, when_after}
use Rattle.sl_world.specs.ConflictCounts.{all_used, lingering_in, uses_before, uses_with}
use Rattle.sl_world.specs.ConflictsLeft.{CalmAfter, CalmBefore}
use Rattle.sl_world_law.specs.ToldEvents.{held_in, holdings_from, lingering_from, others_in, uses_in}
use Rattle.std.proofs.Common.{ap, ap₂, arith, refl, subst, sym, ◌∙◌}
use Rattle.std.proofs.lemmas.Bool.Decides.{nat_tests}
use Rattle.std.proofs.lemmas.List.{map-append, map-set}
use Rattle.std.proofs.lemmas.List.Elements.{filter-append}
use Rattle.std.proofs.lemmas.Option.{slice_get-map}
use Rattle.std.specs.List.{enumerate_from}
use Rattle.std.specs.Option.{option_map_or}
use Rattle.std.specs.Prelude.{Bool, List, None, Option, Some, false, filter, flat_map, if◌then◌else◌, length, map, not, option_map, slice_get, slice_set, take, true, [], ℕ, ◌++◌, ◌+◌, ◌-◌, ◌==◌, ◌∷◌, ◌≡◌}

-- ---- what lingers as time passes

-- What lingers later lingered before.
lingered_by : (land moment time : ℕ) → (l : Lingering) → lingers land (moment + time) l ≡ true → lingers land moment l ≡ true
lingered_by land moment time l is = grind (arith, nat_tests, is)

each_within : {A : Type 0} (on to : ℕ → A → List Holding) (i : ℕ) (hs : List A) → ((j : ℕ) (h : A) → Within (on j h) (to j h)) → Within (each_from on i hs) (each_from to i hs)
each_within on to i [] each = nothing_within []
each_within on to i (x ∷ hs) each =
    within_both (on i x) (each_from on (i + 1) hs) (to i x ++ each_from to (i + 1) hs)
    (within_on (on i x) (to i x) (to i x ++ each_from to (i + 1) hs) (each i x) (within_left (to i x) (each_from to (i + 1) hs)))
    (within_on (each_from on (i + 1) hs) (each_from to (i + 1) hs) (to i x ++ each_from to (i + 1) hs) (each_within on to (i + 1) hs each) (within_right (to i x) (each_from to (i + 1) hs)))

later_within : (land moment later : ℕ) (hs : List Part) → ((l : Lingering) → lingers land later l ≡ true → lingers land moment l ≡ true)
    → Within (used_by land later hs) (used_by land moment hs)
later_within land moment later hs lingered =
    let held : List Holding = each_from held_on 1 hs in
    let left : List Holding = each_from (left_on land moment) 1 hs in
    within_both held (each_from (left_on land later) 1 hs) (used_by land moment hs) (within_left held left)
    (within_on (each_from (left_on land later) 1 hs) left (used_by land moment hs)
    (each_within (left_on land later) (left_on land moment) 1 hs (λ j h. fewer_within (lingering_holding j) (lingers land later) (lingers land moment) h.left lingered))
    (within_right held left))

-- ---- what was held before the grants

abbrev left_here : ℕ → ℕ → ℕ → List Part → List Holding
left_here land moment m hs = map (lingering_holding m) (filter (lingers land moment) (lingering_by m hs))

abbrev before_by : ℕ → ℕ → List Part → ℕ → ℕ → List Holding
before_by land moment hs m n =
    others_by land moment m hs ++ left_here land moment m hs ++ map (holding m) (take (length (held_by m hs) - n) (held_by m hs))

before_is : (k : KeptState) (m n : ℕ) → uses_before k m n ≡ before_by k.header.timing.land k.moment (parts k.machines) m n
before_is k m n =
    ap₂ (λ xs (gs : List Grant). xs ++ map (holding m) (take (length gs - n) gs))
    (ap₂ (λ xs (ls : List Lingering). xs ++ map (lingering_holding m) (filter (lingers k.header.timing.land k.moment) ls)) (others_are k m) (lingering_is k m)) (held_is k m)

-- Where the machine's last are these grants, those before them were held, and what lingers there was used.
before_within : (land moment later : ℕ) (hs now : List Part) (m : ℕ) (kept grants : List Grant) → ((l : Lingering) → lingers land later l ≡ true → lingers land moment l ≡ true)
    → others_by land later m now ≡ others_by land later m hs → held_by m now ≡ kept ++ grants → Within (map (holding m) kept) (used_by land moment hs)
    → Within (left_here land later m now) (used_by land moment hs) → Within (before_by land later now m (length grants)) (used_by land moment hs)
before_within land moment later hs now m kept grants lingered others holds fewer left =
    let same : before_by land later now m (length grants) ≡ others_by land later m hs ++ left_here land later m now ++ map (holding m) kept
    = ap₂ (λ os gs. os ++ left_here land later m now ++ map (holding m) gs) others
    (ap (λ (gs : List Grant). take (length gs - length grants) gs) holds ∙ front_of kept grants) in
    within_on (before_by land later now m (length grants)) (others_by land later m hs ++ left_here land later m now ++ map (holding m) kept) (used_by land moment hs)
    (within_same (before_by land later now m (length grants)) (others_by land later m hs ++ left_here land later m now ++ map (holding m) kept) same)
    (within_both (others_by land later m hs ++ left_here land later m now) (map (holding m) kept) (used_by land moment hs)
    (within_both (others_by land later m hs) (left_here land later m now) (used_by land moment hs)
    (within_on (others_by land later m hs) (used_by land later hs) (used_by land moment hs) (within_filter (λ (h : Holding). not (h.machine == m)) (used_by land later hs))
    (later_within land moment later hs lingered)) left) fewer)

-- Machine m now.
part_now : (hs : List Part) (m : ℕ) (h next : Part) → (m == 0) ≡ false → slice_get hs (m - 1) ≡ Some h → part_by m (slice_set hs (m - 1) next) ≡ Some next
part_now hs m h next some at = if_open (m == 0) (slice_get (slice_set hs (m - 1) next) (m - 1)) next some (set_here hs (m - 1) next h at)

holds_now : (hs : List Part) (m : ℕ) (h next : Part) → (m == 0) ≡ false → slice_get hs (m - 1) ≡ Some h → held_by m (slice_set hs (m - 1) next) ≡ next.held
holds_now hs m h next some at = ap (λ (o : Option Part). option_map_or (λ (x : Part). x.held) o []) (part_now hs m h next some at)

lingers_now : (hs : List Part) (m : ℕ) (h next : Part) → (m == 0) ≡ false → slice_get hs (m - 1) ≡ Some h → lingering_by m (slice_set hs (m - 1) next) ≡ next.left
lingers_now hs m h next some at = ap (λ (o : Option Part). option_map_or (λ (x : Part). x.left) o []) (part_now hs m h next some at)

-- ---- a machine that is there

held_used : (land moment : ℕ) (hs : List Part) (m : ℕ) (h : Part) → (m == 0) ≡ false → slice_get hs (m - 1) ≡ Some h → Within (held_on m h) (used_by land moment hs)
held_used land moment hs m h some at =
    within_on (held_on m h) (each_from held_on 1 hs) (used_by land moment hs) (here_within held_on 1 (m - 1) m hs h (sym (number_there m some)) at)
    (within_left (each_from held_on 1 hs) (each_from (left_on land moment) 1 hs))

left_used : (land moment : ℕ) (hs : List Part) (m : ℕ) (h : Part) → (m == 0) ≡ false → slice_get hs (m - 1) ≡ Some h → Within (left_on land moment m h) (used_by land moment hs)
left_used land moment hs m h some at =
    within_on (left_on land moment m h) (each_from (left_on land moment) 1 hs) (used_by land moment hs)
    (here_within (left_on land moment) 1 (m - 1) m hs h (sym (number_there m some)) at) (within_right (each_from held_on 1 hs) (each_from (left_on land moment) 1 hs))

by_step : (land moment later : ℕ) (hs now : List Part) (m : ℕ) (h : Part) (fx : Effects) → ((l : Lingering) → lingers land later l ≡ true → lingers land moment l ≡ true)
    → (m == 0) ≡ false → slice_get hs (m - 1) ≡ Some h → now ≡ slice_set hs (m - 1) (stepped_part fx h)
    → Within (before_by land later now m (length fx.grants)) (used_by land moment hs)
by_step land moment later hs now m h fx lingered some at is =
    let kept : List Grant = filter (λ g. not (is_ended_by fx.ends g)) h.held in
    let left : left_here land later m now ≡ left_on land later m h
    = ap (λ (ls : List Lingering). map (lingering_holding m) (filter (lingers land later) ls)) (ap (lingering_by m) is ∙ lingers_now hs m h (stepped_part fx h) some at) in
    before_within land moment later hs now m kept fx.grants lingered
    (ap (others_by land later m) is ∙ others_set land later (m - 1) m hs (stepped_part fx h) (number_there m some))
    (ap (held_by m) is ∙ holds_now hs m h (stepped_part fx h) some at)
    (within_on (map (holding m) kept) (held_on m h) (used_by land moment hs) (kept_within (holding m) (λ g. not (is_ended_by fx.ends g)) h.held) (held_used land moment hs m h some at))
    (within_on (left_here land later m now) (left_on land later m h) (used_by land moment hs) (within_same (left_here land later m now) (left_on land later m h) left)
    (within_on (left_on land later m h) (left_on land moment m h) (used_by land moment hs)
    (fewer_within (lingering_holding m) (lingers land later) (lingers land moment) h.left lingered) (left_used land moment hs m h some at)))

-- At a reset all that its machine held lingers.
abbrev lingering_at : ℕ → Grant → Lingering
lingering_at moment g = record { held = g; reset = moment }

abbrev reset_part : ℕ → ℕ → Part → Part
reset_part land moment x = record { held = []; left = map (lingering_at moment) x.held ++ filter (lingers land moment) x.left }

reset_left : (land moment later : ℕ) (hs : List Part) (m : ℕ) (h : Part) → (m == 0) ≡ false → slice_get hs (m - 1) ≡ Some h
    → Within (map (lingering_holding m) (filter (lingers land later) (reset_part land moment h).left)) (used_by land moment hs)
reset_left land moment later hs m h some at =
    let new : List Lingering = map (lingering_at moment) h.held in
    let old : List Lingering = filter (lingers land moment) h.left in
    within_on (map (lingering_holding m) (filter (lingers land later) (new ++ old))) (map (lingering_holding m) (new ++ old)) (used_by land moment hs)
    (kept_within (lingering_holding m) (lingers land later) (new ++ old))
    (within_on (map (lingering_holding m) (new ++ old)) (map (lingering_holding m) new ++ map (lingering_holding m) old) (used_by land moment hs)
    (within_same (map (lingering_holding m) (new ++ old)) (map (lingering_holding m) new ++ map (lingering_holding m) old) (map-append (lingering_holding m) new old))
    (within_both (map (lingering_holding m) new) (map (lingering_holding m) old) (used_by land moment hs)
    (within_on (map (lingering_holding m) new) (held_on m h) (used_by land moment hs) (new_within h.held) (held_used land moment hs m h some at)) (left_used land moment hs m h some at)))
  where
    mapped : (gs : List Grant) → map (lingering_holding m) (map (lingering_at moment) gs) ≡ map (λ g. lingering_holding m (lingering_at moment g)) gs
    mapped [] = refl
    mapped (g ∷ gs) = ap (λ xs. lingering_holding m (lingering_at moment g) ∷ xs) (mapped gs)

    new_within : (gs : List Grant) → Within (map (lingering_holding m) (map (lingering_at moment) gs)) (map (holding m) gs)
    new_within gs =
        within_on (map (lingering_holding m) (map (lingering_at moment) gs)) (map (λ g. lingering_holding m (lingering_at moment g)) gs) (map (holding m) gs)
        (within_same (map (lingering_holding m) (map (lingering_at moment) gs)) (map (λ g. lingering_holding m (lingering_at moment g)) gs) (mapped gs))
        (held_within (λ g. lingering_holding m (lingering_at moment g)) (holding m) gs (λ g. refl))

by_end : (land moment later : ℕ) (hs now : List Part) (m : ℕ) (h : Part) (fx : Effects) → ((l : Lingering) → lingers land later l ≡ true → lingers land moment l ≡ true)
    → (m == 0) ≡ false → slice_get hs (m - 1) ≡ Some h
    → now ≡ slice_set (slice_set hs (m - 1) (reset_part land moment h)) (m - 1) (stepped_part fx (reset_part land moment h))
    → Within (before_by land later now m (length fx.grants)) (used_by land moment hs)
by_end land moment later hs now m h fx lingered some at is =
    let down : Part = reset_part land moment h in
    let gone : List Part = slice_set hs (m - 1) down in
    let here : slice_get gone (m - 1) ≡ Some down = set_here hs (m - 1) down h at in
    let left : left_here land later m now ≡ map (lingering_holding m) (filter (lingers land later) down.left)
    = ap (λ (ls : List Lingering). map (lingering_holding m) (filter (lingers land later) ls)) (ap (lingering_by m) is ∙ lingers_now gone m down (stepped_part fx down) some here) in
    before_within land moment later hs now m [] fx.grants lingered
    (ap (others_by land later m) is ∙ others_set land later (m - 1) m gone (stepped_part fx down) (number_there m some) ∙ others_set land later (m - 1) m hs down (number_there m some))
    (ap (held_by m) is ∙ holds_now gone m down (stepped_part fx down) some here) (nothing_within (used_by land moment hs))
    (within_on (left_here land later m now) (map (lingering_holding m) (filter (lingers land later) down.left)) (used_by land moment hs)
    (within_same (left_here land later m now) (map (lingering_holding m) (filter (lingers land later) down.left)) left) (reset_left land moment later hs m h some at))

reset_parts : (m : ℕ) (fx : Effects) (k : KeptState) (s : MachineState) → machine_in k m ≡ Some s
    → parts (stepped_kept (Reset m) fx k).machines
    ≡ slice_set (slice_set (parts k.machines) (m - 1) (reset_part k.header.timing.land k.moment (part_of s))) (m - 1) (stepped_part fx (reset_part k.header.timing.land k.moment (part_of s)))
unfolding first_kept
reset_parts m fx k s at =
    let here = at_if (m == 0) (slice_get k.machines (m - 1)) s at in
    let next : MachineState = reset_machine k.header k.moment s in
    let v : KeptState = record k { machines = slice_set k.machines (m - 1) next } in
    ap (λ (o : Option MachineState). parts (taken_kept m (input_in k (Reset m)) fx (changed m (reset_machine k.header k.moment) k o)).machines) at
    ∙ taken_parts m (input_in k (Reset m)) fx v next (if_open (m == 0) (slice_get v.machines (m - 1)) next here.0 (set_here k.machines (m - 1) next s here.1))
    ∙ ap (λ hs. slice_set hs (m - 1) (stepped_part fx (part_of next))) (map-set part_of k.machines (m - 1) next)

-- ---- no machine

gone_at : (b : Bool) (o : Option MachineState) (h : Option Part) → (if b then None else o) ≡ None → option_map part_of o ≡ h → (if b then None else h) ≡ None
gone_at true o h none is = refl
gone_at false None h none is = sym is
gone_at false (Some s) h none is = absurd cc

none_held : (ss : List MachineState) (m : ℕ) → (if m == 0 then None else slice_get ss (m - 1)) ≡ None → part_by m (parts ss) ≡ None
none_held ss m none = gone_at (m == 0) (slice_get ss (m - 1)) (slice_get (parts ss) (m - 1)) none (sym (slice_get-map part_of ss (m - 1)))

gone_back : (b : Bool) (o : Option MachineState) → (if b then None else option_map part_of o) ≡ None → (if b then None else o) ≡ None
gone_back true o none = refl
gone_back false None none = refl
gone_back false (Some s) none = absurd cc

-- It is not there either where all parts are the same.
none_there : (k v : KeptState) (m : ℕ) → parts v.machines ≡ parts k.machines → machine_in k m ≡ None → machine_in v m ≡ None
none_there k v m same none =
    gone_back (m == 0) (slice_get v.machines (m - 1))
    (ap (λ (o : Option Part). if m == 0 then None else o) (sym (slice_get-map part_of v.machines (m - 1))) ∙ ap (part_by m) same ∙ none_held k.machines m none)

none_taken : (m : ℕ) (o : Option Input) (fx : Effects) (k : KeptState) → machine_in k m ≡ None → parts (taken_kept m o fx k).machines ≡ parts k.machines
none_taken m None fx k none = ap (λ (x : Option MachineState). parts (changed m (owned_machine fx) k x).machines) none
none_taken m (Some i) fx k none = ap (λ (x : Option MachineState). parts (changed m (stepped_machine k.header i fx) k x).machines) none

reset_none : (k : KeptState) (m : ℕ) → machine_in k m ≡ None → parts (first_kept (Reset m) k).machines ≡ parts k.machines
unfolding first_kept
reset_none k m gone = ap (λ (o : Option MachineState). parts (changed m (reset_machine k.header k.moment) k o).machines) gone

first_none : (e : Event) (k : KeptState) → machine_in k (machine_of e) ≡ None → parts (first_kept e k).machines ≡ parts k.machines
first_none e k none = go (is_reset e) refl
  where
    go : (b : Bool) → is_reset e ≡ b → parts (first_kept e k).machines ≡ parts k.machines
    go false stays = first_parts e k stays
    go true resets =
        let r = is_one_reset e resets in
        subst (λ (x : Event). parts (first_kept x k).machines ≡ parts k.machines) (sym r.1) (reset_none k r.0 (ap (λ (x : Event). machine_in k (machine_of x)) (sym r.1) ∙ none))

stepped_none : (e : Event) (fx : Effects) (k : KeptState) → machine_in k (machine_of e) ≡ None → parts (stepped_kept e fx k).machines ≡ parts k.machines
stepped_none e fx k none =
    let same = first_none e k none in
    none_taken (machine_of e) (input_in k e) fx (first_kept e k) (none_there k (first_kept e k) (machine_of e) same none) ∙ same

by_none : (land moment later : ℕ) (hs now : List Part) (m : ℕ) (grants : List Grant) → ((l : Lingering) → lingers land later l ≡ true → lingers land moment l ≡ true)
    → part_by m hs ≡ None → now ≡ hs → grants ≡ [] → Within (before_by land later now m (length grants)) (used_by land moment hs)
by_none land moment later hs now m grants lingered none is nothing =
    let gone : part_by m now ≡ None = ap (part_by m) is ∙ none in
    let left : left_here land later m now ≡ []
    = ap (λ (o : Option Part). map (lingering_holding m) (filter (lingers land later) (option_map_or (λ (x : Part). x.left) o []))) gone in
    before_within land moment later hs now m [] grants lingered (ap (others_by land later m) is)
    (ap (λ (o : Option Part). option_map_or (λ (x : Part). x.held) o []) gone ∙ sym nothing) (nothing_within (used_by land moment hs))
    (within_on (left_here land later m now) [] (used_by land moment hs) (within_same (left_here land later m now) [] left) (nothing_within (used_by land moment hs)))

-- ---- events

by_machine : (e : Event) (fx : Effects) (k : KeptState) (later : ℕ) (now : List Part) (s : MachineState)
    → ((l : Lingering) → lingers k.header.timing.land later l ≡ true → lingers k.header.timing.land k.moment l ≡ true) → machine_in k (machine_of e) ≡ Some s
    → now ≡ parts (stepped_kept e fx k).machines
    → Within (before_by k.header.timing.land later now (machine_of e) (length fx.grants)) (used_by k.header.timing.land k.moment (parts k.machines))
by_machine e fx k later now s lingered at is =
    let m : ℕ = machine_of e in
    let here = at_if (m == 0) (slice_get k.machines (m - 1)) s at in
    let place : slice_get (parts k.machines) (m - 1) ≡ Some (part_of s) = slice_get-map part_of k.machines (m - 1) ∙ ap (option_map part_of) here.1 in
    go (is_reset e) refl here.0 place
  where
    go : (b : Bool) → is_reset e ≡ b → (machine_of e == 0) ≡ false → slice_get (parts k.machines) (machine_of e - 1) ≡ Some (part_of s)
        → Within (before_by k.header.timing.land later now (machine_of e) (length fx.grants)) (used_by k.header.timing.land k.moment (parts k.machines))
    go false stays some place =
        by_step k.header.timing.land k.moment later (parts k.machines) now (machine_of e) (part_of s) fx lingered some place (is ∙ stepped_parts e fx k s stays at)
    go true resets some place =
        let r = is_one_reset e resets in
        let down : Part = reset_part k.header.timing.land k.moment (part_of s) in
        by_end k.header.timing.land k.moment later (parts k.machines) now (machine_of e) (part_of s) fx lingered some place
        (is ∙ subst (λ (x : Event). parts (stepped_kept x fx k).machines ≡ slice_set (slice_set (parts k.machines) (machine_of x - 1) down) (machine_of x - 1) (stepped_part fx down)) (sym r.1)
        (reset_parts r.0 fx k s (ap (λ (x : Event). machine_in k (machine_of x)) (sym r.1) ∙ at)))

by_world : (k : KeptState) (w : World) → Tells k w → (e : Event) (fx : Effects) → HasSteps w e (fx ∷ []) → (later : ℕ) (now : List Part)
    → ((l : Lingering) → lingers k.header.timing.land later l ≡ true → lingers k.header.timing.land k.moment l ≡ true) → now ≡ parts (stepped_kept e fx k).machines
    → Within (before_by k.header.timing.land later now (machine_of e) (length fx.grants)) (used_by k.header.timing.land k.moment (parts k.machines))
by_world k w t e fx steps later now lingered is = go (machine_at w (machine_of e)) refl
  where
    go : (o : Option Machine) → machine_at w (machine_of e) ≡ o
        → Within (before_by k.header.timing.land later now (machine_of e) (length fx.grants)) (used_by k.header.timing.land k.moment (parts k.machines))
    go None at =
        let none : machine_in k (machine_of e) ≡ None = machine_shown k w t (machine_of e) ∙ ap (option_map (shown w.header)) at in
        by_none k.header.timing.land k.moment later (parts k.machines) now (machine_of e) fx.grants lingered (none_held k.machines (machine_of e) none) (is ∙ stepped_none e fx k none)
        (nowhere w e fx at steps)
    go (Some a) at = by_machine e fx k later now (shown w.header a) lingered (machine_shown k w t (machine_of e) ∙ ap (option_map (shown w.header)) at) is

pub calm_before : CalmBefore
calm_before commands k w t sane e may fx steps after told none =
    let m : ℕ = machine_of e in
    let n : ℕ = length fx.grants in
    let land : ℕ = k.header.timing.land in
    let later : ℕ = k.moment + time_of e in
    let when = when_after k w t e fx after told in
    let next : parts after.machines ≡ parts (stepped_kept e fx k).machines = ap parts (sym told.machines ∙ (events_are_kept commands k w t sane e may fx steps).machines) in
    let before : uses_before after m n ≡ before_by land later (parts after.machines) m n
    = before_is after m n ∙ ap₂ (λ l x. before_by l x (parts after.machines) m n) when.0 when.1 in
    conflict_within (uses_before after m n) (uses_in k)
    (within_on (uses_before after m n) (before_by land later (parts after.machines) m n) (uses_in k) (within_same (uses_before after m n) (before_by land later (parts after.machines) m n) before)
    (within_on (before_by land later (parts after.machines) m n) (used_by land k.moment (parts k.machines)) (uses_in k)
    (by_world k w t e fx steps later (parts after.machines) (lingered_by land k.moment (time_of e)) next)
    (within_same (used_by land k.moment (parts k.machines)) (uses_in k) (sym (used_parts k))))) none

-- ---- behind the grants

part_at : (hs : List Part) (m j : ℕ) (h : Part) → slice_get hs j ≡ Some h → 1 + j ≡ m → part_by m hs ≡ Some h
part_at hs m j h at is =
    let some : (m == 0) ≡ false = grind (arith, nat_tests, is) in
    let back : m - 1 ≡ j = omega (arith, is) in
    if_open (m == 0) (slice_get hs (m - 1)) h some (ap (slice_get hs) back ∙ at)

abbrev with_by : ℕ → ℕ → List Part → ℕ → List Holding
with_by land moment hs m = others_by land moment m hs ++ left_here land moment m hs ++ map (holding m) (held_by m hs)

with_is : (k : KeptState) (m : ℕ) → uses_with k m ≡ with_by k.header.timing.land k.moment (parts k.machines) m
with_is k m =
    ap₂ (λ xs gs. xs ++ map (holding m) gs)
    (ap₂ (λ xs (ls : List Lingering). xs ++ map (lingering_holding m) (filter (lingers k.header.timing.land k.moment) ls)) (others_are k m) (lingering_is k m)) (held_is k m)

-- All are of machine m, or not.
used_with_one : (land moment : ℕ) (hs : List Part) (m : ℕ) → Within (used_by land moment hs) (with_by land moment hs m)
used_with_one land moment hs m =
    within_both (each_from held_on 1 hs) (each_from (left_on land moment) 1 hs) ys
    (all_within held_on held_its 1 m hs ys
    (λ j h at is. within_on (held_on m h) mine ys
    (within_same (held_on m h) mine (ap (λ (o : Option Part). map (holding m) (option_map_or (λ (x : Part). x.held) o [])) (sym (part_at hs m j h at is)))) (within_right beside mine))
    (within_on (but_from held_on 1 m hs) others ys
    (within_on (but_from held_on 1 m hs) (but_from held_on 1 m hs ++ but_from (left_on land moment) 1 m hs) others
    (within_left (but_from held_on 1 m hs) (but_from (left_on land moment) 1 m hs)) cut) others_inside))
    (all_within (left_on land moment) (left_its land moment) 1 m hs ys
    (λ j h at is. within_on (left_on land moment m h) left ys
    (within_same (left_on land moment m h) left
    (ap (λ (o : Option Part). map (lingering_holding m) (filter (lingers land moment) (option_map_or (λ (x : Part). x.left) o []))) (sym (part_at hs m j h at is))))
    (within_on left beside ys (within_right others left) (within_left beside mine)))
    (within_on (but_from (left_on land moment) 1 m hs) others ys
    (within_on (but_from (left_on land moment) 1 m hs) (but_from held_on 1 m hs ++ but_from (left_on land moment) 1 m hs) others
    (within_right (but_from held_on 1 m hs) (but_from (left_on land moment) 1 m hs)) cut) others_inside))
  where
    others : List Holding
    others = others_by land moment m hs

    left : List Holding
    left = left_here land moment m hs

    mine : List Holding
    mine = map (holding m) (held_by m hs)

    beside : List Holding
    beside = others ++ left

    ys : List Holding
    ys = with_by land moment hs m

    others_inside : Within others ys
    others_inside = within_on others beside ys (within_left others left) (within_left beside mine)

    cut : Within (but_from held_on 1 m hs ++ but_from (left_on land moment) 1 m hs) others
    cut =
        within_same (but_from held_on 1 m hs ++ but_from (left_on land moment) 1 m hs) others
        (sym (filter-append (λ (h : Holding). not (h.machine == m)) (each_from held_on 1 hs) (each_from (left_on land moment) 1 hs)))

all_with_one : (k : KeptState) (m : ℕ) → Within (uses_in k) (uses_with k m)
all_with_one k m =
    let land : ℕ = k.header.timing.land in
    let hs : List Part = parts k.machines in
    within_on (uses_in k) (used_by land k.moment hs) (uses_with k m) (within_same (uses_in k) (used_by land k.moment hs) (used_parts k))
    (within_on (used_by land k.moment hs) (with_by land k.moment hs m) (uses_with k m) (used_with_one land k.moment hs m)
    (within_same (with_by land k.moment hs m) (uses_with k m) (sym (with_is k m))))

take_whole : (xs : List Grant) (n : ℕ) → n ≡ 0 → take (length xs - n) xs ≡ xs
take_whole xs n none = let all : length xs - n ≡ length xs = omega (arith, none) in ap (λ k. take k xs) all ∙ take_all xs
  where
    take_all : (ys : List Grant) → take (length ys) ys ≡ ys
    take_all [] = refl
    take_all (y ∷ ys) = ap (λ zs. y ∷ zs) (take_all ys)

not_so : (b : Bool) → not b ≡ true → b ≡ false
not_so true is = absurd (false_is_true is)
not_so false is = refl

same_zero : (n : ℕ) → (n == 0) ≡ true → n ≡ 0
same_zero n is = grind (arith, nat_tests, is)

pub calm_after : CalmAfter
calm_after k m n calm left before is known = conflict_within (uses_in k) (uses_with k m) (all_with_one k m) (go (n == 0) refl (sym is ∙ known))
  where
    go : (b : Bool) → (n == 0) ≡ b → (if b then calm else not (has_conflict (uses_with k m))) ≡ true → has_conflict (uses_with k m) ≡ false
    go true none so =
        subst (λ gs. has_conflict (others_in k m ++ map (lingering_holding m) (filter (lingers k.header.timing.land k.moment) (lingering_in k m)) ++ map (holding m) gs) ≡ false)
        (take_whole (held_in k m) n (same_zero n none)) (before so)
    go false some so = not_so (has_conflict (uses_with k m)) so

-- ---- machines as they are kept

held_kept : {L : Type 0} (locks : L → Locks) (i : ℕ) (machines : List (KeptMachine L))
    → flat_map (λ p. map (holding p.0) p.1.held.items) (enumerate_from i machines) ≡ holdings_from i (map (machine_state locks) machines)
unfolding machine_state
held_kept locks i [] = refl
held_kept locks i (a ∷ machines) = ap (λ hs. map (holding i) a.held.items ++ hs) (held_kept locks (i + 1) machines)

left_kept : {L : Type 0} (locks : L → Locks) (land moment i : ℕ) (machines : List (KeptMachine L))
    → flat_map (λ p. map (lingering_holding p.0) (filter (lingers land moment) p.1.lingering.items)) (enumerate_from i machines)
    ≡ lingering_from land moment i (map (machine_state locks) machines)
unfolding machine_state
left_kept locks land moment i [] = refl
left_kept locks land moment i (a ∷ machines) = ap (λ hs. map (lingering_holding i) (filter (lingers land moment) a.lingering.items) ++ hs) (left_kept locks land moment (i + 1) machines)

pub all_used_is : {L : Type 0} (locks : L → Locks) (k : Kept L) → all_used k ≡ uses_in (kept_state locks k)
unfolding kept_state
all_used_is locks k = ap₂ (λ xs ys. xs ++ ys) (held_kept locks 1 k.machines.items) (left_kept locks k.disks.header.timing.land k.moment 1 k.machines.items)
