-- A daemon begins: what its event makes of a world.
use Rattle.sl_world_state.specs.Daemons.{begun_with}
use Rattle.sl_world_state.specs.declared.daemon.Site.{Site}
use Rattle.sl_world_state.specs.Changes.{first_kept, named_in, started_machine}
use Rattle.sl_world_state.specs.Inputs.{own_in}
use Rattle.sl_world_state.specs.KeptWorld.{KeptState, MachineState, change_machine_in, machine_in}
use Rattle.sl_world_state.specs.Refusals.{refusal_in, tests_in}
use Rattle.sl_world_state.specs.Steps.{stepped_kept}
use Rattle.sl_world_law.proofs.AllowedEvents.{open_test}
use Rattle.sl_run.specs.Lawful.{IsSetting}
use Rattle.sl_machine.specs.KeptParts.{kept_state}
use Rattle.sl_machine.specs.Machines.{machine_state}
use Rattle.sl_machine.specs.declared.kept_world.Kept.{Kept}
use Rattle.sl_machine.specs.declared.machine.Machine.{Machine}
use Rattle.sl_run.specs.Headers.{IsHeader}
use Rattle.sl_run.specs.Locks.{Locks}
use Rattle.sl_run.specs.declared.event.Event.TheVariants.{StartDaemon}
use Rattle.sl_run.specs.declared.event.Refusal.TheVariants.{MissingReset, MissingUp, PremiseName}
use Rattle.sl_run.specs.declared.header.Header.{Header}
use Rattle.sl_text.specs.Forms.{Form}
use Rattle.sl_text.specs.Names.{is_name}
use Rattle.sl_trace.specs.Traces.{Setting, Trace, no_effects}
use Rattle.sl_trace.specs.declared.command.Command.{Command}
use Rattle.sl_trace.specs.declared.input.Given.{Given}
use Rattle.sl_world.proofs.AllowedEvents.{machine_there, no_input, no_own, unrefused}
use Rattle.sl_world.proofs.GivenSteps.{header_kept, next_kept}
use Rattle.sl_world.specs.AllowedEvents.{AllCome, IsAllowed}
use Rattle.sl_world.specs.RunningDaemons.{HostBegun}
use Rattle.sl_words.proofs.CaseLaws.{one_value}
use Rattle.sl_world_law.proofs.DirectChanges.{quiet_events}
use Rattle.sl_world_law.proofs.OwnEvents.{beginnings_are_settings, beginnings_stand}
use Rattle.sl_world_law.specs.WorldsStand.{Comes, new_site}
use Rattle.std.proofs.Common.{ap, ap₂, refl, subst, sym, ◌∙◌}
use Rattle.std.specs.List.{list_any}
use Rattle.std.specs.Prelude.{IsTrue, List, None, Option, Some, bytes_eq, false, not, reverse, slice_set, [], ℕ, ◌-◌, ◌∷◌, ◌≡◌}

-- Where one may begin.
pub start_there : (commands : Header → List (Form Command)) (k : KeptState) (m : ℕ) (name : List ℕ) → refusal_in commands k (StartDaemon m name) ≡ None
    → (s : MachineState) × (machine_in k m ≡ Some s) × (list_any (bytes_eq name) k.names ≡ false)
unfolding tests_in
start_there commands k m name none =
    let s = machine_there k m (λ x. (not x.up, MissingUp) ∷ (x.used, MissingReset) ∷ (list_any (bytes_eq name) k.names, PremiseName) ∷ []) (unrefused commands k (StartDaemon m name) none) in
    let first = open_test (not s.0.up) MissingUp ((s.0.used, MissingReset) ∷ (list_any (bytes_eq name) k.names, PremiseName) ∷ []) s.2 in
    let second = open_test s.0.used MissingReset ((list_any (bytes_eq name) k.names, PremiseName) ∷ []) first.1 in
    (s.0, s.1, (open_test (list_any (bytes_eq name) k.names) PremiseName [] second.1).0)

-- The setting is one.
pub setting_there : {D : Type 0} (commands : Header → List (Form Command)) (stands : D → Setting → Trace → Type 0) (k : KeptState) (hosts : List (Option D)) (m : ℕ) (name : List ℕ)
    (h : Header) (site : Site) → IsAllowed commands stands k hosts (StartDaemon m name) → IsTrue (is_name name) → h ≡ k.header
    → ((s : MachineState) → machine_in k m ≡ Some s → site ≡ new_site m name s) → IsHeader h × IsSetting (begun_with commands h site)
setting_there commands stands k hosts m name h site a named header is =
    let s = start_there commands k m name a.unrefused in
    subst (λ x. IsHeader x × IsSetting (begun_with commands x site)) (sym header)
    (subst (λ x. IsHeader k.header × IsSetting (begun_with commands k.header x)) (sym (is s.0 s.1))
    (beginnings_are_settings commands stands k hosts a.world a.stands_for m name named s.0))

first_start : (k : KeptState) (m : ℕ) (name : List ℕ) → first_kept (StartDaemon m name) k ≡ named_in name (change_machine_in m (started_machine k.header) k)
unfolding first_kept
first_start k m name = refl

pub started_comes : {D : Type 0} (commands : Header → List (Form Command)) (stands : D → Setting → Trace → Type 0) (k : KeptState) (hosts running : List (Option D)) (m : ℕ) (name : List ℕ)
    (h : Header) (site : Site) (after : KeptState) → IsAllowed commands stands k hosts (StartDaemon m name) → IsTrue (is_name name) → h ≡ k.header
    → ((s : MachineState) → machine_in k m ≡ Some s → site ≡ new_site m name s) → HostBegun commands stands h site hosts (m - 1) running
    → after ≡ named_in name (change_machine_in m (started_machine k.header) k) → AllCome commands stands k hosts (StartDaemon m name) after running no_effects
started_comes commands stands k hosts running m name h site after a named header is b kept w t =
    let s = start_there commands k m name a.unrefused in
    let begun = subst (λ x. stands b.next (begun_with commands k.header x) []) (is s.0 s.1) (subst (λ x. stands b.next (begun_with commands x site) []) header b.stood) in
    subst (λ y. Comes commands stands w (StartDaemon m name) no_effects after y) (sym b.hosts_are)
    (subst (λ x. Comes commands stands w (StartDaemon m name) no_effects x (slice_set hosts (m - 1) (Some b.next))) (sym (kept ∙ sym (first_start k m name)))
    (subst (λ x. Comes commands stands w (StartDaemon m name) no_effects x (slice_set hosts (m - 1) (Some b.next)))
    (quiet_events k (StartDaemon m name) (no_input (machine_in k m)) (no_own (machine_in k m)))
    (subst (λ fx. Comes commands stands w (StartDaemon m name) fx (stepped_kept (StartDaemon m name) (own_in k (StartDaemon m name)) k) (slice_set hosts (m - 1) (Some b.next)))
    (no_own (machine_in k m)) (beginnings_stand commands stands k hosts w t m name named a.unrefused s.0 s.1 b.next begun))))

-- What is kept, by the parts that keep it.
pub started_kept : {L : Type 0} (locks : L → Locks) (k after : Kept L) (m : ℕ) (name : List ℕ) → kept_state locks after ≡ kept_state locks k
    → named_in name (change_machine_in m (started_machine after.disks.header) (kept_state locks after))
    ≡ named_in name (change_machine_in m (started_machine (kept_state locks k).header) (kept_state locks k))
started_kept locks k after m name same =
    ap (λ h. named_in name (change_machine_in m (started_machine h) (kept_state locks after))) (sym (header_kept locks after))
    ∙ ap (λ z. named_in name (change_machine_in m (started_machine z.header) z)) same

abbrev pub site_with : ℕ → List ℕ → ℕ → ℕ → List Given → Site
site_with m name call job given = record { machine = m; name = name; first = record { call = call; job = job }; given = given }

-- With what it begins.
pub site_is : {L : Type 0} (locks : L → Locks) (k : Kept L) (m : ℕ) (name : List ℕ) (a : Machine L) (call : ℕ) (given : List Given)
    → machine_in (kept_state locks k) m ≡ Some (machine_state locks a) → call ≡ a.flights.next → given ≡ []
    → (s : MachineState) → machine_in (kept_state locks k) m ≡ Some s → site_with m name call a.job given ≡ new_site m name s
site_is locks k m name a call given at calls none s there =
    let one = one_value (machine_state locks a) s (machine_in (kept_state locks k) m) at there in
    ap₂ (λ n gs. site_with m name n a.job gs) calls none
    ∙ ap₂ (λ n j. site_with m name n j []) (sym (next_kept locks a).0 ∙ ap (λ (z : MachineState). z.next.call) one)
    (sym (next_kept locks a).1 ∙ ap (λ (z : MachineState). z.next.job) one)

-- The names that are kept.
names_kept : {L : Type 0} (locks : L → Locks) (k : Kept L) → (kept_state locks k).names ≡ reverse k.names.keys
unfolding kept_state
names_kept locks k = refl

pub new_name : {L : Type 0} (locks : L → Locks) (k after : Kept L) (name : List ℕ) → kept_state locks after ≡ kept_state locks k
    → list_any (bytes_eq name) (kept_state locks k).names ≡ false → list_any (bytes_eq name) (reverse after.names.keys) ≡ false
new_name locks k after name same none =
    ap (list_any (bytes_eq name)) (sym (names_kept locks after) ∙ ap (λ (z : KeptState). z.names) same) ∙ none
