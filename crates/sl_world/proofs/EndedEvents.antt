-- Processes that exit, machines that go down, and the world that begins.
use Rattle.sl_world_state.specs.Daemons.{program_of}
use Rattle.sl_world_state.specs.Changes.{first_kept, reset_machine, torn_by}
use Rattle.sl_world_state.specs.FirstKept.{first_state}
use Rattle.sl_world_state.specs.Inputs.{input_for, input_in, own_in}
use Rattle.sl_world_state.specs.KeptWorld.{KeptState, MachineState, change_machine_in, machine_in}
use Rattle.sl_world_state.specs.Refusals.{is_shaped_in, refusal_in, tests_in}
use Rattle.sl_world_state.specs.SaneWorlds.{ReadsCommands, WorldStands}
use Rattle.sl_world_state.specs.Steps.{stepped_kept, taken_kept}
use Rattle.sl_run.specs.Headers.{IsHeader}
use Rattle.sl_run.specs.Worlds.{World, first_that, world_with}
use Rattle.sl_run.specs.declared.event.Event.TheVariants.{ExitOf, Reset, Tear}
use Rattle.sl_run.specs.declared.event.Refusal.TheVariants.{MissingUp, Syntax}
use Rattle.sl_run.specs.declared.event.Refusal.{Refusal}
use Rattle.sl_machine.specs.EventTests.{tear_tests}
use Rattle.sl_run.specs.declared.header.Header.{Header}
use Rattle.sl_text.specs.Forms.{Form}
use Rattle.sl_trace.specs.Traces.{Setting, Trace, no_effects}
use Rattle.sl_trace.specs.declared.command.Command.{Command}
use Rattle.sl_trace.specs.declared.effects.Effects.{Effects}
use Rattle.sl_trace.specs.declared.input.Input.TheVariants.{Exit}
use Rattle.sl_world.proofs.AllowedEvents.{machine_there, no_input, no_own, quietly_comes, unrefused}
use Rattle.sl_world.specs.AllowedEvents.{AllCome, IsAllowed, StandsForSome}
use Rattle.sl_words.specs.Words.{choose}
use Rattle.sl_world_law.proofs.DirectChanges.{resets_are_quiet}
use Rattle.sl_world_law.proofs.FirstStanding.{first_worlds_stand}
use Rattle.sl_world_law.proofs.OwnEvents.{ends_stand, own_stands}
use Rattle.sl_world_law.specs.WorldsStand.{Comes, HaveBegun}
use Rattle.std.proofs.Common.{ap, ap₂, refl, subst, sym, ◌∙◌}
use Rattle.std.specs.List.{list_any, slice_set}
use Rattle.std.specs.Prelude.{Bool, Err, IfErr, List, None, Ok, OnOk, Option, Result, Some, bytes_eq, false, not, option_and_then, true, [], ℕ, ◌-◌, ◌∷◌, ◌≡◌}

-- ---- beginnings

-- Names may stand in another order.
named_otherwise : {D : Type 0} (commands : Header → List (Form Command)) (stands : D → Setting → Trace → Type 0) (k : KeptState) (hosts : List (Option D)) (w : World) (ns : List (List ℕ))
    → WorldStands commands stands k hosts w → ((q : List ℕ) → list_any (bytes_eq q) ns ≡ list_any (bytes_eq q) k.names) → WorldStands commands stands (record k { names = ns }) hosts w
named_otherwise commands stands k hosts w ns t same =
    record {
      tells = record {
        header = t.tells.header;
        layout = t.tells.layout;
        moment = t.tells.moment;
        machines = t.tells.machines;
        disks = t.tells.disks;
        names = λ name. t.tells.names name ∙ sym (same name);
      };
      sane = t.sane;
      reads = t.reads;
      counted = t.counted;
      runs = t.runs;
      stood = t.stood;
    }

pub first_stands : {D : Type 0} (commands : Header → List (Form Command)) (stands : D → Setting → Trace → Type 0) (h : Header) (k : KeptState) (hosts : List (Option D)) (ns : List (List ℕ))
    → IsHeader h → ReadsCommands commands h → HaveBegun commands stands h hosts → k ≡ record (first_state h) { names = ns }
    → ((q : List ℕ) → list_any (bytes_eq q) ns ≡ list_any (bytes_eq q) (first_state h).names) → WorldStands commands stands k hosts (world_with (program_of commands) h)
first_stands commands stands h k hosts ns ok reads begun is same =
    subst (λ x. WorldStands commands stands x hosts (world_with (program_of commands) h)) (sym is)
    (named_otherwise commands stands (first_state h) hosts (world_with (program_of commands) h) ns (first_worlds_stand commands stands h ok reads hosts begun) same)

-- ---- answers of calls

pub if_err_then : {A E : Type 0} (P Q : E → Type 0) (r : Result A E) → ((e : E) → P e → Q e) → IfErr r P → IfErr r Q
if_err_then P Q (Ok a) more p = tt
if_err_then P Q (Err e) more p = more e p

pub on_ok_both : {A E : Type 0} (P Q R : Type 0) (r : Result A E) → (P → Q → R) → OnOk r P → OnOk r Q → OnOk r R
on_ok_both P Q R (Ok a) more p q = more p q
on_ok_both P Q R (Err e) more p q = tt

-- ---- exits

pub exit_there : (commands : Header → List (Form Command)) (k : KeptState) (m p : ℕ) → refusal_in commands k (ExitOf m p) ≡ None → (s : MachineState) × (machine_in k m ≡ Some s)
unfolding tests_in
exit_there commands k m p none = let s = machine_there k m (λ x. (not x.up, MissingUp) ∷ []) (unrefused commands k (ExitOf m p) none) in (s.0, s.1)

-- What an exit gives where a daemon runs, and where none does.
pub exit_gives : (k : KeptState) (m p : ℕ) (s : MachineState) (b : Bool) → machine_in k m ≡ Some s → s.runs ≡ b → input_in k (ExitOf m p) ≡ choose b (Exit p)
exit_gives k m p s b at runs = ap (option_and_then (input_for k (ExitOf m p))) at ∙ ap (λ x. choose x (Exit p)) runs

pub first_exit : (k : KeptState) (m p : ℕ) → first_kept (ExitOf m p) k ≡ k
unfolding first_kept
first_exit k m p = refl

-- The machine itself takes it.
pub alone_comes : {D : Type 0} (commands : Header → List (Form Command)) (stands : D → Setting → Trace → Type 0) (k : KeptState) (hosts : List (Option D)) (m p : ℕ) (s : MachineState)
    (after : KeptState) (fx : Effects) → IsAllowed commands stands k hosts (ExitOf m p) → machine_in k m ≡ Some s → s.runs ≡ false → fx ≡ own_in k (ExitOf m p)
    → after ≡ taken_kept m None fx k → AllCome commands stands k hosts (ExitOf m p) after hosts fx
alone_comes commands stands k hosts m p s after fx a at idle own is w t =
    let none : input_in k (ExitOf m p) ≡ None = exit_gives k m p s false at idle in
    let same : stepped_kept (ExitOf m p) fx k ≡ after = ap₂ (λ o x. taken_kept m o fx x) none (first_exit k m p) ∙ sym is in
    subst (λ x. Comes commands stands w (ExitOf m p) fx x hosts) same
    (subst (λ y. Comes commands stands w (ExitOf m p) y (stepped_kept (ExitOf m p) y k) hosts) (sym own) (own_stands commands stands k hosts w t (ExitOf m p) a.unrefused none refl))

-- ---- resets

pub reset_there : (commands : Header → List (Form Command)) (k : KeptState) (m : ℕ) → refusal_in commands k (Reset m) ≡ None → (s : MachineState) × (machine_in k m ≡ Some s)
unfolding tests_in
reset_there commands k m none = let s = machine_there k m (λ x. (not x.up, MissingUp) ∷ []) (unrefused commands k (Reset m) none) in (s.0, s.1)

pub first_reset : (k : KeptState) (m : ℕ) → first_kept (Reset m) k ≡ change_machine_in m (reset_machine k.header k.moment) k
unfolding first_kept
first_reset k m = refl

pub reset_comes : {D : Type 0} (commands : Header → List (Form Command)) (stands : D → Setting → Trace → Type 0) (k : KeptState) (hosts running : List (Option D)) (m : ℕ)
    (after : KeptState) (fx : Effects) → IsAllowed commands stands k hosts (Reset m) → fx ≡ own_in k (Reset m) → after ≡ change_machine_in m (reset_machine k.header k.moment) k
    → running ≡ slice_set hosts (m - 1) None → AllCome commands stands k hosts (Reset m) after running fx
reset_comes commands stands k hosts running m after fx a own is ended w t =
    subst (λ y. Comes commands stands w (Reset m) fx after y) (sym ended)
    (subst (λ x. Comes commands stands w (Reset m) fx x (slice_set hosts (m - 1) None)) (sym (is ∙ sym (first_reset k m)))
    (subst (λ y. Comes commands stands w (Reset m) y (first_kept (Reset m) k) (slice_set hosts (m - 1) None)) (sym own)
    (subst (λ x. Comes commands stands w (Reset m) (own_in k (Reset m)) x (slice_set hosts (m - 1) None)) (resets_are_quiet k m)
    ((ends_stand commands stands).resets m k hosts w t a.unrefused))))

-- ---- tears

pub tear_tests_are : (commands : Header → List (Form Command)) (k : KeptState) (m c n : ℕ) (given : List ℕ) → tests_in commands k (Tear m c n given) ≡ tear_tests k m c n given
unfolding tests_in
tear_tests_are commands k m c n given = refl

-- Why a tear of such bytes may not happen is told by its tests.
pub tear_refused : (commands : Header → List (Form Command)) (k : KeptState) (m c n : ℕ) (given : List ℕ) (o : Option Refusal) → is_shaped_in k.header (Tear m c n given) ≡ true
    → first_that (tear_tests k m c n given) ≡ o → refusal_in commands k (Tear m c n given) ≡ o
tear_refused commands k m c n given o shaped is =
    ap (λ b. first_that ((not b, Syntax) ∷ tests_in commands k (Tear m c n given))) shaped
    ∙ ap (λ (ts : List (Bool × Refusal)). first_that ts) (tear_tests_are commands k m c n given) ∙ is

pub first_tear : (k : KeptState) (m c n : ℕ) (given : List ℕ) → first_kept (Tear m c n given) k ≡ torn_by m c n given k
unfolding first_kept
first_tear k m c n given = refl

pub tear_comes : {D : Type 0} (commands : Header → List (Form Command)) (stands : D → Setting → Trace → Type 0) (k : KeptState) (hosts : List (Option D)) (m c n : ℕ) (given : List ℕ) (after : KeptState)
    → StandsForSome commands stands k hosts → is_shaped_in k.header (Tear m c n given) ≡ true → first_that (tear_tests k m c n given) ≡ None → after ≡ torn_by m c n given k
    → AllCome commands stands k hosts (Tear m c n given) after hosts no_effects
tear_comes commands stands k hosts m c n given after some shaped none is =
    quietly_comes commands stands k hosts (Tear m c n given) after
    (record { world = some.world; stands_for = some.stands_for; unrefused = tear_refused commands k m c n given None shaped none })
    (no_input (machine_in k m)) (no_own (machine_in k m)) refl (is ∙ sym (first_tear k m c n given))
