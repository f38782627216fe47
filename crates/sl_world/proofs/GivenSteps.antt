-- A daemon has taken a step: what is kept has room for it, and takes it up.
use Rattle.sl_world_state.specs.declared.daemon.Most.{Most}
use Rattle.sl_world_state.specs.KeptWorld.{KeptState, MachineState, change_machine_in, machine_in}
use Rattle.sl_world_state.specs.Steps.{stepped_machine, taken_kept}
use Rattle.sl_machine.proofs.KeptLaws.{placed}
use Rattle.sl_locks.specs.Steps.{lock_input}
use Rattle.sl_machine.specs.HeardInputs.{IsLockInput, heard_of}
use Rattle.sl_machine.specs.KeptParts.{AtMachine, kept_state, place_in}
use Rattle.sl_machine.specs.Machines.{HasRoom, TakesStep, machine_state, stepped_by}
use Rattle.sl_machine.specs.declared.heard_inputs.Heard.{Heard}
use Rattle.sl_machine.specs.declared.kept_world.Kept.{Kept}
use Rattle.sl_locks.specs.declared.line_steps.LockInput.{LockInput}
use Rattle.sl_machine.specs.declared.machine.Machine.{Machine}
use Rattle.sl_run.specs.Locks.{Locks}
use Rattle.sl_run.specs.declared.header.Header.{Header}
use Rattle.sl_text.specs.Forms.{Form}
use Rattle.sl_time.specs.Times.{reading_of}
use Rattle.sl_trace.specs.Traces.{Setting, Trace}
use Rattle.sl_trace.specs.declared.command.Command.{Command}
use Rattle.sl_trace.specs.declared.effects.Effects.{Effects}
use Rattle.sl_trace.specs.declared.input.Input.TheVariants.{Answer as Told, Exit, Line, Number, Spawned, Wake}
use Rattle.sl_trace.specs.declared.input.Input.{Input}
use Rattle.sl_world.specs.AllowedEvents.{LacksAt, LeavesAt}
use Rattle.sl_world.specs.GivenSteps.{IsGiven}
use Rattle.sl_world.specs.RunningDaemons.{HostStepped}
use Rattle.sl_words.proofs.CaseLaws.{one_value, true_is_false}
use Rattle.sl_world_law.proofs.EventsStand.{steps_fit}
use Rattle.sl_world_law.specs.WorldsStand.{FitsKept, HasStepped, IsReady}
use Rattle.std.proofs.Common.{ap, arith, refl, subst, sym, ◌∙◌}
use Rattle.std.proofs.lemmas.Bool.Decides.{nat_tests}
use Rattle.std.proofs.lemmas.Option.{slice_get-map}
use Rattle.std.specs.List.{range_with_len}
use Rattle.std.specs.Prelude.{Bool, Err, IfOk, List, None, Ok, Option, Result, Some, false, if◌then◌else◌, length, map, nat_lt, not, option_map, slice_get, slice_set, true, ℕ, ◌-◌, ◌<◌, ◌^◌, ◌≡◌, ◌≤◌}
use Rattle.std.specs.Vec.{vec_len}

-- ---- machines by their places

machine_kept : {L : Type 0} (locks : L → Locks) (k : Kept L) (m i : ℕ) (a : Machine L) → place_in (vec_len k.machines) m ≡ Some i → slice_get k.machines.items i ≡ Some a
    → machine_in (kept_state locks k) m ≡ Some (machine_state locks a)
unfolding kept_state
machine_kept locks k m i a there at =
    let p = placed (vec_len k.machines) m i there in
    ap (λ b. if b then None else slice_get (map (machine_state locks) k.machines.items) (m - 1)) p.some
    ∙ ap (slice_get (map (machine_state locks) k.machines.items)) p.there
    ∙ slice_get-map (machine_state locks) k.machines.items i ∙ ap (option_map (machine_state locks)) at

pub next_kept : {L : Type 0} (locks : L → Locks) (a : Machine L) → ((machine_state locks a).next.call ≡ a.flights.next) × ((machine_state locks a).next.job ≡ a.job)
unfolding machine_state
next_kept locks a = (refl, refl)

pub header_kept : {L : Type 0} (locks : L → Locks) (k : Kept L) → (kept_state locks k).header ≡ k.disks.header
unfolding kept_state
header_kept locks k = refl

-- ---- there is room for the step

number_left : (n m : ℕ) → n ≡ m → n < 2 ^ 63 - 2048 → m < 2 ^ 63
number_left n m same less = omega (arith, same, less)

-- What the daemon's step is, by the reading and the bound that were taken before.
stepped_of : {D : Type 0} (stands : D → Setting → Trace → Type 0) (makes : D → Most) (k : KeptState) (hosts after : List (Option D)) (m now : ℕ) (i : Input) (fx : Effects) (most : Most)
    (r : IsReady stands k hosts m i) → ((h : D) → slice_get hosts (m - 1) ≡ Some (Some h) → most ≡ makes h)
    → ((s : MachineState) → machine_in k m ≡ Some s → now ≡ reading_of s.clock) → (x : HostStepped stands makes hosts (m - 1) now i after fx)
    → HasStepped stands most r.host x.next (reading_of r.machine.clock) i fx
stepped_of stands makes k hosts after m now i fx most r most_is now_is x =
    subst (λ y. HasStepped stands y r.host x.next (reading_of r.machine.clock) i fx) (sym (most_is r.host r.runs))
    (subst (λ n. HasStepped stands (makes r.host) r.host x.next n i fx) (now_is r.machine r.there) (x.goes r.host r.runs))

pub takes_step : {D L : Type 0} (commands : Header → List (Form Command)) (stands : D → Setting → Trace → Type 0) (makes : D → Most) (locks : L → Locks) (has_room : L → Bool)
    (k after : Kept L) (hosts running : List (Option D)) (m now : ℕ) (i : Input) (fx : Effects) (most : Most) → IsReady stands (kept_state locks k) hosts m i
    → ((h : D) → slice_get hosts (m - 1) ≡ Some (Some h) → most ≡ makes h) → ((s : MachineState) → machine_in (kept_state locks k) m ≡ Some s → now ≡ reading_of s.clock)
    → HostStepped stands makes hosts (m - 1) now i running fx → kept_state locks after ≡ kept_state locks k → AtMachine (HasRoom has_room most) after m
    → AtMachine (λ a. TakesStep has_room a fx) after m
takes_step {D} {L} commands stands makes locks has_room k after hosts running m now i fx most r most_is now_is x same room =
    record {
      at = λ j a there at.
          let s = stepped_of stands makes (kept_state locks k) hosts running m now i fx most r most_is now_is x in
          let fit : FitsKept (kept_state locks k) r.machine most fx = steps_fit commands stands (kept_state locks k) hosts m i r x.next most fx s in
          let one : r.machine ≡ machine_state locks a = one_value r.machine (machine_state locks a) (machine_in (kept_state locks k) m) r.there
          (ap (λ z. machine_in z m) (sym same) ∙ machine_kept locks after m j a there at) in
          let call : r.machine.next.call ≡ a.flights.next = ap (λ (z : MachineState). z.next.call) one ∙ (next_kept locks a).0 in
          let job : r.machine.next.job ≡ a.job = ap (λ (z : MachineState). z.next.job) one ∙ (next_kept locks a).1 in
          record {
            most = most;
            room = room.at j a there at;
            moves = fit.step.moves;
            grants = fit.step.grants;
            starts = fit.step.starts;
            calls = fit.step.few;
            numbered = subst (λ n. map (λ c. c.number) fx.calls ≡ range_with_len n (length fx.calls)) call fit.numbered;
            sound = λ c inside. (fit.sound c inside).op;
            numbers = (number_left _ a.flights.next (r.next ∙ call) r.comes.room.0, number_left _ a.job (r.job ∙ job) r.comes.room.1);
          };
    }

-- ---- what is kept takes it up

pub stepped_is : (h : Header) (i : Input) (l : LockInput) (fx : Effects) (s : MachineState) → IsLockInput l i → stepped_by h (heard_of i) (lock_input l) fx s ≡ stepped_machine h i fx s
stepped_is h (Told n answer) l fx s is = ap (λ x. record (stepped_machine h (Told n answer) fx s) { locks = x.0 }) (sym (is s.next.job fx s.locks))
stepped_is h (Line text) l fx s is = ap (λ x. record (stepped_machine h (Line text) fx s) { locks = x.0 }) (sym (is s.next.job fx s.locks))
stepped_is h (Number text) l fx s is = ap (λ x. record (stepped_machine h (Number text) fx s) { locks = x.0 }) (sym (is s.next.job fx s.locks))
stepped_is h Wake l fx s is = ap (λ x. record (stepped_machine h Wake fx s) { locks = x.0 }) (sym (is s.next.job fx s.locks))
stepped_is h (Exit p) l fx s is = ap (λ x. record (stepped_machine h (Exit p) fx s) { locks = x.0 }) (sym (is s.next.job fx s.locks))
stepped_is h (Spawned p ok) l fx s is = ap (λ x. record (stepped_machine h (Spawned p ok) fx s) { locks = x.0 }) (sym (is s.next.job fx s.locks))

same_change : (k : KeptState) (m : ℕ) (f g : MachineState → MachineState) → ((s : MachineState) → f s ≡ g s) → change_machine_in m f k ≡ change_machine_in m g k
same_change k m f g same = go (machine_in k m)
  where
    go : (o : Option MachineState)
        → elim o as (λ x. KeptState) [ None ↦ k | Some s ↦ record k { machines = slice_set k.machines (m - 1) (f s) } ]
        ≡ elim o as (λ x. KeptState) [ None ↦ k | Some s ↦ record k { machines = slice_set k.machines (m - 1) (g s) } ]
    go None = refl
    go (Some s) = ap (λ x. record k { machines = slice_set k.machines (m - 1) x }) (same s)

pub taken_up : {L : Type 0} (locks : L → Locks) (k after : Kept L) (m : ℕ) (i : Input) (l : LockInput) (fx : Effects) (heard : Heard) → kept_state locks after ≡ kept_state locks k
    → heard ≡ heard_of i → IsLockInput l i → change_machine_in m (stepped_by after.disks.header heard (lock_input l) fx) (kept_state locks after)
    ≡ taken_kept m (Some i) fx (kept_state locks k)
taken_up locks k after m i l fx heard same hears is =
    ap (λ h. change_machine_in m (stepped_by h heard (lock_input l) fx) (kept_state locks after)) (sym (header_kept locks after))
    ∙ ap (λ z. change_machine_in m (stepped_by z.header heard (lock_input l) fx) z) same
    ∙ ap (λ d. change_machine_in m (stepped_by (kept_state locks k).header d (lock_input l) fx) (kept_state locks k)) hears
    ∙ same_change (kept_state locks k) m (stepped_by (kept_state locks k).header (heard_of i) (lock_input l) fx) (stepped_machine (kept_state locks k).header i fx)
    (λ s. stepped_is (kept_state locks k).header i l fx s is)

pub is_given : {D : Type 0} (stands : D → Setting → Trace → Type 0) (makes : D → Most) (k after : KeptState) (hosts running : List (Option D)) (m now : ℕ) (i : Input) (fx : Effects)
    → ((s : MachineState) → machine_in k m ≡ Some s → now ≡ reading_of s.clock) → (x : HostStepped stands makes hosts (m - 1) now i running fx)
    → after ≡ taken_kept m (Some i) fx k → LeavesAt k m → IsGiven stands makes k hosts m i after running fx
is_given stands makes k after hosts running m now i fx now_is x kept left =
    record {
      kept = kept;
      numbers = left;
      next = x.next;
      hosts_are = x.hosts_are;
      goes = λ h s runs there. subst (λ n. HasStepped stands (makes h) h x.next n i fx) (now_is s there) (x.goes h runs);
    }

-- ---- numbers are left

below_test : (n m : ℕ) → nat_lt n m ≡ true → n < m
below_test n m h = grind (arith, nat_tests, h)

pub numbers_there : {L : Type 0} (locks : L → Locks) (k : Kept L) (m : ℕ) (a : Machine L) → machine_in (kept_state locks k) m ≡ Some (machine_state locks a)
    → a.flights.next < 9223372036854773760 → nat_lt a.job 9223372036854773760 ≡ true → LeavesAt (kept_state locks k) m
numbers_there locks k m a at call job s there =
    let one = one_value (machine_state locks a) s (machine_in (kept_state locks k) m) at there in (
      subst (λ n. n < 9223372036854773760) (sym (next_kept locks a).0 ∙ ap (λ (z : MachineState). z.next.call) one) call,
      subst (λ n. n < 9223372036854773760) (sym (next_kept locks a).1 ∙ ap (λ (z : MachineState). z.next.job) one) (below_test a.job 9223372036854773760 job),
    )

-- Or they are not, where one of the two is not below the bound.
pub numbers_lack : {L : Type 0} (locks : L → Locks) (k : Kept L) (m : ℕ) (a : Machine L) → machine_in (kept_state locks k) m ≡ Some (machine_state locks a)
    → (a.flights.next < 9223372036854773760 → a.job < 9223372036854773760 → ⊥) → LacksAt (kept_state locks k) m
numbers_lack locks k m a at none s there has =
    let one = one_value s (machine_state locks a) (machine_in (kept_state locks k) m) there at in
    none (subst (λ n. n < 9223372036854773760) (ap (λ (z : MachineState). z.next.call) one ∙ (next_kept locks a).0) has.0)
    (subst (λ n. n < 9223372036854773760) (ap (λ (z : MachineState). z.next.job) one ∙ (next_kept locks a).1) has.1)

is_below : (n m : ℕ) → n < m → nat_lt n m ≡ true
is_below n m less = grind (arith, nat_tests, less)

pub not_below : (n m : ℕ) → nat_lt n m ≡ false → n < m → ⊥
not_below n m h less = true_is_false (sym (is_below n m less) ∙ h)

pub none_below : (m n : ℕ) → m ≤ n → n < m → ⊥
none_below m n most less = omega (arith, most, less)

pub not_false : (b : Bool) → not b ≡ false → b ≡ true
not_false true h = refl
not_false false h = absurd (true_is_false h)

-- What an answer ok says may be said in another way.
pub if_ok_then : {A E : Type 0} (P Q : A → Type 0) (r : Result A E) → ((a : A) → P a → Q a) → IfOk r P → IfOk r Q
if_ok_then P Q (Ok a) more p = more a p
if_ok_then P Q (Err e) more p = tt

-- ---- asks

pub ask_there : {L : Type 0} (locks : L → Locks) (k : Kept L) (m : ℕ) (a : Machine L) (text : List ℕ) → machine_in (kept_state locks k) m ≡ Some (machine_state locks a)
    → Some text ≡ (locks a.locks).due → (s : MachineState) → machine_in (kept_state locks k) m ≡ Some s → s.locks.due ≡ Some text
unfolding machine_state
ask_there locks k m a text at due s there =
    ap (λ (z : MachineState). z.locks.due) (sym (one_value (machine_state locks a) s (machine_in (kept_state locks k) m) at there)) ∙ sym due
