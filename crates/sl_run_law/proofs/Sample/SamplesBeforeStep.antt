-- What is kept of each call by what an event changes before the daemon's step.
use Rattle.sl_run_law.proofs.Landing.OneArrival.{flight_there}
use Rattle.sl_words.proofs.Numbers.{refl_le}
use Rattle.sl_run.specs.EventChanges.{change_call, complete, fated, first_change, flight_at, land_whole, next_step, sampled_more}
use Rattle.sl_run.specs.Refusals.{may_happen, sectors_left, sectors_of}
use Rattle.sl_run.specs.Worlds.{Course, Dropped, Fate, Landed, Machine, Sampling, Torn, World, change_machine, content, flight_of, is_in_flight, is_write_course, machine_at}
use Rattle.sl_run.specs.declared.event.Event.TheVariants.{Do, Sample}
use Rattle.sl_run.specs.declared.event.Event.{Event}
use Rattle.sl_run_law.proofs.AnswersStay.{flight_waits}
use Rattle.sl_run_law.proofs.MachineWalk.{Asked, each_first, reads}
use Rattle.sl_run_law.specs.FatesStay.{EachDistinct, Every}
use Rattle.sl_run_law.specs.Machines.{EachMachine}
use Rattle.sl_run_law.proofs.Sample.OnlyCall.{IsOne, all_one, every_both, every_changed, samples_so}
use Rattle.sl_run_law.proofs.Sample.DisksGoOn.{first_onward, no_landing, onward_again, onward_stepped}
use Rattle.sl_run_law.proofs.Sample.ReadsSampleMore.{HasLandings, sees_more}
use Rattle.sl_run_law.proofs.Sample.SamplesSee.{Onward, Sees, all_later, sees_later}
use Rattle.sl_run_law.specs.Sample.Samples.{IsSampleOf}
use Rattle.std.proofs.Common.{ap, arith, refl, subst, sym, ◌∙◌}
use Rattle.std.proofs.lemmas.Bool.{not-true}
use Rattle.std.proofs.lemmas.Bool.Decides.{Decides-eqb}
use Rattle.std.specs.Prelude.{Bool, List, None, Option, Some, false, length, slice_set, true, ℕ, ◌+◌, ◌-◌, ◌==◌, ◌≡◌, ◌≤◌}

-- ---- the ground

-- What samples rest on.
pub record Ground (w : World) : Type 0 where
  pub landings : HasLandings w
  -- each place holds a whole sector
  pub sized : (path : List ℕ) (offset : ℕ) → length (content w path offset) ≡ w.layout.sector
  pub distinct : EachDistinct w

-- The world once what comes before the daemon's step is over.
abbrev pub changed_world : Event → World → World
changed_world e w = next_step (first_change e w)

pub changed_onward : (e : Event) (w : World) → Onward w (changed_world e w)
changed_onward e w = onward_again w (first_change e w) (changed_world e w) (first_onward e w) (onward_stepped (first_change e w))

abbrev pub Before : World → Event → ℕ → Machine → Machine → Type 0
Before w e m a b = machine_at w m ≡ Some a → Every (Sees w) a.calls → Every (Sees (changed_world e w)) b.calls

-- ---- calls that sample nothing

all_still : (w : World) (e : Event) (cs : List Course) → Every (Sees w) cs → Every (Sees (changed_world e w)) cs
all_still w e cs h = all_later w (changed_world e w) cs (changed_onward e w) h

fated_sample : (v : World) (x : Fate) (c : Course) (k : ℕ) (s : Sampling) → IsSampleOf v c k s → IsSampleOf v (fated x c) k s
fated_sample v x c k s i =
    record {
      landing = i.landing;
      seen = i.seen;
      bytes = i.bytes;
      newest = i.newest;
      before_next = i.before_next;
      after = i.after;
      before = i.before;
    }

fated_sees : (v : World) (x : Fate) (c : Course) → Sees v c → Sees v (fated x c)
fated_sees v x c h =
    record {
      sized = h.sized;
      few = h.few;
      whole = h.whole;
      made = h.made;
      past = h.past;
      shows = λ k s at. fated_sample v x c k s (h.shows k s at);
      order = h.order;
    }

all_fated : (w : World) (e : Event) (m n : ℕ) (x : Fate) (a : Machine) → Before w e m a (change_call n (fated x) a)
all_fated w e m n x a at h =
    let v : World = changed_world e w in
    every_changed (Sees v) (Sees v) (λ c. c.call.number == n) (fated x) a.calls (λ c t s. fated_sees v x c s) (λ c t s. s) (all_still w e a.calls h)

-- ---- calls that sample

changed_by : (m : ℕ) (f : Machine → Machine) (w : World) (o : Option Machine)
    → Onward (next_step w) (next_step (elim o as (λ x. World) [ None ↦ w | Some a ↦ record w { machines = slice_set w.machines (m - 1) (f a) } ]))
changed_by m f w None = no_landing (next_step w) (next_step w) refl refl (refl_le (w.step + 1)) (refl_le w.moment) refl
changed_by m f w (Some a) =
    no_landing (next_step w) (next_step (record w { machines = slice_set w.machines (m - 1) (f a) })) refl refl (refl_le (w.step + 1)) (refl_le w.moment) refl

-- A change of a machine lets nothing land.
stepped_changed : (m : ℕ) (f : Machine → Machine) (w : World) → Onward (next_step w) (next_step (change_machine m f w))
stepped_changed m f w = changed_by m f w (machine_at w m)

has_number : (c : Course) (n : ℕ) → c.call.number ≡ n → (c.call.number == n) ≡ true
has_number c n h = (Decides-eqb c.call.number n).1 h

-- The call in flight, and how many sectors it samples.
record Samples (w : World) (a : Machine) (n k : ℕ) : Type 0 where
  course : Course
  flight : flight_of a n ≡ Some course
  room : k ≤ sectors_left course

room_of : (a k n : ℕ) → a ≤ n → k ≤ n - a → a + k ≤ n
room_of a k n h r = omega (arith, h, r)

sampled_so : (w : World) (k n : ℕ) (a : Machine) (f : Course) → Ground w → flight_of a n ≡ Some f → k ≤ sectors_left f → Sees w f → Sees (next_step w) (sampled_more w k f)
sampled_so w k n a f g flight room h =
    sees_more w k f (record { landings = g.landings; sized = g.sized; made = h.made; waits = (flight_waits a n f flight).1 })
    (room_of (length f.samples) k (sectors_of f.call.op) h.few room) (sees_later w (next_step w) f (onward_stepped w) h)

all_sampled : (w v : World) (m k n : ℕ) (a : Machine) → Ground w → Onward (next_step w) v → machine_at w m ≡ Some a → Samples w a n k → Every (Sees w) a.calls
    → Every (Sees v) (change_call n (sampled_more w k) a).calls
all_sampled w v m k n a g o at s h =
    every_changed (λ c. IsOne n s.course c × Sees w c) (Sees v) (λ c. c.call.number == n) (sampled_more w k) a.calls
    (λ c t both. sees_later (next_step w) v (sampled_more w k c) o
    (sampled_so w k n a c g (s.flight ∙ ap (λ x. Some x) (sym (both.0 t))) (subst (λ x. k ≤ sectors_left x) (sym (both.0 t)) s.room) both.1))
    (λ c t both. sees_later w v c (onward_again w (next_step w) v (onward_stepped w) o) both.1)
    (every_both (IsOne n s.course) (Sees w) a.calls (all_one a n s.course s.flight (g.distinct m a at)) h)

sample_keeps : (w : World) (m c k : ℕ) (a : Machine) → Ground w → may_happen w (Sample m c k) ≡ true → machine_at w m ≡ Some a
    → Before w (Sample m c k) m a (change_call c (sampled_more w k) a)
unfolding first_change
sample_keeps w m c k a g may at at' h =
    let s = samples_so w m c k a may at in
    all_sampled w (next_step (change_machine m (change_call c (sampled_more w k)) w)) m k c a g (stepped_changed m (change_call c (sampled_more w k)) w) at
    (record { course = s.0; flight = s.1; room = s.2 }) h

-- ---- a call that is completed

-- What completes the call in flight.
abbrev pub completed : World → ℕ → ℕ → Course → Bool → World
completed w m c f b =
    elim b as (λ x. World) [
      | false ↦ change_machine m (change_call c (sampled_more w (sectors_left f))) w
      | true ↦ elim (is_in_flight f.fate) as (λ x. World) [ true ↦ land_whole m c w | false ↦ w ]
    ]

pub complete_is : (w : World) (m c : ℕ) (f : Course) → flight_at w m c ≡ Some f → complete m c w ≡ completed w m c f (is_write_course f)
complete_is w m c f h = ap (λ o. elim o as (λ x. World) [ None ↦ w | Some x ↦ completed w m c x (is_write_course x) ]) h

done_keeps : (w : World) (m c : ℕ) (a : Machine) (f : Course) → Ground w → machine_at w m ≡ Some a → flight_of a c ≡ Some f → reads f ≡ true
    → Before w (Do m c) m a (change_call c (sampled_more w (sectors_left f)) a)
unfolding first_change
done_keeps w m c a f g at flight read at' h =
    let F : Machine → Machine = change_call c (sampled_more w (sectors_left f)) in
    let is : complete m c w ≡ change_machine m F w =
    complete_is w m c f (flight_there w m c a f at flight) ∙ ap (completed w m c f) (not-true (is_write_course f) read) in
    all_sampled w (next_step (complete m c w)) m (sectors_left f) c a g (subst (λ v. Onward (next_step w) (next_step v)) (sym is) (stepped_changed m F w)) at
    (record { course = f; flight = flight; room = refl_le (sectors_left f) }) h

-- ---- all events

asked : (w : World) (e : Event) → Ground w → may_happen w e ≡ true → Asked (Before w e) w e
asked w e g may =
    record {
      pass = λ d growths is m a at at' h. all_still w e a.calls h;
      sample = λ m c k is a at.
          subst (λ x. Before w x m a (change_call c (sampled_more w k) a)) (sym is) (sample_keeps w m c k a g (subst (λ x. may_happen w x ≡ true) is may) at);
      land = λ m c is a f at flight t. all_fated w e m c Landed a;
      tear = λ m c k bytes is a f at flight t. all_fated w e m c Torn a;
      done_read = λ m c is a f at flight t. subst (λ x. Before w x m a (change_call c (sampled_more w (sectors_left f)) a)) (sym is) (done_keeps w m c a f g at flight t);
      done_write = λ m c is a f at flight t. all_fated w e m c Landed a;
      drop_write = λ m c is a at. all_fated w e m c Dropped a;
      tested = λ m is a at at' h. all_still w e a.calls h;
      start = λ m name is a at at' h. all_still w e a.calls h;
      crash = λ m is a at at' h. all_still w e a.calls h;
      reset = λ m is a at at' h. all_still w e a.calls h;
      restart = λ m is a at at' h. all_still w e a.calls h;
    }

-- Each call is seen after what comes before the daemon's step.
pub first_keeps : (w : World) (e : Event) → Ground w → may_happen w e ≡ true → EachMachine (Before w e) w (first_change e w)
first_keeps w e g may = each_first (Before w e) e w (λ none m a at h. all_still w e a.calls h) (asked w e g may)
