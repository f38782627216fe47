-- What an event makes of a machine's calls before the daemon's step: some are sampled, some get a fate; nothing else of them changes.
use Rattle.sl_run_law.proofs.Landing.OneArrival.{landing_of, flight_there, landed_with}
use Rattle.sl_run_law.proofs.Landing.LandingGuards.{drop_ended}
use Rattle.sl_words.proofs.Lists.{contains_map, find_inside, in_map}
use Rattle.sl_run.specs.EventChanges.{add_landing, change_call, fated, first_change, flight_at, land_whole, sampled_more, write_bytes}
use Rattle.sl_run.specs.Refusals.{may_happen, sectors_left}
use Rattle.sl_run.specs.Worlds.{Course, Dropped, Landed, Landing, Machine, Torn, World, change_machine, flight_of, is_in_flight, is_of_running, is_open, is_write_course, machine_at}
use Rattle.sl_run.specs.declared.event.Event.TheVariants.{Do, Land}
use Rattle.sl_run.specs.declared.event.Event.{Event}
use Rattle.sl_run_law.proofs.CourseLists.{changed_if}
use Rattle.sl_run_law.proofs.Guards.{drops, lands, tears}
use Rattle.sl_run_law.proofs.MachineWalk.{Asked, each_first}
use Rattle.sl_run_law.specs.Machines.{EachMachine}
use Rattle.sl_words.proofs.WordLaws.{and_true}
use Rattle.std.proofs.Common.{ap, inl, inr, refl, subst, sym, ◌∙◌}
use Rattle.std.proofs.lemmas.Bool.{eqb-true}
use Rattle.std.proofs.lemmas.Bool.Decides.{Decides-eqb}
use Rattle.std.specs.Option.{option_map_or}
use Rattle.std.specs.Prelude.{Bool, Contains, None, Option, Some, false, true, ℕ, ◌&&◌, ◌==◌, ◌∷◌, ◌≡◌, ◌⊎◌}

-- ---- calls of a machine, before and after

-- Each call becomes one, and each was one.
pub record Turned (R : Course → Course → Type 0) (a b : Machine) : Type 0 where
  pub forth : (c : Course) → Contains a.calls c → (d : Course) × Contains b.calls d × R c d
  pub back : (d : Course) → Contains b.calls d → (c : Course) × Contains a.calls c × R c d

pub turned_same : (R : Course → Course → Type 0) (a b : Machine) → ((c : Course) → R c c) → b.calls ≡ a.calls → Turned R a b
turned_same R a b still same =
    record {
      forth = λ c h. (c, subst (λ cs. Contains cs c) (sym same) h, still c);
      back = λ d h. (d, subst (λ cs. Contains cs d) same h, still d);
    }

one_turned : (R : Course → Course → Type 0) (f : Course → Course) (c : Course) (t : Bool) → R c c → (t ≡ true → R c (f c)) → R c (changed_if t f c)
one_turned R f c true still turn = turn refl
one_turned R f c false still turn = still

pub turned_call : (R : Course → Course → Type 0) (n : ℕ) (f : Course → Course) (a : Machine) → ((c : Course) → R c c)
    → ((c : Course) → Contains a.calls c → (c.call.number == n) ≡ true → R c (f c)) → Turned R a (change_call n f a)
turned_call R n f a still turn =
    let g : Course → Course = λ c. changed_if (c.call.number == n) f c in
    record {
      forth = λ c h. (g c, contains_map g a.calls c h, one_turned R f c (c.call.number == n) (still c) (turn c h));
      back = λ d h.
          let p = in_map g a.calls d h in
          (p.0, p.1, subst (R p.0) p.2 (one_turned R f p.0 (p.0.call.number == n) (still p.0) (turn p.0 p.1)));
    }

-- ---- fates

-- The event lands this call whole.
pub record LandsNow (w : World) (e : Event) (m : ℕ) (c : Course) : Type 0 where
  pub landing : Landing
  pub same : (first_change e w).landings ≡ landing ∷ w.landings
  pub writer : landing.writer ≡ Some (m, c.call.number)
  pub whole : landing.whole ≡ true

-- A fate that a call with the number of a write in flight gets.
pub record NewFate (w : World) (e : Event) (m : ℕ) (a : Machine) (c d : Course) : Type 0 where
  pub flight : Course
  pub flies : flight_of a c.call.number ≡ Some flight
  pub waits : is_in_flight flight.fate ≡ true
  pub fate : ((d.fate ≡ Landed) × LandsNow w e m c) ⊎ ((d.fate ≡ Torn) ⊎ ((d.fate ≡ Dropped) × (is_of_running a flight ≡ false)))

-- What a call becomes.
pub record Turn (w : World) (e : Event) (m : ℕ) (a : Machine) (c d : Course) : Type 0 where
  pub call : d.call ≡ c.call
  pub daemon : d.daemon ≡ c.daemon
  pub made : d.made ≡ c.made
  pub answered : d.answered ≡ c.answered
  pub done : d.done ≡ c.done
  pub fate : (d.fate ≡ c.fate) ⊎ NewFate w e m a c d

turn_still : (w : World) (e : Event) (m : ℕ) (a : Machine) (c : Course) → Turn w e m a c c
turn_still w e m a c = record { call = refl; daemon = refl; made = refl; answered = refl; done = refl; fate = inl refl }

turn_sampled : (w : World) (e : Event) (m : ℕ) (a : Machine) (k : ℕ) (c : Course) → Turn w e m a c (sampled_more w k c)
turn_sampled w e m a k c = record { call = refl; daemon = refl; made = refl; answered = refl; done = refl; fate = inl refl }

-- The call that flies has the number.
pub flight_number : (a : Machine) (n : ℕ) (f : Course) → flight_of a n ≡ Some f → f.call.number ≡ n
flight_number a n f h =
    let p = find_inside (λ x. x.call.number == n && is_open a x) a.calls f h in
    (Decides-eqb f.call.number n).0 (and_true (f.call.number == n) (is_open a f) p.1).0

-- ---- what lands now

landed_now : (w : World) (m n : ℕ) (a : Machine) (f c : Course) (e : Event) → machine_at w m ≡ Some a → flight_of a n ≡ Some f → c.call.number ≡ n
    → first_change e w ≡ land_whole m n w → LandsNow w e m c
landed_now w m n a f c e at flies number is =
    let there = flight_there w m n a f at flies in
    record {
      landing = landing_of w m f.call true (write_bytes w f.call);
      same = ap (λ (v : World). v.landings) is ∙ (ap (λ o. (option_map_or (λ (x : Course). change_machine m (change_call n (fated Landed)) (add_landing m x.call true (write_bytes w x.call) w)) o w).landings) there
          ∙ landed_with w m n Landed f.call true (write_bytes w f.call));
      writer = ap (λ k. Some (m, k)) (flight_number a n f flies ∙ sym number);
      whole = refl;
    }

land_is : (w : World) (m n : ℕ) (e : Event) → e ≡ Land m n → first_change e w ≡ land_whole m n w
unfolding first_change
land_is w m n e is = ap (λ x. first_change x w) is

complete_by : (w : World) (m n : ℕ) (f : Course) (o : Option Course) → o ≡ Some f → is_write_course f ≡ true → is_in_flight f.fate ≡ true
    → elim o as (λ x. World) [
      | None ↦ w
      | Some g ↦ elim (is_write_course g) as (λ x. World) [
        | false ↦ change_machine m (change_call n (sampled_more w (sectors_left g))) w
        | true ↦ elim (is_in_flight g.fate) as (λ x. World) [ true ↦ land_whole m n w | false ↦ w ]
      ]
    ] ≡ land_whole m n w
complete_by w m n f o is writes waits = rw is (rw writes (rw waits refl))

pub do_is : (w : World) (m n : ℕ) (a : Machine) (f : Course) (e : Event) → e ≡ Do m n → machine_at w m ≡ Some a → flight_of a n ≡ Some f → is_write_course f ≡ true
    → is_in_flight f.fate ≡ true → first_change e w ≡ land_whole m n w
unfolding first_change
do_is w m n a f e is at flies writes waits =
    ap (λ x. first_change x w) is ∙ complete_by w m n f (flight_at w m n) (flight_there w m n a f at flies) writes waits

-- ---- events

flies_too : (a : Machine) (x n : ℕ) (f : Course) → (x == n) ≡ true → flight_of a n ≡ Some f → flight_of a x ≡ Some f
flies_too a x n f same h = subst (λ k. flight_of a k ≡ Some f) (sym (eqb-true x n same)) h

turn_fated : (w : World) (e : Event) (m n : ℕ) (a : Machine) (f c : Course) (d : Course) → flight_of a n ≡ Some f → is_in_flight f.fate ≡ true
    → (c.call.number == n) ≡ true → d.call ≡ c.call → d.daemon ≡ c.daemon → d.made ≡ c.made → d.answered ≡ c.answered → d.done ≡ c.done
    → ((d.fate ≡ Landed) × LandsNow w e m c) ⊎ ((d.fate ≡ Torn) ⊎ ((d.fate ≡ Dropped) × (is_of_running a f ≡ false))) → Turn w e m a c d
turn_fated w e m n a f c d flies waits number call daemon made answered done fate =
    record {
      call = call;
      daemon = daemon;
      made = made;
      answered = answered;
      done = done;
      fate = inr (record { flight = f; flies = flies_too a c.call.number n f number flies; waits = waits; fate = fate });
    }

abbrev Turns : World → Event → ℕ → Machine → Machine → Type 0
Turns w e m a b = Turned (Turn w e m a) a b

turns_same : (w : World) (e : Event) (m : ℕ) (a b : Machine) → b.calls ≡ a.calls → Turns w e m a b
turns_same w e m a b same = turned_same (Turn w e m a) a b (turn_still w e m a) same

turns_sampled : (w : World) (e : Event) (m n k : ℕ) (a : Machine) → Turns w e m a (change_call n (sampled_more w k) a)
turns_sampled w e m n k a = turned_call (Turn w e m a) n (sampled_more w k) a (turn_still w e m a) (λ c h t. turn_sampled w e m a k c)

turns_landed : (w : World) (e : Event) (m n : ℕ) (a : Machine) (f : Course) → machine_at w m ≡ Some a → flight_of a n ≡ Some f → is_in_flight f.fate ≡ true
    → first_change e w ≡ land_whole m n w → Turns w e m a (change_call n (fated Landed) a)
turns_landed w e m n a f at flies waits is =
    turned_call (Turn w e m a) n (fated Landed) a (turn_still w e m a)
    (λ c h t. turn_fated w e m n a f c (fated Landed c) flies waits t refl refl refl refl refl
    (inl (refl, landed_now w m n a f c e at flies (eqb-true c.call.number n t) is)))

turns_torn : (w : World) (e : Event) (m n : ℕ) (a : Machine) (f : Course) → flight_of a n ≡ Some f → is_in_flight f.fate ≡ true
    → Turns w e m a (change_call n (fated Torn) a)
turns_torn w e m n a f flies waits =
    turned_call (Turn w e m a) n (fated Torn) a (turn_still w e m a)
    (λ c h t. turn_fated w e m n a f c (fated Torn c) flies waits t refl refl refl refl refl (inr (inl refl)))

turns_dropped : (w : World) (e : Event) (m n : ℕ) (a : Machine) (f : Course) → flight_of a n ≡ Some f → is_in_flight f.fate ≡ true
    → is_of_running a f ≡ false → Turns w e m a (change_call n (fated Dropped) a)
turns_dropped w e m n a f flies waits ended =
    turned_call (Turn w e m a) n (fated Dropped) a (turn_still w e m a)
    (λ c h t. turn_fated w e m n a f c (fated Dropped c) flies waits t refl refl refl refl refl (inr (inr (refl, ended))))

asked : (w : World) (e : Event) → may_happen w e ≡ true → Asked (Turns w e) w e
asked w e may =
    record {
      pass = λ d growths is m a h. turns_same w e m a _ refl;
      sample = λ m c k is a h. turns_sampled w e m c k a;
      land = λ m c is a f h g t. turns_landed w e m c a f h g (lands w m c a f (subst (λ x. may_happen w x ≡ true) is may) h g) (land_is w m c e is);
      tear = λ m c k bytes is a f h g t. turns_torn w e m c a f g (tears w m c k bytes a f (subst (λ x. may_happen w x ≡ true) is may) h g);
      done_read = λ m c is a f h g t. turns_sampled w e m c (sectors_left f) a;
      done_write = λ m c is a f h g t.
          let p = and_true (is_write_course f) (is_in_flight f.fate) t in
          turns_landed w e m c a f h g p.1 (do_is w m c a f e is h g p.0 p.1);
      drop_write = λ m c is a h.
          let may' = subst (λ x. may_happen w x ≡ true) is may in
          let p = drops w m c a may' h in
          turns_dropped w e m c a p.0 p.1 p.2 (drop_ended w m c a p.0 may' h p.1);
      tested = λ m is a h. turns_same w e m a _ refl;
      start = λ m name is a h. turns_same w e m a _ refl;
      crash = λ m is a h. turns_same w e m a _ refl;
      reset = λ m is a h. turns_same w e m a _ refl;
      restart = λ m is a h. turns_same w e m a _ refl;
    }

-- What the event makes of each machine's calls.
pub first_turns : (w : World) (e : Event) → may_happen w e ≡ true → EachMachine (λ m a b. Turned (Turn w e m a) a b) w (first_change e w)
first_turns w e may = each_first (Turns w e) e w (λ none m a. turns_same w e m a a refl) (asked w e may)
