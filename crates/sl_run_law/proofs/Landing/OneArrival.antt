-- What an event lands: nothing, or one write that was in flight.
use Rattle.sl_run_law.proofs.Landing.LandingGuards.{land_writes, shaped, tear_writes}
use Rattle.sl_words.proofs.Lists.{set_here}
use Rattle.sl_words.proofs.Options.{else_some}
use Rattle.sl_run.specs.EventChanges.{add_landing, after_crash, after_reset, after_restart, after_start, after_test, change_call, fated, first_change, flight_at, land_torn, land_whole, sampled_more, write_bytes}
use Rattle.sl_run.specs.Refusals.{may_happen, sectors_left}
use Rattle.sl_run.specs.Premises.{spells_something, torn_bytes}
use Rattle.sl_run.specs.Worlds.{Course, Dropped, Fate, Landed, Landing, Machine, Torn, World, change_machine, flight_of, is_in_flight, is_write_course, machine_at, sector_size}
use Rattle.sl_run.specs.declared.event.Event.TheVariants.{AnswerCall, Crash, Do, DropWrite, ExitOf, GiveAsk, GiveCommand, GiveLvm, Land, Pass, Reset, Restart, Sample, SpawnedOf, StartDaemon, Tear, Test, WakeUp}
use Rattle.sl_run.specs.declared.event.Event.{Event}
use Rattle.sl_run_law.proofs.Guards.{lands, tears}
use Rattle.sl_run_law.proofs.MachineWalk.{index}
use Rattle.sl_trace.specs.declared.effects.Call.{Call}
use Rattle.sl_words.proofs.CaseLaws.{none_some, some_value}
use Rattle.std.proofs.Common.{ap, arith, inl, inr, refl, subst, sym, tests, ◌∙◌}
use Rattle.std.specs.Option.{option_map_or}
use Rattle.std.specs.Prelude.{Bool, List, None, Option, Some, false, length, nat_le, option_and_then, slice_get, slice_set, true, ℕ, ◌+◌, ◌-◌, ◌==◌, ◌∷◌, ◌≡◌, ◌≤◌, ◌⊎◌}

-- ---- a machine that is changed

here_by : (m : ℕ) (f : Machine → Machine) (w : World) (a : Machine) (o : Option Machine) → machine_at w m ≡ Some a → o ≡ Some a
    → machine_at (elim o as (λ x. World) [ None ↦ w | Some b ↦ record w { machines = slice_set w.machines (m - 1) (f b) } ]) m ≡ Some (f a)
here_by m f w a None at is = absurd (none_some a is)
here_by m f w a (Some b) at is =
    let p = index w m a at in
    else_some (m == 0) (slice_get (slice_set w.machines (m - 1) (f b)) (m - 1)) (f a) p.0
    (set_here w.machines (m - 1) (f b) a p.1 ∙ ap (λ x. Some (f x)) (some_value b a is))

-- The machine that changes is there, changed.
pub changed_here : (m : ℕ) (f : Machine → Machine) (w : World) (a : Machine) → machine_at w m ≡ Some a → machine_at (change_machine m f w) m ≡ Some (f a)
changed_here m f w a at = here_by m f w a (machine_at w m) at at

landings_by : (m : ℕ) (f : Machine → Machine) (w : World) (o : Option Machine)
    → (elim o as (λ x. World) [ None ↦ w | Some b ↦ record w { machines = slice_set w.machines (m - 1) (f b) } ]).landings ≡ w.landings
landings_by m f w None = refl
landings_by m f w (Some b) = refl

-- A change of a machine lands nothing.
pub changed_landings : (m : ℕ) (f : Machine → Machine) (w : World) → (change_machine m f w).landings ≡ w.landings
changed_landings m f w = landings_by m f w (machine_at w m)

-- ---- what lands

-- The call landed whole.
pub record IsWhole (w v : World) (m n : ℕ) (a : Machine) (f : Course) (l : Landing) : Type 0 where
  pub whole : l.whole ≡ true
  pub bytes : l.bytes ≡ write_bytes w f.call
  pub after : machine_at v m ≡ Some (change_call n (fated Landed) a)

-- The call landed in part.
pub record IsPart (w v : World) (m n : ℕ) (a : Machine) (f : Course) (l : Landing) : Type 0 where
  pub front : ℕ
  pub middle : List ℕ
  pub whole : l.whole ≡ false
  pub bytes : l.bytes ≡ torn_bytes w f.call front middle
  pub nothing : spells_something w l.bytes ≡ false
  pub fits : front + length middle ≤ sector_size w
  pub after : machine_at v m ≡ Some (change_call n (fated Torn) a)

-- A write in flight that lands between two worlds.
pub record Arrival (w v : World) : Type 0 where
  pub landing : Landing
  pub same : v.landings ≡ landing ∷ w.landings
  pub machine : ℕ
  pub number : ℕ
  pub host : Machine
  pub flight : Course
  pub at : machine_at w machine ≡ Some host
  pub flies : flight_of host number ≡ Some flight
  pub waits : is_in_flight flight.fate ≡ true
  pub writes : is_write_course flight ≡ true
  pub place : (flight.call.path ≡ landing.path) × (flight.call.offset ≡ landing.offset)
  pub writer : landing.writer ≡ Some (machine, flight.call.number)
  pub now : (landing.step ≡ w.step) × (landing.moment ≡ w.moment)
  pub left : IsWhole w v machine number host flight landing ⊎ IsPart w v machine number host flight landing

abbrev pub Lands : World → World → Type 0
Lands w v = (v.landings ≡ w.landings) ⊎ Arrival w v

-- What a write leaves.
abbrev pub landing_of : World → ℕ → Call → Bool → List ℕ → Landing
landing_of w m c whole bytes =
    record { path = c.path; offset = c.offset; bytes = bytes; whole = whole; writer = Some (m, c.number); step = w.step; moment = w.moment }

pub flight_by : (w : World) (m c : ℕ) (f : Course) (o : Option Machine) → machine_at w m ≡ o → option_and_then (λ a. flight_of a c) o ≡ Some f
    → (a : Machine) × (machine_at w m ≡ Some a) × (flight_of a c ≡ Some f)
flight_by w m c f None is h = absurd (none_some f h)
flight_by w m c f (Some a) is h = (a, is, h)

-- The machine of a call in flight.
pub flies_on : (w : World) (m c : ℕ) (f : Course) → flight_at w m c ≡ Some f → (a : Machine) × (machine_at w m ≡ Some a) × (flight_of a c ≡ Some f)
flies_on w m c f h = flight_by w m c f (machine_at w m) refl h

pub flight_there : (w : World) (m c : ℕ) (a : Machine) (f : Course) → machine_at w m ≡ Some a → flight_of a c ≡ Some f → flight_at w m c ≡ Some f
flight_there w m c a f at flies = ap (λ (o : Option Machine). option_and_then (λ b. flight_of b c) o) at ∙ flies

pub landed_with : (w : World) (m c : ℕ) (fate : Fate) (f : Call) (whole : Bool) (bytes : List ℕ)
    → (change_machine m (change_call c (fated fate)) (add_landing m f whole bytes w)).landings ≡ landing_of w m f whole bytes ∷ w.landings
landed_with w m c fate f whole bytes = changed_landings m (change_call c (fated fate)) (add_landing m f whole bytes w)

pub whole_arrives : (w : World) (m c : ℕ) (a : Machine) (f : Course) → machine_at w m ≡ Some a → flight_of a c ≡ Some f → is_in_flight f.fate ≡ true
    → is_write_course f ≡ true → Arrival w (land_whole m c w)
whole_arrives w m c a f at flies waits writes =
    subst (λ o. Arrival w (option_map_or (λ (x : Course). change_machine m (change_call c (fated Landed)) (add_landing m x.call true (write_bytes w x.call) w)) o w))
    (sym (flight_there w m c a f at flies)) (record {
      landing = landing_of w m f.call true (write_bytes w f.call);
      same = landed_with w m c Landed f.call true (write_bytes w f.call);
      machine = m;
      number = c;
      host = a;
      flight = f;
      at = at;
      flies = flies;
      waits = waits;
      writes = writes;
      place = (refl, refl);
      writer = refl;
      now = (refl, refl);
      left = inl (record {
        whole = refl;
        bytes = refl;
        after = changed_here m (change_call c (fated Landed)) (add_landing m f.call true (write_bytes w f.call) w) a at;
      });
    })

within : (k n size : ℕ) → nat_le (k + n) size ≡ true → k + n ≤ size
within k n size h = grind (arith, tests)

part_arrives : (w : World) (m c k : ℕ) (bytes : List ℕ) (a : Machine) (f : Course) → machine_at w m ≡ Some a → flight_of a c ≡ Some f → is_in_flight f.fate ≡ true
    → (is_write_course f ≡ true) × (spells_something w (torn_bytes w f.call k bytes) ≡ false) → nat_le (k + length bytes) (sector_size w) ≡ true
    → Arrival w (land_torn m c k bytes w)
part_arrives w m c k bytes a f at flies waits writes shape =
    subst (λ o. Arrival w (option_map_or (λ (x : Course). change_machine m (change_call c (fated Torn)) (add_landing m x.call false (torn_bytes w x.call k bytes) w)) o w))
    (sym (flight_there w m c a f at flies)) (record {
      landing = landing_of w m f.call false (torn_bytes w f.call k bytes);
      same = landed_with w m c Torn f.call false (torn_bytes w f.call k bytes);
      machine = m;
      number = c;
      host = a;
      flight = f;
      at = at;
      flies = flies;
      waits = waits;
      writes = writes.0;
      place = (refl, refl);
      writer = refl;
      now = (refl, refl);
      left = inr (record {
        front = k;
        middle = bytes;
        whole = refl;
        bytes = refl;
        nothing = writes.1;
        fits = within k (length bytes) (sector_size w) shape;
        after = changed_here m (change_call c (fated Torn)) (add_landing m f.call false (torn_bytes w f.call k bytes) w) a at;
      });
    })

-- ---- events

land_lands : (w : World) (m c : ℕ) (o : Option Course) → flight_at w m c ≡ o → may_happen w (Land m c) ≡ true → Lands w (land_whole m c w)
land_lands w m c None is may =
    inl (ap (λ o. (option_map_or (λ (x : Course). change_machine m (change_call c (fated Landed)) (add_landing m x.call true (write_bytes w x.call) w)) o w).landings) is)
land_lands w m c (Some f) is may =
    let on = flies_on w m c f is in
    inr (whole_arrives w m c on.0 f on.1 on.2 (lands w m c on.0 f may on.1 on.2) (land_writes w m c on.0 f may on.1 on.2))

tear_lands : (w : World) (m c k : ℕ) (bytes : List ℕ) (o : Option Course) → flight_at w m c ≡ o → may_happen w (Tear m c k bytes) ≡ true
    → Lands w (land_torn m c k bytes w)
tear_lands w m c k bytes None is may =
    inl (ap (λ o. (option_map_or (λ (x : Course). change_machine m (change_call c (fated Torn)) (add_landing m x.call false (torn_bytes w x.call k bytes) w)) o w).landings) is)
tear_lands w m c k bytes (Some f) is may =
    let on = flies_on w m c f is in
    inr (part_arrives w m c k bytes on.0 f on.1 on.2 (tears w m c k bytes on.0 f may on.1 on.2) (tear_writes w m c k bytes on.0 f may on.1 on.2)
    (shaped w (Tear m c k bytes) may))

flying_lands : (w : World) (m c : ℕ) (f : Course) (t : Bool) → flight_at w m c ≡ Some f → is_write_course f ≡ true → is_in_flight f.fate ≡ t
    → Lands w (elim t as (λ x. World) [ true ↦ land_whole m c w | false ↦ w ])
flying_lands w m c f false is writes flies = inl refl
flying_lands w m c f true is writes flies = let on = flies_on w m c f is in inr (whole_arrives w m c on.0 f on.1 on.2 flies writes)

write_lands : (w : World) (m c : ℕ) (f : Course) (t : Bool) → flight_at w m c ≡ Some f → is_write_course f ≡ t
    → Lands w (elim t as (λ x. World) [
      | false ↦ change_machine m (change_call c (sampled_more w (sectors_left f))) w
      | true ↦ elim (is_in_flight f.fate) as (λ x. World) [ true ↦ land_whole m c w | false ↦ w ]
    ])
write_lands w m c f false is writes = inl (changed_landings m (change_call c (sampled_more w (sectors_left f))) w)
write_lands w m c f true is writes = flying_lands w m c f (is_in_flight f.fate) is writes refl

do_lands : (w : World) (m c : ℕ) (o : Option Course) → flight_at w m c ≡ o
    → Lands w (elim o as (λ x. World) [
      | None ↦ w
      | Some f ↦ elim (is_write_course f) as (λ x. World) [
        | false ↦ change_machine m (change_call c (sampled_more w (sectors_left f))) w
        | true ↦ elim (is_in_flight f.fate) as (λ x. World) [ true ↦ land_whole m c w | false ↦ w ]
      ]
    ])
do_lands w m c None is = inl refl
do_lands w m c (Some f) is = write_lands w m c f (is_write_course f) is refl

pub first_lands : (e : Event) (w : World) → may_happen w e ≡ true → Lands w (first_change e w)
unfolding first_change
first_lands (Pass d growths) w may = inl refl
first_lands (WakeUp m) w may = inl refl
first_lands (GiveCommand m text) w may = inl refl
first_lands (GiveLvm m line) w may = inl refl
first_lands (GiveAsk m) w may = inl refl
first_lands (Sample m c k) w may = inl (changed_landings m (change_call c (sampled_more w k)) w)
first_lands (Land m c) w may = land_lands w m c (flight_at w m c) refl may
first_lands (Tear m c k bytes) w may = tear_lands w m c k bytes (flight_at w m c) refl may
first_lands (AnswerCall m c ok) w may = inl refl
first_lands (Do m c) w may = do_lands w m c (flight_at w m c) refl
first_lands (DropWrite m c) w may = inl (changed_landings m (change_call c (fated Dropped)) w)
first_lands (Test m) w may = inl (changed_landings m (after_test w) w)
first_lands (ExitOf m p) w may = inl refl
first_lands (SpawnedOf m p ok) w may = inl refl
first_lands (StartDaemon m name) w may = inl (changed_landings m (after_start w m name) w)
first_lands (Crash m) w may = inl (changed_landings m after_crash w)
first_lands (Reset m) w may = inl (changed_landings m (after_reset w) w)
first_lands (Restart m) w may = inl (changed_landings m (after_restart w) w)
