-- What a machine shows of calls: those that a step makes, and the one that it answers.
use Rattle.sl_world_state.specs.KeptWorld.{FlightState}
use Rattle.sl_world_state.specs.ShownWorlds.{flight_of_course, place_in, write_in}
use Rattle.sl_world_state.specs.Steps.{new_flight}
use Rattle.sl_words.proofs.Lists.{contains_first, contains_more}
use Rattle.sl_words.proofs.Numbers.{number_itself}
use Rattle.sl_run.specs.EventChanges.{new_course}
use Rattle.sl_run.specs.Refusals.{sectors_of}
use Rattle.sl_run.specs.Worlds.{Course, Daemon, Machine, Stamp, is_in_flight, is_landed, is_of_running, is_open, is_torn_fate, may_land}
use Rattle.sl_run.specs.declared.header.Header.{Header}
use Rattle.sl_trace.specs.declared.effects.Call.{Call}
use Rattle.sl_words.specs.Words.{least, some_is}
use Rattle.std.proofs.Common.{ap, ap₂, refl, sym, ◌∙◌}
use Rattle.std.specs.Prelude.{Bool, Contains, List, None, Option, Some, cond, false, filter, fold, is_none, length, map, nat_lt, not, true, [], ℕ, ◌&&◌, ◌==◌, ◌∷◌, ◌≡◌, ◌||◌}

-- What a machine shows of these calls.
abbrev pub shows : Header → Machine → List Course → List FlightState
shows h a cs = map (flight_of_course h a) (filter (is_open a) cs)

-- A call by the machine's resets, and whether the daemon that runs made it.
abbrev pub flight_by : Header → List Stamp → Bool → Course → FlightState
flight_by h rs own c =
    record {
      number = c.call.number;
      place = place_in h c.call;
      sectors = sectors_of c.call.op;
      write = write_in h c.call.op;
      sampled = c.sampled;
      samples = length c.samples;
      flying = is_in_flight c.fate;
      landed = is_landed c.fate;
      torn = is_torn_fate c.fate;
      own = own;
      cut = least (map (λ (r : Stamp). r.moment) (filter (λ (r : Stamp). nat_lt c.made.step r.step) rs));
    }

-- Whether a daemon of this place runs.
abbrev pub runs_at : Option Daemon → Course → Bool
runs_at o c = some_is (λ (d : Daemon). d.number == c.daemon) o

-- The calls by the machine's resets and its daemon alone.
abbrev pub shows_by : Header → List Stamp → Option Daemon → List Course → List FlightState
shows_by h rs o cs = map (λ (c : Course). flight_by h rs (runs_at o c) c) (filter (λ (c : Course). is_none c.answered && (runs_at o c || may_land c)) cs)

-- Two machines with the same resets, on which daemons of the same place run, show the same.
pub same_shows : (h : Header) (a b : Machine) (d x : Daemon) → a.daemon ≡ Some d → b.daemon ≡ Some x → x.number ≡ d.number → b.resets ≡ a.resets → (cs : List Course)
    → shows h b cs ≡ shows h a cs
same_shows h a b d x runs next same resets cs =
    ap₂ (λ rs o. shows_by h rs o cs) resets next ∙ ap (λ n. by_number n) same ∙ sym (ap (λ o. shows_by h a.resets o cs) runs)
  where
    by_number : ℕ → List FlightState
    by_number n = shows_by h a.resets (Some (record d { number = n })) cs

pub kept_first : {A B : Type 0} (f : A → B) (p : A → Bool) (x : A) (xs : List A) → p x ≡ true → map f (filter p (x ∷ xs)) ≡ f x ∷ map f (filter p xs)
kept_first f p x xs is = ap (λ b. map f (cond b (x ∷ filter p xs) (filter p xs))) is

pub dropped_first : {A B : Type 0} (f : A → B) (p : A → Bool) (x : A) (xs : List A) → p x ≡ false → map f (filter p (x ∷ xs)) ≡ map f (filter p xs)
dropped_first f p x xs is = ap (λ b. map f (cond b (x ∷ filter p xs) (filter p xs))) is

map_cond : {A B : Type 0} (f : A → B) (b : Bool) (x : A) (xs : List A) → map f (cond b (x ∷ xs) xs) ≡ cond b (f x ∷ map f xs) (map f xs)
map_cond f true x xs = refl
map_cond f false x xs = refl

abbrev first_by : Header → List Stamp → Course → Bool → List FlightState → List FlightState
first_by h rs c own fs = cond (is_none c.answered && (own || may_land c)) (flight_by h rs own c ∷ fs) fs

first_shows : (h : Header) (rs : List Stamp) (o : Option Daemon) (c : Course) (cs : List Course) → shows_by h rs o (c ∷ cs) ≡ first_by h rs c (runs_at o c) (shows_by h rs o cs)
first_shows h rs o c cs =
    map_cond (λ (x : Course). flight_by h rs (runs_at o x) x) (is_none c.answered && (runs_at o c || may_land c)) c
    (filter (λ (x : Course). is_none x.answered && (runs_at o x || may_land x)) cs)

-- A daemon that made none of the calls changes nothing.
pub not_own : (h : Header) (rs : List Stamp) (d : Daemon) (cs : List Course) → ((c : Course) → Contains cs c → (d.number == c.daemon) ≡ false)
    → shows_by h rs (Some d) cs ≡ shows_by h rs None cs
not_own h rs d [] other = refl
not_own h rs d (c ∷ cs) other =
    first_shows h rs (Some d) c cs
    ∙ ap₂ (λ own fs. first_by h rs c own fs) (other c (contains_first c cs)) (not_own h rs d cs (λ x there. other x (contains_more c cs x there)))
    ∙ sym (first_shows h rs None c cs)

-- ---- calls that are made

none_since : (step : ℕ) (rs : List Stamp) → ((r : Stamp) → Contains rs r → nat_lt step r.step ≡ false) → filter (λ (r : Stamp). nat_lt step r.step) rs ≡ []
none_since step [] none = refl
none_since step (r ∷ rs) none =
    ap (λ b. cond b (r ∷ filter (λ (x : Stamp). nat_lt step x.step) rs) (filter (λ (x : Stamp). nat_lt step x.step) rs)) (none r (contains_first r rs))
    ∙ none_since step rs (λ x there. none x (contains_more r rs x there))

one_made : (h : Header) (now : Stamp) (a : Machine) (d : Daemon) (c : Call) (cs : List Course) → a.daemon ≡ Some d
    → ((r : Stamp) → Contains a.resets r → nat_lt now.step r.step ≡ false) → shows h a (new_course now d.number c ∷ cs) ≡ new_flight h c ∷ shows h a cs
one_made h now a d c cs runs none =
    let own : is_of_running a (new_course now d.number c) ≡ true = ap (λ (o : Option Daemon). some_is (λ (x : Daemon). x.number == d.number) o) runs ∙ number_itself d.number in
    kept_first (flight_of_course h a) (is_open a) (new_course now d.number c) cs (ap (λ b. b || may_land (new_course now d.number c)) own)
    ∙ ap₂ (λ b rs. record (new_flight h c) { own = b; cut = least (map (λ (r : Stamp). r.moment) rs) } ∷ shows h a cs) own (none_since now.step a.resets none)

-- What a step makes stands in front of what was in flight.
pub made : (h : Header) (now : Stamp) (a : Machine) (d : Daemon) → a.daemon ≡ Some d → ((r : Stamp) → Contains a.resets r → nat_lt now.step r.step ≡ false)
    → (xs : List Call) (cs : List Course)
    → shows h a (fold (λ ys c. new_course now d.number c ∷ ys) cs xs) ≡ fold (λ fs c. new_flight h c ∷ fs) (shows h a cs) xs
made h now a d runs none [] cs = refl
made h now a d runs none (x ∷ xs) cs =
    made h now a d runs none xs (new_course now d.number x ∷ cs) ∙ ap (λ fs. fold (λ gs c. new_flight h c ∷ gs) fs xs) (one_made h now a d x cs runs none)

-- ---- the call that is answered

abbrev pub answered_at : ℕ → Stamp → Bool → Course → Course
answered_at n now ok c = elim (c.call.number == n) [ true ↦ record c { answered = Some now; done = ok } | false ↦ c ]

and_none : (b : Bool) → (b && false) ≡ false
and_none true = refl
and_none false = refl

and_all : (b : Bool) → (b && true) ≡ b
and_all true = refl
and_all false = refl

closed_one : (h : Header) (a : Machine) (n : ℕ) (now : Stamp) (ok : Bool) (c : Course) (cs : List Course) (fs : List FlightState) (b o : Bool) → (c.call.number == n) ≡ b
    → is_open a c ≡ o → shows h a cs ≡ fs
    → shows h a (elim b as (λ x. Course) [ true ↦ record c { answered = Some now; done = ok } | false ↦ c ] ∷ cs) ≡ cond (not b && o) (flight_of_course h a c ∷ fs) fs
closed_one h a n now ok c cs fs true true num still rest = rest
closed_one h a n now ok c cs fs true false num still rest = rest
closed_one h a n now ok c cs fs false true num still rest = kept_first (flight_of_course h a) (is_open a) c cs still ∙ ap (λ ys. flight_of_course h a c ∷ ys) rest
closed_one h a n now ok c cs fs false false num still rest = dropped_first (flight_of_course h a) (is_open a) c cs still ∙ rest

other_one : (h : Header) (a : Machine) (n : ℕ) (c : Course) (cs : List Course) (b o : Bool) → (c.call.number == n) ≡ b → is_open a c ≡ o
    → cond (not b && o) (flight_of_course h a c ∷ filter (λ (f : FlightState). not (f.number == n)) (shows h a cs)) (filter (λ (f : FlightState). not (f.number == n)) (shows h a cs))
    ≡ filter (λ (f : FlightState). not (f.number == n)) (shows h a (c ∷ cs))
other_one h a n c cs b false num still =
    ap (λ e. cond e (flight_of_course h a c ∷ filter (λ (f : FlightState). not (f.number == n)) (shows h a cs)) (filter (λ (f : FlightState). not (f.number == n)) (shows h a cs))) (and_none (not b))
    ∙ sym (ap (filter (λ (f : FlightState). not (f.number == n))) (dropped_first (flight_of_course h a) (is_open a) c cs still))
other_one h a n c cs b true num still =
    ap (λ e. cond e (flight_of_course h a c ∷ filter (λ (f : FlightState). not (f.number == n)) (shows h a cs)) (filter (λ (f : FlightState). not (f.number == n)) (shows h a cs)))
    (and_all (not b) ∙ ap not (sym num))
    ∙ sym (ap (filter (λ (f : FlightState). not (f.number == n))) (kept_first (flight_of_course h a) (is_open a) c cs still))

-- The call that is answered is in flight no more, and no other changes.
pub closes : (h : Header) (a : Machine) (n : ℕ) (now : Stamp) (ok : Bool) (cs : List Course)
    → shows h a (map (answered_at n now ok) cs) ≡ filter (λ (f : FlightState). not (f.number == n)) (shows h a cs)
closes h a n now ok [] = refl
closes h a n now ok (c ∷ cs) =
    closed_one h a n now ok c (map (answered_at n now ok) cs) (filter (λ (f : FlightState). not (f.number == n)) (shows h a cs)) (c.call.number == n) (is_open a c) refl refl
    (closes h a n now ok cs)
    ∙ other_one h a n c cs (c.call.number == n) (is_open a c) refl refl
