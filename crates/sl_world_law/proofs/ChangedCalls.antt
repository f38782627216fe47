-- A call changes: what a machine shows then.
use Rattle.sl_world_state.specs.Changes.{change_flight, dropped_flight, landed_flight, stays_open, torn_flight}
use Rattle.sl_world_state.specs.KeptWorld.{FlightState}
use Rattle.sl_world_state.specs.ShownWorlds.{flight_of_course, shown, write_in}
use Rattle.sl_world_law.proofs.ShownCalls.{dropped_first, kept_first, shows}
use Rattle.sl_words.proofs.Lists.{contains_first, contains_more}
use Rattle.sl_run.specs.EventChanges.{change_call, fated}
use Rattle.sl_run.specs.Worlds.{Course, Dropped, Landed, Machine, Torn, is_in_flight, is_of_running, is_open, is_write_course}
use Rattle.sl_run.specs.declared.header.Header.{Header}
use Rattle.sl_trace.specs.Traces.{is_write}
use Rattle.sl_trace.specs.declared.effects.Op.TheVariants.{ReadSectors, WriteRecord}
use Rattle.sl_trace.specs.declared.effects.Op.{Op}
use Rattle.sl_words.proofs.WordLaws.{and_true}
use Rattle.std.proofs.Common.{ap, ap₂, refl, sym, ◌∙◌}
use Rattle.std.specs.Prelude.{Bool, Contains, List, cond, false, filter, is_none, is_some, map, true, [], ℕ, ◌&&◌, ◌==◌, ◌∷◌, ◌≡◌, ◌||◌}

is_written : (h : Header) (op : Op) → is_some (write_in h op) ≡ is_write op
is_written h (ReadSectors n) = refl
is_written h (WriteRecord r) = refl

by_parts : (w n i o : Bool) → (n && (o || (w && n && i))) ≡ (n && (o || (w && i)))
by_parts true true i o = refl
by_parts false true i o = refl
by_parts w false i o = refl

-- A call is in flight where it has no answer, and what is kept of it stays.
pub open_is : (h : Header) (a : Machine) (x : Course) → is_open a x ≡ (is_none x.answered && stays_open (flight_of_course h a x))
open_is h a x =
    by_parts (is_write_course x) (is_none x.answered) (is_in_flight x.fate) (is_of_running a x)
    ∙ ap (λ b. is_none x.answered && (is_of_running a x || (b && is_in_flight x.fate))) (sym (is_written h x.call.op))

-- The calls of this number, changed.
abbrev changed : ℕ → (Course → Course) → Course → Course
changed n g x = elim (x.call.number == n) [ true ↦ g x | false ↦ x ]

abbrev changed_flight : ℕ → (FlightState → FlightState) → FlightState → FlightState
changed_flight n g f = elim (f.number == n) [ true ↦ g f | false ↦ f ]

-- How they change.
pub record Changes (h : Header) (a : Machine) (n : ℕ) (g : Course → Course) (q : FlightState → FlightState) (cs : List Course) : Type 0 where
  pub answered : (x : Course) → is_none (g x).answered ≡ is_none x.answered
  pub same : (x : Course) → Contains cs x → (x.call.number == n) ≡ true → is_open a x ≡ true → flight_of_course h a (g x) ≡ q (flight_of_course h a x)
  pub gone : (x : Course) → stays_open (flight_of_course h a x) ≡ false → stays_open (flight_of_course h a (g x)) ≡ false

map_cond : {A B : Type 0} (f : A → B) (b : Bool) (x : A) (xs : List A) → map f (cond b (x ∷ xs) xs) ≡ cond b (f x ∷ map f xs) (map f xs)
map_cond f true x xs = refl
map_cond f false x xs = refl

closed_still : (n s z : Bool) → (n && s) ≡ false → (s ≡ false → z ≡ false) → (n && z) ≡ false
closed_still true s z h then = then h
closed_still false s z h then = refl

-- One call: whether it is changed, and whether it was in flight.
one_changed : (h : Header) (a : Machine) (n : ℕ) (g : Course → Course) (q : FlightState → FlightState) (x : Course) (cs ds : List Course) → Changes h a n g q (x ∷ cs)
    → shows h a ds ≡ filter stays_open (map (changed_flight n q) (shows h a cs)) → (b o : Bool) → (x.call.number == n) ≡ b → is_open a x ≡ o
    → shows h a (changed n g x ∷ ds) ≡ filter stays_open (map (changed_flight n q) (shows h a (x ∷ cs)))
one_changed h a n g q x cs ds is rest true true num still =
    ap (λ z. shows h a ((elim z as (λ y. Course) [ true ↦ g x | false ↦ x ]) ∷ ds)) num
    ∙ map_cond (flight_of_course h a) (is_open a (g x)) (g x) (filter (is_open a) ds)
    ∙ ap (λ z. cond z (flight_of_course h a (g x) ∷ shows h a ds) (shows h a ds))
    (open_is h a (g x) ∙ ap (λ z. z && stays_open (flight_of_course h a (g x)))
    (is.answered x ∙ (and_true (is_none x.answered) (stays_open (flight_of_course h a x)) (sym (open_is h a x) ∙ still)).0))
    ∙ ap₂ (λ y ys. cond (stays_open y) (y ∷ ys) ys) (is.same x (contains_first x cs) num still) rest
    ∙ sym (ap (λ ys. filter stays_open (map (changed_flight n q) ys)) (kept_first (flight_of_course h a) (is_open a) x cs still)
    ∙ ap (λ z. filter stays_open ((elim z as (λ y. FlightState) [ true ↦ q (flight_of_course h a x) | false ↦ flight_of_course h a x ])
    ∷ map (changed_flight n q) (shows h a cs))) num)
one_changed h a n g q x cs ds is rest false true num still =
    ap (λ z. shows h a ((elim z as (λ y. Course) [ true ↦ g x | false ↦ x ]) ∷ ds)) num
    ∙ kept_first (flight_of_course h a) (is_open a) x ds still ∙ ap (λ ys. flight_of_course h a x ∷ ys) rest
    ∙ sym (ap (λ z. cond z (flight_of_course h a x ∷ filter stays_open (map (changed_flight n q) (shows h a cs))) (filter stays_open (map (changed_flight n q) (shows h a cs))))
    (and_true (is_none x.answered) (stays_open (flight_of_course h a x)) (sym (open_is h a x) ∙ still)).1)
    ∙ sym (ap (λ ys. filter stays_open (map (changed_flight n q) ys)) (kept_first (flight_of_course h a) (is_open a) x cs still)
    ∙ ap (λ z. filter stays_open ((elim z as (λ y. FlightState) [ true ↦ q (flight_of_course h a x) | false ↦ flight_of_course h a x ])
    ∷ map (changed_flight n q) (shows h a cs))) num)
one_changed h a n g q x cs ds is rest true false num still =
    ap (λ z. shows h a ((elim z as (λ y. Course) [ true ↦ g x | false ↦ x ]) ∷ ds)) num
    ∙ dropped_first (flight_of_course h a) (is_open a) (g x) ds
    (open_is h a (g x) ∙ ap (λ z. z && stays_open (flight_of_course h a (g x))) (is.answered x)
    ∙ closed_still (is_none x.answered) (stays_open (flight_of_course h a x)) (stays_open (flight_of_course h a (g x))) (sym (open_is h a x) ∙ still) (is.gone x))
    ∙ rest ∙ sym (ap (λ ys. filter stays_open (map (changed_flight n q) ys)) (dropped_first (flight_of_course h a) (is_open a) x cs still))
one_changed h a n g q x cs ds is rest false false num still =
    ap (λ z. shows h a ((elim z as (λ y. Course) [ true ↦ g x | false ↦ x ]) ∷ ds)) num
    ∙ dropped_first (flight_of_course h a) (is_open a) x ds still ∙ rest
    ∙ sym (ap (λ ys. filter stays_open (map (changed_flight n q) ys)) (dropped_first (flight_of_course h a) (is_open a) x cs still))

changes : (h : Header) (a : Machine) (n : ℕ) (g : Course → Course) (q : FlightState → FlightState) (cs : List Course) → Changes h a n g q cs
    → shows h a (map (changed n g) cs) ≡ filter stays_open (map (changed_flight n q) (shows h a cs))
changes h a n g q [] is = refl
changes h a n g q (x ∷ cs) is =
    one_changed h a n g q x cs (map (changed n g) cs) is
    (changes h a n g q cs (record { answered = is.answered; same = λ y there. is.same y (contains_more x cs y there); gone = is.gone }))
    (x.call.number == n) (is_open a x) refl refl

-- What a machine shows then.
pub shows_changed : (h : Header) (a : Machine) (n : ℕ) (g : Course → Course) (q : FlightState → FlightState) → Changes h a n g q a.calls
    → shown h (change_call n g a) ≡ change_flight n q (shown h a)
unfolding shown
shows_changed h a n g q is = ap (λ fs. record (shown h a) { flights = fs }) (changes h a n g q a.calls is)

-- ---- fates

gone_fate : (o w i : Bool) → (o || (w && i)) ≡ false → (o || (w && false)) ≡ false
gone_fate true w i h = h
gone_fate false true i h = refl
gone_fate false false i h = refl

pub drops : (h : Header) (a : Machine) (n : ℕ) → Changes h a n (fated Dropped) dropped_flight a.calls
drops h a n = record { answered = λ x. refl; same = λ x there num still. refl; gone = λ x over. gone_fate (is_of_running a x) (is_some (write_in h x.call.op)) (is_in_flight x.fate) over }

pub lands_whole : (h : Header) (a : Machine) (n : ℕ) → Changes h a n (fated Landed) landed_flight a.calls
lands_whole h a n = record { answered = λ x. refl; same = λ x there num still. refl; gone = λ x over. gone_fate (is_of_running a x) (is_some (write_in h x.call.op)) (is_in_flight x.fate) over }

pub lands_torn : (h : Header) (a : Machine) (n : ℕ) → Changes h a n (fated Torn) torn_flight a.calls
lands_torn h a n = record { answered = λ x. refl; same = λ x there num still. refl; gone = λ x over. gone_fate (is_of_running a x) (is_some (write_in h x.call.op)) (is_in_flight x.fate) over }
