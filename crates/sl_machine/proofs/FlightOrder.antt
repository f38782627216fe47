-- The order of calls: which are ended, and when they were cut. It stays as calls change and go, and the oldest call tells of all.
use Rattle.sl_world_state.specs.Changes.{disowned}
use Rattle.sl_world_state.specs.KeptWorld.{FlightState}
use Rattle.sl_machine.proofs.FlightLaws.{Falls, falls_at}
use Rattle.sl_machine.specs.Flights.{ended_number, in_order, is_older, late_cut, late_of, no_later, numbered, oldest}
use Rattle.sl_words.proofs.CaseLaws.{false_is_true, none_some, some_value}
use Rattle.sl_words.proofs.WordLaws.{and_true}
use Rattle.sl_words.specs.Words.{least}
use Rattle.std.proofs.Common.{ap, ap₂, arith, get_or, refl, subst, sym, ◌∙◌}
use Rattle.std.proofs.lemmas.Bool.Decides.{nat_tests}
use Rattle.std.proofs.lemmas.Option.{slice_get-get_or}
use Rattle.std.specs.List.{cons_option, list_all, remove, slice_set}
use Rattle.std.specs.Prelude.{Bool, List, None, Option, Some, drop, false, filter, filter_map, length, map, min, not, option_and_then, slice_get, suc, true, zero, [], ℕ, ◌&&◌, ◌-◌, ◌<◌, ◌∷◌, ◌≡◌, ◌||◌}

-- ---- tests of all elements

pub all_at : {A : Type 0} (p : A → Bool) (xs : List A) (i : ℕ) (a : A) → list_all p xs ≡ true → slice_get xs i ≡ Some a → p a ≡ true
all_at p [] i a h at = absurd (none_some a at)
all_at p (x ∷ xs) zero a h at = subst (λ y. p y ≡ true) (some_value x a at) (and_true (p x) (list_all p xs) h).0
all_at p (x ∷ xs) (suc i) a h at = all_at p xs i a (and_true (p x) (list_all p xs) h).1 at

pub all_set : {A : Type 0} (p : A → Bool) (xs : List A) (i : ℕ) (a : A) → list_all p xs ≡ true → p a ≡ true → list_all p (slice_set xs i a) ≡ true
all_set p [] i a h k = h
all_set p (x ∷ xs) zero a h k = let both = and_true (p x) (list_all p xs) h in rw k both.1
all_set p (x ∷ xs) (suc i) a h k = let both = and_true (p x) (list_all p xs) h in rw both.0 (all_set p xs i a both.1 k)

pub all_removed : {A : Type 0} (p : A → Bool) (xs : List A) (i : ℕ) (a : A) → list_all p xs ≡ true → slice_get xs i ≡ Some a → list_all p (remove xs i) ≡ true
all_removed p [] i a h at = absurd (none_some a at)
all_removed p (x ∷ xs) zero a h at = (and_true (p x) (list_all p xs) h).1
all_removed p (x ∷ xs) (suc i) a h at = let both = and_true (p x) (list_all p xs) h in rw both.0 (all_removed p xs i a both.1 at)

all_filtered_by : {A : Type 0} (p q : A → Bool) (x : A) (xs : List A) (o : Bool) → q x ≡ o → p x ≡ true → list_all p (filter q xs) ≡ true → list_all p (filter q (x ∷ xs)) ≡ true
all_filtered_by p q x xs true o k rest = rw (o, k) rest
all_filtered_by p q x xs false o k rest = rw o rest

all_filtered : {A : Type 0} (p q : A → Bool) (xs : List A) → list_all p xs ≡ true → list_all p (filter q xs) ≡ true
all_filtered p q [] h = refl
all_filtered p q (x ∷ xs) h = let both = and_true (p x) (list_all p xs) h in all_filtered_by p q x xs (q x) refl both.0 (all_filtered p q xs both.1)

all_mapped : {A : Type 0} (p q : A → Bool) (g : A → A) (xs : List A) → ((x : A) → p x ≡ true → q (g x) ≡ true) → list_all p xs ≡ true → list_all q (map g xs) ≡ true
all_mapped p q g [] keeps h = refl
all_mapped p q g (x ∷ xs) keeps h = let both = and_true (p x) (list_all p xs) h in rw (keeps x both.0) (all_mapped p q g xs keeps both.1)

-- ---- order stays

-- Whether the call is as old as one with such marks should see it, and one with such marks as old as the call should see it.
abbrev older_than : Bool → Option ℕ → FlightState → Bool
older_than own cut g = (own || not g.own) && no_later (late_cut g) cut

abbrev newer_than : Bool → Option ℕ → FlightState → Bool
newer_than own cut g = (g.own || not own) && no_later cut (late_cut g)

pub order_set : (i : ℕ) (fs : List FlightState) (f h : FlightState) → in_order fs ≡ true → slice_get fs i ≡ Some f → h.own ≡ f.own → late_cut h ≡ late_cut f
    → in_order (slice_set fs i h) ≡ true
order_set i [] f h is at own cut = is
order_set zero (x ∷ xs) f h is at own cut =
    let both = and_true (list_all (is_older x) xs) (in_order xs) is in
    let e : x ≡ f = some_value x f at in
    let first : list_all (older_than f.own (late_cut f)) xs ≡ true = subst (λ (y : FlightState). list_all (is_older y) xs ≡ true) e both.0 in
    let owned : list_all (older_than h.own (late_cut f)) xs ≡ true = subst (λ o. list_all (older_than o (late_cut f)) xs ≡ true) (sym own) first in
    let now : list_all (is_older h) xs ≡ true = subst (λ c. list_all (older_than h.own c) xs ≡ true) (sym cut) owned in
    rw now both.1
order_set (suc i) (x ∷ xs) f h is at own cut =
    let both = and_true (list_all (is_older x) xs) (in_order xs) is in
    let first : newer_than f.own (late_cut f) x ≡ true = all_at (is_older x) xs i f both.0 at in
    let owned : newer_than h.own (late_cut f) x ≡ true = subst (λ o. newer_than o (late_cut f) x ≡ true) (sym own) first in
    let now : is_older x h ≡ true = subst (λ c. newer_than h.own c x ≡ true) (sym cut) owned in
    rw (all_set (is_older x) xs i h both.0 now) (order_set i xs f h both.1 at own cut)

pub order_removed : (i : ℕ) (fs : List FlightState) (f : FlightState) → in_order fs ≡ true → slice_get fs i ≡ Some f → in_order (remove fs i) ≡ true
order_removed i [] f is at = absurd (none_some f at)
order_removed zero (x ∷ xs) f is at = (and_true (list_all (is_older x) xs) (in_order xs) is).1
order_removed (suc i) (x ∷ xs) f is at =
    let both = and_true (list_all (is_older x) xs) (in_order xs) is in rw (all_removed (is_older x) xs i f both.0 at) (order_removed i xs f both.1 at)

order_filtered_by : (p : FlightState → Bool) (f : FlightState) (fs : List FlightState) (o : Bool) → p f ≡ o → list_all (is_older f) (filter p fs) ≡ true
    → in_order (filter p fs) ≡ true → in_order (filter p (f ∷ fs)) ≡ true
order_filtered_by p f fs true o first rest = rw (o, first) rest
order_filtered_by p f fs false o first rest = rw o rest

order_filtered : (p : FlightState → Bool) (fs : List FlightState) → in_order fs ≡ true → in_order (filter p fs) ≡ true
order_filtered p [] is = refl
order_filtered p (f ∷ fs) is =
    let both = and_true (list_all (is_older f) fs) (in_order fs) is in order_filtered_by p f fs (p f) refl (all_filtered (is_older f) p fs both.0) (order_filtered p fs both.1)

order_disowned : (fs : List FlightState) → in_order fs ≡ true → in_order (map disowned fs) ≡ true
order_disowned [] is = refl
order_disowned (f ∷ fs) is =
    let both = and_true (list_all (is_older f) fs) (in_order fs) is in
    rw (all_mapped (is_older f) (is_older (disowned f)) disowned fs (λ x h. (and_true (f.own || not x.own) (no_later (late_cut x) (late_cut f)) h).1) both.0)
    (order_disowned fs both.1)

-- The writes of a daemon that ends.
pub order_kept : (p : FlightState → Bool) (fs : List FlightState) → in_order fs ≡ true → in_order (map disowned (filter p fs)) ≡ true
order_kept p fs is = order_disowned (filter p fs) (order_filtered p fs is)

-- One more, of the daemon that runs.
pub order_pushed : (f : FlightState) (fs : List FlightState) → f.own ≡ true → late_cut f ≡ None → in_order fs ≡ true → in_order (f ∷ fs) ≡ true
order_pushed f fs own cut is = rw (all_older f fs own cut) is
  where
    all_older : (f : FlightState) (fs : List FlightState) → f.own ≡ true → late_cut f ≡ None → list_all (is_older f) fs ≡ true
    all_older f [] own cut = refl
    all_older f (g ∷ gs) own cut = rw (own, cut) (all_older f gs own cut)

-- ---- the order of neighbours

later_on : (a b c : Option ℕ) → no_later b a ≡ true → no_later c b ≡ true → no_later c a ≡ true
later_on None b c h k = refl
later_on (Some x) None c h k = absurd (false_is_true h)
later_on (Some x) (Some y) None h k = absurd (false_is_true k)
later_on (Some x) (Some y) (Some z) h k = grind (arith, nat_tests, h, k)

owned_on : (a b c : Bool) → (a || not b) ≡ true → (b || not c) ≡ true → (a || not c) ≡ true
owned_on true b c h k = refl
owned_on false true c h k = absurd (false_is_true h)
owned_on false false c h k = k

older_on : (f g h : FlightState) → is_older f g ≡ true → is_older g h ≡ true → is_older f h ≡ true
older_on f g h first next =
    let a = and_true (f.own || not g.own) (no_later (late_cut g) (late_cut f)) first in
    let b = and_true (g.own || not h.own) (no_later (late_cut h) (late_cut g)) next in
    rw (owned_on f.own g.own h.own a.0 b.0) (later_on (late_cut f) (late_cut g) (late_cut h) a.1 b.1)

all_on : (f g : FlightState) (gs : List FlightState) → is_older f g ≡ true → list_all (is_older g) gs ≡ true → list_all (is_older f) gs ≡ true
all_on f g [] first rest = refl
all_on f g (h ∷ hs) first rest =
    let both = and_true (is_older g h) (list_all (is_older g) hs) rest in rw (older_on f g h first both.0) (all_on f g hs first both.1)

-- Where those behind a call are in order, it is enough that the call and the one behind it are.
pub order_more : (f g : FlightState) (gs : List FlightState) → in_order (f ∷ g ∷ gs) ≡ (is_older f g && in_order (g ∷ gs))
order_more f g gs = by (is_older f g) (in_order (g ∷ gs)) refl refl
  where
    by : (a b : Bool) → is_older f g ≡ a → in_order (g ∷ gs) ≡ b → in_order (f ∷ g ∷ gs) ≡ (is_older f g && in_order (g ∷ gs))
    by false b first rest = rw first refl
    by true true first rest =
        let both = and_true (list_all (is_older g) gs) (in_order gs) rest in rw (first, rest, all_on f g gs first both.0) refl
    by true false first rest = rw (first, rest) (never (list_all (is_older f) gs))
      where
        never : (b : Bool) → (b && false) ≡ false
        never true = refl
        never false = refl

-- The oldest call alone is in order.
pub order_begins : (fs : List FlightState) → true ≡ in_order (drop (length fs - 1) fs)
order_begins [] = refl
order_begins (f ∷ []) = refl
order_begins (f ∷ g ∷ gs) =
    let e : length (f ∷ g ∷ gs) - 1 ≡ suc (length (g ∷ gs) - 1) = omega arith in
    order_begins (g ∷ gs) ∙ sym (ap (λ n. in_order (drop n (f ∷ g ∷ gs))) e)

order_at : (k : ℕ) (fs : List FlightState) (x y : FlightState) → slice_get fs k ≡ Some x → slice_get fs (suc k) ≡ Some y
    → in_order (drop k fs) ≡ (is_older x y && in_order (drop (suc k) fs))
order_at k [] x y at there = absurd (none_some x at)
order_at zero (f ∷ []) x y at there = absurd (none_some y there)
order_at zero (f ∷ g ∷ gs) x y at there =
    order_more f g gs ∙ ap₂ (λ (a b : FlightState). is_older a b && in_order (g ∷ gs)) (some_value f x at) (some_value g y there)
order_at (suc k) (f ∷ fs) x y at there = order_at k fs x y at there

-- One call more.
pub order_step : (i : ℕ) (fs : List FlightState) (x y : FlightState) (ordered : Bool) → 1 < i → slice_get fs (i - 1 - 1) ≡ Some x → slice_get fs (i - 1) ≡ Some y
    → is_older x y ≡ true → ordered ≡ in_order (drop (i - 1) fs) → ordered ≡ in_order (drop (i - 1 - 1) fs)
order_step i fs x y ordered lt at there older is =
    let e : i - 1 ≡ suc (i - 1 - 1) = omega (arith, lt) in
    is
    ∙ ap (λ k. in_order (drop k fs)) e
    ∙ sym (order_at (i - 1 - 1) fs x y at (sym (ap (slice_get fs) e) ∙ there) ∙ ap (λ a. a && in_order (drop (suc (i - 1 - 1)) fs)) older)

-- ---- the oldest call

oldest_behind : (f g : FlightState) (gs : List FlightState) → oldest (f ∷ g ∷ gs) ≡ oldest (g ∷ gs)
oldest_behind f g gs =
    let e : length (f ∷ g ∷ gs) - 1 ≡ suc (length (g ∷ gs) - 1) = omega arith in ap (slice_get (f ∷ g ∷ gs)) e

-- The least of numbers with one that may be none in front, where the least of the others is no later.
least_first : (cut : Option ℕ) (ns : List ℕ) (l : Option ℕ) → least ns ≡ l → no_later l cut ≡ true → l ≡ least (cons_option cut ns)
least_first None ns l is before = sym is
least_first (Some r) ns None is before = absurd (false_is_true before)
least_first (Some r) ns (Some q) is before = rw is (let least_is : min r q ≡ q = grind (arith, nat_tests, before) in ap Some (sym least_is))

oldest_there : (g : FlightState) (gs : List FlightState) → oldest (g ∷ gs) ≡ Some (get_or (g ∷ gs) (length (g ∷ gs) - 1) g)
oldest_there g gs = slice_get-get_or (g ∷ gs) (length (g ∷ gs) - 1) g (omega arith)

-- Where the last of what calls give is no later than what each gives, it is the least.
least_more : (given : FlightState → Option ℕ) (f g x : FlightState) (gs : List FlightState) → oldest (g ∷ gs) ≡ Some x → no_later (given x) (given f) ≡ true
    → option_and_then given (oldest (g ∷ gs)) ≡ least (filter_map given (g ∷ gs)) → option_and_then given (oldest (f ∷ g ∷ gs)) ≡ least (filter_map given (f ∷ g ∷ gs))
least_more given f g x gs last before rest =
    let e : option_and_then given (oldest (g ∷ gs)) ≡ given x = ap (option_and_then given) last in
    ap (option_and_then given) (oldest_behind f g gs) ∙ e ∙ least_first (given f) (filter_map given (g ∷ gs)) (given x) (sym rest ∙ e) before

least_alone : (cut : Option ℕ) → cut ≡ least (cons_option cut [])
least_alone None = refl
least_alone (Some r) = refl

-- Where calls are in order, the oldest one's cut is the first.
pub late_oldest : (fs : List FlightState) → in_order fs ≡ true → option_and_then late_cut (oldest fs) ≡ late_of fs
late_oldest [] is = refl
late_oldest (f ∷ []) is = least_alone (late_cut f)
late_oldest (f ∷ g ∷ gs) is =
    let both = and_true (list_all (is_older f) (g ∷ gs)) (in_order (g ∷ gs)) is in
    let x : FlightState = get_or (g ∷ gs) (length (g ∷ gs) - 1) g in
    let last : oldest (g ∷ gs) ≡ Some x = oldest_there g gs in
    let older : is_older f x ≡ true = all_at (is_older f) (g ∷ gs) (length (g ∷ gs) - 1) x both.0 last in
    least_more late_cut f g x gs last (and_true (f.own || not x.own) (no_later (late_cut x) (late_cut f)) older).1 (late_oldest (g ∷ gs) both.1)

no_later_number : (f x : FlightState) (b c : Bool) → f.own ≡ b → x.own ≡ c → (b || not c) ≡ true → x.number < f.number → no_later (ended_number x) (ended_number f) ≡ true
no_later_number f x true c own older or lt = rw own refl
no_later_number f x false true own older or lt = absurd (false_is_true or)
no_later_number f x false false own older or lt = rw (own, older) (grind (arith, nat_tests, lt))

-- .. its number is the least, and the least of ended daemons' where it is one.
pub ended_oldest : (bound : ℕ) (fs : List FlightState) → Falls bound fs → in_order fs ≡ true → option_and_then ended_number (oldest fs) ≡ least (filter_map ended_number fs)
ended_oldest bound [] fall is = refl
ended_oldest bound (f ∷ []) fall is = least_alone (ended_number f)
ended_oldest bound (f ∷ g ∷ gs) fall is =
    let both = and_true (list_all (is_older f) (g ∷ gs)) (in_order (g ∷ gs)) is in
    let x : FlightState = get_or (g ∷ gs) (length (g ∷ gs) - 1) g in
    let last : oldest (g ∷ gs) ≡ Some x = oldest_there g gs in
    let older : is_older f x ≡ true = all_at (is_older f) (g ∷ gs) (length (g ∷ gs) - 1) x both.0 last in
    let ended = (and_true (f.own || not x.own) (no_later (late_cut x) (late_cut f)) older).0 in
    least_more ended_number f g x gs last
    (no_later_number f x f.own x.own refl refl ended (falls_at f.number (length (g ∷ gs) - 1) (g ∷ gs) x fall.1 last))
    (ended_oldest f.number (g ∷ gs) fall.1 both.1)

number_oldest : (bound : ℕ) (fs : List FlightState) → Falls bound fs → option_and_then numbered (oldest fs) ≡ least (filter_map numbered fs)
number_oldest bound [] fall = refl
number_oldest bound (f ∷ []) fall = refl
number_oldest bound (f ∷ g ∷ gs) fall =
    let x : FlightState = get_or (g ∷ gs) (length (g ∷ gs) - 1) g in
    let last : oldest (g ∷ gs) ≡ Some x = oldest_there g gs in
    let lt : x.number < f.number = falls_at f.number (length (g ∷ gs) - 1) (g ∷ gs) x fall.1 last in
    least_more numbered f g x gs last (grind (arith, nat_tests, lt)) (number_oldest f.number (g ∷ gs) fall.1)

all_numbers : (fs : List FlightState) → filter_map numbered fs ≡ map (λ f. f.number) fs
all_numbers [] = refl
all_numbers (f ∷ fs) = ap (λ ns. f.number ∷ ns) (all_numbers fs)

pub least_number : (bound : ℕ) (fs : List FlightState) → Falls bound fs → option_and_then numbered (oldest fs) ≡ least (map (λ f. f.number) fs)
least_number bound fs fall = number_oldest bound fs fall ∙ ap least (all_numbers fs)
