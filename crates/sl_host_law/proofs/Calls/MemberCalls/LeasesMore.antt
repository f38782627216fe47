-- The leases of a session after one more call of it: the one on the call's area takes it, its first call perhaps; the others stand as
-- they did.
use Rattle.sl_area.specs.AreaSizes.{Layout}
use Rattle.sl_host_law.proofs.Calls.MemberCalls.LeaseMore.{FollowsFirst, FollowsRead, lease_more}
use Rattle.sl_host_law.proofs.Calls.MemberCalls.SpotsMore.{AreOnce, found_once, on_its_area, on_own, one_spot, spot_itself, spot_there, spots_once, valued_spot}
use Rattle.sl_host_law.specs.Calls.MemberCalls.{fits_again, fits_lease, follows_read}
use Rattle.sl_host_law.proofs.SharedFacts.PlainLists.{any_mapped, filter_none, none_any}
use Rattle.sl_host_law.proofs.SharedFacts.PlainOrders.{put_inside}
use Rattle.sl_host_state.proofs.StepsAreOver.{new_lease_stands}
use Rattle.sl_host_state.specs.KeptState.{LeaseState, MemberState}
use Rattle.sl_host_state.specs.MadeEffects.{is_lease_on, lease_calling, leases_calling, leases_working, new_lease, value_calling}
use Rattle.sl_host_state.specs.HostStands.{LeaseStands, pair_of}
use Rattle.sl_host_state.specs.declared.kept_parts.TopNumber.{TopNumber}
use Rattle.sl_trace.specs.Leases.{Phase2_write, block_written, is_again, is_at, is_lease_call, is_on, is_spot_before, spot_of_call, spots_in, value_written}
use Rattle.sl_words.proofs.Lists.{contains_map, in_map}
use Rattle.sl_sector.specs.declared.sector.Block.{Block}
use Rattle.sl_sector.specs.declared.sector.Owner.{Owner}
use Rattle.sl_trace.specs.Traces.{Submitted, new_call, same_spot}
use Rattle.sl_trace.specs.declared.effects.Call.{Call}
use Rattle.sl_trace.specs.declared.effects.Spot.{Spot}
use Rattle.sl_run_law.proofs.Leases.SpotLaws.{areas_are_apart}
use Rattle.sl_words.proofs.CaseLaws.{false_is_true, is_false, true_is_false}
use Rattle.sl_words.proofs.WordLaws.{and_true, some_is_true}
use Rattle.sl_words.specs.Orders.{put_in}
use Rattle.sl_words.specs.Words.{some_is}
use Rattle.std.proofs.Common.{ap, inl, inr, refl, subst, sym, ◌∙◌}
use Rattle.std.proofs.lemmas.Bool.Decides.{Decides-eqb}
use Rattle.std.proofs.lemmas.Bool.{ltb-true}
use Rattle.std.specs.List.{list_any}
use Rattle.std.specs.Option.{option_map_or, option_or}
use Rattle.std.specs.Prelude.{Bool, Contains, IsTrue, List, None, Option, Some, cond, false, filter, find, is_none, is_some, map, nat_lt, not, option_map, true, [], ℕ, ◌&&◌, ◌<◌, ◌==◌, ◌||◌, ◌∷◌, ◌≡◌, ◌⊎◌}

-- The calls on a lease's area among these.
abbrev pub calls_on : Layout → Spot → List Submitted → List Submitted
calls_on g at ms = filter (λ m. is_lease_call m && is_on g at m.call) ms

-- A lease stands for its calls among these.
abbrev pub StandsIn : Layout → List ℕ → Owner → List Submitted → LeaseState → Type 0
StandsIn g lockspace self ms l = LeaseStands g lockspace self l (calls_on g l.spot ms)

-- What a lease that takes a call must be.
pub record MayTake (c : Submitted) (l : LeaseState) : Type 0 where
  pub free : l.waiting ≡ None
  pub follows : FollowsRead l c
  pub again : FollowsFirst l c

-- Whether it has what a second read asks for.
abbrev finds_first : LeaseState → Bool
finds_first l = is_some l.pair.first && not l.pair.again

-- By the test.
none_waits : {A : Type 0} (o : Option A) → is_none o ≡ true → o ≡ None
none_waits None is = refl
none_waits (Some a) is = absurd (false_is_true is)

follows_by : (c : Submitted) (l : LeaseState) → follows_read c l ≡ true → FollowsRead l c
follows_by c l is phase b writes = by (is_at Phase2_write c) phase is where
  found : option_map_or (λ (x : Block). some_is (λ (t : TopNumber). t.instance == x.lver) l.top) (block_written c) true ≡ true → (t : TopNumber) × (l.top ≡ Some t) × (t.instance ≡ b.lver)
  found holds =
      let t = some_is_true (λ (t : TopNumber). t.instance == b.lver) l.top (sym (ap (λ o. option_map_or (λ (x : Block). some_is (λ (t : TopNumber). t.instance == x.lver) l.top) o true) writes) ∙ holds) in
      (t.0, t.1, (Decides-eqb t.0.instance b.lver).0 t.2)

  by : (p : Bool) → p ≡ true → (not p || option_map_or (λ (x : Block). some_is (λ (t : TopNumber). t.instance == x.lver) l.top) (block_written c) true) ≡ true
      → (t : TopNumber) × (l.top ≡ Some t) × (t.instance ≡ b.lver)
  by false at holds = absurd (false_is_true at)
  by true at holds = found holds

again_by : (c : Submitted) (l : LeaseState) → (not (is_again c) || finds_first l) ≡ true → FollowsFirst l c
again_by c l is again = by (is_again c) again is where
  untrue : (b : Bool) → not b ≡ true → b ≡ false
  untrue false holds = refl
  untrue true holds = absurd (false_is_true holds)

  by : (b : Bool) → b ≡ true → (not b || finds_first l) ≡ true → IsTrue (is_some l.pair.first) × (l.pair.again ≡ false)
  by false at holds = absurd (false_is_true at)
  by true at holds = (let parts = and_true (is_some l.pair.first) (not l.pair.again) holds in (parts.0, untrue l.pair.again parts.1))

may_take_by : (c : Submitted) (l : LeaseState) → (is_none l.waiting && follows_read c l) ≡ true → (not (is_again c) || finds_first l) ≡ true → MayTake c l
may_take_by c l is again =
    let parts = and_true (is_none l.waiting) (follows_read c l) is in
    record { free = none_waits l.waiting parts.0; follows = follows_by c l parts.1; again = again_by c l again }

-- A lease without a call takes one that is not of phase 2, and no second read.
may_begin : (c : Submitted) (at : Spot) → not (is_at Phase2_write c) ≡ true → (not (is_again c) || false) ≡ true → MayTake c (new_lease at)
may_begin c at is once =
    record {
      free = refl;
      follows = λ phase b writes. absurd (false_is_true (sym (ap not phase) ∙ is));
      again = λ again. absurd (false_is_true (ap (λ b. not b || false) (sym again) ∙ once));
    }

-- What the tests say of the leases: the area has bytes; who is on the call's area may take it; if nobody is, the lease is begun.
pub record LeasesMay (g : Layout) (c : Submitted) (ls : List LeaseState) : Type 0 where
  pub room : 0 < g.area
  pub old : (l : LeaseState) → Contains ls l → is_lease_on (spot_of_call g c) l ≡ true → MayTake c l
  pub new : list_any (is_lease_on (spot_of_call g c)) ls ≡ false → MayTake c (new_lease (spot_of_call g c))

found_nowhere : {A : Type 0} (p : A → Bool) (xs : List A) → list_any p xs ≡ false → find p xs ≡ None
found_nowhere p [] none = refl
found_nowhere {A} p (x ∷ xs) none = by (p x) none (λ rest. found_nowhere p xs rest) where
  by : (b : Bool) → (b || list_any p xs) ≡ false → (list_any p xs ≡ false → find p xs ≡ None) → cond b (Some x) (find p xs) ≡ None
  by true left deeper = absurd (true_is_false left)
  by false left deeper = deeper left

-- What is asked of the lease that is found by the call's area.
abbrev fits_found : Submitted → Option LeaseState → Bool
fits_found c o = option_map_or (λ l. is_none l.waiting && follows_read c l) o (not (is_at Phase2_write c))

abbrev again_found : Submitted → Option LeaseState → Bool
again_found c o = not (is_again c) || option_map_or finds_first o false

pub leases_may : (g : Layout) (s : MemberState) (c : Submitted) (ms : List Submitted) → spots_in g ms ≡ map (λ l. l.spot) s.leases → fits_lease g s c ≡ true
    → fits_again g s c ≡ true → is_lease_call c ≡ true → LeasesMay g c s.leases
leases_may g s c ms spots fits again works = by (is_lease_call c) works fits where
  by : (b : Bool) → b ≡ true → (not b || nat_lt 0 g.area && fits_found c (find (is_lease_on (spot_of_call g c)) s.leases)) ≡ true → LeasesMay g c s.leases
  by false is holds = absurd (false_is_true is)
  by true is holds =
      let parts = and_true (nat_lt 0 g.area) (fits_found c (find (is_lease_on (spot_of_call g c)) s.leases)) holds in
      let once = subst (λ ss. AreOnce ss) spots (spots_once g ms) in
      record {
        room = ltb-true 0 g.area parts.0;
        old = λ l there on.
            (let is_found = found_once (spot_of_call g c) s.leases l once there on in
            may_take_by c l (sym (ap (fits_found c) is_found) ∙ parts.1) (sym (ap (again_found c) is_found) ∙ again));
        new = λ none.
            (let is_none = found_nowhere (is_lease_on (spot_of_call g c)) s.leases none in
            may_begin c (spot_of_call g c) (sym (ap (fits_found c) is_none) ∙ parts.1) (sym (ap (again_found c) is_none) ∙ again));
      }

module _ (g : Layout) (lockspace : List ℕ) (self : Owner) (at reading : ℕ) (call : Call) where
  abbrev c : Submitted
  c = new_call at reading call

  -- A lease on another area has no call more.
  elsewhere : (ms : List Submitted) (l : LeaseState) → Contains (spots_in g ms) l.spot → is_lease_on (spot_of_call g c) l ≡ false → calls_on g l.spot (c ∷ ms) ≡ calls_on g l.spot ms
  elsewhere ms l there other = by (is_lease_call c) (is_on g l.spot call) refl where
    by : (b d : Bool) → is_on g l.spot call ≡ d → cond (b && d) (c ∷ calls_on g l.spot ms) (calls_on g l.spot ms) ≡ calls_on g l.spot ms
    by false d on = refl
    by true false on = refl
    by true true on =
        absurd (true_is_false (sym (spot_itself l.spot) ∙ (ap (λ s. same_spot s l.spot) (sym (on_its_area g ms c l.spot there on)) ∙ other)))

  -- One on its area has it first.
  here : (ms : List Submitted) (s : Spot) → is_lease_call c ≡ true → 0 < g.area → spot_of_call g c ≡ s → calls_on g s (c ∷ ms) ≡ c ∷ calls_on g s ms
  here ms s works room is =
      ap (λ b. cond (b && is_on g s call) (c ∷ calls_on g s ms) (calls_on g s ms)) works
      ∙ ap (λ b. cond b (c ∷ calls_on g s ms) (calls_on g s ms)) (subst (λ z. is_on g z call ≡ true) is (on_own g c room))

  -- And no other call, where no lease is.
  pub nothing_here : (ms : List Submitted) → list_any (same_spot (spot_of_call g c)) (spots_in g ms) ≡ false → calls_on g (spot_of_call g c) ms ≡ []
  nothing_here ms none =
      filter_none (λ m. is_lease_call m && is_on g (spot_of_call g c) m.call) ms (λ d there. is_false (is_lease_call d && is_on g (spot_of_call g c) d.call) (λ both. clash d there (and_true (is_lease_call d) (is_on g (spot_of_call g c) d.call) both))) where
        clash : (d : Submitted) → Contains ms d → (is_lease_call d ≡ true) × (is_on g (spot_of_call g c) d.call ≡ true) → ⊥
        clash d there both =
            true_is_false (sym (subst (λ s. list_any (same_spot s) (spots_in g ms) ≡ true) (areas_are_apart g c d both.1) (spot_there g ms d there both.0)) ∙ none)

  taken : (ms : List Submitted) (l : LeaseState) → is_lease_call c ≡ true → 0 < g.area → spot_of_call g c ≡ l.spot → MayTake c l → StandsIn g lockspace self ms l
      → StandsIn g lockspace self (c ∷ ms) (lease_calling c l)
  taken ms l works room is may stands =
      subst (λ cs. LeaseStands g lockspace self (lease_calling c l) cs) (sym (here ms l.spot works room is))
      (lease_more at reading call g lockspace self l (calls_on g l.spot ms) works may.free may.follows may.again stands)

  begun : (ms : List Submitted) → is_lease_call c ≡ true → 0 < g.area → list_any (same_spot (spot_of_call g c)) (spots_in g ms) ≡ false → MayTake c (new_lease (spot_of_call g c))
      → StandsIn g lockspace self (c ∷ ms) (lease_calling c (new_lease (spot_of_call g c)))
  begun ms works room none may =
      taken ms (new_lease (spot_of_call g c)) works room refl may
      (subst (λ cs. LeaseStands g lockspace self (new_lease (spot_of_call g c)) cs) (sym (nothing_here ms none)) (new_lease_stands g lockspace self (spot_of_call g c)))

  -- The whole of a list of leases.
  abbrev EachStands : List Submitted → List LeaseState → Type 0
  EachStands ms ls = (l : LeaseState) → Contains ls l → StandsIn g lockspace self ms l

  area_of : (ms : List Submitted) (ls : List LeaseState) (l : LeaseState) → spots_in g ms ≡ map (λ k. k.spot) ls → Contains ls l → Contains (spots_in g ms) l.spot
  area_of ms ls l spots there = subst (λ ss. Contains ss l.spot) (sym spots) (contains_map (λ (k : LeaseState). k.spot) ls l there)

  left : (ms : List Submitted) (ls : List LeaseState) (l : LeaseState) → spots_in g ms ≡ map (λ k. k.spot) ls → Contains ls l → is_lease_on (spot_of_call g c) l ≡ false → StandsIn g lockspace self ms l
      → StandsIn g lockspace self (c ∷ ms) l
  left ms ls l spots there other stands = subst (λ cs. LeaseStands g lockspace self l cs) (sym (elsewhere ms l (area_of ms ls l spots there) other)) stands

  one_working : (ms : List Submitted) (ls : List LeaseState) (l : LeaseState) → spots_in g ms ≡ map (λ k. k.spot) ls → is_lease_call c ≡ true → LeasesMay g c ls → Contains ls l → StandsIn g lockspace self ms l
      → StandsIn g lockspace self (c ∷ ms) (cond (is_lease_on (spot_of_call g c) l) (lease_calling c l) l)
  one_working ms ls l spots works may there stands = by (is_lease_on (spot_of_call g c) l) refl where
    by : (b : Bool) → is_lease_on (spot_of_call g c) l ≡ b → StandsIn g lockspace self (c ∷ ms) (cond b (lease_calling c l) l)
    by true on = taken ms l works may.room (one_spot (spot_of_call g c) l.spot on) (may.old l there on) stands
    by false other = left ms ls l spots there other stands

  working : (ms : List Submitted) (ls : List LeaseState) → spots_in g ms ≡ map (λ k. k.spot) ls → is_lease_call c ≡ true → LeasesMay g c ls → EachStands ms ls → EachStands (c ∷ ms) (leases_working (spot_of_call g c) c ls)
  working ms ls spots works may each l there = by (list_any (is_lease_on (spot_of_call g c)) ls) refl there where
    from : (z : LeaseState) × Contains ls z × (cond (is_lease_on (spot_of_call g c) z) (lease_calling c z) z ≡ l) → StandsIn g lockspace self (c ∷ ms) l
    from z = subst (λ y. StandsIn g lockspace self (c ∷ ms) y) z.2 (one_working ms ls z.0 spots works may z.1 (each z.0 z.1))

    put : list_any (is_lease_on (spot_of_call g c)) ls ≡ false → (lease_calling c (new_lease (spot_of_call g c)) ≡ l) ⊎ Contains ls l → StandsIn g lockspace self (c ∷ ms) l
    put none (inl new) =
        subst (λ y. StandsIn g lockspace self (c ∷ ms) y) new
        (begun ms works may.room (ap (list_any (same_spot (spot_of_call g c))) spots ∙ (any_mapped (same_spot (spot_of_call g c)) (λ (k : LeaseState). k.spot) ls ∙ none)) (may.new none))
    put none (inr old) = left ms ls l spots old (none_any (is_lease_on (spot_of_call g c)) ls l none old) (each l old)

    by : (b : Bool) → list_any (is_lease_on (spot_of_call g c)) ls ≡ b
        → Contains
        (cond b (map (λ k. cond (is_lease_on (spot_of_call g c) k) (lease_calling c k) k) ls)
        (put_in (λ k m. is_spot_before k.spot m.spot) (lease_calling c (new_lease (spot_of_call g c))) ls)) l
        → StandsIn g lockspace self (c ∷ ms) l
    by true is in_it = from (in_map (λ k. cond (is_lease_on (spot_of_call g c) k) (lease_calling c k) k) ls l in_it)
    by false is in_it = put is (put_inside (λ (k m : LeaseState). is_spot_before k.spot m.spot) (lease_calling c (new_lease (spot_of_call g c))) ls l in_it)

  -- Another call than of a lease sets at most values.
  idle : (ms : List Submitted) (s : Spot) → is_lease_call c ≡ false → calls_on g s (c ∷ ms) ≡ calls_on g s ms
  idle ms s other = ap (λ b. cond (b && is_on g s call) (c ∷ calls_on g s ms) (calls_on g s ms)) other

  with_value : (ms : List Submitted) (l : LeaseState) → LeaseStands g lockspace self l ms → LeaseStands g lockspace self (value_calling g c l) ms
  with_value ms l s = by (is_on g l.spot call) where
    by : (b : Bool) → LeaseStands g lockspace self (cond b (record l { value = option_or (option_map pair_of (value_written c)) l.value }) l) ms
    by false = s
    by true =
        record {
          own = s.own;
          name = s.name;
          freed = s.freed;
          ballot = s.ballot;
          shown = s.shown;
          won = s.won;
          waiting = s.waiting;
          top = s.top;
          opened = s.opened;
          turn = s.turn;
          again = s.again;
          kept = s.kept;
          second = s.second;
        }

  pub leases_stand : (ms : List Submitted) (ls : List LeaseState) → spots_in g ms ≡ map (λ k. k.spot) ls → (is_lease_call c ≡ true → LeasesMay g c ls) → EachStands ms ls
      → EachStands (c ∷ ms) (leases_calling g c ls)
  leases_stand ms ls spots may each l there = by (is_lease_call c) refl there where
    valued : (z : LeaseState) × Contains ls z × (value_calling g c z ≡ l) → is_lease_call c ≡ false → StandsIn g lockspace self (c ∷ ms) l
    valued z other =
        subst (λ y. StandsIn g lockspace self (c ∷ ms) y) z.2
        (subst (λ cs. LeaseStands g lockspace self (value_calling g c z.0) cs) (sym (idle ms (value_calling g c z.0).spot other))
        (subst (λ s. LeaseStands g lockspace self (value_calling g c z.0) (calls_on g s ms)) (sym (valued_spot g c z.0))
        (with_value (calls_on g z.0.spot ms) z.0 (each z.0 z.1))))

    by : (b : Bool) → is_lease_call c ≡ b → Contains (cond b (leases_working (spot_of_call g c) c ls) (map (value_calling g c) ls)) l → StandsIn g lockspace self (c ∷ ms) l
    by true works in_it = working ms ls spots works (may works) each l in_it
    by false other in_it = valued (in_map (value_calling g c) ls l in_it) other
