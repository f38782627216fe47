-- A wake and what comes last keep what the acts keep.
use Rattle.sl_due_facts.proofs.Acts.AddedAtEnd.{contains_at, not_is}
use Rattle.sl_due_facts.proofs.Acts.LoopsKeep.{for_each_keeps, when_keeps, with_some_keeps}
use Rattle.sl_due_facts.proofs.Acts.SessionsStay.{Stays, delta_stays, itself, lease_stays, removal_stays}
use Rattle.sl_due_facts.specs.Acts.Acts.{Has, OtherActs, next_of_settling}
use Rattle.sl_due.specs.CarriedDelta.{carry_delta}
use Rattle.sl_due.specs.DueTimeOuts.{remove_connection}
use Rattle.sl_due.specs.CarriedLease.{carry_lease, settle}
use Rattle.sl_due.specs.DueRequests.{bits_due}
use Rattle.sl_due.specs.DueWake.{end_if_done, finish, finish_session, for_sessions, free_if_done, join_on_wake, on_wake, renew_on_wake, settle_on_wake, settlings}
use Rattle.sl_due.specs.Steps.{Step, for_each, seen, when}
use Rattle.sl_trace.specs.Leases.{is_lease_call, is_spot_before, lease_spots, open_on, spot_of_call, spots_in, with_spot}
use Rattle.sl_trace.specs.declared.lease.LeaseNext.TheVariants.{AnswerJob, BecomeExclusive, BecomeShared, GrantJob, Nothing, ReadFor, WriteBlock, WriteLeader}
use Rattle.sl_trace.specs.declared.lease.LeaseNext.{LeaseNext}
use Rattle.sl_words.proofs.Lists.{contains_cases, contains_first, contains_more, contains_none, kept_inside}
use Rattle.sl_trace.specs.DeltaDecisions.{delta_known, delta_of_session, next_free, next_on_wake, next_renewal}
use Rattle.sl_trace.specs.Sessions.{calls_of, has_open_write, holdings_of, is_active, is_joined, is_present, open_calls_of, present_sessions, recovery_of, session_numbered, sessions}
use Rattle.sl_trace.specs.declared.session.Session.{Session}
use Rattle.sl_area.specs.AreaSizes.{Layout}
use Rattle.sl_trace.specs.Traces.{Setting, Submitted, is_running, same_spot}
use Rattle.sl_trace.specs.declared.effects.LeaseRead.TheVariants.{OfArea, OfFree}
use Rattle.sl_trace.specs.declared.effects.LeaseStep.TheVariants.{ReadAgain, ReadArea, ReadBeforeFree}
use Rattle.sl_trace.specs.declared.effects.Spot.{Spot}
use Rattle.sl_trace.specs.declared.effects.Work.TheVariants.{Settling}
use Rattle.sl_trace.specs.declared.input.Input.TheVariants.{Wake}
use Rattle.sl_run_law.proofs.Leases.NumberLaws.{number_is_place}
use Rattle.sl_words.proofs.CaseLaws.{false_is_true}
use Rattle.sl_words.proofs.WordLaws.{and_true}
use Rattle.sl_words.specs.Orders.{in_order, is_text_before, put_in}
use Rattle.sl_words.specs.Words.{is_empty}
use Rattle.std.proofs.Common.{ap, arith, inl, inr, refl, subst, sym, ◌∙◌}
use Rattle.std.proofs.Math.Nat.{mul-mod_left}
use Rattle.std.proofs.lemmas.Nat.{div-add-mod'}
use Rattle.std.specs.List.{list_any}
use Rattle.std.specs.Prelude.{Bool, Contains, List, false, filter, fold, if◌then◌else◌, is_some, not, true, [], ℕ, ◌%◌, ◌&&◌, ◌*◌, ◌+◌, ◌-◌, ◌/◌, ◌∷◌, ◌≡◌, ◌⊎◌}

-- A step that has come on from another, with what is kept.
abbrev Since : (Step → Type 0) → Step → Step → Type 0
Since I x y = I y × Stays x y

empty_is : {A : Type 0} (xs : List A) → is_empty xs ≡ true → xs ≡ []
empty_is [] h = refl
empty_is (x ∷ xs) h = absurd (false_is_true h)

-- ---- each body, at a step since the pass began

joins_then : (I : Step → Type 0) → OtherActs I → (x : Step) (s : Session) → Has x s → x.input ≡ Wake → (y : Step) → Since I x y → Since I x (join_on_wake s y)
unfolding join_on_wake
joins_then I k x s has wake y h =
    with_some_keeps (Since I x) s.job
    (λ j z. when (is_running (seen z) j) (carry_delta s (next_on_wake (delta_of_session z.setting s) z.reading (calls_of (seen z) s))) z) y
    (λ j its g. when_keeps (Since I x) (is_running (seen y) j) (carry_delta s (next_on_wake (delta_of_session y.setting s) y.reading (calls_of (seen y) s))) y
    (λ runs f. (k.joins_in_time y s j (f.1.sessions s has) (f.1.input ∙ wake) its runs f.0, delta_stays x y s (next_on_wake (delta_of_session y.setting s) y.reading (calls_of (seen y) s)) f.1)) g) h

renews_then : (I : Step → Type 0) → OtherActs I → (x : Step) (s : Session) → Has x s → x.input ≡ Wake → (y : Step) → Since I x y → Since I x (renew_on_wake s y)
unfolding renew_on_wake
renews_then I k x s has wake y h =
    when_keeps (Since I x) (is_joined (seen y) s)
    (λ z. carry_delta s (next_renewal (delta_of_session z.setting s) z.reading (delta_known z.setting (seen z) s) (bits_due z.setting (calls_of (seen z) s) z.reading)) z) y
    (λ joined f. (
      k.renews y s (f.1.sessions s has) (f.1.input ∙ wake) joined f.0,
      delta_stays x y s (next_renewal (delta_of_session y.setting s) y.reading (delta_known y.setting (seen y) s) (bits_due y.setting (calls_of (seen y) s) y.reading)) f.1,
    )) h

-- A settling changes nothing of the session's state, and nothing of the setting.
abbrev Active : (Step → Type 0) → Setting → Step → Session → Step → Type 0
Active I st x s y = Since I x y × (is_active y.setting (seen y) s ≡ true) × (y.setting ≡ st)

still_active : (s : Session) (at : Spot) (n : LeaseNext) (z : Step) → is_active z.setting (seen z) s ≡ true → is_active (carry_lease s at Settling n z).setting (seen (carry_lease s at Settling n z)) s ≡ true
unfolding carry_lease
still_active s at Nothing z h = h
still_active s at (ReadFor (ReadArea name)) z h = h
still_active s at (ReadFor ReadBeforeFree) z h = h
still_active s at (ReadFor (ReadAgain (OfArea name))) z h = h
still_active s at (ReadFor (ReadAgain OfFree)) z h = h
still_active s at (ReadFor step) z h = h
still_active s at (WriteBlock step b) z h = h
still_active s at (WriteLeader step l) z h = h
still_active s at (AnswerJob r) z h = h
still_active s at (GrantJob mode lver) z h = h
still_active s at (BecomeShared lver l) z h = h
still_active s at (BecomeExclusive lver b) z h = h

same_setting : (s : Session) (at : Spot) (n : LeaseNext) (z : Step) → (carry_lease s at Settling n z).setting ≡ z.setting
unfolding carry_lease
same_setting s at Nothing z = refl
same_setting s at (ReadFor (ReadArea name)) z = refl
same_setting s at (ReadFor ReadBeforeFree) z = refl
same_setting s at (ReadFor (ReadAgain (OfArea name))) z = refl
same_setting s at (ReadFor (ReadAgain OfFree)) z = refl
same_setting s at (ReadFor step) z = refl
same_setting s at (WriteBlock step b) z = refl
same_setting s at (WriteLeader step l) z = refl
same_setting s at (AnswerJob r) z = refl
same_setting s at (GrantJob mode lver) z = refl
same_setting s at (BecomeShared lver l) z = refl
same_setting s at (BecomeExclusive lver b) z = refl

from_put : {A : Type 0} (before : A → A → Bool) (x : A) (ys : List A) (d : A) → Contains (put_in before x ys) d → (x ≡ d) ⊎ Contains ys d
from_put before x [] d there = contains_cases x [] d there
from_put {A} before x (y ∷ ys) d there = by (before x y) there (λ deeper. from_put before x ys d deeper) where
  under : (Contains (put_in before x ys) d → (x ≡ d) ⊎ Contains ys d) → (y ≡ d) ⊎ Contains (put_in before x ys) d → (x ≡ d) ⊎ Contains (y ∷ ys) d
  under rest (inl is) = inr (subst (λ z. Contains (y ∷ ys) z) is (contains_first y ys))
  under rest (inr deeper) = elim (rest deeper) [ inl is ↦ inl is | inr old ↦ inr (contains_more y ys d old) ]

  by : (b : Bool) → Contains (if b then x ∷ y ∷ ys else y ∷ put_in before x ys) d → (Contains (put_in before x ys) d → (x ≡ d) ⊎ Contains ys d) → (x ≡ d) ⊎ Contains (y ∷ ys) d
  by true there rest = contains_cases x (y ∷ ys) d there
  by false there rest = under rest (contains_cases y (put_in before x ys) d there)

from_spot : (at : Spot) (spots : List Spot) (d : Spot) → Contains (with_spot at spots) d → (at ≡ d) ⊎ Contains spots d
from_spot at spots d there = by (list_any (same_spot at) spots) there where
  by : (b : Bool) → Contains (if b then spots else put_in is_spot_before at spots) d → (at ≡ d) ⊎ Contains spots d
  by true there = inr there
  by false there = from_put is_spot_before at spots d there

-- The areas of leases begin where areas begin.
begins_at : (n d : ℕ) → (n - n % d) % d ≡ 0
begins_at n d = let whole : n - n % d ≡ n / d * d = left (n / d * d) (n % d) n (div-add-mod' n d) in ap (λ k. k % d) whole ∙ mul-mod_left (n / d) d where
  left : (a b c : ℕ) → a + b ≡ c → c - b ≡ a
  left a b c is = omega (arith, is)

all_begin : (g : Layout) (ms : List Submitted) (at : Spot) → Contains (spots_in g ms) at → at.base % g.area ≡ 0
all_begin g [] at there = absurd (contains_none at there)
all_begin g (m ∷ ms) at there = by (is_lease_call m) there (λ deeper. all_begin g ms at deeper) where
  by : (b : Bool) → Contains (elim b as (λ z. List Spot) [ false ↦ spots_in g ms | true ↦ with_spot (spot_of_call g m) (spots_in g ms) ]) at → (Contains (spots_in g ms) at → at.base % g.area ≡ 0)
      → at.base % g.area ≡ 0
  by false there rest = rest there
  by true there rest = elim (from_spot (spot_of_call g m) (spots_in g ms) at there) [ inl is ↦ subst (λ z. z.base % g.area ≡ 0) is (begins_at m.call.offset g.area) | inr old ↦ rest old ]

settles_one : (I : Step → Type 0) → OtherActs I → (st : Setting) (x : Step) (s : Session) → Has x s → x.input ≡ Wake → (at : Spot) → at.base % st.layout.area ≡ 0 → (z : Step) → Active I st x s z → Active I st x s (settle_on_wake s at z)
unfolding settle_on_wake settle
settles_one I k st x s has wake at begins z g =
    when_keeps (Active I st x s) (is_empty (open_on z.setting (seen z) at)) (λ w. carry_lease s at Settling (next_of_settling w.setting (seen w) s at) w) z
    (λ none f. (
      (
        k.settles z s at (f.0.1.sessions s has) (f.0.1.input ∙ wake) f.1 (subst (λ w. at.base % w.layout.area ≡ 0) (sym f.2) begins) (empty_is (open_on z.setting (seen z) at) none) f.0.0,
        lease_stays x z s at Settling (next_of_settling z.setting (seen z) s at) f.0.1,
      ),
      still_active s at (next_of_settling z.setting (seen z) s at) z f.1,
      same_setting s at (next_of_settling z.setting (seen z) s at) z ∙ f.2,
    )) g

settles_then : (I : Step → Type 0) → OtherActs I → (x : Step) (s : Session) → Has x s → x.input ≡ Wake → (y : Step) → Since I x y → Since I x (settlings s y)
unfolding settlings settle_on_wake settle
settles_then I k x s has wake y h =
    when_keeps (Since I x) (is_active y.setting (seen y) s) (for_each (lease_spots y.setting (seen y) s) (settle_on_wake s)) y
    (λ active f. (for_each_keeps (Active I y.setting x s) (lease_spots y.setting (seen y) s) (settle_on_wake s) y
    (λ at there z g. settles_one I k y.setting x s has wake at (all_begin y.setting.layout (calls_of (seen y) s) at there) z g) (f, active, refl)).0) h

by_recovery : (I : Step → Type 0) → OtherActs I → (x : Step) (s : Session) → Has x s → (y : Step) → is_joined (seen y) s ≡ true → (b : Bool) → is_some (recovery_of y.setting (seen y) s) ≡ b → Since I x y
    → Since I x (elim b as (λ z. Step) [ true ↦ end_if_done s y | false ↦ free_if_done s y ])
by_recovery I k x s has y joined true is h =
    when_keeps (Since I x) (is_empty (holdings_of (seen y) s) && not (has_open_write (seen y) s)) (remove_connection s.lockspace) y
    (λ done f.
    let both = and_true (is_empty (holdings_of (seen y) s)) (not (has_open_write (seen y) s)) done in
    (k.parts y s (f.1.sessions s has) joined is (empty_is (holdings_of (seen y) s) both.0) (not_is (has_open_write (seen y) s) both.1) f.0, removal_stays x y s.lockspace f.1)) h
by_recovery I k x s has y joined false is h =
    when_keeps (Since I x) (is_empty (holdings_of (seen y) s) && is_empty (open_calls_of (seen y) s))
    (λ z. carry_delta s (next_free (delta_of_session z.setting s) z.reading (delta_known z.setting (seen z) s)) z) y
    (λ done f.
    let both = and_true (is_empty (holdings_of (seen y) s)) (is_empty (open_calls_of (seen y) s)) done in (
      k.frees y s (f.1.sessions s has) joined is (empty_is (holdings_of (seen y) s) both.0) (empty_is (open_calls_of (seen y) s) both.1) f.0,
      delta_stays x y s (next_free (delta_of_session y.setting s) y.reading (delta_known y.setting (seen y) s)) f.1,
    )) h

parts_then : (I : Step → Type 0) → OtherActs I → (x : Step) (s : Session) → Has x s → (y : Step) → Since I x y → Since I x (finish_session s y)
unfolding finish_session
parts_then I k x s has y h =
    when_keeps (Since I x) (is_joined (seen y) s) (λ z. elim (is_some (recovery_of z.setting (seen z) s)) [ true ↦ end_if_done s z | false ↦ free_if_done s z ]) y
    (λ joined f. by_recovery I k x s has y joined (is_some (recovery_of y.setting (seen y) s)) refl f) h

-- ---- the passes

from_order : {A : Type 0} (before : A → A → Bool) (xs sorted : List A) (d : A) → Contains (fold (λ ys x. put_in before x ys) sorted xs) d → Contains xs d ⊎ Contains sorted d
from_order before [] sorted d there = inr there
from_order {A} before (x ∷ xs) sorted d there = by (from_order before xs (put_in before x sorted) d there) where
  put : (x ≡ d) ⊎ Contains sorted d → Contains (x ∷ xs) d ⊎ Contains sorted d
  put (inl is) = inl (subst (λ z. Contains (x ∷ xs) z) is (contains_first x xs))
  put (inr old) = inr old

  by : Contains xs d ⊎ Contains (put_in before x sorted) d → Contains (x ∷ xs) d ⊎ Contains sorted d
  by (inl rest) = inl (contains_more x xs d rest)
  by (inr inside) = put (from_put before x sorted d inside)

ordered_is : {A : Type 0} (before : A → A → Bool) (xs : List A) (d : A) → Contains (in_order before xs) d → Contains xs d
ordered_is before xs d there = elim (from_order before xs [] d there) [ inl is ↦ is | inr none ↦ absurd (contains_none d none) ]

-- A session that is present is one of the trace's.
pub present_has : (x : Step) (s : Session) → Contains (present_sessions x.setting (seen x)) s → Has x s
present_has x s there =
    let inside = (kept_inside (is_present (seen x)) (sessions x.setting (seen x)) s
    (ordered_is (λ (a : Session) (b : Session). is_text_before a.lockspace b.lockspace) (filter (is_present (seen x)) (sessions x.setting (seen x))) s there)).0 in
    let at = contains_at (sessions x.setting (seen x)) s inside in
    ap (λ n. session_numbered x.setting (seen x) n) (number_is_place x.setting (seen x) at.0 s at.1) ∙ at.1

pass_keeps : (I : Step → Type 0) (f : Session → Step → Step) (x : Step) → ((s : Session) → Has x s → (y : Step) → Since I x y → Since I x (f s y)) → I x → Since I x (for_sessions f x)
pass_keeps I f x keeps h = for_each_keeps (Since I x) (present_sessions x.setting (seen x)) f x (λ s there. keeps s (present_has x s there)) (h, itself x)

pub wake_keeps : (I : Step → Type 0) → OtherActs I → (x : Step) → x.input ≡ Wake → I x → I (on_wake x)
unfolding on_wake
wake_keeps I k x wake h =
    let joined : Since I x (for_sessions join_on_wake x) = pass_keeps I join_on_wake x (λ s has. joins_then I k x s has wake) h in
    let y : Step = for_sessions join_on_wake x in
    let renewed : Since I y (for_sessions renew_on_wake y) = pass_keeps I renew_on_wake y (λ s has. renews_then I k y s has (joined.1.input ∙ wake)) joined.0 in
    let z : Step = for_sessions renew_on_wake y in
    (pass_keeps I settlings z (λ s has. settles_then I k z s has (renewed.1.input ∙ (joined.1.input ∙ wake))) renewed.0).0

pub last_keeps : (I : Step → Type 0) → OtherActs I → (x : Step) → I x → I (finish x)
unfolding finish
last_keeps I k x h = (pass_keeps I finish_session x (λ s has. parts_then I k x s has) h).0

-- Neither changes the input.
pub wake_input : (I : Step → Type 0) → OtherActs I → (x : Step) → x.input ≡ Wake → I x → (on_wake x).input ≡ Wake
unfolding on_wake
wake_input I k x wake h =
    let joined : Since I x (for_sessions join_on_wake x) = pass_keeps I join_on_wake x (λ s has. joins_then I k x s has wake) h in
    let y : Step = for_sessions join_on_wake x in
    let renewed : Since I y (for_sessions renew_on_wake y) = pass_keeps I renew_on_wake y (λ s has. renews_then I k y s has (joined.1.input ∙ wake)) joined.0 in
    let z : Step = for_sessions renew_on_wake y in
    (pass_keeps I settlings z (λ s has. settles_then I k z s has (renewed.1.input ∙ (joined.1.input ∙ wake))) renewed.0).1.input ∙ (renewed.1.input ∙ (joined.1.input ∙ wake))

pub last_input : (I : Step → Type 0) → OtherActs I → (x : Step) → I x → (finish x).input ≡ x.input
unfolding finish
last_input I k x h = (pass_keeps I finish_session x (λ s has. parts_then I k x s has) h).1.input
