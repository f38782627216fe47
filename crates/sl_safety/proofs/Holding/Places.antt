-- Places and areas as equations, and the holdings of a session on an area.
use Rattle.sl_area.specs.AreaSizes.{Layout}
use Rattle.sl_run_law.proofs.Leases.SpotLaws.{areas_are_apart}
use Rattle.sl_trace.specs.Leases.{has_shared_on, holdings_on, is_on, spot_of_call}
use Rattle.sl_words.proofs.Lists.{contains_cases, contains_none, find_inside, kept, kept_inside}
use Rattle.sl_words.proofs.Numbers.{none_off}
use Rattle.sl_trace.specs.Sessions.{holdings_of}
use Rattle.sl_trace.specs.declared.session.Session.{Session}
use Rattle.sl_trace.specs.Traces.{Submitted, Trace, holdings, is_shared, new_call, same_place, spot_of_grant}
use Rattle.sl_trace.specs.declared.effects.Grant.{Grant}
use Rattle.sl_trace.specs.declared.effects.Spot.{Spot}
use Rattle.sl_words.proofs.CaseLaws.{false_is_true, true_is_false}
use Rattle.sl_words.proofs.WordLaws.{and_true}
use Rattle.std.proofs.Common.{ap, inl, inr, refl, subst, sym, ◌∙◌}
use Rattle.std.proofs.lemmas.Bool.{and_from, eq-eqb, eqb-true}
use Rattle.std.proofs.lemmas.Slice.Eq.{bytes_eq-Decides}
use Rattle.std.specs.Prelude.{Bool, Contains, List, None, Option, Some, [], bytes_eq, cond, false, find, is_some, true, ℕ, ◌%◌, ◌==◌, ◌∷◌, ◌≡◌, ◌⊎◌}

-- ---- places

pub place_is : (path : List ℕ) (offset : ℕ) (path' : List ℕ) (offset' : ℕ) → same_place path offset path' offset' ≡ true → (path ≡ path') × (offset ≡ offset')
place_is path offset path' offset' h =
    let both = and_true (offset == offset') (bytes_eq path path') h in ((bytes_eq-Decides path path').0 both.1, eqb-true offset offset' both.0)

pub is_place : (path : List ℕ) (offset : ℕ) (path' : List ℕ) (offset' : ℕ) → path ≡ path' → offset ≡ offset' → same_place path offset path' offset' ≡ true
is_place path offset path' offset' paths offsets =
    and_from (offset == offset') (bytes_eq path path') (eq-eqb offset offset' offsets) ((bytes_eq-Decides path path').1 paths)

pub place_turned : (a b : Grant) → same_place a.path a.offset b.path b.offset ≡ true → same_place b.path b.offset a.path a.offset ≡ true
place_turned a b h = let r = place_is a.path a.offset b.path b.offset h in is_place b.path b.offset a.path a.offset (sym r.0) (sym r.1)

-- ---- areas

-- The area of a call on an area is that.
pub spot_is : (g : Layout) (at : Spot) (m : Submitted) → at.base % g.area ≡ 0 → is_on g at m.call ≡ true → spot_of_call g m ≡ at
spot_is g at m zero on =
    let c : Submitted = new_call 0 0 (record m.call { path = at.path; offset = at.base }) in
    let same : spot_of_call g c ≡ at = ap (λ n. let z : Spot = record { path = at.path; base = n } in z) (none_off at.base (at.base % g.area) zero) in
    areas_are_apart g c m (subst (λ z. is_on g z m.call ≡ true) (sym same) on) ∙ same

-- ---- holdings on an area

-- A holding of the session on the area.
pub record HeldOn (es : Trace) (s : Session) (at : Spot) (g : Grant) : Type 0 where
  pub there : Contains (holdings es) g
  pub mine : g.session ≡ s.number
  pub spot : spot_of_grant g ≡ at

pub held_on : (es : Trace) (s : Session) (at : Spot) (g : Grant) → Contains (holdings_on es s at) g → HeldOn es s at g
held_on es s at g h =
    let on = kept_inside (λ (x : Grant). same_place x.path x.offset at.path at.base) (holdings_of es s) g h in
    let its = kept_inside (λ (x : Grant). x.session == s.number) (holdings es) g on.0 in
    let place = place_is g.path g.offset at.path at.base on.1 in
    record {
      there = its.0;
      mine = eqb-true g.session s.number its.1;
      spot = ap (λ p. let z : Spot = record { path = p; base = g.offset } in z) place.0 ∙ ap (λ n. let z : Spot = record { path = at.path; base = n } in z) place.1;
    }

pub on_held : (es : Trace) (s : Session) (at : Spot) (g : Grant) → HeldOn es s at g → Contains (holdings_on es s at) g
on_held es s at g h =
    kept (λ (x : Grant). same_place x.path x.offset at.path at.base) (holdings_of es s) g
    (is_place g.path g.offset at.path at.base (ap (λ (z : Spot). z.path) h.spot) (ap (λ (z : Spot). z.base) h.spot))
    (kept (λ (x : Grant). x.session == s.number) (holdings es) g (eq-eqb g.session s.number h.mine) h.there)

-- ---- shared ones

some_found_by : {A : Type 0} (p : A → Bool) (y : A) (ys : List A) (x : A) (b : Bool) → p y ≡ b → p x ≡ true → (y ≡ x) ⊎ Contains ys x
    → (Contains ys x → is_some (find p ys) ≡ true) → is_some (cond b (Some y) (find p ys)) ≡ true
some_found_by p y ys x true is passes at rest = refl
some_found_by p y ys x false is passes (inl here) rest = absurd (true_is_false (sym passes ∙ ap p (sym here) ∙ is))
some_found_by p y ys x false is passes (inr there) rest = rest there

some_found : {A : Type 0} (p : A → Bool) (xs : List A) (x : A) → p x ≡ true → Contains xs x → is_some (find p xs) ≡ true
some_found p [] x passes there = absurd (contains_none x there)
some_found p (y ∷ ys) x passes there = some_found_by p y ys x (p y) refl passes (contains_cases y ys x there) (λ more. some_found p ys x passes more)

pub shared_there : (es : Trace) (s : Session) (at : Spot) (g : Grant) → HeldOn es s at g → is_shared g.mode ≡ true → has_shared_on es s at ≡ true
shared_there es s at g h shared = some_found (λ (x : Grant). is_shared x.mode) (holdings_on es s at) g shared (on_held es s at g h)

pub the_shared : (es : Trace) (s : Session) (at : Spot) → has_shared_on es s at ≡ true → (g : Grant) × HeldOn es s at g × (is_shared g.mode ≡ true)
the_shared es s at h = by (find (λ (x : Grant). is_shared x.mode) (holdings_on es s at)) refl h where
  by : (o : Option Grant) → find (λ (x : Grant). is_shared x.mode) (holdings_on es s at) ≡ o → is_some o ≡ true → (g : Grant) × HeldOn es s at g × (is_shared g.mode ≡ true)
  by None is some = absurd (false_is_true some)
  by (Some g) is some = let r = find_inside (λ (x : Grant). is_shared x.mode) (holdings_on es s at) g is in (g, held_on es s at g r.0, r.1)
