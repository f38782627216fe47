-- Of two machines on which a logical volume is active both have it shared: the holdings of its lock are of one place, and don't conflict.
use Rattle.sl_run_law.proofs.Front.JoinedLists.{contains_left, in_flat}
use Rattle.sl_safety.proofs.Holding.Places.{is_place, place_is}
use Rattle.sl_run.specs.LockNames.{group_path}
use Rattle.sl_words.proofs.Lists.{any_of, contains_first, contains_map, contains_more}
use Rattle.sl_run.specs.Conflicts.{Holding, IsExclusive, conflicts, holding, is_one_user, world_holdings, world_lingering, world_uses}
use Rattle.sl_run.specs.Volumes.{VolumesAreExclusive}
use Rattle.sl_run.specs.Safety.{Safety, world_at}
use Rattle.sl_run.specs.Worlds.{Machine, World, machine_at}
use Rattle.sl_safety.specs.Volumes.{VolumesExclude}
use Rattle.sl_trace.specs.Traces.{is_shared, same_place}
use Rattle.sl_trace.specs.declared.effects.Grant.{Grant}
use Rattle.sl_trace.specs.declared.effects.Mode.TheVariants.{Exclusive, Shared}
use Rattle.sl_trace.specs.declared.effects.Mode.{Mode}
use Rattle.sl_words.proofs.CaseLaws.{none_some, some_value, true_is_false, true_or_false}
use Rattle.sl_words.proofs.WordLaws.{and_true}
use Rattle.std.proofs.Common.{ap, arith, inl, inr, refl, subst, sym, ◌∙◌}
use Rattle.std.proofs.lemmas.Bool.Decides.{nat_tests}
use Rattle.std.proofs.lemmas.Bool.{ne_eqb}
use Rattle.std.specs.List.{enumerate_from, list_any}
use Rattle.std.specs.Prelude.{Bool, Contains, List, None, Some, false, if◌then◌else◌, map, not, slice_get, suc, true, zero, [], ℕ, ◌&&◌, ◌*◌, ◌+◌, ◌-◌, ◌==◌, ◌||◌, ◌∷◌, ◌≡◌}

-- ---- a holding of a machine is one of the world

after_zero : (m : ℕ) → (m == 0) ≡ false → m ≡ 1 + (m - 1)
after_zero m h = grind (arith, nat_tests)

place_by : (m : ℕ) (ms : List Machine) (a : Machine) (b : Bool) → (m == 0) ≡ b → (if b then None else slice_get ms (m - 1)) ≡ Some a
    → (n : ℕ) × (m ≡ 1 + n) × (slice_get ms n ≡ Some a)
place_by m ms a true is h = absurd (none_some a h)
place_by m ms a false is h = (m - 1, after_zero m is, h)

numbered_there : (k : ℕ) (ms : List Machine) (n : ℕ) (a : Machine) → slice_get ms n ≡ Some a → Contains (enumerate_from k ms) (k + n, a)
numbered_there k [] n a at = absurd (none_some a at)
numbered_there k (b ∷ ms) zero a at =
    let same : k ≡ k + 0 = omega arith in
    subst (λ x. Contains ((k, b) ∷ enumerate_from (k + 1) ms) (x, a)) same
    (subst (λ x. Contains ((k, b) ∷ enumerate_from (k + 1) ms) (k, x)) (some_value b a at) (contains_first (k, b) (enumerate_from (k + 1) ms)))
numbered_there k (b ∷ ms) (suc n) a at =
    let same : (k + 1) + n ≡ k + suc n = omega arith in
    subst (λ x. Contains ((k, b) ∷ enumerate_from (k + 1) ms) (x, a)) same (contains_more (k, b) (enumerate_from (k + 1) ms) ((k + 1) + n, a) (numbered_there (k + 1) ms n a at))

in_world : (w : World) (m : ℕ) (a : Machine) (g : Grant) → machine_at w m ≡ Some a → Contains a.holdings g → Contains (world_uses w) (holding m g)
in_world w m a g at has =
    let n = place_by m w.machines a (m == 0) refl at in
    contains_left (world_holdings w) (world_lingering w) (holding m g)
    (in_flat (λ (p : ℕ × Machine). map (holding p.0) p.1.holdings) (enumerate_from 1 w.machines) (m, a) (holding m g)
    (subst (λ k. Contains (enumerate_from 1 w.machines) (k, a)) (sym n.1) (numbered_there 1 w.machines n.0 a n.2)) (contains_map (holding m) a.holdings g has))

-- ---- of two, neither conflicts with the other

no_conflict : (w : World) → IsExclusive w → (x y : Holding) → Contains (world_uses w) x → Contains (world_uses w) y → conflicts x y ≡ false
no_conflict w safe x y there also =
    let hs : List Holding = world_uses w in
    elim (true_or_false (conflicts x y)) [
      | inl is ↦ absurd (true_is_false (sym (any_of (λ a. list_any (conflicts a) hs) hs x (any_of (conflicts x) hs y is also) there) ∙ safe))
      | inr none ↦ none
    ]

both_by : (same both one : Bool) → same ≡ true → one ≡ false → (same && not both && not one) ≡ false → both ≡ true
both_by same true one p q h = refl
both_by true false false p q h = absurd (true_is_false h)
both_by true false true p q h = absurd (true_is_false q)
both_by false false one p q h = absurd (true_is_false (sym p))

is_shared_mode : (m : Mode) → is_shared m ≡ true → m ≡ Shared
is_shared_mode Shared h = refl
is_shared_mode Exclusive h = absurd (true_is_false (sym h))

volumes_in : (w : World) → IsExclusive w → VolumesAreExclusive w
volumes_in w safe m k a b group number mode other at there apart (g, has, mine, place, is) (h, also, its, same, too) =
    let one = place_is g.path g.offset (group_path group) (number * w.layout.area) place in
    let two = place_is h.path h.offset (group_path group) (number * w.layout.area) same in
    let here : same_place g.path g.offset h.path h.offset ≡ true = is_place g.path g.offset h.path h.offset (one.0 ∙ sym two.0) (one.1 ∙ sym two.1) in
    let differ : is_one_user (holding m g) (holding k h) ≡ false = ap (λ x. x && (g.process == h.process || false || false)) (ne_eqb m k apart) in
    let both : (is_shared g.mode && is_shared h.mode) ≡ true =
    both_by (same_place g.path g.offset h.path h.offset) (is_shared g.mode && is_shared h.mode) (is_one_user (holding m g) (holding k h)) here differ
    (no_conflict w safe (holding m g) (holding k h) (in_world w m a g at has) (in_world w k b h there also)) in
    let shared = and_true (is_shared g.mode) (is_shared h.mode) both in
    (sym is ∙ is_shared_mode g.mode shared.0, sym too ∙ is_shared_mode h.mode shared.1)

pub volumes_given : Safety → VolumesExclude
volumes_given safe p h xs run now rest whole = volumes_in (world_at p h now) (safe p h xs run now rest whole)
