-- After each lawful run no two uses conflict, neither of what is held nor of what lingers.
--
-- Of two that conflict one is exclusive, and both are of one resource. There the argument over ballots gives them one holder, and
-- names of joined sessions are apart: so both are of one session, thus of one machine, and a machine doesn't conflict with itself.
use Rattle.sl_run_law.proofs.Front.RunsFromFronts.{fronts_are_lawful}
use Rattle.sl_safety.proofs.Holding.Holders.{one_machine_agrees, uses_are_held}
use Rattle.sl_safety.specs.Holding.Holders.{HeldBy, RestsOn, orphaned}
use Rattle.sl_ballot_law.proofs.Grantings.GrantsMeet.{none_shares_beside, one_is_kept}
use Rattle.sl_run_law.proofs.Place.FoundInLists.{place_is}
use Rattle.sl_words.proofs.Lists.{any_found}
use Rattle.sl_safety.specs.Resources.HistoryLaws.{history_of_line}
use Rattle.sl_run.specs.Conflicts.{Holding, IsExclusive, conflicts, has_conflict, is_one_user, world_uses}
use Rattle.sl_run.specs.Runs.{Happening}
use Rattle.sl_run.specs.Safety.{LawfulRun, Safety, SessionId, world_at}
use Rattle.sl_run.specs.Worlds.{Program}
use Rattle.sl_run.specs.declared.header.Header.{Header}
use Rattle.sl_run.specs.declared.header.ResourceLine.{ResourceLine}
use Rattle.sl_safety.proofs.HistoriesAreLawful.{are_lawful}
use Rattle.sl_safety.proofs.HoldingsOfResources.{ExclusiveOf, HoldsAsShared, HoldsExclusive, SharedOf, exclusive_of, of_one_resource, shared_of}
use Rattle.sl_safety.specs.Histories.{HistoriesKeepInstances}
use Rattle.sl_safety.proofs.Sessions.NamesAreApart.{names_are_apart}
use Rattle.sl_trace.specs.Traces.{is_shared, same_place}
use Rattle.sl_words.proofs.CaseLaws.{false_is_true, true_or_false}
use Rattle.sl_words.proofs.WordLaws.{and_true}
use Rattle.std.proofs.Common.{ap, inl, inr, refl, subst, sym, ◌∙◌}
use Rattle.std.specs.List.{list_any}
use Rattle.std.specs.Prelude.{Bool, Contains, List, false, not, true, ◌&&◌, ◌≡◌, ◌⊎◌}

-- ---- of one resource

-- Sessions that hold it exclusive are one.
one_holds : HistoriesKeepInstances → (p : Program) (h : Header) (xs : List Happening) → LawfulRun p h xs → (r : ResourceLine) → Contains h.resources r → (i k : SessionId)
    → HoldsExclusive p h xs i r → HoldsExclusive p h xs k r → i ≡ k
one_holds instances_given p h xs run r there i k x y =
    let one = one_is_kept (history_of_line p h xs r) (are_lawful p h xs r run there) (instances_given p h xs r run there) x.grant y.grant x.granted y.granted
    (world_at p h xs).step x.kept y.kept in
    names_are_apart p h xs r run there i k x.joined y.joined (sym x.holder ∙ one.0 ∙ y.holder)

-- Beside one no other holds it shared.
none_holds_shared : HistoriesKeepInstances → (p : Program) (h : Header) (xs : List Happening) → LawfulRun p h xs → (r : ResourceLine) → Contains h.resources r
    → (i k : SessionId) → HoldsExclusive p h xs i r → HoldsAsShared p h xs k r → i ≡ k
none_holds_shared instances_given p h xs run r there i k x y =
    let one = none_shares_beside (history_of_line p h xs r) (are_lawful p h xs r run there) (instances_given p h xs r run there) x.grant x.granted y.grant
    (world_at p h xs).step x.kept y.shared in
    names_are_apart p h xs r run there i k x.joined y.joined (sym x.holder ∙ one ∙ y.holder)

-- ---- of one place

-- An exclusive holding and any other of the place are of one session.
same_session : HistoriesKeepInstances → (p : Program) (h : Header) (xs : List Happening) → LawfulRun p h xs → (x y : Holding) (f : HeldBy (world_at p h xs) x)
    (g : HeldBy (world_at p h xs) y) → x.held.path ≡ y.held.path → x.held.offset ≡ y.held.offset → is_shared x.held.mode ≡ false → f.session ≡ g.session
same_session instances_given p h xs run x y f g paths offsets exclusive =
    let a : ExclusiveOf p h xs f.session x.held = exclusive_of p h xs run x f exclusive in
    elim (true_or_false (is_shared y.held.mode)) [
      | inl shared ↦
          let c : SharedOf p h xs g.session y.held = shared_of p h xs run y g shared in
          let same = of_one_resource h run.header x.held y.held a.resource c.resource a.of c.of paths offsets in
          none_holds_shared instances_given p h xs run a.resource a.of.there f.session g.session a.holds
          (subst (λ (r : ResourceLine). HoldsAsShared p h xs g.session r) (sym same) c.holds)
      | inr other ↦
          let c : ExclusiveOf p h xs g.session y.held = exclusive_of p h xs run y g other in
          let same = of_one_resource h run.header x.held y.held a.resource c.resource a.of c.of paths offsets in
          one_holds instances_given p h xs run a.resource a.of.there f.session g.session a.holds
          (subst (λ (r : ResourceLine). HoldsExclusive p h xs g.session r) (sym same) c.holds)
    ]

-- ---- what a conflict says

one_exclusive : (a c : Bool) → not (a && c) ≡ true → (a ≡ false) ⊎ (c ≡ false)
one_exclusive false c is = inl refl
one_exclusive true false is = inr refl
one_exclusive true true is = absurd (false_is_true is)

-- What a use rests on has its machine, its place and its mode.
record IsLike (x a : Holding) : Type 0 where
  machine : x.machine ≡ a.machine
  path : x.held.path ≡ a.held.path
  offset : x.held.offset ≡ a.held.offset
  mode : x.held.mode ≡ a.held.mode

is_like : (x a : Holding) → (x ≡ a) ⊎ (x ≡ orphaned a) → IsLike x a
is_like x a (inl is) =
    record {
      machine = ap (λ (z : Holding). z.machine) is;
      path = ap (λ (z : Holding). z.held.path) is;
      offset = ap (λ (z : Holding). z.held.offset) is;
      mode = ap (λ (z : Holding). z.held.mode) is;
    }
is_like x a (inr is) =
    record {
      machine = ap (λ (z : Holding). z.machine) is;
      path = ap (λ (z : Holding). z.held.path) is;
      offset = ap (λ (z : Holding). z.held.offset) is;
      mode = ap (λ (z : Holding). z.held.mode) is;
    }

-- Both are of one machine.
one_machine : HistoriesKeepInstances → (p : Program) (h : Header) (xs : List Happening) → LawfulRun p h xs → (x y : Holding) → RestsOn (world_at p h xs) x
    → RestsOn (world_at p h xs) y → conflicts x y ≡ true → x.machine ≡ y.machine
one_machine instances_given p h xs run x y k l is =
    let parts = and_true (same_place x.held.path x.held.offset y.held.path y.held.offset && not (is_shared x.held.mode && is_shared y.held.mode))
    (not (is_one_user x y)) is in
    let first = and_true (same_place x.held.path x.held.offset y.held.path y.held.offset) (not (is_shared x.held.mode && is_shared y.held.mode)) parts.0 in
    let place = place_is x.held.path x.held.offset y.held.path y.held.offset first.0 in
    let a : Holding = k.before in
    let c : Holding = l.before in
    let u : IsLike x a = is_like x a k.follows in
    let v : IsLike y c = is_like y c l.follows in
    let paths : a.held.path ≡ c.held.path = sym u.path ∙ place.0 ∙ v.path in
    let offsets : a.held.offset ≡ c.held.offset = sym u.offset ∙ place.1 ∙ v.offset in
    let same : k.held.session ≡ l.held.session =
    elim (one_exclusive (is_shared x.held.mode) (is_shared y.held.mode) first.1) [
      | inl exclusive ↦ same_session instances_given p h xs run a c k.held l.held paths offsets (ap is_shared (sym u.mode) ∙ exclusive)
      | inr exclusive ↦ sym (same_session instances_given p h xs run c a l.held k.held (sym paths) (sym offsets) (ap is_shared (sym v.mode) ∙ exclusive))
    ] in
    u.machine ∙ sym k.held.machine ∙ ap (λ (i : SessionId). i.machine) same ∙ l.held.machine ∙ sym v.machine

-- So there is none.
never_conflict : HistoriesKeepInstances → (p : Program) (h : Header) (xs : List Happening) → LawfulRun p h xs → (x y : Holding)
    → Contains (world_uses (world_at p h xs)) x → Contains (world_uses (world_at p h xs)) y → conflicts x y ≡ true → ⊥
never_conflict instances_given p h xs run x y there also is =
    let same = one_machine instances_given p h xs run x y (uses_are_held p h xs run x there) (uses_are_held p h xs run y also) is in
    false_is_true (sym (one_machine_agrees p h xs run x y there also same) ∙ is)

exclusive_after : HistoriesKeepInstances → (p : Program) (h : Header) (xs : List Happening) → LawfulRun p h xs → IsExclusive (world_at p h xs)
exclusive_after instances_given p h xs run =
    elim (true_or_false (has_conflict (world_uses (world_at p h xs)))) [
      | inl some ↦
          let hs : List Holding = world_uses (world_at p h xs) in
          let x = any_found (λ a. list_any (conflicts a) hs) hs some in
          let y = any_found (conflicts x.0) hs x.2 in
          absurd (never_conflict instances_given p h xs run x.0 y.0 x.1 y.1 y.2)
      | inr none ↦ none
    ]

pub safety_given : HistoriesKeepInstances → Safety
safety_given instances_given p h xs run now rest whole =
    exclusive_after instances_given p h now (fronts_are_lawful p h now rest (subst (λ (ys : List Happening). LawfulRun p h ys) whole run))
