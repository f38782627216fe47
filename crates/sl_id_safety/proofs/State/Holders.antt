-- Who is said to have held a sector at first: the session that has it there.
use Rattle.sl_area.specs.AreaSizes.{Layout}
use Rattle.sl_run_law.proofs.Course.MachinesKeep.{header_machine}
use Rattle.sl_run_law.proofs.Front.JoinedLists.{placed_at}
use Rattle.sl_id_safety.proofs.State.FindingFrames.{find_passes, found_on, on_machine, session_with}
use Rattle.sl_id_safety.proofs.State.Members.{is_daemon, is_first, layout_at}
use Rattle.sl_id_safety.proofs.State.Sectors.{one_holder}
use Rattle.sl_id_safety.specs.State.IdStates.{holder_at, holder_in, holder_on, is_sector_of, name_of, session_named_so}
use Rattle.sl_id_safety.specs.State.StateLaws.{IsIdPlace}
use Rattle.sl_ids.specs.State.{SessionId as IdName}
use Rattle.sl_run_law.proofs.Place.FoundInLists.{finds}
use Rattle.sl_run_law.proofs.Place.SessionNumbers.{session_number}
use Rattle.sl_words.proofs.Lists.{contains_cases, contains_first, contains_more, contains_none, got_inside}
use Rattle.sl_words.proofs.Options.{else_some}
use Rattle.sl_run.specs.Headers.{IsHeader}
use Rattle.sl_run.specs.Safety.{Found, IsSession, SessionId}
use Rattle.sl_run.specs.Worlds.{Daemon, Machine, Program, World, daemon_numbered, daemons_on, machine_at, world_with}
use Rattle.sl_run.specs.declared.header.Header.{Header}
use Rattle.sl_run_law.proofs.MachineWalk.{index, number_within}
use Rattle.sl_trace.specs.Sessions.{session_numbered, sessions}
use Rattle.sl_trace.specs.declared.session.Session.{Session}
use Rattle.sl_words.proofs.CaseLaws.{none_some, some_value}
use Rattle.sl_words.specs.Words.{first_given}
use Rattle.std.proofs.Common.{ap, arith, inl, inr, refl, subst, sym, ◌∙◌}
use Rattle.std.proofs.lemmas.Bool.Decides.{nat_tests}
use Rattle.std.specs.List.{enumerate_from}
use Rattle.std.specs.Prelude.{Contains, List, None, Option, Some, [], false, find, option_and_then, option_map, slice_get, suc, true, zero, ℕ, ◌+◌, ◌-◌, ◌==◌, ◌∷◌, ◌≡◌}

-- ---- the first that is given

given_by : {A B : Type 0} (f : A → Option B) (x : A) (xs : List A) (b : B) (o : Option B) → f x ≡ o
    → elim o as (λ z. Option B) [ Some c ↦ Some c | None ↦ first_given f xs ] ≡ Some b
    → (first_given f xs ≡ Some b → (y : A) × Contains xs y × (f y ≡ Some b)) → (y : A) × Contains (x ∷ xs) y × (f y ≡ Some b)
given_by f x xs b None is h rest = let r = rest h in (r.0, contains_more x xs r.0 r.1, r.2)
given_by f x xs b (Some c) is h rest = (x, contains_first x xs, is ∙ h)

-- One gives it.
from_one : {A B : Type 0} (f : A → Option B) (xs : List A) (b : B) → first_given f xs ≡ Some b → (y : A) × Contains xs y × (f y ≡ Some b)
from_one f [] b h = absurd (none_some b h)
from_one f (x ∷ xs) b h = given_by f x xs b (f x) refl h (from_one f xs b)

gives_by : {A B : Type 0} (f : A → Option B) (x : A) (xs : List A) (o : Option B) → ((o ≡ None) → (c : B) × (first_given f xs ≡ Some c))
    → (c : B) × (elim o as (λ z. Option B) [ Some c ↦ Some c | None ↦ first_given f xs ] ≡ Some c)
gives_by f x xs None rest = rest refl
gives_by f x xs (Some c) rest = (c, refl)

-- Where one gives something, something is given.
some_given : {A B : Type 0} (f : A → Option B) (xs : List A) (y : A) (b : B) → Contains xs y → f y ≡ Some b → (c : B) × (first_given f xs ≡ Some c)
some_given f [] y b there gives = absurd (contains_none y there)
some_given {A} {B} f (x ∷ xs) y b there gives =
    gives_by f x xs (f x) (λ none. elim (contains_cases x xs y there) as (λ z. (c : B) × (first_given f xs ≡ Some c)) [
      | inl here ↦ absurd (none_some b (sym none ∙ ap f here ∙ gives))
      | inr more ↦ some_given f xs y b more gives
    ])

-- ---- the machines with their numbers

numbered : (k : ℕ) (ms : List Machine) (q : ℕ × Machine) → Contains (enumerate_from k ms) q → (n : ℕ) × (slice_get ms n ≡ Some q.1) × (q.0 ≡ k + n)
numbered k [] q there = absurd (contains_none q there)
numbered k (a ∷ ms) q there =
    elim (contains_cases (k, a) (enumerate_from (k + 1) ms) q there) as (λ z. (n : ℕ) × (slice_get (a ∷ ms) n ≡ Some q.1) × (q.0 ≡ k + n)) [
      | inl here ↦ let same : k ≡ k + 0 = omega arith in (0, ap (λ x. Some x.1) here, ap (λ x. x.0) (sym here) ∙ same)
      | inr more ↦ let r = numbered (k + 1) ms q more in let same : (k + 1) + r.0 ≡ k + suc r.0 = omega arith in (suc r.0, r.1, r.2 ∙ same)
    ]

pub has_number : (k : ℕ) (ms : List Machine) (n : ℕ) (a : Machine) → slice_get ms n ≡ Some a → Contains (enumerate_from k ms) (k + n, a)
has_number k [] n a at = absurd (none_some a at)
has_number k (b ∷ ms) zero a at =
    let same : k ≡ k + 0 = omega arith in
    subst (λ x. Contains ((k, b) ∷ enumerate_from (k + 1) ms) (x, a)) same
    (subst (λ x. Contains ((k, b) ∷ enumerate_from (k + 1) ms) (k, x)) (some_value b a at) (contains_first (k, b) (enumerate_from (k + 1) ms)))
has_number k (b ∷ ms) (suc n) a at =
    let same : (k + 1) + n ≡ k + suc n = omega arith in
    subst (λ x. Contains ((k, b) ∷ enumerate_from (k + 1) ms) (x, a)) same (contains_more (k, b) (enumerate_from (k + 1) ms) ((k + 1) + n, a) (has_number (k + 1) ms n a at))

above_none : (m n : ℕ) → m ≡ 1 + n → (m == 0) ≡ false
above_none m n h = grind (arith, nat_tests)

one_less : (m n : ℕ) → m ≡ 1 + n → n ≡ m - 1
one_less m n h = omega (arith, h)

at_number : (w : World) (m n : ℕ) (a : Machine) → m ≡ 1 + n → slice_get w.machines n ≡ Some a → machine_at w m ≡ Some a
at_number w m n a is at = else_some (m == 0) (slice_get w.machines (m - 1)) a (above_none m n is) (subst (λ k. slice_get w.machines k ≡ Some a) (one_less m n is) at)

-- ---- on one machine

-- The session whose sector it is, of the machine's first daemon.
record IsHolder (g : Layout) (path : List ℕ) (offset m : ℕ) (a : Machine) (n : IdName) : Type 0 where
  daemon : Daemon
  first : daemon_numbered a 0 ≡ Some daemon
  session : Session
  there : Contains (sessions daemon.setting []) session
  sector : is_sector_of g path offset session ≡ true
  name : n ≡ record { machine = m; daemon = 0; number = session.number }

held_by : (g : Layout) (path : List ℕ) (offset m : ℕ) (a : Machine) (d : Daemon) (n : IdName) (o : Option Session) → daemon_numbered a 0 ≡ Some d
    → find (is_sector_of g path offset) (sessions d.setting []) ≡ o
    → option_map (λ (s : Session). let x : IdName = record { machine = m; daemon = 0; number = s.number } in x) o ≡ Some n → IsHolder g path offset m a n
held_by g path offset m a d n None first is h = absurd (none_some n h)
held_by g path offset m a d n (Some s) first is h =
    let f = find_passes (is_sector_of g path offset) (sessions d.setting []) s is in
    let x : IdName = record { machine = m; daemon = 0; number = s.number } in
    record { daemon = d; first = first; session = s; there = f.there; sector = f.test; name = sym (some_value x n h) }

held_on : (g : Layout) (path : List ℕ) (offset m : ℕ) (a : Machine) (n : IdName) (o : Option Daemon) → daemon_numbered a 0 ≡ o
    → option_and_then (holder_in g path offset m) o ≡ Some n → IsHolder g path offset m a n
held_on g path offset m a n None first h = absurd (none_some n h)
held_on g path offset m a n (Some d) first h = held_by g path offset m a d n (find (is_sector_of g path offset) (sessions d.setting [])) first refl h

-- ---- in the header's world

-- A session of the header's world that has its sector there.
pub record HoldsFirst (p : Program) (h : Header) (path : List ℕ) (offset : ℕ) (i : SessionId) : Type 0 where
  pub found : Found
  pub is : IsSession (world_with p h) i found
  pub sector : is_sector_of (layout_at p h) path offset found.session ≡ true

session_on_by : (p : Program) (h : Header) (m : ℕ) (a : Machine) (d : Daemon) (s : Session) → machine_at (world_with p h) m ≡ Some a → daemon_numbered a 0 ≡ Some d → d.trace ≡ []
    → Contains (sessions d.setting []) s → IsSession (world_with p h) (record { machine = m; daemon = 0; number = s.number }) (record { machine = a; daemon = d; session = s; now = 0 })
session_on_by p h m a d s at first none there =
    let i : SessionId = record { machine = m; daemon = 0; number = s.number } in
    let place = placed_at (sessions d.setting []) s there in
    let number : place.0 ≡ s.number = sym (session_number d.setting [] place.0 s place.1) in
    let its : session_numbered d.setting d.trace s.number ≡ Some s =
    ap (λ es. session_numbered d.setting es s.number) none ∙ subst (λ k. session_numbered d.setting [] k ≡ Some s) number place.1 in
    found_on (world_with p h) i a at ∙ ap (session_with 0 i a) first
    ∙ ap (option_map (λ (y : Session). let x : Found = record { machine = a; daemon = d; session = y; now = 0 } in x)) its

no_entries : (p : Program) (h : Header) (m : ℕ) (a : Machine) (d : Daemon) → machine_at (world_with p h) m ≡ Some a → daemon_numbered a 0 ≡ Some d → d.trace ≡ []
no_entries p h m a d at first =
    let has = (find_passes (λ (y : Daemon). y.number == 0) (daemons_on a) d first).there in
    ap (λ (y : Daemon). y.trace) (is_daemon p h m d (subst (λ (y : Machine). Contains (daemons_on y) d) (header_machine p h m a at) has)).is

holds_by : (p : Program) (h : Header) (path : List ℕ) (offset m : ℕ) (a : Machine) (n : IdName) → machine_at (world_with p h) m ≡ Some a → IsHolder (layout_at p h) path offset m a n
    → HoldsFirst p h path offset (session_named_so n)
holds_by p h path offset m a n at x =
    subst (λ (y : IdName). HoldsFirst p h path offset (session_named_so y)) (sym x.name)
    (record {
      found = record { machine = a; daemon = x.daemon; session = x.session; now = 0 };
      is = session_on_by p h m a x.daemon x.session at x.first (no_entries p h m a x.daemon at x.first) x.there;
      sector = x.sector;
    })

-- Who is said to have held it has it.
pub holder_holds : (p : Program) (h : Header) (path : List ℕ) (offset : ℕ) (n : IdName) → holder_at (world_with p h) path offset ≡ Some n
    → HoldsFirst p h path offset (session_named_so n)
holder_holds p h path offset n is =
    let one = from_one (holder_on (layout_at p h) path offset) (enumerate_from 1 (world_with p h).machines) n is in
    let at = numbered 1 (world_with p h).machines one.0 one.1 in
    holds_by p h path offset one.0.0 one.0.1 n (at_number (world_with p h) one.0.0 at.0 one.0.1 at.2 at.1)
    (held_on (layout_at p h) path offset one.0.0 one.0.1 n (daemon_numbered one.0.1 0) refl one.2)

some_name : (m : ℕ) (o : Option Session) (s : Session) → o ≡ Some s
    → (n : IdName) × (option_map (λ (y : Session). let x : IdName = record { machine = m; daemon = 0; number = y.number } in x) o ≡ Some n)
some_name m None s is = absurd (none_some s is)
some_name m (Some y) s is = (record { machine = m; daemon = 0; number = y.number }, refl)

named_on : (g : Layout) (path : List ℕ) (offset m : ℕ) (a : Machine) (d : Daemon) (s : Session) → daemon_numbered a 0 ≡ Some d → Contains (sessions d.setting []) s
    → is_sector_of g path offset s ≡ true → (n : IdName) × (holder_on g path offset (m, a) ≡ Some n)
named_on g path offset m a d s first there its =
    let f = finds (is_sector_of g path offset) (sessions d.setting []) s its there in
    let n = some_name m (find (is_sector_of g path offset) (sessions d.setting [])) f.0 f.1 in
    (n.0, ap (option_and_then (holder_in g path offset m)) first ∙ n.1)

-- Where a session has it, one is said to have held it.
some_holder : (p : Program) (h : Header) (path : List ℕ) (offset : ℕ) (i : SessionId) → HoldsFirst p h path offset i
    → (n : IdName) × (holder_at (world_with p h) path offset ≡ Some n)
some_holder p h path offset i x =
    let w : World = world_with p h in
    let m = on_machine w i x.found x.is in
    let first = is_first p h i x.found x.is in
    let at : daemon_numbered m.0 0 ≡ Some x.found.daemon = subst (λ k. daemon_numbered m.0 k ≡ Some x.found.daemon) first.zeroth m.2.daemon in
    let its : session_numbered x.found.daemon.setting [] i.number ≡ Some x.found.session =
    subst (λ es. session_numbered x.found.daemon.setting es i.number ≡ Some x.found.session) (no_entries p h i.machine m.0 x.found.daemon m.1 at) m.2.session in
    let named = named_on (layout_at p h) path offset i.machine m.0 x.found.daemon x.found.session at
    (got_inside (sessions x.found.daemon.setting []) i.number x.found.session its) x.sector in
    let place = index w i.machine m.0 m.1 in
    some_given (holder_on (layout_at p h) path offset) (enumerate_from 1 w.machines) (i.machine, m.0) named.0
    (subst (λ k. Contains (enumerate_from 1 w.machines) (k, m.0)) (number_within w i.machine m.0 m.1).1 (has_number 1 w.machines (i.machine - 1) m.0 place.1)) named.1

-- Who has it is said to have held it.
pub holds_is_holder : (p : Program) (h : Header) (path : List ℕ) (offset : ℕ) (i : SessionId) → IsIdPlace p h path offset → IsHeader h → HoldsFirst p h path offset i
    → holder_at (world_with p h) path offset ≡ Some (name_of i)
holds_is_holder p h path offset i x ok it =
    let some = some_holder p h path offset i it in
    let its = holder_holds p h path offset some.0 some.1 in
    let same : session_named_so some.0 ≡ i =
    one_holder p h path offset (session_named_so some.0) i its.found it.found x ok (is_first p h (session_named_so some.0) its.found its.is) (is_first p h i it.found it.is) its.sector it.sector in
    some.1 ∙ ap (λ (k : SessionId). Some (name_of k)) same
