-- The sessions of the header's world: one for each session line.
use Rattle.sl_area.specs.AreaSizes.{Layout, layout_with}
use Rattle.sl_run_law.proofs.Course.Daemons.{daemon_of_line, every_has, first_daemons}
use Rattle.sl_run_law.proofs.Course.MachinesKeep.{header_machine}
use Rattle.sl_id_safety.proofs.State.FindingFrames.{IsFound, find_passes, on_machine}
use Rattle.sl_run_law.proofs.Place.FoundInLists.{finds, same_text}
use Rattle.sl_words.proofs.Lists.{got_index}
use Rattle.sl_run.specs.Headers.{IsHeader}
use Rattle.sl_run.specs.Safety.{Found, IsSession, SessionId}
use Rattle.sl_run.specs.Worlds.{Daemon, Machine, Program, clock_reading, daemons_on, given_of, machine_of_header, world_with}
use Rattle.sl_run.specs.declared.header.Header.{Header}
use Rattle.sl_run.specs.declared.header.LockspaceLine.{LockspaceLine}
use Rattle.sl_run.specs.declared.header.SessionLine.{SessionLine}
use Rattle.sl_trace.specs.Sessions.{given_session, session_numbered}
use Rattle.sl_trace.specs.declared.session.Session.{Session}
use Rattle.sl_trace.specs.declared.input.Given.{Given}
use Rattle.sl_words.proofs.CaseLaws.{none_some, some_value}
use Rattle.std.proofs.Common.{ap, arith, refl, subst, sym, ◌∙◌}
use Rattle.std.proofs.lemmas.Bool.{eq-eqb, eqb-true}
use Rattle.std.proofs.lemmas.Option.{slice_get_within}
use Rattle.std.proofs.lemmas.Slice.Eq.{bytes_eq-Decides}
use Rattle.std.specs.List.{cons_option, enumerate_from}
use Rattle.std.specs.Prelude.{AllPairs, Bool, Contains, List, None, Option, Some, bytes_eq, false, filter_map, find, map, option_map, slice_get, slice_index_or, suc, true, zero, [], ℕ, ◌+◌, ◌<◌, ◌==◌, ◌∷◌, ◌≡◌}

-- The layout of a header.
abbrev pub layout_at : Program → Header → Layout
layout_at p h = layout_with p.digest h.geometry

-- What the first daemon of a machine is given.
abbrev pub givens : Header → ℕ → List Given
givens h m = filter_map (given_of h m) h.sessions

-- ---- pairs of a list

-- What holds of each two holds of these.
pub pair_of : {A : Type 0} (R : A → A → Type 0) (xs : List A) (i j : ℕ) (x y : A) → AllPairs R xs → slice_get xs i ≡ Some x → slice_get xs j ≡ Some y → i < j → R x y
pair_of R xs i j x y all at there less =
    subst (λ z. R z y) (got_index xs i x x at) (subst (R (slice_index_or xs i x)) (got_index xs j y x there) (all i j x less (slice_get_within xs j y there)))

-- ---- what is given

-- The element of which the n-th is given, with its place.
record IsPlaced {A B : Type 0} (f : A → Option B) (xs : List A) (b : B) : Type 0 where
  place : ℕ
  element : A
  at : slice_get xs place ≡ Some element
  gives : f element ≡ Some b

placed_by : {A B : Type 0} (f : A → Option B) (x : A) (xs : List A) (n : ℕ) (b : B) (o : Option B) → f x ≡ o → slice_get (cons_option o (filter_map f xs)) n ≡ Some b
    → ((k : ℕ) → slice_get (filter_map f xs) k ≡ Some b → IsPlaced f xs b) → IsPlaced f (x ∷ xs) b
placed_by f x xs n b None is at rest = let r = rest n at in record { place = suc r.place; element = r.element; at = r.at; gives = r.gives }
placed_by f x xs zero b (Some y) is at rest = record { place = 0; element = x; at = refl; gives = is ∙ at }
placed_by f x xs (suc n) b (Some y) is at rest = let r = rest n at in record { place = suc r.place; element = r.element; at = r.at; gives = r.gives }

placed : {A B : Type 0} (f : A → Option B) (xs : List A) (n : ℕ) (b : B) → slice_get (filter_map f xs) n ≡ Some b → IsPlaced f xs b
placed f [] n b at = absurd (none_some b at)
placed f (x ∷ xs) n b at = placed_by f x xs n b (f x) refl at (λ k rest. placed f xs k b rest)

-- At most one element gives such a value.
abbrev pub OneGives : {A B : Type 0} → (A → Option B) → (B → Type 0) → List A → Type 0
OneGives {A} {B} f Q xs = (i j : ℕ) (x y : A) (u v : B) → slice_get xs i ≡ Some x → slice_get xs j ≡ Some y → f x ≡ Some u → f y ≡ Some v → Q u → Q v → i ≡ j

shifted : {A B : Type 0} (f : A → Option B) (Q : B → Type 0) (x : A) (xs : List A) → OneGives f Q (x ∷ xs) → OneGives f Q xs
shifted f Q x xs one i j a b u v at there gives also p q = let same = one (suc i) (suc j) a b u v at there gives also p q in omega (arith, same)

never_zero : (k : ℕ) → 0 ≡ suc k → ⊥
never_zero k h = omega (arith, h)

not_both_places : {A B : Type 0} (f : A → Option B) (Q : B → Type 0) (x : A) (xs : List A) (n : ℕ) (u v : B) → OneGives f Q (x ∷ xs) → f x ≡ Some u
    → slice_get (filter_map f xs) n ≡ Some v → Q u → Q v → ⊥
not_both_places f Q x xs n u v one is at p q =
    let r = placed f xs n v at in
    never_zero r.place (one 0 (suc r.place) x r.element u v refl r.at is r.gives p q)

one_by : {A B : Type 0} (f : A → Option B) (Q : B → Type 0) (x : A) (xs : List A) (n k : ℕ) (u v : B) (o : Option B) → OneGives f Q (x ∷ xs) → f x ≡ o
    → slice_get (cons_option o (filter_map f xs)) n ≡ Some u → slice_get (cons_option o (filter_map f xs)) k ≡ Some v → Q u → Q v
    → ((i j : ℕ) → slice_get (filter_map f xs) i ≡ Some u → slice_get (filter_map f xs) j ≡ Some v → i ≡ j) → n ≡ k
one_by f Q x xs n k u v None one is at there p q rest = rest n k at there
one_by f Q x xs zero zero u v (Some y) one is at there p q rest = refl
one_by f Q x xs zero (suc k) u v (Some y) one is at there p q rest = absurd (not_both_places f Q x xs k u v one (is ∙ at) there p q)
one_by f Q x xs (suc n) zero u v (Some y) one is at there p q rest = absurd (not_both_places f Q x xs n v u one (is ∙ there) at q p)
one_by f Q x xs (suc n) (suc k) u v (Some y) one is at there p q rest = ap (λ i. suc i) (rest n k at there)

-- .. so it is given once.
pub one_given : {A B : Type 0} (f : A → Option B) (Q : B → Type 0) (xs : List A) (n k : ℕ) (u v : B) → OneGives f Q xs → slice_get (filter_map f xs) n ≡ Some u
    → slice_get (filter_map f xs) k ≡ Some v → Q u → Q v → n ≡ k
one_given f Q [] n k u v one at there p q = absurd (none_some u at)
one_given f Q (x ∷ xs) n k u v one at there p q =
    one_by f Q x xs n k u v (f x) one refl at there p q (λ i j a b. one_given f Q xs i j u v (shifted f Q x xs one) a b p q)

-- ---- a session line and what is given of it

-- What is given of a session line.
abbrev pub given_by_line : Header → ℕ → SessionLine → LockspaceLine → Given
given_by_line h m s l = record { lockspace = s.lockspace; id = s.id; path = l.path; offset = l.offset; renewed = clock_reading h m }

pub record IsGivenOf (h : Header) (m : ℕ) (s : SessionLine) (g : Given) : Type 0 where
  pub machine : s.machine ≡ m
  pub lockspace : LockspaceLine
  pub there : Contains h.lockspaces lockspace
  pub name : lockspace.name ≡ s.lockspace
  pub is : g ≡ given_by_line h m s lockspace

given_line : (h : Header) (m : ℕ) (s : SessionLine) (g : Given) (o : Option LockspaceLine) → s.machine ≡ m
    → find (λ (l : LockspaceLine). bytes_eq l.name s.lockspace) h.lockspaces ≡ o → option_map (given_by_line h m s) o ≡ Some g → IsGivenOf h m s g
given_line h m s g None on is given = absurd (none_some g given)
given_line h m s g (Some l) on is given =
    let f = find_passes (λ (l : LockspaceLine). bytes_eq l.name s.lockspace) h.lockspaces l is in
    record { machine = on; lockspace = l; there = f.there; name = same_text l.name s.lockspace f.test; is = sym (some_value (given_by_line h m s l) g given) }

given_where : (h : Header) (m : ℕ) (s : SessionLine) (g : Given) (b : Bool) → (s.machine == m) ≡ b
    → elim b as (λ z. Option Given) [
      | false ↦ None
      | true ↦ option_map (given_by_line h m s) (find (λ (l : LockspaceLine). bytes_eq l.name s.lockspace) h.lockspaces)
    ] ≡ Some g → IsGivenOf h m s g
given_where h m s g false is given = absurd (none_some g given)
given_where h m s g true is given =
    given_line h m s g (find (λ (l : LockspaceLine). bytes_eq l.name s.lockspace) h.lockspaces) (eqb-true s.machine m is) refl given

pub is_given : (h : Header) (m : ℕ) (s : SessionLine) (g : Given) → given_of h m s ≡ Some g → IsGivenOf h m s g
is_given h m s g given = given_where h m s g (s.machine == m) refl given

gives_line : (h : Header) (s : SessionLine) (o : Option LockspaceLine) (l : LockspaceLine) → o ≡ Some l
    → (g : Given) × (option_map (given_by_line h s.machine s) o ≡ Some g)
gives_line h s None l is = absurd (none_some l is)
gives_line h s (Some k) l is = (given_by_line h s.machine s k, refl)

gives_where : (h : Header) (s : SessionLine) (b : Bool) (o : Option LockspaceLine) (l : LockspaceLine) → b ≡ true → o ≡ Some l
    → (g : Given) × (elim b as (λ z. Option Given) [ false ↦ None | true ↦ option_map (given_by_line h s.machine s) o ] ≡ Some g)
gives_where h s true o l is at = gives_line h s o l at
gives_where h s false o l is at = absurd (false_true is) where
  false_true : false ≡ true → ⊥
  false_true e = absurd cc

pub equal_texts : (a b : List ℕ) → a ≡ b → bytes_eq a b ≡ true
equal_texts a b h = (bytes_eq-Decides a b).1 h

-- Of each session line its machine's daemon is given one.
pub line_gives : (h : Header) (s : SessionLine) → IsHeader h → Contains h.sessions s → (g : Given) × (given_of h s.machine s ≡ Some g)
line_gives h s ok there =
    let space = (ok.members s there).lockspace in
    let found = finds (λ (l : LockspaceLine). bytes_eq l.name s.lockspace) h.lockspaces space.0 (equal_texts space.0.name s.lockspace space.2) space.1 in
    gives_where h s (s.machine == s.machine) (find (λ (l : LockspaceLine). bytes_eq l.name s.lockspace) h.lockspaces) found.0
    (eq-eqb s.machine s.machine refl) found.1

there_by : {A B : Type 0} (f : A → Option B) (y : A) (ys : List A) (b : B) (o : Option B) → f y ≡ o
    → ((n : ℕ) × (slice_get (filter_map f ys) n ≡ Some b)) → (n : ℕ) × (slice_get (cons_option o (filter_map f ys)) n ≡ Some b)
there_by f y ys b None is rest = rest
there_by f y ys b (Some c) is rest = (suc rest.0, rest.1)

here_by : {A B : Type 0} (f : A → Option B) (ys : List A) (b : B) (o : Option B) → o ≡ Some b → (n : ℕ) × (slice_get (cons_option o (filter_map f ys)) n ≡ Some b)
here_by f ys b None is = absurd (none_some b is)
here_by f ys b (Some c) is = (0, is)

-- What an element gives is given.
pub given_place : {A B : Type 0} (f : A → Option B) (xs : List A) (i : ℕ) (x : A) (b : B) → slice_get xs i ≡ Some x → f x ≡ Some b
    → (n : ℕ) × (slice_get (filter_map f xs) n ≡ Some b)
given_place f [] i x b at gives = absurd (none_some x at)
given_place f (y ∷ xs) zero x b at gives = here_by f xs b (f y) (ap f (some_value y x at) ∙ gives)
given_place f (y ∷ xs) (suc i) x b at gives = there_by f y xs b (f y) refl (given_place f xs i x b at gives)

-- ---- a session of the header's world

-- The session of a setting with this number.
pub session_at_place : (k : ℕ) (gs : List Given) (n : ℕ) (g : Given) → slice_get gs n ≡ Some g → slice_get (map given_session (enumerate_from k gs)) n ≡ Some (given_session (k + n, g))
session_at_place k [] n g at = absurd (none_some g at)
session_at_place k (x ∷ gs) zero g at =
    let same : k ≡ k + 0 = omega arith in ap (λ y. Some (given_session (k, y))) (some_value x g at) ∙ ap (λ i. Some (given_session (i, g))) same
session_at_place k (x ∷ gs) (suc n) g at =
    let same : (k + 1) + n ≡ k + suc n = omega arith in session_at_place (k + 1) gs n g at ∙ ap (λ i. Some (given_session (i, g))) same

place_of_session : (k : ℕ) (gs : List Given) (n : ℕ) (s : Session) → slice_get (map given_session (enumerate_from k gs)) n ≡ Some s
    → (g : Given) × (slice_get gs n ≡ Some g) × (s ≡ given_session (k + n, g))
place_of_session k [] n s at = absurd (none_some s at)
place_of_session k (x ∷ gs) zero s at =
    let same : k ≡ k + 0 = omega arith in (x, refl, sym (some_value (given_session (k, x)) s at) ∙ ap (λ i. given_session (i, x)) same)
place_of_session k (x ∷ gs) (suc n) s at =
    let same : (k + 1) + n ≡ k + suc n = omega arith in
    let r = place_of_session (k + 1) gs n s at in
    (r.0, r.1, r.2 ∙ ap (λ i. given_session (i, r.0)) same)

nothing_before : (n : ℕ) → 0 + n ≡ n
nothing_before n = omega arith

-- A daemon of the header's world.
pub record IsDaemon (p : Program) (h : Header) (m : ℕ) (d : Daemon) : Type 0 where
  pub line : SessionLine
  pub found : find (λ x. x.machine == m) h.sessions ≡ Some line
  pub is : d ≡ daemon_of_line p (layout_at p h) h m line

pub is_daemon : (p : Program) (h : Header) (m : ℕ) (d : Daemon) → Contains (daemons_on (machine_of_header p (layout_at p h) h m)) d → IsDaemon p h m d
is_daemon p h m d has =
    every_has (IsDaemon p h m) (daemons_on (machine_of_header p (layout_at p h) h m)) d
    (first_daemons p (layout_at p h) h m (IsDaemon p h m) (λ s is. record { line = s; found = is; is = refl })) has

-- A session of the header's world, with its session line.
pub record IsFirst (p : Program) (h : Header) (i : SessionId) (f : Found) : Type 0 where
  pub machine : f.machine ≡ machine_of_header p (layout_at p h) h i.machine
  pub daemon : IsDaemon p h i.machine f.daemon
  pub zeroth : i.daemon ≡ 0
  pub given : Given
  pub at : slice_get (givens h i.machine) i.number ≡ Some given
  pub session : f.session ≡ given_session (i.number, given)
  pub now : f.now ≡ 0
  pub place : ℕ
  pub line : SessionLine
  pub there : slice_get h.sessions place ≡ Some line
  pub of_line : IsGivenOf h i.machine line given

first_by : (p : Program) (h : Header) (i : SessionId) (a : Machine) (f : Found) → a ≡ machine_of_header p (layout_at p h) h i.machine → IsFound 0 i a f → IsFirst p h i f
first_by p h i a f is found =
    let d = is_daemon p h i.machine f.daemon (subst (λ (y : Machine). Contains (daemons_on y) f.daemon) is found.has) in
    let at : slice_get (map given_session (enumerate_from 0 (givens h i.machine))) i.number ≡ Some f.session =
    subst (λ (y : Daemon). session_numbered y.setting y.trace i.number ≡ Some f.session) d.is found.session in
    let r = place_of_session 0 (givens h i.machine) i.number f.session at in
    let line = placed (given_of h i.machine) h.sessions i.number r.0 r.1 in
    record {
      machine = found.machine ∙ is;
      daemon = d;
      zeroth = sym found.number ∙ ap (λ (y : Daemon). y.number) d.is;
      given = r.0;
      at = r.1;
      session = r.2 ∙ ap (λ n. given_session (n, r.0)) (nothing_before i.number);
      now = found.now;
      place = line.place;
      line = line.element;
      there = line.at;
      of_line = is_given h i.machine line.element r.0 line.gives;
    }

pub is_first : (p : Program) (h : Header) (i : SessionId) (f : Found) → IsSession (world_with p h) i f → IsFirst p h i f
is_first p h i f at =
    let m = on_machine (world_with p h) i f at in
    first_by p h i m.0 f (header_machine p h i.machine m.0 m.1) m.2
