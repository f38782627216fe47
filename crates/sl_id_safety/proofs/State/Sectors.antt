-- Whose sector a place of an id is in the header's world: that of the session whose line has its lockspace and id, and of no other.
use Rattle.sl_area.specs.AreaSizes.{Layout, Sizes}
use Rattle.sl_area.specs.AreaLayout.{delta_offset, in_area}
use Rattle.sl_run_law.proofs.Course.Daemons.{daemon_of_line}
use Rattle.sl_run_law.proofs.Front.JoinedLists.{placed_at}
use Rattle.sl_id_safety.proofs.State.FindingFrames.{found_on, session_with}
use Rattle.sl_id_safety.proofs.State.CallLaws.{is_place}
use Rattle.sl_id_safety.proofs.State.Members.{IsFirst, IsGivenOf, given_by_line, given_place, givens, is_given, layout_at, line_gives, one_given, pair_of, session_at_place}
use Rattle.sl_id_safety.specs.State.IdStates.{is_sector_of}
use Rattle.sl_id_safety.specs.State.StateLaws.{IsIdPlace}
use Rattle.sl_run_law.proofs.Place.Areas.{lockspace_aligned, one_lockspace, same_base}
use Rattle.sl_run_law.proofs.Place.Checks.{same_slot}
use Rattle.sl_run_law.proofs.Place.FoundInLists.{finds, place_is}
use Rattle.sl_run_law.proofs.Place.Seats.{delta_within}
use Rattle.sl_run_law.proofs.Place.Sizes.{IsSized, sized}
use Rattle.sl_words.proofs.Lists.{got_inside}
use Rattle.sl_words.proofs.Numbers.{one_again, one_index}
use Rattle.sl_words.proofs.Options.{else_some}
use Rattle.sl_run.specs.Headers.{GoTogether, IsHeader}
use Rattle.sl_run.specs.Safety.{Found, IsSession, SessionId}
use Rattle.sl_run.specs.Worlds.{Daemon, Machine, Program, daemon_numbered, given_of, machine_at, machine_of_header, world_with}
use Rattle.sl_run.specs.declared.header.Header.{Header}
use Rattle.sl_run.specs.declared.header.LockspaceLine.{LockspaceLine}
use Rattle.sl_run.specs.declared.header.SessionLine.{SessionLine}
use Rattle.sl_trace.specs.Sessions.{given_session}
use Rattle.sl_trace.specs.declared.session.Session.{Session}
use Rattle.sl_trace.specs.declared.input.Given.{Given}
use Rattle.sl_words.proofs.CaseLaws.{one_value}
use Rattle.std.proofs.Common.{ap, arith, refl, subst, sym, ◌∙◌}
use Rattle.std.proofs.lemmas.Bool.{eq-eqb}
use Rattle.std.proofs.lemmas.Bool.Decides.{nat_tests}
use Rattle.std.specs.List.{range_with_len}
use Rattle.std.specs.Prelude.{Contains, IsTrue, List, None, Some, false, find, map, option_map, slice_get, suc, true, zero, [], ℕ, ◌*◌, ◌%◌, ◌+◌, ◌-◌, ◌<◌, ◌==◌, ◌∷◌, ◌≡◌, ◌≤◌}

-- ---- lines are apart

-- Lockspaces of one name are one.
pub one_name : (h : Header) (l k : LockspaceLine) → IsHeader h → Contains h.lockspaces l → Contains h.lockspaces k → l.name ≡ k.name → l ≡ k
one_name h l k ok this that names =
    let i = placed_at h.lockspaces l this in
    let j = placed_at h.lockspaces k that in
    let same = one_index i.0 j.0 (λ less. pair_of (λ (a : LockspaceLine) (b : LockspaceLine). a.name ≡ b.name → ⊥) h.lockspaces i.0 j.0 l k ok.one_lockspace i.1 j.1 less names)
    (λ less. pair_of (λ (a : LockspaceLine) (b : LockspaceLine). a.name ≡ b.name → ⊥) h.lockspaces j.0 i.0 k l ok.one_lockspace j.1 i.1 less (sym names)) in
    one_value l k (slice_get h.lockspaces j.0) (subst (λ n. slice_get h.lockspaces n ≡ Some l) same i.1) j.1

-- Session lines of one lockspace and id stand at one place, and so do those of one lockspace and machine.
pub one_of_id : (h : Header) (i j : ℕ) (s t : SessionLine) → IsHeader h → slice_get h.sessions i ≡ Some s → slice_get h.sessions j ≡ Some t → s.lockspace ≡ t.lockspace → s.id ≡ t.id → i ≡ j
one_of_id h i j s t ok at there names ids =
    one_index i j (λ less. (pair_of GoTogether h.sessions i j s t ok.together at there less).ids names ids)
    (λ less. (pair_of GoTogether h.sessions j i t s ok.together there at less).ids (sym names) (sym ids))

one_of_machine : (h : Header) (i j : ℕ) (s t : SessionLine) → IsHeader h → slice_get h.sessions i ≡ Some s → slice_get h.sessions j ≡ Some t → s.lockspace ≡ t.lockspace → s.machine ≡ t.machine
    → i ≡ j
one_of_machine h i j s t ok at there names machines =
    one_index i j (λ less. (pair_of GoTogether h.sessions i j s t ok.together at there less).once names machines)
    (λ less. (pair_of GoTogether h.sessions j i t s ok.together there at less).once (sym names) (sym machines))

-- ---- sectors

-- Delta sectors of ids are apart.
pub sectors_apart : {s : Sizes} (g : Layout) (a b i k : ℕ) → IsSized s g → a % s.area ≡ 0 → b % s.area ≡ 0 → 1 ≤ i → i ≤ g.hosts → 1 ≤ k → k ≤ g.hosts
    → delta_offset g a i ≡ delta_offset g b k → (a ≡ b) × (i ≡ k)
sectors_apart g a b i k z p q low high low' high' same =
    let base : a ≡ b =
    same_base g a b (delta_offset g a i) z p q (delta_within g a i z low high) (subst (λ o. IsTrue (in_area g b o)) (sym same) (delta_within g b k z low' high')) in
    (base, same_slot g b i k z low low' (ap (λ n. n + g.sector * (i - 1)) (sym base) ∙ same))

-- Whose line has this lockspace and this id.
pub record IsLineOf (l : LockspaceLine) (id : ℕ) (s : SessionLine) : Type 0 where
  pub lockspace : s.lockspace ≡ l.name
  pub same_id : s.id ≡ id

sector_of_given : (p : Program) (h : Header) (path : List ℕ) (offset m : ℕ) (s : SessionLine) (g : Given) (x : IsIdPlace p h path offset) → IsHeader h → Contains h.sessions s
    → IsGivenOf h m s g → g.path ≡ path → delta_offset (layout_at p h) g.offset g.id ≡ offset → IsLineOf x.lockspace x.id s
sector_of_given p h path offset m s g x ok has of_line paths offsets =
    let z = sized p.digest h.geometry ok.geometry in
    let member = ok.members s has in
    let k : LockspaceLine = of_line.lockspace in
    let base : g.offset ≡ k.offset = ap (λ (y : Given). y.offset) of_line.is in
    let id : g.id ≡ s.id = ap (λ (y : Given). y.id) of_line.is in
    let there : delta_offset (layout_at p h) k.offset s.id ≡ delta_offset (layout_at p h) x.lockspace.offset x.id =
    ap (λ o. delta_offset (layout_at p h) o s.id) (sym base) ∙ ap (λ n. delta_offset (layout_at p h) g.offset n) (sym id) ∙ offsets ∙ x.is_offset in
    let both = sectors_apart (layout_at p h) k.offset x.lockspace.offset s.id x.id z (lockspace_aligned h k ok of_line.there) (lockspace_aligned h x.lockspace ok x.has) member.id.0
    member.id.1 x.range.0 x.range.1 there in
    let same : k ≡ x.lockspace =
    one_lockspace h k x.lockspace ok of_line.there x.has (ap (λ (y : Given). y.path) (sym of_line.is) ∙ paths ∙ x.is_path) both.0 in
    record { lockspace = sym of_line.name ∙ ap (λ (y : LockspaceLine). y.name) same; same_id = both.1 }

-- The line of a session that has its sector there.
pub line_of_sector : (p : Program) (h : Header) (path : List ℕ) (offset : ℕ) (i : SessionId) (f : Found) (x : IsIdPlace p h path offset) → IsHeader h → (first : IsFirst p h i f)
    → is_sector_of (layout_at p h) path offset f.session ≡ true → IsLineOf x.lockspace x.id first.line
line_of_sector p h path offset i f x ok first its =
    let place = place_is first.given.path (delta_offset (layout_at p h) first.given.offset first.given.id) path offset
    (subst (λ (s : Session). is_sector_of (layout_at p h) path offset s ≡ true) first.session its) in
    sector_of_given p h path offset i.machine first.line first.given x ok (got_inside h.sessions first.place first.line first.there) first.of_line place.0 place.1

-- ---- one session has it

same_session : (i k : SessionId) → i.machine ≡ k.machine → i.daemon ≡ k.daemon → i.number ≡ k.number → i ≡ k
same_session i k m d n =
    ap (λ x. let y : SessionId = record { machine = x; daemon = i.daemon; number = i.number } in y) m
    ∙ ap (λ x. let y : SessionId = record { machine = k.machine; daemon = x; number = i.number } in y) d
    ∙ ap (λ x. let y : SessionId = record { machine = k.machine; daemon = k.daemon; number = x } in y) n

once_on : (h : Header) (m : ℕ) (name : List ℕ) → IsHeader h → (i j : ℕ) (s t : SessionLine) (u v : Given) → slice_get h.sessions i ≡ Some s → slice_get h.sessions j ≡ Some t
    → IsGivenOf h m s u → IsGivenOf h m t v → u.lockspace ≡ name → v.lockspace ≡ name → i ≡ j
once_on h m name ok i j s t u v at there one two p q =
    one_of_machine h i j s t ok at there
    (ap (λ (y : Given). y.lockspace) (sym one.is) ∙ p ∙ sym q ∙ ap (λ (y : Given). y.lockspace) two.is) (one.machine ∙ sym two.machine)

one_number : (h : Header) (m n k : ℕ) (u v : Given) → IsHeader h → slice_get (givens h m) n ≡ Some u → slice_get (givens h m) k ≡ Some v → u.lockspace ≡ v.lockspace → n ≡ k
one_number h m n k u v ok at there names =
    one_given (given_of h m) (λ (y : Given). y.lockspace ≡ v.lockspace) h.sessions n k u v
    (λ i j s t a b has had gives also p q. once_on h m v.lockspace ok i j s t a b has had (is_given h m s a gives) (is_given h m t b also) p q) at there names refl

-- Two sessions that have their sector there are one.
pub one_holder : (p : Program) (h : Header) (path : List ℕ) (offset : ℕ) (i k : SessionId) (f g : Found) → IsIdPlace p h path offset → IsHeader h → IsFirst p h i f → IsFirst p h k g
    → is_sector_of (layout_at p h) path offset f.session ≡ true → is_sector_of (layout_at p h) path offset g.session ≡ true → i ≡ k
one_holder p h path offset i k f g x ok one two its also =
    let a = line_of_sector p h path offset i f x ok one its in
    let b = line_of_sector p h path offset k g x ok two also in
    let names : one.line.lockspace ≡ two.line.lockspace = a.lockspace ∙ sym b.lockspace in
    let place = one_of_id h one.place two.place one.line two.line ok one.there two.there names (a.same_id ∙ sym b.same_id) in
    let line : one.line ≡ two.line =
    one_value one.line two.line (slice_get h.sessions two.place) (subst (λ n. slice_get h.sessions n ≡ Some one.line) place one.there) two.there in
    let machine : i.machine ≡ k.machine = sym one.of_line.machine ∙ ap (λ (y : SessionLine). y.machine) line ∙ two.of_line.machine in
    let spaces : one.given.lockspace ≡ two.given.lockspace =
    ap (λ (y : Given). y.lockspace) one.of_line.is ∙ names ∙ ap (λ (y : Given). y.lockspace) (sym two.of_line.is) in
    same_session i k machine (one.zeroth ∙ sym two.zeroth)
    (one_number h k.machine i.number k.number one.given two.given ok (subst (λ m. slice_get (givens h m) i.number ≡ Some one.given) machine one.at) two.at spaces)

-- ---- each line has a session

ranged : (f : ℕ → Machine) (k n i : ℕ) → i < n → slice_get (map f (range_with_len k n)) i ≡ Some (f (k + i))
ranged f k zero i less = absurd (omega (arith, less))
ranged f k (suc n) zero less = let same : k ≡ k + 0 = omega arith in ap (λ m. Some (f m)) same
ranged f k (suc n) (suc i) less =
    let same : (k + 1) + i ≡ k + suc i = omega arith in
    let smaller : i < n = omega (arith, less) in
    ranged f (k + 1) n i smaller ∙ ap (λ m. Some (f m)) same

some_number : (m : ℕ) → 1 ≤ m → (m == 0) ≡ false
some_number m h = grind (arith, nat_tests)

in_range : (m n : ℕ) → 1 ≤ m → m ≤ n → m - 1 < n
in_range m n low high = omega (arith, low, high)

-- Each machine of the header is there.
pub machine_there : (p : Program) (h : Header) (m : ℕ) → 1 ≤ m → m ≤ h.machines → machine_at (world_with p h) m ≡ Some (machine_of_header p (layout_at p h) h m)
machine_there p h m low high =
    let f : ℕ → Machine = machine_of_header p (layout_at p h) h in
    else_some (m == 0) (slice_get (world_with p h).machines (m - 1)) (f m) (some_number m low)
    (ranged f 1 h.machines (m - 1) (in_range m h.machines low high) ∙ ap (λ n. Some (f n)) (one_again m low))

-- Its daemon, where a session line is its.
pub daemon_there : (p : Program) (h : Header) (m : ℕ) (s : SessionLine) → find (λ x. x.machine == m) h.sessions ≡ Some s
    → daemon_numbered (machine_of_header p (layout_at p h) h m) 0 ≡ Some (daemon_of_line p (layout_at p h) h m s)
unfolding machine_of_header
daemon_there p h m s is =
    ap (λ o. find (λ (d : Daemon). d.number == 0) (elim (option_map (daemon_of_line p (layout_at p h) h m) o) as (λ z. List Daemon) [ None ↦ [] | Some d ↦ d ∷ [] ])) is

-- The session of a line.
pub record HasSession (p : Program) (h : Header) (s : SessionLine) : Type 0 where
  pub session : SessionId
  pub found : Found
  pub is : IsSession (world_with p h) session found
  pub given : Given
  pub of_line : IsGivenOf h s.machine s given
  pub shows : found.session ≡ given_session (session.number, given)

session_by : (p : Program) (h : Header) (m n : ℕ) (line : SessionLine) (g : Given) → machine_at (world_with p h) m ≡ Some (machine_of_header p (layout_at p h) h m)
    → find (λ x. x.machine == m) h.sessions ≡ Some line → slice_get (givens h m) n ≡ Some g
    → IsSession (world_with p h) (record { machine = m; daemon = 0; number = n })
    (record { machine = machine_of_header p (layout_at p h) h m; daemon = daemon_of_line p (layout_at p h) h m line; session = given_session (n, g); now = 0 })
session_by p h m n line g at is gives =
    let i : SessionId = record { machine = m; daemon = 0; number = n } in
    let a : Machine = machine_of_header p (layout_at p h) h m in
    let d : Daemon = daemon_of_line p (layout_at p h) h m line in
    let plus : 0 + n ≡ n = omega arith in
    found_on (world_with p h) i a at ∙ ap (session_with 0 i a) (daemon_there p h m line is)
    ∙ ap (option_map (λ (s : Session). let x : Found = record { machine = a; daemon = d; session = s; now = 0 } in x))
    (session_at_place 0 (givens h m) n g gives ∙ ap (λ k. Some (given_session (k, g))) plus)

pub has_session : (p : Program) (h : Header) (s : SessionLine) → IsHeader h → Contains h.sessions s → HasSession p h s
has_session p h s ok there =
    let member = ok.members s there in
    let at = placed_at h.sessions s there in
    let gives = line_gives h s ok there in
    let place = given_place (given_of h s.machine) h.sessions at.0 s gives.0 at.1 gives.1 in
    let line = finds (λ (x : SessionLine). x.machine == s.machine) h.sessions s (eq-eqb s.machine s.machine refl) there in
    record {
      session = record { machine = s.machine; daemon = 0; number = place.0 };
      found = record { machine = machine_of_header p (layout_at p h) h s.machine; daemon = daemon_of_line p (layout_at p h) h s.machine line.0; session = given_session (place.0, gives.0); now = 0 };
      is = session_by p h s.machine place.0 line.0 gives.0 (machine_there p h s.machine member.machine.0 member.machine.1) line.1 place.1;
      given = gives.0;
      of_line = is_given h s.machine s gives.0 gives.1;
      shows = refl;
    }

-- It has its sector there, where the line has the lockspace and the id.
pub has_sector : (p : Program) (h : Header) (path : List ℕ) (offset : ℕ) (s : SessionLine) (x : IsIdPlace p h path offset) → IsHeader h → IsLineOf x.lockspace x.id s
    → (y : HasSession p h s) → is_sector_of (layout_at p h) path offset y.found.session ≡ true
has_sector p h path offset s x ok its y =
    let k : LockspaceLine = y.of_line.lockspace in
    let same : k ≡ x.lockspace = one_name h k x.lockspace ok y.of_line.there x.has (y.of_line.name ∙ its.lockspace) in
    let given : y.found.session ≡ given_session (y.session.number, given_by_line h s.machine s k) =
    y.shows ∙ ap (λ (g : Given). given_session (y.session.number, g)) y.of_line.is in
    subst (λ (z : Session). is_sector_of (layout_at p h) path offset z ≡ true) (sym given)
    (is_place k.path (delta_offset (layout_at p h) k.offset s.id) path offset (ap (λ (l : LockspaceLine). l.path) same ∙ sym x.is_path)
    (ap (λ (l : LockspaceLine). delta_offset (layout_at p h) l.offset s.id) same ∙ ap (λ n. delta_offset (layout_at p h) x.lockspace.offset n) its.same_id ∙ sym x.is_offset))
