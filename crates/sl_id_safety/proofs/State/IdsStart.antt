-- At first one whole record stands at the place of an id: a free one, or that of the header's session of this id.
use Rattle.sl_area.specs.AreaSizes.{Layout, Sizes, sector_with}
use Rattle.sl_area.specs.AreaLayout.{delta_offset, in_area}
use Rattle.sl_area.specs.AreaRecords.{fresh_delta}
use Rattle.sl_run_law.proofs.Course.Daemons.{daemon_of_line}
use Rattle.sl_run_law.proofs.Front.JoinedLists.{placed_at}
use Rattle.sl_id_safety.proofs.State.FindingFrames.{find_passes}
use Rattle.sl_id_safety.proofs.State.Holders.{HoldsFirst, holder_holds, holds_is_holder}
use Rattle.sl_id_safety.proofs.State.Members.{IsFirst, equal_texts, is_first, layout_at, pair_of}
use Rattle.sl_id_safety.proofs.State.Sectors.{HasSession, IsLineOf, has_sector, has_session, line_of_sector, one_holder, one_of_id}
use Rattle.sl_id_safety.specs.State.IdStates.{blank, content_of, deciding_sample, has_begun, holder_at, id_state, is_sector_of, name_of, said_by, session_at, session_named_so, standing_by, standing_of}
use Rattle.sl_id_safety.specs.State.StateLaws.{IdsStart, IsIdPlace}
use Rattle.sl_ids.specs.Runs.{HasHolder, Starts_free, Starts_held, StartsWith}
use Rattle.sl_ids.specs.State.{IsNew, Session as IdSession, SessionId as IdName}
use Rattle.sl_run_law.proofs.Landing.InitialRecords.{initial_is_record}
use Rattle.sl_run_law.proofs.Place.Areas.{lockspace_aligned, one_lockspace, same_base}
use Rattle.sl_run_law.proofs.Place.FoundInLists.{finds, same_text}
use Rattle.sl_run_law.proofs.Place.Seats.{delta_within}
use Rattle.sl_run_law.proofs.Place.Sizes.{IsSized, number_of_slot, sector_fits, sector_has_bytes, sized}
use Rattle.sl_words.proofs.Lists.{got_inside}
use Rattle.sl_words.proofs.Numbers.{back_again}
use Rattle.sl_run.specs.Headers.{GoTogether, IsHeader}
use Rattle.sl_run.specs.Safety.{Found, IsSession, SessionId, session_of_world}
use Rattle.sl_run.specs.Worlds.{Daemon, Machine, Program, World, initial_bytes, initial_delta, initial_of_lockspace, initial_of_resource, initial_record, machine_of_header, member_delta, world_with}
use Rattle.sl_run.specs.declared.header.Header.{Header}
use Rattle.sl_run.specs.declared.header.LockspaceLine.{LockspaceLine}
use Rattle.sl_run.specs.declared.header.ResourceLine.{ResourceLine}
use Rattle.sl_run.specs.declared.header.SessionLine.{SessionLine}
use Rattle.sl_sector.proofs.PublicLaws.{spelled_is_read}
use Rattle.sl_sector.specs.SectorLayouts.{IsDigest, delta_in}
use Rattle.sl_sector.specs.declared.sector.DeltaRec.{DeltaRec}
use Rattle.sl_sector.specs.declared.sector.Rec.TheVariants.{DeltaIs}
use Rattle.sl_sector.specs.declared.sector.Rec.{Rec}
use Rattle.sl_trace.specs.Sessions.{given_session}
use Rattle.sl_trace.specs.declared.session.Session.{Session}
use Rattle.sl_trace.specs.declared.input.Given.{Given}
use Rattle.sl_words.proofs.CaseLaws.{none_some, one_value}
use Rattle.sl_words.proofs.WordLaws.{and_true}
use Rattle.sl_words.specs.Words.{choose}
use Rattle.std.proofs.Common.{ap, arith, inl, inr, refl, subst, sym, ◌∙◌}
use Rattle.std.proofs.Math.Nat.{le-max_left}
use Rattle.std.proofs.lemmas.Bool.{and_from, cases_lt, eq-eqb, eqb-true}
use Rattle.std.proofs.lemmas.Bool.Decides.{nat_tests}
use Rattle.std.specs.Prelude.{Bool, Contains, List, None, Option, Some, bytes_eq, false, find, is_none, is_some, nat_lt, option_map, replicate, slice_get, true, ℕ, ◌&&◌, ◌+◌, ◌-◌, ◌/◌, ◌<◌, ◌==◌, ◌≡◌, ◌≤◌, ◌||◌}

-- ---- the record that stands there

abbrev pub line_at : Layout → Header → List ℕ → ℕ → Option LockspaceLine
line_at g h path offset = find (λ l. bytes_eq l.path path && in_area g l.offset offset) h.lockspaces

-- The area of the id's lockspace has the place.
place_inside : (p : Program) (h : Header) (path : List ℕ) (offset : ℕ) → IsHeader h → (x : IsIdPlace p h path offset) → in_area (layout_at p h) x.lockspace.offset offset ≡ true
place_inside p h path offset ok x =
    subst (λ o. in_area (layout_at p h) x.lockspace.offset o ≡ true) (sym x.is_offset)
    (delta_within (layout_at p h) x.lockspace.offset x.id (sized p.digest h.geometry ok.geometry) x.range.0 x.range.1)

found_is : (p : Program) (h : Header) (path : List ℕ) (offset : ℕ) (l : LockspaceLine) → IsHeader h → (x : IsIdPlace p h path offset) → line_at (layout_at p h) h path offset ≡ Some l
    → l ≡ x.lockspace
found_is p h path offset l ok x at =
    let g : Layout = layout_at p h in
    let f = find_passes (λ (y : LockspaceLine). bytes_eq y.path path && in_area g y.offset offset) h.lockspaces l at in
    let both = and_true (bytes_eq l.path path) (in_area g l.offset offset) f.test in
    let base = same_base g l.offset x.lockspace.offset offset (sized p.digest h.geometry ok.geometry) (lockspace_aligned h l ok f.there) (lockspace_aligned h x.lockspace ok x.has) both.1
    (place_inside p h path offset ok x) in
    one_lockspace h l x.lockspace ok f.there x.has (same_text l.path path both.0 ∙ x.is_path) base

-- That lockspace is found there.
lockspace_found : (p : Program) (h : Header) (path : List ℕ) (offset : ℕ) → IsHeader h → (x : IsIdPlace p h path offset) → line_at (layout_at p h) h path offset ≡ Some x.lockspace
lockspace_found p h path offset ok x =
    let g : Layout = layout_at p h in
    let test = and_from (bytes_eq x.lockspace.path path) (in_area g x.lockspace.offset offset) (equal_texts x.lockspace.path path (sym x.is_path)) (place_inside p h path offset ok x) in
    let f = finds (λ (y : LockspaceLine). bytes_eq y.path path && in_area g y.offset offset) h.lockspaces x.lockspace test x.has in
    f.1 ∙ ap (λ y. Some y) (found_is p h path offset f.0 ok x f.1)

sector_index : {s : Sizes} (g : Layout) (base id : ℕ) → IsSized s g → (delta_offset g base id - base) / g.sector ≡ id - 1
sector_index g base id z = number_of_slot g.sector base (id - 1) (sector_has_bytes g z)

one_less : (id n : ℕ) → 1 ≤ id → id ≤ n → nat_lt (id - 1) n ≡ true
one_less id n low high = grind (arith, nat_tests)

-- The record of the id is in the sector of its place.
record_of_index : (h : Header) (l : LockspaceLine) (k id : ℕ) → k ≡ id - 1 → 1 ≤ id → id ≤ h.geometry.hosts → initial_of_lockspace h l k ≡ Some (DeltaIs (initial_delta h l id))
record_of_index h l k id is low high =
    ap (initial_of_lockspace h l) is ∙ ap (λ b. choose b (DeltaIs (initial_delta h l (id - 1 + 1)))) (one_less id h.geometry.hosts low high)
    ∙ ap (λ n. Some (DeltaIs (initial_delta h l n))) (back_again id low)

initial_at : (p : Program) (h : Header) (path : List ℕ) (offset : ℕ) → IsHeader h → (x : IsIdPlace p h path offset)
    → initial_record (layout_at p h) h path offset ≡ Some (DeltaIs (initial_delta h x.lockspace x.id))
unfolding initial_record
initial_at p h path offset ok x =
    let g : Layout = layout_at p h in
    let k : ℕ = (offset - x.lockspace.offset) / g.sector in
    let index : k ≡ x.id - 1 = ap (λ o. (o - x.lockspace.offset) / g.sector) x.is_offset ∙ sector_index g x.lockspace.offset x.id (sized p.digest h.geometry ok.geometry) in
    ap (λ o. elim o as (λ z. Option Rec) [
      | Some l ↦ initial_of_lockspace h l ((offset - l.offset) / g.sector)
      | None ↦ elim (find (λ (r : ResourceLine). bytes_eq r.path path && in_area g r.offset offset) h.resources) as (λ z. Option Rec) [
        | Some r ↦ initial_of_resource g r ((offset - r.offset) / g.sector)
        | None ↦ None
      ]
    ]) (lockspace_found p h path offset ok x)
    ∙ record_of_index h x.lockspace k x.id index x.range.0 x.range.1

-- Its bytes say what it says.
pub said_first : (p : Program) (h : Header) (path : List ℕ) (offset : ℕ) → IsHeader h → IsDigest p.digest → (x : IsIdPlace p h path offset)
    → said_by (layout_at p h) (initial_bytes (layout_at p h) h path offset) ≡ Some (content_of (initial_delta h x.lockspace x.id))
said_first p h path offset ok digest x =
    let g : Layout = layout_at p h in
    let d : DeltaRec = initial_delta h x.lockspace x.id in
    let stands = initial_at p h path offset ok x in
    ap (λ o. said_by g (elim o as (λ z. List ℕ) [ None ↦ replicate g.sector 0 | Some r ↦ sector_with g r ])) stands
    ∙ ap (λ read. option_map content_of (delta_in read))
    (spelled_is_read p.digest digest g.sector (sector_fits g (sized p.digest h.geometry ok.geometry)) (DeltaIs d) (initial_is_record p.digest h path offset (DeltaIs d) ok stands))

-- ---- sessions at first

blank_is_new : IsNew blank
blank_is_new = record { begun = refl; decided = refl; pending = refl; landed = refl; verified = refl; joined = refl }

new_where : (w : World) (path : List ℕ) (offset : ℕ) (i : SessionId) (f : Found) (b : Bool) → (b ≡ true → ⊥)
    → IsNew (elim (b && has_begun i f) as (λ z. IdSession) [ false ↦ blank | true ↦ standing_of w path offset i f ])
new_where w path offset i f true never = absurd (never refl)
new_where w path offset i f false never = blank_is_new

new_by : (w : World) (path : List ℕ) (offset : ℕ) (i : SessionId) (o : Option Found) → ((f : Found) → o ≡ Some f → is_sector_of w.layout path offset f.session ≡ true → ⊥)
    → IsNew (standing_by w path offset i o)
new_by w path offset i None never = blank_is_new
new_by w path offset i (Some f) never = new_where w path offset i f (is_sector_of w.layout path offset f.session) (never f refl)

-- A session whose sector it isn't is new.
pub is_new : (w : World) (path : List ℕ) (offset : ℕ) (n : IdName)
    → ((f : Found) → IsSession w (session_named_so n) f → is_sector_of w.layout path offset f.session ≡ true → ⊥) → IsNew (session_at w path offset n)
is_new w path offset n never = new_by w path offset (session_named_so n) (session_of_world w (session_named_so n)) never

-- How the session stands whose sector it is.
record StandsFirst (name : List ℕ) (s : IdSession) : Type 0 where
  begun : s.begun ≡ true
  decided : s.decided ≡ false
  pending : s.pending ≡ false
  landed : s.landed ≡ false
  verified : s.verified ≡ true
  joined : s.joined ≡ true
  not_over : s.over ≡ false
  base : s.base ≡ 0
  claim : s.claim ≡ 0
  its : s.name ≡ name
  generation : s.generation ≡ 1
  seq : 1 ≤ s.seq
  renewed : s.renewed ≡ 0

stands_by : (p : Program) (h : Header) (path : List ℕ) (offset m n : ℕ) (i : SessionId) (line : SessionLine) (g : Given)
    → StandsFirst line.name (standing_of (world_with p h) path offset i
    (record { machine = machine_of_header p (layout_at p h) h m; daemon = daemon_of_line p (layout_at p h) h m line; session = given_session (n, g); now = 0 }))
unfolding machine_of_header
stands_by p h path offset m n i line g =
    record {
      begun = refl;
      decided = refl;
      pending = refl;
      landed = refl;
      verified = refl;
      joined = refl;
      not_over = refl;
      base = refl;
      claim = refl;
      its = refl;
      generation = refl;
      seq = le-max_left 1 _;
      renewed = refl;
    }

same_found : (f : Found) (a : Machine) (d : Daemon) (s : Session) → f.machine ≡ a → f.daemon ≡ d → f.session ≡ s → f.now ≡ 0
    → f ≡ record { machine = a; daemon = d; session = s; now = 0 }
same_found f a d s one two three first =
    ap (λ x. let y : Found = record { machine = x; daemon = f.daemon; session = f.session; now = f.now } in y) one
    ∙ ap (λ x. let y : Found = record { machine = a; daemon = x; session = f.session; now = f.now } in y) two
    ∙ ap (λ x. let y : Found = record { machine = a; daemon = d; session = x; now = f.now } in y) three
    ∙ ap (λ x. let y : Found = record { machine = a; daemon = d; session = s; now = x } in y) first

stands_first : (p : Program) (h : Header) (path : List ℕ) (offset : ℕ) (i : SessionId) (f : Found) → (x : IsFirst p h i f)
    → StandsFirst x.daemon.line.name (standing_of (world_with p h) path offset i f)
stands_first p h path offset i f x =
    let line : SessionLine = x.daemon.line in
    subst (λ (y : Found). StandsFirst line.name (standing_of (world_with p h) path offset i y))
    (sym (same_found f (machine_of_header p (layout_at p h) h i.machine) (daemon_of_line p (layout_at p h) h i.machine line) (given_session (i.number, x.given)) x.machine x.daemon.is x.session x.now))
    (stands_by p h path offset i.machine i.number i line x.given)

pub standing_where : (w : World) (path : List ℕ) (offset : ℕ) (i : SessionId) (f : Found) (b c : Bool) → b ≡ true → c ≡ true
    → elim (b && c) as (λ z. IdSession) [ false ↦ blank | true ↦ standing_of w path offset i f ] ≡ standing_of w path offset i f
standing_where w path offset i f true true p q = refl
standing_where w path offset i f false c p q = absurd cc
standing_where w path offset i f true false p q = absurd cc

begun_given : (i : SessionId) (f : Found) (n : ℕ) (g : Given) → f.session ≡ given_session (n, g) → has_begun i f ≡ true
begun_given i f n g is = ap (λ (s : Session). is_none s.job || is_some (deciding_sample i f)) is

-- The session whose sector it is stands so.
holder_stands : (p : Program) (h : Header) (path : List ℕ) (offset : ℕ) (i : SessionId) (f : Found) → (x : IsFirst p h i f) → IsSession (world_with p h) i f
    → is_sector_of (layout_at p h) path offset f.session ≡ true → StandsFirst x.daemon.line.name (session_at (world_with p h) path offset (name_of i))
holder_stands p h path offset i f x is its =
    let w : World = world_with p h in
    let same : session_at w path offset (name_of i) ≡ standing_of w path offset i f =
    ap (standing_by w path offset i) is
    ∙ standing_where w path offset i f (is_sector_of w.layout path offset f.session) (has_begun i f) its (begun_given i f i.number x.given x.session) in
    subst (StandsFirst x.daemon.line.name) (sym same) (stands_first p h path offset i f x)

-- ---- the start

-- The session line of the id.
abbrev line_of_id : Header → LockspaceLine → ℕ → Option SessionLine
line_of_id h l id = find (λ s. bytes_eq s.lockspace l.name && s.id == id) h.sessions

-- What the record of the id says, by its session line.
abbrev delta_by : Header → LockspaceLine → ℕ → Option SessionLine → DeltaRec
delta_by h l id o = elim o [ None ↦ fresh_delta l.name id | Some s ↦ member_delta h s ]

-- No session has its sector there, where no session line has the id.
nobody : (p : Program) (h : Header) (path : List ℕ) (offset : ℕ) → IsHeader h → (x : IsIdPlace p h path offset) → line_of_id h x.lockspace x.id ≡ None → (i : SessionId) (f : Found)
    → IsSession (world_with p h) i f → is_sector_of (layout_at p h) path offset f.session ≡ true → ⊥
nobody p h path offset ok x none i f is its =
    let first = is_first p h i f is in
    let line = line_of_sector p h path offset i f x ok first its in
    let test = and_from (bytes_eq first.line.lockspace x.lockspace.name) (first.line.id == x.id) (equal_texts first.line.lockspace x.lockspace.name line.lockspace)
    (eq-eqb first.line.id x.id line.same_id) in
    let found = finds (λ (s : SessionLine). bytes_eq s.lockspace x.lockspace.name && s.id == x.id) h.sessions first.line test (got_inside h.sessions first.place first.line first.there) in
    none_some found.0 (sym none ∙ found.1)

no_name_by : (p : Program) (h : Header) (path : List ℕ) (offset : ℕ) (o : Option IdName) → holder_at (world_with p h) path offset ≡ o
    → ((i : SessionId) → HoldsFirst p h path offset i → ⊥) → holder_at (world_with p h) path offset ≡ None
no_name_by p h path offset None is never = is
no_name_by p h path offset (Some n) is never = absurd (never (session_named_so n) (holder_holds p h path offset n is))

free_first : (p : Program) (h : Header) (path : List ℕ) (offset : ℕ) → IsHeader h → (x : IsIdPlace p h path offset) → line_of_id h x.lockspace x.id ≡ None
    → StartsWith (id_state (world_with p h) path offset) (content_of (fresh_delta x.lockspace.name x.id))
free_first p h path offset ok x none =
    Starts_free refl refl (no_name_by p h path offset (holder_at (world_with p h) path offset) refl (λ i it. nobody p h path offset ok x none i it.found it.is it.sector))
    (λ n. is_new (world_with p h) path offset n (λ f is its. nobody p h path offset ok x none (session_named_so n) f is its))

-- Lines of one machine have one name.
one_place : (h : Header) (i j : ℕ) (s t : SessionLine) → slice_get h.sessions i ≡ Some s → slice_get h.sessions j ≡ Some t → i ≡ j → s ≡ t
one_place h i j s t at there same = one_value s t (slice_get h.sessions j) (subst (λ n. slice_get h.sessions n ≡ Some s) same at) there

name_of_line : (h : Header) (i j : ℕ) (s t : SessionLine) → IsHeader h → slice_get h.sessions i ≡ Some s → slice_get h.sessions j ≡ Some t → s.machine ≡ t.machine → s.name ≡ t.name
name_of_line h i j s t ok at there machines =
    elim (cases_lt i j) as (λ z. s.name ≡ t.name) [
      | inl less ↦ (pair_of GoTogether h.sessions i j s t ok.together at there less).names.1 machines
      | inr ge ↦ elim (cases_lt j i) as (λ z. s.name ≡ t.name) [
        | inl more ↦ sym ((pair_of GoTogether h.sessions j i t s ok.together there at more).names.1 (sym machines))
        | inr le ↦ ap (λ (y : SessionLine). y.name) (one_place h i j s t at there (omega (arith, ge, le)))
      ]
    ]

-- The daemon of a session has the name that stands in its line.
daemon_name : (p : Program) (h : Header) (i : SessionId) (f : Found) → IsHeader h → (x : IsFirst p h i f) → x.daemon.line.name ≡ x.line.name
daemon_name p h i f ok x =
    let first = find_passes (λ (y : SessionLine). y.machine == i.machine) h.sessions x.daemon.line x.daemon.found in
    let place = placed_at h.sessions x.daemon.line first.there in
    name_of_line h place.0 x.place x.daemon.line x.line ok place.1 x.there (eqb-true x.daemon.line.machine i.machine first.test ∙ sym x.of_line.machine)

-- The line of a session whose sector it is is that of the id.
line_is : (p : Program) (h : Header) (path : List ℕ) (offset : ℕ) (i : SessionId) (f : Found) (s : SessionLine) → IsHeader h → (x : IsIdPlace p h path offset)
    → Contains h.sessions s → IsLineOf x.lockspace x.id s → (first : IsFirst p h i f) → is_sector_of (layout_at p h) path offset f.session ≡ true → first.line ≡ s
line_is p h path offset i f s ok x there its first sector =
    let line = line_of_sector p h path offset i f x ok first sector in
    let place = placed_at h.sessions s there in
    one_place h first.place place.0 first.line s first.there place.1
    (one_of_id h first.place place.0 first.line s ok first.there place.1 (line.lockspace ∙ sym its.lockspace) (line.same_id ∙ sym its.same_id))

-- Another name's session has another sector.
others_new : (p : Program) (h : Header) (path : List ℕ) (offset : ℕ) (i : SessionId) (f : Found) → IsHeader h → IsIdPlace p h path offset → IsFirst p h i f
    → is_sector_of (layout_at p h) path offset f.session ≡ true → (n : IdName) → (n ≡ name_of i → ⊥) → IsNew (session_at (world_with p h) path offset n)
others_new p h path offset i f ok x first its n other =
    is_new (world_with p h) path offset n (λ g is also.
    other (ap name_of (one_holder p h path offset (session_named_so n) i g f x ok (is_first p h (session_named_so n) g is) first also its)))

some_generation : 0 < 1
some_generation = omega arith

nothing_yet : (n : ℕ) → n ≡ 0 → n ≤ 0
nothing_yet n h = omega (arith, h)

held_by : (p : Program) (h : Header) (path : List ℕ) (offset : ℕ) (i : SessionId) (s : SessionLine) (name : List ℕ) → name ≡ s.name
    → StandsFirst name (session_at (world_with p h) path offset (name_of i)) → holder_at (world_with p h) path offset ≡ Some (name_of i)
    → ((n : IdName) → (n ≡ name_of i → ⊥) → IsNew (session_at (world_with p h) path offset n))
    → HasHolder (id_state (world_with p h) path offset) (name_of i) (content_of (member_delta h s))
held_by p h path offset i s name same stands writer others =
    record {
      begun = stands.begun;
      decided = stands.decided;
      pending = stands.pending;
      landed = stands.landed;
      verified = stands.verified;
      joined = stands.joined;
      not_over = stands.not_over;
      base = stands.base;
      claim = stands.claim;
      generation = stands.generation;
      some = some_generation;
      name = ap (λ x. Some x) (sym (stands.its ∙ same));
      seq = stands.seq;
      kind = refl;
      renewed = nothing_yet (session_at (world_with p h) path offset (name_of i)).renewed stands.renewed;
      writer = writer;
      others = others;
    }

held_first : (p : Program) (h : Header) (path : List ℕ) (offset : ℕ) (s : SessionLine) → IsHeader h → (x : IsIdPlace p h path offset) → line_of_id h x.lockspace x.id ≡ Some s
    → StartsWith (id_state (world_with p h) path offset) (content_of (member_delta h s))
held_first p h path offset s ok x is =
    let at = find_passes (λ (y : SessionLine). bytes_eq y.lockspace x.lockspace.name && y.id == x.id) h.sessions s is in
    let both = and_true (bytes_eq s.lockspace x.lockspace.name) (s.id == x.id) at.test in
    let its : IsLineOf x.lockspace x.id s = record { lockspace = same_text s.lockspace x.lockspace.name both.0; same_id = eqb-true s.id x.id both.1 } in
    let y : HasSession p h s = has_session p h s ok at.there in
    let sector = has_sector p h path offset s x ok its y in
    let first = is_first p h y.session y.found y.is in
    let line = line_is p h path offset y.session y.found s ok x at.there its first sector in
    Starts_held (name_of y.session)
    (held_by p h path offset y.session s first.daemon.line.name (daemon_name p h y.session y.found ok first ∙ ap (λ (z : SessionLine). z.name) line)
    (holder_stands p h path offset y.session y.found first y.is sector)
    (holds_is_holder p h path offset y.session x ok (record { found = y.found; is = y.is; sector = sector }))
    (others_new p h path offset y.session y.found ok x first sector))

starts_by : (p : Program) (h : Header) (path : List ℕ) (offset : ℕ) (o : Option SessionLine) → IsHeader h → (x : IsIdPlace p h path offset) → line_of_id h x.lockspace x.id ≡ o
    → StartsWith (id_state (world_with p h) path offset) (content_of (delta_by h x.lockspace x.id o))
starts_by p h path offset None ok x is = free_first p h path offset ok x is
starts_by p h path offset (Some s) ok x is = held_first p h path offset s ok x is

pub ids_start : IdsStart
ids_start p h path offset ok digest x =
    record {
      one = refl;
      before = at_once;
      content = content_of (initial_delta h x.lockspace x.id);
      spelled = said_first p h path offset ok digest x;
      starts = starts_by p h path offset (line_of_id h x.lockspace x.id) ok x refl;
    }
  where
    at_once : 0 ≤ 0
    at_once = omega arith
