-- The seqs of what has landed for a session: each is less than that of a renewal or a free of it in flight.
use Rattle.sl_run_law.proofs.Landing.CallLists.{one_call}
use Rattle.sl_run_law.proofs.Landing.Writers.{writer_settled}
use Rattle.sl_run_law.proofs.Place.Sizes.{sector_fits}
use Rattle.sl_words.proofs.Lists.{contains_cases, contains_first, contains_more, contains_none, kept, kept_inside}
use Rattle.std.proofs.lemmas.Bool.{and_from, eq-eqb, eqb-true}
use Rattle.sl_area.specs.AreaSizes.{Layout, layout_with, record_in}
use Rattle.sl_area.specs.AreaRecords.{fresh_delta}
use Rattle.sl_run_law.proofs.Front.JoinedLists.{contains_append}
use Rattle.sl_id_safety.proofs.State.TraceBridge.{Grounds}
use Rattle.sl_id_safety.proofs.State.FindingFrames.{find_passes}
use Rattle.sl_id_safety.proofs.State.CallLaws.{own_call}
use Rattle.sl_id_safety.proofs.State.StateFrames.{name_is}
use Rattle.sl_id_safety.proofs.State.WriterFrames.{call_of, call_there}
use Rattle.sl_id_safety.specs.State.IdStates.{content_of, holder_at, name_of, own_courses, said_by, same_name, seq_left, submitter_of, submitter_on, writer_of}
use Rattle.sl_id_safety.proofs.State.IdsStart.{said_first}
use Rattle.sl_id_safety.specs.State.StateLaws.{IsIdPlace}
use Rattle.sl_id_safety.proofs.Steps.FateChanges.{seq_at}
use Rattle.sl_id_safety.proofs.Steps.OwnWrites.{IsRenewing, above_given, rises_above}
use Rattle.sl_ids.specs.State.{Content, SessionId as IdName}
use Rattle.sl_run_law.specs.Landing.Landings.{HasWriter, LandingsAreWritten}
use Rattle.sl_run_law.proofs.Place.TracesOnMachines.{IsPromised, header_is, layout_is, reads_back}
use Rattle.sl_run_law.proofs.Place.Seats.{delta_in_is, sized_in}
use Rattle.sl_run.specs.Runs.{Happening}
use Rattle.sl_run.specs.Safety.{Found, LawfulRun, SessionId, is_course_of, session_of_world, world_at}
use Rattle.sl_run.specs.Worlds.{Course, Landing, Machine, Program, World, first_landing, history_of, initial_bytes, initial_delta, is_in_flight, landed_at, machine_at, member_delta}
use Rattle.sl_run.specs.declared.header.Header.{Header}
use Rattle.sl_run.specs.declared.header.LockspaceLine.{LockspaceLine}
use Rattle.sl_run.specs.declared.header.SessionLine.{SessionLine}
use Rattle.sl_run_law.specs.FatesStay.{AreDistinct, EachDistinct}
use Rattle.sl_sector.specs.SectorLayouts.{delta_in}
use Rattle.sl_sector.specs.declared.sector.DeltaRec.{DeltaRec}
use Rattle.sl_sector.specs.declared.sector.Rec.TheVariants.{DeltaIs}
use Rattle.sl_sector.specs.declared.sector.Rec.{Rec}
use Rattle.sl_trace.specs.Sessions.{given_number}
use Rattle.sl_trace.specs.Traces.{same_place}
use Rattle.sl_words.proofs.CaseLaws.{none_some, one_value, some_value, true_is_false}
use Rattle.sl_words.proofs.WordLaws.{some_is_true}
use Rattle.sl_words.specs.Words.{greatest, some_is}
use Rattle.std.proofs.Common.{ap, arith, inl, inr, refl, subst, sym, ◌∙◌}
use Rattle.std.specs.Option.{option_map_or}
use Rattle.std.specs.Prelude.{Bool, Contains, List, None, Ok, Option, Some, bytes_eq, false, find, map, option_and_then, option_map, true, [], ℕ, ◌&&◌, ◌<◌, ◌==◌, ◌∷◌, ◌≡◌, ◌≤◌}

-- ---- the record at first

initial_by : (h : Header) (l : LockspaceLine) (id : ℕ) (o : Option SessionLine)
    → (elim o as (λ z. DeltaRec) [ None ↦ fresh_delta l.name id | Some s ↦ member_delta h s ]).seq ≤ 1
initial_by h l id None = omega arith
initial_by h l id (Some s) = omega arith

-- The seq of a record at first is 1 at most.
pub first_seq : (p : Program) (h : Header) (xs : List Happening) → LawfulRun p h xs → (path : List ℕ) (offset : ℕ) → IsIdPlace p h path offset → (x : Content)
    → said_by (world_at p h xs).layout (first_landing (world_at p h xs) path offset).bytes ≡ Some x → x.seq ≤ 1
first_seq p h xs run path offset place x is =
    let w : World = world_at p h xs in
    let g : Layout = layout_with p.digest h.geometry in
    let l : LockspaceLine = place.lockspace in
    let same : said_by w.layout (initial_bytes w.layout w.header path offset) ≡ said_by g (initial_bytes g h path offset) =
    ap (λ z. said_by z (initial_bytes z w.header path offset)) (layout_is p h xs) ∙ ap (λ z. said_by g (initial_bytes g z path offset)) (header_is p h xs) in
    let first : content_of (initial_delta h l place.id) ≡ x =
    some_value (content_of (initial_delta h l place.id)) x (sym (said_first p h path offset run.header run.digest place) ∙ sym same ∙ is) in
    subst (λ (z : Content). z.seq ≤ 1) first (initial_by h l place.id (find (λ s. bytes_eq s.lockspace l.name && s.id == place.id) h.sessions))

-- What bytes say, of a delta record.
said_delta : (g : Layout) (bytes : List ℕ) (o : Option DeltaRec) (x : Content) → delta_in (record_in g bytes) ≡ o → option_map content_of o ≡ Some x
    → (d : DeltaRec) × (record_in g bytes ≡ Ok (DeltaIs d)) × (content_of d ≡ x)
said_delta g bytes None x is h = absurd (none_some x h)
said_delta g bytes (Some d) x is h = (d, delta_in_is (record_in g bytes) d is, some_value (content_of d) x h)

pub said : (g : Layout) (bytes : List ℕ) (x : Content) → said_by g bytes ≡ Some x
    → (d : DeltaRec) × (record_in g bytes ≡ Ok (DeltaIs d)) × (content_of d ≡ x)
said g bytes x h = said_delta g bytes (delta_in (record_in g bytes)) x refl h

-- ---- what landed since

-- A call is found by its number.
pub call_found : (cs : List Course) (c : Course) (n : ℕ) → AreDistinct cs → Contains cs c → c.call.number ≡ n → call_of n cs ≡ Some c
call_found cs c n distinct has is =
    let t : (c.call.number == n) ≡ true = ap (λ x. x == n) is ∙ eq-eqb n n refl in
    let d = call_there n cs c has t in
    let q = find_passes (λ (x : Course). x.call.number == n) cs d.0 d.1 in
    let same : d.0 ≡ c =
    one_call cs d.0 c distinct q.there has
    (ap (λ x. x == c.call.number) (eqb-true d.0.call.number n q.test) ∙ ap (λ x. x == c.call.number) (sym is) ∙ eq-eqb c.call.number c.call.number refl) in
    d.1 ∙ ap (λ x. Some x) same

-- .. so the session of the call is who submitted it.
pub submitter_is : (w : World) (m n : ℕ) (a : Machine) (c : Course) → machine_at w m ≡ Some a → AreDistinct a.calls → Contains a.calls c → c.call.number ≡ n
    → submitter_of w (m, n) ≡ Some (record { machine = m; daemon = c.daemon; number = c.call.session })
submitter_is w m n a c at distinct has is =
    ap (λ o. option_and_then (submitter_on m n) o) at
    ∙ ap (λ o. option_map (λ (x : Course). let y : IdName = record { machine = m; daemon = x.daemon; number = x.call.session } in y) o) (call_found a.calls c n distinct has is)

pub writer_is : (w : World) (l : Landing) (m n : ℕ) (a : Machine) (c : Course) → l.writer ≡ Some (m, n) → machine_at w m ≡ Some a → AreDistinct a.calls
    → Contains a.calls c → c.call.number ≡ n → writer_of w l ≡ Some (record { machine = m; daemon = c.daemon; number = c.call.session })
writer_is w l m n a c named at distinct has is =
    ap (λ o. elim o as (λ z. Option IdName) [ None ↦ holder_at w l.path l.offset | Some q ↦ submitter_of w q ]) named ∙ submitter_is w m n a c at distinct has is

-- A call of the session's name is its own.
own_by : (i : SessionId) (m : ℕ) (c : Course) → same_name (name_of i) (record { machine = m; daemon = c.daemon; number = c.call.session }) ≡ true
    → (i.machine ≡ m) × (is_course_of i c ≡ true)
own_by i m c h =
    let n : IdName = record { machine = m; daemon = c.daemon; number = c.call.session } in
    let e : name_of i ≡ n = name_is (name_of i) n h in (
      ap (λ x. x.machine) e,
      and_from (c.daemon == i.daemon) (c.call.session == i.number)
          (ap (λ (x : IdName). x.daemon == i.daemon) (sym e) ∙ eq-eqb i.daemon i.daemon refl) (ap (λ (x : IdName). x.number == i.number) (sym e) ∙ eq-eqb i.number i.number refl),
    )

wrote_delta : (k r : Rec) (d : DeltaRec) → k ≡ r → r ≡ DeltaIs d → Some k ≡ Some (DeltaIs d)
wrote_delta k r d e h = ap (λ x. Some x) (e ∙ h)

-- What a landing of the session's spells was written by another call of it.
older_seq : Grounds → IsPromised → (p : Program) (h : Header) (xs : List Happening) → LawfulRun p h xs → EachDistinct (world_at p h xs) → (i : SessionId) (f : Found) (c : Course) (d : DeltaRec)
    → session_of_world (world_at p h xs) i ≡ Some f → machine_at (world_at p h xs) i.machine ≡ Some f.machine → IsRenewing (world_at p h xs) i f c d → is_in_flight c.fate ≡ true
    → (l : Landing) (k : HasWriter (world_at p h xs) l) (x : Content) → said_by (world_at p h xs).layout l.bytes ≡ Some x
    → same_name (name_of i) (record { machine = k.machine; daemon = k.wrote.course.daemon; number = k.wrote.course.call.session }) ≡ true → x.seq < d.seq
older_seq g b p h xs run distinct i f c d at on y flies l k x says same =
    let w : World = world_at p h xs in
    let u = k.wrote in
    let own = own_by i k.machine u.course same in
    let machine : u.machine ≡ f.machine = one_value u.machine f.machine (machine_at w k.machine) u.at (ap (machine_at w) (sym own.0) ∙ on) in
    let there : Contains (own_courses i f.machine) u.course =
    kept (is_course_of i) f.machine.calls u.course own.1 (subst (λ a. Contains a.calls u.course) machine u.has) in
    let e = said w.layout l.bytes x says in
    let back = reads_back b p h xs run (sector_fits w.layout (sized_in p h xs run)) l k.machine k.call u (DeltaIs e.0) e.1 in
    let other : c ≡ u.course → ⊥ = λ z. true_is_false (sym flies ∙ ap (λ q. is_in_flight q.fate) z ∙ writer_settled w l u.course u.record_written u.left) in
    subst (λ (z : Content). z.seq < d.seq) e.2
    (rises_above w i f c d y.flying u.course e.0 (own_call w i f u.course y.flying.own.known there) (u.writes ∙ ap (λ r. Some r) back) other)

-- ---- the greatest

seq_under : (w : World) (n : IdName) (l : Landing) (o : Option Content) (b : Bool) (most : ℕ) → said_by w.layout l.bytes ≡ o → some_is (same_name n) (writer_of w l) ≡ b → 0 < most
    → (b ≡ true → (x : Content) → o ≡ Some x → x.seq < most) → elim b as (λ z. ℕ) [ false ↦ 0 | true ↦ option_map_or (λ x. x.seq) o 0 ] < most
seq_under w n l o false most says is some h = some
seq_under w n l None true most says is some h = some
seq_under w n l (Some x) true most says is some h = h refl x refl

pub seq_less : (w : World) (n : IdName) (l : Landing) (most : ℕ) → 0 < most
    → (some_is (same_name n) (writer_of w l) ≡ true → (x : Content) → said_by w.layout l.bytes ≡ Some x → x.seq < most) → seq_left w n l < most
seq_less w n l most some h = seq_under w n l (said_by w.layout l.bytes) (some_is (same_name n) (writer_of w l)) most refl refl some h

all_under : (g : Landing → ℕ) (ls : List Landing) (most : ℕ) → 0 < most → ((l : Landing) → Contains ls l → g l < most) → greatest (map g ls) < most
all_under g [] most some h = some
all_under g (l ∷ ls) most some h =
    let a = h l (contains_first l ls) in
    let b = all_under g ls most some (λ k has. h k (contains_more l ls k has)) in
    omega (arith, a, b)

-- The record at first is another's, if the session was not joined at first.
abbrev pub FirstIsOther : World → List ℕ → ℕ → SessionId → Found → Type 0
FirstIsOther w path offset i f = (j : ℕ) → f.session.job ≡ Some j → (x : Content) → writer_of w (first_landing w path offset) ≡ Some (name_of i)
    → said_by w.layout (first_landing w path offset).bytes ≡ Some x → ⊥

first_under : (p : Program) (h : Header) (xs : List Happening) → LawfulRun p h xs → (path : List ℕ) (offset : ℕ) → IsIdPlace p h path offset → (i : SessionId) (f : Found) (most : ℕ) (job : Option ℕ)
    → f.session.job ≡ job → given_number f.session < most → FirstIsOther (world_at p h xs) path offset i f
    → some_is (same_name (name_of i)) (writer_of (world_at p h xs) (first_landing (world_at p h xs) path offset)) ≡ true → (x : Content)
    → said_by (world_at p h xs).layout (first_landing (world_at p h xs) path offset).bytes ≡ Some x → x.seq < most
first_under p h xs run path offset place i f most None is above other same x says =
    let one : given_number f.session ≡ 1 = ap (λ (o : Option ℕ). elim o as (λ z. ℕ) [ None ↦ 1 | Some j ↦ 0 ]) is in
    omega (arith, one, above, first_seq p h xs run path offset place x says)
first_under p h xs run path offset place i f most (Some j) is above other same x says =
    let w : World = world_at p h xs in
    let n = some_is_true (same_name (name_of i)) (writer_of w (first_landing w path offset)) same in
    absurd (other j is x (n.1 ∙ ap (λ z. Some z) (sym (name_is (name_of i) n.0 n.2))) says)

-- All that has landed for a session has a lesser seq than its renewal or free in flight.
pub seqs_under : Grounds → IsPromised → LandingsAreWritten → (p : Program) (h : Header) (xs : List Happening) → LawfulRun p h xs → EachDistinct (world_at p h xs)
    → (path : List ℕ) (offset : ℕ) → IsIdPlace p h path offset → (i : SessionId) (f : Found) (c : Course) (d : DeltaRec)
    → session_of_world (world_at p h xs) i ≡ Some f
    → machine_at (world_at p h xs) i.machine ≡ Some f.machine → IsRenewing (world_at p h xs) i f c d → is_in_flight c.fate ≡ true
    → FirstIsOther (world_at p h xs) path offset i f → seq_at (world_at p h xs) path offset i f < d.seq
seqs_under g b written p h xs run distinct path offset place i f c d at on y flies other =
    let w : World = world_at p h xs in
    let above : given_number f.session < d.seq = above_given w i f c d y in
    let some : 0 < d.seq = omega (arith, above) in
    let rest = all_under (seq_left w (name_of i)) (history_of w path offset) d.seq some (each some above) in
    omega (arith, above, rest)
  where
    landed : 0 < d.seq → (l : Landing) → Contains (world_at p h xs).landings l → seq_left (world_at p h xs) (name_of i) l < d.seq
    landed some l has =
        let w : World = world_at p h xs in
        let k = written p h xs run l has in
        let u = k.wrote in
        let n : IdName = record { machine = k.machine; daemon = u.course.daemon; number = u.course.call.session } in
        let is : writer_of w l ≡ Some n = writer_is w l k.machine k.call u.machine u.course k.named u.at (distinct k.machine u.machine u.at) u.has u.number in
        seq_less w (name_of i) l d.seq some (λ same x says.
        older_seq g b p h xs run distinct i f c d at on y flies l k x says (sym (ap (some_is (same_name (name_of i))) is) ∙ same))

    each : 0 < d.seq → given_number f.session < d.seq → (l : Landing) → Contains (history_of (world_at p h xs) path offset) l
        → seq_left (world_at p h xs) (name_of i) l < d.seq
    each some above l has =
        let w : World = world_at p h xs in
        elim (contains_append (landed_at w path offset) (first_landing w path offset ∷ []) l has) as (λ z. seq_left w (name_of i) l < d.seq) [
          | inl old ↦ landed some l (kept_inside (λ (x : Landing). same_place x.path x.offset path offset) w.landings l old).0
          | inr last ↦ elim (contains_cases (first_landing w path offset) [] l last) as (λ z. seq_left w (name_of i) l < d.seq) [
            | inl e ↦
                subst (λ (z : Landing). seq_left w (name_of i) z < d.seq) e
                (seq_less w (name_of i) (first_landing w path offset) d.seq some (first_under p h xs run path offset place i f d.seq f.session.job refl above other))
            | inr none ↦ absurd (contains_none l none)
          ]
        ]
