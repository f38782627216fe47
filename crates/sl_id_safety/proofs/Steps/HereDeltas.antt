-- What lands at the sector of an id is a delta record, and says what was written.
use Rattle.sl_area.specs.AreaSizes.{Layout, layout_with, record_in, sector_with}
use Rattle.sl_area.specs.AreaLayout.{in_area}
use Rattle.sl_run_law.proofs.Front.RunsFromFronts.{last_event}
use Rattle.sl_id_safety.specs.State.IdStates.{content_of, said_by}
use Rattle.sl_id_safety.specs.State.StateLaws.{IsIdPlace}
use Rattle.sl_id_safety.proofs.Steps.EventFrames.{StayDistinct, after_event, first_tracks, second_tracks, step_rest}
use Rattle.sl_id_safety.proofs.Steps.OtherSessions.{goes_has}
use Rattle.sl_id_safety.specs.Steps.EventParts.{between}
use Rattle.sl_run_law.proofs.Landing.CallLists.{one_call}
use Rattle.sl_run_law.specs.Landing.Landings.{IsWrittenBy}
use Rattle.sl_run_law.proofs.Place.TracesOnMachines.{IsPromised, digest_is, layout_is, traced, writes_record}
use Rattle.sl_run_law.proofs.Place.Seats.{delta_within, sized_in}
use Rattle.sl_run_law.proofs.Place.Sizes.{sector_fits, sized}
use Rattle.sl_run_law.specs.Place.Homes.{IsDeltaLanding, LockspacesHoldDeltas}
use Rattle.sl_run.specs.Inputs.{input_of, machine_of}
use Rattle.sl_run.specs.Premises.{spells_something}
use Rattle.sl_run.specs.EventChanges.{write_bytes}
use Rattle.sl_run.specs.Runs.{Happening}
use Rattle.sl_run.specs.Safety.{LawfulRun, world_at}
use Rattle.sl_run.specs.Worlds.{Course, Landing, Machine, Program, World, machine_at}
use Rattle.sl_run.specs.declared.header.Header.{Header}
use Rattle.sl_sector.proofs.PublicLaws.{spelled_is_read}
use Rattle.sl_sector.specs.SectorLayouts.{delta_in}
use Rattle.sl_sector.specs.declared.sector.Bad.{Bad}
use Rattle.sl_sector.specs.declared.sector.DeltaRec.{DeltaRec}
use Rattle.sl_sector.specs.declared.sector.Rec.TheVariants.{DeltaIs}
use Rattle.sl_sector.specs.declared.sector.Rec.{Rec}
use Rattle.sl_trace.specs.Traces.{record_of}
use Rattle.sl_words.proofs.CaseLaws.{one_value, some_value, true_is_false}
use Rattle.std.proofs.Common.{ap, refl, subst, sym, ◌∙◌}
use Rattle.std.proofs.lemmas.Bool.{eq-eqb}
use Rattle.std.specs.Option.{option_map_or}
use Rattle.std.specs.Prelude.{Contains, Err, IsTrue, List, None, Ok, Result, Some, false, is_ok, option_map, [], ℕ, ◌++◌, ◌∷◌, ◌≡◌}

-- ---- the record

-- The sector of an id is in its lockspace's area.
inside_area : (p : Program) (h : Header) (xs : List Happening) (path : List ℕ) (offset : ℕ) → LawfulRun p h xs → (place : IsIdPlace p h path offset)
    → IsTrue (in_area (world_at p h xs).layout place.lockspace.offset offset)
inside_area p h xs path offset run place =
    let g : Layout = layout_with p.digest h.geometry in
    subst (λ (l : Layout). IsTrue (in_area l place.lockspace.offset offset)) (sym (layout_is p h xs))
    (subst (λ o. IsTrue (in_area g place.lockspace.offset o)) (sym place.is_offset)
    (delta_within g place.lockspace.offset place.id (sized p.digest h.geometry run.header.geometry) place.range.0 place.range.1))

-- The call that left it, later.
call_after : StayDistinct → (p : Program) (h : Header) (now : List Happening) (x : Happening) → LawfulRun p h (now ++ x ∷ []) → (l : Landing) (m : ℕ) (a : Machine) (c : Course)
    → machine_at (world_at p h now) m ≡ Some a → Contains a.calls c → (k n : ℕ) (u : IsWrittenBy (after_event p h now x) l k n) → m ≡ k → c.call.number ≡ n
    → u.course.call ≡ c.call
call_after distinct p h now x run l m a c at has k n u machine number =
    let w : World = world_at p h now in
    let v : World = after_event p h now x in
    let one = first_tracks w x.0 m a at in
    let two = second_tracks p h now x run m one.0 one.1 in
    let d = goes_has a.calls one.0.calls c one.2.calls has in
    let e = goes_has one.0.calls two.0.calls d.0 two.2.calls d.1 in
    let same : u.machine ≡ two.0 = one_value u.machine two.0 (machine_at v k) u.at (ap (machine_at v) (sym machine) ∙ two.1) in
    let there : Contains two.0.calls u.course = subst (λ b. Contains b.calls u.course) same u.has in
    let numbers : e.0.call.number ≡ u.course.call.number = ap (λ z. z.number) (e.2.call ∙ d.2.call) ∙ number ∙ sym u.number in
    let is : e.0 ≡ u.course = one_call two.0.calls e.0 u.course (distinct p h (now ++ x ∷ []) run m two.0 two.1) e.1 there (eq-eqb e.0.call.number u.course.call.number numbers) in
    ap (λ z. z.call) (sym is) ∙ e.2.call ∙ d.2.call

-- What a call leaves at the sector of an id is a delta record.
pub delta_here : StayDistinct → LockspacesHoldDeltas → (p : Program) (h : Header) (now : List Happening) (x : Happening) (path : List ℕ) (offset : ℕ)
    → LawfulRun p h (now ++ x ∷ []) → IsIdPlace p h path offset → (l : Landing) (m : ℕ) (a : Machine) (c : Course)
    → Contains (between (world_at p h now) x.0).landings l → l.writer ≡ Some (m, c.call.number) → l.path ≡ path → l.offset ≡ offset
    → machine_at (world_at p h now) m ≡ Some a → Contains a.calls c
    → (d : DeltaRec) × (record_of c.call.op ≡ Some (DeltaIs d))
delta_here distinct hold p h now x path offset run place l m a c there named path_is offset_is at has =
    let w : World = world_at p h now in
    let u : World = between w x.0 in
    let v : World = after_event p h now x in
    let last = last_event p h now x run in
    let landings : v.landings ≡ u.landings =
    ap (λ z. z.landings) last.after ∙ (step_rest (machine_of x.0) (input_of w x.0) last.effects u).landings in
    let k : IsDeltaLanding v place.lockspace l =
    hold p h (now ++ x ∷ []) run place.lockspace place.has l (subst (λ ls. Contains ls l) (sym landings) there) (path_is ∙ place.is_path)
    (subst (λ o. IsTrue (in_area v.layout place.lockspace.offset o)) (sym offset_is) (inside_area p h (now ++ x ∷ []) path offset run place)) in
    let pair : (m, c.call.number) ≡ (k.written.machine, k.written.call) =
    some_value (m, c.call.number) (k.written.machine, k.written.call) (sym named ∙ k.written.named) in
    let same = call_after distinct p h now x run l m a c at has k.written.machine k.written.call k.written.wrote (ap (λ q. q.0) pair) (ap (λ q. q.1) pair) in
    (k.delta, ap (λ z. record_of z.op) (sym same) ∙ k.written.wrote.writes ∙ ap (λ r. Some r) k.spells)

-- ---- what it says

-- A delta record that lands whole says what was written.
pub says_written : IsPromised → (p : Program) (h : Header) (now : List Happening) → LawfulRun p h now → (m : ℕ) (a : Machine) (c : Course) (d : DeltaRec)
    → machine_at (world_at p h now) m ≡ Some a → Contains a.calls c → record_of c.call.op ≡ Some (DeltaIs d)
    → said_by (world_at p h now).layout (write_bytes (world_at p h now) c.call) ≡ Some (content_of d)
says_written b p h now run m a c d at has writes =
    let w : World = world_at p h now in
    let t = traced b p h now run m a c at has in
    let is = writes_record t.daemon.setting t.daemon.trace t.submitted_as (DeltaIs d) t.lawful t.inside (ap (λ z. record_of z.op) t.is.call ∙ writes) in
    let read = spelled_is_read w.layout.digest (digest_is p h now run) w.layout.sector (sector_fits w.layout (sized_in p h now run)) (DeltaIs d) is in
    ap (λ r. said_by w.layout (option_map_or (sector_with w.layout) r [])) writes ∙ ap (λ r. option_map content_of (delta_in r)) read

none_read : (r : Result Rec Bad) → is_ok r ≡ false → option_map content_of (delta_in r) ≡ None
none_read (Ok x) h = absurd (true_is_false h)
none_read (Err bad) h = refl

-- .. and what lands torn says nothing.
pub says_nothing : (w : World) (bytes : List ℕ) → spells_something w bytes ≡ false → said_by w.layout bytes ≡ None
says_nothing w bytes h = none_read (record_in w.layout bytes) h
