-- What lands are whole sectors.
use Rattle.sl_area.specs.AreaSizes.{Layout, layout_with, sector_with}
use Rattle.sl_run_law.proofs.Landing.OneArrival.{Arrival, Lands, first_lands}
use Rattle.sl_run_law.proofs.Landing.InitialRecords.{initial_sized, is_size}
use Rattle.sl_run_law.proofs.Landing.OneEvent.{event_goes_on, step_landings, world_first, world_keeps, world_then}
use Rattle.sl_run_law.proofs.Landing.CallsAreSpelled.{CallsAreSpelled, IsSpelled, run_spells}
use Rattle.sl_run_law.specs.Landing.Landings.{LandingsAreSectors}
use Rattle.sl_words.proofs.Lists.{contains_cases, contains_none, find_inside}
use Rattle.sl_run.specs.EventChanges.{first_change, write_bytes}
use Rattle.sl_run.specs.Inputs.{input_of, machine_of}
use Rattle.sl_run.specs.Refusals.{may_happen}
use Rattle.sl_run.specs.Premises.{torn_bytes}
use Rattle.sl_run.specs.Headers.{IsHeader}
use Rattle.sl_run.specs.Runs.{Happening}
use Rattle.sl_run.specs.Safety.{LawfulRun, world_at}
use Rattle.sl_run.specs.Worlds.{Landing, Program, World, content, initial_bytes, is_open, last_landing, world_with}
use Rattle.sl_run.specs.declared.event.Event.{Event}
use Rattle.sl_run.specs.declared.header.Header.{Header}
use Rattle.sl_run_law.proofs.WorldsGoOn.{run_goes}
use Rattle.sl_sector.proofs.SpellingLaws.{length-spelling}
use Rattle.sl_sector.specs.SectorLayouts.{IsDigest, IsSectorSize}
use Rattle.sl_trace.specs.Traces.{is_write, record_of, same_place}
use Rattle.sl_trace.specs.declared.effects.Call.{Call}
use Rattle.sl_trace.specs.declared.effects.Effects.{Effects}
use Rattle.sl_trace.specs.declared.effects.Op.TheVariants.{ReadSectors, WriteRecord}
use Rattle.sl_trace.specs.declared.effects.Op.{Op}
use Rattle.sl_words.proofs.CaseLaws.{true_is_false}
use Rattle.std.proofs.Common.{ap, arith, inl, inr, refl, subst, sym, ◌∙◌}
use Rattle.std.proofs.lemmas.List.{length-append, length-drop, length-take-le}
use Rattle.std.specs.Option.{option_map_or}
use Rattle.std.specs.Prelude.{Contains, List, None, Option, Some, drop, length, take, true, [], ℕ, ◌&&◌, ◌++◌, ◌+◌, ◌-◌, ◌==◌, ◌≡◌, ◌≤◌}

-- Each landing has a sector's bytes.
abbrev pub AreSized : World → Type 0
AreSized w = (l : Landing) → Contains w.landings l → length l.bytes ≡ w.layout.sector

-- The world is laid out as its header says, with a digest.
pub record IsLaid (w : World) : Type 0 where
  pub digest : List ℕ → List ℕ
  pub is_digest : IsDigest digest
  pub layout : w.layout ≡ layout_with digest w.header.geometry
  pub header : IsHeader w.header

pub laid : (p : Program) (h : Header) (xs : List Happening) → LawfulRun p h xs → IsLaid (world_at p h xs)
laid p h xs run =
    let g = run_goes (world_with p h) xs in
    record {
      digest = p.digest;
      is_digest = run.digest;
      layout = g.layout ∙ ap (λ (k : Header). layout_with p.digest k.geometry) (sym g.header);
      header = subst IsHeader (sym g.header) run.header;
    }

-- ---- what stands at a place

initial_size : (w : World) (path : List ℕ) (offset : ℕ) → IsLaid w → length (initial_bytes w.layout w.header path offset) ≡ w.layout.sector
initial_size w path offset k =
    subst (λ (g : Layout). length (initial_bytes g w.header path offset) ≡ g.sector) (sym k.layout) (initial_sized k.digest w.header path offset k.is_digest k.header)

content_by : (w : World) (path : List ℕ) (offset : ℕ) (o : Option Landing) → last_landing w path offset ≡ o → IsLaid w → AreSized w
    → length (elim o as (λ x. List ℕ) [ Some l ↦ l.bytes | None ↦ initial_bytes w.layout w.header path offset ]) ≡ w.layout.sector
content_by w path offset None is k so = initial_size w path offset k
content_by w path offset (Some l) is k so = so l (find_inside (λ x. same_place x.path x.offset path offset) w.landings l is).0

pub content_size : (w : World) (path : List ℕ) (offset : ℕ) → IsLaid w → AreSized w → length (content w path offset) ≡ w.layout.sector
content_size w path offset k so = content_by w path offset (last_landing w path offset) refl k so

-- ---- what a write leaves

size_is : (w : World) → IsLaid w → IsSectorSize w.layout.sector
size_is w k = subst (λ (g : Layout). IsSectorSize g.sector) (sym k.layout) (is_size w.header.geometry k.header.geometry)

digest_is : (w : World) → IsLaid w → IsDigest w.layout.digest
digest_is w k = subst (λ (g : Layout). IsDigest g.digest) (sym k.layout) k.is_digest

spelling_size : (w : World) (c : Call) (o : Op) → c.op ≡ o → is_write o ≡ true → IsLaid w → IsSpelled c
    → length (option_map_or (sector_with w.layout) (record_of o) []) ≡ w.layout.sector
spelling_size w c (ReadSectors n) is writes k spelled = absurd (true_is_false (sym writes))
spelling_size w c (WriteRecord r) is writes k spelled =
    length-spelling w.layout.digest (digest_is w k) w.layout.sector r (size_is w k) (spelled r (ap record_of is))

whole_size : (w : World) (c : Call) → is_write c.op ≡ true → IsLaid w → IsSpelled c → length (write_bytes w c) ≡ w.layout.sector
whole_size w c writes k spelled = spelling_size w c c.op refl writes k spelled

three : (x y z : List ℕ) → length (x ++ y ++ z) ≡ length x + length y + length z
three x y z = length-append (x ++ y) z ∙ ap (λ n. n + length z) (length-append x y)

fills : (size n k front behind : ℕ) → front ≡ n → behind ≡ size - (n + k) → n + k ≤ size → front + k + behind ≡ size
fills size n k front behind f b fits = omega (arith, f, b, fits)

no_more : (size n k front : ℕ) → front ≡ size → n + k ≤ size → n ≤ front
no_more size n k front f fits = omega (arith, f, fits)

mixed_size : (size n : ℕ) (front middle behind : List ℕ) → length front ≡ size → length behind ≡ size → n + length middle ≤ size
    → length (take n front ++ middle ++ drop (n + length middle) behind) ≡ size
mixed_size size n front middle behind f b fits =
    three (take n front) middle (drop (n + length middle) behind)
    ∙ fills size n (length middle) (length (take n front)) (length (drop (n + length middle) behind))
    (length-take-le n front (no_more size n (length middle) (length front) f fits))
    (length-drop (n + length middle) behind ∙ ap (λ k. k - (n + length middle)) b) fits

torn_by : (w : World) (c : Call) (n : ℕ) (middle : List ℕ) (o : Op) → c.op ≡ o → is_write o ≡ true → IsLaid w → IsSpelled c → AreSized w
    → n + length middle ≤ w.layout.sector
    → length (elim o as (λ x. List ℕ) [
      | ReadSectors k ↦ []
      | WriteRecord r ↦ take n (sector_with w.layout r) ++ middle ++ drop (n + length middle) (content w c.path c.offset)
    ]) ≡ w.layout.sector
torn_by w c n middle (ReadSectors k) is writes l spelled so fits = absurd (true_is_false (sym writes))
torn_by w c n middle (WriteRecord r) is writes l spelled so fits =
    mixed_size w.layout.sector n (sector_with w.layout r) middle (content w c.path c.offset) (spelling_size w c (WriteRecord r) is writes l spelled)
    (content_size w c.path c.offset l so) fits

torn_size : (w : World) (c : Call) (n : ℕ) (middle : List ℕ) → is_write c.op ≡ true → IsLaid w → IsSpelled c → AreSized w → n + length middle ≤ w.layout.sector
    → length (torn_bytes w c n middle) ≡ w.layout.sector
torn_size w c n middle writes k spelled so fits = torn_by w c n middle c.op refl writes k spelled so fits

-- ---- events

flight_spelled : (w v : World) (a : Arrival w v) → CallsAreSpelled w → IsSpelled a.flight.call
flight_spelled w v a so =
    so a.machine a.host a.flight a.at (find_inside (λ x. x.call.number == a.number && is_open a.host x) a.host.calls a.flight a.flies).0

new_size : (w v : World) (a : Arrival w v) → IsLaid w → CallsAreSpelled w → AreSized w → length a.landing.bytes ≡ w.layout.sector
new_size w v a k spelled so =
    let mine : IsSpelled a.flight.call = flight_spelled w v a spelled in
    elim a.left as (λ z. length a.landing.bytes ≡ w.layout.sector) [
      | inl whole ↦ ap length whole.bytes ∙ whole_size w a.flight.call a.writes k mine
      | inr part ↦ ap length part.bytes ∙ torn_size w a.flight.call part.front part.middle a.writes k mine so part.fits
    ]

sized_by : (w v : World) → Lands w v → IsLaid w → CallsAreSpelled w → AreSized w → (l : Landing) → Contains v.landings l → length l.bytes ≡ w.layout.sector
sized_by w v (inl same) k spelled so l h = so l (subst (λ ls. Contains ls l) same h)
sized_by w v (inr a) k spelled so l h =
    elim (contains_cases a.landing w.landings l (subst (λ ls. Contains ls l) a.same h)) as (λ z. length l.bytes ≡ w.layout.sector) [
      | inl e ↦ ap (λ (x : Landing). length x.bytes) (sym e) ∙ new_size w v a k spelled so
      | inr older ↦ so l older
    ]

sized : (w : World) (e : Event) (fx : Effects) → may_happen w e ≡ true → IsLaid w → CallsAreSpelled w → AreSized w → AreSized (world_then w e fx)
sized w e fx may k spelled so l h =
    sized_by w (first_change e w) (first_lands e w may) k spelled so l
    (subst (λ ls. Contains ls l) (step_landings (machine_of e) (input_of w e) fx (world_first w e)) h)
    ∙ ap (λ (g : Layout). g.sector) (sym (event_goes_on w e fx).layout)

pub are_sectors : LandingsAreSectors
are_sectors p h xs run =
    world_keeps AreSized p h (λ l there. absurd (contains_none l there))
    (λ now x law l so. sized (world_at p h now) x.0 l.effects l.may (laid p h now l.before) (run_spells p h now l.before) so) xs run

-- What stands at any place is a whole sector.
pub content_is_sector : (p : Program) (h : Header) (xs : List Happening) → LawfulRun p h xs → (path : List ℕ) (offset : ℕ)
    → length (content (world_at p h xs) path offset) ≡ (world_at p h xs).layout.sector
content_is_sector p h xs run path offset = content_size (world_at p h xs) path offset (laid p h xs run) (are_sectors p h xs run)
