-- What is kept of each call: its samples are of its first sectors, in order, and each shows what was the newest.
use Rattle.sl_area.specs.AreaLayout.{sector_of}
use Rattle.sl_run_law.proofs.Course.Daemons.{every_each}
use Rattle.sl_run.specs.Refusals.{is_read_course, sectors_of}
use Rattle.sl_run.specs.Worlds.{Course, Landing, Sampling, World, first_landing, history_of, initial_bytes}
use Rattle.sl_run.specs.declared.header.Header.{Header}
use Rattle.sl_area.specs.AreaSizes.{Layout}
use Rattle.sl_run_law.specs.FatesStay.{Every}
use Rattle.sl_run_law.proofs.Sample.LandingNumbers.{every_kept, number_from, number_stays}
use Rattle.sl_run_law.specs.Sample.Samples.{IsSampleOf, SampledInOrder, numbered_landing, sector_place}
use Rattle.sl_trace.specs.Traces.{same_place}
use Rattle.std.proofs.Common.{ap, arith, inl, inr, sym, ◌∙◌}
use Rattle.std.proofs.lemmas.List.{append_assoc}
use Rattle.std.proofs.lemmas.List.Elements.{filter-append}
use Rattle.std.specs.Prelude.{Bool, List, None, Some, filter, length, slice_get, true, [], ℕ, ◌*◌, ◌++◌, ◌+◌, ◌<◌, ◌∷◌, ◌≡◌, ◌≤◌}

-- ---- what is kept

-- A call in a world: its samples came before the world's next step.
pub record Sees (w : World) (c : Course) : Type 0 where
  pub sized : length c.sampled ≡ length c.samples * w.layout.sector
  pub few : length c.samples ≤ sectors_of c.call.op
  pub whole : c.done ≡ true → is_read_course c ≡ true → length c.samples ≡ sectors_of c.call.op
  pub made : (c.made.step < w.step) × (c.made.moment ≤ w.moment)
  pub past : (k : ℕ) (s : Sampling) → slice_get c.samples k ≡ Some s → (s.step < w.step) × (s.moment ≤ w.moment)
  pub shows : (k : ℕ) (s : Sampling) → slice_get c.samples k ≡ Some s → IsSampleOf w c k s
  pub order : SampledInOrder c

-- ---- worlds go on

-- It landed between the two worlds.
pub record IsBetween (w v : World) (l : Landing) : Type 0 where
  pub after : (w.step ≤ l.step) × (w.moment ≤ l.moment)
  pub before : (l.step ≤ v.step) × (l.moment ≤ v.moment)

-- The same disks later.
pub record Onward (w v : World) : Type 0 where
  pub header : v.header ≡ w.header
  pub layout : v.layout ≡ w.layout
  pub step : w.step ≤ v.step
  pub moment : w.moment ≤ v.moment
  pub newer : List Landing
  pub landings : v.landings ≡ newer ++ w.landings
  pub each : Every (IsBetween w v) newer

-- The landing test of a place.
abbrev is_there : List ℕ → ℕ → Landing → Bool
is_there path offset l = same_place l.path l.offset path offset

abbrev first_with : Layout → Header → List ℕ → ℕ → Landing
first_with g h path offset =
    record { path = path; offset = offset; bytes = initial_bytes g h path offset; whole = true; writer = None; step = 0; moment = 0 }

same_first : (w v : World) (path : List ℕ) (offset : ℕ) → Onward w v → first_landing v path offset ≡ first_landing w path offset
same_first w v path offset o = ap (λ g. first_with g v.header path offset) o.layout ∙ ap (λ h. first_with w.layout h path offset) o.header

-- The history of a place grows in front.
history_grows : (w v : World) (path : List ℕ) (offset : ℕ) (o : Onward w v)
    → history_of v path offset ≡ filter (is_there path offset) o.newer ++ history_of w path offset
history_grows w v path offset o =
    let p : Landing → Bool = is_there path offset in
    ap (λ ls. filter p ls ++ first_landing v path offset ∷ []) o.landings ∙ ap (λ l. filter p (o.newer ++ w.landings) ++ l ∷ []) (same_first w v path offset o)
    ∙ ap (λ ls. ls ++ first_landing w path offset ∷ []) (filter-append p o.newer w.landings)
    ∙ append_assoc (filter p o.newer) (filter p w.landings) (first_landing w path offset ∷ [])

place_stays : (w v : World) (c : Course) (k : ℕ) → Onward w v → sector_place v c k ≡ sector_place w c k
place_stays w v c k o = ap (λ (g : Layout). c.call.offset + k * g.sector) o.layout

-- The history of the call's sector k.
abbrev sector_history : World → Course → ℕ → List Landing
sector_history w c k = history_of w c.call.path (sector_place w c k)

sector_grows : (w v : World) (c : Course) (k : ℕ) (o : Onward w v)
    → sector_history v c k ≡ filter (is_there c.call.path (sector_place w c k)) o.newer ++ sector_history w c k
sector_grows w v c k o = ap (λ n. history_of v c.call.path n) (place_stays w v c k o) ∙ history_grows w v c.call.path (sector_place w c k) o

before_more : (a b c d e f : ℕ) → a < b → b ≤ c → d ≤ e → e ≤ f → (a < c) × (d ≤ f)
before_more a b c d e f h k i j = (omega (arith, h, k), omega (arith, i, j))

-- A sample stays one in a later world.
sample_stays : (w v : World) (c : Course) (k : ℕ) (s : Sampling) → Onward w v → (s.step < w.step) × (s.moment ≤ w.moment) → IsSampleOf w c k s → IsSampleOf v c k s
sample_stays w v c k s o past i =
    let older : List Landing = sector_history w c k in
    let newer : List Landing = filter (is_there c.call.path (sector_place w c k)) o.newer in
    let grows = sector_grows w v c k o in
    let each : Every (IsBetween w v) newer = every_kept (IsBetween w v) (is_there c.call.path (sector_place w c k)) o.newer o.each in
    record {
      landing = i.landing;
      seen = ap (λ ls. numbered_landing ls s.index) grows ∙ number_stays newer older s.index i.landing i.seen;
      bytes = ap (λ g. sector_of g c.sampled k) o.layout ∙ i.bytes;
      newest = i.newest;
      before_next = λ n l at above.
          elim (number_from (IsBetween w v) newer older n l each (ap (λ ls. numbered_landing ls n) (sym grows) ∙ at)) as (λ z. (s.step < l.step) × (s.moment ≤ l.moment)) [
            | inl old ↦ i.before_next n l old above
            | inr new ↦ before_more s.step w.step l.step s.moment w.moment l.moment past.0 new.after.0 past.1 new.after.1
          ];
      after = i.after;
      before = i.before;
    }

-- What is kept of a call is kept in a later world.
pub sees_later : (w v : World) (c : Course) → Onward w v → Sees w c → Sees v c
sees_later w v c o h =
    record {
      sized = h.sized ∙ ap (λ (g : Layout). length c.samples * g.sector) (sym o.layout);
      few = h.few;
      whole = h.whole;
      made = before_more c.made.step w.step v.step c.made.moment w.moment v.moment h.made.0 o.step h.made.1 o.moment;
      past = λ k s at. let p = h.past k s at in before_more s.step w.step v.step s.moment w.moment v.moment p.0 o.step p.1 o.moment;
      shows = λ k s at. sample_stays w v c k s o (h.past k s at) (h.shows k s at);
      order = h.order;
    }

pub all_later : (w v : World) (cs : List Course) → Onward w v → Every (Sees w) cs → Every (Sees v) cs
all_later w v cs o h = every_each (Sees w) (Sees v) cs (λ c s. sees_later w v c o s) h
