-- What a read shows of an id's sector stood there at a front: it is the newest landing of the id's state at that front.
use Rattle.sl_area.specs.AreaLayout.{sector_of}
use Rattle.sl_run_law.proofs.Front.RunsFromFronts.{fronts_are_lawful, run_after}
use Rattle.sl_run_law.proofs.Front.JoinedLists.{contains_left, contains_right}
use Rattle.sl_id_safety.proofs.FrontsOfSteps.{FrontAt, landed_before, landed_since}
use Rattle.sl_id_safety.proofs.SectorsStand.{newest_stands, numbered_top}
use Rattle.sl_id_safety.proofs.State.CallLaws.{is_place}
use Rattle.sl_id_safety.proofs.State.SectorFrames.{at_place, first_same, history_grows}
use Rattle.sl_id_safety.specs.State.IdStates.{id_state, landing_of, said_by}
use Rattle.sl_id_safety.specs.State.StateLaws.{IsIdPlace}
use Rattle.sl_id_safety.proofs.Steps.Seqs.{has_number}
use Rattle.sl_id_safety.specs.Reached.IdsAreReached.{IdsAreReached}
use Rattle.sl_ids.proofs.DerivedLaws.{watchdogs}
use Rattle.sl_ids.proofs.StateLaws.{one_place}
use Rattle.sl_ids.proofs.WholeRuns.{reached_kept}
use Rattle.sl_ids.specs.Guards.{terms_of}
use Rattle.sl_ids.specs.Listed.{no_landing}
use Rattle.sl_ids.specs.State.{Content, IsLast, State, shown}
use Rattle.sl_run_law.proofs.Moment.MomentsFollowSteps.{kept_past}
use Rattle.sl_run_law.specs.Moment.MomentsFollowSteps.{Of_landing}
use Rattle.sl_run_law.proofs.Place.FoundInLists.{numbered_inside}
use Rattle.sl_run_law.proofs.Place.TracesOnMachines.{header_is, in_history, layout_is}
use Rattle.sl_words.proofs.Lists.{contains_first, kept}
use Rattle.sl_run.specs.Runs.{Happening}
use Rattle.sl_run.specs.Safety.{LawfulRun, world_at}
use Rattle.sl_run.specs.Worlds.{Course, Landing, Program, Sampling, World, first_landing, history_of, landed_at, world_with}
use Rattle.sl_run.specs.declared.header.Header.{Header}
use Rattle.sl_run_law.proofs.WorldsGoOn.{run_goes}
use Rattle.sl_run_law.proofs.Sample.LandingNumbers.{number_below, number_stays}
use Rattle.sl_run_law.specs.Sample.Samples.{IsSampleOf, numbered_landing, sector_place}
use Rattle.sl_trace.specs.Traces.{same_place}
use Rattle.std.proofs.Common.{ap, arith, inl, inr, refl, subst, sym, ◌∙◌}
use Rattle.std.proofs.lemmas.Bool.{cases_lt}
use Rattle.std.specs.Option.{option_map_or}
use Rattle.std.specs.Prelude.{Contains, List, Some, [], length, ℕ, ◌++◌, ◌+◌, ◌<◌, ◌∷◌, ◌≡◌, ◌≤◌, ◌⊎◌}

-- ---- numbers of landings

-- What the landing with a number spells, in the state of the id.
pub shows_number : (w : World) (path : List ℕ) (offset j : ℕ) (l : Landing) → numbered_landing (history_of w path offset) j ≡ Some l
    → shown (id_state w path offset) j ≡ said_by w.layout l.bytes
shows_number w path offset j l is = ap (λ o. (option_map_or (landing_of w) o no_landing).shown) is

-- ---- a world and a later one

-- A place of a world and of a later one of the same run.
record GrowsTo (u w : World) (path : List ℕ) (offset : ℕ) : Type 0 where
  newer : List Landing
  history : history_of w path offset ≡ newer ++ history_of u path offset
  layout : w.layout ≡ u.layout
  header : w.header ≡ u.header

grows_to : (p : Program) (h : Header) (now rest : List Happening) (path : List ℕ) (offset : ℕ) → GrowsTo (world_at p h now) (world_at p h (now ++ rest)) path offset
grows_to p h now rest path offset =
    let u : World = world_at p h now in
    let w : World = world_at p h (now ++ rest) in
    let layout : w.layout ≡ u.layout = layout_is p h (now ++ rest) ∙ sym (layout_is p h now) in
    let header : w.header ≡ u.header = header_is p h (now ++ rest) ∙ sym (header_is p h now) in
    let grown = (run_goes u rest).landings in
    record {
      newer = at_place path offset grown.newer;
      history = history_grows u w path offset grown.newer layout header (ap (λ (v : World). v.landings) (run_after (world_with p h) now rest) ∙ grown.same);
      layout = layout;
      header = header;
    }

-- ---- the landing that was seen stood there by its step

old_by : (u w : World) (path : List ℕ) (offset : ℕ) (l : Landing) → w.layout ≡ u.layout → w.header ≡ u.header → l.step < u.step
    → ((x : Landing) → Contains w.landings x → Contains u.landings x ⊎ (u.step ≤ x.step)) → ((l.path ≡ path) × (l.offset ≡ offset)) × (Contains w.landings l ⊎ (l ≡ first_landing w path offset))
    → Contains (history_of u path offset) l
old_by u w path offset l layout header early since (place, inl landed) =
    elim (since l landed) as (λ z. Contains (history_of u path offset) l) [
      | inl old ↦
          contains_left (landed_at u path offset) (first_landing u path offset ∷ []) l
          (kept (λ (x : Landing). same_place x.path x.offset path offset) u.landings l (is_place l.path l.offset path offset place.0 place.1) old)
      | inr later ↦ absurd (omega (arith, early, later))
    ]
old_by u w path offset l layout header early since (place, inr is) =
    contains_right (landed_at u path offset) (first_landing u path offset ∷ []) l
    (subst (λ x. Contains (first_landing u path offset ∷ []) x) (sym (is ∙ first_same u w path offset layout header)) (contains_first (first_landing u path offset) []))

-- All that stands in the history of a place came before now.
past_by : (p : Program) (h : Header) (now : List Happening) → LawfulRun p h now → (path : List ℕ) (offset : ℕ) (l : Landing) → Contains (history_of (world_at p h now) path offset) l
    → (l.step < (world_at p h now).step) ⊎ (l.step ≡ 0)
past_by p h now run path offset l there =
    let u : World = world_at p h now in
    elim (in_history u path offset l there).1 as (λ z. (l.step < u.step) ⊎ (l.step ≡ 0)) [
      | inl landed ↦ inl (kept_past p h now run l.step l.moment (Of_landing l landed refl refl)).0
      | inr is ↦ inr (ap (λ (x : Landing). x.step) is)
    ]

-- ---- the law

-- The newest landing of an id spells this.
pub record ShowsLast (v : State) (x : Content) : Type 0 where
  pub last : ℕ
  pub is_last : IsLast v last
  pub shows : shown v last ≡ Some x

-- Of a sample whose landing has number j at a front, the front's newest has no other.
is_top : (j top n step : ℕ) → j < top + 1 → (j < top → n < step) → step ≤ n → j ≡ top
is_top j top n step lt above le = elim (cases_lt j top) as (λ z. j ≡ top) [ inl less ↦ absurd (let k = above less in omega (arith, k, le)) | inr ge ↦ omega (arith, lt, ge) ]

-- What has landed at a place came by this step.
abbrev pub HasLandedBy : World → List ℕ → ℕ → ℕ → Type 0
HasLandedBy w path offset n = (l : Landing) → Contains (history_of w path offset) l → l.step ≤ n

late_by : (p : Program) (h : Header) (now : List Happening) → LawfulRun p h now → (path : List ℕ) (offset n : ℕ) → (world_at p h now).step ≤ n + 1
    → HasLandedBy (world_at p h now) path offset n
late_by p h now run path offset n le l there =
    elim (past_by p h now run path offset l there) as (λ z. l.step ≤ n) [ inl early ↦ omega (arith, early, le) | inr zero ↦ omega (arith, zero) ]

shown_by : IdsAreReached → (p : Program) (h : Header) (now rest : List Happening) → LawfulRun p h (now ++ rest) → (c : Course) (k : ℕ) (s : Sampling)
    → (i : IsSampleOf (world_at p h (now ++ rest)) c k s) → s.step ≤ (world_at p h now).step → HasLandedBy (world_at p h now) c.call.path (sector_place (world_at p h (now ++ rest)) c k) s.step
    → IsIdPlace p h c.call.path (sector_place (world_at p h (now ++ rest)) c k) → (x : Content)
    → said_by (world_at p h (now ++ rest)).layout (sector_of (world_at p h (now ++ rest)).layout c.sampled k) ≡ Some x
    → ShowsLast (id_state (world_at p h now) c.call.path (sector_place (world_at p h (now ++ rest)) c k)) x
shown_by reached p h now rest run c k s i reaches past place x says =
    let u : World = world_at p h now in
    let w : World = world_at p h (now ++ rest) in
    let path : List ℕ = c.call.path in
    let offset : ℕ = sector_place w c k in
    let g = grows_to p h now rest path offset in
    let v : State = id_state w path offset in
    let inv = reached_kept (terms_of h.timing) v (watchdogs.long h.timing run.header.timing) (reached p h (now ++ rest) path offset run place) in
    let l : Landing = i.landing in
    let spells : said_by w.layout l.bytes ≡ Some x = ap (said_by w.layout) (sym i.bytes) ∙ says in
    let old = old_by u w path offset l g.layout g.header (omega (arith, i.newest.0, reaches)) (landed_since p h now rest)
    (in_history w path offset l (numbered_inside (history_of w path offset) s.index l i.seen)) in
    let j = has_number (history_of u path offset) l old in
    let later : numbered_landing (history_of w path offset) j.0 ≡ Some l = ap (λ ls. numbered_landing ls j.0) g.history ∙ number_stays g.newer (history_of u path offset) j.0 l j.1 in
    let same : j.0 ≡ s.index =
    one_place (terms_of h.timing) v inv.0 j.0 s.index x (number_below (history_of w path offset) j.0 l later) (number_below (history_of w path offset) s.index l i.seen)
    (shows_number w path offset j.0 l later ∙ spells) (shows_number w path offset s.index l i.seen ∙ spells) in
    let t = newest_stands u path offset in
    let below : j.0 < length t.below + 1 = let long = ap (λ ls. length ls) t.whole in let lt = number_below (history_of u path offset) j.0 l j.1 in omega (arith, long, lt) in
    let top_in : numbered_landing (history_of u path offset) (length t.below) ≡ Some t.top = ap (λ ls. numbered_landing ls (length t.below)) t.whole ∙ numbered_top t.top t.below in
    let top_later : numbered_landing (history_of w path offset) (length t.below) ≡ Some t.top =
    ap (λ ls. numbered_landing ls (length t.below)) g.history ∙ number_stays g.newer (history_of u path offset) (length t.below) t.top top_in in
    let top : j.0 ≡ length t.below =
    is_top j.0 (length t.below) s.step t.top.step below (λ less. (i.before_next (length t.below) t.top top_later (subst (λ m. m < length t.below) same less)).0)
    (past t.top (subst (λ ls. Contains ls t.top) (sym t.whole) (contains_first t.top t.below))) in
    record {
      last = j.0;
      is_last = let long = ap (λ ls. length ls) t.whole in omega (arith, long, top);
      shows = shows_number u path offset j.0 l j.1 ∙ ap (λ y. said_by y l.bytes) (sym g.layout) ∙ spells;
    }

-- A landing of the id's state at a front, with what it spells.
pub record StoodAt (u : World) (path : List ℕ) (offset j : ℕ) (x : Content) : Type 0 where
  pub below : j < length (history_of u path offset)
  pub shows : shown (id_state u path offset) j ≡ Some x

-- What a sample shows stood at each front after its landing.
pub stood_at : IdsAreReached → (p : Program) (h : Header) (now rest : List Happening) → LawfulRun p h (now ++ rest) → (c : Course) (k : ℕ) (s : Sampling)
    → (i : IsSampleOf (world_at p h (now ++ rest)) c k s) → i.landing.step < (world_at p h now).step → IsIdPlace p h c.call.path (sector_place (world_at p h (now ++ rest)) c k)
    → (x : Content) → said_by (world_at p h (now ++ rest)).layout (sector_of (world_at p h (now ++ rest)).layout c.sampled k) ≡ Some x
    → StoodAt (world_at p h now) c.call.path (sector_place (world_at p h (now ++ rest)) c k) s.index x
stood_at reached p h now rest run c k s i early place x says =
    let u : World = world_at p h now in
    let w : World = world_at p h (now ++ rest) in
    let path : List ℕ = c.call.path in
    let offset : ℕ = sector_place w c k in
    let g = grows_to p h now rest path offset in
    let v : State = id_state w path offset in
    let inv = reached_kept (terms_of h.timing) v (watchdogs.long h.timing run.header.timing) (reached p h (now ++ rest) path offset run place) in
    let l : Landing = i.landing in
    let spells : said_by w.layout l.bytes ≡ Some x = ap (said_by w.layout) (sym i.bytes) ∙ says in
    let old = old_by u w path offset l g.layout g.header early (landed_since p h now rest) (in_history w path offset l (numbered_inside (history_of w path offset) s.index l i.seen)) in
    let j = has_number (history_of u path offset) l old in
    let later : numbered_landing (history_of w path offset) j.0 ≡ Some l = ap (λ ls. numbered_landing ls j.0) g.history ∙ number_stays g.newer (history_of u path offset) j.0 l j.1 in
    let same : j.0 ≡ s.index =
    one_place (terms_of h.timing) v inv.0 j.0 s.index x (number_below (history_of w path offset) j.0 l later) (number_below (history_of w path offset) s.index l i.seen)
    (shows_number w path offset j.0 l later ∙ spells) (shows_number w path offset s.index l i.seen ∙ spells) in
    let here : numbered_landing (history_of u path offset) s.index ≡ Some l = subst (λ n. numbered_landing (history_of u path offset) n ≡ Some l) same j.1 in
    record {
      below = number_below (history_of u path offset) s.index l here;
      shows = shows_number u path offset s.index l here ∙ ap (λ y. said_by y l.bytes) (sym g.layout) ∙ spells;
    }

-- What is said of a sample of a run, at a front of it.
abbrev Shown : Program → Header → List Happening → Course → ℕ → Sampling → Content → List Happening → Type 0
Shown p h now c k s x xs = LawfulRun p h xs → HasLandedBy (world_at p h now) c.call.path (sector_place (world_at p h xs) c k) s.step → IsSampleOf (world_at p h xs) c k s → IsIdPlace p h c.call.path (sector_place (world_at p h xs) c k)
    → said_by (world_at p h xs).layout (sector_of (world_at p h xs).layout c.sampled k) ≡ Some x
    → ShowsLast (id_state (world_at p h now) c.call.path (sector_place (world_at p h xs) c k)) x

-- A sample shows the newest landing of a front that has come to its step, where nothing has landed there since.
shown_in : IdsAreReached → (p : Program) (h : Header) (xs now rest : List Happening) → xs ≡ now ++ rest → (c : Course) (k : ℕ) (s : Sampling) → LawfulRun p h xs
    → s.step ≤ (world_at p h now).step → HasLandedBy (world_at p h now) c.call.path (sector_place (world_at p h xs) c k) s.step
    → IsSampleOf (world_at p h xs) c k s → IsIdPlace p h c.call.path (sector_place (world_at p h xs) c k) → (x : Content)
    → said_by (world_at p h xs).layout (sector_of (world_at p h xs).layout c.sampled k) ≡ Some x
    → ShowsLast (id_state (world_at p h now) c.call.path (sector_place (world_at p h xs) c k)) x
shown_in reached p h xs now rest whole c k s run reaches past i place x says =
    subst (Shown p h now c k s x) (sym whole)
    (λ run' past' i' place' says'. shown_by reached p h now rest run' c k s i' reaches past' place' x says') run past i place says

-- So it does at the first front that has come to its step.
pub shown_at : IdsAreReached → (p : Program) (h : Header) (xs : List Happening) (c : Course) (k : ℕ) (s : Sampling) (f : FrontAt p h xs s.step) → LawfulRun p h xs
    → IsSampleOf (world_at p h xs) c k s → IsIdPlace p h c.call.path (sector_place (world_at p h xs) c k) → (x : Content)
    → said_by (world_at p h xs).layout (sector_of (world_at p h xs).layout c.sampled k) ≡ Some x
    → ShowsLast (id_state (world_at p h f.now) c.call.path (sector_place (world_at p h xs) c k)) x
shown_at reached p h xs c k s f run i place =
    let front = fronts_are_lawful p h f.now f.rest (subst (λ ys. LawfulRun p h ys) f.whole run) in
    shown_in reached p h xs f.now f.rest f.whole c k s run f.reaches
    (late_by p h f.now front c.call.path (sector_place (world_at p h xs) c k) s.step f.first) i place

-- Nothing lands in the second step of an event.
settled_by : (p : Program) (h : Header) (now : List Happening) → LawfulRun p h now → (path : List ℕ) (offset n : ℕ) → (world_at p h now).step ≤ n + 1 + 1
    → HasLandedBy (world_at p h now) path offset n
settled_by p h now run path offset n le l there =
    elim (in_history (world_at p h now) path offset l there).1 as (λ z. l.step ≤ n) [
      | inl landed ↦ let early = landed_before p h now run l landed in omega (arith, early, le)
      | inr is ↦ let zero : l.step ≡ 0 = ap (λ (x : Landing). x.step) is in omega (arith, zero)
    ]

-- .. and at the first one that is past it.
pub shown_after : IdsAreReached → (p : Program) (h : Header) (xs : List Happening) (c : Course) (k : ℕ) (s : Sampling) (f : FrontAt p h xs (s.step + 1)) → LawfulRun p h xs
    → IsSampleOf (world_at p h xs) c k s → IsIdPlace p h c.call.path (sector_place (world_at p h xs) c k) → (x : Content)
    → said_by (world_at p h xs).layout (sector_of (world_at p h xs).layout c.sampled k) ≡ Some x
    → ShowsLast (id_state (world_at p h f.now) c.call.path (sector_place (world_at p h xs) c k)) x
shown_after reached p h xs c k s f run i place =
    let front = fronts_are_lawful p h f.now f.rest (subst (λ ys. LawfulRun p h ys) f.whole run) in
    let reaches = f.reaches in
    shown_in reached p h xs f.now f.rest f.whole c k s run (omega (arith, reaches))
    (settled_by p h f.now front c.call.path (sector_place (world_at p h xs) c k) s.step f.first) i place
