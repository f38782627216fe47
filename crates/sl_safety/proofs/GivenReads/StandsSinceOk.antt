-- Once a block was answered ok, its host's block spells it, or one that was submitted later, or nothing: where each host's block has one
-- sector.
--
-- What stands at a place is the newest landing there; a block that was answered ok has landed; and a host's blocks land in the order in
-- which they were submitted, where the sessions that sent them follow one another. It is so at each front that the answer has come
-- before, of whatever run.
use Rattle.sl_sector.specs.SectorLayouts.{block_in}
use Rattle.sl_sector.specs.declared.sector.PairBlock.{PairBlock}
use Rattle.sl_trace.specs.declared.effects.Spot.{Spot}
use Rattle.sl_area.specs.AreaSizes.{Layout, record_in}
use Rattle.sl_area.specs.AreaLayout.{block_offset}
use Rattle.sl_area.specs.Pairs.{later_pair}
use Rattle.sl_run_law.proofs.Front.RunsFromFronts.{fronts_are_lawful, run_after}
use Rattle.sl_run_law.proofs.Front.JoinedLists.{contains_left, contains_right}
use Rattle.sl_id_safety.proofs.FrontsOfSteps.{landed_since}
use Rattle.sl_id_safety.proofs.SectorsStand.{newest_stands}
use Rattle.sl_id_safety.proofs.State.CallLaws.{is_place}
use Rattle.sl_run_law.proofs.Landing.LandingLaws.{landings_are_written}
use Rattle.sl_run_law.specs.Landing.Landings.{HasWriter}
use Rattle.sl_trace.specs.Leases.{block_of_record}
use Rattle.sl_run_law.proofs.Place.PlaceLaws.{promised}
use Rattle.sl_run_law.proofs.Place.TracesOnMachines.{layout_is, reads_back}
use Rattle.sl_run_law.proofs.Place.Seats.{sized_in}
use Rattle.sl_run_law.proofs.Place.Sizes.{sector_fits}
use Rattle.sl_words.proofs.Lists.{contains_cases, contains_first, kept}
use Rattle.sl_safety.proofs.Resources.Calls.{Name, name_of, one_sent, there_sent, writes_is}
use Rattle.sl_safety.proofs.GivenReads.LandingOrder.{in_order}
use Rattle.sl_safety.proofs.GivenReads.NewestShown.{Descends, HasCome, has_come, history_descends}
use Rattle.sl_safety.proofs.GivenReads.FirstIsUnwritten.{block_in_is}
use Rattle.sl_safety.proofs.GivenReads.ShownAtPlace.{IsBlockLanding, block_landing, in_history, plain_place}
use Rattle.sl_safety.specs.Resources.Histories.{is_host}
use Rattle.sl_safety.specs.Resources.Orders.{BlockSent, LandedAt}
use Rattle.sl_safety.specs.Resources.HistoryLaws.{spot_of_line}
use Rattle.sl_safety.specs.Resources.Reads.{BlocksFollow, SentSince, StandsSince}
use Rattle.sl_safety.specs.Resources.SentCalls.{Sent, block_of_course, step_of}
use Rattle.sl_run.specs.Runs.{Happening}
use Rattle.sl_run.specs.Safety.{LawfulRun, block_there, pair_there, world_at}
use Rattle.sl_run.specs.Worlds.{Landing, Program, Stamp, World, content, first_landing, history_of, landed_at, world_with}
use Rattle.sl_run.specs.declared.header.Header.{Header}
use Rattle.sl_run.specs.declared.header.ResourceLine.{ResourceLine}
use Rattle.sl_run_law.proofs.WorldsGoOn.{run_goes}
use Rattle.sl_sector.specs.declared.sector.Block.{Block}
use Rattle.sl_sector.specs.declared.sector.Rec.TheVariants.{BlockIs}
use Rattle.sl_sector.specs.declared.sector.Rec.{Rec}
use Rattle.sl_trace.specs.Traces.{same_place}
use Rattle.sl_words.proofs.CaseLaws.{some_value}
use Rattle.std.proofs.Common.{ap, arith, inl, inr, subst, sym, ◌∙◌}
use Rattle.std.specs.Prelude.{Contains, List, Ok, Option, Some, [], false, option_and_then, option_map, true, ℕ, ◌++◌, ◌<◌, ◌∷◌, ◌≡◌, ◌≤◌, ◌⊎◌}

-- ---- fronts

pub layout_kept : (p : Program) (h : Header) (now xs : List Happening) → (world_at p h now).layout ≡ (world_at p h xs).layout
layout_kept p h now xs = layout_is p h now ∙ sym (layout_is p h xs)

-- What has landed at a front has landed later.
pub landed_later : (p : Program) (h : Header) (now rest : List Happening) (l : Landing) → Contains (world_at p h now).landings l → Contains (world_at p h (now ++ rest)).landings l
landed_later p h now rest l there =
    let grown = (run_goes (world_at p h now) rest).landings in
    subst (λ (w : World). Contains w.landings l) (sym (run_after (world_with p h) now rest))
    (subst (λ (ls : List Landing). Contains ls l) (sym grown.same) (contains_right grown.newer (world_at p h now).landings l there))

-- What has landed before a front's step has landed at it.
pub landed_sooner : (p : Program) (h : Header) (now rest : List Happening) (l : Landing) → Contains (world_at p h (now ++ rest)).landings l → l.step < (world_at p h now).step
    → Contains (world_at p h now).landings l
landed_sooner p h now rest l there early =
    elim (landed_since p h now rest l there) [ inl was ↦ was | inr late ↦ absurd (omega (arith, early, late)) ]

-- ---- what stands at a place

-- It is what was left there last.
record IsNewest (p : Program) (h : Header) (now : List Happening) (path : List ℕ) (offset : ℕ) (l top : Landing) : Type 0 where
  landed : Contains (world_at p h now).landings top
  place : (top.path ≡ path) × (top.offset ≡ offset)
  later : (l ≡ top) ⊎ (l.step < top.step)

above_zero : (a b : ℕ) → a < b → b ≡ 0 → ⊥
above_zero a b h e = omega (arith, h, e)

-- Where something has landed the newest is a landing, no older than it.
newest_is : (p : Program) (h : Header) (now : List Happening) → LawfulRun p h now → (path : List ℕ) (offset : ℕ) (l top : Landing) (below : List Landing)
    → history_of (world_at p h now) path offset ≡ top ∷ below → Contains (world_at p h now).landings l → l.path ≡ path → l.offset ≡ offset
    → IsNewest p h now path offset l top
newest_is p h now run path offset l top below whole there paths offsets =
    let u : World = world_at p h now in
    let inside : Contains (landed_at u path offset) l =
    kept (λ (y : Landing). same_place y.path y.offset path offset) u.landings l (is_place l.path l.offset path offset paths offsets) there in
    let among : Contains (top ∷ below) l =
    subst (λ (ls : List Landing). Contains ls l) whole (contains_left (landed_at u path offset) (first_landing u path offset ∷ []) l inside) in
    let falls : Descends (top ∷ below) = subst Descends whole (history_descends p h now run path offset) in
    let later : (l ≡ top) ⊎ (l.step < top.step) =
    elim (contains_cases top below l among) as (λ z. (l ≡ top) ⊎ (l.step < top.step)) [ inl here ↦ inl (sym here) | inr old ↦ inr (falls.0 l old) ] in
    let its = in_history u path offset top (subst (λ (ls : List Landing). Contains ls top) (sym whole) (contains_first top below)) in
    record {
      landed = elim its.2 as (λ z. Contains u.landings top) [
        | inl was ↦ was
        | inr first ↦ elim later as (λ z. Contains u.landings top) [
          | inl same ↦ subst (λ (y : Landing). Contains u.landings y) same there
          | inr less ↦ absurd (above_zero l.step top.step less (ap (λ (y : Landing). y.step) first))
        ]
      ];
      place = (its.0, its.1);
      later = later;
    }

-- ---- whose it is

-- A block that was sent, and what it says.
record IsSentAs (w : World) (r : ResourceLine) (k : ℕ) (l : Landing) (b : Block) : Type 0 where
  sent : Sent
  block : BlockSent w r k sent
  says : block_of_course sent.course ≡ Some b
  landed : LandedAt w r k sent l

-- What a landing spells its call sent.
sent_as : (p : Program) (h : Header) (xs : List Happening) → LawfulRun p h xs → (world_at p h xs).layout.paired ≡ false → (r : ResourceLine) → Contains h.resources r → (k : ℕ) → is_host (world_at p h xs) k ≡ true
    → (l : Landing) → Contains (world_at p h xs).landings l → l.path ≡ r.path → l.offset ≡ block_offset (world_at p h xs).layout r.offset k → (b : Block)
    → record_in (world_at p h xs).layout l.bytes ≡ Ok (BlockIs b) → IsSentAs (world_at p h xs) r k l b
sent_as p h xs run plain r there k host l landed path offset b spells =
    let w : World = world_at p h xs in
    let d : IsBlockLanding w r k l = block_landing p h xs run plain r there k host l landed path offset in
    let f : HasWriter w l = landings_are_written p h xs run l landed in
    let back : f.wrote.record_written ≡ BlockIs b =
    reads_back promised p h xs run (sector_fits w.layout (sized_in p h xs run)) l f.machine f.call f.wrote (BlockIs b) spells in
    let y : Sent = record { machine = f.machine; course = f.wrote.course } in
    let names : name_of y ≡ name_of d.sent =
    some_value (name_of y) (name_of d.sent) (ap (λ n. Some (f.machine, n)) f.wrote.number ∙ sym f.named ∙ d.named) in
    let one : y ≡ d.sent =
    one_sent p h xs run y d.sent (there_sent w f.machine f.wrote.machine f.wrote.course f.wrote.at f.wrote.has) d.there (ap (λ (n : Name). n.0) names) (ap (λ (n : Name). n.1) names) in
    let says : block_of_course y.course ≡ Some b = ap (λ o. option_and_then block_of_record o) (f.wrote.writes ∙ ap (λ (x : Rec). Some x) back) in
    record {
      sent = d.sent;
      block = record { sent = d.there; on = d.on; block = writes_is d.sent.course d.block d.writes; host = d.host };
      says = subst (λ (z : Sent). block_of_course z.course ≡ Some b) one says;
      landed = record { sent = d.there; landed = landed; place = (path, (0, offset ∙ sym (plain_place w.layout plain r.offset k 0))); writer = d.named };
    }

-- ---- a host's block

-- Where each host's block has one sector, what stands is what that spells.
pub there_plain : (w : World) → w.layout.paired ≡ false → (at : Spot) (k : ℕ)
    → block_there w at k ≡ block_in k (record_in w.layout (content w at.path (block_offset w.layout at.base k)))
there_plain w plain at k =
    ap (λ b. elim b as (λ z. Option Block) [
      | false ↦ block_in k (record_in w.layout (content w at.path (block_offset w.layout at.base k)))
      | true ↦ option_map (λ (q : PairBlock). q.block) (later_pair (pair_there w at k true) (pair_there w at k false))
    ]) plain

pub block_stands : (p : Program) (h : Header) (now rest : List Happening) → LawfulRun p h (now ++ rest) → (world_at p h (now ++ rest)).layout.paired ≡ false → (r : ResourceLine) → Contains h.resources r → (k : ℕ)
    → is_host (world_at p h (now ++ rest)) k ≡ true → BlocksFollow (world_at p h (now ++ rest)) r k → (x : Sent) → BlockSent (world_at p h (now ++ rest)) r k x
    → x.course.done ≡ true → (s : Stamp) → x.course.answered ≡ Some s → s.step ≤ (world_at p h now).step → (b : Block)
    → block_there (world_at p h now) (spot_of_line r) k ≡ Some b → SentSince (world_at p h (now ++ rest)) r k b x
block_stands p h now rest run plain r there k host follow x block done s told early b spells =
    let u : World = world_at p h now in
    let w : World = world_at p h (now ++ rest) in
    let front = fronts_are_lawful p h now rest run in
    let layout : u.layout ≡ w.layout = layout_kept p h now (now ++ rest) in
    let place : ℕ = block_offset u.layout r.offset k in
    let at : place ≡ block_offset w.layout r.offset k = ap (λ (g : Layout). block_offset g r.offset k) layout in
    let t = newest_stands u r.path place in
    let c : HasCome w r k x s = has_come p h (now ++ rest) run plain r there k x block done s told in
    let come = c.early in
    let was : Contains u.landings c.landing = landed_sooner p h now rest c.landing c.at.landed (omega (arith, come, early)) in
    let n = newest_is p h now front r.path place c.landing t.top t.below t.whole was c.at.place.0 (c.offset ∙ sym at) in
    let is : record_in u.layout t.top.bytes ≡ Ok (BlockIs b) =
    subst (λ (bs : List ℕ). record_in u.layout bs ≡ Ok (BlockIs b)) t.holds (block_in_is k (record_in u.layout (content u r.path place)) b (sym (there_plain u (ap (λ (g : Layout). g.paired) layout ∙ plain) (spot_of_line r) k) ∙ spells)).0 in
    let y : IsSentAs w r k t.top b =
    sent_as p h (now ++ rest) run plain r there k host t.top (landed_later p h now rest t.top n.landed) n.place.0 (n.place.1 ∙ at) b
    (subst (λ (g : Layout). record_in g t.top.bytes ≡ Ok (BlockIs b)) layout is) in
    record {
      sent = y.sent;
      block = y.block;
      says = y.says;
      since = elim n.later as (λ z. step_of x ≤ step_of y.sent) [
        | inl same ↦
            let names : name_of x ≡ name_of y.sent =
            some_value (name_of x) (name_of y.sent) (sym c.at.writer ∙ ap (λ (l : Landing). l.writer) same ∙ y.landed.writer) in
            let one : x ≡ y.sent =
            one_sent p h (now ++ rest) run x y.sent block.sent y.block.sent (ap (λ (m : Name). m.0) names) (ap (λ (m : Name). m.1) names) in
            let steps : step_of x ≡ step_of y.sent = ap step_of one in
            omega (arith, steps)
        | inr less ↦
            let order = in_order p h (now ++ rest) r run there k host x y.sent c.landing t.top c.at y.landed (follow x y.sent block y.block) less in
            omega (arith, order)
      ];
    }

pub stands_since : (p : Program) (h : Header) (xs : List Happening) → LawfulRun p h xs → (world_at p h xs).layout.paired ≡ false → (r : ResourceLine) → Contains h.resources r → (now rest : List Happening) → xs ≡ now ++ rest
    → StandsSince p h xs r now
stands_since p h xs run plain r there now rest whole =
    subst (λ ys. StandsSince p h ys r now) (sym whole)
    (λ k host follow x block done s told early b spells.
    block_stands p h now rest (subst (λ ys. LawfulRun p h ys) whole run) (subst (λ ys. (world_at p h ys).layout.paired ≡ false) whole plain) r there k host follow x block done s told early b spells)
