-- Once a block of a host was answered ok, what stands in its pair is that block, or one that was submitted later.
use Rattle.sl_area.specs.AreaSizes.{Layout, record_in}
use Rattle.sl_area.specs.AreaLayout.{block_offset, pair_offset}
use Rattle.sl_area.specs.Pairs.{later_pair}
use Rattle.sl_safety.proofs.GivenReads.NewestShown.{Descends, history_descends}
use Rattle.sl_safety.proofs.GivenReads.ShownAtPlace.{in_history}
use Rattle.sl_safety.proofs.GivenReads.StandsSinceOk.{landed_later, landed_sooner, layout_kept}
use Rattle.sl_safety.proofs.Resources.Calls.{owned}
use Rattle.sl_safety.proofs.Resources.StepsNameCalls.{text_same}
use Rattle.sl_safety.proofs.Resources.DoneIsAnswered.{made_since}
use Rattle.sl_safety.specs.Resources.Histories.{is_host}
use Rattle.sl_safety.specs.Resources.Orders.{BlockSent}
use Rattle.sl_safety.specs.Resources.HistoryLaws.{spot_of_line}
use Rattle.sl_safety.specs.Resources.Reads.{SentSince, StandsSince, step_given}
use Rattle.sl_safety.specs.Resources.SentCalls.{Sent, step_of}
use Rattle.sl_id_safety.proofs.FrontsOfSteps.{landed_before}
use Rattle.sl_id_safety.proofs.SectorsStand.{newest_stands}
use Rattle.sl_safety.proofs.Pairs.Orders.{answered_by}
use Rattle.sl_safety.proofs.Pairs.PairsAreLogs.{pairs_are_logs}
use Rattle.sl_safety.proofs.Pairs.Sectors.{IsFrom, Landed, NewestIn, first_spelled, from_first, sector_at}
use Rattle.sl_safety.proofs.Pairs.SentBlocks.{told_of}
use Rattle.sl_safety.proofs.Pairs.SpelledBlocks.{both_some, later_stands, spelled_stands}
use Rattle.sl_safety.specs.Pairs.Reads.{PairsStand, SentOf}
use Rattle.sl_safety.specs.Pairs.PairsAreShown.{Both, StandsFor}
use Rattle.sl_safety.specs.Pairs.PairLogs.{pair_log, pair_sent}
use Rattle.sl_safety.specs.Resources.SampledReads.{stored_in}
use Rattle.sl_ballot_law.proofs.PairLogs.NothingLands.{stays}
use Rattle.sl_ballot_law.specs.Pairs.State.{Stored, later}
use Rattle.sl_words.proofs.Lists.{contains_cases, contains_first, kept}
use Rattle.sl_words.proofs.Options.{mapped_value}
use Rattle.sl_run.specs.Runs.{Happening}
use Rattle.sl_run.specs.Safety.{LawfulRun, block_there, pair_there, world_at}
use Rattle.sl_run.specs.Worlds.{Landing, Program, Stamp, World, content, first_landing, history_of, landed_at, world_with}
use Rattle.sl_run.specs.declared.header.Header.{Header}
use Rattle.sl_run.specs.declared.header.ResourceLine.{ResourceLine}
use Rattle.sl_run_law.proofs.Front.RunsFromFronts.{fronts_are_lawful}
use Rattle.sl_run_law.proofs.Front.JoinedLists.{contains_left}
use Rattle.sl_sector.specs.SectorLayouts.{block_in, pair_in}
use Rattle.sl_sector.specs.declared.sector.Block.{Block}
use Rattle.sl_sector.specs.declared.sector.PairBlock.{PairBlock}
use Rattle.sl_trace.specs.Leases.{block_of_record}
use Rattle.sl_trace.specs.Traces.{same_place}
use Rattle.sl_trace.specs.declared.effects.Spot.{Spot}
use Rattle.sl_words.proofs.CaseLaws.{one_value}
use Rattle.sl_words.specs.Words.{some_is}
use Rattle.std.proofs.Common.{ap, arith, inl, inr, refl, subst, sym, ◌∙◌}
use Rattle.std.proofs.lemmas.Bool.{and_from, eq-eqb}
use Rattle.std.specs.Prelude.{Bool, Contains, List, None, Option, Some, [], false, is_some, nat_le, option_and_then, option_map, true, ℕ, ◌&&◌, ◌++◌, ◌+◌, ◌-◌, ◌<◌, ◌∷◌, ◌≡◌, ◌≤◌, ◌⊎◌}
use Rattle.sl_safety.proofs.Sessions.OrderedFronts.{steps_grow}
use Rattle.sl_ballot_law.proofs.PairLogs.RegistersAreRead.{pairs_have_blocks}

-- ---- at a front

-- A host's pair, at a front of a run.
pub record IsAtFront (p : Program) (h : Header) (now rest : List Happening) (r : ResourceLine) (k : ℕ) : Type 0 where
  pub run : LawfulRun p h (now ++ rest)
  pub there : Contains h.resources r
  pub paired : (world_at p h (now ++ rest)).layout.paired ≡ true
  pub host : is_host (world_at p h (now ++ rest)) k ≡ true

abbrev place_then : Program → Header → List Happening → ResourceLine → ℕ → Bool → ℕ
place_then p h now r k first = pair_offset (world_at p h now).layout r.offset k first

same_hosts : (g q : Layout) (k : ℕ) → g ≡ q → (nat_le 1 k && nat_le k q.hosts) ≡ true → (nat_le 1 k && nat_le k g.hosts) ≡ true
same_hosts g q k same host = ap (λ (y : Layout). nat_le 1 k && nat_le k y.hosts) same ∙ host

at_most : (a b : ℕ) → a ≡ b → a ≤ b
at_most a b e = omega (arith, e)

-- What has landed at the place by then is no newer than what stands there.
below_top : (p : Program) (h : Header) (now : List Happening) → LawfulRun p h now → (path : List ℕ) (place : ℕ) (top : Landing) (below : List Landing)
    → history_of (world_at p h now) path place ≡ top ∷ below → (m : Landing) → Contains (world_at p h now).landings m → m.path ≡ path → m.offset ≡ place → m.step ≤ top.step
below_top p h now run path place top below whole m inside paths places =
    let u : World = world_at p h now in
    let there : Contains (landed_at u path place) m =
    kept (λ (y : Landing). same_place y.path y.offset path place) u.landings m (and_from _ _ (eq-eqb m.offset place places) (text_same m.path path paths)) inside in
    let among : Contains (top ∷ below) m =
    subst (λ (ls : List Landing). Contains ls m) whole (contains_left (landed_at u path place) (first_landing u path place ∷ []) m there) in
    let falls : Descends (top ∷ below) = subst Descends whole (history_descends p h now run path place) in
    elim (contains_cases top below m among) as (λ z. m.step ≤ top.step) [
      | inl here ↦ at_most m.step top.step (ap (λ (y : Landing). y.step) (sym here))
      | inr old ↦ let less = falls.0 m old in omega (arith, less)
    ]

-- What stands there is what was left there last by the step before.
newest_then : (p : Program) (h : Header) (now rest : List Happening) (r : ResourceLine) (k : ℕ) → IsAtFront p h now rest r k → (first : Bool) (t : ℕ) → t + 1 ≡ (world_at p h now).step
    → (top : Landing) (below : List Landing) → history_of (world_at p h now) r.path (place_then p h now r k first) ≡ top ∷ below
    → NewestIn (world_at p h (now ++ rest)) r k first t top
newest_then p h now rest r k f first t next top below whole =
    record { low = low its.2; newest = λ m there path offset late. newest m there path offset late; from = from its.2 }
  where
    u : World
    u = world_at p h now

    w : World
    w = world_at p h (now ++ rest)

    front : LawfulRun p h now
    front = fronts_are_lawful p h now rest f.run

    layout : (world_at p h now).layout ≡ (world_at p h (now ++ rest)).layout
    layout = layout_kept p h now (now ++ rest)

    at : place_then p h now r k first ≡ pair_offset (world_at p h (now ++ rest)).layout r.offset k first
    at = ap (λ (g : Layout). pair_offset g r.offset k first) (layout_kept p h now (now ++ rest))

    its : (top.path ≡ r.path) × (top.offset ≡ place_then p h now r k first)
        × (Contains (world_at p h now).landings top ⊎ (top ≡ first_landing (world_at p h now) r.path (place_then p h now r k first)))
    its = in_history (world_at p h now) r.path (place_then p h now r k first) top
        (subst (λ (ls : List Landing). Contains ls top) (sym whole) (contains_first top below))

    low : Contains (world_at p h now).landings top ⊎ (top ≡ first_landing (world_at p h now) r.path (place_then p h now r k first)) → top.step ≤ t
    low (inl was) = let b = landed_before p h now front top was in omega (arith, b, next)
    low (inr first_one) = let zero : top.step ≡ 0 = ap (λ (y : Landing). y.step) first_one in omega (arith, zero)

    newest : (m : Landing) → Contains (world_at p h (now ++ rest)).landings m → m.path ≡ r.path → m.offset ≡ pair_offset (world_at p h (now ++ rest)).layout r.offset k first → m.step ≤ t
        → m.step ≤ top.step
    newest m there path offset late =
        below_top p h now front r.path (place_then p h now r k first) top below whole m (landed_sooner p h now rest m there (omega (arith, late, next))) path (offset ∙ sym at)

    from : Contains (world_at p h now).landings top ⊎ (top ≡ first_landing (world_at p h now) r.path (place_then p h now r k first)) → IsFrom (world_at p h (now ++ rest)) r k first top
    from (inl was) = Landed (landed_later p h now rest top was) its.0 (its.1 ∙ at)
    from (inr first_one) =
        let z : Landing = first_landing u r.path (place_then p h now r k first) in
        from_first w r k first top z first_one refl refl
        (ap (λ (g : Layout). pair_in k first (record_in g z.bytes)) (sym layout)
        ∙ first_spelled p h now front r f.there (ap (λ (g : Layout). g.paired) layout ∙ f.paired) k (same_hosts u.layout w.layout k layout f.host) first)

-- A sector then, as the log has it.
record SectorThen (p : Program) (h : Header) (now rest : List Happening) (r : ResourceLine) (k : ℕ) (first : Bool) (t : ℕ) : Type 0 where
  landing : Landing
  newest : NewestIn (world_at p h (now ++ rest)) r k first t landing
  both : Both (world_at p h (now ++ rest)) r k (pair_there (world_at p h now) (spot_of_line r) k first) (stored_in (world_at p h (now ++ rest)) k first landing)

sector_then : (p : Program) (h : Header) (now rest : List Happening) (r : ResourceLine) (k : ℕ) → IsAtFront p h now rest r k → (first : Bool) (t : ℕ) → t + 1 ≡ (world_at p h now).step
    → SectorThen p h now rest r k first t
sector_then p h now rest r k f first t next =
    let u : World = world_at p h now in
    let w : World = world_at p h (now ++ rest) in
    let top = newest_stands u r.path (place_then p h now r k first) in
    let n : NewestIn w r k first t top.top = newest_then p h now rest r k f first t next top.top top.below top.whole in
    record {
      landing = top.top;
      newest = n;
      both = subst (λ bs. Both w r k (pair_in k first (record_in u.layout bs)) (stored_in w k first top.top)) (sym top.holds)
          (subst (λ (g : Layout). Both w r k (pair_in k first (record_in g top.top.bytes)) (stored_in w k first top.top)) (sym (layout_kept p h now (now ++ rest)))
          (spelled_stands p h (now ++ rest) f.run r f.there f.paired k f.host first t top.top n));
    }

-- ---- whose block it is

there_paired : (w : World) → w.layout.paired ≡ true → (at : Spot) (k : ℕ)
    → block_there w at k ≡ option_map (λ (q : PairBlock). q.block) (later_pair (pair_there w at k true) (pair_there w at k false))
there_paired w paired at k =
    ap (λ b. elim b as (λ z. Option Block) [
      | false ↦ block_in k (record_in w.layout (content w at.path (block_offset w.layout at.base k)))
      | true ↦ option_map (λ (q : PairBlock). q.block) (later_pair (pair_there w at k true) (pair_there w at k false))
    ]) paired

zero_not : (a b : ℕ) → 0 < a → a ≤ b → b ≡ 0 → ⊥
zero_not a b h i e = omega (arith, h, i, e)

since_by : (p : Program) (h : Header) (xs : List Happening) → LawfulRun p h xs → (r : ResourceLine) (k : ℕ) (q : PairBlock) (y : Stored) → StandsFor (world_at p h xs) r k q y → (b : Block) → q.block ≡ b
    → (x : Sent) → 0 < step_of x → step_of x ≤ y.write → SentSince (world_at p h xs) r k b x
since_by p h xs run r k q y s b is x some low = by s.from s.sent s.write
  where
    by : (from : Option Sent) → SentOf (world_at p h xs) r k q from → y.write ≡ step_given from → SentSince (world_at p h xs) r k b x
    by None sent write = absurd (zero_not (step_of x) y.write some low write)
    by (Some z) sent write =
        record {
          sent = z;
          block = sent.0;
          says = ap (λ o. option_and_then block_of_record o) sent.1 ∙ ap (λ c. Some c) is;
          since = subst (λ n. step_of x ≤ n) write low;
        }

some_before : (a s n : ℕ) → a < s → s ≤ n → n - 1 + 1 ≡ n
some_before a s n h i = omega (arith, h, i)

reaches : (s n t : ℕ) → s ≤ n → t + 1 ≡ n → s ≤ t + 1
reaches s n t h e = omega (arith, h, e)

pair_stays : (p : Program) (h : Header) (now rest : List Happening) (r : ResourceLine) (k : ℕ) → IsAtFront p h now rest r k → (x : Sent) → BlockSent (world_at p h (now ++ rest)) r k x
    → x.course.done ≡ true → (s : Stamp) → x.course.answered ≡ Some s → s.step ≤ (world_at p h now).step → (b : Block) → block_there (world_at p h now) (spot_of_line r) k ≡ Some b
    → SentSince (world_at p h (now ++ rest)) r k b x
pair_stays p h now rest r k f x block done s told early b is =
    let u : World = world_at p h now in
    let w : World = world_at p h (now ++ rest) in
    let xs : List Happening = now ++ rest in
    let o = owned p h xs f.run x block.sent in
    let late : step_of x < s.step = answered_by p h xs f.run x o s told in
    let t : ℕ = u.step - 1 in
    let next : t + 1 ≡ u.step = some_before (step_of x) s.step u.step late early in
    let a : SectorThen p h now rest r k true t = sector_then p h now rest r k f true t next in
    let c : SectorThen p h now rest r k false t = sector_then p h now rest r k f false t next in
    let at : pair_sent w r k (step_of x) ≡ Some x = told_of p h xs f.run r f.there k x block in
    let stands = stays (pair_log w r k) (pairs_are_logs p h xs r f.run f.paired f.there k f.host) (step_of x) t s.step (ap (λ z. is_some z) at)
    (ap (λ z. some_is (λ (v : Sent). v.course.done) z) at ∙ done)
    (ap (option_and_then (λ (v : Sent). option_map (λ (y : Stamp). y.step) v.course.answered)) at ∙ ap (option_map (λ (y : Stamp). y.step)) told) (reaches s.step u.step t early next)
    (stored_in w k true a.landing) (stored_in w k false c.landing) (sector_at p h xs f.run r f.there f.paired k f.host true t a.landing a.newest)
    (sector_at p h xs f.run r f.there f.paired k f.host false t c.landing c.newest) in
    let q = mapped_value (λ (v : PairBlock). v.block) (later_pair (pair_there u (spot_of_line r) k true) (pair_there u (spot_of_line r) k false)) b
    (sym (there_paired u (ap (λ (g : Layout). g.paired) (layout_kept p h now xs) ∙ f.paired) (spot_of_line r) k) ∙ is) in
    let y = both_some w r k (later_pair (pair_there u (spot_of_line r) k true) (pair_there u (spot_of_line r) k false)) q.0
    (later (stored_in w k true a.landing) (stored_in w k false c.landing)) q.1
    (later_stands w r k (pair_there u (spot_of_line r) k true) (pair_there u (spot_of_line r) k false) (stored_in w k true a.landing) (stored_in w k false c.landing) a.both c.both) in
    let same : stands.0 ≡ y.0 = one_value stands.0 y.0 (later (stored_in w k true a.landing) (stored_in w k false c.landing)) stands.1 y.1 in
    since_by p h xs f.run r k q.0 y.0 y.2 b q.2 x (made_since p h xs f.run x o) (subst (λ (v : Stored). step_of x ≤ v.write) same stands.2)

pub pairs_stand : PairsStand
pairs_stand p h xs r run paired there now rest whole =
    subst (λ ys. StandsSince p h ys r now) (sym whole)
    (λ k host follow x block done s told early b is.
    pair_stays p h now rest r k (record {
      run = subst (λ ys. LawfulRun p h ys) whole run;
      there = there;
      paired = subst (λ ys. (world_at p h ys).layout.paired ≡ true) whole paired;
      host = host;
    }) x block done s told early b is)

-- ---- there is one

stands_too : (w : World) (r : ResourceLine) (k : ℕ) (o : Option PairBlock) (x : Stored) → Both w r k o (Some x) → is_some (option_map (λ (q : PairBlock). q.block) o) ≡ true
stands_too w r k None x both = absurd both
stands_too w r k (Some q) x both = refl

past_first : (n : ℕ) → 1 ≤ n → n - 1 + 1 ≡ n
past_first n h = omega (arith, h)

-- Whatever became of the host's writes, one of the two sectors spells its block.
pub pair_has_block : (p : Program) (h : Header) (now rest : List Happening) (r : ResourceLine) (k : ℕ) → IsAtFront p h now rest r k
    → is_some (block_there (world_at p h now) (spot_of_line r) k) ≡ true
pair_has_block p h now rest r k f =
    let u : World = world_at p h now in
    let w : World = world_at p h (now ++ rest) in
    let xs : List Happening = now ++ rest in
    let at : Spot = spot_of_line r in
    let t : ℕ = u.step - 1 in
    let next : t + 1 ≡ u.step = past_first u.step (steps_grow (world_with p h) now) in
    let a : SectorThen p h now rest r k true t = sector_then p h now rest r k f true t next in
    let c : SectorThen p h now rest r k false t = sector_then p h now rest r k f false t next in
    let stands = pairs_have_blocks (pair_log w r k) (pairs_are_logs p h xs r f.run f.paired f.there k f.host) t (stored_in w k true a.landing) (stored_in w k false c.landing)
    (sector_at p h xs f.run r f.there f.paired k f.host true t a.landing a.newest) (sector_at p h xs f.run r f.there f.paired k f.host false t c.landing c.newest) in
    let both = later_stands w r k (pair_there u at k true) (pair_there u at k false) (stored_in w k true a.landing) (stored_in w k false c.landing) a.both c.both in
    ap (λ o. is_some o) (there_paired u (ap (λ (g : Layout). g.paired) (layout_kept p h now xs) ∙ f.paired) at k)
    ∙ stands_too w r k (later_pair (pair_there u at k true) (pair_there u at k false)) stands.block
    (subst (λ o. Both w r k (later_pair (pair_there u at k true) (pair_there u at k false)) o) stands.stands both)
