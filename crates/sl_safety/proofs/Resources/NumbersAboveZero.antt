-- Numbers of ballots are above 0: a block of an instance has a number, since it comes from phase 1, or from a block that has one.
use Rattle.sl_run_law.specs.Leases.Ways.{BlockComes, FoundIn, Of_mode, Of_phase1, Of_phase2, Way, lease_among}
use Rattle.sl_trace.specs.Leases.{block_submitted, is_on}
use Rattle.sl_safety.proofs.Resources.OwnBlocks.{own_written}
use Rattle.sl_safety.proofs.Resources.HistoryShows.{Never, Once, Seen}
use Rattle.sl_safety.proofs.Resources.TraceReads.{IsWriter, seen_before, writer_of}
use Rattle.sl_safety.proofs.Resources.CallParts.{Standing, standing}
use Rattle.sl_safety.specs.Resources.HistoryLaws.{HistoriesNumberAbove, spot_of_line}
use Rattle.sl_safety.specs.Resources.SentCalls.{Sent, all_sent, block_of_course, step_of}
use Rattle.sl_run.specs.Runs.{Happening}
use Rattle.sl_run.specs.Safety.{LawfulRun, world_at}
use Rattle.sl_run.specs.Worlds.{Program, World}
use Rattle.sl_run.specs.declared.header.Header.{Header}
use Rattle.sl_run.specs.declared.header.ResourceLine.{ResourceLine}
use Rattle.sl_sector.specs.declared.sector.Block.{Block}
use Rattle.sl_trace.specs.declared.session.Session.{Session}
use Rattle.sl_trace.specs.Traces.{Submitted}
use Rattle.sl_trace.specs.declared.effects.Spot.{Spot}
use Rattle.sl_words.proofs.OrderLaws.{by_smaller}
use Rattle.std.proofs.Common.{ap, arith, refl, subst, sym, ◌∙◌}
use Rattle.std.specs.Prelude.{Contains, List, None, Option, Some, true, ℕ, ◌-◌, ◌<◌, ◌≡◌}
use Rattle.sl_safety.proofs.Resources.BlockOrigins.{comes_at, line_aligned, own_there, written_at}

-- ---- the own block

-- A block that was found in a read before was written before, or is fresh.
pub found_seen : (p : Program) (h : Header) (xs : List Happening) (r : ResourceLine) (x : Sent) (s : Standing (world_at p h xs) x) → IsWriter p h xs r x s → (own : Block)
    → FoundIn s.daemon.setting.layout s.session.id (lease_among s.daemon.setting s.session (spot_of_line r) s.told.older) own → Seen (world_at p h xs) (spot_of_line r) own (step_of x)
found_seen p h xs r x s k own f =
    seen_before p h xs r x s k f.newer f.read f.before f.split f.blocks f.given (s.session.id - 1) own (own_there f.blocks s.session.id own f.block)

-- The own block of a write was written before, or is fresh.
own_seen : (p : Program) (h : Header) (xs : List Happening) → LawfulRun p h xs → (r : ResourceLine) → Contains h.resources r → (x : Sent)
    → Contains (all_sent (world_at p h xs)) x → (s : Standing (world_at p h xs) x) → is_on (world_at p h xs).layout (spot_of_line r) x.course.call ≡ true → (b : Block)
    → block_of_course x.course ≡ Some b → (c : BlockComes s.daemon.setting s.session (spot_of_line r) s.told.older s.told.one b) → (o : Option Block)
    → block_submitted (lease_among s.daemon.setting s.session (spot_of_line r) s.told.older) ≡ o → Seen (world_at p h xs) (spot_of_line r) c.own (step_of x)
own_seen p h xs run r there x has s on b is c None found =
    found_seen p h xs r x s (writer_of p h xs run r there x has s on b is) c.own (c.found found)
own_seen p h xs run r there x has s on b is c (Some d) found =
    let o = own_written p h xs run (spot_of_line r) (line_aligned p h xs run r there) x has s on b is c.own (found ∙ ap (λ y. Some y) (c.last d found)) in
    Once o.sent o.has o.on o.block o.before

-- ---- numbers

abbrev Numbered : World → Spot → ℕ → Type 0
Numbered w at n = (z : Sent) (b : Block) → Contains (all_sent w) z → is_on w.layout at z.course.call ≡ true → block_of_course z.course ≡ Some b → step_of z ≡ n → 0 < b.lver → 0 < b.mbal

by_own : (lver mbal lver' mbal' : ℕ) → lver' ≡ lver → mbal' ≡ mbal → (0 < lver → 0 < mbal) → 0 < lver' → 0 < mbal'
by_own lver mbal lver' mbal' p q h some = let more = h (subst (λ n. 0 < n) p some) in subst (λ n. 0 < n) (sym q) more

pub nothing_above : (a : ℕ) → a ≡ 0 → 0 < a → ⊥
nothing_above a h k = omega (arith, h, k)

seen_numbered : (w : World) (at : Spot) (own : Block) (n : ℕ) → ((k : ℕ) → k < n → Numbered w at k) → Seen w at own n → 0 < own.lver → 0 < own.mbal
seen_numbered w at own n before (Never h) some = absurd (nothing_above own.lver (ap (λ x. x.lver) h) some)
seen_numbered w at own n before (Once z has on is less) some = before (step_of z) less z own has on is refl some

by_way : (s : Session) (c : Submitted) (own b : Block) → Way s c own b → (0 < own.lver → 0 < own.mbal) → 0 < b.lver → 0 < b.mbal
by_way s c own b (Of_phase1 at h) above some = h.positive
by_way s c own b (Of_phase2 at h) above some = by_own own.lver own.mbal b.lver b.mbal h.lver h.mbal above some
by_way s c own b (Of_mode at h) above some = by_own own.lver own.mbal b.lver b.mbal h.lver h.mbal above some

-- Each block of an instance has a number.
blocks_numbered : (p : Program) (h : Header) (xs : List Happening) → LawfulRun p h xs → (r : ResourceLine) → Contains h.resources r → (n : ℕ)
    → ((k : ℕ) → k < n → Numbered (world_at p h xs) (spot_of_line r) k) → Numbered (world_at p h xs) (spot_of_line r) n
blocks_numbered p h xs run r there n before x b has on is here some =
    let w : World = world_at p h xs in
    let at = spot_of_line r in
    let s = standing p h xs run x has in
    let c = comes_at p h xs run at (line_aligned p h xs run r there) x s on b is in
    let seen = own_seen p h xs run r there x has s on b is c (block_submitted (lease_among s.daemon.setting s.session at s.told.older)) refl in
    by_way s.session s.told.one c.own b c.way (seen_numbered w at c.own n before (subst (λ k. Seen w at c.own k) here seen)) some

pub number_above : HistoriesNumberAbove
number_above p h xs r run there differ e writes one =
    let x = written_at p h xs r e writes in
    let all = by_smaller (λ n. Numbered (world_at p h xs) (spot_of_line r) n) (λ n before. blocks_numbered p h xs run r there n before) in
    let some : 0 < x.block.lver = subst (λ y. 0 < y.lver) x.shown one.instance in
    subst (λ y. 0 < y.mbal) (sym x.shown) (all e x.sent x.block x.has x.on x.wrote x.step_is some)
