-- The own block of a session, where it writes one: it wrote it before, or a read gave it; so it was submitted before, or is fresh.
use Rattle.sl_run_law.proofs.Leases.AgeLaws.{aged_block, aged_lease, found_stays}
use Rattle.sl_run_law.proofs.Leases.ComingLaws.{found_read}
use Rattle.sl_run_law.specs.Leases.CallFronts.{AllAged}
use Rattle.sl_run_law.specs.Leases.Ways.{lease_among}
use Rattle.sl_trace.specs.Leases.{block_submitted, is_on, last_blocks, lease_calls, own_block, own_or_read}
use Rattle.sl_safety.proofs.Resources.BlockOrigins.{line_aligned}
use Rattle.sl_safety.proofs.Resources.NumbersAboveZero.{found_seen}
use Rattle.sl_safety.proofs.Resources.TraceReads.{IsWriter}
use Rattle.sl_safety.specs.Resources.HistoryLaws.{spot_of_line}
use Rattle.sl_run.specs.declared.header.ResourceLine.{ResourceLine}
use Rattle.sl_safety.proofs.Resources.OwnBlocks.{own_written}
use Rattle.sl_safety.proofs.Resources.HistoryShows.{Once, Seen}
use Rattle.sl_safety.proofs.Resources.CallParts.{Standing}
use Rattle.sl_safety.specs.Resources.SentCalls.{Sent, all_sent, block_of_course, step_of}
use Rattle.sl_run.specs.Runs.{Happening}
use Rattle.sl_run.specs.Safety.{world_at}
use Rattle.sl_run.specs.Worlds.{Program}
use Rattle.sl_run.specs.declared.header.Header.{Header}
use Rattle.sl_sector.specs.declared.sector.Block.{Block}
use Rattle.sl_trace.specs.Traces.{Setting, Trace, submitted}
use Rattle.sl_trace.specs.declared.effects.Spot.{Spot}
use Rattle.std.proofs.Common.{refl, sym, ◌∙◌}
use Rattle.std.specs.Prelude.{Contains, List, None, Option, Some, true, ℕ, ◌≡◌}

own_by : (p : Program) (h : Header) (xs : List Happening) (r : ResourceLine) (x : Sent) → Contains (all_sent (world_at p h xs)) x → (s : Standing (world_at p h xs) x)
    → IsWriter p h xs r x s → is_on (world_at p h xs).layout (spot_of_line r) x.course.call ≡ true → (b : Block) → block_of_course x.course ≡ Some b
    → (n : ℕ) (front : Trace) → AllAged n (submitted front) s.told.older → (own : Block) (o : Option Block)
    → block_submitted (lease_calls s.daemon.setting front s.session (spot_of_line r)) ≡ o
    → own_or_read s.session.id o (last_blocks s.daemon.setting.layout (lease_calls s.daemon.setting front s.session (spot_of_line r))) ≡ Some own
    → Seen (world_at p h xs) (spot_of_line r) own (step_of x)
own_by p h xs r x has s writer on b is n front aged own None found known =
    let st : Setting = s.daemon.setting in
    let at : Spot = spot_of_line r in
    let f = found_read st.layout s.session.id (lease_calls st front s.session at) own known in
    found_seen p h xs r x s writer own
    (found_stays st.layout n s.session.id (lease_calls st front s.session at) (lease_among st s.session at s.told.older) own (aged_lease st s.session at n (submitted front) s.told.older aged) f)
own_by p h xs r x has s writer on b is n front aged own (Some d) found known =
    let st : Setting = s.daemon.setting in
    let at : Spot = spot_of_line r in
    let same : block_submitted (lease_among st s.session at s.told.older) ≡ Some own =
    sym (aged_block n (lease_calls st front s.session at) (lease_among st s.session at s.told.older) (aged_lease st s.session at n (submitted front) s.told.older aged))
    ∙ found ∙ known in
    let o = own_written p h xs writer.run at (line_aligned p h xs writer.run r writer.there) x has s on b is own same in
    Once o.sent o.has o.on o.block o.before

pub own_seen_at : (p : Program) (h : Header) (xs : List Happening) (r : ResourceLine) (x : Sent) → Contains (all_sent (world_at p h xs)) x → (s : Standing (world_at p h xs) x)
    → IsWriter p h xs r x s → is_on (world_at p h xs).layout (spot_of_line r) x.course.call ≡ true → (b : Block) → block_of_course x.course ≡ Some b
    → (n : ℕ) (front : Trace) → AllAged n (submitted front) s.told.older → (own : Block)
    → own_block s.daemon.setting.layout s.session.id (lease_calls s.daemon.setting front s.session (spot_of_line r)) ≡ Some own → Seen (world_at p h xs) (spot_of_line r) own (step_of x)
own_seen_at p h xs r x has s writer on b is n front aged own known =
    own_by p h xs r x has s writer on b is n front aged own (block_submitted (lease_calls s.daemon.setting front s.session (spot_of_line r))) refl known
