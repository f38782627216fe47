-- Where each host's block has one sector, a whole landing at a host's place spells a block of the host: so where a read gave nothing of a
-- host, what it shows there is torn.
use Rattle.sl_area.specs.AreaSizes.{record_in, sector_with}
use Rattle.sl_area.specs.AreaLayout.{block_offset, sector_of}
use Rattle.sl_area.specs.AreaRecords.{fresh_block}
use Rattle.sl_run_law.proofs.Place.TracesOnMachines.{digest_is, writes_record}
use Rattle.sl_run_law.proofs.Place.Seats.{sized_in}
use Rattle.sl_run_law.proofs.Place.Sizes.{sector_fits}
use Rattle.sl_run_law.specs.Landing.Landings.{LeftBy}
use Rattle.sl_run_law.specs.Sample.Samples.{numbered_landing}
use Rattle.sl_safety.proofs.GivenReads.FreshAtFirst.{fresh_at_first}
use Rattle.sl_safety.proofs.GivenReads.BlocksNameHosts.{block_host, own_host}
use Rattle.sl_safety.proofs.Resources.Calls.{owned}
use Rattle.sl_safety.proofs.GivenReads.ShownAtPlace.{IsShownOf, shown_of, stands_there}
use Rattle.sl_safety.proofs.Resources.CallParts.{standing}
use Rattle.sl_safety.specs.Resources.Histories.{is_host}
use Rattle.sl_safety.specs.Resources.SampledReads.{landing_shown, sector_number}
use Rattle.sl_safety.proofs.GivenReads.NewestShown.{ReadSent}
use Rattle.sl_safety.specs.Resources.HistoryLaws.{spot_of_line}
use Rattle.sl_safety.specs.Resources.SentCalls.{Sent}
use Rattle.sl_run.specs.Runs.{Happening}
use Rattle.sl_run.specs.Safety.{LawfulRun, world_at}
use Rattle.sl_run.specs.Worlds.{Course, Landing, Program, World, history_of}
use Rattle.sl_run.specs.declared.header.Header.{Header}
use Rattle.sl_run.specs.declared.header.ResourceLine.{ResourceLine}
use Rattle.sl_sector.proofs.PublicLaws.{spelled_is_read}
use Rattle.sl_sector.specs.Records.{IsRecord}
use Rattle.sl_sector.specs.SectorLayouts.{block_in}
use Rattle.sl_sector.specs.declared.sector.Block.{Block}
use Rattle.sl_sector.specs.declared.sector.Rec.TheVariants.{BlockIs}
use Rattle.sl_trace.specs.Leases.{block_of_record}
use Rattle.sl_trace.specs.Traces.{record_of}
use Rattle.sl_trace.specs.declared.effects.Call.{Call}
use Rattle.sl_words.proofs.CaseLaws.{false_is_true, none_some, true_is_false}
use Rattle.sl_words.specs.Words.{choose}
use Rattle.std.proofs.Common.{ap, inl, inr, refl, sym, ◌∙◌}
use Rattle.std.proofs.lemmas.Bool.{eq-eqb}
use Rattle.std.specs.Prelude.{Bool, Contains, List, None, Ok, Some, false, option_and_then, true, ℕ, ◌==◌, ◌≡◌}

choose_it : (b : Bool) (x : Block) → b ≡ true → choose b x ≡ Some x
choose_it true x h = refl
choose_it false x h = absurd (false_is_true h)

spells_by : (w : World) (l : Landing) (c : Course) (k : ℕ) (b : Block) → l.whole ≡ true → LeftBy w l c (BlockIs b) → (l.bytes ≡ sector_with w.layout (BlockIs b)
    → record_in w.layout l.bytes ≡ Ok (BlockIs b)) → record_in w.layout l.bytes ≡ Ok (BlockIs b)
spells_by w l c k b whole (inl landed) spells = spells landed.2
spells_by w l c k b whole (inr torn) spells = absurd (true_is_false (sym whole ∙ torn.0))

record SpellsBlock (w : World) (k : ℕ) (l : Landing) : Type 0 where
  block : Block
  spells : block_in k (record_in w.layout l.bytes) ≡ Some block

whole_spells : (p : Program) (h : Header) (xs : List Happening) → LawfulRun p h xs → (world_at p h xs).layout.paired ≡ false → (r : ResourceLine) → Contains h.resources r → (k : ℕ) → is_host (world_at p h xs) k ≡ true
    → (i : ℕ) (l : Landing) → numbered_landing (history_of (world_at p h xs) r.path (block_offset (world_at p h xs).layout r.offset k)) i ≡ Some l → l.whole ≡ true
    → SpellsBlock (world_at p h xs) k l
whole_spells p h xs run plain r there k host i l at whole =
    let w : World = world_at p h xs in
    elim (stands_there p h xs run plain r there k host i l at) as (λ z. SpellsBlock w k l) [
      | inl first ↦
          record {
            block = fresh_block k;
            spells = ap (λ (y : Landing). block_in k (record_in w.layout y.bytes)) first ∙ ap (λ x. block_in k x) (fresh_at_first p h xs run plain r there k host)
                ∙ choose_it (k == k) (fresh_block k) (eq-eqb k k refl);
          }
      | inr b ↦
          let o = owned p h xs run b.sent b.there in
          let s = standing p h xs run b.sent b.there in
          let is : IsRecord (BlockIs b.block) =
          writes_record o.trace.daemon.setting o.trace.daemon.trace o.trace.submitted_as (BlockIs b.block) o.trace.lawful o.trace.inside
          (ap (λ (c : Call). record_of c.op) o.trace.is.call ∙ b.writes) in
          let read : record_in w.layout l.bytes ≡ Ok (BlockIs b.block) =
          spells_by w l b.sent.course k b.block whole b.left
          (λ left. ap (λ bs. record_in w.layout bs) left
          ∙ spelled_is_read w.layout.digest (digest_is p h xs run) w.layout.sector (sector_fits w.layout (sized_in p h xs run)) (BlockIs b.block) is) in
          let id : s.session.id ≡ k = sym (own_host w b.sent s) ∙ b.host in
          let named : b.block.host ≡ k =
          block_host p h xs run b.sent s (ap (λ n. is_host w n) id ∙ host) b.block (ap (λ q. option_and_then block_of_record q) b.writes) ∙ id in
          record {
            block = b.block;
            spells = ap (λ x. block_in k x) read ∙ choose_it (b.block.host == k) b.block (eq-eqb b.block.host k named);
          }
    ]

-- The sector of a read that shows a whole landing spells something.
pub not_torn : (p : Program) (h : Header) (xs : List Happening) → LawfulRun p h xs → (world_at p h xs).layout.paired ≡ false → (r : ResourceLine) → Contains h.resources r → (z : Sent) → ReadSent (world_at p h xs) r z
    → (k : ℕ) → is_host (world_at p h xs) k ≡ true → (l : Landing) → landing_shown (world_at p h xs) (spot_of_line r) z.course k ≡ Some l → l.whole ≡ true
    → block_in k (record_in (world_at p h xs).layout (sector_of (world_at p h xs).layout z.course.sampled (sector_number z.course k))) ≡ None → ⊥
not_torn p h xs run plain r there z read k host l shown whole none =
    let w : World = world_at p h xs in
    let i : IsShownOf w r z k l = shown_of p h xs run r there z (owned p h xs run z read.sent) read.on read.reads k host l shown in
    let b = whole_spells p h xs run plain r there k host i.sampling.index l i.place whole in
    let bytes : sector_of w.layout z.course.sampled (sector_number z.course k) ≡ l.bytes = i.sample.bytes ∙ ap (λ (y : Landing). y.bytes) i.is in
    none_some b.block (sym none ∙ ap (λ x. block_in k (record_in w.layout x)) bytes ∙ b.spells)
