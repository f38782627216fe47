-- Each write has an own block: the one that its session submitted last, or what the session's last read shows of its host.
use Rattle.sl_ballot_law.specs.Ballots.{IsFoundBlock, IsLastWrite}
use Rattle.sl_ballot_law.specs.History.{History}
use Rattle.sl_run_law.specs.Leases.Ways.{lease_among}
use Rattle.sl_trace.specs.Leases.{block_submitted}
use Rattle.sl_safety.proofs.Resources.BlockOrigins.{WrittenAt, written_at}
use Rattle.sl_safety.proofs.GivenReads.BlocksNameHosts.{own_host}
use Rattle.sl_safety.proofs.Resources.Bases.{Shown, Written, based, look_base}
use Rattle.sl_safety.proofs.Resources.StepsNameCalls.{block_at_step, block_works as block_is_work, worker_joined}
use Rattle.sl_safety.proofs.Resources.OwnBlocks.{OwnWritten, none_before}
use Rattle.sl_safety.proofs.Resources.LastReadAgrees.{LookFound}
use Rattle.sl_safety.proofs.Resources.TraceReads.{look_at, look_has}
use Rattle.sl_safety.proofs.GivenReads.ReadsAreGiven.{reads_are_given}
use Rattle.sl_safety.proofs.Resources.CallParts.{Standing, standing}
use Rattle.sl_safety.specs.Resources.Histories.{base_of, is_host}
use Rattle.sl_safety.specs.Resources.HistoryLaws.{NamesDiffer, history_of_line, spot_of_line}
use Rattle.sl_safety.specs.Resources.SentCalls.{Sent, began_at, holder_of, is_joined_there, nobody, read_at, sender_of, sent_at, step_of, writes_block}
use Rattle.sl_run.specs.Runs.{Happening}
use Rattle.sl_run.specs.Safety.{LawfulRun, world_at}
use Rattle.sl_run.specs.Worlds.{Program, Stamp, World}
use Rattle.sl_run.specs.declared.header.Header.{Header}
use Rattle.sl_run.specs.declared.header.ResourceLine.{ResourceLine}
use Rattle.sl_sector.specs.declared.sector.Block.{Block}
use Rattle.sl_trace.specs.declared.effects.Spot.{Spot}
use Rattle.std.proofs.Common.{ap, inl, inr, refl, subst, sym, ◌∙◌}
use Rattle.std.specs.Option.{option_map_or}
use Rattle.std.specs.Prelude.{Bool, Contains, List, None, Some, false, is_some, option_and_then, true, ℕ, ◌<◌, ◌≡◌, ◌≤◌, ◌⊎◌}

-- ---- the writer of a step

pub writer_is : (p : Program) (h : Header) (xs : List Happening) (r : ResourceLine) (n : ℕ) (z : Sent) → sent_at (world_at p h xs) (spot_of_line r) writes_block n ≡ Some z
    → (history_of_line p h xs r).writer n ≡ holder_of (world_at p h xs) (sender_of z)
writer_is p h xs r n z is = ap (λ o. option_map_or (λ (y : Sent). holder_of (world_at p h xs) (sender_of y)) o nobody) is

pub writes_at : (p : Program) (h : Header) (xs : List Happening) (r : ResourceLine) (n : ℕ) (z : Sent) → sent_at (world_at p h xs) (spot_of_line r) writes_block n ≡ Some z
    → (history_of_line p h xs r).writes n ≡ true
writes_at p h xs r n z is = ap (λ o. is_some o) is

-- Writers of one name are one session.
pub one_writer : (p : Program) (h : Header) (xs : List Happening) → LawfulRun p h xs → (r : ResourceLine) → Contains h.resources r → NamesDiffer (world_at p h xs) r.lockspace
    → (e d : ℕ) (x : WrittenAt p h xs r e) (y : WrittenAt p h xs r d) → (history_of_line p h xs r).writer d ≡ (history_of_line p h xs r).writer e
    → sender_of y.sent ≡ sender_of x.sent
one_writer p h xs run r there differ e d x y same =
    let w : World = world_at p h xs in
    let joined : (n : ℕ) (z : WrittenAt p h xs r n) → is_joined_there w r.lockspace (sender_of z.sent) ≡ true =
    λ n z. worker_joined p h xs r z.sent (block_is_work p h xs run r there z.sent z.has z.on (ap (λ o. is_some o) z.wrote)) in
    differ (sender_of y.sent) (sender_of x.sent) (joined d y) (joined e x)
    (sym (writer_is p h xs r d y.sent y.is) ∙ same ∙ writer_is p h xs r e x.sent x.is)

-- ---- the own block that was written last

base_step : (p : Program) (h : Header) (xs : List Happening) (r : ResourceLine) (e : ℕ) (x : WrittenAt p h xs r e)
    → (history_of_line p h xs r).base e ≡ base_of (world_at p h xs) (spot_of_line r) x.sent
base_step p h xs r e x = ap (λ o. option_map_or (base_of (world_at p h xs) (spot_of_line r)) o 0) x.is

pub is_last : (p : Program) (h : Header) (xs : List Happening) → LawfulRun p h xs → (r : ResourceLine) → Contains h.resources r → NamesDiffer (world_at p h xs) r.lockspace
    → (e : ℕ) (x : WrittenAt p h xs r e) (own : Block) → OwnWritten (world_at p h xs) (spot_of_line r) x.sent own → IsLastWrite (history_of_line p h xs r) e
is_last p h xs run r there differ e x own o =
    let w : World = world_at p h xs in
    let H : History = history_of_line p h xs r in
    let base : H.base e ≡ step_of o.sent = base_step p h xs r e x ∙ o.base in
    let at : sent_at w (spot_of_line r) writes_block (step_of o.sent) ≡ Some o.sent =
    block_at_step p h xs run r there o.sent o.has o.on (ap (λ q. is_some q) o.block) in
    record {
      writes = ap (λ n. H.writes n) base ∙ writes_at p h xs r (step_of o.sent) o.sent at;
      writer = ap (λ n. H.writer n) base ∙ writer_is p h xs r (step_of o.sent) o.sent at ∙ ap (λ i. holder_of w i) o.sender ∙ sym (writer_is p h xs r e x.sent x.is);
      before = subst (λ n. n < e) (sym base) (subst (λ n. step_of o.sent < n) x.step_is o.before);
      last = λ d writes same less.
          let y = written_at p h xs r d writes in
          let early : step_of y.sent < step_of x.sent = subst (λ n. n < step_of x.sent) (sym y.step_is) (subst (λ n. d < n) (sym x.step_is) less) in
          subst (λ n. d ≤ n) (sym base)
          (subst (λ n. n ≤ step_of o.sent) y.step_is
          (o.newest y.sent y.has y.on (ap (λ q. is_some q) y.wrote) (one_writer p h xs run r there differ e d x y same) early));
    }

-- ---- the own block that was read

-- What the last look shows of the writer's id, whole.
found_shows : (p : Program) (h : Header) (xs : List Happening) → LawfulRun p h xs → (r : ResourceLine) → Contains h.resources r → (x : Sent) (s : Standing (world_at p h xs) x) (own : Block)
    → (f : LookFound (world_at p h xs) (spot_of_line r) x s own) → is_joined_there (world_at p h xs) r.lockspace (sender_of x) ≡ true → (b : Bool)
    → is_host (world_at p h xs) s.session.id ≡ b → (history_of_line p h xs r).shows (began_at (world_at p h xs) (spot_of_line r) f.sent) s.session.id ≡ true
found_shows p h xs run r there x s own f joined true host = (look_has p h xs run r there x s own f joined host).shows
found_shows p h xs run r there x s own f joined false host =
    ((reads_are_given p h xs r run there).others (began_at (world_at p h xs) (spot_of_line r) f.sent) s.session.id (ap (λ o. is_some o) (look_at p h xs run r there x s own f joined)) host).0

pub is_found : (p : Program) (h : Header) (xs : List Happening) → LawfulRun p h xs → (r : ResourceLine) → Contains h.resources r → NamesDiffer (world_at p h xs) r.lockspace
    → (e : ℕ) (x : WrittenAt p h xs r e) (s : Standing (world_at p h xs) x.sent) (own : Block) → (f : LookFound (world_at p h xs) (spot_of_line r) x.sent s own)
    → is_joined_there (world_at p h xs) r.lockspace (sender_of x.sent) ≡ true
    → block_submitted (lease_among s.daemon.setting s.session (spot_of_line r) s.told.older) ≡ None → IsFoundBlock (history_of_line p h xs r) e
is_found p h xs run r there differ e x s own f joined none =
    let w : World = world_at p h xs in
    let at : Spot = spot_of_line r in
    let H : History = history_of_line p h xs r in
    let found : read_at w at r.lockspace (began_at (world_at p h xs) (spot_of_line r) f.sent) ≡ Some f.sent = (look_at p h xs run r there x.sent s own f joined) in
    let writer : H.writer e ≡ holder_of w (sender_of x.sent) = writer_is p h xs r e x.sent x.is in
    let id : (H.writer e).id ≡ s.session.id = ap (λ o. o.id) writer ∙ own_host w x.sent s in
    record {
      read = began_at w at f.sent;
      reads = ap (λ o. is_some o) found;
      reader = ap (λ o. option_map_or (λ (y : Sent). holder_of w (sender_of y)) o nobody) found ∙ ap (λ i. holder_of w i) f.look.sender ∙ sym writer;
      before = subst (λ n. n ≤ e)
          (sym (ap (λ o. option_map_or (λ (q : Stamp). q.step) (option_and_then (λ (y : Sent). y.course.answered) o) 0) found
          ∙ ap (λ o. option_map_or (λ (q : Stamp). q.step) o 0) f.look.closed))
          (subst (λ n. f.look.stamp.step ≤ n) x.step_is f.look.early);
      whole = ap (λ k. H.shows (began_at (world_at p h xs) (spot_of_line r) f.sent) k) id ∙ found_shows p h xs run r there x.sent s own f joined (is_host w s.session.id) refl;
      shown = ap (λ k. H.shown (began_at (world_at p h xs) (spot_of_line r) f.sent) k) id ∙ sym (base_step p h xs r e x ∙ look_base p h xs run r there x.sent s own f joined none);
      first = λ d writes same less.
          let y = written_at p h xs r d writes in
          let early : step_of y.sent < step_of x.sent = subst (λ n. n < step_of x.sent) (sym y.step_is) (subst (λ n. d < n) (sym x.step_is) less) in
          none_before p h xs run at x.sent s none y.sent y.has y.on (ap (λ q. is_some q) y.wrote) (one_writer p h xs run r there differ e d x y same) early;
    }

-- Each write has an own block.
pub have_bases : (p : Program) (h : Header) (xs : List Happening) (r : ResourceLine) → LawfulRun p h xs → Contains h.resources r → NamesDiffer (world_at p h xs) r.lockspace → (e : ℕ)
    → (history_of_line p h xs r).writes e ≡ true → IsLastWrite (history_of_line p h xs r) e ⊎ IsFoundBlock (history_of_line p h xs r) e
have_bases p h xs r run there differ e writes =
    let x = written_at p h xs r e writes in
    let s = standing p h xs run x.sent x.has in
    let b = based p h xs run r there x.sent x.has s x.on x.block x.wrote in
    elim b.base as (λ z. IsLastWrite (history_of_line p h xs r) e ⊎ IsFoundBlock (history_of_line p h xs r) e) [
      | Written o ↦ inl (is_last p h xs run r there differ e x b.own o)
      | Shown f joined none ↦ inr (is_found p h xs run r there differ e x s b.own f joined none)
    ]
