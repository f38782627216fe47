-- The block of a write's base is the own block that the law of blocks speaks of; so no ballot goes below it.
use Rattle.sl_ballot_law.specs.History.{History}
use Rattle.sl_run_law.specs.Leases.Ways.{Of_mode, Of_phase1, Of_phase2, Way, lease_among}
use Rattle.sl_trace.specs.Leases.{block_submitted, is_on}
use Rattle.sl_run_law.proofs.Place.Seats.{sized_in}
use Rattle.sl_words.proofs.Numbers.{equal_is_least, zero_is_least}
use Rattle.sl_safety.proofs.Resources.BlockOrigins.{block_of_none, block_of_step, comes_at, line_aligned, told_spot, written_at}
use Rattle.sl_safety.proofs.Resources.FirstWriteBase.{read_front}
use Rattle.sl_safety.proofs.Resources.StepsNameCalls.{block_works as block_is_work, worker_joined}
use Rattle.sl_safety.proofs.Resources.OwnBlocks.{OwnWritten, base_by, block_is_lease, block_works, last_is_none, layout_at, lease_is_work, own_written}
use Rattle.sl_safety.proofs.Resources.LastReadAgrees.{IsWrite, LookFound, look_found}
use Rattle.sl_safety.proofs.GivenReads.BlocksNameHosts.{own_host}
use Rattle.sl_safety.proofs.Resources.TraceReads.{look_at, look_has}
use Rattle.sl_safety.proofs.GivenReads.ReadsAreGiven.{reads_are_given}
use Rattle.sl_safety.proofs.Resources.CallParts.{Standing, standing}
use Rattle.sl_safety.specs.Resources.Histories.{base_of, history_block, is_host, shown_by}
use Rattle.sl_safety.specs.Resources.HistoryLaws.{HistoriesGoUp, history_of_line, spot_of_line}
use Rattle.sl_safety.specs.Resources.SentCalls.{Sent, all_sent, began_at, block_of_course, holder_of, is_joined_there, sender_of}
use Rattle.sl_run.specs.Runs.{Happening}
use Rattle.sl_run.specs.Safety.{LawfulRun, world_at}
use Rattle.sl_run.specs.Worlds.{Program, World}
use Rattle.sl_run.specs.declared.header.Header.{Header}
use Rattle.sl_run.specs.declared.header.ResourceLine.{ResourceLine}
use Rattle.sl_sector.specs.declared.sector.Block.{Block}
use Rattle.sl_trace.specs.declared.session.Session.{Session}
use Rattle.sl_trace.specs.Traces.{Submitted}
use Rattle.std.proofs.Common.{ap, inl, inr, refl, subst, sym, ◌∙◌}
use Rattle.std.specs.Option.{option_map_or}
use Rattle.std.specs.Prelude.{Bool, Contains, List, None, Option, Some, false, is_some, true, ℕ, ◌≡◌, ◌≤◌, ◌⊎◌}

-- ---- the base

-- Where the base of a write is from.
pub data BaseIs (p : Program) (h : Header) (xs : List Happening) (r : ResourceLine) (x : Sent) (s : Standing (world_at p h xs) x) (own : Block) : Type 0 where
  -- the block that the session submitted last
  Written : OwnWritten (world_at p h xs) (spot_of_line r) x own → BaseIs p h xs r x s own
  -- or what its last look shows of its host
  Shown : LookFound (world_at p h xs) (spot_of_line r) x s own → is_joined_there (world_at p h xs) r.lockspace (sender_of x) ≡ true
      → block_submitted (lease_among s.daemon.setting s.session (spot_of_line r) s.told.older) ≡ None → BaseIs p h xs r x s own

pub record Based (p : Program) (h : Header) (xs : List Happening) (r : ResourceLine) (x : Sent) (s : Standing (world_at p h xs) x) (b : Block) : Type 0 where
  pub own : Block
  pub call : Submitted
  pub same : call.call ≡ s.told.one.call
  pub way : Way s.session call own b
  pub base : BaseIs p h xs r x s own

based_by : (p : Program) (h : Header) (xs : List Happening) → LawfulRun p h xs → (r : ResourceLine) → Contains h.resources r → (x : Sent) → Contains (all_sent (world_at p h xs)) x
    → (s : Standing (world_at p h xs) x) → is_on (world_at p h xs).layout (spot_of_line r) x.course.call ≡ true → (b : Block) → block_of_course x.course ≡ Some b → (o : Option Block)
    → block_submitted (lease_among s.daemon.setting s.session (spot_of_line r) s.told.older) ≡ o → Based p h xs r x s b
based_by p h xs run r there x has s on b is None found =
    let w : World = world_at p h xs in
    let zero = line_aligned p h xs run r there in
    let spot = told_spot p h xs run (spot_of_line r) zero x s on in
    let some : 1 ≤ s.daemon.setting.layout.hosts = subst (λ g. 1 ≤ g.hosts) (sym (layout_at p h xs run x s)) (sized_in p h xs run).hosts.0 in
    let f = read_front w (spot_of_line r) x s b is some spot found in
    let joined = worker_joined p h xs r x (block_is_work p h xs run r there x has on (ap (λ o. is_some o) is)) in
    let k : IsWrite p h xs (spot_of_line r) x s =
    record { run = run; work = block_works x.course b is; area = lease_is_work x.course.call.purpose (block_is_lease w x s b is); spot = spot } in
    record { own = f.read.own; call = f.call; same = f.same; way = f.read.way; base = Shown (look_found p h xs r there x s joined k b f) joined found }
based_by p h xs run r there x has s on b is (Some d) found =
    let zero = line_aligned p h xs run r there in
    let c = comes_at p h xs run (spot_of_line r) zero x s on b is in
    record {
      own = c.own;
      call = s.told.one;
      same = refl;
      way = c.way;
      base = Written (own_written p h xs run (spot_of_line r) zero x has s on b is c.own (found ∙ ap (λ y. Some y) (c.last d found)));
    }

pub based : (p : Program) (h : Header) (xs : List Happening) → LawfulRun p h xs → (r : ResourceLine) → Contains h.resources r → (x : Sent) → Contains (all_sent (world_at p h xs)) x
    → (s : Standing (world_at p h xs) x) → is_on (world_at p h xs).layout (spot_of_line r) x.course.call ≡ true → (b : Block) → block_of_course x.course ≡ Some b → Based p h xs r x s b
based p h xs run r there x has s on b is =
    based_by p h xs run r there x has s on b is (block_submitted (lease_among s.daemon.setting s.session (spot_of_line r) s.told.older)) refl

-- The base of a first write is what its last look shows of its host.
pub look_base : (p : Program) (h : Header) (xs : List Happening) → LawfulRun p h xs → (r : ResourceLine) → Contains h.resources r → (x : Sent) (s : Standing (world_at p h xs) x) (own : Block)
    → (f : LookFound (world_at p h xs) (spot_of_line r) x s own) → is_joined_there (world_at p h xs) r.lockspace (sender_of x) ≡ true
    → block_submitted (lease_among s.daemon.setting s.session (spot_of_line r) s.told.older) ≡ None
    → base_of (world_at p h xs) (spot_of_line r) x ≡ (history_of_line p h xs r).shown (began_at (world_at p h xs) (spot_of_line r) f.sent) s.session.id
look_base p h xs run r there x s own f joined none =
    let w : World = world_at p h xs in
    ap (base_by w (spot_of_line r) x) (last_is_none p h xs run (spot_of_line r) x s none)
    ∙ ap (λ o. option_map_or (shown_by w (spot_of_line r) (holder_of w (sender_of x)).id) o 0) f.last
    ∙ ap (λ n. shown_by w (spot_of_line r) n f.sent) (own_host w x s)
    ∙ sym (ap (λ o. option_map_or (shown_by w (spot_of_line r) s.session.id) o 0) (look_at p h xs run r there x s own f joined))

-- Its block is the own block, or the session has no host's id.
base_block : (p : Program) (h : Header) (xs : List Happening) → LawfulRun p h xs → (r : ResourceLine) → Contains h.resources r → (x : Sent) (s : Standing (world_at p h xs) x) (own : Block)
    → (f : LookFound (world_at p h xs) (spot_of_line r) x s own) → is_joined_there (world_at p h xs) r.lockspace (sender_of x) ≡ true
    → (b : Bool) → is_host (world_at p h xs) s.session.id ≡ b → (n : ℕ) → n ≡ (history_of_line p h xs r).shown (began_at (world_at p h xs) (spot_of_line r) f.sent) s.session.id
    → ((history_of_line p h xs r).block n ≡ history_block own) ⊎ ((n ≡ 0) × (b ≡ false))
base_block p h xs run r there x s own f joined true host n is =
    inl (ap (λ k. (history_of_line p h xs r).block k) is ∙ (look_has p h xs run r there x s own f joined host).block)
base_block p h xs run r there x s own f joined false host n is =
    inr (is ∙ ((reads_are_given p h xs r run there).others (began_at (world_at p h xs) (spot_of_line r) f.sent) s.session.id (ap (λ o. is_some o) (look_at p h xs run r there x s own f joined)) host).1, refl)

pub block_of_base : (p : Program) (h : Header) (xs : List Happening) → LawfulRun p h xs → (r : ResourceLine) → Contains h.resources r → (x : Sent) (s : Standing (world_at p h xs) x) (own : Block)
    → BaseIs p h xs r x s own
    → ((history_of_line p h xs r).block (base_of (world_at p h xs) (spot_of_line r) x) ≡ history_block own)
    ⊎ ((base_of (world_at p h xs) (spot_of_line r) x ≡ 0) × (is_host (world_at p h xs) s.session.id ≡ false))
block_of_base p h xs run r there x s own (Written o) =
    inl (ap (λ k. (history_of_line p h xs r).block k) o.base ∙ block_of_step p h xs run r there o.sent own o.has o.on o.block)
block_of_base p h xs run r there x s own (Shown f joined none) =
    base_block p h xs run r there x s own f joined (is_host (world_at p h xs) s.session.id) refl (base_of (world_at p h xs) (spot_of_line r) x)
    (look_base p h xs run r there x s own f joined none)

-- ---- no ballot goes below

way_up : (s : Session) (c : Submitted) (own b : Block) → Way s c own b → own.lver ≤ b.lver
way_up s c own b (Of_phase1 at h) = h.up
way_up s c own b (Of_phase2 at h) = equal_is_least own.lver b.lver h.lver
way_up s c own b (Of_mode at h) = equal_is_least own.lver b.lver h.lver

pub go_up : HistoriesGoUp
go_up p h xs r run there differ e writes one =
    let w : World = world_at p h xs in
    let H : History = history_of_line p h xs r in
    let x = written_at p h xs r e writes in
    let s = standing p h xs run x.sent x.has in
    let b = based p h xs run r there x.sent x.has s x.on x.block x.wrote in
    let base : H.base e ≡ base_of w (spot_of_line r) x.sent = ap (λ o. option_map_or (base_of w (spot_of_line r)) o 0) x.is in
    elim (block_of_base p h xs run r there x.sent s b.own b.base) as (λ z. (H.block (H.base e)).lver ≤ (H.block e).lver) [
      | inl own ↦
          subst (λ k. (H.block k).lver ≤ (H.block e).lver) (sym base)
          (subst (λ y. y.lver ≤ (H.block e).lver) (sym own) (subst (λ y. b.own.lver ≤ y.lver) (sym x.shown) (way_up s.session b.call b.own x.block b.way)))
      | inr none ↦
          zero_is_least (H.block (H.base e)).lver (H.block e).lver
          (ap (λ k. (H.block k).lver) (base ∙ none.0) ∙ ap (λ y. y.lver) (block_of_none p h xs run r))
    ]
