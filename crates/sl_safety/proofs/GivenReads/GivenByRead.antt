-- What a read gives of a host, where each host has one sector: the block of the landing that it sampled there, if that is whole.
use Rattle.sl_area.specs.AreaSizes.{record_in}
use Rattle.sl_area.specs.AreaLayout.{block_offset, in_area, sector_of}
use Rattle.sl_run_law.proofs.Course.CallsAreDistinct.{each_distinct}
use Rattle.sl_run_law.proofs.Landing.CallLists.{one_call}
use Rattle.sl_run_law.proofs.Place.FoundInLists.{same_read, same_text}
use Rattle.sl_run_law.proofs.Place.TracesOnMachines.{digest_is, lawful_daemon, owner_of, writes_record}
use Rattle.sl_run_law.proofs.Place.Seats.{sized_in}
use Rattle.sl_run_law.proofs.Place.Sizes.{sector_fits}
use Rattle.sl_run_law.proofs.Sample.SampleLaws.{samples_are_landings}
use Rattle.sl_run_law.specs.Landing.Landings.{LeftBy}
use Rattle.sl_run_law.specs.Sample.Samples.{IsSampleOf, numbered_landing, sector_place}
use Rattle.sl_words.proofs.Lists.{contains_first, there_is}
use Rattle.sl_words.proofs.Numbers.{back_again}
use Rattle.sl_safety.proofs.Resources.BlockOrigins.{line_aligned}
use Rattle.sl_safety.proofs.Resources.Calls.{host_range, owned, sent_is, sent_there}
use Rattle.sl_safety.proofs.Resources.StepsNameCalls.{finds_it}
use Rattle.sl_safety.proofs.GivenReads.LookedSector.{looked}
use Rattle.sl_safety.proofs.Resources.AnsweredReads.{IsLook}
use Rattle.sl_safety.proofs.Resources.OwnBlocks.{spot_is}
use Rattle.sl_safety.proofs.GivenReads.FirstIsUnwritten.{block_in_is, block_or, first_fresh}
use Rattle.sl_safety.proofs.GivenReads.ShownAtPlace.{IsBlockLanding, stands_there}
use Rattle.sl_safety.specs.Resources.Histories.{is_host}
use Rattle.sl_safety.specs.Resources.SampledReads.{landing_shown, sector_number, step_of_landing}
use Rattle.sl_safety.specs.Resources.HistoryLaws.{spot_of_line}
use Rattle.sl_safety.specs.Resources.Reads.{ReadBlocks, Says, step_given}
use Rattle.sl_safety.specs.Resources.SentCalls.{Sent, all_sent, read_at}
use Rattle.sl_run.specs.Refusals.{sectors_of}
use Rattle.sl_run.specs.Runs.{Happening}
use Rattle.sl_run.specs.Safety.{LawfulRun, world_at}
use Rattle.sl_run.specs.Worlds.{Course, Landing, Machine, Program, Sampling, World, first_landing, history_of, machine_at}
use Rattle.sl_run.specs.declared.header.Header.{Header}
use Rattle.sl_run.specs.declared.header.ResourceLine.{ResourceLine}
use Rattle.sl_sector.proofs.PublicLaws.{spelled_is_read}
use Rattle.sl_sector.specs.Records.{IsRecord}
use Rattle.sl_sector.specs.SectorLayouts.{IsDigest, IsSectorSize}
use Rattle.sl_sector.specs.declared.sector.Block.{Block}
use Rattle.sl_sector.specs.declared.sector.Rec.TheVariants.{BlockIs}
use Rattle.sl_trace.specs.Leases.{block_of_record, is_area_read, is_on, spot_of_call}
use Rattle.sl_trace.specs.Traces.{new_call, record_of, submitted}
use Rattle.sl_trace.specs.declared.effects.Call.{Call}
use Rattle.sl_trace.specs.declared.effects.Spot.{Spot}
use Rattle.sl_words.proofs.CaseLaws.{none_some, true_is_false}
use Rattle.sl_words.proofs.WordLaws.{and_true, choose_some}
use Rattle.sl_words.specs.Words.{choose}
use Rattle.std.proofs.Common.{ap, inl, inr, refl, subst, sym, ◌∙◌}
use Rattle.std.proofs.lemmas.Bool.{eq-eqb}
use Rattle.std.specs.Option.{option_map_or}
use Rattle.std.specs.Prelude.{Contains, List, None, Ok, Option, Some, bytes_eq, false, find, if◌then◌else◌, is_ok, length, option_and_then, option_map, slice_get, true, ℕ, ◌*◌, ◌+◌, ◌-◌, ◌<◌, ◌==◌, ◌∷◌, ◌≡◌}
use Rattle.sl_run_law.specs.Leases.Ways.{lease_among}
use Rattle.sl_run_law.proofs.Front.JoinedLists.{contains_right}

-- ---- who left a landing

abbrev sender_in : World → ℕ × ℕ → Option Sent
sender_in w p =
    option_and_then (λ (a : Machine). option_map (λ (c : Course). let x : Sent = record { machine = p.0; course = c } in x) (find (λ (c : Course). c.call.number == p.1) a.calls)) (machine_at w p.0)

-- The call that left it, if one did.
abbrev pub left_by : World → Landing → Option Sent
left_by w l = option_and_then (sender_in w) l.writer

call_step : (m : ℕ) (o : Option Course)
    → option_map_or (λ (c : Course). c.made.step) o 0 ≡ step_given (option_map (λ (c : Course). let x : Sent = record { machine = m; course = c } in x) o)
call_step m None = refl
call_step m (Some c) = refl

machine_step : (p : ℕ × ℕ) (o : Option Machine) → option_map_or (λ (c : Course). c.made.step) (option_and_then (λ (a : Machine). find (λ (c : Course). c.call.number == p.1) a.calls) o) 0
    ≡ step_given (option_and_then (λ (a : Machine). option_map (λ (c : Course). let x : Sent = record { machine = p.0; course = c } in x) (find (λ (c : Course). c.call.number == p.1) a.calls)) o)
machine_step p None = refl
machine_step p (Some a) = call_step p.0 (find (λ (c : Course). c.call.number == p.1) a.calls)

writer_step : (w : World) (o : Option (ℕ × ℕ)) → elim o as (λ z. ℕ) [
  | None ↦ 0
  | Some p ↦ option_map_or (λ (c : Course). c.made.step) (option_and_then (λ (a : Machine). find (λ (c : Course). c.call.number == p.1) a.calls) (machine_at w p.0)) 0
] ≡ step_given (option_and_then (sender_in w) o)
writer_step w None = refl
writer_step w (Some p) = machine_step p (machine_at w p.0)

-- Its step is that of the landing.
pub left_step : (w : World) (l : Landing) → step_of_landing w l ≡ step_given (left_by w l)
left_step w l = writer_step w l.writer

abbrev sent_from : ℕ → ℕ → Option Machine → Option Sent
sent_from m n o =
    option_and_then (λ (a : Machine). option_map (λ (c : Course). let x : Sent = record { machine = m; course = c } in x) (find (λ (c : Course). c.call.number == n) a.calls)) o

left_is : (p : Program) (h : Header) (xs : List Happening) → LawfulRun p h xs → (x : Sent) → Contains (all_sent (world_at p h xs)) x → (l : Landing)
    → l.writer ≡ Some (x.machine, x.course.call.number) → left_by (world_at p h xs) l ≡ Some x
left_is p h xs run x has l writer =
    let w : World = world_at p h xs in
    let k = sent_there w x has in
    let found = finds_it (λ (c : Course). c.call.number == x.course.call.number) k.machine.calls x.course k.has (eq-eqb x.course.call.number x.course.call.number refl)
    (λ y inside same. one_call k.machine.calls y x.course (each_distinct p h xs run x.machine k.machine k.at) inside k.has same) in
    let y : Sent = record { machine = x.machine; course = x.course } in
    ap (λ (o : Option (ℕ × ℕ)). option_and_then (sender_in w) o) writer ∙ ap (sent_from x.machine x.course.call.number) k.at
    ∙ ap (λ (o : Option Course). option_map (λ (c : Course). let z : Sent = record { machine = x.machine; course = c } in z) o) found
    ∙ ap (λ z. Some z) (sent_is y x refl refl)

-- What stands at a host's place was there at first, or is of a call.
pub data LeftAt (w : World) (r : ResourceLine) (k : ℕ) (l : Landing) : Type 0 where
  At_first : l ≡ first_landing w r.path (block_offset w.layout r.offset k) → left_by w l ≡ None → LeftAt w r k l
  By_call : (b : IsBlockLanding w r k l) → left_by w l ≡ Some b.sent → LeftAt w r k l

pub left_at : (p : Program) (h : Header) (xs : List Happening) → LawfulRun p h xs → (world_at p h xs).layout.paired ≡ false → (r : ResourceLine) → Contains h.resources r → (k : ℕ) → is_host (world_at p h xs) k ≡ true
    → (i : ℕ) (l : Landing) → numbered_landing (history_of (world_at p h xs) r.path (block_offset (world_at p h xs).layout r.offset k)) i ≡ Some l → LeftAt (world_at p h xs) r k l
left_at p h xs run plain r there k host i l at =
    let w : World = world_at p h xs in
    elim (stands_there p h xs run plain r there k host i l at) as (λ z. LeftAt w r k l) [
      | inl first ↦ At_first first (ap (left_by w) first)
      | inr b ↦ By_call b (left_is p h xs run b.sent b.there l b.named)
    ]

-- ---- what it spells

-- What a landing spells is the block that left it, whole.
left_block : (w : World) (l : Landing) (c : Course) (b own : Block) → IsDigest w.layout.digest → IsSectorSize w.layout.sector → IsRecord (BlockIs b) → LeftBy w l c (BlockIs b)
    → record_in w.layout l.bytes ≡ Ok (BlockIs own) → (b ≡ own) × (l.whole ≡ true)
left_block w l c b own digest size is (inl whole) read = (
  block_or b own (same_read (record_in w.layout l.bytes) (BlockIs b) (BlockIs own)
      (ap (λ bs. record_in w.layout bs) whole.2 ∙ spelled_is_read w.layout.digest digest w.layout.sector size (BlockIs b) is) read),
  whole.0,
)
left_block w l c b own digest size is (inr torn) read = absurd (true_is_false (sym (ap (λ z. is_ok z) read) ∙ torn.2))

says_by : (p : Program) (h : Header) (xs : List Happening) → LawfulRun p h xs → (world_at p h xs).layout.paired ≡ false → (r : ResourceLine) (k : ℕ) (l : Landing) (own : Block)
    → record_in (world_at p h xs).layout l.bytes ≡ Ok (BlockIs own) → LeftAt (world_at p h xs) r k l → (l.whole ≡ true) × Says (left_by (world_at p h xs) l) own
says_by p h xs run plain r k l own read (At_first first none) =
    let w : World = world_at p h xs in (
      ap (λ (y : Landing). y.whole) first,
      subst (λ o. Says o own) (sym none)
          (first_fresh p h xs run plain r.path (block_offset w.layout r.offset k) own (subst (λ (y : Landing). record_in w.layout y.bytes ≡ Ok (BlockIs own)) first read)),
    )
says_by p h xs run plain r k l own read (By_call b is) =
    let w : World = world_at p h xs in
    let o = owned p h xs run b.sent b.there in
    let record_is : IsRecord (BlockIs b.block) =
    writes_record o.trace.daemon.setting o.trace.daemon.trace o.trace.submitted_as (BlockIs b.block) o.trace.lawful o.trace.inside
    (ap (λ (c : Call). record_of c.op) o.trace.is.call ∙ b.writes) in
    let left = left_block w l b.sent.course b.block own (digest_is p h xs run) (sector_fits w.layout (sized_in p h xs run)) record_is b.left read in (
      left.1,
      subst (λ q. Says q own) (sym is) (ap (λ q. option_and_then block_of_record q) b.writes ∙ ap (λ y. Some y) left.0),
    )

-- ---- what is given

abbrev pub given_if : World → Option Landing → Option (Option Sent)
given_if w o = option_and_then (λ (l : Landing). choose l.whole (left_by w l)) o

-- What a read gives of a host.
abbrev pub given_by : World → Spot → ℕ → Sent → Option (Option Sent)
given_by w at k z = given_if w (landing_shown w at z.course k)

-- .. by its step.
abbrev pub given_in : World → ResourceLine → ℕ → ℕ → Option (Option Sent)
given_in w r n k = option_and_then (given_by w (spot_of_line r) k) (read_at w (spot_of_line r) r.lockspace n)

pub given_found : (w : World) (r : ResourceLine) (n k : ℕ) (z : Sent) → read_at w (spot_of_line r) r.lockspace n ≡ Some z → given_in w r n k ≡ given_by w (spot_of_line r) k z
given_found w r n k z found = ap (λ o. option_and_then (given_by w (spot_of_line r) k) o) found

-- The landing by which it gave a block.
pub record GivenBy (w : World) (at : Spot) (k : ℕ) (z : Sent) (from : Option Sent) : Type 0 where
  pub landing : Landing
  pub shown : landing_shown w at z.course k ≡ Some landing
  pub whole : landing.whole ≡ true
  pub left : left_by w landing ≡ from

given_of : (w : World) (o : Option Landing) (from : Option Sent) → given_if w o ≡ Some from → (l : Landing) × (o ≡ Some l) × (l.whole ≡ true) × (left_by w l ≡ from)
given_of w None from is = absurd (none_some from is)
given_of w (Some l) from is = let c = choose_some l.whole (left_by w l) from is in (l, refl, c.0, c.1)

pub is_given : (w : World) (at : Spot) (k : ℕ) (z : Sent) (from : Option Sent) → given_by w at k z ≡ Some from → GivenBy w at k z from
is_given w at k z from is = let f = given_of w (landing_shown w at z.course k) from is in record { landing = f.0; shown = f.1; whole = f.2; left = f.3 }

-- ---- the block of a trace

-- The landing that a read shows where its trace has a block, and what it says.
pub record GivesBlock (w : World) (at : Spot) (k : ℕ) (c : Course) (own : Block) : Type 0 where
  pub landing : Landing
  pub shown : landing_shown w at c k ≡ Some landing
  pub whole : landing.whole ≡ true
  pub says : Says (left_by w landing) own
  pub host : own.host ≡ k

-- The call of a read is a look of its session.
look_of : (p : Program) (h : Header) (xs : List Happening) → LawfulRun p h xs → (r : ResourceLine) (n : ℕ) (bs : List (Option Block)) (c : ReadBlocks (world_at p h xs) r n bs)
    → IsLook p h xs c.sent.machine c.machine c.daemon c.call
look_of p h xs run r n bs c =
    let law = lawful_daemon p h xs run c.sent.machine c.machine c.daemon c.at c.has in
    let there : Contains (submitted c.daemon.trace) c.call =
    subst (λ ms. Contains ms c.call) (sym c.told) (contains_right c.newer (c.call ∷ c.older) c.call (contains_first c.call c.older)) in
    let s = owner_of c.daemon.setting c.daemon.trace c.call law there in
    record { run = run; at = c.at; has = c.has; lawful = law; session = s.0; its = s.1; there = there; mine = s.2 }

pub gives_block : (p : Program) (h : Header) (xs : List Happening) → LawfulRun p h xs → (world_at p h xs).layout.paired ≡ false → (r : ResourceLine) → Contains h.resources r → (n : ℕ) (bs : List (Option Block))
    → (t : ReadBlocks (world_at p h xs) r n bs) → is_on (world_at p h xs).layout (spot_of_line r) t.sent.course.call ≡ true → (k : ℕ) → is_host (world_at p h xs) k ≡ true → (own : Block)
    → slice_get bs (k - 1) ≡ Some (Some own) → GivesBlock (world_at p h xs) (spot_of_line r) k t.sent.course own
gives_block p h xs run plain r there n bs t on k host own taken =
    let w : World = world_at p h xs in
    let c : Course = t.sent.course in
    let q = t.call in
    let inside : Contains t.machine.calls c = t.inside in
    let call : q.call ≡ c.call = t.pair.call in
    let j : ℕ = k - 1 in
    let on_id : j + 1 ≡ k = back_again k (host_range w k host).0 in
    let l = looked p h xs plain t.sent.machine t.machine t.daemon q (look_of p h xs run r n bs t) bs (lease_among t.daemon.setting t.session (spot_of_line r) t.older) t.given j own taken in
    let same : l.read.course ≡ c =
    one_call t.machine.calls l.read.course c (each_distinct p h xs run t.sent.machine t.machine t.at) l.read.has inside
    (eq-eqb l.read.course.call.number c.call.number (ap (λ (y : Call). y.number) (sym l.read.is.call ∙ call))) in
    let long : length c.samples ≡ sectors_of q.call.op = ap (λ (y : Course). length y.samples) (sym same) ∙ l.read.whole in
    let some = there_is c.samples l.sector (subst (λ n. l.sector < n) (sym long) l.within) in
    let i : IsSampleOf w c l.sector some.0 = samples_are_landings p h xs run t.sent.machine t.machine c l.sector some.0 t.at inside some.1 in
    let path : c.call.path ≡ r.path = same_text c.call.path r.path (and_true (bytes_eq c.call.path r.path) (in_area w.layout r.offset c.call.offset) on).0 in
    let spot : spot_of_call w.layout q ≡ spot_of_line r =
    spot_is w.layout (spot_of_line r) q (line_aligned p h xs run r there) (ap (λ (y : Call). is_on w.layout (spot_of_line r) y) call ∙ on) in
    let place : sector_place w c l.sector ≡ block_offset w.layout r.offset k =
    ap (λ (y : Call). y.offset + l.sector * w.layout.sector) (sym call) ∙ l.place ∙ ap (λ (q : Spot). block_offset w.layout q.base (j + 1)) spot
    ∙ ap (λ n. block_offset w.layout r.offset n) on_id in
    let number : l.sector ≡ sector_number c k =
    l.number ∙ ap (λ (y : Call). if is_area_read (new_call 0 0 y) then j + 1 + 1 else j + 1 - 1) call
    ∙ ap (λ n. if is_area_read (new_call 0 0 c.call) then n + 1 else n - 1) on_id in
    let seen : numbered_landing (history_of w r.path (block_offset w.layout r.offset k)) some.0.index ≡ Some i.landing =
    ap (λ n. numbered_landing (history_of w r.path n) some.0.index) (sym place) ∙ ap (λ y. numbered_landing (history_of w y (sector_place w c l.sector)) some.0.index) (sym path) ∙ i.seen in
    let bytes : sector_of w.layout l.bytes l.sector ≡ i.landing.bytes =
    ap (λ bs. sector_of w.layout bs l.sector) (l.read.sampled ∙ ap (λ (y : Course). y.sampled) same) ∙ i.bytes in
    let spells = block_in_is (j + 1) (record_in w.layout (sector_of w.layout l.bytes l.sector)) own l.spells in
    let read : record_in w.layout i.landing.bytes ≡ Ok (BlockIs own) = ap (λ bs. record_in w.layout bs) (sym bytes) ∙ spells.0 in
    let b = says_by p h xs run plain r k i.landing own read (left_at p h xs run plain r there k host some.0.index i.landing seen) in
    record {
      landing = i.landing;
      shown = ap (λ n. option_and_then (λ (q : Sampling). numbered_landing (history_of w r.path (block_offset w.layout r.offset k)) q.index) (slice_get c.samples n)) (sym number)
          ∙ ap (λ o. option_and_then (λ (q : Sampling). numbered_landing (history_of w r.path (block_offset w.layout r.offset k)) q.index) o) some.1 ∙ seen;
      whole = b.0;
      says = b.1;
      host = spells.1 ∙ on_id;
    }
