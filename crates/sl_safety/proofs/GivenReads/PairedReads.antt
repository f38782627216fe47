-- With pairs a resource's reads give of each host what the landings of its pair show that they have sampled: so the record of reads is met.
use Rattle.sl_safety.proofs.Pairs.PairsStand.{pairs_stand}
use Rattle.sl_trace.specs.declared.effects.Call.{Call}
use Rattle.sl_trace.specs.declared.effects.Spot.{Spot}
use Rattle.sl_run_law.specs.Leases.Ways.{lease_among}
use Rattle.std.proofs.Common.{ap, refl, subst, sym, ◌∙◌}
use Rattle.std.specs.Prelude.{Bool, Contains, List, None, Option, Some, false, if◌then◌else◌, is_some, option_and_then, option_map, true, ℕ, ◌<◌, ◌≡◌, ◌≤◌}
use Rattle.sl_area.specs.Pairs.{BlocksRead, needs_again, pairs_kept, read_once}
use Rattle.sl_safety.proofs.Resources.Calls.{IsWork, one_sent}
use Rattle.sl_safety.specs.Resources.HistoryLaws.{history_of_line, spot_of_line}
use Rattle.sl_safety.specs.Resources.SentCalls.{Sent, all_sent, begun_by, read_at, step_of}
use Rattle.sl_safety.specs.Pairs.Reads.{GivesBlocks, IsReadOf, Once, SentOf, Twice}
use Rattle.sl_safety.specs.Resources.SampledReads.{blocks_sampled, landing_shown, reads_again, shown_of}
use Rattle.sl_run.specs.Runs.{Happening}
use Rattle.sl_run.specs.Safety.{LawfulRun, world_at}
use Rattle.sl_run.specs.Worlds.{Daemon, Program, Stamp, World}
use Rattle.sl_run.specs.declared.header.Header.{Header}
use Rattle.sl_run.specs.declared.header.ResourceLine.{ResourceLine}
use Rattle.sl_sector.specs.declared.sector.PairBlock.{PairBlock}
use Rattle.sl_safety.specs.Resources.Histories.{block_shown, counts_own, is_host, shown_by, shows_by, whole_step}
use Rattle.sl_safety.specs.Resources.Reads.{AgreesOn, ReadBlocks, ReadsGive, shown_given, shows_given, step_given}
use Rattle.sl_safety.specs.Pairs.PairsAreShown.{given_shown}
use Rattle.sl_safety.specs.Pairs.PairLogs.{pair_sent}
use Rattle.sl_ballot_law.specs.Pairs.State.{Stored}
use Rattle.sl_words.proofs.Options.{mapped_value}
use Rattle.sl_sector.specs.declared.sector.Block.{Block}
use Rattle.sl_trace.specs.Leases.{blocks_given}
use Rattle.sl_words.proofs.CaseLaws.{some_value}
use Rattle.sl_safety.specs.Resources.Orders.{BlockSent}
use Rattle.sl_words.specs.Words.{some_is}
use Rattle.std.specs.Option.{option_map_or}
use Rattle.sl_safety.proofs.Resources.CallParts.{standing}
use Rattle.sl_safety.proofs.Resources.Looks.{began_once, began_with, begun_once, begun_twice}
use Rattle.sl_safety.proofs.Resources.TraceCalls.{stands_at}
use Rattle.sl_safety.proofs.Resources.ReadBeginnings.{second_of, works_as}
use Rattle.sl_safety.proofs.Resources.AtSteps.{IsReadAt, answer_of_read, read_found}
use Rattle.sl_run_law.proofs.Place.TracesOnMachines.{lawful_daemon}
use Rattle.sl_safety.proofs.Pairs.TraceAgrees.{sent_again, agrees_there}
use Rattle.sl_safety.proofs.Pairs.PairsAreGiven.{GivenShown, shown_as}
use Rattle.sl_safety.proofs.GivenReads.OtherHosts.{others_at, shown_or}
use Rattle.sl_safety.proofs.Resources.GivenBlocks.{first_enough}

-- ---- how a read gives

-- A read of the history, with the call by which it began.
record ReadThere (p : Program) (h : Header) (xs : List Happening) (r : ResourceLine) (n : ℕ) (z : Sent) : Type 0 where
  first : Sent
  begun : begun_by (world_at p h xs) (spot_of_line r) z ≡ Some first
  step : step_of first ≡ n
  blocks : BlocksRead
  gives : GivesBlocks (world_at p h xs) r first z blocks
  stamp : Stamp
  answered : z.course.answered ≡ Some stamp
  answer : (history_of_line p h xs r).answer n ≡ stamp.step

read_of : (w : World) (r : ResourceLine) (n : ℕ) (b : IsReadAt w r n) → IsReadOf w r b.sent
read_of w r n b = record { has = b.is.sent; reads = b.reads; done = b.done; on = b.is.on }

there_by : (p : Program) (h : Header) (xs : List Happening) → LawfulRun p h xs → (r : ResourceLine) → Contains h.resources r → (n : ℕ) (b : IsReadAt (world_at p h xs) r n) (again : Bool)
    → reads_again b.sent.course ≡ again → ReadThere p h xs r n b.sent
there_by p h xs run r there n b false once =
    let w : World = world_at p h xs in
    let at : Spot = spot_of_line r in
    let a = answer_of_read p h xs run r n b in
    record {
      first = b.sent;
      begun = begun_once w at b.sent once;
      step = sym (began_once w at b.sent once) ∙ b.is.began;
      blocks = read_once (blocks_sampled w.layout b.sent.course);
      gives = Once (read_of w r n b) refl once
          (first_enough (reads_again b.sent.course) (needs_again w.layout (blocks_sampled w.layout b.sent.course)) b.is.enough once) refl;
      stamp = a.stamp;
      answered = a.is;
      answer = a.step;
    }
there_by p h xs run r there n b true again =
    let w : World = world_at p h xs in
    let at : Spot = spot_of_line r in
    let z : Sent = b.sent in
    let a = answer_of_read p h xs run r n b in
    let work = works_as p h xs run r z (record { has = b.is.sent; on = b.is.on; counted = b.counted }) in
    let f = second_of p h xs run r there z work (standing p h xs run z b.is.sent) again in
    let begun = begun_twice w at z f.first again f.last in
    record {
      first = f.first;
      begun = begun;
      step = sym (began_with w at z f.first begun) ∙ b.is.began;
      blocks = record { kept = pairs_kept w.layout (blocks_sampled w.layout f.first.course); last = blocks_sampled w.layout z.course };
      gives = Twice (record { has = f.has; reads = f.look.reads; done = f.look.done; on = f.look.on }) (read_of w r n b) again f.look.stamp f.look.closed f.look.early refl;
      stamp = a.stamp;
      answered = a.is;
      answer = a.step;
    }

read_there : (p : Program) (h : Header) (xs : List Happening) → LawfulRun p h xs → (r : ResourceLine) → Contains h.resources r → (n : ℕ) (b : IsReadAt (world_at p h xs) r n)
    → ReadThere p h xs r n b.sent
read_there p h xs run r there n b = there_by p h xs run r there n b (reads_again b.sent.course) refl

-- ---- what it gives of a host

abbrev given_pair : World → ResourceLine → ℕ → Sent → Option (Option Sent)
given_pair w r k z = option_and_then (λ (y : Sent). given_shown w r k y.course z.course) (begun_by w (spot_of_line r) z)

abbrev given_paired : World → ResourceLine → ℕ → ℕ → Option (Option Sent)
given_paired w r n k = option_and_then (given_pair w r k) (read_at w (spot_of_line r) r.lockspace n)

given_begun : (w : World) (r : ResourceLine) (n k : ℕ) (y z : Sent) → read_at w (spot_of_line r) r.lockspace n ≡ Some z → begun_by w (spot_of_line r) z ≡ Some y
    → given_paired w r n k ≡ given_shown w r k y.course z.course
given_begun w r n k y z found begun =
    ap (λ o. option_and_then (given_pair w r k) o) found ∙ ap (λ o. option_and_then (λ (v : Sent). given_shown w r k v.course z.course) o) begun

-- What was given of a host, with its sender.
record GivenAt (p : Program) (h : Header) (xs : List Happening) (r : ResourceLine) (n k : ℕ) (from : Option Sent) : Type 0 where
  pair : PairBlock
  block : Stored
  ended : ℕ
  given : GivenShown (world_at p h xs) r k n ended pair block
  answer : (history_of_line p h xs r).answer n ≡ ended
  same : given.from ≡ from

given_at : (p : Program) (h : Header) (xs : List Happening) → LawfulRun p h xs → (r : ResourceLine) → (world_at p h xs).layout.paired ≡ true → Contains h.resources r → (n k : ℕ)
    → (history_of_line p h xs r).reads n ≡ true → is_host (world_at p h xs) k ≡ true → (from : Option Sent) → given_paired (world_at p h xs) r n k ≡ Some from → GivenAt p h xs r n k from
given_at p h xs run r paired there n k reads host from is =
    let w : World = world_at p h xs in
    let b : IsReadAt w r n = read_found w r n reads in
    let t = read_there p h xs run r there n b in
    let x = mapped_value (λ (v : Stored). pair_sent w r k v.write) (shown_of w (spot_of_line r) k t.first.course b.sent.course) from
    (sym (given_begun w r n k t.first b.sent b.found t.begun) ∙ is) in
    let q = shown_as p h xs run r there paired k host t.first b.sent t.blocks t.gives t.stamp t.answered x.0 x.1 in
    let g : GivenShown w r k n t.stamp.step q.0 x.0 = subst (λ m. GivenShown w r k m t.stamp.step q.0 x.0) t.step q.1 in
    record {
      pair = q.0;
      block = x.0;
      ended = t.stamp.step;
      given = g;
      answer = t.answer;
      same = sym (sent_again p h xs r (record { run = run; there = there }) k q.0 g.from g.sent) ∙ ap (pair_sent w r k) (sym g.write) ∙ x.2;
    }

submitted_by : (w : World) (r : ResourceLine) (k : ℕ) (q : PairBlock) (from : Option Sent) (x : Sent) → SentOf w r k q from → from ≡ Some x → BlockSent w r k x
submitted_by w r k q from x sent is = (subst (λ o. SentOf w r k q o) is sent).0

-- ---- as the trace has it

agrees_at : (p : Program) (h : Header) (xs : List Happening) → LawfulRun p h xs → (r : ResourceLine) → (world_at p h xs).layout.paired ≡ true → Contains h.resources r → (n k : ℕ)
    → is_host (world_at p h xs) k ≡ true → (bs : List (Option Block)) → ReadBlocks (world_at p h xs) r n bs → AgreesOn k bs (given_paired (world_at p h xs) r n k)
agrees_at p h xs run r paired there n k host bs t =
    let w : World = world_at p h xs in
    let at : Spot = spot_of_line r in
    let b : IsReadAt w r n = read_found w r n (ap (λ o. is_some o) t.found) in
    let same : b.sent ≡ t.sent = some_value b.sent t.sent (sym b.found ∙ t.found) in
    let law = lawful_daemon p h xs run t.sent.machine t.machine t.daemon t.at t.has in
    let y = stands_at p h xs run t.sent.machine t.machine t.daemon t.at t.has law t.newer t.older t.call t.told t.session t.known in
    let has : Contains (all_sent w) t.sent = subst (λ (v : Sent). Contains (all_sent w) v) same b.is.sent in
    let one : y.sent ≡ t.sent =
    one_sent p h xs run y.sent t.sent y.has has y.machine_is (ap (λ (c : Call). c.number) (sym y.pair.call ∙ t.pair.call)) in
    let both : y.sent ≡ b.sent = one ∙ sym same in
    let work : IsWork w r y.sent =
    subst (λ (v : Sent). IsWork w r v) (sym both) (works_as p h xs run r b.sent (record { has = b.is.sent; on = b.is.on; counted = b.counted })) in
    let its : blocks_given y.stands.daemon.setting.layout y.stands.told.one (lease_among y.stands.daemon.setting y.stands.session at y.stands.told.older) ≡ Some bs =
    ap (λ (d : Daemon). blocks_given d.setting.layout y.stands.told.one (lease_among d.setting y.stands.session at y.stands.told.older)) y.daemon
    ∙ ap (λ m. blocks_given t.daemon.setting.layout m (lease_among t.daemon.setting y.stands.session at y.stands.told.older)) y.one
    ∙ ap (λ v. blocks_given t.daemon.setting.layout t.call (lease_among t.daemon.setting v at y.stands.told.older)) y.session
    ∙ ap (λ ms. blocks_given t.daemon.setting.layout t.call (lease_among t.daemon.setting t.session at ms)) y.older_is ∙ t.given in
    let a = agrees_there p h xs run r there paired y.sent y.has work y.stands bs its in
    subst (λ o. AgreesOn k bs o)
    (sym (given_begun w r n k a.first y.sent (t.found ∙ ap (λ v. Some v) (sym one)) a.begun)) (a.agrees k host)

-- ---- as the history has it

-- What it shows is by the landings of the pair.
shown_paired : (w : World) → w.layout.paired ≡ true → (at : Spot) (k : ℕ) (y z : Sent) → begun_by w at z ≡ Some y
    → block_shown w at k z ≡ option_map (λ (s : Stored). s.write) (shown_of w at k y.course z.course)
shown_paired w paired at k y z begun =
    ap (λ b. elim b as (λ x. Option ℕ) [
      | false ↦ option_and_then (whole_step w) (landing_shown w at z.course k)
      | true ↦ option_and_then (λ (v : Sent). option_map (λ (s : Stored). s.write) (shown_of w at k v.course z.course)) (begun_by w at z)
    ]) paired
    ∙ ap (λ o. option_and_then (λ (v : Sent). option_map (λ (s : Stored). s.write) (shown_of w at k v.course z.course)) o) begun

shows_if : (w : World) (r : ResourceLine) (k : ℕ) (z : Sent) (o : Option Stored)
    → (if is_some (option_map (λ (s : Stored). s.write) o) then true else counts_own w (spot_of_line r) z k)
    ≡ shows_given w r k z (option_map (λ (s : Stored). pair_sent w r k s.write) o)
shows_if w r k z None = refl
shows_if w r k z (Some s) = refl

shows_at : (p : Program) (h : Header) (xs : List Happening) → LawfulRun p h xs → (r : ResourceLine) → (world_at p h xs).layout.paired ≡ true → Contains h.resources r → (n k : ℕ)
    → is_host (world_at p h xs) k ≡ true → (z : Sent) → read_at (world_at p h xs) (spot_of_line r) r.lockspace n ≡ Some z
    → (history_of_line p h xs r).shows n k ≡ shows_given (world_at p h xs) r k z (given_paired (world_at p h xs) r n k)
shows_at p h xs run r paired there n k host z found =
    let w : World = world_at p h xs in
    let at : Spot = spot_of_line r in
    let b : IsReadAt w r n = read_found w r n (ap (λ o. is_some o) found) in
    let same : b.sent ≡ z = some_value b.sent z (sym b.found ∙ found) in
    let t : ReadThere p h xs r n z = subst (λ v. ReadThere p h xs r n v) same (read_there p h xs run r there n b) in
    ap (λ q. some_is (shows_by w at k) q) found
    ∙ ap (λ v. if v then (if is_some (block_shown w at k z) then true else counts_own w at z k) else true) host
    ∙ ap (λ o. if is_some o then true else counts_own w at z k) (shown_paired w paired at k t.first z t.begun)
    ∙ shows_if w r k z (shown_of w at k t.first.course z.course) ∙ ap (shows_given w r k z) (sym (given_begun w r n k t.first z found t.begun))

-- A block that is shown has the step of its sender.
write_is : (p : Program) (h : Header) (xs : List Happening) → LawfulRun p h xs → (r : ResourceLine) → (world_at p h xs).layout.paired ≡ true → Contains h.resources r → (n k : ℕ)
    → is_host (world_at p h xs) k ≡ true → (z : Sent) (t : ReadThere p h xs r n z) (s : Stored) → shown_of (world_at p h xs) (spot_of_line r) k t.first.course z.course ≡ Some s
    → s.write ≡ step_given (pair_sent (world_at p h xs) r k s.write)
write_is p h xs run r paired there n k host z t s shown =
    let w : World = world_at p h xs in
    let q = shown_as p h xs run r there paired k host t.first z t.blocks t.gives t.stamp t.answered s shown in
    let g : GivenShown w r k (step_of t.first) t.stamp.step q.0 s = q.1 in
    g.write ∙ ap step_given (sym (ap (pair_sent w r k) g.write ∙ sent_again p h xs r (record { run = run; there = there }) k q.0 g.from g.sent))

shown_if : (w : World) (r : ResourceLine) (k : ℕ) (z : Sent) (o : Option Stored) → ((s : Stored) → o ≡ Some s → s.write ≡ step_given (pair_sent w r k s.write))
    → shown_or w r z (option_map (λ (s : Stored). s.write) o) ≡ shown_given w r z (option_map (λ (s : Stored). pair_sent w r k s.write) o)
shown_if w r k z None writes = refl
shown_if w r k z (Some s) writes = writes s refl

shown_at : (p : Program) (h : Header) (xs : List Happening) → LawfulRun p h xs → (r : ResourceLine) → (world_at p h xs).layout.paired ≡ true → Contains h.resources r → (n k : ℕ)
    → is_host (world_at p h xs) k ≡ true → (z : Sent) → read_at (world_at p h xs) (spot_of_line r) r.lockspace n ≡ Some z
    → (history_of_line p h xs r).shown n k ≡ shown_given (world_at p h xs) r z (given_paired (world_at p h xs) r n k)
shown_at p h xs run r paired there n k host z found =
    let w : World = world_at p h xs in
    let at : Spot = spot_of_line r in
    let b : IsReadAt w r n = read_found w r n (ap (λ o. is_some o) found) in
    let same : b.sent ≡ z = some_value b.sent z (sym b.found ∙ found) in
    let t : ReadThere p h xs r n z = subst (λ v. ReadThere p h xs r n v) same (read_there p h xs run r there n b) in
    ap (λ q. option_map_or (shown_by w at k) q 0) found ∙ ap (λ v. if v then shown_or w r z (block_shown w at k z) else 0) host
    ∙ ap (shown_or w r z) (shown_paired w paired at k t.first z t.begun)
    ∙ shown_if w r k z (shown_of w at k t.first.course z.course) (λ s is. write_is p h xs run r paired there n k host z t s is)
    ∙ ap (shown_given w r z) (sym (given_begun w r n k t.first z found t.begun))

-- ---- all of it

pub paired_are_given : (p : Program) (h : Header) (xs : List Happening) (r : ResourceLine) → LawfulRun p h xs → (world_at p h xs).layout.paired ≡ true → Contains h.resources r
    → ReadsGive p h xs r
paired_are_given p h xs r run paired there =
    let w : World = world_at p h xs in
    record {
      given = given_paired w r;
      submitted = λ n k reads host x is.
          let g = given_at p h xs run r paired there n k reads host (Some x) is in submitted_by w r k g.pair g.given.from x g.given.sent g.same;
      earlier = λ n k reads host x is.
          let g = given_at p h xs run r paired there n k reads host (Some x) is in
          subst (λ m. step_of x < m) (sym g.answer) (subst (λ o. step_given o < g.ended) g.same g.given.earlier);
      newest = λ n k reads host from is x block done s told late follow.
          let g = given_at p h xs run r paired there n k reads host from is in subst (λ o. step_of x ≤ step_given o) g.same (g.given.newest x block done s told late);
      agrees = agrees_at p h xs run r paired there;
      shows = shows_at p h xs run r paired there;
      shown = shown_at p h xs run r paired there;
      others = others_at p h xs r;
      stands = pairs_stand p h xs r run paired there;
    }

-- A read shows no older block than one that was answered ok when it began.
pub paired_newest : (p : Program) (h : Header) (xs : List Happening) → LawfulRun p h xs → (r : ResourceLine) → (world_at p h xs).layout.paired ≡ true → Contains h.resources r → (k : ℕ)
    → is_host (world_at p h xs) k ≡ true → (x : Sent) → BlockSent (world_at p h xs) r k x → x.course.done ≡ true → (s : Stamp) → x.course.answered ≡ Some s → (n : ℕ) (z : Sent)
    → read_at (world_at p h xs) (spot_of_line r) r.lockspace n ≡ Some z → s.step ≤ n → (m : ℕ) → block_shown (world_at p h xs) (spot_of_line r) k z ≡ Some m → step_of x ≤ m
paired_newest p h xs run r paired there k host x block done s told n z found late m shown =
    let w : World = world_at p h xs in
    let at : Spot = spot_of_line r in
    let b : IsReadAt w r n = read_found w r n (ap (λ o. is_some o) found) in
    let same : b.sent ≡ z = some_value b.sent z (sym b.found ∙ found) in
    let t : ReadThere p h xs r n z = subst (λ v. ReadThere p h xs r n v) same (read_there p h xs run r there n b) in
    let y = mapped_value (λ (v : Stored). v.write) (shown_of w at k t.first.course z.course) m (sym (shown_paired w paired at k t.first z t.begun) ∙ shown) in
    let q = shown_as p h xs run r there paired k host t.first z t.blocks t.gives t.stamp t.answered y.0 y.1 in
    let g : GivenShown w r k (step_of t.first) t.stamp.step q.0 y.0 = q.1 in
    subst (λ i. step_of x ≤ i) (sym g.write ∙ y.2) (g.newest x block done s told (subst (λ i. s.step ≤ i) (sym t.step) late))
