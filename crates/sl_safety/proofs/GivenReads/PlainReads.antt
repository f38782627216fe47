-- Where each host's block has one sector a resource's reads give of each host what the landing spells that they sampled at its place: so the
-- record of reads is met.
use Rattle.sl_area.specs.AreaSizes.{record_in}
use Rattle.sl_area.specs.AreaLayout.{sector_of}
use Rattle.sl_words.proofs.Numbers.{trans_lt}
use Rattle.sl_safety.proofs.GivenReads.GivenByRead.{At_first, By_call, GivenBy, LeftAt, given_found, given_if, given_in, gives_block, is_given, left_at, left_by, left_step}
use Rattle.sl_safety.proofs.GivenReads.StandsSinceOk.{stands_since}
use Rattle.sl_safety.proofs.GivenReads.ReadsInTraces.{given_at, read_told}
use Rattle.sl_safety.proofs.GivenReads.WholeLandings.{not_torn}
use Rattle.sl_safety.proofs.Resources.Calls.{host_range, owned, writes_is}
use Rattle.sl_safety.proofs.GivenReads.NewestShown.{ReadSent, landing_is_newest}
use Rattle.sl_safety.proofs.Resources.AtSteps.{IsReadAt, answer_of_read, read_found}
use Rattle.sl_safety.proofs.GivenReads.ShownAtPlace.{IsShownOf, shown_of}
use Rattle.sl_safety.specs.Resources.Histories.{block_shown, counts_own, is_host, shown_by, shows_by, whole_step}
use Rattle.sl_safety.specs.Resources.SampledReads.{landing_shown, sector_number, shown_of as shown_of_pair, step_of_landing}
use Rattle.sl_safety.specs.Resources.Orders.{BlockSent, Follows}
use Rattle.sl_safety.specs.Resources.HistoryLaws.{history_of_line, spot_of_line}
use Rattle.sl_safety.specs.Resources.Reads.{AgreesOn, Block_of, Nothing, ReadBlocks, ReadsGive, shown_given, shows_given, step_given}
use Rattle.sl_safety.specs.Resources.SentCalls.{Sent, begun_by, read_at, sender_of, step_of}
use Rattle.sl_run.specs.Runs.{Happening}
use Rattle.sl_run.specs.Safety.{LawfulRun, world_at}
use Rattle.sl_run.specs.Worlds.{Landing, Program, Stamp, World}
use Rattle.sl_run.specs.declared.header.Header.{Header}
use Rattle.sl_run.specs.declared.header.ResourceLine.{ResourceLine}
use Rattle.sl_run_law.proofs.Place.PlaceLaws.{promised}
use Rattle.sl_sector.specs.SectorLayouts.{block_in}
use Rattle.sl_sector.specs.declared.sector.Block.{Block}
use Rattle.sl_words.proofs.CaseLaws.{none_some, some_value}
use Rattle.sl_words.specs.Words.{choose, some_is}
use Rattle.std.proofs.Common.{ap, arith, refl, subst, sym, ◌∙◌}
use Rattle.std.specs.Option.{option_map_or}
use Rattle.std.specs.Prelude.{Bool, Contains, List, None, Option, Some, false, if◌then◌else◌, is_some, option_and_then, option_map, slice_get, true, ℕ, ◌-◌, ◌<◌, ◌≡◌, ◌≤◌}
use Rattle.sl_trace.specs.Traces.{Submitted}
use Rattle.sl_trace.specs.declared.effects.Spot.{Spot}
use Rattle.sl_run_law.specs.Leases.Ways.{lease_among}
use Rattle.sl_ballot_law.specs.Pairs.State.{Stored}
use Rattle.sl_words.proofs.WordLaws.{choose_some}
use Rattle.sl_safety.proofs.Resources.Looks.{began_before}
use Rattle.sl_safety.proofs.GivenReads.OtherHosts.{others_at, shown_or}

-- ---- the read

as_read : (w : World) (r : ResourceLine) (n : ℕ) (b : IsReadAt w r n) → ReadSent w r b.sent
as_read w r n b = record { sent = b.is.sent; on = b.is.on; reads = b.reads }

given_of : (w : World) (r : ResourceLine) (n k : ℕ) (b : IsReadAt w r n) (from : Option Sent) → given_in w r n k ≡ Some from → GivenBy w (spot_of_line r) k b.sent from
given_of w r n k b from is = is_given w (spot_of_line r) k b.sent from (sym (given_found w r n k b.sent b.found) ∙ is)

-- ---- submitted, and earlier

under : (a b c d : ℕ) → a < b → b < c → c < d → a < d
under a b c d p q s = trans_lt a c d (trans_lt a b c p q) s

record IsSubmitted (w : World) (r : ResourceLine) (k : ℕ) (x : Sent) (before : ℕ) : Type 0 where
  block : BlockSent w r k x
  early : step_of x < before

submitted_by : (p : Program) (h : Header) (xs : List Happening) → LawfulRun p h xs → (world_at p h xs).layout.paired ≡ false → (r : ResourceLine) (k : ℕ) (z x : Sent) (t : Stamp) → z.course.answered ≡ Some t
    → (l : Landing) → IsShownOf (world_at p h xs) r z k l → left_by (world_at p h xs) l ≡ Some x → LeftAt (world_at p h xs) r k l → IsSubmitted (world_at p h xs) r k x t.step
submitted_by p h xs run plain r k z x t told l i left (At_first first none) = absurd (none_some x (sym none ∙ left))
submitted_by p h xs run plain r k z x t told l i left (By_call b is) =
    let w : World = world_at p h xs in
    let seen : l.step < i.sampling.step = subst (λ (y : Landing). y.step < i.sampling.step) i.is i.sample.newest.0 in
    let same : b.sent ≡ x = some_value b.sent x (sym is ∙ left) in
    subst (λ y. IsSubmitted w r k y t.step) same
    (record {
      block = record { sent = b.there; on = b.on; block = writes_is b.sent.course b.block b.writes; host = b.host };
      early = under (step_of b.sent) l.step i.sampling.step t.step b.after seen (i.sample.before t told).0;
    })

submitted_at : (p : Program) (h : Header) (xs : List Happening) → LawfulRun p h xs → (world_at p h xs).layout.paired ≡ false → (r : ResourceLine) → Contains h.resources r → (n k : ℕ)
    → (history_of_line p h xs r).reads n ≡ true → is_host (world_at p h xs) k ≡ true → (x : Sent) → given_in (world_at p h xs) r n k ≡ Some (Some x)
    → IsSubmitted (world_at p h xs) r k x ((history_of_line p h xs r).answer n)
submitted_at p h xs run plain r there n k reads host x is =
    let w : World = world_at p h xs in
    let b : IsReadAt w r n = read_found w r n reads in
    let a = answer_of_read p h xs run r n b in
    let g = given_of w r n k b (Some x) is in
    let i : IsShownOf w r b.sent k g.landing =
    shown_of p h xs run r there b.sent (owned p h xs run b.sent b.is.sent) b.is.on b.reads k host g.landing g.shown in
    subst (λ m. IsSubmitted w r k x m) (sym a.step)
    (submitted_by p h xs run plain r k b.sent x a.stamp a.is g.landing i g.left (left_at p h xs run plain r there k host i.sampling.index g.landing i.place))

-- ---- newest

through : (a b c : ℕ) → a ≤ b → b ≤ c → a ≤ c
through a b c h i = omega (arith, h, i)

newest_at : (p : Program) (h : Header) (xs : List Happening) → LawfulRun p h xs → (world_at p h xs).layout.paired ≡ false → (r : ResourceLine) → Contains h.resources r → (n k : ℕ)
    → (history_of_line p h xs r).reads n ≡ true → is_host (world_at p h xs) k ≡ true → (from : Option Sent) → given_in (world_at p h xs) r n k ≡ Some from
    → (x : Sent) → BlockSent (world_at p h xs) r k x → x.course.done ≡ true → (s : Stamp) → x.course.answered ≡ Some s → s.step ≤ n
    → ((y : Sent) → BlockSent (world_at p h xs) r k y → Follows (world_at p h xs) r k (sender_of x) (sender_of y)) → step_of x ≤ step_given from
newest_at p h xs run plain r there n k reads host from is x block done s told late follow =
    let w : World = world_at p h xs in
    let b : IsReadAt w r n = read_found w r n reads in
    let g = given_of w r n k b from is in
    subst (λ m. step_of x ≤ m) (left_step w g.landing ∙ ap step_given g.left)
    (landing_is_newest p h xs run plain r there k host x block done s told b.sent (as_read w r n b)
    (through s.step n (step_of b.sent) late (subst (λ m. m ≤ step_of b.sent) b.is.began (began_before p h xs run (spot_of_line r) b.sent))) g.landing g.shown follow)

-- ---- as the trace has it

nothing_by : (p : Program) (h : Header) (xs : List Happening) → LawfulRun p h xs → (world_at p h xs).layout.paired ≡ false → (r : ResourceLine) → Contains h.resources r → (z : Sent) → ReadSent (world_at p h xs) r z
    → (k : ℕ) → is_host (world_at p h xs) k ≡ true
    → block_in k (record_in (world_at p h xs).layout (sector_of (world_at p h xs).layout z.course.sampled (sector_number z.course k))) ≡ None
    → (o : Option Landing) → landing_shown (world_at p h xs) (spot_of_line r) z.course k ≡ o → given_if (world_at p h xs) o ≡ None
nothing_by p h xs run plain r there z read k host none None shown = refl
nothing_by p h xs run plain r there z read k host none (Some l) shown = by l.whole refl where
  by : (b : Bool) → l.whole ≡ b → choose b (left_by (world_at p h xs) l) ≡ None
  by false torn = refl
  by true whole = absurd (not_torn p h xs run plain r there z read k host l shown whole none)

agrees_by : (p : Program) (h : Header) (xs : List Happening) → LawfulRun p h xs → (world_at p h xs).layout.paired ≡ false → (r : ResourceLine) → Contains h.resources r → (n k : ℕ) → is_host (world_at p h xs) k ≡ true
    → (bs : List (Option Block)) (t : ReadBlocks (world_at p h xs) r n bs) (b : IsReadAt (world_at p h xs) r n) → b.sent ≡ t.sent
    → slice_get bs (k - 1)
    ≡ Some (block_in k (record_in (world_at p h xs).layout (sector_of (world_at p h xs).layout t.sent.course.sampled (sector_number t.sent.course k))))
    → (o : Option Block)
    → block_in k (record_in (world_at p h xs).layout (sector_of (world_at p h xs).layout t.sent.course.sampled (sector_number t.sent.course k))) ≡ o
    → AgreesOn k bs (given_in (world_at p h xs) r n k)
agrees_by p h xs run plain r there n k host bs t b same taken None spells =
    let w : World = world_at p h xs in
    Nothing (taken ∙ ap (λ o. Some o) spells)
    (given_found w r n k t.sent t.found
    ∙ nothing_by p h xs run plain r there t.sent (subst (λ z. ReadSent w r z) same (as_read w r n b)) k host spells (landing_shown w (spot_of_line r) t.sent.course k) refl)
agrees_by p h xs run plain r there n k host bs t b same taken (Some own) spells =
    let w : World = world_at p h xs in
    let there_too : slice_get bs (k - 1) ≡ Some (Some own) = taken ∙ ap (λ o. Some o) spells in
    let read = subst (λ z. ReadSent w r z) same (as_read w r n b) in
    let g = gives_block p h xs run plain r there n bs t read.on k host own there_too in
    Block_of own (left_by w g.landing) there_too
    (given_found w r n k t.sent t.found ∙ ap (given_if w) g.shown ∙ ap (λ (b : Bool). choose b (left_by w g.landing)) g.whole) g.says g.host

agrees_at : (p : Program) (h : Header) (xs : List Happening) → LawfulRun p h xs → (world_at p h xs).layout.paired ≡ false → (r : ResourceLine) → Contains h.resources r → (n k : ℕ) → is_host (world_at p h xs) k ≡ true
    → (bs : List (Option Block)) → ReadBlocks (world_at p h xs) r n bs → AgreesOn k bs (given_in (world_at p h xs) r n k)
agrees_at p h xs run plain r there n k host bs t =
    let w : World = world_at p h xs in
    let b : IsReadAt w r n = read_found w r n (ap (λ o. is_some o) t.found) in
    let same : b.sent ≡ t.sent = some_value b.sent t.sent (sym b.found ∙ t.found) in
    let range = host_range w k host in
    let before : List Submitted = lease_among t.daemon.setting t.session (spot_of_line r) t.older in
    let told = read_told t.daemon t.sent.course t.call before bs t.pair t.given in
    let layout = (promised.of_world p h xs run t.sent.machine t.machine t.daemon t.at t.has).layout in
    agrees_by p h xs run plain r there n k host bs t b same
    (given_at w.layout plain t.daemon t.sent.course t.call before bs layout t.pair told t.given k range.0 range.1) _ refl

-- ---- as the history has it

-- What it shows is by the landing.
shown_plain : (w : World) → w.layout.paired ≡ false → (at : Spot) (k : ℕ) (z : Sent) → block_shown w at k z ≡ option_and_then (whole_step w) (landing_shown w at z.course k)
shown_plain w plain at k z =
    ap (λ b. elim b as (λ x. Option ℕ) [
      | false ↦ option_and_then (whole_step w) (landing_shown w at z.course k)
      | true ↦ option_and_then (λ (y : Sent). option_map (λ (s : Stored). s.write) (shown_of_pair w at k y.course z.course)) (begun_by w at z)
    ]) plain

shows_if : (w : World) (r : ResourceLine) (k : ℕ) (z : Sent) (o : Option Landing)
    → (if is_some (option_and_then (whole_step w) o) then true else counts_own w (spot_of_line r) z k) ≡ shows_given w r k z (given_if w o)
shows_if w r k z None = refl
shows_if w r k z (Some l) = by l.whole where
  by : (b : Bool) → (if is_some (choose b (step_of_landing w l)) then true else counts_own w (spot_of_line r) z k) ≡ shows_given w r k z (choose b (left_by w l))
  by true = refl
  by false = refl

shown_if : (w : World) (r : ResourceLine) (z : Sent) (o : Option Landing) → shown_or w r z (option_and_then (whole_step w) o) ≡ shown_given w r z (given_if w o)
shown_if w r z None = refl
shown_if w r z (Some l) = by l.whole where
  by : (b : Bool) → shown_or w r z (choose b (step_of_landing w l)) ≡ shown_given w r z (choose b (left_by w l))
  by true = left_step w l
  by false = refl

shows_at : (p : Program) (h : Header) (xs : List Happening) → (world_at p h xs).layout.paired ≡ false → (r : ResourceLine) (n k : ℕ) → is_host (world_at p h xs) k ≡ true → (z : Sent)
    → read_at (world_at p h xs) (spot_of_line r) r.lockspace n ≡ Some z
    → (history_of_line p h xs r).shows n k ≡ shows_given (world_at p h xs) r k z (given_in (world_at p h xs) r n k)
shows_at p h xs plain r n k host z found =
    let w : World = world_at p h xs in
    let at : Spot = spot_of_line r in
    ap (λ q. some_is (shows_by w at k) q) found
    ∙ ap (λ b. if b then (if is_some (block_shown w at k z) then true else counts_own w at z k) else true) host
    ∙ ap (λ o. if is_some o then true else counts_own w at z k) (shown_plain w plain at k z) ∙ shows_if w r k z (landing_shown w at z.course k)
    ∙ ap (shows_given w r k z) (sym (given_found w r n k z found))

shown_at : (p : Program) (h : Header) (xs : List Happening) → (world_at p h xs).layout.paired ≡ false → (r : ResourceLine) (n k : ℕ) → is_host (world_at p h xs) k ≡ true → (z : Sent)
    → read_at (world_at p h xs) (spot_of_line r) r.lockspace n ≡ Some z
    → (history_of_line p h xs r).shown n k ≡ shown_given (world_at p h xs) r z (given_in (world_at p h xs) r n k)
shown_at p h xs plain r n k host z found =
    let w : World = world_at p h xs in
    let at : Spot = spot_of_line r in
    ap (λ q. option_map_or (shown_by w at k) q 0) found ∙ ap (λ b. if b then shown_or w r z (block_shown w at k z) else 0) host
    ∙ ap (shown_or w r z) (shown_plain w plain at k z) ∙ shown_if w r z (landing_shown w at z.course k) ∙ ap (shown_given w r z) (sym (given_found w r n k z found))

-- ---- all of it

pub plain_are_given : (p : Program) (h : Header) (xs : List Happening) (r : ResourceLine) → LawfulRun p h xs → (world_at p h xs).layout.paired ≡ false → Contains h.resources r
    → ReadsGive p h xs r
plain_are_given p h xs r run plain there =
    let w : World = world_at p h xs in
    record {
      given = given_in w r;
      submitted = λ n k reads host x is. (submitted_at p h xs run plain r there n k reads host x is).block;
      earlier = λ n k reads host x is. (submitted_at p h xs run plain r there n k reads host x is).early;
      newest = newest_at p h xs run plain r there;
      agrees = agrees_at p h xs run plain r there;
      shows = shows_at p h xs plain r;
      shown = shown_at p h xs plain r;
      others = others_at p h xs r;
      stands = stands_since p h xs run plain r there;
    }

whole_shown : (w : World) (o : Option Landing) (m : ℕ) → option_and_then (whole_step w) o ≡ Some m → (l : Landing) × (o ≡ Some l) × (step_of_landing w l ≡ m)
whole_shown w None m h = absurd (none_some m h)
whole_shown w (Some l) m h = (l, refl, (choose_some l.whole (step_of_landing w l) m h).1)

-- A read shows no older block than one that was answered ok when it began.
pub plain_newest : (p : Program) (h : Header) (xs : List Happening) → LawfulRun p h xs → (r : ResourceLine) → (world_at p h xs).layout.paired ≡ false → Contains h.resources r → (k : ℕ)
    → is_host (world_at p h xs) k ≡ true → (x : Sent) → BlockSent (world_at p h xs) r k x → x.course.done ≡ true → (s : Stamp) → x.course.answered ≡ Some s → (n : ℕ) (z : Sent)
    → read_at (world_at p h xs) (spot_of_line r) r.lockspace n ≡ Some z → s.step ≤ n → (m : ℕ) → block_shown (world_at p h xs) (spot_of_line r) k z ≡ Some m
    → ((y : Sent) → BlockSent (world_at p h xs) r k y → Follows (world_at p h xs) r k (sender_of x) (sender_of y)) → step_of x ≤ m
plain_newest p h xs run r plain there k host x block done s told n z found late m shown follow =
    let w : World = world_at p h xs in
    let at : Spot = spot_of_line r in
    let b : IsReadAt w r n = read_found w r n (ap (λ o. is_some o) found) in
    let same : b.sent ≡ z = some_value b.sent z (sym b.found ∙ found) in
    let l = whole_shown w (landing_shown w at z.course k) m (sym (shown_plain w plain at k z) ∙ shown) in
    subst (λ i. step_of x ≤ i) l.2
    (landing_is_newest p h xs run plain r there k host x block done s told z (subst (λ v. ReadSent w r v) same (as_read w r n b))
    (through s.step n (step_of z) late
    (subst (λ v. n ≤ step_of v) same (subst (λ i. i ≤ step_of b.sent) b.is.began (began_before p h xs run at b.sent)))) l.0 l.1 follow)
