-- The area of a quiet acquire goes on: only the acquire's own call may land there.
use Rattle.std.specs.List.{range_with_len}
use Rattle.sl_headline.specs.Quiet.Reads.ReadsShowArea.{blocks_there}
use Rattle.sl_headline.proofs.Quiet.Reads.ReadsShowArea.{same_on}
use Rattle.sl_area.specs.AreaSizes.{Layout}
use Rattle.sl_area.specs.AreaLayout.{block_offset, in_area, pair_offset}
use Rattle.sl_area.specs.Pairs.{later_pair}
use Rattle.sl_run_law.proofs.Sessions.SessionNames.{same_name}
use Rattle.sl_safety.specs.Resources.HistoryLaws.{spot_of_line}
use Rattle.sl_trace.specs.LeaseDecisions.{LeasePlace}
use Rattle.sl_trace.specs.Leases.{is_on, spot_of}
use Rattle.sl_words.proofs.Lists.{contains_cases, find_inside}
use Rattle.sl_headline.proofs.Quiet.Events.Places.{Misses, leader_within, misses_pair, misses_single, pair_within, reads_on, single_within, turned}
use Rattle.sl_headline.proofs.Quiet.Reads.SameBytes.{SameBytes, same_block, same_leader, same_pair}
use Rattle.sl_sector.specs.SectorLayouts.{is_first_turn}
use Rattle.sl_headline.proofs.Quiet.Events.Calls.{CallThere, call_there}
use Rattle.sl_headline.proofs.Quiet.Area.CalmGoesOn.{calm_goes_on, one_write_in_flight}
use Rattle.sl_headline.specs.Quiet.Events.CarriedStages.{Asked, Frees_leader, OwnPairAt, PairStands, Reads_area, Reads_first, Reads_second, SectorStands, Sets_mode, Stage, Takes_leader, Writes_first, Writes_second, op_at, own_at, turn_at}
use Rattle.sl_headline.specs.Quiet.Area.CalmAreas.{IsCalm}
use Rattle.sl_run.specs.Quiet.{leader_there}
use Rattle.sl_run.specs.Safety.{block_there, pair_there, LawfulRun, world_at}
use Rattle.sl_run.specs.Worlds.{content, initial_bytes, is_write_course, Course, Landing, World, is_open, world_with}
use Rattle.sl_run_law.proofs.Course.CallsAreDistinct.{running_has}
use Rattle.sl_run_law.proofs.Course.DaemonsOfWorld.{daemons_are_of_world, last_goes}
use Rattle.sl_run_law.proofs.Front.RunsFromFronts.{fronts_are_lawful, one_step, run_after, run_rest}
use Rattle.sl_run_law.proofs.Place.FoundInLists.{place_is}
use Rattle.sl_run_law.proofs.Place.Seats.{sized_in}
use Rattle.sl_run_law.proofs.Place.Sizes.{IsSized}
use Rattle.sl_sector.specs.declared.sector.Block.{Block}
use Rattle.sl_trace.specs.Traces.{is_write, same_place}
use Rattle.sl_trace.specs.declared.effects.Call.{Call}
use Rattle.sl_trace.specs.declared.effects.Spot.{Spot}
use Rattle.sl_words.proofs.CaseLaws.{none_some}
use Rattle.sl_headline.specs.Quiet.Events.AreaGoesOn.{AreaGoesOn, LandingsGoOn, LandsNow}
use Rattle.sl_run.specs.EventChanges.{first_change, happens, next_step}
use Rattle.sl_run.specs.Inputs.{input_of, machine_of}
use Rattle.sl_run.specs.Runs.{IsRun}
use Rattle.sl_run.specs.declared.header.Header.{Header}
use Rattle.sl_run_law.proofs.Landing.OneArrival.{Arrival, first_lands}
use Rattle.sl_run_law.proofs.Landing.OneEvent.{step_landings}
use Rattle.sl_run_law.specs.Front.LawfulFronts.{HasOneStep}
use Rattle.sl_words.proofs.WordLaws.{and_true}
use Rattle.std.proofs.Common.{ap, ap₂, arith, inl, inr, refl, subst, sym, ◌∙◌}
use Rattle.std.specs.Prelude.{Bool, Contains, IsSome, IsTrue, List, None, Some, [], bytes_eq, false, find, if◌then◌else◌, true, ℕ, ◌&&◌, ◌++◌, ◌+◌, ◌<◌, ◌==◌, ◌∷◌, ◌≡◌, ◌≤◌, ◌⊎◌, map}

text_same : (a b : List ℕ) → a ≡ b → bytes_eq a b ≡ true
text_same a b is = subst (λ y. bytes_eq a y ≡ true) is (same_name a)

both_true : (b c : Bool) → b ≡ true → c ≡ true → (b && c) ≡ true
both_true b c is its = ap (λ t. t && c) is ∙ its

up_to : (k n : ℕ) → k < 1 + n → k ≤ n
up_to k n h = omega (arith, h)

pub landings_go_on : LandingsGoOn
landings_go_on p h now x run = by (first_lands x.0 w last.0) where
  w : World
  w = world_at p h now

  v : World
  v = world_at p h (now ++ x ∷ [])

  last : IsRun w (x ∷ [])
  last = run_rest (world_with p h) now (x ∷ []) run.is_run

  one : HasOneStep w x.0 x.1
  one = one_step w x.0 x.1 last.1

  after : v.landings ≡ (first_change x.0 w).landings
  after =
      ap (λ (u : World). u.landings) (run_after (world_with p h) now (x ∷ []) ∙ ap (λ fxs. happens w x.0 fxs) one.one)
      ∙ step_landings (machine_of x.0) (input_of w x.0) one.effects (next_step (first_change x.0 w))

  by : ((first_change x.0 w).landings ≡ w.landings) ⊎ Arrival w (first_change x.0 w) → (v.landings ≡ w.landings) ⊎ LandsNow w v
  by (inl same) = inl (after ∙ same)
  by (inr a) =
      let f = find_inside (λ (c : Course). c.call.number == a.number && is_open a.host c) (a.host).calls a.flight a.flies in
      inr (record {
        landing = a.landing;
        same = after ∙ a.same;
        machine = a.machine;
        host = a.host;
        course = a.flight;
        at = a.at;
        has = f.0;
        opens = (and_true ((a.flight).call.number == a.number) (is_open a.host a.flight) f.1).1;
        writes = a.writes;
        place = a.place;
        writer = a.writer;
      })

-- Where a block is looked for, the call is a read.
looked_for : (q : Asked) (stage : Stage) (b : Block) → own_at q stage ≡ Some b → is_write (op_at q stage) ≡ false
looked_for q Reads_first b own = refl
looked_for q Reads_second b own = refl
looked_for q Reads_area b own = absurd (none_some b own)
looked_for q Writes_first b own = absurd (none_some b own)
looked_for q Writes_second b own = absurd (none_some b own)
looked_for q Takes_leader b own = absurd (none_some b own)
looked_for q Sets_mode b own = absurd (none_some b own)
looked_for q Frees_leader b own = absurd (none_some b own)

-- What the own pair must have, stage by stage.
own_goes_on : (v w : World) (q : Asked) (stage : Stage)
    → (is_write (op_at q stage) ≡ false → (turn : ℕ) → PairStands w (spot_of q.resource) q.session.id turn → PairStands v (spot_of q.resource) q.session.id turn)
    → (SectorStands w (spot_of q.resource) q.session.id (turn_at q stage) → SectorStands v (spot_of q.resource) q.session.id (turn_at q stage)) → OwnPairAt w q stage → OwnPairAt v q stage
own_goes_on v w q Reads_area read written was = read refl (turn_at q Reads_area) was
own_goes_on v w q Writes_first read written was = written was
own_goes_on v w q Reads_first read written was = read refl (turn_at q Reads_first) was
own_goes_on v w q Writes_second read written was = written was
own_goes_on v w q Reads_second read written was = read refl (turn_at q Reads_second) was
own_goes_on v w q Takes_leader read written was = tt
own_goes_on v w q Sets_mode read written was = tt
own_goes_on v w q Frees_leader read written was = tt

-- ---- what stands there

other_place : (g : Layout) (h : Header) (l : Landing) (ls : List Landing) (path : List ℕ) (o : ℕ) → same_place l.path l.offset path o ≡ false
    → elim (find (λ (k : Landing). same_place k.path k.offset path o) (l ∷ ls)) as (λ z. List ℕ) [ Some k ↦ k.bytes | None ↦ initial_bytes g h path o ]
    ≡ elim (find (λ (k : Landing). same_place k.path k.offset path o) ls) as (λ z. List ℕ) [ Some k ↦ k.bytes | None ↦ initial_bytes g h path o ]
other_place g h l ls path o other =
    ap (λ b. elim (if b then Some l else find (λ (k : Landing). same_place k.path k.offset path o) ls) as (λ z. List ℕ) [ Some k ↦ k.bytes | None ↦ initial_bytes g h path o ]) other

pub area_goes_on : AreaGoesOn
area_goes_on p h now x run q stage line resource a d at runs setting host asked c made area leaves =
    record {
      others = λ k low high other. let b = area.others k low (subst (λ (g : Layout). k ≤ g.hosts) layout high) other in (b.0, other_block k low (subst (λ (g : Layout). k ≤ g.hosts) layout high) other ∙ b.1);
      own = λ b is. unwritten (looked_for q stage b is) q.session.id hosts.0 hosts.1 ∙ area.own b is;
      leader = λ is. leads is ∙ area.leader is;
      blocks = λ is. whole is ∙ area.blocks is;
      seconds = λ paired k low high other.
          let before_paired = ap (λ (g : Layout). g.paired) (sym layout) ∙ paired in
          let most = subst (λ (g : Layout). k ≤ g.hosts) layout high in
          subst (λ o. IsSome o) (sym (second before_paired k low most other)) (area.seconds before_paired k low most other);
      pair = λ paired. pair (ap (λ (g : Layout). g.paired) (sym layout) ∙ paired);
      calm = calm_goes_on p h now x run spot q.machine a d at runs leaves area.calm;
      since = since;
    } where
      w : World
      w = world_at p h now

      v : World
      v = world_at p h (now ++ x ∷ [])

      spot : Spot
      spot = spot_of q.resource

      before : LawfulRun p h now
      before = fronts_are_lawful p h now (x ∷ []) run

      layout : v.layout ≡ w.layout
      layout = (last_goes p h now x).layout

      header : v.header ≡ w.header
      header = (last_goes p h now x).header

      z : IsSized h.geometry w.layout
      z = sized_in p h now before

      of_world : d.setting.layout ≡ w.layout
      of_world = (daemons_are_of_world p h now before q.machine a d at (running_has a d runs)).layout

      place : q.same.place.layout ≡ w.layout
      place = ap (λ (y : LeasePlace). y.layout) asked.place ∙ of_world

      spots : spot_of_line line ≡ spot
      spots = ap₂ (λ y n. record { path = y; base = n }) resource.path resource.offset

      call : CallThere d.setting d.trace q c.call
      call = call_there d.setting d.trace q stage c

      hosts : (1 ≤ q.session.id) × (q.session.id ≤ w.layout.hosts)
      hosts = subst (λ (g : Layout). (1 ≤ q.session.id) × (q.session.id ≤ g.hosts)) of_world asked.host

      -- what lands on the area is the acquire's
      mine : (l : LandsNow w v) → (l.landing).path ≡ q.resource.path → IsTrue (in_area w.layout q.resource.offset (l.landing).offset) → (l.machine ≡ q.machine) × ((l.course).call ≡ (c.call).call)
      mine l path inside =
          one_write_in_flight p h now line before resource.listed q.machine a d at runs setting host (subst (λ y. IsCalm w y q.machine) (sym spots) area.calm) c.call call.there c.waits call.works
          (subst (λ g. is_on g (spot_of_line line) (c.call).call ≡ true) of_world (subst (λ y. is_on d.setting.layout y (c.call).call ≡ true) (sym spots) call.on))
          l.machine l.host l.course l.at l.has
          (both_true (is_write_course l.course && is_open l.host l.course) (is_on w.layout (spot_of_line line) (l.course).call) (both_true (is_write_course l.course) (is_open l.host l.course) l.writes l.opens)
          (both_true (bytes_eq (l.course).call.path line.path) (in_area w.layout line.offset (l.course).call.offset)
          (text_same (l.course).call.path line.path ((l.place).0 ∙ (path ∙ sym resource.path)))
          (subst (λ n. in_area w.layout n (l.course).call.offset ≡ true) (sym resource.offset) (subst (λ n. in_area w.layout q.resource.offset n ≡ true) (sym (l.place).1) inside))))

      stays : (o : ℕ) → IsTrue (in_area w.layout q.resource.offset o) → Misses c.call o → content v q.resource.path o ≡ content w q.resource.path o
      stays o inside misses = same (landings_go_on p h now x run) where
        held : World → List Landing → List ℕ
        held u ls = elim (find (λ (k : Landing). same_place k.path k.offset q.resource.path o) ls) as (λ y. List ℕ) [ Some k ↦ k.bytes | None ↦ initial_bytes u.layout u.header q.resource.path o ]

        settings : (ls : List Landing) → held v ls ≡ held w ls
        settings ls =
            ap₂ (λ g y. elim (find (λ (k : Landing). same_place k.path k.offset q.resource.path o) ls) as (λ y. List ℕ) [ Some k ↦ k.bytes | None ↦ initial_bytes g y q.resource.path o ]) layout header

        new : (l : LandsNow w v) → (t : Bool) → same_place (l.landing).path (l.landing).offset q.resource.path o ≡ t → content v q.resource.path o ≡ content w q.resource.path o
        new l false other = settings v.landings ∙ (ap (λ ls. held w ls) l.same ∙ other_place w.layout w.header l.landing w.landings q.resource.path o other)
        new l true is =
            let its = place_is (l.landing).path (l.landing).offset q.resource.path o is in
            let one = mine l its.0 (subst (λ n. in_area w.layout q.resource.offset n ≡ true) (sym its.1) inside) in
            absurd (misses (ap (λ (y : Call). is_write y.op) (sym one.1) ∙ l.writes) (ap (λ (y : Call). y.offset) (sym one.1) ∙ ((l.place).1 ∙ its.1)))

        same : (v.landings ≡ w.landings) ⊎ LandsNow w v → content v q.resource.path o ≡ content w q.resource.path o
        same (inl is) = settings v.landings ∙ ap (λ ls. held w ls) is
        same (inr l) = new l (same_place (l.landing).path (l.landing).offset q.resource.path o) refl

      paired_there : w.layout.paired ≡ true → q.same.place.layout.paired ≡ true
      paired_there paired = ap (λ (g : Layout). g.paired) place ∙ paired

      size : IsSized h.geometry q.same.place.layout
      size = subst (λ g. IsSized h.geometry g) (sym place) z

      -- a sector of a pair, and a block of one sector, where the call doesn't write
      sector : w.layout.paired ≡ true → (k : ℕ) (first : Bool) → 1 ≤ k → k ≤ w.layout.hosts → Misses c.call (pair_offset w.layout q.resource.offset k first)
          → SameBytes v w spot (pair_offset w.layout q.resource.offset k first)
      sector paired k first low high misses = stays (pair_offset w.layout q.resource.offset k first) (pair_within w.layout q.resource.offset k first z paired (low, high)) misses

      single : (k : ℕ) → k ≤ w.layout.hosts → Misses c.call (block_offset w.layout q.resource.offset k) → SameBytes v w spot (block_offset w.layout q.resource.offset k)
      single k high misses = stays (block_offset w.layout q.resource.offset k) (single_within w.layout q.resource.offset k z high) misses

      -- of another host
      other_sector : w.layout.paired ≡ true → (k : ℕ) (first : Bool) → 1 ≤ k → k ≤ w.layout.hosts → (k ≡ q.session.id → ⊥) → SameBytes v w spot (pair_offset w.layout q.resource.offset k first)
      other_sector paired k first low high other =
          sector paired k first low high
          (subst (λ g. Misses c.call (pair_offset g q.resource.offset k first)) place (misses_pair q stage c.call k first size (paired_there paired) low (λ same side. other (sym same)) c.is))

      other_block : (k : ℕ) → 1 ≤ k → k ≤ w.layout.hosts → (k ≡ q.session.id → ⊥) → block_there v spot k ≡ block_there w spot k
      other_block k low high other =
          same_block v w spot k layout
          (λ plain. single k high
          (subst (λ g. Misses c.call (block_offset g q.resource.offset k)) place (misses_single q stage c.call k size (ap (λ (g : Layout). g.paired) place ∙ plain) other c.is)))
          (λ paired first. other_sector paired k first low high other)

      -- of any host while the call is a read
      unwritten : is_write (op_at q stage) ≡ false → (k : ℕ) → 1 ≤ k → k ≤ w.layout.hosts → block_there v spot k ≡ block_there w spot k
      unwritten reads k low high =
          same_block v w spot k layout (λ plain. single k high (reads_on q stage c.call (block_offset w.layout q.resource.offset k) c.is reads))
          (λ paired first. sector paired k first low high (reads_on q stage c.call (pair_offset w.layout q.resource.offset k first) c.is reads))

      second : w.layout.paired ≡ true → (k : ℕ) → 1 ≤ k → k ≤ w.layout.hosts → (k ≡ q.session.id → ⊥) → pair_there v spot k false ≡ pair_there w spot k false
      second paired k low high other = same_pair v w spot k false layout (other_sector paired k false low high other)

      -- the own pair
      read_pair : w.layout.paired ≡ true → is_write (op_at q stage) ≡ false → (turn : ℕ) → PairStands w spot q.session.id turn → PairStands v spot q.session.id turn
      read_pair paired reads turn s =
          let same : (first : Bool) → pair_there v spot q.session.id first ≡ pair_there w spot q.session.id first =
          λ first.
          same_pair v w spot q.session.id first layout
          (sector paired q.session.id first hosts.0 hosts.1 (reads_on q stage c.call (pair_offset w.layout q.resource.offset q.session.id first) c.is reads)) in
          record { pair = s.pair; stands = ap₂ (λ a b. later_pair a b) (same true) (same false) ∙ s.stands; is = s.is; whole = subst (λ o. IsSome o) (sym (same false)) s.whole }

      written_pair : w.layout.paired ≡ true → SectorStands w spot q.session.id (turn_at q stage) → SectorStands v spot q.session.id (turn_at q stage)
      written_pair paired s =
          let first : Bool = is_first_turn (turn_at q stage) in
          record {
            pair = s.pair;
            stands = same_pair v w spot q.session.id first layout
                (sector paired q.session.id first hosts.0 hosts.1
                (subst (λ g. Misses c.call (pair_offset g q.resource.offset q.session.id first)) place
                (misses_pair q stage c.call q.session.id first size (paired_there paired) hosts.0 (λ same side. turned (turn_at q stage) side) c.is)))
                ∙ s.stands;
            is = s.is;
          }

      pair : w.layout.paired ≡ true → OwnPairAt v q stage
      pair paired = own_goes_on v w q stage (read_pair paired) (written_pair paired) (area.pair paired)

      leads : stage ≡ Reads_area → leader_there v spot ≡ leader_there w spot
      leads is =
          same_leader v w spot layout
          (stays q.resource.offset (leader_within w.layout q.resource.offset z) (reads_on q stage c.call q.resource.offset c.is (ap (λ s. is_write (op_at q s)) is)))

      whole : stage ≡ Reads_area → blocks_there v spot ≡ blocks_there w spot
      whole is =
          ap (λ (g : Layout). map (block_there v spot) (range_with_len 1 g.hosts)) layout
          ∙ same_on (block_there v spot) (block_there w spot) 1 w.layout.hosts
          (λ k low high. unwritten (ap (λ s. is_write (op_at q s)) is) k low (up_to k w.layout.hosts high))

      since : (l : Landing) → Contains v.landings l → l.path ≡ q.resource.path → IsTrue (in_area v.layout q.resource.offset l.offset) → made < l.step → l.writer ≡ Some (q.machine, (c.call).call.number)
      since l there path inside later = by (landings_go_on p h now x run) where
        within : IsTrue (in_area w.layout q.resource.offset l.offset)
        within = subst (λ g. IsTrue (in_area g q.resource.offset l.offset)) layout inside

        by : (v.landings ≡ w.landings) ⊎ LandsNow w v → l.writer ≡ Some (q.machine, (c.call).call.number)
        by (inl same) = area.since l (subst (λ ls. Contains ls l) same there) path within later
        by (inr new) = which (contains_cases new.landing w.landings l (subst (λ ls. Contains ls l) new.same there)) where
          which : (new.landing ≡ l) ⊎ Contains w.landings l → l.writer ≡ Some (q.machine, (c.call).call.number)
          which (inr old) = area.since l old path within later
          which (inl is) =
              let one = mine new (ap (λ (y : Landing). y.path) is ∙ path) (subst (λ (y : Landing). IsTrue (in_area w.layout q.resource.offset y.offset)) (sym is) within) in
              ap (λ (y : Landing). y.writer) (sym is) ∙ (new.writer ∙ ap₂ (λ m n. Some (m, n)) one.0 (ap (λ (y : Call). y.number) one.1))
