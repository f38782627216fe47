-- The event that brings the line of a quiet acquire begins its course.
use Rattle.sl_area.specs.AreaSizes.{Layout, record_in}
use Rattle.sl_area.specs.AreaLayout.{block_offset, leader_offset, pair_offset}
use Rattle.sl_area.specs.Pairs.{later_pair}
use Rattle.sl_due.specs.Due.{IsHostTrace}
use Rattle.sl_due.specs.CarriedLease.{read_area}
use Rattle.sl_due.specs.Steps.{with_input}
use Rattle.sl_due_leases.proofs.Ways.WayFactsHeld.PlacesStand.{id_in_range}
use Rattle.sl_due_leases.proofs.Holdings.PlainPlaces.{text_is}
use Rattle.sl_due_facts.proofs.Jobs.SessionsArePresent.{present_is, session_has}
use Rattle.sl_run.specs.Lawful.{IsSetting}
use Rattle.sl_trace.specs.Ballots.{in_instance, next_mbal}
use Rattle.sl_trace.specs.LeaseDecisions.{lease_place}
use Rattle.sl_trace.specs.Leases.{block_of_host, block_submitted, is_lease_call, is_leader_of, is_on, known, lease_calls, own_or_read, spot_of}
use Rattle.sl_words.proofs.Lists.{contains_cases, contains_first, contains_map, contains_more, contains_none, find_inside, kept, kept_inside}
use Rattle.sl_headline.proofs.Quiet.Events.CourseGoesOn.{made_well}
use Rattle.sl_headline.proofs.Quiet.Area.CalmGoesOn.{calm_goes_on}
use Rattle.sl_words.proofs.Options.{mapped_value}
use Rattle.sl_headline.proofs.Quiet.Reads.SameBytes.{same_block, same_leader, same_pair}
use Rattle.sl_headline.proofs.Quiet.Reads.ReadsShowArea.{same_on}
use Rattle.sl_headline.proofs.Quiet.Start.LinesFindQuiet.{joined_woken, starts_read_the_area, woken}
use Rattle.sl_headline.proofs.Quiet.Start.DaemonAfterLine.{Begins, starts_course}
use Rattle.sl_headline.proofs.Quiet.Start.TakenLine.{LineTaken, line_taken}
use Rattle.sl_headline.specs.Quiet.Events.CarriedStages.{AreaOnCourse, Asked, DaemonOnCourse, IsAskedOf, OnCourse, Reads_area}
use Rattle.sl_headline.specs.Quiet.Area.CalmAreas.{IsCalm}
use Rattle.sl_headline.specs.Quiet.Course.QuietDecisions.{all_whole}
use Rattle.sl_headline.specs.Quiet.Reads.ReadsShowArea.{blocks_there}
use Rattle.sl_headline.specs.Quiet.Step.AnswersLeadOn.{DoesAs, begun}
use Rattle.sl_trace.specs.declared.effects.LeaseStep.TheVariants.{ReadArea}
use Rattle.sl_trace.specs.declared.effects.Work.TheVariants.{ForJob}
use Rattle.sl_words.proofs.Numbers.{number_itself}
use Rattle.sl_run_law.proofs.Sessions.CallOwners.{session_more}
use Rattle.sl_headline.specs.Quiet.Start.CourseStarts.{StartsBeginCourses}
use Rattle.sl_run.specs.EventChanges.{with_entry}
use Rattle.sl_run.specs.Quiet.{blocks_needed, leader_there}
use Rattle.sl_run.specs.Safety.{LawfulRun, block_there, pair_there, world_at}
use Rattle.sl_run.specs.Worlds.{Daemon, Machine, World, content, reading_now}
use Rattle.sl_run_law.proofs.Course.CallsAreDistinct.{running_has}
use Rattle.sl_run_law.proofs.Course.DaemonsOfWorld.{daemons_are_of_world}
use Rattle.sl_run_law.proofs.Course.MatchedCall.{newest_stamp}
use Rattle.sl_run_law.proofs.Course.EntriesAreStamped.{entries_are_stamped}
use Rattle.sl_run_law.proofs.Front.RunsFromFronts.{fronts_are_lawful}
use Rattle.sl_run_law.proofs.Moment.MomentsFollowSteps.{kept_past}
use Rattle.sl_run_law.proofs.Place.MadeLeaders.{later_is}
use Rattle.sl_run_law.proofs.Watchdog.Stamps.{same_length}
use Rattle.sl_run_law.specs.Course.CallStamps.{stamp_in}
use Rattle.sl_run_law.specs.Moment.MomentsFollowSteps.{Of_landing}
use Rattle.sl_sector.specs.SectorLayouts.{block_in}
use Rattle.sl_sector.specs.declared.sector.Block.{Block}
use Rattle.sl_sector.specs.declared.sector.PairBlock.{PairBlock}
use Rattle.sl_trace.specs.Sessions.{calls_of, is_call_of, is_joined, leaving_job, me, present_sessions, recovery_of, session_numbered, sessions}
use Rattle.sl_trace.specs.declared.session.Session.{Session}
use Rattle.sl_trace.specs.Traces.{Setting, Submitted, Trace, next_job, outstanding, submitted}
use Rattle.sl_trace.specs.declared.command.Command.TheVariants.{Acquire}
use Rattle.sl_trace.specs.declared.command.ResourceArg.{ResourceArg}
use Rattle.sl_trace.specs.declared.effects.Entry.{Entry}
use Rattle.sl_trace.specs.declared.effects.Spot.{Spot}
use Rattle.sl_trace.specs.declared.input.Input.TheVariants.{Line}
use Rattle.sl_words.proofs.CaseLaws.{none_some, true_is_false}
use Rattle.sl_words.proofs.WordLaws.{and_true}
use Rattle.sl_words.specs.Bounds.{record_numbers}
use Rattle.std.proofs.Common.{ap, ap₂, arith, inl, inr, refl, subst, sym, ◌∙◌}
use Rattle.std.proofs.lemmas.Bool.{eqb-true}
use Rattle.std.proofs.lemmas.List.{append-nil}
use Rattle.std.proofs.lemmas.Option.{slice_get-map}
use Rattle.std.specs.List.{AllByRecursion, range_with_len}
use Rattle.std.specs.Option.{option_map_or, unwrap_or}
use Rattle.std.specs.Prelude.{Bool, Contains, IsSome, IsTrue, List, None, Option, Some, [], bytes_eq, cond, false, is_none, is_some, length, map, option_map, option_to_list, slice_get, suc, true, zero, ℕ, ◌&&◌, ◌++◌, ◌+◌, ◌-◌, ◌<◌, ◌==◌, ◌∷◌, ◌≡◌, ◌≤◌, ◌⊎◌}

-- ---- numbers in a row

next_low : (a k : ℕ) → a ≤ k → (a ≡ k → ⊥) → a + 1 ≤ k
next_low a k low apart = omega (arith, low, apart)

next_high : (a k n : ℕ) → k < a + suc n → k < (a + 1) + n
next_high a k n high = omega (arith, high)

no_room : (a k : ℕ) → a ≤ k → k < a + 0 → ⊥
no_room a k low high = omega (arith, low, high)

row_has : (a n k : ℕ) → a ≤ k → k < a + n → Contains (range_with_len a n) k
row_has a zero k low high = absurd (no_room a k low high)
row_has a (suc n) k low high = by (a == k) refl (λ apart. row_has (a + 1) n k (next_low a k low apart) (next_high a k n high)) where
  by : (b : Bool) → (a == k) ≡ b → ((a ≡ k → ⊥) → Contains (range_with_len (a + 1) n) k) → Contains (range_with_len a (suc n)) k
  by true is rest = subst (λ x. Contains (range_with_len a (suc n)) x) (eqb-true a k is) (contains_first a (range_with_len (a + 1) n))
  by false is rest = contains_more a (range_with_len (a + 1) n) k (rest (λ same. true_is_false (sym (ap (λ x. x == k) same ∙ number_itself k) ∙ is)))

row_at : (a n i : ℕ) → i < n → slice_get (range_with_len a n) i ≡ Some (a + i)
row_at a zero i less = absurd (never i less) where
  never : (i : ℕ) → i < 0 → ⊥
  never i less = omega (arith, less)
row_at a (suc n) zero less = ap (λ k. Some k) (zero_more a) where
  zero_more : (a : ℕ) → a ≡ a + 0
  zero_more a = omega arith
row_at a (suc n) (suc i) less = row_at (a + 1) n i (omega (arith, less)) ∙ ap (λ k. Some k) (one_more a i) where
  one_more : (a i : ℕ) → (a + 1) + i ≡ a + suc i
  one_more a i = omega arith

row_low : (a n k : ℕ) → Contains (range_with_len a n) k → (a ≤ k) × (k < a + n)
row_low a zero k there = absurd (contains_none k there)
row_low a (suc n) k there = by (contains_cases a (range_with_len (a + 1) n) k there) (λ more. row_low (a + 1) n k more) where
  by : (a ≡ k) ⊎ Contains (range_with_len (a + 1) n) k → (Contains (range_with_len (a + 1) n) k → (a + 1 ≤ k) × (k < (a + 1) + n)) → (a ≤ k) × (k < a + suc n)
  by (inl same) rest = (omega (arith, same), omega (arith, same))
  by (inr more) rest = (let r = rest more in (omega (arith, r.0), omega (arith, r.1)))

all_mapped : {A B : Type 0} (P : B → Type 0) (f : A → B) (xs : List A) → ((a : A) → Contains xs a → P (f a)) → AllByRecursion P (map f xs)
all_mapped P f [] h = tt
all_mapped P f (x ∷ xs) h = (h x (contains_first x xs), all_mapped P f xs (λ a there. h a (contains_more x xs a there)))

all_of : {A : Type 0} (P : A → Type 0) (xs : List A) → ((a : A) → Contains xs a → P a) → AllByRecursion P xs
all_of P [] h = tt
all_of P (x ∷ xs) h = (h x (contains_first x xs), all_of P xs (λ a there. h a (contains_more x xs a there)))

in_range : (n i : ℕ) → 1 ≤ i → i ≤ n → i - 1 < n
in_range n i low high = omega (arith, low, high)

one_back : (i : ℕ) → 1 ≤ i → 1 + (i - 1) ≡ i
one_back i low = omega (arith, low)

up_to : (n i : ℕ) → i ≤ n → i < 1 + n
up_to n i high = omega (arith, high)

down_to : (n i : ℕ) → i < 1 + n → i ≤ n
down_to n i less = omega (arith, less)

less_than_next : (a n : ℕ) → a ≤ n → a ≤ n + 1
less_than_next a n le = omega (arith, le)

not_next : (a n : ℕ) → a ≤ n → a ≡ n + 1 → ⊥
not_next a n le same = omega (arith, le, same)

not_after : (k n made : ℕ) → k < n → made ≡ n + 1 → made < k → ⊥
not_after k n made past late after = omega (arith, past, late, after)

-- ---- the own block

-- The one that was submitted last, else the one that stands there.
abbrev own_of : Option Block → Block → Block
own_of o b = elim o [ Some c ↦ c | None ↦ b ]

own_is_by : (id : ℕ) (o : Option Block) (bs : List (Option Block)) (b : Block) → block_of_host bs id ≡ Some b → own_or_read id o bs ≡ Some (own_of o b)
own_is_by id None bs b is = is
own_is_by id (Some c) bs b is = refl

own_low_by : (o : Option Block) (b : Block) (n : ℕ) → b.lver ≤ n → ((own : Block) → o ≡ Some own → own.lver ≤ n + 1) → (own_of o b).lver ≤ n + 1
own_low_by None b n low each = less_than_next b.lver n low
own_low_by (Some c) b n low each = each c refl

unaccepted_by : (o : Option Block) (b : Block) (n : ℕ) → b.lver ≤ n → ((own : Block) → o ≡ Some own → own.lver ≡ n + 1 → own.bal ≡ 0) → (own_of o b).lver ≡ n + 1 → (own_of o b).bal ≡ 0
unaccepted_by None b n low each is = absurd (not_next b.lver n low is)
unaccepted_by (Some c) b n low each is = each c refl is

mbal_by : (hosts id : ℕ) (o : Option Block) (b : Block) (n : ℕ) → b.lver ≤ n → next_mbal hosts id (map (λ (c : Block). c.mbal) (in_instance (n + 1) (option_to_list o))) < record_numbers
    → next_mbal hosts id (map (λ (c : Block). c.mbal) (in_instance (n + 1) (own_of o b ∷ []))) < record_numbers
mbal_by hosts id (Some c) b n low fits = fits
mbal_by hosts id None b n low fits = by (b.lver == n + 1) refl where
  by : (t : Bool) → (b.lver == n + 1) ≡ t → next_mbal hosts id (map (λ (c : Block). c.mbal) (in_instance (n + 1) (b ∷ []))) < record_numbers
  by true is = absurd (not_next b.lver n low (eqb-true b.lver (n + 1) is))
  by false is = subst (λ (bs : List Block). next_mbal hosts id (map (λ (c : Block). c.mbal) bs) < record_numbers) (sym (ap (λ t. cond t (b ∷ []) []) is)) fits

-- ---- the acquire

-- A block, where one stands.
abbrev block_or : Block → Option Block → Block
block_or d o = elim o [ Some b ↦ b | None ↦ d ]

nothing : Block
nothing = record { host = 0; shared = false; lver = 0; mbal = 0; bal = 0; inp_gen = 0; mode_gen = 0; inp = 0 }

abbrev standing : World → ResourceArg → ℕ → Block
standing w r host = block_or nothing (block_there w (spot_of r) host)

-- The turn of a pair's block, where one stands.
abbrev turn_of : Option PairBlock → ℕ
turn_of o = option_map_or (λ (p : PairBlock). p.turn) o 0

record OwnPair (w : World) (at : Spot) (host : ℕ) : Type 0 where
  pair : PairBlock
  stands : later_pair (pair_there w at host true) (pair_there w at host false) ≡ Some pair

-- Where a host's block is of a pair, the pair has it.
pair_stands : (w : World) (at : Spot) (host : ℕ) → w.layout.paired ≡ true → (b : Block) → block_there w at host ≡ Some b → OwnPair w at host
pair_stands w at host paired b is =
    let there : option_map (λ (p : PairBlock). p.block) (later_pair (pair_there w at host true) (pair_there w at host false)) ≡ Some b =
    sym (ap (λ t. elim t as (λ z. Option Block) [
      | false ↦ block_in host (record_in w.layout (content w at.path (block_offset w.layout at.base host)))
      | true ↦ option_map (λ (p : PairBlock). p.block) (later_pair (pair_there w at host true) (pair_there w at host false))
    ]) paired)
    ∙ is in
    let p = mapped_value (λ (p : PairBlock). p.block) (later_pair (pair_there w at host true) (pair_there w at host false)) b there in
    record { pair = p.0; stands = p.1 }

pub starts_begin_courses : StartsBeginCourses
unfolding known
starts_begin_courses p h now x run well m n text r shared line resource start low same given quiet = (q, record { machine = refl; job = refl; process = refl; resource = refl; mode = (refl, refl); session = refl; leader = refl }, course) where
  w : World
  w = world_at p h now

  v : World
  v = world_at p h (now ++ x ∷ [])

  before_run : LawfulRun p h now
  before_run = fronts_are_lawful p h now (x ∷ []) run

  a : Machine
  a = start.machine

  d : Daemon
  d = start.daemon

  st : Setting
  st = d.setting

  past : Trace
  past = d.trace

  s : Session
  s = start.session

  at : Spot
  at = spot_of r

  lver : ℕ
  lver = (start.leader).lver

  before : List Submitted
  before = lease_calls st past s at

  hosts : ℕ
  hosts = (w.layout).hosts

  row : List ℕ
  row = range_with_len 1 hosts

  q : Asked
  q =
      record {
        machine = m;
        job = next_job st past;
        process = n;
        resource = r;
        shared = shared;
        persistent = start.persistent;
        session = s;
        same = record { place = lease_place st s; self = me past s; exclusive = None; over = λ i g. false };
        leader = start.leader;
        blocks = map (standing w r) row;
        block_of = standing w r;
        own = own_of (block_submitted before) (standing w r s.id);
        turn = turn_of (later_pair (pair_there w at s.id true) (pair_there w at s.id false));
        before = before;
      }

  -- ---- the daemon

  taken : LineTaken w v m a d text
  taken = line_taken p h now x run m a d text (start.runs).0 (start.runs).1 same given

  e : Entry
  e = record { reading = reading_now a; input = Line text; effects = taken.effects }

  then_daemon : Daemon
  then_daemon = with_entry e taken.stamp d

  made : IsSetting st × IsHostTrace st (e ∷ past)
  made = made_well v m taken.machine then_daemon well taken.at taken.runs

  setting : IsSetting st
  setting = made.0

  host_before : IsHostTrace st past
  host_before = (made.1.0.1, made.1.1.1)

  layout : st.layout ≡ w.layout
  layout = (daemons_are_of_world p h now before_run m a d (start.runs).0 (running_has a d (start.runs).1)).layout

  found : Contains (present_sessions st (woken past (reading_now a))) s × (bytes_eq s.lockspace r.lockspace ≡ true)
  found = find_inside (λ (z : Session). bytes_eq z.lockspace r.lockspace) (present_sessions st (woken past (reading_now a))) s start.named

  lockspace : s.lockspace ≡ r.lockspace
  lockspace = text_is s.lockspace r.lockspace found.1

  there : Contains (sessions st past) s
  there = subst (λ ss. Contains ss s) (append-nil (sessions st past)) (present_is st (woken past (reading_now a)) s found.0).0

  numbered : session_numbered st past s.number ≡ Some s
  numbered = session_has st past s there

  joined : is_joined past s ≡ true
  joined =
      joined_woken past (reading_now a) s
      (and_true (is_joined (woken past (reading_now a)) s) (is_none (recovery_of st (woken past (reading_now a)) s))
      (and_true (is_joined (woken past (reading_now a)) s && is_none (recovery_of st (woken past (reading_now a)) s)) (is_none (leaving_job st (woken past (reading_now a)) s)) start.active).0).0

  id : (1 ≤ s.id) × (s.id ≤ st.layout.hosts)
  id = id_in_range st setting past s there

  high : s.id ≤ hosts
  high = subst (λ (g : Layout). s.id ≤ g.hosts) layout id.1

  begins : Begins st past e q text
  begins =
      record {
        setting = setting;
        host = made.1;
        input = refl;
        does = subst (λ fx. DoesAs fx (read_area s at (ForJob (next_job st past)) (ReadArea r.name) (with_input (Line text) (begun st past (reading_now a))))) (sym made.1.1.0)
            (starts_read_the_area w m text r shared n start setting host_before);
        line = start.line;
        job = refl;
        place = refl;
        self = refl;
        before = refl;
        session = numbered;
        joined = joined;
        active = quiet.active taken.machine then_daemon s taken.at taken.runs (session_more st e past s.number s numbered);
      }

  host : (c : DaemonOnCourse st (e ∷ past) q Reads_area) × (c.call.at ≡ length past)
  host = starts_course st past e q text begins

  -- ---- what stands there

  stands : (k : ℕ) → 1 ≤ k → k ≤ hosts → (block_there w at k ≡ Some (standing w r k)) × ((standing w r k).lver ≤ lver)
  stands k low_k high_k =
      let b = start.blocks k low_k high_k in
      let same_one : standing w r k ≡ b.0 = ap (λ o. block_or nothing o) b.1 in (b.1 ∙ ap (λ y. Some y) (sym same_one), subst (λ (y : Block). y.lver ≤ lver) (sym same_one) b.2)

  whole : blocks_there w at ≡ all_whole q.blocks
  whole = same_on (block_there w at) (λ k. Some (standing w r k)) 1 hosts (λ k low_k less. (stands k low_k (down_to hosts k less)).0) ∙ mapped row where
    mapped : (ks : List ℕ) → map (λ k. Some (standing w r k)) ks ≡ map (λ b. Some b) (map (standing w r) ks)
    mapped [] = refl
    mapped (k ∷ ks) = ap (λ bs. Some (standing w r k) ∷ bs) (mapped ks)

  block_then : (k : ℕ) → block_there v at k ≡ block_there w at k
  block_then k =
      same_block v w at k taken.layout (λ plain. taken.contents at.path (block_offset w.layout at.base k)) (λ paired first. taken.contents at.path (pair_offset w.layout at.base k first))

  pair_then : (k : ℕ) (first : Bool) → pair_there v at k first ≡ pair_there w at k first
  pair_then k first = same_pair v w at k first taken.layout (taken.contents at.path (pair_offset w.layout at.base k first))

  blocks_then : blocks_there v at ≡ blocks_there w at
  blocks_then = ap (λ (g : Layout). map (block_there v at) (range_with_len 1 g.hosts)) taken.layout ∙ same_on (block_there v at) (block_there w at) 1 hosts (λ k low_k less. block_then k)

  leader_then : leader_there v at ≡ leader_there w at
  leader_then = same_leader v w at taken.layout (taken.contents at.path (leader_offset at.base))

  -- the own pair
  own_pair : w.layout.paired ≡ true → OwnPair w at s.id
  own_pair paired = pair_stands w at s.id paired (start.blocks s.id id.0 high).0 (start.blocks s.id id.0 high).1

  turns : st.layout.paired ≡ true → q.turn + blocks_needed shared < record_numbers
  turns paired =
      let o = own_pair (ap (λ (g : Layout). g.paired) (sym layout) ∙ paired) in
      subst (λ n. n + blocks_needed shared < record_numbers) (sym (ap (λ y. turn_of y) o.stands))
      (by o (later_is (pair_there w at s.id true) (pair_there w at s.id false) o.pair o.stands) (ap (λ (g : Layout). g.paired) (sym layout) ∙ paired)) where
        by : (o : OwnPair w at s.id) → (pair_there w at s.id true ≡ Some o.pair) ⊎ (pair_there w at s.id false ≡ Some o.pair) → w.layout.paired ≡ true → (o.pair).turn + blocks_needed shared < record_numbers
        by o (inl one) there = start.turns there true o.pair one
        by o (inr two) there = start.turns there false o.pair two

  -- ---- the acquire

  unanswered_one : {A : Type 0} (o : Option A) → is_some o ≡ false → is_none o ≡ true
  unanswered_one None is = refl
  unanswered_one (Some y) is = absurd (true_is_false is)

  answered : (c : Submitted) → Contains before c → is_some c.answer ≡ true
  answered c inside = by (is_some c.answer) refl where
    one : Contains (calls_of past s) c × ((is_lease_call c && is_on st.layout at c.call) ≡ true)
    one = kept_inside (λ (y : Submitted). is_lease_call y && is_on st.layout at y.call) (calls_of past s) c inside

    all : Contains (submitted past) c
    all = (kept_inside (is_call_of s) (submitted past) c one.0).0

    by : (b : Bool) → is_some c.answer ≡ b → is_some c.answer ≡ true
    by true is = is
    by false is =
        absurd (contains_none c (subst (λ ms. Contains ms c) start.no_call
        (kept (λ (y : Submitted). is_on st.layout at y.call) (outstanding past) c (and_true (is_lease_call c) (is_on st.layout at c.call) one.1).1
        (kept (λ (y : Submitted). is_none y.answer) (submitted past) c (unanswered_one c.answer is) all))))

  own_at_first : block_of_host (all_whole q.blocks) s.id ≡ Some (standing w r s.id)
  own_at_first =
      ap (λ o. unwrap_or o None) (slice_get-map (λ (b : Block). Some b) (map (standing w r) row) (s.id - 1)
      ∙ ap (λ o. option_map (λ (b : Block). Some b) o) (slice_get-map (standing w r) row (s.id - 1)
      ∙ (ap (λ o. option_map (standing w r) o) (row_at 1 hosts (s.id - 1) (in_range hosts s.id id.0 high)) ∙ ap (λ k. Some (standing w r k)) (one_back s.id id.0))))

  asked : IsAskedOf st q
  asked =
      record {
        lockspace = lockspace;
        place = refl;
        id = refl;
        answered = all_of (λ (c : Submitted). is_some c.answer ≡ true) before answered;
        host = id;
        base = ((setting.reads text (Acquire r shared n start.persistent) start.line).0).base;
        free = start.free;
        names = subst (λ g. IsTrue (is_leader_of g r.lockspace r.name start.leader)) (sym layout) start.names;
        below = all_mapped (λ (b : Block). b.lver ≤ lver) (standing w r) row (λ k inside. let k_in = row_low 1 hosts k inside in (stands k k_in.0 (down_to hosts k k_in.1)).1);
        own_is = own_is_by s.id (block_submitted before) (all_whole q.blocks) (standing w r s.id) own_at_first;
        own_low = own_low_by (block_submitted before) (standing w r s.id) lver (stands s.id id.0 high).1 low.own_low;
        unaccepted = unaccepted_by (block_submitted before) (standing w r s.id) lver (stands s.id id.0 high).1 low.unaccepted;
        freed_low = low.freed_low;
        lver = start.numbers;
        mbal = subst (λ (g : Layout). next_mbal g.hosts s.id (map (λ (c : Block). c.mbal) (in_instance (lver + 1) (q.own ∷ []))) < record_numbers) (sym layout)
            (mbal_by hosts s.id (block_submitted before) (standing w r s.id) lver (stands s.id id.0 high).1 start.ballot);
        turns = turns;
      }

  -- ---- the area

  calm : IsCalm v at m
  calm =
      calm_goes_on p h now x run at m a d (start.runs).0 (start.runs).1 (record { others = quiet.calm; runs_on = ((quiet.stays).1, (quiet.stays).2) })
      (λ k b c here has flies. absurd (start.calm k b c here has flies))

  area : AreaOnCourse v q Reads_area (host.0).call.call.number (taken.stamp).step
  area =
      record {
        others = λ k low_k high_k other.
            let high_w : k ≤ hosts = subst (λ (g : Layout). k ≤ g.hosts) taken.layout high_k in
            (contains_map (standing w r) row k (row_has 1 hosts k low_k (up_to hosts k high_w)), block_then k ∙ (stands k low_k high_w).0);
        own = λ b is. absurd (none_some b is);
        leader = λ is. leader_then ∙ start.leader_spells;
        blocks = λ is. blocks_then ∙ whole;
        seconds = λ paired k low_k high_k other.
            subst (λ o. IsSome o) (sym (pair_then k false))
            (start.pairs (ap (λ (g : Layout). g.paired) (sym taken.layout) ∙ paired) k low_k (subst (λ (g : Layout). k ≤ g.hosts) taken.layout high_k));
        pair = λ paired.
            let before_paired = ap (λ (g : Layout). g.paired) (sym taken.layout) ∙ paired in
            let o = own_pair before_paired in
            record {
              pair = o.pair;
              stands = ap₂ (λ a b. later_pair a b) (pair_then s.id true) (pair_then s.id false) ∙ o.stands;
              is = sym (ap (λ y. turn_of y) o.stands);
              whole = subst (λ o. IsSome o) (sym (pair_then s.id false)) (start.pairs before_paired s.id id.0 high);
            };
        calm = calm;
        since = λ l inside path within after.
            absurd (not_after l.step w.step (taken.stamp).step (kept_past p h now before_run l.step l.moment (Of_landing l (subst (λ ls. Contains ls l) taken.landings inside) refl refl)).0 taken.late after);
      }

  course : OnCourse v q Reads_area
  course =
      record {
        machine = taken.machine;
        daemon = then_daemon;
        at = (taken.at, taken.runs);
        asked = asked;
        host = host.0;
        stamp = taken.stamp;
        stamped = ap (λ i. stamp_in (taken.stamp ∷ d.stamps) i) host.1
            ∙ newest_stamp taken.stamp d.stamps (length past) (sym (same_length d.stamps past (entries_are_stamped p h now before_run m a d (start.runs).0 (running_has a d (start.runs).1))));
        area = area;
      }
