-- What a quiet acquire's session has submitted on the area, and what it freed there, is of no later instance than the next.
use Rattle.sl_ballot_law.specs.History.{Block as HistoryBlock, History, Leader as HistoryLeader}
use Rattle.sl_safety.proofs.Resources.Calls.{there_sent}
use Rattle.sl_safety.proofs.Resources.StepsNameCalls.{block_at_step, leader_at_step}
use Rattle.sl_safety.specs.Resources.Histories.{history_block, history_leader, no_leader}
use Rattle.sl_safety.specs.Resources.HistoryLaws.{history_of_line, spot_of_line}
use Rattle.sl_safety.specs.Resources.SentCalls.{Sent, all_sent, block_of_course, leader_of_course, sent_at, step_of, writes_leader}
use Rattle.sl_trace.specs.Leases.{block_of_record, block_submitted, block_written, freed, freed_by, is_lease_call, is_on, known, leader_of_record, leader_written, lease_calls, spot_of}
use Rattle.sl_words.proofs.Lists.{contains_first, contains_more, kept_inside}
use Rattle.sl_headline.proofs.Quiet.Start.InstancesAreLow.{OkAreLow, blocks_are_low, leaders_are_low, none_is_accepted}
use Rattle.sl_headline.proofs.Quiet.Start.OkAreLow.{block_shown, ok_are_low}
use Rattle.sl_headline.specs.Quiet.Start.CourseStarts.{StartIsLow}
use Rattle.sl_run.specs.Safety.{block_there, world_at}
use Rattle.sl_run.specs.Worlds.{Course, Daemon, Machine, World}
use Rattle.sl_run_law.proofs.Course.CallsAreDistinct.{running_has}
use Rattle.sl_run_law.proofs.Course.DaemonsOfWorld.{daemons_are_of_world}
use Rattle.sl_run_law.proofs.Course.CoursesAreCalls.{courses_are_calls}
use Rattle.sl_run_law.proofs.Place.FoundInLists.{partner_of}
use Rattle.sl_run_law.specs.Course.CallStamps.{IsCourseOf, courses_of}
use Rattle.sl_safety.proofs.HistoriesAreLawful.{are_lawful, keep_instances}
use Rattle.sl_sector.specs.declared.sector.Block.{Block}
use Rattle.sl_sector.specs.declared.sector.Leader.{Leader}
use Rattle.sl_trace.specs.Sessions.{calls_of, is_call_of}
use Rattle.sl_trace.specs.declared.session.Session.{Session}
use Rattle.sl_trace.specs.Traces.{Setting, Submitted, Trace, record_of, submitted}
use Rattle.sl_trace.specs.declared.effects.Call.{Call}
use Rattle.sl_trace.specs.declared.effects.Spot.{Spot}
use Rattle.sl_words.proofs.CaseLaws.{none_some}
use Rattle.sl_words.proofs.WordLaws.{and_true}
use Rattle.std.proofs.Common.{ap, ap₂, arith, refl, subst, sym, ◌∙◌}
use Rattle.std.proofs.lemmas.Bool.{leb-true}
use Rattle.std.specs.Option.{option_map_or}
use Rattle.std.specs.Prelude.{Bool, Contains, List, None, Option, Some, [], false, if◌then◌else◌, is_some, max, nat_le, option_and_then, true, ℕ, ◌&&◌, ◌+◌, ◌==◌, ◌∷◌, ◌≡◌, ◌≤◌}

-- ---- lists of calls

-- The call that submitted the newest block.
last_block : (ms : List Submitted) (b : Block) → block_submitted ms ≡ Some b → (m : Submitted) × Contains ms m × (block_written m ≡ Some b)
last_block [] b is = absurd (none_some b is)
last_block (m ∷ ms) b is = by (block_written m) refl is (λ rest. last_block ms b rest) where
  by : (o : Option Block) → block_written m ≡ o → elim o as (λ z. Option Block) [ Some c ↦ Some c | None ↦ block_submitted ms ] ≡ Some b
      → (block_submitted ms ≡ Some b → (n : Submitted) × Contains ms n × (block_written n ≡ Some b)) → (n : Submitted) × Contains (m ∷ ms) n × (block_written n ≡ Some b)
  by (Some c) wrote found rest = (m, contains_first m ms, wrote ∙ found)
  by None wrote found rest = (let n = rest found in (n.0, contains_more m ms n.0 n.1, n.2))

both_low : (a b n : ℕ) → a ≤ n → b ≤ n → max a b ≤ n
both_low a b n one two = omega (arith, one, two)

none_low : (n : ℕ) → 0 ≤ n
none_low n = omega arith

all_freed_low : (n : ℕ) (ms : List Submitted) → ((m : Submitted) → Contains ms m → freed_by m ≤ n) → freed ms ≤ n
all_freed_low n [] h = none_low n
all_freed_low n (m ∷ ms) h = both_low (freed_by m) (freed ms) n (h m (contains_first m ms)) (all_freed_low n ms (λ k there. h k (contains_more m ms k there)))

freed_low_by : (o : Option Leader) (n : ℕ) → ((l : Leader) → o ≡ Some l → l.lver ≤ n) → option_map_or (λ (l : Leader). if l.held then 0 else l.lver) o 0 ≤ n
freed_low_by None n h = none_low n
freed_low_by (Some l) n h = by l.held where
  by : (b : Bool) → (if b then 0 else l.lver) ≤ n
  by true = none_low n
  by false = h l refl

host_in : (n k : ℕ) → (nat_le 1 k && nat_le k n) ≡ true → (1 ≤ k) × (k ≤ n)
host_in n k is = let both = and_true (nat_le 1 k) (nat_le k n) is in (leb-true 1 k both.0, leb-true k n both.1)

-- ---- the start

abbrev sent_as : ℕ → Course → Sent
sent_as m f = record { machine = m; course = f }

pub start_is_low : StartIsLow
unfolding known
start_is_low p h xs run well m n text r shared line its q = record { own_low = own_low; unaccepted = unaccepted; freed_low = freed_all } where
  w : World
  w = world_at p h xs

  a : Machine
  a = q.machine

  d : Daemon
  d = q.daemon

  st : Setting
  st = d.setting

  past : Trace
  past = d.trace

  s : Session
  s = q.session

  at : Spot
  at = spot_of r

  top : ℕ
  top = (q.leader).lver

  y : History
  y = history_of_line p h xs line

  here : at ≡ spot_of_line line
  here = ap₂ (λ path o. let z : Spot = record { path = path; base = o } in z) (sym its.path) (sym its.offset)

  layout : st.layout ≡ w.layout
  layout = (daemons_are_of_world p h xs run m a d (q.runs).0 (running_has a d (q.runs).1)).layout

  ok_low : OkAreLow y top
  ok_low =
      ok_are_low p h xs run line its.listed top
      (λ k host. let k_in = host_in (w.layout).hosts k host in let b = q.blocks k k_in.0 k_in.1 in (b.0, subst (λ z. block_there w z k ≡ Some b.0) here b.1, b.2))

  -- a call of the lease, as it was sent to the area
  sent_of : (c : Submitted) → Contains (lease_calls st past s at) c → (f : Course) × Contains (all_sent w) (sent_as m f) × (f.call ≡ c.call) × (is_on w.layout (spot_of_line line) f.call ≡ true)
  sent_of c there =
      let one = kept_inside (λ (z : Submitted). is_lease_call z && is_on st.layout at z.call) (calls_of past s) c there in
      let two = kept_inside (is_call_of s) (submitted past) c one.0 in
      let f = partner_of (IsCourseOf d) (courses_of a d.number) (submitted past) c (courses_are_calls p h xs run m a d (q.runs).0 (running_has a d (q.runs).1)) two.0 in
      let inside = kept_inside (λ (z : Course). z.daemon == d.number) a.calls f.0 f.1 in (
        f.0,
        there_sent w m a f.0 (q.runs).0 inside.0,
        sym f.2.call,
        subst (λ (k : Call). is_on w.layout (spot_of_line line) k ≡ true) f.2.call
            (subst (λ z. is_on w.layout z c.call ≡ true) here (subst (λ g. is_on g at c.call ≡ true) layout (and_true (is_lease_call c) (is_on st.layout at c.call) one.1).1)),
      )

  -- a block that the session submitted is one of the history
  block_in_history : (own : Block) → block_submitted (lease_calls st past s at) ≡ Some own → (e : ℕ) × (y.writes e ≡ true) × (y.block e ≡ history_block own)
  block_in_history own is =
      let c = last_block (lease_calls st past s at) own is in
      let x = sent_of c.0 c.1 in
      let wrote : block_of_course x.0 ≡ Some own = ap (λ (k : Call). option_and_then block_of_record (record_of k.op)) x.2 ∙ c.2 in (
        step_of (sent_as m x.0),
        ap (λ o. is_some o) (block_at_step p h xs run line its.listed (sent_as m x.0) x.1 x.3 (ap (λ o. is_some o) wrote)),
        block_shown p h xs run line its.listed (sent_as m x.0) own x.1 x.3 wrote,
      )

  own_low : (own : Block) → block_submitted (lease_calls st past s at) ≡ Some own → own.lver ≤ top + 1
  own_low own is =
      let e = block_in_history own is in
      subst (λ (b : HistoryBlock). b.lver ≤ top + 1) e.2 (blocks_are_low y top (are_lawful p h xs line run its.listed) (keep_instances p h xs line run its.listed).leaders ok_low e.0 e.1)

  unaccepted : (own : Block) → block_submitted (lease_calls st past s at) ≡ Some own → own.lver ≡ top + 1 → own.bal ≡ 0
  unaccepted own is next =
      let e = block_in_history own is in
      ap (λ (b : HistoryBlock). b.bal) (sym e.2)
      ∙ none_is_accepted y top (are_lawful p h xs line run its.listed) (keep_instances p h xs line run its.listed).leaders ok_low e.0 e.1 (ap (λ (b : HistoryBlock). b.lver) e.2 ∙ next)

  leader_low : (c : Submitted) → Contains (lease_calls st past s at) c → (l : Leader) → leader_written c ≡ Some l → l.lver ≤ top
  leader_low c there l is =
      let x = sent_of c there in
      let wrote : leader_of_course x.0 ≡ Some l = ap (λ (k : Call). option_and_then leader_of_record (record_of k.op)) x.2 ∙ is in
      let found : sent_at w (spot_of_line line) writes_leader (step_of (sent_as m x.0)) ≡ Some (sent_as m x.0) =
      leader_at_step p h xs run line its.listed (sent_as m x.0) x.1 x.3 (ap (λ o. is_some o) wrote) in
      let shown : y.leader (step_of (sent_as m x.0)) ≡ history_leader l =
      ap (λ o. option_map_or history_leader (option_and_then (λ (z : Sent). leader_of_course z.course) o) no_leader) found ∙ ap (λ o. option_map_or history_leader o no_leader) wrote in
      subst (λ (k : HistoryLeader). k.lver ≤ top) shown (leaders_are_low y top (keep_instances p h xs line run its.listed).leaders ok_low (step_of (sent_as m x.0)) (ap (λ o. is_some o) found))

  freed_all : freed (lease_calls st past s at) ≤ top
  freed_all = all_freed_low top (lease_calls st past s at) (λ c there. freed_low_by (leader_written c) top (λ l is. leader_low c there l is))
