-- A step of a lease names its call, and a call is work by its step; who works has joined, and holders name sessions.
use Rattle.sl_safety.proofs.Resources.Calls.{IsOwned, IsWork, Newer, Older, Order, Same, found_as, found_in_daemon, found_of, found_on, made_of, numbered_at, on_spot, order, owned, owner_found, owner_layout, same_entry, sent_is, spot_is, stood}
use Rattle.sl_area.specs.AreaSizes.{Layout}
use Rattle.sl_ballot_law.specs.History.{Owner as Holder}
use Rattle.sl_run_law.proofs.Course.CallsAreDistinct.{each_distinct}
use Rattle.sl_run_law.specs.Course.CallStamps.{AnswersAgree, IsAnsweredAs, IsCourseOf}
use Rattle.sl_run_law.proofs.Front.JoinedLists.{in_flat}
use Rattle.sl_run_law.proofs.Landing.CallLists.{one_call}
use Rattle.sl_run.specs.Lawful.{Orderly}
use Rattle.sl_run.specs.LawfulArea.{LawfulAreaWrite, is_area_work, is_block_work, is_delta_record, is_of_format}
use Rattle.sl_run_law.proofs.Leases.TurnLaws.{one_at_a_time}
use Rattle.sl_run_law.specs.Leases.LeaseLaws.{WasAnsweredBy}
use Rattle.sl_trace.specs.Leases.{block_of_record, is_block_read, is_on, leader_of_record, spot_of_call}
use Rattle.sl_run_law.proofs.Moment.MachinesInOrder.{entries_ordered, fall_front}
use Rattle.sl_run_law.proofs.Place.Areas.{one_resource}
use Rattle.sl_run_law.proofs.Place.Daemons.{daemons_are_fine, stamp_order}
use Rattle.sl_run_law.proofs.Place.FoundInLists.{finds, same_text}
use Rattle.sl_run_law.proofs.Place.LandingsAtHome.{at_home}
use Rattle.sl_run_law.proofs.Place.VerifiedAreas.{IsLeased, verified_leased}
use Rattle.sl_run_law.proofs.Place.SessionNumbers.{session_number}
use Rattle.sl_run_law.proofs.Place.PlaceLaws.{promised}
use Rattle.sl_run_law.proofs.Place.TracesOnMachines.{call_law, session_inside}
use Rattle.sl_words.proofs.Lists.{contains_map, find_inside, got_inside}
use Rattle.sl_words.proofs.Options.{some_there}
use Rattle.sl_safety.proofs.Resources.OneSessionStands.{Stands, given_differ, one_stands}
use Rattle.sl_safety.proofs.Resources.StepsNameEntries.{call_timed, calls_apart, one_daemon, one_entry}
use Rattle.sl_safety.specs.Resources.HistoryLaws.{NamesDiffer, spot_of_line}
use Rattle.sl_safety.specs.Resources.SentCalls.{Sent, all_names, all_sent, began_at, holder_of, is_counted_read, is_joined_there, names_in, read_at, reads_blocks, reads_enough, same_holder, sender_of, sent_at, session_of_holder, step_of, writes_block, writes_leader}
use Rattle.sl_run.specs.Runs.{Happening}
use Rattle.sl_run.specs.Safety.{Found, LawfulRun, SessionId, session_of_world, trace_of, world_at}
use Rattle.sl_run.specs.Worlds.{Course, Daemon, Machine, Program, World, daemon_numbered, daemons_on, machine_at}
use Rattle.sl_run.specs.declared.header.Header.{Header}
use Rattle.sl_run.specs.declared.header.ResourceLine.{ResourceLine}
use Rattle.sl_run_law.proofs.MachineWalk.{index, number_within}
use Rattle.sl_sector.specs.declared.sector.Block.{Block}
use Rattle.sl_sector.specs.declared.sector.Rec.TheVariants.{BlockIs, DeltaIs, LeaderIs, PairIs, PairLeaderIs, RequestIs, ValueIs}
use Rattle.sl_sector.specs.declared.sector.Rec.{Rec}
use Rattle.sl_run_law.proofs.Sessions.CallsAreMade.{calls_are_made}
use Rattle.sl_run_law.proofs.Sessions.MarksStay.{joined_more, stays}
use Rattle.sl_run_law.specs.Sessions.SessionLaws.{IsMade, IsSession, front_of, made_as}
use Rattle.sl_trace.specs.Sessions.{joined_after, session_numbered, sessions}
use Rattle.sl_trace.specs.declared.session.Session.{Session}
use Rattle.sl_trace.specs.Traces.{Submitted, Trace, is_write, new_call, record_of, submitted}
use Rattle.sl_trace.specs.declared.effects.Call.{Call}
use Rattle.sl_trace.specs.declared.effects.Op.TheVariants.{ReadSectors, WriteRecord}
use Rattle.sl_trace.specs.declared.effects.Op.{Op}
use Rattle.sl_trace.specs.declared.effects.Purpose.TheVariants.{Joining, Lease, Leaving, Renewal, RequestRead, RequestWrite, SeeRequest, Survey, ValueRead, ValueWrite}
use Rattle.sl_trace.specs.declared.effects.Purpose.{Purpose}
use Rattle.sl_trace.specs.declared.effects.Spot.{Spot}
use Rattle.sl_words.proofs.CaseLaws.{false_is_true, none_some, one_value, some_value, true_is_false}
use Rattle.sl_words.proofs.WordLaws.{and_true, some_is_true}
use Rattle.sl_words.specs.Words.{some_is}
use Rattle.std.proofs.Common.{ap, arith, refl, subst, sym, ◌∙◌}
use Rattle.std.proofs.lemmas.Bool.{and_from, eq-eqb, eqb-true, or_left, or_right}
use Rattle.std.proofs.lemmas.Slice.Eq.{bytes_eq-Decides}
use Rattle.std.specs.List.{enumerate_from}
use Rattle.std.specs.Prelude.{Bool, Contains, IsTrue, List, None, Option, Some, [], bytes_eq, false, find, flat_map, is_some, option_and_then, option_map, true, ℕ, ◌&&◌, ◌++◌, ◌+◌, ◌-◌, ◌<◌, ◌==◌, ◌∷◌, ◌≡◌, ◌≤◌}

-- ---- steps name calls

-- A call of a daemon with its session, on an area.
pub record IsTurn (a : Machine) (d : Daemon) (at : Spot) (c : Course) (q : Submitted) (s : Session) : Type 0 where
  pub has : Contains a.calls c
  pub inside : Contains (submitted d.trace) q
  pub is : IsCourseOf d c q
  pub its : IsSession d.setting d.trace s
  pub mine : q.call.session ≡ s.number
  pub work : is_block_work q ≡ true
  pub area : is_area_work q.call.purpose ≡ true
  pub on : is_on d.setting.layout at q.call ≡ true
  pub spot : spot_of_call d.setting.layout q ≡ at

late_by : (a b s : ℕ) → a ≡ b → s ≤ a → b < s → ⊥
late_by a b s same le lt = omega (arith, same, le, lt)

-- The older of two calls of one step was not answered when the newer was made.
not_answered : (p : Program) (h : Header) (xs : List Happening) → LawfulRun p h xs → (m : ℕ) (a : Machine) (d : Daemon) → machine_at (world_at p h xs) m ≡ Some a
    → Contains (daemons_on a) d → (at : Spot) (c e : Course) (q k : Submitted) (s t : Session) → IsTurn a d at c q s → IsTurn a d at e k t → c.made.step ≡ e.made.step → WasAnsweredBy k q → ⊥
not_answered p h xs run m a d here has at c e q k s t one two same by =
    let told : IsAnsweredAs d e by.answer = subst (λ o. AnswersAgree d e o) by.answered two.is.answers in
    let le : told.stamp.step ≤ c.made.step =
    stamp_order (world_at p h xs).step d.stamps by.answer.at q.at told.stamp c.made (daemons_are_fine p h xs run m a d here has).stamps told.entry one.is.made by.by in
    late_by c.made.step e.made.step told.stamp.step same le ((call_timed p h xs run m a e here two.has).answered told.stamp told.answered)

answered_before : (d : Daemon) (a : Machine) (at : Spot) (c e : Course) (q k : Submitted) (s t : Session) → Orderly d.setting d.trace → IsTurn a d at c q s → IsTurn a d at e k t
    → s ≡ t → (newer between older : List Submitted) → submitted d.trace ≡ newer ++ q ∷ (between ++ k ∷ older) → WasAnsweredBy k q
answered_before d a at c e q k s t law one two same newer between older is =
    one_at_a_time d.setting d.trace law newer between older q k is (one.mine ∙ ap (λ (x : Session). x.number) same ∙ sym two.mine) one.work one.area two.work two.area
    (subst (λ y. IsTrue (is_on d.setting.layout y k.call)) (sym one.spot) two.on)

turn_order : (p : Program) (h : Header) (xs : List Happening) → LawfulRun p h xs → (m : ℕ) (a : Machine) (d : Daemon) → machine_at (world_at p h xs) m ≡ Some a
    → Contains (daemons_on a) d → Orderly d.setting d.trace → (at : Spot) (c e : Course) (q k : Submitted) (s t : Session) → IsTurn a d at c q s → IsTurn a d at e k t → c.made.step ≡ e.made.step
    → s ≡ t → Order (submitted d.trace) q k → q ≡ k
turn_order p h xs run m a d here has law at c e q k s t one two same session (Same is) = is
turn_order p h xs run m a d here has law at c e q k s t one two same session (Newer newer between older is) =
    absurd (not_answered p h xs run m a d here has at c e q k s t one two same (answered_before d a at c e q k s t law one two session newer between older is))
turn_order p h xs run m a d here has law at c e q k s t one two same session (Older newer between older is) =
    absurd (not_answered p h xs run m a d here has at e c k q t s two one (sym same) (answered_before d a at e c k q t s law two one (sym session) newer between older is))

-- Two calls of a daemon on one area, made at one step for sessions of one lockspace, are one.
one_turn : (p : Program) (h : Header) (xs : List Happening) → LawfulRun p h xs → (m : ℕ) (a : Machine) (d : Daemon) → machine_at (world_at p h xs) m ≡ Some a
    → Contains (daemons_on a) d → Orderly d.setting d.trace → (at : Spot) (c e : Course) (q k : Submitted) (s t : Session) → IsTurn a d at c q s → IsTurn a d at e k t → c.made.step ≡ e.made.step
    → s.lockspace ≡ t.lockspace → c ≡ e
one_turn p h xs run m a d here has law at c e q k s t one two same name =
    let es : Trace = d.trace in
    let i : IsMade es q = calls_are_made es q one.inside in
    let j : IsMade es k = calls_are_made es k two.inside in
    let index : q.at ≡ k.at =
    one_entry (world_at p h xs).step d.stamps q.at k.at c.made e.made
    (fall_front (world_at p h xs).step d.stamps (d.begun ∷ []) (entries_ordered p h xs run m a d here has)) one.is.made two.is.made same in
    let entry : i.entry ∷ i.past ≡ j.entry ∷ j.past = same_entry es q k i j index in
    let first = call_law d.setting es s q i law one.its one.mine in
    let other = call_law d.setting es t k j law two.its two.mine in
    let session : s ≡ t =
    one_stands d.setting (j.entry ∷ j.past) s t other.0 (given_differ p h xs run m a d here has)
    (subst (λ u. IsSession d.setting u s) entry (ap (λ n. session_numbered d.setting (i.entry ∷ i.past) n) (sym one.mine) ∙ first.1))
    (ap (λ n. session_numbered d.setting (j.entry ∷ j.past) n) (sym two.mine) ∙ other.1) name
    (subst (λ u. Stands u s) entry (stood d.setting es s q i law one.its one.mine one.area)) (stood d.setting es t k j law two.its two.mine two.area) in
    let call : q ≡ k =
    turn_order p h xs run m a d here has law at c e q k s t one two same session (order (submitted es) q k one.inside two.inside) in
    one_call a.calls c e (each_distinct p h xs run m a here) one.has two.has
    (eq-eqb c.call.number e.call.number (ap (λ x. x.number) (sym one.is.call) ∙ ap (λ (x : Submitted). x.call.number) call ∙ ap (λ x. x.number) two.is.call))

pub turn_of : (p : Program) (h : Header) (xs : List Happening) → LawfulRun p h xs → (r : ResourceLine) → Contains h.resources r → (x : Sent) (k : IsWork (world_at p h xs) r x)
    → IsTurn k.owned.there.machine k.owned.trace.daemon (spot_of_line r) x.course k.owned.trace.submitted_as k.owned.session
turn_of p h xs run r there x k =
    let o = k.owned in
    let q : Submitted = o.trace.submitted_as in
    let layout = owner_layout p h xs run x o in
    let on : is_on (world_at p h xs).layout (spot_of_line r) q.call ≡ true = ap (is_on (world_at p h xs).layout (spot_of_line r)) o.trace.is.call ∙ k.on in
    record {
      has = o.there.has;
      inside = o.trace.inside;
      is = o.trace.is;
      its = o.its;
      mine = o.mine;
      work = ap (λ c. is_block_work (new_call 0 0 c)) o.trace.is.call ∙ k.work;
      area = ap (λ (c : Call). is_area_work c.purpose) o.trace.is.call ∙ k.area;
      on = subst (λ (g : Layout). is_on g (spot_of_line r) q.call ≡ true) (sym layout) on;
      spot = ap (λ (g : Layout). spot_of_call g q) layout ∙ spot_is p h xs run r there q on;
    }

-- Two calls of one step that work on a resource's blocks are one.
pub steps_name : (p : Program) (h : Header) (xs : List Happening) → LawfulRun p h xs → (r : ResourceLine) → Contains h.resources r → (x y : Sent)
    → IsWork (world_at p h xs) r x → IsWork (world_at p h xs) r y → step_of x ≡ step_of y → x ≡ y
steps_name p h xs run r there x y one two same =
    let w : World = world_at p h xs in
    let a : Machine = one.owned.there.machine in
    let d : Daemon = one.owned.trace.daemon in
    let b : Machine = two.owned.there.machine in
    let e : Daemon = two.owned.trace.daemon in
    let number : y.machine ≡ x.machine =
    calls_apart p h xs run y.machine x.machine b a y.course x.course two.owned.there.at one.owned.there.at two.owned.there.has one.owned.there.has (sym same) in
    let machine : b ≡ a = one_value b a (machine_at w x.machine) (ap (machine_at w) (sym number) ∙ two.owned.there.at) one.owned.there.at in
    let has : Contains (daemons_on a) e = subst (λ z. Contains (daemons_on z) e) machine two.owned.trace.has in
    let daemon : e ≡ d =
    one_daemon p h xs run x.machine a e d one.owned.there.at has one.owned.trace.has two.owned.trace.submitted_as.at one.owned.trace.submitted_as.at y.course.made x.course.made
    two.owned.trace.is.made one.owned.trace.is.made (sym same) in
    let turn : IsTurn a d (spot_of_line r) y.course two.owned.trace.submitted_as two.owned.session =
    subst (λ z. IsTurn a z (spot_of_line r) y.course two.owned.trace.submitted_as two.owned.session) daemon
    (subst (λ z. IsTurn z e (spot_of_line r) y.course two.owned.trace.submitted_as two.owned.session) machine (turn_of p h xs run r there y two)) in
    sent_is x y (sym number)
    (one_turn p h xs run x.machine a d one.owned.there.at one.owned.trace.has one.owned.trace.lawful (spot_of_line r) x.course y.course one.owned.trace.submitted_as
    two.owned.trace.submitted_as one.owned.session two.owned.session (turn_of p h xs run r there x one) turn same (one.lockspace ∙ sym two.lockspace))

-- ---- what is work

pub write_is : (o : Op) (r : Rec) → record_of o ≡ Some r → is_write o ≡ true
write_is (ReadSectors n) r h = absurd (none_some r h)
write_is (WriteRecord s) r h = refl

-- A session that writes on a resource's area is of its lockspace.
leased_of : (p : Program) (h : Header) (xs : List Happening) → LawfulRun p h xs → (r : ResourceLine) → Contains h.resources r → (x : Sent) (o : IsOwned (world_at p h xs) x)
    → is_on (world_at p h xs).layout (spot_of_line r) x.course.call ≡ true → (rec : Rec) → LawfulAreaWrite o.trace.daemon.setting (front_of (made_of o)) o.session (made_as (made_of o)) rec
    → o.session.lockspace ≡ r.lockspace
leased_of p h xs run r there x o on rec write =
    let w : World = world_at p h xs in
    let q : Submitted = o.trace.submitted_as in
    let k : IsLeased h w o.session q write.resource =
    verified_leased p h xs promised run x.machine o.there.machine o.trace.daemon o.there.at o.trace.has o.trace.lawful o.session o.its q (made_of o) x.course.made o.trace.is.made
    (λ l inside early. at_home p h xs promised run l inside) write.resource write.verified in
    let s = on_spot p h xs run r there q.call (ap (is_on w.layout (spot_of_line r)) o.trace.is.call ∙ on) in
    k.lockspace ∙ ap (λ l. l.lockspace) (one_resource h k.line r run.header k.there there (sym k.path ∙ s.0) (sym k.base ∙ s.1))

-- A write of any record but a delta record.
pub write_works : (p : Program) (h : Header) (xs : List Happening) → LawfulRun p h xs → (r : ResourceLine) → Contains h.resources r → (x : Sent)
    → Contains (all_sent (world_at p h xs)) x → is_on (world_at p h xs).layout (spot_of_line r) x.course.call ≡ true → (rec : Rec) → record_of x.course.call.op ≡ Some rec
    → is_delta_record rec ≡ false → IsWork (world_at p h xs) r x
write_works p h xs run r there x sent on rec writes other =
    let o = owned p h xs run x sent in
    let d = made_of o in
    let q : Submitted = o.trace.submitted_as in
    let law = call_law o.trace.daemon.setting o.trace.daemon.trace o.session q d o.trace.lawful o.its o.mine in
    let write = law.0.area.0.writes d.index q.call o.session d.call law.1 rec (ap (λ (c : Call). record_of c.op) o.trace.is.call ∙ writes) other in
    record {
      owned = o;
      on = on;
      work = or_left (is_write x.course.call.op) (is_block_read (new_call 0 0 x.course.call)) (write_is x.course.call.op rec writes);
      area = ap (λ (c : Call). is_area_work c.purpose) (sym o.trace.is.call) ∙ write.0;
      lockspace = leased_of p h xs run r there x o on rec write.1;
    }

-- What a call writes is no delta record, if it is a block, or a leader.
abbrev pub Other : Option Rec → Type 0
Other o = (r : Rec) × (o ≡ Some r) × (is_delta_record r ≡ false)

other_block : (o : Option Rec) → is_some (option_and_then block_of_record o) ≡ true → Other o
other_block None h = absurd (false_is_true h)
other_block (Some (BlockIs b)) h = (BlockIs b, refl, refl)
other_block (Some (PairIs q)) h = (PairIs q, refl, refl)
other_block (Some (LeaderIs l)) h = absurd (false_is_true h)
other_block (Some (PairLeaderIs l)) h = absurd (false_is_true h)
other_block (Some (DeltaIs l)) h = absurd (false_is_true h)
other_block (Some (RequestIs l)) h = absurd (false_is_true h)
other_block (Some (ValueIs l)) h = absurd (false_is_true h)

-- The record of a call that writes a block.
pub record_sent : (c : Course) → writes_block c ≡ true → Other (record_of c.call.op)
record_sent c h = other_block (record_of c.call.op) h

other_leader : (o : Option Rec) → is_some (option_and_then leader_of_record o) ≡ true → Other o
other_leader None h = absurd (false_is_true h)
other_leader (Some (LeaderIs l)) h = (LeaderIs l, refl, refl)
other_leader (Some (PairLeaderIs l)) h = (PairLeaderIs l, refl, refl)
other_leader (Some (BlockIs l)) h = absurd (false_is_true h)
other_leader (Some (PairIs q)) h = absurd (false_is_true h)
other_leader (Some (DeltaIs l)) h = absurd (false_is_true h)
other_leader (Some (RequestIs l)) h = absurd (false_is_true h)
other_leader (Some (ValueIs l)) h = absurd (false_is_true h)

-- A block is that of its record.
block_by : (o : Option Rec) → is_some (option_and_then block_of_record o) ≡ true → (b : Block) × (rec : Rec) × (o ≡ Some rec) × (block_of_record rec ≡ Some b)
block_by None h = absurd (false_is_true h)
block_by (Some rec) h = let b = some_there (block_of_record rec) h in (b.0, rec, refl, b.1)

-- Where each host's block has one sector, a block that is written is a block's record.
some_block : (g : Layout) → g.paired ≡ false → (o : Option Rec) → ((r : Rec) → o ≡ Some r → is_delta_record r ≡ false → is_of_format g r ≡ true)
    → is_some (option_and_then block_of_record o) ≡ true → (b : Block) × (o ≡ Some (BlockIs b))
some_block g plain None format h = absurd (false_is_true h)
some_block g plain (Some (BlockIs b)) format h = (b, refl)
some_block g plain (Some (PairIs q)) format h = absurd (true_is_false (sym (format (PairIs q) refl refl) ∙ plain))
some_block g plain (Some (LeaderIs l)) format h = absurd (false_is_true h)
some_block g plain (Some (PairLeaderIs l)) format h = absurd (false_is_true h)
some_block g plain (Some (DeltaIs l)) format h = absurd (false_is_true h)
some_block g plain (Some (RequestIs l)) format h = absurd (false_is_true h)
some_block g plain (Some (ValueIs l)) format h = absurd (false_is_true h)

-- A record that is written is of the areas' format.
pub sent_format : (p : Program) (h : Header) (xs : List Happening) → LawfulRun p h xs → (x : Sent) → Contains (all_sent (world_at p h xs)) x → (rec : Rec)
    → record_of x.course.call.op ≡ Some rec → is_delta_record rec ≡ false → is_of_format (world_at p h xs).layout rec ≡ true
sent_format p h xs run x sent rec writes other =
    let o = owned p h xs run x sent in
    let d = made_of o in
    let q : Submitted = o.trace.submitted_as in
    let law = call_law o.trace.daemon.setting o.trace.daemon.trace o.session q d o.trace.lawful o.its o.mine in
    let layout = (promised.of_world p h xs run x.machine o.there.machine o.trace.daemon o.there.at o.trace.has).layout in
    ap (λ (g : Layout). is_of_format g rec) (sym layout)
    ∙ (law.0.area.0.writes d.index q.call o.session d.call law.1 rec (ap (λ (c : Call). record_of c.op) o.trace.is.call ∙ writes) other).1.format

pub plain_block_sent : (p : Program) (h : Header) (xs : List Happening) → LawfulRun p h xs → (world_at p h xs).layout.paired ≡ false → (x : Sent) → Contains (all_sent (world_at p h xs)) x
    → writes_block x.course ≡ true → (b : Block) × (record_of x.course.call.op ≡ Some (BlockIs b))
plain_block_sent p h xs run plain x sent is =
    some_block (world_at p h xs).layout plain (record_of x.course.call.op) (λ rec writes other. sent_format p h xs run x sent rec writes other) is

pub block_works : (p : Program) (h : Header) (xs : List Happening) → LawfulRun p h xs → (r : ResourceLine) → Contains h.resources r → (x : Sent)
    → Contains (all_sent (world_at p h xs)) x → is_on (world_at p h xs).layout (spot_of_line r) x.course.call ≡ true → writes_block x.course ≡ true → IsWork (world_at p h xs) r x
block_works p h xs run r there x sent on is = let b = record_sent x.course is in write_works p h xs run r there x sent on b.0 b.1 b.2

pub leader_works : (p : Program) (h : Header) (xs : List Happening) → LawfulRun p h xs → (r : ResourceLine) → Contains h.resources r → (x : Sent)
    → Contains (all_sent (world_at p h xs)) x → is_on (world_at p h xs).layout (spot_of_line r) x.course.call ≡ true → writes_leader x.course ≡ true → IsWork (world_at p h xs) r x
leader_works p h xs run r there x sent on is = let l = other_leader (record_of x.course.call.op) is in write_works p h xs run r there x sent on l.0 l.1 l.2

abbrev reads_for : Purpose → Bool
reads_for p = is_block_read (new_call 0 0 (record { number = 0; session = 0; purpose = p; path = []; offset = 0; op = ReadSectors 0 }))

lease_area : (m : Submitted) (p : Purpose) → m.call.purpose ≡ p → is_block_read m ≡ true → is_area_work p ≡ true
lease_area m (Lease work step) is h = refl
lease_area m (RequestRead j) is h = refl
lease_area m (RequestWrite j o) is h = refl
lease_area m (ValueWrite j) is h = refl
lease_area m (ValueRead j) is h = refl
lease_area m (Joining j step) is h = absurd (false_is_true (sym (ap reads_for is) ∙ h))
lease_area m Renewal is h = absurd (false_is_true (sym (ap reads_for is) ∙ h))
lease_area m Survey is h = absurd (false_is_true (sym (ap reads_for is) ∙ h))
lease_area m (Leaving j) is h = absurd (false_is_true (sym (ap reads_for is) ∙ h))
lease_area m SeeRequest is h = absurd (false_is_true (sym (ap reads_for is) ∙ h))

some_is_of : {A : Type 0} (p : A → Bool) (o : Option A) (a : A) → o ≡ Some a → some_is p o ≡ true → p a ≡ true
some_is_of p o a is h = ap (λ (q : Option _). some_is p q) (sym is) ∙ h

-- A read of all blocks by a joined session of the lockspace.
pub read_works : (p : Program) (h : Header) (xs : List Happening) → LawfulRun p h xs → (r : ResourceLine) → (x : Sent)
    → Contains (all_sent (world_at p h xs)) x → is_on (world_at p h xs).layout (spot_of_line r) x.course.call ≡ true
    → is_counted_read (world_at p h xs) r.lockspace x ≡ true → IsWork (world_at p h xs) r x
read_works p h xs run r x sent on counted =
    let w : World = world_at p h xs in
    let o = owned p h xs run x sent in
    let all = and_true (reads_blocks x.course && x.course.done) (is_joined_there w r.lockspace (sender_of x)) counted in
    let reads = (and_true (reads_blocks x.course) x.course.done all.0).0 in
    let joined = some_is_of (λ (f : Found). bytes_eq f.session.lockspace r.lockspace && is_some (joined_after (trace_of f) f.session))
    (session_of_world w (sender_of x)) (found_of o) (owner_found w x o) all.1 in
    record {
      owned = o;
      on = on;
      work = or_right (is_write x.course.call.op) (is_block_read (new_call 0 0 x.course.call)) reads;
      area = lease_area (new_call 0 0 x.course.call) x.course.call.purpose refl reads;
      lockspace = same_text o.session.lockspace r.lockspace (and_true (bytes_eq o.session.lockspace r.lockspace) _ joined).0;
    }

-- ---- calls by their steps

pub finds_it : {A : Type 0} (p : A → Bool) (xs : List A) (x : A) → Contains xs x → p x ≡ true → ((y : A) → Contains xs y → p y ≡ true → y ≡ x) → find p xs ≡ Some x
finds_it p xs x there is only =
    let f = finds p xs x is there in
    let its = find_inside p xs f.0 f.1 in
    f.1 ∙ ap (λ y. Some y) (only f.0 its.0 its.1)

-- A call that was sent to a resource's area.
pub record IsSentTo (w : World) (r : ResourceLine) (step : ℕ) (x : Sent) : Type 0 where
  pub sent : Contains (all_sent w) x
  pub step_is : step_of x ≡ step
  pub on : is_on w.layout (spot_of_line r) x.course.call ≡ true

-- What is found at a step.
pub found_at : (w : World) (r : ResourceLine) (q : Course → Bool) (step : ℕ) (x : Sent) → sent_at w (spot_of_line r) q step ≡ Some x → IsSentTo w r step x × (q x.course ≡ true)
found_at w r q step x is =
    let f = find_inside (λ (y : Sent). step_of y == step && is_on w.layout (spot_of_line r) y.course.call && q y.course) (all_sent w) x is in
    let all = and_true (step_of x == step && is_on w.layout (spot_of_line r) x.course.call) (q x.course) f.1 in
    let two = and_true (step_of x == step) (is_on w.layout (spot_of_line r) x.course.call) all.0 in
    (record { sent = f.0; step_is = eqb-true (step_of x) step two.0; on = two.1 }, all.1)

-- A call with which a read ended that began at this step.
pub record IsEndAt (w : World) (r : ResourceLine) (step : ℕ) (x : Sent) : Type 0 where
  pub sent : Contains (all_sent w) x
  pub began : began_at w (spot_of_line r) x ≡ step
  pub on : is_on w.layout (spot_of_line r) x.course.call ≡ true
  pub enough : reads_enough w.layout x.course ≡ true

pub found_read : (w : World) (r : ResourceLine) (step : ℕ) (x : Sent) → read_at w (spot_of_line r) r.lockspace step ≡ Some x
    → IsEndAt w r step x × (is_counted_read w r.lockspace x ≡ true)
found_read w r step x is =
    let at : Spot = spot_of_line r in
    let f = find_inside (λ (y : Sent). began_at w at y == step && is_on w.layout at y.course.call && is_counted_read w r.lockspace y && reads_enough w.layout y.course) (all_sent w) x is in
    let all = and_true (began_at w at x == step && is_on w.layout at x.course.call && is_counted_read w r.lockspace x) (reads_enough w.layout x.course) f.1 in
    let three = and_true (began_at w at x == step && is_on w.layout at x.course.call) (is_counted_read w r.lockspace x) all.0 in
    let two = and_true (began_at w at x == step) (is_on w.layout at x.course.call) three.0 in
    (record { sent = f.0; began = eqb-true (began_at w at x) step two.0; on = two.1; enough = all.1 }, three.1)

three : (a b c : Bool) → a ≡ true → b ≡ true → c ≡ true → (a && b && c) ≡ true
three a b c x y z = and_from _ _ (and_from _ _ x y) z

only_at : (p : Program) (h : Header) (xs : List Happening) → LawfulRun p h xs → (r : ResourceLine) → Contains h.resources r → (q : Course → Bool) → (x : Sent)
    → Contains (all_sent (world_at p h xs)) x → is_on (world_at p h xs).layout (spot_of_line r) x.course.call ≡ true → q x.course ≡ true
    → ((y : Sent) → Contains (all_sent (world_at p h xs)) y → is_on (world_at p h xs).layout (spot_of_line r) y.course.call ≡ true → q y.course ≡ true → IsWork (world_at p h xs) r y)
    → sent_at (world_at p h xs) (spot_of_line r) q (step_of x) ≡ Some x
only_at p h xs run r there q x sent on is work =
    let w : World = world_at p h xs in
    finds_it (λ (y : Sent). step_of y == step_of x && is_on w.layout (spot_of_line r) y.course.call && q y.course) (all_sent w) x sent
    (three _ _ _ (eq-eqb (step_of x) (step_of x) refl) on is)
    (λ y inside passes.
    let all = and_true (step_of y == step_of x && is_on w.layout (spot_of_line r) y.course.call) (q y.course) passes in
    let two = and_true (step_of y == step_of x) (is_on w.layout (spot_of_line r) y.course.call) all.0 in
    steps_name p h xs run r there y x (work y inside two.1 all.1) (work x sent on is) (eqb-true (step_of y) (step_of x) two.0))

-- A block that was sent is the one of its step; and so is a leader.
pub block_at_step : (p : Program) (h : Header) (xs : List Happening) → LawfulRun p h xs → (r : ResourceLine) → Contains h.resources r → (x : Sent)
    → Contains (all_sent (world_at p h xs)) x → is_on (world_at p h xs).layout (spot_of_line r) x.course.call ≡ true → writes_block x.course ≡ true
    → sent_at (world_at p h xs) (spot_of_line r) writes_block (step_of x) ≡ Some x
block_at_step p h xs run r there x sent on is = only_at p h xs run r there writes_block x sent on is (λ y inside at block. block_works p h xs run r there y inside at block)

pub leader_at_step : (p : Program) (h : Header) (xs : List Happening) → LawfulRun p h xs → (r : ResourceLine) → Contains h.resources r → (x : Sent)
    → Contains (all_sent (world_at p h xs)) x → is_on (world_at p h xs).layout (spot_of_line r) x.course.call ≡ true → writes_leader x.course ≡ true
    → sent_at (world_at p h xs) (spot_of_line r) writes_leader (step_of x) ≡ Some x
leader_at_step p h xs run r there x sent on is = only_at p h xs run r there writes_leader x sent on is (λ y inside at leader. leader_works p h xs run r there y inside at leader)

-- ---- who works has joined

pub text_same : (a b : List ℕ) → a ≡ b → bytes_eq a b ≡ true
text_same a b h = (bytes_eq-Decides a b).1 h

-- Its session is a joined one of the lockspace.
pub worker_joined : (p : Program) (h : Header) (xs : List Happening) → (r : ResourceLine) (x : Sent) → IsWork (world_at p h xs) r x
    → is_joined_there (world_at p h xs) r.lockspace (sender_of x) ≡ true
worker_joined p h xs r x k =
    let w : World = world_at p h xs in
    let o = k.owned in
    let d = made_of o in
    let q : Submitted = o.trace.submitted_as in
    let stands = stood o.trace.daemon.setting o.trace.daemon.trace o.session q d o.trace.lawful o.its o.mine (ap (λ (c : Call). is_area_work c.purpose) o.trace.is.call ∙ k.area) in
    let joined : joined_after o.trace.daemon.trace o.session ≡ Some stands.entries =
    subst (λ t. joined_after t o.session ≡ Some stands.entries) (sym d.whole) (stays joined_after joined_more d.later (d.entry ∷ d.past) o.session stands.entries stands.joined) in
    ap (λ (f : Option Found). some_is (λ (g : Found). bytes_eq g.session.lockspace r.lockspace && is_some (joined_after (trace_of g) g.session)) f) (owner_found w x o)
    ∙ and_from _ _ (text_same o.session.lockspace r.lockspace k.lockspace) (ap (λ n. is_some n) joined)

-- ---- holders name sessions

daemon_by : (now : ℕ) (i : SessionId) (f : Found) (a : Machine) (d : Daemon) (o : Option Session) → (d.number == i.daemon) ≡ true
    → option_map (λ (s : Session). found_as now a d s) o ≡ Some f → f.daemon.number ≡ i.daemon
daemon_by now i f a d None same is = absurd (none_some f is)
daemon_by now i f a d (Some s) same is = ap (λ (x : Found). x.daemon.number) (sym (some_value (found_as now a d s) f is)) ∙ eqb-true d.number i.daemon same

daemon_of : (now : ℕ) (i : SessionId) (f : Found) (a : Machine) (o : Option Daemon) → daemon_numbered a i.daemon ≡ o
    → option_and_then (found_in_daemon now a i.number) o ≡ Some f → f.daemon.number ≡ i.daemon
daemon_of now i f a None at is = absurd (none_some f is)
daemon_of now i f a (Some d) at is =
    daemon_by now i f a d (session_numbered d.setting d.trace i.number) (find_inside (λ (x : Daemon). x.number == i.daemon) (daemons_on a) d at).1 is

daemon_in : (now : ℕ) (i : SessionId) (f : Found) (o : Option Machine) → option_and_then (found_on now i.daemon i.number) o ≡ Some f → f.daemon.number ≡ i.daemon
daemon_in now i f None is = absurd (none_some f is)
daemon_in now i f (Some a) is = daemon_of now i f a (daemon_numbered a i.daemon) refl is

-- The daemon of a session that is found has the number that was meant, and the session too.
pub numbers_meant : (w : World) (i : SessionId) (f : Found) → session_of_world w i ≡ Some f → (f.daemon.number ≡ i.daemon) × (f.session.number ≡ i.number)
numbers_meant w i f is =
    (daemon_in w.moment i f (machine_at w i.machine) is, session_number f.daemon.setting f.daemon.trace i.number f.session (session_inside w i f is).its)

abbrev pub named : ℕ → ℕ → ℕ → SessionId
named m d n = record { machine = m; daemon = d; number = n }

pub name_is : (m d n m' d' n' : ℕ) → m ≡ m' → d ≡ d' → n ≡ n' → named m d n ≡ named m' d' n'
name_is m d n m' d' n' p q r = ap (λ x. named x d n) p ∙ ap (λ x. named m' x n) q ∙ ap (λ x. named m' d' x) r

-- A session that is found is one of the world's.
found_name : (w : World) (i : SessionId) (f : Found) → session_of_world w i ≡ Some f → Contains (all_names w) i
found_name w i f is =
    let k = session_inside w i f is in
    let meant = numbers_meant w i f is in
    let n : 1 + (i.machine - 1) ≡ i.machine = (number_within w i.machine f.machine k.at).1 in
    let s : Session = f.session in
    subst (λ (x : SessionId). Contains (all_names w) x) (name_is (1 + (i.machine - 1)) f.daemon.number s.number i.machine i.daemon i.number n meant.0 meant.1)
    (in_flat (λ (p : ℕ × Machine). flat_map (names_in p.0) (daemons_on p.1)) (enumerate_from 1 w.machines) (1 + (i.machine - 1), f.machine) _
    (numbered_at 1 w.machines (i.machine - 1) f.machine (index w i.machine f.machine k.at).1)
    (in_flat (names_in (1 + (i.machine - 1))) (daemons_on f.machine) f.daemon _ k.has
    (contains_map (λ (x : Session). named (1 + (i.machine - 1)) f.daemon.number x.number) (sessions f.daemon.setting f.daemon.trace) s
    (got_inside (sessions f.daemon.setting f.daemon.trace) i.number s k.its))))

joined_name : (w : World) (lockspace : List ℕ) (i : SessionId) → is_joined_there w lockspace i ≡ true → Contains (all_names w) i
joined_name w lockspace i is =
    let f = some_is_true (λ (g : Found). bytes_eq g.session.lockspace lockspace && is_some (joined_after (trace_of g) g.session)) (session_of_world w i) is in
    found_name w i f.0 f.1

holder_same : (o : Holder) → same_holder o o ≡ true
holder_same o = and_from _ _ (eq-eqb o.id o.id refl) (eq-eqb o.generation o.generation refl)

holders_are : (o q : Holder) → same_holder o q ≡ true → o ≡ q
holders_are o q h =
    let both = and_true (o.id == q.id) (o.generation == q.generation) h in
    ap (λ n. let x : Holder = record { id = n; generation = o.generation } in x) (eqb-true o.id q.id both.0)
    ∙ ap (λ n. let x : Holder = record { id = q.id; generation = n } in x) (eqb-true o.generation q.generation both.1)

-- Where joined sessions have different names the one that is named so is found.
pub holder_named : (w : World) (lockspace : List ℕ) → NamesDiffer w lockspace → (i : SessionId) → is_joined_there w lockspace i ≡ true
    → session_of_holder w lockspace (holder_of w i) ≡ Some i
holder_named w lockspace differ i is =
    finds_it (λ (k : SessionId). is_joined_there w lockspace k && same_holder (holder_of w k) (holder_of w i)) (all_names w) i (joined_name w lockspace i is)
    (and_from _ _ is (holder_same (holder_of w i)))
    (λ k inside passes.
    let both = and_true (is_joined_there w lockspace k) (same_holder (holder_of w k) (holder_of w i)) passes in
    differ k i both.0 is (holders_are (holder_of w k) (holder_of w i) both.1))
