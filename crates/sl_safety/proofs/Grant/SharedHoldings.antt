-- A shared holding of a session that is not over has stood since a grant of the history, by a ballot or by conversion: the ballot that was
-- won, its mark, and that each later block of the session has the mark too.
use Rattle.sl_area.specs.AreaLayout.{is_base}
use Rattle.sl_ballot_law.specs.Ballots.{BallotEnded}
use Rattle.sl_ballot_law.specs.History.{Block as HistoryBlock, History, Owner as Holder}
use Rattle.sl_run_law.specs.Course.CallStamps.{stamp_in}
use Rattle.sl_safety.proofs.Grant.AliveInHistory.{alive_by}
use Rattle.sl_safety.proofs.Grant.SharedBacking.{IsBacked, is_backed, mode_of}
use Rattle.sl_safety.proofs.Grant.CallNumbersRise.{numbers_rise}
use Rattle.sl_safety.proofs.Grant.ExclusiveGrants.{IsToldOf}
use Rattle.sl_safety.proofs.Grant.LeadersAndFrees.{FreeTold, free_told}
use Rattle.sl_safety.proofs.Grant.ExclusivesAreKept.{came_at, past_within}
use Rattle.sl_safety.proofs.Grant.Marks.{HasMark, RunsThere, front_of_run, marked_after, marked_before}
use Rattle.sl_safety.proofs.Grant.Names.{stood_at}
use Rattle.sl_safety.proofs.Grant.BlocksInTraces.{BlockTold, block_told}
use Rattle.sl_safety.proofs.Grant.LeaseResources.{at_resource, resource_at}
use Rattle.sl_safety.proofs.Grant.HistorySteps.{AnsweredThere, BlockThere, block_answered, block_there}
use Rattle.sl_safety.proofs.Grant.CallsOfWorlds.{IsFront, OfLease, before_in, by_cases, entry_past, in_lease, in_order, lease_was, of_lease, told_made, whole_of}
use Rattle.sl_safety.specs.Grant.HistoryGrants.{ResourceAt, SharedAreShared, SharedAreUnder, SharedThere}
use Rattle.sl_safety.proofs.Holding.HoldingsAreGranted.{holdings_are_granted}
use Rattle.sl_safety.proofs.Holding.Places.{held_on, on_held, the_shared}
use Rattle.sl_safety.proofs.Holding.SharedHoldingsBegin.{shared_holdings_begin}
use Rattle.sl_safety.specs.Holding.HoldingOrigins.{SharedRun}
use Rattle.sl_ballot_law.specs.Grantings.Holdings.{IsSharedTo, SharedGrant}
use Rattle.sl_run.proofs.LawFacts.{orderly-front}
use Rattle.sl_run.specs.Lawful.{Orderly}
use Rattle.sl_trace.specs.Leases.{has_shared_on, is_free_write}
use Rattle.sl_run_law.proofs.Place.Looks.{answered_below}
use Rattle.sl_words.proofs.Numbers.{below_suc, equal_is_most, less_is_most, trans_le}
use Rattle.sl_words.proofs.Options.{some_of}
use Rattle.sl_safety.proofs.Resources.Calls.{holder_is}
use Rattle.sl_safety.specs.Resources.HistoryLaws.{history_of_line, spot_of_line}
use Rattle.sl_safety.specs.Resources.SentCalls.{Sent, holder_of, sent_at, step_of, writes_block}
use Rattle.sl_run.specs.Runs.{Happening}
use Rattle.sl_run.specs.Safety.{Found, IsSession, LawfulRun, SessionId, is_over, setting_in, trace_of, world_at}
use Rattle.sl_run.specs.Worlds.{Program, Stamp, World}
use Rattle.sl_run.specs.declared.header.Header.{Header}
use Rattle.sl_run.specs.declared.header.ResourceLine.{ResourceLine}
use Rattle.sl_trace.specs.Sessions.{me, session_numbered}
use Rattle.sl_trace.specs.Traces.{Setting, Trace, holdings, new_call}
use Rattle.sl_trace.specs.declared.effects.Call.{Call}
use Rattle.sl_trace.specs.declared.effects.Grant.{Grant}
use Rattle.sl_trace.specs.declared.effects.Spot.{Spot}
use Rattle.sl_words.proofs.CaseLaws.{one_value}
use Rattle.std.proofs.Common.{ap, append_assoc, arith, refl, subst, sym, ◌∙◌}
use Rattle.std.specs.Prelude.{Contains, List, Option, Some, false, length, suc, true, ℕ, ◌++◌, ◌<◌, ◌∷◌, ◌≡◌, ◌≤◌}

-- ---- the ballot

-- What has ended by a step has ended by each later one.
ended_later : (H : History) (s v : Holder) (n t u : ℕ) → t ≤ u → BallotEnded H s n v t → BallotEnded H s n v u
ended_later H s v n t u le b =
    record {
      write = b.write;
      writes = b.writes;
      writer = b.writer;
      two = b.two;
      lver = b.lver;
      value = b.value;
      ack = b.ack;
      acked = b.acked;
      read = b.read;
      reads = b.reads;
      after = b.after;
      answer = trans_le (H.answer b.read) t u b.answer le;
      clean = b.clean;
    }

same_steps : (a b c d : ℕ) → a ≤ b → a ≡ c → b ≡ d → c ≤ d
same_steps a b c d le is also = omega (arith, le, is, also)

-- It had ended when the run began.
ballot_ended : (p : Program) (h : Header) (xs : List Happening) (r : ResourceLine) (i : SessionId) (f : Found) → (k : RunsThere p h xs r i f)
    → BallotEnded (history_of_line p h xs r) (holder_of (world_at p h xs) i) k.instance (holder_of (world_at p h xs) i) k.step
ballot_ended p h xs r i f k =
    let w : World = world_at p h xs in
    let H : History = history_of_line p h xs r in
    let st : Setting = setting_in f in
    let b = k.backed.ballot in
    let front : Trace = b.entry ∷ b.past in
    let later : Trace = k.later ++ b.later in
    let whole : trace_of f ≡ later ++ front = k.whole ∙ ap (λ t. k.later ++ t) b.whole ∙ sym (append_assoc k.later b.later front) in
    let at : IsFront p h xs i f front = record { run = k.run; its = k.its; later = later; whole = whole } in
    let c = came_at p h xs k.run i f k.its later b.entry b.past whole in
    let named = stood_at p h xs i f front at (spot_of_line r) b.call (of_lease st front f.session (spot_of_line r) b.call b.of_lease) in
    let differ = k.given.names p h xs r k.run k.there in
    let hosts = k.given.hosts p h xs r k.run k.there in
    let most : length b.past ≤ length k.past =
    below_suc (length b.past) (length k.past) (subst (λ (t : Trace). length b.past < length t) (sym b.whole) (past_within b.later b.past b.entry)) in
    ended_later H (holder_of w i) (holder_of w i) k.instance c.step k.step
    (same_steps c.there.stamp.step k.came.stamp.step c.step k.step
    (in_order p h xs k.run i f k.its (length b.past) (length k.past) c.there.stamp k.came.stamp c.there.stamped k.came.stamped most) c.there.step_is k.came.step_is)
    (subst (λ o. BallotEnded H (holder_of w i) k.instance o c.step) named.name
    (k.given.ended p h xs r k.run k.there differ hosts i f k.its k.joined b.entry b.past c.step c.there k.instance (me front f.session) b.won))

-- ---- from the mark on

same_sent : (o : Option Sent) (x y : Sent) → o ≡ Some x → o ≡ Some y → x ≡ y
same_sent o x y p q = one_value x y o p q

-- The mark, as the history has it.
abbrev mark_of : (p : Program) (h : Header) (xs : List Happening) (r : ResourceLine) (i : SessionId) (f : Found) → (k : RunsThere p h xs r i f)
    → BlockThere p h xs r i f k.backed.mode k.backed.block
mark_of p h xs r i f k =
    block_there p h xs r i f (front_of_run k) k.at k.backed.mode
    (of_lease (setting_in f) (front_of_run k) f.session (spot_of_line r) k.backed.mode k.backed.of_lease) k.backed.block k.backed.wrote

-- A block from the mark's step on has no smaller number.
from_mark : (p : Program) (h : Header) (xs : List Happening) (r : ResourceLine) (i : SessionId) (f : Found) → (k : RunsThere p h xs r i f) → (m : BlockThere p h xs r i f k.backed.mode k.backed.block)
    → (e : ℕ) (t : BlockTold p h xs r f e) → t.call.at < length (front_of_run k) → step_of m.sent.sent ≤ e → k.backed.mode.call.number ≤ t.call.call.number
from_mark p h xs r i f k m e t early le =
    by_cases e (step_of m.sent.sent) (k.backed.mode.call.number ≤ t.call.call.number) same later
  where
    same : e ≤ step_of m.sent.sent → k.backed.mode.call.number ≤ t.call.call.number
    same also =
        let step : step_of m.sent.sent ≡ e = omega (arith, le, also) in
        let one : m.sent.sent ≡ t.sent =
        same_sent (sent_at (world_at p h xs) (spot_of_line r) writes_block e) m.sent.sent t.sent
        (ap (sent_at (world_at p h xs) (spot_of_line r) writes_block) (sym step) ∙ m.found) t.found in
        equal_is_most k.backed.mode.call.number t.call.call.number
        (ap (λ (c : Call). c.number) (sym m.sent.call ∙ m.sent.is.call) ∙ ap (λ (x : Sent). x.course.call.number) one ∙ ap (λ (c : Call). c.number) (sym t.same))

    later : step_of m.sent.sent < e → k.backed.mode.call.number ≤ t.call.call.number
    later less =
        let st : Setting = setting_in f in
        let mode = of_lease st (front_of_run k) f.session (spot_of_line r) k.backed.mode k.backed.of_lease in
        let was = lease_was st k.later (front_of_run k) f.session (spot_of_line r) t.call (subst (λ z. OfLease st z f.session (spot_of_line r) t.call) k.whole t.lease) early in
        let place : k.backed.mode.at < t.call.at =
        before_in p h xs k.run i f k.its k.backed.mode.at t.call.at m.sent.sent.course.made t.sent.course.made (told_made p h xs i f k.backed.mode m.sent) t.made
        (subst (λ n. step_of m.sent.sent < n) (sym t.step) less) in
        let rise = numbers_rise st (front_of_run k) k.named.lawful.is_trace k.backed.mode was.was mode.inside was.lease.inside
        (subst (λ n. k.backed.mode.at < n) (sym was.place) place) in
        less_is_most k.backed.mode.call.number t.call.call.number (subst (λ (c : Call). k.backed.mode.call.number < c.number) was.call rise)

-- Each block of the session from the mark on has it.
marked : (p : Program) (h : Header) (xs : List Happening) (r : ResourceLine) (i : SessionId) (f : Found) → (k : RunsThere p h xs r i f) → (m : BlockThere p h xs r i f k.backed.mode k.backed.block)
    → (e : ℕ) → step_of m.sent.sent ≤ e → (history_of_line p h xs r).writes e ≡ true → (history_of_line p h xs r).writer e ≡ holder_of (world_at p h xs) i
    → (((history_of_line p h xs r).block e).shared ≡ true) × (((history_of_line p h xs r).block e).mode_gen ≡ (holder_of (world_at p h xs) i).generation)
marked p h xs r i f k m e le writes writer =
    let w : World = world_at p h xs in
    let differ = k.given.names p h xs r k.run k.there in
    let t = block_told p h xs k.run r k.there differ i f k.its k.joined e writes writer in
    let mark : HasMark f t.block =
    by_cases (length (front_of_run k)) t.call.at (HasMark f t.block) (λ late. marked_after p h xs r i f k e t late)
    (λ early. marked_before p h xs r i f k e t early (from_mark p h xs r i f k m e t early le)) in (
      ap (λ (b : HistoryBlock). b.shared) t.says ∙ mark.0,
      ap (λ (b : HistoryBlock). b.mode_gen) t.says ∙ mark.1 ∙ ap (λ (o : Holder). o.generation) (sym (holder_is w i f k.its)),
    )

-- ---- no free before the mark's answer

below_most : (a b c d : ℕ) → a < suc b → suc b ≤ c → c ≡ d → a ≤ d
below_most a b c d p q is = omega (arith, p, q, is)

freed_after : (p : Program) (h : Header) (xs : List Happening) (r : ResourceLine) (i : SessionId) (f : Found) → (k : RunsThere p h xs r i f) → (stamp : Stamp)
    → stamp_in f.daemon.stamps k.backed.answer.at ≡ Some stamp → (l : ℕ) → FreeTold p h xs r f k.instance l → stamp.step ≤ l
freed_after p h xs r i f k stamp answered l t =
    subst (λ n. stamp.step ≤ n) t.step
    (in_order p h xs k.run i f k.its k.backed.answer.at t.call.at stamp t.stamp answered t.made
    (by_cases (length (front_of_run k)) t.call.at (k.backed.answer.at ≤ t.call.at) late early))
  where
    mode : OfLease (setting_in f) (front_of_run k) f.session (spot_of_line r) k.backed.mode
    mode = of_lease (setting_in f) (front_of_run k) f.session (spot_of_line r) k.backed.mode k.backed.of_lease

    late : length (front_of_run k) ≤ t.call.at → k.backed.answer.at ≤ t.call.at
    late le = below_most k.backed.answer.at (length k.past) t.call.at t.call.at (answered_below (front_of_run k) k.backed.mode mode.inside k.backed.answer k.backed.done.0) le refl

    early : t.call.at < length (front_of_run k) → k.backed.answer.at ≤ t.call.at
    early less =
        let was = lease_was (setting_in f) k.later (front_of_run k) f.session (spot_of_line r) t.call
        (subst (λ z. OfLease (setting_in f) z f.session (spot_of_line r) t.call) k.whole t.lease) less in
        subst (λ n. k.backed.answer.at ≤ n) was.place
        (k.backed.unfreed was.was (in_lease (setting_in f) (front_of_run k) f.session (spot_of_line r) was.was was.lease)
        (ap (λ (c : Call). is_free_write k.instance (new_call 0 0 c)) was.call ∙ t.free))

-- ---- all of it

shared_to : (p : Program) (h : Header) (xs : List Happening) (r : ResourceLine) (i : SessionId) (f : Found) → (k : RunsThere p h xs r i f) → is_over i f ≡ false
    → (s : SharedGrant) × (s.holder ≡ holder_of (world_at p h xs) i) × IsSharedTo (history_of_line p h xs r) s (world_at p h xs).step × (s.won ≡ k.instance)
shared_to p h xs r i f k alive =
    let w : World = world_at p h xs in
    let H : History = history_of_line p h xs r in
    let st : Setting = setting_in f in
    let b = k.backed in
    let differ = k.given.names p h xs r k.run k.there in
    let hosts = k.given.hosts p h xs r k.run k.there in
    let m : BlockThere p h xs r i f b.mode b.block = mark_of p h xs r i f k in
    let a : AnsweredThere p h xs r f b.answer (step_of m.sent.sent) = block_answered p h xs r i f b.mode b.block m b.answer b.done.0 b.done.1 in
    let past : k.came.stamp.step < w.step = entry_past p h xs k.run i f k.its (length k.past) k.came.stamp k.came.stamped in (
      record { step = k.step; holder = holder_of w i; won = k.instance; mark = step_of m.sent.sent },
      refl,
      record {
        since = less_is_most k.step w.step (subst (λ n. n < w.step) k.came.step_is past);
        ballot = ballot_ended p h xs r i f k;
        writes = m.writes;
        writer = m.writer;
        ack = a.stamp.step;
        acked = a.ok;
        mode = λ e from upto writes writer. marked p h xs r i f k m e from writes writer;
        freed = λ l leads owner lver held.
            freed_after p h xs r i f k a.stamp a.entry l (free_told p h xs k.run r k.there differ i f k.its k.joined k.instance l leads lver owner held);
        alive = alive_by p h xs k.run r differ i f k.its k.joined alive;
      },
      refl,
    )

is_placed : (st : Setting) (es : Trace) → Orderly st es → (g : Grant) → Contains (holdings es) g → is_base st.layout g.offset ≡ true
is_placed st es law g has =
    let from = holdings_are_granted es g has in
    let front : Trace = from.entry ∷ from.past in
    let here : Orderly st front = orderly-front st from.later front (subst (λ z. Orderly st z) from.whole law) in
    let s = some_of (session_numbered st front g.session) (here.granting.0.owned g from.given) in
    (here.granting.0.each g s.0 from.given s.1).placed

-- A run of shared holdings began by a grant of the history.
run_began : IsToldOf → (p : Program) (h : Header) (xs : List Happening) → LawfulRun p h xs → (i : SessionId) (f : Found) → IsSession (world_at p h xs) i f → is_over i f ≡ false
    → (at : Spot) → is_base (setting_in f).layout at.base ≡ true → (q : SharedRun (setting_in f) (trace_of f) f.session at)
    → (y : SharedThere p h xs i at) × (y.grant.won ≡ q.instance)
run_began given p h xs run i f its alive at placed q =
    let st : Setting = setting_in f in
    let front : Trace = q.entry ∷ q.past in
    let k : IsFront p h xs i f front = record { run = run; its = its; later = q.later; whole = q.whole } in
    let c = came_at p h xs run i f its q.later q.entry q.past q.whole in
    let mode = mode_of st q.past front f.session at q.instance q.rests in
    let named = stood_at p h xs i f front k at mode.0 (of_lease st front f.session at mode.0 mode.1) in
    let backed : IsBacked st front f.session at q.instance = is_backed st q.entry q.past named.lawful f.session named.known at q.instance q.rests in
    let a : ResourceAt p h xs i at = resource_at p h xs i f front k at placed backed.mode backed.of_lease backed.block backed.wrote in
    let s = shared_to p h xs a.resource i f
    (record {
      given = given;
      run = run;
      its = its;
      there = a.there;
      joined = a.joined;
      later = q.later;
      entry = q.entry;
      past = q.past;
      whole = q.whole;
      step = c.step;
      came = c.there;
      instance = q.instance;
      backed = at_resource p h xs i at a (λ z. IsBacked st front f.session z q.instance) backed;
      stood = λ newer older same. at_resource p h xs i at a (λ z. has_shared_on (older ++ front) f.session z ≡ true) (q.stood newer older same);
      at = record { front_is = k; there = a.there; joined = a.joined };
      named = named;
    }) alive in
    (record { place = a; grant = s.0; holder = s.1; shared = s.2 }, s.3)

pub shared_are_under_given : IsToldOf → SharedAreUnder
shared_are_under_given given p h xs run i f its alive at g has shared =
    let st : Setting = setting_in f in
    let all = whole_of p h xs run i f its in
    let held = held_on (trace_of f) f.session at g has in
    let q = shared_holdings_begin st (trace_of f) all.lawful f.session all.known at g has shared in
    let placed : is_base st.layout at.base ≡ true =
    subst (λ (z : Spot). is_base st.layout z.base ≡ true) held.spot (is_placed st (trace_of f) all.lawful g held.there) in
    let y = run_began given p h xs run i f its alive at placed q.run in
    (y.0, y.1 ∙ q.under)

pub shared_are_shared_given : IsToldOf → SharedAreShared
shared_are_shared_given given p h xs run i f its alive at has =
    let one = the_shared (trace_of f) f.session at has in
    (shared_are_under_given given p h xs run i f its alive at one.0 (on_held (trace_of f) f.session at one.0 one.1) one.2).0
