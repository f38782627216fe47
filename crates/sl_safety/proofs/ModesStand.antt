-- A shared holder's mode stands in its host's block, and stood there at each front at which an instance above its own had begun.
--
-- Who begins an instance above that of a shared holding does so after the holder's mark was answered: so wherever a front has the one, the
-- mark stands there too, or a block that was sent later and tells the same.
use Rattle.sl_ballot_law.specs.History.{History}
use Rattle.sl_run_law.proofs.Course.MachinesMirror.{machines_mirror}
use Rattle.sl_run_law.specs.Course.CallStamps.{stamp_in}
use Rattle.sl_run_law.proofs.Front.RunsFromFronts.{fronts_are_lawful}
use Rattle.sl_safety.proofs.Grant.CallsOfWorlds.{IsFront, IsTold, OfLease, entry_past, of_lease, told, told_made, told_on, told_wrote}
use Rattle.sl_safety.proofs.Grant.GrantLaws.{shared_are_under}
use Rattle.sl_safety.specs.Grant.HistoryGrants.{SharedThere}
use Rattle.sl_ballot_law.proofs.Grantings.GrantsMeet.{marks_come}
use Rattle.sl_id_safety.proofs.OverIsQuiet.{GoesOn, goes_on}
use Rattle.sl_id_safety.proofs.State.LaterFrames.{found_later}
use Rattle.sl_trace.specs.Leases.{Phase1_write, block_written, is_at, is_on, lease_calls}
use Rattle.sl_run_law.proofs.Moment.MomentsFollowSteps.{kept_past}
use Rattle.sl_run_law.proofs.Moment.Stamps.{answer_is_stamp}
use Rattle.sl_run_law.specs.Moment.MomentsFollowSteps.{Of_stamp}
use Rattle.sl_words.proofs.Lists.{any_found}
use Rattle.sl_safety.proofs.Resources.Calls.{sent_there, holder_is}
use Rattle.sl_safety.proofs.Resources.StepsNameCalls.{block_at_step}
use Rattle.sl_safety.proofs.Resources.WritesHaveBases.{writes_at}
use Rattle.sl_safety.proofs.Resources.BlockOrigins.{block_of_step}
use Rattle.sl_safety.specs.Resources.Histories.{is_host}
use Rattle.sl_safety.specs.Resources.HistoryLaws.{history_of_line, spot_of_line}
use Rattle.sl_safety.specs.Resources.SentCalls.{Sent, all_sent, block_of_course, step_of}
use Rattle.sl_run.specs.Runs.{Happening}
use Rattle.sl_run.specs.Safety.{Found, HoldsShared, IsSession, LawfulRun, SessionId, SharedModeStands, SharedModeStood, ShowsMode, begins_above, block_there, setting_in, trace_of, world_at}
use Rattle.sl_run.specs.Worlds.{Program, Stamp, World}
use Rattle.sl_run.specs.declared.header.Header.{Header}
use Rattle.sl_run.specs.declared.header.ResourceLine.{ResourceLine}
use Rattle.sl_safety.proofs.HistoriesAreLawful.{are_lawful}
use Rattle.sl_safety.proofs.SharedMarks.{mark_sent, mode_stands, sent_before}
use Rattle.sl_safety.specs.Histories.{HistoriesKeepInstances}
use Rattle.sl_sector.specs.declared.sector.Block.{Block}
use Rattle.sl_safety.proofs.Sessions.FollowingJoins.{stamps_stay}
use Rattle.sl_safety.proofs.Sessions.NamesAreApart.{joined_are_hosts}
use Rattle.sl_safety.proofs.Sessions.OrderedFronts.{nothing_more}
use Rattle.sl_trace.specs.Traces.{Setting, Submitted}
use Rattle.sl_trace.specs.declared.effects.Grant.{Grant}
use Rattle.sl_trace.specs.declared.effects.Spot.{Spot}
use Rattle.sl_words.proofs.CaseLaws.{false_is_true, one_value}
use Rattle.sl_words.proofs.WordLaws.{and_true}
use Rattle.sl_words.specs.Words.{some_is}
use Rattle.std.proofs.Common.{ap, arith, refl, subst, sym, tests, ◌∙◌}
use Rattle.std.specs.Prelude.{Contains, IsTrue, List, None, Option, Some, [], is_some, nat_lt, true, ℕ, ◌&&◌, ◌++◌, ◌<◌, ◌≡◌, ◌≤◌}

-- ---- where the mark was answered

-- At a front that the mark's answer has come before the mode stands.
abbrev Showing : Program → Header → List Happening → List Happening → Type 0
Showing p h now ys =
    LawfulRun p h ys → (i : SessionId) (f : Found) → IsSession (world_at p h ys) i f → (at : Spot) (y : SharedThere p h ys i at)
    → y.shared.ack ≤ (world_at p h now).step → ShowsMode (world_at p h now) f at

showing : (p : Program) (h : Header) (now rest : List Happening) → Showing p h now (now ++ rest)
showing p h now rest run i f its at y early b spells =
    let w : World = world_at p h (now ++ rest) in
    let r : ResourceLine = y.place.resource in
    let name = y.holder ∙ holder_is w i f its in
    let host : is_host w y.grant.holder.id ≡ true =
    subst (λ n. is_host w n ≡ true) (ap (λ o. o.id) (sym y.holder)) (joined_are_hosts p h (now ++ rest) r run y.place.there i y.place.joined) in
    let there : block_there (world_at p h now) (spot_of_line r) y.grant.holder.id ≡ Some b =
    ap (λ (s : Spot). block_there (world_at p h now) s y.grant.holder.id) (sym y.place.spot) ∙ ap (λ n. block_there (world_at p h now) at n) (ap (λ o. o.id) name) ∙ spells in
    let says = mode_stands p h now rest run r y.place.there y.grant host y.shared early b there in
    (says.0, says.1 ∙ ap (λ o. o.generation) name)

showing_at : (p : Program) (h : Header) (now rest xs : List Happening) → now ++ rest ≡ xs → Showing p h now xs
showing_at p h now rest xs whole = subst (λ ys. Showing p h now ys) whole (showing p h now rest)

-- ---- after each run

less_is : (a b c : ℕ) → a ≡ b → a < c → b ≤ c
less_is a b c e h = omega (arith, e, h)

-- The mark was answered before the run's end.
answered_before : (p : Program) (h : Header) (xs : List Happening) → LawfulRun p h xs → (i : SessionId) (at : Spot) (y : SharedThere p h xs i at)
    → y.shared.ack ≤ (world_at p h xs).step
answered_before p h xs run i at y =
    let w : World = world_at p h xs in
    let m = mark_sent p h xs y.place.resource y.grant w.step y.shared in
    let k = sent_there w m.sent m.block.sent in
    let past = kept_past p h xs run m.stamp.step m.stamp.moment
    (Of_stamp m.sent.machine k.machine m.stamp k.at (answer_is_stamp k.machine m.sent.course m.stamp k.has m.answered) refl refl) in
    less_is m.stamp.step y.shared.ack w.step m.at past.0

pub modes_stand : (p : Program) (h : Header) (xs : List Happening) → LawfulRun p h xs → SharedModeStands (world_at p h xs)
modes_stand p h xs run i f at held holds =
    let y = (shared_are_under p h xs run i f holds.0 holds.1 at held holds.2 holds.3).0 in
    showing_at p h xs [] xs (nothing_more xs) run i f holds.0 at y (answered_before p h xs run i at y)

-- ---- where an instance above has begun

more_than : (n : ℕ) (o : Option Block) → some_is (λ (b : Block). nat_lt n b.lver) o ≡ true → (b : Block) × (o ≡ Some b) × (n < b.lver)
more_than n None is = absurd (false_is_true is)
more_than n (Some b) is = (b, refl, grind (arith, tests))

-- A block of an instance above n that a session has sent.
record BegunAbove (p : Program) (h : Header) (now rest : List Happening) (r : ResourceLine) (n : ℕ) : Type 0 where
  sent : Sent
  has : Contains (all_sent (world_at p h (now ++ rest))) sent
  on : is_on (world_at p h (now ++ rest)).layout (spot_of_line r) sent.course.call ≡ true
  block : Block
  says : block_of_course sent.course ≡ Some block
  above : n < block.lver
  early : step_of sent < (world_at p h now).step

begun_above : (p : Program) (h : Header) (now rest : List Happening) → LawfulRun p h (now ++ rest) → (k : SessionId) (g : Found) → IsSession (world_at p h now) k g
    → (r : ResourceLine) (n : ℕ) → IsTrue (begins_above g (spot_of_line r) n) → BegunAbove p h now rest r n
begun_above p h now rest run k g its r n begins =
    let front = fronts_are_lawful p h now rest run in
    let at : Spot = spot_of_line r in
    let c = any_found (λ (m : Submitted). is_at Phase1_write m && some_is (λ (b : Block). nat_lt n b.lver) (block_written m)) (lease_calls (setting_in g) (trace_of g) g.session at) begins in
    let b = more_than n (block_written c.0) (and_true (is_at Phase1_write c.0) (some_is (λ (x : Block). nat_lt n x.lver) (block_written c.0)) c.2).1 in
    let o : OfLease (setting_in g) (trace_of g) g.session at c.0 = of_lease (setting_in g) (trace_of g) g.session at c.0 c.1 in
    let l = found_later machines_mirror p h now rest run k g its in
    let on : GoesOn p h now rest k g l.found = goes_on p h now rest run k g l.found its l.at in
    let whole : IsFront p h (now ++ rest) k l.found (trace_of g) = record { run = run; its = l.at; later = on.newer; whole = on.trace } in
    let t : IsTold p h (now ++ rest) k l.found c.0 =
    told p h (now ++ rest) k l.found (trace_of g) whole c.0 o.inside (o.mine ∙ ap (λ s. s.number) (sym on.session)) in
    let then : IsFront p h now k g (trace_of g) = record { run = front; its = its; later = []; whole = refl } in
    let u : IsTold p h now k g c.0 = told p h now k g (trace_of g) then c.0 o.inside o.mine in
    let was : stamp_in g.daemon.stamps c.0.at ≡ Some u.sent.course.made = told_made p h now k g c.0 u in
    let made : t.sent.course.made ≡ u.sent.course.made =
    one_value t.sent.course.made u.sent.course.made (stamp_in l.found.daemon.stamps c.0.at) (told_made p h (now ++ rest) k l.found c.0 t)
    (ap (λ ss. stamp_in ss c.0.at) on.stamped ∙ stamps_stay on.stamps g.daemon.stamps c.0.at u.sent.course.made was) in
    record {
      sent = t.sent;
      has = t.has;
      on = told_on p h (now ++ rest) k l.found (trace_of g) whole c.0 t at (ap (λ (st : Setting). is_on st.layout at c.0.call) on.setting ∙ o.on);
      block = b.0;
      says = told_wrote p h (now ++ rest) k l.found c.0 t b.0 b.1;
      above = b.2;
      early = subst (λ (s : Stamp). s.step < (world_at p h now).step) (sym made) (entry_past p h now front k g its c.0.at u.sent.course.made was);
    }

-- It was sent after the mark was answered.
begun_later : HistoriesKeepInstances → (p : Program) (h : Header) (now rest : List Happening) → LawfulRun p h (now ++ rest) → (i : SessionId) (at : Spot)
    → (y : SharedThere p h (now ++ rest) i at) → BegunAbove p h now rest y.place.resource y.grant.won → y.shared.ack ≤ (world_at p h now).step
begun_later instances_given p h now rest run i at y b =
    let w : World = world_at p h (now ++ rest) in
    let r : ResourceLine = y.place.resource in
    let H : History = history_of_line p h (now ++ rest) r in
    let e : ℕ = step_of b.sent in
    let writes : H.writes e ≡ true =
    writes_at p h (now ++ rest) r e b.sent (block_at_step p h (now ++ rest) run r y.place.there b.sent b.has b.on (ap (λ o. is_some o) b.says)) in
    let lver : (H.block e).lver ≡ b.block.lver = ap (λ c. c.lver) (block_of_step p h (now ++ rest) run r y.place.there b.sent b.block b.has b.on b.says) in
    let before : e < w.step = sent_before p h (now ++ rest) run b.sent b.has in
    let above = b.above in
    let early = b.early in
    let late = marks_come H (are_lawful p h (now ++ rest) r run y.place.there) (instances_given p h (now ++ rest) r run y.place.there) y.grant w.step y.shared y.shared.ack e
    y.shared.acked writes (omega (arith, before)) (subst (λ n. y.grant.won < n) (sym lver) above) in
    omega (arith, late, early)

-- So the mode stood.
abbrev Stood : Program → Header → List Happening → List Happening → Type 0
Stood p h now ys =
    LawfulRun p h ys → (i k : SessionId) (f g : Found) (at : Spot) (held : Grant) → HoldsShared (world_at p h ys) i f at held → IsSession (world_at p h now) k g
    → IsTrue (begins_above g at held.lver) → ShowsMode (world_at p h now) f at

stood : HistoriesKeepInstances → (p : Program) (h : Header) (now rest : List Happening) → Stood p h now (now ++ rest)
stood instances_given p h now rest run i k f g at held holds its begins =
    let y = shared_are_under p h (now ++ rest) run i f holds.0 holds.1 at held holds.2 holds.3 in
    let above : IsTrue (begins_above g (spot_of_line y.0.place.resource) y.0.grant.won) =
    ap (λ (s : Spot). begins_above g s y.0.grant.won) (sym y.0.place.spot) ∙ ap (λ n. begins_above g at n) y.1 ∙ begins in
    showing p h now rest run i f holds.0 at y.0
    (begun_later instances_given p h now rest run i at y.0 (begun_above p h now rest run k g its y.0.place.resource y.0.grant.won above))

pub modes_stood_given : HistoriesKeepInstances → (p : Program) (h : Header) (xs : List Happening) → LawfulRun p h xs → SharedModeStood p h xs
modes_stood_given instances_given p h xs run now rest whole i k f e at held holds its begins =
    (subst (λ ys. Stood p h now ys) (sym whole) (stood instances_given p h now rest)) run i k f e at held holds its begins
