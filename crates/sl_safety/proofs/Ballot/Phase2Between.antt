-- Between a block and the next of its session: the block was answered ok, and then a read was submitted, before which the block is the
-- session's last.
use Rattle.sl_safety.proofs.Ballot.Phase2Last.{OwnLast, one_block}
use Rattle.sl_run_law.specs.Course.CallStamps.{AnswersAgree, IsAnsweredAs, IsCourseOf, stamp_in}
use Rattle.sl_run.specs.LawfulBlock.{ReadAfter}
use Rattle.sl_trace.specs.Leases.{is_on}
use Rattle.sl_run_law.proofs.Place.Daemons.{daemons_are_fine, stamp_order}
use Rattle.sl_run_law.proofs.Place.FoundInLists.{finds}
use Rattle.sl_words.proofs.Lists.{find_inside}
use Rattle.sl_words.proofs.Numbers.{both_ways, trans_lt}
use Rattle.sl_safety.proofs.Resources.StepsNameCalls.{block_at_step}
use Rattle.sl_safety.proofs.Resources.LastIsLast.{last_is_last}
use Rattle.sl_safety.proofs.Resources.OwnBlocks.{before_is, is_before}
use Rattle.sl_safety.proofs.Resources.CallParts.{Standing}
use Rattle.sl_safety.specs.Resources.HistoryLaws.{history_of_line, spot_of_line}
use Rattle.sl_safety.specs.Resources.SentCalls.{Sent, all_sent, is_block_before, last_block_before, sender_of, step_of, writes_block}
use Rattle.sl_run.specs.Runs.{Happening}
use Rattle.sl_run.specs.Safety.{LawfulRun, world_at}
use Rattle.sl_run.specs.Worlds.{Course, Daemon, Machine, Program, Stamp, World, daemons_on, machine_at}
use Rattle.sl_run.specs.declared.header.Header.{Header}
use Rattle.sl_run.specs.declared.header.ResourceLine.{ResourceLine}
use Rattle.sl_trace.specs.Traces.{Submitted, is_ok_answer}
use Rattle.sl_trace.specs.declared.effects.Spot.{Spot}
use Rattle.std.proofs.Common.{ap, subst, sym, ◌∙◌}
use Rattle.std.specs.Prelude.{Bool, Contains, List, None, Option, Some, false, option_and_then, option_map, true, ℕ, ◌<◌, ◌≡◌, ◌≤◌}

-- ---- answered ok

-- A call that was answered ok by a step.
pub record Acked (y : Sent) (step : ℕ) : Type 0 where
  pub stamp : Stamp
  pub answered : y.course.answered ≡ Some stamp
  pub done : y.course.done ≡ true
  pub by : stamp.step ≤ step

pub acked_by : (p : Program) (h : Header) (xs : List Happening) → LawfulRun p h xs → (m : ℕ) (a : Machine) (d : Daemon) → machine_at (world_at p h xs) m ≡ Some a
    → Contains (daemons_on a) d → (y : Sent) (write : Submitted) → IsCourseOf d y.course write → (read : Submitted) (c : Course) → stamp_in d.stamps read.at ≡ Some c.made
    → ReadAfter write read → Acked y c.made.step
acked_by p h xs run m a d at has y write pair read c made after =
    let heard : IsAnsweredAs d y.course after.answer = subst (λ o. AnswersAgree d y.course o) after.answered.0 pair.answers in
    record {
      stamp = heard.stamp;
      answered = heard.answered;
      done = heard.done ∙ ap (λ x. is_ok_answer x) after.answered.1;
      by = stamp_order (world_at p h xs).step d.stamps after.answer.at read.at heard.stamp c.made (daemons_are_fine p h xs run m a d at has).stamps heard.entry made after.later;
    }

abbrev ok_by : Bool → Option Stamp → Option ℕ
ok_by b o = elim b [ true ↦ option_map (λ s. s.step) o | false ↦ None ]

-- The history has the answer.
pub ok_is : (p : Program) (h : Header) (xs : List Happening) → LawfulRun p h xs → (r : ResourceLine) → Contains h.resources r → (y : Sent) → Contains (all_sent (world_at p h xs)) y
    → is_on (world_at p h xs).layout (spot_of_line r) y.course.call ≡ true → writes_block y.course ≡ true → (n : ℕ) → (k : Acked y n)
    → (history_of_line p h xs r).ok (step_of y) ≡ Some k.stamp.step
ok_is p h xs run r there y has on writes n k =
    ap (λ (o : Option Sent). option_and_then (λ (x : Sent). ok_by x.course.done x.course.answered) o) (block_at_step p h xs run r there y has on writes)
    ∙ ap (λ b. ok_by b y.course.answered) k.done ∙ ap (λ o. ok_by true o) k.answered

-- ---- the last before a read

-- Of a session's calls after its last block before another call, that block is the last before each.
pub last_between : (p : Program) (h : Header) (xs : List Happening) → LawfulRun p h xs → (r : ResourceLine) → Contains h.resources r → (x : Sent)
    → (s : Standing (world_at p h xs) x) (write : Submitted) → (y : OwnLast (world_at p h xs) (spot_of_line r) x s write) → (z : Sent) → sender_of z ≡ sender_of x
    → step_of y.sent < step_of z → step_of z < step_of x → last_block_before (world_at p h xs) (spot_of_line r) (sender_of z) (step_of z) ≡ Some y.sent
last_between p h xs run r there x s write y z same after before =
    let w : World = world_at p h xs in
    let at : Spot = spot_of_line r in
    let P : Sent → Bool = is_block_before w at (sender_of z) (step_of z) in
    let passes : P y.sent ≡ true = before_is w at z y.sent after y.on y.writes (y.sender ∙ sym same) in
    let f = finds P (all_sent w) y.sent passes y.has in
    let its = find_inside P (all_sent w) f.0 f.1 in
    let g = is_before w at z f.0 its.1 in
    let up : step_of y.sent ≤ step_of f.0 = last_is_last p h xs run at (sender_of z) (step_of z) y.sent f.0 f.1 y.has passes in
    let down : step_of f.0 ≤ step_of y.sent = y.newest f.0 its.0 g.on g.writes (g.sender ∙ same) (trans_lt (step_of f.0) (step_of z) (step_of x) g.less before) in
    f.1 ∙ ap (λ v. Some v) (one_block p h xs run r there f.0 y.sent its.0 y.has g.on y.on g.writes y.writes (both_ways (step_of f.0) (step_of y.sent) down up))
