-- A shared holder's mode stands in its host's block from when its mark was answered.
--
-- The holder's mark was answered ok: so what its host's block spells was submitted no earlier, and from the mark on all blocks of the host
-- are marks of the holder.
use Rattle.sl_ballot_law.specs.History.{History}
use Rattle.sl_ballot_law.specs.Theorems.{IsMark}
use Rattle.sl_ballot_law.proofs.Grantings.GrantsMeet.{marks_last}
use Rattle.sl_ballot_law.specs.Grantings.Holdings.{IsSharedTo, SharedGrant}
use Rattle.sl_run_law.proofs.Landing.CallsMadeBefore.{run_made_before}
use Rattle.sl_safety.proofs.Resources.Calls.{sent_there}
use Rattle.sl_safety.proofs.Resources.WritesHaveBases.{writer_is}
use Rattle.sl_safety.proofs.Resources.AtSteps.{block_at, ok_is, wrote}
use Rattle.sl_safety.proofs.Resources.BlockOrigins.{block_of_step}
use Rattle.sl_safety.specs.Resources.Histories.{is_host}
use Rattle.sl_safety.specs.Resources.Orders.{BlockSent}
use Rattle.sl_safety.specs.Resources.HistoryLaws.{history_of_line, spot_of_line}
use Rattle.sl_safety.specs.Resources.SentCalls.{Sent, all_sent, block_of_course, step_of}
use Rattle.sl_run.specs.Runs.{Happening}
use Rattle.sl_run.specs.Safety.{LawfulRun, block_there, world_at}
use Rattle.sl_run.specs.Worlds.{Program, Stamp, World}
use Rattle.sl_run.specs.declared.header.Header.{Header}
use Rattle.sl_run.specs.declared.header.ResourceLine.{ResourceLine}
use Rattle.sl_safety.proofs.HistoriesAreLawful.{are_lawful}
use Rattle.sl_safety.proofs.GivenReads.ReadsAreGiven.{reads_are_given}
use Rattle.sl_safety.specs.Resources.Reads.{SentSince}
use Rattle.sl_sector.specs.declared.sector.Block.{Block}
use Rattle.sl_safety.proofs.Sessions.FollowingSessions.{sessions_follow}
use Rattle.std.proofs.Common.{ap, arith, refl, subst, sym, ◌∙◌}
use Rattle.std.specs.Prelude.{Contains, List, Some, true, ℕ, ◌++◌, ◌<◌, ◌≡◌, ◌≤◌}

-- ---- the mark

-- The mark of a shared holder, as it was sent.
pub record MarkSent (w : World) (r : ResourceLine) (s : SharedGrant) (ack : ℕ) : Type 0 where
  pub sent : Sent
  pub block : BlockSent w r s.holder.id sent
  pub step : step_of sent ≡ s.mark
  pub done : sent.course.done ≡ true
  pub stamp : Stamp
  pub answered : sent.course.answered ≡ Some stamp
  pub at : stamp.step ≡ ack

pub mark_sent : (p : Program) (h : Header) (xs : List Happening) (r : ResourceLine) (s : SharedGrant) (t : ℕ) → (is : IsSharedTo (history_of_line p h xs r) s t)
    → MarkSent (world_at p h xs) r s is.ack
mark_sent p h xs r s t is =
    let w : World = world_at p h xs in
    let b = block_at w r s.mark is.writes in
    let told = ok_is w r s.mark is.ack b is.acked in
    record {
      sent = b.sent;
      block = record {
        sent = b.is.sent;
        on = b.is.on;
        block = b.block;
        host = ap (λ o. o.id) (sym (writer_is p h xs r s.mark b.sent b.found) ∙ is.writer);
      };
      step = b.is.step_is;
      done = told.0;
      stamp = told.1;
      answered = told.2;
      at = told.3;
    }

-- ---- a block after it

-- A call of a world was made before.
pub sent_before : (p : Program) (h : Header) (xs : List Happening) → LawfulRun p h xs → (x : Sent) → Contains (all_sent (world_at p h xs)) x
    → step_of x < (world_at p h xs).step
sent_before p h xs run x there =
    let k = sent_there (world_at p h xs) x there in
    (run_made_before p h xs run x.machine k.machine x.course k.at k.has).0

-- What a holder's block says.
abbrev pub SaysShared : SharedGrant → Block → Type 0
SaysShared s b = (b.shared ≡ true) × (b.mode_gen ≡ s.holder.generation)

-- A block of the holder's host that isn't older than the mark is a mark.
says_shared : (p : Program) (h : Header) (xs : List Happening) → LawfulRun p h xs → (r : ResourceLine) → Contains h.resources r
    → (s : SharedGrant) → IsSharedTo (history_of_line p h xs r) s (world_at p h xs).step → (y : Sent) → BlockSent (world_at p h xs) r s.holder.id y → (b : Block)
    → block_of_course y.course ≡ Some b → s.mark ≤ step_of y → SaysShared s b
says_shared p h xs run r there s is y block b says since =
    let w : World = world_at p h xs in
    let H : History = history_of_line p h xs r in
    let before : step_of y < w.step = sent_before p h xs run y block.sent in
    let mark : IsMark H s.holder (step_of y) =
    marks_last H (are_lawful p h xs r run there) s w.step is (step_of y) (wrote p h xs run r there s.holder.id y block.sent block.on block.block block.host) since
    (omega (arith, before)) in
    let same = block_of_step p h xs run r there y b block.sent block.on says in
    (ap (λ c. c.shared) (sym same) ∙ mark.shared, ap (λ c. c.mode_gen) (sym same) ∙ mark.generation)

-- ---- what stands

-- At each front that the mark's answer has come before.
pub mode_stands : (p : Program) (h : Header) (now rest : List Happening) → LawfulRun p h (now ++ rest) → (r : ResourceLine)
    → Contains h.resources r → (s : SharedGrant) → is_host (world_at p h (now ++ rest)) s.holder.id ≡ true
    → (is : IsSharedTo (history_of_line p h (now ++ rest) r) s (world_at p h (now ++ rest)).step) → is.ack ≤ (world_at p h now).step → (b : Block)
    → block_there (world_at p h now) (spot_of_line r) s.holder.id ≡ Some b → SaysShared s b
mode_stands p h now rest run r there s host is early b spells =
    let w : World = world_at p h (now ++ rest) in
    let m : MarkSent w r s is.ack = mark_sent p h (now ++ rest) r s w.step is in
    let y : SentSince w r s.holder.id b m.sent =
    (reads_are_given p h (now ++ rest) r run there).stands now rest refl s.holder.id host (sessions_follow p h (now ++ rest) r run there s.holder.id) m.sent m.block m.done m.stamp
    m.answered (subst (λ (n : ℕ). n ≤ (world_at p h now).step) (sym m.at) early) b spells in
    says_shared p h (now ++ rest) run r there s is y.sent y.block b y.says (subst (λ (n : ℕ). n ≤ step_of y.sent) m.step y.since)
