-- A block that was answered ok is of no later instance than the one that stands in its host's place now.
use Rattle.sl_ballot_law.proofs.BlockLaws.{blocks_grow}
use Rattle.sl_ballot_law.specs.Disk.{Wrote}
use Rattle.sl_ballot_law.specs.History.{Block as HistoryBlock, History}
use Rattle.sl_safety.proofs.GivenReads.ReadsAreGiven.{reads_are_given}
use Rattle.sl_safety.proofs.Resources.BlockOrigins.{block_by}
use Rattle.sl_safety.proofs.Resources.AtSteps.{IsBlockAt, block_at, ok_is, wrote}
use Rattle.sl_safety.proofs.Resources.Calls.{sent_there}
use Rattle.sl_safety.proofs.Resources.StepsNameCalls.{block_at_step, block_works, worker_joined}
use Rattle.sl_safety.proofs.Sessions.FollowingSessions.{sessions_follow}
use Rattle.sl_safety.proofs.Sessions.NamesAreApart.{joined_are_hosts}
use Rattle.sl_safety.specs.Resources.Histories.{history_block, is_host}
use Rattle.sl_safety.specs.Resources.Orders.{BlockSent}
use Rattle.sl_safety.specs.Resources.HistoryLaws.{history_of_line, spot_of_line}
use Rattle.sl_safety.specs.Resources.Reads.{SentSince}
use Rattle.sl_safety.specs.Resources.SentCalls.{Sent, all_sent, block_of_course, holder_of, sender_of, sent_at, step_of, writes_block}
use Rattle.sl_words.proofs.Numbers.{both_ways, less_is_most}
use Rattle.sl_headline.proofs.Quiet.Start.InstancesAreLow.{OkAreLow}
use Rattle.sl_run.specs.Runs.{Happening}
use Rattle.sl_run.specs.Safety.{LawfulRun, block_there, world_at}
use Rattle.sl_run.specs.Worlds.{Program, Stamp, World}
use Rattle.sl_run.specs.declared.header.Header.{Header}
use Rattle.sl_run.specs.declared.header.ResourceLine.{ResourceLine}
use Rattle.sl_run_law.proofs.Moment.MomentsFollowSteps.{kept_past}
use Rattle.sl_run_law.proofs.Moment.Stamps.{answer_is_stamp}
use Rattle.sl_run_law.specs.Moment.MomentsFollowSteps.{Of_stamp}
use Rattle.sl_safety.proofs.HistoriesAreLawful.{are_lawful}
use Rattle.sl_sector.specs.declared.sector.Block.{Block}
use Rattle.sl_trace.specs.Leases.{is_on}
use Rattle.std.proofs.Common.{ap, arith, inl, inr, refl, subst, sym}
use Rattle.std.proofs.lemmas.Bool.{cases_lt}
use Rattle.std.proofs.lemmas.List.{append-nil}
use Rattle.std.specs.Prelude.{Contains, List, Some, is_some, true, [], ℕ, ◌<◌, ◌≡◌, ◌≤◌, ◌⊎◌}

-- A block that the history has, as its call says.
pub block_shown : (p : Program) (h : Header) (xs : List Happening) → LawfulRun p h xs → (r : ResourceLine) → Contains h.resources r → (x : Sent) (b : Block) → Contains (all_sent (world_at p h xs)) x
    → is_on (world_at p h xs).layout (spot_of_line r) x.course.call ≡ true → block_of_course x.course ≡ Some b → (history_of_line p h xs r).block (step_of x) ≡ history_block b
block_shown p h xs run r there x b sent on is =
    block_by (sent_at (world_at p h xs) (spot_of_line r) writes_block (step_of x)) x b (block_at_step p h xs run r there x sent on (ap (λ o. is_some o) is)) is

-- The sender is of one of the run's hosts.
sender_host : (p : Program) (h : Header) (xs : List Happening) → LawfulRun p h xs → (r : ResourceLine) → Contains h.resources r → (x : Sent) → Contains (all_sent (world_at p h xs)) x
    → is_on (world_at p h xs).layout (spot_of_line r) x.course.call ≡ true → writes_block x.course ≡ true → is_host (world_at p h xs) (holder_of (world_at p h xs) (sender_of x)).id ≡ true
sender_host p h xs run r there x sent on block = joined_are_hosts p h xs r run there (sender_of x) (worker_joined p h xs r x (block_works p h xs run r there x sent on block))

-- An answer came before now.
answered_by : (p : Program) (h : Header) (xs : List Happening) → LawfulRun p h xs → (x : Sent) → Contains (all_sent (world_at p h xs)) x → (s : Stamp) → x.course.answered ≡ Some s
    → s.step ≤ (world_at p h xs).step
answered_by p h xs run x has s is =
    let k = sent_there (world_at p h xs) x has in
    less_is_most s.step (world_at p h xs).step (kept_past p h xs run s.step s.moment (Of_stamp x.machine k.machine s k.at (answer_is_stamp k.machine x.course s k.has is) refl refl)).0

low_enough : (a b n : ℕ) → a ≤ b → b ≤ n → a ≤ n
low_enough a b n le low = omega (arith, le, low)

pub ok_are_low : (p : Program) (h : Header) (xs : List Happening) → LawfulRun p h xs → (r : ResourceLine) → Contains h.resources r → (n : ℕ)
    → ((k : ℕ) → is_host (world_at p h xs) k ≡ true → (b : Block) × (block_there (world_at p h xs) (spot_of_line r) k ≡ Some b) × (b.lver ≤ n)) → OkAreLow (history_of_line p h xs r) n
ok_are_low p h xs run r there n stands e a writes ok = subst (λ i. (y.block i).lver ≤ n) (b.is).step_is (by (cases_lt (step_of x) (step_of last.sent))) where
  w : World
  w = world_at p h xs

  y : History
  y = history_of_line p h xs r

  b : IsBlockAt w r e
  b = block_at w r e writes

  x : Sent
  x = b.sent

  k : ℕ
  k = (holder_of w (sender_of x)).id

  host : is_host w k ≡ true
  host = sender_host p h xs run r there x (b.is).sent (b.is).on b.block

  sent : BlockSent w r k x
  sent = record { sent = (b.is).sent; on = (b.is).on; block = b.block; host = refl }

  answer : Stamp
  answer = (ok_is w r e a b ok).1

  answered : x.course.answered ≡ Some answer
  answered = (ok_is w r e a b ok).2

  early : answer.step ≤ w.step
  early = answered_by p h xs run x (b.is).sent answer answered

  now : (c : Block) × (block_there w (spot_of_line r) k ≡ Some c) × (c.lver ≤ n)
  now = stands k host

  last : SentSince w r k now.0 x
  last =
      (reads_are_given p h xs r run there).stands xs [] (sym (append-nil xs)) k host (sessions_follow p h xs r run there k) x sent (ok_is w r e a b ok).0 answer answered early now.0 now.1

  last_low : (y.block (step_of last.sent)).lver ≤ n
  last_low = subst (λ (c : HistoryBlock). c.lver ≤ n) (sym (block_shown p h xs run r there last.sent now.0 (last.block).sent (last.block).on last.says)) now.2

  mine : Wrote y k (step_of x)
  mine = wrote p h xs run r there k x (b.is).sent (b.is).on b.block refl

  its : Wrote y k (step_of last.sent)
  its = wrote p h xs run r there k last.sent (last.block).sent (last.block).on (last.block).block (last.block).host

  by : (step_of x < step_of last.sent) ⊎ (step_of last.sent ≤ step_of x) → (y.block (step_of x)).lver ≤ n
  by (inl later) =
      low_enough (y.block (step_of x)).lver (y.block (step_of last.sent)).lver n
      (blocks_grow y (are_lawful p h xs r run there) k (step_of x) (step_of last.sent) mine its later (inr (a, subst (λ i. y.ok i ≡ Some a) (sym (b.is).step_is) ok))).lver last_low
  by (inr no_later) = subst (λ i. (y.block i).lver ≤ n) (both_ways (step_of last.sent) (step_of x) no_later last.since) last_low
