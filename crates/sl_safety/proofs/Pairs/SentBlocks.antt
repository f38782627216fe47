-- The blocks of a host: what a log tells of a step at which one was submitted.
use Rattle.sl_safety.proofs.Resources.Calls.{IsWork}
use Rattle.sl_safety.proofs.Resources.StepsNameCalls.{IsSentTo, block_at_step, block_works, found_at}
use Rattle.sl_safety.proofs.Sessions.OrderedWork.{worker_joined_before, worker_named}
use Rattle.sl_safety.specs.Resources.Histories.{joined_of}
use Rattle.sl_safety.specs.Resources.Orders.{BlockSent}
use Rattle.sl_safety.specs.Resources.HistoryLaws.{spot_of_line}
use Rattle.sl_safety.specs.Resources.SentCalls.{Sent, holder_of, sender_of, sent_at, session_of_holder, step_of, writes_block}
use Rattle.sl_safety.specs.Pairs.PairLogs.{join_of, pair_log, pair_sent}
use Rattle.sl_words.proofs.Options.{some_there}
use Rattle.sl_run.specs.Runs.{Happening}
use Rattle.sl_run.specs.Safety.{LawfulRun, world_at}
use Rattle.sl_run.specs.Worlds.{Program, World}
use Rattle.sl_run.specs.declared.header.Header.{Header}
use Rattle.sl_run.specs.declared.header.ResourceLine.{ResourceLine}
use Rattle.sl_words.proofs.CaseLaws.{none_some, one_value}
use Rattle.sl_words.proofs.OptionLaws.{choose_at_true}
use Rattle.sl_words.proofs.WordLaws.{choose_some}
use Rattle.sl_words.specs.Words.{choose}
use Rattle.std.proofs.Common.{ap, refl, subst, ◌∙◌}
use Rattle.std.proofs.lemmas.Bool.{eq-eqb, eqb-true}
use Rattle.std.specs.Option.{option_map_or}
use Rattle.std.specs.Prelude.{Contains, List, None, Option, Some, option_and_then, true, unwrap_or, ℕ, ◌==◌, ◌≡◌, ◌≤◌}

-- ---- a block of the host

pub record PairSent (p : Program) (h : Header) (xs : List Happening) (r : ResourceLine) (k e : ℕ) : Type 0 where
  pub sent : Sent
  pub found : pair_sent (world_at p h xs) r k e ≡ Some sent
  pub is : IsSentTo (world_at p h xs) r e sent
  pub block : writes_block sent.course ≡ true
  pub host : (holder_of (world_at p h xs) (sender_of sent)).id ≡ k
  pub work : IsWork (world_at p h xs) r sent

sent_by : (w : World) (r : ResourceLine) (k e : ℕ) (x : Sent) (o : Option Sent) → sent_at w (spot_of_line r) writes_block e ≡ o
    → option_and_then (λ (y : Sent). choose ((holder_of w (sender_of y)).id == k) y) o ≡ Some x
    → (sent_at w (spot_of_line r) writes_block e ≡ Some x) × ((holder_of w (sender_of x)).id ≡ k)
sent_by w r k e x None is h = absurd (none_some x h)
sent_by w r k e x (Some y) is h =
    let c = choose_some ((holder_of w (sender_of y)).id == k) y x h in
    (is ∙ ap (λ z. Some z) c.1, subst (λ (z : Sent). (holder_of w (sender_of z)).id ≡ k) c.1 (eqb-true (holder_of w (sender_of y)).id k c.0))

pub pair_found : (p : Program) (h : Header) (xs : List Happening) → LawfulRun p h xs → (r : ResourceLine) → Contains h.resources r → (k e : ℕ)
    → (pair_log (world_at p h xs) r k).writes e ≡ true → PairSent p h xs r k e
pair_found p h xs run r there k e h_is =
    let w : World = world_at p h xs in
    let x = some_there (pair_sent w r k e) h_is in
    let s = sent_by w r k e x.0 (sent_at w (spot_of_line r) writes_block e) refl x.1 in
    let f = found_at w r writes_block e x.0 s.0 in
    record {
      sent = x.0;
      found = x.1;
      is = f.0;
      block = f.1;
      host = s.1;
      work = block_works p h xs run r there x.0 f.0.sent f.0.on f.1;
    }

-- .. and each is told of.
pub told_of : (p : Program) (h : Header) (xs : List Happening) → LawfulRun p h xs → (r : ResourceLine) → Contains h.resources r → (k : ℕ) (x : Sent) → BlockSent (world_at p h xs) r k x
    → pair_sent (world_at p h xs) r k (step_of x) ≡ Some x
told_of p h xs run r there k x b =
    let w : World = world_at p h xs in
    ap (option_and_then (λ (y : Sent). choose ((holder_of w (sender_of y)).id == k) y)) (block_at_step p h xs run r there x b.sent b.on b.block)
    ∙ choose_at_true ((holder_of w (sender_of x)).id == k) x (eq-eqb (holder_of w (sender_of x)).id k b.host)

pub as_block : (p : Program) (h : Header) (xs : List Happening) (r : ResourceLine) (k e : ℕ) (x : PairSent p h xs r k e) → BlockSent (world_at p h xs) r k x.sent
as_block p h xs r k e x = record { sent = x.is.sent; on = x.is.on; block = x.block; host = x.host }

-- ---- when its session joined

pub record JoinedFor (w : World) (r : ResourceLine) (x : Sent) : Type 0 where
  pub step : ℕ
  pub is : joined_of w r.lockspace (holder_of w (sender_of x)) ≡ Some step
  pub join : join_of w r (sender_of x) ≡ step
  pub low : step ≤ step_of x

pub joined_for : (p : Program) (h : Header) (xs : List Happening) → LawfulRun p h xs → (r : ResourceLine) → Contains h.resources r → (x : Sent) → IsWork (world_at p h xs) r x
    → JoinedFor (world_at p h xs) r x
joined_for p h xs run r there x work =
    let j = worker_joined_before p h xs run r there x work in
    record { step = j.0; is = j.1; join = ap (λ o. unwrap_or o 0) j.1; low = j.2 }

-- Two workers with one name are one session.
pub one_worker : (p : Program) (h : Header) (xs : List Happening) → LawfulRun p h xs → (r : ResourceLine) → Contains h.resources r → (x y : Sent) → IsWork (world_at p h xs) r x
    → IsWork (world_at p h xs) r y → holder_of (world_at p h xs) (sender_of x) ≡ holder_of (world_at p h xs) (sender_of y) → sender_of x ≡ sender_of y
one_worker p h xs run r there x y one two same =
    let w : World = world_at p h xs in
    one_value (sender_of x) (sender_of y) (session_of_holder w r.lockspace (holder_of w (sender_of x))) (worker_named p h xs run r there x one)
    (ap (session_of_holder w r.lockspace) same ∙ worker_named p h xs run r there y two)

-- ---- what the log tells of the step

pub session_is : (p : Program) (h : Header) (xs : List Happening) (r : ResourceLine) (k e : ℕ) (x : PairSent p h xs r k e)
    → (pair_log (world_at p h xs) r k).session e ≡ join_of (world_at p h xs) r (sender_of x.sent)
session_is p h xs r k e x = ap (λ o. option_map_or (λ (y : Sent). join_of (world_at p h xs) r (sender_of y)) o 0) x.found
