-- The sessions of a host follow one another, and so do its writes.
use Rattle.sl_ballot_law.specs.History.{Owner as Holder}
use Rattle.sl_safety.proofs.Resources.CallsTakeTurns.{First, One, Second, Turns, turns_of}
use Rattle.sl_safety.proofs.Resources.AtSteps.{wrote}
use Rattle.sl_safety.proofs.Resources.Calls.{IsOwned, IsWork}
use Rattle.sl_safety.proofs.Resources.StepsNameCalls.{block_at_step, worker_joined}
use Rattle.sl_safety.proofs.Resources.StepsNameEntries.{call_timed}
use Rattle.sl_safety.proofs.Sessions.EarlierAreOver.{histories_end_earlier}
use Rattle.sl_safety.proofs.Sessions.SessionsInOrder.{histories_are_in_order}
use Rattle.sl_safety.proofs.Sessions.OrderedWork.{worker_named}
use Rattle.sl_safety.specs.Resources.Histories.{joined_of}
use Rattle.sl_safety.specs.Resources.HistoryLaws.{history_of_line, spot_of_line}
use Rattle.sl_safety.specs.Resources.SentCalls.{Sent, all_names, all_sent, holder_of, is_joined_there, nobody, same_holder, sender_of, sent_at, step_of, writes_block}
use Rattle.sl_safety.proofs.Pairs.SentBlocks.{PairSent, joined_for, one_worker}
use Rattle.sl_safety.specs.Pairs.PairLogs.{is_of_host, join_of, joins_at}
use Rattle.sl_words.proofs.Lists.{any_found, any_of, find_inside}
use Rattle.sl_run.specs.Runs.{Happening}
use Rattle.sl_run.specs.Safety.{LawfulRun, SessionId, world_at}
use Rattle.sl_run.specs.Worlds.{Program, Stamp, World}
use Rattle.sl_run.specs.declared.header.Header.{Header}
use Rattle.sl_run.specs.declared.header.ResourceLine.{ResourceLine}
use Rattle.sl_words.proofs.WordLaws.{and_true}
use Rattle.std.proofs.Common.{ap, arith, refl, subst, sym, ◌∙◌}
use Rattle.std.proofs.lemmas.Bool.{eq-eqb, eqb-true}
use Rattle.std.specs.Option.{option_map_or}
use Rattle.std.specs.Prelude.{Bool, Contains, List, None, Option, Some, true, unwrap_or, ℕ, ◌&&◌, ◌<◌, ◌==◌, ◌≡◌, ◌≤◌}

-- ---- who joined at a step

-- A session of the host that joined at this step, by its name.
pub record JoinsAt (w : World) (r : ResourceLine) (k step : ℕ) : Type 0 where
  pub name : Holder
  pub id : name.id ≡ k
  pub joined : joined_of w r.lockspace name ≡ Some step

some_step : (o : Option ℕ) (n : ℕ) → unwrap_or o 0 ≡ n → 0 < n → o ≡ Some n
some_step None n h above = absurd (omega (arith, h, above))
some_step (Some m) n h above = ap (λ z. Some z) h

pub joins_who : (w : World) (r : ResourceLine) (k step : ℕ) → joins_at w r k step ≡ true → 0 < step → JoinsAt w r k step
joins_who w r k step h above =
    let f = any_found (λ (i : SessionId). is_of_host w r k i && join_of w r i == step) (all_names w) h in
    let both = and_true (is_of_host w r k f.0) (join_of w r f.0 == step) f.2 in
    let two = and_true (is_joined_there w r.lockspace f.0) ((holder_of w f.0).id == k) both.0 in
    record {
      name = holder_of w f.0;
      id = eqb-true (holder_of w f.0).id k two.1;
      joined = some_step (joined_of w r.lockspace (holder_of w f.0)) step (eqb-true (join_of w r f.0) step both.1) above;
    }

both_are : (a b : Bool) → a ≡ true → b ≡ true → (a && b) ≡ true
both_are a b h i = ap (λ z. z && b) h ∙ i

-- Each worker's session did.
pub joins_self : (p : Program) (h : Header) (xs : List Happening) → LawfulRun p h xs → (r : ResourceLine) → Contains h.resources r → (k : ℕ) (x : Sent) → IsWork (world_at p h xs) r x
    → (holder_of (world_at p h xs) (sender_of x)).id ≡ k → joins_at (world_at p h xs) r k (join_of (world_at p h xs) r (sender_of x)) ≡ true
joins_self p h xs run r there k x work host =
    let w : World = world_at p h xs in
    let i : SessionId = sender_of x in
    let inside = find_inside (λ (j : SessionId). is_joined_there w r.lockspace j && same_holder (holder_of w j) (holder_of w i)) (all_names w) i (worker_named p h xs run r there x work) in
    any_of (λ (j : SessionId). is_of_host w r k j && join_of w r j == join_of w r i) (all_names w) i
    (both_are (is_of_host w r k i) (join_of w r i == join_of w r i)
    (both_are (is_joined_there w r.lockspace i) ((holder_of w i).id == k) (worker_joined p h xs r x work) (eq-eqb (holder_of w i).id k host))
    (eq-eqb (join_of w r i) (join_of w r i) refl)) inside.0

-- ---- one session, or one after another

-- Workers of a host whose sessions joined at one step are of one session.
pub one_join : (p : Program) (h : Header) (xs : List Happening) → LawfulRun p h xs → (r : ResourceLine) → Contains h.resources r → (x y : Sent) → IsWork (world_at p h xs) r x
    → IsWork (world_at p h xs) r y → (holder_of (world_at p h xs) (sender_of x)).id ≡ (holder_of (world_at p h xs) (sender_of y)).id
    → join_of (world_at p h xs) r (sender_of x) ≡ join_of (world_at p h xs) r (sender_of y) → sender_of x ≡ sender_of y
one_join p h xs run r there x y one two ids same =
    let w : World = world_at p h xs in
    let a = joined_for p h xs run r there x one in
    let b = joined_for p h xs run r there y two in
    let step : a.step ≡ b.step = sym a.join ∙ same ∙ b.join in
    one_worker p h xs run r there x y one two
    ((histories_are_in_order p h xs r run there).once (holder_of w (sender_of x)) (holder_of w (sender_of y)) a.step a.is (b.is ∙ ap (λ z. Some z) (sym step)) ids)

-- Where another of the host joins later, a worker's session is over.
pub over_when : (p : Program) (h : Header) (xs : List Happening) → LawfulRun p h xs → (r : ResourceLine) → Contains h.resources r → (x : Sent) → IsWork (world_at p h xs) r x
    → (name : Holder) → (holder_of (world_at p h xs) (sender_of x)).id ≡ name.id → (step : ℕ) → joined_of (world_at p h xs) r.lockspace name ≡ Some step
    → join_of (world_at p h xs) r (sender_of x) < step → (history_of_line p h xs r).over (holder_of (world_at p h xs) (sender_of x)) step ≡ true
over_when p h xs run r there x work name ids step joined less =
    let w : World = world_at p h xs in
    let a = joined_for p h xs run r there x work in
    histories_end_earlier p h xs r run there (holder_of w (sender_of x)) name a.step step a.is joined ids (subst (λ (n : ℕ). n < step) a.join less)

-- ---- a write in the history

pub record WrittenIn (p : Program) (h : Header) (xs : List Happening) (r : ResourceLine) (x : Sent) : Type 0 where
  pub writes : (history_of_line p h xs r).writes (step_of x) ≡ true
  pub writer : (history_of_line p h xs r).writer (step_of x) ≡ holder_of (world_at p h xs) (sender_of x)
  pub at : sent_at (world_at p h xs) (spot_of_line r) writes_block (step_of x) ≡ Some x

pub written_in : (p : Program) (h : Header) (xs : List Happening) → LawfulRun p h xs → (r : ResourceLine) → Contains h.resources r → (k e : ℕ) (x : PairSent p h xs r k e)
    → WrittenIn p h xs r x.sent
written_in p h xs run r there k e x =
    let w : World = world_at p h xs in
    let at = block_at_step p h xs run r there x.sent x.is.sent x.is.on x.block in
    record {
      writes = (wrote p h xs run r there k x.sent x.is.sent x.is.on x.block x.host).is;
      writer = ap (λ o. option_map_or (λ (y : Sent). holder_of w (sender_of y)) o nobody) at;
      at = at;
    }

-- An over session submits no more.
pub silent_then : (p : Program) (h : Header) (xs : List Happening) → LawfulRun p h xs → (r : ResourceLine) → Contains h.resources r → (k e : ℕ) (x : PairSent p h xs r k e)
    → (name : Holder) → k ≡ name.id → (step : ℕ) → joined_of (world_at p h xs) r.lockspace name ≡ Some step → join_of (world_at p h xs) r (sender_of x.sent) < step → step_of x.sent < step
silent_then p h xs run r there k e x name id step joined less =
    let w : World = world_at p h xs in
    let o : Holder = holder_of w (sender_of x.sent) in
    let k_in = written_in p h xs run r there k e x in
    (histories_are_in_order p h xs r run there).silent o step (step_of x.sent) (over_when p h xs run r there x.sent x.work name (x.host ∙ id) step joined less) k_in.writes k_in.writer

-- ---- one write at a time

pub answered_by : (p : Program) (h : Header) (xs : List Happening) → LawfulRun p h xs → (x : Sent) → IsOwned (world_at p h xs) x → (s : Stamp) → x.course.answered ≡ Some s → step_of x < s.step
answered_by p h xs run x o s is = (call_timed p h xs run x.machine o.there.machine x.course o.there.at o.there.has).answered s is

pub record AnsweredBy (x : Sent) (n : ℕ) : Type 0 where
  pub stamp : Stamp
  pub is : x.course.answered ≡ Some stamp
  pub by : stamp.step ≤ n

-- Of two works of one session the first was answered before the second was made.
pub answered_first : (p : Program) (h : Header) (xs : List Happening) → LawfulRun p h xs → (r : ResourceLine) → Contains h.resources r → (x y : Sent) → IsWork (world_at p h xs) r x
    → IsWork (world_at p h xs) r y → sender_of x ≡ sender_of y → Contains (all_sent (world_at p h xs)) x → Contains (all_sent (world_at p h xs)) y → step_of x < step_of y → AnsweredBy x (step_of y)
answered_first p h xs run r there x y one two same has also less = by (turns_of p h xs run r there x y has also one two same)
  where
    by : Turns x y → AnsweredBy x (step_of y)
    by (One is) = absurd (let e : step_of x ≡ step_of y = ap step_of is in omega (arith, less, e))
    by (First s told early) = record { stamp = s; is = told; by = early }
    by (Second s told early) = absurd (let late : step_of y < s.step = answered_by p h xs run y two.owned s told in omega (arith, less, early, late))
