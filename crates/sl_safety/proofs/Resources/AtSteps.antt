-- What the history of a resource has at a step: a block, a read with its answer, and the block that a session sent last before it.
use Rattle.sl_ballot_law.specs.Disk.{Wrote}
use Rattle.sl_trace.specs.Leases.{is_on}
use Rattle.sl_words.proofs.Lists.{find_inside}
use Rattle.sl_words.proofs.Options.{some_there}
use Rattle.sl_safety.proofs.Resources.Calls.{IsOwned, owned}
use Rattle.sl_safety.proofs.Resources.StepsNameCalls.{IsEndAt, IsSentTo, block_at_step, found_at, found_read}
use Rattle.sl_safety.proofs.Resources.DoneIsAnswered.{done_closed, made_since}
use Rattle.sl_safety.proofs.Resources.OwnBlocks.{same_is}
use Rattle.sl_safety.proofs.Resources.StepsNameEntries.{call_timed}
use Rattle.sl_safety.specs.Resources.HistoryLaws.{history_of_line, spot_of_line}
use Rattle.sl_safety.specs.Resources.SentCalls.{Sent, all_sent, holder_of, is_block_before, is_counted_read, is_joined_there, nobody, read_at, reads_blocks, same_session, sender_of, sent_at, step_of, writes_block}
use Rattle.sl_run.specs.Runs.{Happening}
use Rattle.sl_run.specs.Safety.{LawfulRun, SessionId, world_at}
use Rattle.sl_run.specs.Worlds.{Course, Program, Stamp, World}
use Rattle.sl_run.specs.declared.header.Header.{Header}
use Rattle.sl_run.specs.declared.header.ResourceLine.{ResourceLine}
use Rattle.sl_words.proofs.CaseLaws.{none_some, some_value}
use Rattle.sl_words.proofs.WordLaws.{and_true}
use Rattle.std.proofs.Common.{ap, arith, refl, subst, sym, ◌∙◌}
use Rattle.std.proofs.lemmas.Bool.{ltb-true}
use Rattle.std.specs.Option.{option_map_or}
use Rattle.std.specs.Prelude.{Bool, Contains, List, None, Option, Some, false, find, is_some, nat_lt, option_and_then, option_map, true, ℕ, ◌&&◌, ◌<◌, ◌≡◌, ◌≤◌}
use Rattle.sl_safety.proofs.Resources.Looks.{began_before}

-- ---- what the history says of one step

-- A block that the history has.
pub record IsBlockAt (w : World) (r : ResourceLine) (e : ℕ) : Type 0 where
  pub sent : Sent
  pub found : sent_at w (spot_of_line r) writes_block e ≡ Some sent
  pub is : IsSentTo w r e sent
  pub block : writes_block sent.course ≡ true

pub block_at : (w : World) (r : ResourceLine) (e : ℕ) → is_some (sent_at w (spot_of_line r) writes_block e) ≡ true → IsBlockAt w r e
block_at w r e h =
    let f = some_there (sent_at w (spot_of_line r) writes_block e) h in
    let k = found_at w r writes_block e f.0 f.1 in
    record { sent = f.0; found = f.1; is = k.0; block = k.1 }

-- A read that the history has.
pub record IsReadAt (w : World) (r : ResourceLine) (e : ℕ) : Type 0 where
  pub sent : Sent
  pub found : read_at w (spot_of_line r) r.lockspace e ≡ Some sent
  pub is : IsEndAt w r e sent
  pub counted : is_counted_read w r.lockspace sent ≡ true
  pub reads : reads_blocks sent.course ≡ true
  pub done : sent.course.done ≡ true

pub read_found : (w : World) (r : ResourceLine) (e : ℕ) → is_some (read_at w (spot_of_line r) r.lockspace e) ≡ true → IsReadAt w r e
read_found w r e h =
    let f = some_there (read_at w (spot_of_line r) r.lockspace e) h in
    let k = found_read w r e f.0 f.1 in
    let all = and_true (reads_blocks f.0.course && f.0.course.done) (is_joined_there w r.lockspace (sender_of f.0)) k.1 in
    let two = and_true (reads_blocks f.0.course) f.0.course.done all.0 in
    record { sent = f.0; found = f.1; is = k.0; counted = k.1; reads = two.0; done = two.1 }

-- A block that was sent is one of the history, by its host.
pub wrote : (p : Program) (h : Header) (xs : List Happening) → LawfulRun p h xs → (r : ResourceLine) → Contains h.resources r → (k : ℕ) (x : Sent)
    → Contains (all_sent (world_at p h xs)) x → is_on (world_at p h xs).layout (spot_of_line r) x.course.call ≡ true → writes_block x.course ≡ true
    → (holder_of (world_at p h xs) (sender_of x)).id ≡ k → Wrote (history_of_line p h xs r) k (step_of x)
wrote p h xs run r there k x sent on block host =
    let w : World = world_at p h xs in
    let found = block_at_step p h xs run r there x sent on block in
    record {
      is = ap (λ (o : Option Sent). is_some o) found;
      host = ap (λ (o : Option Sent). (option_map_or (λ (y : Sent). holder_of w (sender_of y)) o nobody).id) found ∙ host;
    }

-- ---- writes

pub not_at_first : (p : Program) (h : Header) (xs : List Happening) → LawfulRun p h xs → (r : ResourceLine) → (o : Option Sent) → sent_at (world_at p h xs) (spot_of_line r) writes_block 0 ≡ o
    → o ≡ None
not_at_first p h xs run r None is = refl
not_at_first p h xs run r (Some x) is =
    let w : World = world_at p h xs in
    let k = found_at w r writes_block 0 x is in
    let above : 0 < step_of x = made_since p h xs run x (owned p h xs run x k.0.sent) in
    absurd (omega (arith, above, k.0.step_is))

pub since : (p : Program) (h : Header) (xs : List Happening) → LawfulRun p h xs → (r : ResourceLine) (e : ℕ) → IsBlockAt (world_at p h xs) r e → 0 < e
since p h xs run r e b = subst (λ n. 0 < n) b.is.step_is (made_since p h xs run b.sent (owned p h xs run b.sent b.is.sent))

abbrev ok_of : Course → Option ℕ
ok_of c = elim c.done [ true ↦ option_map (λ s. s.step) c.answered | false ↦ None ]

ok_by : (b : Bool) (o : Option Stamp) (a : ℕ) → elim b as (λ z. Option ℕ) [ true ↦ option_map (λ (s : Stamp). s.step) o | false ↦ None ] ≡ Some a
    → (b ≡ true) × (s : Stamp) × (o ≡ Some s) × (s.step ≡ a)
ok_by false o a h = absurd (none_some a h)
ok_by true None a h = absurd (none_some a h)
ok_by true (Some s) a h = (refl, s, refl, some_value s.step a h)

-- A block that the history has with an answer was done at that stamp.
pub ok_is : (w : World) (r : ResourceLine) (e a : ℕ) (b : IsBlockAt w r e) → option_and_then (λ (x : Sent). ok_of x.course) (sent_at w (spot_of_line r) writes_block e) ≡ Some a
    → (b.sent.course.done ≡ true) × (s : Stamp) × (b.sent.course.answered ≡ Some s) × (s.step ≡ a)
ok_is w r e a b is =
    ok_by b.sent.course.done b.sent.course.answered a (ap (λ (o : Option Sent). option_and_then (λ (x : Sent). ok_of x.course) o) (sym b.found) ∙ is)

answered_later : (p : Program) (h : Header) (xs : List Happening) → LawfulRun p h xs → (x : Sent) → IsOwned (world_at p h xs) x → (s : Stamp) → x.course.answered ≡ Some s → step_of x < s.step
answered_later p h xs run x o s is = (call_timed p h xs run x.machine o.there.machine x.course o.there.at o.there.has).answered s is

pub answered : (p : Program) (h : Header) (xs : List Happening) → LawfulRun p h xs → (r : ResourceLine) (e a : ℕ) (b : IsBlockAt (world_at p h xs) r e)
    → option_and_then (λ (x : Sent). ok_of x.course) (sent_at (world_at p h xs) (spot_of_line r) writes_block e) ≡ Some a → e < a
answered p h xs run r e a b is =
    let k = ok_is (world_at p h xs) r e a b is in
    subst (λ n. n < a) b.is.step_is
    (subst (λ n. step_of b.sent < n) k.3 (answered_later p h xs run b.sent (owned p h xs run b.sent b.is.sent) k.1 k.2))

-- ---- reads

-- When the read was answered, with its last call.
pub record IsAnswerOf (w : World) (r : ResourceLine) (e : ℕ) (b : IsReadAt w r e) : Type 0 where
  pub stamp : Stamp
  pub is : b.sent.course.answered ≡ Some stamp
  pub step : option_map_or (λ (s : Stamp). s.step) (option_and_then (λ (x : Sent). x.course.answered) (read_at w (spot_of_line r) r.lockspace e)) 0 ≡ stamp.step
  pub after : step_of b.sent < stamp.step
  pub later : e < stamp.step

sooner : (a b c : ℕ) → a ≤ b → b < c → a < c
sooner a b c h i = omega (arith, h, i)

pub answer_of_read : (p : Program) (h : Header) (xs : List Happening) → LawfulRun p h xs → (r : ResourceLine) (e : ℕ) (b : IsReadAt (world_at p h xs) r e) → IsAnswerOf (world_at p h xs) r e b
answer_of_read p h xs run r e b =
    let o = owned p h xs run b.sent b.is.sent in
    let s = done_closed p h xs run b.sent.machine o.there.machine b.sent.course o.there.at o.there.has b.done in
    record {
      stamp = s.0;
      is = s.1;
      step = ap (λ (q : Option Sent). option_map_or (λ (t : Stamp). t.step) (option_and_then (λ (x : Sent). x.course.answered) q) 0) b.found
          ∙ ap (λ q. option_map_or (λ (t : Stamp). t.step) q 0) s.1;
      after = answered_later p h xs run b.sent o s.0 s.1;
      later = sooner e (step_of b.sent) s.0.step (subst (λ n. n ≤ step_of b.sent) b.is.began (began_before p h xs run (spot_of_line r) b.sent)) (answered_later p h xs run b.sent o s.0 s.1);
    }

-- ---- the last block before

-- The block that a session sent last before a step.
pub record IsBefore (w : World) (r : ResourceLine) (i : SessionId) (step : ℕ) (y : Sent) : Type 0 where
  pub sent : Contains (all_sent w) y
  pub early : step_of y < step
  pub on : is_on w.layout (spot_of_line r) y.course.call ≡ true
  pub block : writes_block y.course ≡ true
  pub sender : i ≡ sender_of y

pub found_before : (w : World) (r : ResourceLine) (i : SessionId) (step : ℕ) (y : Sent) → find (is_block_before w (spot_of_line r) i step) (all_sent w) ≡ Some y → IsBefore w r i step y
found_before w r i step y is =
    let f = find_inside (is_block_before w (spot_of_line r) i step) (all_sent w) y is in
    let all = and_true (nat_lt (step_of y) step && is_on w.layout (spot_of_line r) y.course.call && writes_block y.course) (same_session i (sender_of y)) f.1 in
    let three = and_true (nat_lt (step_of y) step && is_on w.layout (spot_of_line r) y.course.call) (writes_block y.course) all.0 in
    let two = and_true (nat_lt (step_of y) step) (is_on w.layout (spot_of_line r) y.course.call) three.0 in
    record { sent = f.0; early = ltb-true (step_of y) step two.0; on = two.1; block = three.1; sender = same_is i (sender_of y) all.1 }
