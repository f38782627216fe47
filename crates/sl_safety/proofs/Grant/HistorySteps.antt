-- What a session's blocks, reads and leaders are in the history of their resource.
use Rattle.sl_run_law.specs.Course.CallStamps.{IsAnsweredAs, stamp_in}
use Rattle.sl_safety.proofs.Grant.CallsOfWorlds.{IsFront, IsTold, OfLease, told, told_answer, told_block, told_on, told_wrote, whole_of}
use Rattle.sl_trace.specs.Leases.{block_written, blocks_given, is_again, lease_calls}
use Rattle.sl_safety.proofs.Resources.StepsNameCalls.{block_at_step}
use Rattle.sl_safety.proofs.Resources.WritesHaveBases.{writer_is, writes_at}
use Rattle.sl_safety.proofs.Resources.AnsweredReads.{given_told}
use Rattle.sl_safety.proofs.Resources.BlockOrigins.{block_of_step}
use Rattle.sl_safety.specs.Resources.Histories.{history_block}
use Rattle.sl_safety.specs.Resources.HistoryLaws.{history_of_line, spot_of_line}
use Rattle.sl_safety.specs.Resources.SentCalls.{Sent, began_at, holder_of, is_joined_there, sent_at, step_of, writes_block}
use Rattle.sl_run.specs.Runs.{Happening}
use Rattle.sl_run.specs.Safety.{Found, SessionId, setting_in, world_at}
use Rattle.sl_run.specs.Worlds.{Program, Stamp, World}
use Rattle.sl_run.specs.declared.header.Header.{Header}
use Rattle.sl_run.specs.declared.header.ResourceLine.{ResourceLine}
use Rattle.sl_sector.specs.declared.sector.Block.{Block}
use Rattle.sl_trace.specs.Traces.{Answered, Setting, Submitted, Trace, is_ok_answer, new_call, submitted}
use Rattle.sl_trace.specs.declared.input.Answer.TheVariants.{Written}
use Rattle.std.proofs.Common.{ap, subst, sym, ◌∙◌}
use Rattle.std.specs.Option.{option_map_or}
use Rattle.std.specs.Prelude.{Contains, List, None, Option, Some, false, is_some, option_and_then, option_map, true, ℕ, ◌++◌, ◌∷◌, ◌≡◌, ◌≤◌}
use Rattle.sl_words.proofs.Numbers.{lt_up_to}
use Rattle.sl_run_law.specs.Leases.Ways.{lease_among}
use Rattle.sl_safety.proofs.Resources.GivenBlocks.{heard_as}
use Rattle.sl_safety.proofs.Resources.StepsNameEntries.{call_timed}
use Rattle.sl_safety.proofs.Ballot.ReadsStand.{began_after, read_stands}
use Rattle.sl_trace.specs.declared.effects.Spot.{Spot}
use Rattle.sl_safety.proofs.Ballot.ReadsIn.{ReadIn, first_in, read_in}
use Rattle.sl_safety.specs.Resources.Reads.{ReadBlocks}
use Rattle.sl_run.specs.LawfulBlock.{FirstAfter, ReadAfter}
use Rattle.sl_trace.specs.declared.effects.Call.{Call}

-- A session of the lockspace of a resource, at a front of its trace.
pub record IsAt (p : Program) (h : Header) (xs : List Happening) (r : ResourceLine) (i : SessionId) (f : Found) (front : Trace) : Type 0 where
  pub front_is : IsFront p h xs i f front
  pub there : Contains h.resources r
  pub joined : is_joined_there (world_at p h xs) r.lockspace i ≡ true

-- ---- blocks

-- A block of the session, in the history.
pub record BlockThere (p : Program) (h : Header) (xs : List Happening) (r : ResourceLine) (i : SessionId) (f : Found) (c : Submitted) (b : Block) : Type 0 where
  pub sent : IsTold p h xs i f c
  pub found : sent_at (world_at p h xs) (spot_of_line r) writes_block (step_of sent.sent) ≡ Some sent.sent
  pub writes : (history_of_line p h xs r).writes (step_of sent.sent) ≡ true
  pub writer : (history_of_line p h xs r).writer (step_of sent.sent) ≡ holder_of (world_at p h xs) i
  pub block : (history_of_line p h xs r).block (step_of sent.sent) ≡ history_block b

pub block_there : (p : Program) (h : Header) (xs : List Happening) (r : ResourceLine) (i : SessionId) (f : Found) (front : Trace) → IsAt p h xs r i f front → (c : Submitted)
    → OfLease (setting_in f) front f.session (spot_of_line r) c → (b : Block) → block_written c ≡ Some b → BlockThere p h xs r i f c b
block_there p h xs r i f front k c o b wrote =
    let w : World = world_at p h xs in
    let run = k.front_is.run in
    let t = told p h xs i f front k.front_is c o.inside o.mine in
    let on = told_on p h xs i f front k.front_is c t (spot_of_line r) o.on in
    let found = block_at_step p h xs run r k.there t.sent t.has on (told_block p h xs i f c t b wrote) in
    record {
      sent = t;
      found = found;
      writes = writes_at p h xs r (step_of t.sent) t.sent found;
      writer = writer_is p h xs r (step_of t.sent) t.sent found ∙ ap (holder_of w) t.sender;
      block = block_of_step p h xs run r k.there t.sent b t.has on (told_wrote p h xs i f c t b wrote);
    }

abbrev ok_of : Option Sent → Option ℕ
ok_of o = option_and_then (λ (x : Sent). elim x.course.done as (λ z. Option ℕ) [ true ↦ option_map (λ (s : Stamp). s.step) x.course.answered | false ↦ None ]) o

ok_by : (x : Sent) → x.course.done ≡ true → (s : Stamp) → x.course.answered ≡ Some s → ok_of (Some x) ≡ Some s.step
ok_by x done s is =
    ap (λ b. elim b as (λ z. Option ℕ) [ true ↦ option_map (λ (s : Stamp). s.step) x.course.answered | false ↦ None ]) done
    ∙ ap (λ o. option_map (λ (s : Stamp). s.step) o) is

-- Where it was answered ok.
pub record AnsweredThere (p : Program) (h : Header) (xs : List Happening) (r : ResourceLine) (f : Found) (a : Answered) (step : ℕ) : Type 0 where
  pub stamp : Stamp
  pub entry : stamp_in f.daemon.stamps a.at ≡ Some stamp
  pub ok : (history_of_line p h xs r).ok step ≡ Some stamp.step

pub block_answered : (p : Program) (h : Header) (xs : List Happening) (r : ResourceLine) (i : SessionId) (f : Found) (c : Submitted) (b : Block) → (k : BlockThere p h xs r i f c b)
    → (a : Answered) → c.answer ≡ Some a → a.answer ≡ Written → AnsweredThere p h xs r f a (step_of k.sent.sent)
block_answered p h xs r i f c b k a is written =
    let t = k.sent in
    let heard = told_answer p h xs i f c t a is in
    record {
      stamp = heard.stamp;
      entry = heard.entry;
      ok = ap ok_of k.found ∙ ok_by t.sent (heard.done ∙ ap is_ok_answer written) heard.stamp heard.answered;
    }

-- ---- reads

-- A read of the session, in the history: it is named by when it began.
pub record LookThere (p : Program) (h : Header) (xs : List Happening) (r : ResourceLine) (i : SessionId) (f : Found) (c : Submitted) (before : List Submitted) (bs : List (Option Block)) : Type 0 where
  pub look : ℕ
  pub blocks : ReadBlocks (world_at p h xs) r look bs
  pub reads : (history_of_line p h xs r).reads look ≡ true
  pub answered : Answered
  pub told_as : c.answer ≡ Some answered
  pub stamp : Stamp
  pub entry : stamp_in f.daemon.stamps answered.at ≡ Some stamp
  pub answer : (history_of_line p h xs r).answer look ≡ stamp.step
  -- what was answered ok before it was so when it began
  pub after : (write : Submitted) (b : Block) (k : BlockThere p h xs r i f write b) → ReadAfter write c → FirstAfter write c before → step_of k.sent.sent ≤ look

-- A block that was answered ok at the front, in the whole trace.
acked_then : (p : Program) (h : Header) (xs : List Happening) (i : SessionId) (f : Found) (write c d : Submitted) (t : IsTold p h xs i f write) → d.at ≡ c.at → ReadAfter write c → ReadAfter t.now d
acked_then p h xs i f write c d t at after =
    record { answer = after.answer; answered = (t.told after.answer after.answered.0, after.answered.1); later = subst (λ n. after.answer.at ≤ n) (sym at) after.later }

pub look_there : (p : Program) (h : Header) (xs : List Happening) (r : ResourceLine) (i : SessionId) (f : Found) (front : Trace) → IsAt p h xs r i f front → (c : Submitted)
    → (newer before : List Submitted) → lease_calls (setting_in f) front f.session (spot_of_line r) ≡ newer ++ c ∷ before → (bs : List (Option Block))
    → blocks_given (setting_in f).layout c before ≡ Some bs → LookThere p h xs r i f c before bs
look_there p h xs r i f front k c newer before split bs given =
    let w : World = world_at p h xs in
    let at : Spot = spot_of_line r in
    let st : Setting = setting_in f in
    let run = k.front_is.run in
    let n : ReadIn st f.session at (k.front_is.later ++ front) c before bs = read_in st k.front_is.later front f.session at newer before c split bs given in
    let s = read_stands p h xs run r k.there i f k.front_is.its k.joined n.newer n.older n.read (ap (λ es. submitted es) k.front_is.whole ∙ n.is) n.mine n.on bs n.given in
    let a = given_told st.layout c before bs given in
    let heard : IsAnsweredAs f.daemon s.z.sent.course a.answered = heard_as f.daemon s.z.sent.course n.read.answer a.answered s.z.pair.answers (n.alike.told a.answered a.is) in
    record {
      look = began_at w at s.z.sent;
      blocks = s.blocks;
      reads = ap (λ q. is_some q) s.found;
      answered = a.answered;
      told_as = a.is;
      stamp = heard.stamp;
      entry = heard.entry;
      answer = ap (λ q. option_map_or (λ (y : Stamp). y.step) (option_and_then (λ (x : Sent). x.course.answered) q) 0) s.found
          ∙ ap (λ q. option_map_or (λ (y : Stamp). y.step) q 0) heard.answered;
      after = λ write b y one two.
          let again : FirstAfter y.sent.now n.read (lease_among st f.session at n.older) =
          λ second first found. let o = first_in 0 before (lease_among st f.session at n.older) first n.rest found in
          acked_then p h xs i f write o.0 first y.sent o.2 (two (ap (λ (x : Call). is_again (new_call 0 0 x)) (sym n.alike.call) ∙ second) o.0 o.1) in
          let acked = began_after p h xs run r k.there i f k.front_is.its n.read n.older bs s y.sent.now (acked_then p h xs i f write c n.read y.sent n.alike.at one) again y.sent.sent y.sent.is in
          let all = whole_of p h xs run i f k.front_is.its in
          let timed = call_timed p h xs run i.machine f.machine y.sent.sent.course all.at y.sent.there in
          lt_up_to (step_of y.sent.sent) acked.stamp.step (began_at w at s.z.sent) (timed.answered acked.stamp acked.answered) acked.by;
    }
