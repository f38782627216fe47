-- What the log tells of a write that landed, or was answered.
use Rattle.sl_safety.proofs.Resources.StepsNameCalls.{record_sent, write_is}
use Rattle.sl_safety.specs.Resources.SentCalls.{Sent}
use Rattle.sl_safety.proofs.Pairs.OwnLandings.{LandedBy, landing_is}
use Rattle.sl_safety.proofs.Pairs.SentBlocks.{PairSent}
use Rattle.sl_safety.specs.Pairs.PairLogs.{landing_of, pair_log, pair_sent, turn_of_sent}
use Rattle.sl_words.proofs.Options.{mapped_value}
use Rattle.sl_run.specs.Runs.{Happening}
use Rattle.sl_run.specs.Safety.{LawfulRun, world_at}
use Rattle.sl_run.specs.Worlds.{Landing, Program, Stamp, World, is_write_course}
use Rattle.sl_run.specs.declared.header.Header.{Header}
use Rattle.sl_run.specs.declared.header.ResourceLine.{ResourceLine}
use Rattle.sl_words.specs.Words.{some_is}
use Rattle.std.proofs.Common.{ap, sym, ◌∙◌}
use Rattle.std.specs.Option.{option_map_or}
use Rattle.std.specs.Prelude.{List, Option, Some, option_and_then, option_map, true, ℕ, ◌≡◌}

-- ---- where a write stands at its step

pub record LandsAt (p : Program) (h : Header) (xs : List Happening) (x : Sent) (step : ℕ) : Type 0 where
  pub landing : Landing
  pub found : landing_of (world_at p h xs) x ≡ Some landing
  pub is : LandedBy p h xs x landing
  pub at : landing.step ≡ step

pub lands_at : (p : Program) (h : Header) (xs : List Happening) → LawfulRun p h xs → (r : ResourceLine) (k e : ℕ) (x : PairSent p h xs r k e) (step : ℕ)
    → (pair_log (world_at p h xs) r k).landed e ≡ Some step → LandsAt p h xs x.sent step
lands_at p h xs run r k e x step told =
    let w : World = world_at p h xs in
    let f = mapped_value (λ (l : Landing). l.step) (landing_of w x.sent) step
    (ap (option_and_then (λ (y : Sent). option_map (λ (l : Landing). l.step) (landing_of w y))) (sym x.found) ∙ told) in
    record { landing = f.0; found = f.1; is = landing_is p h xs run x.sent x.is.sent f.0 f.1; at = f.2 }

pub record AnswersAt (x : Sent) (step : ℕ) : Type 0 where
  pub stamp : Stamp
  pub is : x.course.answered ≡ Some stamp
  pub at : stamp.step ≡ step

pub answers_at : (p : Program) (h : Header) (xs : List Happening) (r : ResourceLine) (k e : ℕ) (x : PairSent p h xs r k e) (step : ℕ)
    → (pair_log (world_at p h xs) r k).answered e ≡ Some step → AnswersAt x.sent step
answers_at p h xs r k e x step told =
    let f = mapped_value (λ (s : Stamp). s.step) x.sent.course.answered step
    (ap (option_and_then (λ (y : Sent). option_map (λ (s : Stamp). s.step) y.course.answered)) (sym x.found) ∙ told) in
    record { stamp = f.0; is = f.1; at = f.2 }

pub answered_is : (p : Program) (h : Header) (xs : List Happening) (r : ResourceLine) (k e : ℕ) (x : PairSent p h xs r k e) (s : Stamp) → x.sent.course.answered ≡ Some s
    → (pair_log (world_at p h xs) r k).answered e ≡ Some s.step
answered_is p h xs r k e x s is =
    ap (option_and_then (λ (y : Sent). option_map (λ (t : Stamp). t.step) y.course.answered)) x.found ∙ ap (option_map (λ (t : Stamp). t.step)) is

pub landed_is : (p : Program) (h : Header) (xs : List Happening) (r : ResourceLine) (k e : ℕ) (x : Sent) → pair_sent (world_at p h xs) r k e ≡ Some x → (l : Landing)
    → landing_of (world_at p h xs) x ≡ Some l → (pair_log (world_at p h xs) r k).landed e ≡ Some l.step
landed_is p h xs r k e x at l found =
    let w : World = world_at p h xs in
    ap (option_and_then (λ (y : Sent). option_map (λ (m : Landing). m.step) (landing_of w y))) at ∙ ap (option_map (λ (m : Landing). m.step)) found

pub whole_is : (p : Program) (h : Header) (xs : List Happening) (r : ResourceLine) (k e : ℕ) (x : Sent) → pair_sent (world_at p h xs) r k e ≡ Some x → (l : Landing)
    → landing_of (world_at p h xs) x ≡ Some l → (pair_log (world_at p h xs) r k).whole e ≡ l.whole
whole_is p h xs r k e x at l found =
    let w : World = world_at p h xs in
    ap (λ (o : Option Sent). some_is (λ (y : Sent). some_is (λ (m : Landing). m.whole) (landing_of w y)) o) at ∙ ap (λ (o : Option Landing). some_is (λ (m : Landing). m.whole) o) found

pub turn_is : (p : Program) (h : Header) (xs : List Happening) (r : ResourceLine) (k e : ℕ) (x : Sent) → pair_sent (world_at p h xs) r k e ≡ Some x
    → (pair_log (world_at p h xs) r k).turn e ≡ turn_of_sent x
turn_is p h xs r k e x at = ap (λ (o : Option Sent). option_map_or turn_of_sent o 0) at

pub done_is : (p : Program) (h : Header) (xs : List Happening) (r : ResourceLine) (k e : ℕ) (x : PairSent p h xs r k e) → (pair_log (world_at p h xs) r k).done e ≡ true
    → x.sent.course.done ≡ true
done_is p h xs r k e x told = ap (λ (o : Option Sent). some_is (λ (y : Sent). y.course.done) o) (sym x.found) ∙ told

pub is_write : (p : Program) (h : Header) (xs : List Happening) (r : ResourceLine) (k e : ℕ) (x : PairSent p h xs r k e) → is_write_course x.sent.course ≡ true
is_write p h xs r k e x = let b = record_sent x.sent.course x.block in write_is x.sent.course.call.op b.0 b.1
