-- An answer changes of what is asked of a session's calls what it changes of what is kept.
use Rattle.sl_delta.specs.OwnSector.{IsBusy, IsTold, OwnState, OwnStands, after_answer, newest_told}
use Rattle.sl_host_state.specs.HeardInputs.{answered_at}
use Rattle.sl_host_state.specs.declared.kept_parts.JoinCall.{JoinCall}
use Rattle.sl_trace.specs.DeltaDecisions.{join_step_of}
use Rattle.sl_trace.specs.Sessions.{delta_written, is_delta_purpose, is_free_purpose, is_join_call, is_renewal}
use Rattle.sl_trace.specs.declared.session.Session.{Session}
use Rattle.sl_trace.specs.Traces.{Answered, Submitted, bytes_given, gave}
use Rattle.sl_trace.specs.declared.effects.JoinStep.TheVariants.{ClaimWrite, FirstRead}
use Rattle.sl_trace.specs.declared.effects.JoinStep.{JoinStep}
use Rattle.sl_trace.specs.declared.effects.Purpose.{Purpose}
use Rattle.sl_trace.specs.declared.input.Answer.{Answer}
use Rattle.std.specs.Option.{option_map_or}
use Rattle.std.proofs.Common.{Bool, IsTrue, List, None, Option, Some, ap, cond, false, find, is_some, not, option_and_then, option_map, refl, subst, sym, true, ℕ, ◌&&◌, ◌∙◌, ◌∷◌, ◌≡◌}

-- A call with this answer.
abbrev pub told : Submitted → Answered → Submitted
told m a = record m { answer = Some a }

-- What is asked of the first call that a test finds: of the list's head, or of its rest.
found : {A B : Type 0} (f : A → Option B) (b : Bool) (x : A) (r : Option A) → option_and_then f (cond b (Some x) r) ≡ cond b (f x) (option_and_then f r)
found f true x r = refl
found f false x r = refl

-- The same of two heads that answer alike.
alike : {A B : Type 0} (f : A → Option B) (b : Bool) (x y : A) (r : Option A) → f x ≡ f y → option_and_then f (cond b (Some x) r) ≡ option_and_then f (cond b (Some y) r)
alike f true x y r e = e
alike f false x y r e = refl

-- The head's new answer in place of its old one.
turned : {B : Type 0} (b : Bool) (old new rest kept : Option B) → cond b old rest ≡ kept → cond b new rest ≡ cond b new kept
turned true old new rest kept e = refl
turned false old new rest kept e = e

same_busy : (on busy : Bool) (m : Submitted) (a : Answered) (ms : List Submitted) → IsTrue on → IsBusy busy (m ∷ ms) → IsBusy (not on && busy) (told m a ∷ ms)
same_busy true true m a ms is k = (refl, k.1)
same_busy true false m a ms is k = (refl, k.1)
same_busy false busy m a ms is k = absurd cc

-- The newest call of a joining, if it is one of its steps, with its answer.
call_with : Option JoinStep → ℕ → Option ℕ → Option JoinCall
call_with step made answer = option_map (λ s. record { step = s; made = made; answered = answer }) step

newest_with : (step : Option JoinStep) (made : ℕ) (before after : Option ℕ) (now : ℕ) (kept : Option JoinCall) → before ≡ None → after ≡ Some now
    → option_map (λ s. record { step = s; made = made; answered = before }) step ≡ kept
    → option_map (λ s. record { step = s; made = made; answered = after }) step ≡ newest_told (is_some step) now kept
unfolding call_with
newest_with None made before after now kept none some e = e
newest_with (Some s) made before after now kept none some e =
    ap (call_with (Some s) made) some ∙ ap (λ x. option_map (answered_at now) (call_with (Some s) made x)) (sym none) ∙ ap (option_map (answered_at now)) e

free_alike : (b : Bool) (x y : Submitted) (r : Option Submitted) → is_some (cond b (Some x) r) ≡ is_some (cond b (Some y) r)
free_alike true x y r = refl
free_alike false x y r = refl

reading_alike : (b : Bool) (x y : Submitted) (r : Option Submitted) (n : ℕ) → x.reading ≡ y.reading
    → option_map_or (λ m. m.reading) (cond b (Some x) r) n ≡ option_map_or (λ m. m.reading) (cond b (Some y) r) n
reading_alike true x y r n e = e
reading_alike false x y r n e = refl

answer_at : Submitted → Option ℕ
answer_at m = option_map (λ a. a.reading) m.answer

-- The calls with the newest one answered, and what is kept after that answer.
told_stands : (s : Session) (o : OwnState) (m : Submitted) (ms : List Submitted) (a : Answered) → OwnStands s o (m ∷ ms) → IsTrue (is_delta_purpose m.call.purpose) → m.answer ≡ None
    → OwnStands s (after_answer m.call.purpose a.answer a.reading o) (told m a ∷ ms)
told_stands s o m ms a k delta none =
    let first : Bool = is_join_call FirstRead m.call.purpose in
    let rest : Option Submitted = find (λ x. is_join_call FirstRead x.call.purpose) ms in record {
      joining = record {
        watched = found gave first (told m a) rest
            ∙ turned first (gave m) (bytes_given a.answer) (option_and_then gave rest) o.joining.watched (sym (found gave first m rest) ∙ k.joining.watched);
        since = found (λ x. option_map (λ a. a.reading) x.answer) first (told m a) rest
            ∙ turned first (option_map (λ a. a.reading) m.answer) (Some a.reading) (option_and_then (λ x. option_map (λ a. a.reading) x.answer) rest) o.joining.since
            (sym (found (λ x. option_map (λ a. a.reading) x.answer) first m rest) ∙ k.joining.since);
        claim = alike delta_written (is_join_call ClaimWrite m.call.purpose) (told m a) m (find (λ x. is_join_call ClaimWrite x.call.purpose) ms) refl ∙ k.joining.claim;
        newest = newest_with (join_step_of m.call.purpose) m.reading (option_map (λ a. a.reading) m.answer) (Some a.reading) a.reading o.joining.newest
            (ap (λ x. option_map (λ a. a.reading) x) none) refl k.joining.newest;
      };
      generation = k.generation;
      seq = k.seq;
      renewed = reading_alike (is_renewal m.call.purpose) (told m a) m (find (λ x. is_renewal x.call.purpose) ms) s.renewed refl ∙ k.renewed;
      busy = same_busy (is_delta_purpose m.call.purpose) o.busy m a ms delta k.busy;
      freed = free_alike (is_free_purpose m.call.purpose) (told m a) m (find (λ x. is_free_purpose x.call.purpose) ms) ∙ k.freed;
    }

pub answer_stands : (s : Session) (o : OwnState) (p : Purpose) (answer : Answer) (now : ℕ) (m : Submitted) (ms : List Submitted) (a : Answered)
    → OwnStands s o (m ∷ ms) → IsTold p answer now m a → OwnStands s (after_answer p answer now o) (record m { answer = Some a } ∷ ms)
answer_stands s o p answer now m ms a k is =
    let own : IsTrue (is_delta_purpose m.call.purpose) = subst (λ x. IsTrue (is_delta_purpose x)) (sym is.purpose) is.delta in
    let so : OwnStands s (after_answer m.call.purpose a.answer a.reading o) (told m a ∷ ms) = told_stands s o m ms a k own is.unanswered in
    subst (λ x. OwnStands s (after_answer x answer now o) (told m a ∷ ms)) is.purpose
    (subst (λ x. OwnStands s (after_answer m.call.purpose x now o) (told m a ∷ ms)) is.told
    (subst (λ x. OwnStands s (after_answer m.call.purpose a.answer x o) (told m a ∷ ms)) is.reading so))
