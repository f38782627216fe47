-- No recovery begins by an answer to work on an area..
use Rattle.sl_due_facts.proofs.Jobs.QuietFactsConclude.{begun_where}
use Rattle.sl_due_facts.specs.Acts.Acts.{Hears}
use Rattle.sl_due_facts.specs.Acts.TraceSoFar.{entry_of}
use Rattle.sl_due.specs.CarriedDelta.{begins_by_read}
use Rattle.sl_due.specs.Steps.{Step, seen}
use Rattle.sl_due_leases.proofs.Ways.WayFactsHeld.HeardStands.{heard_calls}
use Rattle.sl_due_leases.proofs.Ways.WayFactsHeld.InputsLeave.{same_call}
use Rattle.sl_words.proofs.Lists.{contains_map, find_inside}
use Rattle.sl_trace.specs.Sessions.{generation_of, is_call_of, is_survey_purpose, recovery_of, renewing, shows_other, shows_other_in}
use Rattle.sl_trace.specs.declared.session.Begun.{Begun}
use Rattle.sl_trace.specs.declared.session.Session.{Session}
use Rattle.sl_due_facts.specs.Facts.AllFacts.{Whole}
use Rattle.sl_trace.specs.Traces.{Setting, Submitted, Trace, answered_in, call_numbered, submitted}
use Rattle.sl_trace.specs.declared.effects.Call.{Call}
use Rattle.sl_trace.specs.declared.input.Answer.TheVariants.{Failed, Read, Written}
use Rattle.sl_trace.specs.declared.input.Answer.{Answer}
use Rattle.sl_trace.specs.declared.input.Input.TheVariants.{Answer as Told}
use Rattle.sl_words.proofs.CaseLaws.{false_is_true, is_false, none_some, one_value, true_is_false}
use Rattle.sl_words.proofs.WordLaws.{and_true, some_is_true}
use Rattle.sl_words.specs.Words.{choose, some_is}
use Rattle.std.proofs.Common.{ap, arith, eqb-true, inl, inr, refl, subst, sym, ◌∙◌}
use Rattle.std.specs.Prelude.{Bool, Contains, List, None, Option, Some, [], false, length, true, ℕ, ◌&&◌, ◌+◌, ◌<◌, ◌==◌, ◌∷◌, ◌≡◌, ◌⊎◌}

-- A recovery from before has its kills from before.
kills_before : (st : Setting) (es : Trace) (s : Session) (b : Begun) → recovery_of st es s ≡ Some b → b.kills_from < length es + 1
kills_before st [] s b is = absurd (none_some b is)
kills_before st (e ∷ es) s b is = low (begun_where st es s (renewing st es s) e b is) (λ was. kills_before st es s b was) where
  low : ((recovery_of st es s ≡ Some b) ⊎ ((b.kills_from ≡ length es) ⊎ ((b.kills_from ≡ length es + 1) × (shows_other st es s e.input ≡ true)))) → (recovery_of st es s ≡ Some b → b.kills_from < length es + 1) → b.kills_from < length (e ∷ es) + 1
  low (inl was) more = let less : b.kills_from < length es + 1 = more was in omega (arith, less)
  low (inr (inl time)) more = omega (arith, time)
  low (inr (inr read_one)) more = let is_one : b.kills_from ≡ length es + 1 = read_one.0 in omega (arith, is_one)

-- The call that was heard is no read of all ids.
unshown : (x : Step) (z s : Session) (m : Submitted) (a : Answer) → (h : Hears x s m a) → is_survey_purpose m.call.purpose ≡ false → Whole x → shows_other x.setting x.past z x.input ≡ true → ⊥
unshown x z s m a h other w shows = by_answer a h.heard (subst (λ i. shows_other x.setting x.past z i ≡ true) h.heard shows) where
  its : (q : Submitted) → (answer : Answer) → x.input ≡ Told h.number answer → call_numbered x.past h.number ≡ Some q → is_survey_purpose q.call.purpose ≡ true → ⊥
  its q answer told found survey =
      let inside = find_inside (λ (k : Submitted). k.call.number == h.number) (submitted x.past) q found in
      let now : Submitted = answered_in x.past (entry_of x) h.number answer q in
      let there : Contains (submitted (seen x)) now =
      subst (λ ms. Contains ms now) (sym (heard_calls x h.number answer told h.bare)) (contains_map (answered_in x.past (entry_of x) h.number answer) (submitted x.past) q inside.0)
      in
      let call : now.call ≡ q.call = (same_call x.past (entry_of x) h.number answer q).0 in
      let same : now ≡ m =
      one_value now m (call_numbered (seen x) h.number)
      (ap (λ k. call_numbered (seen x) k) (sym (ap (λ (c : Call). c.number) call ∙ eqb-true q.call.number h.number inside.1)) ∙ w.facts.calls.found now there) h.call
      in
      true_is_false (sym (ap (λ (c : Call). is_survey_purpose c.purpose) call ∙ survey) ∙ (ap (λ (k : Submitted). is_survey_purpose k.call.purpose) same ∙ other))

  chosen : (bytes : List ℕ) (q : Submitted) → x.input ≡ Told h.number (Read bytes) → call_numbered x.past h.number ≡ Some q → (b : Bool) → (is_call_of z q && is_survey_purpose q.call.purpose) ≡ b
      → (elim (choose b bytes) as (λ k. Bool) [ None ↦ false | Some bs ↦ shows_other_in x.setting z.id (generation_of x.past z) bs ]) ≡ true → ⊥
  chosen bytes q told found false is shows = false_is_true shows
  chosen bytes q told found true is shows = its q (Read bytes) told found (and_true (is_call_of z q) (is_survey_purpose q.call.purpose) is).1

  by_call : (bytes : List ℕ) → x.input ≡ Told h.number (Read bytes) → (o : Option Submitted) → call_numbered x.past h.number ≡ o
      → (elim (choose (some_is (λ (k : Submitted). is_call_of z k && is_survey_purpose k.call.purpose) o) bytes) as (λ k. Bool) [ None ↦ false | Some bs ↦ shows_other_in x.setting z.id (generation_of x.past z) bs ]) ≡ true → ⊥
  by_call bytes told None found shows = false_is_true shows
  by_call bytes told (Some q) found shows = chosen bytes q told found (is_call_of z q && is_survey_purpose q.call.purpose) refl shows

  by_answer : (answer : Answer) → x.input ≡ Told h.number answer → shows_other x.setting x.past z (Told h.number answer) ≡ true → ⊥
  by_answer Written told shows = false_is_true shows
  by_answer Failed told shows = false_is_true shows
  by_answer (Read bytes) told shows = by_call bytes told (call_numbered x.past h.number) refl shows

one_more : (a n : ℕ) → a < n + 1 → a ≡ n + 1 → ⊥
one_more a n less is = omega (arith, less, is)

not_same : (a n : ℕ) → a ≡ n → a ≡ n + 1 → ⊥
not_same a n one other = omega (arith, one, other)

seen_length : (x : Step) (a : ℕ) → a ≡ length (seen x) → a ≡ length x.past + 1
seen_length x a is = omega (arith, is)

-- So no recovery begins by the read whose answer that was.
pub not_by_read : (x : Step) (z s : Session) (m : Submitted) (a : Answer) → (h : Hears x s m a) → is_survey_purpose m.call.purpose ≡ false → Whole x → begins_by_read (seen x) (recovery_of x.setting (seen x) z) ≡ false
not_by_read x z s m a h other w = is_false (begins_by_read (seen x) (recovery_of x.setting (seen x) z)) (λ begins.
    let begun = some_is_true (λ (b : Begun). b.kills_from == length (seen x)) (recovery_of x.setting (seen x) z) begins in
    by begun.0 (seen_length x begun.0.kills_from (eqb-true begun.0.kills_from (length (seen x)) begun.2)) (begun_where x.setting x.past z (renewing x.setting x.past z) (entry_of x) begun.0 begun.1))
  where
    by : (b : Begun) → b.kills_from ≡ length x.past + 1 → (recovery_of x.setting x.past z ≡ Some b) ⊎ ((b.kills_from ≡ length x.past) ⊎ ((b.kills_from ≡ length x.past + 1) × (shows_other x.setting x.past z x.input ≡ true))) → ⊥
    by b kills (inl was) = one_more b.kills_from (length x.past) (kills_before x.setting x.past z b was) kills
    by b kills (inr (inl time)) = not_same b.kills_from (length x.past) time kills
    by b kills (inr (inr read_one)) = unshown x z s m a h other w read_one.1
