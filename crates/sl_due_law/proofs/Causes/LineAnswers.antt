-- What a line is answered at once has its cause in the entry that ends the step.
use Rattle.sl_due_law.proofs.Causes.RefusalsAreCaused.{inactive}
use Rattle.sl_due_law.proofs.Causes.LineCauses.{lines_are_caused}
use Rattle.sl_due_law.proofs.Causes.NamesBefore.{early_entry, joined_then, session_then, with_session}
use Rattle.sl_due_law.proofs.Causes.QuietMoves.{decisions_overlook}
use Rattle.sl_due_law.specs.Causes.LineCauses.{AnswersAfter, AnswersAreCaused, AtLine, StoppedAreCaused, WellDecided, stirred_entry}
use Rattle.sl_due.specs.DueCommands.{decided}
use Rattle.sl_due.specs.Steps.{seen}
use Rattle.sl_due.specs.declared.decision.Decision.{Decision}
use Rattle.sl_due_leases.proofs.Holdings.PlainPlaces.{text_is}
use Rattle.sl_due_facts.proofs.Jobs.SessionsArePresent.{present_is}
use Rattle.sl_run.specs.Caused.{Answering, CausedBy, after_entry, before_entry, the_session}
use Rattle.sl_trace.specs.Jobs.{lockspace_named}
use Rattle.sl_words.proofs.Lists.{find_inside}
use Rattle.sl_words.proofs.Options.{then_value}
use Rattle.sl_trace.specs.Sessions.{is_active, is_joined, last_renewal, present_sessions, session_named, sessions}
use Rattle.sl_trace.specs.declared.session.Session.{Session}
use Rattle.sl_trace.specs.declared.command.Command.{Command}
use Rattle.sl_trace.specs.declared.reply.Reply.TheVariants.{Recovering}
use Rattle.std.proofs.lemmas.List.{append-nil}
use Rattle.sl_trace.specs.Traces.{Setting, Trace}
use Rattle.sl_trace.specs.declared.effects.Call.{Call}
use Rattle.sl_trace.specs.declared.effects.End.{End}
use Rattle.sl_trace.specs.declared.effects.Grant.{Grant}
use Rattle.sl_trace.specs.declared.effects.JobReply.{JobReply}
use Rattle.sl_trace.specs.declared.effects.Start.{Start}
use Rattle.sl_trace.specs.declared.input.Input.TheVariants.{Wake}
use Rattle.sl_trace.specs.declared.input.Input.{Input}
use Rattle.std.proofs.Common.{ap, refl, subst, sym, ◌∙◌}
use Rattle.std.specs.Prelude.{Contains, Err, IsFalse, IsSomeAnd, IsTrue, List, None, Ok, Option, Result, Some, [], bytes_eq, filter, is_some, option_and_then, true, ℕ, ◌∷◌, ◌≡◌}

pub answers_are_caused : AnswersAreCaused
answers_are_caused x y c r early after h is = subst (λ d. WellDecided y d) (same ∙ is) (lines_are_caused y c h) where
  made : Input → List End → List Grant → List Call → Trace
  made i es gs ks =
      record {
        reading = x.reading;
        input = i;
        effects = record { ends = es; signals = x.effects.signals; moves = x.effects.moves; grants = gs; starts = x.effects.starts; replies = x.effects.replies; calls = ks };
      } ∷ x.past

  bare : seen x ≡ (stirred_entry x.reading x.effects.starts x.effects.replies x.effects.moves x.effects.signals ∷ x.past)
  bare =
      ap (λ i. made i x.effects.ends x.effects.grants x.effects.calls) early.wake
      ∙ (ap (λ es. made Wake es x.effects.grants x.effects.calls) early.unended ∙ (ap (λ gs. made Wake [] gs x.effects.calls) early.ungranted ∙ ap (λ ks. made Wake [] [] ks) early.uncalled))

  told : decided x.setting (seen x) x.reading c ≡ decided x.setting (early_entry x.reading x.effects.starts x.effects.replies ∷ x.past) x.reading c
  told =
      ap (λ t. decided x.setting t x.reading c) bare
      ∙ decisions_overlook x.setting x.past x.reading x.effects.starts x.effects.replies x.effects.moves x.effects.signals early.leaves x.reading c

  at : Setting → Trace → ℕ → List Start → List JobReply → Decision
  at st past now ks rs = decided st (early_entry now ks rs ∷ past) now c

  entry : decided y.setting (before_entry y) y.entry.reading c ≡ at x.setting x.past x.reading x.effects.starts x.effects.replies
  entry =
      ap (λ rs. at y.setting y.past y.entry.reading (filter (λ (k : Start). is_some k.stands_for) y.entry.effects.starts) rs) after.replies
      ∙ (ap (λ ks. at y.setting y.past y.entry.reading ks x.effects.replies) after.starts
      ∙ (ap (λ now. at y.setting y.past now x.effects.starts x.effects.replies) after.reading
      ∙ (ap (λ t. at y.setting t x.reading x.effects.starts x.effects.replies) after.past ∙ ap (λ st. at st x.past x.reading x.effects.starts x.effects.replies) after.setting)))

  same : decided y.setting (before_entry y) y.entry.reading c ≡ decided x.setting (seen x) x.reading c
  same = entry ∙ sym told

-- ---- what the session's recovery or leaving refuses

pub stopped_are_caused : StoppedAreCaused
stopped_are_caused x y c t early setting past reading starts replies h is = on (the_session z) refl (answers_are_caused x z c (Recovering t) early after at_line is) where
  z : Answering
  z = record { setting = y.setting; past = y.past; entry = early_entry y.entry.reading x.effects.starts x.effects.replies; job = y.job }

  after : AnswersAfter x z
  after = record { setting = setting; past = past; reading = reading; starts = starts; replies = replies }

  at_line : AtLine z c
  at_line = record { whole = h.whole; command = h.command; at = h.at }

  found : (s : Session) → the_session z ≡ Some s → is_joined y.past s ≡ true → the_session y ≡ Some s
  found s its joined = session_then y c s h.whole inside joined h.command (by_name.1 ∙ ap (λ n. Some n) (sym name)) where
    by_name : (n : List ℕ) × (lockspace_named c ≡ Some n) × (session_named y.setting (before_entry z) n ≡ Some s)
    by_name =
        then_value (session_named y.setting (before_entry z)) (lockspace_named c) s
        (sym (ap (λ (r : Result Command ℕ). elim r as (λ z. Option Session) [ Ok d ↦ option_and_then (session_named y.setting (before_entry z)) (lockspace_named d) | Err e ↦ None ]) h.command) ∙ its)

    there : Contains (present_sessions y.setting (before_entry z)) s × (bytes_eq s.lockspace by_name.0 ≡ true)
    there = find_inside (λ (q : Session). bytes_eq q.lockspace by_name.0) (present_sessions y.setting (before_entry z)) s by_name.2

    name : s.lockspace ≡ by_name.0
    name = text_is s.lockspace by_name.0 there.1

    inside : Contains (sessions y.setting y.past) s
    inside = subst (λ ss. Contains ss s) (append-nil (sessions y.setting y.past)) (present_is y.setting (before_entry z) s there.0).0

  on : (o : Option Session) → the_session z ≡ o
      → IsSomeAnd o (λ s. IsTrue (is_joined z.past s) × IsFalse (is_active z.setting (after_entry z) s) × (last_renewal z.setting (before_entry z) s ≡ t)) → CausedBy y (Recovering t)
  on None its v = absurd v
  on (Some s) its v =
      with_session y s (λ s. IsTrue (is_joined y.past s) × IsFalse (is_active y.setting (after_entry y) s) × (last_renewal y.setting (before_entry y) s ≡ t)) (found s its v.0)
      (v.0, inactive y x.effects.starts x.effects.replies s (joined_then y.past y.entry.reading x.effects.starts x.effects.replies s v.0) v.1, v.2)
