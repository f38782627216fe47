-- What was done to stop a session stays done as the step goes on.
use Rattle.sl_due_facts.specs.Acts.TraceSoFar.{entry_of}
use Rattle.sl_due.specs.Steps.{Step, add_call_of, add_end, add_grant, add_move, add_reply, add_signal, add_start}
use Rattle.sl_due_facts.proofs.Jobs.JobFactsGrow.{contains_left}
use Rattle.sl_due_facts.proofs.Jobs.NearlyPlainActs.{Nearly}
use Rattle.sl_due_facts.proofs.Jobs.SessionsStand.{reply_leaving}
use Rattle.sl_run.specs.LawfulRecovery.{IsToldToStop, StopsSession}
use Rattle.sl_due_law.specs.Recovery.Stops.{Stops}
use Rattle.sl_trace.specs.declared.session.Session.{Session}
use Rattle.sl_trace.specs.EffectTexts.{is_ok_reply}
use Rattle.sl_trace.specs.Traces.{Setting, Trace}
use Rattle.sl_trace.specs.declared.effects.Entry.{Entry}
use Rattle.sl_trace.specs.declared.effects.JobReply.{JobReply}
use Rattle.sl_trace.specs.declared.effects.Sent.{Sent}
use Rattle.sl_trace.specs.declared.effects.Signal.{Signal}
use Rattle.sl_trace.specs.declared.effects.Signal.TheVariants.{Term}
use Rattle.sl_trace.specs.declared.effects.Start.{Start}
use Rattle.sl_trace.specs.declared.input.Input.{Input}
use Rattle.sl_trace.specs.declared.reply.Reply.{Reply}
use Rattle.std.proofs.Common.{inl, inr, refl, subst}
use Rattle.std.specs.Prelude.{Contains, IsFalse, None, Option, Some, [], ℕ, ◌∷◌, ◌≡◌}

pub stops_grown : (st : Setting) (past : Trace) (e f : Entry) (s : Session) (kept_one : Option ℕ) → ((d : Sent) → Contains e.effects.signals d → Contains f.effects.signals d)
    → ((d : Start) → Contains e.effects.starts d → Contains f.effects.starts d) → ((d : JobReply) → Contains e.effects.replies d → Contains f.effects.replies d)
    → StopsSession st past e s kept_one → StopsSession st past f s kept_one
stops_grown st past e f s kept_one signals starts replies h = record { term = λ p there. told p (h.term p there); refused = λ j there other. more (h.refused j there other) } where
  told : (p : ℕ) → IsToldToStop st past e p → IsToldToStop st past f p
  told p (inl sent) = inl (signals (record { process = p; signal = Term }) sent)
  told p (inr stopped) = inr (stopped.0, starts stopped.0 stopped.1, stopped.2, stopped.3)

  more : {j : ℕ} → ((r : Reply) × Contains e.effects.replies (record { job = j; reply = r }) × IsFalse (is_ok_reply r)) → (r : Reply) × Contains f.effects.replies (record { job = j; reply = r }) × IsFalse (is_ok_reply r)
  more {j} h = (h.0, replies (record { job = j; reply = h.0 }) h.1, h.2)

-- What doesn't touch signals, starts and replies.
pub same_stop : (st : Setting) (past : Trace) (e f : Entry) (s : Session) (kept_one : Option ℕ) → e.effects.signals ≡ f.effects.signals → e.effects.starts ≡ f.effects.starts → e.effects.replies ≡ f.effects.replies
    → StopsSession st past e s kept_one → StopsSession st past f s kept_one
same_stop st past e f s kept_one signals starts replies h =
    stops_grown st past e f s kept_one (λ d there. subst (λ ds. Contains ds d) signals there) (λ d there. subst (λ ds. Contains ds d) starts there) (λ d there. subst (λ ds. Contains ds d) replies there) h

pub signal_grown : (x : Step) (p : ℕ) (g : Signal) (st : Setting) (past : Trace) (s : Session) (kept_one : Option ℕ) → StopsSession st past (entry_of x) s kept_one → StopsSession st past (entry_of (add_signal p g x)) s kept_one
signal_grown x p g st past s kept_one h =
    stops_grown st past (entry_of x) (entry_of (add_signal p g x)) s kept_one (λ d there. contains_left x.effects.signals (record { process = p; signal = g } ∷ []) d there) (λ d there. there) (λ d there. there) h

pub start_grown : (x : Step) (k : Start) (st : Setting) (past : Trace) (s : Session) (kept_one : Option ℕ) → StopsSession st past (entry_of x) s kept_one → StopsSession st past (entry_of (add_start k x)) s kept_one
start_grown x k st past s kept_one h =
    stops_grown st past (entry_of x) (entry_of (add_start k x)) s kept_one (λ d there. there) (λ d there. contains_left x.effects.starts (k ∷ []) d there) (λ d there. there) h

pub reply_grown : (x : Step) (j : ℕ) (r : Reply) (st : Setting) (past : Trace) (s : Session) (kept_one : Option ℕ) → StopsSession st past (entry_of x) s kept_one → StopsSession st past (entry_of (add_reply j r x)) s kept_one
reply_grown x j r st past s kept_one h =
    stops_grown st past (entry_of x) (entry_of (add_reply j r x)) s kept_one (λ d there. there) (λ d there. there) (λ d there. contains_left x.effects.replies (record { job = j; reply = r } ∷ []) d there) h

-- The rest of a stop is in the same three lists.
pub itself_grown : (x y : Step) (st : Setting) (past : Trace) (s : Session) (kept_one : Option ℕ) → x.effects.signals ≡ y.effects.signals → x.effects.starts ≡ y.effects.starts → x.effects.replies ≡ y.effects.replies
    → StopsSession st past (entry_of x) s kept_one → StopsSession st past (entry_of y) s kept_one
itself_grown x y st past s kept_one signals starts replies h = same_stop st past (entry_of x) (entry_of y) s kept_one signals starts replies h

-- So each effect keeps that the sessions were stopped.
pub stops_effects : (f : Input → Option ℕ) → Nearly (λ y. Stops y (f y.input))
stops_effects f =
    record {
      ends = λ y e h. record {
        recovers = λ s b there is at other. itself_grown y (add_end e y) y.setting y.past s None refl refl refl (h.recovers s b there is at other);
        leaves = λ s j there is at. itself_grown y (add_end e y) y.setting y.past s (Some j.number) refl refl refl (h.leaves s j there is at);
      };
      signals = λ y q signal h. record {
        recovers = λ s b there is at other. signal_grown y q signal y.setting y.past s None (h.recovers s b there is at other);
        leaves = λ s j there is at. signal_grown y q signal y.setting y.past s (Some j.number) (h.leaves s j there is at);
      };
      moves = λ y m may h. record {
        recovers = λ s b there is at other. itself_grown y (add_move m y) y.setting y.past s None refl refl refl (h.recovers s b there is at other);
        leaves = λ s j there is at. itself_grown y (add_move m y) y.setting y.past s (Some j.number) refl refl refl (h.leaves s j there is at);
      };
      grants = λ y g h. record {
        recovers = λ s b there is at other. itself_grown y (add_grant g y) y.setting y.past s None refl refl refl (h.recovers s b there is at other);
        leaves = λ s j there is at. itself_grown y (add_grant g y) y.setting y.past s (Some j.number) refl refl refl (h.leaves s j there is at);
      };
      starts = λ y k may h. record {
        recovers = λ s b there is at other. start_grown y k y.setting y.past s None (h.recovers s b there is at other);
        leaves = λ s j there is at. start_grown y k y.setting y.past s (Some j.number) (h.leaves s j there is at);
      };
      replies = λ y j r may h. record {
        recovers = λ s b there is at other. reply_grown y j r y.setting y.past s None (h.recovers s b there is at other);
        leaves = λ s k there is at. reply_grown y j r y.setting y.past s (Some k.number) (h.leaves s k there (reply_leaving y j r s k is) at);
      };
      calls = λ y s path p o op no_look h. record {
        recovers = λ z b there is at other. itself_grown y (add_call_of s.number path p o op y) y.setting y.past z None refl refl refl (h.recovers z b there is at other);
        leaves = λ z j there is at. itself_grown y (add_call_of s.number path p o op y) y.setting y.past z (Some j.number) refl refl refl (h.leaves z j there is at);
      };
      rest = λ y h. h;
    }
