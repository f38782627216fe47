-- That no job goes on under a session in recovery or leaving is kept by each effect, by other inputs than lines, and by lines.
use Rattle.sl_due_facts.specs.Acts.TraceSoFar.{entry_of}
use Rattle.sl_due.specs.Steps.{Step, add_move, add_reply, seen}
use Rattle.sl_due_facts.proofs.Jobs.NearlyPlainActs.{Nearly}
use Rattle.sl_due_facts.proofs.Jobs.SessionsStand.{leaving_joined, move_joined, no_members, recovery_joined, reply_joined, reply_leaving, running_before}
use Rattle.sl_trace.specs.Jobs.{is_command_that, jobs_of_session, lockspace_named}
use Rattle.sl_due_facts.proofs.AddedEffects.CallsGrow.{same_sessions}
use Rattle.sl_words.proofs.Lists.{contains_none, kept, kept_inside}
use Rattle.sl_words.proofs.Numbers.{number_itself}
use Rattle.sl_words.proofs.Options.{some_there}
use Rattle.sl_trace.specs.Sessions.{is_joined, is_recovering, leaving_job, recovers, recovery_of, renewed_by, renewing, renewing_after, shows_other}
use Rattle.sl_trace.specs.declared.session.Begun.{Begun}
use Rattle.sl_trace.specs.declared.session.Renewing.{Renewing}
use Rattle.sl_trace.specs.declared.session.Session.{Session}
use Rattle.sl_due_facts.specs.Facts.SessionFacts.{QuietFacts}
use Rattle.sl_time.specs.Times.{fail}
use Rattle.sl_trace.specs.Traces.{Job, Setting, Trace, is_running, jobs, next_call, running_jobs}
use Rattle.sl_trace.specs.declared.command.Command.{Command}
use Rattle.sl_trace.specs.declared.effects.Call.{Call}
use Rattle.sl_trace.specs.declared.effects.Entry.{Entry}
use Rattle.sl_trace.specs.declared.effects.Op.{Op}
use Rattle.sl_trace.specs.declared.effects.Purpose.{Purpose}
use Rattle.sl_trace.specs.declared.input.Input.{Input}
use Rattle.sl_trace.specs.declared.input.Input.TheVariants.{Wake}
use Rattle.sl_trace.specs.declared.reply.Reply.{Reply}
use Rattle.sl_words.proofs.CaseLaws.{none_some, not_both, some_value}
use Rattle.sl_words.proofs.WordLaws.{and_true}
use Rattle.sl_words.specs.Words.{some_is}
use Rattle.std.proofs.Common.{ap₂, refl, subst, sym, ◌∙◌}
use Rattle.std.specs.Prelude.{Bool, Contains, List, None, Option, Some, [], bytes_eq, false, is_some, length, nat_le, true, unwrap_or, ℕ, ◌&&◌, ◌+◌, ◌==◌, ◌∷◌, ◌≡◌}

abbrev pub names_it : Session → Command → Bool
names_it s c = some_is (λ n. bytes_eq n s.lockspace) (lockspace_named c)

-- ---- effects

pub job_before : (y : Step) (j : ℕ) (r : Reply) (s : Session) (k : Job) → Contains (jobs_of_session y.setting (seen (add_reply j r y)) s) k → Contains (jobs_of_session y.setting (seen y) s) k
job_before y j r s k there =
    let named = kept_inside (is_command_that (names_it s)) (running_jobs y.setting (seen (add_reply j r y))) k there in
    let runs = kept_inside (λ (i : Job). is_running (seen (add_reply j r y)) i.number) (jobs y.setting (seen y)) k named.0 in
    kept (is_command_that (names_it s)) (running_jobs y.setting (seen y)) k named.1
    (kept (λ (i : Job). is_running (seen y) i.number) (jobs y.setting (seen y)) k (running_before y j r k.number runs.1) runs.0)

pub is_recovering_parts : (st : Setting) (t : Trace) (s : Session) → is_recovering st t s ≡ true → (is_joined t s ≡ true) × (is_some (recovery_of st t s) ≡ true)
is_recovering_parts st t s is = and_true (is_joined t s) (is_some (recovery_of st t s)) is

pub quiet_effects : (f : Input → Option ℕ) → Nearly (λ y. QuietFacts y.setting (seen y) (f y.input))
quiet_effects f =
    record {
      ends = λ y e h. record { recovering = h.recovering; leaving = h.leaving };
      signals = λ y q signal h. record { recovering = h.recovering; leaving = h.leaving };
      moves = λ y m may h. record {
        recovering = λ s there is other.
            let both = is_recovering_parts y.setting (seen (add_move m y)) s is in h.recovering s there (ap₂ (λ a b. a && b) (move_joined y m s both.0) both.1) other;
        leaving = λ s k j there joined leaves inside. h.leaving s k j there (move_joined y m s joined) leaves inside;
      };
      grants = λ y g h. record { recovering = h.recovering; leaving = h.leaving };
      starts = λ y k may h. record { recovering = h.recovering; leaving = h.leaving };
      replies = λ y j r may h. record {
        recovering = λ s there is other.
            let both = is_recovering_parts y.setting (seen (add_reply j r y)) s is in
            let begun = some_there (recovery_of y.setting (seen y) s) both.1 in
            let joined : is_joined (seen y) s ≡ true = sym (reply_joined y j r s (recovery_joined y.setting (entry_of y) y.past s begun.0 begun.1)) ∙ both.0 in
            let none : jobs_of_session y.setting (seen y) s ≡ [] = h.recovering s there (ap₂ (λ a b. a && b) joined both.1) other in
            no_members (jobs_of_session y.setting (seen (add_reply j r y)) s) (λ k inside. contains_none k (subst (λ ks. Contains ks k) none (job_before y j r s k inside)));
        leaving = λ s k i there joined leaves inside.
            let before : leaving_job y.setting (seen y) s ≡ Some k = reply_leaving y j r s k leaves in
            h.leaving s k i there (sym (reply_joined y j r s (leaving_joined y.setting (entry_of y) y.past s k before)) ∙ joined) before (job_before y j r s i inside);
      };
      calls = λ y s path p o op no_look h. record {
        recovering = λ z there is other. h.recovering z (subst (λ ss. Contains ss z) (same_sessions y.setting (entry_of y) y.past (made y s path p o op) no_look) there) is other;
        leaving = λ z k j there joined leaves inside. h.leaving z k j (subst (λ ss. Contains ss z) (same_sessions y.setting (entry_of y) y.past (made y s path p o op) no_look) there) joined leaves inside;
      };
      rest = λ y h. h;
    } where
      made : Step → Session → List ℕ → Purpose → ℕ → Op → Call
      made y s path p o op = record { number = next_call y.setting (seen y); session = s.number; purpose = p; path = path; offset = o; op = op }

-- ---- other inputs than lines

abbrev pub by_input : Step → Input → Entry
by_input x i = record { reading = x.reading; input = i; effects = x.effects }

-- Where recovery hasn't begun by the read of the input, it had begun on the wake before.
pub recovery_told : (x : Step) (i : Input) (s : Session) (b : Begun) → recovery_of x.setting (by_input x i ∷ x.past) s ≡ Some b → (b.kills_from == length x.past + 1) ≡ false
    → recovery_of x.setting (by_input x Wake ∷ x.past) s ≡ Some b
recovery_told x i s b is other = by (renewing x.setting x.past s) refl is where
  by_read : (r : Renewing) (o : Bool) → r.recovery ≡ None
      → (elim o as (λ z. Renewing) [ true ↦ recovers x.past (by_input x i) (length x.past + 1) r | false ↦ record { last = unwrap_or (renewed_by x.past s i) r.last; recovery = r.recovery } ]).recovery ≡ Some b → ⊥
  by_read r true none h = not_both (b.kills_from == length x.past + 1) (subst (λ (z : Begun). (z.kills_from == length x.past + 1) ≡ true) (some_value (record { at = length x.past; reading = x.reading; kills_from = length x.past + 1 }) b h) (number_itself (length x.past + 1))) other
  by_read r false none h = none_some b (sym none ∙ h)

  by_time : (r : Renewing) (o : Bool) → r.recovery ≡ None
      → (elim o as (λ z. Renewing) [
        | true ↦ recovers x.past (by_input x i) (length x.past) r
        | false ↦ elim (is_joined x.past s && shows_other x.setting x.past s i) as (λ z. Renewing) [ true ↦ recovers x.past (by_input x i) (length x.past + 1) r | false ↦ record { last = unwrap_or (renewed_by x.past s i) r.last; recovery = r.recovery } ]
      ]).recovery ≡ Some b
      → (elim o as (λ z. Renewing) [
        | true ↦ recovers x.past (by_input x Wake) (length x.past) r
        | false ↦ elim (is_joined x.past s && shows_other x.setting x.past s Wake) as (λ z. Renewing) [ true ↦ recovers x.past (by_input x Wake) (length x.past + 1) r | false ↦ record { last = unwrap_or (renewed_by x.past s Wake) r.last; recovery = r.recovery } ]
      ]).recovery ≡ Some b
  by_time r true none h = h
  by_time r false none h = absurd (by_read r (is_joined x.past s && shows_other x.setting x.past s i) none h)

  by : (r : Renewing) → renewing x.setting x.past s ≡ r → (renewing_after x.setting x.past s r (by_input x i)).recovery ≡ Some b → (renewing_after x.setting x.past s r (by_input x Wake)).recovery ≡ Some b
  by r was h = by_begun r r.recovery refl h where
    by_begun : (q : Renewing) (o : Option Begun) → q.recovery ≡ o
        → (elim o as (λ z. Renewing) [
          | Some c ↦ q
          | None ↦ elim (is_joined x.past s && nat_le (q.last + fail x.setting.timing) x.reading) as (λ z. Renewing) [
            | true ↦ recovers x.past (by_input x i) (length x.past) q
            | false ↦ elim (is_joined x.past s && shows_other x.setting x.past s i) as (λ z. Renewing) [ true ↦ recovers x.past (by_input x i) (length x.past + 1) q | false ↦ record { last = unwrap_or (renewed_by x.past s i) q.last; recovery = q.recovery } ]
          ]
        ]).recovery ≡ Some b
        → (elim o as (λ z. Renewing) [
          | Some c ↦ q
          | None ↦ elim (is_joined x.past s && nat_le (q.last + fail x.setting.timing) x.reading) as (λ z. Renewing) [
            | true ↦ recovers x.past (by_input x Wake) (length x.past) q
            | false ↦ elim (is_joined x.past s && shows_other x.setting x.past s Wake) as (λ z. Renewing) [ true ↦ recovers x.past (by_input x Wake) (length x.past + 1) q | false ↦ record { last = unwrap_or (renewed_by x.past s Wake) q.last; recovery = q.recovery } ]
          ]
        ]).recovery ≡ Some b
    by_begun q (Some c) begun h = h
    by_begun q None begun h = by_time q (is_joined x.past s && nat_le (q.last + fail x.setting.timing) x.reading) begun h
