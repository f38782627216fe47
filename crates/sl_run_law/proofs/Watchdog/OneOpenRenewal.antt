-- Renewals: one is open at a time, so the last that counts moves on.
use Rattle.sl_run.proofs.LawFacts.{orderly-front}
use Rattle.sl_run.specs.Lawful.{Orderly}
use Rattle.sl_run.specs.LawForms.{cut_at}
use Rattle.sl_words.proofs.Lists.{contains_cases, contains_none, got_inside}
use Rattle.sl_run_law.proofs.Sessions.TraceGrowth.{mine_marked, mine_next, other_next, to_all}
use Rattle.sl_run_law.proofs.Sessions.CallsAreMade.{old_or_new, was_marked}
use Rattle.sl_run_law.proofs.Sessions.CallOwners.{is_the_one, session_more}
use Rattle.sl_run_law.specs.Sessions.SessionLaws.{IsSession}
use Rattle.sl_trace.specs.Sessions.{calls_of, is_delta_purpose, is_renewal, last_renewal, session_numbered}
use Rattle.sl_trace.specs.declared.session.Session.{Session}
use Rattle.sl_trace.specs.Traces.{Setting, Submitted, Trace, call_numbered, is_answer_for, is_write, mark, new_call, submitted}
use Rattle.sl_trace.specs.declared.effects.Call.{Call}
use Rattle.sl_trace.specs.declared.effects.Entry.{Entry}
use Rattle.sl_trace.specs.declared.effects.Op.TheVariants.{ReadSectors, WriteRecord}
use Rattle.sl_trace.specs.declared.effects.Op.{Op}
use Rattle.sl_trace.specs.declared.effects.Purpose.TheVariants.{RequestRead, RequestWrite, Joining, Lease, Leaving, Renewal, SeeRequest, Survey, ValueRead, ValueWrite}
use Rattle.sl_trace.specs.declared.effects.Purpose.{Purpose}
use Rattle.sl_trace.specs.declared.input.Answer.TheVariants.{Written}
use Rattle.sl_run_law.proofs.Watchdog.FoundCalls.{call_inside, open_delta}
use Rattle.sl_run_law.proofs.Watchdog.TraceNumbers.{answered_call}
use Rattle.sl_run_law.proofs.Watchdog.Readings.{Counts, NextRenewal, Stays, given_reading, next_renewal, renewal_reading, told}
use Rattle.sl_run_law.proofs.Watchdog.ConnectionStands.{older_call}
use Rattle.sl_run_law.specs.Watchdog.ActingTimes.{renewal_told}
use Rattle.sl_words.proofs.CaseLaws.{false_is_true, one_value, true_is_false}
use Rattle.std.proofs.Common.{ap, arith, inl, inr, refl, subst, sym, ◌∙◌}
use Rattle.std.proofs.lemmas.Bool.{eqb-true}
use Rattle.std.specs.Prelude.{Bool, Contains, List, None, Some, [], false, length, slice_get, suc, true, ℕ, ◌==◌, ◌∷◌, ◌≡◌, ◌≤◌, ◌⊎◌}

-- ---- one open call on a delta sector

abbrev OneOpen : List Submitted → Type 0
OneOpen ms =
    (m n : Submitted) → Contains ms m → Contains ms n → is_delta_purpose m.call.purpose ≡ true → is_delta_purpose n.call.purpose ≡ true → m.answer ≡ None → n.answer ≡ None
    → m.reading ≡ n.reading

abbrev NoneOpen : List Submitted → Type 0
NoneOpen ms = (m : Submitted) → Contains ms m → is_delta_purpose m.call.purpose ≡ true → m.answer ≡ None → ⊥

one_marked : (es : Trace) (e : Entry) (ms : List Submitted) → OneOpen ms → OneOpen (mark es e e.input ms)
one_marked es e ms one m n a b p q none unmet =
    let v = was_marked es e e.input ms m a in
    let w = was_marked es e e.input ms n b in
    v.same.reading
    ∙ one v.before w.before v.inside w.inside (ap (λ c. is_delta_purpose c.purpose) (sym v.same.call) ∙ p) (ap (λ c. is_delta_purpose c.purpose) (sym w.same.call) ∙ q)
    (v.unmet none) (w.unmet unmet)
    ∙ sym w.same.reading

one_by : (x : Submitted) (ms : List Submitted) (m n : Submitted) → OneOpen ms → (is_delta_purpose x.call.purpose ≡ true → NoneOpen ms) → (x ≡ m) ⊎ Contains ms m → (x ≡ n) ⊎ Contains ms n
    → is_delta_purpose m.call.purpose ≡ true → is_delta_purpose n.call.purpose ≡ true → m.answer ≡ None → n.answer ≡ None → m.reading ≡ n.reading
one_by x ms m n one alone (inl a) (inl b) p q none unmet = ap (λ (y : Submitted). y.reading) (sym a ∙ b)
one_by x ms m n one alone (inl a) (inr b) p q none unmet = absurd (alone (ap (λ (y : Submitted). is_delta_purpose y.call.purpose) a ∙ p) n b q unmet)
one_by x ms m n one alone (inr a) (inl b) p q none unmet = absurd (alone (ap (λ (y : Submitted). is_delta_purpose y.call.purpose) b ∙ q) m a p none)
one_by x ms m n one alone (inr a) (inr b) p q none unmet = one m n a b p q none unmet

one_next : (x : Submitted) (ms : List Submitted) → OneOpen ms → (is_delta_purpose x.call.purpose ≡ true → NoneOpen ms) → OneOpen (x ∷ ms)
one_next x ms one alone m n a b p q none unmet = one_by x ms m n one alone (contains_cases x ms m a) (contains_cases x ms n b) p q none unmet

one_call : (st : Setting) (e : Entry) (past : Trace) (s : Session) → Orderly st (e ∷ past) → ((x : Session) → session_numbered st (e ∷ past) s.number ≡ Some x → x ≡ s)
    → (k : ℕ) (c : Call) → slice_get e.effects.calls k ≡ Some c → (b : Bool) → (c.session == s.number) ≡ b → OneOpen (calls_of (cut_at k e ∷ past) s) → OneOpen (calls_of (cut_at (suc k) e ∷ past) s)
one_call st e past s h same k c at false other one = subst OneOpen (sym (other_next past e s k c at other)) one
one_call st e past s h same k c at true mine one =
    let number = eqb-true c.session s.number mine in
    let its = is_the_one (session_numbered st (e ∷ past) c.session) s (h.calls.0.owned c (got_inside e.effects.calls k c at))
    (λ x is. same x (ap (λ n. session_numbered st (e ∷ past) n) (sym number) ∙ is)) in
    subst OneOpen (sym (mine_next past e s k c at mine))
    (one_next (new_call (length past) e.reading c) (calls_of (cut_at k e ∷ past) s) one
    (λ is m there p none. true_is_false (sym (open_delta (cut_at k e ∷ past) s m there none p) ∙ h.delta.0.alone k c s at its is)))

one_open : (st : Setting) (es : Trace) (s : Session) → Orderly st es → ((x : Session) → session_numbered st es s.number ≡ Some x → x ≡ s) → OneOpen (calls_of es s)
one_open st [] s h same = λ m n a b p q none unmet. absurd (contains_none m a)
one_open st (e ∷ past) s h same =
    to_all (λ t. OneOpen (calls_of t s)) e past
    (subst OneOpen (sym (mine_marked past e s))
    (one_marked past (cut_at 0 e) (calls_of past s)
    (one_open st past s (orderly-front st (e ∷ []) past h) (λ x at. same x (session_more st e past s.number x at)))))
    (λ k c at one. one_call st e past s h same k c at (c.session == s.number) refl one)

-- ---- the renewal that an entry answers

delta_by : (p : Purpose) → is_renewal p ≡ true → is_delta_purpose p ≡ true
delta_by (Joining j step) h = refl
delta_by Renewal h = refl
delta_by Survey h = refl
delta_by (Leaving j) h = refl
delta_by (Lease work step) h = absurd (false_is_true h)
delta_by (RequestRead j) h = absurd (false_is_true h)
delta_by (RequestWrite j o) h = absurd (false_is_true h)
delta_by SeeRequest h = absurd (false_is_true h)
delta_by (ValueWrite j) h = absurd (false_is_true h)
delta_by (ValueRead j) h = absurd (false_is_true h)

written_by : (st : Setting) (op : Op) → is_answer_for st Written op ≡ true → is_write op ≡ true
written_by st (ReadSectors n) h = absurd (false_is_true h)
written_by st (WriteRecord r) h = refl

-- An open renewal of the session.
pub record IsOpenRenewal (es : Trace) (s : Session) (m : Submitted) : Type 0 where
  pub inside : Contains (submitted es) m
  pub mine : m.call.session ≡ s.number
  pub renews : is_renewal m.call.purpose ≡ true
  pub waits : m.answer ≡ None
  pub writes : is_write m.call.op ≡ true

pub told_is_open : (st : Setting) (e : Entry) (past : Trace) (s : Session) (m : Submitted) → Orderly st (e ∷ past) → renewal_told past s e.input ≡ Some m → IsOpenRenewal past s m
told_is_open st e past s m h is =
    let w = told past s e.input m is in
    let asked = answered_call st past e w.number Written h.is_trace w.told in
    let same : asked.0 ≡ m = one_value asked.0 m (call_numbered past w.number) asked.1.found w.found in
    record {
      inside = subst (λ x. Contains (submitted past) x) same asked.1.inside;
      mine = eqb-true m.call.session s.number w.its;
      renews = w.renews;
      waits = subst (λ (x : Submitted). x.answer ≡ None) same asked.1.waits;
      writes = subst (λ (x : Submitted). is_write x.call.op ≡ true) same (written_by st asked.0.call.op asked.1.kind);
    }

-- ---- an open renewal came after the last that counts

renewed_by_next : (st : Setting) (e : Entry) (past : Trace) (s : Session) (m b : Submitted) → Orderly st (e ∷ past) → IsSession st past s → Contains (submitted past) b → b.call.session ≡ s.number
    → is_renewal b.call.purpose ≡ true → b.answer ≡ None → m.reading ≡ b.reading → last_renewal st past s ≤ b.reading → NextRenewal st past s e → last_renewal st (e ∷ past) s ≤ m.reading
renewed_by_next st e past s m b h its there mine renews waits same before (Stays none is) = omega (arith, same, before, is)
renewed_by_next st e past s m b h its there mine renews waits same before (Counts n is told_is now) =
    let o = told_is_open st e past s n h told_is in
    let one = one_open st past s (orderly-front st (e ∷ []) past h) (λ x at. one_value x s (session_numbered st past s.number) at its) n b (call_inside past s n o.inside o.mine)
    (call_inside past s b there mine) (delta_by n.call.purpose o.renews) (delta_by b.call.purpose renews) o.waits waits in
    omega (arith, same, one, now)

pub renewed_after : (st : Setting) (es : Trace) (s : Session) (m : Submitted) → Orderly st es → IsSession st es s → Contains (submitted es) m → m.call.session ≡ s.number
    → is_renewal m.call.purpose ≡ true → m.answer ≡ None → last_renewal st es s ≤ m.reading
renewed_after st [] s m h its there mine renews waits = absurd (contains_none m there)
renewed_after st (e ∷ past) s m h its there mine renews waits =
    elim (old_or_new (length past) e.reading e.effects.calls (mark past e e.input (submitted past)) m there) as (λ z. last_renewal st (e ∷ past) s ≤ m.reading) [
      | inr new ↦
          let r = new.reading_is in
          let below = renewal_reading st (e ∷ past) s h.is_trace (given_reading st (e ∷ past) s.number s its) in
          omega (arith, r, below)
      | inl old ↦
          let w = older_call st e past s m h its old mine in
          let number = ap (λ c. c.session) (sym w.call) ∙ mine in
          let also = ap (λ c. is_renewal c.purpose) (sym w.call) ∙ renews in
          let before = renewed_after st past s w.before (orderly-front st (e ∷ []) past h) w.its w.inside number also (w.unmet waits) in
          renewed_by_next st e past s m w.before h w.its w.inside number also (w.unmet waits) w.reading before (next_renewal st past s e)
    ]

grows_by : (st : Setting) (e : Entry) (past : Trace) (s : Session) → Orderly st (e ∷ past) → IsSession st past s → NextRenewal st past s e → last_renewal st past s ≤ last_renewal st (e ∷ past) s
grows_by st e past s h its (Stays none is) = omega (arith, is)
grows_by st e past s h its (Counts n is told_is now) =
    let o = told_is_open st e past s n h told_is in
    let before = renewed_after st past s n (orderly-front st (e ∷ []) past h) its o.inside o.mine o.renews o.waits in
    omega (arith, before, now)

-- The last renewal that counts moves on.
pub renewal_grows : (st : Setting) (e : Entry) (past : Trace) (s : Session) → Orderly st (e ∷ past) → IsSession st past s → last_renewal st past s ≤ last_renewal st (e ∷ past) s
renewal_grows st e past s h its = grows_by st e past s h its (next_renewal st past s e)
