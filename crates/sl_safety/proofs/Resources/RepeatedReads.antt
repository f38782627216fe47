-- A read that is made once more, in its session's trace: the session's newest call on the area before it is the first one, which is of the
-- same kind, and in whose answer some host's second sector is torn.
use Rattle.sl_area.specs.Pairs.{needs_again}
use Rattle.sl_run.specs.Lawful.{Orderly}
use Rattle.sl_run.specs.LawfulArea.{LawfulAgain, is_same_read}
use Rattle.sl_run.specs.LawForms.{cut_at}
use Rattle.sl_trace.specs.Leases.{Area_read, Leader_freed, Leader_taken, Mode_cleared, Mode_set, Phase1_read, Phase1_write, Phase2_read, Phase2_write, Read_before_block, Read_before_free, StepKind, blocks_bytes, is_again, is_at, kind_of_step, lease_calls, lease_step, same_kind, spot_of_call}
use Rattle.sl_trace.specs.Sessions.{session_numbered}
use Rattle.sl_trace.specs.Traces.{Setting, Submitted, Trace, new_call, submitted}
use Rattle.sl_trace.specs.declared.effects.Call.{Call}
use Rattle.sl_trace.specs.declared.effects.LeaseStep.{LeaseStep}
use Rattle.sl_trace.specs.declared.effects.Spot.{Spot}
use Rattle.sl_trace.specs.declared.effects.Work.{Work}
use Rattle.sl_trace.specs.declared.session.Session.{Session}
use Rattle.sl_run_law.proofs.Leases.AgeLaws.{aged_lease, bytes_stay}
use Rattle.sl_run_law.proofs.Leases.FrontLaws.{each_was_submitted, lawful_there}
use Rattle.sl_run_law.specs.Leases.CallFronts.{Aged, AllAged, LawfulSubmission, Submission}
use Rattle.sl_run_law.specs.Leases.Ways.{lease_among}
use Rattle.sl_words.proofs.CaseLaws.{false_is_true, none_some, one_value, some_value}
use Rattle.sl_words.specs.Words.{first_of_list, some_is}
use Rattle.std.proofs.Common.{ap, refl, subst, sym, ◌∙◌}
use Rattle.std.specs.Prelude.{Bool, List, None, Option, Some, [], false, length, true, ℕ, ◌++◌, ◌+◌, ◌∷◌, ◌≡◌}

-- ---- of one kind

same_is : (a b : StepKind) → same_kind a b ≡ true → a ≡ b
same_is Area_read Area_read h = refl
same_is Phase1_write Phase1_write h = refl
same_is Phase1_read Phase1_read h = refl
same_is Phase2_write Phase2_write h = refl
same_is Phase2_read Phase2_read h = refl
same_is Leader_taken Leader_taken h = refl
same_is Mode_set Mode_set h = refl
same_is Leader_freed Leader_freed h = refl
same_is Mode_cleared Mode_cleared h = refl
same_is Read_before_free Read_before_free h = refl
same_is Read_before_block Read_before_block h = refl
same_is a b h = absurd (false_is_true h)

abbrev kinds_are_one : Option (Work × LeaseStep) → Option (Work × LeaseStep) → Bool
kinds_are_one o q =
    elim o as (λ z. Bool) [
      | None ↦ false
      | Some x ↦ elim q as (λ z. Bool) [ None ↦ false | Some y ↦ same_kind (kind_of_step x.1) (kind_of_step y.1) ]
    ]

abbrev kind_is : StepKind → Option (Work × LeaseStep) → Bool
kind_is k o = some_is (λ (x : Work × LeaseStep). same_kind (kind_of_step x.1) k) o

kind_by : (k : StepKind) (o q : Option (Work × LeaseStep)) → kinds_are_one o q ≡ true → kind_is k o ≡ kind_is k q
kind_by k None q h = absurd (false_is_true h)
kind_by k (Some x) None h = absurd (false_is_true h)
kind_by k (Some x) (Some y) h = ap (λ a. same_kind a k) (same_is (kind_of_step x.1) (kind_of_step y.1) h)

-- Of two such calls each is at the other's kind.
pub same_at : (k : StepKind) (a b : Submitted) → is_same_read a b ≡ true → is_at k a ≡ is_at k b
same_at k a b h = kind_by k (lease_step a.call.purpose) (lease_step b.call.purpose) h

kind_at : (k : StepKind) (o : Option (Work × LeaseStep)) → kind_is k o ≡ true → (x : Work × LeaseStep) × (o ≡ Some x) × (kind_of_step x.1 ≡ k)
kind_at k None h = absurd (false_is_true h)
kind_at k (Some x) h = (x, refl, same_is (kind_of_step x.1) k h)

-- A call is at one kind alone.
pub one_kind : (a b : StepKind) (m : Submitted) → is_at a m ≡ true → is_at b m ≡ true → a ≡ b
one_kind a b m one two =
    let x = kind_at a (lease_step m.call.purpose) one in
    let y = kind_at b (lease_step m.call.purpose) two in
    sym x.2 ∙ ap (λ (z : Work × LeaseStep). kind_of_step z.1) (one_value x.0 y.0 (lease_step m.call.purpose) x.1 y.1) ∙ y.2

-- ---- in the trace

pub record AgainRests (st : Setting) (s : Session) (at : Spot) (older : List Submitted) (c : Submitted) : Type 0 where
  pub first : Submitted
  pub rest : List Submitted
  pub newest : lease_among st s at older ≡ first ∷ rest
  pub once : is_again first ≡ false
  pub same : is_same_read first c ≡ true
  pub bytes : List ℕ
  pub gave : blocks_bytes st.layout first ≡ Some bytes
  pub torn : needs_again st.layout bytes ≡ true

-- What became of the newest of these calls.
record BecameFirst (n : ℕ) (ys : List Submitted) (was : Submitted) : Type 0 where
  now : Submitted
  rest : List Submitted
  is : ys ≡ now ∷ rest
  aged : Aged n was now

became_first : (n : ℕ) (xs ys : List Submitted) (was : Submitted) → AllAged n xs ys → first_of_list xs ≡ Some was → BecameFirst n ys was
became_first n [] ys was h first = absurd (none_some was first)
became_first n (x ∷ xs) [] was h first = absurd h
became_first n (x ∷ xs) (y ∷ ys) was h first = record { now = y; rest = ys; is = refl; aged = subst (λ z. Aged n z y) (some_value x was first) h.0 }

rests_at : (st : Setting) (es : Trace) (s : Session) (at : Spot) (older : List Submitted) (c : Submitted) → (h : Submission es c older)
    → LawfulAgain st (cut_at h.place h.entry ∷ h.past) s at (new_call (length h.past) h.entry.reading h.call) → AgainRests st s at older c
rests_at st es s at older c h law =
    let t : Trace = cut_at h.place h.entry ∷ h.past in
    let n : ℕ = length h.past + 1 in
    let aged : AllAged n (lease_calls st t s at) (lease_among st s at older) = aged_lease st s at n (submitted t) older h.before in
    let f : BecameFirst n (lease_among st s at older) law.first = became_first n (lease_calls st t s at) (lease_among st s at older) law.first aged law.newest.0 in
    record {
      first = f.now;
      rest = f.rest;
      newest = f.is;
      once = ap (λ (y : Call). is_again (new_call 0 0 y)) f.aged.call ∙ law.newest.1;
      same = ap (λ (y : Call). is_same_read (new_call 0 0 y) c) f.aged.call ∙ ap (λ (y : Call). is_same_read law.first (new_call 0 0 y)) h.itself.call ∙ law.same;
      bytes = law.bytes;
      gave = bytes_stay st.layout n law.first f.now law.bytes f.aged law.torn.0;
      torn = law.torn.1;
    }

abbrev place : Setting → Call → Spot
place st c = spot_of_call st.layout (new_call 0 0 c)

rests : (st : Setting) (es : Trace) → Orderly st es → (older : List Submitted) (c : Submitted) → LawfulSubmission st es c older → is_again c ≡ true → (s : Session)
    → session_numbered st es c.call.session ≡ Some s → AgainRests st s (place st c.call) older c
rests st es law older c l again s numbered =
    let h : Submission es c older = l.submission in
    let t : Trace = cut_at h.place h.entry ∷ h.past in
    let called : c.call ≡ h.call = h.itself.call in
    let itself : l.session ≡ s = one_value l.session s (session_numbered st es c.call.session) l.kept numbered in
    let known : session_numbered st (h.entry ∷ h.past) h.call.session ≡ Some s = l.known ∙ ap (λ x. Some x) itself in
    let lawful : LawfulAgain st t s (place st h.call) (new_call (length h.past) h.entry.reading h.call) =
    (lawful_there st es law c older h).area.0.agains h.place h.call s h.there known (ap (λ (y : Call). is_again (new_call 0 0 y)) (sym called) ∙ again) in
    subst (λ x. AgainRests st s (place st x) older c) (sym called) (rests_at st es s (place st h.call) older c h lawful)

pub again_rests : (st : Setting) (es : Trace) → Orderly st es → (newer older : List Submitted) (c : Submitted) → submitted es ≡ newer ++ c ∷ older → is_again c ≡ true → (s : Session)
    → session_numbered st es c.call.session ≡ Some s → AgainRests st s (spot_of_call st.layout c) older c
again_rests st es law newer older c is again s numbered = rests st es law older c (each_was_submitted st es law newer older c is) again s numbered
