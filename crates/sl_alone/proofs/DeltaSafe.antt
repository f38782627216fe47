-- What no step of a delta lease does.
use Rattle.sl_alone.specs.DeltaLaws.{StepsAreSafe}
use Rattle.sl_delta.specs.OwnSector.{OwnState, known_with, lease_of}
use Rattle.sl_alone.specs.DeltaSteps.{IsFitInput, LeaseState, after_step, after_told, answer_next, begun, call_in, followed, given_following, given_from, given_told, has_open_write, heard, is_over, may_leave, nothing_given, out_of_step, refused_now, shows_by, standing_after, wake_next}
use Rattle.sl_alone.specs.declared.delta_lease.Standing.TheVariants.{Declined, Gone, Holds, Joins}
use Rattle.sl_alone.specs.declared.delta_lease.Standing.{Standing}
use Rattle.sl_alone.specs.declared.delta_lease.OpenDelta.{OpenDelta}
use Rattle.sl_alone.specs.declared.delta_steps.DeltaIn.TheVariants.{Answered as Told, Leave, Refused, Wake}
use Rattle.sl_alone.specs.declared.delta_steps.DeltaIn.{DeltaIn}
use Rattle.sl_delta.specs.DeltaDecisions.{after_join}
use Rattle.sl_alone.specs.declared.delta_steps.DeltaOut.{DeltaOut}
use Rattle.sl_trace.specs.DeltaDecisions.{next_after_free, next_after_renewal, next_renewal}
use Rattle.sl_trace.specs.declared.delta.DeltaNext.TheVariants.{Nothing}
use Rattle.sl_trace.specs.declared.delta.DeltaNext.{DeltaNext}
use Rattle.sl_trace.specs.declared.effects.Purpose.TheVariants.{Joining, Lease, Leaving, Renewal, RequestRead, RequestWrite, SeeRequest, Survey, ValueRead, ValueWrite}
use Rattle.sl_trace.specs.declared.effects.Purpose.{Purpose}
use Rattle.sl_trace.specs.declared.input.Answer.TheVariants.{Failed, Read, Written}
use Rattle.sl_trace.specs.declared.input.Answer.{Answer}
use Rattle.sl_words.specs.Bounds.{is_number}
use Rattle.std.proofs.Common.{Bool, IsTrue, List, None, Option, Some, ap, false, is_some, nat_le, not, refl, true, ◌&&◌, ◌+◌, ◌||◌, ◌∙◌, ◌≡◌, ℕ}

-- ---- in recovery

not_due : (now : ℕ) (bits : List ℕ) (o : OwnState) → next_renewal (lease_of o) now (known_with o true None) bits ≡ Nothing
unfolding next_renewal
not_due now bits o = refl

wake_is : (now : ℕ) (bits : List ℕ) (l : LeaseState) → l.standing ≡ Holds → l.recovering ≡ true → wake_next now bits l ≡ Nothing
wake_is now bits l joined recovers = rw (joined, recovers) (not_due now bits l.own)

renewed_is : (made : ℕ) (a : Answer) → next_after_renewal true made a ≡ Nothing
renewed_is made Written = refl
renewed_is made (Read bytes) = refl
renewed_is made Failed = refl

freed_calls : (call : ℕ) (a : Answer) → call_in (next_after_free 0 call a) ≡ None
freed_calls call Written = refl
freed_calls call (Read bytes) = refl
freed_calls call Failed = refl

told_calls : (now call : ℕ) (p : Purpose) (made : ℕ) (a : Answer) (l : LeaseState) → l.standing ≡ Holds → l.recovering ≡ true → call_in (answer_next now call p made a l) ≡ None
told_calls now call (Joining j step) made a l joined recovers =
    ap (λ s. call_in (elim s as (λ _. DeltaNext) [ Joins ↦ after_join l.own now call made step a | Holds ↦ Nothing | Declined ↦ Nothing | Gone ↦ Nothing ])) joined
told_calls now call Renewal made a l joined recovers = ap (λ r. call_in (next_after_renewal r made a)) recovers ∙ ap call_in (renewed_is made a)
told_calls now call Survey made a l joined recovers = refl
told_calls now call (Leaving j) made a l joined recovers = freed_calls call a
told_calls now call (Lease work step) made a l joined recovers = refl
told_calls now call (RequestRead j) made a l joined recovers = refl
told_calls now call (RequestWrite j owner) made a l joined recovers = refl
told_calls now call SeeRequest made a l joined recovers = refl
told_calls now call (ValueWrite j) made a l joined recovers = refl
told_calls now call (ValueRead j) made a l joined recovers = refl

or_true : (b c : Bool) → c ≡ true → (b || c) ≡ true
or_true true c e = refl
or_true false c e = e

over_as : (now : ℕ) (n : DeltaNext) (l : LeaseState) (over : Bool) → call_in n ≡ None → (given_following now over n l).call ≡ None
over_as now n l true e = refl
over_as now n l false e = e

answer_calls : (now call : ℕ) (a : Answer) (l : LeaseState) (w : Option OpenDelta) → l.standing ≡ Holds → l.recovering ≡ true
    → (elim w as (λ _. DeltaOut) [ None ↦ nothing_given | Some w ↦ given_told now call w.purpose w.made a l ]).call ≡ None
answer_calls now call a l None joined recovers = refl
answer_calls now call a l (Some w) joined recovers =
    let h : LeaseState = heard now w.purpose a l in
    over_as now (answer_next now call w.purpose w.made a h) h (is_over l.standing)
    (told_calls now call w.purpose w.made a h joined (or_true (shows_by w.purpose a l) l.recovering recovers))

leave_calls : (now : ℕ) (l : LeaseState) → l.recovering ≡ true → (given_from now Leave l).call ≡ None
leave_calls now l recovers = rw recovers refl

from_calls : (now : ℕ) (i : DeltaIn) (l : LeaseState) → l.standing ≡ Holds → l.recovering ≡ true → (given_from now i l).call ≡ None
from_calls now (Wake bits) l joined recovers = ap call_in (wake_is now bits l joined recovers)
from_calls now (Told call a) l joined recovers = answer_calls now call a l l.waits joined recovers
from_calls now Refused l joined recovers = refl
from_calls now Leave l joined recovers = leave_calls now l recovers

-- ---- at last

gone_wake : (now : ℕ) (bits : List ℕ) (l : LeaseState) (s : Standing) → l.standing ≡ s → is_over s ≡ true → wake_next now bits l ≡ Nothing
gone_wake now bits l Declined e over = rw e refl
gone_wake now bits l Gone e over = rw e refl
gone_wake now bits l Joins e over = absurd cc
gone_wake now bits l Holds e over = absurd cc

gone_follows : (now : ℕ) (n : DeltaNext) (l : LeaseState) (over : Bool) → over ≡ true → (given_following now over n l).call ≡ None
gone_follows now n l true e = refl
gone_follows now n l false e = absurd cc

gone_stays : (now : ℕ) (n : DeltaNext) (l : LeaseState) (over : Bool) → over ≡ true → (followed now over n l).standing ≡ l.standing
gone_stays now n l true e = refl
gone_stays now n l false e = absurd cc

gone_told : (now call : ℕ) (a : Answer) (l : LeaseState) (w : Option OpenDelta) → is_over l.standing ≡ true
    → (elim w as (λ _. DeltaOut) [ None ↦ nothing_given | Some w ↦ given_told now call w.purpose w.made a l ]).call ≡ None
gone_told now call a l None over = refl
gone_told now call a l (Some w) over = gone_follows now (answer_next now call w.purpose w.made a (heard now w.purpose a l)) (heard now w.purpose a l) (is_over l.standing) over

gone_hears : (now call : ℕ) (a : Answer) (l : LeaseState) (w : Option OpenDelta) → is_over l.standing ≡ true
    → (elim w as (λ _. LeaseState) [ None ↦ l | Some w ↦ after_told now call w.purpose w.made a l ]).standing ≡ l.standing
gone_hears now call a l None over = refl
gone_hears now call a l (Some w) over = gone_stays now (answer_next now call w.purpose w.made a (heard now w.purpose a l)) (heard now w.purpose a l) (is_over l.standing) over

gone_refused : (l : LeaseState) (s : Standing) → l.standing ≡ s → is_over s ≡ true → (refused_now l).standing ≡ l.standing
gone_refused l Declined e over = rw e refl
gone_refused l Gone e over = rw e refl
gone_refused l Joins e over = absurd cc
gone_refused l Holds e over = absurd cc

stays_left : (l : LeaseState) (s : Standing) → l.standing ≡ s → is_over s ≡ true → may_leave l ≡ false
stays_left l Declined e over = rw e refl
stays_left l Gone e over = rw e refl
stays_left l Joins e over = absurd cc
stays_left l Holds e over = absurd cc

no_leave_by : (b : Bool) → IsTrue b → b ≡ false → ⊥
no_leave_by true fit e = absurd cc
no_leave_by false fit e = absurd cc

no_leave : (l : LeaseState) → is_over l.standing ≡ true → IsFitInput l Leave → ⊥
no_leave l over fit = no_leave_by (may_leave l) fit (stays_left l l.standing refl over)

gone_calls : (now : ℕ) (i : DeltaIn) (l : LeaseState) → is_over l.standing ≡ true → IsFitInput l i → (out_of_step now i l).call ≡ None
gone_calls now (Wake bits) l over fit = ap call_in (gone_wake now bits (begun now l) l.standing refl over)
gone_calls now (Told call a) l over fit = gone_told now call a (begun now l) l.waits over
gone_calls now Refused l over fit = refl
gone_calls now Leave l over fit = absurd (no_leave l over fit)

stays_over : (now : ℕ) (i : DeltaIn) (l : LeaseState) → is_over l.standing ≡ true → IsFitInput l i → (after_step now i l).standing ≡ l.standing
stays_over now (Wake bits) l over fit = ap (λ n. standing_after l.own.generation n l.standing) (gone_wake now bits (begun now l) l.standing refl over)
stays_over now (Told call a) l over fit = gone_hears now call a (begun now l) l.waits over
stays_over now Refused l over fit = gone_refused (begun now l) l.standing refl over
stays_over now Leave l over fit = absurd (no_leave l over fit)

alone_by : (s : Standing) (r : Bool) (w : Option OpenDelta) (in_flight b c : Bool)
    → IsTrue (elim s as (λ _. Bool) [ Holds ↦ elim r as (λ _. Bool) [ true ↦ not in_flight | false ↦ not (is_some w) && b && c ] | Joins ↦ false | Declined ↦ false | Gone ↦ false ])
    → r ≡ false → w ≡ None
alone_by Holds false None in_flight b c fit e = refl
alone_by Holds false (Some w) in_flight b c fit e = absurd cc
alone_by Holds true w in_flight b c fit e = absurd cc
alone_by Joins r w in_flight b c fit e = absurd cc
alone_by Declined r w in_flight b c fit e = absurd cc
alone_by Gone r w in_flight b c fit e = absurd cc

alone : (l : LeaseState) → IsFitInput l Leave → l.recovering ≡ false → l.waits ≡ None
alone l fit recovers = alone_by l.standing l.recovering l.waits (has_open_write l) (is_number (l.own.seq + 1)) (nat_le 1 l.own.generation) fit recovers

pub steps_are_safe : StepsAreSafe
steps_are_safe =
    record {
      recovery = λ now i l joined recovers. from_calls now i (begun now l) joined recovers;
      over = gone_calls;
      stays_over = stays_over;
      alone = alone;
    }
