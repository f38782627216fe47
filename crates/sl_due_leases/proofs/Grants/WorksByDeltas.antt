-- What is done for delta leases, and all that makes no call of a lease, keeps the facts of a job's work.
use Rattle.sl_due_facts.proofs.Acts.LoopsKeep.{for_each_keeps}
use Rattle.sl_due_facts.specs.Acts.TraceSoFar.{entry_of}
use Rattle.sl_due.specs.CarriedDelta.{carry_delta}
use Rattle.sl_due.specs.DueInputs.{end_holdings}
use Rattle.sl_due.specs.Steps.{Step, add_call_of, add_end, seen}
use Rattle.sl_due_leases.proofs.Grants.OthersGoOn.{BeginsNone, CallsOn, GoesOn, delta_on, next_start}
use Rattle.sl_run.specs.LawfulArea.{is_area_work}
use Rattle.sl_due_leases.proofs.Grants.WorksByEffects.{CallsOwned, WorksAt, call_works, end_works, move_works, not_work, reply_works, signal_works, start_works}
use Rattle.sl_due_leases.proofs.Holdings.HoldingsByCalls.{call_added}
use Rattle.sl_due_leases.proofs.Holdings.HoldingsByEffects.{SameCalls}
use Rattle.sl_trace.specs.declared.delta.DeltaNext.TheVariants.{EndLeaving, RefuseJoin}
use Rattle.sl_trace.specs.declared.delta.DeltaNext.{DeltaNext}
use Rattle.sl_trace.specs.declared.session.Session.{Session}
use Rattle.sl_trace.specs.Traces.{end_of, holdings, is_before_input}
use Rattle.sl_trace.specs.declared.effects.Op.{Op}
use Rattle.sl_trace.specs.declared.effects.Purpose.TheVariants.{Lease}
use Rattle.sl_trace.specs.declared.effects.Purpose.{Purpose}
use Rattle.sl_trace.specs.declared.reply.Reply.{Reply}
use Rattle.sl_words.proofs.CaseLaws.{true_is_false}
use Rattle.std.proofs.Common.{ap, subst, sym, ◌∙◌}
use Rattle.std.specs.Prelude.{Bool, Contains, List, false, filter, true, ℕ, ◌==◌, ◌≡◌}

-- ---- calls that are no work

-- Whether a call works on a lease.
abbrev pub is_lease_purpose : Purpose → Bool
is_lease_purpose (Lease work step) = true
is_lease_purpose p = false

pub other_call_works : (x : Step) (n : ℕ) (path : List ℕ) (p : Purpose) (o : ℕ) (op : Op) → CallsOwned x → is_lease_purpose p ≡ false → WorksAt x → WorksAt (add_call_of n path p o op x)
other_call_works x n path p o op owned other h =
    call_works x n path p o op owned (not_work x (call_added n path p o op x) (λ j step is. true_is_false (sym (ap (λ q. is_lease_purpose q) is) ∙ other))) h

-- ---- what is kept

pub works_go_on : GoesOn WorksAt
works_go_on =
    record {
      signals = λ x p g h. signal_works x p g h;
      moves = λ x m h. move_works x m h;
      starts = λ x program job stood h. start_works x (next_start x program job stood) h;
      replies = λ x j r same h. reply_works x j r same h;
    }

pub ended_works : (x : Step) (p : ℕ) → WorksAt x → WorksAt (end_holdings p x)
ended_works x p h = for_each_keeps WorksAt (filter (λ g. g.process == p) (holdings (seen x))) (λ g. add_end (end_of g)) x (λ g there y k. end_works y (end_of g) k) h

-- ---- delta leases

-- Each call so far is a session's.
abbrev pub OwnedWorks : Step → Type 0
OwnedWorks x = WorksAt x × CallsOwned x

pub owned_go_on : GoesOn OwnedWorks
owned_go_on =
    record {
      signals = λ x p g h. (signal_works x p g h.0, h.1);
      moves = λ x m h. (move_works x m h.0, h.1);
      starts = λ x program job stood h. (start_works x (next_start x program job stood) h.0, h.1);
      replies = λ x j r same h. (reply_works x j r same h.0, λ m there. h.1 m (subst (λ ms. Contains ms m) same there));
    }

pub plain_call_works : CallsOn OwnedWorks WorksAt
plain_call_works x s path p o op plain later h =
    call_works x s.number path p o op h.1 (not_work x (call_added s.number path p o op x) (λ j step is. true_is_false (sym (ap (λ q. is_area_work q) is) ∙ plain))) h.0

-- What is replied must leave the calls as they are.
pub delta_works : (x : Step) (s : Session) (n : DeltaNext) → BeginsNone n → ((j : ℕ) (r : Reply) → n ≡ RefuseJoin r → SameCalls x.past (entry_of x) (record { job = j; reply = r }))
    → ((r : Reply) (j : ℕ) → n ≡ EndLeaving j r → is_before_input r ≡ false) → CallsOwned x → WorksAt x → WorksAt (carry_delta s n x)
delta_works x s n none same late owned h = delta_on OwnedWorks WorksAt owned_go_on plain_call_works (λ z k. k.0) x s n none same late (h, owned)
