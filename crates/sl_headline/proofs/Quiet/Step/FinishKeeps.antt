-- What a step does last makes no call of a lease, no reply and no grant.
use Rattle.sl_due.specs.CarriedDelta.{carry_delta}
use Rattle.sl_due.specs.DueTimeOuts.{remove_connection}
use Rattle.sl_due.specs.DueWake.{end_if_done, finish, finish_session, free_if_done}
use Rattle.sl_due.specs.Steps.{Step, add_move, seen}
use Rattle.sl_trace.specs.Leases.{lease_step}
use Rattle.sl_headline.proofs.Quiet.Step.BeforeInput.{each_keeps, when_keeps}
use Rattle.sl_headline.specs.Quiet.Step.AnswersLeadOn.{lease_part}
use Rattle.sl_sector.specs.declared.sector.DeltaRec.{DeltaRec}
use Rattle.sl_trace.specs.declared.delta.DeltaKnown.{DeltaKnown}
use Rattle.sl_trace.specs.DeltaDecisions.{DeltaLease, delta_known, delta_of_session, delta_record, next_free, own_offset}
use Rattle.sl_sector.specs.Bitmaps.{no_bits}
use Rattle.sl_sector.specs.declared.sector.DeltaState.TheVariants.{Free}
use Rattle.sl_sector.specs.declared.sector.Rec.TheVariants.{DeltaIs}
use Rattle.sl_trace.specs.declared.effects.Op.TheVariants.{WriteRecord}
use Rattle.sl_trace.specs.declared.effects.Purpose.TheVariants.{Leaving}
use Rattle.sl_trace.specs.Traces.{next_call}
use Rattle.sl_trace.specs.declared.session.Session.{Session}
use Rattle.sl_trace.specs.Sessions.{has_open_write, holdings_of, is_joined, open_calls_of, present_sessions, recovery_of}
use Rattle.sl_trace.specs.declared.delta.DeltaNext.TheVariants.{Nothing, WriteFree}
use Rattle.sl_trace.specs.declared.delta.DeltaNext.{DeltaNext}
use Rattle.sl_trace.specs.WatchdogConnections.{is_registered}
use Rattle.sl_trace.specs.declared.effects.Call.{Call}
use Rattle.sl_trace.specs.declared.effects.Move.TheVariants.{Unregister}
use Rattle.sl_words.specs.Words.{is_empty}
use Rattle.std.proofs.Common.{ap, refl, ◌∙◌}
use Rattle.std.specs.Prelude.{Bool, List, None, Option, Some, [], false, filter, if◌then◌else◌, is_some, not, true, ℕ, ◌&&◌, ◌++◌, ◌+◌, ◌∷◌, ◌≡◌}

-- What a later moment of the step keeps of this one.
pub record KeepsLeases (x y : Step) : Type 0 where
  pub calls : lease_part y.effects.calls ≡ lease_part x.effects.calls
  pub replies : y.effects.replies ≡ x.effects.replies
  pub grants : y.effects.grants ≡ x.effects.grants

one_more_by : (p : Call → Bool) (c d : Call) (cs : List Call) (b : Bool) → filter p (cs ++ c ∷ []) ≡ filter p cs
    → (if b then d ∷ filter p (cs ++ c ∷ []) else filter p (cs ++ c ∷ [])) ≡ (if b then d ∷ filter p cs else filter p cs)
one_more_by p c d cs true h = ap (λ xs. d ∷ xs) h
one_more_by p c d cs false h = h

other_call : (p : Call → Bool) (c : Call) (cs : List Call) → p c ≡ false → filter p (cs ++ c ∷ []) ≡ filter p cs
other_call p c [] h = ap (λ b. if b then c ∷ [] else []) h
other_call p c (d ∷ cs) h = one_more_by p c d cs (p d) (other_call p c cs h)

connection_keeps : (z : Step) (name : List ℕ) (x : Step) → KeepsLeases z x → KeepsLeases z (remove_connection name x)
connection_keeps z name x k =
    when_keeps (KeepsLeases z) (is_registered x.setting (seen x) name) (add_move (Unregister name)) (λ y h. record { calls = h.calls; replies = h.replies; grants = h.grants }) x k

abbrev free_call : Session → ℕ → DeltaRec → Step → Call
free_call s j r x =
    record { number = next_call x.setting (seen x); session = s.number; purpose = Leaving j; path = s.path; offset = own_offset x.setting s; op = WriteRecord (DeltaIs r) }

free_by : (z : Step) (s : Session) (l : DeltaLease) (now : ℕ) (d : DeltaKnown) (leaving : Option ℕ) (freed : Bool) (r : DeltaRec) (x : Step) → KeepsLeases z x
    → KeepsLeases z (carry_delta s (elim leaving as (λ o. DeltaNext) [ None ↦ Nothing | Some j ↦ elim freed as (λ o. DeltaNext) [ true ↦ Nothing | false ↦ WriteFree j r ] ]) x)
unfolding carry_delta
free_by z s l now d None freed r x k = k
free_by z s l now d (Some j) true r x k = k
free_by z s l now d (Some j) false r x k =
    record { calls = other_call (λ c. is_some (lease_step c.purpose)) (free_call s j r x) x.effects.calls refl ∙ k.calls; replies = k.replies; grants = k.grants }

carried : (z : Step) (s : Session) (l : DeltaLease) (now : ℕ) (d : DeltaKnown) (x : Step) → KeepsLeases z x → KeepsLeases z (carry_delta s (next_free l now d) x)
carried z s l now d x k = free_by z s l now d d.leaving d.freed (delta_record l Free d.generation (d.seq + 1) now no_bits) x k

free_keeps : (z : Step) (s : Session) (x : Step) → KeepsLeases z x → KeepsLeases z (free_if_done s x)
free_keeps z s x k =
    when_keeps (KeepsLeases z) (is_empty (holdings_of (seen x) s) && is_empty (open_calls_of (seen x) s))
    (λ y. carry_delta s (next_free (delta_of_session y.setting s) y.reading (delta_known y.setting (seen y) s)) y)
    (λ y h. carried z s (delta_of_session y.setting s) y.reading (delta_known y.setting (seen y) s) y h) x k

end_keeps : (z : Step) (s : Session) (x : Step) → KeepsLeases z x → KeepsLeases z (end_if_done s x)
end_keeps z s x k =
    when_keeps (KeepsLeases z) (is_empty (holdings_of (seen x) s) && not (has_open_write (seen x) s)) (remove_connection s.lockspace) (connection_keeps z s.lockspace) x k

by_recovery : (z : Step) (s : Session) (b : Bool) (x : Step) → KeepsLeases z x → KeepsLeases z (elim b as (λ t. Step) [ true ↦ end_if_done s x | false ↦ free_if_done s x ])
by_recovery z s true x k = end_keeps z s x k
by_recovery z s false x k = free_keeps z s x k

session_keeps : (z : Step) (s : Session) (x : Step) → KeepsLeases z x → KeepsLeases z (finish_session s x)
unfolding finish_session
session_keeps z s x k =
    when_keeps (KeepsLeases z) (is_joined (seen x) s)
    (λ y. elim (is_some (recovery_of y.setting (seen y) s)) as (λ t. Step) [ true ↦ end_if_done s y | false ↦ free_if_done s y ])
    (λ y h. by_recovery z s (is_some (recovery_of y.setting (seen y) s)) y h) x k

pub finish_keeps : (x : Step) → KeepsLeases x (finish x)
unfolding finish
finish_keeps x = each_keeps (KeepsLeases x) (present_sessions x.setting (seen x)) finish_session (session_keeps x) x (record { calls = refl; replies = refl; grants = refl })
