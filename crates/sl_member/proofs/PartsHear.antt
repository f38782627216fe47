-- An answer of each kind, as code tells it to the parts of a member.
use Rattle.sl_host_state.specs.HeardInputs.{asked_hearing, beginning, renewed_of, renewing_hearing, shows_other_by, watch_hearing}
use Rattle.sl_host_state.specs.KeptState.{HostState, MemberState}
use Rattle.sl_host_state.specs.declared.kept_parts.OpenCall.{OpenCall}
use Rattle.sl_member.specs.Laws.{PartsHear, heard_by_parts, leases_told, open_for}
use Rattle.sl_member.specs.Members.{IsKnown, own_told}
use Rattle.sl_trace.specs.declared.delta.DeltaKnown.{DeltaKnown}
use Rattle.sl_trace.specs.declared.session.Begun.{Begun}
use Rattle.sl_trace.specs.declared.session.Renewing.{Renewing}
use Rattle.sl_trace.specs.declared.effects.LeaseStep.{LeaseStep}
use Rattle.sl_trace.specs.declared.effects.Purpose.TheVariants.{Lease, Leaving, RequestRead, RequestWrite, SeeRequest, Survey, ValueRead, ValueWrite}
use Rattle.sl_trace.specs.declared.effects.Work.{Work}
use Rattle.sl_trace.specs.declared.input.Answer.TheVariants.{Failed, Read, Written}
use Rattle.sl_trace.specs.declared.input.Answer.{Answer}
use Rattle.std.proofs.Common.{ap, refl, sym, ◌∙◌}
use Rattle.std.specs.Prelude.{Bool, None, Option, Some, cond, false, is_some, true, unwrap_or, ℕ, ◌&&◌, ◌≡◌}

-- Where nothing is shown and no renewal counts, it stands as before.
stays : (h : HostState) (c : OpenCall) (a : Answer) (m : MemberState) → renewed_of c a ≡ None → shows_other_by h c a m ≡ false → renewing_hearing h c a m ≡ m.renewing
stays h c a m none hidden =
    ap (λ o. F o (shows_other_by h c a m)) none ∙ ap (λ b. F None b) hidden ∙ by m.renewing.recovery m.joined
  where
    F : Option ℕ → Bool → Renewing
    F o b =
        let r : Renewing = m.renewing in
        elim r.recovery [ Some b ↦ r | None ↦ cond (m.joined && b) (beginning h h.entries r) (record r { last = unwrap_or o r.last }) ]

    either : (b : Bool) → cond (b && false) (beginning h h.entries m.renewing) m.renewing ≡ m.renewing
    either true = refl
    either false = refl

    by : (o : Option Begun) (b : Bool) → (let r : Renewing = elim o [ Some x ↦ m.renewing | None ↦ cond (b && false) (beginning h h.entries m.renewing) m.renewing ] in r) ≡ m.renewing
    by (Some x) b = refl
    by None b = either b

-- What is told of the rest.
abbrev rest_by_parts : HostState → OpenCall → Answer → MemberState → MemberState
rest_by_parts h c a m =
    let s : MemberState = own_told c.purpose a h.reading m in
    record s { asked = asked_hearing h c a m.asked; watch = watch_hearing h c a m.watch; leases = leases_told h c a m }

-- So of what is told the renewals are left alone.
left_alone : (h : HostState) (c : OpenCall) (a : Answer) (m : MemberState) → IsKnown m → renewed_of c a ≡ None → shows_other_by h c a m ≡ false
    → heard_by_parts h c a m ≡ rest_by_parts h c a m
left_alone h c a m known none hidden =
    ap (λ (r : Renewing). F r (is_some r.recovery)) (stays h c a m none hidden) ∙ ap (F m.renewing) (sym known)
  where
    F : Renewing → Bool → MemberState
    F r b =
        let s : MemberState = own_told c.purpose a h.reading m in
        let k : DeltaKnown = s.known in
        record s { known = record k { recovering = b }; renewing = r; asked = asked_hearing h c a m.asked; watch = watch_hearing h c a m.watch; leases = leases_told h c a m }

-- ---- no renewal counts

leaving_counts : (c : OpenCall) (a : Answer) (j : ℕ) → renewed_of (open_for c (Leaving j)) a ≡ None
leaving_counts c (Read bytes) j = refl
leaving_counts c Written j = refl
leaving_counts c Failed j = refl

lease_counts : (c : OpenCall) (a : Answer) (work : Work) (step : LeaseStep) → renewed_of (open_for c (Lease work step)) a ≡ None
lease_counts c (Read bytes) work step = refl
lease_counts c Written work step = refl
lease_counts c Failed work step = refl

write_counts : (c : OpenCall) (a : Answer) (j : ℕ) (owner : Option ℕ) → renewed_of (open_for c (RequestWrite j owner)) a ≡ None
write_counts c (Read bytes) j owner = refl
write_counts c Written j owner = refl
write_counts c Failed j owner = refl

read_counts : (c : OpenCall) (a : Answer) (j : ℕ) → renewed_of (open_for c (RequestRead j)) a ≡ None
read_counts c (Read bytes) j = refl
read_counts c Written j = refl
read_counts c Failed j = refl

see_counts : (c : OpenCall) (a : Answer) → renewed_of (open_for c SeeRequest) a ≡ None
see_counts c (Read bytes) = refl
see_counts c Written = refl
see_counts c Failed = refl

set_counts : (c : OpenCall) (a : Answer) (j : ℕ) → renewed_of (open_for c (ValueWrite j)) a ≡ None
set_counts c (Read bytes) j = refl
set_counts c Written j = refl
set_counts c Failed j = refl

get_counts : (c : OpenCall) (a : Answer) (j : ℕ) → renewed_of (open_for c (ValueRead j)) a ≡ None
get_counts c (Read bytes) j = refl
get_counts c Written j = refl
get_counts c Failed j = refl

pub parts_hear : PartsHear
parts_hear = record {
  joining = λ h c a m j step. refl;
  renewal = λ h c a m. refl;
  survey = λ h c bytes m. refl;
  no_survey = λ h c m known. left_alone h (open_for c Survey) Failed m known refl refl;
  leaving = λ h c a m j known. left_alone h (open_for c (Leaving j)) a m known (leaving_counts c a j) refl;
  lease = λ h c a m work step known. left_alone h (open_for c (Lease work step)) a m known (lease_counts c a work step) refl;
  request_write = λ h c a m j owner known. left_alone h (open_for c (RequestWrite j owner)) a m known (write_counts c a j owner) refl;
  request_read = λ h c a m j known. left_alone h (open_for c (RequestRead j)) a m known (read_counts c a j) refl;
  see_request = λ h c a m known. left_alone h (open_for c SeeRequest) a m known (see_counts c a) refl;
  value_write = λ h c a m j known. left_alone h (open_for c (ValueWrite j)) a m known (set_counts c a j) refl;
  value_read = λ h c a m j known. left_alone h (open_for c (ValueRead j)) a m known (get_counts c a j) refl;
}
