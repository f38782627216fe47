-- What is found to be due is what is done.
use Rattle.sl_host_law.specs.StepParts.Ends.{renewing_in}
use Rattle.sl_delta.specs.DeltaDecisions.{on_wake, time_next}
use Rattle.sl_host_law.specs.Answers.CarriedDecisions.{carrying}
use Rattle.sl_host_law.specs.Answers.LeaseDecisions.{carrying_lease}
use Rattle.sl_host_law.specs.Answers.WakingsFollow.{joining_by_time}
use Rattle.sl_host_law.specs.Decisions.CommandDecisions.{is_open_on, pending_refused}
use Rattle.sl_host_law.specs.StepParts.Wakes.{bits_in, delta_in, is_free_at, next_by_newest}
use Rattle.sl_host_law.specs.Questions.Jobs.{running_in}
use Rattle.sl_host_law.specs.Steps.Leases.{settling_next}
use Rattle.sl_host_law.specs.Steps.WakePasses.{settling_here}
use Rattle.sl_host_state.specs.declared.kept_parts.JoinCall.{JoinCall}
use Rattle.sl_host_state.specs.declared.kept_parts.OpenCall.{OpenCall}
use Rattle.sl_trace.specs.declared.lease.LeaseNext.{LeaseNext}
use Rattle.sl_host_law.specs.Steps.Passes.{at_member, member_numbered}
use Rattle.sl_area.specs.AreaSizes.{layout_of}
use Rattle.sl_host_state.specs.KeptState.{HostKept, HostState, MemberState}
use Rattle.sl_member.specs.AskedRequests.{bits_within}
use Rattle.sl_member.specs.Members.{MemberKept, RunOf, delta_lease, own_of}
use Rattle.sl_host.specs.BookQuestions.{state_in}
use Rattle.sl_host_work.proofs.TurnsStand.{by_number}
use Rattle.sl_host_work.specs.TimedWork.{joining_of, joining_on, renewal_of, renewal_written, renewing_by, settling_of, written_in}
use Rattle.sl_sector.specs.declared.sector.DeltaRec.{DeltaRec}
use Rattle.sl_sector.specs.declared.sector.DeltaState.TheVariants.{Live}
use Rattle.sl_trace.specs.DeltaDecisions.{DeltaLease, delta_record, is_renewal_due, next_by_time, next_renewal}
use Rattle.sl_trace.specs.declared.delta.DeltaKnown.{DeltaKnown}
use Rattle.sl_trace.specs.declared.delta.DeltaNext.TheVariants.{Nothing, WriteRenewal}
use Rattle.sl_trace.specs.declared.delta.DeltaNext.{DeltaNext}
use Rattle.sl_trace.specs.declared.session.Session.{Session}
use Rattle.sl_trace.specs.declared.effects.JoinStep.TheVariants.{ClaimWrite, DecidingRead, FirstRead, FirstRenewal, VerifyRead, WatchRead}
use Rattle.sl_trace.specs.declared.effects.JoinStep.{JoinStep}
use Rattle.sl_trace.specs.declared.effects.Spot.{Spot}
use Rattle.sl_trace.specs.declared.effects.Work.TheVariants.{Settling}
use Rattle.sl_trace.specs.declared.reply.Reply.TheVariants.{Pending}
use Rattle.sl_trace.specs.declared.reply.Reply.{Reply}
use Rattle.sl_words.specs.Words.{least}
use Rattle.std.specs.List.{list_any}
use Rattle.std.proofs.Common.{ap, refl, sym, ◌∙◌}
use Rattle.std.specs.Prelude.{Bool, List, None, Option, Some, [], cond, false, filter, is_some, map, min, not, option_map, true, unwrap_or, ℕ, ◌&&◌, ◌+◌, ◌∷◌, ◌||◌, ◌≡◌}

-- ---- renewals

-- What a renewal that is due writes.
pub written_is : (l : DeltaLease) (now : ℕ) (k : DeltaKnown) (bits : List ℕ)
    → renewal_written (next_renewal l now k bits) ≡ cond (is_renewal_due l now k) (Some (delta_record l Live k.generation (k.seq + 1) now bits)) None
unfolding next_renewal
written_is l now k bits = by (is_renewal_due l now k)
  where
    by : (b : Bool)
        → renewal_written (elim b as (λ z. DeltaNext) [ false ↦ Nothing | true ↦ WriteRenewal (delta_record l Live k.generation (k.seq + 1) now bits) ])
        ≡ cond b (Some (delta_record l Live k.generation (k.seq + 1) now bits)) None
    by true = refl
    by false = refl

abbrev run_in : HostKept → RunOf
run_in k = record { timing = k.config.timing; sizes = k.config.sizes; host = k.config.name }

abbrev lease_by : RunOf → MemberState → DeltaLease
lease_by r m = record { timing = r.timing; layout = layout_of r.sizes; host = r.host; lockspace = m.who.lockspace; id = m.who.id }

pub due_is : (k : HostKept) (m : MemberKept) (now : ℕ) (next : DeltaNext) → m.run ≡ run_in k → now ≡ k.reading
    → next ≡ next_renewal (delta_lease m) now m.state.known (bits_within m.run.timing m.run.sizes.hosts m.state.asked now) → renewal_written next ≡ written_in (state_in k) m.state
due_is k m now next run moment is =
    let s : MemberState = m.state in
    ap renewal_written is
    ∙ (λ i. renewal_written (next_renewal (lease_by (run i) s) (moment i) s.known (bits_within (run i).timing (run i).sizes.hosts s.asked (moment i))))
    ∙ written_is (lease_by (run_in k) s) k.reading s.known (bits_within k.config.timing k.config.sizes.hosts s.asked k.reading)

-- What was found is written, as the member renews.
pub renewed : (h : HostState) (n : ℕ) → renewing_by (renewal_of h (member_numbered h n)) h ≡ at_member n renewing_in h
renewed h n = by (member_numbered h n)
  where
    due : (m : MemberState) (a b : Bool) (d : DeltaRec)
        → renewing_by (cond a (option_map (λ (r : DeltaRec). (m.who, r)) (cond b (Some d) None)) None) h ≡ cond (a && b) (renewing_by (Some (m.who, d)) h) h
    due m true true d = refl
    due m true false d = refl
    due m false b d = refl

    by : (o : Option MemberState) → renewing_by (renewal_of h o) h ≡ elim o as (λ z. HostState) [ None ↦ h | Some m ↦ renewing_in m h ]
    by None = refl
    by (Some m) =
        due m m.joined (is_renewal_due (delta_in h m) h.reading m.known) (delta_record (delta_in h m) Live m.known.generation (m.known.seq + 1) h.reading (bits_in h m))

-- ---- joinings

time_is : (l : DeltaLease) (now made answered : ℕ) (step : JoinStep) → time_next l.timing now made answered step ≡ next_by_time l now made answered step
time_is l now made answered FirstRead = refl
time_is l now made answered WatchRead = refl
time_is l now made answered DecidingRead = refl
time_is l now made answered ClaimWrite = refl
time_is l now made answered VerifyRead = refl
time_is l now made answered FirstRenewal = refl

newest_is : (l : DeltaLease) (now : ℕ) (n : Option JoinCall)
    → elim n as (λ z. DeltaNext) [ None ↦ Nothing | Some c ↦ elim c.answered [ None ↦ Nothing | Some at ↦ time_next l.timing now c.made at c.step ] ] ≡ next_by_newest l now n
newest_is l now None = refl
newest_is l now (Some c) = by c.answered
  where
    by : (a : Option ℕ)
        → elim a as (λ z. DeltaNext) [ None ↦ Nothing | Some at ↦ time_next l.timing now c.made at c.step ]
        ≡ elim a as (λ z. DeltaNext) [ None ↦ Nothing | Some at ↦ next_by_time l now c.made at c.step ]
    by None = refl
    by (Some at) = time_is l now c.made at c.step

-- What a joining does next, as the member says it.
pub joins_next : (k : HostKept) (m : MemberKept) (now : ℕ) (next : DeltaNext) → m.run ≡ run_in k → now ≡ k.reading → next ≡ on_wake (own_of m) now
    → next ≡ next_by_newest (delta_in (state_in k) m.state) k.reading m.state.joining.newest
joins_next k m now next run moment is =
    is ∙ newest_is (delta_lease m) now m.state.joining.newest ∙ (λ i. next_by_newest (lease_by (run i) m.state) (moment i) m.state.joining.newest)

pub joins_on : (h : HostState) (n : ℕ) → joining_on (joining_of h (member_numbered h n)) h ≡ at_member n joining_by_time h
joins_on h n = by (member_numbered h n)
  where
    runs : (m : MemberState) (b : Bool) (next : DeltaNext) → joining_on (cond b (Some (m.who, next)) None) h ≡ cond b (carrying m.who next h) h
    runs m true next = refl
    runs m false next = refl

    job : (m : MemberState) (o : Option ℕ) (next : DeltaNext)
        → joining_on (elim o as (λ z. Option (Session × DeltaNext)) [ None ↦ None | Some j ↦ cond (running_in h j) (Some (m.who, next)) None ]) h
        ≡ elim o as (λ z. HostState) [ None ↦ h | Some j ↦ cond (running_in h j) (carrying m.who next h) h ]
    job m None next = refl
    job m (Some j) next = runs m (running_in h j) next

    by : (o : Option MemberState) → joining_on (joining_of h o) h ≡ elim o as (λ z. HostState) [ None ↦ h | Some m ↦ joining_by_time m h ]
    by None = refl
    by (Some m) = job m m.who.job (next_by_newest (delta_in h m) h.reading m.joining.newest)

-- ---- settlings

any_least : (p : OpenCall → Bool) (cs : List OpenCall) → is_some (option_map (λ n. Pending n) (least (map (λ (c : OpenCall). c.number) (filter p cs)))) ≡ list_any p cs
any_least p [] = refl
any_least p (c ∷ cs) = by (p c) (any_least p cs)
  where
    there : (o : Option ℕ) → is_some (option_map (λ n. Pending n) (elim o as (λ z. Option ℕ) [ None ↦ Some c.number | Some y ↦ Some (min c.number y) ])) ≡ true
    there None = refl
    there (Some y) = refl

    by : (b : Bool) → is_some (option_map (λ n. Pending n) (least (map (λ (c : OpenCall). c.number) (filter p cs)))) ≡ list_any p cs
        → is_some (option_map (λ n. Pending n) (least (map (λ (c : OpenCall). c.number) (cond b (c ∷ filter p cs) (filter p cs))))) ≡ (b || list_any p cs)
    by true rest = there (least (map (λ (c : OpenCall). c.number) (filter p cs)))
    by false rest = rest

-- No open call is on the area where none refuses.
pub free_is : (k : HostKept) (at : Spot) (o : Option Reply) → o ≡ pending_refused (state_in k) at → not (is_some o) ≡ is_free_at (state_in k) at
free_is k at o is = ap (λ r. not (is_some r)) is ∙ ap not (any_least (is_open_on (layout_of k.config.sizes) at) k.unanswered)

pub settles_on : (h : HostState) (at : Spot) (n : ℕ) (s : Session) (next : LeaseNext) → (let o : Option (Session × LeaseNext) = Some (s, next) in o) ≡ settling_of h at (member_numbered h n)
    → (m : MemberState) × (member_numbered h s.number ≡ Some m) × (m.who ≡ s) × (carrying_lease m at Settling next h ≡ at_member n (settling_here at) h)
settles_on h at n s next is = by (member_numbered h n) refl is
  where
    free : (m : MemberState) (b : Bool) → (let o : Option (Session × LeaseNext) = Some (s, next) in o) ≡ cond b (Some (m.who, settling_next h m at)) None
        → (m.who ≡ s) × (carrying_lease m at Settling next h ≡ cond b (carrying_lease m at Settling (settling_next h m at) h) h)
    free m true is =
        let found : Option (Session × LeaseNext) → Session × LeaseNext = λ o. unwrap_or o (m.who, settling_next h m at) in
        let one : m.who ≡ s = sym (ap (λ o. (found o).0) is) in
        let other : next ≡ settling_next h m at = ap (λ o. (found o).1) is in
        (one, ap (λ v. carrying_lease m at Settling v h) other)
    free m false is = absurd cc

    by : (o : Option MemberState) → member_numbered h n ≡ o → (let o : Option (Session × LeaseNext) = Some (s, next) in o) ≡ settling_of h at o
        → (m : MemberState) × (member_numbered h s.number ≡ Some m) × (m.who ≡ s) × (carrying_lease m at Settling next h ≡ elim o as (λ z. HostState) [ None ↦ h | Some k ↦ settling_here at k h ])
    by None found is = absurd cc
    by (Some m) found is = let f = free m (is_free_at h at) is in (m, by_number h.members n m s found f.0, f.0, f.1)

-- Where nothing is found, nothing is settled.
pub settles_none : (h : HostState) (at : Spot) (n : ℕ) → None ≡ settling_of h at (member_numbered h n) → h ≡ at_member n (settling_here at) h
settles_none h at n is = by (member_numbered h n) is
  where
    free : (m : MemberState) (b : Bool) → (let o : Option (Session × LeaseNext) = None in o) ≡ cond b (Some (m.who, settling_next h m at)) None → h ≡ cond b (carrying_lease m at Settling (settling_next h m at) h) h
    free m true is = absurd cc
    free m false is = refl

    by : (o : Option MemberState) → (let n : Option (Session × LeaseNext) = None in n) ≡ settling_of h at o → h ≡ elim o as (λ z. HostState) [ None ↦ h | Some m ↦ settling_here at m h ]
    by None is = refl
    by (Some m) is = free m (is_free_at h at) is
