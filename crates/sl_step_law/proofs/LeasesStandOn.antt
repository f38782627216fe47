-- A lease's next call, after an answer and in a settling: its area is that of its calls before, and what it looks for it owes.
use Rattle.sl_due_facts.proofs.Acts.Pairs.Decisions.{begin_cases, within_cases}
use Rattle.sl_due_facts.specs.Acts.Acts.{Has, Hears, next_of_settling}
use Rattle.sl_due_facts.specs.Acts.TraceSoFar.{entry_of}
use Rattle.sl_area.specs.AreaLayout.{is_base}
use Rattle.sl_due.specs.CarriedLease.{carry_lease, next_of_lease}
use Rattle.sl_due.specs.Steps.{Step, seen}
use Rattle.sl_due_leases.proofs.Grants.WorksByAnswers.{new_spot}
use Rattle.sl_due_leases.proofs.Holdings.LeaseCallers.{heard_call, spot_aligned}
use Rattle.sl_due_leases.proofs.Ways.WayFactsHeld.LinesReady.{none_open}
use Rattle.sl_due_law.specs.LawfulTraces.CarriedFacts.{Kept}
use Rattle.sl_run.specs.Lawful.{IsSetting}
use Rattle.sl_trace.specs.LeaseDecisions.{LeasePlace, lease_place, owes_block, settle_begin, settle_next, settle_owed, within_turn}
use Rattle.sl_trace.specs.Leases.{LeaseKnown, block_written, exclusive_on, has_shared_on, is_lease_call, is_on, known, known_of, lease_calls, lease_step, lver_written, open_on, owed, spot_of_call}
use Rattle.sl_trace.specs.declared.lease.Aim.TheVariants.{Settles}
use Rattle.sl_trace.specs.declared.lease.Aim.{Aim}
use Rattle.sl_trace.specs.declared.lease.Owed.{Owed}
use Rattle.sl_trace.specs.declared.lease.LeaseNext.{LeaseNext}
use Rattle.sl_trace.specs.declared.lease.LeaseNext.TheVariants.{AnswerJob, BecomeExclusive, BecomeShared, GrantJob, Nothing as No_lease, ReadFor, WriteBlock, WriteLeader}
use Rattle.sl_words.proofs.Lists.{contains_first, got_inside, kept_inside}
use Rattle.sl_trace.specs.Sessions.{calls_of, is_call_of, me, sessions}
use Rattle.sl_trace.specs.declared.session.Session.{Session}
use Rattle.sl_step_law.proofs.LooksAreOwed.{LooksOwed, answers_look, owed_writer, settlings_look}
use Rattle.sl_step_law.specs.CallsStand.{CallsStand, WroteBlock}
use Rattle.sl_trace.specs.Traces.{Setting, Submitted, mark, new_call, submitted}
use Rattle.sl_trace.specs.declared.effects.Call.{Call}
use Rattle.sl_trace.specs.declared.effects.LeaseStep.{LeaseStep}
use Rattle.sl_trace.specs.declared.effects.Purpose.TheVariants.{Lease}
use Rattle.sl_trace.specs.declared.effects.Spot.{Spot}
use Rattle.sl_trace.specs.declared.effects.Work.{Work}
use Rattle.sl_trace.specs.declared.effects.Work.TheVariants.{Settling}
use Rattle.sl_trace.specs.declared.input.Answer.{Answer}
use Rattle.sl_run_law.proofs.Sessions.CallsAreMade.{IsNewCall, WasOpen, old_or_new, was_marked}
use Rattle.sl_words.proofs.CaseLaws.{none_some, true_is_false}
use Rattle.sl_words.proofs.WordLaws.{and_true}
use Rattle.sl_host_law.proofs.Replies.PlainNumbers.{same_number}
use Rattle.std.proofs.Common.{ap, inl, inr, refl, subst, sym, ◌∙◌}
use Rattle.sl_step_law.proofs.CallsOnPast.{OnPast, finish, standing}
use Rattle.sl_step_law.proofs.LeasesOnPast.{Owes, WroteThere, carried}
use Rattle.sl_trace.specs.Sightings.{counts_over}
use Rattle.std.specs.Prelude.{Bool, Contains, IsTrue, List, None, Option, Some, [], false, is_some, length, option_map, slice_get, true, ◌%◌, ◌&&◌, ◌∷◌, ◌≡◌, ◌⊎◌}

abbrev pub Known : Step → Type 0
Known x = Kept x × CallsStand x

pub starts_so : (x : Step) → Known x → OnPast x.setting x.past x
starts_so x h = record { setting = refl; before = refl; each = h.1.0 }

pub ends_so : (x y : Step) → Known x → OnPast x.setting x.past y → CallsStand y
ends_so x y h k = finish x.setting x.past y h.1.1 k

-- ---- what a lease's next call has behind it

-- Which of the session's calls wrote a block there, before this step.
wrote_before : (x : Step) (s : Session) (at : Spot) (d : Submitted) → IsSetting x.setting → at.base % x.setting.layout.area ≡ 0 → Contains (lease_calls x.setting (seen x) s at) d → is_some (block_written d) ≡ true
    → (IsNewCall (length x.past) x.reading x.effects.calls d → ⊥) → WroteThere x s at
wrote_before x s at d setting aligned there wrote old c by_it on_it = by (old_or_new (length x.past) x.reading x.effects.calls (mark x.past (entry_of x) x.input (submitted x.past)) d inside.0) where
  on : Contains (calls_of (seen x) s) d × ((is_lease_call d && is_on x.setting.layout at d.call) ≡ true)
  on = kept_inside (λ (z : Submitted). is_lease_call z && is_on x.setting.layout at z.call) (calls_of (seen x) s) d there

  inside : Contains (submitted (seen x)) d × (is_call_of s d ≡ true)
  inside = kept_inside (is_call_of s) (submitted (seen x)) d on.0

  its : (is_lease_call d ≡ true) × (is_on x.setting.layout at d.call ≡ true)
  its = and_true (is_lease_call d) (is_on x.setting.layout at d.call) on.1

  by : Contains (mark x.past (entry_of x) x.input (submitted x.past)) d ⊎ IsNewCall (length x.past) x.reading x.effects.calls d → WroteBlock x.setting x.past c
  by (inr later) = absurd (old later)
  by (inl marked) =
      let w : WasOpen (submitted x.past) d = was_marked x.past (entry_of x) x.input (submitted x.past) d marked in
      let same : d.call ≡ w.before.call = w.same.call in
      record {
        write = w.before;
        there = w.inside;
        mine = ap (λ (z : Call). z.session) (sym same) ∙ same_number d.call.session s.number inside.1 ∙ sym by_it;
        works = ap (λ (z : Call). is_some (lease_step z.purpose)) (sym same) ∙ its.0;
        area = ap (λ (z : Call). spot_of_call x.setting.layout (new_call 0 0 z)) (sym same) ∙ new_spot x.setting at d.call setting aligned its.1 ∙ sym on_it;
        block = ap (λ (z : Call). is_some (block_written (new_call 0 0 z))) (sym same) ∙ wrote;
      }

-- So what a lease looks for it owes.
owes_so : (x : Step) (s : Session) (at : Spot) (n : LeaseNext) (owes : Bool) → LooksOwed owes n → (owes ≡ true → WroteThere x s at) → Owes x s at n
owes_so x s at (ReadFor step) owes looks wrote = λ look. wrote (looks look)
owes_so x s at (WriteBlock step b) owes looks wrote = looks
owes_so x s at (WriteLeader step l) owes looks wrote = looks
owes_so x s at No_lease owes looks wrote = tt
owes_so x s at (AnswerJob r) owes looks wrote = tt
owes_so x s at (GrantJob mode lver) owes looks wrote = tt
owes_so x s at (BecomeShared lver l) owes looks wrote = tt
owes_so x s at (BecomeExclusive lver b) owes looks wrote = tt

-- A call of the session's lease wrote a block, where something is owed.
writer : (x : Step) (s : Session) (at : Spot) → is_some (owed (known x.setting (seen x) s at)) ≡ true → (d : Submitted) × Contains (lease_calls x.setting (seen x) s at) d × (is_some (block_written d) ≡ true)
unfolding known
writer x s at owes =
    owed_writer x.setting.layout s.lockspace (me (seen x) s) (has_shared_on (seen x) s at) (option_map (λ g. g.lver) (exclusive_on (seen x) s at)) (counts_over x.setting (seen x) s)
    (lease_calls x.setting (seen x) s at) owes

none_new : (x : Step) (d : Submitted) → x.effects.calls ≡ [] → IsNewCall (length x.past) x.reading x.effects.calls d → ⊥
none_new x d bare new = none_some d.call (subst (λ cs. slice_get cs new.index ≡ Some d.call) bare new.call)

-- ---- an answer of a lease

pub heard_there : (x : Step) (s : Session) (m : Submitted) (answer : Answer) → Hears x s m answer → Contains (sessions x.setting (seen x)) s
heard_there x s m answer hears = got_inside (sessions x.setting (seen x)) m.call.session s hears.session

pub leads : (x : Step) (s : Session) (work : Work) (step : LeaseStep) (m : Submitted) (answer : Answer) (aim : Aim) → Hears x s m answer → m.call.purpose ≡ Lease work step → Known x
    → OnPast x.setting x.past (carry_lease s (spot_of_call x.setting.layout m) work (next_of_lease x.setting (seen x) s (spot_of_call x.setting.layout m) aim m step answer) x)
leads x s work step m answer aim hears is h =
    let st : Setting = x.setting in
    let at : Spot = spot_of_call st.layout m in
    let setting : IsSetting st = h.0.known.0.setting in
    let stands = standing st (seen x) m h.1 (heard_call x s m answer hears).0 in
    let base : IsTrue (is_base st.layout at.base) = stands.1.area (ap (λ p. is_some (lease_step p)) is) in
    let k : LeaseKnown = known st (seen x) s at in
    carried x h.0 s (heard_there x s m answer hears) at base x work (next_of_lease st (seen x) s at aim m step answer) (starts_so x h)
    (owes_so x s at (next_of_lease st (seen x) s at aim m step answer) (is_some (owed k)) (answers_look (lease_place st s) k aim m.call.number (lver_written m) step answer)
    (λ owes. (let d = writer x s at owes in wrote_before x s at d.0 setting (spot_aligned st.layout m) d.1 d.2 (none_new x d.0 hears.bare))))

-- ---- a settling

-- Of no calls nothing is owed.
none_owed : (x : Step) (s : Session) (at : Spot) → lease_calls x.setting (seen x) s at ≡ [] → is_some (owed (known x.setting (seen x) s at)) ≡ false
unfolding known
none_owed x s at none =
    ap (λ ms. is_some (owed (known_of x.setting.layout s.lockspace (me (seen x) s) (has_shared_on (seen x) s at) (option_map (λ g. g.lver) (exclusive_on (seen x) s at)) (counts_over x.setting (seen x) s) ms))) none

rests : (p : LeasePlace) (k : LeaseKnown) → is_some (owed k) ≡ false → settle_next p k ≡ No_lease
unfolding settle_next
rests p k none = nothing (owed k) none where
  nothing : (o : Option Owed) → is_some o ≡ false → settle_owed p k o ≡ No_lease
  nothing None none_there = refl
  nothing (Some o) none_there = absurd (true_is_false none_there)

settles_none : (p : LeasePlace) (k : LeaseKnown) → is_some (owed k) ≡ false → within_turn p k Settles (settle_begin p k) ≡ No_lease
settles_none p k none =
    within_cases (λ n. n ≡ No_lease) p k Settles (settle_begin p k) (λ fits. begin_cases (λ n. n ≡ No_lease) p k (λ paired block. blocked (owed k) none block) (λ rest. rests p k none)) (λ paired over writes. refl) where
      blocked : {P : Type 0} (o : Option Owed) → is_some o ≡ false → owes_block o ≡ true → P
      blocked None none_there block = absurd (true_is_false (sym block))
      blocked (Some o) none_there block = absurd (true_is_false none_there)

-- A call that the step has made on the area would be open.
open_new : (x : Step) (at : Spot) (d : Submitted) → IsSetting x.setting → open_on x.setting (seen x) at ≡ [] → Contains (submitted (seen x)) d → spot_of_call x.setting.layout d ≡ at
    → IsNewCall (length x.past) x.reading x.effects.calls d → ⊥
open_new x at d setting free there spot new = none_open x.setting setting (seen x) at free d there new.unmet spot

pub settled : (x : Step) (s : Session) (at : Spot) → Has x s → at.base % x.setting.layout.area ≡ 0 → open_on x.setting (seen x) at ≡ [] → Known x
    → OnPast x.setting x.past (carry_lease s at Settling (next_of_settling x.setting (seen x) s at) x)
unfolding carry_lease
settled x s at has aligned free h = by (lease_calls x.setting (seen x) s at) refl where
  setting : IsSetting x.setting
  setting = h.0.known.0.setting

  there : Contains (sessions x.setting (seen x)) s
  there = got_inside (sessions x.setting (seen x)) s.number s has

  -- of a call of the lease
  call : (d : Submitted) → Contains (lease_calls x.setting (seen x) s at) d → Contains (submitted (seen x)) d × (is_lease_call d ≡ true) × (spot_of_call x.setting.layout d ≡ at)
  call d inside =
      let on = kept_inside (λ (z : Submitted). is_lease_call z && is_on x.setting.layout at z.call) (calls_of (seen x) s) d inside in
      let its = and_true (is_lease_call d) (is_on x.setting.layout at d.call) on.1 in
      ((kept_inside (is_call_of s) (submitted (seen x)) d on.0).0, its.0, new_spot x.setting at d.call setting aligned its.1)

  by : (ms : List Submitted) → lease_calls x.setting (seen x) s at ≡ ms → OnPast x.setting x.past (carry_lease s at Settling (next_of_settling x.setting (seen x) s at) x)
  by [] is =
      subst (λ n. OnPast x.setting x.past (carry_lease s at Settling n x))
      (sym (settles_none (lease_place x.setting s) (known x.setting (seen x) s at) (none_owed x s at is))) (starts_so x h)
  by (d ∷ ds) is =
      let c = call d (subst (λ zs. Contains zs d) (sym is) (contains_first d ds)) in
      let stands = standing x.setting (seen x) d h.1 c.0 in
      let base : IsTrue (is_base x.setting.layout at.base) = subst (λ (z : Spot). IsTrue (is_base x.setting.layout z.base)) c.2 (stands.1.area c.1) in
      let k : LeaseKnown = known x.setting (seen x) s at in
      carried x h.0 s there at base x Settling (next_of_settling x.setting (seen x) s at) (starts_so x h)
      (owes_so x s at (next_of_settling x.setting (seen x) s at) (is_some (owed k)) (settlings_look (lease_place x.setting s) k)
      (λ owes. (let e = writer x s at owes in wrote_before x s at e.0 setting aligned e.1 e.2 (open_new x at e.0 setting free (call e.0 e.1).0 (call e.0 e.1).2))))
