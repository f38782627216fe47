-- What is known when an answer has been heard: which call it is of, that a lease's is its newest, and that no other is open on its area.
use Rattle.sl_run_law.proofs.Place.FoundInLists.{same_text}
use Rattle.sl_due_facts.specs.Acts.Acts.{Has, Hears}
use Rattle.sl_due_facts.specs.Acts.TraceSoFar.{entry_of}
use Rattle.sl_due.specs.CarriedLease.{goes_on}
use Rattle.sl_due.specs.Steps.{Step, seen}
use Rattle.sl_run.specs.LawfulArea.{is_area_work}
use Rattle.sl_due_leases.proofs.Ways.AreasAligned.{spot_aligned}
use Rattle.sl_due_leases.proofs.Ways.WayFactsHeld.EffectsLeave.{there_has}
use Rattle.sl_due_leases.proofs.Ways.WayFactsHeld.InputsLeave.{same_call}
use Rattle.sl_due_leases.proofs.Ways.WayFactsHeld.LeaseNextsLeave.{HasEnded, LeaseReady, moment_of}
use Rattle.sl_due_leases.specs.Ways.Nexts.{IsHeard}
use Rattle.sl_trace.specs.Jobs.{aim_of}
use Rattle.sl_trace.specs.Leases.{exclusive_on, holdings_on, is_lease_call, lease_step, spot_of_call}
use Rattle.sl_trace.specs.declared.lease.Aim.{Aim}
use Rattle.sl_trace.specs.Sessions.{holdings_of, session_numbered, sessions}
use Rattle.sl_trace.specs.declared.session.Session.{Session}
use Rattle.sl_due_facts.specs.Facts.CallFacts.{CallFacts}
use Rattle.sl_due_facts.specs.Facts.HeardCall.{IsOpen, heard_by}
use Rattle.sl_due_facts.specs.Facts.HoldingFacts.{HoldingFacts, StandsExclusive}
use Rattle.sl_due_facts.specs.Facts.AllFacts.{Whole}
use Rattle.sl_trace.specs.Traces.{Answered, Replied, Submitted, answer_of, answered_in, call_numbered, holdings, is_answer_for, is_before_input, is_expected, is_going_on, is_refused_before_input, is_shared, job_of, mark, new_call, outstanding, reply_in, reply_to, same_place, spot_of_grant, submitted, work_job}
use Rattle.sl_trace.specs.declared.effects.Call.{Call}
use Rattle.sl_trace.specs.declared.effects.Grant.{Grant}
use Rattle.sl_trace.specs.declared.effects.JobReply.{JobReply}
use Rattle.sl_trace.specs.declared.effects.LeaseStep.{LeaseStep}
use Rattle.sl_trace.specs.declared.effects.Purpose.TheVariants.{Lease}
use Rattle.sl_trace.specs.declared.effects.Spot.{Spot}
use Rattle.sl_trace.specs.declared.effects.Work.TheVariants.{ForJob, Settling}
use Rattle.sl_trace.specs.declared.effects.Work.{Work}
use Rattle.sl_trace.specs.declared.input.Answer.{Answer}
use Rattle.sl_trace.specs.declared.input.Input.TheVariants.{Answer as Told}
use Rattle.sl_trace.specs.declared.input.Input.{Input}
use Rattle.sl_words.proofs.Lists.{any_found, contains_map, find_fails, find_inside, kept_inside}
use Rattle.sl_run_law.proofs.Leases.NumberLaws.{number_is_place}
use Rattle.sl_words.proofs.Options.{none_is, mapped_value}
use Rattle.sl_words.proofs.CaseLaws.{false_is_true, is_false, none_some, one_value, true_is_false}
use Rattle.sl_words.proofs.WordLaws.{and_true}
use Rattle.std.proofs.Common.{ap, arith, eqb-true, inl, inr, refl, subst, sym, ◌∙◌}
use Rattle.std.specs.List.{list_any}
use Rattle.std.specs.Option.{option_or}
use Rattle.std.specs.Prelude.{Bool, Contains, IsTrue, List, None, Option, Some, [], bytes_eq, false, find, fold, is_none, is_some, length, map, not, option_map, true, ℕ, ◌&&◌, ◌+◌, ◌<◌, ◌==◌, ◌∷◌, ◌≡◌, ◌≤◌}

-- ---- the call that was answered

abbrev told_with : Step → ℕ → Answer → Submitted → Submitted
told_with x n a m = answered_in x.past (entry_of x) n a m

-- The calls of an entry that brings an answer, before it makes any.
pub heard_calls : (x : Step) (n : ℕ) (a : Answer) → x.input ≡ Told n a → x.effects.calls ≡ [] → submitted (seen x) ≡ map (told_with x n a) (submitted x.past)
heard_calls x n a told bare =
    ap (λ cs. fold (λ ms c. new_call (length x.past) x.reading c ∷ ms) (mark x.past (entry_of x) x.input (submitted x.past)) cs) bare
    ∙ ap (λ k. mark x.past (entry_of x) k (submitted x.past)) told

answered_here : (x : Step) (n : ℕ) (a : Answer) (d : Submitted) → (d.call.number == n) ≡ true → d.answer ≡ None → (told_with x n a d).answer ≡ Some (answer_of x.past (entry_of x) a d.call)
answered_here x n a d is none =
    ap (λ b. (elim b as (λ z. Submitted) [ false ↦ d | true ↦ record d { answer = option_or d.answer (Some (answer_of x.past (entry_of x) a d.call)) } ]).answer) is
    ∙ ap (λ o. option_or o (Some (answer_of x.past (entry_of x) a d.call))) none

-- What is known of it.
pub record HeardCall (x : Step) (a : Answer) (m : Submitted) : Type 0 where
  pub there : Contains (submitted (seen x)) m
  pub told : m.answer ≡ Some (answer_of x.past (entry_of x) a m.call)

told_by_number : (x : Step) (n : ℕ) (a : Answer) → x.input ≡ Told n a → x.effects.calls ≡ [] → IsTrue (list_any (λ m. m.call.number == n && is_answer_for x.setting a m.call.op) (outstanding x.past)) → CallFacts x.setting (seen x)
    → (m : Submitted) → call_numbered (seen x) n ≡ Some m → HeardCall x a m
told_by_number x n a told bare expected calls m is =
    let found = any_found (λ (d : Submitted). d.call.number == n && is_answer_for x.setting a d.call.op) (outstanding x.past) expected in
    let d : Submitted = found.0 in
    let both = and_true (d.call.number == n) (is_answer_for x.setting a d.call.op) found.2 in
    let inside = kept_inside (λ (k : Submitted). is_none k.answer) (submitted x.past) d found.1 in
    let there : Contains (submitted (seen x)) (told_with x n a d) = subst (λ ms. Contains ms (told_with x n a d)) (sym (heard_calls x n a told bare)) (contains_map (told_with x n a) (submitted x.past) d inside.0) in
    let call : (told_with x n a d).call ≡ d.call = (same_call x.past (entry_of x) n a d).0 in
    let same : told_with x n a d ≡ m =
    one_value (told_with x n a d) m (call_numbered (seen x) n)
    (ap (λ k. call_numbered (seen x) k) (sym (ap (λ (c : Call). c.number) call ∙ eqb-true d.call.number n both.0)) ∙ calls.found (told_with x n a d) there) is
    in
    subst (λ (z : Submitted). HeardCall x a z) same
    (record {
      there = there;
      told = answered_here x n a d both.0 (none_is d.answer inside.1) ∙ ap (λ (c : Call). let o : Option Answered = Some (answer_of x.past (entry_of x) a c) in o) (sym call);
    })

pub heard_call : (x : Step) (s : Session) (m : Submitted) (a : Answer) → Hears x s m a → Whole x → HeardCall x a m
heard_call x s m a h w =
    told_by_number x h.number a h.heard h.bare (subst (λ (i : Input). IsTrue (is_expected x.setting x.past i)) h.heard w.orderly.is_trace.0.expected) w.facts.calls m h.call

-- Its number is the one that was answered.
pub heard_number : (x : Step) (s : Session) (m : Submitted) (a : Answer) → (h : Hears x s m a) → m.call.number ≡ h.number
heard_number x s m a h = eqb-true m.call.number h.number (find_inside (λ (d : Submitted). d.call.number == h.number) (submitted (seen x)) m h.call).1

pub heard_open : (x : Step) (s : Session) (m : Submitted) (a : Answer) → Hears x s m a → IsOpen (seen x) (heard_by x.input) m
heard_open x s m a h = inr (ap (λ i. heard_by i) h.heard ∙ ap (λ n. Some n) (sym (heard_number x s m a h)), h.bare)

pub heard_has : (x : Step) (s : Session) (m : Submitted) (a : Answer) → Hears x s m a → Has x s
heard_has x s m a h = ap (λ n. session_numbered x.setting (seen x) n) (number_is_place x.setting (seen x) m.call.session s h.session) ∙ h.session

-- ---- it was heeded

running_before : (past : Option Replied) (now : Option Replied) → is_none (elim past as (λ z. Option Replied) [ Some r ↦ Some r | None ↦ now ]) ≡ true → (past ≡ None) × (now ≡ None)
running_before None now is = (refl, none_is now is)
running_before (Some r) now is = absurd (false_is_true is)

unmapped : (n : ℕ) (o : Option JobReply) → option_map (λ (b : JobReply). let r : Replied = record { at = n; reply = b.reply } in r) o ≡ None → o ≡ None
unmapped n None is = refl
unmapped n (Some b) is = absurd (none_some _ (sym is))

refused_none : (j : ℕ) (rs : List JobReply) → find (λ (b : JobReply). b.job == j) rs ≡ None → list_any (λ (b : JobReply). b.job == j && is_before_input b.reply) rs ≡ false
refused_none j rs none = is_false (list_any (λ (b : JobReply). b.job == j && is_before_input b.reply) rs) (λ is.
    let found = any_found (λ (b : JobReply). b.job == j && is_before_input b.reply) rs is in
    let both = and_true (found.0.job == j) (is_before_input found.0.reply) found.2 in
    true_is_false (sym both.0 ∙ find_fails (λ (b : JobReply). b.job == j) rs found.0 none found.1))

going : (x : Step) (s : Session) (work : Work) → goes_on x.setting (seen x) s work ≡ true → is_going_on x.past (entry_of x) (work_job work) ≡ true
going x s Settling is = refl
going x s (ForJob j) is =
    let parts = running_before (reply_to x.past j) (reply_in j x.past (entry_of x)) is in
    let none : find (λ (b : JobReply). b.job == j) x.effects.replies ≡ None = unmapped (length x.past) (find (λ (b : JobReply). b.job == j) x.effects.replies) parts.1 in
    ap (λ o. is_none o && not (is_refused_before_input (entry_of x) j)) parts.0 ∙ ap (λ b. not b) (refused_none j x.effects.replies none)

-- ---- of a lease

made_below : (x : Step) (m : Submitted) → m.at < length (seen x) → m.at < length x.past + 1
made_below x m lt = omega (arith, lt)

below_most : (a n : ℕ) → a < n + 1 → a ≤ n
below_most a n lt = omega (arith, lt)

-- What its lease decides on.
pub lease_heard : (x : Step) (s : Session) (work : Work) (step : LeaseStep) (m : Submitted) (a : Answer) (aim : Aim) → (h : Hears x s m a) → m.call.purpose ≡ Lease work step → goes_on x.setting (seen x) s work ≡ true
    → aim_of x.setting (seen x) work ≡ Some aim → (w : Whole x)
    → (k : IsHeard (moment_of x s (spot_of_call x.setting.layout m) work) step aim a) × (k.call ≡ m)
lease_heard x s work step m a aim h is on aimed w =
    let c : HeardCall x a m = heard_call x s m a h w in
    let lease : IsTrue (is_lease_call m) = ap (λ p. is_some (lease_step p)) is in
    let first = w.facts.turns.newest s m h.session c.there (heard_open x s m a h) lease in
    let has : Contains (sessions x.setting (seen x)) s = there_has x.setting (seen x) m.call.session s h.session in (
      record {
        call = m;
        rest = first.0;
        newest = first.1;
        ways = w.facts.ways.each s (spot_of_call x.setting.layout m) has (spot_aligned x.setting.layout.area m.call.offset);
        its = is;
        told = answer_of x.past (entry_of x) a m.call;
        answered = (c.told, refl, ap (λ p. is_going_on x.past (entry_of x) (job_of p)) is ∙ going x s work on, refl);
        later = below_most m.at (length x.past) (made_below x m (w.facts.calls.made m c.there));
        aimed = aimed;
      },
      refl,
    )

-- Its area is free for the next call.
pub lease_ready : (x : Step) (s : Session) (m : Submitted) (a : Answer) → (h : Hears x s m a) → is_area_work m.call.purpose ≡ true → (w : Whole x) → LeaseReady x s (spot_of_call x.setting.layout m)
lease_ready x s m a h work w =
    let c : HeardCall x a m = heard_call x s m a h w in
    record {
      has = heard_has x s m a h;
      setting = w.setting;
      aligned = spot_aligned x.setting.layout.area m.call.offset;
      clear = λ d there none its spot.
          let same : d ≡ m = w.facts.turns.one d m there c.there (inl none) (heard_open x s m a h) its work spot in
          none_some (answer_of x.past (entry_of x) a m.call) (sym none ∙ (ap (λ (z : Submitted). z.answer) same ∙ c.told));
      below = w.facts.calls.below;
    }

-- ---- exclusive holdings

not_shared : (b : Bool) → not b ≡ true → b ≡ false
not_shared false is = refl
not_shared true is = absurd (false_is_true is)

abbrev spot_at : List ℕ → ℕ → Spot
spot_at p n = record { path = p; base = n }

-- A holding's area is where it is.
pub spot_same : (g : Grant) (at : Spot) → same_place g.path g.offset at.path at.base ≡ true → spot_of_grant g ≡ at
spot_same g at is =
    let both = and_true (g.offset == at.base) (bytes_eq g.path at.path) is in
    ap (λ p. spot_at p g.offset) (same_text g.path at.path both.1) ∙ ap (λ n. spot_at at.path n) (eqb-true g.offset at.base both.0)

-- What stands behind an exclusive holding of a session on an area.
pub exclusive_stands : (x : Step) (s : Session) (at : Spot) (e : ℕ) → Has x s → HoldingFacts x.setting (seen x) (heard_by x.input) → option_map (λ (g : Grant). g.lver) (exclusive_on (seen x) s at) ≡ Some e → HasEnded x s at e
exclusive_stands x s at e has held is =
    let found = mapped_value (λ (g : Grant). g.lver) (exclusive_on (seen x) s at) e is in
    let g : Grant = found.0 in
    let inside = find_inside (λ (k : Grant). not (is_shared k.mode)) (holdings_on (seen x) s at) g found.1 in
    let placed = kept_inside (λ (k : Grant). same_place k.path k.offset at.path at.base) (holdings_of (seen x) s) g inside.0 in
    let owned = kept_inside (λ (k : Grant). k.session == s.number) (holdings (seen x)) g placed.0 in
    let its : session_numbered x.setting (seen x) g.session ≡ Some s = ap (λ n. session_numbered x.setting (seen x) n) (eqb-true g.session s.number owned.1) ∙ has in
    let stands : StandsExclusive x.setting (seen x) (heard_by x.input) s (spot_of_grant g) g.lver = held.stands g s owned.0 its (not_shared (is_shared g.mode) inside.1) in
    subst (λ n. HasEnded x s at n) found.2 (subst (λ z. HasEnded x s z g.lver) (spot_same g at placed.1) (stands.ballot.won, stands.concluded))
