-- What is known where a lease's call is answered: the call is the session's on the area, the session is joined, its job's command is one
-- of the layout.
use Rattle.sl_due_facts.specs.Acts.Acts.{Has, Hears}
use Rattle.sl_due_facts.specs.Acts.TraceSoFar.{entry_of}
use Rattle.sl_area.specs.AreaSizes.{Layout}
use Rattle.sl_area.specs.AreaLayout.{in_area}
use Rattle.sl_due.specs.Steps.{Step, seen, with_input}
use Rattle.sl_due_leases.proofs.Holdings.HoldingsByInputs.{calls_marked}
use Rattle.sl_due_leases.proofs.Holdings.LeasePlaces.{area_is}
use Rattle.sl_run.specs.Lawful.{IsSetting, Orderly}
use Rattle.sl_run.specs.LawForms.{IsAnsweredAt}
use Rattle.sl_trace.specs.Jobs.{command_numbered, command_of}
use Rattle.sl_trace.specs.Leases.{is_lease_call, is_on, lease_calls, lease_step, spot_of_call}
use Rattle.sl_words.proofs.Lists.{any_found, contains_cases, contains_map, contains_none, find_inside, kept, kept_inside}
use Rattle.sl_words.proofs.Numbers.{number_itself}
use Rattle.sl_words.proofs.Options.{none_is, then_value}
use Rattle.sl_trace.specs.Sessions.{calls_of, has_open_write, is_call_of, is_joined, is_present, joined_after, refused_after, removed_after}
use Rattle.sl_trace.specs.declared.session.Session.{Session}
use Rattle.sl_due_facts.specs.Facts.CallFacts.{CallFacts}
use Rattle.sl_due_facts.specs.Facts.HeardCall.{IsOpen, heard_by}
use Rattle.sl_due_facts.specs.Facts.WorkFacts.{IsWaiting}
use Rattle.sl_trace.specs.CommandForms.{IsCommand}
use Rattle.sl_trace.specs.Traces.{Job, Setting, Submitted, Trace, answer_of, answered_in, call_numbered, is_answer_for, is_expected, mark, outstanding, job_in, is_write, job_numbered, jobs, line_in, next_job, submitted}
use Rattle.sl_trace.specs.declared.command.Command.{Command}
use Rattle.sl_trace.specs.declared.effects.Call.{Call}
use Rattle.sl_trace.specs.declared.effects.LeaseStep.{LeaseStep}
use Rattle.sl_trace.specs.declared.effects.Purpose.TheVariants.{Lease}
use Rattle.sl_trace.specs.declared.effects.Work.{Work}
use Rattle.sl_trace.specs.declared.input.Answer.{Answer}
use Rattle.sl_trace.specs.declared.input.Input.TheVariants.{Answer as Told, Wake}
use Rattle.sl_run_law.proofs.Leases.NumberLaws.{number_is_place}
use Rattle.sl_run_law.proofs.Sessions.WritesAreCovered.{joinings_are_in_turn}
use Rattle.sl_run_law.specs.Sessions.SessionLaws.{all_done, fits, fits_as, has_reply, is_in_turn}
use Rattle.sl_run_law.proofs.Sessions.CallsAreMade.{same_answered}
use Rattle.sl_words.proofs.CaseLaws.{none_some, one_value, not_both, some_value}
use Rattle.sl_words.proofs.WordLaws.{and_true}
use Rattle.std.proofs.Common.{ap, arith, inl, inr, refl, subst, sym, ◌∙◌}
use Rattle.std.proofs.Math.Nat.{div-add-mod, mod-lt, mul-mod_right}
use Rattle.std.proofs.lemmas.Bool.{eqb-true, le-leb, lt-ltb}
use Rattle.std.proofs.lemmas.List.Elements.{Contains-append_cases}
use Rattle.std.specs.Cmp.Lexicographic.{nat_list_eq_equiv}
use Rattle.std.specs.Option.{option_or}
use Rattle.std.specs.Prelude.{Bool, Contains, Err, IsTrue, List, None, Ok, Option, Result, Some, [], false, is_none, is_some, length, map, nat_le, nat_lt, true, ℕ, ◌%◌, ◌&&◌, ◌*◌, ◌+◌, ◌-◌, ◌/◌, ◌<◌, ◌==◌, ◌||◌, ◌∷◌, ◌≡◌, ◌≤◌, ◌⊎◌}

-- ---- the call

pub heard_call : (x : Step) (s : Session) (m : Submitted) (answer : Answer) → Hears x s m answer → Contains (submitted (seen x)) m × (heard_by x.input ≡ Some m.call.number)
heard_call x s m answer hears =
    let f = find_inside (λ (k : Submitted). k.call.number == hears.number) (submitted (seen x)) m hears.call in
    (f.0, ap (λ i. heard_by i) hears.heard ∙ ap (λ n. Some n) (sym (eqb-true m.call.number hears.number f.1)))

pub heard_waits : (x : Step) (s : Session) (m : Submitted) (answer : Answer) → Hears x s m answer → IsWaiting (seen x) (heard_by x.input) m
heard_waits x s m answer hears = inr ((heard_call x s m answer hears).1, hears.bare, hears.ungranted)

pub heard_opens : (x : Step) (s : Session) (m : Submitted) (answer : Answer) → Hears x s m answer → IsOpen (seen x) (heard_by x.input) m
heard_opens x s m answer hears = inr ((heard_call x s m answer hears).1, hears.bare)

pub heard_session : (x : Step) (s : Session) (m : Submitted) (answer : Answer) → Hears x s m answer → m.call.session ≡ s.number
heard_session x s m answer hears = sym (number_is_place x.setting (seen x) m.call.session s hears.session)

pub mine_heard : (x : Step) (s : Session) (m : Submitted) (answer : Answer) → Hears x s m answer → Contains (calls_of (seen x) s) m
mine_heard x s m answer hears =
    kept (is_call_of s) (submitted (seen x)) m (subst (λ n. (n == s.number) ≡ true) (sym (heard_session x s m answer hears)) (number_itself s.number)) (heard_call x s m answer hears).0

-- A call is on its own area.
around : (o size : ℕ) → 0 < size → (nat_le (o - o % size) o && nat_lt o (o - o % size + size)) ≡ true
around o size some =
    let low : o - o % size ≤ o = omega arith in
    let less : o % size < size = mod-lt o some in
    ap (λ b. b && nat_lt o (o - o % size + size)) (le-leb (o - o % size) o low) ∙ lt-ltb o (o - o % size + size) (omega (arith, less))

pub on_own_area : (st : Setting) (m : Submitted) → IsSetting st → is_on st.layout (spot_of_call st.layout m) m.call ≡ true
on_own_area st m is =
    ap (λ b. b && in_area st.layout (m.call.offset - m.call.offset % st.layout.area) m.call.offset) (nat_list_eq_equiv.refl m.call.path) ∙ around m.call.offset st.layout.area (area_is st is)

pub lease_heard : (x : Step) (s : Session) (m : Submitted) (answer : Answer) (work : Work) (step : LeaseStep) → IsSetting x.setting → Hears x s m answer → m.call.purpose ≡ Lease work step
    → Contains (lease_calls x.setting (seen x) s (spot_of_call x.setting.layout m)) m
lease_heard x s m answer work step is hears its =
    kept (λ d. is_lease_call d && is_on x.setting.layout (spot_of_call x.setting.layout m) d.call) (calls_of (seen x) s) m
    (ap (λ b. b && is_on x.setting.layout (spot_of_call x.setting.layout m) m.call) (ap (λ p. is_some (lease_step p)) its) ∙ on_own_area x.setting m is) (mine_heard x s m answer hears)

-- The area begins at a base.
pub spot_aligned : (g : Layout) (m : Submitted) → (spot_of_call g m).base % g.area ≡ 0
spot_aligned g m = subst (λ n. n % g.area ≡ 0) (sym (base_is g.area m.call.offset)) (mul-mod_right g.area (m.call.offset / g.area)) where
  base_is : (size o : ℕ) → o - o % size ≡ size * (o / size)
  base_is size o = omega (arith, div-add-mod o size)

-- ---- the session

pub in_turn_fits : (ms : List Submitted) (m : Submitted) → is_in_turn ms ≡ true → Contains ms m → fits m ≡ true
in_turn_fits [] m turn there = absurd (contains_none m there)
in_turn_fits (d ∷ ms) m turn there = by (and_true (fits d) (all_done ms) turn) (contains_cases d ms m there) where
  done : (ks : List Submitted) → all_done ks ≡ true → Contains ks m → fits m ≡ true
  done [] all inside = absurd (contains_none m inside)
  done (k ∷ ks) all inside = one (and_true (fits k && has_reply k) (all_done ks) all) (contains_cases k ks m inside) (λ a b. done ks a b) where
    one : ((fits k && has_reply k) ≡ true) × (all_done ks ≡ true) → (k ≡ m) ⊎ Contains ks m → (all_done ks ≡ true → Contains ks m → fits m ≡ true) → fits m ≡ true
    one v (inl is) rest = subst (λ z. fits z ≡ true) is (and_true (fits k) (has_reply k) v.0).0
    one v (inr more) rest = rest v.1 more

  by : (fits d ≡ true) × (all_done ms ≡ true) → (d ≡ m) ⊎ Contains ms m → fits m ≡ true
  by v (inl is) = subst (λ z. fits z ≡ true) is v.0
  by v (inr more) = done ms v.1 more

-- Who has called for a lease, and is still present, is joined.
pub caller_joined : (x : Step) (s : Session) (m : Submitted) (answer : Answer) (work : Work) (step : LeaseStep) → Orderly x.setting (seen x) → Has x s → Hears x s m answer → m.call.purpose ≡ Lease work step
    → is_joined (seen x) s ≡ true
caller_joined x s m answer work step order has hears its = by (joined_after (seen x) s) refl where
  unfit : fits m ≡ false
  unfit = ap (λ p. fits_as p (is_write m.call.op)) its

  stays : (o : Option ℕ) (waits : Bool) → (is_none o || (false && waits)) ≡ true → is_none o ≡ true
  stays None waits h = refl
  stays (Some k) waits h = absurd (not_both true refl (sym h))

  by : (o : Option ℕ) → joined_after (seen x) s ≡ o → is_joined (seen x) s ≡ true
  by None none = absurd (not_both (fits m) (in_turn_fits (calls_of (seen x) s) m (joinings_are_in_turn x.setting (seen x) s order has none) (mine_heard x s m answer hears)) unfit)
  by (Some k) joined =
      let present : is_present (seen (with_input Wake x)) s ≡ true = hears.present in
      ap (λ o. is_some o && is_none (removed_after (seen x) s)) joined ∙ left (joined_after (seen x) s) joined present where
        left : (o : Option ℕ) → o ≡ Some k
            → (is_none (elim o as (λ z. Option ℕ) [ Some i ↦ removed_after (seen x) s | None ↦ refused_after (seen x) s ]) || (is_none o && has_open_write (seen (with_input Wake x)) s)) ≡ true
            → is_none (removed_after (seen x) s) ≡ true
        left (Some i) at h = stays (removed_after (seen x) s) (has_open_write (seen (with_input Wake x)) s) h
        left None at h = absurd (none_some k at)

-- ---- the command

read_from : (st : Setting) (t : Trace) (j : Job) → Contains (jobs st t) j → (text : List ℕ) × (j.command ≡ st.read text)
read_from st [] j there = absurd (contains_none j there)
read_from st (e ∷ es) j there = by (λ old. read_from st es j old) (Contains-append_cases (jobs st es) (job_in st es (next_job st es) e) j there) where
  new : (o : Option (List ℕ)) → Contains (elim o as (λ z. List Job) [ None ↦ [] | Some text ↦ record { number = next_job st es; at = length es; reading = e.reading; command = st.read text } ∷ [] ]) j
      → (text : List ℕ) × (j.command ≡ st.read text)
  new None h = absurd (contains_none j h)
  new (Some text) h = (text, only (contains_cases (record { number = next_job st es; at = length es; reading = e.reading; command = st.read text }) [] j h)) where
    only : (record { number = next_job st es; at = length es; reading = e.reading; command = st.read text } ≡ j) ⊎ Contains [] j → j.command ≡ st.read text
    only (inl is) = ap (λ (k : Job). k.command) (sym is)
    only (inr none) = absurd (contains_none j none)

  by : (Contains (jobs st es) j → (text : List ℕ) × (j.command ≡ st.read text)) → Contains (jobs st es) j ⊎ Contains (job_in st es (next_job st es) e) j → (text : List ℕ) × (j.command ≡ st.read text)
  by more (inl old) = more old
  by more (inr h) = new (line_in e.input) h

said : (r : Result Command ℕ) (c : Command) → (elim r as (λ z. Option Command) [ Ok k ↦ Some k | Err e ↦ None ]) ≡ Some c → r ≡ Ok c
said (Ok k) c is = ap (λ z. Ok z) (some_value k c is)
said (Err e) c is = absurd (none_some c is)

-- A job's command is one of the layout.
pub commands_fit : (st : Setting) (t : Trace) (j : ℕ) (c : Command) → IsSetting st → command_numbered st t j ≡ Some c → IsCommand st.layout c
commands_fit st t j c is at =
    let v = then_value command_of (job_numbered st t j) c at in
    let f = find_inside (λ (k : Job). k.number == j) (jobs st t) v.0 v.1 in
    let r = read_from st t v.0 f.0 in
    is.reads r.0 c (sym r.1 ∙ said v.0.command c v.2)

-- ---- the answer

-- The call that was heard has the answer of this entry.
pub heard_answered : (x : Step) (s : Session) (m : Submitted) (answer : Answer) → CallFacts x.setting (seen x) → Orderly x.setting (seen x) → Hears x s m answer → IsAnsweredAt (length x.past) m answer
heard_answered x s m answer facts order hears = by (any_found (λ (k : Submitted). k.call.number == hears.number && is_answer_for x.setting answer k.call.op) (outstanding x.past) expected) where
  expected : IsTrue (is_expected x.setting x.past (Told hears.number answer))
  expected = subst (λ i. IsTrue (is_expected x.setting x.past i)) hears.heard order.is_trace.0.expected

  marked : submitted (seen x) ≡ map (answered_in x.past (entry_of x) hears.number answer) (submitted x.past)
  marked = calls_marked x hears.bare ∙ ap (λ i. mark x.past (entry_of x) i (submitted x.past)) hears.heard

  told : (k : Submitted) → k.answer ≡ None → (k.call.number == hears.number) ≡ true
      → (answered_in x.past (entry_of x) hears.number answer k).answer ≡ Some (answer_of x.past (entry_of x) answer k.call)
  told k none same =
      ap (λ b. (elim b as (λ z. Submitted) [ false ↦ k | true ↦ record k { answer = option_or k.answer (Some (answer_of x.past (entry_of x) answer k.call)) } ]).answer) same
      ∙ ap (λ o. option_or o (Some (answer_of x.past (entry_of x) answer k.call))) none

  by : (k : Submitted) × Contains (outstanding x.past) k × ((k.call.number == hears.number && is_answer_for x.setting answer k.call.op) ≡ true) → IsAnsweredAt (length x.past) m answer
  by f =
      let k : Submitted = f.0 in
      let v = and_true (k.call.number == hears.number) (is_answer_for x.setting answer k.call.op) f.2 in
      let open_k = kept_inside (λ (d : Submitted). is_none d.answer) (submitted x.past) k f.1 in
      let n : Submitted = answered_in x.past (entry_of x) hears.number answer k in
      let there : Contains (submitted (seen x)) n = subst (λ ms. Contains ms n) (sym marked) (contains_map (answered_in x.past (entry_of x) hears.number answer) (submitted x.past) k open_k.0) in
      let number : n.call.number ≡ hears.number = ap (λ (c : Call). c.number) (same_answered x.past (entry_of x) hears.number answer k).call ∙ eqb-true k.call.number hears.number v.0 in
      let same : n ≡ m = one_value n m (call_numbered (seen x) hears.number) (subst (λ j. call_numbered (seen x) j ≡ Some n) number (facts.found n there)) hears.call in
      (answer_of x.past (entry_of x) answer k.call, ap (λ (d : Submitted). d.answer) (sym same) ∙ told k (none_is k.answer open_k.1) v.0, refl, refl)
