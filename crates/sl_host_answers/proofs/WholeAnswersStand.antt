-- An answer that is heard and then acted on is answered.
use Rattle.sl_area.specs.AreaSizes.{layout_of}
use Rattle.sl_host_answers.specs.WholeAnswers.{HeardKnown, IsHeard, MayAnswer, due_for, due_of, found_for, is_job_call, is_joining_purpose, joined_on}
use Rattle.sl_host_answers.specs.Facts.{JoinKnown, ReadKnown, ToldKnown}
use Rattle.sl_host_answers.specs.JoiningAnswers.{join_answer}
use Rattle.sl_host_answers.specs.Surveys.{leases_of, spots_of}
use Rattle.sl_host_answers.specs.declared.own_sectors.JoinAnswer.{JoinAnswer}
use Rattle.sl_host_law.specs.Answers.Requests.{answering_job}
use Rattle.sl_host_law.specs.Steps.Answers.{answering, answering_by, answering_for}
use Rattle.sl_host_law.specs.Steps.Passes.{at_member, member_numbered}
use Rattle.sl_host_state.specs.HeardInputs.{heard_answer, hearing, is_heeded_by, is_over_with, job_hearing, lease_told, member_hearing, others}
use Rattle.sl_host_state.specs.KeptState.{HostKept, HostState, Made, MemberState, state_of}
use Rattle.sl_host_state.specs.MadeEffects.{has_write_open}
use Rattle.sl_host_state.specs.declared.kept_parts.OpenCall.{OpenCall}
use Rattle.sl_host.specs.HeardAnswers.{IsTold, is_untold}
use Rattle.sl_host.specs.declared.told_answers.Told.{Told}
use Rattle.sl_host_law.specs.Questions.Answers.{spot_in}
use Rattle.sl_host_law.specs.Steps.Leases.{lease_at}
use Rattle.sl_lease.specs.Laws.{first_by}
use Rattle.sl_sector.specs.declared.sector.Block.{Block}
use Rattle.sl_trace.specs.declared.effects.Work.{Work}
use Rattle.sl_member.specs.HostMembers.{member_with}
use Rattle.sl_words.proofs.Lists.{find_inside}
use Rattle.sl_trace.specs.declared.command.Command.{Command}
use Rattle.sl_trace.specs.declared.effects.JoinStep.{JoinStep}
use Rattle.sl_trace.specs.declared.effects.LeaseStep.{LeaseStep}
use Rattle.sl_trace.specs.declared.effects.Purpose.TheVariants.{Joining, Lease, Leaving, Renewal, RequestRead, RequestWrite, SeeRequest, Survey, ValueRead, ValueWrite}
use Rattle.sl_trace.specs.declared.effects.Purpose.{Purpose}
use Rattle.sl_trace.specs.declared.input.Answer.TheVariants.{Failed}
use Rattle.sl_trace.specs.declared.input.Answer.{Answer}
use Rattle.sl_host.specs.BookQuestions.{state_in}
use Rattle.sl_words.proofs.CaseLaws.{none_some, some_value}
use Rattle.std.proofs.Common.{ap, arith, refl, subst, sym, true≢false, ◌∙◌}
use Rattle.std.proofs.lemmas.Bool.Decides.{Decides-eqb}
use Rattle.std.proofs.lemmas.List.{length-map}
use Rattle.std.specs.Cmp.{nat_eq_equiv}
use Rattle.std.specs.Prelude.{Bool, Err, List, None, Option, Result, Some, [], cond, false, filter, find, is_some, length, map, not, option_map, true, ℕ, ◌&&◌, ◌+◌, ◌==◌, ◌∷◌, ◌≡◌, ◌≤◌}

-- ---- where a member is there, and where not

pub if_there : (n : ℕ) (f : HostState → HostState) (h : HostState) → true ≡ is_some (member_numbered h n) → f h ≡ at_member n (λ m. f) h
if_there n f h is = by (member_numbered h n) is
  where
    by : (o : Option MemberState) → true ≡ is_some o → f h ≡ elim o [ None ↦ h | Some m ↦ f h ]
    by None is = absurd (true≢false is)
    by (Some m) is = refl

pub if_gone : (n : ℕ) (f : HostState → HostState) (h : HostState) → false ≡ is_some (member_numbered h n) → h ≡ at_member n (λ m. f) h
if_gone n f h is = by (member_numbered h n) is
  where
    by : (o : Option MemberState) → false ≡ is_some o → h ≡ elim o [ None ↦ h | Some m ↦ f h ]
    by None is = refl
    by (Some m) is = absurd (true≢false (sym is))

-- Nothing is due of it.
pub nobody : (n : ℕ) (h : HostState) → h ≡ at_member n (λ m g. g) h
nobody n h = by (member_numbered h n)
  where
    by : (o : Option MemberState) → h ≡ elim o [ None ↦ h | Some m ↦ h ]
    by None = refl
    by (Some m) = refl

-- ---- the member that has heard

module _ (h : HostState) (c : OpenCall) (a : Answer) where
  abbrev has_number : MemberState → Bool
  has_number m = m.who.number == c.session

  abbrev told : MemberState → MemberState
  told m = cond (c.session == m.who.number) (member_hearing h c a m) m

  abbrev stays : MemberState → Bool
  stays m = not (is_over_with c.number h m)

  kept_one : (m : MemberState) (ms : List MemberState) → (find has_number (m ∷ ms) ≡ Some m → m.refused ≡ false) → (b : Bool) → has_number m ≡ b
      → (b ≡ false → find has_number (filter stays (map told ms)) ≡ option_map (member_hearing h c a) (find has_number ms))
      → find has_number (filter stays (told m ∷ map told ms)) ≡ option_map (member_hearing h c a) (cond b (Some m) (find has_number ms))
  kept_one m ms plain true its rest =
      let own : (c.session == m.who.number) ≡ true = nat_eq_equiv.symm c.session m.who.number ∙ its in
      let k : MemberState = member_hearing h c a m in
      ap (λ t. find has_number (filter stays (cond t k m ∷ map told ms))) own
      ∙ (ap (λ r. find has_number (cond (not (r && not (has_write_open (record h { unanswered = others c.number h }) m.who.number))) (k ∷ filter stays (map told ms)) (filter stays (map told ms))))
      (plain (ap (λ t. cond t (Some m) (find has_number ms)) its))
      ∙ ap (λ t. cond t (Some k) (find has_number (filter stays (map told ms)))) its)
  kept_one m ms plain false its rest =
      let other : (c.session == m.who.number) ≡ false = nat_eq_equiv.symm c.session m.who.number ∙ its in
      ap (λ t. find has_number (filter stays (cond t (member_hearing h c a m) m ∷ map told ms))) other ∙ (by (stays m) ∙ rest refl)
    where
      by : (t : Bool) → find has_number (cond t (m ∷ filter stays (map told ms)) (filter stays (map told ms))) ≡ find has_number (filter stays (map told ms))
      by true = ap (λ t. cond t (Some m) (find has_number (filter stays (map told ms)))) its
      by false = refl

  found_told : (ms : List MemberState) → ((m : MemberState) → find has_number ms ≡ Some m → m.refused ≡ false)
      → find has_number (filter stays (map told ms)) ≡ option_map (member_hearing h c a) (find has_number ms)
  found_told [] plain = refl
  found_told (m ∷ ms) plain =
      kept_one m ms (plain m) (has_number m) refl
      (λ off. found_told ms (λ k at. plain k (ap (λ t. cond t (Some m) (find has_number ms)) off ∙ at)))

  -- It is there still, unless it was refused.
  pub hearing_found : ((m : MemberState) → member_numbered h c.session ≡ Some m → m.refused ≡ false)
      → member_numbered (hearing c a h) c.session ≡ option_map (member_hearing h c a) (member_numbered h c.session)
  hearing_found plain = found_told h.members plain

-- ---- the whole

-- The host that hears the answer to an open call.
opened : (h : HostState) (c : OpenCall) (a : Answer) → find (λ d. d.number == c.number) h.unanswered ≡ Some c → heard_answer c.number a h ≡ hearing c a h
opened h c a is = ap (λ o. elim o [ None ↦ h | Some d ↦ hearing d a h ]) is

answering_open : (h : HostState) (c : OpenCall) (a : Answer) → find (λ d. d.number == c.number) h.unanswered ≡ Some c → answering c.number a h ≡ answering_by (member_numbered h c.session) c.number c a h
answering_open h c a is = ap (λ o. elim o [ None ↦ h | Some d ↦ answering_by (member_numbered h d.session) c.number d a h ]) is

-- Of a member that has heard.
at_heard : (h : HostState) (c : OpenCall) (a : Answer) (p : Purpose) (f : MemberState → HostState → HostState) → find (λ d. d.number == c.number) h.unanswered ≡ Some c → c.purpose ≡ p
    → ((m : MemberState) → member_numbered h c.session ≡ Some m → m.refused ≡ false)
    → ((m : MemberState) (g : HostState) → f (member_hearing h c a m) g ≡ answering_for p h m c a g)
    → at_member c.session f (heard_answer c.number a h) ≡ answering_by (member_numbered h c.session) c.number c a h
at_heard h c a p f is purpose plain due =
    ap (λ o. elim o [ None ↦ heard_answer c.number a h | Some m ↦ f m (heard_answer c.number a h) ])
    (ap (λ g. member_numbered g c.session) (opened h c a is) ∙ hearing_found h c a plain)
    ∙ by (member_numbered h c.session)
  where
    g : HostState
    g = heard_answer c.number a h

    by : (o : Option MemberState)
        → elim (option_map (member_hearing h c a) o) [ None ↦ heard_answer c.number a h | Some m ↦ f m (heard_answer c.number a h) ] ≡ answering_by o c.number c a h
    by None = refl
    by (Some m) = due m (heard_answer c.number a h) ∙ ap (λ q. answering_for q h m c a (heard_answer c.number a h)) (sym purpose)

joining_done : (h : HostState) (c : OpenCall) (a : Answer) (j : ℕ) (step : JoinStep) → c.purpose ≡ Joining j step → (o : Option MemberState)
    → joined_on j (option_map (join_answer h c step a) o) (heard_answer c.number a h) ≡ answering_by o c.number c a h
joining_done h c a j step purpose None = refl
joining_done h c a j step purpose (Some m) = ap (λ q. answering_for q h m c a (heard_answer c.number a h)) (sym purpose)

module _ (read : List ℕ → Result Command ℕ) (k : HostKept) (c : OpenCall) (a : Answer) (may : MayAnswer k c a) where
  abbrev h : HostState
  h = state_of read k

  plain : (p : Purpose) → c.purpose ≡ p → is_joining_purpose p ≡ false → (m : MemberState) → member_numbered h c.session ≡ Some m → m.refused ≡ false
  plain p is off m there = may.stays m there (ap is_joining_purpose is ∙ off)

  done_by : (p : Purpose) → c.purpose ≡ p → due_for p c a (found_for p (state_in k) c a (member_with c.session k.members)) (heard_answer c.number a h) ≡ answering_by (member_numbered h c.session) c.number c a h
  done_by (Joining j step) is = joining_done h c a j step is (member_with c.session k.members)
  done_by Renewal is = at_heard h c a Renewal (due_of Renewal c a) may.hears.is_open is (plain Renewal is refl) (λ m g. refl)
  done_by Survey is = at_heard h c a Survey (due_of Survey c a) may.hears.is_open is (plain Survey is refl) (λ m g. refl)
  done_by (Leaving j) is = at_heard h c a (Leaving j) (due_of (Leaving j) c a) may.hears.is_open is (plain (Leaving j) is refl) (λ m g. refl)
  done_by (Lease work step) is = at_heard h c a (Lease work step) (due_of (Lease work step) c a) may.hears.is_open is (plain (Lease work step) is refl) (λ m g. refl)
  done_by (RequestRead j) is = at_heard h c a (RequestRead j) (due_of (RequestRead j) c a) may.hears.is_open is (plain (RequestRead j) is refl) (λ m g. refl)
  done_by (RequestWrite j owner) is = at_heard h c a (RequestWrite j owner) (due_of (RequestWrite j owner) c a) may.hears.is_open is (plain (RequestWrite j owner) is refl) (λ m g. refl)
  done_by SeeRequest is = at_heard h c a SeeRequest (due_of SeeRequest c a) may.hears.is_open is (plain SeeRequest is refl) (λ m g. refl)
  done_by (ValueWrite j) is = at_heard h c a (ValueWrite j) (due_of (ValueWrite j) c a) may.hears.is_open is (plain (ValueWrite j) is refl) (λ m g. refl)
  done_by (ValueRead j) is = at_heard h c a (ValueRead j) (due_of (ValueRead j) c a) may.hears.is_open is (plain (ValueRead j) is refl) (λ m g. refl)

  -- What is due by the purpose of the call, of the host that has heard it, is the whole.
  pub finished : (p : Purpose) → c.purpose ≡ p → due_for p c a (found_for p (state_in k) c a (member_with c.session k.members)) (heard_answer c.number a h) ≡ answering c.number a h
  finished p is = done_by p is ∙ sym (answering_open h c a may.hears.is_open)

-- What is known of the host that has heard.
pub known_then : (k g : HostKept) (c : OpenCall) (a : Answer) (p : Purpose) → MayAnswer k c a → c.purpose ≡ p → IsHeard k c.number a g → HeardKnown k g c a p
known_then k g c a p may is heard = subst (HeardKnown k g c a) is (may.heard g heard)

pub joined_known : (k g : HostKept) (c : OpenCall) (a : Answer) (j : ℕ) (step : JoinStep) (found : Option JoinAnswer) → MayAnswer k c a → c.purpose ≡ Joining j step → IsHeard k c.number a g
    → found ≡ option_map (join_answer (state_in k) c step a) (member_with c.session k.members) → (f : JoinAnswer) → found ≡ Some f → JoinKnown g f
joined_known k g c a j step found may is heard made f at = by (member_with c.session k.members) refl (sym made ∙ at)
  where
    by : (o : Option MemberState) → member_with c.session k.members ≡ o → option_map (join_answer (state_in k) c step a) o ≡ Some f → JoinKnown g f
    by None there so = absurd (none_some f so)
    by (Some m) there so = subst (JoinKnown g) (some_value (join_answer (state_in k) c step a m) f so) (known_then k g c a (Joining j step) may is heard m there)

-- What is counted stays.
heard_is : (k g : HostKept) (c : OpenCall) (a : Answer) → MayAnswer k c a → IsHeard k c.number a g → state_of (λ text. Err 0) g ≡ hearing c a (state_of (λ text. Err 0) k)
heard_is k g c a may heard = heard (λ text. Err 0) ∙ opened (state_of (λ text. Err 0) k) c a may.hears.is_open

pub same_holdings : (k g : HostKept) (c : OpenCall) (a : Answer) → MayAnswer k c a → IsHeard k c.number a g → length g.holdings ≡ length k.holdings
same_holdings k g c a may heard = ap (λ (h : HostState). length h.holdings) (heard_is k g c a may heard)

pub same_jobs : (k g : HostKept) (c : OpenCall) (a : Answer) → MayAnswer k c a → IsHeard k c.number a g → length g.jobs ≡ length k.jobs
same_jobs k g c a may heard = ap (λ (h : HostState). length h.jobs) (heard_is k g c a may heard) ∙ length-map k.jobs (job_hearing c.number)

pub same_leases : (k g : HostKept) (c : OpenCall) (a : Answer) → MayAnswer k c a → IsHeard k c.number a g → is_joining_purpose c.purpose ≡ false → leases_of c.session g ≡ leases_of c.session k
same_leases k g c a may heard off =
    let h : HostState = state_of (λ text. Err 0) k in
    ap (λ (x : HostState). length (spots_of (member_numbered x c.session))) (heard_is k g c a may heard)
    ∙ (ap (λ o. length (spots_of o)) (hearing_found h c a (λ m there. may.stays m there off)) ∙ by (member_numbered h c.session))
  where
    by : (o : Option MemberState) → length (spots_of (option_map (member_hearing (state_of (λ text. Err 0) k) c a) o)) ≡ length (spots_of o)
    by None = refl
    by (Some m) =
        length-map (map (lease_told (state_of (λ text. Err 0) k) m (is_heeded_by (state_of (λ text. Err 0) k) c) c a) m.leases) (λ l. l.spot)
        ∙ (length-map m.leases (lease_told (state_of (λ text. Err 0) k) m (is_heeded_by (state_of (λ text. Err 0) k) c) c a) ∙ sym (length-map m.leases (λ l. l.spot)))

-- ---- the calls of jobs that failed

job_is : (j job : ℕ) → (j == job) ≡ true → j ≡ job
job_is j job is = (Decides-eqb j job).0 is

none_true : {A : Type 0} → false ≡ true → A
none_true h = absurd (true≢false (sym h))

pub job_untold : (job : ℕ) (p : Purpose) → is_job_call job p ≡ true → is_untold p Failed ≡ true
job_untold job (Joining j step) is = none_true is
job_untold job Renewal is = none_true is
job_untold job Survey is = none_true is
job_untold job (Leaving j) is = none_true is
job_untold job (Lease work step) is = none_true is
job_untold job (RequestRead j) is = refl
job_untold job (RequestWrite j owner) is = refl
job_untold job SeeRequest is = none_true is
job_untold job (ValueWrite j) is = refl
job_untold job (ValueRead j) is = refl

-- What is due then is one.
pub job_due : (job : ℕ) (p : Purpose) (h g : HostState) (c : OpenCall) (o : Option MemberState) → is_job_call job p ≡ true
    → at_member c.session (λ m. answering_job job c Failed (λ bytes x. x) (λ x. x)) g ≡ due_for p c Failed (found_for p h c Failed o) g
job_due job (Joining j step) h g c o is = none_true is
job_due job Renewal h g c o is = none_true is
job_due job Survey h g c o is = none_true is
job_due job (Leaving j) h g c o is = none_true is
job_due job (Lease work step) h g c o is = none_true is
job_due job (RequestRead j) h g c o is = ap (λ n. at_member c.session (λ m. answering_job n c Failed (λ bytes x. x) (λ x. x)) g) (sym (job_is j job is))
job_due job (RequestWrite j owner) h g c o is = ap (λ n. at_member c.session (λ m. answering_job n c Failed (λ bytes x. x) (λ x. x)) g) (sym (job_is j job is))
job_due job SeeRequest h g c o is = none_true is
job_due job (ValueWrite j) h g c o is = ap (λ n. at_member c.session (λ m. answering_job n c Failed (λ bytes x. x) (λ x. x)) g) (sym (job_is j job is))
job_due job (ValueRead j) h g c o is = ap (λ n. at_member c.session (λ m. answering_job n c Failed (λ bytes x. x) (λ x. x)) g) (sym (job_is j job is))

-- ---- a lease's read

-- What is known of it, where the lease that has heard it is told so.
pub told_known : (k g : HostKept) (c : OpenCall) (work : Work) (step : LeaseStep) (bytes : List ℕ) (told : Told) (blocks shown : List (Option Block)) → g.config ≡ k.config → shown ≡ blocks
    → ((m : MemberState) → member_with c.session g.members ≡ Some m
    → IsTold k.config.sizes (first_by (lease_at m (spot_in (layout_of k.config.sizes) c)).pair step) step bytes told blocks)
    → ReadKnown g (spot_in (layout_of g.config.sizes) c) c.session work step bytes → ToldKnown g (spot_in (layout_of g.config.sizes) c) c.session work step bytes told shown
told_known k g c work step bytes told blocks shown run same tells known m there goes =
    let it = known m there goes in
    let said : IsTold g.config.sizes (first_by (lease_at m (spot_in (layout_of g.config.sizes) c)).pair step) step bytes told shown =
    subst (λ (z : Made). IsTold z.sizes (first_by (lease_at m (spot_in (layout_of z.sizes) c)).pair step) step bytes told shown) (sym run)
    (subst (λ bs. IsTold k.config.sizes (first_by (lease_at m (spot_in (layout_of k.config.sizes) c)).pair step) step bytes told bs) (sym same) (tells m there)) in
    record { shown = record { told = said; known = it.stands }; known = it.known }

-- ---- at least so many

pub at_least_three : (b : Bool) (n : ℕ) → 3 ≤ cond b (n + 3) 3
at_least_three true n = omega arith
at_least_three false n = omega arith

pub at_least_one : (b : Bool) (n : ℕ) → 1 ≤ cond b (n + 1) 1
at_least_one true n = omega arith
at_least_one false n = omega arith

-- ---- the open call of a number

pub its_number : (number : ℕ) (cs : List OpenCall) (c : OpenCall) → Some c ≡ find (λ d. d.number == number) cs → c.number ≡ number
its_number number cs c is = (Decides-eqb c.number number).0 (find_inside (λ (d : OpenCall). d.number == number) cs c (sym is)).1
