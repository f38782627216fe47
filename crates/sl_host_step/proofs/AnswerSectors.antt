-- An answer that comes as a step begins: how many sectors it is, by the purpose of its call; and so at the input, for the open calls stay.
use Rattle.sl_area.specs.AreaSizes.{Layout, Sizes, layout_of}
use Rattle.sl_due.specs.Due.{before_input}
use Rattle.sl_due.specs.Steps.{Step, begin_step}
use Rattle.sl_host_answers.specs.WholeAnswers.{FitsHeard, FitsSectors, calls_for, calls_of, effects_for, effects_of, is_joining_purpose, is_writing, takes_sectors}
use Rattle.sl_host_answers.specs.declared.answers.Heard.{Heard}
use Rattle.sl_host_answers.specs.Surveys.{leases_of, spots_of}
use Rattle.sl_host_law.specs.StepParts.ExpectedIsOpen.{IsAnswerOf}
use Rattle.sl_host_law.specs.Replies.Answers.{IsOpen}
use Rattle.sl_host_law.specs.Steps.StepFunction.{before_taking}
use Rattle.sl_host_passes.proofs.Spots.{found_few}
use Rattle.sl_host_passes.specs.PassesLessen.{leases_in}
use Rattle.sl_host_state.specs.HeardInputs.{begun}
use Rattle.sl_host_state.specs.KeptState.{Config, HostKept, HostState, LeaseState, Made, MemberState, state_of}
use Rattle.sl_host_state.specs.declared.kept_parts.OpenCall.{OpenCall}
use Rattle.sl_host_step.proofs.CallsStay.{calls_stay, config_stays}
use Rattle.sl_host_step.proofs.StepsMayCome.{comes_plainly, expected_at}
use Rattle.sl_host_step.specs.Moments.{AtInput, StepComes}
use Rattle.sl_host_step.specs.InputReach.{reach_at, reach_in}
use Rattle.sl_host_step.specs.StepMemory.{HasLeft, reached}
use Rattle.sl_host_step.specs.declared.step_memory.Reach.TheVariants.{Few}
use Rattle.sl_host_step.specs.declared.step_memory.Reach.{Reach}
use Rattle.sl_host_step.specs.AwaitedCalls.{joins_at}
use Rattle.sl_lease.specs.Steps.{is_read_step}
use Rattle.sl_member.specs.HostMembers.{member_with}
use Rattle.sl_words.proofs.Lists.{find_inside}
use Rattle.sl_trace.specs.Sessions.{is_survey_purpose}
use Rattle.sl_sector.specs.SectorLayouts.{IsSectorSize}
use Rattle.sl_step_law.proofs.AnswersAreKnown.{answers_are_known, sector_size}
use Rattle.sl_step_law.proofs.CallsAsk.{calls_ask}
use Rattle.sl_step_law.proofs.HostsAreReady.{hosts_are_ready}
use Rattle.sl_step_law.proofs.LeaseAnswersAreKnown.{lease_answers_are_known}
use Rattle.sl_step_law.specs.SectorsAsked.{sectors_asked}
use Rattle.sl_step_law.specs.ReadyHosts.{IsReady}
use Rattle.sl_trace.specs.Traces.{is_expected}
use Rattle.sl_trace.specs.declared.effects.JoinStep.TheVariants.{ClaimWrite, DecidingRead, FirstRead, FirstRenewal, VerifyRead, WatchRead}
use Rattle.sl_trace.specs.declared.effects.LeaseStep.TheVariants.{ClearMode, FreeLeader, Phase1Read, Phase1Write, Phase2Read, Phase2Write, ReadAgain, ReadArea, ReadBeforeBlock, ReadBeforeFree, SetMode, TakeLeader}
use Rattle.sl_trace.specs.declared.effects.LeaseRead.TheVariants.{OfArea, OfBlock, OfFree, OfPhase1, OfPhase2}
use Rattle.sl_trace.specs.declared.effects.LeaseStep.{LeaseStep}
use Rattle.sl_trace.specs.declared.effects.Purpose.TheVariants.{Joining, Lease, Leaving, Renewal, RequestRead, RequestWrite, SeeRequest, Survey, ValueRead, ValueWrite}
use Rattle.sl_trace.specs.declared.effects.Purpose.{Purpose}
use Rattle.sl_trace.specs.declared.effects.Work.{Work}
use Rattle.sl_trace.specs.declared.input.Answer.TheVariants.{Read, Written}
use Rattle.sl_trace.specs.declared.input.Answer.{Answer}
use Rattle.sl_trace.specs.declared.input.Input.TheVariants.{Answer as Told}
use Rattle.sl_trace.specs.declared.input.Input.{Input}
use Rattle.sl_host.specs.BookQuestions.{state_in}
use Rattle.sl_lease.specs.Reads.{sectors_read}
use Rattle.sl_host.specs.Host.{HostView}
use Rattle.sl_words.proofs.CaseLaws.{none_some, some_value, true_is_false}
use Rattle.std.proofs.Common.{ap, arith, refl, subst, sym, ◌∙◌}
use Rattle.std.proofs.lemmas.List.{length-map}
use Rattle.std.specs.Option.{option_map_or}
use Rattle.std.specs.Prelude.{Bool, List, None, Option, Some, cond, false, find, is_some, length, true, ℕ, ◌*◌, ◌+◌, ◌==◌, ◌≡◌, ◌≤◌}

-- ---- by the purpose of the call

-- A read that isn't a joining's is answered by sectors.
takes : (g : Layout) (p : Purpose) → is_joining_purpose p ≡ false → is_some (sectors_asked g p) ≡ true → takes_sectors p ≡ true
takes g (Joining j step) other reads = absurd (true_is_false other)
takes g Renewal other reads = absurd (true_is_false (sym reads))
takes g Survey other reads = refl
takes g (Leaving j) other reads = absurd (true_is_false (sym reads))
takes g (Lease work step) other reads = refl
takes g (RequestRead j) other reads = refl
takes g (RequestWrite j owner) other reads = absurd (true_is_false (sym reads))
takes g SeeRequest other reads = refl
takes g (ValueWrite j) other reads = absurd (true_is_false (sym reads))
takes g (ValueRead j) other reads = refl

-- What is no read may be a write.
writing : (g : Layout) (p : Purpose) → sectors_asked g p ≡ None → is_writing p ≡ true
writing g (Joining j step) none = refl
writing g Renewal none = refl
writing g Survey none = absurd (none_some g.hosts (sym none))
writing g (Leaving j) none = refl
writing g (Lease work step) none = refl
writing g (RequestRead j) none = absurd (none_some 2 (sym none))
writing g (RequestWrite j owner) none = refl
writing g SeeRequest none = absurd (none_some 1 (sym none))
writing g (ValueWrite j) none = refl
writing g (ValueRead j) none = absurd (none_some 1 (sym none))

-- How many a lease's read asks.
lease_asks : (z : Sizes) (work : Work) (step : LeaseStep) → is_read_step step ≡ true → sectors_asked (layout_of z) (Lease work step) ≡ Some (sectors_read z step)
lease_asks z work (ReadArea name) reads = refl
lease_asks z work ReadBeforeFree reads = refl
lease_asks z work ReadBeforeBlock reads = refl
lease_asks z work Phase1Read reads = refl
lease_asks z work Phase2Read reads = refl
lease_asks z work (ReadAgain (OfArea name)) reads = refl
lease_asks z work (ReadAgain OfFree) reads = refl
lease_asks z work (ReadAgain OfBlock) reads = refl
lease_asks z work (ReadAgain OfPhase1) reads = refl
lease_asks z work (ReadAgain OfPhase2) reads = refl
lease_asks z work Phase1Write reads = absurd (true_is_false (sym reads))
lease_asks z work Phase2Write reads = absurd (true_is_false (sym reads))
lease_asks z work TakeLeader reads = absurd (true_is_false (sym reads))
lease_asks z work SetMode reads = absurd (true_is_false (sym reads))
lease_asks z work FreeLeader reads = absurd (true_is_false (sym reads))
lease_asks z work ClearMode reads = absurd (true_is_false (sym reads))

-- A joining reads one sector at a time.
asks_one : (g : Layout) (p : Purpose) (n : ℕ) → is_joining_purpose p ≡ true → sectors_asked g p ≡ Some n → n ≡ 1
asks_one g (Joining j FirstRead) n joins asked = sym (some_value 1 n asked)
asks_one g (Joining j WatchRead) n joins asked = sym (some_value 1 n asked)
asks_one g (Joining j DecidingRead) n joins asked = sym (some_value 1 n asked)
asks_one g (Joining j ClaimWrite) n joins asked = absurd (none_some n asked)
asks_one g (Joining j VerifyRead) n joins asked = sym (some_value 1 n asked)
asks_one g (Joining j FirstRenewal) n joins asked = absurd (none_some n asked)
asks_one g Renewal n joins asked = absurd (none_some n asked)
asks_one g Survey n joins asked = absurd (true_is_false (sym joins))
asks_one g (Leaving j) n joins asked = absurd (none_some n asked)
asks_one g (Lease work step) n joins asked = absurd (true_is_false (sym joins))
asks_one g (RequestRead j) n joins asked = absurd (true_is_false (sym joins))
asks_one g (RequestWrite j owner) n joins asked = absurd (none_some n asked)
asks_one g SeeRequest n joins asked = absurd (true_is_false (sym joins))
asks_one g (ValueWrite j) n joins asked = absurd (none_some n asked)
asks_one g (ValueRead j) n joins asked = absurd (true_is_false (sym joins))

-- One sector's bytes.
one : (n : ℕ) → 1 * n ≡ n
one n = grind (arith)

-- ---- of a host at its input

module _ (z : Sizes) (h : HostState) (x : Step) (number : ℕ) (answer : Answer) (c : OpenCall) (same : h.config.layout ≡ layout_of z) (r : IsReady h x)
    (expected : is_expected x.setting x.past (Told number answer) ≡ true) (opens : IsOpen h number c) where
  -- It is an answer to this call.
  answers : IsAnswerOf (layout_of z) answer c
  answers =
      let y = answers_are_known.open_one h x number answer r expected in
      subst (λ g. IsAnswerOf g answer c) same (subst (IsAnswerOf h.config.layout answer) (some_value y.0 c (sym y.1 ∙ opens)) y.2)

  asks : c.sectors ≡ sectors_asked (layout_of z) c.purpose
  asks = subst (λ (g : Layout). c.sectors ≡ sectors_asked g c.purpose) same (calls_ask h x c r (find_inside (λ (d : OpenCall). d.number == number) h.unanswered c opens).0)

  module _ (bytes : List ℕ) (is : answer ≡ Read bytes) where
    given : IsAnswerOf (layout_of z) (Read bytes) c
    given = subst (λ y. IsAnswerOf (layout_of z) y c) is answers

    many : (n : ℕ) → sectors_asked (layout_of z) c.purpose ≡ Some n → length bytes ≡ n * z.sector
    many n asked = given.2 ∙ ap (λ i. i * z.sector) (some_value given.0 n (sym given.1 ∙ asks ∙ asked))

    reads : (work : Work) (step : LeaseStep) → c.purpose ≡ Lease work step → is_read_step step ≡ true
    reads work step for = sym (lease_answers_are_known.steps h x number c work step r opens for) ∙ ap (λ o. is_some o) given.1

    fits : is_joining_purpose c.purpose ≡ false → FitsSectors z c (length bytes)
    fits other =
        record {
          taken = takes (layout_of z) c.purpose other (ap (λ o. is_some o) (sym asks ∙ given.1));
          survey = λ for. many z.hosts (ap (sectors_asked (layout_of z)) for);
          lease = λ work step for. (let y = reads work step for in (y, ap (λ o. is_some o) given.1, many (sectors_read z step) (ap (sectors_asked (layout_of z)) for ∙ lease_asks z work step y)));
          request = λ j for. many 2 (ap (sectors_asked (layout_of z)) for);
          look = λ for. many 1 (ap (sectors_asked (layout_of z)) for) ∙ one z.sector;
          value = λ j for. many 1 (ap (sectors_asked (layout_of z)) for) ∙ one z.sector;
        }

    -- A joining's is one.
    joined_one : is_joining_purpose c.purpose ≡ true → length bytes ≡ z.sector
    joined_one joins = given.2 ∙ ap (λ i. i * z.sector) (asks_one (layout_of z) c.purpose given.0 joins (sym asks ∙ given.1)) ∙ one z.sector

  writes : answer ≡ Written → is_writing c.purpose ≡ true
  writes is = writing (layout_of z) c.purpose (sym asks ∙ subst (λ y. IsAnswerOf (layout_of z) y c) is answers)

-- ---- as a step begins

module _ (now number : ℕ) (answer : Answer) (k : HostKept) (c : OpenCall) (s : StepComes now (Told number answer) k) (opens : IsOpen (state_in k) number c) where
  abbrev before : HostState
  before = state_of s.setting.read k

  abbrev at : HostState
  at = before_taking (begun now before)

  same : at.config.layout ≡ layout_of k.config.sizes
  same = ap (λ (y : Config). y.layout) (config_stays now before)

  ready : IsReady at (before_input (begin_step s.setting s.past now))
  ready = hosts_are_ready now (Told number answer) before s.setting s.past (comes_plainly now (Told number answer) k s).comes

  still : IsOpen at number c
  still = ap (λ cs. find (λ (d : OpenCall). d.number == number) cs) (calls_stay now before) ∙ opens

  expects : is_expected (before_input (begin_step s.setting s.past now)).setting (before_input (begin_step s.setting s.past now)).past (Told number answer) ≡ true
  expects = expected_at now (Told number answer) before s.setting s.past (comes_plainly now (Told number answer) k s).comes

  -- Sectors come to a call that takes them, as many as it asks.
  pub sectors_fit : (bytes : List ℕ) → answer ≡ Read bytes → is_joining_purpose c.purpose ≡ false → FitsSectors k.config.sizes c (length bytes)
  sectors_fit bytes is other = fits k.config.sizes at (before_input (begin_step s.setting s.past now)) number answer c same ready expects still bytes is other

  -- What is written was a write.
  pub writes_fit : answer ≡ Written → is_writing c.purpose ≡ true
  writes_fit is = writes k.config.sizes at (before_input (begin_step s.setting s.past now)) number answer c same ready expects still is

  -- A joining's read is one sector.
  pub joined_fits : (bytes : List ℕ) → answer ≡ Read bytes → is_joining_purpose c.purpose ≡ true → length bytes ≡ k.config.sizes.sector
  joined_fits bytes is joins = joined_one k.config.sizes at (before_input (begin_step s.setting s.past now)) number answer c same ready expects still bytes is joins

pub sector_fits : (now : ℕ) (i : Input) (k : HostKept) → StepComes now i k → IsSectorSize k.config.sizes.sector
sector_fits now i k s = (sector_size k.config.sizes s.keeps.sound.laid.geometry).0

-- Whether it is a joining's is known by what is kept.
pub joins_is : (k : HostKept) (number : ℕ) (c : OpenCall) → IsOpen (state_in k) number c → joins_at k number ≡ is_joining_purpose c.purpose
joins_is k number c opens = ap (λ o. option_map_or (λ (d : OpenCall). is_joining_purpose d.purpose) o false) opens

pub joining_long : (now number : ℕ) (bytes : List ℕ) (k : HostKept) → StepComes now (Told number (Read bytes)) k → joins_at k number ≡ true → length bytes ≡ k.config.sizes.sector
joining_long now number bytes k s joins = by (find (λ (d : OpenCall). d.number == number) k.unanswered) refl joins where
  by : (o : Option OpenCall) → find (λ (d : OpenCall). d.number == number) k.unanswered ≡ o → option_map_or (λ (d : OpenCall). is_joining_purpose d.purpose) o false ≡ true
      → length bytes ≡ k.config.sizes.sector
  by None is said = absurd (true_is_false (sym said))
  by (Some c) is said = joined_fits now number (Read bytes) k c s is bytes refl said

pub joining_sized : (now number : ℕ) (bytes : List ℕ) (k : HostKept) → StepComes now (Told number (Read bytes)) k → joins_at k number ≡ true → IsSectorSize (length bytes)
joining_sized now number bytes k s joins = subst IsSectorSize (sym (joining_long now number bytes k s joins)) (sector_fits now (Told number (Read bytes)) k s)

-- ---- and at its input

module _ (now : ℕ) (i : Input) (first k : HostKept) (a : AtInput now i first k) where
  calls_same : k.unanswered ≡ first.unanswered
  calls_same = ap (λ (h : HostState). h.unanswered) (a.is a.comes.setting.read a.comes.keeps.reads) ∙ calls_stay now (state_of a.comes.setting.read first)

  pub open_still : (number : ℕ) (c : OpenCall) → IsOpen (state_in k) number c → IsOpen (state_in first) number c
  open_still number c opens = sym (ap (λ cs. find (λ (d : OpenCall). d.number == number) cs) calls_same) ∙ opens

  -- The answer reaches as far as it did.
  pub reach_still : (number : ℕ) → reach_at k number ≡ reach_at first number
  reach_still number = ap (λ cs. option_map_or (λ (c : OpenCall). reach_in (is_survey_purpose c.purpose)) (find (λ (c : OpenCall). c.number == number) cs) Few) calls_same

  pub fits_still : {S : Type 0} (number : ℕ) (bytes : S → List ℕ) (is_cut : S → ℕ → Bool) (heard : Heard S)
      → ((c : OpenCall) → IsOpen (state_in first) number c → FitsHeard bytes is_cut first.config.sizes c heard) → (c : OpenCall) → IsOpen (state_in k) number c
      → FitsHeard bytes is_cut k.config.sizes c heard
  fits_still number bytes is_cut heard fit c opens = subst (λ (m : Made). FitsHeard bytes is_cut m.sizes c heard) (sym a.same) (fit c (open_still number c opens))

-- What is left for it is left.
pub left_still : (now : ℕ) (i : Input) (first new : HostView) → AtInput now i first.kept new.kept → (number : ℕ) (r : Reach) → r ≡ reach_at first.kept number → HasLeft r first new
    → HasLeft (reach_at new.kept number) first new
left_still now i first new at number r is left = subst (λ (q : Reach). HasLeft q first new) (is ∙ sym (reach_still now i first.kept new.kept at number)) left

-- ---- how much it makes due

-- A session's leases are some of them all.
leases_few : (n : ℕ) (k : HostKept) → leases_of n k ≤ leases_in k.members
leases_few n k = subst (λ i. i ≤ leases_in k.members) (sym (by (member_with n k.members))) (found_few n k.members) where
  by : (o : Option MemberState) → length (spots_of o) ≡ option_map_or (λ (m : MemberState). length m.leases) o 0
  by None = refl
  by (Some m) = length-map m.leases (λ (l : LeaseState). l.spot)

pub few_effects : (k : HostKept) (number : ℕ) → effects_of k number ≤ reached (reach_at k number) (length k.holdings + length k.jobs) + 3
few_effects k number = by (find (λ (c : OpenCall). c.number == number) k.unanswered) where
  some : (b : Bool) → cond b (length k.holdings + length k.jobs + 3) 3 ≤ reached (reach_in b) (length k.holdings + length k.jobs) + 3
  some true = grind arith
  some false = grind arith

  by : (o : Option OpenCall) → (elim o as (λ z. ℕ) [ None ↦ 0 | Some c ↦ effects_for k c.purpose ])
      ≤ reached (option_map_or (λ (c : OpenCall). reach_in (is_survey_purpose c.purpose)) o Few) (length k.holdings + length k.jobs) + 3
  by None = grind arith
  by (Some c) = some (is_survey_purpose c.purpose)

pub few_calls : (k : HostKept) (number : ℕ) → calls_of k number ≤ reached (reach_at k number) (leases_in k.members) + 1
few_calls k number = by (find (λ (c : OpenCall). c.number == number) k.unanswered) where
  some : (n : ℕ) (b : Bool) → cond b (leases_of n k + 1) 1 ≤ reached (reach_in b) (leases_in k.members) + 1
  some n true = let few = leases_few n k in omega (arith, few)
  some n false = grind arith

  by : (o : Option OpenCall) → (elim o as (λ z. ℕ) [ None ↦ 0 | Some c ↦ calls_for k c.session c.purpose ])
      ≤ reached (option_map_or (λ (c : OpenCall). reach_in (is_survey_purpose c.purpose)) o Few) (leases_in k.members) + 1
  by None = grind arith
  by (Some c) = some c.session (is_survey_purpose c.purpose)
