-- What a lease decides is carried out by a call of the entry; and what the step is that hears the answer of the acquire's call.
use Rattle.sl_trace.specs.declared.input.Input.TheVariants.{Answer as Told}
use Rattle.sl_words.specs.Words.{choose}
use Rattle.std.proofs.lemmas.Bool.{eqb-true}
use Rattle.sl_headline.proofs.Quiet.NoDenial.NothingIsCaused.{nothing_is_caused}
use Rattle.sl_trace.specs.Leases.{is_leader_of, leader_given, lease_step, name_sought, spot_of, spot_of_call, verified_by}
use Rattle.sl_words.proofs.CaseLaws.{false_is_true, none_some, one_value, some_value, true_is_false}
use Rattle.sl_due_law.proofs.DueIsLawful.{due_is_lawful}
use Rattle.sl_words.proofs.Lists.{contains_cases, contains_none, find_inside, head_is, tail_is, contains_first, contains_more}
use Rattle.sl_due.specs.CarriedLease.{carry_lease, name_on, next_of_lease, next_turn, read_blocks, write_block, write_leader}
use Rattle.sl_area.specs.AreaLayout.{block_offset, block_place, block_sectors, leader_offset, pair_offset}
use Rattle.sl_area.specs.AreaRecords.{block_record, leader_record}
use Rattle.sl_headline.proofs.Quiet.Step.BeforeInput.{bare_heard}
use Rattle.sl_headline.proofs.Quiet.Step.AnswersLeadOn.{answers_lead_on}
use Rattle.sl_due.specs.Steps.{Step, seen}
use Rattle.sl_trace.specs.declared.session.Session.{Session}
use Rattle.sl_trace.specs.declared.effects.Op.TheVariants.{ReadSectors, WriteRecord}
use Rattle.sl_trace.specs.declared.effects.Purpose.{Purpose}
use Rattle.sl_trace.specs.declared.effects.Op.{Op}
use Rattle.sl_trace.specs.declared.effects.LeaseStep.{LeaseStep}
use Rattle.sl_trace.specs.declared.effects.Purpose.TheVariants.{Lease}
use Rattle.sl_area.specs.AreaSizes.{Layout}
use Rattle.sl_headline.proofs.Quiet.Events.CallsInTime.{JobThere, job_there}
use Rattle.sl_trace.specs.declared.effects.JobReply.{JobReply}
use Rattle.sl_trace.specs.Traces.{Job, Replied, Setting, Submitted, Trace, is_before_input, is_running, job_numbered, new_call, next_call, reply_to}
use Rattle.sl_run.specs.Lawful.{IsSetting}
use Rattle.sl_due.specs.Due.{IsHostTrace, due}
use Rattle.sl_headline.proofs.Quiet.Events.HeardFacts.{HeardFacts, heard_facts, told_is}
use Rattle.sl_trace.specs.declared.effects.LeaseStep.TheVariants.{FreeLeader, Phase1Read, Phase1Write, Phase2Read, Phase2Write, SetMode, TakeLeader}
use Rattle.sl_trace.specs.declared.effects.Work.TheVariants.{ForJob}
use Rattle.sl_trace.specs.declared.effects.Entry.{Entry}
use Rattle.sl_trace.specs.declared.effects.Effects.{Effects}
use Rattle.sl_headline.specs.Quiet.Step.AnswersLeadOn.{DoesAs, IsBare, heard, lease_part, led_on}
use Rattle.sl_run.specs.Caused.{CausedBy, IsCaused}
use Rattle.sl_trace.specs.declared.effects.Call.{Call}
use Rattle.std.specs.Prelude.{Bool, Contains, List, None, Option, Some, [], cond, false, filter, find, fold, is_none, is_some, length, option_map, true, ℕ, ◌&&◌, ◌++◌, ◌+◌, ◌==◌, ◌∷◌, ◌≡◌, ◌⊎◌}
use Rattle.sl_sector.specs.SectorLayouts.{is_first_turn}
use Rattle.sl_sector.specs.declared.sector.Block.{Block}
use Rattle.sl_sector.specs.declared.sector.Rec.TheVariants.{BlockIs, PairIs}
use Rattle.sl_sector.specs.declared.sector.Rec.{Rec}
use Rattle.sl_headline.specs.Quiet.Events.CarriedStages.{Asked, DaemonOnCourse, Frees_leader, IsAskedOf, IsCallAt, IsOfMode, Reads_area, Reads_first, Reads_second, Sets_mode, Stage, Takes_leader, Writes_first, Writes_second, block_at, block_op, first_of_asked, leader_of_asked, offset_at, op_at, second_of_asked, stage_next, stages_before, step_at, third_of_asked, turn_at}
use Rattle.sl_trace.specs.declared.input.Answer.{Answer}
use Rattle.std.specs.List.{AllByRecursion}
use Rattle.sl_trace.specs.declared.lease.Aim.{Aim}
use Rattle.sl_trace.specs.declared.lease.Aim.TheVariants.{Acquires}
use Rattle.sl_headline.specs.Quiet.Events.CourseLeads.{Hears, decided_then, decision_at, mode_of, told_call}
use Rattle.std.proofs.Common.{ap, ap₂, inl, inr, refl, subst, sym, ◌∙◌}

-- ---- the calls of an entry

no_empty : {A : Type 0} (x : A) (xs : List A) → x ∷ xs ≡ [] → ⊥
no_empty x xs is = subst (λ ys. elim ys as (λ z. Type 0) [ [] ↦ ⊥ | y ∷ zs ↦ Unit {0} ]) is tt

pub no_lease_new : (P : Submitted → Bool) (at reading : ℕ) (cs : List Call) (ms : List Submitted) → lease_part cs ≡ [] → ((c : Call) → Contains cs c → P (new_call at reading c) ≡ true → is_some (lease_step c.purpose) ≡ true)
    → filter P (fold (λ xs c. new_call at reading c ∷ xs) ms cs) ≡ filter P ms
no_lease_new P at reading [] ms none leases = refl
no_lease_new P at reading (c ∷ cs) ms none leases = by (is_some (lease_step c.purpose)) refl (P (new_call at reading c)) refl (λ xs less. no_lease_new P at reading cs xs less (λ k there. leases k (contains_more c cs k there))) where
  by : (b : Bool) → is_some (lease_step c.purpose) ≡ b → (t : Bool) → P (new_call at reading c) ≡ t
      → ((xs : List Submitted) → lease_part cs ≡ [] → filter P (fold (λ xs c. new_call at reading c ∷ xs) xs cs) ≡ filter P xs)
      → filter P (fold (λ xs c. new_call at reading c ∷ xs) (new_call at reading c ∷ ms) cs) ≡ filter P ms
  by true is t passes rest = absurd (no_empty c (lease_part cs) (ap (λ b. cond b (c ∷ lease_part cs) (lease_part cs)) (sym is) ∙ none))
  by false is true passes rest = absurd (true_is_false (sym (leases c (contains_first c cs) passes) ∙ is))
  by false is false passes rest =
      rest (new_call at reading c ∷ ms) (ap (λ b. cond b (c ∷ lease_part cs) (lease_part cs)) (sym is) ∙ none) ∙ ap (λ b. cond b (new_call at reading c ∷ filter P ms) (filter P ms)) passes

pub one_lease_new : (P : Submitted → Bool) (at reading : ℕ) (cs : List Call) (ms : List Submitted) (d : Call) → lease_part cs ≡ d ∷ [] → ((c : Call) → Contains cs c → P (new_call at reading c) ≡ true → is_some (lease_step c.purpose) ≡ true)
    → P (new_call at reading d) ≡ true → filter P (fold (λ xs c. new_call at reading c ∷ xs) ms cs) ≡ new_call at reading d ∷ filter P ms
one_lease_new P at reading [] ms d one leases it = absurd (no_empty d [] (sym one))
one_lease_new P at reading (c ∷ cs) ms d one leases it = by (is_some (lease_step c.purpose)) refl (P (new_call at reading c)) refl (λ xs less. one_lease_new P at reading cs xs d less (λ k there. leases k (contains_more c cs k there)) it) where
  by : (b : Bool) → is_some (lease_step c.purpose) ≡ b → (t : Bool) → P (new_call at reading c) ≡ t
      → ((xs : List Submitted) → lease_part cs ≡ d ∷ [] → filter P (fold (λ xs c. new_call at reading c ∷ xs) xs cs) ≡ new_call at reading d ∷ filter P xs)
      → filter P (fold (λ xs c. new_call at reading c ∷ xs) (new_call at reading c ∷ ms) cs) ≡ new_call at reading d ∷ filter P ms
  by true is t passes rest =
      let whole : c ∷ lease_part cs ≡ d ∷ [] = ap (λ b. cond b (c ∷ lease_part cs) (lease_part cs)) (sym is) ∙ one in
      let same : c ≡ d = head_is c d (lease_part cs) [] whole in
      no_lease_new P at reading cs (new_call at reading c ∷ ms) (tail_is c d (lease_part cs) [] whole) (λ k there. leases k (contains_more c cs k there))
      ∙ (ap (λ b. cond b (new_call at reading c ∷ filter P ms) (filter P ms)) (ap (λ k. P (new_call at reading k)) same ∙ it) ∙ ap (λ k. new_call at reading k ∷ filter P ms) same)
  by false is true passes rest = absurd (true_is_false (sym (leases c (contains_first c cs) passes) ∙ is))
  by false is false passes rest =
      rest (new_call at reading c ∷ ms) (ap (λ b. cond b (c ∷ lease_part cs) (lease_part cs)) (sym is) ∙ one)
      ∙ ap (λ b. new_call at reading d ∷ cond b (new_call at reading c ∷ filter P ms) (filter P ms)) passes

pub both_true : (b c : Bool) → b ≡ true → c ≡ true → (b && c) ≡ true
both_true b c is its = ap (λ t. t && c) is ∙ its

-- ---- what is decided is carried out

-- The step with the call of the next stage.
pub record LedCall (q : Asked) (next : Stage) (y z : Step) : Type 0 where
  pub call : Call
  pub calls : z.effects.calls ≡ y.effects.calls ++ call ∷ []
  pub replies : z.effects.replies ≡ y.effects.replies
  pub session : call.session ≡ q.session.number
  pub is : (at reading : ℕ) → IsCallAt q next (new_call at reading call)

-- The lease of the step has been shown the turn before a stage, and has verified the name.
pub record KnowsNext (q : Asked) (next : Stage) (y : Step) : Type 0 where
  pub layout : y.setting.layout ≡ q.same.place.layout
  pub turn : q.same.place.layout.paired ≡ true → next_turn y.setting (seen y) q.session (spot_of q.resource) ≡ turn_at q next + 1
  pub name : name_on y.setting (seen y) q.session (spot_of q.resource) ≡ q.resource.name

same_record : (g : Layout) (t u : ℕ) (space n m : List ℕ) (b : Block) → (g.paired ≡ true → t ≡ u) → n ≡ m → block_record g t space n b ≡ block_record g u space m b
same_record g t u space n m b turn name = by g.paired refl where
  of_kind : Bool → ℕ → List ℕ → Rec
  of_kind k x y = elim k [ false ↦ BlockIs b | true ↦ PairIs (record { block = b; turn = x; lockspace = space; resource = y }) ]

  by : (k : Bool) → g.paired ≡ k → of_kind k t n ≡ of_kind k u m
  by false is = refl
  by true is = ap₂ (λ x y. of_kind true x y) (turn is) name

same_turn_place : (g : Layout) (base id t u : ℕ) → (g.paired ≡ true → t ≡ u) → block_place g base id t ≡ block_place g base id u
same_turn_place g base id t u turn = by g.paired refl where
  of_kind : Bool → ℕ → ℕ
  of_kind k x = elim k [ false ↦ block_offset g base id | true ↦ pair_offset g base id (is_first_turn x) ]

  by : (k : Bool) → g.paired ≡ k → of_kind k t ≡ of_kind k u
  by false is = refl
  by true is = ap (λ x. of_kind true x) (turn is)

abbrev next_of : Step → Session → ℕ → Asked → Stage → ℕ → Op → Call
next_of y s j q next offset op = record { number = next_call y.setting (seen y); session = s.number; purpose = Lease (ForJob j) (step_at q next); path = q.resource.path; offset = offset; op = op }

-- The own block is written.
carried_block : (q : Asked) (next : Stage) (y : Step) (b : Block) → KnowsNext q next y → op_at q next ≡ block_op q next b → offset_at q next ≡ block_at q next
    → LedCall q next y (write_block q.session (spot_of q.resource) (ForJob q.job) (step_at q next) b y)
carried_block q next y b k op place =
    let g : Layout = y.setting.layout in
    let turn : ℕ = next_turn y.setting (seen y) q.session (spot_of q.resource) in
    let name : List ℕ = name_on y.setting (seen y) q.session (spot_of q.resource) in
    record {
      call = next_of y q.session q.job q next (block_place g q.resource.offset q.session.id turn) (WriteRecord (block_record g turn q.session.lockspace name b));
      calls = refl;
      replies = refl;
      session = refl;
      is = λ at reading.
          record {
            purpose = refl;
            op = ap (λ l. WriteRecord (block_record l turn q.session.lockspace name b)) k.layout
                ∙ (ap (λ r. WriteRecord r) (same_record q.same.place.layout turn (turn_at q next + 1) q.session.lockspace name q.resource.name b k.turn k.name) ∙ sym op);
            path = refl;
            offset = ap (λ l. block_place l q.resource.offset q.session.id turn) k.layout
                ∙ (same_turn_place q.same.place.layout q.resource.offset q.session.id turn (turn_at q next + 1) k.turn ∙ sym place);
          };
    }

-- All blocks are read.
carried_read : (q : Asked) (next : Stage) (y : Step) → KnowsNext q next y → op_at q next ≡ ReadSectors (block_sectors q.same.place.layout)
    → offset_at q next ≡ block_offset q.same.place.layout q.resource.offset 1 → LedCall q next y (read_blocks q.session (spot_of q.resource) (ForJob q.job) (step_at q next) y)
carried_read q next y k op place =
    record {
      call = next_of y q.session q.job q next (block_offset y.setting.layout q.resource.offset 1) (ReadSectors (block_sectors y.setting.layout));
      calls = refl;
      replies = refl;
      session = refl;
      is = λ at reading.
          record {
            purpose = refl;
            op = ap (λ g. ReadSectors (block_sectors g)) k.layout ∙ sym op;
            path = refl;
            offset = ap (λ g. block_offset g q.resource.offset 1) k.layout ∙ sym place;
          };
    }

-- The leader is written.
carried_leader : (q : Asked) (next : Stage) (y : Step) (held : Bool) → KnowsNext q next y → op_at q next ≡ WriteRecord (leader_record q.same.place.layout (leader_of_asked q held))
    → offset_at q next ≡ leader_offset q.resource.offset → LedCall q next y (write_leader q.session (spot_of q.resource) (ForJob q.job) (step_at q next) (leader_of_asked q held) y)
carried_leader q next y held k op place =
    record {
      call = next_of y q.session q.job q next (leader_offset q.resource.offset) (WriteRecord (leader_record y.setting.layout (leader_of_asked q held)));
      calls = refl;
      replies = refl;
      session = refl;
      is = λ at reading. record { purpose = refl; op = ap (λ g. WriteRecord (leader_record g (leader_of_asked q held))) k.layout ∙ sym op; path = refl; offset = sym place };
    }

pub carried : (q : Asked) (next : Stage) (y : Step) → KnowsNext q next y → (next ≡ Reads_area → ⊥) → LedCall q next y (carry_lease q.session (spot_of q.resource) (ForJob q.job) (decision_at q next) y)
unfolding carry_lease
carried q Reads_area y k later = absurd (later refl)
carried q Writes_first y k later = carried_block q Writes_first y (first_of_asked q) k refl refl
carried q Reads_first y k later = carried_read q Reads_first y k refl refl
carried q Writes_second y k later = carried_block q Writes_second y (second_of_asked q) k refl refl
carried q Reads_second y k later = carried_read q Reads_second y k refl refl
carried q Takes_leader y k later = carried_leader q Takes_leader y true k refl refl
carried q Sets_mode y k later = carried_block q Sets_mode y (third_of_asked q) k refl refl
carried q Frees_leader y k later = carried_leader q Frees_leader y false k refl refl

-- ---- stages

abbrev pub NotFirst : Stage → Type 0
NotFirst Reads_area = ⊥
NotFirst k = Unit {0}

abbrev pub Follows : Bool → Stage → Stage → Type 0
Follows shared stage next = (stages_before next ≡ stage ∷ stages_before stage) × NotFirst next × IsOfMode shared next

goes_to : (shared : Bool) (stage k next : Stage) → Follows shared stage k → Some k ≡ Some next → Follows shared stage next
goes_to shared stage k next h is = subst (λ z. Follows shared stage z) (some_value k next is) h

pub before_next : (shared : Bool) (stage next : Stage) → IsOfMode shared stage → stage_next shared stage ≡ Some next → Follows shared stage next
before_next shared Reads_area next fits is = goes_to shared Reads_area Writes_first next (refl, tt, tt) is
before_next shared Writes_first next fits is = goes_to shared Writes_first Reads_first next (refl, tt, tt) is
before_next shared Reads_first next fits is = goes_to shared Reads_first Writes_second next (refl, tt, tt) is
before_next shared Writes_second next fits is = goes_to shared Writes_second Reads_second next (refl, tt, tt) is
before_next shared Reads_second next fits is = goes_to shared Reads_second Takes_leader next (refl, tt, tt) is
before_next true Takes_leader next fits is = goes_to true Takes_leader Sets_mode next (refl, tt, refl) is
before_next false Takes_leader next fits is = absurd (none_some next is)
before_next shared Sets_mode next fits is = goes_to shared Sets_mode Frees_leader next (refl, tt, fits) is
before_next shared Frees_leader next fits is = absurd (none_some next is)

pub unnamed : (g : Layout) (space : List ℕ) (m : Submitted) (ms : List Submitted) (p : Purpose) → m.call.purpose ≡ p → name_sought p ≡ None → verified_by g space m ms ≡ None
unnamed g space m ms p is none =
    ap (λ o. elim o as (λ z. Option (List ℕ)) [
      | None ↦ None
      | Some name ↦ elim (leader_given g m ms) as (λ z. Option (List ℕ)) [ None ↦ None | Some l ↦ choose (is_leader_of g space name l) name ]
    ]) (ap (λ z. name_sought z) is ∙ none)

-- Where the area was read before, no later call tells the name.
pub named_later : (q : Asked) (stage : Stage) (g : Layout) (space : List ℕ) (m : Submitted) (ms : List Submitted) → IsCallAt q stage m → (stage ≡ Reads_area) ⊎ (verified_by g space m ms ≡ None)
named_later q Reads_area g space m ms is = inl refl
named_later q Writes_first g space m ms is = inr (unnamed g space m ms (Lease (ForJob q.job) Phase1Write) is.purpose refl)
named_later q Reads_first g space m ms is = inr (unnamed g space m ms (Lease (ForJob q.job) Phase1Read) is.purpose refl)
named_later q Writes_second g space m ms is = inr (unnamed g space m ms (Lease (ForJob q.job) Phase2Write) is.purpose refl)
named_later q Reads_second g space m ms is = inr (unnamed g space m ms (Lease (ForJob q.job) Phase2Read) is.purpose refl)
named_later q Takes_leader g space m ms is = inr (unnamed g space m ms (Lease (ForJob q.job) TakeLeader) is.purpose refl)
named_later q Sets_mode g space m ms is = inr (unnamed g space m ms (Lease (ForJob q.job) SetMode) is.purpose refl)
named_later q Frees_leader g space m ms is = inr (unnamed g space m ms (Lease (ForJob q.job) FreeLeader) is.purpose refl)

-- ---- replies

find_none : (j : ℕ) (past es : Trace) (rs : List JobReply) (o : Option Replied) → o ≡ None
    → is_none (elim o as (λ z. Option Replied) [ Some r ↦ Some r | None ↦ option_map (λ (a : JobReply). record { at = length past; reply = a.reply }) (find (λ (a : JobReply). a.job == j) rs) ]) ≡ true
    → find (λ (a : JobReply). a.job == j) rs ≡ None
find_none j past es rs (Some r) none runs = absurd (none_some r (sym none))
find_none j past es rs None none runs = by (find (λ (a : JobReply). a.job == j) rs) runs where
  by : (f : Option JobReply) → is_none (option_map (λ (a : JobReply). let z : Replied = record { at = length past; reply = a.reply } in z) f) ≡ true → f ≡ None
  by None is = refl
  by (Some a) is = absurd (false_is_true is)

replied_there : (j : ℕ) (past : Trace) (rs : List JobReply) (o : Option Replied) → o ≡ None
    → is_none (elim o as (λ z. Option Replied) [ Some r ↦ Some r | None ↦ option_map (λ (a : JobReply). record { at = length past; reply = a.reply }) (find (λ (a : JobReply). a.job == j) rs) ]) ≡ false
    → (a : JobReply) × (find (λ (a : JobReply). a.job == j) rs ≡ Some a)
replied_there j past rs (Some r) none ended = absurd (none_some r (sym none))
replied_there j past rs None none ended = by (find (λ (a : JobReply). a.job == j) rs) refl ended where
  by : (f : Option JobReply) → find (λ (a : JobReply). a.job == j) rs ≡ f → is_none (option_map (λ (a : JobReply). let z : Replied = record { at = length past; reply = a.reply } in z) f) ≡ false
      → (a : JobReply) × (find (λ (a : JobReply). a.job == j) rs ≡ Some a)
  by None is ended = absurd (true_is_false ended)
  by (Some a) is ended = (a, is)

all_has : {A : Type 0} (P : A → Type 0) (xs : List A) (x : A) → AllByRecursion P xs → Contains xs x → P x
all_has P [] x h has = absurd (contains_none x has)
all_has P (y ∷ xs) x h has = elim (contains_cases y xs x has) as (λ z. P x) [ inl same ↦ subst P same h.0 | inr more ↦ all_has P xs x h.1 more ]

-- ---- the step that hears the answer

-- The step reaches the answer with the job still running, and does then what the lease decides.
pub record LedStep (st : Setting) (past : Trace) (e : Entry) (q : Asked) (stage : Stage) (c : DaemonOnCourse st past q stage) (answer : Answer) : Type 0 where
  pub unreplied : find (λ (a : JobReply). a.job == q.job) (heard st past e.reading (c.call).call.number answer).effects.replies ≡ None
  pub does : DoesAs e.effects (carry_lease q.session (spot_of q.resource) (ForJob q.job) (decided_then st past e.reading q stage c.call answer) (heard st past e.reading (c.call).call.number answer))

pub led_step : (st : Setting) (past : Trace) (e : Entry) (q : Asked) (stage : Stage) → IsSetting st → IsHostTrace st (e ∷ past) → IsAskedOf st q → (c : DaemonOnCourse st past q stage) (answer : Answer)
    → Hears st past e q c.call answer → LedStep st past e q stage c answer
led_step st past e q stage setting host asked c answer h = record { unreplied = unreplied; does = does } where
  n : ℕ
  n = (c.call).call.number

  now : ℕ
  now = e.reading

  y : Step
  y = heard st past now n answer

  bare_y : IsBare st past now y
  bare_y = bare_heard st past now n answer

  host_before : IsHostTrace st past
  host_before = (host.0.1, host.1.1)

  facts : HeardFacts st past now q stage c answer
  facts = heard_facts st past now q stage setting host_before asked c answer

  m : Submitted
  m = told_call st past now c.call answer

  step : LeaseStep
  step = step_at q stage

  aim : Aim
  aim = Acquires (mode_of q.shared)

  due_is : e.effects ≡ due st past now (Told n answer)
  due_is = host.1.0 ∙ ap (λ i. due st past now i) h.input

  its : JobThere st past e q c.call
  its = job_there st past e q stage setting host_before asked c h.timely h.active

  no_reply : reply_to y.past q.job ≡ None
  no_reply = ap (λ t. reply_to t q.job) bare_y.before ∙ c.runs

  caused : IsCaused st (e ∷ past)
  caused = (due_is_lawful st (e ∷ past) setting host).1

  stopped : is_running (seen y) q.job ≡ false → ⊥
  stopped ended =
      let a = replied_there q.job y.past y.effects.replies (reply_to y.past q.job) no_reply ended in
      let inside = find_inside (λ (k : JobReply). k.job == q.job) y.effects.replies a.0 a.1 in
      let early : is_before_input (a.0).reply ≡ true = all_has (λ (k : JobReply). is_before_input k.reply ≡ true) y.effects.replies a.0 (answers_lead_on.early st past now n answer) inside.0 in
      let replies : e.effects.replies ≡ y.effects.replies =
      ap (λ (fx : Effects). fx.replies) due_is ∙ (answers_lead_on.stops st past now n answer q.session m q.job step facts.answers ended).replies in
      let there : Contains e.effects.replies a.0 = subst (λ rs. Contains rs a.0) (sym replies) inside.0 in
      let k = caused.0.running a.0 there in
      let one : k.0 ≡ its.job = one_value k.0 its.job (job_numbered st (e ∷ past) q.job) (subst (λ j. job_numbered st (e ∷ past) j ≡ Some k.0) (eqb-true (a.0).job q.job inside.1) k.1) its.found in
      nothing_is_caused.early (record { setting = st; past = past; entry = e; job = its.job }) c.call its.timely (a.0).reply early
      (subst (λ (z : Job). CausedBy (record { setting = st; past = past; entry = e; job = z }) (a.0).reply) one k.3)

  runs : is_running (seen y) q.job ≡ true
  runs = by (is_running (seen y) q.job) refl where
    by : (b : Bool) → is_running (seen y) q.job ≡ b → is_running (seen y) q.job ≡ true
    by true is = is
    by false is = absurd (stopped is)

  unreplied : find (λ (a : JobReply). a.job == q.job) y.effects.replies ≡ None
  unreplied = find_none q.job y.past past y.effects.replies (reply_to y.past q.job) no_reply runs

  next_is : next_of_lease y.setting (seen y) q.session (spot_of_call y.setting.layout m) aim m step answer ≡ decided_then st past now q stage c.call answer
  next_is =
      ap (λ at. next_of_lease y.setting (seen y) q.session at aim m step answer) facts.spot
      ∙ (ap (λ g. next_of_lease g (seen y) q.session (spot_of q.resource) aim m step answer) bare_y.setting
      ∙ ap (λ (k : Call). next_of_lease st (seen y) q.session (spot_of q.resource) aim (new_call 0 0 k) step answer) (told_is past (record { reading = now; input = Told n answer; effects = y.effects }) n answer c.call))

  led_is : led_on y q.session m q.job step aim answer ≡ carry_lease q.session (spot_of q.resource) (ForJob q.job) (decided_then st past now q stage c.call answer) y
  led_is =
      ap (λ at. carry_lease q.session at (ForJob q.job) (next_of_lease y.setting (seen y) q.session (spot_of_call y.setting.layout m) aim m step answer) y) facts.spot
      ∙ ap (λ d. carry_lease q.session (spot_of q.resource) (ForJob q.job) d y) next_is

  does : DoesAs e.effects (carry_lease q.session (spot_of q.resource) (ForJob q.job) (decided_then st past now q stage c.call answer) y)
  does =
      subst (λ z. DoesAs e.effects z) led_is
      (subst (λ fx. DoesAs fx (led_on y q.session m q.job step aim answer)) (sym due_is)
      (answers_lead_on.leads st past now n answer q.session m q.job step aim facts.answers (record { runs = runs; aim_is = facts.aim })))
