-- Each reply of each entry that is due has its cause, so each trace of such entries is caused.
use Rattle.sl_due_facts.proofs.Acts.ActsTogether.{both, from_more}
use Rattle.sl_due_facts.proofs.Acts.InputsKeep.{other_acts}
use Rattle.sl_due_facts.proofs.Acts.StepsKeep.{Fixed, due_is_of, head_keeps, step_keeps}
use Rattle.sl_due_facts.proofs.Acts.TracesKeep.{due_is_seen}
use Rattle.sl_due_facts.specs.Acts.Acts.{Acts}
use Rattle.sl_due_facts.specs.Acts.TraceSoFar.{entry_of}
use Rattle.sl_due.specs.Due.{IsDue, before_input, due_step}
use Rattle.sl_due.specs.DueRecovery.{begin_recoveries}
use Rattle.sl_due.specs.Steps.{Step, begin_step}
use Rattle.sl_due_law.proofs.Causes.LimitedAtLines.{at_once_are_caused, limited_at_lines}
use Rattle.sl_due_law.proofs.Causes.CauseFactsHold.{traces_stand}
use Rattle.sl_due_law.proofs.Causes.CausesAreKept.{causes_are_kept, causes_begin}
use Rattle.sl_due_law.proofs.Causes.DoneAtLines.{done_at_lines}
use Rattle.sl_due_law.proofs.Causes.EntryMakings.{step_of}
use Rattle.sl_due_law.proofs.Causes.GrantedAtLines.{granted_at_lines}
use Rattle.sl_due_law.proofs.Causes.LaterSteps.{itself}
use Rattle.sl_due_law.proofs.Causes.LeavingsRefuse.{refused_at_lines}
use Rattle.sl_due_law.proofs.Causes.RepliesRun.{replies_run, replies_run_begin}
use Rattle.sl_due_law.proofs.LawfulTraces.AllIsKept.{all_begins, all_is_kept}
use Rattle.sl_due_law.proofs.LawfulTraces.TracesHold.{traces_hold}
use Rattle.sl_due_law.specs.Causes.CauseFacts.{CauseFacts}
use Rattle.sl_due_law.specs.Causes.CausedSoFar.{CausedSoFar, IsAtOnce, RepliedSoFar, is_explained, is_line}
use Rattle.sl_due_law.specs.Causes.LineCauses.{at_its_line}
use Rattle.sl_due_law.specs.Causes.CauseLaws.{TracesAreCaused}
use Rattle.sl_due_leases.specs.Holdings.Moments.{Known}
use Rattle.sl_due_law.specs.LawfulTraces.CarriedFacts.{Holds, Kept}
use Rattle.sl_run.specs.Caused.{AnswersWell, CausedBy}
use Rattle.sl_words.proofs.Lists.{contains_first, contains_none, head_is}
use Rattle.sl_words.proofs.Numbers.{number_itself}
use Rattle.sl_trace.specs.Traces.{FollowsTrace, Job, Setting, Trace, job_numbered, next_job}
use Rattle.sl_trace.specs.declared.command.Command.{Command}
use Rattle.sl_trace.specs.declared.effects.End.{End}
use Rattle.sl_trace.specs.declared.effects.Entry.{Entry}
use Rattle.sl_trace.specs.declared.effects.Grant.{Grant}
use Rattle.sl_trace.specs.declared.effects.JobReply.{JobReply}
use Rattle.sl_trace.specs.declared.input.Input.{Input}
use Rattle.sl_trace.specs.declared.input.Input.TheVariants.{Answer as Told, Exit, Line, Number, Spawned, Wake}
use Rattle.sl_trace.specs.declared.reply.Reply.{Reply}
use Rattle.sl_trace.specs.declared.reply.Limited.TheVariants.{Turn as TurnLimit}
use Rattle.sl_trace.specs.declared.reply.Reply.TheVariants.{Done, Granted, Limit as LimitReached, Recovering}
use Rattle.sl_words.proofs.CaseLaws.{not_both, true_is_false}
use Rattle.std.proofs.Common.{ap, inl, inr, refl, subst, sym, ◌∙◌}
use Rattle.std.proofs.lemmas.Bool.{eqb-true}
use Rattle.std.specs.Prelude.{Bool, Contains, Err, List, Ok, Result, Some, [], false, not, true, ℕ, ◌==◌, ◌∷◌, ◌≡◌, ◌⊎◌}

-- ---- what is carried through a step

abbrev Causing : Step → Type 0
Causing x = Kept x × (CausedSoFar is_explained x × RepliedSoFar x)

causing_is_kept : Acts Causing Causing
causing_is_kept =
    both Causing Kept (λ x. CausedSoFar is_explained x × RepliedSoFar x) (from_more Kept Causing Kept (λ x h. h.0) all_is_kept)
    (both Causing (CausedSoFar is_explained) RepliedSoFar
    (from_more (λ x. Known x × CausedSoFar is_explained x) Causing (CausedSoFar is_explained) (λ x h. (h.0.known, h.1.0)) causes_are_kept)
    (from_more (λ x. Known x × RepliedSoFar x) Causing RepliedSoFar (λ x h. (h.0.known, h.1.1)) replies_run))

causing_begins : (st : Setting) (past : Trace) (e : Entry) → FollowsTrace st past e → Holds st past → CauseFacts st past → Causing (begin_recoveries (begin_step st past e.reading))
causing_begins st past e follows h facts = (all_begins st past e follows h, (causes_begin st past e follows h.whole facts, replies_run_begin st past e follows h.whole))

-- Before the input, and at the end.
head_is_caused : (st : Setting) (past : Trace) (e : Entry) → FollowsTrace st past e → Holds st past → CauseFacts st past → CausedSoFar is_explained (before_input (begin_step st past e.reading))
unfolding before_input
head_is_caused st past e follows h facts = (head_keeps Causing (other_acts Causing causing_is_kept) st past e.reading (causing_begins st past e follows h facts)).kept.1.0

-- The entry as the step that ends in it.
step_is : (st : Setting) (past : Trace) (e : Entry) → IsDue st past e → due_step st past e.reading e.input ≡ step_of st past e
step_is st past e due_so =
    ap (λ g. step_of g y.past (entry_of y)) fixed.setting ∙ (ap (λ t. step_of st t (entry_of y)) fixed.before ∙ ap (λ f. step_of st past f) entry)
  where
    y : Step
    y = due_step st past e.reading e.input

    fixed : Fixed st past e.reading y
    fixed = due_is_of st past e.reading e.input

    entry : entry_of y ≡ e
    entry = head_is (entry_of y) e y.past past (due_is_seen st past e due_so)

-- ---- at once or not

-- A reply that isn't of the entry's line, or with which something is granted or ended, is none that is given at once.
once_or_not : (st : Setting) (past : Trace) (e : Entry) (a : JobReply) → IsAtOnce (step_of st past e) a ⊎ (IsAtOnce (step_of st past e) a → ⊥)
once_or_not st past e a = by e.input refl where
  x : Step
  x = step_of st past e

  no_line : (i : Input) → e.input ≡ i → is_line i ≡ false → IsAtOnce x a → ⊥
  no_line i is none o = true_is_false (ap (λ k. is_line k) (sym o.line ∙ is) ∙ none)

  by_lists : (text : List ℕ) (c : Command) → e.input ≡ Line text → st.read text ≡ Ok c → a.job ≡ next_job st past → (gs : List Grant) → e.effects.grants ≡ gs → (xs : List End) → e.effects.ends ≡ xs → IsAtOnce x a ⊎ (IsAtOnce x a → ⊥)
  by_lists text c line says own [] ungranted [] unended = inl (record { text = text; line = line; command = c; says = says; own = own; ungranted = ungranted; unended = unended })
  by_lists text c line says own (g ∷ gs) granted xs ends = inr (λ o. contains_none g (subst (λ hs. Contains hs g) (sym granted ∙ o.ungranted) (contains_first g gs)))
  by_lists text c line says own [] ungranted (d ∷ ds) ended = inr (λ o. contains_none d (subst (λ xs. Contains xs d) (sym ended ∙ o.unended) (contains_first d ds)))

  by_job : (text : List ℕ) (c : Command) → e.input ≡ Line text → st.read text ≡ Ok c → (b : Bool) → (a.job == next_job st past) ≡ b → IsAtOnce x a ⊎ (IsAtOnce x a → ⊥)
  by_job text c line says true is = by_lists text c line says (eqb-true a.job (next_job st past) is) e.effects.grants refl e.effects.ends refl
  by_job text c line says false other = inr (λ o. not_both (a.job == next_job st past) (ap (λ n. n == next_job st past) o.own ∙ number_itself (next_job st past)) other)

  err_apart : (o : Result Command ℕ) (column : ℕ) (c : Command) → o ≡ Err column → o ≡ Ok c → ⊥
  err_apart o column c fails is = cc

  same_text : (t u : List ℕ) → Line t ≡ Line u → t ≡ u
  same_text t u is = cc

  by_read : (text : List ℕ) → e.input ≡ Line text → (o : Result Command ℕ) → st.read text ≡ o → IsAtOnce x a ⊎ (IsAtOnce x a → ⊥)
  by_read text line (Ok c) says = by_job text c line says (a.job == next_job st past) refl
  by_read text line (Err column) says = inr (λ o. err_apart (st.read text) column o.command says (ap (λ t. st.read t) (same_text text o.text (sym line ∙ o.line)) ∙ o.says))

  by : (i : Input) → e.input ≡ i → IsAtOnce x a ⊎ (IsAtOnce x a → ⊥)
  by (Line text) is = by_read text is (st.read text) refl
  by Wake is = inr (λ o. no_line Wake is refl o)
  by (Number text) is = inr (λ o. no_line (Number text) is refl o)
  by (Told n w) is = inr (λ o. no_line (Told n w) is refl o)
  by (Exit p) is = inr (λ o. no_line (Exit p) is refl o)
  by (Spawned p ok) is = inr (λ o. no_line (Spawned p ok) is refl o)

-- What is unexplained of an entry comes at a line.
open_input : (i : Input) (r : Reply) → is_line i ≡ false → is_explained i r ≡ false → ⊥
open_input i (Recovering t) none hidden = true_is_false (ap (λ b. not b) (sym none) ∙ hidden)
open_input i Done none hidden = true_is_false (ap (λ b. not b) (sym none) ∙ hidden)
open_input i (Granted lver) none hidden = true_is_false (ap (λ b. not b) (sym none) ∙ hidden)
open_input i (LimitReached TurnLimit) none hidden = true_is_false (ap (λ b. not b) (sym none) ∙ hidden)
open_input i r none hidden = true_is_false hidden

-- ---- each entry

-- All that is known of an entry that is due.
record DueEntry (st : Setting) (past : Trace) (e : Entry) : Type 0 where
  follows : FollowsTrace st past e
  due_so : IsDue st past e
  holds : Holds st past
  facts : CauseFacts st past

caused_in : (st : Setting) (past : Trace) (e : Entry) → DueEntry st past e → CausedSoFar is_explained (step_of st past e) × RepliedSoFar (step_of st past e)
caused_in st past e h =
    subst (λ y. CausedSoFar is_explained y × RepliedSoFar y) (step_is st past e h.due_so)
    (step_keeps Causing causing_is_kept st past e.reading e.input h.follows.expected (causing_begins st past e h.follows h.holds h.facts)).1

-- A line's answer, of which nothing is said by the acts.
by_line : (st : Setting) (past : Trace) (e : Entry) (a : JobReply) (j : Job) (text : List ℕ) → DueEntry st past e → e.input ≡ Line text → Contains e.effects.replies a → job_numbered st (e ∷ past) a.job ≡ Some j
    → is_explained (Line text) a.reply ≡ false → CausedBy (at_its_line st past e j) a.reply
by_line st past e a j text h line there found unsaid = by a.reply refl unsaid where
  by : (r : Reply) → a.reply ≡ r → is_explained (Line text) r ≡ false → CausedBy (at_its_line st past e j) r
  by (Recovering t) is hidden = refused_at_lines st past e text a t j h.holds.whole h.due_so line (head_is_caused st past e h.follows h.holds h.facts) there is found
  by Done is hidden = done_at_lines st past e text a j h.holds.whole h.due_so line there is found
  by (Granted lver) is hidden = granted_at_lines st past e text a lver j h.holds.whole h.due_so line there is found
  by (LimitReached TurnLimit) is hidden = limited_at_lines st past e text a j h.holds.whole h.due_so line there is found
  by r is hidden = absurd (true_is_false hidden)

reply_caused : (st : Setting) (past : Trace) (e : Entry) (a : JobReply) (j : Job) → DueEntry st past e → Contains e.effects.replies a → job_numbered st (e ∷ past) a.job ≡ Some j → CausedBy (at_its_line st past e j) a.reply
reply_caused st past e a j h there found = by (is_explained e.input a.reply) refl where
  x : Step
  x = step_of st past e

  shown : is_explained e.input a.reply ≡ true → IsAtOnce x a ⊎ (IsAtOnce x a → ⊥) → CausedBy (at_its_line st past e j) a.reply
  shown is (inl once) = at_once_are_caused st past e a j h.holds.whole h.due_so there (subst (λ y. IsAtOnce y a) (sym (step_is st past e h.due_so)) once) found
  shown is (inr later) = (caused_in st past e h).0.causes a there is later x (itself x) j found

  lined : (i : Input) → e.input ≡ i → is_explained i a.reply ≡ false → CausedBy (at_its_line st past e j) a.reply
  lined (Line text) line hidden = by_line st past e a j text h line there found hidden
  lined Wake line hidden = absurd (open_input Wake a.reply refl hidden)
  lined (Number text) line hidden = absurd (open_input (Number text) a.reply refl hidden)
  lined (Told n w) line hidden = absurd (open_input (Told n w) a.reply refl hidden)
  lined (Exit p) line hidden = absurd (open_input (Exit p) a.reply refl hidden)
  lined (Spawned p ok) line hidden = absurd (open_input (Spawned p ok) a.reply refl hidden)

  by : (b : Bool) → is_explained e.input a.reply ≡ b → CausedBy (at_its_line st past e j) a.reply
  by true is = shown is (once_or_not st past e a)
  by false hidden = lined e.input refl hidden

answers_well : (st : Setting) (past : Trace) (e : Entry) → DueEntry st past e → AnswersWell st past e
answers_well st past e h =
    record {
      running = λ a there. let r = (caused_in st past e h).1.running a there in (r.0, r.1, r.2, reply_caused st past e a r.0 h there r.1);
      once = (caused_in st past e h).1.once;
    }

pub traces_are_caused : TracesAreCaused
traces_are_caused st [] setting h = tt
traces_are_caused st (e ∷ past) setting h = (
  answers_well st past e (record { follows = h.0.0; due_so = h.1.0; holds = traces_hold st past setting (h.0.1, h.1.1); facts = traces_stand st past setting (h.0.1, h.1.1) }),
  traces_are_caused st past setting (h.0.1, h.1.1),
)
