-- What a line is granted is granted with its cause: beside a holding of the session's own, or an orphan that the command's process takes over. Such
-- a holding was there before the entry, and the entry grants what the command asks.
use Rattle.sl_due_facts.proofs.Acts.AddedAtEnd.{contains_last}
use Rattle.sl_due_law.proofs.Causes.AtOnceAreCaused.{Spares, at_once_is, converting}
use Rattle.sl_due_law.proofs.Causes.CommandsHere.{CommandHere, held_here, job_at, session_here}
use Rattle.sl_due_law.proofs.Causes.HeadsAreEarly.{heads_are_early, last_is_silent}
use Rattle.sl_due_law.proofs.Causes.LinesAreWell.{line_done, lines_are_well}
use Rattle.sl_due_law.proofs.Causes.NamesBefore.{with_session}
use Rattle.sl_due_law.specs.Causes.LineCauses.{GrantedAtLines, IsBeforeInput, at_its_line}
use Rattle.sl_due.specs.Due.{before_input}
use Rattle.sl_due.specs.DueCommands.{answer_line, carry_decision, carry_line, decided, pending_refusal, process_refusal, reply_at_once, serving_orphan, session_refusal, unless_refused, with_session as where_session}
use Rattle.sl_due.specs.DueRecovery.{signal_holders}
use Rattle.sl_due.specs.CarriedLease.{grant_for, grant_of}
use Rattle.sl_due.specs.DueWake.{finish}
use Rattle.sl_due.specs.Steps.{Step, add_end, add_grant, add_reply, begin_step, seen, with_input}
use Rattle.sl_due.specs.declared.decision.Decision.TheVariants.{ConvertsTo, GetsValue, GivesUp, Joins, Leaves, ReadsArea, Replies, Requests, SetsValue, Shares, TakesOver}
use Rattle.sl_due.specs.declared.decision.Decision.{Decision}
use Rattle.sl_due_facts.proofs.Jobs.JobsAreNumbered.{next_before, line_is}
use Rattle.sl_run.specs.Caused.{Answering, CausedBy, GrantsTo, IsGrantedFor, before_entry, the_session}
use Rattle.sl_trace.specs.Jobs.{lockspace_named, wants_shared}
use Rattle.sl_trace.specs.Counts.{holds_already}
use Rattle.sl_trace.specs.Leases.{holdings_on, orphan_on, spot_of}
use Rattle.sl_words.proofs.Lists.{contains_first, find_inside}
use Rattle.sl_trace.specs.Sessions.{session_named}
use Rattle.sl_trace.specs.declared.session.Session.{Session}
use Rattle.sl_trace.specs.Traces.{Job, Setting, Trace, end_of, is_orphan, is_shared, is_before_input, job_numbered, next_job, spot_of_grant}
use Rattle.sl_trace.specs.declared.command.Command.TheVariants.{Acquire, RunProgram, TakeOver}
use Rattle.sl_trace.specs.declared.command.Command.{Command}
use Rattle.sl_trace.specs.declared.command.ResourceArg.{ResourceArg}
use Rattle.sl_trace.specs.declared.effects.Effects.{Effects}
use Rattle.sl_trace.specs.declared.effects.Grant.{Grant}
use Rattle.sl_trace.specs.declared.effects.JobReply.{JobReply}
use Rattle.sl_trace.specs.declared.effects.Mode.TheVariants.{Shared}
use Rattle.sl_trace.specs.declared.effects.Mode.{Mode}
use Rattle.sl_trace.specs.declared.effects.Signal.TheVariants.{Term}
use Rattle.sl_trace.specs.declared.input.Input.TheVariants.{Line}
use Rattle.sl_trace.specs.declared.reply.Limited.TheVariants.{Turn as TurnLimit}
use Rattle.sl_trace.specs.declared.reply.Reply.TheVariants.{BadCommand as Misread, Busy, Done, Granted, NoOrphan, Recovering, Limit as LimitReached}
use Rattle.sl_trace.specs.declared.reply.Reply.{Reply}
use Rattle.sl_words.proofs.CaseLaws.{false_is_true, one_value}
use Rattle.sl_words.specs.Results.{◌>>=◌}
use Rattle.sl_words.specs.Words.{choose, same_truth}
use Rattle.std.proofs.Common.{ap, inl, inr, refl, subst, sym, ◌∙◌}
use Rattle.std.specs.Option.{option_map_or}
use Rattle.std.specs.Prelude.{Bool, Contains, Err, IsTrue, List, None, Ok, Option, Result, Some, [], false, is_none, length, option_and_then, option_map, true, ℕ, ◌++◌, ◌∷◌, ◌≡◌, ◌⊎◌}
use Rattle.sl_due_law.proofs.Causes.LeavingsRefuse.{Refused, Says, ending, line_reads, refusals}
use Rattle.sl_due_leases.proofs.Holdings.PlainPlaces.{one_place}
use Rattle.sl_due_law.proofs.Causes.AnsweredJobs.{with_command}
use Rattle.sl_due_leases.specs.Holdings.DecisionGrounds.{AsksLease, HasGrounds, IsReady, SharesGrounds, TakeOverGrounds}
use Rattle.sl_due_leases.proofs.Holdings.DecisionsHaveGrounds.{decisions_have_grounds}
use Rattle.sl_due_facts.proofs.Jobs.JobFactsGrow.{contains_right}
use Rattle.sl_words.proofs.WordLaws.{same_truth_is}

granted_misread : (n m : ℕ) → Misread n ≡ Granted m → ⊥
granted_misread n m is = cc

granted_done : (m : ℕ) → Done ≡ Granted m → ⊥
granted_done m is = cc

granted_limit : (m : ℕ) → LimitReached TurnLimit ≡ Granted m → ⊥
granted_limit m is = cc

granted_stop : (t m : ℕ) → Recovering t ≡ Granted m → ⊥
granted_stop t m is = cc

granted_same : (m n : ℕ) → Granted m ≡ Granted n → m ≡ n
granted_same m n is = cc

granted_early : (r : Reply) (m : ℕ) → r ≡ Granted m → is_before_input r ≡ true → ⊥
granted_early r m is early = false_is_true (sym (ap (λ q. is_before_input q) is) ∙ early)

-- ---- who takes over asks for the orphan's mode

abbrev Serves : Bool → Decision → Type 0
Serves b (TakesOver s g) = is_shared g.mode ≡ b
Serves b d = Unit {0}

or_serves : (b : Bool) (o : Option Reply) (d : Decision) → Serves b d → Serves b (elim o as (λ z. Decision) [ Some why ↦ Replies why | None ↦ d ])
or_serves b (Some why) d h = tt
or_serves b None d h = h

unless_serves : (b : Bool) (os : List (Option Reply)) (d : Decision) → Serves b d → Serves b (unless_refused os d)
unless_serves b [] d h = h
unless_serves b (o ∷ os) d h = or_serves b o (unless_refused os d) (unless_serves b os d h)

taker_serves : (st : Setting) (es : Trace) (now : ℕ) (r : ResourceArg) (shared : Bool) (p : ℕ) (persistent : Bool) → Serves shared (decided st es now (TakeOver r shared p persistent))
unfolding decided
taker_serves st es now r shared p persistent = by (session_named st es r.lockspace) where
  fits : (s : Session) (g : Grant) (b : Bool) → same_truth shared (is_shared g.mode) ≡ b → Serves shared (option_map_or (λ g. TakesOver s g) (choose b g) (Replies NoOrphan))
  fits s g true is = sym (same_truth_is shared (is_shared g.mode) is)
  fits s g false is = tt

  mapped : (s : Session) (o : Option Grant) → Serves shared (option_map_or (λ g. TakesOver s g) (option_and_then (λ (g : Grant). choose (same_truth shared (is_shared g.mode)) g) o) (Replies NoOrphan))
  mapped s None = tt
  mapped s (Some g) = fits s g (same_truth shared (is_shared g.mode)) refl

  by : (o : Option Session)
      → Serves shared (where_session o (λ s. unless_refused (session_refusal st es s ∷ option_and_then (process_refusal es) (Some p) ∷ choose (is_none (serving_orphan es s (spot_of r) (λ g. same_truth shared (is_shared g.mode)))) NoOrphan
      ∷ option_map (λ q. Busy q) (holds_already es (spot_of r) p) ∷ pending_refusal st es (spot_of r) ∷ [])
      (option_map_or (λ g. TakesOver s g) (serving_orphan es s (spot_of r) (λ g. same_truth shared (is_shared g.mode))) (Replies NoOrphan))))
  by None = tt
  by (Some s) =
      unless_serves shared (session_refusal st es s ∷ option_and_then (process_refusal es) (Some p) ∷ choose (is_none (serving_orphan es s (spot_of r) (λ g. same_truth shared (is_shared g.mode)))) NoOrphan
      ∷ option_map (λ q. Busy q) (holds_already es (spot_of r) p) ∷ pending_refusal st es (spot_of r) ∷ [])
      (option_map_or (λ g. TakesOver s g) (serving_orphan es s (spot_of r) (λ g. same_truth shared (is_shared g.mode))) (Replies NoOrphan)) (mapped s (orphan_on es s (spot_of r)))

-- ---- what is there at the line

-- All that the cause of a grant at a line asks.
record Taken (y : Answering) (s : Session) (r : ResourceArg) (g : Grant) : Type 0 where
  at : y.job.at ≡ length y.past
  session : the_session y ≡ Some s
  held : Contains (holdings_on (before_entry y) s (spot_of r)) g

granted_is : (y : Answering) (s : Session) (r : ResourceArg) (p : ℕ) (mode : Mode) (n : ℕ) (persistent shared : Bool) → Contains y.entry.effects.grants (grant_of s r p mode n persistent) → is_shared mode ≡ shared
    → GrantsTo y r p shared persistent n
granted_is y s r p mode n persistent shared there same = (grant_of s r p mode n persistent, there, refl, one_place r.path r.offset, same, refl, refl)

beside_caused : (y : Answering) (s : Session) (r : ResourceArg) (p : ℕ) (persistent : Bool) (g : Grant) (n : ℕ) → Taken y s r g → y.job.command ≡ Ok (Acquire r true p persistent) → is_shared g.mode ≡ true → g.lver ≡ n
    → Contains y.entry.effects.grants (grant_of s r p Shared n persistent) → CausedBy y (Granted n)
beside_caused y s r p persistent g n k command shared under there =
    with_command y (Acquire r true p persistent) (IsGrantedFor y n) command (
      granted_is y s r p Shared n persistent true there refl,
      inl (k.at, with_session y s (λ s. (g : Grant) × Contains (holdings_on (before_entry y) s (spot_of r)) g × (IsTrue (is_shared g.mode) × (g.lver ≡ n))) k.session (g, k.held, (shared, under))),
    )

taken_caused : (y : Answering) (s : Session) (r : ResourceArg) (shared : Bool) (p : ℕ) (persistent : Bool) (g : Grant) → Taken y s r g → y.job.command ≡ Ok (TakeOver r shared p persistent) → is_orphan g ≡ true → is_shared g.mode ≡ shared
    → Contains y.entry.effects.grants (grant_of s r p g.mode g.lver persistent) → CausedBy y (Granted g.lver)
taken_caused y s r shared p persistent g k command orphan mode there =
    with_command y (TakeOver r shared p persistent) (IsGrantedFor y g.lver) command (
      granted_is y s r p g.mode g.lver persistent shared there mode,
      k.at,
      with_session y s (λ s. (h : Grant) × Contains (holdings_on (before_entry y) s (spot_of r)) h × (IsTrue (is_orphan h) × (is_shared h.mode ≡ shared) × (h.lver ≡ g.lver))) k.session (g, k.held, (orphan, mode, refl)),
    )

-- All but what shares or takes over.
others_grant : (m n : ℕ) (c : Command) (d : Decision) (w : Step) → ((s : Session) (lver : ℕ) → d ≡ Shares s lver → ⊥) → ((s : Session) (g : Grant) → d ≡ TakesOver s g → ⊥) → Spares (Says (Granted m)) w (carry_decision n c d w)
unfolding carry_decision
others_grant m n c (Replies r) w a b = λ a there is. there
others_grant m n c (Joins i l) w a b = λ a there is. there
others_grant m n c (Leaves s) w a b = λ q there is. by q is (refusals n s w q there) where
  by : (q : JobReply) → q.reply ≡ Granted m → Contains w.effects.replies q ⊎ Refused (signal_holders Term s w) s q → Contains w.effects.replies q
  by q is (inl old) = old
  by q is (inr r) = absurd (granted_stop _ m (r.reply ∙ is))
others_grant m n c (ReadsArea s r) w a b = λ a there is. there
others_grant m n c (Shares s lver) w a b = absurd (a s lver refl)
others_grant m n c (GivesUp s g) w a b = ending (Granted m) s (spot_of_grant g) n g w (add_end (end_of g) w) (granted_limit m) (granted_done m) (λ a there is. there)
others_grant m n c (TakesOver s g) w a b = absurd (b s g refl)
others_grant m n c (ConvertsTo s r mode) w a b = converting (Says (Granted m)) s (spot_of r) n mode r.name w (granted_limit m)
others_grant m n c (Requests s r) w a b = λ a there is. there
others_grant m n c (SetsValue s at v) w a b = λ a there is. there
others_grant m n c (GetsValue s at) w a b = λ a there is. there

shares_is : (n : ℕ) (c : Command) (s : Session) (lver : ℕ) (w : Step) → carry_decision n c (Shares s lver) w ≡ grant_for s n c Shared lver w
unfolding carry_decision
shares_is n c s lver w = refl

takes_is : (n : ℕ) (c : Command) (s : Session) (g : Grant) (w : Step) → carry_decision n c (TakesOver s g) w ≡ grant_for s n c g.mode g.lver (add_end (end_of g) w)
unfolding carry_decision
takes_is n c s g w = refl

-- ---- in an entry that is due

pub granted_at_lines : GrantedAtLines
granted_at_lines st past e text a m j w due_so line there grants found = by (st.read text) refl where
  x : Step
  x = before_input (begin_step st past e.reading)

  h : IsBeforeInput st past e.reading x
  h = heads_are_early st past e.reading w

  n : ℕ
  n = next_job x.setting (seen x)

  number : n ≡ next_job st past
  number = next_before x h.early.wake ∙ (ap (λ g. next_job g x.past) h.setting ∙ ap (λ p. next_job st p) h.before)

  y : Answering
  y = at_its_line st past e j

  not_before : Contains x.effects.replies a → ⊥
  not_before old = granted_early a.reply m grants (h.replies a old)

  lined : Result Command ℕ → Step
  lined o = carry_line text n (o >>= (λ c. Ok (c, decided x.setting (seen x) x.reading c))) x

  is_lined : (o : Result Command ℕ) → st.read text ≡ o → e.effects ≡ (finish (lined o)).effects
  is_lined o says = line_done st past e text due_so line ∙ (ap (λ s. (finish s).effects) (line_reads x text) ∙ ap (λ q. (finish (lined q)).effects) (ap (λ (g : Setting). g.read text) h.setting ∙ says))

  inside_of : (z : Step) → e.effects ≡ (finish z).effects → Contains z.effects.replies a
  inside_of z is = subst (λ rs. Contains rs a) (ap (λ (f : Effects). f.replies) is ∙ (last_is_silent z).replies) there

  granted_in : (z : Step) → e.effects ≡ (finish z).effects → (g : Grant) → Contains z.effects.grants g → Contains e.effects.grants g
  granted_in z is g inside = subst (λ gs. Contains gs g) (sym (ap (λ (f : Effects). f.grants) is ∙ (last_is_silent z).grants)) inside

  only : (r : Reply) → Contains (answer_line text n r x).effects.replies a → record { job = n; reply = r } ≡ a
  only r inside = elim (contains_last x.effects.replies (record { job = n; reply = r }) a inside) [ inl old ↦ absurd (not_before old) | inr new ↦ new ]

  own_job : (r : Reply) → record { job = n; reply = r } ≡ a → job_numbered st (e ∷ past) (next_job st past) ≡ Some j
  own_job r new = ap (λ i. job_numbered st (e ∷ past) i) (sym number ∙ ap (λ (b : JobReply). b.job) new) ∙ found

  made : Job
  made = record { number = next_job st past; at = length past; reading = e.reading; command = st.read text }

  same : job_numbered st (e ∷ past) (next_job st past) ≡ Some j → made ≡ j
  same own =
      one_value made j (job_numbered st (e ∷ past) (next_job st past))
      (ap (λ i. job_numbered st (record { reading = e.reading; input = i; effects = e.effects } ∷ past) (next_job st past)) line ∙ line_is st past e.reading text e.effects) own

  taken : (c : Command) (s : Session) (r : ResourceArg) (g : Grant) → st.read text ≡ Ok c → lockspace_named c ≡ Some r.lockspace → IsReady x.setting (seen x) s r → Contains (holdings_on (seen x) s (spot_of r)) g
      → job_numbered st (e ∷ past) (next_job st past) ≡ Some j → Taken y s r g
  taken c s r g says names ready held own =
      let here : CommandHere st past e text c j = record { whole = w; first = x; head = h; line = line; says = says; own = same own } in
      record { at = job_at st past e text c j here; session = session_here st past e text c j here s r names ready; held = held_here st past e text c j here s (spot_of r) g held }

  by : (o : Result Command ℕ) → st.read text ≡ o → CausedBy y (Granted m)
  by (Err column) says = absurd (granted_misread column m (ap (λ (b : JobReply). b.reply) (only (Misread column) (inside_of (answer_line text n (Misread column) x) (is_lined (Err column) says))) ∙ grants))
  by (Ok c) says = on (reply_at_once d) refl where
    d : Decision
    d = decided x.setting (seen x) x.reading c

    carries : Option Reply → Step
    carries q = elim q as (λ z. Step) [ Some r ↦ answer_line text n r x | None ↦ carry_decision n c d (with_input (Line text) x) ]

    is_of : (q : Option Reply) → reply_at_once d ≡ q → e.effects ≡ (finish (carries q)).effects
    is_of q is = is_lined (Ok c) says ∙ ap (λ z. (finish (carries z)).effects) is

    at_once : (r : Reply) → reply_at_once d ≡ Some r → record { job = n; reply = r } ≡ a → CausedBy y (Granted m)
    at_once r is new =
        subst (λ q. CausedBy y q) (ap (λ (b : JobReply). b.reply) new ∙ grants)
        (lines_are_well st past e text c r j w due_so line says
        (sym (ap (λ g. decided g (seen x) x.reading c) h.setting ∙ ap (λ k. decided st (seen x) k c) h.reading) ∙ at_once_is d r is) (own_job r new))

    on : (q : Option Reply) → reply_at_once d ≡ q → CausedBy y (Granted m)
    on (Some r) is = at_once r is (only r (inside_of (answer_line text n r x) (is_of (Some r) is)))
    on None is = decision d refl where
      v : Step
      v = with_input (Line text) x

      others : ((s : Session) (lver : ℕ) → d ≡ Shares s lver → ⊥) → ((s : Session) (g : Grant) → d ≡ TakesOver s g → ⊥) → CausedBy y (Granted m)
      others share take = absurd (not_before (others_grant m n c d v share take a (inside_of (carry_decision n c d v) (is_of None is)) grants))

      ended : (q : Decision) → d ≡ q → (b : Command) → c ≡ b → e.effects ≡ (finish (carry_decision n b q v)).effects
      ended q so b is_b = is_of None is ∙ (ap (λ k. (finish (carry_decision n c k v)).effects) so ∙ ap (λ k. (finish (carry_decision n k q v)).effects) is_b)

      commands : (b : Command) → c ≡ b → job_numbered st (e ∷ past) (next_job st past) ≡ Some j → j.command ≡ Ok b
      commands b is_b own = ap (λ (k : Job). k.command) (sym (same own)) ∙ (says ∙ ap (λ k. Ok k) is_b)

      newest : (r : Reply) → Contains (x.effects.replies ++ record { job = n; reply = r } ∷ []) a → record { job = n; reply = r } ≡ a
      newest r inside = elim (contains_last x.effects.replies (record { job = n; reply = r }) a inside) [ inl old ↦ absurd (not_before old) | inr new ↦ new ]

      shares : (s : Session) (lver : ℕ) → d ≡ Shares s lver → CausedBy y (Granted m)
      shares s lver so = asked g.acquires.asks where
        g : SharesGrounds x.setting (seen x) c s lver
        g = subst (λ q. HasGrounds x.setting (seen x) c q) so (decisions_have_grounds x.setting (seen x) x.reading c)

        r : ResourceArg
        r = g.resource

        acquired : (p : ℕ) (persistent : Bool) → c ≡ Acquire r true p persistent → CausedBy y (Granted m)
        acquired p persistent acquires =
            let z : Step = add_reply n (Granted lver) (add_grant (grant_of s r p Shared lver persistent) v) in
            let ends : e.effects ≡ (finish z).effects = ended (Shares s lver) so (Acquire r true p persistent) acquires ∙ ap (λ k. (finish k).effects) (shares_is n (Acquire r true p persistent) s lver v) in
            let new : record { job = n; reply = Granted lver } ≡ a = newest (Granted lver) (inside_of z ends) in
            let own = own_job (Granted lver) new in
            let held = find_inside (λ (q : Grant). is_shared q.mode) (holdings_on (seen x) s (spot_of r)) g.beside g.held in
            subst (λ k. CausedBy y (Granted k)) (granted_same lver m (ap (λ (b : JobReply). b.reply) new ∙ grants))
            (beside_caused y s r p persistent g.beside lver (taken c s r g.beside says (ap (λ k. lockspace_named k) acquires) g.acquires.ready held.0 own) (commands (Acquire r true p persistent) acquires own) held.1 g.under
            (granted_in z ends (grant_of s r p Shared lver persistent) (contains_right x.effects.grants (grant_of s r p Shared lver persistent ∷ []) (grant_of s r p Shared lver persistent) (contains_first (grant_of s r p Shared lver persistent) []))))

        asked : AsksLease c r → CausedBy y (Granted m)
        asked (inl (shared, p, persistent, acquires)) =
            acquired p persistent (acquires ∙ ap (λ b. Acquire r b p persistent) (ap (λ k. wants_shared k) (sym acquires) ∙ g.shared))
        asked (inr (shared, path, runs)) =
            absurd (not_before (inside_of (grant_for s n (RunProgram r shared path) Shared lver v)
            (ended (Shares s lver) so (RunProgram r shared path) runs ∙ ap (λ k. (finish k).effects) (shares_is n (RunProgram r shared path) s lver v))))

      takes : (s : Session) (g : Grant) → d ≡ TakesOver s g → CausedBy y (Granted m)
      takes s h so =
          let z : Step = grant_for s n (TakeOver r g.shared g.process g.persistent) h.mode h.lver (add_end (end_of h) v) in
          let ends : e.effects ≡ (finish z).effects =
          ended (TakesOver s h) so (TakeOver r g.shared g.process g.persistent) g.command ∙ ap (λ k. (finish k).effects) (takes_is n (TakeOver r g.shared g.process g.persistent) s h v) in
          let new : record { job = n; reply = Granted h.lver } ≡ a = newest (Granted h.lver) (inside_of z ends) in
          let own = own_job (Granted h.lver) new in
          let held = find_inside is_orphan (holdings_on (seen x) s (spot_of r)) h g.orphan in
          let given : Grant = grant_of s r g.process h.mode h.lver g.persistent in
          subst (λ k. CausedBy y (Granted k)) (granted_same h.lver m (ap (λ (b : JobReply). b.reply) new ∙ grants))
          (taken_caused y s r g.shared g.process g.persistent h (taken c s r h says (ap (λ k. lockspace_named k) g.command) g.ready held.0 own)
          (commands (TakeOver r g.shared g.process g.persistent) g.command own) held.1
          (subst (λ q. Serves g.shared q) (ap (λ k. decided x.setting (seen x) x.reading k) (sym g.command) ∙ so) (taker_serves x.setting (seen x) x.reading r g.shared g.process g.persistent))
          (granted_in z ends given (contains_right x.effects.grants (given ∷ []) given (contains_first given []))))
        where
          g : TakeOverGrounds x.setting (seen x) c s h
          g = subst (λ q. HasGrounds x.setting (seen x) c q) so (decisions_have_grounds x.setting (seen x) x.reading c)

          r : ResourceArg
          r = g.resource

      decision : (q : Decision) → d ≡ q → CausedBy y (Granted m)
      decision (Shares s lver) so = shares s lver so
      decision (TakesOver s g) so = takes s g so
      decision (Replies r) so = others (λ s lver at. cc) (λ s g at. cc)
      decision (Joins k l) so = others (λ s lver at. cc) (λ s g at. cc)
      decision (Leaves t) so = others (λ s lver at. cc) (λ s g at. cc)
      decision (ReadsArea t r) so = others (λ s lver at. cc) (λ s g at. cc)
      decision (GivesUp t k) so = others (λ s lver at. cc) (λ s g at. cc)
      decision (ConvertsTo t r mode) so = others (λ s lver at. cc) (λ s g at. cc)
      decision (Requests t r) so = others (λ s lver at. cc) (λ s g at. cc)
      decision (SetsValue t at v) so = others (λ s lver at. cc) (λ s g at. cc)
      decision (GetsValue t at) so = others (λ s lver at. cc) (λ s g at. cc)
