-- What a line is answered as done: a kill program that is set, or a holding that was given up beside others of the lease.
use Rattle.sl_due_facts.proofs.Acts.AddedAtEnd.{contains_last}
use Rattle.sl_due.specs.Due.{IsDue, before_input}
use Rattle.sl_due.specs.DueCommands.{answer_line, carry_decision, carry_line, decided}
use Rattle.sl_due.specs.DueRecovery.{signal_holders}
use Rattle.sl_due.specs.CarriedLease.{grant_for, grant_of}
use Rattle.sl_due.specs.DueWake.{finish}
use Rattle.sl_due.specs.Steps.{Step, add_end, add_grant, begin_step, seen, with_input}
use Rattle.sl_due.specs.declared.decision.Decision.{Decision}
use Rattle.sl_due.specs.declared.decision.Decision.TheVariants.{ConvertsTo, GetsValue, GivesUp, Joins, Leaves, ReadsArea, Replies, Requests, SetsValue, Shares, TakesOver}
use Rattle.sl_due_law.proofs.Causes.AnsweredJobs.{with_command}
use Rattle.sl_due_law.proofs.Causes.AtOnceAreCaused.{Spares, converting}
use Rattle.sl_due_law.proofs.Causes.CauseFactsHold.{entry_new}
use Rattle.sl_due_law.proofs.Causes.CommandsHere.{CommandHere, GivenHere, given_here, job_at, job_says}
use Rattle.sl_due_law.proofs.Causes.HeadsAreEarly.{heads_are_early, last_is_silent}
use Rattle.sl_due_law.proofs.Causes.Leases.LeaseAnswers.{lockspace_of}
use Rattle.sl_due_law.proofs.Causes.LeavingsRefuse.{Refused, Says, line_reads, refusals, says_other}
use Rattle.sl_due_law.proofs.Causes.LineComes.{At_once, Carried, LineComes, LineTakes, decided_first, line_comes, line_takes}
use Rattle.sl_due_law.proofs.Causes.LinesAreWell.{line_done, lines_are_well}
use Rattle.sl_due_law.proofs.Causes.NamesBefore.{with_session}
use Rattle.sl_due_law.proofs.Causes.ReleasedAtLines.{None_remains, Others_remain, Remains, Turn_passes, ends_for, ends_it, given_up}
use Rattle.sl_due_leases.proofs.Holdings.DecisionsHaveGrounds.{decisions_have_grounds}
use Rattle.sl_due_facts.proofs.Jobs.JobsAreNumbered.{line_is}
use Rattle.sl_due_law.specs.Causes.LineCauses.{DoneAtLines, IsBeforeInput, at_its_line}
use Rattle.sl_due_facts.specs.Facts.AllFacts.{WholeTrace}
use Rattle.sl_due_leases.specs.Holdings.DecisionGrounds.{GiveUpGrounds, HasGrounds, Releases}
use Rattle.sl_run.specs.Caused.{Answering, CausedBy, IsDoneFor, IsReleased, after_entry}
use Rattle.sl_trace.specs.Jobs.{lockspace_named, resource_named}
use Rattle.sl_trace.specs.Leases.{holdings_on, spot_of}
use Rattle.sl_trace.specs.declared.session.Session.{Session}
use Rattle.sl_trace.specs.Traces.{Job, Setting, Trace, end_of, entry_at, is_before_input, job_numbered, next_job, no_process, same_place, spot_of_grant}
use Rattle.sl_trace.specs.declared.command.Command.{Command}
use Rattle.sl_trace.specs.declared.command.Command.TheVariants.{Acquire, Release, ReleaseOrphan, RunProgram, TakeOver}
use Rattle.sl_trace.specs.declared.command.ResourceArg.{ResourceArg}
use Rattle.sl_trace.specs.declared.effects.Effects.{Effects}
use Rattle.sl_trace.specs.declared.effects.End.{End}
use Rattle.sl_trace.specs.declared.effects.Entry.{Entry}
use Rattle.sl_trace.specs.declared.effects.Grant.{Grant}
use Rattle.sl_trace.specs.declared.effects.JobReply.{JobReply}
use Rattle.sl_trace.specs.declared.effects.Mode.{Mode}
use Rattle.sl_trace.specs.declared.effects.Mode.TheVariants.{Shared}
use Rattle.sl_trace.specs.declared.effects.Signal.TheVariants.{Term}
use Rattle.sl_trace.specs.declared.input.Input.TheVariants.{Line}
use Rattle.sl_trace.specs.declared.reply.Limited.TheVariants.{Turn as TurnLimit}
use Rattle.sl_trace.specs.declared.reply.Reply.{Reply}
use Rattle.sl_trace.specs.declared.reply.Reply.TheVariants.{BadCommand as Misread, Done, Granted, Limit as LimitReached, Recovering}
use Rattle.sl_words.proofs.CaseLaws.{false_is_true, one_value, true_is_false}
use Rattle.sl_words.specs.Results.{◌>>=◌}
use Rattle.std.proofs.Common.{ap, arith, inl, inr, refl, subst, sym, ◌∙◌}
use Rattle.std.proofs.lemmas.Bool.{eqb-true}
use Rattle.std.specs.Prelude.{Contains, Err, List, Ok, Result, Some, [], false, length, true, ℕ, ◌++◌, ◌∷◌, ◌≡◌, ◌≤◌, ◌⊎◌}

done_misread : (n : ℕ) → Misread n ≡ Done → ⊥
done_misread n is = cc

done_stop : (t : ℕ) → Recovering t ≡ Done → ⊥
done_stop t is = cc

done_limit : LimitReached TurnLimit ≡ Done → ⊥
done_limit is = cc

done_granted : (m : ℕ) → Granted m ≡ Done → ⊥
done_granted m is = cc

done_early : (r : Reply) → r ≡ Done → is_before_input r ≡ true → ⊥
done_early r is early = false_is_true (sym (ap (λ q. is_before_input q) is) ∙ early)

granting_done : (s : Session) (n : ℕ) (c : Command) (mode : Mode) (lver : ℕ) (w y : Step) → Spares (Says Done) w y → Spares (Says Done) w (grant_for s n c mode lver y)
granting_done s n (Acquire r shared p persistent) mode lver w y h = says_other Done w (add_grant (grant_of s r p mode lver persistent) y) n (Granted lver) (done_granted lver) h
granting_done s n (TakeOver r shared p persistent) mode lver w y h = says_other Done w (add_grant (grant_of s r p mode lver persistent) y) n (Granted lver) (done_granted lver) h
granting_done s n (RunProgram r shared path) mode lver w y h = h
granting_done s n c mode lver w y h = h

-- All but what gives a holding up.
others_done : (n : ℕ) (c : Command) (d : Decision) (w : Step) → ((s : Session) (g : Grant) → d ≡ GivesUp s g → ⊥) → Spares (Says Done) w (carry_decision n c d w)
unfolding carry_decision
others_done n c (Replies r) w other = λ a there is. there
others_done n c (Joins i l) w other = λ a there is. there
others_done n c (Leaves s) w other = λ q there is. by q is (refusals n s w q there) where
  by : (q : JobReply) → q.reply ≡ Done → Contains w.effects.replies q ⊎ Refused (signal_holders Term s w) s q → Contains w.effects.replies q
  by q is (inl old) = old
  by q is (inr r) = absurd (done_stop _ (r.reply ∙ is))
others_done n c (ReadsArea s r) w other = λ a there is. there
others_done n c (Shares s lver) w other = granting_done s n c Shared lver w w (λ a there is. there)
others_done n c (GivesUp s g) w other = absurd (other s g refl)
others_done n c (TakesOver s g) w other = granting_done s n c g.mode g.lver w (add_end (end_of g) w) (λ a there is. there)
others_done n c (ConvertsTo s r mode) w other = converting (Says Done) s (spot_of r) n mode r.name w done_limit
others_done n c (Requests s r) w other = λ a there is. there
others_done n c (SetsValue s at v) w other = λ a there is. there
others_done n c (GetsValue s at) w other = λ a there is. there

-- ---- in an entry that is due

-- A text that says no command is answered so alone.
pub misread_only : (st : Setting) (past : Trace) (e : Entry) (text : List ℕ) (column : ℕ) (a : JobReply) (r : Reply) → WholeTrace st past → IsDue st past e → e.input ≡ Line text → Contains e.effects.replies a → a.reply ≡ r
    → is_before_input r ≡ false → ((n : ℕ) → Misread n ≡ r → ⊥) → st.read text ≡ Err column → ⊥
misread_only st past e text column a r w due_so line there is late other says =
    elim (contains_last x.effects.replies (record { job = n; reply = Misread column }) a inside) [
      | inl old ↦ true_is_false (sym (h.replies a old) ∙ (ap (λ q. is_before_input q) is ∙ late))
      | inr new ↦ other column (ap (λ (b : JobReply). b.reply) new ∙ is)
    ]
  where
    x : Step
    x = before_input (begin_step st past e.reading)

    h : IsBeforeInput st past e.reading x
    h = heads_are_early st past e.reading w

    n : ℕ
    n = next_job x.setting (seen x)

    lined : Result Command ℕ → Step
    lined o = carry_line text n (o >>= (λ c. Ok (c, decided x.setting (seen x) x.reading c))) x

    z : Step
    z = answer_line text n (Misread column) x

    ended : e.effects ≡ (finish z).effects
    ended =
        line_done st past e text due_so line ∙ (ap (λ s. (finish s).effects) (line_reads x text)
        ∙ ap (λ q. (finish (lined q)).effects) (ap (λ (g : Setting). g.read text) h.setting ∙ says))

    inside : Contains z.effects.replies a
    inside = subst (λ rs. Contains rs a) (ap (λ (f : Effects). f.replies) ended ∙ (last_is_silent z).replies) there

pub done_at_lines : DoneAtLines
done_at_lines st past e text a j w due_so line there done found = by (st.read text) refl where
  y : Answering
  y = at_its_line st past e j

  made : Job
  made = record { number = next_job st past; at = length past; reading = e.reading; command = st.read text }

  same : a.job ≡ next_job st past → made ≡ j
  same own =
      one_value made j (job_numbered st (e ∷ past) (next_job st past))
      (ap (λ i. job_numbered st (record { reading = e.reading; input = i; effects = e.effects } ∷ past) (next_job st past)) line ∙ line_is st past e.reading text e.effects)
      (ap (λ i. job_numbered st (e ∷ past) i) (sym own) ∙ found)

  by : (o : Result Command ℕ) → st.read text ≡ o → CausedBy y Done
  by (Err column) says = absurd (misread_only st past e text column a Done w due_so line there done refl (λ n. done_misread n) says)
  by (Ok c) says = takes (line_takes st past e text c k) where
    k : LineComes st past e text c
    k = line_comes st past e text c w due_so line says

    x : Step
    x = k.first

    n : ℕ
    n = next_job x.setting (seen x)

    v : Step
    v = with_input (Line text) x

    not_before : Contains x.effects.replies a → ⊥
    not_before old = done_early a.reply done (k.head.replies a old)

    inside_of : (z : Step) → e.effects ≡ (finish z).effects → Contains z.effects.replies a
    inside_of z is = subst (λ rs. Contains rs a) (ap (λ (f : Effects). f.replies) is ∙ (last_is_silent z).replies) there

    newest : (r : Reply) → Contains (x.effects.replies ++ record { job = n; reply = r } ∷ []) a → record { job = n; reply = r } ≡ a
    newest r inside = elim (contains_last x.effects.replies (record { job = n; reply = r }) a inside) [ inl old ↦ absurd (not_before old) | inr new ↦ new ]

    own : (r : Reply) → record { job = n; reply = r } ≡ a → a.job ≡ next_job st past
    own r new = sym (ap (λ (b : JobReply). b.job) new) ∙ k.number

    at_once : (r : Reply) → decided x.setting (seen x) x.reading c ≡ Replies r → record { job = n; reply = r } ≡ a → CausedBy y Done
    at_once r is new =
        subst (λ q. CausedBy y q) (ap (λ (b : JobReply). b.reply) new ∙ done)
        (lines_are_well st past e text c r j w due_so line says (decided_first st past e text c k r is) (ap (λ i. job_numbered st (e ∷ past) i) (sym (own r new)) ∙ found))

    here : a.job ≡ next_job st past → CommandHere st past e text c j
    here mine = record { whole = w; first = k.first; head = k.head; line = line; says = says; own = same mine }

    given : (s : Session) (g : Grant) → decided x.setting (seen x) x.reading c ≡ GivesUp s g → e.effects ≡ (finish (carry_decision n c (GivesUp s g) v)).effects → CausedBy y Done
    given s g is ended = beside (given_up n c s g v).remains where
      u : GiveUpGrounds x.setting (seen x) c s g
      u = subst (λ q. HasGrounds x.setting (seen x) c q) is (decisions_have_grounds x.setting (seen x) x.reading c)

      r : ResourceArg
      r = u.resource

      released : (p : ℕ) (b : Command) → c ≡ b → resource_named b ≡ Some r → ((ends : List End) → same_place g.path g.offset r.path r.offset ≡ true → ends_for r p (ends ++ end_of g ∷ []) ≡ true)
          → (h : Grant) (hs : List Grant) → holdings_on (seen (add_end (end_of g) v)) s (spot_of_grant g) ≡ h ∷ hs → a.job ≡ next_job st past → IsReleased y r p
      released p b is_b names ends_there h hs remain mine =
          let f : GivenHere st past e text j x s r g = given_here st past e text c j (here mine) s g u (ap (λ q. lockspace_named q) is_b ∙ lockspace_of b r names) ended in (
            (e, subst (λ (q : Job). entry_at (e ∷ past) q.at ≡ Some e) (same mine) (entry_new past e), ap (λ es. ends_for r p es) f.ends ∙ ends_there x.effects.ends f.place),
            inl (
              job_at st past e text c j (here mine),
              with_session y s (λ s. 1 ≤ length (holdings_on (after_entry y) s (spot_of r))) f.session (subst (λ gs. 1 ≤ length gs) (sym remain ∙ f.left) (one_more h hs)),
            ),
          )
        where
          one_more : (h : Grant) (hs : List Grant) → 1 ≤ length (h ∷ hs)
          one_more h hs = omega arith

      named : (h : Grant) (hs : List Grant) → holdings_on (seen (add_end (end_of g) v)) s (spot_of_grant g) ≡ h ∷ hs → a.job ≡ next_job st past → Releases c r g → CausedBy y Done
      named h hs remain mine (inl q) =
          with_command y (Release r q.0) (IsDoneFor y) (job_says st past e text c j (here mine) ∙ ap (λ b. Ok b) q.1)
          (released q.0 (Release r q.0) q.1 refl (λ ends place. ends_it r g q.0 ends q.2 place) h hs remain mine)
      named h hs remain mine (inr q) =
          with_command y (ReleaseOrphan r) (IsDoneFor y) (job_says st past e text c j (here mine) ∙ ap (λ b. Ok b) q.0)
          (released no_process (ReleaseOrphan r) q.0 refl (λ ends place. ends_it r g no_process ends (eqb-true g.process no_process q.1) place) h hs remain mine)

      beside : Remains n s g v (carry_decision n c (GivesUp s g) v) → CausedBy y Done
      beside (Others_remain h hs remain replies) =
          let new : record { job = n; reply = Done } ≡ a = newest Done (subst (λ rs. Contains rs a) replies (inside_of (carry_decision n c (GivesUp s g) v) ended)) in
          named h hs remain (own Done new) u.releases
      beside (Turn_passes last shared paired over replies) =
          absurd (done_limit (ap (λ (b : JobReply). b.reply) (newest (LimitReached TurnLimit) (subst (λ rs. Contains rs a) replies (inside_of (carry_decision n c (GivesUp s g) v) ended))) ∙ done))
      beside (None_remains none) = absurd (not_before (none Done a (inside_of (carry_decision n c (GivesUp s g) v) ended) done))

    others : (d : Decision) → ((s : Session) (g : Grant) → d ≡ GivesUp s g → ⊥) → e.effects ≡ (finish (carry_decision n c d v)).effects → CausedBy y Done
    others d apart ended = absurd (not_before (others_done n c d v apart a (inside_of (carry_decision n c d v) ended) done))

    decision : (d : Decision) → decided x.setting (seen x) x.reading c ≡ d → e.effects ≡ (finish (carry_decision n c d v)).effects → CausedBy y Done
    decision (GivesUp s g) is ended = given s g is ended
    decision (Replies r) is ended = others (Replies r) (λ s g at. cc) ended
    decision (Joins i l) is ended = others (Joins i l) (λ s g at. cc) ended
    decision (Leaves t) is ended = others (Leaves t) (λ s g at. cc) ended
    decision (ReadsArea t r) is ended = others (ReadsArea t r) (λ s g at. cc) ended
    decision (Shares t lver) is ended = others (Shares t lver) (λ s g at. cc) ended
    decision (TakesOver t h) is ended = others (TakesOver t h) (λ s g at. cc) ended
    decision (ConvertsTo t r mode) is ended = others (ConvertsTo t r mode) (λ s g at. cc) ended
    decision (Requests t r) is ended = others (Requests t r) (λ s g at. cc) ended
    decision (SetsValue t at q) is ended = others (SetsValue t at q) (λ s g at. cc) ended
    decision (GetsValue t at) is ended = others (GetsValue t at) (λ s g at. cc) ended

    takes : LineTakes st past e text c x n → CausedBy y Done
    takes (At_once r is ended) = at_once r is (newest r (inside_of (answer_line text n r x) ended))
    takes (Carried d is more ended) = decision d is ended
