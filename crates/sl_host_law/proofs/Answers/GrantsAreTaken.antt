-- Lines that give or take a holding at once.
use Rattle.sl_host_law.proofs.Answers.LeasesAreCarried.{leases_are_carried}
use Rattle.sl_host_law.specs.Answers.LeaseDecisions.{MayCarryLease, carrying_lease, granting_for}
use Rattle.sl_host_law.specs.Decisions.CommandDecisions.{held_on}
use Rattle.sl_due.specs.DueCommands.{after_end, carry_decision, on_line}
use Rattle.sl_due.specs.CarriedLease.{carry_lease, grant_for}
use Rattle.sl_due.specs.Steps.{Step, add_reply, seen, with_input, with_some}
use Rattle.sl_due.specs.declared.decision.Decision.TheVariants.{ConvertsTo, GivesUp, Shares, TakesOver}
use Rattle.sl_due.specs.declared.decision.Decision.{Decision}
use Rattle.sl_host_law.proofs.SharedFacts.KeptJobs.{kept_numbered}
use Rattle.sl_host_law.proofs.SharedFacts.SessionNumbers.{numbered_below}
use Rattle.sl_host_state.proofs.EffectsAreTaken.{effects_are_taken}
use Rattle.sl_host_state.specs.HeardInputs.{heard_line, new_job}
use Rattle.sl_host_state.specs.KeptState.{Config, HostState, MemberState}
use Rattle.sl_host_state.specs.MadeEffects.{with_reply}
use Rattle.sl_host_state.specs.HostStands.{Stands}
use Rattle.sl_host_state.specs.declared.kept_parts.JobState.{JobState}
use Rattle.sl_trace.specs.LeaseDecisions.{LeasePlace, lease_place, within_turn}
use Rattle.sl_trace.specs.Conversions.{convert_next}
use Rattle.sl_trace.specs.Releases.{release_next}
use Rattle.sl_trace.specs.Leases.{LeaseKnown, holdings_on, known, spot_of}
use Rattle.sl_trace.specs.declared.lease.LeaseNext.TheVariants.{GrantJob}
use Rattle.sl_trace.specs.declared.lease.LeaseNext.{LeaseNext}
use Rattle.sl_host_law.proofs.StepParts.LinesAreTaken.{carried, heard, member_at}
use Rattle.sl_host_law.specs.Answers.Grants.{GrantsAreTaken, after_giving, ended, given_up}
use Rattle.sl_host_law.specs.StepParts.Lines.{HeardBy, LineComes}
use Rattle.sl_words.proofs.Lists.{any_of, find_inside}
use Rattle.sl_host_law.proofs.Questions.JobsAnswer.{jobs_answer}
use Rattle.sl_host_law.proofs.Questions.MembersAnswer.{members_answer}
use Rattle.sl_host_law.specs.Questions.Answers.{converting_in, place_in, releasing_in}
use Rattle.sl_host_law.specs.Questions.Jobs.{command_in, running_in}
use Rattle.sl_host_law.specs.Questions.Members.{IsMemberAt, MemberAnswers}
use Rattle.sl_host_law.proofs.Replies.RepliesAreTaken.RepliesKeepHosts.{replies_are_taken}
use Rattle.sl_host_law.specs.Replies.RepliesAreTaken.{MayReply, is_plain_line}
use Rattle.sl_trace.specs.declared.session.Session.{Session}
use Rattle.sl_trace.specs.Traces.{end_of, spot_of_grant}
use Rattle.sl_trace.specs.declared.command.Command.{Command}
use Rattle.sl_trace.specs.declared.command.ResourceArg.{ResourceArg}
use Rattle.sl_trace.specs.declared.effects.Grant.{Grant}
use Rattle.sl_trace.specs.declared.effects.Mode.TheVariants.{Shared}
use Rattle.sl_trace.specs.declared.effects.Mode.{Mode}
use Rattle.sl_trace.specs.declared.effects.Spot.{Spot}
use Rattle.sl_trace.specs.declared.effects.Work.TheVariants.{ForJob}
use Rattle.sl_trace.specs.declared.input.Input.TheVariants.{Line, Wake}
use Rattle.sl_trace.specs.declared.input.Input.{Input}
use Rattle.sl_trace.specs.declared.reply.Reply.TheVariants.{Done, Granted}
use Rattle.sl_trace.specs.declared.reply.Reply.{Reply}
use Rattle.sl_words.proofs.CaseLaws.{some_value}
use Rattle.sl_due_facts.specs.Acts.Acts.{next_of_conversion, next_of_release}
use Rattle.sl_trace.specs.declared.lease.Aim.TheVariants.{Converts, Releases}
use Rattle.std.proofs.Common.{ap, arith, inr, refl, subst, sym, ◌∙◌}
use Rattle.std.proofs.lemmas.Bool.Decides.{Decides-eqb}
use Rattle.std.proofs.lemmas.List.Folds.{find-append}
use Rattle.std.specs.List.{list_any}
use Rattle.std.specs.Option.{option_or}
use Rattle.std.specs.Prelude.{Bool, IsTrue, List, None, Ok, Option, Some, cond, false, find, option_and_then, true, [], ℕ, ◌++◌, ◌==◌, ◌∷◌, ◌≡◌, ◌||◌}

-- ---- the line's job

-- No job kept has the number of the next line.
none_yet : (h : HostState) (x : Step) → Stands Wake h x → find (λ j. j.number == h.next_job) h.jobs ≡ None
none_yet h x s = by (find (λ (j : JobState). j.number == h.next_job) h.jobs) refl where
  by : (o : Option JobState) → find (λ j. j.number == h.next_job) h.jobs ≡ o → o ≡ None
  by None is = refl
  by (Some j) is =
      let f = find_inside (λ (z : JobState). z.number == h.next_job) h.jobs j is in
      let below = numbered_below x.setting (seen x) h.next_job (kept_numbered h x.setting (seen x) h.next_job s.keeps (any_of (λ (z : JobState). z.number == h.next_job) h.jobs j f.1 f.0)) in
      let lines = s.keeps.lines in
      absurd (omega (arith, below, lines))

-- So the line's own command is that of its job.
command_of_line : (h : HostState) (x : Step) (c : Command) → Stands Wake h x → command_in (heard_line c h) h.next_job ≡ Some c
command_of_line h x c s =
    ap (option_and_then (λ (j : JobState). j.command))
    (find-append (λ (j : JobState). j.number == h.next_job) h.jobs (new_job h.next_job (Some c) ∷ [])
    ∙ ap (λ o. option_or o (cond (h.next_job == h.next_job) (Some (new_job h.next_job (Some c))) None)) (none_yet h x s)
    ∙ ap (λ b. cond b (Some (new_job h.next_job (Some c))) None) ((Decides-eqb h.next_job h.next_job).1 refl))

line_runs : (h : HostState) (c : Command) → running_in (heard_line c h) h.next_job ≡ true
line_runs h c = any_last h.jobs where
  or_right : (b : Bool) → (b || true) ≡ true
  or_right true = refl
  or_right false = refl

  any_last : (js : List JobState) → list_any (λ j. j.number == h.next_job) (js ++ new_job h.next_job (Some c) ∷ []) ≡ true
  any_last [] = ap (λ b. b || false) ((Decides-eqb h.next_job h.next_job).1 refl)
  any_last (j ∷ js) = ap (λ b. j.number == h.next_job || b) (any_last js) ∙ or_right (j.number == h.next_job)

-- It may be answered by its own line, where that does nothing by the reply.
may_reply : (h : HostState) (x y : Step) (text : List ℕ) (c : Command) (d : Decision) (r : Reply) → LineComes h x text c d → IsTrue (is_plain_line (Ok c)) → MayReply (Line text) (heard_line c h) y h.next_job r
may_reply h x y text c d r l plain = record { runs = line_runs h c; heed = tt; line = inr (ap is_plain_line l.says ∙ plain) }

-- ---- grants

grants : (i : Input) (a : HostState) (y : Step) (k : ℕ) (m : MemberState) (j : ℕ) (c : Command) (mode : Mode) (lver : ℕ) → IsMemberAt i a y k m → running_in a j ≡ true → command_in a j ≡ Some c
    → MayReply i a y j (Granted lver) → Stands i (granting_for m.who j c mode lver a) (grant_for m.who j c mode lver y)
unfolding carry_lease
grants i a y k m j c mode lver at runs command may =
    let nowhere : Spot = record { path = []; base = 0 } in
    subst (λ o. Stands i (elim o as (λ z. HostState) [ None ↦ a | Some e ↦ granting_for m.who j e mode lver a ]) (with_some o (λ e. grant_for m.who j e mode lver) y)) command
    (subst (λ o. Stands i (elim (command_in a j) as (λ z. HostState) [ None ↦ a | Some e ↦ granting_for m.who j e mode lver a ]) (with_some o (λ e. grant_for m.who j e mode lver) y)) ((jobs_answer i a y at.stands).command j runs)
    (leases_are_carried i a y k m nowhere (ForJob j) (GrantJob mode lver) at (λ n is. subst (λ z. MayReply i a y z (Granted lver)) (some_value j n is) may)))

shares : (h : HostState) (x : Step) (text : List ℕ) (c : Command) (s : Session) (lver : ℕ) (k : ℕ) (m : MemberState) → LineComes h x text c (Shares s lver) → HeardBy h c k m s
    → IsTrue (is_plain_line (Ok c)) → Stands (Line text) (granting_for m.who h.next_job c Shared lver (heard_line c h)) (on_line text x)
unfolding carry_decision
shares h x text c s lver k m l by plain =
    subst (λ z. Stands (Line text) (granting_for m.who h.next_job c Shared lver (heard_line c h)) z) (sym (carried h x text c (Shares s lver) l refl))
    (subst (λ t. Stands (Line text) (granting_for m.who h.next_job c Shared lver (heard_line c h)) (grant_for t h.next_job c Shared lver (with_input (Line text) x))) by.whose
    (grants (Line text) (heard_line c h) (with_input (Line text) x) k m h.next_job c Shared lver (member_at h x text c (Shares s lver) k m s l by) (line_runs h c) (command_of_line h x c l.stands)
    (may_reply h x (with_input (Line text) x) text c (Shares s lver) (Granted lver) l plain)))

-- ---- after a holding has ended

-- The member is there still.
still_there : (h : HostState) (x : Step) (text : List ℕ) (c : Command) (d : Decision) (g : Grant) (k : ℕ) (m : MemberState) (s : Session) → LineComes h x text c d → HeardBy h c k m s → h.made.grants ≡ []
    → IsMemberAt (Line text) (given_up h c g) (ended text g x) k m
still_there h x text c d g k m s l by none =
    record { stands = effects_are_taken.ended (end_of g) (heard_line c h) none (Line text) (with_input (Line text) x) (heard h x text c d l); there = by.there }

takes_over : (h : HostState) (x : Step) (text : List ℕ) (c : Command) (s : Session) (g : Grant) (k : ℕ) (m : MemberState) → LineComes h x text c (TakesOver s g) → HeardBy h c k m s
    → IsTrue (is_plain_line (Ok c)) → h.made.grants ≡ [] → Stands (Line text) (granting_for m.who h.next_job c g.mode g.lver (given_up h c g)) (on_line text x)
unfolding carry_decision
takes_over h x text c s g k m l by plain none =
    let may = may_reply h x (ended text g x) text c (TakesOver s g) (Granted g.lver) l plain in
    subst (λ z. Stands (Line text) (granting_for m.who h.next_job c g.mode g.lver (given_up h c g)) z) (sym (carried h x text c (TakesOver s g) l refl))
    (subst (λ t. Stands (Line text) (granting_for m.who h.next_job c g.mode g.lver (given_up h c g)) (grant_for t h.next_job c g.mode g.lver (ended text g x))) by.whose
    (grants (Line text) (given_up h c g) (ended text g x) k m h.next_job c g.mode g.lver (still_there h x text c (TakesOver s g) g k m s l by none) (line_runs h c) (command_of_line h x c l.stands)
    (record { runs = may.runs; heed = tt; line = may.line })))

-- Where the lease stands, by the configuration.
place_is : (i : Input) (a : HostState) (y : Step) (m : MemberState) → Stands i a y → lease_place y.setting m.who ≡ place_in a m
place_is i a y m s = ap (λ (g : Config). record { layout = g.layout; lockspace = m.who.lockspace }) s.keeps.config

gives_up : (h : HostState) (x : Step) (text : List ℕ) (c : Command) (s : Session) (g : Grant) (k : ℕ) (m : MemberState) (next : LeaseNext) → LineComes h x text c (GivesUp s g)
    → HeardBy h c k m s → IsTrue (is_plain_line (Ok c)) → h.made.grants ≡ []
    → releasing_in (given_up h c g) m (ended text g x) (spot_of_grant g) g.mode g.lver ≡ next
    → MayCarryLease (Line text) (given_up h c g) (ended text g x) m (spot_of_grant g) (ForJob h.next_job) next → Stands (Line text) (after_giving h c m g next) (on_line text x)
unfolding carry_decision after_end
gives_up h x text c s g k m next l by plain none is may =
    subst (λ z. Stands (Line text) (after_giving h c m g next) z) (sym (carried h x text c (GivesUp s g) l refl))
    (subst (λ (t : Session). Stands (Line text) (after_giving h c m g next) (then_done t (next_of_release (ended text g x).setting (seen (ended text g x)) t (spot_of_grant g) g)
    (holdings_on (seen (ended text g x)) t (spot_of_grant g)))) by.whose
    (subst (λ n. Stands (Line text) (after_giving h c m g next) (then_done m.who n (holdings_on (seen (ended text g x)) m.who (spot_of_grant g)))) (sym decides)
    (subst (λ gs. Stands (Line text) (after_giving h c m g next) (then_done m.who next gs)) (sym (says.held (spot_of_grant g))) (after (held_on (given_up h c g) m (spot_of_grant g)))))) where
      at : IsMemberAt (Line text) (given_up h c g) (ended text g x) k m
      at = still_there h x text c (GivesUp s g) g k m s l by none

      says : MemberAnswers (given_up h c g) (ended text g x) m
      says = members_answer (Line text) (given_up h c g) (ended text g x) k m at

      then_done : Session → LeaseNext → List Grant → Step
      then_done t n gs = elim gs [ e ∷ es ↦ add_reply h.next_job Done (ended text g x) | [] ↦ carry_lease t (spot_of_grant g) (ForJob h.next_job) n (ended text g x) ]

      decides : next_of_release (ended text g x).setting (seen (ended text g x)) m.who (spot_of_grant g) g ≡ next
      decides =
          ap (λ p. next_by p (known (ended text g x).setting (seen (ended text g x)) m.who (spot_of_grant g))) (place_is (Line text) (given_up h c g) (ended text g x) m at.stands)
          ∙ ap (next_by (place_in (given_up h c g) m)) (says.lease (spot_of_grant g)) ∙ is where
            next_by : LeasePlace → LeaseKnown → LeaseNext
            next_by p k = within_turn p k Releases (release_next p k g.mode g.lver)

      after : (gs : List Grant)
          → Stands (Line text) (elim gs as (λ z. HostState) [ e ∷ es ↦ with_reply h.next_job Done (given_up h c g) | [] ↦ carrying_lease m (spot_of_grant g) (ForJob h.next_job) next (given_up h c g) ]) (then_done m.who next gs)
      after [] = leases_are_carried (Line text) (given_up h c g) (ended text g x) k m (spot_of_grant g) (ForJob h.next_job) next at may
      after (e ∷ es) =
          let reply = may_reply h x (ended text g x) text c (GivesUp s g) Done l plain in
          replies_are_taken h.next_job Done (Line text) (given_up h c g) (ended text g x) at.stands (record { runs = reply.runs; heed = tt; line = reply.line })

converts : (h : HostState) (x : Step) (text : List ℕ) (c : Command) (s : Session) (r : ResourceArg) (mode : Mode) (k : ℕ) (m : MemberState) (next : LeaseNext)
    → LineComes h x text c (ConvertsTo s r mode) → HeardBy h c k m s
    → converting_in (heard_line c h) m (with_input (Line text) x) (spot_of r) mode r.name ≡ next
    → MayCarryLease (Line text) (heard_line c h) (with_input (Line text) x) m (spot_of r) (ForJob h.next_job) next
    → Stands (Line text) (carrying_lease m (spot_of r) (ForJob h.next_job) next (heard_line c h)) (on_line text x)
unfolding carry_decision
converts h x text c s r mode k m next l by is may =
    let y : Step = with_input (Line text) x in
    let at : IsMemberAt (Line text) (heard_line c h) y k m = member_at h x text c (ConvertsTo s r mode) k m s l by in
    let after : HostState = carrying_lease m (spot_of r) (ForJob h.next_job) next (heard_line c h) in
    subst (λ z. Stands (Line text) after z) (sym (carried h x text c (ConvertsTo s r mode) l refl))
    (subst (λ t. Stands (Line text) after (carry_lease t (spot_of r) (ForJob h.next_job) (next_of_conversion y.setting (seen y) t (spot_of r) mode r.name) y)) by.whose
    (subst (λ n. Stands (Line text) after (carry_lease m.who (spot_of r) (ForJob h.next_job) n y)) (sym (ap (λ p. next_by p (known y.setting (seen y) m.who (spot_of r))) (place_is (Line text) (heard_line c h) y m at.stands)
    ∙ ap (next_by (place_in (heard_line c h) m)) ((members_answer (Line text) (heard_line c h) y k m at).lease (spot_of r)) ∙ is))
    (leases_are_carried (Line text) (heard_line c h) y k m (spot_of r) (ForJob h.next_job) next at may))) where
      next_by : LeasePlace → LeaseKnown → LeaseNext
      next_by p k = within_turn p k (Converts mode) (convert_next k mode r.name)

pub grants_are_taken : GrantsAreTaken
grants_are_taken = record { shares = shares; takes_over = takes_over; gives_up = gives_up; converts = converts }
