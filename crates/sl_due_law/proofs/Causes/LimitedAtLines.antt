-- What a line is answered where the turn of its block would pass its limit: a conversion to shared, or where the last shared holding under a
-- lease is given up. So whatever a line is answered at once has its cause.
use Rattle.sl_due_facts.proofs.Acts.AddedAtEnd.{contains_last}
use Rattle.sl_due_facts.proofs.Acts.Pairs.Decisions.{conversion_is, writes_own_block}
use Rattle.sl_due_facts.proofs.Acts.TracesKeep.{due_is_seen}
use Rattle.sl_due.specs.DueCommands.{answer_line, carry_decision, decided}
use Rattle.sl_due.specs.DueRecovery.{signal_holders}
use Rattle.sl_due.specs.CarriedLease.{carry_lease, grant_for, grant_of}
use Rattle.sl_due.specs.DueWake.{finish}
use Rattle.sl_due.specs.Steps.{Step, add_end, add_grant, seen, with_input}
use Rattle.sl_due.specs.declared.decision.Decision.{Decision}
use Rattle.sl_due.specs.declared.decision.Decision.TheVariants.{ConvertsTo, GetsValue, GivesUp, Joins, Leaves, ReadsArea, Replies, Requests, SetsValue, Shares, TakesOver}
use Rattle.sl_due_facts.proofs.Jobs.JobsAreNumbered.{line_is}
use Rattle.sl_due_law.proofs.Causes.AnsweredJobs.{with_command, with_spot}
use Rattle.sl_due_law.proofs.Causes.AtOnceAreCaused.{Spares, at_once_but, first_input, is_turn_limit}
use Rattle.sl_due_law.proofs.Causes.CommandsHere.{CommandHere, GivenHere, given_here, held_here, job_at, job_says, session_here, turn_over}
use Rattle.sl_due_law.proofs.Causes.DoneAtLines.{misread_only}
use Rattle.sl_due_law.proofs.Causes.HeadsAreEarly.{last_is_silent}
use Rattle.sl_due_law.proofs.Causes.Leases.LeaseAnswers.{lockspace_of, turn_caused}
use Rattle.sl_due_law.proofs.Causes.LeavingsRefuse.{Refused, Says, refusals, says_other}
use Rattle.sl_due_law.proofs.Causes.LineComes.{At_once, Carried, LineComes, LineTakes, decided_first, line_comes, line_takes}
use Rattle.sl_due_law.proofs.Causes.LinesAreWell.{lines_are_well}
use Rattle.sl_due_law.proofs.Causes.NamesBefore.{with_session}
use Rattle.sl_due_law.proofs.Causes.ReleasedAtLines.{None_remains, Others_remain, Remains, Turn_passes, given_up}
use Rattle.sl_due_law.specs.Causes.LineCauses.{AtOnceAreCaused, LimitedAtLines, at_its_line}
use Rattle.sl_due_leases.proofs.Holdings.DecisionsHaveGrounds.{decisions_have_grounds}
use Rattle.sl_due_leases.proofs.Holdings.LeaseConversions.{spot_is}
use Rattle.sl_due_leases.specs.Holdings.DecisionGrounds.{ConvertGrounds, GiveUpGrounds, HasGrounds, IsReady, Releases}
use Rattle.sl_run.specs.Caused.{Answering, BlockIsNext, CausedBy, EndsLastShared, HeldBefore, WithSpot, after_entry, before_entry}
use Rattle.sl_words.proofs.Lists.{kept_inside}
use Rattle.sl_sector.specs.declared.sector.Block.{Block}
use Rattle.sl_trace.specs.Ballots.{moded_block}
use Rattle.sl_trace.specs.Jobs.{resource_named, wanted_mode}
use Rattle.sl_trace.specs.Conversions.{convert_next}
use Rattle.sl_trace.specs.Leases.{LeaseKnown, holdings_on, known, spot_of}
use Rattle.sl_trace.specs.Sessions.{holdings_of}
use Rattle.sl_trace.specs.Traces.{Job, Setting, end_of, is_before_input, is_shared, job_numbered, next_job, same_place, spot_of_grant}
use Rattle.sl_trace.specs.declared.command.Command.{Command}
use Rattle.sl_trace.specs.declared.command.Command.TheVariants.{Acquire, Convert, Release, ReleaseOrphan, RunProgram, TakeOver}
use Rattle.sl_trace.specs.declared.command.ResourceArg.{ResourceArg}
use Rattle.sl_trace.specs.declared.effects.Effects.{Effects}
use Rattle.sl_trace.specs.declared.effects.Grant.{Grant}
use Rattle.sl_trace.specs.declared.effects.JobReply.{JobReply}
use Rattle.sl_trace.specs.declared.effects.LeaseStep.TheVariants.{SetMode}
use Rattle.sl_trace.specs.declared.effects.Mode.{Mode}
use Rattle.sl_trace.specs.declared.effects.Mode.TheVariants.{Exclusive, Shared}
use Rattle.sl_trace.specs.declared.effects.Signal.TheVariants.{Term}
use Rattle.sl_trace.specs.declared.effects.Spot.{Spot}
use Rattle.sl_trace.specs.declared.effects.Work.TheVariants.{ForJob}
use Rattle.sl_trace.specs.declared.input.Input.TheVariants.{Line}
use Rattle.sl_trace.specs.declared.lease.LeaseNext.TheVariants.{Nothing, WriteBlock}
use Rattle.sl_trace.specs.declared.reply.Limited.TheVariants.{Turn as TurnLimit}
use Rattle.sl_trace.specs.declared.reply.Reply.{Reply}
use Rattle.sl_trace.specs.declared.reply.Reply.TheVariants.{BadCommand as Misread, Done, Granted, Limit as LimitReached, Recovering}
use Rattle.sl_trace.specs.declared.session.Session.{Session}
use Rattle.sl_words.proofs.CaseLaws.{false_is_true, one_value, true_is_false}
use Rattle.sl_words.specs.Bounds.{is_number}
use Rattle.std.proofs.Common.{ap, inl, inr, refl, subst, sym, ◌∙◌}
use Rattle.std.specs.Option.{option_map_or}
use Rattle.std.specs.Prelude.{Bool, Contains, Err, IsTrue, List, None, Ok, Option, Result, Some, [], false, length, true, ℕ, ◌++◌, ◌+◌, ◌∷◌, ◌≡◌, ◌⊎◌}

-- ---- what other commands answer

abbrev limited : Reply
limited = LimitReached TurnLimit

limit_is : (r : Reply) → is_turn_limit r ≡ true → r ≡ limited
limit_is (LimitReached TurnLimit) is = refl
limit_is r is = absurd (false_is_true is)

limit_misread : (n : ℕ) → Misread n ≡ limited → ⊥
limit_misread n is = cc

limit_stop : (t : ℕ) → Recovering t ≡ limited → ⊥
limit_stop t is = cc

limit_granted : (m : ℕ) → Granted m ≡ limited → ⊥
limit_granted m is = cc

limit_done : Done ≡ limited → ⊥
limit_done is = cc

granting_limit : (s : Session) (n : ℕ) (c : Command) (mode : Mode) (lver : ℕ) (w y : Step) → Spares (Says limited) w y → Spares (Says limited) w (grant_for s n c mode lver y)
granting_limit s n (Acquire r shared p persistent) mode lver w y h = says_other limited w (add_grant (grant_of s r p mode lver persistent) y) n (Granted lver) (limit_granted lver) h
granting_limit s n (TakeOver r shared p persistent) mode lver w y h = says_other limited w (add_grant (grant_of s r p mode lver persistent) y) n (Granted lver) (limit_granted lver) h
granting_limit s n (RunProgram r shared path) mode lver w y h = h
granting_limit s n c mode lver w y h = h

-- All but what gives a holding up, or converts one.
others_limit : (n : ℕ) (c : Command) (d : Decision) (w : Step) → ((s : Session) (g : Grant) → d ≡ GivesUp s g → ⊥) → ((s : Session) (r : ResourceArg) (mode : Mode) → d ≡ ConvertsTo s r mode → ⊥)
    → Spares (Says limited) w (carry_decision n c d w)
unfolding carry_decision
others_limit n c (Replies r) w gives converts = λ a there is. there
others_limit n c (Joins i l) w gives converts = λ a there is. there
others_limit n c (Leaves s) w gives converts = λ q there is. by q is (refusals n s w q there) where
  by : (q : JobReply) → q.reply ≡ limited → Contains w.effects.replies q ⊎ Refused (signal_holders Term s w) s q → Contains w.effects.replies q
  by q is (inl old) = old
  by q is (inr r) = absurd (limit_stop _ (r.reply ∙ is))
others_limit n c (ReadsArea s r) w gives converts = λ a there is. there
others_limit n c (Shares s lver) w gives converts = granting_limit s n c Shared lver w w (λ a there is. there)
others_limit n c (GivesUp s g) w gives converts = absurd (gives s g refl)
others_limit n c (TakesOver s g) w gives converts = granting_limit s n c g.mode g.lver w (add_end (end_of g) w) (λ a there is. there)
others_limit n c (ConvertsTo s r mode) w gives converts = absurd (converts s r mode refl)
others_limit n c (Requests s r) w gives converts = λ a there is. there
others_limit n c (SetsValue s at v) w gives converts = λ a there is. there
others_limit n c (GetsValue s at) w gives converts = λ a there is. there

-- ---- a conversion

-- What a conversion answers, if anything: that the turn of the block with the shared mode would pass its limit.
data Converted (n : ℕ) (s : Session) (r : ResourceArg) (mode : Mode) (w z : Step) : Type 0 where
  Goes_on : Spares (Says limited) w z → Converted n s r mode w z
  Stops : mode ≡ Shared → w.setting.layout.paired ≡ true → is_number ((known w.setting (seen w) s (spot_of r)).turn + 1) ≡ false → z.effects.replies ≡ w.effects.replies ++ record { job = n; reply = limited } ∷ [] →
      Converted n s r mode w z

goes_by : (s : Session) (at : Spot) (n : ℕ) (mode : Mode) (name : List ℕ) (k : LeaseKnown) (w : Step) → Spares (Says limited) w (carry_lease s at (ForJob n) (convert_next k mode name) w)
unfolding carry_lease
goes_by s at n Exclusive name k w = λ a there is. there
goes_by s at n Shared name k w = by k.own where
  by : (o : Option Block) → Spares (Says limited) w (carry_lease s at (ForJob n) (option_map_or (λ own. WriteBlock SetMode (moded_block own true k.self.generation)) o Nothing) w)
  by None = λ a there is. there
  by (Some own) = λ a there is. there

converted : (n : ℕ) (c : Command) (s : Session) (r : ResourceArg) (mode : Mode) (w : Step) → Converted n s r mode w (carry_decision n c (ConvertsTo s r mode) w)
unfolding carry_decision carry_lease
converted n c s r mode w =
    conversion_is (λ z. Converted n s r mode w (carry_lease s (spot_of r) (ForJob n) z w)) w.setting (seen w) s (spot_of r) mode r.name
    (λ fits. Goes_on (goes_by s (spot_of r) n mode r.name (known w.setting (seen w) s (spot_of r)) w)) (λ paired over writes. Stops (shows mode writes) paired over refl) where
      shows : (mode : Mode) → writes_own_block (convert_next (known w.setting (seen w) s (spot_of r)) mode r.name) ≡ true → mode ≡ Shared
      shows Exclusive writes = absurd (false_is_true writes)
      shows Shared writes = refl

-- Who is to convert to shared asks so.
asks_shared : (r : ResourceArg) (b : Bool) (p : ℕ) → wanted_mode (Convert r b p) ≡ Shared → b ≡ true
asks_shared r true p is = refl
asks_shared r false p is = absurd (apart is) where
  apart : Exclusive ≡ Shared → ⊥
  apart same = cc

-- ---- in an entry that is due

pub limited_at_lines : LimitedAtLines
limited_at_lines st past e text a j w due_so line there says_limit found = by (st.read text) refl where
  y : Answering
  y = at_its_line st past e j

  made : Job
  made = record { number = next_job st past; at = length past; reading = e.reading; command = st.read text }

  same : a.job ≡ next_job st past → made ≡ j
  same own =
      one_value made j (job_numbered st (e ∷ past) (next_job st past))
      (ap (λ i. job_numbered st (record { reading = e.reading; input = i; effects = e.effects } ∷ past) (next_job st past)) line ∙ line_is st past e.reading text e.effects)
      (ap (λ i. job_numbered st (e ∷ past) i) (sym own) ∙ found)

  by : (o : Result Command ℕ) → st.read text ≡ o → CausedBy y limited
  by (Err column) says = absurd (misread_only st past e text column a limited w due_so line there says_limit refl (λ n. limit_misread n) says)
  by (Ok c) says = takes (line_takes st past e text c k) where
    k : LineComes st past e text c
    k = line_comes st past e text c w due_so line says

    x : Step
    x = k.first

    n : ℕ
    n = next_job x.setting (seen x)

    v : Step
    v = with_input (Line text) x

    here : a.job ≡ next_job st past → CommandHere st past e text c j
    here mine = record { whole = w; first = k.first; head = k.head; line = line; says = says; own = same mine }

    not_before : Contains x.effects.replies a → ⊥
    not_before old = true_is_false (sym (k.head.replies a old) ∙ ap (λ q. is_before_input q) says_limit)

    inside_of : (z : Step) → e.effects ≡ (finish z).effects → Contains z.effects.replies a
    inside_of z is = subst (λ rs. Contains rs a) (ap (λ (f : Effects). f.replies) is ∙ (last_is_silent z).replies) there

    newest : (r : Reply) → Contains (x.effects.replies ++ record { job = n; reply = r } ∷ []) a → record { job = n; reply = r } ≡ a
    newest r inside = elim (contains_last x.effects.replies (record { job = n; reply = r }) a inside) [ inl old ↦ absurd (not_before old) | inr new ↦ new ]

    own : (r : Reply) → record { job = n; reply = r } ≡ a → a.job ≡ next_job st past
    own r new = sym (ap (λ (b : JobReply). b.job) new) ∙ k.number

    said : (r : Reply) → record { job = n; reply = r } ≡ a → r ≡ limited
    said r new = ap (λ (b : JobReply). b.reply) new ∙ says_limit

    at_once : (r : Reply) → decided x.setting (seen x) x.reading c ≡ Replies r → record { job = n; reply = r } ≡ a → CausedBy y limited
    at_once r is new =
        subst (λ q. CausedBy y q) (said r new)
        (lines_are_well st past e text c r j w due_so line says (decided_first st past e text c k r is) (ap (λ i. job_numbered st (e ∷ past) i) (sym (own r new)) ∙ found))

    -- the block is next, and its turn is over the limit
    stops : (s : Session) (r : ResourceArg) (z : Step) → a.job ≡ next_job st past → resource_named c ≡ Some r → z.setting ≡ x.setting → z.past ≡ x.past → z.input ≡ Line text → x.setting.layout.paired ≡ true
        → is_number ((known z.setting (seen z) s (spot_of r)).turn + 1) ≡ false → IsReady x.setting (seen x) s r → BlockIsNext y → CausedBy y limited
    stops s r z mine names setting before input paired over ready next =
        turn_caused y s c r (job_says st past e text c j (here mine)) names
        (session_here st past e text c j (here mine) s r (lockspace_of c r names) ready)
        (ap (λ (q : Setting). q.layout.paired) (sym k.head.setting) ∙ paired)
        next (turn_over st past e text z line (setting ∙ k.head.setting) (before ∙ k.head.before) input s (spot_of r) over)

    given : (s : Session) (g : Grant) → decided x.setting (seen x) x.reading c ≡ GivesUp s g → e.effects ≡ (finish (carry_decision n c (GivesUp s g) v)).effects → CausedBy y limited
    given s g is ended = beside (given_up n c s g v).remains where
      u : GiveUpGrounds x.setting (seen x) c s g
      u = subst (λ q. HasGrounds x.setting (seen x) c q) is (decisions_have_grounds x.setting (seen x) x.reading c)

      r : ResourceArg
      r = u.resource

      names : Releases c r g → resource_named c ≡ Some r
      names (inl q) = ap (λ b. resource_named b) q.1
      names (inr q) = ap (λ b. resource_named b) q.0

      releases : Command → Type 0
      releases b = ((r : ResourceArg) × (p : ℕ) × (b ≡ Release r p)) ⊎ ((r : ResourceArg) × (b ≡ ReleaseOrphan r))

      asked : Releases c r g → releases c
      asked (inl q) = inl (r, q.0, q.1)
      asked (inr q) = inr (r, q.0)

      place : spot_of_grant g ≡ spot_of r
      place = spot_is g (spot_of r) (kept_inside (λ (h : Grant). same_place h.path h.offset r.path r.offset) (holdings_of (seen x) s) g u.held).1

      passes : a.job ≡ next_job st past → holdings_on (seen (add_end (end_of g) v)) s (spot_of_grant g) ≡ [] → is_shared g.mode ≡ true → x.setting.layout.paired ≡ true
          → is_number ((known v.setting (seen (add_end (end_of g) v)) s (spot_of_grant g)).turn + 1) ≡ false → CausedBy y limited
      passes mine last shared paired over =
          stops s r (add_end (end_of g) v) mine (names u.releases) refl refl refl paired
          (subst (λ at. is_number ((known v.setting (seen (add_end (end_of g) v)) s at).turn + 1) ≡ false) place over) u.ready
          (inr (inr (inr (
            job_at st past e text c j (here mine),
            inr (with_command y c (λ a. releases a) (job_says st past e text c j (here mine)) (asked u.releases), ends_shared),
          ))))
        where
          f : GivenHere st past e text j x s r g
          f = given_here st past e text c j (here mine) s g u (lockspace_of c r (names u.releases)) ended

          held : HeldBefore y r (λ g. IsTrue (is_shared g.mode))
          held =
              with_session y s (λ s. (g : Grant) × Contains (holdings_on (before_entry y) s (spot_of r)) g × IsTrue (is_shared g.mode)) f.session
              (g, held_here st past e text c j (here mine) s (spot_of r) g u.held, shared)

          ends_shared : EndsLastShared y
          ends_shared =
              with_session y s (λ s. WithSpot y (λ r at. HeldBefore y r (λ g. IsTrue (is_shared g.mode)) × (holdings_on (after_entry y) s at ≡ []))) f.session
              (with_spot y c r (λ r at. HeldBefore y r (λ g. IsTrue (is_shared g.mode)) × (holdings_on (after_entry y) s at ≡ [])) (job_says st past e text c j (here mine)) (names u.releases)
              (held, sym f.left ∙ last))

      beside : Remains n s g v (carry_decision n c (GivesUp s g) v) → CausedBy y limited
      beside (Others_remain h hs remain replies) = absurd (limit_done (said Done (newest Done (subst (λ rs. Contains rs a) replies (inside_of (carry_decision n c (GivesUp s g) v) ended)))))
      beside (Turn_passes last shared paired over replies) =
          passes (own limited (newest limited (subst (λ rs. Contains rs a) replies (inside_of (carry_decision n c (GivesUp s g) v) ended)))) last shared paired over
      beside (None_remains none) = absurd (not_before (none limited a (inside_of (carry_decision n c (GivesUp s g) v) ended) says_limit))

    converts : (s : Session) (r : ResourceArg) (mode : Mode) → decided x.setting (seen x) x.reading c ≡ ConvertsTo s r mode → e.effects ≡ (finish (carry_decision n c (ConvertsTo s r mode) v)).effects → CausedBy y limited
    converts s r mode is ended = beside (converted n c s r mode v) where
      u : ConvertGrounds x.setting (seen x) c s r mode
      u = subst (λ q. HasGrounds x.setting (seen x) c q) is (decisions_have_grounds x.setting (seen x) x.reading c)

      to_shared : mode ≡ Shared → c ≡ Convert r true u.process
      to_shared wants =
          u.command ∙ ap (λ b. Convert r b u.process) (asks_shared r u.shared u.process (ap (λ b. wanted_mode b) (sym u.command) ∙ (sym u.wanted ∙ wants)))

      beside : Converted n s r mode v (carry_decision n c (ConvertsTo s r mode) v) → CausedBy y limited
      beside (Goes_on none) = absurd (not_before (none a (inside_of (carry_decision n c (ConvertsTo s r mode) v) ended) says_limit))
      beside (Stops wants paired over replies) =
          let mine : a.job ≡ next_job st past = own limited (newest limited (subst (λ rs. Contains rs a) replies (inside_of (carry_decision n c (ConvertsTo s r mode) v) ended))) in
          stops s r v mine (ap (λ b. resource_named b) u.command) refl refl refl paired over u.ready
          (inr (inr (inr (
            job_at st past e text c j (here mine),
            inl (with_command y c (λ a. (r : ResourceArg) × (p : ℕ) × (a ≡ Convert r true p)) (job_says st past e text c j (here mine)) (r, u.process, to_shared wants)),
          ))))

    others : (d : Decision) → ((s : Session) (g : Grant) → d ≡ GivesUp s g → ⊥) → ((s : Session) (r : ResourceArg) (mode : Mode) → d ≡ ConvertsTo s r mode → ⊥) → e.effects ≡ (finish (carry_decision n c d v)).effects → CausedBy y limited
    others d gives turns ended = absurd (not_before (others_limit n c d v gives turns a (inside_of (carry_decision n c d v) ended) says_limit))

    decision : (d : Decision) → decided x.setting (seen x) x.reading c ≡ d → e.effects ≡ (finish (carry_decision n c d v)).effects → CausedBy y limited
    decision (GivesUp s g) is ended = given s g is ended
    decision (ConvertsTo t r mode) is ended = converts t r mode is ended
    decision (Replies r) is ended = others (Replies r) (λ s g at. cc) (λ s q mode at. cc) ended
    decision (Joins i l) is ended = others (Joins i l) (λ s g at. cc) (λ s q mode at. cc) ended
    decision (Leaves t) is ended = others (Leaves t) (λ s g at. cc) (λ s q mode at. cc) ended
    decision (ReadsArea t r) is ended = others (ReadsArea t r) (λ s g at. cc) (λ s q mode at. cc) ended
    decision (Shares t lver) is ended = others (Shares t lver) (λ s g at. cc) (λ s q mode at. cc) ended
    decision (TakesOver t h) is ended = others (TakesOver t h) (λ s g at. cc) (λ s q mode at. cc) ended
    decision (Requests t r) is ended = others (Requests t r) (λ s g at. cc) (λ s q mode at. cc) ended
    decision (SetsValue t at q) is ended = others (SetsValue t at q) (λ s g at. cc) (λ s q mode at. cc) ended
    decision (GetsValue t at) is ended = others (GetsValue t at) (λ s g at. cc) (λ s q mode at. cc) ended

    takes : LineTakes st past e text c x n → CausedBy y limited
    takes (At_once r is ended) = at_once r is (newest r (inside_of (answer_line text n r x) ended))
    takes (Carried d is more ended) = decision d is ended

pub at_once_are_caused : AtOnceAreCaused
at_once_are_caused st past e a j w due_so there o found = by (is_turn_limit a.reply) refl where
  line : e.input ≡ Line o.text
  line = sym (ap (λ t. first_input t) (due_is_seen st past e due_so)) ∙ o.line

  by : (b : Bool) → is_turn_limit a.reply ≡ b → CausedBy (at_its_line st past e j) a.reply
  by false other = at_once_but st past e a j w due_so there o found other
  by true is =
      subst (λ r. CausedBy (at_its_line st past e j) r) (sym (limit_is a.reply is)) (limited_at_lines st past e o.text a j w due_so line there (limit_is a.reply is) found)
