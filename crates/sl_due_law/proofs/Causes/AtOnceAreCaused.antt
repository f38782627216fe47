-- Whatever an entry that is due gives at once to its own line has its cause: a command that is carried out answers its own job only where it
-- grants or ends something.
use Rattle.sl_due_facts.proofs.Acts.AddedAtEnd.{contains_last}
use Rattle.sl_due_facts.proofs.Acts.LoopsKeep.{for_each_keeps}
use Rattle.sl_due_facts.proofs.Acts.Pairs.Decisions.{conversion_is, release_is}
use Rattle.sl_due_facts.proofs.Acts.StepsKeep.{Fixed, due_is_of}
use Rattle.sl_due_facts.proofs.Acts.TracesKeep.{due_is_seen}
use Rattle.sl_due_law.proofs.Causes.HeadsAreEarly.{heads_are_early, last_is_silent}
use Rattle.sl_due_law.proofs.Causes.LinesAreWell.{line_done, lines_are_well}
use Rattle.sl_due_facts.specs.Facts.AllFacts.{WholeTrace}
use Rattle.sl_due_law.specs.Causes.CausedSoFar.{IsAtOnce}
use Rattle.sl_due_law.specs.Causes.LineCauses.{IsBeforeInput, at_its_line}
use Rattle.sl_due.specs.Due.{IsDue, before_input, due_step}
use Rattle.sl_due.specs.DueCommands.{after_end, answer_line, carry_command, carry_decision, carry_line, decided, on_line, reply_at_once}
use Rattle.sl_due.specs.DueRecovery.{send, signal_and_refuse, signal_holders}
use Rattle.sl_due.specs.CarriedLease.{carry_lease, grant_for}
use Rattle.sl_due.specs.DueWake.{finish}
use Rattle.sl_due.specs.Steps.{Step, add_end, add_reply, add_signal, add_start, begin_step, seen, with_input}
use Rattle.sl_due.specs.declared.decision.Decision.TheVariants.{ConvertsTo, GetsValue, GivesUp, Joins, Leaves, ReadsArea, Replies, Requests, SetsValue, Shares, TakesOver}
use Rattle.sl_due.specs.declared.decision.Decision.{Decision}
use Rattle.sl_due_facts.proofs.Jobs.JobsAreNumbered.{next_before}
use Rattle.sl_run.specs.Caused.{CausedBy}
use Rattle.sl_trace.specs.KillPrograms.{stopper_of}
use Rattle.sl_trace.specs.Jobs.{jobs_of_session}
use Rattle.sl_trace.specs.LeaseDecisions.{LeasePlace, lease_place}
use Rattle.sl_trace.specs.Conversions.{convert_next}
use Rattle.sl_trace.specs.Releases.{release_next}
use Rattle.sl_trace.specs.Ballots.{moded_block}
use Rattle.sl_trace.specs.Leases.{LeaseKnown, holdings_on, known, spot_of}
use Rattle.sl_trace.specs.declared.lease.LeaseNext.TheVariants.{Nothing, WriteBlock}
use Rattle.sl_words.proofs.Lists.{kept_inside}
use Rattle.sl_words.proofs.Numbers.{number_itself}
use Rattle.sl_sector.specs.declared.sector.Block.{Block}
use Rattle.sl_trace.specs.Sessions.{holders_of, last_renewal}
use Rattle.sl_trace.specs.declared.session.Session.{Session}
use Rattle.sl_trace.specs.Traces.{Job, Setting, Trace, end_of, job_numbered, next_child, next_job, no_effects, spot_of_grant}
use Rattle.sl_trace.specs.declared.command.Command.TheVariants.{Acquire, RunProgram, TakeOver}
use Rattle.sl_trace.specs.declared.command.Command.{Command}
use Rattle.sl_trace.specs.declared.effects.Effects.{Effects}
use Rattle.sl_trace.specs.declared.effects.Entry.{Entry}
use Rattle.sl_trace.specs.declared.effects.Grant.{Grant}
use Rattle.sl_trace.specs.declared.effects.JobReply.{JobReply}
use Rattle.sl_trace.specs.declared.effects.LeaseStep.TheVariants.{ClearMode, SetMode}
use Rattle.sl_trace.specs.declared.effects.Mode.TheVariants.{Exclusive, Shared}
use Rattle.sl_trace.specs.declared.effects.Mode.{Mode}
use Rattle.sl_trace.specs.declared.effects.Spot.{Spot}
use Rattle.sl_trace.specs.declared.effects.Signal.TheVariants.{Term}
use Rattle.sl_trace.specs.declared.effects.Work.TheVariants.{ForJob}
use Rattle.sl_trace.specs.declared.input.Input.TheVariants.{Line, Wake}
use Rattle.sl_trace.specs.declared.input.Input.{Input}
use Rattle.sl_trace.specs.declared.reply.Limited.TheVariants.{Turn as TurnLimit}
use Rattle.sl_trace.specs.declared.reply.Reply.TheVariants.{Done, Limit as LimitReached, Recovering}
use Rattle.sl_trace.specs.declared.reply.Reply.{Reply}
use Rattle.sl_words.proofs.CaseLaws.{none_some, some_value, true_is_false}
use Rattle.sl_words.specs.Results.{◌>>=◌}
use Rattle.sl_words.specs.Words.{some_is}
use Rattle.sl_due_facts.specs.Acts.Acts.{next_of_conversion, next_of_release}
use Rattle.std.proofs.Common.{ap, arith, inl, inr, refl, subst, sym, ◌∙◌}
use Rattle.std.specs.Option.{option_map_or}
use Rattle.std.specs.Prelude.{Bool, Contains, List, None, Ok, Option, Result, Some, [], false, filter, not, true, ℕ, ◌++◌, ◌<◌, ◌==◌, ◌∷◌, ◌≡◌, ◌⊎◌}

-- ---- what a command does that is carried out

-- It has given no reply of this kind.
abbrev pub Spares : (JobReply → Type 0) → Step → Step → Type 0
Spares P w y = (a : JobReply) → Contains y.effects.replies a → P a → Contains w.effects.replies a

abbrev pub OfJob : ℕ → JobReply → Type 0
OfJob n a = a.job ≡ n

-- Whether a reply says that a turn would pass its limit.
abbrev pub is_turn_limit : Reply → Bool
is_turn_limit (LimitReached TurnLimit) = true
is_turn_limit r = false

-- A reply to the job that doesn't say so.
abbrev pub OfJobBut : ℕ → JobReply → Type 0
OfJobBut n a = (a.job ≡ n) × (is_turn_limit a.reply ≡ false)

-- It has granted or ended something.
abbrev Acted : Step → Type 0
Acted y = y.effects.grants ≡ [] → y.effects.ends ≡ [] → ⊥

grown : {A : Type 0} (xs : List A) (x : A) → xs ++ x ∷ [] ≡ [] → ⊥
grown [] x is = cc
grown (y ∷ ys) x is = cc

pub told : (P : JobReply → Type 0) (w y : Step) (p : ℕ) → Spares P w y → Spares P w (send p Term y)
told P w y p h = by (stopper_of y.setting (seen y) p) where
  by : (o : Option (List ℕ))
      → Spares P w (elim o as (λ z. Step) [
        | None ↦ add_signal p Term y
        | Some program ↦ add_start (record { process = next_child (seen y); program = program; job = None; stands_for = Some p }) y
      ])
  by None = h
  by (Some program) = h

abbrev pub not_kept : Option ℕ → Job → Bool
not_kept kept j = not (some_is (λ n. n == j.number) kept)

-- A leaving refuses others.
pub leaving : (n : ℕ) (s : Session) (w : Step) → Spares (OfJob n) w (signal_and_refuse s (Some n) w)
unfolding signal_and_refuse
leaving n s w =
    let z : Step = signal_holders Term s w in
    for_each_keeps (Spares (OfJob n) w) (filter (not_kept (Some n)) (jobs_of_session z.setting (seen z) s)) (λ j. add_reply j.number (Recovering (last_renewal z.setting (seen z) s))) z
    (λ j there y h. other y j.number (Recovering (last_renewal z.setting (seen z) s)) (apart j (kept_inside (not_kept (Some n)) (jobs_of_session z.setting (seen z) s) j there).1) h)
    (for_each_keeps (Spares (OfJob n) w) (holders_of (seen w) s) (λ p. send p Term) w (λ p there y h. told (OfJob n) w y p h) (λ a there is. there)) where
      apart : (j : Job) → not (n == j.number) ≡ true → j.number ≡ n → ⊥
      apart j other is = true_is_false (sym other ∙ ap (λ b. not b) (ap (λ k. n == k) is ∙ number_itself n))

      other : (y : Step) (j : ℕ) (r : Reply) → (j ≡ n → ⊥) → Spares (OfJob n) w y → Spares (OfJob n) w (add_reply j r y)
      other y j r not_it h a there is = by (contains_last y.effects.replies (record { job = j; reply = r }) a there) where
        by : Contains y.effects.replies a ⊎ (record { job = j; reply = r } ≡ a) → Contains w.effects.replies a
        by (inl old) = h a old is
        by (inr new) = absurd (not_it (ap (λ (b : JobReply). b.job) new ∙ is))

granting : (s : Session) (n : ℕ) (c : Command) (mode : Mode) (lver : ℕ) (w : Step) → Spares (OfJobBut n) w (grant_for s n c mode lver w) ⊎ Acted (grant_for s n c mode lver w)
granting s n (Acquire r shared p persistent) mode lver w = inr (λ none ends. grown w.effects.grants _ none)
granting s n (TakeOver r shared p persistent) mode lver w = inr (λ none ends. grown w.effects.grants _ none)
granting s n (RunProgram r shared path) mode lver w = inr (λ none ends. grown w.effects.grants _ none)
granting s n c mode lver w = inl (λ a there is. there)

-- What has ended something stays so.
acted_granting : (s : Session) (n : ℕ) (c : Command) (mode : Mode) (lver : ℕ) (w : Step) (g : Grant) → Acted (grant_for s n c mode lver (add_end (end_of g) w))
acted_granting s n (Acquire r shared p persistent) mode lver w g = λ grants none. grown w.effects.ends (end_of g) none
acted_granting s n (TakeOver r shared p persistent) mode lver w g = λ grants none. grown w.effects.ends (end_of g) none
acted_granting s n (RunProgram r shared path) mode lver w g = λ grants none. grown w.effects.ends (end_of g) none
acted_granting s n c mode lver w g = λ grants none. grown w.effects.ends (end_of g) none

acted_releasing : (s : Session) (at : Spot) (n : ℕ) (mode : Mode) (lver : ℕ) (p : LeasePlace) (k : LeaseKnown) (y : Step) → Acted y → Acted (carry_lease s at (ForJob n) (release_next p k mode lver) y)
unfolding carry_lease
acted_releasing s at n Exclusive lver p k y h = h
acted_releasing s at n Shared lver p k y h = by k.own where
  by : (o : Option Block) → Acted (carry_lease s at (ForJob n) (option_map_or (λ own. WriteBlock ClearMode (moded_block own false 0)) o Nothing) y)
  by None = h
  by (Some own) = h

acted_ending : (s : Session) (at : Spot) (n : ℕ) (g : Grant) (y : Step) → Acted y → Acted (after_end s at n g y)
unfolding after_end carry_lease
acted_ending s at n g y h = by (holdings_on (seen y) s at) where
  by : (hs : List Grant) → Acted (elim hs as (λ z. Step) [ k ∷ ks ↦ add_reply n Done y | [] ↦ carry_lease s at (ForJob n) (next_of_release y.setting (seen y) s at g) y ])
  by [] =
      release_is (λ z. Acted (carry_lease s at (ForJob n) z y)) y.setting (seen y) s at g
      (λ fits. acted_releasing s at n g.mode g.lver (lease_place y.setting s) (known y.setting (seen y) s at) y h) (λ paired over writes. h)
  by (k ∷ ks) = h

converting_by : (P : JobReply → Type 0) (s : Session) (at : Spot) (n : ℕ) (mode : Mode) (name : List ℕ) (k : LeaseKnown) (w : Step) → Spares P w (carry_lease s at (ForJob n) (convert_next k mode name) w)
unfolding carry_lease
converting_by P s at n Exclusive name k w = λ a there is. there
converting_by P s at n Shared name k w = by k.own where
  by : (o : Option Block) → Spares P w (carry_lease s at (ForJob n) (option_map_or (λ own. WriteBlock SetMode (moded_block own true k.self.generation)) o Nothing) w)
  by None = λ a there is. there
  by (Some own) = λ a there is. there

-- A conversion whose turn would pass its limit is refused, and nothing else is said.
pub converting : (P : JobReply → Type 0) (s : Session) (at : Spot) (n : ℕ) (mode : Mode) (name : List ℕ) (w : Step) → (P (record { job = n; reply = LimitReached TurnLimit }) → ⊥)
    → Spares P w (carry_lease s at (ForJob n) (next_of_conversion w.setting (seen w) s at mode name) w)
unfolding carry_lease
converting P s at n mode name w other =
    conversion_is (λ z. Spares P w (carry_lease s at (ForJob n) z w)) w.setting (seen w) s at mode name (λ fits. converting_by P s at n mode name (known w.setting (seen w) s at) w)
    (λ paired over writes a there is. refused a is (contains_last w.effects.replies (record { job = n; reply = LimitReached TurnLimit }) a there)) where
      refused : (a : JobReply) → P a → Contains w.effects.replies a ⊎ (record { job = n; reply = LimitReached TurnLimit } ≡ a) → Contains w.effects.replies a
      refused a is (inl old) = old
      refused a is (inr new) = absurd (other (subst (λ b. P b) (sym new) is))

-- A command that is carried out leaves its own job, unless it grants or ends something, or a turn would pass its limit.
carried : (n : ℕ) (c : Command) (d : Decision) (w : Step) → reply_at_once d ≡ None → Spares (OfJobBut n) w (carry_decision n c d w) ⊎ Acted (carry_decision n c d w)
unfolding carry_decision
carried n c (Replies r) w is = absurd (none_some r (sym is))
carried n c (Joins number a) w is = inl (λ a there is. there)
carried n c (Leaves s) w is = inl (λ a there is. leaving n s w a there is.0)
carried n c (ReadsArea s r) w is = inl (λ a there is. there)
carried n c (Shares s lver) w is = granting s n c Shared lver w
carried n c (GivesUp s g) w is = inr (acted_ending s (spot_of_grant g) n g (add_end (end_of g) w) (λ grants none. grown w.effects.ends (end_of g) none))
carried n c (TakesOver s g) w is = inr (acted_granting s n c g.mode g.lver w g)
carried n c (ConvertsTo s r mode) w is = inl (converting (OfJobBut n) s (spot_of r) n mode r.name w (λ is. true_is_false is.1))
carried n c (Requests s r) w is = inl (λ a there is. there)
carried n c (SetsValue s at v) w is = inl (λ a there is. there)
carried n c (GetsValue s at) w is = inl (λ a there is. there)

-- ---- in an entry that is due

pub at_once_is : (d : Decision) (r : Reply) → reply_at_once d ≡ Some r → d ≡ Replies r
at_once_is (Replies q) r is = ap (λ z. Replies z) (some_value q r is)
at_once_is (Joins number a) r is = absurd (none_some r is)
at_once_is (Leaves s) r is = absurd (none_some r is)
at_once_is (ReadsArea s q) r is = absurd (none_some r is)
at_once_is (Shares s lver) r is = absurd (none_some r is)
at_once_is (GivesUp s g) r is = absurd (none_some r is)
at_once_is (TakesOver s g) r is = absurd (none_some r is)
at_once_is (ConvertsTo s q mode) r is = absurd (none_some r is)
at_once_is (Requests s q) r is = absurd (none_some r is)
at_once_is (SetsValue s at v) r is = absurd (none_some r is)
at_once_is (GetsValue s at) r is = absurd (none_some r is)

-- A line that says a command.
pub line_says : (x : Step) (text : List ℕ) (c : Command) → x.setting.read text ≡ Ok c
    → on_line text x ≡ carry_command text (next_job x.setting (seen x)) c (decided x.setting (seen x) x.reading c) x
unfolding on_line
line_says x text c says = ap (λ (o : Result Command ℕ). carry_line text (next_job x.setting (seen x)) (o >>= (λ c. Ok (c, decided x.setting (seen x) x.reading c))) x) says

-- The input of the newest entry.
abbrev pub first_input : Trace → Input
first_input [] = Wake
first_input (e ∷ es) = e.input

abbrev first_effects : Trace → Effects
first_effects [] = no_effects
first_effects (e ∷ es) = e.effects

-- All but what says that a turn would pass its limit.
pub at_once_but : (st : Setting) (past : Trace) (e : Entry) (a : JobReply) (j : Job) → WholeTrace st past → IsDue st past e → Contains e.effects.replies a → IsAtOnce (due_step st past e.reading e.input) a
    → job_numbered st (e ∷ past) a.job ≡ Some j → is_turn_limit a.reply ≡ false → CausedBy (at_its_line st past e j) a.reply
at_once_but st past e a j w due_so there o found other = by (reply_at_once d) refl where
  u : Step
  u = due_step st past e.reading e.input

  f : Fixed st past e.reading u
  f = due_is_of st past e.reading e.input

  line : e.input ≡ Line o.text
  line = sym (ap (λ t. first_input t) (due_is_seen st past e due_so)) ∙ o.line

  own : a.job ≡ next_job st past
  own = o.own ∙ (ap (λ g. next_job g u.past) f.setting ∙ ap (λ t. next_job st t) f.before)

  says : st.read o.text ≡ Ok o.command
  says = ap (λ (g : Setting). g.read o.text) (sym f.setting) ∙ o.says

  x : Step
  x = before_input (begin_step st past e.reading)

  h : IsBeforeInput st past e.reading x
  h = heads_are_early st past e.reading w

  n : ℕ
  n = next_job x.setting (seen x)

  number : n ≡ next_job st past
  number = next_before x h.early.wake ∙ (ap (λ g. next_job g x.past) h.setting ∙ ap (λ t. next_job st t) h.before)

  d : Decision
  d = decided x.setting (seen x) x.reading o.command

  not_before : Contains x.effects.replies a → ⊥
  not_before old = let less : a.job < next_job st past = h.numbers a old in omega (arith, less, own)

  done : e.effects ≡ (finish (carry_command o.text n o.command d x)).effects
  done = line_done st past e o.text due_so line ∙ ap (λ s. (finish s).effects) (line_says x o.text o.command (ap (λ (g : Setting). g.read o.text) h.setting ∙ says))

  carries : Option Reply → Step
  carries q = elim q as (λ z. Step) [ Some r ↦ answer_line o.text n r x | None ↦ carry_decision n o.command d (with_input (Line o.text) x) ]

  is_of : (q : Option Reply) → reply_at_once d ≡ q → e.effects ≡ (finish (carries q)).effects
  is_of q is = done ∙ ap (λ z. (finish (carries z)).effects) is

  replies_are : (q : Option Reply) → reply_at_once d ≡ q → Contains (carries q).effects.replies a
  replies_are q is = subst (λ rs. Contains rs a) (ap (λ (z : Effects). z.replies) (is_of q is) ∙ (last_is_silent (carries q)).replies) there

  ended : u.effects ≡ e.effects
  ended = ap (λ t. first_effects t) (due_is_seen st past e due_so)

  by : (q : Option Reply) → reply_at_once d ≡ q → CausedBy (at_its_line st past e j) a.reply
  by (Some r) is = answered (contains_last x.effects.replies (record { job = n; reply = r }) a (replies_are (Some r) is)) where
    decision : decided st (seen x) e.reading o.command ≡ Replies r
    decision = sym (ap (λ g. decided g (seen x) x.reading o.command) h.setting ∙ ap (λ m. decided st (seen x) m o.command) h.reading) ∙ at_once_is d r is

    answered : Contains x.effects.replies a ⊎ (record { job = n; reply = r } ≡ a) → CausedBy (at_its_line st past e j) a.reply
    answered (inl old) = absurd (not_before old)
    answered (inr new) =
        subst (λ q. CausedBy (at_its_line st past e j) q) (ap (λ (b : JobReply). b.reply) new)
        (lines_are_well st past e o.text o.command r j w due_so line says decision (ap (λ m. job_numbered st (e ∷ past) m) (sym own) ∙ found))
  by None is = absurd (nobody (carried n o.command d (with_input (Line o.text) x) is)) where
    z : Step
    z = carry_decision n o.command d (with_input (Line o.text) x)

    nobody : Spares (OfJobBut n) (with_input (Line o.text) x) z ⊎ Acted z → ⊥
    nobody (inl spares) = not_before (spares a (replies_are None is) (own ∙ sym number, other))
    nobody (inr acted) =
        acted (sym (ap (λ (k : Effects). k.grants) (ended ∙ is_of None is) ∙ (last_is_silent z).grants) ∙ o.ungranted)
        (sym (ap (λ (k : Effects). k.ends) (ended ∙ is_of None is) ∙ (last_is_silent z).ends) ∙ o.unended)
