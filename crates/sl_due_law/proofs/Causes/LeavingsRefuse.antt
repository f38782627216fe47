-- Whom the step of a line refuses as in recovery is refused with its cause: by the head of the step, at once, or by the line as that of a leaving,
-- which is unanswered at the entry's end.
use Rattle.sl_due_facts.proofs.Acts.AddedAtEnd.{contains_last}
use Rattle.sl_due_facts.proofs.Acts.EffectsKeep.{signalled}
use Rattle.sl_due_facts.proofs.Acts.LoopsKeep.{for_each_keeps}
use Rattle.sl_due_facts.proofs.Acts.Pairs.Decisions.{release_is}
use Rattle.sl_due_facts.specs.Acts.KeptByEffects.{ByEffects}
use Rattle.sl_due_law.proofs.Causes.AtOnceAreCaused.{Spares, at_once_is, converting, leaving, not_kept, told}
use Rattle.sl_due_law.proofs.Causes.HeadsAreEarly.{heads_are_early, last_is_silent}
use Rattle.sl_due_law.proofs.Causes.LaterSteps.{wake_no_line}
use Rattle.sl_due_law.proofs.Causes.RefusalsAreCaused.{off_last, unjoined_early}
use Rattle.sl_due_law.proofs.Causes.LinesAreWell.{all_pass, line_done, lines_are_well}
use Rattle.sl_due_law.proofs.Causes.NamesBefore.{early_entry, session_then, with_session}
use Rattle.sl_due_law.proofs.Causes.RecoveryCauses.{Names, joined_before, last_stays, names_of, numbered_is, stands_at}
use Rattle.sl_due_facts.specs.Acts.TraceSoFar.{entry_of}
use Rattle.sl_due_law.proofs.Causes.WakeCauses.{sessions_wake}
use Rattle.sl_due_law.specs.Causes.CausedSoFar.{IsLater, is_explained}
use Rattle.sl_due_law.specs.Causes.LineCauses.{IsBeforeInput, RefusedAtLines, at_its_line}
use Rattle.sl_due.specs.Due.{before_input}
use Rattle.sl_due.specs.DueCommands.{after_end, answer_line, carry_decision, carry_line, decided, on_line, reply_at_once}
use Rattle.sl_due.specs.DueRecovery.{send, signal_and_refuse, signal_holders}
use Rattle.sl_due.specs.CarriedLease.{carry_lease, grant_for, grant_of}
use Rattle.sl_due.specs.DueWake.{finish}
use Rattle.sl_due.specs.Steps.{Step, add_end, add_grant, add_reply, begin_step, seen, with_input}
use Rattle.sl_due.specs.declared.decision.Decision.TheVariants.{ConvertsTo, GetsValue, GivesUp, Joins, Leaves, ReadsArea, Replies, Requests, SetsValue, Shares, TakesOver}
use Rattle.sl_due.specs.declared.decision.Decision.{Decision}
use Rattle.sl_due_facts.proofs.Jobs.DecisionsFit.{DecisionFits, decisions_fit}
use Rattle.sl_due_facts.proofs.Jobs.JobsAreNumbered.{next_before}
use Rattle.sl_due_facts.proofs.Jobs.SessionsArePresent.{present_is}
use Rattle.sl_run.specs.Caused.{Answering, CausedBy, after_entry, before_entry}
use Rattle.sl_trace.specs.Ballots.{moded_block}
use Rattle.sl_trace.specs.Jobs.{is_command_that, jobs_of_session, lockspace_named}
use Rattle.sl_trace.specs.LeaseDecisions.{LeasePlace, lease_place}
use Rattle.sl_trace.specs.Releases.{release_next}
use Rattle.sl_trace.specs.Leases.{LeaseKnown, holdings_on, known, spot_of}
use Rattle.sl_trace.specs.declared.lease.LeaseNext.TheVariants.{Nothing, WriteBlock}
use Rattle.sl_words.proofs.Lists.{contains_first, contains_more, find_inside, kept_inside}
use Rattle.sl_sector.specs.declared.sector.Block.{Block}
use Rattle.sl_trace.specs.Sessions.{holders_of, is_active, is_joined, joined_after, last_renewal, leaves, leaving_in, leaving_job, present_sessions, recovery_of, removed_after, renewing, sessions}
use Rattle.sl_trace.specs.declared.session.Session.{Session}
use Rattle.sl_due_facts.specs.Facts.AllFacts.{WholeTrace}
use Rattle.sl_trace.specs.Traces.{Job, Setting, Trace, end_of, is_before_input, is_running, job_numbered, jobs, line_in, next_job, running_jobs, spot_of_grant}
use Rattle.sl_trace.specs.declared.command.Command.TheVariants.{Acquire, RunProgram, TakeOver}
use Rattle.sl_trace.specs.declared.command.Command.{Command}
use Rattle.sl_trace.specs.declared.effects.Effects.{Effects}
use Rattle.sl_trace.specs.declared.effects.Entry.{Entry}
use Rattle.sl_trace.specs.declared.effects.Grant.{Grant}
use Rattle.sl_trace.specs.declared.effects.JobReply.{JobReply}
use Rattle.sl_trace.specs.declared.effects.LeaseStep.TheVariants.{ClearMode}
use Rattle.sl_trace.specs.declared.effects.Mode.TheVariants.{Exclusive, Shared}
use Rattle.sl_trace.specs.declared.effects.Mode.{Mode}
use Rattle.sl_trace.specs.declared.effects.Signal.TheVariants.{Term}
use Rattle.sl_trace.specs.declared.effects.Spot.{Spot}
use Rattle.sl_trace.specs.declared.effects.Work.TheVariants.{ForJob}
use Rattle.sl_trace.specs.declared.input.Input.TheVariants.{Line, Wake}
use Rattle.sl_trace.specs.declared.input.Input.{Input}
use Rattle.sl_trace.specs.declared.reply.Limited.TheVariants.{Turn as TurnLimit}
use Rattle.sl_trace.specs.declared.reply.Reply.TheVariants.{BadCommand as Misread, Done, Granted, Limit as LimitReached, Recovering}
use Rattle.sl_trace.specs.declared.reply.Reply.{Reply}
use Rattle.sl_words.proofs.CaseLaws.{false_is_true, is_false, one_value}
use Rattle.sl_words.proofs.WordLaws.{and_true}
use Rattle.sl_words.specs.Results.{◌>>=◌}
use Rattle.sl_words.specs.Words.{choose, some_is}
use Rattle.sl_due_facts.specs.Acts.Acts.{next_of_release}
use Rattle.std.proofs.Common.{ap, ap₂, arith, inl, inr, refl, subst, sym, ◌∙◌}
use Rattle.std.proofs.lemmas.Bool.{eqb-true}
use Rattle.std.specs.List.{list_any}
use Rattle.std.specs.Option.{option_map_or}
use Rattle.std.specs.Prelude.{Bool, Contains, Err, IsFalse, IsTrue, List, None, Ok, Option, Result, Some, [], bytes_eq, false, filter, is_none, is_some, length, not, true, ℕ, ◌&&◌, ◌<◌, ◌==◌, ◌∷◌, ◌≡◌, ◌||◌, ◌⊎◌}

-- ---- what other commands answer

abbrev pub Says : Reply → JobReply → Type 0
Says q a = a.reply ≡ q

pub says_other : (q : Reply) (w y : Step) (n : ℕ) (r : Reply) → (r ≡ q → ⊥) → Spares (Says q) w y → Spares (Says q) w (add_reply n r y)
says_other q w y n r other h a there is = by (contains_last y.effects.replies (record { job = n; reply = r }) a there) where
  by : Contains y.effects.replies a ⊎ (record { job = n; reply = r } ≡ a) → Contains w.effects.replies a
  by (inl old) = h a old is
  by (inr new) = absurd (other (ap (λ (b : JobReply). b.reply) new ∙ is))

granted_apart : (n t : ℕ) → Granted n ≡ Recovering t → ⊥
granted_apart n t is = cc

done_apart : (t : ℕ) → Done ≡ Recovering t → ⊥
done_apart t is = cc

limit_apart : (t : ℕ) → LimitReached TurnLimit ≡ Recovering t → ⊥
limit_apart t is = cc

misread_apart : (n t : ℕ) → Misread n ≡ Recovering t → ⊥
misread_apart n t is = cc

granting : (t : ℕ) (s : Session) (n : ℕ) (c : Command) (mode : Mode) (lver : ℕ) (w y : Step) → Spares (Says (Recovering t)) w y → Spares (Says (Recovering t)) w (grant_for s n c mode lver y)
granting t s n (Acquire r shared p persistent) mode lver w y h = says_other (Recovering t) w (add_grant (grant_of s r p mode lver persistent) y) n (Granted lver) (granted_apart lver t) h
granting t s n (TakeOver r shared p persistent) mode lver w y h = says_other (Recovering t) w (add_grant (grant_of s r p mode lver persistent) y) n (Granted lver) (granted_apart lver t) h
granting t s n (RunProgram r shared path) mode lver w y h = h
granting t s n c mode lver w y h = h

-- A release that may write its block answers nobody.
pub releasing_by : (q : Reply) (s : Session) (at : Spot) (n : ℕ) (mode : Mode) (lver : ℕ) (p : LeasePlace) (k : LeaseKnown) (w y : Step) → Spares (Says q) w y
    → Spares (Says q) w (carry_lease s at (ForJob n) (release_next p k mode lver) y)
unfolding carry_lease
releasing_by q s at n Exclusive lver p k w y h = h
releasing_by q s at n Shared lver p k w y h = by k.own where
  by : (o : Option Block) → Spares (Says q) w (carry_lease s at (ForJob n) (option_map_or (λ own. WriteBlock ClearMode (moded_block own false 0)) o Nothing) y)
  by None = h
  by (Some own) = h

releasing : (q : Reply) (s : Session) (at : Spot) (n : ℕ) (g : Grant) (w y : Step) → (LimitReached TurnLimit ≡ q → ⊥) → Spares (Says q) w y
    → Spares (Says q) w (carry_lease s at (ForJob n) (next_of_release y.setting (seen y) s at g) y)
unfolding carry_lease
releasing q s at n g w y limit h =
    release_is (λ z. Spares (Says q) w (carry_lease s at (ForJob n) z y)) y.setting (seen y) s at g
    (λ fits. releasing_by q s at n g.mode g.lver (lease_place y.setting s) (known y.setting (seen y) s at) w y h) (λ paired over writes. says_other q w y n (LimitReached TurnLimit) limit h)

pub ending : (q : Reply) (s : Session) (at : Spot) (n : ℕ) (g : Grant) (w y : Step) → (LimitReached TurnLimit ≡ q → ⊥) → (Done ≡ q → ⊥) → Spares (Says q) w y → Spares (Says q) w (after_end s at n g y)
unfolding after_end
ending q s at n g w y limit other h = by (holdings_on (seen y) s at) where
  by : (hs : List Grant) → Spares (Says q) w (elim hs as (λ z. Step) [ k ∷ ks ↦ add_reply n Done y | [] ↦ carry_lease s at (ForJob n) (next_of_release y.setting (seen y) s at g) y ])
  by [] = releasing q s at n g w y limit h
  by (k ∷ ks) = says_other q w y n Done other h

-- All but a leaving.
others_spare : (t n : ℕ) (c : Command) (d : Decision) (w : Step) → ((s : Session) → d ≡ Leaves s → ⊥) → Spares (Says (Recovering t)) w (carry_decision n c d w)
unfolding carry_decision
others_spare t n c (Replies r) w other = λ a there is. there
others_spare t n c (Joins number l) w other = λ a there is. there
others_spare t n c (Leaves s) w other = absurd (other s refl)
others_spare t n c (ReadsArea s r) w other = λ a there is. there
others_spare t n c (Shares s lver) w other = granting t s n c Shared lver w w (λ a there is. there)
others_spare t n c (GivesUp s g) w other = ending (Recovering t) s (spot_of_grant g) n g w (add_end (end_of g) w) (limit_apart t) (done_apart t) (λ a there is. there)
others_spare t n c (TakesOver s g) w other = granting t s n c g.mode g.lver w (add_end (end_of g) w) (λ a there is. there)
others_spare t n c (ConvertsTo s r mode) w other = converting (Says (Recovering t)) s (spot_of r) n mode r.name w (limit_apart t)
others_spare t n c (Requests s r) w other = λ a there is. there
others_spare t n c (SetsValue s at v) w other = λ a there is. there
others_spare t n c (GetsValue s at) w other = λ a there is. there

-- ---- whom a leaving refuses

abbrev IsOf : Setting → Trace → ℕ → Input → Step → Type 0
IsOf st past now i y = (y.setting ≡ st) × (y.past ≡ past) × (y.reading ≡ now) × (y.input ≡ i)

of_effects : (st : Setting) (past : Trace) (now : ℕ) (i : Input) → ByEffects (IsOf st past now i)
of_effects st past now i =
    record {
      ends = λ x e h. h;
      signals = λ x p s h. h;
      moves = λ x m h. h;
      grants = λ x g h. h;
      starts = λ x s h. h;
      replies = λ x j r h. h;
      calls = λ x s path p o op has h. h;
    }

-- The reply is to a job of the session, and tells its last renewal.
pub record Refused (z : Step) (s : Session) (a : JobReply) : Type 0 where
  pub job : Job
  pub mine : Contains (jobs_of_session z.setting (seen z) s) job
  pub number : job.number ≡ a.job
  pub reply : Recovering (last_renewal z.setting (seen z) s) ≡ a.reply

pub refusals : (n : ℕ) (s : Session) (w : Step) (a : JobReply) → Contains (signal_and_refuse s (Some n) w).effects.replies a → Contains w.effects.replies a ⊎ Refused (signal_holders Term s w) s a
unfolding signal_and_refuse
refusals n s w a there =
    for_each_keeps (λ y. Contains y.effects.replies a → Contains w.effects.replies a ⊎ Refused z s a) (filter (not_kept (Some n)) (jobs_of_session z.setting (seen z) s))
    (λ j. add_reply j.number (Recovering (last_renewal z.setting (seen z) s))) z
    (λ j inside y h more. by j (kept_inside (not_kept (Some n)) (jobs_of_session z.setting (seen z) s) j inside).0 y h
    (contains_last y.effects.replies (record { job = j.number; reply = Recovering (last_renewal z.setting (seen z) s) }) a more))
    (λ more. inl (for_each_keeps (Spares (λ b. Unit {0}) w) (holders_of (seen w) s) (λ p. send p Term) w (λ p inside y h. told (λ b. Unit {0}) w y p h) (λ b here k. here) a more tt)) there where
      z : Step
      z = signal_holders Term s w

      by : (j : Job) → Contains (jobs_of_session z.setting (seen z) s) j → (y : Step) → (Contains y.effects.replies a → Contains w.effects.replies a ⊎ Refused z s a)
          → Contains y.effects.replies a ⊎ (record { job = j.number; reply = Recovering (last_renewal z.setting (seen z) s) } ≡ a) → Contains w.effects.replies a ⊎ Refused z s a
      by j mine y h (inl old) = h old
      by j mine y h (inr new) = inr (record { job = j; mine = mine; number = ap (λ (b : JobReply). b.job) new; reply = ap (λ (b : JobReply). b.reply) new })

-- ---- who was joined before the input was so before the entry

pub joined_past : (past : Trace) (e : Entry) (s : Session) → ((a : JobReply) → Contains e.effects.replies a → is_before_input a.reply ≡ true) → is_joined (e ∷ past) s ≡ true → is_joined past s ≡ true
joined_past past e s early is = by (joined_after past s) refl where
  by : (o : Option ℕ) → joined_after past s ≡ o → is_joined past s ≡ true
  by (Some k) was = joined_before past e s (ap (λ o. is_some o) was) is
  by None un =
      let later : joined_after (e ∷ past) s ≡ None =
      subst (λ rs. joined_after (early_entry e.reading [] rs ∷ past) s ≡ None) (all_pass (λ (a : JobReply). is_before_input a.reply) e.effects.replies early) (unjoined_early past e.reading [] e.effects.replies s un) in
      absurd (false_is_true (sym (ap (λ o. is_some o) later) ∙ (and_true (is_some (joined_after (e ∷ past) s)) (is_none (removed_after (e ∷ past) s)) is).0))

none_any : {A : Type 0} (p : A → Bool) (xs : List A) → ((a : A) → Contains xs a → p a ≡ false) → list_any p xs ≡ false
none_any p [] h = refl
none_any p (x ∷ xs) h = ap₂ (λ b c. b || c) (h x (contains_first x xs)) (none_any p xs (λ a there. h a (contains_more x xs a there)))

-- A session that leaves by this entry.
record LeavesBy (st : Setting) (past : Trace) (e : Entry) (text : List ℕ) (s : Session) : Type 0 where
  line : e.input ≡ Line text
  leaves_it : leaves s (st.read text) ≡ true
  joined : is_joined past s ≡ true
  unanswered : (a : JobReply) → Contains e.effects.replies a → (a.job == next_job st past) ≡ false

not_active : (st : Setting) (past : Trace) (e : Entry) (text : List ℕ) (s : Session) → LeavesBy st past e text s → is_active st (e ∷ past) s ≡ false
not_active st past e text s h = off_last (is_joined (e ∷ past) s) (is_none (recovery_of st (e ∷ past) s)) (is_none (leaving_job st (e ∷ past) s)) (by (leaving_job st past s)) where
  made : Job
  made = record { number = next_job st past; at = length past; reading = e.reading; command = st.read text }

  chosen : (b : Bool) → Option Job
  chosen b = choose (is_joined past s && not b) made

  told_by : (o : Option (List ℕ)) → Option Job
  told_by o =
      elim o as (λ z. Option Job) [
        | None ↦ None
        | Some t ↦ elim (leaves s (st.read t)) as (λ z. Option Job) [
          | false ↦ None
          | true ↦ choose (is_joined past s && not (list_any (λ (a : JobReply). a.job == next_job st past) e.effects.replies)) (record { number = next_job st past; at = length past; reading = e.reading; command = st.read t })
        ]
      ]

  there : leaving_in st past s e ≡ Some made
  there =
      ap (λ i. told_by (line_in i)) h.line
      ∙ (ap (λ b. elim b as (λ z. Option Job) [ false ↦ None | true ↦ choose (is_joined past s && not (list_any (λ (a : JobReply). a.job == next_job st past) e.effects.replies)) made ]) h.leaves_it
      ∙ (ap (λ b. choose (b && not (list_any (λ (a : JobReply). a.job == next_job st past) e.effects.replies)) made) h.joined
      ∙ ap (λ b. choose (not b) made) (none_any (λ (a : JobReply). a.job == next_job st past) e.effects.replies h.unanswered)))

  by : (o : Option Job) → is_none (elim o as (λ z. Option Job) [ Some k ↦ Some k | None ↦ leaving_in st past s e ]) ≡ false
  by (Some k) = refl
  by None = ap (λ q. is_none q) there

-- ---- in an entry that is due

recovering_same : (a b : ℕ) → Recovering a ≡ Recovering b → a ≡ b
recovering_same a b is = cc

is_number_not : (m n : ℕ) → (m ≡ n → ⊥) → (m == n) ≡ false
is_number_not m n other = is_false (m == n) (λ is. other (eqb-true m n is))

-- Of a session's job.
refused_caused : (st : Setting) (past : Trace) (e : Entry) (text : List ℕ) (s : Session) (z : Step) (a : JobReply) (t : ℕ) (j : Job) → WholeTrace st past → Contains (sessions st past) s
    → LeavesBy st past e text s → IsOf st past e.reading (Line text) z → Refused z s a → a.reply ≡ Recovering t → job_numbered st (e ∷ past) a.job ≡ Some j → CausedBy (at_its_line st past e j) (Recovering t)
refused_caused st past e text s z a t j w there h of r is found =
    with_session y s (λ s. IsTrue (is_joined y.past s) × IsFalse (is_active y.setting (after_entry y) s) × (last_renewal y.setting (before_entry y) s ≡ t))
    (session_then y named.command s w there h.joined named.says named.names)
    (h.joined, not_active st past e text s h, last_stays st past e.reading Wake s refl ∙ sym told_last)
  where
    y : Answering
    y = at_its_line st past e j

    member : Contains (running_jobs z.setting (seen z)) r.job × (is_command_that (λ c. some_is (λ n. bytes_eq n s.lockspace) (lockspace_named c)) r.job ≡ true)
    member = kept_inside (is_command_that (λ c. some_is (λ n. bytes_eq n s.lockspace) (lockspace_named c))) (running_jobs z.setting (seen z)) r.job r.mine

    jobs_are : jobs z.setting (seen z) ≡ jobs st (e ∷ past)
    jobs_are =
        ap (λ g. jobs g (record { reading = z.reading; input = z.input; effects = e.effects } ∷ z.past)) of.0
        ∙ (ap (λ p. jobs st (record { reading = z.reading; input = z.input; effects = e.effects } ∷ p)) of.1
        ∙ (ap (λ m. jobs st (record { reading = m; input = z.input; effects = e.effects } ∷ past)) of.2
        ∙ ap (λ i. jobs st (record { reading = e.reading; input = i; effects = e.effects } ∷ past)) (of.3 ∙ sym h.line)))

    inside : Contains (jobs st (e ∷ past)) r.job
    inside = subst (λ js. Contains js r.job) jobs_are (kept_inside (λ (k : Job). is_running (seen z) k.number) (jobs z.setting (seen z)) r.job member.0).0

    same : r.job ≡ j
    same = one_value r.job j (job_numbered st (e ∷ past) r.job.number) (numbered_is st (e ∷ past) r.job inside) (ap (λ n. job_numbered st (e ∷ past) n) r.number ∙ found)

    named : Names j s
    named = subst (λ (k : Job). Names k s) same (names_of r.job s member.1)

    told_last : t ≡ (renewing st past s).last
    told_last =
        recovering_same t (last_renewal z.setting (seen z) s) (sym is ∙ sym r.reply)
        ∙ (ap (λ g. (stands_at g z.past z.reading z.input s).last) of.0
        ∙ (ap (λ p. (stands_at st p z.reading z.input s).last) of.1
        ∙ (ap (λ m. (stands_at st past m z.input s).last) of.2
        ∙ (ap (λ i. (stands_at st past e.reading i s).last) of.3 ∙ last_stays st past e.reading (Line text) s refl))))

pub first_of : (a b c : Bool) → (a && b && c) ≡ true → a ≡ true
first_of true b c is = refl
first_of false b c is = absurd (false_is_true is)

pub line_reads : (x : Step) (text : List ℕ)
    → on_line text x ≡ carry_line text (next_job x.setting (seen x)) (x.setting.read text >>= (λ c. Ok (c, decided x.setting (seen x) x.reading c))) x
unfolding on_line
line_reads x text = refl

leaving_is : (n : ℕ) (c : Command) (d : Decision) (s : Session) (w : Step) → d ≡ Leaves s → carry_decision n c d w ≡ signal_and_refuse s (Some n) w
unfolding carry_decision
leaving_is n c d s w is = ap (λ q. carry_decision n c q w) is

pub refused_at_lines : RefusedAtLines
refused_at_lines st past e text a t j w due_so line k there stops found = by (st.read text) refl where
  x : Step
  x = before_input (begin_step st past e.reading)

  h : IsBeforeInput st past e.reading x
  h = heads_are_early st past e.reading w

  n : ℕ
  n = next_job x.setting (seen x)

  number : n ≡ next_job st past
  number = next_before x h.early.wake ∙ (ap (λ g. next_job g x.past) h.setting ∙ ap (λ p. next_job st p) h.before)

  last : Step
  last = record { setting = st; past = past; reading = e.reading; input = e.input; effects = e.effects }

  from_head : IsLater x last
  from_head = record { setting = sym h.setting; before = sym h.before; reading = sym h.reading; carried = λ seen. absurd (seen h.early.wake) }

  by_head : Contains x.effects.replies a → CausedBy (at_its_line st past e j) (Recovering t)
  by_head old =
      subst (λ r. CausedBy (at_its_line st past e j) r) stops
      (k.causes a old (ap₂ (λ i r. is_explained i r) h.early.wake stops) (λ o. wake_no_line x.input o.text h.early.wake o.line) last from_head j found)

  answered : (r : Reply) → Contains (answer_line text n r x).effects.replies a → ((record { job = n; reply = r } ≡ a) → CausedBy (at_its_line st past e j) (Recovering t)) → CausedBy (at_its_line st past e j) (Recovering t)
  answered r inside own = on (contains_last x.effects.replies (record { job = n; reply = r }) a inside) where
    on : Contains x.effects.replies a ⊎ (record { job = n; reply = r } ≡ a) → CausedBy (at_its_line st past e j) (Recovering t)
    on (inl old) = by_head old
    on (inr new) = own new

  lined : Result Command ℕ → Step
  lined o = carry_line text n (o >>= (λ c. Ok (c, decided x.setting (seen x) x.reading c))) x

  is_lined : (o : Result Command ℕ) → st.read text ≡ o → e.effects ≡ (finish (lined o)).effects
  is_lined o says = line_done st past e text due_so line ∙ (ap (λ s. (finish s).effects) (line_reads x text) ∙ ap (λ q. (finish (lined q)).effects) (ap (λ (g : Setting). g.read text) h.setting ∙ says))

  inside_of : (y : Step) → e.effects ≡ (finish y).effects → Contains y.effects.replies a
  inside_of y is = subst (λ rs. Contains rs a) (ap (λ (f : Effects). f.replies) is ∙ (last_is_silent y).replies) there

  by : (o : Result Command ℕ) → st.read text ≡ o → CausedBy (at_its_line st past e j) (Recovering t)
  by (Err column) says =
      answered (Misread column) (inside_of (answer_line text n (Misread column) x) (is_lined (Err column) says)) (λ new. absurd (misread_apart column t (ap (λ (b : JobReply). b.reply) new ∙ stops)))
  by (Ok c) says = on (reply_at_once d) refl where
    d : Decision
    d = decided x.setting (seen x) x.reading c

    carries : Option Reply → Step
    carries q = elim q as (λ z. Step) [ Some r ↦ answer_line text n r x | None ↦ carry_decision n c d (with_input (Line text) x) ]

    is_of : (q : Option Reply) → reply_at_once d ≡ q → e.effects ≡ (finish (carries q)).effects
    is_of q is = is_lined (Ok c) says ∙ ap (λ z. (finish (carries z)).effects) is

    on : (q : Option Reply) → reply_at_once d ≡ q → CausedBy (at_its_line st past e j) (Recovering t)
    on (Some r) is =
        answered r (inside_of (answer_line text n r x) (is_of (Some r) is))
        (λ new. subst (λ q. CausedBy (at_its_line st past e j) q) (ap (λ (b : JobReply). b.reply) new ∙ stops)
        (lines_are_well st past e text c r j w due_so line says
        (sym (ap (λ g. decided g (seen x) x.reading c) h.setting ∙ ap (λ m. decided st (seen x) m c) h.reading) ∙ at_once_is d r is)
        (ap (λ m. job_numbered st (e ∷ past) m) (sym number ∙ ap (λ (b : JobReply). b.job) new) ∙ found)))
    on None is = decision d refl where
      others : ((s : Session) → d ≡ Leaves s → ⊥) → CausedBy (at_its_line st past e j) (Recovering t)
      others other =
          by_head (others_spare t n c d (with_input (Line text) x) other a (inside_of (carry_decision n c d (with_input (Line text) x)) (is_of None is)) stops)

      decision : (q : Decision) → d ≡ q → CausedBy (at_its_line st past e j) (Recovering t)
      decision (Leaves s) leaves_so = left (refusals n s (with_input (Line text) x) a (inside_of _ ended)) where
        ended : e.effects ≡ (finish (signal_and_refuse s (Some n) (with_input (Line text) x))).effects
        ended = is_of None is ∙ ap (λ s. (finish s).effects) (leaving_is n c d s (with_input (Line text) x) leaves_so)

        f : DecisionFits x.setting (seen x) c (Leaves s)
        f = subst (λ q. DecisionFits x.setting (seen x) c q) leaves_so (decisions_fit x.setting (seen x) x.reading c)

        inside : Contains (sessions x.setting (seen x)) s
        inside = (present_is x.setting (seen x) s (find_inside (λ (q : Session). bytes_eq q.lockspace f.1.0.name) (present_sessions x.setting (seen x)) s f.1.2).0).0

        before : Contains (sessions st past) s
        before = subst (λ ss. Contains ss s) (sessions_wake x h.early.wake ∙ (ap (λ g. sessions g x.past) h.setting ∙ ap (λ p. sessions st p) h.before)) inside

        unanswered : (b : JobReply) → Contains e.effects.replies b → (b.job == next_job st past) ≡ false
        unanswered b answers = is_number_not b.job (next_job st past) (λ same.
            let old : Contains x.effects.replies b =
            leaving n s (with_input (Line text) x) b (subst (λ rs. Contains rs b) (ap (λ (f : Effects). f.replies) ended ∙ (last_is_silent (signal_and_refuse s (Some n) (with_input (Line text) x))).replies) answers) (same ∙ sym number) in
            let less : b.job < next_job st past = h.numbers b old in omega (arith, less, same))

        by_line : LeavesBy st past e text s
        by_line =
            record {
              line = line;
              leaves_it = ap (λ o. leaves s o) (says ∙ ap (λ k. Ok k) f.1.1) ∙ f.1.3;
              joined = subst (λ p. is_joined p s ≡ true) h.before (joined_past x.past (entry_of x) s h.replies (first_of (is_joined (seen x) s) (is_none (recovery_of x.setting (seen x) s)) (is_none (leaving_job x.setting (seen x) s)) f.0));
              unanswered = unanswered;
            }

        of : IsOf st past e.reading (Line text) (signal_holders Term s (with_input (Line text) x))
        of = signalled (IsOf st past e.reading (Line text)) (of_effects st past e.reading (Line text)) (with_input (Line text) x) Term s (h.setting, h.before, h.reading, refl)

        left : Contains x.effects.replies a ⊎ Refused (signal_holders Term s (with_input (Line text) x)) s a → CausedBy (at_its_line st past e j) (Recovering t)
        left (inl old) = by_head old
        left (inr r) = refused_caused st past e text s (signal_holders Term s (with_input (Line text) x)) a t j w before by_line of r stops found
      decision (Replies r) other = others (λ s same. cc)
      decision (Joins m l) other = others (λ s same. cc)
      decision (ReadsArea s r) other = others (λ s same. cc)
      decision (Shares s lver) other = others (λ s same. cc)
      decision (GivesUp s g) other = others (λ s same. cc)
      decision (TakesOver s g) other = others (λ s same. cc)
      decision (ConvertsTo s r mode) other = others (λ s same. cc)
      decision (Requests s r) other = others (λ s same. cc)
      decision (SetsValue s at v) other = others (λ s same. cc)
      decision (GetsValue s at) other = others (λ s same. cc)
