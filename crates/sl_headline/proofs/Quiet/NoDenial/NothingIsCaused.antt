-- A quiet acquire is not refused, nor answered at another time than its last call's: each cause of a reply is one that it hasn't.
use Rattle.sl_run.specs.Caused.{AnswersCall, AnswersRead, AnswersWrite, Answering, CausedBy, IsDoneFor, IsExited, IsGrantedFor, IsLimit, ReadsBlocks, after_entry, job_command, the_session}
use Rattle.sl_trace.specs.Jobs.{child_of_job, command_of, is_command_that, process_named}
use Rattle.sl_headline.specs.Quiet.NoDenial.NothingIsCaused.{IsLeftAlone, IsTimely, NothingIsCaused}
use Rattle.sl_sector.specs.declared.sector.Block.{Block}
use Rattle.sl_trace.specs.declared.session.Session.{Session}
use Rattle.sl_trace.specs.Sessions.{is_active, session_of_job}
use Rattle.sl_trace.specs.Traces.{Submitted, is_before_input, waiting_call}
use Rattle.sl_trace.specs.declared.command.Command.TheVariants.{Acquire}
use Rattle.sl_trace.specs.declared.command.Command.{Command}
use Rattle.sl_trace.specs.declared.command.ResourceArg.{ResourceArg}
use Rattle.sl_trace.specs.declared.input.Answer.TheVariants.{Failed, Read, Written}
use Rattle.sl_trace.specs.declared.input.Answer.{Answer}
use Rattle.sl_trace.specs.declared.input.Input.TheVariants.{Exit}
use Rattle.sl_trace.specs.declared.reply.Limited.TheVariants.{Children, Gen as GenLimit, Holders, Killpaths, Lockspaces, Lver as LverLimit, Mbal as MbalLimit, Resources, Seq as SeqLimit, Turn as TurnLimit}
use Rattle.sl_trace.specs.declared.reply.Limited.{Limited}
use Rattle.sl_trace.specs.declared.reply.Reply.TheVariants.{Ahead, BadCommand as Misread, Busy, Done, Generation, Granted, Held as HeldBy, Hosts, IdHeld, IdLate, IdLost, IoFault, IoTimeout, Joined, Joining as StillJoining, Limit as LimitReached, NoOrphan, NoProcess, NoSession, NotHeld, Pending, Recovering, RequestOld, Rival, Sessions, Shared as SharedBy, SpawnFault, Started, TornBlock, TornDelta, TornLeader, Value, ValueSet, ValueTorn, WrongArea, WrongDelta}
use Rattle.sl_trace.specs.declared.reply.Reply.{Reply}
use Rattle.sl_words.proofs.CaseLaws.{false_is_true}
use Rattle.sl_words.specs.Words.{some_is}
use Rattle.std.proofs.lemmas.Bool.{eqb-true}
use Rattle.std.proofs.Common.{ap, arith, inl, inr, refl, subst, sym, ◌∙◌}
use Rattle.std.specs.Prelude.{Bool, Err, IsFalse, IsSomeAnd, IsTrue, List, None, Ok, Option, Result, Some, false, length, true, unwrap_or, ℕ, ◌+◌, ◌<◌, ◌==◌, ◌||◌, ◌≡◌, ◌≤◌}

-- ---- what is opened

abbrev NoAnswer : Answering → Type 0
NoAnswer x = (m : Submitted) (a : Answer) → AnswersCall x m a → ⊥

of_read : (x : Answering) (P : Submitted → List ℕ → Type 0) → NoAnswer x → AnswersRead x P → ⊥
of_read x P none (c, bytes, answers, holds) = none c (Read bytes) answers

of_write : (x : Answering) (P : Submitted → Type 0) → NoAnswer x → AnswersWrite x P → ⊥
of_write x P none (c, answers, holds) = none c Written answers

abbrev JoinsBy : Answering → (Session → Submitted → List ℕ → Type 0) → Type 0
JoinsBy x P = (s : Session) × (session_of_job x.setting x.past x.job.number ≡ Some s) × AnswersRead x (P s)

of_join : (x : Answering) (P : Session → Submitted → List ℕ → Type 0) → NoAnswer x → JoinsBy x P → ⊥
of_join x P none (s, its, (c, bytes, answers, holds)) = none c (Read bytes) answers

some_found : {A : Type 0} (o : Option A) (P : A → Type 0) → IsSomeAnd o P → (a : A) × (o ≡ Some a) × P a
some_found None P h = absurd h
some_found (Some a) P h = (a, refl, h)

of_blocks : (x : Answering) (P : Session → Submitted → List (Option Block) → Block → Type 0) → NoAnswer x → ReadsBlocks x P → ⊥
of_blocks x P none has =
    let (s, its, (c, bytes, answers, holds)) = some_found (the_session x) _ has in
    none c (Read bytes) answers

commanded : (x : Answering) (c : Command) (P : Command → Type 0) → x.job.command ≡ Ok c → job_command x P → P c
commanded x c P is has = subst (λ (r : Result Command ℕ). elim r as (λ z. Type 0) [ Ok d ↦ P d | Err e ↦ ⊥ ]) is has

both_ways : (b : Bool) → IsTrue b → IsFalse b → ⊥
both_ways true is isnt = false_is_true (sym isnt)
both_ways false is isnt = false_is_true is

late : (from io to : ℕ) → to < from + io → from + io ≤ to → ⊥
late from io to early over = absurd (omega (arith, early, over))

-- ---- one kind after another

no_recovery : (x : Answering) (c : Submitted) → IsTimely x c → (t : ℕ) → CausedBy x (Recovering t) → ⊥
no_recovery x c h t has =
    let (s, its, (joined, inactive, since)) = some_found (the_session x) _ has in
    both_ways (is_active x.setting (after_entry x) s) (h.active s its) inactive

same_call : (c d : Submitted) (o : Option Submitted) → o ≡ Some c → o ≡ Some d → c ≡ d
same_call c d o one two = ap (λ q. unwrap_or q c) (sym one ∙ two)

no_timeout : (x : Answering) (c : Submitted) → IsTimely x c → (call from to : ℕ) → CausedBy x (IoTimeout call from to) → ⊥
no_timeout x c h call from to (d, waits, number, made, now, over) =
    let same : c ≡ d = same_call c d (waiting_call x.past x.job.number) h.waits waits in
    let reading : c.reading ≡ from = ap (λ (m : Submitted). m.reading) same ∙ made in
    let early : to < from + x.setting.timing.io = subst (λ n. n < from + x.setting.timing.io) now (subst (λ n. x.entry.reading < n + x.setting.timing.io) reading h.timely) in
    late from x.setting.timing.io to early over

no_limit : (x : Answering) (which : Limited) → NoAnswer x → (x.job.at ≡ length x.past → ⊥) → IsLimit x which → ⊥
no_limit x Lockspaces none earlier has = earlier has.0
no_limit x Resources none earlier has = earlier has.0
no_limit x Holders none earlier has = earlier has.0
no_limit x Children none earlier has = earlier has.0
no_limit x Killpaths none earlier has = earlier has.0
no_limit x GenLimit none earlier has = of_join x _ none has
no_limit x SeqLimit none earlier (inl a) = of_join x _ none a
no_limit x SeqLimit none earlier (inr (inl b)) = of_join x _ none b
no_limit x SeqLimit none earlier (inr (inr (inl c))) = earlier c.0
no_limit x SeqLimit none earlier (inr (inr (inr d))) = earlier d.0
no_limit x LverLimit none earlier has = of_blocks x _ none has
no_limit x MbalLimit none earlier has = of_blocks x _ none has
no_limit x TurnLimit none earlier (paired, inl a, low) = of_blocks x _ none a
no_limit x TurnLimit none earlier (paired, inr (inl b), low) = of_blocks x _ none b
no_limit x TurnLimit none earlier (paired, inr (inr (inl (c, (n, d)))), low) = of_write x _ none d
no_limit x TurnLimit none earlier (paired, inr (inr (inr d)), low) = earlier d.0

no_grant : (x : Answering) (n : ℕ) (r : ResourceArg) (shared : Bool) (p : ℕ) (persistent : Bool) → NoAnswer x → (x.job.at ≡ length x.past → ⊥)
    → IsGrantedFor x n (Acquire r shared p persistent) → ⊥
no_grant x n r false p persistent none earlier (given, wrote) = of_write x _ none wrote
no_grant x n r true p persistent none earlier (given, inl beside) = earlier beside.0
no_grant x n r true p persistent none earlier (given, inr wrote) = of_write x _ none wrote

equal_there : (a b : ℕ) → (a == b) ≡ true → a ≡ b
equal_there a b h = eqb-true a b h

without_child : (b c : Bool) → c ≡ false → (b || c) ≡ true → b ≡ true
without_child true c none is = refl
without_child false c none is = absurd (false_is_true (sym none ∙ is))

no_exit : (x : Answering) (r : ResourceArg) (shared : Bool) (p : ℕ) (persistent : Bool) (c : Submitted) → IsLeftAlone x r shared p persistent c → (q : ℕ) → IsExited x q → ⊥
no_exit x r shared p persistent c h q (input, its) =
    let left = is_command_that (λ c. some_is (λ z. z == q) (process_named c)) x.job in
    let mine : left ≡ true = without_child left (some_is (λ z. z == q) (child_of_job x.past x.job.number)) (ap (λ o. some_is (λ z. z == q) o) h.childless) its in
    let same : (p == q) ≡ true =
    subst (λ (o : Result Command ℕ). some_is (λ c. some_is (λ z. z == q) (process_named c)) (command_of (record x.job { command = o })) ≡ true) h.command mine in
    h.stays (input ∙ ap (λ n. Exit n) (sym (equal_there p q same)))

alone : (x : Answering) (r : ResourceArg) (shared : Bool) (p : ℕ) (persistent : Bool) (c : Submitted) → IsLeftAlone x r shared p persistent c → (why : Reply) → CausedBy x why → ⊥
alone x r shared p persistent c h NoSession has = h.earlier has.0
alone x r shared p persistent c h StillJoining has = h.earlier has.0
alone x r shared p persistent c h (Recovering t) has = no_recovery x c h.in_time t has
alone x r shared p persistent c h (IdHeld version later) (inl a) = of_join x _ h.unanswered a
alone x r shared p persistent c h (IdHeld version later) (inr b) = of_join x _ h.unanswered b
alone x r shared p persistent c h (IdLost own found) has = of_join x _ h.unanswered has
alone x r shared p persistent c h (IdLate claimed now) has = h.joinless has.0 has.1
alone x r shared p persistent c h TornDelta has = of_join x _ h.unanswered has
alone x r shared p persistent c h TornLeader has = of_read x _ h.unanswered has
alone x r shared p persistent c h (TornBlock host) (inl a) = of_read x _ h.unanswered a
alone x r shared p persistent c h (TornBlock host) (inr b) = of_blocks x _ h.unanswered b
alone x r shared p persistent c h (HeldBy lver owner) has = of_blocks x _ h.unanswered has
alone x r shared p persistent c h (SharedBy owner) has = of_blocks x _ h.unanswered has
alone x r shared p persistent c h (Rival host mbal) has = of_blocks x _ h.unanswered has
alone x r shared p persistent c h (Ahead host lver) has = of_blocks x _ h.unanswered has
alone x r shared p persistent c h (IoTimeout call from to) has = no_timeout x c h.in_time call from to has
alone x r shared p persistent c h (IoFault call) (d, answers, number) = h.unanswered d Failed answers
alone x r shared p persistent c h (Pending call) has = h.earlier has.0
alone x r shared p persistent c h (Busy process) has = h.earlier has.0
alone x r shared p persistent c h NoOrphan has = h.earlier has.0
alone x r shared p persistent c h NotHeld has = h.earlier has.0
alone x r shared p persistent c h SpawnFault (q, input, its) = h.startless q its
alone x r shared p persistent c h ValueTorn has = of_read x _ h.unanswered has
alone x r shared p persistent c h (Misread column) has = h.earlier has.0
alone x r shared p persistent c h (LimitReached which) has = no_limit x which h.unanswered h.earlier has
alone x r shared p persistent c h (RequestOld held stored) has =
    let (q, asked, force, is, read) = commanded x (Acquire r shared p persistent) _ h.command has in of_read x _ h.unanswered read
alone x r shared p persistent c h (WrongArea lockspace resource hosts) has =
    of_read x _ h.unanswered (commanded x (Acquire r shared p persistent) _ h.command has)
alone x r shared p persistent c h (WrongDelta lockspace id) has = of_join x _ h.unanswered has
alone x r shared p persistent c h (NoProcess q) (inl exited) = no_exit x r shared p persistent c h q exited
alone x r shared p persistent c h (NoProcess q) (inr at) = h.earlier at.0
alone x r shared p persistent c h (Joined generation) has = h.earlier has.0
alone x r shared p persistent c h Done has = absurd (commanded x (Acquire r shared p persistent) (IsDoneFor x) h.command has)
alone x r shared p persistent c h (Generation generation) (inl told) = h.earlier told.0
alone x r shared p persistent c h (Generation generation) (inr joined) = h.joinless joined.0 joined.1
alone x r shared p persistent c h (Granted lver) has =
    no_grant x lver r shared p persistent h.unanswered h.earlier (commanded x (Acquire r shared p persistent) (IsGrantedFor x lver) h.command has)
alone x r shared p persistent c h (Started lver process) has = h.startless process has.1
alone x r shared p persistent c h (Value lver seq bytes) has = of_read x _ h.unanswered has
alone x r shared p persistent c h (ValueSet lver seq) has = of_write x _ h.unanswered has
alone x r shared p persistent c h (Hosts states) has = h.earlier has.0
alone x r shared p persistent c h (Sessions sessions) has = h.earlier has.0

early : (x : Answering) (c : Submitted) → IsTimely x c → (why : Reply) → is_before_input why ≡ true → CausedBy x why → ⊥
early x c h (Recovering t) is has = no_recovery x c h t has
early x c h (IoTimeout call from to) is has = no_timeout x c h call from to has
early x c h r is has = absurd (false_is_true is)

pub nothing_is_caused : NothingIsCaused
nothing_is_caused = record { alone = alone; early = early }
