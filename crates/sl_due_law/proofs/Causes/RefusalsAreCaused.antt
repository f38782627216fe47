-- What refuses a command is its cause: the first of refusals in turn, a session that is not there or its state, a process, a limit.
use Rattle.sl_due_facts.proofs.Acts.AddedAtEnd.{not_is}
use Rattle.sl_due_law.proofs.Causes.AnsweredJobs.{with_command, with_spot}
use Rattle.sl_due_law.proofs.Causes.NamesBefore.{early_entry, with_session}
use Rattle.sl_due_law.proofs.Causes.RecoveryCauses.{by_time, is_nothing, joined_before, off}
use Rattle.sl_due_law.specs.Causes.LineCauses.{AtLine, WellDecided}
use Rattle.sl_due.specs.DueCommands.{busy_refusal, limit_refusal, matching_session, pending_refusal, process_refusal, session_refusal, unless_refused, with_session as where_session}
use Rattle.sl_due.specs.declared.decision.Decision.TheVariants.{Replies}
use Rattle.sl_due.specs.declared.decision.Decision.{Decision}
use Rattle.sl_run.specs.Caused.{Answering, CausedBy, IsLimit, MeetsLimit, WithSession, WithSpot, after_entry, before_entry, is_joining_command, job_command, lockspace_arg, the_session}
use Rattle.sl_trace.specs.Counts.{busy_process, limit_met, may_act, pending_call}
use Rattle.sl_trace.specs.Jobs.{is_asking_lease, is_program, lockspace_named, process_named, resource_named, wants_shared}
use Rattle.sl_trace.specs.Leases.{spot_of}
use Rattle.sl_words.proofs.Lists.{find_inside, kept_inside}
use Rattle.sl_words.proofs.Options.{mapped_value}
use Rattle.sl_trace.specs.Sessions.{is_active, is_join_done, is_joined, is_session_arg, joined_after, last_renewal, leaving_in, leaving_job, recovery_of, session_named}
use Rattle.sl_trace.specs.declared.session.Begun.{Begun}
use Rattle.sl_trace.specs.declared.session.Session.{Session}
use Rattle.sl_trace.specs.Traces.{Job, Replied, Setting, Trace, is_before_input, reply_to}
use Rattle.sl_trace.specs.declared.command.Command.{Command}
use Rattle.sl_trace.specs.declared.command.LockspaceArg.{LockspaceArg}
use Rattle.sl_trace.specs.declared.command.ResourceArg.{ResourceArg}
use Rattle.sl_trace.specs.declared.effects.Entry.{Entry}
use Rattle.sl_trace.specs.declared.effects.JobReply.{JobReply}
use Rattle.sl_trace.specs.declared.effects.Start.{Start}
use Rattle.sl_trace.specs.declared.reply.Limited.TheVariants.{Children, Holders, Resources}
use Rattle.sl_trace.specs.declared.reply.Limited.{Limited}
use Rattle.sl_trace.specs.declared.reply.Reply.TheVariants.{Busy, Generation, IoTimeout, Joining as StillJoining, Limit as LimitReached, NoProcess, NoSession, Pending, Recovering}
use Rattle.sl_trace.specs.declared.reply.Reply.{Reply}
use Rattle.sl_words.proofs.CaseLaws.{false_is_true, none_some, not_both, some_value, true_is_false}
use Rattle.sl_words.proofs.WordLaws.{and_true, choose_some}
use Rattle.sl_words.specs.Words.{choose}
use Rattle.std.proofs.Common.{ap, inl, inr, refl, subst, sym, ◌∙◌}
use Rattle.std.specs.Option.{option_or}
use Rattle.std.specs.Prelude.{Bool, Err, IsFalse, IsSome, IsSomeAnd, IsTrue, List, None, Ok, Option, Result, Some, [], cond, false, filter, find, is_none, is_some, length, not, option_and_then, option_map, true, ℕ, ◌&&◌, ◌+◌, ◌==◌, ◌∷◌, ◌≡◌, ◌⊎◌}

-- ---- refusals in turn

abbrev pub AllWell : Answering → List (Option Reply) → Type 0
AllWell y [] = Unit {0}
AllWell y (o ∷ os) = ((r : Reply) → o ≡ Some r → CausedBy y r) × AllWell y os

abbrev NoneOf : List (Option Reply) → Type 0
NoneOf [] = Unit {0}
NoneOf (o ∷ os) = (o ≡ None) × NoneOf os

by_refusal : (y : Answering) (o : Option Reply) (d : Decision) → ((r : Reply) → o ≡ Some r → CausedBy y r) → (o ≡ None → WellDecided y d) → WellDecided y (elim o as (λ z. Decision) [ Some why ↦ Replies why | None ↦ d ])
by_refusal y (Some r) d well rest = well r refl
by_refusal y None d well rest = rest refl

pub unless_well : (y : Answering) (os : List (Option Reply)) (d : Decision) → AllWell y os → (NoneOf os → WellDecided y d) → WellDecided y (unless_refused os d)
unless_well y [] d h k = k tt
unless_well y (o ∷ os) d h k = by_refusal y o (unless_refused os d) h.0 (λ none. unless_well y os d h.1 (λ rest. k (none, rest)))

-- ---- the session

pub session_is : (y : Answering) (c : Command) (name : List ℕ) → y.job.command ≡ Ok c → lockspace_named c ≡ Some name → the_session y ≡ session_named y.setting (before_entry y) name
session_is y c name command names =
    ap (λ (r : Result Command ℕ). elim r as (λ z. Option Session) [ Ok d ↦ option_and_then (session_named y.setting (before_entry y)) (lockspace_named d) | Err e ↦ None ]) command
    ∙ ap (λ o. option_and_then (session_named y.setting (before_entry y)) o) names

unnamed : (y : Answering) (c : Command) (name : List ℕ) → AtLine y c → lockspace_named c ≡ Some name → is_joining_command c ≡ false
    → (the_session y ≡ None) ⊎ WithSession y (λ s. IsSomeAnd (lockspace_arg c) (λ a. IsFalse (is_session_arg s a))) → CausedBy y NoSession
unnamed y c name h names other none = (
  h.at,
  with_command y c (λ d. IsFalse (is_joining_command d) × IsSome (lockspace_named d) × ((the_session y ≡ None) ⊎ WithSession y (λ s. IsSomeAnd (lockspace_arg d) (λ a. IsFalse (is_session_arg s a))))) h.command
      (other, ap (λ o. is_some o) names, none),
)

-- A command on the session of a name.
pub where_named : (y : Answering) (c : Command) (name : List ℕ) (os : Session → List (Option Reply)) (f : Session → Decision) → AtLine y c → lockspace_named c ≡ Some name → is_joining_command c ≡ false
    → ((s : Session) → the_session y ≡ Some s → AllWell y (os s)) → ((s : Session) → the_session y ≡ Some s → NoneOf (os s) → WellDecided y (f s))
    → WellDecided y (where_session (session_named y.setting (before_entry y) name) (λ s. unless_refused (os s) (f s)))
where_named y c name os f h names other well last = by (session_named y.setting (before_entry y) name) (session_is y c name h.command names) where
  by : (o : Option Session) → the_session y ≡ o → WellDecided y (where_session o (λ s. unless_refused (os s) (f s)))
  by None is = unnamed y c name h names other (inl is)
  by (Some s) is = unless_well y (os s) (f s) (well s is) (last s is)

-- .. of all parts of a lockspace's name.
pub where_matched : (y : Answering) (c : Command) (a : LockspaceArg) (os : Session → List (Option Reply)) (f : Session → Decision) → AtLine y c → lockspace_named c ≡ Some a.name → is_joining_command c ≡ false → lockspace_arg c ≡ Some a
    → ((s : Session) → the_session y ≡ Some s → AllWell y (os s)) → ((s : Session) → the_session y ≡ Some s → is_session_arg s a ≡ true → NoneOf (os s) → WellDecided y (f s))
    → WellDecided y (where_session (matching_session y.setting (before_entry y) a) (λ s. unless_refused (os s) (f s)))
where_matched y c a os f h names other arg well last = by (session_named y.setting (before_entry y) a.name) (session_is y c a.name h.command names) where
  fits : (s : Session) → the_session y ≡ Some s → (b : Bool) → is_session_arg s a ≡ b → WellDecided y (where_session (choose b s) (λ s. unless_refused (os s) (f s)))
  fits s is true right = unless_well y (os s) (f s) (well s is) (last s is right)
  fits s is false wrong =
      unnamed y c a.name h names other
      (inr (with_session y s (λ s. IsSomeAnd (lockspace_arg c) (λ a. IsFalse (is_session_arg s a))) is (subst (λ o. IsSomeAnd o (λ a. IsFalse (is_session_arg s a))) (sym arg) wrong)))

  by : (o : Option Session) → the_session y ≡ o → WellDecided y (where_session (option_and_then (λ s. choose (is_session_arg s a) s) o) (λ s. unless_refused (os s) (f s)))
  by None is = unnamed y c a.name h names other (inl is)
  by (Some s) is = fits s is (is_session_arg s a) refl

-- ---- what its state refuses

-- No joining is ended by what comes before an input.
early_undone : (r : Reply) → is_before_input r ≡ true → is_join_done r ≡ false
early_undone (IoTimeout call from to) h = refl
early_undone (Recovering t) h = refl
early_undone (Generation g) h = absurd (false_is_true h)
early_undone r h = absurd (false_is_true h)

pub unjoined_early : (past : Trace) (now : ℕ) (ks : List Start) (rs : List JobReply) (s : Session) → joined_after past s ≡ None → joined_after (early_entry now ks (filter (λ (a : JobReply). is_before_input a.reply) rs) ∷ past) s ≡ None
unjoined_early past now ks rs s none = of_job s.job none where
  early : List JobReply
  early = filter (λ (a : JobReply). is_before_input a.reply) rs

  new : (j : ℕ) (o : Option JobReply) → find (λ (a : JobReply). a.job == j) early ≡ o
      → option_and_then (λ (r : Replied). choose (is_join_done r.reply) (r.at + 1)) (option_map (λ (a : JobReply). record { at = length past; reply = a.reply }) o) ≡ None
  new j None is = refl
  new j (Some a) is =
      let there = (find_inside (λ (b : JobReply). b.job == j) early a is).0 in
      ap (λ b. choose b (length past + 1)) (early_undone a.reply (kept_inside (λ (b : JobReply). is_before_input b.reply) rs a there).1)

  of_reply : (j : ℕ) (o : Option Replied) → option_and_then (λ (r : Replied). choose (is_join_done r.reply) (r.at + 1)) o ≡ None
      → option_and_then (λ (r : Replied). choose (is_join_done r.reply) (r.at + 1)) (elim o as (λ z. Option Replied) [
        | Some r ↦ Some r
        | None ↦ option_map (λ (a : JobReply). record { at = length past; reply = a.reply }) (find (λ (a : JobReply). a.job == j) early)
      ]) ≡ None
  of_reply j (Some r) un = un
  of_reply j None un = new j (find (λ (a : JobReply). a.job == j) early) refl

  of_job : (o : Option ℕ) → elim o as (λ z. Option ℕ) [ None ↦ Some 0 | Some j ↦ option_and_then (λ (r : Replied). choose (is_join_done r.reply) (r.at + 1)) (reply_to past j) ] ≡ None
      → elim o as (λ z. Option ℕ) [
        | None ↦ Some 0
        | Some j ↦ option_and_then (λ (r : Replied). choose (is_join_done r.reply) (r.at + 1)) (reply_to (early_entry now ks early ∷ past) j)
      ] ≡ None
  of_job None un = absurd (none_some 0 (sym un))
  of_job (Some j) un = of_reply j (reply_to past j) un

joined_early : (y : Answering) (s : Session) → is_joined (before_entry y) s ≡ true → is_joined y.past s ≡ true
joined_early y s is = by (joined_after y.past s) refl where
  e : Entry
  e = early_entry y.entry.reading (filter (λ (k : Start). is_some k.stands_for) y.entry.effects.starts) (filter (λ (a : JobReply). is_before_input a.reply) y.entry.effects.replies)

  by : (o : Option ℕ) → joined_after y.past s ≡ o → is_joined y.past s ≡ true
  by (Some k) was = joined_before y.past e s (ap (λ o. is_some o) was) is
  by None un =
      absurd (false_is_true (sym (ap (λ o. is_some o) (unjoined_early y.past y.entry.reading (filter (λ (k : Start). is_some k.stands_for) y.entry.effects.starts) y.entry.effects.replies s un))
      ∙ (and_true (is_some (joined_after (before_entry y) s)) _ is).0))

pub off_last : (a b c : Bool) → c ≡ false → (a && b && c) ≡ false
off_last true true false c = refl
off_last true false false c = refl
off_last false true false c = refl
off_last false false false c = refl
off_last a b true c = absurd (true_is_false c)

-- Who isn't active before the input isn't so in the entry.
pub inactive : (y : Answering) (ks : List Start) (rs : List JobReply) (s : Session) → let t : Trace = early_entry y.entry.reading ks rs ∷ y.past in
    is_joined t s ≡ true → is_active y.setting t s ≡ false → is_active y.setting (after_entry y) s ≡ false
inactive y ks rs s joined idle = by (recovery_of st t s) refl (leaving_job st y.past s) refl where
  st : Setting
  st = y.setting

  t : Trace
  t = early_entry y.entry.reading ks rs ∷ y.past

  u : Trace
  u = after_entry y

  by : (o : Option Begun) → recovery_of st t s ≡ o → (l : Option Job) → leaving_job st y.past s ≡ l → is_active st u s ≡ false
  by (Some b) begun l leaves = off (is_joined u s) (is_none (recovery_of st u s)) (is_none (leaving_job st u s)) (is_nothing (recovery_of st u s) (by_time st y.past y.entry.reading y.entry.input s (ap (λ o. is_some o) begun)))
  by None begun (Some j) leaves =
      off_last (is_joined u s) (is_none (recovery_of st u s)) (is_none (leaving_job st u s)) (ap (λ o. is_none (elim o as (λ z. Option Job) [ Some k ↦ Some k | None ↦ leaving_in st y.past s y.entry ])) leaves)
  by None begun None leaves =
      let active : is_active st t s ≡ true =
      ap (λ b. b && is_none (recovery_of st t s) && is_none (leaving_job st t s)) joined
      ∙ (ap (λ o. is_none o && is_none (leaving_job st t s)) begun ∙ ap (λ o. is_none (elim o as (λ z. Option Job) [ Some k ↦ Some k | None ↦ None ])) leaves) in
      absurd (not_both (is_active st t s) active idle)

pub session_well : (y : Answering) (c : Command) (s : Session) → AtLine y c → the_session y ≡ Some s → (r : Reply) → session_refusal y.setting (before_entry y) s ≡ Some r → CausedBy y r
session_well y c s h found r = by (is_joined t s) refl where
  t : Trace
  t = before_entry y

  by : (b : Bool) → is_joined t s ≡ b → cond (not b) (Some StillJoining) (choose (not (is_active y.setting t s)) (Recovering (last_renewal y.setting t s))) ≡ Some r → CausedBy y r
  by false joining is = subst (λ q. CausedBy y q) (some_value StillJoining r is) (h.at, with_session y s (λ s. IsFalse (is_joined (before_entry y) s)) found joining)
  by true joined is =
      let v = choose_some (not (is_active y.setting t s)) (Recovering (last_renewal y.setting t s)) r is in
      subst (λ q. CausedBy y q) v.1
      (with_session y s (λ z. IsTrue (is_joined y.past z) × IsFalse (is_active y.setting (after_entry y) z) × (last_renewal y.setting (before_entry y) z ≡ last_renewal y.setting (before_entry y) s)) found
      (joined_early y s joined, inactive y (filter (λ (k : Start). is_some k.stands_for) y.entry.effects.starts) (filter (λ (a : JobReply). is_before_input a.reply) y.entry.effects.replies) s joined (not_is (is_active y.setting t s) v.0), refl))

pub session_active : (st : Setting) (es : Trace) (s : Session) → session_refusal st es s ≡ None → is_active st es s ≡ true
session_active st es s = by (is_joined es s) (is_active st es s) where
  by : (b a : Bool) → cond (not b) (Some StillJoining) (choose (not a) (Recovering (last_renewal st es s))) ≡ None → a ≡ true
  by true true none = refl
  by true false none = absurd (none_some (Recovering (last_renewal st es s)) (sym none))
  by false a none = absurd (none_some StillJoining (sym none))

-- ---- what else refuses a command

pub process_well : (y : Answering) (c : Command) (p : ℕ) → AtLine y c → process_named c ≡ Some p → (r : Reply) → process_refusal (before_entry y) p ≡ Some r → CausedBy y r
process_well y c p h names r is =
    let v = choose_some (not (may_act (before_entry y) p)) (NoProcess p) r is in
    subst (λ q. CausedBy y q) v.1 (inr (h.at, not_is (may_act (before_entry y) p) v.0, with_command y c (λ d. process_named d ≡ Some p) h.command names))

pub asking_well : (y : Answering) (c : Command) (asking : Option ℕ) → AtLine y c → process_named c ≡ asking → (r : Reply) → option_and_then (process_refusal (before_entry y)) asking ≡ Some r → CausedBy y r
asking_well y c None h names r is = absurd (none_some r is)
asking_well y c (Some p) h names r is = process_well y c p h names r is

pub busy_well : (y : Answering) (c : Command) (r : ResourceArg) (asking : Option ℕ) → AtLine y c → is_asking_lease c ≡ true → resource_named c ≡ Some r → process_named c ≡ asking
    → (why : Reply) → busy_refusal (before_entry y) (spot_of r) asking (wants_shared c) ≡ Some why → CausedBy y why
busy_well y c r asking h asks names named why is =
    let v = mapped_value (λ p. Busy p) (busy_process (before_entry y) (spot_of r) asking (wants_shared c)) why is in
    subst (λ q. CausedBy y q) v.2 (
      h.at,
      inl (with_command y c (λ d. IsTrue (is_asking_lease d) × WithSpot y (λ b at. busy_process (before_entry y) at (process_named d) (wants_shared d) ≡ Some v.0)) h.command (
        asks,
        with_spot y c r (λ b at. busy_process (before_entry y) at (process_named c) (wants_shared c) ≡ Some v.0) h.command names
            (ap (λ o. busy_process (before_entry y) (spot_of r) o (wants_shared c)) named ∙ v.1),
      )),
    )

pub pending_well : (y : Answering) (c : Command) (r : ResourceArg) → AtLine y c → resource_named c ≡ Some r → (why : Reply) → pending_refusal y.setting (before_entry y) (spot_of r) ≡ Some why → CausedBy y why
pending_well y c r h names why is =
    let v = mapped_value (λ n. Pending n) (pending_call y.setting (before_entry y) (spot_of r)) why is in
    subst (λ q. CausedBy y q) v.2 (h.at, with_spot y c r (λ b at. pending_call y.setting (before_entry y) at ≡ Some v.0) h.command names v.1)

met_which : (a b c : Bool) (l : Limited) → option_or (choose a Resources) (option_or (choose b Holders) (choose c Children)) ≡ Some l → (Resources ≡ l) ⊎ (Holders ≡ l) ⊎ (Children ≡ l)
met_which true b c l is = inl (some_value Resources l is)
met_which false true c l is = inr (inl (some_value Holders l is))
met_which false false true l is = inr (inr (some_value Children l is))
met_which false false false l is = absurd (none_some l is)

pub limit_well : (y : Answering) (c : Command) (r : ResourceArg) (s : Session) → AtLine y c → the_session y ≡ Some s → is_asking_lease c ≡ true → resource_named c ≡ Some r → (program : Bool) → is_program c ≡ program
    → (why : Reply) → limit_refusal y.setting (before_entry y) s (spot_of r) program ≡ Some why → CausedBy y why
limit_well y c r s h found asks names program starts why is = subst (λ q. CausedBy y q) v.2 (by (met_which _ _ _ v.0 v.1)) where
  v : (l : Limited) × (limit_met y.setting (before_entry y) s (spot_of r) program ≡ Some l) × (LimitReached l ≡ why)
  v = mapped_value (λ l. LimitReached l) (limit_met y.setting (before_entry y) s (spot_of r) program) why is

  meets : MeetsLimit y v.0
  meets = (
    h.at,
    with_session y s (λ s. job_command y (λ c. IsTrue (is_asking_lease c) × WithSpot y (λ r at. limit_met y.setting (before_entry y) s at (is_program c) ≡ Some v.0))) found
        (with_command y c (λ c. IsTrue (is_asking_lease c) × WithSpot y (λ r at. limit_met y.setting (before_entry y) s at (is_program c) ≡ Some v.0)) h.command (
          asks,
          with_spot y c r (λ r at. limit_met y.setting (before_entry y) s at (is_program c) ≡ Some v.0) h.command names (ap (λ b. limit_met y.setting (before_entry y) s (spot_of r) b) starts ∙ v.1),
        )),
  )

  by : (Resources ≡ v.0) ⊎ (Holders ≡ v.0) ⊎ (Children ≡ v.0) → IsLimit y v.0
  by (inl same) = subst (λ l. IsLimit y l) same (subst (λ l. MeetsLimit y l) (sym same) meets)
  by (inr (inl same)) = subst (λ l. IsLimit y l) same (subst (λ l. MeetsLimit y l) (sym same) meets)
  by (inr (inr same)) = subst (λ l. IsLimit y l) same (subst (λ l. MeetsLimit y l) (sym same) meets)
