-- The causes of what is refused as recovery begins.
use Rattle.sl_due_facts.specs.Acts.TraceSoFar.{entry_of}
use Rattle.sl_due_law.proofs.Causes.LaterSteps.{Going, before_later}
use Rattle.sl_due_law.proofs.Causes.NamesBefore.{session_then, with_session}
use Rattle.sl_due_law.specs.Causes.CausedSoFar.{IsLater, StaysCaused, answering}
use Rattle.sl_due.specs.Steps.{Step, seen}
use Rattle.sl_due_leases.proofs.Holdings.PlainPlaces.{text_is}
use Rattle.sl_due_facts.proofs.Jobs.JobsAreNumbered.{command_read, found_after, numbered_stays, next_is_new}
use Rattle.sl_run.specs.Caused.{Answering, CausedBy, after_entry, before_entry}
use Rattle.sl_trace.specs.Jobs.{command_of, is_command_that, jobs_of_session, lockspace_named}
use Rattle.sl_words.proofs.Lists.{contains_cases, contains_none, kept_inside}
use Rattle.sl_words.proofs.Numbers.{number_itself}
use Rattle.sl_trace.specs.Sessions.{has_open_write, is_active, is_joined, is_present, joined_after, refused_after, removed_after, removed_in, last_renewal, leaving_job, recovers, recovery_of, renewed_by, renewing, renewing_after, sessions, shows_other}
use Rattle.sl_trace.specs.declared.session.Begun.{Begun}
use Rattle.sl_trace.specs.declared.session.Renewing.{Renewing}
use Rattle.sl_trace.specs.declared.session.Session.{Session}
use Rattle.sl_due_facts.specs.Facts.AllFacts.{WholeTrace}
use Rattle.sl_time.specs.Times.{fail}
use Rattle.sl_trace.specs.Traces.{Job, Setting, Trace, is_running, job_in, job_numbered, jobs, line_in, next_job, no_effects, running_jobs}
use Rattle.sl_trace.specs.declared.command.Command.{Command}
use Rattle.sl_trace.specs.declared.effects.Entry.{Entry}
use Rattle.sl_trace.specs.declared.input.Input.TheVariants.{Wake}
use Rattle.sl_trace.specs.declared.input.Input.{Input}
use Rattle.sl_trace.specs.declared.reply.Reply.TheVariants.{Recovering}
use Rattle.sl_trace.specs.declared.reply.Reply.{Reply}
use Rattle.sl_run_law.proofs.Sessions.MarksStay.{joined_more}
use Rattle.sl_words.proofs.CaseLaws.{false_is_true, one_value}
use Rattle.sl_words.proofs.WordLaws.{and_true, some_is_true}
use Rattle.sl_words.specs.Words.{some_is}
use Rattle.std.proofs.Common.{ap, ap₂, inl, inr, refl, subst, sym, ◌∙◌}
use Rattle.std.proofs.lemmas.List.Elements.{Contains-append_cases}
use Rattle.std.proofs.lemmas.List.{append-nil}
use Rattle.std.specs.Option.{unwrap_or}
use Rattle.std.specs.Prelude.{Bool, Contains, IsFalse, IsTrue, List, None, Ok, Option, Some, [], bytes_eq, cond, false, find, is_none, is_some, length, nat_le, true, ℕ, ◌&&◌, ◌++◌, ◌+◌, ◌==◌, ◌∷◌, ◌≡◌, ◌||◌, ◌⊎◌}

-- ---- how a session stands with its renewals in an entry with this input

abbrev pub stands_at : Setting → Trace → ℕ → Input → Session → Renewing
stands_at st past now i s = renewing_after st past s (renewing st past s) (record { reading = now; input = i; effects = no_effects })

-- Recovery that begins by time is not undone by the input.
pub by_time : (st : Setting) (past : Trace) (now : ℕ) (i : Input) (s : Session) → is_some (stands_at st past now Wake s).recovery ≡ true → is_some (stands_at st past now i s).recovery ≡ true
by_time st past now i s = by (renewing st past s) ((renewing st past s).recovery) refl (is_joined past s && nat_le ((renewing st past s).last + fail st.timing) now) (is_joined past s) where
  e : Input → Entry
  e k = record { reading = now; input = k; effects = no_effects }

  by : (r : Renewing) (o : Option Begun) → r.recovery ≡ o → (time joined : Bool)
      → is_some (elim o as (λ z. Renewing) [
        | Some b ↦ r
        | None ↦ elim time as (λ z. Renewing) [
          | true ↦ recovers past (e Wake) (length past) r
          | false ↦ elim (joined && false) as (λ z. Renewing) [ true ↦ recovers past (e Wake) (length past + 1) r | false ↦ record r { last = unwrap_or (renewed_by past s Wake) r.last } ]
        ]
      ]).recovery ≡ true
      → is_some (elim o as (λ z. Renewing) [
        | Some b ↦ r
        | None ↦ elim time as (λ z. Renewing) [
          | true ↦ recovers past (e i) (length past) r
          | false ↦ elim (joined && shows_other st past s i) as (λ z. Renewing) [ true ↦ recovers past (e i) (length past + 1) r | false ↦ record r { last = unwrap_or (renewed_by past s i) r.last } ]
        ]
      ]).recovery ≡ true
  by r (Some b) is time joined h = h
  by r None is true joined h = refl
  by r None is false true h = absurd (false_is_true (sym (ap (λ o. is_some o) is) ∙ h))
  by r None is false false h = absurd (false_is_true (sym (ap (λ o. is_some o) is) ∙ h))

-- The last renewal is as it was, unless the input answers one.
pub last_stays : (st : Setting) (past : Trace) (now : ℕ) (i : Input) (s : Session) → renewed_by past s i ≡ None → (stands_at st past now i s).last ≡ (renewing st past s).last
last_stays st past now i s none =
    by (renewing st past s) ((renewing st past s).recovery) (is_joined past s && nat_le ((renewing st past s).last + fail st.timing) now) (is_joined past s && shows_other st past s i)
  where
    e : Entry
    e = record { reading = now; input = i; effects = no_effects }

    by : (r : Renewing) (o : Option Begun) (time read : Bool)
        → (elim o as (λ z. Renewing) [
          | Some b ↦ r
          | None ↦ elim time as (λ z. Renewing) [
            | true ↦ recovers past e (length past) r
            | false ↦ elim read as (λ z. Renewing) [ true ↦ recovers past e (length past + 1) r | false ↦ record r { last = unwrap_or (renewed_by past s i) r.last } ]
          ]
        ]).last ≡ r.last
    by r (Some b) time read = refl
    by r None true read = refl
    by r None false true = refl
    by r None false false = ap (λ o. unwrap_or o r.last) none

-- ---- jobs

-- A job is found by its number.
pub numbered_is : (st : Setting) (es : Trace) (j : Job) → Contains (jobs st es) j → job_numbered st es j.number ≡ Some j
numbered_is st [] j there = absurd (contains_none j there)
numbered_is st (e ∷ es) j there = by (Contains-append_cases (jobs st es) (job_in st es (next_job st es) e) j there) (λ old. numbered_stays st e es j.number j (numbered_is st es j old)) where
  new : (o : Option (List ℕ)) → line_in e.input ≡ o
      → Contains (elim o as (λ z. List Job) [ None ↦ [] | Some text ↦ record { number = next_job st es; at = length es; reading = e.reading; command = st.read text } ∷ [] ]) j → job_numbered st (e ∷ es) j.number ≡ Some j
  new None is h = absurd (contains_none j h)
  new (Some text) is h = only (contains_cases made [] j h) where
    made : Job
    made = record { number = next_job st es; at = length es; reading = e.reading; command = st.read text }

    it : job_numbered st (e ∷ es) made.number ≡ Some made
    it =
        found_after (λ (k : Job). k.number == next_job st es) (jobs st es) (job_in st es (next_job st es) e) (next_is_new st es)
        ∙ (ap (λ (q : Option (List ℕ)). find (λ (k : Job). k.number == next_job st es) (elim q as (λ z. List Job) [ None ↦ [] | Some t ↦ record { number = next_job st es; at = length es; reading = e.reading; command = st.read t } ∷ [] ])) is
        ∙ ap (λ b. cond b (Some made) None) (number_itself (next_job st es)))

    only : (made ≡ j) ⊎ Contains [] j → job_numbered st (e ∷ es) j.number ≡ Some j
    only (inr none) = absurd (contains_none j none)
    only (inl same) = subst (λ (k : Job). job_numbered st (e ∷ es) k.number ≡ Some k) same it

  by : Contains (jobs st es) j ⊎ Contains (job_in st es (next_job st es) e) j → (Contains (jobs st es) j → job_numbered st (e ∷ es) j.number ≡ Some j) → job_numbered st (e ∷ es) j.number ≡ Some j
  by (inl old) more = more old
  by (inr h) more = new (line_in e.input) refl h

-- Without a line the jobs are those of before.
pub jobs_past : (st : Setting) (past : Trace) (e : Entry) → line_in e.input ≡ None → jobs st (e ∷ past) ≡ jobs st past
jobs_past st past e none =
    ap (λ (q : Option (List ℕ)). jobs st past ++ elim q as (λ z. List Job) [ None ↦ [] | Some text ↦ record { number = next_job st past; at = length past; reading = e.reading; command = st.read text } ∷ [] ]) none
    ∙ append-nil (jobs st past)

-- Its command names the session's lockspace.
pub record Names (j : Job) (s : Session) : Type 0 where
  pub command : Command
  pub says : j.command ≡ Ok command
  pub names : lockspace_named command ≡ Some s.lockspace

pub names_of : (j : Job) (s : Session) → is_command_that (λ c. some_is (λ n. bytes_eq n s.lockspace) (lockspace_named c)) j ≡ true → Names j s
names_of j s is =
    let c = some_is_true (λ d. some_is (λ n. bytes_eq n s.lockspace) (lockspace_named d)) (command_of j) is in
    let n = some_is_true (λ k. bytes_eq k s.lockspace) (lockspace_named c.0) c.2 in
    record { command = c.0; says = command_read j c.0 c.1; names = n.1 ∙ ap (λ k. Some k) (text_is n.0 s.lockspace n.2) }

-- ---- the cause

pub off : (a b c : Bool) → b ≡ false → (a && b && c) ≡ false
off true false c is = refl
off false false c is = refl
off a true c is = absurd (false_is_true (sym is))

pub is_nothing : {A : Type 0} (o : Option A) → is_some o ≡ true → is_none o ≡ false
is_nothing (Some a) h = refl
is_nothing None h = absurd (false_is_true h)

caused_at : (z : Step) (s : Session) (j : Job) (t : ℕ) → WholeTrace z.setting z.past → Contains (sessions z.setting z.past) s → is_joined z.past s ≡ true → is_some (recovery_of z.setting (seen z) s) ≡ true
    → (renewing z.setting z.past s).last ≡ t → Names j s → CausedBy (answering z j) (Recovering t)
caused_at z s j t w there joined begun last n =
    with_session y s (λ s. IsTrue (is_joined y.past s) × IsFalse (is_active y.setting (after_entry y) s) × (last_renewal y.setting (before_entry y) s ≡ t))
    (session_then y n.command s w there joined n.says n.names) (
      joined,
      off (is_joined (seen z) s) (is_none (recovery_of z.setting (seen z) s)) (is_none (leaving_job z.setting (seen z) s)) (is_nothing (recovery_of z.setting (seen z) s) begun),
      last_stays z.setting z.past z.reading Wake s refl ∙ last,
    )
  where
    y : Answering
    y = answering z j

-- Where the recovery of a session has begun its jobs may be refused.
pub stop_caused : (these : Reply → Bool) (x z : Step) (s : Session) (j : Job) → WholeTrace x.setting x.past → Contains (sessions x.setting x.past) s → is_joined x.past s ≡ true → line_in x.input ≡ None
    → renewed_by x.past s x.input ≡ None → ((u : Step) → IsLater x u → is_some (recovery_of u.setting (seen u) s) ≡ true) → Going these x z → Contains (jobs_of_session z.setting (seen z) s) j
    → StaysCaused x (record { job = j.number; reply = Recovering (last_renewal z.setting (seen z) s) })
stop_caused these x z s j w there joined none unrenewed begun g inside u later jb found =
    caused_at u s jb t (before_later x u later w) (subst (λ st. Contains (sessions st u.past) s) (sym later.setting) (subst (λ past. Contains (sessions x.setting past) s) (sym later.before) there))
    (subst (λ past. is_joined past s ≡ true) (sym later.before) joined) (begun u later)
    (ap (λ st. (renewing st u.past s).last) later.setting ∙ (ap (λ past. (renewing x.setting past s).last) later.before ∙ sym told)) (subst (λ (k : Job). Names k s) same names)
  where
    t : ℕ
    t = last_renewal z.setting (seen z) s

    told : t ≡ (renewing x.setting x.past s).last
    told =
        ap (λ st. (stands_at st z.past z.reading z.input s).last) g.later.setting
        ∙ (ap (λ past. (stands_at x.setting past z.reading z.input s).last) g.later.before
        ∙ (ap (λ n. (stands_at x.setting x.past n z.input s).last) g.later.reading
        ∙ (ap (λ i. (stands_at x.setting x.past x.reading i s).last) g.input ∙ last_stays x.setting x.past x.reading x.input s unrenewed)))

    member : Contains (running_jobs z.setting (seen z)) j × (is_command_that (λ c. some_is (λ n. bytes_eq n s.lockspace) (lockspace_named c)) j ≡ true)
    member = kept_inside (is_command_that (λ c. some_is (λ n. bytes_eq n s.lockspace) (lockspace_named c))) (running_jobs z.setting (seen z)) j inside

    names : Names j s
    names = names_of j s member.1

    before : Contains (jobs x.setting x.past) j
    before =
        subst (λ past. Contains (jobs x.setting past) j) g.later.before (subst (λ st. Contains (jobs st z.past) j) g.later.setting
        (subst (λ js. Contains js j) (jobs_past z.setting z.past (entry_of z) (ap (λ i. line_in i) g.input ∙ none)) (kept_inside (λ (k : Job). is_running (seen z) k.number) (jobs z.setting (seen z)) j member.0).0))

    same : j ≡ jb
    same =
        one_value j jb (job_numbered u.setting (seen u) j.number)
        (numbered_stays u.setting (entry_of u) u.past j.number j
        (ap (λ st. job_numbered st u.past j.number) later.setting ∙ (ap (λ past. job_numbered x.setting past j.number) later.before ∙ numbered_is x.setting x.past j before))) found

-- Recovery by time, told on the wake that begins the step; or by the read that the input brings.
pub begun_by_time : (x : Step) (s : Session) → x.input ≡ Wake → is_some (recovery_of x.setting (seen x) s) ≡ true → (u : Step) → IsLater x u → is_some (recovery_of u.setting (seen u) s) ≡ true
begun_by_time x s wake begun u later =
    ap (λ st. is_some (stands_at st u.past u.reading u.input s).recovery) later.setting
    ∙ (ap (λ past. is_some (stands_at x.setting past u.reading u.input s).recovery) later.before
    ∙ (ap (λ n. is_some (stands_at x.setting x.past n u.input s).recovery) later.reading
    ∙ by_time x.setting x.past x.reading u.input s (ap (λ i. is_some (stands_at x.setting x.past x.reading i s).recovery) (sym wake) ∙ begun)))

pub begun_by_read : (x : Step) (s : Session) → (x.input ≡ Wake → ⊥) → is_some (recovery_of x.setting (seen x) s) ≡ true → (u : Step) → IsLater x u → is_some (recovery_of u.setting (seen u) s) ≡ true
begun_by_read x s told begun u later =
    ap (λ st. is_some (stands_at st u.past u.reading u.input s).recovery) later.setting
    ∙ (ap (λ past. is_some (stands_at x.setting past u.reading u.input s).recovery) later.before
    ∙ (ap (λ n. is_some (stands_at x.setting x.past n u.input s).recovery) later.reading
    ∙ (ap (λ i. is_some (stands_at x.setting x.past x.reading i s).recovery) (later.carried told).input ∙ begun)))

-- ---- the session

-- The same moment of a step, but for its effects.
pub recovery_same : (x y : Step) (s : Session) → IsLater x y → y.input ≡ x.input → recovery_of x.setting (seen x) s ≡ recovery_of y.setting (seen y) s
recovery_same x y s later input =
    sym (ap (λ st. (stands_at st y.past y.reading y.input s).recovery) later.setting
    ∙ (ap (λ past. (stands_at x.setting past y.reading y.input s).recovery) later.before
    ∙ (ap (λ n. (stands_at x.setting x.past n y.input s).recovery) later.reading ∙ ap (λ i. (stands_at x.setting x.past x.reading i s).recovery) input)))

unremoved : (past : Trace) (e : Entry) (s : Session) → is_none (removed_after (e ∷ past) s) ≡ true → is_none (removed_after past s) ≡ true
unremoved past e s = by (removed_after past s) where
  by : (o : Option ℕ) → is_none (elim o as (λ z. Option ℕ) [ Some i ↦ Some i | None ↦ removed_in past s e ]) ≡ true → is_none o ≡ true
  by None h = refl
  by (Some i) h = h

-- Who is joined in an entry, and was not first in it, was joined before it.
pub joined_before : (past : Trace) (e : Entry) (s : Session) → is_some (joined_after past s) ≡ true → is_joined (e ∷ past) s ≡ true → is_joined past s ≡ true
joined_before past e s was is =
    let v = and_true (is_some (joined_after (e ∷ past) s)) (is_none (removed_after (e ∷ past) s)) is in ap₂ (λ a b. a && b) was (unremoved past e s v.1)

-- The trace on the wake that begins a step.
abbrev pub seen_first : Trace → ℕ → Trace
seen_first past now = record { reading = now; input = Wake; effects = no_effects } ∷ past

pub present_joined : (past : Trace) (now : ℕ) (s : Session) → is_some (joined_after past s) ≡ true → is_present (seen_first past now) s ≡ true → is_joined past s ≡ true
present_joined past now s was present = by (joined_after past s) refl was where
  e : Entry
  e = record { reading = now; input = Wake; effects = no_effects }

  standing : (o q r : Option ℕ) (b : Bool) → is_some o ≡ true → (is_none (elim o as (λ z. Option ℕ) [ Some k ↦ q | None ↦ r ]) || is_none o && b) ≡ true → is_none q ≡ true
  standing (Some k) None r b h is = refl
  standing (Some k) (Some i) r true h is = absurd (false_is_true is)
  standing (Some k) (Some i) r false h is = absurd (false_is_true is)
  standing None q r b h is = absurd (false_is_true h)

  by : (o : Option ℕ) → joined_after past s ≡ o → is_some o ≡ true → is_joined past s ≡ true
  by (Some k) is h =
      ap₂ (λ a b. a && b) was
      (unremoved past e s (standing (joined_after (e ∷ past) s) (removed_after (e ∷ past) s) (refused_after (e ∷ past) s) (has_open_write (e ∷ past) s) (ap (λ q. is_some q) (joined_more e past s k is)) present))
  by None is h = absurd (false_is_true h)
