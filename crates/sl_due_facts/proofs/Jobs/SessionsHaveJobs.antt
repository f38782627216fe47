-- What began a session or its leaving: a command of the job that it names.
use Rattle.sl_due_facts.proofs.Acts.AddedAtEnd.{not_is}
use Rattle.sl_due_facts.proofs.Jobs.JobsAreNumbered.{command_stays, line_is, number_below, numbered_stays}
use Rattle.sl_trace.specs.Jobs.{command_numbered, command_of}
use Rattle.sl_words.proofs.Lists.{contains_cases, contains_first, contains_more, contains_none, in_map}
use Rattle.sl_words.proofs.Options.{then_value}
use Rattle.sl_trace.specs.Sessions.{added, added_by, begun_in, given_session, is_join_call, is_joined, is_session_arg, joining_session, leaves, leaving_in, leaving_job, sessions}
use Rattle.sl_trace.specs.declared.session.Session.{Session}
use Rattle.sl_trace.specs.Traces.{Job, Setting, Trace, job_numbered, line_in, next_job}
use Rattle.sl_trace.specs.declared.command.Command.{Command}
use Rattle.sl_trace.specs.declared.command.Command.TheVariants.{AddLockspace, RemLockspace}
use Rattle.sl_trace.specs.declared.command.LockspaceArg.{LockspaceArg}
use Rattle.sl_trace.specs.declared.effects.Entry.{Entry}
use Rattle.sl_trace.specs.declared.effects.JobReply.{JobReply}
use Rattle.sl_trace.specs.declared.effects.JoinStep.TheVariants.{FirstRead}
use Rattle.sl_trace.specs.declared.input.Given.{Given}
use Rattle.sl_trace.specs.declared.input.Input.{Input}
use Rattle.sl_trace.specs.declared.input.Input.TheVariants.{Line}
use Rattle.sl_words.proofs.CaseLaws.{false_is_true, none_some, some_value}
use Rattle.sl_words.proofs.WordLaws.{and_true, choose_some}
use Rattle.sl_words.specs.Words.{choose}
use Rattle.std.proofs.Common.{ap, arith, inl, inr, refl, subst, sym, ◌∙◌}
use Rattle.std.specs.List.{enumerate_from, list_any}
use Rattle.std.specs.Prelude.{Bool, Contains, Err, List, None, Ok, Option, Result, Some, [], false, length, not, option_and_then, true, ℕ, ◌&&◌, ◌++◌, ◌+◌, ◌<◌, ◌==◌, ◌∷◌, ◌≡◌, ◌⊎◌}

pub contains_either : {A : Type 0} (xs ys : List A) (d : A) → Contains (xs ++ ys) d → Contains xs d ⊎ Contains ys d
contains_either [] ys d there = inr there
contains_either {A} (x ∷ xs) ys d there = by (contains_cases x (xs ++ ys) d there) (λ rest. contains_either xs ys d rest) where
  deeper : Contains xs d ⊎ Contains ys d → Contains (x ∷ xs) d ⊎ Contains ys d
  deeper (inl old) = inl (contains_more x xs d old)
  deeper (inr new) = inr new

  by : (x ≡ d) ⊎ Contains (xs ++ ys) d → (Contains (xs ++ ys) d → Contains xs d ⊎ Contains ys d) → Contains (x ∷ xs) d ⊎ Contains ys d
  by (inl is) more = inl (subst (λ z. Contains (x ∷ xs) z) is (contains_first x xs))
  by (inr rest) more = deeper (more rest)

pub contains_only : {A : Type 0} (x d : A) → Contains (x ∷ []) d → x ≡ d
contains_only x d there = elim (contains_cases x [] d there) [ inl is ↦ is | inr none ↦ absurd (contains_none d none) ]

-- ---- a joining

added_is : (o : Result Command ℕ) (a : LockspaceArg) → added o ≡ Some a → o ≡ Ok (AddLockspace a)
added_is (Ok (AddLockspace b)) a is = ap (λ z. Ok (AddLockspace z)) (some_value b a is)
added_is (Ok c) a is = absurd (none_some a is)
added_is (Err n) a is = absurd (none_some a is)

pub line_in_is : (i : Input) (text : List ℕ) → line_in i ≡ Some text → i ≡ Line text
line_in_is (Line t) text is = ap (λ z. Line z) (some_value t text is)
line_in_is i text is = absurd (none_some text is)

-- How an entry's session began.
record Began (st : Setting) (es : Trace) (e : Entry) (s : Session) : Type 0 where
  pub arg : LockspaceArg
  pub text : List ℕ
  pub line : e.input ≡ Line text
  pub reads : st.read text ≡ Ok (AddLockspace arg)
  pub session : s ≡ joining_session s.number (next_job st es) arg

begun_is : (st : Setting) (es : Trace) (e : Entry) (n : ℕ) (s : Session) (b : Bool) (o : Option LockspaceArg) → added_by st e.input ≡ o
    → Contains (elim b as (λ x. List Session) [ false ↦ [] | true ↦ elim o as (λ x. List Session) [ None ↦ [] | Some a ↦ joining_session n (next_job st es) a ∷ [] ] ]) s → Began st es e s
begun_is st es e n s false o is there = absurd (contains_none s there)
begun_is st es e n s true None is there = absurd (contains_none s there)
begun_is st es e n s true (Some a) is there =
    let its = then_value (λ text. added (st.read text)) (line_in e.input) a is in
    let one : joining_session n (next_job st es) a ≡ s = contains_only (joining_session n (next_job st es) a) s there in
    record {
      arg = a;
      text = its.0;
      line = line_in_is e.input its.0 its.1;
      reads = added_is (st.read its.0) a its.2;
      session = sym one ∙ ap (λ k. joining_session k (next_job st es) a) (ap (λ (z : Session). z.number) one);
    }

began : (st : Setting) (es : Trace) (e : Entry) (s : Session) → Contains (begun_in st es (length (sessions st es)) e) s → Began st es e s
began st es e s there = begun_is st es e (length (sessions st es)) s (list_any (λ c. is_join_call FirstRead c.purpose) e.effects.calls) (added_by st e.input) refl there

-- The job of a session that was begun joins it.
pub record JoinedBy (st : Setting) (es : Trace) (s : Session) (j : ℕ) : Type 0 where
  pub arg : LockspaceArg
  pub command : command_numbered st es j ≡ Some (AddLockspace arg)
  pub session : s ≡ joining_session s.number j arg

pub line_command : (st : Setting) (es : Trace) (e : Entry) (text : List ℕ) (c : Command) → e.input ≡ Line text → st.read text ≡ Ok c → command_numbered st (e ∷ es) (next_job st es) ≡ Some c
line_command st es e text c line reads =
    ap (λ i. option_and_then command_of (job_numbered st (record { reading = e.reading; input = i; effects = e.effects } ∷ es) (next_job st es))) line
    ∙ (ap (λ o. option_and_then command_of o) (line_is st es e.reading text e.effects) ∙ ap (λ (o : Result Command ℕ). command_of (record { number = next_job st es; at = length es; reading = e.reading; command = o })) reads)

pub joined_by : (st : Setting) (es : Trace) (s : Session) (j : ℕ) → Contains (sessions st es) s → s.job ≡ Some j → JoinedBy st es s j
joined_by st [] s j there its =
    let given = in_map given_session (enumerate_from 0 st.given) s there in absurd (none_some j (ap (λ (z : Session). z.job) given.2 ∙ its))
joined_by st (e ∷ es) s j there its = by (contains_either (sessions st es) (begun_in st es (length (sessions st es)) e) s there) (λ old. joined_by st es s j old its) where
  by : Contains (sessions st es) s ⊎ Contains (begun_in st es (length (sessions st es)) e) s → (Contains (sessions st es) s → JoinedBy st es s j) → JoinedBy st (e ∷ es) s j
  by (inl old) before =
      let was = before old in record { arg = was.arg; command = command_stays st e es j (AddLockspace was.arg) was.command; session = was.session }
  by (inr new) before =
      let b : Began st es e s = began st es e s new in
      let is : next_job st es ≡ j = some_value (next_job st es) j (sym (ap (λ (z : Session). z.job) b.session) ∙ its) in
      record {
        arg = b.arg;
        command = subst (λ n. command_numbered st (e ∷ es) n ≡ Some (AddLockspace b.arg)) is (line_command st es e b.text (AddLockspace b.arg) b.line b.reads);
        session = b.session ∙ ap (λ n. joining_session s.number n b.arg) is;
      }

-- Its number is one that a line has taken.
pub number_taken : (st : Setting) (es : Trace) (s : Session) (j : ℕ) → Contains (sessions st es) s → s.job ≡ Some j → j < next_job st es
number_taken st es s j there its =
    let by = joined_by st es s j there its in
    let job = then_value command_of (job_numbered st es j) (AddLockspace by.arg) by.command in number_below st es j job.0 job.1

-- A job begins one session.
pub one_session : (st : Setting) (es : Trace) (a b : Session) (j : ℕ) → Contains (sessions st es) a → Contains (sessions st es) b → a.job ≡ Some j → b.job ≡ Some j → a ≡ b
one_session st [] a b j first second its other =
    let given = in_map given_session (enumerate_from 0 st.given) a first in absurd (none_some j (ap (λ (z : Session). z.job) given.2 ∙ its))
one_session st (e ∷ es) a b j first second its other =
    by (contains_either (sessions st es) (begun_in st es (length (sessions st es)) e) a first) (contains_either (sessions st es) (begun_in st es (length (sessions st es)) e) b second)
    (λ old also. one_session st es a b j old also its other) where
      late : (x y : Session) → Contains (sessions st es) x → x.job ≡ Some j → Contains (begun_in st es (length (sessions st es)) e) y → y.job ≡ Some j → ⊥
      late x y old own new at =
          let less : j < next_job st es = number_taken st es x j old own in
          let b : Began st es e y = began st es e y new in
          let is : next_job st es ≡ j = some_value (next_job st es) j (sym (ap (λ (z : Session). z.job) b.session) ∙ at) in omega (arith, less, is)

      by : Contains (sessions st es) a ⊎ Contains (begun_in st es (length (sessions st es)) e) a → Contains (sessions st es) b ⊎ Contains (begun_in st es (length (sessions st es)) e) b
          → (Contains (sessions st es) a → Contains (sessions st es) b → a ≡ b) → a ≡ b
      by (inl old) (inl also) before = before old also
      by (inl old) (inr new) before = absurd (late a b old its new other)
      by (inr new) (inl old) before = absurd (late b a old other new its)
      by (inr new) (inr same) before = only (list_any (λ c. is_join_call FirstRead c.purpose) e.effects.calls) (added_by st e.input) new same where
        only : (t : Bool) (o : Option LockspaceArg)
            → Contains (elim t as (λ x. List Session) [ false ↦ [] | true ↦ elim o as (λ x. List Session) [ None ↦ [] | Some z ↦ joining_session (length (sessions st es)) (next_job st es) z ∷ [] ] ]) a
            → Contains (elim t as (λ x. List Session) [ false ↦ [] | true ↦ elim o as (λ x. List Session) [ None ↦ [] | Some z ↦ joining_session (length (sessions st es)) (next_job st es) z ∷ [] ] ]) b → a ≡ b
        only false o x y = absurd (contains_none a x)
        only true None x y = absurd (contains_none a x)
        only true (Some z) x y = sym (contains_only (joining_session (length (sessions st es)) (next_job st es) z) a x) ∙ contains_only (joining_session (length (sessions st es)) (next_job st es) z) b y

enumerated : {A : Type 0} (n : ℕ) (xs : List A) (p : ℕ × A) → Contains (enumerate_from n xs) p → Contains xs p.1
enumerated n [] p there = absurd (contains_none p there)
enumerated {A} n (x ∷ xs) p there = by (contains_cases (n, x) (enumerate_from (n + 1) xs) p there) (λ rest. enumerated (n + 1) xs p rest) where
  by : ((n, x) ≡ p) ⊎ Contains (enumerate_from (n + 1) xs) p → (Contains (enumerate_from (n + 1) xs) p → Contains xs p.1) → Contains (x ∷ xs) p.1
  by (inl is) more = subst (λ z. Contains (x ∷ xs) z) (ap (λ (q : ℕ × A). q.1) is) (contains_first x xs)
  by (inr old) more = contains_more x xs p.1 (more old)

-- A session without a job is one that the setting gives.
pub given_one : (st : Setting) (es : Trace) (s : Session) → Contains (sessions st es) s → s.job ≡ None → (g : Given) × (n : ℕ) × Contains st.given g × (given_session (n, g) ≡ s)
given_one st [] s there its =
    let was = in_map given_session (enumerate_from 0 st.given) s there in (was.0.1, was.0.0, enumerated 0 st.given was.0 was.1, was.2)
given_one st (e ∷ es) s there its = by (contains_either (sessions st es) (begun_in st es (length (sessions st es)) e) s there) (λ old. given_one st es s old its) where
  by : Contains (sessions st es) s ⊎ Contains (begun_in st es (length (sessions st es)) e) s → (Contains (sessions st es) s → (g : Given) × (n : ℕ) × Contains st.given g × (given_session (n, g) ≡ s))
      → (g : Given) × (n : ℕ) × Contains st.given g × (given_session (n, g) ≡ s)
  by (inl old) more = more old
  by (inr new) more = let b : Began st es e s = began st es e s new in absurd (none_some (next_job st es) (sym its ∙ ap (λ (z : Session). z.job) b.session))

-- ---- a leaving

-- The job of a leaving names its session.
pub record LeftBy (st : Setting) (es : Trace) (s : Session) (k : Job) : Type 0 where
  pub arg : LockspaceArg
  pub job : job_numbered st es k.number ≡ Some k
  pub command : k.command ≡ Ok (RemLockspace arg)
  pub names : is_session_arg s arg ≡ true

pub leaves_is : (s : Session) (o : Result Command ℕ) → leaves s o ≡ true → (a : LockspaceArg) × (o ≡ Ok (RemLockspace a)) × (is_session_arg s a ≡ true)
leaves_is s (Ok (RemLockspace a)) is = (a, refl, is)
leaves_is s (Ok c) is = absurd (false_is_true is)
leaves_is s (Err n) is = absurd (false_is_true is)

abbrev line_job : Setting → Trace → Entry → List ℕ → Job
line_job st es e text = record { number = next_job st es; at = length es; reading = e.reading; command = st.read text }

pub left_in : (st : Setting) (es : Trace) (s : Session) (e : Entry) (k : Job) → leaving_in st es s e ≡ Some k
    → (text : List ℕ) × (line_in e.input ≡ Some text) × (leaves s (st.read text) ≡ true) × (line_job st es e text ≡ k) × (is_joined es s ≡ true)
left_in st es s e k is = by_line (line_in e.input) refl is where
  test : Bool
  test = is_joined es s && not (list_any (λ a. a.job == next_job st es) e.effects.replies)

  by_leaves : (text : List ℕ) → line_in e.input ≡ Some text → (b : Bool) → leaves s (st.read text) ≡ b → (elim b as (λ z. Option Job) [ false ↦ None | true ↦ choose test (line_job st es e text) ]) ≡ Some k
      → (t : List ℕ) × (line_in e.input ≡ Some t) × (leaves s (st.read t) ≡ true) × (line_job st es e t ≡ k) × (is_joined es s ≡ true)
  by_leaves text line false out h = absurd (none_some k h)
  by_leaves text line true out h =
      let chosen = choose_some test (line_job st es e text) k h in
      (text, line, out, chosen.1, (and_true (is_joined es s) (not (list_any (λ a. a.job == next_job st es) e.effects.replies)) chosen.0).0)

  by_line : (o : Option (List ℕ)) → line_in e.input ≡ o
      → (elim o as (λ z. Option Job) [ None ↦ None | Some text ↦ elim (leaves s (st.read text)) as (λ z. Option Job) [ false ↦ None | true ↦ choose test (line_job st es e text) ] ]) ≡ Some k
      → (t : List ℕ) × (line_in e.input ≡ Some t) × (leaves s (st.read t) ≡ true) × (line_job st es e t ≡ k) × (is_joined es s ≡ true)
  by_line None line h = absurd (none_some k h)
  by_line (Some text) line h = by_leaves text line (leaves s (st.read text)) refl h

-- The line of a leaving is not answered in its entry.
pub left_unanswered : (st : Setting) (es : Trace) (s : Session) (e : Entry) (k : Job) → leaving_in st es s e ≡ Some k → list_any (λ (a : JobReply). a.job == next_job st es) e.effects.replies ≡ false
left_unanswered st es s e k is = by_line (line_in e.input) is where
  chosen : (text : List ℕ) → choose (is_joined es s && not (list_any (λ (a : JobReply). a.job == next_job st es) e.effects.replies)) (line_job st es e text) ≡ Some k → list_any (λ (a : JobReply). a.job == next_job st es) e.effects.replies ≡ false
  chosen text h =
      let replied : Bool = list_any (λ (a : JobReply). a.job == next_job st es) e.effects.replies in
      not_is replied (and_true (is_joined es s) (not replied) (choose_some (is_joined es s && not replied) (line_job st es e text) k h).0).1

  by_leaves : (text : List ℕ) (b : Bool) → (elim b as (λ z. Option Job) [ false ↦ None | true ↦ choose (is_joined es s && not (list_any (λ (a : JobReply). a.job == next_job st es) e.effects.replies)) (line_job st es e text) ]) ≡ Some k
      → list_any (λ (a : JobReply). a.job == next_job st es) e.effects.replies ≡ false
  by_leaves text false h = absurd (none_some k h)
  by_leaves text true h = chosen text h

  by_line : (o : Option (List ℕ))
      → (elim o as (λ z. Option Job) [ None ↦ None | Some text ↦ elim (leaves s (st.read text)) as (λ z. Option Job) [ false ↦ None | true ↦ choose (is_joined es s && not (list_any (λ (a : JobReply). a.job == next_job st es) e.effects.replies)) (line_job st es e text) ] ]) ≡ Some k
      → list_any (λ (a : JobReply). a.job == next_job st es) e.effects.replies ≡ false
  by_line None h = absurd (none_some k h)
  by_line (Some text) h = by_leaves text (leaves s (st.read text)) h

pub left_by : (st : Setting) (es : Trace) (s : Session) (k : Job) → leaving_job st es s ≡ Some k → LeftBy st es s k
left_by st [] s k is = absurd (none_some k is)
left_by st (e ∷ es) s k is = by (leaving_job st es s) refl (λ was. left_by st es s k was) is where
  by : (o : Option Job) → leaving_job st es s ≡ o → (leaving_job st es s ≡ Some k → LeftBy st es s k) → (elim o as (λ z. Option Job) [ Some j ↦ Some j | None ↦ leaving_in st es s e ]) ≡ Some k → LeftBy st (e ∷ es) s k
  by (Some j) was more h =
      let before : LeftBy st es s k = more (was ∙ h) in
      record { arg = before.arg; job = numbered_stays st e es k.number k before.job; command = before.command; names = before.names }
  by None was more h =
      let new = left_in st es s e k h in
      let out = leaves_is s (st.read new.0) new.2 in
      let line : e.input ≡ Line new.0 = line_in_is e.input new.0 new.1 in
      let made : job_numbered st (e ∷ es) (next_job st es) ≡ Some (line_job st es e new.0) =
      ap (λ i. job_numbered st (record { reading = e.reading; input = i; effects = e.effects } ∷ es) (next_job st es)) line ∙ line_is st es e.reading new.0 e.effects in
      record {
        arg = out.0;
        job = subst (λ (z : Job). job_numbered st (e ∷ es) z.number ≡ Some z) new.3 made;
        command = ap (λ (z : Job). z.command) (sym new.3) ∙ out.1;
        names = out.2;
      }
