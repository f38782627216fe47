-- A session joins by one entry of its trace: ends of the trace that have the entry have it joined, and it had begun there. And which
-- stamps are of which entries.
use Rattle.sl_run_law.specs.Course.CallStamps.{IsStampOf, Pairwise, stamp_in}
use Rattle.sl_id_safety.proofs.State.JoiningCallOrder.{begun_if_joined}
use Rattle.sl_run.proofs.LawFacts.{orderly-front}
use Rattle.sl_run.specs.Lawful.{Orderly}
use Rattle.sl_words.proofs.Lists.{contains_first, contains_more}
use Rattle.sl_run.specs.Worlds.{Stamp}
use Rattle.sl_run_law.proofs.Sessions.MarksStay.{joined_more, marks_stay}
use Rattle.sl_run_law.specs.Sessions.SessionLaws.{IsSession as IsSessionOf}
use Rattle.sl_trace.specs.Sessions.{is_join_done, joined_after, removed_after}
use Rattle.sl_trace.specs.declared.session.Session.{Session}
use Rattle.sl_trace.specs.WatchdogConnections.{unregisters}
use Rattle.sl_trace.specs.Traces.{Replied, Setting, Trace, reply_in, reply_to}
use Rattle.sl_trace.specs.declared.effects.Entry.{Entry}
use Rattle.sl_trace.specs.declared.effects.JobReply.{JobReply}
use Rattle.sl_run_law.proofs.Watchdog.Joins.{job_of_joining}
use Rattle.sl_words.proofs.CaseLaws.{no_value, none_some, one_value, some_value}
use Rattle.sl_words.proofs.WordLaws.{choose_some}
use Rattle.sl_words.specs.Words.{choose}
use Rattle.std.proofs.Common.{ap, arith, refl, subst, sym, ◌∙◌}
use Rattle.std.proofs.lemmas.Bool.Decides.{nat_tests}
use Rattle.std.specs.List.{list_any}
use Rattle.std.specs.Prelude.{Bool, Contains, List, None, Option, Some, [], false, find, is_some, length, option_and_then, option_map, suc, true, ℕ, ◌&&◌, ◌++◌, ◌+◌, ◌<◌, ◌==◌, ◌∷◌, ◌≡◌, ◌≤◌}

-- ---- by which entry

abbrev done_by : Option Replied → Option ℕ
done_by o = option_and_then (λ (r : Replied). choose (is_join_done r.reply) (r.at + 1)) o

abbrev joined_for : Trace → Option ℕ → Option ℕ
joined_for es job = elim job [ None ↦ Some 0 | Some j ↦ done_by (reply_to es j) ]

reply_at : (n : ℕ) (o : Option JobReply) (r : Replied) → option_map (λ (a : JobReply). let y : Replied = record { at = n; reply = a.reply } in y) o ≡ Some r → r.at ≡ n
reply_at n None r is = absurd (none_some r is)
reply_at n (Some a) r is = ap (λ (y : Replied). y.at) (sym (some_value (record { at = n; reply = a.reply }) r is))

last_by : (n k : ℕ) (o p : Option Replied) → done_by o ≡ None → ((r : Replied) → p ≡ Some r → r.at ≡ n) → done_by (elim o as (λ z. Option Replied) [ Some r ↦ Some r | None ↦ p ]) ≡ Some k
    → k ≡ n + 1
last_by n k (Some r) p none at is = absurd (none_some k (sym none ∙ is))
last_by n k None None none at is = absurd (none_some k is)
last_by n k None (Some r) none at is =
    let c = (choose_some (is_join_done r.reply) (r.at + 1) k is).1 in
    let w = at r refl in
    omega (arith, c, w)

-- A session joins by the newest entry, or had joined before it.
pub joined_last : (e : Entry) (past : Trace) (s : Session) (k : ℕ) → joined_after past s ≡ None → joined_after (e ∷ past) s ≡ Some k → k ≡ length past + 1
joined_last e past s k none is =
    let j = job_of_joining past s none in
    last_by (length past) k (reply_to past j.0) (reply_in j.0 past e) (sym (ap (joined_for past) j.1) ∙ none)
    (λ r at. reply_at (length past) (find (λ a. a.job == j.0) e.effects.replies) r at) (sym (ap (joined_for (e ∷ past)) j.1) ∙ is)

no_entry : (s : Session) (k : ℕ) (job : Option ℕ) → joined_for [] job ≡ Some k → k ≡ 0
no_entry s k None is = sym (some_value 0 k is)
no_entry s k (Some j) is = absurd (none_some k is)

-- It is one of the trace's.
pub joined_within : (es : Trace) (s : Session) (k : ℕ) → joined_after es s ≡ Some k → k ≤ length es
joined_within [] s k is = let none = no_entry s k s.job is in omega (arith, none)
joined_within (e ∷ es) s k is = by (joined_after es s) refl (λ i was. joined_within es s i was) where
  by : (o : Option ℕ) → joined_after es s ≡ o → ((i : ℕ) → joined_after es s ≡ Some i → i ≤ length es) → k ≤ length (e ∷ es)
  by None none rest = let last = joined_last e es s k none is in omega (arith, last)
  by (Some i) was rest =
      let same : i ≡ k = one_value i k (joined_after (e ∷ es) s) (joined_more e es s i was) is in
      let le = rest i was in
      omega (arith, same, le)

longer : (newer es : Trace) → length es ≤ length (newer ++ es)
longer [] es = omega arith
longer (e ∷ newer) es = omega (arith, longer newer es)

-- So an end of the trace that has it has the session joined.
pub joined_end : (newer es : Trace) (s : Session) (k : ℕ) → joined_after (newer ++ es) s ≡ Some k → k ≤ length es → joined_after es s ≡ Some k
joined_end [] es s k is le = is
joined_end (e ∷ newer) es s k is le = by (joined_after (newer ++ es) s) refl (λ was. joined_end newer es s k was le) where
  by : (o : Option ℕ) → joined_after (newer ++ es) s ≡ o → (joined_after (newer ++ es) s ≡ Some k → joined_after es s ≡ Some k) → joined_after es s ≡ Some k
  by None none rest =
      absurd (let last = joined_last e (newer ++ es) s k none is in omega (arith, last, le, longer newer es))
  by (Some i) was rest = rest (was ∙ ap (λ n. Some n) (one_value i k (joined_after (e ∷ newer ++ es) s) (joined_more e (newer ++ es) s i was) is))

-- .. and begun.
pub begun_end : (st : Setting) (newer es : Trace) (s : Session) (k : ℕ) → Orderly st (newer ++ es) → IsSessionOf st (newer ++ es) s → joined_after es s ≡ Some k → IsSessionOf st es s
begun_end st [] es s k h its joined = its
begun_end st (e ∷ newer) es s k h its joined =
    begun_end st newer es s k (orderly-front st (e ∷ []) (newer ++ es) h)
    (begun_if_joined st e (newer ++ es) s h its k (marks_stay.joined (e ∷ newer) es s k joined)) joined

-- One that joined by no entry has no job.
pub joined_first : (es : Trace) (s : Session) → joined_after es s ≡ Some 0 → s.job ≡ None
joined_first es s is = by s.job refl where
  none : (o : Option Replied) → done_by o ≡ Some 0 → ⊥
  none None at = none_some 0 at
  none (Some r) at = let c = (choose_some (is_join_done r.reply) (r.at + 1) 0 at).1 in omega (arith, c)

  by : (o : Option ℕ) → s.job ≡ o → s.job ≡ None
  by None job = job
  by (Some j) job = absurd (none (reply_to es j) (sym (ap (joined_for es) job) ∙ is))

-- ---- where it joins it is not removed

removed_by : (removed joined : Option ℕ) (b : Bool) (n : ℕ) → removed ≡ None → joined ≡ None
    → elim removed as (λ z. Option ℕ) [ Some k ↦ Some k | None ↦ choose (is_some joined && b) n ] ≡ None
removed_by None None b n r j = refl
removed_by None (Some i) b n r j = absurd (none_some i (sym j))
removed_by (Some k) o b n r j = absurd (none_some k (sym r))

not_removed : (es : Trace) (s : Session) → joined_after es s ≡ None → removed_after es s ≡ None
not_removed [] s none = refl
not_removed (e ∷ es) s none = by (joined_after es s) refl (λ was. not_removed es s was) where
  by : (o : Option ℕ) → joined_after es s ≡ o → (joined_after es s ≡ None → removed_after es s ≡ None) → removed_after (e ∷ es) s ≡ None
  by None was rest = removed_by (removed_after es s) (joined_after es s) (list_any (unregisters s.lockspace) e.effects.moves) (length es + 1) (rest was) was
  by (Some i) was rest = absurd (no_value i (joined_after (e ∷ es) s) (joined_more e es s i was) none)

pub joins_kept : (e : Entry) (past : Trace) (s : Session) → joined_after (e ∷ past) s ≡ Some (suc (length past)) → removed_after (e ∷ past) s ≡ None
joins_kept e past s is = by (joined_after past s) refl where
  by : (o : Option ℕ) → joined_after past s ≡ o → removed_after (e ∷ past) s ≡ None
  by None was = removed_by (removed_after past s) (joined_after past s) (list_any (unregisters s.lockspace) e.effects.moves) (length past + 1) (not_removed past s was) was
  by (Some i) was =
      let same : i ≡ suc (length past) = one_value i (suc (length past)) (joined_after (e ∷ past) s) (joined_more e past s i was) is in
      absurd (let le = joined_within past s i was in omega (arith, same, le))

-- ---- stamps of entries

pub same_length : (ss : List Stamp) (es : Trace) → Pairwise IsStampOf ss es → length ss ≡ length es
same_length [] [] h = refl
same_length [] (e ∷ es) h = absurd h
same_length (s ∷ ss) [] h = absurd h
same_length (s ∷ ss) (e ∷ es) h = ap (λ n. suc n) (same_length ss es h.1)

is_place : (k n : ℕ) → (k == n) ≡ true → k ≡ n
is_place k n h = grind (arith, nat_tests)

no_place : (k n : ℕ) → (k == n) ≡ false → k < suc n → k < n
no_place k n h lt = grind (arith, nat_tests)

-- Each entry has one.
pub stamp_of : (ss : List Stamp) (k : ℕ) → k < length ss → (s : Stamp) × (stamp_in ss k ≡ Some s)
stamp_of [] k lt = absurd (omega (arith, lt))
stamp_of (x ∷ ss) k lt = by (λ less. stamp_of ss k less) (k == length ss) refl where
  by : (k < length ss → (s : Stamp) × (stamp_in ss k ≡ Some s)) → (b : Bool) → (k == length ss) ≡ b → (s : Stamp) × (elim b as (λ z. Option Stamp) [ true ↦ Some x | false ↦ stamp_in ss k ] ≡ Some s)
  by rest true is = (x, refl)
  by rest false is = rest (no_place k (length ss) is lt)

pub stamp_within : (ss : List Stamp) (k : ℕ) (s : Stamp) → stamp_in ss k ≡ Some s → k < length ss
stamp_within [] k s is = absurd (none_some s is)
stamp_within (x ∷ ss) k s is = by (λ at. stamp_within ss k s at) (k == length ss) refl is where
  by : (stamp_in ss k ≡ Some s → k < length ss) → (b : Bool) → (k == length ss) ≡ b → elim b as (λ z. Option Stamp) [ true ↦ Some x | false ↦ stamp_in ss k ] ≡ Some s → k < suc (length ss)
  by rest true at here = let same = is_place k (length ss) at in omega (arith, same)
  by rest false at more = let lt = rest more in omega (arith, lt)

-- That of a newer entry is among the newer ones.
pub stamp_newer : (newer ss : List Stamp) (k : ℕ) (s : Stamp) → stamp_in (newer ++ ss) k ≡ Some s → length ss ≤ k → Contains newer s
stamp_newer [] ss k s is le = absurd (let lt = stamp_within ss k s is in omega (arith, lt, le))
stamp_newer (x ∷ newer) ss k s is le = by (λ at. stamp_newer newer ss k s at le) (k == length (newer ++ ss)) is where
  by : (stamp_in (newer ++ ss) k ≡ Some s → Contains newer s) → (b : Bool) → elim b as (λ z. Option Stamp) [ true ↦ Some x | false ↦ stamp_in (newer ++ ss) k ] ≡ Some s → Contains (x ∷ newer) s
  by rest true here = subst (λ y. Contains (x ∷ newer) y) (some_value x s here) (contains_first x newer)
  by rest false more = contains_more x newer s (rest more)
