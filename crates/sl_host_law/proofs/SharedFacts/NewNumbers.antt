-- A line that has not come: no reply bears its number, no child and no call are its own.
use Rattle.sl_host_law.proofs.SharedFacts.PlainLists.{all_back, all_front, each_of}
use Rattle.sl_host_law.proofs.SharedFacts.SessionNumbers.{numbered_below}
use Rattle.sl_host_state.specs.KeptState.{HostState}
use Rattle.sl_host_state.specs.HostStands.{Keeps}
use Rattle.sl_trace.specs.Jobs.{child_of_job}
use Rattle.sl_words.proofs.Lists.{contains_cases, contains_first, contains_more, contains_none, find_inside, kept_inside}
use Rattle.sl_trace.specs.Traces.{Child, Replied, Setting, Submitted, Trace, children, is_of_job, job_numbered, job_of, reply_in, reply_to, submitted, unanswered, waiting_call}
use Rattle.sl_trace.specs.declared.effects.Entry.{Entry}
use Rattle.sl_trace.specs.declared.effects.JobReply.{JobReply}
use Rattle.sl_words.proofs.CaseLaws.{none_some}
use Rattle.sl_words.proofs.WordLaws.{some_is_true}
use Rattle.sl_words.specs.Words.{some_is}
use Rattle.std.proofs.Common.{ap, arith, inl, inr, refl, subst, sym, ◌∙◌}
use Rattle.std.proofs.lemmas.Bool.Decides.{Decides-eqb}
use Rattle.std.specs.List.{cons_option, list_any}
use Rattle.std.specs.Prelude.{Bool, Contains, IsTrue, List, None, Option, Some, cond, false, filter_map, find, is_none, is_some, length, option_map, true, [], ℕ, ◌==◌, ◌||◌, ◌∷◌, ◌≡◌, ◌≤◌, ◌⊎◌}

pub mapped_inside : {A B : Type 0} (h : A → Option B) (xs : List A) (x : A) (y : B) → Contains xs x → h x ≡ Some y → Contains (filter_map h xs) y
mapped_inside h [] x y there is = absurd (contains_none x there)
mapped_inside {A} {B} h (z ∷ xs) x y there is = by (λ rest. mapped_inside h xs x y rest is) (contains_cases z xs x there) where
  further : (o : Option B) → Contains (filter_map h xs) y → Contains (cons_option o (filter_map h xs)) y
  further None in_it = in_it
  further (Some w) in_it = contains_more w (filter_map h xs) y in_it

  by : (Contains xs x → Contains (filter_map h xs) y) → (z ≡ x) ⊎ Contains xs x → Contains (cons_option (h z) (filter_map h xs)) y
  by deeper (inl here) = subst (λ o. Contains (cons_option o (filter_map h xs)) y) (sym (ap h here ∙ is)) (contains_first y (filter_map h xs))
  by deeper (inr rest) = further (h z) (deeper rest)

module _ (h : HostState) (st : Setting) (es : Trace) (n : ℕ) (k : Keeps h st es) (above : h.next_job ≤ n) where
  -- A job that is told of came before.
  not_told : (j : ℕ) → is_some (job_numbered st es j) ≡ true → j ≡ n → ⊥
  not_told j is same =
      let below = numbered_below st es j is in
      let lines = k.lines in
      absurd (omega (arith, below, lines, same, above))

  pub no_child : child_of_job es n ≡ None
  no_child = by (find (λ (c : Child). some_is (λ j. j == n) c.job) (children es)) refl where
    by : (o : Option Child) → find (λ c. some_is (λ j. j == n) c.job) (children es) ≡ o → option_map (λ c. c.process) o ≡ None
    by None is = refl
    by (Some c) is =
        let f = find_inside (λ (z : Child). some_is (λ j. j == n) z.job) (children es) c is in
        let j = some_is_true (λ (z : ℕ). z == n) c.job f.1 in
        absurd (not_told j.0
        (each_of (λ z. IsTrue (is_some (job_numbered st es z))) (filter_map (λ (z : Child). z.job) (children es)) j.0
        (all_back (λ z. IsTrue (is_some (job_numbered st es z))) (filter_map (λ (m : Submitted). job_of m.call.purpose) (submitted es)) (filter_map (λ (z : Child). z.job) (children es)) k.owned)
        (mapped_inside (λ (z : Child). z.job) (children es) c j.0 f.0 j.1)) ((Decides-eqb j.0 n).0 j.2))

  pub no_call : waiting_call es n ≡ None
  no_call = by (waiting_call es n) refl where
    by : (o : Option Submitted) → waiting_call es n ≡ o → o ≡ None
    by None is = refl
    by (Some m) is =
        let f = find_inside (is_of_job n) (unanswered (submitted es)) m is in
        let j = some_is_true (λ (z : ℕ). z == n) (job_of m.call.purpose) f.1 in
        absurd (not_told j.0
        (each_of (λ z. IsTrue (is_some (job_numbered st es z))) (filter_map (λ (c : Submitted). job_of c.call.purpose) (submitted es)) j.0
        (all_front (λ z. IsTrue (is_some (job_numbered st es z))) (filter_map (λ (c : Submitted). job_of c.call.purpose) (submitted es)) (filter_map (λ (z : Child). z.job) (children es)) k.owned)
        (mapped_inside (λ (c : Submitted). job_of c.call.purpose) (submitted es) m j.0 (kept_inside (λ (c : Submitted). is_none c.answer) (submitted es) m f.0).0 j.1)) ((Decides-eqb j.0 n).0 j.2))

-- ---- no reply in an entry

none_both : (past now : Option Replied) → elim past as (λ z. Option Replied) [ Some r ↦ Some r | None ↦ now ] ≡ None → now ≡ None
none_both None now is = is
none_both (Some r) now is = absurd (none_some r (sym is))

unmapped : {A B : Type 0} (f : A → B) (o : Option A) → option_map f o ≡ None → o ≡ None
unmapped f None is = refl
unmapped f (Some a) is = absurd (none_some (f a) (sym is))

-- A reply that the trace lacks its newest entry lacks.
pub no_reply_in : (e : Entry) (past : Trace) (n : ℕ) → reply_to (e ∷ past) n ≡ None → reply_in n past e ≡ None
no_reply_in e past n is = none_both (reply_to past n) (reply_in n past e) is

pub no_reply_found : (e : Entry) (past : Trace) (n : ℕ) → reply_to (e ∷ past) n ≡ None → find (λ a. a.job == n) e.effects.replies ≡ None
no_reply_found e past n is = unmapped (λ (a : JobReply). record { at = length past; reply = a.reply }) (find (λ (a : JobReply). a.job == n) e.effects.replies) (no_reply_in e past n is)

pub found_nowhere : {A : Type 0} (p : A → Bool) (xs : List A) → find p xs ≡ None → list_any p xs ≡ false
found_nowhere p [] none = refl
found_nowhere {A} p (x ∷ xs) none = by (p x) none (λ rest. found_nowhere p xs rest) where
  by : (b : Bool) → cond b (Some x) (find p xs) ≡ None → (find p xs ≡ None → list_any p xs ≡ false) → (b || list_any p xs) ≡ false
  by true left deeper = absurd (none_some x (sym left))
  by false left deeper = deeper left

pub no_reply_any : (e : Entry) (past : Trace) (n : ℕ) → reply_to (e ∷ past) n ≡ None → list_any (λ a. a.job == n) e.effects.replies ≡ false
no_reply_any e past n is = found_nowhere (λ (a : JobReply). a.job == n) e.effects.replies (no_reply_found e past n is)
