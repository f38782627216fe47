-- When what a trace tells came about: answers and readings of a front are of its past, a refusal is of later, and stamps are in order.
use Rattle.sl_run_law.proofs.Course.MatchedCall.{found_below}
use Rattle.sl_run_law.specs.Course.CallStamps.{stamp_in}
use Rattle.sl_run.specs.LawfulCalls.{may_submit}
use Rattle.sl_run.specs.LawForms.{cut_at}
use Rattle.sl_run_law.specs.Moment.Orders.{Fall}
use Rattle.sl_words.proofs.Lists.{contains_none}
use Rattle.sl_words.proofs.Options.{mapped_value, then_value}
use Rattle.sl_run.specs.Worlds.{Stamp}
use Rattle.sl_run_law.proofs.Sessions.CallsAreMade.{IsNewCall, old_or_new, was_marked}
use Rattle.sl_run_law.proofs.Sessions.EndedAreSilent.{no_more}
use Rattle.sl_run_law.proofs.Sessions.MarksStay.{refused_apart, refused_more}
use Rattle.sl_trace.specs.Sessions.{is_join_done, refused_after, removed_after, stage_of}
use Rattle.sl_trace.specs.declared.session.Session.{Session}
use Rattle.sl_trace.specs.Traces.{IsTrace, Replied, Setting, Submitted, Trace, last_reading, mark, reply_in, reply_to, submitted}
use Rattle.sl_trace.specs.declared.effects.Entry.{Entry}
use Rattle.sl_trace.specs.declared.effects.JobReply.{JobReply}
use Rattle.sl_words.proofs.CaseLaws.{no_value, none_some, one_value, some_value, true_is_false}
use Rattle.sl_words.proofs.OrderLaws.{less_or_same}
use Rattle.sl_words.proofs.WordLaws.{choose_some}
use Rattle.sl_words.specs.Words.{choose}
use Rattle.std.proofs.Common.{ap, arith, inl, inr, refl, subst, sym, ◌∙◌}
use Rattle.std.proofs.lemmas.Bool.{eqb-true}
use Rattle.std.specs.Prelude.{Bool, Contains, List, None, Option, Some, [], false, find, length, not, option_and_then, take, true, ℕ, ◌++◌, ◌+◌, ◌-◌, ◌<◌, ◌==◌, ◌∷◌, ◌≡◌, ◌≤◌, ◌⊎◌}

-- ---- stamps of a daemon

stamp_by : (x : Stamp) (xs : List Stamp) (i : ℕ) (s : Stamp) (b : Bool) → (i == length xs) ≡ b → elim b as (λ z. Option Stamp) [ true ↦ Some x | false ↦ stamp_in xs i ] ≡ Some s
    → ((i ≡ length xs) × (x ≡ s)) ⊎ (stamp_in xs i ≡ Some s)
stamp_by x xs i s true is h = inl (eqb-true i (length xs) is, some_value x s h)
stamp_by x xs i s false is h = inr h

stamp_cases : (x : Stamp) (xs : List Stamp) (i : ℕ) (s : Stamp) → stamp_in (x ∷ xs) i ≡ Some s → ((i ≡ length xs) × (x ≡ s)) ⊎ (stamp_in xs i ≡ Some s)
stamp_cases x xs i s h = stamp_by x xs i s (i == length xs) refl h

pub stamp_below : (n : ℕ) (ss : List Stamp) (i : ℕ) (s : Stamp) → Fall n ss → stamp_in ss i ≡ Some s → s.step < n
stamp_below n [] i s f h = absurd (none_some s h)
stamp_below n (x ∷ xs) i s f h =
    elim (stamp_cases x xs i s h) as (λ z. s.step < n) [
      | inl here ↦ subst (λ (y : Stamp). y.step < n) here.1 f.0
      | inr more ↦ omega (arith, f.0, stamp_below x.step xs i s f.1 more)
    ]

-- Later entries have later stamps.
pub stamps_rise : (n : ℕ) (ss : List Stamp) (i j : ℕ) (s t : Stamp) → Fall n ss → stamp_in ss i ≡ Some s → stamp_in ss j ≡ Some t → i < j → s.step < t.step
stamps_rise n [] i j s t f h k lt = absurd (none_some s h)
stamps_rise n (x ∷ xs) i j s t f h k lt =
    by (λ one two. stamps_rise x.step xs i j s t f.1 one two lt) (stamp_cases x xs i s h) (stamp_cases x xs j t k)
  where
    by : (stamp_in xs i ≡ Some s → stamp_in xs j ≡ Some t → s.step < t.step) → ((i ≡ length xs) × (x ≡ s)) ⊎ (stamp_in xs i ≡ Some s)
        → ((j ≡ length xs) × (x ≡ t)) ⊎ (stamp_in xs j ≡ Some t) → s.step < t.step
    by rest (inl a) (inl b) = absurd (omega (arith, a.0, b.0, lt))
    by rest (inl a) (inr b) = absurd (omega (arith, a.0, found_below xs j t b, lt))
    by rest (inr a) (inl b) = subst (λ (y : Stamp). s.step < y.step) b.1 (stamp_below x.step xs i s f.1 a)
    by rest (inr a) (inr b) = rest a b

pub stamps_order : (n : ℕ) (ss : List Stamp) (i j : ℕ) (s t : Stamp) → Fall n ss → stamp_in ss i ≡ Some s → stamp_in ss j ≡ Some t → i ≤ j → s.step ≤ t.step
stamps_order n ss i j s t f h k le = by (less_or_same i j le) where
  by : (i < j) ⊎ (i ≡ j) → s.step ≤ t.step
  by (inl lt) = omega (arith, stamps_rise n ss i j s t f h k lt)
  by (inr same) =
      let one = one_value s t (stamp_in ss j) (ap (λ n. stamp_in ss n) (sym same) ∙ h) k in
      let eq : s.step ≡ t.step = ap (λ (x : Stamp). x.step) one in
      omega (arith, eq)

-- ---- answers are of the past

-- ---- readings rise

pub reading_past : (st : Setting) (t : Trace) → IsTrace st t → (m : Submitted) → Contains (submitted t) m → m.reading ≤ last_reading st t
reading_past st [] h m there = absurd (contains_none m there)
reading_past st (e ∷ past) h m there =
    by (λ x inside. reading_past st past h.1 x inside) (old_or_new (length past) e.reading e.effects.calls (mark past e e.input (submitted past)) m there)
  where
    by : ((x : Submitted) → Contains (submitted past) x → x.reading ≤ last_reading st past)
        → Contains (mark past e e.input (submitted past)) m ⊎ IsNewCall (length past) e.reading e.effects.calls m → m.reading ≤ e.reading
    by rest (inl old) = let w = was_marked past e e.input (submitted past) m old in omega (arith, w.same.reading, rest w.before w.inside, h.0.time)
    by rest (inr new) = omega (arith, new.reading_is)

-- What a front has was submitted at a reading not above its newest entry's.
pub reading_front : (st : Setting) (e : Entry) (past : Trace) (k : ℕ) → IsTrace st (e ∷ past) → (m : Submitted) → Contains (submitted (cut_at k e ∷ past)) m → m.reading ≤ e.reading
reading_front st e past k h m there =
    by (old_or_new (length past) e.reading (take k e.effects.calls) (mark past (cut_at k e) e.input (submitted past)) m there)
  where
    by : Contains (mark past (cut_at k e) e.input (submitted past)) m ⊎ IsNewCall (length past) e.reading (take k e.effects.calls) m → m.reading ≤ e.reading
    by (inl old) =
        let w = was_marked past (cut_at k e) e.input (submitted past) m old in omega (arith, w.same.reading, reading_past st past h.1 w.before w.inside, h.0.time)
    by (inr new) = omega (arith, new.reading_is)

-- ---- a refusal comes later than each call

abbrev if_refused : Replied → Option ℕ
if_refused r = choose (not (is_join_done r.reply)) (r.at + 1)

abbrev replied_as : Trace → JobReply → Replied
replied_as es a = record { at = length es; reply = a.reply }

refused_now : (e : Entry) (es : Trace) (j k : ℕ) (o : Option Replied) → reply_to es j ≡ o → option_and_then if_refused o ≡ None
    → option_and_then if_refused (elim o as (λ z. Option Replied) [ Some r ↦ Some r | None ↦ reply_in j es e ]) ≡ Some k → k ≡ length es + 1
refused_now e es j k (Some r) is none h = absurd (no_value k (if_refused r) h none)
refused_now e es j k None is none h =
    let r = then_value if_refused (reply_in j es e) k h in
    let a = mapped_value (replied_as es) (find (λ (x : JobReply). x.job == j) e.effects.replies) r.0 r.1 in
    let at : r.0.at ≡ length es = ap (λ (x : Replied). x.at) (sym a.2) in
    sym (choose_some (not (is_join_done r.0.reply)) (r.0.at + 1) k r.2).1 ∙ ap (λ n. n + 1) at

pub refused_by : (e : Entry) (es : Trace) (s : Session) (k : ℕ) (job : Option ℕ) → s.job ≡ job → refused_after es s ≡ None → refused_after (e ∷ es) s ≡ Some k → k ≡ length es + 1
refused_by e es s k None is none h =
    absurd (none_some k (ap (λ q. elim q as (λ z. Option ℕ) [ None ↦ None | Some j ↦ option_and_then if_refused (reply_to (e ∷ es) j) ]) (sym is) ∙ h))
refused_by e es s k (Some j) is none h =
    refused_now e es j k (reply_to es j) refl
    (ap (λ q. elim q as (λ z. Option ℕ) [ None ↦ None | Some i ↦ option_and_then if_refused (reply_to es i) ]) (sym is) ∙ none)
    (ap (λ q. elim q as (λ z. Option ℕ) [ None ↦ None | Some i ↦ option_and_then if_refused (reply_to (e ∷ es) i) ]) (sym is) ∙ h)

pub longer : {A : Type 0} (xs ys : List A) → length ys ≤ length (xs ++ ys)
longer [] ys = omega arith
longer (x ∷ xs) ys = omega (arith, longer xs ys)

refused_later : (later es : Trace) (s : Session) (k : ℕ) → refused_after es s ≡ None → refused_after (later ++ es) s ≡ Some k → length es + 1 ≤ k
refused_later [] es s k none h = absurd (no_value k (refused_after es s) h none)
refused_later (e ∷ later) es s k none h = by (λ j was. refused_later later es s j none was) (refused_after (later ++ es) s) refl where
  by : ((j : ℕ) → refused_after (later ++ es) s ≡ Some j → length es + 1 ≤ j) → (o : Option ℕ) → refused_after (later ++ es) s ≡ o → length es + 1 ≤ k
  by rest (Some j) was =
      let same = one_value j k (refused_after (e ∷ (later ++ es)) s) (refused_more e (later ++ es) s j was) h in
      subst (λ n. length es + 1 ≤ n) same (rest j was)
  by rest None was = omega (arith, refused_by e (later ++ es) s k s.job refl was h, longer later es)

abbrev ended_by : Option ℕ → Option ℕ → Option ℕ → Option ℕ
ended_by joined removed refused = elim joined [ Some k ↦ removed | None ↦ refused ]

not_refused : (t : Trace) (s : Session) → may_submit (stage_of t s) ≡ true → (o : Option ℕ) → refused_after t s ≡ o → o ≡ None
not_refused t s may None is = refl
not_refused t s may (Some k) is =
    absurd (true_is_false (sym may ∙ no_more t s k (ap (λ q. ended_by q (removed_after t s) (refused_after t s)) (refused_apart t s k is) ∙ is)))

-- A session that submits in an entry is refused in a later one, if it is.
pub refused_after_call : (later : Trace) (e : Entry) (past : Trace) (i : ℕ) (s : Session) (k : ℕ) → may_submit (stage_of (cut_at i e ∷ past) s) ≡ true
    → refused_after (later ++ e ∷ past) s ≡ Some k → length past < k - 1
refused_after_call later e past i s k may h =
    let none = not_refused (cut_at i e ∷ past) s may (refused_after (cut_at i e ∷ past) s) refl in
    let le = refused_later later (e ∷ past) s k none h in
    omega (arith, le)
