-- A trace grows by the answer of an entry, and then by its calls, one by one.
use Rattle.sl_run.specs.LawForms.{cut_at}
use Rattle.sl_run_law.proofs.Sessions.CallsAreMade.{same_answered}
use Rattle.sl_trace.specs.Sessions.{calls_of, is_call_of}
use Rattle.sl_trace.specs.declared.session.Session.{Session}
use Rattle.sl_trace.proofs.TraceFacts.{fold-push}
use Rattle.sl_trace.specs.Traces.{Submitted, Trace, answered_in, mark, new_call, submitted}
use Rattle.sl_trace.specs.declared.effects.Call.{Call}
use Rattle.sl_trace.specs.declared.effects.Effects.{Effects}
use Rattle.sl_trace.specs.declared.effects.Entry.{Entry}
use Rattle.sl_trace.specs.declared.input.Answer.{Answer}
use Rattle.sl_trace.specs.declared.input.Input.TheVariants.{Answer as Told, Exit, Line, Number, Spawned, Wake}
use Rattle.sl_trace.specs.declared.input.Input.{Input}
use Rattle.sl_words.proofs.CaseLaws.{none_some, some_value}
use Rattle.std.proofs.Common.{ap, refl, subst, sym, ◌∙◌}
use Rattle.std.specs.Prelude.{Bool, List, None, Option, Some, [], cond, false, filter, fold, length, map, slice_get, suc, take, true, zero, ℕ, ◌++◌, ◌==◌, ◌∷◌, ◌≡◌}

-- ---- fronts of a list

pub one_more : {A : Type 0} (xs : List A) (k : ℕ) (x : A) → slice_get xs k ≡ Some x → take (suc k) xs ≡ take k xs ++ x ∷ []
one_more [] k x at = absurd (none_some x at)
one_more (y ∷ xs) zero x at = ap (λ z. z ∷ []) (some_value y x at)
one_more (y ∷ xs) (suc k) x at = ap (λ zs. y ∷ zs) (one_more xs k x at)

pub no_more_left : {A : Type 0} (xs : List A) (k : ℕ) → slice_get xs k ≡ None → take k xs ≡ take (suc k) xs
no_more_left [] zero at = refl
no_more_left [] (suc k) at = refl
no_more_left (y ∷ xs) zero at = absurd (none_some y (sym at))
no_more_left (y ∷ xs) (suc k) at = ap (λ zs. y ∷ zs) (no_more_left xs k at)

pub all_of_it : {A : Type 0} (xs : List A) → take (length xs) xs ≡ xs
all_of_it [] = refl
all_of_it (x ∷ xs) = ap (λ zs. x ∷ zs) (all_of_it xs)

-- ---- an entry, call by call

abbrev with_calls : Entry → List Call → Entry
with_calls e cs = let fx : Effects = e.effects in record e { effects = record fx { calls = cs } }

pub to_cut : (P : Trace → Type 0) (e : Entry) (past : Trace) → P (cut_at 0 e ∷ past)
    → ((k : ℕ) (c : Call) → slice_get e.effects.calls k ≡ Some c → P (cut_at k e ∷ past) → P (cut_at (suc k) e ∷ past)) → (k : ℕ) → P (cut_at k e ∷ past)
to_cut P e past first next zero = first
to_cut P e past first next (suc k) = by (slice_get e.effects.calls k) refl (to_cut P e past first next k) where
  by : (o : Option Call) → slice_get e.effects.calls k ≡ o → P (cut_at k e ∷ past) → P (cut_at (suc k) e ∷ past)
  by (Some c) at before = next k c at before
  by None at before = subst (λ cs. P (with_calls e cs ∷ past)) (no_more_left e.effects.calls k at) before

pub to_all : (P : Trace → Type 0) (e : Entry) (past : Trace) → P (cut_at 0 e ∷ past)
    → ((k : ℕ) (c : Call) → slice_get e.effects.calls k ≡ Some c → P (cut_at k e ∷ past) → P (cut_at (suc k) e ∷ past)) → P (e ∷ past)
to_all P e past first next = subst (λ cs. P (with_calls e cs ∷ past)) (all_of_it e.effects.calls) (to_cut P e past first next (length e.effects.calls))

marked_alike : (es : Trace) (e : Entry) (j k : ℕ) (i : Input) (ms : List Submitted) → mark es (cut_at j e) i ms ≡ mark es (cut_at k e) i ms
marked_alike es e j k (Told n a) ms = refl
marked_alike es e j k (Line text) ms = refl
marked_alike es e j k (Number text) ms = refl
marked_alike es e j k (Exit p) ms = refl
marked_alike es e j k (Spawned p ok) ms = refl
marked_alike es e j k Wake ms = refl

abbrev called : ℕ → ℕ → List Submitted → Call → List Submitted
called at reading ms c = new_call at reading c ∷ ms

submitted_next : (es : Trace) (e : Entry) (k : ℕ) (c : Call) → slice_get e.effects.calls k ≡ Some c
    → submitted (cut_at (suc k) e ∷ es) ≡ new_call (length es) e.reading c ∷ submitted (cut_at k e ∷ es)
submitted_next es e k c at =
    ap (λ cs. fold (called (length es) e.reading) (mark es (cut_at (suc k) e) e.input (submitted es)) cs) (one_more e.effects.calls k c at)
    ∙ fold-push (called (length es) e.reading) (mark es (cut_at (suc k) e) e.input (submitted es)) (take k e.effects.calls) c
    ∙ ap (λ ms. new_call (length es) e.reading c ∷ fold (called (length es) e.reading) ms (take k e.effects.calls)) (marked_alike es e (suc k) k e.input (submitted es))

pub mine_next : (es : Trace) (e : Entry) (s : Session) (k : ℕ) (c : Call) → slice_get e.effects.calls k ≡ Some c → (c.session == s.number) ≡ true
    → calls_of (cut_at (suc k) e ∷ es) s ≡ new_call (length es) e.reading c ∷ calls_of (cut_at k e ∷ es) s
mine_next es e s k c at mine =
    ap (λ ms. filter (is_call_of s) ms) (submitted_next es e k c at)
    ∙ ap (λ b. cond b (new_call (length es) e.reading c ∷ calls_of (cut_at k e ∷ es) s) (calls_of (cut_at k e ∷ es) s)) mine

pub other_next : (es : Trace) (e : Entry) (s : Session) (k : ℕ) (c : Call) → slice_get e.effects.calls k ≡ Some c → (c.session == s.number) ≡ false
    → calls_of (cut_at (suc k) e ∷ es) s ≡ calls_of (cut_at k e ∷ es) s
other_next es e s k c at other =
    ap (λ ms. filter (is_call_of s) ms) (submitted_next es e k c at)
    ∙ ap (λ b. cond b (new_call (length es) e.reading c ∷ calls_of (cut_at k e ∷ es) s) (calls_of (cut_at k e ∷ es) s)) other

-- ---- answers

kept_told : (f : Submitted → Submitted) (x : Submitted) (b c : Bool) (fs ms : List Submitted) → c ≡ b → fs ≡ map f ms → cond c (f x ∷ fs) fs ≡ map f (cond b (x ∷ ms) ms)
kept_told f x true c fs ms same rest = ap (λ t. cond t (f x ∷ fs) fs) same ∙ ap (λ zs. f x ∷ zs) rest
kept_told f x false c fs ms same rest = ap (λ t. cond t (f x ∷ fs) fs) same ∙ rest

filter_told : (es : Trace) (e : Entry) (n : ℕ) (a : Answer) (s : Session) (ms : List Submitted)
    → filter (is_call_of s) (map (answered_in es e n a) ms) ≡ map (answered_in es e n a) (filter (is_call_of s) ms)
filter_told es e n a s [] = refl
filter_told es e n a s (x ∷ ms) =
    kept_told (answered_in es e n a) x (is_call_of s x) (is_call_of s (answered_in es e n a x)) (filter (is_call_of s) (map (answered_in es e n a) ms)) (filter (is_call_of s) ms)
    (ap (λ (c : Call). c.session == s.number) (same_answered es e n a x).call) (filter_told es e n a s ms)

filter_marked : (es : Trace) (e : Entry) (i : Input) (s : Session) (ms : List Submitted) → filter (is_call_of s) (mark es e i ms) ≡ mark es e i (filter (is_call_of s) ms)
filter_marked es e (Told n a) s ms = filter_told es e n a s ms
filter_marked es e (Line text) s ms = refl
filter_marked es e (Number text) s ms = refl
filter_marked es e (Exit p) s ms = refl
filter_marked es e (Spawned p ok) s ms = refl
filter_marked es e Wake s ms = refl

-- The session's calls at the head of an entry are those before, with the entry's answer.
pub mine_marked : (es : Trace) (e : Entry) (s : Session) → calls_of (cut_at 0 e ∷ es) s ≡ mark es (cut_at 0 e) e.input (calls_of es s)
mine_marked es e s = filter_marked es (cut_at 0 e) e.input s (submitted es)
