-- One more call at the end of an entry: what is said of each call is said of it too; it is the first of its session's calls.
use Rattle.sl_due_facts.proofs.Acts.AddedAtEnd.{begun_by}
use Rattle.sl_run.specs.LawForms.{EachCall, cut_at}
use Rattle.sl_trace.specs.Sessions.{calls_of, is_call_of, is_join_call, session_numbered, sessions}
use Rattle.sl_trace.specs.declared.session.Session.{Session}
use Rattle.sl_trace.proofs.TraceFacts.{submitted-push}
use Rattle.sl_trace.specs.TraceLaws.{with_call}
use Rattle.sl_trace.specs.Traces.{Setting, Submitted, Trace, answered_in, mark, new_call, next_call, submitted}
use Rattle.sl_trace.specs.declared.effects.Call.{Call}
use Rattle.sl_trace.specs.declared.effects.Effects.{Effects}
use Rattle.sl_trace.specs.declared.effects.Entry.{Entry}
use Rattle.sl_trace.specs.declared.effects.JoinStep.TheVariants.{FirstRead}
use Rattle.sl_trace.specs.declared.input.Input.TheVariants.{Answer as Told, Exit, Line, Number, Spawned, Wake}
use Rattle.sl_trace.specs.declared.input.Input.{Input}
use Rattle.sl_words.proofs.CaseLaws.{none_some, some_value}
use Rattle.std.proofs.Common.{ap, arith, inl, inr, refl, subst, sym, ◌∙◌}
use Rattle.std.specs.List.{list_any}
use Rattle.std.specs.Prelude.{Bool, List, Some, cond, false, filter, fold, length, map, slice_get, suc, take, true, zero, [], ℕ, ◌++◌, ◌+◌, ◌==◌, ◌||◌, ◌∷◌, ◌≡◌, ◌⊎◌}

-- ---- the last of a list

-- A place in a list with one more at its end.
pub record OldPlace {A : Type 0} (xs : List A) (y x : A) (k : ℕ) : Type 0 where
  pub old : slice_get xs k ≡ Some x
  pub front : take k xs ≡ take k (xs ++ y ∷ [])

pub record LastPlace {A : Type 0} (xs : List A) (y x : A) (k : ℕ) : Type 0 where
  pub new : y ≡ x
  pub front : xs ≡ take k (xs ++ y ∷ [])

further : {A : Type 0} (z : A) (xs : List A) (y x : A) (k : ℕ) → OldPlace xs y x k ⊎ LastPlace xs y x k → OldPlace (z ∷ xs) y x (suc k) ⊎ LastPlace (z ∷ xs) y x (suc k)
further z xs y x k (inl o) = inl (record { old = o.old; front = ap (λ zs. z ∷ zs) o.front })
further z xs y x k (inr l) = inr (record { new = l.new; front = ap (λ zs. z ∷ zs) l.front })

pub old_or_last : {A : Type 0} (xs : List A) (y x : A) (k : ℕ) → slice_get (xs ++ y ∷ []) k ≡ Some x → OldPlace xs y x k ⊎ LastPlace xs y x k
old_or_last [] y x zero at = inr (record { new = some_value y x at; front = refl })
old_or_last [] y x (suc k) at = absurd (none_some x at)
old_or_last (z ∷ xs) y x zero at = inl (record { old = at; front = refl })
old_or_last (z ∷ xs) y x (suc k) at = further z xs y x k (old_or_last xs y x k at)

-- ---- whose it is

pub any_more : {A : Type 0} (p : A → Bool) (xs : List A) (y : A) → p y ≡ false → list_any p (xs ++ y ∷ []) ≡ list_any p xs
any_more p [] y fails = ap (λ b. b || false) fails
any_more p (x ∷ xs) y fails = ap (λ b. p x || b) (any_more p xs y fails)

-- A call that begins no joining leaves the sessions.
pub same_sessions : (st : Setting) (e : Entry) (past : Trace) (c : Call) → is_join_call FirstRead c.purpose ≡ false → sessions st (with_call c e ∷ past) ≡ sessions st (e ∷ past)
same_sessions st e past c other =
    ap (λ b. sessions st past ++ begun_by st past (length (sessions st past)) e b) (any_more (λ (d : Call). is_join_call FirstRead d.purpose) e.effects.calls c other)

-- ---- what is said of each call

abbrev with_calls : Entry → List Call → Entry
with_calls e cs = let fx : Effects = e.effects in record e { effects = record fx { calls = cs } }

pub each_more : (st : Setting) (P : Trace → Session → Submitted → Type 0) (e : Entry) (past : Trace) (c : Call) → is_join_call FirstRead c.purpose ≡ false → EachCall st P past e
    → ((s : Session) → session_numbered st (e ∷ past) c.session ≡ Some s → P (e ∷ past) s (new_call (length past) e.reading c)) → EachCall st P past (with_call c e)
each_more st P e past c other each last k d s at its = by (old_or_last e.effects.calls c d k at) where
  same : session_numbered st (with_call c e ∷ past) d.session ≡ session_numbered st (e ∷ past) d.session
  same = ap (λ ss. slice_get ss d.session) (same_sessions st e past c other)

  by : OldPlace e.effects.calls c d k ⊎ LastPlace e.effects.calls c d k → P (cut_at k (with_call c e) ∷ past) s (new_call (length past) e.reading d)
  by (inl o) = subst (λ cs. P (with_calls e cs ∷ past) s (new_call (length past) e.reading d)) o.front (each k d s o.old (sym same ∙ its))
  by (inr l) =
      subst (λ cs. P (with_calls e cs ∷ past) s (new_call (length past) e.reading d)) l.front
      (subst (λ (z : Call). P (e ∷ past) s (new_call (length past) e.reading z)) l.new
      (last s (ap (λ (z : Call). session_numbered st (e ∷ past) z.session) l.new ∙ (sym same ∙ its))))

-- ---- the session's calls

-- Its own call comes first among them.
pub mine_more : (e : Entry) (past : Trace) (c : Call) (s : Session) → (c.session == s.number) ≡ true
    → calls_of (with_call c e ∷ past) s ≡ new_call (length past) e.reading c ∷ calls_of (e ∷ past) s
mine_more e past c s mine =
    ap (λ ms. filter (is_call_of s) ms) (submitted-push past e c)
    ∙ ap (λ b. cond b (new_call (length past) e.reading c ∷ calls_of (e ∷ past) s) (calls_of (e ∷ past) s)) mine

-- Another's leaves them.
pub others_stay : (e : Entry) (past : Trace) (c : Call) (s : Session) → (c.session == s.number) ≡ false → calls_of (with_call c e ∷ past) s ≡ calls_of (e ∷ past) s
others_stay e past c s other =
    ap (λ ms. filter (is_call_of s) ms) (submitted-push past e c)
    ∙ ap (λ b. cond b (new_call (length past) e.reading c ∷ calls_of (e ∷ past) s) (calls_of (e ∷ past) s)) other

-- ---- how many there are

map_length : {A B : Type 0} (f : A → B) (xs : List A) → length (map f xs) ≡ length xs
map_length f [] = refl
map_length f (x ∷ xs) = ap (λ n. suc n) (map_length f xs)

mark_length : (es : Trace) (e : Entry) (i : Input) (ms : List Submitted) → length (mark es e i ms) ≡ length ms
mark_length es e (Told n answer) ms = map_length (answered_in es e n answer) ms
mark_length es e (Line text) ms = refl
mark_length es e (Number text) ms = refl
mark_length es e (Exit p) ms = refl
mark_length es e (Spawned p ok) ms = refl
mark_length es e Wake ms = refl

made_length : (at reading : ℕ) (cs : List Call) (ms : List Submitted) → length (fold (λ ns c. new_call at reading c ∷ ns) ms cs) ≡ length ms + length cs
made_length at reading [] ms = omega arith
made_length at reading (c ∷ cs) ms =
    let rest : length (fold (λ ns d. new_call at reading d ∷ ns) (new_call at reading c ∷ ms) cs) ≡ length (new_call at reading c ∷ ms) + length cs = made_length at reading cs (new_call at reading c ∷ ms) in
    omega (arith, rest)

pub next_more : (st : Setting) (e : Entry) (past : Trace) → next_call st (e ∷ past) ≡ next_call st past + length e.effects.calls
next_more st e past =
    let made : length (submitted (e ∷ past)) ≡ length (mark past e e.input (submitted past)) + length e.effects.calls = made_length (length past) e.reading e.effects.calls (mark past e e.input (submitted past)) in
    let marked : length (mark past e e.input (submitted past)) ≡ length (submitted past) = mark_length past e e.input (submitted past) in
    omega (arith, made, marked)
