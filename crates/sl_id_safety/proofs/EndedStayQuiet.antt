-- A joined session that has ended, or has written its free, makes no call any more: its calls stay, but for answers.
use Rattle.sl_id_safety.proofs.State.SessionBesideTrace.{filter_pairs}
use Rattle.sl_id_safety.proofs.State.PairedLists.{find_pairs}
use Rattle.sl_id_safety.proofs.State.Tails.{AreLater, IsLater, all_again, all_still, marked_later}
use Rattle.sl_run.proofs.LawFacts.{orderly-front}
use Rattle.sl_run.specs.Lawful.{Orderly}
use Rattle.sl_run_law.proofs.Sessions.FreedAreSilent.{freed_are_silent}
use Rattle.sl_run_law.proofs.Sessions.CallOwners.{sessions_stay}
use Rattle.sl_run_law.proofs.Sessions.EndedAreSilent.{ended_are_silent}
use Rattle.sl_run_law.proofs.Sessions.MarksStay.{marks_stay}
use Rattle.sl_run_law.specs.Sessions.SessionLaws.{IsSession as IsSessionOf}
use Rattle.sl_trace.specs.Sessions.{calls_of, ended_after, free_write, is_call_of, is_free_purpose, joined_after}
use Rattle.sl_trace.specs.declared.session.Session.{Session}
use Rattle.sl_trace.specs.Traces.{Setting, Submitted, Trace, mark, new_call, submitted}
use Rattle.sl_trace.specs.declared.effects.Call.{Call}
use Rattle.sl_trace.specs.declared.effects.Entry.{Entry}
use Rattle.sl_words.proofs.CaseLaws.{is_false}
use Rattle.std.proofs.Common.{ap, inl, inr, refl, subst, sym, ◌∙◌}
use Rattle.std.proofs.lemmas.Bool.{eqb-true}
use Rattle.std.specs.Prelude.{List, Some, [], cond, false, filter, fold, length, slice_get, suc, zero, ℕ, ◌++◌, ◌==◌, ◌∷◌, ◌≡◌, ◌⊎◌}

-- ---- an entry without a call of the session

fold_apart : (s : Session) (at reading : ℕ) (ms : List Submitted) (cs : List Call) → ((j : ℕ) (c : Call) → slice_get cs j ≡ Some c → (c.session == s.number) ≡ false)
    → filter (is_call_of s) (fold (λ ns c. new_call at reading c ∷ ns) ms cs) ≡ filter (is_call_of s) ms
fold_apart s at reading ms [] apart = refl
fold_apart s at reading ms (c ∷ cs) apart =
    fold_apart s at reading (new_call at reading c ∷ ms) cs (λ j x is. apart (suc j) x is)
    ∙ ap (λ b. cond b (new_call at reading c ∷ filter (is_call_of s) ms) (filter (is_call_of s) ms)) (apart zero c refl)

-- Its calls stay, but for an answer.
entry_apart : (e : Entry) (past : Trace) (s : Session) → ((j : ℕ) (c : Call) → slice_get e.effects.calls j ≡ Some c → (c.session == s.number) ≡ false)
    → AreLater (calls_of (e ∷ past) s) (calls_of past s)
entry_apart e past s apart =
    subst (λ ms. AreLater ms (calls_of past s)) (sym (fold_apart s (length past) e.reading (mark past e e.input (submitted past)) e.effects.calls apart))
    (filter_pairs IsLater (is_call_of s) (is_call_of s) (λ m n r. ap (λ (c : Call). c.session == s.number) (sym r.same.call)) (mark past e e.input (submitted past)) (submitted past)
    (marked_later past e e.input (submitted past)))

-- ---- from a front on

-- It has ended, or has written its free.
abbrev pub IsQuiet : Trace → Session → Type 0
IsQuiet es s = ((k : ℕ) × (ended_after es s ≡ Some k)) ⊎ ((m : Submitted) × (free_write (calls_of es s) ≡ Some m))

no_call : (st : Setting) (e : Entry) (newer es : Trace) (s : Session) (k : ℕ) → Orderly st (e ∷ newer ++ es) → IsSessionOf st es s → joined_after es s ≡ Some k → IsQuiet es s
    → AreLater (calls_of (newer ++ es) s) (calls_of es s) → (j : ℕ) (c : Call) → slice_get e.effects.calls j ≡ Some c → c.session ≡ s.number → ⊥
no_call st e newer es s k h its joined (inl ended) rest j c at mine =
    ended_are_silent st e (newer ++ es) s h (sessions_stay st (e ∷ newer) es s.number s its) ended.0 (marks_stay.ended newer es s ended.0 ended.1) j c at mine
no_call st e newer es s k h its joined (inr freed) rest j c at mine =
    let m = find_pairs IsLater (λ (x : Submitted). is_free_purpose x.call.purpose) (λ (x : Submitted). is_free_purpose x.call.purpose)
    (λ a b r. ap (λ (y : Call). is_free_purpose y.purpose) (sym r.same.call)) (calls_of (newer ++ es) s) (calls_of es s) rest freed.0 freed.1 in
    freed_are_silent st e (newer ++ es) s h (sessions_stay st (e ∷ newer) es s.number s its) k (marks_stay.joined newer es s k joined) m.0 m.1 j c at mine

-- Then its calls stay, but for answers.
pub quiet_stays : (st : Setting) (newer es : Trace) (s : Session) (k : ℕ) → Orderly st (newer ++ es) → IsSessionOf st es s → joined_after es s ≡ Some k → IsQuiet es s
    → AreLater (calls_of (newer ++ es) s) (calls_of es s)
quiet_stays st [] es s k h its joined quiet = all_still (calls_of es s)
quiet_stays st (e ∷ newer) es s k h its joined quiet =
    let rest = quiet_stays st newer es s k (orderly-front st (e ∷ []) (newer ++ es) h) its joined quiet in
    all_again (calls_of (e ∷ newer ++ es) s) (calls_of (newer ++ es) s) (calls_of es s)
    (entry_apart e (newer ++ es) s (λ j c at. is_false (c.session == s.number) (λ mine. no_call st e newer es s k h its joined quiet rest j c at (eqb-true c.session s.number mine)))) rest
