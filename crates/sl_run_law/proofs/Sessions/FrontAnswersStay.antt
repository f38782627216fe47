-- What was answered where a call was made stays answered; a request seen in a joining sets it back.
use Rattle.sl_run.specs.LawForms.{cut_at}
use Rattle.sl_words.proofs.Lists.{contains_more}
use Rattle.sl_run_law.proofs.Sessions.CallsAreMade.{answers_stay, old_stays}
use Rattle.sl_run_law.specs.Sessions.SessionLaws.{FrontAnswersStay}
use Rattle.sl_trace.specs.Traces.{Submitted, Trace, mark, new_call, submitted}
use Rattle.sl_trace.specs.declared.effects.Call.{Call}
use Rattle.sl_trace.specs.declared.effects.Entry.{Entry}
use Rattle.sl_trace.specs.declared.input.Input.TheVariants.{Answer as Told, Exit, Line, Number, Spawned, Wake}
use Rattle.sl_trace.specs.declared.input.Input.{Input}
use Rattle.std.proofs.Common.{refl, subst, sym}
use Rattle.std.specs.Prelude.{Contains, List, [], fold, length, suc, take, zero, ℕ, ◌∷◌, ◌≡◌}

abbrev called : ℕ → ℕ → List Submitted → Call → List Submitted
called at reading ms c = new_call at reading c ∷ ms

in_all : (at reading : ℕ) (cs : List Call) (k : ℕ) (ms : List Submitted) (m : Submitted) → Contains (fold (called at reading) ms (take k cs)) m → Contains (fold (called at reading) ms cs) m
in_all at reading [] zero ms m there = there
in_all at reading [] (suc k) ms m there = there
in_all at reading (c ∷ cs) zero ms m there = old_stays at reading cs (new_call at reading c ∷ ms) m (contains_more (new_call at reading c) ms m there)
in_all at reading (c ∷ cs) (suc k) ms m there = in_all at reading cs k (new_call at reading c ∷ ms) m there

marked_whole : (es : Trace) (e : Entry) (k : ℕ) (i : Input) (ms : List Submitted) → mark es (cut_at k e) i ms ≡ mark es e i ms
marked_whole es e k (Told n a) ms = refl
marked_whole es e k (Line text) ms = refl
marked_whole es e k (Number text) ms = refl
marked_whole es e k (Exit p) ms = refl
marked_whole es e k (Spawned p ok) ms = refl
marked_whole es e k Wake ms = refl

in_entry : (es : Trace) (e : Entry) (k : ℕ) (m : Submitted) → Contains (submitted (cut_at k e ∷ es)) m → Contains (submitted (e ∷ es)) m
in_entry es e k m there =
    in_all (length es) e.reading e.effects.calls k (mark es e e.input (submitted es)) m
    (subst (λ ms. Contains (fold (called (length es) e.reading) ms (take k e.effects.calls)) m) (marked_whole es e k e.input (submitted es)) there)

pub front_answers_stay : FrontAnswersStay
front_answers_stay es m d r a there is =
    subst (λ t. Contains (submitted t) r) (sym d.whole) (answers_stay d.later (d.entry ∷ d.past) r a (in_entry d.past d.entry d.index r there) is)
