-- What stays as a trace grows.
use Rattle.sl_trace.specs.TraceLaws.{with_call}
use Rattle.sl_trace.specs.Traces.{EachEntry, Replied, Trace, mark, new_call, reply_to, submitted}
use Rattle.sl_trace.specs.declared.effects.Call.{Call}
use Rattle.sl_trace.specs.declared.effects.Entry.{Entry}
use Rattle.std.specs.Prelude.{List, Some, fold, length, refl, [], ℕ, ◌++◌, ◌∷◌, ◌≡◌}

-- One more turn at the end of a loop.
pub fold-push : {A B : Type 0} (f : A → B → A) (a : A) (xs : List B) (x : B) → fold f a (xs ++ x ∷ []) ≡ f (fold f a xs) x
fold-push f a [] x = refl
fold-push f a (y ∷ ys) x = fold-push f (f a y) ys x

-- What is said of each entry of a trace is said of each of its fronts.
pub each_entry-front : (P : Trace → Entry → Type 0) (later es : Trace) → EachEntry P (later ++ es) → EachEntry P es
each_entry-front P [] es h = h
each_entry-front P (e ∷ later) es h = each_entry-front P later es h.1

-- A reply stays.
pub reply_to-more : (e : Entry) (es : Trace) (job : ℕ) (r : Replied) → reply_to es job ≡ Some r → reply_to (e ∷ es) job ≡ Some r
reply_to-more e es job r h = rw h refl

-- A further call.
pub submitted-push : (es : Trace) (e : Entry) (c : Call) → submitted (with_call c e ∷ es) ≡ new_call (length es) e.reading c ∷ submitted (e ∷ es)
submitted-push es e c = fold-push (λ ms d. new_call (length es) e.reading d ∷ ms) (mark es e e.input (submitted es)) e.effects.calls c
