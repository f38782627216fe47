-- A call of a front of a trace, as the whole trace has it: it stands where it was made, and an answer that it had stays. And back: what
-- was made by an entry of the front is a call of the front.
use Rattle.sl_safety.proofs.Ballot.EndedGrown.{Alike, grown_to}
use Rattle.sl_run_law.proofs.Front.JoinedLists.{contains_right}
use Rattle.sl_run_law.proofs.Place.FoundInLists.{partner}
use Rattle.sl_run_law.proofs.Sessions.CallsAreMade.{WasOpen, old_or_new, was_marked}
use Rattle.sl_trace.specs.Traces.{Answered, Submitted, Trace, mark, submitted}
use Rattle.std.proofs.Common.{arith, inl, inr, refl, subst, sym, ◌∙◌}
use Rattle.std.specs.Prelude.{Contains, List, Some, [], length, suc, ℕ, ◌++◌, ◌<◌, ◌∷◌, ◌≡◌}

-- ---- onward

-- What became of a call, among these.
pub record Grown (ms : List Submitted) (m : Submitted) : Type 0 where
  pub now : Submitted
  pub inside : Contains ms now
  pub call : now.call ≡ m.call
  pub at : now.at ≡ m.at
  pub told : (a : Answered) → m.answer ≡ Some a → now.answer ≡ Some a

-- Each call of a front is one of the whole.
pub calls_grow : (later es : Trace) (m : Submitted) → Contains (submitted es) m → Grown (submitted (later ++ es)) m
calls_grow later es m has =
    let g = grown_to later es in
    let one = partner Alike (submitted es) g.now m g.alike has in
    record {
      now = one.0;
      inside = subst (λ ms. Contains ms one.0) (sym g.is) (contains_right g.newer g.now one.0 one.1);
      call = one.2.call;
      at = one.2.at;
      told = one.2.told;
    }

-- ---- back

-- What a call was, among these.
pub record Was (ms : List Submitted) (m : Submitted) : Type 0 where
  pub was : Submitted
  pub inside : Contains ms was
  pub call : was.call ≡ m.call
  pub at : was.at ≡ m.at

not_below : (a b c : ℕ) → a ≡ b → a < c → c < suc b → ⊥
not_below a b c is less more = omega (arith, is, less, more)

length_most : (later es : Trace) → length es < suc (length (later ++ es))
length_most [] es = omega arith
length_most (e ∷ later) es = omega (arith, length_most later es)

-- A call that an entry of the front made is one of the front.
pub calls_were : (later es : Trace) (m : Submitted) → Contains (submitted (later ++ es)) m → m.at < length es → Was (submitted es) m
calls_were [] es m has early = record { was = m; inside = has; call = refl; at = refl }
calls_were (e ∷ later) es m has early =
    let front : Trace = later ++ es in
    elim (old_or_new (length front) e.reading e.effects.calls (mark front e e.input (submitted front)) m has) as (λ z. Was (submitted es) m) [
      | inl old ↦
          let w : WasOpen (submitted front) m = was_marked front e e.input (submitted front) m old in
          let r = calls_were later es w.before w.inside (subst (λ n. n < length es) w.same.at early) in
          record { was = r.was; inside = r.inside; call = r.call ∙ sym w.same.call; at = r.at ∙ sym w.same.at }
      | inr new ↦ absurd (not_below m.at (length front) (length es) new.place early (length_most later es))
    ]
