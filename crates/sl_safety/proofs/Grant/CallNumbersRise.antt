-- Numbers of calls rise from entry to entry of a trace.
use Rattle.sl_run_law.proofs.Course.CallsAreDistinct.{next_more}
use Rattle.sl_run_law.proofs.Place.Looks.{made_below}
use Rattle.sl_words.proofs.Lists.{contains_none, head_is, tail_is}
use Rattle.sl_words.proofs.Numbers.{one_further, plus_zero}
use Rattle.sl_run_law.proofs.Sessions.CallsAreMade.{IsNewCall, old_or_new, was_marked}
use Rattle.sl_trace.specs.Traces.{IsTrace, Setting, Submitted, Trace, mark, next_call, submitted}
use Rattle.sl_trace.specs.declared.effects.Call.{Call}
use Rattle.sl_words.proofs.CaseLaws.{none_some, some_value}
use Rattle.std.proofs.Common.{ap, arith, inl, inr, subst, sym, ◌∙◌}
use Rattle.std.specs.List.{range_with_len}
use Rattle.std.specs.Prelude.{Contains, List, Some, length, map, slice_get, suc, zero, [], ℕ, ◌+◌, ◌<◌, ◌∷◌, ◌≡◌, ◌⊎◌}

-- ---- the next number

-- ---- numbers of one entry

numbered_here : (n : ℕ) (cs : List Call) → map (λ (c : Call). c.number) cs ≡ range_with_len n (length cs) → (i : ℕ) (c : Call) → slice_get cs i ≡ Some c
    → (c.number ≡ n + i) × (i < length cs)
numbered_here n [] same i c at = absurd (none_some c at)
numbered_here n (x ∷ cs) same zero c at = (
  ap (λ (y : Call). y.number) (sym (some_value x c at))
      ∙ head_is x.number n (map (λ (c : Call). c.number) cs) (range_with_len (n + 1) (length cs)) same ∙ plus_zero n,
  omega arith,
)
numbered_here n (x ∷ cs) same (suc i) c at =
    let rest = numbered_here (n + 1) cs (tail_is x.number n (map (λ (c : Call). c.number) cs) (range_with_len (n + 1) (length cs)) same) i c at in
    let less = rest.1 in
    (rest.0 ∙ one_further n i, omega (arith, less))

-- ---- below the next

low_new : (a n i k m : ℕ) → a ≡ n + i → i < k → m ≡ n + k → a < m
low_new a n i k m is less more = omega (arith, is, less, more)

low_old : (a b n k m : ℕ) → a ≡ b → b < n → m ≡ n + k → a < m
low_old a b n k m is less more = omega (arith, is, less, more)

-- A call's number is below the next.
pub below_next : (st : Setting) (es : Trace) → IsTrace st es → (m : Submitted) → Contains (submitted es) m → m.call.number < next_call st es
below_next st [] trace m has = absurd (contains_none m has)
below_next st (e ∷ es) trace m has =
    elim (old_or_new (length es) e.reading e.effects.calls (mark es e e.input (submitted es)) m has) as (λ z. m.call.number < next_call st (e ∷ es)) [
      | inl old ↦
          let w = was_marked es e e.input (submitted es) m old in
          low_old m.call.number w.before.call.number (next_call st es) (length e.effects.calls) (next_call st (e ∷ es)) (ap (λ (c : Call). c.number) w.same.call)
          (below_next st es trace.1 w.before w.inside) (next_more st e es)
      | inr new ↦
          let n = numbered_here (next_call st es) e.effects.calls trace.0.numbered new.index m.call new.call in
          low_new m.call.number (next_call st es) new.index (length e.effects.calls) (next_call st (e ∷ es)) n.0 n.1 (next_more st e es)
    ]

-- ---- from entry to entry

past_end : (a b n : ℕ) → a < b → b < n → a ≡ n → ⊥
past_end a b n p q is = omega (arith, p, q, is)

up_from : (a b n d i : ℕ) → a ≡ b → b < n → d ≡ n + i → a < d
up_from a b n d i is less more = omega (arith, is, less, more)

not_less : (a b n : ℕ) → a < b → a ≡ n → b ≡ n → ⊥
not_less a b n p is also = omega (arith, p, is, also)

-- Of two calls of different entries the later one has the greater number.
pub numbers_rise : (st : Setting) (es : Trace) → IsTrace st es → (c d : Submitted) → Contains (submitted es) c → Contains (submitted es) d → c.at < d.at
    → c.call.number < d.call.number
numbers_rise st [] trace c d has there less = absurd (contains_none c has)
numbers_rise st (e ∷ es) trace c d has there less =
    by (λ v w inside also below. numbers_rise st es trace.1 v w inside also below)
    (old_or_new (length es) e.reading e.effects.calls (mark es e e.input (submitted es)) c has)
    (old_or_new (length es) e.reading e.effects.calls (mark es e e.input (submitted es)) d there)
  where
    by : ((v w : Submitted) → Contains (submitted es) v → Contains (submitted es) w → v.at < w.at → v.call.number < w.call.number)
        → Contains (mark es e e.input (submitted es)) c ⊎ IsNewCall (length es) e.reading e.effects.calls c
        → Contains (mark es e e.input (submitted es)) d ⊎ IsNewCall (length es) e.reading e.effects.calls d → c.call.number < d.call.number
    by rest (inl old) (inl early) =
        let v = was_marked es e e.input (submitted es) c old in
        let w = was_marked es e e.input (submitted es) d early in
        let below : v.before.at < w.before.at = subst (λ n. n < w.before.at) v.same.at (subst (λ n. c.at < n) w.same.at less) in
        subst (λ (x : Call). x.number < d.call.number) (sym v.same.call)
        (subst (λ (x : Call). v.before.call.number < x.number) (sym w.same.call) (rest v.before w.before v.inside w.inside below))
    by rest (inl old) (inr new) =
        let v = was_marked es e e.input (submitted es) c old in
        let n = numbered_here (next_call st es) e.effects.calls trace.0.numbered new.index d.call new.call in
        up_from c.call.number v.before.call.number (next_call st es) d.call.number new.index (ap (λ (x : Call). x.number) v.same.call)
        (below_next st es trace.1 v.before v.inside) n.0
    by rest (inr new) (inl early) =
        let w = was_marked es e e.input (submitted es) d early in
        absurd (past_end c.at d.at (length es) less (subst (λ n. n < length es) (sym w.same.at) (made_below es w.before w.inside)) new.place)
    by rest (inr new) (inr late) = absurd (not_less c.at d.at (length es) less new.place late.place)
