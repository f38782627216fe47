-- Where the versions of a session's values on an area fall from the version held, only the last can be of that version.
use Rattle.sl_host_law.specs.Decisions.CommandDecisions.{value_seq}
use Rattle.sl_host_law.specs.Decisions.DecisionLaws.{AreFalling, FallingIsEnough}
use Rattle.sl_host_law.proofs.Decisions.QuestionsByKept.{named_stands}
use Rattle.sl_due.specs.Steps.{seen}
use Rattle.sl_host_law.proofs.SharedFacts.PlainLists.{at_some}
use Rattle.sl_host_state.specs.KeptState.{LeaseState, MemberState}
use Rattle.sl_host_state.specs.MadeEffects.{is_lease_on}
use Rattle.sl_host_state.specs.HostStands.{MemberStands, newest_value}
use Rattle.sl_host_state.specs.declared.kept_parts.ValuePair.{ValuePair}
use Rattle.sl_trace.specs.Counts.{next_value_seq, values_on}
use Rattle.sl_trace.specs.Leases.{spot_of}
use Rattle.sl_words.proofs.Lists.{find_inside}
use Rattle.sl_words.proofs.Options.{some_of}
use Rattle.sl_sector.specs.declared.sector.ValueRec.{ValueRec}
use Rattle.sl_trace.specs.Sessions.{calls_of}
use Rattle.sl_trace.specs.Traces.{Setting, Trace, same_spot}
use Rattle.sl_trace.specs.declared.effects.Spot.{Spot}
use Rattle.sl_words.proofs.WordLaws.{and_true}
use Rattle.sl_words.specs.Words.{choose}
use Rattle.std.proofs.Common.{ap, arith, refl, subst, sym, ◌∙◌}
use Rattle.std.proofs.lemmas.Bool.Decides.{Decides-eqb}
use Rattle.std.proofs.lemmas.Slice.Eq.{bytes_eq-Decides}
use Rattle.std.specs.Option.{option_map_or}
use Rattle.std.specs.Prelude.{Bool, List, None, Option, Some, bytes_eq, cond, false, find, option_and_then, true, [], ℕ, ◌+◌, ◌<◌, ◌==◌, ◌∷◌, ◌≡◌, ◌≤◌}

one_spot : (a b : Spot) → same_spot a b ≡ true → a ≡ b
one_spot a b is =
    let parts = and_true (a.base == b.base) (bytes_eq a.path b.path) is in
    ap (λ p. record { path = p; base = a.base }) ((bytes_eq-Decides a.path b.path).0 parts.1) ∙ ap (λ (n : ℕ). record { path = b.path; base = n }) ((Decides-eqb a.base b.base).0 parts.0)

-- None of a version above all.
none_above : (lver top : ℕ) (vs : List ValueRec) → top < lver → AreFalling top vs → find (λ v. v.lver == lver) vs ≡ None
none_above lver top [] less fall = refl
none_above lver top (v ∷ vs) less fall =
    ap (λ b. cond b (Some v) (find (λ (w : ValueRec). w.lver == lver) vs)) (other v.lver top lver fall.0 less)
    ∙ none_above lver v.lver vs (below v.lver top lver fall.0 less) fall.1 where
      other : (n t l : ℕ) → n ≤ t → t < l → (n == l) ≡ false
      other n t l most up = grind (arith, most, up)

      below : (n t l : ℕ) → n ≤ t → t < l → n < l
      below n t l most up = omega (arith, most, up)

-- The seq by the newest.
abbrev seq_by : ℕ → Option ValuePair → ℕ
seq_by lver o = option_map_or (λ v. v.seq) (option_and_then (λ v. choose (v.lver == lver) v) o) 0

by_newest : (lver : ℕ) (vs : List ValueRec) → AreFalling lver vs → option_map_or (λ v. v.seq) (find (λ v. v.lver == lver) vs) 0 ≡ seq_by lver (newest_value vs)
by_newest lver [] fall = refl
by_newest lver (v ∷ vs) fall = by (v.lver == lver) refl where
  less : (n l : ℕ) → n ≤ l → (n == l) ≡ false → n < l
  less n l most other = grind (arith, most, other)

  by : (b : Bool) → (v.lver == lver) ≡ b
      → option_map_or (λ w. w.seq) (cond b (Some v) (find (λ w. w.lver == lver) vs)) 0 ≡ option_map_or (λ (w : ValuePair). w.seq) (choose b (record { lver = v.lver; seq = v.seq })) 0
  by true is = refl
  by false is = ap (λ o. option_map_or (λ (w : ValueRec). w.seq) o 0) (none_above lver v.lver vs (less v.lver lver fall.0 is) fall.1)

seq_is : (st : Setting) (es : Trace) (m : MemberState) (at : Spot) (lver : ℕ) (l : LeaseState) → MemberStands st es m → find (is_lease_on at) m.leases ≡ Some l
    → AreFalling lver (values_on st.layout at (calls_of es m.who)) → next_value_seq st es m.who at lver ≡ value_seq m at lver
seq_is st es m at lver l s there fall =
    let f = find_inside (is_lease_on at) m.leases l there in
    let k = at_some m.leases l f.0 in
    let kept : newest_value (values_on st.layout at (calls_of es m.who)) ≡ l.value =
    subst (λ p. newest_value (values_on st.layout p (calls_of es m.who)) ≡ l.value) (sym (one_spot at l.spot f.1)) (s.values k.0 l k.1)
    in
    ap (λ n. n + 1) (by_newest lver (values_on st.layout at (calls_of es m.who)) fall ∙ (ap (seq_by lver) kept ∙ ap (λ (o : Option LeaseState). seq_by lver (option_and_then (λ z. z.value) o)) (sym there)))

pub falling_is_enough : FallingIsEnough
falling_is_enough i h x r p bytes s falls m g named held exclusive =
    let l = some_of (find (is_lease_on (spot_of r)) m.leases) (falls.leased m named) in
    seq_is x.setting (seen x) m (spot_of r) g.lver l.0 (named_stands h x.setting (seen x) r.lockspace m s.keeps named) l.1 (falls.falling m g named held exclusive)
