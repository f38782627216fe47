-- Whether an input may come is asked of what is kept.
use Rattle.sl_host_law.proofs.SharedFacts.PlainLists.{each_of, found_some}
use Rattle.sl_host_law.proofs.Replies.Answers.AnswerFindsItsCall.{IsOr, in_reversed, the_call}
use Rattle.sl_host_law.proofs.Replies.PlainNumbers.{same_number}
use Rattle.sl_host_state.specs.KeptState.{Config, HostState}
use Rattle.sl_host_state.specs.HostStands.{Keeps, is_there, kept_call, sectors_of}
use Rattle.sl_host_state.specs.declared.kept_parts.OpenCall.{OpenCall}
use Rattle.sl_host_step.specs.ExpectedInputs.{ExpectedIs, expected_in, is_answer_of}
use Rattle.sl_words.proofs.Lists.{any_found, any_of, contains_cases, contains_map, contains_none, find_inside, head_is, kept, kept_inside, tail_is}
use Rattle.sl_trace.specs.Traces.{Child, Setting, Submitted, Trace, children, first_child, is_answer_for, is_expected, outstanding, submitted}
use Rattle.sl_trace.specs.declared.effects.Op.TheVariants.{ReadSectors, WriteRecord}
use Rattle.sl_trace.specs.declared.effects.Op.{Op}
use Rattle.sl_trace.specs.declared.input.Answer.TheVariants.{Failed, Read, Written}
use Rattle.sl_trace.specs.declared.input.Answer.{Answer}
use Rattle.sl_trace.specs.declared.input.Input.TheVariants.{Answer as Told, Exit, Line, Number, Spawned, Wake}
use Rattle.sl_words.proofs.CaseLaws.{is_false, not_both}
use Rattle.sl_words.proofs.WordLaws.{and_true}
use Rattle.sl_words.specs.Words.{some_is}
use Rattle.std.proofs.Common.{ap, arith, inl, inr, refl, subst, suc, sym, zero, ◌∙◌}
use Rattle.std.proofs.lemmas.List.{reverse-reverse}
use Rattle.std.specs.List.{range_with_len}
use Rattle.std.specs.Option.{option_map_or}
use Rattle.std.specs.Prelude.{Bool, Contains, List, None, Option, Some, cond, false, filter, find, is_none, is_some, length, map, not, reverse, true, [], ℕ, ◌&&◌, ◌*◌, ◌+◌, ◌==◌, ◌||◌, ◌≡◌, ◌≤◌, ◌⊎◌, ◌∷◌}

-- Two answers that come one with the other are the same.
same_truth : (a b : Bool) → (a ≡ true → b ≡ true) → (b ≡ true → a ≡ true) → a ≡ b
same_truth true b there back = sym (there refl)
same_truth false b there back = sym (is_false b (λ is. not_both false (back is) refl))

-- ---- answers

-- Of the call that is kept so the same is asked.
same_question : (st : Setting) (a : Answer) (m : Submitted) (c : OpenCall) → kept_call m ≡ c → is_answer_for st a m.call.op ≡ is_answer_of st.layout a c
same_question st a m c is = by a m.call.op (ap (λ (z : OpenCall). z.sectors) is) where
  by : (a : Answer) (op : Op) → sectors_of op ≡ c.sectors → is_answer_for st a op ≡ is_answer_of st.layout a c
  by (Read bytes) (ReadSectors n) same = ap (λ o. option_map_or (λ k. length bytes == k * st.layout.sector) o false) same
  by (Read bytes) (WriteRecord r) same = ap (λ o. option_map_or (λ k. length bytes == k * st.layout.sector) o false) same
  by Written (ReadSectors n) same = ap (λ (o : Option ℕ). is_none o) same
  by Written (WriteRecord r) same = ap (λ (o : Option ℕ). is_none o) same
  by Failed op same = refl

-- The call of the trace, and the one that is kept.
record IsKeptAs (h : HostState) (es : Trace) (number : ℕ) (m : Submitted) (c : OpenCall) : Type 0 where
  pub waits : Contains (outstanding es) m
  pub numbered : (m.call.number == number) ≡ true
  pub found : find (λ d. d.number == number) h.unanswered ≡ Some c
  pub kept : kept_call m ≡ c

of_kept : (h : HostState) (st : Setting) (es : Trace) (number : ℕ) (c : OpenCall) → Keeps h st es → find (λ d. d.number == number) h.unanswered ≡ Some c → (m : Submitted) × IsKeptAs h es number m c
of_kept h st es number c k found =
    let at = find_inside (λ (d : OpenCall). d.number == number) h.unanswered c found in
    let one = the_call h st es number c k found in
    let there = find_inside (λ (d : Submitted). d.call.number == c.number) (submitted es) one.0 one.1.found in
    let number_is : one.0.call.number ≡ c.number = same_number one.0.call.number c.number there.1 in (
      one.0,
      record {
        waits = kept (λ (d : Submitted). is_none d.answer) (submitted es) one.0 (ap (λ (o : Option _). is_none o) one.1.unanswered) there.0;
        numbered = ap (λ n. n == number) number_is ∙ at.1;
        found = found;
        kept = one.1.kept;
      },
    )

of_open : (h : HostState) (st : Setting) (es : Trace) (number : ℕ) (m : Submitted) → Keeps h st es → Contains (outstanding es) m → (m.call.number == number) ≡ true → (c : OpenCall) × IsKeptAs h es number m c
of_open h st es number m k there its = by (find (λ (c : OpenCall). c.number == number) h.unanswered) refl where
  inside : Contains h.unanswered (kept_call m)
  inside = subst (λ cs. Contains cs (kept_call m)) (reverse-reverse h.unanswered)
      (in_reversed (reverse h.unanswered) (kept_call m) (subst (λ cs. Contains cs (kept_call m)) k.unanswered (contains_map kept_call (outstanding es) m there)))

  one : (n : ℕ) (d : Submitted) → IsOr n d m → n ≡ number → m ≡ d
  one n d (inl other) same = absurd (not_both (m.call.number == n) (subst (λ z. (m.call.number == z) ≡ true) (sym same) its) other)
  one n d (inr equal) same = equal

  by : (o : Option OpenCall) → find (λ (c : OpenCall). c.number == number) h.unanswered ≡ o → (c : OpenCall) × IsKeptAs h es number m c
  by None none = absurd (not_both (is_some (find (λ (c : OpenCall). c.number == number) h.unanswered)) (found_some (λ (c : OpenCall). c.number == number) h.unanswered (kept_call m) inside its) (ap is_some none))
  by (Some c) found =
      let at = find_inside (λ (d : OpenCall). d.number == number) h.unanswered c found in
      let of_trace = the_call h st es number c k found in
      let m_there = kept_inside (λ (d : Submitted). is_none d.answer) (submitted es) m there in
      let same = one c.number of_trace.0 (each_of (IsOr c.number of_trace.0) (submitted es) m of_trace.1.alone m_there.0) (same_number c.number number at.1) in
      (c, record { waits = there; numbered = its; found = found; kept = ap kept_call same ∙ of_trace.1.kept })

answered : (h : HostState) (st : Setting) (es : Trace) (number : ℕ) (a : Answer) → Keeps h st es → expected_in h (Told number a) ≡ is_expected st es (Told number a)
answered h st es number a k = same_truth (expected_in h (Told number a)) (is_expected st es (Told number a)) there back where
  asked : Submitted → Bool
  asked m = m.call.number == number && is_answer_for st a m.call.op

  layout : h.config.layout ≡ st.layout
  layout = ap (λ (c : Config). c.layout) (sym k.config)

  there : expected_in h (Told number a) ≡ true → is_expected st es (Told number a) ≡ true
  there is = by (find (λ (c : OpenCall). c.number == number) h.unanswered) refl is where
    by : (o : Option OpenCall) → find (λ (c : OpenCall). c.number == number) h.unanswered ≡ o → option_map_or (is_answer_of h.config.layout a) o false ≡ true → is_expected st es (Told number a) ≡ true
    by None none is = absurd (not_both false is refl)
    by (Some c) found is =
        let m = of_kept h st es number c k found in
        any_of asked (outstanding es) m.0
        (ap (λ b. b && is_answer_for st a m.0.call.op) m.1.numbered ∙ same_question st a m.0 c m.1.kept ∙ ap (λ g. is_answer_of g a c) (sym layout) ∙ is) m.1.waits

  back : is_expected st es (Told number a) ≡ true → expected_in h (Told number a) ≡ true
  back is =
      let m = any_found asked (outstanding es) is in
      let its = and_true (m.0.call.number == number) (is_answer_for st a m.0.call.op) m.2 in
      let c = of_open h st es number m.0 k m.1 its.0 in
      ap (λ o. option_map_or (is_answer_of h.config.layout a) o false) c.1.found ∙ ap (λ g. is_answer_of g a c.0) layout ∙ sym (same_question st a m.0 c.0 c.1.kept) ∙ its.1

-- ---- starts

pub from_first : (a n y : ℕ) → Contains (range_with_len a n) y → a ≤ y
from_first a zero y there = absurd (contains_none y there)
from_first a (suc n) y there = by (λ rest. from_first (a + 1) n y rest) (contains_cases a (range_with_len (a + 1) n) y there) where
  by : (Contains (range_with_len (a + 1) n) y → a + 1 ≤ y) → (a ≡ y) ⊎ Contains (range_with_len (a + 1) n) y → a ≤ y
  by deeper (inl is) = omega (arith, is)
  by deeper (inr rest) = let r = deeper rest in omega (arith, r)

unanswered_there : (k : Child) → is_there k ≡ false → is_none k.answer ≡ false
unanswered_there k off = by k.answer off where
  by : (o : Option Bool) → (is_none o || some_is (λ ok. ok) o && not k.exited) ≡ false → is_none o ≡ false
  by None off = absurd (not_both true refl off)
  by (Some ok) off = refl

-- Of children with numbers of their own, behind one of this number there is none of it.
none_behind : (p a : ℕ) (ks : List Child) → map (λ z. z.process) ks ≡ range_with_len (a + 1) (length ks) → (a == p) ≡ true → find (λ k. k.process == p) (filter is_there ks) ≡ None
none_behind p a ks row here = by (find (λ (k : Child). k.process == p) (filter is_there ks)) refl where
  by : (o : Option Child) → find (λ (k : Child). k.process == p) (filter is_there ks) ≡ o → o ≡ None
  by None is = refl
  by (Some k) is =
      let at = find_inside (λ (c : Child). c.process == p) (filter is_there ks) k is in
      let inside = kept_inside is_there ks k at.0 in
      let low : a + 1 ≤ k.process = from_first (a + 1) (length ks) k.process (subst (λ ns. Contains ns k.process) row (contains_map (λ (c : Child). c.process) ks k inside.0)) in
      let one : a ≡ p = same_number a p here in
      let other : k.process ≡ p = same_number k.process p at.1 in
      absurd (omega (arith, low, one, other))

found_there : (p a : ℕ) (ks : List Child) → map (λ z. z.process) ks ≡ range_with_len a (length ks)
    → option_map_or (λ k. is_none k.answer) (find (λ k. k.process == p) (filter is_there ks)) false ≡ some_is (λ k. is_none k.answer) (find (λ k. k.process == p) ks)
found_there p a [] row = refl
found_there p a (z ∷ zs) row = by (λ rest. found_there p (a + 1) zs rest) (is_there z) refl (z.process == p) refl where
  here : z.process ≡ a
  here = head_is z.process a (map (λ (c : Child). c.process) zs) (range_with_len (a + 1) (length zs)) row

  rest : map (λ (c : Child). c.process) zs ≡ range_with_len (a + 1) (length zs)
  rest = tail_is z.process a (map (λ (c : Child). c.process) zs) (range_with_len (a + 1) (length zs)) row

  by : (map (λ (c : Child). c.process) zs ≡ range_with_len (a + 1) (length zs)
      → option_map_or (λ (k : Child). is_none k.answer) (find (λ (k : Child). k.process == p) (filter is_there zs)) false
      ≡ some_is (λ (k : Child). is_none k.answer) (find (λ (k : Child). k.process == p) zs)) → (t : Bool) → is_there z ≡ t → (n : Bool) → (z.process == p) ≡ n
      → option_map_or (λ (k : Child). is_none k.answer) (find (λ (k : Child). k.process == p) (cond t (z ∷ filter is_there zs) (filter is_there zs))) false
      ≡ some_is (λ (k : Child). is_none k.answer) (cond n (Some z) (find (λ (k : Child). k.process == p) zs))
  by deeper true there true is = ap (λ b. option_map_or (λ (k : Child). is_none k.answer) (cond b (Some z) (find (λ (k : Child). k.process == p) (filter is_there zs))) false) is
  by deeper true there false is = ap (λ b. option_map_or (λ (k : Child). is_none k.answer) (cond b (Some z) (find (λ (k : Child). k.process == p) (filter is_there zs))) false) is ∙ deeper rest
  by deeper false there true is =
      ap (λ o. option_map_or (λ (k : Child). is_none k.answer) o false) (none_behind p a zs rest (ap (λ n. n == p) (sym here) ∙ is)) ∙ sym (unanswered_there z there)
  by deeper false there false is = deeper rest

pub expected_is : ExpectedIs
expected_is h st es (Told number a) s = answered h st es number a s.keeps
expected_is h st es (Spawned p ok) s =
    ap (λ ks. option_map_or (λ (k : Child). is_none k.answer) (find (λ (k : Child). k.process == p) ks) false) (sym s.keeps.children)
    ∙ found_there p first_child (children es) s.keeps.counted
expected_is h st es (Line text) s = refl
expected_is h st es (Number text) s = refl
expected_is h st es (Exit p) s = refl
expected_is h st es Wake s = refl
