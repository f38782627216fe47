-- The call of an answer that may come is kept by the host.
use Rattle.sl_area.specs.AreaSizes.{Layout}
use Rattle.sl_due.specs.Steps.{Step, seen}
use Rattle.sl_host_law.proofs.SharedFacts.PlainLists.{each_of, found_some}
use Rattle.sl_host_state.specs.KeptState.{Config, HostState}
use Rattle.sl_host_state.specs.HostStands.{Keeps, Stands, kept_call, sectors_of}
use Rattle.sl_host_state.specs.declared.kept_parts.OpenCall.{OpenCall}
use Rattle.sl_host_law.specs.StepParts.ExpectedIsOpen.{AreLooks, ExpectedIsOpen, IsAnswerOf}
use Rattle.sl_words.proofs.Lists.{any_found, contains_map, find_inside, kept_inside}
use Rattle.sl_host_law.proofs.Replies.Answers.AnswerFindsItsCall.{IsOr, in_reversed, the_call}
use Rattle.sl_host_law.proofs.Replies.PlainNumbers.{same_number}
use Rattle.sl_host_law.specs.Replies.Answers.{FitsCall, IsOpen}
use Rattle.sl_trace.specs.Traces.{Setting, Submitted, Trace, is_answer_for, is_expected, outstanding, submitted}
use Rattle.sl_trace.specs.declared.effects.Effects.{Effects}
use Rattle.sl_trace.specs.declared.effects.Op.TheVariants.{ReadSectors, WriteRecord}
use Rattle.sl_trace.specs.declared.effects.Op.{Op}
use Rattle.sl_trace.specs.declared.input.Answer.TheVariants.{Failed, Read, Written}
use Rattle.sl_trace.specs.declared.input.Answer.{Answer}
use Rattle.sl_trace.specs.declared.input.Input.TheVariants.{Answer as Told, Wake}
use Rattle.sl_words.proofs.CaseLaws.{false_is_true, not_both}
use Rattle.sl_words.proofs.WordLaws.{and_true}
use Rattle.std.proofs.Common.{ap, inl, inr, refl, subst, sym, ◌∙◌}
use Rattle.std.proofs.lemmas.List.{reverse-reverse}
use Rattle.std.specs.Prelude.{Contains, IsTrue, None, Option, Some, find, is_none, is_some, length, reverse, true, [], ℕ, ◌&&◌, ◌*◌, ◌==◌, ◌≡◌}

-- The step as it comes to its input: it has made no call.
abbrev uncalled : Step → Step
uncalled x = let fx : Effects = x.effects in record x { input = Wake; effects = record fx { calls = [] } }

is_uncalled : (h : HostState) (x : Step) → Stands Wake h x → h.made.calls ≡ [] → x ≡ uncalled x
is_uncalled h x s none =
    ap (λ i. record x { input = i }) s.input
    ∙ ap (λ cs. let fx : Effects = x.effects in record x { input = Wake; effects = record fx { calls = cs } }) (ap (λ (fx : Effects). fx.calls) s.made ∙ none)

-- ---- what is answered so

by_op : (st : Setting) (a : Answer) (op : Op) (c : OpenCall) → sectors_of op ≡ c.sectors → is_answer_for st a op ≡ true → IsAnswerOf st.layout a c
by_op st (Read bytes) (ReadSectors n) c same is = (n, sym same, same_number (length bytes) (n * st.layout.sector) is)
by_op st (Read bytes) (WriteRecord r) c same is = absurd (false_is_true is)
by_op st Written (ReadSectors n) c same is = absurd (false_is_true is)
by_op st Written (WriteRecord r) c same is = sym same
by_op st Failed op c same is = tt

-- ---- the call

open_here : (h : HostState) (st : Setting) (es : Trace) (number : ℕ) (m : Submitted) → Keeps h st es → Contains (outstanding es) m → (m.call.number == number) ≡ true
    → (c : OpenCall) × IsOpen h number c × (kept_call m ≡ c)
open_here h st es number m k there its = by (find (λ (c : OpenCall). c.number == number) h.unanswered) refl where
  inside : Contains h.unanswered (kept_call m)
  inside = subst (λ cs. Contains cs (kept_call m)) (reverse-reverse h.unanswered)
      (in_reversed (reverse h.unanswered) (kept_call m) (subst (λ cs. Contains cs (kept_call m)) k.unanswered (contains_map kept_call (outstanding es) m there)))

  one : (n : ℕ) (d : Submitted) → IsOr n d m → n ≡ number → m ≡ d
  one n d (inl other) same = absurd (not_both (m.call.number == n) (subst (λ z. (m.call.number == z) ≡ true) (sym same) its) other)
  one n d (inr equal) same = equal

  by : (o : Option OpenCall) → find (λ (c : OpenCall). c.number == number) h.unanswered ≡ o → (c : OpenCall) × (find (λ (d : OpenCall). d.number == number) h.unanswered ≡ Some c) × (kept_call m ≡ c)
  by None none = absurd (not_both (is_some (find (λ (c : OpenCall). c.number == number) h.unanswered)) (found_some (λ (c : OpenCall). c.number == number) h.unanswered (kept_call m) inside its) (ap is_some none))
  by (Some c) found =
      let at = find_inside (λ (d : OpenCall). d.number == number) h.unanswered c found in
      let of_trace = the_call h st es number c k found in
      let m_there = kept_inside (λ (d : Submitted). is_none d.answer) (submitted es) m there in
      let same = one c.number of_trace.0 (each_of (IsOr c.number of_trace.0) (submitted es) m of_trace.1.alone m_there.0) (same_number c.number number at.1) in
      (c, found, ap kept_call same ∙ of_trace.1.kept)

call : (number : ℕ) (a : Answer) (h : HostState) (x : Step) → is_expected x.setting x.past (Told number a) ≡ true → Stands Wake h x → h.made.calls ≡ []
    → (c : OpenCall) × IsOpen h number c × IsAnswerOf h.config.layout a c
call number a h x expected s none =
    let k : Keeps h x.setting (seen (uncalled x)) = (subst (λ (z : Step). Stands Wake h z) (is_uncalled h x s none) s).keeps in
    let m = any_found (λ (m : Submitted). m.call.number == number && is_answer_for x.setting a m.call.op) (outstanding x.past) expected in
    let its = and_true (m.0.call.number == number) (is_answer_for x.setting a m.0.call.op) m.2 in
    let c = open_here h x.setting (seen (uncalled x)) number m.0 k m.1 its.0 in
    (c.0, c.1, subst (λ (g : Config). IsAnswerOf g.layout a c.0) k.config (by_op x.setting a m.0.call.op c.0 (ap (λ (z : OpenCall). z.sectors) c.2) its.1))

fits : (g : Layout) (a : Answer) (c : OpenCall) → IsAnswerOf g a c → AreLooks g a c → FitsCall g a c
fits g (Read bytes) c is looks = (subst IsTrue (sym (ap is_some is.1)) refl, looks)
fits g Written c is looks = tt
fits g Failed c is looks = tt

pub expected_is_open : ExpectedIsOpen
expected_is_open = record { call = call; fits = fits }
