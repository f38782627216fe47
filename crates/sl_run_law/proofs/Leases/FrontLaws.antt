-- Each call of a trace has its front.
use Rattle.sl_run.proofs.LawFacts.{orderly-front}
use Rattle.sl_run.specs.Lawful.{Orderly}
use Rattle.sl_run.specs.LawForms.{cut_at}
use Rattle.sl_run_law.specs.Leases.CallFronts.{Aged, AllAged, LawfulSubmission, Submission}
use Rattle.sl_run_law.specs.Leases.LeaseLaws.{EachWasSubmitted}
use Rattle.sl_words.proofs.Lists.{got_before, got_inside, head_is, tail_is}
use Rattle.sl_words.proofs.Options.{some_of}
use Rattle.sl_trace.specs.Sessions.{begun_in, session_numbered, sessions}
use Rattle.sl_trace.specs.declared.session.Session.{Session}
use Rattle.sl_trace.specs.Traces.{Answered, Setting, Submitted, Trace, answer_of, answered_in, mark, new_call, submitted}
use Rattle.sl_trace.specs.declared.effects.Call.{Call}
use Rattle.sl_trace.specs.declared.effects.Entry.{Entry}
use Rattle.sl_trace.specs.declared.input.Answer.{Answer}
use Rattle.sl_trace.specs.declared.input.Input.TheVariants.{Answer as Told, Exit, Line, Number, Spawned, Wake}
use Rattle.sl_trace.specs.declared.input.Input.{Input}
use Rattle.sl_words.proofs.CaseLaws.{none_some}
use Rattle.std.proofs.Common.{ap, arith, inl, inr, refl, subst, sym, ◌∙◌}
use Rattle.std.specs.Option.{option_or}
use Rattle.std.specs.Prelude.{Bool, List, None, Option, Some, false, fold, length, map, slice_get, suc, take, true, [], ℕ, ◌++◌, ◌+◌, ◌==◌, ◌∷◌, ◌≡◌, ◌≤◌, ◌⊎◌}

-- ---- lists

-- Calls pushed onto others, the newest first.
abbrev pub pushed : ℕ → ℕ → List Submitted → List Call → List Submitted
pushed n reading ms cs = fold (λ xs c. new_call n reading c ∷ xs) ms cs

-- A call among those pushed.
pub record IsPushed (n reading : ℕ) (ms : List Submitted) (cs : List Call) (c : Submitted) (older : List Submitted) : Type 0 where
  pub place : ℕ
  pub call : Call
  pub there : slice_get cs place ≡ Some call
  pub is : new_call n reading call ≡ c
  pub before : pushed n reading ms (take place cs) ≡ older

-- A call among those before them.
pub record IsBefore (ms : List Submitted) (c : Submitted) (older : List Submitted) : Type 0 where
  pub newer : List Submitted
  pub is : ms ≡ newer ++ c ∷ older

pushed_further : (n reading : ℕ) (ms : List Submitted) (x : Call) (cs : List Call) (c : Submitted) (older : List Submitted)
    → IsPushed n reading (new_call n reading x ∷ ms) cs c older → IsPushed n reading ms (x ∷ cs) c older
pushed_further n reading ms x cs c older h = record { place = suc h.place; call = h.call; there = h.there; is = h.is; before = h.before }

pushed_here : (n reading : ℕ) (ms : List Submitted) (x : Call) (cs : List Call) (c : Submitted) (older newer : List Submitted)
    → new_call n reading x ∷ ms ≡ newer ++ c ∷ older → IsPushed n reading ms (x ∷ cs) c older ⊎ IsBefore ms c older
pushed_here n reading ms x cs c older [] h =
    inl (record { place = 0; call = x; there = refl; is = head_is (new_call n reading x) c ms older h; before = tail_is (new_call n reading x) c ms older h })
pushed_here n reading ms x cs c older (y ∷ ys) h = inr (record { newer = ys; is = tail_is (new_call n reading x) y ms (ys ++ c ∷ older) h })

pushed_next : (n reading : ℕ) (ms : List Submitted) (x : Call) (cs : List Call) (c : Submitted) (older : List Submitted)
    → IsPushed n reading (new_call n reading x ∷ ms) cs c older ⊎ IsBefore (new_call n reading x ∷ ms) c older
    → IsPushed n reading ms (x ∷ cs) c older ⊎ IsBefore ms c older
pushed_next n reading ms x cs c older (inl h) = inl (pushed_further n reading ms x cs c older h)
pushed_next n reading ms x cs c older (inr h) = pushed_here n reading ms x cs c older h.newer h.is

pushed_cases : (n reading : ℕ) (ms : List Submitted) (cs : List Call) (newer : List Submitted) (c : Submitted) (older : List Submitted)
    → pushed n reading ms cs ≡ newer ++ c ∷ older → IsPushed n reading ms cs c older ⊎ IsBefore ms c older
pushed_cases n reading ms [] newer c older h = inr (record { newer = newer; is = h })
pushed_cases n reading ms (x ∷ cs) newer c older h =
    pushed_next n reading ms x cs c older (pushed_cases n reading (new_call n reading x ∷ ms) cs newer c older h)

-- ---- what ages

pub aged_itself : (n : ℕ) (m : Submitted) → Aged n m m
aged_itself n m = record { at = refl; reading = refl; call = refl; answer = inl refl }

pub all_aged_itself : (n : ℕ) (ms : List Submitted) → AllAged n ms ms
all_aged_itself n [] = tt
all_aged_itself n (m ∷ ms) = (aged_itself n m, all_aged_itself n ms)

-- What an answer that comes later makes of a call.
abbrev marked : Submitted → Option Answered → Answered → Submitted
marked m o a = record m { answer = option_or o (Some a) }

aged_answer : (n : ℕ) (x m : Submitted) (a : Answered) (o : Option Answered) → n ≤ a.at → m.answer ≡ o
    → (m.answer ≡ x.answer) ⊎ ((x.answer ≡ None) × (b : Answered) × (m.answer ≡ Some b) × (n ≤ b.at))
    → (option_or o (Some a) ≡ x.answer) ⊎ ((x.answer ≡ None) × (b : Answered) × (option_or o (Some a) ≡ Some b) × (n ≤ b.at))
aged_answer n x m a None late is (inl h) = inr (sym h ∙ is, a, refl, late)
aged_answer n x m a None late is (inr h) = absurd (none_some h.1 (sym is ∙ h.2))
aged_answer n x m a (Some b) late is (inl h) = inl (sym is ∙ h)
aged_answer n x m a (Some b) late is (inr h) = inr (h.0, h.1, sym is ∙ h.2, h.3)

answered_by : (es : Trace) (e : Entry) (number : ℕ) (a : Answer) (n : ℕ) → n ≤ length es → (x m : Submitted) → Aged n x m → (b : Bool) → (m.call.number == number) ≡ b
    → Aged n x (answered_in es e number a m)
answered_by es e number a n late x m h true is =
    subst (λ t. Aged n x (elim t as (λ y. Submitted) [ false ↦ m | true ↦ record m { answer = option_or m.answer (Some (answer_of es e a m.call)) } ])) (sym is)
    (record { at = h.at; reading = h.reading; call = h.call; answer = aged_answer n x m (answer_of es e a m.call) m.answer late refl h.answer })
answered_by es e number a n late x m h false is =
    subst (λ t. Aged n x (elim t as (λ y. Submitted) [ false ↦ m | true ↦ record m { answer = option_or m.answer (Some (answer_of es e a m.call)) } ])) (sym is) h

all_answered_by : (es : Trace) (e : Entry) (number : ℕ) (a : Answer) (n : ℕ) → n ≤ length es → (xs ms : List Submitted) → AllAged n xs ms
    → AllAged n xs (map (answered_in es e number a) ms)
all_answered_by es e number a n late [] [] h = tt
all_answered_by es e number a n late [] (m ∷ ms) h = h
all_answered_by es e number a n late (x ∷ xs) [] h = h
all_answered_by es e number a n late (x ∷ xs) (m ∷ ms) h =
    (answered_by es e number a n late x m h.0 (m.call.number == number) refl, all_answered_by es e number a n late xs ms h.1)

-- ---- from the trace before to the trace

-- An answer marks the calls before alike, whatever calls its entry makes.
marked_alike : (es : Trace) (e : Entry) (k : ℕ) (i : Input) (ms : List Submitted) → mark es e i ms ≡ mark es (cut_at k e) i ms
marked_alike es e k (Line text) ms = refl
marked_alike es e k (Number text) ms = refl
marked_alike es e k (Told n a) ms = refl
marked_alike es e k (Exit p) ms = refl
marked_alike es e k (Spawned p ok) ms = refl
marked_alike es e k Wake ms = refl

-- A call of the newest entry.
pushed_submission : (e : Entry) (es : Trace) (c : Submitted) (older : List Submitted)
    → IsPushed (length es) e.reading (mark es e e.input (submitted es)) e.effects.calls c older → Submission (e ∷ es) c older
pushed_submission e es c older h =
    record {
      later = [];
      past = es;
      entry = e;
      place = h.place;
      call = h.call;
      whole = refl;
      there = h.there;
      itself = subst (λ x. Aged (length es + 1) (new_call (length es) e.reading h.call) x) h.is (aged_itself (length es + 1) (new_call (length es) e.reading h.call));
      before = subst (λ ms. AllAged (length es + 1) (submitted (cut_at h.place e ∷ es)) ms)
          (ap (λ ms. pushed (length es) e.reading ms (take h.place e.effects.calls)) (sym (marked_alike es e h.place e.input (submitted es))) ∙ h.before)
          (all_aged_itself (length es + 1) (submitted (cut_at h.place e ∷ es)));
    }

-- A call among those to which an answer is added.
pub record IsMapped (f : Submitted → Submitted) (ms : List Submitted) (c : Submitted) (older : List Submitted) : Type 0 where
  pub newer : List Submitted
  pub was : Submitted
  pub rest : List Submitted
  pub is : ms ≡ newer ++ was ∷ rest
  pub itself : f was ≡ c
  pub others : map f rest ≡ older

mapped_cases : (f : Submitted → Submitted) (ms newer : List Submitted) (c : Submitted) (older : List Submitted) → map f ms ≡ newer ++ c ∷ older → IsMapped f ms c older
mapped_cases f [] [] c older h = absurd (none_some c (ap (λ xs. slice_get xs 0) h))
mapped_cases f [] (y ∷ ys) c older h = absurd (none_some y (ap (λ xs. slice_get xs 0) h))
mapped_cases f (m ∷ ms) [] c older h =
    record { newer = []; was = m; rest = ms; is = refl; itself = head_is (f m) c (map f ms) older h; others = tail_is (f m) c (map f ms) older h }
mapped_cases f (m ∷ ms) (y ∷ ys) c older h =
    let next : IsMapped f ms c older = mapped_cases f ms ys c older (tail_is (f m) y (map f ms) (ys ++ c ∷ older) h) in
    record { newer = m ∷ next.newer; was = next.was; rest = next.rest; is = ap (λ xs. m ∷ xs) next.is; itself = next.itself; others = next.others }

-- A front is no longer than the trace.
front_within : (later past es : Trace) (e : Entry) → es ≡ later ++ e ∷ past → length past + 1 ≤ length es
front_within [] past es e h = subst (λ (xs : Trace). length past + 1 ≤ length xs) (sym h) (omega arith)
front_within (x ∷ later) past es e h =
    let rest : length past + 1 ≤ length (later ++ e ∷ past) = front_within later past (later ++ e ∷ past) e refl in
    subst (λ (xs : Trace). length past + 1 ≤ length xs) (sym h) (omega (arith, rest))

later_told : (e : Entry) (es : Trace) (number : ℕ) (a : Answer) (was : Submitted) (rest : List Submitted) → Submission es was rest
    → Submission (e ∷ es) (answered_in es e number a was) (map (answered_in es e number a) rest)
later_told e es number a was rest h =
    let late : length h.past + 1 ≤ length es = front_within h.later h.past es h.entry h.whole in
    record {
      later = e ∷ h.later;
      past = h.past;
      entry = h.entry;
      place = h.place;
      call = h.call;
      whole = ap (λ xs. e ∷ xs) h.whole;
      there = h.there;
      itself = answered_by es e number a (length h.past + 1) late (new_call (length h.past) h.entry.reading h.call) was h.itself (was.call.number == number) refl;
      before = all_answered_by es e number a (length h.past + 1) late (submitted (cut_at h.place h.entry ∷ h.past)) rest h.before;
    }

later_same : (e : Entry) (es : Trace) (c : Submitted) (older : List Submitted) → Submission es c older → Submission (e ∷ es) c older
later_same e es c older h =
    record {
      later = e ∷ h.later;
      past = h.past;
      entry = h.entry;
      place = h.place;
      call = h.call;
      whole = ap (λ xs. e ∷ xs) h.whole;
      there = h.there;
      itself = h.itself;
      before = h.before;
    }

-- What is said of each call of the trace before.
abbrev AllSubmitted : Trace → Type 0
AllSubmitted es = (newer older : List Submitted) (c : Submitted) → submitted es ≡ newer ++ c ∷ older → Submission es c older

marked_submission : (e : Entry) (es : Trace) (i : Input) → AllSubmitted es → (newer older : List Submitted) (c : Submitted) → mark es e i (submitted es) ≡ newer ++ c ∷ older
    → Submission (e ∷ es) c older
marked_submission e es (Told number a) all newer older c h =
    let m : IsMapped (answered_in es e number a) (submitted es) c older = mapped_cases (answered_in es e number a) (submitted es) newer c older h in
    subst (λ x. Submission (e ∷ es) x older) m.itself
    (subst (λ xs. Submission (e ∷ es) (answered_in es e number a m.was) xs) m.others (later_told e es number a m.was m.rest (all m.newer m.rest m.was m.is)))
marked_submission e es (Line text) all newer older c h = later_same e es c older (all newer older c h)
marked_submission e es (Number text) all newer older c h = later_same e es c older (all newer older c h)
marked_submission e es (Exit p) all newer older c h = later_same e es c older (all newer older c h)
marked_submission e es (Spawned p ok) all newer older c h = later_same e es c older (all newer older c h)
marked_submission e es Wake all newer older c h = later_same e es c older (all newer older c h)

next_submission : (e : Entry) (es : Trace) → AllSubmitted es → (older : List Submitted) (c : Submitted)
    → IsPushed (length es) e.reading (mark es e e.input (submitted es)) e.effects.calls c older ⊎ IsBefore (mark es e e.input (submitted es)) c older → Submission (e ∷ es) c older
next_submission e es all older c (inl h) = pushed_submission e es c older h
next_submission e es all older c (inr h) = marked_submission e es e.input all h.newer older c h.is

pub all_submitted : (es : Trace) → AllSubmitted es
all_submitted [] [] older c h = absurd (none_some c (ap (λ xs. slice_get xs 0) h))
all_submitted [] (y ∷ ys) older c h = absurd (none_some y (ap (λ xs. slice_get xs 0) h))
all_submitted (e ∷ es) newer older c h =
    next_submission e es (all_submitted es) older c (pushed_cases (length es) e.reading (mark es e e.input (submitted es)) e.effects.calls newer c older h)

-- ---- whose it is

-- A session keeps its number.
pub session_stays : (st : Setting) (later es : Trace) (n : ℕ) (s : Session) → session_numbered st es n ≡ Some s → session_numbered st (later ++ es) n ≡ Some s
session_stays st [] es n s h = h
session_stays st (e ∷ later) es n s h =
    got_before (sessions st (later ++ es)) (begun_in st (later ++ es) (length (sessions st (later ++ es))) e) n s (session_stays st later es n s h)

-- The laws hold at the front.
pub lawful_there : (st : Setting) (es : Trace) → Orderly st es → (c : Submitted) (older : List Submitted) → (h : Submission es c older) → Orderly st (h.entry ∷ h.past)
lawful_there st es law c older h = orderly-front st h.later (h.entry ∷ h.past) (subst (λ t. Orderly st t) h.whole law)

pub lawful_submission : (st : Setting) (es : Trace) → Orderly st es → (c : Submitted) (older : List Submitted) → Submission es c older → LawfulSubmission st es c older
lawful_submission st es law c older h =
    let owner : (s : Session) × (session_numbered st (h.entry ∷ h.past) h.call.session ≡ Some s) =
    some_of (session_numbered st (h.entry ∷ h.past) h.call.session)
    ((lawful_there st es law c older h).calls.0.owned h.call (got_inside h.entry.effects.calls h.place h.call h.there))
    in
    record {
      submission = h;
      session = owner.0;
      known = owner.1;
      kept = subst (λ t. session_numbered st t c.call.session ≡ Some owner.0) (sym h.whole)
          (ap (λ x. session_numbered st (h.later ++ h.entry ∷ h.past) x.session) h.itself.call
          ∙ session_stays st h.later (h.entry ∷ h.past) h.call.session owner.0 owner.1);
    }

pub each_was_submitted : EachWasSubmitted
each_was_submitted st es law newer older c h = lawful_submission st es law c older (all_submitted es newer older c h)
