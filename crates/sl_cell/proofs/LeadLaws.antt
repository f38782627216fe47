-- A daemon with the front of its history, as it goes on.
use Rattle.sl_cell.proofs.ListFronts.{take_next}
use Rattle.sl_cell.specs.Copies.{AreShort, AreWithin}
use Rattle.sl_cell.specs.Leads.{HasNumbers, IsLead, IsMade, IsReady, LeadState}
use Rattle.sl_cell.specs.Parts.{calls_of, is_of}
use Rattle.sl_cell.specs.declared.part.Part.{Part}
use Rattle.sl_cell.proofs.HistoryLaws.{trace_last}
use Rattle.sl_book.specs.Logs.{entries}
use Rattle.sl_cell.specs.Histories.{Signed, trace_of}
use Rattle.sl_run.specs.Lawful.{IsGiven, IsSetting}
use Rattle.sl_run.specs.declared.header.Header.{Header}
use Rattle.sl_text.specs.Forms.{Form}
use Rattle.sl_trace.specs.Traces.{IsTrace, Setting, Trace, is_expected, last_reading, next_call, next_job, takes_number}
use Rattle.sl_trace.specs.declared.command.Command.{Command}
use Rattle.sl_trace.specs.declared.effects.Call.{Call}
use Rattle.sl_trace.specs.declared.effects.Effects.{Effects}
use Rattle.sl_trace.specs.declared.effects.Entry.{Entry}
use Rattle.sl_trace.specs.declared.input.Given.{Given}
use Rattle.sl_trace.specs.declared.input.Input.{Input}
use Rattle.sl_trace.specs.declared.input.Numbers.{Numbers}
use Rattle.sl_words.specs.Bounds.{moments}
use Rattle.sl_words.specs.Words.{greatest}
use Rattle.sl_world_law.proofs.NextNumbers.{calls_next, jobs_next}
use Rattle.sl_world_state.specs.Daemons.{IsStep, MayCome, begun_with, spare_numbers}
use Rattle.sl_world_state.specs.declared.daemon.Most.{Most}
use Rattle.sl_world_state.specs.declared.daemon.Site.{Site}
use Rattle.std.proofs.Common.{All, List, ap, ap₂, append_assoc, arith, false, filter, if◌then◌else◌, length, length-append, map, max, refl, reverse, slice_index_or, subst, sym, take, true, Bool, ◌++◌, ◌+◌, ◌-◌, ◌<◌, ◌^◌, ◌∙◌, ◌∷◌, ◌≡◌, ◌≤◌, [], ℕ}
use Rattle.std.proofs.lemmas.List.Elements.{All-cons, All-nil}
use Rattle.std.proofs.lemmas.List.{append-nil, map-append, reverse-append, reverse-reverse}
use Rattle.std.specs.List.{AllByRecursion}

-- ---- one step more

-- The daemon made a step, and then saw to memory for another; its entry stands behind the history.
pub lead_on : {D : Type 0} (stands : D → Setting → Trace → Type 0) (st : Setting) (d d' : D) (whole : Bool) (h h' : List Signed) (s : Signed) (reading now : ℕ) (next next' : Numbers)
    → IsLead stands st d whole h reading next → IsMade stands st d' h s → h' ≡ h ++ s ∷ [] → now ≡ s.entry.reading
    → next'.call ≡ next.call + length s.entry.effects.calls → next'.job ≡ (if takes_number s.entry.input then next.job + 1 else next.job)
    → IsLead stands st d' whole h' now next'
lead_on stands st d d' whole h h' s reading now next next' lead made grown at calls jobs =
    let e : Entry = s.entry in
    let es : Trace = trace_of h in
    let back : e ∷ es ≡ trace_of h' = sym (ap trace_of grown ∙ trace_last h s) in
    record {
      stands = λ is. subst (λ xs. stands d' st xs) back made.stands;
      trace = subst (λ xs. IsTrace st xs) back
          (record { time = made.may.time; below = made.may.below; expected = made.may.expected; numbered = made.numbered.calls }, lead.trace);
      last = at ∙ ap (last_reading st) back;
      below = subst (λ n. n < moments) (sym at) made.may.below;
      calls = calls ∙ ap (λ n. n + length e.effects.calls) lead.calls ∙ sym (calls_next st es e) ∙ ap (next_call st) back;
      jobs = jobs ∙ ap (λ n. if takes_number e.input then n + 1 else n) lead.jobs ∙ sym (jobs_next st es e) ∙ ap (next_job st) back;
    }

-- A daemon that is not whole stands for nothing.
pub lead_broken : {D : Type 0} (stands : D → Setting → Trace → Type 0) (st : Setting) (d d' : D) (whole : Bool) (h : List Signed) (reading : ℕ) (next : Numbers)
    → IsLead stands st d whole h reading next → IsLead stands st d' false h reading next
lead_broken stands st d d' whole h reading next lead = record {
  stands = λ is. absurd (cc is);
  trace = lead.trace;
  last = lead.last;
  below = lead.below;
  calls = lead.calls;
  jobs = lead.jobs;
}

pub ready : {D : Type 0} (stands : D → Setting → Trace → Type 0) (st : Setting) (d : D) (whole : Bool) (h : List Signed) (reading : ℕ) (next : Numbers) (m : Most) (count : ℕ) (i : Input) (expects : Bool)
    → IsLead stands st d whole h reading next → whole ≡ true → ((s : Setting) → (es : Trace) → stands d s es → expects ≡ is_expected s es i) → expects ≡ true
    → HasNumbers next m count → count ≡ length h → IsReady stands st (record { daemon = d; whole = whole; history = h }) m i
ready stands st d whole h reading next m count i expects lead is says so left counted =
    record {
      stands = lead.stands is;
      expected = sym (says st (trace_of h) (lead.stands is)) ∙ so;
      numbers = record {
        call = subst (λ n. n < 2 ^ 63 - spare_numbers) lead.calls left.call;
        job = subst (λ n. n < 2 ^ 63 - spare_numbers) lead.jobs left.job;
        calls = left.calls;
        short = subst (λ n. n < 2 ^ 60) counted left.short;
      };
    }

pub may_come : {D : Type 0} (stands : D → Setting → Trace → Type 0) (st : Setting) (d : D) (whole : Bool) (h : List Signed) (reading now at : ℕ) (next : Numbers) (k : LeadState D) (m : Most) (i : Input)
    → IsLead stands st d whole h reading next → now < moments → IsReady stands st k m i → k.history ≡ h → at ≡ max now reading → MayCome st (trace_of h) at i
may_come stands st d whole h reading now at next k m i lead below ready same is =
    let last = lead.last in
    let small = lead.below in
    let es : trace_of k.history ≡ trace_of h = ap trace_of same in
    let call : next_call st (trace_of h) < 2 ^ 63 - spare_numbers = subst (λ xs. next_call st xs < 2 ^ 63 - spare_numbers) es ready.numbers.call in
    let job : next_job st (trace_of h) < 2 ^ 63 - spare_numbers = subst (λ xs. next_job st xs < 2 ^ 63 - spare_numbers) es ready.numbers.job in
    record {
      time = omega (arith, last, is);
      below = omega (arith, below, small, is);
      expected = subst (λ xs. is_expected st xs i ≡ true) es ready.expected;
      room = (call, job);
    }

-- the kept numbers are the history's
pub has_numbers : {D : Type 0} (stands : D → Setting → Trace → Type 0) (st : Setting) (d : D) (whole : Bool) (h : List Signed) (reading : ℕ) (next : Numbers) (k : LeadState D) (m : Most) (i : Input)
    → IsLead stands st d whole h reading next → IsReady stands st k m i → k.history ≡ h → HasNumbers next m (length h)
has_numbers stands st d whole h reading next k m i lead ready same =
    let call : next_call st (trace_of h) < 2 ^ 63 - spare_numbers = subst (λ (xs : List Signed). next_call st (trace_of xs) < 2 ^ 63 - spare_numbers) same ready.numbers.call in
    let job : next_job st (trace_of h) < 2 ^ 63 - spare_numbers = subst (λ (xs : List Signed). next_job st (trace_of xs) < 2 ^ 63 - spare_numbers) same ready.numbers.job in
    record {
      call = subst (λ n. n < 2 ^ 63 - spare_numbers) (sym lead.calls) call;
      job = subst (λ n. n < 2 ^ 63 - spare_numbers) (sym lead.jobs) job;
      calls = ready.numbers.calls;
      short = subst (λ (xs : List Signed). length xs < 2 ^ 60) same ready.numbers.short;
    }

pub within : (st : Setting) (m : Most) (longest : ℕ) (fx : Effects) → IsStep st m fx → AreShort longest fx.replies → AreWithin m longest fx
within st m longest fx step short = record {
  ends = step.ends;
  signals = step.signals;
  moves = step.moves;
  grants = step.grants;
  starts = step.starts;
  replies = step.replies;
  calls = step.few;
  lists = short;
}

-- ---- one that begins

each_below : (st : Setting) (gs : List Given) → AllByRecursion (IsGiven st) gs → All (λ (g : Given). g.renewed < moments) gs
each_below st [] so = All-nil (λ (g : Given). g.renewed < moments)
each_below st (g ∷ gs) so = All-cons (λ (g : Given). g.renewed < moments) g gs so.0.renewed (each_below st gs so.1)

pub given_below : (st : Setting) → IsSetting st → All (λ (g : Given). g.renewed < moments) st.given
given_below st so = each_below st st.given so.each

greatest_below : (st : Setting) (gs : List Given) → AllByRecursion (IsGiven st) gs → greatest (map (λ (g : Given). g.renewed) gs) < moments
greatest_below st [] so = omega arith
greatest_below st (g ∷ gs) so =
    let here = so.0.renewed in
    let rest = greatest_below st gs so.1 in
    omega (arith, here, rest)

pub lead_new : {D : Type 0} (stands : D → Setting → Trace → Type 0) (commands : Header → List (Form Command)) (st : Setting) (d : D) (h : Header) (site : Site) (front : List Signed)
    (reading : ℕ) (given : List Given) → st ≡ begun_with commands h site → IsSetting st → stands d (begun_with commands h site) [] → front ≡ []
    → reading ≡ greatest (map (λ (g : Given). g.renewed) given) → given ≡ site.given → IsLead stands st d true front reading site.first
lead_new stands commands st d h site front reading given is so here none greatest_is same =
    let gs : given ≡ st.given = same ∙ sym (ap (λ (s : Setting). s.given) is) in
    let last : reading ≡ greatest (map (λ (g : Given). g.renewed) st.given) = greatest_is ∙ ap (λ (xs : List Given). greatest (map (λ (g : Given). g.renewed) xs)) gs in
    let small = greatest_below st st.given so.each in
    let empty : [] ≡ trace_of front = sym (ap trace_of none) in
    record {
      stands = λ whole. subst (λ es. stands d st es) empty (subst (λ s. stands d s []) (sym is) here);
      trace = subst (λ es. IsTrace st es) empty tt;
      last = last ∙ ap (last_reading st) empty;
      below = subst (λ n. n < moments) (sym last) small;
      calls = none_more site.first.call ∙ ap (λ (s : Setting). s.first.call + 0) (sym is) ∙ ap (next_call st) empty;
      jobs = none_more site.first.job ∙ ap (λ (s : Setting). s.first.job + 0) (sym is) ∙ ap (next_job st) empty;
    }
  where
    none_more : (n : ℕ) → n ≡ n + 0
    none_more n = omega arith

-- ---- how many calls there are

filter_few : (p : Call → Bool) (cs : List Call) → length (filter p cs) ≤ length cs
filter_few p [] = omega arith
filter_few p (c ∷ cs) = counted (filter_few p cs) (p c) refl
  where
    counted : length (filter p cs) ≤ length cs → (b : Bool) → p c ≡ b → length (filter p (c ∷ cs)) ≤ length (c ∷ cs)
    counted rest true is = rw is (omega (arith, rest))
    counted rest false is = rw is (omega (arith, rest))

pub calls_behind : (part : Part) (es : List Entry) (e : Entry) → calls_of part (es ++ e ∷ []) ≡ calls_of part es ++ filter (is_of part) e.effects.calls
calls_behind part [] e = append-nil (filter (is_of part) e.effects.calls)
calls_behind part (x ∷ es) e =
    ap (λ l. filter (is_of part) x.effects.calls ++ l) (calls_behind part es e) ∙ sym (append_assoc (filter (is_of part) x.effects.calls) (calls_of part es) (filter (is_of part) e.effects.calls))

adds_up : (a b c d n m : ℕ) → a ≤ n → d ≤ c → m ≡ n + c → b ≡ a + d → b ≤ m
adds_up a b c d n m le few next all = omega (arith, le, few, next, all)

calls_few : (part : Part) (st : Setting) (es : Trace) → length (calls_of part (reverse es)) ≤ next_call st es
calls_few part st [] = omega arith
calls_few part st (e ∷ es) =
    let made = filter (is_of part) e.effects.calls in
    let rest : length (calls_of part (reverse es)) ≤ next_call st es = calls_few part st es in
    let few : length made ≤ length e.effects.calls = filter_few (is_of part) e.effects.calls in
    let next : next_call st (e ∷ es) ≡ next_call st es + length e.effects.calls = calls_next st es e in
    let all : length (calls_of part (reverse (e ∷ es))) ≡ length (calls_of part (reverse es)) + length made =
    ap (λ xs. length (calls_of part xs)) (reverse-append (e ∷ []) es) ∙ ap length (calls_behind part (reverse es) e) ∙ length-append (calls_of part (reverse es)) made in
    adds_up (length (calls_of part (reverse es))) (length (calls_of part (reverse (e ∷ es)))) (length e.effects.calls) (length made) (next_call st es) (next_call st (e ∷ es)) rest few next all

-- no more calls of a part were made than the next number says
pub calls_most : (part : Part) (st : Setting) (h : List Signed) (n : ℕ) → n ≡ next_call st (trace_of h) → length (calls_of part (entries h)) ≤ n
calls_most part st h n is =
    let most : length (calls_of part (reverse (trace_of h))) ≤ next_call st (trace_of h) = calls_few part st (trace_of h) in
    let same : length (calls_of part (reverse (trace_of h))) ≡ length (calls_of part (entries h)) = ap (λ xs. length (calls_of part xs)) (reverse-reverse (entries h)) in
    omega (arith, most, same, is)

-- ---- the greatest of readings

greatest_push : (xs : List ℕ) (x : ℕ) → greatest (xs ++ x ∷ []) ≡ max x (greatest xs)
greatest_push [] x = refl
greatest_push (y ∷ ys) x = let rest = greatest_push ys x in omega (arith, rest)

pub greatest_more : (gs : List Given) (k : ℕ) (g : Given) (was now : ℕ) → k < length gs → g ≡ slice_index_or gs k g → was ≡ greatest (map (λ (x : Given). x.renewed) (take k gs))
    → now ≡ max g.renewed was → now ≡ greatest (map (λ (x : Given). x.renewed) (take (k + 1) gs))
greatest_more gs k g was now lt is before after =
    after ∙ ap₂ (λ a b. max a b) (ap (λ (x : Given). x.renewed) is) before
    ∙ sym (greatest_push (map (λ (x : Given). x.renewed) (take k gs)) (slice_index_or gs k g).renewed)
    ∙ ap greatest (sym (map-append (λ (x : Given). x.renewed) (take k gs) (slice_index_or gs k g ∷ [])))
    ∙ ap (λ (xs : List Given). greatest (map (λ (x : Given). x.renewed) xs)) (sym (take_next gs k g lt))
