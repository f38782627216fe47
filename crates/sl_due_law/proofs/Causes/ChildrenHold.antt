-- What a child holds until its start is told stays so with one more entry; so do that a job has one child, and that no call waits beside it.
use Rattle.sl_due.specs.Due.{IsDue}
use Rattle.sl_due.specs.CarriedLease.{grant_of}
use Rattle.sl_due_law.proofs.Causes.AnsweredJobs.{ran_past}
use Rattle.sl_due_law.proofs.Causes.CallsBehind.{Came, New_one, Old_call, came}
use Rattle.sl_due_law.proofs.Causes.EntryMakings.{step_of}
use Rattle.sl_due_law.proofs.Causes.LineComes.{ending_told, exit_stops}
use Rattle.sl_due_law.proofs.Causes.ToldProcesses.{child_stays, told_apart, told_more, unanswered_before}
use Rattle.sl_due_leases.proofs.Holdings.PlainPlaces.{one_place}
use Rattle.sl_due_facts.proofs.Jobs.CallsHaveFacts.{find_mapped}
use Rattle.sl_due_facts.proofs.Jobs.JobsAreNumbered.{command_stays, finds_none, found_after, found_before, next_is_new}
use Rattle.sl_due_facts.proofs.Jobs.SessionsHaveJobs.{line_command}
use Rattle.sl_due_law.specs.Causes.CauseFacts.{CauseFacts, ChildFacts, HoldsAsAsked, IsTold, WaitsFor}
use Rattle.sl_due_law.specs.Causes.Makings.{By_answer, By_line, FromJob, GivenTo, MadeFor, MadeSoFar, Says, StartedFor}
use Rattle.sl_due_facts.specs.Facts.HeardCall.{heard_by}
use Rattle.sl_due_law.specs.LawfulTraces.CarriedFacts.{Holds}
use Rattle.sl_run.specs.LawfulEnd.{Converted, EndReason, Exited, Given_up, LawfulEnding, Not_started, Taken_over, gives_up, takes_over}
use Rattle.sl_trace.specs.Jobs.{child_of_job, command_numbered, command_of, process_named}
use Rattle.sl_words.proofs.Lists.{any_found, contains_first, contains_none, find_fails, find_inside, head_is, in_map, kept_inside}
use Rattle.sl_words.proofs.Numbers.{number_itself}
use Rattle.sl_words.proofs.Options.{some_of, then_value}
use Rattle.sl_trace.specs.Traces.{Child, Job, Setting, Submitted, Trace, child_after, child_numbered, children, first_child, holdings, is_ended_by, is_orphan, is_running, job_numbered, job_of, line_in, new_child, next_child, next_job, no_process, same_place, submitted}
use Rattle.sl_trace.specs.declared.command.Command.{Command}
use Rattle.sl_trace.specs.declared.command.Command.TheVariants.{Release, ReleaseOrphan, RunProgram, TakeOver}
use Rattle.sl_trace.specs.declared.effects.Call.{Call}
use Rattle.sl_trace.specs.declared.effects.End.{End}
use Rattle.sl_trace.specs.declared.effects.Entry.{Entry}
use Rattle.sl_trace.specs.declared.effects.Grant.{Grant}
use Rattle.sl_trace.specs.declared.effects.Start.{Start}
use Rattle.sl_trace.specs.declared.input.Input.{Input}
use Rattle.sl_trace.specs.declared.input.Input.TheVariants.{Answer as Told, Exit, Line, Number, Spawned, Wake}
use Rattle.sl_words.proofs.CaseLaws.{false_is_true, is_false, none_some, not_both, one_value, some_value}
use Rattle.sl_words.proofs.WordLaws.{and_true, some_is_true}
use Rattle.sl_words.specs.Words.{same_truth, some_is}
use Rattle.std.proofs.Common.{ap, arith, inl, inr, refl, subst, sym, ◌∙◌}
use Rattle.std.proofs.lemmas.Bool.{eqb-true}
use Rattle.std.proofs.lemmas.List.Elements.{Contains-append_cases}
use Rattle.std.specs.Option.{option_or}
use Rattle.std.specs.Prelude.{Bool, Contains, List, None, Ok, Option, Result, Some, [], cond, false, filter, find, map, not, option_and_then, option_map, true, ℕ, ◌&&◌, ◌<◌, ◌==◌, ◌∷◌, ◌≡◌, ◌≤◌, ◌⊎◌}

-- ---- children

-- A child is an old one after the input, or it is new.
data Born (past : Trace) (e : Entry) (k : Child) : Type 0 where
  Old_child : (c : Child) → Contains (children past) c → child_after e.input c ≡ k → Born past e k
  New_child : (q : Start) → Contains e.effects.starts q → new_child q ≡ k → Born past e k

born : (past : Trace) (e : Entry) (k : Child) → Contains (children (e ∷ past)) k → Born past e k
born past e k there = by (Contains-append_cases (map (child_after e.input) (children past)) (map new_child e.effects.starts) k there) where
  by : Contains (map (child_after e.input) (children past)) k ⊎ Contains (map new_child e.effects.starts) k → Born past e k
  by (inl old) = let v = in_map (child_after e.input) (children past) k old in Old_child v.0 v.1 v.2
  by (inr new) = let v = in_map new_child e.effects.starts k new in New_child v.0 v.1 v.2

old_job : (e : Entry) (c k : Child) (j : ℕ) → child_after e.input c ≡ k → k.job ≡ Some j → c.job ≡ Some j
old_job e c k j is its = sym (child_stays e.input c).1 ∙ (ap (λ (z : Child). z.job) is ∙ its)

old_process : (e : Entry) (c k : Child) → child_after e.input c ≡ k → c.process ≡ k.process
old_process e c k is = sym (child_stays e.input c).0 ∙ ap (λ (z : Child). z.process) is

new_job : (q : Start) (k : Child) (j : ℕ) → new_child q ≡ k → k.job ≡ Some j → q.job ≡ Some j
new_job q k j is its = ap (λ (z : Child). z.job) is ∙ its

-- A job that was there is not the next line's.
number_apart : (st : Setting) (past : Trace) (j : ℕ) (c : Command) → command_numbered st past j ≡ Some c → j ≡ next_job st past → ⊥
number_apart st past j c reads is = none_some c (sym (ap (λ n. command_numbered st past n) is ∙ ap (λ o. option_and_then command_of o) (next_is_new st past)) ∙ reads)

-- All that is known of an entry.
record KnownEntry (st : Setting) (past : Trace) (e : Entry) : Type 0 where
  holds : Holds st past
  later : Holds st (e ∷ past)
  due_so : IsDue st past e
  facts : CauseFacts st past
  made : MadeSoFar (step_of st past e)

from_waits : (st : Setting) (past : Trace) (e : Entry) → KnownEntry st past e → (j : ℕ) → FromJob st past e.input j → (k : Child) → Contains (children past) k → k.job ≡ Some j → ⊥
from_waits st past e h j (By_line text c line own says told) k there its = let v = h.holds.whole.facts.jobs.starts k j there its in number_apart st past j (RunProgram v.0 v.1 v.2) v.3 own
from_waits st past e h j (By_answer m waits heard) k there its = h.facts.starts.childless m j k waits there its

-- ---- one child

lone_more : (st : Setting) (past : Trace) (e : Entry) → KnownEntry st past e → (k l : Child) (j : ℕ) → Contains (children (e ∷ past)) k → Contains (children (e ∷ past)) l → k.job ≡ Some j → l.job ≡ Some j → k.process ≡ l.process
lone_more st past e h k l j there here its also = by (born past e k there) (born past e l here) where
  apart : (q : Start) (c : Child) → Contains e.effects.starts q → q.job ≡ Some j → Contains (children past) c → c.job ≡ Some j → ⊥
  apart q c new mine old his = from_waits st past e h j (h.made.starts q j new mine).from c old his

  both_new : (q r : Start) → Contains e.effects.starts q → Contains e.effects.starts r → q.job ≡ Some j → r.job ≡ Some j → q.process ≡ r.process
  both_new q r a b mine his =
      let s = h.made.starts q j a mine in let t = h.made.starts r j b his in
      first (grant_of s.session s.resource q.process s.mode s.lver false) (grant_of t.session t.resource r.process t.mode t.lver false) (sym s.grants ∙ t.grants)
    where
      first : (g u : Grant) → (g ∷ []) ≡ (u ∷ []) → g.process ≡ u.process
      first g u is = ap (λ (z : Grant). z.process) (head_is g u [] [] is)

  by : Born past e k → Born past e l → k.process ≡ l.process
  by (Old_child c a is) (Old_child d b also_is) =
      sym (old_process e c k is) ∙ (h.facts.starts.lone c d j a b (old_job e c k j is its) (old_job e d l j also_is also) ∙ old_process e d l also_is)
  by (Old_child c a is) (New_child q b new) = absurd (apart q c b (new_job q l j new also) a (old_job e c k j is its))
  by (New_child q a new) (Old_child d b is) = absurd (apart q d a (new_job q k j new its) b (old_job e d l j is also))
  by (New_child q a is) (New_child r b also_is) =
      sym (ap (λ (z : Child). z.process) is) ∙ (both_new q r a b (new_job q k j is its) (new_job r l j also_is also) ∙ ap (λ (z : Child). z.process) also_is)

-- ---- no child beside a call that waits

waits_before : (past : Trace) (e : Entry) (d m : Submitted) (j : ℕ) → d.call ≡ m.call → (m.answer ≡ None → d.answer ≡ None) → Contains (submitted past) d → WaitsFor (e ∷ past) m j → WaitsFor past d j
waits_before past e d m j same unmet inside w = record { there = inside; opens = unmet w.opens; step = w.step; purpose = ap (λ (c : Call). c.purpose) same ∙ w.purpose }

childless_more : (st : Setting) (past : Trace) (e : Entry) → KnownEntry st past e → (m : Submitted) (j : ℕ) (k : Child) → WaitsFor (e ∷ past) m j → Contains (children (e ∷ past)) k → k.job ≡ Some j → ⊥
childless_more st past e h m j k w there its = by (came past e m w.there) (born past e k there) where
  called : (d : Submitted) → WaitsFor past d j → (c : Command) × (command_numbered st past j ≡ Some c)
  called d v = some_of (command_numbered st past j) (h.holds.whole.facts.jobs.called d j v.there (ap (λ p. job_of p) v.purpose))

  started : (d : Submitted) → WaitsFor past d j → d.call ≡ m.call → (heard_by e.input ≡ Some m.call.number → m.answer ≡ None → ⊥) → FromJob st past e.input j → ⊥
  started d v same heard (By_line text c line own says told) = let f = called d v in number_apart st past j f.0 f.1 own
  started d v same heard (By_answer n waits its_number) =
      let one : d ≡ n = h.holds.whole.facts.jobs.one d n j v.there waits.there (inl v.opens) (inl waits.opens) (ap (λ p. job_of p) v.purpose) (ap (λ p. job_of p) waits.purpose) in
      heard (its_number ∙ ap (λ (c : Submitted). Some c.call.number) (sym one) ∙ ap (λ (c : Call). Some c.number) same) w.opens

  by : Came past e m → Born past e k → ⊥
  by (Old_call d inside same unmet heard) (Old_child c a is) = h.facts.starts.childless d j c (waits_before past e d m j same unmet inside w) a (old_job e c k j is its)
  by (Old_call d inside same unmet heard) (New_child q a is) =
      started d (waits_before past e d m j same unmet inside w) same heard (h.made.starts q j a (new_job q k j is its)).from
  by (New_one new none) (Old_child c a is) =
      from_waits st past e h j (subst (λ p. MadeFor st past e.input e.effects.grants m.call.op p) w.purpose (h.made.calls m.call new)).0 c a (old_job e c k j is its)
  by (New_one new none) (New_child q a is) =
      let s = h.made.starts q j a (new_job q k j is its) in
      let bare : e.effects.grants ≡ [] = (subst (λ p. MadeFor st past e.input e.effects.grants m.call.op p) w.purpose (h.made.calls m.call new)).1 in
      let g : Grant = grant_of s.session s.resource q.process s.mode s.lver false in
      contains_none g (subst (λ gs. Contains gs g) (sym s.grants ∙ bare) (contains_first g []))

-- ---- who is told

told_later : (st : Setting) (past : Trace) (e : Entry) → KnownEntry st past e → (m : Submitted) (j : ℕ) (c : Command) (p : ℕ) → WaitsFor (e ∷ past) m j → command_numbered st (e ∷ past) j ≡ Some c → process_named c ≡ Some p → IsTold (e ∷ past) p
told_later st past e h m j c p w reads names = told_more past e p (by (came past e m w.there)) where
  old : (d : Submitted) → WaitsFor past d j → IsTold past p
  old d v =
      let f = some_of (command_numbered st past j) (h.holds.whole.facts.jobs.called d j v.there (ap (λ q. job_of q) v.purpose)) in
      let same : f.0 ≡ c = one_value f.0 c (command_numbered st (e ∷ past) j) (command_stays st e past j f.0 f.1) reads in
      h.facts.starts.told d j c p v (f.1 ∙ ap (λ k. Some k) same) names

  from : FromJob st past e.input j → IsTold past p
  from (By_line text d line own says told) =
      let its : command_numbered st (e ∷ past) j ≡ Some d = ap (λ n. command_numbered st (e ∷ past) n) own ∙ line_command st past e text d line says in
      told p (ap (λ k. process_named k) (one_value d c (command_numbered st (e ∷ past) j) its reads) ∙ names)
  from (By_answer n waits heard) = old n waits

  by : Came past e m → IsTold past p
  by (Old_call d inside same unmet heard) = old d (waits_before past e d m j same unmet inside w)
  by (New_one new none) = from (subst (λ q. MadeFor st past e.input e.effects.grants m.call.op q) w.purpose (h.made.calls m.call new)).0

-- ---- what is held

find_kept : (p q : Grant → Bool) (xs : List Grant) (g : Grant) → find p xs ≡ Some g → q g ≡ true → find p (filter q xs) ≡ Some g
find_kept p q [] g found keeps = absurd (none_some g found)
find_kept p q (x ∷ xs) g found keeps = by (λ more. find_kept p q xs g more keeps) (p x) refl (q x) refl found where
  by : (find p xs ≡ Some g → find p (filter q xs) ≡ Some g) → (a : Bool) → p x ≡ a → (b : Bool) → q x ≡ b → cond a (Some x) (find p xs) ≡ Some g → find p (cond b (x ∷ filter q xs) (filter q xs)) ≡ Some g
  by rest true fits b is f =
      let one : x ≡ g = some_value x g f in
      let kept_it : b ≡ true = sym is ∙ (ap (λ z. q z) one ∙ keeps) in
      subst (λ c. find p (cond c (x ∷ filter q xs) (filter q xs)) ≡ Some g) (sym kept_it) (ap (λ c. cond c (Some x) (find p (filter q xs))) fits ∙ f)
  by rest false fits true is f = ap (λ c. cond c (Some x) (find p (filter q xs))) fits ∙ rest f
  by rest false fits false is f = rest f

-- The child's holding doesn't end while it is still to be told.
not_ended : (st : Setting) (past : Trace) (e : Entry) → KnownEntry st past e → (p j : ℕ) (c : Child) → child_numbered past p ≡ Some c → c.job ≡ Some j → c.answer ≡ None → (child_after e.input c).answer ≡ None → is_running (e ∷ past) j ≡ true
    → (x : End) → Contains e.effects.ends x → x.process ≡ p → ⊥
not_ended st past e h p j c found its none unmet runs x there mine = by law.reason where
  law : LawfulEnding st past e x
  law = h.later.whole.lawful.orderly.ends.0.each x there

  holder : law.holding.process ≡ p
  holder = ap (λ (y : End). y.process) law.told ∙ mine

  above : (k : Child) → Contains (children past) k → first_child ≤ k.process
  above = h.holds.whole.facts.values.above

  inside : Contains (children past) c × ((c.process == p) ≡ true)
  inside = find_inside (λ (k : Child). k.process == p) (children past) c found

  not_told : IsTold past p → ⊥
  not_told = told_apart past p c above found none

  low : 0 ≡ p → ⊥
  low is = never p (subst (λ n. first_child ≤ n) (eqb-true c.process p inside.1) (above c inside.0)) is where
    never : (n : ℕ) → first_child ≤ n → 0 ≡ n → ⊥
    never n a b = omega arith

  no_orphan : is_orphan law.holding ≡ true → ⊥
  no_orphan is = low (sym (eqb-true law.holding.process no_process is) ∙ holder)

  its_job : (i : Job) × (job_numbered st past j ≡ Some i)
  its_job =
      let v = h.holds.whole.facts.jobs.starts c j inside.0 its in
      let w = then_value command_of (job_numbered st past j) (RunProgram v.0 v.1 v.2) v.3 in
      (w.0, w.1)

  its_child : child_of_job past j ≡ Some p
  its_child = of (find mine_only (children past)) refl where
    mine_only : Child → Bool
    mine_only k = some_is (λ n. n == j) k.job

    of : (o : Option Child) → find mine_only (children past) ≡ o → option_map (λ (k : Child). k.process) o ≡ Some p
    of None is = absurd (not_both (mine_only c) (ap (λ o. some_is (λ n. n == j) o) its ∙ number_itself j) (find_fails mine_only (children past) c is inside.0))
    of (Some k) is =
        let f = find_inside mine_only (children past) k is in
        let v = some_is_true (λ n. n == j) k.job f.1 in
        ap (λ n. Some n)
        (h.facts.starts.lone k c j f.0 inside.0 (v.1 ∙ ap (λ n. Some n) (eqb-true v.0 j v.2)) its ∙ eqb-true c.process p inside.1)

  exited : e.input ≡ Exit p → ⊥
  exited input = not_both (is_running (e ∷ past) j) runs (exit_stops st past e p j its_job.0 h.holds.whole h.due_so input (is_false (p == no_process) (λ is. low (sym (eqb-true p no_process is)))) its_job.1 its_child)

  unstarted : e.input ≡ Spawned p false → ⊥
  unstarted input = answered (p == c.process) (ap (λ n. p == n) (eqb-true c.process p inside.1) ∙ number_itself p) (ap (λ i. (child_after i c).answer) (sym input) ∙ unmet) where
    answered : (b : Bool) → b ≡ true → (let k : Child = elim b as (λ z. Child) [ false ↦ c | true ↦ record c { answer = option_or c.answer (Some false) } ] in k.answer ≡ None) → ⊥
    answered false is k = false_is_true is
    answered true is k = none_some false (sym k ∙ ap (λ o. option_or o (Some false)) none)

  gives : (g : Grant) → Contains e.effects.grants g → g.process ≡ p → ⊥
  gives g given same = to (h.made.grants g given) where
    to : GivenTo past g.process → ⊥
    to (inl is) = low (sym is ∙ same)
    to (inr (inl new)) = over (next_child past) p c.process (subst (λ n. next_child past ≤ n) same new) (h.holds.whole.facts.holdings.given c inside.0) (eqb-true c.process p inside.1) where
      over : (n m k : ℕ) → n ≤ m → k < n → k ≡ m → ⊥
      over n m k a b is = omega arith
    to (inr (inr told)) = not_told (subst (λ n. IsTold past n) same told)

  released : (text : List ℕ) → e.input ≡ Line text → (o : Result Command ℕ) → st.read text ≡ o → gives_up law.holding o ≡ true → ⊥
  released text line (Ok (Release r q)) says is =
      let both = and_true (q == law.holding.process) (same_place r.path r.offset law.holding.path law.holding.offset) is in
      not_told (subst (λ n. IsTold past n) (eqb-true q law.holding.process both.0 ∙ holder) (ending_told st past e text (Release r q) q x h.holds.whole h.due_so line says refl there))
  released text line (Ok (ReleaseOrphan r)) says is = no_orphan (and_true (is_orphan law.holding) (same_place r.path r.offset law.holding.path law.holding.offset) is).0
  released text line o says is = absurd (false_is_true is)

  lined : (i : Input) (text : List ℕ) → line_in i ≡ Some text → i ≡ Line text
  lined (Line t) text is = ap (λ q. Line q) (some_value t text is)
  lined Wake text is = absurd (none_some text is)
  lined (Number t) text is = absurd (none_some text is)
  lined (Told n a) text is = absurd (none_some text is)
  lined (Exit q) text is = absurd (none_some text is)
  lined (Spawned q ok) text is = absurd (none_some text is)

  by : EndReason st e law.holding → ⊥
  by (Exited own input) = exited (input ∙ ap (λ n. Exit n) holder)
  by (Not_started input) = unstarted (input ∙ ap (λ n. Spawned n false) holder)
  by (Given_up text line is) = released text (lined e.input text line) (st.read text) refl is
  by (Converted g given place process persistent) = gives g given (process ∙ holder)
  by (Taken_over g given place text line takes) = taken (st.read text) takes where
    taken : (o : Result Command ℕ) → takes_over law.holding g o ≡ true → ⊥
    taken (Ok (TakeOver r shared q persistent)) is =
        let a = and_true (is_orphan law.holding && same_place r.path r.offset law.holding.path law.holding.offset && g.process == q) (same_truth g.persistent persistent) is in
        let b = and_true (is_orphan law.holding && same_place r.path r.offset law.holding.path law.holding.offset) (g.process == q) a.0 in
        no_orphan (and_true (is_orphan law.holding) (same_place r.path r.offset law.holding.path law.holding.offset) b.0).0
    taken o is = absurd (false_is_true is)

old_holds : (st : Setting) (past : Trace) (e : Entry) → KnownEntry st past e → (p j : ℕ) (c : Child) → child_numbered past p ≡ Some c → c.job ≡ Some j → c.answer ≡ None → (child_after e.input c).answer ≡ None → is_running (e ∷ past) j ≡ true
    → HoldsAsAsked st past p j → HoldsAsAsked st (e ∷ past) p j
old_holds st past e h p j c found its none unmet runs w =
    record {
      resource = w.resource;
      shared = w.shared;
      path = w.path;
      command = command_stays st e past j (RunProgram w.resource w.shared w.path) w.command;
      holding = w.holding;
      first =
          found_before (λ (g : Grant). g.process == p) (filter (λ g. not (is_ended_by e.effects.ends g)) (holdings past)) e.effects.grants w.holding
          (find_kept (λ (g : Grant). g.process == p) (λ g. not (is_ended_by e.effects.ends g)) (holdings past) w.holding w.first (ap (λ b. not b) stands));
      place = w.place;
      named = w.named;
      mode = w.mode;
    } where
      never : is_ended_by e.effects.ends w.holding ≡ true → ⊥
      never is =
          let f = any_found (λ (x : End). x.process == w.holding.process && same_place x.path x.offset w.holding.path w.holding.offset) e.effects.ends is in
          let both = and_true (f.0.process == w.holding.process) (same_place f.0.path f.0.offset w.holding.path w.holding.offset) f.2 in
          not_ended st past e h p j c found its none unmet runs f.0 f.1
          (eqb-true f.0.process w.holding.process both.0 ∙ eqb-true w.holding.process p (find_inside (λ (g : Grant). g.process == p) (holdings past) w.holding w.first).1)

      stands : is_ended_by e.effects.ends w.holding ≡ false
      stands = is_false (is_ended_by e.effects.ends w.holding) never

new_holds : (st : Setting) (past : Trace) (e : Entry) → KnownEntry st past e → (q : Start) (p j : ℕ) → q.process ≡ p → StartedFor st past e.input e.effects.grants q.process j → HoldsAsAsked st (e ∷ past) p j
new_holds st past e h q p j number s =
    record {
      resource = s.resource;
      shared = s.shared;
      path = s.path;
      command = reads s.command;
      holding = g;
      first =
          found_after (λ (u : Grant). u.process == p) (filter (λ u. not (is_ended_by e.effects.ends u)) (holdings past)) e.effects.grants none
          ∙ (ap (λ gs. find (λ (u : Grant). u.process == p) gs) s.grants ∙ ap (λ b. cond b (Some g) None) (ap (λ n. n == p) number ∙ number_itself p));
      place = one_place s.resource.path s.resource.offset;
      named = refl;
      mode = s.wants;
    } where
      g : Grant
      g = grant_of s.session s.resource q.process s.mode s.lver false

      reads : Says st past e.input j (RunProgram s.resource s.shared s.path) → command_numbered st (e ∷ past) j ≡ Some (RunProgram s.resource s.shared s.path)
      reads (inl (text, line, own, says)) = ap (λ n. command_numbered st (e ∷ past) n) own ∙ line_command st past e text (RunProgram s.resource s.shared s.path) line says
      reads (inr c) = command_stays st e past j (RunProgram s.resource s.shared s.path) c

      other : (n m k : ℕ) → n < m → m ≤ k → n ≡ k → ⊥
      other n m k a b is = omega arith

      before : (u : Grant) → Contains (filter (λ v. not (is_ended_by e.effects.ends v)) (holdings past)) u → u.process ≡ p → ⊥
      before u there is =
          other u.process (next_child past) p (h.holds.whole.facts.holdings.born u (kept_inside (λ v. not (is_ended_by e.effects.ends v)) (holdings past) u there).0) (subst (λ n. next_child past ≤ n) number s.new) is

      none : find (λ (u : Grant). u.process == p) (filter (λ u. not (is_ended_by e.effects.ends u)) (holdings past)) ≡ None
      none =
          finds_none (λ (u : Grant). u.process == p) (filter (λ u. not (is_ended_by e.effects.ends u)) (holdings past))
          (λ u there. is_false (u.process == p) (λ is. before u there (eqb-true u.process p is)))

holds_more : (st : Setting) (past : Trace) (e : Entry) → KnownEntry st past e → (p j : ℕ) (k : Child) → child_numbered (e ∷ past) p ≡ Some k → k.job ≡ Some j → k.answer ≡ None → is_running (e ∷ past) j ≡ true
    → HoldsAsAsked st (e ∷ past) p j
holds_more st past e h p j k found its none runs = by (child_numbered past p) refl where
  named : Child → Bool
  named c = c.process == p

  by : (o : Option Child) → child_numbered past p ≡ o → HoldsAsAsked st (e ∷ past) p j
  by (Some c) is =
      let same : child_after e.input c ≡ k =
      some_value (child_after e.input c) k
      (sym (found_before named (map (child_after e.input) (children past)) (map new_child e.effects.starts) (child_after e.input c)
      (find_mapped named (child_after e.input) (children past) (λ d. ap (λ n. n == p) (child_stays e.input d).0) ∙ ap (λ o. option_map (child_after e.input) o) is)) ∙ found)
      in
      let unmet : (child_after e.input c).answer ≡ None = ap (λ (z : Child). z.answer) same ∙ none in
      let before : c.answer ≡ None = unanswered_before e.input c unmet in
      let job : c.job ≡ Some j = old_job e c k j same its in
      old_holds st past e h p j c is job before unmet runs (h.facts.starts.holds p j c is job before (ran_past past e j runs))
  by None is =
      let new : find named (map new_child e.effects.starts) ≡ Some k =
      sym (found_after named (map (child_after e.input) (children past)) (map new_child e.effects.starts)
      (find_mapped named (child_after e.input) (children past) (λ d. ap (λ n. n == p) (child_stays e.input d).0) ∙ ap (λ o. option_map (child_after e.input) o) is)) ∙ found in
      let f = find_inside named (map new_child e.effects.starts) k new in
      let v = in_map new_child e.effects.starts k f.0 in
      new_holds st past e h v.0 p j (ap (λ (z : Child). z.process) v.2 ∙ eqb-true k.process p f.1) (h.made.starts v.0 j v.1 (new_job v.0 k j v.2 its))

pub children_hold : (st : Setting) (past : Trace) (e : Entry) → Holds st past → Holds st (e ∷ past) → IsDue st past e → CauseFacts st past → MadeSoFar (step_of st past e) → ChildFacts st (e ∷ past)
children_hold st past e holds later due_so facts made =
    record {
      lone = λ k l j there here its also. lone_more st past e h k l j there here its also;
      childless = λ m j k w there its. childless_more st past e h m j k w there its;
      told = λ m j c p w reads names. told_later st past e h m j c p w reads names;
      holds = λ p j k found its none runs. holds_more st past e h p j k found its none runs;
    } where
      h : KnownEntry st past e
      h = record { holds = holds; later = later; due_so = due_so; facts = facts; made = made }
