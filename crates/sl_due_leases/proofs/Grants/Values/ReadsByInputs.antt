-- What stands while a value is read goes on when the input is seen, and over exits and failed starts.
use Rattle.sl_due_facts.proofs.Acts.LoopsKeep.{for_each_keeps}
use Rattle.sl_due_facts.specs.Acts.Acts.{Expects}
use Rattle.sl_due_facts.specs.Acts.TraceSoFar.{entry_of}
use Rattle.sl_due.specs.DueInputs.{end_holdings, leave_holdings, refuse_jobs_of, when_running}
use Rattle.sl_due.specs.Steps.{Step, add_end, add_grant, add_reply, seen, with_input}
use Rattle.sl_due_leases.proofs.Grants.OthersGoOn.{said_on}
use Rattle.sl_due_leases.proofs.Grants.Values.ReadsBack.{AllAbove, Guarded, IsRead, ReadNow, Reader, ReadsBack, end_reads, facts_by, guard_end, guard_grant, guard_reply, read_now, reads_go_on, reads_itself, same_reader, through, writes_are}
use Rattle.sl_due_leases.proofs.Grants.WorksByExits.{Leaving, left_so, refused_so, refused_there}
use Rattle.sl_due_leases.proofs.Grants.WorksByInputs.{command_was, none_heard, unanswered}
use Rattle.sl_due_leases.specs.Grants.ValueLaws.{HasValueFacts}
use Rattle.sl_due_leases.proofs.Holdings.HoldingsByInputs.{answers_open, calls_stay, calls_told, children_seen, is_no_answer, sessions_seen_still}
use Rattle.sl_due_leases.specs.Holdings.Moments.{Known}
use Rattle.sl_due_facts.proofs.Jobs.JobsAreNumbered.{numbered_seen}
use Rattle.sl_trace.specs.Jobs.{command_numbered, command_of, is_job_of_process, job_of_start}
use Rattle.sl_trace.specs.Leases.{spot_of_call}
use Rattle.sl_words.proofs.Lists.{find_inside, in_map, kept_inside}
use Rattle.sl_words.proofs.Numbers.{number_itself}
use Rattle.sl_words.proofs.Options.{none_is, then_value}
use Rattle.sl_trace.specs.Sessions.{session_numbered}
use Rattle.sl_trace.specs.declared.session.Session.{Session}
use Rattle.sl_due_facts.specs.Facts.HeardCall.{IsOpen, heard_by}
use Rattle.sl_due_facts.specs.Facts.ValueFacts.{IsReading}
use Rattle.sl_trace.specs.Traces.{Child, FollowsTrace, Setting, Submitted, Trace, answered_in, child_after, child_numbered, children, end_of, first_child, holdings, is_expected, is_running, is_starting, job_numbered, job_of, new_call, new_child, next_child, orphans_left, running_jobs, same_place, submitted}
use Rattle.sl_trace.specs.declared.command.Command.{Command}
use Rattle.sl_trace.specs.declared.command.Command.TheVariants.{GetLvb}
use Rattle.sl_trace.specs.declared.command.ResourceArg.{ResourceArg}
use Rattle.sl_trace.specs.declared.effects.Call.{Call}
use Rattle.sl_trace.specs.declared.effects.Entry.{Entry}
use Rattle.sl_trace.specs.declared.effects.Grant.{Grant}
use Rattle.sl_trace.specs.declared.effects.Purpose.TheVariants.{ValueRead}
use Rattle.sl_trace.specs.declared.effects.Spot.{Spot}
use Rattle.sl_trace.specs.declared.input.Answer.{Answer}
use Rattle.sl_trace.specs.declared.input.Input.{Input}
use Rattle.sl_trace.specs.declared.input.Input.TheVariants.{Answer as Told, Exit, Line, Number, Spawned, Wake}
use Rattle.sl_trace.specs.declared.reply.Reply.TheVariants.{NoProcess, SpawnFault}
use Rattle.sl_run_law.proofs.Sessions.CallsAreMade.{same_answered}
use Rattle.sl_words.proofs.CaseLaws.{false_is_true, is_false, no_value, none_some, some_value}
use Rattle.sl_words.proofs.WordLaws.{some_is_true}
use Rattle.std.proofs.Common.{ap, arith, inl, inr, refl, subst, sym, ◌∙◌}
use Rattle.std.proofs.lemmas.Bool.{eqb-true}
use Rattle.std.proofs.lemmas.List.Elements.{Contains-append_cases, Contains-append_left, Contains-append_right}
use Rattle.std.specs.Option.{option_or}
use Rattle.std.specs.Prelude.{Bool, Contains, List, None, Option, Some, [], cond, false, filter, find, is_none, map, option_and_then, true, ℕ, ◌&&◌, ◌++◌, ◌<◌, ◌==◌, ◌∷◌, ◌≡◌, ◌≤◌, ◌⊎◌}

-- ---- children

pub child_kept : (i : Input) (c : Child) → c.answer ≡ Some true → (child_after i c).answer ≡ Some true
child_kept (Spawned q ok) c is = by (q == c.process) where
  by : (b : Bool) → (let k : Child = elim b as (λ z. Child) [ false ↦ c | true ↦ record c { answer = option_or c.answer (Some ok) } ] in k.answer) ≡ Some true
  by true = ap (λ o. option_or o (Some ok)) is
  by false = is
child_kept (Exit q) c is = by (q == c.process) where
  by : (b : Bool) → (let k : Child = elim b as (λ z. Child) [ false ↦ c | true ↦ record c { exited = true } ] in k.answer) ≡ Some true
  by true = is
  by false = is
child_kept (Told n w) c is = is
child_kept (Line text) c is = is
child_kept (Number text) c is = is
child_kept Wake c is = is

pub child_same : (i : Input) (c : Child) → (child_after i c).process ≡ c.process
child_same (Spawned q ok) c = by (q == c.process) where
  by : (b : Bool) → (let k : Child = elim b as (λ z. Child) [ false ↦ c | true ↦ record c { answer = option_or c.answer (Some ok) } ] in k.process) ≡ c.process
  by true = refl
  by false = refl
child_same (Exit q) c = by (q == c.process) where
  by : (b : Bool) → (let k : Child = elim b as (λ z. Child) [ false ↦ c | true ↦ record c { exited = true } ] in k.process) ≡ c.process
  by true = refl
  by false = refl
child_same (Told n w) c = refl
child_same (Line text) c = refl
child_same (Number text) c = refl
child_same Wake c = refl

abbrev pub has_number : ℕ → Child → Bool
has_number p c = c.process == p

-- A child that is found after the input, of one that was started.
found_then : (i : Input) (p : ℕ) (ks ns : List Child) (k : Child) → find (has_number p) (map (child_after i) ks ++ ns) ≡ Some k
    → ((c : Child) → find (has_number p) (ks ++ ns) ≡ Some c → c.answer ≡ Some true) → k.answer ≡ Some true
found_then i p [] ns k is h = h k is
found_then i p (c ∷ ks) ns k is h = by (c.process == p) refl (λ found rest. found_then i p ks ns k found rest) where
  turned : (b : Bool) → (c.process == p) ≡ b → cond b (Some (child_after i c)) (find (has_number p) (map (child_after i) ks ++ ns)) ≡ Some k
  turned b at = ap (λ d. cond d (Some (child_after i c)) (find (has_number p) (map (child_after i) ks ++ ns))) (sym (ap (λ n. n == p) (child_same i c) ∙ at)) ∙ is

  before : (b : Bool) → (c.process == p) ≡ b → (d : Child) → cond b (Some c) (find (has_number p) (ks ++ ns)) ≡ Some d → d.answer ≡ Some true
  before b at d found = h d (ap (λ q. cond q (Some c) (find (has_number p) (ks ++ ns))) at ∙ found)

  by : (b : Bool) → (c.process == p) ≡ b
      → (find (has_number p) (map (child_after i) ks ++ ns) ≡ Some k → ((d : Child) → find (has_number p) (ks ++ ns) ≡ Some d → d.answer ≡ Some true) → k.answer ≡ Some true) → k.answer ≡ Some true
  by true at rest = subst (λ (d : Child). d.answer ≡ Some true) (some_value (child_after i c) k (turned true at)) (child_kept i c (before true at c refl))
  by false at rest = rest (turned false at) (λ d found. before false at d found)

pub woken : (ks : List Child) → map (child_after Wake) ks ≡ ks
woken [] = refl
woken (k ∷ ks) = ap (λ rest. k ∷ rest) (woken ks)

pub started_then : (x : Step) (i : Input) (p : ℕ) → x.input ≡ Wake → ((k : Child) → child_numbered (seen x) p ≡ Some k → k.answer ≡ Some true) → (k : Child) → child_numbered (seen (with_input i x)) p ≡ Some k → k.answer ≡ Some true
started_then x i p wake h k is =
    found_then i p (children x.past) (map new_child x.effects.starts) k is
    (λ c found. h c (ap (λ j. find (has_number p) (map (child_after j) (children x.past) ++ map new_child x.effects.starts)) wake
    ∙ (ap (λ ks. find (has_number p) (ks ++ map new_child x.effects.starts)) (woken (children x.past)) ∙ found)))

above_then : (x : Step) (i : Input) → x.input ≡ Wake → AllAbove (seen x) → AllAbove (seen (with_input i x))
above_then x i wake h k there = by (Contains-append_cases (map (child_after i) (children x.past)) (map new_child x.effects.starts) k there) where
  now : children (seen x) ≡ children x.past ++ map new_child x.effects.starts
  now = ap (λ j. map (child_after j) (children x.past) ++ map new_child x.effects.starts) wake ∙ ap (λ ks. ks ++ map new_child x.effects.starts) (woken (children x.past))

  by : Contains (map (child_after i) (children x.past)) k ⊎ Contains (map new_child x.effects.starts) k → first_child ≤ k.process
  by (inl old) =
      let v = in_map (child_after i) (children x.past) k old in
      subst (λ n. first_child ≤ n) (sym (child_same i v.0) ∙ ap (λ (c : Child). c.process) v.2)
      (h v.0 (subst (λ ks. Contains ks v.0) (sym now) (Contains-append_left (children x.past) (map new_child x.effects.starts) v.0 v.1)))
  by (inr new) = h k (subst (λ ks. Contains ks k) (sym now) (Contains-append_right (children x.past) (map new_child x.effects.starts) k new))

-- ---- inputs

below_both : (p a b : ℕ) → p < a → a ≤ b → p < b
below_both p a b less le = omega (arith, less, le)

pub guard_input : (st : Setting) (s : Session) (at : Spot) (since p : ℕ) (x : Step) (i : Input) → x.input ≡ Wake → Guarded st s at since p x → Guarded st s at since p (with_input i x)
guard_input st s at since p x i wake g =
    record {
      before = g.before;
      calm = writes_are st since s at (entry_of (with_input i x)) x.past ∙ (sym (writes_are st since s at (entry_of x) x.past) ∙ g.calm);
      holder = g.holder;
      born = below_both p (next_child (seen x)) (next_child (seen (with_input i x))) g.born (children_seen x i);
      started = λ k is. started_then x i p wake g.started k is;
    }

unmet : (t : Trace) (heard : Option ℕ) (m : Submitted) → heard ≡ None → IsOpen t heard m → m.answer ≡ None
unmet t heard m none (inl is) = is
unmet t heard m none (inr h) = absurd (no_value m.call.number heard h.0 none)

pub input_reads : (x : Step) (i : Input) → x.input ≡ Wake → x.effects.calls ≡ [] → is_no_answer i ≡ true → Known x → ReadsBack x (with_input i x)
input_reads x i wake bare other k =
    record {
      setting = refl;
      back = λ m j s r. record {
        there = there m r.there;
        opens = inl (unmet (seen (with_input i x)) (heard_by i) m (none_heard i other) r.opens);
        purpose = r.purpose;
        runs = r.runs;
        session = sym (sessions_seen_still x i m.call.session bare) ∙ r.session;
      };
      command = λ m j s c r is. command_was x i j c wake (k.0.facts.jobs.called m j (there m r.there) (ap (λ p. job_of p) r.purpose)) is;
      guard = λ m j s a p r is g. guard_input x.setting s (spot_of_call x.setting.layout m) m.at p x i wake g;
      above = λ a. above_then x i wake a;
    }
  where
    there : (m : Submitted) → Contains (submitted (seen (with_input i x))) m → Contains (submitted (seen x)) m
    there m inside = subst (λ ms. Contains ms m) (calls_stay x i wake bare other) inside

-- ---- an answer

pub heard_values : (x : Step) (n : ℕ) (w : Answer) → x.input ≡ Wake → x.effects.calls ≡ [] → Expects x (Told n w) → Known x → HasValueFacts (with_input (Told n w) x)
heard_values x n w wake bare expected k = facts_by x.setting z (above_then x (Told n w) wake k.0.facts.values.above) reader where
  z : Step
  z = with_input (Told n w) x

  e : Entry
  e = entry_of z

  f : Submitted → Submitted
  f = answered_in x.past e n w

  told : submitted (seen z) ≡ map f (submitted (seen x))
  told = calls_told x n w wake bare

  waited : (m : Submitted) → Contains (submitted (seen x)) m → IsOpen (seen z) (Some n) (f m) → m.answer ≡ None
  waited m there (inl none) = unanswered x.past e n w m none
  waited m there (inr o) =
      answers_open x n w wake bare k.0.facts.calls expected m there (ap (λ (c : Call). c.number) (sym (same_answered x.past e n w m).call) ∙ sym (some_value n (f m).call.number o.0))

  spot_by : (c : Call) → Spot
  spot_by c = spot_of_call x.setting.layout (new_call 0 0 c)

  reader : (m : Submitted) (j : ℕ) (s : Session) → IsReading x.setting (seen z) (Some n) m j s → Reader x.setting z m j s
  reader m j s i = by (in_map f (submitted (seen x)) m (subst (λ ms. Contains ms m) told i.there)) where
    by : (b : Submitted) × Contains (submitted (seen x)) b × (f b ≡ m) → Reader x.setting z m j s
    by v =
        let b : Submitted = v.0 in
        let call : b.call ≡ m.call = sym (same_answered x.past e n w b).call ∙ ap (λ (d : Submitted). d.call) v.2 in
        let made : b.at ≡ m.at = sym (same_answered x.past e n w b).at ∙ ap (λ (d : Submitted). d.at) v.2 in
        let purpose : b.call.purpose ≡ ValueRead j = ap (λ (c : Call). c.purpose) call ∙ i.purpose in
        let was : IsRead x x b j s =
        record {
          there = v.1;
          opens = inl (waited b v.1 (subst (λ d. IsOpen (seen z) (Some n) d) (sym v.2) i.opens));
          purpose = purpose;
          runs = i.runs;
          session = ap (λ (c : Call). session_numbered x.setting (seen x) c.session) call ∙ (sym (sessions_seen_still x (Told n w) m.call.session bare) ∙ i.session);
        }
        in
        let r : ReadNow x b j s = read_now x k b j s was in
        record {
          process = r.process;
          guard = subst (λ c. Guarded x.setting s (spot_of_call x.setting.layout (new_call 0 0 c)) m.at r.process z) call
              (subst (λ t. Guarded x.setting s (spot_of_call x.setting.layout b) t r.process z) made (guard_input x.setting s (spot_of_call x.setting.layout b) b.at r.process x (Told n w) wake r.guard));
          only = λ a p is.
              same_reader x z j r.process r.resource r.command a p (command_was x (Told n w) j (GetLvb a p) wake (k.0.facts.jobs.called b j v.1 (ap (λ p. job_of p) purpose)) is);
        }

-- ---- an exit

pub command_then : (x : Step) (i : Input) (j : ℕ) (c : Command) → x.input ≡ Wake → command_numbered x.setting (seen x) j ≡ Some c → command_numbered x.setting (seen (with_input i x)) j ≡ Some c
command_then x i j c wake is = let v = then_value command_of (job_numbered x.setting (seen x) j) c is in ap (λ o. option_and_then command_of o) (numbered_seen x i wake j v.0 v.1) ∙ v.2

-- Ends of what a process holds spare what another does.
pub others_spared : (g e : Grant) (p q : ℕ) → g.process ≡ p → e.process ≡ q → (p == q) ≡ false → ((end_of g).process == e.process && same_place g.path g.offset e.path e.offset) ≡ false
others_spared g e p q first second other =
    ap (λ b. b && same_place g.path g.offset e.path e.offset) (ap (λ n. n == e.process) first ∙ (ap (λ n. p == n) second ∙ other))

guard_exit : (st : Setting) (s : Session) (at : Spot) (since q : ℕ) (y : Step) (p : ℕ) → (p == q) ≡ false → Guarded st s at since q y → Guarded st s at since q (refuse_jobs_of p (leave_holdings p y))
unfolding leave_holdings
guard_exit st s at since q y p other g = refused (leave_holdings p y) left where
  ended : Guarded st s at since q (end_holdings p y)
  ended =
      for_each_keeps (λ z. Guarded st s at since q z) (filter (λ (e : Grant). e.process == p) (holdings (seen y))) (λ e. add_end (end_of e)) y
      (λ e there z w. guard_end st s at since q z (end_of e) (λ h place its. others_spared e h p q (eqb-true e.process p (kept_inside (λ (e : Grant). e.process == p) (holdings (seen y)) e there).1) its other) w) g

  left : Guarded st s at since q (leave_holdings p y)
  left = for_each_keeps (λ z. Guarded st s at since q z) (orphans_left p (holdings (seen y))) add_grant (end_holdings p y) (λ e there z w. guard_grant st s at since q z e w) ended

  refused : (z : Step) → Guarded st s at since q z → Guarded st s at since q (refuse_jobs_of p z)
  refused z w =
      for_each_keeps (λ v. Guarded st s at since q v) (filter (is_job_of_process (seen z) p) (running_jobs z.setting (seen z))) (λ j. add_reply j.number (NoProcess p)) z
      (λ j there v u. guard_reply st s at since q v j.number (NoProcess p) u) w

above_exit : (y : Step) (p : ℕ) → AllAbove (seen y) → AllAbove (seen (refuse_jobs_of p (leave_holdings p y)))
unfolding leave_holdings
above_exit y p a =
    let z : Step = leave_holdings p y in
    for_each_keeps (λ v. AllAbove (seen v)) (filter (is_job_of_process (seen z) p) (running_jobs z.setting (seen z))) (λ j. add_reply j.number (NoProcess p)) z (λ j there v u. u)
    (for_each_keeps (λ v. AllAbove (seen v)) (orphans_left p (holdings (seen y))) add_grant (end_holdings p y) (λ e there v u. u)
    (for_each_keeps (λ v. AllAbove (seen v)) (filter (λ (e : Grant). e.process == p) (holdings (seen y))) (λ e. add_end (end_of e)) y (λ e there v u. u) a))

pub exit_reads : (x : Step) (p : ℕ) → x.input ≡ Wake → x.effects.calls ≡ [] → Known x → ReadsBack x (refuse_jobs_of p (leave_holdings p (with_input (Exit p) x)))
exit_reads x p wake bare k =
    through x y u (input_reads x (Exit p) wake bare refl k) all.setting
    (λ m j s i. record {
      there = subst (λ ms. Contains ms m) all.calls i.there;
      opens = inl (unmet (seen u) (heard_by u.input) m (ap (λ v. heard_by v) all.input) i.opens);
      purpose = i.purpose;
      runs = all.ran j i.runs;
      session = sym (all.sessions m.call.session) ∙ i.session;
    }) (λ m j s c i is. sym (all.commands j) ∙ is)
    (λ m j s r q i is w g. guard_exit x.setting s (spot_of_call x.setting.layout m) m.at q y p (another j r q i.runs is) g) (λ a. above_exit y p a)
  where
    y : Step
    y = with_input (Exit p) x

    z : Step
    z = leave_holdings p y

    u : Step
    u = refuse_jobs_of p z

    mid : Leaving y p z
    mid = left_so y p refl

    all : Leaving y p u
    all = refused_so y p z mid

    another : (j : ℕ) (r : ResourceArg) (q : ℕ) → is_running (seen u) j ≡ true → command_numbered x.setting (seen x) j ≡ Some (GetLvb r q) → (p == q) ≡ false
    another j r q runs is = is_false (p == q) (λ same.
        refused_there z p j (GetLvb r q) runs (subst (λ st. command_numbered st (seen z) j ≡ Some (GetLvb r q)) (sym mid.setting) (mid.commands j ∙ command_then x (Exit p) j (GetLvb r q) wake is))
        (ap (λ n. Some n) (sym (eqb-true p q same))))

-- ---- a start that failed

pub found_after : (i : Input) (p : ℕ) (ks ns : List Child) (c : Child) → find (has_number p) ks ≡ Some c → find (has_number p) (map (child_after i) ks ++ ns) ≡ Some (child_after i c)
found_after i p [] ns c is = absurd (none_some c is)
found_after i p (k ∷ ks) ns c is = by (k.process == p) refl (λ rest. found_after i p ks ns c rest) where
  was : (b : Bool) → (k.process == p) ≡ b → cond b (Some k) (find (has_number p) ks) ≡ Some c
  was b at = ap (λ d. cond d (Some k) (find (has_number p) ks)) (sym at) ∙ is

  turned : (b : Bool) → (k.process == p) ≡ b → cond b (Some (child_after i k)) (find (has_number p) (map (child_after i) ks ++ ns)) ≡ Some (child_after i c)
      → cond ((child_after i k).process == p) (Some (child_after i k)) (find (has_number p) (map (child_after i) ks ++ ns)) ≡ Some (child_after i c)
  turned b at then = ap (λ d. cond d (Some (child_after i k)) (find (has_number p) (map (child_after i) ks ++ ns))) (ap (λ n. n == p) (child_same i k) ∙ at) ∙ then

  by : (b : Bool) → (k.process == p) ≡ b → (find (has_number p) ks ≡ Some c → find (has_number p) (map (child_after i) ks ++ ns) ≡ Some (child_after i c))
      → cond ((child_after i k).process == p) (Some (child_after i k)) (find (has_number p) (map (child_after i) ks ++ ns)) ≡ Some (child_after i c)
  by true at rest = turned true at (ap (λ d. Some (child_after i d)) (some_value k c (was true at)))
  by false at rest = turned false at (rest (was false at))

-- Its child is one that wasn't started.
pub failed_child : (x : Step) (q : ℕ) → x.input ≡ Spawned q false → FollowsTrace x.setting x.past (entry_of x) → (k : Child) × (child_numbered (seen x) q ≡ Some k) × (k.answer ≡ Some false)
failed_child x q input follows =
    let expected : is_starting x.past q ≡ true = ap (λ i. is_expected x.setting x.past i) (sym input) ∙ follows.expected in
    let v = some_is_true (λ (k : Child). is_none k.answer) (child_numbered x.past q) expected in
    let f = find_inside (has_number q) (children x.past) v.0 v.1 in (
      child_after (Spawned q false) v.0,
      ap (λ i. find (has_number q) (map (child_after i) (children x.past) ++ map new_child x.effects.starts)) input ∙ found_after (Spawned q false) q (children x.past) (map new_child x.effects.starts) v.0 v.1,
      by v.0 (q == v.0.process) (ap (λ n. q == n) (eqb-true v.0.process q f.1) ∙ number_itself q) (none_is v.0.answer v.2),
    )
  where
    by : (c : Child) (b : Bool) → b ≡ true → c.answer ≡ None → (let k : Child = elim b as (λ z. Child) [ false ↦ c | true ↦ record c { answer = option_or c.answer (Some false) } ] in k.answer) ≡ Some false
    by c true is none = ap (λ o. option_or o (Some false)) none
    by c false is none = absurd (false_is_true is)

pub failed_reads : (x : Step) (q : ℕ) → x.input ≡ Spawned q false → Known x → ReadsBack x (when_running (job_of_start (seen x) q) SpawnFault (end_holdings q x))
failed_reads x q input k =
    said_on (ReadsBack x) (reads_go_on x) (end_holdings q x) (job_of_start (seen x) q) SpawnFault refl
    (for_each_keeps (λ z. ReadsBack x z) (filter (λ (e : Grant). e.process == q) (holdings (seen x))) (λ e. add_end (end_of e)) x
    (λ e there z h. end_reads x z (end_of e) (λ m j s r p g i is w place its.
    others_spared e g q p (eqb-true e.process q (kept_inside (λ (e : Grant). e.process == q) (holdings (seen x)) e there).1) its (another m s p w)) h) (reads_itself x))
  where
    another : (m : Submitted) (s : Session) (p : ℕ) → Guarded x.setting s (spot_of_call x.setting.layout m) m.at p x → (q == p) ≡ false
    another m s p w = is_false (q == p) (λ same.
        let c = failed_child x q input k.0.orderly.is_trace.0 in
        unlike (some_value false true (sym c.2 ∙ w.started c.0 (ap (λ n. child_numbered (seen x) n) (sym (eqb-true q p same)) ∙ c.1))))
      where
        unlike : false ≡ true → ⊥
        unlike is = false_is_true is
