-- What the start of a child makes due.
use Rattle.sl_host_law.proofs.Calls.Inputs.ChildrenHear.{start_acts}
use Rattle.sl_host_law.proofs.Calls.InputsAreHeard.{inputs_are_heard}
use Rattle.sl_due.specs.DueInputs.{end_holdings, on_spawned, signal_instead, started_reply, when_running}
use Rattle.sl_due.specs.Steps.{Step, add_end, add_reply, add_signal, for_each, seen, when, with_input, with_some}
use Rattle.sl_host_law.proofs.SharedFacts.KeptJobs.{kept_is_running}
use Rattle.sl_host_law.proofs.SharedFacts.NewNumbers.{mapped_inside}
use Rattle.sl_host_law.proofs.SharedFacts.PlainLists.{each_of, found_some, in_back}
use Rattle.sl_host_state.proofs.EffectsAreTaken.{effects_are_taken}
use Rattle.sl_host_state.specs.HeardInputs.{heard_start}
use Rattle.sl_host_state.specs.KeptState.{HostState}
use Rattle.sl_host_state.specs.MadeEffects.{with_reply}
use Rattle.sl_host_state.specs.HostStands.{Keeps, Stands, is_there, jobs_told}
use Rattle.sl_host_law.proofs.StepParts.ExitsAreTaken.{exits_are_taken}
use Rattle.sl_host_law.specs.StepParts.Exits.{ending}
use Rattle.sl_host_law.specs.StepParts.Spawns.{SpawnsAreTaken, child_in, replying_if, spawning, started_in, terming}
use Rattle.sl_words.proofs.Lists.{contains_cases, contains_map, contains_none, find_inside, head_is, kept, kept_inside, tail_is}
use Rattle.sl_host_law.specs.Questions.Jobs.{running_in}
use Rattle.sl_host_law.proofs.Replies.JobsRun.{runs_among}
use Rattle.sl_host_law.proofs.Replies.PlainNumbers.{same_number}
use Rattle.sl_host_law.proofs.Replies.RepliesAreTaken.RepliesKeepHosts.{replies_are_taken}
use Rattle.sl_trace.specs.Traces.{Child, Setting, Submitted, Trace, child_after, child_numbered, children, end_of, first_child, holdings, is_expected, is_running, job_numbered, job_of, new_child, submitted}
use Rattle.sl_trace.specs.declared.effects.Effects.{Effects}
use Rattle.sl_trace.specs.declared.effects.Grant.{Grant}
use Rattle.sl_trace.specs.declared.effects.Signal.TheVariants.{Term}
use Rattle.sl_trace.specs.declared.input.Input.TheVariants.{Spawned, Wake}
use Rattle.sl_trace.specs.declared.input.Input.{Input}
use Rattle.sl_trace.specs.declared.reply.Reply.TheVariants.{SpawnFault, Started}
use Rattle.sl_trace.specs.declared.reply.Reply.{Reply}
use Rattle.sl_words.proofs.CaseLaws.{none_some, not_both, some_value}
use Rattle.sl_words.proofs.WordLaws.{some_is_true}
use Rattle.sl_words.specs.Words.{some_is}
use Rattle.std.proofs.Common.{ap, arith, inl, inr, refl, subst, suc, sym, zero, ◌∙◌}
use Rattle.std.specs.List.{range_with_len}
use Rattle.std.specs.Option.{option_map_or, option_or}
use Rattle.std.specs.Prelude.{Bool, Contains, IsTrue, List, None, Option, Some, cond, false, filter, filter_map, find, is_none, is_some, length, map, not, option_and_then, true, [], ℕ, ◌&&◌, ◌++◌, ◌+◌, ◌==◌, ◌||◌, ◌∷◌, ◌≡◌, ◌≤◌, ◌⊎◌}

-- ---- the child that is kept is the one of its number

from_first : (a n y : ℕ) → Contains (range_with_len a n) y → a ≤ y
from_first a zero y there = absurd (contains_none y there)
from_first a (suc n) y there = by (λ rest. from_first (a + 1) n y rest) (contains_cases a (range_with_len (a + 1) n) y there) where
  by : (Contains (range_with_len (a + 1) n) y → a + 1 ≤ y) → (a ≡ y) ⊎ Contains (range_with_len (a + 1) n) y → a ≤ y
  by deeper (inl is) = omega (arith, is)
  by deeper (inr rest) = let r = deeper rest in omega (arith, r)

found_in_row : (p a : ℕ) (ks : List Child) (k : Child) → map (λ z. z.process) ks ≡ range_with_len a (length ks) → Contains ks k → (k.process == p) ≡ true → find (λ z. z.process == p) ks ≡ Some k
found_in_row p a [] k row there is = absurd (contains_none k there)
found_in_row p a (z ∷ zs) k row there is =
    by (z.process == p) refl (contains_cases z zs k there) (λ inside. found_in_row p (a + 1) zs k rest inside is) where
      rest : map (λ (c : Child). c.process) zs ≡ range_with_len (a + 1) (length zs)
      rest = tail_is z.process a (map (λ (c : Child). c.process) zs) (range_with_len (a + 1) (length zs)) row

      by : (b : Bool) → (z.process == p) ≡ b → (z ≡ k) ⊎ Contains zs k → (Contains zs k → find (λ (c : Child). c.process == p) zs ≡ Some k)
          → cond b (Some z) (find (λ (c : Child). c.process == p) zs) ≡ Some k
      by true first (inl same) deeper = ap (λ c. Some c) same
      by true first (inr inside) deeper =
          let low : a + 1 ≤ k.process = from_first (a + 1) (length zs) k.process (subst (λ ns. Contains ns k.process) rest (contains_map (λ (c : Child). c.process) zs k inside)) in
          let here : z.process ≡ a = head_is z.process a (map (λ (c : Child). c.process) zs) (range_with_len (a + 1) (length zs)) row in
          let one : z.process ≡ p = same_number z.process p first in
          let other : k.process ≡ p = same_number k.process p is in
          absurd (omega (arith, low, here, one, other))
      by false first (inl same) deeper = absurd (not_both (k.process == p) is (ap (λ (c : Child). c.process == p) (sym same) ∙ first))
      by false first (inr inside) deeper = deeper inside

kept_child : (h : HostState) (st : Setting) (es : Trace) (p : ℕ) (k : Child) → Keeps h st es → child_in h p ≡ Some k → child_numbered es p ≡ Some k
kept_child h st es p k keeps is =
    let at = find_inside (λ (c : Child). c.process == p) h.children k is in
    let inside = kept_inside is_there (children es) k (subst (λ ks. Contains ks k) (sym keeps.children) at.0) in
    found_in_row p first_child (children es) k keeps.counted inside.0 at.1

-- ---- after the input it has the job and the term that it had

-- Two children have the same job, and stand for the same.
record Alike (k c : Child) : Type 0 where
  pub job : c.job ≡ k.job
  pub stands : c.stands_for ≡ k.stands_for

same_stands : (p : ℕ) (ok : Bool) (k : Child) → (child_after (Spawned p ok) k).stands_for ≡ k.stands_for
same_stands p ok k = by (p == k.process) where
  by : (b : Bool) → (elim b as (λ z. Child) [ false ↦ k | true ↦ record k { answer = option_or k.answer (Some ok) } ]).stands_for ≡ k.stands_for
  by true = refl
  by false = refl

still_found : (p : ℕ) (ok : Bool) (ks ns : List Child) (k : Child) → find (λ z. z.process == p) (map (λ z. z) ks ++ ns) ≡ Some k
    → (c : Child) × (find (λ z. z.process == p) (map (child_after (Spawned p ok)) ks ++ ns) ≡ Some c) × Alike k c
still_found p ok [] ns k is = (k, is, record { job = refl; stands = refl })
still_found p ok (z ∷ zs) ns k is = by (z.process == p) refl is (λ rest. still_found p ok zs ns k rest) where
  after : Child → Child
  after = child_after (Spawned p ok)

  number : (after z).process ≡ z.process
  number = (start_acts p ok).process z

  by : (b : Bool) → (z.process == p) ≡ b → cond b (Some z) (find (λ (y : Child). y.process == p) (map (λ (y : Child). y) zs ++ ns)) ≡ Some k
      → (find (λ (y : Child). y.process == p) (map (λ (y : Child). y) zs ++ ns) ≡ Some k → (c : Child) × (find (λ (y : Child). y.process == p) (map (child_after (Spawned p ok)) zs ++ ns) ≡ Some c) × Alike k c)
      → (c : Child) × (cond ((child_after (Spawned p ok) z).process == p) (Some (child_after (Spawned p ok) z)) (find (λ (y : Child). y.process == p) (map (child_after (Spawned p ok)) zs ++ ns)) ≡ Some c) × Alike k c
  by true at same deeper = (
    child_after (Spawned p ok) z,
    ap (λ b. cond b (Some (child_after (Spawned p ok) z)) (find (λ (y : Child). y.process == p) (map (child_after (Spawned p ok)) zs ++ ns))) (ap (λ n. n == p) number ∙ at),
    subst (λ (y : Child). Alike y (child_after (Spawned p ok) z)) (some_value z k same) (record { job = (start_acts p ok).job z; stands = same_stands p ok z }),
  )
  by false at same deeper =
      (let r = deeper same in
      (r.0, ap (λ b. cond b (Some (child_after (Spawned p ok) z)) (find (λ (y : Child). y.process == p) (map (child_after (Spawned p ok)) zs ++ ns))) (ap (λ n. n == p) number ∙ at) ∙ r.1, r.2))

-- The step that has heard the input.
heard_child : (p : ℕ) (ok : Bool) (k : Child) (x : Step) → child_numbered (seen (with_input Wake x)) p ≡ Some k
    → (c : Child) × (child_numbered (seen (with_input (Spawned p ok) x)) p ≡ Some c) × Alike k c
heard_child p ok k x is = let fx : Effects = x.effects in still_found p ok (children x.past) (map new_child fx.starts) k is

-- ---- the job of a child

runs_told : (i : Input) (h : HostState) (x : Step) (c : Child) (n : ℕ) → Stands i h x → Contains (children (seen x)) c → c.job ≡ Some n → is_running (seen x) n ≡ running_in h n
runs_told i h x c n s there is =
    let owned = each_of (λ z. IsTrue (is_some (job_numbered x.setting (seen x) z))) (jobs_told (seen x)) n s.keeps.owned
    (in_back (filter_map (λ (m : Submitted). job_of m.call.purpose) (submitted (seen x))) (filter_map (λ (z : Child). z.job) (children (seen x))) n
    (mapped_inside (λ (z : Child). z.job) (children (seen x)) c n there is)) in
    sym (kept_is_running h x.setting (seen x) n s.keeps ∙ runs_among x.setting (seen x) n owned)

-- It is replied to.
job_told : (p : ℕ) (ok : Bool) (h : HostState) (x : Step) (c : Child) (r : Reply) → Stands (Spawned p ok) h x → Contains (children (seen x)) c
    → Stands (Spawned p ok) (replying_if c.job r h) (when_running c.job r x)
job_told p ok h x c r s there = by c.job refl where
  told : (n : ℕ) (b : Bool) → running_in h n ≡ b → Stands (Spawned p ok) (cond b (with_reply n r h) h) (when b (add_reply n r) x)
  told n true runs = replies_are_taken n r (Spawned p ok) h x s (record { runs = runs; heed = tt; line = tt })
  told n false ends = s

  by : (o : Option ℕ) → c.job ≡ o → Stands (Spawned p ok) (replying_if o r h) (when_running o r x)
  by None is = s
  by (Some n) is = subst (λ b. Stands (Spawned p ok) (replying_if (Some n) r h) (when b (add_reply n r) x)) (sym (runs_told (Spawned p ok) h x c n s there is)) (told n (running_in h n) refl)

-- ---- what the rest leaves of the children

ends_leave : (gs : List Grant) (x : Step) → children (seen (for_each gs (λ g. add_end (end_of g)) x)) ≡ children (seen x)
ends_leave [] x = refl
ends_leave (g ∷ gs) x = ends_leave gs (add_end (end_of g) x)

reply_leaves : (o : Option ℕ) (r : Reply) (x : Step) → children (seen (when_running o r x)) ≡ children (seen x)
reply_leaves None r x = refl
reply_leaves (Some n) r x = by (is_running (seen x) n) where
  by : (b : Bool) → children (seen (when b (add_reply n r) x)) ≡ children (seen x)
  by true = refl
  by false = refl

-- ---- the whole

termed : (i : Input) (o : Option ℕ) (h : HostState) (x : Step) → Stands i h x → Stands i (terming o h) (with_some o (λ q. add_signal q Term) x)
termed i None h x s = s
termed i (Some q) h x s = effects_are_taken.signal q Term h i x s

-- By a child of that number.
by_child : (p : ℕ) (ok : Bool) (c : Child) (h : HostState) (x : Step) → child_numbered (seen x) p ≡ Some c → h.made.grants ≡ [] → Stands (Spawned p ok) h x
    → Stands (Spawned p ok) (spawning p ok c h) (on_spawned p ok x)
unfolding on_spawned
by_child p true c h x is none s =
    subst (λ o. Stands (Spawned p true) (replying_if c.job (started_in h p) h) (when_running (option_and_then (λ (z : Child). z.job) o) (started_reply (seen x) p) x)) (sym is)
    (subst (λ gs. Stands (Spawned p true) (replying_if c.job (started_in h p) h) (when_running c.job (Started (option_map_or (λ g. g.lver) (find (λ (g : Grant). g.process == p) gs) 0) p) x)) (sym s.keeps.holdings)
    (job_told p true h x c (started_in h p) s (find_inside (λ (z : Child). z.process == p) (children (seen x)) c is).0))
by_child p false c h x is none s =
    subst (λ o. Stands (Spawned p false) (spawning p false c h) (signal_instead p (when_running (option_and_then (λ (z : Child). z.job) o) SpawnFault (end_holdings p x)))) (sym is)
    (subst (λ o. Stands (Spawned p false) (spawning p false c h) (with_some (option_and_then (λ (z : Child). z.stands_for) o) (λ q. add_signal q Term) replied)) (sym (ap (find (λ (z : Child). z.process == p)) left ∙ is))
    (termed (Spawned p false) c.stands_for (replying_if c.job SpawnFault (ending p h)) replied
    (job_told p false (ending p h) ended c SpawnFault (exits_are_taken.ends p h none (Spawned p false) x s)
    (subst (λ ks. Contains ks c) (sym (ends_leave (filter (λ (g : Grant). g.process == p) (holdings (seen x))) x)) (find_inside (λ (z : Child). z.process == p) (children (seen x)) c is).0)))) where
      ended : Step
      ended = end_holdings p x

      replied : Step
      replied = when_running c.job SpawnFault ended

      left : children (seen replied) ≡ children (seen x)
      left = reply_leaves c.job SpawnFault ended ∙ ends_leave (filter (λ (g : Grant). g.process == p) (holdings (seen x))) x

whole : (p : ℕ) (ok : Bool) (k : Child) (h : HostState) (x : Step) → child_in h p ≡ Some k → h.made.grants ≡ [] → Stands Wake h x
    → Stands (Spawned p ok) (spawning p ok k (heard_start p ok h)) (on_spawned p ok (with_input (Spawned p ok) x))
whole p ok k h x is none s =
    let before = kept_child h x.setting (seen x) p k s.keeps is in
    let c = heard_child p ok k x (subst (λ i. child_numbered (seen (with_input i x)) p ≡ Some k) s.input before) in
    as_kept k c.0 c.2 (by_child p ok c.0 (heard_start p ok h) (with_input (Spawned p ok) x) c.1 none (inputs_are_heard.start h x p ok s)) where
      as_kept : (k c : Child) → Alike k c → Stands (Spawned p ok) (spawning p ok c (heard_start p ok h)) (on_spawned p ok (with_input (Spawned p ok) x))
          → Stands (Spawned p ok) (spawning p ok k (heard_start p ok h)) (on_spawned p ok (with_input (Spawned p ok) x))
      as_kept k c alike s = by ok s where
        y : Step
        y = on_spawned p ok (with_input (Spawned p ok) x)

        g : HostState
        g = heard_start p ok h

        by : (b : Bool) → Stands (Spawned p ok) (spawning p b c g) y → Stands (Spawned p ok) (spawning p b k g) y
        by true s = subst (λ o. Stands (Spawned p ok) (replying_if o (started_in g p) g) y) alike.job s
        by false s =
            subst (λ o. Stands (Spawned p ok) (terming k.stands_for (replying_if o SpawnFault (ending p g))) y) alike.job
            (subst (λ o. Stands (Spawned p ok) (terming o (replying_if c.job SpawnFault (ending p g))) y) alike.stands s)

-- ---- one whose start is answered is kept

found_front : (p : ℕ) (ks ns : List Child) (k : Child) → find (λ z. z.process == p) ks ≡ Some k → find (λ z. z.process == p) (map (λ z. z) ks ++ ns) ≡ Some k
found_front p [] ns k is = absurd (none_some k is)
found_front p (z ∷ zs) ns k is = by (z.process == p) is (λ rest. found_front p zs ns k rest) where
  by : (b : Bool) → cond b (Some z) (find (λ (y : Child). y.process == p) zs) ≡ Some k
      → (find (λ (y : Child). y.process == p) zs ≡ Some k → find (λ (y : Child). y.process == p) (map (λ (y : Child). y) zs ++ ns) ≡ Some k)
      → cond b (Some z) (find (λ (y : Child). y.process == p) (map (λ (y : Child). y) zs ++ ns)) ≡ Some k
  by true is deeper = is
  by false is deeper = deeper is

starting_there : (k : Child) → is_none k.answer ≡ true → is_there k ≡ true
starting_there k is = ap (λ b. b || some_is (λ ok. ok) k.answer && not k.exited) is

kept_here : (p : ℕ) (ok : Bool) (h : HostState) (x : Step) → is_expected x.setting x.past (Spawned p ok) ≡ true → Keeps h x.setting (seen (with_input Wake x)) → is_some (child_in h p) ≡ true
kept_here p ok h x expected keeps =
    let fx : Effects = x.effects in
    let at = some_is_true (λ (c : Child). is_none c.answer) (child_numbered x.past p) expected in
    let here = find_inside (λ (z : Child). z.process == p) (children (seen (with_input Wake x))) at.0 (found_front p (children x.past) (map new_child fx.starts) at.0 at.1) in
    found_some (λ (z : Child). z.process == p) h.children at.0
    (subst (λ ks. Contains ks at.0) keeps.children (kept is_there (children (seen (with_input Wake x))) at.0 (starting_there at.0 at.2) here.0)) here.1

pub spawns_are_taken : SpawnsAreTaken
spawns_are_taken =
    record {
      kept = λ p ok h x expected s. kept_here p ok h x expected (subst (λ i. Keeps h x.setting (seen (with_input i x))) s.input s.keeps);
      whole = whole;
    }
