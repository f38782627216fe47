-- What answers a question of a step, by the equations of the lists that it goes through.
use Rattle.sl_due.specs.DueRecovery.{is_kill_due}
use Rattle.sl_due.specs.Steps.{Step, seen}
use Rattle.sl_host_state.specs.StepQuestions.{QuestionsAreAnswered, is_kill_due_in, stopper_in, ungranted_in}
use Rattle.sl_host_state.specs.KeptState.{Config, HostState, JobState}
use Rattle.sl_host_state.specs.HostStands.{Stands, kept_job}
use Rattle.sl_trace.specs.Counts.{busy_among, child_count, holder_count, ungranted}
use Rattle.sl_trace.specs.KillPrograms.{stopper_of, KillProgram, kill_programs}
use Rattle.sl_trace.specs.Jobs.{is_asking_lease, is_program}
use Rattle.sl_trace.specs.declared.session.Begun.{Begun}
use Rattle.sl_trace.specs.WatchdogConnections.{Connection, connections}
use Rattle.sl_trace.specs.CountLimits.{most_children}
use Rattle.sl_trace.specs.Traces.{last_reading, running_jobs, same_place}
use Rattle.sl_trace.specs.declared.command.Command.{Command}
use Rattle.sl_trace.specs.declared.effects.Grant.{Grant}
use Rattle.sl_trace.specs.declared.input.Input.{Input}
use Rattle.sl_words.specs.Words.{choose, some_is}
use Rattle.std.proofs.Common.{ap, arith, refl, suc, ◌∙◌}
use Rattle.std.specs.List.{list_any}
use Rattle.std.specs.Prelude.{Bool, List, Option, Some, bytes_eq, cond, count_by, false, filter, find, fold, is_some, length, map, nat_le, nat_lt, not, option_and_then, option_map, true, [], ℕ, ◌&&◌, ◌+◌, ◌-◌, ◌==◌, ◌||◌, ◌∷◌, ◌≡◌}

-- The steps before this one.
before_it : (i : Input) (h : HostState) (x : Step) → Stands i h x → length x.past ≡ h.entries - 1
before_it i h x s = let e : suc (length x.past) ≡ h.entries = s.keeps.entries in omega (arith, e)

-- Whether it is the first, by the steps before, the reading and that of the step before.
abbrev first_by : ℕ → ℕ → ℕ → ℕ → Begun → Bool
first_by grace entries now last b =
    nat_le b.kills_from entries && nat_le (b.reading + grace) now && not (nat_lt b.kills_from entries && nat_le (b.reading + grace) last)

kills_are : (i : Input) (h : HostState) (x : Step) (begun : Option Begun) → Stands i h x → is_kill_due x.setting (seen x) begun ≡ is_kill_due_in h begun
kills_are i h x begun s =
    ap (λ n. some_is (first_by x.setting.grace n x.reading (last_reading x.setting x.past)) begun) (before_it i h x s)
    ∙ ap (λ n. some_is (first_by x.setting.grace (h.entries - 1) n (last_reading x.setting x.past)) begun) s.reading
    ∙ ap (λ n. some_is (first_by x.setting.grace (h.entries - 1) h.reading n) begun) s.before
    ∙ ap (λ (c : Config). some_is (first_by c.grace (h.entries - 1) h.reading h.before) begun) s.keeps.config

counted_from : {A B : Type 0} (q : B → Bool) (g : A → B) (n : ℕ) (xs : List A)
    → fold (λ (m : ℕ) (x : A). m + cond (q (g x)) 1 0) n xs ≡ fold (λ (m : ℕ) (y : B). m + cond (q y) 1 0) n (map g xs)
counted_from q g n [] = refl
counted_from q g n (x ∷ xs) = counted_from q g (n + cond (q (g x)) 1 0) xs

counted_kept : {A B : Type 0} (q : B → Bool) (g : A → B) (xs : List A) → count_by (λ x. q (g x)) xs ≡ count_by q (map g xs)
counted_kept q g xs = counted_from q g 0 xs

ungranted_is : (i : Input) (h : HostState) (x : Step) (p : Command → Bool) → Stands i h x → ungranted x.setting (seen x) p ≡ ungranted_in h p
ungranted_is i h x p s =
    counted_kept (λ j. some_is p j.command && not (is_some j.child)) (kept_job (seen x)) (running_jobs x.setting (seen x))
    ∙ ap (count_by (λ (j : JobState). some_is p j.command && not (is_some j.child))) s.keeps.jobs

holders_are : (i : Input) (h : HostState) (x : Step) → Stands i h x → holder_count x.setting (seen x) ≡ length h.holdings + ungranted_in h is_asking_lease
holders_are i h x s =
    ap (λ (gs : List Grant). length gs + ungranted x.setting (seen x) is_asking_lease) s.keeps.holdings ∙ ap (λ n. length h.holdings + n) (ungranted_is i h x is_asking_lease s)

children_are : (i : Input) (h : HostState) (x : Step) → Stands i h x → child_count x.setting (seen x) ≡ h.started + ungranted_in h is_program
children_are i h x s =
    ap (λ n. n + ungranted x.setting (seen x) is_program) s.keeps.started ∙ ap (λ n. h.started + n) (ungranted_is i h x is_program s)

stopper_is : (i : Input) (h : HostState) (x : Step) (p : ℕ) → Stands i h x → stopper_of x.setting (seen x) p ≡ stopper_in h p
stopper_is i h x p s =
    ap
    (λ n. option_and_then (λ program. choose (not (nat_le most_children n)) program)
    (option_map (λ k. k.program) (find (λ k. k.process == p) (kill_programs x.setting (seen x))))) (children_are i h x s)
    ∙ ap
    (λ (ks : List KillProgram). option_and_then (λ program. choose (not (nat_le most_children (h.started + ungranted_in h is_program))) program)
    (option_map (λ k. k.program) (find (λ k. k.process == p) ks))) s.keeps.programs

found_name : (name : List ℕ) (cs : List Connection) → is_some (find (λ c. bytes_eq c.name name) cs) ≡ list_any (λ n. bytes_eq n name) (map (λ c. c.name) cs)
found_name name [] = refl
found_name name (c ∷ cs) = by (bytes_eq c.name name) (found_name name cs) where
  by : (b : Bool) → is_some (find (λ c. bytes_eq c.name name) cs) ≡ list_any (λ n. bytes_eq n name) (map (λ c. c.name) cs)
      → is_some (cond b (Some c) (find (λ c. bytes_eq c.name name) cs)) ≡ (b || list_any (λ n. bytes_eq n name) (map (λ c. c.name) cs))
  by true rest = refl
  by false rest = rest

pub questions_are_answered : QuestionsAreAnswered
questions_are_answered =
    record {
      begins = λ i h x begun s. ap (λ n. some_is (λ (b : Begun). b.at + 1 == n) begun) s.keeps.entries;
      kills = kills_are;
      holders = holders_are;
      children = children_are;
      stopper = stopper_is;
      busy = λ i h x at asking shared s. ap (λ (gs : List Grant). busy_among (filter (λ g. same_place g.path g.offset at.path at.base) gs) asking shared) s.keeps.holdings;
      registered = λ i h x name s. found_name name (connections x.setting (seen x)) ∙ ap (list_any (λ n. bytes_eq n name)) s.keeps.connected;
    }
