-- What is done in a part of a step where nothing may be left out: kills, and the term for a kill program that was not started. It stays
-- to the step's end.
use Rattle.sl_due_facts.proofs.Acts.HeadsKeep.{AtHead, IsUnused, kills_keep, time_outs_keep}
use Rattle.sl_due_facts.proofs.Acts.InputsKeep.{Arrives, answer_keeps, other_acts, others_keep}
use Rattle.sl_due_facts.proofs.Acts.LoopsKeep.{for_each_keeps, when_keeps}
use Rattle.sl_due_facts.proofs.Acts.PlainActs.{anything_is_kept, plain_acts}
use Rattle.sl_due_facts.proofs.Acts.StepsKeep.{at_input, bare_at_input, begun_bare, head_keeps}
use Rattle.sl_due_facts.proofs.Acts.WakesKeep.{last_keeps, wake_keeps}
use Rattle.sl_due_facts.specs.Acts.Acts.{OtherActs}
use Rattle.sl_due_facts.specs.Acts.KeptByEffects.{Plainly}
use Rattle.sl_due.specs.Due.{after_input, before_input, due_step}
use Rattle.sl_due.specs.DueCommands.{carry_decision}
use Rattle.sl_due.specs.DueRecovery.{begin_recoveries, kill_holders, kills, kills_holders, send, signal_holders}
use Rattle.sl_due.specs.DueInputs.{end_holdings, on_spawned, take_input, when_running}
use Rattle.sl_due.specs.DueWake.{is_wake, on_wake}
use Rattle.sl_due.specs.Steps.{Step, add_end, add_reply, add_signal, begin_step, for_each, seen, when, with_input, with_some}
use Rattle.sl_due_facts.proofs.Jobs.CallsHaveFacts.{find_mapped}
use Rattle.sl_due_facts.proofs.Jobs.JobFactsGrow.{contains_left, contains_right}
use Rattle.sl_due_facts.proofs.Jobs.JobsAreNumbered.{found_before}
use Rattle.sl_trace.specs.Jobs.{job_of_start}
use Rattle.sl_words.proofs.Lists.{contains_cases, contains_first, contains_none}
use Rattle.sl_words.proofs.Options.{then_value}
use Rattle.sl_due_law.proofs.Recovery.StopsBegin.{begun_says}
use Rattle.sl_trace.specs.Sessions.{holders_of, present_sessions}
use Rattle.sl_trace.specs.declared.session.Session.{Session}
use Rattle.sl_trace.specs.Traces.{Child, Setting, Trace, child_after, child_numbered, children, end_of, holdings, is_running, new_child, stands_for}
use Rattle.sl_trace.specs.declared.effects.Effects.{Effects}
use Rattle.sl_trace.specs.declared.effects.Grant.{Grant}
use Rattle.sl_trace.specs.declared.effects.Sent.{Sent}
use Rattle.sl_trace.specs.declared.effects.Signal.{Signal}
use Rattle.sl_trace.specs.declared.effects.Signal.TheVariants.{Kill, Term}
use Rattle.sl_trace.specs.declared.input.Answer.{Answer}
use Rattle.sl_trace.specs.declared.input.Input.{Input}
use Rattle.sl_trace.specs.declared.input.Input.TheVariants.{Answer as Told, Exit, Line, Number, Spawned, Wake}
use Rattle.sl_trace.specs.declared.reply.Reply.TheVariants.{SpawnFault}
use Rattle.std.proofs.Common.{ap, inl, inr, refl, subst, sym, ◌∙◌}
use Rattle.std.specs.Option.{option_or}
use Rattle.std.specs.Prelude.{Bool, Contains, List, None, Option, Some, [], false, filter, find, map, option_and_then, option_map, true, ℕ, ◌++◌, ◌==◌, ◌∷◌, ◌≡◌, ◌⊎◌}

-- ---- from a part on to the end

-- The step with its input, and what a wake makes due.
abbrev pub before_last : Input → Step → Step
before_last i y = when (is_wake i) on_wake (take_input i y)

-- From the step as the input finds it.
pub until_last : (I : Step → Type 0) → Plainly I → (y : Step) (i : Input) → y.input ≡ Wake → IsUnused y → I y → I (before_last i y)
unfolding take_input
until_last I p y i wake bare h = by i wake h taken where
  answers : (number : ℕ) (answer : Answer) → i ≡ Told number answer → I (take_input i y)
  answers number answer is = subst (λ z. I (take_input z y)) (sym is) (answer_keeps I (plain_acts I p) y number answer wake bare (p.inputs y (Told number answer) wake bare.0 h))

  arrives : (k : Input) → Arrives I y k
  arrives (Spawned n ok) = p.inputs y (Spawned n ok) wake bare.0 h
  arrives (Told n a) = tt
  arrives (Line text) = tt
  arrives (Number text) = tt
  arrives (Exit n) = tt
  arrives Wake = tt

  taken : I (take_input i y)
  taken = others_keep I (other_acts I (plain_acts I p)) y i wake bare.0 answers (arrives i) h

  by : (k : Input) → y.input ≡ Wake → I y → I (take_input k y) → I (when (is_wake k) on_wake (take_input k y))
  by Wake woken g seen_one = wake_keeps I (other_acts I (plain_acts I p)) y woken g
  by (Line text) woken g seen_one = seen_one
  by (Number text) woken g seen_one = seen_one
  by (Told n a) woken g seen_one = seen_one
  by (Exit n) woken g seen_one = seen_one
  by (Spawned n ok) woken g seen_one = seen_one

pub after_head : (I : Step → Type 0) → Plainly I → (y : Step) (i : Input) → y.input ≡ Wake → IsUnused y → I y → I (after_input i (take_input i y))
unfolding after_input
after_head I p y i wake bare h = last_keeps I (other_acts I (plain_acts I p)) (before_last i y) (until_last I p y i wake bare h)

-- From where kills are done.
pub after_kills : (I : Step → Type 0) → Plainly I → (st : Setting) (past : Trace) (now : ℕ) (i : Input) → I (kills (begin_recoveries (begin_step st past now))) → I (due_step st past now i)
unfolding due_step before_input
after_kills I p st past now i h =
    let x : Step = begin_recoveries (begin_step st past now) in
    let begun = begun_bare st past now in
    let k : OtherActs I = other_acts I (plain_acts I p) in
    let killed = kills_keep (λ z. Unit {0}) (other_acts (λ z. Unit {0}) anything_is_kept) x begun.1 tt in
    let head : AtHead I x (at_input st past now) = time_outs_keep I k x (kills x) begun.0 (record { kept = h; stays = killed.stays; bare = killed.bare }) in
    let bare = bare_at_input st past now in
    after_head I p (at_input st past now) i bare.0 bare.1 head.kept

-- ---- what was sent

abbrev pub IsSentBy : ℕ → Signal → Step → Type 0
IsSentBy p g z = Contains z.effects.signals (record { process = p; signal = g })

pub sent_plainly : (p : ℕ) (g : Signal) → Plainly (IsSentBy p g)
unfolding carry_decision
sent_plainly p g =
    record {
      effects = record {
        ends = λ x e h. h;
        signals = λ x q s h. contains_left x.effects.signals (record { process = q; signal = s } ∷ []) (record { process = p; signal = g }) h;
        moves = λ x m h. h;
        grants = λ x k h. h;
        starts = λ x s h. h;
        replies = λ x j r h. h;
        calls = λ x s path q o op has h. h;
      };
      inputs = λ x i wake bare h. h;
      begins = λ x text c n a wake bare says is h. h;
    }

-- ---- kills

abbrev with_signals : Step → List Sent → Step
with_signals x signals = let fx : Effects = x.effects in record x { effects = record fx { signals = signals } }

record Signals (x y : Step) : Type 0 where
  signals : List Sent
  is : y ≡ with_signals x signals

kill_signals : (x y : Step) (s : Session) → Signals x y → Signals x (kill_holders s y)
unfolding kill_holders
kill_signals x y s h =
    when_keeps (Signals x) (kills_holders y.setting (seen y) s) (signal_holders Kill s) y
    (λ due k. for_each_keeps (Signals x) (holders_of (seen y) s) (λ p. send p Kill) y
    (λ p inside z g. record { signals = g.signals ++ record { process = p; signal = Kill } ∷ []; is = ap (λ w. add_signal p Kill w) g.is }) k) h

each_sent : (ps : List ℕ) (y : Step) (p : ℕ) → Contains ps p → IsSentBy p Kill (for_each ps (λ q. send q Kill) y)
each_sent [] y p there = absurd (contains_none p there)
each_sent (q ∷ qs) y p there = by (contains_cases q qs p there) (λ old. each_sent qs (send q Kill y) p old) where
  by : (q ≡ p) ⊎ Contains qs p → (Contains qs p → IsSentBy p Kill (for_each qs (λ r. send r Kill) (send q Kill y))) → IsSentBy p Kill (for_each qs (λ r. send r Kill) (send q Kill y))
  by (inr old) more = more old
  by (inl is) more =
      for_each_keeps (IsSentBy p Kill) qs (λ r. send r Kill) (send q Kill y) (λ r inside z k. contains_left z.effects.signals (record { process = r; signal = Kill } ∷ []) (record { process = p; signal = Kill }) k)
      (subst (λ r. IsSentBy p Kill (send r Kill y)) (sym is) (contains_right y.effects.signals (record { process = p; signal = Kill } ∷ []) (record { process = p; signal = Kill }) (contains_first (record { process = p; signal = Kill }) [])))

killed_later : (ss : List Session) (y : Step) (p : ℕ) → IsSentBy p Kill y → IsSentBy p Kill (for_each ss kill_holders y)
unfolding kill_holders
killed_later ss y p h =
    for_each_keeps (IsSentBy p Kill) ss kill_holders y
    (λ t there z k. when_keeps (IsSentBy p Kill) (kills_holders z.setting (seen z) t) (signal_holders Kill t) z
    (λ due g. for_each_keeps (IsSentBy p Kill) (holders_of (seen z) t) (λ q. send q Kill) z
    (λ q inside w f. contains_left w.effects.signals (record { process = q; signal = Kill } ∷ []) (record { process = p; signal = Kill }) f) g) k) h

each_killed : (x : Step) (ss : List Session) (y : Step) (s : Session) (p : ℕ) → Signals x y → Contains ss s → kills_holders x.setting (seen x) s ≡ true → Contains (holders_of (seen x) s) p → IsSentBy p Kill (for_each ss kill_holders y)
unfolding kill_holders
each_killed x [] y s p h there due inside = absurd (contains_none s there)
each_killed x (t ∷ ss) y s p h there due inside = by (contains_cases t ss s there) (λ old. each_killed x ss (kill_holders t y) s p (kill_signals x y t h) old due inside) where
  here : kills_holders y.setting (seen y) s ≡ true
  here = ap (λ (z : Step). kills_holders z.setting (seen z) s) h.is ∙ due

  holds : Contains (holders_of (seen y) s) p
  holds = subst (λ (z : Step). Contains (holders_of (seen z) s) p) (sym h.is) inside

  done : IsSentBy p Kill (kill_holders s y)
  done = subst (λ b. IsSentBy p Kill (when b (signal_holders Kill s) y)) (sym here) (each_sent (holders_of (seen y) s) y p holds)

  by : (t ≡ s) ⊎ Contains ss s → (Contains ss s → IsSentBy p Kill (for_each ss kill_holders (kill_holders t y))) → IsSentBy p Kill (for_each ss kill_holders (kill_holders t y))
  by (inr old) more = more old
  by (inl is) more = killed_later ss (kill_holders t y) p (subst (λ q. IsSentBy p Kill (kill_holders q y)) (sym is) done)

-- Each holder whose session's kills are due is signalled.
pub all_killed : (x : Step) (s : Session) (p : ℕ) → Contains (present_sessions x.setting (seen x)) s → kills_holders x.setting (seen x) s ≡ true → Contains (holders_of (seen x) s) p → IsSentBy p Kill (kills x)
unfolding kills
all_killed x s p there due inside = each_killed x (present_sessions x.setting (seen x)) x s p (record { signals = x.effects.signals; is = refl }) there due inside

-- ---- the answer to a start

child_same : (i : Input) (k : Child) → ((child_after i k).process ≡ k.process) × ((child_after i k).stands_for ≡ k.stands_for)
child_same (Spawned p ok) k = by (p == k.process) where
  by : (b : Bool) → ((elim b as (λ z. Child) [ false ↦ k | true ↦ record k { answer = option_or k.answer (Some ok) } ]).process ≡ k.process)
      × ((elim b as (λ z. Child) [ false ↦ k | true ↦ record k { answer = option_or k.answer (Some ok) } ]).stands_for ≡ k.stands_for)
  by true = (refl, refl)
  by false = (refl, refl)
child_same (Exit p) k = by (p == k.process) where
  by : (b : Bool) → ((elim b as (λ z. Child) [ false ↦ k | true ↦ record k { exited = true } ]).process ≡ k.process) × ((elim b as (λ z. Child) [ false ↦ k | true ↦ record k { exited = true } ]).stands_for ≡ k.stands_for)
  by true = (refl, refl)
  by false = (refl, refl)
child_same (Told n a) k = (refl, refl)
child_same (Line text) k = (refl, refl)
child_same (Number text) k = (refl, refl)
child_same Wake k = (refl, refl)

stood : (z : Step) (c p : ℕ) → stands_for z.past c ≡ Some p → stands_for (seen z) c ≡ Some p
stood z c p is =
    let named : Child → Bool = λ k. k.process == c in
    let was = then_value (λ (k : Child). k.stands_for) (child_numbered z.past c) p is in
    let mapped : find named (map (child_after z.input) (children z.past)) ≡ Some (child_after z.input was.0) =
    find_children named z.input (children z.past) (λ k. ap (λ n. n == c) (child_same z.input k).0) ∙ ap (λ o. option_map (child_after z.input) o) was.1
    in
    let now : child_numbered (seen z) c ≡ Some (child_after z.input was.0) = found_before named (map (child_after z.input) (children z.past)) (map new_child z.effects.starts) (child_after z.input was.0) mapped in
    ap (λ o. option_and_then (λ (k : Child). k.stands_for) o) now ∙ ((child_same z.input was.0).1 ∙ was.2)
  where
    find_children : (q : Child → Bool) (i : Input) (ks : List Child) → ((k : Child) → q (child_after i k) ≡ q k) → find q (map (child_after i) ks) ≡ option_map (child_after i) (find q ks)
    find_children q i ks same = find_mapped q (child_after i) ks same

failed_past : (x : Step) (c : ℕ) → (when_running (job_of_start (seen x) c) SpawnFault (end_holdings c x)).past ≡ x.past
failed_past x c = by (job_of_start (seen x) c) where
  ended_past : (end_holdings c x).past ≡ x.past
  ended_past = for_each_keeps (λ z. z.past ≡ x.past) (filter (λ (g : Grant). g.process == c) (holdings (seen x))) (λ g. add_end (end_of g)) x (λ g there z h. h) refl

  by : (o : Option ℕ) → (when_running o SpawnFault (end_holdings c x)).past ≡ x.past
  by None = ended_past
  by (Some j) = when_keeps (λ z. z.past ≡ x.past) (is_running (seen (end_holdings c x)) j) (add_reply j SpawnFault) (end_holdings c x) (λ runs h. h) ended_past

-- A kill program that was not started: its process is sent term.
told_instead : (x : Step) (c p : ℕ) → stands_for x.past c ≡ Some p → IsSentBy p Term (on_spawned c false x)
unfolding on_spawned
told_instead x c p stands =
    let y : Step = when_running (job_of_start (seen x) c) SpawnFault (end_holdings c x) in
    let is : stands_for (seen y) c ≡ Some p = stood y c p (ap (λ t. stands_for t c) (failed_past x c) ∙ stands) in
    subst (λ o. IsSentBy p Term (with_some o (λ q. add_signal q Term) y)) (sym is)
    (contains_right y.effects.signals (record { process = p; signal = Term } ∷ []) (record { process = p; signal = Term }) (contains_first (record { process = p; signal = Term }) []))

past_plainly : (past : Trace) → Plainly (λ z. z.past ≡ past)
unfolding carry_decision
past_plainly past =
    record {
      effects = record {
        ends = λ x e h. h;
        signals = λ x q s h. h;
        moves = λ x m h. h;
        grants = λ x k h. h;
        starts = λ x s h. h;
        replies = λ x j r h. h;
        calls = λ x s path q o op has h. h;
      };
      inputs = λ x i wake bare h. h;
      begins = λ x text k n a wake bare says is h. h;
    }

pub failed_is_told : (st : Setting) (past : Trace) (now c p : ℕ) → stands_for past c ≡ Some p → IsSentBy p Term (due_step st past now (Spawned c false))
unfolding due_step before_input after_input take_input
failed_is_told st past now c p stands =
    let y : Step = with_input (Spawned c false) (at_input st past now) in
    let same : (at_input st past now).past ≡ past =
    (head_keeps (λ z. z.past ≡ past) (other_acts (λ z. z.past ≡ past) (plain_acts (λ z. z.past ≡ past) (past_plainly past))) st past now (ap (λ (z : Step). z.past) (begun_says st past now).is)).kept
    in
    last_keeps (IsSentBy p Term) (other_acts (IsSentBy p Term) (plain_acts (IsSentBy p Term) (sent_plainly p Term))) (on_spawned c false y) (told_instead y c p (ap (λ t. stands_for t c) same ∙ stands))
