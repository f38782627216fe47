-- A stop tells each holder of its session to stop, and refuses its jobs.
use Rattle.sl_due_facts.proofs.Acts.LoopsKeep.{for_each_keeps}
use Rattle.sl_due_facts.specs.Acts.TraceSoFar.{entry_of}
use Rattle.sl_due.specs.DueRecovery.{send, signal_and_refuse, signal_holders}
use Rattle.sl_due.specs.Steps.{Step, add_reply, add_signal, add_start, for_each, seen}
use Rattle.sl_due_facts.proofs.Jobs.EffectsAreAllowed.{stopped}
use Rattle.sl_due_facts.proofs.Jobs.JobFactsGrow.{contains_left, contains_right}
use Rattle.sl_run.specs.LawfulRecovery.{IsToldToStop, StopsSession}
use Rattle.sl_trace.specs.Counts.{child_count}
use Rattle.sl_trace.specs.KillPrograms.{stopper_of, kill_program_of}
use Rattle.sl_trace.specs.Jobs.{jobs_of_session}
use Rattle.sl_words.proofs.Lists.{contains_cases, contains_first, contains_none, kept}
use Rattle.sl_words.proofs.Options.{then_value}
use Rattle.sl_trace.specs.Sessions.{holders_of, last_renewal}
use Rattle.sl_trace.specs.declared.session.Session.{Session}
use Rattle.sl_trace.specs.EffectTexts.{is_ok_reply}
use Rattle.sl_trace.specs.CountLimits.{most_children}
use Rattle.sl_trace.specs.Traces.{Job, Setting, Trace, next_child}
use Rattle.sl_trace.specs.declared.effects.Effects.{Effects}
use Rattle.sl_trace.specs.declared.effects.Sent.{Sent}
use Rattle.sl_trace.specs.declared.effects.Signal.{Signal}
use Rattle.sl_trace.specs.declared.effects.Signal.TheVariants.{Term}
use Rattle.sl_trace.specs.declared.effects.Start.{Start}
use Rattle.sl_trace.specs.declared.reply.Reply.{Reply}
use Rattle.sl_trace.specs.declared.reply.Reply.TheVariants.{Recovering}
use Rattle.sl_words.proofs.WordLaws.{choose_some}
use Rattle.sl_words.specs.Words.{choose, some_is}
use Rattle.std.proofs.Common.{ap, inl, inr, refl, subst, sym, ◌∙◌}
use Rattle.std.proofs.lemmas.Bool.{eqb-true}
use Rattle.std.specs.Prelude.{Bool, Contains, IsFalse, List, None, Option, Some, [], false, filter, nat_le, not, true, ℕ, ◌++◌, ◌==◌, ◌∷◌, ◌≡◌, ◌⊎◌}

-- ---- holders

-- The step with these signals and starts.
abbrev pub with_sent : Step → List Sent → List Start → Step
with_sent x signals starts = let fx : Effects = x.effects in record x { effects = record fx { signals = signals; starts = starts } }

-- It has come on by signals and starts alone.
pub record Sends (x y : Step) : Type 0 where
  pub signals : List Sent
  pub starts : List Start
  pub is : y ≡ with_sent x signals starts

pub sends_itself : (x : Step) → Sends x x
sends_itself x = record { signals = x.effects.signals; starts = x.effects.starts; is = refl }

signal_sends : (x y : Step) (p : ℕ) (g : Signal) → Sends x y → Sends x (add_signal p g y)
signal_sends x y p g h = record { signals = h.signals ++ record { process = p; signal = g } ∷ []; starts = h.starts; is = ap (λ z. add_signal p g z) h.is }

start_sends : (x y : Step) (k : Start) → Sends x y → Sends x (add_start k y)
start_sends x y k h = record { signals = h.signals; starts = h.starts ++ k ∷ []; is = ap (λ z. add_start k z) h.is }

pub term_sends : (x y : Step) (p : ℕ) → Sends x y → Sends x (send p Term y)
term_sends x y p h = by (stopper_of y.setting (seen y) p) where
  by : (o : Option (List ℕ))
      → Sends x (elim o as (λ z. Step) [ None ↦ add_signal p Term y | Some program ↦ add_start (record { process = next_child (seen y); program = program; job = None; stands_for = Some p }) y ])
  by None = signal_sends x y p Term h
  by (Some program) = start_sends x y (record { process = next_child (seen y); program = program; job = None; stands_for = Some p }) h

pub stop_sends : (x : Step) (s : Session) → Sends x (signal_holders Term s x)
stop_sends x s = for_each_keeps (Sends x) (holders_of (seen x) s) (λ p. send p Term) x (λ p there z h. term_sends x z p h) (sends_itself x)

-- The kill programs are still those of before the step.
abbrev pub KeepsPrograms : Step → Type 0
KeepsPrograms x = (p : ℕ) → kill_program_of x.setting (seen x) p ≡ kill_program_of x.setting x.past p

abbrev pub ToldBy : Setting → Trace → ℕ → Step → Type 0
ToldBy st past p z = IsToldToStop st past (entry_of z) p

signal_told : (st : Setting) (past : Trace) (p : ℕ) (z : Step) (q : ℕ) (g : Signal) → ToldBy st past p z → ToldBy st past p (add_signal q g z)
signal_told st past p z q g (inl sent) = inl (contains_left z.effects.signals (record { process = q; signal = g } ∷ []) (record { process = p; signal = Term }) sent)
signal_told st past p z q g (inr stopped) = inr stopped

start_told : (st : Setting) (past : Trace) (p : ℕ) (z : Step) (k : Start) → ToldBy st past p z → ToldBy st past p (add_start k z)
start_told st past p z k (inl sent) = inl sent
start_told st past p z k (inr stopped) = inr (stopped.0, contains_left z.effects.starts (k ∷ []) stopped.0 stopped.1, stopped.2, stopped.3)

term_told : (st : Setting) (past : Trace) (p : ℕ) (z : Step) (q : ℕ) → ToldBy st past p z → ToldBy st past p (send q Term z)
term_told st past p z q h = by (stopper_of z.setting (seen z) q) where
  by : (o : Option (List ℕ))
      → ToldBy st past p (elim o as (λ w. Step) [ None ↦ add_signal q Term z | Some program ↦ add_start (record { process = next_child (seen z); program = program; job = None; stands_for = Some q }) z ])
  by None = signal_told st past p z q Term h
  by (Some program) = start_told st past p z (record { process = next_child (seen z); program = program; job = None; stands_for = Some q }) h

-- Who is sent term, or whose kill program is started, is told.
tells : (x y : Step) (p : ℕ) → KeepsPrograms x → Sends x y → ToldBy x.setting x.past p (send p Term y)
tells x y p programs h = by (stopper_of y.setting (seen y) p) refl where
  same : kill_program_of y.setting (seen y) p ≡ kill_program_of x.setting x.past p
  same = ap (λ (z : Step). kill_program_of z.setting (seen z) p) h.is ∙ programs p

  by : (o : Option (List ℕ)) → stopper_of y.setting (seen y) p ≡ o
      → ToldBy x.setting x.past p (elim o as (λ w. Step) [ None ↦ add_signal p Term y | Some program ↦ add_start (record { process = next_child (seen y); program = program; job = None; stands_for = Some p }) y ])
  by None is = inl (contains_right y.effects.signals (record { process = p; signal = Term } ∷ []) (record { process = p; signal = Term }) (contains_first (record { process = p; signal = Term }) []))
  by (Some program) is =
      let found = then_value (λ (w : List ℕ). choose (not (nat_le most_children (child_count y.setting (seen y)))) w) (kill_program_of y.setting (seen y) p) program is in
      let chosen = choose_some (not (nat_le most_children (child_count y.setting (seen y)))) found.0 program found.2 in
      let k : Start = record { process = next_child (seen y); program = program; job = None; stands_for = Some p } in
      inr (k, contains_right y.effects.starts (k ∷ []) k (contains_first k []), refl, sym same ∙ (found.1 ∙ ap (λ w. Some w) chosen.1))

each_told : (x : Step) (ps : List ℕ) (y : Step) (p : ℕ) → KeepsPrograms x → Sends x y → Contains ps p → ToldBy x.setting x.past p (for_each ps (λ q. send q Term) y)
each_told x [] y p programs h there = absurd (contains_none p there)
each_told x (q ∷ qs) y p programs h there = by (contains_cases q qs p there) (λ old. each_told x qs (send q Term y) p programs (term_sends x y q h) old) where
  by : (q ≡ p) ⊎ Contains qs p → (Contains qs p → ToldBy x.setting x.past p (for_each qs (λ r. send r Term) (send q Term y))) → ToldBy x.setting x.past p (for_each qs (λ r. send r Term) (send q Term y))
  by (inr old) more = more old
  by (inl is) more =
      for_each_keeps (ToldBy x.setting x.past p) qs (λ r. send r Term) (send q Term y) (λ r inside z k. term_told x.setting x.past p z r k)
      (subst (λ r. ToldBy x.setting x.past p (send r Term y)) (sym is) (tells x y p programs h))

-- ---- jobs

each_refused : (js : List Job) (r : Reply) (y : Step) (j : Job) → Contains js j → Contains (for_each js (λ i. add_reply i.number r) y).effects.replies (record { job = j.number; reply = r })
each_refused [] r y j there = absurd (contains_none j there)
each_refused (i ∷ is) r y j there = by (contains_cases i is j there) (λ old. each_refused is r (add_reply i.number r y) j old) where
  by : (i ≡ j) ⊎ Contains is j → (Contains is j → Contains (for_each is (λ k. add_reply k.number r) (add_reply i.number r y)).effects.replies (record { job = j.number; reply = r }))
      → Contains (for_each is (λ k. add_reply k.number r) (add_reply i.number r y)).effects.replies (record { job = j.number; reply = r })
  by (inr old) more = more old
  by (inl same) more =
      for_each_keeps (λ z. Contains z.effects.replies (record { job = j.number; reply = r })) is (λ k. add_reply k.number r) (add_reply i.number r y)
      (λ k inside z h. contains_left z.effects.replies (record { job = k.number; reply = r } ∷ []) (record { job = j.number; reply = r }) h)
      (subst (λ (k : Job). Contains (add_reply k.number r y).effects.replies (record { job = j.number; reply = r })) (sym same)
      (contains_right y.effects.replies (record { job = j.number; reply = r } ∷ []) (record { job = j.number; reply = r }) (contains_first (record { job = j.number; reply = r }) [])))

-- A job that was refused in this step.
abbrev pub IsRefusedIn : Step → Job → Type 0
IsRefusedIn x j = (r : Reply) × Contains x.effects.replies (record { job = j.number; reply = r }) × IsFalse (is_ok_reply r)

-- ---- the stop

pub stopped_session : (x : Step) (s : Session) (kept_one : Option ℕ) → KeepsPrograms x → ((p : ℕ) → Contains (holders_of x.past s) p → Contains (holders_of (seen x) s) p)
    → ((j : Job) → Contains (jobs_of_session x.setting x.past s) j → Contains (jobs_of_session x.setting (seen x) s) j ⊎ IsRefusedIn x j)
    → StopsSession x.setting x.past (entry_of (signal_and_refuse s kept_one x)) s kept_one
unfolding signal_and_refuse
stopped_session x s kept_one programs holders jobs = record { term = term; refused = λ j there other. refused j other (jobs j there) } where
  z : Step
  z = signal_holders Term s x

  sends : Sends x (signal_holders Term s x)
  sends = stop_sends x s

  r : Reply
  r = Recovering (last_renewal (signal_holders Term s x).setting (seen (signal_holders Term s x)) s)

  chosen : Job → Bool
  chosen j = not (some_is (λ k. k == j.number) kept_one)

  js : List Job
  js = filter (λ (j : Job). not (some_is (λ k. k == j.number) kept_one)) (jobs_of_session (signal_holders Term s x).setting (seen (signal_holders Term s x)) s)

  term : (p : ℕ) → Contains (holders_of x.past s) p → ToldBy x.setting x.past p (for_each js (λ j. add_reply j.number r) (signal_holders Term s x))
  term p there =
      for_each_keeps (ToldBy x.setting x.past p) js (λ j. add_reply j.number r) (signal_holders Term s x) (λ j inside w h. h)
      (each_told x (holders_of (seen x) s) x p programs (sends_itself x) (holders p there))

  not_the_one : (j : Job) → (Some j.number ≡ kept_one → ⊥) → (o : Option ℕ) → kept_one ≡ o → not (some_is (λ k. k == j.number) o) ≡ true
  not_the_one j other None is = refl
  not_the_one j other (Some k) is = by (k == j.number) refl where
    by : (b : Bool) → (k == j.number) ≡ b → not b ≡ true
    by true same = absurd (other (ap (λ n. Some n) (sym (eqb-true k j.number same)) ∙ sym is))
    by false same = refl

  refused : (j : Job) → (Some j.number ≡ kept_one → ⊥) → Contains (jobs_of_session x.setting (seen x) s) j ⊎ IsRefusedIn x j → IsRefusedIn (for_each js (λ k. add_reply k.number r) (signal_holders Term s x)) j
  refused j other (inl runs) =
      let there : Contains (jobs_of_session (signal_holders Term s x).setting (seen (signal_holders Term s x)) s) j = subst (λ (w : Step). Contains (jobs_of_session w.setting (seen w) s) j) (sym sends.is) runs in
      (r, each_refused js r (signal_holders Term s x) j (kept (λ (k : Job). not (some_is (λ n. n == k.number) kept_one)) (jobs_of_session (signal_holders Term s x).setting (seen (signal_holders Term s x)) s) j (not_the_one j other kept_one refl) there), refl)
  refused j other (inr was) = (
    was.0,
    for_each_keeps (λ w. Contains w.effects.replies (record { job = j.number; reply = was.0 })) js (λ k. add_reply k.number r) (signal_holders Term s x)
        (λ k inside w h. contains_left w.effects.replies (record { job = k.number; reply = r } ∷ []) (record { job = j.number; reply = was.0 }) h)
        (subst (λ (w : Step). Contains w.effects.replies (record { job = j.number; reply = was.0 })) (sym sends.is) was.1),
    was.2,
  )
