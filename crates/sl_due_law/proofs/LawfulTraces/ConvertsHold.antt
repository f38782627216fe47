-- What a conversion converts is held as long as its call has no answer: what each effect leaves of that.
use Rattle.sl_due_facts.proofs.Acts.LoopsKeep.{for_each_keeps}
use Rattle.sl_due_facts.specs.Acts.TraceSoFar.{entry_of}
use Rattle.sl_due.specs.DueInputs.{end_holdings, leave_holdings, refuse_jobs_of}
use Rattle.sl_due.specs.Steps.{Step, add_call_of, add_end, add_grant, add_move, add_reply, add_signal, add_start, seen, with_input}
use Rattle.sl_due_leases.proofs.Grants.OthersGoOn.{CallsOn, GoesOn, next_start}
use Rattle.sl_due_leases.proofs.Grants.Values.ReadsBack.{end_spares}
use Rattle.sl_due_facts.proofs.Jobs.JobsAreNumbered.{found_before}
use Rattle.sl_due_leases.proofs.Grants.Values.ReadsByInputs.{child_kept, child_same, failed_child, found_after, has_number, others_spared}
use Rattle.sl_due_leases.proofs.Grants.WorksByEffects.{ran_before}
use Rattle.sl_due_leases.proofs.Grants.WorksByExits.{Leaving, left_so, refused_so, refused_there}
use Rattle.sl_due_leases.proofs.Grants.WorksByGrants.{NobodyWorksAt}
use Rattle.sl_due_leases.proofs.Grants.WorksByInputs.{command_was, unanswered}
use Rattle.sl_due_leases.proofs.Holdings.HoldingsByCalls.{call_added}
use Rattle.sl_due_leases.proofs.Holdings.HoldingsByEffects.{SameCalls}
use Rattle.sl_due_leases.proofs.Holdings.HoldingsByInputs.{calls_stay, calls_told, is_no_answer}
use Rattle.sl_due_leases.proofs.Holdings.LeaseConversions.{spot_is}
use Rattle.sl_due_facts.proofs.AddedEffects.EffectsAreTold.{effects_are_told}
use Rattle.sl_due_facts.specs.Facts.JobFacts.{JobFacts}
use Rattle.sl_due_facts.specs.Facts.HeardCall.{heard_by}
use Rattle.sl_due_law.specs.LawfulTraces.JobLore.{Converting, HoldsThere}
use Rattle.sl_run.specs.LawfulArea.{is_area_work}
use Rattle.sl_trace.specs.Jobs.{command_numbered, is_job_of_process}
use Rattle.sl_trace.specs.Leases.{spot_of_call}
use Rattle.sl_words.proofs.Lists.{contains_cases, find_inside, in_map, kept_inside}
use Rattle.sl_trace.proofs.TraceFacts.{submitted-push}
use Rattle.sl_trace.specs.Traces.{Child, FollowsTrace, Setting, Submitted, Trace, answered_in, child_after, child_numbered, children, end_of, first_child, holdings, is_running, job_of, new_call, new_child, orphans_left, running_jobs, same_place, spot_of_grant, submitted}
use Rattle.sl_trace.specs.declared.command.Command.TheVariants.{Convert}
use Rattle.sl_trace.specs.declared.command.ResourceArg.{ResourceArg}
use Rattle.sl_trace.specs.declared.effects.Call.{Call}
use Rattle.sl_trace.specs.declared.effects.Entry.{Entry}
use Rattle.sl_trace.specs.declared.effects.Grant.{Grant}
use Rattle.sl_trace.specs.declared.effects.LeaseStep.{LeaseStep}
use Rattle.sl_trace.specs.declared.effects.Move.{Move}
use Rattle.sl_trace.specs.declared.effects.Op.{Op}
use Rattle.sl_trace.specs.declared.effects.Signal.{Signal}
use Rattle.sl_trace.specs.declared.effects.Purpose.TheVariants.{Lease}
use Rattle.sl_trace.specs.declared.effects.Purpose.{Purpose}
use Rattle.sl_trace.specs.declared.effects.Spot.{Spot}
use Rattle.sl_trace.specs.declared.effects.Start.{Start}
use Rattle.sl_trace.specs.declared.effects.Work.TheVariants.{ForJob}
use Rattle.sl_trace.specs.declared.input.Answer.{Answer}
use Rattle.sl_trace.specs.declared.input.Input.TheVariants.{Answer as Told, Exit, Spawned, Wake}
use Rattle.sl_trace.specs.declared.input.Input.{Input}
use Rattle.sl_trace.specs.declared.reply.Reply.TheVariants.{NoProcess}
use Rattle.sl_trace.specs.declared.reply.Reply.{Reply}
use Rattle.sl_run_law.proofs.Sessions.CallsAreMade.{same_answered}
use Rattle.sl_words.proofs.CaseLaws.{false_is_true, is_false, one_value, some_value, true_is_false}
use Rattle.sl_words.proofs.WordLaws.{and_true}
use Rattle.std.proofs.Common.{ap, arith, inl, inr, refl, subst, sym, ◌∙◌}
use Rattle.std.proofs.lemmas.Bool.{eqb-true}
use Rattle.std.proofs.lemmas.List.Elements.{Contains-append_left}
use Rattle.std.specs.Prelude.{Bool, Contains, List, Option, Some, [], cond, false, filter, find, length, map, true, ℕ, ◌&&◌, ◌++◌, ◌<◌, ◌==◌, ◌∷◌, ◌≡◌, ◌≤◌, ◌⊎◌}

abbrev pub ConvertsNow : Step → Type 0
ConvertsNow x = Converting x.setting (seen x)

-- ---- one holding

-- The same for a call of the same place and session.
pub holds_as : (st : Setting) (t : Trace) (m n : Submitted) (p : ℕ) → m.call.session ≡ n.call.session → spot_of_call st.layout m ≡ spot_of_call st.layout n → HoldsThere st t m p → HoldsThere st t n p
holds_as st t m n p session spot h =
    record {
      holding = h.holding;
      held = h.held;
      mine = h.mine ∙ session;
      there = subst (λ (z : Spot). same_place h.holding.path h.holding.offset z.path z.base ≡ true) spot h.there;
      its = h.its;
      started = h.started;
    }

holds_call : (st : Setting) (t : Trace) (m n : Submitted) (p : ℕ) → m.call ≡ n.call → HoldsThere st t m p → HoldsThere st t n p
holds_call st t m n p same h = holds_as st t m n p (ap (λ (c : Call). c.session) same) (ap (λ c. spot_of_call st.layout (new_call 0 0 c)) same) h

holds_signalled : (y : Step) (m : Submitted) (q p : ℕ) (g : Signal) → HoldsThere y.setting (seen y) m p → HoldsThere y.setting (seen (add_signal q g y)) m p
holds_signalled y m q p g h = record { holding = h.holding; held = h.held; mine = h.mine; there = h.there; its = h.its; started = h.started }

holds_moved : (y : Step) (m : Submitted) (p : ℕ) (move : Move) → HoldsThere y.setting (seen y) m p → HoldsThere y.setting (seen (add_move move y)) m p
holds_moved y m p move h = record { holding = h.holding; held = h.held; mine = h.mine; there = h.there; its = h.its; started = h.started }

holds_replied : (y : Step) (m : Submitted) (p j : ℕ) (r : Reply) → HoldsThere y.setting (seen y) m p → HoldsThere y.setting (seen (add_reply j r y)) m p
holds_replied y m p j r h = record { holding = h.holding; held = h.held; mine = h.mine; there = h.there; its = h.its; started = h.started }

holds_called : (y : Step) (m : Submitted) (p n : ℕ) (path : List ℕ) (q : Purpose) (o : ℕ) (op : Op) → HoldsThere y.setting (seen y) m p → HoldsThere y.setting (seen (add_call_of n path q o op y)) m p
holds_called y m p n path q o op h = record { holding = h.holding; held = h.held; mine = h.mine; there = h.there; its = h.its; started = h.started }

holds_granted : (y : Step) (m : Submitted) (p : ℕ) (g : Grant) → HoldsThere y.setting (seen y) m p → HoldsThere y.setting (seen (add_grant g y)) m p
holds_granted y m p g h =
    record {
      holding = h.holding;
      held = subst (λ hs. Contains hs h.holding) (sym (effects_are_told.grants g (entry_of y) y.past)) (Contains-append_left (holdings (seen y)) (g ∷ []) h.holding h.held);
      mine = h.mine;
      there = h.there;
      its = h.its;
      started = h.started;
    }

holds_started : (y : Step) (m : Submitted) (p : ℕ) (program : List ℕ) (job stood : Option ℕ) → HoldsThere y.setting (seen y) m p → HoldsThere y.setting (seen (add_start (next_start y program job stood) y)) m p
holds_started y m p program job stood h = record { holding = h.holding; held = h.held; mine = h.mine; there = h.there; its = h.its; started = by h.started } where
  v : Start
  v = next_start y program job stood

  by : (p < first_child) ⊎ ((k : Child) × (child_numbered (seen y) p ≡ Some k) × (k.answer ≡ Some true))
      → (p < first_child) ⊎ ((k : Child) × (child_numbered (seen (add_start (next_start y program job stood) y)) p ≡ Some k) × (k.answer ≡ Some true))
  by (inl low) = inl low
  by (inr c) = inr (c.0, ap (λ ks. find (has_number p) ks) (effects_are_told.starts v (entry_of y) y.past) ∙ found_before (has_number p) (children (seen y)) (new_child v ∷ []) c.0 c.1, c.2)

holds_ended : (y : Step) (m : Submitted) (p : ℕ) (e : Grant) → (h : HoldsThere y.setting (seen y) m p) → ((end_of e).process == h.holding.process && same_place e.path e.offset h.holding.path h.holding.offset) ≡ false
    → HoldsThere y.setting (seen (add_end (end_of e) y)) m p
holds_ended y m p e h other = record { holding = h.holding; held = end_spares y (end_of e) h.holding other h.held; mine = h.mine; there = h.there; its = h.its; started = h.started }

-- A child that was started stays one.
started_child : (i : Input) (n : ℕ) (ks ns : List Child) (k : Child) → find (has_number n) (map (child_after Wake) ks ++ ns) ≡ Some k → k.answer ≡ Some true
    → (c : Child) × (find (has_number n) (map (child_after i) ks ++ ns) ≡ Some c) × (c.answer ≡ Some true)
started_child i n [] ns k is on = (k, is, on)
started_child i n (d ∷ ks) ns k is on = by (d.process == n) refl (λ rest. started_child i n ks ns k rest on) where
  was : (b : Bool) → (d.process == n) ≡ b → cond b (Some d) (find (has_number n) (map (child_after Wake) ks ++ ns)) ≡ Some k
  was b at = ap (λ z. cond z (Some d) (find (has_number n) (map (child_after Wake) ks ++ ns))) (sym at) ∙ is

  then : (b : Bool) → (d.process == n) ≡ b → (o : Option Child) → cond b (Some (child_after i d)) (find (has_number n) (map (child_after i) ks ++ ns)) ≡ o
      → find (has_number n) (map (child_after i) (d ∷ ks) ++ ns) ≡ o
  then b at o found = ap (λ z. cond z (Some (child_after i d)) (find (has_number n) (map (child_after i) ks ++ ns))) (ap (λ m. m == n) (child_same i d) ∙ at) ∙ found

  by : (b : Bool) → (d.process == n) ≡ b
      → (find (has_number n) (map (child_after Wake) ks ++ ns) ≡ Some k → (c : Child) × (find (has_number n) (map (child_after i) ks ++ ns) ≡ Some c) × (c.answer ≡ Some true))
      → (c : Child) × (find (has_number n) (map (child_after i) (d ∷ ks) ++ ns) ≡ Some c) × (c.answer ≡ Some true)
  by true at rest = (child_after i d, then true at (Some (child_after i d)) refl, child_kept i d (ap (λ (z : Child). z.answer) (some_value d k (was true at)) ∙ on))
  by false at rest = let c = rest (was false at) in (c.0, then false at (Some c.0) c.1, c.2)

pub holds_seen : (x : Step) (i : Input) (m : Submitted) (p : ℕ) → x.input ≡ Wake → HoldsThere x.setting (seen x) m p → HoldsThere x.setting (seen (with_input i x)) m p
holds_seen x i m p wake h = record { holding = h.holding; held = h.held; mine = h.mine; there = h.there; its = h.its; started = by h.started } where
  by : (p < first_child) ⊎ ((k : Child) × (child_numbered (seen x) p ≡ Some k) × (k.answer ≡ Some true)) → (p < first_child) ⊎ ((k : Child) × (child_numbered (seen (with_input i x)) p ≡ Some k) × (k.answer ≡ Some true))
  by (inl low) = inl low
  by (inr c) =
      inr (started_child i p (children x.past) (map new_child x.effects.starts) c.0
      (ap (λ j. find (has_number p) (map (child_after j) (children x.past) ++ map new_child x.effects.starts)) (sym wake) ∙ c.1) c.2)

-- From before an entry that has ended and granted nothing.
pub holds_on : (x : Step) (b m : Submitted) (p : ℕ) → b.call ≡ m.call → holdings (seen x) ≡ holdings x.past → HoldsThere x.setting x.past b p → HoldsThere x.setting (seen x) m p
holds_on x b m p same held h =
    holds_call x.setting (seen x) b m p same
    (record { holding = h.holding; held = subst (λ gs. Contains gs h.holding) (sym held) h.held; mine = h.mine; there = h.there; its = h.its; started = by h.started })
  where
    by : (p < first_child) ⊎ ((k : Child) × (child_numbered x.past p ≡ Some k) × (k.answer ≡ Some true)) → (p < first_child) ⊎ ((k : Child) × (child_numbered (seen x) p ≡ Some k) × (k.answer ≡ Some true))
    by (inl low) = inl low
    by (inr c) =
        inr (child_after x.input c.0, found_after x.input p (children x.past) (map new_child x.effects.starts) c.0 c.1, child_kept x.input c.0 c.2)

-- ---- effects

pub signal_converting : (x : Step) (q : ℕ) (g : Signal) → ConvertsNow x → ConvertsNow (add_signal q g x)
signal_converting x q g h m j step r shared p there unmet purpose runs named = holds_signalled x m q p g (h m j step r shared p there unmet purpose runs named)

move_converting : (x : Step) (move : Move) → ConvertsNow x → ConvertsNow (add_move move x)
move_converting x move h m j step r shared p there unmet purpose runs named = holds_moved x m p move (h m j step r shared p there unmet purpose runs named)

pub reply_converting : (x : Step) (i : ℕ) (why : Reply) → SameCalls x.past (entry_of x) (record { job = i; reply = why }) → ConvertsNow x → ConvertsNow (add_reply i why x)
reply_converting x i why same h m j step r shared p there unmet purpose runs named =
    holds_replied x m p i why
    (h m j step r shared p (subst (λ ms. Contains ms m) same there) unmet purpose (ran_before x.past (entry_of x) (record { job = i; reply = why }) j runs) named)

start_converting : (x : Step) (program : List ℕ) (job stood : Option ℕ) → ConvertsNow x → ConvertsNow (add_start (next_start x program job stood) x)
start_converting x program job stood h m j step r shared p there unmet purpose runs named = holds_started x m p program job stood (h m j step r shared p there unmet purpose runs named)

pub grant_converting : (x : Step) (g : Grant) → ConvertsNow x → ConvertsNow (add_grant g x)
grant_converting x g h m j step r shared p there unmet purpose runs named = holds_granted x m p g (h m j step r shared p there unmet purpose runs named)

-- An end where nobody works.
pub end_converting : (x : Step) (e : Grant) → NobodyWorksAt x e → ConvertsNow x → ConvertsNow (add_end (end_of e) x)
end_converting x e nobody h m j step r shared p there unmet purpose runs named =
    let w : HoldsThere x.setting (seen x) m p = h m j step r shared p there unmet purpose runs named in
    holds_ended x m p e w (is_false ((end_of e).process == w.holding.process && same_place e.path e.offset w.holding.path w.holding.offset) (λ is.
    let same : spot_of_grant e ≡ spot_of_grant w.holding = spot_is e (spot_of_grant w.holding) (and_true ((end_of e).process == w.holding.process) (same_place e.path e.offset w.holding.path w.holding.offset) is).1 in
    nobody m j step there unmet purpose
    (subst (λ (z : Spot). same_place z.path z.base (spot_of_call x.setting.layout m).path (spot_of_call x.setting.layout m).base ≡ true) (sym same) w.there)))

-- One more call: of a conversion whose process holds there, or of none.
pub call_converting : (x : Step) (n : ℕ) (path : List ℕ) (q : Purpose) (o : ℕ) (op : Op)
    → ((j : ℕ) (step : LeaseStep) (r : ResourceArg) (shared : Bool) (p : ℕ) → q ≡ Lease (ForJob j) step → is_running (seen x) j ≡ true → command_numbered x.setting (seen x) j ≡ Some (Convert r shared p)
    → HoldsThere x.setting (seen x) (new_call (length x.past) x.reading (call_added n path q o op x)) p) → ConvertsNow x → ConvertsNow (add_call_of n path q o op x)
call_converting x n path q o op new h m j step r shared p there unmet purpose runs named =
    by (contains_cases v (submitted (seen x)) m (subst (λ ms. Contains ms m) (submitted-push x.past (entry_of x) (call_added n path q o op x)) there)) where
      v : Submitted
      v = new_call (length x.past) x.reading (call_added n path q o op x)

      by : (new_call (length x.past) x.reading (call_added n path q o op x) ≡ m) ⊎ Contains (submitted (seen x)) m → HoldsThere x.setting (seen (add_call_of n path q o op x)) m p
      by (inr old) = holds_called x m p n path q o op (h m j step r shared p old unmet purpose runs named)
      by (inl is) =
          holds_called x m p n path q o op
          (subst (λ d. HoldsThere x.setting (seen x) d p) is (new j step r shared p (ap (λ (d : Submitted). d.call.purpose) is ∙ purpose) runs named))

abbrev is_lease : Purpose → Bool
is_lease (Lease work step) = true
is_lease p = false

pub other_call_converting : (x : Step) (n : ℕ) (path : List ℕ) (q : Purpose) (o : ℕ) (op : Op) → ((j : ℕ) (step : LeaseStep) → q ≡ Lease (ForJob j) step → ⊥) → ConvertsNow x → ConvertsNow (add_call_of n path q o op x)
other_call_converting x n path q o op none h = call_converting x n path q o op (λ j step r shared p is runs named. absurd (none j step is)) h

pub converting_go_on : GoesOn ConvertsNow
converting_go_on =
    record {
      signals = λ x p g h. signal_converting x p g h;
      moves = λ x m h. move_converting x m h;
      starts = λ x program job stood h. start_converting x program job stood h;
      replies = λ x j r same h. reply_converting x j r same h;
    }

pub plain_call_converting : CallsOn ConvertsNow ConvertsNow
plain_call_converting x s path p o op plain later h = other_call_converting x s.number path p o op (λ j step is. true_is_false (sym (ap (λ q. is_area_work q) is) ∙ plain)) h

-- ---- inputs

pub input_converting : (x : Step) (i : Input) → x.input ≡ Wake → x.effects.calls ≡ [] → is_no_answer i ≡ true → JobFacts x.setting (seen x) (heard_by x.input) → ConvertsNow x → ConvertsNow (with_input i x)
input_converting x i wake bare other jobs h m j step r shared p there unmet purpose runs named =
    let old : Contains (submitted (seen x)) m = subst (λ ms. Contains ms m) (calls_stay x i wake bare other) there in
    holds_seen x i m p wake
    (h m j step r shared p old unmet purpose runs (command_was x i j (Convert r shared p) wake (jobs.called m j old (ap (λ p. job_of p) purpose)) named))

pub answer_converting : (x : Step) (n : ℕ) (w : Answer) → x.input ≡ Wake → x.effects.calls ≡ [] → JobFacts x.setting (seen x) (heard_by x.input) → ConvertsNow x → ConvertsNow (with_input (Told n w) x)
answer_converting x n w wake bare jobs h m j step r shared p there unmet purpose runs named =
    let e : Entry = entry_of (with_input (Told n w) x) in
    let v = in_map (answered_in x.past e n w) (submitted (seen x)) m (subst (λ ms. Contains ms m) (calls_told x n w wake bare) there) in
    let same : v.0.call ≡ m.call = sym (same_answered x.past e n w v.0).call ∙ ap (λ (z : Submitted). z.call) v.2 in
    let was : v.0.call.purpose ≡ Lease (ForJob j) step = ap (λ (c : Call). c.purpose) same ∙ purpose in
    holds_call x.setting (seen (with_input (Told n w) x)) v.0 m p same
    (holds_seen x (Told n w) v.0 p wake
    (h v.0 j step r shared p v.1 (unanswered x.past e n w v.0 (ap (λ (z : Submitted). z.answer) v.2 ∙ unmet)) was runs
    (command_was x (Told n w) j (Convert r shared p) wake (jobs.called v.0 j v.1 (ap (λ p. job_of p) was)) named)))

-- ---- an exit

-- What one process holds stays when another's holdings end.
abbrev Still : Setting → Submitted → ℕ → Step → Type 0
Still st m p z = (z.setting ≡ st) × HoldsThere z.setting (seen z) m p

exit_holds : (st : Setting) (y : Step) (m : Submitted) (q p : ℕ) → (q == p) ≡ false → Still st m p y → Still st m p (refuse_jobs_of q (leave_holdings q y))
unfolding leave_holdings
exit_holds st y m q p other h = refused (leave_holdings q y) left where
  ended : Still st m p (end_holdings q y)
  ended =
      for_each_keeps (Still st m p) (filter (λ (e : Grant). e.process == q) (holdings (seen y))) (λ e. add_end (end_of e)) y
      (λ e there z k. (
        k.0,
        holds_ended z m p e k.1 (others_spared e k.1.holding q p (eqb-true e.process q (kept_inside (λ (e : Grant). e.process == q) (holdings (seen y)) e there).1) k.1.its other),
      )) h

  left : Still st m p (leave_holdings q y)
  left = for_each_keeps (Still st m p) (orphans_left q (holdings (seen y))) add_grant (end_holdings q y) (λ e there z k. (k.0, holds_granted z m p e k.1)) ended

  refused : (z : Step) → Still st m p z → Still st m p (refuse_jobs_of q z)
  refused z k =
      for_each_keeps (Still st m p) (filter (is_job_of_process (seen z) q) (running_jobs z.setting (seen z))) (λ j. add_reply j.number (NoProcess q)) z
      (λ j there v u. (u.0, holds_replied v m p j.number (NoProcess q) u.1)) k

pub exit_converting : (x : Step) (q : ℕ) → x.input ≡ Wake → x.effects.calls ≡ [] → JobFacts x.setting (seen x) (heard_by x.input) → ConvertsNow x → ConvertsNow (refuse_jobs_of q (leave_holdings q (with_input (Exit q) x)))
exit_converting x q wake bare jobs h = subst (λ st. Converting st (seen u)) (sym all.setting) here where
  y : Step
  y = with_input (Exit q) x

  z : Step
  z = leave_holdings q y

  u : Step
  u = refuse_jobs_of q z

  mid : Leaving (with_input (Exit q) x) q (leave_holdings q (with_input (Exit q) x))
  mid = left_so y q refl

  all : Leaving (with_input (Exit q) x) q (refuse_jobs_of q (leave_holdings q (with_input (Exit q) x)))
  all = refused_so y q z mid

  here : Converting x.setting (seen (refuse_jobs_of q (leave_holdings q (with_input (Exit q) x))))
  here m j step r shared p there unmet purpose runs named =
      let was : command_numbered x.setting (seen y) j ≡ Some (Convert r shared p) = sym (all.commands j) ∙ named in
      let before : HoldsThere x.setting (seen y) m p =
      input_converting x (Exit q) wake bare refl jobs h m j step r shared p (subst (λ ms. Contains ms m) all.calls there) unmet purpose (all.ran j runs) was in
      let other : (q == p) ≡ false = is_false (q == p) (λ same.
      refused_there z q j (Convert r shared p) runs (subst (λ st. command_numbered st (seen z) j ≡ Some (Convert r shared p)) (sym mid.setting) (mid.commands j ∙ was)) (ap (λ n. Some n) (sym (eqb-true q p same)))) in
      let k : Still x.setting m p u = exit_holds x.setting y m q p other (refl, before) in
      subst (λ st. HoldsThere st (seen u) m p) k.0 k.1

-- ---- a start that failed

abbrev Failing : Step → ℕ → Step → Type 0
Failing x q z = ConvertsNow z × ((k : Child) × (child_numbered (seen z) q ≡ Some k) × (k.answer ≡ Some false))

apart : (p q n : ℕ) → p < n → n ≤ q → q ≡ p → ⊥
apart p q n low high is = omega (arith, low, high, is)

pub failed_converting : (x : Step) (q : ℕ) → x.input ≡ Spawned q false → FollowsTrace x.setting x.past (entry_of x) → ((k : Child) → Contains (children (seen x)) k → first_child ≤ k.process) → ConvertsNow x → ConvertsNow (end_holdings q x)
failed_converting x q input follows above h =
    (for_each_keeps (Failing x q) (filter (λ (e : Grant). e.process == q) (holdings (seen x))) (λ e. add_end (end_of e)) x
    (λ e there z k. (ended z e (eqb-true e.process q (kept_inside (λ (e : Grant). e.process == q) (holdings (seen x)) e there).1) k, k.1)) (h, failed)).0
  where
    failed : (k : Child) × (child_numbered (seen x) q ≡ Some k) × (k.answer ≡ Some false)
    failed = failed_child x q input follows

    high : first_child ≤ q
    high =
        let f = find_inside (has_number q) (children (seen x)) failed.0 failed.1 in subst (λ n. first_child ≤ n) (eqb-true failed.0.process q f.1) (above failed.0 f.0)

    other : (z : Step) (p : ℕ) → Failing x q z → (p < first_child) ⊎ ((k : Child) × (child_numbered (seen z) p ≡ Some k) × (k.answer ≡ Some true)) → q ≡ p → ⊥
    other z p k (inl low) same = apart p q first_child low high same
    other z p k (inr c) same =
        let one : k.1.0 ≡ c.0 = one_value k.1.0 c.0 (child_numbered (seen z) p) (ap (λ n. child_numbered (seen z) n) (sym same) ∙ k.1.1) c.1 in
        false_is_true (some_value false true (sym k.1.2 ∙ (ap (λ (v : Child). v.answer) one ∙ c.2)))

    ended : (z : Step) (e : Grant) → e.process ≡ q → Failing x q z → ConvertsNow (add_end (end_of e) z)
    ended z e its k m j step r shared p there unmet purpose runs named =
        let w : HoldsThere z.setting (seen z) m p = k.0 m j step r shared p there unmet purpose runs named in
        holds_ended z m p e w (others_spared e w.holding q p its w.its (is_false (q == p) (λ same. other z p k w.started (eqb-true q p same))))
