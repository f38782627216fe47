-- A process for which a command is carried out is told: it is no child, or one that was started.
use Rattle.sl_due.specs.DueCommands.{acquiring, busy_refusal, converting, decide_acquire, decide_convert, decide_holder, decide_take_over, decided, holding_of, limit_refusal, pending_refusal, process_refusal, reply_at_once, serving_orphan, session_refusal, setting_value, unless_refused, with_session}
use Rattle.sl_due.specs.Steps.{Step, seen}
use Rattle.sl_due.specs.declared.decision.Decision.{Decision}
use Rattle.sl_due.specs.declared.decision.Decision.TheVariants.{GetsValue, GivesUp, Replies, TakesOver}
use Rattle.sl_due_leases.proofs.Holdings.DecisionsHaveGrounds.{acts}
use Rattle.sl_due_facts.proofs.Jobs.CallsHaveFacts.{find_mapped}
use Rattle.sl_due_facts.proofs.Jobs.JobsAreNumbered.{found_after, found_before}
use Rattle.sl_due_law.specs.Causes.CauseFacts.{IsTold}
use Rattle.sl_trace.specs.Counts.{holds_already, may_act, next_value_seq, other_holder}
use Rattle.sl_trace.specs.KillPrograms.{is_killpath_limit}
use Rattle.sl_trace.specs.Jobs.{process_named, wanted_mode}
use Rattle.sl_trace.specs.Leases.{spot_of}
use Rattle.sl_words.proofs.Lists.{find_inside, in_map}
use Rattle.sl_trace.specs.Sessions.{session_named}
use Rattle.sl_trace.specs.declared.session.Session.{Session}
use Rattle.sl_trace.specs.CountLimits.{most_processes}
use Rattle.sl_trace.specs.Traces.{Child, Setting, Trace, child_after, child_numbered, children, first_child, is_child, is_shared, new_child}
use Rattle.sl_trace.specs.declared.command.Command.{Command}
use Rattle.sl_trace.specs.declared.command.Command.TheVariants.{Acquire, AddLockspace, Convert, GetLvb, HostStatus, InqLockspace, Release, ReleaseOrphan, RemLockspace, Request, RunProgram, SetKillpath, SetLvb, Status, TakeOver}
use Rattle.sl_trace.specs.declared.command.ResourceArg.{ResourceArg}
use Rattle.sl_trace.specs.declared.effects.Entry.{Entry}
use Rattle.sl_trace.specs.declared.effects.Grant.{Grant}
use Rattle.sl_trace.specs.declared.effects.Mode.{Mode}
use Rattle.sl_trace.specs.declared.effects.Start.{Start}
use Rattle.sl_trace.specs.declared.input.Input.{Input}
use Rattle.sl_trace.specs.declared.input.Input.TheVariants.{Answer as Told, Exit, Line, Number, Spawned, Wake}
use Rattle.sl_trace.specs.declared.reply.Limited.TheVariants.{Killpaths}
use Rattle.sl_trace.specs.declared.reply.Reply.{Reply}
use Rattle.sl_trace.specs.declared.reply.Reply.TheVariants.{Busy, Done, Limit as LimitReached, NoOrphan, NoSession, NotHeld}
use Rattle.sl_words.proofs.CaseLaws.{none_some, some_value}
use Rattle.sl_words.proofs.WordLaws.{and_true, some_is_true}
use Rattle.sl_words.specs.Words.{choose, same_truth, some_is}
use Rattle.std.proofs.Common.{ap, arith, inl, inr, refl, subst, sym, ◌∙◌}
use Rattle.std.proofs.lemmas.Bool.{eqb-true, leb-true}
use Rattle.std.specs.Option.{option_map_or, option_or}
use Rattle.std.specs.Prelude.{Bool, Contains, List, None, Option, Some, [], false, find, is_none, map, nat_le, not, option_and_then, option_map, true, ℕ, ◌&&◌, ◌++◌, ◌+◌, ◌==◌, ◌||◌, ◌∷◌, ◌≡◌, ◌≤◌}

-- ---- what a command that is not answered at once has passed

abbrev pub Acting : Trace → ℕ → Decision → Type 0
Acting es p d = reply_at_once d ≡ None → may_act es p ≡ true

replies_act : (es : Trace) (p : ℕ) (r : Reply) → Acting es p (Replies r)
replies_act es p r none = absurd (none_some r (sym none))

or_act : (es : Trace) (p : ℕ) (o : Option Reply) (d : Decision) → (o ≡ None → Acting es p d) → Acting es p (elim o as (λ z. Decision) [ Some why ↦ Replies why | None ↦ d ])
or_act es p (Some why) d h = replies_act es p why
or_act es p None d h = h refl

-- It is asked second, after the session.
second_act : (es : Trace) (p : ℕ) (first : Option Reply) (rest : List (Option Reply)) (d : Decision) → Acting es p (unless_refused (first ∷ process_refusal es p ∷ rest) d)
second_act es p first rest d = or_act es p first (unless_refused (process_refusal es p ∷ rest) d) (λ is. or_act es p (process_refusal es p) (unless_refused rest d) (λ none more. acts es p none))

session_act : (es : Trace) (p : ℕ) (o : Option Session) (f : Session → Decision) → ((s : Session) → Acting es p (f s)) → Acting es p (with_session o f)
session_act es p None f h = replies_act es p NoSession
session_act es p (Some s) f h = h s

holder_acts : (st : Setting) (es : Trace) (r : ResourceArg) (p : ℕ) (serves : Grant → Bool) (f : Session → Grant → Decision) → Acting es p (decide_holder st es r p serves f)
holder_acts st es r p serves f =
    session_act es p (session_named st es r.lockspace)
    (λ s. unless_refused (session_refusal st es s ∷ process_refusal es p ∷ choose (is_none (holding_of es s (spot_of r) p serves)) NotHeld ∷ pending_refusal st es (spot_of r) ∷ [])
    (option_map_or (f s) (holding_of es s (spot_of r) p serves) (Replies NotHeld)))
    (λ s. second_act es p (session_refusal st es s) (choose (is_none (holding_of es s (spot_of r) p serves)) NotHeld ∷ pending_refusal st es (spot_of r) ∷ []) (option_map_or (f s) (holding_of es s (spot_of r) p serves) (Replies NotHeld)))

acquire_acts : (st : Setting) (es : Trace) (r : ResourceArg) (p : ℕ) (shared program : Bool) → Acting es p (decide_acquire st es r (Some p) shared program)
acquire_acts st es r p shared program =
    session_act es p (session_named st es r.lockspace)
    (λ s. unless_refused (session_refusal st es s ∷ process_refusal es p ∷ busy_refusal es (spot_of r) (Some p) shared ∷ pending_refusal st es (spot_of r) ∷ limit_refusal st es s (spot_of r) program ∷ []) (acquiring es s r shared))
    (λ s. second_act es p (session_refusal st es s) (busy_refusal es (spot_of r) (Some p) shared ∷ pending_refusal st es (spot_of r) ∷ limit_refusal st es s (spot_of r) program ∷ []) (acquiring es s r shared))

take_over_acts : (st : Setting) (es : Trace) (r : ResourceArg) (p : ℕ) (shared : Bool) → Acting es p (decide_take_over st es r p shared)
take_over_acts st es r p shared =
    session_act es p (session_named st es r.lockspace)
    (λ s. unless_refused (session_refusal st es s ∷ process_refusal es p ∷ rest s) (comes s))
    (λ s. second_act es p (session_refusal st es s) (rest s) (comes s))
  where
    serves : Grant → Bool
    serves g = same_truth shared (is_shared g.mode)

    rest : Session → List (Option Reply)
    rest s = choose (is_none (serving_orphan es s (spot_of r) serves)) NoOrphan ∷ (option_map (λ q. Busy q) (holds_already es (spot_of r) p) ∷ []) ++ pending_refusal st es (spot_of r) ∷ []

    comes : Session → Decision
    comes s = option_map_or (λ g. TakesOver s g) (serving_orphan es s (spot_of r) serves) (Replies NoOrphan)

convert_acts : (st : Setting) (es : Trace) (r : ResourceArg) (p : ℕ) (mode : Mode) → Acting es p (decide_convert st es r p mode)
convert_acts st es r p mode =
    session_act es p (session_named st es r.lockspace)
    (λ s. unless_refused (session_refusal st es s ∷ process_refusal es p ∷ rest s) (comes s))
    (λ s. second_act es p (session_refusal st es s) (rest s) (comes s))
  where
    rest : Session → List (Option Reply)
    rest s =
        choose (is_none (holding_of es s (spot_of r) p (λ g. true))) NotHeld
        ∷ option_and_then (λ q. choose (not (is_shared mode)) (Busy q)) (other_holder es (spot_of r) p) ∷ pending_refusal st es (spot_of r) ∷ []

    comes : Session → Decision
    comes s = option_map_or (converting s r mode) (holding_of es s (spot_of r) p (λ g. true)) (Replies NotHeld)

pub decided_acts : (st : Setting) (es : Trace) (now : ℕ) (c : Command) (p : ℕ) → process_named c ≡ Some p → Acting es p (decided st es now c)
unfolding decided
decided_acts st es now (Acquire r shared q persistent) p is = subst (λ n. Acting es n (decide_acquire st es r (Some q) shared false)) (some_value q p is) (acquire_acts st es r q shared false)
decided_acts st es now (TakeOver r shared q persistent) p is = subst (λ n. Acting es n (decide_take_over st es r q shared)) (some_value q p is) (take_over_acts st es r q shared)
decided_acts st es now (Release r q) p is = subst (λ n. Acting es n (decide_holder st es r q (λ g. true) (λ s g. GivesUp s g))) (some_value q p is) (holder_acts st es r q (λ g. true) (λ s g. GivesUp s g))
decided_acts st es now (Convert r shared q) p is =
    subst (λ n. Acting es n (decide_convert st es r q (wanted_mode (Convert r shared q)))) (some_value q p is) (convert_acts st es r q (wanted_mode (Convert r shared q)))
decided_acts st es now (GetLvb r q) p is =
    subst (λ n. Acting es n (decide_holder st es r q (λ g. true) (λ s g. GetsValue s (spot_of r)))) (some_value q p is) (holder_acts st es r q (λ g. true) (λ s g. GetsValue s (spot_of r)))
decided_acts st es now (SetLvb r q bytes) p is =
    subst (λ n. Acting es n (decide_holder st es r q (λ g. not (is_shared g.mode)) (λ s g. setting_value s (spot_of r) g (next_value_seq st es s (spot_of r) g.lver) bytes))) (some_value q p is)
    (holder_acts st es r q (λ g. not (is_shared g.mode)) (λ s g. setting_value s (spot_of r) g (next_value_seq st es s (spot_of r) g.lver) bytes))
decided_acts st es now (SetKillpath q path) p is =
    or_act es p (process_refusal es q) (unless_refused (choose (is_killpath_limit st es q) (LimitReached Killpaths) ∷ []) (Replies Done))
    (λ none. or_act es p (choose (is_killpath_limit st es q) (LimitReached Killpaths)) (Replies Done) (λ free. replies_act es p Done))
decided_acts st es now (AddLockspace a) p is = absurd (none_some p is)
decided_acts st es now (RemLockspace a) p is = absurd (none_some p is)
decided_acts st es now (InqLockspace a) p is = absurd (none_some p is)
decided_acts st es now (HostStatus a) p is = absurd (none_some p is)
decided_acts st es now (ReleaseOrphan r) p is = absurd (none_some p is)
decided_acts st es now (RunProgram r shared path) p is = absurd (none_some p is)
decided_acts st es now (Request r v how) p is = absurd (none_some p is)
decided_acts st es now Status p is = absurd (none_some p is)

-- ---- so it is told

-- Of a step before its input.
pub acting_told : (x : Step) (p : ℕ) → x.input ≡ Wake → may_act (seen x) p ≡ true → IsTold x.past p
acting_told x p wake may = by (nat_le p most_processes) refl where
  is_named : Child → Bool
  is_named k = k.process == p

  seen_children : List Child
  seen_children = map (child_after x.input) (children x.past) ++ map new_child x.effects.starts

  new_none : (ks : List Start) (k : Child) → find is_named (map new_child ks) ≡ Some k → k.answer ≡ None
  new_none ks k found =
      let f = in_map new_child ks k (find_inside is_named (map new_child ks) k found).0 in ap (λ (c : Child). c.answer) (sym f.2)

  started : (k : Child) → find is_named seen_children ≡ Some k → k.answer ≡ Some true → IsTold x.past p
  started k found answer = old (child_numbered x.past p) refl where
    awake : map (child_after x.input) (children x.past) ≡ children x.past
    awake = ap (λ i. map (child_after i) (children x.past)) wake ∙ map_same (children x.past) where
      map_same : (ks : List Child) → map (child_after Wake) ks ≡ ks
      map_same [] = refl
      map_same (c ∷ cs) = ap (λ ds. c ∷ ds) (map_same cs)

    old : (o : Option Child) → child_numbered x.past p ≡ o → IsTold x.past p
    old None none =
        let there : find is_named (map new_child x.effects.starts) ≡ Some k =
        sym (found_after is_named (map (child_after x.input) (children x.past)) (map new_child x.effects.starts) (ap (λ ks. find is_named ks) awake ∙ none)) ∙ found in
        absurd (none_some true (sym (new_none x.effects.starts k there) ∙ answer))
    old (Some l) is =
        let same : l ≡ k =
        some_value l k (sym (found_before is_named (map (child_after x.input) (children x.past)) (map new_child x.effects.starts) l (ap (λ ks. find is_named ks) awake ∙ is)) ∙ found) in
        inr (l, is, ap (λ (c : Child). c.answer) same ∙ answer)

  by_child : is_child (seen x) p ≡ true → IsTold x.past p
  by_child is =
      let v = some_is_true (λ (k : Child). some_is (λ ok. ok) k.answer && not k.exited) (child_numbered (seen x) p) is in
      let both = and_true (some_is (λ ok. ok) v.0.answer) (not v.0.exited) v.2 in
      let w = some_is_true (λ ok. ok) v.0.answer both.0 in
      started v.0 v.1 (w.1 ∙ ap (λ b. Some b) w.2)

  by : (b : Bool) → nat_le p most_processes ≡ b → IsTold x.past p
  by true low = inl (leb-true p most_processes low)
  by false high = by_child (sym (ap (λ b. b || is_child (seen x) p) high) ∙ may)

-- What is carried out for a process is for one that is told.
pub carried_told : (x : Step) (c : Command) (d : Decision) (p : ℕ) → x.input ≡ Wake → decided x.setting (seen x) x.reading c ≡ d → reply_at_once d ≡ None → process_named c ≡ Some p → IsTold x.past p
carried_told x c d p wake is more names =
    acting_told x p wake (decided_acts x.setting (seen x) x.reading c p names (ap (λ e. reply_at_once e) is ∙ more))

-- ---- it stays told, and is no child that is still to be started

-- A child's number and job stay, and so does its answer.
pub child_stays : (i : Input) (k : Child) → ((child_after i k).process ≡ k.process) × ((child_after i k).job ≡ k.job)
child_stays (Spawned q ok) k = by (q == k.process) where
  by : (b : Bool) → (let c : Child = elim b as (λ z. Child) [ false ↦ k | true ↦ record k { answer = option_or k.answer (Some ok) } ] in (c.process ≡ k.process) × (c.job ≡ k.job))
  by false = (refl, refl)
  by true = (refl, refl)
child_stays (Exit q) k = by (q == k.process) where
  by : (b : Bool) → (let c : Child = elim b as (λ z. Child) [ false ↦ k | true ↦ record k { exited = true } ] in (c.process ≡ k.process) × (c.job ≡ k.job))
  by false = (refl, refl)
  by true = (refl, refl)
child_stays (Line text) k = (refl, refl)
child_stays (Number text) k = (refl, refl)
child_stays Wake k = (refl, refl)
child_stays (Told n a) k = (refl, refl)

pub answer_stays : (i : Input) (k : Child) → k.answer ≡ Some true → (child_after i k).answer ≡ Some true
answer_stays (Spawned q ok) k is = by (q == k.process) where
  by : (b : Bool) → (let c : Child = elim b as (λ z. Child) [ false ↦ k | true ↦ record k { answer = option_or k.answer (Some ok) } ] in c.answer ≡ Some true)
  by false = is
  by true = ap (λ o. option_or o (Some ok)) is
answer_stays (Exit q) k is = by (q == k.process) where
  by : (b : Bool) → (let c : Child = elim b as (λ z. Child) [ false ↦ k | true ↦ record k { exited = true } ] in c.answer ≡ Some true)
  by false = is
  by true = is
answer_stays (Line text) k is = is
answer_stays (Number text) k is = is
answer_stays Wake k is = is
answer_stays (Told n a) k is = is

-- So who is told stays so.
pub told_more : (past : Trace) (e : Entry) (p : ℕ) → IsTold past p → IsTold (e ∷ past) p
told_more past e p (inl low) = inl low
told_more past e p (inr (k, found, answer)) =
    inr (
      child_after e.input k,
      found_before (λ (c : Child). c.process == p) (map (child_after e.input) (children past)) (map new_child e.effects.starts) (child_after e.input k) (
          find_mapped (λ (c : Child). c.process == p) (child_after e.input) (children past) (λ c. ap (λ n. n == p) (child_stays e.input c).0) ∙ ap (λ o. option_map (child_after e.input) o) found
          ),
      answer_stays e.input k answer,
    )

-- So it had none before.
pub unanswered_before : (i : Input) (k : Child) → (child_after i k).answer ≡ None → k.answer ≡ None
unanswered_before i k none = by k.answer refl where
  by : (o : Option Bool) → k.answer ≡ o → k.answer ≡ None
  by None is = is
  by (Some true) is = absurd (none_some true (sym none ∙ answer_stays i k is))
  by (Some false) is = absurd (none_some false (sym none ∙ failed_stays i k is)) where
    failed_stays : (i : Input) (k : Child) → k.answer ≡ Some false → (child_after i k).answer ≡ Some false
    failed_stays (Spawned q ok) k is = by_number (q == k.process) where
      by_number : (b : Bool) → (let c : Child = elim b as (λ z. Child) [ false ↦ k | true ↦ record k { answer = option_or k.answer (Some ok) } ] in c.answer ≡ Some false)
      by_number false = is
      by_number true = ap (λ o. option_or o (Some ok)) is
    failed_stays (Exit q) k is = by_number (q == k.process) where
      by_number : (b : Bool) → (let c : Child = elim b as (λ z. Child) [ false ↦ k | true ↦ record k { exited = true } ] in c.answer ≡ Some false)
      by_number false = is
      by_number true = is
    failed_stays (Line text) k is = is
    failed_stays (Number text) k is = is
    failed_stays Wake k is = is
    failed_stays (Told n a) k is = is

-- A child that is still to be started is told to nobody.
pub told_apart : (t : Trace) (p : ℕ) (k : Child) → ((c : Child) → Contains (children t) c → first_child ≤ c.process) → child_numbered t p ≡ Some k → k.answer ≡ None → IsTold t p → ⊥
told_apart t p k above found none (inl low) = let f = find_inside (λ (c : Child). c.process == p) (children t) k found in over p k.process low (above k f.0) (eqb-true k.process p f.1) where
  over : (n m : ℕ) → n ≤ most_processes → most_processes + 1 ≤ m → m ≡ n → ⊥
  over n m a b same = omega arith
told_apart t p k above found none (inr (l, is, answer)) = none_some true (sym none ∙ (ap (λ (c : Child). c.answer) (some_value k l (sym found ∙ is)) ∙ answer))
