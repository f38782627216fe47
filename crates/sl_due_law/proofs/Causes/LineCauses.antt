-- What a line is answered at once has its cause, where it is decided on what stood before it.
use Rattle.sl_due_law.proofs.Causes.RefusalsAreCaused.{AllWell, asking_well, busy_well, limit_well, pending_well, process_well, session_active, session_is, session_well, unless_well, where_matched, where_named}
use Rattle.sl_due_facts.proofs.Acts.AddedAtEnd.{not_is}
use Rattle.sl_due_law.proofs.Causes.AnsweredJobs.{with_command, with_spot}
use Rattle.sl_due_law.proofs.Causes.Leases.Limits.{not_number}
use Rattle.sl_due_law.proofs.Causes.NamesBefore.{with_session}
use Rattle.sl_due_law.proofs.Causes.WakeCauses.{at_most}
use Rattle.sl_due_law.specs.Causes.LineCauses.{AtLine, LinesAreCaused, WellDecided}
use Rattle.sl_due.specs.DueCommands.{acquiring, busy_refusal, converting, decide_acquire, decide_convert, decide_holder, decide_orphan, decided, holding_of, joined_refusal, leave_refusal, limit_refusal, matching_session, orphan_refusal, pending_refusal, process_refusal, serving_orphan, session_refusal, setting_value, unless_refused, with_session as where_session}
use Rattle.sl_due.specs.declared.decision.Decision.TheVariants.{ConvertsTo, GetsValue, GivesUp, Joins, Leaves, ReadsArea, Replies, Requests, SetsValue, Shares, TakesOver}
use Rattle.sl_due.specs.declared.decision.Decision.{Decision}
use Rattle.sl_due_leases.proofs.Holdings.HoldingFactsBegin.{none_ended}
use Rattle.sl_due_leases.proofs.Holdings.LeaseConversions.{spot_is}
use Rattle.sl_run.specs.Caused.{Answering, CausedBy, IsDoneFor, IsGrantedFor, WithSpot, before_entry, is_holders_command, is_joining_command, is_orphan_command, is_taking_over, job_command, lockspace_arg, the_session}
use Rattle.sl_trace.specs.Counts.{holds_already, may_act, next_value_seq, other_holder}
use Rattle.sl_trace.specs.KillPrograms.{is_killpath_limit}
use Rattle.sl_trace.specs.Jobs.{is_asking_lease, is_program, lockspace_named, process_named, resource_named, wanted_mode, wants_shared}
use Rattle.sl_trace.specs.Leases.{exclusive_on, holdings_on, orphan_on, shared_on, spot_of}
use Rattle.sl_words.proofs.Lists.{find_fails, find_inside, kept_inside}
use Rattle.sl_words.proofs.Numbers.{number_itself}
use Rattle.sl_words.proofs.Options.{mapped_value, then_value}
use Rattle.sl_trace.specs.Sessions.{generation_of, holdings_of, is_active, is_session_arg, last_seq, present_sessions, session_named, sessions}
use Rattle.sl_trace.specs.Sightings.{states_seen}
use Rattle.sl_trace.specs.declared.session.Session.{Session}
use Rattle.sl_trace.specs.CountLimits.{most_lockspaces}
use Rattle.sl_trace.specs.Traces.{Trace, holdings, is_ended_by, is_orphan, is_shared, same_place, spot_of_grant}
use Rattle.sl_trace.specs.declared.command.Command.TheVariants.{Acquire, AddLockspace, Convert, GetLvb, HostStatus, InqLockspace, Release, ReleaseOrphan, RemLockspace, Request, RunProgram, SetKillpath, SetLvb, Status, TakeOver}
use Rattle.sl_trace.specs.declared.command.Command.{Command}
use Rattle.sl_trace.specs.declared.command.LockspaceArg.{LockspaceArg}
use Rattle.sl_trace.specs.declared.command.ResourceArg.{ResourceArg}
use Rattle.sl_trace.specs.declared.effects.Grant.{Grant}
use Rattle.sl_trace.specs.declared.effects.Mode.{Mode}
use Rattle.sl_trace.specs.declared.effects.Spot.{Spot}
use Rattle.sl_trace.specs.declared.reply.Limited.TheVariants.{Killpaths, Lockspaces, Seq as SeqLimit}
use Rattle.sl_trace.specs.declared.reply.Reply.TheVariants.{Busy, Done, Generation, Granted, Hosts, Joined, Limit as LimitReached, NoOrphan, NoProcess, NotHeld}
use Rattle.sl_trace.specs.declared.reply.Reply.{Reply}
use Rattle.sl_words.proofs.CaseLaws.{false_is_true, none_some, not_both, some_value, true_is_false}
use Rattle.sl_words.proofs.WordLaws.{and_true, choose_some}
use Rattle.sl_words.specs.Bounds.{is_number, record_numbers}
use Rattle.sl_words.specs.Words.{choose, same_truth}
use Rattle.std.proofs.Common.{ap, inl, inr, refl, subst, sym, ◌∙◌}
use Rattle.std.proofs.lemmas.Bool.{eqb-true}
use Rattle.std.proofs.lemmas.List.{append-nil}
use Rattle.std.specs.List.{list_any}
use Rattle.std.specs.Option.{option_map_or, option_or}
use Rattle.std.specs.Prelude.{Bool, Contains, IsSomeAnd, IsTrue, List, None, Option, Some, [], false, filter, is_none, length, nat_le, not, option_and_then, option_map, true, ℕ, ◌&&◌, ◌++◌, ◌+◌, ◌==◌, ◌∷◌, ◌≡◌, ◌≢◌, ◌≤◌}

-- ---- holdings

abbrev MissesHolding : Answering → Session → Command → ResourceArg → Spot → Type 0
MissesHolding y s c r at =
    (g : Grant) → Contains (holdings_on (before_entry y) s at) g → process_named c ≡ Some g.process → (p : ℕ) × (bytes : List ℕ) × (c ≡ SetLvb r p bytes) × IsTrue (is_shared g.mode)

abbrev MissesOrphan : Answering → Session → Command → Spot → Type 0
MissesOrphan y s c at = (g : Grant) → orphan_on (before_entry y) s at ≡ Some g → IsTrue (is_taking_over c) × (is_shared g.mode ≢ wants_shared c)

-- The process holds nothing that serves.
unheld : (y : Answering) (c : Command) (r : ResourceArg) (s : Session) (p : ℕ) (serves : Grant → Bool) → AtLine y c → the_session y ≡ Some s → is_holders_command c ≡ true → resource_named c ≡ Some r → process_named c ≡ Some p
    → ((g : Grant) → serves g ≡ false → (q : ℕ) × (bytes : List ℕ) × (c ≡ SetLvb r q bytes) × IsTrue (is_shared g.mode)) → holding_of (before_entry y) s (spot_of r) p serves ≡ None → CausedBy y NotHeld
unheld y c r s p serves h found holders names named misses none = (
  h.at,
  with_session y s (λ s. job_command y (λ c. IsTrue (is_holders_command c) × WithSpot y (λ r at. MissesHolding y s c r at))) found
      (with_command y c (λ c. IsTrue (is_holders_command c) × WithSpot y (λ r at. MissesHolding y s c r at)) h.command (holders, with_spot y c r (λ r at. MissesHolding y s c r at) h.command names nothing)),
) where
  nothing : MissesHolding y s c r (spot_of r)
  nothing g there its =
      let fails : (g.process == p && serves g) ≡ false = find_fails (λ (g : Grant). g.process == p && serves g) (holdings_on (before_entry y) s (spot_of r)) g none there in
      let same : g.process ≡ p = some_value g.process p (sym its ∙ named) in
      misses g (sym (ap (λ n. n == p && serves g) same ∙ ap (λ b. b && serves g) (number_itself p)) ∙ fails)

unheld_well : (y : Answering) (c : Command) (r : ResourceArg) (s : Session) (p : ℕ) (serves : Grant → Bool) → AtLine y c → the_session y ≡ Some s → is_holders_command c ≡ true → resource_named c ≡ Some r → process_named c ≡ Some p
    → ((g : Grant) → serves g ≡ false → (q : ℕ) × (bytes : List ℕ) × (c ≡ SetLvb r q bytes) × IsTrue (is_shared g.mode))
    → (why : Reply) → choose (is_none (holding_of (before_entry y) s (spot_of r) p serves)) NotHeld ≡ Some why → CausedBy y why
unheld_well y c r s p serves h found holders names named misses why = by (holding_of (before_entry y) s (spot_of r) p serves) refl where
  by : (o : Option Grant) → holding_of (before_entry y) s (spot_of r) p serves ≡ o → choose (is_none o) NotHeld ≡ Some why → CausedBy y why
  by None none is = subst (λ q. CausedBy y q) (some_value NotHeld why is) (unheld y c r s p serves h found holders names named misses none)
  by (Some g) held is = absurd (none_some why is)

-- .. as it may be said at last.
where_held : (y : Answering) (f : Grant → Decision) (why : Reply) (o : Option Grant) → (o ≡ None → CausedBy y why) → ((g : Grant) → o ≡ Some g → WellDecided y (f g)) → WellDecided y (option_map_or f o (Replies why))
where_held y f why None none held = none refl
where_held y f why (Some g) none held = held g refl

-- A command of a process that holds the resource.
holder_well : (y : Answering) (c : Command) (r : ResourceArg) (p : ℕ) (serves : Grant → Bool) (f : Session → Grant → Decision) → AtLine y c → is_joining_command c ≡ false → lockspace_named c ≡ Some r.lockspace
    → is_holders_command c ≡ true → resource_named c ≡ Some r → process_named c ≡ Some p → ((g : Grant) → serves g ≡ false → (q : ℕ) × (bytes : List ℕ) × (c ≡ SetLvb r q bytes) × IsTrue (is_shared g.mode))
    → ((s : Session) (g : Grant) → the_session y ≡ Some s → holding_of (before_entry y) s (spot_of r) p serves ≡ Some g → WellDecided y (f s g)) → WellDecided y (decide_holder y.setting (before_entry y) r p serves f)
holder_well y c r p serves f h other lockspace holders names named misses last =
    where_named y c r.lockspace
    (λ s. session_refusal y.setting t s ∷ process_refusal t p ∷ choose (is_none (holding_of t s (spot_of r) p serves)) NotHeld ∷ pending_refusal y.setting t (spot_of r) ∷ [])
    (λ s. option_map_or (f s) (holding_of t s (spot_of r) p serves) (Replies NotHeld)) h lockspace other
    (λ s found. (session_well y c s h found, (process_well y c p h named, (unheld_well y c r s p serves h found holders names named misses, (pending_well y c r h names, tt)))))
    (λ s found none. where_held y (f s) NotHeld (holding_of t s (spot_of r) p serves) (λ nothing. unheld y c r s p serves h found holders names named misses nothing) (λ g held. last s g found held))
  where
    t : Trace
    t = before_entry y

-- ---- orphans

unorphaned : (y : Answering) (c : Command) (r : ResourceArg) (s : Session) (serves : Grant → Bool) → AtLine y c → the_session y ≡ Some s → is_orphan_command c ≡ true → resource_named c ≡ Some r
    → ((g : Grant) → serves g ≡ false → IsTrue (is_taking_over c) × (is_shared g.mode ≢ wants_shared c)) → serving_orphan (before_entry y) s (spot_of r) serves ≡ None → CausedBy y NoOrphan
unorphaned y c r s serves h found orphans names misses none = (
  h.at,
  with_session y s (λ s. job_command y (λ c. IsTrue (is_orphan_command c) × WithSpot y (λ r at. MissesOrphan y s c at))) found
      (with_command y c (λ c. IsTrue (is_orphan_command c) × WithSpot y (λ r at. MissesOrphan y s c at)) h.command (orphans, with_spot y c r (λ r at. MissesOrphan y s c at) h.command names nothing)),
) where
  nothing : MissesOrphan y s c (spot_of r)
  nothing g there = misses g (by (serves g) (sym (ap (λ o. option_and_then (λ (g : Grant). choose (serves g) g) o) there) ∙ none)) where
    by : (b : Bool) → choose b g ≡ None → b ≡ false
    by false is = refl
    by true is = absurd (none_some g (sym is))

unorphaned_well : (y : Answering) (c : Command) (r : ResourceArg) (s : Session) (serves : Grant → Bool) → AtLine y c → the_session y ≡ Some s → is_orphan_command c ≡ true → resource_named c ≡ Some r
    → ((g : Grant) → serves g ≡ false → IsTrue (is_taking_over c) × (is_shared g.mode ≢ wants_shared c)) → (why : Reply) → choose (is_none (serving_orphan (before_entry y) s (spot_of r) serves)) NoOrphan ≡ Some why → CausedBy y why
unorphaned_well y c r s serves h found orphans names misses why = by (serving_orphan (before_entry y) s (spot_of r) serves) refl where
  by : (o : Option Grant) → serving_orphan (before_entry y) s (spot_of r) serves ≡ o → choose (is_none o) NoOrphan ≡ Some why → CausedBy y why
  by None none is = subst (λ q. CausedBy y q) (some_value NoOrphan why is) (unorphaned y c r s serves h found orphans names misses none)
  by (Some g) held is = absurd (none_some why is)

both_well : (y : Answering) (os : List (Option Reply)) (o : Option Reply) → AllWell y os → ((r : Reply) → o ≡ Some r → CausedBy y r) → AllWell y (os ++ o ∷ [])
both_well y [] o h k = (k, tt)
both_well y (p ∷ os) o h k = (h.0, both_well y os o h.1 k)

orphan_well : (y : Answering) (c : Command) (r : ResourceArg) (asking : Option ℕ) (serves : Grant → Bool) (refusals : List (Option Reply)) (f : Session → Grant → Decision) → AtLine y c → is_joining_command c ≡ false
    → lockspace_named c ≡ Some r.lockspace → is_orphan_command c ≡ true → resource_named c ≡ Some r → process_named c ≡ asking
    → ((g : Grant) → serves g ≡ false → IsTrue (is_taking_over c) × (is_shared g.mode ≢ wants_shared c)) → AllWell y refusals → ((s : Session) (g : Grant) → WellDecided y (f s g))
    → WellDecided y (decide_orphan y.setting (before_entry y) r asking serves refusals f)
orphan_well y c r asking serves refusals f h other lockspace orphans names named misses more last =
    where_named y c r.lockspace
    (λ s. session_refusal y.setting t s ∷ option_and_then (process_refusal t) asking ∷ choose (is_none (serving_orphan t s (spot_of r) serves)) NoOrphan ∷ (refusals ++ pending_refusal y.setting t (spot_of r) ∷ []))
    (λ s. option_map_or (f s) (serving_orphan t s (spot_of r) serves) (Replies NoOrphan)) h lockspace other
    (λ s found. (
      session_well y c s h found,
      (asking_well y c asking h named, (unorphaned_well y c r s serves h found orphans names misses, both_well y refusals (pending_refusal y.setting t (spot_of r)) more (pending_well y c r h names))),
    ))
    (λ s found none. where_held y (f s) NoOrphan (serving_orphan t s (spot_of r) serves) (λ nothing. unorphaned y c r s serves h found orphans names misses nothing) (λ g held. last s g))
  where
    t : Trace
    t = before_entry y

already_well : (y : Answering) (c : Command) (r : ResourceArg) (p : ℕ) → AtLine y c → is_taking_over c ≡ true → resource_named c ≡ Some r → process_named c ≡ Some p
    → (why : Reply) → option_map (λ q. Busy q) (holds_already (before_entry y) (spot_of r) p) ≡ Some why → CausedBy y why
already_well y c r p h takes names named why is =
    let v = mapped_value (λ q. Busy q) (holds_already (before_entry y) (spot_of r) p) why is in
    let same : p ≡ v.0 = (choose_some _ p v.0 v.1).1 in
    subst (λ q. CausedBy y q) v.2 (
      h.at,
      inr (inl (with_command y c (λ c. IsTrue (is_taking_over c) × (process_named c ≡ Some v.0) × WithSpot y (λ r at. holds_already (before_entry y) at v.0 ≡ Some v.0)) h.command (
        takes,
        named ∙ ap (λ n. Some n) same,
        with_spot y c r (λ r at. holds_already (before_entry y) at v.0 ≡ Some v.0) h.command names (subst (λ n. holds_already (before_entry y) (spot_of r) n ≡ Some v.0) same v.1),
      ))),
    )

-- ---- acquires

acquire_well : (y : Answering) (c : Command) (r : ResourceArg) (asking : Option ℕ) (program : Bool) → AtLine y c → is_joining_command c ≡ false → lockspace_named c ≡ Some r.lockspace → is_asking_lease c ≡ true
    → resource_named c ≡ Some r → process_named c ≡ asking → is_program c ≡ program → WellDecided y (decide_acquire y.setting (before_entry y) r asking (wants_shared c) program)
acquire_well y c r asking program h other lockspace asks names named starts =
    where_named y c r.lockspace
    (λ s. session_refusal y.setting t s ∷ option_and_then (process_refusal t) asking ∷ busy_refusal t (spot_of r) asking (wants_shared c) ∷ pending_refusal y.setting t (spot_of r) ∷ limit_refusal y.setting t s (spot_of r) program ∷ [])
    (λ s. acquiring t s r (wants_shared c)) h lockspace other
    (λ s found. (
      session_well y c s h found,
      (asking_well y c asking h named, (busy_well y c r asking h asks names named, (pending_well y c r h names, (limit_well y c r s h found asks names program starts, tt)))),
    )) (λ s found none. by s (wants_shared c) (shared_on t s (spot_of r)))
  where
    t : Trace
    t = before_entry y

    by : (s : Session) (b : Bool) (o : Option Grant) → WellDecided y (elim b as (λ z. Decision) [ false ↦ ReadsArea s r | true ↦ elim o as (λ z. Decision) [ None ↦ ReadsArea s r | Some g ↦ Shares s g.lver ] ])
    by s false o = tt
    by s true None = tt
    by s true (Some g) = tt

-- ---- conversions

other_well : (y : Answering) (r : ResourceArg) (shared : Bool) (p : ℕ) → AtLine y (Convert r shared p)
    → (why : Reply) → option_and_then (λ q. choose (not (is_shared (wanted_mode (Convert r shared p)))) (Busy q)) (other_holder (before_entry y) (spot_of r) p) ≡ Some why → CausedBy y why
other_well y r true p h why is = let v = then_value (λ q. choose false (Busy q)) (other_holder (before_entry y) (spot_of r) p) why is in absurd (none_some why v.2)
other_well y r false p h why is =
    let v = then_value (λ q. choose true (Busy q)) (other_holder (before_entry y) (spot_of r) p) why is in
    subst (λ q. CausedBy y q) (some_value (Busy v.0) why v.2) (
      h.at,
      inr (inr (inl (with_command y (Convert r false p) (λ c. (r : ResourceArg) × (p : ℕ) × (c ≡ Convert r false p) × (other_holder (before_entry y) (spot_of r) p ≡ Some v.0)) h.command (r, p, refl, v.1)))),
    )

modes_agree : (a b : Bool) → same_truth a b ≡ true → b ≡ a
modes_agree true true is = refl
modes_agree false false is = refl
modes_agree true false is = absurd (false_is_true is)
modes_agree false true is = absurd (false_is_true is)

convert_well : (y : Answering) (r : ResourceArg) (shared : Bool) (p : ℕ) → AtLine y (Convert r shared p) → WellDecided y (decide_convert y.setting (before_entry y) r p (wanted_mode (Convert r shared p)))
convert_well y r shared p h =
    where_named y c r.lockspace
    (λ s. session_refusal y.setting t s ∷ process_refusal t p ∷ choose (is_none (holding_of t s (spot_of r) p (λ g. true))) NotHeld
    ∷ option_and_then (λ q. choose (not (is_shared mode)) (Busy q)) (other_holder t (spot_of r) p) ∷ pending_refusal y.setting t (spot_of r) ∷ [])
    (λ s. option_map_or (converting s r mode) (holding_of t s (spot_of r) p (λ g. true)) (Replies NotHeld)) h refl refl
    (λ s found. (
      session_well y c s h found,
      (process_well y c p h refl, (unheld_well y c r s p (λ g. true) h found refl refl refl (λ g miss. absurd (true_is_false miss)), (other_well y r shared p h, (pending_well y c r h refl, tt)))),
    ))
    (λ s found none. where_held y (converting s r mode) NotHeld (holding_of t s (spot_of r) p (λ g. true))
    (λ nothing. unheld y c r s p (λ g. true) h found refl refl refl (λ g miss. absurd (true_is_false miss)) nothing) (λ g held. by s found g held (same_truth (is_shared mode) (is_shared g.mode)) refl))
  where
    c : Command
    c = Convert r shared p

    mode : Mode
    mode = wanted_mode c

    t : Trace
    t = before_entry y

    wanted : (b : Bool) → is_shared (wanted_mode (Convert r b p)) ≡ b
    wanted true = refl
    wanted false = refl

    by : (s : Session) → the_session y ≡ Some s → (g : Grant) → holding_of t s (spot_of r) p (λ g. true) ≡ Some g → (b : Bool) → same_truth (is_shared mode) (is_shared g.mode) ≡ b
        → WellDecided y (elim b as (λ z. Decision) [ true ↦ Replies (Granted g.lver) | false ↦ ConvertsTo s r mode ])
    by s found g held false other = tt
    by s found g held true same =
        let f = find_inside (λ (g : Grant). g.process == p && true) (holdings_on t s (spot_of r)) g held in
        with_command y c (λ d. IsGrantedFor y g.lver d) h.command (inl (
          h.at,
          with_session y s (λ s. (q : Grant) × Contains (holdings_on (before_entry y) s (spot_of r)) q × ((q.process ≡ p) × (is_shared q.mode ≡ shared) × (q.lver ≡ g.lver))) found
              (g, f.0, (eqb-true g.process p (and_true (g.process == p) true f.1).0, modes_agree (is_shared mode) (is_shared g.mode) same ∙ wanted shared, refl)),
        ))

-- ---- values

-- The exclusive holding of a process is the one that is found.
exclusive_held : (y : Answering) (c : Command) (s : Session) (at : Spot) (p : ℕ) (g : Grant) → AtLine y c → holding_of (before_entry y) s at p (λ q. not (is_shared q.mode)) ≡ Some g → exclusive_on (before_entry y) s at ≡ Some g
exclusive_held y c s at p g h held = by (exclusive_on t s at) refl where
  t : Trace
  t = before_entry y

  same : holdings t ≡ holdings y.past
  same = append-nil (filter (λ q. not (is_ended_by [] q)) (holdings y.past)) ∙ none_ended (holdings y.past)

  f : Contains (holdings_on t s at) g × ((g.process == p && not (is_shared g.mode)) ≡ true)
  f = find_inside (λ (q : Grant). q.process == p && not (is_shared q.mode)) (holdings_on t s at) g held

  alone_there : (q : Grant) → Contains (holdings_on t s at) q → Contains (holdings y.past) q × (spot_of_grant q ≡ at)
  alone_there q there =
      let on = kept_inside (λ (z : Grant). same_place z.path z.offset at.path at.base) (holdings_of t s) q there in
      let of = kept_inside (λ (z : Grant). z.session == s.number) (holdings t) q on.0 in
      (subst (λ hs. Contains hs q) same of.0, spot_is q at on.1)

  by : (o : Option Grant) → exclusive_on t s at ≡ o → exclusive_on t s at ≡ Some g
  by None none =
      absurd (not_both (not (is_shared g.mode)) (and_true (g.process == p) (not (is_shared g.mode)) f.1).1 (find_fails (λ (q : Grant). not (is_shared q.mode)) (holdings_on t s at) g none f.0))
  by (Some e) is =
      let found = find_inside (λ (q : Grant). not (is_shared q.mode)) (holdings_on t s at) e is in
      let a = alone_there e found.0 in
      let b = alone_there g f.0 in
      let near : same_place e.path e.offset g.path g.offset ≡ true =
      subst (λ (z : Spot). same_place e.path e.offset z.path z.base ≡ true) (sym b.1)
      (kept_inside (λ (z : Grant). same_place z.path z.offset at.path at.base) (holdings_of t s) e found.0).1 in
      is ∙ ap (λ z. Some z) (h.whole.facts.holdings.alone g e b.0 a.0 near (not_is (is_shared g.mode) (and_true (g.process == p) (not (is_shared g.mode)) f.1).1))

value_well : (y : Answering) (r : ResourceArg) (p : ℕ) (bytes : List ℕ) (s : Session) (g : Grant) → AtLine y (SetLvb r p bytes) → the_session y ≡ Some s
    → holding_of (before_entry y) s (spot_of r) p (λ q. not (is_shared q.mode)) ≡ Some g
    → WellDecided y (setting_value s (spot_of r) g (next_value_seq y.setting (before_entry y) s (spot_of r) g.lver) bytes)
value_well y r p bytes s g h found held = by (is_number n) refl where
  n : ℕ
  n = next_value_seq y.setting (before_entry y) s (spot_of r) g.lver

  by : (b : Bool) → is_number n ≡ b
      → WellDecided y (elim b as (λ z. Decision) [ false ↦ Replies (LimitReached SeqLimit) | true ↦ SetsValue s (spot_of r) (record { host = s.id; lver = g.lver; seq = n; bytes = bytes }) ])
  by true low = tt
  by false high =
      inr (inr (inr (
        h.at,
        with_session y s
            (λ s. WithSpot y (λ r at. (p : ℕ) × (bytes : List ℕ) × job_command y (λ c. c ≡ SetLvb r p bytes)
            × IsSomeAnd (exclusive_on (before_entry y) s at) (λ g. record_numbers ≤ next_value_seq y.setting (before_entry y) s at g.lver))) found
            (with_spot y (SetLvb r p bytes) r
            (λ r at. (p : ℕ) × (bytes : List ℕ) × job_command y (λ c. c ≡ SetLvb r p bytes)
            × IsSomeAnd (exclusive_on (before_entry y) s at) (λ g. record_numbers ≤ next_value_seq y.setting (before_entry y) s at g.lver)) h.command refl (
              p,
              bytes,
              with_command y (SetLvb r p bytes) (λ c. c ≡ SetLvb r p bytes) h.command refl,
              subst (λ o. IsSomeAnd o (λ g. record_numbers ≤ next_value_seq y.setting (before_entry y) s (spot_of r) g.lver)) (sym (exclusive_held y (SetLvb r p bytes) s (spot_of r) p g h held)) (not_number n high),
            )),
      )))

-- ---- lockspaces

-- What only tells of a session.
report_well : (y : Answering) (c : Command) (a : LockspaceArg) (answer : Session → Reply) → AtLine y c → lockspace_named c ≡ Some a.name → is_joining_command c ≡ false → lockspace_arg c ≡ Some a
    → ((s : Session) → the_session y ≡ Some s → is_session_arg s a ≡ true → is_active y.setting (before_entry y) s ≡ true → CausedBy y (answer s))
    → WellDecided y (where_session (matching_session y.setting (before_entry y) a) (λ s. unless_refused (session_refusal y.setting (before_entry y) s ∷ []) (Replies (answer s))))
report_well y c a answer h names other arg cause =
    where_matched y c a (λ s. session_refusal y.setting (before_entry y) s ∷ []) (λ s. Replies (answer s)) h names other arg (λ s found. (session_well y c s h found, tt))
    (λ s found right none. cause s found right (session_active y.setting (before_entry y) s none.0))

leave_well : (y : Answering) (a : LockspaceArg) → AtLine y (RemLockspace a)
    → WellDecided y (where_session (matching_session y.setting (before_entry y) a) (λ s. unless_refused (session_refusal y.setting (before_entry y) s ∷ orphan_refusal (before_entry y) s ∷ leave_refusal (before_entry y) s ∷ []) (Leaves s)))
leave_well y a h =
    where_matched y c a (λ s. session_refusal y.setting t s ∷ orphan_refusal t s ∷ leave_refusal t s ∷ []) (λ s. Leaves s) h refl refl refl (λ s found. (session_well y c s h found, (orphans s found, (last s found, tt)))) (λ s found right none. tt)
  where
    c : Command
    c = RemLockspace a

    t : Trace
    t = before_entry y

    orphans : (s : Session) → the_session y ≡ Some s → (why : Reply) → orphan_refusal t s ≡ Some why → CausedBy y why
    orphans s found why is =
        let v = choose_some (list_any is_orphan (holdings_of t s)) (Busy 0) why is in
        subst (λ q. CausedBy y q) v.1 (
          h.at,
          inr (inr (inr (with_session y s (λ s. (a : LockspaceArg) × job_command y (λ c. c ≡ RemLockspace a) × IsTrue (list_any is_orphan (holdings_of (before_entry y) s)) × (0 ≡ 0)) found
              (a, with_command y c (λ c. c ≡ RemLockspace a) h.command refl, v.0, refl)))),
        )

    last : (s : Session) → the_session y ≡ Some s → (why : Reply) → leave_refusal t s ≡ Some why → CausedBy y why
    last s found why is =
        let v = choose_some (not (is_number (last_seq t s + 1))) (LimitReached SeqLimit) why is in
        subst (λ q. CausedBy y q) v.1
        (inr (inr (inl (
          h.at,
          with_session y s (λ s. (a : LockspaceArg) × job_command y (λ c. c ≡ RemLockspace a) × (record_numbers ≤ last_seq (before_entry y) s + 1)) found
              (a, with_command y c (λ c. c ≡ RemLockspace a) h.command refl, not_number (last_seq t s + 1) (not_is (is_number (last_seq t s + 1)) v.0)),
        ))))

add_well : (y : Answering) (a : LockspaceArg) → AtLine y (AddLockspace a)
    → WellDecided y (unless_refused (joined_refusal y.setting (before_entry y) (session_named y.setting (before_entry y) a.name)
    ∷ choose (nat_le most_lockspaces (length (present_sessions y.setting (before_entry y)))) (LimitReached Lockspaces) ∷ []) (Joins (length (sessions y.setting (before_entry y))) a))
add_well y a h =
    unless_well y (joined_refusal y.setting t (session_named y.setting t a.name) ∷ choose (nat_le most_lockspaces (length (present_sessions y.setting t))) (LimitReached Lockspaces) ∷ []) (Joins (length (sessions y.setting t)) a)
    (joined, (full, tt)) (λ none. tt)
  where
    c : Command
    c = AddLockspace a

    t : Trace
    t = before_entry y

    of : (s : Session) → the_session y ≡ Some s → (why : Reply) → (o : Option Reply) → session_refusal y.setting t s ≡ o → option_or o (Some (Joined (generation_of t s))) ≡ Some why → CausedBy y why
    of s found why (Some r) refuses is = session_well y c s h found why (refuses ∙ is)
    of s found why None active is =
        subst (λ q. CausedBy y q) (some_value (Joined (generation_of t s)) why is) (
          h.at,
          with_command y c (λ c. IsTrue (is_joining_command c)) h.command refl,
          with_session y s (λ z. IsTrue (is_active y.setting (before_entry y) z) × (generation_of (before_entry y) z ≡ generation_of t s)) found (session_active y.setting t s active, refl),
        )

    named : (why : Reply) (o : Option Session) → the_session y ≡ o → joined_refusal y.setting t o ≡ Some why → CausedBy y why
    named why None found is = absurd (none_some why is)
    named why (Some s) found is = of s found why (session_refusal y.setting t s) refl is

    joined : (why : Reply) → joined_refusal y.setting t (session_named y.setting t a.name) ≡ Some why → CausedBy y why
    joined why is = named why (session_named y.setting t a.name) (session_is y c a.name h.command refl) is

    full : (why : Reply) → choose (nat_le most_lockspaces (length (present_sessions y.setting t))) (LimitReached Lockspaces) ≡ Some why → CausedBy y why
    full why is =
        let v = choose_some (nat_le most_lockspaces (length (present_sessions y.setting t))) (LimitReached Lockspaces) why is in
        subst (λ q. CausedBy y q) v.1 (h.at, with_command y c (λ c. IsTrue (is_joining_command c)) h.command refl, at_most most_lockspaces (length (present_sessions y.setting t)) v.0)

-- ---- kill programs

killpath_well : (y : Answering) (p : ℕ) (path : List ℕ) → AtLine y (SetKillpath p path)
    → WellDecided y (unless_refused (process_refusal (before_entry y) p ∷ choose (is_killpath_limit y.setting (before_entry y) p) (LimitReached Killpaths) ∷ []) (Replies Done))
killpath_well y p path h =
    unless_well y (process_refusal t p ∷ choose (is_killpath_limit y.setting t p) (LimitReached Killpaths) ∷ []) (Replies Done) (process_well y c p h refl, (full, tt))
    (λ none. with_command y c (λ d. IsDoneFor y d) h.command (h.at, acts (may_act t p) none.0, fits (is_killpath_limit y.setting t p) none.1.0))
  where
    c : Command
    c = SetKillpath p path

    t : Trace
    t = before_entry y

    acts : (b : Bool) → choose (not b) (NoProcess p) ≡ None → b ≡ true
    acts true is = refl
    acts false is = absurd (none_some (NoProcess p) (sym is))

    fits : (b : Bool) → choose b (LimitReached Killpaths) ≡ None → b ≡ false
    fits false is = refl
    fits true is = absurd (none_some (LimitReached Killpaths) (sym is))

    full : (why : Reply) → choose (is_killpath_limit y.setting t p) (LimitReached Killpaths) ≡ Some why → CausedBy y why
    full why is =
        let v = choose_some (is_killpath_limit y.setting t p) (LimitReached Killpaths) why is in
        subst (λ q. CausedBy y q) v.1
        (h.at, with_command y c (λ c. (p : ℕ) × (path : List ℕ) × (c ≡ SetKillpath p path) × IsTrue (is_killpath_limit y.setting (before_entry y) p)) h.command (p, path, refl, v.0))

-- ---- all commands

not_the_same : (a b : Bool) → same_truth a b ≡ false → b ≢ a
not_the_same true true is same = true_is_false is
not_the_same false false is same = true_is_false is
not_the_same true false is same = false_is_true same
not_the_same false true is same = true_is_false same

is_shared_one : (b : Bool) → not b ≡ false → b ≡ true
is_shared_one true is = refl
is_shared_one false is = absurd (true_is_false is)

pub lines_are_caused : LinesAreCaused
unfolding decided
lines_are_caused y (AddLockspace a) h = add_well y a h
lines_are_caused y (RemLockspace a) h = leave_well y a h
lines_are_caused y (InqLockspace a) h =
    report_well y (InqLockspace a) a (λ s. Generation (generation_of (before_entry y) s)) h refl refl refl
    (λ s found right active. inl (
      h.at,
      (
        a,
        with_command y (InqLockspace a) (λ c. c ≡ InqLockspace a) h.command refl,
        with_session y s (λ z. IsTrue (is_session_arg z a) × IsTrue (is_active y.setting (before_entry y) z) × (generation_of (before_entry y) z ≡ generation_of (before_entry y) s)) found (right, active, refl),
      ),
    ))
lines_are_caused y (HostStatus a) h =
    report_well y (HostStatus a) a (λ s. Hosts (states_seen y.setting (before_entry y) s y.entry.reading)) h refl refl refl
    (λ s found right active. (
      h.at,
      (
        a,
        with_command y (HostStatus a) (λ c. c ≡ HostStatus a) h.command refl,
        with_session y s
            (λ z. IsTrue (is_session_arg z a) × IsTrue (is_active y.setting (before_entry y) z) × (states_seen y.setting (before_entry y) z y.entry.reading ≡ states_seen y.setting (before_entry y) s y.entry.reading)) found
            (right, active, refl),
      ),
    ))
lines_are_caused y (Acquire r shared p persistent) h = acquire_well y (Acquire r shared p persistent) r (Some p) false h refl refl refl refl refl refl
lines_are_caused y (TakeOver r shared p persistent) h =
    orphan_well y (TakeOver r shared p persistent) r (Some p) (λ g. same_truth shared (is_shared g.mode)) (option_map (λ q. Busy q) (holds_already (before_entry y) (spot_of r) p) ∷ []) (λ s g. TakesOver s g) h refl refl refl refl refl
    (λ g miss. (refl, not_the_same shared (is_shared g.mode) miss)) (already_well y (TakeOver r shared p persistent) r p h refl refl refl, tt) (λ s g. tt)
lines_are_caused y (RunProgram r shared path) h = acquire_well y (RunProgram r shared path) r None true h refl refl refl refl refl refl
lines_are_caused y (Release r p) h = holder_well y (Release r p) r p (λ g. true) (λ s g. GivesUp s g) h refl refl refl refl refl (λ g miss. absurd (true_is_false miss)) (λ s g found held. tt)
lines_are_caused y (ReleaseOrphan r) h = orphan_well y (ReleaseOrphan r) r None (λ g. true) [] (λ s g. GivesUp s g) h refl refl refl refl refl (λ g miss. absurd (true_is_false miss)) tt (λ s g. tt)
lines_are_caused y (Convert r shared p) h = convert_well y r shared p h
lines_are_caused y (Request r lver how) h =
    where_named y (Request r lver how) r.lockspace (λ s. session_refusal y.setting (before_entry y) s ∷ pending_refusal y.setting (before_entry y) (spot_of r) ∷ []) (λ s. Requests s r) h refl refl
    (λ s found. (session_well y (Request r lver how) s h found, (pending_well y (Request r lver how) r h refl, tt))) (λ s found none. tt)
lines_are_caused y (GetLvb r p) h = holder_well y (GetLvb r p) r p (λ g. true) (λ s g. GetsValue s (spot_of r)) h refl refl refl refl refl (λ g miss. absurd (true_is_false miss)) (λ s g found held. tt)
lines_are_caused y (SetLvb r p bytes) h =
    holder_well y (SetLvb r p bytes) r p (λ g. not (is_shared g.mode)) (λ s g. setting_value s (spot_of r) g (next_value_seq y.setting (before_entry y) s (spot_of r) g.lver) bytes) h refl refl refl refl refl
    (λ g miss. (p, bytes, refl, is_shared_one (is_shared g.mode) miss)) (λ s g found held. value_well y r p bytes s g h found held)
lines_are_caused y (SetKillpath p path) h = killpath_well y p path h
lines_are_caused y Status h = (h.at, with_command y Status (λ c. c ≡ Status) h.command refl, refl)
