-- The causes of grants that a lease's work gives: the leader that was taken, the leader that was freed, and what is converted.
use Rattle.sl_due_facts.proofs.Acts.InputsKeep.{has_heard}
use Rattle.sl_due_facts.proofs.Acts.Pairs.Records.{block_lver, written_block}
use Rattle.sl_due_facts.specs.Acts.Acts.{Hears}
use Rattle.sl_due_law.proofs.Causes.AnsweredJobs.{AnswersHere, answers_here, its_command, told_not_waking, with_command}
use Rattle.sl_due_law.proofs.Causes.LaterSteps.{AnyMove, Going, MayAnswer, MayCall, MayStart, after_that, begins, by_effects, going, last_caused, no_line, still_caused, told_no_line}
use Rattle.sl_due_law.proofs.Causes.Leases.LeaseAnswers.{was_joined}
use Rattle.sl_due_law.proofs.Causes.NamesBefore.{early_entry, session_then, with_session}
use Rattle.sl_due_law.specs.Causes.CausedSoFar.{CausedSoFar, HasCause, IsAtOnce, IsCarried, IsConcluded, IsLater, StaysCaused, answering}
use Rattle.sl_due.specs.CarriedLease.{carry_lease, convert_holding, grant_for, grant_of, held_otherwise, name_on, next_of_lease, next_turn}
use Rattle.sl_due.specs.Steps.{Step, add_call_of, add_grant, add_reply, seen, with_effects, with_some}
use Rattle.sl_due_leases.proofs.Holdings.HoldingFactsBegin.{none_ended}
use Rattle.sl_due_leases.proofs.Holdings.LeaseCallers.{heard_call, heard_opens, spot_aligned}
use Rattle.sl_due_leases.proofs.Holdings.LeaseConversions.{after_converting, by_found, converted, otherwise, spot_is}
use Rattle.sl_due_leases.proofs.Holdings.LeaseNexts.{IsFitNext, IsGrantOf, next_fits}
use Rattle.sl_due_leases.proofs.Holdings.PlainPlaces.{one_place}
use Rattle.sl_due_leases.specs.Holdings.Moments.{Known}
use Rattle.sl_area.specs.AreaLayout.{block_place, leader_offset}
use Rattle.sl_area.specs.AreaRecords.{block_record, leader_record}
use Rattle.sl_due_facts.proofs.Jobs.EffectsAreAllowed.{grants_for}
use Rattle.sl_due_facts.proofs.Jobs.CallsStay.{late}
use Rattle.sl_run.specs.Caused.{Answering, GrantsTo, IsGrantedFor, WroteAt, before_entry, converting_step, the_session}
use Rattle.sl_trace.specs.Jobs.{aim_of, aim_of_command, command_numbered}
use Rattle.sl_trace.specs.LeaseDecisions.{lease_place}
use Rattle.sl_trace.specs.Leases.{base_turn, block_submitted, verified_name, Leader_freed, Leader_taken, Mode_set, StepKind, block_written, exclusive_on, holdings_on, kind_of_step, known, lease_calls, lease_step, lver_written, same_kind, spot_of, spot_of_call}
use Rattle.sl_trace.specs.declared.lease.Aim.TheVariants.{Acquires, Converts, Releases, Settles}
use Rattle.sl_trace.specs.declared.lease.Aim.{Aim}
use Rattle.sl_trace.specs.declared.lease.LeaseNext.TheVariants.{BecomeExclusive, BecomeShared, GrantJob}
use Rattle.sl_due_facts.proofs.Jobs.JobFactsGrow.{contains_right}
use Rattle.sl_words.proofs.Lists.{contains_first, find_inside, got_inside, kept_inside}
use Rattle.sl_words.proofs.Options.{then_value}
use Rattle.sl_sector.specs.declared.sector.Block.{Block}
use Rattle.sl_sector.specs.declared.sector.Leader.{Leader}
use Rattle.sl_trace.specs.Sessions.{holdings_of, is_joined, session_numbered, sessions}
use Rattle.sl_trace.specs.declared.session.Session.{Session}
use Rattle.sl_due_facts.specs.Facts.JobFacts.{FitsCommand}
use Rattle.sl_due_facts.specs.Facts.WayFacts.{After_mode, After_take, FreeReason, In_conversion, In_release, In_settling, ModeReason, ModeWay, PurposeWay, StepWay, WayContext, Ways, way_context}
use Rattle.sl_due_facts.specs.Facts.AllFacts.{WholeTrace}
use Rattle.sl_trace.specs.Traces.{Job, Submitted, Trace, holdings, is_before_input, is_ended_by, end_of, is_shared, job_numbered, job_of, same_place}
use Rattle.sl_trace.specs.declared.command.Command.TheVariants.{Acquire, AddLockspace, Convert, GetLvb, HostStatus, InqLockspace, Release, ReleaseOrphan, RemLockspace, Request, RunProgram, SetKillpath, SetLvb, Status, TakeOver}
use Rattle.sl_trace.specs.declared.command.Command.{Command}
use Rattle.sl_trace.specs.declared.command.ResourceArg.{ResourceArg}
use Rattle.sl_trace.specs.declared.effects.Effects.{Effects}
use Rattle.sl_trace.specs.declared.effects.Grant.{Grant}
use Rattle.sl_trace.specs.declared.effects.JobReply.{JobReply}
use Rattle.sl_trace.specs.declared.effects.Op.TheVariants.{WriteRecord}
use Rattle.sl_trace.specs.declared.effects.Op.{Op}
use Rattle.sl_trace.specs.declared.input.Input.TheVariants.{Wake}
use Rattle.sl_trace.specs.declared.input.Input.{Input}
use Rattle.sl_trace.specs.declared.effects.Start.{Start}
use Rattle.sl_trace.specs.declared.effects.LeaseStep.TheVariants.{ClearMode, FreeLeader, SetMode, TakeLeader}
use Rattle.sl_trace.specs.declared.effects.LeaseStep.{LeaseStep}
use Rattle.sl_trace.specs.declared.effects.Mode.TheVariants.{Exclusive, Shared}
use Rattle.sl_trace.specs.declared.effects.Mode.{Mode}
use Rattle.sl_trace.specs.declared.effects.Purpose.TheVariants.{Lease}
use Rattle.sl_trace.specs.declared.effects.Purpose.{Purpose}
use Rattle.sl_trace.specs.declared.effects.Spot.{Spot}
use Rattle.sl_trace.specs.declared.effects.Work.TheVariants.{ForJob, Settling}
use Rattle.sl_trace.specs.declared.input.Answer.TheVariants.{Written}
use Rattle.sl_trace.specs.declared.input.Answer.{Answer}
use Rattle.sl_trace.specs.declared.reply.Reply.TheVariants.{Granted}
use Rattle.sl_trace.specs.declared.reply.Reply.{Reply}
use Rattle.sl_words.proofs.CaseLaws.{one_value, false_is_true, none_some, not_both, some_value}
use Rattle.sl_due_facts.proofs.Acts.AddedAtEnd.{not_is}
use Rattle.sl_trace.specs.Ballots.{moded_block}
use Rattle.sl_words.specs.Words.{same_truth, some_is}
use Rattle.std.proofs.lemmas.Bool.{eqb-true}
use Rattle.std.proofs.lemmas.List.{append-nil}
use Rattle.std.proofs.Common.{ap, inl, inr, refl, subst, sym, ◌∙◌}
use Rattle.std.specs.Prelude.{Bool, Contains, List, None, Ok, Option, Some, [], false, filter, is_some, not, option_map, true, ℕ, ◌&&◌, ◌++◌, ◌+◌, ◌==◌, ◌∷◌, ◌≡◌, ◌⊎◌}

-- A write of a lease's job that was answered ok.
pub record WriteHeard (x : Step) (s : Session) (m : Submitted) (j : ℕ) (step : LeaseStep) (c : Command) : Type 0 where
  pub known : Known x
  pub hears : Hears x s m Written
  pub purpose : m.call.purpose ≡ Lease (ForJob j) step
  pub reads : command_numbered x.setting (seen x) j ≡ Some c

abbrev no_explained : Reply → Bool
no_explained r = false

-- The step with one more grant and its reply is a later one.
granted_later : (x : Step) (j n : ℕ) (g : Grant) → IsLater x (add_reply j (Granted n) (add_grant g x))
granted_later x j n g =
    ((going no_explained x).replies (add_grant g x) j (Granted n) (late x (Granted n) refl, λ never. absurd (false_is_true never)) ((going no_explained x).grants x g (begins no_explained x))).later

-- The job's process is granted what its command asks.
grants_it : (x : Step) (s : Session) (j : ℕ) (r : ResourceArg) (p : ℕ) (shared persistent : Bool) (mode : Mode) (n : ℕ) (fx : Effects) (job : Job) → is_shared mode ≡ shared
    → IsCarried (add_reply j (Granted n) (add_grant (grant_of s r p mode n persistent) x)) (with_effects x fx) → GrantsTo (answering (with_effects x fx) job) r p shared persistent n
grants_it x s j r p shared persistent mode n fx job same carried =
    let g : Grant = grant_of s r p mode n persistent in
    (g, carried.granted g (contains_right x.effects.grants (g ∷ []) g (contains_first g [])), refl, one_place r.path r.offset, same, refl, refl)

wrote_it : (x : Step) (s : Session) (m : Submitted) (j : ℕ) (step : LeaseStep) (c : Command) → WriteHeard x s m j step c → (z : Step) → IsLater x z → (job : Job) → job_numbered z.setting (seen z) j ≡ Some job
    → (kind : StepKind) → same_kind (kind_of_step step) kind ≡ true → (n : ℕ) → lver_written m ≡ n → WroteAt (answering z job) kind n
wrote_it x s m j step c h z later job found kind same n is =
    let a : AnswersHere x m Written j z job = answers_here x s m Written j h.known h.hears (ap (λ p. job_of p) h.purpose) z later job found in
    (m, a.call, (ap (λ p. some_is (λ q. same_kind (kind_of_step q.1) kind) (lease_step p)) h.purpose ∙ same, is))

-- An acquire, by its mode.
acquire_caused : (x : Step) (s : Session) (m : Submitted) (j : ℕ) (step : LeaseStep) (r : ResourceArg) (p : ℕ) (shared persistent : Bool) (mode : Mode) (n : ℕ) → WriteHeard x s m j step (Acquire r shared p persistent)
    → lver_written m ≡ n → is_shared mode ≡ shared → ((step ≡ TakeLeader) × (shared ≡ false)) ⊎ ((step ≡ FreeLeader) × (shared ≡ true))
    → StaysCaused (add_reply j (Granted n) (add_grant (grant_of s r p mode n persistent) x)) (record { job = j; reply = Granted n })
acquire_caused x s m j step r p shared persistent mode n h wrote same which =
    by_effects zz (record { job = j; reply = Granted n }) (told_not_waking x s m Written h.hears)
    (λ fx carried job found. with_command (answering (with_effects x fx) job) (Acquire r shared p persistent) (IsGrantedFor (answering (with_effects x fx) job) n) (command fx carried job found) (by_mode fx carried job found shared refl which)) where
      zz : Step
      zz = add_reply j (Granted n) (add_grant (grant_of s r p mode n persistent) x)

      later : (fx : Effects) → IsCarried zz (with_effects x fx) → IsLater x (with_effects x fx)
      later fx carried = after_that x zz (with_effects x fx) (granted_later x j n (grant_of s r p mode n persistent)) (record { setting = refl; before = refl; reading = refl; carried = λ told. carried })

      command : (fx : Effects) → IsCarried zz (with_effects x fx) → (job : Job) → job_numbered x.setting (seen (with_effects x fx)) j ≡ Some job → job.command ≡ Ok (Acquire r shared p persistent)
      command fx carried job found =
          its_command x.setting (seen x) j job (Acquire r shared p persistent) (answers_here x s m Written j h.known h.hears (ap (λ q. job_of q) h.purpose) (with_effects x fx) (later fx carried) job found).found h.reads

      wrote_as : (fx : Effects) → IsCarried zz (with_effects x fx) → (job : Job) → job_numbered x.setting (seen (with_effects x fx)) j ≡ Some job → (kind : StepKind) → same_kind (kind_of_step step) kind ≡ true
          → WroteAt (answering (with_effects x fx) job) kind n
      wrote_as fx carried job found kind is = wrote_it x s m j step (Acquire r shared p persistent) h (with_effects x fx) (later fx carried) job found kind is n wrote

      by_mode : (fx : Effects) → IsCarried zz (with_effects x fx) → (job : Job) → job_numbered x.setting (seen (with_effects x fx)) j ≡ Some job → (b : Bool) → shared ≡ b → ((step ≡ TakeLeader) × (shared ≡ false)) ⊎ ((step ≡ FreeLeader) × (shared ≡ true))
          → IsGrantedFor (answering (with_effects x fx) job) n (Acquire r b p persistent)
      by_mode fx carried job found false is (inl v) =
          (grants_it x s j r p false persistent mode n fx job (same ∙ is) carried, wrote_as fx carried job found Leader_taken (ap (λ q. same_kind (kind_of_step q) Leader_taken) v.0))
      by_mode fx carried job found true is (inr v) =
          (grants_it x s j r p true persistent mode n fx job (same ∙ is) carried, inr (wrote_as fx carried job found Leader_freed (ap (λ q. same_kind (kind_of_step q) Leader_freed) v.0)))
      by_mode fx carried job found true is (inl v) = absurd (not_both shared is v.1)
      by_mode fx carried job found false is (inr v) = absurd (not_both shared v.1 is)

-- ---- why the write was made

-- The way of the call.
way : (x : Step) (s : Session) (m : Submitted) (j : ℕ) (step : LeaseStep) (c : Command) → (h : WriteHeard x s m j step c) → (ms : List Submitted) → lease_calls x.setting (seen x) s (spot_of_call x.setting.layout m) ≡ m ∷ ms
    → StepWay (way_context x.setting (seen x) s) (ForJob j) m.at m.call ms step
way x s m j step c h ms newest =
    let has = has_heard x s m Written h.hears in
    let there : Contains (sessions x.setting (seen x)) s = got_inside (sessions x.setting (seen x)) s.number s has in
    let all : Ways (way_context x.setting (seen x) s) (m ∷ ms) =
    subst (λ ks. Ways (way_context x.setting (seen x) s) ks) newest (h.known.0.facts.ways.each s (spot_of_call x.setting.layout m) there (spot_aligned x.setting.layout m)) in
    subst (λ (p : Purpose). PurposeWay (way_context x.setting (seen x) s) m.at m.call ms p) h.purpose all.0.way

-- ---- the shared mode

-- Whose leader was freed for a job that acquires wanted the shared mode.
pub freed_shared : (x : Step) (s : Session) (m : Submitted) (j : ℕ) (c : Command) (mode : Mode) → WriteHeard x s m j FreeLeader c → aim_of x.setting (seen x) (ForJob j) ≡ Some (Acquires mode) → mode ≡ Shared
freed_shared x s m j c mode h aims = by (way x s m j FreeLeader c h newest.0 newest.1).why where
  newest : (ms : List Submitted) × (lease_calls x.setting (seen x) s (spot_of_call x.setting.layout m) ≡ m ∷ ms)
  newest = h.known.0.facts.turns.newest s m h.hears.session (heard_call x s m Written h.hears).0 (heard_opens x s m Written h.hears) (ap (λ p. is_some (lease_step p)) h.purpose)

  by : {n : ℕ} {ms : List Submitted} → FreeReason (way_context x.setting (seen x) s) (ForJob j) m.at n ms → mode ≡ Shared
  by (After_mode after shared done lver) = acquired_mode (one_value (Acquires mode) (Acquires Shared) (aim_of x.setting (seen x) (ForJob j)) aims shared) where
    acquired_mode : {a b : Mode} → Acquires a ≡ Acquires b → a ≡ b
    acquired_mode is = cc
  by (In_release releases) = absurd (apart (one_value (Acquires mode) Releases (aim_of x.setting (seen x) (ForJob j)) aims releases)) where
    apart : {a : Mode} → Acquires a ≡ Releases → ⊥
    apart is = cc
  by (In_settling settles) = absurd (apart (one_value (Acquires mode) Settles (aim_of x.setting (seen x) (ForJob j)) aims settles)) where
    apart : {a : Mode} → Acquires a ≡ Settles → ⊥
    apart is = cc

-- ---- conversions

opposite : (a b : Bool) → same_truth a b ≡ false → a ≡ not b
opposite true false is = refl
opposite false true is = refl
opposite true true is = absurd (false_is_true (sym is))
opposite false false is = absurd (false_is_true (sym is))

-- What was held before an input is held where nothing was granted or ended since.
pub held_early : (past : Trace) (now : ℕ) (ks : List Start) (rs : List JobReply) → holdings (early_entry now ks rs ∷ past) ≡ holdings past
held_early past now ks rs = append-nil (filter (λ g. not (is_ended_by [] g)) (holdings past)) ∙ none_ended (holdings past)

pub held_past : (x : Step) → x.effects.ends ≡ [] → x.effects.grants ≡ [] → holdings (seen x) ≡ holdings x.past
held_past x ends grants =
    ap (λ es. filter (λ g. not (is_ended_by es g)) (holdings x.past) ++ x.effects.grants) ends
    ∙ (ap (λ gs. filter (λ g. not (is_ended_by [] g)) (holdings x.past) ++ gs) grants ∙ (append-nil (filter (λ g. not (is_ended_by [] g)) (holdings x.past)) ∙ none_ended (holdings x.past)))

-- A holding in its new mode, by the last write; any call may come behind it.
convert_caused : (x : Step) (fz : Effects) (s : Session) (m : Submitted) (j : ℕ) (step : LeaseStep) (r : ResourceArg) (shared : Bool) (p : ℕ) (mode : Mode) (n : ℕ) (g : Grant) → WriteHeard x s m j step (Convert r shared p)
    → WholeTrace x.setting x.past → held_otherwise (seen x) s (spot_of_call x.setting.layout m) p mode ≡ Some g → is_shared mode ≡ shared → r.lockspace ≡ s.lockspace → spot_of_call x.setting.layout m ≡ spot_of r
    → same_kind (kind_of_step step) (converting_step shared) ≡ true → lver_written m ≡ n → IsLater x (with_effects x fz) → Contains fz.grants (converted g mode n)
    → StaysCaused (with_effects x fz) (record { job = j; reply = Granted n })
convert_caused x fz s m j step r shared p mode n g h w held wants space spot kind wrote first given =
    by_effects (with_effects x fz) (record { job = j; reply = Granted n }) (told_not_waking x s m Written h.hears) at_effects
  where
    at : Spot
    at = spot_of_call x.setting.layout m

    was : Contains (holdings (seen x)) g × (g.session ≡ s.number) × (same_place g.path g.offset at.path at.base ≡ true) × (g.process ≡ p) × (same_truth (is_shared g.mode) (is_shared mode) ≡ false)
    was = otherwise x s at p mode g held

    there : Contains (holdings_on (seen x) s at) g
    there = (find_inside (λ (q : Grant). q.process == p && not (same_truth (is_shared q.mode) (is_shared mode))) (holdings_on (seen x) s at) g held).0

    place : same_place g.path g.offset r.path r.offset ≡ true
    place = subst (λ (q : Spot). same_place g.path g.offset q.path q.base ≡ true) spot was.2

    joined : Contains (sessions x.setting x.past) s × (is_joined x.past s ≡ true)
    joined = was_joined x s m Written (ForJob j) step h.known (has_heard x s m Written h.hears) h.hears h.purpose

    at_effects : (fx : Effects) → IsCarried (with_effects x fz) (with_effects x fx) → HasCause (with_effects x fx) (record { job = j; reply = Granted n })
    at_effects fx carried job found =
        with_command y (Convert r shared p) (IsGrantedFor y n) command
        (inr (
          with_session y s (λ s. (q : Grant) × Contains (holdings_on (before_entry y) s (spot_of r)) q × ((q.process ≡ p) × (is_shared q.mode ≡ not shared) × GrantsTo y r p shared q.persistent n)) session
              (g, early, (was.3, opposite (is_shared g.mode) shared (ap (λ b. same_truth (is_shared g.mode) b) (sym wants) ∙ was.4), (converted g mode n, carried.granted (converted g mode n) given, was.3, place, wants, refl, refl))),
          wrote_it x s m j step (Convert r shared p) h z later job found (converting_step shared) kind n wrote,
        ))
      where
        z : Step
        z = with_effects x fx

        y : Answering
        y = answering (with_effects x fx) job

        later : IsLater x (with_effects x fx)
        later = after_that x (with_effects x fz) (with_effects x fx) first (record { setting = refl; before = refl; reading = refl; carried = λ told. carried })

        command : job.command ≡ Ok (Convert r shared p)
        command = its_command x.setting (seen x) j job (Convert r shared p) (answers_here x s m Written j h.known h.hears (ap (λ q. job_of q) h.purpose) (with_effects x fx) later job found).found h.reads

        session : the_session y ≡ Some s
        session = session_then y (Convert r shared p) s w joined.0 joined.1 command (ap (λ k. Some k) space)

        early : Contains (holdings_on (before_entry y) s (spot_of r)) g
        early =
            subst (λ (q : Spot). Contains (holdings_on (before_entry y) s q) g) spot
            (subst (λ hs. Contains (filter (λ (q : Grant). same_place q.path q.offset at.path at.base) (filter (λ (q : Grant). q.session == s.number) hs)) g)
            (held_past x h.hears.unended h.hears.ungranted ∙ sym (held_early x.past x.reading (filter (λ (k : Start). is_some k.stands_for) fx.starts) (filter (λ (a : JobReply). is_before_input a.reply) fx.replies))) there)

-- The block that sets the mode is in the instance that is held.
mode_of_held : (x : Step) (s : Session) (m : Submitted) (j : ℕ) (c : Command) (e : ℕ) → WriteHeard x s m j SetMode c → option_map (λ (g : Grant). g.lver) (exclusive_on (seen x) s (spot_of_call x.setting.layout m)) ≡ Some e → lver_written m ≡ e
mode_of_held x s m j c e h held = by (exclusive_on (seen x) s at) refl held where
  at : Spot
  at = spot_of_call x.setting.layout m

  newest : (ms : List Submitted) × (lease_calls x.setting (seen x) s at ≡ m ∷ ms)
  newest = h.known.0.facts.turns.newest s m h.hears.session (heard_call x s m Written h.hears).0 (heard_opens x s m Written h.hears) (ap (λ p. is_some (lease_step p)) h.purpose)

  moded : ModeWay (way_context x.setting (seen x) s) (ForJob j) m.at m.call newest.0
  moded = way x s m j SetMode c h newest.0 newest.1

  b : Block
  b = moded_block moded.own true (way_context x.setting (seen x) s).self.generation

  w : WayContext
  w = way_context x.setting (seen x) s

  turn : ℕ
  turn = base_turn w.layout w.self.id newest.0 + 1

  wrote : block_written m ≡ Some b
  wrote = written_block w.layout turn w.lockspace (verified_name w.layout w.lockspace newest.0) m b moded.wrote

  lver : lver_written m ≡ b.lver
  lver = block_lver w.layout turn w.lockspace (verified_name w.layout w.lockspace newest.0) m b moded.wrote

  last : block_submitted (lease_calls x.setting (seen x) s at) ≡ Some b
  last = ap (λ ms. block_submitted ms) newest.1 ∙ ap (λ o. elim o as (λ z. Option Block) [ Some k ↦ Some k | None ↦ block_submitted newest.0 ]) wrote

  by : (o : Option Grant) → exclusive_on (seen x) s at ≡ o → option_map (λ (g : Grant). g.lver) o ≡ Some e → lver_written m ≡ e
  by None is has = absurd (none_some e has)
  by (Some g) is has =
      let f = find_inside (λ (q : Grant). not (is_shared q.mode)) (holdings_on (seen x) s at) g is in
      let on = kept_inside (λ (q : Grant). same_place q.path q.offset at.path at.base) (holdings_of (seen x) s) g f.0 in
      let of = kept_inside (λ (q : Grant). q.session == s.number) (holdings (seen x)) g on.0 in
      let its : session_numbered x.setting (seen x) g.session ≡ Some s = ap (λ n. session_numbered x.setting (seen x) n) (eqb-true g.session s.number of.1) ∙ has_heard x s m Written h.hears in
      let stands = h.known.0.facts.holdings.stands g s of.0 its (not_is (is_shared g.mode) f.1) in
      let same : stands.own ≡ b =
      one_value stands.own b (block_submitted (lease_calls x.setting (seen x) s at)) (subst (λ (q : Spot). block_submitted (lease_calls x.setting (seen x) s q) ≡ Some stands.own) (spot_is g at on.1) stands.known) last in
      lver ∙ (ap (λ (k : Block). k.lver) (sym same) ∙ (stands.under.0 ∙ some_value g.lver e has))

-- The own block is given the shared mode for a job that converts to it.
moded_shared : (x : Step) (s : Session) (m : Submitted) (j : ℕ) (c : Command) (mode : Mode) → WriteHeard x s m j SetMode c → aim_of x.setting (seen x) (ForJob j) ≡ Some (Converts mode) → mode ≡ Shared
moded_shared x s m j c mode h aims = by (way x s m j SetMode c h newest.0 newest.1).why where
  newest : (ms : List Submitted) × (lease_calls x.setting (seen x) s (spot_of_call x.setting.layout m) ≡ m ∷ ms)
  newest = h.known.0.facts.turns.newest s m h.hears.session (heard_call x s m Written h.hears).0 (heard_opens x s m Written h.hears) (ap (λ p. is_some (lease_step p)) h.purpose)

  by : {own : Block} {ms : List Submitted} → ModeReason (way_context x.setting (seen x) s) (ForJob j) m.at own ms → mode ≡ Shared
  by (After_take after acquires done lver) = absurd (apart (one_value (Converts mode) (Acquires Shared) (aim_of x.setting (seen x) (ForJob j)) aims acquires)) where
    apart : {a b : Mode} → Converts a ≡ Acquires b → ⊥
    apart is = cc
  by (In_conversion converts) = converted_mode (one_value (Converts mode) (Converts Shared) (aim_of x.setting (seen x) (ForJob j)) aims converts) where
    converted_mode : {a b : Mode} → Converts a ≡ Converts b → a ≡ b
    converted_mode is = cc

-- ---- what a lease's work that gives a grant leads to

-- The work of a job goes on after an answer.
pub record JobLed (these : Input → Reply → Bool) (x : Step) (s : Session) (m : Submitted) (answer : Answer) (j : ℕ) (step : LeaseStep) (aim : Aim) : Type 0 where
  pub known : Known x
  pub caused : CausedSoFar these x
  pub hears : Hears x s m answer
  pub purpose : m.call.purpose ≡ Lease (ForJob j) step
  pub aims : aim_of x.setting (seen x) (ForJob j) ≡ Some aim
  pub unconcluded : IsConcluded x → ⊥

-- The command of the job.
pub asked : (x : Step) (j : ℕ) (aim : Aim) → aim_of x.setting (seen x) (ForJob j) ≡ Some aim → (c : Command) × (command_numbered x.setting (seen x) j ≡ Some c) × (aim_of_command c ≡ Some aim)
asked x j aim aims = then_value aim_of_command (command_numbered x.setting (seen x) j) aim aims

abbrev pub mode_for : Bool → Mode
mode_for shared = elim shared [ true ↦ Shared | false ↦ Exclusive ]

pub is_wanted : (shared : Bool) → is_shared (mode_for shared) ≡ shared
is_wanted true = refl
is_wanted false = refl

at_no_line : (x z : Step) (s : Session) (m : Submitted) (answer : Answer) → Hears x s m answer → (a : JobReply) → IsAtOnce x a → IsAtOnce z a
at_no_line x z s m answer hears = no_line x z (λ text line. told_no_line x.input hears.number answer text hears.heard line)

-- A grant by its call.
pub grant_done : (these : Input → Reply → Bool) (x : Step) (s : Session) (m : Submitted) (answer : Answer) (j : ℕ) (step : LeaseStep) (aim : Aim) → JobLed these x s m answer j step aim → (mode : Mode) (lver : ℕ)
    → next_of_lease x.setting (seen x) s (spot_of_call x.setting.layout m) aim m step answer ≡ GrantJob mode lver → CausedSoFar these (carry_lease s (spot_of_call x.setting.layout m) (ForJob j) (GrantJob mode lver) x)
unfolding carry_lease
grant_done these x s m answer j step aim h mode lver next = subst (λ o. CausedSoFar these (with_some o (λ d. grant_for s j d mode lver) x)) (sym command.1) (of command.0 command.1 command.2) where
  command : (c : Command) × (command_numbered x.setting (seen x) j ≡ Some c) × (aim_of_command c ≡ Some aim)
  command = asked x j aim h.aims

  fit : (answer ≡ Written) × (lver ≡ lver_written m) × IsGrantOf aim step mode
  fit =
      subst (λ n. IsFitNext (known x.setting (seen x) s (spot_of_call x.setting.layout m)) aim (lver_written m) step answer n) next
      (next_fits (lease_place x.setting s) (known x.setting (seen x) s (spot_of_call x.setting.layout m)) aim m.call.number (lver_written m) step answer)

  told : x.input ≡ Wake → ⊥
  told = told_not_waking x s m answer h.hears

  acquire : (r : ResourceArg) (shared : Bool) (p : ℕ) (persistent : Bool) → command_numbered x.setting (seen x) j ≡ Some (Acquire r shared p persistent) → Acquires (mode_for shared) ≡ aim → IsGrantOf aim step mode
      → CausedSoFar these (grant_for s j (Acquire r shared p persistent) mode lver x)
  acquire r shared p persistent reads is how =
      last_caused these x z j (Granted lver) (at_no_line x z s m answer h.hears) told (granted_later x j lver (grant_of s r p mode lver persistent)) refl refl
      (λ shown. let v = by how in acquire_caused x s m j step r p shared persistent mode lver w (sym fit.1) v.0 v.1) h.caused
    where
      z : Step
      z = grant_for s j (Acquire r shared p persistent) mode lver x

      w : WriteHeard x s m j step (Acquire r shared p persistent)
      w = record { known = h.known; hears = subst (λ a. Hears x s m a) fit.0 h.hears; purpose = h.purpose; reads = reads }

      modes : {a b : Mode} → Acquires a ≡ Acquires b → a ≡ b
      modes same = cc

      wants : (k : Mode) → aim ≡ Acquires k → shared ≡ is_shared k
      wants k its = sym (is_wanted shared) ∙ ap (λ q. is_shared q) (modes (is ∙ its))

      by : IsGrantOf aim step mode → (is_shared mode ≡ shared) × (((step ≡ TakeLeader) × (shared ≡ false)) ⊎ ((step ≡ FreeLeader) × (shared ≡ true)))
      by (inl v) = (ap (λ q. is_shared q) v.1 ∙ sym (wants Exclusive v.2), inl (v.0, wants Exclusive v.2))
      by (inr v) =
          let freed : WriteHeard x s m j FreeLeader (Acquire r shared p persistent) = subst (λ q. WriteHeard x s m j q (Acquire r shared p persistent)) v.0 w in
          let same : v.2.0 ≡ Shared = freed_shared x s m j (Acquire r shared p persistent) v.2.0 freed (h.aims ∙ ap (λ k. Some k) v.2.1) in
          let its : shared ≡ true = wants v.2.0 v.2.1 ∙ ap (λ q. is_shared q) same in
          (ap (λ q. is_shared q) v.1 ∙ sym its, inr (v.0, its))

  of : (c : Command) → command_numbered x.setting (seen x) j ≡ Some c → aim_of_command c ≡ Some aim → CausedSoFar these (grant_for s j c mode lver x)
  of (Acquire r shared p persistent) reads aims = acquire r shared p persistent reads (some_value (Acquires (mode_for shared)) aim aims) fit.2
  of (RunProgram r shared path) reads aims =
      let z : Step = grant_for s j (RunProgram r shared path) mode lver x in
      still_caused these x z (at_no_line x z s m answer h.hears)
      (grants_for (Going (these x.input) x) (Going (these x.input) x) (MayAnswer (these x.input) x) (MayCall x) (MayStart x) AnyMove (going (these x.input) x) x s j (RunProgram r shared path) mode lver (λ wake. absurd (told wake)) (begins (these x.input) x)) h.caused
  of (TakeOver r shared p persistent) reads aims = absurd (none_some aim aims)
  of (AddLockspace a) reads aims = h.caused
  of (RemLockspace a) reads aims = h.caused
  of (InqLockspace a) reads aims = h.caused
  of (HostStatus a) reads aims = h.caused
  of (Release r p) reads aims = h.caused
  of (ReleaseOrphan r) reads aims = h.caused
  of (Convert r shared p) reads aims = h.caused
  of (Request r v how) reads aims = h.caused
  of (GetLvb r p) reads aims = h.caused
  of (SetLvb r p bytes) reads aims = h.caused
  of (SetKillpath p path) reads aims = h.caused
  of Status reads aims = h.caused

-- Who converts has asked for it.
pub converts_asked : (c : Command) (mode : Mode) → aim_of_command c ≡ Some (Converts mode) → (r : ResourceArg) × (shared : Bool) × (p : ℕ) × (c ≡ Convert r shared p) × (is_shared mode ≡ shared)
converts_asked (Convert r shared p) mode is = (r, shared, p, refl, ap (λ q. is_shared q) (modes (some_value (Converts mode) (Converts (mode_for shared)) (sym is))) ∙ is_wanted shared) where
  modes : {a b : Mode} → Converts a ≡ Converts b → a ≡ b
  modes same = cc
converts_asked (Acquire r shared p persistent) mode is = absurd (apart (some_value (Acquires (mode_for shared)) (Converts mode) is)) where
  apart : {a b : Mode} → Acquires a ≡ Converts b → ⊥
  apart same = cc
converts_asked (RunProgram r shared path) mode is = absurd (apart (some_value (Acquires (mode_for shared)) (Converts mode) is)) where
  apart : {a b : Mode} → Acquires a ≡ Converts b → ⊥
  apart same = cc
converts_asked (Release r p) mode is = absurd (apart (some_value Releases (Converts mode) is)) where
  apart : {b : Mode} → Releases ≡ Converts b → ⊥
  apart same = cc
converts_asked (ReleaseOrphan r) mode is = absurd (apart (some_value Releases (Converts mode) is)) where
  apart : {b : Mode} → Releases ≡ Converts b → ⊥
  apart same = cc
converts_asked (TakeOver r shared p persistent) mode is = absurd (none_some (Converts mode) is)
converts_asked (AddLockspace a) mode is = absurd (none_some (Converts mode) is)
converts_asked (RemLockspace a) mode is = absurd (none_some (Converts mode) is)
converts_asked (InqLockspace a) mode is = absurd (none_some (Converts mode) is)
converts_asked (HostStatus a) mode is = absurd (none_some (Converts mode) is)
converts_asked (Request r v how) mode is = absurd (none_some (Converts mode) is)
converts_asked (GetLvb r p) mode is = absurd (none_some (Converts mode) is)
converts_asked (SetLvb r p bytes) mode is = absurd (none_some (Converts mode) is)
converts_asked (SetKillpath p path) mode is = absurd (none_some (Converts mode) is)
converts_asked Status mode is = absurd (none_some (Converts mode) is)

-- A conversion that is done, with the call behind it.
convert_done : (these : Input → Reply → Bool) (x : Step) (s : Session) (m : Submitted) (answer : Answer) (j : ℕ) (step : LeaseStep) (aim : Aim) → JobLed these x s m answer j step aim → (mode : Mode) (lver : ℕ)
    → answer ≡ Written → aim ≡ Converts mode → lver_written m ≡ lver → same_kind (kind_of_step step) (converting_step (is_shared mode)) ≡ true → (p : Purpose) (offset : Step → ℕ) (op : Step → Op)
    → let z : Step = after_converting x s (spot_of_call x.setting.layout m) j mode lver in
    CausedSoFar these (add_call_of s.number (spot_of_call x.setting.layout m).path p (offset z) (op z) z)
convert_done these x s m answer j step aim h mode lver written is wrote kind p offset op =
    by_found (λ z. CausedSoFar these (add_call_of s.number at.path p (offset z) (op z) z)) x s at j (Convert r shared q) q mode lver reads refl (held_otherwise (seen x) s at q mode) refl (found (held_otherwise (seen x) s at q mode) refl)
  where
    at : Spot
    at = spot_of_call x.setting.layout m

    command : (c : Command) × (command_numbered x.setting (seen x) j ≡ Some c) × (aim_of_command c ≡ Some aim)
    command = asked x j aim h.aims

    how : (r : ResourceArg) × (shared : Bool) × (p : ℕ) × (command.0 ≡ Convert r shared p) × (is_shared mode ≡ shared)
    how = converts_asked command.0 mode (command.2 ∙ ap (λ k. Some k) is)

    r : ResourceArg
    r = how.0

    shared : Bool
    shared = how.1

    q : ℕ
    q = how.2

    reads : command_numbered x.setting (seen x) j ≡ Some (Convert r shared q)
    reads = command.1 ∙ ap (λ c. Some c) how.3

    told : x.input ≡ Wake → ⊥
    told = told_not_waking x s m answer h.hears

    fits_it : FitsCommand x.setting s m (Convert r shared q) (Lease (ForJob j) step)
    fits_it =
        subst (λ (k : Purpose). FitsCommand x.setting s m (Convert r shared q) k) h.purpose
        (h.known.0.facts.jobs.fits m j s (Convert r shared q) (heard_call x s m answer h.hears).0 (ap (λ k. job_of k) h.purpose) h.hears.session reads)

    one : fits_it.0 ≡ r
    one = sym (some_value r fits_it.0 fits_it.1)

    found : (o : Option Grant) → held_otherwise (seen x) s at q mode ≡ o
        → let z : Step = with_some o (convert_holding j mode lver) x in CausedSoFar these (add_call_of s.number at.path p (offset z) (op z) z)
    found None none =
        let z : Step = add_call_of s.number at.path p (offset x) (op x) x in
        still_caused these x z (at_no_line x z s m answer h.hears)
        ((going (these x.input) x).calls x s at.path p (offset x) (op x) (λ c. absurd (h.unconcluded c)) (begins (these x.input) x)) h.caused
    found (Some g) held =
        last_caused these x z j (Granted lver) (at_no_line x z s m answer h.hears) told later refl refl
        (λ shown. convert_caused x z.effects s m j step r shared q mode lver g w h.caused.before held how.4 (ap (λ (k : ResourceArg). k.lockspace) (sym one) ∙ fits_it.3.0) (fits_it.3.1 ∙ ap (λ k. spot_of k) one)
        (subst (λ b. same_kind (kind_of_step step) (converting_step b) ≡ true) how.4 kind) wrote later (contains_right x.effects.grants (converted g mode lver ∷ []) (converted g mode lver) (contains_first (converted g mode lver) []))) h.caused
      where
        y : Step
        y = convert_holding j mode lver g x

        z : Step
        z = add_call_of s.number at.path p (offset y) (op y) y

        w : WriteHeard x s m j step (Convert r shared q)
        w = record { known = h.known; hears = subst (λ a. Hears x s m a) written h.hears; purpose = h.purpose; reads = reads }

        later : IsLater x z
        later =
            ((going no_explained x).calls y s at.path p (offset y) (op y) (λ c. absurd (h.unconcluded c))
            ((going no_explained x).replies _ j (Granted lver) (late x (Granted lver) refl, λ never. absurd (false_is_true never))
            ((going no_explained x).grants _ (converted g mode lver) ((going no_explained x).ends x (end_of g) (begins no_explained x))))).later

-- To shared, by the mode that was written; the leader is freed behind it.
pub shared_done : (these : Input → Reply → Bool) (x : Step) (s : Session) (m : Submitted) (answer : Answer) (j : ℕ) (step : LeaseStep) (aim : Aim) → JobLed these x s m answer j step aim → (lver : ℕ) (l : Leader)
    → next_of_lease x.setting (seen x) s (spot_of_call x.setting.layout m) aim m step answer ≡ BecomeShared lver l → CausedSoFar these (carry_lease s (spot_of_call x.setting.layout m) (ForJob j) (BecomeShared lver l) x)
unfolding carry_lease known
shared_done these x s m answer j step aim h lver l next =
    convert_done these x s m answer j step aim h Shared lver fit.0 (fit.2.1 ∙ ap (λ k. Converts k) shared) (mode_of_held x s m j command.0 lver w fit.3) (ap (λ k. same_kind (kind_of_step k) Mode_set) fit.1) (Lease Settling FreeLeader)
    (λ z. leader_offset at.base) (λ z. WriteRecord (leader_record z.setting.layout l))
  where
    at : Spot
    at = spot_of_call x.setting.layout m

    command : (c : Command) × (command_numbered x.setting (seen x) j ≡ Some c) × (aim_of_command c ≡ Some aim)
    command = asked x j aim h.aims

    fit : IsFitNext (known x.setting (seen x) s at) aim (lver_written m) step answer (BecomeShared lver l)
    fit =
        subst (λ n. IsFitNext (known x.setting (seen x) s at) aim (lver_written m) step answer n) next
        (next_fits (lease_place x.setting s) (known x.setting (seen x) s at) aim m.call.number (lver_written m) step answer)

    w : WriteHeard x s m j SetMode command.0
    w = record { known = h.known; hears = subst (λ a. Hears x s m a) fit.0 h.hears; purpose = h.purpose ∙ ap (λ k. Lease (ForJob j) k) fit.1; reads = command.1 }

    shared : fit.2.0 ≡ Shared
    shared = moded_shared x s m j command.0 fit.2.0 w (h.aims ∙ ap (λ k. Some k) fit.2.1)

-- To exclusive, by the leader that was taken; the mode is cleared behind it.
pub exclusive_done : (these : Input → Reply → Bool) (x : Step) (s : Session) (m : Submitted) (answer : Answer) (j : ℕ) (step : LeaseStep) (aim : Aim) → JobLed these x s m answer j step aim → (lver : ℕ) (b : Block)
    → next_of_lease x.setting (seen x) s (spot_of_call x.setting.layout m) aim m step answer ≡ BecomeExclusive lver b → CausedSoFar these (carry_lease s (spot_of_call x.setting.layout m) (ForJob j) (BecomeExclusive lver b) x)
unfolding carry_lease
exclusive_done these x s m answer j step aim h lver b next =
    convert_done these x s m answer j step aim h Exclusive lver fit.0 fit.2 (sym fit.3) (ap (λ k. same_kind (kind_of_step k) Leader_taken) fit.1) (Lease Settling ClearMode)
    (λ z. block_place z.setting.layout at.base s.id (next_turn z.setting (seen z) s at))
    (λ z. WriteRecord (block_record z.setting.layout (next_turn z.setting (seen z) s at) s.lockspace (name_on z.setting (seen z) s at) b))
  where
    at : Spot
    at = spot_of_call x.setting.layout m

    fit : IsFitNext (known x.setting (seen x) s at) aim (lver_written m) step answer (BecomeExclusive lver b)
    fit =
        subst (λ n. IsFitNext (known x.setting (seen x) s at) aim (lver_written m) step answer n) next
        (next_fits (lease_place x.setting s) (known x.setting (seen x) s at) aim m.call.number (lver_written m) step answer)
