-- A shared grant is lawful: beside a shared holding, by the ballot of its job, or by conversion of what the session held exclusively.
use Rattle.sl_due_facts.proofs.Jobs.EffectsAreAllowed.{leader_no_delta}
use Rattle.sl_due_facts.proofs.Acts.Pairs.Records.{leader_no_block}
use Rattle.sl_trace.specs.declared.effects.LeaseRead.TheVariants.{OfArea, OfFree}
use Rattle.sl_due_facts.proofs.Acts.DecisionsAreTheirs.{Of}
use Rattle.sl_due_facts.proofs.Acts.LoopsKeep.{for_each_keeps, when_keeps}
use Rattle.sl_due_facts.proofs.Acts.PlainActs.{line_has}
use Rattle.sl_due_facts.specs.Acts.Acts.{Acts, Has, Hears}
use Rattle.sl_due_facts.specs.Acts.TraceSoFar.{entry_of}
use Rattle.sl_area.specs.AreaLayout.{block_place, leader_offset, request_offset}
use Rattle.sl_area.specs.AreaRecords.{block_record, leader_record}
use Rattle.sl_due.specs.DueRecovery.{send}
use Rattle.sl_due.specs.CarriedLease.{carry_lease, convert_holding, goes_on, grant_for, held_otherwise, name_on, next_of_lease, next_turn, write_block, write_leader}
use Rattle.sl_due.specs.Steps.{Step, add_end, add_grant, add_move, add_reply, seen, with_input, with_some}
use Rattle.sl_due_leases.proofs.Grants.DeltasKeep.{free_keeps}
use Rattle.sl_due_leases.proofs.Grants.Modes.SharedStands.{SharedSoFar, call_shared, exited_shared, granted_shared, kill_shared, lines_shared, move_shared, none_shared, one_shared, same_resource, shared_so_far}
use Rattle.sl_due_leases.proofs.Grants.NothingGranted.{GrantingActs, by_granting, none_begin}
use Rattle.sl_due_leases.proofs.Grants.WorksByLines.{held_before}
use Rattle.sl_due_leases.proofs.Holdings.DecisionsHaveGrounds.{decisions_have_grounds}
use Rattle.sl_due_leases.proofs.Holdings.LeaseCallers.{heard_answered, heard_call as call_heard, heard_opens}
use Rattle.sl_due_leases.proofs.Holdings.LeaseConversions.{OfOneProcess, converted, only_converted, otherwise}
use Rattle.sl_due_leases.proofs.Holdings.LeaseNexts.{IsFitNext, IsGrantOf, next_fits}
use Rattle.sl_due_leases.proofs.Holdings.MomentsAreKept.{same}
use Rattle.sl_due_leases.specs.Holdings.DecisionGrounds.{HasGrounds}
use Rattle.sl_due_leases.specs.Holdings.Moments.{Known}
use Rattle.sl_due_leases.specs.Holdings.HoldingLaws.{Begins}
use Rattle.sl_run.specs.LawfulModes.{SharedByBallot, SharedByConversion}
use Rattle.sl_run.specs.LawForms.{IsAnsweredAt}
use Rattle.sl_due_leases.proofs.Leases.NextsStay.{HeldThere, at_work, held_there, not_true}
use Rattle.sl_due_leases.proofs.Leases.TurnsStay.{turned_by}
use Rattle.sl_due_leases.proofs.Ways.WayFactsHeld.CallsSame.{reply_leaves}
use Rattle.sl_due_leases.proofs.Ways.WayFactsHeld.EffectsLeave.{made_call}
use Rattle.sl_due_leases.proofs.Ways.WayFactsHeld.HeardStands.{heard_has, heard_number, spot_same}
use Rattle.sl_trace.specs.Jobs.{aim_of, aim_of_command, command_numbered, resource_named}
use Rattle.sl_trace.specs.LeaseDecisions.{lease_place}
use Rattle.sl_trace.specs.Leases.{block_submitted, block_written, exclusive_on, holdings_on, is_lease_call, is_on, known, lease_calls, lease_step, lver_written, spot_of, spot_of_call}
use Rattle.sl_trace.specs.declared.lease.Aim.{Aim}
use Rattle.sl_trace.specs.declared.lease.Aim.TheVariants.{Acquires, Converts}
use Rattle.sl_trace.specs.declared.lease.LeaseNext.{LeaseNext}
use Rattle.sl_trace.specs.declared.lease.LeaseNext.TheVariants.{AnswerJob, BecomeExclusive, BecomeShared, GrantJob, Nothing, ReadFor, WriteBlock, WriteLeader}
use Rattle.sl_due_facts.proofs.AddedEffects.CallsGrow.{mine_more, same_sessions}
use Rattle.sl_words.proofs.Lists.{contains_cases, contains_first, contains_more, contains_none, find_inside, kept, kept_inside}
use Rattle.sl_words.proofs.Numbers.{number_itself}
use Rattle.sl_words.proofs.Options.{mapped_value}
use Rattle.sl_sector.specs.declared.sector.Block.{Block}
use Rattle.sl_sector.specs.declared.sector.Leader.{Leader}
use Rattle.sl_sector.specs.declared.sector.DeltaRec.{DeltaRec}
use Rattle.sl_sector.specs.declared.sector.Rec.TheVariants.{DeltaIs}
use Rattle.sl_trace.specs.DeltaDecisions.{own_offset}
use Rattle.sl_trace.specs.Sessions.{calls_of, generation_in, generation_of, given_number, holders_of, holdings_of, is_call_of, last_delta, session_numbered}
use Rattle.sl_trace.specs.declared.session.Session.{Session}
use Rattle.sl_due_facts.specs.Facts.GrantGrounds.{FreedForJob, IsDoneWork, ModedForJob}
use Rattle.sl_due_facts.specs.Facts.HeardCall.{heard_by}
use Rattle.sl_due_facts.specs.Facts.HoldingFacts.{HoldingFacts, StandsExclusive}
use Rattle.sl_due_facts.specs.Facts.JobFacts.{FitsCommand}
use Rattle.sl_trace.specs.WatchdogConnections.{is_registered}
use Rattle.sl_trace.specs.Traces.{Submitted, Trace, end_of, holdings, is_ended_by, is_running, is_shared, job_of, new_call, next_job, same_place, spot_of_grant, submitted}
use Rattle.sl_trace.specs.declared.command.Command.{Command}
use Rattle.sl_trace.specs.declared.command.ResourceArg.{ResourceArg}
use Rattle.sl_trace.specs.declared.effects.Call.{Call}
use Rattle.sl_trace.specs.declared.effects.Grant.{Grant}
use Rattle.sl_trace.specs.declared.effects.LeaseStep.{LeaseStep}
use Rattle.sl_trace.specs.declared.effects.LeaseStep.TheVariants.{ClearMode, FreeLeader, ReadAgain, ReadArea, ReadBeforeFree, SetMode}
use Rattle.sl_trace.specs.declared.effects.Mode.{Mode}
use Rattle.sl_trace.specs.declared.effects.Mode.TheVariants.{Exclusive, Shared}
use Rattle.sl_trace.specs.declared.effects.Move.TheVariants.{Unregister}
use Rattle.sl_trace.specs.declared.effects.Op.TheVariants.{ReadSectors, WriteRecord}
use Rattle.sl_trace.specs.declared.effects.Purpose.TheVariants.{Lease, Leaving, SeeRequest}
use Rattle.sl_trace.specs.declared.effects.Signal.TheVariants.{Kill}
use Rattle.sl_trace.specs.declared.effects.Spot.{Spot}
use Rattle.sl_trace.specs.declared.effects.Work.{Work}
use Rattle.sl_trace.specs.declared.effects.Work.TheVariants.{ForJob, Settling}
use Rattle.sl_trace.specs.declared.input.Answer.{Answer}
use Rattle.sl_trace.specs.declared.input.Answer.TheVariants.{Written}
use Rattle.sl_trace.specs.declared.input.Input.TheVariants.{Exit, Line}
use Rattle.sl_trace.specs.declared.reply.Reply.TheVariants.{Granted}
use Rattle.sl_words.proofs.CaseLaws.{false_is_true, none_some, one_value, true_is_false}
use Rattle.sl_words.specs.Words.{same_truth}
use Rattle.std.proofs.Common.{ap, inl, inr, refl, subst, sym, ◌∙◌}
use Rattle.std.proofs.lemmas.List.Elements.{Contains-append_right}
use Rattle.std.specs.Option.{option_map_or}
use Rattle.std.specs.Prelude.{Bool, Contains, List, None, Option, Some, [], cond, false, filter, find, is_some, length, not, option_and_then, slice_get, true, ℕ, ◌&&◌, ◌++◌, ◌==◌, ◌∷◌, ◌≡◌, ◌≤◌, ◌⊎◌}

-- ---- after an answer

-- What is known of a lease's job whose write is done.
done_work : (x : Step) (s : Session) (m : Submitted) (a : Answer) (h : Hears x s m a) (j : ℕ) (step : LeaseStep) (c : Command) → m.call.purpose ≡ Lease (ForJob j) step → is_running (seen x) j ≡ true → command_numbered x.setting (seen x) j ≡ Some c
    → a ≡ Written → Known x → IsDoneWork x.setting (seen x) (heard_by x.input) s m j step c
done_work x s m a h j step c is runs command written k =
    let w = heard_answered x s m a k.0.facts.calls k.0.orderly h in
    record {
      work = at_work x s m a h j step is runs c command k.0;
      session = h.session;
      bare = h.bare;
      heard_it = ap (λ i. heard_by i) h.heard ∙ ap (λ n. Some n) (sym (heard_number x s m a h));
      answer = w.0;
      done = (w.1, w.3 ∙ written);
    }

split_there : {A : Type 0} (xs before after : List A) (a : A) → xs ≡ after ++ a ∷ before → Contains xs a
split_there xs before after a is = subst (λ ys. Contains ys a) (sym is) (Contains-append_right after (a ∷ before) a (contains_first a before))

-- Its ballot stands behind a shared grant: since the ballot's read nothing was shared.
ballot_behind : (x : Step) (s : Session) (m : Submitted) (j : ℕ) (c : Command) (mode : Mode) → IsDoneWork x.setting (seen x) (heard_by x.input) s m j FreeLeader c → aim_of_command c ≡ Some (Acquires mode) → Known x
    → SharedByBallot x.setting (seen x) s (spot_of_call x.setting.layout m) (lver_written m)
ballot_behind x s m j c mode d for k =
    let at : Spot = spot_of_call x.setting.layout m in
    let f : FreedForJob x.setting (seen x) s at (lver_written m) j = k.0.facts.grounds.shared s m j c mode d for in
    let on = kept_inside (λ (n : Submitted). is_lease_call n && is_on x.setting.layout at n.call) (calls_of (seen x) s) f.begun f.of_job.0 in
    let there = kept_inside (is_call_of s) (submitted (seen x)) f.begun on.0 in
    record {
      since = f.begun.at;
      none_shared = k.0.facts.works.unshared m f.begun j FreeLeader f.step c mode s d.work for d.session there.0 f.of_job.1;
      read = f.read;
      mode = f.mode;
      free = f.free;
      block = f.block;
      read_answer = f.read_answer;
      mode_answer = f.mode_answer;
      free_answer = f.free_answer;
      of_lease = f.of_lease;
      after = f.after;
      before = f.before;
      split = f.split;
      won = (f.since, f.won);
      first_since = f.first_since;
      moded = f.moded;
      freed = f.freed;
      first = f.first;
      kept = f.kept;
    }

-- ---- a conversion to shared

in_cond : {A : Type 0} (b : Bool) (y : A) (ys : List A) (d : A) → Contains (cond b (y ∷ ys) ys) d → (y ≡ d) ⊎ Contains ys d
in_cond true y ys d there = contains_cases y ys d there
in_cond false y ys d there = inr there

to_cond : {A : Type 0} (b : Bool) (y : A) (ys : List A) (d : A) → Contains ys d → Contains (cond b (y ∷ ys) ys) d
to_cond true y ys d there = contains_more y ys d there
to_cond false y ys d there = there

no_exclusive : (t : Trace) (s : Session) (at : Spot) → ((h : Grant) → Contains (holdings t) h → same_place h.path h.offset at.path at.base ≡ true → is_shared h.mode ≡ false → ⊥) → exclusive_on t s at ≡ None
no_exclusive t s at never = by (exclusive_on t s at) refl where
  by : (o : Option Grant) → exclusive_on t s at ≡ o → exclusive_on t s at ≡ None
  by None is = is
  by (Some h) is =
      let f = find_inside (λ (k : Grant). not (is_shared k.mode)) (holdings_on t s at) h is in
      let g : HeldThere t s at h = held_there t s at h f.0 (not_true (is_shared h.mode) f.1) in
      absurd (never h g.there g.place g.exclusive)

-- What is known where a conversion to shared is done.
record Converting (x : Step) (s : Session) (m : Submitted) (j lver : ℕ) : Type 0 where
  command : Command
  numbered : command_numbered x.setting (seen x) j ≡ Some command
  held : Grant
  exclusive : exclusive_on (seen x) s (spot_of_call x.setting.layout m) ≡ Some held
  under : held.lver ≡ lver
  there : HeldThere (seen x) s (spot_of_call x.setting.layout m) held
  moded : ModedForJob x.setting (seen x) s (spot_of_call x.setting.layout m) m
  told : IsAnsweredAt (length x.past) m Written
  of_lease : Contains (lease_calls x.setting (seen x) s (spot_of_call x.setting.layout m)) m
  lver_is : moded.block.lver ≡ lver

to_shared : (m : Mode) → is_shared m ≡ true → m ≡ Shared
to_shared Shared is = refl
to_shared Exclusive is = absurd (false_is_true is)

converting : (x : Step) (s : Session) (m : Submitted) (a : Answer) (h : Hears x s m a) (j lver : ℕ) (mode : Mode) → Known x → m.call.purpose ≡ Lease (ForJob j) SetMode → is_running (seen x) j ≡ true
    → aim_of x.setting (seen x) (ForJob j) ≡ Some (Converts mode) → a ≡ Written → (known x.setting (seen x) s (spot_of_call x.setting.layout m)).exclusive ≡ Some lver → Converting x s m j lver
unfolding known
converting x s m a h j lver mode k is runs aimed written excludes = by (command_numbered x.setting (seen x) j) refl aimed where
  at : Spot
  at = spot_of_call x.setting.layout m

  e : (g : Grant) × (exclusive_on (seen x) s at ≡ Some g) × (g.lver ≡ lver)
  e = mapped_value (λ (g : Grant). g.lver) (exclusive_on (seen x) s at) lver excludes

  there : HeldThere (seen x) s at e.0
  there = (let f = find_inside (λ (g : Grant). not (is_shared g.mode)) (holdings_on (seen x) s at) e.0 e.1 in held_there (seen x) s at e.0 f.0 (not_true (is_shared e.0.mode) f.1))

  its : session_numbered x.setting (seen x) e.0.session ≡ Some s
  its = ap (λ n. session_numbered x.setting (seen x) n) there.its ∙ heard_has x s m a h

  stands : StandsExclusive x.setting (seen x) (heard_by x.input) s (spot_of_grant e.0) e.0.lver
  stands = k.0.facts.holdings.stands e.0 s there.there its there.exclusive

  newest : (ms : List Submitted) × (lease_calls x.setting (seen x) s at ≡ m ∷ ms)
  newest = k.0.facts.turns.newest s m h.session (call_heard x s m a h).0 (heard_opens x s m a h) (ap (λ p. is_some (lease_step p)) is)

  last : (b : Block) → block_written m ≡ Some b → block_submitted (lease_calls x.setting (seen x) s at) ≡ Some b
  last b wrote = ap (λ ms. block_submitted ms) newest.1 ∙ ap (λ o. elim o as (λ z. Option Block) [ Some d ↦ Some d | None ↦ block_submitted newest.0 ]) wrote

  under : (b : Block) → block_written m ≡ Some b → b.lver ≡ lver
  under b wrote =
      let own : block_submitted (lease_calls x.setting (seen x) s at) ≡ Some stands.own =
      subst (λ v. block_submitted (lease_calls x.setting (seen x) s v) ≡ Some stands.own) (spot_same e.0 at there.place) stands.known
      in
      ap (λ (d : Block). d.lver) (one_value b stands.own (block_submitted (lease_calls x.setting (seen x) s at)) (last b wrote) own) ∙ (stands.under.0 ∙ e.2)

  wants : (c : Command) → command_numbered x.setting (seen x) j ≡ Some c → aim_of_command c ≡ Some (Converts mode) → mode ≡ Shared
  wants c command for =
      to_shared mode
      (other_mode (is_shared e.0.mode) (is_shared mode) there.exclusive (k.0.facts.works.beside m j SetMode c (Converts mode) e.0 (at_work x s m a h j SetMode is runs c command k.0) for there.there there.place).1)
    where
      other_mode : (b d : Bool) → b ≡ false → same_truth b d ≡ false → d ≡ true
      other_mode false true is differ = refl
      other_mode false false is differ = absurd (true_is_false differ)
      other_mode true d is differ = absurd (true_is_false is)

  of_command : (c : Command) → command_numbered x.setting (seen x) j ≡ Some c → aim_of_command c ≡ Some (Converts mode) → Converting x s m j lver
  of_command c command for =
      let moded : ModedForJob x.setting (seen x) s at m =
      k.0.facts.grounds.moded s m j c (done_work x s m a h j SetMode c is runs command written k) (for ∙ ap (λ z. Some (Converts z)) (wants c command for))
      in
      record {
        command = c;
        numbered = command;
        held = e.0;
        exclusive = e.1;
        under = e.2;
        there = there;
        moded = moded;
        told = subst (λ z. IsAnsweredAt (length x.past) m z) written (heard_answered x s m a k.0.facts.calls k.0.orderly h);
        of_lease = subst (λ ms. Contains ms m) (sym newest.1) (contains_first m newest.0);
        lver_is = under moded.block moded.written.0;
      }

  by : (o : Option Command) → command_numbered x.setting (seen x) j ≡ o → option_and_then aim_of_command o ≡ Some (Converts mode) → Converting x s m j lver
  by None command for = absurd (none_some (Converts mode) for)
  by (Some c) command for = of_command c command for

became_shared : (x : Step) (s : Session) (m : Submitted) (j lver : ℕ) (l : Leader) → Has x s → x.effects.ends ≡ [] → x.effects.grants ≡ [] → HoldingFacts x.setting (seen x) (heard_by x.input) → Converting x s m j lver
    → SharedSoFar (carry_lease s (spot_of_call x.setting.layout m) (ForJob j) (BecomeShared lver l) x)
unfolding carry_lease
became_shared x s m j lver l has unended ungranted holds v =
    turned_by (λ z. SharedSoFar (write_leader s at Settling FreeLeader l z)) x s at j Shared lver (λ c p g command process found. turned p g found)
    (λ none. none_shared (write_leader s at Settling FreeLeader l x) ungranted) where
      at : Spot
      at = spot_of_call x.setting.layout m

      turned : (p : ℕ) (g : Grant) → held_otherwise (seen x) s at p Shared ≡ Some g → SharedSoFar (write_leader s at Settling FreeLeader l (convert_holding j Shared lver g x))
      turned p g found =
          one_shared w x.effects.grants (converted g Shared lver) s ungranted refl its
          (λ is. inr (inr (subst (λ k. SharedByConversion x.setting x.past (seen w) s k lver) (sym (spot_same g at o.2)) behind))) where
            z : Step
            z = convert_holding j Shared lver g x

            c : Call
            c = made_call z s.number at.path (Lease Settling FreeLeader) (leader_offset at.base) (WriteRecord (leader_record z.setting.layout l))

            new : Submitted
            new = new_call (length z.past) z.reading c

            w : Step
            w = write_leader s at Settling FreeLeader l z

            o : Contains (holdings (seen x)) g × (g.session ≡ s.number) × (same_place g.path g.offset at.path at.base ≡ true) × (g.process ≡ p) × (same_truth (is_shared g.mode) (is_shared Shared) ≡ false)
            o = otherwise x s at p Shared g found

            its : session_numbered w.setting (seen w) g.session ≡ Some s
            its = ap (λ ss. slice_get ss g.session) (same_sessions x.setting (entry_of z) x.past c refl) ∙ (ap (λ n. session_numbered x.setting (seen x) n) o.1 ∙ has)

            first : (b : Bool) → same_truth b true ≡ false → b ≡ false
            first false is = refl
            first true is = absurd (true_is_false is)

            one : OfOneProcess x g
            one h there same = ap (λ (k : Grant). k.process) (holds.alone g h o.0 there same (first (is_shared g.mode) o.4))

            same_calls : submitted (seen z) ≡ submitted (seen x)
            same_calls = reply_leaves (add_grant (converted g Shared lver) (add_end (end_of g) x)) j (Granted lver) (inl refl)

            mine : calls_of (seen w) s ≡ new ∷ calls_of (seen x) s
            mine = mine_more (entry_of z) x.past c s (number_itself s.number) ∙ ap (λ ms. new ∷ filter (is_call_of s) ms) same_calls

            lease : lease_calls x.setting (seen w) s at ≡ cond (true && is_on x.setting.layout at c) (new ∷ lease_calls x.setting (seen x) s at) (lease_calls x.setting (seen x) s at)
            lease = ap (λ ms. filter (λ (k : Submitted). is_lease_call k && is_on x.setting.layout at k.call) ms) mine

            generation : generation_of (seen w) s ≡ generation_of (seen x) s
            generation = ap (λ ms. generation_in s ms) mine
                ∙ ap (λ d. option_map_or (λ (r : DeltaRec). r.generation) (elim d as (λ v. Option DeltaRec) [ Some r ↦ Some r | None ↦ last_delta (calls_of (seen x) s) ]) (given_number s)) (leader_no_delta x.setting.layout l)

            behind : SharedByConversion x.setting x.past (seen w) s at lver
            behind =
                record {
                  held = v.held;
                  mode = m;
                  block = v.moded.block;
                  was_exclusive = (
                    ap (λ hs. find (λ (k : Grant). not (is_shared k.mode)) (filter (λ (k : Grant). same_place k.path k.offset at.path at.base) (filter (λ (k : Grant). k.session == s.number) hs))) (sym (held_before x unended ungranted))
                        ∙ v.exclusive,
                    v.under,
                  );
                  ends = no_exclusive (seen w) s at (λ h there place exclusive.
                      true_is_false (ap (λ (k : Grant). is_shared k.mode) (only_converted x j g Shared lver h ungranted one there (spot_same h at place ∙ sym (spot_same g at o.2))) ∙ exclusive));
                  of_lease = subst (λ ms. Contains ms m) (sym lease) (to_cond (true && is_on x.setting.layout at c) new (lease_calls x.setting (seen x) s at) m v.of_lease);
                  moded = (v.moded.written.0, v.moded.written.1, v.moded.written.2 ∙ sym generation, v.lver_is);
                  done = v.told;
                  kept = λ d b there after is. kept_so d b after is (in_cond (true && is_on x.setting.layout at c) new (lease_calls x.setting (seen x) s at) d (subst (λ ms. Contains ms d) lease there));
                }
              where
                kept_so : (d : Submitted) (b : Block) → m.call.number ≤ d.call.number → block_written d ≡ Some b → (new ≡ d) ⊎ Contains (lease_calls x.setting (seen x) s at) d → (b.shared ≡ true) × (b.mode_gen ≡ generation_of (seen w) s)
                kept_so d b after is (inl is_new) = absurd (none_some b (sym (leader_no_block x.setting.layout l) ∙ (ap (λ k. block_written k) is_new ∙ is)))
                kept_so d b after is (inr old) = let r = v.moded.kept d b old after is in (r.0, r.1 ∙ sym generation)

-- ---- all that a lease may decide after an answer

-- What its decision asks of a grant.
led_shared : (x : Step) (s : Session) (m : Submitted) (a : Answer) (h : Hears x s m a) (work : Work) (step : LeaseStep) (aim : Aim) → Known x → m.call.purpose ≡ Lease work step → goes_on x.setting (seen x) s work ≡ true
    → aim_of x.setting (seen x) work ≡ Some aim
    → (n : LeaseNext) → IsFitNext (known x.setting (seen x) s (spot_of_call x.setting.layout m)) aim (lver_written m) step a n → SharedSoFar (carry_lease s (spot_of_call x.setting.layout m) work n x)
unfolding carry_lease
led_shared x s m a h work step aim k is on aimed Nothing fits = none_shared x h.ungranted
led_shared x s m a h work step aim k is on aimed (ReadFor (ReadArea name)) fits = none_shared (carry_lease s (spot_of_call x.setting.layout m) work (ReadFor (ReadArea name)) x) h.ungranted
led_shared x s m a h work step aim k is on aimed (ReadFor ReadBeforeFree) fits = none_shared (carry_lease s (spot_of_call x.setting.layout m) work (ReadFor ReadBeforeFree) x) h.ungranted
led_shared x s m a h work step aim k is on aimed (ReadFor (ReadAgain (OfArea name))) fits = none_shared (carry_lease s (spot_of_call x.setting.layout m) work (ReadFor (ReadAgain (OfArea name))) x) h.ungranted
led_shared x s m a h work step aim k is on aimed (ReadFor (ReadAgain OfFree)) fits = none_shared (carry_lease s (spot_of_call x.setting.layout m) work (ReadFor (ReadAgain OfFree)) x) h.ungranted
led_shared x s m a h work step aim k is on aimed (ReadFor to) fits = none_shared (carry_lease s (spot_of_call x.setting.layout m) work (ReadFor to) x) h.ungranted
led_shared x s m a h work step aim k is on aimed (WriteBlock to b) fits = none_shared (carry_lease s (spot_of_call x.setting.layout m) work (WriteBlock to b) x) h.ungranted
led_shared x s m a h work step aim k is on aimed (WriteLeader to l) fits = none_shared (carry_lease s (spot_of_call x.setting.layout m) work (WriteLeader to l) x) h.ungranted
led_shared x s m a h Settling step aim k is on aimed (AnswerJob r) fits = none_shared x h.ungranted
led_shared x s m a h (ForJob j) step aim k is on aimed (AnswerJob r) fits = none_shared (add_reply j r x) h.ungranted
led_shared x s m a h Settling step aim k is on aimed (GrantJob mode lver) fits = none_shared x h.ungranted
led_shared x s m a h (ForJob j) step aim k is on aimed (GrantJob mode lver) fits = by (command_numbered x.setting (seen x) j) refl aimed where
  at : Spot
  at = spot_of_call x.setting.layout m

  behind : (c : Command) → command_numbered x.setting (seen x) j ≡ Some c → aim_of_command c ≡ Some aim → is_shared mode ≡ true → IsGrantOf aim step mode → SharedByBallot x.setting (seen x) s at lver
  behind c command for shared (inl taken) = absurd (true_is_false (sym shared ∙ ap (λ z. is_shared z) taken.1))
  behind c command for shared (inr freed) =
      subst (λ n. SharedByBallot x.setting (seen x) s at n) (sym fits.1)
      (ballot_behind x s m j c freed.2.0 (done_work x s m a h j FreeLeader c (is ∙ ap (λ z. Lease (ForJob j) z) freed.0) on command fits.0 k) (for ∙ ap (λ z. Some z) freed.2.1) k)

  its_place : (c : Command) → command_numbered x.setting (seen x) j ≡ Some c → (r : ResourceArg) → resource_named c ≡ Some r → at ≡ spot_of r
  its_place c command r named =
      let f = subst (λ p. FitsCommand x.setting s m c p) is (k.0.facts.jobs.fits m j s c (call_heard x s m a h).0 (ap (λ p. job_of p) is) h.session command) in
      f.3.1 ∙ ap (λ z. spot_of z) (same_resource c f.0 r f.1 named)

  by : (o : Option Command) → command_numbered x.setting (seen x) j ≡ o → option_and_then aim_of_command o ≡ Some aim → SharedSoFar (with_some o (λ c. grant_for s j c mode lver) x)
  by None command for = none_shared x h.ungranted
  by (Some c) command for =
      granted_shared x s j c mode lver (heard_has x s m a h) h.ungranted (λ r named shared.
      inr (subst (λ z. SharedByBallot x.setting (seen x) s z lver) (its_place c command r named) (behind c command for shared fits.2)))
led_shared x s m a h Settling step aim k is on aimed (BecomeShared lver l) fits = none_shared (carry_lease s (spot_of_call x.setting.layout m) Settling (BecomeShared lver l) x) h.ungranted
led_shared x s m a h (ForJob j) step aim k is on aimed (BecomeShared lver l) fits =
    became_shared x s m j lver l (heard_has x s m a h) h.unended h.ungranted k.0.facts.holdings
    (converting x s m a h j lver fits.2.0 k (is ∙ ap (λ z. Lease (ForJob j) z) fits.1) on (aimed ∙ ap (λ z. Some z) fits.2.1) fits.0 fits.3)
led_shared x s m a h Settling step aim k is on aimed (BecomeExclusive lver b) fits = none_shared (carry_lease s (spot_of_call x.setting.layout m) Settling (BecomeExclusive lver b) x) h.ungranted
led_shared x s m a h (ForJob j) step aim k is on aimed (BecomeExclusive lver b) fits =
    let at : Spot = spot_of_call x.setting.layout m in
    turned_by (λ z. SharedSoFar (write_block s at Settling ClearMode b z)) x s at j Exclusive lver (λ c p g command process found. exclusive_one at g (otherwise x s at p Exclusive g found).1)
    (λ none. none_shared (write_block s at Settling ClearMode b x) h.ungranted)
  where
    exclusive_one : (at : Spot) (g : Grant) → g.session ≡ s.number → SharedSoFar (write_block s at Settling ClearMode b (convert_holding j Exclusive lver g x))
    exclusive_one at g mine =
        let z : Step = convert_holding j Exclusive lver g x in
        one_shared (write_block s at Settling ClearMode b z) x.effects.grants (converted g Exclusive lver) s h.ungranted refl
        (ap (λ ss. slice_get ss g.session) (same_sessions x.setting (entry_of z) x.past (made_call z s.number at.path (Lease Settling ClearMode)
        (block_place z.setting.layout at.base s.id (next_turn z.setting (seen z) s at)) (WriteRecord (block_record z.setting.layout (next_turn z.setting (seen z) s at) s.lockspace (name_on z.setting (seen z) s at) b))) refl)
        ∙ (ap (λ n. session_numbered x.setting (seen x) n) mine ∙ heard_has x s m a h)) (λ is. absurd (false_is_true is))

-- ---- the whole

-- A session that holds nothing was granted nothing.
holds_none : (x : Step) (s : Session) (g : Grant) → holdings_of (seen x) s ≡ [] → Contains x.effects.grants g → g.session ≡ s.number → ⊥
holds_none x s g none there mine =
    contains_none g (subst (λ gs. Contains gs g) none (kept (λ (k : Grant). k.session == s.number) (holdings (seen x)) g (subst (λ n. (g.session == n) ≡ true) mine (number_itself g.session))
    (Contains-append_right (filter (λ (k : Grant). not (is_ended_by x.effects.ends k)) (holdings x.past)) x.effects.grants g there)))

pub shared_grants_are_lawful : Acts Known SharedSoFar
shared_grants_are_lawful = by_granting SharedSoFar none_shared shared where
  shared : GrantingActs SharedSoFar
  shared =
      record {
        kills = λ x s has due k. for_each_keeps SharedSoFar (holders_of (seen x) s) (λ p. send p Kill) x (λ p there z h. kill_shared z p h) (shared_so_far x k);
        exits = λ x p wake bare one k. exited_shared (with_input (Exit p) x) p (k.1.waking wake).0 (k.1.waking wake).1;
        carries = λ x text c d wake bare says is more k.
            lines_shared x text c (next_job x.setting (seen x)) d k wake says (subst (λ z. HasGrounds x.setting (seen x) c z) is (decisions_have_grounds x.setting (seen x) x.reading c))
            (subst (λ z. Of (Has (with_input (Line text) x)) z) is (line_has x text c bare));
        sees = λ x s number bytes at g has input held k. call_shared x s g.path SeeRequest (request_offset x.setting.layout g.offset) (ReadSectors 1) refl refl (λ e there mine. refl) (shared_so_far x k);
        leads_on = λ x s work step m answer aim hears is on at k.
            led_shared x s m answer hears work step aim k is on at (next_of_lease x.setting (seen x) s (spot_of_call x.setting.layout m) aim m step answer)
            (next_fits (lease_place x.setting s) (known x.setting (seen x) s (spot_of_call x.setting.layout m)) aim m.call.number (lver_written m) step answer);
        parts = λ x s has joined recovers free quiet k.
            when_keeps SharedSoFar (is_registered x.setting (seen x) s.lockspace) (add_move (Unregister s.lockspace)) x (λ is h. move_shared x (Unregister s.lockspace) h) (shared_so_far x k);
        frees = λ x s has joined well free quiet k.
            free_keeps SharedSoFar x s
            (λ j d. call_shared x s s.path (Leaving j) (own_offset x.setting s) (WriteRecord (DeltaIs d)) refl refl (λ g there mine. absurd (holds_none x s g free there mine)) (shared_so_far x k)) (shared_so_far x k);
      }

pub shared_grants_begin : Begins SharedSoFar
shared_grants_begin = none_begin SharedSoFar none_shared
