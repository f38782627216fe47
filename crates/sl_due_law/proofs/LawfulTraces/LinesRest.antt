-- The job of a line that is carried out waits for a call, a child, a session or its leaving, or is done.
use Rattle.sl_due_facts.proofs.Acts.LoopsKeep.{for_each_keeps}
use Rattle.sl_due_facts.specs.Acts.TraceSoFar.{entry_of}
use Rattle.sl_area.specs.AreaLayout.{area_sectors, delta_offset, value_offset}
use Rattle.sl_due.specs.DueCommands.{after_end, carry_decision, decided, reply_at_once}
use Rattle.sl_due.specs.DueRecovery.{send, signal_and_refuse, signal_holders}
use Rattle.sl_due.specs.CarriedLease.{carry_lease}
use Rattle.sl_due.specs.Steps.{Step, add_end, add_reply, add_signal, add_start, seen, with_input}
use Rattle.sl_due.specs.declared.decision.Decision.TheVariants.{ConvertsTo, GetsValue, GivesUp, Joins, Leaves, ReadsArea, Replies, Requests, SetsValue, Shares, TakesOver}
use Rattle.sl_due.specs.declared.decision.Decision.{Decision}
use Rattle.sl_due_leases.proofs.Holdings.DecisionsHaveGrounds.{decisions_have_grounds}
use Rattle.sl_due_leases.proofs.Holdings.HoldingsByInputs.{given_seen}
use Rattle.sl_due_leases.proofs.Holdings.LeaseConversions.{spot_is}
use Rattle.sl_due_facts.proofs.Jobs.CallsHaveFacts.{sessions_bare}
use Rattle.sl_due_facts.proofs.Jobs.DecisionsFit.{DecisionFits, decisions_fit}
use Rattle.sl_due_facts.proofs.Jobs.JobsAreNumbered.{next_before, next_is_new}
use Rattle.sl_due_facts.proofs.Jobs.SessionsArePresent.{present_is, session_has}
use Rattle.sl_due_facts.proofs.Sessions.DeltaLines.{calls_lined}
use Rattle.sl_due_law.proofs.LawfulTraces.CallersStay.{replied_stops}
use Rattle.sl_due_law.proofs.LawfulTraces.LeasesRest.{called_rests, granted_rests, is_granting, replied_rests}
use Rattle.sl_due_law.proofs.LawfulTraces.SharedBlocks.{shared_block}
use Rattle.sl_due_law.proofs.LawfulTraces.WaitsStay.{leaving_replied}
use Rattle.sl_due_leases.specs.Holdings.DecisionGrounds.{AsksLease, ConvertGrounds, GiveUpGrounds, HasGrounds}
use Rattle.sl_due_law.specs.LawfulTraces.Busy.{For_leaving}
use Rattle.sl_due_law.specs.LawfulTraces.CarriedFacts.{Kept}
use Rattle.sl_due_law.specs.LawfulTraces.TraceLaws.{MayRest}
use Rattle.sl_trace.specs.Ballots.{moded_block}
use Rattle.sl_trace.specs.KillPrograms.{stopper_of}
use Rattle.sl_trace.specs.Jobs.{jobs_of_session}
use Rattle.sl_words.proofs.Numbers.{number_itself}
use Rattle.sl_trace.specs.Conversions.{convert_next}
use Rattle.sl_trace.specs.LeaseDecisions.{lease_place}
use Rattle.sl_trace.specs.Releases.{release_next}
use Rattle.sl_trace.specs.Leases.{block_submitted, holdings_on, is_lease_call, is_on, known, lease_calls, spot_of}
use Rattle.sl_trace.specs.declared.lease.LeaseNext.TheVariants.{Nothing, WriteBlock}
use Rattle.sl_words.proofs.Lists.{any_found, find_inside, kept_inside}
use Rattle.sl_words.proofs.Options.{some_of}
use Rattle.sl_sector.specs.declared.sector.Block.{Block}
use Rattle.sl_sector.specs.declared.sector.Rec.TheVariants.{ValueIs}
use Rattle.sl_trace.specs.Sessions.{holders_of, holdings_of, is_active, is_call_of, is_join_done, is_joined, joined_after, last_renewal, leaves, leaving_in, leaving_job, present_sessions, recovery_of, removed_after, removed_in, session_numbered, sessions}
use Rattle.sl_trace.specs.declared.session.Session.{Session}
use Rattle.sl_trace.specs.EffectTexts.{is_ok_reply}
use Rattle.sl_trace.specs.Traces.{Child, Job, Replied, Submitted, children, end_of, holdings, is_running, is_shared, job_numbered, next_child, next_job, reply_in, reply_to, same_place, spot_of_grant}
use Rattle.sl_trace.specs.declared.command.Command.{Command}
use Rattle.sl_trace.specs.declared.command.ResourceArg.{ResourceArg}
use Rattle.sl_trace.specs.declared.effects.Grant.{Grant}
use Rattle.sl_trace.specs.declared.effects.JobReply.{JobReply}
use Rattle.sl_trace.specs.declared.effects.JoinStep.TheVariants.{FirstRead}
use Rattle.sl_trace.specs.declared.effects.LeaseStep.TheVariants.{ClearMode, FreeLeader, ReadArea, SetMode}
use Rattle.sl_trace.specs.declared.effects.Mode.TheVariants.{Exclusive, Shared}
use Rattle.sl_trace.specs.declared.effects.Mode.{Mode}
use Rattle.sl_trace.specs.declared.effects.Op.TheVariants.{ReadSectors, WriteRecord}
use Rattle.sl_trace.specs.declared.effects.Purpose.TheVariants.{Joining, Lease, RequestRead, ValueRead, ValueWrite}
use Rattle.sl_trace.specs.declared.effects.Signal.TheVariants.{Term}
use Rattle.sl_trace.specs.declared.effects.Spot.{Spot}
use Rattle.sl_trace.specs.declared.effects.Work.TheVariants.{ForJob}
use Rattle.sl_trace.specs.declared.input.Input.TheVariants.{Line, Wake}
use Rattle.sl_trace.specs.declared.reply.Reply.TheVariants.{Done, Generation, Limit as LimitReached, Recovering}
use Rattle.sl_trace.specs.declared.reply.Reply.{Reply}
use Rattle.sl_words.proofs.CaseLaws.{false_is_true, is_false, none_some, not_both}
use Rattle.sl_words.proofs.WordLaws.{and_true}
use Rattle.sl_words.specs.Words.{choose, some_is}
use Rattle.sl_due_facts.specs.Acts.Acts.{next_of_conversion, next_of_release}
use Rattle.sl_due_facts.proofs.Acts.Pairs.Decisions.{conversion_is, release_is}
use Rattle.sl_trace.specs.declared.reply.Limited.TheVariants.{Turn as TurnLimit}
use Rattle.std.proofs.Common.{ap, ap₂, inl, inr, refl, subst, sym, ◌∙◌}
use Rattle.std.proofs.lemmas.Bool.{eqb-true}
use Rattle.std.specs.List.{list_any}
use Rattle.std.specs.Option.{option_map_or}
use Rattle.std.specs.Prelude.{Bool, Contains, List, None, Ok, Option, Some, [], bytes_eq, false, filter, find, is_none, is_some, length, not, option_and_then, option_map, true, ℕ, ◌&&◌, ◌+◌, ◌<◌, ◌==◌, ◌∷◌, ◌≡◌}

-- ---- the line's job is new

next_runs : (x : Step) → Kept x → is_running (seen x) (next_job x.setting (seen x)) ≡ true
next_runs x k = by (is_running (seen x) (next_job x.setting (seen x))) refl where
  by : (b : Bool) → is_running (seen x) (next_job x.setting (seen x)) ≡ b → b ≡ true
  by true is = refl
  by false is =
      let j = some_of (job_numbered x.setting (seen x) (next_job x.setting (seen x))) (k.known.0.facts.jobs.replied (next_job x.setting (seen x)) is) in
      absurd (none_some j.0 (sym (next_is_new x.setting (seen x)) ∙ j.1))

-- ---- a leaving

-- Nobody has joined in a step so far.
joined_before : (x : Step) (s : Session) → x.input ≡ Wake → Kept x → is_joined (seen x) s ≡ true → is_joined x.past s ≡ true
joined_before x s wake k is = by (removed_after x.past s) (both.1) where
  both : (is_some (joined_after (seen x) s) ≡ true) × (is_none (removed_after (seen x) s) ≡ true)
  both = and_true (is_some (joined_after (seen x) s)) (is_none (removed_after (seen x) s)) is

  was : is_some (joined_after x.past s) ≡ true
  was = job s.job both.0 where
    replied : (j : ℕ) (o : Option Replied) → is_some (option_and_then (λ (r : Replied). choose (is_join_done r.reply) (r.at + 1)) (elim o as (λ z. Option Replied) [ Some r ↦ Some r | None ↦ reply_in j x.past (entry_of x) ])) ≡ true
        → is_some (option_and_then (λ (r : Replied). choose (is_join_done r.reply) (r.at + 1)) o) ≡ true
    replied j (Some r) h = h
    replied j None h = found (find (λ (a : JobReply). a.job == j) x.effects.replies) refl h where
      done_is_ok : (r : Reply) → is_join_done r ≡ true → is_ok_reply r ≡ true
      done_is_ok (Generation g) joined = refl
      done_is_ok r joined = absurd (false_is_true joined)

      found : (o : Option JobReply) → find (λ (a : JobReply). a.job == j) x.effects.replies ≡ o
          → is_some (option_and_then (λ (r : Replied). choose (is_join_done r.reply) (r.at + 1)) (option_map (λ (a : JobReply). let r : Replied = record { at = length x.past; reply = a.reply } in r) o)) ≡ true
          → is_some (option_and_then (λ (r : Replied). choose (is_join_done r.reply) (r.at + 1)) None) ≡ true
      found None at h = h
      found (Some a) at h =
          absurd (ok (find_inside (λ (b : JobReply). b.job == j) x.effects.replies a at).0 (is_join_done a.reply) refl h) where
            ok : Contains x.effects.replies a → (b : Bool) → is_join_done a.reply ≡ b → is_some (choose b (length x.past + 1)) ≡ true → ⊥
            ok there true done got = not_both (is_ok_reply a.reply) (done_is_ok a.reply done) (k.denies wake a there)
            ok there false done got = false_is_true got

    job : (o : Option ℕ) → is_some (elim o as (λ z. Option ℕ) [ None ↦ Some 0 | Some j ↦ option_and_then (λ (r : Replied). choose (is_join_done r.reply) (r.at + 1)) (reply_to (seen x) j) ]) ≡ true
        → is_some (elim o as (λ z. Option ℕ) [ None ↦ Some 0 | Some j ↦ option_and_then (λ (r : Replied). choose (is_join_done r.reply) (r.at + 1)) (reply_to x.past j) ]) ≡ true
    job None h = refl
    job (Some j) h = replied j (reply_to x.past j) h

  by : (o : Option ℕ) → is_none (elim o as (λ z. Option ℕ) [ Some i ↦ Some i | None ↦ removed_in x.past s (entry_of x) ]) ≡ true → (is_some (joined_after x.past s) && is_none o) ≡ true
  by None h = ap (λ b. b && true) was
  by (Some i) h = absurd (false_is_true h)

-- A leaving that begins.
record Left (x : Step) (text : List ℕ) (s : Session) : Type 0 where
  active : is_active x.setting (seen x) s ≡ true
  leaves_it : leaves s (x.setting.read text) ≡ true
  inside : Contains (sessions x.setting (seen x)) s

made : Step → List ℕ → Job
made x text = record { number = next_job x.setting x.past; at = length x.past; reading = x.reading; command = x.setting.read text }

leaving_begins : (x : Step) (text : List ℕ) (s : Session) → x.input ≡ Wake → Kept x → Left x text s
    → leaving_job x.setting (seen (with_input (Line text) x)) s ≡ Some (record { number = next_job x.setting x.past; at = length x.past; reading = x.reading; command = x.setting.read text })
leaving_begins x text s wake k h = by (leaving_job x.setting x.past s) none_yet where
  parts : (is_joined (seen x) s ≡ true) × (is_none (leaving_job x.setting (seen x) s) ≡ true)
  parts =
      let both = and_true (is_joined (seen x) s && is_none (recovery_of x.setting (seen x) s)) (is_none (leaving_job x.setting (seen x) s)) h.active in
      ((and_true (is_joined (seen x) s) (is_none (recovery_of x.setting (seen x) s)) both.0).0, both.1)

  none_yet : is_none (leaving_job x.setting x.past s) ≡ true
  none_yet = was (leaving_job x.setting x.past s) parts.1 where
    was : (o : Option Job) → is_none (elim o as (λ z. Option Job) [ Some j ↦ Some j | None ↦ leaving_in x.setting x.past s (entry_of x) ]) ≡ true → is_none o ≡ true
    was None g = refl
    was (Some j) g = g

  unreplied : list_any (λ (a : JobReply). a.job == next_job x.setting x.past) x.effects.replies ≡ false
  unreplied = is_false (list_any (λ (a : JobReply). a.job == next_job x.setting x.past) x.effects.replies) (λ some.
      let a = any_found (λ (b : JobReply). b.job == next_job x.setting x.past) x.effects.replies some in
      let number : a.0.job ≡ next_job x.setting (seen x) = eqb-true a.0.job (next_job x.setting x.past) a.2 ∙ sym (next_before x wake) in
      not_both (is_running (seen x) (next_job x.setting (seen x))) (next_runs x k) (subst (λ n. is_running (seen x) n ≡ false) number (replied_stops x.past (entry_of x) a.0 a.1)))

  allowed : (is_joined x.past s && not (list_any (λ (a : JobReply). a.job == next_job x.setting x.past) x.effects.replies)) ≡ true
  allowed = ap₂ (λ a b. a && not b) (joined_before x s wake k parts.0) unreplied

  begun : leaving_in x.setting x.past s (entry_of (with_input (Line text) x)) ≡ Some (record { number = next_job x.setting x.past; at = length x.past; reading = x.reading; command = x.setting.read text })
  begun =
      ap (λ b. elim b as (λ z. Option Job) [
        | false ↦ None
        | true ↦ choose (is_joined x.past s && not (list_any (λ (a : JobReply). a.job == next_job x.setting x.past) x.effects.replies))
            (record { number = next_job x.setting x.past; at = length x.past; reading = x.reading; command = x.setting.read text })
      ]) h.leaves_it ∙ ap (λ b. choose b (record { number = next_job x.setting x.past; at = length x.past; reading = x.reading; command = x.setting.read text })) allowed

  by : (o : Option Job) → is_none o ≡ true
      → (elim o as (λ z. Option Job) [ Some j ↦ Some j | None ↦ leaving_in x.setting x.past s (entry_of (with_input (Line text) x)) ])
      ≡ Some (record { number = next_job x.setting x.past; at = length x.past; reading = x.reading; command = x.setting.read text })
  by None g = begun
  by (Some j) g = absurd (false_is_true g)

abbrev LeavesOn : Session → Job → Step → Type 0
LeavesOn s j y = (leaving_job y.setting (seen y) s ≡ Some j) × Contains (sessions y.setting (seen y)) s

leaving_sent : (s : Session) (j : Job) (y : Step) (p : ℕ) → LeavesOn s j y → LeavesOn s j (send p Term y)
leaving_sent s j y p h = by (stopper_of y.setting (seen y) p) where
  by : (o : Option (List ℕ)) → LeavesOn s j (elim o as (λ z. Step) [ None ↦ add_signal p Term y | Some program ↦ add_start (record { process = next_child (seen y); program = program; job = None; stands_for = Some p }) y ])
  by None = h
  by (Some program) = h

leaving_rests : (x : Step) (text : List ℕ) (s : Session) → x.input ≡ Wake → x.effects.calls ≡ [] → Kept x → Left x text s → MayRest (signal_and_refuse s (Some (next_job x.setting (seen x))) (with_input (Line text) x)) (next_job x.setting (seen x))
unfolding signal_and_refuse
leaving_rests x text s wake bare k h = λ runs. For_leaving s j done.1 done.0 (sym (next_before x wake)) where
  y : Step
  y = with_input (Line text) x

  j : Job
  j = record { number = next_job x.setting x.past; at = length x.past; reading = x.reading; command = x.setting.read text }

  z : Step
  z = signal_holders Term s y

  first : LeavesOn s (record { number = next_job x.setting x.past; at = length x.past; reading = x.reading; command = x.setting.read text }) (with_input (Line text) x)
  first = (leaving_begins x text s wake k h, subst (λ ss. Contains ss s) (sessions_bare x bare ∙ sym (sessions_bare (with_input (Line text) x) bare)) h.inside)

  signalled_one : LeavesOn s (record { number = next_job x.setting x.past; at = length x.past; reading = x.reading; command = x.setting.read text }) (signal_holders Term s (with_input (Line text) x))
  signalled_one = for_each_keeps (LeavesOn s j) (holders_of (seen y) s) (λ p. send p Term) y (λ p there w g. leaving_sent s j w p g) first

  others : (i : Job) → not (some_is (λ n. n == i.number) (Some (next_job x.setting (seen x)))) ≡ true → i.number ≡ next_job x.setting x.past → ⊥
  others i other same =
      not_both (next_job x.setting (seen x) == i.number) (ap (λ n. n == i.number) (next_before x wake ∙ sym same) ∙ number_itself i.number) (is_not (next_job x.setting (seen x) == i.number) other) where
        is_not : (b : Bool) → not b ≡ true → b ≡ false
        is_not false g = refl
        is_not true g = absurd (false_is_true g)

  done : LeavesOn s (record { number = next_job x.setting x.past; at = length x.past; reading = x.reading; command = x.setting.read text }) (signal_and_refuse s (Some (next_job x.setting (seen x))) (with_input (Line text) x))
  done =
      for_each_keeps (LeavesOn s j) (filter (λ (i : Job). not (some_is (λ n. n == i.number) (Some (next_job x.setting (seen x))))) (jobs_of_session z.setting (seen z) s))
      (λ i. add_reply i.number (Recovering (last_renewal z.setting (seen z) s))) z
      (λ i there w g. (
        leaving_replied w i.number (Recovering (last_renewal z.setting (seen z) s)) s j g.0
            (others i (kept_inside (λ (i : Job). not (some_is (λ n. n == i.number) (Some (next_job x.setting (seen x))))) (jobs_of_session z.setting (seen z) s) i there).1),
        g.1,
      )) signalled_one

-- ---- what is held has its block

-- A session that holds something there has submitted a block.
held_block : (x : Step) (s : Session) (g : Grant) → Kept x → Contains (holdings (seen x)) g → (g.session == s.number) ≡ true → Contains (sessions x.setting (seen x)) s
    → (b : Block) × (block_submitted (lease_calls x.setting (seen x) s (spot_of_grant g)) ≡ Some b)
held_block x s g k there mine inside = by (is_shared g.mode) refl where
  has : session_numbered x.setting (seen x) g.session ≡ Some s
  has = subst (λ n. session_numbered x.setting (seen x) n ≡ Some s) (sym (eqb-true g.session s.number mine)) (session_has x.setting (seen x) s inside)

  by : (b : Bool) → is_shared g.mode ≡ b → (c : Block) × (block_submitted (lease_calls x.setting (seen x) s (spot_of_grant g)) ≡ Some c)
  by true is = shared_block x.setting (seen x) s g k.known.0.orderly there is has
  by false is = let h = k.known.0.facts.holdings.stands g s there has is in (h.own, h.known)

-- What is known of a lease of the session of a line.
record OnLease (x : Step) (s : Session) (r : ResourceArg) (g : Grant) : Type 0 where
  inside : Contains (sessions x.setting (seen x)) s
  held : Contains (holdings (seen x)) g
  mine : (g.session == s.number) ≡ true
  at : spot_of_grant g ≡ spot_of r

on_lease : (x : Step) (s : Session) (r : ResourceArg) (g : Grant) → find (λ (z : Session). bytes_eq z.lockspace r.lockspace) (present_sessions x.setting (seen x)) ≡ Some s → Contains (holdings_on (seen x) s (spot_of r)) g → OnLease x s r g
on_lease x s r g named held =
    let on = kept_inside (λ (z : Grant). same_place z.path z.offset (spot_of r).path (spot_of r).base) (holdings_of (seen x) s) g held in
    let mine = kept_inside (λ (z : Grant). z.session == s.number) (holdings (seen x)) g on.0 in
    record {
      inside = (present_is x.setting (seen x) s (find_inside (λ (z : Session). bytes_eq z.lockspace r.lockspace) (present_sessions x.setting (seen x)) s named).0).0;
      held = mine.0;
      mine = mine.1;
      at = spot_is g (spot_of r) on.1;
    }

-- ---- releases and conversions

calls_then : (x : Step) (text : List ℕ) (s : Session) (at : Spot) → x.input ≡ Wake → x.effects.calls ≡ [] → lease_calls x.setting (seen (with_input (Line text) x)) s at ≡ lease_calls x.setting (seen x) s at
calls_then x text s at wake bare = ap (λ ms. filter (λ (m : Submitted). is_lease_call m && is_on x.setting.layout at m.call) (filter (is_call_of s) ms)) (calls_lined x text wake bare)

release_rests : (x : Step) (text : List ℕ) (c : Command) (s : Session) (g : Grant) (j : ℕ) → x.input ≡ Wake → x.effects.calls ≡ [] → Kept x → GiveUpGrounds x.setting (seen x) c s g
    → MayRest (after_end s (spot_of_grant g) j g (add_end (end_of g) (with_input (Line text) x))) j
unfolding after_end carry_lease known
release_rests x text c s g j wake bare k grounds = by (holdings_on (seen z) s at) where
  at : Spot
  at = spot_of_grant g

  z : Step
  z = add_end (end_of g) (with_input (Line text) x)

  l : OnLease x s grounds.resource g
  l = on_lease x s grounds.resource g grounds.ready.named grounds.held

  own : (b : Block) × (block_submitted (lease_calls x.setting (seen (add_end (end_of g) (with_input (Line text) x))) s (spot_of_grant g)) ≡ Some b)
  own = let b = held_block x s g k l.held l.mine l.inside in (b.0, ap (λ ms. block_submitted ms) (calls_then x text s at wake bare) ∙ b.1)

  clears : (o : Option Block) → o ≡ Some own.0 → MayRest (carry_lease s (spot_of_grant g) (ForJob j) (option_map_or (λ own. WriteBlock ClearMode (moded_block own false 0)) o Nothing) (add_end (end_of g) (with_input (Line text) x))) j
  clears None is = absurd (none_some own.0 is)
  clears (Some b) is = called_rests z s.number at.path (Lease (ForJob j) ClearMode) _ _ j refl

  mode : (m : Mode) → MayRest (carry_lease s (spot_of_grant g) (ForJob j) (release_next (lease_place x.setting s) (known x.setting (seen (add_end (end_of g) (with_input (Line text) x))) s (spot_of_grant g)) m g.lver) (add_end (end_of g) (with_input (Line text) x))) j
  mode Exclusive = called_rests z s.number at.path (Lease (ForJob j) FreeLeader) _ _ j refl
  mode Shared = clears (block_submitted (lease_calls x.setting (seen z) s at)) own.1

  by : (hs : List Grant)
      → MayRest (elim hs as (λ w. Step) [
        | h ∷ rest ↦ add_reply j Done (add_end (end_of g) (with_input (Line text) x))
        | [] ↦ carry_lease s (spot_of_grant g) (ForJob j) (next_of_release x.setting (seen (add_end (end_of g) (with_input (Line text) x))) s (spot_of_grant g) g) (add_end (end_of g) (with_input (Line text) x))
      ]) j
  by (h ∷ rest) = replied_rests z j Done
  by [] =
      release_is (λ n. MayRest (carry_lease s (spot_of_grant g) (ForJob j) n (add_end (end_of g) (with_input (Line text) x))) j) x.setting (seen (add_end (end_of g) (with_input (Line text) x))) s (spot_of_grant g) g
      (λ fits. mode g.mode) (λ paired over writes. replied_rests z j (LimitReached TurnLimit))

conversion_by : (x : Step) (text : List ℕ) (c : Command) (s : Session) (r : ResourceArg) (mode : Mode) (j : ℕ) → x.input ≡ Wake → x.effects.calls ≡ [] → Kept x → ConvertGrounds x.setting (seen x) c s r mode
    → MayRest (carry_lease s (spot_of r) (ForJob j) (convert_next (known x.setting (seen (with_input (Line text) x)) s (spot_of r)) mode r.name) (with_input (Line text) x)) j
unfolding carry_lease known
conversion_by x text c s r Exclusive j wake bare k grounds =
    called_rests (with_input (Line text) x) s.number (spot_of r).path (Lease (ForJob j) (ReadArea r.name)) _ _ j refl
conversion_by x text c s r Shared j wake bare k grounds = by (block_submitted (lease_calls x.setting (seen (with_input (Line text) x)) s (spot_of r))) own.1 where
  found : Contains (holdings_on (seen x) s (spot_of r)) grounds.holding
  found = (find_inside (λ (z : Grant). z.process == grounds.process && true) (holdings_on (seen x) s (spot_of r)) grounds.holding grounds.held).0

  l : OnLease x s r grounds.holding
  l = on_lease x s r grounds.holding grounds.ready.named found

  own : (b : Block) × (block_submitted (lease_calls x.setting (seen (with_input (Line text) x)) s (spot_of r)) ≡ Some b)
  own =
      let b = held_block x s grounds.holding k l.held l.mine l.inside in
      (b.0, ap (λ ms. block_submitted ms) (calls_then x text s (spot_of r) wake bare) ∙ (ap (λ z. block_submitted (lease_calls x.setting (seen x) s z)) (sym l.at) ∙ b.1))

  by : (o : Option Block) → o ≡ Some own.0
      → MayRest (carry_lease s (spot_of r) (ForJob j) (option_map_or (λ own. WriteBlock SetMode (moded_block own true (known x.setting (seen (with_input (Line text) x)) s (spot_of r)).self.generation)) o Nothing) (with_input (Line text) x)) j
  by None is = absurd (none_some own.0 is)
  by (Some b) is = called_rests (with_input (Line text) x) s.number (spot_of r).path (Lease (ForJob j) SetMode) _ _ j refl

conversion_rests : (x : Step) (text : List ℕ) (c : Command) (s : Session) (r : ResourceArg) (mode : Mode) (j : ℕ) → x.input ≡ Wake → x.effects.calls ≡ [] → Kept x → ConvertGrounds x.setting (seen x) c s r mode
    → MayRest (carry_lease s (spot_of r) (ForJob j) (next_of_conversion x.setting (seen (with_input (Line text) x)) s (spot_of r) mode r.name) (with_input (Line text) x)) j
unfolding carry_lease
conversion_rests x text c s r mode j wake bare k grounds =
    conversion_is (λ n. MayRest (carry_lease s (spot_of r) (ForJob j) n (with_input (Line text) x)) j) x.setting (seen (with_input (Line text) x)) s (spot_of r) mode r.name
    (λ fits. conversion_by x text c s r mode j wake bare k grounds) (λ paired over writes. replied_rests (with_input (Line text) x) j (LimitReached TurnLimit))

-- ---- all decisions

grants_lease : (c : Command) (r : ResourceArg) → AsksLease c r → is_granting c ≡ true
grants_lease c r (inl a) = ap (λ z. is_granting z) a.3
grants_lease c r (inr a) = ap (λ z. is_granting z) a.2

pub lines_rest : (x : Step) (text : List ℕ) (c : Command) (d : Decision) → Kept x → x.input ≡ Wake → x.effects.calls ≡ [] → x.setting.read text ≡ Ok c → decided x.setting (seen x) x.reading c ≡ d → reply_at_once d ≡ None
    → MayRest (carry_decision (next_job x.setting (seen x)) c d (with_input (Line text) x)) (next_job x.setting (seen x))
unfolding carry_decision
lines_rest x text c d k wake bare says is more =
    by d more (subst (λ z. HasGrounds x.setting (seen x) c z) is (decisions_have_grounds x.setting (seen x) x.reading c)) (subst (λ z. DecisionFits x.setting (seen x) c z) is (decisions_fit x.setting (seen x) x.reading c)) where
      y : Step
      y = with_input (Line text) x

      j : ℕ
      j = next_job x.setting (seen x)

      given : (v : Child) → Contains (children (seen (with_input (Line text) x))) v → v.process < next_child (seen (with_input (Line text) x))
      given = given_seen x (Line text) wake k.known.0.facts.holdings.given

      by : (d : Decision) → reply_at_once d ≡ None → HasGrounds x.setting (seen x) c d → DecisionFits x.setting (seen x) c d
          → MayRest (carry_decision (next_job x.setting (seen x)) c d (with_input (Line text) x)) (next_job x.setting (seen x))
      by (Replies r) at_once g f = absurd (none_some r (sym at_once))
      by (Joins n a) at_once g f = called_rests y n a.path (Joining j FirstRead) (delta_offset x.setting.layout a.offset a.id) (ReadSectors 1) j refl
      by (Leaves s) at_once g f =
          let found = find_inside (λ (z : Session). bytes_eq z.lockspace f.1.0.name) (present_sessions x.setting (seen x)) s f.1.2 in
          leaving_rests x text s wake bare k (record { active = f.0; leaves_it = ap (λ z. leaves s z) (says ∙ ap (λ z. Ok z) f.1.1) ∙ f.1.3; inside = (present_is x.setting (seen x) s found.0).0 })
      by (ReadsArea s r) at_once g f = called_rests y s.number r.path (Lease (ForJob j) (ReadArea r.name)) r.offset (ReadSectors (area_sectors x.setting.layout)) j refl
      by (Shares s lver) at_once g f = granted_rests y s j c Shared lver (grants_lease c g.resource g.acquires.asks) given
      by (GivesUp s e) at_once g f = release_rests x text c s e j wake bare k g
      by (TakesOver s e) at_once g f = granted_rests (add_end (end_of e) y) s j c e.mode e.lver (ap (λ z. is_granting z) g.command) given
      by (ConvertsTo s r mode) at_once g f = conversion_rests x text c s r mode j wake bare k g
      by (Requests s r) at_once g f = called_rests y s.number r.path (RequestRead j) r.offset (ReadSectors 2) j refl
      by (SetsValue s at v) at_once g f = called_rests y s.number at.path (ValueWrite j) (value_offset x.setting.layout at.base) (WriteRecord (ValueIs v)) j refl
      by (GetsValue s at) at_once g f = called_rests y s.number at.path (ValueRead j) (value_offset x.setting.layout at.base) (ReadSectors 1) j refl
