-- What a line comes to may be done: a lease on a calm area waits for nothing, and who gives up, converts or sets has a lease there.
use Rattle.sl_area.specs.AreaSizes.{IsGeometry, Layout, Sizes}
use Rattle.sl_due_facts.proofs.Acts.Pairs.Decisions.{within_cases}
use Rattle.sl_area.specs.AreaLayout.{area_sectors, leader_offset, value_offset}
use Rattle.sl_area.specs.AreaRecords.{leader_record}
use Rattle.sl_due.specs.Steps.{Step, seen, with_input}
use Rattle.sl_due.specs.declared.decision.Decision.TheVariants.{ConvertsTo, GetsValue, GivesUp, Joins, Leaves, ReadsArea, Replies, Requests, SetsValue, Shares, TakesOver}
use Rattle.sl_due.specs.declared.decision.Decision.{Decision}
use Rattle.sl_due_leases.proofs.Holdings.DecisionsHaveGrounds.{decisions_have_grounds}
use Rattle.sl_due_leases.proofs.Holdings.LeaseConversions.{spot_is}
use Rattle.sl_due_leases.proofs.Ways.WayFactsHeld.LinesReady.{base_aligned, named_base}
use Rattle.sl_due_leases.specs.Holdings.DecisionGrounds.{AsksLease, HasGrounds, Releases}
use Rattle.sl_host_law.proofs.Calls.MemberCalls.SpotsMore.{one_spot}
use Rattle.sl_host_law.proofs.Decisions.CommandsAreDecided.{commands_are_decided}
use Rattle.sl_host_law.proofs.SharedFacts.PlainLists.{at_some, in_back}
use Rattle.sl_host_law.proofs.Questions.MembersAnswer.{members_answer}
use Rattle.sl_host_law.proofs.Steps.AreasLie.{has_room, placed}
use Rattle.sl_host_law.specs.Answers.Grants.{ended, given_up}
use Rattle.sl_host_law.specs.Answers.LeaseDecisions.{BeginsArea, MayCarryLease, MayWork, block_at, record_at}
use Rattle.sl_host_law.specs.Answers.LeasesGoOn.{IsPlacedAt}
use Rattle.sl_host_law.specs.Calls.MemberCalls.{fits_lease, fits_value, is_idle_job, is_leaving_alone}
use Rattle.sl_host_law.specs.Decisions.CommandDecisions.{decision_of, held_of}
use Rattle.sl_host_law.specs.Decisions.DecisionLaws.{LastIsEnough}
use Rattle.sl_host_law.specs.StepParts.Lines.{HeardBy}
use Rattle.sl_host_law.specs.Replies.RepliesAreTaken.{is_plain_line}
use Rattle.sl_host_law.specs.Steps.Leases.{converting_next, known_at, releasing_next}
use Rattle.sl_host_law.specs.Steps.LinesFollow.{IsLeased, MayDecide}
use Rattle.sl_host_law.specs.Questions.Answers.{place_in}
use Rattle.sl_host_state.specs.HeardInputs.{heard_line, leaves_member, member_leaving, new_job}
use Rattle.sl_host_state.specs.KeptState.{Config, HostState, LeaseState, MemberState}
use Rattle.sl_host_state.specs.MadeEffects.{is_lease_on, next_submitted}
use Rattle.sl_host_state.specs.NewHost.{sizes_in}
use Rattle.sl_host_state.specs.Passes.{whos}
use Rattle.sl_host_state.specs.HostStands.{IsWaiting, LeaseStands}
use Rattle.sl_host_state.specs.declared.kept_parts.JobState.{JobState}
use Rattle.sl_host_state.specs.declared.kept_parts.LeaseCall.{LeaseCall}
use Rattle.sl_trace.specs.Jobs.{resource_named}
use Rattle.sl_trace.specs.Conversions.{convert_next}
use Rattle.sl_trace.specs.Releases.{release_next}
use Rattle.sl_trace.specs.LeaseDecisions.{within_turn, LeasePlace}
use Rattle.sl_trace.specs.Leases.{LeaseKnown, holdings_on, is_lease_call, is_on, lease_calls, open_on, spot_of}
use Rattle.sl_trace.specs.Ballots.{moded_block}
use Rattle.sl_trace.specs.declared.lease.LeaseNext.TheVariants.{AnswerJob, Nothing, WriteBlock}
use Rattle.sl_trace.specs.declared.lease.Aim.TheVariants.{Converts, Releases as Releasing}
use Rattle.sl_trace.specs.declared.reply.Reply.{Reply}
use Rattle.sl_words.proofs.Lists.{any_of, contains_first, contains_map, contains_none, find_inside, got_inside, in_map, kept as kept_in, kept_inside}
use Rattle.sl_sector.specs.declared.sector.Block.{Block}
use Rattle.sl_sector.specs.declared.sector.Leader.{Leader}
use Rattle.sl_sector.specs.declared.sector.Rec.TheVariants.{ValueIs}
use Rattle.sl_trace.specs.Sessions.{calls_of, holdings_of, is_call_of, me}
use Rattle.sl_trace.specs.declared.delta.DeltaKnown.{DeltaKnown}
use Rattle.sl_trace.specs.declared.session.Begun.{Begun}
use Rattle.sl_trace.specs.declared.session.Session.{Session}
use Rattle.sl_step_law.proofs.HoldersLeased.{holdings_are_known}
use Rattle.sl_step_law.proofs.LeasesMake.{may_read, may_write_block, may_write_leader, some_room}
use Rattle.sl_step_law.specs.Lines.{LinesMay}
use Rattle.sl_step_law.specs.ReadyHosts.{IsReady}
use Rattle.sl_trace.specs.Traces.{Submitted, is_shared, outstanding, same_place, spot_of_grant, submitted}
use Rattle.sl_trace.specs.declared.command.Command.{Command}
use Rattle.sl_trace.specs.declared.command.ResourceArg.{ResourceArg}
use Rattle.sl_trace.specs.declared.effects.Call.{Call}
use Rattle.sl_trace.specs.declared.effects.Grant.{Grant}
use Rattle.sl_trace.specs.declared.effects.LeaseStep.TheVariants.{ClearMode, FreeLeader, ReadArea, SetMode}
use Rattle.sl_trace.specs.declared.effects.Mode.TheVariants.{Exclusive, Shared}
use Rattle.sl_trace.specs.declared.effects.Mode.{Mode}
use Rattle.sl_trace.specs.declared.effects.Op.TheVariants.{ReadSectors, WriteRecord}
use Rattle.sl_trace.specs.declared.effects.Purpose.TheVariants.{Lease, ValueWrite}
use Rattle.sl_trace.specs.declared.effects.Spot.{Spot}
use Rattle.sl_trace.specs.declared.effects.Work.TheVariants.{ForJob}
use Rattle.sl_trace.specs.declared.input.Input.TheVariants.{Line, Wake}
use Rattle.sl_words.proofs.CaseLaws.{some_value, true_is_false}
use Rattle.sl_words.proofs.WordLaws.{and_true}
use Rattle.sl_words.proofs.Numbers.{number_itself}
use Rattle.std.proofs.Common.{ap, arith, inl, inr, refl, subst, sym, ◌∙◌}
use Rattle.std.proofs.lemmas.Bool.Decides.{nat_tests}
use Rattle.std.proofs.lemmas.Slice.Eq.{bytes_eq-Decides}
use Rattle.std.specs.List.{list_any}
use Rattle.std.specs.Option.{option_map_or}
use Rattle.std.specs.Prelude.{Bool, Contains, IsTrue, List, None, Ok, Option, Some, bytes_eq, cond, false, filter, find, is_none, length, nat_le, nat_lt, not, slice_get, true, [], ℕ, ◌%◌, ◌&&◌, ◌++◌, ◌+◌, ◌-◌, ◌<◌, ◌==◌, ◌∷◌, ◌≡◌, ◌≤◌, ◌||◌}

-- ---- plain facts

same_bytes : (bs : List ℕ) → bytes_eq bs bs ≡ true
same_bytes bs = (bytes_eq-Decides bs bs).1 refl

whole : (n d : ℕ) → n % d ≡ 0 → n - n % d ≡ n
whole n d zero = omega (arith, zero)

within : (base area sector : ℕ) → 0 < sector → sector < area → (nat_le base (base + area - sector) && nat_lt (base + area - sector) (base + area)) ≡ true
within base area sector some less = by (base + area - sector) (omega (arith, some, less)) (omega (arith, some, less)) where
  by : (n : ℕ) → base ≤ n → n < base + area → (nat_le base n && nat_lt n (base + area)) ≡ true
  by n low high = grind (arith, nat_tests, low, high)

one_row : (z : Sizes) → IsGeometry z → z.sector < z.area
one_row z g = let row = has_room z 1 g (omega arith) in omega (arith, row)

some_sector : (z : Sizes) → IsGeometry z → 0 < z.sector
some_sector z g = grind (arith, nat_tests, g)

module _ (h : HostState) (x : Step) (text : List ℕ) (c : Command) (r : IsReady h x) (says : h.config.read text ≡ Ok c) (last : LastIsEnough h x c) where
  -- ---- the command

  layouts : x.setting.layout ≡ h.config.layout
  layouts = ap (λ (z : Config). z.layout) r.stands.keeps.config

  grounds : (d : Decision) → decision_of h c ≡ d → HasGrounds x.setting (seen x) c d
  grounds d is = subst (HasGrounds x.setting (seen x) c) (commands_are_decided Wake h x c r.stands last ∙ is) (decisions_have_grounds x.setting (seen x) x.reading c)

  aligned : (q : ResourceArg) → resource_named c ≡ Some q → q.offset % h.config.layout.area ≡ 0
  aligned q named =
      subst (λ (g : Layout). q.offset % g.area ≡ 0) layouts
      (base_aligned x.setting q.offset
      (named_base x.setting.layout c q (r.kept.known.0.setting.reads text c (ap (λ (z : Config). z.read text) r.stands.keeps.config ∙ says)) named))

  asked : (q : ResourceArg) → AsksLease c q → resource_named c ≡ Some q
  asked q (inl k) = ap resource_named k.3
  asked q (inr k) = ap resource_named k.2

  -- ---- the member, as the line has been heard

  record Before (m : MemberState) : Type 0 where
    old : MemberState
    there : Contains h.members old
    who : old.who ≡ m.who
    leases : old.leases ≡ m.leases

  same : (z : MemberState) (b : Bool) → ((cond b (member_leaving h z) z).who ≡ z.who) × ((cond b (member_leaving h z) z).leases ≡ z.leases)
  same z false = (refl, refl)
  same z true = by z.leaving where
    by : (o : Option Begun)
        → ((elim o as (λ y. MemberState) [
          | Some b ↦ z
          | None ↦ (let q : DeltaKnown = z.known in record z { leaving = Some (record { at = h.entries - 1; reading = h.reading; kills_from = h.entries }); known = record q { leaving = Some h.next_job } })
        ]).who ≡ z.who)
        × ((elim o as (λ y. MemberState) [
          | Some b ↦ z
          | None ↦ (let q : DeltaKnown = z.known in record z { leaving = Some (record { at = h.entries - 1; reading = h.reading; kills_from = h.entries }); known = record q { leaving = Some h.next_job } })
        ]).leases ≡ z.leases)
    by (Some b) = (refl, refl)
    by None = (refl, refl)

  before : (k : ℕ) (m : MemberState) (s : Session) → HeardBy h c k m s → Before m
  before k m s by =
      let z = in_map (λ (y : MemberState). cond (leaves_member c y) (member_leaving h y) y) h.members m (got_inside (heard_line c h).members k m by.there) in
      record {
        old = z.0;
        there = z.1;
        who = sym (same z.0 (leaves_member c z.0)).0 ∙ ap (λ (y : MemberState). y.who) z.2;
        leases = sym (same z.0 (leaves_member c z.0)).1 ∙ ap (λ (y : MemberState). y.leases) z.2;
      }

  -- A lease on a calm area waits for nothing.
  rests : (z : MemberState) (l : LeaseState) → Contains h.members z → Contains z.leases l → open_on x.setting (seen x) l.spot ≡ [] → l.waiting ≡ None
  rests z l there has calm = by l.waiting refl where
    place : (n : ℕ) × (slice_get h.members n ≡ Some z)
    place = at_some h.members z there

    at : (n : ℕ) × (slice_get z.leases n ≡ Some l)
    at = at_some z.leases l has

    stands_l : LeaseStands x.setting.layout z.who.lockspace (me (seen x) z.who) l (lease_calls x.setting (seen x) z.who l.spot)
    stands_l = (r.stands.keeps.members place.0 z place.1).leases at.0 l at.1

    newest : (w : LeaseCall) (ms : List Submitted) → lease_calls x.setting (seen x) z.who l.spot ≡ ms → IsWaiting (Some w) ms → ⊥
    newest w [] is waits = waits
    newest w (f ∷ ms) is waits =
        let mine = kept_inside (λ (y : Submitted). is_lease_call y && is_on x.setting.layout l.spot y.call) (calls_of (seen x) z.who) f (subst (λ y. Contains y f) (sym is) (contains_first f ms)) in
        let inside = kept_inside (is_call_of z.who) (submitted (seen x)) f mine.0 in
        let opens = kept_in (λ (y : Submitted). is_none y.answer) (submitted (seen x)) f (ap is_none waits.0.0) inside.0 in
        contains_none f (subst (λ y. Contains y f) calm
        (kept_in (λ (y : Submitted). is_on x.setting.layout l.spot y.call) (outstanding (seen x)) f (and_true (is_lease_call f) (is_on x.setting.layout l.spot f.call) mine.1).1 opens))

    by : (o : Option LeaseCall) → l.waiting ≡ o → o ≡ None
    by None is = refl
    by (Some w) is = absurd (newest w (lease_calls x.setting (seen x) z.who l.spot) refl (subst (λ o. IsWaiting o (lease_calls x.setting (seen x) z.who l.spot)) is stands_l.waiting))

  rests_at : (k : ℕ) (m : MemberState) (s : Session) (at : Spot) (l : LeaseState) → HeardBy h c k m s → open_on x.setting (seen x) at ≡ [] → find (is_lease_on at) m.leases ≡ Some l → l.waiting ≡ None
  rests_at k m s at l by calm found =
      let b = before k m s by in
      let f = find_inside (is_lease_on at) m.leases l found in
      rests b.old l b.there (subst (λ ls. Contains ls l) (sym b.leases) f.0) (subst (λ p. open_on x.setting (seen x) p ≡ []) (one_spot at l.spot f.1) calm)

  -- ---- holders

  has_lease : (k : ℕ) (m : MemberState) (s : Session) (at : Spot) (g : Grant) → HeardBy h c k m s → Contains (filter (λ z. same_place z.path z.offset at.path at.base) (holdings_of (seen x) s)) g → IsLeased m at
  has_lease k m s at g by held =
      let b = before k m s by in
      let on = kept_inside (λ (z : Grant). same_place z.path z.offset at.path at.base) (holdings_of (seen x) s) g held in
      let place = at_some h.members b.old b.there in
      let answers = members_answer Wake h x place.0 b.old (record { stands = r.stands; there = place.1 }) in
      let of_old : Contains (held_of h b.old) g = subst (λ gs. Contains gs g) answers.holdings (subst (λ t. Contains (holdings_of (seen x) t) g) (sym (b.who ∙ by.whose)) on.0) in
      let l = holdings_are_known.leased h x b.old g r b.there of_old in
      (l.0, subst (λ ls. find (is_lease_on at) ls ≡ Some l.0) b.leases (subst (λ p. find (is_lease_on p) b.old.leases ≡ Some l.0) (spot_is g at on.1) l.1))

  lies : (k : ℕ) (m : MemberState) (s : Session) (at : Spot) → HeardBy h c k m s → at.base % h.config.layout.area ≡ 0 → IsPlacedAt h m at
  lies k m s at by zero =
      let b = before k m s by in
      placed h m at r.sound.laid (subst (Contains (whos h)) b.who (contains_map (λ (y : MemberState). y.who) h.members b.old b.there)) zero

  -- ---- a call of the line's job

  idle_job : list_any (λ j. j.number == h.next_job && is_none j.waits) (h.jobs ++ new_job h.next_job (Some c) ∷ []) ≡ true
  idle_job =
      any_of (λ (j : JobState). j.number == h.next_job && is_none j.waits) (h.jobs ++ new_job h.next_job (Some c) ∷ []) (new_job h.next_job (Some c)) (ap (λ b. b && true) (number_itself h.next_job))
      (in_back h.jobs (new_job h.next_job (Some c) ∷ []) (new_job h.next_job (Some c)) (contains_first (new_job h.next_job (Some c)) []))

  -- Of the host as it has heard the line, and given up what it gives.
  record IsHeard (g : HostState) (k : ℕ) (m : MemberState) : Type 0 where
    there : slice_get g.members k ≡ Some m
    made : g.config ≡ h.config
    jobs : g.jobs ≡ h.jobs ++ new_job h.next_job (Some c) ∷ []

  module _ (g : HostState) (k : ℕ) (m : MemberState) (at : Spot) (l : LeaseState) (heard : IsHeard g k m) (lies_at : IsPlacedAt h m at) (found : find (is_lease_on at) m.leases ≡ Some l) (idle : l.waiting ≡ None) (quiet_line : is_plain_line (Ok c) ≡ true) where
    jobs_may : IsTrue (is_idle_job g h.next_job || is_leaving_alone g m h.next_job)
    jobs_may = ap (λ b. b || is_leaving_alone g m h.next_job) (ap (list_any (λ (j : JobState). j.number == h.next_job && is_none j.waits)) heard.jobs ∙ idle_job)

    frees : (leader : Leader) → MayWork g m.who at (ForJob h.next_job) FreeLeader (leader_offset at.base) (WriteRecord (leader_record g.config.layout leader))
    frees leader = may_write_leader g h.config heard.made k m heard.there at l found idle lies_at.room (ForJob h.next_job) jobs_may FreeLeader leader lies_at.leader refl refl

    clears : (b : Block) → MayWork g m.who at (ForJob h.next_job) ClearMode (block_at g m at) (WriteRecord (record_at g m at b))
    clears b = may_write_block g h.config heard.made k m heard.there at l found idle lies_at.room (ForJob h.next_job) jobs_may ClearMode b lies_at.block refl refl

    sets : (b : Block) → MayWork g m.who at (ForJob h.next_job) SetMode (block_at g m at) (WriteRecord (record_at g m at b))
    sets b = may_write_block g h.config heard.made k m heard.there at l found idle lies_at.room (ForJob h.next_job) jobs_may SetMode b lies_at.block refl refl

    reads : (name : List ℕ) → MayWork g m.who at (ForJob h.next_job) (ReadArea name) at.base (ReadSectors (area_sectors g.config.layout))
    reads name = may_read g h.config heard.made k m heard.there at l found idle lies_at.room (ForJob h.next_job) jobs_may (ReadArea name) at.base (area_sectors g.config.layout) lies_at.leader refl refl

    begins : BeginsArea g at
    begins = λ paired. subst (λ (z : Config). at.base - at.base % z.layout.area ≡ at.base) (sym heard.made) lies_at.leader

    -- The line's job may be refused, where a turn would pass its limit.
    refused : (x' : Step) (p : Reply) → MayCarryLease (Line text) g x' m at (ForJob h.next_job) (AnswerJob p)
    refused x' p j for = record { runs = runs; heed = tt; line = inr plain_line } where
      same_job : h.next_job ≡ j
      same_job = some_value h.next_job j for

      runs : IsTrue (list_any (λ (z : JobState). z.number == j) g.jobs)
      runs =
          subst (λ n. list_any (λ (z : JobState). z.number == n) g.jobs ≡ true) same_job
          (subst (λ js. list_any (λ (z : JobState). z.number == h.next_job) js ≡ true) (sym heard.jobs)
          (any_of (λ (z : JobState). z.number == h.next_job) (h.jobs ++ new_job h.next_job (Some c) ∷ []) (new_job h.next_job (Some c)) (number_itself h.next_job)
          (in_back h.jobs (new_job h.next_job (Some c) ∷ []) (new_job h.next_job (Some c)) (contains_first (new_job h.next_job (Some c)) []))))

      plain_line : is_plain_line (g.config.read text) ≡ true
      plain_line = ap (λ (z : Config). is_plain_line (z.read text)) heard.made ∙ ap (λ z. is_plain_line z) says ∙ quiet_line

    releases : (x' : Step) (p : LeasePlace) (q : LeaseKnown) (mode : Mode) (lver : ℕ) → MayCarryLease (Line text) g x' m at (ForJob h.next_job) (release_next p q mode lver)
    releases x' p q Exclusive lver = frees _
    releases x' p q Shared lver = by q.own where
      by : (o : Option Block) → MayCarryLease (Line text) g x' m at (ForJob h.next_job) (option_map_or (λ own. WriteBlock ClearMode (moded_block own false 0)) o Nothing)
      by None = tt
      by (Some own) = (clears (moded_block own false 0), begins)

    converts : (x' : Step) (q : LeaseKnown) (mode : Mode) (name : List ℕ) → MayCarryLease (Line text) g x' m at (ForJob h.next_job) (convert_next q mode name)
    converts x' q Exclusive name = reads name
    converts x' q Shared name = by q.own where
      by : (o : Option Block) → MayCarryLease (Line text) g x' m at (ForJob h.next_job) (option_map_or (λ own. WriteBlock SetMode (moded_block own true q.self.generation)) o Nothing)
      by None = tt
      by (Some own) = (sets (moded_block own true q.self.generation), begins)

    -- Within the limit of turns.
    released : (x' : Step) (p : LeasePlace) (q : LeaseKnown) (mode : Mode) (lver : ℕ) → MayCarryLease (Line text) g x' m at (ForJob h.next_job) (within_turn p q Releasing (release_next p q mode lver))
    released x' p q mode lver =
        within_cases (MayCarryLease (Line text) g x' m at (ForJob h.next_job)) p q Releasing (release_next p q mode lver) (λ fits. releases x' p q mode lver) (λ paired over writes. refused x' _)

    turned : (x' : Step) (p : LeasePlace) (q : LeaseKnown) (mode : Mode) (name : List ℕ) → MayCarryLease (Line text) g x' m at (ForJob h.next_job) (within_turn p q (Converts mode) (convert_next q mode name))
    turned x' p q mode name =
        within_cases (MayCarryLease (Line text) g x' m at (ForJob h.next_job)) p q (Converts mode) (convert_next q mode name) (λ fits. converts x' q mode name) (λ paired over writes. refused x' _)

  -- ---- by what it came to

  may : (d : Decision) → decision_of h c ≡ d → MayDecide h x text c d
  may (Replies p) is = tt
  may (Joins n a) is = tt
  may (Leaves s) is = tt
  may (Shares s lver) is = tt
  may (TakesOver s g) is = tt
  may (Requests s q) is = tt
  may (GetsValue s at) is = tt
  may (ReadsArea s q) is = λ k m by. first k m by (grounds (ReadsArea s q) is) where
    first : (k : ℕ) (m : MemberState) → HeardBy h c k m s → HasGrounds x.setting (seen x) c (ReadsArea s q)
        → IsTrue (fits_lease h.config.layout m (next_submitted h m.who.number q.path (Lease (ForJob h.next_job) (ReadArea q.name)) q.offset (ReadSectors (area_sectors h.config.layout))))
    first k m by g =
        let zero = aligned q (asked q g.acquires.asks) in
        let lies_at = lies k m s (spot_of q) by zero in
        fits (nat_lt 0 h.config.layout.area) (find (is_lease_on (record { path = q.path; base = q.offset - q.offset % h.config.layout.area })) m.leases) (some_room h.config.layout.area lies_at.room)
        (λ l found. rests_at k m s (spot_of q) l by g.acquires.ready.calm (ap (λ (n : ℕ). find (is_lease_on (record { path = q.path; base = n })) m.leases) (sym (whole q.offset h.config.layout.area zero)) ∙ found)) where
          fits : (b : Bool) (o : Option LeaseState) → b ≡ true → ((l : LeaseState) → o ≡ Some l → l.waiting ≡ None) → (b && option_map_or (λ z. is_none z.waiting && true) o true) ≡ true
          fits true None has idle = refl
          fits true (Some l) has idle = ap (λ z. is_none z && true) (idle l refl)
          fits false o has idle = absurd (true_is_false (sym has))
  may (GivesUp s g) is = λ k m by. gives k m by (grounds (GivesUp s g) is) where
    gives : (k : ℕ) (m : MemberState) → HeardBy h c k m s → HasGrounds x.setting (seen x) c (GivesUp s g)
        → IsLeased m (spot_of_grant g) × MayCarryLease (Line text) (given_up h c g) (ended text g x) m (spot_of_grant g) (ForJob h.next_job) (releasing_next (given_up h c g) m (spot_of_grant g) g)
    gives k m by e =
        let on = kept_inside (λ (z : Grant). same_place z.path z.offset (spot_of e.resource).path (spot_of e.resource).base) (holdings_of (seen x) s) g e.held in
        let spot : spot_of e.resource ≡ spot_of_grant g = sym (spot_is g (spot_of e.resource) on.1) in
        let l : IsLeased m (spot_of_grant g) = subst (IsLeased m) spot (has_lease k m s (spot_of e.resource) g by e.held) in
        let idle = rests_at k m s (spot_of_grant g) l.0 by (subst (λ p. open_on x.setting (seen x) p ≡ []) spot e.ready.calm) l.1 in
        let lies_at = lies k m s (spot_of_grant g) by (subst (λ (p : Spot). p.base % h.config.layout.area ≡ 0) spot (aligned e.resource (named e.resource e.releases))) in
        (l, released (given_up h c g) k m (spot_of_grant g) l.0 (record { there = by.there; made = refl; jobs = refl }) lies_at l.1 idle (quiet_line e.resource e.releases) (ended text g x) (place_in (given_up h c g) m) (known_at (given_up h c g) m (spot_of_grant g)) g.mode g.lver) where
          named : (q : ResourceArg) → Releases c q g → resource_named c ≡ Some q
          named q (inl z) = ap resource_named z.1
          named q (inr z) = ap resource_named z.0

          quiet_line : (q : ResourceArg) → Releases c q g → is_plain_line (Ok c) ≡ true
          quiet_line q (inl z) = ap (λ d. is_plain_line (Ok d)) z.1
          quiet_line q (inr z) = ap (λ d. is_plain_line (Ok d)) z.0
  may (ConvertsTo s q mode) is = λ k m by. turns k m by (grounds (ConvertsTo s q mode) is) where
    turns : (k : ℕ) (m : MemberState) → HeardBy h c k m s → HasGrounds x.setting (seen x) c (ConvertsTo s q mode)
        → IsLeased m (spot_of q) × MayCarryLease (Line text) (heard_line c h) (with_input (Line text) x) m (spot_of q) (ForJob h.next_job) (converting_next (heard_line c h) m (spot_of q) mode q.name)
    turns k m by e =
        let held = find_inside (λ (z : Grant). z.process == e.process && true) (holdings_on (seen x) s (spot_of q)) e.holding e.held in
        let l : IsLeased m (spot_of q) = has_lease k m s (spot_of q) e.holding by held.0 in
        let idle = rests_at k m s (spot_of q) l.0 by e.ready.calm l.1 in
        let lies_at = lies k m s (spot_of q) by (aligned q (ap resource_named e.command)) in
        (l, turned (heard_line c h) k m (spot_of q) l.0 (record { there = by.there; made = refl; jobs = refl }) lies_at l.1 idle (ap (λ d. is_plain_line (Ok d)) e.command) (with_input (Line text) x) (place_in (heard_line c h) m) (known_at (heard_line c h) m (spot_of q)) mode q.name)
  may (SetsValue s at v) is = λ k m by. puts k m by (grounds (SetsValue s at v) is) where
    puts : (k : ℕ) (m : MemberState) → HeardBy h c k m s → HasGrounds x.setting (seen x) c (SetsValue s at v)
        → IsTrue (fits_value h.config.layout m (next_submitted h m.who.number at.path (ValueWrite h.next_job) (value_offset h.config.layout at.base) (WriteRecord (ValueIs v))))
    puts k m by e =
        let held = find_inside (λ (z : Grant). z.process == e.process && not (is_shared z.mode)) (holdings_on (seen x) s at) e.holding e.held in
        let l : IsLeased m at = has_lease k m s at e.holding by held.0 in
        let f = find_inside (is_lease_on at) m.leases l.0 l.1 in
        let call : Call = record { number = h.first_call + length h.made.calls; session = m.who.number; purpose = ValueWrite h.next_job; path = at.path; offset = value_offset h.config.layout at.base; op = WriteRecord (ValueIs v) } in
        any_of (λ (z : LeaseState). is_on h.config.layout z.spot call) m.leases l.0 (subst (λ p. is_on h.config.layout p call ≡ true) (one_spot at l.0.spot f.1) on) f.0 where
          on : (bytes_eq at.path at.path && (nat_le at.base (value_offset h.config.layout at.base) && nat_lt (value_offset h.config.layout at.base) (at.base + h.config.layout.area))) ≡ true
          on = ap (λ b. b && (nat_le at.base (value_offset h.config.layout at.base) && nat_lt (value_offset h.config.layout at.base) (at.base + h.config.layout.area))) (same_bytes at.path)
              ∙ within at.base h.config.layout.area h.config.layout.sector (some_sector (sizes_in h.config.layout) r.sound.laid.geometry) (one_row (sizes_in h.config.layout) r.sound.laid.geometry)

pub lines_may : LinesMay
lines_may h x text c r says last = record { last = last; decides = may h x text c r says last (decision_of h c) refl }
