-- A conversion that is done may be: its job runs and waits no more, and the lease makes the call that is owed next.
use Rattle.sl_area.specs.AreaLayout.{block_place, leader_offset}
use Rattle.sl_area.specs.AreaRecords.{leader_record}
use Rattle.sl_due.specs.Steps.{Step, with_input}
use Rattle.sl_host_law.proofs.Answers.AnswersSetFree.{answers_set_free}
use Rattle.sl_host_law.proofs.Answers.LeasesSetFree.{leases_set_free}
use Rattle.sl_host_law.proofs.SharedFacts.PlainLists.{at_some, flat_has}
use Rattle.sl_host_law.proofs.Steps.AreasLie.{begins_at, placed}
use Rattle.sl_host_law.proofs.Steps.InputsFollow.{joined_stays}
use Rattle.sl_host_law.specs.Answers.AnswersFollow.{IsAnswerTo}
use Rattle.sl_host_law.specs.Answers.LeaseAnswers.{area_of}
use Rattle.sl_host_law.specs.Answers.LeaseDecisions.{MayWork, block_at, converted, converting, converting_for, record_at}
use Rattle.sl_host_law.specs.Answers.LeasesGoOn.{IfConverted, IsPlacedAt}
use Rattle.sl_host_law.specs.Questions.Jobs.{command_in, goes_on_in}
use Rattle.sl_host_law.specs.Questions.Members.{otherwise_at}
use Rattle.sl_host_law.specs.Replies.Answers.{FitsCall, IsOpen}
use Rattle.sl_host_law.specs.Replies.RepliesAreTaken.{MayReply}
use Rattle.sl_host_law.specs.Steps.InputsFollow.{IsCallOf, LeaseMay}
use Rattle.sl_host_state.specs.HeardInputs.{heard_answer, hearing, member_hearing}
use Rattle.sl_host_state.specs.KeptState.{Config, HostState, LeaseState, MemberState}
use Rattle.sl_host_state.specs.MadeEffects.{is_lease_on, member_answered, member_replying}
use Rattle.sl_host_state.specs.declared.kept_parts.JobState.{JobState}
use Rattle.sl_host_state.specs.declared.kept_parts.OpenCall.{OpenCall}
use Rattle.sl_trace.specs.Jobs.{process_named}
use Rattle.sl_trace.specs.declared.lease.Aim.{Aim}
use Rattle.sl_trace.specs.declared.lease.LeaseNext.TheVariants.{AnswerJob, BecomeExclusive, BecomeShared, GrantJob, Nothing, ReadFor, WriteBlock, WriteLeader}
use Rattle.sl_trace.specs.declared.lease.LeaseNext.{LeaseNext}
use Rattle.sl_words.proofs.Lists.{contains_first, contains_map, find_inside, got_inside}
use Rattle.sl_sector.specs.declared.sector.Block.{Block}
use Rattle.sl_sector.specs.declared.sector.Leader.{Leader}
use Rattle.sl_step_law.proofs.CallsOfMembers.{calls_are_theirs}
use Rattle.sl_step_law.proofs.LeasesMake.{may_write_block, may_write_leader}
use Rattle.sl_step_law.specs.ReadyHosts.{IsReady}
use Rattle.sl_trace.specs.Traces.{work_job}
use Rattle.sl_trace.specs.declared.command.Command.{Command}
use Rattle.sl_trace.specs.declared.effects.Grant.{Grant}
use Rattle.sl_trace.specs.declared.effects.LeaseStep.TheVariants.{ClearMode, FreeLeader}
use Rattle.sl_trace.specs.declared.effects.LeaseStep.{LeaseStep}
use Rattle.sl_trace.specs.declared.effects.Mode.TheVariants.{Exclusive, Shared}
use Rattle.sl_trace.specs.declared.effects.Mode.{Mode}
use Rattle.sl_trace.specs.declared.effects.Op.TheVariants.{WriteRecord}
use Rattle.sl_trace.specs.declared.effects.Purpose.TheVariants.{Lease}
use Rattle.sl_trace.specs.declared.effects.Spot.{Spot}
use Rattle.sl_trace.specs.declared.effects.Work.TheVariants.{ForJob, Settling}
use Rattle.sl_trace.specs.declared.effects.Work.{Work}
use Rattle.sl_trace.specs.declared.input.Answer.{Answer}
use Rattle.sl_trace.specs.declared.input.Input.TheVariants.{Answer as Told}
use Rattle.sl_trace.specs.declared.reply.Reply.TheVariants.{Granted}
use Rattle.sl_words.proofs.CaseLaws.{none_some, some_value}
use Rattle.sl_words.specs.Words.{some_is}
use Rattle.std.proofs.Common.{ap, inl, refl, subst, sym}
use Rattle.std.specs.List.{list_any}
use Rattle.std.specs.Prelude.{Contains, IsTrue, None, Option, Some, cond, false, find, not, slice_get, true, [], ℕ, ◌%◌, ◌&&◌, ◌-◌, ◌<◌, ◌==◌, ◌≡◌, ◌∷◌}

-- ---- a conversion leaves the member and what the host is made of

-- The member is there, and the host is made of this.
abbrev StaysIn : MemberState → Config → HostState → Type 0
StaysIn q made g = Contains g.members q × (g.config ≡ made)

converting_stays : (q : MemberState) (made : Config) (j : ℕ) (mode : Mode) (lver : ℕ) (e : Grant) (g : HostState) → q.joined ≡ true → StaysIn q made g → StaysIn q made (converting j mode lver e g)
converting_stays q made j mode lver e g joined s =
    (flat_has (member_replying g j (Granted lver)) g.members q q s.0 (subst (λ b. Contains (cond (not b && not q.refused && some_is (λ n. n == j) q.who.job) (member_answered g (Granted lver) q) (q ∷ [])) q) (sym joined) here), s.1) where
      here : Contains (q ∷ []) q
      here = contains_first q []

converted_stays : (q : MemberState) (made : Config) (at : Spot) (work : Work) (mode : Mode) (lver : ℕ) (g : HostState) → q.joined ≡ true → StaysIn q made g → StaysIn q made (converted q at work mode lver g)
converted_stays q made at Settling mode lver g joined s = s
converted_stays q made at (ForJob j) mode lver g joined s = by (command_in g j) where
  one : (o : Option Grant) → StaysIn q made (elim o as (λ z. HostState) [ None ↦ g | Some e ↦ converting j mode lver e g ])
  one None = s
  one (Some e) = converting_stays q made j mode lver e g joined s

  named : (o : Option ℕ) → StaysIn q made (elim o as (λ z. HostState) [ None ↦ g | Some p ↦ elim (otherwise_at g q at p mode) as (λ z. HostState) [ None ↦ g | Some e ↦ converting j mode lver e g ] ])
  named None = s
  named (Some p) = one (otherwise_at g q at p mode)

  by : (o : Option Command) → StaysIn q made (elim o as (λ z. HostState) [ None ↦ g | Some d ↦ converting_for q at j d mode lver g ])
  by None = s
  by (Some d) = named (process_named d)

-- ---- the call that is owed

module _ (q : MemberState) (made : Config) (at : Spot) (l : LeaseState) (found : find (is_lease_on at) q.leases ≡ Some l) (idle : l.waiting ≡ None) (room : 0 < made.layout.area) where
  frees : (g : HostState) (leader : Leader) → StaysIn q made g → at.base - at.base % made.layout.area ≡ at.base
      → MayWork g q.who at Settling FreeLeader (leader_offset at.base) (WriteRecord (leader_record g.config.layout leader))
  frees g leader s near =
      let place = at_some g.members q s.0 in
      may_write_leader g made s.1 place.0 q place.1 at l found idle room Settling refl FreeLeader leader near refl refl

  clears : (g : HostState) (b : Block) → StaysIn q made g → ((turn : ℕ) → block_place made.layout at.base q.who.id turn - block_place made.layout at.base q.who.id turn % made.layout.area ≡ at.base)
      → MayWork g q.who at Settling ClearMode (block_at g q at) (WriteRecord (record_at g q at b))
  clears g b s near =
      let place = at_some g.members q s.0 in
      may_write_block g made s.1 place.0 q place.1 at l found idle room Settling refl ClearMode b near refl refl

-- ---- an answer

module _ (h : HostState) (x : Step) (number : ℕ) (c : OpenCall) (a : Answer) (m : MemberState) (work : Work) (step : LeaseStep) (r : IsReady h x) (opens : IsOpen h number c) (fit : FitsCall h.config.layout a c)
    (there : Contains h.members m) (its : (c.session == m.who.number) ≡ true) (is : c.purpose ≡ Lease work step) where
  abbrev q : MemberState
  q = member_hearing h c a m

  here : (k : ℕ) × (slice_get h.members k ≡ Some m)
  here = at_some h.members m there

  to : IsAnswerTo number c a h x here.0 m
  to = record { stands = r.stands; is_open = opens; fits = fit; at = r.early.at; there = here.1; its = its }

  joined : m.joined ≡ true
  joined = subst (λ p. IsCallOf m p) is ((calls_are_theirs h x r).own m c there (find_inside (λ (d : OpenCall). d.number == number) h.unanswered c opens).0 its)

  unrefused : m.refused ≡ false
  unrefused = joined_stays h x here.0 m r.stands here.1 joined

  heard_as : hearing c a h ≡ heard_answer number a h
  heard_as = sym (ap (λ o. elim o as (λ z. HostState) [ None ↦ h | Some d ↦ hearing d a h ]) opens)

  at : IsPlacedAt h m (area_of h c)
  at = placed h m (area_of h c) r.sound.laid (contains_map (λ (y : MemberState). y.who) h.members m there) (begins_at c.offset h.config.layout.area)

  lease : (l : LeaseState) × (find (is_lease_on (area_of h c)) q.leases ≡ Some l) × (l.waiting ≡ None)
  lease = leases_set_free.lease number c a h x here.0 m work step to is at.room

  stays : StaysIn q h.config (hearing c a h)
  stays =
      let z = answers_set_free.member number c a h x here.0 m to unrefused in
      (subst (λ (g : HostState). Contains g.members q) (sym heard_as) (got_inside (heard_answer number a h).members z.0 q z.1), refl)

  answers : (lver : ℕ) → goes_on_in (hearing c a h) q work ≡ true → (j : ℕ) → work_job work ≡ Some j → MayReply (Told number a) (hearing c a h) (with_input (Told number a) x) j (Granted lver)
  answers lver goes j for = record { runs = runs work goes for; heed = inl refl; line = tt } where
    runs : (w : Work) → goes_on_in (hearing c a h) q w ≡ true → work_job w ≡ Some j → IsTrue (list_any (λ z. z.number == j) (hearing c a h).jobs)
    runs (ForJob n) on same = subst (λ k. list_any (λ (z : JobState). z.number == k) (hearing c a h).jobs ≡ true) (some_value n j same) on
    runs Settling on same = absurd (none_some j same)

  heard : (next : LeaseNext) → goes_on_in (hearing c a h) q work ≡ true → IfConverted (Told number a) (hearing c a h) (with_input (Told number a) x) q c work next
  heard (BecomeShared lver l) goes = (
    answers lver goes,
    r.early.grants,
    frees q h.config (area_of h c) lease.0 lease.1 lease.2 at.room (converted q (area_of h c) work Shared lver (hearing c a h)) l (converted_stays q h.config (area_of h c) work Shared lver (hearing c a h) joined stays) at.leader,
  )
  heard (BecomeExclusive lver b) goes = (
    answers lver goes,
    r.early.grants,
    clears q h.config (area_of h c) lease.0 lease.1 lease.2 at.room (converted q (area_of h c) work Exclusive lver (hearing c a h)) b (converted_stays q h.config (area_of h c) work Exclusive lver (hearing c a h) joined stays) at.block,
    λ paired. at.leader,
  )
  heard Nothing goes = tt
  heard (ReadFor s) goes = tt
  heard (WriteBlock s b) goes = tt
  heard (WriteLeader s l) goes = tt
  heard (AnswerJob p) goes = tt
  heard (GrantJob mode lver) goes = tt

  pub conversions_may : (aim : Aim) → LeaseMay number c a h x m work step aim
  conversions_may aim =
      record {
        converts = λ goes aims.
            subst (λ (g : HostState). (next : LeaseNext) → goes_on_in g q work ≡ true → IfConverted (Told number a) g (with_input (Told number a) x) q c work next) heard_as heard _ goes;
      }
