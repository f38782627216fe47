-- Of a host that has come to its input: each open call is one of the trace, and its session's; who isn't joined has calls of a joining alone.
use Rattle.sl_due.specs.Steps.{Step, seen}
use Rattle.sl_due_facts.specs.Facts.JobFacts.{FitsCommand}
use Rattle.sl_due_leases.proofs.Holdings.LeaseCallers.{in_turn_fits}
use Rattle.sl_host_law.proofs.Answers.AnswersSetFree.{of_trace}
use Rattle.sl_host_law.proofs.SharedFacts.MembersAreSessions.{member_inside, members_are_sessions}
use Rattle.sl_host_law.proofs.SharedFacts.PlainLists.{at_some, found_some}
use Rattle.sl_host_law.proofs.Replies.PlainNumbers.{same_number}
use Rattle.sl_host_law.specs.Steps.InputsFollow.{CallsAreTheirs, IsCallOf}
use Rattle.sl_host_state.specs.KeptState.{HostState, LeaseState, MemberState}
use Rattle.sl_host_state.specs.HostStands.{MemberStands, kept_call}
use Rattle.sl_host_state.specs.declared.kept_parts.OpenCall.{OpenCall}
use Rattle.sl_run.specs.Lawful.{Orderly}
use Rattle.sl_trace.specs.Jobs.{command_numbered}
use Rattle.sl_trace.specs.Leases.{is_lease_call, lease_step, spot_of_call, spots_in, with_spot}
use Rattle.sl_words.proofs.Lists.{contains_first, contains_more, kept as kept_in, kept_inside}
use Rattle.sl_words.proofs.Options.{some_of}
use Rattle.sl_area.specs.AreaSizes.{Layout}
use Rattle.sl_trace.specs.Sessions.{calls_of, free_write, is_call_of, is_free_purpose, is_joined, is_present, joined_after, leaving_job, refused_after, removed_after, sessions, has_open_write, session_numbered}
use Rattle.sl_trace.specs.declared.session.Begun.{Begun}
use Rattle.sl_trace.specs.declared.session.Session.{Session}
use Rattle.sl_step_law.specs.ReadyHosts.{IsReady}
use Rattle.sl_trace.specs.Traces.{Job, Submitted, Trace, job_of, submitted, is_write}
use Rattle.sl_trace.specs.declared.effects.JoinStep.{JoinStep}
use Rattle.sl_trace.specs.declared.effects.Purpose.TheVariants.{Joining, Lease, Leaving, Renewal, RequestRead, RequestWrite, SeeRequest, Survey, ValueRead, ValueWrite}
use Rattle.sl_trace.specs.declared.effects.Purpose.{Purpose}
use Rattle.sl_trace.specs.declared.effects.Spot.{Spot}
use Rattle.sl_run_law.proofs.Sessions.WritesAreCovered.{joinings_are_in_turn}
use Rattle.sl_run_law.specs.Sessions.SessionLaws.{fits, fits_as}
use Rattle.sl_words.proofs.CaseLaws.{none_some, not_both, true_is_false}
use Rattle.sl_words.specs.Words.{is_empty}
use Rattle.std.proofs.Common.{ap, refl, subst, sym, ◌∙◌}
use Rattle.std.specs.Prelude.{Bool, Contains, List, None, Option, Some, false, is_none, is_some, map, option_map, slice_get, true, [], ℕ, ◌+◌, ◌==◌, ◌&&◌, ◌∷◌, ◌≡◌, ◌||◌}

-- ---- a call

-- An open call of a member, as the trace has it.
pub record IsMembers (h : HostState) (x : Step) (m : MemberState) (c : OpenCall) (d : Submitted) : Type 0 where
  pub inside : Contains (submitted (seen x)) d
  pub open_one : d.answer ≡ None
  pub kept : kept_call d ≡ c
  pub mine : Contains (calls_of (seen x) m.who) d
  pub stands : MemberStands x.setting (seen x) m
  pub session : session_numbered x.setting (seen x) m.who.number ≡ Some m.who
  pub present : is_present (seen x) m.who ≡ true
  pub listed : Contains (sessions x.setting (seen x)) m.who

none_is : {A : Type 0} (o : Option A) → is_none o ≡ true → o ≡ None
none_is None h = refl
none_is (Some a) h = absurd (true_is_false (sym h))

pub members_call : (h : HostState) (x : Step) (m : MemberState) (c : OpenCall) → IsReady h x → Contains h.members m → Contains h.unanswered c → (c.session == m.who.number) ≡ true
    → (d : Submitted) × IsMembers h x m c d
members_call h x m c r there open_c its =
    let place = at_some h.members m there in
    let d = of_trace h x.setting (seen x) c r.stands.keeps open_c in
    let inside = kept_inside (λ (z : Submitted). is_none z.answer) (submitted (seen x)) d.0 d.1 in
    let s = members_are_sessions h x.setting (seen x) place.0 m r.stands.keeps place.1 in (
      d.0,
      record {
        inside = inside.0;
        open_one = none_is d.0.answer inside.1;
        kept = d.2;
        mine = kept_in (is_call_of m.who) (submitted (seen x)) d.0 (subst (λ (z : OpenCall). (z.session == m.who.number) ≡ true) (sym d.2) its) inside.0;
        stands = r.stands.keeps.members place.0 m place.1;
        session = s.0;
        present = s.1;
        listed = (member_inside h x.setting (seen x) place.0 m r.stands.keeps place.1).0;
      },
    )

-- ---- joined

-- Who is present and was joined is joined still.
pub joined_still : (t : Trace) (s : Session) (k : ℕ) → joined_after t s ≡ Some k → is_present t s ≡ true → is_joined t s ≡ true
joined_still t s k joined present = ap (λ o. is_some o && is_none (removed_after t s)) joined ∙ by (joined_after t s) joined present where
  stays : (o : Option ℕ) (waits : Bool) → (is_none o || (false && waits)) ≡ true → is_none o ≡ true
  stays None waits h = refl
  stays (Some k) waits h = absurd (true_is_false (sym h))

  by : (o : Option ℕ) → o ≡ Some k → (is_none (elim o as (λ z. Option ℕ) [ Some i ↦ removed_after t s | None ↦ refused_after t s ]) || is_none o && has_open_write t s) ≡ true → is_none (removed_after t s) ≡ true
  by (Some i) is h = stays (removed_after t s) (has_open_write t s) h
  by None is h = absurd (true_is_false (ap (λ o. is_none o) is))

module _ (h : HostState) (x : Step) (r : IsReady h x) where
  abbrev order : Orderly x.setting (seen x)
  order = r.kept.known.0.orderly

  -- A call that is none of a joining is of one that has joined.
  joined_by : (m : MemberState) (d : Submitted) → MemberStands x.setting (seen x) m → session_numbered x.setting (seen x) m.who.number ≡ Some m.who → is_present (seen x) m.who ≡ true
      → Contains (calls_of (seen x) m.who) d → fits d ≡ false → m.joined ≡ true
  joined_by m d stands session present mine unfit = sym stands.joined ∙ by (joined_after (seen x) m.who) refl where
    by : (o : Option ℕ) → joined_after (seen x) m.who ≡ o → is_joined (seen x) m.who ≡ true
    by None none = absurd (not_both (fits d) (in_turn_fits (calls_of (seen x) m.who) d (joinings_are_in_turn x.setting (seen x) m.who order session none) mine) unfit)
    by (Some k) joined = joined_still (seen x) m.who k joined present

  -- By what it is for.
  module _ (m : MemberState) (c : OpenCall) (d : Submitted) (is : IsMembers h x m c d) where
    joined : (p : Purpose) → d.call.purpose ≡ p → fits_as p (is_write d.call.op) ≡ false → m.joined ≡ true
    joined p for unfit = joined_by m d is.stands is.session is.present is.mine (ap (λ q. fits_as q (is_write d.call.op)) for ∙ unfit)

    leaves : (j : ℕ) → d.call.purpose ≡ Leaving j → is_some m.leaving ≡ true
    leaves j for =
        let freed = some_of (free_write (calls_of (seen x) m.who)) (found_some (λ (z : Submitted). is_free_purpose z.call.purpose) (calls_of (seen x) m.who) d is.mine (ap (λ p. is_free_purpose p) for)) in
        let begun = some_of (leaving_job x.setting (seen x) m.who) (r.kept.known.0.facts.delta.frees m.who freed.0 is.listed freed.1).0 in
        ap (λ o. is_some o) (sym is.stands.leaving) ∙ told (leaving_job x.setting (seen x) m.who) begun.0 begun.1 where
          told : (o : Option Job) (j : Job) → o ≡ Some j → is_some (option_map (λ (z : Job). (let b : Begun = record { at = z.at; reading = z.reading; kills_from = z.at + 1 } in b)) o) ≡ true
          told (Some z) j e = refl
          told None j e = absurd (none_some j e)

    joins : (j : ℕ) (step : JoinStep) → d.call.purpose ≡ Joining j step → m.who.job ≡ Some j
    joins j step for =
        let facts = r.kept.known.0.facts.jobs in
        let of_job = ap (λ p. job_of p) for in
        let c = some_of (command_numbered x.setting (seen x) j) (facts.called d j is.inside of_job) in
        let its : session_numbered x.setting (seen x) d.call.session ≡ Some m.who =
        ap (λ n. session_numbered x.setting (seen x) n) (same_number d.call.session m.who.number (kept_inside (is_call_of m.who) (submitted (seen x)) d is.mine).1) ∙ is.session
        in
        subst (λ p. FitsCommand x.setting m.who d c.0 p) for (facts.fits d j m.who c.0 is.inside of_job its c.1)

    own_by : (p : Purpose) → d.call.purpose ≡ p → IsCallOf m p
    own_by (Joining j step) for = joins j step for
    own_by (Leaving j) for = (joined (Leaving j) for refl, leaves j for)
    own_by Renewal for = joined Renewal for refl
    own_by Survey for = joined Survey for refl
    own_by (Lease work step) for = joined (Lease work step) for refl
    own_by (RequestRead j) for = joined (RequestRead j) for refl
    own_by (RequestWrite j owner) for = joined (RequestWrite j owner) for refl
    own_by SeeRequest for = joined SeeRequest for refl
    own_by (ValueWrite j) for = joined (ValueWrite j) for refl
    own_by (ValueRead j) for = joined (ValueRead j) for refl

  own : (m : MemberState) (c : OpenCall) → Contains h.members m → Contains h.unanswered c → (c.session == m.who.number) ≡ true → IsCallOf m c.purpose
  own m c there open_c its =
      let d = members_call h x m c r there open_c its in
      subst (λ (z : OpenCall). IsCallOf m z.purpose) d.1.kept (own_by m c d.0 d.1 d.0.call.purpose refl)

  -- ---- leases

  -- Calls of which none works on a lease are of no lease.
  no_spot : (g : Layout) (ms : List Submitted) → ((d : Submitted) → Contains ms d → is_lease_call d ≡ false) → spots_in g ms ≡ []
  no_spot g [] none = refl
  no_spot g (d ∷ ms) none =
      ap (λ b. elim b as (λ z. List Spot) [ false ↦ spots_in g ms | true ↦ with_spot (spot_of_call g d) (spots_in g ms) ]) (none d (contains_first d ms))
      ∙ no_spot g ms (λ e there. none e (contains_more d ms e there))

  bare : (m : MemberState) → Contains h.members m → m.joined ≡ false → is_empty m.leases ≡ true
  bare m there unjoined = empty m.leases (sym stands.spots ∙ no_spot x.setting.layout (calls_of (seen x) m.who) none) where
    place : (k : ℕ) × (slice_get h.members k ≡ Some m)
    place = at_some h.members m there

    stands : MemberStands x.setting (seen x) m
    stands = r.stands.keeps.members place.0 m place.1

    session : (session_numbered x.setting (seen x) m.who.number ≡ Some m.who) × (is_present (seen x) m.who ≡ true)
    session = members_are_sessions h x.setting (seen x) place.0 m r.stands.keeps place.1

    leased : (p : Purpose) (w b : Bool) → is_some (lease_step p) ≡ b → fits_as p w ≡ true → b ≡ false
    leased (Joining j step) w b is fit = sym is
    leased Renewal w b is fit = sym is
    leased Survey w b is fit = sym is
    leased (Leaving j) w b is fit = sym is
    leased (Lease work step) w b is fit = absurd (true_is_false (sym fit))
    leased (RequestRead j) w b is fit = sym is
    leased (RequestWrite j owner) w b is fit = sym is
    leased SeeRequest w b is fit = sym is
    leased (ValueWrite j) w b is fit = sym is
    leased (ValueRead j) w b is fit = sym is

    none : (d : Submitted) → Contains (calls_of (seen x) m.who) d → is_lease_call d ≡ false
    none d mine = by (fits d) refl where
      by : (b : Bool) → fits d ≡ b → is_lease_call d ≡ false
      by true fit = leased d.call.purpose (is_write d.call.op) (is_lease_call d) refl fit
      by false unfit = absurd (not_both m.joined (joined_by m d stands session.0 session.1 mine unfit) unjoined)

    empty : (ls : List LeaseState) → map (λ l. l.spot) ls ≡ [] → is_empty ls ≡ true
    empty [] is = refl
    empty (l ∷ ls) is = absurd cc

  pub calls_are_theirs : CallsAreTheirs h
  calls_are_theirs = record { own = own; bare = bare }
