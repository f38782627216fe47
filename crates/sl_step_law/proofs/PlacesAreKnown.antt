-- Where sessions and holdings stand: as the lines named them, or the setting.
use Rattle.sl_area.specs.AreaSizes.{Layout}
use Rattle.sl_area.specs.AreaLayout.{is_base}
use Rattle.sl_due.specs.Steps.{Step, seen}
use Rattle.sl_due_law.specs.LawfulTraces.CarriedFacts.{Kept}
use Rattle.sl_due_facts.proofs.Jobs.JobsAreNumbered.{command_is_read}
use Rattle.sl_due_facts.proofs.Jobs.SessionsHaveJobs.{given_one, joined_by}
use Rattle.sl_due_facts.proofs.Sessions.JoinedNumbers.{spelled_of}
use Rattle.sl_host_law.proofs.SharedFacts.MembersAreSessions.{member_inside}
use Rattle.sl_host_law.proofs.SharedFacts.PlainLists.{at_some, each_of}
use Rattle.sl_host_law.proofs.Steps.LeasesAreKnown.{kept_tops}
use Rattle.sl_host_state.specs.KeptState.{Config, HostState, MemberState}
use Rattle.sl_host_state.specs.HostStands.{Stands}
use Rattle.sl_run.specs.Lawful.{IsGiven, IsSetting}
use Rattle.sl_lease.specs.Bounds.{IsInstance}
use Rattle.sl_trace.specs.Leases.{is_lease_call, is_on, leader_of_record}
use Rattle.sl_words.proofs.Lists.{kept_inside}
use Rattle.sl_words.proofs.Options.{then_value}
use Rattle.sl_sector.specs.Records.{Fits, IsLeader, IsRecord}
use Rattle.sl_sector.specs.declared.sector.Leader.{Leader}
use Rattle.sl_sector.specs.declared.sector.Rec.{Rec}
use Rattle.sl_sector.specs.declared.sector.Rec.TheVariants.{BlockIs, DeltaIs, LeaderIs, PairIs, PairLeaderIs, RequestIs, ValueIs}
use Rattle.sl_trace.specs.Sessions.{calls_of, is_call_of, sessions}
use Rattle.sl_trace.specs.declared.session.Session.{Session}
use Rattle.sl_step_law.specs.KnownPlaces.{PlacesAreKnown}
use Rattle.sl_trace.specs.CommandForms.{IsLockspaceArg}
use Rattle.sl_trace.specs.Traces.{Setting, Submitted, Trace, holdings, is_shared, record_of, spot_of_grant, submitted}
use Rattle.sl_trace.specs.declared.command.Command.TheVariants.{AddLockspace}
use Rattle.sl_trace.specs.declared.effects.Grant.{Grant}
use Rattle.sl_trace.specs.declared.input.Input.{Input}
use Rattle.sl_words.proofs.CaseLaws.{none_some, some_value}
use Rattle.sl_words.proofs.WordLaws.{and_true}
use Rattle.std.proofs.Common.{ap, arith, refl, subst, sym}
use Rattle.std.proofs.lemmas.Bool.{leb-true}
use Rattle.std.specs.Prelude.{Contains, IsTrue, None, Option, Some, false, nat_le, ℕ, ◌&&◌, ◌≡◌, ◌≤◌}

-- ---- sessions

abbrev pub IsAt : Layout → Session → Type 0
IsAt g s = (1 ≤ s.id) × (s.id ≤ g.hosts) × IsTrue (is_base g s.offset)

pub session_at : (st : Setting) (es : Trace) (s : Session) → IsSetting st → Contains (sessions st es) s → IsAt st.layout s
session_at st es s setting there = by s.job refl where
  by : (o : Option ℕ) → s.job ≡ o → IsAt st.layout s
  by (Some j) its =
      let b = joined_by st es s j there its in
      let text = command_is_read st es j (AddLockspace b.arg) b.command in
      let arg : IsLockspaceArg st.layout b.arg = setting.reads text.0 (AddLockspace b.arg) text.1 in
      let id = and_true (nat_le 1 b.arg.id) (nat_le b.arg.id st.layout.hosts) arg.host in
      subst (IsAt st.layout) (sym b.session) (leb-true 1 b.arg.id id.0, leb-true b.arg.id st.layout.hosts id.1, arg.base)
  by None its =
      let g = given_one st es s there its in
      let is : IsGiven st g.0 = each_of (IsGiven st) st.given g.0 setting.each g.2 in
      subst (IsAt st.layout) g.3 (is.id.0, is.id.1, is.base)

-- ---- instances

-- A leader that is written is one of a record.
leader_in_record : (r : Rec) (l : Leader) → leader_of_record r ≡ Some l → IsRecord r → IsLeader l
leader_in_record (LeaderIs k) l is good = subst IsLeader (some_value k l is) good
leader_in_record (PairLeaderIs k) l is good = subst IsLeader (some_value k l is) good
leader_in_record (DeltaIs d) l is good = absurd (none_some l is)
leader_in_record (BlockIs b) l is good = absurd (none_some l is)
leader_in_record (PairIs p) l is good = absurd (none_some l is)
leader_in_record (RequestIs q) l is good = absurd (none_some l is)
leader_in_record (ValueIs v) l is good = absurd (none_some l is)

module _ (i : Input) (h : HostState) (x : Step) (s : Stands i h x) (k : Kept x) where
  layouts : x.setting.layout ≡ h.config.layout
  layouts = ap (λ (z : Config). z.layout) s.keeps.config

  of_session : (m : MemberState) → Contains h.members m → IsAt h.config.layout m.who
  of_session m there =
      let place = at_some h.members m there in
      subst (λ g. IsAt g m.who) layouts (session_at x.setting (seen x) m.who k.known.0.setting (member_inside h x.setting (seen x) place.0 m s.keeps place.1).0)

  module _ (g : Grant) (there : Contains h.holdings g) where
    of_trace : Contains (holdings (seen x)) g
    of_trace = subst (λ gs. Contains gs g) (sym s.keeps.holdings) there

    of_holding : IsTrue (is_base h.config.layout g.offset)
    of_holding = subst (λ (z : Layout). IsTrue (is_base z g.offset)) layouts (k.known.0.facts.holdings.owned g of_trace).4

    of_instance : is_shared g.mode ≡ false → IsInstance g.lver
    of_instance exclusive =
        let owned = k.known.0.facts.holdings.owned g of_trace in
        let stands = k.known.0.facts.holdings.stands g owned.0 of_trace owned.1 exclusive in
        let taken = stands.taken in
        let on = kept_inside (λ (z : Submitted). is_lease_call z && is_on x.setting.layout (spot_of_grant g) z.call) (calls_of (seen x) owned.0) taken.call taken.of_lease in
        let inside = kept_inside (is_call_of owned.0) (submitted (seen x)) taken.call on.0 in
        let wrote = then_value leader_of_record (record_of taken.call.call.op) taken.leader taken.written.0 in
        let leader = leader_in_record wrote.0 taken.leader wrote.2 (spelled_of x.setting (seen x) taken.call wrote.0 k.known.0.orderly inside.0 wrote.1) in
        let least = stands.not_freed in
        (omega (arith, least), subst Fits taken.written.2 leader.lver)

pub places_are_known : PlacesAreKnown
places_are_known =
    record {
      sessions = λ i h x m s k there. of_session i h x s k m there;
      holdings = λ i h x g s k there. of_holding i h x s k g there;
      instances = λ i h x g s k there exclusive. of_instance i h x s k g there exclusive;
      tops = λ i h x m at l s there found. (let place = at_some h.members m there in kept_tops i h x place.0 m (record { stands = s; there = place.1 }) at l found);
    }
