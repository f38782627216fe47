-- What the decision on a line rests on, by the command and by who holds.
use Rattle.sl_area.specs.AreaLayout.{is_base}
use Rattle.sl_due_facts.proofs.Acts.DecisionsAreTheirs.{decisions_are_theirs}
use Rattle.sl_due_facts.specs.Acts.DueDaemons.{IsDecidedFor, IsPresent}
use Rattle.sl_due.specs.DueCommands.{decided}
use Rattle.sl_due.specs.Steps.{Step, seen}
use Rattle.sl_due.specs.declared.decision.Decision.TheVariants.{ConvertsTo, GetsValue, GivesUp, Joins, Leaves, ReadsArea, Replies, Requests, SetsValue, Shares, TakesOver}
use Rattle.sl_due.specs.declared.decision.Decision.{Decision}
use Rattle.sl_due_facts.proofs.Jobs.DecisionsFit.{DecisionFits, decisions_fit}
use Rattle.sl_due_leases.proofs.Ways.WayFactsHeld.LinesReady.{named_base}
use Rattle.sl_host_law.proofs.Decisions.CommandsAreDecided.{commands_are_decided}
use Rattle.sl_host_law.proofs.SharedFacts.MembersAreSessions.{members_are_sessions}
use Rattle.sl_host_law.proofs.SharedFacts.PlainLists.{at_some}
use Rattle.sl_host_law.proofs.SharedFacts.PlainOrders.{ordered_inside}
use Rattle.sl_host_law.proofs.SharedFacts.SessionNumbers.{placed_by_number}
use Rattle.sl_host_law.proofs.Questions.MembersAnswer.{members_answer}
use Rattle.sl_host_law.proofs.Replies.PlainNumbers.{same_number}
use Rattle.sl_host_law.specs.Decisions.CommandDecisions.{decision_of, held_of}
use Rattle.sl_host_state.specs.KeptState.{Config, HostState, MemberState}
use Rattle.sl_trace.specs.Jobs.{resource_named}
use Rattle.sl_trace.specs.Leases.{holdings_on, spot_of}
use Rattle.sl_words.proofs.Lists.{kept_inside}
use Rattle.sl_trace.specs.Sessions.{holdings_of, is_active, is_present, session_numbered, sessions}
use Rattle.sl_trace.specs.declared.session.Session.{Session}
use Rattle.sl_step_law.proofs.HostsAreKnown.{hosts_are_known}
use Rattle.sl_step_law.proofs.LastValues.{last_values_are_enough}
use Rattle.sl_step_law.proofs.LeasesAreKnown.{leases_are_known}
use Rattle.sl_step_law.proofs.MomentsAreKnown.{moments_are_known}
use Rattle.sl_step_law.proofs.PlacesAreKnown.{places_are_known}
use Rattle.sl_step_law.specs.KnownHosts.{DecisionIs, DecisionsAreKnown, GivingIs, LeaseReady}
use Rattle.sl_step_law.specs.Moments.{IsMoment}
use Rattle.sl_step_law.specs.ReadyHosts.{IsReady}
use Rattle.sl_trace.specs.Traces.{Setting, Trace, same_place, spot_of_grant}
use Rattle.sl_trace.specs.declared.command.Command.{Command}
use Rattle.sl_trace.specs.declared.command.ResourceArg.{ResourceArg}
use Rattle.sl_trace.specs.declared.effects.Grant.{Grant}
use Rattle.sl_trace.specs.declared.effects.Spot.{Spot}
use Rattle.sl_trace.specs.declared.input.Input.TheVariants.{Wake}
use Rattle.sl_words.proofs.CaseLaws.{some_value}
use Rattle.sl_words.proofs.WordLaws.{and_true}
use Rattle.sl_words.specs.Orders.{is_text_before}
use Rattle.std.proofs.Common.{ap, subst, sym, ◌∙◌}
use Rattle.std.specs.Prelude.{Bool, Contains, IsTrue, List, Ok, Some, filter, is_none, true, ℕ, ◌&&◌, ◌==◌, ◌≡◌}

-- A session that is present has its number.
numbered : (st : Setting) (es : Trace) (s : Session) → IsPresent st es s → session_numbered st es s.number ≡ Some s
numbered st es s there =
    let inside = kept_inside (is_present es) (sessions st es) s (ordered_inside (λ (a b : Session). is_text_before a.lockspace b.lockspace) (filter (is_present es) (sessions st es)) s there) in
    let at = at_some (sessions st es) s inside.0 in
    subst (λ n. session_numbered st es n ≡ Some s) (sym (placed_by_number st es at.0 s at.1)) at.1

first_of : (a b c : Bool) → (a && b && c) ≡ true → a ≡ true
first_of a b c is = (and_true a b (and_true (a && b) c is).0).0

module _ (h : HostState) (x : Step) (text : List ℕ) (c : Command) (r : IsReady h x) (says : h.config.read text ≡ Ok c) where
  now : IsMoment Wake h x
  now = moments_are_known.ready h x r

  layouts : x.setting.layout ≡ h.config.layout
  layouts = ap (λ (z : Config). z.layout) r.stands.keeps.config

  same : decided x.setting (seen x) x.reading c ≡ decision_of h c
  same = commands_are_decided Wake h x c r.stands (last_values_are_enough h x c r)

  base_of : (q : ResourceArg) → resource_named c ≡ Some q → IsTrue (is_base h.config.layout q.offset)
  base_of q named = named_base h.config.layout c q (hosts_are_known.reads h x text c r says) named

  -- The member of a session that is present.
  whose : (m : MemberState) (s : Session) → Contains h.members m → (m.who.number == s.number) ≡ true → IsPresent x.setting (seen x) s → m.who ≡ s
  whose m s there its present =
      let place = at_some h.members m there in
      some_value m.who s
      (sym (members_are_sessions h x.setting (seen x) place.0 m r.stands.keeps place.1).0 ∙ ap (session_numbered x.setting (seen x)) (same_number m.who.number s.number its) ∙ numbered x.setting (seen x) s present)

  ready : (m : MemberState) (s : Session) (at : Spot) → Contains h.members m → m.who ≡ s → is_active x.setting (seen x) s ≡ true → IsTrue (is_base h.config.layout at.base) → LeaseReady h m at
  ready m s at there who active base =
      let place = at_some h.members m there in
      let answers = members_answer Wake h x place.0 m (record { stands = r.stands; there = place.1 }) in
      let on : is_active x.setting (seen x) m.who ≡ true = subst (λ t. is_active x.setting (seen x) t ≡ true) (sym who) active in
      record {
        joined = first_of m.joined (is_none m.renewing.recovery) (is_none m.leaving) (sym answers.active ∙ on);
        area = base;
        tops = leases_are_known.tops Wake h x m at now there;
        owned = leases_are_known.owned Wake h x m at now there;
        opened = leases_are_known.opened Wake h x m at now there;
        held = leases_are_known.held Wake h x m at now there;
      }

  gives : (s : Session) (g : Grant) (at : Spot) (m : MemberState) → Contains h.members m → m.who ≡ s → is_active x.setting (seen x) s ≡ true → Contains (holdings_on (seen x) s at) g → GivingIs h m g
  gives s g at m there who active held =
      let place = at_some h.members m there in
      let answers = members_answer Wake h x place.0 m (record { stands = r.stands; there = place.1 }) in
      let of_session = kept_inside (λ (z : Grant). same_place z.path z.offset at.path at.base) (holdings_of (seen x) s) g held in
      let holds : Contains (held_of h m) g = subst (λ gs. Contains gs g) answers.holdings (subst (λ t. Contains (holdings_of (seen x) t) g) (sym who) of_session.0) in
      let there_h : Contains h.holdings g = (kept_inside (λ (z : Grant). z.session == m.who.number) h.holdings g holds).0 in
      record {
        lease = ready m s (spot_of_grant g) there who active (places_are_known.holdings Wake h x g r.stands r.kept there_h);
        holds = holds;
        named = leases_are_known.holders Wake h x m g now there holds;
        instance = leases_are_known.instances Wake h x g now there_h;
      }

  by : (d : Decision) → DecisionFits x.setting (seen x) c d → IsDecidedFor x.setting (seen x) c d → DecisionIs h c d
  by (Replies reply) fit of = tt
  by (Joins n a) fit of = fit.0
  by (Leaves s) fit of = (fit.1.0, fit.1.1)
  by (ReadsArea s q) fit of = tt
  by (Shares s lver) fit of = tt
  by (GivesUp s g) fit of = λ m there its. gives s g (spot_of fit.1.0) m there (whose m s there its of) fit.0 fit.1.3
  by (TakesOver s g) fit of = tt
  by (ConvertsTo s q mode) fit of = λ m there its. ready m s (spot_of q) there (whose m s there its of) fit.0 (base_of q fit.1.0)
  by (Requests s q) fit of = tt
  by (SetsValue s at v) fit of = subst (λ (z : Spot). IsTrue (is_base h.config.layout z.base)) (sym fit.1.2) (base_of fit.1.0 fit.1.1.0)
  by (GetsValue s at) fit of = subst (λ (z : Spot). IsTrue (is_base h.config.layout z.base)) (sym fit.1.2) (base_of fit.1.0 fit.1.1.0)

  known : (d : Decision) → d ≡ decision_of h c → DecisionIs h c d
  known d is =
      let to : decided x.setting (seen x) x.reading c ≡ d = same ∙ sym is in
      by d (subst (DecisionFits x.setting (seen x) c) to (decisions_fit x.setting (seen x) x.reading c)) (subst (IsDecidedFor x.setting (seen x) c) to (decisions_are_theirs x.setting (seen x) x.reading c))

pub decisions_are_known : DecisionsAreKnown
decisions_are_known h x text c d r says is = known h x text c r says d is
