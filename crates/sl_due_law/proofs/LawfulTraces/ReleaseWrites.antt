-- What a release writes is a record: a shared one clears the mode of the own block, an exclusive one frees the leader.
use Rattle.sl_due.specs.DueCommands.{decided}
use Rattle.sl_due.specs.declared.decision.Decision.TheVariants.{GivesUp}
use Rattle.sl_due_law.proofs.LawfulTraces.LeaderWrites.{leader_well}
use Rattle.sl_due_leases.proofs.Holdings.DecisionsHaveGrounds.{decisions_have_grounds}
use Rattle.sl_due_leases.proofs.Holdings.HoldingsByLeases.{base_aligned}
use Rattle.sl_due_leases.specs.Holdings.DecisionGrounds.{GiveUpGrounds, HasGrounds}
use Rattle.sl_due_facts.proofs.Jobs.SessionsArePresent.{present_is, session_has}
use Rattle.sl_due_leases.proofs.Ways.WayNumbers.{is_verified}
use Rattle.sl_words.proofs.Lists.{find_inside, kept_inside}
use Rattle.sl_due_facts.proofs.Connections.ConnectionLines.{active_is_joined}
use Rattle.sl_due_facts.specs.Facts.WayFacts.{way_context}
use Rattle.sl_trace.specs.declared.command.Command.{Command}
use Rattle.std.proofs.lemmas.Bool.{eqb-true}
use Rattle.sl_due.specs.Steps.{Step, add_end, seen, with_input}
use Rattle.sl_due_law.proofs.LawfulTraces.ValueWrites.{held_lver, own_is_record}
use Rattle.sl_due_law.specs.LawfulTraces.Writes.{LeaseWrites}
use Rattle.sl_trace.specs.Ballots.{moded_block}
use Rattle.sl_trace.specs.LeaseDecisions.{leader_for, lease_place}
use Rattle.sl_trace.specs.Releases.{release_next}
use Rattle.sl_trace.specs.Leases.{block_submitted, is_lease_call, is_on, known, lease_calls, spot_of, verified_name}
use Rattle.sl_trace.specs.declared.lease.LeaseNext.TheVariants.{Nothing, WriteBlock}
use Rattle.sl_sector.specs.Records.{IsBlock, IsLeader}
use Rattle.sl_sector.specs.declared.sector.Block.{Block}
use Rattle.sl_due_facts.proofs.Sessions.DeltaLines.{calls_lined}
use Rattle.sl_trace.specs.Sessions.{generation_in, holdings_of, is_call_of, present_sessions, session_numbered, sessions}
use Rattle.sl_trace.specs.declared.session.Session.{Session}
use Rattle.sl_due_facts.specs.Facts.AllFacts.{Whole}
use Rattle.sl_trace.specs.Traces.{Submitted, end_of, holdings, is_shared, same_place, spot_of_grant}
use Rattle.sl_trace.specs.declared.effects.Grant.{Grant}
use Rattle.sl_trace.specs.declared.effects.LeaseStep.TheVariants.{ClearMode}
use Rattle.sl_trace.specs.declared.effects.Mode.TheVariants.{Exclusive, Shared}
use Rattle.sl_trace.specs.declared.effects.Mode.{Mode}
use Rattle.sl_trace.specs.declared.effects.Spot.{Spot}
use Rattle.sl_trace.specs.declared.input.Input.TheVariants.{Line, Wake}
use Rattle.sl_due_facts.specs.Acts.Acts.{next_of_release}
use Rattle.sl_due_facts.proofs.Acts.Pairs.Decisions.{release_is}
use Rattle.std.proofs.Common.{ap, arith, refl, subst, sym, ◌∙◌}
use Rattle.std.specs.Option.{option_map_or}
use Rattle.std.specs.Prelude.{Contains, List, None, Option, Some, [], bytes_eq, false, filter, ℕ, ◌&&◌, ◌<◌, ◌==◌, ◌≡◌, ◌≤◌}

-- The own block without its mode.
pub unmoded : (own : Block) → IsBlock own → IsBlock (moded_block own false 0)
unmoded own is =
    record {
      host = is.host;
      lver = is.lver;
      mbal = is.mbal;
      bal = is.bal;
      generations = (is.generations.0, omega arith);
      inp = is.inp;
      value = is.value;
      mode = ((λ e. refl), (λ e. refl));
      unused = λ none. ((is.unused none).0, refl);
    }

above : (a n : ℕ) → a < n → 1 ≤ n
above a n less = omega (arith, less)

-- The leader that the release of an exclusive holding writes.
freed_well : (x : Step) (c : Command) (s : Session) (g : Grant) → Whole x → GiveUpGrounds x.setting (seen x) c s g → is_shared g.mode ≡ false
    → IsLeader (leader_for (lease_place x.setting s) (known x.setting (seen x) s (spot_of_grant g)) false g.lver)
freed_well x c s g w grounds alone =
    let inside : Contains (sessions x.setting (seen x)) s =
    (present_is x.setting (seen x) s (find_inside (λ (z : Session). bytes_eq z.lockspace grounds.resource.lockspace) (present_sessions x.setting (seen x)) s grounds.ready.named).0).0
    in
    let on = kept_inside (λ (z : Grant). same_place z.path z.offset (spot_of grounds.resource).path (spot_of grounds.resource).base) (holdings_of (seen x) s) g grounds.held in
    let mine = kept_inside (λ (z : Grant). z.session == s.number) (holdings (seen x)) g on.0 in
    let has : session_numbered x.setting (seen x) g.session ≡ Some s = subst (λ n. session_numbered x.setting (seen x) n ≡ Some s) (sym (eqb-true g.session s.number mine.1)) (session_has x.setting (seen x) s inside) in
    let stands = w.facts.holdings.stands g s mine.0 has alone in
    let ways = w.facts.ways.each s (spot_of_grant g) inside (base_aligned x g (w.facts.holdings.owned g mine.0).4) in
    leader_well x.setting (seen x) s (spot_of_grant g) false g.lver w.setting inside (w.facts.delta.numbers s inside (active_is_joined x.setting (seen x) s grounds.ready.active)) ways
    (is_verified (way_context x.setting (seen x) s) (lease_calls x.setting (seen x) s (spot_of_grant g)) ways stands.own stands.known) (above _ g.lver stands.not_freed) (held_lver x g w mine.0 alone)

release_well : (x : Step) (text : List ℕ) (c : Command) (s : Session) (g : Grant) → x.input ≡ Wake → x.effects.calls ≡ [] → Whole x → decided x.setting (seen x) x.reading c ≡ GivesUp s g
    → LeaseWrites (release_next (lease_place x.setting s) (known x.setting (seen (add_end (end_of g) (with_input (Line text) x))) s (spot_of_grant g)) g.mode g.lver)
unfolding known
release_well x text c s g wake bare w decides = by g.mode refl where
  z : Step
  z = add_end (end_of g) (with_input (Line text) x)

  at : Spot
  at = spot_of_grant g

  grounds : GiveUpGrounds x.setting (seen x) c s g
  grounds = subst (λ d. HasGrounds x.setting (seen x) c d) decides (decisions_have_grounds x.setting (seen x) x.reading c)

  clears : (o : Option Block) → block_submitted (lease_calls x.setting (seen z) s at) ≡ o → LeaseWrites (option_map_or (λ own. WriteBlock ClearMode (moded_block own false 0)) o Nothing)
  clears None is = tt
  clears (Some own) is =
      unmoded own (own_is_record x s at own w (ap (λ ms. block_submitted (filter (λ (m : Submitted). is_lease_call m && is_on x.setting.layout at m.call) (filter (is_call_of s) ms))) (sym (calls_lined x text wake bare)) ∙ is))

  by : (m : Mode) → g.mode ≡ m → LeaseWrites (release_next (lease_place x.setting s) (known x.setting (seen (add_end (end_of g) (with_input (Line text) x))) s (spot_of_grant g)) m g.lver)
  by Exclusive is =
      subst (λ ms. IsLeader (record {
        held = false;
        num_hosts = x.setting.layout.hosts;
        lver = g.lver;
        generation = generation_in s (filter (is_call_of s) ms);
        owner = s.id;
        lockspace = s.lockspace;
        resource = verified_name x.setting.layout s.lockspace (filter (λ (m : Submitted). is_lease_call m && is_on x.setting.layout at m.call) (filter (is_call_of s) ms));
      })) (sym (calls_lined x text wake bare)) (freed_well x c s g w grounds (ap (λ m. is_shared m) is))
  by Shared is = clears (block_submitted (lease_calls x.setting (seen z) s at)) refl

-- What a release writes.
pub releases_well : (x : Step) (text : List ℕ) (c : Command) (s : Session) (g : Grant) → x.input ≡ Wake → x.effects.calls ≡ [] → Whole x → decided x.setting (seen x) x.reading c ≡ GivesUp s g
    → LeaseWrites (next_of_release x.setting (seen (add_end (end_of g) (with_input (Line text) x))) s (spot_of_grant g) g)
releases_well x text c s g wake bare w decides =
    release_is LeaseWrites x.setting (seen (add_end (end_of g) (with_input (Line text) x))) s (spot_of_grant g) g (λ fits. release_well x text c s g wake bare w decides) (λ paired over writes. tt)
