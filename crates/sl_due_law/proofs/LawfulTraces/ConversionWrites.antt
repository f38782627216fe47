-- A conversion to shared sets the mode in the own block, and that is a record.
use Rattle.sl_due.specs.DueCommands.{decided}
use Rattle.sl_due.specs.Steps.{Step, seen, with_input}
use Rattle.sl_due.specs.declared.decision.Decision.TheVariants.{ConvertsTo}
use Rattle.sl_due_law.proofs.LawfulTraces.OwnRecords.{fits_it}
use Rattle.sl_due_law.proofs.LawfulTraces.ValueWrites.{own_is_record}
use Rattle.sl_due_law.specs.LawfulTraces.Writes.{LeaseWrites}
use Rattle.sl_due_leases.proofs.Holdings.DecisionsHaveGrounds.{decisions_have_grounds}
use Rattle.sl_due_leases.proofs.Holdings.LeaseConversions.{spot_is}
use Rattle.sl_due_leases.specs.Holdings.DecisionGrounds.{ConvertGrounds, HasGrounds}
use Rattle.sl_due_facts.proofs.Jobs.SessionsArePresent.{present_is, session_has}
use Rattle.sl_trace.specs.Ballots.{moded_block}
use Rattle.sl_trace.specs.Conversions.{convert_next}
use Rattle.sl_trace.specs.Leases.{block_submitted, holdings_on, is_lease_call, is_on, known, lease_calls, spot_of}
use Rattle.sl_trace.specs.declared.lease.LeaseNext.TheVariants.{Nothing, WriteBlock}
use Rattle.sl_words.proofs.Lists.{find_inside, kept_inside}
use Rattle.sl_sector.specs.Records.{Fits, IsBlock}
use Rattle.sl_sector.specs.declared.sector.Block.{Block}
use Rattle.sl_due_facts.proofs.Connections.ConnectionLines.{active_is_joined}
use Rattle.sl_due_facts.proofs.Sessions.DeltaLines.{calls_lined}
use Rattle.sl_due_facts.proofs.Sessions.JoinedNumbers.{HasNumbers}
use Rattle.sl_trace.specs.Sessions.{generation_in, generation_of, holdings_of, is_call_of, present_sessions, session_numbered, sessions}
use Rattle.sl_trace.specs.declared.session.Session.{Session}
use Rattle.sl_due_facts.specs.Facts.AllFacts.{Whole}
use Rattle.sl_trace.specs.Traces.{Submitted, holdings, is_shared, same_place}
use Rattle.sl_trace.specs.declared.command.Command.{Command}
use Rattle.sl_trace.specs.declared.command.ResourceArg.{ResourceArg}
use Rattle.sl_trace.specs.declared.effects.Grant.{Grant}
use Rattle.sl_trace.specs.declared.effects.LeaseStep.TheVariants.{SetMode}
use Rattle.sl_trace.specs.declared.effects.Mode.TheVariants.{Exclusive, Shared}
use Rattle.sl_trace.specs.declared.effects.Mode.{Mode}
use Rattle.sl_trace.specs.declared.input.Input.TheVariants.{Line, Wake}
use Rattle.sl_words.proofs.CaseLaws.{one_value, true_is_false}
use Rattle.sl_words.specs.Words.{same_truth}
use Rattle.sl_due_facts.specs.Acts.Acts.{next_of_conversion}
use Rattle.sl_due_facts.proofs.Acts.Pairs.Decisions.{conversion_is}
use Rattle.std.proofs.Common.{ap, arith, refl, subst, sym, ◌∙◌}
use Rattle.std.proofs.lemmas.Bool.{eqb-true}
use Rattle.std.specs.Option.{option_map_or}
use Rattle.std.specs.Prelude.{Bool, Contains, List, None, Option, Some, [], bytes_eq, false, filter, true, ℕ, ◌&&◌, ◌<◌, ◌==◌, ◌≡◌, ◌≤◌}

not_none : (n : ℕ) → 1 ≤ n → n ≡ 0 → ⊥
not_none n one is = omega (arith, one, is)

-- The own block with the mode.
pub moded : (own : Block) (generation : ℕ) → IsBlock own → 1 ≤ own.lver → 1 ≤ generation → Fits generation → IsBlock (moded_block own true generation)
moded own generation is one some fits =
    record {
      host = is.host;
      lver = is.lver;
      mbal = is.mbal;
      bal = is.bal;
      generations = (is.generations.0, fits);
      inp = is.inp;
      value = is.value;
      mode = ((λ e. absurd (true_is_false e)), (λ e. absurd (not_none generation some e)));
      unused = λ none. absurd (not_none own.lver one none);
    }

above : (a n : ℕ) → a < n → 1 ≤ n
above a n less = omega (arith, less)

-- The block of an exclusive holding is in the instance that it is held under.
held_block : (x : Step) (s : Session) (r : ResourceArg) (g : Grant) (own : Block) → Whole x → Contains (sessions x.setting (seen x)) s → Contains (holdings_on (seen x) s (spot_of r)) g → is_shared g.mode ≡ false
    → block_submitted (lease_calls x.setting (seen x) s (spot_of r)) ≡ Some own → 1 ≤ own.lver
held_block x s r g own w inside held alone is =
    let on = kept_inside (λ (z : Grant). same_place z.path z.offset (spot_of r).path (spot_of r).base) (holdings_of (seen x) s) g held in
    let mine = kept_inside (λ (z : Grant). z.session == s.number) (holdings (seen x)) g on.0 in
    let has : session_numbered x.setting (seen x) g.session ≡ Some s = subst (λ n. session_numbered x.setting (seen x) n ≡ Some s) (sym (eqb-true g.session s.number mine.1)) (session_has x.setting (seen x) s inside) in
    let stands = w.facts.holdings.stands g s mine.0 has alone in
    let known_there : block_submitted (lease_calls x.setting (seen x) s (spot_of r)) ≡ Some stands.own = subst (λ at. block_submitted (lease_calls x.setting (seen x) s at) ≡ Some stands.own) (spot_is g (spot_of r) on.1) stands.known in
    let same : stands.own ≡ own = one_value stands.own own (block_submitted (lease_calls x.setting (seen x) s (spot_of r))) known_there is in
    subst (λ (b : Block). 1 ≤ b.lver) same (subst (λ n. 1 ≤ n) (sym stands.under.0) (above _ g.lver stands.not_freed))

unshared : (b : Bool) → same_truth true b ≡ false → b ≡ false
unshared true is = absurd (true_is_false is)
unshared false is = refl

convert_well : (x : Step) (text : List ℕ) (c : Command) (s : Session) (r : ResourceArg) (mode : Mode) → x.input ≡ Wake → x.effects.calls ≡ [] → Whole x → decided x.setting (seen x) x.reading c ≡ ConvertsTo s r mode
    → LeaseWrites (convert_next (known x.setting (seen (with_input (Line text) x)) s (spot_of r)) mode r.name)
unfolding known
convert_well x text c s r Exclusive wake bare w is = tt
convert_well x text c s r Shared wake bare w is = by (block_submitted (lease_calls x.setting (seen y) s (spot_of r))) refl where
  y : Step
  y = with_input (Line text) x

  g : ConvertGrounds x.setting (seen x) c s r Shared
  g = subst (λ d. HasGrounds x.setting (seen x) c d) is (decisions_have_grounds x.setting (seen x) x.reading c)

  inside : Contains (sessions x.setting (seen x)) s
  inside = (present_is x.setting (seen x) s (find_inside (λ (z : Session). bytes_eq z.lockspace r.lockspace) (present_sessions x.setting (seen x)) s g.ready.named).0).0

  n : HasNumbers (seen x) s
  n = w.facts.delta.numbers s inside (active_is_joined x.setting (seen x) s g.ready.active)

  same : generation_of (seen x) s ≡ generation_of (seen y) s
  same = ap (λ ms. generation_in s (filter (is_call_of s) ms)) (sym (calls_lined x text wake bare))

  by : (o : Option Block) → block_submitted (lease_calls x.setting (seen y) s (spot_of r)) ≡ o → LeaseWrites (option_map_or (λ own. WriteBlock SetMode (moded_block own true (generation_of (seen y) s))) o Nothing)
  by None there = tt
  by (Some own) there =
      let before : block_submitted (lease_calls x.setting (seen x) s (spot_of r)) ≡ Some own =
      ap (λ ms. block_submitted (filter (λ (m : Submitted). is_lease_call m && is_on x.setting.layout (spot_of r) m.call) (filter (is_call_of s) ms))) (sym (calls_lined x text wake bare)) ∙ there in
      let held = find_inside (λ (z : Grant). z.process == g.process && true) (holdings_on (seen x) s (spot_of r)) g.holding g.held in
      moded own (generation_of (seen y) s) (own_is_record x s (spot_of r) own w before) (held_block x s r g.holding own w inside held.0 (unshared (is_shared g.holding.mode) g.other) before)
      (subst (λ k. 1 ≤ k) same n.0) (subst (λ k. Fits k) same (fits_it (generation_of (seen x) s) n.1))

-- What a conversion writes.
pub converts_well : (x : Step) (text : List ℕ) (c : Command) (s : Session) (r : ResourceArg) (mode : Mode) → x.input ≡ Wake → x.effects.calls ≡ [] → Whole x → decided x.setting (seen x) x.reading c ≡ ConvertsTo s r mode
    → LeaseWrites (next_of_conversion x.setting (seen (with_input (Line text) x)) s (spot_of r) mode r.name)
converts_well x text c s r mode wake bare w is =
    conversion_is LeaseWrites x.setting (seen (with_input (Line text) x)) s (spot_of r) mode r.name (λ fits. convert_well x text c s r mode wake bare w is) (λ paired over writes. tt)
