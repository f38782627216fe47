-- A joining is over only by the write of its first renewal, and by then it has claimed a generation.
use Rattle.sl_area.specs.AreaSizes.{Layout, layout_of, record_in}
use Rattle.sl_area.specs.AreaLayout.{is_base}
use Rattle.sl_delta.specs.DeltaDecisions.{after_join, claim_next, is_over_since, verified}
use Rattle.sl_delta.specs.OwnSector.{OwnState, lease_of}
use Rattle.sl_host_answers.specs.Facts.{JoinKnown}
use Rattle.sl_host_answers.specs.JoiningAnswers.{join_answer}
use Rattle.sl_host_law.proofs.SharedFacts.PlainLists.{all_from}
use Rattle.sl_host_law.specs.Replies.Answers.{IsOpen}
use Rattle.sl_host_law.specs.Steps.Answers.{own_of}
use Rattle.sl_host_state.specs.HeardInputs.{heard_answer, hearing, is_over_with, member_hearing}
use Rattle.sl_host_state.specs.KeptState.{HostKept, HostState, MemberState, state_of}
use Rattle.sl_host_state.specs.declared.kept_parts.OpenCall.{OpenCall}
use Rattle.sl_host_step.proofs.StepsMayCome.{IsAtInput}
use Rattle.sl_host_work.specs.SectorPlaces.{IsPlaced}
use Rattle.sl_member.specs.HostMembers.{member_with}
use Rattle.sl_words.proofs.Lists.{find_inside, in_map, kept_inside}
use Rattle.sl_sector.specs.SectorLayouts.{delta_in}
use Rattle.sl_sector.specs.declared.sector.DeltaRec.{DeltaRec}
use Rattle.sl_trace.specs.DeltaDecisions.{next_after_first}
use Rattle.sl_trace.specs.Sightings.{is_free_state}
use Rattle.sl_trace.specs.declared.delta.DeltaNext.TheVariants.{Join, Nothing, RefuseJoin, RegisterAndRead}
use Rattle.sl_trace.specs.declared.delta.DeltaNext.{DeltaNext}
use Rattle.sl_trace.specs.declared.session.Session.{Session}
use Rattle.sl_step_law.proofs.JoiningsClaim.{joinings_claim}
use Rattle.sl_step_law.proofs.PlacesAreKnown.{places_are_known}
use Rattle.sl_trace.specs.declared.effects.JoinStep.TheVariants.{ClaimWrite, DecidingRead, FirstRead, FirstRenewal, VerifyRead, WatchRead}
use Rattle.sl_trace.specs.declared.effects.JoinStep.{JoinStep}
use Rattle.sl_trace.specs.declared.effects.Purpose.TheVariants.{Joining}
use Rattle.sl_trace.specs.declared.input.Answer.TheVariants.{Failed, Read, Written}
use Rattle.sl_trace.specs.declared.input.Answer.{Answer}
use Rattle.sl_trace.specs.declared.input.Input.TheVariants.{Answer as Told, Wake}
use Rattle.sl_trace.specs.declared.reply.Reply.TheVariants.{TornDelta, WrongDelta}
use Rattle.sl_trace.specs.declared.reply.Reply.{Reply}
use Rattle.sl_host.specs.BookQuestions.{state_in}
use Rattle.sl_words.proofs.WordLaws.{some_is_true}
use Rattle.sl_words.specs.Bounds.{is_number, moments}
use Rattle.sl_words.specs.Words.{some_is}
use Rattle.std.proofs.Common.{ap, refl, subst, sym, ◌∙◌}
use Rattle.std.proofs.lemmas.Bool.Decides.{Decides-eqb}
use Rattle.std.proofs.lemmas.Bool.{eqb-true}
use Rattle.std.specs.Prelude.{Bool, Contains, IsTrue, List, None, Option, Some, bytes_eq, cond, false, map, not, true, ℕ, ◌&&◌, ◌+◌, ◌<◌, ◌==◌, ◌≡◌, ◌≤◌}

-- ---- what a joining decides

-- Whether it is the first renewal's.
abbrev is_renewal_step : JoinStep → Bool
is_renewal_step FirstRenewal = true
is_renewal_step step = false

abbrev JoinsAt : Bool → DeltaNext → Type 0
JoinsAt renews (Join generation renewed) = renews ≡ true
JoinsAt renews next = Unit {0}

first_read : (o : OwnState) (b : Bool) (bytes : List ℕ) → JoinsAt b (next_after_first (lease_of o) bytes)
unfolding next_after_first
first_read o b bytes = by (delta_in (record_in (lease_of o).layout bytes)) where
  inner : (f : Bool) → JoinsAt b (elim f as (λ z. DeltaNext) [ true ↦ RegisterAndRead DecidingRead | false ↦ Nothing ])
  inner true = tt
  inner false = tt

  named : (d : DeltaRec) (f : Bool)
      → JoinsAt b (elim f as (λ z. DeltaNext) [
        | false ↦ RefuseJoin (WrongDelta d.lockspace d.id)
        | true ↦ elim (is_free_state d.state) [ true ↦ RegisterAndRead DecidingRead | false ↦ Nothing ]
      ])
  named d false = tt
  named d true = inner (is_free_state d.state)

  by : (q : Option DeltaRec)
      → JoinsAt b (elim q as (λ z. DeltaNext) [
        | None ↦ RefuseJoin TornDelta
        | Some d ↦ elim (bytes_eq d.lockspace (lease_of o).lockspace && d.id == (lease_of o).id) [
          | false ↦ RefuseJoin (WrongDelta d.lockspace d.id)
          | true ↦ elim (is_free_state d.state) [ true ↦ RegisterAndRead DecidingRead | false ↦ Nothing ]
        ]
      ])
  by None = tt
  by (Some d) = named d (bytes_eq d.lockspace (lease_of o).lockspace && d.id == (lease_of o).id)

either : (b : Bool) (r : Reply) (next : DeltaNext) → JoinsAt b next → (f : Bool) → JoinsAt b (elim f as (λ z. DeltaNext) [ false ↦ RefuseJoin r | true ↦ next ])
either b r next is false = tt
either b r next is true = is

waits : (b f : Bool) → JoinsAt b (elim f as (λ z. DeltaNext) [ true ↦ RegisterAndRead DecidingRead | false ↦ Nothing ])
waits b true = tt
waits b false = tt

claims : (b : Bool) (o : OwnState) (now : ℕ) (q : Option DeltaRec) → JoinsAt b (claim_next o now q)
claims b o now None = tt
claims b o now (Some d) = either b _ _ (either b _ _ tt (is_number (d.seq + 1))) (is_number (d.generation + 1))

verifies : (b : Bool) (o : OwnState) (now : ℕ) (bytes : List ℕ) (q : Option DeltaRec) → JoinsAt b (elim q as (λ z. DeltaNext) [ None ↦ Nothing | Some claim ↦ verified o now bytes claim ])
verifies b o now bytes None = tt
verifies b o now bytes (Some claim) = either b _ _ (either b _ _ tt (is_number (claim.seq + 1))) _

joins_at : (o : OwnState) (now call made : ℕ) (step : JoinStep) (a : Answer) → JoinsAt (is_renewal_step step) (after_join o now call made step a)
joins_at o now call made FirstRead (Read bytes) = first_read o false bytes
joins_at o now call made WatchRead (Read bytes) = either false _ _ (waits false (is_over_since o.timing o.joining.since made)) _
joins_at o now call made DecidingRead (Read bytes) = either false _ _ (claims false o now (delta_in (record_in (lease_of o).layout bytes))) _
joins_at o now call made ClaimWrite (Read bytes) = tt
joins_at o now call made VerifyRead (Read bytes) = verifies false o now bytes o.joining.claim
joins_at o now call made FirstRenewal (Read bytes) = tt
joins_at o now call made FirstRead Written = tt
joins_at o now call made WatchRead Written = tt
joins_at o now call made DecidingRead Written = tt
joins_at o now call made ClaimWrite Written = tt
joins_at o now call made VerifyRead Written = tt
joins_at o now call made FirstRenewal Written = refl
joins_at o now call made step Failed = tt

renewal_is : (step : JoinStep) → is_renewal_step step ≡ true → step ≡ FirstRenewal
renewal_is FirstRenewal is = refl
renewal_is FirstRead is = absurd cc
renewal_is WatchRead is = absurd cc
renewal_is DecidingRead is = absurd cc
renewal_is ClaimWrite is = absurd cc
renewal_is VerifyRead is = absurd cc

-- ---- who has heard it

-- A member of the host that has heard it was one before, with its generation.
pub record WasMember (h : HostState) (q : MemberState) : Type 0 where
  pub old : MemberState
  pub there : Contains h.members old
  pub who : old.who ≡ q.who
  pub generation : old.known.generation ≡ q.known.generation

heard_from : (h : HostState) (number : ℕ) (c : OpenCall) (a : Answer) (q : MemberState) → IsOpen h number c → Contains (heard_answer number a h).members q → WasMember h q
heard_from h number c a q opens there =
    record {
      old = z.0;
      there = z.1;
      who = who (c.session == z.0.who.number) ∙ ap (λ (m : MemberState). m.who) z.2;
      generation = generation (c.session == z.0.who.number) ∙ ap (λ (m : MemberState). m.known.generation) z.2;
    }
  where
    in_heard : Contains (hearing c a h).members q
    in_heard = subst (λ (g : HostState). Contains g.members q) (ap (λ o. elim o as (λ z. HostState) [ None ↦ h | Some d ↦ hearing d a h ]) opens) there

    z : (m : MemberState) × Contains h.members m × (cond (c.session == m.who.number) (member_hearing h c a m) m ≡ q)
    z = in_map (λ (m : MemberState). cond (c.session == m.who.number) (member_hearing h c a m) m) h.members q
        (kept_inside (λ (m : MemberState). not (is_over_with c.number h m)) (map (λ (m : MemberState). cond (c.session == m.who.number) (member_hearing h c a m) m) h.members) q in_heard).0

    who : (b : Bool) → z.0.who ≡ (cond b (member_hearing h c a z.0) z.0).who
    who true = refl
    who false = refl

    generation : (b : Bool) → z.0.known.generation ≡ (cond b (member_hearing h c a z.0) z.0).known.generation
    generation true = refl
    generation false = refl

-- ---- it is known

module _ (now number : ℕ) (answer : Answer) (k : HostKept) (c : OpenCall) (a : IsAtInput now (Told number answer) k) (opens : IsOpen (state_in k) number c) (g : HostKept)
    (is : state_of a.read g ≡ heard_answer number answer (state_of a.read k)) (timely : g.reading < moments) (job : ℕ) (step : JoinStep) (for : c.purpose ≡ Joining job step) (m : MemberState)
    (there : member_with c.session k.members ≡ Some m) where
  found : Contains k.members m × ((m.who.number == c.session) ≡ true)
  found = find_inside (λ (z : MemberState). z.who.number == c.session) k.members m there

  layouts : layout_of k.config.sizes ≡ layout_of g.config.sizes
  layouts =
      sym (ap (λ (h : HostState). h.config.layout) is
      ∙ ap (λ o. (elim o as (λ z. HostState) [ None ↦ state_of a.read k | Some d ↦ hearing d answer (state_of a.read k) ]).config.layout) opens)

  placed : IsPlaced g.config.sizes m.who
  placed =
      let z = places_are_known.sessions Wake (state_of a.read k) a.step m a.ready.stands a.ready.kept found.0 in
      record { id = (z.0, subst (λ (l : Layout). m.who.id ≤ l.hosts) layouts z.1); base = subst (λ (l : Layout). IsTrue (is_base l m.who.offset)) layouts z.2 }

  -- Whoever else would be of the job is it.
  claimed : (j : ℕ) → m.who.job ≡ Some j → step ≡ FirstRenewal → (q : MemberState) → Contains g.members q → some_is (λ i. i == j) q.who.job ≡ true → 1 ≤ q.known.generation
  claimed j its first q inside of =
      let w = heard_from (state_of a.read k) number c answer q opens (subst (λ (h : HostState). Contains h.members q) is inside) in
      let v = some_is_true (λ i. i == j) q.who.job of in
      let own : w.old.who.job ≡ Some j = ap (λ (s : Session). s.job) w.who ∙ v.1 ∙ ap (λ i. Some i) (eqb-true v.0 j v.2) in
      let same : m.who ≡ w.old.who = a.ready.sound.joinings.apart m w.old j found.0 w.there its own in
      let mine : (c.session == w.old.who.number) ≡ true =
      (Decides-eqb c.session w.old.who.number).1 (sym (eqb-true m.who.number c.session found.1) ∙ ap (λ (s : Session). s.number) same)
      in
      subst (λ n. 1 ≤ n) w.generation
      (joinings_claim (state_of a.read k) a.step number c w.old job a.ready (record { is_open = opens; there = w.there; its = mine }) (for ∙ ap (λ s. Joining job s) first))

  pub join_known : JoinKnown g (join_answer (state_in k) c step answer m)
  join_known =
      record {
        timely = timely;
        placed = placed;
        claims = λ j generation renewed its next.
            all_from (λ (s : MemberState). some_is (λ i. i == j) s.who.job ≡ true → 1 ≤ s.known.generation) g.members
            (claimed j its (renewal_is step (subst (JoinsAt (is_renewal_step step)) next (joins_at (own_of (state_in k) m) k.reading c.number c.reading step answer))));
      }
