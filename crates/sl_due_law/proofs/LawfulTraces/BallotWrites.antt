-- The own block that is known after the read of phase 1 has a number above 0: it is that of phase 1.
use Rattle.sl_due_facts.specs.Acts.Acts.{Hears}
use Rattle.sl_ballot.proofs.RiseLaws.{numbers_rise}
use Rattle.sl_due.specs.Steps.{Step, seen}
use Rattle.sl_run.specs.Lawful.{IsSetting, Orderly}
use Rattle.sl_run.specs.LawfulBlock.{LawfulBlock, LawfulBlockStep, LawfulPhase1}
use Rattle.sl_run.specs.LawfulCalls.{LawfulCalls}
use Rattle.sl_run.specs.LawForms.{cut_at}
use Rattle.sl_due_leases.proofs.Ways.WayFactsHeld.PlacesStand.{id_in_range}
use Rattle.sl_due_leases.proofs.Ways.NewestCall.{block_is, read_writes_no_block, submitted_passed}
use Rattle.sl_due_leases.proofs.Ways.WayStages.{ReadBehind, asked1_own, made_behind, older_inside, prior_inside, rest_own, write1}
use Rattle.sl_due_law.proofs.Causes.Leases.NewestWays.{NewestWays, newest_ways}
use Rattle.sl_trace.specs.Leases.{block_submitted, block_written, is_lease_call, is_on, last_blocks, lease_calls, lease_step, spot_of_call}
use Rattle.sl_words.proofs.Lists.{contains_more, got_inside, kept_inside}
use Rattle.sl_words.proofs.Options.{some_of}
use Rattle.sl_sector.specs.declared.sector.Block.{Block}
use Rattle.sl_trace.specs.Sessions.{calls_of, is_call_of, me, session_numbered, sessions}
use Rattle.sl_trace.specs.declared.session.Session.{Session}
use Rattle.sl_due_facts.specs.Facts.WayFacts.{Phase1ReadWay, Phase1Way, WayContext, way_context}
use Rattle.sl_due_facts.specs.Facts.AllFacts.{Whole}
use Rattle.sl_trace.proofs.TraceFacts.{each_entry-front}
use Rattle.sl_trace.specs.Traces.{EachEntry, Setting, Submitted, Trace, new_call, submitted}
use Rattle.sl_trace.specs.LeaseDecisions.{first_step}
use Rattle.sl_trace.specs.declared.effects.LeaseRead.TheVariants.{OfPhase1}
use Rattle.sl_trace.specs.declared.effects.LeaseStep.TheVariants.{Phase1Read, Phase1Write}
use Rattle.sl_trace.specs.declared.effects.LeaseStep.{LeaseStep}
use Rattle.sl_trace.specs.declared.effects.Purpose.TheVariants.{Lease}
use Rattle.sl_trace.specs.declared.effects.Purpose.{Purpose}
use Rattle.sl_trace.specs.declared.effects.Spot.{Spot}
use Rattle.sl_trace.specs.declared.effects.Work.{Work}
use Rattle.sl_trace.specs.declared.input.Answer.{Answer}
use Rattle.sl_run_law.proofs.Sessions.CallsAreMade.{calls_are_made}
use Rattle.sl_run_law.specs.Sessions.SessionLaws.{IsMade}
use Rattle.sl_words.specs.Words.{present}
use Rattle.std.proofs.Common.{ap, arith, subst, sym, ◌∙◌}
use Rattle.std.specs.Prelude.{Contains, List, None, Some, length, true, ℕ, ◌&&◌, ◌*◌, ◌+◌, ◌∷◌, ◌≡◌, ◌≤◌}

numbered : (id m mbal : ℕ) → 1 ≤ id → mbal ≡ id + m → 1 ≤ mbal
numbered id m mbal one is = omega (arith, one, is)

-- A block of phase 1 has a number of its host.
phase1_number : (st : Setting) (es : Trace) (s : Session) (at : Spot) (c : Submitted) (b : Block) → (1 ≤ s.id) × (s.id ≤ st.layout.hosts) → LawfulPhase1 st es s at c b → 1 ≤ b.mbal
phase1_number st es s at c b id law =
    let n = numbers_rise.own_number (me es s) st.layout.hosts b.lver b.shared b.mode_gen law.own (present (last_blocks st.layout (lease_calls st es s at))) id.0 id.1 in
    numbered s.id (st.layout.hosts * n.0) b.mbal id.0 (ap (λ (z : Block). z.mbal) law.written ∙ n.1)

-- So has each that was submitted.
begun_mbal : (st : Setting) (es : Trace) (m : Submitted) (work : Work) (b : Block) → IsSetting st → Orderly st es → Contains (submitted es) m → m.call.purpose ≡ Lease work Phase1Write → block_written m ≡ Some b → 1 ≤ b.mbal
begun_mbal st es m work b setting orderly there is wrote =
    let d : IsMade es m = calls_are_made es m there in
    let calls : EachEntry (LawfulCalls st) (d.entry ∷ d.past) = each_entry-front (LawfulCalls st) d.later (d.entry ∷ d.past) (subst (λ t. EachEntry (LawfulCalls st) t) d.whole orderly.calls) in
    let blocks : EachEntry (LawfulBlock st) (d.entry ∷ d.past) = each_entry-front (LawfulBlock st) d.later (d.entry ∷ d.past) (subst (λ t. EachEntry (LawfulBlock st) t) d.whole orderly.block) in
    let s = some_of (session_numbered st (d.entry ∷ d.past) m.call.session) (calls.0.owned m.call (got_inside d.entry.effects.calls d.index m.call d.call)) in
    let inside = got_inside (sessions st (d.entry ∷ d.past)) m.call.session s.0 s.1 in
    let front : Trace = cut_at d.index d.entry ∷ d.past in
    let new : Submitted = new_call (length d.past) d.entry.reading m.call in
    phase1_number st front s.0 (spot_of_call st.layout new) new b (id_in_range st setting (d.entry ∷ d.past) s.0 inside)
    (subst (λ (p : Purpose). elim (lease_step p) as (λ z. Type 0) [ None ↦ ⊥ | Some q ↦ LawfulBlockStep st front s.0 (spot_of_call st.layout new) new b q.1 ]) is (blocks.0.writes d.index m.call s.0 d.call s.1 b wrote))

-- The own block after the read of phase 1.
pub record IsPhase1 (ms : List Submitted) : Type 0 where
  pub own : Block
  pub knows : block_submitted ms ≡ Some own
  pub mbal : 1 ≤ own.mbal

pub phase1_own : (x : Step) (s : Session) (work : Work) (step : LeaseStep) (m : Submitted) (answer : Answer) → Whole x → Hears x s m answer → m.call.purpose ≡ Lease work step → first_step step ≡ Phase1Read
    → IsPhase1 (lease_calls x.setting (seen x) s (spot_of_call x.setting.layout m))
phase1_own x s work step m answer w h is same =
    record {
      own = one.own;
      knows = ap (λ ms. block_submitted ms) n.newest ∙ known;
      mbal = begun_mbal x.setting (seen x) prior work one.own w.setting w.orderly mine.0 way.after.its wrote;
    } where
      context : WayContext
      context = way_context x.setting (seen x) s

      n : NewestWays x s m
      n = newest_ways x s work step m answer w h is

      read : ReadBehind context work Phase1Read m n.rest
      read = made_behind context work OfPhase1 step m n.rest same is n.ways.0 n.ways.1

      way : Phase1ReadWay context work read.first.at read.first.call read.older
      way = read.way

      prior : Submitted
      prior = way.after.prior

      one : Phase1Way context prior.call way.after.rest
      one = write1 context work read.first.at read.first.call read.older read.ways way

      wrote : block_written prior ≡ Some one.own
      wrote = block_is context way.after.rest prior one.own one.wrote

      known : block_submitted (m ∷ n.rest) ≡ Some one.own
      known =
          submitted_passed m n.rest (read_writes_no_block m read.sectors read.reads.1)
          ∙ (rest_own context work Phase1Read m n.rest read ∙ asked1_own context work read.first.at read.first.call read.older read.ways way)

      inside : Contains n.rest prior
      inside = older_inside context work Phase1Read m n.rest read prior (prior_inside read.older work Phase1Write way.after)

      there : Contains (lease_calls x.setting (seen x) s (spot_of_call x.setting.layout m)) prior
      there = subst (λ ms. Contains ms prior) (sym n.newest) (contains_more m n.rest prior inside)

      lease : Contains (calls_of (seen x) s) prior × ((is_lease_call prior && is_on x.setting.layout (spot_of_call x.setting.layout m) prior.call) ≡ true)
      lease = kept_inside (λ (z : Submitted). is_lease_call z && is_on x.setting.layout (spot_of_call x.setting.layout m) z.call) (calls_of (seen x) s) prior there

      mine : Contains (submitted (seen x)) prior × (is_call_of s prior ≡ true)
      mine = kept_inside (is_call_of s) (submitted (seen x)) prior lease.0
