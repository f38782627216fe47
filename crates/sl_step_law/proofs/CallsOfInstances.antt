-- Each write of a lease is of an instance above 0, and each of its calls but the first read has a block behind it: by the way that led to it.
use Rattle.sl_due_facts.proofs.Sessions.JoinedNumbers.{spelled_of}
use Rattle.sl_due_facts.proofs.Acts.Pairs.Records.{block_lver}
use Rattle.sl_area.specs.AreaRecords.{leader_record}
use Rattle.sl_due_leases.proofs.Ways.NewestCall.{block_is, ended_here, lver_is, read_writes_no_block, submitted_passed}
use Rattle.sl_due_leases.proofs.Ways.WayNumbers.{EndsBy, ends_by}
use Rattle.sl_due_leases.proofs.Ways.WayStages.{ReadBehind, again_behind, first_is_first, prior_inside, step_way, way_behind, whole_kept}
use Rattle.sl_due_facts.specs.Facts.WayFacts.{AgainWay, CallWay, Comes, Phase1Way, Phase2Way, StepWay, TakeWay, WayContext, Ways, WritesBlock, WritesLeader, way_context}
use Rattle.sl_host_law.proofs.SharedFacts.RecordsOfKinds.{leader_cases}
use Rattle.sl_host_state.specs.HostStands.{sectors_of}
use Rattle.sl_run.specs.Lawful.{Orderly}
use Rattle.sl_lease.specs.Bounds.{IsInstance}
use Rattle.sl_lease.specs.Steps.{is_first_step}
use Rattle.sl_trace.specs.LeaseDecisions.{first_step, step_of_read}
use Rattle.sl_trace.specs.Leases.{base_turn, block_submitted, ended_ballot, ended_ballots, is_lease_call, is_on, is_second, lease_calls, lver_written, verified_name}
use Rattle.sl_words.proofs.Lists.{contains_cases, contains_more, contains_none, kept_inside}
use Rattle.sl_sector.specs.declared.sector.Block.{Block}
use Rattle.sl_sector.specs.declared.sector.Leader.{Leader}
use Rattle.sl_sector.specs.declared.sector.Owner.{Owner}
use Rattle.sl_sector.specs.Records.{IsLeader, IsRecord}
use Rattle.sl_trace.specs.Sessions.{calls_of, is_call_of, me}
use Rattle.sl_trace.specs.declared.session.Session.{Session}
use Rattle.sl_step_law.proofs.BlocksAreInstances.{block_instance, own_above, written_above}
use Rattle.sl_step_law.proofs.LooksAreOwed.{ended_wrote, more_wrote}
use Rattle.sl_step_law.specs.CallsStand.{is_look}
use Rattle.sl_trace.specs.Traces.{Setting, Submitted, Trace, record_of, submitted}
use Rattle.sl_trace.specs.declared.effects.LeaseRead.TheVariants.{OfArea, OfBlock, OfFree, OfPhase1, OfPhase2}
use Rattle.sl_trace.specs.declared.effects.LeaseRead.{LeaseRead}
use Rattle.sl_trace.specs.declared.effects.LeaseStep.TheVariants.{ClearMode, FreeLeader, Phase1Read, Phase1Write, Phase2Read, Phase2Write, ReadAgain, ReadArea, ReadBeforeBlock, ReadBeforeFree, SetMode, TakeLeader}
use Rattle.sl_trace.specs.declared.effects.LeaseStep.{LeaseStep}
use Rattle.sl_trace.specs.declared.effects.Op.TheVariants.{ReadSectors}
use Rattle.sl_trace.specs.declared.effects.Purpose.TheVariants.{Lease}
use Rattle.sl_trace.specs.declared.effects.Spot.{Spot}
use Rattle.sl_trace.specs.declared.effects.Work.{Work}
use Rattle.sl_words.proofs.CaseLaws.{none_some, true_is_false}
use Rattle.std.proofs.Common.{ap, inl, inr, refl, subst, sym, ◌∙◌}
use Rattle.std.specs.Prelude.{Contains, List, None, Option, Some, false, is_some, true, [], ℕ, ◌&&◌, ◌+◌, ◌∷◌, ◌≡◌, ◌≤◌, ◌⊎◌}

-- ---- a call with those before it

pub record WayOf (w : WayContext) (ms : List Submitted) (d : Submitted) : Type 0 where
  pub rest : List Submitted
  pub way : CallWay w d rest
  pub ways : Ways w rest
  pub inside : (e : Submitted) → Contains rest e → Contains ms e
  pub wrote : is_some (block_submitted (d ∷ rest)) ≡ true → is_some (block_submitted ms) ≡ true

pub way_of : (w : WayContext) (ms : List Submitted) → Ways w ms → (d : Submitted) → Contains ms d → WayOf w ms d
way_of w [] h d there = absurd (contains_none d there)
way_of w (m ∷ ms) h d there = by (contains_cases m ms d there) (way_of w ms h.1 d) where
  by : (m ≡ d) ⊎ Contains ms d → (Contains ms d → WayOf w ms d) → WayOf w (m ∷ ms) d
  by (inl is) before = subst (λ z. WayOf w (m ∷ ms) z) is (record { rest = ms; way = h.0; ways = h.1; inside = λ e in_rest. contains_more m ms e in_rest; wrote = λ some. some })
  by (inr more) before = (let z = before more in record { rest = z.rest; way = z.way; ways = z.ways; inside = λ e in_rest. contains_more m ms e (z.inside e in_rest); wrote = λ some. more_wrote m ms (z.wrote some) })

-- A ballot that ended did so in an instance.
ended_above : (w : WayContext) (ms : List Submitted) → Ways w ms → (n : ℕ) (o : Owner) → Contains (ended_ballots w.layout ms) (n, o) → 1 ≤ n
ended_above w [] h n o there = absurd (contains_none (n, o) there)
ended_above w (m ∷ ms) h n o there = by (ended_ballot w.layout m ms) refl there (ended_above w ms h.1 n o) where
  by : (e : Option (ℕ × Owner)) → ended_ballot w.layout m ms ≡ e → Contains (elim e as (λ x. List (ℕ × Owner)) [ None ↦ ended_ballots w.layout ms | Some p ↦ p ∷ ended_ballots w.layout ms ]) (n, o)
      → (Contains (ended_ballots w.layout ms) (n, o) → 1 ≤ n) → 1 ≤ n
  by None is inside before = before inside
  by (Some p) is inside before = elim (contains_cases p (ended_ballots w.layout ms) (n, o) inside) [
    | inl same ↦ (let e : EndsBy w.layout m ms n o = ends_by w.layout m ms n o (is ∙ ap (λ z. Some z) same) in subst (λ k. 1 ≤ k) e.lver (own_above w ms h.1 e.own e.known))
    | inr rest ↦ before rest
  ]

-- That of the read before, where a leader is taken.
taken_ended : (w : WayContext) (work : Work) (at : ℕ) (d : Submitted) (ms : List Submitted) → (h : TakeWay w work at d.call ms) → Contains (ended_ballots w.layout ms) (h.leader.lver, w.self)
taken_ended w work at d ms h =
    subst (λ zs. Contains (ended_ballots w.layout zs) (h.leader.lver, w.self)) (sym h.after.before) (ended_here w.layout h.after.prior h.after.rest (h.leader.lver, w.self) h.won)

-- ---- what it writes

not_read : {P : Type 0} (d : Submitted) (n : ℕ) → sectors_of d.call.op ≡ None → d.call.op ≡ ReadSectors n → P
not_read d n none op = absurd (none_some n (sym none ∙ ap sectors_of op))

module _ (st : Setting) (t : Trace) (s : Session) (at : Spot) (order : Orderly st t) (ways : Ways (way_context st t s) (lease_calls st t s at)) (d : Submitted) (there : Contains (lease_calls st t s at) d) where
  of_block : (ms : List Submitted) (b : Block) → WritesBlock (way_context st t s) ms d.call b → IsInstance (lver_written d)
  of_block ms b op =
      subst IsInstance (sym (block_lver st.layout (base_turn st.layout (me t s).id ms + 1) s.lockspace (verified_name st.layout s.lockspace ms) d b op))
      (block_instance st t s at d b order ways there (block_is (way_context st t s) ms d b op)).0

  inside : Contains (submitted t) d
  inside =
      (kept_inside (is_call_of s) (submitted t) d (kept_inside (λ (z : Submitted). is_lease_call z && is_on st.layout at z.call) (calls_of t s) d there).0).0

  of_leader : (l : Leader) → WritesLeader (way_context st t s) d.call l → 1 ≤ l.lver → IsInstance (lver_written d)
  of_leader l op some =
      subst IsInstance (sym (lver_is (way_context st t s) d l op))
      (some, (leader_cases (λ r. IsRecord r → IsLeader l) st.layout l (λ good. good) (λ good. good) (spelled_of st t d (leader_record st.layout l) order inside (ap record_of op))).lver)

  by_step : (z : WayOf (way_context st t s) (lease_calls st t s at) d) (work : Work) (step : LeaseStep) → StepWay (way_context st t s) work d.at d.call z.rest step → sectors_of d.call.op ≡ None → IsInstance (lver_written d)
  by_step z work (ReadArea name) h none = not_read d _ none h
  by_step z work ReadBeforeFree h none = not_read d _ none h.reads
  by_step z work ReadBeforeBlock h none = not_read d _ none h.reads
  by_step z work (ReadAgain read) h none = not_read d _ none h.reads
  by_step z work Phase1Write h none = of_block z.rest h.own h.wrote
  by_step z work Phase1Read h none = not_read d _ none h.reads
  by_step z work Phase2Write h none = of_block z.rest _ h.wrote
  by_step z work Phase2Read h none = not_read d _ none h.reads
  by_step z work TakeLeader h none = of_leader h.leader h.wrote (ended_above (way_context st t s) z.rest z.ways h.leader.lver (way_context st t s).self (taken_ended (way_context st t s) work d.at d z.rest h))
  by_step z work SetMode h none = of_block z.rest _ h.wrote
  by_step z work FreeLeader h none = of_leader h.leader h.wrote (ended_above (way_context st t s) z.rest z.ways h.leader.lver (way_context st t s).self h.won)
  by_step z work ClearMode h none = of_block z.rest _ h.wrote

  -- A write is of an instance.
  pub write_instance : (work : Work) (step : LeaseStep) → d.call.purpose ≡ Lease work step → sectors_of d.call.op ≡ None → IsInstance (lver_written d)
  write_instance work step is none =
      let z = way_of (way_context st t s) (lease_calls st t s at) ways d there in
      by_step z work step (step_way (way_context st t s) d z.rest work step z.way is) none

-- ---- what is behind it

own_wrote : (w : WayContext) (d : Submitted) (b : Block) (rest : List Submitted) → WritesBlock w rest d.call b → is_some (block_submitted (d ∷ rest)) ≡ true
own_wrote w d b rest op = ap (λ o. is_some (elim o as (λ z. Option Block) [ Some y ↦ Some y | None ↦ block_submitted rest ])) (block_is w rest d b op)

-- The call before wrote a block.
prior_wrote : (w : WayContext) (ms : List Submitted) (work : Work) (step : LeaseStep) → Ways w ms → (c : Comes work step ms) (b : Block) → WritesBlock w c.rest c.prior.call b → is_some (block_submitted ms) ≡ true
prior_wrote w ms work step h c b op = (written_above w ms h c.prior b (prior_inside ms work step c) (block_is w c.rest c.prior b op)).1

-- Behind a call that is made once.
behind_once : (w : WayContext) (work : Work) (d : Submitted) (ms : List Submitted) → Ways w ms → (step : LeaseStep) → StepWay w work d.at d.call ms step → is_second step ≡ false → is_first_step step ≡ false
    → is_look step ≡ false → is_some (block_submitted (d ∷ ms)) ≡ true
behind_once w work d ms ways (ReadArea name) h once later other = absurd (true_is_false later)
behind_once w work d ms ways ReadBeforeFree h once later other = absurd (true_is_false other)
behind_once w work d ms ways ReadBeforeBlock h once later other = absurd (true_is_false other)
behind_once w work d ms ways (ReadAgain read) h once later other = absurd (true_is_false once)
behind_once w work d ms ways Phase1Write h once later other = own_wrote w d h.own ms h.wrote
behind_once w work d ms ways Phase1Read h once later other =
    let p : Phase1Way w h.after.prior.call h.after.rest = way_behind w ms work Phase1Write h.after ways in more_wrote d ms (prior_wrote w ms work Phase1Write ways h.after p.own p.wrote)
behind_once w work d ms ways Phase2Write h once later other = own_wrote w d _ ms h.wrote
behind_once w work d ms ways Phase2Read h once later other =
    let p : Phase2Way w work h.after.prior.call h.after.rest = way_behind w ms work Phase2Write h.after ways in more_wrote d ms (prior_wrote w ms work Phase2Write ways h.after _ p.wrote)
behind_once w work d ms ways TakeLeader h once later other = more_wrote d ms (ended_wrote w.layout ms h.leader.lver w.self (taken_ended w work d.at d ms h))
behind_once w work d ms ways SetMode h once later other = own_wrote w d _ ms h.wrote
behind_once w work d ms ways FreeLeader h once later other = more_wrote d ms (ended_wrote w.layout ms h.leader.lver w.self h.won)
behind_once w work d ms ways ClearMode h once later other = own_wrote w d _ ms h.wrote

-- Behind a read that is made once more: behind the first one.
behind_again : (w : WayContext) (work : Work) (d : Submitted) (ms : List Submitted) (read : LeaseRead) → Ways w ms → AgainWay w work d.at d.call ms read → is_first_step (step_of_read read) ≡ false
    → is_look (step_of_read read) ≡ false → is_some (block_submitted (d ∷ ms)) ≡ true
behind_again w work d ms read ways h later other =
    let b = again_behind w work read d ms h ways in
    whole_kept w work (step_of_read read) d ms b (λ xs. is_some (block_submitted xs) ≡ true) (λ m xs n reads some. more_wrote m xs some) (before b) where
      before : (b : ReadBehind w work (step_of_read read) d ms) → is_some (block_submitted b.older) ≡ true
      before b = ap (λ o. is_some o) (sym (submitted_passed b.first b.older (read_writes_no_block b.first b.sectors b.reads.0)))
          ∙ behind_once w work b.first b.older b.ways (step_of_read read) b.way (first_is_first read) later other

behind_step : (w : WayContext) (work : Work) (d : Submitted) (ms : List Submitted) → Ways w ms → (step : LeaseStep) → StepWay w work d.at d.call ms step → is_first_step step ≡ false
    → is_look (first_step step) ≡ false → is_some (block_submitted (d ∷ ms)) ≡ true
behind_step w work d ms ways (ReadAgain (OfArea name)) h later other = absurd (true_is_false later)
behind_step w work d ms ways (ReadAgain OfFree) h later other = absurd (true_is_false other)
behind_step w work d ms ways (ReadAgain OfBlock) h later other = absurd (true_is_false other)
behind_step w work d ms ways (ReadAgain OfPhase1) h later other = behind_again w work d ms OfPhase1 ways h later other
behind_step w work d ms ways (ReadAgain OfPhase2) h later other = behind_again w work d ms OfPhase2 ways h later other
behind_step w work d ms ways step h later other = behind_once w work d ms ways step h refl later other

pub call_wrote : (w : WayContext) (ms : List Submitted) (work : Work) (step : LeaseStep) (d : Submitted) → Ways w ms → Contains ms d → d.call.purpose ≡ Lease work step → is_first_step step ≡ false
    → is_look (first_step step) ≡ false → is_some (block_submitted ms) ≡ true
call_wrote w ms work step d ways there is later other =
    let z = way_of w ms ways d there in z.wrote (behind_step w work d z.rest z.ways step (step_way w d z.rest work step z.way is) later other)
