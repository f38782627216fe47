-- Phase 1 of a history, where the session's id is a host's: its number is the host's own, and it goes by the own block.
use Rattle.sl_ballot_law.specs.Ballots.{IsPhase1, KeepsBallot}
use Rattle.sl_ballot_law.specs.History.{History}
use Rattle.sl_ballot_law.specs.Residues.{host_by_remainder}
use Rattle.sl_run.specs.LawfulBlock.{LawfulBlockStep, LawfulPhase1}
use Rattle.sl_run.specs.LawForms.{cut_at}
use Rattle.sl_run_law.specs.Leases.Ways.{ByMode, ByPhase1}
use Rattle.sl_trace.specs.Leases.{Phase1_write, is_at, kind_of_step, last_blocks, lease_calls, lease_step, same_kind, spot_of_call}
use Rattle.sl_safety.proofs.Resources.BlockOrigins.{WrittenAt}
use Rattle.sl_safety.proofs.GivenReads.BlocksNameHosts.{own_host}
use Rattle.sl_safety.proofs.Resources.Bases.{Based}
use Rattle.sl_safety.proofs.Resources.WritesHaveBases.{writer_is}
use Rattle.sl_safety.proofs.Resources.Numbers.{phase1_of_host}
use Rattle.sl_safety.proofs.Resources.OwnBlocks.{front_at, layout_at}
use Rattle.sl_safety.proofs.Resources.Phases.{mode_keeps, own_is_base, phase1_goes}
use Rattle.sl_safety.proofs.Resources.CallParts.{Standing}
use Rattle.sl_safety.specs.Resources.Histories.{is_host}
use Rattle.sl_safety.specs.Resources.HistoryLaws.{history_of_line}
use Rattle.sl_safety.specs.Resources.SentCalls.{Sent, block_of_course}
use Rattle.sl_run.specs.Runs.{Happening}
use Rattle.sl_run.specs.Safety.{LawfulRun, world_at}
use Rattle.sl_run.specs.Worlds.{Program, World}
use Rattle.sl_run.specs.declared.header.Header.{Header}
use Rattle.sl_run.specs.declared.header.ResourceLine.{ResourceLine}
use Rattle.sl_sector.specs.declared.sector.Block.{Block}
use Rattle.sl_trace.specs.Sessions.{me}
use Rattle.sl_trace.specs.declared.session.Session.{Session}
use Rattle.sl_trace.specs.Traces.{Setting, Submitted, Trace, new_call}
use Rattle.sl_trace.specs.declared.effects.LeaseStep.TheVariants.{ClearMode, FreeLeader, Phase1Read, Phase1Write, Phase2Read, Phase2Write, ReadAgain, ReadArea, ReadBeforeBlock, ReadBeforeFree, SetMode, TakeLeader}
use Rattle.sl_trace.specs.declared.effects.LeaseStep.{LeaseStep}
use Rattle.sl_trace.specs.declared.effects.Spot.{Spot}
use Rattle.sl_trace.specs.declared.effects.Work.{Work}
use Rattle.sl_words.proofs.CaseLaws.{false_is_true}
use Rattle.sl_words.proofs.WordLaws.{and_true}
use Rattle.sl_words.specs.Words.{present, some_is}
use Rattle.std.proofs.Common.{ap, refl, subst, sym, ◌∙◌}
use Rattle.std.proofs.lemmas.Bool.{leb-true}
use Rattle.std.specs.Prelude.{Contains, List, None, Option, Some, length, nat_le, true, ℕ, ◌<◌, ◌∷◌, ◌≡◌, ◌≤◌}

-- ---- the law of phase 1 at its front

pub one_step : (st : Setting) (t : Trace) (s : Session) (at : Spot) (c : Submitted) (b : Block) (step : LeaseStep) → same_kind (kind_of_step step) Phase1_write ≡ true
    → LawfulBlockStep st t s at c b step → LawfulPhase1 st t s at c b
one_step st t s at c b Phase1Write kind h = h
one_step st t s at c b Phase2Write kind h = absurd (false_is_true kind)
one_step st t s at c b SetMode kind h = absurd (false_is_true kind)
one_step st t s at c b ClearMode kind h = absurd (false_is_true kind)
one_step st t s at c b (ReadArea name) kind h = absurd h
one_step st t s at c b ReadBeforeFree kind h = absurd h
one_step st t s at c b ReadBeforeBlock kind h = absurd h
one_step st t s at c b (ReadAgain read) kind h = absurd h
one_step st t s at c b Phase1Read kind h = absurd h
one_step st t s at c b Phase2Read kind h = absurd h
one_step st t s at c b TakeLeader kind h = absurd h
one_step st t s at c b FreeLeader kind h = absurd h

pub kind_here : (c : Submitted) (p : Work × LeaseStep) → lease_step c.call.purpose ≡ Some p → is_at Phase1_write c ≡ true → same_kind (kind_of_step p.1) Phase1_write ≡ true
kind_here c p is at = sym (ap (λ o. some_is (λ q. same_kind (kind_of_step q.1) Phase1_write) o) is) ∙ at

pub one_write : (st : Setting) (t : Trace) (s : Session) (c : Submitted) (b : Block) → is_at Phase1_write c ≡ true → (o : Option (Work × LeaseStep)) → lease_step c.call.purpose ≡ o
    → elim o as (λ x. Type 0) [ None ↦ ⊥ | Some p ↦ LawfulBlockStep st t s (spot_of_call st.layout c) c b p.1 ] → LawfulPhase1 st t s (spot_of_call st.layout c) c b
one_write st t s c b at None is h = absurd h
one_write st t s c b at (Some p) is h = one_step st t s (spot_of_call st.layout c) c b p.1 (kind_here c p is at) h

-- The number of a phase 1 is its host's.
pub phase1_number : (w : World) (x : Sent) (s : Standing w x) (b : Block) → block_of_course x.course ≡ Some b → is_at Phase1_write s.told.one ≡ true → 0 < s.session.id
    → s.session.id ≤ s.daemon.setting.layout.hosts → host_by_remainder s.daemon.setting.layout.hosts b.mbal ≡ s.session.id
phase1_number w x s b is at pos le =
    let f = front_at w x s b is in
    let st : Setting = s.daemon.setting in
    let h = f.submission in
    let t : Trace = cut_at h.place h.entry ∷ h.past in
    let new : Submitted = new_call (length h.past) h.entry.reading h.call in
    let one : LawfulPhase1 st t s.session (spot_of_call st.layout new) new b =
    one_write st t s.session new b (ap (λ c. is_at Phase1_write (new_call 0 0 c)) (sym h.itself.call) ∙ at) (lease_step h.call.purpose) refl f.lawful in
    ap (λ (y : Block). host_by_remainder st.layout.hosts y.mbal) one.written
    ∙ phase1_of_host (me t s.session) st.layout.hosts b.lver b.shared b.mode_gen one.own (present (last_blocks st.layout (lease_calls st t s.session (spot_of_call st.layout new)))) pos le

-- ---- what a write is, but for phase 2

-- Phase 1, where the write is at that step.
pub phase1_of : (p : Program) (h : Header) (xs : List Happening) → LawfulRun p h xs → (r : ResourceLine) → Contains h.resources r → (e : ℕ) (x : WrittenAt p h xs r e)
    → (s : Standing (world_at p h xs) x.sent) → is_host (world_at p h xs) s.session.id ≡ true → (b : Based p h xs r x.sent s x.block) → is_at Phase1_write b.call ≡ true
    → ByPhase1 s.session b.own x.block → IsPhase1 (history_of_line p h xs r) e
phase1_of p h xs run r there e x s host b at k =
    let w : World = world_at p h xs in
    let H : History = history_of_line p h xs r in
    let bounds = and_true (nat_le 1 s.session.id) (nat_le s.session.id w.layout.hosts) host in
    let layout = layout_at p h xs run x.sent s in
    let number : host_by_remainder w.layout.hosts x.block.mbal ≡ s.session.id =
    ap (λ g. host_by_remainder g.hosts x.block.mbal) (sym layout)
    ∙ phase1_number w x.sent s x.block x.wrote (ap (λ c. is_at Phase1_write (new_call 0 0 c)) (sym b.same) ∙ at) (leb-true 1 s.session.id bounds.0)
    (subst (λ g. s.session.id ≤ g.hosts) (sym layout) (leb-true s.session.id w.layout.hosts bounds.1)) in
    phase1_goes H e s.session.id b.own x.block x.shown (own_is_base p h xs run r there e x s host b) (ap (λ o. o.id) (writer_is p h xs r e x.sent x.is) ∙ own_host w x.sent s) number
    k.instance k.mbal k.bal k.inp k.anew

-- A change of mode, where the write is that.
pub mode_of : (p : Program) (h : Header) (xs : List Happening) → LawfulRun p h xs → (r : ResourceLine) → Contains h.resources r → (e : ℕ) (x : WrittenAt p h xs r e)
    → (s : Standing (world_at p h xs) x.sent) → is_host (world_at p h xs) s.session.id ≡ true → (b : Based p h xs r x.sent s x.block) → ByMode b.own x.block
    → KeepsBallot (history_of_line p h xs r) e
mode_of p h xs run r there e x s host b k = mode_keeps (history_of_line p h xs r) e b.own x.block x.shown (own_is_base p h xs run r there e x s host b) k
