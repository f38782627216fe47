-- Joinings that go on, and renewals, take members and jobs away and add none; so what is known of members, leases and holdings stays.
use Rattle.sl_area.specs.AreaSizes.{Sizes, IsGeometry}
use Rattle.sl_host_law.specs.Answers.CarriedDecisions.{carrying, connecting, own_sector, reading_own, registering, surveying, writing_own}
use Rattle.sl_host_law.specs.Answers.RefusalsFollow.{refusing}
use Rattle.sl_host_law.specs.Answers.WakingsFollow.{joining_by_time}
use Rattle.sl_host_law.specs.StepParts.Ends.{removing, renewing_in}
use Rattle.sl_host_law.specs.StepParts.Wakes.{bits_in, delta_in, next_by_newest}
use Rattle.sl_host_law.specs.Questions.Jobs.{running_in}
use Rattle.sl_host_law.specs.Steps.Leases.{kept_blocks, lease_at}
use Rattle.sl_host_passes.proofs.LessIsLeft.{Lessens, by_call, by_move, by_reply, lease_comes, lease_stays, lessened, lessens_not, lessens_on, lessens_some, lessens_where, member_comes}
use Rattle.sl_host_passes.proofs.PartsLessen.{by_refusing, by_removing}
use Rattle.sl_host_passes.proofs.RunsStay.{same_config, same_reading}
use Rattle.sl_host_passes.specs.PassPremises.{AreKnown, WakeKnown}
use Rattle.sl_host_state.specs.KeptState.{HostState, LeaseState, MemberState}
use Rattle.sl_host_state.specs.MadeEffects.{with_reply}
use Rattle.sl_host_state.specs.HostStands.{top_mbal}
use Rattle.sl_host_work.specs.LeaseQuestions.{IsOwned}
use Rattle.sl_host_work.specs.SectorPlaces.{IsArea, IsPlaced}
use Rattle.sl_host_work.specs.TimedWork.{ArePlaced}
use Rattle.sl_lease.specs.LeaseQuestions.{TopStands}
use Rattle.sl_words.proofs.Lists.{find_inside}
use Rattle.sl_sector.specs.declared.sector.DeltaRec.{DeltaRec}
use Rattle.sl_sector.specs.declared.sector.DeltaState.TheVariants.{Live}
use Rattle.sl_sector.specs.declared.sector.Rec.TheVariants.{DeltaIs}
use Rattle.sl_trace.specs.DeltaDecisions.{delta_record, is_renewal_due}
use Rattle.sl_trace.specs.declared.delta.DeltaNext.TheVariants.{Disconnect, EndLeaving, Join, MoveConnection, Nothing, ReadOwn, RefuseJoin, RegisterAndRead, WriteClaim, WriteFirst, WriteFree, WriteRenewal}
use Rattle.sl_trace.specs.declared.delta.DeltaNext.{DeltaNext}
use Rattle.sl_trace.specs.declared.session.Session.{Session}
use Rattle.sl_time.specs.Times.{fail}
use Rattle.sl_trace.specs.declared.effects.JoinStep.TheVariants.{ClaimWrite, FirstRenewal}
use Rattle.sl_trace.specs.declared.effects.JoinStep.{JoinStep}
use Rattle.sl_trace.specs.declared.effects.Move.TheVariants.{Register, Renew}
use Rattle.sl_trace.specs.declared.effects.Op.TheVariants.{ReadSectors, WriteRecord}
use Rattle.sl_trace.specs.declared.effects.Purpose.TheVariants.{Joining, Leaving, Renewal, Survey}
use Rattle.sl_trace.specs.declared.reply.Reply.TheVariants.{Generation}
use Rattle.sl_host.specs.BookQuestions.{state_in}
use Rattle.sl_host.specs.Host.{Becomes, HostView, SameRun}
use Rattle.sl_words.specs.Bounds.{moments}
use Rattle.sl_words.specs.Words.{is_empty}
use Rattle.std.proofs.Common.{ap, refl, subst, sym, ◌∙◌}
use Rattle.std.specs.Prelude.{Contains, IsTrue, None, Some, cond, is_some, not, ℕ, ◌&&◌, ◌+◌, ◌<◌, ◌==◌, ◌≡◌}

-- ---- what is done on an id's sector

by_reading : (s : Session) (j : ℕ) (step : JoinStep) (h : HostState) → Lessens h (reading_own s (Joining j step) h)
by_reading s j step h = by_call s.number s.path (Joining j step) (own_sector h s) (ReadSectors 1) h refl

by_claiming : (s : Session) (j : ℕ) (step : JoinStep) (d : DeltaRec) (h : HostState) → Lessens h (writing_own s (Joining j step) d h)
by_claiming s j step d h = by_call s.number s.path (Joining j step) (own_sector h s) (WriteRecord (DeltaIs d)) h refl

by_surveying : (s : Session) (h : HostState) → Lessens h (surveying s h)
by_surveying s h = by_call s.number s.path Survey s.offset (ReadSectors h.config.layout.hosts) h refl

for_its_job : (s : Session) (f : ℕ → HostState → HostState) → ((j : ℕ) (h : HostState) → Lessens h (f j h)) → (h : HostState) → Lessens h (elim s.job as (λ z. HostState) [ None ↦ h | Some j ↦ f j h ])
for_its_job s f each h = lessens_some s.job (λ j. f j h) h (λ j is. each j h)

pub by_carrying : (s : Session) (next : DeltaNext) (h : HostState) → Lessens h (carrying s next h)
by_carrying s Nothing h = lessens_not h
by_carrying s (RefuseJoin r) h = for_its_job s (λ j. refusing j r) (λ j g. by_refusing j r g) h
by_carrying s (ReadOwn step) h = for_its_job s (λ j. reading_own s (Joining j step)) (λ j g. by_reading s j step g) h
by_carrying s (RegisterAndRead step) h =
    for_its_job s (λ j g. reading_own s (Joining j step) (registering s g))
    (λ j g. lessens_on g (registering s g) (reading_own s (Joining j step) (registering s g)) (by_move (Register s.lockspace (g.reading + fail g.config.timing)) g) (by_reading s j step (registering s g))) h
by_carrying s (WriteClaim d) h = for_its_job s (λ j. writing_own s (Joining j ClaimWrite) d) (λ j g. by_claiming s j ClaimWrite d g) h
by_carrying s Disconnect h = by_removing s.lockspace h
by_carrying s (WriteFirst d) h = for_its_job s (λ j. writing_own s (Joining j FirstRenewal) d) (λ j g. by_claiming s j FirstRenewal d g) h
by_carrying s (Join generation renewed) h =
    for_its_job s (λ j g. surveying s (with_reply j (Generation generation) (connecting s renewed g)))
    (λ j g. (let a : HostState = connecting s renewed g in
    let b : HostState = with_reply j (Generation generation) a in
    lessens_on g a (surveying s b) (by_move (Renew s.lockspace (renewed + fail g.config.timing)) g) (lessens_on a b (surveying s b) (by_reply j (Generation generation) a) (by_surveying s b)))) h
by_carrying s (MoveConnection renewed) h =
    lessens_on h (connecting s renewed h) (surveying s (connecting s renewed h)) (by_move (Renew s.lockspace (renewed + fail h.config.timing)) h) (by_surveying s (connecting s renewed h))
by_carrying s (WriteRenewal d) h = by_call s.number s.path Renewal (own_sector h s) (WriteRecord (DeltaIs d)) h refl
by_carrying s (WriteFree j d) h = by_call s.number s.path (Leaving j) (own_sector h s) (WriteRecord (DeltaIs d)) h refl
by_carrying s (EndLeaving j r) h =
    lessens_where (running_in h j) h (with_reply j r (removing s.lockspace h)) (removing s.lockspace h)
    (lessens_on h (removing s.lockspace h) (with_reply j r (removing s.lockspace h)) (by_removing s.lockspace h) (by_reply j r (removing s.lockspace h))) (by_removing s.lockspace h)

pub by_joining : (m : MemberState) (h : HostState) → Lessens h (joining_by_time m h)
by_joining m h =
    lessens_some m.who.job (λ j. cond (running_in h j) (carrying m.who (next_by_newest (delta_in h m) h.reading m.joining.newest) h) h) h
    (λ j is. lessens_where (running_in h j) h (carrying m.who (next_by_newest (delta_in h m) h.reading m.joining.newest) h) h
    (by_carrying m.who (next_by_newest (delta_in h m) h.reading m.joining.newest) h) (lessens_not h))

pub by_renewing : (m : MemberState) (h : HostState) → Lessens h (renewing_in m h)
by_renewing m h =
    let d : DeltaRec = delta_record (delta_in h m) Live m.known.generation (m.known.seq + 1) h.reading (bits_in h m) in
    lessens_where (m.joined && is_renewal_due (delta_in h m) h.reading m.known) h (writing_own m.who Renewal d h) h
    (by_call m.who.number m.who.path Renewal (own_sector h m.who) (WriteRecord (DeltaIs d)) h refl) (lessens_not h)

-- ---- what is known stays

-- What is kept of a lease's blocks is so after, where greatest number and spot stay and no ballot opens.
pub top_stays : (o l : LeaseState) → l.top ≡ o.top → ((n : ℕ) → l.ballot ≡ Some n → o.ballot ≡ Some n) → TopStands o (kept_blocks o) → TopStands l (kept_blocks l)
top_stays o l same begun stands =
    record {
      greatest_is = λ t is. ap (λ z. top_mbal t.instance (kept_blocks (record o { top = z }))) same ∙ stands.greatest_is t (sym same ∙ is);
      opened = λ n is. (let found = stands.opened n (begun n is) in (found.0, same ∙ found.1, found.2));
    }

-- So whoever has written a block has verified its name, where own block, name and open ballot stay.
pub owned_stays : (o l : LeaseState) → l.own ≡ o.own → l.name ≡ o.name → l.ballot ≡ o.ballot → IsOwned o → IsOwned l
owned_stays o l own name ballot its =
    record {
      named = λ is. subst (λ n. IsTrue (not (is_empty n))) (sym name) (its.named (sym (ap is_some own) ∙ is));
      opened = λ is. ap is_some own ∙ its.opened (sym (ap is_some ballot) ∙ is);
    }

pub known_less : (z : Sizes) (a b : HostState) → Lessens a b → AreKnown z a.members a.holdings → AreKnown z b.members b.holdings
known_less z a b less known =
    record {
      placed = λ m there. (let from = member_comes a.members b.members less.members m there in subst (IsPlaced z) (sym from.2.who) (known.placed from.0 from.1));
      areas = λ m l there its. (let from = member_comes a.members b.members less.members m there in
          let lease = lease_comes from.0.leases m.leases from.2.leases l its in
          subst (λ s. IsArea z s.base) (sym lease.2.spot) (known.areas from.0 lease.0 from.1 lease.1));
      tops = λ m l there its. (let from = member_comes a.members b.members less.members m there in
          let lease = lease_comes from.0.leases m.leases from.2.leases l its in
          top_stays lease.0 l lease.2.top (λ n is. sym lease.2.ballot ∙ is) (known.tops from.0 lease.0 from.1 lease.1));
      owned = λ m at there. (let from = member_comes a.members b.members less.members m there in
          let lease = lease_stays at from.0.leases m.leases from.2.leases in
          owned_stays (lease_at from.0 at) (lease_at m at) lease.own lease.name lease.ballot (known.owned from.0 at from.1));
      instances = λ g there exclusive. known.instances g (subst (λ gs. Contains gs g) less.holdings there) exclusive;
    }

pub wake_known : (old new : HostView) → SameRun old new → AreKnown old.kept.config.sizes new.kept.members new.kept.holdings → WakeKnown old.kept → WakeKnown new.kept
wake_known old new run each known =
    let config = same_config old new run in
    record {
      now = subst (λ r. r < moments) (sym (same_reading old new run)) known.now;
      geometry = subst (λ c. IsGeometry c.sizes) (sym config) known.geometry;
      each = subst (λ c. AreKnown c.sizes new.kept.members new.kept.holdings) (sym config) each;
    }

pub wake_known_less : (old new : HostView) (f : HostState → HostState) → ((h : HostState) → Lessens h (f h)) → Becomes old new f → SameRun old new → WakeKnown old.kept → WakeKnown new.kept
wake_known_less old new f less comes run known =
    wake_known old new run (known_less old.kept.config.sizes (state_in old.kept) (state_in new.kept) (lessened old new f less comes) known.each) known

pub are_placed : (v : HostView) → WakeKnown v.kept → ArePlaced v.kept
are_placed v known n m found = known.each.placed m (find_inside (λ (s : MemberState). s.who.number == n) v.kept.members m found).0
