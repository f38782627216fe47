-- What phase 2 and its read rest on, as it stands now.
use Rattle.sl_run.specs.Lawful.{Orderly}
use Rattle.sl_run.specs.LawfulBlock.{LawfulBlockStep, LawfulBlockWrite, LawfulPhase2, LawfulPhase2Read}
use Rattle.sl_run.specs.LawForms.{cut_at}
use Rattle.sl_run_law.proofs.Leases.AgeLaws.{BecameAmong, BecameLast, after_stays, aged_lease, among, became_among, became_last, block_stays, blocks_stay, first_stays, kind_stays, writes}
use Rattle.sl_run_law.proofs.Leases.FrontLaws.{each_was_submitted, lawful_there}
use Rattle.sl_run_law.specs.Leases.CallFronts.{AllAged, LawfulSubmission, Submission}
use Rattle.sl_run_law.specs.Leases.LeaseLaws.{BlocksHaveFronts, Phase2Follows, Phase2IsRead}
use Rattle.sl_run_law.specs.Leases.Ways.{BlockFront, Phase2ReadRests, Phase2Rests, lease_among}
use Rattle.sl_trace.specs.Leases.{Phase1_read, Phase1_write, Phase2_read, Phase2_write, block_written, is_at, kind_of_step, lease_calls, lease_step, same_kind, spot_of_call}
use Rattle.sl_sector.specs.declared.sector.Block.{Block}
use Rattle.sl_trace.specs.Sessions.{session_numbered}
use Rattle.sl_trace.specs.declared.session.Session.{Session}
use Rattle.sl_trace.specs.Traces.{Setting, Submitted, Trace, new_call, submitted}
use Rattle.sl_trace.specs.declared.effects.Call.{Call}
use Rattle.sl_trace.specs.declared.effects.LeaseStep.TheVariants.{ClearMode, FreeLeader, Phase1Read, Phase1Write, Phase2Read, Phase2Write, ReadAgain, ReadArea, ReadBeforeBlock, ReadBeforeFree, SetMode, TakeLeader}
use Rattle.sl_trace.specs.declared.effects.LeaseStep.{LeaseStep}
use Rattle.sl_trace.specs.declared.effects.Spot.{Spot}
use Rattle.sl_trace.specs.declared.effects.Work.{Work}
use Rattle.sl_words.proofs.CaseLaws.{false_is_true, one_value}
use Rattle.sl_words.specs.Words.{some_is}
use Rattle.std.proofs.Common.{ap, refl, subst, sym, ◌∙◌}
use Rattle.std.specs.Prelude.{List, None, Option, Some, length, true, ℕ, ◌+◌, ◌∷◌, ◌≡◌}

-- ---- the block of phase 2

kind_here : (c : Submitted) (p : Work × LeaseStep) → lease_step c.call.purpose ≡ Some p → is_at Phase2_write c ≡ true → same_kind (kind_of_step p.1) Phase2_write ≡ true
kind_here c p is at = sym (ap (λ o. some_is (λ q. same_kind (kind_of_step q.1) Phase2_write) o) is) ∙ at

two_step : (st : Setting) (t : Trace) (s : Session) (at : Spot) (c : Submitted) (b : Block) (step : LeaseStep) → same_kind (kind_of_step step) Phase2_write ≡ true
    → LawfulBlockStep st t s at c b step → LawfulPhase2 st t s at c b
two_step st t s at c b Phase2Write kind h = h
two_step st t s at c b Phase1Write kind h = absurd (false_is_true kind)
two_step st t s at c b SetMode kind h = absurd (false_is_true kind)
two_step st t s at c b ClearMode kind h = absurd (false_is_true kind)
two_step st t s at c b (ReadArea name) kind h = absurd h
two_step st t s at c b ReadBeforeFree kind h = absurd h
two_step st t s at c b ReadBeforeBlock kind h = absurd h
two_step st t s at c b (ReadAgain read) kind h = absurd h
two_step st t s at c b Phase1Read kind h = absurd h
two_step st t s at c b Phase2Read kind h = absurd h
two_step st t s at c b TakeLeader kind h = absurd h
two_step st t s at c b FreeLeader kind h = absurd h

two_write : (st : Setting) (t : Trace) (s : Session) (c : Submitted) (b : Block) → is_at Phase2_write c ≡ true → (o : Option (Work × LeaseStep)) → lease_step c.call.purpose ≡ o
    → elim o as (λ x. Type 0) [ None ↦ ⊥ | Some p ↦ LawfulBlockStep st t s (spot_of_call st.layout c) c b p.1 ] → LawfulPhase2 st t s (spot_of_call st.layout c) c b
two_write st t s c b at None is h = absurd h
two_write st t s c b at (Some p) is h = two_step st t s (spot_of_call st.layout c) c b p.1 (kind_here c p is at) h

abbrev place : Setting → Call → Spot
place st c = spot_of_call st.layout (new_call 0 0 c)

rests : (st : Setting) (es : Trace) (s : Session) (at : Spot) (older : List Submitted) (c : Submitted) (b : Block) → (h : Submission es c older)
    → LawfulPhase2 st (cut_at h.place h.entry ∷ h.past) s at (new_call (length h.past) h.entry.reading h.call) b → Phase2Rests st es s at older c b
rests st es s at older c b h two =
    let t : Trace = cut_at h.place h.entry ∷ h.past in
    let n : ℕ = length h.past + 1 in
    let aged : AllAged n (lease_calls st t s at) (lease_among st s at older) = aged_lease st s at n (submitted t) older h.before in
    let w : BecameLast n (lease_among st s at older) two.write = became_last n (lease_calls st t s at) (lease_among st s at older) two.write aged two.last in
    let r : BecameAmong n (lease_among st s at older) two.read two.before =
    became_among n two.after two.before two.read (lease_among st s at older) (subst (λ xs. AllAged n xs (lease_among st s at older)) two.split aged) in
    record {
      submission = h;
      own = two.own;
      write = w.now;
      read = r.now;
      blocks = two.blocks;
      last = w.last;
      wrote = (block_stays n two.write w.now two.own w.aged two.wrote.0, kind_stays Phase1_write n two.write w.now w.aged two.wrote.1);
      of_lease = (
        among n (lease_among st s at older) two.read two.before r,
        kind_stays Phase1_read n two.read r.now r.aged two.of_lease.1,
      );
      newer = r.newer;
      before = r.before;
      split = r.split;
      ordered = after_stays n 0 two.write two.read w.now r.now w.aged r.aged.at two.ordered;
      first_ordered = first_stays n two.write two.read w.now r.now two.before r.before w.aged r.aged r.rest two.first_ordered;
      given = blocks_stay st.layout n two.read r.now two.before r.before two.blocks r.aged r.rest two.given;
      clear = two.clear;
      written = two.written;
    }

follows : (st : Setting) (es : Trace) → Orderly st es → (older : List Submitted) (c : Submitted) (b : Block) → LawfulSubmission st es c older
    → block_written c ≡ Some b → is_at Phase2_write c ≡ true → (s : Session) → session_numbered st es c.call.session ≡ Some s → Phase2Rests st es s (place st c.call) older c b
follows st es law older c b l wrote at s numbered =
    let h : Submission es c older = l.submission in
    let t : Trace = cut_at h.place h.entry ∷ h.past in
    let new : Submitted = new_call (length h.past) h.entry.reading h.call in
    let called : c.call ≡ h.call = h.itself.call in
    let itself : l.session ≡ s = one_value l.session s (session_numbered st es c.call.session) l.kept numbered in
    let known : session_numbered st (h.entry ∷ h.past) h.call.session ≡ Some s = l.known ∙ ap (λ x. Some x) itself in
    let lawful : LawfulBlockWrite st t s new b =
    (lawful_there st es law c older h).block.0.writes h.place h.call s h.there known b (ap (λ x. writes x) (sym called) ∙ wrote) in
    let two : LawfulPhase2 st t s (place st h.call) new b =
    two_write st t s new b (ap (λ x. is_at Phase2_write (new_call 0 0 x)) (sym called) ∙ at) (lease_step h.call.purpose) refl lawful in
    subst (λ x. Phase2Rests st es s (place st x) older c b) (sym called) (rests st es s (place st h.call) older c b h two)

pub phase2_follows : Phase2Follows
phase2_follows st es law newer older c b h wrote at s numbered = follows st es law older c b (each_was_submitted st es law newer older c h) wrote at s numbered

-- ---- its read

read_rests : (st : Setting) (es : Trace) (s : Session) (at : Spot) (older : List Submitted) (c : Submitted) → (h : Submission es c older)
    → LawfulPhase2Read st (cut_at h.place h.entry ∷ h.past) s at (new_call (length h.past) h.entry.reading h.call) → Phase2ReadRests st s at older c
read_rests st es s at older c h two =
    let t : Trace = cut_at h.place h.entry ∷ h.past in
    let n : ℕ = length h.past + 1 in
    let aged : AllAged n (lease_calls st t s at) (lease_among st s at older) = aged_lease st s at n (submitted t) older h.before in
    let w : BecameLast n (lease_among st s at older) two.write = became_last n (lease_calls st t s at) (lease_among st s at older) two.write aged two.last in
    record {
      write = w.now;
      last = w.last;
      is_phase2 = kind_stays Phase2_write n two.write w.now w.aged two.is_phase2;
      ordered = after_stays n 0 two.write (new_call (length h.past) h.entry.reading h.call) w.now c w.aged h.itself.at two.ordered;
    }

is_read : (st : Setting) (es : Trace) → Orderly st es → (older : List Submitted) (c : Submitted) → LawfulSubmission st es c older
    → is_at Phase2_read c ≡ true → (s : Session) → session_numbered st es c.call.session ≡ Some s → Phase2ReadRests st s (place st c.call) older c
is_read st es law older c l at s numbered =
    let h : Submission es c older = l.submission in
    let t : Trace = cut_at h.place h.entry ∷ h.past in
    let called : c.call ≡ h.call = h.itself.call in
    let itself : l.session ≡ s = one_value l.session s (session_numbered st es c.call.session) l.kept numbered in
    let known : session_numbered st (h.entry ∷ h.past) h.call.session ≡ Some s = l.known ∙ ap (λ x. Some x) itself in
    let two : LawfulPhase2Read st t s (place st h.call) (new_call (length h.past) h.entry.reading h.call) =
    (lawful_there st es law c older h).block.0.reads h.place h.call s h.there known (ap (λ x. is_at Phase2_read (new_call 0 0 x)) (sym called) ∙ at) in
    subst (λ x. Phase2ReadRests st s (place st x) older c) (sym called) (read_rests st es s (place st h.call) older c h two)

pub phase2_is_read : Phase2IsRead
phase2_is_read st es law newer older c h at s numbered = is_read st es law older c (each_was_submitted st es law newer older c h) at s numbered

-- ---- every block

front_of : (st : Setting) (es : Trace) → Orderly st es → (older : List Submitted) (c : Submitted) (b : Block) → LawfulSubmission st es c older
    → block_written c ≡ Some b → (s : Session) → session_numbered st es c.call.session ≡ Some s → BlockFront st es s older c b
front_of st es law older c b l wrote s numbered =
    let h : Submission es c older = l.submission in
    let itself : l.session ≡ s = one_value l.session s (session_numbered st es c.call.session) l.kept numbered in
    let known : session_numbered st (h.entry ∷ h.past) h.call.session ≡ Some s = l.known ∙ ap (λ x. Some x) itself in
    record {
      submission = h;
      lawful = (lawful_there st es law c older h).block.0.writes h.place h.call s h.there known b (ap (λ x. writes x) (sym h.itself.call) ∙ wrote);
    }

pub blocks_have_fronts : BlocksHaveFronts
blocks_have_fronts st es law newer older c b h wrote s numbered = front_of st es law older c b (each_was_submitted st es law newer older c h) wrote s numbered
