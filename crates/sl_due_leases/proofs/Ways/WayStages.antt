-- What stands behind each step of a ballot, by the ways of the calls before it.
use Rattle.sl_due_facts.specs.Facts.WayFacts.{AgainWay, CallWay, Comes, ComesBy, IsWrittenBy, Phase1ReadWay, Phase1Way, Phase2ReadWay, Phase2Way, PurposeWay, StepWay, WayContext, Ways, sectors_of_read}
use Rattle.sl_due_leases.proofs.Ways.NewestCall.{block_is, block_is_no_leader, freed_passed, last_here, last_passed, last_write_of, read_writes_no_block, read_writes_no_leader, submitted_here, submitted_passed}
use Rattle.sl_words.proofs.Lists.{contains_first, contains_more}
use Rattle.sl_sector.specs.declared.sector.Block.{Block}
use Rattle.sl_trace.specs.Ballots.{ballot_blocks, moded_block, phase2_block}
use Rattle.sl_trace.specs.LeaseDecisions.{first_step, read_of_step, step_of_read}
use Rattle.sl_trace.specs.Leases.{StepKind, block_submitted, freed, is_again, is_at, is_second, kind_of_read, kind_of_step, lease_step, same_kind}
use Rattle.sl_trace.specs.Traces.{Submitted}
use Rattle.sl_trace.specs.declared.effects.Call.{Call}
use Rattle.sl_trace.specs.declared.effects.LeaseRead.TheVariants.{OfArea, OfBlock, OfFree, OfPhase1, OfPhase2}
use Rattle.sl_trace.specs.declared.effects.LeaseRead.{LeaseRead}
use Rattle.sl_trace.specs.declared.effects.LeaseStep.TheVariants.{ClearMode, FreeLeader, Phase1Read, Phase1Write, Phase2Read, Phase2Write, ReadAgain, ReadArea, ReadBeforeBlock, ReadBeforeFree, SetMode, TakeLeader}
use Rattle.sl_trace.specs.declared.effects.LeaseStep.{LeaseStep}
use Rattle.sl_trace.specs.declared.effects.Op.TheVariants.{ReadSectors}
use Rattle.sl_trace.specs.declared.effects.Purpose.TheVariants.{Lease}
use Rattle.sl_trace.specs.declared.effects.Purpose.{Purpose}
use Rattle.sl_trace.specs.declared.effects.Work.{Work}
use Rattle.sl_words.proofs.CaseLaws.{false_is_true, none_some, one_value, some_value}
use Rattle.sl_words.specs.Words.{first_of_list, some_is}
use Rattle.std.proofs.Common.{ap, arith, inl, inr, refl, subst, sym, ◌∙◌}
use Rattle.std.specs.Prelude.{Bool, Contains, IsTrue, List, Some, false, true, ℕ, ◌<◌, ◌∷◌, ◌≡◌, ◌≤◌, ◌⊎◌}

-- ---- the ways of calls before

-- The way of a call, by its step.
pub step_way : (w : WayContext) (m : Submitted) (ms : List Submitted) (work : Work) (step : LeaseStep) → CallWay w m ms → m.call.purpose ≡ Lease work step → StepWay w work m.at m.call ms step
step_way w m ms work step h is = subst (λ p. PurposeWay w m.at m.call ms p) is h.way

pub ways_behind : (w : WayContext) (ms : List Submitted) (work : Work) (step : LeaseStep) → (c : Comes work step ms) → Ways w ms → CallWay w c.prior c.rest × Ways w c.rest
ways_behind w ms work step c h = subst (λ xs. Ways w xs) c.before h

pub way_behind : (w : WayContext) (ms : List Submitted) (work : Work) (step : LeaseStep) → (c : Comes work step ms) → Ways w ms → StepWay w work c.prior.at c.prior.call c.rest step
way_behind w ms work step c h = step_way w c.prior c.rest work step (ways_behind w ms work step c h).0 c.its

pub rest_behind : (w : WayContext) (ms : List Submitted) (work : Work) (step : LeaseStep) → (c : Comes work step ms) → Ways w ms → Ways w c.rest
rest_behind w ms work step c h = (ways_behind w ms work step c h).1

-- Whether a call with this purpose is at a step of this kind.
abbrev pub is_at_in : StepKind → Purpose → Bool
is_at_in kind p = some_is (λ q. same_kind (kind_of_step q.1) kind) (lease_step p)

pub prior_at : (kind : StepKind) (ms : List Submitted) (work : Work) (step : LeaseStep) → (c : Comes work step ms) → same_kind (kind_of_step step) kind ≡ true → is_at kind c.prior ≡ true
prior_at kind ms work step c is = ap (λ p. is_at_in kind p) c.its ∙ is

-- A call at such a step is no read that is made once more.
pub is_first : (m : Submitted) (work : Work) (step : LeaseStep) → m.call.purpose ≡ Lease work step → is_second step ≡ false → is_again m ≡ false
is_first m work step is first = ap (λ p. some_is (λ q. is_second q.1) (lease_step p)) is ∙ first

pub prior_inside : (ms : List Submitted) (work : Work) (step : LeaseStep) → (c : Comes work step ms) → Contains ms c.prior
prior_inside ms work step c = subst (λ xs. Contains xs c.prior) (sym c.before) (contains_first c.prior c.rest)

pub rest_inside : (ms : List Submitted) (work : Work) (step : LeaseStep) → (c : Comes work step ms) → (d : Submitted) → Contains c.rest d → Contains ms d
rest_inside ms work step c d there = subst (λ xs. Contains xs d) (sym c.before) (contains_more c.prior c.rest d there)

-- ---- reads, made once or once more

-- A step that may be read once more is that read's first.
pub read_step : (made : LeaseStep) (read : LeaseRead) → read_of_step made ≡ Some read → made ≡ step_of_read read
read_step (ReadArea name) read is = ap (λ r. step_of_read r) (some_value (OfArea name) read is)
read_step ReadBeforeFree read is = ap (λ r. step_of_read r) (some_value OfFree read is)
read_step ReadBeforeBlock read is = ap (λ r. step_of_read r) (some_value OfBlock read is)
read_step Phase1Read read is = ap (λ r. step_of_read r) (some_value OfPhase1 read is)
read_step Phase2Read read is = ap (λ r. step_of_read r) (some_value OfPhase2 read is)
read_step (ReadAgain again) read is = absurd (none_some read is)
read_step Phase1Write read is = absurd (none_some read is)
read_step Phase2Write read is = absurd (none_some read is)
read_step TakeLeader read is = absurd (none_some read is)
read_step SetMode read is = absurd (none_some read is)
read_step FreeLeader read is = absurd (none_some read is)
read_step ClearMode read is = absurd (none_some read is)

-- The kind of a read that is made once more is that of the first one.
pub kind_again : (read : LeaseRead) → kind_of_step (step_of_read read) ≡ kind_of_read read
kind_again (OfArea name) = refl
kind_again OfFree = refl
kind_again OfBlock = refl
kind_again OfPhase1 = refl
kind_again OfPhase2 = refl

pub first_kind : (step : LeaseStep) → kind_of_step (first_step step) ≡ kind_of_step step
first_kind (ReadAgain read) = kind_again read
first_kind step = refl

pub first_is_first : (read : LeaseRead) → is_second (step_of_read read) ≡ false
first_is_first (OfArea name) = refl
first_is_first OfFree = refl
first_is_first OfBlock = refl
first_is_first OfPhase1 = refl
first_is_first OfPhase2 = refl

-- What a first read reads.
pub first_reads : (w : WayContext) (work : Work) (at : ℕ) (c : Call) (ms : List Submitted) (read : LeaseRead) → StepWay w work at c ms (step_of_read read) → c.op ≡ ReadSectors (sectors_of_read w.layout read)
first_reads w work at c ms (OfArea name) h = h
first_reads w work at c ms OfFree h = h.reads
first_reads w work at c ms OfBlock h = h.reads
first_reads w work at c ms OfPhase1 h = h.reads
first_reads w work at c ms OfPhase2 h = h.reads

-- What stands behind a read that came before: the call that was made first, and those before it.
pub record ReadBehind (w : WayContext) (work : Work) (step : LeaseStep) (prior : Submitted) (rest : List Submitted) : Type 0 where
  pub first : Submitted
  pub older : List Submitted
  pub its : first.call.purpose ≡ Lease work step
  pub way : StepWay w work first.at first.call older step
  pub call : CallWay w first older
  pub ways : Ways w older
  pub sectors : ℕ
  pub reads : (first.call.op ≡ ReadSectors sectors) × (prior.call.op ≡ ReadSectors sectors)
  pub earlier : first.at ≤ prior.at
  -- it is that call, or the one before it
  pub is : ((prior ≡ first) × (rest ≡ older) × (is_again prior ≡ false)) ⊎ (rest ≡ first ∷ older)

itself_most : (n : ℕ) → n ≤ n
itself_most n = omega arith

between : (a b c : ℕ) → a ≤ b → b ≤ c → a ≤ c
between a b c one two = omega (arith, one, two)

-- The read that a second one follows.
pub again_behind : (w : WayContext) (work : Work) (read : LeaseRead) (prior : Submitted) (rest : List Submitted) → AgainWay w work prior.at prior.call rest read → Ways w rest
    → ReadBehind w work (step_of_read read) prior rest
again_behind w work read prior rest h ws =
    record {
      first = h.after.prior;
      older = h.after.rest;
      its = h.after.its;
      way = way_behind w rest work (step_of_read read) h.after ws;
      call = (ways_behind w rest work (step_of_read read) h.after ws).0;
      ways = rest_behind w rest work (step_of_read read) h.after ws;
      sectors = sectors_of_read w.layout read;
      reads = (first_reads w work h.after.prior.at h.after.prior.call h.after.rest read (way_behind w rest work (step_of_read read) h.after ws), h.reads);
      earlier = between h.after.prior.at h.heeded.answer.at prior.at h.heeded.made h.heeded.by;
      is = inr h.after.before;
    }

once_behind : (w : WayContext) (work : Work) (read : LeaseRead) (step : LeaseStep) (prior : Submitted) (rest : List Submitted) → step ≡ step_of_read read → prior.call.purpose ≡ Lease work step
    → CallWay w prior rest → Ways w rest → ReadBehind w work (step_of_read read) prior rest
once_behind w work read step prior rest same its h ws =
    let way : StepWay w work prior.at prior.call rest (step_of_read read) = subst (λ z. StepWay w work prior.at prior.call rest z) same (step_way w prior rest work step h its) in
    let reads : prior.call.op ≡ ReadSectors (sectors_of_read w.layout read) = first_reads w work prior.at prior.call rest read way in
    record {
      first = prior;
      older = rest;
      its = its ∙ ap (λ z. Lease work z) same;
      way = way;
      call = h;
      ways = ws;
      sectors = sectors_of_read w.layout read;
      reads = (reads, reads);
      earlier = itself_most prior.at;
      is = inl (refl, refl, is_first prior work step its (ap (λ z. is_second z) same ∙ first_is_first read));
    }

-- A call at a read's step, made once or once more.
pub made_behind : (w : WayContext) (work : Work) (read : LeaseRead) (made : LeaseStep) (prior : Submitted) (rest : List Submitted) → first_step made ≡ step_of_read read → prior.call.purpose ≡ Lease work made
    → CallWay w prior rest → Ways w rest → ReadBehind w work (step_of_read read) prior rest
made_behind w work read (ReadAgain first) prior rest same its h ws =
    subst (λ z. ReadBehind w work z prior rest) same (again_behind w work first prior rest (step_way w prior rest work (ReadAgain first) h its) ws)
made_behind w work read (ReadArea name) prior rest same its h ws = once_behind w work read (ReadArea name) prior rest same its h ws
made_behind w work read ReadBeforeFree prior rest same its h ws = once_behind w work read ReadBeforeFree prior rest same its h ws
made_behind w work read ReadBeforeBlock prior rest same its h ws = once_behind w work read ReadBeforeBlock prior rest same its h ws
made_behind w work read Phase1Write prior rest same its h ws = once_behind w work read Phase1Write prior rest same its h ws
made_behind w work read Phase1Read prior rest same its h ws = once_behind w work read Phase1Read prior rest same its h ws
made_behind w work read Phase2Write prior rest same its h ws = once_behind w work read Phase2Write prior rest same its h ws
made_behind w work read Phase2Read prior rest same its h ws = once_behind w work read Phase2Read prior rest same its h ws
made_behind w work read TakeLeader prior rest same its h ws = once_behind w work read TakeLeader prior rest same its h ws
made_behind w work read SetMode prior rest same its h ws = once_behind w work read SetMode prior rest same its h ws
made_behind w work read FreeLeader prior rest same its h ws = once_behind w work read FreeLeader prior rest same its h ws
made_behind w work read ClearMode prior rest same its h ws = once_behind w work read ClearMode prior rest same its h ws

-- What stands behind the newest of the calls, where it is such a read.
pub read_behind : (w : WayContext) (ms : List Submitted) (work : Work) (read : LeaseRead) → (c : ComesBy work (step_of_read read) ms) → Ways w ms → ReadBehind w work (step_of_read read) c.prior c.rest
read_behind w ms work read c h =
    let ws : CallWay w c.prior c.rest × Ways w c.rest = subst (λ xs. Ways w xs) c.before h in
    made_behind w work read c.made c.prior c.rest c.is c.its ws.0 ws.1

pub by_rest : (w : WayContext) (ms : List Submitted) (work : Work) (step : LeaseStep) → (c : ComesBy work step ms) → Ways w ms → Ways w c.rest
by_rest w ms work step c h = let ws : CallWay w c.prior c.rest × Ways w c.rest = subst (λ xs. Ways w xs) c.before h in ws.1

pub by_at : (kind : StepKind) (ms : List Submitted) (work : Work) (step : LeaseStep) → (c : ComesBy work step ms) → same_kind (kind_of_step step) kind ≡ true → is_at kind c.prior ≡ true
by_at kind ms work step c is =
    ap (λ p. is_at_in kind p) c.its ∙ (ap (λ k. same_kind k kind) (sym (first_kind c.made)) ∙ (ap (λ z. same_kind (kind_of_step z) kind) c.is ∙ is))

pub by_inside : (ms : List Submitted) (work : Work) (step : LeaseStep) → (c : ComesBy work step ms) → Contains ms c.prior
by_inside ms work step c = subst (λ xs. Contains xs c.prior) (sym c.before) (contains_first c.prior c.rest)

pub by_rest_inside : (ms : List Submitted) (work : Work) (step : LeaseStep) → (c : ComesBy work step ms) → (d : Submitted) → Contains c.rest d → Contains ms d
by_rest_inside ms work step c d there = subst (λ xs. Contains xs d) (sym c.before) (contains_more c.prior c.rest d there)

-- What a read leaves as it was, it left when it was made first, and when once more: between the calls before it and the newest ones.
pub rest_kept : (w : WayContext) (work : Work) (step : LeaseStep) (prior : Submitted) (rest : List Submitted) → (b : ReadBehind w work step prior rest) → (P : List Submitted → Type 0)
    → ((m : Submitted) (ms : List Submitted) (n : ℕ) → m.call.op ≡ ReadSectors n → P ms → P (m ∷ ms)) → P b.older → P rest
rest_kept w work step prior rest b P keeps h =
    elim b.is [
      | inl once ↦ subst P (sym once.1) h
      | inr twice ↦ subst P (sym twice) (keeps b.first b.older b.sectors b.reads.0 h)
    ]

pub whole_kept : (w : WayContext) (work : Work) (step : LeaseStep) (prior : Submitted) (rest : List Submitted) → (b : ReadBehind w work step prior rest) → (P : List Submitted → Type 0)
    → ((m : Submitted) (ms : List Submitted) (n : ℕ) → m.call.op ≡ ReadSectors n → P ms → P (m ∷ ms)) → P b.older → P (prior ∷ rest)
whole_kept w work step prior rest b P keeps h = keeps prior rest b.sectors b.reads.1 (rest_kept w work step prior rest b P keeps h)

-- Those calls are among the newer ones.
pub older_inside : (w : WayContext) (work : Work) (step : LeaseStep) (prior : Submitted) (rest : List Submitted) → (b : ReadBehind w work step prior rest) → (d : Submitted) → Contains b.older d → Contains rest d
older_inside w work step prior rest b d there = rest_kept w work step prior rest b (λ xs. Contains xs d) (λ m ms n reads inside. contains_more m ms d inside) there

pub first_inside : (w : WayContext) (work : Work) (step : LeaseStep) (prior : Submitted) (rest : List Submitted) → (b : ReadBehind w work step prior rest) → Contains (prior ∷ rest) b.first
first_inside w work step prior rest b =
    elim b.is [
      | inl once ↦ subst (λ z. Contains (prior ∷ rest) z) once.0 (contains_first prior rest)
      | inr twice ↦ contains_more prior rest b.first (subst (λ xs. Contains xs b.first) (sym twice) (contains_first b.first b.older))
    ]

-- The last block, who wrote it, and the greatest free.
pub rest_own : (w : WayContext) (work : Work) (step : LeaseStep) (prior : Submitted) (rest : List Submitted) → (b : ReadBehind w work step prior rest) → block_submitted rest ≡ block_submitted b.older
rest_own w work step prior rest b =
    rest_kept w work step prior rest b (λ xs. block_submitted xs ≡ block_submitted b.older) (λ m ms n reads same. submitted_passed m ms (read_writes_no_block m n reads) ∙ same) refl

pub rest_last : (w : WayContext) (work : Work) (step : LeaseStep) (prior : Submitted) (rest : List Submitted) → (b : ReadBehind w work step prior rest) → last_write_of rest ≡ last_write_of b.older
rest_last w work step prior rest b =
    rest_kept w work step prior rest b (λ xs. last_write_of xs ≡ last_write_of b.older) (λ m ms n reads same. last_passed m ms (read_writes_no_block m n reads) ∙ same) refl

pub rest_freed : (w : WayContext) (work : Work) (step : LeaseStep) (prior : Submitted) (rest : List Submitted) → (b : ReadBehind w work step prior rest) → freed rest ≡ freed b.older
rest_freed w work step prior rest b =
    rest_kept w work step prior rest b (λ xs. freed xs ≡ freed b.older) (λ m ms n reads same. freed_passed m ms (read_writes_no_leader m n reads) ∙ same) refl

-- A call of before the first read was made was before the second, too.
pub written_before : (w : WayContext) (work : Work) (step : LeaseStep) (prior : Submitted) (rest : List Submitted) → (b : ReadBehind w work step prior rest) → (write : Submitted) → IsWrittenBy write b.first.at
    → IsWrittenBy write prior.at
written_before w work step prior rest b write h =
    record { answer = h.answer; answered = h.answered; made = h.made; by = between h.answer.at b.first.at prior.at h.by b.earlier }

-- The first of two reads is the one of which the way speaks.
pub first_of_two : (w : WayContext) (work : Work) (step : LeaseStep) (prior : Submitted) (rest : List Submitted) → (b : ReadBehind w work step prior rest) → IsTrue (is_again prior) → (first : Submitted)
    → first_of_list rest ≡ Some first → first ≡ b.first
first_of_two w work step prior rest b again first is =
    elim b.is [
      | inl once ↦ absurd (false_is_true (sym once.2 ∙ again))
      | inr twice ↦ one_value first b.first (first_of_list rest) is (ap (λ xs. first_of_list xs) twice)
    ]

-- ---- phase 1

-- What stands behind phase 1's read: its write.
abbrev pub write1 : (w : WayContext) (work : Work) (at : ℕ) (c : Call) (ms : List Submitted) → Ways w ms → (h : Phase1ReadWay w work at c ms) → Phase1Way w h.after.prior.call h.after.rest
write1 w work at c ms ws h = way_behind w ms work Phase1Write h.after ws

pub asked1_own : (w : WayContext) (work : Work) (at : ℕ) (c : Call) (ms : List Submitted) → (ws : Ways w ms) → (h : Phase1ReadWay w work at c ms) → block_submitted ms ≡ Some (write1 w work at c ms ws h).own
asked1_own w work at c ms ws h =
    let b = write1 w work at c ms ws h in
    ap (λ xs. block_submitted xs) h.after.before ∙ submitted_here h.after.prior h.after.rest b.own (block_is w h.after.rest h.after.prior b.own b.wrote)

pub asked1_last : (w : WayContext) (work : Work) (at : ℕ) (c : Call) (ms : List Submitted) → Ways w ms → (h : Phase1ReadWay w work at c ms) → last_write_of ms ≡ Some h.after.prior
asked1_last w work at c ms ws h =
    let b = write1 w work at c ms ws h in
    ap (λ xs. last_write_of xs) h.after.before ∙ last_here h.after.prior h.after.rest b.own (block_is w h.after.rest h.after.prior b.own b.wrote)

pub asked1_freed : (w : WayContext) (work : Work) (at : ℕ) (c : Call) (ms : List Submitted) → (ws : Ways w ms) → (h : Phase1ReadWay w work at c ms) → freed ms < (write1 w work at c ms ws h).own.lver
asked1_freed w work at c ms ws h =
    let b : Phase1Way w h.after.prior.call h.after.rest = write1 w work at c ms ws h in
    let same : freed ms ≡ freed h.after.rest = ap (λ xs. freed xs) h.after.before ∙ freed_passed h.after.prior h.after.rest (block_is_no_leader w h.after.rest h.after.prior b.own b.wrote) in
    let fresh : freed h.after.rest < b.own.lver = b.fresh in omega (arith, same, fresh)

-- ---- phase 2

-- What stands behind phase 2's write: phase 1's read and its write.
abbrev pub read1 : (w : WayContext) (work : Work) (c : Call) (ms : List Submitted) → Ways w ms → (h : Phase2Way w work c ms) → ReadBehind w work Phase1Read h.after.prior h.after.rest
read1 w work c ms ws h = read_behind w ms work OfPhase1 h.after ws

-- That read's way.
abbrev pub asked1 : (w : WayContext) (work : Work) (c : Call) (ms : List Submitted) → (ws : Ways w ms) → (h : Phase2Way w work c ms)
    → Phase1ReadWay w work (read1 w work c ms ws h).first.at (read1 w work c ms ws h).first.call (read1 w work c ms ws h).older
asked1 w work c ms ws h = (read1 w work c ms ws h).way

-- Phase 1's write.
abbrev pub begun1 : (w : WayContext) (work : Work) (c : Call) (ms : List Submitted) → (ws : Ways w ms) → (h : Phase2Way w work c ms)
    → Phase1Way w (asked1 w work c ms ws h).after.prior.call (asked1 w work c ms ws h).after.rest
begun1 w work c ms ws h =
    write1 w work (read1 w work c ms ws h).first.at (read1 w work c ms ws h).first.call (read1 w work c ms ws h).older (read1 w work c ms ws h).ways (asked1 w work c ms ws h)

pub begun1_own : (w : WayContext) (work : Work) (c : Call) (ms : List Submitted) → (ws : Ways w ms) → (h : Phase2Way w work c ms) → (begun1 w work c ms ws h).own ≡ h.own
begun1_own w work c ms ws h =
    let r : ReadBehind w work Phase1Read h.after.prior h.after.rest = read1 w work c ms ws h in
    one_value (begun1 w work c ms ws h).own h.own (block_submitted h.after.rest)
    (rest_own w work Phase1Read h.after.prior h.after.rest r ∙ asked1_own w work r.first.at r.first.call r.older r.ways (asked1 w work c ms ws h)) h.known

pub clear_own : (w : WayContext) (work : Work) (c : Call) (ms : List Submitted) → (ws : Ways w ms) → (h : Phase2Way w work c ms) → block_submitted ms ≡ Some h.own
clear_own w work c ms ws h =
    let r : ReadBehind w work Phase1Read h.after.prior h.after.rest = read1 w work c ms ws h in
    ap (λ xs. block_submitted xs) h.after.before ∙ submitted_passed h.after.prior h.after.rest (read_writes_no_block h.after.prior r.sectors r.reads.1) ∙ h.known

pub clear_last : (w : WayContext) (work : Work) (c : Call) (ms : List Submitted) → (ws : Ways w ms) → (h : Phase2Way w work c ms) → last_write_of ms ≡ Some (asked1 w work c ms ws h).after.prior
clear_last w work c ms ws h =
    let r : ReadBehind w work Phase1Read h.after.prior h.after.rest = read1 w work c ms ws h in
    ap (λ xs. last_write_of xs) h.after.before
    ∙ last_passed h.after.prior h.after.rest (read_writes_no_block h.after.prior r.sectors r.reads.1)
    ∙ rest_last w work Phase1Read h.after.prior h.after.rest r
    ∙ asked1_last w work r.first.at r.first.call r.older r.ways (asked1 w work c ms ws h)

pub clear_freed : (w : WayContext) (work : Work) (c : Call) (ms : List Submitted) → (ws : Ways w ms) → (h : Phase2Way w work c ms) → freed ms < h.own.lver
clear_freed w work c ms ws h =
    let r : ReadBehind w work Phase1Read h.after.prior h.after.rest = read1 w work c ms ws h in
    let same : freed ms ≡ freed r.older =
    ap (λ xs. freed xs) h.after.before ∙ freed_passed h.after.prior h.after.rest (read_writes_no_leader h.after.prior r.sectors r.reads.1)
    ∙ rest_freed w work Phase1Read h.after.prior h.after.rest r
    in
    let fresh : freed r.older < (begun1 w work c ms ws h).own.lver = asked1_freed w work r.first.at r.first.call r.older r.ways (asked1 w work c ms ws h) in
    subst (λ (b : Block). freed ms < b.lver) (begun1_own w work c ms ws h) (subst (λ n. n < (begun1 w work c ms ws h).own.lver) (sym same) fresh)

-- The block of phase 2.
abbrev pub proposed : (w : WayContext) (work : Work) (c : Call) (ms : List Submitted) → Phase2Way w work c ms → Block
proposed w work c ms h = moded_block (phase2_block w.self h.own (ballot_blocks h.own h.blocks)) h.shared h.mode_gen

pub proposed_lver : (w : WayContext) (work : Work) (c : Call) (ms : List Submitted) → (h : Phase2Way w work c ms) → (proposed w work c ms h).lver ≡ h.own.lver
unfolding phase2_block
proposed_lver w work c ms h = refl

pub proposed_mbal : (w : WayContext) (work : Work) (c : Call) (ms : List Submitted) → (h : Phase2Way w work c ms) → (proposed w work c ms h).mbal ≡ h.own.mbal
unfolding phase2_block
proposed_mbal w work c ms h = refl

-- What stands behind phase 2's read: its write.
abbrev pub write2 : (w : WayContext) (work : Work) (at : ℕ) (c : Call) (ms : List Submitted) → Ways w ms → (h : Phase2ReadWay w work at c ms) → Phase2Way w work h.after.prior.call h.after.rest
write2 w work at c ms ws h = way_behind w ms work Phase2Write h.after ws

abbrev pub rest2 : (w : WayContext) (work : Work) (at : ℕ) (c : Call) (ms : List Submitted) → Ways w ms → (h : Phase2ReadWay w work at c ms) → Ways w h.after.rest
rest2 w work at c ms ws h = rest_behind w ms work Phase2Write h.after ws

abbrev pub proposed2 : (w : WayContext) (work : Work) (at : ℕ) (c : Call) (ms : List Submitted) → Ways w ms → Phase2ReadWay w work at c ms → Block
proposed2 w work at c ms ws h = proposed w work h.after.prior.call h.after.rest (write2 w work at c ms ws h)

pub asked2_own : (w : WayContext) (work : Work) (at : ℕ) (c : Call) (ms : List Submitted) → (ws : Ways w ms) → (h : Phase2ReadWay w work at c ms) → block_submitted ms ≡ Some (proposed2 w work at c ms ws h)
asked2_own w work at c ms ws h =
    ap (λ xs. block_submitted xs) h.after.before
    ∙ submitted_here h.after.prior h.after.rest (proposed2 w work at c ms ws h) (block_is w h.after.rest h.after.prior (proposed2 w work at c ms ws h) (write2 w work at c ms ws h).wrote)

pub asked2_last : (w : WayContext) (work : Work) (at : ℕ) (c : Call) (ms : List Submitted) → Ways w ms → (h : Phase2ReadWay w work at c ms) → last_write_of ms ≡ Some h.after.prior
asked2_last w work at c ms ws h =
    ap (λ xs. last_write_of xs) h.after.before
    ∙ last_here h.after.prior h.after.rest (proposed2 w work at c ms ws h) (block_is w h.after.rest h.after.prior (proposed2 w work at c ms ws h) (write2 w work at c ms ws h).wrote)

pub asked2_freed : (w : WayContext) (work : Work) (at : ℕ) (c : Call) (ms : List Submitted) → (ws : Ways w ms) → (h : Phase2ReadWay w work at c ms) → freed ms < (proposed2 w work at c ms ws h).lver
asked2_freed w work at c ms ws h =
    let p : Phase2Way w work h.after.prior.call h.after.rest = write2 w work at c ms ws h in
    let same : freed ms ≡ freed h.after.rest =
    ap (λ xs. freed xs) h.after.before ∙ freed_passed h.after.prior h.after.rest (block_is_no_leader w h.after.rest h.after.prior (proposed2 w work at c ms ws h) p.wrote)
    in
    let fresh : freed h.after.rest < p.own.lver = clear_freed w work h.after.prior.call h.after.rest (rest2 w work at c ms ws h) p in
    let under : (proposed2 w work at c ms ws h).lver ≡ p.own.lver = proposed_lver w work h.after.prior.call h.after.rest p in
    omega (arith, same, fresh, under)
