-- The state after what a lease decided stands for the step with it.
use Rattle.sl_host_law.proofs.Answers.DecisionsAreCarried.{called, layout_is}
use Rattle.sl_host_law.specs.Answers.LeaseDecisions.{BeginsArea, LeasesAreCarried, MayAnswer, MayWork, block_at, converted, converting, converting_for, for_command_of, for_work_of, granting_for, read_from, reading, record_at, sectors_read, starting, turn_next, writing_block, writing_leader}
use Rattle.sl_area.specs.AreaSizes.{Layout}
use Rattle.sl_area.specs.AreaLayout.{area_sectors, block_offset, block_sectors, leader_offset, pair_offset}
use Rattle.sl_area.specs.AreaRecords.{leader_record}
use Rattle.sl_host_law.proofs.Calls.StartsAreTaken.{starts_are_taken}
use Rattle.sl_due.specs.CarriedLease.{carry_lease, convert_for, convert_holding, for_work, grant_for, grant_of, held_otherwise, name_on, next_turn, read_area, read_blocks, read_for, start_for, with_command, write_block, write_leader}
use Rattle.sl_due.specs.Steps.{Step, add_call_of, add_end, add_grant, add_reply, seen, with_some}
use Rattle.sl_host_state.proofs.EffectsAreTaken.{effects_are_taken}
use Rattle.sl_host_state.specs.KeptState.{Config, HostState, MemberState}
use Rattle.sl_host_state.specs.MadeEffects.{has_write_open, member_answered, member_replying, with_end, with_grant, with_reply}
use Rattle.sl_host_state.specs.HostStands.{Stands, is_joining}
use Rattle.sl_trace.specs.Jobs.{process_named}
use Rattle.sl_trace.specs.declared.lease.LeaseNext.TheVariants.{AnswerJob, BecomeExclusive, BecomeShared, GrantJob, Nothing, ReadFor, WriteBlock, WriteLeader}
use Rattle.sl_host_law.proofs.Questions.JobsAnswer.{jobs_answer}
use Rattle.sl_host_law.proofs.Questions.MembersAnswer.{members_answer}
use Rattle.sl_host_law.specs.Questions.Jobs.{command_in, running_in}
use Rattle.sl_host_law.specs.Questions.Members.{IsMemberAt, otherwise_at}
use Rattle.sl_host_law.proofs.Replies.RepliesAreTaken.RepliesKeepHosts.{replies_are_taken}
use Rattle.sl_host_law.specs.Replies.RepliesAreTaken.{LeavesLine, MayReply}
use Rattle.sl_sector.specs.declared.sector.Block.{Block}
use Rattle.sl_sector.specs.SectorLayouts.{is_first_turn}
use Rattle.sl_sector.specs.declared.sector.Leader.{Leader}
use Rattle.sl_sector.specs.declared.sector.Rec.TheVariants.{BlockIs, PairIs}
use Rattle.sl_sector.specs.declared.sector.Rec.{Rec}
use Rattle.sl_trace.specs.declared.session.Session.{Session}
use Rattle.sl_trace.specs.Traces.{end_of, first_child, next_child, work_job}
use Rattle.sl_trace.specs.declared.command.Command.TheVariants.{Acquire, RunProgram, TakeOver}
use Rattle.sl_trace.specs.declared.command.Command.{Command}
use Rattle.sl_trace.specs.declared.command.ResourceArg.{ResourceArg}
use Rattle.sl_trace.specs.declared.effects.End.{End}
use Rattle.sl_trace.specs.declared.effects.Grant.{Grant}
use Rattle.sl_trace.specs.declared.effects.LeaseStep.TheVariants.{ClearMode, FreeLeader, ReadAgain, ReadArea, ReadBeforeFree}
use Rattle.sl_trace.specs.declared.effects.LeaseStep.{LeaseStep}
use Rattle.sl_trace.specs.declared.effects.Mode.TheVariants.{Exclusive, Shared}
use Rattle.sl_trace.specs.declared.effects.Mode.{Mode}
use Rattle.sl_trace.specs.declared.effects.Op.TheVariants.{ReadSectors, WriteRecord}
use Rattle.sl_trace.specs.declared.effects.Purpose.TheVariants.{Lease}
use Rattle.sl_trace.specs.declared.effects.Spot.{Spot}
use Rattle.sl_trace.specs.declared.effects.Work.TheVariants.{Settling}
use Rattle.sl_trace.specs.declared.effects.Work.{Work}
use Rattle.sl_trace.specs.declared.input.Input.TheVariants.{Answer as Told, Exit, Line, Number, Spawned, Wake}
use Rattle.sl_trace.specs.declared.input.Input.{Input}
use Rattle.sl_trace.specs.declared.reply.Reply.TheVariants.{Granted}
use Rattle.sl_trace.specs.declared.reply.Reply.{Reply}
use Rattle.sl_host_law.proofs.Answers.BlocksAreWritten.{WritesTheSame, writes_as_before, writes_the_same}
use Rattle.sl_host_law.proofs.SharedFacts.MembersAreSessions.{numbers_are_apart}
use Rattle.sl_host_law.proofs.SharedFacts.PlainLists.{at_some, in_flat, one_there}
use Rattle.sl_words.proofs.Lists.{contains_cases, contains_none, got_inside}
use Rattle.sl_trace.specs.Sessions.{is_join_done}
use Rattle.sl_host_law.specs.Steps.Leases.{lease_at}
use Rattle.sl_trace.specs.declared.effects.LeaseRead.TheVariants.{OfArea, OfBlock, OfFree, OfPhase1, OfPhase2}
use Rattle.sl_words.specs.Words.{some_is}
use Rattle.std.proofs.Common.{ap, inl, inr, refl, subst, sym, ◌∙◌}
use Rattle.std.specs.Prelude.{Bool, Contains, List, None, Option, Some, cond, false, flat_map, slice_get, true, [], ℕ, ◌%◌, ◌&&◌, ◌+◌, ◌-◌, ◌==◌, ◌∷◌, ◌≡◌}

-- ---- calls

read : (i : Input) (h : HostState) (x : Step) (s : Session) (at : Spot) (work : Work) (step : LeaseStep) → Stands i h x → MayWork h s at work step (read_from h at step) (ReadSectors (sectors_read h step))
    → Stands i (reading s at work step h) (read_for s at work step x)
read i h x s at work step stands may =
    subst (λ y. Stands i (reading s at work step h) y) (by step)
    (called i h x s at.path (Lease work step) (read_from h at step) (ReadSectors (sectors_read h step)) stands may) where
      same : h.config.layout ≡ x.setting.layout
      same = layout_is i h x stands

      whole : (z : LeaseStep) → add_call_of s.number at.path (Lease work z) at.base (ReadSectors (area_sectors h.config.layout)) x ≡ read_area s at work z x
      whole z = ap (λ (g : Layout). add_call_of s.number at.path (Lease work z) at.base (ReadSectors (area_sectors g)) x) same

      blocks : (z : LeaseStep) → add_call_of s.number at.path (Lease work z) (block_offset h.config.layout at.base 1) (ReadSectors (block_sectors h.config.layout)) x ≡ read_blocks s at work z x
      blocks z = ap (λ (g : Layout). add_call_of s.number at.path (Lease work z) (block_offset g at.base 1) (ReadSectors (block_sectors g)) x) same

      by : (z : LeaseStep) → add_call_of s.number at.path (Lease work z) (read_from h at z) (ReadSectors (sectors_read h z)) x ≡ read_for s at work z x
      by (ReadArea name) = whole (ReadArea name)
      by ReadBeforeFree = whole ReadBeforeFree
      by (ReadAgain (OfArea name)) = whole (ReadAgain (OfArea name))
      by (ReadAgain OfFree) = whole (ReadAgain OfFree)
      by (ReadAgain OfBlock) = blocks (ReadAgain OfBlock)
      by (ReadAgain OfPhase1) = blocks (ReadAgain OfPhase1)
      by (ReadAgain OfPhase2) = blocks (ReadAgain OfPhase2)
      by z = blocks z

wrote_block : (i : Input) (h : HostState) (x : Step) (m : MemberState) (at : Spot) (work : Work) (step : LeaseStep) (b : Block) → Stands i h x → (h.config.layout.paired ≡ true → WritesTheSame m x at)
    → MayWork h m.who at work step (block_at h m at) (WriteRecord (record_at h m at b)) → Stands i (writing_block m at work step b h) (write_block m.who at work step b x)
wrote_block i h x m at work step b stands same may =
    subst (λ (g : Layout). Stands i (writing_block m at work step b h) (put g (next_turn x.setting (seen x) m.who at) (name_on x.setting (seen x) m.who at))) (layout_is i h x stands)
    (subst (λ y. Stands i (writing_block m at work step b h) y) (by h.config.layout.paired refl)
    (called i h x m.who at.path (Lease work step) (block_at h m at) (WriteRecord (record_at h m at b)) stands may)) where
      -- The write, by whether the block has a pair of sectors, its turn and the resource's name.
      put_by : Layout → Bool → ℕ → List ℕ → Step
      put_by g q turn name =
          add_call_of m.who.number at.path (Lease work step)
          (elim q as (λ z. ℕ) [ false ↦ block_offset g at.base m.who.id | true ↦ pair_offset g at.base m.who.id (is_first_turn turn) ])
          (WriteRecord (elim q as (λ z. Rec) [ false ↦ BlockIs b | true ↦ PairIs (record { block = b; turn = turn; lockspace = m.who.lockspace; resource = name }) ])) x

      put : Layout → ℕ → List ℕ → Step
      put g turn name = put_by g g.paired turn name

      by : (q : Bool) → h.config.layout.paired ≡ q
          → put h.config.layout (turn_next m at) (lease_at m at).name ≡ put h.config.layout (next_turn x.setting (seen x) m.who at) (name_on x.setting (seen x) m.who at)
      by true is =
          ap (λ turn. put h.config.layout turn (lease_at m at).name) (sym (same is).turn) ∙ ap (put h.config.layout (next_turn x.setting (seen x) m.who at)) (sym (same is).name)
      by false is =
          ap (λ q. put_by h.config.layout q (turn_next m at) (lease_at m at).name) is
          ∙ sym (ap (λ q. put_by h.config.layout q (next_turn x.setting (seen x) m.who at) (name_on x.setting (seen x) m.who at)) is)

wrote_leader : (i : Input) (h : HostState) (x : Step) (s : Session) (at : Spot) (work : Work) (step : LeaseStep) (l : Leader) → Stands i h x
    → MayWork h s at work step (leader_offset at.base) (WriteRecord (leader_record h.config.layout l)) → Stands i (writing_leader s at work step l h) (write_leader s at work step l x)
wrote_leader i h x s at work step l stands may =
    subst (λ (g : Layout). Stands i (writing_leader s at work step l h) (add_call_of s.number at.path (Lease work step) (leader_offset at.base) (WriteRecord (leader_record g l)) x)) (layout_is i h x stands)
    (called i h x s at.path (Lease work step) (leader_offset at.base) (WriteRecord (leader_record h.config.layout l)) stands may)

-- ---- replies after a grant or an end

granted_line : (i : Input) (g : Grant) (h : HostState) (j : ℕ) → LeavesLine i j h → LeavesLine i j (with_grant g h)
granted_line (Line text) g h j line = line
granted_line (Number text) g h j line = tt
granted_line (Told number a) g h j line = tt
granted_line (Exit p) g h j line = tt
granted_line (Spawned p ok) g h j line = tt
granted_line Wake g h j line = tt

ended_line : (i : Input) (e : End) (h : HostState) (j : ℕ) → LeavesLine i j h → LeavesLine i j (with_end e h)
ended_line (Line text) e h j line = line
ended_line (Number text) e h j line = tt
ended_line (Told number a) e h j line = tt
ended_line (Exit p) e h j line = tt
ended_line (Spawned p ok) e h j line = tt
ended_line Wake e h j line = tt

granted : (i : Input) (h : HostState) (x : Step) (g : Grant) (j : ℕ) (lver : ℕ) → Stands i h x → MayReply i h x j (Granted lver)
    → Stands i (with_reply j (Granted lver) (with_grant g h)) (add_reply j (Granted lver) (add_grant g x))
granted i h x g j lver s may =
    replies_are_taken j (Granted lver) i (with_grant g h) (add_grant g x) (effects_are_taken.grant g h i x s)
    (record { runs = may.runs; heed = may.heed; line = granted_line i g h j may.line })

started : (i : Input) (h : HostState) (x : Step) (s : Session) (j : ℕ) (r : ResourceArg) (path : List ℕ) (mode : Mode) (lver : ℕ) → Stands i h x → running_in h j ≡ true
    → Stands i (starting s j r path mode lver h) (start_for s j r path mode lver (next_child (seen x)) x)
started i h x s j r path mode lver stands runs =
    subst (λ n. Stands i (starting s j r path mode lver h) (start_for s j r path mode lver (first_child + n) x)) (sym stands.keeps.started)
    (starts_are_taken (with_grant (grant_of s r (first_child + h.started) mode lver false) h) (record { process = first_child + h.started; program = path; job = Some j; stands_for = None })
    (record { number = refl; job = runs }) i (add_grant (grant_of s r (first_child + h.started) mode lver false) x)
    (effects_are_taken.grant (grant_of s r (first_child + h.started) mode lver false) h i x stands))

granted_for : (i : Input) (h : HostState) (x : Step) (s : Session) (j : ℕ) (c : Command) (mode : Mode) (lver : ℕ) → Stands i h x → MayReply i h x j (Granted lver)
    → Stands i (granting_for s j c mode lver h) (grant_for s j c mode lver x)
granted_for i h x s j (Acquire r shared p persistent) mode lver stands may = granted i h x (grant_of s r p mode lver persistent) j lver stands may
granted_for i h x s j (TakeOver r shared p persistent) mode lver stands may = granted i h x (grant_of s r p mode lver persistent) j lver stands may
granted_for i h x s j (RunProgram r shared path) mode lver stands may = started i h x s j r path mode lver stands may.runs
granted_for i h x s j c mode lver stands may = stands

converted_one : (i : Input) (h : HostState) (x : Step) (g : Grant) (j : ℕ) (mode : Mode) (lver : ℕ) → Stands i h x → MayReply i h x j (Granted lver) → h.made.grants ≡ []
    → Stands i (converting j mode lver g h) (convert_holding j mode lver g x)
converted_one i h x g j mode lver s may none =
    replies_are_taken j (Granted lver) i (with_grant (record g { mode = mode; lver = lver }) (with_end (end_of g) h)) (add_grant (record g { mode = mode; lver = lver }) (add_end (end_of g) x))
    (effects_are_taken.grant (record g { mode = mode; lver = lver }) (with_end (end_of g) h) i (add_end (end_of g) x) (effects_are_taken.ended (end_of g) h none i x s))
    (record { runs = may.runs; heed = may.heed; line = granted_line i (record g { mode = mode; lver = lver }) (with_end (end_of g) h) j (ended_line i (end_of g) h j may.line) })

-- ---- for a job and its command

module _ (i : Input) (h : HostState) (x : Step) (stands : Stands i h x) where
  for_its_work : (work : Work) (f : ℕ → HostState → HostState) (g : ℕ → Step → Step) → ((j : ℕ) → work_job work ≡ Some j → Stands i (f j h) (g j x)) → Stands i (for_work_of work f h) (for_work work g x)
  for_its_work work f g each = by (work_job work) refl where
    by : (o : Option ℕ) → work_job work ≡ o → Stands i (elim o as (λ z. HostState) [ None ↦ h | Some j ↦ f j h ]) (with_some o g x)
    by None is = stands
    by (Some j) is = each j is

  for_its_command : (j : ℕ) (f : Command → HostState → HostState) (g : Command → Step → Step) → running_in h j ≡ true → ((c : Command) → Stands i (f c h) (g c x)) → Stands i (for_command_of j f h) (with_command j g x)
  for_its_command j f g runs each =
      subst (λ o. Stands i (for_command_of j f h) (with_some o g x)) (sym ((jobs_answer i h x stands).command j runs)) (by (command_in h j)) where
        by : (o : Option Command) → Stands i (elim o as (λ z. HostState) [ None ↦ h | Some c ↦ f c h ]) (with_some o g x)
        by None = stands
        by (Some c) = each c

  conversion : (k : ℕ) (m : MemberState) (at : Spot) (j : ℕ) (c : Command) (mode : Mode) (lver : ℕ) → IsMemberAt i h x k m → MayReply i h x j (Granted lver) → h.made.grants ≡ []
      → Stands i (converting_for m at j c mode lver h) (convert_for m.who at j c mode lver x)
  conversion k m at j c mode lver member may none = by (process_named c) where
    of_holding : (p : ℕ) (o : Option Grant) → Stands i (elim o as (λ z. HostState) [ None ↦ h | Some g ↦ converting j mode lver g h ]) (with_some o (convert_holding j mode lver) x)
    of_holding p None = stands
    of_holding p (Some g) = converted_one i h x g j mode lver stands may none

    by : (o : Option ℕ)
        → Stands i (elim o as (λ z. HostState) [ None ↦ h | Some p ↦ elim (otherwise_at h m at p mode) as (λ z. HostState) [ None ↦ h | Some g ↦ converting j mode lver g h ] ])
        (with_some o (λ p y. with_some (held_otherwise (seen y) m.who at p mode) (convert_holding j mode lver) y) x)
    by None = stands
    by (Some p) =
        subst (λ o. Stands i (elim (otherwise_at h m at p mode) as (λ z. HostState) [ None ↦ h | Some g ↦ converting j mode lver g h ]) (with_some o (convert_holding j mode lver) x))
        (sym ((members_answer i h x k m member).otherwise at p mode)) (of_holding p (otherwise_at h m at p mode))

  converts : (k : ℕ) (m : MemberState) (at : Spot) (work : Work) (mode : Mode) (lver : ℕ) → IsMemberAt i h x k m → MayAnswer i h x work (Granted lver) → h.made.grants ≡ []
      → Stands i (converted m at work mode lver h) (for_work work (λ j. with_command j (λ c. convert_for m.who at j c mode lver)) x)
  converts k m at work mode lver member may none =
      for_its_work work (λ j. for_command_of j (λ c. converting_for m at j c mode lver)) (λ j. with_command j (λ c. convert_for m.who at j c mode lver))
      (λ j is. for_its_command j (λ c. converting_for m at j c mode lver) (λ c. convert_for m.who at j c mode lver) (may j is).runs (λ c. conversion k m at j c mode lver member (may j is) none))

-- ---- a member after a conversion

-- The member was there before, with the same leases.
record WasLeased (h : HostState) (q : MemberState) : Type 0 where
  old : MemberState
  there : Contains h.members old
  who : old.who ≡ q.who
  leases : old.leases ≡ q.leases

after_reply : (h : HostState) (job : ℕ) (r : Reply) (q : MemberState) → Contains (flat_map (member_replying h job r) h.members) q → WasLeased h q
after_reply h job r q there = (let x = in_flat (member_replying h job r) h.members q there in by x.0 (is_joining x.0 && some_is (λ j. j == job) x.0.who.job) x.1 x.2) where
  alone : (z y : MemberState) → Contains h.members z → Contains (y ∷ []) q → z.who ≡ y.who → z.leases ≡ y.leases → WasLeased h q
  alone z y inside at who leases =
      elim (contains_cases y [] q at) [
        | inl is ↦ record { old = z; there = inside; who = who ∙ ap (λ (u : MemberState). u.who) is; leases = leases ∙ ap (λ (u : MemberState). u.leases) is }
        | inr none ↦ absurd (contains_none q none)
      ]

  answered : (z : MemberState) (b c : Bool) → Contains h.members z → Contains (cond b (record z { joined = true } ∷ []) (cond c (record z { refused = true } ∷ []) [])) q → WasLeased h q
  answered z true c inside at = alone z (record z { joined = true }) inside at refl refl
  answered z false true inside at = alone z (record z { refused = true }) inside at refl refl
  answered z false false inside at = absurd (contains_none q at)

  by : (z : MemberState) (b : Bool) → Contains h.members z → Contains (cond b (member_answered h r z) (z ∷ [])) q → WasLeased h q
  by z true inside at = answered z (is_join_done r) (has_write_open h z.who.number) inside at
  by z false inside at = alone z z inside at refl refl

-- The same configuration, and members that were there before.
record IsLike (h g : HostState) : Type 0 where
  config : g.config ≡ h.config
  from : (q : MemberState) → Contains g.members q → WasLeased h q

after_converting : (h : HostState) (m : MemberState) (at : Spot) (work : Work) (mode : Mode) (lver : ℕ) → IsLike h (converted m at work mode lver h)
after_converting h m at work mode lver = by_job (work_job work) where
  itself : IsLike h h
  itself = record { config = refl; from = λ q there. record { old = q; there = there; who = refl; leases = refl } }

  replied : (j : ℕ) (g : Grant) → IsLike h (converting j mode lver g h)
  replied j g =
      record {
        config = refl;
        from = λ q there.
            (let was = after_reply (with_grant (record g { mode = mode; lver = lver }) (with_end (end_of g) h)) j (Granted lver) q there in
            record { old = was.old; there = was.there; who = was.who; leases = was.leases });
      }

  by_grant : (j : ℕ) (o : Option Grant) → IsLike h (elim o as (λ z. HostState) [ None ↦ h | Some g ↦ converting j mode lver g h ])
  by_grant j None = itself
  by_grant j (Some g) = replied j g

  by_process : (j : ℕ) (o : Option ℕ) → IsLike h (elim o as (λ z. HostState) [ None ↦ h | Some p ↦ elim (otherwise_at h m at p mode) as (λ z. HostState) [ None ↦ h | Some g ↦ converting j mode lver g h ] ])
  by_process j None = itself
  by_process j (Some p) = by_grant j (otherwise_at h m at p mode)

  by_command : (j : ℕ) (o : Option Command) → IsLike h (elim o as (λ z. HostState) [ None ↦ h | Some c ↦ converting_for m at j c mode lver h ])
  by_command j None = itself
  by_command j (Some c) = by_process j (process_named c)

  by_job : (o : Option ℕ) → IsLike h (elim o as (λ z. HostState) [ None ↦ h | Some j ↦ for_command_of j (λ c. converting_for m at j c mode lver) h ])
  by_job None = itself
  by_job (Some j) = by_command j (command_in h j)

-- So its next block is the one that it would have written.
still_writes : (i : Input) (h : HostState) (x y : Step) (k : ℕ) (m : MemberState) (at : Spot) (work : Work) (mode : Mode) (lver : ℕ) (place : ℕ) (q : MemberState) → IsMemberAt i h x k m → BeginsArea h at
    → Stands i (converted m at work mode lver h) y → slice_get (converted m at work mode lver h).members place ≡ Some q → q.who ≡ m.who → (converted m at work mode lver h).config.layout.paired ≡ true
    → WritesTheSame m y at
still_writes i h x y k m at work mode lver place q member begins stands there who paired =
    let g : HostState = converted m at work mode lver h in
    let like = after_converting h m at work mode lver in
    let was = like.from q (got_inside g.members place q there) in
    let old = at_some h.members was.old was.there in
    let number : m.who.number ≡ was.old.who.number = ap (λ (s : Session). s.number) (sym who ∙ sym was.who) in
    let same : k ≡ old.0 = numbers_are_apart h x.setting (seen x) k old.0 m was.old member.stands.keeps member.there old.1 number in
    let itself : m ≡ was.old = one_there h.members old.0 m was.old (subst (λ n. slice_get h.members n ≡ Some m) same member.there) old.1 in
    writes_as_before m q y at who (sym was.leases ∙ ap (λ (z : MemberState). z.leases) (sym itself))
    (writes_the_same i g y place q (record { stands = stands; there = there }) at (subst (λ (c : Config). at.base - at.base % c.layout.area ≡ at.base) (sym like.config) (begins (subst (λ (c : Config). c.layout.paired ≡ true) like.config paired))))

pub leases_are_carried : LeasesAreCarried
unfolding carry_lease
leases_are_carried i h x k m at work Nothing member may = member.stands
leases_are_carried i h x k m at work (ReadFor step) member may = read i h x m.who at work step member.stands may
leases_are_carried i h x k m at work (WriteBlock step b) member may = wrote_block i h x m at work step b member.stands (λ paired. writes_the_same i h x k m member at (may.1 paired)) may.0
leases_are_carried i h x k m at work (WriteLeader step l) member may = wrote_leader i h x m.who at work step l member.stands may
leases_are_carried i h x k m at work (AnswerJob r) member may =
    for_its_work i h x member.stands work (λ j. with_reply j r) (λ j. add_reply j r) (λ j is. replies_are_taken j r i h x member.stands (may j is))
leases_are_carried i h x k m at work (GrantJob mode lver) member may =
    for_its_work i h x member.stands work (λ j. for_command_of j (λ c. granting_for m.who j c mode lver)) (λ j. with_command j (λ c. grant_for m.who j c mode lver))
    (λ j is. for_its_command i h x member.stands j (λ c. granting_for m.who j c mode lver) (λ c. grant_for m.who j c mode lver) (may j is).runs (λ c. granted_for i h x m.who j c mode lver member.stands (may j is)))
leases_are_carried i h x k m at work (BecomeShared lver l) member may =
    wrote_leader i (converted m at work Shared lver h) (for_work work (λ j. with_command j (λ c. convert_for m.who at j c Shared lver)) x) m.who at Settling FreeLeader l
    (converts i h x member.stands k m at work Shared lver member may.0 may.1) may.2
leases_are_carried i h x k m at work (BecomeExclusive lver b) member may =
    let y : Step = for_work work (λ j. with_command j (λ c. convert_for m.who at j c Exclusive lver)) x in
    let stands : Stands i (converted m at work Exclusive lver h) y = converts i h x member.stands k m at work Exclusive lver member may.0 may.1 in
    wrote_block i (converted m at work Exclusive lver h) y m at Settling ClearMode b stands
    (still_writes i h x y k m at work Exclusive lver may.2.place may.2.member member may.3 stands may.2.there may.2.its) may.2
