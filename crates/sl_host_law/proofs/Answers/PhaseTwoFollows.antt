-- Of all that a lease may decide, only what comes of the first phase's read is the second phase.
use Rattle.sl_host_law.specs.Answers.PhaseTwo.{IsAfterRead, IsOnceFor, PhaseTwoFollows}
use Rattle.sl_area.specs.AreaSizes.{Layout}
use Rattle.sl_area.specs.Pairs.{blocks_of, needs_again, pairs_kept}
use Rattle.sl_area.specs.TornLeader.{leader_read}
use Rattle.sl_area.specs.AreaLayout.{blocks_part}
use Rattle.sl_host_state.specs.HeardInputs.{kept_heard}
use Rattle.sl_trace.specs.Ballots.{ballot_blocks, is_ahead, moded_block, phase1_block, phase2_block, same_owner, stop_of, value_of}
use Rattle.sl_trace.specs.LeaseDecisions.{LeasePlace, after_bytes, after_clearing, after_freeing, after_moding, after_phase1, after_phase2, after_read, after_take, after_write, area_next, asked_again, begin_next, begin_or_refuse, first_step, heard, leader_for, lease_next, looks_for_shared, lost_next, named_area_next, part_read, phase1_next, phase2_next, refuses, refuses_block, settle_next, settle_owed, stop_reply, stopped_next, whole_area_next, within_turn, won_next}
use Rattle.sl_trace.specs.Leases.{LeaseKnown, instance_for, is_leader_of, is_second, mode_gen_of, owed, owed_free, own_known, shared_elsewhere}
use Rattle.sl_trace.specs.declared.lease.Aim.TheVariants.{Acquires, Converts, Releases, Settles}
use Rattle.sl_trace.specs.declared.lease.Aim.{Aim}
use Rattle.sl_trace.specs.declared.lease.Instance.TheVariants.{Begins, HeldAlready}
use Rattle.sl_trace.specs.declared.lease.Instance.{Instance}
use Rattle.sl_trace.specs.declared.lease.LeaseNext.TheVariants.{AnswerJob, BecomeExclusive, BecomeShared, Nothing, ReadFor, WriteBlock, WriteLeader}
use Rattle.sl_trace.specs.declared.lease.LeaseNext.{LeaseNext}
use Rattle.sl_trace.specs.declared.lease.Owed.TheVariants.{BallotOwed, FreeOwed, ModeOwed}
use Rattle.sl_trace.specs.declared.lease.Owed.{Owed}
use Rattle.sl_trace.specs.declared.lease.Stop.TheVariants.{BlockAhead, BlockRival, BlockTorn}
use Rattle.sl_trace.specs.declared.lease.Stop.{Stop}
use Rattle.sl_sector.specs.declared.sector.Block.{Block}
use Rattle.sl_sector.specs.declared.sector.Leader.{Leader}
use Rattle.sl_sector.specs.declared.sector.Owner.{Owner}
use Rattle.sl_sector.specs.declared.sector.PairBlock.{PairBlock}
use Rattle.sl_trace.specs.Traces.{is_before_input}
use Rattle.sl_trace.specs.declared.effects.LeaseRead.TheVariants.{OfArea, OfBlock, OfFree, OfPhase1, OfPhase2}
use Rattle.sl_trace.specs.declared.effects.LeaseRead.{LeaseRead}
use Rattle.sl_trace.specs.declared.effects.LeaseStep.TheVariants.{ClearMode, FreeLeader, Phase1Read, Phase1Write, Phase2Read, Phase2Write, ReadAgain, ReadArea, ReadBeforeBlock, ReadBeforeFree, SetMode, TakeLeader}
use Rattle.sl_trace.specs.declared.effects.LeaseStep.{LeaseStep}
use Rattle.sl_trace.specs.declared.effects.Mode.TheVariants.{Exclusive, Shared}
use Rattle.sl_trace.specs.declared.input.Answer.TheVariants.{Failed, Read, Written}
use Rattle.sl_trace.specs.declared.input.Answer.{Answer}
use Rattle.sl_trace.specs.declared.reply.Limited.TheVariants.{Lver as LverLimit, Mbal as MbalLimit, Turn as TurnLimit}
use Rattle.sl_trace.specs.declared.reply.Reply.TheVariants.{Held as HeldBy, IoFault, Limit as LimitReached, Shared as SharedBy, TornBlock, TornLeader, WrongArea}
use Rattle.sl_trace.specs.declared.reply.Reply.{Reply}
use Rattle.sl_words.specs.Bounds.{is_number}
use Rattle.sl_words.proofs.CaseLaws.{none_some}
use Rattle.sl_words.specs.Words.{choose, present}
use Rattle.std.proofs.Common.{ap, refl, subst, sym, ◌∙◌}
use Rattle.std.specs.Option.{option_map_or}
use Rattle.std.specs.Prelude.{Bool, IsTrue, List, None, Option, Some, false, is_none, is_some, not, position, true, ℕ, ◌&&◌, ◌+◌, ◌||◌, ◌≡◌}

-- What is decided, if it is the second phase, is this of the block; if it is another call, that of its step; if it is a reply, none of
-- before an input; all else is as it may be.
abbrev Only : (Block → Type 0) → (LeaseStep → Type 0) → LeaseNext → Type 0
Only P Q (WriteBlock Phase2Write b) = P b
Only P Q (WriteBlock s b) = Q s
Only P Q (WriteLeader s l) = Q s
Only P Q (ReadFor s) = Q s
Only P Q (AnswerJob r) = is_before_input r ≡ false
Only P Q next = Unit {0}

module _ (P : Block → Type 0) (Q : LeaseStep → Type 0) (once : (s : LeaseStep) → is_second s ≡ false → Q s) (p : LeasePlace) (k : LeaseKnown) where
  refused : (aim : Aim) (r : Reply) → is_before_input r ≡ false → Only P Q (refuses aim r)
  refused (Acquires mode) r late = late
  refused (Converts mode) r late = late
  refused Releases r late = late
  refused Settles r late = tt

  first : (aim : Aim) (b : Block) → Only P Q (phase1_next aim b)
  first aim b = by (is_number b.lver) (is_number b.mbal) where
    by : (u v : Bool) → Only P Q (elim u as (λ z. LeaseNext) [
      | false ↦ refuses aim (LimitReached LverLimit)
      | true ↦ elim v as (λ z. LeaseNext) [ false ↦ refuses aim (LimitReached MbalLimit) | true ↦ WriteBlock Phase1Write b ]
    ])
    by false v = refused aim (LimitReached LverLimit) refl
    by true false = refused aim (LimitReached MbalLimit) refl
    by true true = once Phase1Write refl

  begins : (aim : Aim) (n : ℕ) → Only P Q (begin_next p k aim n)
  unfolding begin_next
  begins aim n = by (own_known k) where
    by : (o : Option Block) → Only P Q (elim o as (λ z. LeaseNext) [ None ↦ Nothing | Some own ↦ phase1_next aim (phase1_block k.self p.layout.hosts n k.shared (mode_gen_of k) own (present k.read)) ])
    by None = tt
    by (Some own) = first aim (phase1_block k.self p.layout.hosts n k.shared (mode_gen_of k) own (present k.read))

  by_own : (f : Block → LeaseNext) → ((b : Block) → Only P Q (f b)) → (o : Option Block) → Only P Q (option_map_or f o Nothing)
  by_own f each None = tt
  by_own f each (Some b) = each b

  by_number : (f : ℕ → LeaseNext) → ((n : ℕ) → Only P Q (f n)) → (o : Option ℕ) → Only P Q (option_map_or f o Nothing)
  by_number f each None = tt
  by_number f each (Some n) = each n

  settles : Only P Q (settle_next p k)
  unfolding settle_next
  settles = by (owed k) where
    by : (o : Option Owed) → Only P Q (settle_owed p k o)
    by None = tt
    by (Some (BallotOwed n)) = begins Settles n
    by (Some ModeOwed) = by_own (λ own. WriteBlock ClearMode (moded_block own false 0)) (λ b. once ClearMode refl) k.own
    by (Some (FreeOwed n)) = once ReadBeforeFree refl

  stop_late : (stop : Stop) → is_before_input (stop_reply stop) ≡ false
  stop_late (BlockTorn host) = refl
  stop_late (BlockAhead host lver) = refl
  stop_late (BlockRival host mbal) = refl

  stops : (aim : Aim) (stop : Stop) → Only P Q (stopped_next p k aim stop)
  stops (Acquires mode) stop = stop_late stop
  stops (Converts mode) stop = stop_late stop
  stops Releases stop = stop_late stop
  stops Settles stop = by (is_ahead stop) where
    by : (b : Bool) → Only P Q (elim b as (λ z. LeaseNext) [ true ↦ settle_next p k | false ↦ Nothing ])
    by true = settles
    by false = tt

  won : (aim : Aim) (n : ℕ) → Only P Q (won_next p k aim n)
  won (Acquires mode) n = once TakeLeader refl
  won (Converts mode) n = once TakeLeader refl
  won Releases n = tt
  won Settles n = once FreeLeader refl

  lost : (aim : Aim) (n : ℕ) (o : Owner) → Only P Q (lost_next p k aim n o)
  lost (Acquires mode) n o = by (k.over o.id o.generation) where
    by : (b : Bool) → Only P Q (elim b as (λ z. LeaseNext) [ true ↦ begin_next p k (Acquires mode) (n + 1) | false ↦ AnswerJob (HeldBy n o) ])
    by true = begins (Acquires mode) (n + 1)
    by false = refl
  lost (Converts mode) n o = by (k.over o.id o.generation) where
    by : (b : Bool) → Only P Q (elim b as (λ z. LeaseNext) [ true ↦ begin_next p k (Converts mode) (n + 1) | false ↦ AnswerJob (HeldBy n o) ])
    by true = begins (Converts mode) (n + 1)
    by false = refl
  lost Releases n o = tt
  lost Settles n o = settles

  second_read : (aim : Aim) (own : Block) (stop : Option Stop) → Only P Q (after_phase2 p k aim own stop)
  second_read aim own None = by (same_owner (value_of own) k.self) where
    by : (b : Bool) → Only P Q (elim b as (λ z. LeaseNext) [ true ↦ won_next p k aim own.lver | false ↦ lost_next p k aim own.lver (value_of own) ])
    by true = won aim own.lver
    by false = lost aim own.lver (value_of own)
  second_read aim own (Some stop) = stops aim stop

  -- The one way.
  first_read : (aim : Aim) (own : Block) (read : List (Option Block)) → ((b : Block) → own.lver ≡ b.lver → P b) → (stop : Option Stop) → Only P Q (after_phase1 p k aim own read stop)
  unfolding phase2_block
  first_read aim own read is None = by (looks_for_shared aim) (shared_elsewhere k read) where
    by : (u : Bool) (o : Option Block) → Only P Q (elim u as (λ z. LeaseNext) [
      | false ↦ phase2_next k own read
      | true ↦ elim o as (λ z. LeaseNext) [ Some b ↦ AnswerJob (SharedBy (record { id = b.host; generation = b.mode_gen })) | None ↦ phase2_next k own read ]
    ])
    by false o = is (moded_block (phase2_block k.self own (ballot_blocks own read)) k.shared (mode_gen_of k)) refl
    by true None = is (moded_block (phase2_block k.self own (ballot_blocks own read)) k.shared (mode_gen_of k)) refl
    by true (Some b) = refl
  first_read aim own read is (Some stop) = stops aim stop

  area : (aim : Aim) (name : List ℕ) (leader : Option Leader) (read : List (Option Block)) → Only P Q (area_next p k aim name leader read)
  unfolding area_next
  area aim name leader read = by_leader leader where
    by_instance : (i : Instance) → Only P Q (begin_or_refuse p k aim i)
    by_instance (Begins n) = begins aim n
    by_instance (HeldAlready lver owner) = refl

    by_torn : (l : Leader) (o : Option ℕ) → Only P Q (elim o as (λ z. LeaseNext) [ Some i ↦ AnswerJob (TornBlock (i + 1)) | None ↦ whole_area_next p k aim l read ])
    by_torn l (Some i) = refl
    by_torn l None = by_own (λ own. begin_or_refuse p k aim (instance_for k l own read)) (λ own. by_instance (instance_for k l own read)) (own_known k)

    by_names : (l : Leader) (b : Bool) → Only P Q (elim b as (λ z. LeaseNext) [ false ↦ AnswerJob (WrongArea l.lockspace l.resource l.num_hosts) | true ↦ named_area_next p k aim l read ])
    by_names l false = refl
    by_names l true = by_torn l (position is_none read)

    by_leader : (o : Option Leader)
        → Only P Q (elim o as (λ z. LeaseNext) [
          | None ↦ AnswerJob TornLeader
          | Some l ↦ elim (is_leader_of p.layout p.lockspace name l) as (λ z. LeaseNext) [
            | false ↦ AnswerJob (WrongArea l.lockspace l.resource l.num_hosts)
            | true ↦ named_area_next p k aim l read
          ]
        ])
    by_leader None = refl
    by_leader (Some l) = by_names l (is_leader_of p.layout p.lockspace name l)

  taken : (aim : Aim) (n : ℕ) → Only P Q (after_take k aim n)
  taken (Acquires Exclusive) n = tt
  taken (Acquires Shared) n = by_own (λ own. WriteBlock SetMode (moded_block own true k.self.generation)) (λ b. once SetMode refl) k.own
  taken (Converts Exclusive) n = by_own (λ own. BecomeExclusive n (moded_block own false 0)) (λ b. tt) k.own
  taken (Converts Shared) n = tt
  taken Releases n = tt
  taken Settles n = tt

  moded : (aim : Aim) (n : ℕ) → Only P Q (after_moding p k aim n)
  moded (Acquires mode) n = once FreeLeader refl
  moded (Converts mode) n = by_number (λ e. BecomeShared e (leader_for p k false e)) (λ e. tt) k.exclusive
  moded Releases n = tt
  moded Settles n = tt

  freed_it : (aim : Aim) (n : ℕ) → Only P Q (after_freeing p k aim n)
  freed_it (Acquires mode) n = tt
  freed_it (Converts mode) n = tt
  freed_it Releases n = refl
  freed_it Settles n = settles

  cleared : (aim : Aim) → Only P Q (after_clearing p k aim)
  cleared (Acquires mode) = tt
  cleared (Converts mode) = tt
  cleared Releases = refl
  cleared Settles = settles

  written : (aim : Aim) (n : ℕ) (step : LeaseStep) → Only P Q (after_write p k aim n step)
  written aim n Phase1Write = once Phase1Read refl
  written aim n Phase2Write = once Phase2Read refl
  written aim n TakeLeader = taken aim n
  written aim n SetMode = moded aim n
  written aim n FreeLeader = freed_it aim n
  written aim n ClearMode = cleared aim
  written aim n (ReadArea name) = tt
  written aim n ReadBeforeFree = tt
  written aim n ReadBeforeBlock = tt
  written aim n (ReadAgain read) = tt
  written aim n Phase1Read = tt
  written aim n Phase2Read = tt

-- After a read, by the step that is made.
module _ (Q : LeaseStep → Type 0) (once : (s : LeaseStep) → is_second s ≡ false → Q s) (p : LeasePlace) (k : LeaseKnown) (aim : Aim) (bytes : List ℕ) (step : LeaseStep) (given : asked_again p.layout bytes step ≡ None) where
  abbrev P : Block → Type 0
  P b = IsAfterRead p.layout k step (Read bytes) b

  read_by : (leader : Option Leader) (read : List (Option Block)) (s : LeaseStep) → first_step step ≡ s → Only (λ b. IsAfterRead p.layout k step (Read bytes) b) Q (after_read p k aim leader read s)
  read_by leader read (ReadArea name) made = area P Q once p k aim name leader read
  read_by leader read ReadBeforeFree made = by_number P Q once p k (λ n. WriteLeader FreeLeader (leader_for p k false n)) (λ n. once FreeLeader refl) (owed_free k)
  read_by leader read ReadBeforeBlock made = settles P Q once p k
  read_by leader read Phase1Read made = by k.own refl where
    by : (o : Option Block) → k.own ≡ o → Only (λ b. IsAfterRead p.layout k step (Read bytes) b) Q (option_map_or (λ own. after_phase1 p k aim own read (stop_of own read)) o Nothing)
    by None is = tt
    by (Some own) is =
        first_read P Q once p k aim own read (λ b same. record { own = own; submitted = is; instance = same; at = made; bytes = bytes; read = refl; given = given }) (stop_of own read)
  read_by leader read Phase2Read made =
      by_own P Q once p k (λ own. after_phase2 p k aim own (stop_of own read)) (λ own. second_read P Q once p k aim own (stop_of own read)) k.own
  read_by leader read (ReadAgain other) made = tt
  read_by leader read Phase1Write made = tt
  read_by leader read Phase2Write made = tt
  read_by leader read TakeLeader made = tt
  read_by leader read SetMode made = tt
  read_by leader read FreeLeader made = tt
  read_by leader read ClearMode made = tt

any : (s : LeaseStep) → is_second s ≡ false → Unit {0}
any s is = tt

bytes_by : (p : LeasePlace) (k : LeaseKnown) (aim : Aim) (bytes : List ℕ) (step : LeaseStep)
    → Only (λ b. IsAfterRead p.layout k step (Read bytes) b) (λ s. Unit {0}) (after_bytes p k aim bytes step)
unfolding after_bytes
bytes_by p k aim bytes step = by (asked_again p.layout bytes step) refl where
  by : (o : Option LeaseRead) → asked_again p.layout bytes step ≡ o → Only (λ b. IsAfterRead p.layout k step (Read bytes) b) (λ s. Unit {0}) (elim o as (λ z. LeaseNext) [
    | Some read ↦ ReadFor (ReadAgain read)
    | None ↦ after_read p k aim (leader_read p.layout bytes (heard p.layout k bytes step)) (blocks_of p.layout (heard p.layout k bytes step)) (first_step step)
  ])
  by (Some read) is = tt
  by None is = read_by (λ s. Unit {0}) any p k aim bytes step is (leader_read p.layout bytes (heard p.layout k bytes step)) (blocks_of p.layout (heard p.layout k bytes step)) (first_step step) refl

decided : (p : LeasePlace) (k : LeaseKnown) (aim : Aim) (call n : ℕ) (step : LeaseStep) (a : Answer) → Only (λ b. IsAfterRead p.layout k step a b) (λ s. Unit {0}) (lease_next p k aim call n step a)
unfolding lease_next
decided p k aim call n step (Read bytes) = bytes_by p k aim bytes step
decided p k aim call n step Written = written (λ b. IsAfterRead p.layout k step Written b) (λ s. Unit {0}) any p k aim n step
decided p k aim call n step Failed = refused (λ b. IsAfterRead p.layout k step Failed b) (λ s. Unit {0}) any p k aim (IoFault call) refl

-- ---- a read that is made once more

-- Where a read is made once more, what its answer gave is kept.
again_is_kept : (g : Layout) (bytes : List ℕ) (step : LeaseStep) (read : LeaseRead) → asked_again g bytes step ≡ Some read → IsTrue (is_some (kept_heard g step (Read bytes)))
again_is_kept g bytes step read = by step where
  asked : {A : Type 0} (b : Bool) (r : LeaseRead) (kept : A) → elim b as (λ z. Option LeaseRead) [ false ↦ None | true ↦ Some r ] ≡ Some read → IsTrue (is_some (choose b kept))
  asked true r kept is = refl
  asked false r kept is = absurd (none_some read is)

  never : {P : Type 0} (b : Bool) → elim b as (λ z. Option LeaseRead) [ false ↦ None | true ↦ None ] ≡ Some read → P
  never true is = absurd (none_some read is)
  never false is = absurd (none_some read is)

  by : (s : LeaseStep) → asked_again g bytes s ≡ Some read → IsTrue (is_some (kept_heard g s (Read bytes)))
  by (ReadArea name) is = asked (needs_again g (blocks_part g bytes)) (OfArea name) (pairs_kept g (blocks_part g bytes)) is
  by ReadBeforeFree is = asked (needs_again g (blocks_part g bytes)) OfFree (pairs_kept g (blocks_part g bytes)) is
  by ReadBeforeBlock is = asked (needs_again g bytes) OfBlock (pairs_kept g bytes) is
  by Phase1Read is = asked (needs_again g bytes) OfPhase1 (pairs_kept g bytes) is
  by Phase2Read is = asked (needs_again g bytes) OfPhase2 (pairs_kept g bytes) is
  by s is = never (needs_again g (part_read g bytes s)) is

itself : (s : LeaseStep) → is_second s ≡ false → is_second s ≡ false
itself s is = is

once_by : (P : Block → Type 0) (kept : Option (List (Option PairBlock))) (next : LeaseNext) → Only P (λ s. is_second s ≡ false) next → IsOnceFor kept next
once_by P kept (WriteBlock Phase2Write b) is = refl
once_by P kept (WriteBlock s b) is = is
once_by P kept (WriteLeader s l) is = is
once_by P kept (ReadFor s) is = ap (λ b. not b || is_some kept) is
once_by P kept next is = tt

made_once : (p : LeasePlace) (k : LeaseKnown) (aim : Aim) (call n : ℕ) (step : LeaseStep) (a : Answer) → IsOnceFor (kept_heard p.layout step a) (lease_next p k aim call n step a)
unfolding lease_next after_bytes
made_once p k aim call n step (Read bytes) = by (asked_again p.layout bytes step) refl where
  by : (o : Option LeaseRead) → asked_again p.layout bytes step ≡ o → IsOnceFor (kept_heard p.layout step (Read bytes)) (elim o as (λ z. LeaseNext) [
    | Some read ↦ ReadFor (ReadAgain read)
    | None ↦ after_read p k aim (leader_read p.layout bytes (heard p.layout k bytes step)) (blocks_of p.layout (heard p.layout k bytes step)) (first_step step)
  ])
  by (Some read) is = again_is_kept p.layout bytes step read is
  by None is =
      once_by (λ b. IsAfterRead p.layout k step (Read bytes) b) (kept_heard p.layout step (Read bytes))
      (after_read p k aim (leader_read p.layout bytes (heard p.layout k bytes step)) (blocks_of p.layout (heard p.layout k bytes step)) (first_step step))
      (read_by (λ s. is_second s ≡ false) itself p k aim bytes step is (leader_read p.layout bytes (heard p.layout k bytes step)) (blocks_of p.layout (heard p.layout k bytes step)) (first_step step) refl)
made_once p k aim call n step Written =
    once_by (λ b. IsAfterRead p.layout k step Written b) (kept_heard p.layout step Written) (after_write p k aim n step) (written (λ b. IsAfterRead p.layout k step Written b) (λ s. is_second s ≡ false) itself p k aim n step)
made_once p k aim call n step Failed =
    once_by (λ b. IsAfterRead p.layout k step Failed b) (kept_heard p.layout step Failed) (refuses aim (IoFault call)) (refused (λ b. IsAfterRead p.layout k step Failed b) (λ s. is_second s ≡ false) itself p k aim (IoFault call) refl)

-- ---- within the limit of turns

-- What was decided, or a refusal.
pub within_cases : (K : LeaseNext → Type 0) (p : LeasePlace) (k : LeaseKnown) (aim : Aim) (next : LeaseNext) → K next → ((r : Reply) → is_before_input r ≡ false → K (refuses aim r)) → K (within_turn p k aim next)
unfolding within_turn
within_cases K p k aim next its refused_by = by (p.layout.paired && not (is_number (k.turn + 1))) where
  stopped : (z : LeaseNext) → K z → K (refuses_block aim z)
  stopped (WriteBlock step b) kept = refused_by (LimitReached TurnLimit) refl
  stopped (BecomeExclusive lver b) kept = refused_by (LimitReached TurnLimit) refl
  stopped z kept = kept

  by : (b : Bool) → K (elim b as (λ z. LeaseNext) [ false ↦ next | true ↦ refuses_block aim next ])
  by false = its
  by true = stopped next its

-- So one that is no refusal was decided, a reply is no earlier, and a read is made once more as before.
pub within_block : (p : LeasePlace) (k : LeaseKnown) (aim : Aim) (next : LeaseNext) (step : LeaseStep) (b : Block) → WriteBlock step b ≡ within_turn p k aim next → WriteBlock step b ≡ next
within_block p k aim next step b = within_cases (λ z. WriteBlock step b ≡ z → WriteBlock step b ≡ next) p k aim next (λ is. is) (λ r late. by aim r) where
  by : (z : Aim) (r : Reply) → WriteBlock step b ≡ refuses z r → WriteBlock step b ≡ next
  by (Acquires mode) r is = absurd cc
  by (Converts mode) r is = absurd cc
  by Releases r is = absurd cc
  by Settles r is = absurd cc

pub within_late : (p : LeasePlace) (k : LeaseKnown) (aim : Aim) (next : LeaseNext) (r : Reply) → (next ≡ AnswerJob r → is_before_input r ≡ false) → AnswerJob r ≡ within_turn p k aim next → is_before_input r ≡ false
within_late p k aim next r late = within_cases (λ z. AnswerJob r ≡ z → is_before_input r ≡ false) p k aim next (λ is. late (sym is)) (λ q later. by aim q later) where
  same : (q : Reply) → is_before_input q ≡ false → AnswerJob r ≡ AnswerJob q → is_before_input r ≡ false
  same q later is = (let one : r ≡ q = cc in ap (λ z. is_before_input z) one ∙ later)

  by : (z : Aim) (q : Reply) → is_before_input q ≡ false → AnswerJob r ≡ refuses z q → is_before_input r ≡ false
  by (Acquires mode) q later is = same q later is
  by (Converts mode) q later is = same q later is
  by Releases q later is = same q later is
  by Settles q later is = absurd cc

pub within_once : (p : LeasePlace) (k : LeaseKnown) (aim : Aim) (next : LeaseNext) (kept : Option (List (Option PairBlock))) → IsOnceFor kept next → IsOnceFor kept (within_turn p k aim next)
within_once p k aim next kept its = within_cases (IsOnceFor kept) p k aim next its (λ r late. by aim r) where
  by : (z : Aim) (r : Reply) → IsOnceFor kept (refuses z r)
  by (Acquires mode) r = tt
  by (Converts mode) r = tt
  by Releases r = tt
  by Settles r = tt

pub phase_two_follows : PhaseTwoFollows
phase_two_follows =
    record {
      second = λ p k aim call n step a b is. subst (λ z. Only (λ c. IsAfterRead p.layout k step a c) (λ s. Unit {0}) z) is (decided p k aim call n step a);
      late = λ p k aim call n step a r is. subst (λ z. Only (λ c. IsAfterRead p.layout k step a c) (λ s. Unit {0}) z) is (decided p k aim call n step a);
      once = made_once;
    }
