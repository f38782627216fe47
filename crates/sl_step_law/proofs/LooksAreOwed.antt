-- A lease looks, at its area before a free or at the blocks before a block, only where it owes what it looks for; and what is owed follows a block.
use Rattle.sl_due_facts.proofs.Acts.Pairs.Decisions.{begin_cases, within_cases}
use Rattle.sl_area.specs.AreaSizes.{Layout}
use Rattle.sl_area.specs.Pairs.{blocks_of}
use Rattle.sl_area.specs.TornLeader.{leader_read}
use Rattle.sl_due_leases.proofs.Ways.NextsFit.WritesFit.{left_is_won}
use Rattle.sl_due_leases.proofs.Leases.NamesVerified.{ended_wrote as ended_block}
use Rattle.sl_due_law.proofs.Causes.Leases.ReadNexts.{bytes_by}
use Rattle.sl_trace.specs.Ballots.{is_ahead, moded_block, phase1_block, same_owner, stop_of, value_of}
use Rattle.sl_trace.specs.LeaseDecisions.{LeasePlace, after_clearing, after_freeing, after_moding, after_phase1, after_phase2, after_read, after_take, after_write, area_next, begin_next, begin_or_refuse, first_step, heard, leader_for, lease_next, looks_for_shared, lost_next, named_area_next, owes_block, phase1_next, phase2_next, refuses, settle_begin, settle_next, settle_owed, stopped_next, unstopped_next, whole_area_next, within_turn, won_next}
use Rattle.sl_trace.specs.Leases.{LeaseKnown, Phase2_write, block_submitted, block_written, concludes, ended_ballots, free_left, instance_for, is_at, is_leader_of, known_of, may_show_shared, mode_gen_of, open_ballot, owed, owed_free, own_known, shared_elsewhere}
use Rattle.sl_trace.specs.declared.lease.Aim.TheVariants.{Acquires, Converts, Releases, Settles}
use Rattle.sl_trace.specs.declared.lease.Aim.{Aim}
use Rattle.sl_trace.specs.declared.lease.Instance.TheVariants.{Begins, HeldAlready}
use Rattle.sl_trace.specs.declared.lease.Instance.{Instance}
use Rattle.sl_trace.specs.declared.lease.LeaseNext.TheVariants.{AnswerJob, BecomeExclusive, BecomeShared, Nothing, ReadFor, WriteBlock, WriteLeader}
use Rattle.sl_trace.specs.declared.lease.LeaseNext.{LeaseNext}
use Rattle.sl_trace.specs.declared.lease.Owed.TheVariants.{BallotOwed, FreeOwed, ModeOwed}
use Rattle.sl_trace.specs.declared.lease.Owed.{Owed}
use Rattle.sl_trace.specs.declared.lease.Stop.{Stop}
use Rattle.sl_words.proofs.Lists.{contains_first, contains_more}
use Rattle.sl_words.proofs.Options.{then_value}
use Rattle.sl_sector.specs.declared.sector.Block.{Block}
use Rattle.sl_sector.specs.declared.sector.Leader.{Leader}
use Rattle.sl_sector.specs.declared.sector.Owner.{Owner}
use Rattle.sl_trace.specs.Traces.{Submitted, is_answered_ok}
use Rattle.sl_trace.specs.declared.effects.LeaseStep.TheVariants.{ClearMode, FreeLeader, Phase1Read, Phase1Write, Phase2Read, Phase2Write, ReadAgain, ReadArea, ReadBeforeBlock, ReadBeforeFree, SetMode, TakeLeader}
use Rattle.sl_trace.specs.declared.effects.LeaseStep.{LeaseStep}
use Rattle.sl_trace.specs.declared.effects.Mode.TheVariants.{Exclusive, Shared}
use Rattle.sl_trace.specs.declared.input.Answer.TheVariants.{Failed, Read, Written}
use Rattle.sl_trace.specs.declared.input.Answer.{Answer}
use Rattle.sl_trace.specs.declared.reply.Limited.TheVariants.{Lver as LverLimit, Mbal as MbalLimit, Turn as TurnLimit}
use Rattle.sl_trace.specs.declared.reply.Reply.TheVariants.{Held as HeldBy, IoFault, Limit as LimitReached, Shared as SharedBy, TornBlock, TornLeader, WrongArea}
use Rattle.sl_trace.specs.declared.reply.Reply.{Reply}
use Rattle.sl_words.proofs.CaseLaws.{none_some, true_is_false}
use Rattle.sl_step_law.specs.CallsStand.{is_look}
use Rattle.sl_words.specs.Bounds.{is_number}
use Rattle.sl_words.specs.Words.{choose, present, some_is}
use Rattle.std.proofs.Common.{ap, refl, sym}
use Rattle.std.specs.Option.{option_map_or}
use Rattle.std.specs.Prelude.{Bool, Contains, List, None, Option, Some, false, is_none, is_some, not, option_and_then, option_map, position, true, [], ℕ, ◌&&◌, ◌+◌, ◌==◌, ◌∷◌, ◌≡◌}

-- Where the next call looks so it reads, and something is owed.
abbrev pub LooksOwed : Bool → LeaseNext → Type 0
LooksOwed owes (ReadFor step) = is_look step ≡ true → owes ≡ true
LooksOwed owes (WriteBlock step b) = is_look step ≡ false
LooksOwed owes (WriteLeader step l) = is_look step ≡ false
LooksOwed owes next = Unit {0}

never : {P : Type 0} → false ≡ true → P
never is = absurd (true_is_false (sym is))

-- One of two, by a test.
chosen : (w : Bool) (b : Bool) (x y : LeaseNext) → LooksOwed w x → LooksOwed w y → LooksOwed w (elim b as (λ z. LeaseNext) [ true ↦ x | false ↦ y ])
chosen w true x y one other = one
chosen w false x y one other = other

-- By what there is, if there is one.
where_some : {A : Type 0} (w : Bool) (o : Option A) (f : A → LeaseNext) → ((a : A) → LooksOwed w (f a)) → LooksOwed w (option_map_or f o Nothing)
where_some w None f each = tt
where_some w (Some a) f each = each a

pub refused : (w : Bool) (aim : Aim) (r : Reply) → LooksOwed w (refuses aim r)
refused w (Acquires mode) r = tt
refused w (Converts mode) r = tt
refused w Releases r = tt
refused w Settles r = tt

-- ---- ballots

module _ (p : LeasePlace) (k : LeaseKnown) where
  abbrev pub owes : Bool
  owes = is_some (owed k)

  first_block : (aim : Aim) (b : Block) → LooksOwed owes (phase1_next aim b)
  first_block aim b =
      chosen owes (is_number b.lver) (elim (is_number b.mbal) [ false ↦ refuses aim (LimitReached MbalLimit) | true ↦ WriteBlock Phase1Write b ]) (refuses aim (LimitReached LverLimit))
      (chosen owes (is_number b.mbal) (WriteBlock Phase1Write b) (refuses aim (LimitReached MbalLimit)) refl (refused owes aim (LimitReached MbalLimit)))
      (refused owes aim (LimitReached LverLimit))

  begins : (aim : Aim) (n : ℕ) → LooksOwed owes (begin_next p k aim n)
  unfolding begin_next
  begins aim n = by (own_known k)
    where
      by : (o : Option Block) → LooksOwed owes (elim o as (λ z. LeaseNext) [ None ↦ Nothing | Some own ↦ phase1_next aim (phase1_block k.self p.layout.hosts n k.shared (mode_gen_of k) own (present k.read)) ])
      by None = tt
      by (Some own) = first_block aim (phase1_block k.self p.layout.hosts n k.shared (mode_gen_of k) own (present k.read))

  settled : LooksOwed owes (settle_next p k)
  unfolding settle_next
  settled = by (owed k) refl where
    by : (o : Option Owed) → owed k ≡ o → LooksOwed owes (settle_owed p k o)
    by None is = tt
    by (Some (BallotOwed n)) is = begins Settles n
    by (Some ModeOwed) is = where_some owes k.own (λ own. WriteBlock ClearMode (moded_block own false 0)) (λ own. refl)
    by (Some (FreeOwed n)) is = λ look. ap (λ o. is_some o) is

  some_owed : (o : Option Owed) → owes_block o ≡ true → is_some o ≡ true
  some_owed None block = absurd (true_is_false (sym block))
  some_owed (Some o) block = refl

  stopped : (aim : Aim) (stop : Stop) → LooksOwed owes (stopped_next p k aim stop)
  stopped (Acquires mode) stop = tt
  stopped (Converts mode) stop = tt
  stopped Releases stop = tt
  stopped Settles stop = chosen owes (is_ahead stop) (settle_next p k) Nothing settled tt

  unstopped : (aim : Aim) (own : Block) (read : List (Option Block)) → LooksOwed owes (unstopped_next k aim own read)
  unstopped aim own read = by (looks_for_shared aim)
    where
      beside : (o : Option Block) → LooksOwed owes (elim o as (λ z. LeaseNext) [ Some b ↦ AnswerJob (SharedBy (record { id = b.host; generation = b.mode_gen })) | None ↦ phase2_next k own read ])
      beside None = refl
      beside (Some b) = tt

      by : (b : Bool)
          → LooksOwed owes (elim b as (λ z. LeaseNext) [
            | false ↦ phase2_next k own read
            | true ↦ elim (shared_elsewhere k read) [ Some b ↦ AnswerJob (SharedBy (record { id = b.host; generation = b.mode_gen })) | None ↦ phase2_next k own read ]
          ])
      by false = refl
      by true = beside (shared_elsewhere k read)

  first_read : (aim : Aim) (own : Block) (read : List (Option Block)) (stop : Option Stop) → LooksOwed owes (after_phase1 p k aim own read stop)
  first_read aim own read None = unstopped aim own read
  first_read aim own read (Some stop) = stopped aim stop

  wins : (aim : Aim) (n : ℕ) → LooksOwed owes (won_next p k aim n)
  wins (Acquires mode) n = refl
  wins (Converts mode) n = refl
  wins Releases n = tt
  wins Settles n = refl

  lost : (aim : Aim) (n : ℕ) (o : Owner) → LooksOwed owes (lost_next p k aim n o)
  lost (Acquires mode) n o = chosen owes (k.over o.id o.generation) (begin_next p k (Acquires mode) (n + 1)) (AnswerJob (HeldBy n o)) (begins (Acquires mode) (n + 1)) tt
  lost (Converts mode) n o = chosen owes (k.over o.id o.generation) (begin_next p k (Converts mode) (n + 1)) (AnswerJob (HeldBy n o)) (begins (Converts mode) (n + 1)) tt
  lost Releases n o = tt
  lost Settles n o = settled

  second_read : (aim : Aim) (own : Block) (stop : Option Stop) → LooksOwed owes (after_phase2 p k aim own stop)
  second_read aim own None =
      chosen owes (same_owner (value_of own) k.self) (won_next p k aim own.lver) (lost_next p k aim own.lver (value_of own)) (wins aim own.lver) (lost aim own.lver (value_of own))
  second_read aim own (Some stop) = stopped aim stop

  -- ---- the read of the area

  instance : (aim : Aim) (i : Instance) → LooksOwed owes (begin_or_refuse p k aim i)
  instance aim (Begins n) = begins aim n
  instance aim (HeldAlready lver owner) = tt

  named_area : (aim : Aim) (l : Leader) (read : List (Option Block)) → LooksOwed owes (named_area_next p k aim l read)
  named_area aim l read = by (position is_none read)
    where
      by : (o : Option ℕ) → LooksOwed owes (elim o as (λ z. LeaseNext) [ Some i ↦ AnswerJob (TornBlock (i + 1)) | None ↦ whole_area_next p k aim l read ])
      by (Some i) = tt
      by None = where_some owes (own_known k) (λ own. begin_or_refuse p k aim (instance_for k l own read)) (λ own. instance aim (instance_for k l own read))

  area : (aim : Aim) (name : List ℕ) (leader : Option Leader) (read : List (Option Block)) → LooksOwed owes (area_next p k aim name leader read)
  unfolding area_next
  area aim name leader read = by leader
    where
      by : (o : Option Leader)
          → LooksOwed owes (elim o as (λ z. LeaseNext) [
            | None ↦ AnswerJob TornLeader
            | Some l ↦ elim (is_leader_of p.layout p.lockspace name l) [
              | false ↦ AnswerJob (WrongArea l.lockspace l.resource l.num_hosts)
              | true ↦ named_area_next p k aim l read
            ]
          ])
      by None = tt
      by (Some l) =
          chosen owes (is_leader_of p.layout p.lockspace name l) (named_area_next p k aim l read) (AnswerJob (WrongArea l.lockspace l.resource l.num_hosts))
          (named_area aim l read) tt

  -- ---- by step

  after_reading : (aim : Aim) (leader : Option Leader) (read : List (Option Block)) (step : LeaseStep) → LooksOwed owes (after_read p k aim leader read step)
  after_reading aim leader read (ReadArea name) = area aim name leader read
  after_reading aim leader read ReadBeforeBlock = settled
  after_reading aim leader read (ReadAgain again) = tt
  after_reading aim leader read ReadBeforeFree = where_some owes (owed_free k) (λ n. WriteLeader FreeLeader (leader_for p k false n)) (λ n. refl)
  after_reading aim leader read Phase1Write = tt
  after_reading aim leader read Phase1Read = where_some owes k.own (λ own. after_phase1 p k aim own read (stop_of own read)) (λ own. first_read aim own read (stop_of own read))
  after_reading aim leader read Phase2Write = tt
  after_reading aim leader read Phase2Read = where_some owes k.own (λ own. after_phase2 p k aim own (stop_of own read)) (λ own. second_read aim own (stop_of own read))
  after_reading aim leader read TakeLeader = tt
  after_reading aim leader read SetMode = tt
  after_reading aim leader read FreeLeader = tt
  after_reading aim leader read ClearMode = tt

  after_taking : (aim : Aim) (n : ℕ) → LooksOwed owes (after_take k aim n)
  after_taking (Acquires Exclusive) n = tt
  after_taking (Acquires Shared) n = where_some owes k.own (λ own. WriteBlock SetMode (moded_block own true k.self.generation)) (λ own. refl)
  after_taking (Converts Exclusive) n = where_some owes k.own (λ own. BecomeExclusive n (moded_block own false 0)) (λ own. tt)
  after_taking (Converts Shared) n = tt
  after_taking Releases n = tt
  after_taking Settles n = tt

  after_setting : (aim : Aim) (n : ℕ) → LooksOwed owes (after_moding p k aim n)
  after_setting (Acquires mode) n = refl
  after_setting (Converts mode) n = where_some owes k.exclusive (λ e. BecomeShared e (leader_for p k false e)) (λ e. tt)
  after_setting Releases n = tt
  after_setting Settles n = tt

  after_free : (aim : Aim) (n : ℕ) → LooksOwed owes (after_freeing p k aim n)
  after_free (Acquires mode) n = tt
  after_free (Converts mode) n = tt
  after_free Releases n = tt
  after_free Settles n = settled

  after_clear : (aim : Aim) → LooksOwed owes (after_clearing p k aim)
  after_clear (Acquires mode) = tt
  after_clear (Converts mode) = tt
  after_clear Releases = tt
  after_clear Settles = settled

  after_writing : (aim : Aim) (n : ℕ) (step : LeaseStep) → LooksOwed owes (after_write p k aim n step)
  after_writing aim n (ReadArea name) = tt
  after_writing aim n ReadBeforeFree = tt
  after_writing aim n ReadBeforeBlock = tt
  after_writing aim n (ReadAgain read) = tt
  after_writing aim n Phase1Write = λ look. never look
  after_writing aim n Phase1Read = tt
  after_writing aim n Phase2Write = λ look. never look
  after_writing aim n Phase2Read = tt
  after_writing aim n TakeLeader = after_taking aim n
  after_writing aim n SetMode = after_setting aim n
  after_writing aim n FreeLeader = after_free aim n
  after_writing aim n ClearMode = after_clear aim

  answered : (aim : Aim) (call n : ℕ) (step : LeaseStep) (a : Answer) → LooksOwed owes (lease_next p k aim call n step a)
  unfolding lease_next
  answered aim call n step (Read bytes) =
      bytes_by (LooksOwed owes) p k aim bytes step (λ read is look. never look)
      (after_reading aim (leader_read p.layout bytes (heard p.layout k bytes step)) (blocks_of p.layout (heard p.layout k bytes step)) (first_step step))
  answered aim call n step Written = after_writing aim n step
  answered aim call n step Failed = refused owes aim (IoFault call)

  -- After an answer, and as a settling begins, within the limit of turns.
  pub answers_look : (aim : Aim) (call n : ℕ) (step : LeaseStep) (a : Answer) → LooksOwed owes (within_turn p k aim (lease_next p k aim call n step a))
  answers_look aim call n step a =
      within_cases (LooksOwed owes) p k aim (lease_next p k aim call n step a) (λ fits. answered aim call n step a) (λ paired over writes. refused owes aim (LimitReached TurnLimit))

  pub settlings_look : LooksOwed owes (within_turn p k Settles (settle_begin p k))
  settlings_look =
      within_cases (LooksOwed owes) p k Settles (settle_begin p k)
      (λ fits. begin_cases (LooksOwed owes) p k (λ paired block look. some_owed (owed k) block) (λ none. settled)) (λ paired over writes. tt)

-- ---- what is owed was written

-- Of an ended ballot a block was submitted.
pub ended_wrote : (g : Layout) (ms : List Submitted) (n : ℕ) (o : Owner) → Contains (ended_ballots g ms) (n, o) → is_some (block_submitted ms) ≡ true
ended_wrote g ms n o there = ap (λ b. is_some b) (ended_block g ms n o there).1

-- A block that was submitted was written by a call.
block_writer : (ms : List Submitted) → is_some (block_submitted ms) ≡ true → (d : Submitted) × Contains ms d × (is_some (block_written d) ≡ true)
block_writer [] is = absurd (none_true is) where
  none_true : false ≡ true → ⊥
  none_true e = cc
block_writer (m ∷ ms) is = by (block_written m) refl is (block_writer ms) where
  by : (w : Option Block) → block_written m ≡ w → is_some (elim w as (λ z. Option Block) [ Some b ↦ Some b | None ↦ block_submitted ms ]) ≡ true
      → (is_some (block_submitted ms) ≡ true → (d : Submitted) × Contains ms d × (is_some (block_written d) ≡ true)) → (d : Submitted) × Contains (m ∷ ms) d × (is_some (block_written d) ≡ true)
  by (Some b) wrote some rest = (m, contains_first m ms, ap (λ o. is_some o) wrote)
  by None wrote some rest = let d = rest some in (d.0, contains_more m ms d.0 d.1, d.2)

-- So was that of an open ballot, and of a mode that may stand.
pub more_wrote : (m : Submitted) (ms : List Submitted) → is_some (block_submitted ms) ≡ true → is_some (block_submitted (m ∷ ms)) ≡ true
more_wrote m ms some = by (block_written m) where
  by : (o : Option Block) → is_some (elim o as (λ z. Option Block) [ Some b ↦ Some b | None ↦ block_submitted ms ]) ≡ true
  by (Some b) = refl
  by None = some

pub open_wrote : (g : Layout) (ms : List Submitted) (n : ℕ) → open_ballot g ms ≡ Some n → is_some (block_submitted ms) ≡ true
open_wrote g [] n is = absurd (none_some n is)
open_wrote g (m ∷ ms) n is = by (block_written m) refl is (open_wrote g ms) where
  concluded : (b : Bool) → elim b as (λ z. Option ℕ) [ true ↦ None | false ↦ open_ballot g ms ] ≡ Some n → open_ballot g ms ≡ Some n
  concluded true none = absurd (none_some n none)
  concluded false before = before

  by : (w : Option Block) → block_written m ≡ w
      → elim w as (λ z. Option ℕ) [
        | Some b ↦ elim (is_at Phase2_write m) as (λ z. Option ℕ) [ true ↦ Some b.lver | false ↦ option_and_then (λ k. choose (b.lver == k) k) (open_ballot g ms) ]
        | None ↦ elim (concludes g m ms) as (λ z. Option ℕ) [ true ↦ None | false ↦ open_ballot g ms ]
      ] ≡ Some n
      → ((k : ℕ) → open_ballot g ms ≡ Some k → is_some (block_submitted ms) ≡ true) → is_some (block_submitted (m ∷ ms)) ≡ true
  by (Some b) wrote after before = ap (λ w. is_some (elim w as (λ z. Option Block) [ Some y ↦ Some y | None ↦ block_submitted ms ])) wrote
  by None wrote after before = more_wrote m ms (before n (concluded (concludes g m ms) after))

shown_wrote : (ms : List Submitted) → may_show_shared ms ≡ true → is_some (block_submitted ms) ≡ true
shown_wrote [] is = never is
shown_wrote (m ∷ ms) is = by (block_written m) refl is (shown_wrote ms) where
  by : (w : Option Block) → block_written m ≡ w
      → elim w as (λ z. Bool) [
        | None ↦ may_show_shared ms
        | Some b ↦ elim b.shared as (λ z. Bool) [ true ↦ true | false ↦ elim (is_answered_ok m) as (λ z. Bool) [ true ↦ false | false ↦ may_show_shared ms ] ]
      ] ≡ true
      → (may_show_shared ms ≡ true → is_some (block_submitted ms) ≡ true) → is_some (block_submitted (m ∷ ms)) ≡ true
  by (Some b) wrote shows before = ap (λ w. is_some (elim w as (λ z. Option Block) [ Some y ↦ Some y | None ↦ block_submitted ms ])) wrote
  by None wrote shows before = more_wrote m ms (before shows)

-- What was won is of a block that a call wrote.
won_wrote : (g : Layout) (self : Owner) (ms : List Submitted) (n : ℕ) → free_left g self ms ≡ Some n → is_some (block_submitted ms) ≡ true
won_wrote g self ms n is = ended_wrote g ms n self (left_is_won g self ms n is)

-- So is whatever is owed.
owed_wrote : (g : Layout) (lockspace : List ℕ) (self : Owner) (shared : Bool) (held : Option ℕ) (over : ℕ → ℕ → Bool) (ms : List Submitted) → is_some (owed (known_of g lockspace self shared held over ms)) ≡ true
    → is_some (block_submitted ms) ≡ true
owed_wrote g lockspace self shared held over ms is = by (open_ballot g ms) refl (may_show_shared ms) refl is where
  frees : (o : Option ℕ) → option_and_then (λ n. choose (not (some_is (λ e. e == n) held)) n) (free_left g self ms) ≡ o → is_some (option_map (λ n. FreeOwed n) o) ≡ true → is_some (block_submitted ms) ≡ true
  frees None none some = never some
  frees (Some n) left some = (let v = then_value (λ m. choose (not (some_is (λ e. e == m) held)) m) (free_left g self ms) n left in won_wrote g self ms v.0 v.1)

  shows : (b c : Bool) → may_show_shared ms ≡ b
      → is_some (elim (b && c) as (λ z. Option Owed) [
        | true ↦ Some ModeOwed
        | false ↦ option_map (λ n. FreeOwed n) (option_and_then (λ n. choose (not (some_is (λ e. e == n) held)) n) (free_left g self ms))
      ]) ≡ true
      → is_some (block_submitted ms) ≡ true
  shows true true may some = shown_wrote ms may
  shows true false may some = frees _ refl some
  shows false c may some = frees _ refl some

  by : (o : Option ℕ) → open_ballot g ms ≡ o → (b : Bool) → may_show_shared ms ≡ b
      → is_some (elim o as (λ z. Option Owed) [
        | Some n ↦ Some (BallotOwed n)
        | None ↦ elim (b && not shared) as (λ z. Option Owed) [
          | true ↦ Some ModeOwed
          | false ↦ option_map (λ n. FreeOwed n) (option_and_then (λ n. choose (not (some_is (λ e. e == n) held)) n) (free_left g self ms))
        ]
      ]) ≡ true
      → is_some (block_submitted ms) ≡ true
  by (Some n) open_one b may some = open_wrote g ms n open_one
  by None closed b may some = shows b (not shared) may some

-- By a call.
pub owed_writer : (g : Layout) (lockspace : List ℕ) (self : Owner) (shared : Bool) (held : Option ℕ) (over : ℕ → ℕ → Bool) (ms : List Submitted)
    → is_some (owed (known_of g lockspace self shared held over ms)) ≡ true → (d : Submitted) × Contains ms d × (is_some (block_written d) ≡ true)
owed_writer g lockspace self shared held over ms is = block_writer ms (owed_wrote g lockspace self shared held over ms is)
