-- The decisions.
use Rattle.sl_area.specs.Pairs.{BlocksRead, blocks_of, needs_again, read_once}
use Rattle.sl_area.specs.TornLeader.{leader_read}
use Rattle.sl_area.specs.AreaLayout.{blocks_part}
use Rattle.sl_trace.specs.Ballots.{in_instance, instance_of, moded_block, next_mbal, owner_of, phase1_block, phase2_block, proposing, same_owner, stop_of, value_of, value_to_write}
use Rattle.sl_trace.specs.LeaseDecisions.{LeasePlace, after_bytes, after_phase1, after_phase2, after_read, area_next, begin_next, begin_or_refuse, leader_for, first_step, lease_next, lost_next, part_read, read_of_step, won_next, named_area_next, phase1_next, phase2_next, refuses, unstopped_next, whole_area_next}
use Rattle.sl_trace.specs.Leases.{LeaseKnown, instance_for, is_leader_of, is_over_owner, is_shared_by_other, mode_gen_of, own_known, shared_elsewhere, top_lver}
use Rattle.sl_trace.specs.declared.lease.Aim.TheVariants.{Acquires}
use Rattle.sl_trace.specs.declared.lease.Aim.{Aim}
use Rattle.sl_trace.specs.declared.lease.Instance.TheVariants.{Begins, HeldAlready}
use Rattle.sl_trace.specs.declared.lease.LeaseNext.TheVariants.{AnswerJob, Nothing, ReadFor, WriteBlock, WriteLeader}
use Rattle.sl_trace.specs.declared.lease.LeaseNext.{LeaseNext}
use Rattle.sl_headline.proofs.Quiet.Course.Blocks.{ballot_whole, none_torn, only_own, own_value, present_whole, top_least, unstopped}
use Rattle.sl_headline.specs.Quiet.Course.QuietDecisions.{FindsFree, FindsOwn, NoneShared, QuietDecisions, StandsAlone, IsFirstOf, all_whole, quiet_phase1, quiet_phase2}
use Rattle.sl_sector.specs.declared.sector.Block.{Block}
use Rattle.sl_sector.specs.declared.sector.Leader.{Leader}
use Rattle.sl_sector.specs.declared.sector.Owner.{Owner}
use Rattle.sl_sector.specs.declared.sector.PairBlock.{PairBlock}
use Rattle.sl_trace.specs.declared.effects.LeaseRead.{LeaseRead}
use Rattle.sl_trace.specs.declared.effects.LeaseStep.{LeaseStep}
use Rattle.sl_trace.specs.declared.effects.LeaseStep.TheVariants.{Phase1Read, Phase1Write, Phase2Read, Phase2Write, ReadAgain, ReadArea, SetMode, TakeLeader}
use Rattle.sl_trace.specs.declared.effects.Mode.TheVariants.{Exclusive, Shared}
use Rattle.sl_trace.specs.declared.effects.Mode.{Mode}
use Rattle.sl_trace.specs.declared.input.Answer.TheVariants.{Read}
use Rattle.sl_trace.specs.declared.reply.Limited.TheVariants.{Lver as LverLimit, Mbal as MbalLimit}
use Rattle.sl_trace.specs.declared.reply.Reply.TheVariants.{Limit as LimitReached, Shared as SharedBy, TornBlock, TornLeader, WrongArea}
use Rattle.sl_words.specs.Bounds.{is_number, record_numbers}
use Rattle.sl_words.specs.Words.{present}
use Rattle.sl_headline.proofs.Quiet.Course.GivenArea.{spelled_leads}
use Rattle.std.proofs.Common.{ap, arith, refl, tests, ◌∙◌}
use Rattle.std.specs.List.{AllByRecursion}
use Rattle.std.specs.Option.{option_map_or}
use Rattle.std.specs.Prelude.{Bool, List, None, Option, Some, [], false, find, if◌then◌else◌, map, max, nat_le, nat_lt, not, true, ℕ, ◌&&◌, ◌+◌, ◌<◌, ◌==◌, ◌||◌, ◌∷◌, ◌≡◌, ◌≤◌}

-- ---- a read that is made once

-- What is decided goes by its own bytes.
read_now : (p : LeasePlace) (k : LeaseKnown) (aim : Aim) (bytes : List ℕ) (step : LeaseStep) → needs_again p.layout (part_read p.layout bytes step) ≡ false → k.kept ≡ []
    → after_bytes p k aim bytes step
    ≡ after_read p k aim (leader_read p.layout bytes (read_once (part_read p.layout bytes (first_step step)))) (blocks_of p.layout (read_once (part_read p.layout bytes (first_step step)))) (first_step step)
unfolding after_bytes
read_now p k aim bytes step once kept =
    let by : List (Option PairBlock) → LeaseNext =
    λ pairs.
    let r : BlocksRead = record { kept = pairs; last = part_read p.layout bytes (first_step step) } in after_read p k aim (leader_read p.layout bytes r) (blocks_of p.layout r) (first_step step) in
    ap (λ b. elim (elim b as (λ z. Option LeaseRead) [ false ↦ None | true ↦ read_of_step step ]) as (λ z. LeaseNext) [ Some read ↦ ReadFor (ReadAgain read) | None ↦ by k.kept ]) once
    ∙ ap by kept

-- ---- the read of the area: the instance

same_le : (a : ℕ) → a ≤ a
same_le a = omega arith

less_test : (a b : ℕ) → a < b → nat_lt a b ≡ true
less_test a b h = grind (arith, tests, h)

top_is : (lver freed top : ℕ) → nat_lt (max lver freed) top ≡ true → freed ≤ lver → top ≤ lver + 1 → top ≡ lver + 1
top_is lver freed top is low le = grind (arith, tests)

max_is : (lver freed : ℕ) → freed ≤ lver → max lver freed + 1 ≡ lver + 1
max_is lver freed low = omega (arith, low)

one_less : (a b : ℕ) → a ≤ b → a < b + 1
one_less a b h = omega (arith, h)

number_is : (a b : ℕ) → (a == b) ≡ true → a ≡ b
number_is a b h = grind (arith, tests)

up_to : (a b : ℕ) → a ≤ b → a ≤ b + 1
up_to a b h = omega (arith, h)

next_by : (above : Bool) (lver freed top : ℕ) (held over : Bool) (self : Owner) (l : Leader) → nat_lt (max lver freed) top ≡ above → freed ≤ lver → top ≤ lver + 1 → held ≡ false
    → (if above then Begins top else (if (not held || nat_lt 0 freed && nat_le lver freed) || over then Begins (max lver freed + 1)
    else (if same_owner (owner_of l) self then Begins (max lver freed) else HeldAlready lver (owner_of l)))) ≡ Begins (lver + 1)
next_by true lver freed top held over self l is low le free = ap (λ n. Begins n) (top_is lver freed top is low le)
next_by false lver freed top held over self l is low le free =
    ap (λ b. if (not b || nat_lt 0 freed && nat_le lver freed) || over then Begins (max lver freed + 1)
    else (if same_owner (owner_of l) self then Begins (max lver freed) else HeldAlready lver (owner_of l))) free
    ∙ ap (λ n. Begins n) (max_is lver freed low)

instance_is : (p : LeasePlace) (k : LeaseKnown) (name bytes : List ℕ) (l : Leader) (blocks : List Block) (own : Block) → FindsFree p k name bytes l blocks own
    → instance_for k l own (all_whole blocks) ≡ Begins (l.lver + 1)
unfolding instance_of
instance_is p k name bytes l blocks own h =
    next_by (nat_lt (max l.lver k.freed) (top_lver own (all_whole blocks))) l.lver k.freed (top_lver own (all_whole blocks)) l.held (is_over_owner k l) k.self l refl h.freed
    (top_least own l.lver (l.lver + 1) blocks h.own_low (up_to l.lver l.lver (same_le l.lver)) h.below) h.free

-- ---- .. and the block of phase 1

phase1_is : (aim : Aim) (b : Block) → is_number b.lver ≡ true → is_number b.mbal ≡ true → phase1_next aim b ≡ WriteBlock Phase1Write b
phase1_is aim b lver mbal =
    ap (λ t. elim t as (λ x. LeaseNext) [
      | false ↦ refuses aim (LimitReached LverLimit)
      | true ↦ elim (is_number b.mbal) as (λ x. LeaseNext) [ false ↦ refuses aim (LimitReached MbalLimit) | true ↦ WriteBlock Phase1Write b ]
    ]) lver
    ∙ ap (λ t. elim t as (λ x. LeaseNext) [ false ↦ refuses aim (LimitReached MbalLimit) | true ↦ WriteBlock Phase1Write b ]) mbal

begin_is : (p : LeasePlace) (k : LeaseKnown) (aim : Aim) (n : ℕ) (own : Block) (blocks : List Block) → own_known k ≡ Some own → k.shared ≡ false → k.read ≡ all_whole blocks
    → begin_next p k aim n ≡ phase1_next aim (quiet_phase1 p k n own blocks)
unfolding begin_next
begin_is p k aim n own blocks known shared read =
    ap (λ o. elim o as (λ x. LeaseNext) [ None ↦ Nothing | Some own ↦ phase1_next aim (phase1_block k.self p.layout.hosts n k.shared (mode_gen_of k) own (present k.read)) ]) known
    ∙ ap (λ t. phase1_next aim (phase1_block k.self p.layout.hosts n t (if t then k.self.generation else 0) own (present k.read))) shared
    ∙ ap (λ xs. phase1_next aim (quiet_phase1 p k n own xs)) (ap (λ os. present os) read ∙ present_whole blocks)

below_next : (n : ℕ) (bs : List Block) → AllByRecursion (λ (b : Block). b.lver ≤ n) bs → AllByRecursion (λ (b : Block). b.lver < n + 1) bs
below_next n [] h = tt
below_next n (b ∷ bs) h = (one_less b.lver n h.0, below_next n bs h.1)

begins : (p : LeasePlace) (k : LeaseKnown) (aim : Aim) (name bytes : List ℕ) (l : Leader) (blocks : List Block) (own : Block) → FindsFree p k name bytes l blocks own
    → begin_next p k aim (l.lver + 1) ≡ WriteBlock Phase1Write (quiet_phase1 p k (l.lver + 1) own blocks)
unfolding phase1_block
begins p k aim name bytes l blocks own h =
    let n : ℕ = l.lver + 1 in
    begin_is p k aim n own blocks h.own_is h.not_shared h.read
    ∙ phase1_is aim (quiet_phase1 p k n own blocks) (less_test n record_numbers h.lver)
    (ap (λ bs. is_number (next_mbal p.layout.hosts k.self.id (map (λ (b : Block). b.mbal) bs))) (only_own n own blocks (below_next l.lver blocks h.below))
    ∙ less_test (next_mbal p.layout.hosts k.self.id (map (λ (b : Block). b.mbal) (in_instance n (own ∷ [])))) record_numbers h.mbal)

area_begins : (p : LeasePlace) (k : LeaseKnown) (aim : Aim) (name bytes : List ℕ) (l : Leader) (blocks : List Block) (own : Block) → FindsFree p k name bytes l blocks own
    → area_next p k aim name (leader_read p.layout bytes (read_once (blocks_part p.layout bytes))) (blocks_of p.layout (read_once (blocks_part p.layout bytes)))
    ≡ WriteBlock Phase1Write (quiet_phase1 p k (l.lver + 1) own blocks)
unfolding area_next
area_begins p k aim name bytes l blocks own h =
    let read : BlocksRead = read_once (blocks_part p.layout bytes) in
    ap (λ o. elim o as (λ x. LeaseNext) [
      | None ↦ AnswerJob TornLeader
      | Some l ↦ elim (is_leader_of p.layout p.lockspace name l) as (λ x. LeaseNext) [
        | false ↦ AnswerJob (WrongArea l.lockspace l.resource l.num_hosts)
        | true ↦ named_area_next p k aim l (blocks_of p.layout read)
      ]
    ]) (spelled_leads p.layout bytes read l h.leader)
    ∙ ap (λ t. elim t as (λ x. LeaseNext) [
      | false ↦ AnswerJob (WrongArea l.lockspace l.resource l.num_hosts)
      | true ↦ named_area_next p k aim l (blocks_of p.layout read)
    ]) h.names
    ∙ ap (λ xs. named_area_next p k aim l xs) h.shows.whole
    ∙ ap (λ o. elim o as (λ x. LeaseNext) [ Some i ↦ AnswerJob (TornBlock (i + 1)) | None ↦ whole_area_next p k aim l (all_whole blocks) ]) (none_torn blocks)
    ∙ ap (λ o. option_map_or (λ own. begin_or_refuse p k aim (instance_for k l own (all_whole blocks))) o Nothing) h.own_is
    ∙ ap (λ i. begin_or_refuse p k aim i) (instance_is p k name bytes l blocks own h)
    ∙ begins p k aim name bytes l blocks own h

-- ---- the read of phase 1

none_by : (k : LeaseKnown) (bs : List Block) → AllByRecursion (λ b. is_shared_by_other k b ≡ false) bs → find (is_shared_by_other k) bs ≡ None
none_by k [] h = refl
none_by k (b ∷ bs) h = ap (λ t. if t then Some b else find (is_shared_by_other k) bs) h.0 ∙ none_by k bs h.1

none_elsewhere : (k : LeaseKnown) (bs : List Block) → AllByRecursion (λ b. is_shared_by_other k b ≡ false) bs → shared_elsewhere k (all_whole bs) ≡ None
none_elsewhere k bs h = ap (λ xs. find (is_shared_by_other k) xs) (present_whole bs) ∙ none_by k bs h

accepts : (k : LeaseKnown) (own : Block) (bs : List Block) → StandsAlone own bs → own.bal ≡ 0 → k.shared ≡ false
    → phase2_next k own (all_whole bs) ≡ WriteBlock Phase2Write (quiet_phase2 k own)
unfolding phase2_block
accepts k own bs alone zero_bal shared =
    ap (λ xs. WriteBlock Phase2Write (moded_block (proposing own (value_to_write k.self own.lver xs)) k.shared (mode_gen_of k))) (ballot_whole own bs)
    ∙ ap (λ o. WriteBlock Phase2Write (moded_block (proposing own o) k.shared (mode_gen_of k))) (own_value k.self own bs alone zero_bal)
    ∙ ap (λ t. WriteBlock Phase2Write (moded_block (proposing own k.self) t (if t then k.self.generation else 0))) shared

goes_past : (k : LeaseKnown) (mode : Mode) (own : Block) (bs : List Block) → StandsAlone own bs → own.bal ≡ 0 → k.shared ≡ false → NoneShared k mode bs
    → unstopped_next k (Acquires mode) own (all_whole bs) ≡ WriteBlock Phase2Write (quiet_phase2 k own)
goes_past k Exclusive own bs alone zero_bal shared none =
    ap (λ o. elim o as (λ x. LeaseNext) [
      | Some b ↦ AnswerJob (SharedBy (record { id = b.host; generation = b.mode_gen }))
      | None ↦ phase2_next k own (all_whole bs)
    ]) (none_elsewhere k bs none)
    ∙ accepts k own bs alone zero_bal shared
goes_past k Shared own bs alone zero_bal shared none = accepts k own bs alone zero_bal shared

phase1_goes_on : (p : LeasePlace) (k : LeaseKnown) (mode : Mode) (call n : ℕ) (bytes : List ℕ) (blocks : List Block) (own : Block) → FindsOwn p k bytes blocks own
    → own.bal ≡ 0 → k.shared ≡ false → NoneShared k mode blocks → lease_next p k (Acquires mode) call n Phase1Read (Read bytes) ≡ WriteBlock Phase2Write (quiet_phase2 k own)
unfolding lease_next
phase1_goes_on p k mode call n bytes blocks own h zero_bal shared none =
    read_now p k (Acquires mode) bytes Phase1Read h.shows.once h.kept
    ∙ ap (λ o. option_map_or (λ own. after_phase1 p k (Acquires mode) own (blocks_of p.layout (read_once bytes)) (stop_of own (blocks_of p.layout (read_once bytes)))) o Nothing) h.own_is
    ∙ ap (λ xs. after_phase1 p k (Acquires mode) own xs (stop_of own xs)) h.shows.whole
    ∙ ap (λ o. after_phase1 p k (Acquires mode) own (all_whole blocks) o) (unstopped own blocks h.alone)
    ∙ goes_past k mode own blocks h.alone zero_bal shared none

-- ---- the read of phase 2

same_number : (n : ℕ) → (n == n) ≡ true
same_number n = grind (arith, tests)

same_self : (o : Owner) → same_owner o o ≡ true
same_self o = ap (λ t. t && o.generation == o.generation) (same_number o.id) ∙ same_number o.generation

wins : (p : LeasePlace) (k : LeaseKnown) (mode : Mode) (own before : Block) → own ≡ quiet_phase2 k before
    → after_phase2 p k (Acquires mode) own None ≡ WriteLeader TakeLeader (leader_for p k true own.lver)
wins p k mode own before is =
    ap (λ t. elim t as (λ x. LeaseNext) [ true ↦ won_next p k (Acquires mode) own.lver | false ↦ lost_next p k (Acquires mode) own.lver (value_of own) ])
    (ap (λ (b : Block). same_owner (value_of b) k.self) is ∙ same_self k.self)

phase2_goes_on : (p : LeasePlace) (k : LeaseKnown) (mode : Mode) (call n : ℕ) (bytes : List ℕ) (blocks : List Block) (own before : Block) → FindsOwn p k bytes blocks own
    → own ≡ quiet_phase2 k before → lease_next p k (Acquires mode) call n Phase2Read (Read bytes) ≡ WriteLeader TakeLeader (leader_for p k true own.lver)
unfolding lease_next
phase2_goes_on p k mode call n bytes blocks own before h is =
    read_now p k (Acquires mode) bytes Phase2Read h.shows.once h.kept
    ∙ ap (λ o. option_map_or (λ own. after_phase2 p k (Acquires mode) own (stop_of own (blocks_of p.layout (read_once bytes)))) o Nothing) h.own_is
    ∙ ap (λ xs. after_phase2 p k (Acquires mode) own (stop_of own xs)) h.shows.whole
    ∙ ap (λ o. after_phase2 p k (Acquires mode) own o) (unstopped own blocks h.alone)
    ∙ wins p k mode own before is

-- ---- all of them

begins_at : (p : LeasePlace) (k : LeaseKnown) (mode : Mode) (call n : ℕ) (name bytes : List ℕ) (l : Leader) (blocks : List Block) (own : Block) → FindsFree p k name bytes l blocks own
    → lease_next p k (Acquires mode) call n (ReadArea name) (Read bytes) ≡ WriteBlock Phase1Write (quiet_phase1 p k (l.lver + 1) own blocks)
unfolding lease_next
begins_at p k mode call n name bytes l blocks own h =
    read_now p k (Acquires mode) bytes (ReadArea name) h.shows.once h.kept ∙ area_begins p k (Acquires mode) name bytes l blocks own h

pub quiet_decisions : QuietDecisions
unfolding lease_next
quiet_decisions = record {
  area_read = begins_at;
  phase1_written = λ p k mode call n. refl;
  phase1_read = phase1_goes_on;
  phase2_written = λ p k mode call n. refl;
  phase2_read = phase2_goes_on;
  taken = λ p k call n. refl;
  taken_shared = λ p k call n own is. ap (λ o. option_map_or (λ own. WriteBlock SetMode (moded_block own true k.self.generation)) o Nothing) is;
  mode_set = λ p k mode call n. refl;
  freed = λ p k mode call n. refl;
}

bal_by : (t : Bool) (own : Block) (n : ℕ) → (own.lver == n) ≡ t → (own.lver ≡ n → own.bal ≡ 0) → (if t then own.bal else 0) ≡ 0
bal_by true own n is none = none (number_is own.lver n is)
bal_by false own n is none = refl

-- What phase 1 leaves: a number of the session's own in which nothing is accepted.
pub first_of : (p : LeasePlace) (k : LeaseKnown) (n : ℕ) (own : Block) (blocks : List Block) → (own.lver ≡ n → own.bal ≡ 0) → IsFirstOf k n (quiet_phase1 p k n own blocks)
unfolding phase1_block
first_of p k n own blocks none = record { lver = refl; host = refl; mode = (refl, refl); bal = bal_by (own.lver == n) own n refl none }
