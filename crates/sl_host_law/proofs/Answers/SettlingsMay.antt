-- A settling on a free area reads or writes, never the second phase first, and its lease waits for nothing.
use Rattle.sl_host_law.specs.Answers.LeaseDecisions.{MayCarryLease, MayWork, block_at, read_from, record_at, sectors_read, turn_next}
use Rattle.sl_host_law.specs.Answers.LeasesGoOn.{IsPlacedAt, SettlingsMay}
use Rattle.sl_host_law.proofs.Answers.PhaseTwoFollows.{within_cases}
use Rattle.sl_host_law.proofs.SharedFacts.RecordsOfKinds.{block_cases}
use Rattle.sl_host_law.specs.Steps.Leases.{lease_at}
use Rattle.sl_host_law.specs.Calls.MemberCalls.{follows_read}
use Rattle.sl_host_law.specs.Decisions.CommandDecisions.{is_open_on, open_at}
use Rattle.sl_due.specs.Steps.{Step}
use Rattle.sl_host_law.proofs.SharedFacts.PlainLists.{filter_none, none_any}
use Rattle.sl_host_state.specs.KeptState.{HostState, LeaseState, MemberState}
use Rattle.sl_host_state.specs.MadeEffects.{is_lease_on, next_submitted}
use Rattle.sl_host_state.specs.declared.kept_parts.OpenCall.{OpenCall}
use Rattle.sl_trace.specs.Ballots.{moded_block, phase1_block}
use Rattle.sl_trace.specs.LeaseDecisions.{LeasePlace, begin_next, owes_block, phase1_next, settle_begin, settle_next, settle_owed, within_turn}
use Rattle.sl_trace.specs.Leases.{LeaseKnown, Phase2_write, is_at, mode_gen_of, owed, own_known, value_of_record}
use Rattle.sl_trace.specs.declared.lease.Aim.TheVariants.{Settles}
use Rattle.sl_trace.specs.declared.lease.LeaseNext.TheVariants.{Nothing, ReadFor, WriteBlock}
use Rattle.sl_trace.specs.declared.lease.LeaseNext.{LeaseNext}
use Rattle.sl_trace.specs.declared.lease.Owed.TheVariants.{BallotOwed, FreeOwed, ModeOwed}
use Rattle.sl_trace.specs.declared.lease.Owed.{Owed}
use Rattle.sl_host_law.proofs.StepParts.LinesAreTaken.{lines_are_taken}
use Rattle.sl_host_law.specs.StepParts.Wakes.{is_free_at}
use Rattle.sl_host_law.specs.Questions.Answers.{known_in, place_in}
use Rattle.sl_host_law.specs.Questions.Members.{IsMemberAt}
use Rattle.sl_sector.specs.declared.sector.Block.{Block}
use Rattle.sl_sector.specs.declared.sector.Rec.TheVariants.{BlockIs, PairIs}
use Rattle.sl_sector.specs.declared.sector.Rec.{Rec}
use Rattle.sl_sector.specs.declared.sector.DeltaRec.{DeltaRec}
use Rattle.sl_sector.specs.declared.sector.ValueRec.{ValueRec}
use Rattle.sl_trace.specs.Sessions.{delta_of_record}
use Rattle.sl_trace.specs.Traces.{Submitted}
use Rattle.sl_trace.specs.declared.effects.LeaseStep.TheVariants.{ClearMode, Phase1Write, ReadBeforeBlock, ReadBeforeFree}
use Rattle.sl_trace.specs.declared.effects.LeaseStep.{LeaseStep}
use Rattle.sl_trace.specs.declared.effects.Op.TheVariants.{ReadSectors, WriteRecord}
use Rattle.sl_trace.specs.declared.effects.Purpose.TheVariants.{Lease}
use Rattle.sl_trace.specs.declared.effects.Spot.{Spot}
use Rattle.sl_trace.specs.declared.effects.Work.TheVariants.{Settling}
use Rattle.sl_trace.specs.declared.input.Input.{Input}
use Rattle.sl_words.proofs.CaseLaws.{true_is_false}
use Rattle.sl_words.specs.Bounds.{is_number}
use Rattle.sl_words.specs.Words.{is_empty, least, present}
use Rattle.std.proofs.Common.{ap, arith, refl, subst, sym}
use Rattle.std.specs.List.{list_any}
use Rattle.std.specs.Option.{option_map_or}
use Rattle.std.specs.Prelude.{Bool, IsTrue, List, None, Option, Some, false, find, is_none, map, nat_lt, not, true, ℕ, ◌%◌, ◌&&◌, ◌-◌, ◌<◌, ◌==◌, ◌||◌, ◌≡◌}

-- What a settling may decide first.
data IsFirst : LeaseNext → Type 0 where
  IsNothing : IsFirst Nothing
  IsBallot : (b : Block) → IsFirst (WriteBlock Phase1Write b)
  IsMode : (b : Block) → IsFirst (WriteBlock ClearMode b)
  IsFree : IsFirst (ReadFor ReadBeforeFree)
  IsBefore : IsFirst (ReadFor ReadBeforeBlock)

first : (b : Block) → IsFirst (phase1_next Settles b)
first b = by (is_number b.lver) (is_number b.mbal) where
  by : (u v : Bool) → IsFirst (elim u as (λ z. LeaseNext) [ false ↦ Nothing | true ↦ elim v as (λ z. LeaseNext) [ false ↦ Nothing | true ↦ WriteBlock Phase1Write b ] ])
  by false v = IsNothing
  by true false = IsNothing
  by true true = IsBallot b

begins : (p : LeasePlace) (k : LeaseKnown) (n : ℕ) → IsFirst (begin_next p k Settles n)
unfolding begin_next
begins p k n = by (own_known k) where
  by : (o : Option Block) → IsFirst (elim o as (λ z. LeaseNext) [ None ↦ Nothing | Some own ↦ phase1_next Settles (phase1_block k.self p.layout.hosts n k.shared (mode_gen_of k) own (present k.read)) ])
  by None = IsNothing
  by (Some own) = first (phase1_block k.self p.layout.hosts n k.shared (mode_gen_of k) own (present k.read))

settles : (p : LeasePlace) (k : LeaseKnown) → IsFirst (settle_next p k)
unfolding settle_next
settles p k = by (owed k) where
  by_own : (o : Option Block) → IsFirst (option_map_or (λ own. WriteBlock ClearMode (moded_block own false 0)) o Nothing)
  by_own None = IsNothing
  by_own (Some own) = IsMode (moded_block own false 0)

  by : (o : Option Owed) → IsFirst (settle_owed p k o)
  by None = IsNothing
  by (Some (BallotOwed n)) = begins p k n
  by (Some ModeOwed) = by_own k.own
  by (Some (FreeOwed n)) = IsFree

begins_settling : (p : LeasePlace) (k : LeaseKnown) → IsFirst (within_turn p k Settles (settle_begin p k))
unfolding settle_begin
begins_settling p k = within_cases IsFirst p k Settles (settle_begin p k) (by (p.layout.paired && owes_block (owed k))) (λ r late. IsNothing) where
  by : (b : Bool) → IsFirst (elim b as (λ z. LeaseNext) [ true ↦ ReadFor ReadBeforeBlock | false ↦ settle_next p k ])
  by true = IsBefore
  by false = settles p k

both : (p q : Bool) → p ≡ true → q ≡ true → (p && q) ≡ true
both true q is also = also
both false q is also = absurd (true_is_false (sym is))

none_open : (h : HostState) (at : Spot) → is_free_at h at ≡ true → open_at h at ≡ None
none_open h at free = ap (λ (cs : List OpenCall). least (map (λ c. c.number) cs)) (filter_none (is_open_on h.config.layout at) h.unanswered (λ c there. none_any (is_open_on h.config.layout at) h.unanswered c none there)) where
  not_it : (b : Bool) → not b ≡ true → b ≡ false
  not_it false is = refl
  not_it true is = absurd (true_is_false (sym is))

  none : list_any (is_open_on h.config.layout at) h.unanswered ≡ false
  none = not_it (list_any (is_open_on h.config.layout at) h.unanswered) free

module _ (i : Input) (h : HostState) (x : Step) (k : ℕ) (m : MemberState) (at : Spot) (there : IsMemberAt i h x k m) (placed : IsPlacedAt h m at) (free : is_free_at h at ≡ true) where
  some_room : (n : ℕ) → 0 < n → nat_lt 0 n ≡ true
  some_room n less = grind (arith, less)

  -- Its lease, if there is one, waits for nothing.
  lease_fits : (c : Submitted) → is_at Phase2_write c ≡ false → ((l : LeaseState) → IsTrue (follows_read c l))
      → (nat_lt 0 h.config.layout.area && option_map_or (λ l. is_none l.waiting && follows_read c l) (find (is_lease_on at) m.leases) (not (is_at Phase2_write c))) ≡ true
  lease_fits c other follows =
      both (nat_lt 0 h.config.layout.area) (option_map_or (λ l. is_none l.waiting && follows_read c l) (find (is_lease_on at) m.leases) (not (is_at Phase2_write c)))
      (some_room h.config.layout.area placed.room) (by (find (is_lease_on at) m.leases) refl) where
        by : (o : Option LeaseState) → find (is_lease_on at) m.leases ≡ o → option_map_or (λ l. is_none l.waiting && follows_read c l) o (not (is_at Phase2_write c)) ≡ true
        by None is = ap not other
        by (Some l) is = both (is_none l.waiting) (follows_read c l) (ap (λ o. is_none o) (lines_are_taken.free i h x k m at l there (none_open h at free) is)) (follows l)

  near : (n : ℕ) → n ≡ at.base → record { path = at.path; base = n } ≡ at
  near n is = ap (λ (b : ℕ). record { path = at.path; base = b }) is

  lease_near : (c : Submitted) → is_at Phase2_write c ≡ false → ((l : LeaseState) → IsTrue (follows_read c l)) → (n : ℕ) → n ≡ at.base
      → (nat_lt 0 h.config.layout.area && option_map_or (λ l. is_none l.waiting && follows_read c l) (find (is_lease_on (record { path = at.path; base = n })) m.leases) (not (is_at Phase2_write c))) ≡ true
  lease_near c other follows n is =
      subst (λ p. (nat_lt 0 h.config.layout.area && option_map_or (λ l. is_none l.waiting && follows_read c l) (find (is_lease_on p) m.leases) (not (is_at Phase2_write c))) ≡ true) (sym (near n is))
      (lease_fits c other follows)

  reads : MayWork h m.who at Settling ReadBeforeFree (read_from h at ReadBeforeFree) (ReadSectors (sectors_read h ReadBeforeFree))
  reads =
      let c : Submitted = next_submitted h m.who.number at.path (Lease Settling ReadBeforeFree) (read_from h at ReadBeforeFree) (ReadSectors (sectors_read h ReadBeforeFree)) in
      record {
        place = k;
        member = m;
        there = there.there;
        its = refl;
        fits = record {
          later = refl;
          job = refl;
          turn = refl;
          generation = refl;
          value = refl;
          lease = lease_near c refl (λ l. refl) (read_from h at ReadBeforeFree - read_from h at ReadBeforeFree % h.config.layout.area) (placed.reads ReadBeforeFree);
          again = refl;
        };
      }

  looks : MayWork h m.who at Settling ReadBeforeBlock (read_from h at ReadBeforeBlock) (ReadSectors (sectors_read h ReadBeforeBlock))
  looks =
      let c : Submitted = next_submitted h m.who.number at.path (Lease Settling ReadBeforeBlock) (read_from h at ReadBeforeBlock) (ReadSectors (sectors_read h ReadBeforeBlock)) in
      record {
        place = k;
        member = m;
        there = there.there;
        its = refl;
        fits = record {
          later = refl;
          job = refl;
          turn = refl;
          generation = refl;
          value = refl;
          lease = lease_near c refl (λ l. refl) (read_from h at ReadBeforeBlock - read_from h at ReadBeforeBlock % h.config.layout.area) (placed.reads ReadBeforeBlock);
          again = refl;
        };
      }

  ballot : (r : Rec) → delta_of_record r ≡ None → value_of_record r ≡ None → MayWork h m.who at Settling Phase1Write (block_at h m at) (WriteRecord r)
  ballot r no_delta no_value =
      let c : Submitted = next_submitted h m.who.number at.path (Lease Settling Phase1Write) (block_at h m at) (WriteRecord r) in
      record {
        place = k;
        member = m;
        there = there.there;
        its = refl;
        fits = record {
          later = refl;
          job = refl;
          turn = refl;
          generation = ap (λ o. option_map_or (λ (d : DeltaRec). d.generation == m.known.generation || is_empty m.leases) o true) no_delta;
          value = ap (λ o. option_map_or (λ (v : ValueRec). false) o true) no_value;
          lease = lease_near c refl (λ l. refl) (block_at h m at - block_at h m at % h.config.layout.area) (placed.block (turn_next m at));
          again = refl;
        };
      }

  mode : (r : Rec) → delta_of_record r ≡ None → value_of_record r ≡ None → MayWork h m.who at Settling ClearMode (block_at h m at) (WriteRecord r)
  mode r no_delta no_value =
      let c : Submitted = next_submitted h m.who.number at.path (Lease Settling ClearMode) (block_at h m at) (WriteRecord r) in
      record {
        place = k;
        member = m;
        there = there.there;
        its = refl;
        fits = record {
          later = refl;
          job = refl;
          turn = refl;
          generation = ap (λ o. option_map_or (λ (d : DeltaRec). d.generation == m.known.generation || is_empty m.leases) o true) no_delta;
          value = ap (λ o. option_map_or (λ (v : ValueRec). false) o true) no_value;
          lease = lease_near c refl (λ l. refl) (block_at h m at - block_at h m at % h.config.layout.area) (placed.block (turn_next m at));
          again = refl;
        };
      }

  -- The write of a block, of either kind.
  writes : (step : LeaseStep) (b : Block) → ((r : Rec) → delta_of_record r ≡ None → value_of_record r ≡ None → MayWork h m.who at Settling step (block_at h m at) (WriteRecord r))
      → MayWork h m.who at Settling step (block_at h m at) (WriteRecord (record_at h m at b))
  writes step b each =
      block_cases (λ r. MayWork h m.who at Settling step (block_at h m at) (WriteRecord r)) h.config.layout (turn_next m at) m.who.lockspace (lease_at m at).name b (each (BlockIs b) refl refl)
      (each (PairIs (record { block = b; turn = turn_next m at; lockspace = m.who.lockspace; resource = (lease_at m at).name })) refl refl)

  may : (next : LeaseNext) → IsFirst next → MayCarryLease i h x m at Settling next
  may next IsNothing = tt
  may next (IsBallot b) = (writes Phase1Write b ballot, λ paired. placed.leader)
  may next (IsMode b) = (writes ClearMode b mode, λ paired. placed.leader)
  may next IsFree = reads
  may next IsBefore = looks

pub settlings_may : SettlingsMay
settlings_may i h x k m at next there decided placed free = may i h x k m at there placed free next (subst IsFirst (sym decided) (begins_settling (place_in h m) (known_in h m x at)))
