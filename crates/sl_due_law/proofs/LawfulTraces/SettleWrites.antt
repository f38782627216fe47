-- What a settling writes is a record: the block of a ballot that it runs to its end, and the own block without its mode.
use Rattle.sl_ballot.proofs.RecordLaws.{blocks_are_records}
use Rattle.sl_ballot.specs.Laws.{IsMode}
use Rattle.sl_due_facts.specs.Acts.Acts.{Has, next_of_settling}
use Rattle.sl_due.specs.Steps.{Step, seen}
use Rattle.sl_due_law.proofs.LawfulTraces.OwnRecords.{few_hosts, fits_it}
use Rattle.sl_due_law.proofs.LawfulTraces.ReleaseWrites.{unmoded}
use Rattle.sl_due_law.proofs.LawfulTraces.ValueWrites.{own_is_record}
use Rattle.sl_due_law.specs.LawfulTraces.Writes.{LeaseWrites}
use Rattle.sl_due_leases.proofs.Ways.WayFactsHeld.EffectsLeave.{there_has}
use Rattle.sl_due_leases.proofs.Ways.WayFactsHeld.PlacesStand.{id_in_range}
use Rattle.sl_trace.specs.Ballots.{moded_block, phase1_block}
use Rattle.sl_trace.specs.LeaseDecisions.{LeasePlace, begin_next, lease_place, phase1_next, refuses, settle_next, settle_owed, within_turn}
use Rattle.sl_trace.specs.Leases.{LeaseKnown, known, mode_gen_of, owed_free, own_known, own_or_read}
use Rattle.sl_trace.specs.declared.lease.Aim.TheVariants.{Acquires, Converts, Releases, Settles}
use Rattle.sl_trace.specs.declared.lease.Aim.{Aim}
use Rattle.sl_trace.specs.declared.lease.LeaseNext.TheVariants.{Nothing, WriteBlock}
use Rattle.sl_trace.specs.declared.lease.LeaseNext.{LeaseNext}
use Rattle.sl_trace.specs.declared.lease.Owed.TheVariants.{BallotOwed, FreeOwed, ModeOwed}
use Rattle.sl_trace.specs.declared.lease.Owed.{Owed}
use Rattle.sl_sector.specs.Records.{Fits, IsBlock}
use Rattle.sl_sector.specs.declared.sector.Block.{Block}
use Rattle.sl_due_facts.proofs.Connections.ConnectionLines.{active_is_joined}
use Rattle.sl_due_facts.proofs.Sessions.JoinedNumbers.{HasNumbers}
use Rattle.sl_trace.specs.Sessions.{generation_of, is_active, sessions}
use Rattle.sl_trace.specs.declared.session.Session.{Session}
use Rattle.sl_due_facts.specs.Facts.WayFacts.{IsAligned}
use Rattle.sl_due_facts.specs.Facts.AllFacts.{Whole}
use Rattle.sl_trace.specs.declared.effects.LeaseStep.TheVariants.{ClearMode, Phase1Write}
use Rattle.sl_trace.specs.declared.effects.Spot.{Spot}
use Rattle.sl_trace.specs.declared.reply.Limited.TheVariants.{Lver as LverLimit, Mbal as MbalLimit, Turn as TurnLimit}
use Rattle.sl_trace.specs.declared.reply.Reply.TheVariants.{Limit as LimitReached}
use Rattle.sl_trace.specs.declared.reply.Reply.{Reply}
use Rattle.sl_words.proofs.CaseLaws.{some_value, true_is_false}
use Rattle.sl_words.specs.Bounds.{is_number, most_hosts}
use Rattle.sl_words.specs.Words.{present}
use Rattle.sl_due_facts.proofs.Acts.Pairs.Decisions.{settling_is, within_cases}
use Rattle.std.proofs.Common.{ap, arith, refl, subst, sym, ◌∙◌}
use Rattle.std.specs.Option.{option_map_or}
use Rattle.std.specs.Prelude.{Bool, Contains, None, Option, Some, false, if◌then◌else◌, not, option_map, true, ℕ, ◌&&◌, ◌<◌, ◌≡◌, ◌≤◌}

-- ---- a ballot that begins

-- A session that may write, on a run of this many hosts.
pub record MayWrite (p : LeasePlace) (k : LeaseKnown) : Type 0 where
  pub id : (1 ≤ k.self.id) × (k.self.id ≤ p.layout.hosts)
  pub hosts : p.layout.hosts ≤ most_hosts
  pub generation : (1 ≤ k.self.generation) × Fits k.self.generation

not_none : (n : ℕ) → 1 ≤ n → n ≡ 0 → ⊥
not_none n one is = omega (arith, one, is)

mode_of : (shared : Bool) (generation : ℕ) → 1 ≤ generation → Fits generation → IsMode shared (if shared then generation else 0)
mode_of true generation some fits = (((λ e. absurd (true_is_false e)), (λ e. absurd (not_none generation some e))), fits)
mode_of false generation some fits = (((λ e. refl), (λ e. refl)), omega arith)

pub refuses_well : (aim : Aim) (r : Reply) → LeaseWrites (refuses aim r)
refuses_well (Acquires mode) r = tt
refuses_well (Converts mode) r = tt
refuses_well Releases r = tt
refuses_well Settles r = tt

-- The limit of turns leaves it, or writes nothing.
pub within_well : (p : LeasePlace) (k : LeaseKnown) (aim : Aim) (n : LeaseNext) → LeaseWrites n → LeaseWrites (within_turn p k aim n)
within_well p k aim n h = within_cases LeaseWrites p k aim n (λ fits. h) (λ paired over writes. refuses_well aim (LimitReached TurnLimit))

phase1_well : (aim : Aim) (b : Block) → (Fits b.lver → Fits b.mbal → IsBlock b) → LeaseWrites (phase1_next aim b)
phase1_well aim b is = by (is_number b.lver) refl (is_number b.mbal) refl where
  by : (l : Bool) → is_number b.lver ≡ l → (m : Bool) → is_number b.mbal ≡ m → LeaseWrites (elim l as (λ z. LeaseNext) [
    | false ↦ refuses aim (LimitReached LverLimit)
    | true ↦ elim m as (λ z. LeaseNext) [ false ↦ refuses aim (LimitReached MbalLimit) | true ↦ WriteBlock Phase1Write b ]
  ])
  by false low m other = refuses_well aim (LimitReached LverLimit)
  by true low false other = refuses_well aim (LimitReached MbalLimit)
  by true low true other = is (fits_it b.lver low) (fits_it b.mbal other)

phase1_lver : (p : LeasePlace) (k : LeaseKnown) (n : ℕ) (own : Block) → (phase1_block k.self p.layout.hosts n k.shared (mode_gen_of k) own (present k.read)).lver ≡ n
unfolding phase1_block
phase1_lver p k n own = refl

-- A ballot in an instance above 0, where the own block that is known is a record.
pub begins_well : (p : LeasePlace) (k : LeaseKnown) (aim : Aim) (n : ℕ) → MayWrite p k → 1 ≤ n → ((b : Block) → own_known k ≡ Some b → IsBlock b) → LeaseWrites (begin_next p k aim n)
unfolding begin_next
begins_well p k aim n may one known_well = by (own_known k) refl where
  by : (o : Option Block) → own_known k ≡ o
      → LeaseWrites (elim o as (λ z. LeaseNext) [ None ↦ Nothing | Some own ↦ phase1_next aim (phase1_block k.self p.layout.hosts n k.shared (mode_gen_of k) own (present k.read)) ])
  by None is = tt
  by (Some own) is =
      phase1_well aim (phase1_block k.self p.layout.hosts n k.shared (mode_gen_of k) own (present k.read))
      (λ low small. blocks_are_records.phase1 k.self p.layout.hosts n k.shared (mode_gen_of k) own (present k.read) may.id.0 may.id.1 may.hosts one (subst (λ z. Fits z) (phase1_lver p k n own) low)
      (mode_of k.shared k.self.generation may.generation.0 may.generation.1) (known_well own is) small)

-- ---- what is owed

-- The block that was submitted last is a record, and an open ballot is in its instance.
pub record OwnWell (k : LeaseKnown) : Type 0 where
  pub own : (b : Block) → k.own ≡ Some b → IsBlock b
  pub ballot : (n : ℕ) → k.ballot ≡ Some n → (b : Block) × (k.own ≡ Some b) × (1 ≤ n)

pub submitted_known : (k : LeaseKnown) (b : Block) → k.own ≡ Some b → OwnWell k → (c : Block) → own_known k ≡ Some c → IsBlock c
submitted_known k b is well c its =
    subst (λ (z : Block). IsBlock z) (some_value b c (sym (ap (λ o. own_or_read k.self.id o k.read) is) ∙ its)) (well.own b is)

clears_well : (o : Option Block) → ((b : Block) → o ≡ Some b → IsBlock b) → LeaseWrites (option_map_or (λ own. WriteBlock ClearMode (moded_block own false 0)) o Nothing)
clears_well None h = tt
clears_well (Some own) h = unmoded own (h own refl)

pub settles_known : (p : LeasePlace) (k : LeaseKnown) → MayWrite p k → OwnWell k → LeaseWrites (settle_next p k)
unfolding settle_next
settles_known p k may well = by k.ballot refl where
  freed : (o : Option ℕ) → LeaseWrites (settle_owed p k (option_map (λ n. FreeOwed n) o))
  freed None = tt
  freed (Some n) = tt

  moded : (b : Bool) → LeaseWrites (settle_owed p k (elim b as (λ z. Option Owed) [ true ↦ Some ModeOwed | false ↦ option_map (λ n. FreeOwed n) (owed_free k) ]))
  moded true = clears_well k.own well.own
  moded false = freed (owed_free k)

  by : (o : Option ℕ) → k.ballot ≡ o → LeaseWrites (settle_owed p k (elim o as (λ z. Option Owed) [
    | Some n ↦ Some (BallotOwed n)
    | None ↦ elim (k.shown && not k.shared) as (λ z. Option Owed) [ true ↦ Some ModeOwed | false ↦ option_map (λ n. FreeOwed n) (owed_free k) ]
  ]))
  by (Some n) is = let begun = well.ballot n is in begins_well p k Settles n may begun.2 (submitted_known k begun.0 begun.1 well)
  by None is = moded (k.shown && not k.shared)

-- ---- a session's lease

over_none : (a n : ℕ) → a < n → 1 ≤ n
over_none a n less = omega (arith, less)

pub may_write : (x : Step) (s : Session) (at : Spot) → Whole x → Contains (sessions x.setting (seen x)) s → HasNumbers (seen x) s → MayWrite (lease_place x.setting s) (known x.setting (seen x) s at)
unfolding known
may_write x s at w inside numbers =
    record { id = id_in_range x.setting w.setting (seen x) s inside; hosts = few_hosts x.setting w.setting; generation = (numbers.0, fits_it (generation_of (seen x) s) numbers.1) }

pub own_well : (x : Step) (s : Session) (at : Spot) → Whole x → Contains (sessions x.setting (seen x)) s → IsAligned x.setting at → OwnWell (known x.setting (seen x) s at)
unfolding known
own_well x s at w inside aligned =
    record {
      own = λ b is. own_is_record x s at b w is;
      ballot = λ n is. let begun = w.facts.numbers.ballot s at n inside aligned is in (begun.0, begun.1, over_none _ n begun.3);
    }

-- What a settling writes on a wake.
pub settles_well : (x : Step) (s : Session) (at : Spot) → Whole x → Has x s → is_active x.setting (seen x) s ≡ true → IsAligned x.setting at → LeaseWrites (next_of_settling x.setting (seen x) s at)
settles_well x s at w has active aligned =
    let inside = there_has x.setting (seen x) s.number s has in
    settling_is LeaseWrites x.setting (seen x) s at (λ paired owes. tt)
    (λ none. settles_known (lease_place x.setting s) (known x.setting (seen x) s at) (may_write x s at w inside (w.facts.delta.numbers s inside (active_is_joined x.setting (seen x) s active))) (own_well x s at w inside aligned))
