-- The blocks that a lease writes show the session's mode, or set it.
use Rattle.sl_due_facts.proofs.Acts.Pairs.Records.{block_no_value, leader_no_block, leader_no_value, written_block}
use Rattle.sl_due_leases.proofs.Grants.WorksByLines.{none_shared_on, own_held}
use Rattle.sl_due_facts.proofs.Acts.LoopsKeep.{with_some_keeps}
use Rattle.sl_due_facts.specs.Acts.Acts.{Has}
use Rattle.sl_area.specs.AreaSizes.{Layout}
use Rattle.sl_area.specs.AreaLayout.{area_sectors, block_offset, block_place, block_sectors, in_area, leader_offset}
use Rattle.sl_area.specs.AreaRecords.{block_record, leader_record}
use Rattle.sl_due.specs.CarriedLease.{carry_lease, convert_for, convert_holding, for_work, held_otherwise, name_on, next_turn, read_for, with_command, write_block, write_leader}
use Rattle.sl_due.specs.Steps.{Step, add_reply, seen}
use Rattle.sl_due_leases.proofs.Grants.Modes.FitsHolding.{FittingSoFar, bare_fits, call_fits, of_lease, plain_call}
use Rattle.sl_due_leases.proofs.Holdings.LeaseConversions.{OfOneProcess, converted, only_converted, otherwise}
use Rattle.sl_due_leases.proofs.Holdings.LeaseNexts.{HasRightMode, IsFitNext, IsPlainNext}
use Rattle.sl_run.specs.LawfulModes.{LawfulMode}
use Rattle.sl_due_leases.proofs.Leases.NextsStay.{bare_by}
use Rattle.sl_due_leases.proofs.Leases.OthersKeep.{Any}
use Rattle.sl_due_leases.proofs.Leases.TurnsStay.{turned_by}
use Rattle.sl_due_leases.proofs.Ways.WayFactsHeld.EffectsLeave.{made_call}
use Rattle.sl_due_leases.proofs.Ways.WayFactsHeld.HeardStands.{spot_same}
use Rattle.sl_due_leases.proofs.Ways.WayFactsHeld.LeaseNextsLeave.{LeaseReady, own_inside}
use Rattle.sl_due_leases.proofs.Ways.WayFactsHeld.PlacesStand.{placed_on, spot_is}
use Rattle.sl_due_leases.proofs.Ways.WayFactsHeld.PlainWalks.{converted as converted_keeps, granted}
use Rattle.sl_due_leases.proofs.Ways.WayStages.{is_at_in}
use Rattle.sl_trace.specs.Ballots.{moded_block}
use Rattle.sl_trace.specs.Jobs.{aim_of, aim_of_command, command_numbered, process_named}
use Rattle.sl_trace.specs.Leases.{Mode_set, has_shared_on, holdings_on, is_at, known, spot_of_call}
use Rattle.sl_trace.specs.declared.lease.Aim.{Aim}
use Rattle.sl_trace.specs.declared.lease.Aim.TheVariants.{Converts, Settles}
use Rattle.sl_trace.specs.declared.lease.LeaseNext.{LeaseNext}
use Rattle.sl_trace.specs.declared.lease.LeaseNext.TheVariants.{AnswerJob, BecomeExclusive, BecomeShared, GrantJob, Nothing, ReadFor, WriteBlock, WriteLeader}
use Rattle.sl_words.proofs.Lists.{find_fails}
use Rattle.sl_words.proofs.Numbers.{number_itself}
use Rattle.sl_sector.specs.declared.sector.Block.{Block}
use Rattle.sl_sector.specs.declared.sector.Leader.{Leader}
use Rattle.sl_trace.specs.Sessions.{generation_of}
use Rattle.sl_trace.specs.declared.session.Session.{Session}
use Rattle.sl_trace.specs.Traces.{Setting, Submitted, Trace, holdings, is_shared, new_call, same_place, work_job}
use Rattle.sl_trace.specs.declared.command.Command.{Command}
use Rattle.sl_trace.specs.declared.effects.Grant.{Grant}
use Rattle.sl_trace.specs.declared.effects.LeaseRead.TheVariants.{OfArea, OfBlock, OfFree, OfPhase1, OfPhase2}
use Rattle.sl_trace.specs.declared.effects.LeaseStep.{LeaseStep}
use Rattle.sl_trace.specs.declared.effects.LeaseStep.TheVariants.{ClearMode, FreeLeader, ReadAgain, ReadArea, ReadBeforeFree, SetMode}
use Rattle.sl_trace.specs.declared.effects.Mode.TheVariants.{Exclusive, Shared}
use Rattle.sl_trace.specs.declared.effects.Op.{Op}
use Rattle.sl_trace.specs.declared.effects.Op.TheVariants.{ReadSectors, WriteRecord}
use Rattle.sl_trace.specs.declared.effects.Purpose.{Purpose}
use Rattle.sl_trace.specs.declared.effects.Purpose.TheVariants.{Lease}
use Rattle.sl_trace.specs.declared.effects.Spot.{Spot}
use Rattle.sl_trace.specs.declared.effects.Work.{Work}
use Rattle.sl_trace.specs.declared.effects.Work.TheVariants.{ForJob, Settling}
use Rattle.sl_trace.specs.declared.input.Answer.{Answer}
use Rattle.sl_words.proofs.CaseLaws.{none_some, some_value, true_is_false}
use Rattle.sl_words.specs.Words.{same_truth}
use Rattle.std.proofs.Common.{ap, refl, subst, sym, ◌∙◌}
use Rattle.std.specs.Prelude.{Bool, Contains, List, None, Option, Some, [], false, length, not, option_and_then, true, ℕ, ◌&&◌, ◌==◌, ◌||◌, ◌≡◌}

-- ---- a block

or_false : (a b : Bool) → b ≡ false → (a || b) ≡ a
or_false true b is = refl
or_false false b is = is

or_true : (a b : Bool) → b ≡ true → (a || b) ≡ true
or_true true b is = refl
or_true false b is = is

-- The mode is set, or it is the session's.
set_mode : (st : Setting) (t : Trace) (s : Session) (c : Submitted) (b : Block) → is_at Mode_set c ≡ true → b.shared ≡ true → b.mode_gen ≡ generation_of t s → LawfulMode st t s c b
set_mode st t s c b sets shared own = record { exact = (λ is. or_true (has_shared_on t s (spot_of_call st.layout c)) (is_at Mode_set c) sets, λ is. shared); own = λ is. own }

pub its_mode : (st : Setting) (t : Trace) (s : Session) (c : Submitted) (b : Block) → is_at Mode_set c ≡ false → b.shared ≡ has_shared_on t s (spot_of_call st.layout c) → (b.shared ≡ true → b.mode_gen ≡ generation_of t s)
    → LawfulMode st t s c b
its_mode st t s c b other shared own =
    let e : (has_shared_on t s (spot_of_call st.layout c) || is_at Mode_set c) ≡ b.shared = or_false (has_shared_on t s (spot_of_call st.layout c)) (is_at Mode_set c) other ∙ sym shared in
    record { exact = (λ is. e ∙ is, λ is. sym e ∙ is); own = own }

pub right_mode : (st : Setting) (t : Trace) (s : Session) (at : Spot) (c : Submitted) (b : Block) (work : Work) (step : LeaseStep) → spot_of_call st.layout c ≡ at → c.call.purpose ≡ Lease work step
    → HasRightMode (known st t s at) step b → LawfulMode st t s c b
unfolding known
right_mode st t s at c b work SetMode spot is h = set_mode st t s c b (ap (λ p. is_at_in Mode_set p) is) h.0 h.1
right_mode st t s at c b work (ReadAgain (OfArea name)) spot is h = its_mode st t s c b (ap (λ p. is_at_in Mode_set p) is) (h.0 ∙ ap (λ z. has_shared_on t s z) (sym spot)) h.1
right_mode st t s at c b work (ReadAgain OfFree) spot is h = its_mode st t s c b (ap (λ p. is_at_in Mode_set p) is) (h.0 ∙ ap (λ z. has_shared_on t s z) (sym spot)) h.1
right_mode st t s at c b work (ReadAgain OfBlock) spot is h = its_mode st t s c b (ap (λ p. is_at_in Mode_set p) is) (h.0 ∙ ap (λ z. has_shared_on t s z) (sym spot)) h.1
right_mode st t s at c b work (ReadAgain OfPhase1) spot is h = its_mode st t s c b (ap (λ p. is_at_in Mode_set p) is) (h.0 ∙ ap (λ z. has_shared_on t s z) (sym spot)) h.1
right_mode st t s at c b work (ReadAgain OfPhase2) spot is h = its_mode st t s c b (ap (λ p. is_at_in Mode_set p) is) (h.0 ∙ ap (λ z. has_shared_on t s z) (sym spot)) h.1
right_mode st t s at c b work step spot is h = its_mode st t s c b (ap (λ p. is_at_in Mode_set p) is) (h.0 ∙ ap (λ z. has_shared_on t s z) (sym spot)) h.1

pub new_spot : (x : Step) (s : Session) (at : Spot) → LeaseReady x s at → (p : Purpose) (o : ℕ) (op : Op) → in_area x.setting.layout at.base o ≡ true
    → spot_of_call x.setting.layout (new_call (length x.past) x.reading (made_call x s.number at.path p o op)) ≡ at
new_spot x s at h p o op inside =
    spot_is x.setting.layout at (new_call (length x.past) x.reading (made_call x s.number at.path p o op)) h.aligned (placed_on x.setting at (made_call x s.number at.path p o op) refl inside)

-- With a mode that is lawful wherever it is written.
pub block_fits : (x : Step) (s : Session) (at : Spot) → LeaseReady x s at → (work : Work) (step : LeaseStep) (b : Block)
    → ((c : Submitted) → spot_of_call x.setting.layout c ≡ at → c.call.purpose ≡ Lease work step → LawfulMode x.setting (seen x) s c b) → FittingSoFar x → FittingSoFar (write_block s at work step b x)
block_fits x s at ready work step b mode h =
    let g : Layout = x.setting.layout in
    let turn : ℕ = next_turn x.setting (seen x) s at in
    let name : List ℕ = name_on x.setting (seen x) s at in
    let o : ℕ = block_place g at.base s.id turn in
    let op : Op = WriteRecord (block_record g turn s.lockspace name b) in
    let c : Submitted = new_call (length x.past) x.reading (made_call x s.number at.path (Lease work step) o op) in
    call_fits x s at.path (Lease work step) o op ready.has refl
    (record {
      mode = λ k is. subst (λ z. LawfulMode x.setting (seen x) s c z) (some_value b k (sym (written_block g turn s.lockspace name c b refl) ∙ is)) (mode c (new_spot x s at ready (Lease work step) o op (own_inside x s at ready turn)) refl);
      value = λ v is. absurd (none_some v (sym (block_no_value g turn s.lockspace name b) ∙ is));
      value_read = λ j is. absurd (of_lease work step j is);
    }) h

pub leader_fits : (x : Step) (s : Session) (at : Spot) (work : Work) (step : LeaseStep) (l : Leader) → Has x s → FittingSoFar x → FittingSoFar (write_leader s at work step l x)
leader_fits x s at work step l has h =
    plain_call x s at.path (Lease work step) (leader_offset at.base) (WriteRecord (leader_record x.setting.layout l)) has refl (leader_no_block x.setting.layout l) (leader_no_value x.setting.layout l) (λ j is. of_lease work step j is) h

pub read_fits : (x : Step) (s : Session) (at : Spot) (work : Work) (step : LeaseStep) → Has x s → FittingSoFar x → FittingSoFar (read_for s at work step x)
read_fits x s at work (ReadArea name) has h = plain_call x s at.path (Lease work (ReadArea name)) at.base (ReadSectors (area_sectors x.setting.layout)) has refl refl refl (λ j is. of_lease work (ReadArea name) j is) h
read_fits x s at work ReadBeforeFree has h = plain_call x s at.path (Lease work ReadBeforeFree) at.base (ReadSectors (area_sectors x.setting.layout)) has refl refl refl (λ j is. of_lease work ReadBeforeFree j is) h
read_fits x s at work (ReadAgain (OfArea name)) has h = plain_call x s at.path (Lease work (ReadAgain (OfArea name))) at.base (ReadSectors (area_sectors x.setting.layout)) has refl refl refl (λ j is. of_lease work (ReadAgain (OfArea name)) j is) h
read_fits x s at work (ReadAgain OfFree) has h = plain_call x s at.path (Lease work (ReadAgain OfFree)) at.base (ReadSectors (area_sectors x.setting.layout)) has refl refl refl (λ j is. of_lease work (ReadAgain OfFree) j is) h
read_fits x s at work step has h = plain_call x s at.path (Lease work step) (block_offset x.setting.layout at.base 1) (ReadSectors (block_sectors x.setting.layout)) has refl refl refl (λ j is. of_lease work step j is) h

-- ---- what a lease decided

pub settled_fits : (x : Step) (s : Session) (at : Spot) → LeaseReady x s at → (n : LeaseNext) → IsPlainNext (known x.setting (seen x) s at) n → FittingSoFar x → FittingSoFar (carry_lease s at Settling n x)
unfolding carry_lease
settled_fits x s at ready Nothing fits h = h
settled_fits x s at ready (ReadFor step) fits h = read_fits x s at Settling step ready.has h
settled_fits x s at ready (WriteBlock step b) fits h = block_fits x s at ready Settling step b (λ c spot is. right_mode x.setting (seen x) s at c b Settling step spot is fits) h
settled_fits x s at ready (WriteLeader step l) fits h = leader_fits x s at Settling step l ready.has h
settled_fits x s at ready (AnswerJob r) fits h = h
settled_fits x s at ready (GrantJob mode lver) fits h = absurd fits
settled_fits x s at ready (BecomeShared lver l) fits h = absurd fits
settled_fits x s at ready (BecomeExclusive lver b) fits h = absurd fits

-- What was converted to exclusive leaves nothing shared there.
abbrev pub OfConversion : Step → Session → Spot → ℕ → Type 0
OfConversion x s at j =
    (c : Command) → command_numbered x.setting (seen x) j ≡ Some c → (h : Grant) → Contains (holdings (seen x)) h → same_place h.path h.offset at.path at.base ≡ true → (process_named c ≡ Some h.process) × (is_shared h.mode ≡ true)

became_unshared : (x : Step) (s : Session) (at : Spot) (j lver : ℕ) (c : Command) (p : ℕ) (g : Grant) → x.effects.grants ≡ [] → OfConversion x s at j → command_numbered x.setting (seen x) j ≡ Some c → process_named c ≡ Some p
    → held_otherwise (seen x) s at p Exclusive ≡ Some g → has_shared_on (seen (convert_holding j Exclusive lver g x)) s at ≡ false
became_unshared x s at j lver c p g bare beside command named found =
    none_shared_on (seen (convert_holding j Exclusive lver g x)) s at (λ h there mine place shared.
    let same : converted g Exclusive lver ≡ h = only_converted x j g Exclusive lver h bare one there (spot_same h at place ∙ sym (spot_same g at w.2)) in
    true_is_false (sym shared ∙ ap (λ (k : Grant). is_shared k.mode) (sym same)))
  where
    w : Contains (holdings (seen x)) g × (g.session ≡ s.number) × (same_place g.path g.offset at.path at.base ≡ true) × (g.process ≡ p) × (same_truth (is_shared g.mode) (is_shared Exclusive) ≡ false)
    w = otherwise x s at p Exclusive g found

    one : OfOneProcess x g
    one h there same =
        some_value h.process p (sym (beside c command h there (subst (λ (v : Spot). same_place h.path h.offset v.path v.base ≡ true) (spot_same g at w.2) same)).0 ∙ named) ∙ sym w.3

-- Where nothing is converted nothing shared is there.
stays_unshared : (x : Step) (s : Session) (at : Spot) (j : ℕ) (c : Command) → OfConversion x s at j → command_numbered x.setting (seen x) j ≡ Some c
    → ((d : Command) (p : ℕ) (g : Grant) → command_numbered x.setting (seen x) j ≡ Some d → process_named d ≡ Some p → held_otherwise (seen x) s at p Exclusive ≡ Some g → ⊥) → has_shared_on (seen x) s at ≡ false
stays_unshared x s at j c beside command none =
    none_shared_on (seen x) s at (λ h there mine place shared.
    let b = beside c command h there place in
    by h b.0 (own_held (seen x) s at h there mine place) shared (held_otherwise (seen x) s at h.process Exclusive) refl)
  where
    by : (h : Grant) → process_named c ≡ Some h.process → Contains (holdings_on (seen x) s at) h → is_shared h.mode ≡ true → (o : Option Grant) → held_otherwise (seen x) s at h.process Exclusive ≡ o → ⊥
    by h named on shared (Some k) found = none c h.process k command named found
    by h named on shared None found =
        true_is_false (sym (ap (λ b. b && not (same_truth (is_shared h.mode) false)) (number_itself h.process) ∙ ap (λ b. not (same_truth b false)) shared)
        ∙ find_fails (λ (k : Grant). k.process == h.process && not (same_truth (is_shared k.mode) (is_shared Exclusive))) (holdings_on (seen x) s at) h found on)

cleared_fits : (z : Step) (s : Session) (at : Spot) (b own : Block) → LeaseReady z s at → b ≡ moded_block own false 0 → has_shared_on (seen z) s at ≡ false → FittingSoFar z → FittingSoFar (write_block s at Settling ClearMode b z)
cleared_fits z s at b own ready written none h =
    block_fits z s at ready Settling ClearMode b
    (λ c spot is. its_mode z.setting (seen z) s c b (ap (λ p. is_at_in Mode_set p) is) (ap (λ (k : Block). k.shared) written ∙ (sym none ∙ ap (λ v. has_shared_on (seen z) s v) (sym spot)))
    (λ shared. absurd (true_is_false (sym shared ∙ ap (λ (k : Block). k.shared) written)))) h

-- After an answer.
pub led_fits : (x : Step) (s : Session) (at : Spot) (work : Work) (aim : Aim) (n : ℕ) (step : LeaseStep) (answer : Answer) → LeaseReady x s at → x.effects.calls ≡ [] → x.effects.grants ≡ []
    → aim_of x.setting (seen x) work ≡ Some aim → ((j : ℕ) → work ≡ ForJob j → aim ≡ Converts Exclusive → OfConversion x s at j) → ((j : ℕ) (g : Grant) (lver : ℕ) → LeaseReady (convert_holding j Exclusive lver g x) s at)
    → (next : LeaseNext) → IsFitNext (known x.setting (seen x) s at) aim n step answer next → FittingSoFar (carry_lease s at work next x)
unfolding carry_lease
led_fits x s at work aim n step answer ready bare ungranted aimed beside after Nothing fits = bare_fits x bare
led_fits x s at work aim n step answer ready bare ungranted aimed beside after (ReadFor to) fits = read_fits x s at work to ready.has (bare_fits x bare)
led_fits x s at work aim n step answer ready bare ungranted aimed beside after (WriteBlock to b) fits =
    block_fits x s at ready work to b (λ c spot is. right_mode x.setting (seen x) s at c b work to spot is fits) (bare_fits x bare)
led_fits x s at work aim n step answer ready bare ungranted aimed beside after (WriteLeader to l) fits = leader_fits x s at work to l ready.has (bare_fits x bare)
led_fits x s at work aim n step answer ready bare ungranted aimed beside after (AnswerJob r) fits =
    bare_fits (carry_lease s at work (AnswerJob r) x) (with_some_keeps (λ y. y.effects.calls ≡ []) (work_job work) (λ j. add_reply j r) x (λ j is f. f) bare)
led_fits x s at work aim n step answer ready bare ungranted aimed beside after (GrantJob mode lver) fits =
    bare_fits (carry_lease s at work (GrantJob mode lver) x) (granted Any (λ y. y.effects.calls ≡ []) bare_by x s work mode lver bare)
led_fits x s at work aim n step answer ready bare ungranted aimed beside after (BecomeShared lver l) fits =
    let z : Step = for_work work (λ k. with_command k (λ c. convert_for s at k c Shared lver)) x in
    leader_fits z s at Settling FreeLeader l (still_has work) (bare_fits z (converted_keeps Any (λ y. y.effects.calls ≡ []) bare_by x s at work Shared lver bare))
  where
    still_has : (w : Work) → Has (for_work w (λ k. with_command k (λ c. convert_for s at k c Shared lver)) x) s
    still_has Settling = ready.has
    still_has (ForJob j) = turned_by (λ z. Has z s) x s at j Shared lver (λ c p g command process found. ready.has) (λ none. ready.has)
led_fits x s at Settling aim n step answer ready bare ungranted aimed beside after (BecomeExclusive lver b) fits = absurd (unlike (some_value Settles aim aimed ∙ fits.2)) where
  settles : Aim → Bool
  settles Settles = true
  settles other = false

  unlike : Settles ≡ Converts Exclusive → ⊥
  unlike is = true_is_false (ap (λ z. settles z) is)
led_fits x s at (ForJob j) aim n step answer ready bare ungranted aimed beside after (BecomeExclusive lver b) fits =
    turned_by (λ z. FittingSoFar (write_block s at Settling ClearMode b z)) x s at j Exclusive lver
    (λ c p g command process found.
    let z : Step = convert_holding j Exclusive lver g x in
    cleared_fits z s at b fits.4.0 (after j g lver) fits.4.2 (became_unshared x s at j lver c p g ungranted (beside j refl fits.2) command process found) (bare_fits z bare))
    (λ none. still none (command_numbered x.setting (seen x) j) refl aimed)
  where
    still : ((d : Command) (p : ℕ) (g : Grant) → command_numbered x.setting (seen x) j ≡ Some d → process_named d ≡ Some p → held_otherwise (seen x) s at p Exclusive ≡ Some g → ⊥) → (o : Option Command) → command_numbered x.setting (seen x) j ≡ o
        → option_and_then aim_of_command o ≡ Some aim → FittingSoFar (write_block s at Settling ClearMode b x)
    still none None command for = absurd (none_some aim for)
    still none (Some c) command for = cleared_fits x s at b fits.4.0 ready fits.4.2 (stays_unshared x s at j c (beside j refl fits.2) command none) (bare_fits x bare)
