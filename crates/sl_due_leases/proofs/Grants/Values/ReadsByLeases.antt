-- What a lease decides leaves what stands while a value is read elsewhere.
use Rattle.sl_due_facts.proofs.Acts.LoopsKeep.{with_some_keeps}
use Rattle.sl_due_facts.specs.Acts.TraceSoFar.{entry_of}
use Rattle.sl_area.specs.AreaLayout.{area_sectors, block_offset, block_place, block_sectors, in_area, leader_offset}
use Rattle.sl_area.specs.AreaRecords.{block_record, leader_record}
use Rattle.sl_area.specs.Roles.{leader}
use Rattle.sl_due.specs.CarriedLease.{carry_lease, convert_for, convert_holding, for_work, grant_for, name_on, next_turn, read_area, read_for, with_command, write_block, write_leader}
use Rattle.sl_due.specs.Steps.{Step, add_call_of, add_end, add_grant, add_reply, seen}
use Rattle.sl_due_leases.proofs.Grants.OthersGoOn.{granted_on}
use Rattle.sl_due_leases.proofs.Grants.Values.ReadsBack.{IsRead, ReadsBack, call_reads, end_reads, grant_reads, later_sessions, reads_go_on, reply_reads}
use Rattle.sl_due_leases.proofs.Holdings.HoldingsByCalls.{call_added}
use Rattle.sl_due_leases.proofs.Holdings.HoldingsByEffects.{later_same}
use Rattle.sl_due_leases.proofs.Holdings.LeaseCallers.{spot_aligned}
use Rattle.sl_due_leases.proofs.Holdings.LeaseConversions.{otherwise}
use Rattle.sl_due_leases.proofs.Holdings.LeasePlaces.{own_on}
use Rattle.sl_run.specs.Lawful.{IsSetting}
use Rattle.sl_run.specs.LawfulArea.{is_area_work}
use Rattle.sl_due_leases.proofs.Leases.TurnsStay.{turned_by}
use Rattle.sl_due_leases.proofs.Ways.WayFactsHeld.HeardStands.{spot_same}
use Rattle.sl_due_leases.proofs.Ways.WayFactsHeld.PlacesStand.{place_is_on, placed_on, spot_is}
use Rattle.sl_trace.specs.Jobs.{command_numbered}
use Rattle.sl_trace.specs.Leases.{is_on, lease_step, spot_of_call}
use Rattle.sl_trace.specs.declared.lease.LeaseNext.{LeaseNext}
use Rattle.sl_trace.specs.declared.lease.LeaseNext.TheVariants.{AnswerJob, BecomeExclusive, BecomeShared, GrantJob, Nothing, ReadFor, WriteBlock, WriteLeader}
use Rattle.sl_sector.specs.declared.sector.Block.{Block}
use Rattle.sl_sector.specs.declared.sector.Leader.{Leader}
use Rattle.sl_trace.specs.Sessions.{is_join_call}
use Rattle.sl_trace.specs.declared.session.Session.{Session}
use Rattle.sl_trace.specs.Traces.{Setting, Submitted, end_of, is_before_input, is_write, new_call, same_place, spot_of_grant, work_job}
use Rattle.sl_trace.specs.declared.effects.Call.{Call}
use Rattle.sl_trace.specs.declared.effects.Grant.{Grant}
use Rattle.sl_trace.specs.declared.effects.JoinStep.TheVariants.{FirstRead}
use Rattle.sl_trace.specs.declared.effects.LeaseRead.TheVariants.{OfArea, OfFree}
use Rattle.sl_trace.specs.declared.effects.LeaseStep.{LeaseStep}
use Rattle.sl_trace.specs.declared.effects.LeaseStep.TheVariants.{ClearMode, FreeLeader, ReadAgain, ReadArea, ReadBeforeFree}
use Rattle.sl_trace.specs.declared.effects.Mode.{Mode}
use Rattle.sl_trace.specs.declared.effects.Mode.TheVariants.{Exclusive, Shared}
use Rattle.sl_trace.specs.declared.effects.Op.{Op}
use Rattle.sl_trace.specs.declared.effects.Op.TheVariants.{ReadSectors, WriteRecord}
use Rattle.sl_trace.specs.declared.effects.Purpose.{Purpose}
use Rattle.sl_trace.specs.declared.effects.Purpose.TheVariants.{Lease, ValueRead}
use Rattle.sl_trace.specs.declared.effects.Spot.{Spot}
use Rattle.sl_trace.specs.declared.effects.Work.{Work}
use Rattle.sl_trace.specs.declared.effects.Work.TheVariants.{ForJob, Settling}
use Rattle.sl_trace.specs.declared.reply.Reply.{Reply}
use Rattle.sl_trace.specs.declared.reply.Reply.TheVariants.{Granted}
use Rattle.sl_words.proofs.CaseLaws.{is_false, true_is_false}
use Rattle.std.proofs.Common.{ap, inl, inr, refl, sym, ◌∙◌}
use Rattle.std.specs.Prelude.{Bool, List, false, is_some, true, ℕ, ◌%◌, ◌&&◌, ◌==◌, ◌≡◌, ◌≤◌, ◌⊎◌}

-- No value is read on the area.
pub record IsElsewhere (x : Step) (at : Spot) : Type 0 where
  pub setting : IsSetting x.setting
  pub aligned : at.base % x.setting.layout.area ≡ 0
  pub free : (m : Submitted) (j : ℕ) (s : Session) → IsRead x x m j s → spot_of_call x.setting.layout m ≡ at → ⊥

-- ---- places apart

never_both : (a b c : Bool) → c ≡ false → (a && (b && c)) ≡ false
never_both true true c is = is
never_both true false c is = refl
never_both false b c is = refl

never_first : (a b : Bool) → (a && (false && b)) ≡ false
never_first true b = refl
never_first false b = refl

-- A call on the area is on no other.
off_area : (x : Step) (at : Spot) (m : Submitted) (c : Call) → at.base % x.setting.layout.area ≡ 0 → (spot_of_call x.setting.layout m ≡ at → ⊥) → is_on x.setting.layout at c ≡ true → is_on x.setting.layout (spot_of_call x.setting.layout m) c ≡ false
off_area x at m c aligned other on = is_false (is_on x.setting.layout (spot_of_call x.setting.layout m) c) (λ is.
    let d : Submitted = new_call 0 0 c in
    other (sym (spot_is x.setting.layout (spot_of_call x.setting.layout m) d (spot_aligned x.setting.layout m) is) ∙ spot_is x.setting.layout at d aligned on))

-- A holding there is none of another place.
places_apart : (a b : Spot) (g e : Grant) → same_place g.path g.offset b.path b.base ≡ true → same_place e.path e.offset a.path a.base ≡ true → (a ≡ b → ⊥) → same_place g.path g.offset e.path e.offset ≡ false
places_apart a b g e at_b at_a other =
    is_false (same_place g.path g.offset e.path e.offset) (λ same. other (sym (spot_same e a at_a) ∙ (sym (spot_same g (spot_of_grant e) same) ∙ spot_same g b at_b)))

-- ---- calls on the area

-- A call of a lease there.
lease_call_reads : (x z : Step) (at : Spot) (s : Session) (work : Work) (step : LeaseStep) (o : ℕ) (op : Op) → IsElsewhere x at
    → (is_write op ≡ false) ⊎ (is_on x.setting.layout at (call_added s.number at.path (Lease work step) o op z) ≡ true) → ReadsBack x z → ReadsBack x (add_call_of s.number at.path (Lease work step) o op z)
lease_call_reads x z at s work step o op e which h =
    call_reads x z s.number at.path (Lease work step) o op (λ j is. true_is_false (ap (λ p. is_some (lease_step p)) is)) (λ k t m there its is. later_sessions x z s.number at.path (Lease work step) o op refl k t is)
    (λ m j t k mine. spare m j t k which) h
  where
    c : Call
    c = call_added s.number at.path (Lease work step) o op z

    spare : (m : Submitted) (j : ℕ) (t : Session) → IsRead x z m j t → (is_write op ≡ false) ⊎ (is_on x.setting.layout at c ≡ true) → (true && (is_write op && is_on x.setting.layout (spot_of_call x.setting.layout m) c)) ≡ false
    spare m j t k (inl read) = ap (λ b. true && (b && is_on x.setting.layout (spot_of_call x.setting.layout m) c)) read
    spare m j t k (inr on) = never_both true (is_write op) (is_on x.setting.layout (spot_of_call x.setting.layout m) c) (off_area x at m c e.aligned (e.free m j t (h.back m j t k)) on)

leader_on : (x z : Step) (at : Spot) (c : Call) → z.setting ≡ x.setting → IsElsewhere x at → c.path ≡ at.path → c.offset ≡ leader_offset at.base → is_on x.setting.layout at c ≡ true
leader_on x z at c same e path place = placed_on x.setting at c path (ap (λ o. in_area x.setting.layout at.base o) place ∙ place_is_on x.setting e.setting at.base leader tt)

-- ---- decisions

reads_there : (x z : Step) (at : Spot) (s : Session) (work : Work) (step : LeaseStep) → IsElsewhere x at → ReadsBack x z → ReadsBack x (read_for s at work step z)
reads_there x z at s work (ReadArea name) e h = lease_call_reads x z at s work (ReadArea name) at.base (ReadSectors (area_sectors z.setting.layout)) e (inl refl) h
reads_there x z at s work ReadBeforeFree e h = lease_call_reads x z at s work ReadBeforeFree at.base (ReadSectors (area_sectors z.setting.layout)) e (inl refl) h
reads_there x z at s work (ReadAgain (OfArea name)) e h = lease_call_reads x z at s work (ReadAgain (OfArea name)) at.base (ReadSectors (area_sectors z.setting.layout)) e (inl refl) h
reads_there x z at s work (ReadAgain OfFree) e h = lease_call_reads x z at s work (ReadAgain OfFree) at.base (ReadSectors (area_sectors z.setting.layout)) e (inl refl) h
reads_there x z at s work step e h = lease_call_reads x z at s work step (block_offset z.setting.layout at.base 1) (ReadSectors (block_sectors z.setting.layout)) e (inl refl) h

block_there : (x z : Step) (at : Spot) (s : Session) (work : Work) (step : LeaseStep) (b : Block) → (1 ≤ s.id) × (s.id ≤ x.setting.layout.hosts) → IsElsewhere x at → ReadsBack x z → ReadsBack x (write_block s at work step b z)
block_there x z at s work step b range e h =
    let turn : ℕ = next_turn z.setting (seen z) s at in
    let o : ℕ = block_place z.setting.layout at.base s.id turn in
    let op : Op = WriteRecord (block_record z.setting.layout turn s.lockspace (name_on z.setting (seen z) s at) b) in
    lease_call_reads x z at s work step o op e
    (inr (own_on x.setting at s.id turn (call_added s.number at.path (Lease work step) o op z) e.setting range refl (ap (λ (st : Setting). block_place st.layout at.base s.id turn) h.setting))) h

leader_there : (x z : Step) (at : Spot) (s : Session) (work : Work) (step : LeaseStep) (l : Leader) → IsElsewhere x at → ReadsBack x z → ReadsBack x (write_leader s at work step l z)
leader_there x z at s work step l e h =
    lease_call_reads x z at s work step (leader_offset at.base) (WriteRecord (leader_record z.setting.layout l)) e
    (inr (leader_on x z at (call_added s.number at.path (Lease work step) (leader_offset at.base) (WriteRecord (leader_record z.setting.layout l)) z) h.setting e refl refl)) h

-- An end there.
pub end_there : (x z : Step) (at : Spot) (g : Grant) → IsElsewhere x at → same_place g.path g.offset at.path at.base ≡ true → ReadsBack x z → ReadsBack x (add_end (end_of g) z)
end_there x z at g e place h =
    end_reads x z (end_of g)
    (λ m j s r p k i is w on its. ap (λ b. (g.process == k.process) && b) (places_apart (spot_of_call x.setting.layout m) at g k place on (e.free m j s (h.back m j s i))) ∙ none_second (g.process == k.process)) h
  where
    none_second : (a : Bool) → (a && false) ≡ false
    none_second true = refl
    none_second false = refl

-- A conversion there.
converted_there : (P : Step → Step) (x z : Step) (at : Spot) (s : Session) (work : Work) (mode : Mode) (lver : ℕ) → IsElsewhere x at → ((y : Step) → ReadsBack x y → ReadsBack x (P y)) → ReadsBack x z
    → ReadsBack x (P (for_work work (λ j. with_command j (λ c. convert_for s at j c mode lver)) z))
converted_there P x z at s Settling mode lver e after h = after z h
converted_there P x z at s (ForJob j) mode lver e after h =
    turned_by (λ y. ReadsBack x (P y)) z s at j mode lver
    (λ c p g command process found.
    let y : Step = add_grant (record g { mode = mode; lver = lver }) (add_end (end_of g) z) in
    after (convert_holding j mode lver g z)
    (reply_reads x y j (Granted lver) (later_same y.past (entry_of y) (record { job = j; reply = Granted lver }) refl)
    (grant_reads x (add_end (end_of g) z) (record g { mode = mode; lver = lver }) (end_there x z at g e (otherwise z s at p mode g found).2 h))))
    (λ none. after z h)

pub read_there : (x z : Step) (at : Spot) (s : Session) (work : Work) (name : List ℕ) → IsElsewhere x at → ReadsBack x z → ReadsBack x (read_area s at work (ReadArea name) z)
read_there x z at s work name e h = reads_there x z at s work (ReadArea name) e h

-- Its replies to a job come after an input.
pub lease_reads : (x z : Step) (s : Session) (at : Spot) (work : Work) (n : LeaseNext) → IsElsewhere x at → (1 ≤ s.id) × (s.id ≤ x.setting.layout.hosts) → ((r : Reply) → n ≡ AnswerJob r → is_before_input r ≡ false) → ReadsBack x z
    → ReadsBack x (carry_lease s at work n z)
unfolding carry_lease
lease_reads x z s at work Nothing e range late h = h
lease_reads x z s at work (ReadFor step) e range late h = reads_there x z at s work step e h
lease_reads x z s at work (WriteBlock step b) e range late h = block_there x z at s work step b range e h
lease_reads x z s at work (WriteLeader step l) e range late h = leader_there x z at s work step l e h
lease_reads x z s at work (AnswerJob r) e range late h =
    with_some_keeps (λ y. ReadsBack x y) (work_job work) (λ j. add_reply j r) z (λ j is k. reply_reads x z j r (later_same z.past (entry_of z) (record { job = j; reply = r }) (late r refl)) k) h
lease_reads x z s at work (GrantJob mode lver) e range late h =
    with_some_keeps (λ y. ReadsBack x y) (work_job work) (λ j. with_command j (λ c. grant_for s j c mode lver)) z
    (λ j is k. with_some_keeps (λ y. ReadsBack x y) (command_numbered z.setting (seen z) j) (λ c. grant_for s j c mode lver) z (λ c found f. granted_on (ReadsBack x) (reads_go_on x) (grant_reads x) z s j c mode lver f) k) h
lease_reads x z s at work (BecomeShared lver l) e range late h =
    converted_there (λ y. write_leader s at Settling FreeLeader l y) x z at s work Shared lver e (λ y k. leader_there x y at s Settling FreeLeader l e k) h
lease_reads x z s at work (BecomeExclusive lver b) e range late h =
    converted_there (λ y. write_block s at Settling ClearMode b y) x z at s work Exclusive lver e (λ y k. block_there x y at s Settling ClearMode b range e k) h

-- A record that is written there.
pub write_there : (x z : Step) (at : Spot) (s : Session) (path : List ℕ) (q : Purpose) (o : ℕ) (op : Op) → IsElsewhere x at → is_join_call FirstRead q ≡ false → ((j : ℕ) → q ≡ ValueRead j → ⊥)
    → is_on x.setting.layout at (call_added s.number path q o op z) ≡ true → ReadsBack x z → ReadsBack x (add_call_of s.number path q o op z)
write_there x z at s path q o op e later none on h =
    call_reads x z s.number path q o op none (λ k t m there its is. later_sessions x z s.number path q o op later k t is)
    (λ m j t k mine. never_both (is_area_work q) (is_write op) (is_on x.setting.layout (spot_of_call x.setting.layout m) (call_added s.number path q o op z)) (off_area x at m (call_added s.number path q o op z) e.aligned (e.free m j t (h.back m j t k)) on)) h
