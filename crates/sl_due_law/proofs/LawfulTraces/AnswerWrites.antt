-- What a lease writes after an answer is a record.
use Rattle.sl_words.specs.Words.{choose, some_is}
use Rattle.sl_due_leases.proofs.Leases.NamesVerified.{ended_wrote}
use Rattle.sl_due_leases.proofs.Ways.NextsFit.WritesFit.{left_is_won}
use Rattle.sl_words.proofs.Options.{then_value}
use Rattle.sl_words.proofs.WordLaws.{choose_some}
use Rattle.sl_due_facts.specs.Acts.Acts.{Hears}
use Rattle.sl_due_law.proofs.LawfulTraces.ValueWrites.{held_lver, not_true, own_is_record}
use Rattle.sl_due_leases.proofs.Holdings.LeaseConversions.{spot_is}
use Rattle.sl_due_facts.proofs.Jobs.SessionsArePresent.{session_has}
use Rattle.sl_words.proofs.Lists.{contains_cases, contains_none, find_inside, kept_inside}
use Rattle.sl_trace.specs.declared.effects.Grant.{Grant}
use Rattle.std.proofs.lemmas.Bool.{eqb-true}
use Rattle.sl_due_facts.proofs.Acts.Pairs.Decisions.{bytes_are}
use Rattle.sl_due_facts.proofs.Acts.Pairs.DecodedRecords.{AreBlocks, ArePairs, blocks_are, leader_is}
use Rattle.sl_due_facts.proofs.Acts.Pairs.GivenByReads.{first_are_pairs, last_are_blocks}
use Rattle.sl_due_facts.proofs.Acts.Pairs.Records.{block_lver}
use Rattle.sl_area.specs.Pairs.{blocks_of}
use Rattle.sl_area.specs.TornLeader.{leader_read}
use Rattle.sl_due.specs.CarriedLease.{goes_on, next_of_lease}
use Rattle.sl_due.specs.Steps.{Step, seen}
use Rattle.sl_due_law.proofs.LawfulTraces.AreaWrites.{areas_well}
use Rattle.sl_due_law.proofs.LawfulTraces.ConversionWrites.{moded}
use Rattle.sl_due_law.proofs.LawfulTraces.LeaderWrites.{leader_well}
use Rattle.sl_due_law.proofs.LawfulTraces.ReleaseWrites.{unmoded}
use Rattle.sl_due_law.proofs.LawfulTraces.SettleWrites.{MayWrite, OwnWell, begins_well, may_write, own_well, refuses_well, settles_known, submitted_known, within_well}
use Rattle.sl_due_law.specs.LawfulTraces.Writes.{LeaseWrites}
use Rattle.sl_due_law.proofs.LawfulTraces.BallotWrites.{phase1_own}
use Rattle.sl_area.specs.AreaSizes.{sizes}
use Rattle.sl_lease.proofs.RecordFacts.{phase2_begun}
use Rattle.sl_lease.specs.Bounds.{IsBegun}
use Rattle.sl_due_leases.proofs.Leases.WorkIsActive.{work_is_active}
use Rattle.sl_due_leases.proofs.Ways.WayFactsHeld.EffectsLeave.{there_has}
use Rattle.sl_due_leases.proofs.Ways.WayFactsHeld.HeardStands.{heard_call, heard_has, heard_open}
use Rattle.sl_due_leases.proofs.Ways.WaysAreLawful.BallotLaws.{own_begun}
use Rattle.sl_due_leases.proofs.Ways.NewestCall.{block_is, submitted_here}
use Rattle.sl_due_leases.proofs.Ways.AreasAligned.{spot_aligned}
use Rattle.sl_due_leases.proofs.Ways.WayNumbers.{EndsBy, ended_below, ends_by, is_verified, lver_of, own_lver}
use Rattle.sl_trace.specs.Ballots.{ballot_blocks, is_ahead, moded_block, phase2_block, same_owner, stop_of, value_of}
use Rattle.sl_trace.specs.LeaseDecisions.{LeasePlace, after_clearing, after_freeing, after_moding, after_phase1, after_phase2, after_read, after_take, begin_next, first_step, heard, leader_for, lease_next, lease_place, looks_for_shared, lost_next, phase2_next, settle_next, stopped_next, unstopped_next, won_next}
use Rattle.sl_trace.specs.Leases.{LeaseKnown, base_turn, block_submitted, ended_ballot, ended_ballots, exclusive_on, holdings_on, known, lease_calls, lease_step, lver_written, mode_gen_of, owed_free, shared_elsewhere, spot_of_call, verified_name}
use Rattle.sl_trace.specs.declared.lease.Aim.TheVariants.{Acquires, Converts, Releases, Settles}
use Rattle.sl_trace.specs.declared.lease.Aim.{Aim}
use Rattle.sl_trace.specs.declared.lease.LeaseNext.TheVariants.{AnswerJob, BecomeExclusive, BecomeShared, Nothing, WriteBlock, WriteLeader}
use Rattle.sl_trace.specs.declared.lease.LeaseNext.{LeaseNext}
use Rattle.sl_trace.specs.declared.lease.Stop.{Stop}
use Rattle.sl_sector.specs.Records.{Fits, IsLeader}
use Rattle.sl_sector.specs.declared.sector.Block.{Block}
use Rattle.sl_sector.specs.declared.sector.Owner.{Owner}
use Rattle.sl_due_facts.proofs.Connections.ConnectionLines.{active_is_joined}
use Rattle.sl_trace.specs.Sessions.{holdings_of, is_active, me, session_numbered, sessions}
use Rattle.sl_trace.specs.declared.session.Session.{Session}
use Rattle.sl_due_facts.specs.Facts.WayFacts.{IsAligned, ModeWay, PurposeWay, WayContext, Ways, way_context}
use Rattle.sl_due_facts.specs.Facts.AllFacts.{Whole}
use Rattle.sl_trace.specs.Traces.{Submitted, holdings, is_shared, job_of, same_place}
use Rattle.sl_run.specs.LawfulArea.{is_area_work}
use Rattle.sl_trace.specs.declared.effects.LeaseStep.TheVariants.{ClearMode, FreeLeader, Phase1Read, Phase1Write, Phase2Read, Phase2Write, ReadAgain, ReadArea, ReadBeforeBlock, ReadBeforeFree, SetMode, TakeLeader}
use Rattle.sl_trace.specs.declared.effects.LeaseStep.{LeaseStep}
use Rattle.sl_trace.specs.declared.effects.Mode.TheVariants.{Exclusive, Shared}
use Rattle.sl_trace.specs.declared.effects.Purpose.TheVariants.{Lease}
use Rattle.sl_trace.specs.declared.effects.Spot.{Spot}
use Rattle.sl_trace.specs.declared.effects.Work.TheVariants.{ForJob, Settling}
use Rattle.sl_trace.specs.declared.effects.Work.{Work}
use Rattle.sl_trace.specs.declared.input.Answer.TheVariants.{Failed, Read, Written}
use Rattle.sl_trace.specs.declared.input.Answer.{Answer}
use Rattle.sl_trace.specs.declared.reply.Reply.TheVariants.{Held as HeldBy, IoFault, Shared as SharedBy}
use Rattle.sl_words.proofs.CaseLaws.{none_some, some_value}
use Rattle.sl_sector.specs.declared.sector.Leader.{Leader}
use Rattle.std.proofs.Common.{ap, arith, inl, inr, refl, subst, sym, ◌∙◌}
use Rattle.std.specs.Option.{option_map_or}
use Rattle.std.specs.Prelude.{Bool, Contains, List, None, Option, Some, [], false, is_some, not, option_map, true, ℕ, ◌+◌, ◌<◌, ◌==◌, ◌∷◌, ◌≡◌, ◌≤◌}

-- ---- the own block's instance

above : (a n : ℕ) → a < n → 1 ≤ n
above a n less = omega (arith, less)

-- So the instance of each ballot that ended is one.
ended_one : (w : WayContext) (ms : List Submitted) → Ways w ms → (n : ℕ) (o : Owner) → Contains (ended_ballots w.layout ms) (n, o) → 1 ≤ n
ended_one w [] h n o there = absurd (contains_none (n, o) there)
ended_one w (m ∷ ms) h n o there = by (ended_ballot w.layout m ms) refl there (λ rest. ended_one w ms h.1 n o rest) where
  ended : ended_ballot w.layout m ms ≡ Some (n, o) → 1 ≤ n
  ended is = let e : EndsBy w.layout m ms n o = ends_by w.layout m ms n o is in subst (λ z. 1 ≤ z) e.lver (own_begun w ms h.1 e.own e.known)

  by : (e : Option (ℕ × Owner)) → ended_ballot w.layout m ms ≡ e → Contains (elim e as (λ z. List (ℕ × Owner)) [ None ↦ ended_ballots w.layout ms | Some p ↦ p ∷ ended_ballots w.layout ms ]) (n, o)
      → (Contains (ended_ballots w.layout ms) (n, o) → 1 ≤ n) → 1 ≤ n
  by None is inside rest = rest inside
  by (Some p) is inside rest = elim (contains_cases p (ended_ballots w.layout ms) (n, o) inside) [ inl same ↦ ended (is ∙ ap (λ z. Some z) same) | inr further ↦ rest further ]

smaller : (a b c : ℕ) → a ≤ b → b ≡ c → Fits c → Fits a
smaller a b c low same fits = omega (arith, low, same, fits)

-- Who has submitted a block may write leaders.
record LeadWell (p : LeasePlace) (k : LeaseKnown) : Type 0 where
  begun : (b : Block) → k.own ≡ Some b → 1 ≤ b.lver
  leads : (held : Bool) (n : ℕ) (b : Block) → k.own ≡ Some b → 1 ≤ n → Fits n → IsLeader (leader_for p k held n)

-- The instance of an exclusive holding may be freed.
record IsHeldUnder (k : LeaseKnown) (e : ℕ) : Type 0 where
  one : 1 ≤ e
  fits : Fits e
  own : Block
  knows : k.own ≡ Some own

-- The block that was written is the own one.
record IsOwn (k : LeaseKnown) (n : ℕ) : Type 0 where
  own : Block
  knows : k.own ≡ Some own
  under : n ≡ own.lver

-- ---- by the answer

some_hosts : (id hosts : ℕ) → (1 ≤ id) × (id ≤ hosts) → 1 ≤ hosts
some_hosts id hosts within = omega (arith, within.0, within.1)

one_more : (n : ℕ) → 1 ≤ n + 1
one_more n = omega arith

stopped_well : (p : LeasePlace) (k : LeaseKnown) (aim : Aim) (stop : Stop) → MayWrite p k → OwnWell k → LeaseWrites (stopped_next p k aim stop)
stopped_well p k (Acquires mode) stop may well = tt
stopped_well p k (Converts mode) stop may well = tt
stopped_well p k Releases stop may well = tt
stopped_well p k Settles stop may well = by (is_ahead stop) where
  by : (b : Bool) → LeaseWrites (elim b as (λ z. LeaseNext) [ true ↦ settle_next p k | false ↦ Nothing ])
  by true = settles_known p k may well
  by false = tt

won_well : (p : LeasePlace) (k : LeaseKnown) (aim : Aim) (own : Block) → k.own ≡ Some own → OwnWell k → LeadWell p k → LeaseWrites (won_next p k aim own.lver)
won_well p k (Acquires mode) own is well lead = lead.leads true own.lver own is (lead.begun own is) (well.own own is).lver
won_well p k (Converts mode) own is well lead = lead.leads true own.lver own is (lead.begun own is) (well.own own is).lver
won_well p k Releases own is well lead = tt
won_well p k Settles own is well lead = lead.leads false own.lver own is (lead.begun own is) (well.own own is).lver

next_well : (p : LeasePlace) (k : LeaseKnown) (aim : Aim) (n : ℕ) (o : Owner) (over : Bool) → MayWrite p k → ((b : Block) × (k.own ≡ Some b)) → OwnWell k
    → LeaseWrites (elim over as (λ z. LeaseNext) [ true ↦ begin_next p k aim (n + 1) | false ↦ AnswerJob (HeldBy n o) ])
next_well p k aim n o true may own well = begins_well p k aim (n + 1) may (one_more n) (submitted_known k own.0 own.1 well)
next_well p k aim n o false may own well = tt

lost_well : (p : LeasePlace) (k : LeaseKnown) (aim : Aim) (n : ℕ) (o : Owner) → MayWrite p k → ((b : Block) × (k.own ≡ Some b)) → OwnWell k → LeaseWrites (lost_next p k aim n o)
lost_well p k (Acquires mode) n o may own well = next_well p k (Acquires mode) n o (k.over o.id o.generation) may own well
lost_well p k (Converts mode) n o may own well = next_well p k (Converts mode) n o (k.over o.id o.generation) may own well
lost_well p k Releases n o may own well = tt
lost_well p k Settles n o may own well = settles_known p k may well

phase2_well : (p : LeasePlace) (k : LeaseKnown) (aim : Aim) (own : Block) (stop : Option Stop) → k.own ≡ Some own → MayWrite p k → OwnWell k → LeadWell p k → LeaseWrites (after_phase2 p k aim own stop)
phase2_well p k aim own (Some stop) is may well lead = stopped_well p k aim stop may well
phase2_well p k aim own None is may well lead = by (same_owner (value_of own) k.self) where
  by : (b : Bool) → LeaseWrites (elim b as (λ z. LeaseNext) [ true ↦ won_next p k aim own.lver | false ↦ lost_next p k aim own.lver (value_of own) ])
  by true = won_well p k aim own is well lead
  by false = lost_well p k aim own.lver (value_of own) may (own, is) well

proposes_well : (p : LeasePlace) (k : LeaseKnown) (own : Block) (read : List (Option Block)) → MayWrite p k → IsBegun own → AreBlocks read → LeaseWrites (phase2_next k own read)
proposes_well p k own read may begun all =
    (phase2_begun (sizes 0 0 p.layout.hosts) k.self own read k.shared (moded_block (phase2_block k.self own (ballot_blocks own read)) k.shared (mode_gen_of k)) (record { id = may.id; generation = may.generation }) may.hosts begun all refl).block

unstopped_well : (p : LeasePlace) (k : LeaseKnown) (aim : Aim) (own : Block) (read : List (Option Block)) → MayWrite p k → IsBegun own → AreBlocks read → LeaseWrites (unstopped_next k aim own read)
unstopped_well p k aim own read may begun all = by (looks_for_shared aim) where
  alone : (o : Option Block) → LeaseWrites (elim o as (λ z. LeaseNext) [ Some b ↦ AnswerJob (SharedBy (record { id = b.host; generation = b.mode_gen })) | None ↦ phase2_next k own read ])
  alone None = proposes_well p k own read may begun all
  alone (Some b) = tt

  by : (b : Bool) → LeaseWrites (elim b as (λ z. LeaseNext) [
    | false ↦ phase2_next k own read
    | true ↦ elim (shared_elsewhere k read) as (λ z. LeaseNext) [ Some b ↦ AnswerJob (SharedBy (record { id = b.host; generation = b.mode_gen })) | None ↦ phase2_next k own read ]
  ])
  by false = proposes_well p k own read may begun all
  by true = alone (shared_elsewhere k read)

phase1_well : (p : LeasePlace) (k : LeaseKnown) (aim : Aim) (own : Block) (read : List (Option Block)) (stop : Option Stop) → MayWrite p k → OwnWell k → IsBegun own → AreBlocks read → LeaseWrites (after_phase1 p k aim own read stop)
phase1_well p k aim own read (Some stop) may well begun all = stopped_well p k aim stop may well
phase1_well p k aim own read None may well begun all = unstopped_well p k aim own read may begun all

begun_well : (p : LeasePlace) (k : LeaseKnown) (aim : Aim) (read : List (Option Block)) (o : Option Block) → MayWrite p k → OwnWell k → AreBlocks read → ((own : Block) → o ≡ Some own → IsBegun own)
    → LeaseWrites (option_map_or (λ own. after_phase1 p k aim own read (stop_of own read)) o Nothing)
begun_well p k aim read None may well all begun = tt
begun_well p k aim read (Some own) may well all begun = phase1_well p k aim own read (stop_of own read) may well (begun own refl) all

ended_well : (p : LeasePlace) (k : LeaseKnown) (aim : Aim) (read : List (Option Block)) (o : Option Block) → k.own ≡ o → MayWrite p k → OwnWell k → LeadWell p k
    → LeaseWrites (option_map_or (λ own. after_phase2 p k aim own (stop_of own read)) o Nothing)
ended_well p k aim read None is may well lead = tt
ended_well p k aim read (Some own) is may well lead = phase2_well p k aim own (stop_of own read) is may well lead

take_well : (p : LeasePlace) (k : LeaseKnown) (aim : Aim) (n : ℕ) → MayWrite p k → OwnWell k → LeadWell p k → LeaseWrites (after_take k aim n)
take_well p k (Acquires Exclusive) n may well lead = tt
take_well p k (Acquires Shared) n may well lead = by k.own refl where
  by : (o : Option Block) → k.own ≡ o → LeaseWrites (option_map_or (λ own. WriteBlock SetMode (moded_block own true k.self.generation)) o Nothing)
  by None is = tt
  by (Some own) is = moded own k.self.generation (well.own own is) (lead.begun own is) may.generation.0 may.generation.1
take_well p k (Converts Exclusive) n may well lead = by k.own refl where
  by : (o : Option Block) → k.own ≡ o → LeaseWrites (option_map_or (λ own. BecomeExclusive n (moded_block own false 0)) o Nothing)
  by None is = tt
  by (Some own) is = unmoded own (well.own own is)
take_well p k (Converts Shared) n may well lead = tt
take_well p k Releases n may well lead = tt
take_well p k Settles n may well lead = tt

freeing_well : (p : LeasePlace) (k : LeaseKnown) (aim : Aim) (n : ℕ) → MayWrite p k → OwnWell k → LeaseWrites (after_freeing p k aim n)
freeing_well p k (Acquires mode) n may well = tt
freeing_well p k (Converts mode) n may well = tt
freeing_well p k Releases n may well = tt
freeing_well p k Settles n may well = settles_known p k may well

clearing_well : (p : LeasePlace) (k : LeaseKnown) (aim : Aim) → MayWrite p k → OwnWell k → LeaseWrites (after_clearing p k aim)
clearing_well p k (Acquires mode) may well = tt
clearing_well p k (Converts mode) may well = tt
clearing_well p k Releases may well = tt
clearing_well p k Settles may well = settles_known p k may well

moding_well : (p : LeasePlace) (k : LeaseKnown) (aim : Aim) (n : ℕ) → OwnWell k → LeadWell p k → IsOwn k n → ((e : ℕ) → k.exclusive ≡ Some e → IsHeldUnder k e) → LeaseWrites (after_moding p k aim n)
moding_well p k (Acquires mode) n well lead set held =
    lead.leads false n set.own set.knows (subst (λ z. 1 ≤ z) (sym set.under) (lead.begun set.own set.knows)) (subst (λ z. Fits z) (sym set.under) (well.own set.own set.knows).lver)
moding_well p k (Converts mode) n well lead set held = by k.exclusive refl where
  by : (o : Option ℕ) → k.exclusive ≡ o → LeaseWrites (option_map_or (λ e. BecomeShared e (leader_for p k false e)) o Nothing)
  by None is = tt
  by (Some e) is = let h = held e is in lead.leads false e h.own h.knows h.one h.fits
moding_well p k Releases n well lead set held = tt
moding_well p k Settles n well lead set held = tt

owed_well : (p : LeasePlace) (k : LeaseKnown) → LeadWell p k → ((n : ℕ) → k.won ≡ Some n → IsHeldUnder k n) → LeaseWrites (option_map_or (λ n. WriteLeader FreeLeader (leader_for p k false n)) (owed_free k) Nothing)
owed_well p k lead won = by (owed_free k) refl where
  by : (o : Option ℕ) → owed_free k ≡ o → LeaseWrites (option_map_or (λ n. WriteLeader FreeLeader (leader_for p k false n)) o Nothing)
  by None is = tt
  by (Some n) is =
      let from = then_value (λ m. choose (not (some_is (λ e. e == m) k.exclusive)) m) k.won n is in
      let same : from.0 ≡ n = (choose_some (not (some_is (λ e. e == from.0) k.exclusive)) from.0 n from.2).1 in
      let h = won n (subst (λ z. k.won ≡ Some z) same from.1) in lead.leads false n h.own h.knows h.one h.fits

-- After a read that gave this leader and these blocks.
read_known : (p : LeasePlace) (k : LeaseKnown) (aim : Aim) (leader : Option Leader) (read : List (Option Block)) (step : LeaseStep) → ((l : Leader) → leader ≡ Some l → IsLeader l) → AreBlocks read
    → MayWrite p k → OwnWell k → LeadWell p k → AreBlocks k.read → ((n : ℕ) → k.won ≡ Some n → IsHeldUnder k n) → (step ≡ Phase1Read → (own : Block) → k.own ≡ Some own → IsBegun own)
    → LeaseWrites (after_read p k aim leader read step)
read_known p k aim leader read (ReadArea name) leads shows may well lead all won h = areas_well p k aim name leader read leads may well all
read_known p k aim leader read ReadBeforeFree leads shows may well lead all won h = owed_well p k lead won
read_known p k aim leader read ReadBeforeBlock leads shows may well lead all won h = settles_known p k may well
read_known p k aim leader read (ReadAgain again) leads shows may well lead all won h = tt
read_known p k aim leader read Phase1Read leads shows may well lead all won h = begun_well p k aim read k.own may well shows (h refl)
read_known p k aim leader read Phase2Read leads shows may well lead all won h = ended_well p k aim read k.own refl may well lead
read_known p k aim leader read Phase1Write leads shows may well lead all won h = tt
read_known p k aim leader read Phase2Write leads shows may well lead all won h = tt
read_known p k aim leader read TakeLeader leads shows may well lead all won h = tt
read_known p k aim leader read SetMode leads shows may well lead all won h = tt
read_known p k aim leader read FreeLeader leads shows may well lead all won h = tt
read_known p k aim leader read ClearMode leads shows may well lead all won h = tt

answers_known : (p : LeasePlace) (k : LeaseKnown) (aim : Aim) (call n : ℕ) (step : LeaseStep) (answer : Answer) → ArePairs k.kept → MayWrite p k → OwnWell k → LeadWell p k → AreBlocks k.read → (step ≡ SetMode → IsOwn k n) → ((e : ℕ) → k.exclusive ≡ Some e → IsHeldUnder k e) → ((n : ℕ) → k.won ≡ Some n → IsHeldUnder k n)
    → (first_step step ≡ Phase1Read → (own : Block) → k.own ≡ Some own → IsBegun own) → LeaseWrites (lease_next p k aim call n step answer)
unfolding lease_next
answers_known p k aim call n step Failed kept may well lead all set held won h = refuses_well aim (IoFault call)
answers_known p k aim call n step (Read bytes) kept may well lead all set held won h =
    bytes_are LeaseWrites p k aim bytes step (λ read again. tt)
    (λ once. read_known p k aim (leader_read p.layout bytes (heard p.layout k bytes step)) (blocks_of p.layout (heard p.layout k bytes step)) (first_step step)
    (λ l is. leader_is p.layout (some_hosts k.self.id p.layout.hosts may.id, may.hosts) bytes (heard p.layout k bytes step) kept l is) (blocks_are p.layout (heard p.layout k bytes step) kept) may well lead all won h)
answers_known p k aim call n (ReadArea name) Written kept may well lead all set held won h = tt
answers_known p k aim call n ReadBeforeBlock Written kept may well lead all set held won h = tt
answers_known p k aim call n (ReadAgain read) Written kept may well lead all set held won h = tt
answers_known p k aim call n ReadBeforeFree Written kept may well lead all set held won h = tt
answers_known p k aim call n Phase1Read Written kept may well lead all set held won h = tt
answers_known p k aim call n Phase2Read Written kept may well lead all set held won h = tt
answers_known p k aim call n Phase1Write Written kept may well lead all set held won h = tt
answers_known p k aim call n Phase2Write Written kept may well lead all set held won h = tt
answers_known p k aim call n TakeLeader Written kept may well lead all set held won h = take_well p k aim n may well lead
answers_known p k aim call n SetMode Written kept may well lead all set held won h = moding_well p k aim n well lead (set refl) held
answers_known p k aim call n FreeLeader Written kept may well lead all set held won h = freeing_well p k aim n may well
answers_known p k aim call n ClearMode Written kept may well lead all set held won h = clearing_well p k aim may well

-- ---- a session's lease

lead_well : (x : Step) (s : Session) (at : Spot) → Whole x → Contains (sessions x.setting (seen x)) s → is_active x.setting (seen x) s ≡ true → IsAligned x.setting at
    → LeadWell (lease_place x.setting s) (known x.setting (seen x) s at)
unfolding known
lead_well x s at w inside active aligned =
    let ways = w.facts.ways.each s at inside aligned in
    let numbers = w.facts.delta.numbers s inside (active_is_joined x.setting (seen x) s active) in
    record {
      begun = λ b is. own_begun (way_context x.setting (seen x) s) (lease_calls x.setting (seen x) s at) ways b is;
      leads = λ held n b is one fits.
          leader_well x.setting (seen x) s at held n w.setting inside numbers ways (is_verified (way_context x.setting (seen x) s) (lease_calls x.setting (seen x) s at) ways b is) one fits;
    }

read_well : (x : Step) (s : Session) (at : Spot) → AreBlocks (known x.setting (seen x) s at).read
unfolding known
read_well x s at = last_are_blocks x.setting.layout (lease_calls x.setting (seen x) s at)

kept_well : (x : Step) (s : Session) (at : Spot) → ArePairs (known x.setting (seen x) s at).kept
unfolding known
kept_well x s at = first_are_pairs x.setting.layout (lease_calls x.setting (seen x) s at)

held_under : (x : Step) (s : Session) (at : Spot) (e : ℕ) → Whole x → Contains (sessions x.setting (seen x)) s → (known x.setting (seen x) s at).exclusive ≡ Some e → IsHeldUnder (known x.setting (seen x) s at) e
unfolding known
held_under x s at e w inside is = by (exclusive_on (seen x) s at) refl is where
  by : (o : Option Grant) → exclusive_on (seen x) s at ≡ o → option_map (λ g. g.lver) o ≡ Some e → IsHeldUnder (known x.setting (seen x) s at) e
  by None found its = absurd (none_some e its)
  by (Some g) found its =
      let same : g.lver ≡ e = some_value g.lver e its in
      let held = find_inside (λ (z : Grant). not (is_shared z.mode)) (holdings_on (seen x) s at) g found in
      let on = kept_inside (λ (z : Grant). same_place z.path z.offset at.path at.base) (holdings_of (seen x) s) g held.0 in
      let mine = kept_inside (λ (z : Grant). z.session == s.number) (holdings (seen x)) g on.0 in
      let alone = not_true (is_shared g.mode) held.1 in
      let has : session_numbered x.setting (seen x) g.session ≡ Some s = subst (λ n. session_numbered x.setting (seen x) n ≡ Some s) (sym (eqb-true g.session s.number mine.1)) (session_has x.setting (seen x) s inside) in
      let stands = w.facts.holdings.stands g s mine.0 has alone in
      record {
        one = subst (λ n. 1 ≤ n) same (above _ g.lver stands.not_freed);
        fits = subst (λ n. Fits n) same (held_lver x g w mine.0 alone);
        own = stands.own;
        knows = subst (λ z. block_submitted (lease_calls x.setting (seen x) s z) ≡ Some stands.own) (spot_is g at on.1) stands.known;
      }

won_under : (x : Step) (s : Session) (at : Spot) (n : ℕ) → Whole x → Contains (sessions x.setting (seen x)) s → IsAligned x.setting at → (known x.setting (seen x) s at).won ≡ Some n → IsHeldUnder (known x.setting (seen x) s at) n
unfolding known
won_under x s at n w inside aligned is =
    let ms : List Submitted = lease_calls x.setting (seen x) s at in
    let ways = w.facts.ways.each s at inside aligned in
    let there = left_is_won x.setting.layout (me (seen x) s) ms n is in
    let wrote = ended_wrote x.setting.layout ms n (me (seen x) s) there in
    record {
      one = ended_one (way_context x.setting (seen x) s) ms ways n (me (seen x) s) there;
      fits = smaller n (own_lver ms) wrote.0.lver (ended_below (way_context x.setting (seen x) s) ms ways n (me (seen x) s) there) (lver_of ms wrote.0 wrote.1) (own_is_record x s at wrote.0 w wrote.1).lver;
      own = wrote.0;
      knows = wrote.1;
    }

set_own : (x : Step) (s : Session) (work : Work) (m : Submitted) (answer : Answer) → Whole x → Hears x s m answer → m.call.purpose ≡ Lease work SetMode → IsOwn (known x.setting (seen x) s (spot_of_call x.setting.layout m)) (lver_written m)
unfolding known
set_own x s work m answer w h is =
    let at : Spot = spot_of_call x.setting.layout m in
    let first = w.facts.turns.newest s m h.session (heard_call x s m answer h w).there (heard_open x s m answer h) (ap (λ p. is_some (lease_step p)) is) in
    let inside = there_has x.setting (seen x) s.number s (heard_has x s m answer h) in
    let ways : Ways (way_context x.setting (seen x) s) (m ∷ first.0) =
    subst (λ ms. Ways (way_context x.setting (seen x) s) ms) first.1 (w.facts.ways.each s at inside (spot_aligned x.setting.layout.area m.call.offset))
    in
    let way : ModeWay (way_context x.setting (seen x) s) work m.at m.call first.0 = subst (λ p. PurposeWay (way_context x.setting (seen x) s) m.at m.call first.0 p) is ways.0.way in
    let context : WayContext = way_context x.setting (seen x) s in
    let b : Block = moded_block way.own true (me (seen x) s).generation in
    record {
      own = b;
      knows = ap (λ ms. block_submitted ms) first.1 ∙ submitted_here m first.0 b (block_is context first.0 m b way.wrote);
      under = block_lver context.layout (base_turn context.layout context.self.id first.0 + 1) context.lockspace (verified_name context.layout context.lockspace first.0) m b way.wrote;
    }

-- After the read of phase 1 the own block is one that a ballot has begun.
begun_own : (x : Step) (s : Session) (work : Work) (step : LeaseStep) (m : Submitted) (answer : Answer) → Whole x → Hears x s m answer → m.call.purpose ≡ Lease work step → first_step step ≡ Phase1Read
    → (own : Block) → (known x.setting (seen x) s (spot_of_call x.setting.layout m)).own ≡ Some own → IsBegun own
unfolding known
begun_own x s work step m answer w h is reads own knows =
    let at : Spot = spot_of_call x.setting.layout m in
    let inside = there_has x.setting (seen x) s.number s (heard_has x s m answer h) in
    let one = phase1_own x s work step m answer w h is reads in
    let same : one.own ≡ own = some_value one.own own (sym one.knows ∙ knows) in
    record {
      block = own_is_record x s at own w knows;
      begun = (
        own_begun (way_context x.setting (seen x) s) (lease_calls x.setting (seen x) s at) (w.facts.ways.each s at inside (spot_aligned x.setting.layout.area m.call.offset)) own knows,
        subst (λ (z : Block). 1 ≤ z.mbal) same one.mbal,
      );
    }

-- What a lease writes after an answer.
pub answers_well : (x : Step) (s : Session) (work : Work) (step : LeaseStep) (m : Submitted) (answer : Answer) (aim : Aim) → Whole x → Hears x s m answer → m.call.purpose ≡ Lease work step
    → goes_on x.setting (seen x) s work ≡ true → LeaseWrites (next_of_lease x.setting (seen x) s (spot_of_call x.setting.layout m) aim m step answer)
answers_well x s work step m answer aim w h is on =
    let inside = there_has x.setting (seen x) s.number s (heard_has x s m answer h) in
    let aligned = spot_aligned x.setting.layout.area m.call.offset in
    let active : is_active x.setting (seen x) s ≡ true = by work is on in
    within_well (lease_place x.setting s) (known x.setting (seen x) s (spot_of_call x.setting.layout m)) aim _
    (answers_known (lease_place x.setting s) (known x.setting (seen x) s (spot_of_call x.setting.layout m)) aim m.call.number _ step answer (kept_well x s (spot_of_call x.setting.layout m))
    (may_write x s (spot_of_call x.setting.layout m) w inside (w.facts.delta.numbers s inside (active_is_joined x.setting (seen x) s active))) (own_well x s (spot_of_call x.setting.layout m) w inside aligned)
    (lead_well x s (spot_of_call x.setting.layout m) w inside active aligned) (read_well x s (spot_of_call x.setting.layout m))
    (λ sets. set_own x s work m answer w h (subst (λ z. m.call.purpose ≡ Lease work z) sets is)) (λ e. held_under x s (spot_of_call x.setting.layout m) e w inside) (λ n. won_under x s (spot_of_call x.setting.layout m) n w inside aligned)
    (λ reads. begun_own x s work step m answer w h is reads))
  where
    by : (work : Work) → m.call.purpose ≡ Lease work step → goes_on x.setting (seen x) s work ≡ true → is_active x.setting (seen x) s ≡ true
    by Settling is on = on
    by (ForJob j) is on = (work_is_active x w).each s m answer j h (ap (λ p. is_area_work p) is) (ap (λ p. job_of p) is) on
