-- What a command came to keeps the laws of areas, blocks and leaders; so does the request that is written after its read.
use Rattle.sl_due_facts.proofs.Acts.DecisionsAreTheirs.{Of, decisions_are_theirs}
use Rattle.sl_due_facts.proofs.Acts.PlainActs.{line_has}
use Rattle.sl_due_facts.specs.Acts.Acts.{Has, Hears, next_of_conversion, next_of_release}
use Rattle.sl_due_facts.specs.Acts.DueDaemons.{IsDecidedFor}
use Rattle.sl_due_facts.specs.Acts.TraceSoFar.{entry_of}
use Rattle.sl_area.specs.AreaLayout.{in_area, leader_of, read_at, request_offset, value_offset}
use Rattle.sl_area.specs.Roles.{leader, request, value}
use Rattle.sl_due.specs.DueCommands.{after_end, carry_decision, decided, reply_at_once}
use Rattle.sl_due.specs.CarriedLease.{carry_lease, read_area}
use Rattle.sl_due.specs.DueRequests.{after_request_read, owner_read, request_refusal, write_request}
use Rattle.sl_due.specs.Steps.{Step, add_call_of, add_end, add_reply, seen, with_input}
use Rattle.sl_due.specs.declared.decision.Decision.TheVariants.{ConvertsTo, GetsValue, GivesUp, Joins, Leaves, ReadsArea, Replies, Requests, SetsValue, Shares, TakesOver}
use Rattle.sl_due.specs.declared.decision.Decision.{Decision}
use Rattle.sl_run.specs.LawfulArea.{HasVerified, IsRightRead, LawfulAreaWrite, is_area_work, is_leader_read, open_block_work}
use Rattle.sl_due_leases.proofs.Leases.DeltasStay.{first_other}
use Rattle.sl_due_leases.proofs.Leases.LawsStay.{calls_stay}
use Rattle.sl_due_leases.proofs.Leases.LeaseCallsStay.{LeaseMay, reads_stay, works_clear}
use Rattle.sl_due_leases.proofs.Leases.NamesVerified.{has_verified, mapped_inside}
use Rattle.sl_due_leases.proofs.Leases.NextsStay.{bare_lawful, held_there, is_leader_next, next_stays, turns}
use Rattle.sl_due_leases.proofs.Leases.OthersKeep.{Any, LawfulSoFar, Others, by_others, no_others, other_more, others_are_lawful}
use Rattle.sl_due_leases.proofs.Ways.WayFactsHeld.ActsKeep.{asked_of, stand}
use Rattle.sl_request.specs.Requests.{check_request}
use Rattle.sl_sector.specs.SectorLayouts.{request_in}
use Rattle.sl_due_leases.proofs.Ways.WayFactsHeld.DecisionsAreClear.{DecidedOn, IsAsked, decisions_are_clear}
use Rattle.sl_due_leases.proofs.Ways.WayFactsHeld.EffectsLeave.{made_call, there_has}
use Rattle.sl_due_leases.proofs.Ways.WayFactsHeld.HeardStands.{HeardCall, heard_call, lease_ready, spot_same}
use Rattle.sl_due_leases.proofs.Ways.WayFactsHeld.InputsLeave.{input_sessions, quiet_inputs_leave, quiet_same}
use Rattle.sl_due_leases.proofs.Ways.WayFactsHeld.LeaseNextsLeave.{HasEnded, LeaseReady}
use Rattle.sl_due_leases.proofs.Ways.WayFactsHeld.LinesKeep.{ended_ready, ended_still, held_ended, line_command}
use Rattle.sl_due_leases.proofs.Ways.WayFactsHeld.LinesReady.{line_ready, on_own}
use Rattle.sl_due_leases.proofs.Ways.WayFactsHeld.PlacesStand.{place_is_on, placed_on, spot_is}
use Rattle.sl_due_leases.proofs.Ways.WayFactsHeld.PlainWalks.{granting, stopped}
use Rattle.sl_due_facts.proofs.Acts.Pairs.Decisions.{conversion_is, release_is}
use Rattle.sl_due_leases.proofs.Ways.WayFactsHeld.DecidedFits.{conversion_fits, release_fits}
use Rattle.sl_due_leases.proofs.Ways.WayNumbers.{is_verified}
use Rattle.sl_due_leases.proofs.Ways.WayStages.{is_at_in}
use Rattle.sl_trace.specs.Ballots.{moded_block}
use Rattle.sl_trace.specs.Jobs.{aim_of, aim_of_command, command_numbered, resource_named}
use Rattle.sl_trace.specs.Conversions.{convert_next}
use Rattle.sl_trace.specs.LeaseDecisions.{lease_place}
use Rattle.sl_trace.specs.Releases.{release_next}
use Rattle.sl_trace.specs.Leases.{Phase2_read, block_of_record, block_submitted, holdings_on, is_lease_call, is_leader_of, is_on, is_second, kind_of_step, same_kind, known, lease_calls, lease_step, leader_of_record, spot_of, spot_of_call, turn_of_record, verified_name}
use Rattle.sl_trace.specs.declared.lease.Aim.TheVariants.{Converts, Releases}
use Rattle.sl_trace.specs.declared.lease.LeaseNext.TheVariants.{Nothing, WriteBlock}
use Rattle.sl_trace.specs.declared.lease.LeaseNext.{LeaseNext}
use Rattle.sl_sector.specs.declared.sector.Block.{Block}
use Rattle.sl_sector.specs.declared.sector.Leader.{Leader}
use Rattle.sl_sector.specs.declared.sector.Rec.TheVariants.{ValueIs}
use Rattle.sl_sector.specs.declared.sector.Rec.{Rec}
use Rattle.sl_trace.specs.Sessions.{calls_of, is_active, is_call_of, is_join_call, is_joined, joined_after, leaves, leaving_in, leaving_job, recovery_of, removed_after, session_numbered}
use Rattle.sl_trace.specs.declared.session.Session.{Session}
use Rattle.sl_due_facts.specs.Facts.HeardCall.{heard_by}
use Rattle.sl_due_facts.specs.Facts.HoldingFacts.{StandsExclusive}
use Rattle.sl_due_facts.specs.Facts.WayFacts.{way_context}
use Rattle.sl_due_facts.specs.Facts.AllFacts.{Whole}
use Rattle.sl_trace.specs.Traces.{Answered, Job, Setting, bytes_given, Submitted, Trace, end_of, gave, is_shared, new_call, next_job, record_of, spot_of_grant, submitted}
use Rattle.sl_trace.specs.declared.command.Command.TheVariants.{Acquire, AddLockspace, Convert, GetLvb, HostStatus, InqLockspace, Release, ReleaseOrphan, RemLockspace, Request, RunProgram, SetKillpath, SetLvb, Status, TakeOver}
use Rattle.sl_trace.specs.declared.command.Command.{Command}
use Rattle.sl_trace.specs.declared.command.ResourceArg.{ResourceArg}
use Rattle.sl_trace.specs.declared.effects.Entry.{Entry}
use Rattle.sl_trace.specs.declared.effects.Grant.{Grant}
use Rattle.sl_trace.specs.declared.effects.JoinStep.TheVariants.{FirstRead}
use Rattle.sl_trace.specs.declared.effects.LeaseStep.TheVariants.{ClearMode, ReadArea, SetMode}
use Rattle.sl_trace.specs.declared.effects.LeaseStep.{LeaseStep}
use Rattle.sl_trace.specs.declared.effects.Mode.TheVariants.{Exclusive, Shared}
use Rattle.sl_trace.specs.declared.effects.Mode.{Mode}
use Rattle.sl_trace.specs.declared.effects.Op.TheVariants.{ReadSectors, WriteRecord}
use Rattle.sl_trace.specs.declared.effects.Op.{Op}
use Rattle.sl_trace.specs.declared.effects.Purpose.TheVariants.{Joining, RequestRead, RequestWrite, SeeRequest, ValueRead, ValueWrite}
use Rattle.sl_trace.specs.declared.effects.Purpose.{Purpose}
use Rattle.sl_trace.specs.declared.effects.Spot.{Spot}
use Rattle.sl_trace.specs.declared.effects.JobReply.{JobReply}
use Rattle.sl_trace.specs.declared.effects.Work.{Work}
use Rattle.sl_trace.specs.declared.effects.Work.TheVariants.{ForJob}
use Rattle.sl_trace.specs.declared.input.Answer.TheVariants.{Read}
use Rattle.sl_trace.specs.declared.input.Input.TheVariants.{Line, Wake}
use Rattle.sl_trace.specs.declared.input.Input.{Input}
use Rattle.sl_trace.specs.declared.reply.Reply.TheVariants.{Done, RequestOld, TornLeader, WrongArea}
use Rattle.sl_trace.specs.declared.reply.Reply.{Reply}
use Rattle.sl_words.proofs.Lists.{kept}
use Rattle.sl_words.proofs.Numbers.{number_itself}
use Rattle.sl_run_law.proofs.Leases.NumberLaws.{number_is_place}
use Rattle.sl_words.proofs.CaseLaws.{false_is_true, no_value, none_some, some_value, true_is_false}
use Rattle.sl_words.specs.Words.{choose, some_is}
use Rattle.std.proofs.Common.{ap, inl, refl, subst, sym, ◌∙◌}
use Rattle.std.proofs.lemmas.Bool.{and_from}
use Rattle.std.specs.List.{list_any}
use Rattle.std.specs.Option.{option_map_or}
use Rattle.std.specs.Prelude.{Bool, Contains, List, None, Ok, Option, Some, [], false, filter, is_none, is_some, length, not, option_and_then, slice_get, true, ℕ, ◌&&◌, ◌==◌, ◌∷◌, ◌≡◌}

-- ---- a session stays active as a line is seen

unleft : (s : Session) (c : Command) (r : ResourceArg) → resource_named c ≡ Some r → leaves s (Ok c) ≡ false
unleft s (Acquire a shared p persistent) r is = refl
unleft s (TakeOver a shared p persistent) r is = refl
unleft s (Release a p) r is = refl
unleft s (ReleaseOrphan a) r is = refl
unleft s (Convert a shared p) r is = refl
unleft s (RunProgram a shared path) r is = refl
unleft s (Request a lver force) r is = refl
unleft s (GetLvb a p) r is = refl
unleft s (SetLvb a p bytes) r is = refl
unleft s (RemLockspace a) r is = absurd (none_some r is)
unleft s (AddLockspace a) r is = absurd (none_some r is)
unleft s (InqLockspace a) r is = absurd (none_some r is)
unleft s (HostStatus a) r is = absurd (none_some r is)
unleft s (SetKillpath p path) r is = absurd (none_some r is)
unleft s Status r is = absurd (none_some r is)

abbrev with_i : Input → Entry → Entry
with_i i e = record e { input = i }

line_leaves_none : (st : Setting) (past : Trace) (s : Session) (e : Entry) (text : List ℕ) → leaves s (st.read text) ≡ false → leaving_in st past s (with_i (Line text) e) ≡ None
line_leaves_none st past s e text none = ap (λ b. elim b as (λ z. Option Job) [
  | false ↦ None
  | true ↦ choose (is_joined past s && not (list_any (λ (a : JobReply). a.job == next_job st past) e.effects.replies)) (record { number = next_job st past; at = length past; reading = e.reading; command = st.read text })
]) none

woken_active : (st : Setting) (past : Trace) (s : Session) (e : Entry) (text : List ℕ) → leaves s (st.read text) ≡ false → is_active st (with_i Wake e ∷ past) s ≡ true → is_active st (with_i (Line text) e ∷ past) s ≡ true
woken_active st past s e text none is =
    ap (λ o. is_some (joined_after (with_i Wake e ∷ past) s) && is_none (removed_after (with_i Wake e ∷ past) s) && is_none (recovery_of st (with_i Wake e ∷ past) s)
    && is_none (elim (leaving_job st past s) as (λ z. Option Job) [ Some j ↦ Some j | None ↦ o ])) (line_leaves_none st past s e text none) ∙ is

line_active : (x : Step) (text : List ℕ) (c : Command) (s : Session) (r : ResourceArg) → x.input ≡ Wake → x.setting.read text ≡ Ok c → IsAsked x.setting (seen x) c s r → is_active x.setting (seen (with_input (Line text) x)) s ≡ true
line_active x text c s r wake reads on =
    woken_active x.setting x.past s (entry_of x) text (ap (λ z. leaves s z) reads ∙ unleft s c r on.named)
    (subst (λ i. is_active x.setting (with_i i (entry_of x) ∷ x.past) s ≡ true) wake on.active)

line_may : (x : Step) (text : List ℕ) (c : Command) (s : Session) (r : ResourceArg) → x.input ≡ Wake → x.effects.calls ≡ [] → x.setting.read text ≡ Ok c → IsAsked x.setting (seen x) c s r → Has (with_input (Line text) x) s → Whole x
    → LeaseMay (with_input (Line text) x) s (spot_of r)
line_may x text c s r wake bare reads on has w =
    let ready : LeaseReady (with_input (Line text) x) s (spot_of r) = line_ready x text c s r w.setting w.facts.calls wake reads on has in
    record {
      ready = ready;
      active = line_active x text c s r wake reads on;
      ways = (quiet_inputs_leave x (Line text) wake bare refl (stand x w)).ways.each s (spot_of r) (there_has x.setting (seen (with_input (Line text) x)) s.number s has) ready.aligned;
    }

-- ---- calls on an area that are no lease's

no_step : (p : Purpose) → is_some (lease_step p) ≡ false → is_at_in Phase2_read p ≡ true → ⊥
no_step p none at = by (lease_step p) none at where
  by : (o : Option (Work × LeaseStep)) → is_some o ≡ false → some_is (λ q. same_kind (kind_of_step q.1) Phase2_read) o ≡ true → ⊥
  by None n a = false_is_true a
  by (Some q) n a = true_is_false n

no_second : (p : Purpose) → is_some (lease_step p) ≡ false → some_is (λ q. is_second q.1) (lease_step p) ≡ true → ⊥
no_second p none again = by (lease_step p) none again where
  by : (o : Option (Work × LeaseStep)) → is_some o ≡ false → some_is (λ q. is_second q.1) o ≡ true → ⊥
  by None n a = false_is_true a
  by (Some q) n a = true_is_false n

sees_area : (p : Purpose) → is_area_work p ≡ true → p ≡ SeeRequest → ⊥
sees_area p area is = true_is_false (sym area ∙ ap (λ q. is_area_work q) is)

area_call : (x : Step) (s : Session) (at : Spot) → LeaseMay x s at → (p : Purpose) (o : ℕ) (op : Op) → is_area_work p ≡ true → is_some (lease_step p) ≡ false → is_join_call FirstRead p ≡ false → in_area x.setting.layout at.base o ≡ true
    → ((c : Submitted) → c.call.offset ≡ o → c.call.op ≡ op → IsRightRead x.setting at c p)
    → ((r : Rec) → record_of op ≡ Some r → (c : Submitted) → c.call.offset ≡ o → spot_of_call x.setting.layout c ≡ at → LawfulAreaWrite x.setting (seen x) s c r)
    → option_and_then block_of_record (record_of op) ≡ None → option_and_then leader_of_record (record_of op) ≡ None → option_and_then turn_of_record (record_of op) ≡ None → LawfulSoFar x
    → LawfulSoFar (add_call_of s.number at.path p o op x)
area_call x s at may p o op area none later inside reads writes no_block no_leader no_turn h =
    let c : Submitted = new_call (length x.past) x.reading (made_call x s.number at.path p o op) in
    let spot : spot_of_call x.setting.layout c ≡ at = spot_is x.setting.layout at c may.ready.aligned (placed_on x.setting at (made_call x s.number at.path p o op) refl inside) in
    calls_stay x s at.path p o op may.ready.has later
    (record {
      active = λ is. may.active;
      writes = λ r is plain. (area, writes r is c refl spot);
      alone = λ works. ap (λ z. open_block_work x.setting (seen x) s z) spot ∙ works_clear x s at may.ready;
      reads = subst (λ z. IsRightRead x.setting z c p) (sym spot) (reads c refl refl);
      sees = λ is. absurd (sees_area p area is);
      again = λ is. absurd (no_second p none is);
      turn = λ turn is. absurd (no_value turn (option_and_then turn_of_record (record_of op)) is no_turn);
      block = λ b is. absurd (no_value b (option_and_then block_of_record (record_of op)) is no_block);
      phase2 = λ reads. absurd (no_step p none reads);
      leader = λ l is. absurd (no_value l (option_and_then leader_of_record (record_of op)) is no_leader);
    }) h

leader_in : (x : Step) (s : Session) (at : Spot) → LeaseMay x s at → in_area x.setting.layout at.base at.base ≡ true
leader_in x s at h = place_is_on x.setting h.ready.setting at.base leader tt

value_in_area : (x : Step) (s : Session) (at : Spot) → LeaseMay x s at → in_area x.setting.layout at.base (value_offset x.setting.layout at.base) ≡ true
value_in_area x s at h = place_is_on x.setting h.ready.setting at.base value tt

request_in_area : (x : Step) (s : Session) (at : Spot) → LeaseMay x s at → in_area x.setting.layout at.base (request_offset x.setting.layout at.base) ≡ true
request_in_area x s at h = place_is_on x.setting h.ready.setting at.base request tt

-- ---- a release and a conversion

release_stays : (z : Step) (s : Session) (at : Spot) (j : ℕ) (g : Grant) → LeaseMay z s at → aim_of z.setting (seen z) (ForJob j) ≡ Some Releases → (g.mode ≡ Exclusive → HasEnded z s at g.lver) → z.effects.calls ≡ []
    → (hs : List Grant) → holdings_on (seen z) s at ≡ hs
    → LawfulSoFar (elim hs as (λ w. Step) [ h ∷ rest ↦ add_reply j Done z | [] ↦ carry_lease s at (ForJob j) (next_of_release z.setting (seen z) s at g) z ])
release_stays z s at j g may aimed ended bare (h ∷ rest) is = bare_lawful (add_reply j Done z) bare
release_stays z s at j g may aimed ended bare [] is =
    let n : LeaseNext = next_of_release z.setting (seen z) s at g in
    next_stays z s at may (ForJob j) (inl bare) n (release_fits z s at (ForJob j) g aimed ended)
    (λ step l next free. ap (λ gs. list_any (λ (k : Grant). not (is_shared k.mode) && k.lver == l.lver) gs) is) (λ is. absurd (true_is_false (sym is ∙ release_is (λ y. turns y ≡ false) z.setting (seen z) s at g (λ fits. unturned g.mode) (λ paired over writes. refl)))) (bare_lawful z bare)
  where
    by_own : (o : Option Block) → turns (option_map_or (λ own. WriteBlock ClearMode (moded_block own false 0)) o Nothing) ≡ false
    by_own None = refl
    by_own (Some own) = refl

    unturned : (mode : Mode) → turns (release_next (lease_place z.setting s) (known z.setting (seen z) s at) mode g.lver) ≡ false
    unturned Exclusive = refl
    unturned Shared = by_own (known z.setting (seen z) s at).own

conversion_stays : (y : Step) (s : Session) (at : Spot) (j : ℕ) (mode : Mode) (name : List ℕ) → LeaseMay y s at → aim_of y.setting (seen y) (ForJob j) ≡ Some (Converts mode) → y.effects.calls ≡ []
    → LawfulSoFar (carry_lease s at (ForJob j) (next_of_conversion y.setting (seen y) s at mode name) y)
conversion_stays y s at j mode name may aimed bare =
    let n : LeaseNext = next_of_conversion y.setting (seen y) s at mode name in
    let none_led : is_leader_next n ≡ false = conversion_is (λ z. is_leader_next z ≡ false) y.setting (seen y) s at mode name (λ fits. unleading mode) (λ paired over writes. refl) in
    let none_turned : turns n ≡ false = conversion_is (λ z. turns z ≡ false) y.setting (seen y) s at mode name (λ fits. unturned mode) (λ paired over writes. refl) in
    next_stays y s at may (ForJob j) (inl bare) n (conversion_fits y s at (ForJob j) mode name aimed)
    (λ step l next free. absurd (true_is_false (sym (ap (λ z. is_leader_next z) next) ∙ none_led)))
    (λ is. absurd (true_is_false (sym is ∙ none_turned))) (bare_lawful y bare)
  where
    own_turns : (o : Option Block) (n : ℕ) → turns (option_map_or (λ own. WriteBlock SetMode (moded_block own true n)) o Nothing) ≡ false
    own_turns None n = refl
    own_turns (Some own) n = refl

    own_leads : (o : Option Block) (n : ℕ) → is_leader_next (option_map_or (λ own. WriteBlock SetMode (moded_block own true n)) o Nothing) ≡ false
    own_leads None n = refl
    own_leads (Some own) n = refl

    unturned : (mode : Mode) → turns (convert_next (known y.setting (seen y) s at) mode name) ≡ false
    unturned Exclusive = refl
    unturned Shared = own_turns (known y.setting (seen y) s at).own (known y.setting (seen y) s at).self.generation

    unleading : (mode : Mode) → is_leader_next (convert_next (known y.setting (seen y) s at) mode name) ≡ false
    unleading Exclusive = refl
    unleading Shared = own_leads (known y.setting (seen y) s at).own (known y.setting (seen y) s at).self.generation

-- ---- a value

-- Whoever holds exclusive has verified the name.
holder_verified : (x : Step) (text : List ℕ) (s : Session) (at : Spot) (g : Grant) → x.input ≡ Wake → x.effects.calls ≡ [] → Has x s → LeaseMay (with_input (Line text) x) s at → Contains (holdings_on (seen x) s at) g
    → is_shared g.mode ≡ false → Whole x → (name : List ℕ) × HasVerified x.setting (seen (with_input (Line text) x)) s at name
holder_verified x text s at g wake bare has may on exclusive w =
    let y : Step = with_input (Line text) x in
    let held = held_there (seen x) s at g on exclusive in
    let its : session_numbered x.setting (seen x) g.session ≡ Some s = ap (λ n. session_numbered x.setting (seen x) n) held.its ∙ has in
    let stands : StandsExclusive x.setting (seen x) (heard_by x.input) s (spot_of_grant g) g.lver = w.facts.holdings.stands g s held.there its exclusive in
    let same : lease_calls x.setting (seen y) s at ≡ lease_calls x.setting (seen x) s at =
    ap (λ ms. filter (λ (m : Submitted). is_lease_call m && is_on x.setting.layout at m.call) (filter (is_call_of s) ms)) (quiet_same x (Line text) wake refl)
    in
    let knows : block_submitted (lease_calls x.setting (seen y) s at) ≡ Some stands.own =
    ap (λ ms. block_submitted ms) same ∙ subst (λ z. block_submitted (lease_calls x.setting (seen x) s z) ≡ Some stands.own) (spot_same g at held.place) stands.known
    in (
      verified_name x.setting.layout s.lockspace (lease_calls x.setting (seen y) s at),
      has_verified x.setting (seen y) s at may.ways (is_verified (way_context x.setting (seen y) s) (lease_calls x.setting (seen y) s at) may.ways stands.own knows),
    )

-- ---- all lines

read_area_stays : (y : Step) (s : Session) (at : Spot) → LeaseMay y s at → (j : ℕ) (name : List ℕ) → LawfulSoFar y → LawfulSoFar (read_area s at (ForJob j) (ReadArea name) y)
read_area_stays y s at may j name h = reads_stay y s at may (ForJob j) (ReadArea name) (λ call op. op) h

carried : (x : Step) (text : List ℕ) (c : Command) (d : Decision) → x.input ≡ Wake → x.effects.calls ≡ [] → x.setting.read text ≡ Ok c → DecidedOn x.setting (seen x) c d → IsDecidedFor x.setting (seen x) c d
    → Of (Has (with_input (Line text) x)) d → reply_at_once d ≡ None → Whole x → LawfulSoFar (carry_decision (next_job x.setting (seen x)) c d (with_input (Line text) x))
unfolding carry_decision after_end
carried x text c (Replies r) wake bare reads on its has none w = bare_lawful (with_input (Line text) x) bare
carried x text c (Joins n a) wake bare reads on its has none w =
    others_are_lawful (add_call_of n a.path (Joining (next_job x.setting (seen x)) FirstRead) _ (ReadSectors 1) (with_input (Line text) x))
    (other_more (with_input (Line text) x) n a.path (Joining (next_job x.setting (seen x)) FirstRead) _ (ReadSectors 1) (first_other (next_job x.setting (seen x))) (no_others (with_input (Line text) x) bare))
carried x text c (Leaves s) wake bare reads on its has none w =
    others_are_lawful _ (stopped Any Others by_others (λ t. tt) (with_input (Line text) x) s (Some (next_job x.setting (seen x))) (no_others (with_input (Line text) x) bare))
carried x text c (ReadsArea s r) wake bare reads on its has none w =
    read_area_stays (with_input (Line text) x) s (spot_of r) (line_may x text c s r wake bare reads on has w) (next_job x.setting (seen x)) r.name (bare_lawful (with_input (Line text) x) bare)
carried x text c (Shares s lver) wake bare reads on its has none w =
    others_are_lawful _ (granting Any Others by_others (with_input (Line text) x) s (next_job x.setting (seen x)) c Shared lver (no_others (with_input (Line text) x) bare))
carried x text c (GivesUp s g) wake bare reads on its has none w =
    let y : Step = with_input (Line text) x in
    let j : ℕ = next_job x.setting (seen x) in
    let r : ResourceArg = on.0 in
    let in_x : Has x s = sym (ap (λ ss. slice_get ss s.number) (input_sessions x (Line text) bare)) ∙ has in
    let held = held_ended x s r g in_x w.facts.holdings on.3 in
    let may : LeaseMay y s (spot_of r) = line_may x text c s r wake bare reads on.1 has w in
    let aimed : aim_of x.setting (seen y) (ForJob j) ≡ Some Releases = ap (λ o. option_and_then aim_of_command o) (line_command x text c wake reads) ∙ on.2 in
    let after : LeaseMay (add_end (end_of g) y) s (spot_of r) = record {
      ready = ended_ready y s (spot_of r) g may.ready;
      active = may.active;
      ways = may.ways;
    } in
    subst (λ at. LawfulSoFar (elim (holdings_on (seen (add_end (end_of g) y)) s at) as (λ v. Step) [
      | h ∷ rest ↦ add_reply j Done (add_end (end_of g) y)
      | [] ↦ carry_lease s at (ForJob j) (next_of_release x.setting (seen (add_end (end_of g) y)) s at g) (add_end (end_of g) y)
    ])) (sym held.0)
    (release_stays (add_end (end_of g) y) s (spot_of r) j g after aimed (λ exclusive. ended_still x text s (spot_of r) g.lver wake (held.1 exclusive)) bare
    (holdings_on (seen (add_end (end_of g) y)) s (spot_of r)) refl)
carried x text c (TakesOver s g) wake bare reads on its has none w =
    others_are_lawful _ (granting Any Others by_others (add_end (end_of g) (with_input (Line text) x)) s (next_job x.setting (seen x)) c g.mode g.lver (no_others (add_end (end_of g) (with_input (Line text) x)) bare))
carried x text c (ConvertsTo s r mode) wake bare reads on its has none w =
    conversion_stays (with_input (Line text) x) s (spot_of r) (next_job x.setting (seen x)) mode r.name (line_may x text c s r wake bare reads on.0 has w)
    (ap (λ o. option_and_then aim_of_command o) (line_command x text c wake reads) ∙ on.1) bare
carried x text c (Requests s r) wake bare reads on its has none w =
    let y : Step = with_input (Line text) x in
    let may : LeaseMay y s (spot_of r) = line_may x text c s r wake bare reads on has w in
    area_call y s (spot_of r) may (RequestRead (next_job x.setting (seen x))) r.offset (ReadSectors 2) refl refl refl (leader_in y s (spot_of r) may) (λ d place does. (place, does)) (λ k is. absurd (none_some k is)) refl refl refl (bare_lawful y bare)
carried x text c (SetsValue s at v) wake bare reads on its has none w =
    let y : Step = with_input (Line text) x in
    let in_x : Has x s = sym (ap (λ ss. slice_get ss s.number) (input_sessions x (Line text) bare)) ∙ has in
    let may : LeaseMay y s at = subst (λ z. LeaseMay y s z) (sym on.2) (line_may x text c s on.0 wake bare reads on.1 has w) in
    let verified = holder_verified x text s at on.3 wake bare in_x may (subst (λ z. Contains (holdings_on (seen x) s z) on.3) (sym on.2) on.4) on.5 w in
    area_call y s at may (ValueWrite (next_job x.setting (seen x))) (value_offset x.setting.layout at.base) (WriteRecord (ValueIs v)) refl refl refl (value_in_area y s at may) (λ d place does. tt)
    (λ k is d place spot. subst (λ (z : Rec). LawfulAreaWrite x.setting (seen y) s d z) (some_value (ValueIs v) k is)
    (record {
      resource = verified.0;
      verified = subst (λ z. HasVerified x.setting (seen y) s z verified.0) (sym spot) verified.1;
      placed = ap (λ z. let o : Option ℕ = Some (value_offset x.setting.layout z.base) in o) spot ∙ ap (λ n. Some n) (sym place);
      format = refl;
      named = λ p pair. absurd (none_some p.turn (ap (λ z. turn_of_record z) pair));
    })) refl refl refl (bare_lawful y bare)
carried x text c (GetsValue s at) wake bare reads on its has none w =
    let y : Step = with_input (Line text) x in
    let may : LeaseMay y s at = subst (λ z. LeaseMay y s z) (sym on.2) (line_may x text c s on.0 wake bare reads on.1 has w) in
    area_call y s at may (ValueRead (next_job x.setting (seen x))) (value_offset x.setting.layout at.base) (ReadSectors 1) refl refl refl (value_in_area y s at may) (λ d place does. tt) (λ k is. absurd (none_some k is)) refl refl refl (bare_lawful y bare)

pub lines_stay : (x : Step) (text : List ℕ) (c : Command) (d : Decision) → x.input ≡ Wake → x.effects.calls ≡ [] → x.setting.read text ≡ Ok c → decided x.setting (seen x) x.reading c ≡ d → reply_at_once d ≡ None → Whole x
    → LawfulSoFar (carry_decision (next_job x.setting (seen x)) c d (with_input (Line text) x))
lines_stay x text c d wake bare reads is none w =
    carried x text c d wake bare reads (subst (λ z. DecidedOn x.setting (seen x) c z) is (decisions_are_clear x.setting (seen x) x.reading c))
    (subst (λ z. IsDecidedFor x.setting (seen x) c z) is (decisions_are_theirs x.setting (seen x) x.reading c)) (subst (λ z. Of (Has (with_input (Line text) x)) z) is (line_has x text c bare)) none w

-- ---- the request that is written after its read

record Named (x : Step) (s : Session) (r : ResourceArg) (bytes : List ℕ) : Type 0 where
  leader : Leader
  spelled : leader_of x.setting.layout bytes ≡ Some leader
  names : is_leader_of x.setting.layout s.lockspace r.name leader ≡ true

named_by : (x : Step) (s : Session) (r : ResourceArg) (asked force : ℕ) (bytes : List ℕ) → request_refusal x.setting.layout s.lockspace r asked force bytes ≡ None → Named x s r bytes
unfolding request_refusal
named_by x s r asked force bytes none = by (leader_of x.setting.layout bytes) refl none where
  named : (l : Leader) → leader_of x.setting.layout bytes ≡ Some l → (b : Bool) → is_leader_of x.setting.layout s.lockspace r.name l ≡ b → elim b as (λ z. Option Reply) [
    | false ↦ Some (WrongArea l.lockspace l.resource l.num_hosts)
    | true ↦ elim (request_in (read_at x.setting.layout bytes 1)) as (λ z. Option Reply) [
      | None ↦ choose (not (asked == 0)) (RequestOld l.lver None)
      | Some q ↦ choose (not (check_request l.lver q.lver asked force)) (RequestOld l.lver (Some q.lver))
    ]
  ] ≡ None → Named x s r bytes
  named l spells true is none = record { leader = l; spelled = spells; names = is }
  named l spells false is none = absurd (none_some _ (sym none))

  by : (o : Option Leader) → leader_of x.setting.layout bytes ≡ o → elim o as (λ z. Option Reply) [
    | None ↦ Some TornLeader
    | Some l ↦ elim (is_leader_of x.setting.layout s.lockspace r.name l) as (λ z. Option Reply) [
      | false ↦ Some (WrongArea l.lockspace l.resource l.num_hosts)
      | true ↦ elim (request_in (read_at x.setting.layout bytes 1)) as (λ z. Option Reply) [
        | None ↦ choose (not (asked == 0)) (RequestOld l.lver None)
        | Some q ↦ choose (not (check_request l.lver q.lver asked force)) (RequestOld l.lver (Some q.lver))
      ]
    ]
  ] ≡ None → Named x s r bytes
  by None spells none = absurd (none_some TornLeader (sym none))
  by (Some l) spells none = named l spells (is_leader_of x.setting.layout s.lockspace r.name l) refl none

read_verified : (x : Step) (s : Session) (m : Submitted) (j : ℕ) (bytes : List ℕ) (r : ResourceArg) → Hears x s m (Read bytes) → m.call.purpose ≡ RequestRead j → Whole x → Named x s r bytes
    → HasVerified x.setting (seen x) s (spot_of_call x.setting.layout m) r.name
read_verified x s m j bytes r h is w n =
    let c : HeardCall x (Read bytes) m = heard_call x s m (Read bytes) h w in
    let its : is_call_of s m ≡ true = ap (λ k. k == s.number) (sym (number_is_place x.setting (seen x) m.call.session s h.session)) ∙ number_itself s.number in
    let gives : option_and_then (leader_of x.setting.layout) (gave m) ≡ Some n.leader =
    ap (λ o. option_and_then (leader_of x.setting.layout) (option_and_then (λ (a : Answered). bytes_given a.answer) o)) c.told ∙ n.spelled
    in (
      n.leader,
      inl (mapped_inside (λ (d : Submitted). option_and_then (leader_of x.setting.layout) (gave d)) (filter (λ (d : Submitted). is_leader_read d.call.purpose && is_on x.setting.layout (spot_of_call x.setting.layout m) d.call) (calls_of (seen x) s)) m n.leader
          (kept (λ (d : Submitted). is_leader_read d.call.purpose && is_on x.setting.layout (spot_of_call x.setting.layout m) d.call) (calls_of (seen x) s) m
          (and_from (is_leader_read m.call.purpose) (is_on x.setting.layout (spot_of_call x.setting.layout m) m.call) (ap (λ p. is_leader_read p) is) (on_own x.setting w.setting m))
          (kept (is_call_of s) (submitted (seen x)) m its c.there)) gives),
      n.names,
    )

pub requested : (x : Step) (s : Session) (m : Submitted) (j : ℕ) (bytes : List ℕ) (c : Command) → Hears x s m (Read bytes) → m.call.purpose ≡ RequestRead j → command_numbered x.setting (seen x) j ≡ Some c
    → is_active x.setting (seen x) s ≡ true → Whole x → LawfulSoFar (after_request_read s j bytes c x)
unfolding after_request_read
requested x s m j bytes (Request r asked force) h is command active w = by (request_refusal x.setting.layout s.lockspace r asked force bytes) refl where
  by : (o : Option Reply) → request_refusal x.setting.layout s.lockspace r asked force bytes ≡ o
      → LawfulSoFar (elim o as (λ z. Step) [ Some why ↦ add_reply j why x | None ↦ write_request s j (owner_read x.setting.layout bytes) r asked force x ])
  by (Some why) refused = bare_lawful (add_reply j why x) h.bare
  by None refused =
      let spot : spot_of_call x.setting.layout m ≡ spot_of r = asked_of x s m j (Read bytes) r asked force h is command w in
      let ready : LeaseReady x s (spot_of r) = subst (λ at. LeaseReady x s at) spot (lease_ready x s m (Read bytes) h (ap (λ p. is_area_work p) is) w) in
      let may : LeaseMay x s (spot_of r) = record { ready = ready; active = active; ways = w.facts.ways.each s (spot_of r) (there_has x.setting (seen x) s.number s ready.has) ready.aligned } in
      let verified : HasVerified x.setting (seen x) s (spot_of r) r.name =
      subst (λ z. HasVerified x.setting (seen x) s z r.name) spot (read_verified x s m j bytes r h is w (named_by x s r asked force bytes refused))
      in
      area_call x s (spot_of r) may (RequestWrite j (owner_read x.setting.layout bytes)) (request_offset x.setting.layout r.offset) _ refl refl refl (request_in_area x s (spot_of r) may) (λ d place does. tt)
      (λ k has d place at. subst (λ (z : Rec). LawfulAreaWrite x.setting (seen x) s d z) (some_value _ k has)
      (record {
        resource = r.name;
        verified = subst (λ z. HasVerified x.setting (seen x) s z r.name) (sym at) verified;
        placed = ap (λ z. let o : Option ℕ = Some (request_offset x.setting.layout z.base) in o) at ∙ ap (λ n. Some n) (sym place);
        format = refl;
        named = λ p pair. absurd (none_some p.turn (ap (λ z. turn_of_record z) pair));
      })) refl refl refl (bare_lawful x h.bare)
requested x s m j bytes c h is command active w = bare_lawful x h.bare
