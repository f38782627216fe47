-- What is known of connections is kept by each step of a joining at work.
use Rattle.sl_due_facts.specs.Acts.TraceSoFar.{entry_of}
use Rattle.sl_due.specs.CarriedDelta.{carry_delta, for_joining, move_connection, read_own_sector, register, survey, write_own_sector}
use Rattle.sl_due.specs.DueTimeOuts.{refuse}
use Rattle.sl_due.specs.Steps.{Step, add_call_of, add_move, add_reply, seen, with_some}
use Rattle.sl_due_facts.proofs.Jobs.CallsStay.{is_special, late, late_join}
use Rattle.sl_due_facts.proofs.Jobs.SessionsHaveJobs.{one_session}
use Rattle.sl_run.specs.LawfulConnections.{is_covered}
use Rattle.sl_due_facts.proofs.AddedEffects.CallsGrow.{mine_more}
use Rattle.sl_due_facts.proofs.AddedEffects.JoinedCallsKeepOrder.{joined_is_covered}
use Rattle.sl_words.proofs.Numbers.{number_itself, equal_is_most}
use Rattle.sl_words.proofs.Options.{not_some, some_there}
use Rattle.sl_sector.specs.declared.sector.Rec.TheVariants.{DeltaIs}
use Rattle.sl_due_facts.proofs.Connections.ConnectionEffects.{alters_call, alters_move, alters_nothing, alters_reply, move_named, move_same, registers_own, renews_own}
use Rattle.sl_due_facts.proofs.Connections.ConnectionsChange.{IsAlone, altered, altered_still}
use Rattle.sl_due_facts.proofs.Connections.ConnectionsNamed.{connected, register_named, renew_own, renew_some}
use Rattle.sl_due_facts.proofs.Connections.JoiningConnections.{Working, refusal_connections, removal_here, working_alone, working_inside, working_unjoined, working_unrefused}
use Rattle.sl_due_facts.proofs.Connections.SessionParts.{covered_at_work, covered_present, unjoined_not}
use Rattle.sl_due_facts.specs.Connections.ConnectionLaws.{HasConnectionFacts}
use Rattle.sl_due_facts.proofs.Sessions.NameActs.{joined_by_reply}
use Rattle.sl_due_facts.proofs.Sessions.NamesAreAllowed.{joined_unrefused}
use Rattle.sl_trace.specs.DeltaDecisions.{own_offset}
use Rattle.sl_trace.specs.Sessions.{calls_of, is_covered_stage, is_join_call, is_join_done, is_joined, joined_after, last_renewal, refused_after, removed_after, removed_in, same_join_step, sessions, stage_after, stage_in}
use Rattle.sl_trace.specs.declared.delta.DeltaNext.TheVariants.{Disconnect, EndLeaving, Join, MoveConnection, Nothing, ReadOwn, RefuseJoin, RegisterAndRead, WriteClaim, WriteFirst, WriteFree, WriteRenewal}
use Rattle.sl_trace.specs.declared.delta.DeltaNext.{DeltaNext}
use Rattle.sl_trace.specs.declared.session.Session.{Session}
use Rattle.sl_trace.specs.declared.stage.Stage.TheVariants.{Waiting}
use Rattle.sl_due_facts.specs.Facts.HeardCall.{heard_by}
use Rattle.sl_due_facts.specs.Facts.SessionFacts.{IsHeardWriter}
use Rattle.sl_time.specs.Times.{fail}
use Rattle.sl_trace.specs.WatchdogConnections.{Connection, connections, last_registering, registers, unregisters}
use Rattle.sl_trace.specs.Traces.{Trace, is_before_input, next_call}
use Rattle.sl_trace.specs.declared.effects.Call.{Call}
use Rattle.sl_trace.specs.declared.effects.JoinStep.TheVariants.{ClaimWrite, FirstRead, FirstRenewal, WatchRead}
use Rattle.sl_trace.specs.declared.effects.JoinStep.{JoinStep}
use Rattle.sl_trace.specs.declared.effects.Move.TheVariants.{Register, Renew, Unregister}
use Rattle.sl_trace.specs.declared.effects.Op.TheVariants.{ReadSectors, WriteRecord}
use Rattle.sl_trace.specs.declared.effects.Op.{Op}
use Rattle.sl_trace.specs.declared.effects.Purpose.TheVariants.{Joining, Survey}
use Rattle.sl_trace.specs.declared.input.Input.TheVariants.{Wake}
use Rattle.sl_trace.specs.declared.reply.Reply.TheVariants.{Generation}
use Rattle.sl_trace.specs.declared.reply.Reply.{Reply}
use Rattle.sl_run_law.proofs.Sessions.SessionNames.{same_name}
use Rattle.sl_run_law.proofs.Sessions.MarksStay.{joined_more}
use Rattle.sl_words.proofs.CaseLaws.{is_false, none_some, not_both, some_value, true_is_false}
use Rattle.sl_words.specs.Words.{choose}
use Rattle.std.proofs.Common.{ap, ap₂, inl, inr, refl, subst, sym, ◌∙◌}
use Rattle.std.specs.List.{list_any}
use Rattle.std.specs.Prelude.{Bool, Contains, List, None, Option, Some, [], bytes_eq, false, is_none, is_some, length, true, ℕ, ◌&&◌, ◌++◌, ◌+◌, ◌||◌, ◌∷◌, ◌≡◌, ◌⊎◌}

-- ---- removed only where joined

joined_first : (es : Trace) (s : Session) (k : ℕ) → removed_after es s ≡ Some k → is_some (joined_after es s) ≡ true
joined_first [] s k is = absurd (none_some k is)
joined_first (e ∷ past) s k is = by (removed_after past s) refl (λ i was. joined_first past s i was) where
  more : is_some (joined_after past s) ≡ true → is_some (joined_after (e ∷ past) s) ≡ true
  more was = let j = some_there (joined_after past s) was in ap (λ o. is_some o) (joined_more e past s j.0 j.1)

  by : (o : Option ℕ) → removed_after past s ≡ o → ((i : ℕ) → removed_after past s ≡ Some i → is_some (joined_after past s) ≡ true) → is_some (joined_after (e ∷ past) s) ≡ true
  by (Some i) was before = more (before i was)
  by None was before = more (both (is_some (joined_after past s)) (list_any (unregisters s.lockspace) e.effects.moves) (sym (ap (λ o. elim o as (λ z. Option ℕ) [ Some j ↦ Some j | None ↦ removed_in past s e ]) was) ∙ is)) where
    both : (a b : Bool) → choose (a && b) (length past + 1) ≡ Some k → a ≡ true
    both true b h = refl
    both false b h = absurd (none_some k h)

pub unjoined_unremoved : (t : Trace) (s : Session) → joined_after t s ≡ None → removed_after t s ≡ None
unjoined_unremoved t s none = by (removed_after t s) refl where
  by : (o : Option ℕ) → removed_after t s ≡ o → removed_after t s ≡ None
  by None is = is
  by (Some k) is = absurd (not_both (is_some (joined_after t s)) (joined_first t s k is) (ap (λ o. is_some o) none))

-- ---- one call more

-- Where a joining at work is covered once it has called.
pub covered_by_call : (y : Step) (s : Session) (path : List ℕ) (j : ℕ) (step : JoinStep) (o : ℕ) (op : Op) → joined_after (seen y) s ≡ None → refused_after (seen y) s ≡ None
    → is_covered (seen (add_call_of s.number path (Joining j step) o op y)) s ≡ is_covered_stage (stage_after step false)
covered_by_call y s path j step o op none unrefused =
    let made : Call = record { number = next_call y.setting (seen y); session = s.number; purpose = Joining j step; path = path; offset = o; op = op } in
    covered_at_work (seen (add_call_of s.number path (Joining j step) o op y)) s none unrefused
    ∙ ap (λ ms. is_covered_stage (stage_in ms)) (mine_more (entry_of y) y.past made s (number_itself s.number))

pub called_connections : (x : Step) (s : Session) (j : ℕ) (step : JoinStep) (path : List ℕ) (o : ℕ) (op : Op) → Working x s j → is_join_call FirstRead (Joining j step) ≡ false → is_covered_stage (stage_after step false) ≡ is_covered (seen x) s
    → (is_covered_stage (stage_after step false) ≡ true) ⊎ (heard_by x.input ≡ None) → HasConnectionFacts x → HasConnectionFacts (add_call_of s.number path (Joining j step) o op x)
called_connections x s j step path o op w no_look same needs h =
    let now = covered_by_call x s path j step o op (working_unjoined x s j w) (working_unrefused x s j w) in
    altered_still x.setting (seen x) (seen (add_call_of s.number path (Joining j step) o op x)) (heard_by x.input) s (working_inside x s j w)
    (alters_call (seen x) (heard_by x.input) s x path (Joining j step) o op w.has no_look (working_unrefused x s j w) (alters_nothing x.setting (seen x) (heard_by x.input) s)) (working_alone x s j w) refl refl
    (now ∙ same) (by needs now) (λ is. is) h
  where
    by : (is_covered_stage (stage_after step false) ≡ true) ⊎ (heard_by x.input ≡ None) → is_covered (seen (add_call_of s.number path (Joining j step) o op x)) s ≡ is_covered_stage (stage_after step false)
        → (is_covered (seen (add_call_of s.number path (Joining j step) o op x)) s ≡ true) ⊎ (heard_by x.input ≡ None)
    by (inl is) now = inl (now ∙ is)
    by (inr quiet) now = inr quiet

-- ---- it registers

abbrev pub NoHeardWriter : Step → Type 0
NoHeardWriter x = (z : Session) → IsHeardWriter (seen x) (heard_by x.input) z → ⊥

unconnected : (x : Step) (s : Session) → IsAlone x.setting (seen x) s → is_covered (seen x) s ≡ false → NoHeardWriter x → HasConnectionFacts x → connected x.setting (seen x) s.lockspace ≡ None
unconnected x s alone uncovered quiet h = not_some (connected x.setting (seen x) s.lockspace) (is_false (is_some (connected x.setting (seen x) s.lockspace)) (λ there. by (h.needed s.lockspace there))) where
  either : (z : Session) → Contains (sessions x.setting (seen x)) z → z.lockspace ≡ s.lockspace → (is_covered (seen x) z ≡ true) ⊎ IsHeardWriter (seen x) (heard_by x.input) z → ⊥
  either z there name (inl is) =
      let one : z ≡ s = alone z there (covered_present (seen x) z is) name in not_both (is_covered (seen x) s) (subst (λ q. is_covered (seen x) q ≡ true) one is) uncovered
  either z there name (inr w) = quiet z w

  by : (z : Session) × Contains (sessions x.setting (seen x)) z × (z.lockspace ≡ s.lockspace) × ((is_covered (seen x) z ≡ true) ⊎ IsHeardWriter (seen x) (heard_by x.input) z) → ⊥
  by n = either n.0 n.1 n.2 n.3

pub any_last : {A : Type 0} (p : A → Bool) (xs : List A) (y : A) → p y ≡ true → list_any p (xs ++ y ∷ []) ≡ true
any_last p [] y is = ap (λ b. b || false) is
any_last p (x ∷ xs) y is = ap (λ b. p x || b) (any_last p xs y is) ∙ either (p x) where
  either : (b : Bool) → (b || true) ≡ true
  either true = refl
  either false = refl

pub registered_connections : (x : Step) (s : Session) (j : ℕ) (step : JoinStep) (o : ℕ) (op : Op) → Working x s j → is_join_call FirstRead (Joining j step) ≡ false → is_covered_stage (stage_after step false) ≡ true
    → is_covered (seen x) s ≡ false → NoHeardWriter x → HasConnectionFacts x → HasConnectionFacts (add_call_of s.number s.path (Joining j step) o op (register s x))
registered_connections x s j step o op w no_look stage uncovered quiet h =
    altered x.setting (seen x) (seen u) (heard_by x.input) s (working_inside x s j w)
    (alters_call (seen x) (heard_by x.input) s y s.path (Joining j step) o op w.has no_look (working_unrefused x s j w)
    (alters_move (seen x) (heard_by x.input) s x (Register s.lockspace (x.reading + fail x.setting.timing)) (registers_own s.lockspace (x.reading + fail x.setting.timing)) (alters_nothing x.setting (seen x) (heard_by x.input) s)))
    (working_alone x s j w)
    (record {
      covers = λ is. ap (λ o. is_some o) there;
      needed = λ is. inl (covered_by_call y s s.path j step o op (working_unjoined x s j w) (working_unrefused x s j w) ∙ stage);
      joined = λ c is its. absurd (unjoined_not (seen u) s (working_unjoined x s j w) is);
      joining = λ c is none its.
          ap (λ (d : Connection). d.expiry) (sym (some_value new c (sym there ∙ its)))
          ∙ ap (λ b. (elim b as (λ z. ℕ) [ true ↦ x.reading | false ↦ last_registering x.past s.lockspace ]) + fail x.setting.timing) (sym registering);
    }) h
  where
    y : Step
    y = register s x

    u : Step
    u = add_call_of s.number s.path (Joining j step) o op (register s x)

    new : Connection
    new = record { name = s.lockspace; expiry = x.reading + fail x.setting.timing }

    there : connected x.setting (seen (add_call_of s.number s.path (Joining j step) o op (register s x))) s.lockspace ≡ Some (record { name = s.lockspace; expiry = x.reading + fail x.setting.timing })
    there = move_named x (Register s.lockspace (x.reading + fail x.setting.timing)) s.lockspace
        ∙ register_named (connections x.setting (seen x)) s.lockspace (x.reading + fail x.setting.timing) (unconnected x s (working_alone x s j w) uncovered quiet h)

    registering : list_any (registers s.lockspace) (x.effects.moves ++ Register s.lockspace (x.reading + fail x.setting.timing) ∷ []) ≡ true
    registering = any_last (registers s.lockspace) x.effects.moves (Register s.lockspace (x.reading + fail x.setting.timing)) (same_name s.lockspace)

-- ---- it joins

pub joins_connections : (x : Step) (s : Session) (j generation renewed : ℕ) → Working x s j → is_covered (seen x) s ≡ true → last_renewal x.setting (seen x) s ≡ renewed → HasConnectionFacts x
    → HasConnectionFacts (survey s (add_reply j (Generation generation) (move_connection s renewed x)))
joins_connections x s j generation renewed w covered last h =
    altered x.setting (seen x) (seen u) (heard_by x.input) s mine
    (alters_call (seen x) (heard_by x.input) s z s.path Survey s.offset (ReadSectors x.setting.layout.hosts) w.has refl (joined_unrefused (seen z) s joined)
    (alters_reply (seen x) (heard_by x.input) s y j (Generation generation) (late_join y generation)
    (λ q there away its. not_both (bytes_eq q.lockspace s.lockspace) (ap (λ (r : Session). bytes_eq r.lockspace s.lockspace) (one_session x.setting (seen x) q s j there mine its w.its) ∙ same_name s.lockspace) away)
    (alters_move (seen x) (heard_by x.input) s x (Renew s.lockspace (renewed + fail x.setting.timing)) (renews_own s.lockspace (renewed + fail x.setting.timing)) (alters_nothing x.setting (seen x) (heard_by x.input) s))))
    (working_alone x s j w)
    (record {
      covers = λ is. ap (λ o. is_some o) (move_named x (Renew s.lockspace (renewed + fail x.setting.timing)) s.lockspace)
          ∙ (renew_some (connections x.setting (seen x)) s.lockspace (renewed + fail x.setting.timing) s.lockspace ∙ h.covers s mine covered);
      needed = λ is. inl (joined_is_covered (seen u) s joined_now);
      joined = λ c is its.
          equal_is_most c.expiry (last_renewal x.setting (seen x) s + fail x.setting.timing)
          (renew_own (connections x.setting (seen x)) s.lockspace (renewed + fail x.setting.timing) c (sym (move_named x (Renew s.lockspace (renewed + fail x.setting.timing)) s.lockspace) ∙ its)
          ∙ ap (λ n. n + fail x.setting.timing) (sym last));
      joining = λ c is none its. absurd (unjoined_not (seen u) s none joined_now);
    }) h
  where
    mine : Contains (sessions x.setting (seen x)) s
    mine = working_inside x s j w

    y : Step
    y = move_connection s renewed x

    z : Step
    z = add_reply j (Generation generation) (move_connection s renewed x)

    u : Step
    u = survey s (add_reply j (Generation generation) (move_connection s renewed x))

    joined : is_some (joined_after (seen (add_reply j (Generation generation) (move_connection s renewed x))) s) ≡ true
    joined = joined_by_reply (move_connection s renewed x) s j generation w.its w.runs

    stays : removed_after (seen (move_connection s renewed x)) s ≡ None
    stays = (move_same x (Renew s.lockspace (renewed + fail x.setting.timing)) s refl).removed ∙ unjoined_unremoved (seen x) s (working_unjoined x s j w)

    joined_now : is_joined (seen (survey s (add_reply j (Generation generation) (move_connection s renewed x)))) s ≡ true
    joined_now = ap₂ (λ a b. a && is_none b) joined stays

-- ---- what a joining may decide

abbrev pub JoinsConnection : Step → Session → DeltaNext → Type 0
JoinsConnection x s Nothing = Unit {0}
JoinsConnection x s (RefuseJoin r) = is_special r ≡ false
JoinsConnection x s (ReadOwn step) = (step ≡ WatchRead) × (is_covered (seen x) s ≡ false) × (x.input ≡ Wake)
JoinsConnection x s (RegisterAndRead step) =
    (same_join_step FirstRead step ≡ false)
    × (is_covered_stage (stage_after step false) ≡ true)
    × (is_covered (seen x) s ≡ false)
    × NoHeardWriter x
    × (stage_in (calls_of (seen x) s) ≡ Waiting → x.input ≡ Wake)
JoinsConnection x s (WriteClaim d) = is_covered (seen x) s ≡ true
JoinsConnection x s Disconnect = (is_covered (seen x) s ≡ false) × (stage_in (calls_of (seen x) s) ≡ Waiting) × (x.input ≡ Wake → ⊥)
JoinsConnection x s (WriteFirst d) = is_covered (seen x) s ≡ true
JoinsConnection x s (Join generation renewed) = (is_covered (seen x) s ≡ true) × (last_renewal x.setting (seen x) s ≡ renewed)
JoinsConnection x s n = ⊥

pub special_join : (r : Reply) → is_special r ≡ false → is_join_done r ≡ false
special_join r h = by (is_before_input r) (is_join_done r) h where
  by : (a b : Bool) → (a || b) ≡ false → b ≡ false
  by true b h = absurd (true_is_false h)
  by false b h = h

for_own : (x : Step) (s : Session) (j : ℕ) (f : ℕ → Step → Step) → s.job ≡ Some j → HasConnectionFacts (f j x) → HasConnectionFacts (for_joining s f x)
for_own x s j f its h = subst (λ o. HasConnectionFacts (with_some o f x)) (sym its) h

pub joining_connections : (x : Step) (s : Session) (j : ℕ) (n : DeltaNext) → Working x s j → JoinsConnection x s n → HasConnectionFacts x → HasConnectionFacts (carry_delta s n x)
unfolding carry_delta
joining_connections x s j Nothing w may h = h
joining_connections x s j (RefuseJoin r) w may h =
    for_own x s j (λ i. refuse i r) w.its (refusal_connections x j r w.runs (late x r may) (special_join r may) w.names w.orderly h)
joining_connections x s j (ReadOwn step) w may h =
    for_own x s j (λ i. read_own_sector s (Joining i step)) w.its
    (subst (λ q. HasConnectionFacts (read_own_sector s (Joining j q) x)) (sym may.0)
    (called_connections x s j WatchRead s.path (own_offset x.setting s) (ReadSectors 1) w refl (sym may.1) (inr (ap (λ i. heard_by i) may.2)) h))
joining_connections x s j (RegisterAndRead step) w may h =
    for_own x s j (λ i y. read_own_sector s (Joining i step) (register s y)) w.its
    (registered_connections x s j step (own_offset x.setting s) (ReadSectors 1) w may.0 may.1 may.2 may.3 h)
joining_connections x s j (WriteClaim d) w may h =
    for_own x s j (λ i. write_own_sector s (Joining i ClaimWrite) d) w.its
    (called_connections x s j ClaimWrite s.path (own_offset x.setting s) (WriteRecord (DeltaIs d)) w refl (sym may) (inl refl) h)
joining_connections x s j Disconnect w may h =
    removal_here x s (working_inside x s j w) (working_alone x s j w)
    (covered_at_work (seen (add_move (Unregister s.lockspace) x)) s (working_unjoined x s j w) (working_unrefused x s j w)
    ∙ (sym (covered_at_work (seen x) s (working_unjoined x s j w) (working_unrefused x s j w)) ∙ may.0)) h
joining_connections x s j (WriteFirst d) w may h =
    for_own x s j (λ i. write_own_sector s (Joining i FirstRenewal) d) w.its
    (called_connections x s j FirstRenewal s.path (own_offset x.setting s) (WriteRecord (DeltaIs d)) w refl (sym may) (inl refl) h)
joining_connections x s j (Join generation renewed) w may h =
    for_own x s j (λ i y. survey s (add_reply i (Generation generation) (move_connection s renewed y))) w.its (joins_connections x s j generation renewed w may.0 may.1 h)
joining_connections x s j (MoveConnection renewed) w may h = absurd may
joining_connections x s j (WriteRenewal d) w may h = absurd may
joining_connections x s j (WriteFree i d) w may h = absurd may
joining_connections x s j (EndLeaving i r) w may h = absurd may
