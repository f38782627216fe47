-- The connection of a joined session is removed in recovery or at its free's answer alone: each act keeps it.
use Rattle.sl_due_facts.proofs.Acts.InputsKeep.{has_heard}
use Rattle.sl_due_facts.proofs.Acts.LoopsKeep.{when_keeps}
use Rattle.sl_due_facts.specs.Acts.Acts.{Acts, Has, Hears, next_of_settling}
use Rattle.sl_due_facts.specs.Acts.TraceSoFar.{entry_of}
use Rattle.sl_area.specs.AreaLayout.{delta_offset, request_offset}
use Rattle.sl_due.specs.DueAnswers.{set_reply}
use Rattle.sl_due.specs.DueCommands.{carry_decision}
use Rattle.sl_due.specs.DueRecovery.{begin_recoveries}
use Rattle.sl_due.specs.DueTimeOuts.{remove_connection, remove_of_refused}
use Rattle.sl_due.specs.DueInputs.{end_holdings, leave_holdings, started_reply}
use Rattle.sl_due.specs.CarriedLease.{next_of_lease}
use Rattle.sl_due.specs.DueRequests.{after_value_read, bits_due, value_reply}
use Rattle.sl_due.specs.Steps.{Step, add_call_of, add_end, add_grant, add_move, add_reply, add_signal, add_start, begin_step, seen, with_input}
use Rattle.sl_due.specs.declared.decision.Decision.{Decision}
use Rattle.sl_due.specs.declared.decision.Decision.TheVariants.{ConvertsTo, GetsValue, GivesUp, Joins, Leaves, ReadsArea, Replies, Requests, SetsValue, Shares, TakesOver}
use Rattle.sl_due_leases.proofs.Holdings.HoldersSpared.{IsJoining, joined_some, joining}
use Rattle.sl_due_leases.proofs.Holdings.HoldingFactsAreKept.{writer_of}
use Rattle.sl_due_leases.specs.Holdings.Moments.{Known}
use Rattle.sl_due_facts.proofs.Jobs.AnsweredCallsFit.{both_of}
use Rattle.sl_due_facts.proofs.Jobs.CallsHaveFacts.{find_mapped, timely}
use Rattle.sl_due_facts.proofs.Jobs.CallsOfJobsFit.{joining_of}
use Rattle.sl_due_facts.proofs.Jobs.EffectsAreAllowed.{Allows, DecisionAllowed, DeltaAllowed, decision, delta, ended, exited, lease, left, refusal, removal, requested, said, sent, signalled, stopped}
use Rattle.sl_due_facts.proofs.Jobs.JobsAreAllowed.{calls_heard}
use Rattle.sl_due_facts.proofs.Jobs.LinesAreAllowed.{IsBegun}
use Rattle.sl_due_facts.proofs.Jobs.NearlyPlainActs.{AnyStart, Anything, NoLook, decision_plain, lease_plain, request_plain}
use Rattle.sl_due_facts.proofs.Jobs.RepliesComeAfter.{IsLateDelta, joining_late, on_bool, on_option, wake_late}
use Rattle.sl_due_facts.proofs.Jobs.SessionsArePresent.{joined_present, present_inside}
use Rattle.sl_due_facts.specs.Jobs.JobLaws.{BeginsWith}
use Rattle.sl_trace.specs.Jobs.{job_of_start}
use Rattle.sl_trace.specs.Leases.{spot_of_call}
use Rattle.sl_trace.specs.declared.lease.LeaseNext.{LeaseNext}
use Rattle.sl_words.proofs.Lists.{find_fails, find_inside, got_inside, in_map, kept}
use Rattle.sl_words.proofs.Numbers.{number_itself}
use Rattle.sl_words.proofs.Options.{mapped_value, some_there}
use Rattle.sl_words.proofs.Truth.{or_false}
use Rattle.sl_due_law.proofs.Recovery.RecoveriesStart.{removed_if}
use Rattle.sl_due_law.proofs.Recovery.StopsBegin.{IsDenial, Says, begun_says}
use Rattle.sl_due_law.proofs.Recovery.StopsConclude.{old_session, unfreed_on_wake, wake_told}
use Rattle.sl_due_law.specs.Recovery.Stops.{FreeTold, Partings}
use Rattle.sl_sector.specs.Bitmaps.{no_bits}
use Rattle.sl_sector.specs.declared.sector.DeltaState.TheVariants.{Free, Live}
use Rattle.sl_due_facts.proofs.Sessions.DeltaConditions.{heard_at}
use Rattle.sl_due_facts.proofs.Sessions.NamesAreAllowed.{caller_joined}
use Rattle.sl_trace.specs.DeltaDecisions.{DeltaLease, delta_known, delta_of_session, delta_record, is_renewal_due, next_after_free, next_after_renewal, next_free, next_in_joining, next_on_wake, next_renewal}
use Rattle.sl_trace.specs.Sessions.{calls_of, generation_of, has_open_write, is_call_of, is_free_purpose, is_joined, joined_after, recovery_of, refused_after, removed_after, session_of_job, sessions}
use Rattle.sl_trace.specs.declared.delta.DeltaKnown.{DeltaKnown}
use Rattle.sl_trace.specs.declared.delta.DeltaNext.{DeltaNext}
use Rattle.sl_trace.specs.declared.delta.DeltaNext.TheVariants.{Disconnect, EndLeaving, Join, MoveConnection, Nothing, ReadOwn, RefuseJoin, RegisterAndRead, WriteClaim, WriteFirst, WriteFree, WriteRenewal}
use Rattle.sl_trace.specs.declared.session.Session.{Session}
use Rattle.sl_due_facts.specs.Facts.AllFacts.{Whole}
use Rattle.sl_trace.specs.WatchdogConnections.{unregisters}
use Rattle.sl_trace.specs.Traces.{Answered, Submitted, answered_in, is_running, next_job, submitted}
use Rattle.sl_trace.specs.declared.command.Command.{Command}
use Rattle.sl_trace.specs.declared.command.LockspaceArg.{LockspaceArg}
use Rattle.sl_trace.specs.declared.effects.Call.{Call}
use Rattle.sl_trace.specs.declared.effects.JoinStep.TheVariants.{FirstRead}
use Rattle.sl_trace.specs.declared.effects.Move.{Move}
use Rattle.sl_trace.specs.declared.effects.Move.TheVariants.{Register, Renew, Unregister}
use Rattle.sl_trace.specs.declared.effects.Op.TheVariants.{ReadSectors}
use Rattle.sl_trace.specs.declared.effects.Purpose.TheVariants.{Joining, Leaving, SeeRequest}
use Rattle.sl_trace.specs.declared.effects.Signal.TheVariants.{Kill, Term}
use Rattle.sl_trace.specs.declared.effects.Work.TheVariants.{Settling}
use Rattle.sl_trace.specs.declared.input.Answer.{Answer}
use Rattle.sl_trace.specs.declared.input.Answer.TheVariants.{Failed, Read, Written}
use Rattle.sl_trace.specs.declared.input.Input.{Input}
use Rattle.sl_trace.specs.declared.input.Input.TheVariants.{Answer as Told, Exit, Line, Number, Spawned, Wake}
use Rattle.sl_trace.specs.declared.reply.Reply.TheVariants.{BadCommand as Misread, Done, IoFault, IoTimeout, SpawnFault}
use Rattle.sl_run_law.proofs.Leases.NumberLaws.{number_is_place}
use Rattle.sl_run_law.proofs.Sessions.CallsAreMade.{same_answered}
use Rattle.sl_run_law.proofs.Sessions.MarksStay.{refused_apart}
use Rattle.sl_words.proofs.CaseLaws.{false_is_true, not_both, some_value, true_is_false}
use Rattle.sl_words.proofs.WordLaws.{and_true, some_is_true}
use Rattle.sl_words.specs.Words.{some_is}
use Rattle.std.proofs.Common.{ap, ap₂, arith, inl, inr, refl, subst, sym, ◌∙◌}
use Rattle.std.proofs.lemmas.Bool.{eqb-true}
use Rattle.std.proofs.lemmas.Slice.Eq.{bytes_eq-Decides}
use Rattle.std.specs.List.{list_any}
use Rattle.std.specs.Prelude.{Bool, Contains, List, None, Option, Some, [], bytes_eq, cond, false, filter, find, is_none, is_some, length, map, not, true, ℕ, ◌&&◌, ◌++◌, ◌+◌, ◌<◌, ◌==◌, ◌||◌, ◌∷◌, ◌≡◌, ◌≤◌, ◌⊎◌}

-- All that is known, with this.
abbrev pub WithPartings : Step → Type 0
WithPartings x = Known x × Partings x

abbrev pub PartsWell : Step → Session → Type 0
PartsWell x s = (is_some (recovery_of x.setting (seen x) s) ≡ true) ⊎ FreeTold x s

-- The move removes no connection but of such a session.
abbrev pub MayRemove : Step → Move → Type 0
MayRemove x (Unregister name) = (s : Session) → Contains (sessions x.setting x.past) s → is_joined x.past s ≡ true → bytes_eq name s.lockspace ≡ true → PartsWell x s
MayRemove x (Register name expiry) = Unit {0}
MayRemove x (Renew name expiry) = Unit {0}

-- ---- what each effect keeps

-- A step that has come on from another.
pub record PartingSince (x z : Step) : Type 0 where
  pub setting : z.setting ≡ x.setting
  pub before : z.past ≡ x.past
  pub input : z.input ≡ x.input
  pub recovery : (s : Session) → recovery_of z.setting (seen z) s ≡ recovery_of x.setting (seen x) s
  pub partings : Partings z

since_itself : (x : Step) → Partings x → PartingSince x x
since_itself x h = record { setting = refl; before = refl; input = refl; recovery = λ s. refl; partings = h }

pub told_again : (y z : Step) (s : Session) → z.input ≡ y.input → z.past ≡ y.past → FreeTold y s → FreeTold z s
told_again y z s input before f =
    record {
      number = f.number;
      answer = f.answer;
      told = input ∙ f.told;
      call = f.call;
      free = ap (λ t. find (λ (m : Submitted). is_call_of s m && is_free_purpose m.call.purpose) (submitted t)) before ∙ f.free;
      its = f.its;
    }

well_again : (y z : Step) (s : Session) → z.input ≡ y.input → z.past ≡ y.past → recovery_of z.setting (seen z) s ≡ recovery_of y.setting (seen y) s → PartsWell y s → PartsWell z s
well_again y z s input before recovery (inl some_one) = inl (ap (λ o. is_some o) recovery ∙ some_one)
well_again y z s input before recovery (inr f) = inr (told_again y z s input before f)

same_partings : (y z : Step) → z.setting ≡ y.setting → z.input ≡ y.input → z.past ≡ y.past → z.effects.moves ≡ y.effects.moves → ((s : Session) → recovery_of z.setting (seen z) s ≡ recovery_of y.setting (seen y) s) → Partings y → Partings z
same_partings y z setting input before moves recovery h = λ s there joined gone.
    well_again y z s input before (recovery s)
    (h s (subst (λ t. Contains (sessions y.setting t) s) before (subst (λ st. Contains (sessions st z.past) s) setting there)) (subst (λ t. is_joined t s ≡ true) before joined)
    (ap (λ ms. list_any (unregisters s.lockspace) ms) (sym moves) ∙ gone))

-- An effect that is no move.
since_more : (x y z : Step) → z.setting ≡ y.setting → z.input ≡ y.input → z.past ≡ y.past → z.effects.moves ≡ y.effects.moves → ((s : Session) → recovery_of z.setting (seen z) s ≡ recovery_of y.setting (seen y) s) → PartingSince x y → PartingSince x z
since_more x y z setting input before moves recovery h =
    record { setting = setting ∙ h.setting; before = before ∙ h.before; input = input ∙ h.input; recovery = λ s. recovery s ∙ h.recovery s; partings = same_partings y z setting input before moves recovery h.partings }

any_or_last : {A : Type 0} (p : A → Bool) (xs : List A) (y : A) → list_any p (xs ++ y ∷ []) ≡ true → (list_any p xs ≡ true) ⊎ (p y ≡ true)
any_or_last p [] y h = inr (or_false (p y) h)
any_or_last {A} p (x ∷ xs) y h = by (p x) h (λ k. any_or_last p xs y k) where
  by : (b : Bool) → (b || list_any p (xs ++ y ∷ [])) ≡ true → (list_any p (xs ++ y ∷ []) ≡ true → (list_any p xs ≡ true) ⊎ (p y ≡ true)) → ((b || list_any p xs) ≡ true) ⊎ (p y ≡ true)
  by true k more = inl refl
  by false k more = more k

since_move : (x y : Step) (m : Move) → MayRemove x m → PartingSince x y → PartingSince x (add_move m y)
since_move x y m may h =
    record {
      setting = h.setting;
      before = h.before;
      input = h.input;
      recovery = h.recovery;
      partings = λ s there joined gone. by s there joined (any_or_last (unregisters s.lockspace) y.effects.moves m gone);
    } where
      removed : (k : Move) → MayRemove x k → (s : Session) → Contains (sessions x.setting x.past) s → is_joined x.past s ≡ true → unregisters s.lockspace k ≡ true → PartsWell x s
      removed (Unregister name) may s there joined is = may s there joined is
      removed (Register name expiry) may s there joined is = absurd (false_is_true is)
      removed (Renew name expiry) may s there joined is = absurd (false_is_true is)

      again : (s : Session) → PartsWell y s → PartsWell (add_move m y) s
      again s (inl some_one) = inl some_one
      again s (inr f) = inr (told_again y (add_move m y) s refl refl f)

      by : (s : Session) → Contains (sessions y.setting y.past) s → is_joined y.past s ≡ true → (list_any (unregisters s.lockspace) y.effects.moves ≡ true) ⊎ (unregisters s.lockspace m ≡ true) → PartsWell (add_move m y) s
      by s there joined (inl old) = again s (h.partings s there joined old)
      by s there joined (inr new) =
          again s (well_again x y s h.input h.before (h.recovery s)
          (removed m may s (subst (λ t. Contains (sessions x.setting t) s) h.before (subst (λ st. Contains (sessions st y.past) s) h.setting there)) (subst (λ t. is_joined t s ≡ true) h.before joined) new))

pub partings_allowed : (x : Step) → Allows (PartingSince x) (PartingSince x) Anything NoLook AnyStart (MayRemove x)
partings_allowed x =
    record {
      ends = λ y e h. since_more x y (add_end e y) refl refl refl refl (λ s. refl) h;
      signals = λ y q signal h. since_more x y (add_signal q signal y) refl refl refl refl (λ s. refl) h;
      moves = λ y m may h. since_move x y m may h;
      grants = λ y g h. since_more x y (add_grant g y) refl refl refl refl (λ s. refl) h;
      starts = λ y k may h. since_more x y (add_start k y) refl refl refl refl (λ s. refl) h;
      replies = λ y j r may h. since_more x y (add_reply j r y) refl refl refl refl (λ s. refl) h;
      calls = λ y s path p o op no_look h. since_more x y (add_call_of s.number path p o op y) refl refl refl refl (λ z. refl) h;
      rest = λ y h. h;
    }

-- ---- whose connection an act removes

-- A joined session of before that isn't joined any more has parted well already.
parted_already : (x : Step) (s : Session) → Partings x → Contains (sessions x.setting x.past) s → is_joined x.past s ≡ true → is_joined (seen x) s ≡ false → PartsWell x s
parted_already x s h there joined gone = h s there joined (removed_if (entry_of x) x.past s joined gone)

-- Of a name of which no joined session but this one is present.
removes_of : (x : Step) (name : List ℕ) → Partings x → ((s : Session) → Contains (sessions x.setting x.past) s → is_joined (seen x) s ≡ true → name ≡ s.lockspace → PartsWell x s) → MayRemove x (Unregister name)
removes_of x name h well s there joined same = by (is_joined (seen x) s) refl where
  by : (b : Bool) → is_joined (seen x) s ≡ b → PartsWell x s
  by true is = well s there is ((bytes_eq-Decides name s.lockspace).0 same)
  by false is = parted_already x s h there joined is

-- A joining session that is present has no joined one of its name beside it.
of_joining : (x : Step) (z : Session) (j : ℕ) → WithPartings x → Contains (sessions x.setting (seen x)) z → z.job ≡ Some j → is_running (seen x) j ≡ true → MayRemove x (Unregister z.lockspace)
of_joining x z j h there its runs =
    removes_of x z.lockspace h.1 (λ s old joined same.
    let g : IsJoining (seen x) z = joining (seen x) z j its runs in
    let one : z ≡ s =
    h.0.0.facts.names.apart z s (present_inside x.setting (seen x) z there g.present) (present_inside x.setting (seen x) s (old_session x s old) (joined_present (seen x) s joined)) same
    in
    absurd (joined_some (seen x) z (subst (λ (q : Session). is_joined (seen x) q ≡ true) (sym one) joined) g.unjoined))

of_job : (x : Step) (j : ℕ) → WithPartings x → is_running (seen x) j ≡ true → (z : Session) → session_of_job x.setting (seen x) j ≡ Some z → MayRemove x (Unregister z.lockspace)
of_job x j h runs z is =
    let found = find_inside (λ (s : Session). some_is (λ k. k == j) s.job) (sessions x.setting (seen x)) z is in
    let its = some_is_true (λ k. k == j) z.job found.1 in
    of_joining x z j h found.0 (its.1 ∙ ap (λ k. Some k) (eqb-true its.0 j its.2)) runs

-- What a joining decides.
joins_well : (x : Step) (s : Session) (j : ℕ) (n : DeltaNext) → WithPartings x → Has x s → s.job ≡ Some j → is_running (seen x) j ≡ true → IsLateDelta n → DeltaAllowed Anything NoLook (MayRemove x) x s n
joins_well x s j n h has its runs late = by n late where
  mine : MayRemove x (Unregister s.lockspace)
  mine = of_joining x s j h (got_inside (sessions x.setting (seen x)) s.number s has) its runs

  refused : (i : ℕ) → s.job ≡ Some i → (z : Session) → session_of_job x.setting (seen x) i ≡ Some z → MayRemove x (Unregister z.lockspace)
  refused i at z is = of_job x i h (subst (λ k. is_running (seen x) k ≡ true) (some_value j i (sym its ∙ at)) runs) z is

  by : (k : DeltaNext) → IsLateDelta k → DeltaAllowed Anything NoLook (MayRemove x) x s k
  by Nothing k = tt
  by (RefuseJoin r) k = λ i at. (tt, refused i at)
  by (ReadOwn step) k = λ i at. k
  by (RegisterAndRead step) k = λ i at. (tt, k)
  by (WriteClaim d) k = λ i at. refl
  by Disconnect k = mine
  by (WriteFirst d) k = λ i at. refl
  by (Join generation renewed) k = λ i at. (tt, tt, refl)
  by (MoveConnection renewed) k = (tt, refl)
  by (WriteRenewal d) k = refl
  by (WriteFree i d) k = absurd k
  by (EndLeaving i r) k = absurd k

renewed_well : (x : Step) (s : Session) (recovering : Bool) (made : ℕ) (answer : Answer) → DeltaAllowed Anything NoLook (MayRemove x) x s (next_after_renewal recovering made answer)
renewed_well x s recovering made Written = on_bool (DeltaAllowed Anything NoLook (MayRemove x) x s) recovering (MoveConnection made) Nothing (tt, refl) tt
renewed_well x s recovering made Failed = tt
renewed_well x s recovering made (Read bytes) = tt

renewal_well : (x : Step) (s : Session) (l : DeltaLease) (now : ℕ) (k : DeltaKnown) (bits : List ℕ) → DeltaAllowed Anything NoLook (MayRemove x) x s (next_renewal l now k bits)
unfolding next_renewal
renewal_well x s l now k bits = on_bool (DeltaAllowed Anything NoLook (MayRemove x) x s) (is_renewal_due l now k) Nothing (WriteRenewal (delta_record l Live k.generation (k.seq + 1) now bits)) tt refl

free_well : (x : Step) (s : Session) (l : DeltaLease) (now : ℕ) (k : DeltaKnown) → DeltaAllowed Anything NoLook (MayRemove x) x s (next_free l now k)
free_well x s l now k =
    on_option (DeltaAllowed Anything NoLook (MayRemove x) x s) k.leaving Nothing (λ j. elim k.freed [ true ↦ Nothing | false ↦ WriteFree j (delta_record l Free k.generation (k.seq + 1) now no_bits) ]) tt
    (λ j. on_bool (DeltaAllowed Anything NoLook (MayRemove x) x s) k.freed (WriteFree j (delta_record l Free k.generation (k.seq + 1) now no_bits)) Nothing refl tt)

freed_well : (x : Step) (s : Session) (j call : ℕ) (answer : Answer) → MayRemove x (Unregister s.lockspace) → DeltaAllowed Anything NoLook (MayRemove x) x s (next_after_free j call answer)
freed_well x s j call Written may = (may, tt)
freed_well x s j call Failed may = (may, tt)
freed_well x s j call (Read bytes) may = tt

-- ---- a free's answer

pub find_kept : {A : Type 0} (p q : A → Bool) (xs : List A) → find q (filter p xs) ≡ find (λ x. p x && q x) xs
find_kept p q [] = refl
find_kept {A} p q (x ∷ xs) = by (p x) (find_kept p q xs) where
  by : (b : Bool) → find q (filter p xs) ≡ find (λ y. p y && q y) xs → find q (cond b (x ∷ filter p xs) (filter p xs)) ≡ cond (b && q x) (Some x) (find (λ y. p y && q y) xs)
  by true rest = ap (λ o. cond (q x) (Some x) o) rest
  by false rest = rest

finds_some : {A : Type 0} (p : A → Bool) (xs : List A) (d : A) → p d ≡ true → Contains xs d → (e : A) × (find p xs ≡ Some e)
finds_some {A} p xs d is there = by (find p xs) refl where
  by : (o : Option A) → find p xs ≡ o → (e : A) × (find p xs ≡ Some e)
  by (Some e) found = (e, found)
  by None found = absurd (not_both (p d) is (find_fails p xs d found there))

-- The free that was heard is the one that an entry before has written.
free_is_told : (x : Step) (s : Session) (j : ℕ) (m : Submitted) (answer : Answer) → Whole x → Hears x s m answer → m.call.purpose ≡ Leaving j → FreeTold x s
free_is_told x s j m answer h hears is =
    record { number = hears.number; answer = answer; told = hears.heard; call = before.0; free = before.1; its = ap (λ (c : Call). c.number) (sym same ∙ ap (λ (d : Submitted). d.call) before.2) ∙ number }
  where
    f : Submitted → Submitted
    f = answered_in x.past (entry_of x) hears.number answer

    free_one : Submitted → Bool
    free_one d = is_call_of s d && is_free_purpose d.call.purpose

    inside : Contains (submitted (seen x)) m × ((m.call.number == hears.number) ≡ true)
    inside = find_inside (λ (d : Submitted). d.call.number == hears.number) (submitted (seen x)) m hears.call

    number : m.call.number ≡ hears.number
    number = eqb-true m.call.number hears.number (find_inside (λ (d : Submitted). d.call.number == hears.number) (submitted (seen x)) m hears.call).1

    mine : is_call_of s m ≡ true
    mine = ap (λ n. m.call.session == n) (number_is_place x.setting (seen x) m.call.session s hears.session) ∙ number_itself m.call.session

    frees : is_free_purpose m.call.purpose ≡ true
    frees = ap (λ p. is_free_purpose p) is

    there : Contains (sessions x.setting (seen x)) s
    there = got_inside (sessions x.setting (seen x)) m.call.session s hears.session

    newest : (e : Submitted) × (find (λ (d : Submitted). is_call_of s d && is_free_purpose d.call.purpose) (submitted (seen x)) ≡ Some e)
    newest = finds_some (λ (d : Submitted). is_call_of s d && is_free_purpose d.call.purpose) (submitted (seen x)) m (ap₂ (λ a b. a && b) mine frees) inside.0

    marked : submitted (seen x) ≡ map (answered_in x.past (entry_of x) hears.number answer) (submitted x.past)
    marked = calls_heard x hears.number answer hears.heard hears.bare

    low : (e : Submitted) → Contains (submitted (seen x)) e → e.at < length x.past
    low e here =
        let was = in_map (answered_in x.past (entry_of x) hears.number answer) (submitted x.past) e (subst (λ ms. Contains ms e) marked here) in
        subst (λ n. n < length x.past) (sym (same_answered x.past (entry_of x) hears.number answer was.0).at ∙ ap (λ (d : Submitted). d.at) was.2) (timely x.past was.0 was.1).0

    one : newest.0 ≡ m
    one = by (h.facts.delta.before s newest.0 m there (find_kept (is_call_of s) (λ (d : Submitted). is_free_purpose d.call.purpose) (submitted (seen x)) ∙ newest.1) (kept (is_call_of s) (submitted (seen x)) m mine inside.0)) where
      by : (m ≡ newest.0) ⊎ ((a : Answered) × (m.answer ≡ Some a) × (a.at ≤ newest.0.at)) → newest.0 ≡ m
      by (inl same_one) = sym same_one
      by (inr early) =
          let at : early.0.at ≡ length x.past = heard_at x s m answer early.0 h hears early.1 in
          let less : newest.0.at < length x.past = low newest.0 (find_inside (λ (d : Submitted). is_call_of s d && is_free_purpose d.call.purpose) (submitted (seen x)) newest.0 newest.1).0 in
          let most : early.0.at ≤ newest.0.at = early.2 in absurd (omega (arith, at, less, most))

    before : (e : Submitted) × (find (λ (d : Submitted). is_call_of s d && is_free_purpose d.call.purpose) (submitted x.past) ≡ Some e) × (answered_in x.past (entry_of x) hears.number answer e ≡ m)
    before =
        mapped_value (answered_in x.past (entry_of x) hears.number answer) (find (λ (d : Submitted). is_call_of s d && is_free_purpose d.call.purpose) (submitted x.past)) m
        (sym (find_mapped (λ (d : Submitted). is_call_of s d && is_free_purpose d.call.purpose) (answered_in x.past (entry_of x) hears.number answer) (submitted x.past)
        (λ d. ap (λ (c : Call). (c.session == s.number) && is_free_purpose c.purpose) (same_answered x.past (entry_of x) hears.number answer d).call))
        ∙ (ap (λ ms. find (λ (d : Submitted). is_call_of s d && is_free_purpose d.call.purpose) ms) (sym marked) ∙ (newest.1 ∙ ap (λ d. Some d) one)))

    same : (answered_in x.past (entry_of x) hears.number answer before.0).call ≡ before.0.call
    same = (same_answered x.past (entry_of x) hears.number answer before.0).call

-- A session whose free was heard is still joined.
pub leaver_joined : (x : Step) (s : Session) (j : ℕ) (m : Submitted) (answer : Answer) → Whole x → Hears x s m answer → m.call.purpose ≡ Leaving j → is_joined (seen x) s ≡ true
leaver_joined x s j m answer h hears is = by (joined_after (seen x) s) (removed_after (seen x) s) joined hears.present where
  inside : Contains (submitted (seen x)) m
  inside = (find_inside (λ (d : Submitted). d.call.number == hears.number) (submitted (seen x)) m hears.call).0

  mine : is_call_of s m ≡ true
  mine = ap (λ n. m.call.session == n) (number_is_place x.setting (seen x) m.call.session s hears.session) ∙ number_itself m.call.session

  joined : is_some (joined_after (seen x) s) ≡ true
  joined =
      caller_joined x.setting (seen x) s m h.orderly (has_heard x s m answer hears) (kept (is_call_of s) (submitted (seen x)) m mine inside)
      (λ i step joins. true_is_false (sym (ap (λ p. is_free_purpose p) is) ∙ ap (λ p. is_free_purpose p) joins))

  by : (o r : Option ℕ) → is_some o ≡ true
      → (is_none (elim o as (λ z. Option ℕ) [ Some k ↦ r | None ↦ refused_after (seen x) s ]) || (is_none o && has_open_write (seen (with_input Wake x)) s)) ≡ true → (is_some o && is_none r) ≡ true
  by (Some k) None some_one present = refl
  by (Some k) (Some i) some_one present = absurd (false_is_true present)
  by None r some_one present = absurd (false_is_true some_one)

of_leaver : (x : Step) (s : Session) (j : ℕ) (m : Submitted) (answer : Answer) → WithPartings x → Hears x s m answer → m.call.purpose ≡ Leaving j → MayRemove x (Unregister s.lockspace)
of_leaver x s j m answer h hears is =
    removes_of x s.lockspace h.1 (λ z old joined same.
    let there : Contains (sessions x.setting (seen x)) s = got_inside (sessions x.setting (seen x)) m.call.session s hears.session in
    let own : is_joined (seen x) s ≡ true = leaver_joined x s j m answer h.0.0 hears is in
    let one : s ≡ z =
    h.0.0.facts.names.apart s z (present_inside x.setting (seen x) s there (joined_present (seen x) s own)) (present_inside x.setting (seen x) z (old_session x z old) (joined_present (seen x) z joined)) same
    in
    inr (subst (λ q. FreeTold x q) one (free_is_told x s j m answer h.0.0 hears is)))

-- A session in recovery.
of_recovering : (x : Step) (s : Session) → WithPartings x → Has x s → is_joined (seen x) s ≡ true → is_some (recovery_of x.setting (seen x) s) ≡ true → MayRemove x (Unregister s.lockspace)
of_recovering x s h has own recovers_one =
    removes_of x s.lockspace h.1 (λ z old joined same.
    let there : Contains (sessions x.setting (seen x)) s = got_inside (sessions x.setting (seen x)) s.number s has in
    let one : s ≡ z =
    h.0.0.facts.names.apart s z (present_inside x.setting (seen x) s there (joined_present (seen x) s own)) (present_inside x.setting (seen x) z (old_session x z old) (joined_present (seen x) z joined)) same
    in
    inl (subst (λ q. is_some (recovery_of x.setting (seen x) q) ≡ true) one recovers_one))

-- A refused joining whose last write was answered: no joined session of its name is beside it.
ends_well : (x : Step) (s : Session) (m : Submitted) (answer : Answer) → WithPartings x → Hears x s m answer → Partings (remove_of_refused s x)
ends_well x s m answer h hears =
    when_keeps Partings (is_some (refused_after (seen x) s) && not (has_open_write (seen x) s)) (remove_connection s.lockspace) x
    (λ is k. (removal (PartingSince x) (PartingSince x) Anything NoLook AnyStart (MayRemove x) (partings_allowed x) x s.lockspace
    (may (and_true (is_some (refused_after (seen x) s)) (not (has_open_write (seen x) s)) is).0) (since_itself x h.1)).partings) h.1
  where
    there : Contains (sessions x.setting (seen x)) s
    there = got_inside (sessions x.setting (seen x)) m.call.session s hears.session

    may : is_some (refused_after (seen x) s) ≡ true → MayRemove x (Unregister s.lockspace)
    may refused =
        let k = some_there (refused_after (seen x) s) refused in
        let unjoined : joined_after (seen x) s ≡ None = refused_apart (seen x) s k.0 k.1 in
        let w = writer_of x s m answer hears h.0.0.facts.calls h.0.0.orderly unjoined refused in
        let mine : Contains (calls_of (seen x) s) w.0 = kept (is_call_of s) (submitted (seen x)) w.0 (ap (λ n. n == s.number) w.2 ∙ number_itself s.number) w.1 in
        removes_of x s.lockspace h.1 (λ z old joined same.
        let one : z ≡ s = h.0.0.facts.connections.writers s z w.0 there unjoined mine w.3 w.4 (old_session x z old) (joined_present (seen x) z joined) (sym same) in
        absurd (joined_some (seen x) s (subst (λ (q : Session). is_joined (seen x) q ≡ true) one joined) unjoined))

-- ---- inputs

seen_partings : (x : Step) (i : Input) → x.input ≡ Wake → Partings x → Partings (with_input i x)
seen_partings x i wake h = λ s there joined gone. by s (h s there joined gone) where
  by : (s : Session) → PartsWell x s → PartsWell (with_input i x) s
  by s (inr f) = absurd (unfreed_on_wake x s wake f)
  by s (inl some_one) =
      let b = some_there (recovery_of x.setting (seen x) s) some_one in
      let now : recovery_of x.setting (record { reading = x.reading; input = Wake; effects = x.effects } ∷ x.past) s ≡ Some b.0 =
      subst (λ k. recovery_of x.setting (record { reading = x.reading; input = k; effects = x.effects } ∷ x.past) s ≡ Some b.0) wake b.1
      in
      inl (ap (λ o. is_some o) (wake_told x.setting x.past x.reading x.effects i s b.0 now))

lined : (x : Step) (text : List ℕ) (c : Command) (d : Decision) → x.input ≡ Wake → Partings x → Partings (carry_decision (next_job x.setting (seen x)) c d (with_input (Line text) x))
unfolding carry_decision
lined x text c d wake h = by (decision_plain (PartingSince w) w j c d) where
  w : Step
  w = with_input (Line text) x

  j : ℕ
  j = next_job x.setting (seen x)

  q : Partings (with_input (Line text) x)
  q = seen_partings x (Line text) wake h

  begins : (n : ℕ) (a : LockspaceArg) → PartingSince (with_input (Line text) x) (carry_decision (next_job x.setting (seen x)) c (Joins n a) (with_input (Line text) x))
  begins n a =
      since_more (with_input (Line text) x) (with_input (Line text) x)
      (add_call_of n a.path (Joining (next_job x.setting (seen x)) FirstRead) (delta_offset x.setting.layout a.offset a.id) (ReadSectors 1) (with_input (Line text) x)) refl refl refl refl (λ s. refl) (since_itself (with_input (Line text) x) q)

  begun : (z : Decision) → IsBegun z → Partings (carry_decision (next_job x.setting (seen x)) c z (with_input (Line text) x))
  begun (Joins n a) k = (begins n a).partings
  begun (Leaves s) k = absurd k
  begun (Replies r) k = absurd k
  begun (ReadsArea s r) k = absurd k
  begun (Shares s lver) k = absurd k
  begun (GivesUp s g) k = absurd k
  begun (TakesOver s g) k = absurd k
  begun (ConvertsTo s r mode) k = absurd k
  begun (Requests s r) k = absurd k
  begun (SetsValue s spot v) k = absurd k
  begun (GetsValue s spot) k = absurd k

  by : IsBegun d ⊎ DecisionAllowed (PartingSince (with_input (Line text) x)) Anything NoLook AnyStart (with_input (Line text) x) (next_job x.setting (seen x)) c d
      → Partings (carry_decision (next_job x.setting (seen x)) c d (with_input (Line text) x))
  by (inr may) =
      (decision (PartingSince (with_input (Line text) x)) (PartingSince (with_input (Line text) x)) Anything NoLook AnyStart (MayRemove (with_input (Line text) x)) (partings_allowed (with_input (Line text) x)) (with_input (Line text) x)
      (next_job x.setting (seen x)) c d may (λ n a joins. begins n a) (since_itself (with_input (Line text) x) q)).partings
  by (inl k) = begun d k

-- ---- all acts

pub partings_are_kept : Acts WithPartings Partings
unfolding after_value_read
partings_are_kept =
    record {
      kills = λ x s has due h. (signalled (PartingSince x) (PartingSince x) Anything NoLook AnyStart (MayRemove x) (partings_allowed x) tt x Kill s (since_itself x h.1)).partings;
      times_out = λ x j m wake bare runs waits late_one h.
          (refusal (PartingSince x) (PartingSince x) Anything NoLook AnyStart (MayRemove x) (partings_allowed x) x j (IoTimeout m.call.number m.reading x.reading) tt (of_job x j h runs) (since_itself x h.1)).partings;
      hears = λ x number answer wake bare expected h. seen_partings x (Told number answer) wake h.1;
      counts = λ x text wake bare h. seen_partings x (Number text) wake h.1;
      exits = λ x n wake bare one h.
          let w : Step = with_input (Exit n) x in
          (exited (PartingSince w) (PartingSince w) Anything NoLook AnyStart (MayRemove w) (partings_allowed w) (leave_holdings n w) n (λ j there. tt)
          (left (PartingSince w) (PartingSince w) Anything NoLook AnyStart (MayRemove w) (partings_allowed w) w n (since_itself w (seen_partings x (Exit n) wake h.1)))).partings;
      exits_as_none = λ x n wake bare none h. seen_partings x (Exit n) wake h.1;
      starts = λ x n ok wake bare expected h. seen_partings x (Spawned n ok) wake h.1;
      fails_to_start = λ x n input h.
          (said (PartingSince x) (PartingSince x) Anything NoLook AnyStart (MayRemove x) (partings_allowed x) (end_holdings n x) (job_of_start (seen x) n) SpawnFault (λ j is. tt)
          (ended (PartingSince x) (PartingSince x) Anything NoLook AnyStart (MayRemove x) (partings_allowed x) x n (since_itself x h.1))).partings;
      signals_instead = λ x n o input stood h. ((partings_allowed x).signals x o Term (since_itself x h.1)).partings;
      says_started = λ x n j input is runs h. ((partings_allowed x).replies x j (started_reply (seen x) n) tt (since_itself x h.1)).partings;
      misreads = λ x text column wake bare says h.
          let w : Step = with_input (Line text) x in ((partings_allowed w).replies w (next_job x.setting (seen x)) (Misread column) tt (since_itself w (seen_partings x (Line text) wake h.1))).partings;
      answers = λ x text c r wake bare says is h.
          let w : Step = with_input (Line text) x in ((partings_allowed w).replies w (next_job x.setting (seen x)) r tt (since_itself w (seen_partings x (Line text) wake h.1))).partings;
      carries = λ x text c d wake bare says is more h. lined x text c d wake h.1;
      joins_on = λ x s j step m answer hears is runs h.
          let n : DeltaNext = next_in_joining (delta_of_session x.setting s) (generation_of (seen x) s) (calls_of (seen x) s) x.reading m step answer in
          (delta (PartingSince x) (PartingSince x) Anything NoLook AnyStart (MayRemove x) (partings_allowed x) x s n
          (joins_well x s j n h (has_heard x s m answer hears) (joining_of x s m j step (both_of x h.0.0) (find_inside (λ (d : Submitted). d.call.number == hears.number) (submitted (seen x)) m hears.call).0 hears.session is) runs
          (joining_late (delta_of_session x.setting s) (generation_of (seen x) s) (calls_of (seen x) s) x.reading m step answer)) (since_itself x h.1)).partings;
      ends_joining = λ x s j step m answer hears is stops h. ends_well x s m answer h hears;
      renewed = λ x s m answer hears is h.
          (delta (PartingSince x) (PartingSince x) Anything NoLook AnyStart (MayRemove x) (partings_allowed x) x s (next_after_renewal (is_some (recovery_of x.setting (seen x) s)) m.reading answer)
          (renewed_well x s (is_some (recovery_of x.setting (seen x) s)) m.reading answer) (since_itself x h.1)).partings;
      freed = λ x s j m answer hears is h.
          (delta (PartingSince x) (PartingSince x) Anything NoLook AnyStart (MayRemove x) (partings_allowed x) x s (next_after_free j m.call.number answer)
          (freed_well x s j m.call.number answer (of_leaver x s j m answer h hears is)) (since_itself x h.1)).partings;
      shown = λ x s m bytes hears is joined begins h. (stopped (PartingSince x) (PartingSince x) Anything NoLook AnyStart (MayRemove x) (partings_allowed x) tt x s None (λ z k j there. tt) (since_itself x h.1)).partings;
      sees = λ x s number bytes spot g has input held h. ((partings_allowed x).calls x s g.path SeeRequest (request_offset x.setting.layout g.offset) (ReadSectors 1) refl (since_itself x h.1)).partings;
      leads_on = λ x s work step m answer aim hears is on aims h.
          let n : LeaseNext = next_of_lease x.setting (seen x) s (spot_of_call x.setting.layout m) aim m step answer in
          (lease (PartingSince x) (PartingSince x) Anything NoLook AnyStart (MayRemove x) (partings_allowed x) x s (spot_of_call x.setting.layout m) work n (lease_plain x s (spot_of_call x.setting.layout m) work n) (since_itself x h.1)).partings;
      fails = λ x s m j hears lone runs h. ((partings_allowed x).replies x j (IoFault m.call.number) tt (since_itself x h.1)).partings;
      has_asked = λ x s m j owner hears is runs h. ((partings_allowed x).replies x j Done tt (since_itself x h.1)).partings;
      has_set = λ x s m j hears is runs h. ((partings_allowed x).replies x j (set_reply m) tt (since_itself x h.1)).partings;
      asks = λ x s m j bytes c hears is runs reads_one h.
          (requested (PartingSince x) (PartingSince x) Anything NoLook AnyStart (MayRemove x) (partings_allowed x) x s j bytes c (request_plain x s j bytes c) (since_itself x h.1)).partings;
      tells = λ x s m j bytes hears is runs h. ((partings_allowed x).replies x j (value_reply x.setting.layout bytes) tt (since_itself x h.1)).partings;
      warns = λ x s m bytes g signal hears is held own says h. (sent (PartingSince x) (PartingSince x) Anything NoLook AnyStart (MayRemove x) (partings_allowed x) tt x g.process signal (since_itself x h.1)).partings;
      joins_in_time = λ x s j has wake is runs h.
          let n : DeltaNext = next_on_wake (delta_of_session x.setting s) x.reading (calls_of (seen x) s) in
          (delta (PartingSince x) (PartingSince x) Anything NoLook AnyStart (MayRemove x) (partings_allowed x) x s n
          (joins_well x s j n h has is runs (wake_late (delta_of_session x.setting s) x.reading (calls_of (seen x) s))) (since_itself x h.1)).partings;
      renews = λ x s has wake joined h.
          let bits : List ℕ = bits_due x.setting (calls_of (seen x) s) x.reading in
          (delta (PartingSince x) (PartingSince x) Anything NoLook AnyStart (MayRemove x) (partings_allowed x) x s (next_renewal (delta_of_session x.setting s) x.reading (delta_known x.setting (seen x) s) bits)
          (renewal_well x s (delta_of_session x.setting s) x.reading (delta_known x.setting (seen x) s) bits) (since_itself x h.1)).partings;
      settles = λ x s spot has wake active whole none h.
          let n : LeaseNext = next_of_settling x.setting (seen x) s spot in
          (lease (PartingSince x) (PartingSince x) Anything NoLook AnyStart (MayRemove x) (partings_allowed x) x s spot Settling n (lease_plain x s spot Settling n) (since_itself x h.1)).partings;
      parts = λ x s has joined recovers_one free quiet h.
          (removal (PartingSince x) (PartingSince x) Anything NoLook AnyStart (MayRemove x) (partings_allowed x) x s.lockspace (of_recovering x s h has joined recovers_one) (since_itself x h.1)).partings;
      frees = λ x s has joined well free quiet h.
          (delta (PartingSince x) (PartingSince x) Anything NoLook AnyStart (MayRemove x) (partings_allowed x) x s (next_free (delta_of_session x.setting s) x.reading (delta_known x.setting (seen x) s))
          (free_well x s (delta_of_session x.setting s) x.reading (delta_known x.setting (seen x) s)) (since_itself x h.1)).partings;
    }

-- Once a step has begun nothing has been removed.
pub partings_begin : BeginsWith Partings
partings_begin st past e follows w =
    let h : Says IsDenial (begin_step st past e.reading) (begin_recoveries (begin_step st past e.reading)) = begun_says st past e.reading in
    subst (λ y. Partings y) (sym h.is) (λ s there joined gone. absurd (false_is_true gone))
