-- Where a delta lease decides on a renewal, a free, a claim or a first renewal, its write is lawful.
use Rattle.sl_due_facts.proofs.Acts.AddedAtEnd.{not_is}
use Rattle.sl_due_facts.proofs.Acts.InputsKeep.{has_heard}
use Rattle.sl_due_facts.specs.Acts.Acts.{Has, Hears}
use Rattle.sl_area.specs.AreaSizes.{record_in, sector_with}
use Rattle.sl_due.specs.Steps.{Step, seen}
use Rattle.sl_due_facts.proofs.Jobs.EffectsAreAllowed.{DeltaAllowed}
use Rattle.sl_due_facts.proofs.Jobs.JobsAreAllowed.{heard_answered}
use Rattle.sl_due_facts.proofs.Jobs.NearlyPlainActs.{AnyMove}
use Rattle.sl_run.specs.LawfulCalls.{may_submit}
use Rattle.sl_run.specs.LawfulDelta.{Gave, LawfulDeciding}
use Rattle.sl_words.proofs.Lists.{find_inside, kept, kept_inside}
use Rattle.sl_words.proofs.Numbers.{number_itself}
use Rattle.sl_words.proofs.Options.{not_some, then_value}
use Rattle.sl_sector.specs.Bitmaps.{no_bits}
use Rattle.sl_sector.specs.SectorLayouts.{delta_in}
use Rattle.sl_sector.specs.declared.sector.DeltaRec.{DeltaRec}
use Rattle.sl_sector.specs.declared.sector.DeltaState.TheVariants.{Claimed, Free, Live}
use Rattle.sl_sector.specs.declared.sector.Rec.TheVariants.{DeltaIs}
use Rattle.sl_due_facts.proofs.Connections.HeardCalls.{newest_heard}
use Rattle.sl_due_facts.proofs.Connections.JoiningConnections.{Working, working_unjoined, working_unrefused}
use Rattle.sl_due_facts.proofs.Connections.JoiningDecisions.{heard_working, stage_newest}
use Rattle.sl_due_facts.proofs.Sessions.DeltaConditions.{part_of, renewal_delta}
use Rattle.sl_due_facts.proofs.Sessions.DeltaGrow.{DeltaCall, DeltaReply}
use Rattle.sl_due_facts.proofs.Sessions.JoiningsGoOn.{AtWork, law_of, one_first}
use Rattle.sl_due_facts.proofs.Sessions.NameFactsConclude.{heard_answer}
use Rattle.sl_due_facts.proofs.Sessions.NamesAreAllowed.{heard_mine}
use Rattle.sl_trace.specs.DeltaDecisions.{DeltaLease, claim_of, claim_on, delta_known, delta_of_session, delta_record, is_renewal_due, next_after_deciding, next_after_verify, next_free, next_renewal, own_offset, has_seq_left, id_held, id_lost, watched}
use Rattle.sl_trace.specs.Sessions.{calls_of, free_write, generation_of, has_open_delta, holdings_of, is_call_of, is_delta_purpose, is_join_call, is_joined, join_call, joined_after, last_seq, leaving_job, open_calls_of, recovery_of, refused_after, removed_after, stage_after, stage_in, stage_of}
use Rattle.sl_trace.specs.declared.delta.DeltaKnown.{DeltaKnown}
use Rattle.sl_trace.specs.declared.delta.DeltaNext.TheVariants.{Nothing, RefuseJoin, WriteClaim, WriteFirst, WriteFree, WriteRenewal}
use Rattle.sl_trace.specs.declared.delta.DeltaNext.{DeltaNext}
use Rattle.sl_trace.specs.declared.session.Session.{Session}
use Rattle.sl_trace.specs.declared.stage.Stage.TheVariants.{Deciding, Standing, Verifying}
use Rattle.sl_trace.specs.declared.stage.Stage.{Stage}
use Rattle.sl_due_facts.specs.Facts.AllFacts.{Whole}
use Rattle.sl_time.specs.Times.{renew}
use Rattle.sl_trace.specs.Traces.{Answered, Job, Setting, Submitted, Trace, bytes_given, gave, is_answered_ok, is_running, same_place, submitted, unanswered}
use Rattle.sl_trace.specs.declared.effects.JoinStep.TheVariants.{ClaimWrite, DecidingRead, FirstRead, FirstRenewal, VerifyRead}
use Rattle.sl_trace.specs.declared.effects.JoinStep.{JoinStep}
use Rattle.sl_trace.specs.declared.effects.Purpose.TheVariants.{Joining, Leaving, Renewal}
use Rattle.sl_trace.specs.declared.input.Answer.TheVariants.{Read}
use Rattle.sl_trace.specs.declared.input.Answer.{Answer}
use Rattle.sl_trace.specs.declared.reply.Limited.TheVariants.{Gen as GenLimit, Seq as SeqLimit}
use Rattle.sl_trace.specs.declared.reply.Reply.TheVariants.{Limit as LimitReached}
use Rattle.sl_run_law.proofs.Leases.NumberLaws.{number_is_place}
use Rattle.sl_run_law.proofs.Sessions.WritesAreCovered.{joinings_are_in_turn}
use Rattle.sl_run_law.proofs.Sessions.FrontAnswersStay.{front_answers_stay}
use Rattle.sl_run_law.proofs.Sessions.JoiningsInTurn.{done_unanswered}
use Rattle.sl_run_law.proofs.Sessions.SessionNames.{same_name}
use Rattle.sl_run_law.proofs.Sessions.JoiningsAreOrdered.{joinings_are_ordered, open_stage}
use Rattle.sl_run_law.proofs.Sessions.EndedAreSilent.{stage_by}
use Rattle.sl_run_law.specs.Sessions.SessionLaws.{IsMade, all_done, fits, front_of, is_in_turn, made_as}
use Rattle.sl_words.proofs.CaseLaws.{false_is_true, none_some, some_value}
use Rattle.sl_words.proofs.WordLaws.{and_true}
use Rattle.sl_words.specs.Bounds.{is_number}
use Rattle.std.proofs.Common.{ap, ap₂, refl, subst, sym, ◌∙◌}
use Rattle.std.proofs.lemmas.Slice.Eq.{bytes_eq-Decides}
use Rattle.std.specs.List.{list_any}
use Rattle.std.specs.Prelude.{Bool, Contains, List, None, Option, Some, [], bytes_eq, false, if◌then◌else◌, is_none, is_some, nat_le, not, option_and_then, option_map, true, unwrap_or, ℕ, ◌&&◌, ◌+◌, ◌==◌, ◌∷◌, ◌≡◌}
use Rattle.sl_due_facts.specs.Connections.DeltaCalls.{DeltaLawful, own_write}

-- ---- what every write of the own sector keeps to

standing_by : (joined removed refused : Option ℕ) (free : Option Submitted) (stage : Stage) → is_some joined ≡ true → is_none removed ≡ true → free ≡ None → stage_by joined removed refused free stage ≡ Standing
standing_by (Some k) None refused None stage joined stays unfreed = refl
standing_by (Some k) None refused (Some f) stage joined stays unfreed = absurd (none_some f (sym unfreed))
standing_by (Some k) (Some i) refused free stage joined stays unfreed = absurd (false_is_true stays)
standing_by None removed refused free stage joined stays unfreed = absurd (false_is_true joined)

pub standing_of : (t : Trace) (s : Session) → is_joined t s ≡ true → free_write (calls_of t s) ≡ None → stage_of t s ≡ Standing
standing_of t s joined unfreed =
    let both = and_true (is_some (joined_after t s)) (is_none (removed_after t s)) joined in
    standing_by (joined_after t s) (removed_after t s) (refused_after t s) (free_write (calls_of t s)) (stage_in (calls_of t s)) both.0 both.1 unfreed

pub on_own : (st : Setting) (s : Session) → same_place s.path (own_offset st s) s.path (own_offset st s) ≡ true
on_own st s = ap₂ (λ a b. a && b) (number_itself (own_offset st s)) (same_name s.path)

alive_at : (t : Trace) (s : Session) (stage : Stage) → stage_of t s ≡ stage → may_submit stage ≡ true → may_submit (stage_of t s) ≡ true
alive_at t s stage is may = ap (λ q. may_submit q) is ∙ may

-- ---- what a decision came to

abbrev is_renewing_next : DeltaNext → Bool
is_renewing_next (WriteRenewal d) = true
is_renewing_next n = false

abbrev is_freeing_next : DeltaNext → Bool
is_freeing_next (WriteFree j d) = true
is_freeing_next n = false

abbrev is_claiming_next : DeltaNext → Bool
is_claiming_next (WriteClaim d) = true
is_claiming_next n = false

abbrev is_first_next : DeltaNext → Bool
is_first_next (WriteFirst d) = true
is_first_next n = false

abbrev written_next : DeltaNext → Option DeltaRec
written_next (WriteRenewal d) = Some d
written_next (WriteFree j d) = Some d
written_next (WriteClaim d) = Some d
written_next (WriteFirst d) = Some d
written_next n = None

-- ---- a renewal

pub renewals_are_lawful : (x : Step) (s : Session) (bits : List ℕ) (d : DeltaRec) → Whole x → Has x s → is_joined (seen x) s ≡ true
    → next_renewal (delta_of_session x.setting s) x.reading (delta_known x.setting (seen x) s) bits ≡ WriteRenewal d → DeltaLawful x.setting (seen x) s (own_write x s Renewal d)
unfolding next_renewal
renewals_are_lawful x s bits d h has joined decides = by (is_renewal_due l x.reading k) refl decides where
  l : DeltaLease
  l = delta_of_session x.setting s

  k : DeltaKnown
  k = delta_known x.setting (seen x) s

  may : DeltaAllowed (DeltaReply x) (DeltaCall x) AnyMove x s (WriteRenewal d)
  may = subst (λ n. DeltaAllowed (DeltaReply x) (DeltaCall x) AnyMove x s n) decides (renewal_delta x s bits has (part_of x.setting (seen x) h.facts.delta))

  unfreed : free_write (calls_of (seen x) s) ≡ None
  unfreed = may.unfreed

  stage : stage_of (seen x) s ≡ Standing
  stage = standing_of (seen x) s joined unfreed

  by : (b : Bool) → is_renewal_due (delta_of_session x.setting s) x.reading (delta_known x.setting (seen x) s) ≡ b
      → (elim b as (λ z. DeltaNext) [ false ↦ Nothing | true ↦ WriteRenewal (delta_record (delta_of_session x.setting s) Live (generation_of (seen x) s) (last_seq (seen x) s + 1) x.reading bits) ]) ≡ WriteRenewal d
      → DeltaLawful x.setting (seen x) s (own_write x s Renewal d)
  by false due is = absurd (false_is_true (ap (λ n. is_renewing_next n) is))
  by true due is =
      let first = and_true (not k.recovering && nat_le (k.renewed + renew l.timing) x.reading && not k.busy) (has_seq_left k) due in
      let second = and_true (not k.recovering && nat_le (k.renewed + renew l.timing) x.reading) (not k.busy) first.0 in
      let third = and_true (not k.recovering) (nat_le (k.renewed + renew l.timing) x.reading) second.0 in
      record {
        alive = alive_at (seen x) s Standing stage refl;
        delta = record {
          standing = stage;
          well = not_some (recovery_of x.setting (seen x) s) (not_is (is_some (recovery_of x.setting (seen x) s)) third.0);
          bitmap = bits;
          written = sym (ap (λ n. written_next n) is);
        };
        placed = λ p. on_own x.setting s;
        alone = λ p. not_is (has_open_delta (seen x) s) second.1;
      }

-- ---- a free

pub frees_are_lawful : (x : Step) (s : Session) (j : ℕ) (d : DeltaRec) → Has x s → is_joined (seen x) s ≡ true → is_some (recovery_of x.setting (seen x) s) ≡ false → holdings_of (seen x) s ≡ [] → open_calls_of (seen x) s ≡ []
    → next_free (delta_of_session x.setting s) x.reading (delta_known x.setting (seen x) s) ≡ WriteFree j d → DeltaLawful x.setting (seen x) s (own_write x s (Leaving j) d)
frees_are_lawful x s j d has joined well free quiet decides = by (leaving_job x.setting (seen x) s) (is_some (free_write (calls_of (seen x) s))) refl refl decides where
  by : (o : Option Job) (b : Bool) → leaving_job x.setting (seen x) s ≡ o → is_some (free_write (calls_of (seen x) s)) ≡ b
      → (elim (option_map (λ (k : Job). k.number) o) as (λ z. DeltaNext) [
        | None ↦ Nothing
        | Some i ↦ elim b as (λ z. DeltaNext) [ true ↦ Nothing | false ↦ WriteFree i (delta_record (delta_of_session x.setting s) Free (generation_of (seen x) s) (last_seq (seen x) s + 1) x.reading no_bits) ]
      ]) ≡ WriteFree j d → DeltaLawful x.setting (seen x) s (own_write x s (Leaving j) d)
  by None b leaves_none unfreed is = absurd (false_is_true (ap (λ n. is_freeing_next n) is))
  by (Some i) true leaves_one freed is = absurd (false_is_true (ap (λ n. is_freeing_next n) is))
  by (Some i) false leaves_one unfreed is =
      let stage : stage_of (seen x) s ≡ Standing = standing_of (seen x) s joined (not_some (free_write (calls_of (seen x) s)) unfreed) in
      record {
        alive = alive_at (seen x) s Standing stage refl;
        delta = record {
          standing = stage;
          leaving = ap₂ (λ a b. a && b) joined (ap (λ o. is_some o) leaves_one);
          well = not_some (recovery_of x.setting (seen x) s) well;
          no_holding = free;
          no_call = quiet;
          written = sym (ap (λ n. written_next n) is);
        };
        placed = λ p. on_own x.setting s;
        alone = λ p. ap (λ ms. list_any (λ (m : Submitted). is_delta_purpose m.call.purpose) ms) quiet;
      }

-- ---- a joining's writes

-- All calls of a joining are answered once its newest was.
pub all_answered : (x : Step) (s : Session) (m : Submitted) (answer : Answer) → Whole x → Hears x s m answer → joined_after (seen x) s ≡ None → open_calls_of (seen x) s ≡ []
all_answered x s m answer h hears none =
    let newest = newest_heard x s m answer h hears none in
    let turn = subst (λ ks. is_in_turn ks ≡ true) newest.1 (joinings_are_in_turn x.setting (seen x) s h.orderly (has_heard x s m answer hears) none) in
    let both = and_true (fits m) (all_done newest.0) turn in
    ap (λ ms. unanswered ms) newest.1 ∙ (by newest.0 m.answer refl ∙ done_unanswered newest.0 both.1) where
      by : (ms : List Submitted) (o : Option Answered) → m.answer ≡ o → unanswered (m ∷ ms) ≡ unanswered ms
      by ms None is = absurd (heard_answered x s m answer hears is)
      by ms (Some a) is = ap (λ o. if is_none o then m ∷ unanswered ms else unanswered ms) is

pub working_stage : (x : Step) (s : Session) (j : ℕ) (step : JoinStep) (m : Submitted) (ms : List Submitted) → Working x s j → calls_of (seen x) s ≡ m ∷ ms → m.call.purpose ≡ Joining j step → stage_of (seen x) s ≡ stage_after step (is_answered_ok m)
working_stage x s j step m ms w are is =
    open_stage (joined_after (seen x) s) (removed_after (seen x) s) (refused_after (seen x) s) (free_write (calls_of (seen x) s)) (stage_in (calls_of (seen x) s)) (working_unjoined x s j w) (working_unrefused x s j w)
    ∙ stage_newest x s j step m ms are is

-- What the heard read gave.
pub heard_gave : (x : Step) (s : Session) (m : Submitted) (bytes : List ℕ) → Whole x → Hears x s m (Read bytes) → gave m ≡ Some bytes
heard_gave x s m bytes h hears = by m.answer refl where
  by : (o : Option Answered) → m.answer ≡ o → gave m ≡ Some bytes
  by None is = absurd (heard_answered x s m (Read bytes) hears is)
  by (Some a) is = ap (λ o. option_and_then (λ (b : Answered). bytes_given b.answer) o) is ∙ ap (λ b. bytes_given b) (heard_answer x s m (Read bytes) a h hears is)

mine_then : (x : Step) (s : Session) (m : Submitted) (d : IsMade (seen x) m) (r : Submitted) (a : Answered) → Contains (calls_of (front_of d) s) r → r.answer ≡ Some a → Contains (calls_of (seen x) s) r
mine_then x s m d r a there is =
    let was = kept_inside (is_call_of s) (submitted (front_of d)) r there in
    kept (is_call_of s) (submitted (seen x)) r was.1 (front_answers_stay (seen x) m d r a was.0 is)

-- What a joining that decides had read first.
record ReadFirst (x : Step) (s : Session) : Type 0 where
  pub bytes : List ℕ
  pub first : Submitted
  pub given : Gave (seen x) s FirstRead bytes first
  pub watches : watched (calls_of (seen x) s) ≡ bytes

read_first : (x : Step) (s : Session) (m : Submitted) (j : ℕ) → AtWork x s m j DecidingRead → ReadFirst x s
read_first x s m j h =
    let law = law_of x s m j DecidingRead h in
    let l : LawfulDeciding x.setting (front_of law.0.made) s (made_as law.0.made) = law.1 in
    let v = then_value (λ (a : Answered). bytes_given a.answer) l.first.answer l.bytes l.given.2 in
    let there : Contains (calls_of (seen x) s) l.first = mine_then x s m law.0.made l.first v.0 l.given.0 v.1 in
    let first : join_call (calls_of (seen x) s) FirstRead ≡ Some l.first = one_first (calls_of (seen x) s) l.first (joinings_are_ordered x.setting (seen x) s h.orderly h.has h.unjoined) there l.given.1 in
    record {
      bytes = l.bytes;
      first = l.first;
      given = (there, l.given.1, l.given.2);
      watches = ap (λ o. unwrap_or (option_and_then gave o) []) first ∙ ap (λ o. unwrap_or o []) l.given.2;
    }

at_work : (x : Step) (s : Session) (j : ℕ) (step : JoinStep) (m : Submitted) (answer : Answer) → Whole x → Hears x s m answer → m.call.purpose ≡ Joining j step → is_running (seen x) j ≡ true → AtWork x s m j step
at_work x s j step m answer h hears is runs =
    let w : Working x s j = heard_working x s j step m answer h hears is runs in
    record {
      orderly = h.orderly;
      has = w.has;
      there = (find_inside (λ (z : Submitted). z.call.number == hears.number) (submitted (seen x)) m hears.call).0;
      its = sym (number_is_place x.setting (seen x) m.call.session s hears.session);
      is = is;
      unjoined = working_unjoined x s j w;
    }

pub claims_are_lawful : (x : Step) (s : Session) (j : ℕ) (m : Submitted) (bytes : List ℕ) (d : DeltaRec) → Whole x → Hears x s m (Read bytes) → m.call.purpose ≡ Joining j DecidingRead → is_running (seen x) j ≡ true
    → next_after_deciding (delta_of_session x.setting s) (calls_of (seen x) s) x.reading bytes ≡ WriteClaim d → DeltaLawful x.setting (seen x) s (own_write x s (Joining j ClaimWrite) d)
unfolding next_after_deciding
claims_are_lawful x s j m bytes d h hears is runs decides = by (bytes_eq (watched (calls_of (seen x) s)) bytes) refl decides where
  w : Working x s j
  w = heard_working x s j DecidingRead m (Read bytes) h hears is runs

  newest : (ms : List Submitted) × (calls_of (seen x) s ≡ m ∷ ms)
  newest = newest_heard x s m (Read bytes) h hears (working_unjoined x s j w)

  stage : stage_of (seen x) s ≡ Deciding
  stage = working_stage x s j DecidingRead m newest.0 w newest.1 is

  f : ReadFirst x s
  f = read_first x s m j (at_work x s j DecidingRead m (Read bytes) h hears is runs)

  lawful : bytes_eq (watched (calls_of (seen x) s)) bytes ≡ true → (found : DeltaRec) → delta_in (record_in x.setting.layout bytes) ≡ Some found
      → delta_record (delta_of_session x.setting s) Claimed (found.generation + 1) (found.seq + 1) x.reading no_bits ≡ d → DeltaLawful x.setting (seen x) s (own_write x s (Joining j ClaimWrite) d)
  lawful same found spells writes =
      let eq : f.bytes ≡ bytes = sym f.watches ∙ (bytes_eq-Decides (watched (calls_of (seen x) s)) bytes).0 same in
      record {
        alive = alive_at (seen x) s Deciding stage refl;
        delta = record {
          deciding = stage;
          bytes = bytes;
          first = f.first;
          read = m;
          found = found;
          watched = (f.given.0, f.given.1, f.given.2 ∙ ap (λ b. Some b) eq);
          decided = (heard_mine x s m (Read bytes) hears, ap (λ p. is_join_call DecidingRead p) is, heard_gave x s m bytes h hears);
          spelled = spells;
          written = ap (λ q. Some q) (sym writes);
        };
        placed = λ p. on_own x.setting s;
        alone = λ p. ap (λ ms. list_any (λ (k : Submitted). is_delta_purpose k.call.purpose) ms) (all_answered x s m (Read bytes) h hears (working_unjoined x s j w));
      }

  by_seq : (found : DeltaRec) → bytes_eq (watched (calls_of (seen x) s)) bytes ≡ true → delta_in (record_in x.setting.layout bytes) ≡ Some found → (b : Bool)
      → (elim b as (λ z. DeltaNext) [ false ↦ RefuseJoin (LimitReached SeqLimit) | true ↦ WriteClaim (delta_record (delta_of_session x.setting s) Claimed (found.generation + 1) (found.seq + 1) x.reading no_bits) ]) ≡ WriteClaim d
      → DeltaLawful x.setting (seen x) s (own_write x s (Joining j ClaimWrite) d)
  by_seq found same spells false k = absurd (false_is_true (ap (λ n. is_claiming_next n) k))
  by_seq found same spells true k =
      lawful same found spells
      (some_value (delta_record (delta_of_session x.setting s) Claimed (found.generation + 1) (found.seq + 1) x.reading no_bits) d (ap (λ n. written_next n) k))

  by_generation : (found : DeltaRec) → bytes_eq (watched (calls_of (seen x) s)) bytes ≡ true → delta_in (record_in x.setting.layout bytes) ≡ Some found → (b : Bool)
      → (elim b as (λ z. DeltaNext) [
        | false ↦ RefuseJoin (LimitReached GenLimit)
        | true ↦ elim (is_number (found.seq + 1)) as (λ z. DeltaNext) [ false ↦ RefuseJoin (LimitReached SeqLimit) | true ↦ WriteClaim (delta_record (delta_of_session x.setting s) Claimed (found.generation + 1) (found.seq + 1) x.reading no_bits) ]
      ]) ≡ WriteClaim d → DeltaLawful x.setting (seen x) s (own_write x s (Joining j ClaimWrite) d)
  by_generation found same spells false k = absurd (false_is_true (ap (λ n. is_claiming_next n) k))
  by_generation found same spells true k = by_seq found same spells (is_number (found.seq + 1)) k

  by_found : bytes_eq (watched (calls_of (seen x) s)) bytes ≡ true → (o : Option DeltaRec) → delta_in (record_in x.setting.layout bytes) ≡ o
      → (elim o as (λ z. DeltaNext) [ None ↦ Nothing | Some found ↦ claim_on (delta_of_session x.setting s) x.reading found ]) ≡ WriteClaim d → DeltaLawful x.setting (seen x) s (own_write x s (Joining j ClaimWrite) d)
  by_found same None spells k = absurd (false_is_true (ap (λ n. is_claiming_next n) k))
  by_found same (Some found) spells k = by_generation found same spells (is_number (found.generation + 1)) k

  by : (b : Bool) → bytes_eq (watched (calls_of (seen x) s)) bytes ≡ b
      → (elim b as (λ z. DeltaNext) [
        | false ↦ RefuseJoin (id_held x.setting.layout (watched (calls_of (seen x) s)) bytes)
        | true ↦ elim (delta_in (record_in x.setting.layout bytes)) as (λ z. DeltaNext) [ None ↦ Nothing | Some found ↦ claim_on (delta_of_session x.setting s) x.reading found ]
      ]) ≡ WriteClaim d → DeltaLawful x.setting (seen x) s (own_write x s (Joining j ClaimWrite) d)
  by false other k = absurd (false_is_true (ap (λ n. is_claiming_next n) k))
  by true same k = by_found same (delta_in (record_in x.setting.layout bytes)) refl k

pub first_renewals_are_lawful : (x : Step) (s : Session) (j : ℕ) (m : Submitted) (bytes : List ℕ) (d : DeltaRec) → Whole x → Hears x s m (Read bytes) → m.call.purpose ≡ Joining j VerifyRead → is_running (seen x) j ≡ true
    → next_after_verify (delta_of_session x.setting s) (calls_of (seen x) s) x.reading bytes ≡ WriteFirst d → DeltaLawful x.setting (seen x) s (own_write x s (Joining j FirstRenewal) d)
unfolding next_after_verify
first_renewals_are_lawful x s j m bytes d h hears is runs decides = by (claim_of (calls_of (seen x) s)) refl decides where
  w : Working x s j
  w = heard_working x s j VerifyRead m (Read bytes) h hears is runs

  newest : (ms : List Submitted) × (calls_of (seen x) s ≡ m ∷ ms)
  newest = newest_heard x s m (Read bytes) h hears (working_unjoined x s j w)

  stage : stage_of (seen x) s ≡ Verifying
  stage = working_stage x s j VerifyRead m newest.0 w newest.1 is

  by_seq : (claim : DeltaRec) → claim_of (calls_of (seen x) s) ≡ Some claim → bytes_eq bytes (sector_with x.setting.layout (DeltaIs claim)) ≡ true → (b : Bool)
      → (elim b as (λ z. DeltaNext) [ false ↦ RefuseJoin (LimitReached SeqLimit) | true ↦ WriteFirst (delta_record (delta_of_session x.setting s) Live claim.generation (claim.seq + 1) x.reading no_bits) ]) ≡ WriteFirst d
      → DeltaLawful x.setting (seen x) s (own_write x s (Joining j FirstRenewal) d)
  by_seq claim claims same false k = absurd (false_is_true (ap (λ n. is_first_next n) k))
  by_seq claim claims same true k =
      let eq : bytes ≡ sector_with x.setting.layout (DeltaIs claim) = (bytes_eq-Decides bytes (sector_with x.setting.layout (DeltaIs claim))).0 same in
      record {
        alive = alive_at (seen x) s Verifying stage refl;
        delta = record {
          verifying = stage;
          claim = claim;
          read = m;
          claimed = claims;
          verified = (heard_mine x s m (Read bytes) hears, ap (λ p. is_join_call VerifyRead p) is, heard_gave x s m bytes h hears ∙ ap (λ b. Some b) eq);
          written = sym (ap (λ n. written_next n) k);
        };
        placed = λ p. on_own x.setting s;
        alone = λ p. ap (λ ms. list_any (λ (q : Submitted). is_delta_purpose q.call.purpose) ms) (all_answered x s m (Read bytes) h hears (working_unjoined x s j w));
      }

  by_bytes : (claim : DeltaRec) → claim_of (calls_of (seen x) s) ≡ Some claim → (b : Bool) → bytes_eq bytes (sector_with x.setting.layout (DeltaIs claim)) ≡ b
      → (elim b as (λ z. DeltaNext) [
        | false ↦ RefuseJoin (id_lost (delta_of_session x.setting s) claim bytes)
        | true ↦ elim (is_number (claim.seq + 1)) as (λ z. DeltaNext) [ false ↦ RefuseJoin (LimitReached SeqLimit) | true ↦ WriteFirst (delta_record (delta_of_session x.setting s) Live claim.generation (claim.seq + 1) x.reading no_bits) ]
      ]) ≡ WriteFirst d → DeltaLawful x.setting (seen x) s (own_write x s (Joining j FirstRenewal) d)
  by_bytes claim claims false other k = absurd (false_is_true (ap (λ n. is_first_next n) k))
  by_bytes claim claims true same k = by_seq claim claims same (is_number (claim.seq + 1)) k

  by : (o : Option DeltaRec) → claim_of (calls_of (seen x) s) ≡ o
      → (elim o as (λ z. DeltaNext) [
        | None ↦ Nothing
        | Some claim ↦ elim (bytes_eq bytes (sector_with x.setting.layout (DeltaIs claim))) as (λ z. DeltaNext) [
          | false ↦ RefuseJoin (id_lost (delta_of_session x.setting s) claim bytes)
          | true ↦ elim (is_number (claim.seq + 1)) as (λ z. DeltaNext) [ false ↦ RefuseJoin (LimitReached SeqLimit) | true ↦ WriteFirst (delta_record (delta_of_session x.setting s) Live claim.generation (claim.seq + 1) x.reading no_bits) ]
        ]
      ]) ≡ WriteFirst d → DeltaLawful x.setting (seen x) s (own_write x s (Joining j FirstRenewal) d)
  by None claims k = absurd (false_is_true (ap (λ n. is_first_next n) k))
  by (Some claim) claims k = by_bytes claim claims (bytes_eq bytes (sector_with x.setting.layout (DeltaIs claim))) refl k
