-- A session that writes its sector was given, or had looked at the sector before: its first read gave a record of its lockspace and id.
use Rattle.sl_area.specs.AreaSizes.{record_in}
use Rattle.sl_area.specs.AreaLayout.{is_base}
use Rattle.sl_run.specs.Lawful.{Orderly}
use Rattle.sl_run.specs.LawfulDelta.{Gave, LawfulClaim, LawfulDeciding, LawfulDeltaCall, LawfulFirstRenewal, LawfulJoin, LawfulJoinStep, LawfulLook, LawfulVerify, is_on_own_sector}
use Rattle.sl_run_law.proofs.Place.FoundInLists.{place_is}
use Rattle.sl_run_law.proofs.Place.TracesOnMachines.{answer_gave, call_law}
use Rattle.sl_words.proofs.Lists.{contains_none, find_inside, got_inside, in_map, kept_inside}
use Rattle.sl_words.proofs.Numbers.{below_itself_suc, less_than_suc, refl_le, trans_le}
use Rattle.sl_sector.specs.SectorLayouts.{delta_in}
use Rattle.sl_sector.specs.declared.sector.DeltaRec.{DeltaRec}
use Rattle.sl_sector.specs.declared.sector.DeltaState.{DeltaState}
use Rattle.sl_run_law.proofs.Sessions.FrontAnswersStay.{front_answers_stay}
use Rattle.sl_run_law.proofs.Sessions.CallsAreMade.{answers_stay, calls_are_made, old_or_new}
use Rattle.sl_run_law.proofs.Sessions.CallOwners.{calls_were_lawful}
use Rattle.sl_run_law.proofs.Sessions.EndedAreSilent.{stage_by}
use Rattle.sl_run_law.specs.Sessions.SessionLaws.{IsMade, IsSession, WasLawful, front_of, made_as}
use Rattle.sl_trace.specs.DeltaDecisions.{DeltaLease, delta_of_session, delta_record, own_offset}
use Rattle.sl_trace.specs.Sessions.{calls_of, delta_of_record, delta_written, free_write, is_call_of, is_delta_purpose, is_join_call, is_survey_purpose, join_call, joined_after, refused_after, removed_after, same_join_step, sessions, stage_after, stage_in, stage_of}
use Rattle.sl_trace.specs.declared.session.Session.{Session}
use Rattle.sl_trace.specs.declared.stage.Stage.TheVariants.{Looking, Standing}
use Rattle.sl_trace.specs.declared.stage.Stage.{Stage}
use Rattle.sl_trace.specs.Traces.{Answered, Setting, Submitted, Trace, answer_of, answered_in, gave, is_answered_ok, mark, record_of, submitted}
use Rattle.sl_trace.specs.declared.effects.Entry.{Entry}
use Rattle.sl_trace.specs.declared.effects.JoinStep.TheVariants.{ClaimWrite, DecidingRead, FirstRead, FirstRenewal, VerifyRead, WatchRead}
use Rattle.sl_trace.specs.declared.effects.JoinStep.{JoinStep}
use Rattle.sl_trace.specs.declared.effects.Op.TheVariants.{ReadSectors}
use Rattle.sl_trace.specs.declared.effects.Op.{Op}
use Rattle.sl_trace.specs.declared.effects.Purpose.TheVariants.{Joining, Lease, Leaving, Renewal, RequestRead, RequestWrite, SeeRequest, Survey, ValueRead, ValueWrite}
use Rattle.sl_trace.specs.declared.effects.Purpose.{Purpose}
use Rattle.sl_trace.specs.declared.input.Answer.{Answer}
use Rattle.sl_trace.specs.declared.input.Input.TheVariants.{Answer as Told, Exit, Line, Number, Spawned, Wake}
use Rattle.sl_trace.specs.declared.input.Input.{Input}
use Rattle.sl_words.proofs.CaseLaws.{false_is_true, no_value, none_some, some_value}
use Rattle.std.proofs.Common.{ap, arith, inl, inr, refl, subst, sym, ◌∙◌}
use Rattle.std.proofs.lemmas.Bool.{eqb-true}
use Rattle.std.proofs.lemmas.List.{length-append}
use Rattle.std.specs.Option.{option_or}
use Rattle.std.specs.Prelude.{Bool, Contains, IsTrue, List, None, Option, Some, [], false, length, map, not, option_and_then, suc, true, ℕ, ◌&&◌, ◌+◌, ◌<◌, ◌==◌, ◌∷◌, ◌≡◌, ◌≤◌, ◌⊎◌}

-- ---- calls and answers are of the trace

or_by : (o : Option Answered) (n a : Answered) → option_or o (Some n) ≡ Some a → (o ≡ Some a) ⊎ (n ≡ a)
or_by None n a h = inr (some_value n a h)
or_by (Some x) n a h = inl h

answer_by : (x : Submitted) (b : Bool) (n a : Answered)
    → (elim b as (λ z. Submitted) [ false ↦ x | true ↦ record x { answer = option_or x.answer (Some n) } ]).answer ≡ Some a → (x.answer ≡ Some a) ⊎ (n ≡ a)
answer_by x false n a h = inl h
answer_by x true n a h = or_by x.answer n a h

abbrev AnsweredBelow : ℕ → List Submitted → Type 0
AnsweredBelow n ms = (m : Submitted) → Contains ms m → (a : Answered) → m.answer ≡ Some a → a.at < n

told_below : (es : Trace) (e : Entry) (n : ℕ) (w : Answer) (ms : List Submitted) → AnsweredBelow (length es) ms → AnsweredBelow (suc (length es)) (map (answered_in es e n w) ms)
told_below es e n w ms below m there a is =
    let x = in_map (answered_in es e n w) ms m there in
    elim (answer_by x.0 (x.0.call.number == n) (answer_of es e w x.0.call) a (ap (λ y. y.answer) x.2 ∙ is)) as (λ z. a.at < suc (length es)) [
      | inl old ↦ less_than_suc a.at (length es) (below x.0 x.1 a old)
      | inr new ↦ subst (λ y. y.at < suc (length es)) new (below_itself_suc (length es))
    ]

marked_below : (es : Trace) (e : Entry) (i : Input) (ms : List Submitted) → AnsweredBelow (length es) ms → AnsweredBelow (suc (length es)) (mark es e i ms)
marked_below es e (Told n w) ms below m there a is = told_below es e n w ms below m there a is
marked_below es e (Line text) ms below m there a is = less_than_suc a.at (length es) (below m there a is)
marked_below es e (Number text) ms below m there a is = less_than_suc a.at (length es) (below m there a is)
marked_below es e (Exit p) ms below m there a is = less_than_suc a.at (length es) (below m there a is)
marked_below es e (Spawned p ok) ms below m there a is = less_than_suc a.at (length es) (below m there a is)
marked_below es e Wake ms below m there a is = less_than_suc a.at (length es) (below m there a is)

-- An answer came by an entry of the trace.
pub answered_below : (es : Trace) → AnsweredBelow (length es) (submitted es)
answered_below [] m there a is = absurd (contains_none m there)
answered_below (e ∷ es) m there a is =
    elim (old_or_new (length es) e.reading e.effects.calls (mark es e e.input (submitted es)) m there) as (λ z. a.at < suc (length es)) [
      | inl old ↦ marked_below es e e.input (submitted es) (answered_below es) m old a is
      | inr new ↦ absurd (no_value a m.answer is new.unmet)
    ]

within_all : (n k t : ℕ) → t ≡ n → t < k + suc n
within_all n k t h = omega (arith, h)

-- A call was made by one.
pub made_below : (es : Trace) (m : Submitted) → Contains (submitted es) m → m.at < length es
made_below es m there =
    let d = calls_are_made es m there in
    subst (λ n. m.at < n) (sym (ap (λ t. length t) d.whole ∙ length-append d.later (d.entry ∷ d.past))) (within_all (length d.past) (length d.later) m.at d.place)

-- ---- what a session had heard

-- A call of a joining, made no later than this entry.
pub record Earlier (es : Trace) (s : Session) (at : ℕ) (step : JoinStep) : Type 0 where
  pub call : Submitted
  pub inside : Contains (submitted es) call
  pub mine : call.call.session ≡ s.number
  pub step_is : IsTrue (is_join_call step call.call.purpose)
  pub early : call.at ≤ at

-- A read, made and answered no later than this entry.
pub record Heard (es : Trace) (s : Session) (at : ℕ) (bytes : List ℕ) (call : Submitted) : Type 0 where
  pub inside : Contains (submitted es) call
  pub mine : call.call.session ≡ s.number
  pub early : call.at ≤ at
  pub given : gave call ≡ Some bytes
  pub answered : (a : Answered) → call.answer ≡ Some a → a.at ≤ at

no_later : (k n t : ℕ) → k < suc n → t ≡ n → k ≤ t
no_later k n t h e = omega (arith, h, e)

of_session : (t : Trace) (s : Session) (m : Submitted) → Contains (calls_of t s) m → Contains (submitted t) m × (m.call.session ≡ s.number)
of_session t s m there = let f = kept_inside (is_call_of s) (submitted t) m there in (f.0, eqb-true m.call.session s.number f.1)

-- What was read where a call was made.
pub heard : (es : Trace) (s : Session) (m : Submitted) (d : IsMade es m) (bytes : List ℕ) (r : Submitted) → Contains (calls_of (front_of d) s) r → gave r ≡ Some bytes
    → Heard es s m.at bytes r
heard es s m d bytes r there given =
    let told = answer_gave r.answer bytes given in
    let its = of_session (front_of d) s r there in
    record {
      inside = front_answers_stay es m d r told.0 its.0 told.1;
      mine = its.1;
      early = no_later r.at (length d.past) m.at (made_below (front_of d) r its.0) d.place;
      given = given;
      answered = λ a is. no_later a.at (length d.past) m.at (answered_below (front_of d) r its.0 a is) d.place;
    }

abbrev heard_step : (es : Trace) (s : Session) (m : Submitted) (d : IsMade es m) (step : JoinStep) (bytes : List ℕ) (r : Submitted) → Gave (front_of d) s step bytes r
    → Earlier es s m.at step
heard_step es s m d step bytes r g =
    let h = heard es s m d bytes r g.0 g.2 in record { call = r; inside = h.inside; mine = h.mine; step_is = g.1; early = h.early }

answered_step : (es : Trace) (s : Session) (m : Submitted) (d : IsMade es m) (step : JoinStep) (r : Submitted) (a : Answered)
    → join_call (calls_of (front_of d) s) step ≡ Some r → r.answer ≡ Some a → Earlier es s m.at step
answered_step es s m d step r a found is =
    let f = find_inside (λ (x : Submitted). is_join_call step x.call.purpose) (calls_of (front_of d) s) r found in
    let its = of_session (front_of d) s r f.0 in
    record {
      call = r;
      inside = front_answers_stay es m d r a its.0 is;
      mine = its.1;
      step_is = f.1;
      early = no_later r.at (length d.past) m.at (made_below (front_of d) r its.0) d.place;
    }

earlier_too : (es : Trace) (s : Session) (k at : ℕ) (step : JoinStep) → k ≤ at → Earlier es s k step → Earlier es s at step
earlier_too es s k at step le e = record { call = e.call; inside = e.inside; mine = e.mine; step_is = e.step_is; early = trans_le e.call.at k at e.early le }

-- ---- steps of a joining

pub same_step : (a b : JoinStep) → same_join_step a b ≡ true → b ≡ a
same_step FirstRead FirstRead h = refl
same_step WatchRead WatchRead h = refl
same_step DecidingRead DecidingRead h = refl
same_step ClaimWrite ClaimWrite h = refl
same_step VerifyRead VerifyRead h = refl
same_step FirstRenewal FirstRenewal h = refl
same_step a b h = absurd (false_is_true h)

pub joins_at : (step : JoinStep) (p : Purpose) → is_join_call step p ≡ true → (j : ℕ) × (p ≡ Joining j step)
joins_at step (Joining j at) h = (j, ap (λ x. Joining j x) (same_step step at h))
joins_at step Renewal h = absurd (false_is_true h)
joins_at step Survey h = absurd (false_is_true h)
joins_at step (Leaving j) h = absurd (false_is_true h)
joins_at step (Lease work at) h = absurd (false_is_true h)
joins_at step (RequestRead j) h = absurd (false_is_true h)
joins_at step (RequestWrite j o) h = absurd (false_is_true h)
joins_at step SeeRequest h = absurd (false_is_true h)
joins_at step (ValueWrite j) h = absurd (false_is_true h)
joins_at step (ValueRead j) h = absurd (false_is_true h)

-- A call of a joining with the law of its step.
record Lawfully (st : Setting) (es : Trace) (s : Session) (step : JoinStep) (call : Submitted) : Type 0 where
  was : WasLawful st es s call
  law : LawfulJoinStep st (front_of was.made) s (made_as was.made) step
  own : (call.call.path ≡ s.path) × (call.call.offset ≡ own_offset st s)

at_own : (st : Setting) (s : Session) (c : Submitted) → IsTrue (is_on_own_sector st s c) → (c.call.path ≡ s.path) × (c.call.offset ≡ own_offset st s)
at_own st s c h = place_is c.call.path c.call.offset s.path (own_offset st s) h

joins_own : (j : ℕ) (step : JoinStep) (p : Purpose) → p ≡ Joining j step → IsTrue (is_delta_purpose p && not (is_survey_purpose p))
joins_own j step p is = subst (λ x. IsTrue (is_delta_purpose x && not (is_survey_purpose x))) (sym is) refl

lawfully : (st : Setting) (es : Trace) (s : Session) (at : ℕ) (step : JoinStep) → Orderly st es → IsSession st es s → (e : Earlier es s at step) → Lawfully st es s step e.call
lawfully st es s at step h its e =
    let w = calls_were_lawful st es s e.call h its e.inside e.mine in
    let p = joins_at step e.call.call.purpose e.step_is in
    record {
      was = w;
      law = subst (λ (x : Purpose). LawfulDeltaCall st (front_of w.made) s (made_as w.made) x) p.1 w.lawful;
      own = at_own st s (made_as w.made) (w.placed (joins_own p.0 step e.call.call.purpose p.1));
    }

-- The first look of a joining, which is at the base of an area: what it read is a record of the session's lockspace and id.
pub record Look (st : Setting) (es : Trace) (s : Session) (at : ℕ) : Type 0 where
  pub first : Submitted
  pub bytes : List ℕ
  pub found : DeltaRec
  pub read : Heard es s at bytes first
  pub op : first.call.op ≡ ReadSectors 1
  pub base : IsTrue (is_base st.layout s.offset)
  pub own : (first.call.path ≡ s.path) × (first.call.offset ≡ own_offset st s)
  pub spelled : delta_in (record_in st.layout bytes) ≡ Some found
  pub names : (found.lockspace ≡ s.lockspace) × (found.id ≡ s.id)

heard_too : (es : Trace) (s : Session) (k at : ℕ) (bytes : List ℕ) (r : Submitted) → k ≤ at → Heard es s k bytes r → Heard es s at bytes r
heard_too es s k at bytes r le h =
    record { inside = h.inside; mine = h.mine; early = trans_le r.at k at h.early le; given = h.given; answered = λ a is. trans_le a.at k at (h.answered a is) le }

look_too : (st : Setting) (es : Trace) (s : Session) (k at : ℕ) → k ≤ at → Look st es s k → Look st es s at
look_too st es s k at le l =
    record {
      first = l.first;
      bytes = l.bytes;
      found = l.found;
      read = heard_too es s k at l.bytes l.first le l.read;
      op = l.op;
      base = l.base;
      own = l.own;
      spelled = l.spelled;
      names = l.names;
    }

at_deciding : (st : Setting) (es : Trace) (s : Session) (at : ℕ) → Orderly st es → IsSession st es s → Earlier es s at DecidingRead → Look st es s at
at_deciding st es s at h its e =
    let l = lawfully st es s at DecidingRead h its e in
    let law : LawfulDeciding st (front_of l.was.made) s (made_as l.was.made) = l.law in
    let first = lawfully st es s e.call.at FirstRead h its (heard_step es s e.call l.was.made FirstRead law.bytes law.first law.given) in
    let look : LawfulLook st (front_of first.was.made) s (made_as first.was.made) = first.law in
    look_too st es s e.call.at at e.early (record {
      first = law.first;
      bytes = law.bytes;
      found = law.found;
      read = heard es s e.call l.was.made law.bytes law.first law.given.0 law.given.2;
      op = look.reads;
      base = look.placed;
      own = first.own;
      spelled = law.spelled.0;
      names = (law.spelled.1, law.spelled.2);
    })

at_claim : (st : Setting) (es : Trace) (s : Session) (at : ℕ) → Orderly st es → IsSession st es s → Earlier es s at ClaimWrite → Look st es s at
at_claim st es s at h its e =
    let l = lawfully st es s at ClaimWrite h its e in
    let law : LawfulClaim st (front_of l.was.made) s (made_as l.was.made) = l.law in
    at_deciding st es s at h its (earlier_too es s e.call.at at DecidingRead e.early (heard_step es s e.call l.was.made DecidingRead law.bytes law.read law.decided))

at_verify : (st : Setting) (es : Trace) (s : Session) (at : ℕ) → Orderly st es → IsSession st es s → Earlier es s at VerifyRead → Look st es s at
at_verify st es s at h its e =
    let l = lawfully st es s at VerifyRead h its e in
    let law : LawfulVerify st (front_of l.was.made) s (made_as l.was.made) = l.law in
    at_claim st es s at h its
    (earlier_too es s e.call.at at ClaimWrite e.early (answered_step es s e.call l.was.made ClaimWrite law.claim law.answer law.claimed law.answered.0))

at_first : (st : Setting) (es : Trace) (s : Session) (at : ℕ) → Orderly st es → IsSession st es s → Earlier es s at FirstRenewal → Look st es s at
at_first st es s at h its e =
    let l = lawfully st es s at FirstRenewal h its e in
    let law : LawfulFirstRenewal st (front_of l.was.made) s (made_as l.was.made) = l.law in
    at_verify st es s at h its (earlier_too es s e.call.at at VerifyRead e.early (heard_step es s e.call l.was.made VerifyRead _ law.read law.verified))

-- ---- a session that stands has joined

abbrev is_standing : Stage → Bool
is_standing Standing = true
is_standing stage = false

not_by_step : (step : JoinStep) (done : Bool) → is_standing (stage_after step done) ≡ false
not_by_step FirstRead done = refl
not_by_step WatchRead done = refl
not_by_step DecidingRead done = refl
not_by_step ClaimWrite false = refl
not_by_step ClaimWrite true = refl
not_by_step VerifyRead done = refl
not_by_step FirstRenewal done = refl

abbrev stage_for : Purpose → Bool → Stage
stage_for p done = elim p [ Joining j step ↦ stage_after step done | _ ↦ Looking ]

not_by_purpose : (p : Purpose) (done : Bool) → is_standing (stage_for p done) ≡ false
not_by_purpose (Joining j step) done = not_by_step step done
not_by_purpose Renewal done = refl
not_by_purpose Survey done = refl
not_by_purpose (Leaving j) done = refl
not_by_purpose (Lease work step) done = refl
not_by_purpose (RequestRead j) done = refl
not_by_purpose (RequestWrite j o) done = refl
not_by_purpose SeeRequest done = refl
not_by_purpose (ValueWrite j) done = refl
not_by_purpose (ValueRead j) done = refl

not_in : (ms : List Submitted) → is_standing (stage_in ms) ≡ false
not_in [] = refl
not_in (m ∷ ms) = not_by_purpose m.call.purpose (is_answered_ok m)

stands_by : (joined removed refused : Option ℕ) (free : Option Submitted) (ms : List Submitted) → is_standing (stage_by joined removed refused free (stage_in ms)) ≡ true
    → (k : ℕ) × (joined ≡ Some k)
stands_by (Some k) removed refused free ms h = (k, refl)
stands_by None removed (Some k) free ms h = absurd (false_is_true h)
stands_by None removed None free ms h = absurd (false_is_true (sym (not_in ms) ∙ h))

pub stands : (t : Trace) (s : Session) → stage_of t s ≡ Standing → (k : ℕ) × (joined_after t s ≡ Some k)
stands t s h = stands_by (joined_after t s) (removed_after t s) (refused_after t s) (free_write (calls_of t s)) (calls_of t s) (ap is_standing h)

-- A session of a command that had joined where it made a call had looked.
at_joined : (st : Setting) (es : Trace) (s : Session) (m : Submitted) (d : IsMade es m) → Orderly st es → IsSession st es s → Contains (submitted es) m → m.call.session ≡ s.number
    → (j k : ℕ) → s.job ≡ Some j → joined_after (front_of d) s ≡ Some k → Look st es s m.at
at_joined st es s m d h its there mine j k job joined =
    let t : Trace = d.entry ∷ d.past in
    let law = call_law st es s m d h its mine in
    let join : LawfulJoin t s k = law.0.delta.0.joins s (got_inside (sessions st t) m.call.session s law.1) j k job joined in
    let f = find_inside (λ (x : Submitted). is_join_call FirstRenewal x.call.purpose) (calls_of t s) join.renewal join.first in
    let own = of_session t s join.renewal f.0 in
    at_first st es s m.at h its
    (record {
      call = join.renewal;
      inside = subst (λ e. Contains (submitted e) join.renewal) (sym d.whole) (answers_stay d.later t join.renewal join.answer own.0 join.done.0);
      mine = own.1;
      step_is = f.1;
      early = no_later join.renewal.at (length d.past) m.at (made_below t join.renewal own.0) d.place;
    })

-- ---- a session's write of a delta record

-- It names the session, is at its sector, and the session was given or had looked.
pub record IsOwnDelta (st : Setting) (es : Trace) (s : Session) (m : Submitted) (dr : DeltaRec) : Type 0 where
  pub names : (dr.lockspace ≡ s.lockspace) × (dr.id ≡ s.id)
  pub own : (m.call.path ≡ s.path) × (m.call.offset ≡ own_offset st s)
  pub from : (s.job ≡ None) ⊎ Look st es s m.at

-- A read writes nothing.
pub reads_none : (m : Submitted) (n : ℕ) (dr : DeltaRec) → m.call.op ≡ ReadSectors n → delta_written m ≡ Some dr → ⊥
reads_none m n dr reads writes = none_some dr (sym (ap (λ (op : Op). option_and_then delta_of_record (record_of op)) reads) ∙ writes)

named_by : (l : DeltaLease) (state : DeltaState) (generation seq now : ℕ) (bitmap : List ℕ) (o : Option DeltaRec) (dr : DeltaRec) → o ≡ Some (delta_record l state generation seq now bitmap)
    → o ≡ Some dr → (dr.lockspace ≡ l.lockspace) × (dr.id ≡ l.id)
named_by l state generation seq now bitmap o dr is was =
    let same = some_value dr (delta_record l state generation seq now bitmap) (sym was ∙ is) in
    (ap (λ d. d.lockspace) same, ap (λ d. d.id) same)

was_given : (st : Setting) (es : Trace) (s : Session) (m : Submitted) (d : IsMade es m) → Orderly st es → IsSession st es s → Contains (submitted es) m → m.call.session ≡ s.number
    → stage_of (front_of d) s ≡ Standing → (o : Option ℕ) → s.job ≡ o → (s.job ≡ None) ⊎ Look st es s m.at
was_given st es s m d h its there mine standing None job = inl job
was_given st es s m d h its there mine standing (Some j) job =
    let k = stands (front_of d) s standing in
    inr (at_joined st es s m d h its there mine j k.0 job k.1)

-- The purposes of delta writes are on the session's sector.
abbrev is_own_purpose : Purpose → Bool
is_own_purpose p = is_delta_purpose p && not (is_survey_purpose p)

own_delta : (st : Setting) (es : Trace) (s : Session) (m : Submitted) (dr : DeltaRec) → (w : WasLawful st es s m) → is_own_purpose m.call.purpose ≡ true
    → (dr.lockspace ≡ s.lockspace) × (dr.id ≡ s.id) → (s.job ≡ None) ⊎ Look st es s m.at → IsOwnDelta st es s m dr
own_delta st es s m dr w purpose names from = record { names = names; own = at_own st s (made_as w.made) (w.placed purpose); from = from }

itself : (es : Trace) (s : Session) (m : Submitted) (j : ℕ) (step : JoinStep) → Contains (submitted es) m → m.call.session ≡ s.number → m.call.purpose ≡ Joining j step
    → is_join_call step (Joining j step) ≡ true → Earlier es s m.at step
itself es s m j step there mine is same =
    record { call = m; inside = there; mine = mine; step_is = ap (is_join_call step) is ∙ same; early = refl_le m.at }

joining_delta : (st : Setting) (es : Trace) (s : Session) (m : Submitted) (dr : DeltaRec) (w : WasLawful st es s m) (j : ℕ) (step : JoinStep) → Orderly st es → IsSession st es s
    → Contains (submitted es) m → m.call.session ≡ s.number → m.call.purpose ≡ Joining j step → delta_written m ≡ Some dr
    → LawfulJoinStep st (front_of w.made) s (made_as w.made) step → IsOwnDelta st es s m dr
joining_delta st es s m dr w j FirstRead h its there mine is writes law = absurd (reads_none m 1 dr law.reads writes)
joining_delta st es s m dr w j WatchRead h its there mine is writes law = absurd (reads_none m 1 dr law.reads writes)
joining_delta st es s m dr w j DecidingRead h its there mine is writes law = absurd (reads_none m 1 dr law.reads writes)
joining_delta st es s m dr w j VerifyRead h its there mine is writes law = absurd (reads_none m 1 dr law.reads writes)
joining_delta st es s m dr w j ClaimWrite h its there mine is writes law =
    own_delta st es s m dr w (ap is_own_purpose is) (named_by (delta_of_session st s) _ _ _ _ _ (delta_written m) dr law.written writes)
    (inr (at_claim st es s m.at h its (itself es s m j ClaimWrite there mine is refl)))
joining_delta st es s m dr w j FirstRenewal h its there mine is writes law =
    own_delta st es s m dr w (ap is_own_purpose is) (named_by (delta_of_session st s) _ _ _ _ _ (delta_written m) dr law.written writes)
    (inr (at_first st es s m.at h its (itself es s m j FirstRenewal there mine is refl)))

no_delta : (m : Submitted) (dr : DeltaRec) → delta_written m ≡ None → delta_written m ≡ Some dr → ⊥
no_delta m dr none some = none_some dr (sym none ∙ some)

delta_by : (st : Setting) (es : Trace) (s : Session) (m : Submitted) (dr : DeltaRec) (w : WasLawful st es s m) → Orderly st es → IsSession st es s → Contains (submitted es) m
    → m.call.session ≡ s.number → delta_written m ≡ Some dr → (p : Purpose) → m.call.purpose ≡ p → LawfulDeltaCall st (front_of w.made) s (made_as w.made) p → IsOwnDelta st es s m dr
delta_by st es s m dr w h its there mine writes (Joining j step) is law = joining_delta st es s m dr w j step h its there mine is writes law
delta_by st es s m dr w h its there mine writes Renewal is law =
    own_delta st es s m dr w (ap is_own_purpose is) (named_by (delta_of_session st s) _ _ _ _ _ (delta_written m) dr law.written writes)
    (was_given st es s m w.made h its there mine law.standing s.job refl)
delta_by st es s m dr w h its there mine writes Survey is law = absurd (reads_none m st.layout.hosts dr law.whole.2 writes)
delta_by st es s m dr w h its there mine writes (Leaving j) is law =
    own_delta st es s m dr w (ap is_own_purpose is) (named_by (delta_of_session st s) _ _ _ _ _ (delta_written m) dr law.written writes)
    (was_given st es s m w.made h its there mine law.standing s.job refl)
delta_by st es s m dr w h its there mine writes (Lease work step) is law = absurd (no_delta m dr law writes)
delta_by st es s m dr w h its there mine writes (RequestRead j) is law = absurd (no_delta m dr law writes)
delta_by st es s m dr w h its there mine writes (RequestWrite j o) is law = absurd (no_delta m dr law writes)
delta_by st es s m dr w h its there mine writes SeeRequest is law = absurd (no_delta m dr law writes)
delta_by st es s m dr w h its there mine writes (ValueWrite j) is law = absurd (no_delta m dr law writes)
delta_by st es s m dr w h its there mine writes (ValueRead j) is law = absurd (no_delta m dr law writes)

pub delta_is_own : (st : Setting) (es : Trace) (s : Session) (m : Submitted) (dr : DeltaRec) → Orderly st es → IsSession st es s → Contains (submitted es) m
    → m.call.session ≡ s.number → delta_written m ≡ Some dr → IsOwnDelta st es s m dr
delta_is_own st es s m dr h its there mine writes =
    let w = calls_were_lawful st es s m h its there mine in
    delta_by st es s m dr w h its there mine writes m.call.purpose refl w.lawful
