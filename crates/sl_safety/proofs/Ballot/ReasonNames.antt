-- A joined session keeps its generation: each delta record that it writes from then on has it. So whoever it was at the front of one of
-- its calls it still is, and its name in ballots stays.
use Rattle.sl_run.proofs.LawFacts.{orderly-front}
use Rattle.sl_run.specs.Lawful.{Orderly}
use Rattle.sl_run.specs.LawfulDelta.{LawfulDeltaCall, LawfulJoinStep}
use Rattle.sl_run.specs.LawForms.{cut_at}
use Rattle.sl_run_law.proofs.Place.Looks.{reads_none}
use Rattle.sl_sector.specs.declared.sector.DeltaRec.{DeltaRec}
use Rattle.sl_run_law.proofs.Sessions.TraceGrowth.{mine_marked, mine_next, other_next, to_all, to_cut}
use Rattle.sl_run_law.proofs.Sessions.CallsAreMade.{same_answered}
use Rattle.sl_run_law.proofs.Sessions.CallOwners.{sessions_stay}
use Rattle.sl_run_law.proofs.Sessions.EndedAreSilent.{stage_by}
use Rattle.sl_run_law.proofs.Sessions.MarksStay.{joined_more, stays}
use Rattle.sl_run_law.specs.Sessions.SessionLaws.{IsSession}
use Rattle.sl_trace.specs.Sessions.{calls_of, delta_of_record, delta_written, free_write, generation_in, generation_of, given_number, joined_after, last_delta, refused_after, removed_after, session_numbered, stage_in}
use Rattle.sl_trace.specs.declared.session.Session.{Session}
use Rattle.sl_trace.specs.declared.stage.Stage.TheVariants.{Deciding, Verifying}
use Rattle.sl_trace.specs.declared.stage.Stage.{Stage}
use Rattle.sl_trace.specs.Traces.{Setting, Submitted, Trace, answered_in, mark, new_call, record_of}
use Rattle.sl_trace.specs.declared.effects.Call.{Call}
use Rattle.sl_trace.specs.declared.effects.Entry.{Entry}
use Rattle.sl_trace.specs.declared.effects.JoinStep.TheVariants.{ClaimWrite, DecidingRead, FirstRead, FirstRenewal, VerifyRead, WatchRead}
use Rattle.sl_trace.specs.declared.effects.JoinStep.{JoinStep}
use Rattle.sl_trace.specs.declared.effects.Purpose.TheVariants.{Joining, Lease, Leaving, Renewal, RequestRead, RequestWrite, SeeRequest, Survey, ValueRead, ValueWrite}
use Rattle.sl_trace.specs.declared.effects.Purpose.{Purpose}
use Rattle.sl_trace.specs.declared.input.Answer.{Answer}
use Rattle.sl_trace.specs.declared.input.Input.TheVariants.{Answer as Told, Exit, Line, Number, Spawned, Wake}
use Rattle.sl_trace.specs.declared.input.Input.{Input}
use Rattle.sl_words.proofs.CaseLaws.{none_some, one_value}
use Rattle.std.proofs.Common.{ap, refl, sym, ◌∙◌}
use Rattle.std.proofs.lemmas.Bool.{eqb-true}
use Rattle.std.specs.Option.{option_map_or}
use Rattle.std.specs.Prelude.{Bool, List, None, Option, Some, [], false, length, map, option_and_then, slice_get, suc, true, ℕ, ◌++◌, ◌==◌, ◌∷◌, ◌≡◌}

-- ---- a delta record of a joined session has its generation

not_deciding : (removed refused : Option ℕ) (free : Option Submitted) (joining : Stage) (k : ℕ) → stage_by (Some k) removed refused free joining ≡ Deciding → ⊥
not_deciding (Some i) refused free joining k h = absurd cc
not_deciding None refused (Some m) joining k h = absurd cc
not_deciding None refused None joining k h = absurd cc

not_verifying : (removed refused : Option ℕ) (free : Option Submitted) (joining : Stage) (k : ℕ) → stage_by (Some k) removed refused free joining ≡ Verifying → ⊥
not_verifying (Some i) refused free joining k h = absurd cc
not_verifying None refused (Some m) joining k h = absurd cc
not_verifying None refused None joining k h = absurd cc

step_keeps : (st : Setting) (es : Trace) (s : Session) (c : Submitted) (k : ℕ) → joined_after es s ≡ Some k → (d : DeltaRec) → delta_written c ≡ Some d → (step : JoinStep)
    → LawfulJoinStep st es s c step → d.generation ≡ generation_of es s
step_keeps st es s c k joined d wrote FirstRead law = absurd (reads_none c 1 d law.reads wrote)
step_keeps st es s c k joined d wrote WatchRead law = absurd (reads_none c 1 d law.reads wrote)
step_keeps st es s c k joined d wrote DecidingRead law = absurd (reads_none c 1 d law.reads wrote)
step_keeps st es s c k joined d wrote ClaimWrite law =
    absurd (not_deciding (removed_after es s) (refused_after es s) (free_write (calls_of es s)) (stage_in (calls_of es s)) k
    (ap (λ o. stage_by o (removed_after es s) (refused_after es s) (free_write (calls_of es s)) (stage_in (calls_of es s))) (sym joined) ∙ law.deciding))
step_keeps st es s c k joined d wrote VerifyRead law = absurd (reads_none c 1 d law.reads wrote)
step_keeps st es s c k joined d wrote FirstRenewal law =
    absurd (not_verifying (removed_after es s) (refused_after es s) (free_write (calls_of es s)) (stage_in (calls_of es s)) k
    (ap (λ o. stage_by o (removed_after es s) (refused_after es s) (free_write (calls_of es s)) (stage_in (calls_of es s))) (sym joined) ∙ law.verifying))

delta_keeps : (st : Setting) (es : Trace) (s : Session) (c : Submitted) (k : ℕ) → joined_after es s ≡ Some k → (d : DeltaRec) → delta_written c ≡ Some d → (p : Purpose)
    → LawfulDeltaCall st es s c p → d.generation ≡ generation_of es s
delta_keeps st es s c k joined d wrote (Joining j step) law = step_keeps st es s c k joined d wrote step law
delta_keeps st es s c k joined d wrote Renewal law = ap (λ (x : DeltaRec). x.generation) (one_value d _ (delta_written c) wrote law.written)
delta_keeps st es s c k joined d wrote Survey law = absurd (reads_none c st.layout.hosts d law.whole.2 wrote)
delta_keeps st es s c k joined d wrote (Leaving j) law = ap (λ (x : DeltaRec). x.generation) (one_value d _ (delta_written c) wrote law.written)
delta_keeps st es s c k joined d wrote (Lease work step) law = absurd (none_some d (sym law ∙ wrote))
delta_keeps st es s c k joined d wrote (RequestRead j) law = absurd (none_some d (sym law ∙ wrote))
delta_keeps st es s c k joined d wrote (RequestWrite j o) law = absurd (none_some d (sym law ∙ wrote))
delta_keeps st es s c k joined d wrote SeeRequest law = absurd (none_some d (sym law ∙ wrote))
delta_keeps st es s c k joined d wrote (ValueWrite j) law = absurd (none_some d (sym law ∙ wrote))
delta_keeps st es s c k joined d wrote (ValueRead j) law = absurd (none_some d (sym law ∙ wrote))

-- ---- call by call

abbrev after_call : Session → List Submitted → Option DeltaRec → ℕ
after_call s ms o = option_map_or (λ (d : DeltaRec). d.generation) (elim o as (λ z. Option DeltaRec) [ Some d ↦ Some d | None ↦ last_delta ms ]) (given_number s)

call_keeps : (s : Session) (ms : List Submitted) (o : Option DeltaRec) (g : ℕ) → generation_in s ms ≡ g → ((d : DeltaRec) → o ≡ Some d → d.generation ≡ g) → after_call s ms o ≡ g
call_keeps s ms None g was own = was
call_keeps s ms (Some d) g was own = own d refl

mine_keeps : (s : Session) (m : Submitted) (ms : List Submitted) (g : ℕ) → generation_in s ms ≡ g → ((d : DeltaRec) → delta_written m ≡ Some d → d.generation ≡ g) → generation_in s (m ∷ ms) ≡ g
mine_keeps s m ms g was own = call_keeps s ms (delta_written m) g was own

next_keeps : (st : Setting) (e : Entry) (past : Trace) (s : Session) (j : ℕ) → Orderly st (e ∷ past) → IsSession st (e ∷ past) s → joined_after (e ∷ past) s ≡ Some j → (k : ℕ) (c : Call)
    → slice_get e.effects.calls k ≡ Some c → (g : ℕ) → generation_of (cut_at k e ∷ past) s ≡ g → (b : Bool) → (c.session == s.number) ≡ b → generation_of (cut_at (suc k) e ∷ past) s ≡ g
next_keeps st e past s j law its joined k c at g was true mine =
    let new : Submitted = new_call (length past) e.reading c in
    let t : Trace = cut_at k e ∷ past in
    let number : session_numbered st (e ∷ past) c.session ≡ Some s = ap (λ n. session_numbered st (e ∷ past) n) (eqb-true c.session s.number mine) ∙ its in
    ap (λ ms. generation_in s ms) (mine_next past e s k c at mine)
    ∙ mine_keeps s new (calls_of t s) g was (λ d wrote. delta_keeps st t s new j joined d wrote c.purpose (law.delta.0.calls k c s at number) ∙ was)
next_keeps st e past s j law its joined k c at g was false other = ap (λ ms. generation_in s ms) (other_next past e s k c at other) ∙ was

-- Within the entry of a joined session's call its generation stays.
pub cut_keeps : (st : Setting) (e : Entry) (past : Trace) (s : Session) (j : ℕ) → Orderly st (e ∷ past) → IsSession st (e ∷ past) s → joined_after (e ∷ past) s ≡ Some j → (k : ℕ)
    → generation_of (e ∷ past) s ≡ generation_of (cut_at k e ∷ past) s
cut_keeps st e past s j law its joined k =
    let g : ℕ = generation_of (cut_at 0 e ∷ past) s in
    let P : Trace → Type 0 = λ t. generation_of t s ≡ g in
    let next : (i : ℕ) (c : Call) → slice_get e.effects.calls i ≡ Some c → P (cut_at i e ∷ past) → P (cut_at (suc i) e ∷ past) =
    λ i c at was. next_keeps st e past s j law its joined i c at g was (c.session == s.number) refl in
    to_all P e past refl next ∙ sym (to_cut P e past refl next k)

-- ---- entry by entry

told_delta : (es : Trace) (e : Entry) (n : ℕ) (a : Answer) (ms : List Submitted) → last_delta (map (answered_in es e n a) ms) ≡ last_delta ms
told_delta es e n a [] = refl
told_delta es e n a (m ∷ ms) =
    ap (λ (c : Call). elim (option_and_then delta_of_record (record_of c.op)) as (λ z. Option DeltaRec) [ Some d ↦ Some d | None ↦ last_delta (map (answered_in es e n a) ms) ])
    (same_answered es e n a m).call
    ∙ ap (λ r. elim (delta_written m) as (λ z. Option DeltaRec) [ Some d ↦ Some d | None ↦ r ]) (told_delta es e n a ms)

marked_delta : (es : Trace) (e : Entry) (i : Input) (ms : List Submitted) → last_delta (mark es e i ms) ≡ last_delta ms
marked_delta es e (Told n a) ms = told_delta es e n a ms
marked_delta es e (Line text) ms = refl
marked_delta es e (Number text) ms = refl
marked_delta es e (Exit p) ms = refl
marked_delta es e (Spawned p ok) ms = refl
marked_delta es e Wake ms = refl

head_keeps : (e : Entry) (past : Trace) (s : Session) → generation_of (cut_at 0 e ∷ past) s ≡ generation_of past s
head_keeps e past s =
    ap (λ ms. generation_in s ms) (mine_marked past e s)
    ∙ ap (λ o. option_map_or (λ (d : DeltaRec). d.generation) o (given_number s)) (marked_delta past (cut_at 0 e) e.input (calls_of past s))

-- A joined session keeps its generation.
pub generation_stays : (st : Setting) (later es : Trace) (s : Session) (j : ℕ) → Orderly st (later ++ es) → IsSession st es s → joined_after es s ≡ Some j
    → generation_of (later ++ es) s ≡ generation_of es s
generation_stays st [] es s j law its joined = refl
generation_stays st (e ∷ later) es s j law its joined =
    let past : Trace = later ++ es in
    cut_keeps st e past s j law (sessions_stay st (e ∷ later) es s.number s its) (stays joined_after joined_more (e ∷ later) es s j joined) 0
    ∙ head_keeps e past s ∙ generation_stays st later es s j (orderly-front st (e ∷ []) past law) its joined
