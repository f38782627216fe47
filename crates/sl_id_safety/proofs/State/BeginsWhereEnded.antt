-- Sessions of one lockspace of a daemon: the later one begins where the earlier has ended, with no write unanswered.
use Rattle.sl_run_law.proofs.Place.FoundInLists.{partner}
use Rattle.sl_id_safety.proofs.State.CallLaws.{IsLawfulCall, join_law}
use Rattle.sl_id_safety.proofs.State.Tails.{IsLater, IsMadeAfter, later_again, later_still, marked_later}
use Rattle.sl_id_safety.proofs.State.TracesInTime.{longer}
use Rattle.sl_run_law.proofs.Front.JoinedLists.{placed_at}
use Rattle.sl_words.proofs.Lists.{any_found, any_of, ends, got_inside, kept, kept_inside}
use Rattle.sl_words.proofs.Options.{some_of}
use Rattle.sl_run_law.proofs.Watchdog.TraceNumbers.{begun_is, either_place}
use Rattle.std.proofs.lemmas.Bool.{cases_lt, eqb-true}
use Rattle.std.proofs.lemmas.Option.{slice_get_within}
use Rattle.sl_run.proofs.LawFacts.{orderly-front}
use Rattle.sl_run.specs.Lawful.{Orderly}
use Rattle.sl_run.specs.LawfulCalls.{may_submit}
use Rattle.sl_run.specs.LawForms.{cut_at}
use Rattle.sl_run_law.proofs.Sessions.TraceGrowth.{other_next, to_all, to_cut}
use Rattle.sl_run_law.proofs.Sessions.CallsAreMade.{IsNewCall, old_or_new}
use Rattle.sl_run_law.proofs.Sessions.SessionNames.{absent}
use Rattle.sl_run_law.proofs.Sessions.CallOwners.{owned, session_more, sessions_stay}
use Rattle.sl_run_law.proofs.Sessions.UnansweredNotRemoved.{not_removed}
use Rattle.sl_run_law.proofs.Sessions.EndedAreSilent.{no_more}
use Rattle.sl_run_law.proofs.Sessions.MarksStay.{marks_stay}
use Rattle.sl_run_law.specs.Sessions.SessionLaws.{IsSession as IsSessionOf}
use Rattle.sl_trace.specs.Sessions.{added_by, begun_in, calls_of, ended_after, has_open_write, is_call_of, is_join_call, is_present, joined_after, joining_session, refused_after, removed_after, session_named, session_numbered, sessions, stage_of}
use Rattle.sl_trace.specs.declared.session.Session.{Session}
use Rattle.sl_trace.specs.Traces.{Answered, Setting, Submitted, Trace, is_write, mark, new_call, next_job, submitted, unanswered}
use Rattle.sl_trace.specs.declared.command.LockspaceArg.{LockspaceArg}
use Rattle.sl_trace.specs.declared.effects.Call.{Call}
use Rattle.sl_trace.specs.declared.effects.Entry.{Entry}
use Rattle.sl_trace.specs.declared.effects.JoinStep.TheVariants.{FirstRead}
use Rattle.sl_words.proofs.CaseLaws.{is_false, no_value, none_some, one_value, true_is_false}
use Rattle.std.proofs.Common.{ap, arith, inl, inr, refl, subst, sym, ◌∙◌}
use Rattle.std.specs.List.{list_any}
use Rattle.std.specs.Prelude.{Bool, Contains, List, None, Option, Some, [], drop, false, is_none, length, slice_get, suc, true, ℕ, ◌&&◌, ◌++◌, ◌+◌, ◌<◌, ◌==◌, ◌||◌, ◌∷◌, ◌≡◌, ◌≤◌, ◌⊎◌}

-- ---- lists

-- ---- where a session began

-- The entry that began a session.
pub record BeganAt (st : Setting) (es : Trace) (n : ℕ) (s : Session) : Type 0 where
  pub later : Trace
  pub entry : Entry
  pub past : Trace
  pub whole : es ≡ later ++ entry ∷ past
  -- it wasn't there before
  pub number : n ≡ length (sessions st past)
  pub begun : slice_get (begun_in st past (length (sessions st past)) entry) 0 ≡ Some s

-- An entry begins one session at most.
first_begun : (st : Setting) (past : Trace) (e : Entry) (k : ℕ) (s : Session) → slice_get (begun_in st past (length (sessions st past)) e) k ≡ Some s
    → (k ≡ 0) × (slice_get (begun_in st past (length (sessions st past)) e) 0 ≡ Some s)
first_begun st past e k s at =
    let one = begun_is st past (length (sessions st past)) k e s at in
    (one.0, subst (λ j. slice_get (begun_in st past (length (sessions st past)) e) j ≡ Some s) one.0 at)

abbrev WasGiven : Setting → ℕ → Session → Type 0
WasGiven st n s = (session_numbered st [] n ≡ Some s)

began_now : (st : Setting) (e : Entry) (es : Trace) (n k : ℕ) (s : Session) → n ≡ length (sessions st es) + k
    → slice_get (begun_in st es (length (sessions st es)) e) k ≡ Some s → BeganAt st (e ∷ es) n s
began_now st e es n k s place at =
    let one = first_begun st es e k s at in
    record { later = []; entry = e; past = es; whole = refl; number = omega (arith, place, one.0); begun = one.1 }

pub begun_where : (st : Setting) (es : Trace) (n : ℕ) (s : Session) → session_numbered st es n ≡ Some s → (session_numbered st [] n ≡ Some s) ⊎ BeganAt st es n s
begun_where st [] n s at = inl at
begun_where st (e ∷ es) n s at = by (λ old. begun_where st es n s old) (either_place (sessions st es) (begun_in st es (length (sessions st es)) e) n s at) where
  more : WasGiven st n s ⊎ BeganAt st es n s → WasGiven st n s ⊎ BeganAt st (e ∷ es) n s
  more (inl given) = inl given
  more (inr b) = inr (record { later = e ∷ b.later; entry = b.entry; past = b.past; whole = ap (λ t. e ∷ t) b.whole; number = b.number; begun = b.begun })

  by : (session_numbered st es n ≡ Some s → WasGiven st n s ⊎ BeganAt st es n s)
      → (session_numbered st es n ≡ Some s) ⊎ ((k : ℕ) × (n ≡ length (sessions st es) + k) × (slice_get (begun_in st es (length (sessions st es)) e) k ≡ Some s))
      → WasGiven st n s ⊎ BeganAt st (e ∷ es) n s
  by rest (inl old) = more (rest old)
  by rest (inr new) = inr (began_now st e es n new.0 s new.1 new.2)

-- Such an entry makes a first read.
begins_by : (st : Setting) (es : Trace) (n : ℕ) (b : Bool) (o : Option LockspaceArg) (s : Session)
    → slice_get (elim b as (λ z. List Session) [ false ↦ [] | true ↦ elim o as (λ z. List Session) [ None ↦ [] | Some a ↦ joining_session n (next_job st es) a ∷ [] ] ]) 0 ≡ Some s
    → b ≡ true
begins_by st es n true o s at = refl
begins_by st es n false o s at = absurd (none_some s at)

not_ended : (t : Trace) (s : Session) → may_submit (stage_of t s) ≡ true → (o : Option ℕ) → ended_after t s ≡ o → o ≡ None
not_ended t s may None is = refl
not_ended t s may (Some k) is = absurd (true_is_false (sym may ∙ no_more t s k is))

alive_present : (t : Trace) (s : Session) → may_submit (stage_of t s) ≡ true → is_present t s ≡ true
alive_present t s may = ap (λ o. is_none o || is_none (joined_after t s) && has_open_write t s) (not_ended t s may (ended_after t s) refl)

-- Where a session began nobody had its lockspace's name.
pub record BeganAlone (st : Setting) (es : Trace) (n : ℕ) (s : Session) (b : BeganAt st es n s) : Type 0 where
  pub lawful : Orderly st (b.entry ∷ b.past)
  pub index : ℕ
  pub nobody : session_named st (cut_at index b.entry ∷ b.past) s.lockspace ≡ None

pub began_alone : (st : Setting) (es : Trace) (n : ℕ) (s : Session) (b : BeganAt st es n s) → Orderly st es → BeganAlone st es n s b
began_alone st es n s b h =
    let here = orderly-front st b.later (b.entry ∷ b.past) (subst (λ t. Orderly st t) b.whole h) in
    let count : ℕ = length (sessions st b.past) in
    let reads = any_found (λ (c : Call). is_join_call FirstRead c.purpose) b.entry.effects.calls
    (begins_by st b.past count (list_any (λ c. is_join_call FirstRead c.purpose) b.entry.effects.calls) (added_by st b.entry.input) s b.begun) in
    let at = placed_at b.entry.effects.calls reads.0 reads.1 in
    let x = some_of (session_numbered st (b.entry ∷ b.past) reads.0.session) (here.calls.0.owned reads.0 reads.1) in
    let t : Trace = cut_at at.0 b.entry ∷ b.past in
    let law = join_law st t x.0 (new_call (length b.past) b.entry.reading reads.0) reads.0.purpose FirstRead (here.delta.0.calls at.0 reads.0 x.0 at.1 x.1) reads.2 in
    let may = here.calls.0.alive at.0 reads.0 x.0 at.1 x.1 in
    let nobody = alone_by st b.entry b.past at.0 s reads.0.session x.0 b.begun law.apart may (either_place (sessions st b.past) (begun_in st b.past count b.entry) reads.0.session x.0 x.1) in
    record { lawful = here; index = at.0; nobody = nobody }
  where
    alone_by : (st : Setting) (e : Entry) (past : Trace) (k : ℕ) (s : Session) (n : ℕ) (x : Session) → slice_get (begun_in st past (length (sessions st past)) e) 0 ≡ Some s
        → session_named st (cut_at k e ∷ past) x.lockspace ≡ None → may_submit (stage_of (cut_at k e ∷ past) x) ≡ true
        → (session_numbered st past n ≡ Some x) ⊎ ((j : ℕ) × (n ≡ length (sessions st past) + j) × (slice_get (begun_in st past (length (sessions st past)) e) j ≡ Some x))
        → session_named st (cut_at k e ∷ past) s.lockspace ≡ None
    alone_by st e past k s n x there none may (inl old) =
        let t : Trace = cut_at k e ∷ past in
        absurd (absent st t x.lockspace x (got_inside (sessions st t) n x (session_more st (cut_at k e) past n x old)) refl none (alive_present t x may))
    alone_by st e past k s n x there none may (inr new) =
        let same = one_value s x (slice_get (begun_in st past (length (sessions st past)) e) 0) there (first_begun st past e new.0 x new.2).1 in
        ap (λ (y : Session). session_named st (cut_at k e ∷ past) y.lockspace) same ∙ none

-- ---- one that had ended by then

-- Where one session began another had ended, with no write unanswered.
pub record HadEnded (st : Setting) (es : Trace) (n : ℕ) (s : Session) (b : BeganAt st es n s) (x : Session) : Type 0 where
  pub mark_of_end : ℕ
  pub ended : ended_after (b.entry ∷ b.past) x ≡ Some mark_of_end
  pub closed : has_open_write (b.entry ∷ b.past) x ≡ false

present_cases : (ended joined : Option ℕ) (b : Bool) → (is_none ended || is_none joined && b) ≡ false → ((k : ℕ) × (ended ≡ Some k)) × (joined ≡ None → b ≡ false)
present_cases None joined b h = absurd (true_is_false h)
present_cases (Some k) None b h = ((k, refl), λ none. h)
present_cases (Some k) (Some j) b h = ((k, refl), λ none. absurd (none_some j (sym none)))

quiet_entry : (st : Setting) (e : Entry) (past : Trace) (s : Session) (k : ℕ) → Orderly st (e ∷ past) → IsSessionOf st (e ∷ past) s → ended_after (e ∷ past) s ≡ Some k
    → (j : ℕ) (c : Call) → slice_get e.effects.calls j ≡ Some c → (c.session == s.number) ≡ false
quiet_entry st e past s k h its ended j c at =
    is_false (c.session == s.number) (λ mine.
    let own = owned st [] e past s h its j c at (eqb-true c.session s.number mine) in
    true_is_false (sym (h.calls.0.alive j c s at own) ∙ no_more (cut_at j e ∷ past) s k ended))

same_cut : (e : Entry) (past : Trace) (s : Session) → ((j : ℕ) (c : Call) → slice_get e.effects.calls j ≡ Some c → (c.session == s.number) ≡ false) → (k : ℕ)
    → calls_of (e ∷ past) s ≡ calls_of (cut_at k e ∷ past) s
same_cut e past s quiet k =
    let cut = to_cut (λ t. calls_of t s ≡ calls_of (cut_at 0 e ∷ past) s) e past refl (λ j c at old. other_next past e s j c at (quiet j c at) ∙ old) k in
    let all = to_all (λ t. calls_of t s ≡ calls_of (cut_at 0 e ∷ past) s) e past refl (λ j c at old. other_next past e s j c at (quiet j c at) ∙ old) in
    all ∙ sym cut

closed_by : (st : Setting) (e : Entry) (past : Trace) (s : Session) (i k : ℕ) → Orderly st (e ∷ past) → IsSessionOf st (e ∷ past) s → ended_after (e ∷ past) s ≡ Some k
    → (joined_after (e ∷ past) s ≡ None → has_open_write (cut_at i e ∷ past) s ≡ false) → (o : Option ℕ) → joined_after (e ∷ past) s ≡ o → has_open_write (e ∷ past) s ≡ false
closed_by st e past s i k h its ended shut None is =
    ap (λ ms. list_any (λ (m : Submitted). is_write m.call.op) (unanswered ms)) (same_cut e past s (quiet_entry st e past s k h its ended) i) ∙ shut is
closed_by st e past s i k h its ended shut (Some j) is =
    is_false (has_open_write (e ∷ past) s) (λ waits.
    let gone : removed_after (e ∷ past) s ≡ Some k =
    ap (λ q. elim q as (λ z. Option ℕ) [ Some n ↦ removed_after (e ∷ past) s | None ↦ refused_after (e ∷ past) s ]) (sym is) ∙ ended in
    no_value k (removed_after (e ∷ past) s) gone (not_removed st (e ∷ past) s h its waits))

-- A session of the same lockspace that was there when another began.
pub had_ended : (st : Setting) (es : Trace) (n : ℕ) (s : Session) (b : BeganAt st es n s) (a : BeganAlone st es n s b) (x : Session) → session_numbered st b.past x.number ≡ Some x
    → x.lockspace ≡ s.lockspace → HadEnded st es n s b x
had_ended st es n s b a x was same =
    let t : Trace = cut_at a.index b.entry ∷ b.past in
    let there = got_inside (sessions st t) x.number x (session_more st (cut_at a.index b.entry) b.past x.number x was) in
    let gone : is_present t x ≡ false = is_false (is_present t x) (λ present. absent st t s.lockspace x there same a.nobody present) in
    let c = present_cases (ended_after t x) (joined_after t x) (has_open_write t x) gone in
    let its = session_more st b.entry b.past x.number x was in
    record {
      mark_of_end = c.0.0;
      ended = c.0.1;
      closed = closed_by st b.entry b.past x a.index c.0.0 a.lawful its c.0.1 c.1 (joined_after (b.entry ∷ b.past) x) refl;
    }

-- ---- its calls were made before, and those of the other after

pub early_call : (st : Setting) (es : Trace) (n : ℕ) (s : Session) (b : BeganAt st es n s) (x : Session) → HadEnded st es n s b x → (m : Submitted) (older : List Submitted)
    → (d : IsMadeAfter es x m older) → IsLawfulCall st es x m older d → m.at < length b.past
early_call st es n s b x h m older d l = by (cases_lt m.at (length b.past)) where
  by : (m.at < length b.past) ⊎ (length b.past ≤ m.at) → m.at < length b.past
  by (inl lt) = lt
  by (inr le) =
      let mid = ends d.later (d.entry ∷ d.past) b.later (b.entry ∷ b.past) (sym d.whole ∙ b.whole) (omega (arith, le, d.place)) in
      let ended : ended_after (d.entry ∷ d.past) x ≡ Some h.mark_of_end =
      ap (λ t. ended_after t x) mid.1 ∙ marks_stay.ended mid.0 (b.entry ∷ b.past) x h.mark_of_end h.ended in
      absurd (true_is_false (sym l.alive ∙ no_more (cut_at d.index d.entry ∷ d.past) x h.mark_of_end ended))

late_by : (st : Setting) (s : Session) (e : Entry) (past mid t : Trace) → e ∷ past ≡ mid ++ t → length t ≤ length past → session_numbered st t s.number ≡ Some s
    → session_numbered st past s.number ≡ Some s
late_by st s e past [] t is le at = absurd (let same : suc (length past) ≡ length t = ap (λ zs. length zs) is in omega (arith, same, le))
late_by st s e past (y ∷ mid) t is le at =
    subst (λ u. session_numbered st u s.number ≡ Some s) (sym (ap (λ zs. drop 1 zs) is)) (sessions_stay st mid t s.number s at)

pub late_call : (st : Setting) (es : Trace) (n : ℕ) (s : Session) (m : Submitted) (older : List Submitted) (d : IsMadeAfter es s m older) → IsLawfulCall st es s m older d
    → s.number ≡ n → (b : BeganAt st es n s) → length b.past ≤ m.at
late_call st es n s m older d l number b = by (cases_lt m.at (length b.past)) where
  by : (m.at < length b.past) ⊎ (length b.past ≤ m.at) → length b.past ≤ m.at
  by (inr le) = le
  by (inl lt) =
      let mid = ends b.later (b.entry ∷ b.past) d.later (d.entry ∷ d.past) (sym b.whole ∙ d.whole) (omega (arith, lt, d.place)) in
      let its : session_numbered st (d.entry ∷ d.past) s.number ≡ Some s =
      ap (λ k. session_numbered st (d.entry ∷ d.past) k) (sym (eqb-true m.call.session s.number d.mine)) ∙ l.its in
      let was = late_by st s b.entry b.past mid.0 (d.entry ∷ d.past) mid.1 (omega (arith, lt, d.place)) its in
      absurd (omega (arith, slice_get_within (sessions st b.past) s.number s was, number, b.number))

-- ---- and its writes are answered

-- What a trace has of before a front is there, answered less.
earlier : (later t : Trace) (s : Session) (m : Submitted) → Contains (calls_of (later ++ t) s) m → m.at < length t → (r : Submitted) × Contains (calls_of t s) r × IsLater m r
earlier [] t s m there lt = (m, there, later_still m)
earlier (e ∷ later) t s m there lt =
    let rest : Trace = later ++ t in
    let own = kept_inside (is_call_of s) (submitted (e ∷ rest)) m there in
    by (λ b inside below. earlier later t s b inside below)
    (old_or_new (length rest) e.reading e.effects.calls (mark rest e e.input (submitted rest)) m own.0) own.1
  where
    by : ((b : Submitted) → Contains (calls_of (later ++ t) s) b → b.at < length t → (r : Submitted) × Contains (calls_of t s) r × IsLater b r)
        → Contains (mark (later ++ t) e e.input (submitted (later ++ t))) m ⊎ IsNewCall (length (later ++ t)) e.reading e.effects.calls m → is_call_of s m ≡ true
        → (r : Submitted) × Contains (calls_of t s) r × IsLater m r
    by go (inr new) mine = absurd (omega (arith, new.place, lt, longer later t))
    by go (inl old) mine =
        let rest : Trace = later ++ t in
        let b = partner IsLater (mark rest e e.input (submitted rest)) (submitted rest) m (marked_later rest e e.input (submitted rest)) old in
        let its : is_call_of s b.0 ≡ true = ap (λ (c : Call). c.session == s.number) (sym b.2.same.call) ∙ mine in
        let r = go b.0 (kept (is_call_of s) (submitted rest) b.0 its b.1) (omega (arith, lt, b.2.same.at)) in
        (r.0, r.1, later_again m b.0 r.0 b.2 r.2)

answered_by : (t : Trace) (s : Session) (m r : Submitted) → has_open_write t s ≡ false → Contains (calls_of t s) r → IsLater m r → is_write m.call.op ≡ true
    → (o : Option Answered) → r.answer ≡ o → (a : Answered) × (m.answer ≡ Some a)
answered_by t s m r shut there l is (Some a) its = (a, ap (λ (x : Submitted). x.answer) (l.stays a its) ∙ its)
answered_by t s m r shut there l is None its =
    absurd (true_is_false (sym (any_of (λ (x : Submitted). is_write x.call.op) (unanswered (calls_of t s)) r (ap (λ (c : Call). is_write c.op) (sym l.same.call) ∙ is)
    (kept (λ (x : Submitted). is_none x.answer) (calls_of t s) r (ap (λ q. is_none q) its) there)) ∙ shut))

pub answered_then : (st : Setting) (es : Trace) (n : ℕ) (s : Session) (b : BeganAt st es n s) (x : Session) → HadEnded st es n s b x → (m : Submitted) → Contains (calls_of es x) m
    → m.at < length b.past → is_write m.call.op ≡ true → (a : Answered) × (m.answer ≡ Some a)
answered_then st es n s b x h m there lt is =
    let t : Trace = b.entry ∷ b.past in
    let r = earlier b.later t x m (subst (λ u. Contains (calls_of u x) m) b.whole there) (omega (arith, lt)) in
    answered_by t x m r.0 h.closed r.1 r.2 is r.0.answer refl
