-- What each act allows of delta records.
use Rattle.sl_due_facts.specs.Acts.TraceSoFar.{entry_of}
use Rattle.sl_due.specs.Steps.{Step, add_move, add_reply, add_signal, add_start, seen, with_input}
use Rattle.sl_due_facts.proofs.Jobs.CallsHaveFacts.{find_mapped, sessions_told}
use Rattle.sl_due_facts.proofs.Jobs.CallsStay.{IsLate, calls_stay}
use Rattle.sl_due_facts.proofs.Jobs.EffectsAreAllowed.{Allows}
use Rattle.sl_due_facts.proofs.Jobs.NearlyPlainActs.{AnyMove, AnyStart}
use Rattle.sl_due_facts.proofs.Jobs.SessionsStand.{joined_then, move_joined, no_members, reply_leaving}
use Rattle.sl_words.proofs.Lists.{contains_map, contains_none, find_fails, find_inside, in_map, kept, kept_inside}
use Rattle.sl_words.proofs.Options.{none_is, some_of, some_there}
use Rattle.sl_sector.specs.declared.sector.DeltaRec.{DeltaRec}
use Rattle.sl_due_facts.proofs.Sessions.DeltaGrow.{DeltaCall, DeltaPart, DeltaReply, DeltaSince, FreedBefore, GoodDelta, JoinsNone, call_delta, leaving_goes_on, reply_joins_none}
use Rattle.sl_due_facts.proofs.Sessions.NameEffects.{reply_joins_more}
use Rattle.sl_due_facts.proofs.Sessions.NamesGrow.{calls_of_told}
use Rattle.sl_trace.specs.Sessions.{calls_of, delta_of_record, delta_written, free_write, generation_in, given_number, is_call_of, is_free_purpose, is_join_done, is_joined, joined_after, last_delta, last_seq, leaving_job, removed_after, seq_in, sessions}
use Rattle.sl_trace.specs.declared.session.Session.{Session}
use Rattle.sl_trace.specs.Traces.{Answered, Job, Submitted, Trace, answer_of, answered_in, is_before_input, job_of, mark, record_of, submitted, unanswered}
use Rattle.sl_trace.specs.declared.effects.Call.{Call}
use Rattle.sl_trace.specs.declared.effects.Entry.{Entry}
use Rattle.sl_trace.specs.declared.effects.Move.{Move}
use Rattle.sl_trace.specs.declared.effects.Signal.{Signal}
use Rattle.sl_trace.specs.declared.effects.Start.{Start}
use Rattle.sl_trace.specs.declared.input.Input.{Input}
use Rattle.sl_trace.specs.declared.input.Input.TheVariants.{Answer as Told, Wake}
use Rattle.sl_trace.specs.declared.reply.Reply.{Reply}
use Rattle.sl_run_law.proofs.Sessions.CallsAreMade.{SameCall, WasOpen, kept_by, same_answered, was_marked}
use Rattle.sl_words.proofs.CaseLaws.{none_some, not_both, one_value}
use Rattle.sl_words.proofs.WordLaws.{and_true}
use Rattle.sl_words.specs.Bounds.{is_number}
use Rattle.std.proofs.Common.{ap, ap₂, inl, inr, refl, subst, sym, ◌∙◌}
use Rattle.std.specs.Option.{option_map_or}
use Rattle.std.specs.Prelude.{Contains, IsSome, IsTrue, List, None, Option, Some, [], cond, false, filter, find, is_none, is_some, map, option_and_then, option_map, slice_get, true, ℕ, ◌&&◌, ◌+◌, ◌==◌, ◌∷◌, ◌≡◌, ◌≤◌, ◌⊎◌}

-- ---- effects

late_since_delta : (x y : Step) (r : Reply) → y.past ≡ x.past → y.input ≡ x.input → IsLate x r → IsLate y r
late_since_delta x y r before input may n a is = by (may n a (sym input ∙ is)) where
  by : (is_before_input r ≡ false) ⊎ ((m : Submitted) → Contains (submitted x.past) m → (m.call.number == n) ≡ true → job_of m.call.purpose ≡ None)
      → (is_before_input r ≡ false) ⊎ ((m : Submitted) → Contains (submitted y.past) m → (m.call.number == n) ≡ true → job_of m.call.purpose ≡ None)
  by (inl after) = inl after
  by (inr none) = inr (λ m there its. none m (subst (λ es. Contains (submitted es) m) before there) its)

pub move_delta : (y : Step) (m : Move) → DeltaPart y.setting (seen y) → DeltaPart y.setting (seen (add_move m y))
move_delta y m h =
    record {
      frees = h.frees;
      before = h.before;
      numbers = λ s there joined. h.numbers s there (move_joined y m s joined);
      left = λ s k there joined leaves_s none. h.left s k there (move_joined y m s joined) leaves_s none;
    }

reply_is_joined : (y : Step) (j : ℕ) (r : Reply) (s : Session) → is_some (joined_after (seen y) s) ≡ true → is_joined (seen (add_reply j r y)) s ≡ true → is_joined (seen y) s ≡ true
reply_is_joined y j r s joined is = ap₂ (λ a b. a && b) joined (and_true (is_some (joined_after (seen (add_reply j r y)) s)) (is_none (removed_after (seen y) s)) is).1

pub reply_delta : (x y : Step) (j : ℕ) (r : Reply) → FreedBefore x → DeltaReply x j r → DeltaSince x y → DeltaPart y.setting (seen (add_reply j r y))
reply_delta x y j r freed may h =
    record {
      frees = λ s m there is.
          let was : free_write (calls_of (seen x) s) ≡ Some m = sym (ap (λ ms. free_write (filter (is_call_of s) ms)) (same ∙ h.calls)) ∙ is in
          let part = h.part.frees s m there (sym (ap (λ ms. free_write (filter (is_call_of s) ms)) same) ∙ is) in
          let before : IsSome (leaving_job y.setting y.past s) = subst (λ es. IsSome (leaving_job y.setting es s)) (sym h.before) (subst (λ st. IsSome (leaving_job st x.past s)) (sym h.setting) (freed s m (subst (λ ss. Contains ss s) h.sessions there) was)) in
          (leaving_goes_on y.setting (entry_of (add_reply j r y)) y.past s before, (part.1.0, ap (λ ms. filter (is_call_of s) ms) same ∙ part.1.1, part.1.2));
      before = λ s m n there is inside. h.part.before s m n there (sym (ap (λ ms. free_write (filter (is_call_of s) ms)) same) ∙ is) (subst (λ ms. Contains (filter (is_call_of s) ms) n) same inside);
      numbers = λ s there joined.
          subst (λ ms. (1 ≤ generation_in s (filter (is_call_of s) ms)) × IsTrue (is_number (generation_in s (filter (is_call_of s) ms))) × IsTrue (is_number (seq_in s (filter (is_call_of s) ms)))) (sym same) (h.part.numbers s there (joined_before s there joined));
      left = λ s k there joined leaves_s none.
          subst (λ ms. IsTrue (is_number (seq_in s (filter (is_call_of s) ms) + 1))) (sym same)
          (h.part.left s k there (joined_before s there joined) (reply_leaving y j r s k leaves_s) (sym (ap (λ ms. free_write (filter (is_call_of s) ms)) same) ∙ none));
    } where
      same : submitted (seen (add_reply j r y)) ≡ submitted (seen y)
      same = calls_stay y j r (late_since_delta x y r h.before h.input may.0)

      joined_before : (s : Session) → Contains (sessions y.setting (seen y)) s → is_joined (seen (add_reply j r y)) s ≡ true → is_joined (seen y) s ≡ true
      joined_before s there is = reply_is_joined y j r s (reply_joins_none y j r s (by may.1) (joined_then (seen (add_reply j r y)) s is)) is where
        by : JoinsNone x j r → (s.job ≡ Some j → ⊥) ⊎ (is_join_done r ≡ false)
        by (inl no_join) = inr no_join
        by (inr no_one) = inl (λ its. no_one s (subst (λ ss. Contains ss s) h.sessions there) its)

pub since_move : (x y : Step) (m : Move) → DeltaSince x y → DeltaSince x (add_move m y)
since_move x y m h = record { part = move_delta y m h.part; setting = h.setting; before = h.before; input = h.input; sessions = h.sessions; calls = h.calls; joined = h.joined; leaving = h.leaving }

good_since : (x y : Step) (s : Session) (d : DeltaRec) → DeltaSince x y → calls_of (seen y) s ≡ calls_of (seen x) s → GoodDelta x s d → GoodDelta y s d
good_since x y s d h calls g = record { same = g.same ∙ ap (λ ms. generation_in s ms) (sym calls); seq = g.seq; left = λ k is. g.left k (h.leaving s k is) }

pub since_signal : (x y : Step) (q : ℕ) (signal : Signal) → DeltaSince x y → DeltaSince x (add_signal q signal y)
since_signal x y q signal h = record { part = record { frees = h.part.frees; before = h.part.before; numbers = h.part.numbers; left = h.part.left }; setting = h.setting; before = h.before; input = h.input; sessions = h.sessions; calls = h.calls; joined = h.joined; leaving = h.leaving }

pub since_start : (x y : Step) (k : Start) → DeltaSince x y → DeltaSince x (add_start k y)
since_start x y k h = record { part = record { frees = h.part.frees; before = h.part.before; numbers = h.part.numbers; left = h.part.left }; setting = h.setting; before = h.before; input = h.input; sessions = h.sessions; calls = h.calls; joined = h.joined; leaving = h.leaving }

pub delta_allows : (x : Step) → FreedBefore x → Allows (DeltaSince x) (λ y. DeltaPart y.setting (seen y)) (DeltaReply x) (DeltaCall x) AnyStart AnyMove
delta_allows x freed =
    record {
      ends = λ y e h. record { part = record { frees = h.part.frees; before = h.part.before; numbers = h.part.numbers; left = h.part.left }; setting = h.setting; before = h.before; input = h.input; sessions = h.sessions; calls = h.calls; joined = h.joined; leaving = h.leaving };
      signals = λ y q signal h. record { part = record { frees = h.part.frees; before = h.part.before; numbers = h.part.numbers; left = h.part.left }; setting = h.setting; before = h.before; input = h.input; sessions = h.sessions; calls = h.calls; joined = h.joined; leaving = h.leaving };
      moves = λ y m may h. since_move x y m h;
      grants = λ y g h. record { part = record { frees = h.part.frees; before = h.part.before; numbers = h.part.numbers; left = h.part.left }; setting = h.setting; before = h.before; input = h.input; sessions = h.sessions; calls = h.calls; joined = h.joined; leaving = h.leaving };
      starts = λ y k may h. record { part = record { frees = h.part.frees; before = h.part.before; numbers = h.part.numbers; left = h.part.left }; setting = h.setting; before = h.before; input = h.input; sessions = h.sessions; calls = h.calls; joined = h.joined; leaving = h.leaving };
      replies = λ y j r may h. record {
        part = reply_delta x y j r freed may h;
        setting = h.setting;
        before = h.before;
        input = h.input;
        sessions = h.sessions;
        calls = calls_stay y j r (late_since_delta x y r h.before h.input may.0) ∙ h.calls;
        joined = λ s is. let was = some_there (joined_after (seen y) s) (h.joined s is) in ap (λ o. is_some o) (reply_joins_more y j r s was.0 was.1);
        leaving = λ s k is. h.leaving s k (reply_leaving y j r s k is);
      };
      calls = λ y s path p o op may h.
          let calls : calls_of (seen y) s ≡ calls_of (seen x) s = ap (λ ms. filter (is_call_of s) ms) h.calls in
          call_delta y s path p o op (subst (λ ss. slice_get ss s.number ≡ Some s) (sym h.sessions) may.has) may.no_look may.no_free (ap (λ ms. free_write ms) calls ∙ may.unfreed)
          (λ d is joined. good_since x y s d h calls (may.delta d is)) h.part;
      rest = λ y h. h.part;
    }

pub delta_at : (x : Step) → DeltaPart x.setting (seen x) → DeltaSince x x
delta_at x h = record { part = h; setting = refl; before = refl; input = refl; sessions = refl; calls = refl; joined = λ s is. is; leaving = λ s k is. is }

-- ---- the input

mark_empty : (es : Trace) (e : Entry) (i : Input) (ms : List Submitted) → unanswered ms ≡ [] → unanswered (mark es e i ms) ≡ []
mark_empty es e i ms none =
    no_members (unanswered (mark es e i ms)) (λ m there.
    let open_one = kept_inside (λ (z : Submitted). is_none z.answer) (mark es e i ms) m there in
    let was : WasOpen ms m = was_marked es e i ms m open_one.0 in
    contains_none was.before (subst (λ ks. Contains ks was.before) none (kept (λ (z : Submitted). is_none z.answer) ms was.before (ap (λ o. is_none o) (was.unmet (none_is m.answer open_one.1))) was.inside)))

mark_cons : (es : Trace) (e : Entry) (i : Input) (m : Submitted) (ms : List Submitted) → (k : Submitted) × (mark es e i (m ∷ ms) ≡ k ∷ mark es e i ms) × SameCall k m
mark_cons es e (Told n a) m ms = (answered_in es e n a m, refl, same_answered es e n a m)
mark_cons es e i m ms = (m, refl, record { at = refl; reading = refl; call = refl })

mark_delta : (es : Trace) (e : Entry) (i : Input) (ms : List Submitted) → last_delta (mark es e i ms) ≡ last_delta ms
mark_delta es e (Told n a) [] = refl
mark_delta es e (Told n a) (m ∷ ms) =
    ap (λ (c : Call). elim (option_and_then delta_of_record (record_of c.op)) as (λ z. Option DeltaRec) [ Some d ↦ Some d | None ↦ last_delta (map (answered_in es e n a) ms) ]) (same_answered es e n a m).call
    ∙ ap (λ (o : Option DeltaRec). elim (delta_written m) as (λ z. Option DeltaRec) [ Some d ↦ Some d | None ↦ o ]) (mark_delta es e (Told n a) ms)
mark_delta es e i ms = refl

pub mark_free : (es : Trace) (e : Entry) (i : Input) (ms : List Submitted) → free_write ms ≡ None → free_write (mark es e i ms) ≡ None
mark_free es e (Told n a) ms none = find_mapped (λ (m : Submitted). is_free_purpose m.call.purpose) (answered_in es e n a) ms (λ m. ap (λ (c : Call). is_free_purpose c.purpose) (same_answered es e n a m).call) ∙ ap (λ o. option_map (answered_in es e n a) o) none
mark_free es e i ms none = none

was_free : (es : Trace) (e : Entry) (i : Input) (ms : List Submitted) (m : Submitted) → Contains ms m → is_free_purpose m.call.purpose ≡ true → free_write (mark es e i ms) ≡ None → ⊥
was_free es e (Told n a) ms m there is none =
    not_both (is_free_purpose m.call.purpose) is
    (ap (λ (c : Call). is_free_purpose c.purpose) (sym (same_answered es e n a m).call)
    ∙ find_fails (λ (z : Submitted). is_free_purpose z.call.purpose) (map (answered_in es e n a) ms) (answered_in es e n a m) none (contains_map (answered_in es e n a) ms m there))
was_free es e i ms m there is none = not_both (is_free_purpose m.call.purpose) is (find_fails (λ (z : Submitted). is_free_purpose z.call.purpose) ms m none there)

mark_before : (es : Trace) (e : Entry) (i : Input) (ms : List Submitted) (b m n : Submitted) → free_write ms ≡ Some b → is_free_purpose b.call.purpose ≡ true
    → ((k : Submitted) → Contains ms k → (k ≡ b) ⊎ ((a : Answered) × (k.answer ≡ Some a) × (a.at ≤ b.at))) → free_write (mark es e i ms) ≡ Some m → Contains (mark es e i ms) n → (n ≡ m) ⊎ ((a : Answered) × (n.answer ≡ Some a) × (a.at ≤ m.at))
mark_before es e (Told n0 ans) ms b m n was is all marked inside =
    let found : find (λ (z : Submitted). is_free_purpose z.call.purpose) (map (answered_in es e n0 ans) ms) ≡ Some (answered_in es e n0 ans b) =
    find_mapped (λ (z : Submitted). is_free_purpose z.call.purpose) (answered_in es e n0 ans) ms (λ z. ap (λ (c : Call). is_free_purpose c.purpose) (same_answered es e n0 ans z).call) ∙ ap (λ o. option_map (answered_in es e n0 ans) o) was
    in
    let same : answered_in es e n0 ans b ≡ m = one_value (answered_in es e n0 ans b) m (free_write (map (answered_in es e n0 ans) ms)) found marked in
    let k = in_map (answered_in es e n0 ans) ms n inside in by k.0 k.2 same (all k.0 k.1) where
      by : (k : Submitted) → answered_in es e n0 ans k ≡ n → answered_in es e n0 ans b ≡ m → (k ≡ b) ⊎ ((a : Answered) × (k.answer ≡ Some a) × (a.at ≤ b.at)) → (n ≡ m) ⊎ ((a : Answered) × (n.answer ≡ Some a) × (a.at ≤ m.at))
      by k of_k of_b (inl same) = inl (sym of_k ∙ (ap (λ z. answered_in es e n0 ans z) same ∙ of_b))
      by k of_k of_b (inr answered) =
          let kept_one : answered_in es e n0 ans k ≡ k = kept_by k answered.0 (answer_of es e ans k.call) (k.call.number == n0) answered.1 in
          let at : m.at ≡ b.at = ap (λ (z : Submitted). z.at) (sym of_b) ∙ (same_answered es e n0 ans b).at in
          inr (answered.0, ap (λ (z : Submitted). z.answer) (sym of_k ∙ kept_one) ∙ answered.1, subst (λ q. answered.0.at ≤ q) (sym at) answered.2)
mark_before es e i ms b m n was is all marked inside =
    let same : b ≡ m = one_value b m (free_write ms) was marked in subst (λ (z : Submitted). (n ≡ z) ⊎ ((a : Answered) × (n.answer ≡ Some a) × (a.at ≤ z.at))) same (all n inside)

-- Where the input makes no session leave.
pub input_delta : (x : Step) (i : Input) → x.input ≡ Wake → x.effects.calls ≡ [] → ((s : Session) (k : Job) → Contains (sessions x.setting (seen x)) s → is_joined (seen x) s ≡ true → leaving_job x.setting (seen (with_input i x)) s ≡ Some k → (leaving_job x.setting (seen x) s ≡ Some k) ⊎ (IsTrue (is_number (last_seq (seen x) s + 1))))
    → ((s : Session) (k : Job) → leaving_job x.setting (seen x) s ≡ Some k → IsSome (leaving_job x.setting (seen (with_input i x)) s)) → DeltaPart x.setting (seen x) → DeltaPart x.setting (seen (with_input i x))
input_delta x i wake bare leaves_so stays h =
    record {
      frees = λ s m there is. frees s m (old s there) is;
      before = λ s m n there is inside. before s m n (old s there) is inside;
      numbers = λ s there joined. subst (λ o. (1 ≤ option_map_or (λ (d : DeltaRec). d.generation) o (given_number s)) × IsTrue (is_number (option_map_or (λ (d : DeltaRec). d.generation) o (given_number s))) × IsTrue (is_number (option_map_or (λ (d : DeltaRec). d.seq) o (given_number s)))) (sym (last s)) (h.numbers s (old s there) joined);
      left = λ s k there joined leaves_s none. subst (λ o. IsTrue (is_number (option_map_or (λ (d : DeltaRec). d.seq) o (given_number s) + 1))) (sym (last s)) (left s k (old s there) joined none (leaves_so s k (old s there) joined leaves_s));
    } where
      e : Entry
      e = entry_of (with_input i x)

      old : (s : Session) → Contains (sessions x.setting (seen (with_input i x))) s → Contains (sessions x.setting (seen x)) s
      old s there = subst (λ ss. Contains ss s) (sessions_told x i bare) there

      calls : (s : Session) → calls_of (seen (with_input i x)) s ≡ mark x.past (entry_of (with_input i x)) i (calls_of (seen x) s)
      calls s = calls_of_told x i s wake bare

      last : (s : Session) → last_delta (calls_of (seen (with_input i x)) s) ≡ last_delta (calls_of (seen x) s)
      last s = ap (λ ms. last_delta ms) (calls s) ∙ mark_delta x.past (entry_of (with_input i x)) i (calls_of (seen x) s)

      unfreed : (s : Session) → free_write (calls_of (seen (with_input i x)) s) ≡ None → (o : Option Submitted) → free_write (calls_of (seen x) s) ≡ o → free_write (calls_of (seen x) s) ≡ None
      unfreed s none None is = is
      unfreed s none (Some m) is =
          let part = find_inside (λ (z : Submitted). is_free_purpose z.call.purpose) (calls_of (seen x) s) m is in absurd (was_free x.past (entry_of (with_input i x)) i (calls_of (seen x) s) m part.0 part.1 (sym (ap (λ ms. free_write ms) (calls s)) ∙ none))

      left : (s : Session) (k : Job) → Contains (sessions x.setting (seen x)) s → is_joined (seen x) s ≡ true → free_write (calls_of (seen (with_input i x)) s) ≡ None → (leaving_job x.setting (seen x) s ≡ Some k) ⊎ (IsTrue (is_number (last_seq (seen x) s + 1)))
          → IsTrue (is_number (last_seq (seen x) s + 1))
      left s k there joined none (inr is) = is
      left s k there joined none (inl leaves_s) = h.left s k there joined leaves_s (unfreed s none (free_write (calls_of (seen x) s)) refl)

      frees : (s : Session) (m : Submitted) → Contains (sessions x.setting (seen x)) s → free_write (calls_of (seen (with_input i x)) s) ≡ Some m
          → IsSome (leaving_job x.setting (seen (with_input i x)) s) × ((ms : List Submitted) × (calls_of (seen (with_input i x)) s ≡ m ∷ ms) × (unanswered ms ≡ []))
      frees s m there is = by (free_write (calls_of (seen x) s)) refl where
        by : (o : Option Submitted) → free_write (calls_of (seen x) s) ≡ o
            → IsSome (leaving_job x.setting (seen (with_input i x)) s) × ((ms : List Submitted) × (calls_of (seen (with_input i x)) s ≡ m ∷ ms) × (unanswered ms ≡ []))
        by None none = absurd (none_some m (sym (ap (λ ms. free_write ms) (calls s) ∙ mark_free x.past (entry_of (with_input i x)) i (calls_of (seen x) s) none) ∙ is))
        by (Some b) was =
            let part = h.frees s b there was in
            let k = some_of (leaving_job x.setting (seen x) s) part.0 in
            let cons = mark_cons x.past (entry_of (with_input i x)) i b part.1.0 in
            let grown : calls_of (seen (with_input i x)) s ≡ cons.0 ∷ mark x.past (entry_of (with_input i x)) i part.1.0 = calls s ∙ (ap (λ ms. mark x.past (entry_of (with_input i x)) i ms) part.1.1 ∙ cons.1) in
            let free_one = find_inside (λ (z : Submitted). is_free_purpose z.call.purpose) (calls_of (seen x) s) b was in
            let first : free_write (calls_of (seen (with_input i x)) s) ≡ Some cons.0 =
            ap (λ ms. free_write ms) grown ∙ ap (λ q. cond q (Some cons.0) (free_write (mark x.past (entry_of (with_input i x)) i part.1.0))) (ap (λ (c : Call). is_free_purpose c.purpose) cons.2.call ∙ free_one.1)
            in
            let same : cons.0 ≡ m = one_value cons.0 m (free_write (calls_of (seen (with_input i x)) s)) first is in
            (stays s k.0 k.1, (mark x.past (entry_of (with_input i x)) i part.1.0, grown ∙ ap (λ q. q ∷ mark x.past (entry_of (with_input i x)) i part.1.0) same, mark_empty x.past (entry_of (with_input i x)) i part.1.0 part.1.2))

      before : (s : Session) (m n : Submitted) → Contains (sessions x.setting (seen x)) s → free_write (calls_of (seen (with_input i x)) s) ≡ Some m → Contains (calls_of (seen (with_input i x)) s) n → (n ≡ m) ⊎ ((a : Answered) × (n.answer ≡ Some a) × (a.at ≤ m.at))
      before s m n there is inside = by (free_write (calls_of (seen x) s)) refl where
        by : (o : Option Submitted) → free_write (calls_of (seen x) s) ≡ o → (n ≡ m) ⊎ ((a : Answered) × (n.answer ≡ Some a) × (a.at ≤ m.at))
        by None none = absurd (none_some m (sym (ap (λ ms. free_write ms) (calls s) ∙ mark_free x.past (entry_of (with_input i x)) i (calls_of (seen x) s) none) ∙ is))
        by (Some b) was =
            let marked : free_write (mark x.past (entry_of (with_input i x)) i (calls_of (seen x) s)) ≡ Some m = sym (ap (λ ms. free_write ms) (calls s)) ∙ is in
            let free_one = find_inside (λ (z : Submitted). is_free_purpose z.call.purpose) (calls_of (seen x) s) b was in
            mark_before x.past (entry_of (with_input i x)) i (calls_of (seen x) s) b m n was free_one.1 (λ k there_k. h.before s b k there was there_k) marked (subst (λ ms. Contains ms n) (calls s) inside)
