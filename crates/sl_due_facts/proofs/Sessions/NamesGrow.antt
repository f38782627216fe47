-- What is known of names and joinings is kept by each allowed effect and by the input.
use Rattle.sl_due_facts.specs.Acts.Acts.{Has}
use Rattle.sl_due_facts.specs.Acts.TraceSoFar.{entry_of}
use Rattle.sl_due.specs.IdleJobs.{is_waiting_step}
use Rattle.sl_due.specs.Steps.{Step, add_call_of, add_move, add_reply, seen, with_input}
use Rattle.sl_due_facts.proofs.Jobs.CallsHaveFacts.{calls_before, calls_told, sessions_told}
use Rattle.sl_due_facts.proofs.Jobs.CallsStay.{IsLate, calls_stay}
use Rattle.sl_due_facts.proofs.Jobs.SessionsArePresent.{present_inside, present_is, session_has}
use Rattle.sl_due_facts.proofs.Jobs.SessionsStand.{running_before}
use Rattle.sl_due_facts.proofs.AddedEffects.CallsGrow.{mine_more, others_stay, same_sessions}
use Rattle.sl_words.proofs.Lists.{any_found, any_of, contains_cases, contains_first, contains_none, head_is, in_map, kept, kept_inside}
use Rattle.sl_words.proofs.Options.{none_is}
use Rattle.sl_due_facts.proofs.Sessions.NameEffects.{call_present, move_present, present_by, reply_present}
use Rattle.sl_due_facts.specs.Sessions.SessionLaws.{HasNameFacts}
use Rattle.sl_trace.specs.Sessions.{calls_of, has_open_write, is_call_of, is_join_call, is_present, joined_after, present_sessions, refused_after, removed_after, session_numbered, sessions}
use Rattle.sl_trace.specs.declared.session.Session.{Session}
use Rattle.sl_due_facts.specs.Facts.HeardCall.{heard_by}
use Rattle.sl_due_facts.specs.Facts.SessionFacts.{NameFacts}
use Rattle.sl_trace.specs.Traces.{Answered, Submitted, Trace, answer_of, answered_in, is_ok_answer, is_running, is_write, mark, new_call, next_call, submitted, unanswered}
use Rattle.sl_trace.specs.declared.effects.Call.{Call}
use Rattle.sl_trace.specs.declared.effects.Entry.{Entry}
use Rattle.sl_trace.specs.declared.effects.JoinStep.TheVariants.{FirstRead}
use Rattle.sl_trace.specs.declared.effects.Move.{Move}
use Rattle.sl_trace.specs.declared.effects.Op.{Op}
use Rattle.sl_trace.specs.declared.effects.Purpose.{Purpose}
use Rattle.sl_trace.specs.declared.input.Answer.{Answer}
use Rattle.sl_trace.specs.declared.input.Input.{Input}
use Rattle.sl_trace.specs.declared.input.Input.TheVariants.{Answer as Told, Exit, Line, Number, Spawned, Wake}
use Rattle.sl_trace.specs.declared.reply.Reply.{Reply}
use Rattle.sl_run_law.proofs.Sessions.CallsAreMade.{WasOpen, same_answered, was_marked}
use Rattle.sl_words.proofs.CaseLaws.{false_is_true, none_some, one_value, true_is_false}
use Rattle.sl_words.specs.Words.{is_empty}
use Rattle.std.proofs.Common.{ap, inl, inr, refl, subst, sym, ◌∙◌}
use Rattle.std.proofs.lemmas.Bool.{eqb-true}
use Rattle.std.specs.List.{list_any}
use Rattle.std.specs.Option.{option_or}
use Rattle.std.specs.Prelude.{Bool, Contains, IsTrue, List, None, Option, Some, [], false, filter, if◌then◌else◌, is_none, is_some, length, map, true, ℕ, ◌&&◌, ◌==◌, ◌||◌, ◌∷◌, ◌≡◌, ◌⊎◌}

-- ---- effects

pub move_names : (heard : Option ℕ) (y : Step) (m : Move) → NameFacts y.setting (seen y) heard → NameFacts y.setting (seen (add_move m y)) heard
move_names heard y m h =
    record {
      apart = λ a b first second same. h.apart a b (before a first) (before b second) same;
      begun = h.begun;
      done = h.done;
      waits = h.waits;
    } where
      before : (s : Session) → Contains (present_sessions y.setting (seen (add_move m y))) s → Contains (present_sessions y.setting (seen y)) s
      before s there = let is = present_is y.setting (seen (add_move m y)) s there in present_inside y.setting (seen y) s is.0 (move_present y m s is.1)

pub reply_names : (heard : Option ℕ) (y : Step) (j : ℕ) (r : Reply) → IsLate y r → NameFacts y.setting (seen y) heard → NameFacts y.setting (seen (add_reply j r y)) heard
reply_names heard y j r may h =
    record {
      apart = λ a b first second same. h.apart a b (before a first) (before b second) same;
      begun = λ s i there its. ap (λ ms. is_empty (filter (is_call_of s) ms)) calls ∙ h.begun s i there its;
      done = λ s i m a there its runs inside is other. h.done s i m a there its (running_before y j r i runs) (subst (λ ms. Contains (filter (is_call_of s) ms) m) calls inside) is other;
      waits = λ s i m ms there its runs are answered other. h.waits s i m ms there its (running_before y j r i runs) (sym (ap (λ ks. filter (is_call_of s) ks) calls) ∙ are) answered other;
    } where
      calls : submitted (seen (add_reply j r y)) ≡ submitted (seen y)
      calls = calls_stay y j r may

      before : (s : Session) → Contains (present_sessions y.setting (seen (add_reply j r y))) s → Contains (present_sessions y.setting (seen y)) s
      before s there = let is = present_is y.setting (seen (add_reply j r y)) s there in present_inside y.setting (seen y) s is.0 (reply_present y j r s (calls_stay y j r may) is.1)

-- A call of a session that was not refused.
pub call_names : (heard : Option ℕ) (y : Step) (s : Session) (path : List ℕ) (p : Purpose) (o : ℕ) (op : Op) → Has y s → is_join_call FirstRead p ≡ false → refused_after (seen y) s ≡ None → NameFacts y.setting (seen y) heard
    → NameFacts y.setting (seen (add_call_of s.number path p o op y)) heard
call_names heard y s path p o op has no_look unrefused h =
    record {
      apart = λ a b first second same. h.apart a b (before a first) (before b second) same;
      begun = λ z i there its. begun z i (old z there) its;
      done = λ z i m a there its runs inside is other. done z i m a (old z there) its runs inside is other;
      waits = λ z i m ms there its runs are answered other. waits z i m ms (old z there) its runs are answered other;
    } where
      made : Call
      made = record { number = next_call y.setting (seen y); session = s.number; purpose = p; path = path; offset = o; op = op }

      old : (z : Session) → Contains (sessions y.setting (seen (add_call_of s.number path p o op y))) z → Contains (sessions y.setting (seen y)) z
      old z there = subst (λ ss. Contains ss z) (same_sessions y.setting (entry_of y) y.past made no_look) there

      its_own : (z : Session) → Contains (sessions y.setting (seen y)) z → z.number ≡ s.number → refused_after (seen y) z ≡ None
      its_own z there same =
          let one : z ≡ s = one_value z s (session_numbered y.setting (seen y) s.number) (subst (λ n. session_numbered y.setting (seen y) n ≡ Some z) same (session_has y.setting (seen y) z there)) has in
          ap (λ q. refused_after (seen y) q) one ∙ unrefused

      before : (z : Session) → Contains (present_sessions y.setting (seen (add_call_of s.number path p o op y))) z → Contains (present_sessions y.setting (seen y)) z
      before z there =
          let is = present_is y.setting (seen (add_call_of s.number path p o op y)) z there in
          let was : Contains (sessions y.setting (seen y)) z = old z is.0 in present_inside y.setting (seen y) z was (call_present y s path p o op z (λ same. its_own z was same) is.1)

      new : Submitted
      new = new_call (length y.past) y.reading made

      calls_by : (z : Session) → (b : Bool) → (s.number == z.number) ≡ b → (calls_of (seen (add_call_of s.number path p o op y)) z ≡ new ∷ calls_of (seen y) z) ⊎ (calls_of (seen (add_call_of s.number path p o op y)) z ≡ calls_of (seen y) z)
      calls_by z true is = inl (mine_more (entry_of y) y.past made z is)
      calls_by z false is = inr (others_stay (entry_of y) y.past made z is)

      begun : (z : Session) (i : ℕ) → Contains (sessions y.setting (seen y)) z → z.job ≡ Some i → is_empty (calls_of (seen (add_call_of s.number path p o op y)) z) ≡ false
      begun z i there its = by (calls_by z (s.number == z.number) refl) where
        by : (calls_of (seen (add_call_of s.number path p o op y)) z ≡ new ∷ calls_of (seen y) z) ⊎ (calls_of (seen (add_call_of s.number path p o op y)) z ≡ calls_of (seen y) z) → is_empty (calls_of (seen (add_call_of s.number path p o op y)) z) ≡ false
        by (inl more) = ap (λ ms. is_empty ms) more
        by (inr same) = ap (λ ms. is_empty ms) same ∙ h.begun z i there its

      done : (z : Session) (i : ℕ) (m : Submitted) (a : Answered) → Contains (sessions y.setting (seen y)) z → z.job ≡ Some i → is_running (seen y) i ≡ true → Contains (calls_of (seen (add_call_of s.number path p o op y)) z) m → m.answer ≡ Some a
          → (heard ≡ Some m.call.number → ⊥) → IsTrue (is_ok_answer a.answer)
      done z i m a there its runs inside is other = by (calls_by z (s.number == z.number) refl) where
        was : (new ≡ m) ⊎ Contains (calls_of (seen y) z) m → IsTrue (is_ok_answer a.answer)
        was (inl new_one) = absurd (none_some a (ap (λ (k : Submitted). k.answer) new_one ∙ is))
        was (inr there_before) = h.done z i m a there its runs there_before is other

        by : (calls_of (seen (add_call_of s.number path p o op y)) z ≡ new ∷ calls_of (seen y) z) ⊎ (calls_of (seen (add_call_of s.number path p o op y)) z ≡ calls_of (seen y) z) → IsTrue (is_ok_answer a.answer)
        by (inl more) = was (contains_cases new (calls_of (seen y) z) m (subst (λ ms. Contains ms m) more inside))
        by (inr same) = h.done z i m a there its runs (subst (λ ms. Contains ms m) same inside) is other

      waits : (z : Session) (i : ℕ) (m : Submitted) (ms : List Submitted) → Contains (sessions y.setting (seen y)) z → z.job ≡ Some i → is_running (seen y) i ≡ true → calls_of (seen (add_call_of s.number path p o op y)) z ≡ m ∷ ms
          → is_some m.answer ≡ true → (heard ≡ Some m.call.number → ⊥) → IsTrue (is_waiting_step m.call.purpose)
      waits z i m ms there its runs are answered other = by (calls_by z (s.number == z.number) refl) where
        by : (calls_of (seen (add_call_of s.number path p o op y)) z ≡ new ∷ calls_of (seen y) z) ⊎ (calls_of (seen (add_call_of s.number path p o op y)) z ≡ calls_of (seen y) z) → IsTrue (is_waiting_step m.call.purpose)
        by (inl more) =
            let first : new ≡ m = head_is new m (calls_of (seen y) z) ms (sym more ∙ are) in absurd (false_is_true (ap (λ (k : Submitted). is_some k.answer) first ∙ answered))
        by (inr same) = h.waits z i m ms there its runs (sym same ∙ are) answered other

-- ---- the input

write_before : (ms : List Submitted) (es : Trace) (e : Entry) (n : ℕ) (a : Answer) → list_any (λ (m : Submitted). is_write m.call.op) (unanswered (map (answered_in es e n a) ms)) ≡ true → list_any (λ (m : Submitted). is_write m.call.op) (unanswered ms) ≡ true
write_before ms es e n a is =
    let found = any_found (λ (m : Submitted). is_write m.call.op) (unanswered (map (answered_in es e n a) ms)) is in
    let open_one = kept_inside (λ (m : Submitted). is_none m.answer) (map (answered_in es e n a) ms) found.0 found.1 in
    let was : WasOpen ms found.0 = was_marked es e (Told n a) ms found.0 open_one.0 in
    any_of (λ (m : Submitted). is_write m.call.op) (unanswered ms) was.before (ap (λ (c : Call). is_write c.op) (sym was.same.call) ∙ found.2)
    (kept (λ (m : Submitted). is_none m.answer) ms was.before (ap (λ o. is_none o) (was.unmet (none_is found.0.answer open_one.1))) was.inside)

pub mark_filter : (es : Trace) (e : Entry) (i : Input) (s : Session) (ms : List Submitted) → filter (is_call_of s) (mark es e i ms) ≡ mark es e i (filter (is_call_of s) ms)
mark_filter es e (Told n a) s [] = refl
mark_filter es e (Told n a) s (m ∷ ms) = by (is_call_of s m) refl (mark_filter es e (Told n a) s ms) where
  same : is_call_of s (answered_in es e n a m) ≡ is_call_of s m
  same = ap (λ (c : Call). c.session == s.number) (same_answered es e n a m).call

  by : (b : Bool) → is_call_of s m ≡ b → filter (is_call_of s) (map (answered_in es e n a) ms) ≡ map (answered_in es e n a) (filter (is_call_of s) ms)
      → (if is_call_of s (answered_in es e n a m) then answered_in es e n a m ∷ filter (is_call_of s) (map (answered_in es e n a) ms) else filter (is_call_of s) (map (answered_in es e n a) ms))
      ≡ map (answered_in es e n a) (if is_call_of s m then m ∷ filter (is_call_of s) ms else filter (is_call_of s) ms)
  by b is rest =
      ap (λ c. if c then answered_in es e n a m ∷ filter (is_call_of s) (map (answered_in es e n a) ms) else filter (is_call_of s) (map (answered_in es e n a) ms)) (same ∙ is)
      ∙ (either b rest ∙ ap (λ c. map (answered_in es e n a) (if c then m ∷ filter (is_call_of s) ms else filter (is_call_of s) ms)) (sym is)) where
        either : (c : Bool) → filter (is_call_of s) (map (answered_in es e n a) ms) ≡ map (answered_in es e n a) (filter (is_call_of s) ms)
            → (if c then answered_in es e n a m ∷ filter (is_call_of s) (map (answered_in es e n a) ms) else filter (is_call_of s) (map (answered_in es e n a) ms))
            ≡ map (answered_in es e n a) (if c then m ∷ filter (is_call_of s) ms else filter (is_call_of s) ms)
        either true r = ap (λ ks. answered_in es e n a m ∷ ks) r
        either false r = r
mark_filter es e i s ms = refl

-- A session's calls, once the input is seen.
pub calls_of_told : (x : Step) (i : Input) (s : Session) → x.input ≡ Wake → x.effects.calls ≡ [] → calls_of (seen (with_input i x)) s ≡ mark x.past (entry_of (with_input i x)) i (calls_of (seen x) s)
calls_of_told x i s wake bare =
    ap (λ ms. filter (is_call_of s) ms) (calls_told x i bare)
    ∙ (mark_filter x.past (entry_of (with_input i x)) i s (submitted x.past) ∙ ap (λ ms. mark x.past (entry_of (with_input i x)) i (filter (is_call_of s) ms)) (sym (calls_before x wake bare)))

-- What an input leaves unanswered or unheard is as it was.
unheard : (es : Trace) (e : Entry) (n : ℕ) (a : Answer) (m : Submitted) → (Some n ≡ Some (answered_in es e n a m).call.number → ⊥) → answered_in es e n a m ≡ m
unheard es e n a m other = by (m.call.number == n) refl where
  by : (b : Bool) → (m.call.number == n) ≡ b → (elim b as (λ z. Submitted) [ false ↦ m | true ↦ record m { answer = option_or m.answer (Some (answer_of es e a m.call)) } ]) ≡ m
  by false is = refl
  by true is = absurd (other (ap (λ k. Some k) (sym (eqb-true m.call.number n is) ∙ ap (λ (c : Call). c.number) (sym (same_answered es e n a m).call))))

pub unheard_inside : (es : Trace) (e : Entry) (i : Input) (ms : List Submitted) (m : Submitted) → Contains (mark es e i ms) m → (heard_by i ≡ Some m.call.number → ⊥) → Contains ms m
unheard_inside es e (Told n a) ms m there other =
    let was = in_map (answered_in es e n a) ms m there in
    let same : answered_in es e n a was.0 ≡ was.0 = unheard es e n a was.0 (λ is. other (is ∙ ap (λ (k : Submitted). Some k.call.number) was.2)) in
    subst (λ k. Contains ms k) (sym same ∙ was.2) was.1
unheard_inside es e i ms m there other = there

unheard_head : (es : Trace) (e : Entry) (i : Input) (ks : List Submitted) (m : Submitted) (ms : List Submitted) → mark es e i ks ≡ m ∷ ms → (heard_by i ≡ Some m.call.number → ⊥) → (rest : List Submitted) × (ks ≡ m ∷ rest)
unheard_head es e (Told n a) [] m ms are other = absurd (contains_none m (subst (λ ks. Contains ks m) (sym are) (contains_first m ms)))
unheard_head es e (Told n a) (k ∷ ks) m ms are other =
    let first : answered_in es e n a k ≡ m = head_is (answered_in es e n a k) m (map (answered_in es e n a) ks) ms are in
    let same : answered_in es e n a k ≡ k = unheard es e n a k (λ is. other (is ∙ ap (λ (q : Submitted). Some q.call.number) first)) in
    (ks, ap (λ q. q ∷ ks) (sym same ∙ first))
unheard_head es e i ks m ms are other = (ms, are)

pub write_then : (x : Step) (i : Input) (s : Session) → x.input ≡ Wake → x.effects.calls ≡ [] → has_open_write (seen (with_input i x)) s ≡ true → has_open_write (seen x) s ≡ true
write_then x i s wake bare is = by i (calls_of_told x i s wake bare) where
  by : (k : Input) → calls_of (seen (with_input i x)) s ≡ mark x.past (entry_of (with_input i x)) k (calls_of (seen x) s) → has_open_write (seen x) s ≡ true
  by (Told n a) are = write_before (calls_of (seen x) s) x.past (entry_of (with_input i x)) n a (subst (λ ms. list_any (λ (m : Submitted). is_write m.call.op) (unanswered ms) ≡ true) are is)
  by (Line text) are = subst (λ ms. list_any (λ (m : Submitted). is_write m.call.op) (unanswered ms) ≡ true) are is
  by (Number text) are = subst (λ ms. list_any (λ (m : Submitted). is_write m.call.op) (unanswered ms) ≡ true) are is
  by Wake are = subst (λ ms. list_any (λ (m : Submitted). is_write m.call.op) (unanswered ms) ≡ true) are is
  by (Exit p) are = subst (λ ms. list_any (λ (m : Submitted). is_write m.call.op) (unanswered ms) ≡ true) are is
  by (Spawned p ok) are = subst (λ ms. list_any (λ (m : Submitted). is_write m.call.op) (unanswered ms) ≡ true) are is

-- No session becomes present.
pub input_present : (x : Step) (i : Input) (s : Session) → x.input ≡ Wake → x.effects.calls ≡ [] → is_present (seen (with_input i x)) s ≡ true → is_present (seen x) s ≡ true
input_present x i s wake bare is = by (has_open_write (seen (with_input i x)) s) refl where
  by : (b : Bool) → has_open_write (seen (with_input i x)) s ≡ b → is_present (seen x) s ≡ true
  by true writes =
      ap (λ b. present_by (joined_after (seen x) s) (removed_after (seen x) s) (refused_after (seen x) s) b) (write_then x i s wake bare writes)
      ∙ (ap (λ b. present_by (joined_after (seen x) s) (removed_after (seen x) s) (refused_after (seen x) s) b) (sym writes) ∙ is)
  by false none = more (is_none (elim (joined_after (seen x) s) as (λ z. Option ℕ) [ Some k ↦ removed_after (seen x) s | None ↦ refused_after (seen x) s ])) (is_none (joined_after (seen x) s)) (has_open_write (seen x) s)
      (ap (λ b. present_by (joined_after (seen x) s) (removed_after (seen x) s) (refused_after (seen x) s) b) (sym none) ∙ is) where
        more : (a b c : Bool) → (a || b && false) ≡ true → (a || b && c) ≡ true
        more true b c h = refl
        more false true c h = absurd (false_is_true h)
        more false false c h = absurd (false_is_true h)

pub input_names : (x : Step) (i : Input) → x.input ≡ Wake → x.effects.calls ≡ [] → HasNameFacts x → HasNameFacts (with_input i x)
input_names x i wake bare g =
    record {
      apart = λ a b first second same. h.apart a b (before a first) (before b second) same;
      begun = λ s j there its. not_empty (calls_of (seen x) s) (calls_of (seen (with_input i x)) s) (calls_of_told x i s wake bare) (h.begun s j (old s there) its);
      done = λ s j m a there its runs inside is other.
          h.done s j m a (old s there) its runs (unheard_inside x.past (entry_of (with_input i x)) i (calls_of (seen x) s) m (subst (λ ms. Contains ms m) (calls_of_told x i s wake bare) inside) other) is (λ none. none_some m.call.number none);
      waits = λ s j m ms there its runs are answered other.
          let was = unheard_head x.past (entry_of (with_input i x)) i (calls_of (seen x) s) m ms (sym (calls_of_told x i s wake bare) ∙ are) other in
          h.waits s j m was.0 (old s there) its runs was.1 answered (λ none. none_some m.call.number none);
    } where
      h : NameFacts x.setting (seen x) None
      h = subst (λ k. NameFacts x.setting (seen x) (heard_by k)) wake g

      old : (s : Session) → Contains (sessions x.setting (seen (with_input i x))) s → Contains (sessions x.setting (seen x)) s
      old s there = subst (λ ss. Contains ss s) (sessions_told x i bare) there

      before : (s : Session) → Contains (present_sessions x.setting (seen (with_input i x))) s → Contains (present_sessions x.setting (seen x)) s
      before s there = let is = present_is x.setting (seen (with_input i x)) s there in present_inside x.setting (seen x) s (old s is.0) (input_present x i s wake bare is.1)

      not_empty : (ks ms : List Submitted) → ms ≡ mark x.past (entry_of (with_input i x)) i ks → is_empty ks ≡ false → is_empty ms ≡ false
      not_empty [] ms are some_one = absurd (true_is_false some_one)
      not_empty (k ∷ ks) ms are some_one = ap (λ qs. is_empty qs) are ∙ by i where
        by : (q : Input) → is_empty (mark x.past (entry_of (with_input i x)) q (k ∷ ks)) ≡ false
        by (Told n a) = refl
        by (Line text) = refl
        by (Number text) = refl
        by Wake = refl
        by (Exit p) = refl
        by (Spawned p ok) = refl
