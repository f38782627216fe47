-- What a joining has read is kept by each act, and holds once a step has begun.
use Rattle.sl_due_facts.proofs.Acts.AddedAtEnd.{contains_last}
use Rattle.sl_due_facts.proofs.Acts.LoopsKeep.{for_each_keeps, when_keeps}
use Rattle.sl_due_facts.specs.Acts.Acts.{Acts}
use Rattle.sl_due_facts.specs.Acts.TraceSoFar.{entry_of}
use Rattle.sl_area.specs.AreaSizes.{record_in}
use Rattle.sl_area.specs.AreaLayout.{delta_offset}
use Rattle.sl_due.specs.DueCommands.{carry_decision, decided}
use Rattle.sl_due.specs.DueRecovery.{begin_recoveries, begin_recovery, begins_now, signal_and_refuse}
use Rattle.sl_due.specs.Steps.{Step, add_call_of, add_end, add_grant, add_move, add_reply, add_signal, add_start, begin_step, seen, with_input}
use Rattle.sl_due.specs.declared.decision.Decision.TheVariants.{ConvertsTo, GetsValue, GivesUp, Joins, Leaves, ReadsArea, Replies, Requests, SetsValue, Shares, TakesOver}
use Rattle.sl_due.specs.declared.decision.Decision.{Decision}
use Rattle.sl_due_facts.proofs.Jobs.CallsHaveFacts.{input_kept, sessions_told}
use Rattle.sl_due_facts.proofs.Jobs.DecisionsFit.{DecisionFits, decisions_fit}
use Rattle.sl_due_facts.proofs.Jobs.EffectsAreAllowed.{Allows, DecisionAllowed, decision, stopped}
use Rattle.sl_due_facts.proofs.Jobs.JobFactsAreKept.{begun_sessions}
use Rattle.sl_due_facts.proofs.Jobs.JobFactsBegin.{running_then, sessions_then}
use Rattle.sl_due_facts.proofs.Jobs.LinesAreAllowed.{IsBegun}
use Rattle.sl_due_facts.proofs.Jobs.NearlyPlainActs.{AnyMove, AnyStart, Anything, NoLook, decision_plain, nearly_acts}
use Rattle.sl_due_facts.proofs.Jobs.SessionsStand.{running_before}
use Rattle.sl_due_facts.specs.Jobs.JobLaws.{HasCallFacts}
use Rattle.sl_due_facts.proofs.AddedEffects.CallsGrow.{same_sessions}
use Rattle.sl_words.proofs.Lists.{contains_cases, contains_first, contains_map, contains_more, in_map, kept, kept_inside}
use Rattle.sl_words.proofs.Options.{some_of}
use Rattle.sl_sector.specs.SectorLayouts.{delta_in}
use Rattle.sl_sector.specs.declared.sector.DeltaRec.{DeltaRec}
use Rattle.sl_due_facts.proofs.Sessions.NamesGrow.{calls_of_told, unheard_inside}
use Rattle.sl_trace.specs.Sessions.{calls_of, is_call_of, is_join_call, joining_session, present_sessions, recovery_of, session_numbered, sessions}
use Rattle.sl_trace.specs.declared.session.Session.{Session}
use Rattle.sl_due_facts.specs.Facts.HeardCall.{heard_by}
use Rattle.sl_due_facts.specs.Facts.AllFacts.{Whole}
use Rattle.sl_trace.proofs.TraceFacts.{submitted-push}
use Rattle.sl_trace.specs.Traces.{Answered, Setting, Submitted, Trace, answer_of, answered_in, gave, is_running, mark, new_call, next_call, next_job, submitted}
use Rattle.sl_trace.specs.declared.command.Command.{Command}
use Rattle.sl_trace.specs.declared.command.LockspaceArg.{LockspaceArg}
use Rattle.sl_trace.specs.declared.effects.Call.{Call}
use Rattle.sl_trace.specs.declared.effects.JoinStep.TheVariants.{FirstRead, WatchRead}
use Rattle.sl_trace.specs.declared.effects.JoinStep.{JoinStep}
use Rattle.sl_trace.specs.declared.effects.Op.TheVariants.{ReadSectors}
use Rattle.sl_trace.specs.declared.effects.Op.{Op}
use Rattle.sl_trace.specs.declared.effects.Purpose.TheVariants.{Joining}
use Rattle.sl_trace.specs.declared.effects.Purpose.{Purpose}
use Rattle.sl_trace.specs.declared.input.Answer.{Answer}
use Rattle.sl_trace.specs.declared.input.Input.TheVariants.{Answer as Told, Exit, Line, Number, Spawned, Wake}
use Rattle.sl_trace.specs.declared.input.Input.{Input}
use Rattle.sl_trace.specs.declared.reply.Reply.TheVariants.{BadCommand as Misread}
use Rattle.sl_trace.specs.declared.reply.Reply.{Reply}
use Rattle.sl_words.proofs.CaseLaws.{none_some}
use Rattle.std.proofs.Common.{ap, arith, inl, inr, refl, subst, sym, ◌∙◌}
use Rattle.std.proofs.lemmas.Bool.{eqb-true}
use Rattle.std.proofs.lemmas.Option.{slice_get_within}
use Rattle.std.specs.Option.{option_or}
use Rattle.std.specs.Prelude.{Bool, Contains, List, None, Ok, Option, Some, [], false, fold, length, true, ℕ, ◌++◌, ◌<◌, ◌==◌, ◌∷◌, ◌≡◌, ◌⊎◌}
use Rattle.sl_due_facts.specs.Connections.WatchFacts.{HasRead, HasWatchFacts, WatchFacts}

-- ---- what an act leaves of sessions, jobs and answered calls

pub record Elder (st : Setting) (t u : Trace) (heard after : Option ℕ) : Type 0 where
  pub all : (s : Session) → Contains (sessions st u) s → Contains (sessions st t) s
  pub running : (n : ℕ) → is_running u n ≡ true → is_running t n ≡ true
  -- a call that has given something, and waits for nothing, was there and had given that
  pub calls : (s : Session) (m : Submitted) (bytes : List ℕ) → Contains (sessions st t) s → Contains (calls_of u s) m → gave m ≡ Some bytes → (after ≡ Some m.call.number → ⊥)
      → (k : Submitted) × Contains (calls_of t s) k × (k.call ≡ m.call) × (gave k ≡ Some bytes) × (heard ≡ Some k.call.number → ⊥)

read_then : (st : Setting) (t u : Trace) (heard after : Option ℕ) (s : Session) (step : JoinStep) (m : Submitted) (bytes : List ℕ) → Elder st t u heard after → HasRead st u after s step m bytes → (k : Submitted) × HasRead st t heard s step k bytes
read_then st t u heard after s step m bytes e h =
    let old = e.all s h.session in
    let k = e.calls s m bytes old h.inside h.given h.done in
    (k.0, record { job = h.job; session = old; its = h.its; runs = e.running h.job h.runs; inside = k.1; for = ap (λ (c : Call). is_join_call step c.purpose) k.2 ∙ h.for; given = k.3; done = k.4 })

pub watches_kept : (st : Setting) (t u : Trace) (heard after : Option ℕ) → Elder st t u heard after → WatchFacts st t heard → WatchFacts st u after
watches_kept st t u heard after e h =
    record {
      first = λ s m bytes r. let k = read_then st t u heard after s FirstRead m bytes e r in h.first s k.0 bytes k.1;
      same = λ s f m first bytes r q.
          let k = read_then st t u heard after s FirstRead f first e r in let l = read_then st t u heard after s WatchRead m bytes e q in h.same s k.0 l.0 first bytes k.1 l.1;
    }

-- ---- a reply, whenever it comes

reply_heeds : (x : Step) (j : ℕ) (r : Reply) (m : Submitted) → Contains (submitted (seen (add_reply j r x))) m → (k : Submitted) × Contains (submitted (seen x)) k × (k.call ≡ m.call) × (gave k ≡ gave m)
reply_heeds x j r m there = by x.effects.calls (mark x.past (entry_of (add_reply j r x)) x.input (submitted x.past)) (mark x.past (entry_of x) x.input (submitted x.past)) marked there where
  Twin : List Submitted → List Submitted → Type 0
  Twin ms ks = (d : Submitted) → Contains ms d → (k : Submitted) × Contains ks k × (k.call ≡ d.call) × (gave k ≡ gave d)

  one : (n : ℕ) (a : Answer) (d : Submitted) → (answered_in x.past (entry_of x) n a d).call ≡ (answered_in x.past (entry_of (add_reply j r x)) n a d).call × (gave (answered_in x.past (entry_of x) n a d) ≡ gave (answered_in x.past (entry_of (add_reply j r x)) n a d))
  one n a d = either (d.call.number == n) d.answer where
    told : (y : Step) → Answered
    told y = answer_of x.past (entry_of y) a d.call

    marked_by : (y : Step) → Bool → Option Answered → Submitted
    marked_by y b o = elim b as (λ z. Submitted) [ false ↦ record d { answer = o } | true ↦ record d { answer = option_or o (Some (answer_of x.past (entry_of y) a d.call)) } ]

    either : (b : Bool) (o : Option Answered) → (marked_by x b o).call ≡ (marked_by (add_reply j r x) b o).call × (gave (marked_by x b o) ≡ gave (marked_by (add_reply j r x) b o))
    either false o = (refl, refl)
    either true (Some c) = (refl, refl)
    either true None = (refl, refl)

  marked : (d : Submitted) → Contains (mark x.past (entry_of (add_reply j r x)) x.input (submitted x.past)) d → (k : Submitted) × Contains (mark x.past (entry_of x) x.input (submitted x.past)) k × (k.call ≡ d.call) × (gave k ≡ gave d)
  marked d inside = to x.input inside where
    to : (i : Input) → Contains (mark x.past (entry_of (add_reply j r x)) i (submitted x.past)) d → (k : Submitted) × Contains (mark x.past (entry_of x) i (submitted x.past)) k × (k.call ≡ d.call) × (gave k ≡ gave d)
    to (Told n a) t =
        let was = in_map (answered_in x.past (entry_of (add_reply j r x)) n a) (submitted x.past) d t in
        let same = one n a was.0 in
        (answered_in x.past (entry_of x) n a was.0, contains_map (answered_in x.past (entry_of x) n a) (submitted x.past) was.0 was.1, same.0 ∙ ap (λ (k : Submitted). k.call) was.2, same.1 ∙ ap (λ k. gave k) was.2)
    to (Line text) t = (d, t, refl, refl)
    to (Number text) t = (d, t, refl, refl)
    to Wake t = (d, t, refl, refl)
    to (Exit p) t = (d, t, refl, refl)
    to (Spawned p ok) t = (d, t, refl, refl)

  by : (cs : List Call) (ms ks : List Submitted) → ((d : Submitted) → Contains ms d → (k : Submitted) × Contains ks k × (k.call ≡ d.call) × (gave k ≡ gave d)) → Contains (fold (λ qs c. new_call (length x.past) x.reading c ∷ qs) ms cs) m
      → (k : Submitted) × Contains (fold (λ qs c. new_call (length x.past) x.reading c ∷ qs) ks cs) k × (k.call ≡ m.call) × (gave k ≡ gave m)
  by [] ms ks f inside = f m inside
  by (c ∷ cs) ms ks f inside = by cs (new_call (length x.past) x.reading c ∷ ms) (new_call (length x.past) x.reading c ∷ ks) (λ d t. more d (contains_cases (new_call (length x.past) x.reading c) ms d t)) inside where
    more : (d : Submitted) → (new_call (length x.past) x.reading c ≡ d) ⊎ Contains ms d → (k : Submitted) × Contains (new_call (length x.past) x.reading c ∷ ks) k × (k.call ≡ d.call) × (gave k ≡ gave d)
    more d (inl first) = (new_call (length x.past) x.reading c, contains_first (new_call (length x.past) x.reading c) ks, ap (λ (k : Submitted). k.call) first, ap (λ k. gave k) first)
    more d (inr old) = let k = f d old in (k.0, contains_more (new_call (length x.past) x.reading c) ks k.0 k.1, k.2, k.3)

pub reply_watches : (x : Step) (j : ℕ) (r : Reply) → HasWatchFacts x → HasWatchFacts (add_reply j r x)
reply_watches x j r h =
    watches_kept x.setting (seen x) (seen (add_reply j r x)) (heard_by x.input) (heard_by x.input)
    (record {
      all = λ s there. there;
      running = λ n is. running_before x j r n is;
      calls = λ s m bytes there inside given other.
          let mine = kept_inside (is_call_of s) (submitted (seen (add_reply j r x))) m inside in
          let k = reply_heeds x j r m mine.0 in
          (k.0, kept (is_call_of s) (submitted (seen x)) k.0 (ap (λ (c : Call). c.session == s.number) k.2 ∙ mine.1) k.1, k.2, k.3 ∙ given, λ heard. other (heard ∙ ap (λ (c : Call). Some c.number) k.2));
    }) h

-- ---- a call more

pub call_watches : (x : Step) (s : Session) (path : List ℕ) (p : Purpose) (o : ℕ) (op : Op) → is_join_call FirstRead p ≡ false → HasWatchFacts x → HasWatchFacts (add_call_of s.number path p o op x)
call_watches x s path p o op no_look h =
    watches_kept x.setting (seen x) (seen (add_call_of s.number path p o op x)) (heard_by x.input) (heard_by x.input)
    (record {
      all = λ z there. subst (λ ss. Contains ss z) (same_sessions x.setting (entry_of x) x.past made no_look) there;
      running = λ n is. is;
      calls = λ z m bytes there inside given other.
          let mine = kept_inside (is_call_of z) (submitted (seen (add_call_of s.number path p o op x))) m inside in
          (m, kept (is_call_of z) (submitted (seen x)) m mine.1 (old m bytes given (contains_cases new (submitted (seen x)) m (subst (λ ms. Contains ms m) (submitted-push x.past (entry_of x) made) mine.0))), refl, given, other);
    }) h
  where
    made : Call
    made = record { number = next_call x.setting (seen x); session = s.number; purpose = p; path = path; offset = o; op = op }

    new : Submitted
    new = new_call (length x.past) x.reading made

    old : (m : Submitted) (bytes : List ℕ) → gave m ≡ Some bytes → (new ≡ m) ⊎ Contains (submitted (seen x)) m → Contains (submitted (seen x)) m
    old m bytes given (inr there) = there
    old m bytes given (inl first) = absurd (none_some bytes (ap (λ k. gave k) first ∙ given))

pub nearly_watches : Allows HasWatchFacts HasWatchFacts Anything NoLook AnyStart AnyMove
nearly_watches =
    record {
      ends = λ y e h. watches_kept y.setting (seen y) (seen (add_end e y)) (heard_by y.input) (heard_by y.input) (record { all = λ s there. there; running = λ n is. is; calls = λ s m bytes there inside given other. (m, inside, refl, given, other) }) h;
      signals = λ y q signal h. watches_kept y.setting (seen y) (seen (add_signal q signal y)) (heard_by y.input) (heard_by y.input) (record { all = λ s there. there; running = λ n is. is; calls = λ s m bytes there inside given other. (m, inside, refl, given, other) }) h;
      moves = λ y m may h. watches_kept y.setting (seen y) (seen (add_move m y)) (heard_by y.input) (heard_by y.input) (record { all = λ s there. there; running = λ n is. is; calls = λ s m bytes there inside given other. (m, inside, refl, given, other) }) h;
      grants = λ y g h. watches_kept y.setting (seen y) (seen (add_grant g y)) (heard_by y.input) (heard_by y.input) (record { all = λ s there. there; running = λ n is. is; calls = λ s m bytes there inside given other. (m, inside, refl, given, other) }) h;
      starts = λ y k may h. watches_kept y.setting (seen y) (seen (add_start k y)) (heard_by y.input) (heard_by y.input) (record { all = λ s there. there; running = λ n is. is; calls = λ s m bytes there inside given other. (m, inside, refl, given, other) }) h;
      replies = λ y j r may h. reply_watches y j r h;
      calls = λ y s path p o op may h. call_watches y s path p o op may h;
      rest = λ y h. h;
    }

-- ---- the input

pub input_watches : (x : Step) (i : Input) → x.input ≡ Wake → x.effects.calls ≡ [] → HasWatchFacts x → HasWatchFacts (with_input i x)
input_watches x i wake bare h =
    watches_kept x.setting (seen x) (seen (with_input i x)) None (heard_by i)
    (record {
      all = λ s there. subst (λ ss. Contains ss s) (sessions_told x i bare) there;
      running = λ n is. is;
      calls = λ s m bytes there inside given other.
          (m, unheard_inside x.past (entry_of (with_input i x)) i (calls_of (seen x) s) m (subst (λ ms. Contains ms m) (calls_of_told x i s wake bare) inside) other, refl, given, λ none. none_some m.call.number none);
    }) (subst (λ k. WatchFacts x.setting (seen x) (heard_by k)) wake h)

-- ---- a session begins

begun_watches : (x : Step) (text : List ℕ) (c : Command) (n : ℕ) (a : LockspaceArg) → x.input ≡ Wake → x.effects.calls ≡ [] → x.setting.read text ≡ Ok c → DecisionFits x.setting (seen x) c (Joins n a) → HasCallFacts x → HasWatchFacts x
    → HasWatchFacts (carry_decision (next_job x.setting (seen x)) c (Joins n a) (with_input (Line text) x))
unfolding carry_decision
begun_watches x text c n a wake bare says f facts g =
    record { first = λ s m bytes r. first s m bytes r (which s r.session); same = λ s k m b d r q. same s k m b d r q (which s r.session) } where
      w : Step
      w = with_input (Line text) x

      h : WatchFacts x.setting (seen (with_input (Line text) x)) None
      h = input_watches x (Line text) wake bare g

      new : Session
      new = joining_session n (next_job x.setting (seen x)) a

      made : Call
      made = record { number = next_call x.setting (seen (with_input (Line text) x)); session = n; purpose = Joining (next_job x.setting (seen x)) FirstRead; path = a.path; offset = delta_offset x.setting.layout a.offset a.id; op = ReadSectors 1 }

      call : Submitted
      call = new_call (length x.past) x.reading made

      y : Step
      y = add_call_of n a.path (Joining (next_job x.setting (seen x)) FirstRead) (delta_offset x.setting.layout a.offset a.id) (ReadSectors 1) (with_input (Line text) x)

      grown : sessions x.setting (seen y) ≡ sessions x.setting (seen w) ++ new ∷ []
      grown = begun_sessions x text n a made wake bare (says ∙ ap (λ z. Ok z) f.0) f.1 refl

      which : (s : Session) → Contains (sessions x.setting (seen y)) s → Contains (sessions x.setting (seen w)) s ⊎ (new ≡ s)
      which s there = contains_last (sessions x.setting (seen w)) new s (subst (λ ss. Contains ss s) grown there)

      last : n ≡ length (sessions x.setting (seen w))
      last = f.1 ∙ ap (λ ss. length ss) (sym (sessions_told x (Line text) bare))

      -- an answered call is none of the new session's, and no new one
      none_before : (m : Submitted) → Contains (calls_of (seen w) new) m → ⊥
      none_before m there =
          let its = kept_inside (is_call_of new) (submitted (seen w)) m there in
          let owner = some_of (session_numbered x.setting (seen w) m.call.session) ((input_kept x (Line text) wake bare refl facts).owned m its.0) in
          let low : m.call.session < length (sessions x.setting (seen w)) = slice_get_within (sessions x.setting (seen w)) m.call.session owner.0 owner.1 in
          let is : m.call.session ≡ n = eqb-true m.call.session n its.1 in omega (arith, low, is, last)

      before : (s : Session) (m : Submitted) (bytes : List ℕ) → Contains (calls_of (seen y) s) m → gave m ≡ Some bytes → Contains (calls_of (seen w) s) m
      before s m bytes inside given = to (contains_cases call (submitted (seen w)) m (subst (λ ms. Contains ms m) (submitted-push x.past (entry_of w) made) mine.0)) where
        mine : Contains (submitted (seen y)) m × (is_call_of s m ≡ true)
        mine = kept_inside (is_call_of s) (submitted (seen y)) m inside

        to : (call ≡ m) ⊎ Contains (submitted (seen w)) m → Contains (calls_of (seen w) s) m
        to (inl first) = absurd (none_some bytes (ap (λ k. gave k) first ∙ given))
        to (inr old) = kept (is_call_of s) (submitted (seen w)) m mine.1 old

      read_before : (s : Session) (step : JoinStep) (m : Submitted) (bytes : List ℕ) → HasRead x.setting (seen y) None s step m bytes → Contains (sessions x.setting (seen w)) s → HasRead x.setting (seen w) None s step m bytes
      read_before s step m bytes r old = record { job = r.job; session = old; its = r.its; runs = r.runs; inside = before s m bytes r.inside r.given; for = r.for; given = r.given; done = r.done }

      first : (s : Session) (m : Submitted) (bytes : List ℕ) → HasRead x.setting (seen y) None s FirstRead m bytes → Contains (sessions x.setting (seen w)) s ⊎ (new ≡ s)
          → (d : DeltaRec) × (delta_in (record_in x.setting.layout bytes) ≡ Some d) × (d.lockspace ≡ s.lockspace) × (d.id ≡ s.id)
      first s m bytes r (inl old) = h.first s m bytes (read_before s FirstRead m bytes r old)
      first s m bytes r (inr one) = absurd (none_before m (subst (λ z. Contains (calls_of (seen w) z) m) (sym one) (before s m bytes r.inside r.given)))

      same : (s : Session) (k m : Submitted) (b d : List ℕ) → HasRead x.setting (seen y) None s FirstRead k b → HasRead x.setting (seen y) None s WatchRead m d → Contains (sessions x.setting (seen w)) s ⊎ (new ≡ s) → b ≡ d
      same s k m b d r q (inl old) = h.same s k m b d (read_before s FirstRead k b r old) (read_before s WatchRead m d q old)
      same s k m b d r q (inr one) = absurd (none_before m (subst (λ z. Contains (calls_of (seen w) z) m) (sym one) (before s m d q.inside q.given)))

-- ---- all acts

abbrev pub KnowsWatches : Step → Type 0
KnowsWatches x = Whole x × HasWatchFacts x

carried_watches : (x : Step) (text : List ℕ) (c : Command) (d : Decision) → x.input ≡ Wake → x.effects.calls ≡ [] → x.setting.read text ≡ Ok c → decided x.setting (seen x) x.reading c ≡ d → KnowsWatches x
    → HasWatchFacts (carry_decision (next_job x.setting (seen x)) c d (with_input (Line text) x))
carried_watches x text c d wake bare says is h = by d fits (decision_plain HasWatchFacts w (next_job x.setting (seen x)) c d) where
  w : Step
  w = with_input (Line text) x

  fits : DecisionFits x.setting (seen x) c d
  fits = subst (λ z. DecisionFits x.setting (seen x) c z) is (decisions_fit x.setting (seen x) x.reading c)

  begins : (n : ℕ) (a : LockspaceArg) → DecisionFits x.setting (seen x) c (Joins n a) → HasWatchFacts (carry_decision (next_job x.setting (seen x)) c (Joins n a) (with_input (Line text) x))
  begins n a f = begun_watches x text c n a wake bare says f h.0.facts.calls h.1

  begun : (z : Decision) → IsBegun z → DecisionFits x.setting (seen x) c z → HasWatchFacts (carry_decision (next_job x.setting (seen x)) c z (with_input (Line text) x))
  begun (Joins n a) k f = begins n a f
  begun (Replies r) k f = absurd k
  begun (Leaves s) k f = absurd k
  begun (ReadsArea s r) k f = absurd k
  begun (Shares s lver) k f = absurd k
  begun (GivesUp s g) k f = absurd k
  begun (TakesOver s g) k f = absurd k
  begun (ConvertsTo s r mode) k f = absurd k
  begun (Requests s r) k f = absurd k
  begun (SetsValue s spot v) k f = absurd k
  begun (GetsValue s spot) k f = absurd k

  by : (z : Decision) → DecisionFits x.setting (seen x) c z → IsBegun z ⊎ DecisionAllowed HasWatchFacts Anything NoLook AnyStart (with_input (Line text) x) (next_job x.setting (seen x)) c z
      → HasWatchFacts (carry_decision (next_job x.setting (seen x)) c z (with_input (Line text) x))
  by z f (inl k) = begun z k f
  by z f (inr may) =
      decision HasWatchFacts HasWatchFacts Anything NoLook AnyStart AnyMove nearly_watches (with_input (Line text) x) (next_job x.setting (seen x)) c z may (λ n a joins. begins n a (subst (λ q. DecisionFits x.setting (seen x) c q) joins f))
      (input_watches x (Line text) wake bare h.1)

pub watch_facts_are_kept : Acts KnowsWatches HasWatchFacts
watch_facts_are_kept =
    nearly_acts KnowsWatches HasWatchFacts (λ x h. h.1) nearly_watches
    (record {
      others = λ x i wake bare expected other h. input_watches x i wake bare h.1;
      misreads = λ x text column wake bare says h. reply_watches (with_input (Line text) x) (next_job x.setting (seen x)) (Misread column) (input_watches x (Line text) wake bare h.1);
      answers = λ x text c r wake bare says is h. reply_watches (with_input (Line text) x) (next_job x.setting (seen x)) r (input_watches x (Line text) wake bare h.1);
      carries = λ x text c d wake bare says is more h. carried_watches x text c d wake bare says is h;
    })

-- ---- once a step has begun, after a trace of which it is known

pub watches_begin : (st : Setting) (past : Trace) (now : ℕ) → WatchFacts st past None → HasWatchFacts (begin_recoveries (begin_step st past now))
unfolding begin_recoveries begin_recovery
watches_begin st past now h =
    let x : Step = begin_step st past now in
    for_each_keeps HasWatchFacts (present_sessions st (seen x)) begin_recovery x
    (λ s there y k. when_keeps HasWatchFacts (begins_now (seen y) (recovery_of y.setting (seen y) s)) (signal_and_refuse s None) y
    (λ begins f. stopped HasWatchFacts HasWatchFacts Anything NoLook AnyStart AnyMove nearly_watches tt y s None (λ z g j inside. tt) f) k)
    (watches_kept st past (seen x) None None
    (record {
      all = λ s there. subst (λ ss. Contains ss s) (sessions_then st past now) there;
      running = λ n is. sym (running_then past now n) ∙ is;
      calls = λ s m bytes there inside given other. (m, inside, refl, given, other);
    }) h)
