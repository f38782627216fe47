-- Each session that a job began has looked at its sector: its line makes its first read.
use Rattle.sl_due_facts.proofs.Acts.AddedAtEnd.{contains_last}
use Rattle.sl_due_facts.proofs.Acts.LoopsKeep.{for_each_keeps, when_keeps}
use Rattle.sl_due_facts.specs.Acts.Acts.{Acts}
use Rattle.sl_due_facts.specs.Acts.TraceSoFar.{entry_of}
use Rattle.sl_area.specs.AreaLayout.{delta_offset}
use Rattle.sl_due.specs.DueCommands.{carry_decision, decided}
use Rattle.sl_due.specs.DueRecovery.{begin_recoveries, begin_recovery, begins_now, signal_and_refuse}
use Rattle.sl_due.specs.Steps.{Step, add_call_of, add_end, add_grant, add_move, add_reply, add_signal, add_start, begin_step, seen, with_input}
use Rattle.sl_due.specs.declared.decision.Decision.{Decision}
use Rattle.sl_due.specs.declared.decision.Decision.TheVariants.{ConvertsTo, GetsValue, GivesUp, Joins, Leaves, ReadsArea, Replies, Requests, SetsValue, Shares, TakesOver}
use Rattle.sl_due_facts.proofs.Jobs.CallsHaveFacts.{sessions_told}
use Rattle.sl_due_facts.proofs.Jobs.DecisionsFit.{DecisionFits, decisions_fit}
use Rattle.sl_due_facts.proofs.Jobs.EffectsAreAllowed.{DecisionAllowed, decision, stopped}
use Rattle.sl_due_facts.proofs.Jobs.JobFactsAreKept.{begun_sessions}
use Rattle.sl_due_facts.proofs.Jobs.LinesAreAllowed.{IsBegun}
use Rattle.sl_due_facts.proofs.Jobs.NearlyPlainActs.{AnyMove, AnyStart, Anything, Nearly, NoLook, decision_plain, nearly_acts}
use Rattle.sl_due_facts.proofs.AddedEffects.CallsGrow.{same_sessions}
use Rattle.sl_due_law.specs.Causes.Makings.{LookedSoFar}
use Rattle.sl_due_facts.specs.Facts.AllFacts.{Whole}
use Rattle.sl_words.proofs.Lists.{contains_first, kept_inside}
use Rattle.sl_trace.specs.Sessions.{calls_of, is_call_of, is_join_call, joining_session, present_sessions, recovery_of, sessions}
use Rattle.sl_trace.specs.declared.session.Session.{Session}
use Rattle.sl_trace.specs.Traces.{Setting, Submitted, Trace, next_call, next_job, submitted}
use Rattle.sl_trace.specs.declared.command.Command.{Command}
use Rattle.sl_trace.specs.declared.command.LockspaceArg.{LockspaceArg}
use Rattle.sl_trace.specs.declared.effects.Call.{Call}
use Rattle.sl_trace.specs.declared.effects.JoinStep.TheVariants.{FirstRead}
use Rattle.sl_trace.specs.declared.effects.Op.{Op}
use Rattle.sl_trace.specs.declared.effects.Op.TheVariants.{ReadSectors}
use Rattle.sl_trace.specs.declared.effects.Purpose.{Purpose}
use Rattle.sl_trace.specs.declared.effects.Purpose.TheVariants.{Joining}
use Rattle.sl_trace.specs.declared.input.Input.{Input}
use Rattle.sl_trace.specs.declared.input.Input.TheVariants.{Line, Wake}
use Rattle.sl_trace.specs.declared.reply.Reply.TheVariants.{BadCommand as Misread}
use Rattle.std.proofs.Common.{ap, inl, inr, refl, subst, sym, ◌∙◌}
use Rattle.std.proofs.lemmas.Bool.{eqb-true}
use Rattle.std.proofs.lemmas.List.{append-nil}
use Rattle.std.proofs.lemmas.List.Elements.{Contains-append_left, Contains-append_right}
use Rattle.std.specs.Prelude.{Contains, IsTrue, List, None, Ok, Some, [], false, ℕ, ◌++◌, ◌∷◌, ◌≡◌, ◌⊎◌}

-- All that is known, with it.
abbrev pub KnowsLooks : Step → Type 0
KnowsLooks x = Whole x × LookedSoFar x

-- A session as it was.
looked_still : (x z : Step) → z.setting ≡ x.setting → z.past ≡ x.past → ((s : Session) → Contains (sessions z.setting (seen z)) s → Contains (sessions x.setting (seen x)) s) → ((c : Call) → Contains x.effects.calls c → Contains z.effects.calls c)
    → LookedSoFar x → LookedSoFar z
looked_still x z setting before all more h s j there its = to (h s j (all s there) its) where
  Found : Type 0
  Found = (c : Call) × (Contains z.effects.calls c ⊎ ((m : Submitted) × Contains (submitted z.past) m × (m.call ≡ c))) × (c.session ≡ s.number) × IsTrue (is_join_call FirstRead c.purpose)

  to : (c : Call) × (Contains x.effects.calls c ⊎ ((m : Submitted) × Contains (submitted x.past) m × (m.call ≡ c))) × (c.session ≡ s.number) × IsTrue (is_join_call FirstRead c.purpose) → Found
  to f = (f.0, by f.1, f.2, f.3) where
    by : Contains x.effects.calls f.0 ⊎ ((m : Submitted) × Contains (submitted x.past) m × (m.call ≡ f.0)) → Contains z.effects.calls f.0 ⊎ ((m : Submitted) × Contains (submitted z.past) m × (m.call ≡ f.0))
    by (inl new) = inl (more f.0 new)
    by (inr old) = inr (old.0, subst (λ t. Contains (submitted t) old.0) (sym before) old.1, old.2)

looked_call : (y : Step) (s : Session) (path : List ℕ) (p : Purpose) (o : ℕ) (op : Op) → is_join_call FirstRead p ≡ false → LookedSoFar y → LookedSoFar (add_call_of s.number path p o op y)
looked_call y s path p o op no_look h =
    looked_still y (add_call_of s.number path p o op y) refl refl (λ z there. subst (λ ss. Contains ss z) (same_sessions y.setting (entry_of y) y.past made no_look) there)
    (λ c there. Contains-append_left y.effects.calls (made ∷ []) c there) h
  where
    made : Call
    made = record { number = next_call y.setting (seen y); session = s.number; purpose = p; path = path; offset = o; op = op }

nearly_looked : Nearly LookedSoFar
nearly_looked =
    record {
      ends = λ y e h. looked_still y (add_end e y) refl refl (λ s there. there) (λ c there. there) h;
      signals = λ y q signal h. looked_still y (add_signal q signal y) refl refl (λ s there. there) (λ c there. there) h;
      moves = λ y m may h. looked_still y (add_move m y) refl refl (λ s there. there) (λ c there. there) h;
      grants = λ y g h. looked_still y (add_grant g y) refl refl (λ s there. there) (λ c there. there) h;
      starts = λ y k may h. looked_still y (add_start k y) refl refl (λ s there. there) (λ c there. there) h;
      replies = λ y j r may h. looked_still y (add_reply j r y) refl refl (λ s there. there) (λ c there. there) h;
      calls = λ y s path p o op may h. looked_call y s path p o op may h;
      rest = λ y h. h;
    }

input_looked : (x : Step) (i : Input) → x.effects.calls ≡ [] → LookedSoFar x → LookedSoFar (with_input i x)
input_looked x i bare h = looked_still x (with_input i x) refl refl (λ s there. subst (λ ss. Contains ss s) (sessions_told x i bare) there) (λ c there. there) h

-- A session begins, with its look.
begun_looked : (x : Step) (text : List ℕ) (c : Command) (n : ℕ) (a : LockspaceArg) → x.input ≡ Wake → x.effects.calls ≡ [] → x.setting.read text ≡ Ok c → DecisionFits x.setting (seen x) c (Joins n a) → LookedSoFar x
    → LookedSoFar (carry_decision (next_job x.setting (seen x)) c (Joins n a) (with_input (Line text) x))
unfolding carry_decision
begun_looked x text c n a wake bare says f h s j there its = which (contains_last (sessions x.setting (seen w)) new s (subst (λ ss. Contains ss s) grown there)) where
  w : Step
  w = with_input (Line text) x

  new : Session
  new = joining_session n (next_job x.setting (seen x)) a

  made : Call
  made = record { number = next_call x.setting (seen (with_input (Line text) x)); session = n; purpose = Joining (next_job x.setting (seen x)) FirstRead; path = a.path; offset = delta_offset x.setting.layout a.offset a.id; op = ReadSectors 1 }

  y : Step
  y = add_call_of n a.path (Joining (next_job x.setting (seen x)) FirstRead) (delta_offset x.setting.layout a.offset a.id) (ReadSectors 1) (with_input (Line text) x)

  grown : sessions x.setting (seen y) ≡ sessions x.setting (seen w) ++ new ∷ []
  grown = begun_sessions x text n a made wake bare (says ∙ ap (λ z. Ok z) f.0) f.1 refl

  Found : Session → Type 0
  Found z = (d : Call) × (Contains y.effects.calls d ⊎ ((m : Submitted) × Contains (submitted y.past) m × (m.call ≡ d))) × (d.session ≡ z.number) × IsTrue (is_join_call FirstRead d.purpose)

  which : Contains (sessions x.setting (seen w)) s ⊎ (new ≡ s) → Found s
  which (inl old) =
      let k = input_looked x (Line text) bare h s j old its in
      (k.0, elim k.1 [ inl fresh ↦ inl (Contains-append_left w.effects.calls (made ∷ []) k.0 fresh) | inr before ↦ inr before ], k.2, k.3)
  which (inr is) = subst (λ z. Found z) is (made, inl (Contains-append_right w.effects.calls (made ∷ []) made (contains_first made [])), refl, refl)

carried_looked : (x : Step) (text : List ℕ) (c : Command) (d : Decision) → x.input ≡ Wake → x.effects.calls ≡ [] → x.setting.read text ≡ Ok c → decided x.setting (seen x) x.reading c ≡ d → KnowsLooks x
    → LookedSoFar (carry_decision (next_job x.setting (seen x)) c d (with_input (Line text) x))
carried_looked x text c d wake bare says is h = by d fits (decision_plain LookedSoFar w (next_job x.setting (seen x)) c d) where
  w : Step
  w = with_input (Line text) x

  fits : DecisionFits x.setting (seen x) c d
  fits = subst (λ z. DecisionFits x.setting (seen x) c z) is (decisions_fit x.setting (seen x) x.reading c)

  begins : (n : ℕ) (a : LockspaceArg) → DecisionFits x.setting (seen x) c (Joins n a) → LookedSoFar (carry_decision (next_job x.setting (seen x)) c (Joins n a) (with_input (Line text) x))
  begins n a f = begun_looked x text c n a wake bare says f h.1

  begun : (z : Decision) → IsBegun z → DecisionFits x.setting (seen x) c z → LookedSoFar (carry_decision (next_job x.setting (seen x)) c z (with_input (Line text) x))
  begun (Joins n a) k f = begins n a f
  begun (Replies r) k f = absurd k
  begun (Leaves s) k f = absurd k
  begun (ReadsArea s r) k f = absurd k
  begun (Shares s lver) k f = absurd k
  begun (GivesUp s g) k f = absurd k
  begun (TakesOver s g) k f = absurd k
  begun (ConvertsTo s r mode) k f = absurd k
  begun (Requests s r) k f = absurd k
  begun (SetsValue s spot v) k f = absurd k
  begun (GetsValue s spot) k f = absurd k

  by : (z : Decision) → DecisionFits x.setting (seen x) c z → IsBegun z ⊎ DecisionAllowed LookedSoFar Anything NoLook AnyStart (with_input (Line text) x) (next_job x.setting (seen x)) c z
      → LookedSoFar (carry_decision (next_job x.setting (seen x)) c z (with_input (Line text) x))
  by z f (inl k) = begun z k f
  by z f (inr may) =
      decision LookedSoFar LookedSoFar Anything NoLook AnyStart AnyMove nearly_looked (with_input (Line text) x) (next_job x.setting (seen x)) c z may (λ n a joins. begins n a (subst (λ q. DecisionFits x.setting (seen x) c q) joins f))
      (input_looked x (Line text) bare h.1)

pub looks_are_kept : Acts KnowsLooks LookedSoFar
looks_are_kept =
    nearly_acts KnowsLooks LookedSoFar (λ x h. h.1) nearly_looked
    (record {
      others = λ x i wake bare expected other h. input_looked x i bare h.1;
      misreads = λ x text column wake bare says h. nearly_looked.replies (with_input (Line text) x) (next_job x.setting (seen x)) (Misread column) tt (input_looked x (Line text) bare h.1);
      answers = λ x text c r wake bare says is h. nearly_looked.replies (with_input (Line text) x) (next_job x.setting (seen x)) r tt (input_looked x (Line text) bare h.1);
      carries = λ x text c d wake bare says is more h. carried_looked x text c d wake bare says is h;
    })

pub looks_begin : (st : Setting) (past : Trace) (now : ℕ) → ((s : Session) (j : ℕ) → Contains (sessions st past) s → s.job ≡ Some j → (m : Submitted) × Contains (calls_of past s) m × IsTrue (is_join_call FirstRead m.call.purpose))
    → LookedSoFar (begin_recoveries (begin_step st past now))
unfolding begin_recoveries begin_recovery
looks_begin st past now h =
    for_each_keeps LookedSoFar (present_sessions st (seen (begin_step st past now))) begin_recovery (begin_step st past now)
    (λ s there y k. when_keeps LookedSoFar (begins_now (seen y) (recovery_of y.setting (seen y) s)) (signal_and_refuse s None) y
    (λ starts f. stopped LookedSoFar LookedSoFar Anything NoLook AnyStart AnyMove nearly_looked tt y s None (λ z g j inside. tt) f) k) first where
      first : LookedSoFar (begin_step st past now)
      first s j there its =
          let f = h s j (subst (λ ss. Contains ss s) (append-nil (sessions st past)) there) its in
          let mine = kept_inside (is_call_of s) (submitted past) f.0 f.1 in
          (f.0.call, inr (f.0, mine.0, refl), eqb-true f.0.call.session s.number mine.1, f.2)
