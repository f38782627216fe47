-- The lines of an event: on its machine they leave what its step leaves held, and on others they change nothing.
use Rattle.sl_held.proofs.HoldingsMove.{TellEnds, ends_told, grants_told}
use Rattle.sl_held.proofs.LinesRead.{AllVerbs, HasVerb, IsOther, away_lines, other_lines}
use Rattle.sl_held.specs.HeldLaws.{IsSpelt}
use Rattle.sl_held.specs.HeldRows.{row_of}
use Rattle.sl_picture.specs.HeldBars.{Row, after_lines}
use Rattle.sl_picture.specs.Tells.{told_of}
use Rattle.sl_report.specs.Reports.{StepTold, event_lines, step_lines, step_told, test_lines, test_words, told_lines}
use Rattle.sl_run.specs.Inputs.{input_of, machine_of}
use Rattle.sl_run.specs.Locks.{told_effects, Told}
use Rattle.sl_run.specs.Worlds.{Machine, World, machine_at, reading_now}
use Rattle.sl_run.specs.declared.event.Event.TheVariants.{AnswerCall, Crash, Do, DropWrite, ExitOf, GiveAsk, GiveCommand, GiveLvm, Land, Pass, Reset, Restart, Sample, SpawnedOf, StartDaemon, Tear, Test, WakeUp}
use Rattle.sl_run.specs.declared.event.Event.{Event}
use Rattle.sl_trace.specs.EffectTexts.{answer_words, call_words, effect_lines, effect_words, end_words, grant_words, machine_line, move_words, of_resource, op_words, mode_word, reply_words, sent_words, signal_word, start_words}
use Rattle.sl_trace.specs.Traces.{held_after, is_ended_by, no_effects}
use Rattle.sl_trace.specs.WatchdogConnections.{test_holds}
use Rattle.sl_trace.specs.declared.effects.Call.{Call}
use Rattle.sl_trace.specs.declared.effects.Effects.{Effects}
use Rattle.sl_trace.specs.declared.effects.End.{End}
use Rattle.sl_trace.specs.declared.effects.Grant.{Grant}
use Rattle.sl_trace.specs.declared.effects.JobReply.{JobReply}
use Rattle.sl_trace.specs.declared.effects.Move.TheVariants.{Register, Renew, Unregister}
use Rattle.sl_trace.specs.declared.effects.Move.{Move}
use Rattle.sl_trace.specs.declared.effects.Sent.{Sent}
use Rattle.sl_trace.specs.declared.effects.Start.{Start}
use Rattle.sl_trace.specs.declared.input.Input.{Input}
use Rattle.std.proofs.Common.{ap, refl, subst, sym, ◌∙◌}
use Rattle.std.proofs.lemmas.List.Sums.{fold-append}
use Rattle.std.proofs.lemmas.List.{append-nil, map-append}
use Rattle.std.specs.Option.{option_map_or}
use Rattle.std.specs.Prelude.{Bool, Contains, List, None, Option, Some, codes, decimal, false, filter, flat_map, map, not, true, [], ℕ, ◌++◌, ◌<◌, ◌^◌, ◌∷◌, ◌≡◌}

-- ---- words

sent_other : (s : Sent) → IsOther (sent_words s)
unfolding told_of
sent_other s = record { verb = codes "signal"; rest = decimal s.process ∷ signal_word s.signal ∷ []; words = refl; free = refl; quiet = λ line rows. refl }

move_other : (m : Move) → IsOther (move_words m)
unfolding told_of
move_other (Register lockspace expiry) =
    record { verb = codes "wdmd"; rest = codes "register" ∷ lockspace ∷ decimal expiry ∷ []; words = refl; free = refl; quiet = λ line rows. refl }
move_other (Renew lockspace expiry) =
    record { verb = codes "wdmd"; rest = codes "renew" ∷ lockspace ∷ decimal expiry ∷ []; words = refl; free = refl; quiet = λ line rows. refl }
move_other (Unregister lockspace) = record { verb = codes "wdmd"; rest = codes "unregister" ∷ lockspace ∷ []; words = refl; free = refl; quiet = λ line rows. refl }

start_other : (s : Start) → IsOther (start_words s)
unfolding told_of
start_other s = record { verb = codes "start"; rest = decimal s.process ∷ s.program ∷ []; words = refl; free = refl; quiet = λ line rows. refl }

answer_other : (a : JobReply) → IsOther (answer_words a)
unfolding told_of
answer_other a = record { verb = codes "reply"; rest = decimal a.job ∷ reply_words a.reply; words = refl; free = refl; quiet = λ line rows. refl }

call_other : (c : Call) → IsOther (call_words c)
unfolding told_of
call_other c = record { verb = codes "call"; rest = decimal c.number ∷ op_words c.path c.offset c.op; words = refl; free = refl; quiet = λ line rows. refl }

reply_other : (p : ℕ × List ℕ) → IsOther (codes "reply" ∷ decimal p.0 ∷ p.1 ∷ [])
unfolding told_of
reply_other p = record { verb = codes "reply"; rest = decimal p.0 ∷ p.1 ∷ []; words = refl; free = refl; quiet = λ line rows. refl }

test_other : (ok : Bool) → IsOther (test_words ok)
unfolding told_of
test_other true = record { verb = codes "test"; rest = codes "ok" ∷ []; words = refl; free = refl; quiet = λ line rows. refl }
test_other false = record { verb = codes "test"; rest = codes "failed" ∷ []; words = refl; free = refl; quiet = λ line rows. refl }

its_verb : (ws : List (List ℕ)) → IsOther ws → HasVerb ws
its_verb ws o = record { verb = o.verb; rest = o.rest; words = o.words; free = o.free }

end_verb : (e : End) → HasVerb (end_words e)
end_verb e = record { verb = codes "end"; rest = decimal e.process ∷ of_resource e.lockspace e.resource ∷ []; words = refl; free = refl }

grant_verb : (g : Grant) → HasVerb (grant_words g)
grant_verb g =
    record {
      verb = codes "grant";
      rest = decimal g.process ∷ of_resource g.lockspace g.resource ∷ mode_word g.mode ∷ decimal g.lver ∷ [];
      words = refl;
      free = refl;
    }

-- ---- on the machine of the event

pub lines_after : (m : ℕ) (xs ys : List (List ℕ)) (rows : List Row) → after_lines m (xs ++ ys) rows ≡ after_lines m ys (after_lines m xs rows)
lines_after m xs ys rows = fold-append _ rows xs ys

module _ (n : ℕ) (few : n < 2 ^ 64) where
  abbrev lines : List (List (List ℕ)) → List (List ℕ)
  lines wss = map (machine_line n) wss

  joined : (xs ys : List (List (List ℕ))) (rows : List Row) → after_lines n (lines (xs ++ ys)) rows ≡ after_lines n (lines ys) (after_lines n (lines xs) rows)
  joined xs ys rows = ap (λ (ls : List (List ℕ)). after_lines n ls rows) (map-append (machine_line n) xs ys) ∙ lines_after n (lines xs) (lines ys) rows

  then_others : {A : Type 0} (words : A → List (List ℕ)) → ((a : A) → IsOther (words a)) → (wss : List (List (List ℕ))) (xs : List A) (before rows : List Row)
      → after_lines n (lines wss) before ≡ rows → after_lines n (lines (wss ++ map words xs)) before ≡ rows
  then_others words others wss xs before rows so_far =
      joined wss (map words xs) before ∙ ap (λ (rs : List Row). after_lines n (lines (map words xs)) rs) so_far ∙ other_lines n words others xs rows few

  then_grants : (wss : List (List (List ℕ))) (gs : List Grant) (before rows : List Row) → ((g : Grant) → Contains gs g → IsSpelt g) → after_lines n (lines wss) before ≡ rows
      → after_lines n (lines (wss ++ map grant_words gs)) before ≡ rows ++ map row_of gs
  then_grants wss gs before rows spelt so_far =
      joined wss (map grant_words gs) before ∙ ap (λ (rs : List Row). after_lines n (lines (map grant_words gs)) rs) so_far ∙ grants_told n gs rows few spelt

  effects_told : (fx : Effects) (held : List Grant) → TellEnds fx.ends held → ((g : Grant) → Contains fx.grants g → IsSpelt g)
      → after_lines n (effect_lines n fx) (map row_of held) ≡ map row_of (held_after fx held)
  effects_told fx held ends spelt =
      let before : List Row = map row_of held in
      let left : List Grant = filter (λ g. not (is_ended_by fx.ends g)) held in
      let ended : List (List (List ℕ)) = map end_words fx.ends in
      let sent : List (List (List ℕ)) = ended ++ map sent_words fx.signals in
      let moved : List (List (List ℕ)) = sent ++ map move_words fx.moves in
      let granted : List (List (List ℕ)) = moved ++ map grant_words fx.grants in
      let started : List (List (List ℕ)) = granted ++ map start_words fx.starts in
      let answered : List (List (List ℕ)) = started ++ map answer_words fx.replies in
      let rows : List Row = map row_of left ++ map row_of fx.grants in
      then_others call_words call_other answered fx.calls before rows
      (then_others answer_words answer_other started fx.replies before rows
      (then_others start_words start_other granted fx.starts before rows
      (then_grants moved fx.grants before (map row_of left) spelt
      (then_others move_words move_other sent fx.moves before (map row_of left)
      (then_others sent_words sent_other ended fx.signals before (map row_of left) (ends_told n fx.ends held few ends))))))
      ∙ sym (map-append row_of left fx.grants)

  line_told : (o : Told) (rows : List Row) → after_lines n (told_lines n o) rows ≡ rows
  line_told None rows = refl
  line_told (Some p) rows = other_lines n (λ (q : ℕ × List ℕ). codes "reply" ∷ decimal q.0 ∷ q.1 ∷ []) reply_other (p ∷ []) rows few

  test_told : (w : World) (o : Option Machine) (rows : List Row)
      → after_lines n (elim o as (λ z. List (List ℕ)) [ None ↦ [] | Some a ↦ machine_line n (test_words (test_holds a.connections (reading_now a))) ∷ [] ]) rows ≡ rows
  test_told w None rows = refl
  test_told w (Some a) rows = other_lines n test_words test_other (test_holds a.connections (reading_now a) ∷ []) rows few

  step_told_so : (t : StepTold) (held : List Grant) → TellEnds t.effects.ends held → ((g : Grant) → Contains t.effects.grants g → IsSpelt g)
      → after_lines n (step_lines n t) (map row_of held) ≡ map row_of (held_after t.effects held)
  step_told_so t held ends spelt =
      lines_after n (effect_lines n t.effects) (told_lines n t.line) (map row_of held)
      ∙ line_told t.line (after_lines n (effect_lines n t.effects) (map row_of held)) ∙ effects_told t.effects held ends spelt

-- A test tells nothing of what is held.
tests_told : (w : World) (e : Event) (rows : List Row) → machine_of e < 2 ^ 64 → after_lines (machine_of e) (test_lines w e) rows ≡ rows
tests_told w (Test m) rows few = test_told m few w (machine_at w m) rows
tests_told w (Pass d growths) rows few = refl
tests_told w (WakeUp m) rows few = refl
tests_told w (GiveCommand m text) rows few = refl
tests_told w (GiveLvm m line) rows few = refl
tests_told w (GiveAsk m) rows few = refl
tests_told w (Sample m c k) rows few = refl
tests_told w (Land m c) rows few = refl
tests_told w (Tear m c k bytes) rows few = refl
tests_told w (AnswerCall m c ok) rows few = refl
tests_told w (Do m c) rows few = refl
tests_told w (DropWrite m c) rows few = refl
tests_told w (ExitOf m p) rows few = refl
tests_told w (SpawnedOf m p ok) rows few = refl
tests_told w (StartDaemon m name) rows few = refl
tests_told w (Crash m) rows few = refl
tests_told w (Reset m) rows few = refl
tests_told w (Restart m) rows few = refl

-- The lines of an event, by what is told of its step.
abbrev lines_by : World → Event → StepTold → List (List ℕ)
lines_by w e t = flat_map (step_lines (machine_of e)) (t ∷ []) ++ test_lines w e

own_lines : (w : World) (e : Event) (t : StepTold) (held : List Grant) → machine_of e < 2 ^ 64 → TellEnds t.effects.ends held
    → ((g : Grant) → Contains t.effects.grants g → IsSpelt g)
    → after_lines (machine_of e) (lines_by w e t) (map row_of held) ≡ map row_of (held_after t.effects held)
own_lines w e t held few ends spelt =
    let n : ℕ = machine_of e in
    let step : List (List ℕ) = step_lines n t in
    lines_after n (step ++ []) (test_lines w e) (map row_of held) ∙ tests_told w e (after_lines n (step ++ []) (map row_of held)) few
    ∙ ap (λ (ls : List (List ℕ)). after_lines n ls (map row_of held)) (append-nil step) ∙ step_told_so n few t held ends spelt

-- What is told of a step ends and grants what it does.
told_ends : (o : Option Input) (fx : Effects) (a : Machine) → (step_told o fx a).effects.ends ≡ fx.ends
unfolding told_effects
told_ends None fx a = refl
told_ends (Some i) fx a = refl

told_grants : (o : Option Input) (fx : Effects) (a : Machine) → (step_told o fx a).effects.grants ≡ fx.grants
unfolding told_effects
told_grants None fx a = refl
told_grants (Some i) fx a = refl

told_held : (o : Option Input) (fx : Effects) (a : Machine) (held : List Grant) → held_after (step_told o fx a).effects held ≡ held_after fx held
unfolding told_effects
told_held None fx a held = refl
told_held (Some i) fx a held = refl

pub event_own : (w : World) (e : Event) (fx : Effects) (a : Machine) (held : List Grant) → machine_at w (machine_of e) ≡ Some a → machine_of e < 2 ^ 64
    → TellEnds fx.ends held → ((g : Grant) → Contains fx.grants g → IsSpelt g)
    → after_lines (machine_of e) (event_lines w e (fx ∷ [])) (map row_of held) ≡ map row_of (held_after fx held)
event_own w e fx a held at few ends spelt =
    let t : StepTold = step_told (input_of w e) fx a in
    ap (λ (o : Option Machine). after_lines (machine_of e) (lines_by w e (option_map_or (step_told (input_of w e) fx) o (record { effects = fx; line = None }))) (map row_of held)) at
    ∙ own_lines w e t held few (subst (λ (xs : List End). TellEnds xs held) (sym (told_ends (input_of w e) fx a)) ends)
    (subst (λ (gs : List Grant). (g : Grant) → Contains gs g → IsSpelt g) (sym (told_grants (input_of w e) fx a)) spelt)
    ∙ ap (map row_of) (told_held (input_of w e) fx a held)

-- ---- on another machine

verbs_of : {A : Type 0} (words : A → List (List ℕ)) → ((a : A) → HasVerb (words a)) → (xs : List A) → AllVerbs (map words xs)
verbs_of words each [] = tt
verbs_of words each (x ∷ xs) = (each x, verbs_of words each xs)

verbs_too : (xs ys : List (List (List ℕ))) → AllVerbs xs → AllVerbs ys → AllVerbs (xs ++ ys)
verbs_too [] ys a b = b
verbs_too (x ∷ xs) ys a b = (a.0, verbs_too xs ys a.1 b)

effect_verbs : (fx : Effects) → AllVerbs (effect_words fx)
effect_verbs fx =
    let ended : List (List (List ℕ)) = map end_words fx.ends in
    let sent : List (List (List ℕ)) = ended ++ map sent_words fx.signals in
    let moved : List (List (List ℕ)) = sent ++ map move_words fx.moves in
    let granted : List (List (List ℕ)) = moved ++ map grant_words fx.grants in
    let started : List (List (List ℕ)) = granted ++ map start_words fx.starts in
    let answered : List (List (List ℕ)) = started ++ map answer_words fx.replies in
    verbs_too answered (map call_words fx.calls)
    (verbs_too started (map answer_words fx.replies)
    (verbs_too granted (map start_words fx.starts)
    (verbs_too moved (map grant_words fx.grants)
    (verbs_too sent (map move_words fx.moves)
    (verbs_too ended (map sent_words fx.signals) (verbs_of end_words end_verb fx.ends) (verbs_of sent_words (λ s. its_verb (sent_words s) (sent_other s)) fx.signals))
    (verbs_of move_words (λ m. its_verb (move_words m) (move_other m)) fx.moves)) (verbs_of grant_words grant_verb fx.grants))
    (verbs_of start_words (λ s. its_verb (start_words s) (start_other s)) fx.starts))
    (verbs_of answer_words (λ a. its_verb (answer_words a) (answer_other a)) fx.replies))
    (verbs_of call_words (λ c. its_verb (call_words c) (call_other c)) fx.calls)

module _ (n m : ℕ) (few : n < 2 ^ 64) (other : n ≡ m → ⊥) where
  away_told : (o : Told) (rows : List Row) → after_lines m (told_lines n o) rows ≡ rows
  away_told None rows = refl
  away_told (Some p) rows =
      away_lines n m ((codes "reply" ∷ decimal p.0 ∷ p.1 ∷ []) ∷ []) rows few other (its_verb (codes "reply" ∷ decimal p.0 ∷ p.1 ∷ []) (reply_other p), tt)

  away_test : (o : Option Machine) (rows : List Row)
      → after_lines m (elim o as (λ z. List (List ℕ)) [ None ↦ [] | Some a ↦ machine_line n (test_words (test_holds a.connections (reading_now a))) ∷ [] ]) rows ≡ rows
  away_test None rows = refl
  away_test (Some a) rows =
      let ok : Bool = test_holds a.connections (reading_now a) in
      away_lines n m (test_words ok ∷ []) rows few other (its_verb (test_words ok) (test_other ok), tt)

  away_step : (t : StepTold) (rows : List Row) → after_lines m (step_lines n t) rows ≡ rows
  away_step t rows =
      lines_after m (effect_lines n t.effects) (told_lines n t.line) rows ∙ away_told t.line (after_lines m (effect_lines n t.effects) rows)
      ∙ away_lines n m (effect_words t.effects) rows few other (effect_verbs t.effects)

away_tests : (m : ℕ) (w : World) (e : Event) (rows : List Row) → machine_of e < 2 ^ 64 → (machine_of e ≡ m → ⊥) → after_lines m (test_lines w e) rows ≡ rows
away_tests m w (Test n) rows few other = away_test n m few other (machine_at w n) rows
away_tests m w (Pass d growths) rows few other = refl
away_tests m w (WakeUp n) rows few other = refl
away_tests m w (GiveCommand n text) rows few other = refl
away_tests m w (GiveLvm n line) rows few other = refl
away_tests m w (GiveAsk n) rows few other = refl
away_tests m w (Sample n c k) rows few other = refl
away_tests m w (Land n c) rows few other = refl
away_tests m w (Tear n c k bytes) rows few other = refl
away_tests m w (AnswerCall n c ok) rows few other = refl
away_tests m w (Do n c) rows few other = refl
away_tests m w (DropWrite n c) rows few other = refl
away_tests m w (ExitOf n p) rows few other = refl
away_tests m w (SpawnedOf n p ok) rows few other = refl
away_tests m w (StartDaemon n name) rows few other = refl
away_tests m w (Crash n) rows few other = refl
away_tests m w (Reset n) rows few other = refl
away_tests m w (Restart n) rows few other = refl

pub event_away : (m : ℕ) (w : World) (e : Event) (fx : Effects) (rows : List Row) → machine_of e < 2 ^ 64 → (machine_of e ≡ m → ⊥)
    → after_lines m (event_lines w e (fx ∷ [])) rows ≡ rows
event_away m w e fx rows few other =
    let n : ℕ = machine_of e in
    let t : StepTold = option_map_or (step_told (input_of w e) fx) (machine_at w n) (record { effects = fx; line = None }) in
    lines_after m (step_lines n t ++ []) (test_lines w e) rows ∙ away_tests m w e (after_lines m (step_lines n t ++ []) rows) few other
    ∙ ap (λ (ls : List (List ℕ)). after_lines m ls rows) (append-nil (step_lines n t)) ∙ away_step n m few other t rows

-- ---- on no machine

no_tests : (w : World) (e : Event) → machine_at w (machine_of e) ≡ None → test_lines w e ≡ []
no_tests w (Test n) none = ap (λ (o : Option Machine). elim o as (λ z. List (List ℕ)) [ None ↦ [] | Some a ↦ machine_line n (test_words (test_holds a.connections (reading_now a))) ∷ [] ]) none
no_tests w (Pass d growths) none = refl
no_tests w (WakeUp n) none = refl
no_tests w (GiveCommand n text) none = refl
no_tests w (GiveLvm n line) none = refl
no_tests w (GiveAsk n) none = refl
no_tests w (Sample n c k) none = refl
no_tests w (Land n c) none = refl
no_tests w (Tear n c k bytes) none = refl
no_tests w (AnswerCall n c ok) none = refl
no_tests w (Do n c) none = refl
no_tests w (DropWrite n c) none = refl
no_tests w (ExitOf n p) none = refl
no_tests w (SpawnedOf n p ok) none = refl
no_tests w (StartDaemon n name) none = refl
no_tests w (Crash n) none = refl
no_tests w (Reset n) none = refl
no_tests w (Restart n) none = refl

pub event_nowhere : (m : ℕ) (w : World) (e : Event) (rows : List Row) → machine_at w (machine_of e) ≡ None → after_lines m (event_lines w e (no_effects ∷ [])) rows ≡ rows
event_nowhere m w e rows none =
    ap (λ (o : Option Machine). after_lines m (lines_by w e (option_map_or (step_told (input_of w e) no_effects) o (record { effects = no_effects; line = None }))) rows) none
    ∙ ap (λ (ls : List (List ℕ)). after_lines m ls rows) (no_tests w e none)
