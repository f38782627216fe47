-- What a running job waits for stays as a step goes on, and at its end the job is busy.
use Rattle.sl_due_facts.specs.Acts.TraceSoFar.{entry_of}
use Rattle.sl_due.specs.Steps.{Step, add_call_of, add_end, add_grant, add_move, add_reply, add_signal, add_start, seen}
use Rattle.sl_due_law.specs.LawfulTraces.Busy.{For_call, For_child, For_leaving, For_session, Waits}
use Rattle.sl_due_facts.proofs.Jobs.JobsAreNumbered.{found_before}
use Rattle.sl_due_facts.proofs.Jobs.NearlyPlainActs.{Nearly}
use Rattle.sl_due_facts.proofs.Jobs.SessionsHaveJobs.{left_in}
use Rattle.sl_due_facts.proofs.Jobs.SessionsStand.{reply_stops, running_before}
use Rattle.sl_due_facts.proofs.AddedEffects.CallsGrow.{any_more, same_sessions}
use Rattle.sl_due_facts.proofs.AddedEffects.EffectsAreTold.{effects_are_told}
use Rattle.sl_words.proofs.Lists.{contains_first, contains_map, contains_more, contains_none, got_inside, in_map}
use Rattle.sl_trace.specs.Sessions.{is_joined, leaves, leaving_in, leaving_job, sessions}
use Rattle.sl_trace.specs.declared.session.Session.{Session}
use Rattle.sl_trace.proofs.TraceFacts.{submitted-push}
use Rattle.sl_trace.specs.Traces.{Answered, Child, Job, Setting, Submitted, Trace, answer_of, answered_in, children, is_running, jobs, line_in, mark, new_call, new_child, next_call, next_job, submitted}
use Rattle.sl_trace.specs.declared.effects.Call.{Call}
use Rattle.sl_trace.specs.declared.effects.Entry.{Entry}
use Rattle.sl_trace.specs.declared.effects.JobReply.{JobReply}
use Rattle.sl_trace.specs.declared.effects.Op.{Op}
use Rattle.sl_trace.specs.declared.effects.Purpose.{Purpose}
use Rattle.sl_trace.specs.declared.effects.Start.{Start}
use Rattle.sl_trace.specs.declared.input.Input.{Input}
use Rattle.sl_trace.specs.declared.input.Input.TheVariants.{Answer as Told, Exit, Line, Number, Spawned, Wake}
use Rattle.sl_trace.specs.declared.reply.Reply.{Reply}
use Rattle.sl_run_law.proofs.Sessions.CallsAreMade.{IsNewCall, old_or_new, old_stays}
use Rattle.sl_words.proofs.CaseLaws.{is_false, none_some, not_both, some_value}
use Rattle.sl_words.specs.Words.{choose}
use Rattle.std.proofs.Common.{ap, ap₂, inl, inr, refl, subst, sym, ◌∙◌}
use Rattle.std.proofs.lemmas.Bool.{eqb-true}
use Rattle.std.specs.List.{list_any}
use Rattle.std.specs.Option.{option_or}
use Rattle.std.specs.Prelude.{Bool, Contains, List, None, Option, Some, [], false, find, fold, length, map, not, slice_get, suc, true, zero, ℕ, ◌&&◌, ◌++◌, ◌==◌, ◌∷◌, ◌≡◌, ◌⊎◌}

-- ---- the same in another trace

pub waits_again : (st : Setting) (t u : Trace) (heard told : Option ℕ) (j : ℕ) → sessions st t ≡ sessions st u → submitted t ≡ submitted u → children t ≡ children u → ((s : Session) → leaving_job st t s ≡ leaving_job st u s)
    → Waits st t heard told j → Waits st u heard told j
waits_again st t u heard told j ss ms ks leaving (For_session s there its) = For_session s (subst (λ zs. Contains zs s) ss there) its
waits_again st t u heard told j ss ms ks leaving (For_call m there opens of) = For_call m (subst (λ zs. Contains zs m) ms there) opens of
waits_again st t u heard told j ss ms ks leaving (For_child k there its opens) = For_child k (ap (λ zs. find (λ (c : Child). c.process == k.process) zs) (sym ks) ∙ there) its opens
waits_again st t u heard told j ss ms ks leaving (For_leaving s k there is number) = For_leaving s k (subst (λ zs. Contains zs s) ss there) (sym (leaving s) ∙ is) number

-- ---- a reply

-- A call without an answer has none after a reply.
pub open_replied : (past : Trace) (e f : Entry) (m : Submitted) → e.reading ≡ f.reading → e.input ≡ f.input → e.effects.calls ≡ f.effects.calls → Contains (submitted (e ∷ past)) m → m.answer ≡ None → Contains (submitted (f ∷ past)) m
open_replied past e f m reading input calls there opens = subst (λ ms. Contains ms m) (same calls) (by (old_or_new (length past) e.reading e.effects.calls (mark past e e.input (submitted past)) m there)) where
  same : e.effects.calls ≡ f.effects.calls → fold (λ ms c. new_call (length past) e.reading c ∷ ms) (mark past f f.input (submitted past)) e.effects.calls ≡ submitted (f ∷ past)
  same is = ap₂ (λ r cs. fold (λ ms c. new_call (length past) r c ∷ ms) (mark past f f.input (submitted past)) cs) reading is

  marked : (i : Input) → Contains (mark past e i (submitted past)) m → Contains (mark past f i (submitted past)) m
  marked (Told n a) inside = told (in_map (answered_in past e n a) (submitted past) m inside) where
    told : (d : Submitted) × Contains (submitted past) d × (answered_in past e n a d ≡ m) → Contains (map (answered_in past f n a) (submitted past)) m
    told d = number (d.0.call.number == n) refl where
      number : (b : Bool) → (d.0.call.number == n) ≡ b → Contains (map (answered_in past f n a) (submitted past)) m
      number false other =
          let unmarked : d.0 ≡ m = sym (ap (λ b. elim b as (λ z. Submitted) [ false ↦ d.0 | true ↦ record (d.0) { answer = option_or d.0.answer (Some (answer_of past e a d.0.call)) } ]) other) ∙ d.2 in
          let here : answered_in past f n a d.0 ≡ d.0 = ap (λ b. elim b as (λ z. Submitted) [ false ↦ d.0 | true ↦ record (d.0) { answer = option_or d.0.answer (Some (answer_of past f a d.0.call)) } ]) other in
          subst (λ z. Contains (map (answered_in past f n a) (submitted past)) z) (here ∙ unmarked) (contains_map (answered_in past f n a) (submitted past) d.0 d.1)
      number true mine =
          let answered : option_or d.0.answer (Some (answer_of past e a d.0.call)) ≡ m.answer =
          sym (ap (λ b. (elim b as (λ z. Submitted) [ false ↦ d.0 | true ↦ record (d.0) { answer = option_or d.0.answer (Some (answer_of past e a d.0.call)) } ]).answer) mine) ∙ ap (λ (z : Submitted). z.answer) d.2
          in
          absurd (some_left d.0.answer (answer_of past e a d.0.call) (answered ∙ opens))
        where
          some_left : (o : Option Answered) (b : Answered) → option_or o (Some b) ≡ None → ⊥
          some_left None b is = none_some b (sym is)
          some_left (Some c) b is = none_some c (sym is)
  marked (Line text) inside = inside
  marked (Number text) inside = inside
  marked (Exit p) inside = inside
  marked (Spawned p ok) inside = inside
  marked Wake inside = inside

  by : Contains (mark past e e.input (submitted past)) m ⊎ IsNewCall (length past) e.reading e.effects.calls m → Contains (fold (λ ms c. new_call (length past) e.reading c ∷ ms) (mark past f f.input (submitted past)) e.effects.calls) m
  by (inl old) = old_stays (length past) e.reading e.effects.calls (mark past f f.input (submitted past)) m (subst (λ i. Contains (mark past f i (submitted past)) m) input (marked e.input old))
  by (inr new) = new_stays e.effects.calls (mark past f f.input (submitted past)) new.index new.call where
    rebuilt : (c : Call) → m.call ≡ c → new_call (length past) e.reading c ≡ m
    rebuilt c is = four m (length past) e.reading c new.place new.reading_is is new.unmet where
      four : (d : Submitted) (at now : ℕ) (k : Call) → d.at ≡ at → d.reading ≡ now → d.call ≡ k → d.answer ≡ None → new_call at now k ≡ d
      four d at now k p q r s = sym (ap (λ z. record { at = z; reading = d.reading; call = d.call; answer = d.answer }) p ∙ (ap (λ z. record { at = at; reading = z; call = d.call; answer = d.answer }) q ∙ (ap (λ z. record { at = at; reading = now; call = z; answer = d.answer }) r ∙ ap (λ z. record { at = at; reading = now; call = k; answer = z }) s)))

    new_stays : (cs : List Call) (ms : List Submitted) (i : ℕ) → slice_get cs i ≡ Some m.call → Contains (fold (λ ds c. new_call (length past) e.reading c ∷ ds) ms cs) m
    new_stays [] ms i at = absurd (contains_none m.call (got_inside [] i m.call at))
    new_stays (c ∷ cs) ms zero at =
        old_stays (length past) e.reading cs (new_call (length past) e.reading c ∷ ms) m
        (subst (λ z. Contains (new_call (length past) e.reading c ∷ ms) z) (rebuilt c (sym (some_value c m.call at))) (contains_first (new_call (length past) e.reading c) ms))
    new_stays (c ∷ cs) ms (suc i) at = new_stays cs (new_call (length past) e.reading c ∷ ms) i at

-- ---- a leaving that no reply undoes

pub leaving_replied : (y : Step) (i : ℕ) (r : Reply) (s : Session) (k : Job) → leaving_job y.setting (seen y) s ≡ Some k → (i ≡ k.number → ⊥) → leaving_job y.setting (seen (add_reply i r y)) s ≡ Some k
leaving_replied y i r s k is other = by (leaving_job y.setting y.past s) is where
  unmoved : leaving_in y.setting y.past s (entry_of y) ≡ Some k → list_any (λ (a : JobReply). a.job == next_job y.setting y.past) (y.effects.replies ++ record { job = i; reply = r } ∷ []) ≡ list_any (λ (a : JobReply). a.job == next_job y.setting y.past) y.effects.replies
  unmoved h =
      any_more (λ (a : JobReply). a.job == next_job y.setting y.past) y.effects.replies (record { job = i; reply = r })
      (is_false (i == next_job y.setting y.past) (λ same. other (eqb-true i (next_job y.setting y.past) same ∙ ap (λ (z : Job). z.number) (left_in y.setting y.past s (entry_of y) k h).3)))

  by : (o : Option Job) → (elim o as (λ z. Option Job) [ Some a ↦ Some a | None ↦ leaving_in y.setting y.past s (entry_of y) ]) ≡ Some k
      → (elim o as (λ z. Option Job) [ Some a ↦ Some a | None ↦ leaving_in y.setting y.past s (entry_of (add_reply i r y)) ]) ≡ Some k
  by (Some a) h = h
  by None h =
      ap (λ b. elim (line_in y.input) as (λ z. Option Job) [
        | None ↦ None
        | Some text ↦ elim (leaves s (y.setting.read text)) as (λ z. Option Job) [
          | false ↦ None
          | true ↦ choose (is_joined y.past s && not b) (record { number = next_job y.setting y.past; at = length y.past; reading = y.reading; command = y.setting.read text })
        ]
      ]) (unmoved h)
      ∙ h

-- ---- each effect

waits_replied : (y : Step) (told : Option ℕ) (i : ℕ) (r : Reply) (j : ℕ) → (i ≡ j → ⊥) → Waits y.setting (seen y) None told j → Waits y.setting (seen (add_reply i r y)) None told j
waits_replied y told i r j other (For_session s there its) = For_session s there its
waits_replied y told i r j other (For_call m there (inl opens) of) = For_call m (open_replied y.past (entry_of y) (entry_of (add_reply i r y)) m refl refl refl there opens) (inl opens) of
waits_replied y told i r j other (For_call m there (inr heard) of) = absurd (none_some m.call.number heard)
waits_replied y told i r j other (For_child k there its opens) = For_child k there its opens
waits_replied y told i r j other (For_leaving s k there is number) = For_leaving s k there (leaving_replied y i r s k is (λ same. other (same ∙ number))) number

pub waits_called : (y : Step) (told : Option ℕ) (n : ℕ) (path : List ℕ) (p : Purpose) (o : ℕ) (op : Op) (j : ℕ) → ((s : Session) → Contains (sessions y.setting (seen y)) s → Contains (sessions y.setting (seen (add_call_of n path p o op y))) s)
    → Waits y.setting (seen y) None told j → Waits y.setting (seen (add_call_of n path p o op y)) None told j
waits_called y told n path p o op j grows (For_session s there its) = For_session s (grows s there) its
waits_called y told n path p o op j grows (For_call m there opens of) =
    let c : Call = record { number = next_call y.setting (seen y); session = n; purpose = p; path = path; offset = o; op = op } in
    For_call m (subst (λ ms. Contains ms m) (sym (submitted-push y.past (entry_of y) c)) (contains_more (new_call (length y.past) y.reading c) (submitted (seen y)) m there)) opens of
waits_called y told n path p o op j grows (For_child k there its opens) = For_child k there its opens
waits_called y told n path p o op j grows (For_leaving s k there is number) = For_leaving s k (grows s there) is number

waits_started : (y : Step) (told : Option ℕ) (k : Start) (j : ℕ) → Waits y.setting (seen y) None told j → Waits y.setting (seen (add_start k y)) None told j
waits_started y told k j (For_session s there its) = For_session s there its
waits_started y told k j (For_call m there opens of) = For_call m there opens of
waits_started y told k j (For_child c there its opens) =
    For_child c (ap (λ ks. find (λ (d : Child). d.process == c.process) ks) (effects_are_told.starts k (entry_of y) y.past) ∙ found_before (λ (d : Child). d.process == c.process) (children (seen y)) (new_child k ∷ []) c there) its opens
waits_started y told k j (For_leaving s c there is number) = For_leaving s c there is number

-- All jobs but one that need not wait yet.
abbrev pub AllButWait : Option ℕ → Option ℕ → Step → Type 0
AllButWait told new z = (j : Job) → Contains (jobs z.setting (seen z)) j → is_running (seen z) j.number ≡ true → (Some j.number ≡ new → ⊥) → Waits z.setting (seen z) None told j.number

pub waits_effects : (told new : Option ℕ) → Nearly (AllButWait told new)
waits_effects told new =
    record {
      ends = λ y e h j there runs other. waits_again y.setting (seen y) (seen (add_end e y)) None told j.number refl refl refl (λ s. refl) (h j there runs other);
      signals = λ y q signal h j there runs other. waits_again y.setting (seen y) (seen (add_signal q signal y)) None told j.number refl refl refl (λ s. refl) (h j there runs other);
      moves = λ y m may h j there runs other. waits_again y.setting (seen y) (seen (add_move m y)) None told j.number refl refl refl (λ s. refl) (h j there runs other);
      grants = λ y g h j there runs other. waits_again y.setting (seen y) (seen (add_grant g y)) None told j.number refl refl refl (λ s. refl) (h j there runs other);
      starts = λ y k may h j there runs other. waits_started y told k j.number (h j there runs other);
      replies = λ y i r may h j there runs other.
          waits_replied y told i r j.number (λ same. not_both (is_running (seen (add_reply i r y)) j.number) runs (subst (λ n. is_running (seen (add_reply i r y)) n ≡ false) same (reply_stops y i r)))
          (h j there (running_before y i r j.number runs) other);
      calls = λ y s path p o op no_look h j there runs other.
          waits_called y told s.number path p o op j.number (λ z inside. subst (λ ss. Contains ss z) (sym (same_sessions y.setting (entry_of y) y.past (record { number = next_call y.setting (seen y); session = s.number; purpose = p; path = path; offset = o; op = op }) no_look)) inside)
          (h j there runs other);
      rest = λ y h. h;
    }
