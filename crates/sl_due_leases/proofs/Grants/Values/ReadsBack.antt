-- What stands while a value is read, and what each effect leaves of it.
use Rattle.sl_due_facts.specs.Acts.TraceSoFar.{entry_of}
use Rattle.sl_due.specs.Steps.{Step, add_call_of, add_end, add_grant, add_move, add_reply, add_signal, add_start, seen}
use Rattle.sl_due_leases.proofs.Grants.OthersGoOn.{CallsOn, GoesOn, next_start}
use Rattle.sl_due_leases.proofs.Grants.WorksByEffects.{ran_before}
use Rattle.sl_due_leases.specs.Grants.ValueLaws.{HasValueFacts}
use Rattle.sl_due_leases.proofs.Holdings.HoldingsByCalls.{call_added, not_last}
use Rattle.sl_due_leases.proofs.Holdings.HoldingsByEffects.{SameCalls, next_less}
use Rattle.sl_due_leases.specs.Holdings.Moments.{Known}
use Rattle.sl_run.specs.LawfulArea.{is_area_work}
use Rattle.sl_run.specs.LawfulValue.{held_since, writes_since}
use Rattle.sl_trace.specs.Jobs.{command_numbered}
use Rattle.sl_trace.specs.Leases.{holdings_on, is_on, spot_of_call}
use Rattle.sl_due_facts.proofs.AddedEffects.CallsGrow.{same_sessions}
use Rattle.sl_due_facts.proofs.AddedEffects.EffectsAreTold.{effects_are_told}
use Rattle.sl_words.proofs.Lists.{contains_cases, contains_none, kept, kept_inside}
use Rattle.sl_words.proofs.Options.{some_of}
use Rattle.sl_trace.specs.Sessions.{holdings_of, is_call_of, is_join_call, session_numbered}
use Rattle.sl_trace.specs.declared.session.Session.{Session}
use Rattle.sl_due_facts.specs.Facts.HeardCall.{IsOpen, heard_by}
use Rattle.sl_due_facts.specs.Facts.JobFacts.{FitsCommand}
use Rattle.sl_due_facts.specs.Facts.ValueFacts.{IsReading, ValueFacts}
use Rattle.sl_trace.proofs.TraceFacts.{submitted-push}
use Rattle.sl_trace.specs.Traces.{Child, Setting, Submitted, Trace, answer_of, answered_in, child_numbered, children, first_child, holdings, is_ended_by, is_write, job_of, mark, new_call, new_child, next_child, same_place, submitted}
use Rattle.sl_trace.specs.declared.command.Command.{Command}
use Rattle.sl_trace.specs.declared.command.Command.TheVariants.{GetLvb}
use Rattle.sl_trace.specs.declared.command.ResourceArg.{ResourceArg}
use Rattle.sl_trace.specs.declared.effects.Call.{Call}
use Rattle.sl_trace.specs.declared.effects.End.{End}
use Rattle.sl_trace.specs.declared.effects.Entry.{Entry}
use Rattle.sl_trace.specs.declared.effects.Grant.{Grant}
use Rattle.sl_trace.specs.declared.effects.JoinStep.TheVariants.{FirstRead}
use Rattle.sl_trace.specs.declared.effects.Move.{Move}
use Rattle.sl_trace.specs.declared.effects.Op.{Op}
use Rattle.sl_trace.specs.declared.effects.Purpose.{Purpose}
use Rattle.sl_trace.specs.declared.effects.Purpose.TheVariants.{ValueRead}
use Rattle.sl_trace.specs.declared.effects.Signal.{Signal}
use Rattle.sl_trace.specs.declared.effects.Spot.{Spot}
use Rattle.sl_trace.specs.declared.effects.Start.{Start}
use Rattle.sl_trace.specs.declared.input.Answer.{Answer}
use Rattle.sl_trace.specs.declared.input.Input.{Input}
use Rattle.sl_trace.specs.declared.input.Input.TheVariants.{Answer as Told, Exit, Line, Number, Spawned, Wake}
use Rattle.sl_trace.specs.declared.reply.Reply.{Reply}
use Rattle.sl_words.proofs.CaseLaws.{is_false, none_some, some_value, true_is_false}
use Rattle.sl_words.proofs.WordLaws.{and_true}
use Rattle.std.proofs.Common.{ap, arith, inl, inr, refl, subst, sym, ◌∙◌}
use Rattle.std.proofs.lemmas.Bool.{eqb-true, lt-ltb}
use Rattle.std.proofs.lemmas.List.Elements.{Contains-append_cases, Contains-append_left, Contains-append_right}
use Rattle.std.specs.List.{list_any}
use Rattle.std.specs.Option.{option_or}
use Rattle.std.specs.Prelude.{Bool, Contains, List, None, Option, Some, [], cond, false, filter, find, fold, length, map, nat_le, nat_lt, not, slice_get, true, ℕ, ◌&&◌, ◌++◌, ◌<◌, ◌==◌, ◌||◌, ◌∷◌, ◌≡◌, ◌≤◌, ◌⊎◌}

-- What stands on an area while a process of the session reads a value there, since that entry.
pub record Guarded (st : Setting) (s : Session) (at : Spot) (since p : ℕ) (y : Step) : Type 0 where
  pub before : held_since since y.past s at ≡ true
  pub calm : writes_since st since (seen y) s at ≡ false
  pub holder : (g : Grant) × Contains (holdings_on (seen y) s at) g × (g.process ≡ p)
  pub born : p < next_child (seen y)
  pub started : (k : Child) → child_numbered (seen y) p ≡ Some k → k.answer ≡ Some true

-- ---- the writes of a session

abbrev is_late_write : Setting → ℕ → Spot → Submitted → Bool
is_late_write st since at m = is_area_work m.call.purpose && (nat_le since m.at && (is_write m.call.op && is_on st.layout at m.call))

abbrev writes_in : Setting → ℕ → Session → Spot → List Submitted → Bool
writes_in st since s at ms = list_any (is_late_write st since at) (filter (is_call_of s) ms)

-- They are told by the calls alone.
one_write : (st : Setting) (since : ℕ) (s : Session) (at : Spot) (m : Submitted) (ms : List Submitted) → writes_in st since s at (m ∷ ms) ≡ ((is_call_of s m && is_late_write st since at m) || writes_in st since s at ms)
one_write st since s at m ms = by (is_call_of s m) where
  by : (b : Bool) → list_any (is_late_write st since at) (cond b (m ∷ filter (is_call_of s) ms) (filter (is_call_of s) ms)) ≡ ((b && is_late_write st since at m) || writes_in st since s at ms)
  by true = refl
  by false = refl

marked_write : (st : Setting) (since : ℕ) (s : Session) (at : Spot) (past : Trace) (e : Entry) (n : ℕ) (w : Answer) (m : Submitted)
    → (is_call_of s (answered_in past e n w m) && is_late_write st since at (answered_in past e n w m)) ≡ (is_call_of s m && is_late_write st since at m)
marked_write st since s at past e n w m = by (m.call.number == n) where
  by : (b : Bool) → (let k : Submitted = elim b as (λ z. Submitted) [ false ↦ m | true ↦ record m { answer = option_or m.answer (Some (answer_of past e w m.call)) } ] in is_call_of s k && is_late_write st since at k)
      ≡ (is_call_of s m && is_late_write st since at m)
  by true = refl
  by false = refl

all_marked : (st : Setting) (since : ℕ) (s : Session) (at : Spot) (past : Trace) (e : Entry) (n : ℕ) (w : Answer) (ms : List Submitted) → writes_in st since s at (map (answered_in past e n w) ms) ≡ writes_in st since s at ms
all_marked st since s at past e n w [] = refl
all_marked st since s at past e n w (m ∷ ms) =
    one_write st since s at (answered_in past e n w m) (map (answered_in past e n w) ms)
    ∙ (ap (λ b. b || writes_in st since s at (map (answered_in past e n w) ms)) (marked_write st since s at past e n w m)
    ∙ (ap (λ b. (is_call_of s m && is_late_write st since at m) || b) (all_marked st since s at past e n w ms) ∙ sym (one_write st since s at m ms)))

marked : (st : Setting) (since : ℕ) (s : Session) (at : Spot) (past : Trace) (e : Entry) (i : Input) (ms : List Submitted) → writes_in st since s at (mark past e i ms) ≡ writes_in st since s at ms
marked st since s at past e (Told n w) ms = all_marked st since s at past e n w ms
marked st since s at past e (Line text) ms = refl
marked st since s at past e (Number text) ms = refl
marked st since s at past e (Exit p) ms = refl
marked st since s at past e (Spawned p ok) ms = refl
marked st since s at past e Wake ms = refl

pushed : (st : Setting) (since : ℕ) (s : Session) (at : Spot) (k reading : ℕ) (cs : List Call) (xs ys : List Submitted) → writes_in st since s at xs ≡ writes_in st since s at ys
    → writes_in st since s at (fold (λ ms c. new_call k reading c ∷ ms) xs cs) ≡ writes_in st since s at (fold (λ ms c. new_call k reading c ∷ ms) ys cs)
pushed st since s at k reading [] xs ys same = same
pushed st since s at k reading (c ∷ cs) xs ys same =
    pushed st since s at k reading cs (new_call k reading c ∷ xs) (new_call k reading c ∷ ys)
    (one_write st since s at (new_call k reading c) xs ∙ (ap (λ b. (is_call_of s (new_call k reading c) && is_late_write st since at (new_call k reading c)) || b) same ∙ sym (one_write st since s at (new_call k reading c) ys)))

-- What was written before, and the entry's calls.
abbrev plain_writes : Setting → ℕ → Session → Spot → Trace → ℕ → List Call → Bool
plain_writes st since s at past reading cs = writes_in st since s at (fold (λ ms c. new_call (length past) reading c ∷ ms) (submitted past) cs)

pub writes_are : (st : Setting) (since : ℕ) (s : Session) (at : Spot) (e : Entry) (past : Trace) → writes_since st since (e ∷ past) s at ≡ plain_writes st since s at past e.reading e.effects.calls
writes_are st since s at e past = pushed st since s at (length past) e.reading e.effects.calls (mark past e e.input (submitted past)) (submitted past) (marked st since s at past e e.input (submitted past))

-- ---- what effects leave of it

pub guard_signal : (st : Setting) (s : Session) (at : Spot) (since p : ℕ) (y : Step) (q : ℕ) (g : Signal) → Guarded st s at since p y → Guarded st s at since p (add_signal q g y)
guard_signal st s at since p y q g h = record { before = h.before; calm = h.calm; holder = h.holder; born = h.born; started = h.started }

pub guard_move : (st : Setting) (s : Session) (at : Spot) (since p : ℕ) (y : Step) (m : Move) → Guarded st s at since p y → Guarded st s at since p (add_move m y)
guard_move st s at since p y m h = record { before = h.before; calm = h.calm; holder = h.holder; born = h.born; started = h.started }

pub guard_reply : (st : Setting) (s : Session) (at : Spot) (since p : ℕ) (y : Step) (j : ℕ) (r : Reply) → Guarded st s at since p y → Guarded st s at since p (add_reply j r y)
guard_reply st s at since p y j r h =
    record {
      before = h.before;
      calm = writes_are st since s at (entry_of (add_reply j r y)) y.past ∙ (sym (writes_are st since s at (entry_of y) y.past) ∙ h.calm);
      holder = h.holder;
      born = h.born;
      started = h.started;
    }

found_last : (p : ℕ) (ks : List Child) (new : Child) (k : Child) → (new.process == p) ≡ false → find (λ (c : Child). c.process == p) (ks ++ new ∷ []) ≡ Some k → find (λ (c : Child). c.process == p) ks ≡ Some k
found_last p [] new k other is = absurd (none_some k (sym (ap (λ b. cond b (Some new) None) other) ∙ is))
found_last p (c ∷ ks) new k other is = by (c.process == p) is (λ rest. found_last p ks new k other rest) where
  by : (b : Bool) → cond b (Some c) (find (λ (d : Child). d.process == p) (ks ++ new ∷ [])) ≡ Some k
      → (find (λ (d : Child). d.process == p) (ks ++ new ∷ []) ≡ Some k → find (λ (d : Child). d.process == p) ks ≡ Some k) → cond b (Some c) (find (λ (d : Child). d.process == p) ks) ≡ Some k
  by true at rest = at
  by false at rest = rest at

later_number : (p n : ℕ) → p < n → (n == p) ≡ false
later_number p n less = is_false (n == p) (λ is. never p n less (eqb-true n p is)) where
  never : (p n : ℕ) → p < n → n ≡ p → ⊥
  never p n less is = omega (arith, less, is)

pub guard_start : (st : Setting) (s : Session) (at : Spot) (since p : ℕ) (y : Step) (program : List ℕ) (job stood : Option ℕ) → Guarded st s at since p y → Guarded st s at since p (add_start (next_start y program job stood) y)
guard_start st s at since p y program job stood h =
    let v : Start = next_start y program job stood in
    let more : children (seen (add_start v y)) ≡ children (seen y) ++ new_child v ∷ [] = effects_are_told.starts v (entry_of y) y.past in
    record {
      before = h.before;
      calm = h.calm;
      holder = h.holder;
      born = further p (next_child (seen y)) (next_child (seen (add_start v y))) h.born (next_less y.past (entry_of y) v);
      started = λ k is.
          h.started k (found_last p (children (seen y)) (new_child v) k (later_number p (next_child (seen y)) h.born) (subst (λ ks. find (λ (c : Child). c.process == p) ks ≡ Some k) more is));
    }
  where
    further : (a b c : ℕ) → a < b → b < c → a < c
    further a b c first second = omega (arith, first, second)

-- More is held.
pub guard_grant : (st : Setting) (s : Session) (at : Spot) (since p : ℕ) (y : Step) (g : Grant) → Guarded st s at since p y → Guarded st s at since p (add_grant g y)
guard_grant st s at since p y g h =
    record { before = h.before; calm = h.calm; holder = (h.holder.0, more, h.holder.2); born = h.born; started = h.started } where
      e : Grant
      e = h.holder.0

      more : Contains (holdings_on (seen (add_grant g y)) s at) e
      more =
          let on = kept_inside (λ (k : Grant). same_place k.path k.offset at.path at.base) (holdings_of (seen y) s) e h.holder.1 in
          let of = kept_inside (λ (k : Grant). k.session == s.number) (holdings (seen y)) e on.0 in
          kept (λ (k : Grant). same_place k.path k.offset at.path at.base) (holdings_of (seen (add_grant g y)) s) e on.1
          (kept (λ (k : Grant). k.session == s.number) (holdings (seen (add_grant g y))) e of.1
          (subst (λ hs. Contains hs e) (sym (effects_are_told.grants g (entry_of y) y.past)) (Contains-append_left (holdings (seen y)) (g ∷ []) e of.0)))

-- An end of another's.
pub end_spares : (x : Step) (e : End) (g : Grant) → (e.process == g.process && same_place e.path e.offset g.path g.offset) ≡ false → Contains (holdings (seen x)) g → Contains (holdings (seen (add_end e x))) g
end_spares x e g other there = by (Contains-append_cases left x.effects.grants g there) where
  left : List Grant
  left = filter (λ (k : Grant). not (is_ended_by x.effects.ends k)) (holdings x.past)

  told : holdings (seen (add_end e x)) ≡ filter (λ k. not (is_ended_by (e ∷ []) k)) left ++ x.effects.grants
  told = effects_are_told.ends e (entry_of x) x.past

  spared : not (is_ended_by (e ∷ []) g) ≡ true
  spared = ap (λ b. not (b || false)) other

  by : Contains left g ⊎ Contains x.effects.grants g → Contains (holdings (seen (add_end e x))) g
  by (inl old) = subst (λ hs. Contains hs g) (sym told) (Contains-append_left (filter (λ k. not (is_ended_by (e ∷ []) k)) left) x.effects.grants g (kept (λ k. not (is_ended_by (e ∷ []) k)) left g spared old))
  by (inr new) = subst (λ hs. Contains hs g) (sym told) (Contains-append_right (filter (λ k. not (is_ended_by (e ∷ []) k)) left) x.effects.grants g new)

pub guard_end : (st : Setting) (s : Session) (at : Spot) (since p : ℕ) (y : Step) (e : End)
    → ((g : Grant) → same_place g.path g.offset at.path at.base ≡ true → g.process ≡ p → (e.process == g.process && same_place e.path e.offset g.path g.offset) ≡ false) → Guarded st s at since p y → Guarded st s at since p (add_end e y)
guard_end st s at since p y e other h =
    record { before = h.before; calm = h.calm; holder = (h.holder.0, stays, h.holder.2); born = h.born; started = h.started } where
      g : Grant
      g = h.holder.0

      stays : Contains (holdings_on (seen (add_end e y)) s at) g
      stays =
          let on = kept_inside (λ (k : Grant). same_place k.path k.offset at.path at.base) (holdings_of (seen y) s) g h.holder.1 in
          let of = kept_inside (λ (k : Grant). k.session == s.number) (holdings (seen y)) g on.0 in
          kept (λ (k : Grant). same_place k.path k.offset at.path at.base) (holdings_of (seen (add_end e y)) s) g on.1
          (kept (λ (k : Grant). k.session == s.number) (holdings (seen (add_end e y))) g of.1 (end_spares y e g (other g on.1 h.holder.2) of.0))

-- A call that isn't the session's work on the area.
pub calm_call : (st : Setting) (s : Session) (at : Spot) (since : ℕ) (y : Step) (n : ℕ) (path : List ℕ) (q : Purpose) (o : ℕ) (op : Op)
    → ((n == s.number) ≡ true → (is_area_work q && (is_write op && is_on st.layout at (call_added n path q o op y))) ≡ false) → writes_since st since (seen y) s at ≡ false
    → writes_since st since (seen (add_call_of n path q o op y)) s at ≡ false
calm_call st s at since y n path q o op other h =
    ap (λ ms. writes_in st since s at ms) (submitted-push y.past (entry_of y) c)
    ∙ (one_write st since s at v (submitted (seen y)) ∙ (ap (λ d. d || writes_in st since s at (submitted (seen y))) (by (n == s.number) refl) ∙ h))
  where
    c : Call
    c = call_added n path q o op y

    v : Submitted
    v = new_call (length y.past) y.reading c

    apart : (a b d : Bool) → (a && d) ≡ false → (a && (b && d)) ≡ false
    apart true true d is = is
    apart true false d is = refl
    apart false b d is = refl

    by : (b : Bool) → (n == s.number) ≡ b → (is_call_of s v && is_late_write st since at v) ≡ false
    by true mine = ap (λ d. d && is_late_write st since at v) mine ∙ apart (is_area_work q) (nat_le since (length y.past)) (is_write op && is_on st.layout at c) (other mine)
    by false mine = ap (λ d. d && is_late_write st since at v) mine

pub guard_call : (st : Setting) (s : Session) (at : Spot) (since p : ℕ) (y : Step) (n : ℕ) (path : List ℕ) (q : Purpose) (o : ℕ) (op : Op)
    → ((n == s.number) ≡ true → (is_area_work q && (is_write op && is_on st.layout at (call_added n path q o op y))) ≡ false) → Guarded st s at since p y → Guarded st s at since p (add_call_of n path q o op y)
guard_call st s at since p y n path q o op other h =
    record { before = h.before; calm = calm_call st s at since y n path q o op other h.calm; holder = h.holder; born = h.born; started = h.started }

-- ---- readings go on

abbrev pub IsRead : Step → Step → Submitted → ℕ → Session → Type 0
IsRead x z m j s = IsReading x.setting (seen z) (heard_by z.input) m j s

-- Children have numbers of their own.
abbrev pub AllAbove : Trace → Type 0
AllAbove t = (k : Child) → Contains (children t) k → first_child ≤ k.process

-- Each reading of the later step was one, and what stood goes on.
pub record ReadsBack (x z : Step) : Type 0 where
  pub setting : z.setting ≡ x.setting
  pub back : (m : Submitted) (j : ℕ) (s : Session) → IsRead x z m j s → IsRead x x m j s
  pub command : (m : Submitted) (j : ℕ) (s : Session) (c : Command) → IsRead x z m j s → command_numbered x.setting (seen z) j ≡ Some c → command_numbered x.setting (seen x) j ≡ Some c
  pub guard : (m : Submitted) (j : ℕ) (s : Session) (r : ResourceArg) (p : ℕ) → IsRead x z m j s → command_numbered x.setting (seen x) j ≡ Some (GetLvb r p) → Guarded x.setting s (spot_of_call x.setting.layout m) m.at p x
      → Guarded x.setting s (spot_of_call x.setting.layout m) m.at p z
  pub above : AllAbove (seen x) → AllAbove (seen z)

pub reads_itself : (x : Step) → ReadsBack x x
reads_itself x = record { setting = refl; back = λ m j s k. k; command = λ m j s c k is. is; guard = λ m j s r p k is g. g; above = λ a. a }

-- Through one more step.
pub through : (x y z : Step) → ReadsBack x y → z.setting ≡ y.setting → ((m : Submitted) (j : ℕ) (s : Session) → IsRead x z m j s → IsRead x y m j s)
    → ((m : Submitted) (j : ℕ) (s : Session) (c : Command) → IsRead x z m j s → command_numbered x.setting (seen z) j ≡ Some c → command_numbered x.setting (seen y) j ≡ Some c)
    → ((m : Submitted) (j : ℕ) (s : Session) (r : ResourceArg) (p : ℕ) → IsRead x z m j s → command_numbered x.setting (seen x) j ≡ Some (GetLvb r p) → Guarded x.setting s (spot_of_call x.setting.layout m) m.at p x
    → Guarded x.setting s (spot_of_call x.setting.layout m) m.at p y → Guarded x.setting s (spot_of_call x.setting.layout m) m.at p z)
    → (AllAbove (seen y) → AllAbove (seen z)) → ReadsBack x z
through x y z h setting back command guard above =
    record {
      setting = setting ∙ h.setting;
      back = λ m j s k. h.back m j s (back m j s k);
      command = λ m j s c k is. h.command m j s c (back m j s k) (command m j s c k is);
      guard = λ m j s r p k is w. guard m j s r p k is w (h.guard m j s r p (back m j s k) is w);
      above = λ a. above (h.above a);
    }

pub signal_reads : (x y : Step) (q : ℕ) (g : Signal) → ReadsBack x y → ReadsBack x (add_signal q g y)
signal_reads x y q g h =
    through x y (add_signal q g y) h refl (λ m j s k. record { there = k.there; opens = k.opens; purpose = k.purpose; runs = k.runs; session = k.session }) (λ m j s c k is. is)
    (λ m j s r p k is w u. guard_signal x.setting s (spot_of_call x.setting.layout m) m.at p y q g u) (λ a. a)

pub move_reads : (x y : Step) (move : Move) → ReadsBack x y → ReadsBack x (add_move move y)
move_reads x y move h =
    through x y (add_move move y) h refl (λ m j s k. record { there = k.there; opens = k.opens; purpose = k.purpose; runs = k.runs; session = k.session }) (λ m j s c k is. is)
    (λ m j s r p k is w u. guard_move x.setting s (spot_of_call x.setting.layout m) m.at p y move u) (λ a. a)

pub start_reads : (x y : Step) (program : List ℕ) (job stood : Option ℕ) → ReadsBack x y → ReadsBack x (add_start (next_start y program job stood) y)
start_reads x y program job stood h =
    through x y (add_start (next_start y program job stood) y) h refl (λ m j s k. record { there = k.there; opens = k.opens; purpose = k.purpose; runs = k.runs; session = k.session }) (λ m j s c k is. is)
    (λ m j s r p k is w u. guard_start x.setting s (spot_of_call x.setting.layout m) m.at p y program job stood u)
    (λ a k there. by a k (Contains-append_cases (children (seen y)) (new_child v ∷ []) k (subst (λ ks. Contains ks k) (effects_are_told.starts v (entry_of y) y.past) there)))
  where
    v : Start
    v = next_start y program job stood

    by : AllAbove (seen y) → (k : Child) → Contains (children (seen y)) k ⊎ Contains (new_child v ∷ []) k → first_child ≤ k.process
    by a k (inl old) = a k old
    by a k (inr new) = only (contains_cases (new_child v) [] k new) where
      only : (new_child v ≡ k) ⊎ Contains [] k → first_child ≤ k.process
      only (inl is) = subst (λ (c : Child). first_child ≤ c.process) is (omega arith)
      only (inr none) = absurd (contains_none k none)

pub grant_reads : (x y : Step) (g : Grant) → ReadsBack x y → ReadsBack x (add_grant g y)
grant_reads x y g h =
    through x y (add_grant g y) h refl (λ m j s k. record { there = k.there; opens = k.opens; purpose = k.purpose; runs = k.runs; session = k.session }) (λ m j s c k is. is)
    (λ m j s r p k is w u. guard_grant x.setting s (spot_of_call x.setting.layout m) m.at p y g u) (λ a. a)

-- An end that spares what the readers hold.
pub end_reads : (x y : Step) (e : End)
    → ((m : Submitted) (j : ℕ) (s : Session) (r : ResourceArg) (p : ℕ) (g : Grant) → IsRead x y m j s → command_numbered x.setting (seen x) j ≡ Some (GetLvb r p) → Guarded x.setting s (spot_of_call x.setting.layout m) m.at p x
    → same_place g.path g.offset (spot_of_call x.setting.layout m).path (spot_of_call x.setting.layout m).base ≡ true → g.process ≡ p → (e.process == g.process && same_place e.path e.offset g.path g.offset) ≡ false)
    → ReadsBack x y → ReadsBack x (add_end e y)
end_reads x y e spares h =
    through x y (add_end e y) h refl (λ m j s k. was m j s k) (λ m j s c k is. is)
    (λ m j s r p k is w u. guard_end x.setting s (spot_of_call x.setting.layout m) m.at p y e (λ g place its. spares m j s r p g (was m j s k) is w place its) u) (λ a. a)
  where
    was : (m : Submitted) (j : ℕ) (s : Session) → IsRead x (add_end e y) m j s → IsRead x y m j s
    was m j s k = record { there = k.there; opens = k.opens; purpose = k.purpose; runs = k.runs; session = k.session }

pub reply_reads : (x y : Step) (i : ℕ) (why : Reply) → SameCalls y.past (entry_of y) (record { job = i; reply = why }) → ReadsBack x y → ReadsBack x (add_reply i why y)
reply_reads x y i why same h =
    through x y (add_reply i why y) h refl
    (λ m j s k. record { there = subst (λ ms. Contains ms m) same k.there; opens = k.opens; purpose = k.purpose; runs = ran_before y.past (entry_of y) (record { job = i; reply = why }) j k.runs; session = k.session }) (λ m j s c k is. is)
    (λ m j s r p k is w u. guard_reply x.setting s (spot_of_call x.setting.layout m) m.at p y i why u) (λ a. a)

-- A reading over one more call that isn't the call itself.
pub old_read : (x y : Step) (n : ℕ) (path : List ℕ) (q : Purpose) (o : ℕ) (op : Op)
    → ((k : ℕ) (s : Session) → (m : Submitted) → Contains (submitted (seen y)) m → m.call.session ≡ k → session_numbered x.setting (seen (add_call_of n path q o op y)) k ≡ Some s → session_numbered x.setting (seen y) k ≡ Some s)
    → (m : Submitted) (j : ℕ) (s : Session) → IsRead x (add_call_of n path q o op y) m j s → Contains (submitted (seen y)) m → IsRead x y m j s
old_read x y n path q o op sessions m j s k there = record { there = there; opens = inl (waits k.opens); purpose = k.purpose; runs = k.runs; session = sessions m.call.session s m there refl k.session } where
  waits : IsOpen (seen (add_call_of n path q o op y)) (heard_by y.input) m → m.answer ≡ None
  waits (inl none) = none
  waits (inr w) = absurd (not_last y.effects.calls (call_added n path q o op y) w.1)

pub call_or : (y : Step) (n : ℕ) (path : List ℕ) (q : Purpose) (o : ℕ) (op : Op) (m : Submitted) → Contains (submitted (seen (add_call_of n path q o op y))) m
    → (new_call (length y.past) y.reading (call_added n path q o op y) ≡ m) ⊎ Contains (submitted (seen y)) m
call_or y n path q o op m there =
    contains_cases (new_call (length y.past) y.reading (call_added n path q o op y)) (submitted (seen y)) m (subst (λ ms. Contains ms m) (submitted-push y.past (entry_of y) (call_added n path q o op y)) there)

-- One more call that reads no value and writes nothing where one is read.
pub call_reads : (x y : Step) (n : ℕ) (path : List ℕ) (q : Purpose) (o : ℕ) (op : Op) → ((j : ℕ) → q ≡ ValueRead j → ⊥)
    → ((k : ℕ) (s : Session) → (m : Submitted) → Contains (submitted (seen y)) m → m.call.session ≡ k → session_numbered x.setting (seen (add_call_of n path q o op y)) k ≡ Some s → session_numbered x.setting (seen y) k ≡ Some s)
    → ((m : Submitted) (j : ℕ) (s : Session) → IsRead x y m j s → (n == s.number) ≡ true → (is_area_work q && (is_write op && is_on x.setting.layout (spot_of_call x.setting.layout m) (call_added n path q o op y))) ≡ false)
    → ReadsBack x y → ReadsBack x (add_call_of n path q o op y)
call_reads x y n path q o op no_read sessions spare h =
    through x y (add_call_of n path q o op y) h refl (λ m j s k. old m j s k (call_or y n path q o op m k.there)) (λ m j s c k is. is)
    (λ m j s r p k is w u. guard_call x.setting s (spot_of_call x.setting.layout m) m.at p y n path q o op (λ mine. spare m j s (old m j s k (call_or y n path q o op m k.there)) mine) u) (λ a. a)
  where
    old : (m : Submitted) (j : ℕ) (s : Session) → IsRead x (add_call_of n path q o op y) m j s → (new_call (length y.past) y.reading (call_added n path q o op y) ≡ m) ⊎ Contains (submitted (seen y)) m → IsRead x y m j s
    old m j s k (inl is) = absurd (no_read j (ap (λ (d : Submitted). d.call.purpose) is ∙ k.purpose))
    old m j s k (inr there) = old_read x y n path q o op sessions m j s k there

-- A call that begins no session.
pub later_sessions : (x y : Step) (n : ℕ) (path : List ℕ) (q : Purpose) (o : ℕ) (op : Op) → is_join_call FirstRead q ≡ false → (k : ℕ) (s : Session)
    → session_numbered x.setting (seen (add_call_of n path q o op y)) k ≡ Some s → session_numbered x.setting (seen y) k ≡ Some s
later_sessions x y n path q o op later k s is = ap (λ ss. slice_get ss k) (sym (same_sessions x.setting (entry_of y) y.past (call_added n path q o op y) later)) ∙ is

reads_no_area : (q : Purpose) → is_area_work q ≡ false → (j : ℕ) → q ≡ ValueRead j → ⊥
reads_no_area q none j is = true_is_false (sym (ap (λ r. is_area_work r) is) ∙ none)

pub reads_go_on : (x : Step) → GoesOn (ReadsBack x)
reads_go_on x =
    record {
      signals = λ y q g h. signal_reads x y q g h;
      moves = λ y m h. move_reads x y m h;
      starts = λ y program job stood h. start_reads x y program job stood h;
      replies = λ y j r same h. reply_reads x y j r same h;
    }

pub reads_calls : (x : Step) → CallsOn (ReadsBack x) (ReadsBack x)
reads_calls x y s path q o op plain later h =
    call_reads x y s.number path q o op (λ j is. reads_no_area q plain j is) (λ k t m there its is. later_sessions x y s.number path q o op later k t is)
    (λ m j t k mine. ap (λ b. b && (is_write op && is_on x.setting.layout (spot_of_call x.setting.layout m) (call_added s.number path q o op y))) plain) h

-- ---- what is known at each reading

-- Its process, for whom all stands.
pub record Reader (st : Setting) (z : Step) (m : Submitted) (j : ℕ) (s : Session) : Type 0 where
  pub process : ℕ
  pub guard : Guarded st s (spot_of_call st.layout m) m.at process z
  pub only : (r : ResourceArg) (p : ℕ) → command_numbered st (seen z) j ≡ Some (GetLvb r p) → process ≡ p

positive : {A : Type 0} (xs : List A) (a : A) → Contains xs a → nat_lt 0 (length xs) ≡ true
positive [] a there = absurd (contains_none a there)
positive (y ∷ ys) a there = lt-ltb 0 (length (y ∷ ys)) (omega arith)

guarded_held : (st : Setting) (s : Session) (at : Spot) (since p : ℕ) (y : Step) → Guarded st s at since p y → held_since since (seen y) s at ≡ true
guarded_held st s at since p y g = by (nat_le since (length y.past)) where
  now : nat_lt 0 (length (holdings_on (seen y) s at)) ≡ true
  now = positive (holdings_on (seen y) s at) g.holder.0 g.holder.1

  by : (b : Bool) → ((not b || nat_lt 0 (length (holdings_on (seen y) s at))) && held_since since y.past s at) ≡ true
  by true = ap (λ c. c && held_since since y.past s at) now ∙ g.before
  by false = g.before

pub facts_by : (st : Setting) (z : Step) → AllAbove (seen z) → ((m : Submitted) (j : ℕ) (s : Session) → IsReading st (seen z) (heard_by z.input) m j s → Reader st z m j s) → ValueFacts st (seen z) (heard_by z.input)
facts_by st z above reader =
    record {
      held = λ m j s k. (let r = reader m j s k in guarded_held st s (spot_of_call st.layout m) m.at r.process z r.guard);
      calm = λ m j s k. (reader m j s k).guard.calm;
      holds = λ m j s r p k is. (let v = reader m j s k in (v.guard.holder.0, v.guard.holder.1, v.guard.holder.2 ∙ v.only r p is));
      started = λ m j s r p c k is its. (let v = reader m j s k in v.guard.started c (ap (λ n. child_numbered (seen z) n) (v.only r p is) ∙ its));
      above = above;
    }

-- As it stands.
pub record ReadNow (x : Step) (m : Submitted) (j : ℕ) (s : Session) : Type 0 where
  pub resource : ResourceArg
  pub process : ℕ
  pub command : command_numbered x.setting (seen x) j ≡ Some (GetLvb resource process)
  pub guard : Guarded x.setting s (spot_of_call x.setting.layout m) m.at process x

pub read_now : (x : Step) → Known x → (m : Submitted) (j : ℕ) (s : Session) → IsRead x x m j s → ReadNow x m j s
read_now x k m j s i =
    let c = some_of (command_numbered x.setting (seen x) j) (k.0.facts.jobs.called m j i.there (ap (λ p. job_of p) i.purpose)) in
    let f = subst (λ p. FitsCommand x.setting s m c.0 p) i.purpose (k.0.facts.jobs.fits m j s c.0 i.there (ap (λ p. job_of p) i.purpose) i.session c.1) in
    let command : command_numbered x.setting (seen x) j ≡ Some (GetLvb f.0 f.1) = c.1 ∙ ap (λ d. Some d) f.2 in
    let h = k.0.facts.values.holds m j s f.0 f.1 i command in
    let on = kept_inside (λ (g : Grant). same_place g.path g.offset (spot_of_call x.setting.layout m).path (spot_of_call x.setting.layout m).base) (holdings_of (seen x) s) h.0 h.1 in
    let of = kept_inside (λ (g : Grant). g.session == s.number) (holdings (seen x)) h.0 on.0 in
    record {
      resource = f.0;
      process = f.1;
      command = command;
      guard = record {
        before = (and_true (not (nat_le m.at (length x.past)) || nat_lt 0 (length (holdings_on (seen x) s (spot_of_call x.setting.layout m)))) (held_since m.at x.past s (spot_of_call x.setting.layout m)) (k.0.facts.values.held m j s i)).1;
        calm = k.0.facts.values.calm m j s i;
        holder = h;
        born = subst (λ n. n < next_child (seen x)) h.2 (k.0.facts.holdings.born h.0 of.0);
        started = λ v is. k.0.facts.values.started m j s f.0 f.1 v i command is;
      };
    }

pub get_process : (a b : ResourceArg) (p q : ℕ) → GetLvb a p ≡ GetLvb b q → p ≡ q
get_process a b p q is = ap (λ c. process_of c) is where
  process_of : Command → ℕ
  process_of (GetLvb r n) = n
  process_of c = 0

pub same_reader : (x z : Step) (j p : ℕ) (r : ResourceArg) → command_numbered x.setting (seen x) j ≡ Some (GetLvb r p) → (a : ResourceArg) (q : ℕ) → command_numbered x.setting (seen x) j ≡ Some (GetLvb a q) → p ≡ q
same_reader x z j p r is a q at = get_process r a p q (some_value (GetLvb r p) (GetLvb a q) (sym is ∙ at))

-- From what was known at each reading.
pub read_from_now : (x z : Step) → ReadsBack x z → (m : Submitted) (j : ℕ) (s : Session) → IsRead x z m j s → ReadNow x m j s → Reader x.setting z m j s
read_from_now x z h m j s i v =
    record {
      process = v.process;
      guard = h.guard m j s v.resource v.process i v.command v.guard;
      only = λ r p is. same_reader x z j v.process v.resource v.command r p (h.command m j s (GetLvb r p) i is);
    }

pub facts_from : (x z : Step) → ((m : Submitted) (j : ℕ) (s : Session) → IsRead x x m j s → ReadNow x m j s) → AllAbove (seen x) → ReadsBack x z → HasValueFacts z
facts_from x z now above h =
    subst (λ st. ValueFacts st (seen z) (heard_by z.input)) (sym h.setting) (facts_by x.setting z (h.above above) (λ m j s i. read_from_now x z h m j s i (now m j s (h.back m j s i))))

pub back_read : (x z : Step) → Known x → ReadsBack x z → (m : Submitted) (j : ℕ) (s : Session) → IsRead x z m j s → Reader x.setting z m j s
back_read x z k h m j s i = read_from_now x z h m j s i (read_now x k m j s (h.back m j s i))

pub facts_back : (x z : Step) → Known x → ReadsBack x z → HasValueFacts z
facts_back x z k h = facts_from x z (read_now x k) k.0.facts.values.above h
