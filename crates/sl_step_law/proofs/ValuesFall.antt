-- The versions of a session's values on an area fall from the instance of its own block on: who sets a value holds the resource exclusive, and
-- its own block is in the instance held; and that block's instance never falls.
use Rattle.sl_due_facts.specs.Acts.TraceSoFar.{entry_of}
use Rattle.sl_due.specs.Due.{IsHostTrace}
use Rattle.sl_due.specs.Steps.{Step, seen}
use Rattle.sl_due_leases.proofs.Grants.WorksByAnswers.{new_spot}
use Rattle.sl_due_leases.proofs.Holdings.LeaseConversions.{spot_is}
use Rattle.sl_due_leases.proofs.Ways.WayNumbers.{goes_up, lver_of, own_lver}
use Rattle.sl_due_law.proofs.LawfulTraces.TracesHold.{traces_hold}
use Rattle.sl_due_facts.specs.Facts.CallFacts.{CallFacts}
use Rattle.sl_due_facts.specs.Facts.HeardCall.{heard_by}
use Rattle.sl_due_facts.specs.Facts.HoldingFacts.{HoldingFacts, StandsExclusive}
use Rattle.sl_due_facts.specs.Facts.WayFacts.{IsAligned, WayContext, Ways, way_context}
use Rattle.sl_due_facts.specs.Facts.AllFacts.{Facts}
use Rattle.sl_due_law.specs.LawfulTraces.CarriedFacts.{Holds, Kept}
use Rattle.sl_host_law.proofs.SharedFacts.PlainLists.{at_some}
use Rattle.sl_host_law.proofs.Replies.PlainNumbers.{same_number}
use Rattle.sl_host_law.specs.Decisions.DecisionLaws.{AreFalling}
use Rattle.sl_run.specs.Lawful.{IsSetting}
use Rattle.sl_run.specs.LawfulValue.{LawfulValue, LawfulValueWrite}
use Rattle.sl_run.specs.LawForms.{cut_at}
use Rattle.sl_trace.specs.Counts.{values_on}
use Rattle.sl_trace.specs.Leases.{block_of_record, block_submitted, block_written, holdings_on, is_lease_call, is_on, lease_calls, lease_step, value_of_record, value_written}
use Rattle.sl_words.proofs.Lists.{contains_first, contains_more, find_inside, got_inside, kept_inside}
use Rattle.sl_sector.specs.declared.sector.Block.{Block}
use Rattle.sl_sector.specs.declared.sector.ValueRec.{ValueRec}
use Rattle.sl_trace.specs.Sessions.{calls_of, holdings_of, is_call_of, session_numbered, sessions}
use Rattle.sl_trace.specs.declared.session.Session.{Session}
use Rattle.sl_trace.specs.Traces.{Setting, Submitted, Trace, answered_in, holdings, is_shared, mark, new_call, record_of, same_place, spot_of_grant, submitted}
use Rattle.sl_trace.specs.declared.effects.Call.{Call}
use Rattle.sl_trace.specs.declared.effects.Entry.{Entry}
use Rattle.sl_trace.specs.declared.effects.Grant.{Grant}
use Rattle.sl_trace.specs.declared.effects.Spot.{Spot}
use Rattle.sl_trace.specs.declared.input.Input.TheVariants.{Answer as Told, Exit, Line, Number, Spawned, Wake}
use Rattle.sl_trace.specs.declared.input.Input.{Input}
use Rattle.sl_run_law.proofs.Sessions.CallsAreMade.{same_answered}
use Rattle.sl_run_law.proofs.Sessions.CallOwners.{session_more}
use Rattle.sl_run_law.specs.Leases.Ways.{lease_among}
use Rattle.sl_words.proofs.CaseLaws.{false_is_true, none_some, one_value}
use Rattle.std.proofs.Common.{ap, arith, refl, subst, sym, ◌∙◌}
use Rattle.std.specs.List.{cons_option}
use Rattle.std.specs.Option.{option_map_or}
use Rattle.std.specs.Prelude.{Bool, Contains, IsSome, List, None, Option, Some, cond, false, filter, filter_map, fold, is_some, length, map, not, option_and_then, slice_get, true, [], ℕ, ◌&&◌, ◌==◌, ◌∷◌, ◌≡◌, ◌≤◌}

-- ---- plain facts

falls_from : (a b : ℕ) (vs : List ValueRec) → a ≤ b → AreFalling a vs → AreFalling b vs
falls_from a b [] le fall = tt
falls_from a b (v ∷ vs) le fall = (most v.lver a b fall.0 le, fall.1) where
  most : (n k l : ℕ) → n ≤ k → k ≤ l → n ≤ l
  most n k l low high = omega (arith, low, high)

none_is : (b : Bool) → not b ≡ true → b ≡ false
none_is true is = absurd (false_is_true is)
none_is false is = refl

-- The calls of an entry upon those before.
abbrev upon : ℕ → ℕ → List Submitted → List Call → List Submitted
upon n reading ms cs = fold (λ zs c. new_call n reading c ∷ zs) ms cs

module _ (st : Setting) (s : Session) (at : Spot) where
  -- The session's values on the area, and the instance of its own block there, among all calls.
  abbrev values : List Submitted → List ValueRec
  values ms = values_on st.layout at (filter (is_call_of s) ms)

  abbrev top : List Submitted → ℕ
  top ms = own_lver (lease_among st s at ms)

  -- ---- with one more call

  abbrev valued : Call → List ValueRec → List ValueRec
  valued c vs = cond (c.session == s.number) (cond (is_on st.layout at c) (cons_option (option_and_then value_of_record (record_of c.op)) vs) vs) vs

  one_value_more : (d : Submitted) (ms : List Submitted) → values (d ∷ ms) ≡ valued d.call (values ms)
  one_value_more d ms = by (d.call.session == s.number) where
    on : (o : Bool)
        → filter_map value_written (cond o (d ∷ filter (λ m. is_on st.layout at m.call) (filter (is_call_of s) ms)) (filter (λ m. is_on st.layout at m.call) (filter (is_call_of s) ms)))
        ≡ cond o (cons_option (value_written d) (values ms)) (values ms)
    on true = refl
    on false = refl

    by : (b : Bool) → values_on st.layout at (cond b (d ∷ filter (is_call_of s) ms) (filter (is_call_of s) ms))
        ≡ cond b (cond (is_on st.layout at d.call) (cons_option (value_written d) (values ms)) (values ms)) (values ms)
    by true = on (is_on st.layout at d.call)
    by false = refl

  abbrev topped : Call → ℕ → ℕ
  topped c n =
      cond (c.session == s.number) (cond (is_some (lease_step c.purpose) && is_on st.layout at c) (option_map_or (λ b. b.lver) (option_and_then block_of_record (record_of c.op)) n) n) n

  one_block_more : (d : Submitted) (ms : List Submitted) → top (d ∷ ms) ≡ topped d.call (top ms)
  one_block_more d ms = by (d.call.session == s.number) where
    written : (o : Option Block)
        → option_map_or (λ b. b.lver) (elim o as (λ z. Option Block) [ Some b ↦ Some b | None ↦ block_submitted (lease_among st s at ms) ]) 0 ≡ option_map_or (λ (b : Block). b.lver) o (top ms)
    written (Some b) = refl
    written None = refl

    on : (o : Bool) → own_lver (cond o (d ∷ lease_among st s at ms) (lease_among st s at ms)) ≡ cond o (option_map_or (λ b. b.lver) (block_written d) (top ms)) (top ms)
    on true = written (block_written d)
    on false = refl

    by : (b : Bool) → own_lver (filter (λ m. is_lease_call m && is_on st.layout at m.call) (cond b (d ∷ filter (is_call_of s) ms) (filter (is_call_of s) ms)))
        ≡ cond b (cond (is_lease_call d && is_on st.layout at d.call) (option_map_or (λ b. b.lver) (block_written d) (top ms)) (top ms)) (top ms)
    by true = on (is_lease_call d && is_on st.layout at d.call)
    by false = refl

  -- ---- an answer changes neither

  values_told : (f : Submitted → Submitted) → ((d : Submitted) → (f d).call ≡ d.call) → (ms : List Submitted) → values (map f ms) ≡ values ms
  values_told f same [] = refl
  values_told f same (d ∷ ms) =
      one_value_more (f d) (map f ms) ∙ (ap (λ c. valued c (values (map f ms))) (same d) ∙ (ap (valued d.call) (values_told f same ms) ∙ sym (one_value_more d ms)))

  top_told : (f : Submitted → Submitted) → ((d : Submitted) → (f d).call ≡ d.call) → (ms : List Submitted) → top (map f ms) ≡ top ms
  top_told f same [] = refl
  top_told f same (d ∷ ms) =
      one_block_more (f d) (map f ms) ∙ (ap (λ c. topped c (top (map f ms))) (same d) ∙ (ap (topped d.call) (top_told f same ms) ∙ sym (one_block_more d ms)))

  marked : (es : Trace) (e : Entry) (i : Input) (ms : List Submitted) → (values (mark es e i ms) ≡ values ms) × (top (mark es e i ms) ≡ top ms)
  marked es e (Told n a) ms =
      (values_told (answered_in es e n a) (λ d. (same_answered es e n a d).call) ms, top_told (answered_in es e n a) (λ d. (same_answered es e n a d).call) ms)
  marked es e (Line text) ms = (refl, refl)
  marked es e (Number text) ms = (refl, refl)
  marked es e (Exit p) ms = (refl, refl)
  marked es e (Spawned p ok) ms = (refl, refl)
  marked es e Wake ms = (refl, refl)

  -- ---- the calls of an entry

  one_rises : (w : WayContext) (d : Submitted) (ms : List Submitted) → Ways w (lease_among st s at (d ∷ ms)) → Ways w (lease_among st s at ms) × (top ms ≤ top (d ∷ ms))
  one_rises w d ms = by (d.call.session == s.number) where
    on : (o : Bool) → Ways w (cond o (d ∷ lease_among st s at ms) (lease_among st s at ms))
        → Ways w (lease_among st s at ms) × (top ms ≤ own_lver (cond o (d ∷ lease_among st s at ms) (lease_among st s at ms)))
    on true ws = (ws.1, goes_up w d (lease_among st s at ms) ws)
    on false ws = (ws, omega arith)

    by : (b : Bool) → Ways w (filter (λ m. is_lease_call m && is_on st.layout at m.call) (cond b (d ∷ filter (is_call_of s) ms) (filter (is_call_of s) ms)))
        → Ways w (lease_among st s at ms) × (top ms ≤ own_lver (filter (λ m. is_lease_call m && is_on st.layout at m.call) (cond b (d ∷ filter (is_call_of s) ms) (filter (is_call_of s) ms))))
    by true ws = on (is_lease_call d && is_on st.layout at d.call) ws
    by false ws = (ws, omega arith)

  top_rises : (w : WayContext) (n reading : ℕ) (cs : List Call) (ms : List Submitted) → Ways w (lease_among st s at (upon n reading ms cs))
      → Ways w (lease_among st s at ms) × (top ms ≤ top (upon n reading ms cs))
  top_rises w n reading [] ms ws = (ws, omega arith)
  top_rises w n reading (c ∷ cs) ms ws =
      let later = top_rises w n reading cs (new_call n reading c ∷ ms) ws in
      let first = one_rises w (new_call n reading c) ms later.0 in
      (first.0, most (top ms) (top (new_call n reading c ∷ ms)) (top (upon n reading (new_call n reading c ∷ ms) cs)) first.1 later.1) where
        most : (a b c : ℕ) → a ≤ b → b ≤ c → a ≤ c
        most a b c low high = omega (arith, low, high)

  -- The call sets no value there, or one of this version.
  abbrev IsUnder : ℕ → Call → Type 0
  IsUnder n c = (c.session == s.number) ≡ true → is_on st.layout at c ≡ true → (v : ValueRec) → option_and_then value_of_record (record_of c.op) ≡ Some v → v.lver ≡ n

  one_falls : (n : ℕ) (c : Call) (vs : List ValueRec) → AreFalling n vs → IsUnder n c → AreFalling n (valued c vs)
  one_falls n c vs fall under = by (c.session == s.number) (is_on st.layout at c) (option_and_then value_of_record (record_of c.op)) under where
    same_most : (a b : ℕ) → a ≡ b → (a ≤ b) × (b ≤ a)
    same_most a b is = (omega (arith, is), omega (arith, is))

    by : (b o : Bool) (w : Option ValueRec) → (b ≡ true → o ≡ true → (v : ValueRec) → w ≡ Some v → v.lver ≡ n) → AreFalling n (cond b (cond o (cons_option w vs) vs) vs)
    by true true (Some v) is = let m = same_most v.lver n (is refl refl v refl) in (m.0, falls_from n v.lver vs m.1 fall)
    by true true None is = fall
    by true false w is = fall
    by false o w is = fall

  values_fall : (k n reading : ℕ) (cs : List Call) (ms : List Submitted) → AreFalling k (values ms) → ((c : Call) → Contains cs c → IsUnder k c) → AreFalling k (values (upon n reading ms cs))
  values_fall k n reading [] ms fall each = fall
  values_fall k n reading (c ∷ cs) ms fall each =
      values_fall k n reading cs (new_call n reading c ∷ ms)
      (subst (AreFalling k) (sym (one_value_more (new_call n reading c) ms)) (one_falls k c (values ms) fall (each c (contains_first c cs))))
      (λ d there. each d (contains_more c cs d there))

  -- Where the session made no call.
  none_falls : (k : ℕ) (ms : List Submitted) → ((d : Submitted) → Contains ms d → (d.call.session == s.number) ≡ true → ⊥) → AreFalling k (values ms)
  none_falls k [] none = tt
  none_falls k (d ∷ ms) none =
      subst (AreFalling k) (sym (one_value_more d ms))
      (one_falls k d.call (values ms) (none_falls k ms (λ m there. none m (contains_more d ms m there))) (λ mine. absurd (none d (contains_first d ms) mine)))

  -- ---- one more entry

  abbrev pub Falls : Trace → Type 0
  Falls es = AreFalling (top (submitted es)) (values (submitted es))

  -- The instance of the session's own block where its holding stands exclusive.
  lver_held : (es : Trace) (heard : Option ℕ) (g : Grant) → HoldingFacts st es heard → session_numbered st es s.number ≡ Some s → Contains (holdings_on es s at) g → is_shared g.mode ≡ false
      → top (submitted es) ≡ g.lver
  lver_held es heard g facts its there exclusive =
      let on = kept_inside (λ (z : Grant). same_place z.path z.offset at.path at.base) (holdings_of es s) g there in
      let mine = kept_inside (λ (z : Grant). z.session == s.number) (holdings es) g on.0 in
      let stands : StandsExclusive st es heard s (spot_of_grant g) g.lver = facts.stands g s mine.0 (ap (session_numbered st es) (same_number g.session s.number mine.1) ∙ its) exclusive in
      subst (λ p. own_lver (lease_calls st es s p) ≡ g.lver) (spot_is g at on.1) (lver_of (lease_calls st es s (spot_of_grant g)) stands.own stands.known ∙ stands.under.0)

  module _ (e : Entry) (past : Trace) (heard : Option ℕ) (setting : IsSetting st) (law : LawfulValue st past e) (facts : Facts st (e ∷ past) heard) (its : session_numbered st (e ∷ past) s.number ≡ Some s) (aligned : IsAligned st at) where
    -- Who sets a value holds there, and its own block is in the instance held.
    set_under : (c : Call) → Contains e.effects.calls c → IsUnder (top (submitted (e ∷ past))) c
    set_under c there mine on v sets = w.version.1 ∙ sym (lver_held (e ∷ past) heard w.holding facts.holdings its holding.0 (none_is (is_shared w.holding.mode) holding.1)) where
      k : (n : ℕ) × (slice_get e.effects.calls n ≡ Some c)
      k = at_some e.effects.calls c there

      w : LawfulValueWrite st (cut_at k.0 e ∷ past) s at v
      w =
          subst (λ p. LawfulValueWrite st (cut_at k.0 e ∷ past) s p v) (new_spot st at c setting aligned on)
          (law.writes k.0 c s k.1 (ap (session_numbered st (e ∷ past)) (same_number c.session s.number mine) ∙ its) v sets)

      holding : Contains (holdings_on (cut_at k.0 e ∷ past) s at) w.holding × (not (is_shared w.holding.mode) ≡ true)
      holding = find_inside (λ (g : Grant). not (is_shared g.mode)) (holdings_on (cut_at k.0 e ∷ past) s at) w.holding w.held

    falls_on : Falls past → Falls (e ∷ past)
    falls_on before =
        values_fall (top (submitted (e ∷ past))) (length past) e.reading e.effects.calls (mark past e e.input (submitted past)) marked_fall set_under where
          same : (values (mark past e e.input (submitted past)) ≡ values (submitted past)) × (top (mark past e e.input (submitted past)) ≡ top (submitted past))
          same = marked past e e.input (submitted past)

          ways : Ways (way_context st (e ∷ past) s) (lease_among st s at (submitted (e ∷ past)))
          ways = facts.ways.each s at (got_inside (sessions st (e ∷ past)) s.number s its) aligned

          rises : top (submitted past) ≤ top (submitted (e ∷ past))
          rises = subst (λ n. n ≤ top (submitted (e ∷ past))) same.1 (top_rises (way_context st (e ∷ past) s) (length past) e.reading e.effects.calls (mark past e e.input (submitted past)) ways).1

          marked_fall : AreFalling (top (submitted (e ∷ past))) (values (mark past e e.input (submitted past)))
          marked_fall = subst (AreFalling (top (submitted (e ∷ past)))) (sym same.0) (falls_from (top (submitted past)) (top (submitted (e ∷ past))) (values (submitted past)) rises before)

  -- ---- all traces

  -- Before the session began it made no call.
  falls_before : (e : Entry) (past : Trace) → CallFacts st past → session_numbered st (e ∷ past) s.number ≡ Some s → (session_numbered st past s.number ≡ Some s → Falls past) → Falls past
  falls_before e past calls its falls = by (session_numbered st past s.number) refl where
    by : (o : Option Session) → session_numbered st past s.number ≡ o → Falls past
    by None is =
        none_falls (top (submitted past)) (submitted past)
        (λ d there mine. none_there (session_numbered st past d.call.session) (calls.owned d there) (ap (session_numbered st past) (same_number d.call.session s.number mine) ∙ is)) where
          none_there : (o : Option Session) → IsSome o → o ≡ None → ⊥
          none_there None some none = false_is_true some
          none_there (Some z) some none = none_some z (sym none)
    by (Some z) is = falls (is ∙ ap (λ y. Some y) (one_value z s (session_numbered st (e ∷ past) s.number) (session_more st e past s.number z is) its))

  pub falls : (es : Trace) → IsSetting st → IsHostTrace st es → IsAligned st at → session_numbered st es s.number ≡ Some s → Falls es
  falls [] setting h aligned its = tt
  falls (e ∷ past) setting h aligned its =
      let here : Holds st (e ∷ past) = traces_hold st (e ∷ past) setting h in
      let was : Holds st past = traces_hold st past setting (h.0.1, h.1.1) in
      falls_on e past None setting here.whole.lawful.orderly.values.0 here.whole.facts its aligned
      (falls_before e past was.whole.facts.calls its (falls past setting (h.0.1, h.1.1) aligned))

-- At a moment of a step: from the instance on that a session holds exclusive.
pub falls_at : (x : Step) (s : Session) (at : Spot) (g : Grant) → Kept x → IsHostTrace x.setting x.past → IsAligned x.setting at → session_numbered x.setting (seen x) s.number ≡ Some s
    → Contains (holdings_on (seen x) s at) g → is_shared g.mode ≡ false → AreFalling g.lver (values_on x.setting.layout at (calls_of (seen x) s))
falls_at x s at g k h aligned its there exclusive =
    let st : Setting = x.setting in
    let setting : IsSetting st = k.known.0.setting in
    subst (λ n. AreFalling n (values_on st.layout at (calls_of (seen x) s))) (lver_held st s at (seen x) (heard_by x.input) g k.known.0.facts.holdings its there exclusive)
    (falls_on st s at (entry_of x) x.past (heard_by x.input) setting k.known.0.orderly.values.0 k.known.0.facts its aligned
    (falls_before st s at (entry_of x) x.past k.before.whole.facts.calls its (falls st s at x.past setting h aligned)))
