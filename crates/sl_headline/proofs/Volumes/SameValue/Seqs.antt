-- Of the values that a session submits on an area under one instance each has a greater seq than those before it.
use Rattle.sl_area.specs.AreaSizes.{Layout}
use Rattle.sl_run.specs.Lawful.{Orderly}
use Rattle.sl_run.specs.LawfulValue.{LawfulValueWrite}
use Rattle.sl_run.specs.LawForms.{cut_at}
use Rattle.sl_trace.specs.Counts.{next_value_seq, values_on}
use Rattle.sl_trace.specs.Leases.{is_on, spot_of_call, value_written}
use Rattle.sl_words.proofs.Lists.{contains_cases, contains_first, contains_more, contains_none}
use Rattle.sl_sector.specs.declared.sector.ValueRec.{ValueRec}
use Rattle.sl_trace.specs.Sessions.{is_call_of, session_numbered}
use Rattle.sl_trace.specs.declared.session.Session.{Session}
use Rattle.sl_trace.specs.Traces.{Setting, Submitted, Trace, new_call, submitted}
use Rattle.sl_trace.specs.declared.effects.Call.{Call}
use Rattle.sl_trace.specs.declared.effects.Spot.{Spot}
use Rattle.sl_run_law.proofs.Leases.FrontLaws.{each_was_submitted, lawful_there}
use Rattle.sl_run_law.proofs.Leases.SpotLaws.{areas_are_apart}
use Rattle.sl_run_law.specs.Leases.CallFronts.{AllAged}
use Rattle.sl_words.proofs.CaseLaws.{false_is_true, none_some, one_value, some_value}
use Rattle.std.proofs.Common.{ap, arith, inl, inr, refl, subst, sym, ◌∙◌}
use Rattle.std.proofs.lemmas.Bool.{eq-eqb, eqb-true}
use Rattle.std.proofs.lemmas.List.{append_assoc}
use Rattle.std.specs.Option.{option_map_or}
use Rattle.std.specs.Prelude.{Bool, Contains, List, None, Option, Some, false, filter, filter_map, find, if◌then◌else◌, length, true, [], ℕ, ◌++◌, ◌+◌, ◌<◌, ◌==◌, ◌∷◌, ◌≡◌, ◌≤◌, ◌⊎◌}

-- ---- the values of a session on an area

module _ (g : Layout) (at : Spot) (s : Session) where
  -- They are, the newest first.
  abbrev pub values_in : List Submitted → List ValueRec
  values_in ms = values_on g at (filter (is_call_of s) ms)

  -- The call writes this value.
  pub record WritesHere (m : Submitted) (v : ValueRec) : Type 0 where
    pub mine : is_call_of s m ≡ true
    pub on : is_on g at m.call ≡ true
    pub value : value_written m ≡ Some v

  abbrev by_value : Option ValueRec → List ValueRec → List ValueRec
  by_value None vs = vs
  by_value (Some v) vs = v ∷ vs

  abbrev by_place : Bool → Option ValueRec → List ValueRec → List ValueRec
  by_place true o vs = by_value o vs
  by_place false o vs = vs

  abbrev by_all : Bool → Bool → Option ValueRec → List ValueRec → List ValueRec
  by_all true on o vs = by_place on o vs
  by_all false on o vs = vs

  value_first : (o : Option ValueRec) (m : Submitted) (ms : List Submitted) → value_written m ≡ o
      → filter_map value_written (m ∷ ms) ≡ by_value o (filter_map value_written ms)
  value_first None m ms is = rw is refl
  value_first (Some v) m ms is = rw is refl

  place_first : (b : Bool) (m : Submitted) (ms : List Submitted)
      → filter_map value_written (if b then m ∷ ms else ms) ≡ by_place b (value_written m) (filter_map value_written ms)
  place_first true m ms = value_first (value_written m) m ms refl
  place_first false m ms = refl

  all_first : (b : Bool) (m : Submitted) (ms : List Submitted)
      → values_on g at (if b then m ∷ ms else ms) ≡ by_all b (is_on g at m.call) (value_written m) (values_on g at ms)
  all_first true m ms = place_first (is_on g at m.call) m (filter (λ (k : Submitted). is_on g at k.call) ms)
  all_first false m ms = refl

  -- With one more call.
  pub values_first : (m : Submitted) (ms : List Submitted) → values_in (m ∷ ms) ≡ by_all (is_call_of s m) (is_on g at m.call) (value_written m) (values_in ms)
  values_first m ms = all_first (is_call_of s m) m (filter (is_call_of s) ms)

  -- Answers that come later change none of them.
  pub values_age : (n : ℕ) (xs ys : List Submitted) → AllAged n xs ys → values_in xs ≡ values_in ys
  values_age n [] [] h = refl
  values_age n [] (y ∷ ys) h = absurd h
  values_age n (x ∷ xs) [] h = absurd h
  values_age n (x ∷ xs) (y ∷ ys) h =
      values_first x xs ∙ ap (λ vs. by_all (is_call_of s x) (is_on g at x.call) (value_written x) vs) (values_age n xs ys h.1)
      ∙ ap (λ (c : Call). let z : Submitted = record x { call = c } in by_all (is_call_of s z) (is_on g at z.call) (value_written z) (values_in ys)) (sym h.0.call)
      ∙ sym (values_first y ys)

  -- ---- the newest seq

  module _ (lver : ℕ) where
    abbrev seq_of : List ValueRec → ℕ
    seq_of vs = option_map_or (λ (v : ValueRec). v.seq) (find (λ (v : ValueRec). v.lver == lver) vs) 0

    -- Each of these writes has one more than the newest before it.
    abbrev pub Rises : List Submitted → Type 0
    Rises ms = (newer older : List Submitted) (m : Submitted) (v : ValueRec) → ms ≡ newer ++ m ∷ older → WritesHere m v → v.lver ≡ lver → v.seq ≡ seq_of (values_in older) + 1

    -- What the first call adds.
    abbrev Adds : Submitted → List ValueRec → List ValueRec → Type 0
    Adds m vs us = ((us ≡ vs) × ((v : ValueRec) → WritesHere m v → ⊥)) ⊎ ((v : ValueRec) × WritesHere m v × (us ≡ v ∷ vs))

    adds_by : (m : Submitted) (vs : List ValueRec) (a b : Bool) (o : Option ValueRec) → is_call_of s m ≡ a → is_on g at m.call ≡ b → value_written m ≡ o
        → Adds m vs (by_all a b o vs)
    adds_by m vs false b o x y z = inl (refl, λ v w. false_is_true (sym x ∙ w.mine))
    adds_by m vs true false o x y z = inl (refl, λ v w. false_is_true (sym y ∙ w.on))
    adds_by m vs true true None x y z = inl (refl, λ v w. none_some v (sym z ∙ w.value))
    adds_by m vs true true (Some v) x y z = inr (v, record { mine = x; on = y; value = z }, refl)

    adds : (m : Submitted) (ms : List Submitted) → Adds m (values_in ms) (values_in (m ∷ ms))
    adds m ms =
        subst (Adds m (values_in ms)) (sym (values_first m ms))
        (adds_by m (values_in ms) (is_call_of s m) (is_on g at m.call) (value_written m) refl refl refl)

    same_or_not : (v : ValueRec) (vs : List ValueRec) (t : Bool) → (v.lver == lver) ≡ t
        → ((v.lver ≡ lver) × (seq_of (v ∷ vs) ≡ v.seq)) ⊎ (((v.lver ≡ lver) → ⊥) × (seq_of (v ∷ vs) ≡ seq_of vs))
    same_or_not v vs true is = inl (eqb-true v.lver lver is, ap (λ t. option_map_or (λ (x : ValueRec). x.seq) (if t then Some v else find (λ (x : ValueRec). x.lver == lver) vs) 0) is)
    same_or_not v vs false is =
        inr (
          (λ e. false_is_true (sym is ∙ eq-eqb v.lver lver e)),
          ap (λ t. option_map_or (λ (x : ValueRec). x.seq) (if t then Some v else find (λ (x : ValueRec). x.lver == lver) vs) 0) is,
        )

    rest_rises : (x : Submitted) (ms : List Submitted) → Rises (x ∷ ms) → Rises ms
    rest_rises x ms h newer older m v is w l = h (x ∷ newer) older m v (ap (λ ys. x ∷ ys) is) w l

    at_most : (a b : ℕ) → a ≡ b → a ≤ b
    at_most a b e = omega (arith, e)

    below : (a b c d : ℕ) → a ≤ b → c ≡ b + 1 → d ≡ c → a ≤ d
    below a b c d h e f = omega (arith, h, e, f)

    -- So the newest has the greatest.
    pub newest_is_greatest : (ms : List Submitted) → Rises ms → (k : Submitted) (u : ValueRec) → Contains ms k → WritesHere k u → u.lver ≡ lver → u.seq ≤ seq_of (values_in ms)
    newest_is_greatest [] h k u has w l = absurd (contains_none k has)
    newest_is_greatest (x ∷ ms) h k u has w l = by (λ old. newest_is_greatest ms (rest_rises x ms h) k u old w l) (adds x ms) (contains_cases x ms k has) where
      with_value : (Contains ms k → u.seq ≤ seq_of (values_in ms)) → (v : ValueRec) → WritesHere x v → (x ≡ k) ⊎ Contains ms k
          → ((v.lver ≡ lver) × (seq_of (v ∷ values_in ms) ≡ v.seq)) ⊎ (((v.lver ≡ lver) → ⊥) × (seq_of (v ∷ values_in ms) ≡ seq_of (values_in ms)))
          → u.seq ≤ seq_of (v ∷ values_in ms)
      with_value rest v writes (inl here) (inl same) =
          at_most u.seq (seq_of (v ∷ values_in ms))
          (ap (λ (y : ValueRec). y.seq) (some_value u v (sym w.value ∙ ap (λ (m : Submitted). value_written m) (sym here) ∙ writes.value)) ∙ sym same.1)
      with_value rest v writes (inl here) (inr other) =
          absurd (other.0 (ap (λ (y : ValueRec). y.lver) (some_value v u (sym writes.value ∙ ap (λ (m : Submitted). value_written m) here ∙ w.value)) ∙ l))
      with_value rest v writes (inr old) (inl same) =
          below u.seq (seq_of (values_in ms)) v.seq (seq_of (v ∷ values_in ms)) (rest old) (h [] ms x v refl writes same.0) same.1
      with_value rest v writes (inr old) (inr other) = subst (λ n. u.seq ≤ n) (sym other.1) (rest old)

      by : (Contains ms k → u.seq ≤ seq_of (values_in ms)) → Adds x (values_in ms) (values_in (x ∷ ms)) → (x ≡ k) ⊎ Contains ms k → u.seq ≤ seq_of (values_in (x ∷ ms))
      by rest (inl none) (inl here) = absurd (none.1 u (subst (λ (m : Submitted). WritesHere m u) (sym here) w))
      by rest (inl none) (inr old) = subst (λ vs. u.seq ≤ seq_of vs) (sym none.0) (rest old)
      by rest (inr some) place = subst (λ vs. u.seq ≤ seq_of vs) (sym some.2) (with_value rest some.0 some.1 place (same_or_not some.0 (values_in ms) (some.0.lver == lver) refl))

-- ---- as they were submitted

-- Where a call stood it was of this area.
spot_is : (g : Layout) (w m : Submitted) → is_on g (spot_of_call g w) m.call ≡ true → spot_of_call g (new_call 0 0 m.call) ≡ spot_of_call g w
spot_is g w m on = areas_are_apart g w m on

-- In a lawful trace each of them rises.
pub values_rise : (st : Setting) (es : Trace) (s : Session) (w : Submitted) (lver : ℕ) → Orderly st es → session_numbered st es s.number ≡ Some s
    → Rises st.layout (spot_of_call st.layout w) s lver (submitted es)
values_rise st es s w lver law its newer older m v is writes l =
    let g : Layout = st.layout in
    let at : Spot = spot_of_call g w in
    let x = each_was_submitted st es law newer older m is in
    let u = x.submission in
    let call : u.call ≡ m.call = sym u.itself.call in
    let session : x.session ≡ s =
    one_value x.session s (session_numbered st es m.call.session) x.kept (ap (λ n. session_numbered st es n) (eqb-true m.call.session s.number writes.mine) ∙ its) in
    let spot : spot_of_call g (new_call 0 0 u.call) ≡ at = ap (λ (c : Call). spot_of_call g (new_call 0 0 c)) call ∙ spot_is g w m writes.on in
    let value : value_written (new_call 0 0 u.call) ≡ Some v = ap (λ (c : Call). value_written (new_call 0 0 c)) call ∙ writes.value in
    let rule : LawfulValueWrite st (cut_at u.place u.entry ∷ u.past) x.session (spot_of_call g (new_call 0 0 u.call)) v =
    (lawful_there st es law m older u).values.0.writes u.place u.call x.session u.there x.known v value in
    rule.version.2 ∙ ap (λ z. next_value_seq st (cut_at u.place u.entry ∷ u.past) x.session z v.lver) spot
    ∙ ap (λ (y : Session). next_value_seq st (cut_at u.place u.entry ∷ u.past) y at v.lver) session
    ∙ ap (λ n. next_value_seq st (cut_at u.place u.entry ∷ u.past) s at n) l
    ∙ ap (λ vs. option_map_or (λ (y : ValueRec). y.seq) (find (λ (y : ValueRec). y.lver == lver) vs) 0 + 1)
    (values_age g at s (length u.past + 1) (submitted (cut_at u.place u.entry ∷ u.past)) older u.before)

contains_right : {A : Type 0} (xs ys : List A) (y : A) → Contains ys y → Contains (xs ++ ys) y
contains_right [] ys y has = has
contains_right (x ∷ xs) ys y has = contains_more x (xs ++ ys) y (contains_right xs ys y has)

one_less : (a b c : ℕ) → a ≤ b → c ≡ b + 1 → a < c
one_less a b c h e = omega (arith, h, e)

-- So of two writes of one instance the newer has the greater seq.
pub newer_is_greater : (st : Setting) (es : Trace) (s : Session) (w : Submitted) → Orderly st es → session_numbered st es s.number ≡ Some s → (newer between older : List Submitted) (m k : Submitted)
    → submitted es ≡ newer ++ m ∷ (between ++ k ∷ older) → (v u : ValueRec) → WritesHere st.layout (spot_of_call st.layout w) s m v → WritesHere st.layout (spot_of_call st.layout w) s k u
    → u.lver ≡ v.lver → u.seq < v.seq
newer_is_greater st es s w law its newer between older m k is v u one two same =
    let rises = values_rise st es s w v.lver law its in
    let rest : List Submitted = between ++ k ∷ older in
    let older_rises : Rises st.layout (spot_of_call st.layout w) s v.lver rest =
    λ ns os x y here. rises (newer ++ m ∷ ns) os x y (is ∙ ap (λ ys. newer ++ m ∷ ys) here ∙ sym (append_assoc newer (m ∷ ns) (x ∷ os))) in
    one_less u.seq _ v.seq
    (newest_is_greatest st.layout (spot_of_call st.layout w) s v.lver rest older_rises k u (contains_right between (k ∷ older) k (contains_first k older)) two same)
    (rises newer rest m v is one refl)
