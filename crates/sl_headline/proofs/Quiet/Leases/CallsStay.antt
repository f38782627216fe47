-- A lease's calls stay while one of them is unanswered.
use Rattle.sl_area.specs.AreaSizes.{Layout}
use Rattle.sl_run.specs.Lawful.{Lawful}
use Rattle.sl_run.specs.LawfulArea.{IsLeaseRead, IsRightRead, LawfulLeaseRead, is_area_work, is_block_work, open_block_work}
use Rattle.sl_run.specs.LawForms.{cut_at}
use Rattle.sl_run_law.proofs.Leases.SpotLaws.{areas_are_apart}
use Rattle.sl_trace.specs.Leases.{is_block_read, is_lease_call, is_on, lease_calls, lease_step, spot_of_call}
use Rattle.sl_words.proofs.Lists.{contains_first, contains_map, contains_more, contains_none, kept, kept_inside, contains_cases}
use Rattle.sl_headline.specs.Quiet.Leases.CallsStay.{IsAtWork, IsOfOthers, LeasesStay}
use Rattle.sl_run_law.proofs.Sessions.CallsAreMade.{old_stays}
use Rattle.sl_trace.specs.declared.session.Session.{Session}
use Rattle.sl_trace.specs.Sessions.{calls_of, is_call_of, open_calls_of, session_numbered}
use Rattle.sl_trace.specs.Traces.{Answered, Setting, Submitted, Trace, answer_of, answered_in, is_write, mark, new_call, submitted}
use Rattle.sl_trace.specs.declared.effects.Call.{Call}
use Rattle.sl_trace.specs.declared.effects.Entry.{Entry}
use Rattle.sl_trace.specs.declared.effects.LeaseRead.TheVariants.{OfArea, OfBlock, OfFree, OfPhase1, OfPhase2}
use Rattle.sl_trace.specs.declared.effects.LeaseStep.TheVariants.{ClearMode, FreeLeader, Phase1Read, Phase1Write, Phase2Read, Phase2Write, ReadAgain, ReadArea, ReadBeforeBlock, ReadBeforeFree, SetMode, TakeLeader}
use Rattle.sl_trace.specs.declared.effects.LeaseStep.{LeaseStep}
use Rattle.sl_trace.specs.declared.effects.Op.TheVariants.{ReadSectors}
use Rattle.sl_trace.specs.declared.effects.Purpose.TheVariants.{Joining, Lease, Leaving, Renewal, RequestRead, RequestWrite, SeeRequest, Survey, ValueRead, ValueWrite}
use Rattle.sl_trace.specs.declared.effects.Purpose.{Purpose}
use Rattle.sl_trace.specs.declared.effects.Spot.{Spot}
use Rattle.sl_trace.specs.declared.effects.Work.{Work}
use Rattle.sl_trace.specs.declared.input.Answer.{Answer}
use Rattle.sl_trace.specs.declared.input.Input.TheVariants.{Answer as Told, Exit, Line, Number, Spawned, Wake}
use Rattle.sl_trace.specs.declared.input.Input.{Input}
use Rattle.sl_words.proofs.CaseLaws.{false_is_true}
use Rattle.sl_words.proofs.WordLaws.{and_true}
use Rattle.std.proofs.lemmas.Bool.{and_from}
use Rattle.std.proofs.Common.{ap, arith, inl, inr, refl, subst, sym, tests, ◌∙◌}
use Rattle.std.specs.Option.{option_or}
use Rattle.std.specs.Prelude.{Bool, Contains, List, None, Option, Some, [], false, filter, fold, if◌then◌else◌, is_none, is_some, length, map, nat_lt, slice_get, suc, take, true, zero, ℕ, ◌%◌, ◌&&◌, ◌-◌, ◌^◌, ◌==◌, ◌||◌, ◌∷◌, ◌≡◌}

-- ---- two filters

abbrev pub both_kept : (Submitted → Bool) → (Submitted → Bool) → List Submitted → List Submitted
both_kept r q ms = filter q (filter r ms)

unfold_one : (r q : Submitted → Bool) (x : Submitted) (ms : List Submitted) (b : Bool)
    → filter q (if b then x ∷ filter r ms else filter r ms) ≡ (if b then (if q x then x ∷ both_kept r q ms else both_kept r q ms) else both_kept r q ms)
unfold_one r q x ms true = refl
unfold_one r q x ms false = refl

dropped_by : (x : Submitted) (zs : List Submitted) (b c : Bool) → (b ≡ true → c ≡ true → ⊥) → (if b then (if c then x ∷ zs else zs) else zs) ≡ zs
dropped_by x zs true true h = absurd (h refl refl)
dropped_by x zs true false h = refl
dropped_by x zs false c h = refl

dropped : (r q : Submitted → Bool) (x : Submitted) (ms : List Submitted) → (r x ≡ true → q x ≡ true → ⊥) → both_kept r q (x ∷ ms) ≡ both_kept r q ms
dropped r q x ms h = unfold_one r q x ms (r x) ∙ dropped_by x (both_kept r q ms) (r x) (q x) h

-- New calls that are not of these leave them.
pub none_new : (r q : Submitted → Bool) (at reading : ℕ) (cs : List Call) (ms : List Submitted)
    → ((c : Call) → Contains cs c → r (new_call at reading c) ≡ true → q (new_call at reading c) ≡ true → ⊥)
    → both_kept r q (fold (λ ms c. new_call at reading c ∷ ms) ms cs) ≡ both_kept r q ms
none_new r q at reading [] ms h = refl
none_new r q at reading (c ∷ cs) ms h =
    none_new r q at reading cs (new_call at reading c ∷ ms) (λ x has. h x (contains_more c cs x has))
    ∙ dropped r q (new_call at reading c) ms (h c (contains_first c cs))

-- ---- answers

call_by : (es : Trace) (e : Entry) (n : ℕ) (a : Answer) (m : Submitted) (b : Bool)
    → (let z : Submitted = elim b as (λ t. Submitted) [ false ↦ m | true ↦ record m { answer = option_or m.answer (Some (answer_of es e a m.call)) } ] in z.call) ≡ m.call
call_by es e n a m true = refl
call_by es e n a m false = refl

pub same_call : (es : Trace) (e : Entry) (n : ℕ) (a : Answer) (m : Submitted) → (answered_in es e n a m).call ≡ m.call
same_call es e n a m = call_by es e n a m (m.call.number == n)

kept_by : (es : Trace) (e : Entry) (a : Answer) (m : Submitted) (b : Bool) → (b ≡ true → m.answer ≡ None → ⊥)
    → elim b as (λ t. Submitted) [ false ↦ m | true ↦ record m { answer = option_or m.answer (Some (answer_of es e a m.call)) } ] ≡ m
kept_by es e a m false h = refl
kept_by es e a m true h = answered_by m (answer_of es e a m.call) m.answer refl (h refl)
  where
    answered_by : (m : Submitted) (x : Answered) (o : Option Answered) → m.answer ≡ o → (m.answer ≡ None → ⊥) → record m { answer = option_or m.answer (Some x) } ≡ m
    answered_by m x None is none = absurd (none is)
    answered_by m x (Some b) is none = ap (λ o. let z : Submitted = record m { answer = option_or o (Some x) } in z) is ∙ ap (λ o. let z : Submitted = record m { answer = o } in z) (sym is)

same_number : (a b : ℕ) → (a == b) ≡ true → a ≡ b
same_number a b h = grind (arith, tests)

-- One that is answered already, or has another number, is left.
pub left_alone : (es : Trace) (e : Entry) (n : ℕ) (a : Answer) (m : Submitted) → (m.call.number ≡ n → m.answer ≡ None → ⊥) → answered_in es e n a m ≡ m
left_alone es e n a m h = kept_by es e a m (m.call.number == n) (λ is. h (same_number m.call.number n is))

step_by : (x y : Submitted) (zs ws : List Submitted) (b b' c c' : Bool) → b' ≡ b → c' ≡ c → (b ≡ true → c ≡ true → y ≡ x) → ws ≡ zs
    → (if b' then (if c' then y ∷ ws else ws) else ws) ≡ (if b then (if c then x ∷ zs else zs) else zs)
step_by x y zs ws b b' c c' hb hc same rest =
    ap (λ t. if t then (if c' then y ∷ ws else ws) else ws) hb ∙ ap (λ t. if b then (if t then y ∷ ws else ws) else ws) hc ∙ by b c same
  where
    by : (b c : Bool) → (b ≡ true → c ≡ true → y ≡ x) → (if b then (if c then y ∷ ws else ws) else ws) ≡ (if b then (if c then x ∷ zs else zs) else zs)
    by true true h = ap (λ z. z ∷ ws) (h refl refl) ∙ ap (λ xs. x ∷ xs) rest
    by true false h = rest
    by false c h = rest

mapped : (r q : Submitted → Bool) (f : Submitted → Submitted) → ((m : Submitted) → r (f m) ≡ r m) → ((m : Submitted) → q (f m) ≡ q m) → (ms : List Submitted)
    → ((m : Submitted) → Contains ms m → r m ≡ true → q m ≡ true → f m ≡ m) → both_kept r q (map f ms) ≡ both_kept r q ms
mapped r q f hr hq [] h = refl
mapped r q f hr hq (x ∷ ms) h =
    unfold_one r q (f x) (map f ms) (r (f x))
    ∙ step_by x (f x) (both_kept r q ms) (both_kept r q (map f ms)) (r x) (r (f x)) (q x) (q (f x)) (hr x) (hq x) (h x (contains_first x ms))
    (mapped r q f hr hq ms (λ m has. h m (contains_more x ms m has)))
    ∙ sym (unfold_one r q x ms (r x))

pub marked_by : (r q : Submitted → Bool) (es : Trace) (e : Entry) (i : Input) → ((m n : Submitted) → m.call ≡ n.call → r m ≡ r n) → ((m n : Submitted) → m.call ≡ n.call → q m ≡ q n)
    → (ms : List Submitted) → ((n : ℕ) (a : Answer) → i ≡ Told n a → (m : Submitted) → Contains ms m → r m ≡ true → q m ≡ true → m.call.number ≡ n → m.answer ≡ None → ⊥)
    → both_kept r q (mark es e i ms) ≡ both_kept r q ms
marked_by r q es e (Told n a) hr hq ms h =
    mapped r q (answered_in es e n a) (λ m. hr (answered_in es e n a m) m (same_call es e n a m)) (λ m. hq (answered_in es e n a m) m (same_call es e n a m)) ms
    (λ m has rm qm. left_alone es e n a m (h n a refl m has rm qm))
marked_by r q es e (Line text) hr hq ms h = refl
marked_by r q es e (Number text) hr hq ms h = refl
marked_by r q es e (Exit p) hr hq ms h = refl
marked_by r q es e (Spawned p ok) hr hq ms h = refl
marked_by r q es e Wake hr hq ms h = refl

-- ---- a call of a lease works on blocks

abbrev reads_blocks : Purpose → Bool
reads_blocks p = is_block_read (new_call 0 0 (record { number = 0; session = 0; purpose = p; path = []; offset = 0; op = ReadSectors 0 }))

or_right : (b : Bool) → (b || true) ≡ true
or_right true = refl
or_right false = refl

or_left : (b c : Bool) → b ≡ true → (b || c) ≡ true
or_left true c h = refl
or_left false c h = absurd (false_is_true h)

works_by : (st : Setting) (at : Spot) (c : Submitted) (work : Work) (step : LeaseStep) → IsLeaseRead st at c step → (is_write c.call.op || reads_blocks (Lease work step)) ≡ true
works_by st at c work (ReadArea name) h = or_right (is_write c.call.op)
works_by st at c work ReadBeforeFree h = or_right (is_write c.call.op)
works_by st at c work ReadBeforeBlock h = or_right (is_write c.call.op)
works_by st at c work (ReadAgain (OfArea name)) h = or_right (is_write c.call.op)
works_by st at c work (ReadAgain OfFree) h = or_right (is_write c.call.op)
works_by st at c work (ReadAgain OfBlock) h = or_right (is_write c.call.op)
works_by st at c work (ReadAgain OfPhase1) h = or_right (is_write c.call.op)
works_by st at c work (ReadAgain OfPhase2) h = or_right (is_write c.call.op)
works_by st at c work Phase1Read h = or_right (is_write c.call.op)
works_by st at c work Phase2Read h = or_right (is_write c.call.op)
works_by st at c work Phase1Write h = or_left (is_write c.call.op) false h
works_by st at c work Phase2Write h = or_left (is_write c.call.op) false h
works_by st at c work TakeLeader h = or_left (is_write c.call.op) false h
works_by st at c work SetMode h = or_left (is_write c.call.op) false h
works_by st at c work FreeLeader h = or_left (is_write c.call.op) false h
works_by st at c work ClearMode h = or_left (is_write c.call.op) false h

record IsLeasePurpose (p : Purpose) : Type 0 where
  work : Work
  step : LeaseStep
  is : p ≡ Lease work step

lease_purpose : (p : Purpose) → is_some (lease_step p) ≡ true → IsLeasePurpose p
lease_purpose (Lease work step) h = record { work = work; step = step; is = refl }
lease_purpose (Joining j step) h = absurd (false_is_true h)
lease_purpose Renewal h = absurd (false_is_true h)
lease_purpose Survey h = absurd (false_is_true h)
lease_purpose (Leaving j) h = absurd (false_is_true h)
lease_purpose (RequestRead j) h = absurd (false_is_true h)
lease_purpose (RequestWrite j owner) h = absurd (false_is_true h)
lease_purpose SeeRequest h = absurd (false_is_true h)
lease_purpose (ValueWrite j) h = absurd (false_is_true h)
lease_purpose (ValueRead j) h = absurd (false_is_true h)

lease_works : (st : Setting) (c : Submitted) → is_lease_call c ≡ true → LawfulLeaseRead st c → (is_block_work c && is_area_work c.call.purpose) ≡ true
lease_works st c is law =
    let p = lease_purpose c.call.purpose is in
    and_from (is_block_work c) (is_area_work c.call.purpose)
    (ap (λ p. is_write c.call.op || reads_blocks p) p.is
    ∙ works_by st (spot_of_call st.layout c) c p.work p.step (subst (λ z. IsRightRead st (spot_of_call st.layout c) c z) p.is law))
    (ap (λ z. is_area_work z) p.is)

-- ---- the area of a call

none_off : (n left : ℕ) → left ≡ 0 → n - left ≡ n
none_off n left h = omega (arith, h)

even : (a b : Bool) (n : ℕ) → (n == 0) ≡ a → (a && b) ≡ true → n ≡ 0
even true b n is h = same_number n 0 is
even false b n is h = absurd (false_is_true h)

pub spot_is : (g : Layout) (at : Spot) (m : Submitted) → at.base % g.area ≡ 0 → is_on g at m.call ≡ true → spot_of_call g m ≡ at
spot_is g at m even_base on =
    let c : Submitted = new_call 0 0 (record m.call { path = at.path; offset = at.base }) in
    let same : spot_of_call g c ≡ at = ap (λ n. let z : Spot = record { path = at.path; base = n } in z) (none_off at.base (at.base % g.area) even_base) in
    areas_are_apart g c m (subst (λ z. is_on g z m.call ≡ true) (sym same) on) ∙ same

-- ---- no new call of the lease

waits_there : (st : Setting) (past : Trace) (e : Entry) (k : ℕ) (d : Submitted) → Contains (submitted past) d → IsOfOthers e d.call.number
    → Contains (submitted (cut_at k e ∷ past)) d
waits_there st past e k d has others =
    old_stays (length past) e.reading (take k e.effects.calls) (mark past (cut_at k e) e.input (submitted past)) d (in_mark e.input refl)
  where
    in_mark : (i : Input) → e.input ≡ i → Contains (mark past (cut_at k e) i (submitted past)) d
    in_mark (Told n a) is =
        subst (λ z. Contains (mark past (cut_at k e) (Told n a) (submitted past)) z) (left_alone past (cut_at k e) n a d (λ same none. others n a is (sym same)))
        (contains_map (answered_in past (cut_at k e) n a) (submitted past) d has)
    in_mark (Line text) is = has
    in_mark (Number text) is = has
    in_mark (Exit p) is = has
    in_mark (Spawned p ok) is = has
    in_mark Wake is = has

placed : (xs : List Call) (c : Call) → Contains xs c → (k : ℕ) × (slice_get xs k ≡ Some c)
placed [] c h = absurd (contains_none c h)
placed (x ∷ xs) c h =
    elim (contains_cases x xs c h) as (λ z. (k : ℕ) × (slice_get (x ∷ xs) k ≡ Some c)) [
      | inl same ↦ (zero, ap (λ y. Some y) same)
      | inr more ↦ let r = placed xs c more in (suc r.0, r.1)
    ]

-- Where the call that waits is the session's, on the area.
record Waits (st : Setting) (past : Trace) (s : Session) (at : Spot) (d : Submitted) : Type 0 where
  there : Contains (submitted past) d
  mine : is_call_of s d ≡ true
  lease : is_lease_call d ≡ true
  on : is_on st.layout at d.call ≡ true

waits_of : (st : Setting) (past : Trace) (s : Session) (at : Spot) (d : Submitted) → Contains (lease_calls st past s at) d → Waits st past s at d
waits_of st past s at d has =
    let one = kept_inside (λ m. is_lease_call m && is_on st.layout at m.call) (calls_of past s) d has in
    let two = kept_inside (is_call_of s) (submitted past) d one.0 in
    let both = and_true (is_lease_call d) (is_on st.layout at d.call) one.1 in
    record { there = two.0; mine = two.1; lease = both.0; on = both.1 }

pub lease_is_work : (p : Purpose) → is_some (lease_step p) ≡ true → is_area_work p ≡ true
lease_is_work (Lease work step) h = refl
lease_is_work (Joining j step) h = absurd (false_is_true h)
lease_is_work Renewal h = absurd (false_is_true h)
lease_is_work Survey h = absurd (false_is_true h)
lease_is_work (Leaving j) h = absurd (false_is_true h)
lease_is_work (RequestRead j) h = refl
lease_is_work (RequestWrite j owner) h = refl
lease_is_work SeeRequest h = absurd (false_is_true h)
lease_is_work (ValueWrite j) h = refl
lease_is_work (ValueRead j) h = refl

barred : (st : Setting) (past : Trace) (e : Entry) (s : Session) (at : Spot) (d : Submitted) → Lawful st (e ∷ past) → session_numbered st (e ∷ past) s.number ≡ Some s → IsAtWork st past s at d
    → IsOfOthers e d.call.number → (c : Call) → Contains e.effects.calls c → is_call_of s (new_call (length past) e.reading c) ≡ true
    → (is_lease_call (new_call (length past) e.reading c) && is_on st.layout at c) ≡ true → ⊥
barred st past e s at d law known w others c has mine is =
    let m : Submitted = new_call (length past) e.reading c in
    let k = placed e.effects.calls c has in
    let t : Trace = cut_at k.0 e ∷ past in
    let its : session_numbered st (e ∷ past) c.session ≡ Some s = subst (λ n. session_numbered st (e ∷ past) n ≡ Some s) (sym (same_number c.session s.number mine)) known in
    let both = and_true (is_lease_call m) (is_on st.layout at c) is in
    let here : spot_of_call st.layout m ≡ at =
    spot_is st.layout at m (even (at.base % st.layout.area == 0) (nat_lt at.base (10 ^ 12)) (at.base % st.layout.area) refl w.base) both.1 in
    let none : open_block_work st t s at ≡ [] =
    subst (λ z. open_block_work st t s z ≡ []) here
    (law.orderly.area.0.alone k.0 c s k.1 its (lease_works st m both.0 (law.orderly.area.0.reads k.0 c s k.1 its))) in
    let x = waits_of st past s at d w.there in
    let there : Contains (submitted t) d = waits_there st past e k.0 d x.there others in
    let called : Contains (calls_of t s) d = kept (is_call_of s) (submitted t) d x.mine there in
    let opened : Contains (open_calls_of t s) d = kept (λ y. is_none y.answer) (calls_of t s) d (ap (λ o. is_none o) w.waits) called in
    let barring : Contains (open_block_work st t s at) d =
    kept (λ y. is_area_work y.call.purpose && (is_block_work y && is_on st.layout at y.call)) (open_calls_of t s) d
    (and_from (is_area_work d.call.purpose) (is_block_work d && is_on st.layout at d.call) (lease_is_work d.call.purpose x.lease) (and_from (is_block_work d) (is_on st.layout at d.call) w.works x.on)) opened in
    contains_none d (subst (λ xs. Contains xs d) none barring)

pub leases_stay : LeasesStay
leases_stay st past e s at d law known w others =
    let q : Submitted → Bool = λ m. is_lease_call m && is_on st.layout at m.call in
    none_new (is_call_of s) q (length past) e.reading e.effects.calls (mark past e e.input (submitted past)) (barred st past e s at d law known w others)
    ∙ marked_by (is_call_of s) q past e e.input (λ m n same. ap (λ (c : Call). c.session == s.number) same)
    (λ m n same. ap (λ (c : Call). is_some (lease_step c.purpose) && is_on st.layout at c) same) (submitted past)
    (λ n a is m has mine lease number waits.
    let here : Contains (lease_calls st past s at) m = kept q (calls_of past s) m lease (kept (is_call_of s) (submitted past) m mine has) in
    others n a is (sym number ∙ w.only m here waits))
