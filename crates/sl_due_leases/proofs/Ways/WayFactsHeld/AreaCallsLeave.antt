-- A call that is work on an area leaves ways and turns, where no other such call is open there; a lease's has its way.
use Rattle.sl_due_facts.specs.Acts.Acts.{Has}
use Rattle.sl_due_facts.specs.Acts.TraceSoFar.{entry_of}
use Rattle.sl_due.specs.Steps.{Step, add_call_of, seen}
use Rattle.sl_run.specs.LawfulArea.{is_area_work}
use Rattle.sl_due_leases.proofs.Ways.WayFactsHeld.EffectsLeave.{further_grows, made_call, not_empty, one_session, other_grows, still_open}
use Rattle.sl_due_leases.proofs.Ways.WayFactsHeld.PlacesStand.{spot_is}
use Rattle.sl_due_leases.proofs.Ways.WayFactsHeld.WaysGrow.{ways_grow}
use Rattle.sl_due_leases.specs.Ways.WayFactsHeld.{LeasesStand}
use Rattle.sl_trace.specs.Leases.{is_lease_call, is_on, lease_calls, lease_step, spot_of_call}
use Rattle.sl_due_facts.proofs.AddedEffects.CallsGrow.{mine_more, others_stay, same_sessions}
use Rattle.sl_trace.specs.Sessions.{calls_of, delta_of_record, is_call_of, is_join_call, session_numbered, sessions}
use Rattle.sl_trace.specs.declared.session.Session.{Session}
use Rattle.sl_due_facts.specs.Facts.HeardCall.{IsOpen, heard_by}
use Rattle.sl_due_facts.specs.Facts.WayFacts.{CallWay, IsAligned, PurposeWay, Ways, way_context}
use Rattle.sl_trace.proofs.TraceFacts.{submitted-push}
use Rattle.sl_trace.specs.Traces.{Answered, Setting, Submitted, Trace, new_call, next_call, record_of, submitted}
use Rattle.sl_trace.specs.declared.effects.Call.{Call}
use Rattle.sl_trace.specs.declared.effects.JoinStep.TheVariants.{FirstRead}
use Rattle.sl_trace.specs.declared.effects.Op.{Op}
use Rattle.sl_trace.specs.declared.effects.Purpose.TheVariants.{Joining, Lease, Leaving, Renewal, RequestRead, RequestWrite, SeeRequest, Survey, ValueRead, ValueWrite}
use Rattle.sl_trace.specs.declared.effects.Purpose.{Purpose}
use Rattle.sl_trace.specs.declared.effects.Spot.{Spot}
use Rattle.sl_words.proofs.Lists.{contains_cases, kept_inside}
use Rattle.sl_words.proofs.Numbers.{number_itself}
use Rattle.sl_run_law.proofs.Leases.SpotLaws.{areas_are_apart}
use Rattle.sl_words.proofs.CaseLaws.{false_is_true, none_some, one_value, true_is_false, true_or_false}
use Rattle.sl_words.proofs.WordLaws.{and_true}
use Rattle.std.proofs.Common.{ap, eqb-true, inl, inr, refl, subst, sym, ◌∙◌}
use Rattle.std.specs.Prelude.{Bool, Contains, IsTrue, List, None, Option, Some, cond, false, filter, is_some, length, option_and_then, slice_get, true, ℕ, ◌&&◌, ◌<◌, ◌==◌, ◌∷◌, ◌≡◌, ◌⊎◌}

-- What such a call must have.
pub record MayWork (x : Step) (s : Session) (at : Spot) (p : Purpose) (o : ℕ) (op : Op) : Type 0 where
  pub has : Has x s
  pub works : is_area_work p ≡ true
  pub aligned : IsAligned x.setting at
  pub on : is_on x.setting.layout at (made_call x s.number at.path p o op) ≡ true
  -- none is open there
  pub clear : (m : Submitted) → Contains (submitted (seen x)) m → m.answer ≡ None → is_area_work m.call.purpose ≡ true → spot_of_call x.setting.layout m ≡ at → ⊥
  pub below : (m : Submitted) → Contains (submitted (seen x)) m → m.call.number < next_call x.setting (seen x)
  pub no_delta : option_and_then delta_of_record (record_of op) ≡ None
  pub way : is_some (lease_step p) ≡ true → (c : Call) → c.op ≡ op → PurposeWay (way_context x.setting (seen x) s) (length x.past) c (lease_calls x.setting (seen x) s at) p

pub work_is_no_join : (p : Purpose) → is_area_work p ≡ true → is_join_call FirstRead p ≡ false
work_is_no_join (Lease work step) is = refl
work_is_no_join (RequestRead j) is = refl
work_is_no_join (RequestWrite j owner) is = refl
work_is_no_join (ValueWrite j) is = refl
work_is_no_join (ValueRead j) is = refl
work_is_no_join (Joining j step) is = absurd (false_is_true is)
work_is_no_join Renewal is = refl
work_is_no_join Survey is = refl
work_is_no_join (Leaving j) is = refl
work_is_no_join SeeRequest is = refl

pub lease_is_work : (p : Purpose) → is_some (lease_step p) ≡ true → is_area_work p ≡ true
lease_is_work (Lease work step) is = refl
lease_is_work (RequestRead j) is = refl
lease_is_work (RequestWrite j owner) is = refl
lease_is_work (ValueWrite j) is = refl
lease_is_work (ValueRead j) is = refl
lease_is_work (Joining j step) is = absurd (false_is_true is)
lease_is_work Renewal is = absurd (false_is_true is)
lease_is_work Survey is = absurd (false_is_true is)
lease_is_work (Leaving j) is = absurd (false_is_true is)
lease_is_work SeeRequest is = absurd (false_is_true is)

-- ---- the calls of a lease

abbrev made : (x : Step) (s : Session) (at : Spot) (p : Purpose) (o : ℕ) (op : Op) → Submitted
made x s at p o op = new_call (length x.past) x.reading (made_call x s.number at.path p o op)

abbrev after : (x : Step) (s : Session) (at : Spot) (p : Purpose) (o : ℕ) (op : Op) → Step
after x s at p o op = add_call_of s.number at.path p o op x

abbrev here : Setting → Spot → Submitted → Bool
here st at m = is_lease_call m && is_on st.layout at m.call

-- One of the lease: of the session, on the area, for a lease.
lease_one : (st : Setting) (t : Trace) (z : Session) (at : Spot) (d : Submitted) → Contains (lease_calls st t z at) d
    → Contains (submitted t) d × (is_lease_call d ≡ true) × (is_on st.layout at d.call ≡ true)
lease_one st t z at d there =
    let inside = kept_inside (here st at) (calls_of t z) d there in
    let both = and_true (is_lease_call d) (is_on st.layout at d.call) inside.1 in
    ((kept_inside (is_call_of z) (submitted t) d inside.0).0, both.0, both.1)

call_way : (x : Step) (s : Session) (at : Spot) (p : Purpose) (o : ℕ) (op : Op) → MayWork x s at p o op → is_some (lease_step p) ≡ true
    → CallWay (way_context x.setting (seen x) s) (made x s at p o op) (lease_calls x.setting (seen x) s at)
call_way x s at p o op h lease =
    record {
      way = h.way lease (made_call x s.number at.path p o op) refl;
      answered = λ d there. by d (lease_one x.setting (seen x) s at d there) (true_or_false (is_some d.answer));
      above = λ d there. h.below d (lease_one x.setting (seen x) s at d there).0;
    }
  where
    none_is : (o : Option Answered) → is_some o ≡ false → o ≡ None
    none_is None is = refl
    none_is (Some a) is = absurd (true_is_false is)

    by : (d : Submitted) → Contains (submitted (seen x)) d × (is_lease_call d ≡ true) × (is_on x.setting.layout at d.call ≡ true) → (is_some d.answer ≡ true) ⊎ (is_some d.answer ≡ false) → is_some d.answer ≡ true
    by d its (inl is) = is
    by d its (inr is) = absurd (h.clear d its.0 (none_is d.answer is) (lease_is_work d.call.purpose its.1) (spot_is x.setting.layout at d h.aligned its.2))

-- Of another lease, or another session's, the calls stay.
other_lease : (x : Step) (s : Session) (at : Spot) (p : Purpose) (o : ℕ) (op : Op) (z : Session) (a : Spot) → (s.number == z.number) ≡ true → (is_some (lease_step p) && is_on x.setting.layout a (made_call x s.number at.path p o op)) ≡ false
    → lease_calls x.setting (seen (after x s at p o op)) z a ≡ lease_calls x.setting (seen x) z a
other_lease x s at p o op z a mine none =
    ap (λ ms. filter (here x.setting a) ms) (mine_more (entry_of x) x.past (made_call x s.number at.path p o op) z mine)
    ∙ ap (λ b. cond b (made x s at p o op ∷ filter (here x.setting a) (calls_of (seen x) z)) (filter (here x.setting a) (calls_of (seen x) z))) none

own_lease : (x : Step) (s : Session) (at : Spot) (p : Purpose) (o : ℕ) (op : Op) (z : Session) (a : Spot) → (s.number == z.number) ≡ true → (is_some (lease_step p) && is_on x.setting.layout a (made_call x s.number at.path p o op)) ≡ true
    → lease_calls x.setting (seen (after x s at p o op)) z a ≡ made x s at p o op ∷ lease_calls x.setting (seen x) z a
own_lease x s at p o op z a mine is =
    ap (λ ms. filter (here x.setting a) ms) (mine_more (entry_of x) x.past (made_call x s.number at.path p o op) z mine)
    ∙ ap (λ b. cond b (made x s at p o op ∷ filter (here x.setting a) (calls_of (seen x) z)) (filter (here x.setting a) (calls_of (seen x) z))) is

strange_lease : (x : Step) (s : Session) (at : Spot) (p : Purpose) (o : ℕ) (op : Op) (z : Session) (a : Spot) → (s.number == z.number) ≡ false
    → lease_calls x.setting (seen (after x s at p o op)) z a ≡ lease_calls x.setting (seen x) z a
strange_lease x s at p o op z a other = ap (λ ms. filter (here x.setting a) ms) (others_stay (entry_of x) x.past (made_call x s.number at.path p o op) z other)

-- ---- ways

own_ways : (x : Step) (s : Session) (at : Spot) (p : Purpose) (o : ℕ) (op : Op) → MayWork x s at p o op → LeasesStand x → Contains (sessions x.setting (seen x)) s → (a : Spot) → IsAligned x.setting a → (b : Bool)
    → (is_some (lease_step p) && is_on x.setting.layout a (made_call x s.number at.path p o op)) ≡ b
    → Ways (way_context x.setting (seen (after x s at p o op)) s) (lease_calls x.setting (seen (after x s at p o op)) s a)
own_ways x s at p o op h k there a aligned false is =
    subst (λ ms. Ways (way_context x.setting (seen (after x s at p o op)) s) ms) (sym (other_lease x s at p o op s a (number_itself s.number) is))
    (ways_grow (way_context x.setting (seen x) s) (way_context x.setting (seen (after x s at p o op)) s)
    (further_grows x s at.path p o op (λ d at. absurd (none_some d (sym h.no_delta ∙ at)))) (lease_calls x.setting (seen x) s a) (k.ways.each s a there aligned))
own_ways x s at p o op h k there a aligned true is =
    let both = and_true (is_some (lease_step p)) (is_on x.setting.layout a (made_call x s.number at.path p o op)) is in
    let same : a ≡ at = sym (spot_is x.setting.layout a (made x s at p o op) aligned both.1) ∙ spot_is x.setting.layout at (made x s at p o op) h.aligned h.on in
    let way : CallWay (way_context x.setting (seen x) s) (made x s at p o op) (lease_calls x.setting (seen x) s a) =
    subst (λ z. CallWay (way_context x.setting (seen x) s) (made x s at p o op) (lease_calls x.setting (seen x) s z)) (sym same) (call_way x s at p o op h both.0)
    in
    subst (λ ms. Ways (way_context x.setting (seen (after x s at p o op)) s) ms) (sym (own_lease x s at p o op s a (number_itself s.number) is))
    (ways_grow (way_context x.setting (seen x) s) (way_context x.setting (seen (after x s at p o op)) s)
    (further_grows x s at.path p o op (λ d at. absurd (none_some d (sym h.no_delta ∙ at)))) (made x s at p o op ∷ lease_calls x.setting (seen x) s a)
    (way, k.ways.each s a there aligned))

each_ways : (x : Step) (s : Session) (at : Spot) (p : Purpose) (o : ℕ) (op : Op) → MayWork x s at p o op → LeasesStand x → (z : Session) → Contains (sessions x.setting (seen x)) z → (a : Spot) → IsAligned x.setting a → (b : Bool)
    → (s.number == z.number) ≡ b → Ways (way_context x.setting (seen (after x s at p o op)) z) (lease_calls x.setting (seen (after x s at p o op)) z a)
each_ways x s at p o op h k z there a aligned false other =
    subst (λ ms. Ways (way_context x.setting (seen (after x s at p o op)) z) ms) (sym (strange_lease x s at p o op z a other))
    (ways_grow (way_context x.setting (seen x) z) (way_context x.setting (seen (after x s at p o op)) z) (other_grows x s.number at.path p o op z other) (lease_calls x.setting (seen x) z a) (k.ways.each z a there aligned))
each_ways x s at p o op h k z there a aligned true mine =
    let same : s ≡ z = one_session x.setting (seen x) s z h.has there (sym (eqb-true s.number z.number mine)) in
    subst (λ (y : Session). Ways (way_context x.setting (seen (after x s at p o op)) y) (lease_calls x.setting (seen (after x s at p o op)) y a)) same
    (own_ways x s at p o op h k (subst (λ (y : Session). Contains (sessions x.setting (seen x)) y) (sym same) there) a aligned
    (is_some (lease_step p) && is_on x.setting.layout a (made_call x s.number at.path p o op)) refl)

-- ---- turns

old_or_new : (x : Step) (s : Session) (at : Spot) (p : Purpose) (o : ℕ) (op : Op) (m : Submitted) → Contains (submitted (seen (after x s at p o op))) m → (made x s at p o op ≡ m) ⊎ Contains (submitted (seen x)) m
old_or_new x s at p o op m there =
    contains_cases (made x s at p o op) (submitted (seen x)) m (subst (λ ms. Contains ms m) (submitted-push x.past (entry_of x) (made_call x s.number at.path p o op)) there)

-- In the entry that makes it only what has no answer is open.
unanswered_is : (x : Step) (s : Session) (at : Spot) (p : Purpose) (o : ℕ) (op : Op) (m : Submitted) → IsOpen (seen (after x s at p o op)) (heard_by x.input) m → m.answer ≡ None
unanswered_is x s at p o op m (inl none) = none
unanswered_is x s at p o op m (inr heard) = absurd (not_empty x.effects.calls (made_call x s.number at.path p o op) heard.1)

pub area_calls_leave : (x : Step) (s : Session) (at : Spot) (p : Purpose) (o : ℕ) (op : Op) → MayWork x s at p o op → LeasesStand x → LeasesStand (add_call_of s.number at.path p o op x)
area_calls_leave x s at p o op h k =
    record {
      ways = record { each = λ z a there aligned. each_ways x s at p o op h k z (subst (λ ss. Contains ss z) same there) a aligned (s.number == z.number) refl };
      turns = record {
        one = λ m n m_there n_there m_open n_open m_work n_work spots.
            pair m n (old_or_new x s at p o op m m_there) (old_or_new x s at p o op n n_there) m_open n_open m_work n_work spots;
        newest = λ z m its there opens lease. newest z m (sym (ap (λ ss. slice_get ss m.call.session) same) ∙ its) (old_or_new x s at p o op m there) opens lease;
      };
    }
  where
    same : sessions x.setting (seen (after x s at p o op)) ≡ sessions x.setting (seen x)
    same = same_sessions x.setting (entry_of x) x.past (made_call x s.number at.path p o op) (work_is_no_join p h.works)

    spot : spot_of_call x.setting.layout (made x s at p o op) ≡ at
    spot = spot_is x.setting.layout at (made x s at p o op) h.aligned h.on

    bars : (m n : Submitted) → made x s at p o op ≡ m → Contains (submitted (seen x)) n → IsOpen (seen (after x s at p o op)) (heard_by x.input) n → IsTrue (is_area_work n.call.purpose)
        → spot_of_call x.setting.layout m ≡ spot_of_call x.setting.layout n → ⊥
    bars m n new there opens work spots =
        h.clear n there (unanswered_is x s at p o op n opens) work (sym spots ∙ (sym (ap (λ (z : Submitted). spot_of_call x.setting.layout z) new) ∙ spot))

    pair : (m n : Submitted) → (made x s at p o op ≡ m) ⊎ Contains (submitted (seen x)) m → (made x s at p o op ≡ n) ⊎ Contains (submitted (seen x)) n
        → IsOpen (seen (after x s at p o op)) (heard_by x.input) m → IsOpen (seen (after x s at p o op)) (heard_by x.input) n
        → IsTrue (is_area_work m.call.purpose) → IsTrue (is_area_work n.call.purpose) → spot_of_call x.setting.layout m ≡ spot_of_call x.setting.layout n → m ≡ n
    pair m n (inl a) (inl b) m_open n_open m_work n_work spots = sym a ∙ b
    pair m n (inl a) (inr b) m_open n_open m_work n_work spots = absurd (bars m n a b n_open n_work spots)
    pair m n (inr a) (inl b) m_open n_open m_work n_work spots = absurd (bars n m b a m_open m_work (sym spots))
    pair m n (inr a) (inr b) m_open n_open m_work n_work spots =
        k.turns.one m n a b (still_open x s.number at.path p o op (heard_by x.input) m m_open) (still_open x s.number at.path p o op (heard_by x.input) n n_open) m_work n_work spots

    new_one : (z : Session) → session_numbered x.setting (seen x) s.number ≡ Some z → is_some (lease_step p) ≡ true
        → (ms : List Submitted) × (lease_calls x.setting (seen (after x s at p o op)) z (spot_of_call x.setting.layout (made x s at p o op)) ≡ made x s at p o op ∷ ms)
    new_one z its lease =
        let mine : s ≡ z = one_value s z (session_numbered x.setting (seen x) s.number) h.has its in
        let number : (s.number == z.number) ≡ true = ap (λ (y : Session). s.number == y.number) (sym mine) ∙ number_itself s.number in
        let there : (is_some (lease_step p) && is_on x.setting.layout (spot_of_call x.setting.layout (made x s at p o op)) (made_call x s.number at.path p o op)) ≡ true =
        ap (λ b. b && is_on x.setting.layout (spot_of_call x.setting.layout (made x s at p o op)) (made_call x s.number at.path p o op)) lease
        ∙ (ap (λ a. is_on x.setting.layout a (made_call x s.number at.path p o op)) spot ∙ h.on)
        in
        (lease_calls x.setting (seen x) z (spot_of_call x.setting.layout (made x s at p o op)), own_lease x s at p o op z (spot_of_call x.setting.layout (made x s at p o op)) number there)

    old_list : (z : Session) (m : Submitted) → m.answer ≡ None → Contains (submitted (seen x)) m → IsTrue (is_lease_call m) → (b c : Bool) → (s.number == z.number) ≡ b
        → (is_some (lease_step p) && is_on x.setting.layout (spot_of_call x.setting.layout m) (made_call x s.number at.path p o op)) ≡ c
        → lease_calls x.setting (seen (after x s at p o op)) z (spot_of_call x.setting.layout m) ≡ lease_calls x.setting (seen x) z (spot_of_call x.setting.layout m)
    old_list z m none there lease false c number on = strange_lease x s at p o op z (spot_of_call x.setting.layout m) number
    old_list z m none there lease true false number on = other_lease x s at p o op z (spot_of_call x.setting.layout m) number on
    old_list z m none there lease true true number on =
        let both = and_true (is_some (lease_step p)) (is_on x.setting.layout (spot_of_call x.setting.layout m) (made_call x s.number at.path p o op)) on in
        absurd (h.clear m there none (lease_is_work m.call.purpose lease) (sym (areas_are_apart x.setting.layout m (made x s at p o op) both.1) ∙ spot))

    newest : (z : Session) (m : Submitted) → session_numbered x.setting (seen x) m.call.session ≡ Some z → (made x s at p o op ≡ m) ⊎ Contains (submitted (seen x)) m
        → IsOpen (seen (after x s at p o op)) (heard_by x.input) m → IsTrue (is_lease_call m)
        → (ms : List Submitted) × (lease_calls x.setting (seen (after x s at p o op)) z (spot_of_call x.setting.layout m) ≡ m ∷ ms)
    newest z m its (inl new) opens lease =
        subst (λ (y : Submitted). (ms : List Submitted) × (lease_calls x.setting (seen (after x s at p o op)) z (spot_of_call x.setting.layout y) ≡ y ∷ ms)) new
        (new_one z (ap (λ (y : Submitted). session_numbered x.setting (seen x) y.call.session) new ∙ its) (ap (λ (y : Submitted). is_lease_call y) new ∙ lease))
    newest z m its (inr old) opens lease =
        let was = k.turns.newest z m its old (still_open x s.number at.path p o op (heard_by x.input) m opens) lease in (
          was.0,
          old_list z m (unanswered_is x s at p o op m opens) old lease (s.number == z.number)
              (is_some (lease_step p) && is_on x.setting.layout (spot_of_call x.setting.layout m) (made_call x s.number at.path p o op)) refl refl ∙ was.1,
        )
