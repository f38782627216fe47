-- Where a command's decision is to work on an area, and where a settling begins, the area is free for a call.
use Rattle.sl_due_facts.specs.Acts.Acts.{Has}
use Rattle.sl_area.specs.AreaLayout.{is_base}
use Rattle.sl_area.specs.Roles.{leader}
use Rattle.sl_due.specs.Steps.{Step, seen, with_input}
use Rattle.sl_run.specs.Lawful.{IsSetting}
use Rattle.sl_due_leases.proofs.Ways.WayFactsHeld.DecisionsAreClear.{IsAsked}
use Rattle.sl_due_leases.proofs.Ways.WayFactsHeld.InputsLeave.{quiet_same}
use Rattle.sl_due_leases.proofs.Ways.WayFactsHeld.LeaseNextsLeave.{LeaseReady}
use Rattle.sl_due_leases.proofs.Ways.WayFactsHeld.PlacesStand.{place_is_on, placed_on}
use Rattle.sl_trace.specs.Counts.{pending_call}
use Rattle.sl_trace.specs.Jobs.{resource_named}
use Rattle.sl_trace.specs.Leases.{is_on, open_on, spot_of, spot_of_call}
use Rattle.sl_trace.specs.declared.session.Session.{Session}
use Rattle.sl_due_facts.specs.Facts.CallFacts.{CallFacts}
use Rattle.sl_area.specs.AreaSizes.{Layout}
use Rattle.sl_trace.specs.CommandForms.{IsCommand, IsResourceArg}
use Rattle.sl_trace.specs.Traces.{Setting, Submitted, Trace, outstanding, submitted}
use Rattle.sl_trace.specs.declared.command.Command.TheVariants.{Acquire, AddLockspace, Convert, GetLvb, HostStatus, InqLockspace, Release, ReleaseOrphan, RemLockspace, Request, RunProgram, SetKillpath, SetLvb, Status, TakeOver}
use Rattle.sl_trace.specs.declared.command.Command.{Command}
use Rattle.sl_trace.specs.declared.command.ResourceArg.{ResourceArg}
use Rattle.sl_trace.specs.declared.effects.Spot.{Spot}
use Rattle.sl_trace.specs.declared.input.Input.TheVariants.{Line, Wake}
use Rattle.sl_words.specs.Words.{least}
use Rattle.sl_words.proofs.Lists.{contains_none, kept}
use Rattle.sl_words.proofs.CaseLaws.{none_some, some_value}
use Rattle.sl_words.proofs.WordLaws.{and_true}
use Rattle.std.proofs.Common.{ap, arith, eqb-true, refl, subst, sym, tests}
use Rattle.std.proofs.Math.Nat.{div-add-mod, mod-lt}
use Rattle.std.specs.Prelude.{Contains, IsTrue, List, None, Ok, Option, Some, [], is_none, length, map, min, nat_le, nat_lt, true, ℕ, ◌%◌, ◌&&◌, ◌*◌, ◌+◌, ◌-◌, ◌/◌, ◌<◌, ◌==◌, ◌∷◌, ◌≡◌, ◌≤◌, ◌^◌}

-- ---- a call is on its own area

has_area : (base area : ℕ) → (nat_le base base && nat_lt base (base + area)) ≡ true → 0 < area
has_area base area h = grind (arith, tests)

-- An area has room.
pub area_has_room : (st : Setting) → IsSetting st → 0 < st.layout.area
area_has_room st is = has_area 0 st.layout.area (place_is_on st is 0 leader tt)

inside : (low o high : ℕ) → low ≤ o → o < high → (nat_le low o && nat_lt o high) ≡ true
inside low o high le lt = grind (arith, tests)

starts_by : (area o : ℕ) → 0 < area → (nat_le (o - o % area) o && nat_lt o (o - o % area + area)) ≡ true
starts_by area o room =
    let low : o - o % area ≤ o = omega arith in
    let less : o % area < area = mod-lt o room in
    let parts : area * (o / area) + o % area ≡ o = div-add-mod o area in
    inside (o - o % area) o (o - o % area + area) low (omega (arith, less, parts))

pub on_own : (st : Setting) → IsSetting st → (m : Submitted) → is_on st.layout (spot_of_call st.layout m) m.call ≡ true
on_own st is m = placed_on st (spot_of_call st.layout m) m.call refl (starts_by st.layout.area m.call.offset (area_has_room st is))

-- ---- none is open

empty_by : (x : Submitted) (ms : List Submitted) (o : Option ℕ) → elim o as (λ z. Option ℕ) [ None ↦ Some x.call.number | Some y ↦ Some (min x.call.number y) ] ≡ None → ⊥
empty_by x ms None is = none_some x.call.number (sym is)
empty_by x ms (Some y) is = none_some (min x.call.number y) (sym is)

least_none : (ms : List Submitted) → least (map (λ (m : Submitted). m.call.number) ms) ≡ None → ms ≡ []
least_none [] is = refl
least_none (m ∷ ms) is = absurd (empty_by m ms (least (map (λ (d : Submitted). d.call.number) ms)) is)

pub none_pending : (st : Setting) (t : Trace) (at : Spot) → pending_call st t at ≡ None → open_on st t at ≡ []
none_pending st t at is = least_none (open_on st t at) is

-- Then no call of the area is unanswered.
pub none_open : (st : Setting) → IsSetting st → (t : Trace) (at : Spot) → open_on st t at ≡ [] → (m : Submitted) → Contains (submitted t) m → m.answer ≡ None → spot_of_call st.layout m ≡ at → ⊥
none_open st is t at none m there unanswered spot =
    let waits : Contains (outstanding t) m = kept (λ (d : Submitted). is_none d.answer) (submitted t) m (ap (λ o. is_none o) unanswered) there in
    let here : is_on st.layout at m.call ≡ true = subst (λ z. is_on st.layout z m.call ≡ true) spot (on_own st is m) in
    contains_none m (subst (λ ms. Contains ms m) none (kept (λ (d : Submitted). is_on st.layout at d.call) (outstanding t) m here waits))

-- ---- the area that a command names

named_by : (g : Layout) (r k : ResourceArg) → IsResourceArg g k → Some k ≡ Some r → IsTrue (is_base g r.offset)
named_by g r k is same = subst (λ (z : ResourceArg). IsTrue (is_base g z.offset)) (some_value k r same) is.base

pub named_base : (g : Layout) (c : Command) (r : ResourceArg) → IsCommand g c → resource_named c ≡ Some r → IsTrue (is_base g r.offset)
named_base g (Acquire k shared p persistent) r is named = named_by g r k is.0 named
named_base g (TakeOver k shared p persistent) r is named = named_by g r k is.0 named
named_base g (Release k p) r is named = named_by g r k is.0 named
named_base g (ReleaseOrphan k) r is named = named_by g r k is named
named_base g (Convert k shared p) r is named = named_by g r k is.0 named
named_base g (RunProgram k shared path) r is named = named_by g r k is.0 named
named_base g (Request k lver force) r is named = named_by g r k is.0 named
named_base g (GetLvb k p) r is named = named_by g r k is.0 named
named_base g (SetLvb k p bytes) r is named = named_by g r k is.0 named
named_base g (AddLockspace a) r is named = absurd (none_some r named)
named_base g (RemLockspace a) r is named = absurd (none_some r named)
named_base g (InqLockspace a) r is named = absurd (none_some r named)
named_base g (HostStatus a) r is named = absurd (none_some r named)
named_base g (SetKillpath p path) r is named = absurd (none_some r named)
named_base g Status r is named = absurd (none_some r named)

pub base_aligned : (st : Setting) (o : ℕ) → IsTrue (is_base st.layout o) → o % st.layout.area ≡ 0
base_aligned st o is = eqb-true (o % st.layout.area) 0 (and_true (o % st.layout.area == 0) (nat_lt o (10 ^ 12)) is).0

-- After its line the command's session may make a call there.
pub line_ready : (x : Step) (text : List ℕ) (c : Command) (s : Session) (r : ResourceArg) → IsSetting x.setting → CallFacts x.setting (seen x) → x.input ≡ Wake → x.setting.read text ≡ Ok c
    → IsAsked x.setting (seen x) c s r → Has (with_input (Line text) x) s → LeaseReady (with_input (Line text) x) s (spot_of r)
line_ready x text c s r st calls wake reads asked has =
    let same : submitted (seen (with_input (Line text) x)) ≡ submitted (seen x) = quiet_same x (Line text) wake refl in
    record {
      has = has;
      setting = st;
      aligned = base_aligned x.setting r.offset (named_base x.setting.layout c r (st.reads text c reads) asked.named);
      clear = λ m there none work spot. none_open x.setting st (seen x) (spot_of r) (none_pending x.setting (seen x) (spot_of r) asked.clear) m (subst (λ ms. Contains ms m) same there) none spot;
      below = λ m there. subst (λ n. m.call.number < n) (sym (ap (λ ms. x.setting.first.call + length ms) same)) (calls.below m (subst (λ ms. Contains ms m) same there));
    }
