-- No write of a value is in flight between a reader's call and its answer: another session's is barred by the reader's holding, and of its
-- own session none was unanswered at the call, and none was made since.
use Rattle.sl_area.specs.AreaSizes.{Layout}
use Rattle.sl_area.specs.AreaLayout.{value_offset}
use Rattle.sl_run_law.proofs.Front.JoinedLists.{contains_right}
use Rattle.sl_safety.proofs.Grant.CallsOfFronts.{calls_grow}
use Rattle.sl_id_safety.proofs.State.CallLaws.{is_place}
use Rattle.sl_run.specs.LawfulArea.{is_area_work}
use Rattle.sl_run.specs.LawfulLeader.{open_writes_on}
use Rattle.sl_run.specs.LawfulValue.{writes_since}
use Rattle.sl_run.specs.LawForms.{cut_at}
use Rattle.sl_run_law.proofs.Leases.FrontLaws.{each_was_submitted, lawful_there}
use Rattle.sl_run_law.proofs.Leases.HavingLaws.{Has, was_among}
use Rattle.sl_run_law.specs.Leases.CallFronts.{Aged}
use Rattle.sl_trace.specs.Leases.{is_on, spot_of_call}
use Rattle.sl_run_law.proofs.Place.FoundInLists.{place_is}
use Rattle.sl_run_law.proofs.Place.Looks.{made_below}
use Rattle.sl_run_law.proofs.Place.TracesOnMachines.{layout_is}
use Rattle.sl_words.proofs.Lists.{any_of, contains_first, contains_none, kept}
use Rattle.sl_safety.proofs.Resources.Calls.{IsOwned, Newer, Older, Order, Same, found_of, order, owned, owner_found, there_sent}
use Rattle.sl_safety.proofs.Resources.StepsNameCalls.{write_is}
use Rattle.sl_safety.specs.Resources.SentCalls.{Sent, sender_of}
use Rattle.sl_run.specs.Runs.{Happening}
use Rattle.sl_run.specs.Safety.{Found, LawfulRun, SessionId, is_over, session_of_world, setting_in, trace_of, world_at}
use Rattle.sl_run.specs.Worlds.{Course, Machine, Program, Stamp, World, is_open, machine_at}
use Rattle.sl_run.specs.declared.header.Header.{Header}
use Rattle.sl_sector.specs.declared.sector.Rec.TheVariants.{ValueIs}
use Rattle.sl_sector.specs.declared.sector.Rec.{Rec}
use Rattle.sl_sector.specs.declared.sector.ValueRec.{ValueRec}
use Rattle.sl_trace.specs.Sessions.{calls_of, is_call_of, session_numbered}
use Rattle.sl_trace.specs.declared.session.Session.{Session}
use Rattle.sl_trace.specs.Traces.{Answered, Setting, Submitted, Trace, is_write, new_call, record_of, submitted}
use Rattle.sl_trace.specs.declared.effects.Call.{Call}
use Rattle.sl_trace.specs.declared.effects.Op.TheVariants.{ReadSectors}
use Rattle.sl_trace.specs.declared.effects.Op.{Op}
use Rattle.sl_trace.specs.declared.effects.Purpose.TheVariants.{ValueRead}
use Rattle.sl_trace.specs.declared.effects.Spot.{Spot}
use Rattle.sl_safety.proofs.Value.CallsCome.{WasThere}
use Rattle.sl_safety.proofs.Value.ReaderFronts.{ReaderThere}
use Rattle.sl_safety.proofs.Value.WritersHold.{area_of, value_held}
use Rattle.sl_safety.proofs.Value.OneValueWrite.{meant_by, spot_there}
use Rattle.sl_safety.proofs.Value.OwnCalls.{OwnCall, own_call, unanswered}
use Rattle.sl_safety.proofs.Value.ReaderCalls.{Reader, is_own}
use Rattle.sl_safety.proofs.Value.WritersNotOver.{open_waits}
use Rattle.sl_safety.proofs.Value.CallsTakeTurns.{on_own}
use Rattle.sl_safety.specs.Value.ValueWrites.{HoldersKeepValues, WritesValue}
use Rattle.sl_words.proofs.CaseLaws.{is_false, none_some, one_value, true_is_false}
use Rattle.std.proofs.Common.{ap, arith, inl, inr, refl, subst, sym, ◌∙◌}
use Rattle.std.proofs.lemmas.Bool.Decides.{nat_tests}
use Rattle.std.proofs.lemmas.Bool.{and_from, eq-eqb}
use Rattle.std.specs.Prelude.{Contains, List, None, Option, Some, is_none, length, nat_le, suc, true, ℕ, ◌&&◌, ◌++◌, ◌<◌, ◌∷◌, ◌≡◌, ◌≤◌}

-- ---- a write in flight at a front

-- A write of a value that is in flight at a front.
pub record WriteThere (p : Program) (h : Header) (now : List Happening) (at : Spot) (y : Sent) (b : WasThere (world_at p h now) y.machine y.course) : Type 0 where
  pub session : SessionId
  pub found : Found
  pub machine : found.machine ≡ b.machine
  pub writes : WritesValue (world_at p h now) session found at b.course

pub write_there : (p : Program) (h : Header) (xs now : List Happening) → LawfulRun p h now → (at : Spot) (y : Sent) (u : ValueRec) → record_of y.course.call.op ≡ Some (ValueIs u)
    → y.course.call.path ≡ at.path → y.course.call.offset ≡ value_offset (world_at p h xs).layout at.base → (b : WasThere (world_at p h now) y.machine y.course)
    → is_open b.machine b.course ≡ true → WriteThere p h now at y b
write_there p h xs now run at y u says path offset b opens =
    let w : World = world_at p h now in
    let x : Sent = record { machine = y.machine; course = b.course } in
    let k : IsOwned w x = owned p h now run x (there_sent w y.machine b.machine b.course b.at b.has) in
    let machine : k.there.machine ≡ b.machine = one_value k.there.machine b.machine (machine_at w y.machine) k.there.at b.at in
    let layout : (world_at p h xs).layout ≡ w.layout = layout_is p h xs ∙ sym (layout_is p h now) in
    record {
      session = sender_of x;
      found = found_of k;
      machine = machine;
      writes = record {
        is = owner_found w x k;
        has = k.there.has;
        own = is_own b.course y.machine;
        value = u;
        writes = ap (λ (z : Call). record_of z.op) (sym b.call) ∙ says;
        place = is_place b.course.call.path b.course.call.offset at.path (value_offset w.layout at.base) (ap (λ (z : Call). z.path) (sym b.call) ∙ path)
            (ap (λ (z : Call). z.offset) (sym b.call) ∙ offset ∙ ap (λ (l : Layout). value_offset l at.base) layout);
        flies = subst (λ (z : Machine). is_open z b.course ≡ true) (sym machine) opens;
      };
    }

-- ---- a write of the reader's session

no_answer : (o : Option Answered) → ((a : Answered) → o ≡ Some a → ⊥) → o ≡ None
no_answer None h = refl
no_answer (Some a) h = absurd (h a refl)

aged_open : (n : ℕ) (was is : Submitted) → Aged n was is → is.answer ≡ None → was.answer ≡ None
aged_open n was is g none = elim g.answer as (λ z. was.answer ≡ None) [ inl same ↦ sym same ∙ none | inr told ↦ told.0 ]

has_it : {A : Type 0} (xs : List A) (x : A) → Has xs x → Contains xs x
has_it xs x h = subst (λ ys. Contains ys x) (sym h.is) (contains_right h.newer (x ∷ h.older) x (contains_first x h.older))

le_test : (a b : ℕ) → a ≤ b → nat_le a b ≡ true
le_test a b h = grind (arith, nat_tests)

-- An unanswered write there is no older than the reader's call.
not_older : (p : Program) (h : Header) (now : List Happening) (i : SessionId) (g : Found) (c d : Course) (o : OwnCall p h now i g c) (q : OwnCall p h now i g d) → area_of o ≡ area_of q
    → (job : ℕ) → c.call.purpose ≡ ValueRead job → is_write q.call.call.op ≡ true → is_area_work q.call.call.purpose ≡ true → d.answered ≡ None → (newer between older : List Submitted)
    → submitted (trace_of g) ≡ newer ++ o.call ∷ (between ++ q.call ∷ older) → ⊥
not_older p h now i g c d o q area job purpose writes work waits newer between older is =
    let st : Setting = setting_in g in
    let s = each_was_submitted st (trace_of g) o.known.lawful newer (between ++ q.call ∷ older) o.call is in
    let u = s.submission in
    let front : Trace = cut_at u.place u.entry ∷ u.past in
    let a = was_among _ (submitted front) between q.call older u.before in
    let session : s.session ≡ g.session =
    one_value s.session g.session (session_numbered st (trace_of g) o.call.call.session) s.kept (ap (λ z. session_numbered st (trace_of g) z) o.mine ∙ o.known.its) in
    let law = (lawful_there st (trace_of g) o.known.lawful o.call (between ++ q.call ∷ older) u).values.0.reads u.place u.call s.session u.there s.known job
    (ap (λ (z : Call). z.purpose) (sym u.itself.call ∙ o.is.call) ∙ purpose) in
    let spot : spot_of_call st.layout (new_call 0 0 u.call) ≡ area_of q = ap (λ (z : Call). spot_there st.layout z.path z.offset) (sym u.itself.call) ∙ area in
    let at : Spot = spot_of_call st.layout (new_call 0 0 u.call) in
    let none : a.was.answer ≡ None = aged_open _ a.was q.call a.aged (no_answer q.call.answer (unanswered p h now i g d q waits)) in
    let mine : is_call_of s.session a.was ≡ true =
    eq-eqb a.was.call.session s.session.number
    (ap (λ (z : Call). z.session) (sym a.aged.call) ∙ q.mine ∙ ap (λ (z : Session). z.number) (sym session)) in
    let on : is_on st.layout at a.was.call ≡ true =
    subst (λ z. is_on st.layout z a.was.call ≡ true) (sym spot) (ap (λ z. is_on st.layout (area_of q) z) (sym a.aged.call) ∙ on_own p h now i g d q) in
    let inside : Contains (open_writes_on st front s.session at) a.was =
    kept (λ (m : Submitted). is_area_work m.call.purpose && (is_write m.call.op && is_on st.layout at m.call)) _ a.was
    (and_from (is_area_work a.was.call.purpose) (is_write a.was.call.op && is_on st.layout at a.was.call) (ap (λ (z : Call). is_area_work z.purpose) (sym a.aged.call) ∙ work)
    (and_from (is_write a.was.call.op) (is_on st.layout at a.was.call) (ap (λ (z : Call). is_write z.op) (sym a.aged.call) ∙ writes) on))
    (kept (λ (m : Submitted). is_none m.answer) (calls_of front s.session) a.was (ap (λ (z : Option Answered). is_none z) none)
    (kept (is_call_of s.session) (submitted front) a.was mine (has_it (submitted front) a.was a.has))) in
    contains_none a.was (subst (λ ms. Contains ms a.was) law.alone inside)

at_most : (w n a b : ℕ) → w < suc n → a ≡ w → b ≡ n → a ≤ b
at_most w n a b h e f = omega (arith, h, e, f)

-- A newer call was made by an entry that is no earlier.
no_earlier : (p : Program) (h : Header) (now : List Happening) (i : SessionId) (g : Found) (c d : Course) (o : OwnCall p h now i g c) (q : OwnCall p h now i g d)
    → (newer between older : List Submitted) → submitted (trace_of g) ≡ newer ++ q.call ∷ (between ++ o.call ∷ older) → o.call.at ≤ q.call.at
no_earlier p h now i g c d o q newer between older is =
    let st : Setting = setting_in g in
    let s = each_was_submitted st (trace_of g) o.known.lawful newer (between ++ o.call ∷ older) q.call is in
    let u = s.submission in
    let front : Trace = cut_at u.place u.entry ∷ u.past in
    let a = was_among _ (submitted front) between o.call older u.before in
    let below = made_below front a.was (has_it (submitted front) a.was a.has) in
    at_most a.was.at (length u.past) o.call.at q.call.at below a.aged.at u.itself.at

-- Since the reader's call its session made no write there.
since_calm : (p : Program) (h : Header) (xs now : List Happening) (at : Spot) (i : SessionId) (f : Found) (c : Course) (v : ValueRec) (stamp : Stamp) (R : Reader p h xs at i f c v stamp)
    → (t : ReaderThere p h xs now at i f c v stamp R) (d : Course) (q : OwnCall p h now i t.found d) → area_of q ≡ at → is_write q.call.call.op ≡ true → is_area_work q.call.call.purpose ≡ true
    → t.own.call.at ≤ q.call.at → ⊥
since_calm p h xs now at i f c v stamp R t d q area writes work late =
    let st : Setting = setting_in f in
    let n = calls_grow t.mid (trace_of t.found) q.call q.inside in
    let inside : Contains (submitted (R.entry ∷ R.past)) n.now = subst (λ es. Contains (submitted es) n.now) (sym t.ends) n.inside in
    let mine : is_call_of f.session n.now ≡ true =
    eq-eqb n.now.call.session f.session.number (ap (λ (z : Call). z.session) n.call ∙ q.mine ∙ ap (λ (s : Session). s.number) (sym t.session)) in
    let on : is_on st.layout at n.now.call ≡ true =
    ap (λ (g : Setting). is_on g.layout at n.now.call) t.setting ∙ ap (λ z. is_on (setting_in t.found).layout at z) n.call
    ∙ subst (λ z. is_on (setting_in t.found).layout z q.call.call ≡ true) area (on_own p h now i t.found d q) in
    let le : nat_le R.own.call.at n.now.at ≡ true = le_test R.own.call.at n.now.at (subst (λ k. R.own.call.at ≤ k) (sym n.at) (subst (λ k. k ≤ q.call.at) t.index late)) in
    let some : writes_since st R.own.call.at (R.entry ∷ R.past) f.session at ≡ true =
    any_of (λ (m : Submitted). is_area_work m.call.purpose && (nat_le R.own.call.at m.at && (is_write m.call.op && is_on st.layout at m.call)))
    (calls_of (R.entry ∷ R.past) f.session) n.now
    (and_from (is_area_work n.now.call.purpose) (nat_le R.own.call.at n.now.at && (is_write n.now.call.op && is_on st.layout at n.now.call))
    (ap (λ (z : Call). is_area_work z.purpose) n.call ∙ work)
    (and_from (nat_le R.own.call.at n.now.at) (is_write n.now.call.op && is_on st.layout at n.now.call) le
    (and_from (is_write n.now.call.op) (is_on st.layout at n.now.call) (ap (λ (z : Call). is_write z.op) n.call ∙ writes) on)))
    (kept (is_call_of f.session) (submitted (R.entry ∷ R.past)) n.now mine inside) in
    true_is_false (sym some ∙ R.calm)

not_read : (c q : Submitted) (u : ValueRec) → c.call.op ≡ ReadSectors 1 → record_of q.call.op ≡ Some (ValueIs u) → c ≡ q → ⊥
not_read c q u reads writes same =
    let r : Rec = ValueIs u in
    none_some r (ap (λ (o : Op). record_of o) (sym reads) ∙ ap (λ (m : Submitted). record_of m.call.op) same ∙ writes)

own_bars : (p : Program) (h : Header) (xs now : List Happening) (at : Spot) (i : SessionId) (f : Found) (c : Course) (v : ValueRec) (stamp : Stamp) (R : Reader p h xs at i f c v stamp)
    → (t : ReaderThere p h xs now at i f c v stamp R) (d : Course) (q : OwnCall p h now i t.found d) (u : ValueRec) → record_of q.call.call.op ≡ Some (ValueIs u) → is_area_work q.call.call.purpose ≡ true
    → area_of q ≡ at → area_of t.own ≡ at → d.answered ≡ None → Order (submitted (trace_of t.found)) t.own.call q.call → ⊥
own_bars p h xs now at i f c v stamp R t d q u says work area reads waits (Same is) =
    not_read t.own.call q.call u (ap (λ (z : Call). z.op) (t.own.is.call ∙ sym t.call) ∙ R.read) says is
own_bars p h xs now at i f c v stamp R t d q u says work area reads waits (Newer newer between older is) =
    not_older p h now i t.found t.course d t.own q (reads ∙ sym area) R.job (ap (λ (z : Call). z.purpose) (sym t.call) ∙ R.purpose) (write_is q.call.call.op (ValueIs u) says) work waits
    newer between older is
own_bars p h xs now at i f c v stamp R t d q u says work area reads waits (Older newer between older is) =
    since_calm p h xs now at i f c v stamp R t d q area (write_is q.call.call.op (ValueIs u) says) work (no_earlier p h now i t.found t.course d t.own q newer between older is)

-- ---- none at all

pub none_between : HoldersKeepValues → (p : Program) (h : Header) (xs now : List Happening) (at : Spot) (i : SessionId) (f : Found) (c : Course) (v : ValueRec) (stamp : Stamp)
    → (R : Reader p h xs at i f c v stamp) → (t : ReaderThere p h xs now at i f c v stamp R) → c.call.path ≡ at.path → c.call.offset ≡ value_offset (world_at p h xs).layout at.base
    → (k : SessionId) (g : Found) (d : Course) → WritesValue (world_at p h now) k g at d → ⊥
none_between keep p h xs now at i f c v stamp R t path offset k g d writes =
    let w : World = world_at p h now in
    let same : k ≡ i = keep p h now t.run k i g t.found at d t.held writes t.its (is_false (is_over i t.found) t.alive) t.has in
    let found : g ≡ t.found = one_value g t.found (session_of_world w i) (ap (session_of_world w) (sym same) ∙ writes.is) t.its in
    let q0 : OwnCall p h now k g d = own_call p h now t.run k g writes.is d writes.has writes.own in
    let q : OwnCall p h now i t.found d = subst (λ z. OwnCall p h now i z d) found (subst (λ j. OwnCall p h now j g d) same q0) in
    let layout : (world_at p h xs).layout ≡ w.layout = layout_is p h xs ∙ sym (layout_is p h now) in
    let place = place_is d.call.path d.call.offset at.path (value_offset w.layout at.base) writes.place in
    let says : record_of q.call.call.op ≡ Some (ValueIs writes.value) = ap (λ (z : Call). record_of z.op) q.is.call ∙ writes.writes in
    let held = value_held p h now i t.found d q writes.value writes.writes in
    let work : is_area_work q.call.call.purpose ≡ true = ap (λ (z : Call). is_area_work z.purpose) q.is.call ∙ held.work in
    let area : area_of q ≡ at = meant_by p h now i t.found at d q held.place place.0 place.1 in
    let purpose : t.course.call.purpose ≡ ValueRead R.job = ap (λ (z : Call). z.purpose) (sym t.call) ∙ R.purpose in
    let law = t.own.lawful.values.0.reads t.own.made.index t.own.call.call t.found.session t.own.made.call t.own.its R.job (ap (λ (z : Call). z.purpose) t.own.is.call ∙ purpose) in
    let reads : area_of t.own ≡ at =
    meant_by p h now i t.found at t.course t.own (sym law.whole.0 ∙ ap (λ (z : Call). z.offset) t.own.is.call) (ap (λ (z : Call). z.path) (sym t.call) ∙ path)
    (ap (λ (z : Call). z.offset) (sym t.call) ∙ offset ∙ ap (λ (l : Layout). value_offset l at.base) layout) in
    let opens = open_waits g d writes.flies in
    own_bars p h xs now at i f c v stamp R t d q writes.value says work area reads opens (order (submitted (trace_of t.found)) t.own.call q.call t.own.inside q.inside)
