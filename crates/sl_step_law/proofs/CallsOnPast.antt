-- A step so far, with its calls where they stand: what each single effect keeps, and what a session does on its own sectors.
use Rattle.sl_due_facts.proofs.Acts.AddedAtEnd.{contains_last}
use Rattle.sl_due_facts.specs.Acts.TraceSoFar.{entry_of}
use Rattle.sl_area.specs.AreaLayout.{is_base}
use Rattle.sl_due.specs.Steps.{Step, add_call_of, seen}
use Rattle.sl_due_facts.proofs.Jobs.EffectsAreAllowed.{Allows, DeltaAllowed}
use Rattle.sl_due_facts.proofs.Jobs.NearlyPlainActs.{AnyMove, AnyStart, Anything}
use Rattle.sl_due_law.specs.LawfulTraces.CarriedFacts.{Kept}
use Rattle.sl_trace.specs.Leases.{lease_step}
use Rattle.sl_words.proofs.Lists.{got_inside}
use Rattle.sl_trace.specs.DeltaDecisions.{own_offset}
use Rattle.sl_trace.specs.Sessions.{sessions}
use Rattle.sl_trace.specs.declared.delta.DeltaNext.{DeltaNext}
use Rattle.sl_trace.specs.declared.delta.DeltaNext.TheVariants.{Disconnect, EndLeaving, Join, MoveConnection, Nothing, ReadOwn, RefuseJoin, RegisterAndRead, WriteClaim, WriteFirst, WriteFree, WriteRenewal}
use Rattle.sl_trace.specs.declared.session.Session.{Session}
use Rattle.sl_step_law.proofs.CallsAsk.{made_by}
use Rattle.sl_step_law.proofs.OffsetsAreWhole.{base_at_sector, delta_whole}
use Rattle.sl_step_law.proofs.PlacesAreKnown.{IsAt, session_at}
use Rattle.sl_step_law.specs.CallsStand.{CallStands, CallsStand, EntryStands, WroteBlock, looks_before_owed}
use Rattle.sl_trace.specs.Traces.{EachEntry, Setting, Submitted, Trace, next_call, submitted}
use Rattle.sl_trace.specs.declared.effects.Call.{Call}
use Rattle.sl_trace.specs.declared.effects.LeaseStep.{LeaseStep}
use Rattle.sl_trace.specs.declared.effects.Op.{Op}
use Rattle.sl_trace.specs.declared.effects.Purpose.{Purpose}
use Rattle.sl_trace.specs.declared.effects.Purpose.TheVariants.{Lease}
use Rattle.sl_trace.specs.declared.effects.Work.{Work}
use Rattle.sl_run_law.proofs.Sessions.CallsAreMade.{calls_are_made}
use Rattle.sl_words.proofs.CaseLaws.{true_is_false}
use Rattle.std.proofs.Common.{inl, inr, refl, subst, sym, ◌∙◌}
use Rattle.std.specs.Prelude.{Contains, IsTrue, List, false, is_some, true, ℕ, ◌%◌, ◌∷◌, ◌-◌, ◌≡◌, ◌⊎◌}

-- ---- a call, by what it is for

abbrev pub made_as : ℕ → List ℕ → Purpose → ℕ → Op → Call
made_as n path p o op = record { number = 0; session = n; purpose = p; path = path; offset = o; op = op }

abbrev pub StandsAs : Setting → Trace → ℕ → List ℕ → Purpose → ℕ → Op → Type 0
StandsAs st past n path p o op = CallStands st past (made_as n path p o op)

pub renumbered : (st : Setting) (past : Trace) (c : Call) (n : ℕ) → CallStands st past c → CallStands st past (record c { number = n })
renumbered st past c n k =
    record {
      whole = k.whole;
      area = k.area;
      behind = λ is. (let w = k.behind is in record { write = w.write; there = w.there; mine = w.mine; works = w.works; area = w.area; block = w.block });
    }

pub plain : (st : Setting) (past : Trace) (n : ℕ) (path : List ℕ) (p : Purpose) (o : ℕ) (op : Op) → is_some (lease_step p) ≡ false → looks_before_owed p ≡ false → o % st.layout.sector ≡ 0 → StandsAs st past n path p o op
plain st past n path p o op none unlooked whole = record { whole = whole; area = λ is. absurd (true_is_false (sym is ∙ none)); behind = λ is. absurd (true_is_false (sym is ∙ unlooked)) }

pub of_lease : (st : Setting) (past : Trace) (n : ℕ) (path : List ℕ) (work : Work) (step : LeaseStep) (o : ℕ) (op : Op) → o % st.layout.sector ≡ 0 → IsTrue (is_base st.layout (o - o % st.layout.area))
    → (looks_before_owed (Lease work step) ≡ true → WroteBlock st past (made_as n path (Lease work step) o op)) → StandsAs st past n path (Lease work step) o op
of_lease st past n path work step o op whole base behind = record { whole = whole; area = λ is. base; behind = behind }

-- ---- a step so far

pub record OnPast (st : Setting) (past : Trace) (y : Step) : Type 0 where
  pub setting : y.setting ≡ st
  pub before : y.past ≡ past
  pub each : EntryStands st past (entry_of y)

pub one_more : (st : Setting) (past : Trace) (y : Step) (n : ℕ) (path : List ℕ) (p : Purpose) (o : ℕ) (op : Op) → StandsAs st past n path p o op → OnPast st past y → OnPast st past (add_call_of n path p o op y)
one_more st past y n path p o op stands h = record { setting = h.setting; before = h.before; each = each } where
  new : Call
  new = record { number = next_call y.setting (seen y); session = n; purpose = p; path = path; offset = o; op = op }

  by : (c : Call) → Contains y.effects.calls c ⊎ (new ≡ c) → CallStands st past c
  by c (inl old) = h.each c old
  by c (inr is) = subst (CallStands st past) is (renumbered st past (made_as n path p o op) new.number stands)

  each : (c : Call) → Contains (add_call_of n path p o op y).effects.calls c → CallStands st past c
  each c there = by c (contains_last y.effects.calls new c there)

abbrev pub Calls : Setting → Trace → Session → List ℕ → Purpose → ℕ → Op → Type 0
Calls st past s path p o op = StandsAs st past s.number path p o op

pub allows : (st : Setting) (past : Trace) → Allows (OnPast st past) (OnPast st past) Anything (Calls st past) AnyStart AnyMove
allows st past =
    record {
      ends = λ y e h. record { setting = h.setting; before = h.before; each = h.each };
      signals = λ y q signal h. record { setting = h.setting; before = h.before; each = h.each };
      moves = λ y m may h. record { setting = h.setting; before = h.before; each = h.each };
      grants = λ y g h. record { setting = h.setting; before = h.before; each = h.each };
      starts = λ y k may h. record { setting = h.setting; before = h.before; each = h.each };
      replies = λ y j r may h. record { setting = h.setting; before = h.before; each = h.each };
      calls = λ y s path p o op may h. one_more st past y s.number path p o op may h;
      rest = λ y h. h;
    }

pub finish : (st : Setting) (past : Trace) (y : Step) → EachEntry (EntryStands st) past → OnPast st past y → CallsStand y
finish st past y older h =
    subst (λ z. EachEntry (EntryStands z) (seen y)) (sym h.setting) (subst (λ t. EachEntry (EntryStands st) (entry_of y ∷ t)) (sym h.before) (h.each, older))

-- What stands of each entry stands of each call.
pub standing : (st : Setting) (t : Trace) (m : Submitted) → EachEntry (EntryStands st) t → Contains (submitted t) m → (past : Trace) × CallStands st past m.call
standing st t m h there =
    let made = calls_are_made t m there in
    (made.past, made_by (EntryStands st) made.later made.entry made.past (subst (EachEntry (EntryStands st)) made.whole h) m.call (got_inside made.entry.effects.calls made.index m.call made.call))

-- ---- a session's own sectors

module _ (x : Step) (k : Kept x) (s : Session) (there : Contains (sessions x.setting (seen x)) s) where
  pub at : IsAt x.setting.layout s
  at = session_at x.setting (seen x) s k.known.0.setting there

  pub own : (p : Purpose) (op : Op) → is_some (lease_step p) ≡ false → looks_before_owed p ≡ false → Calls x.setting x.past s s.path p (own_offset x.setting s) op
  own p op none unlooked = plain x.setting x.past s.number s.path p (own_offset x.setting s) op none unlooked (delta_whole x.setting k.known.0.setting s.offset at.2 s.id)

  pub all : (p : Purpose) (op : Op) → is_some (lease_step p) ≡ false → looks_before_owed p ≡ false → Calls x.setting x.past s s.path p s.offset op
  all p op none unlooked = plain x.setting x.past s.number s.path p s.offset op none unlooked (base_at_sector x.setting k.known.0.setting s.offset at.2)

  pub delta_stands : (n : DeltaNext) → DeltaAllowed Anything (Calls x.setting x.past) AnyMove x s n
  delta_stands Nothing = tt
  delta_stands (RefuseJoin r) = λ j its. (tt, λ z is. tt)
  delta_stands (ReadOwn step) = λ j its. own _ _ refl refl
  delta_stands (RegisterAndRead step) = λ j its. (tt, own _ _ refl refl)
  delta_stands (WriteClaim d) = λ j its. own _ _ refl refl
  delta_stands Disconnect = tt
  delta_stands (WriteFirst d) = λ j its. own _ _ refl refl
  delta_stands (Join generation renewed) = λ j its. (tt, tt, all _ _ refl refl)
  delta_stands (MoveConnection renewed) = (tt, all _ _ refl refl)
  delta_stands (WriteRenewal d) = own _ _ refl refl
  delta_stands (WriteFree j d) = own _ _ refl refl
  delta_stands (EndLeaving j r) = (tt, tt)
