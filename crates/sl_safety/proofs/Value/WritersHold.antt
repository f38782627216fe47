-- What a write of a value was made under: an exclusive holding of its session there, and where that was granted.
use Rattle.sl_area.specs.AreaLayout.{value_offset}
use Rattle.sl_safety.proofs.Holding.HoldingsAreGranted.{holdings_are_granted}
use Rattle.sl_safety.proofs.Holding.Places.{HeldOn, held_on}
use Rattle.sl_run.specs.LawfulArea.{is_area_work}
use Rattle.sl_run.specs.LawfulLeader.{open_writes_on}
use Rattle.sl_run.specs.LawForms.{cut_at}
use Rattle.sl_trace.specs.Leases.{holdings_on, spot_of_call, value_of_record}
use Rattle.sl_words.proofs.Lists.{find_inside}
use Rattle.sl_run.specs.Runs.{Happening}
use Rattle.sl_run.specs.Safety.{Found, SessionId, setting_in, trace_of}
use Rattle.sl_run.specs.Worlds.{Course, Program}
use Rattle.sl_run.specs.declared.header.Header.{Header}
use Rattle.sl_sector.specs.declared.sector.Rec.TheVariants.{ValueIs}
use Rattle.sl_sector.specs.declared.sector.ValueRec.{ValueRec}
use Rattle.sl_safety.proofs.Sessions.SessionsFollow.{append_apart}
use Rattle.sl_run_law.specs.Sessions.SessionLaws.{IsMade, front_of}
use Rattle.sl_trace.specs.Traces.{Submitted, Trace, holdings, is_shared, record_of}
use Rattle.sl_trace.specs.declared.effects.Call.{Call}
use Rattle.sl_trace.specs.declared.effects.Entry.{Entry}
use Rattle.sl_trace.specs.declared.effects.Grant.{Grant}
use Rattle.sl_trace.specs.declared.effects.Spot.{Spot}
use Rattle.sl_safety.proofs.Value.OwnCalls.{OwnCall}
use Rattle.sl_words.proofs.CaseLaws.{false_is_true, some_value}
use Rattle.std.proofs.Common.{ap, inl, inr, refl, subst, sym, ◌∙◌}
use Rattle.std.specs.Prelude.{Bool, Contains, List, Some, [], false, length, not, option_and_then, true, ◌++◌, ◌∷◌, ◌≡◌, ◌⊎◌}

-- The area of a session's call.
abbrev pub area_of : {p : Program} {h : Header} {xs : List Happening} {i : SessionId} {f : Found} {c : Course} → OwnCall p h xs i f c → Spot
area_of {p} {h} {xs} {i} {f} {c} o = spot_of_call (setting_in f).layout o.call

pub record ValueHeld (p : Program) (h : Header) (xs : List Happening) (i : SessionId) (f : Found) (c : Course) (o : OwnCall p h xs i f c) : Type 0 where
  pub grant : Grant
  pub held : Contains (holdings_on (front_of o.made) f.session (area_of o)) grant
  pub exclusive : is_shared grant.mode ≡ false
  pub alone : open_writes_on (setting_in f) (front_of o.made) f.session (area_of o) ≡ []
  pub work : is_area_work c.call.purpose ≡ true
  pub place : value_offset (setting_in f).layout (area_of o).base ≡ c.call.offset

not_true : (b : Bool) → not b ≡ true → b ≡ false
not_true true h = absurd (false_is_true h)
not_true false h = refl

pub value_held : (p : Program) (h : Header) (xs : List Happening) (i : SessionId) (f : Found) (c : Course) (o : OwnCall p h xs i f c) (v : ValueRec)
    → record_of c.call.op ≡ Some (ValueIs v) → ValueHeld p h xs i f c o
value_held p h xs i f c o v writes =
    let d = o.made in
    let q : Submitted = o.call in
    let says : record_of q.call.op ≡ Some (ValueIs v) = ap (λ (x : Call). record_of x.op) o.is.call ∙ writes in
    let law = o.lawful.values.0.writes d.index q.call f.session d.call o.its v (ap (λ r. option_and_then value_of_record r) says) in
    let area = o.lawful.area.0.writes d.index q.call f.session d.call o.its (ValueIs v) says refl in
    let found = find_inside (λ (g : Grant). not (is_shared g.mode)) (holdings_on (front_of d) f.session (area_of o)) law.holding law.held in
    record {
      grant = law.holding;
      held = found.0;
      exclusive = not_true (is_shared law.holding.mode) found.1;
      alone = law.alone;
      work = ap (λ (x : Call). is_area_work x.purpose) (sym o.is.call) ∙ area.0;
      place = some_value (value_offset (setting_in f).layout (area_of o).base) q.call.offset area.1.placed ∙ ap (λ (x : Call). x.offset) o.is.call;
    }

-- It is a holding of its session there.
pub holding_of : (p : Program) (h : Header) (xs : List Happening) (i : SessionId) (f : Found) (c : Course) (o : OwnCall p h xs i f c) → (v : ValueHeld p h xs i f c o)
    → HeldOn (front_of o.made) f.session (area_of o) v.grant
holding_of p h xs i f c o v = held_on (front_of o.made) f.session (area_of o) v.grant v.held

-- ---- where it was granted

-- By an entry of the trace: by that of the call, or by one of before, and then it stood before the call's.
pub record WasGranted (es past : Trace) (g : Grant) : Type 0 where
  pub later : Trace
  pub entry : Entry
  pub older : Trace
  pub whole : es ≡ later ++ entry ∷ older
  pub given : Contains entry.effects.grants g
  pub early : (length older ≡ length past) ⊎ Contains (holdings past) g

head_is : (e d : Entry) (es ds : Trace) → e ∷ es ≡ d ∷ ds → e ≡ d
head_is e d es ds h = cc

tail_is : (e d : Entry) (es ds : Trace) → e ∷ es ≡ d ∷ ds → es ≡ ds
tail_is e d es ds h = cc

granted_by : (es : Trace) (m : Submitted) (d : IsMade es m) (g : Grant) (later : Trace) (entry : Entry) (older : Trace) → front_of d ≡ later ++ entry ∷ older
    → Contains entry.effects.grants g → ((newer mid : Trace) → later ≡ newer ++ mid → Contains (holdings (mid ++ entry ∷ older)) g) → WasGranted es d.past g
granted_by es m d g [] entry older whole given stood =
    record {
      later = d.later;
      entry = d.entry;
      older = d.past;
      whole = d.whole;
      given = subst (λ (e : Entry). Contains e.effects.grants g) (sym (head_is (cut_at d.index d.entry) entry d.past older whole)) given;
      early = inl refl;
    }
granted_by es m d g (y ∷ ys) entry older whole given stood =
    let rest : d.past ≡ ys ++ entry ∷ older = tail_is (cut_at d.index d.entry) y d.past (ys ++ entry ∷ older) whole in
    record {
      later = d.later ++ d.entry ∷ ys;
      entry = entry;
      older = older;
      whole = d.whole ∙ ap (λ t. d.later ++ d.entry ∷ t) rest ∙ sym (append_apart d.later (d.entry ∷ ys) (entry ∷ older));
      given = given;
      early = inr (subst (λ t. Contains (holdings t) g) (sym rest) (stood (y ∷ []) ys refl));
    }

pub was_granted : (p : Program) (h : Header) (xs : List Happening) (i : SessionId) (f : Found) (c : Course) (o : OwnCall p h xs i f c) → (v : ValueHeld p h xs i f c o)
    → WasGranted (trace_of f) o.made.past v.grant
was_granted p h xs i f c o v =
    let on = holding_of p h xs i f c o v in
    let g = holdings_are_granted (front_of o.made) v.grant on.there in
    granted_by (trace_of f) o.call o.made v.grant g.later g.entry g.past g.whole g.given g.stood
