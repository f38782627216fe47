-- The session of a holding is joined, and has written no free. Where it is granted the session is active, or the grant is the orphan of what
-- the session held before; later an end, a removal and a free each ask that the session holds nothing.
use Rattle.sl_safety.proofs.Holding.StayingIsFreeless.{HasNoFree, free_law, nothing_freed, staying_is_freeless}
use Rattle.sl_safety.proofs.Holding.HoldingsAreGranted.{held_or_given}
use Rattle.sl_safety.specs.Holding.HoldingOrigins.{HoldersStand}
use Rattle.sl_run.proofs.LawFacts.{orderly-front}
use Rattle.sl_run.specs.Lawful.{Orderly}
use Rattle.sl_run.specs.LawfulDelta.{LawfulFree}
use Rattle.sl_run.specs.LawfulGrant.{LawfulGrantTo, LawfulOrphan}
use Rattle.sl_run.specs.LawfulParting.{MayPart}
use Rattle.sl_run.specs.LawForms.{cut_at}
use Rattle.sl_run_law.proofs.Leases.NumberLaws.{number_is_place}
use Rattle.sl_area.specs.AreaLayout.{is_base}
use Rattle.sl_words.proofs.Lists.{contains_none, got_inside, kept}
use Rattle.sl_words.proofs.Options.{none_is, some_of}
use Rattle.sl_run_law.proofs.Sessions.CallsAreMade.{IsNewCall, old_or_new, was_marked}
use Rattle.sl_run_law.proofs.Sessions.CallOwners.{session_more}
use Rattle.sl_run_law.specs.Sessions.SessionLaws.{IsSession}
use Rattle.sl_trace.specs.Sessions.{calls_of, free_write, holdings_of, is_free_purpose, is_joined, leaving_job, recovery_of, session_numbered, sessions}
use Rattle.sl_trace.specs.declared.session.Session.{Session}
use Rattle.sl_trace.specs.Traces.{Setting, Submitted, Trace, holdings, is_orphan, mark, new_call, orphan_of, submitted}
use Rattle.sl_trace.specs.declared.effects.Entry.{Entry}
use Rattle.sl_trace.specs.declared.effects.Grant.{Grant}
use Rattle.sl_run_law.proofs.Watchdog.WritersMayAct.{itself}
use Rattle.sl_words.proofs.CaseLaws.{no_value}
use Rattle.sl_words.proofs.WordLaws.{and_true}
use Rattle.std.proofs.Common.{ap, inl, inr, refl, subst, sym, ◌∙◌}
use Rattle.std.proofs.lemmas.Bool.{eq-eqb}
use Rattle.std.specs.Prelude.{Bool, Contains, IsTrue, List, Some, false, is_none, length, true, [], ◌&&◌, ◌==◌, ◌∷◌, ◌≡◌, ◌⊎◌}

-- The session under which a process holds, and that the area of the holding is one.
pub record StandsBehind (st : Setting) (es : Trace) (g : Grant) : Type 0 where
  pub session : Session
  pub known : session_numbered st es g.session ≡ Some session
  pub joined : is_joined es session ≡ true
  pub freeless : HasNoFree es session
  pub placed : IsTrue (is_base st.layout g.offset)

-- The holdings of a session are those with its number.
pub held_of : (es : Trace) (g : Grant) (s : Session) → s.number ≡ g.session → Contains (holdings es) g → Contains (holdings_of es s) g
held_of es g s number there = kept (λ (h : Grant). h.session == s.number) (holdings es) g (eq-eqb g.session s.number (sym number)) there

-- ---- where it is granted

stands_granted : (st : Setting) (e : Entry) (past : Trace) (g : Grant) → Orderly st (e ∷ past) → Contains e.effects.grants g → is_orphan g ≡ false → StandsBehind st (e ∷ past) g
stands_granted st e past g law given other =
    let owner : (s : Session) × (session_numbered st (e ∷ past) g.session ≡ Some s) = some_of (session_numbered st (e ∷ past) g.session) (law.granting.0.owned g given) in
    let s : Session = owner.0 in
    let l : LawfulGrantTo st (e ∷ past) s g = law.granting.0.each g s given owner.1 in
    let active = and_true (is_joined (e ∷ past) s && is_none (recovery_of st (e ∷ past) s)) (is_none (leaving_job st (e ∷ past) s)) (l.active other) in
    let well = and_true (is_joined (e ∷ past) s) (is_none (recovery_of st (e ∷ past) s)) active.0 in
    record {
      session = s;
      known = owner.1;
      joined = well.0;
      freeless = staying_is_freeless st (e ∷ past) s law (itself st (e ∷ past) g.session s owner.1) (none_is (leaving_job st (e ∷ past) s) active.1);
      placed = l.placed;
    }

-- ---- while it stands

still_freeless : (st : Setting) (e : Entry) (past : Trace) (g : Grant) (s : Session) → Orderly st (e ∷ past) → IsSession st (e ∷ past) s → Contains (holdings_of (e ∷ past) s) g
    → HasNoFree past s → HasNoFree (e ∷ past) s
still_freeless st e past g s law its held before m there mine frees = by (old_or_new (length past) e.reading e.effects.calls (mark past e e.input (submitted past)) m there) where
  by : Contains (mark past e e.input (submitted past)) m ⊎ IsNewCall (length past) e.reading e.effects.calls m → ⊥
  by (inl old) =
      let w = was_marked past e e.input (submitted past) m old in
      before w.before w.inside (ap (λ c. c.session) (sym w.same.call) ∙ mine) (ap (λ c. is_free_purpose c.purpose) (sym w.same.call) ∙ frees)
  by (inr new) =
      let t : Trace = cut_at new.index e ∷ past in
      let c : Submitted = new_call (length past) e.reading m.call in
      let f : LawfulFree st t s c =
      free_law st t s c m.call.purpose (law.delta.0.calls new.index m.call s new.call (ap (λ n. session_numbered st (e ∷ past) n) mine ∙ its)) frees in
      contains_none g (subst (λ (xs : List Grant). Contains xs g) f.no_holding held)

still_joined : (st : Setting) (e : Entry) (past : Trace) (g : Grant) (s : Session) → Orderly st (e ∷ past) → IsSession st past s → Contains (holdings_of (e ∷ past) s) g
    → HasNoFree (e ∷ past) s → is_joined past s ≡ true → is_joined (e ∷ past) s ≡ true
still_joined st e past g s law its held free joined = by (is_joined (e ∷ past) s) refl where
  parts : MayPart st past e s → ⊥
  parts (inl p) = contains_none g (subst (λ (xs : List Grant). Contains xs g) p.1 held)
  parts (inr q) = no_value q.0 (free_write (calls_of (e ∷ past) s)) q.2 (nothing_freed (e ∷ past) s free)

  by : (b : Bool) → is_joined (e ∷ past) s ≡ b → b ≡ true
  by true is = refl
  by false is = absurd (parts (law.parting.0.parts_well s (got_inside (sessions st past) s.number s its) joined is))

stands_longer : (st : Setting) (e : Entry) (past : Trace) (g : Grant) → Orderly st (e ∷ past) → Contains (holdings (e ∷ past)) g → StandsBehind st past g → StandsBehind st (e ∷ past) g
stands_longer st e past g law there r =
    let s : Session = r.session in
    let known : session_numbered st (e ∷ past) g.session ≡ Some s = session_more st e past g.session s r.known in
    let held : Contains (holdings_of (e ∷ past) s) g = held_of (e ∷ past) g s (number_is_place st past g.session s r.known) there in
    let free : HasNoFree (e ∷ past) s = still_freeless st e past g s law (itself st (e ∷ past) g.session s known) held r.freeless in
    record {
      session = s;
      known = known;
      joined = still_joined st e past g s law (itself st past g.session s r.known) held free r.joined;
      freeless = free;
      placed = r.placed;
    }

-- An orphan's session is that of the holding that it was.
orphan_stands : (st : Setting) (past : Trace) (left g : Grant) → g ≡ orphan_of left → StandsBehind st past left → StandsBehind st past g
orphan_stands st past left g is r =
    record {
      session = r.session;
      known = ap (λ (h : Grant). session_numbered st past h.session) is ∙ r.known;
      joined = r.joined;
      freeless = r.freeless;
      placed = subst (λ (h : Grant). IsTrue (is_base st.layout h.offset)) (sym is) r.placed;
    }

given_stands : (st : Setting) (e : Entry) (past : Trace) (g : Grant) → Orderly st (e ∷ past) → Contains (holdings (e ∷ past)) g → Contains e.effects.grants g
    → ((h : Grant) → Contains (holdings past) h → StandsBehind st past h) → StandsBehind st (e ∷ past) g
given_stands st e past g law there given before = by (is_orphan g) refl where
  by : (b : Bool) → is_orphan g ≡ b → StandsBehind st (e ∷ past) g
  by false is = stands_granted st e past g law given is
  by true is =
      let o : LawfulOrphan past e g = law.granting.0.orphans g given is in
      stands_longer st e past g law there (orphan_stands st past o.left g o.becomes (before o.left o.held))

pub stands_behind : (st : Setting) (es : Trace) → Orderly st es → (g : Grant) → Contains (holdings es) g → StandsBehind st es g
stands_behind st [] law g there = absurd (contains_none g there)
stands_behind st (e ∷ past) law g there =
    by (λ h old. stands_behind st past (orderly-front st (e ∷ []) past law) h old) (held_or_given e past g there)
  where
    by : ((h : Grant) → Contains (holdings past) h → StandsBehind st past h) → Contains (holdings past) g ⊎ Contains e.effects.grants g → StandsBehind st (e ∷ past) g
    by rest (inl old) = stands_longer st e past g law there (rest g old)
    by rest (inr new) = given_stands st e past g law there new rest

pub holders_stand : HoldersStand
holders_stand st es law g there =
    let r = stands_behind st es law g there in
    record { session = r.session; known = r.known; joined = r.joined; unfreed = nothing_freed es r.session r.freeless }
