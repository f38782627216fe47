-- Whoever holds a resource shared has submitted a block of its own there.
use Rattle.sl_due_leases.proofs.Holdings.LeaseConversions.{spot_is}
use Rattle.sl_due_leases.proofs.Ways.NewestCall.{submitted_here, submitted_passed}
use Rattle.sl_run.specs.Lawful.{Orderly}
use Rattle.sl_run.specs.LawfulGrant.{LawfulGrant}
use Rattle.sl_run.specs.LawfulModes.{LawfulExclusiveGrant, LawfulModes, LawfulSharedGrant}
use Rattle.sl_trace.specs.Leases.{block_submitted, block_written, is_lease_call, is_on, lease_calls}
use Rattle.sl_words.proofs.Lists.{contains_cases, contains_map, contains_none, kept, kept_inside}
use Rattle.sl_words.proofs.Options.{some_of}
use Rattle.sl_sector.specs.declared.sector.Block.{Block}
use Rattle.sl_trace.specs.Sessions.{calls_of, holdings_of, is_call_of, session_numbered}
use Rattle.sl_trace.specs.declared.session.Session.{Session}
use Rattle.sl_trace.specs.Traces.{EachEntry, Setting, Submitted, Trace, answered_in, holdings, is_ended_by, is_shared, mark, same_place, spot_of_grant, submitted}
use Rattle.sl_trace.specs.declared.effects.Call.{Call}
use Rattle.sl_trace.specs.declared.effects.Entry.{Entry}
use Rattle.sl_trace.specs.declared.effects.Grant.{Grant}
use Rattle.sl_trace.specs.declared.effects.Spot.{Spot}
use Rattle.sl_trace.specs.declared.input.Input.TheVariants.{Answer as Told, Exit, Line, Number, Spawned, Wake}
use Rattle.sl_trace.specs.declared.input.Input.{Input}
use Rattle.sl_run_law.proofs.Leases.NumberLaws.{number_is_place}
use Rattle.sl_run_law.proofs.Sessions.CallsAreMade.{old_stays, same_answered}
use Rattle.sl_run_law.proofs.Sessions.CallOwners.{session_more}
use Rattle.sl_words.proofs.CaseLaws.{none_some, one_value}
use Rattle.std.proofs.Common.{ap, inl, inr, refl, subst, sym, ◌∙◌}
use Rattle.std.proofs.lemmas.Bool.{eqb-true}
use Rattle.std.proofs.lemmas.List.Elements.{Contains-append_cases}
use Rattle.std.specs.Prelude.{Contains, List, MatchBool, None, Option, Some, [], filter, length, not, true, ◌&&◌, ◌==◌, ◌∷◌, ◌≡◌, ◌⊎◌}

some_block : (ms : List Submitted) (m : Submitted) (b : Block) → Contains ms m → block_written m ≡ Some b → (c : Block) × (block_submitted ms ≡ Some c)
some_block [] m b there wrote = absurd (contains_none m there)
some_block (d ∷ ms) m b there wrote = by (block_written d) refl (contains_cases d ms m there) (λ inside. some_block ms m b inside wrote) where
  by : (o : Option Block) → block_written d ≡ o → (d ≡ m) ⊎ Contains ms m → (Contains ms m → (c : Block) × (block_submitted ms ≡ Some c)) → (c : Block) × (block_submitted (d ∷ ms) ≡ Some c)
  by (Some c) is which rest = (c, submitted_here d ms c is)
  by None is (inl same) rest = absurd (none_some b (sym is ∙ (ap (λ z. block_written z) same ∙ wrote)))
  by None is (inr inside) rest = let c = rest inside in (c.0, submitted_passed d ms is ∙ c.1)

-- A call of the session's lease there that wrote a block.
record Wrote (st : Setting) (t : Trace) (s : Session) (at : Spot) : Type 0 where
  call : Submitted
  block : Block
  of_lease : Contains (lease_calls st t s at) call
  wrote : block_written call ≡ Some block

-- It stays one.
wrote_more : (st : Setting) (e : Entry) (es : Trace) (s : Session) (at : Spot) → Wrote st es s at → Wrote st (e ∷ es) s at
wrote_more st e es s at h = record { call = v.0; block = h.block; of_lease = of; wrote = ap (λ (c : Call). block_written (record { at = 0; reading = 0; call = c; answer = None })) v.2 ∙ h.wrote } where
  lease : Contains (calls_of es s) h.call × ((is_lease_call h.call && is_on st.layout at h.call.call) ≡ true)
  lease = kept_inside (λ (m : Submitted). is_lease_call m && is_on st.layout at m.call) (calls_of es s) h.call h.of_lease

  mine : Contains (submitted es) h.call × (is_call_of s h.call ≡ true)
  mine = kept_inside (is_call_of s) (submitted es) h.call lease.0

  marked : (i : Input) → (m : Submitted) × Contains (mark es e i (submitted es)) m × (m.call ≡ h.call.call)
  marked (Told n a) = (answered_in es e n a h.call, contains_map (answered_in es e n a) (submitted es) h.call mine.0, (same_answered es e n a h.call).call)
  marked (Line text) = (h.call, mine.0, refl)
  marked (Number text) = (h.call, mine.0, refl)
  marked (Exit p) = (h.call, mine.0, refl)
  marked (Spawned p ok) = (h.call, mine.0, refl)
  marked Wake = (h.call, mine.0, refl)

  v : (m : Submitted) × Contains (mark es e e.input (submitted es)) m × (m.call ≡ h.call.call)
  v = marked e.input

  as_call : Call → Submitted
  as_call c = record { at = 0; reading = 0; call = c; answer = None }

  of : Contains (lease_calls st (e ∷ es) s at) v.0
  of =
      kept (λ (m : Submitted). is_lease_call m && is_on st.layout at m.call) (calls_of (e ∷ es) s) v.0
      (ap (λ (c : Call). is_lease_call (record { at = 0; reading = 0; call = c; answer = None }) && is_on st.layout at c) v.2 ∙ lease.1)
      (kept (is_call_of s) (submitted (e ∷ es)) v.0 (ap (λ (c : Call). c.session == s.number) v.2 ∙ mine.1)
      (old_stays (length es) e.reading e.effects.calls (mark es e e.input (submitted es)) v.0 v.1))

-- What a shared holding has behind it, of whatever session it is.
record Behind (st : Setting) (t : Trace) (g : Grant) : Type 0 where
  session : Session
  its : session_numbered st t g.session ≡ Some session
  wrote : Wrote st t session (spot_of_grant g)

behind : (st : Setting) (t : Trace) → EachEntry (LawfulGrant st) t → EachEntry (LawfulModes st) t → (g : Grant) → Contains (holdings t) g → is_shared g.mode ≡ true → Behind st t g
behind st [] granting modes g there shared = absurd (contains_none g there)
behind st (e ∷ es) granting modes g there shared = by (λ h inside mode. behind st es granting.1 modes.1 h inside mode) (Contains-append_cases (filter (λ h. not (is_ended_by e.effects.ends h)) (holdings es)) e.effects.grants g there) where
  more : (h : Grant) → Behind st es h → Behind st (e ∷ es) h
  more h b = record { session = b.session; its = session_more st e es h.session b.session b.its; wrote = wrote_more st e es b.session (spot_of_grant h) b.wrote }

  new : ((h : Grant) → Contains (holdings es) h → is_shared h.mode ≡ true → Behind st es h) → (s : Session) → session_numbered st (e ∷ es) g.session ≡ Some s → LawfulSharedGrant st es (e ∷ es) s (spot_of_grant g) g.lver → Behind st (e ∷ es) g
  new old s its (inl beside) =
      let on = kept_inside (λ (k : Grant). same_place k.path k.offset (spot_of_grant g).path (spot_of_grant g).base) (holdings_of es s) beside.0 beside.1 in
      let mine = kept_inside (λ (k : Grant). k.session == s.number) (holdings es) beside.0 on.0 in
      let b = more beside.0 (old beside.0 mine.0 beside.2) in
      let number : beside.0.session ≡ g.session = eqb-true beside.0.session s.number mine.1 ∙ number_is_place st (e ∷ es) g.session s its in
      record {
        session = b.session;
        its = subst (λ n. session_numbered st (e ∷ es) n ≡ Some b.session) number b.its;
        wrote = subst (λ z. Wrote st (e ∷ es) b.session z) (spot_is beside.0 (spot_of_grant g) on.1) b.wrote;
      }
  new old s its (inr (inl ballot)) = record { session = s; its = its; wrote = record { call = ballot.mode; block = ballot.block; of_lease = ballot.of_lease.0; wrote = ballot.moded.2 } }
  new old s its (inr (inr conversion)) = record { session = s; its = its; wrote = record { call = conversion.mode; block = conversion.block; of_lease = conversion.of_lease; wrote = conversion.moded.0 } }

  by : ((h : Grant) → Contains (holdings es) h → is_shared h.mode ≡ true → Behind st es h) → Contains (filter (λ h. not (is_ended_by e.effects.ends h)) (holdings es)) g ⊎ Contains e.effects.grants g → Behind st (e ∷ es) g
  by old (inl was) = more g (old g (kept_inside (λ (h : Grant). not (is_ended_by e.effects.ends h)) (holdings es) g was).0 shared)
  by old (inr made) =
      let s = some_of (session_numbered st (e ∷ es) g.session) (granting.0.owned g made) in
      new old s.0 s.1 (subst (λ b. MatchBool b (LawfulSharedGrant st es (e ∷ es) s.0 (spot_of_grant g) g.lver) (LawfulExclusiveGrant st (e ∷ es) s.0 (spot_of_grant g) g.lver)) shared (modes.0.grants g s.0 made s.1))

pub shared_block : (st : Setting) (t : Trace) (s : Session) (g : Grant) → Orderly st t → Contains (holdings t) g → is_shared g.mode ≡ true → session_numbered st t g.session ≡ Some s
    → (b : Block) × (block_submitted (lease_calls st t s (spot_of_grant g)) ≡ Some b)
shared_block st t s g orderly there shared its =
    let b : Behind st t g = behind st t orderly.granting orderly.modes g there shared in
    let same : b.session ≡ s = one_value b.session s (session_numbered st t g.session) b.its its in
    let w : Wrote st t s (spot_of_grant g) = subst (λ z. Wrote st t z (spot_of_grant g)) same b.wrote in some_block (lease_calls st t s (spot_of_grant g)) w.call w.block w.of_lease w.wrote
