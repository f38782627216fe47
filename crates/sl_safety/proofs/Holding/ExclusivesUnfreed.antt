-- What is held exclusive is not freed. At the grant no free of its instance was submitted, in no entry up to that of the grant and not in
-- this either; while it stands the law of leaders lets none be.
use Rattle.sl_area.specs.AreaLayout.{is_base}
use Rattle.sl_safety.proofs.Holding.HoldingsAreGranted.{held_or_given}
use Rattle.sl_safety.proofs.Holding.Places.{HeldOn, held_on, on_held, spot_is}
use Rattle.sl_safety.proofs.Holding.HoldersStand.{stands_behind}
use Rattle.sl_safety.specs.Holding.HoldingOrigins.{ExclusivesAreUnfreed}
use Rattle.sl_run.proofs.LawFacts.{orderly-front}
use Rattle.sl_run.specs.Lawful.{Orderly}
use Rattle.sl_run.specs.LawfulGrant.{LawfulGrantTo}
use Rattle.sl_run.specs.LawfulLeader.{LawfulFreeLeader, LawfulLeaderWrite, LawfulTake}
use Rattle.sl_run.specs.LawForms.{cut_at}
use Rattle.sl_run_law.proofs.Leases.NumberLaws.{number_is_place}
use Rattle.sl_trace.specs.Leases.{freed, freed_by, holdings_on, is_free_write, is_lease_call, is_on, leader_written, lease_calls, spot_of_call}
use Rattle.sl_words.proofs.Lists.{any_of, contains_cases, contains_none, kept, kept_inside}
use Rattle.sl_sector.specs.declared.sector.Leader.{Leader}
use Rattle.sl_run_law.proofs.Sessions.CallsAreMade.{IsNewCall, old_or_new, was_marked}
use Rattle.sl_run_law.proofs.Sessions.CallOwners.{session_more}
use Rattle.sl_run_law.specs.Sessions.SessionLaws.{IsSession}
use Rattle.sl_trace.specs.Sessions.{calls_of, session_numbered}
use Rattle.sl_trace.specs.declared.session.Session.{Session}
use Rattle.sl_trace.specs.Traces.{Setting, Submitted, Trace, holdings, is_shared, mark, new_call, spot_of_grant, submitted}
use Rattle.sl_trace.specs.declared.effects.Entry.{Entry}
use Rattle.sl_trace.specs.declared.effects.Grant.{Grant}
use Rattle.sl_trace.specs.declared.effects.Mode.TheVariants.{Exclusive, Shared}
use Rattle.sl_trace.specs.declared.effects.Mode.{Mode}
use Rattle.sl_trace.specs.declared.effects.Spot.{Spot}
use Rattle.sl_run_law.proofs.Watchdog.FoundCalls.{call_inside, call_owner}
use Rattle.sl_run_law.proofs.Watchdog.WritersMayAct.{itself}
use Rattle.sl_words.proofs.CaseLaws.{is_false, one_value, true_is_false}
use Rattle.sl_words.proofs.WordLaws.{and_true, some_is_true}
use Rattle.std.proofs.Common.{ap, arith, inl, inr, refl, subst, sym, ◌∙◌}
use Rattle.std.proofs.Math.Nat.{le-max_left}
use Rattle.std.proofs.lemmas.Bool.{and_from, eq-eqb, eqb-true, not-true}
use Rattle.std.specs.Option.{option_map_or}
use Rattle.std.specs.Prelude.{Contains, IsTrue, List, MatchBool, Some, false, if◌then◌else◌, length, max, nat_lt, not, true, [], ℕ, ◌%◌, ◌&&◌, ◌<◌, ◌==◌, ◌^◌, ◌∷◌, ◌≡◌, ◌≤◌, ◌⊎◌}

-- ---- frees

-- The leader that a free of this instance writes.
record Frees (n : ℕ) (d : Submitted) : Type 0 where
  leader : Leader
  written : leader_written d ≡ Some leader
  instance : leader.lver ≡ n
  free : leader.held ≡ false

the_free : (n : ℕ) (d : Submitted) → is_free_write n d ≡ true → Frees n d
the_free n d h =
    let l = some_is_true (λ (x : Leader). x.lver == n && not x.held) (leader_written d) h in
    let both = and_true (l.0.lver == n) (not l.0.held) l.2 in
    record { leader = l.0; written = l.1; instance = eqb-true l.0.lver n both.0; free = not-true l.0.held both.1 }

frees_it : (n : ℕ) (d : Submitted) → Frees n d → freed_by d ≡ n
frees_it n d f =
    ap (λ o. option_map_or (λ (l : Leader). if l.held then 0 else l.lver) o 0) f.written ∙ ap (λ b. if b then 0 else f.leader.lver) f.free ∙ f.instance

within_freed : (ms : List Submitted) (d : Submitted) → Contains ms d → freed_by d ≤ freed ms
within_freed [] d there = absurd (contains_none d there)
within_freed (m ∷ ms) d there = by (λ more. within_freed ms d more) (contains_cases m ms d there) where
  by : (Contains ms d → freed_by d ≤ freed ms) → (m ≡ d) ⊎ Contains ms d → freed_by d ≤ max (freed_by m) (freed ms)
  by rest (inl here) = subst (λ (x : Submitted). freed_by x ≤ max (freed_by m) (freed ms)) here (le-max_left (freed_by m) (freed ms))
  by rest (inr more) = let h : freed_by d ≤ freed ms = rest more in omega (arith, h)

-- ---- the area of a holding

-- No call of the session's lease on the area of the holding frees its instance.
abbrev FreesNone : Setting → Trace → Session → Grant → Type 0
FreesNone st es s g =
    (d : Submitted) → Contains (submitted es) d → d.call.session ≡ s.number → (is_lease_call d && is_on st.layout (spot_of_grant g) d.call) ≡ true
    → is_free_write g.lver d ≡ true → ⊥

pub exclusive_is : (m : Mode) → is_shared m ≡ false → m ≡ Exclusive
exclusive_is Exclusive h = refl
exclusive_is Shared h = absurd (true_is_false h)

unfreed_granted : (st : Setting) (e : Entry) (past : Trace) (g : Grant) (s : Session) → Orderly st (e ∷ past) → Contains e.effects.grants g → is_shared g.mode ≡ false
    → session_numbered st (e ∷ past) g.session ≡ Some s → FreesNone st (e ∷ past) s g
unfreed_granted st e past g s law given exclusive known d there mine on frees =
    let l : LawfulGrantTo st (e ∷ past) s g = law.granting.0.each g s given known in
    let at : Spot = spot_of_grant g in
    let inside : Contains (lease_calls st (e ∷ past) s at) d =
    kept (λ (m : Submitted). is_lease_call m && is_on st.layout at m.call) (calls_of (e ∷ past) s) d on (call_inside (e ∷ past) s d there mine) in
    let below : freed (lease_calls st (e ∷ past) s at) < g.lver = l.not_freed (exclusive_is g.mode exclusive) in
    let within : freed_by d ≤ freed (lease_calls st (e ∷ past) s at) = within_freed (lease_calls st (e ∷ past) s at) d inside in
    let is : freed_by d ≡ g.lver = frees_it g.lver d (the_free g.lver d frees) in
    omega (arith, below, within, is)

-- A free of what stands is refused.
refused : (st : Setting) (t : Trace) (s : Session) (c : Submitted) (g : Grant) → (f : Frees g.lver c) → LawfulLeaderWrite st t s (spot_of_call st.layout c) c f.leader
    → spot_of_call st.layout c ≡ spot_of_grant g → is_shared g.mode ≡ false → Contains (holdings_on t s (spot_of_grant g)) g → ⊥
refused st t s c g f w spot exclusive held =
    let at : Spot = spot_of_call st.layout c in
    let law : LawfulFreeLeader st t s at c f.leader = subst (λ b. MatchBool b (LawfulTake st t s at c f.leader) (LawfulFreeLeader st t s at c f.leader)) f.free w.ballot in
    let passes : (not (is_shared g.mode) && g.lver == f.leader.lver) ≡ true =
    and_from (not (is_shared g.mode)) (g.lver == f.leader.lver) (ap (λ b. not b) exclusive) (eq-eqb g.lver f.leader.lver (sym f.instance)) in
    true_is_false
    (sym (any_of (λ (h : Grant). not (is_shared h.mode) && h.lver == f.leader.lver) (holdings_on t s at) g passes (subst (λ z. Contains (holdings_on t s z) g) (sym spot) held))
    ∙ law.not_held)

base_is : (g n : ℕ) → (n % g == 0 && nat_lt n (10 ^ 12)) ≡ true → n % g ≡ 0
base_is g n h = eqb-true (n % g) 0 (and_true (n % g == 0) (nat_lt n (10 ^ 12)) h).0

unfreed_longer : (st : Setting) (e : Entry) (past : Trace) (g : Grant) (s : Session) → Orderly st (e ∷ past) → IsSession st (e ∷ past) s → g.session ≡ s.number
    → Contains (holdings (e ∷ past)) g → is_shared g.mode ≡ false → IsTrue (is_base st.layout g.offset) → FreesNone st past s g → FreesNone st (e ∷ past) s g
unfreed_longer st e past g s law its number held exclusive placed before d there mine on frees =
    by (old_or_new (length past) e.reading e.effects.calls (mark past e e.input (submitted past)) d there)
  where
    by : Contains (mark past e e.input (submitted past)) d ⊎ IsNewCall (length past) e.reading e.effects.calls d → ⊥
    by (inl old) =
        let w = was_marked past e e.input (submitted past) d old in
        before w.before w.inside (ap (λ c. c.session) (sym w.same.call) ∙ mine)
        (ap (λ c. is_lease_call (new_call 0 0 c) && is_on st.layout (spot_of_grant g) c) (sym w.same.call) ∙ on)
        (ap (λ c. is_free_write g.lver (new_call 0 0 c)) (sym w.same.call) ∙ frees)
    by (inr new) =
        let t : Trace = cut_at new.index e ∷ past in
        let c : Submitted = new_call (length past) e.reading d.call in
        let f : Frees g.lver c = the_free g.lver c frees in
        let w : LawfulLeaderWrite st t s (spot_of_call st.layout c) c f.leader =
        law.leader.0.writes new.index d.call s new.call (ap (λ n. session_numbered st (e ∷ past) n) mine ∙ its) f.leader f.written in
        let here : is_on st.layout (spot_of_grant g) c.call ≡ true = (and_true (is_lease_call d) (is_on st.layout (spot_of_grant g) d.call) on).1 in
        refused st t s c g f w (spot_is st.layout (spot_of_grant g) c (base_is st.layout.area g.offset placed) here) exclusive
        (on_held (e ∷ past) s (spot_of_grant g) g (record { there = held; mine = number; spot = refl }))

unfreed : (st : Setting) (es : Trace) → Orderly st es → (g : Grant) → Contains (holdings es) g → is_shared g.mode ≡ false → (s : Session)
    → session_numbered st es g.session ≡ Some s → FreesNone st es s g
unfreed st [] law g held exclusive s known = absurd (contains_none g held)
unfreed st (e ∷ past) law g held exclusive s known =
    by (λ old x was. unfreed st past (orderly-front st (e ∷ []) past law) g old exclusive x was) (held_or_given e past g held)
  where
    by : (Contains (holdings past) g → (x : Session) → session_numbered st past g.session ≡ Some x → FreesNone st past x g)
        → Contains (holdings past) g ⊎ Contains e.effects.grants g → FreesNone st (e ∷ past) s g
    by rest (inr new) = unfreed_granted st e past g s law new exclusive known
    by rest (inl old) =
        let r = stands_behind st past (orderly-front st (e ∷ []) past law) g old in
        let same : r.session ≡ s = one_value r.session s (session_numbered st (e ∷ past) g.session) (session_more st e past g.session r.session r.known) known in
        let its : IsSession st (e ∷ past) s = itself st (e ∷ past) g.session s known in
        let number : g.session ≡ s.number = sym (number_is_place st (e ∷ past) g.session s known) in
        unfreed_longer st e past g s law its number held exclusive r.placed (subst (λ x. FreesNone st past x g) same (rest old r.session r.known))

pub exclusives_are_unfreed : ExclusivesAreUnfreed
exclusives_are_unfreed st es law s its at g held exclusive d there =
    let h : HeldOn es s at g = held_on es s at g held in
    let call = kept_inside (λ (m : Submitted). is_lease_call m && is_on st.layout at m.call) (calls_of es s) d there in
    let owner = call_owner es s d call.0 in
    let known : session_numbered st es g.session ≡ Some s = ap (λ n. session_numbered st es n) h.mine ∙ its in
    is_false (is_free_write g.lver d)
    (λ frees. unfreed st es law g h.there exclusive s known d owner.0 owner.1 (ap (λ z. is_lease_call d && is_on st.layout z d.call) h.spot ∙ call.1) frees)
