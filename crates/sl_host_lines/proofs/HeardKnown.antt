-- What is known of a host before its line is known once the line is heard, and once a holding has ended.
use Rattle.sl_area.specs.AreaSizes.{Sizes}
use Rattle.sl_host_law.specs.Questions.Members.{exclusive_at}
use Rattle.sl_host_law.specs.Steps.Leases.{kept_blocks, lease_at}
use Rattle.sl_host_lines.specs.LineFacts.{LeaseReady, MayConvertAt, MayReleaseAt}
use Rattle.sl_host_state.specs.HeardInputs.{heard_line, leaves_member, member_leaving}
use Rattle.sl_host_state.specs.KeptState.{HostKept, HostState, LeaseState, MemberState}
use Rattle.sl_host_state.specs.MadeEffects.{is_lease_on, new_lease, with_end}
use Rattle.sl_host_work.specs.LeaseQuestions.{IsOwned}
use Rattle.sl_host_work.specs.SectorPlaces.{IsArea, IsPlaced}
use Rattle.sl_lease.specs.LeaseQuestions.{TopStands}
use Rattle.sl_lease.specs.Bounds.{IsInstance}
use Rattle.sl_lease.specs.Side.{is_named}
use Rattle.sl_member.specs.HostMembers.{member_with}
use Rattle.sl_trace.specs.declared.delta.DeltaKnown.{DeltaKnown}
use Rattle.sl_trace.specs.declared.session.Begun.{Begun}
use Rattle.sl_trace.specs.declared.session.Session.{Session}
use Rattle.sl_trace.specs.Traces.{is_shared, same_place, spot_of_grant}
use Rattle.sl_trace.specs.declared.command.Command.{Command}
use Rattle.sl_trace.specs.declared.effects.End.{End}
use Rattle.sl_trace.specs.declared.effects.Grant.{Grant}
use Rattle.sl_trace.specs.declared.effects.Spot.{Spot}
use Rattle.sl_host.specs.BookQuestions.{state_in}
use Rattle.sl_host.specs.Host.{Becomes, HostView, SameRun}
use Rattle.sl_words.proofs.CaseLaws.{none_some, some_value}
use Rattle.std.proofs.Common.{ap, refl, subst, sym, ◌∙◌}
use Rattle.std.proofs.lemmas.List.{length-map}
use Rattle.std.specs.Prelude.{Bool, Err, IfSome, IsTrue, List, None, Option, Some, cond, false, filter, find, length, map, not, true, unwrap_or, [], ℕ, ◌-◌, ◌==◌, ◌∷◌, ◌≡◌}

-- ---- members

-- A member that this one was before: it is in the same session, as far, with the same leases.
record WasBefore (o : Option MemberState) (m : MemberState) : Type 0 where
  old : MemberState
  there : o ≡ Some old
  who : old.who ≡ m.who
  joined : old.joined ≡ m.joined
  leases : old.leases ≡ m.leases

-- A change of members that leaves session and leases.
record LeavesLeases (f : MemberState → MemberState) : Type 0 where
  who : (m : MemberState) → m.who ≡ (f m).who
  joined : (m : MemberState) → m.joined ≡ (f m).joined
  leases : (m : MemberState) → m.leases ≡ (f m).leases

module _ (f : MemberState → MemberState) (same : LeavesLeases f) (n : ℕ) where
  was : (ms : List MemberState) (m : MemberState) → member_with n (map f ms) ≡ Some m → WasBefore (member_with n ms) m
  was [] m is = absurd (none_some m is)
  was (x ∷ xs) m is = by (x.who.number == n) (was xs m) (subst (λ (s : Session). cond (s.number == n) (Some (f x)) (member_with n (map f xs)) ≡ Some m) (sym (same.who x)) is) where
    by : (b : Bool) → (member_with n (map f xs) ≡ Some m → WasBefore (member_with n xs) m) → cond b (Some (f x)) (member_with n (map f xs)) ≡ Some m → WasBefore (cond b (Some x) (member_with n xs)) m
    by true rest is =
        let e : f x ≡ m = some_value (f x) m is in
        record {
          old = x;
          there = refl;
          who = same.who x ∙ ap (λ (z : MemberState). z.who) e;
          joined = same.joined x ∙ ap (λ (z : MemberState). z.joined) e;
          leases = same.leases x ∙ ap (λ (z : MemberState). z.leases) e;
        }
    by false rest is = rest is

-- A line that is heard does so.
heard_leaves : (c : Command) (h : HostState) → LeavesLeases (λ m. cond (leaves_member c m) (member_leaving h m) m)
heard_leaves c h = record { who = λ m. (by m (leaves_member c m)).0; joined = λ m. (by m (leaves_member c m)).1; leases = λ m. (by m (leaves_member c m)).2 } where
  turned : MemberState → Option Begun → MemberState
  turned m o =
      let k : DeltaKnown = m.known in
      elim o [
        | Some b ↦ m
        | None ↦ record m { leaving = Some (record { at = h.entries - 1; reading = h.reading; kills_from = h.entries }); known = record k { leaving = Some h.next_job } }
      ]

  left : (m : MemberState) (o : Option Begun) → (m.who ≡ (turned m o).who) × (m.joined ≡ (turned m o).joined) × (m.leases ≡ (turned m o).leases)
  left m (Some b) = (refl, refl, refl)
  left m None = (refl, refl, refl)

  by : (m : MemberState) (b : Bool)
      → (m.who ≡ (cond b (turned m m.leaving) m).who) × (m.joined ≡ (cond b (turned m m.leaving) m).joined) × (m.leases ≡ (cond b (turned m m.leaving) m).leases)
  by m true = left m m.leaving
  by m false = (refl, refl, refl)

-- ---- facts

-- The lease of one that was so before.
lease_same : (old m : MemberState) (at : Spot) → old.leases ≡ m.leases → lease_at old at ≡ lease_at m at
lease_same old m at is = ap (λ (ls : List LeaseState). unwrap_or (find (is_lease_on at) ls) (new_lease at)) is

module _ (k new : HostKept) (old m : MemberState) (at : Spot) (config : new.config ≡ k.config) (who : old.who ≡ m.who) (joined : old.joined ≡ m.joined) (leases : old.leases ≡ m.leases) where
  ready_still : LeaseReady k at old → LeaseReady new at m
  ready_still r =
      let sizes : k.config.sizes ≡ new.config.sizes = sym (ap (λ z. z.sizes) config) in
      record {
        joined = sym joined ∙ r.joined;
        placed = subst (λ (s : Session). IsPlaced new.config.sizes s) who (subst (λ (z : Sizes). IsPlaced z old.who) sizes r.placed);
        area = subst (λ (z : Sizes). IsArea z at.base) sizes r.area;
        tops = subst (λ (l : LeaseState). TopStands l (kept_blocks l)) (lease_same old m at leases) r.tops;
        owned = subst IsOwned (lease_same old m at leases) r.owned;
      }

  -- Who holds on the area stays.
  held_still : k.holdings ≡ new.holdings → exclusive_at (state_in k) old at ≡ exclusive_at (state_in new) m at
  held_still holdings =
      ap (λ (gs : List Grant). find (λ g. not (is_shared g.mode)) (filter (λ g. same_place g.path g.offset at.path at.base) (filter (λ g. g.session == old.who.number) gs))) holdings
      ∙ ap (λ (s : Session). find (λ g. not (is_shared g.mode)) (filter (λ g. same_place g.path g.offset at.path at.base) (filter (λ g. g.session == s.number) new.holdings))) who

-- ---- over a line that is heard

module _ (c : Command) (old new : HostView) (becomes : Becomes old new (heard_line c)) (run : SameRun old new) where
  abbrev here : HostState
  here = state_in old.kept

  members_are : new.kept.members ≡ map (λ m. cond (leaves_member c m) (member_leaving here m) m) old.kept.members
  members_are = ap (λ (h : HostState). h.members) (becomes (λ text. Err 0))

  holdings_are : new.kept.holdings ≡ old.kept.holdings
  holdings_are = ap (λ (h : HostState). h.holdings) (becomes (λ text. Err 0))

  before : (n : ℕ) (m : MemberState) → member_with n new.kept.members ≡ Some m → WasBefore (member_with n old.kept.members) m
  before n m is =
      was (λ m. cond (leaves_member c m) (member_leaving here m) m) (heard_leaves c here) n old.kept.members m (sym (ap (member_with n) members_are) ∙ is)

  pub release_heard : (n : ℕ) (g : Grant) → MayReleaseAt old.kept n g → MayReleaseAt new.kept n g
  release_heard n g may m is =
      let b = before n m is in
      let known = may b.old b.there in
      record {
        lease = ready_still old.kept new.kept b.old m (spot_of_grant g) run.0 b.who b.joined b.leases known.lease;
        named = subst (λ (l : LeaseState). IsTrue (is_named l)) (lease_same b.old m (spot_of_grant g) b.leases) known.named;
        instance = known.instance;
      }

  pub convert_heard : (n : ℕ) (at : Spot) → MayConvertAt old.kept n at → MayConvertAt new.kept n at
  convert_heard n at may m is =
      let b = before n m is in
      let known = may b.old b.there in
      record {
        lease = ready_still old.kept new.kept b.old m at run.0 b.who b.joined b.leases known.lease;
        held = subst (λ (o : Option Grant). IfSome o (λ g. IsInstance g.lver)) (held_still old.kept new.kept b.old m at run.0 b.who b.joined b.leases (sym holdings_are)) known.held;
      }

-- ---- over the end of a holding

pub release_ended : (e : End) (old new : HostView) → Becomes old new (with_end e) → SameRun old new → (n : ℕ) (g : Grant) → MayReleaseAt old.kept n g → MayReleaseAt new.kept n g
release_ended e old new becomes run n g may m is =
    let members : new.kept.members ≡ old.kept.members = ap (λ (h : HostState). h.members) (becomes (λ text. Err 0)) in
    let known = may m (sym (ap (member_with n) members) ∙ is) in
    record { lease = ready_still old.kept new.kept m m (spot_of_grant g) run.0 refl refl refl known.lease; named = known.named; instance = known.instance }

-- ---- numbers

module _ (c : Command) (old new : HostView) (becomes : Becomes old new (heard_line c)) where
  -- No member has a number that none had.
  none_new : (n : ℕ) (f : MemberState → MemberState) → LeavesLeases f → (ms : List MemberState) → member_with n ms ≡ None → member_with n (map f ms) ≡ None
  none_new n f same [] none = refl
  none_new n f same (x ∷ xs) none = subst (λ (s : Session). cond (s.number == n) (Some (f x)) (member_with n (map f xs)) ≡ None) (same.who x) (by (x.who.number == n) (none_new n f same xs) none) where
    by : (b : Bool) → (member_with n xs ≡ None → member_with n (map f xs) ≡ None) → cond b (Some x) (member_with n xs) ≡ None → cond b (Some (f x)) (member_with n (map f xs)) ≡ None
    by true rest is = absurd (none_some x (sym is))
    by false rest is = rest is

  abbrev heard_member : MemberState → MemberState
  heard_member m = cond (leaves_member c m) (member_leaving (state_in old.kept) m) m

  members_heard : new.kept.members ≡ map heard_member old.kept.members
  members_heard = ap (λ (h : HostState). h.members) (becomes (λ text. Err 0))

  pub born_heard : new.kept.born ≡ old.kept.born
  born_heard = ap (λ (h : HostState). h.born) (becomes (λ text. Err 0))

  pub new_heard : member_with old.kept.born old.kept.members ≡ None → member_with new.kept.born new.kept.members ≡ None
  new_heard none =
      ap (λ (n : ℕ). member_with n new.kept.members) born_heard
      ∙ (ap (member_with old.kept.born) members_heard ∙ none_new old.kept.born heard_member (heard_leaves c (state_in old.kept)) old.kept.members none)

  pub count_heard : length new.kept.members ≡ length old.kept.members
  count_heard = ap (λ (ms : List MemberState). length ms) members_heard ∙ length-map old.kept.members heard_member
