-- Each lease stands on an area at a base, and who has written its block has verified the resource's name; who holds has done so.
use Rattle.sl_area.specs.AreaSizes.{Layout}
use Rattle.sl_area.specs.AreaLayout.{is_base}
use Rattle.sl_due.specs.Steps.{Step, seen}
use Rattle.sl_due_leases.proofs.Grants.WorksByAnswers.{new_spot}
use Rattle.sl_due_leases.proofs.Holdings.LeaseCallers.{spot_aligned}
use Rattle.sl_due_leases.proofs.Ways.WayFactsHeld.LinesReady.{base_aligned}
use Rattle.sl_due_facts.specs.Facts.WayFacts.{Ways, way_context}
use Rattle.sl_host_law.proofs.Calls.MemberCalls.SpotsMore.{AreOnce, found_once, in_with, one_spot, spot_there, spots_once}
use Rattle.sl_host_law.proofs.SharedFacts.MembersAreSessions.{member_inside}
use Rattle.sl_host_law.proofs.SharedFacts.PlainLists.{any_mapped, at_some}
use Rattle.sl_host_law.proofs.SharedFacts.SessionNumbers.{placed_by_number}
use Rattle.sl_host_law.proofs.Replies.PlainNumbers.{same_number}
use Rattle.sl_host_law.proofs.Steps.LeasesAreKnown.{kept_tops}
use Rattle.sl_host_law.specs.Decisions.CommandDecisions.{held_of, held_on}
use Rattle.sl_host_law.specs.Questions.Members.{exclusive_at}
use Rattle.sl_host_law.specs.Steps.Leases.{kept_blocks, lease_at, top_block}
use Rattle.sl_host_state.specs.KeptState.{Config, HostState, LeaseState, MemberState}
use Rattle.sl_host_state.specs.MadeEffects.{is_lease_on, new_lease}
use Rattle.sl_host_state.specs.HostStands.{LeaseStands, MemberStands, top_mbal}
use Rattle.sl_host_state.specs.declared.kept_parts.TopNumber.{TopNumber}
use Rattle.sl_words.proofs.Numbers.{number_itself}
use Rattle.sl_sector.specs.declared.sector.Block.{Block}
use Rattle.sl_words.specs.Words.{greatest, is_empty}
use Rattle.sl_lease.specs.LeaseQuestions.{TopStands}
use Rattle.sl_lease.specs.Bounds.{IsInstance}
use Rattle.sl_lease.specs.Side.{is_named}
use Rattle.sl_trace.specs.Leases.{block_submitted, is_lease_call, is_on, lease_calls, spot_of_call, spots_in, with_spot}
use Rattle.sl_words.proofs.Lists.{any_found, contains_first, contains_map, contains_more, contains_none, find_inside, got_inside, kept as kept_in, kept_inside}
use Rattle.sl_trace.specs.Sessions.{calls_of, is_call_of, me, sessions}
use Rattle.sl_trace.specs.declared.session.Session.{Session}
use Rattle.sl_step_law.proofs.BlocksAreInstances.{block_instance, name_verified}
use Rattle.sl_step_law.proofs.CallsOnPast.{standing}
use Rattle.sl_step_law.proofs.LooksAreOwed.{open_wrote}
use Rattle.sl_words.proofs.Options.{some_of}
use Rattle.sl_step_law.proofs.HoldersWrote.{WroteIn, holders_wrote}
use Rattle.sl_step_law.specs.KnownLeases.{LeasesAreKnown}
use Rattle.sl_step_law.specs.Moments.{IsMoment}
use Rattle.sl_trace.specs.Traces.{Submitted, holdings, is_shared, same_place, same_spot, spot_of_grant, submitted}
use Rattle.sl_trace.specs.declared.effects.Grant.{Grant}
use Rattle.sl_trace.specs.declared.effects.Spot.{Spot}
use Rattle.sl_trace.specs.declared.input.Input.{Input}
use Rattle.sl_words.proofs.CaseLaws.{false_is_true, none_some}
use Rattle.sl_words.proofs.WordLaws.{and_true}
use Rattle.std.proofs.Common.{ap, arith, inl, inr, refl, subst, sym, ◌∙◌}
use Rattle.std.proofs.lemmas.Bool.Decides.{Decides-eqb}
use Rattle.std.specs.List.{list_any}
use Rattle.std.specs.Prelude.{Bool, Contains, IfSome, IsTrue, List, None, Option, Some, cond, false, find, is_some, map, max, not, slice_get, true, unwrap_or, [], ℕ, ◌%◌, ◌&&◌, ◌==◌, ◌∷◌, ◌≡◌}

-- ---- an area of leases is that of a call of one

pub record OfLeaseCall (g : Layout) (ms : List Submitted) (at : Spot) : Type 0 where
  pub call : Submitted
  pub there : Contains ms call
  pub works : is_lease_call call ≡ true
  pub area : spot_of_call g call ≡ at

pub lease_comes : (g : Layout) (ms : List Submitted) (at : Spot) → Contains (spots_in g ms) at → OfLeaseCall g ms at
lease_comes g [] at there = absurd (contains_none at there)
lease_comes g (m ∷ ms) at there = by (lease_comes g ms at) (is_lease_call m) refl there where
  further : OfLeaseCall g ms at → OfLeaseCall g (m ∷ ms) at
  further o = record { call = o.call; there = contains_more m ms o.call o.there; works = o.works; area = o.area }

  by : (Contains (spots_in g ms) at → OfLeaseCall g ms at) → (b : Bool) → is_lease_call m ≡ b
      → Contains (elim b as (λ x. List Spot) [ false ↦ spots_in g ms | true ↦ with_spot (spot_of_call g m) (spots_in g ms) ]) at → OfLeaseCall g (m ∷ ms) at
  by deeper false is in_it = further (deeper in_it)
  by deeper true is in_it =
      elim (in_with (spot_of_call g m) (spots_in g ms) at in_it) [
        | inl new ↦ record { call = m; there = contains_first m ms; works = is; area = new }
        | inr old ↦ further (deeper old)
      ]

-- The greatest number of one block.
alone : (t : TopNumber) (b : Bool) → b ≡ true → greatest (map (λ (z : Block). z.mbal) (cond b (top_block t ∷ []) [])) ≡ t.mbal
alone t true is = (let most : max t.mbal 0 ≡ t.mbal = omega arith in most)
alone t false is = absurd cc

-- ---- holdings

module _ (i : Input) (h : HostState) (x : Step) (o : IsMoment i h x) where
  layouts : x.setting.layout ≡ h.config.layout
  layouts = ap (λ (z : Config). z.layout) o.stands.keeps.config

  module _ (g : Grant) (held : Contains h.holdings g) where
    of_trace : Contains (holdings (seen x)) g
    of_trace = subst (λ gs. Contains gs g) (sym o.stands.keeps.holdings) held

    wrote_in : WroteIn x.setting (seen x) g.session (spot_of_grant g) g.lver
    wrote_in = (let order = o.kept.known.0.orderly in holders_wrote x.setting (seen x) order.modes order.granting g of_trace)

    aligned : g.offset % x.setting.layout.area ≡ 0
    aligned = base_aligned x.setting g.offset (o.kept.known.0.facts.holdings.owned g of_trace).4

    -- The session's call that wrote so.
    of_session : (s : Session) → s.number ≡ g.session → Contains (lease_calls x.setting (seen x) s (spot_of_grant g)) wrote_in.call
    of_session s number =
        kept_in (λ (z : Submitted). is_lease_call z && is_on x.setting.layout (spot_of_grant g) z.call) (calls_of (seen x) s) wrote_in.call wrote_in.works
        (kept_in (is_call_of s) (submitted (seen x)) wrote_in.call ((Decides-eqb wrote_in.call.call.session s.number).1 (wrote_in.mine ∙ sym number)) wrote_in.there)

    instance_of : (s : Session) → Contains (sessions x.setting (seen x)) s → s.number ≡ g.session → IsInstance g.lver × (is_some (block_submitted (lease_calls x.setting (seen x) s (spot_of_grant g))) ≡ true)
    instance_of s there number =
        let ways = o.kept.known.0.facts.ways.each s (spot_of_grant g) there aligned in
        let b = block_instance x.setting (seen x) s (spot_of_grant g) wrote_in.call wrote_in.block o.kept.known.0.orderly ways (of_session s number) wrote_in.written in
        (subst IsInstance wrote_in.instance b.0, b.1)

    pub instance : IsInstance g.lver
    instance =
        let owned = o.kept.known.0.facts.holdings.owned g of_trace in
        (instance_of owned.0 (got_inside (sessions x.setting (seen x)) g.session owned.0 owned.1) (placed_by_number x.setting (seen x) g.session owned.0 owned.1)).0

  -- ---- a member

  module _ (m : MemberState) (there : Contains h.members m) where
    place : (k : ℕ) × (slice_get h.members k ≡ Some m)
    place = at_some h.members m there

    stands : MemberStands x.setting (seen x) m
    stands = o.stands.keeps.members place.0 m place.1

    pub listed : Contains (sessions x.setting (seen x)) m.who
    listed = (member_inside h x.setting (seen x) place.0 m o.stands.keeps place.1).0

    -- The lease of a call.
    pub lease_of : (d : Submitted) → Contains (calls_of (seen x) m.who) d → is_lease_call d ≡ true
        → (l : LeaseState) × Contains m.leases l × (spot_of_call x.setting.layout d ≡ l.spot) × (find (is_lease_on (spot_of_call x.setting.layout d)) m.leases ≡ Some l)
    lease_of d mine works =
        let some =
        any_found (is_lease_on (spot_of_call x.setting.layout d)) m.leases
        (sym (any_mapped (same_spot (spot_of_call x.setting.layout d)) (λ (l : LeaseState). l.spot) m.leases)
        ∙ ap (list_any (same_spot (spot_of_call x.setting.layout d))) (sym stands.spots)
        ∙ spot_there x.setting.layout (calls_of (seen x) m.who) d mine works)
        in (
          some.0,
          some.1,
          one_spot (spot_of_call x.setting.layout d) some.0.spot some.2,
          found_once (spot_of_call x.setting.layout d) m.leases some.0 (subst AreOnce stands.spots (spots_once x.setting.layout (calls_of (seen x) m.who))) some.1 some.2,
        )

    module _ (l : LeaseState) (has : Contains m.leases l) where
      pub lease_stands : LeaseStands x.setting.layout m.who.lockspace (me (seen x) m.who) l (lease_calls x.setting (seen x) m.who l.spot)
      lease_stands = (let at = at_some m.leases l has in stands.leases at.0 l at.1)

      from : OfLeaseCall x.setting.layout (calls_of (seen x) m.who) l.spot
      from = lease_comes x.setting.layout (calls_of (seen x) m.who) l.spot (subst (λ ss. Contains ss l.spot) (sym stands.spots) (contains_map (λ (z : LeaseState). z.spot) m.leases l has))

      spot_is_aligned : l.spot.base % x.setting.layout.area ≡ 0
      spot_is_aligned = subst (λ (s : Spot). s.base % x.setting.layout.area ≡ 0) from.area (spot_aligned x.setting.layout from.call)

      pub placed : IsTrue (is_base h.config.layout l.spot.base)
      placed =
          let inside = kept_inside (is_call_of m.who) (submitted (seen x)) from.call from.there in
          let call = standing x.setting (seen x) from.call o.calls inside.0 in
          subst (λ (g : Layout). IsTrue (is_base g l.spot.base)) layouts (subst (λ (s : Spot). IsTrue (is_base x.setting.layout s.base)) from.area (call.1.area from.works))

      pub ways : Ways (way_context x.setting (seen x) m.who) (lease_calls x.setting (seen x) m.who l.spot)
      ways = o.kept.known.0.facts.ways.each m.who l.spot listed spot_is_aligned

      pub each_top : TopStands l (kept_blocks l)
      each_top = record { greatest_is = tops_kept; opened = lease_stands.opened } where
        tops_kept : (t : TopNumber) → l.top ≡ Some t → top_mbal t.instance (kept_blocks l) ≡ t.mbal
        tops_kept t is = ap (λ o. top_mbal t.instance (elim o as (λ z. List (Option Block)) [ None ↦ [] | Some u ↦ Some (top_block u) ∷ [] ])) is ∙ alone t (t.instance == t.instance) (number_itself t.instance)

      pub named_by : is_some (block_submitted (lease_calls x.setting (seen x) m.who l.spot)) ≡ true → IsTrue (is_named l)
      named_by wrote = subst (λ n. IsTrue (not (is_empty n))) lease_stands.name (name_verified x.setting o.kept.known.0.setting (seen x) m.who listed l.spot ways wrote)

      pub named : is_some l.own ≡ true → IsTrue (is_named l)
      named own = named_by (ap (λ b. is_some b) lease_stands.own ∙ own)

      opened_by : is_some l.ballot ≡ true → is_some l.own ≡ true
      opened_by open_one =
          let n = some_of l.ballot open_one in
          ap (λ b. is_some b) (sym lease_stands.own) ∙ open_wrote x.setting.layout (lease_calls x.setting (seen x) m.who l.spot) n.0 (lease_stands.ballot ∙ n.1)

    -- On whatever area: a lease that isn't there has written nothing.
    at_spot : (P : LeaseState → Type 0) (at : Spot) → ((l : LeaseState) → Contains m.leases l → P l) → P (new_lease at) → P (lease_at m at)
    at_spot P at each none_there = by (find (is_lease_on at) m.leases) (λ l is. find_inside (is_lease_on at) m.leases l is) where
      by : (o : Option LeaseState) → ((l : LeaseState) → o ≡ Some l → Contains m.leases l × (is_lease_on at l ≡ true)) → P (unwrap_or o (new_lease at))
      by (Some l) inside = each l (inside l refl).0
      by None inside = none_there

    pub owned : (at : Spot) → is_some (lease_at m at).own ≡ true → IsTrue (is_named (lease_at m at))
    owned at = at_spot (λ l. is_some l.own ≡ true → IsTrue (is_named l)) at (λ l has. named l has) (λ own. absurd (false_is_true own))

    pub opened : (at : Spot) → is_some (lease_at m at).ballot ≡ true → is_some (lease_at m at).own ≡ true
    opened at = at_spot (λ l. is_some l.ballot ≡ true → is_some l.own ≡ true) at (λ l has. opened_by l has) (λ open_one. absurd (false_is_true open_one))

    -- ---- the blocks that were read last

    pub tops : (at : Spot) → TopStands (lease_at m at) (kept_blocks (lease_at m at))
    tops at = by (find (is_lease_on at) m.leases) refl where
      by : (p : Option LeaseState) → find (is_lease_on at) m.leases ≡ p → TopStands (unwrap_or p (new_lease at)) (kept_blocks (unwrap_or p (new_lease at)))
      by (Some l) is = kept_tops i h x place.0 m (record { stands = o.stands; there = place.1 }) at l is
      by None is = record { greatest_is = λ t none. absurd (none_some t none); opened = λ n none. absurd (none_some n none) }

    -- ---- who holds

    pub held : (at : Spot) → IfSome (exclusive_at h m at) (λ g. IsInstance g.lver)
    held at = by (exclusive_at h m at) refl where
      by : (p : Option Grant) → exclusive_at h m at ≡ p → IfSome p (λ g. IsInstance g.lver)
      by None is = tt
      by (Some g) is =
          let there_on = find_inside (λ (z : Grant). not (is_shared z.mode)) (held_on h m at) g is in
          let its = kept_inside (λ (z : Grant). same_place z.path z.offset at.path at.base) (held_of h m) g there_on.0 in
          instance g (kept_inside (λ (z : Grant). z.session == m.who.number) h.holdings g its.0).0

    pub wrote : (g : Grant) → Contains (held_of h m) g → (l : LeaseState) × (find (is_lease_on (spot_of_grant g)) m.leases ≡ Some l) × (is_some l.own ≡ true)
    wrote g holds =
        let its = kept_inside (λ (z : Grant). z.session == m.who.number) h.holdings g holds in
        let number : m.who.number ≡ g.session = sym (same_number g.session m.who.number its.1) in
        let on = of_session g its.0 m.who number in
        let z = kept_inside (λ (y : Submitted). is_lease_call y && is_on x.setting.layout (spot_of_grant g) y.call) (calls_of (seen x) m.who) (wrote_in g its.0).call on in
        let works = and_true (is_lease_call (wrote_in g its.0).call) (is_on x.setting.layout (spot_of_grant g) (wrote_in g its.0).call.call) z.1 in
        let l = lease_of (wrote_in g its.0).call z.0 works.0 in
        let spot : spot_of_call x.setting.layout (wrote_in g its.0).call ≡ spot_of_grant g = new_spot x.setting (spot_of_grant g) (wrote_in g its.0).call.call o.kept.known.0.setting (aligned g its.0) works.1 in
        let some = (instance_of g its.0 m.who listed number).1 in (
          l.0,
          subst (λ (s : Spot). find (is_lease_on s) m.leases ≡ Some l.0) spot l.3,
          ap (λ b. is_some b) (sym (lease_stands l.0 l.1).own)
              ∙ subst (λ (s : Spot). is_some (block_submitted (lease_calls x.setting (seen x) m.who s)) ≡ true) (sym spot ∙ l.2) some,
        )

    pub holders : (g : Grant) → Contains (held_of h m) g → IsTrue (is_named (lease_at m (spot_of_grant g)))
    holders g holds =
        let l = wrote g holds in
        subst (λ p. IsTrue (is_named (unwrap_or p (new_lease (spot_of_grant g))))) (sym l.1) (named l.0 (find_inside (is_lease_on (spot_of_grant g)) m.leases l.0 l.1).0 l.2)

pub leases_are_known : LeasesAreKnown
leases_are_known =
    record {
      placed = λ i h x m l o there has. placed i h x o m there l has;
      named = λ i h x m l o there has own. named i h x o m there l has own;
      owned = λ i h x m at o there. owned i h x o m there at;
      opened = λ i h x m at o there. opened i h x o m there at;
      tops = λ i h x m at o there. tops i h x o m there at;
      each_top = λ i h x m l o there has. each_top i h x o m there l has;
      instances = λ i h x g o held. instance i h x o g held;
      held = λ i h x m at o there. held i h x o m there at;
      wrote = λ i h x m g o there holds. wrote i h x o m there g holds;
      holders = λ i h x m g o there holds. holders i h x o m there g holds;
    }
