-- The block that a member writes is that of its calls: the next turn and the resource's name that its lease keeps are theirs.
use Rattle.sl_host_law.proofs.Calls.MemberCalls.LeasesMore.{calls_on, nothing_here}
use Rattle.sl_host_law.proofs.SharedFacts.PlainLists.{any_mapped}
use Rattle.sl_host_law.proofs.Steps.LeasesAreKnown.{stands}
use Rattle.sl_host_law.specs.Answers.LeaseDecisions.{turn_next}
use Rattle.sl_host_law.specs.Questions.Members.{IsMemberAt, me_in}
use Rattle.sl_host_law.specs.Steps.Leases.{lease_at}
use Rattle.sl_area.specs.AreaSizes.{Layout}
use Rattle.sl_due.specs.CarriedLease.{name_on, next_turn}
use Rattle.sl_due.specs.Steps.{Step, seen}
use Rattle.sl_host_state.proofs.StepsAreOver.{new_lease_stands}
use Rattle.sl_host_state.specs.KeptState.{Config, HostState, LeaseState, MemberState}
use Rattle.sl_host_state.specs.MadeEffects.{is_lease_on, new_lease}
use Rattle.sl_host_state.specs.HostStands.{LeaseStands, turn_kept}
use Rattle.sl_words.proofs.Lists.{any_found, find_fails}
use Rattle.sl_trace.specs.Leases.{base_turn, lease_calls, spots_in, verified_name}
use Rattle.sl_trace.specs.Sessions.{calls_of}
use Rattle.sl_trace.specs.Traces.{Submitted, same_spot}
use Rattle.sl_trace.specs.declared.effects.Call.{Call}
use Rattle.sl_trace.specs.declared.effects.Op.TheVariants.{ReadSectors}
use Rattle.sl_trace.specs.declared.effects.Purpose.TheVariants.{Survey}
use Rattle.sl_trace.specs.declared.effects.Spot.{Spot}
use Rattle.sl_trace.specs.declared.input.Input.{Input}
use Rattle.sl_trace.specs.declared.session.Session.{Session}
use Rattle.sl_words.proofs.CaseLaws.{is_false, true_is_false}
use Rattle.std.proofs.Common.{ap, refl, subst, sym, ◌∙◌}
use Rattle.std.specs.List.{list_any}
use Rattle.std.specs.Prelude.{List, None, Option, Some, false, find, unwrap_or, [], ℕ, ◌%◌, ◌+◌, ◌-◌, ◌≡◌}

-- What a session's calls say of its next block on the area, by what is kept.
pub record WritesTheSame (m : MemberState) (x : Step) (at : Spot) : Type 0 where
  pub turn : next_turn x.setting (seen x) m.who at ≡ turn_next m at
  pub name : name_on x.setting (seen x) m.who at ≡ (lease_at m at).name

module _ (i : Input) (h : HostState) (x : Step) (k : ℕ) (m : MemberState) (member : IsMemberAt i h x k m) (at : Spot) (begins : at.base - at.base % h.config.layout.area ≡ at.base) where
  abbrev calls : List Submitted
  calls = lease_calls x.setting (seen x) m.who at

  layouts : x.setting.layout ≡ h.config.layout
  layouts = ap (λ (c : Config). c.layout) member.stands.keeps.config

  -- A call on the area, made by nobody.
  abbrev call : Call
  call = record { number = 0; session = 0; purpose = Survey; path = at.path; offset = at.base; op = ReadSectors 0 }

  no_lease : find (is_lease_on at) m.leases ≡ None → list_any (same_spot at) (spots_in x.setting.layout (calls_of (seen x) m.who)) ≡ false
  no_lease none =
      ap (list_any (same_spot at)) (member.stands.keeps.members k m member.there).spots ∙ any_mapped (same_spot at) (λ (l : LeaseState). l.spot) m.leases
      ∙ is_false (list_any (is_lease_on at) m.leases) (λ some.
      (let f = any_found (is_lease_on at) m.leases some in true_is_false (sym f.2 ∙ find_fails (is_lease_on at) m.leases f.0 none f.1)))

  -- Where it has no lease, none of its calls is on the area.
  no_calls : find (is_lease_on at) m.leases ≡ None → lease_calls x.setting (seen x) m.who at ≡ []
  no_calls none =
      let same : record { path = at.path; base = at.base - at.base % x.setting.layout.area } ≡ at =
      ap (λ (g : Layout). record { path = at.path; base = at.base - at.base % g.area }) layouts ∙ ap (λ (n : ℕ). record { path = at.path; base = n }) begins
      in
      subst (λ (s : Spot). calls_on x.setting.layout s (calls_of (seen x) m.who) ≡ []) same
      (nothing_here x.setting.layout m.who.lockspace (me_in m) 0 0 call (calls_of (seen x) m.who)
      (subst (λ (s : Spot). list_any (same_spot s) (spots_in x.setting.layout (calls_of (seen x) m.who)) ≡ false) (sym same) (no_lease none)))

  -- Its lease there, begun or not, stands for its calls.
  lease_stands : LeaseStands h.config.layout m.who.lockspace (me_in m) (lease_at m at) (lease_calls x.setting (seen x) m.who at)
  lease_stands = by (find (is_lease_on at) m.leases) refl where
    by : (o : Option LeaseState) → find (is_lease_on at) m.leases ≡ o → LeaseStands h.config.layout m.who.lockspace (me_in m) (lease_at m at) (lease_calls x.setting (seen x) m.who at)
    by (Some l) is =
        subst (λ (z : LeaseState). LeaseStands h.config.layout m.who.lockspace (me_in m) z (lease_calls x.setting (seen x) m.who at)) (sym (ap (λ o. unwrap_or o (new_lease at)) is))
        (stands i h x k m member at l is)
    by None is =
        subst (λ (z : LeaseState). LeaseStands h.config.layout m.who.lockspace (me_in m) z (lease_calls x.setting (seen x) m.who at)) (sym (ap (λ o. unwrap_or o (new_lease at)) is))
        (subst (λ ms. LeaseStands h.config.layout m.who.lockspace (me_in m) (new_lease at) ms) (sym (no_calls is)) (new_lease_stands h.config.layout m.who.lockspace (me_in m) at))

  pub writes_the_same : WritesTheSame m x at
  writes_the_same =
      record {
        turn = ap (λ (g : Layout). base_turn g m.who.id (lease_calls x.setting (seen x) m.who at) + 1) layouts ∙ ap (λ n. n + 1) lease_stands.turn;
        name = ap (λ (g : Layout). verified_name g m.who.lockspace (lease_calls x.setting (seen x) m.who at)) layouts ∙ lease_stands.name;
      }

-- So is that of a member with the same session and leases.
pub writes_as_before : (m q : MemberState) (x : Step) (at : Spot) → q.who ≡ m.who → q.leases ≡ m.leases → WritesTheSame q x at → WritesTheSame m x at
writes_as_before m q x at who leases w =
    record {
      turn = ap (λ (s : Session). next_turn x.setting (seen x) s at) (sym who) ∙ w.turn ∙ ap (λ ls. turn_kept (unwrap_or (find (is_lease_on at) ls) (new_lease at)).pair + 1) leases;
      name = ap (λ (s : Session). name_on x.setting (seen x) s at) (sym who) ∙ w.name ∙ ap (λ ls. (unwrap_or (find (is_lease_on at) ls) (new_lease at)).name) leases;
    }
