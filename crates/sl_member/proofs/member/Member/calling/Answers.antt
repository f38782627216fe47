use Rattle.sl_area.specs.AreaSizes.{layout_of}
use Rattle.sl_delta.proofs.EnoughLaws.{hosts_keep_the_same}
use Rattle.sl_delta.specs.OwnSector.{OwnState, after_call}
use Rattle.sl_host_state.specs.KeptState.{JoinState, MemberState}
use Rattle.sl_member.proofs.member.Member.calling.Goals as goal
use Rattle.sl_member.specs.Leases.{LeasesState, leases_after}
use Rattle.sl_member.specs.Members.{MemberKept, kept_called}
use Rattle.sl_member.specs.contracts.member.Member.{the_view}
use Rattle.sl_member.specs.declared.member.Member.TheInside.{Inside}
use Rattle.sl_trace.specs.Sessions.{delta_written}
use Rattle.sl_trace.specs.Traces.{Submitted, new_call}
use Rattle.std.proofs.Common.{ap, refl, sym, ◌∙◌}
use Rattle.std.specs.Option.{option_copied}

pub returns : goal.returns
returns c at =
    let fields : Inside = c.self.inside in
    let m : Submitted = new_call at c.args.now c.args.call.now in
    let with_parts : OwnState → LeasesState → Inside = λ o ls. record fields { own = o; leases = ls } in
    let called : OwnState = after_call c.args.call.now.purpose (option_copied c.delta_of.result) c.args.now fields.own in
    let leases : LeasesState = leases_after (layout_of fields.geometry) (new_call 0 0 c.args.call.now) fields.leases in
    let joined : JoinState → MemberKept = λ j.
    let v : MemberKept = the_view (with_parts (after_call c.args.call.now.purpose (delta_written m) c.args.now fields.own) leases) in
    let s : MemberState = v.state in
    record v { state = record s { joining = j } }
    in
    ap (λ o. the_view (with_parts o c.calling.new.self)) c.called.ensures.state ∙ ap (λ ls. the_view (with_parts called ls)) c.calling.ensures
    ∙ ap (λ d. the_view (with_parts (after_call c.args.call.now.purpose d c.args.now fields.own) leases)) c.delta_of.ensures
    ∙ ap joined (sym (hosts_keep_the_same.joining_called fields.own m refl)) ∙ ap (kept_called m) c.self.view_is
