use Rattle.sl_area.specs.AreaSizes.{layout_of}
use Rattle.sl_member.specs.Laws.{area_of_call}
use Rattle.sl_member.specs.Members.{RunOf, lease_changed}
use Rattle.sl_trace.specs.declared.effects.Spot.{Spot}
use Rattle.sl_trace.specs.declared.input.Answer.TheVariants.{Read}
use Rattle.sl_host.proofs.AnswersHeard.{lease_read_whole}
use Rattle.sl_host.proofs.ReadsTold.{told_after}
use Rattle.sl_host_law.specs.Steps.Leases.{lease_at}
use Rattle.sl_lease.specs.Laws.{first_by}
use Rattle.sl_host_state.specs.HeardInputs.{heard_answer, is_heeded_by}
use Rattle.sl_host_state.specs.KeptState.{MemberState, state_of}
use Rattle.sl_member.specs.HostMembers.{MembersState, changed_member}
use Rattle.sl_host.specs.Books.{BooksState, host_of}
use Rattle.sl_host.specs.HeardAnswers.{IsTold, MayHear, first_to, is_over_in, lease_heard, others_in, turn_to}
use Rattle.sl_host.specs.Host.{HostView}
use Rattle.sl_host.proofs.host.Host.hear_lease_read.Goals as goal
use Rattle.std.proofs.Common.{List, ap, filter, not, subst, sym, ◌∙◌, ◌≡◌}

pub returns-clause-state : goal.returns-clause-state
returns-clause-state g c read =
    let b : BooksState = c.self.inside.books in
    let ms : List MemberState = c.self.inside.members.members in
    let run = c.self.inside.members.run in
    let call = c.args.call.now in
    let step = c.args.step in
    let bytes = g.S.Sectors.bytes c.args.sectors.now in
    let told = c.tell_lease_read-told.result in
    let blocks = c.tell_lease_read-told.new.blocks.blocks in
    let heeded = c.heeds-heeded.result in
    let may = subst (λ (v : HostView). MayHear v.kept call) (sym c.self.view_is) c.requires.may in
    let rest : List MemberState → List MemberState = filter (λ s. not (is_over_in (others_in call.number b.unanswered) s)) in
    let made : c.hear.new.members.members
    ≡ rest (changed_member call.session (λ s. lease_changed (area_of_call (layout_of b.config.sizes) call) (lease_heard run (turn_to (layout_of run.sizes) call.session step bytes ms) heeded step bytes told blocks s) s) ms) =
    ap (λ (v : MembersState). v.members) c.hear.ensures.members
    ∙ (ap (λ (v : MembersState). rest v.members) c.tell_lease_read-told.ensures.members
    ∙ ap (λ t. rest (changed_member call.session (λ s. lease_changed t (lease_heard run (turn_to (layout_of run.sizes) call.session step bytes ms) heeded step bytes told blocks s) s) ms)) c.area_of-at.ensures) in
    let is_told : IsTold b.config.sizes (first_to call.session (area_of_call (layout_of b.config.sizes) call) step ms) step bytes told blocks =
    subst (λ (at : Spot). IsTold b.config.sizes (first_to call.session at step ms) step bytes told blocks) c.area_of-at.ensures
    (subst (λ (r : RunOf). IsTold r.sizes (first_to call.session c.area_of-at.result step ms) step bytes told blocks) c.self.invariant.0 c.tell_lease_read-told.ensures.told) in
    ap (λ (bk : BooksState). host_of read c.hear.new.members.members bk) c.hear.ensures.books
    ∙ (lease_read_whole read ms b call may run c.hear.new.members.members bytes c.args.work step told blocks heeded c.self.invariant.0 c.requires.purpose c.requires.reads c.order.ensures.apart
    c.order.ensures.by_place is_told (c.heeds-heeded.ensures ∙ ap (λ (v : HostView). is_heeded_by (state_of read v.kept) call) (sym c.self.view_is)) made
    ∙ ap (λ (v : HostView). heard_answer call.number (Read bytes) (state_of read v.kept)) c.self.view_is)

pub returns-clause-told : goal.returns-clause-told
returns-clause-told g c m found =
    let b : BooksState = c.self.inside.books in
    let ms : List MemberState = c.self.inside.members.members in
    let run = c.self.inside.members.run in
    let call = c.args.call.now in
    let step = c.args.step in
    let bytes = g.S.Sectors.bytes c.args.sectors.now in
    let told = c.tell_lease_read-told.result in
    let blocks = c.tell_lease_read-told.new.blocks.blocks in
    let heeded = c.heeds-heeded.result in
    let at : Spot = area_of_call (layout_of b.config.sizes) call in
    let rest : List MemberState → List MemberState = filter (λ s. not (is_over_in (others_in call.number b.unanswered) s)) in
    let made : c.hear.new.members.members
    ≡ rest (changed_member call.session (λ s. lease_changed (area_of_call (layout_of b.config.sizes) call) (lease_heard run (turn_to (layout_of run.sizes) call.session step bytes ms) heeded step bytes told blocks s) s) ms) =
    ap (λ (v : MembersState). v.members) c.hear.ensures.members
    ∙ (ap (λ (v : MembersState). rest v.members) c.tell_lease_read-told.ensures.members
    ∙ ap (λ t. rest (changed_member call.session (λ s. lease_changed t (lease_heard run (turn_to (layout_of run.sizes) call.session step bytes ms) heeded step bytes told blocks s) s) ms)) c.area_of-at.ensures) in
    let is_told : IsTold b.config.sizes (first_to call.session (area_of_call (layout_of b.config.sizes) call) step ms) step bytes told blocks =
    subst (λ (at : Spot). IsTold b.config.sizes (first_to call.session at step ms) step bytes told blocks) c.area_of-at.ensures
    (subst (λ (r : RunOf). IsTold r.sizes (first_to call.session c.area_of-at.result step ms) step bytes told blocks) c.self.invariant.0 c.tell_lease_read-told.ensures.told) in
    subst (λ (v : HostView). IsTold v.kept.config.sizes (first_by (lease_at m (area_of_call (layout_of v.kept.config.sizes) call)).pair step) step bytes told blocks) c.self.view_is
    (told_after run b.config.sizes ms call.session at (turn_to (layout_of run.sizes) call.session step bytes ms) heeded step bytes told blocks (others_in call.number b.unanswered) c.hear.new.members.members
    c.order.ensures.apart made is_told m found)
