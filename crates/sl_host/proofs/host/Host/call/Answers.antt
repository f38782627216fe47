use Rattle.sl_area.specs.AreaSizes.{Sizes, layout_of}
use Rattle.sl_host_state.specs.KeptState.{HostState, state_of}
use Rattle.sl_host_state.specs.MadeEffects.{with_call}
use Rattle.sl_member.specs.Members.{IsOwnCall, member_called}
use Rattle.sl_member.specs.HostMembers.{changed_member}
use Rattle.sl_trace.specs.CountLimits.{most_lockspaces}
use Rattle.sl_trace.specs.Traces.{Submitted, new_call}
use Rattle.sl_trace.specs.declared.effects.Call.{Call}
use Rattle.sl_host.proofs.HostStands.{lowered_room, same_run}
use Rattle.sl_host.proofs.host.Host.call.Goals as goal
use Rattle.sl_host.specs.Books.{books_calling, kept_of, submitted_in}
use Rattle.std.proofs.Common.{ap, length, subst, sym, ℕ, ◌+◌, ◌-◌, ◌∙◌, ◌≤◌}

pub calling-requires-clause-own : goal.calling-requires-clause-own
calling-requires-clause-own c =
    let a = c.args in
    let call : ℕ → Call = λ n. record { number = n; session = a.session; purpose = a.purpose; path = a.path; offset = a.offset; op = a.op } in
    subst (λ r. IsOwnCall (new_call 0 r (call c.next_call.result))) (sym (c.reading-now.ensures ∙ ap (λ v. v.kept.reading) c.self.view_is)) (c.requires.own c.next_call.result)

pub invariant_of-self : goal.invariant_of-self
invariant_of-self c = (
  ap (λ s. s.run) (c.calling.ensures 0) ∙ (c.self.invariant.0 ∙ ap same_run (sym c.call.ensures)),
  lowered_room _ c.self.inside.books.calls c.self.inside.members.room c.call.new.self.calls c.calling.new.self.room (ap (λ b. b.calls) c.call.ensures) (ap (λ s. s.room) (c.calling.ensures 0)) c.self.invariant.1,
  subst (λ n. most_lockspaces ≤ n) (sym (ap (λ s. s.most) (c.calling.ensures 0))) c.self.invariant.2,
)

pub returns-clause-state : goal.returns-clause-state
returns-clause-state c read =
    let a = c.args in
    let bk = c.self.inside.books in
    let ms = c.self.inside.members.members in
    let call : ℕ → Call = λ n. record { number = n; session = a.session; purpose = a.purpose; path = a.path; offset = a.offset; op = a.op } in
    let at : ℕ → ℕ → Submitted = λ r n. new_call (bk.entries - 1) r (call n) in
    let F : Sizes → ℕ → ℕ → HostState =
    λ z r n. state_of read (kept_of (changed_member a.session (member_called (layout_of z) (at r n)) ms) (books_calling (submitted_in bk (call n)) bk)) in
    (λ i. state_of read (kept_of (ap (λ s. s.members) (c.calling.ensures (bk.entries - 1)) i) (c.call.ensures i)))
    ∙ (ap (λ r. F c.self.inside.members.run.sizes r c.next_call.result) c.reading-now.ensures
    ∙ (ap (λ n. F c.self.inside.members.run.sizes bk.reading n) c.next_call.ensures
    ∙ (ap (λ r. F r.sizes bk.reading (bk.first_call + length bk.made.calls)) c.self.invariant.0
    ∙ ap (λ v. with_call a.session a.path a.purpose a.offset a.op (state_of read v.kept)) c.self.view_is)))

pub returns-clause-run : goal.returns-clause-run
returns-clause-run c = (
  ap (λ b. b.config) c.call.ensures ∙ ap (λ v. v.kept.config) c.self.view_is,
  ap (λ b. b.reading) c.call.ensures ∙ ap (λ v. v.kept.reading) c.self.view_is,
  (
    ap (λ b. b.most) c.call.ensures ∙ ap (λ v. v.most) c.self.view_is,
    ap (λ b. b.most_calls) c.call.ensures ∙ ap (λ v. v.most_calls) c.self.view_is,
    ap (λ s. s.most) (c.calling.ensures 0) ∙ ap (λ v. v.seats) c.self.view_is,
  ),
)
