use Rattle.sl_area.specs.AreaSizes.{Sizes, layout_of}
use Rattle.sl_host_state.specs.KeptState.{HostState, MemberState, state_of}
use Rattle.sl_host_state.specs.MadeEffects.{with_joining, with_member}
use Rattle.sl_member.specs.Members.{IsOwnCall, RunOf, blank_member, member_called}
use Rattle.sl_member.specs.HostMembers.{changed_member}
use Rattle.sl_trace.specs.Sessions.{joining_session}
use Rattle.sl_trace.specs.CountLimits.{most_lockspaces}
use Rattle.sl_trace.specs.Traces.{Submitted, new_call}
use Rattle.sl_trace.specs.declared.effects.Call.{Call}
use Rattle.sl_trace.specs.declared.effects.JoinStep.TheVariants.{FirstRead}
use Rattle.sl_trace.specs.declared.effects.Purpose.TheVariants.{Joining}
use Rattle.sl_host.proofs.HostStands.{lowered_room, same_run}
use Rattle.sl_host.proofs.host.Host.join.Goals as goal
use Rattle.sl_host.specs.Books.{books_calling, kept_of, submitted_in}
use Rattle.sl_host.specs.Host.{HostView}
use Rattle.sl_host.specs.MemberRun.{run_in}
use Rattle.std.proofs.Common.{List, ap, arith, length, subst, sym, ℕ, ◌+◌, ◌-◌, ◌≡◌, ◌∙◌, ◌≤◌}

pub calling-requires-clause-own : goal.calling-requires-clause-own
calling-requires-clause-own c =
    let a = c.args in
    let call : ℕ → ℕ → Call = λ n s. record { number = n; session = s; purpose = Joining a.job FirstRead; path = a.lockspace.now.path; offset = a.offset; op = a.op } in
    subst (λ r. IsOwnCall (new_call 0 r (call c.next_call.result c.born.result))) (sym (c.reading-now.ensures ∙ ap (λ (v : HostView). v.kept.reading) c.self.view_is))
    (subst (λ s. IsOwnCall (new_call 0 a.self.now.kept.reading (call c.next_call.result s))) (sym (c.born.ensures ∙ ap (λ (v : HostView). v.kept.born) c.self.view_is))
    (c.requires.own c.next_call.result))

pub invariant_of-self : goal.invariant_of-self
invariant_of-self c =
    let calls : c.self.inside.books.calls ≡ c.args.self.now.calls = ap (λ (v : HostView). v.calls) c.self.view_is in
    let room = ap (λ s. s.room) c.put.ensures in (
      ap (λ s. s.run) (c.calling.ensures 0) ∙ (ap (λ s. s.run) c.put.ensures ∙ (c.self.invariant.0 ∙ ap same_run (sym c.bear.ensures))),
      lowered_room _ c.self.inside.books.calls c.put.new.self.room c.bear.new.self.calls c.calling.new.self.room (ap (λ b. b.calls) c.bear.ensures) (ap (λ s. s.room) (c.calling.ensures 0))
          (omega (arith, calls, room, c.requires.room, c.self.invariant.1)),
      subst (λ n. most_lockspaces ≤ n) (sym (ap (λ s. s.most) (c.calling.ensures 0) ∙ ap (λ s. s.most) c.put.ensures)) c.self.invariant.2,
    )

pub returns-clause-state : goal.returns-clause-state
returns-clause-state c read =
    let a = c.args in
    let bk = c.self.inside.books in
    let mm = c.self.inside.members in
    let call : ℕ → ℕ → Call = λ n s. record { number = n; session = s; purpose = Joining a.job FirstRead; path = a.lockspace.now.path; offset = a.offset; op = a.op } in
    let at : ℕ → ℕ → ℕ → Submitted = λ r n s. new_call (bk.entries - 1) r (call n s) in
    let G : Sizes → ℕ → ℕ → ℕ → List MemberState → HostState =
    λ z r n s ms. state_of read (kept_of (changed_member s (member_called (layout_of z) (at r n s)) ms) (let b = books_calling (submitted_in bk (call n s)) bk in record b { born = bk.born + 1 })) in
    let r = c.reading-now.result in
    let n = c.next_call.result in
    let s = c.born.result in
    let blank : RunOf → ℕ → MemberState = λ run k. blank_member run (joining_session k a.job a.lockspace.now) in
    let made : a.member.state ≡ blank (run_in bk.config) bk.born =
    c.requires.blank ∙ sym (ap (λ (v : HostView). blank (run_in v.kept.config) v.kept.born) c.self.view_is) in
    (λ i. state_of read (kept_of (ap (λ w. w.members) (c.calling.ensures (bk.entries - 1)) i) (c.bear.ensures i)))
    ∙ (ap (λ w. G w.run.sizes r n s w.members) c.put.ensures
    ∙ (ap (λ q. G mm.run.sizes q n s (with_member a.member.state mm.members)) c.reading-now.ensures
    ∙ (ap (λ q. G mm.run.sizes bk.reading q s (with_member a.member.state mm.members)) c.next_call.ensures
    ∙ (ap (λ q. G mm.run.sizes bk.reading (bk.first_call + length bk.made.calls) q (with_member a.member.state mm.members)) c.born.ensures
    ∙ (ap (λ q. G q.sizes bk.reading (bk.first_call + length bk.made.calls) bk.born (with_member a.member.state mm.members)) c.self.invariant.0
    ∙ (ap (λ q. G bk.config.sizes bk.reading (bk.first_call + length bk.made.calls) bk.born (with_member q mm.members)) made
    ∙ ap (λ (v : HostView). with_joining a.job a.lockspace.now (Joining a.job FirstRead) a.offset a.op (state_of read v.kept)) c.self.view_is))))))

pub returns-clause-run : goal.returns-clause-run
returns-clause-run c = (
  ap (λ b. b.config) c.bear.ensures ∙ ap (λ v. v.kept.config) c.self.view_is,
  ap (λ b. b.reading) c.bear.ensures ∙ ap (λ v. v.kept.reading) c.self.view_is,
  (
    ap (λ b. b.most) c.bear.ensures ∙ ap (λ v. v.most) c.self.view_is,
    ap (λ b. b.most_calls) c.bear.ensures ∙ ap (λ v. v.most_calls) c.self.view_is,
    ap (λ s. s.most) (c.calling.ensures 0) ∙ (ap (λ s. s.most) c.put.ensures ∙ ap (λ v. v.seats) c.self.view_is),
  ),
)
