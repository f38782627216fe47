use Rattle.sl_host_lines.proofs.orphan_commands.decide_take_over.Goals as goal
use Rattle.sl_host_lines.specs.CommandRefusals.{take_over_in, first_refusal, refused_or, taking_over}
use Rattle.sl_due.specs.declared.decision.Decision.{Decision}
use Rattle.sl_host_law.specs.Decisions.CommandDecisions.{with_member, holds_there, member_refusal, orphan_at, pending_refused, process_refused}
use Rattle.sl_host_state.specs.KeptState.{HostState, MemberState}
use Rattle.sl_trace.specs.Traces.{is_shared}
use Rattle.sl_trace.specs.declared.effects.Grant.{Grant}
use Rattle.sl_trace.specs.declared.effects.Spot.{Spot}
use Rattle.sl_trace.specs.declared.reply.Reply.TheVariants.{Busy, NoOrphan}
use Rattle.sl_host.specs.BookQuestions.{state_in}
use Rattle.sl_words.specs.Words.{choose, same_truth}
use Rattle.std.proofs.Common.{Bool, Option, [], ap, is_some, not, option_map, ◌∙◌, ◌∷◌, ◌≡◌, ℕ}

-- What it comes to at a place where this orphan is.
abbrev told_at : HostState → MemberState → ℕ → Spot → Bool → Option Grant → Decision
told_at h m p a b o =
    refused_or
    (first_refusal (member_refusal m
    ∷ process_refused h p
    ∷ choose (not b) NoOrphan
    ∷ option_map (λ q. Busy q) (holds_there h a p)
    ∷ pending_refused h a ∷ [])) (taking_over m o)

-- The orphan of a mode there.
abbrev orphan_in : HostState → MemberState → Bool → Spot → Option Grant
orphan_in h m shared a = orphan_at h m a (λ g. same_truth shared (is_shared g.mode))

-- It is the orphan there that decides.
orphan_there : (h : HostState) (m : MemberState) (p : ℕ) (shared : Bool) (at place : Spot) (b : Bool) (o : Option Grant)
    → b ≡ is_some o → o ≡ orphan_in h m shared at → at ≡ place → told_at h m p at b o ≡ told_at h m p place (is_some (orphan_in h m shared place)) (orphan_in h m shared place)
orphan_there h m p shared at place b o is held there =
    ap (λ b. told_at h m p at b o) is
    ∙ (ap (λ o. told_at h m p at (is_some o) o) held ∙ ap (λ a. told_at h m p a (is_some (orphan_in h m shared a)) (orphan_in h m shared a)) there)

pub returns-in-Some-take_over_refused : goal.returns-in-Some-take_over_refused
returns-in-Some-take_over_refused c =
    let h = state_in c.args.host.now.kept in
    let m = c.in-Some.member.now.state in
    ap (λ q. refused_or q (taking_over m c.orphan_in_mode-held.result)) c.in-Some-take_over_refused.ensures
    ∙ (orphan_there h m c.args.process c.args.shared c.spot_of-at.result _ c.is_some.result c.orphan_in_mode-held.result c.is_some.ensures c.orphan_in_mode-held.ensures c.spot_of-at.ensures
    ∙ ap (λ o. with_member o (λ k. take_over_in h k c.args.resource.now c.args.process c.args.shared)) c.in-Some.ensures.exact)

pub returns : goal.returns
returns c =
    let h = state_in c.args.host.now.kept in
    let m = c.in-Some.member.now.state in
    c.passes_on.ensures
    ∙ (ap (λ q. refused_or q (taking_over m c.orphan_in_mode-held.result)) c.in_default-take_over_refused.ensures
    ∙ (orphan_there h m c.args.process c.args.shared c.spot_of-at.result _ c.is_some.result c.orphan_in_mode-held.result c.is_some.ensures c.orphan_in_mode-held.ensures c.spot_of-at.ensures
    ∙ ap (λ o. with_member o (λ k. take_over_in h k c.args.resource.now c.args.process c.args.shared)) c.in-Some.ensures.exact))
