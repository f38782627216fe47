use Rattle.sl_host_lines.proofs.holder_commands.decide_convert.Goals as goal
use Rattle.sl_host_lines.specs.CommandRefusals.{convert_in, converting, first_refusal, refused_or}
use Rattle.sl_due.specs.declared.decision.Decision.{Decision}
use Rattle.sl_host_law.specs.Decisions.CommandDecisions.{with_member, member_refusal, other_at, pending_refused, process_refused, serving_holding}
use Rattle.sl_host_state.specs.KeptState.{HostState, MemberState}
use Rattle.sl_trace.specs.Traces.{is_shared}
use Rattle.sl_trace.specs.declared.command.ResourceArg.{ResourceArg}
use Rattle.sl_trace.specs.declared.effects.Grant.{Grant}
use Rattle.sl_trace.specs.declared.effects.Mode.{Mode}
use Rattle.sl_trace.specs.declared.effects.Spot.{Spot}
use Rattle.sl_trace.specs.declared.reply.Reply.TheVariants.{Busy, NotHeld}
use Rattle.sl_host.specs.BookQuestions.{state_in}
use Rattle.sl_words.specs.Words.{choose}
use Rattle.std.proofs.Common.{Bool, Option, [], ap, is_some, not, option_and_then, true, ◌∙◌, ◌∷◌, ◌≡◌, ℕ}

-- What it comes to at a place where this is held.
abbrev told_at : HostState → MemberState → ResourceArg → ℕ → Mode → Spot → Bool → Option Grant → Decision
told_at h m r p mode a b o =
    refused_or
    (first_refusal (member_refusal m
    ∷ process_refused h p
    ∷ choose (not b) NotHeld
    ∷ option_and_then (λ q. choose (not (is_shared mode)) (Busy q)) (other_at h a p)
    ∷ pending_refused h a ∷ [])) (converting m r mode o)

-- It is what is held there that decides.
held_there : (h : HostState) (m : MemberState) (r : ResourceArg) (p : ℕ) (mode : Mode) (at place : Spot) (b : Bool) (o : Option Grant)
    → b ≡ is_some o → o ≡ serving_holding h m at p (λ g. true) → at ≡ place
    → told_at h m r p mode at b o ≡ told_at h m r p mode place (is_some (serving_holding h m place p (λ g. true))) (serving_holding h m place p (λ g. true))
held_there h m r p mode at place b o is held there =
    ap (λ b. told_at h m r p mode at b o) is
    ∙ (ap (λ o. told_at h m r p mode at (is_some o) o) held
    ∙ ap (λ a. told_at h m r p mode a (is_some (serving_holding h m a p (λ g. true))) (serving_holding h m a p (λ g. true))) there)

pub returns-in-Some-convert_refused : goal.returns-in-Some-convert_refused
returns-in-Some-convert_refused c =
    let h = state_in c.args.host.now.kept in
    let m = c.in-Some.member.now.state in
    ap (λ q. refused_or q (converting m c.args.resource.now c.args.mode c.holding-held.result)) c.in-Some-convert_refused.ensures
    ∙ (held_there h m c.args.resource.now c.args.process c.args.mode c.spot_of-at.result _ c.is_some.result c.holding-held.result c.is_some.ensures c.holding-held.ensures c.spot_of-at.ensures
    ∙ ap (λ o. with_member o (λ k. convert_in h k c.args.resource.now c.args.process c.args.mode)) c.in-Some.ensures.exact)

pub returns : goal.returns
returns c =
    let h = state_in c.args.host.now.kept in
    let m = c.in-Some.member.now.state in
    c.converts_to.ensures
    ∙ (ap (λ q. refused_or q (converting m c.args.resource.now c.args.mode c.holding-held.result)) c.in_default-convert_refused.ensures
    ∙ (held_there h m c.args.resource.now c.args.process c.args.mode c.spot_of-at.result _ c.is_some.result c.holding-held.result c.is_some.ensures c.holding-held.ensures c.spot_of-at.ensures
    ∙ ap (λ o. with_member o (λ k. convert_in h k c.args.resource.now c.args.process c.args.mode)) c.in-Some.ensures.exact))
