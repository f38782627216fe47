use Rattle.sl_host_answers.proofs.WholeAnswersStand.{finished, joined_known}
use Rattle.sl_trace.specs.declared.effects.Purpose.TheVariants.{Joining}
use Rattle.sl_host_state.specs.KeptState.{HostKept, state_of}
use Rattle.sl_host_state.specs.HeardInputs.{heard_answer}
use Rattle.sl_host_answers.specs.WholeAnswers.{joined_on}
use Rattle.sl_delta.specs.OwnSector.{answer_in}
use Rattle.sl_host.specs.HeardAnswers.{is_own_purpose}
use Rattle.std.proofs.Common.{ap, ◌∙◌}
use Rattle.sl_host_answers.proofs.answers.hear_joining.Goals as goal

pub hear_own-requires-clause-own : goal.hear_own-requires-clause-own
hear_own-requires-clause-own c = ap is_own_purpose c.requires.purpose

pub go_on-requires-clause-known : goal.go_on-requires-clause-known
go_on-requires-clause-known c =
    joined_known c.args.host.now.kept c.hear_own.new.self.kept c.args.call.now (answer_in c.args.answer) c.args.job c.args.step c.decide_joining-found.result c.requires.may c.requires.purpose c.hear_own.ensures.state
    c.decide_joining-found.ensures.exact

pub returns-clause-state : goal.returns-clause-state
returns-clause-state c read =
    let k : HostKept = c.args.host.now.kept in
    let a = answer_in c.args.answer in
    let call = c.args.call.now in
    c.go_on.ensures.state read
    ∙ (ap (joined_on c.args.job c.decide_joining-found.result) (c.hear_own.ensures.state read)
    ∙ (ap (λ f. joined_on c.args.job f (heard_answer call.number a (state_of read k))) c.decide_joining-found.ensures.exact ∙ finished read k call a c.requires.may (Joining c.args.job c.args.step) c.requires.purpose))
