use Rattle.sl_host_answers.proofs.answers.go_on.Goals as goal

pub answer_joining-requires-clause-known : goal.answer_joining-requires-clause-known
answer_joining-requires-clause-known c = c.requires.known c.in-Some.found c.in-Some.is
