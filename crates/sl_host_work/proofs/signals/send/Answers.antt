use Rattle.sl_host_work.proofs.SignalsStand.{sent_kill, sent_same, sent_term}
use Rattle.sl_host_work.proofs.signals.send.Goals as goal

pub returns-in-Term-clause-state : goal.returns-in-Term-clause-state
returns-in-Term-clause-state c = sent_term c.args.host.now c.tell.new.host c.args.process c.args.signal c.in-Term.is c.tell.ensures.state

pub returns-in-Term-clause-stays : goal.returns-in-Term-clause-stays
returns-in-Term-clause-stays c = sent_same c.args.host.now c.tell.new.host c.args.signal c.args.process (sent_term c.args.host.now c.tell.new.host c.args.process c.args.signal c.in-Term.is c.tell.ensures.state)

pub returns-in-Kill-clause-state : goal.returns-in-Kill-clause-state
returns-in-Kill-clause-state c = sent_kill c.args.host.now c.signal.new.self c.args.process c.args.signal c.in-Kill.is c.signal.ensures.state

pub returns-in-Kill-clause-stays : goal.returns-in-Kill-clause-stays
returns-in-Kill-clause-stays c = sent_same c.args.host.now c.signal.new.self c.args.signal c.args.process (sent_kill c.args.host.now c.signal.new.self c.args.process c.args.signal c.in-Kill.is c.signal.ensures.state)
