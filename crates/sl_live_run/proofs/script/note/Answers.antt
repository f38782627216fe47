use Rattle.sl_book.specs.Mails.{LedgerState, PostedState}
use Rattle.sl_live_lines.specs.declared.given_lines.GivenLine.{GivenLine}
use Rattle.sl_live_run.proofs.GivenLaws.{first_more, first_of, given_one, on_all}
use Rattle.sl_live_run.proofs.script.note.Goals as goal
use Rattle.sl_live_run.specs.Runs.{AreFirst, AreGiven, given_by}
use Rattle.sl_reader.specs.declared.live_lines.LiveLine.{LiveLine}
use Rattle.std.proofs.Common.{List, Some, [], ap, arith, subst, sym, ◌++◌, ◌+◌, ◌-◌, ◌∙◌, ◌∷◌, ◌≡◌, ℕ}

noted : (g : _) (c : goal.After-send g) (ls : List LiveLine) (m : ℕ) → AreGiven c.args.ledger.now m ls → AreGiven c.post.new.self m (ls ++ c.args.line.now ∷ [])
noted g c ls m so =
    let says : Some (c.in-Some.machine, c.in-Some.copy) ≡ given_by c.args.line.now = cc (c.in-Some.is, c.in_ok-machine.ensures) in
    let number : c.in-Some.machine ≡ (c.in-Some.machine - 1) + 1 = omega (arith, c.if-machine-eq0.false) in
    given_one c.args.ledger.now c.post.new.self m c.in-Some.machine (c.in-Some.machine - 1) c.in-Some.copy ls c.args.line.now says number
    (ap (λ (l : LedgerState GivenLine). l.places) c.in-Ok.ensures.front)
    (ap (λ (l : LedgerState GivenLine). l.front) c.in-Ok.ensures.front ∙ ap (λ (p : PostedState GivenLine). p.front) c.in-Ok.ensures.posted) so

pub returns-in_err-machine-clause-first : goal.returns-in_err-machine-clause-first
returns-in_err-machine-clause-first g c = λ ls m so. first_more c.args.ledger.now m ls c.args.line.now so

pub returns-in-Ok-clause-given : goal.returns-in-Ok-clause-given
returns-in-Ok-clause-given g c = λ ls m so. on_all c.send.result (noted g c ls m so)

pub returns-in-Ok-clause-first : goal.returns-in-Ok-clause-first
returns-in-Ok-clause-first g c = λ ls m so. first_of c.post.new.self m (ls ++ c.args.line.now ∷ []) (noted g c ls m so)

pub returns-in-Err-clause-first : goal.returns-in-Err-clause-first
returns-in-Err-clause-first g c = λ ls m so.
    subst (λ (l : LedgerState GivenLine). AreFirst l m (ls ++ c.args.line.now ∷ [])) (sym c.in-Err.ensures.broken) (first_more c.args.ledger.now m ls c.args.line.now so)
