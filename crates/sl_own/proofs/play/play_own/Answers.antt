use Rattle.sl_live_play.proofs.LivePlayOwed.{good_header}
use Rattle.sl_own.proofs.PlayLaws.{owes_break, owes_nothing, owes_refusal, owes_since}
use Rattle.sl_live_play.specs.declared.play.Lived.TheVariants.{ReadFault}
use Rattle.sl_own.proofs.WatchLaws.{rests_broken, rests_nothing, rests_refused}
use Rattle.sl_own.proofs.play.play_own.Goals as goal
use Rattle.sl_reader.specs.HeaderBegins.{HeaderIsRead}
use Rattle.std.proofs.Common.{ap, subst}
use Rattle.std.specs.Prelude.{Err}

pub returns-in-Err-clause-owes : goal.returns-in-Err-clause-owes
returns-in-Err-clause-owes g c = owes_nothing g.D.Daemon.stands g.D.Daemon.commands _ _ _ _ _ _ _ _ _ _ _ _ _ _

pub returns-in-Err-Failed-clause-owes : goal.returns-in-Err-Failed-clause-owes
returns-in-Err-Failed-clause-owes g c =
    let f = c.in-Err-Failed.ensures.failed (ap (λ e. Err e) c.in-Err-Failed.field-0-is) in
    owes_break g.D.Daemon.stands g.D.Daemon.commands _ _ _ _ _ _ _ _ _ _ _ _ _ _ f.0 f.1

pub returns-in-Err-NoMemory-clause-owes : goal.returns-in-Err-NoMemory-clause-owes
returns-in-Err-NoMemory-clause-owes g c = owes_nothing g.D.Daemon.stands g.D.Daemon.commands _ _ _ _ _ _ _ _ _ _ _ _ _ _

pub returns-in-Ok-Err-clause-owes : goal.returns-in-Ok-Err-clause-owes
returns-in-Ok-Err-clause-owes g c =
    owes_refusal g.D.Daemon.stands g.D.Daemon.commands _ _ _ _ _ _ _ _ _ _ _ _ _ _ _ _ c.read_header.new.reader c.in-Ok-Err.number c.in-Ok-Err.why c.put_refusal-lived.result
    (subst (HeaderIsRead (g.S.Source.left c.args.source) (g.S.Source.left c.read_header.new.source) c.read_header.new.reader) c.in-Ok-Err.field-0-is c.in-Ok-Err.ensures.ok)
    c.put_refusal-lived.ensures

pub play_header-requires-clause-header : goal.play_header-requires-clause-header
play_header-requires-clause-header g c κs within =
    good_header c.in-Ok-Ok.header (g.S.Source.left c.args.source) (g.S.Source.left c.read_header.new.source) c.read_header.new.reader c.requires.headers
    (subst (HeaderIsRead (g.S.Source.left c.args.source) (g.S.Source.left c.read_header.new.source) c.read_header.new.reader) c.in-Ok-Ok.field-0-is c.in-Ok-Ok.ensures.ok)

pub returns-clause-owes : goal.returns-clause-owes
returns-clause-owes g c =
    owes_since g.D.Daemon.stands g.D.Daemon.commands _ _ _ _ _ _ _ _ _ _ _ _ _ _ _ _ _ c.play_header.result.0 c.read_header.ensures.later
    (c.play_header.ensures.owes (g.S.Source.left c.args.source)
    (subst (HeaderIsRead (g.S.Source.left c.args.source) (g.S.Source.left c.read_header.new.source) c.read_header.new.reader) c.in-Ok-Ok.field-0-is c.in-Ok-Ok.ensures.ok))

pub returns-in-Err-clause-rests : goal.returns-in-Err-clause-rests
returns-in-Err-clause-rests g c = rests_nothing g.V.Watchdog.Watchdog.path g.V.Watchdog.Watchdog.rested _ _

pub returns-in-Err-Failed-clause-rests : goal.returns-in-Err-Failed-clause-rests
returns-in-Err-Failed-clause-rests g c = rests_broken g.V.Watchdog.Watchdog.path g.V.Watchdog.Watchdog.rested _ _ ReadFault (λ is. absurd cc)

pub returns-in-Err-NoMemory-clause-rests : goal.returns-in-Err-NoMemory-clause-rests
returns-in-Err-NoMemory-clause-rests g c = rests_nothing g.V.Watchdog.Watchdog.path g.V.Watchdog.Watchdog.rested _ _

pub returns-in-Ok-Err-clause-rests : goal.returns-in-Ok-Err-clause-rests
returns-in-Ok-Err-clause-rests g c = rests_refused g.V.Watchdog.Watchdog.path g.V.Watchdog.Watchdog.rested _ _ _ _ _ _ _ c.put_refusal-lived.result c.put_refusal-lived.ensures
