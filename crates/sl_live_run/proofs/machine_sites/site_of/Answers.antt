-- The machine's first session line tells, or there is none.
use Rattle.sl_live_run.proofs.ReadyLaws.{site_drawn, site_told}
use Rattle.sl_live_run.proofs.machine_sites.site_of.Goals as goal
use Rattle.std.proofs.Common.{ap, sym, ◌∙◌}
use Rattle.std.specs.Option.{option_copied}

pub returns-in-Some-clause-ok : goal.returns-in-Some-clause-ok
returns-in-Some-clause-ok g c =
    site_told c.first_site.result c.args.header.now c.args.machine _ c.in-Some.session.now (sym c.session_of.ensures ∙ ap option_copied c.in-Some.is) c.first_site.ensures

pub returns-in-None-clause-ok : goal.returns-in-None-clause-ok
returns-in-None-clause-ok g c =
    site_drawn c.args.header.now c.args.machine _ c.drawn_site.result _ (sym c.session_of.ensures ∙ ap option_copied c.in-None.is) c.drawn_site.ensures
