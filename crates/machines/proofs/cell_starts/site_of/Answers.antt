use Rattle.machines.proofs.BeginLaws.{good_site}
use Rattle.machines.proofs.cell_starts.site_of.Goals as goal
use Rattle.sl_host_step.specs.HostServes.{whole_commands}
use Rattle.std.proofs.Common.{ap, sym, ◌∙◌}
use Rattle.std.specs.Option.{option_copied}

pub returns-in_ok-first_site-in-Some : goal.returns-in_ok-first_site-in-Some
returns-in_ok-first_site-in-Some c =
    good_site whole_commands c.args.header.now 1 c.in-Some.session.now c.in_ok-first_site-in-Some.field-0 c.sites_are_settings.ensures c.requires
    (c.whole_language_may_play.ensures.plays.reads c.args.header.now c.requires) (sym c.session_of.ensures ∙ ap option_copied c.in-Some.is)
    c.in_ok-first_site-in-Some.ensures
