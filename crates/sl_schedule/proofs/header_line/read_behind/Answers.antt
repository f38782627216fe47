use Rattle.sl_report.specs.HeaderLines.{GeometryLine, HostsLine, IdsLine, LvmLine, TimeLine, VersionLine, header_forms}
use Rattle.sl_schedule.proofs.HeaderReadLaws.{seen_made}
use Rattle.sl_schedule.proofs.ReadLaws.{made_of_five, made_of_one, made_of_two}
use Rattle.sl_schedule.proofs.header_line.read_behind.Goals as goal
use Rattle.sl_schedule.specs.HeaderReads.{result_seen}
use Rattle.sl_schedule.specs.Reads.{kept_part, number_part, positive_part, version_part, within_part}
use Rattle.std.proofs.Common.{codes, refl, sym, ◌∙◌}

pub returns-then-is_verb-clause-exact : goal.returns-then-is_verb-clause-exact
unfolding header_forms
returns-then-is_verb-clause-exact c = λ line first behind_it.
    seen_made c.read_version.result
    ∙ made_of_one (header_forms c.args.area) version_part (λ paired. VersionLine paired) line (codes "sanlock") c.args.verb.now c.args.words.now (result_seen c.read_version.result) first behind_it (sym c.if-is_verb.ensures) refl
    c.read_version.ensures.exact

pub returns-then-is_verb-2-clause-exact : goal.returns-then-is_verb-2-clause-exact
unfolding header_forms
returns-then-is_verb-2-clause-exact c = λ line first behind_it.
    seen_made c.read_times.result
    ∙ made_of_five (header_forms c.args.area) number_part number_part number_part number_part number_part TimeLine line (codes "time") c.args.verb.now c.args.words.now (result_seen c.read_times.result) first behind_it (sym c.if-is_verb-2.ensures) refl
    c.read_times.ensures.exact

pub returns-then-is_verb-3-clause-exact : goal.returns-then-is_verb-3-clause-exact
unfolding header_forms
returns-then-is_verb-3-clause-exact c = λ line first behind_it.
    seen_made c.read_machines.result
    ∙ made_of_one (header_forms c.args.area) (within_part 1 16) HostsLine line (codes "hosts") c.args.verb.now c.args.words.now (result_seen c.read_machines.result) first behind_it (sym c.if-is_verb-3.ensures) refl
    c.read_machines.ensures.exact

pub returns-then-is_verb-4-clause-exact : goal.returns-then-is_verb-4-clause-exact
unfolding header_forms
returns-then-is_verb-4-clause-exact c = λ line first behind_it.
    seen_made c.read_hosts.result
    ∙ made_of_one (header_forms c.args.area) positive_part IdsLine line (codes "ids") c.args.verb.now c.args.words.now (result_seen c.read_hosts.result) first behind_it (sym c.if-is_verb-4.ensures) refl
    c.read_hosts.ensures.exact

pub returns-then-is_verb-5-clause-exact : goal.returns-then-is_verb-5-clause-exact
unfolding header_forms
returns-then-is_verb-5-clause-exact c = λ line first behind_it.
    seen_made c.read_areas.result
    ∙ made_of_two (header_forms c.args.area) number_part number_part GeometryLine line (codes "geometry") c.args.verb.now c.args.words.now (result_seen c.read_areas.result) first behind_it (sym c.if-is_verb-5.ensures) refl
    c.read_areas.ensures.exact

pub returns-then-is_verb-6-clause-exact : goal.returns-then-is_verb-6-clause-exact
unfolding header_forms
returns-then-is_verb-6-clause-exact c = λ line first behind_it.
    seen_made c.read_retries.result
    ∙ made_of_one (header_forms c.args.area) (kept_part 8) LvmLine line (codes "lvm") c.args.verb.now c.args.words.now (result_seen c.read_retries.result) first behind_it (sym c.if-is_verb-6.ensures) refl
    c.read_retries.ensures.exact

pub returns-clause-exact : goal.returns-clause-exact
returns-clause-exact c = λ line first behind_it.
    c.read_listed.ensures.exact line first behind_it (sym c.if-is_verb.ensures) (sym c.if-is_verb-2.ensures) (sym c.if-is_verb-3.ensures) (sym c.if-is_verb-4.ensures) (sym c.if-is_verb-5.ensures) (sym c.if-is_verb-6.ensures)
