use Rattle.sl_report.specs.HeaderLines.{AreaLine, BeginLine, ClockLine, DiskLine, LeaseLine, MemberLine, header_forms}
use Rattle.sl_schedule.proofs.HeaderReadLaws.{seen_made}
use Rattle.sl_schedule.proofs.ReadLaws.{made_behind_verb, made_of_four, made_of_none, made_of_three, made_of_two}
use Rattle.sl_schedule.proofs.header_line.read_listed.Goals as goal
use Rattle.sl_schedule.specs.HeaderReads.{result_seen}
use Rattle.sl_schedule.specs.Reads.{machine_part, multiple_part, name_part, path_part, reading_part, within_part}
use Rattle.std.proofs.Common.{[], codes, refl, sym, ◌∙◌}

pub returns-then-is_verb-clause-exact : goal.returns-then-is_verb-clause-exact
unfolding header_forms
returns-then-is_verb-clause-exact c = λ line first behind_it sanlock time hosts ids geometry lvm.
    seen_made c.read_clock.result
    ∙ made_of_two (header_forms c.args.area) machine_part reading_part (λ m r. ClockLine (record { machine = m; reading = r })) line (codes "clock") c.args.verb.now c.args.words.now (result_seen c.read_clock.result) first behind_it (sym c.if-is_verb.ensures) refl
    c.read_clock.ensures.exact

pub returns-then-is_verb-2-clause-exact : goal.returns-then-is_verb-2-clause-exact
unfolding header_forms
returns-then-is_verb-2-clause-exact c = λ line first behind_it sanlock time hosts ids geometry lvm.
    seen_made c.read_disk.result
    ∙ made_of_two (header_forms c.args.area) path_part (within_part 1 64) (λ p m. DiskLine (record { path = p; mebibytes = m })) line (codes "disk") c.args.verb.now c.args.words.now (result_seen c.read_disk.result) first behind_it (sym c.if-is_verb-2.ensures) refl
    c.read_disk.ensures.exact

pub returns-then-is_verb-3-clause-exact : goal.returns-then-is_verb-3-clause-exact
unfolding header_forms
returns-then-is_verb-3-clause-exact c = λ line first behind_it sanlock time hosts ids geometry lvm.
    seen_made c.read_lockspace.result
    ∙ made_of_three (header_forms c.args.area) name_part path_part (multiple_part c.args.area) (λ n p o. AreaLine (record { name = n; path = p; offset = o })) line (codes "lockspace") c.args.verb.now c.args.words.now (result_seen c.read_lockspace.result) first behind_it (sym c.if-is_verb-3.ensures) refl
    c.read_lockspace.ensures.exact

pub returns-then-is_verb-4-clause-exact : goal.returns-then-is_verb-4-clause-exact
unfolding header_forms
returns-then-is_verb-4-clause-exact c = λ line first behind_it sanlock time hosts ids geometry lvm.
    seen_made c.read_resource.result
    ∙ made_of_four (header_forms c.args.area) name_part name_part path_part (multiple_part c.args.area) (λ l n p o. LeaseLine (record { lockspace = l; name = n; path = p; offset = o })) line (codes "resource") c.args.verb.now c.args.words.now (result_seen c.read_resource.result) first behind_it (sym c.if-is_verb-4.ensures) refl
    c.read_resource.ensures.exact

pub returns-then-is_verb-5-clause-exact : goal.returns-then-is_verb-5-clause-exact
unfolding header_forms
returns-then-is_verb-5-clause-exact c = λ line first behind_it sanlock time hosts ids geometry lvm.
    seen_made c.read_session.result
    ∙ made_of_four (header_forms c.args.area) machine_part name_part (within_part 1 2000) name_part (λ m l i n. MemberLine (record { machine = m; lockspace = l; id = i; name = n })) line (codes "session") c.args.verb.now c.args.words.now (result_seen c.read_session.result) first behind_it (sym c.if-is_verb-5.ensures) refl
    c.read_session.ensures.exact

pub returns-then-is_verb-6-clause-exact : goal.returns-then-is_verb-6-clause-exact
unfolding header_forms
returns-then-is_verb-6-clause-exact c = λ line first behind_it sanlock time hosts ids geometry lvm.
    seen_made c.read_begin.result
    ∙ made_behind_verb (header_forms c.args.area) [] (λ ws. BeginLine) line (codes "begin") c.args.verb.now c.args.words.now (result_seen c.read_begin.result) first behind_it (sym c.if-is_verb-6.ensures) refl
    c.read_begin.ensures.exact

pub returns-clause-exact : goal.returns-clause-exact
unfolding header_forms
returns-clause-exact c = λ line first behind_it sanlock time hosts ids geometry lvm.
    made_of_none (header_forms c.args.area) line c.args.verb.now first
    (sanlock, (time, (hosts, (ids, (geometry, (lvm, (sym c.if-is_verb.ensures, (sym c.if-is_verb-2.ensures, (sym c.if-is_verb-3.ensures, (sym c.if-is_verb-4.ensures, (sym c.if-is_verb-5.ensures, (sym c.if-is_verb-6.ensures, tt))))))))))))
