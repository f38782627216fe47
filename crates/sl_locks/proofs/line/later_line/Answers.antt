use Rattle.sl_command.proofs.VerbLaws.{fails, stays}
use Rattle.sl_locks.proofs.LineLaws.{activate_verb, deactivate_verb, info_verb, no_verb}
use Rattle.sl_locks.proofs.WayLaws.{read_behind}
use Rattle.sl_locks.proofs.line.later_line.Goals as goal
use Rattle.sl_locks.specs.Lines.{deactivate_read, ended_as, later_forms, volume_named, volume_ways, ways_read}
use Rattle.sl_run.specs.LvmLines.{Informs, is_volume_word}
use Rattle.sl_text.specs.Forms.{exactly}
use Rattle.sl_text.specs.Walks.{read_by}
use Rattle.std.proofs.Common.{ap, codes, refl, sym, ◌∙◌}
use Rattle.std.specs.Prelude.{Err}

-- `activate` is next
pub returns-then-skip : goal.returns-then-skip
returns-then-skip c =
    let area = c.args.geometry.now.area in
    read_behind (exactly (codes "activate")) (read_by (later_forms area)) (ways_read is_volume_word volume_named (volume_ways area)) (activate_verb area) _ c.args.words.now c.args.words.now _ _ refl c.skip.ensures.exact c.skip.ensures.left c.if-skip.true c.activate.ensures

-- `deactivate` is next
pub returns-then-skip-2 : goal.returns-then-skip-2
returns-then-skip-2 c =
    let area = c.args.geometry.now.area in
    let at2 = stays _ c.args.words.now _ c.skip.ensures.left c.if-skip.false in
    read_behind (exactly (codes "deactivate")) (read_by (later_forms area)) deactivate_read (deactivate_verb area) _ c.args.words.now c.skip.new.self _ _ at2 c.skip-2.ensures.exact c.skip-2.ensures.left c.if-skip-2.true c.deactivate.ensures

-- `info` is next
pub returns-then-skip-3 : goal.returns-then-skip-3
returns-then-skip-3 c =
    let area = c.args.geometry.now.area in
    let at2 = stays _ c.args.words.now _ c.skip.ensures.left c.if-skip.false in
    let at3 = stays _ c.skip.new.self _ c.skip-2.ensures.left c.if-skip-2.false ∙ at2 in
    read_behind (exactly (codes "info")) (read_by (later_forms area)) (ended_as Informs) (info_verb area) _ c.args.words.now c.skip-2.new.self _ _ at3 c.skip-3.ensures.exact c.skip-3.ensures.left c.if-skip-3.true c.ended.ensures

-- none of them is
pub returns : goal.returns
returns c =
    let area = c.args.geometry.now.area in
    let u = c.args.words.now in
    let at2 = stays _ c.args.words.now _ c.skip.ensures.left c.if-skip.false in
    let at3 = stays _ c.skip.new.self _ c.skip-2.ensures.left c.if-skip-2.false ∙ at2 in
    let at4 = stays _ c.skip-2.new.self _ c.skip-3.ensures.left c.if-skip-3.false ∙ at3 in
    ap (λ k. Err k) (c.column.ensures ∙ ap (λ v. v.column) at4) ∙ sym (no_verb area u
    (fails (exactly (codes "activate")) _ u _ refl c.skip.ensures.exact c.if-skip.false)
    (fails (exactly (codes "deactivate")) _ u _ at2 c.skip-2.ensures.exact c.if-skip-2.false)
    (fails (exactly (codes "info")) _ u _ at3 c.skip-3.ensures.exact c.if-skip-3.false))
