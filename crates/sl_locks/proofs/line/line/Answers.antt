use Rattle.sl_command.proofs.VerbLaws.{fails, stays}
use Rattle.sl_locks.proofs.LineLaws.{global_verb, group_verb, later_verb, start_verb, stop_verb}
use Rattle.sl_locks.proofs.WayLaws.{read_behind}
use Rattle.sl_locks.proofs.line.line.Goals as goal
use Rattle.sl_locks.specs.Lines.{global_ways, group_ways, later_forms, start_read, stop_read, ways_read}
use Rattle.sl_run.specs.LockNames.{is_group_name}
use Rattle.sl_run.specs.LvmLines.{lvm_forms}
use Rattle.sl_text.specs.Forms.{exactly}
use Rattle.sl_text.specs.Walks.{read_by}
use Rattle.std.proofs.Common.{ap, codes, refl, sym, ◌∙◌}

-- `lock_start` is next
pub returns-then-skip : goal.returns-then-skip
returns-then-skip c =
    let area = c.args.geometry.now.area in
    read_behind (exactly (codes "lock_start")) (read_by (lvm_forms area)) start_read (start_verb area) _ c.args.words.now c.args.words.now _ _ refl c.skip.ensures.exact c.skip.ensures.left c.if-skip.true c.start.ensures

-- `lock_stop` is next
pub returns-then-skip-2 : goal.returns-then-skip-2
returns-then-skip-2 c =
    let area = c.args.geometry.now.area in
    let at2 = stays _ c.args.words.now _ c.skip.ensures.left c.if-skip.false in
    read_behind (exactly (codes "lock_stop")) (read_by (lvm_forms area)) stop_read (stop_verb area) _ c.args.words.now c.skip.new.self _ _ at2 c.skip-2.ensures.exact c.skip-2.ensures.left c.if-skip-2.true c.stop.ensures

-- `lock_gl` is next
pub returns-then-skip-3 : goal.returns-then-skip-3
returns-then-skip-3 c =
    let area = c.args.geometry.now.area in
    let at2 = stays _ c.args.words.now _ c.skip.ensures.left c.if-skip.false in
    let at3 = stays _ c.skip.new.self _ c.skip-2.ensures.left c.if-skip-2.false ∙ at2 in
    read_behind (exactly (codes "lock_gl")) (read_by (lvm_forms area)) (ways_read is_group_name (λ w. w) global_ways) (global_verb area) _ c.args.words.now c.skip-2.new.self _ _ at3 c.skip-3.ensures.exact c.skip-3.ensures.left c.if-skip-3.true c.lock_global.ensures

-- `lock_vg` is next
pub returns-then-skip-4 : goal.returns-then-skip-4
returns-then-skip-4 c =
    let area = c.args.geometry.now.area in
    let at2 = stays _ c.args.words.now _ c.skip.ensures.left c.if-skip.false in
    let at3 = stays _ c.skip.new.self _ c.skip-2.ensures.left c.if-skip-2.false ∙ at2 in
    let at4 = stays _ c.skip-2.new.self _ c.skip-3.ensures.left c.if-skip-3.false ∙ at3 in
    read_behind (exactly (codes "lock_vg")) (read_by (lvm_forms area)) (ways_read is_group_name (λ w. w) group_ways) (group_verb area) _ c.args.words.now c.skip-3.new.self _ _ at4 c.skip-4.ensures.exact c.skip-4.ensures.left c.if-skip-4.true c.lock_group.ensures

-- none of them is
pub returns : goal.returns
returns c =
    let area = c.args.geometry.now.area in
    let u = c.args.words.now in
    let at2 = stays _ c.args.words.now _ c.skip.ensures.left c.if-skip.false in
    let at3 = stays _ c.skip.new.self _ c.skip-2.ensures.left c.if-skip-2.false ∙ at2 in
    let at4 = stays _ c.skip-2.new.self _ c.skip-3.ensures.left c.if-skip-3.false ∙ at3 in
    let at5 = stays _ c.skip-3.new.self _ c.skip-4.ensures.left c.if-skip-4.false ∙ at4 in
    c.later_line.ensures ∙ ap (read_by (later_forms area)) at5 ∙ sym (later_verb area u
    (fails (exactly (codes "lock_start")) _ u _ refl c.skip.ensures.exact c.if-skip.false)
    (fails (exactly (codes "lock_stop")) _ u _ at2 c.skip-2.ensures.exact c.if-skip-2.false)
    (fails (exactly (codes "lock_gl")) _ u _ at3 c.skip-3.ensures.exact c.if-skip-3.false)
    (fails (exactly (codes "lock_vg")) _ u _ at4 c.skip-4.ensures.exact c.if-skip-4.false))
