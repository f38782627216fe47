use Rattle.sl_command.proofs.VerbLaws.{fails, stays}
use Rattle.sl_locks.proofs.WayLaws.{no_volume, read_behind, volume_exclusive, volume_shared}
use Rattle.sl_locks.proofs.line.volume_way.Goals as goal
use Rattle.sl_locks.specs.Lines.{volume_taken, volume_ways}
use Rattle.sl_text.specs.Forms.{exactly}
use Rattle.sl_text.specs.Walks.{read_by}
use Rattle.sl_trace.specs.declared.effects.Mode.TheVariants.{Exclusive, Shared}
use Rattle.std.proofs.Common.{ap, codes, refl, sym, ◌∙◌}
use Rattle.std.specs.Prelude.{Err}

-- `sh` is next
pub returns-then-skip : goal.returns-then-skip
returns-then-skip c =
    let area = c.args.geometry.now.area in
    let v = c.args.named in
    read_behind (exactly (codes "sh")) (read_by (volume_ways area v)) (volume_taken area v Shared) (volume_shared area v) _ c.args.words.now c.args.words.now _ _ refl c.skip.ensures.exact c.skip.ensures.left c.if-skip.true c.volume_mode.ensures

-- `ex` is next
pub returns-then-skip-2 : goal.returns-then-skip-2
returns-then-skip-2 c =
    let area = c.args.geometry.now.area in
    let v = c.args.named in
    let at2 = stays _ c.args.words.now _ c.skip.ensures.left c.if-skip.false in
    read_behind (exactly (codes "ex")) (read_by (volume_ways area v)) (volume_taken area v Exclusive) (volume_exclusive area v) _ c.args.words.now c.skip.new.self _ _ at2 c.skip-2.ensures.exact c.skip-2.ensures.left c.if-skip-2.true c.volume_mode-then-skip-2.ensures

-- none of them is
pub returns : goal.returns
returns c =
    let area = c.args.geometry.now.area in
    let v = c.args.named in
    let u = c.args.words.now in
    let at2 = stays _ c.args.words.now _ c.skip.ensures.left c.if-skip.false in
    let at3 = stays _ c.skip.new.self _ c.skip-2.ensures.left c.if-skip-2.false ∙ at2 in
    ap (λ k. Err k) (c.column.ensures ∙ ap (λ v. v.column) at3) ∙ sym (no_volume area v u
    (fails (exactly (codes "sh")) _ u _ refl c.skip.ensures.exact c.if-skip.false)
    (fails (exactly (codes "ex")) _ u _ at2 c.skip-2.ensures.exact c.if-skip-2.false))
