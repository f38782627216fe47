use Rattle.sl_command.proofs.VerbLaws.{fails, stays}
use Rattle.sl_locks.proofs.WayLaws.{global_exclusive, global_given, global_shared, no_global, read_behind}
use Rattle.sl_locks.proofs.line.global_way.Goals as goal
use Rattle.sl_locks.specs.Lines.{ended_as, global_ways}
use Rattle.sl_run.specs.LockNames.{global_lock}
use Rattle.sl_run.specs.LvmLines.{Gives, Takes}
use Rattle.sl_text.specs.Forms.{exactly}
use Rattle.sl_text.specs.Walks.{read_by}
use Rattle.sl_trace.specs.declared.effects.Mode.TheVariants.{Exclusive, Shared}
use Rattle.std.proofs.Common.{ap, codes, refl, sym, ◌∙◌}
use Rattle.std.specs.Prelude.{Err}

-- `sh` is next
pub returns-then-skip : goal.returns-then-skip
returns-then-skip c =
    let g = c.args.group in
    read_behind (exactly (codes "sh")) (read_by (global_ways g)) (ended_as (Takes (global_lock g) Shared)) (global_shared g) _ c.args.words.now c.args.words.now _ _ refl c.skip.ensures.exact c.skip.ensures.left c.if-skip.true (c.ended.ensures ∙ ap (λ l. ended_as (Takes l Shared) c.skip.new.self) c.global_lock-lock.ensures)

-- `ex` is next
pub returns-then-skip-2 : goal.returns-then-skip-2
returns-then-skip-2 c =
    let g = c.args.group in
    let at2 = stays _ c.args.words.now _ c.skip.ensures.left c.if-skip.false in
    read_behind (exactly (codes "ex")) (read_by (global_ways g)) (ended_as (Takes (global_lock g) Exclusive)) (global_exclusive g) _ c.args.words.now c.skip.new.self _ _ at2 c.skip-2.ensures.exact c.skip-2.ensures.left c.if-skip-2.true (c.ended-then-skip-2.ensures ∙ ap (λ l. ended_as (Takes l Exclusive) c.skip-2.new.self) c.global_lock-lock.ensures)

-- `un` is next
pub returns-then-skip-3 : goal.returns-then-skip-3
returns-then-skip-3 c =
    let g = c.args.group in
    let at2 = stays _ c.args.words.now _ c.skip.ensures.left c.if-skip.false in
    let at3 = stays _ c.skip.new.self _ c.skip-2.ensures.left c.if-skip-2.false ∙ at2 in
    read_behind (exactly (codes "un")) (read_by (global_ways g)) (ended_as (Gives (global_lock g))) (global_given g) _ c.args.words.now c.skip-2.new.self _ _ at3 c.skip-3.ensures.exact c.skip-3.ensures.left c.if-skip-3.true (c.ended-then-skip-3.ensures ∙ ap (λ l. ended_as (Gives l) c.skip-3.new.self) c.global_lock-lock.ensures)

-- none of them is
pub returns : goal.returns
returns c =
    let g = c.args.group in
    let u = c.args.words.now in
    let at2 = stays _ c.args.words.now _ c.skip.ensures.left c.if-skip.false in
    let at3 = stays _ c.skip.new.self _ c.skip-2.ensures.left c.if-skip-2.false ∙ at2 in
    let at4 = stays _ c.skip-2.new.self _ c.skip-3.ensures.left c.if-skip-3.false ∙ at3 in
    ap (λ k. Err k) (c.column.ensures ∙ ap (λ v. v.column) at4) ∙ sym (no_global g u
    (fails (exactly (codes "sh")) _ u _ refl c.skip.ensures.exact c.if-skip.false)
    (fails (exactly (codes "ex")) _ u _ at2 c.skip-2.ensures.exact c.if-skip-2.false)
    (fails (exactly (codes "un")) _ u _ at3 c.skip-3.ensures.exact c.if-skip-3.false))
