use Rattle.sl_area.specs.AreaSizes.{layout_of}
use Rattle.sl_command.proofs.VerbLaws.{fails, get_lvb_verb, no_verb, read_behind, set_killpath_verb, set_lvb_verb, status_verb, stays}
use Rattle.sl_command.proofs.command_reader.last_command.Goals as goal
use Rattle.sl_command.specs.VerbReads.{for_process, killpath_read, value_read}
use Rattle.sl_text.specs.Forms.{exactly}
use Rattle.sl_text.specs.Walks.{at_end, read_by}
use Rattle.sl_trace.specs.CommandForms.{forms}
use Rattle.sl_trace.specs.declared.command.Command.TheVariants.{GetLvb, Status}
use Rattle.sl_words.specs.Results.{◌>>=◌}
use Rattle.std.proofs.Common.{ap, codes, refl, sym, ◌∙◌}
use Rattle.std.specs.Prelude.{Err, Ok}

-- `get_lvb` is next
pub returns-then-skip : goal.returns-then-skip
returns-then-skip c =
    let g = layout_of c.args.geometry.now in
    read_behind (exactly (codes "get_lvb")) (read_by (forms g)) (for_process g (λ r p. GetLvb r p)) (get_lvb_verb g) _ _ _ _ _ refl c.skip.ensures.exact c.skip.ensures.left c.if-skip.true c.get_lvb.ensures

-- `set_lvb` is next
pub returns-then-skip-2 : goal.returns-then-skip-2
returns-then-skip-2 c =
    let g = layout_of c.args.geometry.now in
    let at2 = stays _ _ _ c.skip.ensures.left c.if-skip.false in
    read_behind (exactly (codes "set_lvb")) (read_by (forms g)) (value_read g) (set_lvb_verb g) _ _ _ _ _ at2 c.skip-2.ensures.exact c.skip-2.ensures.left c.if-skip-2.true c.set_lvb.ensures

-- `set_killpath` is next
pub returns-then-skip-3 : goal.returns-then-skip-3
returns-then-skip-3 c =
    let g = layout_of c.args.geometry.now in
    let at2 = stays _ _ _ c.skip.ensures.left c.if-skip.false in
    let at3 = stays _ _ _ c.skip-2.ensures.left c.if-skip-2.false ∙ at2 in
    read_behind (exactly (codes "set_killpath")) (read_by (forms g)) (killpath_read) (set_killpath_verb g) _ _ _ _ _ at3 c.skip-3.ensures.exact c.skip-3.ensures.left c.if-skip-3.true c.set_killpath.ensures

-- `status` is next
pub returns-then-skip-4 : goal.returns-then-skip-4
returns-then-skip-4 c =
    let g = layout_of c.args.geometry.now in
    let at2 = stays _ _ _ c.skip.ensures.left c.if-skip.false in
    let at3 = stays _ _ _ c.skip-2.ensures.left c.if-skip-2.false ∙ at2 in
    let at4 = stays _ _ _ c.skip-3.ensures.left c.if-skip-3.false ∙ at3 in
    read_behind (exactly (codes "status")) (read_by (forms g)) (λ u. at_end u >>= λ _. Ok Status) (status_verb g) _ _ _ _ _ at4 c.skip-4.ensures.exact c.skip-4.ensures.left c.if-skip-4.true c.status.ensures

-- no verb
pub returns : goal.returns
returns c =
    let g = layout_of c.args.geometry.now in
    let u = c.args.words.now in
    let at2 = stays _ _ _ c.skip.ensures.left c.if-skip.false in
    let at3 = stays _ _ _ c.skip-2.ensures.left c.if-skip-2.false ∙ at2 in
    let at4 = stays _ _ _ c.skip-3.ensures.left c.if-skip-3.false ∙ at3 in
    let at5 = stays _ _ _ c.skip-4.ensures.left c.if-skip-4.false ∙ at4 in
    ap (λ k. Err k) (c.column.ensures ∙ ap (λ v. v.column) at5) ∙ sym (no_verb g u c.requires.front c.requires.middle
    (fails (exactly (codes "get_lvb")) _ u _ refl c.skip.ensures.exact c.if-skip.false)
    (fails (exactly (codes "set_lvb")) _ u _ at2 c.skip-2.ensures.exact c.if-skip-2.false)
    (fails (exactly (codes "set_killpath")) _ u _ at3 c.skip-3.ensures.exact c.if-skip-3.false)
    (fails (exactly (codes "status")) _ u _ at4 c.skip-4.ensures.exact c.if-skip-4.false))
