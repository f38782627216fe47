use Rattle.sl_area.specs.AreaSizes.{layout_of}
use Rattle.sl_command.proofs.VerbLaws.{convert_verb, fails, no_middle_verb, program_verb, read_behind, release_verb, request_verb, stays}
use Rattle.sl_command.proofs.command_reader.later_command.Goals as goal
use Rattle.sl_command.specs.VerbReads.{convert_read, program_read, release_read, request_read}
use Rattle.sl_text.specs.Forms.{exactly}
use Rattle.sl_text.specs.Walks.{NoneFits, read_by}
use Rattle.sl_trace.specs.CommandForms.{forms}
use Rattle.std.proofs.Common.{ap, codes, drop, refl, subst, sym, take, ◌∙◌}

-- `release` is next
pub returns-then-skip : goal.returns-then-skip
returns-then-skip c =
    let g = layout_of c.args.geometry.now in
    read_behind (exactly (codes "release")) (read_by (forms g)) (release_read g) (release_verb g) _ _ _ _ _ refl c.skip.ensures.exact c.skip.ensures.left c.if-skip.true c.release.ensures

-- `convert` is next
pub returns-then-skip-2 : goal.returns-then-skip-2
returns-then-skip-2 c =
    let g = layout_of c.args.geometry.now in
    let at2 = stays _ _ _ c.skip.ensures.left c.if-skip.false in
    read_behind (exactly (codes "convert")) (read_by (forms g)) (convert_read g) (convert_verb g) _ _ _ _ _ at2 c.skip-2.ensures.exact c.skip-2.ensures.left c.if-skip-2.true c.convert.ensures

-- `command` is next
pub returns-then-skip-3 : goal.returns-then-skip-3
returns-then-skip-3 c =
    let g = layout_of c.args.geometry.now in
    let at2 = stays _ _ _ c.skip.ensures.left c.if-skip.false in
    let at3 = stays _ _ _ c.skip-2.ensures.left c.if-skip-2.false ∙ at2 in
    read_behind (exactly (codes "command")) (read_by (forms g)) (program_read g) (program_verb g) _ _ _ _ _ at3 c.skip-3.ensures.exact c.skip-3.ensures.left c.if-skip-3.true c.run_program.ensures

-- `request` is next
pub returns-then-skip-4 : goal.returns-then-skip-4
returns-then-skip-4 c =
    let g = layout_of c.args.geometry.now in
    let at2 = stays _ _ _ c.skip.ensures.left c.if-skip.false in
    let at3 = stays _ _ _ c.skip-2.ensures.left c.if-skip-2.false ∙ at2 in
    let at4 = stays _ _ _ c.skip-3.ensures.left c.if-skip-3.false ∙ at3 in
    read_behind (exactly (codes "request")) (read_by (forms g)) (request_read g) (request_verb g) _ _ _ _ _ at4 c.skip-4.ensures.exact c.skip-4.ensures.left c.if-skip-4.true c.request.ensures

-- no verb of a middle form
pub last_command-requires-clause-front : goal.last_command-requires-clause-front
last_command-requires-clause-front c =
    let g = layout_of c.args.geometry.now in
    let at2 = stays _ _ _ c.skip.ensures.left c.if-skip.false in
    let at3 = stays _ _ _ c.skip-2.ensures.left c.if-skip-2.false ∙ at2 in
    let at4 = stays _ _ _ c.skip-3.ensures.left c.if-skip-3.false ∙ at3 in
    let at5 = stays _ _ _ c.skip-4.ensures.left c.if-skip-4.false ∙ at4 in
    subst (λ v. NoneFits v (take 12 (forms g))) (sym at5) c.requires

pub last_command-requires-clause-middle : goal.last_command-requires-clause-middle
last_command-requires-clause-middle c =
    let g = layout_of c.args.geometry.now in
    let u = c.args.words.now in
    let at2 = stays _ _ _ c.skip.ensures.left c.if-skip.false in
    let at3 = stays _ _ _ c.skip-2.ensures.left c.if-skip-2.false ∙ at2 in
    let at4 = stays _ _ _ c.skip-3.ensures.left c.if-skip-3.false ∙ at3 in
    let at5 = stays _ _ _ c.skip-4.ensures.left c.if-skip-4.false ∙ at4 in
    subst (λ v. NoneFits v (take 8 (drop 12 (forms g)))) (sym at5) (no_middle_verb g u
    (fails (exactly (codes "release")) _ u _ refl c.skip.ensures.exact c.if-skip.false)
    (fails (exactly (codes "convert")) _ u _ at2 c.skip-2.ensures.exact c.if-skip-2.false)
    (fails (exactly (codes "command")) _ u _ at3 c.skip-3.ensures.exact c.if-skip-3.false)
    (fails (exactly (codes "request")) _ u _ at4 c.skip-4.ensures.exact c.if-skip-4.false))

pub returns : goal.returns
returns c =
    let g = layout_of c.args.geometry.now in
    let at2 = stays _ _ _ c.skip.ensures.left c.if-skip.false in
    let at3 = stays _ _ _ c.skip-2.ensures.left c.if-skip-2.false ∙ at2 in
    let at4 = stays _ _ _ c.skip-3.ensures.left c.if-skip-3.false ∙ at3 in
    let at5 = stays _ _ _ c.skip-4.ensures.left c.if-skip-4.false ∙ at4 in
    c.last_command.ensures ∙ ap (read_by (forms g)) at5
