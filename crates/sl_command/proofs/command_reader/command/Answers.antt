use Rattle.sl_area.specs.AreaSizes.{layout_of}
use Rattle.sl_command.proofs.VerbLaws.{acquire_verb, add_lockspace_verb, fails, host_status_verb, inq_lockspace_verb, no_first_verb, read_behind, rem_lockspace_verb, stays}
use Rattle.sl_command.proofs.command_reader.command.Goals as goal
use Rattle.sl_command.specs.VerbReads.{acquire_read, lockspace_behind}
use Rattle.sl_text.specs.Forms.{exactly}
use Rattle.sl_text.specs.Walks.{NoneFits, read_by}
use Rattle.sl_trace.specs.CommandForms.{forms}
use Rattle.sl_trace.specs.declared.command.Command.TheVariants.{AddLockspace, HostStatus, InqLockspace, RemLockspace}
use Rattle.sl_words.specs.Results.{◌>>=◌}
use Rattle.std.proofs.Common.{ap, codes, refl, subst, sym, take, ◌∙◌}
use Rattle.std.specs.Prelude.{Ok}

-- `acquire` is next
pub returns-then-skip : goal.returns-then-skip
returns-then-skip c =
    let g = layout_of c.args.geometry.now in
    read_behind (exactly (codes "acquire")) (read_by (forms g)) (acquire_read g) (acquire_verb g) _ _ _ _ _ refl c.skip.ensures.exact c.skip.ensures.left c.if-skip.true c.acquire.ensures

-- `add_lockspace` is next
pub returns-then-skip-2 : goal.returns-then-skip-2
returns-then-skip-2 c =
    let g = layout_of c.args.geometry.now in
    let at2 = stays _ _ _ c.skip.ensures.left c.if-skip.false in
    read_behind (exactly (codes "add_lockspace")) (read_by (forms g)) (λ u. lockspace_behind g u >>= λ a. Ok (AddLockspace a)) (add_lockspace_verb g) _ _ _ _ _ at2 c.skip-2.ensures.exact c.skip-2.ensures.left c.if-skip-2.true c.add_lockspace.ensures

-- `rem_lockspace` is next
pub returns-then-skip-3 : goal.returns-then-skip-3
returns-then-skip-3 c =
    let g = layout_of c.args.geometry.now in
    let at2 = stays _ _ _ c.skip.ensures.left c.if-skip.false in
    let at3 = stays _ _ _ c.skip-2.ensures.left c.if-skip-2.false ∙ at2 in
    read_behind (exactly (codes "rem_lockspace")) (read_by (forms g)) (λ u. lockspace_behind g u >>= λ a. Ok (RemLockspace a)) (rem_lockspace_verb g) _ _ _ _ _ at3 c.skip-3.ensures.exact c.skip-3.ensures.left c.if-skip-3.true c.rem_lockspace.ensures

-- `inq_lockspace` is next
pub returns-then-skip-4 : goal.returns-then-skip-4
returns-then-skip-4 c =
    let g = layout_of c.args.geometry.now in
    let at2 = stays _ _ _ c.skip.ensures.left c.if-skip.false in
    let at3 = stays _ _ _ c.skip-2.ensures.left c.if-skip-2.false ∙ at2 in
    let at4 = stays _ _ _ c.skip-3.ensures.left c.if-skip-3.false ∙ at3 in
    read_behind (exactly (codes "inq_lockspace")) (read_by (forms g)) (λ u. lockspace_behind g u >>= λ a. Ok (InqLockspace a)) (inq_lockspace_verb g) _ _ _ _ _ at4 c.skip-4.ensures.exact c.skip-4.ensures.left c.if-skip-4.true c.inq_lockspace.ensures

-- `host_status` is next
pub returns-then-skip-5 : goal.returns-then-skip-5
returns-then-skip-5 c =
    let g = layout_of c.args.geometry.now in
    let at2 = stays _ _ _ c.skip.ensures.left c.if-skip.false in
    let at3 = stays _ _ _ c.skip-2.ensures.left c.if-skip-2.false ∙ at2 in
    let at4 = stays _ _ _ c.skip-3.ensures.left c.if-skip-3.false ∙ at3 in
    let at5 = stays _ _ _ c.skip-4.ensures.left c.if-skip-4.false ∙ at4 in
    read_behind (exactly (codes "host_status")) (read_by (forms g)) (λ u. lockspace_behind g u >>= λ a. Ok (HostStatus a)) (host_status_verb g) _ _ _ _ _ at5 c.skip-5.ensures.exact c.skip-5.ensures.left c.if-skip-5.true c.host_status.ensures

-- no verb of a first form
pub later_command-requires : goal.later_command-requires
later_command-requires c =
    let g = layout_of c.args.geometry.now in
    let u = c.args.words.now in
    let at2 = stays _ _ _ c.skip.ensures.left c.if-skip.false in
    let at3 = stays _ _ _ c.skip-2.ensures.left c.if-skip-2.false ∙ at2 in
    let at4 = stays _ _ _ c.skip-3.ensures.left c.if-skip-3.false ∙ at3 in
    let at5 = stays _ _ _ c.skip-4.ensures.left c.if-skip-4.false ∙ at4 in
    let at6 = stays _ _ _ c.skip-5.ensures.left c.if-skip-5.false ∙ at5 in
    subst (λ v. NoneFits v (take 12 (forms g))) (sym at6) (no_first_verb g u
    (fails (exactly (codes "acquire")) _ u _ refl c.skip.ensures.exact c.if-skip.false)
    (fails (exactly (codes "add_lockspace")) _ u _ at2 c.skip-2.ensures.exact c.if-skip-2.false)
    (fails (exactly (codes "rem_lockspace")) _ u _ at3 c.skip-3.ensures.exact c.if-skip-3.false)
    (fails (exactly (codes "inq_lockspace")) _ u _ at4 c.skip-4.ensures.exact c.if-skip-4.false)
    (fails (exactly (codes "host_status")) _ u _ at5 c.skip-5.ensures.exact c.if-skip-5.false))

pub returns : goal.returns
returns c =
    let g = layout_of c.args.geometry.now in
    let at2 = stays _ _ _ c.skip.ensures.left c.if-skip.false in
    let at3 = stays _ _ _ c.skip-2.ensures.left c.if-skip-2.false ∙ at2 in
    let at4 = stays _ _ _ c.skip-3.ensures.left c.if-skip-3.false ∙ at3 in
    let at5 = stays _ _ _ c.skip-4.ensures.left c.if-skip-4.false ∙ at4 in
    let at6 = stays _ _ _ c.skip-5.ensures.left c.if-skip-5.false ∙ at5 in
    c.later_command.ensures ∙ ap (read_by (forms g)) at6
