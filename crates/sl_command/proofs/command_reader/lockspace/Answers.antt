use Rattle.sl_area.specs.AreaSizes.{layout_of}
use Rattle.sl_command.proofs.WordSteps.{ended, not_ended, stopped, went_on}
use Rattle.sl_command.proofs.command_reader.lockspace.Goals as goal
use Rattle.sl_text.specs.Forms.{exactly, word_at}
use Rattle.sl_text.specs.Walks.{past_word}
use Rattle.sl_trace.specs.CommandForms.{is_lockspace_word, lockspace_of_word}
use Rattle.sl_trace.specs.declared.command.LockspaceArg.{LockspaceArg}
use Rattle.std.proofs.Common.{List, [], ap, codes, refl, sym, ℕ, ◌∙◌, ◌∷◌}
use Rattle.std.specs.Prelude.{Ok}

pub returns-in_err-expect : goal.returns-in_err-expect
returns-in_err-expect c =
    let u = c.args.words.now in
    let g = layout_of c.args.geometry.now in
    let m0 : List (List ℕ) → LockspaceArg = (λ ws. lockspace_of_word (word_at ws 1)) in
    stopped (exactly (codes "-s")) (λ _. tt) (is_lockspace_word g ∷ []) m0 u _ _ _ _ refl c.expect.ensures.exact c.in_err-expect.was c.from_residual.ensures.1

pub returns-in_err-lockspace : goal.returns-in_err-lockspace
returns-in_err-lockspace c =
    let u = c.args.words.now in
    let g = layout_of c.args.geometry.now in
    let m0 : List (List ℕ) → LockspaceArg = (λ ws. lockspace_of_word (word_at ws 1)) in
    let s0 = went_on (exactly (codes "-s")) (λ _. tt) (is_lockspace_word g ∷ []) m0 u _ _ _ _ refl c.expect.ensures.exact c.in_ok-expect.was c.expect.ensures.left in
    let m1 : List (List ℕ) → LockspaceArg = (λ ws. m0 (word_at u.words 0 ∷ ws)) in
    stopped (is_lockspace_word g) lockspace_of_word ([]) m1 (past_word u) _ _ _ _ s0.1 c.lockspace.ensures.exact c.in_err-lockspace.was c.from_residual-in_err-lockspace.ensures.1 ∙ sym (s0.0)

pub returns-in_err-finish : goal.returns-in_err-finish
returns-in_err-finish c =
    let u = c.args.words.now in
    let g = layout_of c.args.geometry.now in
    let m0 : List (List ℕ) → LockspaceArg = (λ ws. lockspace_of_word (word_at ws 1)) in
    let s0 = went_on (exactly (codes "-s")) (λ _. tt) (is_lockspace_word g ∷ []) m0 u _ _ _ _ refl c.expect.ensures.exact c.in_ok-expect.was c.expect.ensures.left in
    let m1 : List (List ℕ) → LockspaceArg = (λ ws. m0 (word_at u.words 0 ∷ ws)) in
    let s1 = went_on (is_lockspace_word g) lockspace_of_word ([]) m1 (past_word u) _ _ _ _ s0.1 c.lockspace.ensures.exact c.in_ok-lockspace.was c.lockspace.ensures.left in
    let m2 : List (List ℕ) → LockspaceArg = (λ ws. m1 (word_at (past_word u).words 0 ∷ ws)) in
    not_ended m2 (past_word (past_word u)) _ _ _ _ s1.1 c.finish.ensures c.in_err-finish.was c.from_residual-in_err-finish.ensures.1 ∙ sym (s0.0 ∙ s1.0)

pub returns : goal.returns
returns c =
    let u = c.args.words.now in
    let g = layout_of c.args.geometry.now in
    let m0 : List (List ℕ) → LockspaceArg = (λ ws. lockspace_of_word (word_at ws 1)) in
    let s0 = went_on (exactly (codes "-s")) (λ _. tt) (is_lockspace_word g ∷ []) m0 u _ _ _ _ refl c.expect.ensures.exact c.in_ok-expect.was c.expect.ensures.left in
    let m1 : List (List ℕ) → LockspaceArg = (λ ws. m0 (word_at u.words 0 ∷ ws)) in
    let s1 = went_on (is_lockspace_word g) lockspace_of_word ([]) m1 (past_word u) _ _ _ _ s0.1 c.lockspace.ensures.exact c.in_ok-lockspace.was c.lockspace.ensures.left in
    let m2 : List (List ℕ) → LockspaceArg = (λ ws. m1 (word_at (past_word u).words 0 ∷ ws)) in
    let last = ended m2 (past_word (past_word u)) _ _ _ s1.1 c.finish.ensures c.in_ok-finish.was in
    ap (λ x. Ok x) (sym s1.2) ∙ sym (s0.0 ∙ s1.0 ∙ last)
