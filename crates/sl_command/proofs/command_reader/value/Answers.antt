use Rattle.sl_command.proofs.WordSteps.{ended, not_ended, stopped, went_on}
use Rattle.sl_command.proofs.command_reader.value.Goals as goal
use Rattle.sl_command.specs.VerbReads.{with_value}
use Rattle.sl_text.specs.Forms.{exactly, word_at}
use Rattle.sl_text.specs.Numbers.{hex_bytes, is_hex_word, number_of}
use Rattle.sl_text.specs.Walks.{past_word}
use Rattle.sl_trace.specs.CommandForms.{is_process_word}
use Rattle.std.proofs.Common.{List, [], ap, codes, refl, sym, ℕ, ◌∙◌, ◌∷◌}
use Rattle.std.specs.Prelude.{Ok}

pub returns-in_err-expect : goal.returns-in_err-expect
returns-in_err-expect c =
    let u = c.args.words.now in
    let m0 : List (List ℕ) → ℕ × List ℕ = (λ ws. with_value (number_of (word_at ws 1)) (hex_bytes (word_at ws 3))) in
    stopped (exactly (codes "-p")) (λ _. tt) (is_process_word ∷ exactly (codes "-d") ∷ is_hex_word 2 512 ∷ []) m0 u _ _ _ _ refl c.expect.ensures.exact c.in_err-expect.was c.from_residual.ensures.1

pub returns-in_err-process : goal.returns-in_err-process
returns-in_err-process c =
    let u = c.args.words.now in
    let m0 : List (List ℕ) → ℕ × List ℕ = (λ ws. with_value (number_of (word_at ws 1)) (hex_bytes (word_at ws 3))) in
    let s0 = went_on (exactly (codes "-p")) (λ _. tt) (is_process_word ∷ exactly (codes "-d") ∷ is_hex_word 2 512 ∷ []) m0 u _ _ _ _ refl c.expect.ensures.exact c.in_ok-expect.was c.expect.ensures.left in
    let m1 : List (List ℕ) → ℕ × List ℕ = (λ ws. m0 (word_at u.words 0 ∷ ws)) in
    stopped is_process_word number_of (exactly (codes "-d") ∷ is_hex_word 2 512 ∷ []) m1 (past_word u) _ _ _ _ s0.1 c.process.ensures.exact c.in_err-process.was c.from_residual-in_err-process.ensures.1 ∙ sym (s0.0)

pub returns-in_err-expect-2 : goal.returns-in_err-expect-2
returns-in_err-expect-2 c =
    let u = c.args.words.now in
    let m0 : List (List ℕ) → ℕ × List ℕ = (λ ws. with_value (number_of (word_at ws 1)) (hex_bytes (word_at ws 3))) in
    let s0 = went_on (exactly (codes "-p")) (λ _. tt) (is_process_word ∷ exactly (codes "-d") ∷ is_hex_word 2 512 ∷ []) m0 u _ _ _ _ refl c.expect.ensures.exact c.in_ok-expect.was c.expect.ensures.left in
    let m1 : List (List ℕ) → ℕ × List ℕ = (λ ws. m0 (word_at u.words 0 ∷ ws)) in
    let s1 = went_on is_process_word number_of (exactly (codes "-d") ∷ is_hex_word 2 512 ∷ []) m1 (past_word u) _ _ _ _ s0.1 c.process.ensures.exact c.in_ok-process.was c.process.ensures.left in
    let m2 : List (List ℕ) → ℕ × List ℕ = (λ ws. m1 (word_at (past_word u).words 0 ∷ ws)) in
    stopped (exactly (codes "-d")) (λ _. tt) (is_hex_word 2 512 ∷ []) m2 (past_word (past_word u)) _ _ _ _ s1.1 c.expect-2.ensures.exact c.in_err-expect-2.was c.from_residual-in_err-expect-2.ensures.1 ∙ sym (s0.0 ∙ s1.0)

pub returns-in_err-bytes : goal.returns-in_err-bytes
returns-in_err-bytes c =
    let u = c.args.words.now in
    let m0 : List (List ℕ) → ℕ × List ℕ = (λ ws. with_value (number_of (word_at ws 1)) (hex_bytes (word_at ws 3))) in
    let s0 = went_on (exactly (codes "-p")) (λ _. tt) (is_process_word ∷ exactly (codes "-d") ∷ is_hex_word 2 512 ∷ []) m0 u _ _ _ _ refl c.expect.ensures.exact c.in_ok-expect.was c.expect.ensures.left in
    let m1 : List (List ℕ) → ℕ × List ℕ = (λ ws. m0 (word_at u.words 0 ∷ ws)) in
    let s1 = went_on is_process_word number_of (exactly (codes "-d") ∷ is_hex_word 2 512 ∷ []) m1 (past_word u) _ _ _ _ s0.1 c.process.ensures.exact c.in_ok-process.was c.process.ensures.left in
    let m2 : List (List ℕ) → ℕ × List ℕ = (λ ws. m1 (word_at (past_word u).words 0 ∷ ws)) in
    let s2 = went_on (exactly (codes "-d")) (λ _. tt) (is_hex_word 2 512 ∷ []) m2 (past_word (past_word u)) _ _ _ _ s1.1 c.expect-2.ensures.exact c.in_ok-expect-2.was c.expect-2.ensures.left in
    let m3 : List (List ℕ) → ℕ × List ℕ = (λ ws. m2 (word_at (past_word (past_word u)).words 0 ∷ ws)) in
    stopped (is_hex_word 2 512) hex_bytes ([]) m3 (past_word (past_word (past_word u))) _ _ _ _ s2.1 c.hex.ensures.exact c.in_err-bytes.was c.from_residual-in_err-bytes.ensures.1 ∙ sym (s0.0 ∙ s1.0 ∙ s2.0)

pub returns-in_err-finish : goal.returns-in_err-finish
returns-in_err-finish c =
    let u = c.args.words.now in
    let m0 : List (List ℕ) → ℕ × List ℕ = (λ ws. with_value (number_of (word_at ws 1)) (hex_bytes (word_at ws 3))) in
    let s0 = went_on (exactly (codes "-p")) (λ _. tt) (is_process_word ∷ exactly (codes "-d") ∷ is_hex_word 2 512 ∷ []) m0 u _ _ _ _ refl c.expect.ensures.exact c.in_ok-expect.was c.expect.ensures.left in
    let m1 : List (List ℕ) → ℕ × List ℕ = (λ ws. m0 (word_at u.words 0 ∷ ws)) in
    let s1 = went_on is_process_word number_of (exactly (codes "-d") ∷ is_hex_word 2 512 ∷ []) m1 (past_word u) _ _ _ _ s0.1 c.process.ensures.exact c.in_ok-process.was c.process.ensures.left in
    let m2 : List (List ℕ) → ℕ × List ℕ = (λ ws. m1 (word_at (past_word u).words 0 ∷ ws)) in
    let s2 = went_on (exactly (codes "-d")) (λ _. tt) (is_hex_word 2 512 ∷ []) m2 (past_word (past_word u)) _ _ _ _ s1.1 c.expect-2.ensures.exact c.in_ok-expect-2.was c.expect-2.ensures.left in
    let m3 : List (List ℕ) → ℕ × List ℕ = (λ ws. m2 (word_at (past_word (past_word u)).words 0 ∷ ws)) in
    let s3 = went_on (is_hex_word 2 512) hex_bytes ([]) m3 (past_word (past_word (past_word u))) _ _ _ _ s2.1 c.hex.ensures.exact c.in_ok-bytes.was c.hex.ensures.left in
    let m4 : List (List ℕ) → ℕ × List ℕ = (λ ws. m3 (word_at (past_word (past_word (past_word u))).words 0 ∷ ws)) in
    not_ended m4 (past_word (past_word (past_word (past_word u)))) _ _ _ _ s3.1 c.finish.ensures c.in_err-finish.was c.from_residual-in_err-finish.ensures.1 ∙ sym (s0.0 ∙ s1.0 ∙ s2.0 ∙ s3.0)

pub returns : goal.returns
returns c =
    let u = c.args.words.now in
    let m0 : List (List ℕ) → ℕ × List ℕ = (λ ws. with_value (number_of (word_at ws 1)) (hex_bytes (word_at ws 3))) in
    let s0 = went_on (exactly (codes "-p")) (λ _. tt) (is_process_word ∷ exactly (codes "-d") ∷ is_hex_word 2 512 ∷ []) m0 u _ _ _ _ refl c.expect.ensures.exact c.in_ok-expect.was c.expect.ensures.left in
    let m1 : List (List ℕ) → ℕ × List ℕ = (λ ws. m0 (word_at u.words 0 ∷ ws)) in
    let s1 = went_on is_process_word number_of (exactly (codes "-d") ∷ is_hex_word 2 512 ∷ []) m1 (past_word u) _ _ _ _ s0.1 c.process.ensures.exact c.in_ok-process.was c.process.ensures.left in
    let m2 : List (List ℕ) → ℕ × List ℕ = (λ ws. m1 (word_at (past_word u).words 0 ∷ ws)) in
    let s2 = went_on (exactly (codes "-d")) (λ _. tt) (is_hex_word 2 512 ∷ []) m2 (past_word (past_word u)) _ _ _ _ s1.1 c.expect-2.ensures.exact c.in_ok-expect-2.was c.expect-2.ensures.left in
    let m3 : List (List ℕ) → ℕ × List ℕ = (λ ws. m2 (word_at (past_word (past_word u)).words 0 ∷ ws)) in
    let s3 = went_on (is_hex_word 2 512) hex_bytes ([]) m3 (past_word (past_word (past_word u))) _ _ _ _ s2.1 c.hex.ensures.exact c.in_ok-bytes.was c.hex.ensures.left in
    let m4 : List (List ℕ) → ℕ × List ℕ = (λ ws. m3 (word_at (past_word (past_word (past_word u))).words 0 ∷ ws)) in
    let last = ended m4 (past_word (past_word (past_word (past_word u)))) _ _ _ s3.1 c.finish.ensures c.in_ok-finish.was in
    ap (λ x. Ok (with_value x c.in_ok-bytes.bytes)) (sym s1.2) ∙ ap (λ x. Ok (with_value (number_of (word_at (past_word u).words 0)) x)) (sym s3.2) ∙ sym (s0.0 ∙ s1.0 ∙ s2.0 ∙ s3.0 ∙ last)
