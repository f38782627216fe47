-- A text with fewer than six zeros is no command for lvmlockd's process: its number has six, and each such command has it among its words.
use Rattle.sl_area.specs.AreaSizes.{Layout, layout_of}
use Rattle.sl_command.proofs.CommandLaws.{few_hosts, reads_commands}
use Rattle.sl_run.specs.Headers.{IsHeader}
use Rattle.sl_run.specs.Lvm.{lock_process}
use Rattle.sl_run.specs.Refusals.{is_for_locks}
use Rattle.sl_run.specs.declared.header.Header.{Header}
use Rattle.sl_text.proofs.NumberLaws.{decimal-number_of}
use Rattle.sl_text.specs.Forms.{spaced, word_at}
use Rattle.sl_trace.specs.CommandForms.{command_in, command_words, forms}
use Rattle.sl_trace.specs.declared.command.Command.TheVariants.{Acquire, Convert, GetLvb, Release, SetLvb, TakeOver}
use Rattle.sl_trace.specs.declared.command.Command.{Command}
use Rattle.sl_words.proofs.CaseLaws.{is_false}
use Rattle.std.proofs.Common.{List, [], ap, arith, cond, eqb, false, refl, suc, sym, true, zero, ℕ, ◌++◌, ◌+◌, ◌<◌, ◌^◌, ◌≡◌, ◌≤◌, ◌∷◌}
use Rattle.std.proofs.lemmas.Bool.{eqb-true}
use Rattle.std.proofs.lemmas.List.Sums.{sum_by-append, sum_by-cons}
use Rattle.std.specs.List.{count_by}
use Rattle.std.specs.Prelude.{Err, Ok, Result, codes, decimal}

-- ---- zeros of a text

-- How many a text has.
abbrev zeros : List ℕ → ℕ
zeros text = count_by (λ c. eqb c 48) text

-- Two texts in a row have the zeros of both.
zeros-append : (xs ys : List ℕ) → zeros (xs ++ ys) ≡ zeros xs + zeros ys
zeros-append xs ys = sum_by-append (λ c. cond (eqb c 48) 1 0) xs ys

-- Behind a word and a space stand the zeros of the words there.
zeros_behind : (w : List ℕ) (ws : List (List ℕ)) → zeros (spaced ws) ≤ zeros (spaced (w ∷ ws))
zeros_behind w [] = omega arith
zeros_behind w (v ∷ ws) =
    omega (arith, zeros-append w (32 ∷ spaced (v ∷ ws)), sum_by-cons (λ c. cond (eqb c 48) 1 0) 32 (spaced (v ∷ ws)))

-- In front of them stand those of the word.
zeros_in_front : (w : List ℕ) (ws : List (List ℕ)) → zeros w ≤ zeros (spaced (w ∷ ws))
zeros_in_front w [] = omega arith
zeros_in_front w (v ∷ ws) = omega (arith, zeros-append w (32 ∷ spaced (v ∷ ws)))

-- So no word has more than the words with their spaces.
zeros_of_word : (ws : List (List ℕ)) (k : ℕ) → zeros (word_at ws k) ≤ zeros (spaced ws)
zeros_of_word [] k = omega arith
zeros_of_word (w ∷ ws) zero = zeros_in_front w ws
zeros_of_word (w ∷ ws) (suc k) = omega (arith, zeros_of_word ws k, zeros_behind w ws)

-- ---- zeros of a command for the process

-- The process's number has six.
zeros_of_process : zeros (decimal lock_process) ≡ 6
zeros_of_process = ap zeros (decimal-number_of (codes "1000000") refl (omega arith))

-- It is the fifth word.
fifth_word : (c : Command) → is_for_locks (Ok c) ≡ true → word_at (command_words c) 4 ≡ decimal lock_process
fifth_word (Acquire r shared p persistent) acts = ap decimal (eqb-true p lock_process acts)
fifth_word (TakeOver r shared p persistent) acts = ap decimal (eqb-true p lock_process acts)
fifth_word (Release r p) acts = ap decimal (eqb-true p lock_process acts)
fifth_word (Convert r shared p) acts = ap decimal (eqb-true p lock_process acts)
fifth_word (GetLvb r p) acts = ap decimal (eqb-true p lock_process acts)
fifth_word (SetLvb r p bytes) acts = ap decimal (eqb-true p lock_process acts)
fifth_word c acts = absurd cc

-- So the command's words have as many.
zeros_of_command : (c : Command) → is_for_locks (Ok c) ≡ true → 6 ≤ zeros (spaced (command_words c))
zeros_of_command c acts = omega (arith, ap zeros (fifth_word c acts), zeros_of_process, zeros_of_word (command_words c) 4)

-- So has a text that is read as such a command, since it is those words.
zeros_of_read : (g : Layout) → g.hosts < 2 ^ 64 → (text : List ℕ) (r : Result Command ℕ) → command_in (forms g) text ≡ r → is_for_locks r ≡ true → 6 ≤ zeros text
zeros_of_read g few text (Ok c) reads acts = omega (arith, ap zeros ((reads_commands g few text c).0 reads).1, zeros_of_command c acts)
zeros_of_read g few text (Err column) reads acts = absurd cc

-- So a text with fewer is none.
pub not_for_locks : (h : Header) (text : List ℕ) → IsHeader h → zeros text < 6 → false ≡ is_for_locks (command_in (forms (layout_of h.geometry)) text)
not_for_locks h text header few =
    let g : Layout = layout_of h.geometry in
    sym (is_false _ (λ acts. omega (arith, few, zeros_of_read g (few_hosts h.geometry header.geometry) text (command_in (forms g) text) refl acts)))
