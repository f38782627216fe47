-- The forms of commands and the texts of commands agree.
use Rattle.sl_area.specs.AreaSizes.{IsGeometry, Layout, Sizes}
use Rattle.sl_command.proofs.CommandTexts.{command_of_words}
use Rattle.sl_command.proofs.WrittenCommands.{command_of_text}
use Rattle.sl_command.specs.VerbReads.{answered}
use Rattle.sl_text.proofs.PieceLaws.{join_with_byte-pieces}
use Rattle.sl_text.specs.Forms.{bad_column, made_by, spaced, words_of}
use Rattle.sl_trace.specs.CommandForms.{ReadsCommands, SpellsCommand, command_in, command_or, forms}
use Rattle.sl_trace.specs.declared.command.BadCommand.{BadCommand}
use Rattle.sl_trace.specs.declared.command.Command.{Command}
use Rattle.std.proofs.Common.{None, Option, Some, ap, arith, sym, ℕ, ◌<◌, ◌^◌, ◌≡◌, ◌∙◌}
use Rattle.std.proofs.lemmas.Bool.Decides.{nat_tests}
use Rattle.std.specs.Prelude.{Err, List, Ok, Result, ◌↔◌}

-- What was made, was made by a form.
made_of : (o : Option Command) (column : ℕ) (c : Command) → command_or o column ≡ Ok c → o ≡ Some c
made_of None column c h = absurd cc
made_of (Some d) column c h = let same : d ≡ c = cc in ap (λ x. Some x) same

-- A text is read as a command exactly where it is that command's.
pub reads_commands : (g : Layout) → g.hosts < 2 ^ 64 → ReadsCommands g
reads_commands g few text c = (
  λ h. let said = command_of_words g few (words_of text) c (made_of (made_by (forms g) (words_of text)) (bad_column (forms g) (words_of text)) c h) in
      (said.0, sym (join_with_byte-pieces 32 text) ∙ ap spaced (sym said.1)),
  λ spelled. ap (command_in (forms g)) spelled.1 ∙ command_of_text g few c spelled.0,
)

-- The same of a parser's answer.
answered_as : (r : Result Command ℕ) (c : Command) → (answered r ≡ Ok c) ↔ (r ≡ Ok c)
answered_as (Ok d) c = (λ h. let same : d ≡ c = cc in ap (λ x. Ok x) same, λ h. let same : d ≡ c = cc in ap (λ x. Ok x) same)
answered_as (Err k) c = (λ h. absurd cc, λ h. absurd cc)

pub parsed_as : (g : Layout) → g.hosts < 2 ^ 64 → (text : List ℕ) (r : Result Command BadCommand) → r ≡ answered (command_in (forms g) text)
    → (c : Command) → (r ≡ Ok c) ↔ SpellsCommand g text c
parsed_as g few text r is c =
    let reads = reads_commands g few text c in
    let told = answered_as (command_in (forms g) text) c in
    (λ h. reads.0 (told.0 (sym is ∙ h)), λ spelled. is ∙ told.1 (reads.1 spelled))

-- A run has few hosts.
pub few_hosts : (s : Sizes) → IsGeometry s → s.hosts < 2 ^ 64
few_hosts s h = grind (arith, nat_tests)
