use Rattle.sl_schedule.proofs.ReadLaws.{no_words}
use Rattle.sl_schedule.proofs.header_line.header_line.Goals as goal
use Rattle.sl_schedule.specs.HeaderReads.{header_seen}
use Rattle.sl_text.specs.Walks.{Unread, past_word}
use Rattle.sl_words.specs.Words.{first_of_list}
use Rattle.std.proofs.Common.{ap, ◌∙◌}
use Rattle.std.specs.Option.{option_map}

pub returns-in_err-verb : goal.returns-in_err-verb
returns-in_err-verb c = absurd (no_words c.args.line.now (c.in_err-verb.ensures.word ∙ ap (λ (u : Unread). first_of_list u.words) c.new-words.ensures))

pub returns-clause-exact : goal.returns-clause-exact
returns-clause-exact c =
    ap (option_map header_seen) c.ok.ensures.value
    ∙ c.read_behind.ensures.exact c.args.line.now (c.in_ok-verb.ensures.word ∙ ap (λ (u : Unread). first_of_list u.words) c.new-words.ensures)
    (c.in_ok-verb.ensures.left ∙ ap past_word c.new-words.ensures)
