use Rattle.sl_report.specs.EventLines.{event_forms}
use Rattle.sl_run.specs.declared.event.Event.TheVariants.{AnswerCall, Do, DropWrite, Land, Sample, WakeUp}
use Rattle.sl_schedule.proofs.EventLaws.{pass_made, tear_made}
use Rattle.sl_schedule.proofs.ReadLaws.{made_alone, made_of_none, made_pair, made_pair_and_last, no_words}
use Rattle.sl_schedule.proofs.events.read_early.Goals as goal
use Rattle.sl_schedule.specs.EventReads.{early_forms}
use Rattle.sl_schedule.specs.Reads.{machine_part, number_part, ok_part, positive_part}
use Rattle.sl_text.specs.Walks.{Unread, past_word}
use Rattle.sl_words.specs.Words.{first_of_list}
use Rattle.std.proofs.Common.{ap, codes, refl, sym, ◌∙◌}
use Rattle.std.proofs.lemmas.Result.{IfOk-weaker}

pub returns-in_default : goal.returns-in_default
returns-in_default c = absurd (no_words c.args.line.now (c.in_default.ensures.word ∙ ap (λ (u : Unread). first_of_list u.words) c.new-words.ensures))

pub returns-then-is_verb : goal.returns-then-is_verb
returns-then-is_verb c =
    IfOk-weaker c.read_pass.result _ _ (λ event e. e ∙ pass_made c.args.machines c.args.sector c.args.line.now c.in-Some.verb.now c.next_piece.new.self
    (c.in-Some.ensures.word ∙ ap (λ (u : Unread). first_of_list u.words) c.new-words.ensures) (c.in-Some.ensures.left ∙ ap past_word c.new-words.ensures)
    (sym c.if-is_verb.ensures)) c.read_pass.ensures

pub returns-then-is_verb-2 : goal.returns-then-is_verb-2
unfolding event_forms
returns-then-is_verb-2 c =
    made_alone (early_forms c.args.machines c.args.sector) machine_part (λ a. WakeUp a) c.args.line.now (codes "wake") c.in-Some.verb.now c.next_piece.new.self c.read_wake.result
    (c.in-Some.ensures.word ∙ ap (λ (u : Unread). first_of_list u.words) c.new-words.ensures) (c.in-Some.ensures.left ∙ ap past_word c.new-words.ensures)
    (sym c.if-is_verb-2.ensures) refl c.read_wake.ensures

pub returns-then-is_verb-3 : goal.returns-then-is_verb-3
unfolding event_forms
returns-then-is_verb-3 c =
    made_pair_and_last (early_forms c.args.machines c.args.sector) machine_part number_part positive_part (λ a b c. Sample a b c) c.args.line.now (codes "sample") c.in-Some.verb.now c.next_piece.new.self c.read_sample.result
    (c.in-Some.ensures.word ∙ ap (λ (u : Unread). first_of_list u.words) c.new-words.ensures) (c.in-Some.ensures.left ∙ ap past_word c.new-words.ensures)
    (sym c.if-is_verb-3.ensures) refl c.read_sample.ensures

pub returns-then-is_verb-4 : goal.returns-then-is_verb-4
unfolding event_forms
returns-then-is_verb-4 c =
    made_pair (early_forms c.args.machines c.args.sector) machine_part number_part (λ a b. Land a b) c.args.line.now (codes "land") c.in-Some.verb.now c.next_piece.new.self c.read_land.result
    (c.in-Some.ensures.word ∙ ap (λ (u : Unread). first_of_list u.words) c.new-words.ensures) (c.in-Some.ensures.left ∙ ap past_word c.new-words.ensures)
    (sym c.if-is_verb-4.ensures) refl c.read_land.ensures

pub returns-then-is_verb-5 : goal.returns-then-is_verb-5
returns-then-is_verb-5 c =
    IfOk-weaker c.read_tear.result _ _ (λ event e. e ∙ tear_made c.args.machines c.args.sector c.args.line.now c.in-Some.verb.now c.next_piece.new.self
    (c.in-Some.ensures.word ∙ ap (λ (u : Unread). first_of_list u.words) c.new-words.ensures) (c.in-Some.ensures.left ∙ ap past_word c.new-words.ensures)
    (sym c.if-is_verb-5.ensures)) c.read_tear.ensures

pub returns-then-is_verb-6 : goal.returns-then-is_verb-6
unfolding event_forms
returns-then-is_verb-6 c =
    made_pair_and_last (early_forms c.args.machines c.args.sector) machine_part number_part ok_part (λ a b c. AnswerCall a b c) c.args.line.now (codes "answer") c.in-Some.verb.now c.next_piece.new.self c.read_answer.result
    (c.in-Some.ensures.word ∙ ap (λ (u : Unread). first_of_list u.words) c.new-words.ensures) (c.in-Some.ensures.left ∙ ap past_word c.new-words.ensures)
    (sym c.if-is_verb-6.ensures) refl c.read_answer.ensures

pub returns-then-is_verb-7 : goal.returns-then-is_verb-7
unfolding event_forms
returns-then-is_verb-7 c =
    made_pair (early_forms c.args.machines c.args.sector) machine_part number_part (λ a b. Do a b) c.args.line.now (codes "do") c.in-Some.verb.now c.next_piece.new.self c.read_do.result
    (c.in-Some.ensures.word ∙ ap (λ (u : Unread). first_of_list u.words) c.new-words.ensures) (c.in-Some.ensures.left ∙ ap past_word c.new-words.ensures)
    (sym c.if-is_verb-7.ensures) refl c.read_do.ensures

pub returns-then-is_verb-8 : goal.returns-then-is_verb-8
unfolding event_forms
returns-then-is_verb-8 c =
    made_pair (early_forms c.args.machines c.args.sector) machine_part number_part (λ a b. DropWrite a b) c.args.line.now (codes "drop") c.in-Some.verb.now c.next_piece.new.self c.read_drop.result
    (c.in-Some.ensures.word ∙ ap (λ (u : Unread). first_of_list u.words) c.new-words.ensures) (c.in-Some.ensures.left ∙ ap past_word c.new-words.ensures)
    (sym c.if-is_verb-8.ensures) refl c.read_drop.ensures

pub returns : goal.returns
unfolding event_forms
returns c =
    made_of_none (early_forms c.args.machines c.args.sector) c.args.line.now c.in-Some.verb.now (c.in-Some.ensures.word ∙ ap (λ (u : Unread). first_of_list u.words) c.new-words.ensures)
    (sym c.if-is_verb.ensures, (sym c.if-is_verb.ensures, (sym c.if-is_verb-2.ensures, (sym c.if-is_verb-3.ensures, (sym c.if-is_verb-4.ensures, (sym c.if-is_verb-5.ensures, (sym c.if-is_verb-5.ensures, (sym c.if-is_verb-6.ensures, (sym c.if-is_verb-7.ensures, (sym c.if-is_verb-8.ensures, tt))))))))))
