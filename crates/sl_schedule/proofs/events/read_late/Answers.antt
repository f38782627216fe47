use Rattle.sl_report.specs.EventLines.{event_forms}
use Rattle.sl_run.specs.declared.event.Event.TheVariants.{Crash, ExitOf, Reset, Restart, SpawnedOf, StartDaemon, Test}
use Rattle.sl_schedule.proofs.ReadLaws.{made_alone, made_of_none, made_of_two, made_pair, made_pair_and_last, no_words}
use Rattle.sl_schedule.proofs.events.read_late.Goals as goal
use Rattle.sl_schedule.specs.EventReads.{late_forms}
use Rattle.sl_schedule.specs.Reads.{machine_part, name_part, ok_part, process_part}
use Rattle.sl_text.specs.Walks.{Unread, past_word}
use Rattle.sl_words.specs.Words.{first_of_list}
use Rattle.std.proofs.Common.{ap, codes, refl, sym, ◌∙◌}

pub returns-in_err-verb : goal.returns-in_err-verb
returns-in_err-verb c = absurd (no_words c.args.line.now (c.in_err-verb.ensures.word ∙ ap (λ (u : Unread). first_of_list u.words) c.new-words.ensures))

pub returns-then-is_verb : goal.returns-then-is_verb
unfolding event_forms
returns-then-is_verb c = λ machines sector.
    made_alone (late_forms machines sector) machine_part (λ a. Test a) c.args.line.now (codes "test") c.in_ok-verb.verb.now c.next_piece.new.self c.read_test.result
    (c.in_ok-verb.ensures.word ∙ ap (λ (u : Unread). first_of_list u.words) c.new-words.ensures) (c.in_ok-verb.ensures.left ∙ ap past_word c.new-words.ensures)
    (sym c.if-is_verb.ensures) refl c.read_test.ensures

pub returns-then-is_verb-2 : goal.returns-then-is_verb-2
unfolding event_forms
returns-then-is_verb-2 c = λ machines sector.
    made_pair (late_forms machines sector) machine_part process_part (λ a b. ExitOf a b) c.args.line.now (codes "exit") c.in_ok-verb.verb.now c.next_piece.new.self c.read_exit.result
    (c.in_ok-verb.ensures.word ∙ ap (λ (u : Unread). first_of_list u.words) c.new-words.ensures) (c.in_ok-verb.ensures.left ∙ ap past_word c.new-words.ensures)
    (sym c.if-is_verb-2.ensures) refl c.read_exit.ensures

pub returns-then-is_verb-3 : goal.returns-then-is_verb-3
unfolding event_forms
returns-then-is_verb-3 c = λ machines sector.
    made_pair_and_last (late_forms machines sector) machine_part process_part ok_part (λ a b c. SpawnedOf a b c) c.args.line.now (codes "spawned") c.in_ok-verb.verb.now c.next_piece.new.self c.read_spawned.result
    (c.in_ok-verb.ensures.word ∙ ap (λ (u : Unread). first_of_list u.words) c.new-words.ensures) (c.in_ok-verb.ensures.left ∙ ap past_word c.new-words.ensures)
    (sym c.if-is_verb-3.ensures) refl c.read_spawned.ensures

pub returns-then-is_verb-4 : goal.returns-then-is_verb-4
unfolding event_forms
returns-then-is_verb-4 c = λ machines sector.
    c.ok.ensures.value ∙ made_of_two (late_forms machines sector) machine_part name_part (λ a b. StartDaemon a b) c.args.line.now (codes "start") c.in_ok-verb.verb.now c.next_piece.new.self c.read_start.result
    (c.in_ok-verb.ensures.word ∙ ap (λ (u : Unread). first_of_list u.words) c.new-words.ensures) (c.in_ok-verb.ensures.left ∙ ap past_word c.new-words.ensures)
    (sym c.if-is_verb-4.ensures) refl c.read_start.ensures

pub returns-then-is_verb-5 : goal.returns-then-is_verb-5
unfolding event_forms
returns-then-is_verb-5 c = λ machines sector.
    made_alone (late_forms machines sector) machine_part (λ a. Crash a) c.args.line.now (codes "crash") c.in_ok-verb.verb.now c.next_piece.new.self c.read_crash.result
    (c.in_ok-verb.ensures.word ∙ ap (λ (u : Unread). first_of_list u.words) c.new-words.ensures) (c.in_ok-verb.ensures.left ∙ ap past_word c.new-words.ensures)
    (sym c.if-is_verb-5.ensures) refl c.read_crash.ensures

pub returns-then-is_verb-6 : goal.returns-then-is_verb-6
unfolding event_forms
returns-then-is_verb-6 c = λ machines sector.
    made_alone (late_forms machines sector) machine_part (λ a. Reset a) c.args.line.now (codes "reset") c.in_ok-verb.verb.now c.next_piece.new.self c.read_reset.result
    (c.in_ok-verb.ensures.word ∙ ap (λ (u : Unread). first_of_list u.words) c.new-words.ensures) (c.in_ok-verb.ensures.left ∙ ap past_word c.new-words.ensures)
    (sym c.if-is_verb-6.ensures) refl c.read_reset.ensures

pub returns-then-is_verb-7 : goal.returns-then-is_verb-7
unfolding event_forms
returns-then-is_verb-7 c = λ machines sector.
    made_alone (late_forms machines sector) machine_part (λ a. Restart a) c.args.line.now (codes "restart") c.in_ok-verb.verb.now c.next_piece.new.self c.read_restart.result
    (c.in_ok-verb.ensures.word ∙ ap (λ (u : Unread). first_of_list u.words) c.new-words.ensures) (c.in_ok-verb.ensures.left ∙ ap past_word c.new-words.ensures)
    (sym c.if-is_verb-7.ensures) refl c.read_restart.ensures

pub returns : goal.returns
unfolding event_forms
returns c = λ machines sector.
    made_of_none (late_forms machines sector) c.args.line.now c.in_ok-verb.verb.now (c.in_ok-verb.ensures.word ∙ ap (λ (u : Unread). first_of_list u.words) c.new-words.ensures)
    (sym c.if-is_verb.ensures, (sym c.if-is_verb-2.ensures, (sym c.if-is_verb-3.ensures, (sym c.if-is_verb-4.ensures, (sym c.if-is_verb-5.ensures, (sym c.if-is_verb-6.ensures, (sym c.if-is_verb-7.ensures, tt)))))))
