use Rattle.sl_command.proofs.LineLaws.{class_written}
use Rattle.sl_command.proofs.effects.push_classes.Goals as goal
use Rattle.sl_trace.specs.EffectTexts.{answer_words, call_words, end_words, grant_words, move_words, sent_words, start_words}
use Rattle.std.proofs.Common.{[], append-nil, sym}

pub returns-clause-ok : goal.returns-clause-ok
returns-clause-ok c =
    let m = c.args.machine in
    let old = c.args.out.now.items in
    let ends = class_written m (λ e. end_words e) _ _ old old _ [] (sym (append-nil old)) c.as_slice.ensures c.in_ok-push_ends.ensures.ok in
    let signals = class_written m (λ s. sent_words s) _ _ old _ _ _ ends c.as_slice-2.ensures c.in_ok-push_signals.ensures.ok in
    let moves = class_written m (λ s. move_words s) _ _ old _ _ _ signals c.as_slice-3.ensures c.in_ok-push_moves.ensures.ok in
    let grants = class_written m (λ g. grant_words g) _ _ old _ _ _ moves c.as_slice-4.ensures c.in_ok-push_grants.ensures.ok in
    let starts = class_written m (λ s. start_words s) _ _ old _ _ _ grants c.as_slice-5.ensures c.in_ok-push_starts.ensures.ok in
    let answers = class_written m (λ a. answer_words a) _ _ old _ _ _ starts c.as_slice-6.ensures c.in_ok-push_answers.ensures.ok in
    class_written m (λ k. call_words k) _ _ old _ _ _ answers c.as_slice-7.ensures c.in_ok-push_calls.ensures.ok
