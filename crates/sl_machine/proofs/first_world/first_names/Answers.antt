use Rattle.sl_world_state.specs.FirstKept.{session_of}
use Rattle.sl_machine.proofs.PlainFilled.{one_more_any, some_made}
use Rattle.sl_machine.proofs.first_world.first_names.Goals as goal
use Rattle.sl_run.specs.declared.header.SessionLine.{SessionLine}
use Rattle.sl_words.specs.Words.{some_is}
use Rattle.std.specs.List.{list_any}
use Rattle.std.proofs.Common.{Option, ap, bytes_eq, option_map, reverse, ◌+◌, ◌∙◌, ◌||◌}

pub loop-place-preserved : goal.loop-place-preserved
loop-place-preserved c =
    λ q.
    let was = list_any (bytes_eq q) (reverse c.loop-place.names.keys) in
    one_more_any (bytes_eq q) (λ m. option_map (λ (s : SessionLine). s.name) (session_of c.args.header.now m)) c.loop-place.place was _ (c.loop-place.invariant q)
    (c.in_ok-add_session.ensures q
    ∙ ap (λ (o : Option SessionLine). some_is (λ s. bytes_eq q s.name) o || was) c.session_of.ensures
    ∙ ap (λ b. b || was) (some_made (bytes_eq q) (λ (s : SessionLine). s.name) (session_of c.args.header.now (c.loop-place.place + 1))))
