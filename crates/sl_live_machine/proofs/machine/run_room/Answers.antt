use Rattle.sl_live_machine.proofs.EndLaws.{has_run, if_ok_kept, whole_made}
use Rattle.sl_live_machine.proofs.RunLaws.{serving_seats}
use Rattle.sl_live_machine.proofs.machine.run_room.Goals as goal
use Rattle.sl_live_machine.specs.ThreadSeats.{AreSeats}
use Rattle.std.proofs.Common.{refl, sym, ◌∙◌}

pub close-end-requires-clause-seats : goal.close-end-requires-clause-seats
close-end-requires-clause-seats g c =
    let threaded = c.run_beside-threaded.result.0 in
    if_ok_kept c.print_last-seats.result threaded.seats (λ v. AreSeats g.J.Station.setting v.items) c.print_last-seats.ensures.seats
    (serving_seats g.A.Area.content g.A.Area.faults g.P.Spawner.acts c.args.room.geometry.sector g.J.Station.setting threaded.seats (λ v. v.items) c.args.delta.items
    threaded.delta.items c.args.resource.items threaded.resource.items c.args.starter.spawner threaded.starter c.run_beside-threaded.ensures.seats)

pub returns-clause-goes : goal.returns-clause-goes
returns-clause-goes g c = λ t a so.
    let threaded = c.run_beside-threaded.result.0 in
    let closed = c.close-end.result in
    let p = c.print_last-seats.new.printed.printer in
    has_run g.A.Area.content g.A.Area.faults g.P.Spawner.acts c.args.room.geometry.sector g.D.Daemon.stands g.J.Station.setting t a p c.print_last-seats.result c.args.delta.items
    c.args.resource.items threaded.starter _ c.into_parts-reader.ensures.reader c.into_parts-reader.ensures.writer
    (c.print_last-seats.ensures.seat ∙ c.run_beside-threaded.ensures.seat ∙ so.by ∙ sym (c.print_last-seats.ensures.by ∙ c.run_beside-threaded.ensures.by)) (c.close-end.ensures.goes t a)
    (c.print_last-seats.ensures.goes t a (c.run_beside-threaded.ensures.printer t a so)) c.close-end.ensures.right c.replies-replies.ensures c.len-entries.ensures
    (whole_made g.A.Area.content g.A.Area.faults g.P.Spawner.acts c.args.room.geometry.sector g.J.Station.setting p.mine c.print_last-seats.result threaded.seats (λ v. v.items)
    c.args.delta.items threaded.delta.items c.args.resource.items threaded.resource.items c.args.starter.spawner threaded.starter closed.end c.requires.starter
    c.print_last-seats.ensures.seats c.run_beside-threaded.ensures.seats c.close-end.ensures.counts) c.close-end.ensures.signals c.close-end.ensures.killed refl
