use Rattle.sl_cell.proofs.LeadLaws.{within}
use Rattle.sl_cell.proofs.lead.make.Goals as goal
use Rattle.sl_cell.specs.Histories.{trace_of}
use Rattle.sl_world_state.specs.Daemons.{IsStep, entry_of}
use Rattle.std.proofs.Common.{subst, sym}

pub copy-copy-requires : goal.copy-copy-requires
copy-copy-requires g c =
    let st = g.J.Station.setting in
    let es = trace_of c.args.front.now in
    let stands = c.requires.stands in
    let may = c.requires.may in
    let fx = c.in_ok-effects.effects in
    let most = c.most-most.result in
    let longest = c.longest-longest.result in
    let stays = c.in_ok-effects.ensures.stays st es stands may in
    let sound = subst (λ m. IsStep st m fx) (sym c.most-most.ensures) (c.in_ok-effects.ensures.sound st es stands may) in
    let short = c.longest-longest.ensures st es c.step_ready.new.daemon (entry_of c.args.reading c.args.input fx) stands stays.0 in
    (most, longest, c.in_ok-reserve.ensures, within st most longest fx sound short)
